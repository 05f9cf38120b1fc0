-- Which lists of cells slots have that are new, or stand behind older ones.
use Rattle.std.proofs.Common.{◌≡◌, ◌<◌, ◌≤◌, ◌+◌, ◌∙◌, ◌==◌, ◌&&◌, ◌++◌, not, ℕ, zero, suc, Bool, true, false, cond}
use Rattle.std.proofs.Common.{List, [], ◌∷◌, length, get_or, refl, ap, sym, subst, arith}
use Rattle.std.proofs.lemmas.List.{length-map, map-append}
use Rattle.std.proofs.lemmas.List.Elements.{All-append, All-cons, All-head, All-map, All-nil, All-tail, All-weaker}
use Rattle.std.proofs.lemmas.List.Sums.{sum_by-append}
use Rattle.std.specs.Prelude.{nat_lt}
use Rattle.std.specs.List.{All}
use Rattle.std.proofs.lemmas.Bool.Decides.{nat_tests}
use Rattle.iox2_contents.specs.CellLists.{keeps}
use Rattle.iox2_contents.specs.SlotContents.{AddsSlots, ContentState, lists_for, open_count}
use Rattle.iox2_contents.specs.SlotPayload.{lies_in_place}
use Rattle.iox2_contents.specs.SlotStates.{IsNew, SlotState, content_of, contents_of}
use Rattle.iox2_contents.specs.SlotRooms.{HasLists, ListsCells, ShowsAtMost, one_if_long, long_count}
use Rattle.iox2_contents.proofs.SlotSums.{zero-sum}
use Rattle.iox2_contents.proofs.OpenSlots.{and-false, one_if_open, not-open, never-open, shown-lists}

all-shown : (k n m : ℕ) → cond {A = ℕ} (nat_lt 0 k) m 0 ≡ n → 0 < n → n ≡ m
all-shown k n m are more = grind (arith, nat_tests)

shown-alike : (k n m : ℕ) → cond {A = ℕ} (nat_lt 0 k) m 0 ≡ n
    → cond {A = ℕ} (nat_lt 0 k) n 0 ≡ cond {A = ℕ} (nat_lt 0 k) m 0
shown-alike k n m are = grind (arith, nat_tests)

-- lists of which there are some are kept
kept-some : (n : ℕ) → 0 < keeps n → 0 < n
kept-some n some = grind (arith, nat_tests)

kept-shown : (n : ℕ) → cond {A = ℕ} (nat_lt 0 (keeps n)) n 0 ≡ n
kept-shown n = grind (arith, nat_tests)

kept-alike : (n m : ℕ) → (0 < n → n ≡ m) → cond {A = ℕ} (nat_lt 0 (keeps n)) m 0 ≡ n
kept-alike n m alike = grind (arith, nat_tests)

module _ {T U : Type 0} where
  none-open : (m : ℕ) (xs : List (SlotState T U)) → All (λ s. s.content.cells ≡ []) xs
      → open_count (contents_of m xs) ≡ 0
  none-open m xs none =
      zero-sum one_if_open (contents_of m xs) (All-map (λ (c : ContentState T U). one_if_open c ≡ 0) (content_of m) xs
      (All-weaker (λ (s : SlotState T U). s.content.cells ≡ []) (λ s. one_if_open (content_of m s) ≡ 0)
      (λ s e. not-open (content_of m s) e) xs none))

  without-lists : (m : ℕ) (xs : List (SlotState T U)) → All (λ s. (content_of m s).lists ≡ 0) xs
      → open_count (contents_of m xs) ≡ 0
  without-lists m xs none =
      zero-sum one_if_open (contents_of m xs) (All-map (λ (c : ContentState T U). one_if_open c ≡ 0) (content_of m) xs
      (All-weaker (λ (s : SlotState T U). (content_of m s).lists ≡ 0) (λ s. one_if_open (content_of m s) ≡ 0)
      (λ s e. never-open (content_of m s) e) xs none))

  -- slots that show some lists show those of their publisher
  pub first-alike : (n m : ℕ) (xs : List (SlotState T U)) → 0 < length xs → All (λ s. (content_of m s).lists ≡ n) xs
      → 0 < n → n ≡ m
  first-alike n m [] some are more = absurd (omega (arith, some))
  first-alike n m (x ∷ xs) some are more =
      all-shown x.content.lists n m (All-head (λ s. (content_of m s).lists ≡ n) x xs are) more

  -- so they show the same where their publisher keeps as many as they show
  pub same-shown : (n m : ℕ) (xs : List (SlotState T U)) → All (λ s. (content_of m s).lists ≡ n) xs
      → contents_of n xs ≡ contents_of m xs
  same-shown n m [] are = refl
  same-shown n m (x ∷ xs) are =
      let lists = shown-alike x.content.lists n m (All-head (λ s. (content_of m s).lists ≡ n) x xs are) in
      let here : content_of n x ≡ content_of m x = ap (λ k. record x.content { lists = k }) lists in
      rw (here, same-shown n m xs (All-tail (λ s. (content_of m s).lists ≡ n) x xs are)) refl

  shows-more : (most more : ℕ) → most ≤ more → (s : SlotState T U) → ShowsAtMost most s → ShowsAtMost more s
  shows-more most more less s shows = (
    λ some. let was = shows.0 some in (omega (arith, was.0, less), omega (arith, was.1, less)),
    λ away. let was = shows.1 away in omega (arith, was, less),
  )

  module _ (d : U → Type 0) (room : ℕ) (in_lists : Bool) (n : ℕ) (none : in_lists ≡ false → n ≡ 0) (most : ℕ)
      (fits : 0 < n → room ≤ most) (first : lies_in_place room in_lists ≡ false → 0 < most) where
    new-shows : (s : SlotState T U) → IsNew d room in_lists n s → ShowsAtMost most s
    new-shows s new = (
      λ some.
          let listed : 0 < n = kept-some n (subst (λ m. 0 < m) new.lists_are some) in
          (rw new.rooms (fits listed), by in_lists refl listed),
      λ away. first (sym new.in_place ∙ away),
    ) where
      by : (b : Bool) → in_lists ≡ b → 0 < n → 0 < most
      by true e listed = first (ap (λ b. room == 1 && not b) e ∙ and-false (room == 1))
      by false e listed = absurd (omega (arith, none e, listed))

    new-listed : (s : SlotState T U) → IsNew d room in_lists n s → ListsCells s
    new-listed s new = λ listed.
        absurd (let clash : true ≡ false = sym listed ∙ new.none in let no : true ≡ false → ⊥ = λ e. cc in no clash)

    new-some : (s : SlotState T U) → IsNew d room in_lists n s → 0 < s.content.lists → 0 < n
    new-some s is some = kept-some n (subst (λ m. 0 < m) is.lists_are some)

    -- slots that are new have lists enough
    pub new-lists : (spare : ℕ) (xs : List (SlotState T U)) → All (IsNew d room in_lists n) xs → n ≤ spare
        → HasLists most spare n xs
    new-lists spare xs new enough = record {
      shown = All-weaker (IsNew d room in_lists n) (ShowsAtMost most) new-shows xs new;
      listed = All-weaker (IsNew d room in_lists n) ListsCells new-listed xs new;
      some = All-weaker (IsNew d room in_lists n) (λ s. 0 < s.content.lists → 0 < n) new-some xs new;
      kept = omega (arith, enough);
      opened = omega (
        arith,
        none-open n xs (All-weaker (IsNew d room in_lists n) (λ s. s.content.cells ≡ []) (λ s is. is.cells) xs new),
      );
    }

    module _ (was spare number : ℕ) (xs ys : List (SlotState T U)) (has : HasLists was spare number xs)
        (some : 0 < length xs) (are : All (λ s. (content_of number s).lists ≡ n) xs)
        (new : All (IsNew d room in_lists n) ys) (less : was ≤ most) where
      both-shown : All (ShowsAtMost most) (xs ++ ys)
      both-shown = All-append (ShowsAtMost most) xs ys
          (All-weaker (ShowsAtMost was) (ShowsAtMost most) (shows-more was most less) xs has.shown)
          (All-weaker (IsNew d room in_lists n) (ShowsAtMost most) new-shows ys new)

      both-listed : All ListsCells (xs ++ ys)
      both-listed =
          All-append ListsCells xs ys has.listed (All-weaker (IsNew d room in_lists n) ListsCells new-listed ys new)

      both-opened : (m : ℕ) → open_count (contents_of m (xs ++ ys)) ≡ open_count (contents_of m xs)
      both-opened m =
          let none-new = none-open m ys
          (All-weaker (IsNew d room in_lists n) (λ s. s.content.cells ≡ []) (λ s is. is.cells) ys new) in
          ap open_count (map-append (content_of m) xs ys)
          ∙ sum_by-append one_if_open (contents_of m xs) (contents_of m ys) ∙ omega (arith, none-new)

      -- new slots stand behind those that are there, with the same lists
      pub grown-lists : was ≡ most → HasLists most spare number (xs ++ ys)
      grown-lists same = record {
        shown = both-shown;
        listed = both-listed;
        some = All-append (λ s. 0 < s.content.lists → 0 < number) xs ys has.some
            (All-weaker (IsNew d room in_lists n) (λ s. 0 < s.content.lists → 0 < number)
            (λ s is more. let kept = new-some s is more in
            omega (arith, kept, first-alike n number xs some are kept)) ys new);
        kept =
            let long : long_count most (xs ++ ys) ≡ long_count most xs + long_count most ys =
            sum_by-append (one_if_long most) xs ys in
            let old : long_count was xs ≡ long_count most xs = ap (λ m. long_count m xs) same in
            omega (arith, has.kept, long, old);
        opened = omega (arith, both-opened number, has.opened);
      }

      -- or with new lists
      pub relisted : (spare' : ℕ) → n ≤ spare' → HasLists most spare' n (xs ++ ys)
      relisted spare' enough = record {
        shown = both-shown;
        listed = both-listed;
        some = All-append (λ s. 0 < s.content.lists → 0 < n) xs ys
            (λ k s low more. subst (λ m. 0 < m) (sym (shown-lists number (get_or xs k s) more) ∙ are k s low)
            (has.some k s low more))
            (All-weaker (IsNew d room in_lists n) (λ s. 0 < s.content.lists → 0 < n) new-some ys new);
        kept = omega (arith, enough);
        opened = omega (arith, both-opened n, ap open_count (same-shown n number xs are), by n refl);
      } where
        by : (m : ℕ) → n ≡ m → open_count (contents_of number xs) ≤ n
        by zero e =
            omega (
              arith,
              without-lists number xs
                  (All-weaker (λ s. (content_of number s).lists ≡ n) (λ s. (content_of number s).lists ≡ 0)
                  (λ s is. is ∙ e) xs are),
            )
        by (suc m) e = omega (arith, has.opened, first-alike n number xs some are (omega (arith, e)))

  -- what holds of all contents holds of all slots
  pub of-contents : (n : ℕ) (P : ContentState T U → Type 0) (xs : List (SlotState T U))
      (contents : List (ContentState T U)) → contents_of n xs ≡ contents → All P contents
      → All (λ s. P (content_of n s)) xs
  of-contents n P xs contents are all = by xs (subst (All P) (sym are) all)
    where
      by : (ys : List (SlotState T U)) → All P (contents_of n ys) → All (λ s. P (content_of n s)) ys
      by [] none = All-nil (λ s. P (content_of n s))
      by (y ∷ ys) each = All-cons (λ s. P (content_of n s)) y ys (All-head P (content_of n y) (contents_of n ys) each)
          (by ys (All-tail P (content_of n y) (contents_of n ys) each))

  module _ (d : U → Type 0) (room : ℕ) (in_lists : Bool) (n : ℕ) (ys : List (SlotState T U))
      (new : All (IsNew d room in_lists n) ys) where
    -- what new slots show
    pub new-contents : (m : ℕ) (P : ContentState T U → Type 0)
        → ((s : SlotState T U) → IsNew d room in_lists n s → P (content_of m s)) → All P (contents_of m ys)
    new-contents m P each =
        All-map P (content_of m) ys (All-weaker (IsNew d room in_lists n) (λ s. P (content_of m s)) each ys new)

    pub new-forms : (m : ℕ) → All (λ content. in_lists ≡ true → content.is_in_place ≡ false) (contents_of m ys)
    new-forms m = new-contents m (λ content. in_lists ≡ true → content.is_in_place ≡ false)
        (λ s is listed. is.in_place ∙ ap (λ b. room == 1 && not b) listed ∙ and-false (room == 1))

    -- new slots stand behind those that are there, where these show as many lists
    pub adds : (m : ℕ) (old : List (ContentState T U)) (xs zs : List (SlotState T U)) (lists more : ℕ)
        → contents_of m xs ≡ old → (0 < n → n ≡ m) → n ≡ lists_for in_lists lists → length ys ≡ more
        → zs ≡ xs ++ ys → AddsSlots old (contents_of m zs) more room in_lists lists
    adds m old xs zs lists more are alike count long is = record {
      added = contents_of m ys;
      count = length-map ys (content_of m) ∙ long;
      rooms = new-contents m (λ content. content.room ≡ room) (λ s new_slot. new_slot.rooms);
      forms = λ listed k e low. new-forms m k e low listed;
      lists_are = new-contents m (λ content. content.lists ≡ lists_for in_lists lists)
          (λ s new_slot. ap (λ k. cond {A = ℕ} (nat_lt 0 k) m 0) new_slot.lists_are ∙ kept-alike n m alike ∙ count);
      cells = new-contents m (λ content. content.cells ≡ []) (λ s new_slot. new_slot.cells);
      grown =
          ap (contents_of m) is ∙ map-append (content_of m) xs ys ∙ ap (λ contents. contents ++ contents_of m ys) are;
    }

    -- what new slots show of lists
    pub new-lists-are : (lists : ℕ) → n ≡ lists_for in_lists lists
        → All (λ content. content.lists ≡ lists_for in_lists lists) (contents_of n ys)
    new-lists-are lists count =
        new-contents n (λ content. content.lists ≡ lists_for in_lists lists)
        (λ s new_slot. ap (λ k. cond {A = ℕ} (nat_lt 0 k) n 0) new_slot.lists_are ∙ kept-shown n ∙ count)

  -- slots of which there are some show some
  pub some-slots : (n : ℕ) (xs : List (SlotState T U)) (contents : List (ContentState T U))
      → contents_of n xs ≡ contents → 0 < length contents → 0 < length xs
  some-slots n xs contents are some =
      let count : length contents ≡ length xs = sym (ap length are) ∙ length-map xs (content_of n) in
      omega (arith, some, count)

-- without lists there are none
pub without : (in_lists : Bool) (lists n : ℕ) → n ≡ lists_for in_lists lists → in_lists ≡ false → n ≡ 0
without in_lists lists n is none = is ∙ ap (λ b. cond {A = ℕ} b lists 0) none
