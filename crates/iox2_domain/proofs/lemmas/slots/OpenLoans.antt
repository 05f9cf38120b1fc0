-- Each slot with cells is a loan that is out and isn't written, still.
use Rattle.std.proofs.Common.{◌≡◌, ◌≢◌, ℕ, Bool, true, false, cond, max, not, ◌<◌, ◌≤◌, List, length, get_or, slice_set}
use Rattle.std.proofs.Common.{refl, ap, sym, subst, ◌∙◌, inl, inr, arith}
use Rattle.std.proofs.lemmas.Bool.{cases_eq, eq-eqb, false≢true}
use Rattle.std.specs.Prelude.{slice_get}
use Rattle.std.specs.List.{All}
use Rattle.std.specs.declared.option.Option.{Option}
use Rattle.std.specs.declared.option.Option.TheVariants.{None, Some}
use Rattle.std.specs.Option.{option_map_or, option_and_then}
use Rattle.slab.specs.Slab.{Slab, get, with_value}
use Rattle.iox2_machine.specs.SingleValues.{is_single_valued}
use Rattle.iox2_machine.specs.declared.service_config.ServiceConfig.{ServiceConfig}
use Rattle.iox2_slots.specs.SlotBook.{Book}
use Rattle.iox2_slots.specs.declared.slots.mark.SlotMark.TheVariants.{Unwritten}
use Rattle.iox2_contents.specs.SlotContents.{ContentState, lists_for}
use Rattle.iox2_connections.specs.Counters.{times}
use Rattle.iox2_domain.specs.Ports.{PublisherFields}
use Rattle.iox2_domain.specs.Fields.{Fields, contents_in}
use Rattle.iox2_domain.specs.Invariant.{HasParts, HasOpenLoans, IsUnwrittenLoan, cell_count, cell_lists, mark_at}
use Rattle.iox2_domain.proofs.lemmas.containers.SetRecords.{set-here, set-others}

-- ---- marks

-- the mark of a slot of a book that stands
pub mark-here : (books : Slab Book) (key : ℕ) (b : Book) → get books key ≡ Some b → (slot : ℕ)
    → mark_at books key slot ≡ slice_get b.marks slot
mark-here books key b at slot = ap (option_and_then (λ (c : Book). slice_get c.marks slot)) at

-- a book with the same marks takes the place of another
pub marks-same : (books : Slab Book) (key : ℕ) (b d : Book) → get books key ≡ Some b → d.marks ≡ b.marks → (k slot : ℕ)
    → mark_at (with_value books key d) k slot ≡ mark_at books k slot
marks-same books key b d at same k slot = elim (cases_eq k key) [
  | inl here ↦
      ap (λ j. mark_at (with_value books key d) j slot) here
      ∙ mark-here (with_value books key d) key d (set-here books.slots key b d at) slot
      ∙ ap (λ marks. slice_get marks slot) same
      ∙ sym (mark-here books key b at slot)
      ∙ sym (ap (λ j. mark_at books j slot) here)
  | inr away ↦ ap (option_and_then (λ (c : Book). slice_get c.marks slot)) (set-others books.slots key b d at k away)
]

-- ---- what holds still

-- Each of these publishers was there, with the same book, has each loan that it had, and may have as many.
pub record LendsStill (old new : List (Option PublisherFields)) : Type 0 where
  pub at : (i : ℕ) (y : PublisherFields) → get_or new i None ≡ Some y
      → (j : ℕ) × (x : PublisherFields) × (get_or old j None ≡ Some x) × (y.book ≡ x.book)
      × ((slot : ℕ) → 0 < times slot x.loans → 0 < times slot y.loans) × (y.max_loaned_samples ≡ x.max_loaned_samples)

-- For each key with contents there were some, and where all of these have so many lists of cells, these have.
pub record KeepsLists {T U : Type 0} (old new : List (Option (List (ContentState T U)))) : Type 0 where
  pub at : (key : ℕ) (cs : List (ContentState T U)) → get_or new key None ≡ Some cs
      → (was : List (ContentState T U)) × (get_or old key None ≡ Some was)
      × ((n : ℕ) → All (λ content. content.lists ≡ n) was → All (λ content. content.lists ≡ n) cs)

-- lists are asked for where cells can be handed out
pub lists-some : (c : ServiceConfig) (n : ℕ) → is_single_valued c ≡ false → c.lists_cells ≡ true → 0 < cell_lists c n
lists-some c n several lists = by (is_single_valued c) c.lists_cells several lists where
  by : (single listed : Bool) → single ≡ false → listed ≡ true → 0 < lists_for (not single) (cond listed (max 1 n) 0)
  by false true is are = omega arith
  by false false is are = absurd (false≢true are)
  by true listed is are = absurd (false≢true (sym is))

-- the same contents
pub same-lists : {T U : Type 0} (contents : List (Option (List (ContentState T U)))) → KeepsLists contents contents
same-lists contents = record { at = λ key cs there. (cs, there, λ n all. all) }

-- and then they are enough for all loans
pub lists-enough : (c : ServiceConfig) (n : ℕ) → 0 < cell_lists c n → n ≤ cell_lists c n
lists-enough c n = by (is_single_valued c) c.lists_cells where
  by : (single listed : Bool) → 0 < lists_for (not single) (cond listed (max 1 n) 0)
      → n ≤ lists_for (not single) (cond listed (max 1 n) 0)
  by false true some = omega arith
  by false false some = absurd (omega (arith, some))
  by true listed some = absurd (omega (arith, some))

module _ {T U : Type 0} {c : ServiceConfig} where
  -- the publishers change
  pub open-published : (old new : List (Option PublisherFields)) (books : Slab Book)
      (contents : List (Option (List (ContentState T U)))) → LendsStill old new
      → HasOpenLoans c old books contents → HasOpenLoans c new books contents
  open-published old new books contents still loans = record {
    at = λ i slot y there some.
        let was = still.at i y there in
        let same : y.book ≡ (was.1).book = was.3 in
        let loan = loans.at was.0 slot was.1 was.2 (subst (λ key. 0 < cell_count contents key slot) same some) in
        record { out = was.4 slot loan.out; unwritten = ap (λ key. mark_at books key slot) same ∙ loan.unwritten };
    lists = λ i y cs there has.
        let was = still.at i y there in
        let same : y.book ≡ (was.1).book = was.3 in
        subst (λ n. All (λ content. content.lists ≡ cell_lists c n) cs) (sym was.5)
        (loans.lists was.0 was.1 cs was.2 (sym (ap (λ key. get_or contents key None) same) ∙ has));
  }

  -- a slot has cells only where it had some, and its mark then
  pub open-kept : (publishers : List (Option PublisherFields)) (books books' : Slab Book)
      (contents contents' : List (Option (List (ContentState T U))))
      → ((key slot : ℕ) → 0 < cell_count contents' key slot → 0 < cell_count contents key slot)
      → ((key slot : ℕ) → 0 < cell_count contents' key slot → mark_at books' key slot ≡ mark_at books key slot)
      → KeepsLists contents contents' → HasOpenLoans c publishers books contents
      → HasOpenLoans c publishers books' contents'
  open-kept publishers books books' contents contents' had marks lists loans = record {
    at = λ i slot x there some.
        let loan = loans.at i slot x there (had x.book slot some) in
        record { out = loan.out; unwritten = marks x.book slot some ∙ loan.unwritten };
    lists = λ i x cs there has. let was = lists.at x.book cs has in
        was.2 (cell_lists c x.max_loaned_samples) (loans.lists i x was.0 there was.1);
  }

  -- a book with the same marks takes the place of another
  pub open-rebooked : (publishers : List (Option PublisherFields)) (books : Slab Book)
      (contents : List (Option (List (ContentState T U)))) (key : ℕ) (b d : Book)
      → get books key ≡ Some b → d.marks ≡ b.marks → HasOpenLoans c publishers books contents
      → HasOpenLoans c publishers (with_value books key d) contents
  open-rebooked publishers books contents key b d at same loans =
      open-kept publishers books (with_value books key d) contents contents (λ k slot some. some)
      (λ k slot some. marks-same books key b d at same k slot) (same-lists contents) loans

-- ---- a publisher changes, with its book and what lies in its slots

module _ {T U : Type 0} (f : Fields T U) (parts : HasParts f) (i : ℕ) (x : PublisherFields)
    (here : get_or f.publishers i None ≡ Some x) where
  -- the book of another is another
  pub books-apart : (k : ℕ) (z : PublisherFields) → k ≢ i → get_or f.publishers k None ≡ Some z → z.book ≢ x.book
  books-apart k z away there same =
      let its = parts.books.publishers k z there in
      let mine = parts.books.publishers i x here in
      let found : Some its.book ≡ Some mine.book = sym its.stands ∙ ap (get f.books) same ∙ mine.stands in
      let is : its.book ≡ mine.book = cc in
      let id : z.id ≡ x.id = sym its.is_its ∙ ap (λ (b : Book). b.publisher) is ∙ mine.is_its in
      away ((parts.publisher_ids x.id).one k i z x there here (eq-eqb z.id x.id id) (eq-eqb x.id x.id refl))

  module _ (y : PublisherFields) (b d : Book) (at : get f.books x.book ≡ Some b)
      (contents : List (Option (List (ContentState T U))))
      (others : (k : ℕ) → k ≢ x.book → get_or contents k None ≡ get_or f.contents k None) where
    -- a slot of its has cells only as a loan that isn't written
    abbrev pub LendsOpen : Type 0
    LendsOpen = (slot : ℕ) → 0 < cell_count contents x.book slot
        → (0 < times slot y.loans) × (slice_get d.marks slot ≡ Some Unwritten)

    -- and its slots have so many lists of cells
    abbrev pub HasItsLists : Type 0
    HasItsLists = (cs : List (ContentState T U)) → get_or contents x.book None ≡ Some cs
        → All (λ content. content.lists ≡ cell_lists f.config x.max_loaned_samples) cs

    pub kept-lists : KeepsLists f.contents contents → HasItsLists
    kept-lists keeps cs there = let was = keeps.at x.book cs there in
        was.2 (cell_lists f.config x.max_loaned_samples) (parts.open_loans.lists i x was.0 here was.1)

    pub open-own : y.book ≡ x.book → y.max_loaned_samples ≡ x.max_loaned_samples → LendsOpen → HasItsLists
        → HasOpenLoans f.config (slice_set f.publishers i (Some y)) (with_value f.books x.book d) contents
    open-own same max lends listed = record {
      at = λ k slot z there some. elim (cases_eq k i) [
        | inl is ↦
            let found : Some y ≡ Some z = sym (set-here f.publishers i x y here)
            ∙ sym (ap (λ (j : ℕ). get_or (slice_set f.publishers i (Some y)) j None) is) ∙ there in
            let one : y ≡ z = cc in
            subst (λ (w : PublisherFields). IsUnwrittenLoan (with_value f.books x.book d) w slot) one
            (mine slot (subst (λ (w : PublisherFields). 0 < cell_count contents w.book slot) (sym one) some))
        | inr away ↦
            let stood : get_or f.publishers k None ≡ Some z = sym (set-others f.publishers i x y here k away) ∙ there in
            let apart : z.book ≢ x.book = books-apart k z away stood in
            let loan = parts.open_loans.at k slot z stood
            (subst (λ (o : Option (List (ContentState T U))). 0 < cells_in o slot) (others z.book apart) some) in
            record {
              out = loan.out;
              unwritten = ap (option_and_then (λ (c : Book). slice_get c.marks slot))
                  (set-others f.books.slots x.book b d at z.book apart) ∙ loan.unwritten;
            }
      ];
      lists = λ k z cs there has. elim (cases_eq k i) [
        | inl is ↦
            let found : Some y ≡ Some z = sym (set-here f.publishers i x y here)
            ∙ sym (ap (λ (j : ℕ). get_or (slice_set f.publishers i (Some y)) j None) is) ∙ there in
            let one : z ≡ y = cc in
            let number : z.max_loaned_samples ≡ x.max_loaned_samples =
            ap (λ (w : PublisherFields). w.max_loaned_samples) one ∙ max in
            let key : x.book ≡ z.book = sym (ap (λ (w : PublisherFields). w.book) one ∙ same) in
            subst (λ n. All (λ content. content.lists ≡ cell_lists f.config n) cs) (sym number)
            (listed cs (ap (λ (j : ℕ). get_or contents j None) key ∙ has))
        | inr away ↦
            let stood : get_or f.publishers k None ≡ Some z = sym (set-others f.publishers i x y here k away) ∙ there in
            parts.open_loans.lists k z cs stood (sym (others z.book (books-apart k z away stood)) ∙ has)
      ];
    } where
      cells_in : Option (List (ContentState T U)) → ℕ → ℕ
      cells_in o slot =
          option_map_or (λ (content : ContentState T U). length content.cells) (slice_get (contents_in o) slot) 0

      mine : (slot : ℕ) → 0 < cell_count contents y.book slot → IsUnwrittenLoan (with_value f.books x.book d) y slot
      mine slot some =
          let loan = lends slot (subst (λ key. 0 < cell_count contents key slot) same some) in
          record {
            out = loan.0;
            unwritten = ap (λ key. mark_at (with_value f.books x.book d) key slot) same
                ∙ mark-here (with_value f.books x.book d) x.book d (set-here f.books.slots x.book b d at) slot ∙ loan.1;
          }
