-- Which lists of cells there are, where one slot changes.
use Rattle.std.proofs.Common.{◌≡◌, ◌≢◌, ◌⊎◌, ◌<◌, ◌≤◌, ◌+◌, ◌∙◌, ◌&&◌, ℕ, zero, suc, Bool, true, false, Some, List, []}
use Rattle.std.proofs.Common.{length, get_or, slice_set, inl, inr, refl, ap, sym, subst, arith}
use Rattle.std.proofs.lemmas.Bool.{cases_eq, cases_lt}
use Rattle.std.proofs.lemmas.List.{map-set, set-set}
use Rattle.std.proofs.lemmas.List.Elements.{All-set}
use Rattle.std.specs.Prelude.{slice_get, nat_lt, sum_by, IsSomeAnd}
use Rattle.std.specs.List.{All}
use Rattle.iox2_contents.specs.SlotContents.{ClearsSlot, ContentState, WritesValues, ended_content, unwritten_content}
use Rattle.iox2_contents.specs.SlotContents.{written_content, with_changed, open_count}
use Rattle.iox2_contents.specs.SlotStates.{SlotState, content_of, contents_of, slot_has_list, slot_waits, with_content}
use Rattle.iox2_contents.specs.SlotStates.{with_lists}
use Rattle.iox2_contents.specs.SlotRooms.{HasLists, HasListsBut, ListsCells, ShowsAtMost, one_if_long, long_count}
use Rattle.iox2_contents.proofs.SlotSums.{within, reads, there, mapped, sum-changed, sum-less, sum-map, set-here}
use Rattle.iox2_contents.proofs.SlotSums.{set-away, set-same}
use Rattle.iox2_contents.proofs.OpenSlots.{and-false, no-wait, one-if, one_if_open, not-open, never-open, open-once}
use Rattle.iox2_contents.proofs.OpenSlots.{is-open, has-some, shown-lists, shown-none, waits-for, long-none, long-once}
use Rattle.iox2_contents.proofs.OpenSlots.{long-open, short-none}

module _ {T U : Type 0} where
  module _ (most spare number : ℕ) (xs : List (SlotState T U)) (i : ℕ) (s : SlotState T U)
      (at : slice_get xs i ≡ Some s) where
    -- what holds of all slots holds of this one
    pub of-all : (P : SlotState T U → Type 0) → All P xs → P s
    of-all P all = subst P (reads xs i s s at) (all i s (within xs i s at))

    -- where its publisher keeps lists, its content shows so many
    shown : HasLists most spare number xs → 0 < s.content.lists → 0 < (content_of number s).lists
    shown has some = subst (λ n. 0 < n) (sym (shown-lists number s some))
        (of-all (λ z. 0 < z.content.lists → 0 < number) has.some some)

    module _ (t : SlotState T U) where
      -- how many slots have cells, with one changed
      pub opened-changed : open_count (contents_of number (slice_set xs i t)) + one_if_open
          (content_of number s) ≡ open_count (contents_of number xs) + one_if_open (content_of number t)
      opened-changed =
          rw (map-set (content_of number) xs i t)
          (sum-changed one_if_open (contents_of number xs) i (content_of number s) (content_of number t)
          (mapped (content_of number) xs i s at))

      -- how many have a list that is long enough
      pub long-changed : long_count most
          (slice_set xs i t) + one_if_long most s ≡ long_count most xs + one_if_long most t
      long-changed = sum-changed (one_if_long most) xs i s t at

      some-changed : t.content.lists ≡ s.content.lists → All (λ z. 0 < z.content.lists → 0 < number) xs
          → All (λ z. 0 < z.content.lists → 0 < number) (slice_set xs i t)
      some-changed same all =
          All-set (λ (z : SlotState T U). 0 < z.content.lists → 0 < number) xs i t
          (λ some. of-all (λ z. 0 < z.content.lists → 0 < number) all (subst (λ n. 0 < n) same some)) all

      -- a slot changes, and its list may be another one
      pub changed : (has : HasLists most spare number xs) (spare' : ℕ) → ShowsAtMost most t → ListsCells t
          → t.content.lists ≡ s.content.lists
          → spare + one_if_long most s ≤ spare' + one_if_long most t
          → open_count (contents_of number (slice_set xs i t)) ≤ number → HasLists most spare' number (slice_set xs i t)
      changed has spare' shows lists same kept opened = record {
        shown = All-set (ShowsAtMost most) xs i t shows has.shown;
        listed = All-set ListsCells xs i t lists has.listed;
        some = some-changed same has.some;
        kept = omega (arith, has.kept, long-changed, kept);
        opened = opened;
      }

      -- a slot has no cells any more, but its list still
      pub ended : (has : HasLists most spare number xs) → ShowsAtMost most t → t.content.lists ≡ s.content.lists
          → t.cell_room ≡ s.cell_room → t.content.cells ≡ []
          → HasListsBut i most spare number (slice_set xs i t)
      ended has shows same room none = record {
        shown = All-set (ShowsAtMost most) xs i t shows has.shown;
        listed = λ k z there away. of-others k z (sym (set-away xs i k t away) ∙ there);
        ended = subst (λ o. IsSomeAnd o (λ z. z.content.cells ≡ [])) (sym (set-here xs i s t at)) none;
        some = some-changed same has.some;
        kept =
            let long : one_if_long most t ≡ one_if_long most s = rw (same, room) refl in
            omega (arith, has.kept, long-changed, long);
        opened = omega (arith, has.opened, opened-changed, not-open (content_of number t) none);
      } where
        of-others : (k : ℕ) (z : SlotState T U) → slice_get xs k ≡ Some z → ListsCells z
        of-others k z there = subst ListsCells (reads xs k z z there) (has.listed k z (within xs k z there))

      -- what a reference changes leaves the lists
      pub lent : (has : HasLists most spare number xs) → t.content.lists ≡ s.content.lists
          → t.content.room ≡ s.content.room → t.content.is_in_place ≡ s.content.is_in_place
          → t.cell_room ≡ s.cell_room → length t.content.cells ≡ length s.content.cells
          → HasLists most spare number (slice_set xs i t)
      lent has lists room place cell_room long =
          let one : one_if_open (content_of number t) ≡ one_if_open (content_of number s) = rw (lists, long) refl in
          changed has spare
          (rw (lists, room, place) (of-all (ShowsAtMost most) has.shown))
          (rw (lists, cell_room, long) (of-all ListsCells has.listed))
          lists
          (let same : one_if_long most t ≡ one_if_long most s = rw (lists, cell_room) refl in omega (arith, same))
          (omega (arith, has.opened, opened-changed, one))

      -- a loan starts in a slot without cells
      pub started : (has : HasLists most spare number xs) → t.content.lists ≡ s.content.lists
          → t.content.room ≡ s.content.room → t.content.is_in_place ≡ s.content.is_in_place
          → t.cell_room ≡ s.cell_room → (0 < (content_of number s).lists → s.content.cells ≡ [])
          → (0 < (content_of number s).lists → open_count (contents_of number xs) < (content_of number s).lists)
          → HasLists most spare number (slice_set xs i t)
      started has lists room place cell_room none few =
          changed has spare
          (rw (lists, room, place) (of-all (ShowsAtMost most) has.shown))
          (λ listed. absurd (free (rw (lists, cell_room) at listed)))
          lists
          (let same : one_if_long most t ≡ one_if_long most s = rw (lists, cell_room) refl in omega (arith, same))
          (by s.content.lists refl)
        where
          free : slot_has_list s ≡ true → ⊥
          free listed =
              let some = of-all ListsCells has.listed listed in
              let gone : length s.content.cells ≡ 0 = ap length (none (shown has (has-some s listed).0)) in
              omega (arith, some, gone)

          by : (n : ℕ) → s.content.lists ≡ n → open_count (contents_of number (slice_set xs i t)) ≤ number
          by zero e = omega
              (arith, has.opened, opened-changed, never-open (content_of number t) (shown-none number t (lists ∙ e)))
          by (suc n) e =
              let some : 0 < s.content.lists = omega (arith, e) in
              omega (
                arith,
                few (shown has some),
                shown-lists number s some,
                opened-changed,
                open-once (content_of number t),
              )

    -- a slot without cells has no list
    pub none-listed : HasLists most spare number xs → (0 < (content_of number s).lists → s.content.cells ≡ [])
        → slot_has_list s ≡ false
    none-listed has none = by (slot_has_list s) refl where
      by : (b : Bool) → slot_has_list s ≡ b → slot_has_list s ≡ false
      by false e = e
      by true e =
          let some = of-all ListsCells has.listed e in
          let gone : length s.content.cells ≡ 0 = ap length (none (shown has (has-some s e).0)) in
          absurd (omega (arith, some, gone))

    -- where the slot without cells has no list either, all is well
    pub recycled : HasListsBut i most spare number xs → slot_has_list s ≡ false → HasLists most spare number xs
    recycled but none = record {
      shown = but.shown;
      listed = λ k d low. by k d low (cases_eq k i);
      some = but.some;
      kept = but.kept;
      opened = but.opened;
    } where
      by : (k : ℕ) (d : SlotState T U) → k < length xs → (k ≡ i) ⊎ (k ≢ i) → ListsCells (get_or xs k d)
      by k d low (inl same) = λ listed.
          absurd (let is : get_or xs k d ≡ s = ap (λ j. get_or xs j d) same ∙ reads xs i s d at in
          let clash : true ≡ false = sym listed ∙ ap slot_has_list is ∙ none in cc)
      by k d low (inr away) = but.listed k (get_or xs k d) (there xs k d low) away

    -- its list goes back where it is long enough and there is room
    pub given-back : (but : HasListsBut i most spare number xs) (spare' : ℕ) → (t : SlotState T U)
        → t.content ≡ s.content → t.cell_room ≡ 0
        → (spare + one_if_long most s ≤ spare') ⊎ (number ≤ spare') → HasLists most spare' number (slice_set xs i t)
    given-back but spare' t same none back = record {
      shown = All-set (ShowsAtMost most) xs i t (rw same (of-all (ShowsAtMost most) but.shown)) but.shown;
      listed = λ k d low. by k d low (cases_eq k i);
      some = some-changed t (ap (λ (c : ContentState T U). c.lists) same) but.some;
      kept = enough back;
      opened =
          let one : one_if_open (content_of number t) ≡ one_if_open (content_of number s) =
          ap (λ (c : ContentState T U). one_if_open (with_lists number c)) same in
          omega (arith, but.opened, opened-changed t, one);
    } where
      enough : (spare + one_if_long most s ≤ spare') ⊎ (number ≤ spare')
          → number ≤ spare' + long_count most (slice_set xs i t)
      enough (inl less) = omega (arith, but.kept, long-changed t, less)
      enough (inr full) = omega (arith, full)

      away-listed : (k : ℕ) (d : SlotState T U) → k < length (slice_set xs i t) → k ≢ i
          → ListsCells (get_or (slice_set xs i t) k d)
      away-listed k d low away =
          but.listed k (get_or (slice_set xs i t) k d)
          (sym (set-away xs i k t away) ∙ there (slice_set xs i t) k d low) away

      by : (k : ℕ) (d : SlotState T U) → k < length (slice_set xs i t) → (k ≡ i) ⊎ (k ≢ i)
          → ListsCells (get_or (slice_set xs i t) k d)
      by k d low (inr away) = away-listed k d low away
      by k d low (inl here) = λ listed.
          absurd (
          let is : get_or (slice_set xs i t) k d ≡ t =
          ap (λ j. get_or (slice_set xs i t) j d) here ∙ reads (slice_set xs i t) i t d (set-here xs i s t at) in
          let has : slot_has_list t ≡ true = sym (ap slot_has_list is) ∙ listed in
          let some = (has-some t has).1 in
          omega (arith, some, none)
          )

    -- the slot with another list has what it had
    pub same-contents : (t : SlotState T U) → t.content ≡ s.content
        → contents_of number (slice_set xs i t) ≡ contents_of number xs
    same-contents t same =
        map-set (content_of number) xs i t
        ∙ set-same (contents_of number xs) i (content_of number s) (content_of number t)
        (mapped (content_of number) xs i s at) (ap (with_lists number) same)

    -- what a slot is whose list was taken out
    abbrev pub bare : SlotState T U
    bare = record s { content = ended_content s.content; cell_room = 0 }

    pub bare-content : IsSomeAnd (slice_get xs i) (λ z. z.content.cells ≡ []) → bare.content ≡ s.content
    bare-content none = let is : s.content.cells ≡ [] = subst (λ o. IsSomeAnd o (λ z. z.content.cells ≡ [])) at none in
        ap (λ cells. record s.content { cells = cells }) (sym is)

    pub bare-same : IsSomeAnd (slice_get xs i) (λ z. z.content.cells ≡ [])
        → contents_of number (slice_set xs i bare) ≡ contents_of number xs
    bare-same none = same-contents bare (bare-content none)

    pub bare-lists : (but : HasListsBut i most spare number xs) (spare' : ℕ)
        → (spare + one_if_long most s ≤ spare') ⊎ (number ≤ spare') → HasLists most spare' number (slice_set xs i bare)
    bare-lists but spare' back = given-back but spare' bare (bare-content but.ended) refl back

    -- the list that comes back is kept where it is long enough and there is room for it
    pub taken-back : HasListsBut i most spare number xs → (spare' : ℕ) → spare ≤ spare'
        → (most ≤ s.cell_room → spare < number → spare' ≡ spare + 1)
        → HasLists most spare' number (slice_set xs i bare)
    taken-back but spare' more back =
        bare-lists but spare' (by (cases_lt s.cell_room most) (cases_lt spare number)) where
          by : (s.cell_room < most) ⊎ (most ≤ s.cell_room) → (spare < number) ⊎ (number ≤ spare)
              → (spare + one_if_long most s ≤ spare') ⊎ (number ≤ spare')
          by (inl short) room = inl (omega (arith, more, short-none most s short))
          by (inr long) (inl free) = inl (omega (arith, back long free, long-once most s))
          by (inr long) (inr full) = inr (omega (arith, full, more))

    -- a slot that waits for a list finds one
    pub spares : HasLists most spare number xs → slot_waits s ≡ true → 0 < spare
    spares has is =
        let want = waits-for s is in
        let one = is-open (content_of number s) (shown has want.0) want.2 in
        let none = long-none most s (of-all (ShowsAtMost most) has.shown) (no-list want.1) in
        let count : long_count most xs + 1 ≤ sum_by (λ (z : SlotState T U). one_if_open (content_of number z)) xs =
        sum-less (one_if_long most) (λ (z : SlotState T U). one_if_open (content_of number z)) xs i s at
        (λ k d low. long-open most number (get_or xs k d) (has.shown k d low) (has.listed k d low) (has.some k d low))
        (omega (arith, one, none)) in
        let map-is : open_count (contents_of number xs) ≡ sum_by (λ (z : SlotState T U).
        one_if_open (content_of number z)) xs = sum-map one_if_open (content_of number) xs in
        omega (arith, has.kept, has.opened, count, map-is)
      where
        no-list : s.cell_room ≡ 0 → slot_has_list s ≡ false
        no-list none = ap (λ n. nat_lt 0 s.content.lists && nat_lt 0 n) none ∙ and-false (nat_lt 0 s.content.lists)

    -- it gets one that is to spare
    pub handed-out : (has : HasLists most spare number xs) → slot_waits s ≡ true → (spare' room : ℕ)
        → spare' + 1 ≡ spare → most ≤ room
        → (t : SlotState T U) → t.content ≡ s.content → t.cell_room ≡ room
        → HasLists most spare' number (slice_set xs i t)
    handed-out has is spare' room one_less long t same is-room =
        let want = waits-for s is in
        changed t has spare'
        (rw same (of-all (ShowsAtMost most) has.shown))
        (λ listed. rw same want.2)
        (ap (λ (c : ContentState T U). c.lists) same)
        (let none = long-none most s (of-all (ShowsAtMost most) has.shown) (no-list want.1) in
        let one : one_if_long most t ≡ 1 = one-if t.content.lists t.cell_room most (rw same want.0) (rw is-room long) in
        omega (arith, one_less, none, one))
        (let one : one_if_open (content_of number t) ≡ one_if_open (content_of number s) = ap
        (λ (c : ContentState T U). one_if_open (with_lists number c)) same in
        omega (arith, has.opened, opened-changed t, one))
      where
        no-list : s.cell_room ≡ 0 → slot_has_list s ≡ false
        no-list none = ap (λ n. nat_lt 0 s.content.lists && nat_lt 0 n) none ∙ and-false (nat_lt 0 s.content.lists)

    -- what a slot is that got a list with this room
    abbrev pub listed-in : (room : ℕ) → SlotState T U
    listed-in room = record s { cell_room = room }

    pub listed-same : (room : ℕ) → contents_of number (slice_set xs i (listed-in room)) ≡ contents_of number xs
    listed-same room = same-contents (listed-in room) refl

    pub listed-lists : (has : HasLists most spare number xs) → slot_waits s ≡ true → (spare' room : ℕ)
        → spare' + 1 ≡ spare → most ≤ room → HasLists most spare' number (slice_set xs i (listed-in room))
    listed-lists has is spare' room less long = handed-out has is spare' room less long (listed-in room) refl refl

    pub listed-ready : HasLists most spare number xs → slot_waits s ≡ true → (room : ℕ) → most ≤ room
        → IsSomeAnd (slice_get (slice_set xs i (listed-in room)) i) (λ z. slot_waits z ≡ false)
    listed-ready has is room long =
        let some = ((of-all (ShowsAtMost most) has.shown).0 (waits-for s is).0).1 in
        let no = no-wait s.content.lists room (length s.content.cells) (omega (arith, some, long)) in
        subst (λ o. IsSomeAnd o (λ z. slot_waits z ≡ false)) (sym (set-here xs i s (listed-in room) at)) no

    -- the list is long enough for it
    pub listed-fits : HasLists most spare number xs → slot_waits s ≡ true → (room : ℕ) → most ≤ room
        → s.content.room ≤ room
    listed-fits has is room long = let fits = ((of-all (ShowsAtMost most) has.shown).0 (waits-for s is).0).0 in
        omega (arith, fits, long)

    -- a write, or the end of a loan, leaves no cells
    pub written-lists : HasLists most spare number xs → (values : List T) (t : SlotState T U)
        → t ≡ with_content (written_content values) s → HasListsBut i most spare number (slice_set xs i t)
    written-lists has values t is =
        rw is (ended (with_content (written_content values) s) has (of-all (ShowsAtMost most) has.shown) refl refl refl)

    pub ended-lists : HasLists most spare number xs → (t : SlotState T U) → t ≡ with_content ended_content s
        → HasListsBut i most spare number (slice_set xs i t)
    ended-lists has t is =
        rw is (ended (with_content ended_content s) has (of-all (ShowsAtMost most) has.shown) refl refl refl)

    -- the slot has a list then where it had one before
    still-has : (y : SlotState T U) → y ≡ get_or xs i y → (had : Bool) → had ≡ slot_has_list y
        → (f : ContentState T U → ContentState T U) → (f s.content).lists ≡ s.content.lists
        → (t : SlotState T U) → t ≡ with_content f s
        → IsSomeAnd (slice_get (slice_set xs i t) i) (λ z. slot_has_list z ≡ had)
    still-has y read had known f same t is =
        let there : y ≡ s = read ∙ reads xs i s y at in
        let has : slot_has_list t ≡ had = rw (is, same, known, there) refl in
        subst (λ o. IsSomeAnd o (λ z. slot_has_list z ≡ had)) (sym (set-here xs i s t at)) has

    pub written-has : (y : SlotState T U) → y ≡ get_or xs i y → (had : Bool) → had ≡ slot_has_list y
        → (values : List T) (t : SlotState T U) → t ≡ with_content (written_content values) s
        → IsSomeAnd (slice_get (slice_set xs i t) i) (λ z. slot_has_list z ≡ had)
    written-has y read had known values t is = still-has y read had known (written_content values) refl t is

    pub ended-has : (y : SlotState T U) → y ≡ get_or xs i y → (had : Bool) → had ≡ slot_has_list y → (t : SlotState T U)
        → t ≡ with_content ended_content s
        → IsSomeAnd (slice_get (slice_set xs i t) i) (λ z. slot_has_list z ≡ had)
    ended-has y read had known t is = still-has y read had known ended_content refl t is

    -- a loan starts in a slot whose last one has no cells any more
    pub started-lists : HasLists most spare number xs → (header : U) (len : ℕ) (t : SlotState T U)
        → t ≡ with_content (unwritten_content header len) s
        → (0 < (content_of number s).lists → s.content.cells ≡ [])
        → (0 < (content_of number s).lists → open_count (contents_of number xs) < (content_of number s).lists)
        → HasLists most spare number (slice_set xs i t)
    started-lists has header len t is none few =
        rw is (started (with_content (unwritten_content header len) s) has refl refl refl refl none few)

    -- what the content there is
    pub content-at : (contents : List (ContentState T U)) → contents_of number xs ≡ contents
        → slice_get contents i ≡ Some (content_of number s)
    content-at contents are =
        subst (λ ys. slice_get ys i ≡ Some (content_of number s)) are (mapped (content_of number) xs i s at)

    -- what the contents are where one of them changed
    pub changed-contents : (contents : List (ContentState T U)) (f : ContentState T U → ContentState T U)
        (t : SlotState T U) → contents_of number xs ≡ contents → t ≡ with_content f s
        → with_lists number (f s.content) ≡ f (with_lists number s.content)
        → contents_of number (slice_set xs i t) ≡ with_changed contents i f
    changed-contents contents f t are is same =
        let new : content_of number t ≡ f (content_of number s) = ap (content_of number) is ∙ same in
        map-set (content_of number) xs i t ∙ rw (are, new, content-at contents are) refl

    -- a write takes the cells
    pub writes : (contents new : List (ContentState T U)) (values : List T) (t : SlotState T U)
        → contents_of number xs ≡ contents → length values ≡ length s.content.cells
        → t ≡ with_content (written_content values) s → new ≡ contents_of number (slice_set xs i t)
        → WritesValues contents new i values
    writes contents new values t are count is same = record {
      content = content_of number s;
      had = content-at contents are;
      count = count;
      written = same ∙ changed-contents contents (written_content values) t are is refl;
    }

    -- a slot without cells frees its room
    pub cleared-lists : HasLists most spare number xs → (t : SlotState T U) → s.content.cells ≡ []
        → t.content.cells ≡ [] → t.content.lists ≡ s.content.lists → t.content.is_in_place ≡ s.content.is_in_place
        → t.content.room ≤ s.content.room → slot_has_list t ≡ false → HasLists most spare number (slice_set xs i t)
    cleared-lists has t none gone lists place room no-list =
        let shows = of-all (ShowsAtMost most) has.shown in
        changed t has spare (
          λ some. let was = shows.0 (subst (λ n. 0 < n) lists some) in (omega (arith, room, was.0), was.1),
          λ away. shows.1 (sym place ∙ away),
        )
        (λ listed. absurd
        (let clash : true ≡ false = sym listed ∙ no-list in let not : true ≡ false → ⊥ = λ e. cc in not clash))
        lists
        (omega (arith, long-none most s shows (none-listed has (λ some. none))))
        (omega (arith, has.opened, opened-changed t, not-open (content_of number t) gone))

module _ {T U : Type 0} (old mid : List (ContentState T U)) (slot : ℕ) (was : ContentState T U)
    (low : slot < length old) (is : mid ≡ with_changed old slot ended_content)
    (at : slice_get mid slot ≡ Some was) where
  had-at : slice_get old slot ≡ Some (get_or old slot was)
  had-at = there old slot was low

  mid-is : mid ≡ slice_set old slot (ended_content (get_or old slot was))
  mid-is = rw had-at at is

  -- where a loan ended there are no cells
  pub ended-there : was ≡ ended_content (get_or old slot was)
  ended-there =
      let read : slice_get mid slot ≡ Some (ended_content (get_or old slot was)) =
      rw mid-is (set-here old slot (get_or old slot was) (ended_content (get_or old slot was)) had-at) in
      let same : Some was ≡ Some (ended_content (get_or old slot was)) = sym at ∙ read in
      cc

  -- and another content takes the place
  pub clears : (new : List (ContentState T U)) (content : ContentState T U) → content.is_in_place ≡ was.is_in_place
      → content.lists ≡ was.lists → content.cells ≡ [] → (content.is_in_place ≡ false → content.room ≡ 0)
      → new ≡ slice_set mid slot content → ClearsSlot old new slot
  clears new content place lists cells freed cleared = record {
    content = content;
    had = get_or old slot was;
    there = had-at;
    form = place ∙ ap (λ (c : ContentState T U). c.is_in_place) ended-there;
    lists = lists ∙ ap (λ (c : ContentState T U). c.lists) ended-there;
    cells = cells;
    freed = freed;
    cleared = cleared ∙ ap (λ m. slice_set m slot content) mid-is
        ∙ set-set old slot (ended_content (get_or old slot was)) content;
  }

module _ {T U : Type 0} (most spare number : ℕ) (xs : List (SlotState T U)) (i : ℕ) (s : SlotState T U)
    (at : slice_get xs i ≡ Some s) where
  -- a write leaves all well where the slot has no list
  pub written-recycled : HasLists most spare number xs → (y : SlotState T U) → y ≡ get_or xs i y → (had : Bool)
      → had ≡ slot_has_list y → had ≡ false → (values : List T) (t : SlotState T U)
      → t ≡ with_content (written_content values) s → HasLists most spare number (slice_set xs i t)
  written-recycled has y read had known none values t is =
      let there : y ≡ s = read ∙ reads xs i s y at in
      let kept : slot_has_list t ≡ slot_has_list s = ap slot_has_list is in
      recycled most spare number (slice_set xs i t) i t (set-here xs i s t at)
      (written-lists most spare number xs i s at has values t is)
      (kept ∙ ap slot_has_list (sym there) ∙ sym known ∙ none)
