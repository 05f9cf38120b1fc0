-- What counts of one slot: cells that can be handed out as a list, and a list that is long enough.
use Rattle.std.proofs.Common.{◌≡◌, ◌<◌, ◌≤◌, ◌∙◌, ◌==◌, ◌&&◌, ℕ, Bool, true, false, cond, [], length, refl, ap, sym}
use Rattle.std.proofs.Common.{subst, arith}
use Rattle.std.proofs.lemmas.Bool.Decides.{nat_tests}
use Rattle.std.specs.Prelude.{nat_lt, nat_le}
use Rattle.iox2_contents.specs.SlotContents.{ContentState, has_cells_to_hand_out}
use Rattle.iox2_contents.specs.SlotStates.{SlotState, content_of, slot_has_list, slot_waits}
use Rattle.iox2_contents.specs.SlotRooms.{ListsCells, ShowsAtMost, one_if_long}

pub and-false : (b : Bool) → (b && false) ≡ false
and-false true = refl
and-false false = refl

pub lt-both : (n m : ℕ) → 0 < n → 0 < m → (nat_lt 0 n && nat_lt 0 m) ≡ true
lt-both n m n-some m-some = grind (arith, nat_tests)

both-lt : (n m : ℕ) → (nat_lt 0 n && nat_lt 0 m) ≡ true → (0 < n) × (0 < m)
both-lt n m is = grind (arith, nat_tests)

zero-lt : (n m k : ℕ) → (nat_lt 0 n && (m == 0 && nat_lt 0 k)) ≡ true → (0 < n) × (m ≡ 0) × (0 < k)
zero-lt n m k is = grind (arith, nat_tests)

pub one-if : (n m most : ℕ) → 0 < n → most ≤ m → cond {A = ℕ} (nat_lt 0 n && nat_le most m) 1 0 ≡ 1
one-if n m most some fits = grind (arith, nat_tests)

one-less : (n m most : ℕ) → (0 < n → 0 < most)
    → cond {A = ℕ} (nat_lt 0 n && nat_le most m) 1 0 ≤ cond {A = ℕ} (nat_lt 0 n && nat_lt 0 m) 1 0
one-less n m most some = grind (arith, nat_tests)

at-most : (n m most : ℕ) → cond {A = ℕ} (nat_lt 0 n && nat_le most m) 1 0 ≤ 1
at-most n m most = grind (arith, nat_tests)

too-short : (n m most : ℕ) → m < most → cond {A = ℕ} (nat_lt 0 n && nat_le most m) 1 0 ≡ 0
too-short n m most short = grind (arith, nat_tests)

pub no-wait : (n m k : ℕ) → 0 < m → (nat_lt 0 n && (m == 0 && nat_lt 0 k)) ≡ false
no-wait n m k some = grind (arith, nat_tests)

some-lists : (m n : ℕ) → 0 < m → cond {A = ℕ} (nat_lt 0 m) n 0 ≡ n
some-lists m n some = grind (arith, nat_tests)

of-some : (m n : ℕ) → 0 < cond {A = ℕ} (nat_lt 0 m) n 0 → 0 < m
of-some m n some = grind (arith, nat_tests)

module _ {T U : Type 0} where
  -- a slot whose publisher keeps lists shows how many, and any other none
  pub shown-lists : (n : ℕ) (s : SlotState T U) → 0 < s.content.lists → (content_of n s).lists ≡ n
  shown-lists n s some = some-lists s.content.lists n some

  pub shown-none : (n : ℕ) (s : SlotState T U) → s.content.lists ≡ 0 → (content_of n s).lists ≡ 0
  shown-none n s none = ap (λ m. cond {A = ℕ} (nat_lt 0 m) n 0) none

  pub from-shown : (n : ℕ) (s : SlotState T U) → 0 < (content_of n s).lists → 0 < s.content.lists
  from-shown n s some = of-some s.content.lists n some

  -- one where the slot has cells that can be handed out as a list
  abbrev pub one_if_open : ContentState T U → ℕ
  one_if_open content = cond (has_cells_to_hand_out content) 1 0

  pub not-open : (content : ContentState T U) → content.cells ≡ [] → one_if_open content ≡ 0
  not-open content none = ap (λ cells. cond {A = ℕ} (nat_lt 0 content.lists && nat_lt 0 (length cells)) 1 0) none
      ∙ ap (λ b. cond {A = ℕ} b 1 0) (and-false (nat_lt 0 content.lists))

  pub open-once : (content : ContentState T U) → one_if_open content ≤ 1
  open-once content = by (has_cells_to_hand_out content) where
    by : (b : Bool) → cond {A = ℕ} b 1 0 ≤ 1
    by true = omega arith
    by false = omega arith

  -- a slot of a publisher without lists isn't counted
  pub never-open : (content : ContentState T U) → content.lists ≡ 0 → one_if_open content ≡ 0
  never-open content none = ap (λ n. cond {A = ℕ} (nat_lt 0 n && nat_lt 0 (length content.cells)) 1 0) none

  -- one with cells is
  pub is-open : (content : ContentState T U) → 0 < content.lists → 0 < length content.cells → one_if_open content ≡ 1
  is-open content lists cells = ap (λ b. cond {A = ℕ} b 1 0) (lt-both content.lists (length content.cells) lists cells)

  -- what a list and the want of one say of a slot
  pub has-some : (s : SlotState T U) → slot_has_list s ≡ true → (0 < s.content.lists) × (0 < s.cell_room)
  has-some s has = both-lt s.content.lists s.cell_room has

  pub waits-for : (s : SlotState T U) → slot_waits s ≡ true
      → (0 < s.content.lists) × (s.cell_room ≡ 0) × (0 < length s.content.cells)
  waits-for s is = zero-lt s.content.lists s.cell_room (length s.content.cells) is

  -- a list that is long enough is one
  pub long-has : (most : ℕ) (s : SlotState T U) → ShowsAtMost most s
      → one_if_long most s ≤ cond {A = ℕ} (slot_has_list s) 1 0
  long-has most s shows = one-less s.content.lists s.cell_room most (λ some. (shows.0 some).1)

  -- it is one at most, and none where it is shorter
  pub long-once : (most : ℕ) (s : SlotState T U) → one_if_long most s ≤ 1
  long-once most s = at-most s.content.lists s.cell_room most

  pub short-none : (most : ℕ) (s : SlotState T U) → s.cell_room < most → one_if_long most s ≡ 0
  short-none most s short = too-short s.content.lists s.cell_room most short

  pub long-none : (most : ℕ) (s : SlotState T U) → ShowsAtMost most s → slot_has_list s ≡ false → one_if_long most s ≡ 0
  long-none most s shows none =
      let no : one_if_long most s ≤ 0 =
      subst (λ b. one_if_long most s ≤ cond {A = ℕ} b 1 0) none (long-has most s shows) in
      omega (arith, no)

  -- a slot with a list that is long enough has cells
  pub long-open : (most n : ℕ) (s : SlotState T U) → ShowsAtMost most s → ListsCells s → (0 < s.content.lists → 0 < n)
      → one_if_long most s ≤ one_if_open (content_of n s)
  long-open most n s shows lists more = by (slot_has_list s) refl where
    by : (b : Bool) → slot_has_list s ≡ b → one_if_long most s ≤ one_if_open (content_of n s)
    by true e =
        let some = (has-some s e).0 in
        let is = is-open (content_of n s) (subst (λ m. 0 < m) (sym (shown-lists n s some)) (more some)) (lists e) in
        let no : one_if_long most s ≤ 1 =
        subst (λ b. one_if_long most s ≤ cond {A = ℕ} b 1 0) e (long-has most s shows) in
        omega (arith, is, no)
    by false e = omega (arith, long-none most s shows e)
