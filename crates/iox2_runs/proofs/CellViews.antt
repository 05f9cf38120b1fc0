-- One cell of a loan, or one value of a message: what calls on single values and on slices say of it.
use Rattle.std.proofs.Common.{◌≡◌, ◌≢◌, ◌≤◌, ◌<◌, ◌+◌, ℕ, zero, suc, true, false, List, [], ◌∷◌, map, length, replicate}
use Rattle.std.proofs.Common.{refl, sym, ap, subst, ◌∙◌, Option, None, Some}
use Rattle.std.specs.Prelude.{slice_get, slice_set, nat_lt}
use Rattle.std.specs.List.{FoldsTo, enumerate_from, refill}
use Rattle.std.specs.Option.{option_map}
use Rattle.std.proofs.lemmas.Bool.{lt-ltb}
use Rattle.std.proofs.lemmas.List.{length-map}
use Rattle.std.proofs.lemmas.Option.{slice_get-map, slice_get_past, same_Some}
use Rattle.iox2_machine.specs.machine.Loans.{with_cell, written}
use Rattle.iox2_machine.specs.machine.Records.{Entry, Loan}
use Rattle.iox2_machine.specs.machine.SingleCalls.{WriteAllFrom}
use Rattle.iox2_machine.specs.machine.State.{State, Messages, with_loan}
use Rattle.iox2_domain.specs.Kept.{Kept as Domain, state_of, entries_of}
use Rattle.iox2_domain.specs.LoanCalls.{HasCell, HasCells, first_cell_changed, cells_changed}
use Rattle.iox2_domain.specs.Shows.{Shows}
use Rattle.iox2_machine.specs.declared.key.Key.{Key}
use Rattle.iox2_pubsub.specs.Slices.{HasUnwrittenCells, HasValues, SampleHasValues}
use Rattle.iox2_pubsub.proofs.SliceParts.{cells-parts, values-parts}
use Rattle.iox2_runs.specs.Cells.{LoanHasAt, MessageHasAt, WritesAt}
use Rattle.iox2_runs.proofs.CellLists.{index_past, refill_set, cells_set}

-- one element alone has no second
past_first : {A : Type 0} (x : A) (at : ℕ) → at ≢ 0 → slice_get (x ∷ []) at ≡ None
past_first x zero other = absurd (other refl)
past_first x (suc i) other = refl

-- a sample's values are those of its message
pub message-of : {T U F G : Type 0} (old : Domain T U F G) (key : Key) (values : List T)
    → SampleHasValues old key values
    → (entry : Entry T U) × (entries_of old key.message ≡ Some entry) × (entry.values ≡ values)
unfolding SampleHasValues
message-of old key values has = has

module _ {T U F G : Type 0} (old : Domain T U F G) (n : ℕ) where
  alike : (cells cells' : List (Option T)) → HasCells (state_of old) n cells → HasCells (state_of old) n cells'
      → length cells ≡ length cells'
  alike cells cells' has has' =
      ap length (sym has.2 ∙ ap (λ (l : Loan T U). l.cells) (same_Some has.0 has'.0 (sym has.1 ∙ has'.1)) ∙ has'.2)

  -- the cells are those in each state that is shown
  seen : (m : Messages T U) (s : State T U) → Shows old m s → (cells : List (Option T))
      → HasCells (state_of old) n cells → HasCells s n cells
  seen m s shown cells has = subst (λ (t : State T U). HasCells t n cells) (sym shown.state) has

  -- a loan has its cells once
  pub cells-alike : (cells cells' : List (Option T)) → HasUnwrittenCells old n cells → HasUnwrittenCells old n cells'
      → length cells ≡ length cells'
  cells-alike cells cells' has has' = alike cells cells' (cells-parts old n cells has) (cells-parts old n cells' has')

  pub values-alike : (values values' : List T) → HasValues old n values → HasValues old n values'
      → length values ≡ length values'
  values-alike values values' has has' =
      sym (length-map values Some) ∙ alike (map Some values) (map Some values') (values-parts old n values has)
      (values-parts old n values' has') ∙ length-map values' Some

  module _ (at : ℕ) where
    -- ---- reads

    pub cell-read : (cell : Option T) (read : Option (Option T))
        → ((m : Messages T U) (s : State T U) → Shows old m s → HasCell s n cell) → read ≡ slice_get (cell ∷ []) at
        → LoanHasAt old n at read
    cell-read cell read has is = λ m s shown.
        let it = has m s shown in (it.0, it.1, ap (λ (cells : List (Option T)). slice_get cells at) it.2 ∙ sym is)

    pub value-read : (value : T) (read : Option T)
        → ((m : Messages T U) (s : State T U) → Shows old m s → HasCell s n (Some value))
        → read ≡ slice_get (value ∷ []) at
        → LoanHasAt old n at (option_map Some read)
    value-read value read has is = cell-read (Some value) (option_map Some read) has
        (ap (option_map Some) is ∙ sym (slice_get-map Some (value ∷ []) at))

    pub cells-read : (cells : List (Option T)) (read : Option (Option T)) → HasUnwrittenCells old n cells
        → read ≡ slice_get cells at → LoanHasAt old n at read
    cells-read cells read has is = λ m s shown.
        let it = seen m s shown cells (cells-parts old n cells has) in
        (it.0, it.1, ap (λ (cs : List (Option T)). slice_get cs at) it.2 ∙ sym is)

    pub values-read : (values : List T) (read : Option T) → HasValues old n values → read ≡ slice_get values at
        → LoanHasAt old n at (option_map Some read)
    values-read values read has is = λ m s shown.
        let it = seen m s shown (map Some values) (values-parts old n values has) in (
          it.0,
          it.1,
          ap (λ (cs : List (Option T)). slice_get cs at) it.2 ∙ slice_get-map Some values at
              ∙ ap (option_map Some) (sym is),
        )

    pub message-read : (value : T) (read : Option T)
        → ((m : Messages T U) (s : State T U) → Shows old m s
        → (entry : Entry T U) × (m n ≡ Some entry) × (entry.values ≡ value ∷ []))
        → read ≡ slice_get (value ∷ []) at → MessageHasAt old n at read
    message-read value read has is = λ m s shown.
        let it = has m s shown in (it.0, it.1, ap (λ (values : List T). slice_get values at) it.2 ∙ sym is)

    pub messages-read : (values : List T) (read : Option T) → (entry : Entry T U) × (entries_of old n ≡ Some entry)
        × (entry.values ≡ values) → read ≡ slice_get values at → MessageHasAt old n at read
    messages-read values read it is = λ m s shown.
        (it.0, shown.entries n it.0 it.1, ap (λ (vs : List T). slice_get vs at) it.2 ∙ sym is)

    -- ---- writes

    -- nothing is written where there is no cell
    pub nothing-written : (value : T) → LoanHasAt old n at None → WritesAt old old n at value false
    nothing-written value none = λ m s shown.
        let it = none m s shown in (it.0, it.1, index_past (it.0).cells at it.2, shown)

    pub cell-past : (cell : Option T) (value : T) → at ≢ 0
        → ((m : Messages T U) (s : State T U) → Shows old m s → HasCell s n cell) → WritesAt old old n at value false
    cell-past cell value other has = nothing-written value (cell-read cell None has (sym (past_first cell at other)))

    pub cells-past : (cells : List (Option T)) (value : T) → length cells ≤ at → HasUnwrittenCells old n cells
        → WritesAt old old n at value false
    cells-past cells value past has =
        nothing-written value (cells-read cells None has (sym (slice_get_past cells at past)))

    pub values-past : (values : List T) (value : T) → length values ≤ at → HasValues old n values
        → WritesAt old old n at value false
    values-past values value past has =
        nothing-written value (values-read values None has (sym (slice_get_past values at past)))

    module _ (new : Domain T U F G) (value : T) where
      -- the loan's only cell is written
      pub cell-written : (cell : Option T) → at ≡ 0
          → ((m : Messages T U) (s : State T U) → Shows old m s → HasCell s n cell)
          → ((m : Messages T U) (s : State T U) → Shows old m s → (l : Loan T U) × (s.loans n ≡ Some l)
          × Shows new m (with_loan s n (Some (first_cell_changed (Some value) l))))
          → WritesAt old new n at value true
      cell-written cell first has changes = λ m s shown.
          let read = has m s shown in
          let changed = changes m s shown in
          let one : (changed.0).cells ≡ cell ∷ [] =
          ap (λ (l : Loan T U). l.cells) (same_Some changed.0 read.0 (sym changed.1 ∙ read.1)) ∙ read.2 in (
            changed.0,
            changed.1,
            ap (λ (i : ℕ). nat_lt i (length (changed.0).cells)) first
                ∙ ap (λ (cells : List (Option T)). nat_lt 0 (length cells)) one,
            subst (λ (i : ℕ). Shows new m (with_loan s n (Some (with_cell changed.0 i value)))) (sym first) changed.2,
          )

      -- one of its cells is
      one-written : (cells left : List (Option T)) → at < length cells → HasCells (state_of old) n cells
          → left ≡ slice_set cells at (Some value)
          → ((m : Messages T U) (s : State T U) → Shows old m s
          → (l : Loan T U) × (s.loans n ≡ Some l) × Shows new m (with_loan s n (Some (cells_changed left l))))
          → WritesAt old new n at value true
      one-written cells left low has is changes = λ m s shown.
          let read = seen m s shown cells has in
          let changed = changes m s shown in
          let l : Loan T U = changed.0 in
          let same : l.cells ≡ cells =
          ap (λ (k : Loan T U). k.cells) (same_Some l read.0 (sym changed.1 ∙ read.1)) ∙ read.2 in
          let after : refill (length l.cells) l.cells left ≡ slice_set l.cells at (Some value) =
          ap (refill (length l.cells) l.cells) (is ∙ ap (λ (cs : List (Option T)). slice_set cs at (Some value))
          (sym same)) ∙ refill_set l.cells at (Some value) in (
            l,
            changed.1,
            ap (λ (cs : List (Option T)). nat_lt at (length cs)) same ∙ lt-ltb at (length cells) low,
            subst (λ (cs : List (Option T)). Shows new m (with_loan s n (Some (record l { cells = cs })))) after
                changed.2,
          )

      pub cells-written : (cells left : List (Option T)) → at < length cells → HasUnwrittenCells old n cells
          → left ≡ slice_set cells at (Some value)
          → ((m : Messages T U) (s : State T U) → Shows old m s
          → (l : Loan T U) × (s.loans n ≡ Some l) × Shows new m (with_loan s n (Some (cells_changed left l))))
          → WritesAt old new n at value true
      cells-written cells left low has is changes = one-written cells left low (cells-parts old n cells has) is changes

      pub values-written : (values left : List T) → at < length values → HasValues old n values
          → left ≡ slice_set values at value
          → ((m : Messages T U) (s : State T U) → Shows old m s → (l : Loan T U) × (s.loans n ≡ Some l)
          × Shows new m (with_loan s n (Some (cells_changed (map Some left) l))))
          → WritesAt old new n at value true
      values-written values left low has is changes =
          one-written (map Some values) (map Some left) (subst (λ (k : ℕ). at < k) (sym (length-map values Some)) low)
          (values-parts old n values has)
          (ap (map Some) is ∙ cells_set values at value) changes

-- ---- each cell is written

-- a function that always returns this value returns it for each index
pub answers-alike : {F T : Type 0} (step : F → ℕ → T → F → Type 0) (f : F) (value : T)
    → ((i : ℕ) (answer : T) (g : F) → step f i answer g → (answer ≡ value) × (g ≡ f))
    → (answers : List T) (start : ℕ) (last : F)
    → FoldsTo (λ before call after. step before call.0 call.1 after) f (enumerate_from start answers) last
    → map Some answers ≡ replicate (length answers) (Some value)
answers-alike step f value each [] start last calls = refl
answers-alike {F} step f value each (answer ∷ answers) start last calls =
    let first = each start answer calls.0 calls.1 in
    let rest = answers-alike step f value each answers (start + 1) last
    (subst (λ (g : F). FoldsTo (λ before call after. step before call.0 call.1 after) g
    (enumerate_from (start + 1) answers) last) first.1 calls.2) in
    λ i. Some (first.0 i) ∷ rest i

-- so it writes the value into each cell
pub all-written : {T U F G : Type 0} (old new : Domain T U F G) (n : ℕ) (value : T) (answers : List T)
    → map Some answers ≡ replicate (length answers) (Some value)
    → ((m : Messages T U) (s : State T U) → Shows old m s
    → (l : Loan T U) × (s.loans n ≡ Some l) × (s' : State T U) × WriteAllFrom s n l answers s' × Shows new m s')
    → (m : Messages T U) (s : State T U) → Shows old m s
    → (l : Loan T U) × (s.loans n ≡ Some l) × Shows new m (with_loan s n (Some (written l value)))
all-written {T} {U} old new n value answers alike wrote m s shown =
    let it = wrote m s shown in
    let l : Loan T U = it.0 in
    let step : WriteAllFrom s n l answers it.2 = it.3 in
    let cells : map Some answers ≡ replicate (length l.cells) (Some value) =
    alike ∙ ap (λ (k : ℕ). replicate k (Some value)) step.0 in (
      l,
      it.1,
      subst (λ (cs : List (Option T)). Shows new m
          (with_loan s n (Some (record l { cells = cs; is_written = true })))) cells (subst (Shows new m) step.1 it.4),
    )
