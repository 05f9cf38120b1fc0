-- Messages that are slices.
use Rattle.std.specs.Prelude.{ℕ, List, map, true, false, ◌≡◌}
use Rattle.std.specs.declared.option.Option.{Option}
use Rattle.std.specs.declared.option.Option.TheVariants.{Some}
use Rattle.iox2_machine.specs.SingleValues.{is_single_valued}
use Rattle.iox2_machine.specs.machine.Records.{Entry}
use Rattle.iox2_machine.specs.declared.key.Key.{Key}
use Rattle.iox2_domain.specs.Kept.{Kept, state_of, entries_of}
use Rattle.iox2_domain.specs.LoanCalls.{HasCells}

module _ {T U F G : Type 0} (domain : Kept T U F G) where
  -- In the domain a message isn't a single value of one unit, so that its payload is handed out as a slice.
  unfoldable pub HoldsSlices : Type 0
  HoldsSlices = is_single_valued domain.config ≡ false

  -- So it is, and the cells of a loan that isn't written are handed out too.
  pub record IsSliced : Type 0 where
    pub holds : HoldsSlices
    pub lists_cells : (domain.config).lists_cells ≡ true

  -- The unwritten loan with this number has these cells.
  unfoldable pub HasUnwrittenCells : (number : ℕ) → List (Option T) → Type 0
  HasUnwrittenCells number cells = HasCells (state_of domain) number cells

  -- The written loan with this number has these values.
  unfoldable pub HasValues : (number : ℕ) → List T → Type 0
  HasValues number values = HasCells (state_of domain) number (map Some values)

  -- The sample with this key has these values.
  unfoldable pub SampleHasValues : Key → List T → Type 0
  SampleHasValues key values =
      (entry : Entry T U) × (entries_of domain key.message ≡ Some entry) × (entry.values ≡ values)
