-- A publisher that leaves lets go of its slots, one after the other.
use Rattle.std.proofs.Common.{◌≡◌, ℕ, ◌+◌, ◌<◌, ◌≤◌, List, length, drop, get_or, ◌∙◌, arith}
use Rattle.std.proofs.lemmas.List.{length-set}
use Rattle.std.specs.Prelude.{slice_get}
use Rattle.std.specs.declared.option.Option.TheVariants.{Some}
use Rattle.iox2_connections.specs.Counters.{times, one_holder_less}
use Rattle.iox2_connections.proofs.Counts.{one_if_same, get_or-one_holder_less}
use Rattle.iox2_connections.proofs.SplitLists.{times-split}

-- ---- a history is given up

-- the slots of the history below this index were given up
pub record GivesUpTo (slots holders : List ℕ) (index : ℕ) (holders' : List ℕ) : Type 0 where
  pub counters : (slot : ℕ)
      → get_or holders' slot 0 + times slot slots ≡ get_or holders slot 0 + times slot (drop index slots)
  pub kept : length holders' ≡ length holders

module _ (slots holders : List ℕ) (index slot : ℕ) (holders' : List ℕ) (h : GivesUpTo slots holders index holders')
    (at : slice_get slots index ≡ Some slot)
    (covered : (s : ℕ) → times s slots ≤ get_or holders s 0) where
  -- the next slot has a holder
  pub next-held : 0 < get_or holders' slot 0
  next-held = omega (arith, h.counters slot, times-split slots index slot at slot, one_if_same slot, covered slot)

  -- it is given up
  pub next-given : GivesUpTo slots holders (index + 1) (one_holder_less slot holders')
  next-given = record {
    counters = λ s. omega
        (arith, h.counters s, times-split slots index slot at s, get_or-one_holder_less holders' slot s next-held);
    kept = length-set holders' slot _ ∙ h.kept;
  }
