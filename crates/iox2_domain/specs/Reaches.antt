-- The outcome of a step on the fields of a domain.
use Rattle.std.specs.Prelude.{◌≡◌, ℕ}
use Rattle.std.specs.declared.option.Option.TheVariants.{Some}
use Rattle.iox2_machine.specs.machine.Records.{Entry}
use Rattle.iox2_machine.specs.machine.State.{State}
use Rattle.iox2_domain.specs.Kept.{state_of, entries_of}
use Rattle.iox2_domain.specs.Fields.{Fields, kept_of}
use Rattle.iox2_domain.specs.Invariant.{IsDomain, IsDomainBut}
use Rattle.iox2_domain.specs.KeptPlaces.{KeepsPlaces}
use Rattle.iox2_domain.specs.KeptLinks.{HasLink}
use Rattle.slab.specs.Slab.{get}
use Rattle.iox2_connections.specs.Link.{Link}

-- The fields agree and keep this state afterwards, and keep no entry that they didn't keep before.
pub record Reaches {T U : Type 0} (old new : Fields T U) (s : State T U) : Type 0 where
  pub agrees : IsDomain new
  pub state : state_of (kept_of new) ≡ s
  pub entries : (n : ℕ) (entry : Entry T U) → entries_of (kept_of new) n ≡ Some entry
      → entries_of (kept_of old) n ≡ Some entry
  pub places : KeepsPlaces old new

-- The fields keep this state afterwards, and no entry that they didn't keep before. They agree, except that maybe
-- nobody holds a slot of the book at the key. Each connection was there before, with the same channels.
pub record ReachesBut {T U : Type 0} (key : ℕ) (old new : Fields T U) (s : State T U) : Type 0 where
  pub agrees : IsDomainBut key new
  pub state : state_of (kept_of new) ≡ s
  pub channels : (k : ℕ) (d : Link) → get new.connections k ≡ Some d → HasLink old.connections d
  pub entries : (n : ℕ) (entry : Entry T U) → entries_of (kept_of new) n ≡ Some entry
      → entries_of (kept_of old) n ≡ Some entry
  pub places : KeepsPlaces old new
