-- A publisher that leaves lets go of its slots.
use Rattle.std.specs.Prelude.{◌≡◌, ℕ, Bool, if◌then◌else◌, not, ◌+◌, ◌&&◌, List, [], length, slice_index}
use Rattle.iox2_connections.specs.Link.{Link, other_slots}
use Rattle.iox2_machine.specs.machine.Numbers.{is_nil}
use Rattle.iox2_connections.specs.Counters.{times, stands_in}

-- The connection, in which what waits is lost but where it is awaited, and what was given back is reclaimed.
abbrev pub left_link : (awaited : Bool) → Link → Link
left_link awaited c =
    record c { waiting = if awaited then c.waiting else []; returned = []; others = if awaited then c.others else [] }

-- Some slot waits or is borrowed.
abbrev pub holds_slots : Link → Bool
holds_slots c = not (is_nil (other_slots c) && (is_nil c.waiting && is_nil c.borrowed))

-- Each slot has one holder less for each place where it stood in the connection and stands no more.
pub record ReleasesFrom (holders : List ℕ) (old : Link) (holders' : List ℕ) (new : Link) : Type 0 where
  pub counters : (slot : ℕ)
      → slice_index holders' slot + stands_in slot old ≡ slice_index holders slot + stands_in slot new
  pub slots : length holders' ≡ length holders

-- Each slot has one holder less for each place where it stands among these.
pub record Releases (given holders holders' : List ℕ) : Type 0 where
  pub counters : (slot : ℕ) → slice_index holders' slot + times slot given ≡ slice_index holders slot
  pub slots : length holders' ≡ length holders
