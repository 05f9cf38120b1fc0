-- A subscriber that may be unused leaves, or stays.
use Rattle.std.proofs.Common.{◌≡◌, ℕ, true, false, map, get_or, slice_set, None, Some}
use Rattle.std.specs.Option.{option_map}
use Rattle.slab.specs.Slab.{Slab}
use Rattle.iox2_connections.specs.Link.{Link}
use Rattle.iox2_machine.specs.machine.Releases.{freed_if_unused}
use Rattle.iox2_machine.specs.machine.State.{State}
use Rattle.iox2_machine.specs.machine.WellFormed.{MailboxIsWellFormed}
use Rattle.iox2_domain.specs.Departures.{BorrowsNothing, BorrowsSome, DropsUnshared, KnowsKey}
use Rattle.iox2_domain.specs.Fields.{Fields, kept_of}
use Rattle.iox2_domain.specs.Kept.{state_of}
use Rattle.iox2_domain.specs.Invariant.{HasParts}
use Rattle.iox2_domain.specs.Midway.{IsMidway}
use Rattle.iox2_domain.specs.Ports.{SubscriberFields}
use Rattle.iox2_steps.proofs.releases.Idle.{BorrowsNowhere, borrower-used, closed-unused, goes-midway, idle-load}
use Rattle.iox2_steps.proofs.releases.Idle.{nothing-anywhere, open-used, stays-midway}
use Rattle.iox2_steps.proofs.releases.Left.{left-midway}
use Rattle.iox2_steps.proofs.creations.PublishersDue.{due}

-- the fields without the subscriber at a place, with these connections
abbrev pub without_subscriber : {T U : Type 0} → Fields T U → (place : ℕ) → Slab Link → Fields T U
without_subscriber f place connections = record f {
  publishers = map (option_map due) f.publishers;
  subscribers = slice_set f.subscribers place None;
  connections = connections;
}

-- what a step is midway comes to where the subscriber leaves if it is unused
abbrev pub FreesMidway : {T U : Type 0} → Fields T U → (q : ℕ) → Fields T U → Type 0
FreesMidway {T} {U} f q new = (before : Fields T U) (s : State T U) (book : ℕ) → IsMidway before f s book
    → IsMidway before new (freed_if_unused s q) book

module _ {T U : Type 0} (f : Fields T U) (parts : HasParts f) (j : ℕ) (y : SubscriberFields)
    (at_y : get_or f.subscribers j None ≡ Some y)
    (boxes : (p : ℕ) → MailboxIsWellFormed (state_of (kept_of f)) p y.id) where
  -- it is open
  pub stays-open : y.is_open ≡ true → FreesMidway f y.id f
  stays-open is_open before s book midway =
      stays-midway f parts j y at_y before s book (open-used f parts j y at_y is_open) midway

  -- it has borrowed something
  pub stays-used : BorrowsSome f.connections y.id → FreesMidway f y.id f
  stays-used some before s book midway =
      stays-midway f parts j y at_y before s book (borrower-used f parts j y at_y boxes some) midway

  -- it is closed and has borrowed nothing
  pub leaves : y.is_open ≡ false → BorrowsNothing f.connections y.id (KnowsKey y) → (new : Slab Link)
      → DropsUnshared f.publishers y.id (KnowsKey y) f.connections new
      → FreesMidway f y.id (without_subscriber f j new)
  leaves closed nothing new drops before s book midway =
      goes-midway f parts j y at_y before (without_subscriber f j new) s book
      (closed-unused f parts j y at_y closed nowhere) midway.state
      (left-midway f parts j y at_y new drops
      (idle-load f parts j y at_y boxes closed nowhere) closed before s book midway)
    where
      nowhere : BorrowsNowhere f.connections y.id
      nowhere = nothing-anywhere f parts j y at_y boxes nothing
