-- A publisher that closes leaves connections.
use Rattle.std.specs.Prelude.{◌≡◌, ℕ, List, length}
use Rattle.std.specs.declared.option.Option.{Option}
use Rattle.slab.specs.Slab.{Slab}
use Rattle.iox2_connections.specs.Link.{Link}
use Rattle.iox2_slots.specs.SlotBook.{Book}
use Rattle.iox2_connections.specs.Counters.{CountersFollow, with_counters}
use Rattle.iox2_domain.specs.Closes.{LeavesAt}
use Rattle.iox2_domain.specs.Ports.{SubscriberFields}

-- The publisher p has left its connections at these keys, and its book counts no holder any more that went with them.
pub record LeavesCounted (p : ℕ) (subscribers : List (Option SubscriberFields)) (keys : ℕ → Type 0) (old : Slab Link)
    (before : Book) (new : Slab Link) (after : Book) : Type 0 where
  pub connections : LeavesAt p subscribers keys old new
  pub book : after ≡ with_counters before after.holders
  pub counters : CountersFollow p before.holders old.slots after.holders new.slots
  pub slots : length after.holders ≡ length before.holders
