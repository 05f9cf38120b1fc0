-- A publisher that closes goes over keys.
use Rattle.std.proofs.Common.{ℕ, List, Option, ◌⊎◌, ap, refl, ◌∙◌}
use Rattle.slab.specs.Slab.{Slab}
use Rattle.iox2_connections.specs.Link.{Link}
use Rattle.iox2_slots.specs.SlotBook.{Book}
use Rattle.iox2_connections.specs.Counters.{IsCovered, with_counters}
use Rattle.iox2_connections.proofs.Counts.{CountersFollow-trans, IsCovered-follows}
use Rattle.iox2_domain.specs.Ports.{SubscriberFields}
use Rattle.iox2_steps.proofs.closes.LeaveSteps.{leaves-none, leaves-both, leaves-among}
use Rattle.iox2_ports.specs.Leaves.{LeavesCounted}

module _ (p : ℕ) (subscribers : List (Option SubscriberFields)) where
  -- at no key so far
  pub none-left : (keys : ℕ → Type 0) (old : Slab Link) (before : Book) → ((k : ℕ) → keys k → ⊥)
      → LeavesCounted p subscribers keys old before old before
  none-left keys old before none = record {
    connections = leaves-none p subscribers keys old none;
    book = refl;
    counters = record { at = λ slot. refl };
    slots = refl;
  }

  -- at some keys, and then at others
  pub more-left : (first second keys : ℕ → Type 0) (old : Slab Link) (before : Book) (now : Slab Link) (book : Book)
      (new : Slab Link) (after : Book)
      → LeavesCounted p subscribers first old before now book → LeavesCounted p subscribers second now book new after
      → ((k : ℕ) → keys k → first k ⊎ second k) → LeavesCounted p subscribers keys old before new after
  more-left first second keys old before now book new after a b either = record {
    connections = leaves-both p subscribers first second keys old now new a.connections b.connections either;
    book = b.book ∙ ap (λ (it : Book). with_counters it after.holders) a.book;
    counters = CountersFollow-trans p before.holders book.holders after.holders old.slots now.slots new.slots a.counters
        b.counters;
    slots = b.slots ∙ a.slots;
  }

  -- at fewer keys
  pub among-left : (first keys : ℕ → Type 0) (old : Slab Link) (before : Book) (new : Slab Link) (after : Book)
      → LeavesCounted p subscribers first old before new after → ((k : ℕ) → keys k → first k)
      → LeavesCounted p subscribers keys old before new after
  among-left first keys old before new after a among = record {
    connections = leaves-among p subscribers first keys old new a.connections among;
    book = a.book;
    counters = a.counters;
    slots = a.slots;
  }

  -- the counters still cover
  pub still-covered : (keys : ℕ → Type 0) (old : Slab Link) (before : Book) (new : Slab Link) (after : Book)
      → IsCovered p before.holders old.slots → LeavesCounted p subscribers keys old before new after
      → IsCovered p after.holders new.slots
  still-covered keys old before new after covered a =
      IsCovered-follows p before.holders after.holders old.slots new.slots covered a.counters
