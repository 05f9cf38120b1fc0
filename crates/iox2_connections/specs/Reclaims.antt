-- A publisher reclaims the slots that its subscribers gave back.
use Rattle.std.specs.Prelude.{◌≡◌, ℕ, ◌+◌, ◌≤◌, List, length, slice_index}
use Rattle.slab.specs.Slab.{Slab}
use Rattle.iox2_connections.specs.Link.{Link}
use Rattle.iox2_connections.specs.Mailboxes.{mailboxes_of}
use Rattle.iox2_connections.specs.Counters.{stands_in}
use Rattle.iox2_connections.specs.Recounts.{Recounts}

-- The publisher p reclaimed slots: no mailbox changes, and each slot that it reclaimed has one holder less.
pub record Reclaims (p : ℕ) (holders : List ℕ) (old : Slab Link) (holders' : List ℕ) (new : Slab Link) : Type 0 where
  pub mailboxes : (number : ℕ → ℕ → ℕ) → mailboxes_of number new ≡ mailboxes_of number old
  pub recounts : Recounts p holders old holders' new
  pub shrinks : (slot : ℕ) → slice_index holders' slot ≤ slice_index holders slot

-- No slot stands in the connection more often than its counter says.
pub record IsHeld (holders : List ℕ) (c : Link) : Type 0 where
  pub at : (slot : ℕ) → stands_in slot c ≤ slice_index holders slot

-- Slots were reclaimed from one connection: nothing else of it changes, and each of them has one holder less.
pub record ReclaimsFrom (holders : List ℕ) (old : Link) (holders' : List ℕ) (new : Link) : Type 0 where
  pub kept : new ≡ record old { returned = new.returned }
  pub fewer : length new.returned ≤ length old.returned
  pub counters : (slot : ℕ)
      → slice_index holders' slot + stands_in slot old ≡ slice_index holders slot + stands_in slot new
  pub shrinks : (slot : ℕ) → slice_index holders' slot ≤ slice_index holders slot
  pub slots : length holders' ≡ length holders
