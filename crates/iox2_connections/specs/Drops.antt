-- What waits in a connection is lost.
use Rattle.std.specs.Prelude.{◌≡◌, ℕ, ◌+◌, ◌≤◌, List, [], length, slice_index}
use Rattle.std.specs.declared.option.Option.TheVariants.{None, Some}
use Rattle.slab.specs.Slab.{Slab, Updates, get, with_value}
use Rattle.iox2_connections.specs.Link.{Link, borrowed_alone}
use Rattle.iox2_machine.specs.machine.Mailbox.{waiting_dropped}
use Rattle.iox2_connections.specs.Mailboxes.{mailboxes_of, with_box}
use Rattle.iox2_connections.specs.Counters.{stands_in}
use Rattle.iox2_connections.specs.Recounts.{Recounts}

-- The connection in which nothing waits.
abbrev pub without_waiting : Link → Link
without_waiting c = record c { waiting = []; others = [] }

-- Slots that waited in the connection went: nothing else of it changes, and each of them has one holder less.
pub record DropsFrom (holders : List ℕ) (old : Link) (holders' : List ℕ) (new : Link) : Type 0 where
  pub kept : new ≡ record old { waiting = new.waiting; others = new.others }
  pub counters : (slot : ℕ)
      → slice_index holders' slot + stands_in slot old ≡ slice_index holders slot + stands_in slot new
  pub shrinks : (slot : ℕ) → slice_index holders' slot ≤ slice_index holders slot
  pub slots : length holders' ≡ length holders

-- What waits in the connection at the key is lost, and what was given back there is reclaimed. Each of these slots of
-- the publisher p has one holder less.
pub record DropsAll (p : ℕ) (holders : List ℕ) (old : Slab Link) (key : ℕ) (holders' : List ℕ)
    (new : Slab Link) : Type 0 where
  pub link : Link
  pub stood : get old key ≡ Some link
  pub updates : Updates old new key (Some (borrowed_alone link))
  pub mailboxes : (number : ℕ → ℕ → ℕ) → mailboxes_of number new
      ≡ with_box (mailboxes_of number old) p link.home.subscriber
      (waiting_dropped (mailboxes_of number old p link.home.subscriber))
  pub recounts : Recounts p holders old holders' new
  pub shrinks : (slot : ℕ) → slice_index holders' slot ≤ slice_index holders slot

-- The connection at the key, from which nothing is borrowed, has lost what waited there, and is gone.
pub record RemovesConnection (p : ℕ) (holders : List ℕ) (old : Slab Link) (key : ℕ) (holders' : List ℕ)
    (new : Slab Link) : Type 0 where
  pub mid : Slab Link
  pub drops : DropsAll p holders old key holders' mid
  pub unused : (drops.link).borrowed ≡ []
  pub gone : Updates mid new key None

-- The connection at the key is gone, and what waited in it is lost.
pub record RemovesDropped (holders : List ℕ) (old : Slab Link) (key : ℕ) (link : Link) (holders' : List ℕ)
    (new : Slab Link) : Type 0 where
  pub drops : DropsFrom holders link holders' (without_waiting link)
  pub goes : Updates (with_value old key (without_waiting link)) new key None

-- All that waited in the connection at the key is lost, and each of these slots has one holder less.
pub record DropsWaiting (key : ℕ) (holders : List ℕ) (old : Slab Link) (holders' : List ℕ)
    (new : Slab Link) : Type 0 where
  pub link : Link
  pub stands : get old key ≡ Some link
  pub drops : DropsFrom holders link holders' (without_waiting link)
  pub new_is : new ≡ with_value old key (without_waiting link)
