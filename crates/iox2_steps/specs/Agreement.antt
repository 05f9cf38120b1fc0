-- What holds of a domain's fields in the midst of a close, and what a step of the close does.
use Rattle.std.specs.Prelude.{◌≡◌, ◌⊎◌, ℕ}
use Rattle.std.specs.declared.option.Option.{Option}
use Rattle.std.specs.declared.option.Option.TheVariants.{Some}
use Rattle.std.specs.Option.{option_and_then}
use Rattle.slab.specs.Slab.{get}
use Rattle.iox2_connections.specs.Link.{Link}
use Rattle.iox2_slots.specs.SlotBook.{Book}
use Rattle.iox2_machine.specs.machine.State.{State}
use Rattle.iox2_domain.specs.Kept.{KeptMessage, state_of}
use Rattle.iox2_domain.specs.KeptLinks.{HasLink}
use Rattle.iox2_domain.specs.Midway.{with_channels_of}
use Rattle.iox2_domain.specs.Fields.{Fields, kept_of, message_in, contents_at}
use Rattle.iox2_domain.specs.Invariant.{HasLoneLoans, HasNumber, HasParts, IsOwned, IsGone}

module _ {T U : Type 0} where
  -- The book's publisher is gone.
  abbrev pub IsOrphan : Fields T U → Book → Type 0
  IsOrphan f b = IsGone f.next_port f.publishers b.publisher

  -- The publisher of each book stands, or it is gone.
  pub record HasOwners (f : Fields T U) : Type 0 where
    pub at : (key : ℕ) (b : Book) → get f.books key ≡ Some b → IsOwned f.publishers key b.publisher ⊎ IsOrphan f b

  -- The fields agree with one another, each loan has one holder, and the publisher of each book stands or is gone. What
  -- they keep needn't be well-formed.
  pub record HasOwnedParts (f : Fields T U) : Type 0 where
    pub parts : HasParts f
    pub lone : HasLoneLoans f.books
    pub owners : HasOwners f

  -- The message that lies in a slot of the book at a key.
  abbrev pub message_lying : Fields T U → (key slot : ℕ) → Option (KeptMessage T U)
  message_lying f key slot = option_and_then (λ b. message_in b (contents_at f.contents key) slot) (get f.books key)

  -- Nothing newly lies in a slot, and what lies in a slot that is still in use stays.
  pub record KeepsMessages (old new : Fields T U) : Type 0 where
    pub back : (key slot : ℕ) (m : KeptMessage T U) → message_lying new key slot ≡ Some m
        → message_lying old key slot ≡ Some m
    pub forth : (key slot n : ℕ) (m : KeptMessage T U) → HasNumber new.books key slot n
        → message_lying old key slot ≡ Some m → message_lying new key slot ≡ Some m
    pub number : (key slot n : ℕ) → HasNumber new.books key slot n → HasNumber old.books key slot n

  -- The fields agree and keep this state afterwards, except its channels. Of the messages they keep those that somebody
  -- still holds. Each connection was there before, with the same channel.
  pub record Passes (old new : Fields T U) (s : State T U) : Type 0 where
    pub parts : HasOwnedParts new
    pub state : state_of (kept_of new) ≡ with_channels_of new s
    pub channels : (key : ℕ) (d : Link) → get new.connections key ≡ Some d → HasLink old.connections d
    pub messages : KeepsMessages old new
