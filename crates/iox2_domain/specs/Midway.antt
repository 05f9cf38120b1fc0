-- A step midway, at which ports may leave.
use Rattle.std.specs.Prelude.{◌≡◌, ℕ}
use Rattle.std.specs.declared.option.Option.TheVariants.{Some}
use Rattle.iox2_machine.specs.machine.Records.{Entry}
use Rattle.iox2_machine.specs.machine.State.{State}
use Rattle.slab.specs.Slab.{get}
use Rattle.iox2_connections.specs.Link.{Link}
use Rattle.iox2_domain.specs.Kept.{state_of, entries_of}
use Rattle.iox2_domain.specs.Fields.{Fields, kept_of}
use Rattle.iox2_domain.specs.KeptLinks.{HasLink}
use Rattle.iox2_domain.specs.Shows.{KeepsEntries}
use Rattle.iox2_domain.specs.Invariant.{HasParts, HasLoneLoans, KeepsBooksBut}
use Rattle.iox2_domain.specs.KeptPlaces.{KeepsPlaces}

module _ {T U : Type 0} where
  -- The state with the channels of the connections that these fields have.
  abbrev pub with_channels_of : Fields T U → State T U → State T U
  with_channels_of f s = record s { channels = (state_of (kept_of f)).channels }

  -- The fields agree with one another, except in what they keep, and except that the book at the key may be kept for
  -- nobody. They keep this state, except its channels, and no entry that they didn't keep before. Each connection was
  -- there before, with the same channels.
  pub record IsMidway (old new : Fields T U) (s : State T U) (key : ℕ) : Type 0 where
    pub consistent : HasParts new
    pub lone : HasLoneLoans new.books
    pub kept_books : KeepsBooksBut new.next_port new.publishers new.books key
    pub state : state_of (kept_of new) ≡ with_channels_of new s
    pub channels : (key : ℕ) (d : Link) → get new.connections key ≡ Some d → HasLink old.connections d
    pub entries : (n : ℕ) (entry : Entry T U) → entries_of (kept_of new) n ≡ Some entry
        → entries_of (kept_of old) n ≡ Some entry
    pub places : KeepsPlaces old new
    pub complete : KeepsEntries (kept_of new)

  -- Nothing changed except books and what lies in their slots.
  abbrev pub ChangesBooks : (old new : Fields T U) → Type 0
  ChangesBooks old new = new ≡ record old { books = new.books; contents = new.contents }
