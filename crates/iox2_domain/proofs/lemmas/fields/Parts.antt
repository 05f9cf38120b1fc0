-- What always holds of a domain's fields, apart from what they keep.
use Rattle.std.proofs.Common.{◌≡◌, ◌≢◌, ◌⊎◌, ℕ, inr, refl, get_or}
use Rattle.std.specs.declared.option.Option.TheVariants.{None, Some}
use Rattle.slab.specs.Slab.{Slab, get}
use Rattle.iox2_connections.specs.Link.{Link}
use Rattle.iox2_connections.specs.Homes.{IsApart}
use Rattle.iox2_slots.specs.SlotBook.{Book}
use Rattle.iox2_machine.specs.machine.WellFormed.{IsWellFormed}
use Rattle.iox2_domain.specs.Kept.{state_of}
use Rattle.iox2_domain.specs.Fields.{Fields, kept_of}
use Rattle.iox2_domain.specs.Shows.{KeepsEntries}
use Rattle.iox2_domain.specs.Invariant.{IsDomain, IsDomainBut, HasParts, HasBooks, HasExpiredRoom, IsCounted, IsLinked}
use Rattle.iox2_domain.specs.Invariant.{NamesBooks, HasLoneLoans, KeepsBooks, IsOwned, IsLeft, IsGone, HasBook}
use Rattle.iox2_domain.specs.Invariant.{HasShapes, is_subscriber}
use Rattle.iox2_domain.specs.Midway.{IsMidway}
use Rattle.iox2_domain.specs.Ports.{PublisherFields}
use Rattle.iox2_connections.specs.LookUp.{IsOnly}
use Rattle.iox2_machine.specs.machine.Limits.{warning_limit}
use Rattle.iox2_domain.proofs.lemmas.fields.PlacesKept.{places-still}

module _ {T U : Type 0} (f : Fields T U) where
  -- fields that agree are a domain's where each loan has one holder, each book is somebody's or left, and what they
  -- keep is well-formed and has its entries
  pub whole_of : HasParts f → HasLoneLoans f.books → KeepsBooks f.next_port f.publishers f.books
      → IsWellFormed (state_of (kept_of f)) → KeepsEntries (kept_of f) → IsDomain f
  whole_of parts lone kept well entries = assumption

  -- and they are so but for one book where the others are
  pub but-of : (key : ℕ) → HasParts f → HasLoneLoans f.books
      → ((k : ℕ) (b : Book) → k ≢ key → get f.books k ≡ Some b
      → IsOwned f.publishers k b.publisher ⊎ IsLeft f.next_port f.publishers b)
      → ((b : Book) → get f.books key ≡ Some b → IsGone f.next_port f.publishers b.publisher)
      → IsWellFormed (state_of (kept_of f)) → KeepsEntries (kept_of f) → IsDomainBut key f
  but-of key parts lone kept left well entries = assumption

  -- it is a step midway, at which nothing is done yet
  pub midway-but : (key : ℕ) → IsDomainBut key f → IsMidway f f (state_of (kept_of f)) key
  midway-but key sound = record {
    consistent = sound.parts;
    lone = sound.lone;
    kept_books =
        record { own = λ b at. inr (sound.left_book b at); others = λ k b away at. sound.kept_books k b away at };
    state = refl;
    channels = λ k d at. record { key = k; link = d; stands = at; home = refl; channels = refl };
    entries = λ n entry e. e;
    places = places-still;
    complete = sound.entries;
  }

  -- The fields with the configuration, the counter of messages, the publishers, the books and their contents of `f`.
  abbrev pub beside : Fields T U → Fields T U
  beside g = record g {
    config = f.config;
    next_message = f.next_message;
    publishers = f.publishers;
    books = f.books;
    contents = f.contents;
  }

  -- the books are as they were beside anything else
  pub books_in : (g : Fields T U) → HasBooks f → HasBooks (beside g)
  books_in g books =
      let publishers : (i : ℕ) (x : PublisherFields) → get_or f.publishers i None ≡ Some x → HasBook (beside g) x =
      λ i x at.
      (let has : HasBook f x = books.publishers i x at in
      record {
        book = has.book;
        stands = has.stands;
        is_its = has.is_its;
        node = has.node;
        slots = has.slots;
        room = has.room;
      }) in
      assumption

  -- the parts agree with other subscribers, connections and warnings where these do
  pub other_parts : HasParts f → (g : Fields T U) → ((q : ℕ) → IsOnly (is_subscriber q) g.subscribers)
      → IsApart g.connections → IsLinked (beside g) → HasExpiredRoom g.subscribers g.connections
      → NamesBooks f.books g.connections → IsCounted (beside g) → (g.warnings).capacity ≡ warning_limit
      → HasParts (beside g)
  other_parts parts g ids apart linked room names counted warned =
      let books : HasBooks (beside g) = books_in g parts.books in
      let shapes : HasShapes (beside g) = record { at = parts.shapes.at } in
      assumption

  -- so with other connections alone
  pub connected_parts : HasParts f → (new : Slab Link) → IsApart new → IsLinked (record f { connections = new })
      → HasExpiredRoom f.subscribers new → NamesBooks f.books new
      → IsCounted (record f { connections = new }) → HasParts (record f { connections = new })
  connected_parts parts new apart linked room names counted =
      other_parts parts
      (record f { connections = new }) parts.subscriber_ids apart linked room names counted parts.warning_room
