-- Connections name the keys of books, which stay.
use Rattle.std.proofs.Common.{◌≡◌, ℕ, List, Bool, ap, subst, ◌∙◌, Some}
use Rattle.slab.specs.Slab.{Slab, get}
use Rattle.iox2_connections.specs.Link.{Link}
use Rattle.iox2_machine.specs.machine.Channel.{Channel}
use Rattle.iox2_slots.specs.SlotBook.{Book}
use Rattle.iox2_connections.specs.declared.connection.Home.{Home}
use Rattle.iox2_connections.specs.Homes.{SameHomes}
use Rattle.iox2_connections.proofs.MailboxChanges.{was}
use Rattle.iox2_domain.specs.Invariant.{IsBookOf, NamesBooks}

-- the book of a publisher is found where it was, if each book is there still, with its publisher
pub names-books : (old new : Slab Book) (connections : Slab Link)
    → ((key : ℕ) (b : Book) → get old key ≡ Some b → (d : Book) × (get new key ≡ Some d) × (d.publisher ≡ b.publisher))
    → NamesBooks old connections → NamesBooks new connections
names-books old new connections keeps names = record {
  at = λ key c at.
      let has = names.at key c at in
      let now = keeps c.home.book has.book has.stands in
      record { book = now.0; stands = now.1; is_its = now.2 ∙ has.is_its };
}

-- connections that stay between their ports name the same books
pub names-still : (books : Slab Book) (old new : Slab Link) → SameHomes old new → NamesBooks books old
    → NamesBooks books new
names-still books old new same names = record {
  at = λ key c at.
      let before = was old new key c same at in
      let home : before.0.home ≡ c.home = ap (λ (t : Home × ℕ × ℕ × Bool × List Channel). t.0) before.2 in
      subst (λ (h : Home). IsBookOf books h.publisher h.book) home (names.at key before.0 before.1);
}
