-- A publisher that stands somewhere, with its book and its connections; and the books of connections.
use Rattle.std.proofs.Common.{◌≡◌, ℕ, zero, suc, ◌+◌, ◌<◌, List, [], ◌∷◌, length, get_or, refl, ap, sym, ◌∙◌, arith}
use Rattle.std.specs.declared.option.Option.{Option}
use Rattle.std.specs.declared.option.Option.TheVariants.{None, Some}
use Rattle.std.specs.List.{sum_by}
use Rattle.slab.specs.Slab.{get, ContainsKey}
use Rattle.iox2_connections.specs.Link.{Link}
use Rattle.iox2_slots.specs.SlotBook.{Book, holders_at}
use Rattle.iox2_connections.specs.Counters.{IsCovered, times, stands}
use Rattle.iox2_connections.specs.Reclaims.{IsHeld}
use Rattle.iox2_connections.specs.Homes.{IsSenderLinked}
use Rattle.iox2_connections.proofs.MailboxChanges.{within_if_some}
use Rattle.iox2_connections.proofs.ReclaimedPuts.{held-at}
use Rattle.iox2_domain.specs.Ports.{PublisherFields}
use Rattle.iox2_domain.specs.Fields.{Fields}
use Rattle.iox2_domain.specs.Invariant.{IsBookOf, IsOwned, HasBook, HasParts}
use Rattle.iox2_domain.proofs.lemmas.slots.Holders.{book-holders, own-slots}

-- The book at the publisher's key has as many holders of each slot, at least, as stand in the publisher's connections.
abbrev pub BookCovers : {T U : Type 0} → Fields T U → PublisherFields → Type 0
BookCovers f x = (b : Book) → get f.books x.book ≡ Some b → IsCovered x.id b.holders f.connections.slots

module _ {T U : Type 0} (f : Fields T U) (parts : HasParts f) (i : ℕ) (x : PublisherFields)
    (here : get_or f.publishers i None ≡ Some x) where
  its_book : HasBook f x
  its_book = parts.books.publishers i x here

  -- its book is there
  pub book-there : ContainsKey f.books x.book
  book-there = rw its_book.stands refl

  -- what stands at its book's key is its own
  pub book-own : (b : Book) → get f.books x.book ≡ Some b → b.publisher ≡ x.id
  book-own b at = let same : Some b ≡ Some its_book.book = sym at ∙ its_book.stands in
      let is : b ≡ its_book.book = cc in ap (λ (c : Book). c.publisher) is ∙ its_book.is_its

  -- and it has its book
  pub book-owned : IsOwned f.publishers x.book x.id
  book-owned = record { place = i; publisher = x; stands = here; is_its = refl; has = refl }

  -- its places lead to its connections
  pub sender-linked : IsSenderLinked x.id f.connections x.keys
  sender-linked = parts.linked.senders i x here

  -- its book counts how often each slot stands among the loans, in the history and in connections
  pub book-counts : (b : Book) → get f.books x.book ≡ Some b → (slot : ℕ)
      → holders_at b slot ≡ times slot x.loans + times slot (x.history).items + sum_by
      (stands x.id slot) f.connections.slots
  book-counts b at slot =
      omega (
        arith,
        book-holders f.books x.book x.id b (parts.books.one_each x.id) at (book-own b at) slot,
        own-slots f parts.publisher_ids i x here slot,
        parts.counted.at x.id slot,
      )

  -- which covers those in connections
  pub book-covers : BookCovers f x
  book-covers b at = record {
    at = λ slot. omega (arith, book-counts b at slot);
  }

-- the connections of a domain have their books, which hold what stands in them
module _ {T U : Type 0} (f : Fields T U) (parts : HasParts f) (key : ℕ) (c : Link)
    (at : get f.connections key ≡ Some c) where
  pub its-book : IsBookOf f.books c.home.publisher c.home.book
  its-book = parts.names.at key c at

  pub book-stands : ContainsKey f.books c.home.book
  book-stands = rw its-book.stands refl

  pub link-held : (b : Book) → get f.books c.home.book ≡ Some b → IsHeld b.holders c
  link-held b at_b =
      let same : Some its-book.book ≡ Some b = sym its-book.stands ∙ at_b in
      let is : its-book.book ≡ b = cc in
      let its : b.publisher ≡ c.home.publisher = ap (λ (d : Book). d.publisher) (sym is) ∙ its-book.is_its in
      held-at c.home.publisher b.holders f.connections key c (record {
        at = λ slot. omega (
          arith,
          parts.counted.at c.home.publisher slot,
          book-holders f.books c.home.book c.home.publisher b (parts.books.one_each c.home.publisher) at_b its slot,
        );
      }) at refl

-- what was read at a place is what stands there
pub read-there : {A : Type 0} (xs : List (Option A)) (i : ℕ) (x : A) (o : Option A) → get_or xs i None ≡ Some x
    → o ≡ get_or xs i o → get_or xs i None ≡ o
read-there {A} xs i x o at read = any xs i (within_if_some xs i x at) ∙ sym read where
  any : (ys : List (Option A)) (k : ℕ) → k < length ys → get_or ys k None ≡ get_or ys k o
  any [] k lt = absurd (omega arith)
  any (y ∷ ys) zero lt = refl
  any (y ∷ ys) (suc k) lt = any ys k (omega arith)
