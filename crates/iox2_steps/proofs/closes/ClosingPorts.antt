-- Ports that close or are left: where they stand, and what their books count.
use Rattle.std.proofs.Common.{◌≡◌, ℕ, get_or, ap}
use Rattle.std.specs.Prelude.{slice_index}
use Rattle.std.specs.declared.option.Option.TheVariants.{None, Some}
use Rattle.std.specs.Option.{option_map_or}
use Rattle.slab.specs.Slab.{get}
use Rattle.iox2_slots.specs.SlotBook.{Book}
use Rattle.iox2_machine.specs.machine.Records.{Subscriber}
use Rattle.iox2_domain.specs.Ports.{PublisherFields, SubscriberFields}
use Rattle.iox2_domain.specs.Kept.{state_of}
use Rattle.iox2_domain.specs.Fields.{Fields, kept_of, subscriber_of, number_in_slot}
use Rattle.iox2_domain.specs.Invariant.{IsDomain}
use Rattle.iox2_domain.proofs.lemmas.slots.PublisherBooks.{book-own}
use Rattle.iox2_domain.proofs.lemmas.slots.Holders.{book-by_id}
use Rattle.iox2_domain.proofs.lemmas.fields.NamedPorts.{named-there}

module _ {T U : Type 0} (f : Fields T U) (sound : IsDomain f) where
  -- a subscriber that the state has stands somewhere
  pub subscriber-there : (q : ℕ) (z : Subscriber) → (state_of (kept_of f)).subscribers q ≡ Some z
      → (j : ℕ) × (y : SubscriberFields) × (get_or f.subscribers j None ≡ Some y) × (y.id ≡ q)
      × (z ≡ (subscriber_of f.books f.connections y).port)
  subscriber-there q = named-there (subscriber_of f.books f.connections) q f.subscribers

  -- ---- its book

  module _ (i : ℕ) (x : PublisherFields) (here : get_or f.publishers i None ≡ Some x) where
    -- the number of each of its slots
    pub its-number : (b : Book) → get f.books x.book ≡ Some b → (slot : ℕ)
        → number_in_slot f.books x.id slot ≡ slice_index b.numbers slot
    its-number b at slot = ap (λ o. option_map_or (λ (c : Book). slice_index c.numbers slot) o 0)
        (book-by_id f.books x.book x.id b (sound.parts.books.one_each x.id) at (book-own f sound.parts i x here b at))
