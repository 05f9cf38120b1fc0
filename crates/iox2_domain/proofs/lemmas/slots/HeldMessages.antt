-- Whatever stands in a loan, a history or a connection is a slot in use, in which its message lies.
use Rattle.std.proofs.Common.{◌≡◌, ℕ, ◌+◌, ◌<◌, ◌≤◌, true, eqb, List, [], ◌∷◌, map, get_or, refl, ap, sym, subst, ◌∙◌}
use Rattle.std.proofs.Common.{inl, inr, arith}
use Rattle.std.proofs.lemmas.Bool.{eqb-true}
use Rattle.std.proofs.lemmas.List.Sums.{get_or-le-sum_by}
use Rattle.std.specs.Prelude.{slice_index}
use Rattle.std.specs.declared.option.Option.{Option}
use Rattle.std.specs.declared.option.Option.TheVariants.{None, Some}
use Rattle.std.specs.Option.{option_map, option_map_or}
use Rattle.std.specs.List.{sum_by}
use Rattle.slab.specs.Slab.{get}
use Rattle.iox2_connections.specs.Link.{Link}
use Rattle.iox2_slots.specs.SlotBook.{Book, holders_at}
use Rattle.iox2_machine.specs.machine.Numbers.{contains}
use Rattle.iox2_machine.specs.machine.Mailbox.{numbers_in}
use Rattle.iox2_machine.specs.machine.Records.{Publisher, BlockedSend}
use Rattle.iox2_machine.specs.Stored.{IsHeldMessage, In_history, In_mailbox, In_blocked_send}
use Rattle.iox2_connections.specs.LookUp.{look_up, IsOnly}
use Rattle.iox2_connections.specs.Counters.{times, stands_in, stands}
use Rattle.iox2_connections.specs.Mailboxes.{is_between, mailbox_if_any, sender_ends}
use Rattle.iox2_connections.proofs.LookUps.{look_up-there}
use Rattle.iox2_connections.proofs.MailboxChanges.{within_if_some, both-true}
use Rattle.iox2_connections.proofs.Counts.{times-cons, one_if_same, stands-own}
use Rattle.iox2_laws.proofs.NumberLemmas.{contains_in_cons}
use Rattle.iox2_domain.specs.Ports.{PublisherFields}
use Rattle.iox2_domain.specs.declared.publisher_state.BlockedDelivery.{BlockedDelivery}
use Rattle.iox2_domain.specs.Kept.{state_of}
use Rattle.iox2_domain.specs.Fields.{Fields, kept_of, publisher_of, is_book_of, number_in_slot, blocked_send}
use Rattle.iox2_domain.specs.Invariant.{IsCounted, HasNumber, is_publisher, holders_of, IsPlain}
use Rattle.iox2_domain.proofs.lemmas.fields.Views.{mailboxes-are}
use Rattle.iox2_domain.proofs.lemmas.slots.BoxNumbers.{slot-of_number}
use Rattle.iox2_domain.proofs.lemmas.slots.Holders.{own-slots}
use Rattle.iox2_domain.proofs.lemmas.fields.NamedPorts.{named-there}

-- a number of a list of slots belongs to one that stands there
pub slot_numbered : (number : ℕ → ℕ) (n : ℕ) (slots : List ℕ) → contains (map number slots) n ≡ true
    → (slot : ℕ) × (0 < times slot slots) × (number slot ≡ n)
slot_numbered number n [] h = absurd cc
slot_numbered number n (slot ∷ slots) h = elim (contains_in_cons (number slot) n (map number slots) h) [
  | inl here ↦ (slot, omega (arith, times-cons slot slot slots, one_if_same slot), here)
  | inr later ↦ let rest = slot_numbered number n slots later in
      (rest.0, omega (arith, times-cons rest.0 slot slots, rest.1), rest.2)
]

module _ {T U : Type 0} (f : Fields T U) where
  -- a slot in use lies in its publisher's book
  pub holders-there : (p slot : ℕ) → 0 < holders_of f.books p slot
      → (key : ℕ) × (b : Book) × (get f.books key ≡ Some b) × (b.publisher ≡ p) × (0 < holders_at b slot)
      × (slice_index b.numbers slot ≡ number_in_slot f.books p slot)
  holders-there p slot in_use = by (look_up (is_book_of p) f.books.slots) refl in_use where
    by : (o : Option Book) → look_up (is_book_of p) f.books.slots ≡ o
        → 0 < option_map_or (λ (b : Book). holders_at b slot) o 0
        → (key : ℕ) × (b : Book) × (get f.books key ≡ Some b) × (b.publisher ≡ p) × (0 < holders_at b slot)
        × (slice_index b.numbers slot ≡ number_in_slot f.books p slot)
    by None e h = absurd (omega arith)
    by (Some b) e h =
        let there = look_up-there (is_book_of p) f.books.slots b e in (
          there.0,
          b,
          there.1,
          eqb-true b.publisher p there.2,
          h,
          sym (ap (λ o. option_map_or (λ (c : Book). slice_index c.numbers slot) o 0) e),
        )

  -- a publisher that the state has stands somewhere
  pub publisher-there : (p : ℕ) (y : Publisher) → (state_of (kept_of f)).publishers p ≡ Some y
      → (i : ℕ) × (x : PublisherFields) × (get_or f.publishers i None ≡ Some x) × (x.id ≡ p)
      × (y ≡ (publisher_of f.books f.connections x).port)
  publisher-there p = named-there (publisher_of f.books f.connections) p f.publishers

  module _ (counted : IsCounted f) (ids : (p : ℕ) → IsOnly (is_publisher p) f.publishers) where
    -- a slot that is a publisher's loan or in its history has a holder
    pub own-in_use : (i slot : ℕ) (x : PublisherFields) → get_or f.publishers i None ≡ Some x
        → 0 < times slot x.loans + times slot (x.history).items → 0 < holders_of f.books x.id slot
    own-in_use i slot x at some =
        omega (arith, counted.at x.id slot, own-slots f ids i x at slot, some)

    -- a slot that stands in a connection has a holder
    pub standing-in_use : (key slot : ℕ) (c : Link) → get f.connections key ≡ Some c → 0 < stands_in slot c
        → 0 < holders_of f.books c.home.publisher slot
    standing-in_use key slot c at some =
        let part : stands c.home.publisher slot (Some c) ≤ sum_by (stands c.home.publisher slot) f.connections.slots =
        rw at at (get_or-le-sum_by (stands c.home.publisher slot) f.connections.slots key None
        (within_if_some f.connections.slots key c at)) in
        omega (arith, counted.at c.home.publisher slot, part, stands-own c.home.publisher slot c refl)

    -- where a message of p that somebody holds lies
    abbrev pub LiesWith : (p n : ℕ) → Type 0
    LiesWith p n = (key slot : ℕ) × (has : HasNumber f.books key slot n) × ((has.book).publisher ≡ p)

    -- a slot in use lies in its publisher's book, with its number
    pub lies_with : (p slot n : ℕ) → 0 < holders_of f.books p slot → number_in_slot f.books p slot ≡ n → LiesWith p n
    lies_with p slot n in_use is =
        let there = holders-there p slot in_use in
        (there.0, slot, record { book = there.1; stands = there.2; in_use = there.4; number = there.5 ∙ is }, there.3)

    moved : (q r : ℕ) → q ≡ r → (slot : ℕ) → 0 < holders_of f.books q slot → 0 < holders_of f.books r slot
    moved q r e slot h = subst (λ (k : ℕ). 0 < holders_of f.books k slot) e h

    -- a message that somebody holds lies in a slot in use
    pub held-message-slot : ((i : ℕ) (x : PublisherFields) → get_or f.publishers i None ≡ Some x → IsPlain x)
        → (p n : ℕ) → IsHeldMessage (state_of (kept_of f)) p n → LiesWith p n
    held-message-slot plain p n (In_history y at is) =
        let there = publisher-there p y at in
        let x = there.1 in
        let slot = slot_numbered (number_in_slot f.books x.id) n x.history.items
        (ap (λ (z : Publisher). contains z.history n) (sym there.4) ∙ is) in
        lies_with p slot.0 n
        (moved x.id p there.3 slot.0 (own-in_use there.0 slot.0 x there.2 (omega (arith, slot.1))))
        (ap (λ (q : ℕ). number_in_slot f.books q slot.0) (sym there.3) ∙ slot.2)
    held-message-slot plain p n (In_mailbox q is) = by (look_up (is_between p q) f.connections.slots) refl
        (ap (λ box. contains (numbers_in box) n) (sym (mailboxes-are f p q)) ∙ is) where
          by : (o : Option Link) → look_up (is_between p q) f.connections.slots ≡ o
              → contains (numbers_in (mailbox_if_any (number_in_slot f.books p) o)) n ≡ true → LiesWith p n
          by None e h = absurd cc
          by (Some c) e h =
              let there = look_up-there (is_between p q) f.connections.slots c e in
              let mine : c.home.publisher ≡ p =
              eqb-true c.home.publisher p (both-true (eqb c.home.publisher p) (eqb c.home.subscriber q) there.2).0 in
              let slot = slot-of_number (number_in_slot f.books p) c n h in
              lies_with p slot.0 n
              (moved c.home.publisher p mine slot.0 (standing-in_use there.0 slot.0 c there.1 slot.1)) slot.2
    held-message-slot plain p n (In_blocked_send y b at blocked is) =
        let there = publisher-there p y at in
        let x = there.1 in
        let waits = blocked-there x (sym (ap (λ (z : Publisher). z.blocked) there.4) ∙ blocked) in
        let slot : ℕ = (waits.0).slot in
        lies_with p slot n
        (moved x.id p there.3 slot
        (own-in_use there.0 slot x there.2 (omega (arith, (plain there.0 x there.2).lent waits.0 waits.1))))
        (ap (λ (q : ℕ). number_in_slot f.books q slot) (sym there.3) ∙ ap (λ (c : BlockedSend). c.message) waits.2 ∙ is)
      where
        blocked-there : (x : PublisherFields) → ((publisher_of f.books f.connections x).port).blocked ≡ Some b
            → (d : BlockedDelivery) × (x.blocked ≡ Some d)
            × (blocked_send (number_in_slot f.books x.id) (sender_ends f.connections x.keys) d ≡ b)
        blocked-there x e = by x.blocked refl e where
          by : (o : Option BlockedDelivery) → x.blocked ≡ o
              → option_map (blocked_send (number_in_slot f.books x.id) (sender_ends f.connections x.keys)) o ≡ Some b
              → (d : BlockedDelivery) × (x.blocked ≡ Some d)
              × (blocked_send (number_in_slot f.books x.id) (sender_ends f.connections x.keys) d ≡ b)
          by None e h = absurd cc
          by (Some d) e h = (d, e, cc)
