-- The slot that is taken is borrowed then, in the connection that it waited in.
use Rattle.std.proofs.Common.{◌≡◌, ℕ, Bool, List, [], ◌∷◌, ◌++◌, zero, refl, ap, sym, subst, ◌∙◌, arith, Option, Some}
use Rattle.std.proofs.Common.{None, Contains}
use Rattle.std.proofs.lemmas.List.Elements.{Contains-append_right}
use Rattle.std.specs.Option.{option_map}
use Rattle.slab.specs.Slab.{Slab, get}
use Rattle.iox2_connections.specs.Link.{Link}
use Rattle.iox2_machine.specs.machine.Channel.{Channel}
use Rattle.iox2_machine.specs.machine.Mailbox.{Mailbox}
use Rattle.iox2_connections.specs.declared.connection.Home.{Home}
use Rattle.iox2_laws.proofs.Puts.{put_at-same}
use Rattle.iox2_connections.specs.Homes.{IsApart, SameHomes, fixed_of}
use Rattle.iox2_connections.specs.Mailboxes.{mailbox_of, mailboxes_of}
use Rattle.iox2_connections.specs.Takes.{BorrowsSlot}
use Rattle.iox2_connections.proofs.MailboxChanges.{mailbox-there}
use Rattle.iox2_domain.specs.Fields.{number_in_slot, Fields}
use Rattle.iox2_domain.specs.Receipts.{LiesAt}
use Rattle.iox2_domain.specs.declared.sample_slots.Receipt.{Receipt}
use mathlib.Core.List.{map-id}

module _ (old new : Slab Link) (key slot : ℕ) (c : Link) (at_c : get old key ≡ Some c) (same : SameHomes old new)
    (apart : IsApart new) (takes : BorrowsSlot old key slot new) where
  -- the connection stays where it is
  stays : (d : Link) × (get new key ≡ Some d) × (d.home ≡ c.home)
  stays = by (get new key) refl (same.same key ∙ ap (option_map fixed_of) at_c) where
    by : (o : Option Link) → get new key ≡ o → option_map fixed_of o ≡ Some (fixed_of c)
        → (d : Link) × (get new key ≡ Some d) × (d.home ≡ c.home)
    by None e is = absurd cc
    by (Some d) e is =
        let here : Some (fixed_of d) ≡ Some (fixed_of c) = is in
        let fixed : fixed_of d ≡ fixed_of c = cc in
        (d, e, ap (λ (f : Home × ℕ × ℕ × Bool × List Channel). f.0) fixed)

  borrowed : Contains (stays.0).borrowed slot
  borrowed =
      let taken = takes.takes c at_c (λ p n. n) in
      let box : mailbox_of (λ n. n) stays.0 ≡ taken.0 =
      sym (mailbox-there (λ p n. n) new key c.home.publisher c.home.subscriber stays.0 apart stays.1
      (ap (λ (h : Home). h.publisher) stays.2) (ap (λ (h : Home). h.subscriber) stays.2))
      ∙ ap (λ (boxes : ℕ → ℕ → Mailbox). boxes c.home.publisher c.home.subscriber) taken.2
      ∙ ap (λ (boxes : ℕ → Mailbox). boxes c.home.subscriber)
      (put_at-same (mailboxes_of (λ p n. n) old) c.home.publisher _)
      ∙ put_at-same (mailboxes_of (λ p n. n) old c.home.publisher) c.home.subscriber _ in
      let slots : (stays.0).borrowed ≡ (mailboxes_of (λ p n. n) old c.home.publisher c.home.subscriber).borrowed ++ slot
      ∷ [] = sym (map-id (stays.0).borrowed) ∙ ap (λ (b : Mailbox). b.borrowed) (box ∙ taken.1.2) in
      subst (λ (xs : List ℕ). Contains xs slot) (sym slots)
      (Contains-append_right _ (slot ∷ []) slot (zero, omega arith, refl))

  -- it lies where a receipt says that names the key and the slot
  pub lies-there : {T U : Type 0} (f : Fields T U) (q : ℕ) (receipt : Receipt) → f.connections ≡ new
      → receipt.sample.connection ≡ key → receipt.sample.slot ≡ slot → receipt.publisher ≡ c.home.publisher
      → receipt.sample.subscriber ≡ c.home.subscriber → receipt.sample.book ≡ c.home.book → c.home.subscriber ≡ q
      → receipt.sample.number ≡ number_in_slot f.books c.home.publisher receipt.sample.slot → LiesAt f q receipt
  lies-there f q receipt connections key_is slot_is publisher_is its book_is subscriber_is number_is = record {
    connection = stays.0;
    stands = ap (λ (slab : Slab Link). get slab receipt.sample.connection) connections ∙ ap (get new) key_is ∙ stays.1;
    publisher_is = ap (λ (h : Home). h.publisher) stays.2 ∙ sym publisher_is;
    subscriber_is = ap (λ (h : Home). h.subscriber) stays.2 ∙ subscriber_is;
    its = its ∙ subscriber_is;
    book_is = book_is ∙ ap (λ (h : Home). h.book) (sym stays.2);
    borrowed = subst (Contains (stays.0).borrowed) (sym slot_is) borrowed;
    number_is = number_is ∙ ap (λ (h : Home). number_in_slot f.books h.publisher receipt.sample.slot) (sym stays.2);
  }
