-- How many holders a slot in a publisher's history has.
use Rattle.std.proofs.Common.{◌≡◌, ℕ, ◌+◌, ◌<◌, ◌≤◌, true, cond, length, map, get_or, refl, ap, sym, subst, ◌∙◌, inl}
use Rattle.std.proofs.Common.{inr, arith}
use Rattle.std.proofs.lemmas.Bool.{cases_eq, ne_eqb, eq-eqb}
use Rattle.std.specs.declared.option.Option.{Option}
use Rattle.std.specs.declared.option.Option.TheVariants.{None, Some}
use Rattle.std.specs.Option.{option_map}
use Rattle.std.specs.List.{sum_by}
use Rattle.slab.specs.Slab.{get}
use Rattle.iox2_connections.specs.Link.{Link}
use Rattle.iox2_slots.specs.SlotBook.{Book, holders_at}
use Rattle.iox2_machine.specs.machine.Mailbox.{numbers_in, has_numbers}
use Rattle.iox2_machine.specs.machine.Numbers.{IsOnce}
use Rattle.iox2_machine.specs.machine.WellFormed.{LeadsTo}
use Rattle.iox2_connections.specs.Counters.{times, stands, stands_in}
use Rattle.iox2_connections.specs.Homes.{IsSenders}
use Rattle.iox2_connections.specs.Mailboxes.{mailbox_of, subscriber_of_key}
use Rattle.iox2_connections.specs.Receivers.{HasReclaimed}
use Rattle.iox2_connections.proofs.Empties.{sum-keys}
use Rattle.iox2_connections.proofs.MailboxChanges.{mailbox-there, is_between-own}
use Rattle.iox2_domain.specs.Ports.{PublisherFields}
use Rattle.iox2_domain.specs.Fields.{Fields, number_in_slot}
use Rattle.iox2_domain.specs.Invariant.{IsDomain}
use Rattle.iox2_domain.proofs.lemmas.fields.ConnectionEnds.{publisher-stands, occupant-sender_ends}
use Rattle.iox2_domain.proofs.lemmas.fields.Standing.{some_is}
use Rattle.iox2_domain.proofs.lemmas.fields.Views.{mailboxes-are}
use Rattle.iox2_domain.proofs.lemmas.slots.PublisherBooks.{book-counts}
use Rattle.iox2_domain.proofs.lemmas.slots.SlotsInUse.{none_returned}
use Rattle.iox2_steps.proofs.sends.LoanAlone.{once-times}
use Rattle.iox2_domain.proofs.lemmas.slots.BoxNumbers.{kept_slots, times-kept, numbers-are_kept, number-of_slot}
use Rattle.iox2_laws.proofs.MailboxLemmas.{has_numbers-contains}
use Rattle.iox2_domain.proofs.lemmas.fields.NamedPorts.{seen, seen_publisher}

module _ {T U : Type 0} (f : Fields T U) (sound : IsDomain f) (i : ℕ) (x : PublisherFields)
    (here : get_or f.publishers i None ≡ Some x)
    (b : Book) (at : get f.books x.book ≡ Some b) where
  -- each slot of the history has a holder
  pub remembered-in_use : (slot : ℕ) → 0 < times slot (x.history).items → 0 < holders_at b slot
  remembered-in_use slot some =
      omega (arith, some, book-counts f sound.parts i x here b at slot)

  -- and stands there once
  pub remembered-once : (slot : ℕ) → times slot (x.history).items ≤ 1
  remembered-once slot =
      once-times (number_in_slot f.books x.id) slot (x.history).items
      (sound.well_formed.publishers x.id (seen_publisher f x) (publisher-stands f sound.parts i x here)).history_once

  -- ---- how often a slot stands in one connection

  box-is : (key : ℕ) (c : Link) → get f.connections key ≡ Some c → c.home.publisher ≡ x.id
      → (seen f).mailboxes x.id c.home.subscriber ≡ mailbox_of (number_in_slot f.books x.id) c
  box-is key c there its = mailboxes-are f x.id c.home.subscriber ∙ mailbox-there
      (number_in_slot f.books) f.connections key x.id c.home.subscriber c sound.parts.apart there its refl

  module _ (reclaimed : HasReclaimed f.connections x.keys) where
    stands-once : (slot key : ℕ) (c : Link) → get f.connections key ≡ Some c → c.home.publisher ≡ x.id
        → (times slot (kept_slots c) ≡ stands_in slot c) × (stands_in slot c ≤ 1)
    stands-once slot key c there its =
        let all : times slot (kept_slots c) + times slot c.returned ≡ stands_in slot c = times-kept slot c in
        let none : times slot c.returned ≡ 0 =
        ap (times slot) (none_returned f sound i x here reclaimed key c there its) in
        let numbers : numbers_in ((seen f).mailboxes x.id c.home.subscriber) ≡ map (number_in_slot f.books x.id)
        (kept_slots c) =
        ap numbers_in (box-is key c there its) ∙ numbers-are_kept (number_in_slot f.books x.id) c in
        let once : times slot (kept_slots c) ≤ 1 = once-times (number_in_slot f.books x.id) slot (kept_slots c)
        (subst IsOnce numbers (sound.well_formed.mailboxes x.id c.home.subscriber).within.once) in
        (omega (arith, all, none), omega (arith, all, none, once))

    few : (slot key : ℕ) → stands x.id slot (get f.connections key) ≤ 1
    few slot key = by (get f.connections key) refl where
      by : (o : Option Link) → get f.connections key ≡ o → stands x.id slot o ≤ 1
      by None e = omega arith
      by (Some c) e = elim (cases_eq c.home.publisher x.id) [
        | inl its ↦
            let is : stands x.id slot (Some c) ≡ stands_in slot c =
            ap (λ t. cond {A = ℕ} t (stands_in slot c) 0) (eq-eqb c.home.publisher x.id its) in
            omega (arith, is, (stands-once slot key c e its).1)
        | inr away ↦ let is : stands x.id slot (Some c) ≡ 0 =
            ap (λ t. cond {A = ℕ} t (stands_in slot c) 0) (ne_eqb c.home.publisher x.id away) in omega (arith, is)
      ]

    -- where it stands, the publisher has the connection's key
    known : (slot key : ℕ) → 0 < stands x.id slot (get f.connections key) → (j : ℕ) × (get_or x.keys j None ≡ Some key)
    known slot key some = by (get f.connections key) refl some where
      leading : (c : Link) → get f.connections key ≡ Some c → c.home.publisher ≡ x.id → (j : ℕ) → (o : Option ℕ)
          → get_or x.keys j None ≡ o → subscriber_of_key f.connections o ≡ Some c.home.subscriber
          → get_or x.keys j None ≡ Some key
      leading c there its j None e to = absurd cc
      leading c there its j (Some k) e to =
          let own = some_is (IsSenders x.id j) (get f.connections k) ((sound.parts.linked.senders i x here).at j k e) in
          let same : Some own.0.home.subscriber ≡ Some c.home.subscriber =
          sym (ap (option_map (λ (d : Link). d.home.subscriber)) own.1) ∙ to in
          let subscriber : own.0.home.subscriber ≡ c.home.subscriber = cc in
          let one : k ≡ key = (sound.parts.apart.one x.id c.home.subscriber).one k key own.0 c own.1 there
          (is_between-own x.id c.home.subscriber own.0 own.2.publisher subscriber)
          (is_between-own x.id c.home.subscriber c its refl) in
          e ∙ ap Some one

      by : (o : Option Link) → get f.connections key ≡ o → 0 < stands x.id slot o
          → (j : ℕ) × (get_or x.keys j None ≡ Some key)
      by None e h = absurd (omega arith)
      by (Some c) e h = elim (cases_eq c.home.publisher x.id) [
        | inl its ↦
            let is : stands x.id slot (Some c) ≡ stands_in slot c =
            ap (λ t. cond {A = ℕ} t (stands_in slot c) 0) (eq-eqb c.home.publisher x.id its) in
            let there : 0 < stands_in slot c = omega (arith, h, is) in
            let numbers : has_numbers ((seen f).mailboxes x.id c.home.subscriber) ≡ true =
            ap has_numbers (box-is key c e its)
            ∙ has_numbers-contains (mailbox_of (number_in_slot f.books x.id) c) (number_in_slot f.books x.id slot)
            (number-of_slot (number_in_slot f.books x.id) c slot
            (none_returned f sound i x here reclaimed key c e its) there) in
            let leads : LeadsTo (seen_publisher f x).ends c.home.subscriber =
            (sound.well_formed.mailboxes x.id c.home.subscriber).sender_end (seen_publisher f x)
            (publisher-stands f sound.parts i x here) numbers in (
              leads.0,
              leading c e its leads.0 (get_or x.keys leads.0 None) refl
                  (sym (occupant-sender_ends f.connections x.keys leads.0) ∙ leads.1),
            )
        | inr away ↦ absurd (let is : stands x.id slot (Some c) ≡ 0 = ap (λ t. cond {A = ℕ} t (stands_in slot c) 0)
            (ne_eqb c.home.publisher x.id away) in omega (arith, h, is))
      ]

    -- so a slot has few holders
    pub held-few : (slot : ℕ) → (holders_at b slot ≤ length x.keys + 2) × (times slot (x.history).items ≤ 1)
    held-few slot =
        let u = sound.well_formed.publishers x.id (seen_publisher f x) (publisher-stands f sound.parts i x here) in
        let lent : times slot x.loans ≤ 1 = once-times (number_in_slot f.books x.id) slot x.loans u.loans_once in
        let remembered : times slot (x.history).items ≤ 1 = remembered-once slot in
        let standing : sum_by (stands x.id slot) f.connections.slots ≤ length x.keys =
        sum-keys (stands x.id slot) refl x.keys f.connections.slots (few slot) (known slot) in
        (omega (arith, book-counts f sound.parts i x here b at slot, lent, remembered, standing), remembered)
