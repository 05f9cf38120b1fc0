-- Whether a subscriber is unused, and what its connections are like then.
use Rattle.std.proofs.Common.{◌≡◌, ℕ, Bool, true, false, cond, not, ◌&&◌, List, [], ◌∷◌, map, get_or, Option, None}
use Rattle.std.proofs.Common.{Some, refl, ap, sym, subst, ◌∙◌, inl, inr, ◌⊎◌}
use Rattle.std.proofs.lemmas.Bool.{eqb-true, false_from_ne_true, true≢false}
use Rattle.std.specs.List.{list_all}
use Rattle.std.specs.Option.{option_map_or}
use Rattle.slab.specs.Slab.{Slab, get}
use Rattle.iox2_connections.specs.Link.{Link, load}
use Rattle.iox2_machine.specs.machine.Mailbox.{has_borrows, ChannelNumber, has_waiting}
use Rattle.iox2_machine.specs.machine.Numbers.{contains, is_nil}
use Rattle.iox2_machine.specs.machine.Places.{occupants}
use Rattle.iox2_machine.specs.machine.Records.{Publisher, Subscriber}
use Rattle.iox2_machine.specs.machine.Releases.{is_unused, place_freed, freed_if_unused}
use Rattle.iox2_machine.specs.machine.State.{State, connected_publishers}
use Rattle.iox2_machine.specs.machine.WellFormed.{MailboxIsWellFormed}
use Rattle.iox2_connections.specs.LookUp.{look_up}
use Rattle.iox2_connections.specs.Mailboxes.{is_between, mailbox_of, mailbox_if_any, receiver_ends, numbered}
use Rattle.iox2_connections.proofs.LookUps.{look_up-there}
use Rattle.iox2_connections.proofs.MailboxChanges.{both-true, mailbox-there}
use Rattle.iox2_laws.proofs.FilterLemmas.{passes_all}
use Rattle.iox2_laws.proofs.MailboxLemmas.{has_numbers-waiting}
use Rattle.iox2_laws.proofs.NumberLemmas.{contains_left, contains_right, all_pass}
use Rattle.iox2_laws.proofs.PlaceLemmas.{contains-occupants, leads_to}
use Rattle.iox2_domain.specs.Departures.{BorrowsNothing, BorrowsSome, IsUnshared, KnowsKey}
use Rattle.iox2_domain.specs.Fields.{Fields, kept_of, number_in_slot, subscriber_of}
use Rattle.iox2_domain.specs.Invariant.{SenderHas, HasParts}
use Rattle.iox2_domain.specs.Kept.{state_of}
use Rattle.iox2_domain.specs.Midway.{IsMidway, with_channels_of}
use Rattle.iox2_domain.specs.Ports.{SubscriberFields}
use Rattle.iox2_domain.proofs.lemmas.fields.OwnKeys.{own-key}
use Rattle.iox2_domain.proofs.lemmas.fields.Views.{mailboxes-are}
use Rattle.iox2_domain.proofs.lemmas.receives.SenderEnds.{leads-has}
use Rattle.iox2_domain.proofs.lemmas.slots.HeldMessages.{publisher-there}
use Rattle.iox2_domain.proofs.lemmas.fields.ConnectionEnds.{subscriber-stands}

-- a list whose numbers are none is none
none-waiting : (number : ℕ → ℕ) (os : List ChannelNumber) (ws : List ℕ)
    → has_waiting (record { waiting = map number ws; borrowed = []; others = numbered number os }) ≡ false
    → (os ≡ []) × (ws ≡ [])
none-waiting number [] [] e = (refl, refl)
none-waiting number [] (w ∷ ws) e = absurd cc
none-waiting number (m ∷ ms) ws e = absurd cc

pub nil-from : (xs : List ℕ) → is_nil xs ≡ true → xs ≡ []
nil-from [] e = refl
nil-from (x ∷ xs) e = absurd cc

some-mapped : (number : ℕ → ℕ) (xs : List ℕ) → not (is_nil xs) ≡ true → not (is_nil (map number xs)) ≡ true
some-mapped number [] e = absurd cc
some-mapped number (x ∷ xs) e = refl

-- the subscriber q has borrowed nothing
abbrev pub BorrowsNowhere : Slab Link → (q : ℕ) → Type 0
BorrowsNowhere connections q =
    (key : ℕ) (c : Link) → get connections key ≡ Some c → c.home.subscriber ≡ q → c.borrowed ≡ []

module _ {T U : Type 0} (f : Fields T U) (parts : HasParts f) (j : ℕ) (y : SubscriberFields)
    (at_y : get_or f.subscribers j None ≡ Some y) where
  abbrev t : State T U
  t = state_of (kept_of f)

  -- the machine's subscriber
  abbrev port : Subscriber
  port = (subscriber_of f.books f.connections y).port

  here : t.subscribers y.id ≡ Some port
  here = subscriber-stands f parts j y at_y

  same-port : (z : Subscriber) → t.subscribers y.id ≡ Some z → z ≡ port
  same-port z at = let one : Some z ≡ Some port = sym at ∙ here in cc

  -- the machine's question
  abbrev Unused : Bool
  Unused = not y.is_open && list_all (λ p. not (has_borrows (t.mailboxes p y.id))) (connected_publishers port)

  unused-is : is_unused t y.id ≡ Unused
  unused-is =
      ap (λ (o : Option Subscriber). option_map_or
      (λ (z : Subscriber). not z.is_open && list_all (λ p. not (has_borrows (t.mailboxes p y.id)))
      (connected_publishers z)) o false) here

  its-box : (key : ℕ) (c : Link) → get f.connections key ≡ Some c → c.home.subscriber ≡ y.id
      → t.mailboxes c.home.publisher y.id ≡ mailbox_of (number_in_slot f.books c.home.publisher) c
  its-box key c at_c mine =
      mailboxes-are f c.home.publisher y.id
      ∙ mailbox-there (number_in_slot f.books) f.connections key c.home.publisher y.id c parts.apart at_c refl mine

  -- an open subscriber isn't unused
  pub open-used : y.is_open ≡ true → is_unused t y.id ≡ false
  open-used is_open = unused-is
      ∙ ap (λ b. not b && list_all (λ p. not (has_borrows (t.mailboxes p y.id))) (connected_publishers port)) is_open

  -- no mailbox of it has borrowed messages
  no-borrows : BorrowsNowhere f.connections y.id → (p : ℕ) → has_borrows (t.mailboxes p y.id) ≡ false
  no-borrows nothing p =
      ap has_borrows (mailboxes-are f p y.id) ∙ by (look_up (is_between p y.id) f.connections.slots) refl where
        by : (o : Option Link) → look_up (is_between p y.id) f.connections.slots ≡ o
            → has_borrows (mailbox_if_any (number_in_slot f.books p) o) ≡ false
        by None e = refl
        by (Some c) e =
            let there = look_up-there (is_between p y.id) f.connections.slots c e in
            let parts = both-true _ _ there.2 in
            rw (nothing there.0 c there.1 (eqb-true c.home.subscriber y.id parts.1)) refl

  -- a closed one that has borrowed nothing is
  pub closed-unused : y.is_open ≡ false → BorrowsNowhere f.connections y.id → is_unused t y.id ≡ true
  closed-unused closed nothing =
      unused-is
      ∙ ap (λ b. not b && list_all (λ p. not (has_borrows (t.mailboxes p y.id))) (connected_publishers port)) closed
      ∙ all_pass (λ p. not (has_borrows (t.mailboxes p y.id))) (connected_publishers port)
      (λ p. ap not (no-borrows nothing p))

  module _ (boxes : (p : ℕ) → MailboxIsWellFormed t p y.id) where
    -- one that has borrowed something isn't
    pub borrower-used : BorrowsSome f.connections y.id → is_unused t y.id ≡ false
    borrower-used some = false_from_ne_true (is_unused t y.id) (λ unused.
        let p : ℕ = (some.connection).home.publisher in
        let has : has_borrows (t.mailboxes p y.id) ≡ true =
        ap has_borrows (its-box some.key some.connection some.stands some.its)
        ∙ some-mapped (number_in_slot f.books p) (some.connection).borrowed some.some in
        let knows = (boxes p).receiver_end has in
        let its = same-port knows.0 knows.1 in
        let both = both-true (not y.is_open) (list_all (λ r. not (has_borrows (t.mailboxes r y.id)))
        (connected_publishers port)) (sym unused-is ∙ unused) in
        let known : contains (connected_publishers port) p ≡ true = elim (rw its at knows.2) [
          | inl expired ↦ contains_left port.expired (occupants port.ends) p expired
          | inr leads ↦ contains_right port.expired (occupants port.ends) p (contains-occupants port.ends p leads)
        ] in
        let none =
        passes_all (λ r. not (has_borrows (t.mailboxes r y.id))) (connected_publishers port) p both.1 known in
        true≢false (sym none ∙ ap not has))

    -- it has the key of a connection from which it has borrowed something
    borrower-knows : (key : ℕ) (c : Link) → get f.connections key ≡ Some c → c.home.subscriber ≡ y.id
        → not (is_nil c.borrowed) ≡ true → KnowsKey y key
    borrower-knows key c at_c mine some =
        let p : ℕ = c.home.publisher in
        let has : has_borrows (t.mailboxes p y.id) ≡ true =
        ap has_borrows (its-box key c at_c mine) ∙ some-mapped (number_in_slot f.books p) c.borrowed some in
        let knows = (boxes p).receiver_end has in
        elim (rw (same-port knows.0 knows.1) at knows.2) [
          | inl expired ↦
              let leads = leads_to (receiver_ends f.connections (map Some y.expired)) p expired in
              inr (own-key f.connections parts.apart key c at_c y.id mine (map Some y.expired)
              (parts.linked.expired j y at_y) leads)
          | inr leads ↦ inl
              (own-key f.connections parts.apart key c at_c y.id mine y.keys (parts.linked.receivers j y at_y) leads)
        ]

    -- so where it has borrowed nothing at its keys, it has borrowed nothing
    pub nothing-anywhere : BorrowsNothing f.connections y.id (KnowsKey y) → BorrowsNowhere f.connections y.id
    nothing-anywhere nothing key c at_c mine = by (is_nil c.borrowed) refl where
      by : (b : Bool) → is_nil c.borrowed ≡ b → c.borrowed ≡ []
      by true e = nil-from c.borrowed e
      by false e = nothing key c (borrower-knows key c at_c mine (ap not e)) at_c mine

    -- in a connection that it alone has no slot stands
    pub idle-load : y.is_open ≡ false → BorrowsNowhere f.connections y.id → (key : ℕ) (c : Link)
        → get f.connections key ≡ Some c → IsUnshared f.publishers y.id key c → load c ≡ 0
    idle-load closed nothing key c at_c alone =
        rw (drained.1, nothing key c at_c alone.subscriber_is, returned (parts.linked.returned key c at_c), drained.0)
        refl
      where
        p : ℕ
        p = c.home.publisher

        returned : SenderHas f.publishers key c ⊎ (c.returned ≡ []) → c.returned ≡ []
        returned (inl has) = absurd (alone.unshared has)
        returned (inr none) = none

        waits : has_waiting (t.mailboxes c.home.publisher y.id) ≡ true → ⊥
        waits some = by (t.publishers c.home.publisher) refl where
          by : (o : Option Publisher) → t.publishers c.home.publisher ≡ o → ⊥
          by None e =
              let knows = (boxes c.home.publisher).departed e some in
              true≢false (sym knows.2 ∙ ap (λ (z : Subscriber). z.is_open) (same-port knows.0 knows.1) ∙ closed)
          by (Some x) e =
              let leads = (boxes c.home.publisher).sender_end x e
              (has_numbers-waiting (t.mailboxes c.home.publisher y.id) some) in
              let there = publisher-there f c.home.publisher x e in
              alone.unshared (leads-has f parts.linked parts.apart key c at_c there.0 there.1 there.2 there.3
              (rw alone.subscriber_is (rw there.4 at leads)))

        drained : (c.others ≡ []) × (c.waiting ≡ [])
        drained =
            none-waiting (number_in_slot f.books c.home.publisher) c.others c.waiting
            (sym (ap has_waiting (its-box key c at_c alone.subscriber_is))
            ∙ false_from_ne_true (has_waiting (t.mailboxes c.home.publisher y.id)) waits)

  -- ---- midway

  pub stays-midway : (old : Fields T U) (s : State T U) (book : ℕ) → is_unused t y.id ≡ false → IsMidway old f s book
      → IsMidway old f (freed_if_unused s y.id) book
  stays-midway old s book used midway =
      subst (λ (u : State T U). IsMidway old f u book)
      (ap (λ b. cond b (place_freed s y.id) s)
      (sym (ap (λ (u : State T U). is_unused u y.id) (sym midway.state) ∙ used))) midway

  pub goes-midway : (old new : Fields T U) (s : State T U) (book : ℕ) → is_unused t y.id ≡ true
      → t ≡ with_channels_of f s → IsMidway old new (place_freed s y.id) book
      → IsMidway old new (freed_if_unused s y.id) book
  goes-midway old new s book unused same midway =
      subst (λ (u : State T U). IsMidway old new u book)
      (ap (λ b. cond b (place_freed s y.id) s) (sym (ap (λ (u : State T U). is_unused u y.id) (sym same) ∙ unused)))
      midway
