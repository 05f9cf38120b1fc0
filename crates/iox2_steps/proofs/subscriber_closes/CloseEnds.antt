-- A subscriber that went over its connections is closed.
use Rattle.std.proofs.Common.{◌≡◌, ◌≢◌, ℕ, ◌<◌, Bool, true, false, not, List, map, eqb, get_or, refl, ap, sym, subst}
use Rattle.std.proofs.Common.{◌∙◌, inl, inr, ◌⊎◌, arith}
use Rattle.std.proofs.lemmas.Bool.{cases_eq, eqb-true}
use Rattle.std.proofs.lemmas.Option.{same_Some}
use Rattle.std.specs.declared.option.Option.{Option}
use Rattle.std.specs.declared.option.Option.TheVariants.{None, Some}
use Rattle.std.specs.Option.{option_map}
use Rattle.slab.specs.Slab.{get}
use Rattle.iox2_connections.specs.Link.{Link}
use Rattle.iox2_slots.specs.SlotBook.{Book}
use Rattle.iox2_machine.specs.machine.Mailbox.{Mailbox, has_numbers, numbers_in, ChannelNumber}
use Rattle.iox2_machine.specs.machine.Numbers.{contains, is_nil}
use Rattle.iox2_machine.specs.machine.Places.{occupants}
use Rattle.iox2_machine.specs.machine.Ports.{subscriber_shut, subscriber_closed}
use Rattle.iox2_machine.specs.machine.Records.{Publisher, Subscriber}
use Rattle.iox2_machine.specs.machine.Releases.{freed_if_unused, subscriber_pruned}
use Rattle.iox2_machine.specs.machine.State.{State, is_linked, publishers_due}
use Rattle.iox2_machine.specs.machine.WellFormed.{LeadsTo, IsWellFormed, MailboxIsWellFormed}
use Rattle.iox2_machine.specs.Stored.{IsHeldMessage, In_history, In_mailbox, In_blocked_send}
use Rattle.iox2_laws.proofs.CloseLaws.{closed_nearly, subscriber_closed_keeps}
use Rattle.iox2_laws.proofs.MailboxLemmas.{contains_in_dropped}
use Rattle.iox2_laws.proofs.PlaceLemmas.{leads_to}
use Rattle.iox2_laws.proofs.Puts.{found_mapped}
use Rattle.iox2_connections.specs.Counters.{times}
use Rattle.iox2_connections.specs.Finds.{IsReceivers}
use Rattle.iox2_connections.specs.LookUp.{look_up}
use Rattle.iox2_connections.specs.Mailboxes.{is_between, mailbox_if_any, receiver_ends, numbered}
use Rattle.iox2_connections.proofs.LookUps.{look_up-there}
use Rattle.iox2_connections.proofs.MailboxChanges.{both-true}
use Rattle.iox2_domain.specs.Ports.{PublisherFields, SubscriberFields}
use Rattle.iox2_domain.specs.Kept.{state_of}
use Rattle.iox2_domain.specs.Fields.{Fields, kept_of, subscriber_of, number_in_slot}
use Rattle.iox2_domain.specs.Invariant.{IsDomain, HasParts, KeepsBooks}
use Rattle.iox2_domain.proofs.lemmas.containers.LookUps.{map-at}
use Rattle.iox2_steps.proofs.creations.PublishersDue.{with_publishers_due, publishers_due-are, due}
use Rattle.iox2_domain.proofs.lemmas.fields.OwnKeys.{receiver-leads}
use Rattle.iox2_domain.proofs.lemmas.fields.Standing.{some_is}
use Rattle.iox2_domain.proofs.lemmas.fields.Views.{mailboxes-are}
use Rattle.iox2_domain.specs.Midway.{IsMidway, with_channels_of}
use Rattle.iox2_steps.proofs.releases.SettledChannels.{box-still, freed-channels, freed-linked, pruned-linked}
use Rattle.iox2_steps.proofs.releases.SettledChannels.{settles-channels, shut-linked}
use Rattle.iox2_domain.specs.Reaches.{Reaches}
use Rattle.iox2_domain.proofs.lemmas.fields.KeptBooks.{kept-but}
use Rattle.iox2_domain.proofs.lemmas.fields.Parts.{whole_of}
use Rattle.iox2_steps.proofs.releases.Leaving.{FreesMidway}
use Rattle.iox2_domain.proofs.lemmas.fields.ConnectionEnds.{publisher-stands, subscriber-stands}
use Rattle.iox2_steps.proofs.receivers.DepartedEnds.{nothing-returned}
use Rattle.iox2_steps.specs.Agreement.{IsOrphan, HasOwnedParts, KeepsMessages}
use Rattle.iox2_steps.specs.Closes.{HasNoPublisher}
use Rattle.iox2_steps.proofs.subscriber_closes.OwnedParts.{due-parts}
use Rattle.iox2_steps.proofs.subscriber_closes.KeptMessages.{keeps-trans, keeps-entries, keeps-complete}
use Rattle.iox2_steps.proofs.subscriber_closes.Sheds.{sheds-closed, HasLost}
use Rattle.iox2_steps.proofs.subscriber_closes.CloseSteps.{box-numbers, link-empty, is_empty_link}
use Rattle.iox2_steps.proofs.subscriber_closes.CloseWalk.{IsClosing, IsDrained}
use Rattle.iox2_domain.specs.KeptPlaces.{StayInSlots}
use Rattle.iox2_domain.proofs.lemmas.fields.PlacesKept.{places-back}

-- the machine's publisher, due
abbrev due_publisher : Publisher → Publisher
due_publisher x = record x { is_due = true }

module _ {T U : Type 0} where
  -- who holds a message where mailboxes have no new numbers, and publishers are only due, held it before
  held-less : (s t : State T U) (p n : ℕ) → t.publishers ≡ s.publishers
      → ((q : ℕ) → contains (numbers_in (t.mailboxes p q)) n ≡ true → contains (numbers_in (s.mailboxes p q)) n ≡ true)
      → IsHeldMessage (publishers_due t) p n → IsHeldMessage s p n
  held-less s t p n same boxes (In_history x at is) =
      found_mapped (due_publisher) (t.publishers p) x (IsHeldMessage s p n) at (λ z there e.
      In_history z (ap (λ (f : ℕ → Option Publisher). f p) (sym same) ∙ there)
      (ap (λ (v : Publisher). contains v.history n) (sym e) ∙ is))
  held-less s t p n same boxes (In_mailbox q is) = In_mailbox q (boxes q is)
  held-less s t p n same boxes (In_blocked_send x b at blocked is) =
      found_mapped (due_publisher) (t.publishers p) x (IsHeldMessage s p n) at (λ z there e.
      In_blocked_send z b (ap (λ (f : ℕ → Option Publisher). f p) (sym same) ∙ there)
      (ap (λ (v : Publisher). v.blocked) (sym e) ∙ blocked) is)

module _ {T U : Type 0} (f : Fields T U) (sound : IsDomain f) (place : ℕ) (y : SubscriberFields)
    (at_y : get_or f.subscribers place None ≡ Some y)
    (rest : SubscriberFields → ℕ → Type 0) (f' : Fields T U) (closing : IsClosing f sound place y at_y rest f')
    (done : (k : ℕ) → rest closing.subscriber.0 k → ⊥) where
  abbrev s : State T U
  s = state_of (kept_of f)

  abbrev t : State T U
  t = state_of (kept_of f')

  abbrev port : Subscriber
  port = (subscriber_of f.books f.connections y).port

  abbrev z : SubscriberFields
  z = closing.subscriber.0

  at_z : get_or f'.subscribers place None ≡ Some z
  at_z = closing.subscriber.1

  here : s.subscribers y.id ≡ Some port
  here = subscriber-stands f sound.parts place y at_y

  there : t.subscribers y.id ≡ Some ((subscriber_of f'.books f'.connections z).port)
  there = ap t.subscribers (sym closing.subscriber.2) ∙ subscriber-stands f' closing.parts.parts place z at_z

  same-publishers : t.publishers ≡ s.publishers
  same-publishers = ap (λ (v : State T U). v.publishers) (closing.sheds).state

  -- a publisher that the machine doesn't have stands nowhere
  departed-from : (p : ℕ) → s.publishers p ≡ None → (c : Link) → c.home.publisher ≡ p → HasNoPublisher f.publishers c
  departed-from p gone c mine i x at_x same =
      let no : None ≡ Some _ =
      sym gone ∙ ap s.publishers (sym (same ∙ mine)) ∙ publisher-stands f sound.parts i x at_x in absurd cc

  -- nothing waits from one that is gone
  dropped : (p : ℕ) → s.publishers p ≡ None → HasLost (t.mailboxes p y.id)
  dropped p gone =
      subst HasLost (sym (mailboxes-are f' p y.id)) (by (look_up (is_between p y.id) f'.connections.slots) refl) where
        by : (o : Option Link) → look_up (is_between p y.id) f'.connections.slots ≡ o
            → HasLost (mailbox_if_any (number_in_slot f'.books p) o)
        by None e = (refl, refl)
        by (Some c) e =
            let at = look_up-there (is_between p y.id) f'.connections.slots c e in
            let parts = both-true (eqb c.home.publisher p) (eqb c.home.subscriber y.id) at.2 in
            let none : IsDrained c =
            elim (closing.dropped at.0 c at.1 (eqb-true c.home.subscriber y.id parts.1)
            (departed-from p gone c (eqb-true c.home.publisher p parts.0))) [
              | inl none ↦ none
              | inr left ↦ absurd (done at.0 left)
            ] in (
              ap (λ (ws : List ℕ). not (is_nil (map (number_in_slot f'.books p) ws))) none.0,
              ap (numbered (number_in_slot f'.books p)) none.1,
            )

  -- something is borrowed in a connection with a publisher that is gone
  busy-numbers : (k : ℕ) (c : Link) → get f'.connections k ≡ Some c → HasNoPublisher f.publishers c
      → is_empty_link c ≡ false
  busy-numbers k c at departed = by (is_empty_link c) refl where
    by : (b : Bool) → is_empty_link c ≡ b → is_empty_link c ≡ false
    by false e = e
    by true e =
        let no = link-empty c e in
        let back = nothing-returned f' closing.parts.parts k c at
        (subst (λ (xs : List (Option PublisherFields)). HasNoPublisher xs c) (sym closing.publishers) departed) in
        let busy = closing.busy k c at departed in
        let some = busy.stands in
        absurd (omega (
          arith,
          some,
          ap (times busy.slot) no.0,
          ap (times busy.slot) no.1,
          ap (λ (ms : List ChannelNumber). times busy.slot (map (λ (m : ChannelNumber). m.number) ms)) no.2,
          ap (times busy.slot) back,
        ))

  -- and who is known and gone has something left
  known : (p : ℕ) (v : Subscriber) → t.subscribers y.id ≡ Some v → (contains v.expired p ≡ true) ⊎ LeadsTo v.ends p
      → s.publishers p ≡ None → has_numbers (t.mailboxes p y.id) ≡ true
  known p v at_v knows gone =
      by (subst (λ (u : Subscriber). (contains u.expired p ≡ true) ⊎ LeadsTo u.ends p)
      (same_Some v _ (sym at_v ∙ there)) knows) where
        through : (k : ℕ) (c : Link) → get f'.connections k ≡ Some c → c.home.publisher ≡ p → c.home.subscriber ≡ z.id
            → has_numbers (t.mailboxes p y.id) ≡ true
        through k c at mine its =
            (λ i. has_numbers (t.mailboxes (sym mine i) (sym (its ∙ closing.subscriber.2) i)))
            ∙ box-numbers f' closing.parts k c at
            ∙ ap not (busy-numbers k c at (departed-from p gone c mine))

        by : (contains (occupants (receiver_ends f'.connections (map Some z.expired))) p ≡ true)
            ⊎ LeadsTo (receiver_ends f'.connections z.keys) p → has_numbers (t.mailboxes p y.id) ≡ true
        by (inl expired) =
            let leads = leads_to (receiver_ends f'.connections (map Some z.expired)) p expired in
            let to = receiver-leads f'.connections (map Some z.expired) leads.0 p leads.1 in
            let own = some_is (IsReceivers z.id (f'.config).subscriber_max_borrowed_samples) (get f'.connections to.0)
            ((closing.parts.parts.linked.expired place z at_z).at leads.0 to.0 to.2) in
            through to.0 own.0 own.1
            (let one : Some own.0 ≡ Some to.1 = sym own.1 ∙ to.3 in let is : own.0 ≡ to.1 = cc in
            ap (λ (d : Link). d.home.publisher) is ∙ to.4) own.2.subscriber
        by (inr leads) =
            let to = receiver-leads f'.connections z.keys leads.0 p leads.1 in
            let own = some_is (IsReceivers z.id (f'.config).subscriber_max_borrowed_samples) (get f'.connections to.0)
            ((closing.parts.parts.linked.receivers place z at_z).at leads.0 to.0 to.2) in
            through to.0 own.0 own.1
            (let one : Some own.0 ≡ Some to.1 = sym own.1 ∙ to.3 in let is : own.0 ≡ to.1 = cc in
            ap (λ (d : Link). d.home.publisher) is ∙ to.4) own.2.subscriber

  -- so it is closed, but for its place
  closed-but : publishers_due t ≡ record (subscriber_pruned (subscriber_shut s y.id port) y.id)
      { channels = t.channels }
  closed-but = sheds-closed s y.id port t closing.sheds dropped known

  -- ---- the publishers are due, and it may go

  abbrev g : Fields T U
  g = with_publishers_due f'

  g-is : state_of (kept_of g) ≡ with_channels_of g (subscriber_pruned (subscriber_shut s y.id port) y.id)
  g-is = publishers_due-are f' ∙ closed-but

  g-parts : HasOwnedParts g
  g-parts = due-parts f' closing.parts

  keeps : KeepsMessages f g
  keeps = keeps-trans f f' g closing.messages
      (record { back = λ k slot m e. e; forth = λ k slot n m has e. e; number = λ k slot n has. has })

  -- a book of a publisher that is gone is held
  kept : KeepsBooks g.next_port g.publishers g.books
  kept = record {
    at = λ k b at_b. elim (g-parts.owners.at k b at_b)
        [ inl has ↦ inl has | inr gone ↦ inr (gone, closing.held k b at_b (orphan b gone)) ];
  } where
    orphan : (b : Book) → IsOrphan g b → IsOrphan f b
    orphan b gone = record {
      known = subst (λ (n : ℕ). b.publisher < n) closing.next_port gone.known;
      absent = λ i x at_x. gone.absent i (due x) (map-at due f'.publishers i
          ∙ ap (λ (xs : List (Option PublisherFields)). option_map due (get_or xs i None)) closing.publishers
          ∙ ap (option_map due) at_x);
    }

  fewer : (p q n : ℕ) → contains (numbers_in (t.mailboxes p q)) n ≡ true
      → contains (numbers_in (s.mailboxes p q)) n ≡ true
  fewer p q n has = elim ((closing.sheds).boxes p q) [
    | inl same ↦ ap (λ (box : Mailbox). contains (numbers_in box) n) (sym same) ∙ has
    | inr lost ↦
        contains_in_dropped (s.mailboxes p q) n (ap (λ (box : Mailbox). contains (numbers_in box) n) (sym lost.2) ∙ has)
  ]

  -- the fields agree, and what they keep is what the machine has before the subscriber goes
  midway : (book : ℕ) → IsMidway f g (subscriber_pruned (subscriber_shut s y.id port) y.id) book
  midway book = record {
    consistent = g-parts.parts;
    lone = g-parts.lone;
    kept_books = kept-but g.next_port g.publishers g.books book kept;
    state = g-is;
    channels = closing.channels;
    entries = keeps-entries f g sound.parts.numbered g-parts keeps;
    places = subst (λ (next : ℕ). StayInSlots f.next_message f.books next g.books)
        (sym (ap (λ (v : State T U). v.next_message) (closing.sheds).state)) (places-back keeps.number);
    complete = keeps-complete f g sound.parts.numbered g-parts keeps sound.entries (λ p n held.
        held-less s t p n same-publishers (λ q. fewer p q n)
        (subst (λ (v : State T U). IsHeldMessage v p n) (publishers_due-are f') held));
  }

  -- what is asked of it before it goes
  pub closes-parts : HasParts g
  closes-parts = g-parts.parts

  pub closes-stands : (z : SubscriberFields) × (get_or g.subscribers place None ≡ Some z)
      × ((p : ℕ) → MailboxIsWellFormed (state_of (kept_of g)) p z.id)
  closes-stands = (
    z,
    at_z,
    λ p.
        subst (λ (v : State T U). MailboxIsWellFormed v p z.id) (sym g-is)
        (box-still (subscriber_pruned (subscriber_shut s y.id port) y.id) (state_of (kept_of g)).channels p z.id
        (subst (MailboxIsWellFormed (subscriber_pruned (subscriber_shut s y.id port) y.id) p) (sym closing.subscriber.2)
        ((closed_nearly s sound.well_formed y.id port here).rest.mailboxes p y.id))),
  )

  -- when it is gone, if it has borrowed nothing, it is closed
  pub closes : (new : Fields T U) → FreesMidway g z.id new → Reaches f new (subscriber_closed s y.id port)
  closes new frees = record {
    agrees = whole_of new one.consistent one.lone
        (record {
          at = λ k b at_b. elim (cases_eq k 0) [
            | inl first ↦ other.kept_books.others k b (λ is. let clash : k ≡ 1 = is in
                omega (arith, first, clash)) at_b
            | inr away ↦ one.kept_books.others k b away at_b
          ];
        })
        (subst IsWellFormed (sym state-is) (subscriber_closed_keeps s sound.well_formed y.id port here)) one.complete;
    state = state-is;
    entries = one.entries;
    places = one.places;
  } where
    one : IsMidway f new (freed_if_unused (subscriber_pruned (subscriber_shut s y.id port) y.id) z.id) 0
    one = frees f (subscriber_pruned (subscriber_shut s y.id port) y.id) 0 (midway 0)

    -- the state, before the machine resets the subscriber's channels
    unsettled : State T U
    unsettled = freed_if_unused (subscriber_pruned (subscriber_shut s y.id port) y.id) y.id

    shown : state_of (kept_of new) ≡ with_channels_of new unsettled
    shown = one.state ∙ ap (λ (q : ℕ). with_channels_of new
        (freed_if_unused (subscriber_pruned (subscriber_shut s y.id port) y.id) q)) closing.subscriber.2

    linked : (p q : ℕ) → q ≢ y.id → is_linked (state_of (kept_of new)) p q ≡ is_linked s p q
    linked p q away =
        ap (λ (v : State T U). is_linked v p q) shown
        ∙ freed-linked (subscriber_pruned (subscriber_shut s y.id port) y.id) y.id p q away
        ∙ pruned-linked (subscriber_shut s y.id port) y.id p q away
        ∙ shut-linked s y.id p q away port

    other : IsMidway f new (freed_if_unused (subscriber_pruned (subscriber_shut s y.id port) y.id) z.id) 1
    other = frees f (subscriber_pruned (subscriber_shut s y.id port) y.id) 1 (midway 1)

    state-is : state_of (kept_of new) ≡ subscriber_closed s y.id port
    state-is = settles-channels f new sound.parts one.consistent y.id one.channels linked unsettled shown
        (freed-channels (subscriber_pruned (subscriber_shut s y.id port) y.id) y.id)
