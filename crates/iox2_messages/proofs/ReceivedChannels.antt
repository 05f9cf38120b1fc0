-- What a subscriber changes of its channels is what the machine makes of them.
use Rattle.std.proofs.Common.{◌≡◌, ◌<◌, ℕ, Bool, true, false, cond, ◌&&◌, eqb, List, map, ◌++◌, inl, inr, Option, None}
use Rattle.std.proofs.Common.{Some, [], get_or, refl, ap, sym, subst, ◌∙◌}
use Rattle.std.proofs.lemmas.Bool.{eqb-true, eq-eqb, true≢false}
use Rattle.std.proofs.lemmas.Option.{same_Some}
use Rattle.std.specs.Option.{option_map, option_map_or}
use Rattle.slab.specs.Slab.{Slab, get}
use Rattle.iox2_connections.specs.Link.{Link}
use Rattle.iox2_machine.specs.machine.Channel.{Channel, changed_if}
use Rattle.iox2_machine.specs.machine.ChannelCalls.{senders_of, received_changed}
use Rattle.iox2_machine.specs.machine.Limits.{channel_count}
use Rattle.iox2_machine.specs.machine.Numbers.{contains, put_at}
use Rattle.iox2_machine.specs.machine.Places.{occupants}
use Rattle.iox2_machine.specs.machine.Records.{Subscriber}
use Rattle.iox2_machine.specs.machine.State.{State, connected_publishers}
use Rattle.iox2_connections.specs.Finds.{IsReceivers, IsReceiverLinked}
use Rattle.iox2_connections.specs.Mailboxes.{channels_in, publisher_of_key, receiver_ends}
use Rattle.iox2_connections.proofs.MailboxChanges.{both-true}
use Rattle.iox2_laws.proofs.NumberLemmas.{contains_left, contains_right, contains_in_append}
use Rattle.iox2_laws.proofs.PlaceLemmas.{contains-occupants, leads_to}
use Rattle.iox2_domain.specs.ChannelChanges.{ChangesLinks}
use Rattle.iox2_domain.specs.Departures.{KnowsKey}
use Rattle.iox2_domain.specs.Fields.{Fields, kept_of}
use Rattle.iox2_domain.specs.Invariant.{IsDomain}
use Rattle.iox2_domain.specs.Kept.{Kept, entries_of, state_of}
use Rattle.iox2_domain.specs.OpenMarks.{ChangesMarks}
use Rattle.iox2_domain.specs.Ports.{SubscriberFields}
use Rattle.iox2_domain.specs.Reaches.{Reaches}
use Rattle.iox2_domain.proofs.lemmas.fields.ConnectionEnds.{subscriber-stands}
use Rattle.iox2_domain.proofs.lemmas.fields.KeptChannels.{channels-are}
use Rattle.iox2_domain.proofs.lemmas.fields.OwnKeys.{receiver-leads}
use Rattle.iox2_domain.proofs.lemmas.fields.Standing.{occupant-receiver_ends, some_is}
use Rattle.iox2_messages.specs.ChannelChanges.{changed_channel, changed_link}
use Rattle.iox2_messages.specs.declared.changed_channels.ChannelChange.{ChannelChange}
use Rattle.iox2_messages.proofs.ChangedChannels.{apart-still, channel-there, channels-changed, reaches-changed}
use Rattle.iox2_domain.specs.KeptPlaces.{KeepsPlaces}

module _ {T U : Type 0} (f : Fields T U) (sound : IsDomain f) (i : ℕ) (y : SubscriberFields)
    (at : get_or f.subscribers i None ≡ Some y) where
  abbrev expired_ends : List (Option ℕ)
  expired_ends = receiver_ends f.connections (map Some y.expired)

  abbrev place_ends : List (Option ℕ)
  place_ends = receiver_ends f.connections y.keys

  abbrev senders : List ℕ
  senders = occupants expired_ends ++ occupants place_ends

  senders-are : senders_of (state_of (kept_of f)) y.id ≡ senders
  senders-are = ap (λ (o : Option Subscriber). option_map_or (λ (z : Subscriber). connected_publishers z) o [])
      (subscriber-stands f sound.parts i y at)

  -- a key that the subscriber has leads to a connection of its
  its : (ends : List (Option ℕ)) → IsReceiverLinked y.id (f.config).subscriber_max_borrowed_samples f.connections ends
      → (place key : ℕ) (c : Link) → get_or ends place None ≡ Some key → get f.connections key ≡ Some c
      → c.home.subscriber ≡ y.id
  its ends linked place key c has there =
      let own = some_is (IsReceivers y.id (f.config).subscriber_max_borrowed_samples) (get f.connections key)
      (linked.at place key has) in
      ap (λ (l : Link). l.home.subscriber) (same_Some c own.0 (sym there ∙ own.1)) ∙ own.2.subscriber

  known-its : (k : ℕ) (c : Link) → KnowsKey y k → get f.connections k ≡ Some c → c.home.subscriber ≡ y.id
  known-its k c (inl has) there = its y.keys (sound.parts.linked.receivers i y at) has.0 k c has.1 there
  known-its k c (inr has) there = its (map Some y.expired) (sound.parts.linked.expired i y at) has.0 k c has.1 there

  -- its publisher is among those that the subscriber has connections with
  leads : (ends : List (Option ℕ)) (place k : ℕ) (c : Link) → get_or ends place None ≡ Some k
      → get f.connections k ≡ Some c → contains (occupants (receiver_ends f.connections ends)) c.home.publisher ≡ true
  leads ends place k c has there =
      contains-occupants (receiver_ends f.connections ends) c.home.publisher (
        place,
        occupant-receiver_ends f.connections ends place ∙ ap (publisher_of_key f.connections) has
            ∙ ap (option_map (λ (l : Link). l.home.publisher)) there,
      )

  known-sends : (k : ℕ) (c : Link) → KnowsKey y k → get f.connections k ≡ Some c
      → contains senders c.home.publisher ≡ true
  known-sends k c (inl has) there = contains_right (occupants expired_ends) (occupants place_ends) c.home.publisher
      (leads y.keys has.0 k c has.1 there)
  known-sends k c (inr has) there = contains_left (occupants expired_ends) (occupants place_ends) c.home.publisher
      (leads (map Some y.expired) has.0 k c has.1 there)

  -- and from each of these a key leads to its connection
  sends-known : (p : ℕ) → contains senders p ≡ true → (k : ℕ) × (c : Link) × KnowsKey y k
      × (get f.connections k ≡ Some c) × (c.home.publisher ≡ p) × (c.home.subscriber ≡ y.id)
  sends-known p has = elim (contains_in_append (occupants expired_ends) (occupants place_ends) p has) [
    | inl among ↦
        let to = leads_to expired_ends p among in
        let through = receiver-leads f.connections (map Some y.expired) to.0 p to.1 in (
          through.0,
          through.1,
          inr (to.0, through.2),
          through.3,
          through.4,
          its (map Some y.expired) (sound.parts.linked.expired i y at) to.0 through.0 through.1 through.2 through.3,
        )
    | inr among ↦
        let to = leads_to place_ends p among in
        let through = receiver-leads f.connections y.keys to.0 p to.1 in (
          through.0,
          through.1,
          inl (to.0, through.2),
          through.3,
          through.4,
          its y.keys (sound.parts.linked.receivers i y at) to.0 through.0 through.1 through.2 through.3,
        )
  ]

  module _ (change : ChannelChange) (number expected : ℕ) (new : Slab Link) (below : number < channel_count f.config)
      (changes : ChangesLinks (changed_link change number expected) (KnowsKey y) f.connections new) where
    abbrev old_channels : ℕ → ℕ → ℕ → Channel
    old_channels = channels_in f.connections

    abbrev changed_at : (p q : ℕ) → ℕ → Channel
    changed_at p q = changed_if number expected (changed_channel change) (old_channels p q)

    -- the channels of the subscriber's connections are changed, and no others
    received-at : (p q : ℕ) → channels_in new p q ≡ put_at (old_channels p) y.id
        (cond (contains senders p) (changed_at p y.id) (old_channels p y.id)) q
    received-at p q =
        channels-changed change number expected (KnowsKey y) f.connections new changes sound.parts.apart
        (apart-still f sound change number expected (KnowsKey y) new changes)
        (channel-there f sound change number expected (KnowsKey y) new changes below) p q
        (eqb q y.id && contains senders p) found missed
        ∙ same (eqb q y.id) refl
      where
        found : (eqb q y.id && contains senders p) ≡ true → (k : ℕ) × (c : Link) × KnowsKey y k
            × (get f.connections k ≡ Some c) × (c.home.publisher ≡ p) × (c.home.subscriber ≡ q)
        found hit =
            let both = both-true (eqb q y.id) (contains senders p) hit in
            let it = sends-known p both.1 in
            (it.0, it.1, it.2, it.3, it.4, it.5 ∙ sym (eqb-true q y.id both.0))

        missed : (eqb q y.id && contains senders p) ≡ false → (k : ℕ) (c : Link) → KnowsKey y k
            → get f.connections k ≡ Some c → c.home.publisher ≡ p → c.home.subscriber ≡ q → ⊥
        missed miss k c has there mine yours =
            let here : eqb q y.id ≡ true = eq-eqb q y.id (sym yours ∙ known-its k c has there) in
            let sends : contains senders p ≡ true = ap (contains senders) (sym mine) ∙ known-sends k c has there in
            true≢false (sym (ap (λ (b : Bool). b && contains senders p) here ∙ sends) ∙ miss)

        same : (b : Bool) → eqb q y.id ≡ b
            → cond (b && contains senders p) (changed_at p q) (old_channels p q) ≡ cond b
            (cond (contains senders p) (changed_at p y.id) (old_channels p y.id)) (old_channels p q)
        same true e = ap (λ (r : ℕ). cond (contains senders p) (changed_at p r) (old_channels p r)) (eqb-true q y.id e)
        same false e = refl

    -- that is what the machine does
    pub received-reaches : Reaches f (record f { connections = new })
        (received_changed (state_of (kept_of f)) y.id number expected (changed_channel change))
    received-reaches = reaches-changed f sound change number expected (KnowsKey y) new changes _ (λ p q.
        received-at p q
        ∙ ap (λ (channels : ℕ → ℕ → ℕ → Channel). put_at (channels p) y.id
        (cond (contains senders p) (changed_if number expected (changed_channel change) (channels p y.id))
        (channels p y.id)) q) (sym (channels-are f))
        ∙ ap (λ (ps : List ℕ). put_at ((state_of (kept_of f)).channels p) y.id
        (cond (contains ps p) (changed_if number expected (changed_channel change)
        ((state_of (kept_of f)).channels p y.id)) ((state_of (kept_of f)).channels p y.id)) q) (sym senders-are))

module _ {T U : Type 0} (f now : Fields T U) (same : f ≡ now) (sound : IsDomain now) (i : ℕ) where
  -- the same as the code does it
  pub received-from : (z : SubscriberFields) → get_or now.subscribers i None ≡ Some z
      → (change : ChannelChange) (number expected : ℕ) → number < channel_count now.config → (new : Slab Link)
      → ChangesLinks (changed_link change number expected) (KnowsKey z) f.connections new
      → (y : SubscriberFields) → get_or now.subscribers i None ≡ Some y
      → Reaches now (record f { connections = new })
      (received_changed (state_of (kept_of now)) y.id number expected (changed_channel change))
  received-from z stands change number expected below new changes y at =
      subst (λ (w : SubscriberFields). Reaches now (record f { connections = new })
      (received_changed (state_of (kept_of now)) w.id number expected (changed_channel change)))
      (same_Some z y (sym stands ∙ at))
      (subst (λ (h : Fields T U). Reaches now (record h { connections = new })
      (received_changed (state_of (kept_of now)) z.id number expected (changed_channel change))) (sym same)
      (received-reaches now sound i z stands change number expected new below
      (subst (λ (h : Fields T U). ChangesLinks (changed_link change number expected) (KnowsKey z) h.connections new)
      same changes)))

-- a step after which marks change comes to the same
pub reaches-then-marks : {T U : Type 0} (f g h : Fields T U) (s : State T U) → Reaches f g s → ChangesMarks g h
    → Reaches f h s
reaches-then-marks {T} {U} f g h s step marks = record {
  agrees = marks.agrees;
  state = ap state_of marks.kept ∙ step.state;
  entries = λ n entry e. step.entries n entry (sym (ap (λ (k : Kept T U ⊥ ⊥). entries_of k n) marks.kept) ∙ e);
  places = subst (λ (k : Fields T U). KeepsPlaces f k) (sym marks.fields) step.places;
}
