-- The channels that the machine resets are those of connections that are gone.
use Rattle.std.proofs.Common.{◌≡◌, ℕ, Bool, true, false, cond, List, map, refl, ap, sym, subst, ◌∙◌, inl, inr, ◌⊎◌}
use Rattle.std.proofs.Common.{Option, None, Some, get_or}
use Rattle.std.proofs.lemmas.Bool.{cases_eq, eqb-true, eq-eqb, ne_eqb, or_cases, or_left, or_right}
use Rattle.std.specs.Option.{option_map, option_map_or}
use Rattle.slab.specs.Slab.{Slab, get}
use Rattle.iox2_connections.specs.Link.{Link}
use Rattle.iox2_connections.specs.declared.connection.Home.{Home}
use Rattle.iox2_machine.specs.machine.Channel.{Channel, new_channels}
use Rattle.iox2_machine.specs.machine.Numbers.{contains, put_at}
use Rattle.iox2_machine.specs.machine.Places.{occupant, occupants}
use Rattle.iox2_machine.specs.machine.Records.{Publisher, Subscriber}
use Rattle.iox2_machine.specs.machine.State.{State, connected_publishers, is_linked, channels_if_linked}
use Rattle.iox2_machine.specs.machine.State.{sender_channels_reset, receiver_channels_reset}
use Rattle.iox2_machine.specs.machine.WellFormed.{LeadsTo}
use Rattle.iox2_connections.specs.Finds.{IsReceivers}
use Rattle.iox2_connections.specs.Homes.{IsSenders}
use Rattle.iox2_connections.specs.LookUp.{look_up}
use Rattle.iox2_connections.specs.Mailboxes.{is_between, channels_in, subscriber_of_key, publisher_of_key, sender_ends}
use Rattle.iox2_connections.specs.Mailboxes.{receiver_ends}
use Rattle.iox2_connections.proofs.LookUps.{look_up-none, look_up-there}
use Rattle.iox2_connections.proofs.MailboxChanges.{is_between-own, both-true}
use Rattle.iox2_laws.proofs.NumberLemmas.{contains_left, contains_right, contains_in_append}
use Rattle.iox2_laws.proofs.PlaceLemmas.{contains-occupants, leads_to}
use Rattle.iox2_domain.specs.Fields.{Fields, kept_of, publisher_of, subscriber_of}
use Rattle.iox2_domain.specs.Invariant.{HasParts, SenderHas, ReceiverHas, is_publisher, is_subscriber}
use Rattle.iox2_domain.specs.Kept.{Named, state_of, is_named}
use Rattle.iox2_domain.specs.KeptLinks.{NoLink, ChannelsFollow}
use Rattle.iox2_domain.specs.Midway.{with_channels_of}
use Rattle.iox2_domain.specs.Ports.{PublisherFields, SubscriberFields}
use Rattle.iox2_domain.proofs.lemmas.containers.LookUps.{look_up-map}
use Rattle.iox2_domain.proofs.lemmas.fields.ConnectionEnds.{publisher-stands, subscriber-stands, occupant-sender_ends}
use Rattle.iox2_domain.proofs.lemmas.fields.KeptChannels.{channels-are}
use Rattle.iox2_domain.proofs.lemmas.fields.OwnKeys.{known, receiver-leads}
use Rattle.iox2_domain.specs.Departures.{KnowsKey}
use Rattle.iox2_domain.proofs.lemmas.fields.Standing.{some_is}
use Rattle.iox2_steps.proofs.updates.FollowedChannels.{none-new, follow-there}
use mathlib.Core.Path.{fun_ext}
use Rattle.iox2_domain.proofs.lemmas.fields.NamedPorts.{occupant-led, end-leads-through}

-- a publisher's end leads through a connection
sender-leads : (connections : Slab Link) (keys : List (Option ℕ)) (i q : ℕ)
    → occupant (sender_ends connections keys) i ≡ Some q
    → (key : ℕ) × (c : Link) × (get_or keys i None ≡ Some key) × (get connections key ≡ Some c)
    × (c.home.subscriber ≡ q)
sender-leads = end-leads-through (λ (c : Link). c.home.subscriber)

module _ {T U : Type 0} (f : Fields T U) (parts : HasParts f) where
  abbrev s : State T U
  s = state_of (kept_of f)

  occupant-receiver : (keys : List (Option ℕ)) (i : ℕ)
      → occupant (receiver_ends f.connections keys) i ≡ publisher_of_key f.connections (get_or keys i None)
  occupant-receiver = occupant-led (λ (c : Link). c.home.publisher) f.connections

  -- the ports of a connection are linked
  pub linked-there : (key : ℕ) (d : Link) → get f.connections key ≡ Some d
      → is_linked s d.home.publisher d.home.subscriber ≡ true
  linked-there key d at =
      elim (parts.linked.ends key d at) [ inl has ↦ from_sender has | inr has ↦ from_receiver has ] where
        from_sender : SenderHas f.publishers key d → is_linked s d.home.publisher d.home.subscriber ≡ true
        from_sender has =
            let x = has.publisher in
            let leads : LeadsTo (sender_ends f.connections x.keys) d.home.subscriber = (
              d.home.subscriber_place,
              occupant-sender_ends f.connections x.keys d.home.subscriber_place
                  ∙ ap (subscriber_of_key f.connections) has.has ∙ ap (option_map (λ (c : Link). c.home.subscriber)) at,
            ) in
            or_left _ _
            (ap (λ o. option_map_or (λ (z : Publisher). contains (occupants z.ends) d.home.subscriber) o false)
            (ap s.publishers (sym has.is_its) ∙ publisher-stands f parts d.home.publisher_place x has.stands)
            ∙ contains-occupants (sender_ends f.connections x.keys) d.home.subscriber leads)

        from_receiver : ReceiverHas f.subscribers key d → is_linked s d.home.publisher d.home.subscriber ≡ true
        from_receiver has =
            let y = has.subscriber in
            or_right _ _
            (ap (λ o. option_map_or (λ (z : Subscriber). contains (connected_publishers z) d.home.publisher) o false)
            (ap s.subscribers (sym has.is_its) ∙ subscriber-stands f parts d.home.subscriber_place y has.stands)
            ∙ among y (known y d.home.publisher_place key has.has))
          where
            lead : (keys : List (Option ℕ)) (i : ℕ) → get_or keys i None ≡ Some key
                → contains (occupants (receiver_ends f.connections keys)) d.home.publisher ≡ true
            lead keys i has_key = contains-occupants (receiver_ends f.connections keys) d.home.publisher (
              i,
              occupant-receiver keys i ∙ ap (publisher_of_key f.connections) has_key
                  ∙ ap (option_map (λ (c : Link). c.home.publisher)) at,
            )

            among : (y : SubscriberFields) → KnowsKey y key
                → contains (connected_publishers ((subscriber_of f.books f.connections y).port)) d.home.publisher ≡ true
            among y (inl at_place) = contains_right (occupants (receiver_ends f.connections (map Some y.expired)))
                (occupants (receiver_ends f.connections y.keys)) d.home.publisher (lead y.keys at_place.0 at_place.1)
            among y (inr listed) = contains_left (occupants (receiver_ends f.connections (map Some y.expired)))
                (occupants (receiver_ends f.connections y.keys)) d.home.publisher
                (lead (map Some y.expired) listed.0 listed.1)

  -- linked ports have a connection
  pub links-there : (p q : ℕ) → is_linked s p q ≡ true → NoLink f.connections p q → ⊥
  links-there p q linked none =
      elim (or_cases _ _ linked) [ inl sends ↦ from_sender sends | inr receives ↦ from_receiver receives ] where
        from_sender : option_map_or (λ (x : Publisher). contains (occupants x.ends) q) (s.publishers p) false ≡ true → ⊥
        from_sender h = by (look_up (is_publisher p) f.publishers) refl
            (sym (ap (λ o. option_map_or (λ (x : Publisher). contains (occupants x.ends) q)
            (option_map (λ (n : Named Publisher). n.port) o) false)
            (look_up-map (is_named p) (publisher_of f.books f.connections) f.publishers)) ∙ h)
          where
            by : (o : Option PublisherFields) → look_up (is_publisher p) f.publishers ≡ o
                → option_map_or (λ (x : Publisher). contains (occupants x.ends) q)
                (option_map (λ (n : Named Publisher). n.port) (option_map (publisher_of f.books f.connections) o)) false
                ≡ true → ⊥
            by None e g = absurd cc
            by (Some x) e g =
                let there = look_up-there (is_publisher p) f.publishers x e in
                let leads = leads_to (sender_ends f.connections x.keys) q g in
                let to = sender-leads f.connections x.keys leads.0 q leads.1 in
                let own = some_is (IsSenders x.id leads.0) (get f.connections to.0)
                ((parts.linked.senders there.0 x there.1).at leads.0 to.0 to.2) in
                let both : Some own.0 ≡ Some to.1 = sym own.1 ∙ to.3 in
                let is : own.0 ≡ to.1 = cc in
                none to.0 to.1 to.3
                (ap (λ (c : Link). c.home.publisher) (sym is) ∙ own.2.publisher ∙ eqb-true x.id p there.2) to.4

        from_receiver : option_map_or (λ (y : Subscriber). contains (connected_publishers y) p)
            (s.subscribers q) false ≡ true → ⊥
        from_receiver h = by (look_up (is_subscriber q) f.subscribers) refl
            (sym (ap (λ o. option_map_or (λ (y : Subscriber). contains (connected_publishers y) p)
            (option_map (λ (n : Named Subscriber). n.port) o) false)
            (look_up-map (is_named q) (subscriber_of f.books f.connections) f.subscribers)) ∙ h)
          where
            by : (o : Option SubscriberFields) → look_up (is_subscriber q) f.subscribers ≡ o
                → option_map_or (λ (y : Subscriber). contains (connected_publishers y) p)
                (option_map (λ (n : Named Subscriber). n.port) (option_map (subscriber_of f.books f.connections) o))
                false ≡ true → ⊥
            by None e g = absurd cc
            by (Some y) e g =
                let there = look_up-there (is_subscriber q) f.subscribers y e in
                elim (contains_in_append (occupants (receiver_ends f.connections (map Some y.expired)))
                (occupants (receiver_ends f.connections y.keys)) p g) [
                  | inl among ↦
                      let leads = leads_to (receiver_ends f.connections (map Some y.expired)) p among in
                      let to = receiver-leads f.connections (map Some y.expired) leads.0 p leads.1 in
                      let own = some_is (IsReceivers y.id _) (get f.connections to.0)
                      ((parts.linked.expired there.0 y there.1).at leads.0 to.0 to.2) in
                      its y to.1 own (sym own.1 ∙ to.3) to.0 to.3 to.4 (eqb-true y.id q there.2)
                  | inr at_place ↦
                      let leads = leads_to (receiver_ends f.connections y.keys) p at_place in
                      let to = receiver-leads f.connections y.keys leads.0 p leads.1 in
                      let own = some_is (IsReceivers y.id _) (get f.connections to.0)
                      ((parts.linked.receivers there.0 y there.1).at leads.0 to.0 to.2) in
                      its y to.1 own (sym own.1 ∙ to.3) to.0 to.3 to.4 (eqb-true y.id q there.2)
                ]
              where
                its : (y : SubscriberFields) (c : Link) {o : Option Link}
                    (own : (d : Link) × (o ≡ Some d) × IsReceivers y.id (f.config).subscriber_max_borrowed_samples d)
                    → Some own.0 ≡ Some c → (key : ℕ) → get f.connections key ≡ Some c → c.home.publisher ≡ p → y.id ≡ q
                    → ⊥
                its y c own both key at mine named =
                    let is : own.0 ≡ c = cc in
                    none key c at mine (ap (λ (d : Link). d.home.subscriber) (sym is) ∙ own.2.subscriber ∙ named)

-- ---- what the machine resets

module _ {T U : Type 0} (f f' : Fields T U) (parts : HasParts f) (parts' : HasParts f') (Own : Home → Type 0)
    (Gone : ℕ → ℕ → Type 0) (follow : ChannelsFollow Own Gone f.connections f'.connections)
    (w : State T U) (shown : state_of (kept_of f') ≡ with_channels_of f' w)
    (before : w.channels ≡ (state_of (kept_of f)).channels) where
  linked-same : (p q : ℕ) → is_linked (state_of (kept_of f')) p q ≡ is_linked w p q
  linked-same p q = ap (λ (t : State T U). is_linked t p q) shown

  old-is : (p q : ℕ) → w.channels p q ≡ channels_in f.connections p q
  old-is p q = ap (λ (channels : ℕ → ℕ → ℕ → Channel). channels p q) (before ∙ channels-are f)

  -- where a connection stands
  stands-so : (p q : ℕ) → (NoLink f'.connections p q)
      ⊎ ((key : ℕ) × (d : Link) × (get f'.connections key ≡ Some d) × (d.home.publisher ≡ p) × (d.home.subscriber ≡ q))
  stands-so p q = by (look_up (is_between p q) f'.connections.slots) refl where
    by : (o : Option Link) → look_up (is_between p q) f'.connections.slots ≡ o
        → (NoLink f'.connections p q) ⊎ ((key : ℕ) × (d : Link) × (get f'.connections key ≡ Some d)
        × (d.home.publisher ≡ p) × (d.home.subscriber ≡ q))
    by None e = inl (λ key c at mine yours.
        absurd (let no : is_between p q c ≡ false = look_up-none (is_between p q) f'.connections.slots e key c at in
        let yes : is_between p q c ≡ true = is_between-own p q c mine yours in cc))
    by (Some d) e =
        let there = look_up-there (is_between p q) f'.connections.slots d e in
        let both = both-true _ _ there.2 in
        inr (there.0, d, there.1, eqb-true d.home.publisher p both.0, eqb-true d.home.subscriber q both.1)

  same-there : (p q key : ℕ) (d : Link) → get f'.connections key ≡ Some d → d.home.publisher ≡ p → d.home.subscriber ≡ q
      → channels_in f'.connections p q ≡ channels_in f.connections p q
  same-there p q key d at mine yours =
      subst (λ (r : ℕ). channels_in f'.connections r q ≡ channels_in f.connections r q) mine
      (subst (λ (r : ℕ). channels_in f'.connections d.home.publisher r ≡ channels_in f.connections d.home.publisher r)
      yours
      (follow-there Own Gone f.connections f'.connections parts.apart parts'.apart follow key d at))

  -- of a row or column that is reset
  pub reset-is : (p q : ℕ) → channels_in f'.connections p q ≡ channels_if_linked w p q
  reset-is p q = elim (stands-so p q) [
    | inl none ↦ none-new f'.connections p q none
        ∙ sym (ap (λ (b : Bool). cond b (w.channels p q) new_channels) (unlinked (is_linked w p q) refl none))
    | inr there ↦
        same-there p q there.0 there.1 there.2 there.3 there.4 ∙ sym (old-is p q)
        ∙ sym (ap (λ (b : Bool). cond b (w.channels p q) new_channels)
        (sym (linked-same p q) ∙ subst (λ (r : ℕ). is_linked (state_of (kept_of f')) r q ≡ true) there.3
        (subst (λ (r : ℕ). is_linked (state_of (kept_of f')) (there.1).home.publisher r ≡ true) there.4
        (linked-there f' parts' there.0 there.1 there.2))))
  ]
    where
      unlinked : (b : Bool) → is_linked w p q ≡ b → NoLink f'.connections p q → is_linked w p q ≡ false
      unlinked true e none = absurd (links-there f' parts' p q (linked-same p q ∙ e) none)
      unlinked false e none = e

  -- of another
  pub other-is : (p q : ℕ) → ((h : Home) → h.publisher ≡ p → h.subscriber ≡ q → Own h → ⊥)
      → channels_in f'.connections p q ≡ w.channels p q
  other-is p q other = elim (stands-so p q) [
    | inl none ↦ none-new f'.connections p q none
        ∙ sym (none-new f.connections p q (λ key c at mine yours. elim (follow.lost key c at) [
          | inl still ↦ none still.key still.link still.stands (ap (λ (h : Home). h.publisher) still.home ∙ mine)
              (ap (λ (h : Home). h.subscriber) still.home ∙ yours)
          | inr gone ↦ other c.home mine yours gone.0
        ])) ∙ sym (old-is p q)
    | inr there ↦ same-there p q there.0 there.1 there.2 there.3 there.4 ∙ sym (old-is p q)
  ]

-- a publisher's step
pub sender-reset : {T U : Type 0} (f f' : Fields T U) (parts : HasParts f) (parts' : HasParts f') (id : ℕ)
    (Gone : ℕ → ℕ → Type 0) → ChannelsFollow (λ home. home.publisher ≡ id) Gone f.connections f'.connections
    → (w : State T U) → state_of (kept_of f') ≡ with_channels_of f' w → w.channels ≡ (state_of (kept_of f)).channels
    → state_of (kept_of f') ≡ sender_channels_reset w id
sender-reset f f' parts parts' id Gone follow w shown before =
    shown ∙ ap (λ (channels : ℕ → ℕ → ℕ → Channel). record w { channels = channels })
    (channels-are f' ∙ fun_ext (λ p. fun_ext (λ q. by p q)))
  where
    by : (p q : ℕ) → channels_in f'.connections p q ≡ put_at w.channels id (channels_if_linked w id) p q
    by p q = elim (cases_eq p id) [
      | inl here ↦ subst
          (λ (r : ℕ). channels_in f'.connections r q ≡ put_at w.channels id (channels_if_linked w id) r q) (sym here)
          (reset-is f f' parts parts' (λ home. home.publisher ≡ id) Gone follow w shown before id q
          ∙ sym (ap (λ (b : Bool). cond b (channels_if_linked w id) (w.channels id) q) (eq-eqb id id refl)))
      | inr away ↦ other-is f f' parts parts' (λ home. home.publisher ≡ id) Gone follow w shown before p q
          (λ h mine yours own. away (sym mine ∙ own))
          ∙ sym (ap (λ (b : Bool). cond b (channels_if_linked w id) (w.channels p) q) (ne_eqb p id away))
    ]

-- a subscriber's step
pub receiver-reset : {T U : Type 0} (f f' : Fields T U) (parts : HasParts f) (parts' : HasParts f') (id : ℕ)
    (Gone : ℕ → ℕ → Type 0) → ChannelsFollow (λ home. home.subscriber ≡ id) Gone f.connections f'.connections
    → (w : State T U) → state_of (kept_of f') ≡ with_channels_of f' w → w.channels ≡ (state_of (kept_of f)).channels
    → state_of (kept_of f') ≡ receiver_channels_reset w id
receiver-reset f f' parts parts' id Gone follow w shown before =
    shown ∙ ap (λ (channels : ℕ → ℕ → ℕ → Channel). record w { channels = channels })
    (channels-are f' ∙ fun_ext (λ p. fun_ext (λ q. by p q)))
  where
    by : (p q : ℕ) → channels_in f'.connections p q ≡ put_at (w.channels p) id (channels_if_linked w p id) q
    by p q = elim (cases_eq q id) [
      | inl here ↦ subst (λ (r : ℕ).
          channels_in f'.connections p r ≡ put_at (w.channels p) id (channels_if_linked w p id) r) (sym here)
          (reset-is f f' parts parts' (λ home. home.subscriber ≡ id) Gone follow w shown before p id
          ∙ sym (ap (λ (b : Bool). cond b (channels_if_linked w p id) (w.channels p id)) (eq-eqb id id refl)))
      | inr away ↦ other-is f f' parts parts' (λ home. home.subscriber ≡ id) Gone follow w shown before p q
          (λ h mine yours own. away (sym yours ∙ own))
          ∙ sym (ap (λ (b : Bool). cond b (channels_if_linked w p id) (w.channels p q)) (ne_eqb q id away))
    ]
