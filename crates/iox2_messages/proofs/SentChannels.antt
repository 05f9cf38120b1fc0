-- What a publisher closes of its channels is what the machine makes of it.
use Rattle.std.proofs.Common.{◌≡◌, ◌<◌, ℕ, Bool, true, false, cond, ◌&&◌, eqb, List, Option, None, Some, get_or, refl}
use Rattle.std.proofs.Common.{ap, sym, subst, ◌∙◌}
use Rattle.std.proofs.lemmas.Bool.{eqb-true, eq-eqb, true≢false}
use Rattle.std.proofs.lemmas.Option.{same_Some}
use Rattle.std.specs.Option.{option_map, option_map_or, option_and_then}
use Rattle.slab.specs.Slab.{Slab, ContainsKey, get}
use Rattle.iox2_connections.specs.Link.{Link}
use Rattle.iox2_machine.specs.machine.Channel.{Channel, closed_state, with_state, changed_if}
use Rattle.iox2_machine.specs.machine.ChannelCalls.{receiver_at, sent_closed}
use Rattle.iox2_machine.specs.machine.Limits.{channel_count}
use Rattle.iox2_machine.specs.machine.Numbers.{put_at}
use Rattle.iox2_machine.specs.machine.Places.{occupant}
use Rattle.iox2_machine.specs.machine.Records.{Publisher}
use Rattle.iox2_machine.specs.machine.State.{State}
use Rattle.iox2_connections.specs.Homes.{IsSenders}
use Rattle.iox2_connections.specs.Mailboxes.{channels_in, subscriber_of_key}
use Rattle.iox2_connections.proofs.MailboxChanges.{both-true}
use Rattle.iox2_domain.specs.ChannelChanges.{ChangesLinks}
use Rattle.iox2_domain.specs.Fields.{Fields, kept_of}
use Rattle.iox2_domain.specs.Invariant.{IsDomain}
use Rattle.iox2_domain.specs.Kept.{state_of}
use Rattle.iox2_domain.specs.Ports.{PublisherFields}
use Rattle.iox2_domain.specs.Reaches.{Reaches}
use Rattle.iox2_domain.specs.Updates.{sender_key}
use Rattle.iox2_domain.proofs.lemmas.fields.ConnectionEnds.{occupant-sender_ends, publisher-stands}
use Rattle.iox2_domain.proofs.lemmas.fields.KeptChannels.{channels-are}
use Rattle.iox2_domain.proofs.lemmas.fields.Standing.{some_is}
use Rattle.iox2_steps.proofs.updates.MarkedEnds.{end-there}
use Rattle.iox2_messages.specs.ChannelChanges.{changed_link}
use Rattle.iox2_messages.specs.declared.changed_channels.ChannelChange.{ChannelChange}
use Rattle.iox2_messages.specs.declared.changed_channels.ChannelChange.TheVariants.{SetState}
use Rattle.iox2_messages.proofs.ChangedChannels.{apart-still, channel-there, channels-changed, reaches-changed}

-- a value at two arguments
put-within : {X : Type 0} (f : ℕ → ℕ → X) (i j : ℕ) (x : X) (p q : ℕ)
    → put_at f i (put_at (f i) j x) p q ≡ cond (eqb p i && eqb q j) x (f p q)
put-within {X} f i j x p q = by (eqb p i) refl where
  by : (b : Bool) → eqb p i ≡ b → cond b (put_at (f i) j x) (f p) q ≡ cond (b && eqb q j) x (f p q)
  by true e = ap (λ (r : ℕ). cond (eqb q j) x (f r q)) (sym (eqb-true p i e))
  by false e = refl

-- a publisher's close changes channels alone
pub sent-closed-is : {T U : Type 0} (t : State T U) (p number place expected : ℕ)
    → sent_closed t p number place expected ≡ record t { channels = (sent_closed t p number place expected).channels }
sent-closed-is {T} {U} t p number place expected = by (receiver_at t p place) where
  closed : Option ℕ → State T U
  closed o =
      option_map_or
      (λ q. record t {
        channels = put_at t.channels p
            (put_at (t.channels p) q (changed_if number expected (with_state closed_state) (t.channels p q)));
      }) o t

  by : (o : Option ℕ) → closed o ≡ record t { channels = (closed o).channels }
  by None = refl
  by (Some q) = refl

module _ {T U : Type 0} (f : Fields T U) (sound : IsDomain f) (i : ℕ) (x : PublisherFields)
    (at : get_or f.publishers i None ≡ Some x) (place : ℕ) where
  -- to whom its key at the place leads
  receiver-is : receiver_at (state_of (kept_of f)) x.id place ≡ subscriber_of_key f.connections
      (get_or x.keys place None)
  receiver-is = ap (option_and_then (λ (z : Publisher). occupant z.ends place)) (publisher-stands f sound.parts i x at)
      ∙ occupant-sender_ends f.connections x.keys place

  key-is : sender_key f.publishers i place ≡ get_or x.keys place None
  key-is = ap (option_and_then (λ (z : PublisherFields). get_or z.keys place None)) at

  module _ (number expected : ℕ) (new : Slab Link) (below : number < channel_count f.config) where
    abbrev closing : ChannelChange
    closing = SetState closed_state

    abbrev closed_if : (ℕ → Channel) → ℕ → Channel
    closed_if channels = changed_if number expected (with_state closed_state) channels

    abbrev links : ℕ → ℕ → ℕ → Channel
    links = channels_in f.connections

    -- the channels with those to that subscriber closed
    abbrev closed_to : (ℕ → ℕ → ℕ → Channel) → Option ℕ → ℕ → ℕ → ℕ → Channel
    closed_to channels o =
        option_map_or (λ q. put_at channels x.id (put_at (channels x.id) q (closed_if (channels x.id q)))) o channels

    abbrev ClosesSent : Type 0
    ClosesSent =
        Reaches f (record f { connections = new }) (sent_closed (state_of (kept_of f)) x.id number place expected)

    -- the channels are what the machine makes of them
    closes-as : (key : Option ℕ) → ChangesLinks (changed_link closing number expected)
        (λ k. key ≡ Some k) f.connections new → (o : Option ℕ) → receiver_at (state_of (kept_of f)) x.id place ≡ o
        → ((p q : ℕ) → channels_in new p q ≡ closed_to links o p q) → ClosesSent
    closes-as key changes o is are =
        subst (Reaches f (record f { connections = new })) (sent-to o ∙ ap (closed_state_to) (sym is))
        (reaches-changed f sound closing number expected (λ k. key ≡ Some k) new changes
        (closed_to (state_of (kept_of f)).channels o) (λ p q.
        are p q ∙ ap (λ (channels : ℕ → ℕ → ℕ → Channel). closed_to channels o p q) (sym (channels-are f))))
      where
        closed_state_to : Option ℕ → State T U
        closed_state_to w = let s : State T U = state_of (kept_of f) in
            option_map_or (λ q. record s
            { channels = put_at s.channels x.id (put_at (s.channels x.id) q (closed_if (s.channels x.id q))) }) w s

        sent-to : (w : Option ℕ) → (let s : State T U = state_of (kept_of f) in
            record s { channels = closed_to s.channels w }) ≡ closed_state_to w
        sent-to None = refl
        sent-to (Some q) = refl

    -- there is none at the place
    none-sent : (key : Option ℕ) → ChangesLinks (changed_link closing number expected)
        (λ k. key ≡ Some k) f.connections new → key ≡ None → get_or x.keys place None ≡ None → ClosesSent
    none-sent key changes nowhere none =
        closes-as key changes None (receiver-is ∙ ap (subscriber_of_key f.connections) none) (λ p q.
        channels-changed closing number expected (λ k. key ≡ Some k) f.connections new changes sound.parts.apart
        (apart-still f sound closing number expected (λ k. key ≡ Some k) new changes)
        (channel-there f sound closing number expected (λ k. key ≡ Some k) new changes below) p q false
        (λ wrong. absurd (true≢false (sym wrong)))
        (λ _ k c is there mine yours. let wrong : None ≡ Some k = sym nowhere ∙ is in absurd cc))

    -- the one at the place is closed, and no other
    one-sent : (key : ℕ) → ChangesLinks (changed_link closing number expected)
        (λ k. Some key ≡ Some k) f.connections new → get_or x.keys place None ≡ Some key → (d : Link)
        → get f.connections key ≡ Some d → IsSenders x.id place d → ClosesSent
    one-sent key changes has d there own =
        closes-as (Some key) changes (Some d.home.subscriber)
        (receiver-is ∙ ap (subscriber_of_key f.connections) has
        ∙ ap (option_map (λ (l : Link). l.home.subscriber)) there) (λ p q.
        channels-changed closing number expected (λ k. Some key ≡ Some k) f.connections new changes sound.parts.apart
        (apart-still f sound closing number expected (λ k. Some key ≡ Some k) new changes)
        (channel-there f sound closing number expected (λ k. Some key ≡ Some k) new changes below) p q (hits p q)
        (found p q) (missed p q)
        ∙ same p q (hits p q) refl
        ∙ sym (put-within links x.id d.home.subscriber (closed_if (links x.id d.home.subscriber)) p q))
      where
        hits : (p q : ℕ) → Bool
        hits p q = eqb p x.id && eqb q d.home.subscriber

        found : (p q : ℕ) → hits p q ≡ true → (k : ℕ) × (c : Link) × (Some key ≡ Some k)
            × (get f.connections k ≡ Some c) × (c.home.publisher ≡ p) × (c.home.subscriber ≡ q)
        found p q hit =
            let both = both-true (eqb p x.id) (eqb q d.home.subscriber) hit in (
              key,
              d,
              refl,
              there,
              own.publisher ∙ sym (eqb-true p x.id both.0),
              sym (eqb-true q d.home.subscriber both.1),
            )

        missed : (p q : ℕ) → hits p q ≡ false → (k : ℕ) (c : Link) → Some key ≡ Some k → get f.connections k ≡ Some c
            → c.home.publisher ≡ p → c.home.subscriber ≡ q → ⊥
        missed p q miss k c is at_k mine yours =
            let one : d ≡ c = same_Some d c (sym there ∙ ap (get f.connections) (same_Some key k is) ∙ at_k) in
            let to_p : eqb p x.id ≡ true =
            eq-eqb p x.id (sym mine ∙ ap (λ (l : Link). l.home.publisher) (sym one) ∙ own.publisher) in
            let to_q : eqb q d.home.subscriber ≡ true =
            eq-eqb q d.home.subscriber (sym yours ∙ ap (λ (l : Link). l.home.subscriber) (sym one)) in
            true≢false (sym (ap (λ (b : Bool). b && eqb q d.home.subscriber) to_p ∙ to_q) ∙ miss)

        same : (p q : ℕ) (b : Bool) → hits p q ≡ b
            → cond b (closed_if (links p q)) (links p q) ≡ cond b (closed_if (links x.id d.home.subscriber)) (links p q)
        same p q true e =
            let both = both-true (eqb p x.id) (eqb q d.home.subscriber) e in
            ap (λ (r : ℕ). closed_if (links r q)) (eqb-true p x.id both.0)
            ∙ ap (λ (r : ℕ). closed_if (links x.id r)) (eqb-true q d.home.subscriber both.1)
        same p q false e = refl

    -- that is what the machine does
    pub closed-reaches : (key : Option ℕ) → key ≡ sender_key f.publishers i place
        → ChangesLinks (changed_link closing number expected) (λ k. key ≡ Some k) f.connections new → ClosesSent
    closed-reaches None is changes = none-sent None changes refl (sym key-is ∙ sym is)
    closed-reaches (Some key) is changes =
        let has : get_or x.keys place None ≡ Some key = sym key-is ∙ sym is in
        let it = some_is (IsSenders x.id place) (get f.connections key)
        ((sound.parts.linked.senders i x at).at place key has) in
        one-sent key changes has it.0 it.1 it.2

module _ {T U : Type 0} (f now : Fields T U) (same : f ≡ now) (sound : IsDomain now) (i place : ℕ)
    (publishers : List (Option PublisherFields)) (key : Option ℕ) (read : publishers ≡ f.publishers)
    (is : key ≡ sender_key publishers i place) where
  -- the key that the code reads
  key-now : key ≡ sender_key now.publishers i place
  key-now = is ∙ ap (λ (xs : List (Option PublisherFields)). sender_key xs i place)
      (read ∙ ap (λ (h : Fields T U). h.publishers) same)

  -- it leads to a connection
  pub connected-from : (k : ℕ) → key ≡ Some k → ContainsKey f.connections k
  connected-from k has = subst (λ (h : Fields T U). ContainsKey h.connections k) (sym same)
      (end-there now sound i place k (sym key-now ∙ has))

  -- what the code does there is what the machine does
  pub closed-from : (number : ℕ) → number < channel_count now.config → (expected : ℕ) (new : Slab Link)
      → ChangesLinks (changed_link (SetState closed_state) number expected) (λ k. key ≡ Some k) f.connections new
      → (x : PublisherFields) → get_or now.publishers i None ≡ Some x
      → Reaches now (record f { connections = new }) (sent_closed (state_of (kept_of now)) x.id number place expected)
  closed-from number below expected new changes x at =
      subst (λ (h : Fields T U). Reaches now (record h { connections = new })
      (sent_closed (state_of (kept_of now)) x.id number place expected)) (sym same)
      (closed-reaches now sound i x at place number expected new below key key-now
      (subst (λ (h : Fields T U). ChangesLinks (changed_link (SetState closed_state) number expected)
      (λ k. key ≡ Some k) h.connections new) same changes))
