-- A subscriber that was shut goes over its connections with publishers that are gone.
use Rattle.std.proofs.Common.{◌≡◌, ◌≢◌, ℕ, Bool, true, false, not, cond, List, [], map, get_or, refl, ap, sym, subst}
use Rattle.std.proofs.Common.{◌∙◌, inl, inr, ◌⊎◌, MatchOption}
use Rattle.std.proofs.lemmas.Bool.{cases_eq, eq-eqb, true≢false}
use Rattle.std.specs.Prelude.{Contains}
use Rattle.std.specs.declared.option.Option.{Option}
use Rattle.std.specs.declared.option.Option.TheVariants.{None, Some}
use Rattle.std.specs.Option.{option_map}
use Rattle.slab.specs.Slab.{get}
use Rattle.iox2_connections.specs.Link.{Link}
use Rattle.iox2_slots.specs.SlotBook.{Book}
use Rattle.iox2_machine.specs.machine.Mailbox.{has_numbers}
use Rattle.iox2_machine.specs.machine.Numbers.{put_at}
use Rattle.iox2_machine.specs.machine.Records.{Publisher, Subscriber}
use Rattle.iox2_machine.specs.machine.State.{State, subscriber_changed}
use Rattle.iox2_laws.proofs.PlaceLemmas.{contains-occupants}
use Rattle.iox2_laws.proofs.Puts.{put_at-same}
use Rattle.iox2_connections.specs.Drops.{without_waiting}
use Rattle.iox2_connections.specs.Mailboxes.{publisher_of_key, receiver_ends}
use Rattle.iox2_domain.specs.Departures.{key_forgotten, KnowsKey}
use Rattle.iox2_domain.specs.Ports.{PublisherFields, SubscriberFields}
use Rattle.iox2_domain.specs.Kept.{state_of}
use Rattle.iox2_domain.specs.Fields.{Fields, kept_of, subscriber_of}
use Rattle.iox2_domain.specs.Invariant.{IsDomain, IsUsed, ReceiverHas}
use Rattle.iox2_domain.proofs.lemmas.containers.ChangedRecords.{changed-here}
use Rattle.iox2_domain.proofs.lemmas.fields.OwnKeys.{known, listed-at}
use Rattle.iox2_domain.proofs.lemmas.fields.Standing.{occupant-receiver_ends}
use Rattle.iox2_domain.specs.KeptLinks.{HasLink}
use Rattle.iox2_domain.specs.Midway.{with_channels_of}
use Rattle.iox2_steps.proofs.updates.FollowedChannels.{has-link, link-through}
use Rattle.iox2_steps.specs.Agreement.{IsOrphan, HasOwnedParts, KeepsMessages}
use Rattle.iox2_steps.specs.Closes.{HasNoPublisher, IsBusy, ConnectionLosesWaiting, ForgetsIfEmpty, LosesLeft}
use Rattle.iox2_steps.specs.Closes.{LosesIfLeft, lost_from, forgotten_if_empty, without_publisher}
use Rattle.iox2_steps.proofs.subscriber_closes.OwnedParts.{owned_parts_of, left-held}
use Rattle.iox2_steps.proofs.subscriber_closes.ClosedSubscribers.{shut, with_shut, shut-parts, shut-is}
use Rattle.iox2_steps.proofs.subscriber_closes.KeptMessages.{keeps-trans}
use Rattle.iox2_steps.proofs.subscriber_closes.Sheds.{Sheds, sheds-channels, with_publishers, sheds-none, sheds-there}
use Rattle.iox2_steps.proofs.subscriber_closes.Sheds.{sheds-dropped, sheds-forgotten}
use Rattle.iox2_steps.proofs.subscriber_closes.CloseSteps.{link-busy, departed-absent, box-numbers, is_empty_link}
use Rattle.iox2_domain.specs.OpenMarks.{IsUnmarkedReceiver}
use Rattle.iox2_domain.proofs.lemmas.fields.ConnectionEnds.{subscriber-stands}

-- ---- what a domain begins with

module _ {T U : Type 0} (f : Fields T U) (sound : IsDomain f) where
  abbrev parts : HasOwnedParts f
  parts = owned_parts_of f sound

  -- something stands in each connection with a publisher that is gone
  pub departed-busy : (key : ℕ) (c : Link) → get f.connections key ≡ Some c → HasNoPublisher f.publishers c → IsBusy c
  departed-busy key c at departed = elim (sound.parts.linked.ends key c at) [
    | inl has ↦ absurd (departed c.home.publisher_place has.publisher has.stands has.is_its)
    | inr has ↦ busy (kept has has.has)
  ] where
    absent : (state_of (kept_of f)).publishers c.home.publisher ≡ None
    absent = departed-absent f parts c.home.publisher departed

    busy : has_numbers ((state_of (kept_of f)).mailboxes c.home.publisher c.home.subscriber) ≡ true → IsBusy c
    busy some = by (is_empty_link c) refl where
      by : (b : Bool) → is_empty_link c ≡ b → IsBusy c
      by true e = absurd (true≢false (sym some ∙ box-numbers f parts key c at ∙ ap not e))
      by false e = link-busy c e

    leads : option_map (λ (d : Link). d.home.publisher) (get f.connections key) ≡ Some c.home.publisher
    leads = ap (option_map (λ (d : Link). d.home.publisher)) at

    kept : (has : ReceiverHas f.subscribers key c)
        → (get_or has.subscriber.keys c.home.publisher_place None ≡ Some key) ⊎ Contains has.subscriber.expired key
        → has_numbers ((state_of (kept_of f)).mailboxes c.home.publisher c.home.subscriber) ≡ true
    kept has (inl placed) =
        let well = sound.well_formed.subscribers has.subscriber.id _
        (subscriber-stands f parts.parts c.home.subscriber_place has.subscriber has.stands) in
        ap (λ (q : ℕ). has_numbers ((state_of (kept_of f)).mailboxes c.home.publisher q)) (sym has.is_its)
        ∙ subst (λ (o : Option Publisher).
        MatchOption o (has_numbers ((state_of (kept_of f)).mailboxes c.home.publisher has.subscriber.id) ≡ true)
        (λ x. x.place ≡ c.home.publisher_place)) absent
        (well.ends_stand c.home.publisher_place c.home.publisher
        (occupant-receiver_ends f.connections has.subscriber.keys c.home.publisher_place
        ∙ ap (publisher_of_key f.connections) placed ∙ leads))
    kept has (inr among) =
        let well = sound.well_formed.subscribers has.subscriber.id _
        (subscriber-stands f parts.parts c.home.subscriber_place has.subscriber has.stands) in
        let there = listed-at has.subscriber.expired key among in
        ap (λ (q : ℕ). has_numbers ((state_of (kept_of f)).mailboxes c.home.publisher q)) (sym has.is_its)
        ∙ well.expired_kept c.home.publisher
        (contains-occupants (receiver_ends f.connections (map Some has.subscriber.expired)) c.home.publisher (
          there.0,
          occupant-receiver_ends f.connections (map Some has.subscriber.expired) there.0
              ∙ ap (publisher_of_key f.connections) there.1 ∙ leads,
        ))

-- ---- the walk

-- No slot waits there, in whatever channel.
abbrev pub IsDrained : Link → Type 0
IsDrained c = (c.waiting ≡ []) × (c.others ≡ [])

-- the subscriber, or without the key that is there
abbrev pub IsLess : Option ℕ → SubscriberFields → SubscriberFields → Type 0
IsLess o y z = (z ≡ y) ⊎ ((key : ℕ) × (o ≡ Some key) × (z ≡ key_forgotten key y))

module _ {T U : Type 0} (f : Fields T U) (sound : IsDomain f) (place : ℕ) (y : SubscriberFields)
    (at_y : get_or f.subscribers place None ≡ Some y) where
  abbrev port : Subscriber
  port = (subscriber_of f.books f.connections y).port

  -- the machine's state with the subscriber shut
  abbrev pub shut_state : State T U
  shut_state = record (state_of (kept_of f))
      { subscribers = put_at (state_of (kept_of f)).subscribers y.id (Some (record port { is_open = false })) }

  -- What holds in the midst of the walk. These are the keys of the subscriber at which connections are still to be
  -- looked at.
  pub record IsClosing (rest : SubscriberFields → ℕ → Type 0) (f' : Fields T U) : Type 0 where
    pub parts : HasOwnedParts f'
    pub messages : KeepsMessages f f'
    pub channels : (k : ℕ) (d : Link) → get f'.connections k ≡ Some d → HasLink f.connections d
    pub publishers : f'.publishers ≡ f.publishers
    pub next_port : f'.next_port ≡ f.next_port
    pub subscriber : (z : SubscriberFields) × (get_or f'.subscribers place None ≡ Some z) × (z.id ≡ y.id)
    pub busy : (k : ℕ) (c : Link) → get f'.connections k ≡ Some c → HasNoPublisher f.publishers c → IsBusy c
    pub dropped : (k : ℕ) (c : Link) → get f'.connections k ≡ Some c → c.home.subscriber ≡ y.id
        → HasNoPublisher f.publishers c → IsDrained c ⊎ rest subscriber.0 k
    pub held : (k : ℕ) (b : Book) → get f'.books k ≡ Some b → IsOrphan f b → IsUsed b
    pub sheds : Sheds shut_state y.id (record port { is_open = false }) (state_of (kept_of f'))

  -- the subscriber knows each of its connections with a publisher that is gone
  left-known : (k : ℕ) (c : Link) → get f.connections k ≡ Some c → c.home.subscriber ≡ y.id
      → HasNoPublisher f.publishers c → KnowsKey y k
  left-known k c at its departed = elim (sound.parts.linked.ends k c at) [
    | inl has ↦ absurd (departed c.home.publisher_place has.publisher has.stands has.is_its)
    | inr has ↦
        let same : c.home.subscriber_place ≡ place =
        (sound.parts.subscriber_ids y.id).one c.home.subscriber_place place has.subscriber y has.stands at_y
        (eq-eqb has.subscriber.id y.id (has.is_its ∙ its)) (eq-eqb y.id y.id refl) in
        let one : Some has.subscriber ≡ Some y =
        sym has.stands ∙ ap (λ (n : ℕ). get_or f.subscribers n None) same ∙ at_y in
        let is : has.subscriber ≡ y = cc in
        subst (λ (z : SubscriberFields). KnowsKey z k) is (known has.subscriber c.home.publisher_place k has.has)
  ]

  -- it begins where the subscriber was shut
  pub closing-begins : IsUnmarkedReceiver f.connections place → (rest : SubscriberFields → ℕ → Type 0)
      → ((k : ℕ) → KnowsKey y k → rest (shut f (owned_parts_of f sound) place y at_y) k)
      → IsClosing rest (with_shut f (owned_parts_of f sound) place y at_y)
  closing-begins unmarked rest all = record {
    parts = shut-parts f (owned_parts_of f sound) place y at_y unmarked;
    messages = record { back = λ k slot m e. e; forth = λ k slot n m has e. e; number = λ k slot n has. has };
    channels = has-link f.connections;
    publishers = refl;
    next_port = refl;
    subscriber = (shut f (owned_parts_of f sound) place y at_y, shut-here, refl);
    busy = departed-busy f sound;
    dropped = λ k c at its departed. inr (all k (left-known k c at its departed));
    held = left-held f sound;
    sheds = subst (Sheds shut_state y.id (record port { is_open = false }))
        (sym (shut-is f (owned_parts_of f sound) place y at_y unmarked))
        (sheds-none shut_state y.id (record port { is_open = false }) own);
  } where
    shut-here : get_or (with_shut f (owned_parts_of f sound) place y at_y).subscribers place None ≡ Some
        (shut f (owned_parts_of f sound) place y at_y)
    shut-here = changed-here f.subscribers place y (shut f (owned_parts_of f sound) place y at_y) at_y

    own : shut_state.subscribers y.id ≡ Some (record port { is_open = false })
    own = put_at-same (state_of (kept_of f)).subscribers y.id (Some (record port { is_open = false }))

  module _ (rest : SubscriberFields → ℕ → Type 0) (f' : Fields T U) (so_far : IsClosing rest f') where
    -- where no other key is left than before
    pub closing-passes : (fewer : SubscriberFields → ℕ → Type 0)
        → ((k : ℕ) (c : Link) → get f'.connections k ≡ Some c → HasNoPublisher f.publishers c
        → rest so_far.subscriber.0 k → fewer so_far.subscriber.0 k)
        → IsClosing fewer f'
    closing-passes fewer still = record {
      parts = so_far.parts;
      messages = so_far.messages;
      channels = so_far.channels;
      publishers = so_far.publishers;
      next_port = so_far.next_port;
      subscriber = so_far.subscriber;
      busy = so_far.busy;
      dropped = λ k c at its departed. elim (so_far.dropped k c at its departed)
          [ inl none ↦ inl none | inr left ↦ inr (still k c at departed left) ];
      held = so_far.held;
      sheds = so_far.sheds;
    }

    module _ (key : ℕ) (next : Fields T U) (loses_left : LosesLeft f' place key next) where
      abbrev c : Link
      c = (loses_left.left).link

      at : get f'.connections key ≡ Some c
      at = (loses_left.left).link_stands

      abbrev between : Fields T U
      between = loses_left.between

      abbrev loses : ConnectionLosesWaiting f' key c between
      loses = loses_left.loses

      abbrev forgets : ForgetsIfEmpty between place key (loses_left.left).subscriber (without_waiting c) next
      forgets = loses_left.forgets

      same : (loses_left.left).subscriber ≡ so_far.subscriber.0
      same = let one : Some (loses_left.left).subscriber ≡ Some so_far.subscriber.0 = sym (loses_left.left).stands
          ∙ so_far.subscriber.1 in cc

      its : c.home.subscriber ≡ y.id
      its = (loses_left.left).is_its ∙ ap (λ (z : SubscriberFields). z.id) same ∙ so_far.subscriber.2

      departed-then : HasNoPublisher f.publishers c
      departed-then = subst (λ (xs : List (Option PublisherFields)). HasNoPublisher xs c) so_far.publishers
          (loses_left.left).departed

      -- the subscriber then
      now : (forgets.subscriber.0 ≡ so_far.subscriber.0)
          ⊎ (forgets.subscriber.0 ≡ key_forgotten key so_far.subscriber.0)
      now = elim forgets.subscriber.2 [ inl is ↦ inl (is ∙ same) | inr is ↦ inr (is ∙ ap (key_forgotten key) same) ]

      was : (k : ℕ) (d : Link) → k ≢ key → get next.connections k ≡ Some d → get f'.connections k ≡ Some d
      was k d away at_d = sym (loses.connection.others k away) ∙ sym (forgets.others k away) ∙ at_d

      at-key : (k : ℕ) (d : Link) → k ≡ key → get next.connections k ≡ Some d
          → (d ≡ without_waiting c) × IsBusy (without_waiting c)
      at-key k d here at_d = forgets.left d (sym (ap (get next.connections) here) ∙ at_d)

      gone : shut_state.publishers c.home.publisher ≡ None
      gone = departed-absent f (owned_parts_of f sound) c.home.publisher departed-then

      lost : Sheds shut_state y.id (record port { is_open = false }) (state_of (kept_of between))
      lost = subst (Sheds shut_state y.id (record port { is_open = false }))
          (sym (loses.passes.state
          ∙ ap (λ (r : ℕ). with_channels_of between (lost_from (state_of (kept_of f')) c.home.publisher r)) its))
          (sheds-channels shut_state y.id (record port { is_open = false })
          (lost_from (state_of (kept_of f')) c.home.publisher y.id)
          (sheds-dropped shut_state y.id (record port { is_open = false })
          (put_at-same (state_of (kept_of f)).subscribers y.id (Some (record port { is_open = false })))
          (state_of (kept_of f')) so_far.sheds c.home.publisher gone) (state_of (kept_of between)).channels)

      forgot : Sheds shut_state y.id (record port { is_open = false })
          (forgotten_if_empty (state_of (kept_of between)) c.home.publisher y.id)
      forgot = by (has_numbers ((state_of (kept_of between)).mailboxes c.home.publisher y.id)) refl where
        t : State T U
        t = state_of (kept_of between)

        own : shut_state.subscribers y.id ≡ Some (record port { is_open = false })
        own = put_at-same (state_of (kept_of f)).subscribers y.id (Some (record port { is_open = false }))

        left : Subscriber
        left = with_publishers lost.test (record port { is_open = false })

        there : t.subscribers y.id ≡ Some left
        there = sheds-there shut_state y.id (record port { is_open = false }) own t lost

        by : (b : Bool) → has_numbers (t.mailboxes c.home.publisher y.id) ≡ b
            → Sheds shut_state y.id (record port { is_open = false })
            (cond b t (subscriber_changed t y.id (without_publisher c.home.publisher)))
        by true e = lost
        by false e = subst (λ (o : Option Subscriber). Sheds shut_state y.id (record port { is_open = false })
            (record t { subscribers = put_at t.subscribers y.id (option_map (without_publisher c.home.publisher) o) }))
            (sym there) (sheds-forgotten shut_state y.id
            (record port { is_open = false }) own t lost c.home.publisher gone e left there)

      -- the connection at the key is done with
      closing-lost : (fewer : SubscriberFields → ℕ → Type 0)
          → ((k : ℕ) → k ≢ key → rest so_far.subscriber.0 k → fewer forgets.subscriber.0 k) → IsClosing fewer next
      closing-lost fewer still = record {
        parts = forgets.passes.parts;
        messages = keeps-trans f f' next so_far.messages
            (keeps-trans f' between next loses.passes.messages forgets.passes.messages);
        channels = λ k d at_d.
            let mid = forgets.passes.channels k d at_d in
            let early = loses.passes.channels mid.key mid.link mid.stands in
            link-through f.connections early.link d (early.home ∙ mid.home) (early.channels ∙ mid.channels)
            (so_far.channels early.key early.link early.stands);
        publishers = forgets.publishers ∙ loses.publishers ∙ so_far.publishers;
        next_port = forgets.next_port ∙ loses.next_port ∙ so_far.next_port;
        subscriber = (
          forgets.subscriber.0,
          forgets.subscriber.1,
          elim now [
            | inl is ↦ ap (λ (z : SubscriberFields). z.id) is ∙ so_far.subscriber.2
            | inr is ↦
                ap (λ (z : SubscriberFields). z.id) is ∙ so_far.subscriber.2
          ],
        );
        busy = λ k d at_d departed. elim (cases_eq k key) [
          | inl here ↦ let is = at-key k d here at_d in subst IsBusy (sym is.0) is.1
          | inr away ↦ so_far.busy k d (was k d away at_d) departed
        ];
        dropped = λ k d at_d mine departed. elim (cases_eq k key) [
          | inl here ↦ inl (
            ap (λ (l : Link). l.waiting) (at-key k d here at_d).0,
            ap (λ (l : Link). l.others) (at-key k d here at_d).0,
          )
          | inr away ↦ elim (so_far.dropped k d (was k d away at_d) mine departed)
              [ inl none ↦ inl none | inr left ↦ inr (still k away left) ]
        ];
        held = λ k b at_b orphan. elim (cases_eq k c.home.book) [
          | inl here ↦ forgets.held b (sym (ap (get next.books) here) ∙ at_b)
          | inr away ↦ so_far.held k b (sym (loses.books k away) ∙ sym (forgets.books k away) ∙ at_b) orphan
        ];
        sheds = subst (Sheds shut_state y.id (record port { is_open = false }))
            (sym (forgets.passes.state ∙ ap (λ (r : ℕ).
            with_channels_of next (forgotten_if_empty (state_of (kept_of between)) c.home.publisher r)) its))
            (sheds-channels shut_state y.id (record port { is_open = false })
            (forgotten_if_empty (state_of (kept_of between)) c.home.publisher y.id) forgot
            (state_of (kept_of next)).channels);
      }

    -- it is done with whether its publisher was gone or not, and where there was no key there was nothing to do
    pub closing-more : (o : Option ℕ) (fewer : SubscriberFields → ℕ → Type 0)
        → ((z : SubscriberFields) → IsLess o so_far.subscriber.0 z → (k : ℕ) → (o ≡ Some k → ⊥)
        → rest so_far.subscriber.0 k → fewer z k)
        → (next : Fields T U) → LosesIfLeft f' place o next → IsClosing fewer next
    closing-more None fewer still next same =
        subst (IsClosing fewer) (sym same) (closing-passes fewer
        (λ k c at departed left. still so_far.subscriber.0 (inl refl) k (λ no. absurd cc) left))
    closing-more (Some key) fewer still next (inl loses_left) = closing-lost key next loses_left fewer (λ k away left.
        still loses_left.forgets.subscriber.0
        (elim (now key next loses_left) [ inl is ↦ inl is | inr is ↦ inr (key, refl, is) ]) k
        (λ same. let here : k ≡ key = cc in away here) left)
    closing-more (Some key) fewer still next (inr stays) =
        subst (IsClosing fewer) (sym stays.1)
        (closing-passes fewer (λ k c at departed left. still so_far.subscriber.0 (inl refl) k
        (λ same. let here : key ≡ k = cc in stays.0 c (ap (get f'.connections) here ∙ at)
        (subst (λ (xs : List (Option PublisherFields)). HasNoPublisher xs c) (sym so_far.publishers) departed))
        left))
