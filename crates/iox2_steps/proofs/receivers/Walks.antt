-- A subscriber's update, over the publishers' places.
use Rattle.std.proofs.Common.{◌≡◌, ℕ, ◌+◌, ◌<◌, ◌≤◌, true, false, Bool, List, ◌∷◌, length, drop, get_or, slice_set}
use Rattle.std.proofs.Common.{refl, ap, sym, subst, ◌∙◌, arith}
use Rattle.std.proofs.lemmas.List.{drop_more, drop_all, length-map}
use Rattle.std.specs.Prelude.{MatchOption}
use Rattle.std.specs.Bool.{MatchBool}
use Rattle.std.specs.declared.option.Option.{Option}
use Rattle.std.specs.declared.option.Option.TheVariants.{None, Some}
use Rattle.std.specs.Option.{option_map, option_map_or}
use Rattle.iox2_machine.specs.machine.Connections.{ForEachPlace, first_failure}
use Rattle.iox2_machine.specs.machine.Limits.{expired_limit}
use Rattle.iox2_machine.specs.machine.Numbers.{put_at}
use Rattle.iox2_machine.specs.machine.Places.{occupant}
use Rattle.iox2_machine.specs.machine.Records.{Subscriber, Environment}
use Rattle.iox2_machine.specs.machine.State.{receiver_channels_reset, State, has_sender_end}
use Rattle.iox2_machine.specs.machine.SubscriberUpdate.{ReceiverSide, ConnectAtPlace, DisconnectAtPlace}
use Rattle.iox2_machine.specs.machine.SubscriberUpdate.{UpdateReceiverSide, receiver_side, with_receiver_side}
use Rattle.iox2_machine.specs.declared.errors.ConnectionFailure.{ConnectionFailure}
use Rattle.iox2_machine.specs.declared.service_config.ServiceConfig.{ServiceConfig}
use Rattle.iox2_laws.proofs.ReceiverSides.{receiver_side_begins}
use Rattle.iox2_connections.proofs.MailboxChanges.{put_at-own}
use Rattle.iox2_steps.proofs.updates.ResetChannels.{receiver-reset}
use Rattle.iox2_domain.specs.Ports.{SubscriberFields}
use Rattle.iox2_domain.specs.Kept.{state_of}
use Rattle.iox2_domain.specs.Fields.{Fields, kept_of, subscriber_of}
use Rattle.iox2_domain.specs.Invariant.{IsDomain}
use Rattle.iox2_domain.specs.Updates.{publisher_but_room, changed_at, is_subscriber_due}
use Rattle.iox2_domain.specs.ReceiverSteps.{current_side, ChangesReceiver, ConnectsAt, DisconnectsAt, UpdatesReceiver}
use Rattle.iox2_steps.proofs.updates.SenderWalk.{occupant-get_or, first_failure-none, first_failure-assoc}
use Rattle.iox2_steps.proofs.receivers.LeftChanges.{present, left-changes}
use Rattle.iox2_steps.proofs.receivers.LeftEnds.{nothing-leaves}
use Rattle.iox2_steps.proofs.receivers.LeftStates.{left-still}
use Rattle.iox2_steps.proofs.receivers.Compositions.{unchanged, changed, changed-stands, side-again, senders-again}
use Rattle.iox2_steps.proofs.receivers.Compositions.{places-again, config-again, changes-more}

-- a step at a place
abbrev pub PlaceStep : Type 1
PlaceStep = (place : ℕ) → Option ℕ → ReceiverSide → ReceiverSide → Option ConnectionFailure → Type 0

-- The subscriber y at the place j was updated at the places below i, with this failure if any: whatever the rest of the
-- walk comes to from here, the whole walk comes to.
pub record Walks {T U : Type 0} (AtPlace : PlaceStep) (f : Fields T U) (j : ℕ) (y : SubscriberFields)
    (start : ReceiverSide) (i : ℕ) (f' : Fields T U) (failure : Option ConnectionFailure) : Type 0 where
  pub side : ReceiverSide
  pub changes : ChangesReceiver f j y side f'
  pub walk : (end : ReceiverSide) (later : Option ConnectionFailure)
      → ForEachPlace AtPlace i (drop i (state_of (kept_of f)).publisher_places) side end later
      → ForEachPlace AtPlace 0 (state_of (kept_of f)).publisher_places start end (first_failure failure later)

module _ {T U : Type 0} (environment : Environment) (f : Fields T U) (sound : IsDomain f) (j : ℕ) (y : SubscriberFields)
    (at : get_or f.subscribers j None ≡ Some y) where
  abbrev s : State T U
  s = state_of (kept_of f)

  abbrev Q : Subscriber
  Q = (subscriber_of f.books f.connections y).port

  -- what the subscriber does at a place
  abbrev pub AtConnect : PlaceStep
  AtConnect place at side side' failure =
      ConnectAtPlace environment (f.config).service_id y.id Q.degradation_handler (expired_limit f.config)
      (λ p. has_sender_end s p y.id) place at side side' failure

  -- and at an empty one
  abbrev pub AtEmpty : PlaceStep
  AtEmpty place at side side' failure =
      DisconnectAtPlace environment (f.config).service_id y.id Q.degradation_handler (expired_limit f.config)
      (λ p. has_sender_end s p y.id) place at side side' failure

  -- there are as many places as publishers were listed
  listed : length s.publisher_places ≡ length f.publishers
  listed = length-map _ _ ∙ length-map f.publishers _

  -- as many afterwards
  pub as-many-publishers : (side : ReceiverSide) (f' : Fields T U) → ChangesReceiver f j y side f'
      → length f'.publishers ≡ length f.publishers
  as-many-publishers side f' ch = sym (length-map f'.publishers (option_map publisher_but_room)) ∙ ap length ch.others
      ∙ length-map f.publishers (option_map publisher_but_room)

  -- the subscriber that is due no more
  abbrev pub settled : Fields T U
  settled = record f { subscribers = slice_set f.subscribers j (Some (record y { is_due = false })) }

  pub settles : ChangesReceiver f j y (receiver_side s y.id Q) settled
  settles =
      left-changes f sound j y at y.keys y.expired (nothing-leaves f sound.parts j y at) (receiver_side s y.id Q)
      (receiver_side_begins s sound.well_formed y.id Q (present f sound j y at))
      (left-still f sound.parts j y at y.keys y.expired false (nothing-leaves f sound.parts j y at)
      ∙ (λ k. record s {
        subscribers = put_at s.subscribers y.id (Some (record Q { is_due = false }));
        mailboxes = λ r. put_at-own (s.mailboxes r) y.id k;
      }))

  -- a walk begins with any side
  pub walk-begins : (AtPlace : PlaceStep) (side : ReceiverSide) (f' : Fields T U) → ChangesReceiver f j y side f'
      → Walks AtPlace f j y side 0 f' None
  walk-begins AtPlace side f' changes = record { side = side; changes = changes; walk = λ end later rest. rest }

  module _ (AtPlace : PlaceStep) (start : ReceiverSide) (i : ℕ) (f' : Fields T U) (failure : Option ConnectionFailure)
      (walks : Walks AtPlace f j y start i f' failure) where
    -- the subscriber on its way
    abbrev pub walking : SubscriberFields
    walking = changed f sound j y at walks.side f' walks.changes

    -- one place more
    pub walk-more : i < length f.publishers → (f'' : Fields T U) (side' : ReceiverSide)
        (first : Option ConnectionFailure) → ChangesReceiver f' j walking side' f''
        → AtPlace i (occupant s.publisher_places i) walks.side side' first
        → Walks AtPlace f j y start (i + 1) f'' (first_failure failure first)
    walk-more low f'' side' first more step = record {
      side = side';
      changes = changes-more f sound j y at walks.side f' walks.changes side' f'' more;
      walk = λ end later rest. subst (λ (o : Option ConnectionFailure).
          ForEachPlace AtPlace 0 s.publisher_places start end o) (sym (first_failure-assoc failure first later))
          (walks.walk end (first_failure first later)
          (subst
          (λ (places : List (Option ℕ)). ForEachPlace AtPlace i places walks.side end (first_failure first later))
          (sym (drop_more s.publisher_places i None (omega (arith, listed))
          ∙ ap (λ o. o ∷ drop (i + 1) s.publisher_places) (occupant-get_or s.publisher_places i)))
          (side', first, later, step, rest, refl)));
    }

    -- past the last place the walk is over
    pub walk-over : length f.publishers ≤ i → ForEachPlace AtPlace 0 s.publisher_places start walks.side failure
    walk-over past =
        subst (λ (o : Option ConnectionFailure). ForEachPlace AtPlace 0 s.publisher_places start walks.side o)
        (first_failure-none failure)
        (walks.walk walks.side None
        (subst (λ (places : List (Option ℕ)). ForEachPlace AtPlace i places walks.side walks.side None)
        (sym (drop_all i s.publisher_places (omega (arith, listed)))) (refl, refl)))

  -- ---- the steps from there are the machine's from the start

  module _ (side : ReceiverSide) (i : ℕ) (f' : Fields T U) (ch : ChangesReceiver f j y side f') where
    abbrev now : SubscriberFields
    now = changed f sound j y at side f' ch

    abbrev N : Subscriber
    N = (subscriber_of f'.books f'.connections now).port

    -- whatever holds of the state on its way, holds from the start
    again : (At : ServiceConfig → (ℕ → Bool) → List (Option ℕ) → ReceiverSide → Type 0)
        → At f'.config (λ p. has_sender_end (state_of (kept_of f')) p y.id) (state_of (kept_of f')).publisher_places
        (current_side (state_of (kept_of f')) y.id N)
        → At f.config (λ p. has_sender_end s p y.id) s.publisher_places side
    again At step =
        subst (At f.config (λ p. has_sender_end s p y.id) s.publisher_places) (side-again f sound j y at side f' ch)
        (subst (λ (has : ℕ → Bool). At f.config has s.publisher_places (current_side (state_of (kept_of f')) y.id N))
        (senders-again f sound j y at side f' ch)
        (subst (λ (places : List (Option ℕ)). At f.config (λ p. has_sender_end (state_of (kept_of f')) p y.id) places
        (current_side (state_of (kept_of f')) y.id N)) (places-again f sound j y at side f' ch)
        (subst (λ (config : ServiceConfig). At config (λ p. has_sender_end (state_of (kept_of f')) p y.id)
        (state_of (kept_of f')).publisher_places (current_side (state_of (kept_of f')) y.id N))
        (config-again f sound j y at side f' ch) step)))

    -- in the first walk
    pub connect-again : (side' : ReceiverSide) (first : Option ConnectionFailure)
        → ConnectAtPlace environment (f'.config).service_id y.id N.degradation_handler (expired_limit f'.config)
        (λ p. has_sender_end (state_of (kept_of f')) p y.id) i (occupant (state_of (kept_of f')).publisher_places i)
        (current_side (state_of (kept_of f')) y.id N) side' first
        → AtConnect i (occupant s.publisher_places i) side side' first
    connect-again side' first =
        again (λ config has places from. ConnectAtPlace environment config.service_id y.id Q.degradation_handler
        (expired_limit config) has i (occupant places i) from side' first)

    -- in the second
    pub disconnect-again : (side' : ReceiverSide) (first : Option ConnectionFailure)
        → DisconnectAtPlace environment (f'.config).service_id y.id N.degradation_handler (expired_limit f'.config)
        (λ p. has_sender_end (state_of (kept_of f')) p y.id) i (occupant (state_of (kept_of f')).publisher_places i)
        (current_side (state_of (kept_of f')) y.id N) side' first
        → AtEmpty i (occupant s.publisher_places i) side side' first
    disconnect-again side' first =
        again (λ config has places from. DisconnectAtPlace environment config.service_id y.id Q.degradation_handler
        (expired_limit config) has i (occupant places i) from side' first)

  -- ---- the whole

  -- a walk over all places goes one place further
  pub connects-more : (start : ReceiverSide) (i : ℕ) (f' : Fields T U) (failure : Option ConnectionFailure)
      (walks : Walks AtConnect f j y start i f' failure) → i < length f.publishers
      → (f'' : Fields T U) (first : Option ConnectionFailure)
      → ConnectsAt environment f' j i (changed f sound j y at walks.side f' walks.changes) f'' first
      → Walks AtConnect f j y start (i + 1) f'' (first_failure failure first)
  connects-more start i f' failure walks low f'' first (side', more, step) =
      walk-more AtConnect start i f' failure walks low f'' side' first more
      (connect-again walks.side i f' walks.changes side' first step)

  pub disconnects-more : (start : ReceiverSide) (i : ℕ) (f' : Fields T U) (failure : Option ConnectionFailure)
      (walks : Walks AtEmpty f j y start i f' failure) → i < length f.publishers
      → (f'' : Fields T U) (first : Option ConnectionFailure)
      → DisconnectsAt environment f' j i (changed f sound j y at walks.side f' walks.changes) f'' first
      → Walks AtEmpty f j y start (i + 1) f'' (first_failure failure first)
  disconnects-more start i f' failure walks low f'' first (side', more, step) =
      walk-more AtEmpty start i f' failure walks low f'' side' first more
      (disconnect-again walks.side i f' walks.changes side' first step)

  abbrev Updates : Option Subscriber → State T U → Option ConnectionFailure → Type 0
  Updates o s' failure = MatchOption o ⊥ (λ (z : Subscriber). MatchBool z.is_due
      ((end : ReceiverSide)
      × UpdateReceiverSide environment (f.config).service_id y.id z.degradation_handler (expired_limit f.config)
      (λ p. has_sender_end s p y.id) s.publisher_places (receiver_side s y.id z) end failure
      × (s' ≡ receiver_channels_reset (with_receiver_side s y.id z end) y.id))
      ((s' ≡ s) × (failure ≡ None)))

  -- both walks are the update of a subscriber that is due
  pub walks-update : y.is_due ≡ true → (i : ℕ) → length f.publishers ≤ i
      → (mid : ReceiverSide) (first : Option ConnectionFailure)
      → ForEachPlace AtConnect 0 s.publisher_places (receiver_side s y.id Q) mid first
      → (f' : Fields T U) (later : Option ConnectionFailure) → Walks AtEmpty f j y mid i f' later
      → UpdatesReceiver environment f j y f' (first_failure first later)
  walks-update due i past mid first connects f' later walks = record {
    side = walks.side;
    changes = walks.changes;
    updates = subst (λ o. Updates o (state_of (kept_of f')) (first_failure first later)) (sym (present f sound j y at))
        (by y.is_due due);
  } where
    by : (b : Bool) → b ≡ true → MatchBool b
        ((end : ReceiverSide)
        × UpdateReceiverSide environment (f.config).service_id y.id Q.degradation_handler (expired_limit f.config)
        (λ p. has_sender_end s p y.id) s.publisher_places (receiver_side s y.id Q) end (first_failure first later)
        × (state_of (kept_of f') ≡ receiver_channels_reset (with_receiver_side s y.id Q end) y.id))
        ((state_of (kept_of f') ≡ s) × (first_failure first later ≡ None))
    by true e = (
      walks.side,
      (mid, first, later, connects, walk-over AtEmpty mid i f' later walks past, refl),
      receiver-reset f f' sound.parts walks.changes.agrees.parts y.id (λ p q. s.publishers p ≡ None)
          walks.changes.channels (with_receiver_side s y.id Q walks.side) walks.changes.state refl,
    )
    by false e = absurd cc

  -- a subscriber that isn't due is as it is
  pub idle-update : y.is_due ≡ false → UpdatesReceiver environment f j y f None
  idle-update due = record {
    side = current_side s y.id Q;
    changes = unchanged f sound j y at;
    updates = subst (λ o. Updates o s None) (sym (present f sound j y at)) (subst (λ b. MatchBool b
        ((end : ReceiverSide)
        × UpdateReceiverSide environment (f.config).service_id y.id Q.degradation_handler (expired_limit f.config)
        (λ p. has_sender_end s p y.id) s.publisher_places (receiver_side s y.id Q) end None
        × (s ≡ receiver_channels_reset (with_receiver_side s y.id Q end) y.id))
        ((s ≡ s) × (◌≡◌ {A = Option ConnectionFailure} None None))) (sym due) (refl, refl));
  }

-- ---- the walks of the subscriber at a place

module _ {T U : Type 0} (environment : Environment) where
  -- The subscriber at the place j has walked over the places below i.
  pub record WalksFirst (f : Fields T U) (j i : ℕ) (f' : Fields T U) (first : Option ConnectionFailure) : Type 0 where
    pub sound : IsDomain f
    pub subscriber : SubscriberFields
    pub stands : get_or f.subscribers j None ≡ Some subscriber
    pub walks : Walks (AtConnect environment f sound j subscriber stands) f j subscriber
        (receiver_side (state_of (kept_of f)) subscriber.id (subscriber_of f.books f.connections subscriber).port) i f'
        first

  -- It has walked over all, and over those below i for the second time.
  pub record WalksBoth (f : Fields T U) (j i : ℕ) (f' : Fields T U)
      (first later : Option ConnectionFailure) : Type 0 where
    pub sound : IsDomain f
    pub subscriber : SubscriberFields
    pub stands : get_or f.subscribers j None ≡ Some subscriber
    pub mid : ReceiverSide
    pub connects : ForEachPlace (AtConnect environment f sound j subscriber stands) 0
        (state_of (kept_of f)).publisher_places (receiver_side (state_of (kept_of f)) subscriber.id
        (subscriber_of f.books f.connections subscriber).port) mid first
    pub walks : Walks (AtEmpty environment f sound j subscriber stands) f j subscriber mid i f' later

  -- the walks begin
  pub begins-first : (f : Fields T U) (sound : IsDomain f) (j : ℕ) (y : SubscriberFields)
      (at : get_or f.subscribers j None ≡ Some y) (f' : Fields T U)
      → f' ≡ record f { subscribers = changed_at (λ z. record z { is_due = false }) f.subscribers j }
      → WalksFirst f j 0 f' None
  begins-first f sound j y at f' is = record {
    sound = sound;
    subscriber = y;
    stands = at;
    walks = walk-begins environment f sound j y at (AtConnect environment f sound j y at)
        (receiver_side (state_of (kept_of f)) y.id (subscriber_of f.books f.connections y).port) f'
        (subst (λ (h : Fields T U). ChangesReceiver f j y
        (receiver_side (state_of (kept_of f)) y.id (subscriber_of f.books f.connections y).port) h)
        (sym
        (is ∙ ap (λ o. record f {
          subscribers = slice_set f.subscribers j
              (option_map (λ (z : SubscriberFields). record z { is_due = false }) o);
        }) at))
        (settles environment f sound j y at));
  }

  -- the subscriber on its way
  pub walker : (f : Fields T U) (j i : ℕ) (f' : Fields T U) (first : Option ConnectionFailure)
      → WalksFirst f j i f' first → (z : SubscriberFields) × (get_or f'.subscribers j None ≡ Some z)
  walker f j i f' first w = (
    changed f w.sound j w.subscriber w.stands (w.walks).side f' (w.walks).changes,
    changed-stands f w.sound j w.subscriber w.stands (w.walks).side f' (w.walks).changes,
  )

  -- as many publishers are listed
  pub walked-length : (f : Fields T U) (j i : ℕ) (f' : Fields T U) (first : Option ConnectionFailure)
      → WalksFirst f j i f' first → length f'.publishers ≡ length f.publishers
  walked-length f j i f' first w =
      as-many-publishers environment f w.sound j w.subscriber w.stands (w.walks).side f' (w.walks).changes

  pub first-more : (f : Fields T U) (j i : ℕ) (f' : Fields T U) (first : Option ConnectionFailure)
      (w : WalksFirst f j i f' first) → i < length f.publishers
      → (f'' : Fields T U) (failure joined : Option ConnectionFailure)
      → ((z : SubscriberFields) → get_or f'.subscribers j None ≡ Some z → ConnectsAt environment f' j i z f'' failure)
      → joined ≡ first_failure first failure → WalksFirst f j (i + 1) f'' joined
  first-more f j i f' first w bound f'' failure joined step is = record {
    sound = w.sound;
    subscriber = w.subscriber;
    stands = w.stands;
    walks = subst (λ (o : Option ConnectionFailure). Walks (AtConnect environment f w.sound j w.subscriber w.stands) f j
        w.subscriber (receiver_side (state_of (kept_of f)) w.subscriber.id
        (subscriber_of f.books f.connections w.subscriber).port) (i + 1) f'' o) (sym is)
        (connects-more environment f w.sound j w.subscriber w.stands
        (receiver_side (state_of (kept_of f)) w.subscriber.id (subscriber_of f.books f.connections w.subscriber).port) i
        f' first w.walks
        bound f'' failure
        (step (changed f w.sound j w.subscriber w.stands (w.walks).side f' (w.walks).changes)
        (changed-stands f w.sound j w.subscriber w.stands (w.walks).side f' (w.walks).changes)));
  }

  -- the second walk begins where the first is over
  pub begins-both : (f : Fields T U) (j i : ℕ) (f' : Fields T U) (first : Option ConnectionFailure)
      → WalksFirst f j i f' first → length f.publishers ≤ i → WalksBoth f j 0 f' first None
  begins-both f j i f' first w bound = record {
    sound = w.sound;
    subscriber = w.subscriber;
    stands = w.stands;
    mid = (w.walks).side;
    connects = walk-over environment f w.sound j w.subscriber w.stands
        (AtConnect environment f w.sound j w.subscriber w.stands)
        (receiver_side (state_of (kept_of f)) w.subscriber.id (subscriber_of f.books f.connections w.subscriber).port) i
        f' first w.walks
        bound;
    walks = walk-begins environment f w.sound j w.subscriber w.stands
        (AtEmpty environment f w.sound j w.subscriber w.stands) (w.walks).side f' (w.walks).changes;
  }

  pub both-more : (f : Fields T U) (j i : ℕ) (f' : Fields T U) (first later : Option ConnectionFailure)
      (w : WalksBoth f j i f' first later) → i < length f.publishers
      → (f'' : Fields T U) (failure joined : Option ConnectionFailure)
      → ((z : SubscriberFields) → get_or f'.subscribers j None ≡ Some z
      → DisconnectsAt environment f' j i z f'' failure)
      → joined ≡ first_failure later failure → WalksBoth f j (i + 1) f'' first joined
  both-more f j i f' first later w bound f'' failure joined step is = record {
    sound = w.sound;
    subscriber = w.subscriber;
    stands = w.stands;
    mid = w.mid;
    connects = w.connects;
    walks = subst (λ (o : Option ConnectionFailure).
        Walks (AtEmpty environment f w.sound j w.subscriber w.stands) f j w.subscriber w.mid (i + 1) f'' o) (sym is)
        (disconnects-more environment f w.sound j w.subscriber w.stands w.mid i f' later w.walks
        bound f'' failure
        (step (changed f w.sound j w.subscriber w.stands (w.walks).side f' (w.walks).changes)
        (changed-stands f w.sound j w.subscriber w.stands (w.walks).side f' (w.walks).changes)));
  }

  -- both are the update
  pub both-update : (f : Fields T U) (j i : ℕ) (f' : Fields T U) (first later : Option ConnectionFailure)
      → WalksBoth f j i f' first later → length f.publishers ≤ i
      → is_subscriber_due f.subscribers j ≡ true → (joined : Option ConnectionFailure)
      → joined ≡ first_failure first later
      → (y : SubscriberFields) → get_or f.subscribers j None ≡ Some y → UpdatesReceiver environment f j y f' joined
  both-update f j i f' first later w bound due joined is y at =
      let both : Some w.subscriber ≡ Some y = sym w.stands ∙ at in
      let same : w.subscriber ≡ y = cc in
      subst (λ (z : SubscriberFields). UpdatesReceiver environment f j z f' joined) same
      (subst (λ (o : Option ConnectionFailure). UpdatesReceiver environment f j w.subscriber f' o) (sym is)
      (walks-update environment f w.sound j w.subscriber w.stands
      (sym (ap (λ o. option_map_or (λ (z : SubscriberFields). z.is_due) o false) w.stands) ∙ due) i
      bound w.mid first w.connects f' later w.walks))

  pub idle-at : (f : Fields T U) (sound : IsDomain f) (j : ℕ) → is_subscriber_due f.subscribers j ≡ false
      → (y : SubscriberFields) → get_or f.subscribers j None ≡ Some y → UpdatesReceiver environment f j y f None
  idle-at f sound j due y at = idle-update environment f sound j y at
      (sym (ap (λ o. option_map_or (λ (z : SubscriberFields). z.is_due) o false) at) ∙ due)
