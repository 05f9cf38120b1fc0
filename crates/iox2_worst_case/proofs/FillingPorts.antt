-- The publisher and the subscribers are made on the way to full slots.
use Rattle.std.proofs.Common.{◌≡◌, ℕ, suc, ◌+◌, ◌-◌, ◌≤◌, ◌<◌, Bool, true, false, cond, List, [], ◌∷◌, min, refl, sym}
use Rattle.std.proofs.Common.{ap, subst, ◌∙◌, arith, eqb, ltb, Option, None, Some, option_map, ◌⊎◌, ⊎_elim}
use Rattle.std.specs.Bool.{MatchBool}
use Rattle.std.proofs.lemmas.Bool.{le-ltb, lt-ltb, ne_eqb, eqb-false, eqb-true, cond_both}
use Rattle.iox2_machine.specs.machine.Limits.{buffer_limit, expired_limit, last_number}
use Rattle.iox2_machine.specs.machine.Places.{occupant, free_place, lowest_free, set_place}
use Rattle.iox2_machine.specs.machine.Channel.{Channel, new_channels}
use Rattle.iox2_machine.specs.machine.Mailbox.{Mailbox, empty_mailbox}
use Rattle.iox2_machine.specs.machine.Records.{Publisher, Subscriber, PublisherSettings, SubscriberSettings, Handler}
use Rattle.iox2_machine.specs.machine.Records.{Fixed}
use Rattle.iox2_machine.specs.machine.State.{State, Messages, fresh, has_sender_end, is_linked, channels_if_linked}
use Rattle.iox2_machine.specs.machine.State.{sender_channels_reset, receiver_channels_reset}
use Rattle.iox2_machine.specs.machine.Connections.{ForEachPlace, first_failure}
use Rattle.iox2_machine.specs.machine.PublisherUpdate.{sender_side, with_sender_side}
use Rattle.iox2_machine.specs.machine.SubscriberUpdate.{ReceiverSide, with_end, UpdateReceiverSide, ConnectReceiver}
use Rattle.iox2_machine.specs.machine.SubscriberUpdate.{ConnectAtPlace, DisconnectAtPlace, receiver_side}
use Rattle.iox2_machine.specs.machine.SubscriberUpdate.{with_receiver_side}
use Rattle.iox2_machine.specs.machine.Ports.{slots_for, first_segment_fits, buffer_for, new_subscriber, new_publisher}
use Rattle.iox2_machine.specs.machine.Ports.{with_new_publisher, with_new_subscriber, with_failure_warning}
use Rattle.iox2_machine.specs.machine.Ports.{FirstSubscriberUpdate, MakePublisher, MakeSubscriber}
use Rattle.iox2_machine.specs.machine.WellFormed.{IsWellFormed}
use Rattle.iox2_machine.specs.declared.service_config.ServiceConfig.{ServiceConfig}
use Rattle.iox2_machine.specs.declared.service_config.TypeVariant.{TypeVariant}
use Rattle.iox2_machine.specs.declared.service_config.TypeVariant.TheVariants.{FixedSize, Dynamic}
use Rattle.iox2_machine.specs.declared.backpressure.BackpressureStrategy.TheVariants.{DiscardData}
use Rattle.iox2_machine.specs.declared.degradation.DegradationAction.{DegradationAction}
use Rattle.iox2_machine.specs.declared.degradation.DegradationAction.TheVariants.{Warn}
use Rattle.iox2_machine.specs.declared.errors.ConnectionFailure.{ConnectionFailure}
use Rattle.iox2_machine.specs.declared.errors.PublisherCreateError.{PublisherCreateError}
use Rattle.iox2_machine.specs.declared.errors.SubscriberCreateError.{SubscriberCreateError}
use Rattle.iox2_machine.specs.declared.warning.Warning.TheVariants.{PublisherPartlyConnected, SubscriberPartlyConnected}
use Rattle.iox2_laws.proofs.Puts.{put_at-own, put_at-same, at_each}
use Rattle.iox2_commands.specs.NewPublishers.{publisher_with}
use Rattle.iox2_commands.specs.Outcomes.{Handle, Publisher_handle, Subscriber_handle, Outcome}
use Rattle.iox2_commands.specs.Step.{Step, after_publisher, after_subscriber, publisher_settings}
use Rattle.iox2_machine.specs.machine.Environments.{ample_memory}
use Rattle.iox2_commands.specs.declared.command.Command.TheVariants.{CreateSubscriber as SubscriberCommand}
use Rattle.iox2_commands.specs.declared.reply.Reply.TheVariants.{PublisherMade, SubscriberMade}
use Rattle.iox2_worst_case.specs.FillingCommands.{publisher_command}
use Rattle.iox2_worst_case.proofs.FillingNumbers.{numbers_from, recent, lowest_free-ports_from, set_place-ports_from}
use Rattle.iox2_worst_case.proofs.FillingShape.{filler, reader, IsFilling, at_some, at_none, concluded}

-- what holds of the one case, where it is that one
at_false : (b : Bool) (P Q : Type 0) → b ≡ false → MatchBool b P Q → Q
at_false b P Q e h = subst (λ v. MatchBool v P Q) e h

at_true : (b : Bool) (P Q : Type 0) → b ≡ true → MatchBool b P Q → P
at_true b P Q e h = subst (λ v. MatchBool v P Q) e h

-- ---- a subscriber

module _ (service_id q limit : ℕ) (handler : Handler DegradationAction) (has_end : ℕ → Bool) where
  -- the one publisher is connected
  connects_receiver : (side side' : ReceiverSide) (failure : Option ConnectionFailure) → occupant side.ends 0 ≡ None
      → UpdateReceiverSide ample_memory service_id q handler limit has_end (Some 1 ∷ []) side side' failure
      → (side' ≡ with_end side 0 (Some 1)) × (failure ≡ None)
  connects_receiver side side' failure nobody h =
      let walk : ForEachPlace (ConnectAtPlace ample_memory service_id q handler limit has_end) 0
      (Some 1 ∷ []) side h.0 h.1 = h.3 in
      let back : ForEachPlace (DisconnectAtPlace ample_memory service_id q handler limit has_end) 0
      (Some 1 ∷ []) h.0 side' h.2 = h.4 in
      let connects : ConnectReceiver ample_memory service_id q handler limit has_end side 0 1 walk.0 walk.1 =
      at_none (occupant side.ends 0) _ _ nobody walk.3 in
      ⊎_elim
      (λ k. (
        back.4.0 ∙ back.3.0 ∙ walk.4.0 ∙ k.0,
        h.5
            ∙ ap (λ (v : Option ConnectionFailure). first_failure v h.2)
            (walk.5 ∙ ap (λ (v : Option ConnectionFailure). first_failure v walk.2) k.1 ∙ walk.4.1)
            ∙ (back.5 ∙ ap (λ (v : Option ConnectionFailure). first_failure v back.2) back.3.1 ∙ back.4.1),
      ))
      (λ k. absurd (k.2.1))
      connects

module _ {T U : Type 0} (c : ServiceConfig) (most available : ℕ) (s : State T U) (sent made : ℕ)
    (links : List (Option ℕ)) (due : Bool) (boxes : ℕ → Mailbox)
    (f : IsFilling c most available s sent 0 made links due boxes) where
  -- What making a subscriber comes to.
  pub record IsMade (o : Outcome T U) : Type 0 where
    pub reply : o.reply ≡ SubscriberMade s.next_port
    pub handle : o.handle ≡ Subscriber_handle (2 + made)
    pub filling : IsFilling c most available o.state sent 0 (suc made) links true boxes

  -- what it is made with
  abbrev given : SubscriberSettings
  given = record { buffer_size = buffer_limit s.config; degradation_handler = Fixed Warn }

  -- the state in which it was just made
  abbrev new : State T U
  new = with_new_subscriber s given made

  abbrev who : Subscriber
  who = new_subscriber given made

  abbrev side_after : ReceiverSide
  side_after = with_end (receiver_side new s.next_port who) 0 (Some 1)

  abbrev after : State T U
  after = receiver_channels_reset (with_receiver_side new s.next_port who side_after) s.next_port

  updated_so : (s' : State T U) → FirstSubscriberUpdate ample_memory new s.next_port s' → s' ≡ after
  updated_so s' h =
      let k : (side : ReceiverSide)
      × UpdateReceiverSide ample_memory (s.config).service_id s.next_port who.degradation_handler
      (expired_limit s.config)
      (λ p. has_sender_end new p s.next_port)
      s.publisher_places (receiver_side new s.next_port who) side h.1
      × (h.0 ≡ receiver_channels_reset (with_receiver_side new s.next_port who side) s.next_port) =
      at_some (new.subscribers s.next_port) who _ _ (put_at-same s.subscribers s.next_port (Some who)) h.2 in
      let ends : (k.0 ≡ side_after) × (h.1 ≡ None) =
      connects_receiver (s.config).service_id s.next_port (expired_limit s.config) who.degradation_handler
      (λ p. has_sender_end new p s.next_port)
      (receiver_side new s.next_port who) k.0 h.1 refl
      (subst (λ (places : List (Option ℕ)).
      UpdateReceiverSide ample_memory (s.config).service_id s.next_port who.degradation_handler
      (expired_limit s.config) (λ p. has_sender_end new p s.next_port)
      places (receiver_side new s.next_port who) k.0 h.1) f.publisher_places k.1) in
      h.3 ∙ ap (with_failure_warning h.0 (SubscriberPartlyConnected s.next_port)) ends.1 ∙ k.2
      ∙ ap (λ side. receiver_channels_reset (with_receiver_side new s.next_port who side) s.next_port) ends.0

  made_so : (s' : State T U) (refusal : Option SubscriberCreateError)
      → MakeSubscriber ample_memory s given made s' refusal → (s' ≡ after) × (refusal ≡ None)
  made_so s' None h = (updated_so s' h, refl)
  made_so s' (Some e) h = absurd (h.0)

  -- the new subscriber and the old ones
  subscribers_after : (q : ℕ) → 2 ≤ q → q < 2 + suc made → after.subscribers q ≡ Some (reader (buffer_limit c) (q - 2))
  subscribers_after q low high =
      elim (eqb q s.next_port) as (λ b. eqb q s.next_port ≡ b
      → cond b (Some (reader (buffer_for given) made)) (cond b (Some who) (s.subscribers q)) ≡ Some
      (reader (buffer_limit c) (q - 2))) [
        | true ↦ λ e.
            let same : q ≡ s.next_port = eqb-true q s.next_port e in
            let place : made ≡ q - 2 = omega (arith, f.next_port) in
            let buffer : buffer_for given ≡ buffer_limit s.config = omega arith in
            ap (λ n. Some (reader n made)) (buffer ∙ ap buffer_limit f.config)
            ∙ ap (λ n. Some (reader (buffer_limit c) n)) place
        | false ↦ λ e.
            let old : q < 2 + made =
            ⊎_elim (λ lower. lower) (λ same. absurd (eqb-false q s.next_port e (same ∙ sym f.next_port)))
            (split q (2 + made) (omega arith)) in
            f.subscribers q low old
      ] refl
    where
      split : (a b : ℕ) → a < suc b → (a < b) ⊎ (a ≡ b)
      split a b h = grind arith

  filling_after : IsWellFormed after → IsFilling c most available after sent 0 (suc made) links true boxes
  filling_after w = record {
    well_formed = w;
    config = f.config;
    next_port = omega (arith, f.next_port);
    next_message = f.next_message;
    longest = f.longest;
    publisher = ap (λ (v : Option Publisher). option_map (λ (x : Publisher). record x { is_due = true }) v) f.publisher;
    publisher_places = f.publisher_places;
    subscriber_places =
        ap (λ (places : List (Option ℕ)). set_place places made (Some s.next_port)) f.subscriber_places
        ∙ set_place-ports_from 2 made s.next_port f.next_port;
    subscribers = subscribers_after;
    mailboxes = put_at-own (s.mailboxes 1) s.next_port ∙ f.mailboxes;
    channels = λ q.
        let t : State T U = with_receiver_side new s.next_port who side_after in
        at_each (s.channels 1) s.next_port (channels_if_linked t 1 s.next_port) (λ _ k. k ≡ new_channels) q
        (λ _. cond_both (is_linked t 1 s.next_port) (s.channels 1 s.next_port) new_channels
        (λ (k : ℕ → Channel). k ≡ new_channels)
        (λ _. f.channels s.next_port) (λ _. refl))
        (λ _. f.channels q);
  }

  -- one more subscriber is made
  pub subscriber_step : (default_value : T) (default_header : U) (m : Messages T U) (handles : List Handle)
      (o : Outcome T U)
      → 2 + made < last_number → made < c.max_subscribers
      → Step ample_memory default_value default_header m s handles (SubscriberCommand None Warn) o
      → IsWellFormed o.state → IsMade o
  subscriber_step default_value default_header m handles o few low step w =
      let numbered : eqb s.next_port last_number ≡ false =
      ne_eqb s.next_port last_number (λ e. omega (arith, f.next_port)) in
      let fits : ltb (buffer_limit s.config) (buffer_for given) ≡ false =
      le-ltb (buffer_limit s.config) (buffer_for given) (omega arith) in
      let free : free_place (s.config).max_subscribers s.subscriber_places ≡ Some made =
      ap (λ n. cond (ltb n (s.config).max_subscribers) (Some n) None)
      (ap lowest_free f.subscriber_places ∙ lowest_free-ports_from 2 made)
      ∙ ap (λ (v : ServiceConfig). cond (ltb made v.max_subscribers) (Some made) None) f.config
      ∙ ap (λ b. cond b (Some made) None) (lt-ltb made c.max_subscribers low) in
      let makes : MakeSubscriber ample_memory s given made step.0 step.1 =
      at_some (free_place (s.config).max_subscribers s.subscriber_places) made _ _ free
      (at_false (ltb (buffer_limit s.config) (buffer_for given)) _ _ fits
      (at_false (eqb s.next_port last_number) _ _ numbered step.2)) in
      let j : (step.0 ≡ after) × (step.1 ≡ None) = made_so step.0 step.1 makes in
      let same : o ≡ after_subscriber after s.next_port None =
      step.3 ∙ ap (after_subscriber step.0 s.next_port) j.1
      ∙ ap (λ (v : State T U). after_subscriber v s.next_port None) j.0 in
      concluded IsMade o (after_subscriber after s.next_port None) same w (λ w'.
      record {
        reply = refl {a = SubscriberMade s.next_port};
        handle = ap (λ n. Subscriber_handle n) f.next_port;
        filling = filling_after w';
      })

-- ---- the publisher

-- what it is made with
abbrev pub filler_settings : ServiceConfig → (most : ℕ) → (slots : Option ℕ) → PublisherSettings
filler_settings c most slots =
    publisher_settings c.variant (record (publisher_with most DiscardData) { override_slots = slots })

pub length_one : (v : TypeVariant) → elim v as (λ _. ℕ) [ FixedSize ↦ 1 | Dynamic ↦ 1 ] ≡ 1
length_one FixedSize = refl
length_one Dynamic = refl

nothing_recent : (limit : ℕ) → [] ≡ recent limit 0
nothing_recent limit = let none : 0 ≡ min limit 0 = omega arith in ap (numbers_from (suc (0 - limit))) none

module _ {T U : Type 0} (c : ServiceConfig) (most : ℕ) (slots : Option ℕ) where
  -- What making the publisher comes to.
  pub record IsBegun (o : Outcome T U) : Type 0 where
    pub reply : o.reply ≡ PublisherMade 1
    pub handle : o.handle ≡ Publisher_handle 1
    pub filling : IsFilling c most (slots_for c (filler_settings c most slots)) o.state 0 0 0 [] false
        (λ _. empty_mailbox)

  abbrev begun : State T U
  begun = with_new_publisher (fresh c) (filler_settings c most slots) 0

  abbrev the_new : State T U → Publisher
  the_new s = new_publisher s (filler_settings c most slots) 0

  abbrev at_first : State T U
  at_first =
      sender_channels_reset (with_sender_side begun 1 (the_new (fresh c)) (sender_side begun 1 (the_new (fresh c)))) 1

  first_made : (s' : State T U) (refusal : Option PublisherCreateError)
      → MakePublisher ample_memory (fresh c) (filler_settings c most slots) 0 s' refusal
      → (s' ≡ at_first) × (refusal ≡ None)
  first_made s' (Some e) h = absurd (h.0)
  first_made s' None h = (
    h.3
        ∙ ap (with_failure_warning h.0 (PublisherPartlyConnected 1)) h.2.1.1
        ∙ h.2.2
        ∙ ap (λ side. sender_channels_reset (with_sender_side begun 1 (the_new (fresh c)) side) 1) h.2.1.0,
    refl,
  )

  filling_at_first : IsWellFormed at_first
      → IsFilling c most (slots_for c (filler_settings c most slots)) at_first 0 0 0 [] false (λ _. empty_mailbox)
  filling_at_first w = record {
    well_formed = w;
    config = refl;
    next_port = refl;
    next_message = refl;
    longest = 0;
    publisher =
        ap (λ n. Some (record (filler most (slots_for c (filler_settings c most slots)) 0 [] [] [] false)
        { initial_max_slice_len = n })) (length_one c.variant)
        ∙ ap (λ (ns : List ℕ). Some (filler most (slots_for c (filler_settings c most slots)) 0 [] ns [] false))
        (nothing_recent c.history_size);
    publisher_places = refl;
    subscriber_places = refl;
    subscribers = λ q low high. absurd (omega arith);
    mailboxes = refl;
    channels = λ q. refl;
  }

  -- the publisher is made
  pub publisher_step : (default_value : T) (default_header : U) (m : Messages T U) (handles : List Handle)
      (o : Outcome T U)
      → 0 < c.max_publishers → first_segment_fits c (filler_settings c most slots) ≡ true
      → Step ample_memory default_value default_header m (fresh c) handles (publisher_command most slots) o
      → IsWellFormed o.state
      → IsBegun o
  publisher_step default_value default_header m handles o low fits step w =
      let free : free_place c.max_publishers [] ≡ Some 0 =
      ap (λ b. cond b (Some 0) None) (lt-ltb 0 c.max_publishers low) in
      let makes : MakePublisher ample_memory (fresh c) (filler_settings c most slots) 0 step.0 step.1 =
      at_true (first_segment_fits c (filler_settings c most slots)) _ _ fits
      (at_some (free_place c.max_publishers []) 0 _ _ free step.2) in
      let j : (step.0 ≡ at_first) × (step.1 ≡ None) = first_made step.0 step.1 makes in
      let same : o ≡ after_publisher at_first 1 None =
      step.3 ∙ ap (after_publisher step.0 1) j.1 ∙ ap (λ (v : State T U). after_publisher v 1 None) j.0 in
      concluded IsBegun o (after_publisher at_first 1 None) same w (λ w'. record
      { reply = refl {a = PublisherMade 1}; handle = refl {a = Publisher_handle 1}; filling = filling_at_first w' })
