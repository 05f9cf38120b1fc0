-- Ports are made and closed.
use Rattle.std.specs.Prelude.{ℕ, Bool, true, false, if◌then◌else◌, ◌&&◌, [], ◌≡◌, ◌⊎◌, ◌+◌, ◌==◌, min, max, nat_lt}
use Rattle.std.specs.Prelude.{MatchOption}
use Rattle.std.specs.Bool.{MatchBool}
use Rattle.std.specs.Option.{option_map, option_map_or}
use Rattle.std.specs.declared.option.Option.{Option}
use Rattle.std.specs.declared.option.Option.TheVariants.{None, Some}
use Rattle.iox2_machine.specs.machine.Limits.{buffer_limit, worst_case, last_number, fits, segment_fits}
use Rattle.iox2_machine.specs.machine.Numbers.{put_at}
use Rattle.iox2_machine.specs.machine.Places.{occupant, is_port, vacated, free_place, set_place}
use Rattle.iox2_machine.specs.machine.Mailbox.{Mailbox, waiting_dropped}
use Rattle.iox2_machine.specs.machine.Records.{Publisher, Subscriber, PublisherSettings, SubscriberSettings, Fixed}
use Rattle.iox2_machine.specs.machine.Records.{Environment}
use Rattle.iox2_machine.specs.machine.State.{State, with_warning, is_present, publishers_due, subscribers_due}
use Rattle.iox2_machine.specs.machine.State.{sender_channels_reset, receiver_channels_reset}
use Rattle.iox2_machine.specs.machine.PublisherUpdate.{UpdatePublisher}
use Rattle.iox2_machine.specs.machine.SubscriberUpdate.{UpdateSubscriber}
use Rattle.iox2_machine.specs.machine.Releases.{pruned, freed_if_unused, subscriber_pruned}
use Rattle.iox2_machine.specs.declared.service_config.ServiceConfig.{ServiceConfig}
use Rattle.iox2_machine.specs.declared.degradation.DegradationAction.TheVariants.{Warn}
use Rattle.iox2_machine.specs.declared.errors.ConnectionFailure.{ConnectionFailure}
use Rattle.iox2_machine.specs.declared.errors.PublisherCreateError.{PublisherCreateError}
use Rattle.iox2_machine.specs.declared.errors.PublisherCreateError.TheVariants.{UnableToCreatePortTag as NoPublisherTag}
use Rattle.iox2_machine.specs.declared.errors.PublisherCreateError.TheVariants.{ExceedsMaxSupportedPublishers}
use Rattle.iox2_machine.specs.declared.errors.PublisherCreateError.TheVariants.{UnableToCreateDataSegment}
use Rattle.iox2_machine.specs.declared.errors.PublisherCreateError.TheVariants.{FailedToDeployThreadsafetyPolicy as NoPublisherState}
use Rattle.iox2_machine.specs.declared.errors.SubscriberCreateError.{SubscriberCreateError}
use Rattle.iox2_machine.specs.declared.errors.SubscriberCreateError.TheVariants.{UnableToCreatePortTag as NoSubscriberTag}
use Rattle.iox2_machine.specs.declared.errors.SubscriberCreateError.TheVariants.{BufferSizeExceedsMaxSupportedBufferSizeOfService}
use Rattle.iox2_machine.specs.declared.errors.SubscriberCreateError.TheVariants.{ExceedsMaxSupportedSubscribers}
use Rattle.iox2_machine.specs.declared.errors.SubscriberCreateError.TheVariants.{FailedToDeployThreadsafetyPolicy as NoSubscriberState}
use Rattle.iox2_machine.specs.declared.warning.Warning.{Warning}
use Rattle.iox2_machine.specs.declared.warning.Warning.TheVariants.{PublisherPartlyConnected, SubscriberPartlyConnected}
use Rattle.iox2_machine.specs.declared.warning.Warning.TheVariants.{ExpiredBufferRaised}

-- A publisher's factory begins with the service's settings.
-- (iceoryx2: `service/port_factory/publisher.rs`, `PortFactoryPublisher::new`.)
abbrev pub default_publisher_settings : ServiceConfig → PublisherSettings
default_publisher_settings c = record {
  max_loaned_samples = c.publisher_max_loaned_samples;
  backpressure_strategy = c.backpressure_strategy;
  allocation_strategy = c.publisher_allocation_strategy;
  initial_max_slice_len = 1;
  asked_slots = None;
  degradation_handler = Fixed Warn;
  backpressure_handler = None;
}

-- A subscriber's factory begins with the largest buffer.
-- (iceoryx2: `service/port_factory/subscriber.rs`, `PortFactorySubscriber::new`.)
abbrev pub default_subscriber_settings : ServiceConfig → SubscriberSettings
default_subscriber_settings c = record { buffer_size = buffer_limit c; degradation_handler = Fixed Warn }

-- A publisher has the worst case of slots, or fewer if the override of the preallocation asks for fewer, but at least
-- one if the worst case isn't none.
-- (iceoryx2: `service/port_factory/publisher.rs`, `override_sample_preallocation`.)
abbrev pub slots_for : ServiceConfig → PublisherSettings → ℕ
slots_for c given = option_map_or (λ asked. min (worst_case c given.max_loaned_samples) (max 1 asked)) given.asked_slots
    (worst_case c given.max_loaned_samples)

-- The worst case and the first segment fit a machine word.
abbrev pub first_segment_fits : ServiceConfig → PublisherSettings → Bool
first_segment_fits c given =
    fits (worst_case c given.max_loaned_samples) && segment_fits c (slots_for c given) given.initial_max_slice_len

-- A buffer of none means one.
abbrev pub buffer_for : SubscriberSettings → ℕ
buffer_for given = max 1 given.buffer_size

-- A subscriber that was just made.
abbrev pub new_subscriber : SubscriberSettings → (place : ℕ) → Subscriber
new_subscriber given place = record {
  is_open = true;
  place = place;
  buffer = buffer_for given;
  degradation_handler = given.degradation_handler;
  ends = [];
  expired = [];
  is_due = true;
}

module _ {T U : Type 0} where
  -- A publisher that was just made.
  abbrev pub new_publisher : State T U → PublisherSettings → (place : ℕ) → Publisher
  new_publisher s given place = record {
    place = place;
    slots = slots_for s.config given;
    max_loaned_samples = given.max_loaned_samples;
    allocation_strategy = given.allocation_strategy;
    initial_max_slice_len = given.initial_max_slice_len;
    longest_granted = 0;
    segments = 1;
    backpressure_strategy = given.backpressure_strategy;
    backpressure_handler = given.backpressure_handler;
    degradation_handler = given.degradation_handler;
    loans = [];
    history = [];
    ends = [];
    is_due = true;
    blocked = None;
  }

  -- A publisher with the next id stands at the place, and every port of the other side is due.
  abbrev pub with_new_publisher : State T U → PublisherSettings → (place : ℕ) → State T U
  with_new_publisher s given place = subscribers_due (record s {
    next_port = s.next_port + 1;
    publishers = put_at s.publishers s.next_port (Some (new_publisher s given place));
    publisher_places = set_place s.publisher_places place (Some s.next_port);
  })

  -- It is warned if the service's setting for expired publishers is too small for the borrowed messages.
  abbrev pub with_buffer_warning : State T U → (q : ℕ) → State T U
  with_buffer_warning s q =
      record s {
        warnings = if nat_lt (s.config).subscriber_expired_connection_buffer (s.config).subscriber_max_borrowed_samples
            then (with_warning s (ExpiredBufferRaised q)).warnings else s.warnings;
      }

  -- A subscriber with the next id stands at the place, and every port of the other side is due.
  abbrev pub with_new_subscriber : State T U → SubscriberSettings → (place : ℕ) → State T U
  with_new_subscriber s given place = publishers_due (record (with_buffer_warning s s.next_port) {
    next_port = s.next_port + 1;
    subscribers = put_at s.subscribers s.next_port (Some (new_subscriber given place));
    subscriber_places = set_place s.subscriber_places place (Some s.next_port);
  })

  -- A first update that failed is a warning and no refusal.
  abbrev pub with_failure_warning : State T U → (ConnectionFailure → Warning) → Option ConnectionFailure → State T U
  with_failure_warning s warning None = s
  with_failure_warning s warning (Some failure) = with_warning s (warning failure)

  -- ---- close

  -- The mailbox of a publisher that closes and q: what is borrowed stays, and what waits stays if q is open and has
  -- its end.
  abbrev pub mailbox_after_publisher : State T U → (p : ℕ) → Publisher → (q : ℕ) → Mailbox
  mailbox_after_publisher s p x q =
      if option_map_or (λ (y : Subscriber). y.is_open && is_port (occupant y.ends x.place) p) (s.subscribers q) false
      then s.mailboxes p q else waiting_dropped (s.mailboxes p q)

  -- The publisher p is gone, its place is free, and what waits from it for nobody is lost.
  abbrev pub publisher_gone : State T U → (p : ℕ) → Publisher → State T U
  publisher_gone s p x = record s {
    publishers = put_at s.publishers p None;
    publisher_places = vacated p s.publisher_places;
    mailboxes = put_at s.mailboxes p (mailbox_after_publisher s p x);
  }

  -- Each subscriber forgets the departed publishers that it has no message from.
  abbrev pub subscribers_pruned : State T U → State T U
  subscribers_pruned s = record s { subscribers = λ q. option_map {T = Subscriber} (pruned s q) (s.subscribers q) }

  -- The publisher p is closed, and every subscriber is due.
  -- (iceoryx2: `port/publisher.rs`, `Publisher`'s drop.)
  abbrev pub publisher_closed : State T U → (p : ℕ) → Publisher → State T U
  publisher_closed s p x = sender_channels_reset (subscribers_due (subscribers_pruned (publisher_gone s p x))) p

  -- The mailbox of p and a subscriber that closes: what waits from a departed publisher is lost.
  abbrev pub mailbox_after_subscriber : State T U → (q p : ℕ) → Mailbox
  mailbox_after_subscriber s q p = if is_present s p then s.mailboxes p q else waiting_dropped (s.mailboxes p q)

  -- The subscriber q takes no messages any more, and every publisher is due.
  abbrev pub subscriber_shut : State T U → (q : ℕ) → Subscriber → State T U
  subscriber_shut s q y = publishers_due (record s {
    subscribers = put_at s.subscribers q (Some (record y { is_open = false }));
    mailboxes = λ p. put_at (s.mailboxes p) q (mailbox_after_subscriber s q p);
  })

  -- The subscriber q is closed. It is gone at once if it has borrowed nothing.
  -- (iceoryx2: `port/subscriber.rs`, `Subscriber`'s drop.)
  abbrev pub subscriber_closed : State T U → (q : ℕ) → Subscriber → State T U
  subscriber_closed s q y = receiver_channels_reset (freed_if_unused (subscriber_pruned (subscriber_shut s q y) q) q) q

module _ {T U : Type 0} (environment : Environment) where
  -- The first update of a new publisher, whose failure is a warning.
  abbrev pub FirstPublisherUpdate : State T U → (p : ℕ) → State T U → Type 0
  FirstPublisherUpdate s p s' =
      (mid : State T U) × (failure : Option ConnectionFailure)
      × UpdatePublisher environment s p mid failure
      × (s' ≡ with_failure_warning mid (PublisherPartlyConnected p) failure)

  -- The first update of a new subscriber, whose failure is a warning.
  abbrev pub FirstSubscriberUpdate : State T U → (q : ℕ) → State T U → Type 0
  FirstSubscriberUpdate s q s' =
      (mid : State T U) × (failure : Option ConnectionFailure)
      × UpdateSubscriber environment s q mid failure
      × (s' ≡ with_failure_warning mid (SubscriberPartlyConnected q) failure)

  -- Past the other refusals, a publisher is made at the place; or memory is refused for its segment or its state.
  abbrev pub MakePublisher : State T U → PublisherSettings → (place : ℕ) → State T U → Option PublisherCreateError
      → Type 0
  MakePublisher s given place s' None = FirstPublisherUpdate (with_new_publisher s given place) s.next_port s'
  MakePublisher s given place s' (Some e) =
      environment.may_refuse_memory × (s' ≡ s) × ((e ≡ UnableToCreateDataSegment) ⊎ (e ≡ NoPublisherState))

  -- A publisher is made, with the counter's next id at the lowest free place, or it is refused: because of the counter,
  -- then the number of publishers, then the size of its segment, then memory.
  -- (iceoryx2: `port/publisher.rs`, `Publisher::new`.)
  abbrev pub CreatePublisher : State T U → PublisherSettings → State T U → Option PublisherCreateError → Type 0
  CreatePublisher s given s' refusal =
      MatchBool (s.next_port == last_number) ((s' ≡ s) × (refusal ≡ Some NoPublisherTag))
      (MatchOption (free_place (s.config).max_publishers s.publisher_places)
      ((s' ≡ s) × (refusal ≡ Some ExceedsMaxSupportedPublishers)) (λ place.
      MatchBool (first_segment_fits s.config given)
      (MakePublisher s given place s' refusal)
      ((s' ≡ s) × (refusal ≡ Some UnableToCreateDataSegment))))

  -- Past the other refusals, a subscriber is made at the place; or memory is refused for its state.
  abbrev pub MakeSubscriber : State T U → SubscriberSettings → (place : ℕ) → State T U → Option SubscriberCreateError
      → Type 0
  MakeSubscriber s given place s' None = FirstSubscriberUpdate (with_new_subscriber s given place) s.next_port s'
  MakeSubscriber s given place s' (Some e) = environment.may_refuse_memory × (s' ≡ s) × (e ≡ NoSubscriberState)

  -- A subscriber is made, with the counter's next id at the lowest free place, or it is refused: because of the
  -- counter, then its buffer, then the number of subscribers, then memory.
  -- (iceoryx2: `port/subscriber.rs`, `Subscriber::new`.)
  abbrev pub CreateSubscriber : State T U → SubscriberSettings → State T U → Option SubscriberCreateError → Type 0
  CreateSubscriber s given s' refusal =
      MatchBool (s.next_port == last_number) ((s' ≡ s) × (refusal ≡ Some NoSubscriberTag))
      (MatchBool (nat_lt (buffer_limit s.config) (buffer_for given))
      ((s' ≡ s) × (refusal ≡ Some BufferSizeExceedsMaxSupportedBufferSizeOfService))
      (MatchOption (free_place (s.config).max_subscribers s.subscriber_places)
      ((s' ≡ s) × (refusal ≡ Some ExceedsMaxSupportedSubscribers)) (λ place.
      MakeSubscriber s given place s' refusal)))
