-- What holds where an end of a connection is made, kept or taken away: the ports at its two places.
use Rattle.std.specs.Prelude.{◌≡◌, ◌<◌, ℕ, true, false, length, slice_index_or}
use Rattle.std.specs.declared.option.Option.{Option}
use Rattle.std.specs.declared.option.Option.TheVariants.{None, Some}
use Rattle.iox2_machine.specs.machine.SubscriberUpdate.{Retirement}
use Rattle.iox2_connections.specs.Link.{Link}
use Rattle.iox2_domain.specs.Ports.{PublisherFields, SubscriberFields}
use Rattle.iox2_domain.specs.Fields.{Fields}
use Rattle.iox2_domain.specs.Invariant.{IsDomain}
use Rattle.iox2_domain.specs.Updates.{is_publisher_due, is_subscriber_due}
use Rattle.iox2_domain.specs.ReceiverSteps.{HasDepartedEnd, ChangesReceiver, retired}
use Rattle.iox2_updates.specs.declared.places.Places.{Places}

module _ {T U : Type 0} where
  -- A domain in which the publisher at the place is due for an update and has no blocked delivery.
  pub record IsSenderDue (f : Fields T U) (i : ℕ) : Type 0 where
    pub agrees : IsDomain f
    pub publisher : PublisherFields
    pub stands : slice_index_or f.publishers i None ≡ Some publisher
    pub unblocked : publisher.blocked ≡ None
    pub due : is_publisher_due f.publishers i ≡ true

  -- A domain in which the subscriber at the place is due for an update.
  pub record IsReceiverDue (f : Fields T U) (j : ℕ) : Type 0 where
    pub agrees : IsDomain f
    pub subscriber : SubscriberFields
    pub stands : slice_index_or f.subscribers j None ≡ Some subscriber
    pub due : is_subscriber_due f.subscribers j ≡ true

  -- A domain in which the publisher at these places isn't due and has no blocked delivery.
  pub record IsSettledAt (f : Fields T U) (at : Places) : Type 0 where
    pub agrees : IsDomain f
    pub publisher : PublisherFields
    pub stands : slice_index_or f.publishers at.publisher None ≡ Some publisher
    pub settled : publisher.is_due ≡ false
    pub unblocked : publisher.blocked ≡ None
    pub within : at.subscriber < length f.subscribers

  -- A domain in which two ports stand at these places, and this is the subscriber's key at the publisher's place, if it
  -- has one.
  pub record MeetAt (f : Fields T U) (at : Places) (key : Option ℕ) : Type 0 where
    pub agrees : IsDomain f
    pub publisher : PublisherFields
    pub subscriber : SubscriberFields
    pub publisher_stands : slice_index_or f.publishers at.publisher None ≡ Some publisher
    pub subscriber_stands : slice_index_or f.subscribers at.subscriber None ≡ Some subscriber
    pub has : slice_index_or subscriber.keys at.publisher None ≡ key

  -- A domain in which the subscriber at these places has the key of a departed publisher's connection at the
  -- publisher's place.
  pub record DepartedAt (f : Fields T U) (at : Places) (key : ℕ) : Type 0 where
    pub agrees : IsDomain f
    pub subscriber : SubscriberFields
    pub link : Link
    pub end : HasDepartedEnd f at.subscriber at.publisher subscriber key link

  -- The subscriber whose publisher departed has this side now that the publisher is retired from its place in this way.
  abbrev pub RetiresAt : {f : Fields T U} {at : Places} {key : ℕ} → DepartedAt f at key → Retirement → (f' : Fields T U)
      → Type 0
  RetiresAt {f} {at} departed how f' = ChangesReceiver f at.subscriber departed.subscriber
      (retired f at.publisher departed.subscriber departed.link.home.publisher how) f'
