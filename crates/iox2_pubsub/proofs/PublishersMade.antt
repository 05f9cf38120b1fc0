-- What the creation of a publisher makes and leaves.
use Rattle.std.proofs.Common.{◌≡◌, ◌≤◌, ℕ, List, Option, None, Some, false, true, get_or, ap, sym, subst, ◌∙◌}
use Rattle.std.specs.Prelude.{◌≢◌}
use Rattle.iox2_machine.specs.machine.Limits.{worst_case}
use Rattle.iox2_machine.specs.machine.Ports.{CreatePublisher, slots_for}
use Rattle.iox2_machine.specs.machine.Records.{Environment, PublisherSettings}
use Rattle.iox2_machine.specs.machine.State.{State, Messages}
use Rattle.iox2_machine.specs.declared.errors.PublisherCreateError.{PublisherCreateError}
use Rattle.iox2_domain.specs.Boxes.{DomainBoxes, boxes_of}
use Rattle.iox2_domain.specs.Fields.{Fields, kept_of, keeping}
use Rattle.iox2_domain.specs.Handlers.{may_fail, may_fail_update}
use Rattle.iox2_domain.specs.Invariant.{IsDomain}
use Rattle.iox2_domain.specs.Kept.{Kept, state_of}
use Rattle.iox2_domain.specs.Ports.{PublisherFields}
use Rattle.iox2_domain.specs.Reaches.{Reaches}
use Rattle.iox2_domain.specs.Shows.{Shows}
use Rattle.iox2_domain.specs.declared.boxes.PortBox.{PortBox}
use Rattle.iox2_pubsub.specs.BorrowsLeft.{HasBorrowsLeftOf}
use Rattle.iox2_pubsub.specs.Handlers.{may_wait}
use Rattle.iox2_pubsub.specs.Live.{IsConnected, IsNewIn, IsReadyPublisher, IsSubscriberKey, NeverFails, NeverWaits}
use Rattle.iox2_pubsub.specs.Live.{NoneRefused, WaitingStays, publisher_key, publisher_port, subscriber_key}
use Rattle.iox2_pubsub.specs.Factories.{with_slots}
use Rattle.iox2_pubsub.specs.Leaves.{LeavesNoFewer}
use Rattle.iox2_pubsub.specs.LoansLeft.{GrowsBy, HasLoansLeft, LendsFirst}
use Rattle.iox2_pubsub.specs.MadePublishers.{IsMadePublisher}
use Rattle.iox2_pubsub.specs.declared.publisher.Publisher.{Publisher}
use Rattle.iox2_pubsub.specs.declared.subscriber.Subscriber.{Subscriber}
use Rattle.iox2_pubsub.proofs.CallsStay.{always-shown, apart-from-next, publisher-creation-stays, publisher-is-new}
use Rattle.iox2_pubsub.proofs.ConnectionsShown.{made-connections, made-connects}
use Rattle.iox2_pubsub.proofs.DepartedShown.{publisher-creation-room}
use Rattle.iox2_pubsub.proofs.BorrowsLeftShown.{created-unborrowed, publisher-creation-borrows}
use Rattle.iox2_pubsub.proofs.LoansLeftShown.{created-grows, created-left, publisher-creation-left}
use Rattle.iox2_pubsub.proofs.NextPorts.{next-sender-takes}
use Rattle.iox2_pubsub.proofs.PublishersShown.{created-never-fails, created-never-waits, created-overflows}
use Rattle.iox2_pubsub.proofs.PublishersShown.{created-ready, created-shows}
use Rattle.iox2_pubsub.proofs.StaysBut.{live-boxes}
use Rattle.iox2_pubsub.proofs.WaitingShown.{publisher-no-fewer, publisher-refused}

-- The publisher was made with these settings.
pub record Made {T U F G : Type 0} (environment : Environment) (given : PublisherSettings) (publisher : Publisher)
    (old new : Kept T U F G) : Type 0 where
  pub creates : (m : Messages T U) (s : State T U) → Shows old m s
      → (t : State T U) × Shows new m t × ((publisher.id ≡ s.next_port) × CreatePublisher environment s given t None)
  pub ready : IsReadyPublisher new publisher
  pub passes : may_wait given.backpressure_strategy given.backpressure_handler ≡ false
      → may_fail given.backpressure_handler ≡ false → may_fail_update given.degradation_handler ≡ false
      → NeverWaits new (publisher_key publisher)
  pub overflows : (old.config).enable_safe_overflow ≡ true → may_fail_update given.degradation_handler ≡ false
      → NeverWaits new (publisher_key publisher)
  pub never_fails : may_fail given.backpressure_handler ≡ false → may_fail_update given.degradation_handler ≡ false
      → NeverFails new publisher.id
  pub new_in : IsNewIn old (publisher_port publisher)
  pub connects : NoneRefused old new → (subscriber : Subscriber) → IsSubscriberKey old (subscriber_key subscriber)
      → IsConnected new publisher.id subscriber
  pub left : worst_case old.config given.max_loaned_samples ≤ slots_for old.config given → LendsFirst old.config given
      → publisher.initial_max_slice_len ≡ given.initial_max_slice_len
      → HasLoansLeft new publisher given.max_loaned_samples
  pub grows : GrowsBy new publisher given.allocation_strategy
  pub borrows : (subscriber : Subscriber)
      → HasBorrowsLeftOf new publisher.id subscriber (old.config).subscriber_max_borrowed_samples

module _ {T U F G : Type 0} {boxes : DomainBoxes F G} {publishers : List (PortBox F G)} (f g : Fields T U)
    (sound : IsDomain f) (kept : Kept T U F G) (view : keeping boxes f ≡ kept)
    (others : (p : ℕ) → p ≢ f.next_port → boxes_of p publishers ≡ boxes_of p boxes.publishers) where
  -- what was there is there, as it was, and no fewer messages wait
  module _ (environment : Environment) (given : PublisherSettings) (refusal : Option PublisherCreateError)
      (t : State T U) (made : CreatePublisher environment (state_of (kept_of f)) given t refusal)
      (reached : Reaches f g t) where
    pub creation-leaves : LeavesNoFewer kept (keeping (record boxes { publishers = publishers }) g)
    creation-leaves =
        let new : Kept T U F G = keeping (record boxes { publishers = publishers }) g in
        let it = always-shown f kept sound view in
        let next = created-shows f g given environment kept view it.0 it.1 t refusal it.2 made reached in
        record {
          stays = publisher-creation-stays kept new it.0 it.1 it.2 environment given refusal t next.0 next.1
              (live-boxes f g kept view sound reached.places
              (λ key live other. others key.port (apart-from-next f kept sound view key live)));
          no_fewer = publisher-no-fewer kept new it.0 it.0 it.1 t it.2 next.0 environment given refusal next.1;
          connections = made-connections kept new it.0 it.0 it.1 t it.2 next.0 environment given refusal next.1;
          room = publisher-creation-room kept new it.0 it.0 it.1 t it.2 next.0 environment given refusal next.1;
          loans_left = publisher-creation-left kept new it.0 it.0 it.1 t it.2 next.0 environment given refusal next.1;
          borrows_left =
              publisher-creation-borrows kept new it.0 it.0 it.1 t it.2 next.0 environment given refusal next.1;
        }

    -- where none was made, the same ones wait
    pub creation-refused : (e : PublisherCreateError) → refusal ≡ Some e
        → WaitingStays kept (keeping (record boxes { publishers = publishers }) g)
    creation-refused =
        let new : Kept T U F G = keeping (record boxes { publishers = publishers }) g in
        let it = always-shown f kept sound view in
        let next = created-shows f g given environment kept view it.0 it.1 t refusal it.2 made reached in
        publisher-refused kept new it.0 it.0 it.1 t it.2 next.0 environment given refusal next.1 (λ n entry at. at)

-- how many slots were asked for says nothing of a publisher that was made
pub made-unasked : {T U F G : Type 0} (given : PublisherSettings) (asked : Option ℕ) (box : Option F)
    (degrading : Option G) (port : Publisher) (old new : Kept T U F G)
    → IsMadePublisher (with_slots given asked) box degrading port old new
    → IsMadePublisher given box degrading port old new
made-unasked given asked box degrading port old after made = record {
  grows = made.grows;
  ready = made.ready;
  discards = made.discards;
  passes = made.passes;
  overflows = made.overflows;
  never_fails = made.never_fails;
  boxed = made.boxed;
  degrades = made.degrades;
  strategy = made.strategy;
  longest = made.longest;
  is_new = made.is_new;
  borrows = made.borrows;
  connects = made.connects;
}

module _ {T U F G : Type 0} {boxes : DomainBoxes F G} (f g : Fields T U) (sound : IsDomain f) (kept : Kept T U F G)
    (view : keeping boxes f ≡ kept) (environment : Environment) (given : PublisherSettings)
    (t : State T U) (made : CreatePublisher environment (state_of (kept_of f)) given t None)
    (reached : Reaches f g t) where
  shows-made : (publisher : Publisher) → publisher.id ≡ f.next_port → (m : Messages T U) (s : State T U)
      → Shows kept m s
      → Shows (kept_of g) m t × ((publisher.id ≡ s.next_port) × CreatePublisher environment s given t None)
  shows-made publisher id m s shown =
      let next = created-shows f g given environment kept view m s t None shown made reached in (
        next.0,
        (
          id ∙ ap (λ (k : Kept T U F G). (state_of k).next_port) view
              ∙ sym (ap (λ (u : State T U). u.next_port) shown.state),
          next.1,
        ),
      )

  pub was-made : {boxes' : DomainBoxes F G} → (publisher : Publisher) → publisher.service_id ≡ (f.config).service_id
      → publisher.id ≡ f.next_port
      → (x : PublisherFields) × (get_or g.publishers publisher.place None ≡ Some x) × (x.id ≡ publisher.id)
      → Made environment given publisher kept (keeping boxes' g)
  was-made {boxes'} publisher service id stands =
      let new : Kept T U F G = keeping boxes' g in
      let it = always-shown f kept sound view in
      let step = shows-made publisher id it.0 it.1 it.2 in
      let its = (step.1).0 in
      record {
        creates = λ m s shown. let now = shows-made publisher id m s shown in (t, now.0, now.1);
        ready = created-ready f g given environment {boxes = boxes'} t made reached publisher service id stands;
        passes = created-never-waits f g given environment {boxes = boxes'} t made reached publisher id;
        overflows = λ over. created-overflows f g given environment {boxes = boxes'} t made reached publisher id
            (ap (λ (k : Kept T U F G). (k.config).enable_safe_overflow) view ∙ over);
        never_fails = created-never-fails f g given environment boxes' t made reached publisher id;
        new_in = publisher-is-new kept kept it.0 it.1 it.2 publisher.id its;
        connects = made-connects kept new it.0 it.0 it.1 t it.2 step.0 environment given publisher.id its (step.1).1
            (next-sender-takes f kept sound view);
        left = λ enough first long.
            created-left kept new it.0 it.0 it.1 t it.2 step.0 environment given
            (subst (λ (s : State T U). LendsFirst s.config given) (sym (it.2).state) first)
            (subst (λ (s : State T U). worst_case s.config given.max_loaned_samples ≤ slots_for s.config given)
            (sym (it.2).state) enough) publisher its long (step.1).1;
        grows = created-grows kept new it.0 it.0 it.1 t it.2 step.0 environment given publisher its (step.1).1;
        borrows =
            created-unborrowed kept new it.0 it.0 it.1 t it.2 step.0 environment given (step.1).1 publisher.id its;
      }
