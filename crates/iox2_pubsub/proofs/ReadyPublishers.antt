-- A publisher that is ready, and what its close leaves.
use Rattle.std.proofs.Common.{◌≡◌, ◌≤◌, ℕ, suc, false, get_or, None, Some, refl, ap, sym, subst, ◌∙◌}
use Rattle.std.specs.Prelude.{◌≢◌}
use Rattle.iox2_machine.specs.machine.Ports.{publisher_closed}
use Rattle.iox2_machine.specs.machine.Records.{Publisher as Record}
use Rattle.iox2_machine.specs.machine.State.{State, Messages, is_blocked}
use Rattle.iox2_domain.specs.Boxes.{DomainBoxes}
use Rattle.iox2_domain.specs.Fields.{Fields, keeping}
use Rattle.iox2_domain.specs.Invariant.{IsDomain}
use Rattle.iox2_domain.specs.Kept.{Kept, state_of}
use Rattle.iox2_domain.specs.Ports.{PublisherFields}
use Rattle.iox2_domain.specs.Shows.{Shows}
use Rattle.iox2_domain.proofs.lemmas.fields.ConnectionEnds.{free-of}
use Rattle.iox2_pubsub.specs.Live.{HasRoomFor, IsConnected, IsPublisherKey, IsReadyPublisher, IsUpToDate, StaysBut}
use Rattle.iox2_pubsub.specs.Live.{payloads_from, publisher_key, publisher_port, waiting}
use Rattle.iox2_pubsub.specs.BorrowsLeft.{BorrowsLeftStay}
use Rattle.iox2_pubsub.specs.LoansLeft.{NumbersLeftStay, OthersLoansLeftStay}
use Rattle.iox2_pubsub.specs.declared.publisher.Publisher.{Publisher}
use Rattle.iox2_pubsub.specs.declared.subscriber.Subscriber.{Subscriber}
use Rattle.iox2_pubsub.proofs.CallsStay.{publisher-shown}
use Rattle.iox2_pubsub.proofs.ClosesShown.{publisher-close-spends, publisher-close-stays}
use Rattle.iox2_pubsub.proofs.ClosesWait.{publisher-close-no-fewer}
use Rattle.iox2_pubsub.proofs.ConnectionsShown.{publisher-close-connections, publisher-close-keeps}
use Rattle.iox2_pubsub.proofs.DepartedShown.{publisher-close-room}
use Rattle.iox2_pubsub.proofs.LiveParts.{unblocked-test}
use Rattle.iox2_pubsub.proofs.BorrowsLeftShown.{publisher-close-borrows}
use Rattle.iox2_pubsub.proofs.LoansLeftShown.{publisher-close-numbers, publisher-close-others}
use Rattle.iox2_pubsub.proofs.PlacedHandles.{StandsAtPlace, publisher-at-place}
use Rattle.iox2_pubsub.proofs.StaysBut.{BoxesStayBut}

-- What its close leaves.
pub record Closed {T U F G : Type 0} (publisher : Publisher) (old new : Kept T U F G) : Type 0 where
  pub closed : (m : Messages T U) (s : State T U) (x : Record) → Shows old m s → s.publishers publisher.id ≡ Some x
      → Shows new m (publisher_closed s publisher.id x)
  pub spent : IsPublisherKey new (publisher_key publisher) → ⊥
  pub no_fewer : (subscriber : Subscriber) → IsUpToDate old subscriber → waiting old subscriber ≤ waiting new subscriber
  pub keeps : (other : ℕ) (subscriber : Subscriber) → IsUpToDate old subscriber → IsConnected old other subscriber
      → payloads_from new other subscriber ≡ payloads_from old other subscriber
  pub connections : (other : ℕ) (subscriber : Subscriber) → other ≢ publisher.id → IsConnected old other subscriber
      → IsConnected new other subscriber
  pub room : (subscriber : Subscriber) (closes : ℕ) → HasRoomFor old subscriber (suc closes)
      → HasRoomFor new subscriber closes
  pub loans_left : OthersLoansLeftStay publisher old new
  pub numbers_left : NumbersLeftStay old new
  pub borrows_left : BorrowsLeftStay old new
  pub stays : BoxesStayBut (publisher_port publisher) old new → StaysBut (publisher_port publisher) old new

module _ {T U F G : Type 0} {boxes : DomainBoxes F G} (f : Fields T U) (sound : IsDomain f) (kept : Kept T U F G)
    (view : keeping boxes f ≡ kept) (publisher : Publisher) (ready : IsReadyPublisher kept publisher) where
  its-place : StandsAtPlace f publisher
  its-place = publisher-at-place f sound kept view publisher ready

  -- it stands at its place, and no delivery of it is blocked there
  pub ready-stands : (x : PublisherFields) × (get_or f.publishers publisher.place None ≡ Some x)
  ready-stands = (its-place.0, its-place.1)

  pub ready-free : (z : PublisherFields) → get_or f.publishers publisher.place None ≡ Some z → z.blocked ≡ None
  ready-free z at =
      let both : Some z ≡ Some its-place.0 = sym at ∙ its-place.1 in
      let is : z ≡ its-place.0 = cc in
      ap (λ (x : PublisherFields). x.blocked) is
      ∙ free-of f sound.parts publisher.id publisher.place its-place.0 its-place.1 its-place.2
      (subst (λ (k : Kept T U F G). is_blocked (state_of k) publisher.id ≡ false) (sym view)
      (unblocked-test kept (publisher_key publisher) ready.unblocked))

  -- its close
  module _ (new : Kept T U F G) (closed : (m : Messages T U) (s : State T U) (x : Record) → Shows kept m s
      → s.publishers publisher.id ≡ Some x → Shows new m (publisher_closed s publisher.id x)) where
    pub was-closed : Closed publisher kept new
    was-closed =
        let it = publisher-shown f kept sound view (publisher_key publisher) ready.there in
        let x : Record = (it.3).0 in
        let at = (it.3).1 in
        let step : Shows new it.0 (publisher_closed it.1 publisher.id x) = closed it.0 it.1 x it.2 at in
        record {
          closed = closed;
          spent = publisher-close-spends kept new it.0 it.1 it.2 publisher.id x step (publisher_key publisher) refl;
          no_fewer = publisher-close-no-fewer kept new it.0 it.1 it.2 publisher.id x step at;
          keeps = publisher-close-keeps kept new it.0 it.1 it.2 publisher.id x step at;
          connections = publisher-close-connections kept new it.0 it.1 it.2 publisher.id x step at;
          room = publisher-close-room kept new it.0 it.1 it.2 publisher.id x step;
          loans_left = publisher-close-others kept new it.0 it.0 it.1
              (publisher_closed it.1 publisher.id x) it.2 step publisher x refl;
          numbers_left = publisher-close-numbers kept new it.0 it.0 it.1
              (publisher_closed it.1 publisher.id x) it.2 step publisher.id x refl;
          borrows_left = publisher-close-borrows kept new it.0 it.0 it.1
              (publisher_closed it.1 publisher.id x) it.2 step publisher.id x refl;
          stays = publisher-close-stays kept new it.0 it.1 it.2 publisher.id x step;
        }
