-- What a close of a subscriber leaves of a domain.
use Rattle.std.proofs.Common.{◌≡◌, Some, refl}
use Rattle.iox2_machine.specs.machine.Ports.{subscriber_closed}
use Rattle.iox2_machine.specs.machine.Records.{Subscriber as Record}
use Rattle.iox2_machine.specs.machine.State.{State, Messages}
use Rattle.iox2_domain.specs.Boxes.{DomainBoxes}
use Rattle.iox2_domain.specs.Fields.{Fields, keeping}
use Rattle.iox2_domain.specs.Invariant.{IsDomain}
use Rattle.iox2_domain.specs.Kept.{Kept}
use Rattle.iox2_domain.specs.Shows.{Shows}
use Rattle.iox2_pubsub.specs.Leaves.{LeavesWithout}
use Rattle.iox2_pubsub.specs.Live.{A_subscriber, IsSubscriberKey, subscriber_key}
use Rattle.iox2_pubsub.specs.declared.subscriber.Subscriber.{Subscriber}
use Rattle.iox2_pubsub.proofs.CallsStay.{subscriber-shown}
use Rattle.iox2_pubsub.proofs.ClosesShown.{subscriber-close-stays}
use Rattle.iox2_pubsub.proofs.ClosesWait.{subscriber-close-leaves, subscriber-close-none, subscriber-close-others}
use Rattle.iox2_pubsub.proofs.ConnectionsShown.{subscriber-close-connections}
use Rattle.iox2_pubsub.proofs.DepartedShown.{subscriber-close-room}
use Rattle.iox2_pubsub.proofs.BorrowsLeftShown.{subscriber-close-borrows}
use Rattle.iox2_pubsub.proofs.LoansLeftShown.{subscriber-close-left as subscriber-close-loans}
use Rattle.iox2_pubsub.proofs.StaysBut.{BoxesStayBut}

module _ {T U F G : Type 0} {boxes : DomainBoxes F G} (f : Fields T U) (old new : Kept T U F G) (sound : IsDomain f)
    (view : keeping boxes f ≡ old) (it : Subscriber) (there : IsSubscriberKey old (subscriber_key it))
    (closes : (m : Messages T U) (s : State T U) (y : Record) → Shows old m s → s.subscribers it.id ≡ Some y
    → Shows new m (subscriber_closed s it.id y)) where
  pub subscriber-close-left : BoxesStayBut (A_subscriber it.id) old new → LeavesWithout it old new
  subscriber-close-left boxed =
      let has = subscriber-shown f old sound view _ there in
      let after = closes has.0 has.1 (has.3).0 has.2 (has.3).1 in
      record {
        stays = subscriber-close-stays old new has.0 has.1 has.2 it.id (has.3).0 after (has.3).1 boxed;
        none = subscriber-close-none old new has.0 has.1 has.2 it.id (has.3).0 after it refl;
        others = subscriber-close-others old new has.0 has.1 has.2 it.id (has.3).0 after it refl;
        up_to_date = subscriber-close-leaves old new has.0 has.1 has.2 it.id (has.3).0 after it refl;
        connections = subscriber-close-connections old new has.0 has.1 has.2 it.id (has.3).0 after;
        room = subscriber-close-room old new has.0 has.1 has.2 it.id (has.3).0 after (has.3).1;
        loans_left = subscriber-close-loans old new has.0 has.0 has.1 _ has.2 after it.id (has.3).0 refl;
        borrows_left = subscriber-close-borrows old new has.0 has.0 has.1 _ has.2 after it.id (has.3).0 refl;
      }
