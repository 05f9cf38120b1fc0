-- What a call that changes channels leaves, seen from outside.
use Rattle.std.proofs.Common.{◌≡◌, ℕ, false, refl, sym, ap, subst, ◌∙◌}
use Rattle.iox2_machine.specs.machine.Channel.{is_closed}
use Rattle.iox2_machine.specs.machine.Mailbox.{is_borrowed}
use Rattle.iox2_machine.specs.machine.State.{State, Messages}
use Rattle.iox2_machine.specs.machine.Waiting.{waiting_from}
use Rattle.iox2_machine.specs.machine.WellFormed.{IsWellFormed}
use Rattle.iox2_laws.proofs.LoansLeft.{LoansKept, kept_itself}
use Rattle.iox2_laws.proofs.PortsStay.{Remain}
use Rattle.iox2_laws.proofs.UpToDate.{same_subscribers}
use Rattle.iox2_laws.proofs.Waits.{Waits, waits_itself}
use Rattle.iox2_domain.specs.Boxes.{DomainBoxes}
use Rattle.iox2_domain.specs.Fields.{Fields, kept_of, keeping}
use Rattle.iox2_domain.specs.Invariant.{IsDomain}
use Rattle.iox2_domain.specs.Kept.{Kept, state_of}
use Rattle.iox2_domain.specs.Reaches.{Reaches}
use Rattle.iox2_domain.specs.Shows.{Shows}
use Rattle.iox2_domain.proofs.lemmas.fields.ReachesShows.{reaches-shows-same}
use Rattle.iox2_pubsub.specs.DepartedPorts.{HasDepartedRoom}
use Rattle.iox2_pubsub.specs.BorrowsLeft.{BorrowsLeftStay}
use Rattle.iox2_pubsub.specs.Leaves.{Leaves, LeavesButChannels}
use Rattle.iox2_pubsub.specs.Live.{IsConnected, IsUpToDate, No_item, RoomStays, Stays, WaitingStays}
use Rattle.iox2_pubsub.specs.LoansLeft.{LoansLeftStay}
use Rattle.iox2_pubsub.specs.declared.subscriber.Subscriber.{Subscriber}
use Rattle.iox2_pubsub.proofs.CallsStay.{always-shown}
use Rattle.iox2_pubsub.proofs.OpenChannels.{still-connects}
use Rattle.iox2_pubsub.proofs.BorrowsLeftShown.{unchanged-borrows}
use Rattle.iox2_pubsub.proofs.LoansLeftShown.{all-left}
use Rattle.iox2_pubsub.proofs.StaysBut.{BoxesStayBut, IsSpared, none-spared, ports-remain, stays-between}
use Rattle.iox2_pubsub.proofs.UpToDateShown.{connected, connected-in, rooms-stay, up-to-date, up-to-date-in}
use Rattle.iox2_pubsub.proofs.WaitingShown.{payloads-stay}

-- The change is one of channels alone.
abbrev pub ChangesChannels : {T U : Type 0} → (State T U → State T U) → Type 0
ChangesChannels {T} {U} change = (s : State T U) → change s ≡ record s { channels = (change s).channels }

-- The domain shows the changed state of each that it showed.
abbrev pub ShowsChanged : {T U F G : Type 0} → (old new : Kept T U F G) → (State T U → State T U) → Type 0
ShowsChanged {T} {U} old new change = (m : Messages T U) (s : State T U) → Shows old m s → Shows new m (change s)

module _ {T U F G : Type 0} {boxes : DomainBoxes F G} (f : Fields T U) (old : Kept T U F G)
    (view : keeping boxes f ≡ old) (change : State T U → State T U) (only : ChangesChannels change) where
  -- what the fields come to is shown
  pub changed-shows : (g : Fields T U) → Reaches f g (change (state_of (kept_of f)))
      → ShowsChanged old (keeping boxes g) change
  changed-shows g reached m s shown =
      let here : Shows (kept_of f) m s = subst (λ (k : Kept T U F G). Shows k m s) (sym view) shown in
      let state : s ≡ state_of (kept_of f) = here.state in
      reaches-shows-same f g m s (change s) here (subst (λ (t : State T U). Reaches f g (change t)) (sym state) reached)
      (ap (λ (t : State T U). t.next_message) (only s)) (ap (λ (t : State T U). t.loans) (only s))

  module _ (sound : IsDomain f) (new : Kept T U F G) (shows : ShowsChanged old new change) where
    -- a state that the domain shows
    abbrev m : Messages T U
    m = (always-shown f old sound view).0

    abbrev s : State T U
    s = (always-shown f old sound view).1

    abbrev shown : Shows old m s
    shown = (always-shown f old sound view).2

    abbrev now : Shows new m (change s)
    now = shows m s shown

    -- what was live is
    changed-stays : BoxesStayBut No_item old new → Stays old new
    changed-stays boxed =
        let waits = waits_itself (IsSpared No_item) s in
        stays-between No_item old new m m s (change s) shown now (λ n entry at. at)
        (ports-remain No_item s (change s)
        (subst (Remain s) (sym (only s))
        (record {
          config = refl;
          publishers = λ p x at. (x, at, λ free. free);
          subscribers = λ q y at opened. (y, at, opened);
        })))
        (λ n loan at _. ap (λ (t : State T U). t.loans n) (only s) ∙ at)
        (λ p q n at _. ap (λ (t : State T U). is_borrowed n (t.mailboxes p q)) (only s) ∙ at)
        (subst (Waits (IsSpared No_item) s) (sym (only s))
        (record { next_port = waits.next_port; publishers = waits.publishers; subscribers = waits.subscribers }))
        (none-spared No_item old s (change s) (λ _. tt)) boxed

    -- the same messages wait
    changed-waits : WaitingStays old new
    changed-waits = payloads-stay old new m m s (change s) shown now (λ n entry at. at) (record {
      ports = ap (λ (t : State T U). t.next_port) (only s);
      from = λ p q. ap (λ (t : State T U). waiting_from t p q) (only s);
    })

    -- who was up to date is
    changed-updated : (subscriber : Subscriber) → IsUpToDate old subscriber → IsUpToDate new subscriber
    changed-updated subscriber is =
        up-to-date new m (change s) now subscriber
        (same_subscribers s (change s) (ap (λ (t : State T U). t.subscribers) (only s)) subscriber.id
        (up-to-date-in old m s shown subscriber is))

    -- each subscriber has the room that it had
    changed-room : RoomStays old new
    changed-room = rooms-stay old new m m s (change s) shown now
        (λ q closes has. subst (λ (t : State T U). HasDepartedRoom t q closes) (sym (only s)) has)

    -- as many loans and numbers are left
    changed-left : LoansLeftStay old new
    changed-left =
        let kept = kept_itself s in
        all-left old new m m s (change s) shown now
        (subst (LoansKept s) (sym (only s)) (record { config = refl; numbers = refl; publishers = kept.publishers }))

    -- and as many borrows
    changed-borrows : BorrowsLeftStay old new
    changed-borrows =
        unchanged-borrows old new m m s (change s) shown now (ap (λ (t : State T U). t.config) (only s))
        (ap (λ (t : State T U). t.next_port) (only s)) (ap (λ (t : State T U). t.mailboxes) (only s))

    -- who was connected is, where their channel stays open
    changed-connected : (p : ℕ) (subscriber : Subscriber)
        → (is_closed ((state_of old).channels p subscriber.id 0) ≡ false
        → is_closed ((change (state_of old)).channels p subscriber.id 0) ≡ false)
        → IsConnected old p subscriber → IsConnected new p subscriber
    changed-connected p subscriber takes is =
        let was = connected-in old m s shown p subscriber is in
        connected new m (change s) now p subscriber
        (still-connects s (change s) p subscriber.id was (ap (λ (t : State T U). t.publishers p) (only s))
        (ap (λ (t : State T U). t.subscribers subscriber.id) (only s))
        (subst (λ (t : State T U). is_closed (t.channels p subscriber.id 0) ≡ false
        → is_closed ((change t).channels p subscriber.id 0) ≡ false) (sym shown.state) takes was.takes))

    -- so all but channels is left
    pub changed-leaves : BoxesStayBut No_item old new → (StaysOpen : ℕ → Subscriber → Type 0)
        → ((p : ℕ) (subscriber : Subscriber) → StaysOpen p subscriber → IsWellFormed (state_of old)
        → is_closed ((state_of old).channels p subscriber.id 0) ≡ false
        → is_closed ((change (state_of old)).channels p subscriber.id 0) ≡ false) → LeavesButChannels StaysOpen old new
    changed-leaves boxed StaysOpen takes = record {
      stays = changed-stays boxed;
      waits = changed-waits;
      up_to_date = changed-updated;
      connections = λ p subscriber stays.
          changed-connected p subscriber (takes p subscriber stays (subst IsWellFormed shown.state shown.well_formed));
      room = changed-room;
      loans_left = changed-left;
      borrows_left = changed-borrows;
    }

-- all is left, where every channel stays open
pub open-leaves : {T U F G : Type 0} {StaysOpen : ℕ → Subscriber → Type 0} {old new : Kept T U F G}
    → LeavesButChannels StaysOpen old new
    → ((p : ℕ) (subscriber : Subscriber) → StaysOpen p subscriber) → Leaves old new
open-leaves left stays-open = record {
  stays = left.stays;
  waits = left.waits;
  up_to_date = record {
    subscribers = left.up_to_date;
    connections = λ p subscriber. left.connections p subscriber (stays-open p subscriber);
    room = left.room;
  };
  loans_left = left.loans_left;
  borrows_left = left.borrows_left;
}
