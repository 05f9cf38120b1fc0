-- A loan that is granted or refused, seen from outside: what the publisher lends, and what the call leaves.
use Rattle.std.proofs.Common.{◌≡◌, ◌*◌, Bool, ℕ, replicate, get_or, refl, ap, subst, sym, ◌∙◌, Result, Ok, None}
use Rattle.std.specs.Prelude.{IsSomeAnd, OnErr}
use Rattle.iox2_machine.specs.declared.errors.LoanError.{LoanError}
use Rattle.iox2_machine.specs.declared.key.Key.{Key}
use Rattle.iox2_machine.specs.declared.service_config.ServiceConfig.{ServiceConfig}
use Rattle.iox2_machine.specs.machine.State.{State, Messages}
use Rattle.iox2_domain.specs.Boxes.{DomainBoxes}
use Rattle.iox2_domain.specs.Fields.{Fields, kept_of, keeping}
use Rattle.iox2_domain.specs.Invariant.{IsDomain}
use Rattle.iox2_domain.specs.Kept.{Kept}
use Rattle.iox2_domain.specs.Lending.{IsNamed, LoanCall, LoanReaches, header_for}
use Rattle.iox2_domain.specs.Shows.{Shows}
use Rattle.iox2_domain.specs.declared.loan_slots.LoanAt.{LoanAt}
use Rattle.iox2_domain.specs.LoanSlots.{LiesInSlot}
use Rattle.iox2_domain.specs.KeptPlaces.{KeepsPlaces}
use Rattle.iox2_pubsub.specs.GrantedLoans.{IsLent, IsLentUnwritten, HasOnlyUnwrittenCells}
use Rattle.iox2_pubsub.specs.Leaves.{LeavesLending}
use Rattle.iox2_pubsub.specs.Live.{A_loan, IsNewIn, IsPublisherKey, IsReadyPublisher, IsUnwritten, LoanHasHeader, Stays}
use Rattle.iox2_pubsub.specs.Live.{lender_key, publisher_key, unwritten_key}
use Rattle.iox2_pubsub.specs.LoansLeft.{LoansLeftStay}
use Rattle.iox2_pubsub.specs.Slices.{HasUnwrittenCells}
use Rattle.iox2_pubsub.specs.declared.publisher.Publisher.{Publisher}
use Rattle.iox2_pubsub.specs.declared.sample_mut_uninit.SampleMutUninit.{SampleMutUninit}
use Rattle.iox2_pubsub.proofs.CallsStay.{always-shown, loan-is-new, loan-stays}
use Rattle.iox2_pubsub.proofs.LiveParts.{never-waits-alike, publisher-parts, unblocked-alike}
use Rattle.iox2_pubsub.proofs.BorrowsLeftShown.{loan-borrows}
use Rattle.iox2_pubsub.proofs.LoansLeftShown.{loan-takes, refused-left}
use Rattle.iox2_pubsub.proofs.PlacedHandles.{StandsAtPlace, publisher-at-place}
use Rattle.iox2_pubsub.proofs.StaysBut.{same-boxes}
use Rattle.iox2_pubsub.proofs.UninitLoans.{loan-places, ok-cells, ok-header, ok-lengths, ok-live, ok-number}
use Rattle.iox2_pubsub.proofs.UninitLoans.{ok-publisher, ok-shown}
use Rattle.iox2_pubsub.proofs.UpToDateShown.{loan-leaves}
use Rattle.iox2_pubsub.proofs.WaitingShown.{loan-waits}

-- a new loan with the next number is lent by this publisher, where it has its key, and all else stays
pub is-lent : {T U F G : Type 0} (publisher : Publisher) (kept new : Kept T U F G) → IsReadyPublisher kept publisher
    → Stays kept new → (key : Key) → key.service_id ≡ publisher.service_id → key.port ≡ publisher.id
    → key.message ≡ kept.next_message → IsNewIn kept (A_loan key.message) → IsLent publisher key kept new
is-lent publisher kept new ready stays key service port next fresh =
    let lender : lender_key key ≡ publisher_key publisher =
    ap (λ (v : ℕ). lender_key (record key { service_id = v })) service
    ∙ ap (λ (p : ℕ). lender_key (record { service_id = publisher.service_id; port = p; message = 0 })) port in
    record {
      unblocked = unblocked-alike new (publisher_key publisher) key port
          (stays.unblocked (publisher_key publisher) ready.unblocked tt);
      is_new = fresh;
      number = next;
      publisher = port;
      lent = subst (IsPublisherKey new) (sym lender) (stays.publishers (publisher_key publisher) ready.there tt);
      lender = lender;
    }

module _ {T U F G : Type 0} {boxes : DomainBoxes F G} (is_default : U → Type 0) (checks : Bool) (len : ℕ)
    (f mid : Fields T U) (sound : IsDomain f) (kept : Kept T U F G) (view : keeping boxes f ≡ kept)
    (publisher : Publisher) (ready : IsReadyPublisher kept publisher) where
  -- what the call leaves, granted or refused
  module _ {A : Type 0} (how : Result A LoanError) (step : (m : Messages T U) (s : State T U) → Shows kept m s
      → (s' : State T U) × Shows (kept_of mid) m s'
      × LoanCall {A = A} is_default checks len s publisher.id how s') where
    pub call-leaves : KeepsPlaces f mid → LeavesLending publisher kept (keeping boxes mid)
    call-leaves places =
        let new : Kept T U F G = keeping boxes mid in
        let it = always-shown f kept sound view in
        let now = step it.0 it.1 it.2 in
        record {
          stays = loan-stays kept new it.0 it.1 it.2 {A = A} is_default checks len publisher.id how now.0 now.1 now.2
              (same-boxes f mid kept view sound places);
          waits = loan-waits kept new it.0 it.0 it.1 now.0 it.2 now.1 (λ n entry at. at)
              {A = A} is_default checks len publisher.id how now.2;
          up_to_date =
              loan-leaves kept new it.0 it.0 it.1 now.0 it.2 now.1 {A = A} is_default checks len publisher.id how now.2;
          loans_left =
              loan-takes kept new it.0 it.0 it.1 now.0 it.2 now.1 {A = A} is_default checks len publisher how now.2;
          borrows_left =
              loan-borrows kept new it.0 it.0 it.1 now.0 it.2 now.1 {A = A} is_default checks len publisher how now.2;
        }

    pub call-refused : OnErr how (LoansLeftStay kept (keeping boxes mid))
    call-refused =
        let it = always-shown f kept sound view in
        let now = step it.0 it.1 it.2 in
        refused-left kept (keeping boxes mid) it.0 it.0 it.1 now.0 it.2 now.1
        {A = A} is_default checks len publisher.id how now.2

  module _ (answer : Result LoanAt LoanError) (reaches : IsSomeAnd (get_or f.publishers publisher.place None)
      (λ x. LoanReaches is_default checks len f x answer mid))
      (loan : LoanAt) (is : answer ≡ Ok loan)
      (named : IsSomeAnd (get_or f.publishers publisher.place None) (λ x. IsNamed f x loan)) where
    stands : StandsAtPlace f publisher
    stands = publisher-at-place f sound kept view publisher ready

    abbrev unwritten : SampleMutUninit
    unwritten = record { service_id = publisher.service_id; loan = loan }

    granted-step : (m : Messages T U) (s : State T U) → Shows kept m s → (s' : State T U) × Shows (kept_of mid) m s'
        × LoanCall {A = LoanAt} is_default checks len s publisher.id (Ok loan) s'
    granted-step m s shown = ok-shown is_default checks len f mid sound publisher.place publisher.id answer stands
        reaches LoanAt loan loan is kept view m s shown

    pub granted-leaves : LeavesLending publisher kept (keeping boxes mid)
    granted-leaves = call-leaves {A = LoanAt} (Ok loan) granted-step
        (loan-places is_default checks len f mid sound publisher.place publisher.id answer stands reaches)

    pub next : loan.number ≡ kept.next_message
    next = ok-number is_default checks len f mid sound publisher.place publisher.id answer stands reaches loan named
        ∙ ap (λ (k : Kept T U F G). k.next_message) view

    pub granted-publisher : loan.publisher ≡ publisher.id
    granted-publisher =
        ok-publisher is_default checks len f mid sound publisher.place publisher.id answer stands reaches loan named

    pub granted-new : IsNewIn kept (A_loan loan.number)
    granted-new = let it = always-shown f kept sound view in loan-is-new kept kept it.0 it.1 it.2 loan.number next

    pub granted-live : LiesInSlot mid loan.publisher loan.number loan.book loan.slot
        → IsUnwritten (keeping boxes mid) unwritten
    granted-live = ok-live is_default checks len f mid sound publisher.place publisher.id answer stands reaches
        unwritten is named kept view (publisher-parts kept _ ready.there).1

    pub lent-unwritten : LiesInSlot mid loan.publisher loan.number loan.book loan.slot
        → IsLentUnwritten publisher unwritten kept (keeping boxes mid)
    lent-unwritten lies = record {
      out = granted-live lies;
      live = λ never. record {
        out = granted-live lies;
        never_waits = never-waits-alike (keeping boxes mid) (publisher_key publisher)
            (unwritten_key unwritten) granted-publisher
            (granted-leaves.stays.never_wait (publisher_key publisher) never);
      };
      lent = is-lent publisher kept (keeping boxes mid) ready granted-leaves.stays
          (unwritten_key unwritten) refl granted-publisher next granted-new;
    }

    -- its cells, as many as its elements have units
    pub lent-unfilled : (count : ℕ) → len * (kept.config).units_per_element ≡ count
        → HasOnlyUnwrittenCells publisher unwritten len count kept (keeping boxes mid)
    lent-unfilled count many =
        let config : f.config ≡ kept.config = ap (λ (k : Kept T U F G). k.config) view in
        let units : len * (f.config).units_per_element ≡ count =
        ap (λ (c : ServiceConfig). len * c.units_per_element) config ∙ many in
        record {
          cells = subst (λ (n : ℕ). HasUnwrittenCells (keeping boxes mid) loan.number (replicate n None)) units
              (ok-cells is_default checks len f mid sound publisher.place publisher.id answer stands reaches boxes loan
              is named);
          lengths = λ its has. ok-lengths is_default checks len f mid sound publisher.place publisher.id answer stands
              reaches boxes loan is named its has ∙ units;
          header = subst (λ (c : ServiceConfig).
              LoanHasHeader (keeping boxes mid) (unwritten_key unwritten) (header_for c publisher.id len)) config
              (ok-header is_default checks len f mid sound publisher.place publisher.id answer stands reaches boxes loan
              is named (unwritten_key unwritten) refl);
        }
