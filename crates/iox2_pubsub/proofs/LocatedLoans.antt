-- A loan that is granted and filled in one call, seen from outside.
use Rattle.std.proofs.Common.{◌≡◌, ℕ, ◌+◌, ◌*◌, ◌≤◌, ◌<◌, List, length, replicate, true, false, refl, ap, subst, sym}
use Rattle.std.proofs.Common.{◌∙◌, arith, get_or, Result, Ok, Err, Option, None, Some}
use Rattle.std.proofs.lemmas.List.{length-replicate}
use Rattle.std.specs.List.{All}
use Rattle.std.specs.Prelude.{◌↔◌, IsSomeAnd}
use Rattle.iox2_machine.specs.SingleValues.{is_single_valued}
use Rattle.iox2_machine.specs.declared.errors.LoanError.{LoanError}
use Rattle.iox2_machine.specs.declared.service_config.ServiceConfig.{ServiceConfig}
use Rattle.iox2_machine.specs.declared.service_config.TypeVariant.TheVariants.{Dynamic, FixedSize}
use Rattle.iox2_machine.specs.machine.State.{State, Messages}
use Rattle.iox2_domain.specs.Boxes.{DomainBoxes}
use Rattle.iox2_domain.specs.Fields.{Fields, kept_of, keeping}
use Rattle.iox2_domain.specs.Invariant.{IsDomain}
use Rattle.iox2_domain.specs.Kept.{Kept, state_of}
use Rattle.iox2_domain.specs.Lending.{IsNamed, LoanCall, LoanReaches}
use Rattle.iox2_domain.specs.LoanCalls.{HoldsUnwritten, WritesLoan}
use Rattle.iox2_domain.specs.Ports.{PublisherFields}
use Rattle.iox2_domain.specs.Shows.{Shows}
use Rattle.iox2_domain.specs.declared.loan_slots.LoanAt.{LoanAt}
use Rattle.iox2_domain.specs.LoanSlots.{LiesInSlot}
use Rattle.iox2_domain.proofs.lemmas.fields.SingleSettings.{dynamic-several}
use Rattle.iox2_pubsub.specs.GrantedLoans.{IsLentWritten, IsReadyForSlices}
use Rattle.iox2_pubsub.specs.BorrowsLeft.{BorrowsLeftStay}
use Rattle.iox2_pubsub.specs.Leaves.{LeavesLending}
use Rattle.iox2_pubsub.specs.Live.{A_loan, IsNewIn, IsUnwritten, IsWritten, Stays, UpToDateStay, WaitingStays}
use Rattle.iox2_pubsub.specs.Live.{publisher_key, written_key}
use Rattle.iox2_pubsub.specs.LoansLeft.{HasLoansLeft, HasNumbersLeft, LoansLeftStay, TakesOneLeft}
use Rattle.iox2_pubsub.specs.Slices.{HasUnwrittenCells, HasValues}
use Rattle.iox2_pubsub.specs.WrittenLoans.{DefaultSliceCall}
use Rattle.iox2_pubsub.specs.declared.publisher.Publisher.{Publisher}
use Rattle.iox2_pubsub.specs.declared.sample_mut.SampleMut.{SampleMut}
use Rattle.iox2_pubsub.specs.declared.sample_mut_uninit.SampleMutUninit.{SampleMutUninit}
use Rattle.iox2_pubsub.proofs.FilledLengths.{filled-lengths}
use Rattle.iox2_pubsub.proofs.FilledLoans.{filled-leaves, filled-left, filled-borrows, filled-live, filled-shown}
use Rattle.iox2_pubsub.proofs.FilledLoans.{filled-stays, filled-values, filled-waits}
use Rattle.iox2_pubsub.proofs.GrantedLoans.{call-leaves, call-refused, granted-leaves, granted-live, granted-new}
use Rattle.iox2_pubsub.proofs.GrantedLoans.{granted-publisher, is-lent, next}
use Rattle.iox2_pubsub.proofs.LiveParts.{never-waits-alike}
use Rattle.iox2_pubsub.proofs.LoanHandles.{unwritten-out}
use Rattle.iox2_pubsub.proofs.PlacedHandles.{StandsAtPlace, publisher-at-place}
use Rattle.iox2_pubsub.proofs.StaysOn.{stays-on}
use Rattle.iox2_pubsub.proofs.SureLoans.{sure-granted, sure-of-loan}
use Rattle.iox2_pubsub.proofs.UninitLoans.{loan-places, err-shown, ok-cells, ok-shown}
use Rattle.iox2_pubsub.proofs.WrittenLoanCalls.{default-grants, default-refused}

-- What each call says that lends a slice and fills it, where it was refused.
pub record Refused {T U F G : Type 0} (A : Type 0) (IsValue : T → Type 0) (is_default : U → Type 0)
    (publisher : Publisher) (len : ℕ) (old new : Kept T U F G) (e : LoanError) : Type 0 where
  pub lends : (m : Messages T U) (s : State T U) → Shows old m s
      → (s' : State T U) × Shows new m s' × DefaultSliceCall {A = A} IsValue is_default len s publisher.id (Err e) s'
  pub none : (loans numbers : ℕ) → HasLoansLeft old publisher (loans + 1) → HasNumbersLeft old (numbers + 1)
      → len ≤ publisher.initial_max_slice_len → ⊥
  pub refused : LoansLeftStay old new
  pub leaves : LeavesLending publisher old new

-- And where it was granted, with these values.
pub record Located {T U F G A : Type 0} (IsValue : T → Type 0) (is_default : U → Type 0) (publisher : Publisher)
    (len : ℕ) (old new : Kept T U F G) (answer : A) (handle : SampleMut) (values : List T) : Type 0 where
  pub lends : (m : Messages T U) (s : State T U) → Shows old m s → (s' : State T U) × Shows new m s'
      × DefaultSliceCall {A = A} IsValue is_default len s publisher.id (Ok answer) s'
  pub loan : IsLentWritten publisher handle old new
  pub size : length values ≡ len
  pub reads : HasValues new (handle.loan).number values
  pub leaves : LeavesLending publisher old new

-- it says where its values begin, where it has some
pub starts : (HasStart IsFilled : Type 0) (n len : ℕ) → HasStart ↔ IsFilled → IsFilled ↔ 0 < n → n ≡ len
    → HasStart ↔ 0 < len
starts HasStart IsFilled n len its filled same =
    let fills = subst (λ (k : ℕ). IsFilled ↔ 0 < k) same filled in
    (λ has. fills.0 (its.0 has), λ long. its.1 (fills.1 long))

-- a live publisher of a service for slices may lend one
pub may-lend : {T U F G : Type 0} {boxes : DomainBoxes F G} (len : ℕ) (f : Fields T U) → IsDomain f
    → (kept : Kept T U F G) → keeping boxes f ≡ kept → (publisher : Publisher) → IsReadyForSlices kept publisher
    → ((x : PublisherFields) × (get_or f.publishers publisher.place None ≡ Some x))
    × ((f.config).variant ≡ FixedSize → len ≡ 1)
may-lend {T} {U} {F} {G} len f sound kept view publisher ready =
    let at = publisher-at-place f sound kept view publisher ready.ready in (
      (at.0, at.1),
      λ fixed. let clash : Dynamic ≡ FixedSize =
          sym ready.dynamic ∙ sym (ap (λ (k : Kept T U F G). (k.config).variant) view) ∙ fixed in absurd cc,
    )

module _ {T U F G : Type 0} {boxes : DomainBoxes F G} (is_default : U → Type 0) (len : ℕ) (f mid : Fields T U)
    (sound : IsDomain f) (kept : Kept T U F G) (view : keeping boxes f ≡ kept)
    (publisher : Publisher) (ready : IsReadyForSlices kept publisher) (answer : Result LoanAt LoanError)
    (reaches : IsSomeAnd (get_or f.publishers publisher.place None)
    (λ x. LoanReaches is_default true len f x answer mid)) where
  stands : StandsAtPlace f publisher
  stands = publisher-at-place f sound kept view publisher ready.ready

  -- a loan that was refused
  refused-lends : (A : Type 0) (e : LoanError) → answer ≡ Err e
      → (IsValue : T → Type 0) (m : Messages T U) (s : State T U) → Shows kept m s
      → (s' : State T U) × Shows (kept_of mid) m s'
      × DefaultSliceCall {A = A} IsValue is_default len s publisher.id (Err e) s'
  refused-lends A e is IsValue m s shown =
      let lends = err-shown is_default true len f mid sound publisher.place publisher.id answer stands reaches A e is
      (Err e) refl kept view m s shown in
      (lends.0, lends.1, ((lends.2).0, default-refused s lends.0 publisher.id e IsValue len (lends.2).1))

  module _ (e : LoanError) (is : answer ≡ Err e) where
    refused-step : (m : Messages T U) (s : State T U) → Shows kept m s → (s' : State T U) × Shows (kept_of mid) m s'
        × LoanCall {A = LoanAt} is_default true len s publisher.id (Err e) s'
    refused-step m s shown = err-shown is_default true len f mid sound publisher.place publisher.id answer stands
        reaches LoanAt e is (Err e) refl kept view m s shown

    refused-leaves : LeavesLending publisher kept (keeping boxes mid)
    refused-leaves = call-leaves is_default true len f mid sound kept view publisher ready.ready {A = LoanAt}
        (Err e) refused-step
        (loan-places is_default true len f mid sound publisher.place publisher.id answer stands reaches)

    -- none that isn't too long, where the publisher has one left
    refused-none : (loans numbers : ℕ) → HasLoansLeft kept publisher (loans + 1) → HasNumbersLeft kept (numbers + 1)
        → len ≤ publisher.initial_max_slice_len → ⊥
    refused-none loans numbers left numbered short =
        sure-granted is_default true len f mid sound publisher.place publisher (λ _. short)
        (λ no. absurd (let clash : true ≡ false = no in cc)) (λ fixed.
        let clash : Dynamic ≡ FixedSize =
        sym ready.dynamic ∙ sym (ap (λ (k : Kept T U F G). (k.config).variant) view) ∙ fixed in
        absurd cc)
        stands answer reaches e is kept view (sure-of-loan kept publisher loans numbers left numbered)

    pub was-refused : (A : Type 0) (IsValue : T → Type 0)
        → Refused A IsValue is_default publisher len kept (keeping boxes mid) e
    was-refused A IsValue = record {
      lends = refused-lends A e is IsValue;
      none = refused-none;
      refused = call-refused is_default true len f mid sound kept view publisher ready.ready {A = LoanAt}
          (Err e) refused-step;
      leaves = refused-leaves;
    }

  module _ (loan : LoanAt) (is : answer ≡ Ok loan)
      (named : IsSomeAnd (get_or f.publishers publisher.place None) (λ x. IsNamed f x loan))
      (lies : LiesInSlot mid loan.publisher loan.number loan.book loan.slot) where
    abbrev unwritten : SampleMutUninit
    unwritten = record { service_id = publisher.service_id; loan = loan }

    lent : LeavesLending publisher kept (keeping boxes mid)
    lent = granted-leaves is_default true len f mid sound kept view publisher ready.ready answer reaches loan is named

    live : IsUnwritten (keeping boxes mid) unwritten
    live =
        granted-live is_default true len f mid sound kept view publisher ready.ready answer reaches loan is named lies

    -- it agrees with the fields, and is out
    pub granted-sound : IsDomain mid
    granted-sound =
        let its = subst (λ (o : Option PublisherFields).
        IsSomeAnd o (λ x. LoanReaches is_default true len f x answer mid)) stands.1 reaches in
        (subst (λ (r : Result LoanAt LoanError). LoanReaches is_default true len f stands.0 r mid) is its).4.agrees

    pub granted-out : HoldsUnwritten (state_of (kept_of mid)) loan.publisher loan.number
    granted-out = unwritten-out (keeping boxes mid) (keeping boxes mid) refl unwritten live

    number : loan.number ≡ kept.next_message
    number = next is_default true len f mid sound kept view publisher ready.ready answer reaches loan is named

    -- the domain is one of slices still
    pub granted-several : is_single_valued mid.config ≡ false
    granted-several =
        dynamic-several mid.config (ap (λ (config : ServiceConfig). config.variant) lent.stays.settings ∙ ready.dynamic)

    its : loan.publisher ≡ publisher.id
    its = granted-publisher is_default true len f mid sound kept view publisher ready.ready answer reaches loan is named

    fresh : IsNewIn kept (A_loan loan.number)
    fresh = granted-new is_default true len f mid sound kept view publisher ready.ready answer reaches loan is named

    -- and then it was filled
    module _ (new : Fields T U) (values : List T) (writes : WritesLoan mid new loan.number values) where
      filled-lends : (A : Type 0) (a : A) (IsValue : T → Type 0) → All IsValue values
          → (m : Messages T U) (s : State T U) → Shows kept m s
          → (s' : State T U) × Shows (kept_of new) m s'
          × DefaultSliceCall {A = A} IsValue is_default len s publisher.id (Ok a) s'
      filled-lends A a IsValue all m s shown =
          let lends = ok-shown is_default true len f mid sound publisher.place publisher.id answer stands reaches A a
          loan is kept view m s shown in
          let wrote = filled-shown {boxes = boxes} mid new granted-sound
          (keeping boxes mid) refl loan.number values writes m lends.0 lends.1 in
          let at = number ∙ sym (ap (λ (t : State T U). t.next_message) shown.state) in (
            wrote.2,
            wrote.4,
            (
              values,
              (lends.2).0,
              (lends.2).1,
              default-grants s lends.0 wrote.2 publisher.id loan.number at wrote.0
                  wrote.1 IsValue values all (lends.2).0 len (lends.2).2 wrote.3,
            ),
          )

      filled-since : Stays kept (keeping boxes new)
      filled-since =
          stays-on kept (keeping boxes mid) lent.stays (A_loan loan.number) (keeping boxes new) fresh
          (filled-stays mid new granted-sound (keeping boxes mid) refl loan.number values writes)

      filled-waiting : WaitingStays kept (keeping boxes new)
      filled-waiting =
          let later : WaitingStays (keeping boxes mid) (keeping boxes new) =
          filled-waits mid new granted-sound (keeping boxes mid) refl loan.number values writes in
          record { all = later.all ∙ lent.waits.all; from = later.from ∙ lent.waits.from }

      filled-updated : UpToDateStay kept (keeping boxes new)
      filled-updated =
          let later : UpToDateStay (keeping boxes mid) (keeping boxes new) =
          filled-leaves mid new granted-sound (keeping boxes mid) refl loan.number values writes in record {
            subscribers = λ subscriber is. later.subscribers subscriber (lent.up_to_date.subscribers subscriber is);
            connections =
                λ id subscriber is. later.connections id subscriber (lent.up_to_date.connections id subscriber is);
            room = λ subscriber closes has. later.room subscriber closes (lent.up_to_date.room subscriber closes has);
          }

      filled-takes : TakesOneLeft publisher kept (keeping boxes new)
      filled-takes =
          let later : LoansLeftStay (keeping boxes mid) (keeping boxes new) =
          filled-left mid new granted-sound (keeping boxes mid) refl loan.number values writes in record {
            loans = λ n left. later.loans publisher n (lent.loans_left.loans n left);
            others = λ other n away left. later.loans other n (lent.loans_left.others other n away left);
            numbers = λ n left. later.numbers n (lent.loans_left.numbers n left);
          }

      filled-lends-none : BorrowsLeftStay kept (keeping boxes new)
      filled-lends-none =
          let later : BorrowsLeftStay (keeping boxes mid) (keeping boxes new) =
          filled-borrows mid new granted-sound (keeping boxes mid) refl loan.number values writes in record {
            all = λ subscriber n left. later.all subscriber n (lent.borrows_left.all subscriber n left);
            of_each = λ p subscriber n left.
                later.of_each p subscriber n (lent.borrows_left.of_each p subscriber n left);
          }

      -- its handle
      module _ (handle : SampleMut) (same : handle ≡ record { service_id = publisher.service_id; loan = loan }) where
        filled-out : IsWritten (keeping boxes new) handle
        filled-out =
            filled-live mid new granted-sound (keeping boxes mid) refl loan.number values writes unwritten handle refl
            (ap (λ (it : SampleMut). it.service_id) same) (ap (λ (it : SampleMut). (it.loan).publisher) same)
            (ap (λ (it : SampleMut). (it.loan).number) same) (ap (λ (it : SampleMut). it.loan) same) live

        filled-lent : IsLentWritten publisher handle kept (keeping boxes new)
        filled-lent =
            let port : (handle.loan).publisher ≡ publisher.id =
            ap (λ (it : SampleMut). (it.loan).publisher) same ∙ its in
            record {
              out = filled-out;
              live = λ never. record {
                out = filled-out;
                never_waits = never-waits-alike (keeping boxes new) (publisher_key publisher) (written_key handle) port
                    (filled-since.never_wait (publisher_key publisher) never);
              };
              lent = is-lent publisher kept (keeping boxes new) ready.ready filled-since (written_key handle)
                  (ap (λ (it : SampleMut). it.service_id) same) port
                  (ap (λ (it : SampleMut). (it.loan).number) same ∙ number)
                  (subst (λ (it : SampleMut). IsNewIn kept (A_loan (it.loan).number)) (sym same) fresh);
            }

        filled-reads : HasValues (keeping boxes new) (handle.loan).number values
        filled-reads = filled-values mid new granted-sound (keeping boxes mid) refl loan.number values writes
            (handle.loan).number (ap (λ (it : SampleMut). (it.loan).number) same)

        filled-length : length values ≡ len
        filled-length =
            let cells : HasUnwrittenCells (keeping boxes mid) loan.number
            (replicate (len * (f.config).units_per_element) None) =
            ok-cells is_default true len f mid sound publisher.place publisher.id answer stands reaches boxes loan is
            named in
            let units : (f.config).units_per_element ≡ 1 =
            ap (λ (k : Kept T U F G). (k.config).units_per_element) view ∙ ready.one_unit in
            filled-lengths {boxes = boxes} mid new (keeping boxes mid) refl loan.number values writes
            (replicate (len * (f.config).units_per_element) None) cells
            (handle.loan).number (ap (λ (it : SampleMut). (it.loan).number) same) values filled-reads
            ∙ length-replicate {A = Option T} (len * (f.config).units_per_element) None
            ∙ ap (λ (n : ℕ). len * n) units
            ∙ omega arith

        pub was-located : (A : Type 0) (a : A) (IsValue : T → Type 0) → All IsValue values
            → Located IsValue is_default publisher len kept (keeping boxes new) a handle values
        was-located A a IsValue all = record {
          lends = filled-lends A a IsValue all;
          loan = filled-lent;
          size = filled-length;
          reads = filled-reads;
          leaves = record {
            stays = filled-since;
            waits = filled-waiting;
            up_to_date = filled-updated;
            loans_left = filled-takes;
            borrows_left = filled-lends-none;
          };
        }
