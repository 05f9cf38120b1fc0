-- A loan whose cells are taken as written, and one that is handed back.
use Rattle.std.proofs.Common.{◌≡◌, ℕ, List, [], ◌∷◌, map, length, Bool, true, false, is_some, refl, ap, sym, subst, ◌∙◌}
use Rattle.std.proofs.lemmas.List.{length-map}
use Rattle.std.proofs.lemmas.Option.{same_Some}
use Rattle.std.specs.Bool.{MatchBool}
use Rattle.std.specs.List.{list_all}
use Rattle.std.specs.declared.option.Option.{Option}
use Rattle.std.specs.declared.option.Option.TheVariants.{None, Some}
use Rattle.iox2_machine.specs.machine.Loans.{is_initialized, initialized}
use Rattle.iox2_machine.specs.machine.Records.{Loan}
use Rattle.iox2_machine.specs.machine.SingleCalls.{HoldsLoan}
use Rattle.iox2_machine.specs.machine.State.{State, Messages}
use Rattle.iox2_domain.specs.Kept.{Kept, state_of}
use Rattle.iox2_domain.specs.Boxes.{DomainBoxes}
use Rattle.iox2_domain.specs.Fields.{Fields, kept_of, keeping}
use Rattle.iox2_domain.specs.Invariant.{IsDomain}
use Rattle.iox2_domain.specs.LoanCalls.{AssumesLoan}
use Rattle.iox2_domain.specs.Reaches.{Reaches}
use Rattle.iox2_domain.specs.Shows.{Shows}
use Rattle.iox2_pubsub.specs.Live.{IsUnwritten, IsWritten, LoanReads, UnwrittenReads, A_loan, StaysBut, UpToDateStay}
use Rattle.iox2_pubsub.specs.Live.{WaitingStays, lender_key, unwritten_key, written_key}
use Rattle.iox2_pubsub.specs.BorrowsLeft.{BorrowsLeftStay}
use Rattle.iox2_pubsub.specs.Leaves.{LeavesBut}
use Rattle.iox2_pubsub.specs.LoanCalls.{BecomesWritten}
use Rattle.iox2_pubsub.specs.Slices.{HasUnwrittenCells, HasValues}
use Rattle.iox2_pubsub.specs.declared.sample_mut.SampleMut.{SampleMut}
use Rattle.iox2_pubsub.specs.declared.sample_mut_uninit.SampleMutUninit.{SampleMutUninit}
use Rattle.iox2_pubsub.proofs.CallsStay.{always-shown, change-stays}
use Rattle.iox2_pubsub.proofs.LiveParts.{unwritten-parts, unwritten-cell}
use Rattle.iox2_pubsub.proofs.LoanHandles.{change-header, change-shown, change-user-header, changed-out, change-written}
use Rattle.iox2_pubsub.proofs.LoanHandles.{change-cells}
use Rattle.iox2_pubsub.proofs.SliceParts.{cells-parts, has-values, values-parts}
use Rattle.iox2_pubsub.proofs.UpToDateShown.{set-leaves}
use Rattle.iox2_pubsub.proofs.WaitingShown.{set-waits}
use Rattle.iox2_pubsub.proofs.StaysBut.{same-boxes, unchanged-stays}
use Rattle.iox2_pubsub.specs.LoansLeft.{LoansLeftStay}
use Rattle.iox2_pubsub.proofs.BorrowsLeftShown.{set-borrows}
use Rattle.iox2_pubsub.proofs.LoansLeftShown.{set-left}

all-some : {T : Type 0} (values : List T) → list_all is_some (map Some values) ≡ true
all-some [] = refl
all-some (value ∷ values) = all-some values

module _ {T U F G : Type 0} {boxes : DomainBoxes F G} (f g : Fields T U) (sound : IsDomain f) (kept : Kept T U F G)
    (view : keeping boxes f ≡ kept) (n : ℕ) (b : Bool) (assumes : AssumesLoan f g n b) where
  abbrev assumed : Loan T U
  assumed = record (assumes.0) { is_written = true }

  -- its cell, where it has one
  had-cell : (loan : SampleMutUninit) (cell : Option T) → loan.loan.number ≡ n → UnwrittenReads kept loan cell
      → (assumes.0).cells ≡ cell ∷ []
  had-cell loan cell its reads =
      let had = unwritten-cell kept loan cell reads in
      let both : Some assumes.0 ≡ Some had.0 = sym assumes.1 ∙ ap (λ (k : Kept T U F G). (state_of k).loans n) view
      ∙ ap (state_of kept).loans (sym its) ∙ had.1 in
      let same : assumes.0 ≡ had.0 = cc in
      ap (λ (l : Loan T U). l.cells) same ∙ had.2

  had-cells : (cells : List (Option T)) → HasUnwrittenCells kept n cells → (assumes.0).cells ≡ cells
  had-cells cells has =
      let had = cells-parts kept n cells has in
      let both : Some assumes.0 ≡ Some had.0 =
      sym assumes.1 ∙ ap (λ (k : Kept T U F G). (state_of k).loans n) view ∙ had.1 in
      let same : assumes.0 ≡ had.0 = cc in
      ap (λ (l : Loan T U). l.cells) same ∙ had.2

  -- where each cell is written the loan is taken, and else it isn't
  pub all-taken : (values : List T) → HasUnwrittenCells kept n (map Some values) → b ≡ true
  all-taken values has = assumes.2 ∙ ap (list_all is_some) (had-cells (map Some values) has) ∙ all-some values

  pub some-left : (cells : List (Option T)) → list_all is_some cells ≡ false → HasUnwrittenCells kept n cells
      → b ≡ false
  some-left cells some has = assumes.2 ∙ ap (list_all is_some) (had-cells cells has) ∙ some

  -- and so with a single cell
  pub written-taken : (loan : SampleMutUninit) (value : T) → loan.loan.number ≡ n
      → UnwrittenReads kept loan (Some value) → b ≡ true
  written-taken loan value its reads = assumes.2 ∙ ap (list_all is_some) (had-cell loan (Some value) its reads)

  pub unwritten-left : (loan : SampleMutUninit) → loan.loan.number ≡ n → UnwrittenReads kept loan None → b ≡ false
  unwritten-left loan its reads = assumes.2 ∙ ap (list_all is_some) (had-cell loan None its reads)

  -- ---- it is taken

  module _ (yes : b ≡ true) where
    reaches : Reaches f g (initialized (state_of (kept_of f)) n assumes.0)
    reaches = subst
        (λ (t : Bool). MatchBool t (Reaches f g (initialized (state_of (kept_of f)) n assumes.0)) (g ≡ f)) yes assumes.3

    pub taken-shown : (m : Messages T U) (s : State T U) → Shows kept m s
        → (l : Loan T U) × (s.loans n ≡ Some l) × (is_initialized l ≡ true) × Shows (kept_of g) m (initialized s n l)
    taken-shown m s shown =
        let both = change-shown f g kept view n assumes.0 assumed assumes.1 reaches m s shown in
        (assumes.0, both.0, sym assumes.2 ∙ yes, both.1)

    pub taken-live : (loan : SampleMutUninit) → loan.loan.number ≡ n → IsUnwritten kept loan
        → IsWritten (keeping boxes g) (record { service_id = loan.service_id; loan = loan.loan })
    taken-live loan its live =
        let parts = unwritten-parts kept loan live in
        let out : HoldsLoan (state_of (kept_of f)) loan.loan.publisher n =
        subst (λ (k : Kept T U F G). HoldsLoan (state_of k) loan.loan.publisher n) (sym view)
        (subst (HoldsLoan (state_of kept) loan.loan.publisher) its ((parts.1).0, (parts.1).1, (parts.1).2)) in
        change-written f g kept view n assumes.0 assumed assumes.1 reaches refl loan.loan.publisher loan.service_id
        parts.0 out refl (record { service_id = loan.service_id; loan = loan.loan }) its refl refl sound live.placed

    pub taken-reads : (loan : SampleMutUninit) (value : T) → loan.loan.number ≡ n
        → UnwrittenReads kept loan (Some value)
        → LoanReads (keeping boxes g) (record { service_id = loan.service_id; loan = loan.loan }) value
    taken-reads loan value its reads =
        change-cells f g kept view n assumes.0 assumed assumes.1 reaches refl
        (record { service_id = loan.service_id; loan = loan.loan }) value its (had-cell loan (Some value) its reads)

    pub taken-values : (m : ℕ) (values : List T) → m ≡ n → HasUnwrittenCells kept n (map Some values)
        → HasValues (keeping boxes g) m values
    taken-values m values its has = has-values (keeping boxes g) m values (
      assumed,
      ap (state_of (kept_of g)).loans its ∙ changed-out f g kept view n assumes.0 assumed assumes.1 reaches,
      had-cells (map Some values) has,
    )

    pub taken-stays : StaysBut (A_loan n) kept (keeping boxes g)
    taken-stays =
        let it = always-shown f kept sound view in
        let step = taken-shown it.0 it.1 it.2 in
        change-stays kept (keeping boxes g) it.0 it.1 it.2 n (record (step.0) { is_written = true }) step.3
        (same-boxes f g kept view sound reaches.places)

    pub taken-left : LoansLeftStay kept (keeping boxes g)
    taken-left =
        let it = always-shown f kept sound view in
        let step = taken-shown it.0 it.1 it.2 in
        set-left kept (keeping boxes g) it.0 it.0 it.1 (initialized it.1 n step.0) it.2 step.3 n
        (Some (record (step.0) { is_written = true })) refl

    pub taken-borrows : BorrowsLeftStay kept (keeping boxes g)
    taken-borrows =
        let it = always-shown f kept sound view in
        let step = taken-shown it.0 it.1 it.2 in
        set-borrows kept (keeping boxes g) it.0 it.0 it.1 (initialized it.1 n step.0) it.2 step.3 n
        (Some (record (step.0) { is_written = true })) refl

    -- the same messages wait, and who was up to date is
    pub taken-waits : WaitingStays kept (keeping boxes g)
    taken-waits =
        let it = always-shown f kept sound view in
        let step = taken-shown it.0 it.1 it.2 in
        set-waits kept (keeping boxes g) it.0 it.1 it.2 n (Some (record (step.0) { is_written = true })) step.3

    pub taken-leaves : UpToDateStay kept (keeping boxes g)
    taken-leaves =
        let it = always-shown f kept sound view in
        let step = taken-shown it.0 it.1 it.2 in
        set-leaves kept (keeping boxes g) it.0 it.1 it.2 n (Some (record (step.0) { is_written = true })) step.3

    -- it has as many values as it had cells
    taken-lengths : (cells : List (Option T)) (values : List T) → HasUnwrittenCells kept n cells
        → HasValues (keeping boxes g) n values → length values ≡ length cells
    taken-lengths cells values has reads =
        let now = values-parts (keeping boxes g) n values reads in
        let new : now.0 ≡ assumed =
        same_Some now.0 assumed (sym now.1 ∙ changed-out f g kept view n assumes.0 assumed assumes.1 reaches) in
        sym (length-map values (λ (value : T). Some value))
        ∙ ap (λ (cs : List (Option T)). length cs)
        (sym now.2 ∙ ap (λ (l : Loan T U). l.cells) new ∙ had-cells cells has)

  pub taken-becomes : b ≡ true → (loan : SampleMutUninit) → loan.loan.number ≡ n → IsUnwritten kept loan
      → BecomesWritten loan (record { service_id = loan.service_id; loan = loan.loan }) kept (keeping boxes g)
  taken-becomes is loan its live =
      let written : SampleMut = record { service_id = loan.service_id; loan = loan.loan } in
      let out : IsWritten (keeping boxes g) written = taken-live is loan its live in
      let stays = taken-stays is in
      record {
        out = out;
        live = λ never. record { out = out; never_waits = stays.never_wait (unwritten_key loan) never };
        unblocked = λ free. stays.unblocked (unwritten_key loan) free tt;
        key = refl;
        lent = λ lent. stays.publishers (lender_key (unwritten_key loan)) lent tt;
        lengths = λ cells values has reads. taken-lengths is cells values
            (subst (λ (k : ℕ). HasUnwrittenCells kept k cells) its has)
            (subst (λ (k : ℕ). HasValues (keeping boxes g) k values) its reads);
        header = change-header f g kept view n assumes.0 assumed assumes.1 (reaches is) (unwritten_key loan)
            (written_key written) its its refl;
        user_header = change-user-header f g kept view n assumes.0 assumed assumes.1 (reaches is) (unwritten_key loan)
            (written_key written) its its refl;
        leaves = subst (λ (k : ℕ). LeavesBut (A_loan k) kept (keeping boxes g)) (sym its)
            (record {
              stays = stays;
              waits = taken-waits is;
              up_to_date = taken-leaves is;
              loans_left = taken-left is;
              borrows_left = taken-borrows is;
            });
      }

  -- ---- it is handed back

  module _ (no : b ≡ false) where
    same-fields : g ≡ f
    same-fields = subst
        (λ (t : Bool). MatchBool t (Reaches f g (initialized (state_of (kept_of f)) n assumes.0)) (g ≡ f)) no assumes.3

    pub left-same : keeping boxes g ≡ kept
    left-same = ap (keeping boxes) same-fields ∙ view

    pub left-shown : (m : Messages T U) (s : State T U) → Shows kept m s
        → (l : Loan T U) × (s.loans n ≡ Some l) × (is_initialized l ≡ false) × Shows (kept_of g) m s
    left-shown m s shown = (
      assumes.0,
      ap (λ (t : State T U). t.loans n) shown.state ∙ sym (ap (λ (k : Kept T U F G). (state_of k).loans n) view)
          ∙ assumes.1,
      sym assumes.2 ∙ no,
      subst (λ (k : Kept T U F G). Shows k m s) (sym left-same) shown,
    )

    pub left-stays : StaysBut (A_loan n) kept (keeping boxes g)
    left-stays = subst (StaysBut (A_loan n) kept) (sym left-same) (unchanged-stays (A_loan n) kept)

    pub left-loans : LoansLeftStay kept (keeping boxes g)
    left-loans = subst (LoansLeftStay kept) (sym left-same)
        (record { loans = λ publisher more left. left; numbers = λ more left. left })

    pub left-borrows : BorrowsLeftStay kept (keeping boxes g)
    left-borrows = subst (BorrowsLeftStay kept) (sym left-same)
        (record { all = λ subscriber more left. left; of_each = λ publisher subscriber more left. left })

    pub left-leaves : UpToDateStay kept (keeping boxes g)
    left-leaves = subst (UpToDateStay kept) (sym left-same)
        (record {
          subscribers = λ subscriber is. is;
          connections = λ publisher subscriber is. is;
          room = λ subscriber closes has. has;
        })
