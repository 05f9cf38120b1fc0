-- What is read of a loan that is out.
use Rattle.std.proofs.Common.{◌≡◌, ℕ, List, Option, Some, map, true, false, subst, sym}
use Rattle.iox2_machine.specs.declared.header.Header.{Header}
use Rattle.iox2_machine.specs.declared.key.Key.{Key}
use Rattle.iox2_machine.specs.machine.State.{State, Messages}
use Rattle.iox2_machine.specs.SingleValues.{is_single_valued}
use Rattle.iox2_machine.specs.declared.service_config.TypeVariant.TheVariants.{FixedSize}
use Rattle.iox2_domain.specs.Boxes.{DomainBoxes}
use Rattle.iox2_domain.specs.Fields.{Fields, kept_of, keeping}
use Rattle.iox2_domain.specs.Invariant.{IsDomain}
use Rattle.iox2_domain.specs.Kept.{Kept, state_of}
use Rattle.iox2_domain.specs.LoanCalls.{HasCell, HasCells, HasLoanHeader, HasLoanUserHeader}
use Rattle.iox2_domain.specs.Shows.{Shows}
use Rattle.iox2_pubsub.specs.Live.{IsLoanKey, IsSingleValued, LoanHasHeader, LoanHasUserHeader, LoanReads}
use Rattle.iox2_pubsub.specs.Live.{UnwrittenReads}
use Rattle.iox2_pubsub.specs.Slices.{HasUnwrittenCells, HasValues, HoldsSlices, IsSliced}
use Rattle.iox2_pubsub.specs.declared.sample_mut.SampleMut.{SampleMut}
use Rattle.iox2_pubsub.specs.declared.sample_mut_uninit.SampleMutUninit.{SampleMutUninit}
use Rattle.iox2_pubsub.proofs.LiveParts.{loan-header, loan-header-one, loan-reads, loan-reads-one, loan-user-header}
use Rattle.iox2_pubsub.proofs.LiveParts.{loan-user-header-one, single-parts, unwritten-reads, unwritten-reads-one}
use Rattle.iox2_pubsub.proofs.LoanHandles.{header-origin, loan-out, of-shown}
use Rattle.iox2_pubsub.proofs.SliceParts.{cells-one, has-cells, has-values, holds-parts, values-one}

-- What was read is in each state that is shown, and is what the word says, and nothing else is.
pub record WasRead {T U F G A : Type 0} (kept : Kept T U F G) (Has : State T U → A → Type 0) (Reads : A → Type 0)
    (read : A) : Type 0 where
  pub shown : (m : Messages T U) (s : State T U) → Shows kept m s → Has s read
  pub reads : Reads read
  pub same : (other : A) → Reads other → read ≡ other

-- A header that was read names the publisher too.
pub record HeaderRead {T U F G : Type 0} (kept : Kept T U F G) (key : Key) (header : Header) : Type 0 where
  pub shown : (m : Messages T U) (s : State T U) → Shows kept m s → HasLoanHeader s key.message header
  pub origin : header.publisher_id ≡ key.port
  pub reads : LoanHasHeader kept key header
  pub same : (other : Header) → LoanHasHeader kept key other → header ≡ other

module _ {T U F G : Type 0} (inside kept : Kept T U F G) (view : inside ≡ kept) where
  was-read : (A : Type 0) (Has : State T U → A → Type 0) (Reads : A → Type 0) (read : A)
      → (Has (state_of kept) read → Reads read) → ((other : A) → Reads read → Reads other → read ≡ other)
      → Has (state_of inside) read → WasRead kept Has Reads read
  was-read A Has Reads read word one has =
      let reads : Reads read = word (subst (λ (k : Kept T U F G). Has (state_of k) read) view has) in record {
        shown = of-shown inside kept view (λ (s : State T U). Has s read) has;
        reads = reads;
        same = λ other its. one other reads its;
      }

  -- ---- headers

  module _ (key : Key) where
    pub user_header-read : (header : U) → HasLoanUserHeader (state_of inside) key.message header
        → WasRead kept (λ s h. HasLoanUserHeader s key.message h) (LoanHasUserHeader kept key) header
    user_header-read header =
        was-read U (λ s h. HasLoanUserHeader s key.message h) (LoanHasUserHeader kept key) header
        (loan-user-header kept key header) (loan-user-header-one kept key header)

  -- ---- payloads

  pub cell-read : (loan : SampleMutUninit) (cell : Option T) → HasCell (state_of inside) loan.loan.number cell
      → WasRead kept (λ s x. HasCell s loan.loan.number x) (UnwrittenReads kept loan) cell
  cell-read loan cell =
      was-read (Option T) (λ s x. HasCell s loan.loan.number x) (UnwrittenReads kept loan) cell
      (unwritten-reads kept loan cell) (unwritten-reads-one kept loan cell)

  pub value-read : (loan : SampleMut) (value : T) → HasCell (state_of inside) loan.loan.number (Some value)
      → WasRead kept (λ s x. HasCell s loan.loan.number (Some x)) (LoanReads kept loan) value
  value-read loan value =
      was-read T (λ s x. HasCell s loan.loan.number (Some x)) (LoanReads kept loan) value (loan-reads kept loan value)
      (loan-reads-one kept loan value)

  module _ (number : ℕ) where
    pub cells-read : (cells : List (Option T)) → HasCells (state_of inside) number cells
        → WasRead kept (λ s x. HasCells s number x) (HasUnwrittenCells kept number) cells
    cells-read cells = was-read (List (Option T)) (λ s x. HasCells s number x) (HasUnwrittenCells kept number) cells
        (has-cells kept number cells) (cells-one kept number cells)

    pub values-read : (values : List T) → HasCells (state_of inside) number (map Some values)
        → WasRead kept (λ s x. HasCells s number (map Some x)) (HasValues kept number) values
    values-read values = was-read (List T) (λ s x. HasCells s number (map Some x)) (HasValues kept number) values
        (has-values kept number values) (values-one kept number values)

  -- ---- settings

  pub single-inside : IsSingleValued kept
      → ((inside.config).variant ≡ FixedSize) × ((inside.config).units_per_element ≡ 1)
  single-inside single = subst (λ (k : Kept T U F G). ((k.config).variant ≡ FixedSize)
      × ((k.config).units_per_element ≡ 1)) (sym view) (single-parts kept single)

  pub several-inside : HoldsSlices kept → is_single_valued inside.config ≡ false
  several-inside holds =
      subst (λ (k : Kept T U F G). is_single_valued k.config ≡ false) (sym view) (holds-parts kept holds)

  pub listed-inside : IsSliced kept → (is_single_valued inside.config ≡ false) × ((inside.config).lists_cells ≡ true)
  listed-inside sliced = (
    several-inside sliced.holds,
    subst (λ (k : Kept T U F G). (k.config).lists_cells ≡ true) (sym view) sliced.lists_cells,
  )

module _ {T U F G : Type 0} {boxes : DomainBoxes F G} (f : Fields T U) (sound : IsDomain f) (kept : Kept T U F G)
    (view : keeping boxes f ≡ kept) (key : Key) where
  pub header-read : (header : Header) → IsLoanKey kept key → HasLoanHeader (state_of (kept_of f)) key.message header
      → HeaderRead kept key header
  header-read header live has =
      let it =
      was-read (keeping boxes f) kept view Header (λ s h. HasLoanHeader s key.message h) (LoanHasHeader kept key) header
      (loan-header kept key header) (loan-header-one kept key header) has in
      record {
        shown = it.shown;
        origin = header-origin f sound key.message key.port header
            (loan-out (keeping boxes f) kept view key live) has;
        reads = it.reads;
        same = it.same;
      }
