-- What a domain shows once a reference into a loan was handed out, whatever was left behind it.
use Rattle.std.proofs.Common.{◌≡◌, ℕ, ◌<◌, List, [], ◌∷◌, map, length, true, false, slice_set, refl, ap, sym, subst}
use Rattle.std.proofs.Common.{◌∙◌, arith}
use Rattle.std.proofs.lemmas.List.{length-map}
use Rattle.std.specs.List.{refill}
use Rattle.std.specs.declared.option.Option.{Option}
use Rattle.std.specs.declared.option.Option.TheVariants.{Some}
use Rattle.iox2_machine.specs.declared.header.Header.{Header}
use Rattle.iox2_machine.specs.declared.key.Key.{Key}
use Rattle.iox2_machine.specs.SingleValues.{is_single_valued}
use Rattle.iox2_contents.specs.SlotContents.{first_cell_at, first_value_at, cells_at, values_at, user_header_at}
use Rattle.iox2_machine.specs.machine.Records.{Loan}
use Rattle.iox2_machine.specs.machine.SingleCalls.{HoldsLoan}
use Rattle.iox2_machine.specs.machine.State.{State, Messages, with_loan}
use Rattle.iox2_domain.specs.Kept.{Kept, state_of, with_loan_changed}
use Rattle.iox2_domain.specs.Boxes.{DomainBoxes}
use Rattle.iox2_domain.specs.Fields.{Fields, kept_of, contents_at, contents_in, keeping}
use Rattle.iox2_domain.specs.Invariant.{IsDomain}
use Rattle.iox2_domain.specs.LoanCalls.{HoldsUnwritten, HoldsWritten, HasCells, HasCell, HasLoanUserHeader, HasContents}
use Rattle.iox2_domain.specs.LoanCalls.{HasContentIn, first_cell_changed, cells_changed, user_header_changed}
use Rattle.iox2_domain.specs.LoanSlots.{LiesInSlot}
use Rattle.iox2_domain.specs.Shows.{Shows}
use Rattle.iox2_domain.proofs.lemmas.loans.LentLoans.{IsLent}
use Rattle.iox2_domain.proofs.lemmas.slots.BookContents.{contents-there}
use Rattle.iox2_domain.proofs.lemmas.loans.LoanCalls.{some-at, is-unwritten, is-written, user_header-read, in-lists}
use Rattle.iox2_domain.proofs.lemmas.loans.LoanCalls.{cells-listed, cell-some, cell-read, cells-read, value-some}
use Rattle.iox2_domain.proofs.lemmas.loans.LoanCalls.{value-read, values-read}
use Rattle.iox2_pubsub.specs.ChangedLoans.{with_cell_left, with_cells_left, with_payload, with_payloads}
use Rattle.iox2_pubsub.specs.ChangedLoans.{with_user_header_left}
use Rattle.iox2_pubsub.specs.Leaves.{LeavesBut}
use Rattle.iox2_pubsub.specs.Live.{IsUnwritten, NeverWaitsUnwritten, IsWritten, IsWrittenLoan, LoanHasHeader}
use Rattle.iox2_pubsub.specs.Live.{LoanHasUserHeader, NeverWaits, A_loan, unwritten_key, written_key}
use Rattle.iox2_pubsub.specs.Slices.{HasUnwrittenCells, HasValues}
use Rattle.iox2_pubsub.specs.declared.sample_mut.SampleMut.{SampleMut}
use Rattle.iox2_pubsub.specs.declared.sample_mut_uninit.SampleMutUninit.{SampleMutUninit}
use Rattle.iox2_pubsub.proofs.CallsStay.{always-shown, change-stays}
use Rattle.iox2_pubsub.proofs.LiveParts.{written-parts, unwritten-parts, loan-user-header}
use Rattle.iox2_pubsub.proofs.LoanHandles.{change-header, change-shown, change-user-header, changed-out}
use Rattle.iox2_pubsub.proofs.LoanHandles.{change-unwritten, change-written}
use Rattle.iox2_pubsub.proofs.SliceParts.{cells-parts, has-cells, has-values, values-parts}
use Rattle.iox2_pubsub.proofs.StaysBut.{BoxesStayBut, same-boxes}
use Rattle.iox2_pubsub.proofs.UpToDateShown.{set-leaves}
use Rattle.iox2_pubsub.proofs.WaitingShown.{set-waits}
use Rattle.iox2_pubsub.proofs.BorrowsLeftShown.{set-borrows}
use Rattle.iox2_pubsub.proofs.LoansLeftShown.{set-left}

-- ---- the words

-- what is kept, beside other boxes
abbrev with-boxes : {T U F G F' G' : Type 0} → DomainBoxes F' G' → Kept T U F G → Kept T U F' G'
with-boxes boxes kept = record {
  config = kept.config;
  next_port = kept.next_port;
  next_message = kept.next_message;
  publishers = kept.publishers;
  subscribers = kept.subscribers;
  connections = kept.connections;
  books = kept.books;
  warnings = kept.warnings;
  boxes = boxes;
}

module _ {T U F G : Type 0} (kept : Kept T U F G) (n : ℕ) where
  pub cell-word : (cell : Option T) → with_cell_left kept n cell ≡ with_loan_changed n (first_cell_changed cell) kept
  unfolding with_cell_left
  cell-word cell = refl

  pub payload-word : (value : T)
      → with_payload kept n value ≡ with_loan_changed n (first_cell_changed (Some value)) kept
  unfolding with_payload
  payload-word value = refl

  pub cells-word : (cells : List (Option T))
      → with_cells_left kept n cells ≡ with_loan_changed n (cells_changed cells) kept
  unfolding with_cells_left
  cells-word cells = refl

  pub payloads-word : (values : List T)
      → with_payloads kept n values ≡ with_loan_changed n (cells_changed (map Some values)) kept
  unfolding with_payloads
  payloads-word values = refl

  pub user_header-word : (user_header : U)
      → with_user_header_left kept n user_header ≡ with_loan_changed n (user_header_changed user_header) kept
  unfolding with_user_header_left
  user_header-word user_header = refl

-- a list of one element, the first of which was changed
pub one-changed : {A : Type 0} (xs : List A) (x : A) → length xs ≡ 1 → slice_set xs 0 x ≡ x ∷ []
one-changed [] x one = absurd (omega arith)
one-changed (y ∷ []) x one = refl
one-changed (y ∷ z ∷ ys) x one = absurd (omega arith)

-- a list that was refilled with as many elements
pub refilled : {A : Type 0} (xs ws : List A) → length ws ≡ length xs → refill (length xs) xs ws ≡ ws
refilled [] [] same = refl
refilled [] (w ∷ ws) same = absurd (omega arith)
refilled (x ∷ xs) [] same = absurd (omega arith)
refilled (x ∷ xs) (w ∷ ws) same = ap (λ ys. w ∷ ys) (refilled xs ws (omega arith))

-- ---- a loan that was lent

-- What a loan that was lent is afterwards and what it leaves, where `h` says what became of it.
pub record Lent {T U F G : Type 0} (inside kept after : Kept T U F G) (n : ℕ) (l : Loan T U)
    (h : Loan T U → Loan T U) : Type 0 where
  -- what is kept is what the word says
  pub is : inside ≡ after
  pub shown : (m : Messages T U) (s : State T U) → Shows kept m s
      → (k : Loan T U) × (s.loans n ≡ Some k) × Shows after m (with_loan s n (Some (h k)))
  pub leaves : LeavesBut (A_loan n) kept after
  -- what it reads as
  pub cells : (cells : List (Option T)) → (h l).cells ≡ cells → HasUnwrittenCells after n cells
  pub values : (values : List T) → (h l).cells ≡ map Some values → HasValues after n values
  pub user_header : (key : Key) (user_header : U) → key.message ≡ n → (h l).user_header ≡ user_header
      → LoanHasUserHeader after key user_header
  -- what of it didn't change
  pub same_cells : (h l).cells ≡ l.cells → (cells : List (Option T)) → HasUnwrittenCells kept n cells
      → HasUnwrittenCells after n cells
  pub same_values : (h l).cells ≡ l.cells → (values : List T) → HasValues kept n values → HasValues after n values
  pub same_header : (h l).header ≡ l.header → (key : Key) → key.message ≡ n → (header : Header)
      → LoanHasHeader kept key header → LoanHasHeader after key header
  pub same_user_header : (h l).user_header ≡ l.user_header → (key : Key) → key.message ≡ n → (header : U)
      → LoanHasUserHeader kept key header → LoanHasUserHeader after key header
  pub written : (h l).publisher ≡ l.publisher → (h l).is_written ≡ l.is_written → (loan : SampleMut)
      → loan.loan.number ≡ n → IsWritten kept loan → IsWritten after loan
  pub written_live : (h l).publisher ≡ l.publisher → (h l).is_written ≡ l.is_written → (loan : SampleMut)
      → loan.loan.number ≡ n → IsWritten kept loan → NeverWaits kept (written_key loan) → IsWrittenLoan after loan
  pub unwritten : (h l).publisher ≡ l.publisher → (h l).is_written ≡ l.is_written → (loan : SampleMutUninit)
      → loan.loan.number ≡ n → IsUnwritten kept loan → IsUnwritten after loan
  pub unwritten_live : (h l).publisher ≡ l.publisher → (h l).is_written ≡ l.is_written → (loan : SampleMutUninit)
      → loan.loan.number ≡ n → IsUnwritten kept loan → NeverWaits kept (unwritten_key loan)
      → NeverWaitsUnwritten after loan

module _ {T U F G : Type 0} {boxes : DomainBoxes F G} (f g : Fields T U) (sound : IsDomain f) (kept : Kept T U F G)
    (view : keeping boxes f ≡ kept) (n : ℕ) (l : Loan T U) (found : (state_of (kept_of f)).loans n ≡ Some l)
    (h : Loan T U → Loan T U) (lent : IsLent f g n l h) (after : Kept T U F G)
    (is : after ≡ with_loan_changed n h kept) where
  lent-is : keeping boxes g ≡ after
  lent-is = ap (with-boxes boxes) lent.kept ∙ ap (with_loan_changed n h) view ∙ sym is

  lent-shown : (m : Messages T U) (s : State T U) → Shows kept m s
      → (k : Loan T U) × (s.loans n ≡ Some k) × Shows after m (with_loan s n (Some (h k)))
  lent-shown m s shown =
      let both = change-shown f g kept view n l (h l) found lent.reaches m s shown in
      (l, both.0, subst (λ (k : Kept T U F G). Shows k m (with_loan s n (Some (h l)))) lent-is both.1)

  -- the changed loan is the one that is kept
  lent-there : (state_of after).loans n ≡ Some (h l)
  lent-there = ap (λ (k : Kept T U F G). (state_of k).loans n) (sym lent-is)
      ∙ changed-out f g kept view n l (h l) found lent.reaches

  loan-there : (k : Loan T U) → (state_of kept).loans n ≡ Some k → k ≡ l
  loan-there k at =
      let both : Some k ≡ Some l = sym at ∙ sym (ap (λ (s : Kept T U F G). (state_of s).loans n) view) ∙ found in cc

  -- its cells, where they didn't change
  lent-same : (h l).cells ≡ l.cells → (k : Loan T U) → (state_of kept).loans n ≡ Some k → (h l).cells ≡ k.cells
  lent-same same k at = same ∙ ap (λ (j : Loan T U). j.cells) (sym (loan-there k at))

  lent-written : (h l).publisher ≡ l.publisher → (h l).is_written ≡ l.is_written → (loan : SampleMut)
      → loan.loan.number ≡ n → IsWritten kept loan → IsWritten after loan
  lent-written same mark loan its live =
      let parts = written-parts kept loan live in
      let out : HoldsLoan (state_of (kept_of f)) loan.loan.publisher n =
      subst (λ (k : Kept T U F G). HoldsLoan (state_of k) loan.loan.publisher n) (sym view)
      (subst (HoldsLoan (state_of kept) loan.loan.publisher) its ((parts.1).0, (parts.1).1, (parts.1).2)) in
      let one : (parts.1).0 ≡ l = loan-there (parts.1).0 (ap (state_of kept).loans (sym its) ∙ (parts.1).1) in
      let written : (h l).is_written ≡ true = mark ∙ ap (λ (k : Loan T U). k.is_written) (sym one) ∙ (parts.1).3 in
      subst (λ (k : Kept T U F G). IsWritten k loan) lent-is
      (change-written f g kept view n l (h l) found lent.reaches same loan.loan.publisher loan.service_id parts.0 out
      written loan its refl refl sound live.placed)

  lent-unwritten : (h l).publisher ≡ l.publisher → (h l).is_written ≡ l.is_written → (loan : SampleMutUninit)
      → loan.loan.number ≡ n → IsUnwritten kept loan → IsUnwritten after loan
  lent-unwritten same mark loan its live =
      let parts = unwritten-parts kept loan live in
      let one : (parts.1).0 ≡ l = loan-there (parts.1).0 (ap (state_of kept).loans (sym its) ∙ (parts.1).1) in
      let unwritten : (h l).is_written ≡ false = mark ∙ ap (λ (k : Loan T U). k.is_written) (sym one) ∙ (parts.1).3 in
      subst (λ (k : Kept T U F G). IsUnwritten k loan) lent-is
      (change-unwritten f g kept view n l (h l) found lent.reaches same sound loan its live unwritten)

  pub was-lent : Lent (keeping boxes g) kept after n l h
  was-lent =
      let it = always-shown f kept sound view in
      let step = lent-shown it.0 it.1 it.2 in
      let all_else : LeavesBut (A_loan n) kept after = record {
        stays = change-stays kept after it.0 it.1 it.2 n (h step.0) step.2
            (subst (BoxesStayBut (A_loan n) kept) lent-is (same-boxes f g kept view sound lent.reaches.places));
        waits = set-waits kept after it.0 it.1 it.2 n (Some (h step.0)) step.2;
        up_to_date = set-leaves kept after it.0 it.1 it.2 n (Some (h step.0)) step.2;
        loans_left = set-left kept after it.0 it.0 it.1 (with_loan it.1 n (Some (h step.0))) it.2 step.2 n
            (Some (h step.0)) refl;
        borrows_left = set-borrows kept after it.0 it.0 it.1 (with_loan it.1 n (Some (h step.0))) it.2 step.2 n
            (Some (h step.0)) refl;
      } in
      record {
        is = lent-is;
        shown = lent-shown;
        leaves = all_else;
        cells = λ cells is-it. has-cells after n cells (h l, lent-there, is-it);
        values = λ values is-it. has-values after n values (h l, lent-there, is-it);
        user_header = λ key user_header its is-it.
            loan-user-header after key user_header (h l, ap (state_of after).loans its ∙ lent-there, is-it);
        same_cells = λ same cells has. let had = cells-parts kept n cells has in
            has-cells after n cells (h l, lent-there, lent-same same had.0 had.1 ∙ had.2);
        same_values = λ same values has. let had = values-parts kept n values has in
            has-values after n values (h l, lent-there, lent-same same had.0 had.1 ∙ had.2);
        same_header = λ same key its header has.
            subst (λ (k : Kept T U F G). LoanHasHeader k key header) lent-is
            (change-header f g kept view n l (h l) found lent.reaches key key its its same header has);
        same_user_header = λ same key its header has.
            subst (λ (k : Kept T U F G). LoanHasUserHeader k key header) lent-is
            (change-user-header f g kept view n l (h l) found lent.reaches key key its its same header has);
        written = lent-written;
        written_live = λ same mark loan its live never. record {
          out = lent-written same mark loan its live;
          never_waits = (all_else.stays).never_wait (written_key loan) never;
        };
        unwritten = lent-unwritten;
        unwritten_live = λ same mark loan its live never.
            record {
              out = lent-unwritten same mark loan its live;
              never_waits = (all_else.stays).never_wait (unwritten_key loan) never;
            };
      }

-- a loan whose cells were changed, to as many
pub cells-left : {T U : Type 0} (s : State T U) (n : ℕ) (l : Loan T U) → s.loans n ≡ Some l
    → (read cells : List (Option T)) → HasCells s n read → length cells ≡ length read
    → (cells_changed cells l).cells ≡ cells
cells-left {T} {U} s n l out read cells has same =
    let both : Some l ≡ Some has.0 = sym out ∙ has.1 in
    let one : l ≡ has.0 = cc in
    let had : l.cells ≡ read = ap (λ (k : Loan T U). k.cells) one ∙ has.2 in
    refilled l.cells cells (same ∙ ap length (sym had))

pub values-left : {T U : Type 0} (s : State T U) (n : ℕ) (l : Loan T U) → s.loans n ≡ Some l → (read values : List T)
    → HasCells s n (map Some read) → length values ≡ length read
    → (cells_changed (map Some values) l).cells ≡ map Some values
values-left s n l out read values has same = cells-left s n l out (map Some read) (map Some values) has
    (length-map values Some ∙ same ∙ sym (length-map read Some))

-- ---- what lies in a loan's slot may be lent

module _ {T U : Type 0} (f : Fields T U) (sound : IsDomain f) (p n key slot : ℕ) (at : LiesInSlot f p n key slot) where
  has : HasContents f key
  has = contents-there f sound.parts key at.book at.stands

  -- its user header
  pub header-there : HasContentIn f key slot (λ content. content ≡ content)
  header-there = (has.0, has.1, some-at f sound p n key slot at has.0 has.1 (λ content. content ≡ content) refl)

  pub header-known : (user_header : U) → user_header_at (contents_at f.contents key) slot ≡ Some user_header
      → HasLoanUserHeader (state_of (kept_of f)) n user_header
  header-known user_header known =
      user_header-read f sound p n key slot at has.0 has.1 user_header
      (sym (ap (λ o. user_header_at (contents_in o) slot) has.1) ∙ known)

  -- the value of a written loan
  module _ (out : HoldsWritten (state_of (kept_of f)) p n) where
    -- its values, where they lie in a list
    pub values-there : is_single_valued f.config ≡ false
        → HasContentIn f key slot (λ content. content.is_in_place ≡ false)
    values-there several = (
      has.0,
      has.1,
      some-at f sound p n key slot at has.0 has.1 (λ content. content.is_in_place ≡ false)
          (in-lists f sound p n key slot at has.0 has.1 several),
    )

    pub values-known : (values : List T) → values_at (contents_at f.contents key) slot ≡ Some values
        → HasCells (state_of (kept_of f)) n (map Some values)
    values-known values known =
        values-read f sound p n key slot at has.0 has.1 (is-written f sound p n key slot at out) values
        (sym (ap (λ o. values_at (contents_in o) slot) has.1) ∙ known)

    module _ (one : length (at.loan).cells ≡ 1) where
      pub value-there : HasContentIn f key slot (λ content. 0 < length content.values)
      value-there =
          (has.0, has.1, value-some f sound p n key slot at has.0 has.1 (is-written f sound p n key slot at out) one)

      pub value-known : (value : T) → first_value_at (contents_at f.contents key) slot ≡ Some value
          → HasCell (state_of (kept_of f)) n (Some value)
      value-known value known =
          value-read f sound p n key slot at has.0 has.1 (is-written f sound p n key slot at out) one value
          (sym (ap (λ o. first_value_at (contents_in o) slot) has.1) ∙ known)

  -- the cell of an unwritten loan
  module _ (out : HoldsUnwritten (state_of (kept_of f)) p n) where
    -- its cells, where they lie in a list
    pub cells-there : is_single_valued f.config ≡ false → (f.config).lists_cells ≡ true
        → HasContentIn f key slot (λ content. 0 < content.lists)
    cells-there several lists = (
      has.0,
      has.1,
      some-at f sound p n key slot at has.0 has.1 (λ content. 0 < content.lists)
          (cells-listed f sound p n key slot at has.0 has.1 several lists),
    )

    pub cells-known : (cells : List (Option T)) → cells_at (contents_at f.contents key) slot ≡ Some cells
        → HasCells (state_of (kept_of f)) n cells
    cells-known cells known =
        cells-read f sound p n key slot at has.0 has.1 (is-unwritten f sound p n key slot at out) cells
        (sym (ap (λ o. cells_at (contents_in o) slot) has.1) ∙ known)

    module _ (one : length (at.loan).cells ≡ 1) where
      pub cell-there : HasContentIn f key slot (λ content. 0 < length content.cells)
      cell-there =
          (has.0, has.1, cell-some f sound p n key slot at has.0 has.1 (is-unwritten f sound p n key slot at out) one)

      pub cell-known : (cell : Option T) → first_cell_at (contents_at f.contents key) slot ≡ Some cell
          → HasCell (state_of (kept_of f)) n cell
      cell-known cell known =
          cell-read f sound p n key slot at has.0 has.1 (is-unwritten f sound p n key slot at out) one cell
          (sym (ap (λ o. first_cell_at (contents_in o) slot) has.1) ∙ known)
