-- A loan that isn't written yet, seen from outside.
use Rattle.std.proofs.Common.{◌≡◌, Bool, ℕ, ◌*◌, List, length, replicate, false, cond, get_or, refl, ap, sym, subst}
use Rattle.std.proofs.Common.{◌∙◌, inl, inr, arith, Result, Ok, Err}
use Rattle.std.proofs.lemmas.Bool.{cases_eq, eq-eqb, ne_eqb}
use Rattle.std.proofs.lemmas.List.{length-replicate}
use Rattle.std.proofs.lemmas.Option.{same_Some}
use Rattle.std.specs.declared.option.Option.{Option}
use Rattle.std.specs.declared.option.Option.TheVariants.{None, Some}
use Rattle.std.specs.Prelude.{IsSomeAnd, IsErrAnd}
use Rattle.iox2_machine.specs.machine.Loans.{GrantLoan, loan_granted}
use Rattle.iox2_machine.specs.machine.Numbers.{put_at}
use Rattle.iox2_machine.specs.machine.Records.{Loan, Publisher}
use Rattle.iox2_machine.specs.machine.State.{State, Messages}
use Rattle.iox2_machine.specs.declared.errors.LoanError.{LoanError}
use Rattle.iox2_machine.specs.declared.key.Key.{Key}
use Rattle.iox2_pubsub.specs.Live.{IsUnwritten, LoanHasHeader}
use Rattle.iox2_pubsub.specs.Slices.{HasUnwrittenCells}
use Rattle.iox2_pubsub.specs.declared.sample_mut_uninit.SampleMutUninit.{SampleMutUninit}
use Rattle.iox2_pubsub.proofs.LiveParts.{loan-header, unwritten-live}
use Rattle.iox2_pubsub.proofs.SliceParts.{has-cells, cells-parts}
use Rattle.iox2_domain.specs.LoanSlots.{LiesInSlot}
use Rattle.iox2_pubsub.proofs.PlacedLoans.{loan-placed}
use Rattle.iox2_domain.specs.Ports.{PublisherFields}
use Rattle.iox2_domain.specs.Kept.{Kept, state_of}
use Rattle.iox2_domain.specs.Boxes.{DomainBoxes}
use Rattle.iox2_domain.specs.Fields.{Fields, kept_of, publisher_of, keeping}
use Rattle.iox2_domain.specs.Invariant.{IsDomain}
use Rattle.iox2_domain.specs.Lending.{IsNamed, LoanReaches, LoanCall, header_for, loan_memory, memory_for}
use Rattle.iox2_domain.specs.Lending.{memory_if_any}
use Rattle.iox2_domain.specs.declared.loan_slots.LoanAt.{LoanAt}
use Rattle.iox2_domain.specs.Shows.{Shows}
use Rattle.iox2_domain.specs.KeptPlaces.{KeepsPlaces}
use Rattle.iox2_domain.proofs.lemmas.fields.ConnectionEnds.{publisher-stands}
use Rattle.iox2_domain.proofs.lemmas.fields.ReachesShows.{reaches-shows, reaches-shows-same}

module _ {T U : Type 0} (f : Fields T U) where
  abbrev state : State T U
  state = state_of (kept_of f)

  abbrev machine : PublisherFields → Publisher
  machine x = (publisher_of f.books f.connections x).port

  module _ (is_default : U → Type 0) (checks : Bool) (len : ℕ) (new : Fields T U) (x : PublisherFields)
      (stands : state.publishers x.id ≡ Some (machine x))
      (m : Messages T U) (s : State T U) (shown : Shows (kept_of f) m s) where
    -- whether memory may be refused is known of the publisher that stands there
    asked_there : (user_header : U) (s' : State T U) (refusal : Option LoanError)
        → GrantLoan (memory_for x.allocation) user_header checks len state x.id s' refusal
        → GrantLoan (loan_memory state x.id) user_header checks len state x.id s' refusal
    asked_there user_header s' refusal h =
        subst (λ (o : Option Publisher). GrantLoan (memory_if_any o) user_header checks len state x.id s' refusal)
        (sym stands) h

    -- a loan that is refused changes nothing
    pub refused-shows : (A : Type 0) (e : LoanError) → LoanReaches {A = LoanAt} is_default checks len f x (Err e) new
        → (s' : State T U) × Shows (kept_of new) m s' × LoanCall {A = A} is_default checks len s x.id (Err e) s'
    refused-shows A e reaches =
        subst (λ (t : State T U). (s' : State T U) × Shows (kept_of new) m s'
        × LoanCall {A = A} is_default checks len t x.id (Err e) s')
        (sym shown.state) (
          state,
          reaches-shows-same f new m s state shown reaches.1
              (ap (λ (t : State T U). t.next_message) (sym shown.state))
              (ap (λ (t : State T U). t.loans) (sym shown.state)),
          (refl, λ user_header. asked_there user_header state (Some e) (reaches.0 user_header)),
        )

    -- no message was sent under the number of the new loan, or of an older one
    none_sent : (lent : Loan T U) (n : ℕ) (l : Loan T U) → put_at state.loans f.next_message (Some lent) n ≡ Some l
        → m n ≡ None
    none_sent lent n l found = elim (cases_eq n f.next_message) [
      | inl here ↦ shown.below n (let next : s.next_message ≡ f.next_message = ap
          (λ (t : State T U). t.next_message) shown.state in omega arith)
      | inr away ↦
          let old : put_at state.loans f.next_message (Some lent) n ≡ state.loans n =
          ap (λ b. cond b (Some lent) (state.loans n)) (ne_eqb n f.next_message away) in
          shown.unsent n l (ap (λ (t : State T U). t.loans n) shown.state ∙ sym old ∙ found)
    ]

    -- a loan that is granted is shown
    pub granted-shows : (A : Type 0) (loan : LoanAt) (answer : A)
        → LoanReaches {A = LoanAt} is_default checks len f x (Ok loan) new
        → (s' : State T U) × Shows (kept_of new) m s' × LoanCall {A = A} is_default checks len s x.id (Ok answer) s'
    granted-shows A loan answer reaches =
        let s' : State T U = loan_granted reaches.0 state x.id (machine x) len reaches.2 in
        subst (λ (t : State T U). (s' : State T U) × Shows (kept_of new) m s'
        × LoanCall {A = A} is_default checks len t x.id (Ok answer) s')
        (sym shown.state) (
          s',
          reaches-shows f new m s s' shown reaches.4
              (let next : s.next_message ≡ f.next_message = ap (λ (t : State T U). t.next_message) shown.state in
              omega arith)
              (λ n l found. none_sent _ n l found),
          (reaches.0, reaches.1, asked_there reaches.0 s' None reaches.3),
        )

  -- the new loan
  abbrev lent_loan : (x : PublisherFields) (user_header : U) (len : ℕ) → Loan T U
  lent_loan x user_header len = record {
    publisher = x.id;
    header = header_for f.config x.id len;
    user_header = user_header;
    cells = replicate (len * (f.config).units_per_element) None;
    is_written = false;
  }

  -- it is out
  granted-out : (is_default : U → Type 0) (checks : Bool) (len : ℕ) (new : Fields T U) (x : PublisherFields)
      (loan : LoanAt) → IsNamed f x loan
      → (reaches : LoanReaches {A = LoanAt} is_default checks len f x (Ok loan) new)
      → (state_of (kept_of new)).loans loan.number ≡ Some (lent_loan x reaches.0 len)
  granted-out is_default checks len new x loan names reaches =
      ap (state_of (kept_of new)).loans names.number
      ∙ ap (λ (t : State T U). t.loans f.next_message) reaches.4.state
      ∙ ap (λ b. cond b (Some (lent_loan x reaches.0 len)) (state.loans f.next_message))
      (eq-eqb f.next_message f.next_message refl)

  -- and isn't written
  granted-live : {F G : Type 0} {boxes : DomainBoxes F G} (is_default : U → Type 0) (checks : Bool) (len : ℕ)
      (new : Fields T U) (x : PublisherFields) (loan : SampleMutUninit) → loan.service_id ≡ (f.config).service_id
      → IsNamed f x loan.loan → LoanReaches {A = LoanAt} is_default checks len f x (Ok loan.loan) new
      → LiesInSlot new loan.loan.publisher loan.loan.number loan.loan.book loan.loan.slot
      → IsUnwritten (keeping boxes new) loan
  granted-live {F} {G} {boxes} is_default checks len new x loan its names reaches lies =
      unwritten-live (keeping boxes new) loan
      (its ∙ ap (λ (t : State T U). (t.config).service_id) (sym reaches.4.state)) (
        lent_loan x reaches.0 len,
        granted-out is_default checks len new x loan.loan names reaches,
        sym names.publisher,
        refl,
      )
      (loan-placed boxes new reaches.4.agrees loan.loan.publisher loan.loan.book loan.loan.slot loan.loan.number lies)

module _ {T U : Type 0} (is_default : U → Type 0) (checks : Bool) (len : ℕ) (f new : Fields T U) (sound : IsDomain f)
    (i p : ℕ) (answer : Result LoanAt LoanError)
    (stands : (x : PublisherFields) × (get_or f.publishers i None ≡ Some x) × (x.id ≡ p))
    (reaches : IsSomeAnd (get_or f.publishers i None) (λ z. LoanReaches is_default checks len f z answer new)) where
  its : LoanReaches is_default checks len f stands.0 answer new
  its = subst (λ (o : Option PublisherFields). IsSomeAnd o (λ z. LoanReaches is_default checks len f z answer new))
      stands.1 reaches

  -- the publisher as the machine has it
  there : (state f).publishers (stands.0).id ≡ Some (machine f stands.0)
  there = publisher-stands f sound.parts i stands.0 stands.1

  -- a loan that was refused
  pub err-shown : {F G : Type 0} {boxes : DomainBoxes F G} (A : Type 0) (e : LoanError) → answer ≡ Err e
      → (r : Result A LoanError) → IsErrAnd r (λ e'. e' ≡ e) → (kept : Kept T U F G) → keeping boxes f ≡ kept
      → (m : Messages T U) (s : State T U) → Shows kept m s
      → (s' : State T U) × Shows (kept_of new) m s' × LoanCall {A = A} is_default checks len s p r s'
  err-shown {F} {G} A e is (Ok a) same kept view m s shown = absurd same
  err-shown {F} {G} A e is (Err e') same kept view m s shown =
      subst (λ (q : ℕ). (s' : State T U) × Shows (kept_of new) m s'
      × LoanCall {A = A} is_default checks len s q (Err e') s') stands.2
      (refused-shows f is_default checks len new stands.0 there m s
      (subst (λ (k : Kept T U F G). Shows k m s) (sym view) shown) A e'
      (subst (λ (r : Result LoanAt LoanError). LoanReaches is_default checks len f stands.0 r new)
      (is ∙ ap Err (sym same)) its))

  -- the domain agrees, where the loan was granted
  pub ok-domain : (loan : LoanAt) → answer ≡ Ok loan → IsDomain new
  ok-domain loan is =
      let granted : LoanReaches {A = LoanAt} is_default checks len f stands.0 (Ok loan) new =
      subst (λ (r : Result LoanAt LoanError). LoanReaches is_default checks len f stands.0 r new) is its in
      granted.4.agrees

  -- a loan that was granted
  pub ok-shown : {F G : Type 0} {boxes : DomainBoxes F G} (A : Type 0) (a : A) (loan : LoanAt) → answer ≡ Ok loan
      → (kept : Kept T U F G) → keeping boxes f ≡ kept
      → (m : Messages T U) (s : State T U) → Shows kept m s
      → (s' : State T U) × Shows (kept_of new) m s' × LoanCall {A = A} is_default checks len s p (Ok a) s'
  ok-shown {F} {G} A a loan is kept view m s shown =
      subst (λ (q : ℕ). (s' : State T U) × Shows (kept_of new) m s'
      × LoanCall {A = A} is_default checks len s q (Ok a) s') stands.2
      (granted-shows f is_default checks len new stands.0 there m s
      (subst (λ (k : Kept T U F G). Shows k m s) (sym view) shown) A loan a
      (subst (λ (r : Result LoanAt LoanError). LoanReaches is_default checks len f stands.0 r new) is its))

  -- it is out
  pub ok-live : {F G : Type 0} {boxes : DomainBoxes F G} (loan : SampleMutUninit) → answer ≡ Ok loan.loan
      → IsSomeAnd (get_or f.publishers i None) (λ z. IsNamed f z loan.loan) → (kept : Kept T U F G)
      → keeping boxes f ≡ kept
      → loan.service_id ≡ (kept.config).service_id
      → LiesInSlot new loan.loan.publisher loan.loan.number loan.loan.book loan.loan.slot
      → IsUnwritten (keeping boxes new) loan
  ok-live {F} {G} loan is named kept view service lies =
      granted-live f is_default checks len new stands.0 loan
      (service ∙ sym (ap (λ (k : Kept T U F G). (k.config).service_id) view))
      (subst (λ (o : Option PublisherFields). IsSomeAnd o (λ z. IsNamed f z loan.loan)) stands.1 named)
      (subst (λ (r : Result LoanAt LoanError). LoanReaches is_default checks len f stands.0 r new) is its) lies

  -- no message moves
  pub loan-places : KeepsPlaces f new
  loan-places = by answer its where
    by : (r : Result LoanAt LoanError) → LoanReaches is_default checks len f stands.0 r new → KeepsPlaces f new
    by (Ok loan) granted = granted.4.places
    by (Err e) refused = refused.1.places

  -- it is the publisher's
  pub ok-publisher : (loan : LoanAt) → IsSomeAnd (get_or f.publishers i None) (λ z. IsNamed f z loan)
      → loan.publisher ≡ p
  ok-publisher loan named =
      (subst (λ (o : Option PublisherFields). IsSomeAnd o (λ z. IsNamed f z loan)) stands.1 named).publisher ∙ stands.2

  -- and has the number that was the next
  pub ok-number : (loan : LoanAt) → IsSomeAnd (get_or f.publishers i None) (λ z. IsNamed f z loan)
      → loan.number ≡ f.next_message
  ok-number loan named =
      (subst (λ (o : Option PublisherFields). IsSomeAnd o (λ z. IsNamed f z loan)) stands.1 named).number

  -- its cells aren't written
  pub ok-cells : {F G : Type 0} (boxes : DomainBoxes F G) (loan : LoanAt) → answer ≡ Ok loan
      → IsSomeAnd (get_or f.publishers i None) (λ z. IsNamed f z loan)
      → HasUnwrittenCells (keeping boxes new) loan.number (replicate (len * (f.config).units_per_element) None)
  ok-cells boxes loan is named =
      let names : IsNamed f stands.0 loan =
      subst (λ (o : Option PublisherFields). IsSomeAnd o (λ z. IsNamed f z loan)) stands.1 named in
      let granted : LoanReaches {A = LoanAt} is_default checks len f stands.0 (Ok loan) new =
      subst (λ (r : Result LoanAt LoanError). LoanReaches is_default checks len f stands.0 r new) is its in
      has-cells (keeping boxes new) loan.number _ (
        lent_loan f stands.0 granted.0 len,
        granted-out f is_default checks len new stands.0 loan names granted,
        refl,
      )

  -- there are no others
  pub ok-lengths : {F G : Type 0} (boxes : DomainBoxes F G) (loan : LoanAt) → answer ≡ Ok loan
      → IsSomeAnd (get_or f.publishers i None) (λ z. IsNamed f z loan) → (cells : List (Option T))
      → HasUnwrittenCells (keeping boxes new) loan.number cells → length cells ≡ len * (f.config).units_per_element
  ok-lengths boxes loan is named cells has =
      let names : IsNamed f stands.0 loan =
      subst (λ (o : Option PublisherFields). IsSomeAnd o (λ z. IsNamed f z loan)) stands.1 named in
      let granted : LoanReaches {A = LoanAt} is_default checks len f stands.0 (Ok loan) new =
      subst (λ (r : Result LoanAt LoanError). LoanReaches is_default checks len f stands.0 r new) is its in
      let there = cells-parts (keeping boxes new) loan.number cells has in
      let same : there.0 ≡ lent_loan f stands.0 granted.0 len =
      same_Some there.0 (lent_loan f stands.0 granted.0 len)
      (sym there.1 ∙ granted-out f is_default checks len new stands.0 loan names granted) in
      ap (λ (cs : List (Option T)). length cs) (sym there.2 ∙ ap (λ (l : Loan T U). l.cells) same)
      ∙ length-replicate {A = Option T} (len * (f.config).units_per_element) None

  -- and its header says whose it is, and how long
  pub ok-header : {F G : Type 0} (boxes : DomainBoxes F G) (loan : LoanAt) → answer ≡ Ok loan
      → IsSomeAnd (get_or f.publishers i None) (λ z. IsNamed f z loan) → (key : Key) → key.message ≡ loan.number
      → LoanHasHeader (keeping boxes new) key (header_for f.config p len)
  ok-header boxes loan is named key number =
      let names : IsNamed f stands.0 loan =
      subst (λ (o : Option PublisherFields). IsSomeAnd o (λ z. IsNamed f z loan)) stands.1 named in
      let granted : LoanReaches {A = LoanAt} is_default checks len f stands.0 (Ok loan) new =
      subst (λ (r : Result LoanAt LoanError). LoanReaches is_default checks len f stands.0 r new) is its in
      loan-header (keeping boxes new) key _ (
        lent_loan f stands.0 granted.0 len,
        ap (state_of (kept_of new)).loans number
            ∙ granted-out f is_default checks len new stands.0 loan names granted,
        ap (λ (q : ℕ). header_for f.config q len) stands.2,
      )
