-- What comes of a loan, by its code.
use Rattle.std.proofs.Common.{◌≡◌, ◌<◌, ℕ, List, [], ◌∷◌, inl, inr, true, subst, sym, arith}
use Rattle.std.specs.List.{All}
use Rattle.std.proofs.lemmas.List.Elements.{All-nil, All-cons}
use Rattle.std.specs.Prelude.{IfErr, IfOk}
use Rattle.std.specs.declared.result.Result.{Result}
use Rattle.std.specs.declared.result.Result.TheVariants.{Err, Ok}
use Rattle.iox2_machine.specs.declared.errors.LoanError.{LoanError}
use Rattle.iox2_machine.specs.declared.key.Key.{Key}
use Rattle.iox2_machine.specs.machine.State.{Messages}
use Rattle.iox2_domain.specs.Shows.{Shows}
use Rattle.iox2_pubsub.specs.Handles.{as_written}
use Rattle.iox2_pubsub.specs.Live.{A_loan, HasMark, IsLoanKey, IsNewIn, IsWritten, No_item, written_key, written_loan}
use Rattle.iox2_pubsub.specs.WrittenLoans.{DefaultSliceCall}
use Rattle.iox2_pubsub.specs.declared.slice.sample_mut.SampleMut.{SampleMut}
use Rattle.iox2_c.specs.Calls.{RefusesPublisher, loan_made}
use Rattle.iox2_c.specs.Codes.{code_of, loan_code}
use Rattle.iox2_c.specs.Numbers.{named_loan, named_publisher, wide}
use Rattle.iox2_c.specs.Returns.{Lending, LoanReturns}
use Rattle.iox2_c.specs.Serving.{KeptBytes, Serving, ServesBut}
use Rattle.iox2_c.specs.Steps.{BytesState}
use Rattle.iox2_c.specs.declared.numbers.LoanNumbers.{LoanNumbers}
use Rattle.iox2_c.specs.declared.numbers.PublisherNumbers.{PublisherNumbers}
use Rattle.iox2_c.proofs.BecomesSteps.{loan-code-high, moved}

-- what a publisher says of it is said without its handle
pub lent-told : {A : Type 0} (IsByte : ℕ → Type 0) (old new : KeptBytes) (id len : ℕ) (made : Result A LoanError)
    → ((m : Messages ℕ (Unit {0})) (s : BytesState) → Shows old m s
    → (s' : BytesState) × Shows new m s' × DefaultSliceCall IsByte (λ header. Unit {0}) len s id made s')
    → (m : Messages ℕ (Unit {0})) (s : BytesState) → Shows old m s
    → (s' : BytesState) × Shows new m s' × DefaultSliceCall IsByte (λ header. Unit {0}) len s id (loan_made made) s'
lent-told IsByte old new id len (Ok it) told = told
lent-told IsByte old new id len (Err error) told = told

-- bytes of which nothing is asked
pub any-bytes : (bytes : List ℕ) → All (λ byte. Unit {0}) bytes
any-bytes [] = All-nil (λ byte. Unit {0})
any-bytes (byte ∷ bytes) = All-cons (λ byte. Unit {0}) byte bytes tt (any-bytes bytes)

module _ {A : Type 0} (loan_in : A → SampleMut) (Lent : Lending) (numbers : PublisherNumbers) (len : ℕ)
    (old new : Serving) (before after : LoanNumbers) (code : ℕ) where
  -- the publisher was asked, in the domain that was opened and by its id
  pub loan-asked : (inside : KeptBytes) (id : ℕ) (made : Result A LoanError) → inside ≡ old.domain
      → id ≡ wide numbers.id → Lent inside new.domain id len (loan_made made)
      → IfOk made (λ it. IsWritten new.domain (as_written (loan_in it)))
      → IfOk made (λ it. IsNewIn inside (written_loan (as_written (loan_in it)))) → code ≡ code_of loan_code made
      → IfOk made (λ it. named_loan after ≡ written_key (as_written (loan_in it))) → IfErr made (λ _. after ≡ before)
      → ServesBut No_item old new → LoanReturns Lent numbers len old new before after code
  loan-asked inside id (Ok it) same by step written fresh zero named kept stays = record {
    never = λ one. absurd (omega (arith, zero, one));
    lends = λ ok. moved (λ k p. Lent k new.domain p len (Ok tt)) inside old.domain id (wide numbers.id) same by step;
    errors = λ high. absurd (omega (arith, zero, high));
    why = λ high low. absurd (omega (arith, zero, high));
    out = λ ok. record {
      out = subst (IsLoanKey new.domain) (sym named) written.live;
      written = subst (λ (key : Key). HasMark new.domain key.message true) (sym named) written.written;
    };
    fresh = λ ok. subst (λ (key : Key). IsNewIn old.domain (A_loan key.message)) (sym named)
        (subst (λ (k : KeptBytes). IsNewIn k (written_loan (as_written (loan_in it)))) same fresh);
    same = λ high. absurd (omega (arith, zero, high));
    stays = stays;
  }
  loan-asked inside id (Err error) same by step written fresh is named kept stays =
      let high = loan-code-high error in record {
        never = λ one. absurd (omega (arith, is, high, one));
        lends = λ ok. absurd (omega (arith, is, high, ok));
        errors = λ _. (
          error,
          is,
          moved (λ k p. Lent k new.domain p len (Err error)) inside old.domain id (wide numbers.id) same by step,
        );
        why = λ _ low. absurd (omega (arith, is, high, low));
        out = λ ok. absurd (omega (arith, is, high, ok));
        fresh = λ ok. absurd (omega (arith, is, high, ok));
        same = λ _. kept;
        stays = stays;
      }

module _ (Lent : Lending) (numbers : PublisherNumbers) (len : ℕ) (old new : Serving) (before after : LoanNumbers)
    (code : ℕ) where
  -- it wasn't asked, since it may not be
  pub loan-refused : RefusesPublisher old.domain (named_publisher numbers) code → new ≡ old → after ≡ before
      → ServesBut No_item old new → LoanReturns Lent numbers len old new before after code
  loan-refused refuses unchanged kept stays =
      let low : (1 < code) × (code < 10) =
      elim refuses [
        | inl gone ↦ (omega (arith, gone.0), omega (arith, gone.0))
        | inr waits ↦
            (omega (arith, waits.0), omega (arith, waits.0))
      ] in
      let above = low.0 in
      let below = low.1 in record {
        never = λ one. absurd (omega (arith, above, one));
        lends = λ ok. absurd (omega (arith, above, ok));
        errors = λ high. absurd (omega (arith, below, high));
        why = λ _ _. (refuses, unchanged);
        out = λ ok. absurd (omega (arith, above, ok));
        fresh = λ ok. absurd (omega (arith, above, ok));
        same = λ _. kept;
        stays = stays;
      }
