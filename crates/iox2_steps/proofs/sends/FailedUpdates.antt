-- A send before which the publisher's update fails: the loan is given back, and no message was sent.
use Rattle.std.proofs.Common.{◌≡◌, ℕ, refl, ap, sym, subst, ◌∙◌, inr, None}
use Rattle.std.specs.declared.option.Option.{Option}
use Rattle.std.specs.declared.option.Option.TheVariants.{Some}
use Rattle.iox2_machine.specs.machine.Loans.{loan_discarded}
use Rattle.iox2_machine.specs.machine.Numbers.{put_at}
use Rattle.iox2_machine.specs.machine.PublisherUpdate.{UpdatePublisher}
use Rattle.iox2_machine.specs.machine.Records.{Loan, Environment}
use Rattle.iox2_machine.specs.machine.Sends.{Send_error}
use Rattle.iox2_machine.specs.machine.SingleCalls.{HoldsLoan}
use Rattle.iox2_machine.specs.machine.State.{State}
use Rattle.iox2_machine.specs.declared.errors.ConnectionFailure.{ConnectionFailure}
use Rattle.iox2_machine.specs.declared.errors.SendError.TheVariants.{ConnectionError}
use Rattle.iox2_laws.proofs.PublisherUpdates.{update_publisher_leaves}
use Rattle.iox2_domain.specs.Connects.{UpdatesKeptPublisher}
use Rattle.iox2_domain.specs.Discards.{DiscardsLoan}
use Rattle.iox2_domain.specs.Fields.{Fields, kept_of, publisher_of}
use Rattle.iox2_domain.specs.Invariant.{IsDomain}
use Rattle.iox2_domain.specs.Kept.{state_of}
use Rattle.iox2_domain.specs.LoanCalls.{HoldsWritten}
use Rattle.iox2_domain.specs.Ports.{PublisherFields}
use Rattle.iox2_domain.specs.SentLoans.{IsNotUpdated, SendsKeptLoan}
use Rattle.iox2_domain.proofs.lemmas.fields.ConnectionEnds.{publisher-stands}
use Rattle.iox2_laws.proofs.Cases.{match_some}
use Rattle.iox2_domain.proofs.lemmas.fields.PlacesKept.{places-then}

module _ {T U : Type 0} (environment : Environment) (f0 : Fields T U) (sound : IsDomain f0) (p n : ℕ)
    (holds : HoldsWritten (state_of (kept_of f0)) p n)
    (place : ℕ) (failure : ConnectionFailure) (f1 : Fields T U)
    (fails : IsNotUpdated environment f0 f1 p place failure) where
  abbrev sender : PublisherFields
  sender = fails.publisher

  abbrev s0 : State T U
  s0 = state_of (kept_of f0)

  u : UpdatesKeptPublisher environment f0 place sender f1 (Some failure)
  u = fails.updated

  stands : s0.publishers sender.id ≡ Some ((publisher_of f0.books f0.connections sender).port)
  stands = publisher-stands f0 sound.parts place sender fails.stands

  pub failed-agrees : IsDomain f1
  failed-agrees = u.reaches.agrees

  loans-are : (state_of (kept_of f1)).loans ≡ s0.loans
  loans-are = ap (λ (s : State T U). s.loans) u.reaches.state
      ∙ (update_publisher_leaves environment s0 sender.id u.after (Some failure) _ stands u.updates).5

  still-out : (state_of (kept_of f1)).loans n ≡ Some holds.0
  still-out = ap (λ (loans : ℕ → Option (Loan T U)). loans n) loans-are ∙ holds.1

  -- the loan is still out
  pub failed-holds : HoldsLoan (state_of (kept_of f1)) p n
  failed-holds = (holds.0, still-out, holds.2)

  -- the whole send, where the loan is given back then
  pub failed-sends : (f2 : Fields T U) → DiscardsLoan f1 f2 n
      → SendsKeptLoan environment f0 f2 n (Send_error (ConnectionError failure))
  failed-sends f2 d = record {
    loan = holds.0;
    out = holds.1;
    agrees = (d.2).agrees;
    sends =
        match_some (s0.publishers holds.0.publisher) _ _ _ (ap s0.publishers (holds.2 ∙ sym fails.is_its) ∙ stands) (
          u.after,
          Some failure,
          subst (λ (q : ℕ). UpdatePublisher environment s0 q u.after (Some failure))
              (fails.is_its ∙ sym holds.2) u.updates,
          ((d.2).state ∙ (λ k. loan_discarded (u.reaches.state k) n (same k)), refl),
        );
    loans = ap (λ (s : State T U). s.loans) (d.2).state
        ∙ ap (λ (loans : ℕ → Option (Loan T U)). put_at loans n None) loans-are;
    entries = λ m entry e. inr (u.reaches.entries m entry ((d.2).entries m entry e));
    places = places-then u.reaches.places (d.2).places;
    lost = λ error other is m entry e. u.reaches.entries m entry ((d.2).entries m entry e);
    unfailed = λ quiet failed. absurd cc;
  }
    where
      same : d.0 ≡ holds.0
      same = let both : Some d.0 ≡ Some holds.0 = sym d.1 ∙ still-out in cc
