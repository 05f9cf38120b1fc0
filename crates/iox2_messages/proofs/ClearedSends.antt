-- A send before which a publisher does what it is due for.
use Rattle.std.proofs.Common.{◌≡◌, ℕ, Option, None, Some, false, slice_index_or, ap, sym, subst, ◌∙◌, inl, inr}
use Rattle.iox2_machine.specs.machine.Numbers.{put_at}
use Rattle.iox2_machine.specs.machine.Records.{Environment}
use Rattle.iox2_machine.specs.machine.Sends.{Send, SendResult, Send_error}
use Rattle.iox2_machine.specs.machine.SingleCalls.{HoldsLoan}
use Rattle.iox2_machine.specs.machine.State.{State, is_blocked}
use Rattle.iox2_machine.specs.declared.errors.ConnectionFailure.{ConnectionFailure}
use Rattle.iox2_machine.specs.declared.errors.SendError.TheVariants.{ConnectionError}
use Rattle.iox2_connections.specs.declared.sender.DeliveryOutcome.{DeliveryOutcome}
use Rattle.iox2_domain.specs.Connects.{UpdatesKeptPublisher}
use Rattle.iox2_domain.specs.Deliveries.{CanSend, SendsSlot, result_of_delivery}
use Rattle.iox2_domain.specs.Discards.{DiscardsLoan}
use Rattle.iox2_domain.specs.Fields.{Fields, kept_of}
use Rattle.iox2_domain.specs.Invariant.{IsDomain}
use Rattle.iox2_domain.specs.Kept.{state_of}
use Rattle.iox2_domain.specs.LoanCalls.{HoldsWritten}
use Rattle.iox2_domain.specs.LoanSlots.{LiesInSlot}
use Rattle.iox2_domain.specs.Ports.{PublisherFields}
use Rattle.iox2_domain.specs.Reaches.{Reaches}
use Rattle.iox2_domain.specs.SentLoans.{IsNotUpdated, IsReadyToSend, SendsKeptLoan}
use Rattle.iox2_domain.proofs.lemmas.fields.ConnectionEnds.{free-of}
use Rattle.iox2_domain.proofs.lemmas.fields.PlacesKept.{places-then}
use Rattle.iox2_messages.specs.CatchingUp.{BehindClearing, CatchesUp}
use Rattle.iox2_steps.proofs.sends.FailedUpdates.{failed-agrees, failed-holds, failed-sends}
use Rattle.iox2_steps.proofs.sends.SendSteps.{can-send, sender-stands, sends-loan, still-holds, updated-agrees}

-- ---- from some fields on in which nothing changed that can be seen

module _ {T U : Type 0} (f middle : Fields T U) (reached : Reaches f middle (state_of (kept_of f))) (p n : ℕ) where
  -- the loan is still out
  pub holds-behind : HoldsWritten (state_of (kept_of f)) p n → HoldsWritten (state_of (kept_of middle)) p n
  holds-behind holds = subst (λ (s : State T U). HoldsWritten s p n) (sym reached.state) holds

  -- no send waits
  pub free-behind : is_blocked (state_of (kept_of f)) p ≡ false → is_blocked (state_of (kept_of middle)) p ≡ false
  free-behind free = ap (λ (s : State T U). is_blocked s p) reached.state ∙ free

  -- and what is sent then, is sent by the whole
  pub sends-behind : (environment : Environment) (new : Fields T U) (result : SendResult)
      → SendsKeptLoan environment middle new n result → SendsKeptLoan environment f new n result
  sends-behind environment new result sent = record {
    loan = sent.loan;
    out = ap (λ (s : State T U). s.loans n) (sym reached.state) ∙ sent.out;
    agrees = sent.agrees;
    sends = subst
        (λ (s : State T U). Send environment s n sent.loan (state_of (kept_of new)) result) reached.state sent.sends;
    loans = sent.loans ∙ ap (λ (s : State T U). put_at s.loans n None) reached.state;
    entries = λ m entry e. elim (sent.entries m entry e) [
      | inl own ↦ inl own
      | inr kept ↦ inr (reached.entries m entry kept)
    ];
    places = places-then reached.places sent.places;
    lost = λ error other is m entry e. reached.entries m entry (sent.lost error other is m entry e);
    unfailed = λ quiet. sent.unfailed
        (λ x at. quiet x (ap (λ (s : State T U). s.publishers sent.loan.publisher) (sym reached.state) ∙ at));
  }

module _ {T U : Type 0} (environment : Environment) (f : Fields T U) (p n : ℕ)
    (holds : HoldsWritten (state_of (kept_of f)) p n)
    (free : is_blocked (state_of (kept_of f)) p ≡ false) where
  -- ---- where the publisher has caught up

  module _ (sound : IsDomain f) (place : ℕ)
      (found : (x : PublisherFields) × (slice_index_or f.publishers place None ≡ Some x) × (x.id ≡ p))
      (g : Fields T U) (failure : Option ConnectionFailure)
      (caught : CatchesUp environment f place found.0 g failure) where
    abbrev middle : Fields T U
    middle = caught.middle

    stands : slice_index_or middle.publishers place None ≡ Some found.0
    stands = ap (λ xs. slice_index_or xs place None) caught.same ∙ found.1

    unblocked : (found.0).blocked ≡ None
    unblocked = free-of f sound.parts p place found.0 found.1 found.2 free

    updates : (reason : Option ConnectionFailure) → failure ≡ reason
        → UpdatesKeptPublisher environment middle place found.0 g reason
    updates reason is = subst (UpdatesKeptPublisher environment middle place found.0 g) is caught.updates

    -- but for the update
    pub caught-failed : (reason : ConnectionFailure) → failure ≡ Some reason
        → BehindClearing f (λ middle. IsNotUpdated environment middle g p place reason)
    caught-failed reason is = (
      middle,
      caught.reaches,
      record { publisher = found.0; stands = stands; is_its = found.2; updated = updates (Some reason) is },
    )

    module _ (well : failure ≡ None) where
      abbrev still : HoldsWritten (state_of (kept_of middle)) p n
      still = holds-behind f middle caught.reaches p n holds

      pub caught-agrees : IsDomain g
      caught-agrees = updated-agrees environment middle caught.reaches.agrees p n place still
          (found.0, stands, found.2) unblocked g (updates None well)

      pub caught-holds : HoldsLoan (state_of (kept_of g)) p n
      caught-holds = still-holds environment middle caught.reaches.agrees p n place still
          (found.0, stands, found.2) unblocked g (updates None well)

      pub caught-ready : (key slot : ℕ) → LiesInSlot g p n key slot
          → BehindClearing f (λ middle. IsReadyToSend environment middle g p n place slot)
      caught-ready key slot lies = (
        middle,
        caught.reaches,
        record {
          publisher = found.0;
          stands = stands;
          is_its = found.2;
          updated = updates None well;
          key = key;
          lies = lies;
        },
      )

  -- ---- then it sends

  module _ (g : Fields T U) (place slot : ℕ)
      (ready : BehindClearing f (λ middle. IsReadyToSend environment middle g p n place slot)) where
    abbrev before : Fields T U
    before = ready.0

    abbrev r : IsReadyToSend environment before g p n place slot
    r = ready.2

    still-out : HoldsWritten (state_of (kept_of before)) p n
    still-out = holds-behind f before (ready.1) p n holds

    waits_not : (r.publisher).blocked ≡ None
    waits_not = free-of before (ready.1).agrees.parts p place r.publisher r.stands r.is_its
        (free-behind f before (ready.1) p n free)

    pub ready-agrees : IsDomain g
    ready-agrees = updated-agrees environment before (ready.1).agrees p n place still-out
        (r.publisher, r.stands, r.is_its) waits_not g r.updated

    pub ready-can : (x : PublisherFields) × (slice_index_or g.publishers place None ≡ Some x) × CanSend g x slot
    ready-can = (
      _,
      sender-stands environment before (ready.1).agrees p n place still-out
          (r.publisher, r.stands, r.is_its) waits_not g r.updated,
      can-send environment before (ready.1).agrees p n place still-out
          (r.publisher, r.stands, r.is_its) waits_not g r.updated r.key slot r.lies,
    )

    pub ready-sends : (outcome : DeliveryOutcome) (new : Fields T U)
        → ((x : PublisherFields) → slice_index_or g.publishers place None ≡ Some x
        → SendsSlot environment g place x slot outcome new)
        → SendsKeptLoan environment f new n (result_of_delivery outcome)
    ready-sends outcome new sends =
        sends-behind f before (ready.1) p n environment new (result_of_delivery outcome)
        (sends-loan environment before (ready.1).agrees p n place still-out
        (r.publisher, r.stands, r.is_its) waits_not g r.updated r.key slot r.lies outcome new sends)

  -- ---- or gives the loan back, where its connections couldn't be updated

  module _ (g : Fields T U) (place : ℕ) (failure : ConnectionFailure)
      (fails : BehindClearing f (λ middle. IsNotUpdated environment middle g p place failure)) where
    abbrev at_failure : HoldsWritten (state_of (kept_of fails.0)) p n
    at_failure = holds-behind f fails.0 (fails.1) p n holds

    pub unmet-agrees : IsDomain g
    unmet-agrees = failed-agrees environment fails.0 (fails.1).agrees p n at_failure place failure g (fails.2)

    pub unmet-holds : HoldsLoan (state_of (kept_of g)) p n
    unmet-holds = failed-holds environment fails.0 (fails.1).agrees p n at_failure place failure g (fails.2)

    pub unmet-sends : (new : Fields T U) → DiscardsLoan g new n
        → SendsKeptLoan environment f new n (Send_error (ConnectionError failure))
    unmet-sends new discards =
        sends-behind f fails.0 (fails.1) p n environment new (Send_error (ConnectionError failure))
        (failed-sends environment fails.0 (fails.1).agrees p n at_failure place failure g (fails.2) new discards)
