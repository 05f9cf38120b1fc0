-- A loan is sent: update, delivery and the end of the send, one after the other.
use Rattle.std.proofs.Common.{◌≡◌, ◌≢◌, ℕ, Bool, true, false, cond, refl, get_or, ap, sym, subst, ◌∙◌, inl, inr, arith}
use Rattle.std.proofs.lemmas.Bool.{eq-eqb}
use Rattle.std.proofs.lemmas.List.{get_or-set_same}
use Rattle.std.specs.declared.option.Option.{Option}
use Rattle.std.specs.declared.option.Option.TheVariants.{None, Some}
use Rattle.slab.specs.Slab.{get}
use Rattle.iox2_machine.specs.machine.Numbers.{put_at}
use Rattle.iox2_machine.specs.machine.PublisherUpdate.{UpdatePublisher}
use Rattle.iox2_machine.specs.machine.Records.{Loan, Environment}
use Rattle.iox2_machine.specs.machine.Sends.{Publish, Delivered_to, Blocked_send, Send_error}
use Rattle.iox2_machine.specs.machine.Delivery.{no_time}
use Rattle.iox2_machine.specs.declared.errors.SendError.{SendError}
use Rattle.iox2_machine.specs.declared.errors.SendError.TheVariants.{UnableToDeliver}
use Rattle.iox2_machine.specs.machine.SingleCalls.{HoldsLoan}
use Rattle.iox2_machine.specs.machine.State.{State}
use Rattle.iox2_connections.specs.Counters.{times}
use Rattle.iox2_connections.specs.Deliveries.{begun}
use Rattle.iox2_connections.specs.declared.sender.DeliveryOutcome.{DeliveryOutcome}
use Rattle.iox2_connections.proofs.MailboxChanges.{within_if_some}
use Rattle.iox2_laws.proofs.PublisherUpdates.{update_publisher_leaves}
use Rattle.iox2_domain.specs.Connects.{UpdatesKeptPublisher}
use Rattle.iox2_domain.specs.Deliveries.{CanSend, SendsSlot, result_of_delivery}
use Rattle.iox2_domain.specs.Fields.{Fields, kept_of, publisher_of}
use Rattle.iox2_domain.specs.Handlers.{may_fail}
use Rattle.iox2_domain.specs.Invariant.{IsDomain}
use Rattle.iox2_domain.specs.Kept.{Lent_message, state_of}
use Rattle.iox2_domain.specs.LoanCalls.{HoldsWritten}
use Rattle.iox2_domain.specs.LoanSlots.{LiesInSlot}
use Rattle.iox2_domain.specs.Ports.{PublisherFields}
use Rattle.iox2_domain.specs.SentLoans.{SendsKeptLoan, IsReadyToSend}
use Rattle.iox2_domain.proofs.lemmas.fields.ConnectionEnds.{publisher-stands}
use Rattle.iox2_steps.proofs.sends.LoanAlone.{loan-once, loan-alone, loan-own}
use Rattle.iox2_domain.proofs.lemmas.slots.Messages.{lies_at, message_at-slot}
use Rattle.iox2_steps.proofs.sends.DeliverySteps.{never-fails}
use Rattle.iox2_steps.proofs.sends.Published.{send-publishes}
use Rattle.iox2_steps.proofs.sends.Publishing.{Publishes}
use Rattle.iox2_domain.proofs.lemmas.loans.LoanSlots.{book-its}
use Rattle.iox2_steps.proofs.updates.SenderUpdates.{idle-updates}
use Rattle.iox2_laws.proofs.Cases.{match_some}
use Rattle.iox2_domain.proofs.lemmas.fields.PlacesKept.{places-then}

-- a loan that lies in its publisher's book may be sent at once where the publisher isn't due
pub ready-in-book : {T U : Type 0} (environment : Environment) (f : Fields T U) → IsDomain f → (p n place key slot : ℕ)
    → (x : PublisherFields) → get_or f.publishers place None ≡ Some x → x.is_due ≡ false → x.book ≡ key
    → LiesInSlot f p n key slot → IsReadyToSend environment f f p n place slot
ready-in-book {T} {U} environment f sound p n place key slot x stands idle same lies =
    let its : LiesInSlot f p n x.book slot = subst (λ (k : ℕ). LiesInSlot f p n k slot) (sym same) lies in
    record {
      publisher = x;
      stands = stands;
      is_its = sym (book-its f sound place x its.book stands its.stands) ∙ its.is_its;
      updated = idle-updates environment f sound place x stands idle;
      key = x.book;
      lies = its;
    }

module _ {T U : Type 0} (environment : Environment) (f0 : Fields T U) (sound : IsDomain f0) (p n place : ℕ)
    (holds : HoldsWritten (state_of (kept_of f0)) p n)
    (found : (x : PublisherFields) × (get_or f0.publishers place None ≡ Some x) × (x.id ≡ p))
    (free : (found.0).blocked ≡ None)
    (f1 : Fields T U) (u : UpdatesKeptPublisher environment f0 place found.0 f1 None) where
  -- the publisher after its update
  abbrev sender : PublisherFields
  sender = record found.0 { keys = u.keys; key_room = u.key_room; is_due = false }

  pub sender-stands : get_or f1.publishers place None ≡ Some sender
  sender-stands = ap (λ (f : Fields T U). get_or f.publishers place None) u.fields
      ∙ get_or-set_same f0.publishers place (Some sender) None (within_if_some f0.publishers place found.0 found.1)

  pub updated-agrees : IsDomain f1
  updated-agrees = u.reaches.agrees

  present : (state_of (kept_of f0)).publishers p ≡ Some ((publisher_of f0.books f0.connections found.0).port)
  present = ap (state_of (kept_of f0)).publishers (sym found.2) ∙ publisher-stands f0 sound.parts place found.0 found.1

  loans-are : (state_of (kept_of f1)).loans ≡ (state_of (kept_of f0)).loans
  loans-are = ap (λ (s : State T U). s.loans) u.reaches.state
      ∙ (update_publisher_leaves environment (state_of (kept_of f0)) found.0.id u.after None _
      (publisher-stands f0 sound.parts place found.0 found.1) u.updates).5

  still-out : (state_of (kept_of f1)).loans n ≡ Some holds.0
  still-out = ap (λ (loans : ℕ → Option (Loan T U)). loans n) loans-are ∙ holds.1

  -- the loan is still out
  pub still-holds : HoldsLoan (state_of (kept_of f1)) p n
  still-holds = (holds.0, still-out, holds.2)

  module _ (key slot : ℕ) (at : LiesInSlot f1 p n key slot) where
    loan-same : at.loan ≡ holds.0
    loan-same = let both : Some at.loan ≡ Some holds.0 = sym at.is_out ∙ still-out in cc

    key-is : key ≡ sender.book
    key-is =
        let has = updated-agrees.parts.books.publishers place sender sender-stands in
        (updated-agrees.parts.books.one_each p).one key sender.book at.book has.book at.stands has.stands
        (eq-eqb (at.book).publisher p at.is_its) (eq-eqb (has.book).publisher p (has.is_its ∙ found.2))

    lies : lies_at f1 sender.book slot ≡ Some (Lent_message n holds.0)
    lies = sym (ap (λ k. lies_at f1 k slot) key-is) ∙ message_at-slot f1.contents f1.books key slot at.book at.stands
        ∙ at.lies ∙ ap (λ (l : Loan T U). Some (Lent_message n l)) loan-same

    -- it may be sent
    pub can-send : CanSend f1 sender slot
    can-send =
        let stands : get f1.books sender.book ≡ Some at.book = ap (get f1.books) (sym key-is) ∙ at.stands in
        record {
          book = at.book;
          stands = stands;
          own = loan-own f1 updated-agrees place sender sender-stands slot n holds.0 lies at.book stands;
          alone = loan-alone f1 updated-agrees place sender sender-stands slot n holds.0 lies at.book stands;
          once = let once : times slot sender.loans
              ≡ 1 = loan-once f1 updated-agrees place sender sender-stands slot n holds.0 lies in omega (arith, once);
        }

    -- the whole send
    pub sends-loan : (outcome : DeliveryOutcome) (f2 : Fields T U)
        → ((x : PublisherFields) → get_or f1.publishers place None ≡ Some x
        → SendsSlot environment f1 place x slot outcome f2)
        → SendsKeptLoan environment f0 f2 n (result_of_delivery outcome)
    sends-loan outcome f2 sends = record {
      loan = holds.0;
      out = holds.1;
      agrees = published.agrees;
      sends = match_some ((state_of (kept_of f0)).publishers holds.0.publisher) _ _ _
          (ap (state_of (kept_of f0)).publishers holds.2 ∙ present) (
            u.after,
            None,
            subst (λ (q : ℕ). UpdatePublisher environment (state_of (kept_of f0)) q u.after None)
                (found.2 ∙ sym holds.2) u.updates,
            subst (λ (q : ℕ). Publish environment u.after q n (state_of (kept_of f2)) (result_of_delivery outcome))
                (found.2 ∙ sym holds.2)
                (subst (λ (s : State T U). Publish environment s sender.id n (state_of (kept_of f2))
                (result_of_delivery outcome)) u.reaches.state published.publishes),
          );
      loans = published.loans ∙ ap (λ (loans : ℕ → Option (Loan T U)). put_at loans n None) loans-are;
      entries = λ m entry e. elim (published.entries m entry e) [
        | inl new ↦ inl new
        | inr old ↦ inr (u.reaches.entries m entry old)
      ];
      places = places-then u.reaches.places published.places;
      lost = λ error other failed. absurd (goes outcome error other failed);
      unfailed =
          λ quiet failed. fails outcome refl (quiet _ (ap (state_of (kept_of f0)).publishers holds.2 ∙ present)) failed;
    }
      where
        d : SendsSlot environment f1 place sender slot outcome f2
        d = sends sender sender-stands

        -- nothing but a handler fails a send that was begun
        goes : (o : DeliveryOutcome) (error : SendError) → error ≢ UnableToDeliver
            → result_of_delivery o ≡ Send_error error → ⊥
        goes (DeliveryOutcome.Suspended progress) error other failed =
            absurd (let no : Blocked_send ≡ Send_error error = failed in cc)
        goes (DeliveryOutcome.Complete count true) error other failed =
            other (let same : Send_error UnableToDeliver ≡ Send_error error = failed in cc)
        goes (DeliveryOutcome.Complete count false) error other failed =
            absurd (let no : Delivered_to count ≡ Send_error error = failed in cc)

        -- and the publisher's own doesn't, where it fails none
        fails : (o : DeliveryOutcome) → outcome ≡ o → may_fail sender.backpressure_handler ≡ false
            → result_of_delivery o ≡ Send_error UnableToDeliver → ⊥
        fails (DeliveryOutcome.Suspended progress) is quiet failed =
            absurd (let no : Blocked_send ≡ Send_error UnableToDeliver = failed in cc)
        fails (DeliveryOutcome.Complete count has_failed) is quiet failed =
            let none : has_failed ≡ false =
            never-fails environment f1 sender 0 sender.keys slot begun no_time outcome d.delivered d.delivers quiet refl
            count has_failed is in
            absurd (let no : Delivered_to count ≡ Send_error UnableToDeliver = sym
            (ap (λ (t : Bool). cond t (Send_error UnableToDeliver) (Delivered_to count)) none) ∙ failed in cc)

        published : Publishes environment f1 f2 sender.id n holds.0 (result_of_delivery outcome)
        published = send-publishes environment f1 updated-agrees place sender sender-stands slot n holds.0 lies holds.3
            free outcome f2 d
