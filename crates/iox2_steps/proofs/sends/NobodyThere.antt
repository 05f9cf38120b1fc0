-- A send to one connection gives the loan back where its publisher has none at that place, or is gone.
use Rattle.std.proofs.Common.{◌≡◌, ℕ, zero, suc, false, Bool, List, [], ◌∷◌, drop, take, get_or, refl, ap, sym, subst}
use Rattle.std.proofs.Common.{◌∙◌, inr, Option, None, Some}
use Rattle.std.proofs.lemmas.Option.{same_Some}
use Rattle.std.specs.Option.{option_map}
use Rattle.std.specs.Prelude.{MatchOption}
use Rattle.std.specs.declared.time.Duration.{Duration}
use Rattle.iox2_machine.specs.machine.Delivery.{Deliver, Complete, Skipped, no_time}
use Rattle.iox2_machine.specs.machine.Loans.{loan_discarded}
use Rattle.iox2_machine.specs.machine.Mailbox.{Mailbox}
use Rattle.iox2_machine.specs.machine.Numbers.{put_at, without}
use Rattle.iox2_machine.specs.machine.Places.{occupant}
use Rattle.iox2_machine.specs.machine.Records.{Environment, Handler, Loan, Publisher}
use Rattle.iox2_machine.specs.machine.Sends.{Delivered_to, Send_error, SendResult, SendToConnection}
use Rattle.iox2_machine.specs.machine.State.{State}
use Rattle.iox2_machine.specs.declared.backpressure.BackpressureAction.{BackpressureAction}
use Rattle.iox2_machine.specs.declared.backpressure.BackpressureStrategy.{BackpressureStrategy}
use Rattle.iox2_machine.specs.declared.errors.SendError.TheVariants.{ConnectionBrokenSinceSenderNoLongerExists}
use Rattle.iox2_machine.specs.declared.service_config.ServiceConfig.{ServiceConfig}
use Rattle.iox2_connections.specs.LookUp.{look_up}
use Rattle.iox2_connections.specs.Mailboxes.{sender_ends, subscriber_of_key}
use Rattle.iox2_connections.proofs.MailboxChanges.{put_at-own}
use Rattle.iox2_laws.proofs.Cases.{match_some}
use Rattle.iox2_domain.specs.ConnectionSends.{SendsKeptLoanTo}
use Rattle.iox2_domain.specs.Discards.{DiscardsLoan}
use Rattle.iox2_domain.specs.Fields.{Fields, kept_of, publisher_of}
use Rattle.iox2_domain.specs.Invariant.{IsDomain, is_publisher}
use Rattle.iox2_domain.specs.Kept.{state_of}
use Rattle.iox2_domain.specs.LoanCalls.{HoldsWritten}
use Rattle.iox2_domain.specs.Ports.{PublisherFields}
use Rattle.iox2_domain.proofs.lemmas.fields.ConnectionEnds.{publisher-stands}
use Rattle.iox2_domain.proofs.lemmas.fields.Views.{unblocked}
use Rattle.iox2_domain.proofs.lemmas.slots.LeftConnections.{unknown, stands-nowhere}

module _ (environment : Environment) (c : ServiceConfig) (p : ℕ) (strategy : BackpressureStrategy)
    (handler : Option (Handler BackpressureAction)) (buffers : ℕ → Option ℕ) (n channel : ℕ) where
  -- nobody gets the message
  delivers-nowhere : (retries : ℕ) (elapsed : Duration) (at : ℕ) (whole : List (Option ℕ)) (place count : ℕ)
      (has_failed : Bool) (boxes : ℕ → Mailbox) → occupant whole place ≡ None
      → Deliver environment c p strategy handler buffers n channel retries elapsed at
      (take 1 (drop place whole)) 0 false boxes (Complete 0 false) boxes
  delivers-nowhere retries elapsed at [] zero count has_failed boxes none = (refl, refl)
  delivers-nowhere retries elapsed at [] (suc place) count has_failed boxes none = (refl, refl)
  delivers-nowhere retries elapsed at (None ∷ rest) zero count has_failed boxes none =
      (Skipped, boxes, (refl, refl), (refl, refl))
  delivers-nowhere retries elapsed at (Some q ∷ rest) zero count has_failed boxes none = absurd cc
  delivers-nowhere retries elapsed at (end ∷ rest) (suc place) count has_failed boxes none =
      delivers-nowhere retries elapsed at rest place count has_failed boxes none

-- so the loan goes to nobody
pub nobody-there : {T U : Type 0} (environment : Environment) (s : State T U) (n : ℕ) (l : Loan T U) (channel place : ℕ)
    (x : Publisher) → s.publishers l.publisher ≡ Some x → x.blocked ≡ None
    → occupant x.ends place ≡ None
    → SendToConnection environment s n l channel place (loan_discarded s n l) (Delivered_to 0)
nobody-there {T} {U} environment s n l channel place x here free none =
    match_some (s.publishers l.publisher) x _ _ here
    (match_some (s.publishers l.publisher) x _ _ here (
      Complete 0 false,
      s.mailboxes l.publisher,
      delivers-nowhere environment s.config l.publisher x.backpressure_strategy x.backpressure_handler _ n channel 0
          no_time place x.ends place 0 false (s.mailboxes l.publisher) none,
      (left, refl),
    ))
  where
    -- it is no longer out, and its publisher isn't blocked, as it wasn't before
    ends : option_map (λ (v : Publisher). record v { loans = without n v.loans }) (s.publishers l.publisher)
        ≡ option_map (λ (v : Publisher). record v { loans = without n v.loans; blocked = None })
        (s.publishers l.publisher)
    ends = ap (option_map (λ (v : Publisher). record v { loans = without n v.loans })) here
        ∙ (λ t. Some (record x { loans = without n x.loans; blocked = free t }))
        ∙ sym (ap (option_map (λ (v : Publisher). record v { loans = without n v.loans; blocked = None })) here)

    left : loan_discarded s n l ≡ record s {
      publishers = put_at s.publishers l.publisher
          (option_map (λ (v : Publisher). record v { loans = without n v.loans; blocked = None })
          (s.publishers l.publisher));
      mailboxes = put_at s.mailboxes l.publisher (s.mailboxes l.publisher);
      loans = put_at s.loans n None;
    }
    left = λ t. record s {
      publishers = put_at s.publishers l.publisher (ends t);
      mailboxes = put_at-own s.mailboxes l.publisher t;
      loans = put_at s.loans n None;
    }

-- of a publisher that is gone it is lost
pub lost-there : {T U : Type 0} (environment : Environment) (s : State T U) (n : ℕ) (l : Loan T U) (channel place : ℕ)
    → s.publishers l.publisher ≡ None
    → SendToConnection environment s n l channel place (loan_discarded s n l)
    (Send_error ConnectionBrokenSinceSenderNoLongerExists)
lost-there {T} {U} environment s n l channel place gone =
    match_none (s.publishers l.publisher) _ _ gone (same, refl)
  where
    match_none : (o : Option Publisher) (P : Type 0) (Q : Publisher → Type 0) → o ≡ None → P → MatchOption o P Q
    match_none o P Q e p = subst (λ (v : Option Publisher). MatchOption v P Q) (sym e) p

    nobody : option_map (λ (v : Publisher). record v { loans = without n v.loans })
        (s.publishers l.publisher) ≡ s.publishers l.publisher
    nobody = ap (option_map (λ (v : Publisher). record v { loans = without n v.loans })) gone ∙ sym gone

    same : loan_discarded s n l ≡ record s { loans = put_at s.loans n None }
    same =
        λ t. record s {
          publishers = (ap (put_at s.publishers l.publisher) nobody
              ∙ sym (put_at-own s.publishers l.publisher)) t;
          loans = put_at s.loans n None;
        }

module _ {T U : Type 0} (environment : Environment) (f g : Fields T U) (sound : IsDomain f) (p n channel connection : ℕ)
    (holds : HoldsWritten (state_of (kept_of f)) p n) (d : DiscardsLoan f g n) where
  sends-discarded : (result : SendResult) → SendToConnection environment (state_of (kept_of f)) n d.0 channel connection
      (loan_discarded (state_of (kept_of f)) n d.0) result → SendsKeptLoanTo environment f g n channel connection result
  sends-discarded result sends = record {
    loan = d.0;
    out = d.1;
    agrees = d.2.agrees;
    sends = subst (λ (t : State T U).
        SendToConnection environment (state_of (kept_of f)) n d.0 channel connection t result) (sym d.2.state) sends;
    entries = λ m entry e. inr (d.2.entries m entry e);
    places = d.2.places;
    lost = λ error other failed m entry e. d.2.entries m entry e;
  }

  its : d.0.publisher ≡ p
  its = ap (λ (l : Loan T U). l.publisher) (same_Some d.0 holds.0 (sym d.1 ∙ holds.1)) ∙ holds.2

  -- a loan that is given back was sent to nobody, where its publisher has no such connection
  pub discard-sends-none : (i : ℕ) (x : PublisherFields) → get_or f.publishers i None ≡ Some x → x.id ≡ p
      → x.blocked ≡ None → get_or x.keys connection None ≡ None
      → SendsKeptLoanTo environment f g n channel connection (Delivered_to 0)
  discard-sends-none i x here mine free none =
      sends-discarded (Delivered_to 0)
      (nobody-there environment (state_of (kept_of f)) n d.0 channel connection
      (publisher_of f.books f.connections x).port
      (ap (state_of (kept_of f)).publishers (its ∙ sym mine) ∙ publisher-stands f sound.parts i x here)
      (unblocked f.books f.connections x free)
      (no-end x.keys connection none))
    where
      no-end : (keys : List (Option ℕ)) (place : ℕ) → get_or keys place None ≡ None
          → occupant (sender_ends f.connections keys) place ≡ None
      no-end [] place e = refl
      no-end (k ∷ rest) zero e = ap (subscriber_of_key f.connections) e
      no-end (k ∷ rest) (suc place) e = no-end rest place e

  -- it was lost, where its publisher is gone
  pub discard-sends-lost : look_up (is_publisher p) f.publishers ≡ None
      → SendsKeptLoanTo environment f g n channel connection (Send_error ConnectionBrokenSinceSenderNoLongerExists)
  discard-sends-lost none =
      sends-discarded (Send_error ConnectionBrokenSinceSenderNoLongerExists)
      (lost-there environment (state_of (kept_of f)) n d.0 channel connection
      (ap (state_of (kept_of f)).publishers its ∙ unknown f p (stands-nowhere f.publishers p none)))
