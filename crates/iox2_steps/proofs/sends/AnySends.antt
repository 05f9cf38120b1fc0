-- A send, a retry and giving up in one environment are so in another in which the publisher's box may answer as much.
use Rattle.std.proofs.Common.{◌≡◌, ◌∙◌, refl, sym, subst, ℕ, ◌+◌, Bool, false, List, [], ◌∷◌, ◌++◌, drop}
use Rattle.std.specs.Prelude.{MatchOption}
use Rattle.std.specs.Option.{option_map}
use Rattle.std.specs.declared.option.Option.{Option}
use Rattle.std.specs.declared.option.Option.TheVariants.{None, Some}
use Rattle.std.specs.declared.time.Duration.{Duration}
use Rattle.iox2_machine.specs.machine.Delivery.{Deliver, DeliveryEnd, no_time}
use Rattle.iox2_machine.specs.machine.Loans.{loan_discarded}
use Rattle.iox2_machine.specs.machine.Mailbox.{Mailbox}
use Rattle.iox2_machine.specs.machine.Numbers.{last_n}
use Rattle.iox2_machine.specs.machine.PublisherUpdate.{UpdatePublisher}
use Rattle.iox2_machine.specs.machine.Records.{BlockedSend, Environment, Loan, Publisher}
use Rattle.iox2_machine.specs.machine.Sends.{SendResult, Send_error, DeliverAndConclude, ConcludeSend, Publish, Send}
use Rattle.iox2_machine.specs.machine.Sends.{Retry, GiveUp, published, with_mailboxes, more_retries}
use Rattle.iox2_machine.specs.machine.State.{State, channel_buffer, with_loan}
use Rattle.iox2_machine.specs.declared.errors.ConnectionFailure.{ConnectionFailure}
use Rattle.iox2_machine.specs.declared.errors.SendError.TheVariants.{ConnectionBrokenSinceSenderNoLongerExists}
use Rattle.iox2_machine.specs.declared.errors.SendError.TheVariants.{ConnectionError}
use Rattle.iox2_laws.specs.Sendings.{sending}
use Rattle.iox2_laws.proofs.Puts.{put_at-same}
use Rattle.iox2_connections.proofs.AnyEnvironment.{AllowsAsMuch, Deliver-any}
use Rattle.iox2_steps.proofs.updates.AnyBoxes.{AllowsUpdates, update-alike}

module _ {T U : Type 0} (e e' : Environment) where
  -- The box of p, where it has one, may answer as much in the second environment.
  abbrev pub MayAnswerAsMuch : State T U → ℕ → Type 0
  MayAnswerAsMuch s p = (x : Publisher) → s.publishers p ≡ Some x → AllowsAsMuch e e' p x.backpressure_handler

  module _ (p n channel retries : ℕ) (elapsed : Duration) (place : ℕ) (ends : List (Option ℕ)) (count : ℕ)
      (has_failed : Bool) (s s' : State T U) (result : SendResult) where
    -- what is delivered and concluded of the publisher x
    abbrev Concludes : Environment → Publisher → Type 0
    Concludes environment x = (how : DeliveryEnd) × (boxes : ℕ → Mailbox)
        × Deliver environment s.config p x.backpressure_strategy x.backpressure_handler (channel_buffer s p channel) n
        channel retries elapsed place ends count has_failed (s.mailboxes p) how boxes
        × ConcludeSend (with_mailboxes s p boxes) p n how s' result

    pub concludes-alike : MayAnswerAsMuch s p → DeliverAndConclude e s p
        (sending n channel retries place ends count has_failed) elapsed s' result
        → DeliverAndConclude e' s p (sending n channel retries place ends count has_failed) elapsed s' result
    concludes-alike allows h = by (s.publishers p) (λ x is. allows x is) h where
      by : (o : Option Publisher) → ((x : Publisher) → o ≡ Some x → AllowsAsMuch e e' p x.backpressure_handler)
          → MatchOption o ⊥ (Concludes e) → MatchOption o ⊥ (Concludes e')
      by None allowed h = h
      by (Some x) allowed h = (
        h.0,
        h.1,
        Deliver-any e e' s.config p x.backpressure_strategy x.backpressure_handler
            (channel_buffer s p channel) n channel (allowed x refl)
            retries elapsed place ends count has_failed (s.mailboxes p) h.0 h.1 h.2,
        h.3,
      )

  module _ (s : State T U) (p n : ℕ) (allows : MayAnswerAsMuch s p) where
    -- a message that is published leaves its publisher's handler
    published-allows : MayAnswerAsMuch (published s p n) p
    published-allows x is = by (s.publishers p) allows (sym (put_at-same s.publishers p _) ∙ is) where
      by : (o : Option Publisher) → ((y : Publisher) → o ≡ Some y → AllowsAsMuch e e' p y.backpressure_handler)
          → option_map (λ (y : Publisher). record y { history = last_n (s.config).history_size (y.history ++ n ∷ []) })
          o ≡ Some x → AllowsAsMuch e e' p x.backpressure_handler
      by None allowed is = absurd cc
      by (Some y) allowed is =
          let same : record y { history = last_n (s.config).history_size (y.history ++ n ∷ []) } ≡ x = cc in
          subst (λ (z : Publisher). AllowsAsMuch e e' p z.backpressure_handler) same (allowed y refl)

    pub publishes-alike : (s' : State T U) (result : SendResult) → Publish e s p n s' result
        → Publish e' s p n s' result
    publishes-alike s' result h = by (s.publishers p) h where
      by : (o : Option Publisher)
          → MatchOption o ⊥
          (λ x. DeliverAndConclude e (published s p n) p (sending n 0 0 0 x.ends 0 false) no_time s' result)
          → MatchOption o ⊥
          (λ x. DeliverAndConclude e' (published s p n) p (sending n 0 0 0 x.ends 0 false) no_time s' result)
      by None h = h
      by (Some x) h = concludes-alike p n 0 0 no_time 0 x.ends 0 false (published s p n) s' result published-allows h

  module _ (s : State T U) (n : ℕ) (l : Loan T U) (s' : State T U) (result : SendResult)
      (updates : (x : Publisher) → s.publishers l.publisher ≡ Some x
      → AllowsUpdates e e' l.publisher x.degradation_handler)
      (allows : (mid : State T U) → UpdatePublisher e s l.publisher mid None → MayAnswerAsMuch mid l.publisher) where
    -- what becomes of the message after the update
    abbrev After : Environment → (mid : State T U) → Option ConnectionFailure → Type 0
    After environment mid failure = MatchOption failure
        (Publish environment mid l.publisher n s' result)
        (λ error. (s' ≡ loan_discarded mid n l) × (result ≡ Send_error (ConnectionError error)))

    -- and what of the loan, where its publisher is there
    abbrev Updates : Environment → Publisher → Type 0
    Updates environment x = (mid : State T U) × (failure : Option ConnectionFailure)
        × UpdatePublisher environment s l.publisher mid failure × After environment mid failure

    -- where it is gone the loan is lost
    abbrev Lost : Type 0
    Lost = (s' ≡ with_loan s n None) × (result ≡ Send_error ConnectionBrokenSinceSenderNoLongerExists)

    after : (mid : State T U) (failure : Option ConnectionFailure) → UpdatePublisher e s l.publisher mid failure
        → After e mid failure → After e' mid failure
    after mid None updated h = publishes-alike mid l.publisher n (allows mid updated) s' result h
    after mid (Some error) updated h = h

    -- what is sent where boxes may answer so is sent where they may answer as much
    pub sends-alike : Send e s n l s' result → Send e' s n l s' result
    sends-alike h = by (s.publishers l.publisher) h where
      by : (o : Option Publisher) → MatchOption o Lost (Updates e) → MatchOption o Lost (Updates e')
      by None h = h
      by (Some x) h = (h.0, h.1, update-alike e e' s l.publisher h.0 h.1 updates h.2, after h.0 h.1 h.2 h.3)

  module _ (s : State T U) (p : ℕ) (b : BlockedSend) (s' : State T U) (result : SendResult)
      (allows : MayAnswerAsMuch s p) where
    -- and so is what is tried again
    pub retries-alike : (elapsed : Duration) → Retry e s p b elapsed s' result → Retry e' s p b elapsed s' result
    retries-alike elapsed h = concludes-alike p b.message b.channel
        (more_retries b.retries) elapsed b.place b.ends b.count b.has_failed s s' result allows h

    -- and what is given up
    pub gives_up-alike : GiveUp e s p b s' result → GiveUp e' s p b s' result
    gives_up-alike h = concludes-alike p b.message b.channel 0 no_time (b.place + 1)
        (drop 1 b.ends) b.count b.has_failed s s' result allows h
