-- What a send to one connection leaves as it was, and what it changes of its loan.
use Rattle.std.proofs.Common.{◌≡◌, ℕ, List, false, drop, take, refl, sym, ap, ◌∙◌, Option, None}
use Rattle.iox2_machine.specs.machine.Numbers.{put_at}
use Rattle.iox2_machine.specs.machine.Records.{Loan, Publisher, Environment}
use Rattle.iox2_machine.specs.machine.State.{State, with_loan}
use Rattle.iox2_machine.specs.machine.Delivery.{no_time}
use Rattle.iox2_machine.specs.machine.SingleCalls.{HoldsBlocked}
use Rattle.iox2_machine.specs.machine.Sends.{SendResult, Send_error, Blocked_send, SendToConnection}
use Rattle.iox2_laws.proofs.Cases.{by_option}
use Rattle.iox2_laws.proofs.OperationWalks.{connection_send_by_steps}
use Rattle.iox2_laws.proofs.LoanKeeping.{deliver_and_conclude_loans}
use Rattle.iox2_laws.proofs.LoansLeft.{LoansKept, LoanEnds, kept_trans, kept_ends, kept_gone, set_kept, deliveries_keep}
use Rattle.iox2_laws.proofs.LoansLeft.{deliveries_end}
use Rattle.iox2_laws.proofs.PortsStay.{PortsStay, ports_stay_trans, loan_set_stays, deliveries_stay}
use Rattle.iox2_laws.proofs.SendsRemain.{PortsRemain, ports_remain, ports_remain_trans, deliveries_remain}
use Rattle.iox2_laws.proofs.SendsRemain.{delivered_waits_with}
use Rattle.iox2_laws.proofs.UpToDate.{SameSubscribers, deliveries_stay_subscribed}
use Rattle.iox2_laws.proofs.Waits.{Waits, loan_set_waits, waits_trans, deliveries_wait}

module _ {T U : Type 0} (environment : Environment) (s : State T U) (n : ℕ) (l : Loan T U) (channel place : ℕ)
    (s' : State T U) (result : SendResult)
    (h : SendToConnection environment s n l channel place s' result) where
  -- The state in which the message is delivered.
  abbrev before : State T U
  before = with_loan s n None

  -- The end to which it goes.
  abbrev end_of : Publisher → List (Option ℕ)
  end_of x = take 1 (drop place x.ends)

  -- The loan leaves its user's hands, and the others stay.
  pub send_to_connection_loans : s'.loans ≡ put_at s.loans n None
  send_to_connection_loans =
      by_option (s'.loans ≡ put_at s.loans n None) (s.publishers l.publisher) _ _ h
      (λ _ k. ap (λ (t : State T U). t.loans) k.0)
      (λ x _ k. deliver_and_conclude_loans environment before l.publisher n channel 0 no_time place
      (end_of x) 0 false s' result k)

  -- Where it isn't blocked it no longer counts as a loan of its publisher.
  pub send_to_connection_ends : (result ≡ Blocked_send → ⊥) → LoanEnds l.publisher n s s'
  send_to_connection_ends free =
      connection_send_by_steps LoansKept (LoanEnds l.publisher n)
      (kept_ends l.publisher n) environment s n l channel place s' result
      (deliveries_end environment l.publisher n result free) (set_kept s n None)
      (λ gone e _. kept_gone l.publisher n s before gone (set_kept s n None)) h

  -- Where it is blocked it still does.
  pub send_to_connection_blocked_kept : result ≡ Blocked_send → LoansKept s s'
  send_to_connection_blocked_kept is =
      connection_send_by_steps LoansKept LoansKept kept_trans environment s n l channel place s' result
      (deliveries_keep environment l.publisher n result is) (set_kept s n None)
      (λ gone e k. absurd (let no : Send_error e ≡ Blocked_send = sym k ∙ is in cc)) h

  -- Where it isn't blocked all ports stay as they are.
  pub send_to_connection_stays : (result ≡ Blocked_send → ⊥) → PortsStay s s'
  send_to_connection_stays free =
      connection_send_by_steps PortsStay PortsStay ports_stay_trans environment s n l channel place s' result
      (deliveries_stay environment l.publisher n result free) (loan_set_stays s n None)
      (λ gone e _. loan_set_stays s n None) h

  -- No port goes, and what is borrowed stays so.
  pub send_to_connection_remains : PortsRemain s s'
  send_to_connection_remains =
      let set : PortsRemain s before = ports_remain s before (loan_set_stays s n None) in
      connection_send_by_steps PortsRemain PortsRemain ports_remain_trans environment s n l channel place s' result
      (deliveries_remain environment l.publisher n result) set (λ gone e _. set) h

  -- Where it is blocked its publisher waits with it.
  pub send_to_connection_waits_with : result ≡ Blocked_send → HoldsBlocked s' l.publisher n
  send_to_connection_waits_with is =
      by_option (HoldsBlocked s' l.publisher n) (s.publishers l.publisher) _ _ h
      (λ _ k. absurd (let no : Send_error _ ≡ Blocked_send = sym k.1 ∙ is in cc))
      (λ x _ k. delivered_waits_with environment before l.publisher n channel 0 no_time place
      (end_of x) 0 false s' result k is)

  -- Subscribers stay as they are.
  pub send_to_connection_subscribers : s'.subscribers ≡ s.subscribers
  send_to_connection_subscribers =
      connection_send_by_steps SameSubscribers SameSubscribers
      (λ a b c f g. g ∙ f) environment s n l channel place s' result
      (deliveries_stay_subscribed environment l.publisher n result) refl (λ gone e _. refl) h

  -- All ports wait as they did, but for publishers that are spared, of which its own is one.
  pub send_to_connection_waits : (Spared : ℕ → Type 0) → Spared l.publisher → Waits Spared s s'
  send_to_connection_waits Spared spared =
      connection_send_by_steps (Waits Spared) (Waits Spared)
      (waits_trans Spared) environment s n l channel place s' result
      (deliveries_wait Spared l.publisher spared environment n result) (loan_set_waits Spared s n None)
      (λ gone e _. loan_set_waits Spared s n None) h
