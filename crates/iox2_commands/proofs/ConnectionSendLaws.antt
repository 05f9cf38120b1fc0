-- A send to one connection keeps a state well-formed, and its loan is one no more.
use Rattle.std.proofs.Common.{◌≡◌, ◌<◌, ◌≤◌, ◌⊎◌, inl, ℕ, List, false, take, drop, refl, sym, ap, subst, ◌∙◌, arith}
use Rattle.std.proofs.Common.{Option, None, Some}
use Rattle.std.specs.Option.{option_map}
use Rattle.iox2_machine.specs.machine.Limits.{channel_count}
use Rattle.iox2_machine.specs.machine.Numbers.{put_at, without}
use Rattle.iox2_machine.specs.machine.Mailbox.{Mailbox}
use Rattle.iox2_machine.specs.machine.Records.{Loan, Publisher, Environment}
use Rattle.iox2_machine.specs.machine.State.{State, channel_buffer, is_blocked, with_loan}
use Rattle.iox2_machine.specs.machine.Delivery.{DeliveryEnd, Complete, Suspended, no_time}
use Rattle.iox2_machine.specs.machine.Sends.{SendResult, ConcludeSend, SendToConnection, DeliverAndConclude}
use Rattle.iox2_machine.specs.machine.Sends.{with_mailboxes}
use Rattle.iox2_machine.specs.machine.WellFormed.{IsWellFormed}
use Rattle.iox2_laws.specs.Sendings.{sending}
use Rattle.iox2_laws.proofs.Cases.{by_option}
use Rattle.iox2_laws.proofs.ConnectionSends.{underway_there}
use Rattle.iox2_laws.proofs.ConnectionSendsLeave.{send_to_connection_loans}
use Rattle.iox2_laws.proofs.DeliveryLaws.{Delivered, deliver_is, ended_keeps, blocked_keeps}
use Rattle.iox2_laws.proofs.LoanKeeping.{LoansFollow}
use Rattle.iox2_laws.proofs.LoanLaws.{loan_lost_keeps}
use Rattle.iox2_laws.proofs.PublisherUpdates.{no_blocked_send}
use Rattle.iox2_laws.proofs.Puts.{put_at-same, found_removed}
use Rattle.iox2_laws.proofs.SendLaws.{injective_drop, injective_take}

module _ {T U : Type 0} where
  -- what is left where the delivery to that end stops
  module _ (s : State T U) (w : IsWellFormed s) (n : ℕ) (l : Loan T U) (found : s.loans n ≡ Some l) (x : Publisher)
      (here : s.publishers l.publisher ≡ Some x)
      (free : x.blocked ≡ None) (channel place : ℕ) (known : channel < channel_count s.config) where
    abbrev p : ℕ
    p = l.publisher

    abbrev at : List (Option ℕ)
    at = take 1 (drop place x.ends)

    abbrev changed : (Publisher → Publisher) → (ℕ → Mailbox) → Option Publisher → State T U
    changed change boxes o = record s {
      publishers = put_at s.publishers p (option_map change o);
      mailboxes = put_at s.mailboxes p boxes;
      loans = put_at s.loans n None;
    }

    concluded : (how : DeliveryEnd) (boxes : ℕ → Mailbox) (s' : State T U) (result : SendResult)
        → Delivered (channel_buffer s p channel) n channel x.ends at (s.mailboxes p) how boxes
        → ConcludeSend (with_mailboxes (with_loan s n None) p boxes) p n how s' result → IsWellFormed s'
    concluded (Complete count has_failed) boxes s' result d h = subst IsWellFormed
        (ap (changed (λ v. record v { loans = without n v.loans; blocked = None }) boxes) (sym here) ∙ sym h.0)
        (ended_keeps s w p x here n channel known (put_at s.loans n None) x.history at (Complete count has_failed) boxes
        (underway_there s w p n channel place l found refl x here free known) d)
    concluded (Suspended b) boxes s' result d h = subst IsWellFormed
        (ap (changed (λ v. record v { blocked = Some b }) boxes) (sym here) ∙ sym h.0)
        (blocked_keeps s w p x here n channel known (put_at s.loans n None) x.history at (Suspended b) boxes
        (underway_there s w p n channel place l found refl x here free known) d b refl)

    delivered_keeps : (environment : Environment) (s' : State T U) (result : SendResult)
        → DeliverAndConclude environment (with_loan s n None) p (sending n channel 0 place at 0 false) no_time s' result
        → IsWellFormed s'
    delivered_keeps environment s' result h =
        by_option (IsWellFormed s') (s.publishers p) _ _ h (λ _ v. absurd v) (λ y _ k.
        concluded k.0 k.1 s' result
        (deliver_is environment s.config p y.backpressure_strategy y.backpressure_handler
        (channel_buffer s p channel) n channel 0 no_time place at 0 false x.ends
        (s.mailboxes p) k.0 k.1 (injective_take 1 (drop place x.ends)
        (injective_drop place x.ends (w.publishers p x here).ends_apart)) (1, refl) (omega arith) k.2)
        k.3)

  module _ (environment : Environment) (s : State T U) (n : ℕ) (l : Loan T U) (channel place : ℕ) (s' : State T U)
      (result : SendResult)
      (h : SendToConnection environment s n l channel place s' result) where
    -- The state stays well-formed.
    pub send_to_connection_keeps : IsWellFormed s → s.loans n ≡ Some l → is_blocked s l.publisher ≡ false
        → channel < channel_count s.config → IsWellFormed s'
    send_to_connection_keeps w found free known =
        by_option (IsWellFormed s') (s.publishers l.publisher) _ _ h
        (λ gone k. subst IsWellFormed (sym k.0) (loan_lost_keeps s w n l found gone))
        (λ x here k. delivered_keeps s w n l found x here
        (no_blocked_send s l.publisher x here free) channel place known environment s' result k)

    -- No user holds the loan afterwards.
    pub send_to_connection_unholds : s'.loans n ≡ None
    send_to_connection_unholds =
        ap (λ (f : ℕ → Option (Loan T U)). f n) (send_to_connection_loans environment s n l channel place s' result h)
        ∙ put_at-same s.loans n None

    -- No loan appears.
    pub send_to_connection_follows : LoansFollow s s'
    send_to_connection_follows k l' e =
        found_removed s.loans n k l' (((b : Loan T U) × (s.loans k ≡ Some b)) ⊎ (s.next_message ≤ k))
        (sym (ap (λ (f : ℕ → Option (Loan T U)). f k)
        (send_to_connection_loans environment s n l channel place s' result h)) ∙ e) (λ _ old. inl (l', old))
