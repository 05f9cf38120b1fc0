-- A send to one connection: a loan may be delivered there, and the state advances.
use Rattle.std.proofs.Common.{◌≡◌, ◌<◌, ℕ, le_refl, ◌+◌, List, false, drop, take, refl, sym, ap, subst, ◌∙◌, ⊎_elim}
use Rattle.std.proofs.Common.{inl, Option, None, Some}
use Rattle.std.proofs.lemmas.Option.{none-some, same_Some}
use Rattle.iox2_machine.specs.machine.Limits.{channel_count}
use Rattle.iox2_machine.specs.machine.Numbers.{put_at, contains}
use Rattle.iox2_machine.specs.machine.Mailbox.{numbers_in}
use Rattle.iox2_machine.specs.machine.Records.{Loan, Publisher, BlockedSend, Environment}
use Rattle.iox2_machine.specs.machine.State.{State, with_loan}
use Rattle.iox2_machine.specs.machine.Delivery.{no_time}
use Rattle.iox2_machine.specs.machine.Sends.{SendResult, SendToConnection}
use Rattle.iox2_machine.specs.machine.WellFormed.{PublisherIsWellFormed, IsWellFormed}
use Rattle.iox2_laws.specs.Laws.{Advances}
use Rattle.iox2_laws.proofs.Cases.{by_option}
use Rattle.iox2_laws.proofs.Puts.{put_at-same, put_at-other}
use Rattle.iox2_laws.proofs.PlaceLemmas.{occupant-drop}
use Rattle.iox2_laws.proofs.DeliveryLaws.{IsUnderway}
use Rattle.iox2_laws.proofs.SendLaws.{occupant-take, deliver_and_conclude_advances}

module _ {T U : Type 0} where
  module _ (s : State T U) (w : IsWellFormed s) (p n channel place : ℕ) (l : Loan T U) (found : s.loans n ≡ Some l)
      (own : l.publisher ≡ p) (x : Publisher)
      (here : s.publishers p ≡ Some x) (free : x.blocked ≡ None) (known : channel < channel_count s.config) where
    -- The end at that place, and no other.
    abbrev pub there : List (Option ℕ)
    there = take 1 (drop place x.ends)

    -- a loan may be delivered at that end
    pub underway_there : IsUnderway s p x n (put_at s.loans n None) x.history there
    underway_there =
        let v : PublisherIsWellFormed s p x = w.publishers p x here in
        record {
          is_out = ((w.loans n l found).is_out x (ap s.publishers own ∙ here)).0;
          unheld = put_at-same s.loans n None;
          own = λ u e. ap (λ (k : Loan T U). k.publisher) (same_Some u l (sym e ∙ found)) ∙ own;
          others = put_at-other s.loans n None;
          held = λ m _ h. ⊎_elim (λ held. held)
              (λ (waits : (b : BlockedSend) × (x.blocked ≡ Some b) × (b.message ≡ m)).
              absurd (none-some waits.0 (sym free ∙ waits.1))) (v.loans_held m h);
          history_bound = v.history_bound;
          history_once = v.history_once;
          history_has = λ m h. inl h;
          leads = λ q h.
              (place + h.0, sym (occupant-drop place x.ends h.0) ∙ occupant-take 1 (drop place x.ends) h.0 q h.1);
          unserved =
              λ q _. ap (λ i. contains (numbers_in (s.mailboxes i q)) n) (sym own) ∙ (w.loans n l found).unsent q;
        }

  -- A send to one connection advances the state.
  pub send_to_connection_advances : (environment : Environment) (s : State T U) (n : ℕ) (l : Loan T U)
      (channel place : ℕ) (s' : State T U) (result : SendResult)
      → SendToConnection environment s n l channel place s' result → Advances s s'
  send_to_connection_advances environment s n l channel place s' result h =
      by_option (Advances s s') (s.publishers l.publisher) _ _ h
      (λ _ h. subst (Advances s) (sym h.0)
      (record { config = refl; next_port = le_refl s.next_port; next_message = le_refl s.next_message }))
      (λ x _ h.
      let later : Advances (with_loan s n None) s' =
      deliver_and_conclude_advances environment (with_loan s n None) l.publisher n channel 0 no_time place
      (take 1 (drop place x.ends)) 0 false s' result h in
      record { config = later.config; next_port = later.next_port; next_message = later.next_message })
