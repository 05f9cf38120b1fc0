-- A loan is sent on the way to full slots.
use Rattle.std.proofs.Common.{◌≡◌, ℕ, suc, Bool, true, false, cond, not, List, [], ◌∷◌, ◌++◌, refl, sym, ap, subst, ◌∙◌}
use Rattle.std.proofs.Common.{arith, Option, None, Some, option_map, option_and_then, is_some}
use Rattle.std.specs.Prelude.{slice_get, MatchOption}
use Rattle.std.specs.Option.{option_map_or}
use Rattle.std.proofs.lemmas.Bool.{eq-eqb}
use Rattle.iox2_machine.specs.machine.Numbers.{last_n, without}
use Rattle.iox2_machine.specs.machine.Channel.{Channel, is_closed}
use Rattle.iox2_machine.specs.machine.Mailbox.{Mailbox}
use Rattle.iox2_machine.specs.machine.Records.{Loan, Publisher, Subscriber}
use Rattle.iox2_machine.specs.machine.State.{State, Messages, receiving_buffer, channel_buffer, is_blocked}
use Rattle.iox2_machine.specs.machine.Loans.{entry_of}
use Rattle.iox2_machine.specs.machine.Delivery.{Deliver, DeliveryEnd, Complete, no_time}
use Rattle.iox2_machine.specs.machine.PublisherUpdate.{UpdatePublisher}
use Rattle.iox2_machine.specs.machine.Sends.{Send, Publish, DeliverAndConclude, ConcludeSend, SendResult, Delivered_to}
use Rattle.iox2_machine.specs.machine.Sends.{published, send_ended, with_mailboxes}
use Rattle.iox2_machine.specs.machine.WellFormed.{IsWellFormed}
use Rattle.iox2_machine.specs.declared.service_config.ServiceConfig.{ServiceConfig}
use Rattle.iox2_machine.specs.declared.errors.ConnectionFailure.{ConnectionFailure}
use Rattle.iox2_machine.specs.declared.backpressure.BackpressureStrategy.TheVariants.{DiscardData}
use Rattle.iox2_commands.specs.Outcomes.{Handle, Loan_handle, Outcome}
use Rattle.iox2_commands.specs.Step.{Step, sendable_at, after_send}
use Rattle.iox2_machine.specs.machine.Environments.{ample_memory}
use Rattle.iox2_laws.specs.Sendings.{sending}
use Rattle.iox2_commands.specs.declared.command.Command.TheVariants.{Send as SendLoan}
use Rattle.iox2_commands.specs.declared.reply.Reply.TheVariants.{Delivered}
use Rattle.iox2_worst_case.proofs.FillingNumbers.{ports_from, recent, recent_next}
use Rattle.iox2_worst_case.proofs.FillingShape.{filler, IsFilling, HasFillingLoan, at_some, at_none, concluded}
use Rattle.iox2_worst_case.proofs.FillingShape.{written_named}
use Rattle.iox2_worst_case.proofs.FillingDeliveries.{Delivers}

without_only : (n m : ℕ) → n ≡ m → without n (m ∷ []) ≡ []
without_only n m e = ap (λ b. cond (not b) (m ∷ []) []) (eq-eqb m n (sym e))

module _ {T U : Type 0} (c : ServiceConfig) (most available : ℕ) (s : State T U) (sent made : ℕ)
    (boxes wanted : ℕ → Mailbox)
    (f : IsFilling c most available s sent 1 made (ports_from 2 made) false boxes)
    (delivers : Delivers c made (suc sent) boxes wanted) where
  -- the publisher
  abbrev before : Publisher
  before = filler most available f.longest (suc sent ∷ []) (recent c.history_size sent) (ports_from 2 made) false

  -- What a send comes to.
  pub record IsSentOutcome (o : Outcome T U) : Type 0 where
    pub count : ℕ
    pub reply : o.reply ≡ Delivered count
    pub filling : IsFilling c most available o.state (suc sent) 0 made (ports_from 2 made) false wanted

  -- the state afterwards
  abbrev after : (ℕ → Mailbox) → State T U
  after boxes' = send_ended (with_mailboxes (published s 1 (suc sent)) 1 boxes') 1 (suc sent)

  filling_after : (boxes' : ℕ → Mailbox) → boxes' ≡ wanted → IsWellFormed (after boxes')
      → IsFilling c most available (after boxes') (suc sent) 0 made (ports_from 2 made) false wanted
  filling_after boxes' same w = record {
    well_formed = w;
    config = f.config;
    next_port = f.next_port;
    next_message = omega (arith, f.next_message);
    longest = f.longest;
    publisher =
        ap (λ (v : Option Publisher).
        option_map (λ (x : Publisher). record x { loans = without (suc sent) x.loans; blocked = None })
        (option_map (λ (x : Publisher).
        record x { history = last_n (s.config).history_size (x.history ++ suc sent ∷ []) }) v)) f.publisher
        ∙ ap (λ (ns : List ℕ). Some (filler most available f.longest ns
        (last_n (s.config).history_size (recent c.history_size sent ++ suc sent ∷ []))
        (ports_from 2 made) false))
        (without_only (suc sent) (suc sent) refl)
        ∙ ap (λ (ns : List ℕ). Some (filler most available f.longest [] ns (ports_from 2 made) false))
        (ap (λ (v : ServiceConfig). last_n v.history_size (recent c.history_size sent ++ suc sent ∷ [])) f.config
        ∙ recent_next c.history_size sent);
    publisher_places = f.publisher_places;
    subscriber_places = f.subscriber_places;
    subscribers = f.subscribers;
    mailboxes = same;
    channels = f.channels;
  }

  -- the state in which it is delivered
  abbrev now : State T U
  now = published s 1 (suc sent)

  -- its delivery
  delivered_so : (how : DeliveryEnd) (boxes' : ℕ → Mailbox)
      → Deliver ample_memory s.config 1 DiscardData None (channel_buffer now 1 0) (suc sent) 0 0 no_time 0
      (ports_from 2 made) 0 false (s.mailboxes 1) how boxes'
      → (count : ℕ) × (how ≡ Complete count false) × (boxes' ≡ wanted)
  delivered_so how boxes' h =
      delivers (channel_buffer now 1 0)
      (λ q low high.
      ap (λ (channels : ℕ → Channel). cond (is_closed (channels 0)) None (receiving_buffer s q)) (f.channels q)
      ∙ ap (λ (v : Option Subscriber). option_and_then (λ (y : Subscriber). cond y.is_open (Some y.buffer) None) v)
      (f.subscribers q low high))
      how boxes'
      (subst (λ (b : ℕ → Mailbox). Deliver ample_memory c 1 DiscardData None (channel_buffer now 1 0)
      (suc sent) 0 0 no_time 0 (ports_from 2 made) 0 false b how
      boxes') f.mailboxes
      (subst (λ (v : ServiceConfig). Deliver ample_memory v 1 DiscardData None (channel_buffer now 1 0)
      (suc sent) 0 0 no_time 0 (ports_from 2 made) 0 false
      (s.mailboxes 1) how boxes')
      f.config h))

  ended_so : (how : DeliveryEnd) (boxes' : ℕ → Mailbox) (s' : State T U) (result : SendResult) (count : ℕ)
      → how ≡ Complete count false
      → ConcludeSend (with_mailboxes now 1 boxes') 1 (suc sent) how s' result
      → (s' ≡ after boxes') × (result ≡ Delivered_to count)
  ended_so how boxes' s' result count e h =
      let end : ConcludeSend (with_mailboxes now 1 boxes') 1 (suc sent) (Complete count false) s' result =
      subst (λ (v : DeliveryEnd). ConcludeSend (with_mailboxes now 1 boxes') 1 (suc sent) v s' result) e h in
      (end.0, end.1)

  -- the message is published and delivered
  published_so : (s' : State T U) (result : SendResult) → Publish ample_memory s 1 (suc sent) s' result
      → (count : ℕ) × (boxes' : ℕ → Mailbox) × (boxes' ≡ wanted) × (s' ≡ after boxes') × (result ≡ Delivered_to count)
  published_so s' result h =
      let there : DeliverAndConclude ample_memory now 1
      (sending (suc sent) 0 0 0 (ports_from 2 made) 0 false) no_time s' result =
      at_some (s.publishers 1) before _ _ f.publisher h in
      let x : Publisher =
      record before { history = last_n (s.config).history_size (before.history ++ suc sent ∷ []) } in
      let present : now.publishers 1 ≡ Some x =
      ap (λ (v : Option Publisher). option_map
      (λ (x : Publisher). record x { history = last_n (s.config).history_size (x.history ++ suc sent ∷ []) }) v)
      f.publisher in
      let k : (how : DeliveryEnd) × (boxes' : ℕ → Mailbox)
      × Deliver ample_memory s.config 1 DiscardData None (channel_buffer now 1 0) (suc sent) 0 0 no_time 0
      (ports_from 2 made) 0 false (s.mailboxes 1) how boxes'
      × ConcludeSend (with_mailboxes now 1 boxes') 1 (suc sent) how s' result =
      at_some (now.publishers 1) x _ _ present there in
      let ends : (count : ℕ) × (k.0 ≡ Complete count false) × (k.1 ≡ wanted) = delivered_so k.0 k.1 k.2 in
      let end : (s' ≡ after k.1) × (result ≡ Delivered_to ends.0) = ended_so k.0 k.1 s' result ends.0 ends.1 k.3 in
      (ends.0, k.1, ends.2, end.0, end.1)

  send_so : (n : ℕ) (l : Loan T U) (s' : State T U) (result : SendResult) → n ≡ suc sent → l.publisher ≡ 1
      → Send ample_memory s n l s' result
      → (count : ℕ) × (boxes' : ℕ → Mailbox) × (boxes' ≡ wanted) × (s' ≡ after boxes') × (result ≡ Delivered_to count)
  send_so n l s' result number own h =
      let k : (mid : State T U) × (failure : Option ConnectionFailure)
      × UpdatePublisher ample_memory s l.publisher mid failure × MatchOption failure
      (Publish ample_memory mid l.publisher n s' result) _ =
      at_some (s.publishers l.publisher) before _ _ (ap s.publishers own ∙ f.publisher) h in
      let update : UpdatePublisher ample_memory s 1 k.0 k.1 =
      subst (λ p. UpdatePublisher ample_memory s p k.0 k.1) own k.2 in
      let idle : (k.0 ≡ s) × (k.1 ≡ None) = at_some (s.publishers 1) before _ _ f.publisher update in
      let publish : Publish ample_memory k.0 l.publisher n s' result = at_none k.1 _ _ idle.1 k.3 in
      published_so s' result
      (subst (λ (v : State T U). Publish ample_memory v 1 (suc sent) s' result) idle.0
      (subst (λ p. Publish ample_memory k.0 p (suc sent) s' result) own
      (subst (λ i. Publish ample_memory k.0 l.publisher i s' result) number publish)))

  sent_as : (n : ℕ) (l : Loan T U) (o : Outcome T U) (s' : State T U) (result : SendResult) (count : ℕ)
      (boxes' : ℕ → Mailbox)
      → boxes' ≡ wanted → s' ≡ after boxes' → result ≡ Delivered_to count
      → o ≡ after_send s' l.publisher n (entry_of l) result → IsWellFormed o.state → IsSentOutcome o
  sent_as n l o s' result count boxes' served state answer e w =
      concluded IsSentOutcome o (after_send (after boxes') l.publisher n (entry_of l) (Delivered_to count))
      (e ∙ ap (after_send s' l.publisher n (entry_of l)) answer
      ∙ ap (λ (v : State T U). after_send v l.publisher n (entry_of l) (Delivered_to count)) state)
      w (λ w'. record { count = count; reply = refl {a = Delivered count}; filling = filling_after boxes' served w' })

  -- a written loan is sent
  pub send_step : (position n : ℕ) (default_value : T) (default_header : U) (m : Messages T U) (handles : List Handle)
      (o : Outcome T U)
      → n ≡ suc sent → slice_get handles position ≡ Some (Loan_handle n) → HasFillingLoan s n true
      → Step ample_memory default_value default_header m s handles (SendLoan position) o → IsWellFormed o.state
      → IsSentOutcome o
  send_step position n default_value default_header m handles o number handle loan step w =
      let l : Loan T U = loan.0 in
      let unblocked : is_blocked s l.publisher ≡ false =
      ap (is_blocked s) loan.2
      ∙ ap (λ (v : Option Publisher). option_map_or (λ (x : Publisher). is_some x.blocked) v false) f.publisher in
      let named : sendable_at s handles position ≡ Some (n, l) =
      ap (λ (v : Option (ℕ × Loan T U)).
      option_and_then {U = ℕ × Loan T U} (λ named. cond (is_blocked s named.1.publisher) None (Some named)) v)
      (written_named s handles position n l handle loan.1 loan.3)
      ∙ ap (λ (b : Bool). cond b None (Some (n, l))) unblocked in
      let k : (s' : State T U) × (result : SendResult) × Send ample_memory s n l s' result
      × (o ≡ after_send s' l.publisher n (entry_of l) result) =
      at_some (sendable_at s handles position) (n, l) _ _ named step in
      let j : (count : ℕ) × (boxes' : ℕ → Mailbox) × (boxes' ≡ wanted) × (k.0 ≡ after boxes')
      × (k.1 ≡ Delivered_to count) = send_so n l k.0 k.1 number loan.2 k.2 in
      sent_as n l o k.0 k.1 j.0 j.1 j.2 j.3 j.4 k.3 w
