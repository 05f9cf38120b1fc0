-- What a send leaves of the ports and of the sends that are blocked, also one that is tried again or given up.
use Rattle.std.proofs.Common.{◌≡◌, ℕ, ◌<◌, Option, None, Some, refl, sym, ap, subst, ◌∙◌, inl, inr}
use Rattle.std.proofs.lemmas.Bool.{cases_eq}
use Rattle.std.proofs.lemmas.Option.{none-some, same_Some}
use Rattle.std.specs.declared.time.Duration.{Duration}
use Rattle.iox2_machine.specs.machine.Records.{Loan, Publisher, Subscriber, BlockedSend, Environment}
use Rattle.iox2_machine.specs.machine.Sends.{Send, Retry, GiveUp, SendResult, Delivered_to, Blocked_send, Send_error}
use Rattle.iox2_machine.specs.machine.Sends.{SendToConnection}
use Rattle.iox2_machine.specs.machine.SingleCalls.{HoldsBlocked}
use Rattle.iox2_machine.specs.machine.State.{State}
use Rattle.iox2_laws.proofs.PortsCome.{send_comes}
use Rattle.iox2_laws.proofs.SendsRemain.{PortsRemain, send_remains, retry_remains, give_up_remains, send_waits_with}
use Rattle.iox2_laws.proofs.SendsRemain.{retry_waits_with, give_up_waits_with, retry_frees, give_up_frees}
use Rattle.iox2_laws.proofs.UpToDate.{send_subscribers, retry_subscribers, give_up_subscribers}
use Rattle.iox2_laws.proofs.Waits.{Waits, send_waits, retry_waits, give_up_waits}
use Rattle.iox2_commands.specs.Outcomes.{Handle, Blocked_handle}
use Rattle.iox2_runs.specs.Tables.{IsUnblockedPort}
use Rattle.iox2_runs.proofs.TableSteps.{PortsKeep, waits_still}
use Rattle.iox2_laws.proofs.ConnectionSendsLeave.{send_to_connection_remains, send_to_connection_stays}
use Rattle.iox2_laws.proofs.ConnectionSendsLeave.{send_to_connection_subscribers, send_to_connection_waits}
use Rattle.iox2_laws.proofs.ConnectionSendsLeave.{send_to_connection_waits_with}

-- two sends that the publisher waits with are one
pub one_blocked : {T U : Type 0} (s : State T U) (p n k : ℕ) → HoldsBlocked s p n → HoldsBlocked s p k → k ≡ n
one_blocked s p n k a b =
    let same : a.0 ≡ b.0 = same_Some a.0 b.0 (sym a.2 ∙ b.2) in
    let one : a.1 ≡ b.1 = same_Some a.1 b.1 (sym a.3 ∙ ap (λ (x : Publisher). x.blocked) same ∙ b.3) in
    sym b.4 ∙ ap (λ (v : BlockedSend). v.message) (sym one) ∙ a.4

-- and it waits with none where it is free
pub free_waits : {T U : Type 0} (s : State T U) (p k : ℕ) → IsUnblockedPort s p → HoldsBlocked s p k → ⊥
free_waits s p k free has = none-some has.1 (sym (free has.0 has.2) ∙ has.3)

-- The ports remain, and only the publisher p may wait otherwise than before, with no other message than n before and
-- after.
pub record Passed {T U : Type 0} (p n : ℕ) (s s' : State T U) : Type 0 where
  pub remain : PortsRemain s s'
  pub subscribers : s'.subscribers ≡ s.subscribers
  pub waits : Waits (λ i. i ≡ p) s s'
  pub before : (k : ℕ) → HoldsBlocked s p k → k ≡ n
  pub after : (k : ℕ) → HoldsBlocked s' p k → k ≡ n

module _ {T U : Type 0} (spent : Handle) (p n : ℕ) (s s' : State T U) (passed : Passed p n s s') where
  -- so what a table's other entries name stays
  pub passed_keeps : PortsKeep spent (Blocked_handle p n) s s'
  passed_keeps = record {
    config = (passed.remain).config;
    publishers = λ i x other there. (passed.remain).publishers i x there;
    subscribers = λ q y other there is_open. (passed.remain).subscribers q y there is_open;
    next_port = (passed.waits).next_port;
    came = λ i x' low there. let was = (passed.waits).publishers i x' low there in
        (was.0, was.1, (was.2).handler, (was.2).degradation);
    opened = λ q y' low there is_open.
        (y', ap (λ (f : ℕ → Option Subscriber). f q) (sym passed.subscribers) ∙ there, is_open, refl);
    blocked = λ i k other low. elim (cases_eq i p) [
      | inl same ↦ (
        λ has.
            absurd (other (ap (λ (v : ℕ). Blocked_handle v k) same ∙ ap (λ (v : ℕ). Blocked_handle p v)
            (passed.before k (subst (λ (v : ℕ). HoldsBlocked s v k) same has)))),
        λ has.
            absurd (other (ap (λ (v : ℕ). Blocked_handle v k) same ∙ ap (λ (v : ℕ). Blocked_handle p v)
            (passed.after k (subst (λ (v : ℕ). HoldsBlocked s' v k) same has)))),
      )
      | inr away ↦
          waits_still (λ v. v ≡ p) s s' passed.waits (λ v x there. (passed.remain).publishers v x there) i k away low
    ];
  }

module _ {T U : Type 0} (environment : Environment) (s : State T U) where
  -- a send of a publisher that waits for nobody
  pub send_passes : (n : ℕ) (l : Loan T U) (s' : State T U) (result : SendResult) → l.publisher < s.next_port
      → IsUnblockedPort s l.publisher → Send environment s n l s' result
      → Passed l.publisher n s s'
  send_passes n l s' result low free h = record {
    remain = send_remains environment s n l s' result h;
    subscribers = send_subscribers environment s n l s' result h;
    waits = send_waits (λ i. i ≡ l.publisher) environment s n l refl s' result h;
    before = λ k has. absurd (free_waits s l.publisher k free has);
    after = λ k has. by result h k has;
  } where
    ended : (r : SendResult) → Send environment s n l s' r → (r ≡ Blocked_send → ⊥) → (k : ℕ)
        → HoldsBlocked s' l.publisher k → k ≡ n
    ended r h other k has =
        let came = (send_comes environment s n l s' r h other).publishers l.publisher has.0 low has.2 in
        absurd (none-some has.1 (sym (came.2 (free came.0 came.1)) ∙ has.3))

    by : (r : SendResult) → Send environment s n l s' r → (k : ℕ) → HoldsBlocked s' l.publisher k → k ≡ n
    by (Delivered_to count) h k has =
        ended (Delivered_to count) h (λ e. let clash : Delivered_to count ≡ Blocked_send = e in absurd cc) k has
    by Blocked_send h k has =
        one_blocked s' l.publisher n k (send_waits_with environment s n l s' Blocked_send h refl) has
    by (Send_error e) h k has =
        ended (Send_error e) h (λ is. let clash : Send_error e ≡ Blocked_send = is in absurd cc) k has

  -- a send to one connection
  pub connection_passes : (n : ℕ) (l : Loan T U) (channel place : ℕ) (s' : State T U) (result : SendResult)
      → l.publisher < s.next_port → IsUnblockedPort s l.publisher
      → SendToConnection environment s n l channel place s' result → Passed l.publisher n s s'
  connection_passes n l channel place s' result low free h = record {
    remain = send_to_connection_remains environment s n l channel place s' result h;
    subscribers = send_to_connection_subscribers environment s n l channel place s' result h;
    waits = was result h;
    before = λ k has. absurd (free_waits s l.publisher k free has);
    after = λ k has. by result h k has;
  } where
    was : (r : SendResult) → SendToConnection environment s n l channel place s' r → Waits (λ i. i ≡ l.publisher) s s'
    was r h = send_to_connection_waits environment s n l channel place s' r h (λ i. i ≡ l.publisher) refl

    ended : (r : SendResult) → SendToConnection environment s n l channel place s' r → (r ≡ Blocked_send → ⊥) → (k : ℕ)
        → HoldsBlocked s' l.publisher k → k ≡ n
    ended r h other k has =
        let came = (was r h).publishers l.publisher has.0 low has.2 in
        let stays = ((send_to_connection_stays environment s n l channel place s' r h other).remain).publishers
        l.publisher came.0 came.1 in
        let same : stays.0 ≡ has.0 = same_Some stays.0 has.0 (sym stays.1 ∙ has.2) in
        absurd (none-some has.1
        (sym (ap (λ (x : Publisher). x.blocked) (sym same) ∙ stays.2 (free came.0 came.1)) ∙ has.3))

    by : (r : SendResult) → SendToConnection environment s n l channel place s' r → (k : ℕ)
        → HoldsBlocked s' l.publisher k → k ≡ n
    by (Delivered_to count) h k has =
        ended (Delivered_to count) h (λ e. let clash : Delivered_to count ≡ Blocked_send = e in absurd cc) k has
    by Blocked_send h k has = one_blocked s' l.publisher n k
        (send_to_connection_waits_with environment s n l channel place s' Blocked_send h refl) has
    by (Send_error e) h k has =
        ended (Send_error e) h (λ is. let clash : Send_error e ≡ Blocked_send = is in absurd cc) k has

  module _ (p : ℕ) (x : Publisher) (b : BlockedSend) (stands : s.publishers p ≡ Some x) (waiting : x.blocked ≡ Some b)
      (s' : State T U) where
    known : HoldsBlocked s p b.message
    known = (x, b, stands, waiting, refl)

    -- what waits afterwards is the same message, or none
    later : (result : SendResult) → (result ≡ Blocked_send → HoldsBlocked s' p b.message)
        → ((result ≡ Blocked_send → ⊥) → (x' : Publisher) → s'.publishers p ≡ Some x' → x'.blocked ≡ None) → (k : ℕ)
        → HoldsBlocked s' p k → k ≡ b.message
    later (Delivered_to count) waits frees k has =
        absurd (none-some has.1
        (sym (frees (λ e. let clash : Delivered_to count ≡ Blocked_send = e in absurd cc) has.0 has.2) ∙ has.3))
    later Blocked_send waits frees k has = one_blocked s' p b.message k (waits refl) has
    later (Send_error e) waits frees k has =
        absurd (none-some has.1
        (sym (frees (λ is. let clash : Send_error e ≡ Blocked_send = is in absurd cc) has.0 has.2) ∙ has.3))

    -- a blocked send that is tried again
    pub retry_passes : (elapsed : Duration) (result : SendResult) → Retry environment s p b elapsed s' result
        → Passed p b.message s s'
    retry_passes elapsed result h = record {
      remain = retry_remains environment s p b elapsed s' result h;
      subscribers = retry_subscribers environment s p b elapsed s' result h;
      waits = retry_waits (λ i. i ≡ p) p refl environment s b elapsed s' result h;
      before = λ k has. one_blocked s p b.message k known has;
      after = later result (retry_waits_with environment s p b elapsed s' result h)
          (λ other. retry_frees environment s p b elapsed s' result other h);
    }

    -- and one that is given up
    pub give_up_passes : (result : SendResult) → GiveUp environment s p b s' result → Passed p b.message s s'
    give_up_passes result h = record {
      remain = give_up_remains environment s p b s' result h;
      subscribers = give_up_subscribers environment s p b s' result h;
      waits = give_up_waits (λ i. i ≡ p) p refl environment s b s' result h;
      before = λ k has. one_blocked s p b.message k known has;
      after = later result (give_up_waits_with environment s p b s' result h)
          (λ other. give_up_frees environment s p b s' result other h);
    }
