-- A send to one connection is a send that was blocked there before anybody was asked, and that goes on from there.
use Rattle.std.proofs.Common.{◌≡◌, ◌<◌, ◌≤◌, ℕ, false, drop, take, refl, sym, ap, subst, ◌∙◌, arith, inl, Option, None}
use Rattle.std.proofs.Common.{Some}
use Rattle.std.specs.Option.{option_map}
use Rattle.std.proofs.lemmas.Option.{same_Some}
use Rattle.iox2_machine.specs.machine.Limits.{channel_count}
use Rattle.iox2_machine.specs.machine.Numbers.{put_at, without}
use Rattle.iox2_machine.specs.machine.Places.{occupant}
use Rattle.iox2_machine.specs.machine.Mailbox.{Mailbox}
use Rattle.iox2_machine.specs.machine.Records.{Loan, Publisher, BlockedSend, Environment}
use Rattle.iox2_machine.specs.machine.State.{State, channel_buffer, with_loan}
use Rattle.iox2_machine.specs.machine.Delivery.{Deliver, DeliveryEnd, Complete, Suspended, no_time}
use Rattle.iox2_machine.specs.machine.Sends.{SendResult, ConcludeSend, send_blocked, with_mailboxes, DeliverAndConclude}
use Rattle.iox2_machine.specs.machine.Sends.{SendToConnection}
use Rattle.iox2_machine.specs.machine.WellFormed.{IsWellFormed}
use Rattle.iox2_laws.specs.Sendings.{sending}
use Rattle.iox2_laws.proofs.Cases.{by_option, match_some}
use Rattle.iox2_laws.proofs.Puts.{put_at-own, put_at-same, put_at-twice}
use Rattle.iox2_laws.proofs.DeliveryLaws.{Delivered, blocked_keeps}
use Rattle.iox2_laws.proofs.ConnectionSends.{underway_there}

-- a publisher that is changed twice, where the first change is written over
changed-twice : (f : ℕ → Option Publisher) (p : ℕ) (g h : Publisher → Publisher) → ((x : Publisher) → h (g x) ≡ h x)
    → put_at (put_at f p (option_map g (f p))) p (option_map h (put_at f p (option_map g (f p)) p)) ≡ put_at f p
    (option_map h (f p))
changed-twice f p g h over =
    put_at-twice f p (option_map g (f p)) (option_map h (put_at f p (option_map g (f p)) p))
    ∙ ap (put_at f p) (ap (option_map h) (put_at-same f p (option_map g (f p))) ∙ maps (f p))
  where
    maps : (o : Option Publisher) → option_map h (option_map g o) ≡ option_map h o
    maps None = refl
    maps (Some x) = ap Some (over x)

-- The send of n into the channel at that place of x, before anybody was asked.
abbrev pub begun_send : Publisher → (n channel place : ℕ) → BlockedSend
begun_send x n channel place = record {
  message = n;
  channel = channel;
  place = place;
  ends = take 1 (drop place x.ends);
  retries = 0;
  count = 0;
  has_failed = false;
}

module _ {T U : Type 0} where
  -- The publisher p waits with its loan n.
  abbrev pub begun : State T U → (p n : ℕ) → BlockedSend → State T U
  begun s p n b = send_blocked (with_loan s n None) p b

  -- what goes on from there is a send to that connection
  pub begun_goes_on : (environment : Environment) (s : State T U) (n : ℕ) (l : Loan T U) (channel place : ℕ)
      (x : Publisher) → s.publishers l.publisher ≡ Some x
      → (s' : State T U) (result : SendResult)
      → DeliverAndConclude environment (begun s l.publisher n (begun_send x n channel place)) l.publisher
      (sending n channel 0 place (take 1 (drop place x.ends)) 0 false) no_time s' result
      → SendToConnection environment s n l channel place s' result
  begun_goes_on environment s n l channel place x here s' result h =
      match_some (s.publishers l.publisher) x _ _ here
      (by_option (DeliverAndConclude environment (with_loan s n None) l.publisher
      (sending n channel 0 place (take 1 (drop place x.ends)) 0 false) no_time s' result)
      ((begun s l.publisher n b).publishers l.publisher) _ _ h (λ _ v. absurd v) (λ x1 at k.
      let same : record x { blocked = Some b } ≡ x1 =
      same_Some (record x { blocked = Some b }) x1
      (sym (put_at-same s.publishers l.publisher (option_map waits (s.publishers l.publisher))
      ∙ ap (option_map waits) here) ∙ at) in
      match_some (s.publishers l.publisher) x _ _ here (
        k.0,
        k.1,
        subst (λ (v : Publisher). Deliver environment s.config l.publisher v.backpressure_strategy
            v.backpressure_handler (channel_buffer s l.publisher channel) n
            channel 0 no_time place (take 1 (drop place x.ends)) 0 false (s.mailboxes l.publisher) k.0 k.1)
            (sym same) k.2,
        concludes k.0 k.1 k.3,
      )))
    where
      b : BlockedSend
      b = begun_send x n channel place

      waits : Publisher → Publisher
      waits v = record v { blocked = Some b }

      concludes : (how : DeliveryEnd) (boxes : ℕ → Mailbox)
          → ConcludeSend (with_mailboxes (begun s l.publisher n b) l.publisher boxes) l.publisher n how s' result
          → ConcludeSend (with_mailboxes (with_loan s n None) l.publisher boxes) l.publisher n how s' result
      concludes (Complete count has_failed) boxes h = (
        h.0 ∙ ap (λ publishers. record s {
          publishers = publishers;
          loans = put_at s.loans n None;
          mailboxes = put_at s.mailboxes l.publisher boxes;
        })
            (changed-twice s.publishers l.publisher waits (λ v. record v { loans = without n v.loans; blocked = None })
            (λ v. refl)),
        h.1,
      )
      concludes (Suspended again) boxes h = (
        h.0 ∙ ap (λ publishers. record s {
          publishers = publishers;
          loans = put_at s.loans n None;
          mailboxes = put_at s.mailboxes l.publisher boxes;
        })
            (changed-twice s.publishers l.publisher waits (λ v. record v { blocked = Some again }) (λ v. refl)),
        h.1,
      )

  module _ (s : State T U) (w : IsWellFormed s) (p n channel place : ℕ) (l : Loan T U) (found : s.loans n ≡ Some l)
      (own : l.publisher ≡ p) (x : Publisher)
      (here : s.publishers p ≡ Some x) (free : x.blocked ≡ None) (known : channel < channel_count s.config) (q : ℕ)
      (at : occupant x.ends place ≡ Some q) where
    -- nothing was delivered yet
    begins : Delivered (channel_buffer s p channel) n channel x.ends (take 1 (drop place x.ends)) (s.mailboxes p)
        (Suspended (begun_send x n channel place)) (s.mailboxes p)
    begins = record {
      each = λ r. inl refl;
      message = λ b e. ap (λ (v : BlockedSend). v.message) (sym (is b e));
      channel_is = λ b e. ap (λ (v : BlockedSend). v.channel) (sym (is b e));
      remain = λ b e.
          subst (λ (v : BlockedSend). (count : ℕ) × (v.ends ≡ take count (drop v.place x.ends))) (is b e) (1, refl);
      within = λ b e r leads. subst (λ (v : BlockedSend). (i : ℕ) × (occupant v.ends i ≡ Some r)) (sym (is b e)) leads;
      unserved = λ b e r leads. refl;
      waits = λ b e. subst (λ (v : BlockedSend). (r : ℕ) × (occupant x.ends v.place ≡ Some r)) (is b e) (q, at);
      count_bound = λ b e. subst (λ (v : BlockedSend). v.count ≤ v.place) (is b e) (omega arith);
    } where
      is : (b : BlockedSend) → Suspended (begun_send x n channel place) ≡ Suspended b → begun_send x n channel place ≡ b
      is b e = cc

    -- a publisher with a connection at that place may wait there
    pub begun_keeps : IsWellFormed (begun s p n (begun_send x n channel place))
    begun_keeps = subst IsWellFormed
        (λ i. record s {
          publishers = put_at s.publishers p
              (option_map (λ (v : Publisher). record v { blocked = Some (begun_send x n channel place) }) (sym here i));
          mailboxes = put_at-own s.mailboxes p i;
          loans = put_at s.loans n None;
        })
        (blocked_keeps s w p x here n channel known (put_at s.loans n None) x.history (take 1 (drop place x.ends))
        (Suspended (begun_send x n channel place)) (s.mailboxes p)
        (underway_there s w p n channel place l found own x here free known) begins (begun_send x n channel place) refl)
