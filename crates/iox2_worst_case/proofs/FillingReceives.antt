-- A subscriber receives on the way to full slots.
use Rattle.std.proofs.Common.{◌≡◌, ℕ, ◌+◌, ◌-◌, ◌≤◌, ◌<◌, Bool, true, false, cond, not, ◌&&◌, ◌||◌, List, [], ◌∷◌, ◌++◌}
use Rattle.std.proofs.Common.{length, drop, take, refl, sym, ap, subst, ◌∙◌, arith, eqb, ltb, Option, None, Some}
use Rattle.std.specs.Prelude.{slice_get, MatchOption}
use Rattle.std.proofs.lemmas.Bool.{true≢false, lt-ltb}
use Rattle.iox2_machine.specs.machine.Limits.{buffer_limit}
use Rattle.iox2_machine.specs.machine.Numbers.{put_at, is_nil}
use Rattle.iox2_machine.specs.machine.Mailbox.{Mailbox, BorrowsFirst, has_data, can_receive}
use Rattle.iox2_machine.specs.machine.Records.{Subscriber}
use Rattle.iox2_machine.specs.machine.State.{State, Messages, with_mailbox}
use Rattle.iox2_machine.specs.machine.Receives.{Receive, TakeSample, ReceiveResult, Got_sample, No_sample}
use Rattle.iox2_machine.specs.machine.Receives.{Receive_error}
use Rattle.iox2_machine.specs.machine.WellFormed.{IsWellFormed}
use Rattle.iox2_machine.specs.declared.service_config.ServiceConfig.{ServiceConfig}
use Rattle.iox2_laws.proofs.NumberLemmas.{contains_one}
use Rattle.iox2_commands.specs.Outcomes.{Handle, Subscriber_handle, Outcome}
use Rattle.iox2_commands.specs.Step.{Step, subscriber_at, if_single_units, after_receive}
use Rattle.iox2_machine.specs.machine.Environments.{ample_memory}
use Rattle.iox2_commands.specs.declared.command.Command.TheVariants.{Receive as ReceiveSample}
use Rattle.iox2_commands.specs.declared.reply.Reply.TheVariants.{Sample}
use Rattle.iox2_worst_case.proofs.FillingShape.{reader, IsFilling, at_some, at_none, concluded, subscriber_named}

-- the mailbox after its first message was received
abbrev pub one_received : Mailbox → Mailbox
one_received box = record box { waiting = drop 1 box.waiting; borrowed = box.borrowed ++ take 1 box.waiting }

-- something waits
data_waits : (box : Mailbox) → 0 < length box.waiting → has_data box ≡ true
data_waits box some = at box.waiting some
  where
    at : (ws : List ℕ) → 0 < length ws → not (is_nil ws) ≡ true
    at [] some = absurd (omega arith)
    at (w ∷ ws) some = refl

-- something may be received
receivable : (most : ℕ) (box : Mailbox) → 0 < length box.waiting → length box.borrowed < most
    → can_receive most box ≡ true
receivable most box some room =
    ap (λ b. b && ltb (length box.borrowed) most) (data_waits box some)
    ∙ ap (λ b. true && b) (lt-ltb (length box.borrowed) most room)

-- what receiving the first message makes of a mailbox
borrowed_so : (box : Mailbox) (n : ℕ) (box' : Mailbox) → BorrowsFirst box n box' → box' ≡ one_received box
borrowed_so box n box' h =
    h.2 ∙ ap (λ (ws : List ℕ). record box { waiting = drop 1 ws; borrowed = box.borrowed ++ take 1 ws }) (sym h.1)

module _ {T U : Type 0} (c : ServiceConfig) (most available : ℕ) (s : State T U) (sent made : ℕ)
    (links : List (Option ℕ)) (due : Bool) (boxes : ℕ → Mailbox)
    (f : IsFilling c most available s sent 0 made links due boxes) (q : ℕ) (low : 2 ≤ q) (high : q < 2 + made)
    (some : 0 < length (boxes q).waiting) (room : length (boxes q).borrowed < c.subscriber_max_borrowed_samples) where
  -- the subscriber
  abbrev who : Subscriber
  who = reader (buffer_limit c) (q - 2)

  -- What the receive comes to.
  pub record IsReceivedOutcome (o : Outcome T U) : Type 0 where
    pub reply : o.reply ≡ Sample 1
    pub filling : IsFilling c most available o.state sent 0 made links due (put_at boxes q (one_received (boxes q)))

  waits : has_data (s.mailboxes 1 q) ≡ true
  waits = ap (λ (b : ℕ → Mailbox). has_data (b q)) f.mailboxes ∙ data_waits (boxes q) some

  may : can_receive (s.config).subscriber_max_borrowed_samples (s.mailboxes 1 q) ≡ true
  may =
      ap (λ (b : ℕ → Mailbox). can_receive (s.config).subscriber_max_borrowed_samples (b q)) f.mailboxes
      ∙ ap (λ (v : ServiceConfig). can_receive v.subscriber_max_borrowed_samples (boxes q)) f.config
      ∙ receivable c.subscriber_max_borrowed_samples (boxes q) some room

  -- the message that is taken
  taken_so : (s' : State T U) (result : ReceiveResult) → TakeSample s q who s' result
      → (n : ℕ) × (box : Mailbox) × (box ≡ one_received (boxes q)) × (s' ≡ with_mailbox s 1 q box)
      × (result ≡ Got_sample 1 n)
  taken_so s' (Got_sample p n) h =
      let same : p ≡ 1 = sym (contains_one 1 p h.0.1) in
      let borrows : BorrowsFirst (s.mailboxes 1 q) n h.1 = subst (λ i. BorrowsFirst (s.mailboxes i q) n h.1) same h.2 in (
        n,
        h.1,
        borrowed_so (s.mailboxes 1 q) n h.1 borrows ∙ ap (λ (b : ℕ → Mailbox). one_received (b q)) f.mailboxes,
        h.3
            ∙ ap (λ i. with_mailbox s i q h.1) same,
        ap (λ i. Got_sample i n) same,
      )
  taken_so s' No_sample h = absurd (true≢false (sym (ap (λ b. b || false) waits) ∙ h.0))
  taken_so s' (Receive_error e) h = absurd (true≢false (sym (ap (λ b. b || false) may) ∙ h.2))

  abbrev after : Mailbox → State T U
  after box = with_mailbox s 1 q box

  filling_after : (box : Mailbox) → box ≡ one_received (boxes q) → IsWellFormed (after box)
      → IsFilling c most available (after box) sent 0 made links due (put_at boxes q (one_received (boxes q)))
  filling_after box same w = record {
    well_formed = w;
    config = f.config;
    next_port = f.next_port;
    next_message = f.next_message;
    longest = f.longest;
    publisher = f.publisher;
    publisher_places = f.publisher_places;
    subscriber_places = f.subscriber_places;
    subscribers = f.subscribers;
    mailboxes = ap (λ (b : ℕ → Mailbox). put_at b q box) f.mailboxes ∙ ap (put_at boxes q) same;
    channels = f.channels;
  }

  received_so : (s' : State T U) (result : ReceiveResult) → Receive ample_memory s q s' result
      → (n : ℕ) × (box : Mailbox) × (box ≡ one_received (boxes q)) × (s' ≡ with_mailbox s 1 q box)
      × (result ≡ Got_sample 1 n)
  received_so s' result h =
      let idle : (h.0 ≡ s) × (h.1 ≡ None) = at_some (s.subscribers q) who _ _ (f.subscribers q low high) h.2 in
      let takes : MatchOption (h.0.subscribers q) ⊥ (λ y. TakeSample h.0 q y s' result) = at_none h.1 _ _ idle.1 h.3 in
      let takes' : MatchOption (s.subscribers q) ⊥ (λ y. TakeSample s q y s' result) =
      subst (λ (v : State T U). MatchOption (v.subscribers q) ⊥ (λ y. TakeSample v q y s' result)) idle.0 takes in
      taken_so s' result (at_some (s.subscribers q) who _ _ (f.subscribers q low high) takes')

  -- the subscriber receives a sample
  pub receive_step : (position : ℕ) (default_value : T) (default_header : U) (m : Messages T U) (handles : List Handle)
      (o : Outcome T U)
      → c.units_per_element ≡ 1 → slice_get handles position ≡ Some (Subscriber_handle q)
      → Step ample_memory default_value default_header m s handles (ReceiveSample position) o → IsWellFormed o.state
      → IsReceivedOutcome o
  receive_step position default_value default_header m handles o units handle step w =
      let named : if_single_units {A = ℕ × Subscriber} s (subscriber_at s handles position) ≡ Some (q, who) =
      ap (if_single_units {A = ℕ × Subscriber} s)
      (subscriber_named s handles position q who handle (f.subscribers q low high) refl)
      ∙ ap (λ n. cond (eqb n 1) (Some (q, who)) None)
      (ap (λ (v : ServiceConfig). v.units_per_element) f.config ∙ units) in
      let k : (s' : State T U) × (result : ReceiveResult) × Receive ample_memory s q s' result
      × (o ≡ after_receive s' q result) = at_some _ (q, who) _ _ named
      step in
      let j : (n : ℕ) × (box : Mailbox) × (box ≡ one_received (boxes q)) × (k.0 ≡ with_mailbox s 1 q box)
      × (k.1 ≡ Got_sample 1 n) = received_so k.0 k.1 k.2 in
      let same : o ≡ after_receive (after j.1) q (Got_sample 1 j.0) = k.3 ∙ ap (after_receive k.0 q) j.4
      ∙ ap (λ (v : State T U). after_receive v q (Got_sample 1 j.0)) j.3 in
      concluded IsReceivedOutcome o (after_receive (after j.1) q (Got_sample 1 j.0)) same w
      (λ w'. record { reply = refl {a = Sample 1}; filling = filling_after j.1 j.2 w' })
