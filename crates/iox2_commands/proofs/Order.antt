-- What a subscriber receives from a publisher is a part of what that publisher sent, in the same order.
use Rattle.std.proofs.Common.{◌≡◌, ℕ, ◌<◌, true, false, cond, ◌&&◌, List, [], ◌∷◌, ◌++◌, refl, sym, ap, subst, ◌∙◌}
use Rattle.std.proofs.Common.{arith, eqb, ltb, ⊎_elim}
use Rattle.std.proofs.lemmas.Bool.{true≢false, eqb-true, eq-eqb, ne_eqb, ltb-true, ltb-false}
use Rattle.std.proofs.lemmas.List.{append-nil}
use Rattle.std.proofs.lemmas.Option.{none-some}
use Rattle.iox2_machine.specs.machine.Numbers.{put_at, IsOnce}
use Rattle.iox2_machine.specs.machine.Mailbox.{Mailbox, has_numbers}
use Rattle.iox2_machine.specs.machine.Records.{Environment}
use Rattle.iox2_machine.specs.machine.State.{State, Messages}
use Rattle.iox2_machine.specs.machine.WellFormed.{IsWellFormed}
use Rattle.iox2_laws.proofs.MailboxLemmas.{nothing_anywhere}
use Rattle.iox2_laws.proofs.NumberLemmas.{false_from}
use Rattle.iox2_commands.specs.Outcomes.{Event, No_event, Message_sent, Message_received, Outcome, messages_after}
use Rattle.iox2_commands.specs.Step.{Step}
use Rattle.iox2_machine.specs.machine.Environments.{fixed_handlers, ample_memory}
use Rattle.iox2_commands.specs.Runs.{Defaults, any_defaults, Run, sent, received, IsSubsequence}
use Rattle.iox2_commands.specs.RunLaws.{ReceivesInOrder}
use Rattle.iox2_commands.specs.declared.command.Command.{Command}
use Rattle.iox2_commands.specs.declared.reply.Reply.{Reply}
use Rattle.iox2_commands.proofs.GrowingLists.{old_or_last}
use Rattle.iox2_commands.proofs.StepLaws.{IsSound, step_sound}
use Rattle.iox2_commands.proofs.RunInduction.{PastCommands, no_past, past_with, run_induction}
use Rattle.iox2_commands.proofs.Subsequences.{IsSubsequence-nil, IsSubsequence-same, IsSubsequence-trans}
use Rattle.iox2_commands.proofs.Subsequences.{IsSubsequence-front, once_part}
use Rattle.iox2_commands.proofs.Ordered.{Ordered}
use Rattle.iox2_commands.proofs.OrderCommands.{IsNew, AllNew, out_after, got_then, Goes, command_goes}

-- a list that grows where the keys agree
grows : (f : ℕ → List ℕ) (p n i : ℕ) → f i ++ cond (eqb p i) (n ∷ []) [] ≡ put_at f p (f p ++ n ∷ []) i
grows f p n i =
    elim (eqb i p) as (λ b. eqb i p ≡ b → f i ++ cond (eqb p i) (n ∷ []) [] ≡ cond b (f p ++ n ∷ []) (f i)) [
      | true ↦ λ e. let same : i ≡ p = eqb-true i p e in
          ap (λ b. f i ++ cond b (n ∷ []) []) (eq-eqb p i (sym same)) ∙ ap (λ j. f j ++ n ∷ []) same
      | false ↦ λ e. ap (λ b. f i ++ cond b (n ∷ []) [])
          (ne_eqb p i (λ same. true≢false (sym (eq-eqb i p (sym same)) ∙ e))) ∙ append-nil (f i)
    ] refl

-- where nothing is in a mailbox nothing waits
nothing_waits : (box : Mailbox) → has_numbers box ≡ false → box.waiting ≡ []
nothing_waits box h = (nothing_anywhere box h).1

module _ {T U : Type 0} where
  -- what is sent in a list's end comes behind what was sent before
  sent-append : (p : ℕ) (xs ys : List (Event T U)) → sent p (xs ++ ys) ≡ sent p xs ++ sent p ys
  sent-append p [] ys = refl
  sent-append p (No_event ∷ xs) ys = sent-append p xs ys
  sent-append p (Message_sent p' n entry ∷ xs) ys =
      elim (eqb p' p) as (λ b.
      cond b (n ∷ sent p (xs ++ ys)) (sent p (xs ++ ys)) ≡ cond b (n ∷ sent p xs) (sent p xs) ++ sent p ys) [
        | true ↦ ap (λ r. n ∷ r) (sent-append p xs ys)
        | false ↦ sent-append p xs ys
      ]
  sent-append p (Message_received p' q n ∷ xs) ys = sent-append p xs ys

  -- and so with what is received
  pub received-append : (p q : ℕ) (xs ys : List (Event T U))
      → received p q (xs ++ ys) ≡ received p q xs ++ received p q ys
  received-append p q [] ys = refl
  received-append p q (No_event ∷ xs) ys = received-append p q xs ys
  received-append p q (Message_sent p' n entry ∷ xs) ys = received-append p q xs ys
  received-append p q (Message_received p' q' n ∷ xs) ys =
      elim (eqb p' p && eqb q' q) as (λ b. cond b (n ∷ received p q (xs ++ ys)) (received p q (xs ++ ys)) ≡ cond b
      (n ∷ received p q xs) (received p q xs) ++ received p q ys) [
        | true ↦ ap (λ r. n ∷ r) (received-append p q xs ys)
        | false ↦ received-append p q xs ys
      ]

  -- what was sent after one more event
  sent_after : (events : List (Event T U)) (event : Event T U) (p : ℕ)
      → sent p (events ++ event ∷ []) ≡ out_after (λ i. sent i events) event p
  sent_after events No_event p = sent-append p events (No_event ∷ []) ∙ append-nil (sent p events)
  sent_after events (Message_received p' q n) p =
      sent-append p events (Message_received p' q n ∷ []) ∙ append-nil (sent p events)
  sent_after events (Message_sent p' n entry) p =
      sent-append p events (Message_sent p' n entry ∷ []) ∙ grows (λ i. sent i events) p' n p

  -- what was received after one more event
  received_after : (events : List (Event T U)) (event : Event T U) (p q : ℕ)
      → received p q (events ++ event ∷ []) ≡ got_then (λ i j. received i j events) event p q
  received_after events No_event p q = received-append p q events (No_event ∷ []) ∙ append-nil (received p q events)
  received_after events (Message_sent p' n entry) p q =
      received-append p q events (Message_sent p' n entry ∷ []) ∙ append-nil (received p q events)
  received_after events (Message_received p' q' n) p q =
      received-append p q events (Message_received p' q' n ∷ [])
      ∙ elim (eqb p p') as (λ b. eqb p p' ≡ b → received p q events ++ cond (eqb p' p && eqb q' q) (n ∷ []) []
      ≡ cond b (put_at (λ j. received p' j events) q' (received p' q' events ++ n ∷ [])) (λ j. received p j events) q) [
        | true ↦ λ e. let same : p ≡ p' = eqb-true p p' e in
            ap (λ b. received p q events ++ cond (b && eqb q' q) (n ∷ []) []) (eq-eqb p' p (sym same))
            ∙ ap (λ i. received i q events ++ cond (eqb q' q) (n ∷ []) []) same
            ∙ grows (λ j. received p' j events) q' n q
        | false ↦ λ e. ap (λ b. received p q events ++ cond (b && eqb q' q) (n ∷ []) [])
            (ne_eqb p' p (λ same. true≢false (sym (eq-eqb p p' (sym same)) ∙ e))) ∙ append-nil (received p q events)
      ] refl

  -- what holds of lists holds of the same lists
  ordered_same : (p0 n0 : ℕ) (out out' : ℕ → List ℕ) (got got' : ℕ → ℕ → List ℕ) (s : State T U)
      → ((p : ℕ) → out' p ≡ out p) → ((p q : ℕ) → got' p q ≡ got p q)
      → Ordered p0 n0 out got s → Ordered p0 n0 out' got' s
  ordered_same p0 n0 out out' got got' s e f w =
      let same_out : out ≡ out' = λ i p. sym (e p) i in
      let same_got : got ≡ got' = λ i p q. sym (f p q) i in
      subst (λ (o : ℕ → List ℕ). Ordered p0 n0 o got' s) same_out
      (subst (λ (g : ℕ → ℕ → List ℕ). Ordered p0 n0 out g s) same_got w)

  -- ---- the run

  -- What holds throughout a run that began with the counters at p0 and n0.
  pub record IsInOrder (p0 n0 : ℕ) (past : PastCommands T U) (m : Messages T U) (s : State T U) : Type 0 where
    pub well_formed : IsWellFormed s
    pub ordered : Ordered p0 n0 (λ p. sent p past.events) (λ p q. received p q past.events) s
    pub handles_new : AllNew p0 n0 past.handles

  -- At the start nothing was sent or received, and nothing waits for a port that is yet to be made.
  begins_in_order : (m : Messages T U) (s : State T U) → IsWellFormed s
      → IsInOrder s.next_port s.next_message no_past m s
  begins_in_order m s w = record {
    well_formed = w;
    handles_new = λ i handle e. absurd (none-some handle e);
    ordered = record {
      ports = omega arith;
      numbers = omega arith;
      loans = λ n l e high. let low : n < s.next_message = (w.loans n l e).below in absurd (omega arith);
      order = λ p q high.
          IsSubsequence-same (nothing_waits (s.mailboxes p q) (false_from (has_numbers (s.mailboxes p q)) (λ some.
          let low : q < s.next_port = ((w.mailboxes p q).known some).1 in absurd (omega arith))));
      silent = λ p q low. refl;
      history = λ p x high e. let low : p < s.next_port = (w.publishers p x e).is_known in absurd (omega arith);
      unconnected = λ p q x high high_q e opened no_end. refl;
      unmade = λ p high. refl;
      unmade_receiver = λ p q high. refl;
      once = λ p. tt;
      unsent = λ p n l e. refl;
      below = λ p n h. absurd (true≢false (sym h));
      blocked = λ p x b high e f. let low : p < s.next_port = (w.publishers p x e).is_known in absurd (omega arith);
    };
  }

  module _ (environment : Environment) (defaults : Defaults T U) where
    -- Each step keeps it.
    keeps_in_order : (p0 n0 : ℕ) (past : PastCommands T U) (m : Messages T U) (s : State T U) (default_value : T)
        (default_header : U) (command : Command T U) (o : Outcome T U)
        → IsInOrder p0 n0 past m s → Step environment default_value default_header m s past.handles command o
        → IsInOrder p0 n0 (past_with past command o) (messages_after o.event m) o.state
    keeps_in_order p0 n0 past m s default_value default_header command o k h =
        let goes : Goes p0 n0 (λ p. sent p past.events) (λ p q. received p q past.events) o =
        command_goes p0 n0 (λ p. sent p past.events) (λ p q. received p q past.events) environment default_value
        default_header m s past.handles k.well_formed k.ordered k.handles_new command o h in
        let sound : IsSound s o =
        step_sound environment default_value default_header m s past.handles k.well_formed command o h in
        record {
          well_formed = sound.well_formed;
          ordered = ordered_same p0 n0 (out_after (λ p. sent p past.events) o.event)
              (λ p. sent p (past.events ++ o.event ∷ []))
              (got_then (λ p q. received p q past.events) o.event)
              (λ p q. received p q (past.events ++ o.event ∷ [])) o.state
              (sent_after past.events o.event) (received_after past.events o.event) goes.ordered;
          handles_new = λ i handle e. ⊎_elim (λ old. k.handles_new i handle old)
              (λ new. subst (IsNew p0 n0) new.1 goes.handle) (old_or_last past.handles o.handle i handle e);
        }

    -- What was received is a part of what was sent.
    in_order : (p0 n0 : ℕ) (out : ℕ → List ℕ) (got : ℕ → ℕ → List ℕ) (s : State T U) → Ordered p0 n0 out got s
        → (p q : ℕ) → IsSubsequence (got p q) (out p)
    in_order p0 n0 out got s w p q =
        elim (ltb q p0) as (λ b. ltb q p0 ≡ b → IsSubsequence (got p q) (out p)) [
          | true ↦ λ e.
              subst (λ g. IsSubsequence g (out p)) (sym (w.silent p q (ltb-true q p0 e))) (IsSubsequence-nil (out p))
          | false ↦ λ e. IsSubsequence-trans (IsSubsequence-front (got p q) (s.mailboxes p q).waiting)
              (w.order p q (ltb-false q p0 e))
        ] refl

    -- In a run from any well-formed state, a publisher sends each number once, and what a subscriber receives from it
    -- is a subsequence of what it sent, in which each number occurs once.
    pub receives_in_order : (m m' : Messages T U) (s s' : State T U) (commands : List (Command T U))
        (replies : List (Reply T U)) (events : List (Event T U))
        → IsWellFormed s → Run environment defaults m s commands replies events m' s' → (p q : ℕ)
        → IsOnce (sent p events) × IsSubsequence (received p q events) (sent p events) × IsOnce (received p q events)
    receives_in_order m m' s s' commands replies events w h p q =
        let p0 : ℕ = s.next_port in
        let n0 : ℕ = s.next_message in
        let k : (past : PastCommands T U) × (past.commands ≡ commands) × (past.replies ≡ replies)
        × (past.events ≡ events) × IsInOrder p0 n0 past m' s' =
        run_induction environment defaults (IsInOrder p0 n0)
        (λ past m s default_value default_header command o _ _ v step.
        keeps_in_order p0 n0 past m s default_value default_header command o v step)
        no_past m m' s s' commands replies events (begins_in_order m s w) h in
        let end : Ordered p0 n0 (λ p. sent p events) (λ p q. received p q events) s' =
        subst (λ (es : List (Event T U)). Ordered p0 n0 (λ p. sent p es) (λ p q. received p q es) s') k.3
        (k.4).ordered in
        let part : IsSubsequence (received p q events) (sent p events) =
        in_order p0 n0 (λ p. sent p events) (λ p q. received p q events) s' end p q in
        (end.once p, part, once_part part (end.once p))

-- Messages are received in the order in which they were sent.
pub receives_in_order_law : (T U : Type 0) → ReceivesInOrder T U
receives_in_order_law T U may_refuse_memory m m' s s' commands replies events w h =
    receives_in_order
    (cond may_refuse_memory fixed_handlers ample_memory) any_defaults m m' s s' commands replies events w h
