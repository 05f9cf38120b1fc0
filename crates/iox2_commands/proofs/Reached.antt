-- What a run has reached: what it sent is kept, what it holds was sent, and its handles name what it made.
use Rattle.std.proofs.Common.{◌≡◌, ℕ, suc, ◌≤◌, ◌<◌, Bool, true, false, cond, List, [], ◌∷◌, ◌++◌, refl, sym, ap, subst}
use Rattle.std.proofs.Common.{◌∙◌, arith, eqb, Some, ◌⊎◌, inl, inr, ⊎_elim}
use Rattle.std.specs.Prelude.{◌==◌, ◌&&◌}
use Rattle.std.proofs.lemmas.Option.{none-some}
use Rattle.std.proofs.lemmas.Bool.{eq-eqb, or_parts}
use Rattle.iox2_machine.specs.machine.Numbers.{put_at, contains, IsOnce}
use Rattle.iox2_machine.specs.machine.Records.{Entry, Environment}
use Rattle.iox2_machine.specs.machine.State.{State, Messages}
use Rattle.iox2_machine.specs.machine.WellFormed.{IsWellFormed}
use Rattle.iox2_laws.specs.Laws.{Advances}
use Rattle.iox2_laws.proofs.Puts.{at_each, put_at-same}
use Rattle.iox2_laws.proofs.MailboxLemmas.{has_numbers-contains}
use Rattle.iox2_commands.specs.Outcomes.{Handle, Event, No_event, Message_sent, Message_received, Outcome}
use Rattle.iox2_commands.specs.Outcomes.{messages_after}
use Rattle.iox2_commands.specs.Step.{Step}
use Rattle.iox2_commands.specs.Runs.{received}
use Rattle.iox2_commands.specs.RunLaws.{WasSent}
use Rattle.iox2_commands.specs.declared.command.Command.{Command}
use Rattle.iox2_commands.proofs.GrowingLists.{old_or_last}
use Rattle.iox2_commands.proofs.StepLaws.{IsSound, step_sound}
use Rattle.iox2_commands.proofs.Owned.{IsOwn, AreOwn}
use Rattle.iox2_commands.proofs.Follows.{IsTraced}
use Rattle.iox2_commands.proofs.ReadSteps.{PastSends, scope_of, past_after, IsTold, step_told}

-- no number is below one that isn't above it
not_below : {a b : ℕ} → a ≤ b → b < a → ⊥
not_below h k = omega arith

module _ {T U : Type 0} where
  -- ---- what was received

  -- a number that isn't received in a list of events isn't in the rest of it
  pub rest_absent : (p q n : ℕ) (event : Event T U) (events : List (Event T U))
      → contains (received p q (event ∷ events)) n ≡ false
      → contains (received p q events) n ≡ false
  rest_absent p q n No_event events h = h
  rest_absent p q n (Message_sent p' n' entry) events h = h
  rest_absent p q n (Message_received p' q' n') events h = at (p' == p && q' == q) h
    where
      at : (b : Bool) → contains (cond b (n' ∷ received p q events) (received p q events)) n ≡ false
          → contains (received p q events) n ≡ false
      at true h = (or_parts (eqb n' n) (contains (received p q events) n) h).1
      at false h = h

  -- what is received once in a list of events is received once in the rest of it
  pub rest_once : (p q : ℕ) (event : Event T U) (events : List (Event T U)) → IsOnce (received p q (event ∷ events))
      → IsOnce (received p q events)
  rest_once p q No_event events h = h
  rest_once p q (Message_sent p' n' entry) events h = h
  rest_once p q (Message_received p' q' n') events h = at (p' == p && q' == q) h
    where
      at : (b : Bool) → IsOnce (cond b (n' ∷ received p q events) (received p q events)) → IsOnce (received p q events)
      at true h = h.1
      at false h = h

  -- the first that is received
  pub received_first : (p q n : ℕ) (events : List (Event T U))
      → received p q (Message_received p q n ∷ events) ≡ n ∷ received p q events
  received_first p q n events = rw (eq-eqb p p refl) (rw (eq-eqb q q refl) refl)

  -- ---- what a run has reached

  -- What holds after each command of a run.
  pub record HasReached (past : PastSends T U) (m : Messages T U) (s : State T U) (handles : List Handle) : Type 0 where
    pub well_formed : IsWellFormed s
    pub ports : past.first_port ≤ s.next_port
    pub messages : past.first_message ≤ s.next_message
    pub traced : IsTraced (scope_of past) s
    pub own : AreOwn past.first_port past.first_message handles
    -- what was sent has a number that was given out, and it is kept as it was sent
    pub below : (p n : ℕ) (entry : Entry T U) → past.WasSent p n entry → n < s.next_message
    pub kept : (p n : ℕ) (entry : Entry T U) → past.WasSent p n entry → m n ≡ Some entry

  -- what was sent is kept when another message is sent
  kept_after : (past : PastSends T U) (m : Messages T U) (event : Event T U)
      → ((p n : ℕ) (entry : Entry T U) → past.WasSent p n entry → m n ≡ Some entry)
      → ((p n : ℕ) (entry : Entry T U) → event ≡ Message_sent p n entry → (p' : ℕ) (entry' : Entry T U)
      → past.WasSent p' n entry' → ⊥)
      → (p n : ℕ) (entry : Entry T U) → (past.WasSent p n entry ⊎ (event ≡ Message_sent p n entry))
      → messages_after event m n ≡ Some entry
  kept_after past m No_event kept apart p n entry h = ⊎_elim (λ old. kept p n entry old) (λ new. absurd (cc)) h
  kept_after past m (Message_received p' q n') kept apart p n entry h =
      ⊎_elim (λ old. kept p n entry old) (λ new. absurd (cc)) h
  kept_after past m (Message_sent p' n' entry') kept apart p n entry h =
      ⊎_elim
      (λ old. at_each m n' (Some entry') (λ i v. past.WasSent p i entry → v ≡ Some entry) n
      (λ _ w. absurd (apart p' n' entry' refl p entry w))
      (λ _ w. kept p n entry w) old)
      (λ new.
      let a : n' ≡ n = cc in let b : entry' ≡ entry = cc in
      subst (λ i. put_at m n' (Some entry') i ≡ Some entry) a
      (put_at-same m n' (Some entry') ∙ ap (λ (e : Entry T U). Some e) b)) h

  -- a run begins so
  abbrev pub started : State T U → PastSends T U
  started s = record { first_port = s.next_port; first_message = s.next_message; WasSent = λ p n entry. ⊥ }

  -- A run begins so from a well-formed state.
  pub start : (m : Messages T U) (s : State T U) → IsWellFormed s → HasReached (started s) m s []
  start m s w = record {
    well_formed = w;
    ports = omega arith;
    messages = omega arith;
    traced = (
      λ p q k h low. absurd (not_below low ((w.mailboxes p q).known (has_numbers-contains (s.mailboxes p q) k h)).1),
      λ p x e low. absurd (not_below low (w.publishers p x e).is_known),
      λ n l e. (λ p entry v. v, λ low. absurd (not_below low (w.loans n l e).below)),
    );
    own = λ k handle e. absurd (none-some handle e);
    below = λ p n entry v. absurd v;
    kept = λ p n entry v. absurd v;
  }

  module _ (environment : Environment) (default_value : T) (default_header : U) (past : PastSends T U)
      (m : Messages T U) (s : State T U) (handles : List Handle)
      (reached : HasReached past m s handles)
      (command : Command T U) (o : Outcome T U)
      (step : Step environment default_value default_header m s handles command o) where
    -- each step keeps the state well-formed
    pub sound : IsSound s o
    sound = step_sound environment default_value default_header m s handles reached.well_formed command o step

    -- each step tells of its messages
    pub told : IsTold past s handles command o
    told =
        step_told environment default_value default_header m s handles reached.well_formed past reached.traced
        reached.own reached.ports reached.messages
        (λ p entry w. let low : s.next_message < s.next_message = reached.below p s.next_message entry w in
        omega arith) command o step

    -- Each step goes on so.
    pub goes_on : HasReached (past_after past o.event) (messages_after o.event m) o.state (handles ++ o.handle ∷ [])
    goes_on = let a : Advances s o.state = sound.advances in record {
      well_formed = sound.well_formed;
      ports = omega (arith, reached.ports, a.next_port);
      messages = omega (arith, reached.messages, a.next_message);
      traced = told.traced;
      own = λ k handle e. ⊎_elim (λ old. reached.own k handle old)
          (λ new. subst (IsOwn past.first_port past.first_message) new.1 told.own)
          (old_or_last handles o.handle k handle e);
      below = λ p n entry w.
          ⊎_elim (λ old. let low : n < s.next_message = reached.below p n entry old in omega (arith, a.next_message))
          (λ new. sound.sent_below p n entry new) w;
      kept = kept_after past m o.event reached.kept (λ p n entry e. (told.sent p n entry e).0);
    }

  -- what was sent before or in the rest of the events was sent before or in all of them
  pub sent_in_all : (past : PastSends T U) (p n : ℕ) (entry : Entry T U) (now event : Event T U)
      (events : List (Event T U)) → now ≡ event
      → ((past_after past now).WasSent p n entry ⊎ WasSent p n entry events)
      → (past.WasSent p n entry ⊎ WasSent p n entry (event ∷ events))
  sent_in_all past p n entry now event events same h =
      ⊎_elim (λ before. ⊎_elim (λ old. inl old) (λ new. inr (0, ap (λ (e : Event T U). Some e) (sym same ∙ new)))
      before) (λ later. inr (suc later.0, later.1)) h
