-- In a run each message that is borrowed was received by a subscriber of the run, whose sample of it wasn't released
-- since.
use Rattle.std.proofs.Common.{◌≡◌, ⊎_elim, ℕ, suc, ◌+◌, ◌≤◌, ◌<◌, true, not, List, [], ◌∷◌, ◌++◌, length, refl, sym, ap}
use Rattle.std.proofs.Common.{subst, ◌∙◌, arith, Some}
use Rattle.std.specs.Prelude.{slice_get}
use Rattle.std.proofs.lemmas.Bool.{true≢false, false_from_ne_true, cases_eq}
use Rattle.std.proofs.lemmas.List.{length-append}
use Rattle.std.proofs.lemmas.Option.{none-some, same_Some}
use Rattle.iox2_machine.specs.machine.Numbers.{is_nil, contains}
use Rattle.iox2_machine.specs.machine.Mailbox.{Mailbox, is_borrowed, has_borrows}
use Rattle.iox2_machine.specs.machine.State.{State, Messages, fresh}
use Rattle.iox2_machine.specs.machine.Environments.{ample_memory}
use Rattle.iox2_machine.specs.declared.service_config.ServiceConfig.{ServiceConfig}
use Rattle.iox2_laws.proofs.NumberLemmas.{contains_first}
use Rattle.iox2_commands.specs.Isolation.{HasBorrowedNothing, HasReleased}
use Rattle.iox2_commands.specs.Outcomes.{Handle, Subscriber_handle, Sample_handle, Outcome}
use Rattle.iox2_commands.specs.RunLaws.{IsUnreleased}
use Rattle.iox2_commands.specs.Step.{Step}
use Rattle.iox2_commands.specs.declared.command.Command.{Command}
use Rattle.iox2_commands.specs.declared.command.Command.TheVariants.{Receive, Release}
use Rattle.iox2_commands.specs.declared.reply.Reply.{Reply}
use Rattle.iox2_commands.specs.declared.reply.Reply.TheVariants.{Sample}
use Rattle.iox2_commands.proofs.GrowingLists.{old_or_last, found_earlier, found_last, found_below}
use Rattle.iox2_commands.proofs.AlikeHandles.{Fits, step_fits}
use Rattle.iox2_commands.proofs.AlikePositions.{handle_told}
use Rattle.iox2_commands.proofs.BorrowSteps.{BorrowedAfter, borrowed_after}

-- where something is borrowed, some number is
some_borrowed : (box : Mailbox) → has_borrows box ≡ true → (n : ℕ) × (is_borrowed n box ≡ true)
some_borrowed box h = at box.borrowed h
  where
    at : (ns : List ℕ) → not (is_nil ns) ≡ true → (n : ℕ) × (contains ns n ≡ true)
    at [] h = absurd (true≢false (sym h))
    at (n ∷ ns) h = (n, contains_first n ns)

module _ {T U : Type 0} (all : List (Command T U)) (all_replies : List (Reply T U)) where
  -- A receive of the subscriber r got the sample that a handle names, and no command since released it.
  pub record IsHeld (handles : List Handle) (p r n : ℕ) : Type 0 where
    pub of : ℕ
    pub at : ℕ
    pub subscriber : slice_get handles of ≡ Some (Subscriber_handle r)
    pub received : slice_get all at ≡ Some (Receive of)
    pub replied : slice_get all_replies at ≡ Some (Sample p)
    pub sample : slice_get handles at ≡ Some (Sample_handle p r n)
    pub unreleased : IsUnreleased all at (length handles)

  -- A run of all these commands after as many of them as there are handles: what is left of the commands and replies;
  -- each subscriber has one handle; and each message that is borrowed is held.
  pub record GoesOn (commands : List (Command T U)) (replies : List (Reply T U)) (s : State T U)
      (handles : List Handle) : Type 0 where
    pub comes : (i : ℕ) (command : Command T U) → slice_get commands i ≡ Some command
        → slice_get all (length handles + i) ≡ Some command
    pub replied : (i : ℕ) (reply : Reply T U) → slice_get replies i ≡ Some reply
        → slice_get all_replies (length handles + i) ≡ Some reply
    pub known : (i r : ℕ) → slice_get handles i ≡ Some (Subscriber_handle r) → r < s.next_port
    pub once : (i j r : ℕ) → slice_get handles i ≡ Some (Subscriber_handle r)
        → slice_get handles j ≡ Some (Subscriber_handle r) → i ≡ j
    pub held : (p r n : ℕ) → is_borrowed n (s.mailboxes p r) ≡ true → IsHeld handles p r n

  plus_zero : (n : ℕ) → n + 0 ≡ n
  plus_zero n = omega arith

  zero_plus : (n : ℕ) → n ≡ 0 + n
  zero_plus n = omega arith

  shifted : (n n' i : ℕ) → n' ≡ n + 1 → n + suc i ≡ n' + i
  shifted n n' i e = omega arith

  -- A run begins so on a new domain.
  pub begins : (c : ServiceConfig) (commands : List (Command T U)) (replies : List (Reply T U))
      → ((i : ℕ) (command : Command T U) → slice_get commands i ≡ Some command → slice_get all i ≡ Some command)
      → replies ≡ all_replies → GoesOn commands replies (fresh c) []
  begins c commands replies comes same = record {
    comes = λ i command e. subst (λ (n : ℕ). slice_get all n ≡ Some command) (zero_plus i) (comes i command e);
    replied = λ i reply e. subst (λ (n : ℕ). slice_get all_replies n ≡ Some reply) (zero_plus i)
        (subst (λ (v : List (Reply T U)). slice_get v i ≡ Some reply) same e);
    known = λ i r e. absurd (none-some (Subscriber_handle r) e);
    once = λ i j r e _. absurd (none-some (Subscriber_handle r) e);
    held = λ p r n h. absurd (true≢false (sym h));
  }

  module _ (commands : List (Command T U)) (replies : List (Reply T U)) (s : State T U) (handles : List Handle) where
    -- the command and the reply that come next
    pub next_command : (command : Command T U) (rest : List (Command T U)) → commands ≡ command ∷ rest
        → GoesOn commands replies s handles → slice_get all (length handles) ≡ Some command
    next_command command rest are stands =
        subst (λ (n : ℕ). slice_get all n ≡ Some command) (plus_zero (length handles))
        (stands.comes 0 command (ap (λ (v : List (Command T U)). slice_get v 0) are))

    pub next_reply : (reply : Reply T U) (rest : List (Reply T U)) → replies ≡ reply ∷ rest
        → GoesOn commands replies s handles → slice_get all_replies (length handles) ≡ Some reply
    next_reply reply rest are stands =
        subst (λ (n : ℕ). slice_get all_replies n ≡ Some reply) (plus_zero (length handles))
        (stands.replied 0 reply (ap (λ (v : List (Reply T U)). slice_get v 0) are))

    -- A subscriber whose samples are all released by now has borrowed nothing.
    pub nothing_borrowed : (of r : ℕ) → GoesOn commands replies s handles
        → slice_get handles of ≡ Some (Subscriber_handle r)
        → HasReleased of (length handles) all all_replies → HasBorrowedNothing s r
    nothing_borrowed of r stands named all_released p =
        false_from_ne_true (has_borrows (s.mailboxes p r)) (λ some.
        let one : (n : ℕ) × (is_borrowed n (s.mailboxes p r) ≡ true) = some_borrowed (s.mailboxes p r) some in
        let h : IsHeld handles p r one.0 = stands.held p r one.0 one.1 in
        let same : h.of ≡ of = stands.once h.of of r h.subscriber named in
        let gone : (k : ℕ) × (h.at < k) × (k < length handles) × (slice_get all k ≡ Some (Release h.at)) =
        all_released h.at p (found_below handles h.at (Sample_handle p r one.0) h.sample)
        (h.received ∙ ap (λ (i : ℕ). Some (Receive i)) same) h.replied in
        h.unreleased gone.0 gone.1 gone.2 gone.3)

  module _ (s : State T U) (handles : List Handle) (command : Command T U) (o : Outcome T U) where
    -- all handles after the command
    abbrev handles_after : List Handle
    handles_after = handles ++ o.handle ∷ []

    one_more : length handles_after ≡ length handles + 1
    one_more = length-append handles (o.handle ∷ [])

    -- what is still held after a command
    held_more : slice_get all (length handles) ≡ Some command → slice_get all_replies (length handles) ≡ Some o.reply
        → (p r n : ℕ) → BorrowedAfter s handles command o p r n
        → (is_borrowed n (s.mailboxes p r) ≡ true → IsHeld handles p r n) → IsHeld handles_after p r n
    held_more here told p r n borrowed before =
        ⊎_elim
        (λ old.
        let h : IsHeld handles p r n = before old.0 in
        record {
          of = h.of;
          at = h.at;
          subscriber = found_earlier handles (o.handle ∷ []) h.of (Subscriber_handle r) h.subscriber;
          received = h.received;
          replied = h.replied;
          sample = found_earlier handles (o.handle ∷ []) h.at (Sample_handle p r n) h.sample;
          unreleased = λ j past below e.
              ⊎_elim
              (λ last. old.1 h.at (same_Some command (Release h.at)
              (sym here ∙ ap (λ (k : ℕ). slice_get all k) (sym last) ∙ e)) h.sample)
              (λ apart. h.unreleased j past (earlier j (length handles) (length handles_after) one_more below apart) e)
              (cases_eq j (length handles));
        })
        (λ new. record {
          of = new.0;
          at = length handles;
          subscriber = found_earlier handles (o.handle ∷ []) new.0 (Subscriber_handle r) new.2;
          received = here ∙ ap (λ (v : Command T U). Some v) new.1;
          replied = told ∙ ap (λ (v : Reply T U). Some v) new.4;
          sample = found_last handles o.handle ∙ ap (λ (v : Handle). Some v) new.3;
          unreleased = λ j past below e. let more = one_more in absurd (omega (arith, more));
        })
        borrowed
      where
        earlier : (j n n' : ℕ) → n' ≡ n + 1 → j < n' → (j ≡ n → ⊥) → j < n
        earlier j n n' e below apart = omega (arith, apart)

    -- One command later the run goes on.
    pub goes_on : (default_value : T) (default_header : U) (m : Messages T U) (commands : List (Command T U))
        (later : List (Reply T U)) → GoesOn (command ∷ commands) (o.reply ∷ later) s handles
        → s.next_port ≤ (o.state).next_port → Step ample_memory default_value default_header m s handles command o
        → GoesOn commands later o.state (handles ++ o.handle ∷ [])
    goes_on default_value default_header m commands later stands rises step =
        let fits : Fits s handles command o = step_fits default_value default_header m s handles command o step in
        record {
          comes = λ i next e. subst (λ (n : ℕ). slice_get all n ≡ Some next)
              (shifted (length handles) (length handles_after) i one_more) (stands.comes (suc i) next e);
          replied = λ i reply e. subst (λ (n : ℕ). slice_get all_replies n ≡ Some reply)
              (shifted (length handles) (length handles_after) i one_more) (stands.replied (suc i) reply e);
          known = λ i r e.
              ⊎_elim
              (λ old. let low : r < s.next_port = stands.known i r old in omega arith)
              (λ last. let is : (r ≡ s.next_port) × ((o.state).next_port ≡ s.next_port + 1) = handle_told s handles
              command o r fits last.1 in omega (arith, is.0, is.1))
              (old_or_last handles o.handle i (Subscriber_handle r) e);
          once = λ i j r e f.
              ⊎_elim
              (λ old. ⊎_elim (λ old'. stands.once i j r old old') (λ last. absurd (new_apart r i fits old last.1))
              (old_or_last handles o.handle j (Subscriber_handle r) f))
              (λ last. ⊎_elim (λ old. absurd (new_apart r j fits old last.1)) (λ last'. last.0 ∙ sym last'.0)
              (old_or_last handles o.handle j (Subscriber_handle r) f))
              (old_or_last handles o.handle i (Subscriber_handle r) e);
          held = λ p r n h.
              held_more (next_command (command ∷ commands) (o.reply ∷ later) s handles command commands refl stands)
              (next_reply (command ∷ commands) (o.reply ∷ later) s handles o.reply later refl stands) p r n
              (borrowed_after ample_memory default_value default_header m s handles command o step p r n h)
              (stands.held p r n);
        }
      where
        -- a new subscriber isn't one that has a handle
        new_apart : (r i : ℕ) → Fits s handles command o → slice_get handles i ≡ Some (Subscriber_handle r)
            → o.handle ≡ Subscriber_handle r → ⊥
        new_apart r i fits old last =
            let low : r < s.next_port = stands.known i r old in
            let is : (r ≡ s.next_port) × ((o.state).next_port ≡ s.next_port + 1) =
            handle_told s handles command o r fits last in
            omega (arith, is.0)
