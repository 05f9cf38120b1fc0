-- Blocked sends that are tried again or given up, with what a run holds.
use Rattle.std.proofs.Common.{◌≡◌, ℕ, ◌<◌, false, None, Some, List, [], ◌∷◌, ◌++◌, map, refl, sym, ap, subst, ◌∙◌}
use Rattle.std.specs.Prelude.{IfOk, slice_set, slice_index_or}
use Rattle.std.specs.declared.result.Result.{Result}
use Rattle.std.specs.declared.result.Result.TheVariants.{Ok, Err}
use Rattle.std.specs.declared.time.Duration.{Duration}
use Rattle.iox2_machine.specs.machine.Environments.{fixed_handlers}
use Rattle.iox2_machine.specs.machine.Records.{Environment, Publisher, BlockedSend as Waiting}
use Rattle.iox2_machine.specs.machine.Sends.{Retry, GiveUp, SendResult, Delivered_to, Blocked_send, Send_error}
use Rattle.iox2_machine.specs.machine.SingleCalls.{HoldsBlocked}
use Rattle.iox2_machine.specs.machine.State.{State, Messages}
use Rattle.iox2_machine.specs.declared.errors.SendError.{SendError}
use Rattle.iox2_machine.specs.declared.key.Key.{Key}
use Rattle.iox2_laws.specs.Laws.{Advances}
use Rattle.iox2_laws.proofs.LoanKeeping.{retry_loans, give_up_loans}
use Rattle.iox2_laws.proofs.SendLaws.{retry_advances, give_up_advances}
use Rattle.iox2_laws.proofs.SendsRemain.{retry_frees, give_up_frees}
use Rattle.iox2_domain.specs.Kept.{Kept as Domain}
use Rattle.iox2_domain.specs.Shows.{Shows}
use Rattle.iox2_pubsub.specs.Live.{IsBlockedSend, blocked_key}
use Rattle.iox2_pubsub.specs.SendCalls.{IfBlocked, result_of_send}
use Rattle.iox2_pubsub.proofs.LiveParts.{blocked-parts}
use Rattle.iox2_pubsub.specs.declared.blocked_send.BlockedSend.{BlockedSend}
use Rattle.iox2_pubsub.specs.declared.send_outcome.SendOutcome.{SendOutcome}
use Rattle.iox2_pubsub.specs.declared.send_outcome.SendOutcome.TheVariants.{Delivered as WasDelivered}
use Rattle.iox2_pubsub.specs.declared.send_outcome.SendOutcome.TheVariants.{Blocked as IsBlocked}
use Rattle.iox2_commands.specs.Outcomes.{Handle, Blocked_handle, Outcome, replied, skipped}
use Rattle.iox2_commands.specs.Runs.{Defaults}
use Rattle.iox2_commands.specs.Step.{Step, after_retry, blocked_at}
use Rattle.iox2_commands.specs.declared.command.Command.{Command}
use Rattle.iox2_commands.specs.declared.command.Command.TheVariants.{Retry as RetrySend, GiveUp as GiveUpSend}
use Rattle.iox2_commands.specs.declared.reply.Reply.TheVariants.{Skipped}
use Rattle.iox2_runs.specs.Tables.{TableEntry, No_entry, HasNoBox, IsEntryOf}
use Rattle.iox2_runs.specs.RunSteps.{Comes}
use Rattle.iox2_runs.specs.Carries.{entry_for, Carries}
use Rattle.iox2_runs.specs.SendReplies.{reply_to_send, made_by_send}
use Rattle.iox2_runs.specs.declared.runs.made.Made.{Made}
use Rattle.iox2_runs.specs.declared.runs.made.Made.TheVariants.{Nothing, Blocked}
use Rattle.iox2_runs.proofs.FixedSends.{unboxed_still, retries_fixed, gives_up_fixed}
use Rattle.iox2_runs.proofs.TableBlocked.{goes_on_comes}
use Rattle.iox2_runs.proofs.TableCalls.{skip_comes, at_none, at_some}
use Rattle.iox2_runs.proofs.TableEntries.{entries-set, entry-stands, lacks}
use Rattle.iox2_runs.proofs.TableLooks.{is_blocked_entry, lacks_blocked, has_blocked, handle_of}
use Rattle.iox2_runs.proofs.TablePassed.{Passed, free_waits, retry_passes, give_up_passes}

-- what holds of each blocked send of the first kind holds of it
pub each_blocked : (P Q : BlockedSend → Type 0) → ((blocked : BlockedSend) → P blocked → Q blocked)
    → (outcome : Result SendOutcome SendError) → IfOk outcome (λ came. IfBlocked came P)
    → IfOk outcome (λ came. IfBlocked came Q)
each_blocked P Q maps (Ok (WasDelivered count)) is = tt
each_blocked P Q maps (Ok (IsBlocked blocked)) is = maps blocked is
each_blocked P Q maps (Err error) is = tt

-- a blocked send of a publisher without a box has its entry
pub blocked_entry : {T U F G : Type 0} (new : Domain T U F G) (m : Messages T U) (s : State T U) → Shows new m s
    → (blocked : BlockedSend) → IsBlockedSend new blocked
    → (key : Key) → blocked_key blocked ≡ key → HasNoBox s key.port
    → IsEntryOf s (Blocked_handle key.port key.message) (entry_for (Blocked blocked))
blocked_entry {T} {U} new m s shown blocked waits key is unboxed =
    let parts = blocked-parts new (blocked_key blocked) waits in (
      parts.0 ∙ sym (ap (λ (t : State T U). (t.config).service_id) shown.state),
      ap (λ (k : Key). Blocked_handle k.port k.message) (sym is),
      subst (λ (t : State T U). HoldsBlocked t blocked.loan.publisher blocked.loan.number) (sym shown.state) parts.1,
      subst (λ (k : Key). HasNoBox s k.port) (sym is) unboxed,
    )

-- the reply says what the machine does
told_so : {T U : Type 0} (s : State T U) (outcome : Result SendOutcome SendError)
    → replied (reply_to_send outcome) s ≡ after_retry s (result_of_send outcome)
told_so s (Ok (WasDelivered count)) = refl
told_so s (Ok (IsBlocked blocked)) = refl
told_so s (Err error) = refl

-- What a command on a blocked send does, and what is known of that.
pub record GoesOn (T U : Type 0) (command : Command T U) (of : ℕ) : Type 1 where
  pub Goes : State T U → (p : ℕ) → Waiting → State T U → SendResult → Type 0
  pub Asks : State T U → (p : ℕ) → Waiting → State T U → SendResult → Type 0  -- where boxes may answer
  pub fixed : (s : State T U) (p : ℕ) (b : Waiting) (s' : State T U) (result : SendResult) → HasNoBox s p
      → Asks s p b s' result → Goes s p b s' result
  pub step : (default_value : T) (default_header : U) (m : Messages T U) (s : State T U) (handles : List Handle) (p : ℕ)
      (b : Waiting) (s' : State T U) (result : SendResult) (o : Outcome T U)
      → blocked_at s handles of ≡ Some (p, b) → Goes s p b s' result → o ≡ after_retry s' result
      → Step fixed_handlers default_value default_header m s handles command o
  pub skips : (default_value : T) (default_header : U) (m : Messages T U) (s : State T U) (handles : List Handle)
      → blocked_at s handles of ≡ None
      → Step fixed_handlers default_value default_header m s handles command (skipped s)
  pub passes : (s : State T U) (p : ℕ) (x : Publisher) (b : Waiting) → s.publishers p ≡ Some x → x.blocked ≡ Some b
      → (s' : State T U) (result : SendResult) → Goes s p b s' result → Passed p b.message s s'
  pub advances : (s : State T U) (p : ℕ) (b : Waiting) (s' : State T U) (result : SendResult) → Goes s p b s' result
      → Advances s s'
  pub loans : (s : State T U) (p : ℕ) (b : Waiting) (s' : State T U) (result : SendResult) → Goes s p b s' result
      → s'.loans ≡ s.loans
  pub frees : (s : State T U) (p : ℕ) (b : Waiting) (s' : State T U) (result : SendResult) → (result ≡ Blocked_send → ⊥)
      → Goes s p b s' result
      → (x' : Publisher) → s'.publishers p ≡ Some x' → x'.blocked ≡ None

-- it is tried again
abbrev pub retry_goes : {T U : Type 0} → Environment → (of : ℕ) (elapsed : Duration)
    → GoesOn T U (RetrySend of elapsed) of
retry_goes environment of elapsed = record {
  Goes = λ s p b s' result. Retry fixed_handlers s p b elapsed s' result;
  Asks = λ s p b s' result. Retry environment s p b elapsed s' result;
  fixed = λ s p b s' result unboxed asks. retries_fixed environment s p b elapsed s' result unboxed asks;
  step = λ default_value default_header m s handles p b s' result o named goes is.
      at_some _ _ _ (p, b) named (s', result, goes, is);
  skips = λ default_value default_header m s handles none. at_none _ _ _ none refl;
  passes = λ s p x b stands waiting s' result goes.
      retry_passes fixed_handlers s p x b stands waiting s' elapsed result goes;
  advances = λ s p b s' result goes. retry_advances fixed_handlers s p b elapsed s' result goes;
  loans = λ s p b s' result goes. retry_loans fixed_handlers s p b elapsed s' result goes;
  frees = λ s p b s' result ended goes. retry_frees fixed_handlers s p b elapsed s' result ended goes;
}

-- it is given up
abbrev pub give_up_goes : {T U : Type 0} → Environment → (of : ℕ) → GoesOn T U (GiveUpSend of) of
give_up_goes environment of = record {
  Goes = λ s p b s' result. GiveUp fixed_handlers s p b s' result;
  Asks = λ s p b s' result. GiveUp environment s p b s' result;
  fixed = λ s p b s' result unboxed asks. gives_up_fixed environment s p b s' result unboxed asks;
  step = λ default_value default_header m s handles p b s' result o named goes is.
      at_some _ _ _ (p, b) named (s', result, goes, is);
  skips = λ default_value default_header m s handles none. at_none _ _ _ none refl;
  passes = λ s p x b stands waiting s' result goes. give_up_passes fixed_handlers s p x b stands waiting s' result goes;
  advances = λ s p b s' result goes. give_up_advances fixed_handlers s p b s' result goes;
  loans = λ s p b s' result goes. give_up_loans fixed_handlers s p b s' result goes;
  frees = λ s p b s' result ended goes. give_up_frees fixed_handlers s p b s' result ended goes;
}

module _ {T U F G : Type 0} (defaults : Defaults T U) (old new : Domain T U F G) (table table' : List Made) (of : ℕ)
    (command : Command T U) (on : GoesOn T U command of) where
  -- there is no such send
  pub goes_on_passed : is_blocked_entry (entry_for (slice_index_or table of Nothing)) ≡ false
      → Carries fixed_handlers defaults old old table command Skipped table Nothing
  goes_on_passed other = λ m s handles events shown w default_value default_header is_value is_header.
      skip_comes fixed_handlers defaults (Shows old) m s handles events
      (map entry_for table) w default_value default_header is_value is_header command
      (on.skips default_value default_header m s handles
      (lacks_blocked s handles events (map entry_for table) w of (lacks is_blocked_entry refl table of other)))
      shown

  -- it goes on, and comes out so
  pub goes_on_carried : (h : BlockedSend) (outcome : Result SendOutcome SendError)
      → slice_index_or table of Nothing ≡ Blocked h
      → ((m : Messages T U) (s : State T U) (x : Publisher) (b : Waiting) → Shows old m s
      → s.publishers h.loan.publisher ≡ Some x → x.blocked ≡ Some b
      → (s' : State T U) × Shows new m s' × on.Asks s h.loan.publisher b s' (result_of_send outcome))
      → IfOk outcome
      (λ came. IfBlocked came (λ blocked. IsBlockedSend new blocked × (blocked_key blocked ≡ blocked_key h)))
      → table' ≡ slice_set table of (made_by_send outcome)
      → Carries fixed_handlers defaults old new table command (reply_to_send outcome) table' Nothing
  goes_on_carried h outcome at goes blocked is =
      λ m s handles events shown w default_value default_header is_value is_header.
      let stand = entry-stands table of (Blocked h) at (λ e. let clash : Blocked h ≡ Nothing = e in cc) in
      let p : ℕ = h.loan.publisher in
      let n : ℕ = h.loan.number in
      let found = has_blocked s handles events (map entry_for table) w of h.service_id p n stand in
      let named = handle_of s handles events (map entry_for table) w of (entry_for (Blocked h)) stand in
      let low : p < s.next_port = (w.blocked_sent of p n (named.1 ∙ ap Some (named.2).1)).0 in
      let asked = goes m s found.0 found.1 shown found.3 found.4 in
      let s' : State T U = asked.0 in
      let result : SendResult = result_of_send outcome in
      let gone : on.Goes s p found.1 s' result = on.fixed s p found.1 s' result (named.2).3 asked.2 in
      let passed : Passed p (found.1).message s s' = on.passes s p found.0 found.1 found.3 found.4 s' result gone in
      let after : map entry_for table' ≡ slice_set (map entry_for table) of (entry_for (made_by_send outcome)) =
      ap (λ (t : List Made). map entry_for t) is ∙ entries-set table of (made_by_send outcome) in
      subst (λ (ks : List TableEntry). Comes fixed_handlers defaults (Shows new) m s handles events command
      (reply_to_send outcome) (ks ++ No_entry ∷ [])) (sym after)
      (goes_on_comes fixed_handlers defaults (Shows new) m s handles events
      (map entry_for table) w default_value default_header is_value is_header command of h.service_id p n stand s'
      (subst (λ (k : ℕ). Passed p k s s') found.5 passed)
      (on.advances s p found.1 s' result gone) (on.loans s p found.1 s' result gone)
      (reply_to_send outcome) (on.step default_value default_header m s handles p found.1 s' result
      (replied (reply_to_send outcome) s') found.2 gone (told_so s' outcome)) asked.1
      (entry_for (made_by_send outcome))
      (left m s' asked.1 outcome blocked (unboxed_still (λ i. i ≡ p) s s' passed.waits p low (named.2).3)
      (λ ended. on.frees s p found.1 s' result ended gone)))
    where
      left : (m : Messages T U) (s' : State T U) → Shows new m s' → (came : Result SendOutcome SendError)
          → IfOk came
          (λ it. IfBlocked it (λ blocked. IsBlockedSend new blocked × (blocked_key blocked ≡ blocked_key h)))
          → HasNoBox s' h.loan.publisher
          → ((result_of_send came ≡ Blocked_send → ⊥) → (x' : Publisher) → s'.publishers h.loan.publisher ≡ Some x'
          → x'.blocked ≡ None)
          → IsEntryOf s' (Blocked_handle h.loan.publisher h.loan.number) (entry_for (made_by_send came))
      left m s' shown (Ok (WasDelivered count)) waits unboxed frees = λ has.
          free_waits s' h.loan.publisher h.loan.number
          (frees (λ e. let clash : Delivered_to count ≡ Blocked_send = e in absurd cc)) has
      left m s' shown (Ok (IsBlocked blocked)) waits unboxed frees =
          blocked_entry new m s' shown blocked waits.0 (blocked_key h) waits.1 unboxed
      left m s' shown (Err error) waits unboxed frees = λ has.
          free_waits s' h.loan.publisher h.loan.number
          (frees (λ e. let clash : Send_error error ≡ Blocked_send = e in absurd cc)) has
