-- The states through which the commands lead that fill every slot of a publisher.
use Rattle.std.proofs.Common.{◌≡◌, ℕ, suc, ◌+◌, ◌-◌, ◌≤◌, ◌<◌, Bool, true, false, cond, List, [], ◌∷◌, ◌++◌, length}
use Rattle.std.proofs.Common.{sym, ap, subst, ◌∙◌, arith, Option, None, Some, is_none, option_map, option_and_then}
use Rattle.std.specs.Prelude.{slice_get, MatchOption}
use Rattle.std.proofs.lemmas.List.{length-append}
use Rattle.iox2_machine.specs.machine.Limits.{buffer_limit}
use Rattle.iox2_machine.specs.machine.Channel.{new_channels}
use Rattle.iox2_machine.specs.machine.Mailbox.{Mailbox}
use Rattle.iox2_machine.specs.machine.Records.{Loan, Publisher, Subscriber, BlockedSend, Fixed}
use Rattle.iox2_machine.specs.machine.State.{State}
use Rattle.iox2_machine.specs.machine.WellFormed.{IsWellFormed}
use Rattle.iox2_machine.specs.declared.service_config.ServiceConfig.{ServiceConfig}
use Rattle.iox2_machine.specs.declared.allocation.AllocationStrategy.TheVariants.{Static}
use Rattle.iox2_machine.specs.declared.backpressure.BackpressureStrategy.TheVariants.{DiscardData}
use Rattle.iox2_machine.specs.declared.degradation.DegradationAction.TheVariants.{Warn}
use Rattle.iox2_commands.specs.Outcomes.{Handle, Publisher_handle, Subscriber_handle, Loan_handle, Outcome}
use Rattle.iox2_commands.specs.Step.{publisher_at, unblocked_at, subscriber_at, loan_at, unwritten_at, written_at}
use Rattle.iox2_commands.proofs.GrowingLists.{found_earlier, found_last}
use Rattle.iox2_worst_case.proofs.FillingNumbers.{numbers_from, ports_from, recent}

-- the publisher, with that limit of loans and so many slots
abbrev pub filler : (most slots longest : ℕ) → (out history : List ℕ) → (ends : List (Option ℕ)) → (due : Bool)
    → Publisher
filler most slots longest out history ends due = record {
  place = 0;
  slots = slots;
  max_loaned_samples = most;
  allocation_strategy = Static;
  initial_max_slice_len = 1;
  longest_granted = longest;
  segments = 1;
  backpressure_strategy = DiscardData;
  backpressure_handler = None;
  degradation_handler = Fixed Warn;
  loans = out;
  history = history;
  ends = ends;
  is_due = due;
  blocked = None;
}

-- a subscriber at that place, which is connected with the publisher
abbrev pub reader : (buffer place : ℕ) → Subscriber
reader buffer place = record {
  is_open = true;
  place = place;
  buffer = buffer;
  degradation_handler = Fixed Warn;
  ends = Some 1 ∷ [];
  expired = [];
  is_due = false;
}

-- So many messages were sent and so many loans are out. So many subscribers were made, with the numbers from 2 on, and
-- the publisher has these ends and mailboxes. No channel is closed.
pub record IsFilling {T U : Type 0} (c : ServiceConfig) (most available : ℕ) (s : State T U) (sent out made : ℕ)
    (links : List (Option ℕ)) (due : Bool)
    (boxes : ℕ → Mailbox) : Type 0 where
  pub well_formed : IsWellFormed s
  pub config : s.config ≡ c
  pub next_port : s.next_port ≡ 2 + made
  pub next_message : s.next_message ≡ suc sent + out
  pub longest : ℕ
  pub publisher : s.publishers 1 ≡ Some
      (filler most available longest (numbers_from (suc sent) out) (recent c.history_size sent) links due)
  pub publisher_places : s.publisher_places ≡ Some 1 ∷ []
  pub subscriber_places : s.subscriber_places ≡ ports_from 2 made
  pub subscribers : (q : ℕ) → 2 ≤ q → q < 2 + made → s.subscribers q ≡ Some (reader (buffer_limit c) (q - 2))
  pub mailboxes : s.mailboxes 1 ≡ boxes
  pub channels : (q : ℕ) → s.channels 1 q ≡ new_channels

-- A loan of the publisher's is there.
abbrev pub HasFillingLoan : {T U : Type 0} → State T U → (n : ℕ) → (is_written : Bool) → Type 0
HasFillingLoan {T} {U} s n is_written =
    (l : Loan T U) × (s.loans n ≡ Some l) × (l.publisher ≡ 1) × (l.is_written ≡ is_written)

-- what holds of the one case, where it is that one
pub at_some : {A : Type 0} (o : Option A) (a : A) (P : Type 0) (Q : A → Type 0) → o ≡ Some a → MatchOption o P Q → Q a
at_some o a P Q e h = subst (λ v. MatchOption v P Q) e h

-- what holds where there is nothing, where there is nothing
pub at_none : {A : Type 0} (o : Option A) (P : Type 0) (Q : A → Type 0) → o ≡ None → MatchOption o P Q → P
at_none o P Q e h = subst (λ v. MatchOption v P Q) e h

-- what holds of the outcome that this one is, where its state is well-formed
pub concluded : {T U : Type 0} (Goal : Outcome T U → Type 0) (o o' : Outcome T U) → o ≡ o' → IsWellFormed o.state
    → (IsWellFormed o'.state → Goal o') → Goal o
concluded {T} {U} Goal o o' same w h = subst Goal {x = o'} {y = o} (sym same)
    (h (subst (λ (v : Outcome T U). IsWellFormed v.state) {x = o} {y = o'} same w))

module _ {T U : Type 0} (s : State T U) (handles : List Handle) (of : ℕ) where
  -- what a position names
  pub publisher_named : (p : ℕ) (x : Publisher) → slice_get handles of ≡ Some (Publisher_handle p)
      → s.publishers p ≡ Some x → x.blocked ≡ None
      → unblocked_at s handles of ≡ Some (p, x)
  publisher_named p x e f g =
      let found : publisher_at s handles of ≡ Some (p, x) =
      ap (λ (v : Option Handle). elim v as (λ _. Option (ℕ × Publisher))
      [ Some (Publisher_handle p) ↦ option_map {U = ℕ × Publisher} (λ x. (p, x)) (s.publishers p) | _ ↦ None ]) e
      ∙ ap (λ (v : Option Publisher). option_map {U = ℕ × Publisher} (λ x. (p, x)) v) f in
      ap (λ (v : Option (ℕ × Publisher)).
      option_and_then {U = ℕ × Publisher} (λ named. cond (is_none named.1.blocked) (Some named) None) v) found
      ∙ ap (λ (v : Option BlockedSend). cond (is_none v) (Some (p, x)) None) g

  pub subscriber_named : (q : ℕ) (y : Subscriber) → slice_get handles of ≡ Some (Subscriber_handle q)
      → s.subscribers q ≡ Some y → y.is_open ≡ true
      → subscriber_at s handles of ≡ Some (q, y)
  subscriber_named q y e f g =
      ap (λ (v : Option Handle). elim v as (λ _. Option (ℕ × Subscriber)) [
        | Some (Subscriber_handle q) ↦ option_and_then {U = ℕ × Subscriber} (λ y. cond y.is_open (Some (q, y)) None)
            (s.subscribers q)
        | _ ↦ None
      ]) e
      ∙ ap
      (λ (v : Option Subscriber). option_and_then {U = ℕ × Subscriber} (λ y. cond y.is_open (Some (q, y)) None) v) f
      ∙ ap (λ (b : Bool). cond b (Some (q, y)) None) g

  loan_named : (n : ℕ) (l : Loan T U) → slice_get handles of ≡ Some (Loan_handle n) → s.loans n ≡ Some l
      → loan_at s handles of ≡ Some (n, l)
  loan_named n l e f =
      ap (λ (v : Option Handle). elim v as (λ _. Option (ℕ × Loan T U))
      [ Some (Loan_handle n) ↦ option_map {U = ℕ × Loan T U} (λ l. (n, l)) (s.loans n) | _ ↦ None ]) e
      ∙ ap (λ (v : Option (Loan T U)). option_map {U = ℕ × Loan T U} (λ l. (n, l)) v) f

  pub unwritten_named : (n : ℕ) (l : Loan T U) → slice_get handles of ≡ Some (Loan_handle n) → s.loans n ≡ Some l
      → l.is_written ≡ false
      → unwritten_at s handles of ≡ Some (n, l)
  unwritten_named n l e f g =
      ap (λ (v : Option (ℕ × Loan T U)). option_and_then {U = ℕ × Loan T U}
      (λ named. cond named.1.is_written None (Some named)) v) (loan_named n l e f)
      ∙ ap (λ (b : Bool). cond b None (Some (n, l))) g

  pub written_named : (n : ℕ) (l : Loan T U) → slice_get handles of ≡ Some (Loan_handle n) → s.loans n ≡ Some l
      → l.is_written ≡ true
      → written_at s handles of ≡ Some (n, l)
  written_named n l e f g =
      ap (λ (v : Option (ℕ × Loan T U)). option_and_then {U = ℕ × Loan T U}
      (λ named. cond named.1.is_written (Some named) None) v) (loan_named n l e f)
      ∙ ap (λ (b : Bool). cond b (Some (n, l)) None) g

-- ---- handles

-- so many commands came before, and the first made the publisher
pub record IsNamed (handles : List Handle) (position : ℕ) : Type 0 where
  pub count : length handles ≡ position
  pub publisher : slice_get handles 0 ≡ Some (Publisher_handle 1)

-- a new handle stands at the command's position
pub handle_new : (handles : List Handle) (new : Handle) (position : ℕ) → length handles ≡ position
    → slice_get (handles ++ new ∷ []) position ≡ Some new
handle_new handles new position e =
    subst (λ (i : ℕ). slice_get (handles ++ new ∷ []) i ≡ Some new) e (found_last handles new)

-- one command later
pub named_next : (handles : List Handle) (new : Handle) (position next : ℕ) → next ≡ suc position
    → IsNamed handles position → IsNamed (handles ++ new ∷ []) next
named_next handles new position next e h = record {
  count = omega (arith, length-append handles (new ∷ []), h.count);
  publisher = found_earlier handles (new ∷ []) 0 (Publisher_handle 1) h.publisher;
}
