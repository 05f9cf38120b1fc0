-- What a run's commands name is the run's own.
use Rattle.std.proofs.Common.{◌≡◌, ℕ, ◌≤◌, false, cond, List, refl, ap, subst, ◌∙◌, Option, None, Some, is_none}
use Rattle.std.specs.Prelude.{slice_get, ◌==◌}
use Rattle.std.specs.Option.{option_and_then, option_map}
use Rattle.std.proofs.lemmas.Option.{none-some, same_Some}
use Rattle.iox2_machine.specs.machine.Mailbox.{is_borrowed}
use Rattle.iox2_machine.specs.machine.Records.{Loan, Publisher, Subscriber, BlockedSend}
use Rattle.iox2_machine.specs.machine.State.{State, is_blocked}
use Rattle.iox2_commands.specs.Outcomes.{Handle, Publisher_handle, Subscriber_handle, Loan_handle, Blocked_handle}
use Rattle.iox2_commands.specs.Outcomes.{Sample_handle}
use Rattle.iox2_commands.specs.Step.{publisher_at, unblocked_at, subscriber_at, loan_at, written_at, sendable_at}
use Rattle.iox2_commands.specs.Step.{blocked_at, sample_at}
use Rattle.iox2_commands.proofs.Named.{passes, fails, kept_if}

-- The handle names something of the run, whose ports and loans are those from these numbers on.
abbrev pub IsOwn : (first_port first_message : ℕ) → Handle → Type 0
IsOwn first_port first_message (Publisher_handle p) = first_port ≤ p
IsOwn first_port first_message (Subscriber_handle q) = first_port ≤ q
IsOwn first_port first_message (Loan_handle n) = first_message ≤ n
IsOwn first_port first_message (Blocked_handle p n) = first_port ≤ p
IsOwn first_port first_message _ = Unit {0}

-- Each handle does.
abbrev pub AreOwn : (first_port first_message : ℕ) → List Handle → Type 0
AreOwn first_port first_message handles =
    (k : ℕ) (handle : Handle) → slice_get handles k ≡ Some handle → IsOwn first_port first_message handle

-- what was paired with a number has that number
paired_with : {A : Type 0} (i : ℕ) (o : Option A) (named : ℕ × A) → option_map {U = ℕ × A} (λ x. (i, x)) o ≡ Some named
    → i ≡ named.0
paired_with {A} i None named e = absurd (none-some named e)
paired_with {A} i (Some a) named e = ap (λ (v : ℕ × A). v.0) (same_Some (i, a) named e)

module _ {T U : Type 0} (s : State T U) (handles : List Handle) (first_port first_message : ℕ)
    (own : AreOwn first_port first_message handles) (of : ℕ) where
  -- a publisher that is named
  pub publisher_own : (named : ℕ × Publisher) → publisher_at s handles of ≡ Some named → first_port ≤ named.0
  publisher_own named e = at (slice_get handles of) refl e
    where
      at : (v : Option Handle) → slice_get handles of ≡ v
          → elim v [
            | Some (Publisher_handle p) ↦ option_map {U = ℕ × Publisher} (λ x. (p, x)) (s.publishers p)
            | _ ↦
                None
          ] ≡ Some named → first_port ≤ named.0
      at (Some (Publisher_handle p)) f e =
          subst (λ i. first_port ≤ i) (paired_with p (s.publishers p) named e) (own of (Publisher_handle p) f)
      at _ f e = absurd (none-some named e)

  -- a publisher that is named and waits for no receiver
  pub unblocked_own : (named : ℕ × Publisher) → unblocked_at s handles of ≡ Some named → first_port ≤ named.0
  unblocked_own named e =
      publisher_own named (passes (λ (n : ℕ × Publisher). is_none n.1.blocked) (publisher_at s handles of) named e).0

  -- a subscriber that is named
  pub subscriber_own : (named : ℕ × Subscriber) → subscriber_at s handles of ≡ Some named → first_port ≤ named.0
  subscriber_own named e = at (slice_get handles of) refl e
    where
      open_one : (q : ℕ) (v : Option Subscriber)
          → option_and_then {U = ℕ × Subscriber} (λ y. cond y.is_open (Some (q, y)) None) v ≡ Some named → q ≡ named.0
      open_one q None e = absurd (none-some named e)
      open_one q (Some y) e =
          ap (λ (v : ℕ × Subscriber). v.0) (same_Some (q, y) named (kept_if y.is_open (Some (q, y)) named e))

      at : (v : Option Handle) → slice_get handles of ≡ v
          → elim v [
            | Some (Subscriber_handle q) ↦ option_and_then {U = ℕ × Subscriber} (λ y. cond y.is_open (Some (q, y)) None)
                (s.subscribers q)
            | _ ↦ None
          ] ≡ Some named → first_port ≤ named.0
      at (Some (Subscriber_handle q)) f e =
          subst (λ i. first_port ≤ i) (open_one q (s.subscribers q) e) (own of (Subscriber_handle q) f)
      at _ f e = absurd (none-some named e)

  -- a loan that is named
  pub loan_own : (named : ℕ × Loan T U) → loan_at s handles of ≡ Some named → first_message ≤ named.0
  loan_own named e = at (slice_get handles of) refl e
    where
      at : (v : Option Handle) → slice_get handles of ≡ v
          → elim v [ Some (Loan_handle n) ↦ option_map {U = ℕ × Loan T U} (λ l. (n, l)) (s.loans n) | _ ↦ None ]
          ≡ Some named → first_message ≤ named.0
      at (Some (Loan_handle n)) f e =
          subst (λ i. first_message ≤ i) (paired_with n (s.loans n) named e) (own of (Loan_handle n) f)
      at _ f e = absurd (none-some named e)

  -- a loan that is named and may be sent
  pub sendable_own : (named : ℕ × Loan T U) → sendable_at s handles of ≡ Some named → first_message ≤ named.0
  sendable_own named e =
      let free : (written_at s handles of ≡ Some named) × (is_blocked s named.1.publisher ≡ false) =
      fails (λ (n : ℕ × Loan T U). is_blocked s n.1.publisher)
      (written_at s handles of) named e in
      loan_own named (passes (λ (n : ℕ × Loan T U). n.1.is_written) (loan_at s handles of) named free.0).0

  -- a blocked send that is named
  pub blocked_own : (named : ℕ × BlockedSend) → blocked_at s handles of ≡ Some named → first_port ≤ named.0
  blocked_own named e = at (slice_get handles of) refl e
    where
      send_of : (p n : ℕ) (b : Option BlockedSend)
          → option_and_then {U = ℕ × BlockedSend} (λ b. cond (b.message == n) (Some (p, b)) None) b ≡ Some named
          → p ≡ named.0
      send_of p n None e = absurd (none-some named e)
      send_of p n (Some b) e =
          ap (λ (v : ℕ × BlockedSend). v.0) (same_Some (p, b) named (kept_if _ (Some (p, b)) named e))

      present : (p n : ℕ) (v : Option Publisher)
          → option_and_then {U = ℕ × BlockedSend} (λ x. option_and_then {U = ℕ × BlockedSend}
          (λ b. cond (b.message == n) (Some (p, b)) None) x.blocked) v ≡ Some named → p ≡ named.0
      present p n None e = absurd (none-some named e)
      present p n (Some x) e = send_of p n x.blocked e

      at : (v : Option Handle) → slice_get handles of ≡ v → elim v [
        | Some (Blocked_handle p n) ↦ option_and_then {U = ℕ × BlockedSend} (λ x. option_and_then {U = ℕ × BlockedSend}
            (λ b. cond (b.message == n) (Some (p, b)) None) x.blocked) (s.publishers p)
        | _ ↦ None
      ] ≡ Some named → first_port ≤ named.0
      at (Some (Blocked_handle p n)) f e =
          subst (λ i. first_port ≤ i) (present p n (s.publishers p) e) (own of (Blocked_handle p n) f)
      at _ f e = absurd (none-some named e)

  -- a sample that is named
  pub sample_is : (named : ℕ × ℕ × ℕ) → sample_at s handles of ≡ Some named
      → slice_get handles of ≡ Some (Sample_handle named.0 named.1 named.2)
  sample_is named e = at (slice_get handles of) refl e
    where
      at : (v : Option Handle) → slice_get handles of ≡ v
          → elim v [
            | Some (Sample_handle p q n) ↦ cond (is_borrowed n (s.mailboxes p q)) (Some (p, q, n)) None
            | _ ↦
                None
          ] ≡ Some named
          → slice_get handles of ≡ Some (Sample_handle named.0 named.1 named.2)
      at (Some (Sample_handle p q n)) f e =
          let same : (p, q, n) ≡ named =
          same_Some (p, q, n) named (kept_if (is_borrowed n (s.mailboxes p q)) (Some (p, q, n)) named e) in
          f ∙ ap (λ (v : ℕ × ℕ × ℕ). Some (Sample_handle v.0 v.1 v.2)) same
      at _ f e = absurd (none-some named e)
