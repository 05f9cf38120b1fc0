-- What the creation of a subscriber does to the number of messages that wait.
use Rattle.std.proofs.Common.{◌≡◌, ℕ, suc, ◌+◌, ◌≤◌, ◌<◌, true, List, [], ◌∷◌, length, refl, sym, ap, subst, ◌∙◌, arith}
use Rattle.std.proofs.Common.{Option, None, Some, inl, inr}
use Rattle.std.specs.Prelude.{not, ◌≢◌}
use Rattle.std.proofs.lemmas.Bool.{cases_eq, ne_eqb}
use Rattle.std.proofs.lemmas.Option.{none-some}
use Rattle.iox2_machine.specs.machine.Numbers.{is_nil}
use Rattle.iox2_machine.specs.machine.Mailbox.{Mailbox, has_numbers, waiting_count}
use Rattle.iox2_machine.specs.machine.Records.{Environment, SubscriberSettings}
use Rattle.iox2_machine.specs.machine.State.{State}
use Rattle.iox2_machine.specs.machine.Ports.{CreateSubscriber, FirstSubscriberUpdate, with_new_subscriber}
use Rattle.iox2_machine.specs.machine.Ports.{new_subscriber, with_failure_warning}
use Rattle.iox2_machine.specs.machine.Waiting.{waiting_from}
use Rattle.iox2_machine.specs.machine.WellFormed.{IsWellFormed}
use Rattle.iox2_machine.specs.declared.errors.ConnectionFailure.{ConnectionFailure}
use Rattle.iox2_machine.specs.declared.errors.SubscriberCreateError.{SubscriberCreateError}
use Rattle.iox2_machine.specs.declared.warning.Warning.TheVariants.{SubscriberPartlyConnected}
use Rattle.iox2_laws.proofs.CallCases.{subscriber_cases}
use Rattle.iox2_laws.proofs.Puts.{put_at-other}
use Rattle.iox2_laws.proofs.WaitingCounts.{SameWaits, same_itself, cond_le, same_from}
use Rattle.iox2_laws.proofs.WaitingReceives.{UpdateWaits, update_subscriber_waits}
use Rattle.iox2_laws.proofs.MailboxLemmas.{has_numbers-data}

-- a mailbox has numbers, or nothing waits in it
none_or_numbers : (box : Mailbox) (R : Type 0) → (has_numbers box ≡ true → R) → (waiting_count box ≡ 0 → R) → R
none_or_numbers box R some none = at box.waiting refl where
  at : (ns : List ℕ) → box.waiting ≡ ns → R
  at [] e = none (ap length e)
  at (n ∷ ns) e = some (has_numbers-data box (ap (λ ms. not (is_nil ms)) e))

no_length : (ns : List ℕ) → length ns ≡ 0 → ns ≡ []
no_length [] none = refl
no_length (n ∷ ns) none = absurd (omega arith)

module _ {T U : Type 0} (s : State T U) (w : IsWellFormed s) where
  -- nothing waits from a publisher that there isn't yet, or for such a subscriber
  unknown_waits : (p q : ℕ) → (p < s.next_port → q < s.next_port → ⊥) → waiting_count (s.mailboxes p q) ≡ 0
  unknown_waits p q unknown =
      none_or_numbers (s.mailboxes p q) (waiting_count (s.mailboxes p q) ≡ 0)
      (λ some. let known = (w.mailboxes p q).known some in absurd (unknown known.0 known.1)) (λ none. none)

  -- A subscriber was made: for each the same messages wait, and none of the number that its id was.
  pub record NewWaits (s' : State T U) : Type 0 where
    pub ports : s'.next_port ≡ suc s.next_port
    pub from : (p q : ℕ) → waiting_from s' p q ≡ waiting_from s p q
    pub none : (p q : ℕ) → (p < s.next_port → q < s.next_port → ⊥) → waiting_from s' p q ≡ []

  module _ (environment : Environment) (given : SubscriberSettings) (s' : State T U) where
    -- nothing waits for a subscriber that was made, and for the others what did
    pub create_subscriber_waits : (refusal : Option SubscriberCreateError)
        → CreateSubscriber environment s given s' refusal
        → (refusal ≡ None → NewWaits s') × ((e : SubscriberCreateError) → refusal ≡ Some e → SameWaits s s')
    create_subscriber_waits refusal h =
        subscriber_cases environment s given s' Result refusal h (λ e same is. refused e same is)
        (λ place makes. made place makes.2 makes.3)
      where
        Result : Type 0
        Result = (refusal ≡ None → NewWaits s') × ((e : SubscriberCreateError) → refusal ≡ Some e → SameWaits s s')

        refused : (e : SubscriberCreateError) → s' ≡ s → refusal ≡ Some e → Result
        refused e same is =
            (λ none. absurd (none-some e (sym none ∙ is)), λ _ _. subst (SameWaits s) (sym same) (same_itself s))

        made : (place : ℕ) → refusal ≡ None
            → FirstSubscriberUpdate environment (with_new_subscriber s given place) s.next_port s' → Result
        made place made_one h = (
          λ _. record { ports = ports; from = each; none = nothing },
          λ e some. absurd (none-some e (sym made_one ∙ some)),
        ) where
          new : State T U
          new = with_new_subscriber s given place

          waits : UpdateWaits environment new s.next_port h.0
          waits = update_subscriber_waits environment new s.next_port h.0 h.1 h.2

          same_ports : (failure : Option ConnectionFailure)
              → (with_failure_warning h.0 (SubscriberPartlyConnected s.next_port) failure).next_port ≡ (h.0).next_port
          same_ports None = refl
          same_ports (Some failure) = refl

          same_rows : (failure : Option ConnectionFailure) (p q : ℕ)
              → waiting_from
              (with_failure_warning h.0 (SubscriberPartlyConnected s.next_port) failure) p q ≡ waiting_from h.0 p q
          same_rows None p q = refl
          same_rows (Some failure) p q = refl

          next : s.next_port + 1 ≡ suc s.next_port
          next = omega arith

          ports : s'.next_port ≡ suc s.next_port
          ports = ap (λ (t : State T U). t.next_port) h.3 ∙ same_ports h.1 ∙ waits.ports ∙ next

          after : (p q : ℕ) → waiting_from s' p q ≡ waiting_from h.0 p q
          after p q = ap (λ (t : State T U). waiting_from t p q) h.3 ∙ same_rows h.1 p q

          -- nobody waits for a subscriber that there wasn't
          own : (p : ℕ) → waiting_from s' p s.next_port ≡ []
          own p = after p s.next_port ∙ no_length (waiting_from h.0 p s.next_port)
              (let less : length (waiting_from h.0 p s.next_port) ≤ length
              (waiting_from new p s.next_port) = waits.fewer p in
              let most : length (waiting_from new p s.next_port) ≤ waiting_count (s.mailboxes p s.next_port) =
              cond_le _ (s.mailboxes p s.next_port).waiting in
              let none : waiting_count (s.mailboxes p s.next_port) ≡ 0 =
              unknown_waits p s.next_port (λ _ low. omega arith) in
              omega arith)

          before : (p q : ℕ) → (p < s.next_port → q < s.next_port → ⊥) → waiting_from s p q ≡ []
          before p q unknown = no_length (waiting_from s p q)
              (let most : length (waiting_from s p q) ≤ waiting_count (s.mailboxes p q) = cond_le _
              (s.mailboxes p q).waiting in
              let none : waiting_count (s.mailboxes p q) ≡ 0 = unknown_waits p q unknown in
              omega arith)

          other : (p q : ℕ) → q ≢ s.next_port → waiting_from s' p q ≡ waiting_from s p q
          other p q away =
              after p q ∙ waits.others p q away ∙ same_from s new p q
              (put_at-other s.subscribers s.next_port (Some (new_subscriber given place)) q (ne_eqb q s.next_port away))
              refl

          each : (p q : ℕ) → waiting_from s' p q ≡ waiting_from s p q
          each p q = elim (cases_eq q s.next_port) [
            | inl here ↦ ap (waiting_from s' p) here ∙ own p ∙ sym (before p s.next_port (λ _ low. omega arith))
                ∙ ap (waiting_from s p) (sym here)
            | inr away ↦ other p q away
          ]

          nothing : (p q : ℕ) → (p < s.next_port → q < s.next_port → ⊥) → waiting_from s' p q ≡ []
          nothing p q unknown = each p q ∙ before p q unknown
