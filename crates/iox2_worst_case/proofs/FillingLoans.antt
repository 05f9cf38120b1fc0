-- A loan is taken and written on the way to full slots.
use Rattle.std.proofs.Common.{◌≡◌, ℕ, suc, ◌+◌, ◌<◌, Bool, true, false, cond, List, length, max, refl, ap, subst, ◌∙◌}
use Rattle.std.proofs.Common.{arith, eqb, Option, None, Some, ◌⊎◌, inl, inr}
use Rattle.std.specs.Prelude.{slice_get}
use Rattle.std.proofs.lemmas.Bool.{lt-leb, eqb-true}
use Rattle.iox2_machine.specs.machine.Limits.{last_number}
use Rattle.iox2_machine.specs.machine.Numbers.{size}
use Rattle.iox2_machine.specs.machine.Mailbox.{Mailbox}
use Rattle.iox2_machine.specs.machine.Records.{Loan, Publisher}
use Rattle.iox2_machine.specs.machine.State.{State, Messages, held, with_loan}
use Rattle.iox2_machine.specs.machine.Loans.{GrantLoan, StaticLoan, loan_granted, limit_error, written}
use Rattle.iox2_machine.specs.machine.WellFormed.{IsWellFormed}
use Rattle.iox2_machine.specs.declared.service_config.ServiceConfig.{ServiceConfig}
use Rattle.iox2_machine.specs.declared.service_config.TypeVariant.{TypeVariant}
use Rattle.iox2_machine.specs.declared.service_config.TypeVariant.TheVariants.{FixedSize, Dynamic}
use Rattle.iox2_machine.specs.declared.errors.LoanError.{LoanError}
use Rattle.iox2_machine.specs.declared.errors.LoanError.TheVariants.{ExceedsMaxLoans}
use Rattle.iox2_laws.proofs.Cases.{by_bool}
use Rattle.iox2_laws.proofs.Puts.{put_at-same}
use Rattle.iox2_commands.specs.Outcomes.{Handle, Publisher_handle, Loan_handle, Outcome, done}
use Rattle.iox2_commands.specs.Step.{Step, after_loan, unblocked_at, if_single_units, if_fixed_size, if_dynamic}
use Rattle.iox2_commands.specs.Step.{unwritten_at}
use Rattle.iox2_machine.specs.machine.Environments.{ample_memory}
use Rattle.iox2_worst_case.specs.FillingCommands.{loan_command}
use Rattle.iox2_commands.specs.declared.command.Command.TheVariants.{WriteAll}
use Rattle.iox2_commands.specs.declared.reply.Reply.TheVariants.{Loaned, Done}
use Rattle.iox2_worst_case.proofs.FillingNumbers.{numbers_from, numbers_from_push, length-numbers_from, recent}
use Rattle.iox2_worst_case.proofs.FillingShape.{filler, IsFilling, HasFillingLoan, at_some, at_none, concluded}
use Rattle.iox2_worst_case.proofs.FillingShape.{publisher_named, unwritten_named}
use Rattle.iox2_worst_case.proofs.FillingRuns.{IsRefusedLoan}

module _ {T U : Type 0} (c : ServiceConfig) (most available : ℕ) (s : State T U) (sent out made : ℕ)
    (links : List (Option ℕ)) (due : Bool) (boxes : ℕ → Mailbox)
    (f : IsFilling c most available s sent out made links due boxes) where
  -- the publisher
  abbrev before : Publisher
  before = filler most available f.longest (numbers_from (suc sent) out) (recent c.history_size sent) links due

  -- What a granted loan comes to.
  pub record IsLoanedOutcome (o : Outcome T U) : Type 0 where
    pub reply : o.reply ≡ Loaned
    pub handle : o.handle ≡ Loan_handle (suc sent + out)
    pub filling : IsFilling c most available o.state sent (suc out) made links due boxes
    pub loan : HasFillingLoan o.state (suc sent + out) false

  granted : (default_header : U) → IsWellFormed (loan_granted default_header s 1 before 1 1)
      → IsFilling c most available (loan_granted default_header s 1 before 1 1) sent (suc out) made links due boxes
  granted default_header w = record {
    well_formed = w;
    config = f.config;
    next_port = f.next_port;
    next_message = omega (arith, f.next_message);
    longest = max f.longest 1;
    publisher =
        ap (λ (ns : List ℕ). Some (filler most available (max f.longest 1) ns (recent c.history_size sent) links due))
        (numbers_from_push (suc sent) out s.next_message f.next_message);
    publisher_places = f.publisher_places;
    subscriber_places = f.subscriber_places;
    subscribers = f.subscribers;
    mailboxes = f.mailboxes;
    channels = f.channels;
  }

  granted_loan : (default_header : U)
      → HasFillingLoan (loan_granted default_header s 1 before 1 1) (suc sent + out) false
  granted_loan default_header =
      subst (λ n. HasFillingLoan (loan_granted default_header s 1 before 1 1) n false) f.next_message
      (_, put_at-same s.loans s.next_message _, refl, refl)

  no_limit : (checks_length : Bool) → out < most → limit_error checks_length before 1 ≡ None
  no_limit true low = ap (λ b. cond b (Some ExceedsMaxLoans) None) (lt-leb most (length (numbers_from (suc sent) out))
      (omega (arith, length-numbers_from (suc sent) out)))
  no_limit false low = ap (λ b. cond b (Some ExceedsMaxLoans) None) (lt-leb most (length (numbers_from (suc sent) out))
      (omega (arith, length-numbers_from (suc sent) out)))

  asked : (checks_length : Bool) (default_header : U) (o : Outcome T U) → out < most → suc sent + out < last_number
      → IsWellFormed o.state
      → ((s' : State T U) × (refusal : Option LoanError)
      × GrantLoan ample_memory default_header checks_length 1 s 1 s' refusal ×
      (o ≡ after_loan s' s.next_message refusal))
      → IsRefusedLoan c most available s (loan_command c.variant) o.reply ⊎ IsLoanedOutcome o
  asked checks_length default_header o low more w h =
      let within : StaticLoan default_header s 1 before 1 h.0 h.1 =
      at_none (limit_error checks_length before 1) _ _ (no_limit checks_length low)
      (at_some (s.publishers 1) before _ _ f.publisher h.2) in
      by_bool (IsRefusedLoan c most available s (loan_command c.variant) o.reply ⊎ IsLoanedOutcome o)
      (eqb (size (held s 1 before)) available) _ _ within
      (λ full k. inl (record {
        asks = refl;
        well_formed = f.well_formed;
        config = f.config;
        publisher = before;
        present = f.publisher;
        few = omega (arith, length-numbers_from (suc sent) out);
        full = eqb-true (size (held s 1 before)) available full;
        refused = ap (λ (v : Outcome T U). v.reply) (h.3 ∙ ap (after_loan h.0 s.next_message) k.1);
      }))
      (λ _ k. by_bool (IsRefusedLoan c most available s (loan_command c.variant) o.reply ⊎ IsLoanedOutcome o)
      (eqb s.next_message last_number) _ _ k
      (λ last _. let same : s.next_message ≡ last_number = eqb-true s.next_message last_number last in
      absurd (omega (arith, f.next_message)))
      (λ _ k. inr (
      let same : o ≡ after_loan (loan_granted default_header s 1 before 1 1) s.next_message None =
      h.3 ∙ ap (after_loan h.0 s.next_message) k.1 ∙ ap (λ (v : State T U). after_loan v s.next_message None) k.0 in
      concluded IsLoanedOutcome o (after_loan (loan_granted default_header s 1 before 1 1) s.next_message None) same w
      (λ w'. record {
        reply = refl {a = Loaned};
        handle = ap (λ n. Loan_handle n) f.next_message;
        filling = granted default_header w';
        loan = granted_loan default_header;
      }))))

  -- a loan is granted, or it is refused for want of slots
  pub loan_step : (default_value : T) (default_header : U) (m : Messages T U) (handles : List Handle) (o : Outcome T U)
      → c.units_per_element ≡ 1 → out < most → suc sent + out < last_number
      → slice_get handles 0 ≡ Some (Publisher_handle 1)
      → Step ample_memory default_value default_header m s handles (loan_command c.variant) o → IsWellFormed o.state
      → IsRefusedLoan c most available s (loan_command c.variant) o.reply ⊎ IsLoanedOutcome o
  loan_step default_value default_header m handles o units low more publisher step w =
      at c.variant (ap (λ (v : ServiceConfig). v.variant) f.config) step
    where
      named : unblocked_at s handles 0 ≡ Some (1, before)
      named = publisher_named s handles 0 1 before publisher f.publisher refl

      single : if_single_units {A = ℕ × Publisher} s (Some (1, before)) ≡ Some (1, before)
      single = ap (λ n. cond (eqb n 1) (Some (1, before)) None)
          (ap (λ (v : ServiceConfig). v.units_per_element) f.config ∙ units)

      at : (v : TypeVariant) → (s.config).variant ≡ v
          → Step ample_memory default_value default_header m s handles (loan_command v) o
          → IsRefusedLoan c most available s (loan_command c.variant) o.reply ⊎ IsLoanedOutcome o
      at FixedSize e h =
          let fixed : if_single_units {A = ℕ × Publisher} s
          (if_fixed_size {A = ℕ × Publisher} s (unblocked_at s handles 0)) ≡ Some (1, before) =
          ap (λ (v : TypeVariant). if_single_units {A = ℕ × Publisher} s
          (elim v as (λ _. Option (ℕ × Publisher)) [ FixedSize ↦ unblocked_at s handles 0 | Dynamic ↦ None ])) e
          ∙ ap (if_single_units {A = ℕ × Publisher} s) named ∙ single in
          asked false default_header o low more w (at_some _ (1, before) _ _ fixed h)
      at Dynamic e h =
          let dynamic : if_single_units {A = ℕ × Publisher} s
          (if_dynamic {A = ℕ × Publisher} s (unblocked_at s handles 0)) ≡ Some (1, before) =
          ap (λ (v : TypeVariant). if_single_units {A = ℕ × Publisher} s
          (elim v as (λ _. Option (ℕ × Publisher)) [ FixedSize ↦ None | Dynamic ↦ unblocked_at s handles 0 ])) e
          ∙ ap (if_single_units {A = ℕ × Publisher} s) named ∙ single in
          asked true default_header o low more w (at_some _ (1, before) _ _ dynamic h)

  -- What a written loan comes to.
  pub record IsWritten (n : ℕ) (o : Outcome T U) : Type 0 where
    pub reply : o.reply ≡ Done
    pub filling : IsFilling c most available o.state sent out made links due boxes
    pub loan : HasFillingLoan o.state n true

  -- a loan is written
  pub write_step : (value : T) (position n : ℕ) (default_value : T) (default_header : U) (m : Messages T U)
      (handles : List Handle) (o : Outcome T U)
      → slice_get handles position ≡ Some (Loan_handle n) → HasFillingLoan s n false
      → Step ample_memory default_value default_header m s handles (WriteAll position value) o → IsWellFormed o.state
      → IsWritten n o
  write_step value position n default_value default_header m handles o handle loan step w =
      let l : Loan T U = loan.0 in
      let after : State T U = with_loan s n (Some (written l value)) in
      let same : o ≡ done after = at_some (unwritten_at s handles position) (n, l) _ _
      (unwritten_named s handles position n l handle loan.1 loan.3) step in
      concluded (IsWritten n) o (done after) same w (λ w'. record {
        reply = refl {a = Done};
        filling = record {
          well_formed = w';
          config = f.config;
          next_port = f.next_port;
          next_message = f.next_message;
          longest = f.longest;
          publisher = f.publisher;
          publisher_places = f.publisher_places;
          subscriber_places = f.subscriber_places;
          subscribers = f.subscribers;
          mailboxes = f.mailboxes;
          channels = f.channels;
        };
        loan = (written l value, put_at-same s.loans n (Some (written l value)), loan.2, refl);
      })
