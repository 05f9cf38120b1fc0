-- Worked runs: slices of a publisher that grows.
use Rattle.std.proofs.Common.{◌≡◌, ℕ, false, List, [], ◌∷◌, ◌<◌, ◌≤◌, refl, inl, inr, None, Some, arith}
use Rattle.iox2_machine.specs.machine.State.{State, Messages, fresh, no_messages}
use Rattle.iox2_machine.specs.machine.Delivery.{Accepted, Complete}
use Rattle.iox2_machine.specs.machine.Sends.{Delivered_to}
use Rattle.iox2_machine.specs.machine.Receives.{Got_sample}
use Rattle.iox2_machine.specs.declared.allocation.AllocationStrategy.TheVariants.{BestFit}
use Rattle.iox2_machine.specs.declared.backpressure.BackpressureStrategy.TheVariants.{DiscardData}
use Rattle.iox2_machine.specs.declared.degradation.DegradationAction.TheVariants.{Warn}
use Rattle.iox2_machine.specs.declared.errors.LoanError.TheVariants.{ExceedsMaxLoans, InternalFailure}
use Rattle.iox2_machine.specs.declared.warning.Warning.TheVariants.{ExpiredBufferRaised}
use Rattle.iox2_commands.specs.Outcomes.{Event}
use Rattle.iox2_machine.specs.machine.Environments.{ample_memory}
use Rattle.iox2_commands.specs.NewPublishers.{publisher_with}
use Rattle.iox2_commands.specs.Runs.{Run, only_defaults}
use Rattle.iox2_commands.specs.declared.command.Command.TheVariants.{CreatePublisher, CreateSubscriber, LoanSlice}
use Rattle.iox2_commands.specs.declared.command.Command.TheVariants.{WriteAll, Send}
use Rattle.iox2_commands.specs.declared.command.Command.TheVariants.{Receive, Read}
use Rattle.iox2_commands.specs.declared.reply.Reply.TheVariants.{Done, Skipped, PublisherMade, SubscriberMade, Loaned}
use Rattle.iox2_commands.specs.declared.reply.Reply.TheVariants.{LoanRefused, Delivered, Sample}
use Rattle.iox2_commands.specs.declared.reply.Reply.TheVariants.{Cell}
use Rattle.iox2_commands.proofs.WorkedRunDomains.{slice_domain, ◌▸◌}

not_below : (a b : ℕ) → b ≤ a → a < b → ⊥
not_below a b le lt = omega (arith, le, lt)

not_up_to : (a b : ℕ) → b < a → a ≤ b → ⊥
not_up_to a b lt le = omega (arith, lt, le)

-- A best-fit publisher grows for a longer slice, and a sample in its older segment reads on. A slice that fits no
-- machine word is refused, and a later loan is granted.
pub growing_publisher_keeps_older_samples : (events : List (Event ℕ ℕ)) × (m : Messages ℕ ℕ) × (s : State ℕ ℕ)
    × Run ample_memory (only_defaults 0 0) no_messages (fresh (slice_domain 1 1 1 1 0 0 false))
    (CreateSubscriber (Some 1) Warn ∷ CreatePublisher (record (publisher_with 1 DiscardData) { allocation = BestFit })
    ∷ LoanSlice 1 1 ∷ WriteAll 2 5 ∷ Send 2 ∷ Receive 0 ∷
    LoanSlice 1 4 ∷ WriteAll 6 6 ∷ Send 6 ∷ Read 5 0 ∷ Read 5 1 ∷ LoanSlice 1 18446744073709551615 ∷ LoanSlice 1 4 ∷ [])
    (SubscriberMade 1 ∷ PublisherMade 2 ∷ Loaned ∷ Done ∷ Delivered 1 ∷ Sample 2 ∷ Loaned ∷ Done ∷ Delivered 1 ∷ Cell
    (Some 5) ∷ Skipped ∷
    LoanRefused InternalFailure ∷ Loaned ∷ [])
    events m s
    × ((s.warnings).latest ≡ ExpiredBufferRaised 1 ∷ [])
growing_publisher_keeps_older_samples = (
  _ ∷ _ ∷ _ ∷ _ ∷ _ ∷ _ ∷ _ ∷ _ ∷ _ ∷ _ ∷ _ ∷ _ ∷ _ ∷ [],
  _,
  _,
  (
    _,
    (_, (_, None, (_, None, (_, (_, None, None, (refl, refl), (refl, refl), refl), refl), refl), refl), refl, refl) ▸ (
      _,
      (_, None, (_, None, (_, (_, None, None, inl (refl, refl), (refl, refl), refl), refl), refl), refl),
      refl,
      refl,
    ) ▸
        (_, (_, None, (omega arith, inr refl, 1, inl refl, refl), refl), refl, refl) ▸
        (_, refl, refl, refl) ▸ (
          _,
          (
            _,
            Delivered_to 1,
            (
              _,
              None,
              (refl, refl),
              (Complete 1 false, _, (Accepted, _, (_, (refl, refl), refl), (refl, refl)), (refl, refl)),
            ),
            refl,
          ),
          refl,
          refl,
        ) ▸ (
          _,
          (
            _,
            Got_sample 2 1,
            (
              _,
              None,
              (
                _,
                (
                  _,
                  None,
                  None,
                  (_, None, None, inl (refl, refl), (refl, refl), refl),
                  (_, None, None, (refl, refl), (refl, refl), refl),
                  refl,
                ),
                refl,
              ),
              ((refl, refl), _, ([], refl, refl), refl),
            ),
            refl,
          ),
          refl,
          refl,
        ) ▸ (
          _,
          (
            _,
            None,
            (
              omega arith,
              inr refl,
              2,
              inr (refl, omega arith, (let longer : 1 < 4 = omega arith in λ h. not_up_to 4 1 longer h.1)),
              refl,
            ),
            refl,
          ),
          refl,
          refl,
        ) ▸
        (_, refl, refl, refl) ▸ (
          _,
          (
            _,
            Delivered_to 1,
            (
              _,
              None,
              (refl, refl),
              (Complete 1 false, _, (Accepted, _, (_, (refl, refl), refl), (refl, refl)), (refl, refl)),
            ),
            refl,
          ),
          refl,
          refl,
        ) ▸
        (_, refl, refl, refl) ▸
        (_, refl, refl, refl) ▸ (
          _,
          (
            _,
            Some InternalFailure,
            (
              refl,
              inr (
                inr refl,
                (let longer : 4 < 18446744073709551615 = omega arith in
                    λ h. not_up_to 18446744073709551615 4 longer h.1),
              ),
            ),
            refl,
          ),
          refl,
          refl,
        ) ▸
        (_, (_, None, (omega arith, inr refl, 2, inl refl, refl), refl), refl, refl) ▸
        (refl, refl, refl),
  ),
  refl,
)

-- A best-fit publisher with one slot in a segment grows for its second loan. The third is refused because of their
-- number.
pub growing_publisher_keeps_its_limit_of_loans : (events : List (Event ℕ ℕ)) × (m : Messages ℕ ℕ) × (s : State ℕ ℕ)
    × Run ample_memory (only_defaults 0 0) no_messages (fresh (slice_domain 1 1 1 1 0 0 false))
    (CreatePublisher (record (publisher_with 2 DiscardData) { allocation = BestFit; override_slots = Some 1 })
    ∷ LoanSlice 0 1 ∷ LoanSlice 0 1 ∷ LoanSlice 0 1 ∷ [])
    (PublisherMade 1 ∷ Loaned ∷ Loaned ∷ LoanRefused ExceedsMaxLoans ∷ [])
    events m s
    × ((s.warnings).latest ≡ [])
growing_publisher_keeps_its_limit_of_loans = (
  _ ∷ _ ∷ _ ∷ _ ∷ [],
  _,
  _,
  (
    _,
    (_, (_, None, (_, None, (_, (refl, refl), refl), refl), refl), refl, refl) ▸
        (_, (_, None, (omega arith, inr refl, 1, inl refl, refl), refl), refl, refl) ▸ (
          _,
          (
            _,
            None,
            (
              omega arith,
              inr refl,
              2,
              inr (refl, omega arith, (let full : 1 ≤ 1 = omega arith in λ h. not_below 1 1 full h.0)),
              refl,
            ),
            refl,
          ),
          refl,
          refl,
        ) ▸
        (_, (_, Some ExceedsMaxLoans, (refl, refl), refl), refl, refl) ▸
        (refl, refl, refl),
  ),
  refl,
)
