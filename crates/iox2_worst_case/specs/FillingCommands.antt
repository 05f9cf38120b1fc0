-- A list of commands that make a publisher need every slot of the worst case.
use Rattle.std.specs.Prelude.{ℕ, zero, suc, List, [], ◌∷◌, ◌++◌, length, take, drop, replicate, ◌≡◌, false, ◌+◌, ◌*◌}
use Rattle.std.specs.Prelude.{◌^◌, ◌<◌, slice_get}
use Rattle.std.specs.declared.option.Option.{Option}
use Rattle.std.specs.declared.option.Option.TheVariants.{None, Some}
use Rattle.iox2_machine.specs.machine.Limits.{buffer_limit, channel_count, worst_case}
use Rattle.iox2_machine.specs.machine.Records.{Publisher}
use Rattle.iox2_machine.specs.machine.State.{State, Messages, fresh, no_messages}
use Rattle.iox2_machine.specs.declared.service_config.ServiceConfig.{ServiceConfig}
use Rattle.iox2_machine.specs.declared.service_config.TypeVariant.{TypeVariant}
use Rattle.iox2_machine.specs.declared.service_config.TypeVariant.TheVariants.{FixedSize, Dynamic}
use Rattle.iox2_machine.specs.declared.backpressure.BackpressureStrategy.TheVariants.{DiscardData}
use Rattle.iox2_machine.specs.declared.degradation.DegradationAction.TheVariants.{Warn}
use Rattle.iox2_machine.specs.declared.errors.LoanError.TheVariants.{OutOfMemory}
use Rattle.iox2_commands.specs.NewPublishers.{publisher_with}
use Rattle.iox2_commands.specs.Outcomes.{Handle, Event}
use Rattle.iox2_machine.specs.machine.Environments.{ample_memory}
use Rattle.iox2_commands.specs.Runs.{Run, RunFrom, RunTo, any_defaults}
use Rattle.iox2_worst_case.specs.Fills.{Fills}
use Rattle.iox2_commands.specs.declared.command.Command.{Command}
use Rattle.iox2_commands.specs.declared.command.Command.TheVariants.{CreatePublisher, CreateSubscriber, LoanUninit}
use Rattle.iox2_commands.specs.declared.command.Command.TheVariants.{LoanSlice, WriteAll, Send, Update, Receive}
use Rattle.iox2_commands.specs.declared.reply.Reply.{Reply}
use Rattle.iox2_commands.specs.declared.reply.Reply.TheVariants.{PublisherMade, LoanRefused}

-- A static publisher is made, with that limit of loans and that override of its slots. It skips receivers that are
-- full.
abbrev pub publisher_command : {T U : Type 0} → (loans : ℕ) → (slots : Option ℕ) → Command T U
publisher_command loans slots = CreatePublisher (record (publisher_with loans DiscardData) { override_slots = slots })

-- One element is loaned from the publisher that the first command made.
abbrev pub loan_command : {T U : Type 0} → TypeVariant → Command T U
loan_command FixedSize = LoanUninit 0
loan_command Dynamic = LoanSlice 0 1

-- `count` messages are loaned, written and sent; the commands stand from `position` on.
abbrev pub sends : {T U : Type 0} → TypeVariant → (value : T) → (position count : ℕ) → List (Command T U)
sends variant value position zero = []
sends variant value position (suc count) =
    loan_command variant ∷ WriteAll position value ∷ Send position ∷ sends variant value (position + 3) count

-- `count` times a message is loaned, written and sent, and the subscriber made at `subscriber` receives one; the
-- commands stand from `position` on.
abbrev pub rounds : {T U : Type 0} → TypeVariant → (value : T) → (subscriber position count : ℕ) → List (Command T U)
rounds variant value subscriber position zero = []
rounds variant value subscriber position (suc count) =
    loan_command variant ∷ WriteAll position value ∷ Send position ∷ Receive subscriber
    ∷ rounds variant value subscriber (position + 4) count

-- A subscriber is made and connected. It receives as many messages as it may borrow, then its buffer is filled, and
-- then the history is filled with messages that no subscriber has room for.
abbrev pub subscriber_filled : {T U : Type 0} → ServiceConfig → (value : T) → (position : ℕ) → List (Command T U)
subscriber_filled c value position =
    CreateSubscriber None Warn ∷ Update 0
    ∷ rounds c.variant value position (position + 2) c.subscriber_max_borrowed_samples
    ++ sends c.variant value (position + 2 + 4 * c.subscriber_max_borrowed_samples) (buffer_limit c)
    ++ sends c.variant value (position + 2 + 4 * c.subscriber_max_borrowed_samples + 3 * buffer_limit c) c.history_size

-- How many commands that takes.
abbrev pub filling_length : ServiceConfig → ℕ
filling_length c = 2 + 4 * c.subscriber_max_borrowed_samples + 3 * (buffer_limit c + c.history_size)

-- That many subscribers are made and filled, one after another.
abbrev pub subscribers_filled : {T U : Type 0} → ServiceConfig → (value : T) → (position count : ℕ) → List (Command T U)
subscribers_filled c value position zero = []
subscribers_filled c value position (suc count) =
    subscriber_filled c value position ++ subscribers_filled c value (position + filling_length c) count

-- A publisher is made with that limit of loans and that override of its slots. All subscribers are made and filled, one
-- after another; then all loans are taken.
abbrev pub filling_commands : {T U : Type 0} → ServiceConfig → (loans : ℕ) → (value : T) → (slots : Option ℕ)
    → List (Command T U)
filling_commands c loans value slots =
    publisher_command loans slots
    ∷ subscribers_filled c value 1 c.max_subscribers
    ++ replicate loans (loan_command c.variant)

-- The service doesn't overwrite messages, allows a publisher and a subscriber and has elements of one unit and
-- connections of one channel; the limit of loans is positive, and the worst case is smaller than 2 ^ 64.
pub record IsFillable (c : ServiceConfig) (loans : ℕ) : Type 0 where
  pub overflow : c.enable_safe_overflow ≡ false
  pub publishers : 0 < c.max_publishers
  pub subscribers : 0 < c.max_subscribers
  pub some_loans : 0 < loans
  pub units : c.units_per_element ≡ 1
  pub channels : channel_count c ≡ 1
  pub sum : worst_case c loans < 2 ^ 64

-- In every run of the list on a new domain, with ample memory, a loan from the publisher that the first command made is
-- refused as out of memory, in a state in which fewer than `loans` of its loans are out. The run goes to that state
-- with the commands before the loan and goes on from there with the loan and the commands after it.
abbrev pub RefusesForWantOfSlots : {T U : Type 0} → ServiceConfig → (loans : ℕ) → List (Command T U) → Type 0
RefusesForWantOfSlots {T} {U} c loans commands =
    (replies : List (Reply T U)) (events : List (Event T U)) (m : Messages T U) (s : State T U)
    → Run ample_memory any_defaults no_messages (fresh c) commands replies events m s
    → (i : ℕ) × (slice_get commands i ≡ Some (loan_command c.variant))
    × (slice_get replies i ≡ Some (LoanRefused OutOfMemory))
    × (m' : Messages T U) × (s' : State T U) × (handles' : List Handle)
    × RunTo ample_memory any_defaults no_messages (fresh c) [] (take i commands) (take i replies)
    (take i events) m' s' handles'
    × RunFrom ample_memory any_defaults m' s' handles' (drop i commands) (drop i replies) (drop i events) m s
    × (p : ℕ) × (x : Publisher) × (slice_get replies 0 ≡ Some (PublisherMade p)) × (s'.publishers p ≡ Some x)
    × (length x.loans < loans)

-- Without an override of its slots, the list skips and refuses nothing, and its publisher holds the worst case in the
-- end.
abbrev pub WorstCaseIsReached : Type 0 → Type 0 → Type 0
WorstCaseIsReached T U = (c : ServiceConfig) (loans : ℕ) (value : T) → IsFillable c loans
    → Fills {T = T} {U = U} c loans (filling_commands c loans value None)

-- The worst case is the least number of slots: with any smaller number some loan of the list is refused. An override of
-- 0 gives one slot, which is fewer than the worst case of every such service.
abbrev pub WorstCaseIsLeast : Type 0 → Type 0 → Type 0
WorstCaseIsLeast T U =
    (c : ServiceConfig) (loans slots : ℕ) (value : T) → IsFillable c loans → slots < worst_case c loans
    → RefusesForWantOfSlots {T = T} {U = U} c loans (filling_commands c loans value (Some slots))
