-- The laws of whole runs: order, what is read, and enough slots.
use Rattle.std.specs.Prelude.{ℕ, Bool, true, cond, List, length, take, ◌≡◌, ◌<◌, ◌≤◌, slice_get}
use Rattle.std.specs.Option.{option_map_or}
use Rattle.std.specs.declared.option.Option.{Option}
use Rattle.std.specs.declared.option.Option.TheVariants.{None, Some}
use Rattle.iox2_machine.specs.machine.Limits.{worst_case, last_number}
use Rattle.iox2_machine.specs.machine.Numbers.{IsOnce}
use Rattle.iox2_machine.specs.machine.Records.{Entry, Publisher}
use Rattle.iox2_machine.specs.machine.State.{State, Messages, fresh, no_messages}
use Rattle.iox2_machine.specs.machine.Loans.{GrantLoan, is_static, loan_granted}
use Rattle.iox2_machine.specs.machine.WellFormed.{IsWellFormed, HoldsAtMostWorstCase}
use Rattle.iox2_machine.specs.declared.service_config.ServiceConfig.{ServiceConfig}
use Rattle.iox2_machine.specs.declared.service_config.TypeVariant.TheVariants.{FixedSize, Dynamic}
use Rattle.iox2_machine.specs.declared.backpressure.BackpressureAction.{BackpressureAction}
use Rattle.iox2_machine.specs.declared.backpressure.BackpressureInfo.{BackpressureInfo}
use Rattle.iox2_machine.specs.declared.degradation.DegradationAction.{DegradationAction}
use Rattle.iox2_machine.specs.declared.degradation.DegradationCause.{DegradationCause}
use Rattle.iox2_machine.specs.declared.degradation.DegradationInfo.{DegradationInfo}
use Rattle.iox2_machine.specs.declared.errors.LoanError.{LoanError}
use Rattle.iox2_commands.specs.Outcomes.{Handle, Event, Message_sent, Message_received, Outcome}
use Rattle.iox2_commands.specs.Step.{Step, unblocked_at}
use Rattle.iox2_machine.specs.machine.Environments.{fixed_handlers, ample_memory}
use Rattle.iox2_commands.specs.Runs.{Run, any_defaults, sent, received, IsSubsequence}
use Rattle.iox2_commands.specs.Laws.{tested_environment}
use Rattle.iox2_commands.specs.declared.command.Command.{Command}
use Rattle.iox2_commands.specs.declared.command.Command.TheVariants.{LoanUninit, Loan as LoanDefault, LoanSlice, Read}
use Rattle.iox2_commands.specs.declared.command.Command.TheVariants.{ReadHeader, ReadUserHeader, Release}
use Rattle.iox2_commands.specs.declared.reply.Reply.{Reply}
use Rattle.iox2_commands.specs.declared.reply.Reply.TheVariants.{Loaned, Skipped, Sample, Cell, Header, UserHeader}

-- `Holds` is true of the commands, replies and events of every run that begins in a well-formed state, whether or not
-- memory may be refused. A run names only ports, loans and samples that it made.
abbrev pub OfEachRun : (T U : Type 0) → (List (Command T U) → List (Reply T U) → List (Event T U) → Type 0) → Type 0
OfEachRun T U Holds =
    (may_refuse_memory : Bool) (m m' : Messages T U) (s s' : State T U) (commands : List (Command T U))
    (replies : List (Reply T U)) (events : List (Event T U))
    → IsWellFormed s
    → Run (cond may_refuse_memory fixed_handlers ample_memory) any_defaults m s commands replies events m' s'
    → Holds commands replies events

-- Each publisher sent each number once. What a subscriber received from it is a subsequence of what it sent, in which
-- each number occurs once.
abbrev pub AreReceivedInOrder : {T U : Type 0} → List (Event T U) → Type 0
AreReceivedInOrder events = (p q : ℕ)
    → IsOnce (sent p events) × IsSubsequence (received p q events) (sent p events) × IsOnce (received p q events)

-- Messages are received in the order in which they were sent.
abbrev pub ReceivesInOrder : Type 0 → Type 0 → Type 0
ReceivesInOrder T U = OfEachRun T U (λ commands replies events. AreReceivedInOrder events)

-- The message n of p was sent with that entry.
abbrev pub WasSent : {T U : Type 0} → (p n : ℕ) → Entry T U → List (Event T U) → Type 0
WasSent p n entry events = (i : ℕ) × (slice_get events i ≡ Some (Message_sent p n entry))

-- The reply to a receive names the publisher that sent the message before it was received, and so does the message's
-- header.
abbrev pub NameTheirPublisher : {T U : Type 0} → List (Reply T U) → List (Event T U) → Type 0
NameTheirPublisher {T} {U} replies events =
    (i origin : ℕ) → slice_get replies i ≡ Some (Sample origin)
    → (q n : ℕ) × (entry : Entry T U) × (slice_get events i ≡ Some (Message_received origin q n))
    × WasSent origin n entry (take i events) × ((entry.header).publisher_id ≡ origin)

-- Samples name the publisher of their message.
abbrev pub SamplesNameTheirPublisher : Type 0 → Type 0 → Type 0
SamplesNameTheirPublisher T U = OfEachRun T U (λ commands replies events. NameTheirPublisher replies events)

-- No command between the two positions releases the sample received at `of`.
abbrev pub IsUnreleased : {T U : Type 0} → List (Command T U) → (of i : ℕ) → Type 0
IsUnreleased commands of i = (j : ℕ) → of < j → j < i → slice_get commands j ≡ Some (Release of) → ⊥

-- Each sample has one entry, with which its message was sent before it was received. Every read until the release gives
-- that entry; a read past its end is skipped.
abbrev pub GiveWhatWasSent : {T U : Type 0} → List (Command T U) → List (Reply T U) → List (Event T U) → Type 0
GiveWhatWasSent {T} {U} commands replies events =
    (of p q n : ℕ) → slice_get events of ≡ Some (Message_received p q n)
    → (entry : Entry T U) × WasSent p n entry (take of events)
    × ((i : ℕ) → of < i → IsUnreleased commands of i
    → ((at : ℕ) → slice_get commands i ≡ Some (Read of at)
    → slice_get replies i ≡ Some (option_map_or (λ value. Cell (Some value)) (slice_get entry.values at) Skipped))
    × (slice_get commands i ≡ Some (ReadHeader of) → slice_get replies i ≡ Some (Header entry.header))
    × (slice_get commands i ≡ Some (ReadUserHeader of) → slice_get replies i ≡ Some (UserHeader entry.user_header)))

-- Reads through a sample give its message as it was sent.
abbrev pub ReadsGiveWhatWasSent : Type 0 → Type 0 → Type 0
ReadsGiveWhatWasSent T U = OfEachRun T U (λ commands replies events. GiveWhatWasSent commands replies events)

-- What holds of every run from a well-formed state: each subscriber receives a part of what each publisher sent, in
-- order and each message once; each sample names its publisher; and each read through a sample gives what was sent.
pub record IsFaithful {T U : Type 0} (commands : List (Command T U)) (replies : List (Reply T U))
    (events : List (Event T U)) : Type 0 where
  pub order : AreReceivedInOrder events
  pub origins : NameTheirPublisher replies events
  pub reads : GiveWhatWasSent commands replies events

-- ---- enough slots

-- `Holds` is true of a configuration and every state that a run from a new domain of that configuration reaches,
-- whether or not memory may be refused.
abbrev pub OfEachReachedState : (T U : Type 0) → (ServiceConfig → State T U → Type 0) → Type 0
OfEachReachedState T U Holds =
    (may_refuse_memory : Bool) (c : ServiceConfig) (m' : Messages T U) (s' : State T U) (commands : List (Command T U))
    (replies : List (Reply T U)) (events : List (Event T U))
    → Run (cond may_refuse_memory fixed_handlers ample_memory) any_defaults no_messages
    (fresh c) commands replies events m' s'
    → Holds c s'

-- In every state that a run from a new domain reaches, the configuration is unchanged, the state is well-formed, and a
-- publisher with k loans out holds at most `worst_case k` different messages and loans.
abbrev pub ReachedStatesHoldAtMostWorstCase : Type 0 → Type 0 → Type 0
ReachedStatesHoldAtMostWorstCase T U =
    OfEachReachedState T U (λ c s. (s.config ≡ c) × IsWellFormed s × HoldsAtMostWorstCase s)

-- In every well-formed state, a static publisher with at least the worst case of slots grants every loan of permitted
-- length, and refuses none, while fewer than its limit are out and the message counter isn't at its end.
abbrev pub WorstCaseOfSlotsGrants : Type 0 → Type 0 → Type 0
WorstCaseOfSlotsGrants T U =
    (may_refuse_memory : Bool) (backpressure : ℕ → BackpressureInfo → BackpressureAction → Bool)
    (degradation : ℕ → DegradationCause → DegradationInfo → DegradationAction → Bool)
    (default_header : U) (s : State T U) (p : ℕ) (x : Publisher) (checks_length : Bool) (len : ℕ)
    → IsWellFormed s → s.publishers p ≡ Some x → is_static x.allocation_strategy ≡ true
    → worst_case s.config x.max_loaned_samples ≤ x.slots
    → length x.loans < x.max_loaned_samples → s.next_message < last_number
    → (checks_length ≡ true → len ≤ x.initial_max_slice_len)
    → GrantLoan (tested_environment may_refuse_memory backpressure degradation) default_header checks_length len s p
    (loan_granted default_header s p x len x.segments) None
    × ((s' : State T U) (refusal : Option LoanError)
    → GrantLoan (tested_environment may_refuse_memory backpressure degradation) default_header checks_length len s p s'
    refusal → refusal ≡ None)

-- There is an outcome, and each outcome replies that a loan is out.
abbrev pub IsLoaned : {T U : Type 0} → (IsOutcome : Outcome T U → Type 0) → Type 0
IsLoaned {T} {U} IsOutcome = ((o : Outcome T U) × IsOutcome o) × ((o : Outcome T U) → IsOutcome o → o.reply ≡ Loaned)

-- In every well-formed state of a service with elements of one unit, a static publisher that waits for no receiver and
-- has at least the worst case of slots grants each loan command of permitted length while fewer loans than its limit
-- are out and the message counter isn't at its end.
abbrev pub LoansAreGranted : Type 0 → Type 0 → Type 0
LoansAreGranted T U =
    (may_refuse_memory : Bool) (backpressure : ℕ → BackpressureInfo → BackpressureAction → Bool)
    (degradation : ℕ → DegradationCause → DegradationInfo → DegradationAction → Bool)
    (default_value : T) (default_header : U) (m : Messages T U) (s : State T U) (handles : List Handle) (of p : ℕ)
    (x : Publisher)
    → IsWellFormed s → unblocked_at s handles of ≡ Some (p, x) → (s.config).units_per_element ≡ 1
    → is_static x.allocation_strategy ≡ true → worst_case s.config x.max_loaned_samples ≤ x.slots
    → length x.loans < x.max_loaned_samples → s.next_message < last_number
    → ((s.config).variant ≡ FixedSize
    → IsLoaned (Step (tested_environment may_refuse_memory backpressure degradation) default_value default_header m s
    handles (LoanUninit of)))
    × ((s.config).variant ≡ FixedSize
    → IsLoaned (Step (tested_environment may_refuse_memory backpressure degradation) default_value default_header m s
    handles (LoanDefault of)))
    × ((len : ℕ) → (s.config).variant ≡ Dynamic → len ≤ x.initial_max_slice_len
    → IsLoaned (Step (tested_environment may_refuse_memory backpressure degradation) default_value default_header m s
    handles (LoanSlice of len)))
