-- The numbers by which C reads errors and settings.
use Rattle.std.specs.Prelude.{ℕ, zero, suc, ◌+◌, if◌then◌else◌, nat_eq}
use Rattle.std.specs.declared.option.Option.{Option}
use Rattle.std.specs.declared.option.Option.TheVariants.{None, Some}
use Rattle.std.specs.declared.result.Result.{Result}
use Rattle.std.specs.declared.result.Result.TheVariants.{Ok, Err}
use Rattle.iox2_machine.specs.declared.allocation.AllocationStrategy.{AllocationStrategy}
use Rattle.iox2_machine.specs.declared.allocation.AllocationStrategy.TheVariants.{BestFit, PowerOfTwo, Static}
use Rattle.iox2_machine.specs.declared.backpressure.BackpressureStrategy.{BackpressureStrategy}
use Rattle.iox2_machine.specs.declared.backpressure.BackpressureStrategy.TheVariants.{RetryUntilDelivered, DiscardData}
use Rattle.iox2_machine.specs.declared.backpressure.BackpressureAction.{BackpressureAction}
use Rattle.iox2_machine.specs.declared.backpressure.BackpressureAction.TheVariants as action
use Rattle.iox2_machine.specs.declared.degradation.DegradationAction.{DegradationAction}
use Rattle.iox2_machine.specs.declared.degradation.DegradationAction.TheVariants.{DegradeAndFail, Ignore, Warn}
use Rattle.iox2_machine.specs.machine.Records.{Fixed, Handler}
use Rattle.iox2_machine.specs.declared.errors.LoanError.{LoanError}
use Rattle.iox2_machine.specs.declared.errors.LoanError.TheVariants.{OutOfMemory, ExceedsMaxLoans, ExceedsMaxLoanSize}
use Rattle.iox2_machine.specs.declared.errors.LoanError.TheVariants.{InternalFailure}
use Rattle.iox2_machine.specs.declared.errors.ZeroCopyCreationError.TheVariants.{IncompatibleBufferSize}
use Rattle.iox2_machine.specs.declared.errors.ZeroCopyCreationError.TheVariants.{OutOfMemory as No_memory}
use Rattle.iox2_machine.specs.declared.errors.ZeroCopyCreationError.TheVariants.{ExpiredConnectionBufferFull}
use Rattle.iox2_machine.specs.declared.errors.ConnectionFailure.{ConnectionFailure}
use Rattle.iox2_machine.specs.declared.errors.ConnectionFailure.TheVariants.{FailedToEstablishConnection}
use Rattle.iox2_machine.specs.declared.errors.ConnectionFailure.TheVariants.{UnableToMapSendersDataSegment}
use Rattle.iox2_machine.specs.declared.errors.SendError.{SendError}
use Rattle.iox2_machine.specs.declared.errors.SendError.TheVariants.{ConnectionBrokenSinceSenderNoLongerExists}
use Rattle.iox2_machine.specs.declared.errors.SendError.TheVariants.{ConnectionCorrupted, LoanError as Not_lent}
use Rattle.iox2_machine.specs.declared.errors.SendError.TheVariants.{ConnectionError, UnableToDeliver, InternalError}
use Rattle.iox2_machine.specs.declared.errors.ReceiveError.{ReceiveError}
use Rattle.iox2_machine.specs.declared.errors.ReceiveError.TheVariants.{ExceedsMaxBorrows}
use Rattle.iox2_machine.specs.declared.errors.ReceiveError.TheVariants.{ConnectionFailure as Not_connected}
use Rattle.iox2_machine.specs.declared.errors.PublisherCreateError.{PublisherCreateError}
use Rattle.iox2_machine.specs.declared.errors.PublisherCreateError.TheVariants as publisher
use Rattle.iox2_machine.specs.declared.errors.SubscriberCreateError.{SubscriberCreateError}
use Rattle.iox2_machine.specs.declared.errors.SubscriberCreateError.TheVariants as subscriber
use Rattle.iox2_pubsub.specs.declared.send_outcome.SendOutcome.{SendOutcome}
use Rattle.iox2_pubsub.specs.declared.send_outcome.SendOutcome.TheVariants.{Delivered, Blocked}
use Rattle.iox2_c.specs.declared.status.TheConstants.{BLOCKED, OK}

-- ---- errors: the codes from this one on, up to those of settings, name one

abbrev pub first_error_code : ℕ
first_error_code = 10

-- The code of a loan's error.
abbrev pub loan_code : LoanError → ℕ
loan_code OutOfMemory = 10
loan_code ExceedsMaxLoans = 11
loan_code ExceedsMaxLoanSize = 12
loan_code InternalFailure = 13

-- Which failure of a connection it is.
abbrev pub failure_index : ConnectionFailure → ℕ
failure_index (FailedToEstablishConnection IncompatibleBufferSize) = 0
failure_index (FailedToEstablishConnection No_memory) = 1
failure_index (FailedToEstablishConnection ExpiredConnectionBufferFull) = 2
failure_index (UnableToMapSendersDataSegment cause) = 3

-- The code of a send's error.
abbrev pub send_code : SendError → ℕ
send_code ConnectionBrokenSinceSenderNoLongerExists = 20
send_code ConnectionCorrupted = 21
send_code UnableToDeliver = 22
send_code InternalError = 23
send_code (ConnectionError failure) = 24 + failure_index failure
send_code (Not_lent error) = loan_code error

-- The code of a receive's error.
abbrev pub receive_code : ReceiveError → ℕ
receive_code ExceedsMaxBorrows = 30
receive_code (Not_connected failure) = 34 + failure_index failure

-- The code of an update's error.
abbrev pub failure_code : ConnectionFailure → ℕ
failure_code failure = 44 + failure_index failure

-- The code of a publisher's refusal.
abbrev pub publisher_code : PublisherCreateError → ℕ
publisher_code publisher.ExceedsMaxSupportedPublishers = 50
publisher_code publisher.UnableToCreateDataSegment = 51
publisher_code publisher.FailedToDeployThreadsafetyPolicy = 52
publisher_code publisher.UnableToCreatePortTag = 53

-- The code of a subscriber's refusal.
abbrev pub subscriber_code : SubscriberCreateError → ℕ
subscriber_code subscriber.ExceedsMaxSupportedSubscribers = 60
subscriber_code subscriber.BufferSizeExceedsMaxSupportedBufferSizeOfService = 61
subscriber_code subscriber.FailedToDeployThreadsafetyPolicy = 62
subscriber_code subscriber.UnableToCreatePortTag = 63

-- OK where the call did what it is to do, and else the error's code.
abbrev pub code_of : {A E : Type 0} → (E → ℕ) → Result A E → ℕ
code_of code (Ok value) = OK
code_of code (Err error) = code error

-- ---- settings

-- The strategy with this number: 1 stands for one that discards.
abbrev pub strategy_numbered : ℕ → BackpressureStrategy
strategy_numbered n = if nat_eq n 1 then DiscardData else RetryUntilDelivered

-- The handler of full buffers with this number: 0 stands for none.
abbrev pub handler_numbered : ℕ → Option (Handler BackpressureAction)
handler_numbered n =
    if nat_eq n 1 then Some (Fixed action.FollowBackpressureyStrategy)
    else if nat_eq n 2 then Some (Fixed action.Retry)
    else if nat_eq n 3 then Some (Fixed action.DiscardData)
    else if nat_eq n 4 then Some (Fixed action.DiscardDataAndFail) else None

-- What is done where memory for a connection is refused, by its number: 0 stands for nothing, and 2 for a failure of
-- the call.
abbrev pub degradation_numbered : ℕ → DegradationAction
degradation_numbered n = if nat_eq n 0 then Ignore else if nat_eq n 2 then DegradeAndFail else Warn

-- How a publisher's memory grows, by its number: 0 stands for one that doesn't.
abbrev pub allocation_numbered : ℕ → AllocationStrategy
allocation_numbered n = if nat_eq n 1 then BestFit else if nat_eq n 2 then PowerOfTwo else Static

-- For how many slots a publisher asks: 0 stands for no override, which leaves it the worst case.
abbrev pub slots_numbered : ℕ → Option ℕ
slots_numbered zero = None
slots_numbered (suc n) = Some (suc n)

-- ---- settings that are invalid: the codes from this one on name one

abbrev pub first_setting_code : ℕ
first_setting_code = 80

-- The size of a struct of settings.
abbrev pub invalid_struct_size : ℕ
invalid_struct_size = 80

-- How many bytes a message may have.
abbrev pub invalid_payload_size : ℕ
invalid_payload_size = 81

-- To what it is aligned.
abbrev pub invalid_payload_alignment : ℕ
invalid_payload_alignment = 82

-- The strategy for full buffers.
abbrev pub invalid_backpressure_strategy : ℕ
invalid_backpressure_strategy = 83

-- The handler of full buffers.
abbrev pub invalid_backpressure_handler : ℕ
invalid_backpressure_handler = 84

-- What is done about a refused connection.
abbrev pub invalid_degradation : ℕ
invalid_degradation = 85

-- How memory grows.
abbrev pub invalid_allocation_strategy : ℕ
invalid_allocation_strategy = 86

-- How long a message may be.
abbrev pub invalid_initial_max_slice_len : ℕ
invalid_initial_max_slice_len = 87

-- A field that is reserved.
abbrev pub invalid_reserved : ℕ
invalid_reserved = 88

-- All together: the worst case of slots is too large.
abbrev pub worst_case_too_large : ℕ
worst_case_too_large = 89

-- ---- sends

-- OK where every receiver had the message, BLOCKED where the send waits, and else the error's code.
abbrev pub sent_code : Result SendOutcome SendError → ℕ
sent_code (Ok (Delivered count)) = OK
sent_code (Ok (Blocked blocked)) = BLOCKED
sent_code (Err error) = send_code error

-- How many subscribers took the message, where the send has ended well, and else what was there.
abbrev pub receivers_of : (before : ℕ) → Result SendOutcome SendError → ℕ
receivers_of before (Ok (Delivered count)) = count
receivers_of before _ = before
