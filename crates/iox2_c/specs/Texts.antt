-- The texts of codes and of warnings' kinds, by their numbers. An error's is the one that is printed.
use Rattle.std.specs.Prelude.{ℕ, List, [], ◌∷◌, ◌++◌, ◌/◌, ◌≡◌, codes, if◌then◌else◌, nat_eq}
use Rattle.iox2_machine.specs.ErrorTexts.{connection_failure_text, loan_error_text, publisher_create_error_text}
use Rattle.iox2_machine.specs.ErrorTexts.{receive_error_text, send_error_text, subscriber_create_error_text}
use Rattle.iox2_machine.specs.declared.errors.LoanError.{LoanError}
use Rattle.iox2_machine.specs.declared.errors.LoanError.TheVariants as loan
use Rattle.iox2_machine.specs.declared.errors.ZeroCopyCreationError.TheVariants as creation
use Rattle.iox2_machine.specs.declared.errors.SharedMemoryOpenError.TheVariants as opening
use Rattle.iox2_machine.specs.declared.errors.ConnectionFailure.{ConnectionFailure}
use Rattle.iox2_machine.specs.declared.errors.ConnectionFailure.TheVariants as connection
use Rattle.iox2_machine.specs.declared.errors.SendError.{SendError}
use Rattle.iox2_machine.specs.declared.errors.SendError.TheVariants as send
use Rattle.iox2_machine.specs.declared.errors.ReceiveError.{ReceiveError}
use Rattle.iox2_machine.specs.declared.errors.ReceiveError.TheVariants as receive
use Rattle.iox2_machine.specs.declared.errors.PublisherCreateError.{PublisherCreateError}
use Rattle.iox2_machine.specs.declared.errors.PublisherCreateError.TheVariants as publisher
use Rattle.iox2_machine.specs.declared.errors.SubscriberCreateError.{SubscriberCreateError}
use Rattle.iox2_machine.specs.declared.errors.SubscriberCreateError.TheVariants as subscriber
use Rattle.iox2_c.specs.Codes.{failure_code, loan_code, publisher_code, receive_code, send_code, subscriber_code}

-- Nothing has this number.
abbrev pub unknown_text : List ℕ
unknown_text = codes "unknown status code"

-- What a call of C itself says.
abbrev pub call_text : ℕ → List ℕ
call_text n =
    if nat_eq n 0 then codes "done"
    else if nat_eq n 1 then codes "no domain: none was created, or it was destroyed"
    else if nat_eq n 2 then codes "stale or invalid handle"
    else if nat_eq n 3 then codes "no message is waiting"
    else if nat_eq n 4 then codes "allocation of the domain failed"
    else if nat_eq n 5 then codes "the domain exists already"
    else if nat_eq n 6 then codes "the send is blocked by a subscriber whose buffer is full"
    else if nat_eq n 7 then codes "an earlier send of the publisher is blocked"
    else if nat_eq n 9 then codes "the buffer is too small for the message" else unknown_text

-- A loan's error.
abbrev pub loan_text : ℕ → List ℕ
loan_text n =
    if nat_eq n 10 then loan_error_text loan.OutOfMemory
    else if nat_eq n 11 then loan_error_text loan.ExceedsMaxLoans
    else if nat_eq n 12 then loan_error_text loan.ExceedsMaxLoanSize
    else if nat_eq n 13 then loan_error_text loan.InternalFailure else unknown_text

-- A send's error.
abbrev pub send_text : ℕ → List ℕ
send_text n =
    if nat_eq n 20 then send_error_text send.ConnectionBrokenSinceSenderNoLongerExists
    else if nat_eq n 21 then send_error_text send.ConnectionCorrupted
    else if nat_eq n 22 then send_error_text send.UnableToDeliver
    else if nat_eq n 23 then send_error_text send.InternalError
    else if nat_eq n 24 then send_error_text
    (send.ConnectionError (connection.FailedToEstablishConnection creation.IncompatibleBufferSize))
    else if nat_eq n 25 then send_error_text
    (send.ConnectionError (connection.FailedToEstablishConnection creation.OutOfMemory))
    else if nat_eq n 26 then send_error_text
    (send.ConnectionError (connection.FailedToEstablishConnection creation.ExpiredConnectionBufferFull))
    else if nat_eq n 27 then send_error_text
    (send.ConnectionError (connection.UnableToMapSendersDataSegment opening.InternalError)) else unknown_text

-- A receive's error.
abbrev pub receive_text : ℕ → List ℕ
receive_text n =
    if nat_eq n 30 then receive_error_text receive.ExceedsMaxBorrows
    else if nat_eq n 34 then receive_error_text
    (receive.ConnectionFailure (connection.FailedToEstablishConnection creation.IncompatibleBufferSize))
    else if nat_eq n 35 then receive_error_text
    (receive.ConnectionFailure (connection.FailedToEstablishConnection creation.OutOfMemory))
    else if nat_eq n 36 then receive_error_text
    (receive.ConnectionFailure (connection.FailedToEstablishConnection creation.ExpiredConnectionBufferFull))
    else if nat_eq n 37 then receive_error_text
    (receive.ConnectionFailure (connection.UnableToMapSendersDataSegment opening.InternalError)) else unknown_text

-- An update's error.
abbrev pub failure_text : ℕ → List ℕ
failure_text n =
    if nat_eq n 44 then connection_failure_text (connection.FailedToEstablishConnection creation.IncompatibleBufferSize)
    else if nat_eq n 45 then connection_failure_text (connection.FailedToEstablishConnection creation.OutOfMemory)
    else if nat_eq n 46 then connection_failure_text
    (connection.FailedToEstablishConnection creation.ExpiredConnectionBufferFull)
    else if nat_eq n 47 then connection_failure_text
    (connection.UnableToMapSendersDataSegment opening.InternalError) else unknown_text

-- A publisher's refusal.
abbrev pub publisher_text : ℕ → List ℕ
publisher_text n =
    if nat_eq n 50 then publisher_create_error_text publisher.ExceedsMaxSupportedPublishers
    else if nat_eq n 51 then publisher_create_error_text publisher.UnableToCreateDataSegment
    else if nat_eq n 52 then publisher_create_error_text publisher.FailedToDeployThreadsafetyPolicy
    else if nat_eq n 53 then publisher_create_error_text publisher.UnableToCreatePortTag else unknown_text

-- A subscriber's refusal.
abbrev pub subscriber_text : ℕ → List ℕ
subscriber_text n =
    if nat_eq n 60 then subscriber_create_error_text subscriber.ExceedsMaxSupportedSubscribers
    else if nat_eq n 61 then subscriber_create_error_text subscriber.BufferSizeExceedsMaxSupportedBufferSizeOfService
    else if nat_eq n 62 then subscriber_create_error_text subscriber.FailedToDeployThreadsafetyPolicy
    else if nat_eq n 63 then subscriber_create_error_text subscriber.UnableToCreatePortTag else unknown_text

-- A call on a channel.
abbrev pub channel_text : ℕ → List ℕ
channel_text n =
    if nat_eq n 70 then codes "a connection has no channel with this number"
    else if nat_eq n 71 then codes "the publisher has no connection to that subscriber" else unknown_text

-- An invalid setting.
abbrev pub setting_text : ℕ → List ℕ
setting_text n =
    if nat_eq n 80 then codes
    "invalid struct_size: fill the struct with its function in the header of this library's version"
    else if nat_eq n 81 then codes "invalid payload_size: it must be a multiple of payload_alignment"
    else if nat_eq n 82 then codes "invalid payload_alignment: it must be 1, 2, 4, 8 or 16"
    else if nat_eq n 83 then codes "invalid backpressure_strategy: it must be one of iox2ps_backpressure_strategy_e"
    else if nat_eq n 84 then codes "invalid backpressure_handler: it must be one of iox2ps_backpressure_handler_e"
    else if nat_eq n 85 then codes "invalid degradation: it must be one of iox2ps_degradation_e"
    else if nat_eq n 86 then codes "invalid allocation_strategy: it must be one of iox2ps_allocation_strategy_e"
    else if nat_eq n 87 then codes
    "invalid initial_max_slice_len: it must be a multiple of payload_alignment, and not 0 if memory may grow"
    else if nat_eq n 88 then codes "invalid reserved_: it must be 0"
    else if nat_eq n 89 then codes
    "the worst case of slots is too large: lower the limits in the settings, or the number of loans" else unknown_text

-- A warning's kind.
abbrev pub warning_text : ℕ → List ℕ
warning_text n =
    if nat_eq n 100 then codes "Warning::ExpiredBufferRaised"
    else if nat_eq n 101 then codes "Warning::PublisherPartlyConnected"
    else if nat_eq n 102 then codes "Warning::SubscriberPartlyConnected"
    else if nat_eq n 103 then codes "Warning::ConnectionNotMade"
    else if nat_eq n 104 then codes "Warning::ExpiredDataDiscarded" else unknown_text

-- The text of the code, or of the kind of a warning, with this number.
abbrev pub text_numbered : ℕ → List ℕ
text_numbered n =
    if nat_eq (n / 10) 0 then call_text n
    else if nat_eq (n / 10) 1 then loan_text n
    else if nat_eq (n / 10) 2 then send_text n
    else if nat_eq (n / 10) 3 then receive_text n
    else if nat_eq (n / 10) 4 then failure_text n
    else if nat_eq (n / 10) 5 then publisher_text n
    else if nat_eq (n / 10) 6 then subscriber_text n
    else if nat_eq (n / 10) 7 then channel_text n
    else if nat_eq (n / 10) 8 then setting_text n else warning_text n

-- A text with the zero byte that ends it for C.
abbrev pub ended : List ℕ → List ℕ
ended text = text ++ (0 ∷ [])

-- ---- the texts of errors

-- A send that lent nothing has the code of the loan's error, and so its text.
abbrev pub text_of_send_error : SendError → List ℕ
text_of_send_error (send.LoanError refusal) = loan_error_text refusal
text_of_send_error error = send_error_text error

-- Where the code is that of an error, this is the error's text, with the zero byte.
pub record IsTextOfErrors (code : ℕ) (text : List ℕ) : Type 0 where
  pub loan : (error : LoanError) → code ≡ loan_code error → text ≡ ended (loan_error_text error)
  pub send : (error : SendError) → code ≡ send_code error → text ≡ ended (text_of_send_error error)
  pub receive : (error : ReceiveError) → code ≡ receive_code error → text ≡ ended (receive_error_text error)
  pub update : (failure : ConnectionFailure) → code ≡ failure_code failure
      → text ≡ ended (connection_failure_text failure)
  pub publisher : (error : PublisherCreateError) → code ≡ publisher_code error
      → text ≡ ended (publisher_create_error_text error)
  pub subscriber : (error : SubscriberCreateError) → code ≡ subscriber_code error
      → text ≡ ended (subscriber_create_error_text error)
