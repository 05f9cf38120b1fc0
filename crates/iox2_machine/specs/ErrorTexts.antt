-- The printed texts of the errors.
use Rattle.std.specs.Prelude.{ℕ, List, ◌++◌, codes}
use Rattle.iox2_machine.specs.declared.errors.LoanError.{LoanError}
use Rattle.iox2_machine.specs.declared.errors.LoanError.TheVariants as loan
use Rattle.iox2_machine.specs.declared.errors.ZeroCopyCreationError.{ZeroCopyCreationError}
use Rattle.iox2_machine.specs.declared.errors.ZeroCopyCreationError.TheVariants as creation
use Rattle.iox2_machine.specs.declared.errors.SharedMemoryOpenError.{SharedMemoryOpenError}
use Rattle.iox2_machine.specs.declared.errors.SharedMemoryOpenError.TheVariants as opening
use Rattle.iox2_machine.specs.declared.errors.ConnectionFailure.{ConnectionFailure}
use Rattle.iox2_machine.specs.declared.errors.ConnectionFailure.TheVariants as connection
use Rattle.iox2_machine.specs.declared.errors.SendError.{SendError}
use Rattle.iox2_machine.specs.declared.errors.SendError.TheVariants as send
use Rattle.iox2_machine.specs.declared.errors.ReceiveError.{ReceiveError}
use Rattle.iox2_machine.specs.declared.errors.ReceiveError.TheVariants as receive
use Rattle.iox2_machine.specs.declared.errors.PublisherCreateError.{PublisherCreateError}
use Rattle.iox2_machine.specs.declared.errors.PublisherCreateError.TheVariants as publisher
use Rattle.iox2_machine.specs.declared.errors.SubscriberCreateError.{SubscriberCreateError}
use Rattle.iox2_machine.specs.declared.errors.SubscriberCreateError.TheVariants as subscriber
use Rattle.iox2_machine.specs.declared.errors.DomainCreateError.{DomainCreateError}
use Rattle.iox2_machine.specs.declared.errors.DomainCreateError.TheVariants as domain

-- The name of a loan error's variant.
abbrev pub loan_error_name : LoanError → List ℕ
loan_error_name loan.OutOfMemory = codes "OutOfMemory"
loan_error_name loan.ExceedsMaxLoans = codes "ExceedsMaxLoans"
loan_error_name loan.ExceedsMaxLoanSize = codes "ExceedsMaxLoanSize"
loan_error_name loan.InternalFailure = codes "InternalFailure"

-- The name of the variant that says why a connection could not be made or put aside.
abbrev pub creation_error_name : ZeroCopyCreationError → List ℕ
creation_error_name creation.IncompatibleBufferSize = codes "IncompatibleBufferSize"
creation_error_name creation.OutOfMemory = codes "OutOfMemory"
creation_error_name creation.ExpiredConnectionBufferFull = codes "ExpiredConnectionBufferFull"

-- The name of the variant that says why shared memory could not be opened.
abbrev pub open_error_name : SharedMemoryOpenError → List ℕ
open_error_name opening.InternalError = codes "InternalError"

-- The name of a connection failure's variant, with that of its cause in parentheses.
abbrev pub connection_failure_name : ConnectionFailure → List ℕ
connection_failure_name (connection.FailedToEstablishConnection cause) =
    codes "FailedToEstablishConnection(" ++ creation_error_name cause ++ codes ")"
connection_failure_name (connection.UnableToMapSendersDataSegment cause) =
    codes "UnableToMapSendersDataSegment(" ++ open_error_name cause ++ codes ")"

-- The name of a send error's variant, with that of its cause, if it has one, in parentheses.
abbrev pub send_error_name : SendError → List ℕ
send_error_name send.ConnectionBrokenSinceSenderNoLongerExists = codes "ConnectionBrokenSinceSenderNoLongerExists"
send_error_name send.ConnectionCorrupted = codes "ConnectionCorrupted"
send_error_name (send.LoanError refusal) = codes "LoanError(" ++ loan_error_name refusal ++ codes ")"
send_error_name (send.ConnectionError failure) =
    codes "ConnectionError(" ++ connection_failure_name failure ++ codes ")"
send_error_name send.UnableToDeliver = codes "UnableToDeliver"
send_error_name send.InternalError = codes "InternalError"

-- The name of a receive error's variant, with that of its cause, if it has one, in parentheses.
abbrev pub receive_error_name : ReceiveError → List ℕ
receive_error_name receive.ExceedsMaxBorrows = codes "ExceedsMaxBorrows"
receive_error_name (receive.ConnectionFailure failure) =
    codes "ConnectionFailure(" ++ connection_failure_name failure ++ codes ")"

-- The name of the variant that says why a publisher was not created.
abbrev pub publisher_create_error_name : PublisherCreateError → List ℕ
publisher_create_error_name publisher.ExceedsMaxSupportedPublishers = codes "ExceedsMaxSupportedPublishers"
publisher_create_error_name publisher.UnableToCreateDataSegment = codes "UnableToCreateDataSegment"
publisher_create_error_name publisher.FailedToDeployThreadsafetyPolicy = codes "FailedToDeployThreadsafetyPolicy"
publisher_create_error_name publisher.UnableToCreatePortTag = codes "UnableToCreatePortTag"

-- The name of the variant that says why a subscriber was not created.
abbrev pub subscriber_create_error_name : SubscriberCreateError → List ℕ
subscriber_create_error_name subscriber.ExceedsMaxSupportedSubscribers = codes "ExceedsMaxSupportedSubscribers"
subscriber_create_error_name subscriber.BufferSizeExceedsMaxSupportedBufferSizeOfService =
    codes "BufferSizeExceedsMaxSupportedBufferSizeOfService"
subscriber_create_error_name subscriber.FailedToDeployThreadsafetyPolicy = codes "FailedToDeployThreadsafetyPolicy"
subscriber_create_error_name subscriber.UnableToCreatePortTag = codes "UnableToCreatePortTag"

-- A loan error is printed as its type's name, two colons and its variant's name.
abbrev pub loan_error_text : LoanError → List ℕ
loan_error_text error = codes "LoanError::" ++ loan_error_name error

-- A connection failure is printed as its type's name, two colons and its variant's name.
abbrev pub connection_failure_text : ConnectionFailure → List ℕ
connection_failure_text failure = codes "ConnectionFailure::" ++ connection_failure_name failure

-- A send error is printed as its type's name, two colons and its variant's name.
abbrev pub send_error_text : SendError → List ℕ
send_error_text error = codes "SendError::" ++ send_error_name error

-- A receive error is printed as its type's name, two colons and its variant's name.
abbrev pub receive_error_text : ReceiveError → List ℕ
receive_error_text error = codes "ReceiveError::" ++ receive_error_name error

-- The refusal of a publisher is printed as its type's name, two colons and its variant's name.
abbrev pub publisher_create_error_text : PublisherCreateError → List ℕ
publisher_create_error_text error = codes "PublisherCreateError::" ++ publisher_create_error_name error

-- The refusal of a subscriber is printed as its type's name, two colons and its variant's name.
abbrev pub subscriber_create_error_text : SubscriberCreateError → List ℕ
subscriber_create_error_text error = codes "SubscriberCreateError::" ++ subscriber_create_error_name error

-- What is printed for a domain that was not made.
abbrev pub domain_create_error_text : DomainCreateError → List ℕ
domain_create_error_text domain.OutOfMemory = codes "DomainCreateError::OutOfMemory"
