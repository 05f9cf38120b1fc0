-- The text that an error's code numbers is the error's.
use Rattle.std.proofs.Common.{◌≡◌, ℕ, List, ap, refl, ◌∙◌}
use Rattle.iox2_machine.specs.ErrorTexts.{connection_failure_text, loan_error_text, publisher_create_error_text}
use Rattle.iox2_machine.specs.ErrorTexts.{receive_error_text, subscriber_create_error_text}
use Rattle.iox2_machine.specs.declared.errors.LoanError.{LoanError}
use Rattle.iox2_machine.specs.declared.errors.LoanError.TheVariants as loan
use Rattle.iox2_machine.specs.declared.errors.ZeroCopyCreationError.TheVariants as creation
use Rattle.iox2_machine.specs.declared.errors.SharedMemoryOpenError.TheVariants as opening
use Rattle.iox2_machine.specs.declared.errors.ConnectionFailure.{ConnectionFailure}
use Rattle.iox2_machine.specs.declared.errors.ConnectionFailure.TheVariants as connection
use Rattle.iox2_machine.specs.declared.errors.SendError.{SendError}
use Rattle.iox2_machine.specs.declared.errors.SendError.TheVariants as send
use Rattle.iox2_machine.specs.declared.errors.ReceiveError.{ReceiveError}
use Rattle.iox2_machine.specs.declared.errors.ReceiveError.TheVariants as receive
use Rattle.iox2_machine.specs.declared.errors.PublisherCreateError.{PublisherCreateError}
use Rattle.iox2_machine.specs.declared.errors.PublisherCreateError.TheVariants as publisher
use Rattle.iox2_machine.specs.declared.errors.SubscriberCreateError.{SubscriberCreateError}
use Rattle.iox2_machine.specs.declared.errors.SubscriberCreateError.TheVariants as subscriber
use Rattle.iox2_c.specs.Codes.{failure_code, loan_code, publisher_code, receive_code, send_code, subscriber_code}
use Rattle.iox2_c.specs.Texts.{IsTextOfErrors, ended, text_numbered, text_of_send_error}

loans : (error : LoanError) → text_numbered (loan_code error) ≡ loan_error_text error
loans loan.OutOfMemory = refl
loans loan.ExceedsMaxLoans = refl
loans loan.ExceedsMaxLoanSize = refl
loans loan.InternalFailure = refl

sends : (error : SendError) → text_numbered (send_code error) ≡ text_of_send_error error
sends send.ConnectionBrokenSinceSenderNoLongerExists = refl
sends send.ConnectionCorrupted = refl
sends send.UnableToDeliver = refl
sends send.InternalError = refl
sends (send.ConnectionError (connection.FailedToEstablishConnection creation.IncompatibleBufferSize)) = refl
sends (send.ConnectionError (connection.FailedToEstablishConnection creation.OutOfMemory)) = refl
sends (send.ConnectionError (connection.FailedToEstablishConnection creation.ExpiredConnectionBufferFull)) = refl
sends (send.ConnectionError (connection.UnableToMapSendersDataSegment opening.InternalError)) = refl
sends (send.LoanError refusal) = loans refusal

receives : (error : ReceiveError) → text_numbered (receive_code error) ≡ receive_error_text error
receives receive.ExceedsMaxBorrows = refl
receives (receive.ConnectionFailure (connection.FailedToEstablishConnection creation.IncompatibleBufferSize)) = refl
receives (receive.ConnectionFailure (connection.FailedToEstablishConnection creation.OutOfMemory)) = refl
receives (receive.ConnectionFailure (connection.FailedToEstablishConnection creation.ExpiredConnectionBufferFull)) =
    refl
receives (receive.ConnectionFailure (connection.UnableToMapSendersDataSegment opening.InternalError)) = refl

updates : (failure : ConnectionFailure) → text_numbered (failure_code failure) ≡ connection_failure_text failure
updates (connection.FailedToEstablishConnection creation.IncompatibleBufferSize) = refl
updates (connection.FailedToEstablishConnection creation.OutOfMemory) = refl
updates (connection.FailedToEstablishConnection creation.ExpiredConnectionBufferFull) = refl
updates (connection.UnableToMapSendersDataSegment opening.InternalError) = refl

publishers : (error : PublisherCreateError) → text_numbered (publisher_code error) ≡ publisher_create_error_text error
publishers publisher.ExceedsMaxSupportedPublishers = refl
publishers publisher.UnableToCreateDataSegment = refl
publishers publisher.FailedToDeployThreadsafetyPolicy = refl
publishers publisher.UnableToCreatePortTag = refl

subscribers : (error : SubscriberCreateError)
    → text_numbered (subscriber_code error) ≡ subscriber_create_error_text error
subscribers subscriber.ExceedsMaxSupportedSubscribers = refl
subscribers subscriber.BufferSizeExceedsMaxSupportedBufferSizeOfService = refl
subscribers subscriber.FailedToDeployThreadsafetyPolicy = refl
subscribers subscriber.UnableToCreatePortTag = refl

pub texts_of_errors : (code : ℕ) (text : List ℕ) → text ≡ ended (text_numbered code) → IsTextOfErrors code text
texts_of_errors code text same = record {
  loan = λ error is. same ∙ ap ended (ap text_numbered is ∙ loans error);
  send = λ error is. same ∙ ap ended (ap text_numbered is ∙ sends error);
  receive = λ error is. same ∙ ap ended (ap text_numbered is ∙ receives error);
  update = λ failure is. same ∙ ap ended (ap text_numbered is ∙ updates failure);
  publisher = λ error is. same ∙ ap ended (ap text_numbered is ∙ publishers error);
  subscriber = λ error is. same ∙ ap ended (ap text_numbered is ∙ subscribers error);
}
