mod Values
mod DomainBoxSteps
mod BecomesSteps
mod CreationSteps
mod LoanSteps
mod ChannelSteps
mod TextsOfErrors
