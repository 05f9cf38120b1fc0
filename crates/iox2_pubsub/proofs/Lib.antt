pub mod Fresh
pub mod ReleaseShows
pub mod SampleOrigins
pub mod AskedSlots
pub mod UninitLoans
pub mod SubscribersShown
pub mod LoanHandles
mod LoanReads
pub mod MarkedLoans
pub mod LentHandles
pub mod AssumedLoans
pub mod WrittenLoanCalls
pub mod DefaultSlices
pub mod SliceParts
pub mod FilledLengths
pub mod GrantedLoans
pub mod FilledLoans
mod FilledHandles
mod GoneOn
mod SubscriberSteps
mod LocatedLoans
pub mod SentMessages
pub mod OverflowSends
pub mod PassingSends
pub mod UnfailedSends
pub mod SteadyUpdates
pub mod SendShown
pub mod AlwaysShows
pub mod PublishersShown
pub mod ReceptionShown
pub mod LiveParts
pub mod StaysBut
pub mod StaysOn
pub mod PlacedHandles
pub mod PlacedLoans
mod ReadyPublishers
pub mod CallsStay
mod SentLoans
pub mod DiscardShows
mod DiscardedLoans
pub mod QuestionShown
pub mod UpdatesStay
pub mod UpdatesLeave
pub mod ClosesLeave
pub mod HeldKeys
pub mod SampleReads
pub mod UpdateShown
pub mod ClosesShown
pub mod PayloadLists
pub mod OldestFirst
pub mod OpenChannels
pub mod NextPorts
pub mod ChannelsShown
mod ClosedChannels
mod ChangedChannels
pub mod ConnectedSends
pub mod SendsServe
pub mod ConnectionsStay
pub mod DepartedCounts
pub mod DepartedUpdates
pub mod DepartedStays
pub mod ConnectionsMade
pub mod ConnectedCounts
pub mod ServedLists
pub mod WaitingShown
pub mod PendingDeliveries
pub mod PendingSteps
pub mod PendingShown
pub mod UpToDateShown
pub mod KeptReceives
pub mod ConnectionSendShown
pub mod PublisherWaits
pub mod ShareSums
pub mod ForCallers
pub mod SinceThen
pub mod ReceivedLaws
pub mod AllSubscribers
pub mod AllPublishers
pub mod CopiesServe
pub mod SendsPend
pub mod ConnectionServes
pub mod SubscribersMade
pub mod AwaitedShown
pub mod ConnectionsShown
mod PublishersMade
pub mod ClosesWait
pub mod DepartedShown
pub mod LoansLeftShown
mod BorrowsKept
pub mod BorrowsOfEach
pub mod ConnectionPlaces
pub mod FullDomains
pub mod DeliveryCounts
pub mod SendCounts
pub mod CountsShown
pub mod CountLaws
pub mod CopiesCount
mod RefusedCopies
pub mod PortLists
mod NeverWaiting
pub mod RoomySends
pub mod BorrowsLeftShown
mod AtOnce
pub mod SureLoans
pub mod KeptCounts
pub mod BlockedShown
mod WaitingSends
pub mod BoxesAlike
pub mod ReceiversAhead
pub mod KeptAnswers
mod WaitedFor
pub mod FullEnds
pub mod FullReceivers
pub mod ShareLaws
pub mod OtherConnections
pub mod FailedSends
pub mod ConnectionEnds
