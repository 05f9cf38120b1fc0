-- What one subscriber sees doesn't depend on how fast the others are.
use Rattle.std.specs.Prelude.{ℕ, Bool, true, false, not, ◌&&◌, ◌||◌, List, [], ◌∷◌, ◌++◌, ◌≡◌, ◌≢◌, ◌==◌, ◌<◌}
use Rattle.std.specs.Prelude.{slice_get}
use Rattle.std.specs.declared.option.Option.{Option}
use Rattle.std.specs.Option.{option_map}
use Rattle.std.specs.declared.option.Option.TheVariants.{None, Some}
use Rattle.iox2_machine.specs.machine.Limits.{worst_case}
use Rattle.iox2_machine.specs.machine.Mailbox.{has_borrows}
use Rattle.iox2_machine.specs.machine.Delivery.{PutResult, Accepted, Skipped, Failed, Would_block, by_action}
use Rattle.iox2_machine.specs.machine.Delivery.{by_strategy}
use Rattle.iox2_machine.specs.machine.Records.{Publisher, Subscriber, Handler, Fixed, Custom}
use Rattle.iox2_machine.specs.machine.State.{State, Messages, fresh, no_messages}
use Rattle.iox2_machine.specs.machine.Loans.{is_static}
use Rattle.iox2_machine.specs.machine.Ports.{slots_for}
use Rattle.iox2_machine.specs.machine.WellFormed.{IsWellFormed}
use Rattle.iox2_machine.specs.declared.service_config.ServiceConfig.{ServiceConfig}
use Rattle.iox2_machine.specs.declared.backpressure.BackpressureStrategy.{BackpressureStrategy}
use Rattle.iox2_machine.specs.declared.backpressure.BackpressureAction.{BackpressureAction}
use Rattle.iox2_commands.specs.Outcomes.{Handle, No_handle, Subscriber_handle, Sample_handle, Event, Outcome}
use Rattle.iox2_commands.specs.Outcomes.{messages_after}
use Rattle.iox2_commands.specs.Step.{Step, publisher_settings}
use Rattle.iox2_machine.specs.machine.Environments.{ample_memory}
use Rattle.iox2_commands.specs.Points.{PointOf}
use Rattle.iox2_commands.specs.Runs.{only_defaults, RunTo}
use Rattle.iox2_commands.specs.Views.{SameView, OmitsOthersFrom}
use Rattle.iox2_commands.specs.declared.command.Command.{Command}
use Rattle.iox2_commands.specs.declared.command.Command.TheVariants.{CreatePublisher, Receive, HasSamples, Update}
use Rattle.iox2_commands.specs.declared.command.Command.TheVariants.{Release, Read, ReadHeader, ReadUserHeader, Close}
use Rattle.iox2_commands.specs.declared.command.Command.TheVariants.{SubscriberChannel}
use Rattle.iox2_commands.specs.declared.reply.Reply.{Reply}
use Rattle.iox2_commands.specs.declared.reply.Reply.TheVariants.{PublisherMade, SubscriberMade, Sample}

-- ---- services in which nobody waits for a subscriber

-- It went past the receiver, and the send hasn't failed.
abbrev pub is_skipped : PutResult → Bool
is_skipped Accepted = false
is_skipped Skipped = true
is_skipped Failed = false
is_skipped Would_block = false

-- A full receiver is skipped: the strategy says so, or a handler that always gives the same answer.
abbrev pub is_discarding : BackpressureStrategy → Option (Handler BackpressureAction) → Bool
is_discarding strategy None = is_skipped (by_strategy strategy)
is_discarding strategy (Some (Fixed action)) = is_skipped (by_action strategy action)
is_discarding strategy (Some Custom) = false

-- Deliveries never wait for a receiver, nor fail at one: each takes the message, or it is skipped.
abbrev pub never_waits : ServiceConfig → BackpressureStrategy → Option (Handler BackpressureAction) → Bool
never_waits c strategy handler = c.enable_safe_overflow || is_discarding strategy handler

-- A publisher has the worst case of slots in its one segment, and waits for no receiver.
pub record IsIndependentPublisher (c : ServiceConfig) (x : Publisher) : Type 0 where
  pub static : is_static x.allocation_strategy ≡ true
  pub slots : x.slots ≡ worst_case c x.max_loaned_samples
  pub unblocked : x.blocked ≡ None
  pub never_waits : never_waits c x.backpressure_strategy x.backpressure_handler ≡ true

-- The state is well-formed, all publishers are independent, and no closed subscriber is left but q.
pub record IsIndependent {T U : Type 0} (q : ℕ) (s : State T U) : Type 0 where
  pub well_formed : IsWellFormed s
  pub publishers : (p : ℕ) (x : Publisher) → s.publishers p ≡ Some x → IsIndependentPublisher s.config x
  pub all_open : (r : ℕ) (y : Subscriber) → r ≢ q → s.subscribers r ≡ Some y → y.is_open ≡ true

-- The publisher that the command makes, if it makes one, is independent.
abbrev pub makes_independent_publisher : {T U : Type 0} → ServiceConfig → Command T U → Bool
makes_independent_publisher c (CreatePublisher asked) =
    is_static asked.allocation
    && slots_for c (publisher_settings c.variant asked) == worst_case c asked.loans
    && never_waits c asked.strategy
    (option_map {U = Handler BackpressureAction} (λ action. Fixed action) asked.backpressure)
makes_independent_publisher c _ = true

-- Each sample that the subscriber made at `of` received before the command at i was released before that command.
abbrev pub HasReleased : {T U : Type 0} → (of i : ℕ) → List (Command T U) → List (Reply T U) → Type 0
HasReleased of i commands replies =
    (j p : ℕ) → j < i → slice_get commands j ≡ Some (Receive of) → slice_get replies j ≡ Some (Sample p)
    → (k : ℕ) × (j < k) × (k < i) × (slice_get commands k ≡ Some (Release j))

-- Of two runs: each publisher that the first made is independent; and a subscriber that the first made, but not at
-- `position`, and a later command of it closes, has released each of its samples before that command, in both runs.
pub record AreIndependent {T U : Type 0} (c : ServiceConfig) (position : ℕ) (commands : List (Command T U))
    (replies : List (Reply T U)) (reduced : List (Command T U)) (replies' : List (Reply T U)) : Type 0 where
  pub publishers : (i p : ℕ) (command : Command T U) → slice_get commands i ≡ Some command
      → slice_get replies i ≡ Some (PublisherMade p)
      → makes_independent_publisher c command ≡ true
  pub closes : (i of r : ℕ) → of ≢ position → of < i → slice_get commands i ≡ Some (Close of)
      → slice_get replies of ≡ Some (SubscriberMade r)
      → HasReleased of i commands replies × HasReleased of i reduced replies'

-- ---- the laws of one step

-- The handle is another subscriber's or of its sample, or there is none.
abbrev pub is_of_others : (q : ℕ) → Option Handle → Bool
is_of_others q None = true
is_of_others q (Some No_handle) = true
is_of_others q (Some (Subscriber_handle r)) = not (r == q)
is_of_others q (Some (Sample_handle p r n)) = not (r == q)
is_of_others q (Some _) = false

module _ {T U : Type 0} where
  -- The position that a receive, `HasSamples`, update, release, read or call on a subscriber's channels names.
  abbrev pub subscriber_call : Command T U → Option ℕ
  subscriber_call (Receive of) = Some of
  subscriber_call (HasSamples of) = Some of
  subscriber_call (Update of) = Some of
  subscriber_call (Release of) = Some of
  subscriber_call (Read of at) = Some of
  subscriber_call (ReadHeader of) = Some of
  subscriber_call (ReadUserHeader of) = Some of
  subscriber_call (SubscriberChannel of channel call) = Some of
  subscriber_call _ = None

  -- The views after two outcomes are the same.
  abbrev pub SameViewAfter : (q : ℕ) → Messages T U → List Handle → Outcome T U → Messages T U → List Handle
      → Outcome T U → Type 0
  SameViewAfter q m handles o m' handles' o' =
      SameView q (messages_after o.event m) o.state (handles ++ o.handle ∷ []) (messages_after o'.event m') o'.state
      (handles' ++ o'.handle ∷ [])

  -- The subscriber has borrowed nothing.
  abbrev pub HasBorrowedNothing : State T U → (r : ℕ) → Type 0
  HasBorrowedNothing s r = (p : ℕ) → has_borrows (s.mailboxes p r) ≡ false

  -- A subscriber other than q that a handle names and the command closes has borrowed nothing in either state.
  abbrev pub ClosesUnborrowed : (q : ℕ) → State T U → State T U → List Handle → Command T U → Type 0
  ClosesUnborrowed q s s' handles command =
      (of r : ℕ) → r ≢ q → command ≡ Close of → slice_get handles of ≡ Some (Subscriber_handle r)
      → HasBorrowedNothing s r × HasBorrowedNothing s' r

-- A subscriber's call leaves the view of each other subscriber q as it was, while no closed subscriber is left but q.
abbrev pub CallsLeaveOthersViews : Type 0 → Type 0 → Type 0
CallsLeaveOthersViews T U =
    (default_value : T) (default_header : U) (q : ℕ) (m : Messages T U) (s : State T U) (handles : List Handle)
    (command : Command T U) (of : ℕ) (o : Outcome T U)
    → ((r : ℕ) (y : Subscriber) → r ≢ q → s.subscribers r ≡ Some y → y.is_open ≡ true)
    → subscriber_call command ≡ Some of → is_of_others q (slice_get handles of) ≡ true
    → Step ample_memory default_value default_header m s handles command o
    → SameView q m s (handles ++ No_handle ∷ []) (messages_after o.event m) o.state (handles ++ o.handle ∷ [])

-- One command from two independent states that look alike to a subscriber ends in states that do, if it closes no other
-- subscriber that has borrowed anything, and if the replies are alike when it is a receive of that subscriber.
abbrev pub AlikeStatesStayAlike : Type 0 → Type 0 → Type 0
AlikeStatesStayAlike T U =
    (default_value : T) (default_header : U) (q : ℕ) (m m' : Messages T U) (s s' : State T U)
    (handles handles' : List Handle) (command : Command T U) (o o' : Outcome T U)
    → IsIndependent q s → IsIndependent q s' → SameView q m s handles m' s' handles'
    → ClosesUnborrowed q s s' handles command
    → Step ample_memory default_value default_header m s handles command o
    → Step ample_memory default_value default_header m' s' handles' command o'
    → ((of : ℕ) → command ≡ Receive of → slice_get handles of ≡ Some (Subscriber_handle q) → o.reply ≡ o'.reply)
    → SameViewAfter q m handles o m' handles' o'

-- ---- whole runs

module _ {T U : Type 0} where
  -- The command reads what was made at that position.
  abbrev pub reads_at : (of : ℕ) → Command T U → Bool
  reads_at of (Read named at) = named == of
  reads_at of (ReadHeader named) = named == of
  reads_at of (ReadUserHeader named) = named == of
  reads_at of _ = false

-- One run is of some commands in a new domain, and the other is of a reduced list, in which `Nothing` stands in place
-- of some calls of subscribers other than the one made at `position`. Positions are looked up in the commands and what
-- may come later. Memory is ample in both runs, and both have the same default values. In the first run each publisher
-- that was made is independent, and q is the subscriber made at `position`. Each other subscriber that is closed has
-- released its samples before, in both runs. The receives of q get the same replies in both. Then the view of q is the
-- same at the end of both, and reads of what its receives made get the same replies in both.
abbrev pub SubscribersAreIsolated : Type 0 → Type 0 → Type 0
SubscribersAreIsolated T U =
    (default_value : T) (default_header : U) (c : ServiceConfig) (position q : ℕ)
    (commands reduced later : List (Command T U))
    (replies replies' : List (Reply T U)) (events events' : List (Event T U)) (m m' : Messages T U) (s s' : State T U)
    (handles handles' : List Handle)
    → OmitsOthersFrom position (commands ++ later) commands reduced
    → AreIndependent c position commands replies reduced replies'
    → RunTo ample_memory (only_defaults default_value default_header) no_messages
    (fresh c) [] commands replies events m s handles
    → RunTo ample_memory (only_defaults default_value default_header) no_messages
    (fresh c) [] reduced replies' events' m' s' handles'
    → slice_get replies position ≡ Some (SubscriberMade q)
    → ((i : ℕ) → slice_get commands i ≡ Some (Receive position) → slice_get replies i ≡ slice_get replies' i)
    → SameView q m s handles m' s' handles'
    × ((i of : ℕ) (command : Command T U) → slice_get commands of ≡ Some (Receive position)
    → slice_get commands i ≡ Some command → reads_at of command ≡ true → slice_get replies i ≡ slice_get replies' i)

-- The same two runs at any point of each, after as many commands in one as in the other: there too the view of the
-- subscriber is the same.
abbrev pub ViewsStayAlike : Type 0 → Type 0 → Type 0
ViewsStayAlike T U =
    (default_value : T) (default_header : U) (c : ServiceConfig) (position q n : ℕ)
    (commands reduced : List (Command T U))
    (replies replies' : List (Reply T U)) (events events' : List (Event T U)) (m m' : Messages T U) (s s' : State T U)
    → OmitsOthersFrom position commands commands reduced
    → AreIndependent c position commands replies reduced replies'
    → slice_get replies position ≡ Some (SubscriberMade q)
    → ((i : ℕ) → slice_get commands i ≡ Some (Receive position) → slice_get replies i ≡ slice_get replies' i)
    → (x : PointOf ample_memory (only_defaults default_value default_header) no_messages
    (fresh c) commands replies events m s n)
    → (y : PointOf ample_memory (only_defaults default_value default_header) no_messages
    (fresh c) reduced replies' events' m' s' n)
    → SameView q x.messages x.state x.handles y.messages y.state y.handles
