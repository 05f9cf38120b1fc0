-- Runs in which no memory was refused, as their replies and the count of refused connections tell.
use Rattle.std.specs.Prelude.{ℕ, true, List, [], ◌∷◌, ◌++◌, ◌≡◌, slice_get}
use Rattle.std.specs.declared.option.Option.TheVariants.{Some}
use Rattle.iox2_machine.specs.machine.Ports.{first_segment_fits}
use Rattle.iox2_machine.specs.machine.State.{State, Warnings, Messages, fresh, no_messages}
use Rattle.iox2_machine.specs.machine.Environments.{fixed_handlers, ample_memory}
use Rattle.iox2_machine.specs.declared.allocation.AllocationStrategy.TheVariants.{Static}
use Rattle.iox2_machine.specs.declared.errors.PublisherCreateError.TheVariants.{UnableToCreateDataSegment}
use Rattle.iox2_machine.specs.declared.errors.PublisherCreateError.TheVariants.{FailedToDeployThreadsafetyPolicy as NoPublisherState}
use Rattle.iox2_machine.specs.declared.errors.SubscriberCreateError.TheVariants.{FailedToDeployThreadsafetyPolicy as NoSubscriberState}
use Rattle.iox2_machine.specs.declared.service_config.ServiceConfig.{ServiceConfig}
use Rattle.iox2_commands.specs.Outcomes.{Handle, Event}
use Rattle.iox2_commands.specs.Points.{PointOf}
use Rattle.iox2_commands.specs.Runs.{RunTo, only_defaults}
use Rattle.iox2_commands.specs.Step.{publisher_settings}
use Rattle.iox2_commands.specs.Isolation.{AreIndependent, reads_at}
use Rattle.iox2_commands.specs.Views.{SameView, OmitsOthersFrom}
use Rattle.iox2_commands.specs.declared.command.Command.{Command}
use Rattle.iox2_commands.specs.declared.command.Command.TheVariants.{CreatePublisher, Receive}
use Rattle.iox2_commands.specs.declared.new_publisher.NewPublisher.{NewPublisher}
use Rattle.iox2_commands.specs.declared.reply.Reply.{Reply}
use Rattle.iox2_commands.specs.declared.reply.Reply.TheVariants.{PublisherMade, SubscriberMade, PublisherRefused}
use Rattle.iox2_commands.specs.declared.reply.Reply.TheVariants.{SubscriberRefused}

-- Each connection could be allocated.
abbrev pub TellNoRefusal : Warnings → Type 0
TellNoRefusal warnings = warnings.refused_connections ≡ 0

module _ {T U : Type 0} where
  -- Each publisher that the commands made has its memory from the start. So memory that is refused to one shows in a
  -- reply or in the count.
  abbrev pub PublishersAreStatic : List (Command T U) → List (Reply T U) → Type 0
  PublishersAreStatic commands replies =
      (i p : ℕ) (asked : NewPublisher) → slice_get commands i ≡ Some (CreatePublisher asked)
      → slice_get replies i ≡ Some (PublisherMade p)
      → asked.allocation ≡ Static

  -- The reply to the command refuses a port because memory was refused.
  abbrev pub RefusesPort : ServiceConfig → Command T U → Reply T U → Type 0
  RefusesPort c (CreatePublisher asked) (PublisherRefused UnableToCreateDataSegment) =
      first_segment_fits c (publisher_settings c.variant asked) ≡ true
  RefusesPort c command (PublisherRefused NoPublisherState) = Unit {0}
  RefusesPort c command (SubscriberRefused NoSubscriberState) = Unit {0}
  RefusesPort c command _ = ⊥

  -- No reply refuses a port because memory was refused.
  abbrev pub RefuseNoPort : ServiceConfig → List (Command T U) → List (Reply T U) → Type 0
  RefuseNoPort c (command ∷ commands) (reply ∷ replies) =
      (RefusesPort c command reply → ⊥) × RefuseNoPort c commands replies
  RefuseNoPort c _ _ = Unit {0}

  -- No reply and no count tells that memory was refused.
  pub record MetNoRefusal (c : ServiceConfig) (commands : List (Command T U)) (replies : List (Reply T U))
      (warnings : Warnings) : Type 0 where
    pub ports : RefuseNoPort c commands replies
    pub told : TellNoRefusal warnings

-- A run from a new domain in which memory might have been refused, and that tells of no refusal, is a run with ample
-- memory.
abbrev pub RunsWithoutRefusalsAreAmple : Type 0 → Type 0 → Type 0
RunsWithoutRefusalsAreAmple T U =
    (default_value : T) (default_header : U) (c : ServiceConfig) (commands : List (Command T U))
    (replies : List (Reply T U)) (events : List (Event T U))
    (m : Messages T U) (s : State T U) (handles : List Handle)
    → PublishersAreStatic commands replies → MetNoRefusal c commands replies s.warnings
    → RunTo fixed_handlers (only_defaults default_value default_header) no_messages
    (fresh c) [] commands replies events m s handles
    → RunTo ample_memory (only_defaults default_value default_header) no_messages
    (fresh c) [] commands replies events m s handles

-- Isolation, for two runs in which memory might have been refused and that tell of no refusal: the view of the
-- subscriber q that the command at `position` made is the same at the end of both, and reads of what its receives made
-- get the same replies.
abbrev pub SubscribersAreIsolatedWithoutRefusals : Type 0 → Type 0 → Type 0
SubscribersAreIsolatedWithoutRefusals T U =
    (default_value : T) (default_header : U) (c : ServiceConfig) (position q : ℕ)
    (commands reduced later : List (Command T U))
    (replies replies' : List (Reply T U)) (events events' : List (Event T U)) (m m' : Messages T U) (s s' : State T U)
    (handles handles' : List Handle)
    → PublishersAreStatic commands replies → PublishersAreStatic reduced replies'
    → MetNoRefusal c commands replies s.warnings → MetNoRefusal c reduced replies' s'.warnings
    → OmitsOthersFrom position (commands ++ later) commands reduced
    → AreIndependent c position commands replies reduced replies'
    → RunTo fixed_handlers (only_defaults default_value default_header) no_messages
    (fresh c) [] commands replies events m s handles
    → RunTo fixed_handlers (only_defaults default_value default_header) no_messages
    (fresh c) [] reduced replies' events' m' s' handles'
    → slice_get replies position ≡ Some (SubscriberMade q)
    → ((i : ℕ) → slice_get commands i ≡ Some (Receive position) → slice_get replies i ≡ slice_get replies' i)
    → SameView q m s handles m' s' handles'
    × ((i of : ℕ) (command : Command T U) → slice_get commands of ≡ Some (Receive position)
    → slice_get commands i ≡ Some command → reads_at of command ≡ true → slice_get replies i ≡ slice_get replies' i)

-- The same at any point of both runs.
abbrev pub ViewsStayAlikeWithoutRefusals : Type 0 → Type 0 → Type 0
ViewsStayAlikeWithoutRefusals T U =
    (default_value : T) (default_header : U) (c : ServiceConfig) (position q n : ℕ)
    (commands reduced : List (Command T U))
    (replies replies' : List (Reply T U)) (events events' : List (Event T U)) (m m' : Messages T U) (s s' : State T U)
    → PublishersAreStatic commands replies → PublishersAreStatic reduced replies'
    → MetNoRefusal c commands replies s.warnings → MetNoRefusal c reduced replies' s'.warnings
    → OmitsOthersFrom position commands commands reduced
    → AreIndependent c position commands replies reduced replies'
    → slice_get replies position ≡ Some (SubscriberMade q)
    → ((i : ℕ) → slice_get commands i ≡ Some (Receive position) → slice_get replies i ≡ slice_get replies' i)
    → (x : PointOf fixed_handlers (only_defaults default_value default_header) no_messages
    (fresh c) commands replies events m s n)
    → (y : PointOf fixed_handlers (only_defaults default_value default_header) no_messages
    (fresh c) reduced replies' events' m' s' n)
    → SameView q x.messages x.state x.handles y.messages y.state y.handles
