-- Two runs, each on a new domain.
use Rattle.std.specs.Prelude.{ℕ, true, List, ◌≡◌, slice_get}
use Rattle.std.specs.declared.option.Option.TheVariants.{Some}
use Rattle.iox2_machine.specs.machine.Environments.{fixed_handlers}
use Rattle.iox2_machine.specs.machine.State.{State, Messages, fresh, no_messages}
use Rattle.iox2_machine.specs.declared.service_config.ServiceConfig.{ServiceConfig}
use Rattle.iox2_domain.specs.Kept.{Kept as Domain}
use Rattle.iox2_domain.specs.Shows.{Shows}
use Rattle.iox2_commands.specs.Isolation.{AreIndependent, reads_at}
use Rattle.iox2_commands.specs.OneDefault.{HasOneDefault}
use Rattle.iox2_commands.specs.Refusals.{MetNoRefusal, PublishersAreStatic}
use Rattle.iox2_commands.specs.Outcomes.{Event}
use Rattle.iox2_commands.specs.Points.{GrantsLoans, PointOf}
use Rattle.iox2_commands.specs.RunLaws.{IsFaithful}
use Rattle.iox2_commands.specs.Runs.{Defaults, Run, only_defaults}
use Rattle.iox2_commands.specs.Views.{SameView, OmitsOthersFrom}
use Rattle.iox2_commands.specs.declared.command.Command.{Command}
use Rattle.iox2_commands.specs.declared.command.Command.TheVariants.{Receive}
use Rattle.iox2_commands.specs.declared.reply.Reply.{Reply}
use Rattle.iox2_commands.specs.declared.reply.Reply.TheVariants.{SubscriberMade}
use Rattle.iox2_runs.specs.DomainRuns.{RunsOnDomain}

-- The commands ran on a new domain with these settings: from the fresh state they ran, with these replies, to a state
-- that the domain shows. The run is faithful, and grants the loans that it has to.
pub record RanAfresh {T U F G : Type 0} (defaults : Defaults T U) (c : ServiceConfig) (commands : List (Command T U))
    (new : Domain T U F G) (replies : List (Reply T U)) : Type 0 where
  pub events : List (Event T U)
  pub messages : Messages T U
  pub state : State T U
  pub shown : Shows new messages state
  pub run : Run fixed_handlers defaults no_messages (fresh c) commands replies events messages state
  pub faithful : IsFaithful commands replies events
  pub grants : GrantsLoans fixed_handlers defaults no_messages (fresh c) commands replies events messages state

-- If only one value of each type is a default, the run used that one throughout.
abbrev pub RanWithOneDefault : {T U F G : Type 0} → Defaults T U → ServiceConfig → List (Command T U) → Domain T U F G
    → List (Reply T U) → Type 0
RanWithOneDefault {T} {U} defaults c commands new replies =
    HasOneDefault defaults → (default_value : T) (default_header : U) → defaults.IsDefaultValue default_value
    → defaults.IsDefaultHeader default_header
    → RunsOnDomain (only_defaults default_value default_header) new no_messages (fresh c) commands replies

-- Both lists ran, each on a new domain with these settings. The rest holds under six conditions: neither run made a
-- publisher whose memory grows; the second list leaves out calls of other subscribers than the one made at `position`;
-- publishers are independent; each other subscriber that was closed had released its samples in both runs; neither run
-- tells of a failed allocation, by a reply or by its count of refused connections; and the subscriber made at
-- `position` got the same replies to its receives. Then this subscriber sees the same at the end of both runs, and
-- reads of its samples got the same replies. It also sees the same after each number of commands, at any point that
-- each run has there. Each run has such a point after each number of commands (`grants` of both runs).
pub record AreCompared {T U F G : Type 0} (default_value : T) (default_header : U) (c : ServiceConfig)
    (commands reduced : List (Command T U))
    (new : Domain T U F G) (replies : List (Reply T U)) (new' : Domain T U F G)
    (replies' : List (Reply T U)) : Type 0 where
  pub first : RunsOnDomain (only_defaults default_value default_header) new no_messages (fresh c) commands replies
  pub second : RunsOnDomain (only_defaults default_value default_header) new' no_messages (fresh c) reduced replies'
  pub isolated : (position q : ℕ) → PublishersAreStatic commands replies → PublishersAreStatic reduced replies'
      → OmitsOthersFrom position commands commands reduced → AreIndependent c position commands replies reduced replies'
      → MetNoRefusal c commands replies new.warnings → MetNoRefusal c reduced replies' new'.warnings
      → slice_get replies position ≡ Some (SubscriberMade q)
      → ((i : ℕ) → slice_get commands i ≡ Some (Receive position) → slice_get replies i ≡ slice_get replies' i)
      → SameView q first.messages first.state first.handles second.messages second.state second.handles
      × ((i of : ℕ) (command : Command T U) → slice_get commands of ≡ Some (Receive position)
      → slice_get commands i ≡ Some command → reads_at of command ≡ true → slice_get replies i ≡ slice_get replies' i)
  pub throughout : (position q n : ℕ) → PublishersAreStatic commands replies → PublishersAreStatic reduced replies'
      → OmitsOthersFrom position commands commands reduced → AreIndependent c position commands replies reduced replies'
      → MetNoRefusal c commands replies new.warnings → MetNoRefusal c reduced replies' new'.warnings
      → slice_get replies position ≡ Some (SubscriberMade q)
      → ((i : ℕ) → slice_get commands i ≡ Some (Receive position) → slice_get replies i ≡ slice_get replies' i)
      → (x : PointOf fixed_handlers (only_defaults default_value default_header) no_messages
      (fresh c) commands replies first.events first.messages first.state n)
      → (y : PointOf fixed_handlers (only_defaults default_value default_header) no_messages
      (fresh c) reduced replies' second.events second.messages second.state n)
      → SameView q x.messages x.state x.handles y.messages y.state y.handles
