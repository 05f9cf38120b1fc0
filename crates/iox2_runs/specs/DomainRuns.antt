-- A run on a domain.
use Rattle.std.specs.Prelude.{List, []}
use Rattle.iox2_machine.specs.machine.Environments.{fixed_handlers}
use Rattle.iox2_machine.specs.machine.State.{State, Messages}
use Rattle.iox2_domain.specs.Kept.{Kept as Domain}
use Rattle.iox2_domain.specs.Shows.{Shows}
use Rattle.iox2_commands.specs.Outcomes.{Handle, Event}
use Rattle.iox2_commands.specs.Points.{GrantsLoans}
use Rattle.iox2_commands.specs.Runs.{Defaults, RunTo}
use Rattle.iox2_commands.specs.RunLaws.{IsFaithful}
use Rattle.iox2_commands.specs.declared.command.Command.{Command}
use Rattle.iox2_commands.specs.declared.reply.Reply.{Reply}

-- From this state the commands ran, with these default values and replies, to a state that the domain shows. The run is
-- faithful, and grants the loans that it has to.
pub record RunsOnDomain {T U F G : Type 0} (defaults : Defaults T U) (new : Domain T U F G) (m : Messages T U)
    (s : State T U) (commands : List (Command T U)) (replies : List (Reply T U)) : Type 0 where
  pub events : List (Event T U)
  pub messages : Messages T U
  pub state : State T U
  pub handles : List Handle
  pub shown : Shows new messages state
  pub run : RunTo fixed_handlers defaults m s [] commands replies events messages state handles
  pub faithful : IsFaithful commands replies events
  pub grants : GrantsLoans fixed_handlers defaults m s commands replies events messages state
