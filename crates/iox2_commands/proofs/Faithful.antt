-- Every run from a well-formed state is faithful.
use Rattle.std.proofs.Common.{List}
use Rattle.iox2_machine.specs.machine.Records.{Environment}
use Rattle.iox2_machine.specs.machine.State.{State, Messages}
use Rattle.iox2_machine.specs.machine.WellFormed.{IsWellFormed}
use Rattle.iox2_commands.specs.Outcomes.{Event}
use Rattle.iox2_commands.specs.Runs.{Defaults, Run}
use Rattle.iox2_commands.specs.RunLaws.{IsFaithful}
use Rattle.iox2_commands.specs.declared.command.Command.{Command}
use Rattle.iox2_commands.specs.declared.reply.Reply.{Reply}
use Rattle.iox2_commands.proofs.Order.{receives_in_order}
use Rattle.iox2_commands.proofs.ReadRuns.{samples_name_their_publisher, reads_give_what_was_sent}

pub is_faithful : {T U : Type 0} (environment : Environment) (defaults : Defaults T U) (m m' : Messages T U)
    (s s' : State T U)
    (commands : List (Command T U)) (replies : List (Reply T U)) (events : List (Event T U))
    → IsWellFormed s → Run environment defaults m s commands replies events m' s' → IsFaithful commands replies events
is_faithful environment defaults m m' s s' commands replies events w run = record {
  order = receives_in_order environment defaults m m' s s' commands replies events w run;
  origins = samples_name_their_publisher environment defaults m m' s s' commands replies events w run;
  reads = reads_give_what_was_sent environment defaults m m' s s' commands replies events
      (λ p q. (receives_in_order environment defaults m m' s s' commands replies events w run p q).2) w run;
}
