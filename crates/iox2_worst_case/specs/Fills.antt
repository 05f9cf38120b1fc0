-- A list of commands that makes its publisher need every slot of the worst case.
use Rattle.std.specs.Prelude.{ℕ, Bool, true, false, List, ◌≡◌, slice_get}
use Rattle.std.specs.List.{list_all}
use Rattle.std.specs.declared.option.Option.TheVariants.{Some}
use Rattle.iox2_machine.specs.machine.Limits.{worst_case}
use Rattle.iox2_machine.specs.machine.Numbers.{size}
use Rattle.iox2_machine.specs.machine.Records.{Publisher}
use Rattle.iox2_machine.specs.machine.State.{State, Messages, fresh, no_messages, held}
use Rattle.iox2_machine.specs.declared.service_config.ServiceConfig.{ServiceConfig}
use Rattle.iox2_commands.specs.Outcomes.{Event}
use Rattle.iox2_machine.specs.machine.Environments.{ample_memory}
use Rattle.iox2_commands.specs.Runs.{Run, any_defaults}
use Rattle.iox2_commands.specs.declared.command.Command.{Command}
use Rattle.iox2_commands.specs.declared.reply.Reply.{Reply}
use Rattle.iox2_commands.specs.declared.reply.Reply.TheVariants.{Skipped, PublisherMade, PublisherRefused}
use Rattle.iox2_commands.specs.declared.reply.Reply.TheVariants.{SubscriberRefused, LoanRefused, SendRefused}
use Rattle.iox2_commands.specs.declared.reply.Reply.TheVariants.{UpdateRefused, ReceiveRefused}

-- The command was neither skipped nor refused.
abbrev pub is_granted : {T U : Type 0} → Reply T U → Bool
is_granted Skipped = false
is_granted (PublisherRefused e) = false
is_granted (SubscriberRefused e) = false
is_granted (LoanRefused e) = false
is_granted (SendRefused e) = false
is_granted (UpdateRefused e) = false
is_granted (ReceiveRefused e) = false
is_granted _ = true

-- No run of the list on a new domain with ample memory skips or refuses a command. In the end, the publisher that the
-- first command made holds as many messages as the worst case has for that many loans.
abbrev pub Fills : {T U : Type 0} → ServiceConfig → (loans : ℕ) → List (Command T U) → Type 0
Fills {T} {U} c loans commands =
    (replies : List (Reply T U)) (events : List (Event T U)) (m : Messages T U) (s : State T U)
    → Run ample_memory any_defaults no_messages (fresh c) commands replies events m s
    → (list_all is_granted replies ≡ true)
    × ((p : ℕ) × (x : Publisher) × (slice_get replies 0 ≡ Some (PublisherMade p)) × (s.publishers p ≡ Some x)
    × (size (held s p x) ≡ worst_case c loans))
