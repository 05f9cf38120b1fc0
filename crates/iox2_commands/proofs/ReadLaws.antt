-- The laws of what is read, as they are stated.
use Rattle.std.specs.Prelude.{cond}
use Rattle.iox2_machine.specs.machine.Environments.{fixed_handlers, ample_memory}
use Rattle.iox2_commands.specs.Runs.{any_defaults}
use Rattle.iox2_commands.specs.RunLaws.{ReceivesInOrder, SamplesNameTheirPublisher, ReadsGiveWhatWasSent}
use Rattle.iox2_commands.proofs.ReadRuns.{samples_name_their_publisher, reads_give_what_was_sent}

-- A received message names who sent it.
pub samples_law : (T U : Type 0) → SamplesNameTheirPublisher T U
samples_law T U may_refuse_memory m m' s s' commands replies events w h =
    samples_name_their_publisher
    (cond may_refuse_memory fixed_handlers ample_memory) any_defaults m m' s s' commands replies events w h

-- A read gives the message as it was sent.
pub reads_law : (T U : Type 0) → ReceivesInOrder T U → ReadsGiveWhatWasSent T U
reads_law T U order may_refuse_memory m m' s s' commands replies events w h =
    reads_give_what_was_sent
    (cond may_refuse_memory fixed_handlers ample_memory) any_defaults m m' s s' commands replies events
    (λ p q. (order may_refuse_memory m m' s s' commands replies events w h p q).2) w h
