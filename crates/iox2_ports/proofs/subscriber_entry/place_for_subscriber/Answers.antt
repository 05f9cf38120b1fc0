use Rattle.std.proofs.Common.{rules}
use Rattle.iox2_ports.proofs.subscriber_entry.place_for_subscriber.Goals as goal

pub returns-then-state : goal.returns-then-state
returns-then-state g c = search rules

pub returns-then-max : goal.returns-then-max
returns-then-max g c = search rules
