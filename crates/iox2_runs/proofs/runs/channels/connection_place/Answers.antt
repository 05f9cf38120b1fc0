use Rattle.iox2_runs.proofs.CarriedChannels.{place_carried, place_passed}
use Rattle.iox2_runs.proofs.LiveEntries.{live_publisher}
use Rattle.iox2_runs.proofs.TableEntries.{not_publisher}
use Rattle.iox2_runs.proofs.TableLooks.{is_publisher_entry}
use Rattle.iox2_runs.proofs.Turned.{looks}
use Rattle.iox2_runs.specs.Carries.{entry_for}
use Rattle.iox2_runs.specs.declared.runs.made.Made.{Made}
use Rattle.iox2_machine.specs.machine.Environments.{fixed_handlers}
use Rattle.std.proofs.Common.{ap, ◌∙◌}
use Rattle.iox2_runs.proofs.runs.channels.connection_place.Goals as goal

pub get_connection_id_of-place-requires-clause-there : goal.get_connection_id_of-place-requires-clause-there
get_connection_id_of-place-requires-clause-there g c = live_publisher {T = g.row.T.Denot}
    {U = g.row.U.Denot} c.args.domain.now c.args.held c.requires c.in-Publisher.publisher c.in-Publisher.is

pub returns-in-Publisher : goal.returns-in-Publisher
returns-in-Publisher g c =
    rw c.in-Publisher.is (looks {T = g.row.T.Denot} {U = g.row.U.Denot} _ _ c.args.domain.now _ _ _ (λ table of at.
    place_carried {T = g.row.T.Denot} {U = g.row.U.Denot} fixed_handlers _ c.args.domain.now table of
    c.in-Publisher.publisher c.args.receiver c.get_connection_id_of-place.result at
    c.get_connection_id_of-place.ensures.place))

pub returns-in_default : goal.returns-in_default
returns-in_default g c =
    looks {T = g.row.T.Denot} {U = g.row.U.Denot} _ _ c.args.domain.now c.args.held _ _ (λ table of at.
    place_passed {T = g.row.T.Denot} {U = g.row.U.Denot} fixed_handlers _ c.args.domain.now table of c.args.receiver
    (ap (λ (h : Made). is_publisher_entry (entry_for h)) at ∙ not_publisher c.args.held c.in_default.not-Publisher))
