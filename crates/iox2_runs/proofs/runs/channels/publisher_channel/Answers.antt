use Rattle.iox2_pubsub.proofs.StaysBut.{nothing-is-new}
use Rattle.iox2_runs.proofs.CarriedChannels.{publisher_channel_missing, publisher_channel_carried}
use Rattle.iox2_runs.proofs.CarriedChannels.{publisher_channel_passed}
use Rattle.iox2_runs.proofs.LiveEntries.{live_publisher}
use Rattle.iox2_runs.proofs.TableEntries.{not_publisher}
use Rattle.iox2_runs.proofs.TableLooks.{is_publisher_entry}
use Rattle.iox2_runs.proofs.Turned.{looks, makes}
use Rattle.iox2_runs.specs.declared.runs.made.Made.TheVariants.{Nothing}
use Rattle.iox2_runs.specs.Carries.{entry_for}
use Rattle.iox2_runs.specs.declared.runs.made.Made.{Made}
use Rattle.iox2_machine.specs.machine.Environments.{fixed_handlers}
use Rattle.std.proofs.lemmas.Bool.{true≢false}
use Rattle.std.proofs.Common.{refl, sym, ap, ◌∙◌}
use Rattle.iox2_runs.proofs.runs.channels.publisher_channel.Goals as goal

pub returns-then-not-has_channel : goal.returns-then-not-has_channel
returns-then-not-has_channel g c =
    looks {T = g.row.T.Denot} {U = g.row.U.Denot} _ _ c.args.domain.now c.args.held _ _ (λ table of at.
    publisher_channel_missing {T = g.row.T.Denot} {U = g.row.U.Denot} fixed_handlers _ c.args.domain.now table of
    c.args.channel (λ low. true≢false (sym (c.if-not-has_channel.ensures.1 low))) c.args.connection c.args.call)

pub publisher_reply-reply-requires-clause-there : goal.publisher_reply-reply-requires-clause-there
publisher_reply-reply-requires-clause-there g c = live_publisher {T = g.row.T.Denot}
    {U = g.row.U.Denot} c.args.domain.now c.args.held c.requires c.in-Publisher.publisher c.in-Publisher.is

pub returns-in-Publisher : goal.returns-in-Publisher
returns-in-Publisher g c =
    rw c.in-Publisher.is (makes {T = g.row.T.Denot}
    {U = g.row.U.Denot} _ _ c.args.domain.now c.publisher_reply-reply.new.domain _ _ _ Nothing (λ table of at.
    publisher_channel_carried {T = g.row.T.Denot} {U = g.row.U.Denot} fixed_handlers _ c.args.domain.now
    c.publisher_reply-reply.new.domain table of c.in-Publisher.publisher c.args.channel c.args.connection c.args.call
    c.publisher_reply-reply.result at
    (c.if-not-has_channel.ensures.0 refl) c.publisher_reply-reply.ensures.replies)
    c.publisher_reply-reply.ensures.stays (nothing-is-new {T = g.row.T.Denot} {U = g.row.U.Denot} c.args.domain.now) tt)

pub returns-in_default : goal.returns-in_default
returns-in_default g c =
    looks {T = g.row.T.Denot} {U = g.row.U.Denot} _ _ c.args.domain.now c.args.held _ _ (λ table of at.
    publisher_channel_passed {T = g.row.T.Denot} {U = g.row.U.Denot} fixed_handlers _ c.args.domain.now table of
    c.args.channel c.args.connection c.args.call
    (ap (λ (h : Made). is_publisher_entry (entry_for h)) at ∙ not_publisher c.args.held c.in_default.not-Publisher))
