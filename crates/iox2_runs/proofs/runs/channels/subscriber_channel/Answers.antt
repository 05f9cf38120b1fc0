use Rattle.iox2_pubsub.proofs.StaysBut.{nothing-is-new}
use Rattle.iox2_runs.proofs.CarriedChannels.{subscriber_channel_missing, subscriber_channel_carried}
use Rattle.iox2_runs.proofs.CarriedChannels.{subscriber_channel_passed}
use Rattle.iox2_runs.proofs.LiveEntries.{live_subscriber}
use Rattle.iox2_runs.proofs.TableEntries.{not_subscriber}
use Rattle.iox2_runs.proofs.TableLooks.{is_subscriber_entry}
use Rattle.iox2_runs.proofs.Turned.{looks, makes}
use Rattle.iox2_runs.specs.declared.runs.made.Made.TheVariants.{Nothing}
use Rattle.iox2_runs.specs.Carries.{entry_for}
use Rattle.iox2_runs.specs.declared.runs.made.Made.{Made}
use Rattle.iox2_machine.specs.machine.Environments.{fixed_handlers}
use Rattle.std.proofs.lemmas.Bool.{true≢false}
use Rattle.std.proofs.Common.{refl, sym, ap, ◌∙◌}
use Rattle.iox2_runs.proofs.runs.channels.subscriber_channel.Goals as goal

pub returns-then-not-has_channel : goal.returns-then-not-has_channel
returns-then-not-has_channel g c =
    looks {T = g.row.T.Denot} {U = g.row.U.Denot} _ _ c.args.domain.now c.args.held _ _ (λ table of at.
    subscriber_channel_missing {T = g.row.T.Denot} {U = g.row.U.Denot} fixed_handlers _ c.args.domain.now table of
    c.args.channel (λ low. true≢false (sym (c.if-not-has_channel.ensures.1 low))) c.args.call)

pub subscriber_reply-reply-requires-clause-live : goal.subscriber_reply-reply-requires-clause-live
subscriber_reply-reply-requires-clause-live g c = live_subscriber {T = g.row.T.Denot}
    {U = g.row.U.Denot} c.args.domain.now c.args.held c.requires c.in-Subscriber.subscriber c.in-Subscriber.is

pub returns-in-Subscriber : goal.returns-in-Subscriber
returns-in-Subscriber g c =
    rw c.in-Subscriber.is (makes {T = g.row.T.Denot}
    {U = g.row.U.Denot} _ _ c.args.domain.now c.subscriber_reply-reply.new.domain _ _ _ Nothing (λ table of at.
    subscriber_channel_carried {T = g.row.T.Denot} {U = g.row.U.Denot} fixed_handlers _ c.args.domain.now
    c.subscriber_reply-reply.new.domain table of c.in-Subscriber.subscriber c.args.channel c.args.call
    c.subscriber_reply-reply.result at
    (c.if-not-has_channel.ensures.0 refl) c.subscriber_reply-reply.ensures.replies)
    c.subscriber_reply-reply.ensures.stays
    (nothing-is-new {T = g.row.T.Denot} {U = g.row.U.Denot} c.args.domain.now) tt)

pub returns-in_default : goal.returns-in_default
returns-in_default g c =
    looks {T = g.row.T.Denot} {U = g.row.U.Denot} _ _ c.args.domain.now c.args.held _ _ (λ table of at.
    subscriber_channel_passed {T = g.row.T.Denot} {U = g.row.U.Denot} fixed_handlers _ c.args.domain.now table of
    c.args.channel c.args.call (ap (λ (h : Made). is_subscriber_entry (entry_for h)) at
    ∙ not_subscriber c.args.held c.in_default.not-Subscriber))
