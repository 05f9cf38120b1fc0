use Rattle.std.proofs.Common.{refl}
use Rattle.iox2_messages.proofs.ReturnedAtHint.{returnable, same-fields, slots-there}
use Rattle.iox2_messages.proofs.hinted_samples.is_last_at_hint.Goals as goal

pub is_last_at-requires : goal.is_last_at-requires
is_last_at-requires g c =
    record { slots = slots-there c.args.state.now _ c.state.view_is c.requires c.args.sample.now.connection }

pub returns-clause-returnable : goal.returns-clause-returnable
returns-clause-returnable g c = λ yes. returnable c.args.state.now _ c.state.view_is c.requires c.args.sample.now
    c.message_of.result c.message_of.ensures (c.is_last_at.ensures.last yes)

pub returns-clause-same : goal.returns-clause-same
returns-clause-same g c = same-fields c.args.state.now _ c.state.view_is c.state.inside.connections
    c.is_last_at.new.books c.is_last_at.ensures.same_books refl
