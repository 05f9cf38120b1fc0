use Rattle.std.proofs.Common.{rules, refl}
use Rattle.iox2_c.proofs.BecomesSteps.{lifted, unlifted}
use Rattle.iox2_c.proofs.exports.channel_changes.iox2ps_subscriber_set_channel_state.Goals as goal

pub returns-in-Some : goal.returns-in-Some
returns-in-Some c =
    lifted _ _ _ _ c.in-Some.service.now c.set_state.new.service _ c.in-Some.ensures.value refl c.set_state.ensures

pub returns-in-None : goal.returns-in-None
returns-in-None c = unlifted _ _ _ _ _ (search rules) refl (search rules) (search rules)
