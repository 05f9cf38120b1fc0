use Rattle.std.proofs.Common.{rules, refl}
use Rattle.iox2_c.proofs.BecomesSteps.{lifted, unlifted}
use Rattle.iox2_c.proofs.exports.channels.iox2ps_subscriber_at_least_one_channel_has_state.Goals as goal

pub returns-in-Some : goal.returns-in-Some
returns-in-Some c =
    lifted _ _ _ _ c.in-Some.service.now c.some_has_state.new.service _ c.in-Some.ensures.value refl
    c.some_has_state.ensures

pub returns-in-None : goal.returns-in-None
returns-in-None c = unlifted _ _ _ _ _ (search rules) refl (search rules) (search rules)
