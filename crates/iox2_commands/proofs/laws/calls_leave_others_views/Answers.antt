use Rattle.iox2_commands.proofs.Isolation.{calls_leave_others_views as lemma}
use Rattle.iox2_commands.proofs.laws.calls_leave_others_views.Goals as goal

pub returns : goal.returns
returns g c = lemma
