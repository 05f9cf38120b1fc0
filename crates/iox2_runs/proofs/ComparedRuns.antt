-- Two runs that tell of no refused memory, compared.
use Rattle.std.proofs.Common.{List, [], sym, ap, subst}
use Rattle.std.proofs.lemmas.List.{append-nil}
use Rattle.iox2_machine.specs.machine.State.{State, fresh, no_messages}
use Rattle.iox2_machine.specs.declared.service_config.ServiceConfig.{ServiceConfig}
use Rattle.iox2_domain.specs.Kept.{Kept}
use Rattle.iox2_commands.specs.Refusals.{MetNoRefusal}
use Rattle.iox2_commands.specs.Runs.{only_defaults}
use Rattle.iox2_commands.specs.Views.{OmitsOthersFrom}
use Rattle.iox2_commands.specs.declared.command.Command.{Command}
use Rattle.iox2_commands.specs.declared.reply.Reply.{Reply}
use Rattle.iox2_commands.proofs.RefusalRuns.{isolated_without_refusals, views_without_refusals}
use Rattle.iox2_runs.specs.Compared.{AreCompared}
use Rattle.iox2_runs.specs.DomainRuns.{RunsOnDomain}

module _ {T U : Type 0} where
  pub compared : {F G : Type 0} (default_value : T) (default_header : U) (c : ServiceConfig)
      (commands reduced : List (Command T U)) (new : Kept T U F G) (replies : List (Reply T U)) (new' : Kept T U F G)
      (replies' : List (Reply T U))
      → RunsOnDomain (only_defaults default_value default_header) new no_messages (fresh c) commands replies
      → RunsOnDomain (only_defaults default_value default_header) new' no_messages (fresh c) reduced replies'
      → AreCompared default_value default_header c commands reduced new replies new' replies'
  compared default_value default_header c commands reduced new replies new' replies' first second = record {
    first = first;
    second = second;
    isolated = λ position q tell tell' omits independent met met' made same.
        isolated_without_refusals default_value default_header c position q commands reduced [] replies replies'
        first.events second.events first.messages second.messages
        first.state second.state first.handles second.handles tell tell'
        (subst (MetNoRefusal c commands replies) (sym (ap (λ (z : State T U). z.warnings) (first.shown).state)) met)
        (subst (MetNoRefusal c reduced replies') (sym (ap (λ (z : State T U). z.warnings) (second.shown).state)) met')
        (subst (λ (whole : List (Command T U)). OmitsOthersFrom position whole commands reduced)
        (sym (append-nil commands)) omits)
        independent first.run second.run made same;
    throughout = λ position q n tell tell' omits independent met met' made same x y.
        views_without_refusals default_value default_header c position q n commands reduced replies replies'
        first.events second.events first.messages second.messages
        first.state second.state tell tell'
        (subst (MetNoRefusal c commands replies) (sym (ap (λ (z : State T U). z.warnings) (first.shown).state)) met)
        (subst (MetNoRefusal c reduced replies') (sym (ap (λ (z : State T U). z.warnings) (second.shown).state)) met')
        omits independent made same x y;
  }
