use Rattle.std.proofs.Common.{rules, ℕ, List, Option, refl, sym, ap, subst, ◌∙◌}
use Rattle.iox2_worst_case.specs.Fills.{Fills}
use Rattle.iox2_worst_case.specs.FillingCommands.{filling_commands, RefusesForWantOfSlots}
use Rattle.iox2_commands.specs.declared.command.Command.{Command}
use Rattle.iox2_worst_case.proofs.FillingLaws.{worst_case_is_reached, worst_case_is_least}
use Rattle.iox2_worst_case.proofs.filling.worst_case_commands.Goals as goal

pub returns-clause-fillable : goal.returns-clause-fillable
returns-clause-fillable g c = c.if-not-is_fillable.ensures.0 refl

pub returns-clause-commands : goal.returns-clause-commands
returns-clause-commands g c = search rules

pub returns-clause-fills : goal.returns-clause-fills
returns-clause-fills g c = λ none.
    subst (λ (list : List (Command g.row.T.Denot g.row.U.Denot)). Fills c.args.config.now c.args.loans list)
    (sym (returns-clause-commands g c ∙ ap (λ (slots : Option ℕ). filling_commands {T = g.row.T.Denot}
    {U = g.row.U.Denot} c.args.config.now c.args.loans c.args.value slots) none))
    (worst_case_is_reached {T = g.row.T.Denot} {U = g.row.U.Denot} c.args.config.now c.args.loans c.args.value
    (returns-clause-fillable g c))

pub returns-clause-least : goal.returns-clause-least
returns-clause-least g c = λ fewer some below.
    subst (λ (list : List (Command g.row.T.Denot g.row.U.Denot)).
    RefusesForWantOfSlots c.args.config.now c.args.loans list)
    (sym (returns-clause-commands g c ∙ ap (λ (slots : Option ℕ). filling_commands {T = g.row.T.Denot}
    {U = g.row.U.Denot} c.args.config.now c.args.loans c.args.value slots) some))
    (worst_case_is_least {T = g.row.T.Denot} {U = g.row.U.Denot} c.args.config.now c.args.loans fewer c.args.value
    (returns-clause-fillable g c) below)
