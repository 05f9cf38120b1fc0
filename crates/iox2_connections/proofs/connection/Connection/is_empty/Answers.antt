use Rattle.std.proofs.Common.{◌≡◌, length, sym, ◌∙◌, arith}
use Rattle.std.proofs.lemmas.Bool.{false≢true}
use Rattle.std.proofs.lemmas.Grind.{common_steps}
use Rattle.iox2_connections.proofs.LinkLemmas.{some-others, no-others}
use Rattle.iox2_connections.proofs.connection.Connection.is_empty.Goals as goal

pub returns-then-has_other_data : goal.returns-then-has_other_data
returns-then-has_other_data c = (
  λ e. absurd (false≢true e),
  λ none. absurd
      (omega (arith, none, some-others c.args.self.now (sym c.has_other_data.ensures ∙ c.if-has_other_data.true))),
)

pub returns-then-is_empty-2 : goal.returns-then-is_empty-2
returns-then-is_empty-2 c =
    let none : length c.args.self.now.others ≡ 0 =
    no-others c.args.self.now (sym c.has_other_data.ensures ∙ c.if-has_other_data.false) in
    grind (arith, common_steps)
