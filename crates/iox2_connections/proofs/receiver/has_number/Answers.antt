use Rattle.std.proofs.Common.{◌∙◌}
use Rattle.std.proofs.lemmas.Bool.{eqb-true}
use Rattle.std.proofs.lemmas.Option.{get_or_from_slice_get}
use Rattle.iox2_connections.proofs.receiver.has_number.Goals as goal

pub returns : goal.returns
returns c = λ yes.
    get_or_from_slice_get c.args.book.now.numbers _ _ _ c.number.ensures ∙ eqb-true c.number.result c.args.number yes
