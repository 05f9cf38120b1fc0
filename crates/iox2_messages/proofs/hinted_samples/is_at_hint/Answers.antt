use Rattle.std.proofs.Common.{ap, sym, ◌∙◌}
use Rattle.slab.specs.Slab.{get}
use Rattle.iox2_domain.specs.Fields.{Fields}
use Rattle.iox2_domain.proofs.lemmas.samples.HintedSamples.{lies-at-hint}
use Rattle.iox2_messages.proofs.hinted_samples.is_at_hint.Goals as goal

pub returns-then-is_named : goal.returns-then-is_named
returns-then-is_named g c = λ yes.
    let named = c.is_named.ensures.0 c.if-is_named.true in
    lies-at-hint c.args.state.now c.requires.domain c.args.sample.now.subscriber c.args.sample.now.number
    c.requires.live
    c.args.sample.now.connection c.args.sample.now.book c.args.sample.now.slot c.in-Some.connection.now
    (ap (λ (f : Fields g.row.T.Denot g.row.U.Denot). get f.connections c.args.sample.now.connection)
    (sym c.state.view_is) ∙ sym c.in-Some.ensures)
    named.0 named.1 (c.is_at_slot.ensures.0 yes)
