use Rattle.std.proofs.Common.{refl, sym, ◌∙◌}
use Rattle.std.proofs.lemmas.Option.{slice_get_read}
use Rattle.iox2_contents.proofs.lists.ready.Goals as goal

pub index-requires : goal.index-requires
index-requires g c = rw c.args.slots.now.ok.0 c.requires.within

pub hand_out-requires-clause-waits : goal.hand_out-requires-clause-waits
hand_out-requires-clause-waits g c =
    rw (slice_get_read c.args.slots.now.items _ c.args.slot c.index.result.now refl c.requires.within c.index.ensures)
    (sym c.waits.ensures ∙ c.if-waits.true)

pub returns-else-waits-clause-ready : goal.returns-else-waits-clause-ready
returns-else-waits-clause-ready g c =
    rw (slice_get_read c.args.slots.now.items _ c.args.slot c.index.result.now refl c.requires.within c.index.ensures)
    (sym c.waits.ensures ∙ c.if-waits.false)
