use Rattle.std.proofs.Common.{◌∙◌, ap, sym, subst}
use Rattle.slab.specs.Slab.{get, with_value}
use Rattle.iox2_domain.specs.Fields.{Fields}
use Rattle.iox2_domain.specs.OpenMarks.{ClearsEnd}
use Rattle.iox2_steps.proofs.updates.MarkedEnds.{end-cleared, none-cleared}
use Rattle.iox2_updates.proofs.EndKeys.{end-read, key-read}
use Rattle.iox2_updates.proofs.marks.unmark_end.Goals as goal

pub index_mut-requires : goal.index_mut-requires
index_mut-requires g c = end-read c.args.state.now _ c.state.view_is c.requires _ c.deref.ensures.value
    c.args.publisher_place c.args.subscriber_place _ c.key_at.ensures c.in-Some.key c.in-Some.is

pub returns-in-Some : goal.returns-in-Some
returns-in-Some g c =
    let named = key-read c.args.state.now _ c.state.view_is _ c.deref.ensures.value c.args.publisher_place
    c.args.subscriber_place _ c.key_at.ensures ∙ c.in-Some.is in
    let at = ap (λ (f : Fields g.row.T.Denot g.row.U.Denot). get f.connections c.in-Some.key) (sym c.state.view_is)
    ∙ c.index_mut.ensures.value in
    subst (λ (f : Fields g.row.T.Denot g.row.U.Denot).
    ClearsEnd c.args.state.now c.args.publisher_place c.args.subscriber_place
    (record f { connections = with_value f.connections c.in-Some.key c.set_open.new.self })) (sym c.state.view_is)
    (end-cleared c.args.state.now c.requires c.args.publisher_place c.args.subscriber_place c.in-Some.key named
    c.index_mut.result.now at c.set_open.new.self c.set_open.ensures.marked)

pub returns-in_default : goal.returns-in_default
returns-in_default g c =
    let none = key-read c.args.state.now _ c.state.view_is _ c.deref.ensures.value c.args.publisher_place
    c.args.subscriber_place _ c.key_at.ensures ∙ c.in_default.is in
    none-cleared c.args.state.now c.requires c.args.publisher_place c.args.subscriber_place none
