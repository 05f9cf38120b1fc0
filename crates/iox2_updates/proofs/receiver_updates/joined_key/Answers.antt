use Rattle.std.proofs.Common.{◌∙◌, ap, sym, subst}
use Rattle.slab.specs.Slab.{ContainsKey}
use Rattle.iox2_domain.specs.Fields.{Fields}
use Rattle.iox2_domain.specs.Updates.{sender_key}
use Rattle.iox2_steps.proofs.receivers.FoundEnds.{sender-stands}
use Rattle.iox2_updates.proofs.receiver_updates.joined_key.Goals as goal

pub index-requires : goal.index-requires
index-requires g c =
    let same = c.deref.ensures.value ∙ ap (λ (f : Fields g.row.T.Denot g.row.U.Denot). f.publishers) c.state.view_is in
    subst (λ (f : Fields g.row.T.Denot g.row.U.Denot). ContainsKey f.connections c.in_ok-key.key) (sym c.state.view_is)
    (sender-stands c.args.state.now c.requires.agrees c.args.at.publisher c.args.at.subscriber c.in_ok-key.key
    (ap (λ xs. sender_key xs c.args.at.publisher c.args.at.subscriber) (sym same) ∙ sym c.key_at.ensures
    ∙ c.in_ok-key.was))
