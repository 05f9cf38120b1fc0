use Rattle.std.specs.Prelude.{◌&&◌, ◌==◌}
use Rattle.std.specs.Option.{option_map}
use Rattle.std.proofs.Common.{ap, sym, ◌∙◌, Bool, List, Option, None, get_or, le_refl}
use Rattle.std.proofs.Math.ListN.{get_or-map}
use Rattle.std.proofs.lemmas.Bool.{eq-eqb, ne_eqb}
use Rattle.iox2_connections.specs.Receivers.{is_open_one}
use Rattle.iox2_connections.specs.declared.sender.ReceiverDetails.{ReceiverDetails}
use Rattle.iox2_connections.proofs.sender.stands_open.Goals as goal

pub returns-then-receiver-id : goal.returns-then-receiver-id
returns-then-receiver-id g c =
    let details = option_map g.R.Receiver.details_of in
    ap (λ (b : Bool). b && c.details-receiver.result.is_open) (sym (eq-eqb _ _ c.if-receiver-id.true))
    ∙ ap (λ (y : ReceiverDetails). (y.port_id == c.args.id) && y.is_open) c.details-receiver.ensures
    ∙ ap (is_open_one c.args.id)
    (ap details (sym c.in-Some-Some.field-0-is ∙ c.in-Some-Some.ensures.lookup.4 (le_refl c.args.place) None)
    ∙ ap (λ (ys : List (Option g.row.R.Denot)). details (get_or ys c.args.place None)) c.deref.ensures.value
    ∙ sym (get_or-map details c.args.receivers.now.items c.args.place None))

pub returns-else-receiver-id : goal.returns-else-receiver-id
returns-else-receiver-id g c =
    let details = option_map g.R.Receiver.details_of in
    let other = ne_eqb _ _ c.if-receiver-id.false in
    other
    ∙ ap (λ (b : Bool). b && c.details-receiver.result.is_open) (sym other)
    ∙ ap (λ (y : ReceiverDetails). (y.port_id == c.args.id) && y.is_open) c.details-receiver.ensures
    ∙ ap (is_open_one c.args.id)
    (ap details (sym c.in-Some-Some.field-0-is ∙ c.in-Some-Some.ensures.lookup.4 (le_refl c.args.place) None)
    ∙ ap (λ (ys : List (Option g.row.R.Denot)). details (get_or ys c.args.place None)) c.deref.ensures.value
    ∙ sym (get_or-map details c.args.receivers.now.items c.args.place None))
