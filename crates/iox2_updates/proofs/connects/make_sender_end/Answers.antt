use Rattle.std.proofs.Common.{◌≡◌, ◌∙◌, ap, sym, slice_index_or}
use Rattle.std.proofs.lemmas.List.{with_items_is}
use Rattle.std.specs.declared.option.Option.TheVariants.{None}
use Rattle.iox2_domain.specs.Boxes.{answers_of}
use Rattle.iox2_machine.specs.machine.Limits.{warning_limit}
use Rattle.iox2_machine.specs.machine.Connections.{warnings_after}
use Rattle.iox2_domain.specs.WarningRing.{warning_ring}
use Rattle.iox2_domain.specs.Fields.{Fields}
use Rattle.iox2_domain.specs.Updates.{receiver_key, changed_at, key_from, with_sender_key}
use Rattle.iox2_domain.proofs.lemmas.fields.Standing.{some-buffer}
use Rattle.iox2_steps.proofs.updates.SenderOutcomes.{joins-room, joins-as, makes-as, misses-as}
use Rattle.iox2_updates.proofs.connects.make_sender_end.Goals.{After-key_from}
use Rattle.iox2_updates.proofs.connects.make_sender_end.Goals as goal

-- where the key leads that the subscriber has at the publisher's place
looked : (g : _) (c : After-key_from g)
    → key_from c.args.state.now.connections c.ports_at-buffer.result.0.publisher
    (receiver_key c.args.state.now.subscribers c.args.at.subscriber c.args.at.publisher) ≡ c.key_from.result
looked g c =
    let viewed = c.state.view_is in
    let connections : c.state.inside.connections ≡ c.args.state.now.connections =
    ap (λ (f : Fields g.row.T.Denot g.row.U.Denot). f.connections) viewed in
    let other : c.key_at-other.result
    ≡ receiver_key c.args.state.now.subscribers c.args.at.subscriber c.args.at.publisher =
    c.key_at-other.ensures ∙ ap (λ ys. receiver_key ys c.args.at.subscriber c.args.at.publisher)
    (c.deref.ensures.value ∙ ap (λ (f : Fields g.row.T.Denot g.row.U.Denot). f.subscribers) viewed) in
    sym (c.key_from.ensures ∙ (λ k. key_from (connections k) c.ports_at-buffer.result.0.publisher (other k)))

pub set_key_at-requires-clause-room : goal.set_key_at-requires-clause-room
set_key_at-requires-clause-room g c = λ x at.
    let old = c.args.state.now in
    let viewed = c.state.view_is in
    let publishers : c.state.inside.publishers.items ≡ old.publishers =
    ap (λ (f : Fields g.row.T.Denot g.row.U.Denot). f.publishers) viewed in
    let found = looked g (goal.at.set_key_at-requires-clause-room g c).After-key_from ∙ c.in-Some.is in
    joins-room old c.requires.settled.agrees c.args.at.publisher c.args.at.subscriber x
    (rw (c.deref_mut.ensures.value ∙ publishers) at at) _ _ c.ports_at-buffer.ensures c.in-Some.key found

pub set_key_at-requires-2-clause-room : goal.set_key_at-requires-2-clause-room
set_key_at-requires-2-clause-room g c = λ x at.
    let same : c.deref_mut-2.result.now ≡ c.make_between.new.state.publishers =
    c.deref_mut-2.ensures.value ∙ ap (λ (f : Fields g.row.T.Denot g.row.U.Denot). f.publishers) c.state-2.view_is in
    c.in-Ok.ensures.sender_room x (rw same at at)

pub make_between-requires-clause-buffer : goal.make_between-requires-clause-buffer
make_between-requires-clause-buffer g c =
    let apart = c.ports_at-buffer.ensures in
    rw apart.buffer_is (some-buffer c.args.state.now c.requires.settled.agrees.parts
    c.requires.settled.agrees.well_formed c.args.at.subscriber apart.subscriber apart.subscriber_stands)

pub returns-in-Some-clause-made : goal.returns-in-Some-clause-made
returns-in-Some-clause-made g c = λ settled.
    let old = c.args.state.now in
    let viewed = c.state.view_is in
    let publishers : c.state.inside.publishers.items ≡ old.publishers =
    ap (λ (f : Fields g.row.T.Denot g.row.U.Denot). f.publishers) viewed in
    let found = looked g (goal.at.returns-in-Some-clause-made g c).After-key_from ∙ c.in-Some.is in
    let written : _ ≡ changed_at
    (with_sender_key c.args.at.subscriber c.in-Some.key) old.publishers c.args.at.publisher =
    with_items_is c.state.inside.publishers c.set_key_at.new.ports (c.set_key_at.auto.ports ∙ c.deref_mut.ensures.len)
    ∙ c.set_key_at.ensures ∙ ap (λ xs. changed_at (with_sender_key c.args.at.subscriber c.in-Some.key) xs
    c.args.at.publisher) (c.deref_mut.ensures.value ∙ publishers) in
    joins-as (answers_of g.F.BackpressureFn.allows g.G.DegradationFn.allows c.args.boxes.now.boxes) old
    c.requires.settled.agrees c.args.at.publisher c.args.at.subscriber settled.publisher settled.stands settled.settled
    settled.unblocked _ _ c.ports_at-buffer.ensures c.requires.none c.requires.opened
    c.in-Some.key found _ (λ k. record (viewed k) { publishers = written k })

pub returns-in_default-make_between-clause-made : goal.returns-in_default-make_between-clause-made
returns-in_default-make_between-clause-made g c = λ settled.
    let old = c.args.state.now in
    let viewed = c.state.view_is in
    let publishers : c.state.inside.publishers.items ≡ old.publishers =
    ap (λ (f : Fields g.row.T.Denot g.row.U.Denot). f.publishers) viewed in
    let found = looked g (goal.at.returns-in_default-make_between-clause-made g c).After-key_from ∙ c.in_default.is in
    let mid = c.make_between.new.state in
    rw c.degrade.ensures.failure
    (misses-as (answers_of g.F.BackpressureFn.allows g.G.DegradationFn.allows c.args.boxes.now.boxes) old
    c.requires.settled.agrees c.args.at.publisher c.args.at.subscriber settled.publisher settled.stands settled.settled
    settled.unblocked _ _ c.ports_at-buffer.ensures c.requires.none c.requires.opened
    found mid c.make_between.ensures.grows tt _ _
    (ap (λ (f : Fields g.row.T.Denot g.row.U.Denot). (f.config).service_id) viewed)
    (c.degradation_at-mark.ensures settled.publisher
    (ap (λ xs. slice_index_or xs c.args.at.publisher None) (c.deref-2.ensures.value ∙ publishers) ∙ settled.stands))
    c.ask-answer.result c.ask-answer.ensures c.degrade.new.warnings
    c.in_default-make_between.ensures.refused
    (c.degrade.ensures.warnings ∙ ap (λ (f : Fields g.row.T.Denot g.row.U.Denot).
    warning_ring (warnings_after c.ports_at-buffer.result.0.publisher c.ports_at-buffer.result.0.subscriber
    c.ask-answer.result f.warnings.items) warning_limit) (c.state-2.view_is ∙ c.make_between.ensures.grows.fields))
    _ (λ k. record (c.state-2.view_is k) { warnings = c.degrade.new.warnings }))

pub returns-clause-made : goal.returns-clause-made
returns-clause-made g c = λ settled.
    let old = c.args.state.now in
    let viewed = c.state.view_is in
    let publishers : c.state.inside.publishers.items ≡ old.publishers =
    ap (λ (f : Fields g.row.T.Denot g.row.U.Denot). f.publishers) viewed in
    let found = looked g (goal.at.returns-clause-made g c).After-key_from ∙ c.in_default.is in
    let mid = c.make_between.new.state in
    let written : _ ≡ changed_at (with_sender_key c.args.at.subscriber c.in-Ok.key) mid.publishers c.args.at.publisher =
    with_items_is c.state-2.inside.publishers c.set_key_at-2.new.ports
    (c.set_key_at-2.auto.ports ∙ c.deref_mut-2.ensures.len)
    ∙ c.set_key_at-2.ensures
    ∙ ap (λ zs. changed_at (with_sender_key c.args.at.subscriber c.in-Ok.key) zs c.args.at.publisher)
    (c.deref_mut-2.ensures.value ∙ ap (λ (f : Fields g.row.T.Denot g.row.U.Denot). f.publishers) c.state-2.view_is) in
    makes-as (answers_of g.F.BackpressureFn.allows g.G.DegradationFn.allows c.args.boxes.now.boxes) old
    c.requires.settled.agrees c.args.at.publisher c.args.at.subscriber settled.publisher settled.stands settled.settled
    settled.unblocked _ _ c.ports_at-buffer.ensures c.requires.none c.requires.opened
    found mid c.make_between.ensures.grows
    c.in-Ok.ensures.sender_room c.in-Ok.ensures.receiver_room c.in-Ok.ensures.expired_room c.in-Ok.key
    c.in-Ok.ensures.made
    _ (λ k. record (c.state-2.view_is k) { publishers = written k })
