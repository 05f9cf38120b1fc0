use Rattle.std.proofs.Common.{rules, ◌≡◌, ◌∙◌, ◌≤◌, length, vec_len, max, ap, map, refl, arith}
use Rattle.std.proofs.lemmas.List.{with_items_is}
use Rattle.std.specs.Option.{option_map}
use denote.Param.{param}
use Rattle.iox2_domain.specs.contracts.state.DomainState.{the_view}
use Rattle.iox2_domain.specs.Handlers.{handler_of}
use Rattle.iox2_domain.specs.SubscriberEntry.{asked_for}
use Rattle.iox2_domain.specs.Fields.{Fields}
use Rattle.iox2_domain.specs.Ports.{entering}
use Rattle.iox2_domain.specs.Placed.{placed}
use Rattle.iox2_steps.proofs.creations.SubscriberEntries.{has-entered, place-low}
use Rattle.iox2_steps.proofs.creations.PublishersDue.{due}
use Rattle.iox2_ports.proofs.subscriber_entry.admit_subscriber.Goals as goal

pub returns-in_default-clause-step : goal.returns-in_default-clause-step
returns-in_default-clause-step g c = (
  (λ k. record (the_view (param 0 g.row.T) (param 1 g.row.U) c.state.inside)
      { subscribers = c.in_default.ensures.items k }) ∙ c.state.view_is,
  refl,
)

pub returns-clause-id : goal.returns-clause-id
returns-clause-id g c = c.new-id.ensures ∙ ap (λ (f : Fields g.row.T.Denot g.row.U.Denot). f.next_port) c.state.view_is

pub returns-clause-step : goal.returns-clause-step
returns-clause-step g c =
    let all_due : c.make_all_due.new.ports ≡ map (option_map due) c.state.inside.publishers.items =
    c.make_all_due.ensures ∙ ap (map (option_map due)) c.deref_mut.ensures.value in
    let size : c.max.result ≡ max 1 c.args.given.now.buffer_size = grind (arith, c.max.ensures) in
    has-entered {T = g.row.T.Denot} {U = g.row.U.Denot} c.args.state.now
    (asked_for c.args.given.now) _ c.state.view_is c.requires.agrees c.args.place c.new-subscriber.result
    c.warn_of_expired_buffer.new.warnings _ _ c.requires.has_place
    (c.new-subscriber.ensures ∙ ap (λ id. entering id c.args.place c.max.result
    (handler_of c.args.given.now.degradation) c.new-subscriber.result.key_room c.new-subscriber.result.expired_room)
    c.new-id.ensures
    ∙ ap (λ size. entering c.state.inside.next_port c.args.place size (handler_of c.args.given.now.degradation)
    c.new-subscriber.result.key_room c.new-subscriber.result.expired_room) size)
    (rw (← c.new-id.ensures) c.warn_of_expired_buffer.ensures)
    (with_items_is c.state.inside.publishers c.make_all_due.new.ports
    (c.make_all_due.auto.ports ∙ c.deref_mut.ensures.len) ∙ all_due)
    (c.put_at_place.ensures.items ∙ ap (λ ys. placed ys c.args.place c.new-subscriber.result) c.in-Ok.ensures.items)

pub put_at_place-requires : goal.put_at_place-requires
put_at_place-requires g c =
    let low : c.args.place ≤ length c.state.inside.subscribers.items =
    place-low {T = g.row.T.Denot} {U = g.row.U.Denot} c.args.state.now
    (asked_for c.args.given.now) _ c.args.place c.state.view_is c.requires.has_place in
    let long : vec_len c.state.inside.subscribers ≡ length c.state.inside.subscribers.items = search rules in
    omega (arith, low, long, c.try_reserve.ensures.len, c.in-Ok.ensures.ok)
