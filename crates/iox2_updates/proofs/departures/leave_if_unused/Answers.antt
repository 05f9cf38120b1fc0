use Rattle.std.proofs.Common.{◌≡◌, ◌∙◌, List, Option, map, slice_set, None, Some, false, ap, refl, sym, subst}
use Rattle.std.proofs.lemmas.List.{with_items_is}
use Rattle.std.specs.Prelude.{slice_index_or}
use Rattle.std.specs.Option.{option_map}
use denote.Param.{param}
use Rattle.iox2_domain.specs.contracts.state.DomainState.{the_view}
use Rattle.iox2_domain.specs.Departures.{BorrowsNothing, BorrowsSome, DropsUnshared, KnowsKey}
use Rattle.iox2_domain.specs.Fields.{Fields}
use Rattle.iox2_domain.specs.Ports.{PublisherFields, SubscriberFields}
use Rattle.iox2_steps.proofs.releases.Leaving.{FreesMidway, leaves, stays-open, stays-used, without_subscriber}
use Rattle.iox2_steps.proofs.creations.PublishersDue.{due}
use Rattle.iox2_domain.proofs.lemmas.slots.PublisherBooks.{read-there}
use Rattle.iox2_updates.proofs.departures.leave_if_unused.Goals.{In-Some, then-subscriber-via-then-subscriber}
use Rattle.iox2_updates.proofs.departures.leave_if_unused.Goals.{then-subscriber-via-else-subscriber+then-has_borrowed}
use Rattle.iox2_updates.proofs.departures.leave_if_unused.Goals as goal

-- the subscriber that was looked up is the one that stands at the place
found : (g : _) (c : In-Some g) (y : SubscriberFields)
    → slice_index_or c.args.state.now.subscribers c.args.place None ≡ Some y → c.in-Some.subscriber ≡ y
found g c y at =
    let there : slice_index_or c.state.inside.subscribers.items c.args.place None ≡ Some y =
    ap (λ (f : Fields g.row.T.Denot g.row.U.Denot). slice_index_or f.subscribers c.args.place None) c.state.view_is
    ∙ at in
    let read : Some y ≡ Some c.in-Some.subscriber =
    sym there ∙ read-there _ c.args.place _ _ there c.index.ensures ∙ c.in-Some.is in
    cc

pub returns-then-subscriber : goal.returns-then-subscriber
returns-then-subscriber g c = record {
  freed = λ y at.
      let is = found g (goal.at.returns-then-subscriber g c).In-Some y at in
      let stands = c.requires.stands in
      let one : Some stands.0 ≡ Some y = sym stands.1 ∙ at in
      let its : stands.0 ≡ y = cc in
      elim c.then-subscriber.branch [
        | then-subscriber-via-then-subscriber w ↦
            stays-open c.args.state.now c.requires.consistent c.args.place y at (rw its at stands.2)
            (sym (ap (λ (z : SubscriberFields). z.is_open) (c.subscriber.view_is ∙ is)) ∙ w.if-subscriber.true)
        | then-subscriber-via-else-subscriber+then-has_borrowed w ↦
            stays-used c.args.state.now c.requires.consistent c.args.place y at (rw its at stands.2)
            (subst (λ (f : Fields g.row.T.Denot g.row.U.Denot). BorrowsSome f.connections y.id) c.state.view_is
            (subst (λ (z : SubscriberFields). BorrowsSome c.state.inside.connections z.id) is
            (w.if-has_borrowed.ensures.some refl)))
      ];
}

pub returns : goal.returns
returns g c = record {
  freed = λ y at.
      let is = found g (goal.at.returns g c).In-Some y at in
      let stands = c.requires.stands in
      let one : Some stands.0 ≡ Some y = sym stands.1 ∙ at in
      let its : stands.0 ≡ y = cc in
      let settled =
      with_items_is c.state.inside.publishers c.make_all_due.new.ports
      (c.make_all_due.auto.ports ∙ c.deref_mut.ensures.len)
      ∙ c.make_all_due.ensures
      ∙ ap (map (option_map due)) c.deref_mut.ensures.value in
      let drops : DropsUnshared c.args.state.now.publishers y.id
      (KnowsKey y) c.args.state.now.connections c.remove_unshared.new.connections =
      subst (λ (f : Fields g.row.T.Denot g.row.U.Denot).
      DropsUnshared f.publishers y.id (KnowsKey y) f.connections c.remove_unshared.new.connections) c.state.view_is
      (subst (λ (ps : List (Option PublisherFields)). DropsUnshared ps y.id
      (KnowsKey y) c.state.inside.connections c.remove_unshared.new.connections) c.deref.ensures.value
      (subst (λ (z : SubscriberFields). DropsUnshared c.deref.result.now z.id
      (KnowsKey z) c.state.inside.connections c.remove_unshared.new.connections) is c.remove_unshared.ensures)) in
      let nothing : BorrowsNothing c.args.state.now.connections y.id (KnowsKey y) =
      subst (λ (f : Fields g.row.T.Denot g.row.U.Denot). BorrowsNothing f.connections y.id (KnowsKey y)) c.state.view_is
      (subst (λ (z : SubscriberFields). BorrowsNothing c.state.inside.connections z.id (KnowsKey z)) is
      (c.if-has_borrowed.ensures.nothing refl)) in
      let closed : y.is_open ≡ false =
      sym (ap (λ (z : SubscriberFields). z.is_open) (c.subscriber.view_is ∙ is)) ∙ c.if-subscriber.false in
      subst (λ (f : Fields g.row.T.Denot g.row.U.Denot). FreesMidway c.args.state.now y.id f)
      (sym ((λ i. record (the_view (param 0 g.row.T) (param 1 g.row.U) c.state.inside) {
        publishers = settled i;
        subscribers = slice_set c.state.inside.subscribers.items c.args.place None;
        connections = c.remove_unshared.new.connections;
      }) ∙ ap (λ (f : Fields g.row.T.Denot g.row.U.Denot).
      without_subscriber f c.args.place c.remove_unshared.new.connections) c.state.view_is))
      (leaves c.args.state.now c.requires.consistent c.args.place y at
      (rw its at stands.2) closed nothing c.remove_unshared.new.connections drops);
}
