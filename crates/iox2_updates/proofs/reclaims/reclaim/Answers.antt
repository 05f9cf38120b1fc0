use Rattle.iox2_connections.proofs.MailboxChanges.{within_if_some}
use Rattle.std.proofs.Common.{◌≡◌, None, Some, slice_index_or, sym, ◌∙◌, ap, subst, rules, length, vec_len, ◌^◌, arith}
use Rattle.iox2_connections.specs.Receivers.{HasReclaimed}
use Rattle.iox2_domain.specs.Ports.{PublisherFields}
use Rattle.iox2_domain.specs.Fields.{Fields}
use Rattle.iox2_domain.specs.Invariant.{IsDomain}
use Rattle.iox2_domain.proofs.lemmas.slots.PublisherBooks.{read-there, book-there, sender-linked, book-covers}
use Rattle.iox2_domain.proofs.lemmas.slots.ReclaimSteps.{publisher-reclaims}
use Rattle.slab.specs.Slab.{with_value}
use Rattle.iox2_steps.proofs.updates.HistoryBounds.{held-few}
use Rattle.iox2_updates.specs.Holders.{HasFewHolders}
use Rattle.iox2_updates.proofs.reclaims.reclaim.Goals as goal

pub index_mut-requires : goal.index_mut-requires
index_mut-requires g c =
    book-there _ (subst (IsDomain {T = g.row.T.Denot} {U = g.row.U.Denot})
    (sym c.state.view_is) c.requires.agrees).parts c.args.place _
    (read-there _ c.args.place _ _
    (ap (λ (f : Fields g.row.T.Denot g.row.U.Denot). slice_index_or f.publishers c.args.place None) c.state.view_is
    ∙ c.requires.stands.1) c.index.ensures ∙ c.in-Some.is ∙ ap Some (sym c.publisher.view_is))

pub reclaim_all-requires-clause-linked : goal.reclaim_all-requires-clause-linked
reclaim_all-requires-clause-linked g c =
    rw (c.value.ensures, c.deref.ensures.value)
    (sender-linked _ (subst (IsDomain {T = g.row.T.Denot} {U = g.row.U.Denot})
    (sym c.state.view_is) c.requires.agrees).parts c.args.place _
    (read-there _ c.args.place _ _
    (ap (λ (f : Fields g.row.T.Denot g.row.U.Denot). slice_index_or f.publishers c.args.place None) c.state.view_is
    ∙ c.requires.stands.1) c.index.ensures ∙ c.in-Some.is ∙ ap Some (sym c.publisher.view_is)))

pub reclaim_all-requires-clause-covered : goal.reclaim_all-requires-clause-covered
reclaim_all-requires-clause-covered g c =
    rw c.value.ensures
    (book-covers _ (subst (IsDomain {T = g.row.T.Denot} {U = g.row.U.Denot})
    (sym c.state.view_is) c.requires.agrees).parts c.args.place _
    (read-there _ c.args.place _ _
    (ap (λ (f : Fields g.row.T.Denot g.row.U.Denot). slice_index_or f.publishers c.args.place None) c.state.view_is
    ∙ c.requires.stands.1) c.index.ensures ∙ c.in-Some.is ∙ ap Some (sym c.publisher.view_is)) _
    c.index_mut.ensures.value)

pub returns-clause-reaches : goal.returns-clause-reaches
returns-clause-reaches g c =
    publisher-reclaims _ _ c.state.view_is (subst (IsDomain {T = g.row.T.Denot} {U = g.row.U.Denot})
    (sym c.state.view_is) c.requires.agrees) c.args.place _
    (read-there _ c.args.place _ _
    (ap (λ (f : Fields g.row.T.Denot g.row.U.Denot). slice_index_or f.publishers c.args.place None) c.state.view_is
    ∙ c.requires.stands.1) c.index.ensures ∙ c.in-Some.is ∙ ap Some (sym c.publisher.view_is)) _ _
    c.index_mut.ensures.value _ c.reclaim_all.ensures.book
    (rw c.value.ensures at c.reclaim_all.ensures.reclaims)

pub returns-clause-reclaimed : goal.returns-clause-reclaimed
returns-clause-reclaimed g c = λ x at.
    let same : Some c.in-Some.publisher ≡ Some x =
    sym (read-there _ c.args.place _ _
    (ap (λ (f : Fields g.row.T.Denot g.row.U.Denot). slice_index_or f.publishers c.args.place None) c.state.view_is
    ∙ c.requires.stands.1) c.index.ensures ∙ c.in-Some.is)
    ∙ ap (λ (f : Fields g.row.T.Denot g.row.U.Denot). slice_index_or f.publishers c.args.place None) c.state.view_is
    ∙ at in
    let is : c.in-Some.publisher ≡ x = cc in
    subst (λ (y : PublisherFields). HasReclaimed c.reclaim_all.new.connections y.keys) (c.publisher.view_is ∙ is)
    (rw c.deref.ensures.value at c.reclaim_all.ensures.all)

pub index-requires : goal.index-requires
index-requires g c =
    let there : slice_index_or c.state.inside.publishers.items c.args.place None ≡ Some c.requires.stands.0 =
    ap (λ (f : Fields g.row.T.Denot g.row.U.Denot). slice_index_or f.publishers c.args.place None) c.state.view_is
    ∙ c.requires.stands.1 in
    let long : vec_len c.state.inside.publishers ≡ length c.state.inside.publishers.items = search rules in
    rw long (within_if_some c.state.inside.publishers.items c.args.place c.requires.stands.0 there)

pub unreachable-requires : goal.unreachable-requires
unreachable-requires g c =
    let there : slice_index_or c.state.inside.publishers.items c.args.place None ≡ Some c.requires.stands.0 =
    ap (λ (f : Fields g.row.T.Denot g.row.U.Denot). slice_index_or f.publishers c.args.place None) c.state.view_is
    ∙ c.requires.stands.1 in
    c.in_default.not-Some c.requires.stands.0 (sym (read-there _ c.args.place _ _ there c.index.ensures) ∙ there)

pub returns-clause-few : goal.returns-clause-few
returns-clause-few g c = λ x at.
    let there = read-there _ c.args.place _ _
    (ap (λ (f : Fields g.row.T.Denot g.row.U.Denot). slice_index_or f.publishers c.args.place None) c.state.view_is
    ∙ c.requires.stands.1) c.index.ensures ∙ c.in-Some.is ∙ ap Some (sym c.publisher.view_is) in
    let reaches =
    publisher-reclaims _ _ c.state.view_is (subst (IsDomain {T = g.row.T.Denot} {U = g.row.U.Denot})
    (sym c.state.view_is) c.requires.agrees) c.args.place _ there _ _ c.index_mut.ensures.value _
    c.reclaim_all.ensures.book
    (rw c.value.ensures at c.reclaim_all.ensures.reclaims) in
    let same : Some c.in-Some.publisher ≡ Some x =
    sym (read-there _ c.args.place _ _
    (ap (λ (f : Fields g.row.T.Denot g.row.U.Denot). slice_index_or f.publishers c.args.place None) c.state.view_is
    ∙ c.requires.stands.1) c.index.ensures ∙ c.in-Some.is)
    ∙ ap (λ (f : Fields g.row.T.Denot g.row.U.Denot). slice_index_or f.publishers c.args.place None) c.state.view_is
    ∙ at in
    let is : c.in-Some.publisher ≡ x = cc in
    subst (λ (y : PublisherFields). HasFewHolders
    (with_value c.state.inside.books c.publisher.inside.book c.reclaim_all.new.book) y.book (2 ^ 62))
    (c.publisher.view_is ∙ is)
    (record {
      at = λ b at_b slot.
          let few = held-few _ reaches.agrees c.args.place _ there b at_b
          (record { at = (rw c.deref.ensures.value at c.reclaim_all.ensures.all).at }) slot in
          let long : length c.deref.result.now ≡ length c.publisher.inside.keys.items =
          ap (λ (keys : _). length keys) c.deref.ensures.value in
          omega (arith, few.0, long, c.deref.type_inv.1);
    })
