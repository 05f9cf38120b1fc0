use Rattle.std.proofs.Common.{◌≡◌, ◌<◌, length, slice_set, Some, ap, sym, subst, refl, ◌∙◌}
use Rattle.std.specs.Prelude.{slice_index_or, true}
use Rattle.std.specs.declared.option.Option.TheVariants.{None}
use Rattle.slab.specs.Slab.{ContainsKey, get, with_value}
use Rattle.iox2_slots.specs.SlotBook.{Book}
use Rattle.iox2_connections.specs.declared.sender.Progress.{Progress}
use Rattle.iox2_domain.specs.ConnectionSends.{begun_delivery, with_begun}
use Rattle.iox2_domain.specs.Deliveries.{with_sent}
use Rattle.iox2_domain.specs.Fields.{Fields}
use Rattle.iox2_domain.specs.Ports.{PublisherFields}
use denote.Param.{param}
use Rattle.iox2_domain.specs.contracts.publisher_state.PublisherState.{the_view}
use Rattle.iox2_domain.specs.contracts.state.DomainState.{the_view as domain_view}
use Rattle.iox2_domain.proofs.lemmas.slots.PublisherBooks.{read-there}
use Rattle.iox2_messages.proofs.connection_sends.begin.Goals as goal

pub unreachable-requires : goal.unreachable-requires
unreachable-requires g c =
    let x = c.requires.0 in
    let there : slice_index_or c.state.inside.publishers.items c.args.place None ≡ Some x =
    ap (λ (f : Fields g.row.T.Denot g.row.U.Denot). slice_index_or f.publishers c.args.place None) c.state.view_is
    ∙ c.requires.2 in
    let both : Some x ≡ None =
    sym there ∙ read-there _ c.args.place _ _ there c.index_mut.ensures.value ∙ c.in_default.is in
    absurd cc

pub index_mut-book-requires : goal.index_mut-book-requires
index_mut-book-requires g c =
    let x = c.requires.0 in
    let there : slice_index_or c.state.inside.publishers.items c.args.place None ≡ Some x =
    ap (λ (f : Fields g.row.T.Denot g.row.U.Denot). slice_index_or f.publishers c.args.place None) c.state.view_is
    ∙ c.requires.2 in
    let read : Some x ≡ Some c.in-Some.publisher =
    sym there ∙ read-there _ c.args.place _ _ there c.index_mut.ensures.value ∙ c.in-Some.is in
    let publisher : c.in-Some.publisher ≡ x = cc in
    let key : c.publisher.inside.book ≡ x.book =
    ap (λ (p : PublisherFields). p.book) (c.publisher.view_is ∙ publisher) in
    subst (ContainsKey c.state.inside.books) (sym key)
    (rw (ap (λ (f : Fields g.row.T.Denot g.row.U.Denot). get f.books x.book) c.state.view_is ∙ c.requires.3) refl)

pub set_mark-requires : goal.set_mark-requires
set_mark-requires g c =
    let x = c.requires.0 in
    let there : slice_index_or c.state.inside.publishers.items c.args.place None ≡ Some x =
    ap (λ (f : Fields g.row.T.Denot g.row.U.Denot). slice_index_or f.publishers c.args.place None) c.state.view_is
    ∙ c.requires.2 in
    let read : Some x ≡ Some c.in-Some.publisher =
    sym there ∙ read-there _ c.args.place _ _ there c.index_mut.ensures.value ∙ c.in-Some.is in
    let publisher : c.in-Some.publisher ≡ x = cc in
    let key : c.publisher.inside.book ≡ x.book =
    ap (λ (p : PublisherFields). p.book) (c.publisher.view_is ∙ publisher) in
    let found : Some c.index_mut-book.result.now ≡ Some c.requires.1 =
    sym c.index_mut-book.ensures.value ∙ ap (get c.state.inside.books) key
    ∙ ap (λ (f : Fields g.row.T.Denot g.row.U.Denot). get f.books x.book) c.state.view_is ∙ c.requires.3 in
    let book : c.index_mut-book.result.now ≡ c.requires.1 = cc in
    subst (λ (b : Book). c.args.slot < length b.holders) (sym book) c.requires.4

pub returns : goal.returns
returns g c = λ x b at has.
    let there : slice_index_or c.state.inside.publishers.items c.args.place None ≡ Some x =
    ap (λ (f : Fields g.row.T.Denot g.row.U.Denot). slice_index_or f.publishers c.args.place None) c.state.view_is
    ∙ at in
    let read : Some x ≡ Some c.in-Some.publisher =
    sym there ∙ read-there _ c.args.place _ _ there c.index_mut.ensures.value ∙ c.in-Some.is in
    let publisher : c.in-Some.publisher ≡ x = cc in
    let key : c.publisher.inside.book ≡ x.book =
    ap (λ (p : PublisherFields). p.book) (c.publisher.view_is ∙ publisher) in
    let found : Some c.index_mut-book.result.now ≡ Some b =
    sym c.index_mut-book.ensures.value ∙ ap (get c.state.inside.books) key
    ∙ ap (λ (f : Fields g.row.T.Denot g.row.U.Denot). get f.books x.book) c.state.view_is ∙ has in
    let book : c.index_mut-book.result.now ≡ b = cc in
    let marked : c.set_mark.new.self ≡ with_sent c.args.slot b = c.set_mark.ensures ∙ ap (with_sent c.args.slot) book in
    let view : the_view c.publisher.inside ≡ x = c.publisher.view_is ∙ publisher in
    let waiting : (λ (p : PublisherFields) (at : Progress).
    record p
    { blocked = Some (record { slot = c.args.slot; channel = c.args.channel; is_alone = true; progress = at }) })
    (the_view c.publisher.inside) c.begun_at.result
    ≡ record x { blocked = Some (begun_delivery c.args.slot c.args.channel c.args.connection) } =
    λ i. record (view i) {
      blocked = Some
          (record { slot = c.args.slot; channel = c.args.channel; is_alone = true; progress = c.begun_at.ensures i });
    } in
    (λ i. record (domain_view (param 0 g.row.T) (param 1 g.row.U) c.state.inside) {
      publishers = slice_set c.state.inside.publishers.items c.args.place (Some (waiting i));
      books = with_value c.state.inside.books (key i) (marked i);
    }) ∙ ap (λ (f : Fields g.row.T.Denot g.row.U.Denot).
    with_begun f c.args.place x (begun_delivery c.args.slot c.args.channel c.args.connection) b) c.state.view_is
