use Rattle.std.proofs.Common.{rules, ◌≡◌, ℕ, ◌<◌, ◌≤◌, List, length, vec_len, slice_set, Some, ap, sym, subst, refl}
use Rattle.std.proofs.Common.{◌∙◌, arith}
use Rattle.std.specs.Prelude.{slice_index_or, IsSomeAnd}
use Rattle.std.specs.declared.option.Option.{Option}
use Rattle.std.specs.declared.option.Option.TheVariants.{None}
use Rattle.slab.specs.Slab.{ContainsKey, get, with_value}
use Rattle.iox2_slots.specs.SlotBook.{Book, IsInUse}
use Rattle.iox2_contents.specs.SlotContents.{ContentState, with_changed, ended_content}
use Rattle.iox2_connections.specs.Counters.{times}
use Rattle.iox2_connections.proofs.MailboxChanges.{within_if_some}
use denote.Param.{param}
use Rattle.iox2_domain.specs.contracts.state.DomainState.{the_view}
use Rattle.iox2_domain.specs.Deliveries.{with_loan_out}
use Rattle.iox2_domain.specs.Discards.{with_holder_gone, with_loan_discarded}
use Rattle.iox2_domain.specs.Fields.{Fields, contents_at, contents_in}
use Rattle.iox2_domain.specs.Ports.{PublisherFields}
use Rattle.iox2_domain.proofs.lemmas.slots.PublisherBooks.{read-there}
use Rattle.iox2_messages.proofs.discards.discard_loan_at.Goals.{After-publisher, In-Some}
use Rattle.iox2_messages.proofs.discards.discard_loan_at.Goals as goal

-- the publisher that was looked up is the one that stands at the place
there : (g : _) (c : In-Some g) (x : PublisherFields)
    → slice_index_or c.args.state.now.publishers c.args.place None ≡ Some x → c.in-Some.publisher ≡ x
there g c x at =
    let stands : slice_index_or c.state.inside.publishers.items c.args.place None ≡ Some x =
    ap (λ (f : Fields g.row.T.Denot g.row.U.Denot). slice_index_or f.publishers c.args.place None) c.state.view_is
    ∙ at in
    let read : Some x ≡ Some c.in-Some.publisher =
    sym stands ∙ read-there _ c.args.place _ _ stands c.index_mut.ensures.value ∙ c.in-Some.is in
    cc

-- and has its book still
its_book : (g : _) (c : After-publisher g) → c.in-Some.publisher ≡ c.requires.stands.0
    → c.publisher.inside.book ≡ c.requires.stands.0.book
its_book g c publisher = ap (λ (p : PublisherFields). p.book)
    (c.publisher.view_is ∙ c.remove_loan.ensures ∙ ap (with_loan_out c.args.slot) publisher)

pub unreachable-requires : goal.unreachable-requires
unreachable-requires g c =
    let x = c.requires.stands.0 in
    let there : slice_index_or c.state.inside.publishers.items c.args.place None ≡ Some x =
    ap (λ (f : Fields g.row.T.Denot g.row.U.Denot). slice_index_or f.publishers c.args.place None) c.state.view_is
    ∙ c.requires.stands.2 in
    let both : Some x ≡ None =
    sym there ∙ read-there _ c.args.place _ _ there c.index_mut.ensures.value ∙ c.in_default.is in
    absurd cc

pub remove_loan-requires : goal.remove_loan-requires
remove_loan-requires g c =
    let x = c.requires.stands.0 in
    let publisher = there g (goal.at.remove_loan-requires g c).In-Some x c.requires.stands.2 in
    subst (λ (p : PublisherFields). times c.args.slot p.loans ≤ 1) (sym publisher)
    (c.requires.once x c.requires.stands.2)

pub index_mut-book-requires : goal.index_mut-book-requires
index_mut-book-requires g c =
    let x = c.requires.stands.0 in
    let key = its_book g (goal.at.index_mut-book-requires g c).After-publisher
    (there g (goal.at.index_mut-book-requires g c).In-Some x c.requires.stands.2) in
    subst (ContainsKey c.state.inside.books) (sym key)
    (rw (ap (λ (f : Fields g.row.T.Denot g.row.U.Denot). get f.books x.book) c.state.view_is ∙ c.requires.stands.3)
    refl)

pub release-requires : goal.release-requires
release-requires g c =
    let x = c.requires.stands.0 in
    let key = its_book g (goal.at.release-requires g c).After-publisher
    (there g (goal.at.release-requires g c).In-Some x c.requires.stands.2) in
    let found : Some c.index_mut-book.result.now ≡ Some c.requires.stands.1 =
    sym c.index_mut-book.ensures.value ∙ ap (get c.state.inside.books) key
    ∙ ap (λ (f : Fields g.row.T.Denot g.row.U.Denot). get f.books x.book) c.state.view_is ∙ c.requires.stands.3 in
    let book : c.index_mut-book.result.now ≡ c.requires.stands.1 = cc in
    subst (λ (b : Book). IsInUse b c.args.slot) (sym book) c.requires.stands.4

pub index_mut-requires-2 : goal.index_mut-requires-2
index_mut-requires-2 g c =
    let x = c.requires.stands.0 in
    let key = its_book g (goal.at.index_mut-requires-2 g c).After-publisher
    (there g (goal.at.index_mut-requires-2 g c).In-Some x c.requires.stands.2) in
    let cs = c.requires.contents x c.requires.stands.2 in
    let has : slice_index_or c.state.inside.contents.items x.book None ≡ Some cs.0 =
    ap (λ (f : Fields g.row.T.Denot g.row.U.Denot). slice_index_or f.contents x.book None) c.state.view_is ∙ cs.1 in
    let places : vec_len c.state.inside.contents ≡ length c.state.inside.contents.items = search rules in
    let low = within_if_some c.state.inside.contents.items x.book cs.0 has in
    omega (arith, places, low, key)

pub end_cells-requires : goal.end_cells-requires
end_cells-requires g c =
    let x = c.requires.stands.0 in
    let key = its_book g (goal.at.end_cells-requires g c).After-publisher
    (there g (goal.at.end_cells-requires g c).In-Some x c.requires.stands.2) in
    let cs = c.requires.contents x c.requires.stands.2 in
    let has : slice_index_or c.state.inside.contents.items x.book None ≡ Some cs.0 =
    ap (λ (f : Fields g.row.T.Denot g.row.U.Denot). slice_index_or f.contents x.book None) c.state.view_is ∙ cs.1 in
    let at_key : slice_index_or c.state.inside.contents.items c.publisher.inside.book None ≡ Some cs.0 =
    ap (λ (k : ℕ). slice_index_or c.state.inside.contents.items k None) key ∙ has in
    subst (λ (o : Option (List (ContentState g.row.T.Denot g.row.U.Denot))).
    IsSomeAnd o (λ zs. c.args.slot < length zs)) (sym at_key
    ∙ read-there c.state.inside.contents.items c.publisher.inside.book _ _ at_key c.index_mut-2.ensures.value) cs.2

pub returns : goal.returns
returns g c = λ x b at has.
    let publisher = there g (goal.at.returns g c).In-Some x at in
    let out : c.remove_loan.new.publisher ≡ with_loan_out c.args.slot x =
    c.remove_loan.ensures ∙ ap (with_loan_out c.args.slot) publisher in
    let key : c.publisher.inside.book ≡ x.book = ap (λ (p : PublisherFields). p.book) (c.publisher.view_is ∙ out) in
    let found : Some c.index_mut-book.result.now ≡ Some b =
    sym c.index_mut-book.ensures.value ∙ ap (get c.state.inside.books) key
    ∙ ap (λ (f : Fields g.row.T.Denot g.row.U.Denot). get f.books x.book) c.state.view_is ∙ has in
    let book : c.index_mut-book.result.now ≡ b = cc in
    let given : c.release.new.self ≡ with_holder_gone c.args.slot b =
    c.release.ensures.released ∙ ap (with_holder_gone c.args.slot) book in
    let cs = c.requires.contents x at in
    let had : slice_index_or c.state.inside.contents.items x.book None ≡ Some cs.0 =
    ap (λ (f : Fields g.row.T.Denot g.row.U.Denot). slice_index_or f.contents x.book None) c.state.view_is ∙ cs.1 in
    let at_key : slice_index_or c.state.inside.contents.items c.publisher.inside.book None ≡ Some cs.0 =
    ap (λ (k : ℕ). slice_index_or c.state.inside.contents.items k None) key ∙ had in
    let ended : c.end_cells.new.contents ≡ Some
    (with_changed (contents_at c.state.inside.contents.items x.book) c.args.slot ended_content) =
    c.end_cells.ensures cs.0
    (sym (read-there c.state.inside.contents.items c.publisher.inside.book _ _ at_key c.index_mut-2.ensures.value)
    ∙ at_key)
    ∙ ap (λ (o : Option (List (ContentState g.row.T.Denot g.row.U.Denot))).
    Some (with_changed (contents_in o) c.args.slot ended_content)) (sym had) in
    (λ i. record (the_view (param 0 g.row.T) (param 1 g.row.U) c.state.inside) {
      publishers = slice_set c.state.inside.publishers.items c.args.place (Some (out i));
      books = with_value c.state.inside.books (key i) (given i);
      contents = slice_set c.state.inside.contents.items (key i) (ended i);
    }) ∙ ap
    (λ (f : Fields g.row.T.Denot g.row.U.Denot). with_loan_discarded f c.args.place x c.args.slot b) c.state.view_is
