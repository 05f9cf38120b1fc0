use Rattle.std.proofs.Common.{rules, ◌≡◌, vec_len, length, slice_index_or, None, Some, refl, sym, subst, ap, ◌∙◌, arith}
use Rattle.iox2_domain.specs.Fields.{Fields}
use Rattle.iox2_domain.specs.Invariant.{IsDomain}
use Rattle.iox2_domain.proofs.lemmas.slots.PublisherBooks.{read-there, book-there}
use Rattle.iox2_messages.proofs.GrowthPass.{growth-within, growth-some, growth-shaped, gave-up}
use Rattle.iox2_messages.proofs.older_slots.clear_older.Goals as goal

pub index_mut-requires-2 : goal.index_mut-requires-2
index_mut-requires-2 g c =
    let long : vec_len c.state.inside.contents ≡ length c.state.inside.contents.items = search rules in
    rw long (growth-within {T = g.row.T.Denot} {U = g.row.U.Denot} _ _ c.state.view_is c.requires.agrees c.args.place _
    (read-there _ c.args.place _ _
    (ap (λ (f : Fields g.row.T.Denot g.row.U.Denot). slice_index_or f.publishers c.args.place None) c.state.view_is
    ∙ c.requires.stands.1) c.index_mut.ensures.value ∙ c.in-Some.is ∙ ap Some (sym c.publisher.view_is)) _ refl)

pub unreachable-requires-in_default-index_mut : goal.unreachable-requires-in_default-index_mut
unreachable-requires-in_default-index_mut g c =
    growth-some {T = g.row.T.Denot} {U = g.row.U.Denot} _ _ c.state.view_is c.requires.agrees c.args.place _
    (read-there _ c.args.place _ _
    (ap (λ (f : Fields g.row.T.Denot g.row.U.Denot). slice_index_or f.publishers c.args.place None) c.state.view_is
    ∙ c.requires.stands.1) c.index_mut.ensures.value ∙ c.in-Some.is ∙ ap Some (sym c.publisher.view_is)) _ refl _
    c.index_mut-2.ensures.value c.in_default-index_mut.is

pub index-book-requires : goal.index-book-requires
index-book-requires g c =
    book-there _ (subst (IsDomain {T = g.row.T.Denot} {U = g.row.U.Denot})
    (sym c.state.view_is) c.requires.agrees).parts c.args.place _
    (read-there _ c.args.place _ _
    (ap (λ (f : Fields g.row.T.Denot g.row.U.Denot). slice_index_or f.publishers c.args.place None) c.state.view_is
    ∙ c.requires.stands.1) c.index_mut.ensures.value ∙ c.in-Some.is ∙ ap Some (sym c.publisher.view_is))

pub clear_before-cleared-requires : goal.clear_before-cleared-requires
clear_before-cleared-requires g c = λ k d lt.
    let one = c.freed_since-freed.ensures.free k d lt in
    let shaped = growth-shaped {T = g.row.T.Denot} {U = g.row.U.Denot} _ _ c.state.view_is c.requires.agrees
    c.args.place _ (read-there _ c.args.place _ _
    (ap (λ (f : Fields g.row.T.Denot g.row.U.Denot). slice_index_or f.publishers c.args.place None) c.state.view_is
    ∙ c.requires.stands.1) c.index_mut.ensures.value ∙ c.in-Some.is ∙ ap Some (sym c.publisher.view_is)) _ refl _
    c.index-book.ensures _ c.index_mut-2.ensures.value _ c.in-Some-index_mut.is in
    omega (arith, one.0, shaped)

pub returns : goal.returns
returns g c = λ x at.
    rw c.mark_older.ensures
    (gave-up {T = g.row.T.Denot} {U = g.row.U.Denot} _ _ c.state.view_is c.requires.agrees c.args.place _
    (read-there _ c.args.place _ _
    (ap (λ (f : Fields g.row.T.Denot g.row.U.Denot). slice_index_or f.publishers c.args.place None) c.state.view_is
    ∙ c.requires.stands.1) c.index_mut.ensures.value ∙ c.in-Some.is ∙ ap Some (sym c.publisher.view_is)) _ refl x at _ _
    _ _ c.index-book.ensures _ c.index_mut-2.ensures.value c.in-Some-index_mut.is
    c.freed_since-freed.ensures.free c.clear_before-cleared.ensures.clears c.clear_before-cleared.ensures.given_up)
