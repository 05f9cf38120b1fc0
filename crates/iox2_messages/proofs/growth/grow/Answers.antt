use Rattle.std.proofs.Common.{rules, ◌≡◌, ◌*◌, ℕ, vec_len, length, slice_index_or, None, Some, not, refl, sym, subst}
use Rattle.std.proofs.Common.{ap, ◌∙◌, inr}
use Rattle.std.proofs.Math.Nat.{max_comm}
use Rattle.iox2_domain.specs.Fields.{Fields}
use Rattle.iox2_domain.specs.Invariant.{IsDomain, lists_wanted}
use Rattle.iox2_domain.specs.Ports.{PublisherFields}
use Rattle.iox2_domain.proofs.lemmas.slots.PublisherBooks.{read-there, book-there}
use Rattle.iox2_messages.proofs.GrowthPass.{all-made, some-left, unchanged, growth-within, growth-some, growth-fits}
use Rattle.iox2_messages.proofs.GrowthPass.{growth-shaped, growth-any, growth-lists, grew}
use Rattle.iox2_messages.proofs.growth.grow.Goals as goal

pub returns-then-publisher-ge-SEGMENT_LIMIT : goal.returns-then-publisher-ge-SEGMENT_LIMIT
returns-then-publisher-ge-SEGMENT_LIMIT g c = λ x at. (
  unchanged {T = g.row.T.Denot} {U = g.row.U.Denot} _ _ c.state.view_is c.requires.agrees c.args.place _
      (read-there _ c.args.place _ _
      (ap (λ (f : Fields g.row.T.Denot g.row.U.Denot). slice_index_or f.publishers c.args.place None) c.state.view_is
      ∙ c.requires.stands.1) c.index_mut.ensures.value ∙ c.in-Some.is ∙ ap Some (sym c.publisher.view_is)) _
      c.publisher.view_is,
  inr (
    refl,
    all-made {T = g.row.T.Denot} {U = g.row.U.Denot} _ _ c.state.view_is c.requires.agrees c.args.place _
        (read-there _ c.args.place _ _
        (ap (λ (f : Fields g.row.T.Denot g.row.U.Denot). slice_index_or f.publishers c.args.place None) c.state.view_is
        ∙ c.requires.stands.1) c.index_mut.ensures.value ∙ c.in-Some.is ∙ ap Some (sym c.publisher.view_is)) _ refl x at
        c.if-publisher-ge-SEGMENT_LIMIT.true,
  ),
)

pub index_mut-requires-2 : goal.index_mut-requires-2
index_mut-requires-2 g c =
    let long : vec_len c.state.inside.contents ≡ length c.state.inside.contents.items = search rules in
    rw long (growth-within {T = g.row.T.Denot} {U = g.row.U.Denot} _ _ c.state.view_is c.requires.agrees c.args.place _
    (read-there _ c.args.place _ _
    (ap (λ (f : Fields g.row.T.Denot g.row.U.Denot). slice_index_or f.publishers c.args.place None) c.state.view_is
    ∙ c.requires.stands.1) c.index_mut.ensures.value ∙ c.in-Some.is ∙ ap Some (sym c.publisher.view_is)) _ refl)

pub unreachable-requires-in_default-index_mut : goal.unreachable-requires-in_default-index_mut
unreachable-requires-in_default-index_mut g c =
    growth-some {T = g.row.T.Denot} {U = g.row.U.Denot} _ _ c.state.view_is c.requires.agrees c.args.place _
    (read-there _ c.args.place _ _
    (ap (λ (f : Fields g.row.T.Denot g.row.U.Denot). slice_index_or f.publishers c.args.place None) c.state.view_is
    ∙ c.requires.stands.1) c.index_mut.ensures.value ∙ c.in-Some.is ∙ ap Some (sym c.publisher.view_is)) _ refl _
    c.index_mut-2.ensures.value c.in_default-index_mut.is

pub units_of-room-requires : goal.units_of-room-requires
units_of-room-requires g c = growth-fits {T = g.row.T.Denot} {U = g.row.U.Denot} _ _ c.state.view_is c.requires.agrees
    c.args.place _ (read-there _ c.args.place _ _
    (ap (λ (f : Fields g.row.T.Denot g.row.U.Denot). slice_index_or f.publishers c.args.place None) c.state.view_is
    ∙ c.requires.stands.1) c.index_mut.ensures.value ∙ c.in-Some.is ∙ ap Some (sym c.publisher.view_is)) _
    c.publisher.view_is _ _ c.in-Some-next_length.ensures.fits c.requires.stands (c.max.ensures ∙ max_comm _ _)

pub index_mut-book-requires : goal.index_mut-book-requires
index_mut-book-requires g c =
    book-there _ (subst (IsDomain {T = g.row.T.Denot} {U = g.row.U.Denot})
    (sym c.state.view_is) c.requires.agrees).parts c.args.place _
    (read-there _ c.args.place _ _
    (ap (λ (f : Fields g.row.T.Denot g.row.U.Denot). slice_index_or f.publishers c.args.place None) c.state.view_is
    ∙ c.requires.stands.1) c.index_mut.ensures.value ∙ c.in-Some.is ∙ ap Some (sym c.publisher.view_is))

pub add_slots-requires-clause-shaped : goal.add_slots-requires-clause-shaped
add_slots-requires-clause-shaped g c = growth-shaped {T = g.row.T.Denot} {U = g.row.U.Denot} _ _ c.state.view_is
    c.requires.agrees c.args.place _
    (read-there _ c.args.place _ _
    (ap (λ (f : Fields g.row.T.Denot g.row.U.Denot). slice_index_or f.publishers c.args.place None) c.state.view_is
    ∙ c.requires.stands.1) c.index_mut.ensures.value ∙ c.in-Some.is ∙ ap Some (sym c.publisher.view_is)) _ refl _
    c.index_mut-book.ensures.value _ c.index_mut-2.ensures.value _ c.in-Some-index_mut.is

pub add_slots-requires-clause-some : goal.add_slots-requires-clause-some
add_slots-requires-clause-some g c = growth-any {T = g.row.T.Denot} {U = g.row.U.Denot} _ _ c.state.view_is
    c.requires.agrees c.args.place _
    (read-there _ c.args.place _ _
    (ap (λ (f : Fields g.row.T.Denot g.row.U.Denot). slice_index_or f.publishers c.args.place None) c.state.view_is
    ∙ c.requires.stands.1) c.index_mut.ensures.value ∙ c.in-Some.is ∙ ap Some (sym c.publisher.view_is)) _ refl _
    c.index_mut-book.ensures.value _ c.index_mut-2.ensures.value _ c.in-Some-index_mut.is c.requires.stands

pub add_slots-requires-clause-lists : goal.add_slots-requires-clause-lists
add_slots-requires-clause-lists g c = growth-lists {T = g.row.T.Denot} {U = g.row.U.Denot} _ _ c.state.view_is
    c.requires.agrees c.args.place _
    (read-there _ c.args.place _ _
    (ap (λ (f : Fields g.row.T.Denot g.row.U.Denot). slice_index_or f.publishers c.args.place None) c.state.view_is
    ∙ c.requires.stands.1) c.index_mut.ensures.value ∙ c.in-Some.is ∙ ap Some (sym c.publisher.view_is)) _
    c.publisher.view_is _ c.index_mut-book.ensures.value _ c.index_mut-2.ensures.value _ c.in-Some-index_mut.is _ _
    (ap not c.is_single_valued-in_lists.ensures) (c.lists_wanted-lists.ensures
    ∙ ap (λ (y : PublisherFields). lists_wanted c.state.inside.config y.max_loaned_samples) c.publisher.view_is)

pub returns : goal.returns
returns g c = λ x at. (
  some-left {T = g.row.T.Denot} {U = g.row.U.Denot} _ _ c.state.view_is c.requires.agrees c.args.place _
      (read-there _ c.args.place _ _
      (ap (λ (f : Fields g.row.T.Denot g.row.U.Denot). slice_index_or f.publishers c.args.place None) c.state.view_is
      ∙ c.requires.stands.1) c.index_mut.ensures.value ∙ c.in-Some.is ∙ ap Some (sym c.publisher.view_is)) _ refl x at
      c.if-publisher-ge-SEGMENT_LIMIT.false,
  c.in-Some-next_length.longest,
  c.in-Some-next_length.ensures.long,
  rw c.count_older.ensures (grew {T = g.row.T.Denot} {U = g.row.U.Denot} _ _ c.state.view_is c.requires.agrees
      c.args.place _ (read-there _ c.args.place _ _
      (ap (λ (f : Fields g.row.T.Denot g.row.U.Denot). slice_index_or f.publishers c.args.place None) c.state.view_is
      ∙ c.requires.stands.1) c.index_mut.ensures.value ∙ c.in-Some.is ∙ ap Some (sym c.publisher.view_is)) _
      c.publisher.view_is x at
      c.in-Ok.start c.args.len c.in-Some-next_length.longest c.index_mut-book.result.now c.add_slots.new.book
      c.in-Some-index_mut.contents c.add_slots.new.contents c.units_of-room.result _ _
      c.index_mut-book.ensures.value c.in-Ok.ensures.book _ c.index_mut-2.ensures.value c.in-Some-index_mut.is
      c.in-Ok.ensures.contents
      (c.units_of-room.ensures
      ∙ ap (λ (n : ℕ). n * c.state.inside.config.units_per_element) (c.max.ensures ∙ max_comm _ _))
      (ap not c.is_single_valued-in_lists.ensures)
      (c.lists_wanted-lists.ensures ∙ ap (λ (y : PublisherFields).
      lists_wanted c.state.inside.config y.max_loaned_samples) c.publisher.view_is) c.in-Ok.ensures.start
      c.in-Some-next_length.ensures.fits c.in-Some-next_length.ensures.longer c.in-Some-next_length.ensures.next),
)
