use Rattle.std.proofs.Common.{◌≡◌, ◌∙◌, ℕ, None, Some, refl, ap, sym, subst}
use Rattle.std.proofs.lemmas.Bool.{true≢false}
use Rattle.slab.specs.Slab.{get}
use Rattle.iox2_slots.specs.SlotBook.{holders_at}
use Rattle.iox2_connections.specs.LookUp.{look_up}
use Rattle.iox2_domain.specs.Fields.{Fields}
use Rattle.iox2_domain.specs.Invariant.{is_publisher}
use Rattle.iox2_domain.specs.Reaches.{Reaches}
use Rattle.iox2_steps.proofs.releases.BookFreed.{attains, contents-within, found-none, found-some, frees, kept-found}
use Rattle.iox2_steps.proofs.releases.BookFreed.{kept-used, only-books, unused-book, used-book}
use Rattle.iox2_updates.proofs.departures.settle_book_if_left.Goals.{else-is_unused-via-then-is_unused+else-is_none}
use Rattle.iox2_updates.proofs.departures.settle_book_if_left.Goals.{else-is_unused-via-else-is_unused}
use Rattle.iox2_updates.proofs.departures.settle_book_if_left.Goals as goal

pub remove_book-requires : goal.remove_book-requires
remove_book-requires g c =
    let at_b : get c.args.state.now.books c.args.key ≡ Some c.in-Some.book.now =
    ap (λ (f : Fields g.row.T.Denot g.row.U.Denot). get f.books c.args.key) (sym c.state.view_is)
    ∙ sym c.in-Some.ensures in
    record {
      stands = rw at_b refl;
      contents = contents-within c.args.state.now c.requires c.args.key c.in-Some.book.now at_b;
    }

pub returns-then-is_none-clause-kept : goal.returns-then-is_none-clause-kept
returns-then-is_none-clause-kept g c = λ before s midway is well.
    let at_b : get c.args.state.now.books c.args.key ≡ Some c.in-Some.book.now =
    ap (λ (f : Fields g.row.T.Denot g.row.U.Denot). get f.books c.args.key) (sym c.state.view_is)
    ∙ sym c.in-Some.ensures in
    let free : (slot : ℕ) → holders_at c.in-Some.book.now slot ≡ 0 =
    unused-book c.in-Some.book.now (c.is_unused.ensures.0 c.if-is_unused.true) in
    let gone : look_up (is_publisher (c.in-Some.book.now).publisher) c.args.state.now.publishers ≡ None =
    subst (λ (p : ℕ). look_up (is_publisher p) c.args.state.now.publishers ≡ None) c.publisher.ensures
    (found-none c.args.state.now c.publisher.result c.find_publisher.result c.find_publisher.ensures c.is_none.result
    c.is_none.ensures c.if-is_none.true) in
    subst (λ (f : Fields g.row.T.Denot g.row.U.Denot). Reaches before f s) (sym c.remove_book.ensures)
    (frees c.args.state.now c.args.key c.in-Some.book.now at_b free gone before s midway is well)

pub returns-then-is_none-clause-books : goal.returns-then-is_none-clause-books
returns-then-is_none-clause-books g c =
    only-books c.args.state.now c.remove_book.new.self c.args.key c.remove_book.ensures

pub returns-else-is_unused-clause-kept : goal.returns-else-is_unused-clause-kept
returns-else-is_unused-clause-kept g c = λ before s midway is well.
    let at_b : get c.args.state.now.books c.args.key ≡ Some c.in-Some.book.now =
    ap (λ (f : Fields g.row.T.Denot g.row.U.Denot). get f.books c.args.key) (sym c.state.view_is)
    ∙ sym c.in-Some.ensures in
    elim c.else-is_unused.branch [
      | else-is_unused-via-then-is_unused+else-is_none w ↦
          attains c.args.state.now (kept-found c.args.state.now before s c.args.key midway c.in-Some.book.now at_b
          (subst (λ (p : ℕ). look_up (is_publisher p) c.args.state.now.publishers ≡ None → ⊥) w.publisher.ensures
          (found-some c.args.state.now w.publisher.result w.find_publisher.result w.find_publisher.ensures
          w.is_none.result w.is_none.ensures w.if-is_none.false))) before s c.args.key midway is well
      | else-is_unused-via-else-is_unused w ↦
          attains c.args.state.now (kept-used c.args.state.now before s c.args.key midway (λ b at.
          let one : Some c.in-Some.book.now ≡ Some b = sym at_b ∙ at in
          let same : c.in-Some.book.now ≡ b = cc in
          used-book b (λ all. true≢false (sym (c.is_unused.ensures.1 (rw same all)) ∙ w.if-is_unused.false)))) before s
          c.args.key midway is well
    ]
