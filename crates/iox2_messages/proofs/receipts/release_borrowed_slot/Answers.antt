use Rattle.std.proofs.Common.{◌∙◌, ap, sym, subst, Contains, IsSomeAnd}
use Rattle.std.proofs.lemmas.Bool.{true≢false}
use denote.Param.{param}
use Rattle.slab.specs.Slab.{ContainsKey, get, with_value}
use Rattle.iox2_connections.specs.Link.{Link}
use Rattle.iox2_machine.specs.machine.Numbers.{IsOnce}
use Rattle.iox2_connections.proofs.MailboxChanges.{within_if_some}
use Rattle.iox2_domain.specs.Fields.{Fields}
use Rattle.iox2_domain.specs.contracts.state.DomainState.{the_view}
use Rattle.iox2_steps.proofs.releases.Forgets.{ItsSubscriber, its-place, prunes}
use Rattle.iox2_steps.proofs.releases.HandedBack.{IsLetGo, book-there, borrowed-there, is-given-back, is-let-go}
use Rattle.iox2_steps.proofs.releases.HandedBack.{once-there, slot-in_use, subscriber-here}
use Rattle.iox2_messages.proofs.receipts.release_borrowed_slot.Goals.{After-let_go, After-stands_at}
use Rattle.iox2_messages.proofs.receipts.release_borrowed_slot.Goals as goal

-- the slot is borrowed in the connection, and once
borrowed : (g : _) (c : After-stands_at g)
    → IsSomeAnd (get c.state.inside.connections c.args.at.connection) (λ (l : Link). Contains l.borrowed c.args.at.slot)
borrowed g c =
    subst (λ (f : Fields g.row.T.Denot g.row.U.Denot). IsSomeAnd (get f.connections c.args.at.connection)
    (λ (l : Link). Contains l.borrowed c.args.at.slot)) (sym c.state.view_is)
    (borrowed-there c.args.state.now c.requires.agrees c.args.at.connection c.args.at.slot c.args.home
    c.requires.borrowed)

once : (g : _) (c : After-stands_at g)
    → IsSomeAnd (get c.state.inside.connections c.args.at.connection) (λ (l : Link). IsOnce l.borrowed)
once g c =
    subst (λ (f : Fields g.row.T.Denot g.row.U.Denot).
    IsSomeAnd (get f.connections c.args.at.connection) (λ (l : Link). IsOnce l.borrowed)) (sym c.state.view_is)
    (once-there c.args.state.now c.requires.agrees c.args.at.connection c.args.at.slot c.args.home c.requires.borrowed)

-- what the code lets go, where the publisher is gone
let_gone : (g : _) (c : After-let_go g)
    → IsLetGo c.args.state.now c.args.at.connection c.args.at.slot c.args.home
    (record (the_view (param 0 g.row.T) (param 1 g.row.U) c.state.inside) {
      connections = c.let_go.new.connections;
      books = with_value c.state.inside.books c.args.home.book c.let_go.new.book;
    })
let_gone g c =
    is-let-go _ c.args.state.now c.state.view_is c.requires.agrees c.args.at.connection c.args.at.slot c.args.home
    c.requires.borrowed c.index_mut.result.now c.let_go.new.book
    c.index_mut.ensures.value c.let_go.ensures.book c.let_go.new.connections c.let_go.ensures.releases
    c.let_go.ensures.recounts c.let_go.ensures.left
    c.deref.result.now c.deref.ensures.value
    (λ has. true≢false (sym (c.stands_at.ensures.1 has) ∙ c.if-stands_at.false)) c.requires.agrees.kept_books

-- ---- a publisher that is there

pub release-requires-clause-borrowed : goal.release-requires-clause-borrowed
release-requires-clause-borrowed g c = borrowed g (goal.at.release-requires-clause-borrowed g c).After-stands_at

pub release-requires-clause-once : goal.release-requires-clause-once
release-requires-clause-once g c = once g (goal.at.release-requires-clause-once g c).After-stands_at

pub returns-then-stands_at-clause-midway : goal.returns-then-stands_at-clause-midway
returns-then-stands_at-clause-midway g c =
    is-given-back _ c.args.state.now c.state.view_is c.requires.agrees c.args.at.connection c.args.at.slot c.args.home
    c.requires.borrowed c.release.new.connections
    c.release.ensures.releases c.release.ensures.homes c.release.ensures.others c.release.ensures.stands
    c.deref.result.now c.deref.ensures.value (c.stands_at.ensures.0 c.if-stands_at.true) c.requires.agrees.kept_books

pub returns-then-stands_at-clause-stands : goal.returns-then-stands_at-clause-stands
returns-then-stands_at-clause-stands g c =
    subst (λ (f : Fields g.row.T.Denot g.row.U.Denot). ItsSubscriber f c.args.home) (sym c.state.view_is)
    (subscriber-here c.args.state.now c.requires.agrees c.args.at.connection c.args.at.slot c.args.home
    c.requires.borrowed)

-- ---- one that is gone

pub index_mut-requires : goal.index_mut-requires
index_mut-requires g c =
    subst (λ (f : Fields g.row.T.Denot g.row.U.Denot). ContainsKey f.books (c.args.home).book) (sym c.state.view_is)
    (book-there c.args.state.now c.requires.agrees c.args.at.connection c.args.at.slot c.args.home c.requires.borrowed)

pub let_go-requires-clause-borrowed : goal.let_go-requires-clause-borrowed
let_go-requires-clause-borrowed g c = borrowed g (goal.at.let_go-requires-clause-borrowed g c).After-stands_at

pub let_go-requires-clause-once : goal.let_go-requires-clause-once
let_go-requires-clause-once g c = once g (goal.at.let_go-requires-clause-once g c).After-stands_at

pub let_go-requires-clause-in_use : goal.let_go-requires-clause-in_use
let_go-requires-clause-in_use g c =
    slot-in_use c.args.state.now c.requires.agrees c.args.at.connection c.args.at.slot c.args.home c.requires.borrowed
    c.index_mut.result.now
    (ap (λ (f : Fields g.row.T.Denot g.row.U.Denot). get f.books (c.args.home).book) (sym c.state.view_is)
    ∙ c.index_mut.ensures.value)

pub forget_if_empty-requires-clause-home : goal.forget_if_empty-requires-clause-home
forget_if_empty-requires-clause-home g c =
    (let_gone g (goal.at.forget_if_empty-requires-clause-home g c).After-let_go).home_is

pub forget_if_empty-requires-clause-stands : goal.forget_if_empty-requires-clause-stands
forget_if_empty-requires-clause-stands g c =
    let gone = let_gone g (goal.at.forget_if_empty-requires-clause-stands g c).After-let_go in
    within_if_some _ _ gone.stands.0 gone.stands.1

pub forget_if_empty-requires-clause-only : goal.forget_if_empty-requires-clause-only
forget_if_empty-requires-clause-only g c =
    let gone = let_gone g (goal.at.forget_if_empty-requires-clause-only g c).After-let_go in
    its-place _ gone.midway.consistent c.args.at.connection c.args.home gone.home_is gone.gone gone.stands

pub returns-else-stands_at-clause-midway : goal.returns-else-stands_at-clause-midway
returns-else-stands_at-clause-midway g c =
    let gone = let_gone g (goal.at.returns-else-stands_at-clause-midway g c).After-let_go in
    (prunes _ gone.midway.consistent c.args.at.connection c.args.home gone.home_is gone.gone gone.stands
    c.forget_if_empty.new.state c.forget_if_empty.ensures.empty c.forget_if_empty.ensures.full).0
    c.args.state.now _ _ _ c.requires.agrees.well_formed gone.midway

pub returns-else-stands_at-clause-stands : goal.returns-else-stands_at-clause-stands
returns-else-stands_at-clause-stands g c =
    let gone = let_gone g (goal.at.returns-else-stands_at-clause-stands g c).After-let_go in
    (prunes _ gone.midway.consistent c.args.at.connection c.args.home gone.home_is gone.gone gone.stands
    c.forget_if_empty.new.state c.forget_if_empty.ensures.empty c.forget_if_empty.ensures.full).1
