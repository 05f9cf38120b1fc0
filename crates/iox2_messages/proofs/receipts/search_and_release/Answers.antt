use Rattle.std.proofs.Common.{◌≡◌, ◌∙◌, Some, ap, sym}
use Rattle.slab.specs.Slab.{get}
use Rattle.iox2_connections.specs.Link.{Link}
use Rattle.iox2_domain.specs.Fields.{Fields}
use Rattle.iox2_steps.proofs.releases.GivenBack.{borrowed-at-home, freed-midway, gives-back, pruned-boxes}
use Rattle.iox2_domain.proofs.lemmas.samples.BorrowedNumbers.{lies-borrowed}
use Rattle.iox2_messages.proofs.receipts.search_and_release.Goals.{After-home-home}
use Rattle.iox2_messages.proofs.receipts.search_and_release.Goals as goal

-- where the connection stands was read
home_read : (g : _) (c : After-home-home g) → (c.find_live_sample-at.ensures).connection.home ≡ c.home-home.result
home_read g c =
    let lies = c.find_live_sample-at.ensures in
    let one : Some lies.connection ≡ Some c.index.result.now =
    sym lies.has_connection ∙ ap (λ (f : Fields g.row.T.Denot g.row.U.Denot).
    get f.connections c.find_live_sample-at.result.connection) (sym c.state.view_is) ∙ c.index.ensures in
    let same : lies.connection ≡ c.index.result.now = cc in
    ap (λ (l : Link). l.home) same ∙ sym c.home-home.ensures.value

pub release_borrowed_slot-requires-clause-borrowed : goal.release_borrowed_slot-requires-clause-borrowed
release_borrowed_slot-requires-clause-borrowed g c =
    let lies = c.find_live_sample-at.ensures in
    borrowed-at-home c.args.state.now c.requires.agrees c.args.sample.subscriber c.args.sample.number
    c.find_live_sample-at.result lies c.home-home.result
    (home_read g (goal.at.release_borrowed_slot-requires-clause-borrowed g c).After-home-home)

pub leave_if_unused-requires-clause-stands : goal.leave_if_unused-requires-clause-stands
leave_if_unused-requires-clause-stands g c =
    let lies = c.find_live_sample-at.ensures in
    let y = c.release_borrowed_slot.ensures.stands in (
      y.0,
      y.1,
      pruned-boxes c.args.state.now c.requires.agrees c.args.sample.subscriber c.args.sample.number
          c.find_live_sample-at.result lies c.home-home.result
          (home_read g (goal.at.leave_if_unused-requires-clause-stands g c).After-home-home)
          c.release_borrowed_slot.new.state c.release_borrowed_slot.ensures.midway y.0 y.2,
    )

pub settle_book_if_left-requires : goal.settle_book_if_left-requires
settle_book_if_left-requires g c =
    let lies = c.find_live_sample-at.ensures in
    let y = c.release_borrowed_slot.ensures.stands in
    (freed-midway c.args.state.now c.requires.agrees c.args.sample.subscriber c.args.sample.number
    c.find_live_sample-at.result lies c.home-home.result
    (home_read g (goal.at.settle_book_if_left-requires g c).After-home-home) c.release_borrowed_slot.new.state
    c.leave_if_unused.new.state c.release_borrowed_slot.ensures.midway y.0 y.2
    (c.leave_if_unused.ensures.freed y.0 y.1)).consistent

pub returns-clause-released : goal.returns-clause-released
returns-clause-released g c = λ p borrowed.
    let lies = c.find_live_sample-at.ensures in
    let y = c.release_borrowed_slot.ensures.stands in
    gives-back c.args.state.now c.requires.agrees c.args.sample.subscriber c.args.sample.number
    c.find_live_sample-at.result lies c.home-home.result
    (home_read g (goal.at.returns-clause-released g c).After-home-home) c.release_borrowed_slot.new.state
    c.leave_if_unused.new.state c.settle_book_if_left.new.state c.release_borrowed_slot.ensures.midway y.0 y.2
    (c.leave_if_unused.ensures.freed y.0 y.1) c.settle_book_if_left.ensures.kept p borrowed

pub returns-clause-stays : goal.returns-clause-stays
returns-clause-stays g c =
    let lies = c.find_live_sample-at.ensures in
    let y = c.release_borrowed_slot.ensures.stands in
    let given = gives-back c.args.state.now c.requires.agrees c.args.sample.subscriber c.args.sample.number
    c.find_live_sample-at.result lies c.home-home.result
    (home_read g (goal.at.returns-clause-stays g c).After-home-home) c.release_borrowed_slot.new.state
    c.leave_if_unused.new.state c.settle_book_if_left.new.state c.release_borrowed_slot.ensures.midway y.0 y.2
    (c.leave_if_unused.ensures.freed y.0 y.1) c.settle_book_if_left.ensures.kept (lies.connection).home.publisher
    (lies-borrowed c.args.state.now c.requires.agrees c.args.sample.subscriber c.args.sample.number
    c.find_live_sample-at.result lies) in
    given.agrees
