use Rattle.std.proofs.Common.{ℕ, sym, subst, IsTrue}
use Rattle.iox2_machine.specs.machine.Mailbox.{is_borrowed}
use Rattle.iox2_machine.specs.machine.Releases.{released}
use Rattle.iox2_machine.specs.machine.SingleCalls.{HoldsSample}
use Rattle.iox2_domain.specs.Kept.{state_of}
use Rattle.iox2_domain.specs.Fields.{Fields, kept_of}
use Rattle.iox2_domain.specs.Invariant.{IsDomain}
use Rattle.iox2_domain.specs.Reaches.{Reaches}
use Rattle.iox2_messages.proofs.ReturnedAtHint.{gives-back, gives-back-soundly, once-there, same-fields, slots-there}
use Rattle.iox2_messages.proofs.receipts.release_sample.Goals as goal

pub release_if_last-requires-clause-once : goal.release_if_last-requires-clause-once
release_if_last-requires-clause-once g c =
    once-there c.args.state.now _ c.state.view_is c.requires.agrees c.args.sample.connection

pub release_if_last-requires-clause-slots : goal.release_if_last-requires-clause-slots
release_if_last-requires-clause-slots g c =
    slots-there c.args.state.now _ c.state.view_is c.requires.agrees c.args.sample.connection

pub search_and_release-requires-clause-agrees : goal.search_and_release-requires-clause-agrees
search_and_release-requires-clause-agrees g c =
    subst (λ (f : Fields g.row.T.Denot g.row.U.Denot). IsDomain f)
    (sym (same-fields c.args.state.now _ c.state.view_is c.release_if_last.new.connections c.release_if_last.new.books
    c.release_if_last.ensures.same_books c.if-release_if_last.ensures.releases))
    c.requires.agrees

pub search_and_release-requires-clause-live : goal.search_and_release-requires-clause-live
search_and_release-requires-clause-live g c =
    subst (λ (f : Fields g.row.T.Denot g.row.U.Denot).
    HoldsSample (state_of (kept_of f)) c.args.sample.subscriber c.args.sample.number)
    (sym (same-fields c.args.state.now _ c.state.view_is c.release_if_last.new.connections c.release_if_last.new.books
    c.release_if_last.ensures.same_books c.if-release_if_last.ensures.releases))
    c.requires.live

pub returns-then-release_if_last-clause-released : goal.returns-then-release_if_last-clause-released
returns-then-release_if_last-clause-released g c =
    gives-back c.args.state.now _ c.state.view_is c.requires.agrees c.args.sample c.message_of.result
    c.message_of.ensures
    c.release_if_last.new.connections c.release_if_last.new.books c.release_if_last.ensures.same_books
    c.if-release_if_last.ensures.releases

pub returns-then-release_if_last-clause-stays : goal.returns-then-release_if_last-clause-stays
returns-then-release_if_last-clause-stays g c =
    gives-back-soundly c.args.state.now _ c.state.view_is c.requires.agrees c.args.sample c.message_of.result
    c.message_of.ensures
    c.release_if_last.new.connections c.release_if_last.new.books c.release_if_last.ensures.same_books
    c.if-release_if_last.ensures.releases

pub returns-clause-released : goal.returns-clause-released
returns-clause-released g c =
    subst (λ (f : Fields g.row.T.Denot g.row.U.Denot). (publisher : ℕ)
    → IsTrue (is_borrowed c.args.sample.number ((state_of (kept_of f)).mailboxes publisher c.args.sample.subscriber))
    → Reaches f c.search_and_release.new.state
    (released (state_of (kept_of f)) publisher c.args.sample.subscriber c.args.sample.number))
    (same-fields c.args.state.now _ c.state.view_is c.release_if_last.new.connections c.release_if_last.new.books
    c.release_if_last.ensures.same_books c.if-release_if_last.ensures.releases)
    c.search_and_release.ensures.released
