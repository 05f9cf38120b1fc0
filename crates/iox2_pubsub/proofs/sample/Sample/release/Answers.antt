use Rattle.std.proofs.Common.{◌≡◌, ℕ, true, refl, ap, subst, ◌∙◌}
use Rattle.iox2_machine.specs.machine.Mailbox.{is_borrowed}
use Rattle.iox2_machine.specs.machine.Releases.{released as machine-released}
use Rattle.iox2_machine.specs.machine.State.{State}
use Rattle.iox2_domain.specs.Fields.{kept_of}
use Rattle.iox2_domain.specs.Kept.{state_of}
use Rattle.iox2_domain.specs.Reaches.{Reaches}
use Rattle.iox2_domain.specs.declared.sample_slots.SampleAt.{SampleAt}
use Rattle.iox2_pubsub.proofs.ReleaseShows.{release-shows}
use Rattle.iox2_pubsub.proofs.CallsStay.{sample-shown, release-stays, release-spends}
use Rattle.iox2_pubsub.proofs.SampleReads.{its-place, sample-held}
use Rattle.iox2_pubsub.proofs.WaitingShown.{release-waits}
use Rattle.iox2_pubsub.proofs.UpToDateShown.{release-leaves}
use Rattle.iox2_pubsub.proofs.BorrowsLeftShown.{release-borrows, release-gives, release-gives-of}
use Rattle.iox2_pubsub.proofs.LiveParts.{origin-parts}
use Rattle.iox2_pubsub.proofs.LoansLeftShown.{release-left}
use Rattle.iox2_pubsub.proofs.StaysBut.{same-boxes}
use Rattle.iox2_pubsub.proofs.sample.Sample.release.Goals as goal

pub release_sample-requires-clause-live : goal.release_sample-requires-clause-live
release_sample-requires-clause-live g c =
    sample-held {T = g.row.T.Denot} {U = g.row.U.Denot} c.domain.inside.state c.args.domain.now c.domain.view_is
    c.args.self (its-place c.self.view_is) c.requires.live

pub returns-clause-released : goal.returns-clause-released
returns-clause-released g c =
    let released =
    subst (λ (at : SampleAt). (p : ℕ)
    → is_borrowed at.number ((state_of (kept_of c.domain.inside.state)).mailboxes p at.subscriber) ≡ true
    → Reaches c.domain.inside.state c.release_sample.new.state
    (machine-released (state_of (kept_of c.domain.inside.state)) p at.subscriber at.number))
    (its-place c.self.view_is) c.release_sample.ensures.released in
    release-shows {T = g.row.T.Denot}
    {U = g.row.U.Denot} c.args.domain.now c.domain.inside.state c.release_sample.new.state c.domain.view_is
    c.args.self.sample.subscriber c.args.self.sample.number released

pub returns-clause-spent : goal.returns-clause-spent
returns-clause-spent g c = λ live.
    let it = sample-shown {T = g.row.T.Denot} {U = g.row.U.Denot} c.domain.inside.state c.args.domain.now
    c.domain.invariant c.domain.view_is _ c.requires.live.there in
    let step = returns-clause-released g c it.0 it.1 it.2 (it.3).0 (it.3).1 in
    release-spends {T = g.row.T.Denot} {U = g.row.U.Denot} c.args.domain.now _ it.0 it.1 it.2
    (it.3).0 c.args.self.sample.subscriber c.args.self.sample.number step.0 step.1
    (it.3).1 step.2 _ refl refl live.there

pub returns-clause-leaves : goal.returns-clause-leaves
returns-clause-leaves g c =
    let it = sample-shown {T = g.row.T.Denot} {U = g.row.U.Denot} c.domain.inside.state c.args.domain.now
    c.domain.invariant c.domain.view_is _ c.requires.live.there in
    let step = returns-clause-released g c it.0 it.1 it.2 (it.3).0 (it.3).1 in
    record {
      stays = release-stays {T = g.row.T.Denot} {U = g.row.U.Denot} c.args.domain.now _ it.0 it.1 it.2
          (it.3).0 c.args.self.sample.subscriber c.args.self.sample.number step.0 step.1 step.2
          (same-boxes c.domain.inside.state c.release_sample.new.state c.args.domain.now c.domain.view_is
          c.domain.invariant (let held = sample-held {T = g.row.T.Denot} {U = g.row.U.Denot} c.domain.inside.state
          c.args.domain.now c.domain.view_is c.args.self (its-place c.self.view_is) c.requires.live in
          (c.release_sample.ensures.released held.0 held.1).places));
      waits = release-waits {T = g.row.T.Denot} {U = g.row.U.Denot} c.args.domain.now _ it.0 it.0 it.1 step.0 it.2
          step.1 (λ n entry at. at) (it.3).0 c.args.self.sample.subscriber c.args.self.sample.number step.2;
      up_to_date = release-leaves {T = g.row.T.Denot} {U = g.row.U.Denot} c.args.domain.now _ it.0 it.0 it.1 step.0 it.2
          step.1 (it.3).0 c.args.self.sample.subscriber c.args.self.sample.number step.2;
      borrows_left = release-borrows {T = g.row.T.Denot} {U = g.row.U.Denot} c.args.domain.now _ it.0 it.0 it.1 step.0
          it.2 step.1 (it.3).0 c.args.self.sample.subscriber c.args.self.sample.number (it.3).1 step.2;
      loans_left = release-left {T = g.row.T.Denot} {U = g.row.U.Denot} c.args.domain.now _ it.0 it.0 it.1 step.0 it.2
          step.1 (it.3).0 c.args.self.sample.subscriber c.args.self.sample.number step.2;
    }

pub returns-clause-gives_back : goal.returns-clause-gives_back
returns-clause-gives_back g c =
    let it = sample-shown {T = g.row.T.Denot} {U = g.row.U.Denot} c.domain.inside.state c.args.domain.now
    c.domain.invariant c.domain.view_is _ c.requires.live.there in
    let step = returns-clause-released g c it.0 it.1 it.2 (it.3).0 (it.3).1 in
    release-gives {T = g.row.T.Denot} {U = g.row.U.Denot} c.args.domain.now _ it.0 it.0 it.1 step.0 it.2 step.1
    (it.3).0 c.args.self.sample.subscriber c.args.self.sample.number (it.3).1 step.2

pub returns-clause-gives_back_of : goal.returns-clause-gives_back_of
returns-clause-gives_back_of g c = λ from.
    let it = sample-shown {T = g.row.T.Denot} {U = g.row.U.Denot} c.domain.inside.state c.args.domain.now
    c.domain.invariant c.domain.view_is _ c.requires.live.there in
    let origin = c.args.self.origin in
    let borrowed : is_borrowed c.args.self.sample.number (it.1.mailboxes origin c.args.self.sample.subscriber) ≡ true =
    ap (λ (t : State g.row.T.Denot g.row.U.Denot).
    is_borrowed c.args.self.sample.number (t.mailboxes origin c.args.self.sample.subscriber)) (it.2).state
    ∙ origin-parts c.args.domain.now c.args.self from in
    let step = returns-clause-released g c it.0 it.1 it.2 origin borrowed in
    release-gives-of {T = g.row.T.Denot} {U = g.row.U.Denot} c.args.domain.now _ it.0 it.0 it.1 step.0 it.2 step.1
    origin c.args.self.sample.subscriber c.args.self.sample.number borrowed step.2
