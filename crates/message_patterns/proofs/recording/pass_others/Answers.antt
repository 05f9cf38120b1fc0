use Rattle.std.proofs.Common.{◌≡◌, ℕ, Bool, true, false, not, [], ◌∷◌, refl, sym, ap, subst, ◌∙◌}
use Rattle.std.proofs.Math.Dec.{eqb}
use Rattle.std.proofs.lemmas.Bool.{eqb-false, eqb-true, not-true, true≢false}
use Rattle.iox2_pubsub.specs.BlockedSends.{IsNotNext}
use Rattle.iox2_pubsub.specs.Domains.{Key}
use Rattle.iox2_pubsub.specs.Handles.{subscriber_id}
use Rattle.iox2_pubsub.specs.Live.{A_blocked_send, IsServed, StaysBut, blocked_item}
use Rattle.iox2_pubsub.proofs.ForCallers.{stays_but_twice, up_to_date_twice}
use Rattle.iox2_pubsub.proofs.SinceThen.{stays_since}
use Rattle.message_patterns.proofs.Recordings.{ends-served, still-underway, waits-for-it}
use Rattle.message_patterns.proofs.recording.pass_others.Goals as goal

-- what a test of two ids says
another : (waited its id : ℕ) → true ≡ not (eqb waited its) → its ≡ id → id ≡ waited → ⊥
another waited its id test named same =
    eqb-false waited its (not-true (eqb waited its) (sym test)) (sym same ∙ sym named)

the-same : (waited its id : ℕ) → false ≡ not (eqb waited its) → its ≡ id → id ≡ waited
the-same waited its id test named = sym named ∙ sym (eqb-true waited its (yes (eqb waited its) test)) where
  yes : (b : Bool) → false ≡ not b → b ≡ true
  yes true e = refl
  yes false e = absurd (true≢false (sym e))

pub loop-blocked-preserved : goal.loop-blocked-preserved
loop-blocked-preserved g c =
    let gone = rw c.in-Ok-Blocked.field-0-is at c.in-Ok-Blocked.ensures in
    let before = c.loop-blocked.invariant in
    record {
      live = gone.goes_on.blocked.0;
      same = gone.goes_on.blocked.1 ∙ before.same;
      underway = λ start number under.
          still-underway start c.loop-blocked.domain c.give_up.new.domain c.loop-blocked.blocked c.args.recorder.now
          number (before.underway start number under) (IsNotNext c.loop-blocked.domain c.loop-blocked.blocked)
          (c.subscriber.ensures.others c.args.recorder.now
          (another c.subscriber.result c.id.result
          (subscriber_id c.args.recorder.now) c.loop-blocked-test.ensures c.id.ensures))
          c.in-Ok-Blocked.again (ap (λ (k : Key). k.port) gone.goes_on.blocked.1) gone.resumes gone.goes_on.up_to_date
          gone.goes_on.stays.settings gone.goes_on.stays.buffers;
      up_to_date = up_to_date_twice c.args.domain.now c.loop-blocked.domain c.give_up.new.domain before.up_to_date
          gone.goes_on.up_to_date;
      stays = stays_but_twice c.args.domain.now c.loop-blocked.domain c.give_up.new.domain
          (blocked_item c.args.waiting) before.stays
          (subst (λ (k : Key). StaysBut (A_blocked_send k.port) c.loop-blocked.domain c.give_up.new.domain) before.same
          gone.goes_on.stays);
    }

pub returns-in-Ok-Delivered-clause-carries_on : goal.returns-in-Ok-Delivered-clause-carries_on
returns-in-Ok-Delivered-clause-carries_on g c =
    let gone = rw c.in-Ok-Delivered.field-0-is at c.in-Ok-Delivered.ensures in
    let before = c.loop-blocked.invariant in
    λ start number under.
    subst (λ (p : ℕ). IsServed start c.give_up.new.domain p c.args.recorder.now (number ∷ []))
    (ap (λ (k : Key). k.port) before.same)
    (ends-served start c.loop-blocked.domain c.give_up.new.domain c.loop-blocked.blocked c.args.recorder.now number
    (before.underway start number under) (IsNotNext c.loop-blocked.domain c.loop-blocked.blocked)
    (c.subscriber.ensures.others c.args.recorder.now
    (another c.subscriber.result c.id.result
    (subscriber_id c.args.recorder.now) c.loop-blocked-test.ensures c.id.ensures)) _ gone.resumes)

pub returns-clause-carries_on : goal.returns-clause-carries_on
returns-clause-carries_on g c =
    let it = the-same c.subscriber.result c.id.result
    (subscriber_id c.args.recorder.now) c.loop-blocked-test.ensures c.id.ensures in
    λ start number under.
    waits-for-it start c.loop-blocked.domain c.loop-blocked.blocked c.args.recorder.now number
    (c.loop-blocked.invariant.underway start number under) (c.subscriber.ensures.unpassed c.args.recorder.now it)

pub returns-in-Ok-Delivered-clause-ends : goal.returns-in-Ok-Delivered-clause-ends
returns-in-Ok-Delivered-clause-ends g c =
    let gone = rw c.in-Ok-Delivered.field-0-is at c.in-Ok-Delivered.ensures in
    let before = c.loop-blocked.invariant in
    stays_since c.args.domain.now c.loop-blocked.domain c.give_up.new.domain c.loop-blocked.blocked c.args.waiting
    before.same before.stays (gone.goes_on.stays_since tt)

pub returns-in-Err-clause-ends : goal.returns-in-Err-clause-ends
returns-in-Err-clause-ends g c =
    let before = c.loop-blocked.invariant in
    stays_since c.args.domain.now c.loop-blocked.domain c.give_up.new.domain c.loop-blocked.blocked c.args.waiting
    before.same before.stays (c.in-Err.ensures.goes_on.stays_since tt)

pub returns-in-Ok-Delivered-clause-stays : goal.returns-in-Ok-Delivered-clause-stays
returns-in-Ok-Delivered-clause-stays g c =
    let gone = rw c.in-Ok-Delivered.field-0-is at c.in-Ok-Delivered.ensures in
    let before = c.loop-blocked.invariant in
    stays_but_twice c.args.domain.now c.loop-blocked.domain c.give_up.new.domain
    (blocked_item c.args.waiting) before.stays
    (subst (λ (k : Key). StaysBut (A_blocked_send k.port) c.loop-blocked.domain c.give_up.new.domain) before.same
    gone.goes_on.stays)

pub returns-in-Err-clause-stays : goal.returns-in-Err-clause-stays
returns-in-Err-clause-stays g c =
    let before = c.loop-blocked.invariant in
    stays_but_twice c.args.domain.now c.loop-blocked.domain c.give_up.new.domain
    (blocked_item c.args.waiting) before.stays
    (subst (λ (k : Key). StaysBut (A_blocked_send k.port) c.loop-blocked.domain c.give_up.new.domain) before.same
    c.in-Err.ensures.goes_on.stays)
