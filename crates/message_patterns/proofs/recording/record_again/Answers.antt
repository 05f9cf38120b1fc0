use Rattle.std.proofs.Common.{◌≡◌, ℕ, [], ◌∷◌, sym, ap, subst}
use Rattle.std.proofs.lemmas.Result.{IfOk-weaker}
use Rattle.iox2_pubsub.specs.Domains.{Key}
use Rattle.iox2_pubsub.specs.Handles.{blocked_sender}
use Rattle.iox2_pubsub.specs.Live.{A_blocked_send, IsConnected, StaysBut, blocked_key, blocked_item}
use Rattle.iox2_pubsub.proofs.ForCallers.{stays_but_twice}
use Rattle.iox2_pubsub.proofs.SinceThen.{stays_since}
use Rattle.message_patterns.specs.Recordings.{RecorderIsServed, IsUnderway}
use Rattle.message_patterns.proofs.Recordings.{blocked-as, ended-so}
use Rattle.message_patterns.proofs.recording.record_again.Goals as goal

pub returns-in-Ok-Delivered-clause-recorded : goal.returns-in-Ok-Delivered-clause-recorded
returns-in-Ok-Delivered-clause-recorded g c = λ number pending joined.
    let gone = rw c.in-Ok-Delivered.field-0-is at c.in-Ok-Delivered.ensures in
    gone.resumes.serves c.args.recorder.now (number ∷ []) tt pending joined tt

pub returns-in-Ok-Blocked-clause-recorded : goal.returns-in-Ok-Blocked-clause-recorded
returns-in-Ok-Blocked-clause-recorded g c = λ number pending joined.
    let gone = rw c.in-Ok-Blocked.field-0-is at c.in-Ok-Blocked.ensures in
    let old = c.args.domain.now in
    let mid = c.retry.new.domain in
    let sender = blocked_sender c.args.waiting in
    let recorder = c.args.recorder.now in
    let same : blocked_sender c.in-Ok-Blocked.again ≡ sender = ap (λ (k : Key). k.port) gone.goes_on.blocked.1 in
    let under : IsUnderway old mid c.in-Ok-Blocked.again recorder number = record {
      connected = subst (λ (p : ℕ). IsConnected mid p recorder) (sym same)
          (gone.goes_on.up_to_date.connections sender recorder joined);
      settings = gone.goes_on.stays.settings;
      buffer = gone.goes_on.stays.buffers recorder;
      came = gone.resumes.pending recorder (number ∷ []) tt pending joined;
    } in
    IfOk-weaker c.pass_others.result _ _
    (λ waits carries. subst (λ (p : ℕ). RecorderIsServed old c.pass_others.new.domain p recorder number waits) same
    (carries old number under)) c.pass_others.ensures.carries_on

pub returns-in-Ok-Blocked-clause-blocked : goal.returns-in-Ok-Blocked-clause-blocked
returns-in-Ok-Blocked-clause-blocked g c =
    let gone = rw c.in-Ok-Blocked.field-0-is at c.in-Ok-Blocked.ensures in
    IfOk-weaker c.pass_others.result _ _ (blocked-as c.pass_others.new.domain (λ (k : Key). k)
    (blocked_key c.in-Ok-Blocked.again) _ gone.goes_on.blocked.1) c.pass_others.ensures.blocked

pub returns-in-Ok-Delivered-clause-ends : goal.returns-in-Ok-Delivered-clause-ends
returns-in-Ok-Delivered-clause-ends g c =
    let gone = rw c.in-Ok-Delivered.field-0-is at c.in-Ok-Delivered.ensures in
    gone.goes_on.stays_since tt

pub returns-in-Ok-Blocked-clause-ends : goal.returns-in-Ok-Blocked-clause-ends
returns-in-Ok-Blocked-clause-ends g c =
    let gone = rw c.in-Ok-Blocked.field-0-is at c.in-Ok-Blocked.ensures in
    ended-so c.pass_others.result _ _
    (stays_since c.args.domain.now c.retry.new.domain c.pass_others.new.domain c.in-Ok-Blocked.again c.args.waiting
    gone.goes_on.blocked.1 gone.goes_on.stays) c.pass_others.ensures.ends

pub returns-in-Err-clause-ends : goal.returns-in-Err-clause-ends
returns-in-Err-clause-ends g c = c.in-Err.ensures.goes_on.stays_since tt

pub returns-in-Ok-Blocked-clause-stays : goal.returns-in-Ok-Blocked-clause-stays
returns-in-Ok-Blocked-clause-stays g c =
    let gone = rw c.in-Ok-Blocked.field-0-is at c.in-Ok-Blocked.ensures in
    stays_but_twice c.args.domain.now c.retry.new.domain c.pass_others.new.domain
    (blocked_item c.args.waiting) gone.goes_on.stays
    (subst (λ (k : Key). StaysBut (A_blocked_send k.port) c.retry.new.domain c.pass_others.new.domain)
    gone.goes_on.blocked.1 c.pass_others.ensures.stays)
