use Rattle.std.proofs.Common.{◌≡◌, ℕ, None, Ok, sym, ap, subst}
use Rattle.std.proofs.lemmas.Result.{IfOk-weaker}
use Rattle.iox2_pubsub.specs.Domains.{Key}
use Rattle.iox2_pubsub.specs.Handles.{blocked_sender, publisher_id}
use Rattle.iox2_pubsub.specs.Live.{A_blocked_send, IsConnected, IsUnblocked, Item, StaysBut, blocked_key, lender_key}
use Rattle.iox2_pubsub.specs.declared.send_outcome.SendOutcome.TheVariants.{Blocked}
use Rattle.iox2_pubsub.proofs.ForCallers.{copy_leaves, stays_but_twice, up_to_date_twice}
use Rattle.iox2_pubsub.proofs.SinceThen.{stays_then}
use Rattle.message_patterns.specs.Recordings.{RecorderIsServed, IsUnderway}
use Rattle.message_patterns.proofs.Recordings.{blocked-as, ended-so, recorded-takes}
use Rattle.message_patterns.proofs.recording.record.Goals as goal

pub returns-in-Ok-Delivered-clause-recorded : goal.returns-in-Ok-Delivered-clause-recorded
returns-in-Ok-Delivered-clause-recorded g c =
    let sent = rw c.in-Ok-Delivered.field-0-is at c.in-Ok-Delivered.ensures in
    sent.serves c.args.recorder.now c.requires.connected tt

pub returns-in-Ok-Delivered-clause-taken : goal.returns-in-Ok-Delivered-clause-taken
returns-in-Ok-Delivered-clause-taken g c = λ earlier more takes.
    let sent = rw c.in-Ok-Delivered.field-0-is at c.in-Ok-Delivered.ensures in
    recorded-takes c.args.domain.now c.send_copy.new.domain (publisher_id c.args.publisher.now) c.args.recorder.now
    c.args.number sent.consistent sent.stays.consistent sent.up_to_date sent.stays.buffers
    None (sent.serves c.args.recorder.now c.requires.connected tt) earlier more takes

pub returns-in-Ok-Blocked-clause-recorded : goal.returns-in-Ok-Blocked-clause-recorded
returns-in-Ok-Blocked-clause-recorded g c =
    let sent = rw c.in-Ok-Blocked.field-0-is at c.in-Ok-Blocked.ensures in
    let old = c.args.domain.now in
    let mid = c.send_copy.new.domain in
    let publisher = publisher_id c.args.publisher.now in
    let recorder = c.args.recorder.now in
    let same : blocked_sender c.in-Ok-Blocked.waiting ≡ publisher = ap (λ (k : Key). k.port) sent.blocked.1 in
    let under : IsUnderway old mid c.in-Ok-Blocked.waiting recorder c.args.number = record {
      connected = subst (λ (p : ℕ). IsConnected mid p recorder) (sym same)
          (sent.up_to_date.connections publisher recorder c.requires.connected);
      settings = sent.stays.settings;
      buffer = sent.stays.buffers recorder;
      came = sent.pending recorder c.requires.connected;
    } in
    IfOk-weaker c.pass_others.result _ _
    (λ waits carries. subst (λ (p : ℕ). RecorderIsServed old c.pass_others.new.domain p recorder c.args.number waits)
    same (carries old c.args.number under)) c.pass_others.ensures.carries_on

pub returns-in-Ok-Blocked-clause-taken : goal.returns-in-Ok-Blocked-clause-taken
returns-in-Ok-Blocked-clause-taken g c = λ earlier more takes.
    let sent = rw c.in-Ok-Blocked.field-0-is at c.in-Ok-Blocked.ensures in
    let passed = c.pass_others.ensures in
    IfOk-weaker c.pass_others.result _ _ (λ waits is.
    recorded-takes c.args.domain.now c.pass_others.new.domain (publisher_id c.args.publisher.now) c.args.recorder.now
    c.args.number sent.consistent (λ it. passed.stays.consistent (sent.stays.consistent it))
    (up_to_date_twice c.args.domain.now c.send_copy.new.domain c.pass_others.new.domain sent.up_to_date
    passed.up_to_date) (λ s its. passed.stays.buffers s (sent.stays.buffers s its)) waits is earlier more takes)
    (returns-in-Ok-Blocked-clause-recorded g c)

pub returns-in-Ok-Blocked-clause-blocked : goal.returns-in-Ok-Blocked-clause-blocked
returns-in-Ok-Blocked-clause-blocked g c =
    let sent = rw c.in-Ok-Blocked.field-0-is at c.in-Ok-Blocked.ensures in
    IfOk-weaker c.pass_others.result _ _ (blocked-as c.pass_others.new.domain lender_key
    (blocked_key c.in-Ok-Blocked.waiting) _ sent.blocked.1) c.pass_others.ensures.blocked

pub returns-in-Ok-Blocked-clause-ends : goal.returns-in-Ok-Blocked-clause-ends
returns-in-Ok-Blocked-clause-ends g c =
    let sent = rw c.in-Ok-Blocked.field-0-is at c.in-Ok-Blocked.ensures in
    let old = c.args.domain.now in
    let mid = c.send_copy.new.domain in
    let stood = subst (λ (item : Item). StaysBut item old mid) (sym sent.whose)
    (copy_leaves old mid c.args.publisher.now (Ok (Blocked c.in-Ok-Blocked.waiting)) sent.stays) in
    ended-so c.pass_others.result _ _ (stays_then old mid c.pass_others.new.domain c.in-Ok-Blocked.waiting
    (subst (λ (k : Key). IsUnblocked old k) (sym sent.blocked.1) c.requires.publisher.unblocked) stood)
    c.pass_others.ensures.ends

pub returns-in-Ok-Blocked-clause-stays : goal.returns-in-Ok-Blocked-clause-stays
returns-in-Ok-Blocked-clause-stays g c =
    let sent = rw c.in-Ok-Blocked.field-0-is at c.in-Ok-Blocked.ensures in
    let mid = c.send_copy.new.domain in
    let new = c.pass_others.new.domain in
    stays_but_twice c.args.domain.now mid new (A_blocked_send (publisher_id c.args.publisher.now))
    (copy_leaves c.args.domain.now mid c.args.publisher.now (Ok (Blocked c.in-Ok-Blocked.waiting)) sent.stays)
    (subst (λ (item : Item). StaysBut item mid new) sent.whose c.pass_others.ensures.stays)
