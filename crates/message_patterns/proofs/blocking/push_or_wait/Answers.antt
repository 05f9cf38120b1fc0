use Rattle.std.proofs.Common.{◌≡◌, ℕ, ◌∷◌, [], ap, subst, sym, ◌∙◌}
use Rattle.iox2_pubsub.specs.Domains.{Key, ServiceConfig}
use Rattle.iox2_pubsub.specs.Handles.{blocked_sender, publisher_id}
use Rattle.iox2_pubsub.specs.Live.{IsConnected}
use Rattle.iox2_pubsub.proofs.AllSubscribers.{only_one_is_pending}
use Rattle.iox2_pubsub.proofs.ForCallers.{all_from_as_before}
use Rattle.iox2_pubsub.specs.Payloads.{singles}
use Rattle.message_patterns.proofs.Waits.{room-for-one, takes-next}
use Rattle.message_patterns.proofs.blocking.push_or_wait.Goals as goal

pub returns-in-Ok-Delivered-clause-taken : goal.returns-in-Ok-Delivered-clause-taken
returns-in-Ok-Delivered-clause-taken g c = λ reader earlier more takes.
    let publisher = publisher_id c.args.publisher.now in
    let sent = rw c.in-Ok-Delivered.field-0-is at c.in-Ok-Delivered.ensures in
    let joined = sent.joins reader (singles earlier) takes.wait takes.buffer
    (room-for-one c.args.domain.now publisher reader earlier more takes) takes.connected tt in
    takes-next c.args.domain.now c.send_copy.new.domain publisher reader earlier c.args.value more takes joined
    sent.up_to_date sent.stays.buffers

pub returns-in-Ok-Blocked-clause-waits : goal.returns-in-Ok-Blocked-clause-waits
returns-in-Ok-Blocked-clause-waits g c = λ reader earlier wait joined.
    let sent = rw c.in-Ok-Blocked.field-0-is at c.in-Ok-Blocked.ensures in
    let new = c.send_copy.new.domain in
    let publisher = publisher_id c.args.publisher.now in
    let waiting = c.in-Ok-Blocked.waiting in
    let same : blocked_sender waiting ≡ publisher = ap (λ (k : Key). k.port) sent.blocked.1 in
    let left = only_one_is_pending new (sent.stays.consistent sent.consistent) waiting c.args.domain.now reader
    (c.args.value ∷ []) (ap (λ (it : ServiceConfig). it.max_subscribers) sent.stays.settings ∙ c.requires.one)
    (subst (λ (p : ℕ). IsConnected new p reader) (sym same) (sent.up_to_date.connections publisher reader joined))
    (sent.pending reader joined) in
    (all_from_as_before c.args.domain.now new reader left.0 publisher (singles earlier) wait, left.1)

pub returns-in-Ok-Blocked-clause-roomy : goal.returns-in-Ok-Blocked-clause-roomy
returns-in-Ok-Blocked-clause-roomy g c =
    λ reader room. ((rw c.in-Ok-Blocked.field-0-is at c.in-Ok-Blocked.ensures).roomy_alone reader room).0
