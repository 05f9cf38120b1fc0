use Rattle.std.proofs.Common.{◌<◌, ◌≤◌, ◌≡◌, ℕ, ◌∷◌, ◌++◌, [], length, arith, ap, inl, subst, sym, ◌∙◌}
use Rattle.std.proofs.lemmas.Bool.{true≢false}
use Rattle.iox2_pubsub.specs.Domains.{Key}
use Rattle.iox2_pubsub.specs.Handles.{blocked_sender, buffer_size_of, publisher_id}
use Rattle.iox2_pubsub.specs.Live.{IsConnected, payloads_from, subscriber_key}
use Rattle.iox2_pubsub.specs.RoomyPublishers.{HasRoomAt}
use Rattle.iox2_pubsub.proofs.ForCallers.{length_singles, one_at_most_buffer}
use Rattle.message_patterns.specs.Values.{Wait}
use Rattle.message_patterns.proofs.FullQueues.{some-waits}
use Rattle.message_patterns.proofs.blocking.push_over.Goals as goal

pub returns-in_default-clause-taken : goal.returns-in_default-clause-taken
returns-in_default-clause-taken c = λ earlier takes.
    ((rw c.in_default.is at c.in_ok-waiting.ensures.taken) c.args.subscriber.now earlier 0 takes).wait

pub unreachable-requires-in-Ok-None : goal.unreachable-requires-in-Ok-None
unreachable-requires-in-Ok-None c =
    let publisher = publisher_id c.args.publisher.now in
    let reader = c.args.subscriber.now in
    let own = c.requires.own in
    let waits = (rw c.in-Some.is at c.in_ok-waiting.ensures.waits) reader own.0 own.1 c.requires.joined in
    let none = (rw c.in-Some.is at c.in_ok-waiting.ensures.roomy) reader in
    some-waits c.args.domain.now c.push_or_wait.new.domain publisher reader own.0 c.requires.one c.requires.joined
    c.requires.buffer c.requires.holds own.1 none waits.0
    ((rw c.in-Ok-None.field-0-is at c.in-Ok-None.ensures.nothing)
    (inl (c.in_ok-waiting.ensures.up_to_date.subscribers reader c.requires.up_to_date)))

pub unreachable-requires-in-Err : goal.unreachable-requires-in-Err
unreachable-requires-in-Err c =
    let reader = c.args.subscriber.now in
    true≢false
    (sym (c.in-Err.ensures.granted (c.in_ok-waiting.ensures.up_to_date.subscribers reader c.requires.up_to_date)
    (c.in_ok-waiting.ensures.borrows.all reader 1 c.requires.borrows)))

pub unreachable-requires : goal.unreachable-requires
unreachable-requires c =
    let publisher = publisher_id c.args.publisher.now in
    let reader = c.args.subscriber.now in
    let own = c.requires.own in
    let waits = (rw c.in-Some.is at c.in_ok-waiting.ensures.waits) reader own.0 own.1 c.requires.joined in
    let blocked = rw c.in-Some.is at c.in_ok-waiting.ensures.blocked in
    let same : blocked_sender c.in-Some.waiting ≡ publisher = ap (λ (k : Key). k.port) blocked.1 in
    let took = (rw c.in-Ok-Some.field-0-is at c.in-Ok-Some.ensures.first) publisher own.0 waits.0 in
    let pending = c.in-Ok-Some.ensures.stays.pending c.in-Some.waiting reader (c.args.value ∷ []) waits.1 tt tt in
    let still = c.in-Ok-Some.ensures.up_to_date.connections publisher reader
    (c.in_ok-waiting.ensures.up_to_date.connections publisher reader c.requires.joined) in
    let there = c.in-Ok-Some.ensures.stays.subscribers (subscriber_key reader)
    (c.in_ok-waiting.ensures.stays.subscribers (subscriber_key reader) c.requires.subscriber.there tt) tt in
    let buffer = c.in_ok-waiting.ensures.stays.buffers reader c.requires.buffer in
    let most : length (payloads_from c.push_or_wait.new.domain publisher reader) ≤ buffer_size_of reader =
    one_at_most_buffer c.push_or_wait.new.domain c.in-Ok-Some.ensures.consistent reader publisher buffer in
    let was : length (payloads_from c.push_or_wait.new.domain publisher reader) ≡ length own.0 =
    ap length waits.0.from ∙ length_singles own.0 in
    let now : length (payloads_from c.read_one.new.domain publisher reader) ≡ length took.0 =
    ap length took.2.from ∙ length_singles took.0 in
    let one : length own.0 ≡ length (c.in-Ok-Some.first ∷ took.0) = ap length took.1 in
    let room : HasRoomAt c.read_one.new.domain publisher reader =
    record {
      connected = still;
      buffer = c.in-Ok-Some.ensures.stays.buffers reader buffer;
      room = omega (arith, most, was, now, one);
    } in
    (rw c.in-Some-2.is at c.in_ok-push_again-in-Ok-Some.ensures.roomy) reader c.args.value pending there
    (subst (λ (i : ℕ). HasRoomAt c.read_one.new.domain i reader) (sym same) room)

pub returns-clause-over : goal.returns-clause-over
returns-clause-over c = λ earlier wait room.
    let publisher = publisher_id c.args.publisher.now in
    let reader = c.args.subscriber.now in
    let waits = (rw c.in-Some.is at c.in_ok-waiting.ensures.waits) reader earlier wait c.requires.joined in
    let blocked = rw c.in-Some.is at c.in_ok-waiting.ensures.blocked in
    let same : blocked_sender c.in-Some.waiting ≡ publisher = ap (λ (k : Key). k.port) blocked.1 in
    let took = (rw c.in-Ok-Some.field-0-is at c.in-Ok-Some.ensures.first) publisher earlier waits.0 in
    let pending = c.in-Ok-Some.ensures.stays.pending c.in-Some.waiting reader (c.args.value ∷ []) waits.1 tt tt in
    let still = c.in-Ok-Some.ensures.up_to_date.connections publisher reader
    (c.in_ok-waiting.ensures.up_to_date.connections publisher reader c.requires.joined) in
    let buffer =
    c.in-Ok-Some.ensures.stays.buffers reader (c.in_ok-waiting.ensures.stays.buffers reader c.requires.buffer) in
    let fits : length took.0 < buffer_size_of reader = let long : length earlier ≡ length
    (c.in-Ok-Some.first ∷ took.0) = ap length took.1 in omega (arith, long, room) in
    let left : Wait c.read_one.new.domain (blocked_sender c.in-Some.waiting) reader took.0 =
    subst (λ (i : ℕ). Wait c.read_one.new.domain i reader took.0) (sym same) took.2 in
    let last = (rw c.in-None.is at c.in_ok-push_again-in-Ok-Some.ensures.taken) reader c.args.value took.0 pending
    (subst (λ (i : ℕ). IsConnected c.read_one.new.domain i reader) (sym same) still) left buffer fits in
    (took.0, took.1, subst (λ (i : ℕ). Wait c.push_again.new.domain i reader (took.0 ++ c.args.value ∷ [])) same last)
