use Rattle.std.proofs.Common.{◌≡◌, ◌≤◌, ◌<◌, ◌+◌, ◌++◌, ◌∷◌, [], List, ℕ, length, refl, sym, ap, ◌∙◌, arith, rules}
use Rattle.std.proofs.lemmas.List.{length-append}
use Rattle.iox2_pubsub.specs.Handles.{publisher_id}
use Rattle.message_patterns.specs.Queues.{QueueView}
use Rattle.message_patterns.specs.Values.{TakesMore}
use Rattle.message_patterns.proofs.QueueItems.{queue-count, wait-items}
use Rattle.message_patterns.proofs.Waits.{takes-stay}
use Rattle.message_patterns.proofs.queues.Queue.push.Goals as goal

pub returns-then-self-buffer_size-clause-full : goal.returns-then-self-buffer_size-clause-full
returns-then-self-buffer_size-clause-full c =
    let is = c.self.invariant in
    let counted : length c.args.self.now.items ≡ c.self.inside.count =
    sym (ap (λ (v : QueueView). length v.items) c.self.view_is)
    ∙ queue-count c.self.inside.domain c.self.inside.publisher c.self.inside.subscriber c.self.inside.count is in
    let capacity : c.args.self.now.capacity ≡ c.self.inside.subscriber.buffer_size =
    sym (ap (λ (v : QueueView). v.capacity) c.self.view_is) in
    let least : c.self.inside.subscriber.buffer_size ≤ c.self.inside.count = omega (arith, c.buffer_size.ensures) in
    let most : c.self.inside.count ≤ c.self.inside.subscriber.buffer_size = is.bound in
    (refl, omega (arith, counted, capacity, least, most), refl)

-- the number waits behind the others
all-taken : (c : goal.After-self-1) → TakesMore c.send_loan.new.domain
    (publisher_id c.self.inside.publisher) c.self.inside.subscriber (c.self.invariant.items ++ c.args.value ∷ []) 0
all-taken c =
    let is = c.self.invariant in
    let publisher = publisher_id c.self.inside.publisher in
    let subscriber = c.self.inside.subscriber in
    let leaves = c.in-Ok.ensures.leaves in
    let counted : length is.items ≡ c.self.inside.count = is.counted in
    let less : c.self.inside.count < subscriber.buffer_size = omega (arith, c.buffer_size.ensures) in
    let takes : TakesMore c.self.inside.domain publisher subscriber is.items (0 + 1) =
    record {
      wait = is.wait;
      connected = is.ports.connected;
      buffer = is.ports.buffer;
      room = omega (arith, counted, less);
    } in
    c.send_loan.ensures.sent publisher subscriber is.items 0 c.in-Ok.ensures.loan.lent.publisher
    (takes-stay c.self.inside.domain c.loan_uninit.new.domain leaves.waits leaves.up_to_date leaves.stays.buffers
    publisher subscriber is.items (0 + 1) takes)

pub invariant_of-self-2 : goal.invariant_of-self-2
invariant_of-self-2 c =
    let is = c.self.invariant in
    let takes = all-taken c in
    let counted : length is.items ≡ c.self.inside.count = is.counted in
    let less : c.self.inside.count < c.self.inside.subscriber.buffer_size = omega (arith, c.buffer_size.ensures) in
    let longer : length (is.items ++ c.args.value ∷ []) ≡ length is.items + 1 =
    length-append is.items (c.args.value ∷ []) in
    record {
      ports = record {
        single_valued = search rules;
        sender = search rules;
        receiver = search rules;
        up_to_date = search rules;
        connected = takes.connected;
        buffer = takes.buffer;
        loans = c.send_loan.ensures.given_back c.self.inside.publisher 0 (sym c.in-Ok.ensures.loan.lent.publisher)
            (c.in-Ok.ensures.leaves.loans_left.loans 0 is.ports.loans);
        borrows = c.send_loan.ensures.borrows.all c.self.inside.subscriber 1
            (c.in-Ok.ensures.leaves.borrows_left.all c.self.inside.subscriber 1 is.ports.borrows);
      };
      items = is.items ++ c.args.value ∷ [];
      wait = takes.wait;
      counted = omega (arith, longer, counted);
      bound = omega (arith, less);
    }

pub returns-clause-taken : goal.returns-clause-taken
returns-clause-taken c =
    let is = c.self.invariant in
    let takes = all-taken c in
    let was : is.items ≡ c.args.self.now.items =
    sym (wait-items c.self.inside.domain c.self.inside.publisher c.self.inside.subscriber is.items is.wait)
    ∙ ap (λ (v : QueueView). v.items) c.self.view_is in
    wait-items c.send_loan.new.domain c.self.inside.publisher c.self.inside.subscriber
    (is.items ++ c.args.value ∷ []) takes.wait ∙ ap (λ (l : List ℕ). l ++ c.args.value ∷ []) was
