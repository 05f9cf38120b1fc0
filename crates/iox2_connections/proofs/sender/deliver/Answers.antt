use Rattle.std.proofs.Common.{◌≡◌, ◌+◌, ◌-◌, arith, length, refl, sym, ◌∙◌}
use Rattle.std.proofs.lemmas.Bool.{eq-eqb}
use Rattle.std.proofs.lemmas.List.{length-map}
use Rattle.iox2_connections.specs.Mailboxes.{subscriber_of_key, sender_ends}
use Rattle.iox2_connections.proofs.DeliverySteps.{ends-at, deliver-more, deliver-stops, deliver-ends, puts-same}
use Rattle.iox2_connections.proofs.DeliverySteps.{HaveChannel-same, IsReadyToDeliver-same}
use Rattle.iox2_connections.proofs.Recounts.{Recounts-same, Recounts-trans}
use Rattle.iox2_connections.proofs.ReclaimedPuts.{GrowsAlone-same, GrowsAlone-trans, own-still}
use Rattle.std.proofs.Common.{ap}
use Rattle.iox2_slots.specs.SlotBook.{Book}
use Rattle.iox2_connections.specs.Counters.{with_counters}
use Rattle.std.specs.Prelude.{map}
use Rattle.std.specs.Option.{option_map}
use Rattle.iox2_machine.specs.machine.Delivery.{accepted_count}
use Rattle.iox2_connections.specs.Handlers.{asked}
use Rattle.iox2_connections.specs.Deliveries.{result_of}
use Rattle.iox2_connections.specs.Receivers.{taking_buffers}
use Rattle.iox2_connections.proofs.sender.deliver.Goals as goal

pub loop-place-init : goal.loop-place-init
loop-place-init g c = record {
  ready = c.requires.ready;
  known = c.requires.known;
  recounts = Recounts-same c.args.delivery.now.publisher c.args.book.now.holders c.args.connections.now;
  walk = λ number how boxes' rest.
      rw (eq-eqb (c.args.delivery.now.start).place (c.args.delivery.now.start).place refl) at rest;
  count = (c.args.delivery.now.start).count;
  counts = omega (arith, c.requires.counted);
  book = refl;
  alone = GrowsAlone-same c.args.delivery.now.slot c.args.book.now.holders;
  grows = omega arith;
}

pub returns-then-is_blocking-clause-delivers : goal.returns-then-is_blocking-clause-delivers
returns-then-is_blocking-clause-delivers g c = λ number.
    let count : c.loop-place.place - c.loop-place.missed ≡ c.loop-place.invariant.count =
    omega (arith, c.loop-place.invariant.counts) in
    c.loop-place.invariant.walk number _ _
    (rw (count, c.retries_at.ensures)
    (deliver-stops (asked g.F.BackpressureFn.allows c.args.handler.now) c.args.config.now c.args.delivery.now
    c.args.handler.now (taking_buffers c.args.connections.now c.args.delivery.now.publisher c.args.delivery.now.channel
    (map (option_map g.R.Receiver.details_of) c.args.receivers.now.items))
    (number c.args.delivery.now.publisher c.args.delivery.now.slot) (sender_ends c.args.connections.now c.args.keys.now)
    c.loop-place.place c.loop-place.invariant.count c.loop-place.has_failed _ _ c.deliver_at-reception.result
    (omega (arith, length-map c.args.keys.now (subscriber_of_key c.args.connections.now)))
    (puts-same (asked g.F.BackpressureFn.allows c.args.handler.now) c.args.config.now c.args.delivery.now
    c.args.handler.now c.args.connections.now c.loop-place.connections
    (map (option_map g.R.Receiver.details_of) c.args.receivers.now.items) _ _ _ _ _ _ c.requires.ready.apart
    c.loop-place.invariant.recounts.homes
    (rw (ends-at _ _ c.args.keys.now c.loop-place.place c.loop-place.invariant.recounts.homes) at
    (c.deliver_at-reception.ensures.puts number)))
    (sym c.is_blocking.ensures ∙ c.if-is_blocking.true)))

pub returns-then-is_blocking-clause-recounts : goal.returns-then-is_blocking-clause-recounts
returns-then-is_blocking-clause-recounts g c =
    Recounts-trans c.args.delivery.now.publisher _ _ _ _ _ _ c.loop-place.invariant.recounts
    c.deliver_at-reception.ensures.recounts

pub loop-place-preserved : goal.loop-place-preserved
loop-place-preserved g c = record {
  ready = IsReadyToDeliver-same c.args.delivery.now.publisher _ _ c.args.keys.now
      (map (option_map g.R.Receiver.details_of) c.args.receivers.now.items) c.loop-place.invariant.ready
      c.deliver_at-reception.ensures.recounts.homes;
  known = HaveChannel-same c.args.delivery.now.channel _ _ c.loop-place.invariant.known
      c.deliver_at-reception.ensures.recounts.homes;
  recounts = Recounts-trans c.args.delivery.now.publisher _ _ _ _ _ _ c.loop-place.invariant.recounts
      c.deliver_at-reception.ensures.recounts;
  walk = λ number how boxes' rest. c.loop-place.invariant.walk number how boxes'
      (deliver-more (asked g.F.BackpressureFn.allows c.args.handler.now) c.args.config.now c.args.delivery.now
      c.args.handler.now (taking_buffers c.args.connections.now c.args.delivery.now.publisher
      c.args.delivery.now.channel (map (option_map g.R.Receiver.details_of) c.args.receivers.now.items))
      (number c.args.delivery.now.publisher c.args.delivery.now.slot)
      (sender_ends c.args.connections.now c.args.keys.now) c.loop-place.place c.loop-place.invariant.count
      c.loop-place.has_failed _ _ boxes' c.deliver_at-reception.result how
      (omega (arith, length-map c.args.keys.now (subscriber_of_key c.args.connections.now)))
      c.loop-place.auto.place
      (puts-same (asked g.F.BackpressureFn.allows c.args.handler.now) c.args.config.now c.args.delivery.now
      c.args.handler.now c.args.connections.now c.loop-place.connections
      (map (option_map g.R.Receiver.details_of) c.args.receivers.now.items) _ _ _ _ _ _ c.requires.ready.apart
      c.loop-place.invariant.recounts.homes
      (rw (ends-at _ _ c.args.keys.now c.loop-place.place c.loop-place.invariant.recounts.homes) at
      (c.deliver_at-reception.ensures.puts number)))
      (sym c.is_blocking.ensures ∙ c.if-is_blocking.false)
      (rw c.is_failed-has_failed.ensures at rest));
  count = c.loop-place.invariant.count + accepted_count (result_of c.deliver_at-reception.result);
  counts = omega (arith, c.count_missed-missed.ensures, c.loop-place.invariant.counts);
  book = c.deliver_at-reception.ensures.book
      ∙ ap (λ (b : Book). with_counters b c.deliver_at-reception.new.book.holders) c.loop-place.invariant.book;
  alone =
      GrowsAlone-trans c.args.delivery.now.slot _ _ _ c.loop-place.invariant.alone c.deliver_at-reception.ensures.alone;
  grows = omega (arith, c.deliver_at-reception.ensures.grows, c.loop-place.invariant.grows);
}

pub deliver_at-reception-requires-clause-own : goal.deliver_at-reception-requires-clause-own
deliver_at-reception-requires-clause-own g c =
    own-still c.args.delivery.now.publisher c.args.delivery.now.slot _ _ _ _ c.requires.own
    c.loop-place.invariant.recounts

pub returns-then-is_blocking-clause-alone : goal.returns-then-is_blocking-clause-alone
returns-then-is_blocking-clause-alone g c =
    GrowsAlone-trans c.args.delivery.now.slot _ _ _ c.loop-place.invariant.alone c.deliver_at-reception.ensures.alone

pub returns-clause-delivers : goal.returns-clause-delivers
returns-clause-delivers g c = λ number.
    let count : length c.args.keys.now - c.loop-place.missed ≡ c.loop-place.invariant.count =
    omega (arith, c.loop-place.invariant.counts, c.loop-place-test.false, c.loop-place.auto.place) in
    c.loop-place.invariant.walk number _ _
    (rw count (deliver-ends (asked g.F.BackpressureFn.allows c.args.handler.now) c.args.config.now c.args.delivery.now
    c.args.handler.now (taking_buffers c.args.connections.now c.args.delivery.now.publisher c.args.delivery.now.channel
    (map (option_map g.R.Receiver.details_of) c.args.receivers.now.items))
    (number c.args.delivery.now.publisher c.args.delivery.now.slot) (sender_ends c.args.connections.now c.args.keys.now)
    c.loop-place.place c.loop-place.invariant.count c.loop-place.has_failed _
    (omega (arith, c.loop-place-test.false, length-map c.args.keys.now (subscriber_of_key c.args.connections.now)))))
