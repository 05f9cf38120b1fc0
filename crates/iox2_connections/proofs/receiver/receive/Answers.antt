use Rattle.std.proofs.Common.{ℕ, None, get_or, ap, refl, sym, subst, ◌∙◌, arith}
use Rattle.slab.specs.Slab.{Slab}
use Rattle.iox2_connections.specs.Link.{Link}
use Rattle.iox2_connections.specs.Finds.{offer_at, Finds}
use Rattle.iox2_connections.specs.Takes.{TakesSlot}
use Rattle.iox2_connections.specs.declared.receiver.Found.{Found}
use Rattle.iox2_connections.proofs.Searches.{expired-ready, offer-ready, place-ready, search-ended, found-nothing}
use Rattle.iox2_connections.proofs.TakeSteps.{takes-slot}
use Rattle.iox2_connections.proofs.receiver.receive.Goals as goal

pub take-requires-clause-ready : goal.take-requires-clause-ready
take-requires-clause-ready c =
    (expired-ready c.args.connections.now c.args.expired.now c.args.keys.now c.search_keys-found.result c.in-Ready.key
    c.search_keys-found.ensures c.in-Ready.is).0

pub returns-in-Ready : goal.returns-in-Ready
returns-in-Ready c = (
  subst (λ (key : ℕ). Finds c.args.connections.now c.args.expired.now c.args.keys.now (Found.Ready key))
      (sym c.take.ensures.from)
      (expired-ready c.args.connections.now c.args.expired.now c.args.keys.now c.search_keys-found.result c.in-Ready.key
      c.search_keys-found.ensures c.in-Ready.is).1,
  takes-slot c.args.connections.now c.take.new.connections c.take.result c.in-Ready.key c.take.ensures.from
      c.take.ensures.home
      c.take.ensures.waited c.take.ensures.takes c.take.ensures.homes c.take.ensures.others c.take.ensures.returned
      c.take.ensures.stands,
)

pub look_to_take-requires : goal.look_to_take-requires
look_to_take-requires c = λ key at. c.requires.keys.at c.args.last_place.now key (sym c.key_in.ensures ∙ at)

pub returns-in-Ready-look_to_take : goal.returns-in-Ready-look_to_take
returns-in-Ready-look_to_take c = (
  subst (λ (key : ℕ). Finds c.args.connections.now c.args.expired.now c.args.keys.now (Found.Ready key))
      (sym c.take-in-Ready-look_to_take.ensures.from)
      (offer-ready c.args.connections.now c.args.expired.now c.args.keys.now c.search_keys-found.result
      c.look_to_take.result c.key_in.result c.in-Ready-look_to_take.key
      c.search_keys-found.ensures c.in_default.not-Ready (λ key at. (c.args.last_place.now, sym c.key_in.ensures ∙ at))
      c.look_to_take.ensures.offers c.in-Ready-look_to_take.is),
  subst (λ (s : Slab Link). TakesSlot s c.take-in-Ready-look_to_take.result
      c.take-in-Ready-look_to_take.new.connections) c.look_to_take.ensures.same
      (takes-slot c.look_to_take.new.connections c.take-in-Ready-look_to_take.new.connections
      c.take-in-Ready-look_to_take.result c.in-Ready-look_to_take.key c.take-in-Ready-look_to_take.ensures.from
      c.take-in-Ready-look_to_take.ensures.home
      c.take-in-Ready-look_to_take.ensures.waited c.take-in-Ready-look_to_take.ensures.takes
      c.take-in-Ready-look_to_take.ensures.homes c.take-in-Ready-look_to_take.ensures.others
      c.take-in-Ready-look_to_take.ensures.returned c.take-in-Ready-look_to_take.ensures.stands),
)

pub returns-in-Ready-look : goal.returns-in-Ready-look
returns-in-Ready-look c = (
  subst (λ (key : ℕ). Finds c.args.connections.now c.args.expired.now c.args.keys.now (Found.Ready key))
      (sym c.take-in-Ready-look.ensures.from)
      (place-ready c.args.connections.now c.args.expired.now c.args.keys.now c.loop-place.found c.look.result
      c.loop-place.place c.in-Ready-look.key (omega arith)
      c.loop-place.invariant.none c.loop-place.invariant.whole
      (c.look.ensures ∙ ap (λ (s : Slab Link). offer_at s (get_or c.args.keys.now c.loop-place.place None))
      c.loop-place.invariant.same) c.in-Ready-look.is).1,
  subst (λ (s : Slab Link). TakesSlot s c.take-in-Ready-look.result c.take-in-Ready-look.new.connections)
      c.loop-place.invariant.same
      (takes-slot c.loop-place.connections c.take-in-Ready-look.new.connections c.take-in-Ready-look.result
      c.in-Ready-look.key c.take-in-Ready-look.ensures.from c.take-in-Ready-look.ensures.home
      c.take-in-Ready-look.ensures.waited c.take-in-Ready-look.ensures.takes c.take-in-Ready-look.ensures.homes
      c.take-in-Ready-look.ensures.others c.take-in-Ready-look.ensures.returned c.take-in-Ready-look.ensures.stands),
)

pub returns-in-AtLimit-found : goal.returns-in-AtLimit-found
returns-in-AtLimit-found c = (
  refl,
  subst (Finds c.args.connections.now c.args.expired.now c.args.keys.now) c.in-AtLimit-found.is
      (search-ended c.args.connections.now c.args.expired.now c.args.keys.now c.loop-place.found c.loop-place.place
      (omega arith) c.loop-place.invariant.whole),
  c.loop-place.invariant.same,
)

pub returns-in_default-found : goal.returns-in_default-found
returns-in_default-found c = (
  subst (Finds c.args.connections.now c.args.expired.now c.args.keys.now)
      (found-nothing c.loop-place.found c.loop-place.invariant.none c.in_default-found.not-AtLimit)
      (search-ended c.args.connections.now c.args.expired.now c.args.keys.now c.loop-place.found c.loop-place.place
      (omega arith) c.loop-place.invariant.whole),
  c.loop-place.invariant.same,
)
