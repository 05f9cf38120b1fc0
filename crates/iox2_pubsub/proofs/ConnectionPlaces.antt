-- Laws that callers' proofs may cite: the place of a connection is its subscriber's, so that all calls keep it that
-- keep the connection.
use Rattle.std.proofs.Common.{◌≡◌, ℕ, zero, suc, ◌+◌, Bool, true, false, List, [], ◌∷◌, refl, sym, ap, subst, arith}
use Rattle.std.proofs.Common.{◌∙◌, Option, None, Some}
use Rattle.std.specs.Prelude.{if◌then◌else◌}
use Rattle.std.specs.Option.{option_and_then}
use Rattle.std.proofs.lemmas.Option.{none-some}
use Rattle.iox2_machine.specs.machine.ChannelCalls.{connection_place, place_from}
use Rattle.iox2_machine.specs.machine.Places.{is_port, occupant}
use Rattle.iox2_machine.specs.machine.Records.{Publisher}
use Rattle.iox2_machine.specs.machine.State.{State}
use Rattle.iox2_laws.proofs.PlaceLemmas.{is_port-false}
use Rattle.iox2_domain.specs.Kept.{Kept, state_of}
use Rattle.iox2_pubsub.specs.ConnectedPorts.{Connects}
use Rattle.iox2_pubsub.specs.Live.{IsAtConnection, IsConnected, IsConsistent, IsLiveSubscriber, IsOtherSubscriber, Item}
use Rattle.iox2_pubsub.specs.Live.{StaysBut, UpToDateStay, subscriber_key}
use Rattle.iox2_pubsub.specs.declared.subscriber.Subscriber.{Subscriber}
use Rattle.iox2_pubsub.proofs.ConnectionServes.{connection-is, connection-parts, place-is}
use Rattle.iox2_pubsub.proofs.ForCallers.{shows_some, well}
use Rattle.iox2_pubsub.proofs.LiveParts.{placed-subscriber-parts, subscriber-parts}
use Rattle.iox2_pubsub.proofs.UpToDateShown.{connected-in}

-- an end to the receiver has a place
place-found : (ends : List (Option ℕ)) (q k i : ℕ) → occupant ends i ≡ Some q
    → (place : ℕ) × (place_from k ends q ≡ Some place)
place-found [] q k i at = absurd (none-some q at)
place-found (end ∷ rest) q k i at = by (λ j there. place-found rest q (suc k) j there) i at (is_port end q) refl where
  by : ((j : ℕ) → occupant rest j ≡ Some q → (place : ℕ) × (place_from (suc k) rest q ≡ Some place)) → (i : ℕ)
      → occupant (end ∷ rest) i ≡ Some q → (b : Bool) → is_port end q ≡ b
      → (place : ℕ) × (place_from k (end ∷ rest) q ≡ Some place)
  by later i at true e = (k, ap (λ (b : Bool). if b then Some k else place_from (suc k) rest q) e)
  by later zero at false e = absurd (is_port-false end q e at)
  by later (suc j) at false e =
      let behind = later j at in
      (behind.0, ap (λ (b : Bool). if b then Some k else place_from (suc k) rest q) e ∙ behind.1)

module _ {T U F G : Type 0} (domain : Kept T U F G) (consistent : IsConsistent domain) (publisher : ℕ)
    (subscriber : Subscriber) (live : IsLiveSubscriber domain subscriber) where
  abbrev s : State T U
  s = state_of domain

  -- the place that is told of a connection is its subscriber's
  pub at_its_place : (connection : ℕ) → IsAtConnection domain publisher connection subscriber
      → connection ≡ subscriber.place
  at_its_place connection at =
      by (s.publishers publisher) refl
      (connection-parts domain publisher connection subscriber at)
    where
      by : (o : Option Publisher) → s.publishers publisher ≡ o
          → connection_place s publisher subscriber.id ≡ Some connection → connection ≡ subscriber.place
      by None e told = absurd (none-some connection
          (sym (ap (option_and_then (λ (x : Publisher). place_from 0 x.ends subscriber.id)) e) ∙ told))
      by (Some x) e told =
          let found = place-is x.ends subscriber.id 0 connection
          (sym (ap (option_and_then (λ (x : Publisher). place_from 0 x.ends subscriber.id)) e) ∙ told) in
          let there = (subscriber-parts domain (subscriber_key subscriber) live.there).2 in
          let place : there.0.place ≡ found.0 =
          ((well domain consistent).publishers publisher x e).ends_stand found.0 subscriber.id there.0 found.2
          there.1 in
          let own : there.0.place ≡ subscriber.place =
          (placed-subscriber-parts domain subscriber live.placed).1 there.0 there.1 in
          let told_at : connection ≡ 0 + found.0 = found.1 in
          omega (arith, place, own, told_at)

  -- and one that is connected has its connection there
  pub connected_at_its_place : IsConnected domain publisher subscriber
      → IsAtConnection domain publisher subscriber.place subscriber
  connected_at_its_place is =
      let shown = shows_some domain consistent in
      let c : Connects s publisher subscriber.id =
      connected-in domain shown.0 s shown.1 publisher subscriber is in
      let found = place-found (c.publisher).ends subscriber.id 0 c.sends.0 c.sends.1 in
      let at : IsAtConnection domain publisher found.0 subscriber =
      connection-is domain publisher found.0 subscriber
      (ap (option_and_then (λ (x : Publisher). place_from 0 x.ends subscriber.id)) c.stands ∙ found.1) in
      subst (λ (place : ℕ). IsAtConnection domain publisher place subscriber) (at_its_place found.0 at) at

-- a call that keeps the connection and its subscriber keeps its place
pub connection_stays : {T U F G : Type 0} (spent : Item) (old new : Kept T U F G) → IsConsistent old
    → StaysBut spent old new → UpToDateStay old new → (publisher connection : ℕ) (subscriber : Subscriber)
    → IsOtherSubscriber spent subscriber.id → IsLiveSubscriber old subscriber → IsConnected old publisher subscriber
    → IsAtConnection old publisher connection subscriber → IsAtConnection new publisher connection subscriber
connection_stays spent old new consistent stays stay publisher connection subscriber other live is at =
    let still : IsLiveSubscriber new subscriber = record {
      there = stays.subscribers (subscriber_key subscriber) live.there other;
      placed = stays.placed_subscribers subscriber live.placed;
    } in
    subst (λ (place : ℕ). IsAtConnection new publisher place subscriber)
    (sym (at_its_place old consistent publisher subscriber live connection at))
    (connected_at_its_place new (stays.consistent consistent) publisher subscriber still
    (stay.connections publisher subscriber is))
