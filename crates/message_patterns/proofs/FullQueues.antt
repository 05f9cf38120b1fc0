-- A push that waits found the one subscriber full.
use Rattle.std.proofs.Common.{◌≡◌, ℕ, ◌<◌, ◌≤◌, Bool, true, false, List, length, refl, ap, ◌∙◌, arith, nat_lt}
use Rattle.std.proofs.lemmas.Bool.{ltb-false, ltb-true}
use Rattle.iox2_pubsub.specs.Domains.{Kept}
use Rattle.iox2_pubsub.specs.Live.{HasItsBuffer, IsConnected, payloads_from, waiting}
use Rattle.iox2_pubsub.specs.RoomyPublishers.{HasRoomAlone}
use Rattle.iox2_pubsub.specs.declared.subscriber.Subscriber.{Subscriber}
use Rattle.iox2_pubsub.proofs.ForCallers.{length_singles}
use Rattle.message_patterns.specs.Values.{Wait}

module _ {U F G : Type 0} (old new : Kept ℕ U F G) (publisher : ℕ) (subscriber : Subscriber) (earlier : List ℕ) where
  -- where there is no room, as many wait as the buffer takes
  no-room : (old.config).max_subscribers ≡ 1 → IsConnected old publisher subscriber → HasItsBuffer old subscriber
      → Wait old publisher subscriber earlier → (HasRoomAlone old publisher subscriber → ⊥)
      → subscriber.buffer_size ≤ length earlier
  no-room one joined its wait none = by (nat_lt (length earlier) subscriber.buffer_size) refl where
    by : (b : Bool) → nat_lt (length earlier) subscriber.buffer_size ≡ b → subscriber.buffer_size ≤ length earlier
    by true e =
        let few : length earlier < subscriber.buffer_size = ltb-true _ _ e in
        let long : length (payloads_from old publisher subscriber) ≡ length earlier =
        ap length wait.from ∙ length_singles earlier in
        absurd (none (record { alone = one; connected = joined; buffer = its; room = omega (arith, few, long) }))
    by false e = ltb-false _ _ e

  -- so something waits
  pub some-waits : (old.config).max_subscribers ≡ 1 → IsConnected old publisher subscriber → HasItsBuffer old subscriber
      → 0 < subscriber.buffer_size → Wait old publisher subscriber earlier
      → (HasRoomAlone old publisher subscriber → ⊥) → Wait new publisher subscriber earlier → waiting new subscriber ≡ 0
      → ⊥
  some-waits one joined its holds wait none still nothing =
      let full : subscriber.buffer_size ≤ length earlier = no-room one joined its wait none in
      let long : waiting new subscriber ≡ length earlier = ap length still.all ∙ length_singles earlier in
      omega (arith, full, holds, long, nothing)
