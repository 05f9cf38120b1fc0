-- Laws that callers' proofs may cite: who took a message, and how many.
use Rattle.std.proofs.Common.{◌≡◌, ℕ, suc, ◌<◌, ◌≤◌, Bool, List, [], ◌∷◌, ◌++◌, drop, length, sym, ap, subst, ◌∙◌}
use Rattle.std.proofs.Common.{arith, inl, inr, ⊎_elim}
use Rattle.std.specs.Bool.{MatchBool}
use Rattle.iox2_domain.specs.Kept.{Kept}
use Rattle.iox2_pubsub.specs.Counts.{Counts, HasMissed, HasTaken, HaveTaken}
use Rattle.iox2_pubsub.specs.Live.{IsServed, Overflows, payloads_from}
use Rattle.iox2_pubsub.specs.RoomyPublishers.{HasRoomAtEach}
use Rattle.iox2_pubsub.specs.declared.subscriber.Subscriber.{Subscriber}

module _ {T U F G : Type 0} (old new : Kept T U F G) (publisher : ℕ) (values : List T) where
  -- who took a message was served
  pub taken_is_served : (subscriber : Subscriber) → HasTaken old new publisher values subscriber
      → IsServed old new publisher subscriber values
  unfolding HasTaken IsServed
  taken_is_served subscriber taken =
      ⊎_elim
      (λ came. inl came)
      (λ full. inr (
        full.1,
        subst (λ (b : Bool). MatchBool b
            (payloads_from new publisher subscriber ≡ drop 1 (payloads_from old publisher subscriber) ++ values ∷ [])
            (payloads_from new publisher subscriber ≡ payloads_from old publisher subscriber)) (sym full.0) full.2,
        full.3,
      ))
      taken

  -- a service that overflows passes nobody
  missed-overflows : (subscriber : Subscriber) → Overflows old → HasMissed old new publisher values subscriber → ⊥
  unfolding HasMissed
  missed-overflows subscriber over missed = missed.0 over

  -- nor is one passed that has room
  missed-room : (subscriber : Subscriber) (others : List Subscriber) → HasRoomAtEach old publisher (subscriber ∷ others)
      → HasMissed old new publisher values subscriber → ⊥
  unfolding HasMissed
  missed-room subscriber others each missed =
      let full : subscriber.buffer_size ≤ length (payloads_from old publisher subscriber) =
      (missed.1).full (each.0).buffer in
      let room : length (payloads_from old publisher subscriber) < subscriber.buffer_size = (each.0).room in
      omega (arith, full, room)

  -- so where it overflows, all of them took the message
  pub all_taken_overflowing : Overflows old → (subscribers : List Subscriber) (taken : ℕ)
      → HaveTaken old new publisher values subscribers taken → taken ≡ length subscribers
  all_taken_overflowing over [] taken took = took
  all_taken_overflowing over (subscriber ∷ others) taken took =
      ⊎_elim
      (λ it.
      let rest : it.1 ≡ length others = all_taken_overflowing over others it.1 it.3 in
      it.2 ∙ ap suc rest)
      (λ it. absurd (missed-overflows subscriber over it.0))
      took

  -- and where each has room
  pub all_taken_with_room : (subscribers : List Subscriber) → HasRoomAtEach old publisher subscribers → (taken : ℕ)
      → HaveTaken old new publisher values subscribers taken → taken ≡ length subscribers
  all_taken_with_room [] each taken took = took
  all_taken_with_room (subscriber ∷ others) each taken took =
      ⊎_elim
      (λ it.
      let rest : it.1 ≡ length others = all_taken_with_room others each.1 it.1 it.3 in
      it.2 ∙ ap suc rest)
      (λ it. absurd (missed-room subscriber others each it.0))
      took

  -- so a send counts all of them, if they are as many as the domain allows
  pub counts_all_overflowing : Overflows old → (subscribers : List Subscriber)
      → (old.config).max_subscribers ≤ length subscribers → (count : ℕ)
      → Counts old new publisher values subscribers count
      → count ≡ length subscribers
  counts_all_overflowing over subscribers full count counts =
      counts.exactly full ∙ all_taken_overflowing over subscribers counts.taken counts.took

  pub counts_all_with_room : (subscribers : List Subscriber) → HasRoomAtEach old publisher subscribers
      → (old.config).max_subscribers ≤ length subscribers → (count : ℕ)
      → Counts old new publisher values subscribers count
      → count ≡ length subscribers
  counts_all_with_room subscribers each full count counts =
      counts.exactly full ∙ all_taken_with_room subscribers each counts.taken counts.took
