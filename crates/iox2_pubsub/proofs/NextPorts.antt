-- The channels of a port that isn't made yet aren't closed.
use Rattle.std.proofs.Common.{◌≡◌, ℕ, ◌<◌, true, false, refl, ap, subst, ◌∙◌, arith, Option, None, Some, inl, inr}
use Rattle.std.proofs.lemmas.Bool.{or_cases}
use Rattle.std.specs.Option.{option_map_or}
use Rattle.iox2_machine.specs.machine.Channel.{Channel, is_closed}
use Rattle.iox2_machine.specs.machine.Numbers.{contains}
use Rattle.iox2_machine.specs.machine.Places.{occupants}
use Rattle.iox2_machine.specs.machine.Records.{Publisher, Subscriber}
use Rattle.iox2_machine.specs.machine.State.{State, connected_publishers, is_linked}
use Rattle.iox2_laws.proofs.NumberLemmas.{contains_in_append}
use Rattle.iox2_laws.proofs.PlaceLemmas.{leads_to}
use Rattle.iox2_domain.specs.Boxes.{DomainBoxes}
use Rattle.iox2_domain.specs.Fields.{Fields, kept_of, keeping}
use Rattle.iox2_domain.specs.Invariant.{IsDomain}
use Rattle.iox2_domain.specs.Kept.{Kept, state_of}
use Rattle.iox2_domain.proofs.lemmas.fields.KeptChannels.{channels-are}
use Rattle.iox2_steps.proofs.updates.FollowedChannels.{none-new}
use Rattle.iox2_steps.proofs.updates.ResetChannels.{linked-there}

module _ {T U : Type 0} (f : Fields T U) (sound : IsDomain f) where
  abbrev s : State T U
  s = state_of (kept_of f)

  -- ports that are linked were made
  known : (p q : ℕ) → is_linked s p q ≡ true → (p < s.next_port) × (q < s.next_port)
  known p q linked = elim (or_cases _ _ linked) [
    | inl sends ↦ from_sender (s.publishers p) refl sends
    | inr receives ↦
        from_receiver (s.subscribers q) refl receives
  ] where
    from_sender : (o : Option Publisher) → s.publishers p ≡ o → option_map_or
        (λ (x : Publisher). contains (occupants x.ends) q) o false ≡ true → (p < s.next_port) × (q < s.next_port)
    from_sender None e h = absurd (let no : false ≡ true = h in cc)
    from_sender (Some x) e h = let w = sound.well_formed.publishers p x e in
        (w.is_known, w.ends_known q (leads_to x.ends q h))

    from_receiver : (o : Option Subscriber) → s.subscribers q ≡ o
        → option_map_or (λ (y : Subscriber). contains (connected_publishers y) p) o false ≡ true
        → (p < s.next_port) × (q < s.next_port)
    from_receiver None e h = absurd (let no : false ≡ true = h in cc)
    from_receiver (Some y) e h =
        let w = sound.well_formed.subscribers q y e in (
          elim (contains_in_append y.expired (occupants y.ends) p h)
              [ inl left ↦ w.expired_known p left | inr ends ↦ w.ends_known p (leads_to y.ends p ends) ],
          w.is_known,
        )

  -- those of ports that aren't linked are new
  unlinked-takes : (p q : ℕ) → (is_linked s p q ≡ true → ⊥) → is_closed (s.channels p q 0) ≡ false
  unlinked-takes p q apart =
      ap (λ (channels : ℕ → ℕ → ℕ → Channel). is_closed (channels p q 0)) (channels-are f)
      ∙ ap (λ (channels : ℕ → Channel). is_closed (channels 0)) (none-new f.connections p q (λ key c at mine yours.
      apart (subst (λ r. is_linked s r q ≡ true) mine
      (subst (λ r. is_linked s c.home.publisher r ≡ true) yours (linked-there f sound.parts key c at)))))

  sender-takes : (q : ℕ) → is_closed (s.channels s.next_port q 0) ≡ false
  sender-takes q = unlinked-takes s.next_port q
      (λ linked. let low : s.next_port < s.next_port = (known s.next_port q linked).0 in omega (arith, low))

  receiver-takes : (p : ℕ) → is_closed (s.channels p s.next_port 0) ≡ false
  receiver-takes p = unlinked-takes p s.next_port
      (λ linked. let low : s.next_port < s.next_port = (known p s.next_port linked).1 in omega (arith, low))

module _ {T U F G : Type 0} {boxes : DomainBoxes F G} (f : Fields T U) (kept : Kept T U F G) (sound : IsDomain f)
    (view : keeping boxes f ≡ kept) where
  -- of the next port, where it is a publisher
  pub next-sender-takes : (q : ℕ) → is_closed ((state_of kept).channels (state_of kept).next_port q 0) ≡ false
  next-sender-takes q = subst (λ (k : Kept T U F G).
      is_closed ((state_of k).channels (state_of k).next_port q 0) ≡ false) view (sender-takes f sound q)

  -- and a subscriber
  pub next-receiver-takes : (p : ℕ) → is_closed ((state_of kept).channels p (state_of kept).next_port 0) ≡ false
  next-receiver-takes p = subst (λ (k : Kept T U F G).
      is_closed ((state_of k).channels p (state_of k).next_port 0) ≡ false) view (receiver-takes f sound p)
