-- What closes no channel: a reset, and each step that leaves channels alone.
use Rattle.std.proofs.Common.{◌≡◌, ℕ, Bool, true, false, cond, refl, ap, subst, ◌∙◌, inl, inr}
use Rattle.std.proofs.lemmas.Bool.{cases_eq, ne_eqb}
use Rattle.iox2_machine.specs.machine.Channel.{Channel, is_closed, new_channels}
use Rattle.iox2_machine.specs.machine.Numbers.{put_at}
use Rattle.iox2_machine.specs.machine.State.{State, is_linked, channels_if_linked, sender_channels_reset}
use Rattle.iox2_machine.specs.machine.State.{receiver_channels_reset}
use Rattle.iox2_laws.proofs.Puts.{put_at-same, put_at-other}
use Rattle.iox2_pubsub.specs.ConnectedPorts.{Connects}

module _ {T U : Type 0} (t : State T U) (i p q : ℕ) (takes : is_closed (t.channels p q 0) ≡ false) where
  -- a channel of ports that aren't linked is new
  linked : (b : Bool) → is_closed (cond b (t.channels p q) new_channels 0) ≡ false
  linked true = takes
  linked false = refl

  -- a publisher's channels are reset
  pub sender-reset-takes : is_closed ((sender_channels_reset t i).channels p q 0) ≡ false
  sender-reset-takes = elim (cases_eq p i) [
    | inl here ↦ subst (λ k. is_closed (put_at t.channels k (channels_if_linked t k) p q 0) ≡ false) here
        (ap (λ (row : ℕ → ℕ → Channel). is_closed (row q 0)) (put_at-same t.channels p (channels_if_linked t p))
        ∙ linked (is_linked t p q))
    | inr away ↦ ap (λ (row : ℕ → ℕ → Channel). is_closed (row q 0))
        (put_at-other t.channels i (channels_if_linked t i) p (ne_eqb p i away)) ∙ takes
  ]

  -- a subscriber's
  pub receiver-reset-takes : is_closed ((receiver_channels_reset t i).channels p q 0) ≡ false
  receiver-reset-takes = elim (cases_eq q i) [
    | inl here ↦ subst (λ k. is_closed (put_at (t.channels p) k (channels_if_linked t p k) q 0) ≡ false) here
        (ap (λ (channels : ℕ → Channel). is_closed (channels 0))
        (put_at-same (t.channels p) q (channels_if_linked t p q)) ∙ linked (is_linked t p q))
    | inr away ↦ ap (λ (channels : ℕ → Channel). is_closed (channels 0))
        (put_at-other (t.channels p) i (channels_if_linked t p i) q (ne_eqb q i away)) ∙ takes
  ]

-- who is connected stays so where the two ports stay and their channel is open
pub still-connects : {T U : Type 0} (s s' : State T U) (p q : ℕ) (c : Connects s p q) → s'.publishers p ≡ s.publishers p
    → s'.subscribers q ≡ s.subscribers q → is_closed (s'.channels p q 0) ≡ false
    → Connects s' p q
still-connects s s' p q c publisher subscriber takes = record {
  publisher = c.publisher;
  stands = publisher ∙ c.stands;
  sends = c.sends;
  subscriber = c.subscriber;
  there = subscriber ∙ c.there;
  receives = c.receives;
  takes = takes;
}

module _ {T U : Type 0} (t : State T U) (i p q : ℕ) (c : Connects t p q) where
  pub sender-reset-connects : Connects (sender_channels_reset t i) p q
  sender-reset-connects =
      still-connects t (sender_channels_reset t i) p q c refl refl (sender-reset-takes t i p q c.takes)

  pub receiver-reset-connects : Connects (receiver_channels_reset t i) p q
  receiver-reset-connects =
      still-connects t (receiver_channels_reset t i) p q c refl refl (receiver-reset-takes t i p q c.takes)
