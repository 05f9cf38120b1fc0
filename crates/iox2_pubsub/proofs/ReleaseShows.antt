-- A release, seen from outside.
use Rattle.std.proofs.Common.{◌≡◌, ℕ, Bool, true, false, cond, refl, sym, subst}
use Rattle.iox2_machine.specs.machine.Mailbox.{is_borrowed}
use Rattle.iox2_machine.specs.machine.Releases.{is_unused, place_freed, unborrowed, subscriber_pruned, released}
use Rattle.iox2_machine.specs.machine.State.{State, Messages}
use Rattle.iox2_domain.specs.Kept.{Kept, state_of}
use Rattle.iox2_domain.specs.Boxes.{DomainBoxes}
use Rattle.iox2_domain.specs.Fields.{Fields, kept_of, keeping}
use Rattle.iox2_domain.specs.Reaches.{Reaches}
use Rattle.iox2_domain.specs.Shows.{Shows}
use Rattle.iox2_domain.proofs.lemmas.fields.ReachesShows.{reaches-shows-same}

module _ {T U : Type 0} where
  -- a release touches neither loans nor the counter of messages
  released-rest : (s : State T U) (p q n : ℕ)
      → ((released s p q n).next_message ≡ s.next_message) × ((released s p q n).loans ≡ s.loans)
  released-rest s p q n = by (is_unused (subscriber_pruned (unborrowed s p q n) q) q) where
    by : (b : Bool)
        → ((cond b (place_freed (subscriber_pruned (unborrowed s p q n) q) q)
        (subscriber_pruned (unborrowed s p q n) q)).next_message ≡ s.next_message)
        × ((cond b (place_freed (subscriber_pruned (unborrowed s p q n) q) q)
        (subscriber_pruned (unborrowed s p q n) q)).loans ≡ s.loans)
    by true = (refl, refl)
    by false = (refl, refl)

  -- the domain shows the released state, with the same messages, whoever the message is borrowed from
  pub release-shows : {F G : Type 0} {boxes : DomainBoxes F G} (kept : Kept T U F G) (f g : Fields T U)
      → keeping boxes f ≡ kept → (q n : ℕ)
      → ((p : ℕ) → is_borrowed n ((state_of (kept_of f)).mailboxes p q) ≡ true
      → Reaches f g (released (state_of (kept_of f)) p q n))
      → (m : Messages T U) (s : State T U) → Shows kept m s → (p : ℕ) → is_borrowed n (s.mailboxes p q) ≡ true
      → (s' : State T U) × Shows (kept_of g) m s' × (s' ≡ released s p q n)
  release-shows {F} {G} kept f g same q n reaches m s shown p borrowed =
      let here : Shows (kept_of f) m s = subst (λ (k : Kept T U F G). Shows k m s) (sym same) shown in
      let state : s ≡ state_of (kept_of f) = here.state in
      let reached_from : Reaches f g (released s p q n) =
      subst (λ (u : State T U). Reaches f g (released u p q n)) (sym state)
      (reaches p (subst (λ (u : State T U). is_borrowed n (u.mailboxes p q) ≡ true) state borrowed)) in (
        released s p q n,
        reaches-shows-same f g m s (released s p q n) here reached_from (released-rest s p q n).0
            (released-rest s p q n).1,
        refl,
      )
