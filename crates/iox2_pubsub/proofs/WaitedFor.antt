-- The subscriber that a blocked send waits for, in a state that its domain shows.
use Rattle.std.proofs.Common.{◌≡◌, ◌∙◌, ℕ, None, Some, ap, sym}
use Rattle.std.specs.Prelude.{slice_index_or}
use Rattle.std.specs.Option.{option_and_then}
use Rattle.iox2_machine.specs.machine.ChannelCalls.{receiver_at}
use Rattle.iox2_machine.specs.machine.Places.{occupant}
use Rattle.iox2_machine.specs.machine.Records.{BlockedSend, Publisher}
use Rattle.iox2_machine.specs.machine.State.{State, Messages}
use Rattle.iox2_domain.specs.Boxes.{DomainBoxes}
use Rattle.iox2_domain.specs.Fields.{Fields, kept_of, keeping}
use Rattle.iox2_domain.specs.Invariant.{IsDomain}
use Rattle.iox2_domain.specs.Kept.{Kept, state_of}
use Rattle.iox2_domain.specs.Ports.{PublisherFields}
use Rattle.iox2_domain.specs.Shows.{Shows}
use Rattle.iox2_domain.specs.declared.publisher_state.BlockedDelivery.{BlockedDelivery}
use Rattle.iox2_pubsub.specs.BlockedSends.{waits_for}
use Rattle.iox2_pubsub.specs.Live.{IsBlockedSend}
use Rattle.iox2_pubsub.specs.declared.blocked_send.BlockedSend.{BlockedSend as Handle}
use Rattle.iox2_pubsub.proofs.WaitingSends.{blocked-inside, delivery-there}

module _ {T U F G : Type 0} {boxes : DomainBoxes F G} (f : Fields T U) (sound : IsDomain f) (kept : Kept T U F G)
    (view : keeping boxes f ≡ kept) (blocked : Handle) (live : IsBlockedSend kept blocked) (place : ℕ)
    (found : (x : PublisherFields) × (slice_index_or f.publishers place None ≡ Some x)
    × (x.id ≡ blocked.loan.publisher)) (q : ℕ)
    (told : (x : PublisherFields) (b : BlockedDelivery) → slice_index_or f.publishers place None ≡ Some x
    → x.blocked ≡ Some b → receiver_at (state_of (kept_of f)) x.id (b.progress).place ≡ Some q) where
  -- whom the step tells, the machine's send waits for
  pub waits-for-it : (m : Messages T U) (s : State T U) → Shows kept m s → waits_for s blocked.loan.publisher ≡ Some q
  waits-for-it m s shown =
      let p = blocked.loan.publisher in
      let held = blocked-inside f sound kept view blocked live in
      let it = delivery-there f sound kept view blocked live place found in
      let there : receiver_at (state_of (kept_of f)) p (held.1).place ≡ Some q =
      ap (λ (r : ℕ). receiver_at (state_of (kept_of f)) r (held.1).place) (sym found.2)
      ∙ ap (λ (b : BlockedSend). receiver_at (state_of (kept_of f)) (found.0).id b.place) (sym it.2)
      ∙ told found.0 it.0 found.1 it.1 in
      ap (λ (t : State T U). waits_for t p) (shown.state ∙ ap state_of (sym view))
      ∙ ap (option_and_then
      (λ (x : Publisher). option_and_then (λ (b : BlockedSend). occupant x.ends b.place) x.blocked)) held.2
      ∙ ap (option_and_then (λ (b : BlockedSend). occupant (held.0).ends b.place)) held.3
      ∙ sym (ap (option_and_then (λ (x : Publisher). occupant x.ends (held.1).place)) held.2)
      ∙ there
