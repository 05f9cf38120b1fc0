-- What a port is told of its channels, in the words of the state that its domain shows.
use Rattle.std.proofs.Common.{◌≡◌, ℕ, get_or, None, Some, ap, sym, ◌∙◌}
use Rattle.iox2_machine.specs.machine.State.{State, Messages}
use Rattle.iox2_domain.specs.Boxes.{DomainBoxes}
use Rattle.iox2_domain.specs.Fields.{Fields, kept_of, keeping}
use Rattle.iox2_domain.specs.Invariant.{IsDomain}
use Rattle.iox2_domain.specs.Kept.{Kept, state_of}
use Rattle.iox2_domain.specs.Ports.{PublisherFields}
use Rattle.iox2_domain.specs.Shows.{Shows}
use Rattle.iox2_pubsub.specs.Live.{IsPlacedPublisher, IsPublisherKey, publisher_key}
use Rattle.iox2_pubsub.specs.declared.publisher.Publisher.{Publisher}
use Rattle.iox2_pubsub.proofs.PlacedHandles.{publisher-there}

module _ {T U F G : Type 0} {boxes : DomainBoxes F G} (f : Fields T U) (kept : Kept T U F G)
    (view : keeping boxes f ≡ kept) where
  -- an answer of the fields is one of the state that is shown
  pub shown-answer : {A : Type 0} (answer : State T U → A) (result : A) → result ≡ answer (state_of (kept_of f))
      → (m : Messages T U) (s : State T U) → Shows kept m s → result ≡ answer s
  shown-answer answer result is m s shown =
      is ∙ ap (λ (k : Kept T U F G). answer (state_of k)) view ∙ ap answer (sym shown.state)

  -- and one of the record at a publisher's place is one of that publisher
  pub publisher-answer : IsDomain f → (it : Publisher) → IsPublisherKey kept (publisher_key it)
      → IsPlacedPublisher kept it → {A : Type 0} → (answer : State T U → ℕ → A) (result : A)
      → ((x : PublisherFields) → get_or f.publishers it.place None ≡ Some x
      → result ≡ answer (state_of (kept_of f)) x.id) → (m : Messages T U) (s : State T U) → Shows kept m s
      → result ≡ answer s it.id
  publisher-answer sound it there placed answer result is =
      let at = publisher-there f sound kept view it there placed in
      shown-answer (λ s. answer s it.id) result (is at.0 at.1 ∙ ap (answer (state_of (kept_of f))) at.2)
