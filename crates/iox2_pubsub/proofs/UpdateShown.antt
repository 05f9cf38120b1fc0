-- A step that moves no message, seen from outside: an update by call.
use Rattle.std.proofs.Common.{◌≡◌, ◌≤◌, ℕ, get_or, ap, sym, subst, ◌∙◌, Option, Some, None}
use Rattle.iox2_machine.specs.machine.Records.{Environment}
use Rattle.iox2_machine.specs.machine.PublisherUpdate.{UpdatePublisher}
use Rattle.iox2_machine.specs.machine.SubscriberUpdate.{UpdateSubscriber}
use Rattle.iox2_machine.specs.machine.State.{State, Messages}
use Rattle.iox2_laws.proofs.LoanKeeping.{update_publisher_loans, update_subscriber_loans}
use Rattle.iox2_laws.proofs.PublisherUpdates.{update_publisher_advances}
use Rattle.iox2_laws.proofs.SubscriberUpdates.{update_subscriber_advances}
use Rattle.iox2_domain.specs.ReceiverSteps.{UpdatesReceiver}
use Rattle.iox2_domain.specs.Boxes.{DomainBoxes}
use Rattle.iox2_domain.specs.Fields.{Fields, kept_of, keeping}
use Rattle.iox2_domain.specs.Kept.{Kept, state_of}
use Rattle.iox2_domain.specs.Ports.{PublisherFields, SubscriberFields}
use Rattle.iox2_domain.specs.Reaches.{Reaches}
use Rattle.iox2_domain.specs.Shows.{Shows}
use Rattle.iox2_machine.specs.declared.errors.ConnectionFailure.{ConnectionFailure}
use Rattle.iox2_domain.proofs.lemmas.fields.ReachesShows.{reaches-shows, reaches-then}
use Rattle.iox2_domain.proofs.lemmas.receives.Reception.{updated-reaches}
use Rattle.iox2_messages.specs.CatchingUp.{CatchesUp}

-- what a publisher that catches up comes to
pub caught-up-reaches : {T U : Type 0} (environment : Environment) (f g : Fields T U) (place : ℕ) (x : PublisherFields)
    (failure : Option ConnectionFailure)
    → (u : CatchesUp environment f place x g failure) → Reaches f g u.updates.after
caught-up-reaches environment f g place x failure u = reaches-then f u.middle g _ _ u.reaches u.updates.reaches

module _ {T U F G : Type 0} {boxes : DomainBoxes F G} (kept : Kept T U F G) (f g : Fields T U)
    (view : keeping boxes f ≡ kept) where
  -- In each state that the domain showed such a step is made, and shown with the same messages.
  abbrev pub ShowsStep : (State T U → State T U → Type 0) → Type 0
  ShowsStep Step =
      (m : Messages T U) (s : State T U) → Shows kept m s → (s' : State T U) × Shows (kept_of g) m s' × Step s s'

  -- so it is with one that makes no message and leaves the loans
  pub step-shows : (Step : State T U → State T U → Type 0)
      → ((s t : State T U) → Step s t → (s.next_message ≤ t.next_message) × (t.loans ≡ s.loans))
      → (t : State T U) → Reaches f g t → Step (state_of (kept_of f)) t → ShowsStep Step
  step-shows Step keeps t reached h m s shown =
      let here : Shows (kept_of f) m s = subst (λ (k : Kept T U F G). Shows k m s) (sym view) shown in
      let step : Step s t = subst (λ (u : State T U). Step u t) (sym here.state) h in
      let same = keeps s t step in (
        t,
        reaches-shows f g m s t here reached same.0 (λ n l at. here.unsent n l (ap (λ all. all n) (sym same.1) ∙ at)),
        step,
      )

  module _ (environment : Environment) (place id : ℕ) (failure : Option ConnectionFailure) where
    -- with a publisher's update
    pub publisher-update-shows : (x : PublisherFields) × (get_or f.publishers place None ≡ Some x) × (x.id ≡ id)
        → ((x : PublisherFields) → get_or f.publishers place None ≡ Some x → CatchesUp environment f place x g failure)
        → ShowsStep (λ s s'. UpdatePublisher environment s id s' failure)
    publisher-update-shows found updates =
        let u = updates found.0 found.1 in
        step-shows (λ s t. UpdatePublisher environment s id t failure)
        (λ s t h. (
          (update_publisher_advances environment s id t failure h).next_message,
          update_publisher_loans environment s id t failure h,
        )) u.updates.after (caught-up-reaches environment f g place found.0 failure u)
        (subst (λ (p : ℕ). UpdatePublisher environment (state_of (kept_of f)) p u.updates.after failure) found.2
        (subst (λ (s : State T U). UpdatePublisher environment s (found.0).id u.updates.after failure) u.reaches.state
        u.updates.updates))

    -- and a subscriber's
    pub subscriber-update-shows : (y : SubscriberFields) × (get_or f.subscribers place None ≡ Some y) × (y.id ≡ id)
        → ((y : SubscriberFields) → get_or f.subscribers place None ≡ Some y
        → UpdatesReceiver environment f place y g failure)
        → ShowsStep (λ s s'. UpdateSubscriber environment s id s' failure)
    subscriber-update-shows found updates =
        let u = updates found.0 found.1 in
        step-shows (λ s t. UpdateSubscriber environment s id t failure)
        (λ s t h. (
          (update_subscriber_advances environment s id t failure h).next_message,
          update_subscriber_loans environment s id t failure h,
        )) (state_of (kept_of g))
        (updated-reaches environment f g place found.0 failure u)
        (subst (λ (q : ℕ). UpdateSubscriber environment (state_of (kept_of f)) q (state_of (kept_of g)) failure) found.2
        u.updates)
