-- A receive, seen from outside.
use Rattle.std.proofs.Common.{◌≡◌, ℕ, true, get_or, ap, sym, subst, ◌∙◌, Option, Some, None, Result, Ok, Err}
use Rattle.std.specs.Prelude.{IsErrAnd}
use Rattle.iox2_machine.specs.machine.Mailbox.{is_borrowed}
use Rattle.iox2_machine.specs.machine.Receives.{ReceiveResult, Got_sample, Receive_error, Receive}
use Rattle.iox2_machine.specs.machine.State.{State, Messages}
use Rattle.iox2_machine.specs.declared.errors.ReceiveError.{ReceiveError}
use Rattle.iox2_machine.specs.declared.service_config.ServiceConfig.{ServiceConfig}
use Rattle.iox2_laws.proofs.LoanKeeping.{receive_loans}
use Rattle.iox2_laws.proofs.ReceiveLaws.{receive_advances}
use Rattle.iox2_domain.specs.Ports.{SubscriberFields}
use Rattle.iox2_pubsub.specs.Live.{IsPlaced, IsLiveSubscriber, IsLiveSample, IsFromOrigin}
use Rattle.iox2_pubsub.specs.ReceivedSamples.{received_result}
use Rattle.iox2_pubsub.specs.declared.subscriber.Subscriber.{Subscriber}
use Rattle.iox2_pubsub.proofs.LiveParts.{subscriber-parts, sample-live, origin-live}
use Rattle.iox2_pubsub.specs.Sample.{Sample}
use Rattle.iox2_domain.specs.Shows.{Shows}
use Rattle.iox2_domain.specs.Kept.{Kept, state_of}
use Rattle.iox2_domain.specs.Boxes.{DomainBoxes}
use Rattle.iox2_domain.specs.Fields.{Fields, kept_of, keeping}
use Rattle.iox2_domain.specs.Invariant.{IsDomain}
use Rattle.iox2_machine.specs.machine.Records.{Environment}
use Rattle.iox2_domain.specs.Receipts.{receive_result, ReceivesAs}
use Rattle.iox2_domain.specs.declared.sample_slots.Receipt.{Receipt}
use Rattle.iox2_domain.specs.declared.sample_slots.SampleAt.{SampleAt}
use Rattle.iox2_pubsub.proofs.UpdateShown.{step-shows}
use Rattle.iox2_domain.proofs.lemmas.receives.Reception.{received-borrowed}
use Rattle.slab.specs.Slab.{get}
use Rattle.iox2_domain.proofs.lemmas.samples.SampleEntries.{its-slot}
use Rattle.iox2_domain.proofs.lemmas.slots.ConnectionSlots.{book-numbers}
use Rattle.iox2_pubsub.proofs.PlacedLoans.{numbered-placed}

module _ {T U : Type 0} where
  -- the domain shows what the receive comes to, with the same messages
  pub reception-shows : {F G : Type 0} {boxes : DomainBoxes F G} (environment : Environment) (kept : Kept T U F G)
      (f g : Fields T U) → keeping boxes f ≡ kept → (q : ℕ) (result : Result (Option Receipt) ReceiveError)
      → ReceivesAs environment f q result g
      → (m : Messages T U) (s : State T U) → Shows kept m s
      → (s' : State T U) × Shows (kept_of g) m s' × Receive environment s q s' (receive_result result)
  reception-shows environment kept f g same q result receives =
      step-shows kept f g same (λ s t. Receive environment s q t (receive_result result))
      (λ s t h. (
        (receive_advances environment s q t (receive_result result) h).next_message,
        receive_loans environment s q t (receive_result result) h,
      )) receives.0 receives.1 receives.2

  -- the sample that was received
  module _ {F G : Type 0} {boxes : DomainBoxes F G} (environment : Environment) (kept : Kept T U F G) (f g : Fields T U)
      (same : keeping boxes f ≡ kept) (subscriber : Subscriber) (sample : Sample) (receipt : Receipt)
      (receives : ReceivesAs environment f subscriber.id (Ok (Some receipt)) g)
      (origin : sample.origin ≡ receipt.publisher) (its : sample.sample ≡ receipt.sample) where
    is-borrowed : is_borrowed sample.sample.number
        ((state_of (kept_of g)).mailboxes sample.origin sample.sample.subscriber) ≡ true
    is-borrowed =
        ap (λ (at : SampleAt). is_borrowed at.number ((state_of (kept_of g)).mailboxes sample.origin at.subscriber)) its
        ∙ ap (λ (p : ℕ).
        is_borrowed receipt.sample.number ((state_of (kept_of g)).mailboxes p receipt.sample.subscriber)) origin
        ∙ ap (λ (q : ℕ). is_borrowed receipt.sample.number ((state_of (kept_of g)).mailboxes receipt.publisher q))
        (receives.3).its
        ∙ ap (λ (s : State T U). is_borrowed receipt.sample.number (s.mailboxes receipt.publisher subscriber.id))
        receives.1.state
        ∙ received-borrowed environment
        (state_of (kept_of f)) subscriber.id receipt.publisher receipt.sample.number receives.0 receives.2

    -- it is live
    pub reception-live : sample.service_id ≡ subscriber.service_id → IsLiveSubscriber kept subscriber
        → IsLiveSample (keeping boxes g) sample
    reception-live service live =
        let sound = receives.1.agrees in
        let lies = receives.3 in
        let named = sound.parts.names.at receipt.sample.connection lies.connection lies.stands in
        let config : g.config ≡ f.config =
        ap (λ (s : State T U). s.config) receives.1.state
        ∙ (receive_advances environment (state_of (kept_of f)) subscriber.id receives.0
        (Got_sample receipt.publisher receipt.sample.number) receives.2).config in
        record {
          there = sample-live (keeping boxes g) _ (
            service ∙ (subscriber-parts kept _ live.there).1 ∙ ap (λ (k : Kept T U F G). (k.config).service_id)
                (sym same) ∙ ap (λ (x : ServiceConfig). x.service_id) (sym config),
            (sample.origin, is-borrowed),
          );
          placed = subst (λ (at : SampleAt). IsPlaced (keeping boxes g) at.number at.book at.slot) (sym its)
              (numbered-placed boxes g sound receipt.sample.book receipt.sample.slot receipt.sample.number
              (its-slot g sound subscriber.id receipt.sample.number
              (record {
                connection = receipt.sample.connection;
                book = receipt.sample.book;
                slot = receipt.sample.slot;
              }) (record {
                connection = lies.connection;
                book = named.book;
                has_connection = lies.stands;
                has_book = ap (get g.books) lies.book_is ∙ named.stands;
                subscriber_is = lies.subscriber_is;
                book_is = named.is_its;
                slot_is = record {
                  borrowed = lies.borrowed;
                  number_is =
                      sym (book-numbers g sound receipt.sample.connection (lies.connection).home.book lies.connection
                      named.book lies.stands named.stands named.is_its receipt.sample.slot) ∙ sym lies.number_is;
                };
              })));
        }

    -- and names whom it is from
    pub reception-origin : IsFromOrigin (keeping boxes g) sample
    reception-origin = origin-live (keeping boxes g) sample is-borrowed

  -- the subscriber that was found receives
  pub reception-at : (environment : Environment) (f g : Fields T U) (place q : ℕ)
      (result result' : Result (Option Receipt) ReceiveError)
      → (y : SubscriberFields) × (get_or f.subscribers place None ≡ Some y) × (y.id ≡ q) → result ≡ result'
      → ((y : SubscriberFields) → get_or f.subscribers place None ≡ Some y → ReceivesAs environment f y.id result g)
      → ReceivesAs environment f q result' g
  reception-at environment f g place q result result' found is receives =
      subst (λ (r : Result (Option Receipt) ReceiveError). ReceivesAs environment f q r g) is
      (subst (λ (r : ℕ). ReceivesAs environment f r result g) found.2 (receives found.0 found.1))

  -- it leaves a domain
  pub reception-agrees : (environment : Environment) (f g : Fields T U) (place : ℕ)
      (result : Result (Option Receipt) ReceiveError)
      → ((y : SubscriberFields) → get_or f.subscribers place None ≡ Some y → ReceivesAs environment f y.id result g)
      → (y : SubscriberFields) × (get_or f.subscribers place None ≡ Some y) → IsDomain g
  reception-agrees environment f g place result receives at = (receives at.0 at.1).1.agrees

-- ---- a receive that failed

-- what is answered is that error
error-answered : (r : Result (Option Sample) ReceiveError) (e : ReceiveError) → IsErrAnd r (λ e'. e' ≡ e)
    → received_result r ≡ Receive_error e
error-answered (Ok sample) e same = absurd same
error-answered (Err e') e same = ap Receive_error same

module _ {T U F G : Type 0} {boxes : DomainBoxes F G} (environment : Environment) (kept : Kept T U F G)
    (f g : Fields T U) (view : keeping boxes f ≡ kept) (q : ℕ) (e : ReceiveError)
    (receives : ReceivesAs environment f q (Err e) g)
    (r : Result (Option Sample) ReceiveError) (same : IsErrAnd r (λ e'. e' ≡ e)) where
  pub error-shows : (m : Messages T U) (s : State T U) → Shows kept m s
      → (s' : State T U) × Shows (kept_of g) m s' × Receive environment s q s' (received_result r)
  error-shows m s shown =
      subst (λ (answer : ReceiveResult). (s' : State T U) × Shows (kept_of g) m s' × Receive environment s q s' answer)
      (sym (error-answered r e same))
      (reception-shows environment kept f g view q (Err e) receives m s shown)
