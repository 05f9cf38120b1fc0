-- Whether messages wait: an update, and what a search finds after it.
use Rattle.std.proofs.Common.{◌∙◌, ◌≡◌, ℕ, List, Bool, true, false, IsTrue, MatchOption, get_or, Option, Some, None, Ok}
use Rattle.std.proofs.Common.{Err, refl, sym, subst}
use Rattle.std.specs.Prelude.{IsSomeAnd}
use Rattle.std.specs.Bool.{MatchBool}
use Rattle.slab.specs.Slab.{get}
use Rattle.iox2_connections.specs.Link.{Link}
use Rattle.iox2_machine.specs.machine.Mailbox.{Mailbox, has_data}
use Rattle.iox2_machine.specs.machine.Numbers.{contains}
use Rattle.iox2_machine.specs.machine.Places.{occupants}
use Rattle.iox2_machine.specs.machine.Receives.{has_any_data, can_receive_of, MayReceiveFrom}
use Rattle.iox2_machine.specs.machine.Records.{Environment, Subscriber}
use Rattle.iox2_machine.specs.machine.State.{State, connected_publishers}
use Rattle.iox2_machine.specs.machine.SubscriberUpdate.{UpdateSubscriber}
use Rattle.iox2_connections.proofs.MailboxChanges.{both-true}
use Rattle.iox2_connections.proofs.Searches.{any-contains}
use Rattle.iox2_connections.specs.Finds.{is_something, Finds, FindsFor}
use Rattle.iox2_connections.specs.declared.receiver.Found.{Found}
use Rattle.iox2_laws.proofs.NumberLemmas.{contains_left, contains_right}
use Rattle.iox2_domain.specs.ReceiverSteps.{UpdatesReceiver}
use Rattle.iox2_machine.specs.declared.errors.ConnectionFailure.{ConnectionFailure}
use Rattle.iox2_domain.specs.Fields.{Fields, kept_of, subscriber_of}
use Rattle.iox2_domain.specs.Invariant.{IsDomain}
use Rattle.iox2_domain.specs.Kept.{state_of}
use Rattle.iox2_domain.specs.Ports.{SubscriberFields}
use Rattle.iox2_domain.specs.Questions.{IsWhetherWaiting, AnswersAs}
use Rattle.iox2_domain.specs.Reaches.{Reaches}
use Rattle.iox2_domain.proofs.lemmas.fields.ConnectionEnds.{subscriber-stands}
use Rattle.iox2_domain.proofs.lemmas.receives.Received.{receiver, found-for}
use Rattle.iox2_domain.proofs.lemmas.receives.ReceiptSteps.{HasKeys, finds-now, same-one}
use Rattle.iox2_domain.proofs.lemmas.receives.Reception.{updated, updated-stands, updated-reaches}

-- of a publisher from which something may be received, something waits
may-receive-waits : (limit : ℕ) (y : Subscriber) (boxes : ℕ → Mailbox) (p : ℕ) → MayReceiveFrom limit y boxes p
    → has_any_data y boxes ≡ true
may-receive-waits limit y boxes p may =
    any-contains (λ q. has_data (boxes q)) p (connected_publishers y)
    (among (can_receive_of limit y boxes y.expired) may.1) (both-true _ _ may.0).0
  where
    among : (b : Bool) → MatchBool b (IsTrue (contains y.expired p)) (IsTrue (contains (occupants y.ends) p))
        → contains (connected_publishers y) p ≡ true
    among true h = contains_left y.expired (occupants y.ends) p h
    among false h = contains_right y.expired (occupants y.ends) p h

module _ {T U : Type 0} where
  -- what a subscriber's search finds says whether anything waits
  found-waits : (f : Fields T U) (sound : IsDomain f) (i : ℕ) (y : SubscriberFields)
      (at : get_or f.subscribers i None ≡ Some y) (found : Found)
      → Finds f.connections y.expired y.keys found
      → is_something found ≡ has_any_data (receiver f sound i y at) (λ p. (state_of (kept_of f)).mailboxes p y.id)
  found-waits f sound i y at found finds = sym (by found (found-for f sound i y at found finds)) where
    ready : (o : Option Link) → IsSomeAnd o (λ c. (c.home.subscriber ≡ y.id)
        × MayReceiveFrom (f.config).subscriber_max_borrowed_samples (receiver f sound i y at)
        (λ p. (state_of (kept_of f)).mailboxes p y.id) c.home.publisher)
        → has_any_data (receiver f sound i y at) (λ p. (state_of (kept_of f)).mailboxes p y.id) ≡ true
    ready None h = absurd h
    ready (Some c) h = may-receive-waits (f.config).subscriber_max_borrowed_samples (receiver f sound i y at)
        (λ p. (state_of (kept_of f)).mailboxes p y.id) c.home.publisher h.1

    by : (found : Found) → FindsFor y.id (f.config).subscriber_max_borrowed_samples f.connections
        (receiver f sound i y at) (λ p. (state_of (kept_of f)).mailboxes p y.id) found
        → has_any_data (receiver f sound i y at) (λ p. (state_of (kept_of f)).mailboxes p y.id) ≡ is_something found
    by (Found.Ready key) h = ready (get f.connections key) h
    by Found.AtLimit h = h.0
    by Found.Nothing h = h

  -- the same at its place, as the code reads it
  pub answers-found : (f now : Fields T U) (place : ℕ) (z : SubscriberFields) (expired : List ℕ)
      (places : List (Option ℕ)) (has : HasKeys f now place z expired places) (found : Found)
      → Finds f.connections expired places found → (waits : Bool) → waits ≡ is_something found
      → (y : SubscriberFields) → get_or now.subscribers place None ≡ Some y → IsWhetherWaiting now y.id waits
  answers-found f now place z expired places has found finds waits is y at =
      subst (λ (w : SubscriberFields). IsWhetherWaiting now w.id waits) (same-one f now place z expired places has y at)
      (rw (subscriber-stands now has.sound.parts place z has.stands)
      (is ∙ found-waits now has.sound place z has.stands found
      (finds-now f now place z expired places has found finds)))

  -- an update and what waits after it are an answer
  answers-after : (environment : Environment) (f mid : Fields T U) (q : ℕ) (after : State T U)
      → UpdateSubscriber environment (state_of (kept_of f)) q after None → Reaches f mid after
      → (waits : Bool) → IsWhetherWaiting mid q waits → AnswersAs environment f q (Ok waits) mid
  answers-after environment f mid q after updates reached waits is = (
    after,
    reached,
    (
      updates,
      subst (λ (s : State T U). MatchOption (s.subscribers q) ⊥ (λ y. waits ≡ has_any_data y (λ p. s.mailboxes p q)))
          reached.state is,
    ),
  )

  -- the same at a subscriber's place
  pub answers-at : (environment : Environment) (f mid : Fields T U) (place : ℕ) (failure : Option ConnectionFailure)
      → failure ≡ None → (waits : Bool)
      → ((y : SubscriberFields) → get_or f.subscribers place None ≡ Some y
      → UpdatesReceiver environment f place y mid failure)
      → ((y : SubscriberFields) → get_or mid.subscribers place None ≡ Some y → IsWhetherWaiting mid y.id waits)
      → (y : SubscriberFields) → get_or f.subscribers place None ≡ Some y → AnswersAs environment f y.id (Ok waits) mid
  answers-at environment f mid place failure is waits update answer y at =
      let u = subst (UpdatesReceiver environment f place y mid) is (update y at) in
      answers-after environment f mid y.id (state_of (kept_of mid)) u.updates
      (updated-reaches environment f mid place y None u) waits
      (answer (updated environment f mid place y None u) (updated-stands environment f mid place y None u at))

  -- an update that fails is the answer
  pub answers-failed : (environment : Environment) (f mid : Fields T U) (place : ℕ) (failure : Option ConnectionFailure)
      (e : ConnectionFailure) → failure ≡ Some e
      → ((y : SubscriberFields) → get_or f.subscribers place None ≡ Some y
      → UpdatesReceiver environment f place y mid failure)
      → (y : SubscriberFields) → get_or f.subscribers place None ≡ Some y → AnswersAs environment f y.id (Err e) mid
  answers-failed environment f mid place failure e is update y at =
      let u = subst (UpdatesReceiver environment f place y mid) is (update y at) in
      let z = updated environment f mid place y (Some e) u in
      let shown : (state_of (kept_of mid)).subscribers y.id ≡ Some ((subscriber_of mid.books mid.connections z).port) =
      subscriber-stands mid u.changes.agrees.parts place z (updated-stands environment f mid place y (Some e) u at) in (
        state_of (kept_of mid),
        updated-reaches environment f mid place y (Some e) u,
        (
          has_any_data ((subscriber_of mid.books mid.connections z).port)
              (λ p. (state_of (kept_of mid)).mailboxes p y.id),
          (u.updates, rw shown refl),
        ),
      )
