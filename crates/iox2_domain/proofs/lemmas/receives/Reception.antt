-- A receive: an update, and what is taken after it.
use Rattle.std.proofs.Common.{◌≡◌, ℕ, Bool, true, false, cond, [], ◌∷◌, eqb, get_or, refl, ap, subst, ◌∙◌, Option, Some}
use Rattle.std.proofs.Common.{None, Result, Err, MatchOption}
use Rattle.std.proofs.lemmas.Bool.{eq-eqb, or_left}
use Rattle.std.proofs.lemmas.List.{get_or-set_same}
use Rattle.iox2_machine.specs.machine.Mailbox.{Mailbox, is_borrowed}
use Rattle.iox2_machine.specs.machine.Numbers.{put_at}
use Rattle.iox2_machine.specs.machine.Records.{Subscriber, Environment}
use Rattle.iox2_machine.specs.machine.Receives.{Got_sample, Receive_error, TakeSample, Receive}
use Rattle.iox2_machine.specs.machine.State.{State}
use Rattle.iox2_machine.specs.machine.SubscriberUpdate.{UpdateSubscriber}
use Rattle.iox2_machine.specs.declared.errors.ConnectionFailure.{ConnectionFailure}
use Rattle.iox2_machine.specs.declared.errors.ReceiveError.{ReceiveError}
use Rattle.iox2_machine.specs.declared.errors.ReceiveError.TheVariants.{ConnectionFailure as CouldNotConnect}
use Rattle.iox2_laws.proofs.NumberLemmas.{contains_right}
use Rattle.iox2_connections.proofs.MailboxChanges.{within_if_some}
use Rattle.iox2_domain.specs.ReceiverSteps.{UpdatesReceiver}
use Rattle.iox2_domain.specs.Ports.{SubscriberFields}
use Rattle.iox2_domain.specs.Kept.{state_of}
use Rattle.iox2_domain.specs.Fields.{Fields, kept_of}
use Rattle.iox2_domain.specs.Reaches.{Reaches}
use Rattle.iox2_domain.specs.Receipts.{receive_result, TakesAs, ReceivesAs}
use Rattle.iox2_domain.specs.declared.sample_slots.Receipt.{Receipt}
use Rattle.iox2_domain.proofs.lemmas.fields.ReachesShows.{reaches-then}

module _ {T U : Type 0} where
  -- the subscriber after its update
  abbrev pub updated : (environment : Environment) (f mid : Fields T U) (place : ℕ) (y : SubscriberFields)
      (failure : Option ConnectionFailure) → UpdatesReceiver environment f place y mid failure → SubscriberFields
  updated environment f mid place y failure u =
      record y {
        keys = u.changes.keys;
        key_room = u.changes.key_room;
        expired = u.changes.expired;
        expired_room = u.changes.expired_room;
        is_due = u.side.is_due;
      }

  -- it still stands at its place
  pub updated-stands : (environment : Environment) (f mid : Fields T U) (place : ℕ) (y : SubscriberFields)
      (failure : Option ConnectionFailure) (u : UpdatesReceiver environment f place y mid failure)
      → get_or f.subscribers place None ≡ Some y
      → get_or mid.subscribers place None ≡ Some (updated environment f mid place y failure u)
  updated-stands environment f mid place y failure u at =
      ap (λ (h : Fields T U). get_or h.subscribers place None) u.changes.fields
      ∙ get_or-set_same f.subscribers place (Some (updated environment f mid place y failure u)) None
      (within_if_some f.subscribers place y at)

  -- what the update comes to
  pub updated-reaches : (environment : Environment) (f mid : Fields T U) (place : ℕ) (y : SubscriberFields)
      (failure : Option ConnectionFailure) → UpdatesReceiver environment f place y mid failure
      → Reaches f mid (state_of (kept_of mid))
  updated-reaches environment f mid place y failure u =
      record { agrees = u.changes.agrees; state = refl; entries = u.changes.entries; places = u.changes.places }

  -- an update and what is taken after it are a receive
  pub receives-after : (environment : Environment) (f mid new : Fields T U) (q : ℕ) (after : State T U)
      → UpdateSubscriber environment (state_of (kept_of f)) q after None → Reaches f mid after
      → (result : Result (Option Receipt) ReceiveError) → TakesAs mid q result new
      → ReceivesAs environment f q result new
  receives-after environment f mid new q after updates reached result takes = (
    takes.0,
    reaches-then f mid new after takes.0 reached takes.1,
    (
      after,
      None,
      updates,
      subst (λ (s : State T U). MatchOption (s.subscribers q) ⊥ (λ y. TakeSample s q y takes.0 (receive_result result)))
          reached.state takes.2,
    ),
    takes.3,
  )

  -- the same at a subscriber's place
  pub receives-at : (environment : Environment) (f mid new : Fields T U) (place : ℕ)
      (failure : Option ConnectionFailure) → failure ≡ None → (result : Result (Option Receipt) ReceiveError)
      → ((y : SubscriberFields) → get_or f.subscribers place None ≡ Some y
      → UpdatesReceiver environment f place y mid failure)
      → ((y : SubscriberFields) → get_or mid.subscribers place None ≡ Some y → TakesAs mid y.id result new)
      → (y : SubscriberFields) → get_or f.subscribers place None ≡ Some y → ReceivesAs environment f y.id result new
  receives-at environment f mid new place failure is result update take y at =
      let u = subst (UpdatesReceiver environment f place y mid) is (update y at) in
      receives-after environment f mid new y.id (state_of (kept_of mid)) u.updates
      (updated-reaches environment f mid place y None u) result
      (take (updated environment f mid place y None u) (updated-stands environment f mid place y None u at))

  -- an update that fails is what the receive comes to
  pub receives-failed : (environment : Environment) (f mid : Fields T U) (place : ℕ)
      (failure : Option ConnectionFailure) (e : ConnectionFailure) → failure ≡ Some e
      → ((y : SubscriberFields) → get_or f.subscribers place None ≡ Some y
      → UpdatesReceiver environment f place y mid failure)
      → (y : SubscriberFields) → get_or f.subscribers place None ≡ Some y
      → ReceivesAs environment f y.id (Err (CouldNotConnect e)) mid
  receives-failed environment f mid place failure e is update y at =
      let u = subst (UpdatesReceiver environment f place y mid) is (update y at) in (
        state_of (kept_of mid),
        updated-reaches environment f mid place y (Some e) u,
        (state_of (kept_of mid), Some e, u.updates, (refl, refl)),
        tt,
      )

  -- a message that was received is borrowed
  pub received-borrowed : (environment : Environment) (s : State T U) (q p n : ℕ) (s' : State T U)
      → Receive environment s q s' (Got_sample p n) → is_borrowed n (s'.mailboxes p q) ≡ true
  received-borrowed environment s q p n s' received = by received.1 received.3 where
    taken : (mid : State T U) (y : Option Subscriber) → MatchOption y ⊥ (λ z. TakeSample mid q z s' (Got_sample p n))
        → is_borrowed n (s'.mailboxes p q) ≡ true
    taken mid None t = absurd t
    taken mid (Some y) t =
        ap (λ (u : State T U). is_borrowed n (u.mailboxes p q)) t.3
        ∙ ap (λ (b : Bool). is_borrowed n (cond b (put_at (mid.mailboxes p) q t.1) (mid.mailboxes p) q))
        (eq-eqb p p refl)
        ∙ ap (λ (b : Bool). is_borrowed n (cond b t.1 (mid.mailboxes p q))) (eq-eqb q q refl)
        ∙ ap (λ (box : Mailbox). is_borrowed n box) t.2.2
        ∙ contains_right (mid.mailboxes p q).borrowed (n ∷ []) n (or_left (eqb n n) false (eq-eqb n n refl))

    by : (failure : Option ConnectionFailure) → MatchOption failure
        (MatchOption ((received.0).subscribers q) ⊥ (λ y. TakeSample received.0 q y s' (Got_sample p n)))
        (λ e. (s' ≡ received.0) × (Got_sample p n ≡ Receive_error (CouldNotConnect e)))
        → is_borrowed n (s'.mailboxes p q) ≡ true
    by None t = taken received.0 ((received.0).subscribers q) t
    by (Some e) t = absurd (let no : Got_sample p n ≡ Receive_error (CouldNotConnect e) = t.1 in cc)
