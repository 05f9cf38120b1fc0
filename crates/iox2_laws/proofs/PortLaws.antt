-- What making a port keeps.
use Rattle.std.proofs.Common.{le_refl, ◌≡◌, ℕ, ◌+◌, ◌≤◌, ◌<◌, true, false, cond, List, length, refl, sym, ap, subst}
use Rattle.std.proofs.Common.{◌∙◌, arith, eqb, lt_irrefl, Option}
use Rattle.std.proofs.Common.{None, Some, ◌⊎◌, ⊎_elim}
use Rattle.std.proofs.lemmas.Bool.{eq-eqb, true≢false, ne_eqb, ltb-false, false_from_ne_true}
use Rattle.std.proofs.lemmas.Option.{none-some, same_Some}
use Rattle.iox2_laws.proofs.OperationWalks.{advance, create_publisher_by_steps, create_subscriber_by_steps}
use Rattle.iox2_machine.specs.machine.Limits.{buffer_limit, channel_count}
use Rattle.iox2_machine.specs.machine.Numbers.{contains, put_at}
use Rattle.iox2_machine.specs.machine.Places.{occupant, set_place}
use Rattle.iox2_machine.specs.machine.Mailbox.{Mailbox, has_numbers, waiting_count, OthersWithin}
use Rattle.iox2_machine.specs.machine.Records.{Publisher, Subscriber, PublisherSettings, SubscriberSettings}
use Rattle.iox2_machine.specs.machine.Records.{Environment}
use Rattle.iox2_machine.specs.machine.State.{State, is_blocked, with_warning}
use Rattle.iox2_machine.specs.machine.Ports.{buffer_for, new_publisher, new_subscriber, with_new_publisher}
use Rattle.iox2_machine.specs.machine.Ports.{with_new_subscriber, FirstPublisherUpdate, FirstSubscriberUpdate}
use Rattle.iox2_machine.specs.machine.Ports.{with_buffer_warning, with_failure_warning, CreatePublisher}
use Rattle.iox2_machine.specs.machine.Ports.{CreateSubscriber}
use Rattle.iox2_machine.specs.machine.WellFormed.{LeadsTo, PlacesAgree, publisher_place, subscriber_place}
use Rattle.iox2_machine.specs.machine.WellFormed.{PublisherIsWellFormed, SubscriberIsWellFormed}
use Rattle.iox2_machine.specs.machine.WellFormed.{MailboxIsWellFormed, IsWellFormed}
use Rattle.iox2_machine.specs.declared.errors.ConnectionFailure.{ConnectionFailure}
use Rattle.iox2_machine.specs.declared.errors.PublisherCreateError.{PublisherCreateError}
use Rattle.iox2_machine.specs.declared.errors.SubscriberCreateError.{SubscriberCreateError}
use Rattle.iox2_machine.specs.declared.warning.Warning.{Warning}
use Rattle.iox2_machine.specs.declared.warning.Warning.TheVariants.{PublisherPartlyConnected, SubscriberPartlyConnected}
use Rattle.iox2_laws.specs.Laws.{Advances}
use Rattle.iox2_laws.proofs.CallCases.{publisher_cases, subscriber_cases}
use Rattle.iox2_laws.proofs.Puts.{put_at-other, at_each, found_put}
use Rattle.iox2_laws.proofs.PlaceLemmas.{occupant-set_place, length-set_place_le, found_set, free_place_is}
use Rattle.iox2_laws.proofs.MailboxLemmas.{has_numbers-borrows, has_numbers-waiting, nothing_anywhere}
use Rattle.iox2_laws.proofs.MailboxLemmas.{OthersWithin-none}
use Rattle.iox2_laws.proofs.PublisherUpdates.{update_publisher_keeps, update_publisher_advances}
use Rattle.iox2_laws.proofs.SubscriberUpdates.{update_subscriber_keeps, update_subscriber_advances}
use Rattle.iox2_laws.proofs.PortChanges.{places_agree_by, place_of_publisher, place_of_subscriber, publisher_kept}
use Rattle.iox2_laws.proofs.PortChanges.{subscriber_kept, mailbox_in, loan_kept}
use Rattle.iox2_laws.proofs.PortChanges.{subscribers_due_keeps, publishers_due_keeps}
pub use Rattle.iox2_laws.proofs.PortChanges.{with_warning_keeps}

-- ---- a place and a mailbox

-- A new port at a place where nothing stood.
places_with_new : (limit : ℕ) (places : List (Option ℕ)) (f : ℕ → Option ℕ) (place new : ℕ) → PlacesAgree limit places f
    → place < limit
    → occupant places place ≡ None → f new ≡ None
    → PlacesAgree limit (set_place places place (Some new)) (put_at f new (Some place))
places_with_new limit places f place new w low free absent = record {
  bound = length-set_place_le places place (Some new) low w.bound;
  stands = λ id i e. found_put f new place (λ id i. occupant (set_place places place (Some new)) i ≡ Some id) id i e
      (λ _. occupant-set_place places place (Some new) place ∙ rw (eq-eqb place place refl) refl)
      (λ _ old. occupant-set_place places place (Some new) i
      ∙ rw (ne_eqb i place (λ same. none-some id (sym free ∙ ap (occupant places) (sym same) ∙ w.stands id i old)))
      (w.stands id i old));
  known = λ id i e. ⊎_elim
      (λ (h : (i ≡ place) × (Some new ≡ Some id)).
      rw (eq-eqb id new (sym (same_Some new id h.1))) (ap Some (sym h.0)))
      (λ (h : (eqb i place ≡ false) × (occupant places i ≡ Some id)).
      put_at-other f new (Some place) id
      (ne_eqb id new (λ same. none-some i (sym absent ∙ ap f (sym same) ∙ w.known id i h.1))) ∙ w.known id i h.1)
      (found_set places place (Some new) i id e);
}

-- No number of a mailbox without numbers waits.
none_waits : (box : Mailbox) → has_numbers box ≡ false → waiting_count box ≡ 0
none_waits box h = ap length (nothing_anywhere box h).1

module _ {T U : Type 0} where
  -- ---- a publisher is made

  -- No publisher has the next id yet.
  pub no_publisher_yet : (s : State T U) → IsWellFormed s → s.publishers s.next_port ≡ None
  no_publisher_yet s w = at (s.publishers s.next_port) refl
    where
      at : (o : Option Publisher) → s.publishers s.next_port ≡ o → o ≡ None
      at None e = refl
      at (Some x) e = absurd (omega (arith, (w.publishers s.next_port x e).is_known))

  -- No subscriber has the next id yet.
  pub no_subscriber_yet : (s : State T U) → IsWellFormed s → s.subscribers s.next_port ≡ None
  no_subscriber_yet s w = at (s.subscribers s.next_port) refl
    where
      at : (o : Option Subscriber) → s.subscribers s.next_port ≡ o → o ≡ None
      at None e = refl
      at (Some y) e = absurd (omega (arith, (w.subscribers s.next_port y e).is_known))

  -- A publisher with the next id stands at the place, and nobody is due for it yet.
  abbrev publisher_entered : State T U → PublisherSettings → (place : ℕ) → State T U
  publisher_entered s given place = record s {
    next_port = s.next_port + 1;
    publishers = put_at s.publishers s.next_port (Some (new_publisher s given place));
    publisher_places = set_place s.publisher_places place (Some s.next_port);
  }

  publisher_place_entered : (s : State T U) (given : PublisherSettings) (place p : ℕ)
      → publisher_place (publisher_entered s given place) p ≡ put_at (publisher_place s) s.next_port (Some place) p
  publisher_place_entered s given place p =
      elim (eqb p s.next_port) as (λ b. place_of_publisher
      (cond b (Some (new_publisher s given place)) (s.publishers p)) ≡ cond b (Some place) (publisher_place s p)) [
        | true ↦ refl
        | false ↦ refl
      ]

  -- The new publisher alone.
  new_publisher_is : (s : State T U) (given : PublisherSettings) (place : ℕ)
      → PublisherIsWellFormed (publisher_entered s given place) s.next_port (new_publisher s given place)
  new_publisher_is s given place = record {
    is_known = omega arith;
    loans_bound = omega arith;
    loans_once = tt;
    loans_below = λ n h. absurd (true≢false (sym h));
    loans_held = λ n h. absurd (true≢false (sym h));
    history_bound = omega arith;
    history_once = tt;
    history_below = λ n h. absurd (true≢false (sym h));
    ends_bound = omega arith;
    ends_apart = λ i j id e _. absurd (none-some id e);
    ends_known = λ q h. absurd (none-some q h.1);
    ends_stand = λ place q y e _. absurd (none-some q e);
    slots_bound = λ _. omega arith;
    some_segment = omega arith;
    segments_bound = omega arith;
    blocked = λ b e. absurd (none-some b e);
  }

  -- A well-formed state stays so with a new publisher at a free place.
  publisher_entered_keeps : (s : State T U) → IsWellFormed s → (given : PublisherSettings) (place : ℕ)
      → place < (s.config).max_publishers
      → occupant s.publisher_places place ≡ None
      → IsWellFormed (publisher_entered s given place)
  publisher_entered_keeps s w given place low free = record {
    publisher_places = places_agree_by (s.config).max_publishers s'.publisher_places
        (put_at (publisher_place s) s.next_port (Some place)) (publisher_place s')
        (places_with_new (s.config).max_publishers s.publisher_places
        (publisher_place s) place s.next_port w.publisher_places low free
        (ap place_of_publisher (no_publisher_yet s w)))
        (publisher_place_entered s given place);
    subscriber_places = w.subscriber_places;
    publishers = λ p x e.
        found_put s.publishers s.next_port (new_publisher s given place) (λ p x. PublisherIsWellFormed s' p x) p x e
        (λ _. new_publisher_is s given place)
        (λ _ old. publisher_kept s s' p x (w.publishers p x old)
        (omega arith) (λ q n h. h) (w.publishers p x old).ends_stand);
    subscribers = λ q y e. subscriber_kept s s' q y (w.subscribers q y e)
        (omega arith) (λ p. refl)
        (λ p known. ap place_of_publisher (put_at-other s.publishers s.next_port (Some (new_publisher s given place)) p
        (ne_eqb p s.next_port (λ same. omega arith))));
    mailboxes = λ p q. let v : MailboxIsWellFormed s p q = w.mailboxes p q in
        mailbox_in s s' p q v (omega arith) (le_refl s.next_message) refl (λ y e. (v.room y e, v.others_room y e))
        (λ x e h. found_put s.publishers s.next_port (new_publisher s given place) (λ p x. LeadsTo x.ends q) p x e
        (λ same. absurd (omega (arith, (v.known h).0))) (λ _ old. v.sender_end x old h))
        v.receiver_end
        (λ gone. v.departed
        (at_each s.publishers s.next_port (Some (new_publisher s given place))
        (λ i o. o ≡ None → s.publishers i ≡ None) p
        (λ _ e. absurd (none-some (new_publisher s given place) (sym e))) (λ _ e. e) gone));
    loans = λ n l e. loan_kept s s' n l (w.loans n l e)
        (omega arith) (λ q n h. h)
        (λ x found. (w.loans n l e).is_out x
        (sym (put_at-other s.publishers s.next_port (Some (new_publisher s given place)) l.publisher
        (ne_eqb l.publisher s.next_port (λ same. omega (arith, (w.loans n l e).known)))) ∙ found));
  }
    where
      s' : State T U
      s' = publisher_entered s given place

  -- A new publisher at a free place, with every subscriber due, leaves the state well-formed.
  pub new_publisher_keeps : (s : State T U) → IsWellFormed s → (given : PublisherSettings) (place : ℕ)
      → place < (s.config).max_publishers
      → occupant s.publisher_places place ≡ None
      → IsWellFormed (with_new_publisher s given place)
  new_publisher_keeps s w given place low free =
      subscribers_due_keeps (publisher_entered s given place) (publisher_entered_keeps s w given place low free)

  -- A new publisher isn't blocked.
  new_publisher_unblocked : (s : State T U) (given : PublisherSettings) (place : ℕ)
      → is_blocked (with_new_publisher s given place) s.next_port ≡ false
  new_publisher_unblocked s given place = rw (eq-eqb s.next_port s.next_port refl) refl

  -- ---- a subscriber is made

  -- A subscriber with the next id stands at the place, and nobody is due for it yet.
  abbrev subscriber_entered : State T U → SubscriberSettings → (place : ℕ) → State T U
  subscriber_entered s given place = record (with_buffer_warning s s.next_port) {
    next_port = s.next_port + 1;
    subscribers = put_at s.subscribers s.next_port (Some (new_subscriber given place));
    subscriber_places = set_place s.subscriber_places place (Some s.next_port);
  }

  subscriber_place_entered : (s : State T U) (given : SubscriberSettings) (place q : ℕ)
      → subscriber_place (subscriber_entered s given place) q ≡ put_at (subscriber_place s) s.next_port (Some place) q
  subscriber_place_entered s given place q =
      elim (eqb q s.next_port) as (λ b. place_of_subscriber
      (cond b (Some (new_subscriber given place)) (s.subscribers q)) ≡ cond b (Some place) (subscriber_place s q)) [
        | true ↦ refl
        | false ↦ refl
      ]

  -- The new subscriber alone.
  new_subscriber_is : (s : State T U) (given : SubscriberSettings) (place : ℕ)
      → buffer_for given ≤ buffer_limit s.config
      → SubscriberIsWellFormed (subscriber_entered s given place) s.next_port (new_subscriber given place)
  new_subscriber_is s given place fits = record {
    is_known = omega arith;
    some_room = omega arith;
    buffer_bound = fits;
    ends_bound = omega arith;
    ends_apart = λ i j id e _. absurd (none-some id e);
    ends_known = λ p h. absurd (none-some p h.1);
    ends_stand = λ place p e. absurd (none-some p e);
    expired_bound = omega arith;
    expired_once = tt;
    expired_apart = λ p h _. true≢false (sym h);
    expired_known = λ p h. absurd (true≢false (sym h));
    expired_gone = λ p h. absurd (true≢false (sym h));
    expired_kept = λ p h. absurd (true≢false (sym h));
    is_used = λ closed. absurd (true≢false closed);
  }

  -- A well-formed state stays so with a new subscriber at a free place.
  subscriber_entered_keeps : (s : State T U) → IsWellFormed s → (given : SubscriberSettings) (place : ℕ)
      → buffer_for given ≤ buffer_limit s.config
      → place < (s.config).max_subscribers → occupant s.subscriber_places place ≡ None
      → IsWellFormed (subscriber_entered s given place)
  subscriber_entered_keeps s w given place fits low free = record {
    publisher_places = w.publisher_places;
    subscriber_places = places_agree_by (s.config).max_subscribers s'.subscriber_places
        (put_at (subscriber_place s) s.next_port (Some place)) (subscriber_place s')
        (places_with_new (s.config).max_subscribers s.subscriber_places
        (subscriber_place s) place s.next_port w.subscriber_places low free
        (ap place_of_subscriber (no_subscriber_yet s w)))
        (subscriber_place_entered s given place);
    publishers = λ p x e. publisher_kept s s' p x (w.publishers p x e)
        (omega arith) (λ q n h. h)
        (λ place q y at found. (w.publishers p x e).ends_stand place q y at
        (old_subscriber q ((w.publishers p x e).ends_known q (place, at)) y found));
    subscribers = λ q y e.
        found_put s.subscribers s.next_port (new_subscriber given place) (λ q y. SubscriberIsWellFormed s' q y) q y e
        (λ _. new_subscriber_is s given place fits)
        (λ _ old. subscriber_kept s s' q y (w.subscribers q y old)
        (omega arith) (λ p. refl) (λ p _. refl));
    mailboxes = λ p q. let v : MailboxIsWellFormed s p q = w.mailboxes p q in
        mailbox_in s s' p q v (omega arith) (le_refl s.next_message) refl
        (λ y e. found_put s.subscribers s.next_port (new_subscriber given place)
        (λ q y. (waiting_count (s.mailboxes p q) ≤ y.buffer)
        × OthersWithin (channel_count s.config) y.buffer (s.mailboxes p q)) q y e
        (λ _. (
          omega (arith, none_waits (s.mailboxes p s.next_port) (nothing_yet p)),
          OthersWithin-none (channel_count s.config) (buffer_for given) (s.mailboxes p s.next_port)
              (nothing_anywhere (s.mailboxes p s.next_port) (nothing_yet p)).0,
        ))
        (λ _ old. (v.room y old, v.others_room y old)))
        v.sender_end
        (λ h. let found : (y : Subscriber) × (s.subscribers q ≡ Some y)
        × ((contains y.expired p ≡ true) ⊎ LeadsTo y.ends p) = v.receiver_end h in
        (found.0, old_stays q (v.known (has_numbers-borrows (s.mailboxes p q) h)).1 ∙ found.1, found.2))
        (λ gone h. let found : (y : Subscriber) × (s.subscribers q ≡ Some y) × (y.is_open ≡ true)
        × ((contains y.expired p ≡ true) ⊎ LeadsTo y.ends p) = v.departed gone h in
        (found.0, old_stays q (v.known (has_numbers-waiting (s.mailboxes p q) h)).1 ∙ found.1, found.2, found.3));
    loans = λ n l e. loan_kept s s' n l (w.loans n l e)
        (omega arith) (λ q n h. h) (w.loans n l e).is_out;
  }
    where
      s' : State T U
      s' = subscriber_entered s given place

      nothing_yet : (p : ℕ) → has_numbers (s.mailboxes p s.next_port) ≡ false
      nothing_yet p = false_from_ne_true (has_numbers (s.mailboxes p s.next_port))
          (λ h. lt_irrefl s.next_port ((w.mailboxes p s.next_port).known h).1)

      old_stays : (q : ℕ) → q < s.next_port → s'.subscribers q ≡ s.subscribers q
      old_stays q known = put_at-other s.subscribers s.next_port (Some (new_subscriber given place)) q
          (ne_eqb q s.next_port (λ same. omega arith))

      old_subscriber : (q : ℕ) → q < s.next_port → (y : Subscriber) → s'.subscribers q ≡ Some y
          → s.subscribers q ≡ Some y
      old_subscriber q known y found = sym (old_stays q known) ∙ found

  -- A new subscriber at a free place, with every publisher due, leaves the state well-formed.
  pub new_subscriber_keeps : (s : State T U) → IsWellFormed s → (given : SubscriberSettings) (place : ℕ)
      → buffer_for given ≤ buffer_limit s.config
      → place < (s.config).max_subscribers → occupant s.subscriber_places place ≡ None
      → IsWellFormed (with_new_subscriber s given place)
  new_subscriber_keeps s w given place fits low free =
      publishers_due_keeps (subscriber_entered s given place) (subscriber_entered_keeps s w given place fits low free)

  -- ---- the first update, and the whole

  -- A failed first update is a warning, and that doesn't matter.
  failure_warning_keeps : (s : State T U) → IsWellFormed s
      → (warning : ConnectionFailure → Warning) (failure : Option ConnectionFailure)
      → IsWellFormed (with_failure_warning s warning failure)
  failure_warning_keeps s w warning None = w
  failure_warning_keeps s w warning (Some failure) = with_warning_keeps s w (with_warning s (warning failure)).warnings

  -- What doesn't fall twice doesn't fall in all.
  pub advances_trans : (a b c : State T U) → Advances a b → Advances b c → Advances a c
  advances_trans = advance.trans

  warned_advances : (s : State T U) (w : Warning) → Advances s (with_warning s w)
  warned_advances s w = record { config = refl; next_port = omega arith; next_message = omega arith }

  make_publisher_keeps : (environment : Environment) (s : State T U) (given : PublisherSettings) (place : ℕ)
      (s' : State T U)
      → IsWellFormed s → place < (s.config).max_publishers → occupant s.publisher_places place ≡ None
      → FirstPublisherUpdate environment (with_new_publisher s given place) s.next_port s'
      → IsWellFormed s'
  make_publisher_keeps environment s given place s' w low free h =
      subst IsWellFormed (sym h.3) (failure_warning_keeps h.0
      (update_publisher_keeps environment (with_new_publisher s given place) s.next_port h.0 h.1
      (new_publisher_keeps s w given place low free) (new_publisher_unblocked s given place) h.2)
      (PublisherPartlyConnected s.next_port) h.1)

  make_subscriber_keeps : (environment : Environment) (s : State T U) (given : SubscriberSettings) (place : ℕ)
      (s' : State T U)
      → IsWellFormed s → buffer_for given ≤ buffer_limit s.config → place < (s.config).max_subscribers
      → occupant s.subscriber_places place ≡ None
      → FirstSubscriberUpdate environment (with_new_subscriber s given place) s.next_port s' → IsWellFormed s'
  make_subscriber_keeps environment s given place s' w fits low free h =
      subst IsWellFormed (sym h.3) (failure_warning_keeps h.0
      (update_subscriber_keeps environment (with_new_subscriber s given place) s.next_port h.0 h.1
      (new_subscriber_keeps s w given place fits low free) h.2)
      (SubscriberPartlyConnected s.next_port) h.1)

-- A publisher that is made, or refused, leaves the state well-formed.
pub create_publisher_keeps : {T U : Type 0} (environment : Environment) (s : State T U) (given : PublisherSettings)
    (s' : State T U) (refusal : Option PublisherCreateError)
    → IsWellFormed s → CreatePublisher environment s given s' refusal → IsWellFormed s'
create_publisher_keeps environment s given s' refusal w h =
    publisher_cases environment s given s' (IsWellFormed s') refusal h (λ e same _. subst IsWellFormed (sym same) w)
    (λ place makes.
    let found : (place < (s.config).max_publishers) × (occupant s.publisher_places place ≡ None) =
    free_place_is (s.config).max_publishers s.publisher_places place makes.0 in
    make_publisher_keeps environment s given place s' w found.0 found.1 makes.2)

-- A publisher that is made, or refused, lets no counter fall.
pub create_publisher_advances : {T U : Type 0} (environment : Environment) (s : State T U) (given : PublisherSettings)
    (s' : State T U) (refusal : Option PublisherCreateError)
    → CreatePublisher environment s given s' refusal → Advances s s'
create_publisher_advances environment s given s' refusal =
    create_publisher_by_steps Advances advance environment s given s' refusal
    (λ place. record { config = refl; next_port = omega arith; next_message = omega arith })
    (update_publisher_advances environment) warned_advances

-- A subscriber that is made, or refused, leaves the state well-formed.
pub create_subscriber_keeps : {T U : Type 0} (environment : Environment) (s : State T U) (given : SubscriberSettings)
    (s' : State T U) (refusal : Option SubscriberCreateError)
    → IsWellFormed s → CreateSubscriber environment s given s' refusal → IsWellFormed s'
create_subscriber_keeps environment s given s' refusal w h =
    subscriber_cases environment s given s' (IsWellFormed s') refusal h (λ e same _. subst IsWellFormed (sym same) w)
    (λ place makes.
    let found : (place < (s.config).max_subscribers) × (occupant s.subscriber_places place ≡ None) =
    free_place_is (s.config).max_subscribers s.subscriber_places place makes.0 in
    make_subscriber_keeps environment s given place s' w (ltb-false _ _ makes.1) found.0 found.1 makes.3)

-- A subscriber that is made, or refused, lets no counter fall.
pub create_subscriber_advances : {T U : Type 0} (environment : Environment) (s : State T U) (given : SubscriberSettings)
    (s' : State T U) (refusal : Option SubscriberCreateError)
    → CreateSubscriber environment s given s' refusal → Advances s s'
create_subscriber_advances environment s given s' refusal =
    create_subscriber_by_steps Advances advance environment s given s' refusal
    (λ place. record { config = refl; next_port = omega arith; next_message = omega arith })
    (update_subscriber_advances environment) warned_advances
