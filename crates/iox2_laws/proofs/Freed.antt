-- A closed subscriber that has borrowed nothing goes.
use Rattle.std.proofs.Common.{◌≡◌, ℕ, ◌≤◌, Bool, true, false, cond, not, ◌&&◌, List, refl, sym, ap, subst, ◌∙◌, arith}
use Rattle.std.proofs.Common.{eqb, Option, None, Some, ◌⊎◌, ⊎_elim, le_refl}
use Rattle.std.specs.List.{list_all}
use Rattle.std.specs.Option.{option_map, option_map_or}
use Rattle.std.proofs.lemmas.Bool.{true≢false, eqb-true, and_parts, and_cases, cond_both, not-false, not-true}
use Rattle.std.proofs.lemmas.Option.{none-some}
use Rattle.iox2_laws.proofs.Puts.{put_at-other, found_removed}
use Rattle.iox2_laws.proofs.NumberLemmas.{contains_left, contains_right}
use Rattle.iox2_laws.proofs.FilterLemmas.{passes_all, some_fails}
use Rattle.iox2_laws.proofs.PlaceLemmas.{occupant-vacated, vacated_keeps, length-vacated, contains-occupants}
use Rattle.iox2_laws.proofs.PortChanges.{publisher_in, subscriber_in, subscriber_marked, mailbox_in, loan_kept}
use Rattle.iox2_laws.proofs.PortChanges.{RestIsWellFormed, IsNearlyWellFormed, with_rest, publishers_due_keeps}
use Rattle.iox2_laws.specs.Laws.{Advances}
use Rattle.iox2_machine.specs.machine.Numbers.{put_at, contains}
use Rattle.iox2_machine.specs.machine.Places.{occupant, occupants, vacated}
use Rattle.iox2_machine.specs.machine.Mailbox.{has_borrows, has_waiting, waiting_count, OthersWithin}
use Rattle.iox2_machine.specs.machine.Records.{Publisher, Subscriber}
use Rattle.iox2_machine.specs.machine.State.{State, connected_publishers}
use Rattle.iox2_machine.specs.machine.Releases.{is_unused, place_freed, freed_if_unused}
use Rattle.iox2_machine.specs.machine.WellFormed.{LeadsTo, PlacesAgree, PublisherIsWellFormed, SubscriberIsWellFormed}
use Rattle.iox2_machine.specs.machine.WellFormed.{MailboxIsWellFormed, IsWellFormed}
use Rattle.iox2_machine.specs.machine.Limits.{channel_count}

module _ {T U : Type 0} where
  removed_places : (s : State T U) → RestIsWellFormed s → (q : ℕ)
      → PlacesAgree (s.config).max_subscribers (vacated q s.subscriber_places)
      (λ r. option_map {T = Subscriber} {U = ℕ} (λ y. y.place) (put_at s.subscribers q None r))
  removed_places s w q = record {
    bound = subst (λ n. n ≤ (s.config).max_subscribers)
        (sym (length-vacated q s.subscriber_places)) w.subscriber_places.bound;
    stands = λ id place e.
        elim (eqb id q) as (λ b. eqb id q ≡ b
        → option_map {T = Subscriber} {U = ℕ} (λ y. y.place) (cond b None (s.subscribers id)) ≡ Some place
        → occupant (vacated q s.subscriber_places) place ≡ Some id) [
          | true ↦ λ _ e. absurd (none-some place e)
          | false ↦
              λ apart e. vacated_keeps q s.subscriber_places place id (w.subscriber_places.stands id place e) apart
        ] refl e;
    known = λ id place e.
        let old : (occupant s.subscriber_places place ≡ Some id) × (eqb id q ≡ false) =
        occupant-vacated q s.subscriber_places place id e in
        ap (option_map {T = Subscriber} {U = ℕ} (λ y. y.place)) (put_at-other s.subscribers q None id old.1)
        ∙ w.subscriber_places.known id place old.0;
  }

  removed_publisher : (s : State T U) (q : ℕ) (places : List (Option ℕ)) (p : ℕ) (x : Publisher)
      → PublisherIsWellFormed s p x
      → PublisherIsWellFormed (record s { subscribers = put_at s.subscribers q None; subscriber_places = places }) p x
  removed_publisher s q places p x b =
      publisher_in s (record s { subscribers = put_at s.subscribers q None; subscriber_places = places }) p x b
      (le_refl s.next_port) (le_refl s.next_message) (λ r n h. h)
      (λ place r y h e. found_removed s.subscribers q r y (y.place ≡ place) e (λ _ f. b.ends_stand place r y h f))
      (λ n l e own. (l, e, own)) (λ n _ e. e)

  removed_mailbox : (s : State T U) (q : ℕ) (places : List (Option ℕ)) (p r : ℕ)
      → (has_borrows (s.mailboxes p q) ≡ true → ⊥)
      → (s.publishers p ≡ None → has_waiting (s.mailboxes p q) ≡ true → ⊥) → MailboxIsWellFormed s p r
      → MailboxIsWellFormed (record s { subscribers = put_at s.subscribers q None; subscriber_places = places }) p r
  removed_mailbox s q places p r nothing lost b =
      mailbox_in s (record s { subscribers = put_at s.subscribers q None; subscriber_places = places }) p r b
      (le_refl s.next_port) (le_refl s.next_message) refl
      (λ y e. found_removed s.subscribers q r y ((waiting_count (s.mailboxes p r) ≤ y.buffer)
      × OthersWithin (channel_count s.config) y.buffer (s.mailboxes p r)) e
      (λ _ f. (b.room y f, b.others_room y f)))
      b.sender_end
      (λ h.
      elim (eqb r q) as (λ c. eqb r q ≡ c → (y : Subscriber) × (cond c None (s.subscribers r) ≡ Some y)
      × ((contains y.expired p ≡ true) ⊎ LeadsTo y.ends p)) [
        | true ↦ λ same. absurd (nothing (ap (λ k. has_borrows (s.mailboxes p k)) (sym (eqb-true r q same)) ∙ h))
        | false ↦ λ _. b.receiver_end h
      ] refl)
      (λ gone h.
      elim (eqb r q) as (λ c. eqb r q ≡ c
      → (y : Subscriber) × (cond c None (s.subscribers r) ≡ Some y) × (y.is_open ≡ true)
      × ((contains y.expired p ≡ true) ⊎ LeadsTo y.ends p)) [
        | true ↦ λ same. absurd (lost gone (ap (λ k. has_waiting (s.mailboxes p k)) (sym (eqb-true r q same)) ∙ h))
        | false ↦ λ _. b.departed gone h
      ] refl)

  -- A subscriber that has borrowed nothing, and for which nothing waits from departed publishers, may go.
  pub subscriber_removed_keeps : (s : State T U) (q : ℕ) → IsNearlyWellFormed s q
      → ((p : ℕ) → has_borrows (s.mailboxes p q) ≡ true → ⊥)
      → ((p : ℕ) → s.publishers p ≡ None → has_waiting (s.mailboxes p q) ≡ true → ⊥)
      → IsWellFormed
      (record s { subscribers = put_at s.subscribers q None; subscriber_places = vacated q s.subscriber_places })
  subscriber_removed_keeps s q nearly nothing lost = let w : RestIsWellFormed s = nearly.rest in record {
    publisher_places = record {
      bound = w.publisher_places.bound;
      stands = w.publisher_places.stands;
      known = w.publisher_places.known;
    };
    subscriber_places =
        (let a : PlacesAgree (s.config).max_subscribers (vacated q s.subscriber_places)
        (λ r. option_map {T = Subscriber} {U = ℕ} (λ y. y.place) (put_at s.subscribers q None r)) =
        removed_places s w q in
        record { bound = a.bound; stands = a.stands; known = a.known });
    publishers = λ p x e. removed_publisher s q (vacated q s.subscriber_places) p x (w.publishers p x e);
    subscribers = λ r y e.
        let b : SubscriberIsWellFormed s r y =
        found_removed s.subscribers q r y (SubscriberIsWellFormed s r y) e (λ apart f. nearly.others r y apart f) in
        subscriber_in s (record s {
          subscribers = put_at s.subscribers q None;
          subscriber_places = vacated q s.subscriber_places;
        }) r y b (le_refl s.next_port)
        (λ place p _ h. h) (λ p _ h. h) (λ p _ h. h) (λ p h. h);
    mailboxes = λ p r. removed_mailbox s q (vacated q s.subscriber_places) p r (nothing p) (lost p) (w.mailboxes p r);
    loans = λ n l e.
        loan_kept s (record s {
          subscribers = put_at s.subscribers q None;
          subscriber_places = vacated q s.subscriber_places;
        }) n l (w.loans n l e) (le_refl s.next_port)
        (λ r m h. h) (w.loans n l e).is_out;
  }

  -- Nothing of a subscriber's publishers is borrowed, and it is closed.
  abbrev closed_without_borrows : State T U → (q : ℕ) → Subscriber → Bool
  closed_without_borrows s q y =
      not y.is_open && list_all (λ p. not (has_borrows (s.mailboxes p q))) (connected_publishers y)

  unused_is : (s : State T U) (q : ℕ) (y : Subscriber) → s.subscribers q ≡ Some y
      → closed_without_borrows s q y ≡ is_unused s q
  unused_is s q y here = ap (λ o. option_map_or (λ (z : Subscriber). closed_without_borrows s q z) o false) (sym here)

  -- Nobody that is unused has borrowed anything.
  unused_borrows_nothing : (s : State T U) → RestIsWellFormed s → (q : ℕ) → is_unused s q ≡ true → (p : ℕ)
      → has_borrows (s.mailboxes p q) ≡ true → ⊥
  unused_borrows_nothing s w q unused p h =
      let at : (y : Subscriber) × (s.subscribers q ≡ Some y) × ((contains y.expired p ≡ true) ⊎ LeadsTo y.ends p) =
      (w.mailboxes p q).receiver_end h in
      let here : contains (connected_publishers at.0) p ≡ true =
      ⊎_elim (λ expired. contains_left (at.0).expired (occupants (at.0).ends) p expired)
      (λ leads. contains_right (at.0).expired (occupants (at.0).ends) p (contains-occupants (at.0).ends p leads))
      at.2 in
      let parts : (not (at.0).is_open ≡ true)
      × (list_all (λ r. not (has_borrows (s.mailboxes r q))) (connected_publishers at.0) ≡ true) =
      and_parts (not (at.0).is_open) (list_all (λ r. not (has_borrows (s.mailboxes r q))) (connected_publishers at.0))
      (unused_is s q at.0 at.1 ∙ unused) in
      let none : not (has_borrows (s.mailboxes p q)) ≡ true =
      passes_all (λ r. not (has_borrows (s.mailboxes r q))) (connected_publishers at.0) p parts.1 here in
      true≢false (sym none ∙ ap not h)

  -- For nobody that is unused something waits from a departed publisher.
  unused_waits_for_nothing : (s : State T U) → RestIsWellFormed s → (q : ℕ) → is_unused s q ≡ true
      → (p : ℕ) → s.publishers p ≡ None → has_waiting (s.mailboxes p q) ≡ true → ⊥
  unused_waits_for_nothing s w q unused p gone h =
      let at : (y : Subscriber) × (s.subscribers q ≡ Some y) × (y.is_open ≡ true)
      × ((contains y.expired p ≡ true) ⊎ LeadsTo y.ends p) =
      (w.mailboxes p q).departed gone h in
      let parts : (not (at.0).is_open ≡ true)
      × (list_all (λ r. not (has_borrows (s.mailboxes r q))) (connected_publishers at.0) ≡ true) =
      and_parts (not (at.0).is_open) (list_all (λ r. not (has_borrows (s.mailboxes r q))) (connected_publishers at.0))
      (unused_is s q at.0 at.1 ∙ unused) in
      true≢false (sym at.2 ∙ not-true (at.0).is_open parts.0)

  -- A closed subscriber that isn't unused has some message borrowed.
  borrows_of_used : (s : State T U) (q : ℕ) (y : Subscriber) → s.subscribers q ≡ Some y → is_unused s q ≡ false
      → y.is_open ≡ false
      → (p : ℕ) × (has_borrows (s.mailboxes p q) ≡ true)
  borrows_of_used s q y here used closed =
      ⊎_elim
      (λ opened. absurd (true≢false (sym (not-false y.is_open opened) ∙ closed)))
      (λ (some : list_all (λ r. not (has_borrows (s.mailboxes r q))) (connected_publishers y) ≡ false).
      let at : (p : ℕ) × (not (has_borrows (s.mailboxes p q)) ≡ false) =
      some_fails (λ r. not (has_borrows (s.mailboxes r q))) (connected_publishers y) some in
      (at.0, not-false (has_borrows (s.mailboxes at.0 q)) at.1))
      (and_cases (not y.is_open) (list_all (λ r. not (has_borrows (s.mailboxes r q))) (connected_publishers y))
      (unused_is s q y here ∙ used))

  used_subscriber : (s : State T U) (q : ℕ) (y : Subscriber) → SubscriberIsWellFormed s q (record y { is_open = true })
      → (y.is_open ≡ false → (p : ℕ) × (has_borrows (s.mailboxes p q) ≡ true)) → SubscriberIsWellFormed s q y
  used_subscriber s q y b used = subscriber_marked s q (record y { is_open = true }) y.is_open y.is_due b used

  -- A closed subscriber that has borrowed nothing goes, and the state is well-formed.
  pub freed_if_unused_keeps : (s : State T U) (q : ℕ) → IsNearlyWellFormed s q → IsWellFormed (freed_if_unused s q)
  freed_if_unused_keeps s q w =
      cond_both (is_unused s q) (place_freed s q) s IsWellFormed
      (λ unused. publishers_due_keeps
      (record s { subscribers = put_at s.subscribers q None; subscriber_places = vacated q s.subscriber_places })
      (subscriber_removed_keeps s q w (unused_borrows_nothing s w.rest q unused)
      (unused_waits_for_nothing s w.rest q unused)))
      (λ used. with_rest s w.rest (λ r y e. elim (eqb r q) as (λ b. eqb r q ≡ b → SubscriberIsWellFormed s r y) [
        | true ↦ λ same. subst (λ k. SubscriberIsWellFormed s k y) (sym (eqb-true r q same))
            (let here : s.subscribers q ≡ Some y = ap s.subscribers (sym (eqb-true r q same)) ∙ e in
            used_subscriber s q y (w.own y here) (borrows_of_used s q y here used))
        | false ↦ λ apart. w.others r y apart e
      ] refl))

  -- No counter falls where a subscriber goes.
  pub freed_if_unused_advances : (s : State T U) → (q : ℕ) → Advances s (freed_if_unused s q)
  freed_if_unused_advances s q =
      cond_both (is_unused s q) (place_freed s q) s (Advances s)
      (λ _. record { config = refl; next_port = omega arith; next_message = omega arith })
      (λ _. record { config = refl; next_port = omega arith; next_message = omega arith })
