-- Subscribers and mailboxes in which nothing is new: a released sample keeps a state well-formed.
use Rattle.std.proofs.Common.{◌≡◌, ℕ, ◌≤◌, Bool, true, false, cond, ◌||◌, length, refl, sym, ap, subst, ◌∙◌, arith, eqb}
use Rattle.std.proofs.Common.{Option, None, Some, ◌⊎◌, inl, inr, ⊎_elim, MatchOption, is_some, le_trans, le_refl}
use Rattle.std.specs.List.{filter}
use Rattle.std.specs.Option.{option_map}
use Rattle.std.proofs.lemmas.Bool.{true≢false, or_right, eqb-true, eqb-false}
use Rattle.iox2_laws.proofs.Puts.{put_at-other, at_each, found_mapped}
use Rattle.iox2_laws.proofs.PortChanges.{publisher_in, subscriber_in, loan_kept, RestIsWellFormed, IsNearlyWellFormed}
use Rattle.iox2_laws.proofs.PortChanges.{with_rest, receiver_reset_keeps}
use Rattle.iox2_laws.proofs.Freed.{freed_if_unused_keeps, freed_if_unused_advances}
use Rattle.iox2_laws.proofs.FilterLemmas.{contains_in_filter, contains-filter, IsOnce-filter, length-filter_le}
use Rattle.iox2_laws.proofs.PlaceLemmas.{occupant-places_kept, places_kept_keeps, length-places_kept}
use Rattle.iox2_laws.proofs.PlaceLemmas.{injective_places_kept}
use Rattle.iox2_laws.proofs.MailboxLemmas.{has_numbers-borrows, has_numbers-waiting, IsWithin-released}
use Rattle.iox2_laws.proofs.MailboxLemmas.{contains_in_released, has_borrows_before_release, has_numbers_before_release}
use Rattle.iox2_laws.specs.Laws.{Advances}
use Rattle.iox2_machine.specs.machine.Limits.{buffer_limit, channel_count, expired_limit}
use Rattle.iox2_machine.specs.machine.Numbers.{put_at, contains}
use Rattle.iox2_machine.specs.machine.Places.{occupant}
use Rattle.iox2_machine.specs.machine.Mailbox.{Mailbox, numbers_in, has_numbers, has_borrows, has_waiting}
use Rattle.iox2_machine.specs.machine.Mailbox.{waiting_count, with_released, IsWithin, OthersWithin}
use Rattle.iox2_machine.specs.machine.Records.{Publisher, Subscriber}
use Rattle.iox2_machine.specs.machine.State.{State, Warnings, is_present}
use Rattle.iox2_machine.specs.machine.Releases.{is_connected, pruned, unborrowed, subscriber_pruned, released}
use Rattle.iox2_machine.specs.machine.Releases.{freed_if_unused}
use Rattle.iox2_machine.specs.machine.WellFormed.{LeadsTo, subscriber_place, PublisherIsWellFormed}
use Rattle.iox2_machine.specs.machine.WellFormed.{SubscriberIsWellFormed, MailboxIsWellFormed, IsWellFormed}

-- ---- less in the mailboxes

-- What a mailbox becomes where nothing is put into it: it keeps its bounds, no more waits, and no number is new.
pub record Shrinks (limit borrow_limit : ℕ) (box box' : Mailbox) : Type 0 where
  pub within : IsWithin limit borrow_limit box'
  pub waiting : waiting_count box' ≤ waiting_count box
  pub others : (channels buffer : ℕ) → OthersWithin channels buffer box → OthersWithin channels buffer box'
  pub numbers : (n : ℕ) → contains (numbers_in box') n ≡ true → contains (numbers_in box) n ≡ true
  pub some : has_numbers box' ≡ true → has_numbers box ≡ true

-- A mailbox that stays the same has nothing new.
pub shrinks_same : (limit borrow_limit : ℕ) (box : Mailbox) → IsWithin limit borrow_limit box
    → Shrinks limit borrow_limit box box
shrinks_same limit borrow_limit box w =
    record { within = w; waiting = omega arith; others = λ channels buffer h. h; numbers = λ n h. h; some = λ h. h }

-- ---- publishers that become due, and what is read of them

-- What stands where a departed publisher needs a message stands there with another such fact.
pub stands_with : (o : Option Publisher) (P P' : Type 0) (Q : Publisher → Type 0) → MatchOption o P Q → (P → P')
    → MatchOption o P' Q
stands_with None P P' Q h go = go h
stands_with (Some x) P P' Q h go = h

connected_stands : (o : Option Publisher) (some : Bool) (P : Type 0) (Q : Publisher → Type 0) → MatchOption o P Q
    → (is_some o || some) ≡ true
    → MatchOption o (some ≡ true) Q
connected_stands None some P Q h connected = connected
connected_stands (Some x) some P Q h connected = h

-- A record found after one was changed is a changed one, or it was there under another key.
pub found_changed : {A : Type 0} (f : ℕ → Option A) (k : ℕ) (g : A → A) (i : ℕ) (a : A) (R : Type 0)
    → put_at f k (option_map g (f k)) i ≡ Some a
    → (i ≡ k → (b : A) → f k ≡ Some b → a ≡ g b → R) → (eqb i k ≡ false → f i ≡ Some a → R) → R
found_changed f k g i a R e new old =
    elim (eqb i k) as (λ b. eqb i k ≡ b → cond b (option_map g (f k)) (f i) ≡ Some a → R) [
      | true ↦ λ same e. found_mapped g (f k) a R e (new (eqb-true i k same))
      | false ↦ λ apart e. old apart e
    ] refl e

-- What holds of one mailbox's new value, and of the others as they were, holds of all.
pub at_each_mailbox : (f : ℕ → ℕ → Mailbox) (p q : ℕ) (box : Mailbox) (P : ℕ → ℕ → Mailbox → Type 0) (i j : ℕ)
    → P p q box → P i j (f i j)
    → P i j (put_at f p (put_at (f p) q box) i j)
at_each_mailbox f p q box P i j new old =
    at_each f p (put_at (f p) q box) (λ i g. P i j (f i j) → P i j (g j)) i
    (λ _ old. at_each (f p) q box (λ j m. P p j m) j (λ _. new) (λ _. old))
    (λ _ old. old) old

module _ {T U : Type 0} where
  -- The state with these subscribers, mailboxes and warnings.
  abbrev pub with_receivers : State T U → (ℕ → Option Subscriber) → (ℕ → ℕ → Mailbox) → Warnings → State T U
  with_receivers s subscribers boxes warnings =
      record s { subscribers = subscribers; mailboxes = boxes; warnings = warnings }

  -- The subscribers keep their places and buffers, nothing is new in a mailbox, who has borrowed something knows of
  -- whom, and so does an open subscriber for which something waits from a departed publisher.
  pub record ReceiversAgree (s : State T U) (subscribers : ℕ → Option Subscriber) (boxes : ℕ → ℕ → Mailbox)
      (warnings : Warnings) : Type 0 where
    pub places : (q : ℕ) → subscriber_place (with_receivers s subscribers boxes warnings) q ≡ subscriber_place s q
    pub stays : (q : ℕ) (y : Subscriber) → subscribers q ≡ Some y
        → (z : Subscriber) × (s.subscribers q ≡ Some z) × (y.place ≡ z.place) × (y.buffer ≡ z.buffer)
    pub shrinks : (p q : ℕ)
        → Shrinks (buffer_limit s.config) (s.config).subscriber_max_borrowed_samples (s.mailboxes p q) (boxes p q)
    pub borrowed : (p q : ℕ) → has_borrows (boxes p q) ≡ true
        → (y : Subscriber) × (subscribers q ≡ Some y) × ((contains y.expired p ≡ true) ⊎ LeadsTo y.ends p)
    pub departed : (p q : ℕ) → s.publishers p ≡ None → has_waiting (boxes p q) ≡ true
        → (y : Subscriber) × (subscribers q ≡ Some y) × (y.is_open ≡ true)
        × ((contains y.expired p ≡ true) ⊎ LeadsTo y.ends p)

  publisher_agrees : (s : State T U) (subscribers : ℕ → Option Subscriber) (boxes : ℕ → ℕ → Mailbox)
      (warnings : Warnings)
      → ReceiversAgree s subscribers boxes warnings
      → (p : ℕ) (x : Publisher) → PublisherIsWellFormed s p x
      → PublisherIsWellFormed (with_receivers s subscribers boxes warnings) p x
  publisher_agrees s subscribers boxes warnings a p x b =
      publisher_in s (with_receivers s subscribers boxes warnings) p x b (le_refl s.next_port) (le_refl s.next_message)
      (λ q. (a.shrinks p q).numbers)
      (λ place q y e f.
      let g : (z : Subscriber) × (s.subscribers q ≡ Some z) × (y.place ≡ z.place) × (y.buffer ≡ z.buffer) =
      a.stays q y f in
      g.2 ∙ b.ends_stand place q g.0 e g.1)
      (λ n l e own. (l, e, own)) (λ n _ e. e)

  mailbox_agrees : (s : State T U) (subscribers : ℕ → Option Subscriber) (boxes : ℕ → ℕ → Mailbox) (warnings : Warnings)
      → ReceiversAgree s subscribers boxes warnings
      → (p q : ℕ) → MailboxIsWellFormed s p q → MailboxIsWellFormed (with_receivers s subscribers boxes warnings) p q
  mailbox_agrees s subscribers boxes warnings a p q b = record {
    within = (a.shrinks p q).within;
    room = λ y f.
        let g : (z : Subscriber) × (s.subscribers q ≡ Some z) × (y.place ≡ z.place) × (y.buffer ≡ z.buffer) =
        a.stays q y f in
        let old : waiting_count (s.mailboxes p q) ≤ (g.0).buffer = b.room g.0 g.1 in
        let less : waiting_count (boxes p q) ≤ waiting_count (s.mailboxes p q) = (a.shrinks p q).waiting in
        let same : y.buffer ≡ (g.0).buffer = g.3 in
        omega arith;
    others = (a.shrinks p q).others (channel_count s.config) (buffer_limit s.config) b.others;
    others_room = λ y f.
        let g : (z : Subscriber) × (s.subscribers q ≡ Some z) × (y.place ≡ z.place) × (y.buffer ≡ z.buffer) =
        a.stays q y f in
        subst (λ n. OthersWithin (channel_count s.config) n (boxes p q)) (sym g.3)
        ((a.shrinks p q).others (channel_count s.config) (g.0).buffer (b.others_room g.0 g.1));
    below = λ n h. b.below n ((a.shrinks p q).numbers n h);
    known = λ h. b.known ((a.shrinks p q).some h);
    sender_end = λ x e h. b.sender_end x e ((a.shrinks p q).some h);
    receiver_end = a.borrowed p q;
    departed = a.departed p q;
  }

  -- What agrees with a well-formed state is well-formed, but for its subscribers.
  pub receivers_agree : (s : State T U) (subscribers : ℕ → Option Subscriber) (boxes : ℕ → ℕ → Mailbox)
      (warnings : Warnings)
      → IsWellFormed s → ReceiversAgree s subscribers boxes warnings
      → RestIsWellFormed (with_receivers s subscribers boxes warnings)
  receivers_agree s subscribers boxes warnings w a = record {
    publisher_places = record {
      bound = w.publisher_places.bound;
      stands = w.publisher_places.stands;
      known = w.publisher_places.known;
    };
    subscriber_places = record {
      bound = w.subscriber_places.bound;
      stands = λ id place e. w.subscriber_places.stands id place (sym (a.places id) ∙ e);
      known = λ id place e. a.places id ∙ w.subscriber_places.known id place e;
    };
    publishers = λ p x e. publisher_agrees s subscribers boxes warnings a p x (w.publishers p x e);
    mailboxes = λ p q. mailbox_agrees s subscribers boxes warnings a p q (w.mailboxes p q);
    loans = λ n l e.
        loan_kept s (with_receivers s subscribers boxes warnings) n l (w.loans n l e) (le_refl s.next_port)
        (λ q. (a.shrinks l.publisher q).numbers) (w.loans n l e).is_out;
  }

  -- What agrees with a well-formed state is well-formed where its subscribers are.
  pub receivers_keep : (s : State T U) (subscribers : ℕ → Option Subscriber) (boxes : ℕ → ℕ → Mailbox)
      (warnings : Warnings)
      → IsWellFormed s → ReceiversAgree s subscribers boxes warnings
      → ((q : ℕ) (y : Subscriber) → subscribers q ≡ Some y
      → SubscriberIsWellFormed (with_receivers s subscribers boxes warnings) q y)
      → IsWellFormed (with_receivers s subscribers boxes warnings)
  receivers_keep s subscribers boxes warnings w a =
      with_rest (with_receivers s subscribers boxes warnings) (receivers_agree s subscribers boxes warnings w a)

  -- A subscriber whose mailboxes are left with something where they had it, and with something borrowed, is
  -- well-formed.
  pub subscriber_keeps : (s : State T U) (subscribers : ℕ → Option Subscriber) (boxes : ℕ → ℕ → Mailbox)
      (warnings : Warnings) (q : ℕ) (y : Subscriber)
      → SubscriberIsWellFormed s q y → ((p : ℕ) → has_numbers (s.mailboxes p q) ≡ true → has_numbers (boxes p q) ≡ true)
      → ((p : ℕ) → has_borrows (s.mailboxes p q) ≡ true → has_borrows (boxes p q) ≡ true)
      → SubscriberIsWellFormed (with_receivers s subscribers boxes warnings) q y
  subscriber_keeps s subscribers boxes warnings q y b left borrowed =
      subscriber_in s (with_receivers s subscribers boxes warnings) q y b (le_refl s.next_port)
      (λ place p _ h. stands_with (s.publishers p) (has_numbers (s.mailboxes p q) ≡ true)
      (has_numbers (boxes p q) ≡ true) (λ x. x.place ≡ place) h (left p))
      (λ p _ gone. gone) (λ p _. left p) borrowed

  -- ---- a sample is released

  pruned_place : (s : State T U) (q : ℕ) (o : Option Subscriber)
      → option_map {T = Subscriber} {U = ℕ} (λ y. y.place) (option_map (pruned s q) o) ≡ option_map
      {T = Subscriber} {U = ℕ} (λ y. y.place) o
  pruned_place s q None = refl
  pruned_place s q (Some y) = refl

  -- A subscriber that forgets whom it has no message of would be well-formed if it were open, whatever of its messages
  -- went.
  pub pruned_keeps : (s : State T U) (q : ℕ) (y : Subscriber) (subscribers : ℕ → Option Subscriber)
      (boxes : ℕ → ℕ → Mailbox) (warnings : Warnings)
      → SubscriberIsWellFormed s q y
      → SubscriberIsWellFormed (with_receivers s subscribers boxes warnings) q
      (record (pruned (with_receivers s subscribers boxes warnings) q y) { is_open = true })
  pruned_keeps s q y subscribers boxes warnings b =
      let test : ℕ → Bool = is_connected (with_receivers s subscribers boxes warnings) q in
      record {
        is_known = b.is_known;
        some_room = b.some_room;
        buffer_bound = b.buffer_bound;
        ends_bound = subst (λ n. n ≤ (s.config).max_publishers) (sym (length-places_kept test y.ends)) b.ends_bound;
        ends_apart = injective_places_kept test y.ends b.ends_apart;
        ends_known = λ p l. b.ends_known p (l.0, (occupant-places_kept test y.ends l.0 p l.1).0);
        ends_stand = λ place p h.
            let found : (occupant y.ends place ≡ Some p) × (test p ≡ true) =
            occupant-places_kept test y.ends place p h in
            connected_stands (s.publishers p) (has_numbers (boxes p q)) (has_numbers (s.mailboxes p q) ≡ true)
            (λ x. x.place ≡ place)
            (b.ends_stand place p found.0) found.1;
        expired_bound =
            (let old : length y.expired ≤ expired_limit s.config = b.expired_bound in
            let less : length (filter test y.expired) ≤ length y.expired = length-filter_le test y.expired in
            le_trans less old);
        expired_once = IsOnce-filter test y.expired b.expired_once;
        expired_apart = λ p h l. b.expired_apart p (contains_in_filter test y.expired p h).0
            (l.0, (occupant-places_kept test y.ends l.0 p l.1).0);
        expired_known = λ p h. b.expired_known p (contains_in_filter test y.expired p h).0;
        expired_gone = λ p h. b.expired_gone p (contains_in_filter test y.expired p h).0;
        expired_kept = λ p h.
            let found : (contains y.expired p ≡ true) × (test p ≡ true) = contains_in_filter test y.expired p h in
            subst (λ (o : Option Publisher). (is_some o || has_numbers (boxes p q)) ≡ true)
            (b.expired_gone p found.0) found.1;
        is_used = λ closed. absurd (true≢false closed);
      }

  -- A subscriber that forgets whom it has no message of still knows whom it has one of.
  pub pruned_knows : (s : State T U) (q p : ℕ) (y : Subscriber) → has_numbers (s.mailboxes p q) ≡ true
      → (contains y.expired p ≡ true) ⊎ LeadsTo y.ends p
      → (contains (pruned s q y).expired p ≡ true) ⊎ LeadsTo (pruned s q y).ends p
  pruned_knows s q p y h known =
      let here : is_connected s q p ≡ true = or_right (is_present s p) (has_numbers (s.mailboxes p q)) h in
      ⊎_elim
      (λ expired. inl (contains-filter (is_connected s q) y.expired p expired here))
      (λ leads. inr (leads.0, places_kept_keeps (is_connected s q) y.ends leads.0 p leads.1 here)) known

  -- The subscribers and the mailboxes after q has released the message n of p.
  abbrev pub subscribers_after_release : State T U → (p q n : ℕ) → ℕ → Option Subscriber
  subscribers_after_release s p q n =
      put_at s.subscribers q (option_map (pruned (unborrowed s p q n) q) (s.subscribers q))

  abbrev pub mailboxes_after_release : State T U → (p q n : ℕ) → ℕ → ℕ → Mailbox
  mailboxes_after_release s p q n = put_at s.mailboxes p (put_at (s.mailboxes p) q (with_released n (s.mailboxes p q)))

  released_shrinks : (s : State T U) → IsWellFormed s → (p q n i j : ℕ)
      → Shrinks (buffer_limit s.config) (s.config).subscriber_max_borrowed_samples (s.mailboxes i j)
      (mailboxes_after_release s p q n i j)
  released_shrinks s w p q n i j =
      at_each_mailbox s.mailboxes p q (with_released n (s.mailboxes p q))
      (λ i j box. Shrinks (buffer_limit s.config) (s.config).subscriber_max_borrowed_samples (s.mailboxes i j) box) i j
      (record {
        within = IsWithin-released (buffer_limit s.config) (s.config).subscriber_max_borrowed_samples n
            (s.mailboxes p q) (w.mailboxes p q).within;
        waiting = omega arith;
        others = λ channels buffer h. h;
        numbers = λ m h. contains_in_released n (s.mailboxes p q) m h;
        some = has_numbers_before_release n (s.mailboxes p q);
      })
      (shrinks_same (buffer_limit s.config) (s.config).subscriber_max_borrowed_samples (s.mailboxes i j)
      (w.mailboxes i j).within)

  released_borrows : (s : State T U) (p q n i j : ℕ) → has_borrows (mailboxes_after_release s p q n i j) ≡ true
      → has_borrows (s.mailboxes i j) ≡ true
  released_borrows s p q n i j =
      at_each_mailbox s.mailboxes p q (with_released n (s.mailboxes p q))
      (λ i j box. has_borrows box ≡ true → has_borrows (s.mailboxes i j) ≡ true) i j
      (has_borrows_before_release n (s.mailboxes p q)) (λ h. h)

  released_data : (s : State T U) (p q n i j : ℕ) → has_waiting (mailboxes_after_release s p q n i j) ≡ true
      → has_waiting (s.mailboxes i j) ≡ true
  released_data s p q n i j =
      at_each_mailbox s.mailboxes p q (with_released n (s.mailboxes p q))
      (λ i j box. has_waiting box ≡ true → has_waiting (s.mailboxes i j) ≡ true) i j
      (λ h. h) (λ h. h)

  -- the mailboxes of other subscribers stay
  released_apart : (s : State T U) (p q n i j : ℕ) → eqb j q ≡ false
      → mailboxes_after_release s p q n i j ≡ s.mailboxes i j
  released_apart s p q n i j =
      at_each_mailbox s.mailboxes p q (with_released n (s.mailboxes p q))
      (λ i j box. eqb j q ≡ false → box ≡ s.mailboxes i j) i j
      (λ apart. absurd (eqb-false q q apart refl)) (λ _. refl)

  released_agrees : (s : State T U) → IsWellFormed s → (p q n : ℕ)
      → ReceiversAgree s (subscribers_after_release s p q n) (mailboxes_after_release s p q n) s.warnings
  released_agrees s w p q n = record {
    places = λ r. at_each s.subscribers q (option_map (pruned (unborrowed s p q n) q) (s.subscribers q))
        (λ i o. option_map {T = Subscriber} {U = ℕ} (λ y. y.place) o ≡ subscriber_place s i) r
        (λ _. pruned_place (unborrowed s p q n) q (s.subscribers q)) (λ _. refl);
    stays = λ r y e. found_changed s.subscribers q (pruned (unborrowed s p q n) q) r y
        ((z : Subscriber) × (s.subscribers r ≡ Some z) × (y.place ≡ z.place) × (y.buffer ≡ z.buffer)) e
        (λ same z f g.
        (z, ap s.subscribers same ∙ f, ap (λ (v : Subscriber). v.place) g, ap (λ (v : Subscriber). v.buffer) g))
        (λ _ f. (y, f, refl, refl));
    shrinks = released_shrinks s w p q n;
    borrowed = λ i j h.
        let old : (y : Subscriber) × (s.subscribers j ≡ Some y) × ((contains y.expired i ≡ true) ⊎ LeadsTo y.ends i) =
        (w.mailboxes i j).receiver_end (released_borrows s p q n i j h) in
        elim (eqb j q) as (λ b. eqb j q ≡ b → (y : Subscriber)
        × (cond b (option_map (pruned (unborrowed s p q n) q) (s.subscribers q)) (s.subscribers j) ≡
        Some y) × ((contains y.expired i ≡ true) ⊎ LeadsTo y.ends i)) [
          | true ↦ λ same. (
            pruned (unborrowed s p q n) q old.0,
            ap (option_map (pruned (unborrowed s p q n) q)) (ap s.subscribers (sym (eqb-true j q same)) ∙ old.1),
            pruned_knows (unborrowed s p q n) q i old.0
                (ap (λ k. has_numbers (mailboxes_after_release s p q n i k)) (sym (eqb-true j q same))
                ∙ has_numbers-borrows (mailboxes_after_release s p q n i j) h) old.2,
          )
          | false ↦ λ _. old
        ] refl;
    departed = λ i j gone h.
        let old : (y : Subscriber) × (s.subscribers j ≡ Some y) × (y.is_open ≡ true)
        × ((contains y.expired i ≡ true) ⊎ LeadsTo y.ends i) =
        (w.mailboxes i j).departed gone (released_data s p q n i j h) in
        elim (eqb j q) as (λ b. eqb j q ≡ b → (y : Subscriber)
        × (cond b (option_map (pruned (unborrowed s p q n) q) (s.subscribers q)) (s.subscribers j) ≡
        Some y) × (y.is_open ≡ true) × ((contains y.expired i ≡ true) ⊎ LeadsTo y.ends i)) [
          | true ↦ λ same. (
            pruned (unborrowed s p q n) q old.0,
            ap (option_map (pruned (unborrowed s p q n) q)) (ap s.subscribers (sym (eqb-true j q same)) ∙ old.1),
            old.2,
            pruned_knows (unborrowed s p q n) q i old.0
                (ap (λ k. has_numbers (mailboxes_after_release s p q n i k)) (sym (eqb-true j q same))
                ∙ has_numbers-waiting (mailboxes_after_release s p q n i j) h) old.3,
          )
          | false ↦ λ _. old
        ] refl;
  }

  -- The state after a release, before a closed subscriber that has borrowed nothing more goes.
  pub released_nearly : (s : State T U) → IsWellFormed s → (p q n : ℕ)
      → IsNearlyWellFormed
      (with_receivers s (subscribers_after_release s p q n) (mailboxes_after_release s p q n) s.warnings) q
  released_nearly s w p q n = record {
    rest = receivers_agree s (subscribers_after_release s p q n) (mailboxes_after_release s p q n) s.warnings w
        (released_agrees s w p q n);
    others = λ r y apart e.
        subscriber_keeps s (subscribers_after_release s p q n) (mailboxes_after_release s p q n) s.warnings r y
        (w.subscribers r y (sym
        (put_at-other s.subscribers q (option_map (pruned (unborrowed s p q n) q) (s.subscribers q)) r apart) ∙ e))
        (λ i h. ap has_numbers (released_apart s p q n i r apart) ∙ h)
        (λ i h. ap has_borrows (released_apart s p q n i r apart) ∙ h);
    own = λ y e. found_changed s.subscribers q (pruned (unborrowed s p q n) q) q y
        (SubscriberIsWellFormed (with_receivers s (subscribers_after_release s p q n)
        (mailboxes_after_release s p q n) s.warnings) q (record y { is_open = true })) e
        (λ _ z f g.
        subst (λ (v : Subscriber). SubscriberIsWellFormed
        (with_receivers s (subscribers_after_release s p q n) (mailboxes_after_release s p q n) s.warnings) q
        (record v { is_open = true })) (sym g)
        (pruned_keeps s q z (subscribers_after_release s p q n) (mailboxes_after_release s p q n) s.warnings
        (w.subscribers q z f)))
        (λ apart _. absurd (eqb-false q q apart refl));
  }

  -- A release keeps a state well-formed.
  pub released_keeps : (s : State T U) → IsWellFormed s → (p q n : ℕ) → IsWellFormed (released s p q n)
  released_keeps s w p q n =
      let t : State T U = subscriber_pruned (unborrowed s p q n) q in
      receiver_reset_keeps (freed_if_unused t q) q (freed_if_unused_keeps t q (released_nearly s w p q n))

  -- No counter falls at a release.
  pub released_advances : (s : State T U) (p q n : ℕ) → Advances s (released s p q n)
  released_advances s p q n =
      let t : State T U = subscriber_pruned (unborrowed s p q n) q in
      let a : Advances t (freed_if_unused t q) = freed_if_unused_advances t q in
      record { config = a.config; next_port = a.next_port; next_message = a.next_message }
