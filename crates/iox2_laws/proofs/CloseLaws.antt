-- What closing a port keeps.
use mathlib.Core.Path.{fun_ext}
use Rattle.std.proofs.Common.{◌≡◌, ℕ, ◌≤◌, ◌<◌, Bool, true, false, cond, ◌&&◌, ◌||◌, List, refl, sym, ap, subst, ◌∙◌}
use Rattle.std.proofs.Common.{arith, eqb, is_some, Option}
use Rattle.std.proofs.Common.{None, Some, ◌⊎◌, inl, inr, ⊎_elim}
use Rattle.std.specs.List.{filter}
use Rattle.std.specs.Option.{MatchOption, option_map, option_map_or}
use Rattle.std.proofs.lemmas.Bool.{true≢false, eqb-true, or_right, and_parts}
use Rattle.std.proofs.lemmas.Option.{none-some, same_Some}
use Rattle.iox2_machine.specs.machine.Limits.{buffer_limit, channel_count}
use Rattle.iox2_machine.specs.machine.Numbers.{contains, put_at}
use Rattle.iox2_machine.specs.machine.Places.{occupant, vacated, places_kept, is_port}
use Rattle.iox2_machine.specs.machine.Mailbox.{Mailbox, numbers_in, has_numbers, has_borrows, has_waiting}
use Rattle.iox2_machine.specs.machine.Mailbox.{waiting_count, waiting_dropped, IsWithin, OthersWithin}
use Rattle.iox2_machine.specs.machine.Records.{Publisher, Subscriber}
use Rattle.iox2_machine.specs.machine.State.{State, publishers_due, subscribers_due}
use Rattle.iox2_machine.specs.machine.Releases.{is_connected, pruned, subscriber_pruned, freed_if_unused}
use Rattle.iox2_machine.specs.machine.Ports.{mailbox_after_publisher, publisher_gone, subscribers_pruned}
use Rattle.iox2_machine.specs.machine.Ports.{publisher_closed, mailbox_after_subscriber, subscriber_shut}
use Rattle.iox2_machine.specs.machine.Ports.{subscriber_closed}
use Rattle.iox2_machine.specs.machine.WellFormed.{LeadsTo, PlacesAgree, subscriber_place, PublisherIsWellFormed}
use Rattle.iox2_machine.specs.machine.WellFormed.{SubscriberIsWellFormed, MailboxIsWellFormed}
use Rattle.iox2_machine.specs.machine.WellFormed.{IsWellFormed}
use Rattle.iox2_laws.specs.Laws.{Advances}
use Rattle.iox2_laws.proofs.Puts.{put_at-same, put_at-other, found_put, found_removed, found_mapped}
use Rattle.iox2_laws.proofs.FilterLemmas.{contains_in_filter, contains-filter, IsOnce-filter, length-filter_le}
use Rattle.iox2_laws.proofs.PlaceLemmas.{occupant-vacated, vacated_keeps, length-vacated, occupant-places_kept}
use Rattle.iox2_laws.proofs.PlaceLemmas.{places_kept_keeps, length-places_kept}
use Rattle.iox2_laws.proofs.PlaceLemmas.{injective_places_kept, is_port-true}
use Rattle.iox2_laws.proofs.MailboxLemmas.{has_numbers-borrows, has_numbers-waiting, has_numbers_dropped}
use Rattle.iox2_laws.proofs.MailboxLemmas.{IsWithin-dropped, OthersWithin-dropped, contains_in_dropped}
use Rattle.iox2_laws.proofs.Freed.{freed_if_unused_keeps, freed_if_unused_advances}
use Rattle.iox2_laws.proofs.PortChanges.{changed, places_agree_by, place_of_publisher, place_of_subscriber}
use Rattle.iox2_laws.proofs.PortChanges.{publisher_kept, subscriber_kept, subscriber_marked, loan_kept}
use Rattle.iox2_laws.proofs.PortChanges.{sender_reset_keeps, receiver_reset_keeps}
use Rattle.iox2_laws.proofs.PortChanges.{RestIsWellFormed, IsNearlyWellFormed, publishers_due_nearly}
use Rattle.iox2_laws.proofs.PortChanges.{subscribers_due_keeps}
use Rattle.iox2_laws.proofs.PortLaws.{advances_trans}

-- ---- mailboxes that lose what waits

-- A mailbox stays as it is, or what waits in it is lost.
abbrev pub LosesWaiting : (box box' : Mailbox) → Type 0
LosesWaiting box box' = (box' ≡ box) ⊎ (box' ≡ waiting_dropped box)

-- What holds of a mailbox and of the same without what waits holds of a mailbox that loses that, or doesn't.
after_loss : (P : Mailbox → Type 0) (box box' : Mailbox) → LosesWaiting box box' → P box → P (waiting_dropped box)
    → P box'
after_loss P box box' h same lost = ⊎_elim (λ e. subst P (sym e) same) (λ e. subst P (sym e) lost) h

cond_loses : (b : Bool) (box : Mailbox) → LosesWaiting box (cond b box (waiting_dropped box))
cond_loses true box = inl refl
cond_loses false box = inr refl

loss_has_fewer : (box box' : Mailbox) → LosesWaiting box box' → (n : ℕ) → contains (numbers_in box') n ≡ true
    → contains (numbers_in box) n ≡ true
loss_has_fewer box box' h n = after_loss (λ v. contains (numbers_in v) n ≡ true → contains (numbers_in box) n ≡ true)
    box box' h (λ k. k) (contains_in_dropped box n)

-- ---- departed publishers that are forgotten

-- A publisher is present, or the mailbox has numbers.
abbrev StillConnected : (o : Option Publisher) → Mailbox → Bool → Type 0
StillConnected o box b = b ≡ (is_some o || has_numbers box)

-- One that isn't present has numbers left.
left_of_absent : (o : Option Publisher) (box : Mailbox) (b : Bool) → StillConnected o box b → b ≡ true → o ≡ None
    → has_numbers box ≡ true
left_of_absent None box b e h absent = sym e ∙ h
left_of_absent (Some x) box b e h absent = absurd (none-some x (sym absent))

connected_by_numbers : (o : Option Publisher) (box : Mailbox) (b : Bool) → StillConnected o box b
    → has_numbers box ≡ true → b ≡ true
connected_by_numbers o box b e h = e ∙ or_right (is_some o) (has_numbers box) h

-- The receiver's end stays where there is a message.
receiver_end_left : (test : ℕ → Bool) (expired : List ℕ) (ends : List (Option ℕ)) (p : ℕ) → test p ≡ true
    → (contains expired p ≡ true) ⊎ LeadsTo ends p
    → (contains (filter test expired) p ≡ true) ⊎ LeadsTo (places_kept test ends) p
receiver_end_left test expired ends p passes h =
    ⊎_elim (λ l. inl (contains-filter test expired p l passes))
    (λ r. inr (r.0, places_kept_keeps test ends r.0 p r.1 passes)) h

-- No publisher is there that wasn't there before.
abbrev pub FewerPublishers : (f f' : ℕ → Option Publisher) → Type 0
FewerPublishers f f' = (p : ℕ) (x : Publisher) → f' p ≡ Some x → f p ≡ Some x

none_if_none : (o o' : Option Publisher) → ((x : Publisher) → o' ≡ Some x → o ≡ Some x) → o ≡ None → o' ≡ None
none_if_none o None fewer absent = refl
none_if_none o (Some x) fewer absent = absurd (none-some x (sym absent ∙ fewer x refl))

-- Where the publisher stood at its end's place it does so still, or it has numbers left.
stands_or_left : (place : ℕ) (o o' : Option Publisher) (box box' : Mailbox) (b : Bool)
    → ((x : Publisher) → o' ≡ Some x → o ≡ Some x)
    → StillConnected o' box' b → b ≡ true
    → MatchOption o (has_numbers box ≡ true) (λ x. x.place ≡ place)
    → MatchOption o' (has_numbers box' ≡ true) (λ x. x.place ≡ place)
stands_or_left place o None box box' b fewer e passes h = left_of_absent None box' b e passes refl
stands_or_left place o (Some x) box box' b fewer e passes h =
    subst (λ v. MatchOption v (has_numbers box ≡ true) (λ x. x.place ≡ place)) (fewer x refl) h

-- The place of a publisher that is gone is free, and the others agree.
vacated_agree : (limit : ℕ) (places : List (Option ℕ)) (f : ℕ → Option Publisher) (p : ℕ)
    → PlacesAgree limit places (λ i. place_of_publisher (f i))
    → PlacesAgree limit (vacated p places) (λ i. place_of_publisher (put_at f p None i))
vacated_agree limit places f p w = record {
  bound = omega (arith, w.bound, length-vacated p places);
  stands = λ id place e. elim (eqb id p) as (λ b. eqb id p ≡ b → place_of_publisher (cond b None (f id)) ≡ Some place
      → occupant (vacated p places) place ≡ Some id) [
        | true ↦ λ _ e. absurd (none-some place e)
        | false ↦ λ apart e. vacated_keeps p places place id (w.stands id place e) apart
      ] refl e;
  known = λ id place e. let old : (occupant places place ≡ Some id)
      × (eqb id p ≡ false) = occupant-vacated p places place id e in
      ap place_of_publisher (put_at-other f p None id old.1) ∙ w.known id place old.0;
}

module _ {T U : Type 0} where
  -- A subscriber that forgets the departed publishers of which it has nothing is well-formed.
  pruned_is : (s t : State T U) (test : ℕ → Bool) (q : ℕ) (y : Subscriber) → SubscriberIsWellFormed s q y
      → s.next_port ≤ t.next_port → FewerPublishers s.publishers t.publishers
      → ((p : ℕ) → StillConnected (t.publishers p) (t.mailboxes p q) (test p))
      → (y.is_open ≡ false → (p : ℕ) × (has_borrows (t.mailboxes p q) ≡ true))
      → SubscriberIsWellFormed (changed s t) q
      (record y { ends = places_kept test y.ends; expired = filter test y.expired })
  pruned_is s t test q y w more fewer connected used = record {
    is_known = omega (arith, w.is_known);
    some_room = w.some_room;
    buffer_bound = w.buffer_bound;
    ends_bound = omega (arith, w.ends_bound, length-places_kept test y.ends);
    ends_apart = injective_places_kept test y.ends w.ends_apart;
    ends_known = λ p h. omega (arith, w.ends_known p (h.0, (occupant-places_kept test y.ends h.0 p h.1).0));
    ends_stand = λ place p e. let old : (occupant y.ends place ≡ Some p)
        × (test p ≡ true) = occupant-places_kept test y.ends place p e in
        stands_or_left place (s.publishers p) (t.publishers p) (s.mailboxes p q) (t.mailboxes p q) (test p) (fewer p)
        (connected p) old.1 (w.ends_stand place p old.0);
    expired_bound = omega (arith, w.expired_bound, length-filter_le test y.expired);
    expired_once = IsOnce-filter test y.expired w.expired_once;
    expired_apart = λ p h k. w.expired_apart p (contains_in_filter test y.expired p h).0
        (k.0, (occupant-places_kept test y.ends k.0 p k.1).0);
    expired_known = λ p h. omega (arith, w.expired_known p (contains_in_filter test y.expired p h).0);
    expired_gone = λ p h. none_if_none (s.publishers p) (t.publishers p) (fewer p)
        (w.expired_gone p (contains_in_filter test y.expired p h).0);
    expired_kept = λ p h. left_of_absent (t.publishers p) (t.mailboxes p q) (test p) (connected p)
        (contains_in_filter test y.expired p h).1
        (none_if_none (s.publishers p) (t.publishers p) (fewer p)
        (w.expired_gone p (contains_in_filter test y.expired p h).0));
    is_used = used;
  }

  -- A mailbox that loses what waits, or doesn't, is well-formed where what is borrowed is still borrowed by somebody,
  -- and where what waits from a departed publisher waits for somebody.
  mailbox_kept : (s t : State T U) (p q : ℕ) → MailboxIsWellFormed s p q
      → s.next_port ≤ t.next_port → FewerPublishers s.publishers t.publishers
      → LosesWaiting (s.mailboxes p q) (t.mailboxes p q)
      → ((y : Subscriber) → t.subscribers q ≡ Some y → (waiting_count (s.mailboxes p q) ≤ y.buffer)
      × OthersWithin (channel_count s.config) y.buffer (s.mailboxes p q))
      → (has_borrows (t.mailboxes p q) ≡ true → has_borrows (s.mailboxes p q) ≡ true
      → (y : Subscriber) × (t.subscribers q ≡ Some y) × ((contains y.expired p ≡ true) ⊎ LeadsTo y.ends p))
      → (t.publishers p ≡ None → has_waiting (t.mailboxes p q) ≡ true
      → (y : Subscriber) × (t.subscribers q ≡ Some y) × (y.is_open ≡ true)
      × ((contains y.expired p ≡ true) ⊎ LeadsTo y.ends p))
      → MailboxIsWellFormed (changed s t) p q
  mailbox_kept s t p q w more fewer loses room ends departed = record {
    within = after_loss (λ v. IsWithin (buffer_limit s.config) (s.config).subscriber_max_borrowed_samples v) box
        (t.mailboxes p q) loses w.within
        (IsWithin-dropped (buffer_limit s.config) (s.config).subscriber_max_borrowed_samples box w.within);
    others = after_loss (λ v. OthersWithin (channel_count s.config) (buffer_limit s.config) v) box
        (t.mailboxes p q) loses w.others (OthersWithin-dropped _ _ box);
    room = λ y e. after_loss (λ v. waiting_count v ≤ y.buffer) box (t.mailboxes p q) loses (room y e).0 (omega arith);
    others_room = λ y e. after_loss (λ v. OthersWithin (channel_count s.config) y.buffer v) box (t.mailboxes p q) loses
        (room y e).1 (OthersWithin-dropped _ y.buffer box);
    below = λ k h. w.below k (loss_has_fewer box (t.mailboxes p q) loses k h);
    known = λ h. let old : (p < s.next_port) × (q < s.next_port) = w.known (numbers_before h) in
        (omega (arith, old.0), omega (arith, old.1));
    sender_end = λ x e h. w.sender_end x (fewer p x e) (numbers_before h);
    receiver_end = λ h. ends h (after_loss (λ v. has_borrows v ≡ true → has_borrows box ≡ true) box
        (t.mailboxes p q) loses (λ k. k) (λ k. k) h);
    departed = departed;
  }
    where
      box : Mailbox
      box = s.mailboxes p q

      numbers_before : has_numbers (t.mailboxes p q) ≡ true → has_numbers box ≡ true
      numbers_before = after_loss (λ v. has_numbers v ≡ true → has_numbers box ≡ true) box (t.mailboxes p q) loses
          (λ k. k) (λ k. has_numbers-borrows box (sym (has_numbers_dropped box) ∙ k))

  -- ---- a publisher is closed

  -- A closed publisher's mailboxes lose what waits for nobody, and the others stay.
  gone_loses : (s : State T U) (p : ℕ) (x : Publisher) (i q : ℕ)
      → LosesWaiting (s.mailboxes i q) ((publisher_gone s p x).mailboxes i q)
  gone_loses s p x i q =
      elim (eqb i p) as (λ b. eqb i p ≡ b
      → LosesWaiting (s.mailboxes i q) ((cond b (mailbox_after_publisher s p x) (s.mailboxes i)) q)) [
        | true ↦ λ same. subst (λ j. LosesWaiting (s.mailboxes j q) (mailbox_after_publisher s p x q))
            (sym (eqb-true i p same)) (cond_loses _ (s.mailboxes p q))
        | false ↦ λ _. inl refl
      ] refl

  -- What waits from a publisher that is gone waits for an open subscriber that has its end.
  gone_waits : (s : State T U) → IsWellFormed s → (p : ℕ) (x : Publisher) (i q : ℕ)
      → (publisher_gone s p x).publishers i ≡ None
      → has_waiting ((publisher_gone s p x).mailboxes i q) ≡ true
      → (y : Subscriber) × (s.subscribers q ≡ Some y) × (y.is_open ≡ true)
      × ((contains y.expired i ≡ true) ⊎ LeadsTo y.ends i)
  gone_waits s w p x i q gone h =
      elim (eqb i p) as (λ b. eqb i p ≡ b → cond b None (s.publishers i) ≡ None
      → has_waiting (cond b (mailbox_after_publisher s p x) (s.mailboxes i) q) ≡ true
      → (y : Subscriber) × (s.subscribers q ≡ Some y) × (y.is_open ≡ true)
      × ((contains y.expired i ≡ true) ⊎ LeadsTo y.ends i)) [
        | true ↦ λ same _ h. subst (λ j. (y : Subscriber) × (s.subscribers q ≡ Some y) × (y.is_open ≡ true)
            × ((contains y.expired j ≡ true) ⊎ LeadsTo y.ends j))
            (sym (eqb-true i p same)) (own_waits h)
        | false ↦ λ _ gone h. (w.mailboxes i q).departed gone h
      ] refl gone h
    where
      has_end : Subscriber → Bool
      has_end y = y.is_open && is_port (occupant y.ends x.place) p

      open_with_end : (o : Option Subscriber) → option_map_or has_end o false ≡ true
          → (y : Subscriber) × (o ≡ Some y) × (y.is_open ≡ true) × ((contains y.expired p ≡ true) ⊎ LeadsTo y.ends p)
      open_with_end None e = absurd (true≢false (sym e))
      open_with_end (Some y) e =
          let parts : (y.is_open ≡ true) × (is_port (occupant y.ends x.place) p ≡ true) =
          and_parts y.is_open (is_port (occupant y.ends x.place) p) e in
          (y, refl, parts.0, inr (x.place, is_port-true (occupant y.ends x.place) p parts.1))

      own_waits : has_waiting (mailbox_after_publisher s p x q) ≡ true
          → (y : Subscriber) × (s.subscribers q ≡ Some y) × (y.is_open ≡ true)
          × ((contains y.expired p ≡ true) ⊎ LeadsTo y.ends p)
      own_waits =
          elim (option_map_or has_end (s.subscribers q) false) as (λ b.
          option_map_or has_end (s.subscribers q) false ≡ b
          → has_waiting (cond b (s.mailboxes p q) (waiting_dropped (s.mailboxes p q))) ≡ true
          → (y : Subscriber) × (s.subscribers q ≡ Some y) × (y.is_open ≡ true)
          × ((contains y.expired p ≡ true) ⊎ LeadsTo y.ends p)) [
            | true ↦ λ e _. open_with_end (s.subscribers q) e
            | false ↦ λ _ h. absurd (true≢false (sym h))
          ] refl

  -- A publisher that is gone, and subscribers that forgot what departed, leave the state well-formed.
  publisher_gone_keeps : (s : State T U) → IsWellFormed s → (p : ℕ) (x : Publisher)
      → IsWellFormed (subscribers_pruned (publisher_gone s p x))
  publisher_gone_keeps s w p x = record {
    publisher_places = vacated_agree (s.config).max_publishers s.publisher_places s.publishers p w.publisher_places;
    subscriber_places = places_agree_by (s.config).max_subscribers s.subscriber_places (subscriber_place s)
        (subscriber_place s') w.subscriber_places
        (λ q. subscriber_stays q (s.subscribers q));
    publishers = λ i z e. found_removed s.publishers p i z (PublisherIsWellFormed s' i z) e (λ _ old.
        publisher_kept s s' i z (w.publishers i z old)
        (omega arith) (λ q. loss_has_fewer (s.mailboxes i q) (s'.mailboxes i q) (gone_loses s p x i q))
        (λ place q y at found. found_mapped (pruned t q) (s.subscribers q) y (y.place ≡ place) found
        (λ v g k. ap (λ (u : Subscriber). u.place) k ∙ (w.publishers i z old).ends_stand place q v at g)));
    subscribers = λ q y e. found_mapped (pruned t q) (s.subscribers q) y (SubscriberIsWellFormed s' q y) e (λ v g k.
        subst (SubscriberIsWellFormed s' q) (sym k)
        (pruned_is s s' (is_connected t q) q v (w.subscribers q v g) (omega arith) fewer (λ i. refl)
        (λ closed. let used : (i : ℕ) × (has_borrows (s.mailboxes i q) ≡ true) = (w.subscribers q v g).is_used closed in
        (used.0, borrowed_still used.0 q used.1))));
    mailboxes = λ i q. mailbox_kept s s' i q (w.mailboxes i q) (omega arith) fewer (gone_loses s p x i q)
        (λ y e. found_mapped (pruned t q) (s.subscribers q) y
        ((waiting_count (s.mailboxes i q) ≤ y.buffer)
        × OthersWithin (channel_count s.config) y.buffer (s.mailboxes i q)) e (λ v g k.
        subst (λ (u : Subscriber). (waiting_count (s.mailboxes i q) ≤ u.buffer)
        × OthersWithin (channel_count s.config) u.buffer (s.mailboxes i q)) (sym k)
        ((w.mailboxes i q).room v g, (w.mailboxes i q).others_room v g)))
        (λ h before. let found : (y : Subscriber) × (s.subscribers q ≡ Some y)
        × ((contains y.expired i ≡ true) ⊎ LeadsTo y.ends i) =
        (w.mailboxes i q).receiver_end before in (
          pruned t q found.0,
          ap (λ o. option_map (pruned t q) o) found.1,
          receiver_end_left (is_connected t q) (found.0).expired (found.0).ends i
              (connected_by_numbers (t.publishers i) (t.mailboxes i q) (is_connected t q i) refl
              (has_numbers-borrows (t.mailboxes i q) h)) found.2,
        ))
        (λ gone h. let found : (y : Subscriber) × (s.subscribers q ≡ Some y) × (y.is_open ≡ true)
        × ((contains y.expired i ≡ true) ⊎ LeadsTo y.ends i) =
        gone_waits s w p x i q gone h in (
          pruned t q found.0,
          ap (λ o. option_map (pruned t q) o) found.1,
          found.2,
          receiver_end_left (is_connected t q) (found.0).expired (found.0).ends i
              (connected_by_numbers (t.publishers i) (t.mailboxes i q) (is_connected t q i) refl
              (has_numbers-waiting (t.mailboxes i q) h)) found.3,
        ));
    loans = λ n l e. loan_kept s s' n l (w.loans n l e)
        (omega arith) (λ q.
        loss_has_fewer (s.mailboxes l.publisher q) (s'.mailboxes l.publisher q) (gone_loses s p x l.publisher q))
        (λ z found. (w.loans n l e).is_out z (fewer l.publisher z found));
  }
    where
      t : State T U
      t = publisher_gone s p x

      s' : State T U
      s' = subscribers_pruned t

      fewer : FewerPublishers s.publishers s'.publishers
      fewer i z e = found_removed s.publishers p i z (s.publishers i ≡ Some z) e (λ _ old. old)

      borrowed_still : (i q : ℕ) → has_borrows (s.mailboxes i q) ≡ true → has_borrows (s'.mailboxes i q) ≡ true
      borrowed_still i q = after_loss (λ v. has_borrows (s.mailboxes i q) ≡ true → has_borrows v ≡ true)
          (s.mailboxes i q) (s'.mailboxes i q)
          (gone_loses s p x i q) (λ h. h) (λ h. h)

      subscriber_stays : (q : ℕ) (o : Option Subscriber)
          → place_of_subscriber (option_map (pruned t q) o) ≡ place_of_subscriber o
      subscriber_stays q None = refl
      subscriber_stays q (Some y) = refl

  -- A publisher that is closed leaves the state well-formed.
  pub publisher_closed_keeps : (s : State T U) → IsWellFormed s → (p : ℕ) (x : Publisher) → s.publishers p ≡ Some x
      → IsWellFormed (publisher_closed s p x)
  publisher_closed_keeps s w p x here =
      let t : State T U = subscribers_pruned (publisher_gone s p x) in
      sender_reset_keeps (subscribers_due t) p (subscribers_due_keeps t (publisher_gone_keeps s w p x))

  -- A publisher that is closed lets no counter fall.
  pub publisher_closed_advances : (s : State T U) (p : ℕ) (x : Publisher) → Advances s (publisher_closed s p x)
  publisher_closed_advances s p x = record { config = refl; next_port = omega arith; next_message = omega arith }

  -- ---- a subscriber is closed

  -- A closed subscriber's mailboxes lose what waits from departed publishers, and the others stay.
  shut_loses : (s : State T U) (q p r : ℕ)
      → LosesWaiting (s.mailboxes p r) (put_at (s.mailboxes p) q (mailbox_after_subscriber s q p) r)
  shut_loses s q p r =
      elim (eqb r q) as (λ b. eqb r q ≡ b
      → LosesWaiting (s.mailboxes p r) (cond b (mailbox_after_subscriber s q p) (s.mailboxes p r))) [
        | true ↦ λ same. subst (λ j. LosesWaiting (s.mailboxes p j) (mailbox_after_subscriber s q p))
            (sym (eqb-true r q same)) (cond_loses _ (s.mailboxes p q))
        | false ↦ λ _. inl refl
      ] refl

  -- A subscriber would be well-formed if it were open.
  opened_is : (s : State T U) (q : ℕ) (y : Subscriber) → SubscriberIsWellFormed s q y
      → SubscriberIsWellFormed s q (record y { is_open = true })
  opened_is s q y w = subscriber_marked s q y true y.is_due w (λ closed. absurd (true≢false closed))

  -- The subscriber q is closed and has forgotten what departed; nobody is due for it yet.
  abbrev shut_and_pruned : State T U → (q : ℕ) → Subscriber → State T U
  shut_and_pruned s q y = record s {
    subscribers = put_at s.subscribers q (Some (pruned (subscriber_shut s q y) q (record y { is_open = false })));
    mailboxes = (subscriber_shut s q y).mailboxes;
  }

  -- Whoever is connected when the publishers are due is so before.
  shut_connected : (s : State T U) (q : ℕ) (y : Subscriber) (p : ℕ)
      → StillConnected (s.publishers p) ((shut_and_pruned s q y).mailboxes p q)
      (is_connected (subscriber_shut s q y) q p)
  shut_connected s q y p = present (s.publishers p) (has_numbers ((shut_and_pruned s q y).mailboxes p q))
    where
      present : (o : Option Publisher) (b : Bool)
          → (is_some (option_map {T = Publisher} {U = Publisher} (λ x. record x { is_due = true }) o) || b)
          ≡ (is_some o || b)
      present None b = refl
      present (Some x) b = refl

  -- the subscriber q is closed
  module _ (s : State T U) (w : IsWellFormed s) (q : ℕ) (y : Subscriber) (here : s.subscribers q ≡ Some y) where
    abbrev shut : State T U
    shut = subscriber_shut s q y

    abbrev after : State T U
    after = shut_and_pruned s q y

    abbrev port : Subscriber
    port = pruned shut q (record y { is_open = false })

    shut_and_pruned_rest : RestIsWellFormed (shut_and_pruned s q y)
    shut_and_pruned_rest = record {
      publisher_places = w.publisher_places;
      subscriber_places = places_agree_by (s.config).max_subscribers s.subscriber_places (subscriber_place s)
          (subscriber_place after) w.subscriber_places place_stays;
      publishers = λ p x e. publisher_kept s after p x (w.publishers p x e)
          (omega arith) (λ r. loss_has_fewer (s.mailboxes p r) (after.mailboxes p r) (shut_loses s q p r))
          (λ place r v at found.
          found_put s.subscribers q port (λ r v. occupant x.ends place ≡ Some r → v.place ≡ place) r v found
          (λ _ at. (w.publishers p x e).ends_stand place q y at here)
          (λ _ old at. (w.publishers p x e).ends_stand place r v at old) at);
      mailboxes = λ p r. mailbox_kept s after p r (w.mailboxes p r)
          (omega arith) (λ p x e. e) (shut_loses s q p r)
          (λ v e. found_put s.subscribers q port
          (λ r v. (waiting_count (s.mailboxes p r) ≤ v.buffer)
          × OthersWithin (channel_count s.config) v.buffer (s.mailboxes p r)) r v e
          (λ _. ((w.mailboxes p q).room y here, (w.mailboxes p q).others_room y here))
          (λ _ old. ((w.mailboxes p r).room v old, (w.mailboxes p r).others_room v old)))
          (λ h before. receiver_end_stays p r h ((w.mailboxes p r).receiver_end before))
          (departed_waits p r);
      loans = λ n l e. loan_kept s after n l (w.loans n l e)
          (omega arith) (λ r. loss_has_fewer (s.mailboxes l.publisher r) (after.mailboxes l.publisher r)
          (shut_loses s q l.publisher r)) (w.loans n l e).is_out;
    }
      where
        place_stays : (r : ℕ) → subscriber_place after r ≡ subscriber_place s r
        place_stays r =
            elim (eqb r q) as (λ b. eqb r q ≡ b
            → place_of_subscriber (cond b (Some port) (s.subscribers r)) ≡ subscriber_place s r) [
              | true ↦ λ same. ap place_of_subscriber (sym here) ∙ ap (subscriber_place s) (sym (eqb-true r q same))
              | false ↦ λ _. refl
            ] refl

        receiver_end_stays : (p r : ℕ) → has_borrows (after.mailboxes p r) ≡ true
            → (v : Subscriber) × (s.subscribers r ≡ Some v) × ((contains v.expired p ≡ true) ⊎ LeadsTo v.ends p)
            → (v : Subscriber) × (after.subscribers r ≡ Some v) × ((contains v.expired p ≡ true) ⊎ LeadsTo v.ends p)
        receiver_end_stays p r h found =
            elim (eqb r q) as (λ b. eqb r q ≡ b → (v : Subscriber) × (cond b (Some port) (s.subscribers r) ≡ Some v)
            × ((contains v.expired p ≡ true) ⊎ LeadsTo v.ends p)) [
              | true ↦ λ same. (
                port,
                refl,
                receiver_end_left (is_connected shut q) y.expired y.ends p
                    (connected_by_numbers (s.publishers p) (after.mailboxes p q) (is_connected shut q p)
                    (shut_connected s q y p)
                    (has_numbers-borrows (after.mailboxes p q)
                    (subst (λ j. has_borrows (after.mailboxes p j) ≡ true) (eqb-true r q same) h)))
                    (subst (λ (u : Subscriber). (contains u.expired p ≡ true) ⊎ LeadsTo u.ends p)
                    (same_Some found.0 y (sym found.1 ∙ ap s.subscribers (eqb-true r q same) ∙ here)) found.2),
              )
              | false ↦ λ _. found
            ] refl

        -- what waits from a departed publisher waits for another subscriber
        departed_waits : (p r : ℕ) → s.publishers p ≡ None → has_waiting (after.mailboxes p r) ≡ true
            → (v : Subscriber) × (after.subscribers r ≡ Some v) × (v.is_open ≡ true)
            × ((contains v.expired p ≡ true) ⊎ LeadsTo v.ends p)
        departed_waits p r gone h =
            elim (eqb r q) as (λ b. eqb r q ≡ b
            → has_waiting (cond b (mailbox_after_subscriber s q p) (s.mailboxes p r)) ≡ true
            → (v : Subscriber) × (cond b (Some port) (s.subscribers r) ≡ Some v) × (v.is_open ≡ true)
            × ((contains v.expired p ≡ true) ⊎ LeadsTo v.ends p)) [
              | true ↦ λ _ h. absurd (true≢false (sym h
                  ∙ ap (λ (o : Option Publisher).
                  has_waiting (cond (is_some o) (s.mailboxes p q) (waiting_dropped (s.mailboxes p q)))) gone))
              | false ↦ λ _ h. (w.mailboxes p r).departed gone h
            ] refl h

    -- A subscriber that is closed and has forgotten what departed leaves the state nearly well-formed.
    shut_and_pruned_nearly : IsNearlyWellFormed (shut_and_pruned s q y) q
    shut_and_pruned_nearly = record {
      rest = shut_and_pruned_rest;
      others = λ r v apart e.
          subscriber_kept s after r v (w.subscribers r v (sym (put_at-other s.subscribers q (Some port) r apart) ∙ e))
          (omega arith) (λ p. put_at-other (s.mailboxes p) q (mailbox_after_subscriber s q p) r apart) (λ p _. refl);
      own = λ v e. subst (λ (u : Subscriber). SubscriberIsWellFormed after q (record u { is_open = true }))
          (same_Some port v (sym (put_at-same s.subscribers q (Some port)) ∙ e))
          (pruned_is s after (is_connected shut q) q (record y { is_open = true })
          (opened_is s q y (w.subscribers q y here)) (omega arith) (λ p x e. e)
          (shut_connected s q y) (λ closed. absurd (true≢false closed)));
    }

  -- It is the same whether the publishers are due before the subscriber forgets, or after.
  shut_then_pruned : (s : State T U) (q : ℕ) (y : Subscriber)
      → publishers_due (shut_and_pruned s q y) ≡ subscriber_pruned (subscriber_shut s q y) q
  shut_then_pruned s q y =
      ap (λ subscribers. record (subscriber_shut s q y) { subscribers = subscribers }) (fun_ext (λ r. at r))
    where
      t : State T U
      t = subscriber_shut s q y

      at : (r : ℕ) → (shut_and_pruned s q y).subscribers r ≡ (subscriber_pruned t q).subscribers r
      at r =
          elim (eqb r q) as (λ b. cond b (Some (pruned t q (record y { is_open = false }))) (s.subscribers r)
          ≡ cond b (option_map (pruned t q) (t.subscribers q))
          (cond b (Some (record y { is_open = false })) (s.subscribers r))) [
            | true ↦ ap (λ o. option_map (pruned t q) o)
                (sym (put_at-same s.subscribers q (Some (record y { is_open = false }))))
            | false ↦ refl
          ]

  -- The state after a subscriber was closed and has forgotten what departed, before it goes if it has borrowed nothing.
  pub closed_nearly : (s : State T U) → IsWellFormed s → (q : ℕ) (y : Subscriber) → s.subscribers q ≡ Some y
      → IsNearlyWellFormed (subscriber_pruned (subscriber_shut s q y) q) q
  closed_nearly s w q y here =
      subst (λ t. IsNearlyWellFormed t q) (shut_then_pruned s q y)
      (publishers_due_nearly (shut_and_pruned s q y) q (shut_and_pruned_nearly s w q y here))

  -- A subscriber that is closed leaves the state well-formed.
  pub subscriber_closed_keeps : (s : State T U) → IsWellFormed s → (q : ℕ) (y : Subscriber) → s.subscribers q ≡ Some y
      → IsWellFormed (subscriber_closed s q y)
  subscriber_closed_keeps s w q y here =
      let t : State T U = subscriber_pruned (subscriber_shut s q y) q in
      receiver_reset_keeps (freed_if_unused t q) q (freed_if_unused_keeps t q (closed_nearly s w q y here))

  -- A subscriber that is closed lets no counter fall.
  pub subscriber_closed_advances : (s : State T U) (q : ℕ) (y : Subscriber) → Advances s (subscriber_closed s q y)
  subscriber_closed_advances s q y =
      let t : State T U = subscriber_pruned (subscriber_shut s q y) q in
      let a : Advances s (freed_if_unused t q) = advances_trans s t (freed_if_unused t q)
      (record { config = refl; next_port = omega arith; next_message = omega arith })
      (freed_if_unused_advances t q) in
      record { config = a.config; next_port = a.next_port; next_message = a.next_message }
