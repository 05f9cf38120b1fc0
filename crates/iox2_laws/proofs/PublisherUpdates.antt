-- A publisher's update keeps a well-formed state.
use Rattle.std.proofs.Common.{◌≡◌, ℕ, ◌≤◌, ◌<◌, Bool, true, false, List, ◌++◌, refl, sym, ap, subst, ◌∙◌, arith, eqb}
use Rattle.std.proofs.Common.{Option, None, Some, ◌⊎◌, ⊎_elim, le_refl}
use Rattle.std.specs.List.{flat_map}
use Rattle.std.specs.Option.{option_map, is_some, MatchOption}
use Rattle.std.proofs.lemmas.Bool.{true≢false, ne_eqb}
use Rattle.std.proofs.lemmas.Option.{none-some, same_Some}
use Rattle.iox2_machine.specs.machine.Numbers.{put_at, contains, size}
use Rattle.iox2_machine.specs.machine.Places.{occupants}
use Rattle.iox2_machine.specs.machine.Mailbox.{Mailbox, numbers_in, has_numbers, has_borrows, has_waiting}
use Rattle.iox2_machine.specs.machine.Records.{Publisher, Subscriber, BlockedSend, Loan, Environment}
use Rattle.iox2_machine.specs.machine.State.{State, held, is_blocked}
use Rattle.iox2_machine.specs.machine.PublisherUpdate.{SenderSide, with_sender_side, UpdatePublisher}
use Rattle.iox2_machine.specs.machine.WellFormed.{LeadsTo, publisher_place, IsWellFormed, PublisherIsWellFormed}
use Rattle.iox2_machine.specs.machine.WellFormed.{SubscriberIsWellFormed, MailboxIsWellFormed, LoanIsWellFormed}
use Rattle.iox2_machine.specs.declared.errors.ConnectionFailure.{ConnectionFailure}
use Rattle.iox2_laws.specs.Laws.{Advances}
use Rattle.iox2_laws.proofs.Cases.{by_option, by_bool}
use Rattle.iox2_laws.proofs.OperationWalks.{advance, publisher_update_by_steps}
use Rattle.iox2_laws.proofs.Puts.{put_at-same, put_at-other, at_each, found_put}
use Rattle.iox2_laws.proofs.NumberLemmas.{contains_in_append, contains_left, contains_right, absent_from, size_le}
use Rattle.iox2_laws.proofs.NumberLemmas.{contains_in_flat_map, contains-flat_map}
use Rattle.iox2_laws.proofs.PlaceLemmas.{contains-occupants}
use Rattle.iox2_laws.proofs.MailboxLemmas.{has_numbers-contains}
use Rattle.iox2_laws.proofs.SenderSides.{KeepsLimits, FitsBuffer, OthersKeepLimits, OthersFit, SenderSideIsWellFormed}
use Rattle.iox2_laws.proofs.SenderSides.{sender_side_keeps}
use Rattle.iox2_laws.proofs.PortChanges.{publisher_in, subscriber_in, sender_reset_keeps}

module _ {T U : Type 0} where
  -- ---- the state with another side of the publisher p, which isn't blocked

  module _ (s : State T U) (w : IsWellFormed s) (p : ℕ) (x : Publisher) (present : s.publishers p ≡ Some x)
      (unblocked : x.blocked ≡ None)
      (side : SenderSide) (k : SenderSideIsWellFormed s p x side.ends side.mailboxes) where
    -- the publisher afterwards
    abbrev updated : Publisher
    updated = record x { ends = side.ends; is_due = false }

    abbrev after : State T U
    after = with_sender_side s p x side

    -- another publisher than p
    apart : (p' : ℕ) → s.publishers p' ≡ None → eqb p' p ≡ false
    apart p' gone = ne_eqb p' p (λ same. none-some x (sym gone ∙ ap s.publishers same ∙ present))

    -- a number that p holds was held before
    held_before : (n : ℕ) → contains (held after p updated) n ≡ true → contains (held s p x) n ≡ true
    held_before n h =
        let boxes : List ℕ = flat_map (λ q. numbers_in (s.mailboxes p q)) (occupants x.ends) in
        let sent : contains x.history n ≡ true → contains (held s p x) n ≡ true = λ h.
        contains_left (x.loans ++ x.history) boxes n (contains_right x.loans x.history n h) in
        ⊎_elim
        (λ h. contains_left (x.loans ++ x.history) boxes n h)
        (λ h.
        let f : (q : ℕ) × (contains (occupants side.ends) q ≡ true)
        × (contains (numbers_in (after.mailboxes p q)) n ≡ true) =
        contains_in_flat_map (λ q. numbers_in (after.mailboxes p q)) (occupants side.ends) n h in
        let g : contains (numbers_in (side.mailboxes f.0)) n ≡ true =
        subst (λ (m : ℕ → Mailbox). contains (numbers_in (m f.0)) n ≡ true)
        (put_at-same s.mailboxes p side.mailboxes) f.2 in
        ⊎_elim
        (λ old. contains_right (x.loans ++ x.history) boxes n
        (contains-flat_map (λ q. numbers_in (s.mailboxes p q)) (occupants x.ends) f.0 n
        (contains-occupants x.ends f.0
        ((w.mailboxes p f.0).sender_end x present (has_numbers-contains (s.mailboxes p f.0) n old))) old))
        sent (k.comes_from f.0 n g))
        (contains_in_append (x.loans ++ x.history)
        (flat_map (λ q. numbers_in (after.mailboxes p q)) (occupants side.ends)) n h)

    updated_keeps : PublisherIsWellFormed after p updated
    updated_keeps = let u : PublisherIsWellFormed s p x = w.publishers p x present in record {
      is_known = u.is_known;
      loans_bound = u.loans_bound;
      loans_once = u.loans_once;
      loans_below = u.loans_below;
      loans_held = u.loans_held;
      history_bound = u.history_bound;
      history_once = u.history_once;
      history_below = u.history_below;
      ends_bound = k.ends_bound;
      ends_apart = k.ends_apart;
      ends_known = k.ends_known;
      ends_stand = k.ends_stand;
      slots_bound = λ static. let old : size (held s p x) ≤ x.slots = u.slots_bound static in
          omega (arith, size_le (held after p updated) (held s p x) held_before);
      some_segment = u.some_segment;
      segments_bound = u.segments_bound;
      blocked = λ b e. absurd (none-some b (sym unblocked ∙ e));
    }

    -- the mailboxes of another publisher are as before
    same_boxes : (p' : ℕ) → eqb p' p ≡ false → after.mailboxes p' ≡ s.mailboxes p'
    same_boxes p' other = put_at-other s.mailboxes p side.mailboxes p' other

    other_publisher_keeps : (p' : ℕ) (z : Publisher) → eqb p' p ≡ false → PublisherIsWellFormed s p' z
        → PublisherIsWellFormed after p' z
    other_publisher_keeps p' z other u =
        publisher_in s after p' z u (le_refl s.next_port) (le_refl s.next_message)
        (λ q n h. ap (λ (m : ℕ → Mailbox). contains (numbers_in (m q)) n) (sym (same_boxes p' other)) ∙ h) u.ends_stand
        (λ n l e own. (l, e, own)) (λ n _ e. e)

    -- a publisher that is gone was gone before
    gone_before : (p' : ℕ) → after.publishers p' ≡ None → (s.publishers p' ≡ None) × (eqb p' p ≡ false)
    gone_before p' h =
        at_each s.publishers p (Some updated) (λ i o. o ≡ None → (s.publishers i ≡ None) × (eqb i p ≡ false)) p'
        (λ _ e. absurd (none-some updated (sym e))) (λ other e. (e, other)) h

    still_gone : (p' : ℕ) → s.publishers p' ≡ None
        → (after.publishers p' ≡ None) × (after.mailboxes p' ≡ s.mailboxes p')
    still_gone p' h = (put_at-other s.publishers p (Some updated) p' (apart p' h) ∙ h, same_boxes p' (apart p' h))

    subscriber_keeps : (q : ℕ) (y : Subscriber) → SubscriberIsWellFormed s q y → SubscriberIsWellFormed after q y
    subscriber_keeps q y v =
        subscriber_in s after q y v (le_refl s.next_port)
        (λ place p' _ old.
        at_each s.publishers p (Some updated) (λ i o.
        MatchOption (s.publishers i) (has_numbers (s.mailboxes i q) ≡ true) (λ (z : Publisher). z.place ≡ place)
        → MatchOption o (has_numbers (put_at s.mailboxes p side.mailboxes i q) ≡ true)
        (λ (z : Publisher). z.place ≡ place)) p'
        (λ _ old. subst (λ (o : Option Publisher).
        MatchOption o (has_numbers (s.mailboxes p q) ≡ true) (λ (z : Publisher). z.place ≡ place)) present old)
        (λ other old. subst (λ (m : ℕ → Mailbox).
        MatchOption (s.publishers p') (has_numbers (m q) ≡ true) (λ (z : Publisher). z.place ≡ place))
        (sym (same_boxes p' other)) old)
        old)
        (λ p' _ gone. (still_gone p' gone).0)
        (λ p' gone h. ap (λ (m : ℕ → Mailbox). has_numbers (m q)) (still_gone p' gone).1 ∙ h)
        (λ i. at_each s.mailboxes p side.mailboxes
        (λ i (m : ℕ → Mailbox). has_borrows (s.mailboxes i q) ≡ true → has_borrows (m q) ≡ true) i
        (λ _. k.borrowed q) (λ _ h. h))

    -- a number in a mailbox of p was given out
    below : (q n : ℕ) → contains (numbers_in (side.mailboxes q)) n ≡ true → n < s.next_message
    below q n h = ⊎_elim (λ old. (w.mailboxes p q).below n old) (λ old. (w.publishers p x present).history_below n old)
        (k.comes_from q n h)

    mailbox_keeps : (p' q : ℕ) → MailboxIsWellFormed after p' q
    mailbox_keeps p' q = record {
      within = at_each s.mailboxes p side.mailboxes (λ _ m. KeepsLimits s (m q)) p' (λ _. k.within q)
          (λ _. (w.mailboxes p' q).within);
      room = at_each s.mailboxes p side.mailboxes (λ _ m. FitsBuffer s q (m q)) p' (λ _. k.room q)
          (λ _. (w.mailboxes p' q).room);
      others = at_each s.mailboxes p side.mailboxes (λ _ m. OthersKeepLimits s (m q)) p' (λ _. k.others q)
          (λ _. (w.mailboxes p' q).others);
      others_room = at_each s.mailboxes p side.mailboxes (λ _ m. OthersFit s q (m q)) p' (λ _. k.others_room q)
          (λ _. (w.mailboxes p' q).others_room);
      below = at_each s.mailboxes p side.mailboxes
          (λ _ m. (n : ℕ) → contains (numbers_in (m q)) n ≡ true → n < s.next_message) p'
          (λ _. below q) (λ _. (w.mailboxes p' q).below);
      known = at_each s.mailboxes p side.mailboxes
          (λ i m. has_numbers (m q) ≡ true → (i < s.next_port) × (q < s.next_port)) p'
          (λ _ h. ((w.publishers p x present).is_known, k.known q h)) (λ _. (w.mailboxes p' q).known);
      sender_end = λ z e. found_put s.publishers p updated
          (λ i z. has_numbers (put_at s.mailboxes p side.mailboxes i q) ≡ true → LeadsTo z.ends q) p' z e
          (λ _ h. k.sender_end q
          (subst (λ (m : ℕ → Mailbox). has_numbers (m q) ≡ true) (put_at-same s.mailboxes p side.mailboxes) h))
          (λ other e h. (w.mailboxes p' q).sender_end z e
          (subst (λ (m : ℕ → Mailbox). has_numbers (m q) ≡ true) (same_boxes p' other) h));
      receiver_end = at_each s.mailboxes p side.mailboxes
          (λ i m. has_borrows (m q) ≡ true
          → (y : Subscriber) × (s.subscribers q ≡ Some y) × ((contains y.expired i ≡ true) ⊎ LeadsTo y.ends i)) p'
          (λ _ h. (w.mailboxes p q).receiver_end (k.borrows q h)) (λ _. (w.mailboxes p' q).receiver_end);
      departed = λ gone h. let before : (s.publishers p' ≡ None) × (eqb p' p ≡ false) = gone_before p' gone in
          (w.mailboxes p' q).departed before.0
          (subst (λ (m : ℕ → Mailbox). has_waiting (m q) ≡ true) (same_boxes p' before.1) h);
    }

    loan_keeps : (n : ℕ) (l : Loan T U) → LoanIsWellFormed s n l → LoanIsWellFormed after n l
    loan_keeps n l v = record {
      below = v.below;
      known = v.known;
      origin = v.origin;
      cells = v.cells;
      complete = v.complete;
      is_out = λ z e. found_put s.publishers p updated
          (λ i z. i ≡ l.publisher → (contains z.loans n ≡ true) × (contains z.history n ≡ false)) l.publisher z e
          (λ _ same. v.is_out x (ap s.publishers (sym same) ∙ present)) (λ _ e _. v.is_out z e) refl;
      unsent = λ q. at_each s.mailboxes p side.mailboxes
          (λ i m. i ≡ l.publisher → contains (numbers_in (m q)) n ≡ false) l.publisher
          (λ _ same. absent_from (numbers_in (side.mailboxes q)) n (λ h. ⊎_elim
          (λ old.
          true≢false (sym (subst (λ i. contains (numbers_in (s.mailboxes i q)) n ≡ true) same old) ∙ v.unsent q))
          (λ old. true≢false (sym old ∙ (v.is_out x (ap s.publishers (sym same) ∙ present)).1))
          (k.comes_from q n h)))
          (λ _ _. v.unsent q) refl;
    }

    -- each publisher is where it was
    same_place : (p' : ℕ) → publisher_place after p' ≡ publisher_place s p'
    same_place p' =
        at_each s.publishers p (Some updated)
        (λ i o. option_map {T = Publisher} {U = ℕ} (λ z. z.place) o ≡ publisher_place s i) p'
        (λ _. ap (option_map {T = Publisher} {U = ℕ} (λ z. z.place)) (sym present)) (λ _. refl)

    -- A state in which one publisher has another well-formed side is well-formed.
    pub with_sender_side_keeps : IsWellFormed (with_sender_side s p x side)
    with_sender_side_keeps = record {
      publisher_places = record {
        bound = (w.publisher_places).bound;
        stands = λ id place e. (w.publisher_places).stands id place (sym (same_place id) ∙ e);
        known = λ id place e. same_place id ∙ (w.publisher_places).known id place e;
      };
      subscriber_places = record {
        bound = (w.subscriber_places).bound;
        stands = (w.subscriber_places).stands;
        known = (w.subscriber_places).known;
      };
      publishers = λ p' z e. found_put s.publishers p updated (λ i z. PublisherIsWellFormed after i z) p' z e
          (λ _. updated_keeps) (λ other e. other_publisher_keeps p' z other (w.publishers p' z e));
      subscribers = λ q y e. subscriber_keeps q y (w.subscribers q y e);
      mailboxes = mailbox_keeps;
      loans = λ n l e. loan_keeps n l (w.loans n l e);
    }

  -- ---- the update

  -- a publisher that isn't blocked has no blocked send
  pub no_blocked_send : (s : State T U) (p : ℕ) (x : Publisher) → s.publishers p ≡ Some x → is_blocked s p ≡ false
      → x.blocked ≡ None
  no_blocked_send s p x e free = nothing x.blocked (rw e at free)
    where
      nothing : (o : Option BlockedSend) → is_some o ≡ false → o ≡ None
      nothing None h = refl
      nothing (Some b) h = absurd (true≢false h)

  -- An update of a publisher that isn't blocked keeps the state well-formed.
  pub update_publisher_keeps : (environment : Environment) (s : State T U) (p : ℕ) (s' : State T U)
      (failure : Option ConnectionFailure)
      → IsWellFormed s → is_blocked s p ≡ false → UpdatePublisher environment s p s' failure → IsWellFormed s'
  update_publisher_keeps environment s p s' failure w free h =
      by_option (IsWellFormed s') (s.publishers p) _ _ h (λ _ v. absurd v) (λ x present h.
      by_bool (IsWellFormed s') x.is_due _ _ h
      (λ _ h. subst IsWellFormed (sym h.2)
      (sender_reset_keeps (with_sender_side s p x h.0) p
      (with_sender_side_keeps s w p x present (no_blocked_send s p x present free) h.0
      (sender_side_keeps s w p x present environment h.0 failure h.1))))
      (λ _ h. subst IsWellFormed (sym h.0) w))

  -- A publisher's update leaves the configuration and the counters.
  pub update_publisher_advances : (environment : Environment) (s : State T U) (p : ℕ) (s' : State T U)
      (failure : Option ConnectionFailure)
      → UpdatePublisher environment s p s' failure → Advances s s'
  update_publisher_advances environment s p s' failure =
      publisher_update_by_steps Advances advance environment s p s' failure
      (λ x present side _. record { config = refl; next_port = omega arith; next_message = omega arith })

  abbrev LeavesPublisher : State T U → (p : ℕ) → Publisher → State T U → Type 0
  LeavesPublisher s p x s' =
      (x' : Publisher) × (s'.publishers p ≡ Some x') × (x'.loans ≡ x.loans) × (x'.history ≡ x.history)
      × (x'.blocked ≡ x.blocked) × (s'.loans ≡ s.loans)

  -- After its update the publisher is still present, with the same loans, history, blocked send and limits.
  pub update_publisher_leaves : (environment : Environment) (s : State T U) (p : ℕ) (s' : State T U)
      (failure : Option ConnectionFailure) (x : Publisher)
      → s.publishers p ≡ Some x → UpdatePublisher environment s p s' failure
      → (x' : Publisher) × (s'.publishers p ≡ Some x') × (x'.loans ≡ x.loans) × (x'.history ≡ x.history)
      × (x'.blocked ≡ x.blocked) × (s'.loans ≡ s.loans)
  update_publisher_leaves environment s p s' failure x present h =
      by_option (LeavesPublisher s p x s') (s.publishers p) _ _ h (λ _ v. absurd v) (λ z found h.
      let same : z ≡ x = same_Some z x (sym found ∙ present) in
      by_bool (LeavesPublisher s p x s') z.is_due _ _ h
      (λ _ h.
      let z' : Publisher = record z { ends = (h.0).ends; is_due = false } in
      subst (LeavesPublisher s p x) (sym h.2) (
        z',
        put_at-same s.publishers p (Some z'),
        ap (λ (y : Publisher). y.loans) same,
        ap (λ (y : Publisher). y.history) same,
        ap (λ (y : Publisher). y.blocked) same,
        refl,
      ))
      (λ _ h. subst (LeavesPublisher s p x) (sym h.0) (x, present, refl, refl, refl, refl)))

  abbrev ChangesEnds : (p : ℕ) → Publisher → State T U → Type 0
  ChangesEnds p x s' =
      (ends : List (Option ℕ)) × (due : Bool) × (s'.publishers p ≡ Some (record x { ends = ends; is_due = due }))

  -- A publisher's update changes nothing of it but its ends and whether it is due.
  pub update_publisher_changes : (environment : Environment) (s : State T U) (p : ℕ) (s' : State T U)
      (failure : Option ConnectionFailure) (x : Publisher)
      → s.publishers p ≡ Some x → UpdatePublisher environment s p s' failure
      → (ends : List (Option ℕ)) × (due : Bool) × (s'.publishers p ≡ Some (record x { ends = ends; is_due = due }))
  update_publisher_changes environment s p s' failure x present h =
      by_option (ChangesEnds p x s') (s.publishers p) _ _ h (λ _ v. absurd v) (λ z found h.
      by_bool (ChangesEnds p x s') z.is_due _ _ h
      (λ _ h. subst (ChangesEnds p x) (sym h.2) (
        (h.0).ends,
        false,
        put_at-same s.publishers p (Some (record z { ends = (h.0).ends; is_due = false }))
            ∙ ap (λ (y : Publisher). Some (record y { ends = (h.0).ends; is_due = false }))
            (same_Some z x (sym found ∙ present)),
      ))
      (λ _ h. subst (ChangesEnds p x) (sym h.0) (x.ends, x.is_due, present)))
