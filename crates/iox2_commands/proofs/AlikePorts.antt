-- Ports that are made and closed, and samples that are released, in two states that look alike to a subscriber.
use Rattle.std.proofs.Common.{◌≡◌, ℕ, ◌+◌, Bool, true, false, cond, not, ◌&&◌, ◌||◌, [], refl, sym, ap, subst, ◌∙◌}
use Rattle.std.proofs.Common.{Option, None, Some, is_some, eqb}
use Rattle.std.specs.Prelude.{nat_lt}
use Rattle.std.specs.Option.{option_map, option_map_or}
use Rattle.std.specs.List.{filter, list_all}
use Rattle.std.proofs.lemmas.Bool.{eqb-true}
use Rattle.iox2_machine.specs.machine.Limits.{last_number, buffer_limit}
use Rattle.iox2_machine.specs.machine.Numbers.{put_at}
use Rattle.iox2_machine.specs.machine.Places.{occupant, is_port, vacated, set_place, free_place, places_kept}
use Rattle.iox2_machine.specs.machine.Mailbox.{has_numbers, has_borrows, waiting_dropped, with_released}
use Rattle.iox2_machine.specs.machine.Records.{Publisher, Subscriber, PublisherSettings, SubscriberSettings}
use Rattle.iox2_machine.specs.machine.State.{State, connected_publishers, subscribers_due}
use Rattle.iox2_machine.specs.machine.PublisherUpdate.{UpdatePublisher}
use Rattle.iox2_machine.specs.machine.SubscriberUpdate.{UpdateSubscriber}
use Rattle.iox2_machine.specs.machine.Releases.{released, pruned, unborrowed, subscriber_pruned, is_unused, place_freed}
use Rattle.iox2_machine.specs.machine.Releases.{freed_if_unused}
use Rattle.iox2_machine.specs.machine.Ports.{new_publisher, new_subscriber, with_new_publisher, with_new_subscriber}
use Rattle.iox2_machine.specs.machine.Ports.{with_failure_warning, MakePublisher, CreatePublisher, MakeSubscriber}
use Rattle.iox2_machine.specs.machine.Ports.{CreateSubscriber, first_segment_fits, buffer_for, publisher_gone}
use Rattle.iox2_machine.specs.machine.Ports.{subscribers_pruned, publisher_closed, mailbox_after_publisher}
use Rattle.iox2_machine.specs.machine.Ports.{mailbox_after_subscriber, subscriber_shut, subscriber_closed, slots_for}
use Rattle.iox2_machine.specs.declared.service_config.ServiceConfig.{ServiceConfig}
use Rattle.iox2_machine.specs.declared.warning.Warning.{Warning}
use Rattle.iox2_machine.specs.declared.errors.ConnectionFailure.{ConnectionFailure}
use Rattle.iox2_machine.specs.declared.errors.PublisherCreateError.{PublisherCreateError}
use Rattle.iox2_machine.specs.declared.errors.PublisherCreateError.TheVariants.{UnableToCreatePortTag as NoPublisherTag}
use Rattle.iox2_machine.specs.declared.errors.PublisherCreateError.TheVariants.{ExceedsMaxSupportedPublishers}
use Rattle.iox2_machine.specs.declared.errors.PublisherCreateError.TheVariants.{UnableToCreateDataSegment}
use Rattle.iox2_machine.specs.declared.errors.SubscriberCreateError.{SubscriberCreateError}
use Rattle.iox2_machine.specs.declared.errors.SubscriberCreateError.TheVariants.{UnableToCreatePortTag as NoSubscriberTag}
use Rattle.iox2_machine.specs.declared.errors.SubscriberCreateError.TheVariants.{BufferSizeExceedsMaxSupportedBufferSizeOfService}
use Rattle.iox2_machine.specs.declared.errors.SubscriberCreateError.TheVariants.{ExceedsMaxSupportedSubscribers}
use Rattle.iox2_laws.proofs.Cases.{by_options, by_bools}
use Rattle.iox2_machine.specs.machine.Environments.{ample_memory}
use Rattle.iox2_commands.specs.Views.{public_part}
use Rattle.iox2_commands.proofs.AlikeViews.{View, view_of, others_put, others_same, row_put, cell_put}
use Rattle.iox2_commands.proofs.AlikeViews.{sender_reset_view, sender_reset_seen, receiver_reset_view}
use Rattle.iox2_commands.proofs.AlikeViews.{receiver_reset_seen}
use Rattle.iox2_commands.proofs.AlikeUpdates.{update_publisher_alike}
use Rattle.iox2_commands.proofs.AlikeReceives.{update_subscriber_alike}
use Rattle.iox2_laws.proofs.Puts.{put_at-same}
use Rattle.iox2_commands.proofs.ApartSteps.{public_map, update_apart}

-- publishers that are all due
abbrev all_due : (ℕ → Option Publisher) → ℕ → Option Publisher
all_due publishers p = option_map {T = Publisher} {U = Publisher} (λ x. record x { is_due = true }) (publishers p)

-- a subscriber that takes no messages any more
abbrev shut_record : Subscriber → Subscriber
shut_record y = record y { is_open = false }

module _ {T U : Type 0} (q : ℕ) where
  -- each record is changed so that its public part stays
  mapped_seen : (s : State T U) (g : ℕ → Subscriber → Subscriber)
      → ((r : ℕ) (y : Subscriber) → public_part (Some (g r y)) ≡ public_part (Some y))
      → view_of q (record s { subscribers = λ r. option_map {T = Subscriber} (g r) (s.subscribers r) })
      ≡ record (view_of q s) { own = option_map {T = Subscriber} (g q) (s.subscribers q) }
  mapped_seen s g same = λ i. record (view_of q s) {
    own = option_map {T = Subscriber} (g q) (s.subscribers q);
    others = λ r. public_map (g r) (same r) (s.subscribers r) i;
  }

  abbrev due_view : View T U → View T U
  due_view v = record v { own = option_map {T = Subscriber} (λ y. record y { is_due = true }) v.own }

  subscribers_due_seen : (s : State T U) → view_of q (subscribers_due s) ≡ due_view (view_of q s)
  subscribers_due_seen s = mapped_seen s (λ r y. record y { is_due = true }) (λ r y. refl)

  -- a warning isn't seen
  warning_seen : (s : State T U) (warning : ConnectionFailure → Warning) (failure : Option ConnectionFailure)
      → view_of q (with_failure_warning s warning failure) ≡ view_of q s
  warning_seen s warning None = refl
  warning_seen s warning (Some e) = refl

  -- ---- a publisher is made

  new_publisher_alike : (a b : State T U) (given : PublisherSettings) (place : ℕ) → view_of q a ≡ view_of q b
      → view_of q (with_new_publisher a given place) ≡ view_of q (with_new_publisher b given place)
  new_publisher_alike a b given place e =
      subscribers_due_seen (before a)
      ∙ (λ i. due_view (record (e i) {
        next_port = (e i).next_port + 1;
        publishers = put_at (e i).publishers (e i).next_port (Some (made (e i).config));
        publisher_places = set_place (e i).publisher_places place (Some (e i).next_port);
      }))
      ∙ sym (subscribers_due_seen (before b))
    where
      made : ServiceConfig → Publisher
      made c = record {
        place = place;
        slots = slots_for c given;
        max_loaned_samples = given.max_loaned_samples;
        allocation_strategy = given.allocation_strategy;
        initial_max_slice_len = given.initial_max_slice_len;
        longest_granted = 0;
        segments = 1;
        backpressure_strategy = given.backpressure_strategy;
        backpressure_handler = given.backpressure_handler;
        degradation_handler = given.degradation_handler;
        loans = [];
        history = [];
        ends = [];
        is_due = true;
        blocked = None;
      }

      before : State T U → State T U
      before s = record s {
        next_port = s.next_port + 1;
        publishers = put_at s.publishers s.next_port (Some (new_publisher s given place));
        publisher_places = set_place s.publisher_places place (Some s.next_port);
      }

  abbrev PublisherMade : (a' b' : State T U) (refusal refusal' : Option PublisherCreateError) → Type 0
  PublisherMade a' b' refusal refusal' = (view_of q a' ≡ view_of q b') × (refusal ≡ refusal')

  no_publisher : (a b a' b' : State T U) (v refusal refusal' : Option PublisherCreateError) → view_of q a ≡ view_of q b
      → (a' ≡ a) × (refusal ≡ v)
      → (b' ≡ b) × (refusal' ≡ v) → PublisherMade a' b' refusal refusal'
  no_publisher a b a' b' v refusal refusal' e h k = (ap (view_of q) h.0 ∙ e ∙ sym (ap (view_of q) k.0), h.1 ∙ sym k.1)

  make_publisher_alike : (a b a' b' : State T U) (given : PublisherSettings) (place : ℕ)
      (refusal refusal' : Option PublisherCreateError) → view_of q a ≡ view_of q b
      → MakePublisher ample_memory a given place a' refusal → MakePublisher ample_memory b given place b' refusal'
      → PublisherMade a' b' refusal refusal'
  make_publisher_alike a b a' b' given place None None e h k =
      let k2 : UpdatePublisher ample_memory (with_new_publisher b given place) a.next_port k.0 k.1 =
      subst (λ (p : ℕ). UpdatePublisher ample_memory (with_new_publisher b given place) p k.0 k.1)
      (sym (ap (λ (v : View T U). v.next_port) e)) k.2 in
      let updated : (view_of q h.0 ≡ view_of q k.0) × (h.1 ≡ k.1) =
      update_publisher_alike q (with_new_publisher a given place) (with_new_publisher b given place) h.0 k.0 a.next_port
      h.1 k.1 (new_publisher_alike a b given place e) h.2 k2 in (
        ap (view_of q) h.3 ∙ warning_seen h.0 _ h.1 ∙ updated.0 ∙ sym (warning_seen k.0 _ k.1)
            ∙ sym (ap (view_of q) k.3),
        refl,
      )
  make_publisher_alike a b a' b' given place None (Some x) e h k = absurd k.0
  make_publisher_alike a b a' b' given place (Some x) refusal' e h k = absurd h.0

  -- a publisher is made in both or refused in both
  pub create_publisher_alike : (a b a' b' : State T U) (given : PublisherSettings)
      (refusal refusal' : Option PublisherCreateError) → view_of q a ≡ view_of q b
      → CreatePublisher ample_memory a given a' refusal → CreatePublisher ample_memory b given b' refusal'
      → PublisherMade a' b' refusal refusal'
  create_publisher_alike a b a' b' given refusal refusal' e h k =
      let Goal : Type 0 = PublisherMade a' b' refusal refusal' in
      by_bools Goal (eqb a.next_port last_number) (eqb b.next_port last_number) _ _ _ _
      (ap (λ (v : View T U). eqb v.next_port last_number) e) h k
      (λ _ h k. no_publisher a b a' b' (Some NoPublisherTag) refusal refusal' e h k) (λ _ h k.
      by_options Goal (free_place (a.config).max_publishers a.publisher_places)
      (free_place (b.config).max_publishers b.publisher_places) _ _ _ _
      (ap (λ (v : View T U). free_place (v.config).max_publishers v.publisher_places) e) h k
      (λ _ h k. no_publisher a b a' b' (Some ExceedsMaxSupportedPublishers) refusal refusal' e h k) (λ place _ h k.
      by_bools Goal (first_segment_fits a.config given) (first_segment_fits b.config given) _ _ _ _
      (ap (λ (v : View T U). first_segment_fits v.config given) e) h k
      (λ _ h k. make_publisher_alike a b a' b' given place refusal refusal' e h k)
      (λ _ h k. no_publisher a b a' b' (Some UnableToCreateDataSegment) refusal refusal' e h k)))

  -- ---- a subscriber is made

  abbrev new_subscriber_view : SubscriberSettings → (place : ℕ) → View T U → View T U
  new_subscriber_view given place v = record v {
    next_port = v.next_port + 1;
    publishers = λ p. option_map {T = Publisher} (λ x. record x { is_due = true }) (v.publishers p);
    subscriber_places = set_place v.subscriber_places place (Some v.next_port);
    others = put_at v.others v.next_port (public_part (Some (new_subscriber given place)));
    own = cond (eqb q v.next_port) (Some (new_subscriber given place)) v.own;
  }

  new_subscriber_seen : (s : State T U) (given : SubscriberSettings) (place : ℕ)
      → view_of q (with_new_subscriber s given place) ≡ new_subscriber_view given place (view_of q s)
  new_subscriber_seen s given place = λ i. record (new_subscriber_view given place (view_of q s)) {
    others = λ r. others_put s s.next_port (Some (new_subscriber given place)) r i;
  }

  abbrev SubscriberMade : (a' b' : State T U) (refusal refusal' : Option SubscriberCreateError) → Type 0
  SubscriberMade a' b' refusal refusal' = (view_of q a' ≡ view_of q b') × (refusal ≡ refusal')

  no_subscriber : (a b a' b' : State T U) (v refusal refusal' : Option SubscriberCreateError)
      → view_of q a ≡ view_of q b → (a' ≡ a) × (refusal ≡ v)
      → (b' ≡ b) × (refusal' ≡ v) → SubscriberMade a' b' refusal refusal'
  no_subscriber a b a' b' v refusal refusal' e h k = (ap (view_of q) h.0 ∙ e ∙ sym (ap (view_of q) k.0), h.1 ∙ sym k.1)

  -- the first update of a subscriber: of q itself, or of another
  first_update_alike : (a b a' b' : State T U) (r : ℕ) (f g : Option ConnectionFailure) → view_of q a ≡ view_of q b
      → UpdateSubscriber ample_memory a r a' f
      → UpdateSubscriber ample_memory b r b' g → view_of q a' ≡ view_of q b'
  first_update_alike a b a' b' r f g e h k =
      elim (eqb q r) as (λ c. eqb q r ≡ c → view_of q a' ≡ view_of q b') [
        | true ↦ λ t.
            let same : r ≡ q = sym (eqb-true q r t) in
            (update_subscriber_alike q a b a' b' f g e (subst (λ i. UpdateSubscriber ample_memory a i a' f) same h)
            (subst (λ i. UpdateSubscriber ample_memory b i b' g) same k)).0
        | false ↦ λ apart.
            update_apart q r apart ample_memory a a' f h ∙ e ∙ sym (update_apart q r apart ample_memory b b' g k)
      ] refl

  make_subscriber_alike : (a b a' b' : State T U) (given : SubscriberSettings) (place : ℕ)
      (refusal refusal' : Option SubscriberCreateError) → view_of q a ≡ view_of q b
      → MakeSubscriber ample_memory a given place a' refusal → MakeSubscriber ample_memory b given place b' refusal'
      → SubscriberMade a' b' refusal refusal'
  make_subscriber_alike a b a' b' given place None None e h k =
      let k2 : UpdateSubscriber ample_memory (with_new_subscriber b given place) a.next_port k.0 k.1 =
      subst (λ (r : ℕ). UpdateSubscriber ample_memory (with_new_subscriber b given place) r k.0 k.1)
      (sym (ap (λ (v : View T U). v.next_port) e)) k.2 in
      let begun : view_of q (with_new_subscriber a given place) ≡ view_of q (with_new_subscriber b given place) =
      new_subscriber_seen a given place ∙ ap (new_subscriber_view given place) e
      ∙ sym (new_subscriber_seen b given place) in (
        ap (view_of q) h.3 ∙ warning_seen h.0 _ h.1
            ∙ first_update_alike (with_new_subscriber a given place)
            (with_new_subscriber b given place) h.0 k.0 a.next_port h.1 k.1 begun h.2 k2
            ∙ sym (warning_seen k.0 _ k.1) ∙ sym (ap (view_of q) k.3),
        refl,
      )
  make_subscriber_alike a b a' b' given place None (Some x) e h k = absurd k.0
  make_subscriber_alike a b a' b' given place (Some x) refusal' e h k = absurd h.0

  -- a subscriber is made in both or refused in both
  pub create_subscriber_alike : (a b a' b' : State T U) (given : SubscriberSettings)
      (refusal refusal' : Option SubscriberCreateError) → view_of q a ≡ view_of q b
      → CreateSubscriber ample_memory a given a' refusal → CreateSubscriber ample_memory b given b' refusal'
      → SubscriberMade a' b' refusal refusal'
  create_subscriber_alike a b a' b' given refusal refusal' e h k =
      let Goal : Type 0 = SubscriberMade a' b' refusal refusal' in
      by_bools Goal (eqb a.next_port last_number) (eqb b.next_port last_number) _ _ _ _
      (ap (λ (v : View T U). eqb v.next_port last_number) e) h k
      (λ _ h k. no_subscriber a b a' b' (Some NoSubscriberTag) refusal refusal' e h k) (λ _ h k.
      by_bools Goal (nat_lt (buffer_limit a.config) (buffer_for given))
      (nat_lt (buffer_limit b.config) (buffer_for given)) _ _ _ _
      (ap (λ (v : View T U). nat_lt (buffer_limit v.config) (buffer_for given)) e) h k
      (λ _ h k. no_subscriber a b a' b' (Some BufferSizeExceedsMaxSupportedBufferSizeOfService) refusal refusal' e h k)
      (λ _ h k.
      by_options Goal (free_place (a.config).max_subscribers a.subscriber_places)
      (free_place (b.config).max_subscribers b.subscriber_places) _ _ _ _
      (ap (λ (v : View T U). free_place (v.config).max_subscribers v.subscriber_places) e) h k
      (λ _ h k. no_subscriber a b a' b' (Some ExceedsMaxSupportedSubscribers) refusal refusal' e h k)
      (λ place _ h k. make_subscriber_alike a b a' b' given place refusal refusal' e h k)))

  -- ---- a publisher is closed

  abbrev gone_view : (p : ℕ) → Publisher → View T U → View T U
  gone_view p x v = record v {
    publishers = put_at v.publishers p None;
    publisher_places = vacated p v.publisher_places;
    mailboxes = put_at v.mailboxes p
        (cond (option_map_or (λ (y : Subscriber). y.is_open && is_port (occupant y.ends x.place) p) v.own false)
        (v.mailboxes p) (waiting_dropped (v.mailboxes p)));
  }

  gone_seen : (s : State T U) (p : ℕ) (x : Publisher) → view_of q (publisher_gone s p x) ≡ gone_view p x (view_of q s)
  gone_seen s p x = λ i. record (gone_view p x (view_of q s))
      { mailboxes = λ k. row_put q s.mailboxes p (mailbox_after_publisher s p x) k i }

  -- the subscriber without departed publishers, told from its view
  abbrev pruned_in : View T U → Subscriber → Subscriber
  pruned_in v y = record y {
    ends = places_kept (λ p. is_some (v.publishers p) || has_numbers (v.mailboxes p)) y.ends;
    expired = filter (λ p. is_some (v.publishers p) || has_numbers (v.mailboxes p)) y.expired;
  }

  abbrev pruned_view : View T U → View T U
  pruned_view v = record v { own = option_map {T = Subscriber} (pruned_in v) v.own }

  pruned_seen : (s : State T U) → view_of q (subscribers_pruned s) ≡ pruned_view (view_of q s)
  pruned_seen s = mapped_seen s (pruned s) (λ r y. refl)

  closed_seen : (s : State T U) (p : ℕ) (x : Publisher)
      → view_of q (publisher_closed s p x) ≡ sender_reset_view q p
      (due_view (pruned_view (gone_view p x (view_of q s))))
  closed_seen s p x =
      sender_reset_seen q (subscribers_due (subscribers_pruned (publisher_gone s p x))) p
      ∙ ap (sender_reset_view q p) (subscribers_due_seen (subscribers_pruned (publisher_gone s p x))
      ∙ ap due_view (pruned_seen (publisher_gone s p x))
      ∙ ap (λ v. due_view (pruned_view v)) (gone_seen s p x))

  -- a publisher is closed in both
  pub publisher_closed_alike : (a b : State T U) (p : ℕ) (x : Publisher) → view_of q a ≡ view_of q b
      → view_of q (publisher_closed a p x) ≡ view_of q (publisher_closed b p x)
  publisher_closed_alike a b p x e = closed_seen a p x
      ∙ ap (λ v. sender_reset_view q p (due_view (pruned_view (gone_view p x v)))) e ∙ sym (closed_seen b p x)

  -- ---- the subscriber itself releases a sample, and closes

  own_pruned_seen : (s : State T U) → view_of q (subscriber_pruned s q) ≡ pruned_view (view_of q s)
  own_pruned_seen s = λ i. record (view_of q s) {
    others = λ r. others_same s q (option_map {T = Subscriber} (pruned s q) (s.subscribers q)) r
        (public_map (pruned s q) (λ y. refl) (s.subscribers q)) i;
    own = put_at-same s.subscribers q (option_map {T = Subscriber} (pruned s q) (s.subscribers q)) i;
  }

  -- whether it was closed and has borrowed nothing, told from its view
  abbrev is_unused_in : View T U → Bool
  is_unused_in v = option_map_or (λ (y : Subscriber).
      not y.is_open && list_all (λ p. not (has_borrows (v.mailboxes p))) (connected_publishers y)) v.own false

  -- the view of one that is gone
  abbrev left_view : View T U → View T U
  left_view v = record v {
    publishers = all_due v.publishers;
    subscriber_places = vacated q v.subscriber_places;
    others = put_at v.others q None;
    own = None;
  }

  abbrev freed_view : View T U → View T U
  freed_view v = cond (is_unused_in v) (left_view v) v

  freed_seen : (s : State T U) → view_of q (freed_if_unused s q) ≡ freed_view (view_of q s)
  freed_seen s =
      elim (is_unused s q) as (λ b.
      view_of q (cond b (place_freed s q) s) ≡ cond b (left_view (view_of q s)) (view_of q s)) [
        | true ↦ λ i. record (left_view (view_of q s))
            { others = λ r. others_put s q None r i; own = put_at-same s.subscribers q None i }
        | false ↦ refl
      ]

  -- its own channels are reset
  abbrev own_reset : View T U → View T U
  own_reset = receiver_reset_view q (eqb q q)

  abbrev unborrowed_view : (p n : ℕ) → View T U → View T U
  unborrowed_view p n v = record v { mailboxes = put_at v.mailboxes p (with_released n (v.mailboxes p)) }

  unborrowed_seen : (s : State T U) (p n : ℕ) → view_of q (unborrowed s p q n) ≡ unborrowed_view p n (view_of q s)
  unborrowed_seen s p n =
      λ i. record (view_of q s) { mailboxes = λ k. cell_put s.mailboxes q p (with_released n (s.mailboxes p q)) k i }

  released_seen : (s : State T U) (p n : ℕ)
      → view_of q (released s p q n) ≡ own_reset (freed_view (pruned_view (unborrowed_view p n (view_of q s))))
  released_seen s p n =
      receiver_reset_seen q (freed_if_unused (subscriber_pruned (unborrowed s p q n) q) q) q
      ∙ ap own_reset (freed_seen (subscriber_pruned (unborrowed s p q n) q)
      ∙ ap freed_view (own_pruned_seen (unborrowed s p q n))
      ∙ ap (λ v. freed_view (pruned_view v)) (unborrowed_seen s p n))

  -- a sample of q is released in both
  pub released_alike : (a b : State T U) (p n : ℕ) → view_of q a ≡ view_of q b
      → view_of q (released a p q n) ≡ view_of q (released b p q n)
  released_alike a b p n e = released_seen a p n
      ∙ ap (λ v. own_reset (freed_view (pruned_view (unborrowed_view p n v)))) e ∙ sym (released_seen b p n)

  abbrev shut_view : Subscriber → View T U → View T U
  shut_view y v = record v {
    publishers = all_due v.publishers;
    others = put_at v.others q (public_part (Some (shut_record y)));
    own = Some (shut_record y);
    mailboxes = λ p. cond (is_some (v.publishers p)) (v.mailboxes p) (waiting_dropped (v.mailboxes p));
  }

  shut_seen : (s : State T U) (y : Subscriber) → view_of q (subscriber_shut s q y) ≡ shut_view y (view_of q s)
  shut_seen s y = λ i. record (shut_view y (view_of q s)) {
    others = λ r. others_put s q (Some (shut_record y)) r i;
    own = put_at-same s.subscribers q (Some (shut_record y)) i;
    mailboxes = λ p. put_at-same (s.mailboxes p) q (mailbox_after_subscriber s q p) i;
  }

  own_closed_seen : (s : State T U) (y : Subscriber)
      → view_of q (subscriber_closed s q y) ≡ own_reset (freed_view (pruned_view (shut_view y (view_of q s))))
  own_closed_seen s y =
      receiver_reset_seen q (freed_if_unused (subscriber_pruned (subscriber_shut s q y) q) q) q
      ∙ ap own_reset (freed_seen (subscriber_pruned (subscriber_shut s q y) q)
      ∙ ap freed_view (own_pruned_seen (subscriber_shut s q y))
      ∙ ap (λ v. freed_view (pruned_view v)) (shut_seen s y))

  -- q is closed in both, whatever it has borrowed
  pub own_closed_alike : (a b : State T U) (y : Subscriber) → view_of q a ≡ view_of q b
      → view_of q (subscriber_closed a q y) ≡ view_of q (subscriber_closed b q y)
  own_closed_alike a b y e =
      own_closed_seen a y ∙ ap (λ v. own_reset (freed_view (pruned_view (shut_view y v)))) e ∙ sym (own_closed_seen b y)
