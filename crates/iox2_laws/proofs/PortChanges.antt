-- What every change of ports, mailboxes and places keeps; ports that become due; warnings.
use Rattle.std.proofs.Common.{◌≡◌, ℕ, ◌≤◌, ◌<◌, Bool, true, false, eqb, List, ◌++◌, refl, sym, ap, subst, ◌∙◌, le_refl}
use Rattle.std.proofs.Common.{arith, Option, None, Some, ◌⊎◌, inl, inr, ⊎_elim}
use Rattle.std.specs.List.{flat_map}
use Rattle.std.specs.Option.{MatchOption, option_map}
use Rattle.std.proofs.lemmas.Bool.{true≢false}
use Rattle.std.proofs.lemmas.Option.{none-some, same_Some}
use Rattle.iox2_machine.specs.machine.Numbers.{contains, size}
use Rattle.iox2_machine.specs.machine.Places.{occupant, occupants}
use Rattle.iox2_machine.specs.machine.Channel.{Channel}
use Rattle.iox2_machine.specs.machine.Mailbox.{Mailbox, numbers_in, has_numbers, has_borrows, has_waiting}
use Rattle.iox2_machine.specs.machine.Mailbox.{waiting_count, IsWithin, OthersWithin}
use Rattle.iox2_machine.specs.machine.Records.{BlockedSend, Loan, Publisher, Subscriber}
use Rattle.iox2_machine.specs.machine.State.{State, Warnings, publishers_due, subscribers_due, sender_channels_reset}
use Rattle.iox2_machine.specs.machine.State.{receiver_channels_reset}
use Rattle.iox2_machine.specs.machine.WellFormed.{LeadsTo, PlacesAgree, publisher_place, subscriber_place}
use Rattle.iox2_machine.specs.machine.WellFormed.{BlockedIsWellFormed, PublisherIsWellFormed}
use Rattle.iox2_machine.specs.machine.WellFormed.{SubscriberIsWellFormed, MailboxIsWellFormed, LoanIsWellFormed}
use Rattle.iox2_machine.specs.machine.WellFormed.{IsWellFormed}
use Rattle.iox2_laws.proofs.Puts.{found_mapped}
use Rattle.iox2_laws.proofs.NumberLemmas.{contains_in_append, contains_left, contains_right, contains_in_flat_map}
use Rattle.iox2_laws.proofs.NumberLemmas.{contains-flat_map, size_le, absent_from}
use Rattle.iox2_machine.specs.machine.Limits.{buffer_limit, channel_count}

-- ---- places

-- Places agree with any function that has the same values.
pub places_agree_by : (limit : ℕ) (places : List (Option ℕ)) (f g : ℕ → Option ℕ) → PlacesAgree limit places f
    → ((id : ℕ) → g id ≡ f id)
    → PlacesAgree limit places g
places_agree_by limit places f g w same = record {
  bound = w.bound;
  stands = λ id place e. w.stands id place (sym (same id) ∙ e);
  known = λ id place e. same id ∙ w.known id place e;
}

-- The place of a publisher that is there.
abbrev pub place_of_publisher : Option Publisher → Option ℕ
place_of_publisher o = option_map (λ (x : Publisher). x.place) o

-- The place of a subscriber that is there.
abbrev pub place_of_subscriber : Option Subscriber → Option ℕ
place_of_subscriber o = option_map (λ (y : Subscriber). y.place) o

-- What an end's place says of its publisher is the same where the publisher's place is.
at_place : (P : Type 0) (place : ℕ) (o o' : Option Publisher) → place_of_publisher o' ≡ place_of_publisher o
    → MatchOption o P (λ x. x.place ≡ place)
    → MatchOption o' P (λ x. x.place ≡ place)
at_place P place None None e h = h
at_place P place None (Some x') e h = absurd (none-some x'.place (sym e))
at_place P place (Some x) None e h = absurd (none-some x.place e)
at_place P place (Some x) (Some x') e h = same_Some x'.place x.place e ∙ h

-- Where no publisher was, none is where the place is the same.
still_none : (o o' : Option Publisher) → place_of_publisher o' ≡ place_of_publisher o → o ≡ None → o' ≡ None
still_none o None e h = refl
still_none o (Some x') e h = absurd (none-some x'.place (sym (e ∙ ap place_of_publisher h)))

-- ---- numbers

-- With fewer numbers in its mailboxes a publisher holds no more different ones.
pub held_le : (front : List ℕ) (f g : ℕ → List ℕ) (ends : List ℕ)
    → ((q n : ℕ) → contains (f q) n ≡ true → contains (g q) n ≡ true)
    → size (front ++ flat_map f ends) ≤ size (front ++ flat_map g ends)
held_le front f g ends each =
    size_le (front ++ flat_map f ends) (front ++ flat_map g ends) (λ n h.
    ⊎_elim (λ l. contains_left front (flat_map g ends) n l)
    (λ m. contains_right front (flat_map g ends) n
    (let found : (x : ℕ) × (contains ends x ≡ true) × (contains (f x) n ≡ true) = contains_in_flat_map f ends n m in
    contains-flat_map g ends found.0 n found.1 (each found.0 n found.2)))
    (contains_in_append front (flat_map f ends) n h))

-- ---- ports that are due

abbrev due_publisher : Publisher → Publisher
due_publisher x = record x { is_due = true }

abbrev due_subscriber : Subscriber → Subscriber
due_subscriber y = record y { is_due = true }

publisher_stays : (o : Option Publisher) → place_of_publisher (option_map due_publisher o) ≡ place_of_publisher o
publisher_stays None = refl
publisher_stays (Some x) = refl

none_before : (o : Option Publisher) → option_map due_publisher o ≡ None → o ≡ None
none_before None e = refl
none_before (Some x) e = absurd (none-some (due_publisher x) (sym e))

subscriber_stays : (o : Option Subscriber) → place_of_subscriber (option_map due_subscriber o) ≡ place_of_subscriber o
subscriber_stays None = refl
subscriber_stays (Some y) = refl

-- ---- the parts of a state of which ports, mailboxes, places and warnings change, and the counter of ports

module _ {T U : Type 0} where
  -- The later state with the configuration, the loans and the counter of messages of the earlier one.
  abbrev pub changed : (s t : State T U) → State T U
  changed s t = record t { config = s.config; loans = s.loans; next_message = s.next_message }

  -- Each number in the mailbox of p and q was there in the earlier state.
  abbrev pub FewerNumbers : (s t : State T U) (p q : ℕ) → Type 0
  FewerNumbers s t p q =
      (n : ℕ) → contains (numbers_in (t.mailboxes p q)) n ≡ true → contains (numbers_in (s.mailboxes p q)) n ≡ true

  fewer_absent : (s t : State T U) (p q n : ℕ) → FewerNumbers s t p q
      → contains (numbers_in (s.mailboxes p q)) n ≡ false
      → contains (numbers_in (t.mailboxes p q)) n ≡ false
  fewer_absent s t p q n fewer absent =
      absent_from (numbers_in (t.mailboxes p q)) n (λ h. true≢false (sym (fewer n h) ∙ absent))

  -- The later state with the configuration of the earlier one.
  abbrev pub configured : (s t : State T U) → State T U
  configured s t = record t { config = s.config }

  -- A publisher is well-formed in another state where its mailboxes get no numbers, its ends still stand at their
  -- subscribers' places, its loans stay its own and no loan appears.
  pub publisher_in : (s t : State T U) (p : ℕ) (x : Publisher) → PublisherIsWellFormed s p x → s.next_port ≤ t.next_port
      → s.next_message ≤ t.next_message
      → ((q : ℕ) → FewerNumbers s t p q)
      → ((place q : ℕ) (y : Subscriber) → occupant x.ends place ≡ Some q → t.subscribers q ≡ Some y → y.place ≡ place)
      → ((n : ℕ) (l : Loan T U) → s.loans n ≡ Some l → l.publisher ≡ p
      → (l' : Loan T U) × (t.loans n ≡ Some l') × (l'.publisher ≡ p))
      → ((n : ℕ) → n < s.next_message → s.loans n ≡ None → t.loans n ≡ None)
      → PublisherIsWellFormed (configured s t) p x
  publisher_in s t p x w ports messages fewer stand own none = record {
    is_known = omega (arith, w.is_known);
    loans_bound = w.loans_bound;
    loans_once = w.loans_once;
    loans_below = λ n h. omega (arith, w.loans_below n h);
    loans_held = λ n h. ⊎_elim (λ held. inl (own n held.0 held.1 held.2)) (λ waits. inr waits) (w.loans_held n h);
    history_bound = w.history_bound;
    history_once = w.history_once;
    history_below = λ n h. omega (arith, w.history_below n h);
    ends_bound = w.ends_bound;
    ends_apart = w.ends_apart;
    ends_known = λ q h. omega (arith, w.ends_known q h);
    ends_stand = stand;
    slots_bound = λ h. omega (
      arith,
      w.slots_bound h,
      held_le (x.loans ++ x.history) (λ q. numbers_in (t.mailboxes p q)) (λ q. numbers_in (s.mailboxes p q))
          (occupants x.ends) fewer,
    );
    some_segment = w.some_segment;
    segments_bound = w.segments_bound;
    blocked = λ b e. let v : BlockedIsWellFormed s p x b = w.blocked b e in record {
      is_out = v.is_out;
      unheld = none b.message (w.loans_below b.message v.is_out) v.unheld;
      ends = v.ends;
      channel = v.channel;
      unserved = λ q h. fewer_absent s t p q b.message (fewer q) (v.unserved q h);
      waits = v.waits;
      count_bound = v.count_bound;
    };
  }

  -- So where loans and the counter of messages stay the same.
  pub publisher_kept : (s t : State T U) (p : ℕ) (x : Publisher) → PublisherIsWellFormed s p x
      → s.next_port ≤ t.next_port → ((q : ℕ) → FewerNumbers s t p q)
      → ((place q : ℕ) (y : Subscriber) → occupant x.ends place ≡ Some q → t.subscribers q ≡ Some y → y.place ≡ place)
      → PublisherIsWellFormed (changed s t) p x
  publisher_kept s t p x w more fewer stand =
      publisher_in s (changed s t) p x w more (le_refl s.next_message) fewer stand (λ n l e own. (l, e, own))
      (λ n _ e. e)

  -- A publisher that is due is as well-formed as before.
  publisher_due : (s : State T U) (p : ℕ) (x : Publisher) → PublisherIsWellFormed s p x
      → PublisherIsWellFormed s p (record x { is_due = true })
  publisher_due s p x w =
      let blocked : (b : BlockedSend) → x.blocked ≡ Some b → BlockedIsWellFormed s p (record x { is_due = true }) b =
      λ b e.
      (let v : BlockedIsWellFormed s p x b = w.blocked b e in assumption) in
      assumption

  -- A subscriber is well-formed, open or closed and due or not, where it has something borrowed if it is closed.
  pub subscriber_marked : (s : State T U) (q : ℕ) (y : Subscriber) (is_open is_due : Bool)
      → SubscriberIsWellFormed s q y
      → (is_open ≡ false → (p : ℕ) × (has_borrows (s.mailboxes p q) ≡ true))
      → SubscriberIsWellFormed s q (record y { is_open = is_open; is_due = is_due })
  subscriber_marked s q y is_open is_due w is_used = assumption

  -- What stands at an end of q is a publisher that has that place, or a departed one with some message left.
  abbrev EndStands : (s : State T U) (q place p : ℕ) → Type 0
  EndStands s q place p = MatchOption (s.publishers p) (has_numbers (s.mailboxes p q) ≡ true) (λ x. x.place ≡ place)

  -- A subscriber is well-formed in another state where its ends still stand, departed publishers don't come back, and
  -- of its messages none is lost that it has borrowed, and of departed publishers not the last.
  pub subscriber_in : (s t : State T U) (q : ℕ) (y : Subscriber) → SubscriberIsWellFormed s q y
      → s.next_port ≤ t.next_port
      → ((place p : ℕ) → p < s.next_port → EndStands s q place p → EndStands t q place p)
      → ((p : ℕ) → p < s.next_port → s.publishers p ≡ None → t.publishers p ≡ None)
      → ((p : ℕ) → s.publishers p ≡ None → has_numbers (s.mailboxes p q) ≡ true → has_numbers (t.mailboxes p q) ≡ true)
      → ((p : ℕ) → has_borrows (s.mailboxes p q) ≡ true → has_borrows (t.mailboxes p q) ≡ true)
      → SubscriberIsWellFormed (configured s t) q y
  subscriber_in s t q y w more stand gone left borrowed = record {
    is_known = omega (arith, w.is_known);
    some_room = w.some_room;
    buffer_bound = w.buffer_bound;
    ends_bound = w.ends_bound;
    ends_apart = w.ends_apart;
    ends_known = λ p h. omega (arith, w.ends_known p h);
    ends_stand = λ place p e. stand place p (w.ends_known p (place, e)) (w.ends_stand place p e);
    expired_bound = w.expired_bound;
    expired_once = w.expired_once;
    expired_apart = w.expired_apart;
    expired_known = λ p h. omega (arith, w.expired_known p h);
    expired_gone = λ p h. gone p (w.expired_known p h) (w.expired_gone p h);
    expired_kept = λ p h. left p (w.expired_gone p h) (w.expired_kept p h);
    is_used = λ closed. let used : (p : ℕ) × (has_borrows (s.mailboxes p q) ≡ true) = w.is_used closed in
        (used.0, borrowed used.0 used.1);
  }

  -- A subscriber stays well-formed where its mailboxes are the same and the publishers that it knows keep their places.
  pub subscriber_kept : (s t : State T U) (q : ℕ) (y : Subscriber) → SubscriberIsWellFormed s q y
      → s.next_port ≤ t.next_port
      → ((p : ℕ) → t.mailboxes p q ≡ s.mailboxes p q)
      → ((p : ℕ) → p < s.next_port → publisher_place t p ≡ publisher_place s p)
      → SubscriberIsWellFormed (changed s t) q y
  subscriber_kept s t q y w more same places =
      subscriber_in s (changed s t) q y w more
      (λ place p known h.
      at_place (has_numbers (t.mailboxes p q) ≡ true) place (s.publishers p) (t.publishers p) (places p known)
      (subst (λ (box : Mailbox). MatchOption (s.publishers p) (has_numbers box ≡ true) (λ x. x.place ≡ place))
      (sym (same p)) h))
      (λ p known. still_none (s.publishers p) (t.publishers p) (places p known))
      (λ p _ h. ap has_numbers (same p) ∙ h)
      (λ p h. ap has_borrows (same p) ∙ h)

  -- A loan is well-formed in another state where its publisher's mailboxes get no numbers, and where it is still out.
  pub loan_in : (s t : State T U) (n : ℕ) (l : Loan T U) → LoanIsWellFormed s n l → s.next_port ≤ t.next_port
      → s.next_message ≤ t.next_message
      → ((q : ℕ) → FewerNumbers s t l.publisher q)
      → ((x : Publisher) → t.publishers l.publisher ≡ Some x
      → (contains x.loans n ≡ true) × (contains x.history n ≡ false))
      → LoanIsWellFormed (configured s t) n l
  loan_in s t n l w ports messages fewer out = record {
    below = omega (arith, w.below);
    known = omega (arith, w.known);
    origin = w.origin;
    cells = w.cells;
    complete = w.complete;
    is_out = out;
    unsent = λ q. fewer_absent s t l.publisher q n (fewer q) (w.unsent q);
  }

  -- So where the counter of messages stays the same.
  pub loan_kept : (s t : State T U) (n : ℕ) (l : Loan T U) → LoanIsWellFormed s n l → s.next_port ≤ t.next_port
      → ((q : ℕ) → FewerNumbers s t l.publisher q)
      → ((x : Publisher) → t.publishers l.publisher ≡ Some x
      → (contains x.loans n ≡ true) × (contains x.history n ≡ false))
      → LoanIsWellFormed (changed s t) n l
  loan_kept s t n l w more = loan_in s (changed s t) n l w more (le_refl s.next_message)

  -- A mailbox that stays the same is well-formed in another state where it has room at its subscriber, its publisher
  -- has its end, and what is borrowed and what waits from a departed publisher is somebody's.
  pub mailbox_in : (s t : State T U) (p q : ℕ) → MailboxIsWellFormed s p q → s.next_port ≤ t.next_port
      → s.next_message ≤ t.next_message → t.mailboxes p q ≡ s.mailboxes p q
      → ((y : Subscriber) → t.subscribers q ≡ Some y → (waiting_count (s.mailboxes p q) ≤ y.buffer)
      × OthersWithin (channel_count s.config) y.buffer (s.mailboxes p q))
      → ((x : Publisher) → t.publishers p ≡ Some x → has_numbers (s.mailboxes p q) ≡ true → LeadsTo x.ends q)
      → (has_borrows (s.mailboxes p q) ≡ true
      → (y : Subscriber) × (t.subscribers q ≡ Some y) × ((contains y.expired p ≡ true) ⊎ LeadsTo y.ends p))
      → (t.publishers p ≡ None → has_waiting (s.mailboxes p q) ≡ true
      → (y : Subscriber) × (t.subscribers q ≡ Some y) × (y.is_open ≡ true)
      × ((contains y.expired p ≡ true) ⊎ LeadsTo y.ends p))
      → MailboxIsWellFormed (configured s t) p q
  mailbox_in s t p q w ports messages same room sender receiver departed = record {
    within = subst (λ (m : Mailbox). IsWithin (buffer_limit s.config) (s.config).subscriber_max_borrowed_samples m)
        (sym same) w.within;
    others =
        subst (λ (m : Mailbox). OthersWithin (channel_count s.config) (buffer_limit s.config) m) (sym same) w.others;
    room = λ y e. subst (λ (m : Mailbox). waiting_count m ≤ y.buffer) (sym same) (room y e).0;
    others_room =
        λ y e. subst (λ (m : Mailbox). OthersWithin (channel_count s.config) y.buffer m) (sym same) (room y e).1;
    below = λ n h. let low : n < s.next_message = w.below n (ap (λ m. contains (numbers_in m) n) (sym same) ∙ h) in
        omega arith;
    known = λ h. let old : (p < s.next_port) × (q < s.next_port) = w.known (ap has_numbers (sym same) ∙ h) in
        (omega (arith, old.0), omega (arith, old.1));
    sender_end = λ x e h. sender x e (ap has_numbers (sym same) ∙ h);
    receiver_end = λ h. receiver (ap has_borrows (sym same) ∙ h);
    departed = λ gone h. departed gone (ap has_waiting (sym same) ∙ h);
  }

  -- ---- all but the subscribers

  -- What makes a state well-formed, but for what it says of the subscribers.
  pub record RestIsWellFormed (s : State T U) : Type 0 where
    pub publisher_places : PlacesAgree (s.config).max_publishers s.publisher_places (publisher_place s)
    pub subscriber_places : PlacesAgree (s.config).max_subscribers s.subscriber_places (subscriber_place s)
    pub publishers : (p : ℕ) (x : Publisher) → s.publishers p ≡ Some x → PublisherIsWellFormed s p x
    pub mailboxes : (p q : ℕ) → MailboxIsWellFormed s p q
    pub loans : (n : ℕ) (l : Loan T U) → s.loans n ≡ Some l → LoanIsWellFormed s n l

  -- A state that is well-formed, but that the subscriber q may be closed and have nothing borrowed: it would be fine if
  -- it were open.
  pub record IsNearlyWellFormed (s : State T U) (q : ℕ) : Type 0 where
    pub rest : RestIsWellFormed s
    pub others : (r : ℕ) (y : Subscriber) → eqb r q ≡ false → s.subscribers r ≡ Some y → SubscriberIsWellFormed s r y
    pub own : (y : Subscriber) → s.subscribers q ≡ Some y → SubscriberIsWellFormed s q (record y { is_open = true })

  -- A well-formed state without what it says of the subscribers.
  pub rest_of : (s : State T U) → IsWellFormed s → RestIsWellFormed s
  rest_of s w = assumption

  -- With well-formed subscribers the state is well-formed.
  pub with_rest : (s : State T U) → RestIsWellFormed s
      → ((q : ℕ) (y : Subscriber) → s.subscribers q ≡ Some y → SubscriberIsWellFormed s q y) → IsWellFormed s
  with_rest s w subscribers = assumption

  -- ---- warnings, and ports that become due

  -- Channels and warnings don't matter.
  told_keeps : (s : State T U) → IsWellFormed s → (channels : ℕ → ℕ → ℕ → Channel) (ws : Warnings)
      → IsWellFormed (record s { channels = channels; warnings = ws })
  told_keeps s w channels ws = record {
    publisher_places = w.publisher_places;
    subscriber_places = w.subscriber_places;
    publishers = λ p x e.
        publisher_kept s s' p x (w.publishers p x e) (omega arith) (λ q n h. h) (w.publishers p x e).ends_stand;
    subscribers = λ q y e. subscriber_kept s s' q y (w.subscribers q y e) (omega arith) (λ p. refl) (λ p _. refl);
    mailboxes = λ p q. let v : MailboxIsWellFormed s p q = w.mailboxes p q in assumption;
    loans = λ n l e. loan_kept s s' n l (w.loans n l e) (omega arith) (λ q n h. h) (w.loans n l e).is_out;
  }
    where
      s' : State T U
      s' = record s { channels = channels; warnings = ws }

  pub with_warning_keeps : (s : State T U) → IsWellFormed s → (ws : Warnings)
      → IsWellFormed (record s { warnings = ws })
  with_warning_keeps s w ws = told_keeps s w s.channels ws

  pub with_all_channels_keeps : (s : State T U) → IsWellFormed s → (channels : ℕ → ℕ → ℕ → Channel)
      → IsWellFormed (record s { channels = channels })
  with_all_channels_keeps s w channels = told_keeps s w channels s.warnings

  -- So a state stays well-formed where the channels of ports that aren't connected become new.
  pub sender_reset_keeps : (s : State T U) (p : ℕ) → IsWellFormed s → IsWellFormed (sender_channels_reset s p)
  sender_reset_keeps s p w = with_all_channels_keeps s w (sender_channels_reset s p).channels

  pub receiver_reset_keeps : (s : State T U) (q : ℕ) → IsWellFormed s → IsWellFormed (receiver_channels_reset s q)
  receiver_reset_keeps s q w = with_all_channels_keeps s w (receiver_channels_reset s q).channels

  -- A state whose subscribers are due is as well-formed as before.
  pub subscribers_due_keeps : (s : State T U) → IsWellFormed s → IsWellFormed (subscribers_due s)
  subscribers_due_keeps s w = record {
    publisher_places = w.publisher_places;
    subscriber_places = places_agree_by (s.config).max_subscribers s.subscriber_places (subscriber_place s)
        (subscriber_place s') w.subscriber_places
        (λ q. subscriber_stays (s.subscribers q));
    publishers = λ p x e. publisher_kept s s' p x (w.publishers p x e) (omega arith) (λ q n h. h)
        (λ place q y at found. found_mapped due_subscriber (s.subscribers q) y (y.place ≡ place) found
        (λ z f g. ap (λ (v : Subscriber). v.place) g ∙ (w.publishers p x e).ends_stand place q z at f));
    subscribers = λ q y e. found_mapped due_subscriber (s.subscribers q) y (SubscriberIsWellFormed s' q y) e (λ z f g.
        subst (SubscriberIsWellFormed s' q) (sym g)
        (let v : SubscriberIsWellFormed s' q z = subscriber_kept s s' q z (w.subscribers q z f) (omega arith)
        (λ p. refl) (λ p _. refl) in
        subscriber_marked s' q z z.is_open true v v.is_used));
    mailboxes = λ p q. let v : MailboxIsWellFormed s p q = w.mailboxes p q in
        mailbox_in s s' p q v (le_refl s.next_port) (le_refl s.next_message) refl
        (λ y e. found_mapped due_subscriber (s.subscribers q) y
        ((waiting_count (s.mailboxes p q) ≤ y.buffer)
        × OthersWithin (channel_count s.config) y.buffer (s.mailboxes p q)) e
        (λ z f g. subst (λ (u : Subscriber). (waiting_count (s.mailboxes p q) ≤ u.buffer)
        × OthersWithin (channel_count s.config) u.buffer (s.mailboxes p q)) (sym g)
        (v.room z f, v.others_room z f)))
        v.sender_end
        (λ h. let found : (y : Subscriber) × (s.subscribers q ≡ Some y)
        × ((contains y.expired p ≡ true) ⊎ LeadsTo y.ends p) = v.receiver_end h in
        (due_subscriber found.0, ap (λ o. option_map due_subscriber o) found.1, found.2))
        (λ gone h. let found : (y : Subscriber) × (s.subscribers q ≡ Some y) × (y.is_open ≡ true)
        × ((contains y.expired p ≡ true) ⊎ LeadsTo y.ends p) = v.departed gone h in
        (due_subscriber found.0, ap (λ o. option_map due_subscriber o) found.1, found.2, found.3));
    loans = λ n l e. loan_kept s s' n l (w.loans n l e) (omega arith) (λ q n h. h) (w.loans n l e).is_out;
  }
    where
      s' : State T U
      s' = subscribers_due s

  publishers_due_rest : (s : State T U) → RestIsWellFormed s → RestIsWellFormed (publishers_due s)
  publishers_due_rest s w = record {
    publisher_places = places_agree_by (s.config).max_publishers s.publisher_places (publisher_place s)
        (publisher_place s') w.publisher_places
        (λ p. publisher_stays (s.publishers p));
    subscriber_places = w.subscriber_places;
    publishers = λ p x e. found_mapped due_publisher (s.publishers p) x (PublisherIsWellFormed s' p x) e (λ z f g.
        subst (PublisherIsWellFormed s' p) (sym g)
        (publisher_due s' p z
        (publisher_kept s s' p z (w.publishers p z f) (omega arith) (λ q n h. h) (w.publishers p z f).ends_stand)));
    mailboxes = λ p q. let v : MailboxIsWellFormed s p q = w.mailboxes p q in
        mailbox_in s s' p q v (le_refl s.next_port) (le_refl s.next_message) refl
        (λ y e. (v.room y e, v.others_room y e))
        (λ x e h. found_mapped due_publisher (s.publishers p) x (LeadsTo x.ends q) e
        (λ z f g. subst (λ (u : Publisher). LeadsTo u.ends q) (sym g) (v.sender_end z f h)))
        v.receiver_end (λ gone. v.departed (none_before (s.publishers p) gone));
    loans = λ n l e. loan_kept s s' n l (w.loans n l e) (omega arith) (λ q n h. h)
        (λ x found. found_mapped due_publisher (s.publishers l.publisher) x
        ((contains x.loans n ≡ true) × (contains x.history n ≡ false)) found
        (λ z f g. subst (λ (u : Publisher). (contains u.loans n ≡ true) × (contains u.history n ≡ false)) (sym g)
        ((w.loans n l e).is_out z f)));
  }
    where
      s' : State T U
      s' = publishers_due s

  due_publishers_leave : (s : State T U) (q : ℕ) (y : Subscriber) → SubscriberIsWellFormed s q y
      → SubscriberIsWellFormed (publishers_due s) q y
  due_publishers_leave s q y w =
      subscriber_kept s (publishers_due s) q y w (omega arith) (λ p. refl) (λ p _. publisher_stays (s.publishers p))

  -- A state whose publishers are due is as well-formed as before.
  pub publishers_due_keeps : (s : State T U) → IsWellFormed s → IsWellFormed (publishers_due s)
  publishers_due_keeps s w =
      with_rest (publishers_due s) (publishers_due_rest s (rest_of s w))
      (λ q y e. due_publishers_leave s q y (w.subscribers q y e))

  -- The same for a state that is nearly well-formed.
  pub publishers_due_nearly : (s : State T U) (q : ℕ) → IsNearlyWellFormed s q → IsNearlyWellFormed (publishers_due s) q
  publishers_due_nearly s q w = record {
    rest = publishers_due_rest s w.rest;
    others = λ r y apart e. due_publishers_leave s r y (w.others r y apart e);
    own = λ y e. due_publishers_leave s q (record y { is_open = true }) (w.own y e);
  }
