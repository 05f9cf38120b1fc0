-- What holds of every state that calls and runs reach.
use Rattle.std.specs.Prelude.{ℕ, true, false, List, length, ◌≡◌, ◌⊎◌, ◌*◌, ◌<◌, ◌≤◌, take, drop, MatchOption}
use Rattle.std.specs.Option.{option_map}
use Rattle.std.specs.declared.option.Option.{Option}
use Rattle.std.specs.declared.option.Option.TheVariants.{None, Some}
use Rattle.iox2_machine.specs.machine.Limits.{buffer_limit, channel_count, expired_limit, worst_case, segment_limit}
use Rattle.iox2_machine.specs.machine.Numbers.{contains, size, IsOnce}
use Rattle.iox2_machine.specs.machine.Places.{occupant}
use Rattle.iox2_machine.specs.machine.Mailbox.{numbers_in, has_numbers, has_borrows, has_waiting, waiting_count}
use Rattle.iox2_machine.specs.machine.Mailbox.{IsWithin, OthersWithin}
use Rattle.iox2_machine.specs.machine.Records.{Loan, Publisher, Subscriber, BlockedSend}
use Rattle.iox2_machine.specs.machine.State.{State, held}
use Rattle.iox2_machine.specs.machine.Loans.{is_static, is_initialized}

-- An end leads to this port.
abbrev pub LeadsTo : List (Option ℕ) → (id : ℕ) → Type 0
LeadsTo ends id = (place : ℕ) × (occupant ends place ≡ Some id)

-- No two ends lead to the same port.
abbrev pub IsInjective : List (Option ℕ) → Type 0
IsInjective ends = (i j id : ℕ) → occupant ends i ≡ Some id → occupant ends j ≡ Some id → i ≡ j

-- A list of places is no longer than the limit, and a port stands at a place exactly where its record says so.
pub record PlacesAgree (limit : ℕ) (places : List (Option ℕ)) (place_of : ℕ → Option ℕ) : Type 0 where
  pub bound : length places ≤ limit
  pub stands : (id place : ℕ) → place_of id ≡ Some place → occupant places place ≡ Some id
  pub known : (id place : ℕ) → occupant places place ≡ Some id → place_of id ≡ Some place

module _ {T U : Type 0} where
  -- The place that a publisher's record names.
  abbrev pub publisher_place : State T U → (p : ℕ) → Option ℕ
  publisher_place s p = option_map {T = Publisher} {U = ℕ} (λ x. x.place) (s.publishers p)

  -- The place that a subscriber's record names.
  abbrev pub subscriber_place : State T U → (q : ℕ) → Option ℕ
  subscriber_place s q = option_map {T = Subscriber} {U = ℕ} (λ y. y.place) (s.subscribers q)

  -- A blocked send's message is out, no user holds it, its remaining ends are some of the publisher's from its place
  -- on, and those haven't got it.
  pub record BlockedIsWellFormed (s : State T U) (p : ℕ) (x : Publisher) (b : BlockedSend) : Type 0 where
    pub is_out : contains x.loans b.message ≡ true
    pub unheld : s.loans b.message ≡ None
    pub ends : (count : ℕ) × (b.ends ≡ take count (drop b.place x.ends))
    pub channel : b.channel < channel_count s.config
    pub unserved : (q : ℕ) → LeadsTo b.ends q → contains (numbers_in (s.mailboxes p q)) b.message ≡ false
    -- The place has a receiver, and whoever took the message stands before it.
    pub waits : (q : ℕ) × (occupant x.ends b.place ≡ Some q)
    pub count_bound : b.count ≤ b.place

  -- Loans, history and ends are within their bounds, each number and each receiver stands there once, and a static
  -- publisher holds no more messages and loans than it has slots.
  pub record PublisherIsWellFormed (s : State T U) (p : ℕ) (x : Publisher) : Type 0 where
    pub is_known : p < s.next_port
    pub loans_bound : length x.loans ≤ x.max_loaned_samples
    pub loans_once : IsOnce x.loans
    pub loans_below : (n : ℕ) → contains x.loans n ≡ true → n < s.next_message
    -- A loan that is out is in its user's hands, or it is the blocked send's.
    pub loans_held : (n : ℕ) → contains x.loans n ≡ true
        → ((l : Loan T U) × (s.loans n ≡ Some l) × (l.publisher ≡ p))
        ⊎ ((b : BlockedSend) × (x.blocked ≡ Some b) × (b.message ≡ n))
    pub history_bound : length x.history ≤ (s.config).history_size
    pub history_once : IsOnce x.history
    pub history_below : (n : ℕ) → contains x.history n ≡ true → n < s.next_message
    pub ends_bound : length x.ends ≤ (s.config).max_subscribers
    pub ends_apart : IsInjective x.ends
    pub ends_known : (q : ℕ) → LeadsTo x.ends q → q < s.next_port
    -- An end to a subscriber that isn't gone stands at its place.
    pub ends_stand : (place q : ℕ) (y : Subscriber) → occupant x.ends place ≡ Some q → s.subscribers q ≡ Some y
        → y.place ≡ place
    pub slots_bound : is_static x.allocation_strategy ≡ true → size (held s p x) ≤ x.slots
    pub some_segment : 0 < x.segments
    pub segments_bound : x.segments ≤ segment_limit
    pub blocked : (b : BlockedSend) → x.blocked ≡ Some b → BlockedIsWellFormed s p x b

  -- Ends and expired publishers are within their bounds and all different, and each is a present publisher at its place
  -- or a departed one with some message left. A closed subscriber has some message borrowed.
  pub record SubscriberIsWellFormed (s : State T U) (q : ℕ) (y : Subscriber) : Type 0 where
    pub is_known : q < s.next_port
    pub some_room : 0 < y.buffer
    pub buffer_bound : y.buffer ≤ buffer_limit s.config
    pub ends_bound : length y.ends ≤ (s.config).max_publishers
    pub ends_apart : IsInjective y.ends
    pub ends_known : (p : ℕ) → LeadsTo y.ends p → p < s.next_port
    -- At an end stands a publisher that has that place, or a departed one with some message left.
    pub ends_stand : (place p : ℕ) → occupant y.ends place ≡ Some p
        → MatchOption (s.publishers p) (has_numbers (s.mailboxes p q) ≡ true) (λ x. x.place ≡ place)
    pub expired_bound : length y.expired ≤ expired_limit s.config
    pub expired_once : IsOnce y.expired
    pub expired_apart : (p : ℕ) → contains y.expired p ≡ true → LeadsTo y.ends p → ⊥
    pub expired_known : (p : ℕ) → contains y.expired p ≡ true → p < s.next_port
    pub expired_gone : (p : ℕ) → contains y.expired p ≡ true → s.publishers p ≡ None
    pub expired_kept : (p : ℕ) → contains y.expired p ≡ true → has_numbers (s.mailboxes p q) ≡ true
    -- A closed subscriber has some message borrowed; else it is gone.
    pub is_used : y.is_open ≡ false → (p : ℕ) × (has_borrows (s.mailboxes p q) ≡ true)

  -- A mailbox keeps its bounds, and its numbers were given out. If anything is in it and its publisher is present, the
  -- publisher has its end. What is borrowed is borrowed by a subscriber that knows the publisher. What waits from a
  -- departed publisher waits for an open subscriber that knows it.
  pub record MailboxIsWellFormed (s : State T U) (p q : ℕ) : Type 0 where
    pub within : IsWithin (buffer_limit s.config) (s.config).subscriber_max_borrowed_samples (s.mailboxes p q)
    pub others : OthersWithin (channel_count s.config) (buffer_limit s.config) (s.mailboxes p q)
    pub room : (y : Subscriber) → s.subscribers q ≡ Some y → waiting_count (s.mailboxes p q) ≤ y.buffer
    pub others_room : (y : Subscriber) → s.subscribers q ≡ Some y
        → OthersWithin (channel_count s.config) y.buffer (s.mailboxes p q)
    pub below : (n : ℕ) → contains (numbers_in (s.mailboxes p q)) n ≡ true → n < s.next_message
    pub known : has_numbers (s.mailboxes p q) ≡ true → (p < s.next_port) × (q < s.next_port)
    pub sender_end : (x : Publisher) → s.publishers p ≡ Some x → has_numbers (s.mailboxes p q) ≡ true → LeadsTo x.ends q
    pub receiver_end : has_borrows (s.mailboxes p q) ≡ true
        → (y : Subscriber) × (s.subscribers q ≡ Some y) × ((contains y.expired p ≡ true) ⊎ LeadsTo y.ends p)
    -- What waits from a departed publisher, in whatever channel, waits for an open subscriber that knows it.
    pub departed : s.publishers p ≡ None → has_waiting (s.mailboxes p q) ≡ true
        → (y : Subscriber) × (s.subscribers q ≡ Some y) × (y.is_open ≡ true)
        × ((contains y.expired p ≡ true) ⊎ LeadsTo y.ends p)

  -- A loan's number was given out, and its publisher has sent no message under it. Its header names its publisher and
  -- counts its cells, and a written loan has all of them.
  pub record LoanIsWellFormed (s : State T U) (n : ℕ) (l : Loan T U) : Type 0 where
    pub below : n < s.next_message
    pub known : l.publisher < s.next_port
    pub origin : (l.header).publisher_id ≡ l.publisher
    pub cells : length l.cells ≡ (l.header).number_of_elements * (s.config).units_per_element
    pub complete : l.is_written ≡ true → is_initialized l ≡ true
    pub is_out : (x : Publisher) → s.publishers l.publisher ≡ Some x
        → (contains x.loans n ≡ true) × (contains x.history n ≡ false)
    pub unsent : (q : ℕ) → contains (numbers_in (s.mailboxes l.publisher q)) n ≡ false

  -- A state whose parts agree and keep their bounds, and in which each id and number is below its counter.
  pub record IsWellFormed (s : State T U) : Type 0 where
    pub publisher_places : PlacesAgree (s.config).max_publishers s.publisher_places (publisher_place s)
    pub subscriber_places : PlacesAgree (s.config).max_subscribers s.subscriber_places (subscriber_place s)
    pub publishers : (p : ℕ) (x : Publisher) → s.publishers p ≡ Some x → PublisherIsWellFormed s p x
    pub subscribers : (q : ℕ) (y : Subscriber) → s.subscribers q ≡ Some y → SubscriberIsWellFormed s q y
    pub mailboxes : (p q : ℕ) → MailboxIsWellFormed s p q
    pub loans : (n : ℕ) (l : Loan T U) → s.loans n ≡ Some l → LoanIsWellFormed s n l

  -- A publisher holds no more different messages and loans than the worst case for the loans that are out.
  abbrev pub HoldsAtMostWorstCase : State T U → Type 0
  HoldsAtMostWorstCase s =
      (p : ℕ) (x : Publisher) → s.publishers p ≡ Some x → size (held s p x) ≤ worst_case s.config (length x.loans)
