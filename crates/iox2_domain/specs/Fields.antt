-- The fields of a domain, and what they keep. Ports know connections, books and slots by number.
use Rattle.std.specs.Prelude.{ℕ, Bool, true, false, ◌+◌, ◌==◌, List, [], ◌∷◌, drop, take, map, if◌then◌else◌, nat_lt}
use Rattle.std.specs.Prelude.{slice_get, slice_index, slice_index_or}
use Rattle.std.specs.declared.option.Option.{Option}
use Rattle.std.specs.declared.option.Option.TheVariants.{None, Some}
use Rattle.std.specs.Option.{option_map, option_and_then, option_map_or}
use Rattle.slab.specs.Slab.{Slab}
use Rattle.iox2_connections.specs.Link.{Link}
use Rattle.iox2_machine.specs.machine.Places.{occupants}
use Rattle.iox2_slots.specs.SlotBook.{Book, holders_at}
use Rattle.iox2_contents.specs.SlotContents.{ContentState}
use Rattle.iox2_machine.specs.machine.Records.{Publisher, Subscriber, BlockedSend}
use Rattle.iox2_machine.specs.declared.header.Header.{Header}
use Rattle.iox2_slots.specs.declared.slots.mark.SlotMark.{SlotMark}
use Rattle.iox2_slots.specs.declared.slots.mark.SlotMark.TheVariants.{Unwritten, Written, Sent}
use Rattle.iox2_machine.specs.declared.service_config.ServiceConfig.{ServiceConfig}
use Rattle.iox2_connections.specs.LookUp.{look_up}
use Rattle.iox2_connections.specs.Mailboxes.{mailbox_of, sender_ends, receiver_ends}
use Rattle.iox2_domain.specs.WarningRing.{WarningRing}
use Rattle.iox2_domain.specs.Ports.{PublisherFields, SubscriberFields}
use Rattle.iox2_domain.specs.Boxes.{DomainBoxes}
use Rattle.iox2_domain.specs.declared.publisher_state.BlockedDelivery.{BlockedDelivery}
use Rattle.iox2_domain.specs.Kept.{Named, Between, KeptMessage, Lent_message, Sent_message, KeptBook, Kept}

pub record Fields (T U : Type 0) : Type 0 where
  pub config : ServiceConfig
  pub next_port : ℕ
  pub next_message : ℕ
  pub warnings : WarningRing
  pub publishers : List (Option PublisherFields)  -- by place
  pub subscribers : List (Option SubscriberFields)  -- by place
  pub connections : Slab Link
  pub books : Slab Book
  pub contents : List (Option (List (ContentState T U)))  -- by the books' keys

-- ---- numbers of slots

-- It is the book of the publisher p.
abbrev pub is_book_of : ℕ → Book → Bool
is_book_of p book = book.publisher == p

-- The number of the message in each slot of the publisher p.
abbrev pub number_in_slot : Slab Book → (p slot : ℕ) → ℕ
number_in_slot books p slot =
    option_map_or (λ (book : Book). slice_index book.numbers slot) (look_up (is_book_of p) books.slots) 0

-- ---- what lies in slots

module _ {A B : Type 0} where
  -- f of each element and its index, where the first element has this index.
  abbrev pub map_from : (ℕ → A → B) → (start : ℕ) → List A → List B
  map_from f start [] = []
  map_from f start (x ∷ xs) = f start x ∷ map_from f (start + 1) xs

module _ {T U : Type 0} where
  -- The message that lies in a slot, by its mark.
  abbrev pub message_of : (publisher number : ℕ) → Header → ContentState T U → SlotMark → KeptMessage T U
  message_of publisher number header content Unwritten =
      Lent_message number (record {
        publisher = publisher;
        header = header;
        user_header = content.user_header;
        cells = content.cells;
        is_written = false;
      })
  message_of publisher number header content Written =
      Lent_message number (record {
        publisher = publisher;
        header = header;
        user_header = content.user_header;
        cells = map Some content.values;
        is_written = true;
      })
  message_of publisher number header content Sent =
      Sent_message number (record { header = header; user_header = content.user_header; values = content.values })

  -- What lies in a slot, where it is in use.
  abbrev pub message_in : Book → List (ContentState T U) → (slot : ℕ) → Option (KeptMessage T U)
  message_in book contents slot =
      if nat_lt 0 (holders_at book slot)
      then option_and_then (λ header. option_and_then (λ content.
      option_map (message_of book.publisher (slice_index book.numbers slot) header content)
      (slice_get book.marks slot)) (slice_get contents slot)) (slice_get book.headers slot)
      else None

  -- What lies in each slot of a book.
  abbrev pub messages_in : Book → List (ContentState T U) → List (Option (KeptMessage T U))
  messages_in book contents = map_from (λ slot holders. message_in book contents slot) 0 book.holders

  -- The contents of a book, or none where it has none.
  abbrev pub contents_in : Option (List (ContentState T U)) → List (ContentState T U)
  contents_in o = elim o [ None ↦ [] | Some cs ↦ cs ]

  -- The contents at a book's key, or none.
  abbrev pub contents_at : List (Option (List (ContentState T U))) → (key : ℕ) → List (ContentState T U)
  contents_at contents key = contents_in (slice_index_or contents key None)

  -- What is kept of the book at a key.
  abbrev pub kept_book : List (Option (List (ContentState T U))) → (key : ℕ) → Option Book → Option (KeptBook T U)
  kept_book contents key book =
      option_map {T = Book}
      (λ b. record { publisher = b.publisher; slots = messages_in b (contents_at contents key) }) book

-- ---- ports and connections

-- Of what stands at a publisher's places, that to which its blocked delivery may go: all of it, or none behind the
-- place at which it waits.
abbrev pub within_reach : {A : Type 0} → BlockedDelivery → List A → List A
within_reach b xs = if b.is_alone then take ((b.progress).place + 1) xs else xs

-- The machine's blocked send, where slots have these numbers and the publisher has these ends.
abbrev pub blocked_send : (number : ℕ → ℕ) → (ends : List (Option ℕ)) → BlockedDelivery → BlockedSend
blocked_send number ends b = record {
  message = number b.slot;
  channel = b.channel;
  place = (b.progress).place;
  ends = drop (b.progress).place (within_reach b ends);
  retries = (b.progress).retries;
  count = (b.progress).count;
  has_failed = (b.progress).has_failed;
}

module _ (books : Slab Book) (connections : Slab Link) where
  -- The machine's record of a publisher.
  abbrev pub publisher_of : PublisherFields → Named Publisher
  publisher_of x = record {
    id = x.id;
    port = record {
      place = x.place;
      slots = x.slots;
      max_loaned_samples = x.max_loaned_samples;
      allocation_strategy = x.allocation;
      initial_max_slice_len = x.initial_max_slice_len;
      longest_granted = x.longest_granted;
      segments = x.segments;
      backpressure_strategy = x.strategy;
      backpressure_handler = x.backpressure_handler;
      degradation_handler = x.degradation_handler;
      loans = map (number_in_slot books x.id) x.loans;
      history = map (number_in_slot books x.id) x.history.items;
      ends = sender_ends connections x.keys;
      is_due = x.is_due;
      blocked = option_map (blocked_send (number_in_slot books x.id) (sender_ends connections x.keys)) x.blocked;
    };
  }

  -- The machine's record of a subscriber.
  abbrev pub subscriber_of : SubscriberFields → Named Subscriber
  subscriber_of y = record {
    id = y.id;
    port = record {
      is_open = y.is_open;
      place = y.place;
      buffer = y.buffer;
      degradation_handler = y.degradation_handler;
      ends = receiver_ends connections y.keys;
      expired = occupants (receiver_ends connections (map Some y.expired));
      is_due = y.is_due;
    };
  }

  -- What lies in a connection.
  abbrev pub between_of : Link → Between
  between_of c = record {
    publisher = c.home.publisher;
    subscriber = c.home.subscriber;
    mailbox = mailbox_of (number_in_slot books c.home.publisher) c;
    channels = c.channels;
  }

-- What the fields keep, beside these boxes.
abbrev pub keeping : {T U F G : Type 0} → DomainBoxes F G → Fields T U → Kept T U F G
keeping boxes f = record {
  config = f.config;
  next_port = f.next_port;
  next_message = f.next_message;
  publishers = map (option_map (publisher_of f.books f.connections)) f.publishers;
  subscribers = map (option_map (subscriber_of f.books f.connections)) f.subscribers;
  connections = map (option_map (between_of f.books f.connections)) f.connections.slots;
  books = map_from (kept_book f.contents) 0 f.books.slots;
  warnings = f.warnings.items;
  boxes = boxes;
}

-- What the fields keep, where there are no boxes.
abbrev pub kept_of : {T U : Type 0} → Fields T U → Kept T U ⊥ ⊥
kept_of f = keeping (record { publishers = []; subscribers = [] }) f
