-- What a domain keeps, and the machine's state that this is. No key of a connection, no hint and no room stands here.
use Rattle.std.specs.Prelude.{ℕ, Bool, ◌&&◌, ◌==◌, if◌then◌else◌, List, [], ◌∷◌, length, map}
use Rattle.std.specs.declared.option.Option.{Option}
use Rattle.std.specs.declared.option.Option.TheVariants.{None, Some}
use Rattle.std.specs.Option.{option_map, option_and_then}
use Rattle.iox2_machine.specs.machine.Channel.{Channel, new_channels}
use Rattle.iox2_connections.specs.Link.{channel_at}
use Rattle.iox2_machine.specs.machine.Mailbox.{Mailbox, empty_mailbox}
use Rattle.iox2_machine.specs.machine.Records.{Entry, Loan, Publisher, Subscriber}
use Rattle.iox2_machine.specs.machine.State.{State, Warnings, Messages}
use Rattle.iox2_machine.specs.declared.header.Header.{Header}
use Rattle.iox2_machine.specs.declared.service_config.ServiceConfig.{ServiceConfig}
use Rattle.iox2_connections.specs.LookUp.{look_up}
use Rattle.iox2_domain.specs.Boxes.{DomainBoxes}

-- A port and its id.
pub record Named (A : Type 0) : Type 0 where
  pub id : ℕ
  pub port : A

-- What lies between a publisher and a subscriber.
pub record Between : Type 0 where
  pub publisher : ℕ
  pub subscriber : ℕ
  pub mailbox : Mailbox
  pub channels : List Channel  -- by number

-- What lies in a slot, with its number: a loan, or a message that was sent.
pub data KeptMessage (T U : Type 0) : Type 0 where
  Lent_message : (number : ℕ) → Loan T U → KeptMessage T U
  Sent_message : (number : ℕ) → Entry T U → KeptMessage T U

-- What lies in the slots of one publisher, which may be gone.
pub record KeptBook (T U : Type 0) : Type 0 where
  pub publisher : ℕ
  pub slots : List (Option (KeptMessage T U))

-- What a domain keeps, with handlers of F and G in boxes.
pub record Kept (T U F G : Type 0) : Type 0 where
  pub config : ServiceConfig
  pub next_port : ℕ
  pub next_message : ℕ
  pub publishers : List (Option (Named Publisher))  -- by place
  pub subscribers : List (Option (Named Subscriber))  -- by place
  pub connections : List (Option Between)  -- in no order that means anything
  pub books : List (Option (KeptBook T U))  -- in no order that means anything
  pub warnings : Warnings
  pub boxes : DomainBoxes F G

-- ---- ports and mailboxes

-- The port has this id.
abbrev pub is_named : {A : Type 0} → ℕ → Named A → Bool
is_named id x = x.id == id

-- The port with this id.
abbrev pub port_named : {A : Type 0} → ℕ → List (Option (Named A)) → Option A
port_named {A} id ports = option_map (λ (x : Named A). x.port) (look_up (is_named id) ports)

-- At each place the id of the port that stands there.
abbrev pub ids : {A : Type 0} → List (Option (Named A)) → List (Option ℕ)
ids {A} ports = map (option_map (λ (x : Named A). x.id)) ports

-- It lies between these two.
abbrev pub stands_between : (p q : ℕ) → Between → Bool
stands_between p q c = (c.publisher == p) && (c.subscriber == q)

-- The mailbox, or an empty one.
abbrev pub mailbox_if_between : Option Between → Mailbox
mailbox_if_between None = empty_mailbox
mailbox_if_between (Some c) = c.mailbox

-- The channels, or new ones.
abbrev pub channels_if_between : Option Between → ℕ → Channel
channels_if_between None = new_channels
channels_if_between (Some c) = channel_at c.channels

-- ---- messages

module _ {T U : Type 0} where
  -- What lies there has this number.
  abbrev pub is_numbered : ℕ → KeptMessage T U → Bool
  is_numbered n (Lent_message number l) = number == n
  is_numbered n (Sent_message number entry) = number == n

  -- Its header.
  abbrev pub header_of : KeptMessage T U → Header
  header_of (Lent_message number l) = l.header
  header_of (Sent_message number entry) = entry.header

  -- How many cells or values it has.
  abbrev pub length_of : KeptMessage T U → ℕ
  length_of (Lent_message number l) = length l.cells
  length_of (Sent_message number entry) = length entry.values

  -- The loan that it is.
  abbrev pub loan_in : KeptMessage T U → Option (Loan T U)
  loan_in (Lent_message number l) = Some l
  loan_in (Sent_message number entry) = None

  -- The sent message that it is.
  abbrev pub entry_in : KeptMessage T U → Option (Entry T U)
  entry_in (Lent_message number l) = None
  entry_in (Sent_message number entry) = Some entry

  -- The first of two, if there is one, and else the second.
  abbrev pub first_of_two : Option (KeptMessage T U) → Option (KeptMessage T U) → Option (KeptMessage T U)
  first_of_two None later = later
  first_of_two (Some found) later = Some found

  -- What has this number, in some slot of these books.
  abbrev pub message_numbered : ℕ → List (Option (KeptBook T U)) → Option (KeptMessage T U)
  message_numbered n [] = None
  message_numbered n (None ∷ books) = message_numbered n books
  message_numbered n (Some book ∷ books) = first_of_two (look_up (is_numbered n) book.slots) (message_numbered n books)

  -- ---- changes of a loan

  -- What lies there, with the loan n changed so.
  abbrev pub loan_changed : (n : ℕ) → (Loan T U → Loan T U) → KeptMessage T U → KeptMessage T U
  loan_changed n change (Lent_message number l) = Lent_message number (if number == n then change l else l)
  loan_changed n change (Sent_message number entry) = Sent_message number entry

module _ {T U F G : Type 0} where
  -- The state that is kept.
  abbrev pub state_of : Kept T U F G → State T U
  state_of kept = record {
    config = kept.config;
    next_port = kept.next_port;
    next_message = kept.next_message;
    loans = λ n. option_and_then loan_in (message_numbered n kept.books);
    publishers = λ p. port_named p kept.publishers;
    subscribers = λ q. port_named q kept.subscribers;
    mailboxes = λ p q. mailbox_if_between (look_up (stands_between p q) kept.connections);
    channels = λ p q. channels_if_between (look_up (stands_between p q) kept.connections);
    publisher_places = ids kept.publishers;
    subscriber_places = ids kept.subscribers;
    warnings = kept.warnings;
  }

  -- The messages that are kept.
  abbrev pub entries_of : Kept T U F G → Messages T U
  entries_of kept = λ n. option_and_then entry_in (message_numbered n kept.books)

  -- What is kept, with the loan n changed so. Nothing else changes.
  abbrev pub with_loan_changed : (n : ℕ) → (Loan T U → Loan T U) → Kept T U F G → Kept T U F G
  with_loan_changed n change kept = record kept {
    books =
        map (option_map (λ (book : KeptBook T U).
        record book { slots = map (option_map (loan_changed n change)) book.slots })) kept.books;
  }
