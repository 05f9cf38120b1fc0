-- The table of a run: an entry for what each command made.
use Rattle.std.specs.Prelude.{ℕ, Bool, true, false, List, length, ◌≡◌, ◌<◌, slice_get}
use Rattle.std.specs.declared.option.Option.{Option}
use Rattle.std.specs.declared.option.Option.TheVariants.{None, Some}
use Rattle.iox2_machine.specs.machine.Numbers.{contains}
use Rattle.iox2_machine.specs.machine.Mailbox.{is_borrowed}
use Rattle.iox2_machine.specs.machine.Records.{Loan, Publisher, Subscriber, Custom}
use Rattle.iox2_machine.specs.machine.SingleCalls.{HoldsBlocked}
use Rattle.iox2_machine.specs.machine.State.{State}
use Rattle.iox2_commands.specs.Outcomes.{Handle, No_handle, Publisher_handle, Subscriber_handle, Loan_handle}
use Rattle.iox2_commands.specs.Outcomes.{Blocked_handle, Sample_handle, Event}
use Rattle.iox2_commands.specs.Runs.{received}

-- What the handle names that a command made, with the service's number; no entry if it made none or it is consumed.
pub data TableEntry : Type 0 where
  No_entry : TableEntry
  Publisher_entry : (service id : ℕ) → TableEntry
  Subscriber_entry : (service id : ℕ) → TableEntry
  Unwritten_entry : (service publisher message : ℕ) → TableEntry
  Written_entry : (service publisher message : ℕ) → TableEntry
  Blocked_entry : (service publisher message : ℕ) → TableEntry
  Sample_entry : (service publisher subscriber message : ℕ) → TableEntry

-- The port that a handle names.
abbrev pub port_of : Handle → Option ℕ
port_of (Publisher_handle p) = Some p
port_of (Subscriber_handle q) = Some q
port_of _ = None

module _ {T U : Type 0} (s : State T U) where
  -- The handle names nothing live.
  abbrev pub IsSpent : Handle → Type 0
  IsSpent No_handle = Unit {0}
  IsSpent (Publisher_handle p) = s.publishers p ≡ None
  IsSpent (Subscriber_handle q) = (y : Subscriber) → s.subscribers q ≡ Some y → y.is_open ≡ false
  IsSpent (Loan_handle n) = s.loans n ≡ None
  IsSpent (Blocked_handle p n) = HoldsBlocked s p n → ⊥
  IsSpent (Sample_handle p q n) = is_borrowed n (s.mailboxes p q) ≡ false

  -- No send of the publisher is blocked, if it is there.
  abbrev pub IsUnblockedPort : (p : ℕ) → Type 0
  IsUnblockedPort p = (x : Publisher) → s.publishers p ≡ Some x → x.blocked ≡ None

  -- No box answers for the publisher, if it is there.
  abbrev pub HasNoBox : (p : ℕ) → Type 0
  HasNoBox p = (x : Publisher) → s.publishers p ≡ Some x
      → (x.backpressure_handler ≡ Some Custom → ⊥) × (x.degradation_handler ≡ Custom → ⊥)

  -- Nor does one for the subscriber.
  abbrev pub HasNoReceiverBox : (q : ℕ) → Type 0
  HasNoReceiverBox q = (y : Subscriber) → s.subscribers q ≡ Some y → y.degradation_handler ≡ Custom → ⊥

  -- The loan n is out, which is written or not. The publisher that lent it may be closed.
  abbrev pub HasLoan : (p n : ℕ) → (is_written : Bool) → Type 0
  HasLoan p n is_written =
      ((l : Loan T U) × (s.loans n ≡ Some l) × (l.publisher ≡ p) × (l.is_written ≡ is_written)) × (p < s.next_port)

  -- The entry names what the handle names in this service, and that is live. The port that it names has no box, but a
  -- sample's may have one.
  abbrev pub IsEntryOf : Handle → TableEntry → Type 0
  IsEntryOf handle No_entry = IsSpent handle
  IsEntryOf handle (Publisher_entry service p) =
      (service ≡ (s.config).service_id) × (handle ≡ Publisher_handle p) × (x : Publisher) × (s.publishers p ≡ Some x)
      × HasNoBox p
  IsEntryOf handle (Subscriber_entry service q) =
      (service ≡ (s.config).service_id) × (handle ≡ Subscriber_handle q) × (y : Subscriber) × (s.subscribers q ≡ Some y)
      × (y.is_open ≡ true) × HasNoReceiverBox q
  IsEntryOf handle (Unwritten_entry service p n) =
      (service ≡ (s.config).service_id) × (handle ≡ Loan_handle n) × HasLoan p n false × HasNoBox p
  IsEntryOf handle (Written_entry service p n) =
      (service ≡ (s.config).service_id) × (handle ≡ Loan_handle n) × HasLoan p n true × HasNoBox p
  IsEntryOf handle (Blocked_entry service p n) =
      (service ≡ (s.config).service_id) × (handle ≡ Blocked_handle p n) × HoldsBlocked s p n × HasNoBox p
  IsEntryOf handle (Sample_entry service p q n) =
      (service ≡ (s.config).service_id) × (handle ≡ Sample_handle p q n) × (is_borrowed n (s.mailboxes p q) ≡ true)

-- A run's table has the entry of each command's handle, while what this names is live. No port, no loan, no blocked
-- send and no sample has two handles, and a message whose send was blocked is no loan any more.
pub record IsTable {T U : Type 0} (s : State T U) (handles : List Handle) (events : List (Event T U))
    (table : List TableEntry) : Type 0 where
  pub count : length table ≡ length handles
  pub entries : (i : ℕ) (handle : Handle) (entry : TableEntry) → slice_get handles i ≡ Some handle
      → slice_get table i ≡ Some entry → IsEntryOf s handle entry
  pub ports_below : (i p : ℕ) (handle : Handle) → slice_get handles i ≡ Some handle → port_of handle ≡ Some p
      → p < s.next_port
  pub ports_apart : (i j p : ℕ) (handle handle' : Handle) → slice_get handles i ≡ Some handle
      → slice_get handles j ≡ Some handle'
      → port_of handle ≡ Some p → port_of handle' ≡ Some p → i ≡ j
  pub loans_below : (i n : ℕ) → slice_get handles i ≡ Some (Loan_handle n) → n < s.next_message
  pub loans_apart : (i j n : ℕ) → slice_get handles i ≡ Some (Loan_handle n)
      → slice_get handles j ≡ Some (Loan_handle n) → i ≡ j
  pub blocked_sent : (i p n : ℕ) → slice_get handles i ≡ Some (Blocked_handle p n)
      → (p < s.next_port) × (n < s.next_message) × (s.loans n ≡ None)
  pub blocked_apart : (i j p n : ℕ) → slice_get handles i ≡ Some (Blocked_handle p n)
      → slice_get handles j ≡ Some (Blocked_handle p n) → i ≡ j
  pub samples_received : (i p q n : ℕ) → slice_get handles i ≡ Some (Sample_handle p q n)
      → contains (received p q events) n ≡ true
  pub samples_apart : (i j p q n : ℕ) → slice_get handles i ≡ Some (Sample_handle p q n)
      → slice_get handles j ≡ Some (Sample_handle p q n) → i ≡ j
