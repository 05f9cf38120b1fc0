-- Which states and messages something that keeps messages shows.
use Rattle.std.specs.Prelude.{ℕ, true, ◌≡◌, ◌≤◌}
use Rattle.std.specs.declared.option.Option.TheVariants.{None, Some}
use Rattle.iox2_machine.specs.machine.Numbers.{contains}
use Rattle.iox2_machine.specs.machine.Mailbox.{numbers_in}
use Rattle.iox2_machine.specs.machine.Records.{Entry, Loan, Publisher, BlockedSend}
use Rattle.iox2_machine.specs.machine.State.{State, Messages}
use Rattle.iox2_machine.specs.machine.WellFormed.{IsWellFormed}

-- A state without its messages, and the entries of those that somebody holds.
pub record Stored (T U : Type 0) : Type 0 where
  pub state : State T U
  pub entries : Messages T U

-- Somebody holds the message n of p: it is in the history of p, in a mailbox with messages of p, or a send of it is
-- blocked.
pub data IsHeldMessage {T U : Type 0} (s : State T U) (p n : ℕ) : Type 0 where
  In_history : (x : Publisher) → s.publishers p ≡ Some x → contains x.history n ≡ true → IsHeldMessage s p n
  In_mailbox : (q : ℕ) → contains (numbers_in (s.mailboxes p q)) n ≡ true → IsHeldMessage s p n
  In_blocked_send : (x : Publisher) (b : BlockedSend) → s.publishers p ≡ Some x → x.blocked ≡ Some b → b.message ≡ n
      → IsHeldMessage s p n

-- Each message of a publisher that somebody holds has its entry, whose header names that publisher.
abbrev pub StoredKeepsEntries : {T U : Type 0} → Stored T U → Type 0
StoredKeepsEntries {T} {U} stored = (p n : ℕ) → IsHeldMessage stored.state p n
    → (entry : Entry T U) × (stored.entries n ≡ Some entry) × ((entry.header).publisher_id ≡ p)

-- What is kept is this state, with these messages where an entry is kept, and one is kept of each message that somebody
-- holds. The state is well-formed, and no message was sent under a number that wasn't given out. Of messages that
-- nobody holds nothing is said.
pub record StoredShows {T U : Type 0} (stored : Stored T U) (messages : Messages T U) (s : State T U) : Type 0 where
  pub state : s ≡ stored.state
  pub well_formed : IsWellFormed s
  pub entries : (n : ℕ) (entry : Entry T U) → stored.entries n ≡ Some entry → messages n ≡ Some entry
  pub complete : StoredKeepsEntries stored
  pub below : (n : ℕ) → s.next_message ≤ n → messages n ≡ None
  -- A loan isn't sent yet: there is no message under its number.
  pub unsent : (n : ℕ) (l : Loan T U) → s.loans n ≡ Some l → messages n ≡ None
