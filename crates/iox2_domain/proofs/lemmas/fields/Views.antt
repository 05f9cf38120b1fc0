-- What a domain's fields show of the machine.
use Rattle.std.proofs.Common.{◌≡◌, ℕ, ◌≤◌, Bool, true, false, ◌&&◌, refl, ap, sym, ◌∙◌, arith}
use Rattle.std.proofs.lemmas.Bool.{eqb-true}
use Rattle.std.specs.declared.option.Option.{Option}
use Rattle.std.specs.declared.option.Option.TheVariants.{None, Some}
use Rattle.std.specs.Option.{option_map}
use Rattle.slab.specs.Slab.{Slab}
use Rattle.iox2_connections.specs.Link.{Link}
use Rattle.iox2_slots.specs.SlotBook.{Book}
use Rattle.iox2_machine.specs.machine.Numbers.{contains}
use Rattle.iox2_machine.specs.machine.Mailbox.{numbers_in}
use Rattle.iox2_machine.specs.machine.Records.{Entry, Loan, Publisher, BlockedSend}
use Rattle.iox2_machine.specs.machine.State.{State, Messages}
use Rattle.iox2_machine.specs.machine.WellFormed.{IsWellFormed}
use Rattle.iox2_connections.specs.LookUp.{look_up}
use Rattle.iox2_connections.specs.Mailboxes.{is_between, mailboxes_of, mailbox_if_any, sender_ends}
use Rattle.iox2_connections.proofs.LookUps.{look_up-there}
use Rattle.iox2_domain.specs.Ports.{PublisherFields}
use Rattle.iox2_domain.specs.declared.publisher_state.BlockedDelivery.{BlockedDelivery}
use Rattle.iox2_domain.specs.Kept.{Kept, state_of, entries_of, stands_between, mailbox_if_between}
use Rattle.iox2_domain.specs.Fields.{Fields, kept_of, number_in_slot, between_of, blocked_send, publisher_of}
use Rattle.iox2_machine.specs.Stored.{IsHeldMessage, In_history, In_mailbox, In_blocked_send}
use Rattle.iox2_domain.specs.Shows.{Shows, KeepsEntries}
use Rattle.iox2_domain.proofs.lemmas.containers.LookUps.{look_up-map}

module _ {T U : Type 0} (f : Fields T U) where
  -- the mailboxes are those of the connections, at the numbers in the books
  pub mailboxes-are : (p q : ℕ)
      → (state_of (kept_of f)).mailboxes p q ≡ mailboxes_of (number_in_slot f.books) f.connections p q
  mailboxes-are p q =
      ap mailbox_if_between (look_up-map (stands_between p q) (between_of f.books f.connections) f.connections.slots)
      ∙ by (look_up (is_between p q) f.connections.slots) refl
    where
      both : (a b : Bool) → (a && b) ≡ true → a ≡ true
      both true b e = refl
      both false b e = absurd cc

      by : (o : Option Link) → look_up (is_between p q) f.connections.slots ≡ o
          → mailbox_if_between (option_map (between_of f.books f.connections) o) ≡ mailbox_if_any
          (number_in_slot f.books p) o
      by None e = refl
      by (Some c) e =
          let there = look_up-there (is_between p q) f.connections.slots c e in
          let here : c.home.publisher ≡ p = eqb-true c.home.publisher p (both _ _ there.2) in
          ap (λ r. mailbox_if_any (number_in_slot f.books r) (Some c)) here

-- where nothing is blocked, no number and no end tells
pub nothing-blocked : (g h : BlockedDelivery → BlockedSend) (o : Option BlockedDelivery) → o ≡ None
    → option_map g o ≡ option_map h o
nothing-blocked g h o none = ap (option_map g) none ∙ sym (ap (option_map h) none)

-- the machine's publisher isn't blocked where no delivery is
pub unblocked : (books : Slab Book) (connections : Slab Link) (x : PublisherFields) → x.blocked ≡ None
    → ((publisher_of books connections x).port).blocked ≡ None
unblocked books connections x free =
    ap (option_map (blocked_send (number_in_slot books x.id) (sender_ends connections x.keys))) free

-- a publisher keeps its history and its blocked send
pub record KeepsHeld (x y : Publisher) : Type 0 where
  pub history : x.history ≡ y.history
  pub blocked : x.blocked ≡ y.blocked

module _ {T U : Type 0} where
  -- who holds a message afterwards held it before
  pub held-before : (s t : State T U) (p n : ℕ) → ((q : ℕ) → t.mailboxes p q ≡ s.mailboxes p q)
      → ((y : Publisher) → t.publishers p ≡ Some y → (x : Publisher) × (s.publishers p ≡ Some x) × KeepsHeld x y)
      → IsHeldMessage t p n → IsHeldMessage s p n
  held-before s t p n boxes kept (In_history y at is) =
      let was = kept y at in In_history was.0 was.1 (ap (λ ns. contains ns n) was.2.history ∙ is)
  held-before s t p n boxes kept (In_mailbox q is) =
      In_mailbox q (ap (λ box. contains (numbers_in box) n) (sym (boxes q)) ∙ is)
  held-before s t p n boxes kept (In_blocked_send y b at blocked is) =
      let was = kept y at in In_blocked_send was.0 b was.1 (was.2.blocked ∙ blocked) is

  -- a domain that shows a state and keeps no new message shows its new state afterwards, with the same messages
  pub shows-next : {F G : Type 0} (old new : Kept T U F G) (m : Messages T U) (s : State T U) → Shows old m s
      → IsWellFormed (state_of new) → KeepsEntries new
      → ((n : ℕ) (entry : Entry T U) → entries_of new n ≡ Some entry → entries_of old n ≡ Some entry)
      → s.next_message ≤ (state_of new).next_message
      → ((n : ℕ) (l : Loan T U) → (state_of new).loans n ≡ Some l → m n ≡ None)
      → Shows new m (state_of new)
  shows-next old new m s shown well complete kept rises unsent = record {
    state = refl;
    well_formed = well;
    entries = λ n entry at. shown.entries n entry (kept n entry at);
    complete = complete;
    below = λ n le. shown.below n (omega arith);
    unsent = unsent;
  }
