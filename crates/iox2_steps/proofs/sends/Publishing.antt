-- What it means that a loan is published: the fields and the buffers, and who held the other messages.
use Rattle.std.proofs.Common.{◌≡◌, ◌≢◌, ℕ, ◌||◌, true, false, cond, ◌∷◌, ◌++◌, map, get_or, refl, ap, sym, ◌∙◌, inl}
use Rattle.std.proofs.Common.{inr, ⊎_elim, ◌⊎◌, []}
use Rattle.std.proofs.lemmas.Bool.{cases_eq, ne_eqb}
use Rattle.std.specs.Prelude.{slice_set}
use Rattle.std.specs.declared.option.Option.{Option}
use Rattle.std.specs.declared.option.Option.TheVariants.{None, Some}
use Rattle.std.specs.Option.{option_map, option_and_then}
use Rattle.slab.specs.Slab.{with_value}
use Rattle.iox2_machine.specs.machine.Delivery.{DeliveryEnd}
use Rattle.iox2_machine.specs.machine.Loans.{entry_of}
use Rattle.iox2_slots.specs.SlotBook.{Book}
use Rattle.iox2_machine.specs.machine.Mailbox.{Mailbox, numbers_in}
use Rattle.iox2_machine.specs.machine.Numbers.{put_at, contains, last_n}
use Rattle.iox2_machine.specs.machine.Records.{Entry, Loan, Publisher, Subscriber, Environment, BlockedSend}
use Rattle.iox2_machine.specs.machine.Sends.{Publish, SendResult}
use Rattle.iox2_machine.specs.Stored.{IsHeldMessage, In_history, In_mailbox, In_blocked_send}
use Rattle.iox2_machine.specs.machine.State.{State, receiving_buffer, channel_buffer}
use Rattle.iox2_connections.specs.Counters.{with_counters, one_holder_more}
use Rattle.iox2_connections.specs.LookUp.{look_up, IsOnly}
use Rattle.iox2_connections.specs.Receivers.{buffers_of, taking_buffers, buffer_if_open, has_id}
use Rattle.iox2_machine.specs.machine.Channel.{Channel, is_closed}
use Rattle.iox2_domain.proofs.lemmas.fields.KeptChannels.{channels-are}
use Rattle.iox2_laws.proofs.DeliveryLaws.{Delivered}
use Rattle.iox2_laws.proofs.MailboxLemmas.{contains_in_appended}
use Rattle.iox2_laws.proofs.NumberLemmas.{contains_in_append, contains_in_last_n}
use Rattle.iox2_laws.proofs.Puts.{found_put}
use Rattle.iox2_domain.specs.Ports.{PublisherFields, SubscriberFields}
use Rattle.iox2_domain.specs.Kept.{Named, state_of, entries_of, is_named}
use Rattle.iox2_domain.specs.Fields.{Fields, kept_of, publisher_of, subscriber_of}
use Rattle.iox2_domain.specs.Invariant.{IsDomain, details_of, is_publisher, is_subscriber}
use Rattle.iox2_domain.specs.Deliveries.{with_loan_out, pushed, leaving, with_sent, with_left}
use Rattle.iox2_domain.proofs.lemmas.containers.LookUps.{look_up-map}
use Rattle.iox2_connections.specs.declared.sender.Progress.{Progress}
use mathlib.Core.Path.{fun_ext}
use Rattle.iox2_domain.proofs.lemmas.fields.NamedPorts.{named-stands}
use Rattle.iox2_domain.specs.KeptPlaces.{KeepsPlaces}

-- The fields after the publisher x, which stands at that place, has sent the loan in the slot of its book. The loan's
-- one holder is the history now.
abbrev pub with_send_ended : {T U : Type 0} → Fields T U → (place : ℕ) → PublisherFields → (slot : ℕ) → Book
    → Fields T U
with_send_ended f place x slot book = record f {
  publishers = slice_set f.publishers place (Some (record (with_loan_out slot x) { history = pushed x.history slot }));
  books = with_value f.books x.book (with_left (leaving x.history slot) (with_sent slot book));
}

-- The fields after the publisher x, which stands at that place, has sent the loan in the slot of its book, and waits
-- for a receiver. The loan is out still, and the history is one holder more.
abbrev pub with_send_blocked : {T U : Type 0} → Fields T U → (place : ℕ) → PublisherFields → (slot : ℕ) → Progress
    → Book → Fields T U
with_send_blocked f place x slot progress book = record f {
  publishers = slice_set f.publishers place
      (Some (record x {
        history = pushed x.history slot;
        blocked = Some (record { slot = slot; channel = 0; is_alone = false; progress = progress });
      }));
  books = with_value f.books x.book
      (with_left (leaving x.history slot) (with_counters (with_sent slot book) (one_holder_more slot book.holders)));
}

-- The loan n of the publisher p was published, with this result. Its entry may be newly kept, and no other is.
pub record Publishes {T U : Type 0} (environment : Environment) (old new : Fields T U) (p n : ℕ) (l : Loan T U)
    (result : SendResult) : Type 0 where
  pub agrees : IsDomain new
  pub publishes : Publish environment (state_of (kept_of old)) p n (state_of (kept_of new)) result
  pub loans : (state_of (kept_of new)).loans ≡ put_at (state_of (kept_of old)).loans n None
  pub entries : (m : ℕ) (entry : Entry T U) → entries_of (kept_of new) m ≡ Some entry
      → ((m ≡ n) × (entry ≡ entry_of l)) ⊎ (entries_of (kept_of old) m ≡ Some entry)
  pub places : KeepsPlaces old new

-- a publisher that stands somewhere is in the state, where ids are apart
pub named : {T U : Type 0} (f : Fields T U) → ((p : ℕ) → IsOnly (is_publisher p) f.publishers)
    → (i : ℕ) (x : PublisherFields) → get_or f.publishers i None ≡ Some x
    → (state_of (kept_of f)).publishers x.id ≡ Some ((publisher_of f.books f.connections x).port)
named f ids i x at = named-stands (publisher_of f.books f.connections) x.id f.publishers (ids x.id) i x at refl

module _ {T U : Type 0} (f : Fields T U) where
  -- the machine's buffers are those that the delivery sees
  pub buffers-are : buffers_of (map (option_map details_of) f.subscribers) ≡ receiving_buffer (state_of (kept_of f))
  buffers-are = fun_ext (λ q.
      ap (option_and_then buffer_if_open) (look_up-map (has_id q) details_of f.subscribers)
      ∙ by (look_up (is_subscriber q) f.subscribers)
      ∙ sym (ap (λ o. takes (option_map (λ (z : Named Subscriber). z.port) o))
      (look_up-map (is_named q) (subscriber_of f.books f.connections) f.subscribers)))
    where
      takes : Option Subscriber → Option ℕ
      takes o = option_and_then (λ (y : Subscriber). cond y.is_open (Some y.buffer) None) o

      by : (o : Option SubscriberFields) → option_and_then buffer_if_open (option_map details_of o)
          ≡ takes (option_map (λ (z : Named Subscriber). z.port) (option_map (subscriber_of f.books f.connections) o))
      by None = refl
      by (Some y) = refl

  -- of those that take messages of a publisher too
  pub taking-are : (p channel : ℕ) → taking_buffers f.connections p channel
      (map (option_map details_of) f.subscribers) ≡ channel_buffer (state_of (kept_of f)) p channel
  taking-are p channel = fun_ext (λ q.
      ap (λ (channels : ℕ → ℕ → ℕ → Channel). cond (is_closed (channels p q channel)) None
      (buffers_of (map (option_map details_of) f.subscribers) q)) (sym (channels-are f))
      ∙ ap (λ (buffers : ℕ → Option ℕ). cond (is_closed ((state_of (kept_of f)).channels p q channel)) None (buffers q))
      buffers-are)

-- the state in which the loan n is a message, with these mailboxes and this record of its publisher
abbrev pub with_published : {T U : Type 0} → State T U → (p n : ℕ) → (ℕ → ℕ → Mailbox) → Publisher → State T U
with_published s p n boxes z =
    record s { mailboxes = boxes; publishers = put_at s.publishers p (Some z); loans = put_at s.loans n None }

module _ {T U : Type 0} (s : State T U) (p n : ℕ) (port : Publisher) (stands : s.publishers p ≡ Some port)
    (boxes : ℕ → ℕ → Mailbox) where
  -- who holds another message afterwards held it after the delivery
  pub held-mid : (size : ℕ) (z : Publisher) → z.history ≡ last_n size (port.history ++ n ∷ [])
      → ((c : BlockedSend) → z.blocked ≡ Some c → c.message ≡ n)
      → (q m : ℕ) → m ≢ n → IsHeldMessage (with_published s p n boxes z) q m
      → IsHeldMessage (record s { mailboxes = boxes }) q m
  held-mid size z longer waiting q m away (In_history y at is) =
      found_put s.publishers p z
      (λ j v. contains v.history m ≡ true → IsHeldMessage (record s { mailboxes = boxes }) j m) q y at
      (λ _ h. In_history port stands (⊎_elim (λ old. old) (λ new. absurd (away (alone new)))
      (contains_in_append port.history (n ∷ []) m
      (contains_in_last_n size (port.history ++ n ∷ []) m
      (ap (λ ns. contains ns m) (sym longer) ∙ h)))))
      (λ _ there h. In_history y there h) is
    where
      alone : contains (n ∷ []) m ≡ true → m ≡ n
      alone h = elim (cases_eq n m) [
        | inl same ↦ sym same
        | inr differs ↦ absurd (let no : false ≡ true = sym (ap (λ t. t || false) (ne_eqb n m differs)) ∙ h in cc)
      ]
  held-mid size z longer waiting q m away (In_mailbox r is) = In_mailbox r is
  held-mid size z longer waiting q m away (In_blocked_send y b at waits is) =
      found_put s.publishers p z
      (λ j v. v.blocked ≡ Some b → IsHeldMessage (record s { mailboxes = boxes }) j m) q y at
      (λ _ h. absurd (away (sym is ∙ waiting b h))) (λ _ there h. In_blocked_send y b there h is) waits

  -- and before it
  pub held-before-send : (buffers : ℕ → Option ℕ) (how : DeliveryEnd)
      → Delivered buffers n 0 port.ends port.ends (s.mailboxes p) how (boxes p)
      → ((q r : ℕ) → q ≢ p → boxes q r ≡ s.mailboxes q r)
      → (q m : ℕ) → m ≢ n → IsHeldMessage (record s { mailboxes = boxes }) q m → IsHeldMessage s q m
  held-before-send buffers how delivered other-boxes q m away (In_history y at is) = In_history y at is
  held-before-send buffers how delivered other-boxes q m away (In_blocked_send y b at waits is) =
      In_blocked_send y b at waits is
  held-before-send buffers how delivered other-boxes q m away (In_mailbox r is) = elim (cases_eq q p) [
    | inl same ↦ In_mailbox r (ap (λ i. contains (numbers_in (s.mailboxes i r)) m) same
        ∙ row (ap (λ i. contains (numbers_in (boxes i r)) m) (sym same) ∙ is))
    | inr other ↦ In_mailbox r (ap (λ box. contains (numbers_in box) m) (sym (other-boxes q r other)) ∙ is)
  ]
    where
      row : contains (numbers_in (boxes p r)) m ≡ true → contains (numbers_in (s.mailboxes p r)) m ≡ true
      row h = ⊎_elim
          (λ same. ap (λ box. contains (numbers_in box) m) (sym same) ∙ h)
          (λ put. ⊎_elim (λ is_n. absurd (away is_n)) (λ was. was)
          (contains_in_appended 0 (put.1).0 n (s.mailboxes p r) m
          (ap (λ box. contains (numbers_in box) m) (sym (put.1).2) ∙ h)))
          (delivered.each r)
