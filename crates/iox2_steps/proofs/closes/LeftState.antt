-- The fields after a publisher left keep the machine's state after its close.
use Rattle.std.proofs.Common.{◌≡◌, ℕ, ◌<◌, Bool, true, false, cond, eqb, List, get_or, refl, ap, sym, subst, ◌∙◌, inl}
use Rattle.std.proofs.Common.{inr, arith}
use Rattle.std.proofs.lemmas.Bool.{cases_eq, eq-eqb, eqb-true}
use Rattle.std.specs.declared.option.Option.{Option}
use Rattle.std.specs.declared.option.Option.TheVariants.{None, Some}
use Rattle.slab.specs.Slab.{Slab, get}
use Rattle.iox2_connections.specs.Link.{Link}
use Rattle.iox2_slots.specs.SlotBook.{Book, holders_at}
use Rattle.iox2_machine.specs.machine.Ports.{mailbox_after_publisher, publisher_gone, publisher_closed}
use Rattle.iox2_machine.specs.machine.Ports.{subscribers_pruned}
use Rattle.iox2_machine.specs.machine.Mailbox.{Mailbox, numbers_in, waiting_dropped}
use Rattle.iox2_machine.specs.machine.Numbers.{contains}
use Rattle.iox2_machine.specs.machine.Records.{Entry, Loan}
use Rattle.iox2_machine.specs.machine.State.{State, subscribers_due}
use Rattle.iox2_machine.specs.machine.WellFormed.{IsWellFormed}
use Rattle.iox2_machine.specs.Stored.{IsHeldMessage, In_history, In_mailbox, In_blocked_send}
use Rattle.iox2_connections.specs.Counters.{with_counters}
use Rattle.iox2_laws.proofs.MailboxLemmas.{contains_in_dropped}
use Rattle.iox2_laws.proofs.Puts.{found_removed}
use Rattle.iox2_laws.proofs.CloseLaws.{publisher_closed_keeps}
use Rattle.iox2_domain.specs.Ports.{PublisherFields}
use Rattle.iox2_domain.specs.Kept.{Lent_message, Sent_message, state_of, entries_of}
use Rattle.iox2_domain.specs.Fields.{Fields, kept_of}
use Rattle.iox2_domain.specs.Shows.{KeepsEntries}
use Rattle.iox2_domain.specs.Invariant.{HasNumber, IsDomain}
use Rattle.iox2_domain.proofs.lemmas.fields.Views.{mailboxes-are}
use Rattle.iox2_domain.proofs.lemmas.slots.BookChanges.{book-here, book-others, book-state}
use Rattle.iox2_domain.proofs.lemmas.slots.HeldMessages.{held-message-slot}
use Rattle.iox2_domain.proofs.lemmas.slots.Messages.{lies_at, has_number, loan-there, loan-found, entry-there}
use Rattle.iox2_domain.proofs.lemmas.slots.Messages.{entry-found}
use Rattle.iox2_domain.specs.Reaches.{ReachesBut}
use Rattle.iox2_domain.specs.Closes.{LeavesConnections}
use Rattle.iox2_steps.proofs.closes.LoansLeft.{left-counters, LeavesSlots}
use Rattle.iox2_steps.proofs.closes.LeftParts.{after, between, keeps_slots, publishers-apart, plain, number-back}
use Rattle.iox2_steps.proofs.closes.LeftParts.{numbered, counted, back, forth, leaver-agrees, leaver-parts}
use Rattle.iox2_steps.proofs.closes.LeftConnections.{left-channels, left-had}
use Rattle.iox2_steps.proofs.updates.ResetChannels.{sender-reset}
use Rattle.iox2_domain.specs.Midway.{with_channels_of}
use Rattle.iox2_steps.proofs.closes.LeftMailboxes.{leaver, mailboxes-left}
use Rattle.iox2_steps.proofs.closes.LeftPublishers.{publishers-left, places-left as publisher_places-left}
use Rattle.iox2_steps.proofs.closes.LeftSubscribers.{subscribers-left, places-left as subscriber_places-left}
use Rattle.iox2_domain.proofs.lemmas.fields.ConnectionEnds.{publisher-stands}
use Rattle.iox2_steps.proofs.sends.LoanAlone.{loan-once}
use Rattle.iox2_domain.specs.OpenMarks.{IsUnmarkedSender}
use mathlib.Core.Path.{fun_ext}
use Rattle.iox2_domain.proofs.lemmas.fields.PlacesKept.{places-back}

module _ {T U : Type 0} (f : Fields T U) (sound : IsDomain f) (i : ℕ) (x : PublisherFields)
    (here : get_or f.publishers i None ≡ Some x)
    (b : Book) (at : get f.books x.book ≡ Some b) (new : Slab Link)
    (left : LeavesConnections x.id f.subscribers f.connections new) (holders : List ℕ)
    (slots : LeavesSlots x b.holders f.connections.slots holders new.slots) (free : x.blocked ≡ None) where
  abbrev g : Fields T U
  g = after f sound i x here b at new left holders slots

  abbrev before : State T U
  before = state_of (kept_of f)

  -- ---- loans

  -- the slot of a loan is still in use
  loan-in_use : (k slot n : ℕ) (l : Loan T U) → lies_at f k slot ≡ Some (Lent_message n l) → HasNumber g.books k slot n
  loan-in_use k slot n l lies = elim (cases_eq k x.book) [
    | inl same ↦
        let once = loan-once f sound i x here slot n l (ap (λ (j : ℕ). lies_at f j slot) (sym same) ∙ lies) in
        let some : 0 < holders_at (with_counters b holders) slot =
        omega (arith, once, left-counters f sound i x here b at new left holders slots slot) in
        let is : Some has.book ≡ Some b = sym has.stands ∙ ap (get f.books) same ∙ at in
        let one : has.book ≡ b = cc in
        record {
          book = with_counters b holders;
          stands = ap (get g.books) same ∙ book-here (between f sound i x here b at new left holders slots) x.book b
              (with_counters b holders) at (keeps_slots f sound i x here b at new left holders slots);
          in_use = some;
          number = ap (λ (c : Book). get_or c.numbers slot 0) (sym one) ∙ has.number;
        }
    | inr away ↦ record {
      book = has.book;
      stands = book-others (between f sound i x here b at new left holders slots) x.book b (with_counters b holders) at
          (keeps_slots f sound i x here b at new left holders slots) k away ∙ has.stands;
      in_use = has.in_use;
      number = has.number;
    }
  ] where
    has : HasNumber f.books k slot n
    has = has_number f.contents f.books k slot n (Lent_message n l) lies (eq-eqb n n refl)

  loan-stays : (n : ℕ) (l : Loan T U) → before.loans n ≡ Some l → (state_of (kept_of g)).loans n ≡ Some l
  loan-stays n l found =
      let there = loan-there f n l found in
      loan-found g (numbered f sound i x here b at new left holders slots) there.0 there.1 n l
      (forth f sound i x here b at new left holders slots there.0 there.1 n (Lent_message n l)
      (loan-in_use there.0 there.1 n l there.2) there.2)

  loan-was : (n : ℕ) (l : Loan T U) → (state_of (kept_of g)).loans n ≡ Some l → before.loans n ≡ Some l
  loan-was n l found =
      let there = loan-there g n l found in
      loan-found f sound.parts.numbered there.0 there.1 n l
      (back f sound i x here b at new left holders slots there.0 there.1 (Lent_message n l) there.2)

  loans-same : (state_of (kept_of g)).loans ≡ before.loans
  loans-same = fun_ext (λ n. by n (before.loans n) ((state_of (kept_of g)).loans n) refl refl) where
    by : (n : ℕ) (o now : Option (Loan T U)) → before.loans n ≡ o → (state_of (kept_of g)).loans n ≡ now
        → (state_of (kept_of g)).loans n ≡ before.loans n
    by n None None e h = h ∙ sym e
    by n None (Some l) e h = h ∙ sym (loan-was n l h)
    by n (Some l) now e h = loan-stays n l e ∙ sym e

  -- ---- the state

  -- the fields without the changed book
  abbrev mid : Fields T U
  mid = between f sound i x here b at new left holders slots

  boxes : (state_of (kept_of mid)).mailboxes ≡ (publisher_gone before x.id (leaver f sound i x here)).mailboxes
  boxes = fun_ext (λ p. fun_ext (λ q. mailboxes-are mid p q)) ∙ mailboxes-left f sound i x here new left

  -- but for the loans, the changed book tells nothing
  mid-is : state_of (kept_of g) ≡ record (state_of (kept_of mid)) { loans = (state_of (kept_of g)).loans }
  mid-is = book-state mid x.book b (with_counters b holders) at
      (keeps_slots f sound i x here b at new left holders slots) sound.parts.books.one_each

  -- the machine's state after the close, before it resets the publisher's channels
  abbrev unsettled : State T U
  unsettled = subscribers_due (subscribers_pruned (publisher_gone before x.id (leaver f sound i x here)))

  left-shown : state_of (kept_of g) ≡ with_channels_of g unsettled
  left-shown = ap (with_channels_of g) mid-is ∙ (λ t. with_channels_of g (record unsettled {
    loans = loans-same t;
    publishers = publishers-left f sound i x here new left t;
    subscribers = subscribers-left f sound i x here new left t;
    mailboxes = boxes t;
    publisher_places = publisher_places-left f sound i x here new left t;
    subscriber_places = subscriber_places-left f sound i x here new left t;
  }))

  -- and after that
  pub left-is : IsUnmarkedSender f.connections i
      → state_of (kept_of g) ≡ publisher_closed before x.id (leaver f sound i x here)
  left-is unmarked =
      sender-reset f g sound.parts (leaver-parts f sound i x here b at new left holders slots unmarked free) x.id
      (λ _ _. Unit {0}) (left-channels x.id f.subscribers f.connections new left)
      unsettled left-shown refl

  -- ---- messages

  -- no entry is newly kept
  pub left-entries : (n : ℕ) (entry : Entry T U) → entries_of (kept_of g) n ≡ Some entry
      → entries_of (kept_of f) n ≡ Some entry
  left-entries n entry e =
      let there = entry-there g n entry e in
      entry-found f sound.parts.numbered there.0 there.1 n entry
      (back f sound i x here b at new left holders slots there.0 there.1 (Sent_message n entry) there.2)

  -- who holds a message afterwards held it before
  held-closed : (q n : ℕ) → IsHeldMessage (publisher_closed before x.id (leaver f sound i x here)) q n
      → IsHeldMessage before q n
  held-closed q n (In_history z at_z is) = In_history z
      (found_removed before.publishers x.id q z (before.publishers q ≡ Some z) at_z (λ away found. found)) is
  held-closed q n (In_mailbox r is) = In_mailbox r (by (eqb q x.id) refl is) where
    dropped : (t : Bool) (box : Mailbox) → contains (numbers_in (cond t box (waiting_dropped box))) n ≡ true
        → contains (numbers_in box) n ≡ true
    dropped true box h = h
    dropped false box h = contains_in_dropped box n h

    by : (t : Bool) → eqb q x.id ≡ t
        → contains (numbers_in
        (cond t (mailbox_after_publisher before x.id (leaver f sound i x here)) (before.mailboxes q) r)) n ≡ true
        → contains (numbers_in (before.mailboxes q r)) n ≡ true
    by true e h = ap (λ (p : ℕ). contains (numbers_in (before.mailboxes p r)) n) (eqb-true q x.id e)
        ∙ dropped _ (before.mailboxes x.id r) h
    by false e h = h
  held-closed q n (In_blocked_send z s at_z blocked is) =
      In_blocked_send z s (found_removed before.publishers x.id q z (before.publishers q ≡ Some z) at_z
      (λ away found. found)) blocked is

  -- the entry of a message that somebody holds is still kept
  left-keeps : IsUnmarkedSender f.connections i → KeepsEntries (kept_of g)
  left-keeps unmarked q n held =
      let was = sound.entries q n
      (held-closed q n (subst (λ (s : State T U). IsHeldMessage s q n) (left-is unmarked) held)) in
      let there = entry-there f n was.0 was.1 in
      let has = held-message-slot g (counted f sound i x here b at new left holders slots free)
      (publishers-apart f sound i x here b at new left holders slots)
      (plain f sound i x here b at new left holders slots) q n held in
      let same = sound.parts.numbered.one has.0 there.0 has.1 there.1 n
      (number-back f sound i x here b at new left holders slots has.0 has.1 n has.2)
      (has_number f.contents f.books there.0 there.1 n (Sent_message n was.0) there.2 (eq-eqb n n refl)) in
      let now : HasNumber g.books there.0 there.1 n =
      subst (λ (k : ℕ). HasNumber g.books k there.1 n) same.0
      (subst (λ (s : ℕ). HasNumber g.books has.0 s n) same.1 has.2) in (
        was.0,
        entry-found g (numbered f sound i x here b at new left holders slots) there.0 there.1 n was.0
            (forth f sound i x here b at new left holders slots there.0 there.1 n (Sent_message n was.0) now there.2),
        was.2,
      )

  -- ---- the whole

  -- the publisher is closed, but that nobody may hold a slot of its book
  pub left-reaches : IsUnmarkedSender f.connections i
      → ReachesBut x.book f g (publisher_closed before x.id (leaver f sound i x here))
  left-reaches unmarked = record {
    agrees = leaver-agrees f sound i x here b at new left holders slots unmarked free
        (subst IsWellFormed (sym (left-is unmarked))
        (publisher_closed_keeps before sound.well_formed x.id (leaver f sound i x here)
        (publisher-stands f sound.parts i x here))) (left-keeps unmarked);
    state = left-is unmarked;
    channels = λ k d at_d. left-had x.id f.subscribers f.connections new left k d at_d;
    entries = left-entries;
    places = places-back (number-back f sound i x here b at new left holders slots);
  }
