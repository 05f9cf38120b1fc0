-- A publisher's loan is published: it goes to its receivers, and is out no more.
use Rattle.std.proofs.Common.{◌≡◌, ◌≢◌, ℕ, le_refl, ◌<◌, ◌≤◌, ◌||◌, true, false, List, [], ◌∷◌, ◌++◌, length, map}
use Rattle.std.proofs.Common.{get_or, refl, ap, sym, subst, ◌∙◌, inl, inr, arith, set-set, Bool, ◌+◌, drop, ◌⊎◌}
use Rattle.std.proofs.lemmas.Bool.{cases_eq, eq-eqb}
use Rattle.std.proofs.lemmas.List.{length-map, length-set}
use Rattle.std.proofs.lemmas.Option.{same_Some}
use Rattle.std.specs.Prelude.{slice_get, slice_set, nat_lt}
use Rattle.std.specs.declared.option.Option.{Option}
use Rattle.std.specs.declared.option.Option.TheVariants.{None, Some}
use Rattle.std.specs.Option.{option_map, option_map_or}
use Rattle.slab.specs.Slab.{get, Slab}
use Rattle.iox2_machine.specs.machine.Delivery.{Deliver, no_time, DeliveryEnd}
use Rattle.iox2_machine.specs.machine.Loans.{entry_of}
use Rattle.iox2_slots.specs.SlotBook.{Book, IsInUse, holders_at}
use Rattle.iox2_machine.specs.machine.Mailbox.{Mailbox}
use Rattle.iox2_machine.specs.machine.Numbers.{put_at, contains, without, last_n}
use Rattle.iox2_machine.specs.machine.Records.{Entry, Loan, Publisher, Environment, BlockedSend}
use Rattle.iox2_machine.specs.machine.Sends.{Publish, published, send_ended, with_mailboxes, SendResult, Blocked_send}
use Rattle.iox2_machine.specs.machine.Sends.{ConcludeSend, send_blocked}
use Rattle.iox2_machine.specs.Stored.{IsHeldMessage}
use Rattle.iox2_machine.specs.machine.State.{State, channel_buffer, publisher_changed}
use Rattle.iox2_machine.specs.machine.WellFormed.{IsWellFormed}
use Rattle.iox2_connections.specs.Counters.{times, with_counters, one_holder_more}
use Rattle.iox2_connections.specs.Mailboxes.{mailboxes_of}
use Rattle.iox2_connections.proofs.MailboxChanges.{others-stay, one-put, both-true}
use Rattle.iox2_laws.proofs.Altered.{same_state}
use Rattle.iox2_laws.proofs.DeliveryLaws.{Delivered, deliver_is, all_from}
use Rattle.iox2_laws.proofs.Puts.{put_at-same, put_at-other, at_each, put_at-twice}
use Rattle.iox2_laws.proofs.SendLaws.{publish_keeps}
use Rattle.iox2_domain.specs.Ports.{PublisherFields}
use Rattle.iox2_domain.specs.Kept.{Lent_message, Sent_message, state_of, entries_of, entry_in, KeptMessage}
use Rattle.iox2_domain.specs.Fields.{Fields, kept_of, publisher_of, number_in_slot, blocked_send, contents_at}
use Rattle.iox2_domain.specs.Invariant.{IsDomain, IsOwned, KeepsBooks, HasNumber, HasLoneLoans, HasParts, is_lent}
use Rattle.iox2_domain.specs.Deliveries.{SendsSlot, with_loan_out, pushed, leaving, with_sent, with_left, DeliversFrom}
use Rattle.iox2_domain.specs.Deliveries.{result_of_delivery}
use Rattle.iox2_domain.proofs.lemmas.fields.Views.{mailboxes-are, unblocked}
use Rattle.iox2_domain.proofs.lemmas.fields.ConnectionEnds.{publisher-stands}
use Rattle.iox2_domain.proofs.lemmas.slots.Messages.{lies_at, in_use_within, has_number, entry-found, message_in-parts}
use Rattle.iox2_domain.proofs.lemmas.slots.Messages.{message_at-slot, entry-there}
use Rattle.iox2_domain.proofs.lemmas.fields.Parts.{whole_of}
use Rattle.iox2_domain.proofs.lemmas.slots.BookChanges.{KeepsSlots, book-here, numbers-same}
use Rattle.iox2_domain.proofs.lemmas.fields.SameEnds.{with_connections, same-subscriber_of_key}
use Rattle.iox2_domain.proofs.lemmas.slots.HeldMessages.{held-message-slot}
use Rattle.iox2_domain.proofs.lemmas.slots.PublisherBooks.{book-own, book-owned, book-counts}
use Rattle.iox2_domain.proofs.lemmas.slots.Recounts.{back, forth}
use Rattle.iox2_domain.proofs.lemmas.slots.RecountedFields.{same-numbers}
use Rattle.iox2_domain.proofs.lemmas.slots.RecountedLoans.{recounted_fields, recounted-kept, parts-recounted}
use Rattle.iox2_domain.proofs.lemmas.slots.RecountedLoans.{recounted-is, recounted-entries, recounted-places}
use Rattle.iox2_domain.proofs.lemmas.slots.RecountedLoans.{recounted-keeps}
use Rattle.iox2_steps.proofs.sends.LoanAlone.{loan-is, loan-of, loan-slot, loan-once, loan-number}
use Rattle.iox2_steps.proofs.sends.SendEnded.{was-number as ended-was, ended, lies-sent, others-lie, only-slot}
use Rattle.iox2_steps.proofs.sends.SendEnded.{sent-there, others-same, ended-entries, ended-is, ended-parts}
use Rattle.iox2_steps.proofs.sends.SendEnded.{with_remembered}
use Rattle.iox2_steps.proofs.sends.Trimmed.{Trims, trims}
use Rattle.iox2_domain.proofs.lemmas.slots.NumbersInUse.{contains-map}
use Rattle.iox2_domain.proofs.lemmas.loans.PublisherChanges.{changed-kept_books, changed-here, other_slots}
use Rattle.iox2_domain.proofs.lemmas.slots.LoneLoans.{lone-sent, IsLoneIn, lone-fewer}
use Rattle.iox2_connections.specs.Deliveries.{begun, end_of}
use Rattle.iox2_connections.specs.declared.sender.Progress.{Progress}
use Rattle.iox2_connections.specs.declared.sender.DeliveryOutcome.{DeliveryOutcome}
use Rattle.iox2_connections.proofs.Counts.{one_if, one_if_other, get_or-one_holder_more}
use Rattle.circular_buffer.proofs.Places.{slice_get-set_same}
use Rattle.iox2_slots.specs.declared.slots.mark.SlotMark.TheVariants.{Sent}
use Rattle.iox2_domain.specs.declared.publisher_state.BlockedDelivery.{BlockedDelivery}
use Rattle.iox2_domain.proofs.lemmas.slots.Rebooked.{CanRebook, rebooked, rebooked-parts, rebooked-is, rebooked-entries}
use Rattle.iox2_domain.proofs.lemmas.slots.Rebooked.{rebooked-lone, rebooked-back, rebooked-forth, rebooked-number}
use Rattle.iox2_domain.proofs.lemmas.slots.Rebooked.{rebooked-numbered}
use Rattle.iox2_steps.proofs.sends.SentSlots.{times-without-one}
use mathlib.Core.Path.{fun_ext}
use Rattle.iox2_domain.proofs.lemmas.fields.KeptBooks.{kept-own}
use Rattle.iox2_laws.proofs.Cases.{match_some}
use Rattle.iox2_domain.specs.KeptPlaces.{KeepsPlaces}
use Rattle.iox2_domain.proofs.lemmas.fields.PlacesKept.{places-back, places-then}
use Rattle.iox2_steps.proofs.sends.Publishing.{with_send_ended, with_send_blocked, Publishes, named, taking-are}
use Rattle.iox2_steps.proofs.sends.Publishing.{with_published, held-mid, held-before-send}

module _ {T U : Type 0} (environment : Environment) (f : Fields T U) (sound : IsDomain f) (i : ℕ) (x : PublisherFields)
    (here : get_or f.publishers i None ≡ Some x)
    (slot n : ℕ) (l : Loan T U) (lies : lies_at f x.book slot ≡ Some (Lent_message n l))
    (is_written : l.is_written ≡ true)
    (free : x.blocked ≡ None) (outcome : DeliveryOutcome) (g : Fields T U)
    (d : DeliversFrom environment f x 0 x.keys slot begun no_time outcome g) where
  -- the book is the publisher's
  pub own : (d.book).publisher ≡ x.id
  own = book-own f sound.parts i x here d.book d.stands

  pub owned : IsOwned f.publishers x.book x.id
  owned = book-owned f sound.parts i x here

  -- the fields after the delivery
  abbrev mid : Fields T U
  mid = recounted_fields f sound x.id x.book d.book d.stands own d.holders d.connections d.recounts

  parts : HasParts mid
  parts = parts-recounted f sound x.id x.book d.book d.stands own d.holders d.connections d.recounts

  abbrev book : Book
  book = with_counters d.book d.holders

  keeps : KeepsSlots d.book book
  keeps = record { publisher = refl; node = refl; numbers = refl; slots = d.recounts.slots }

  book-stands : get mid.books x.book ≡ Some book
  book-stands = book-here (with_connections f d.connections d.recounts.homes) x.book d.book book d.stands keeps

  once : times slot x.loans ≡ 1
  once = loan-once f sound i x here slot n l lies

  in_use : 0 < holders_at book slot
  in_use = omega (arith, once, book-counts mid parts i x here book book-stands slot)

  is_in_use : IsInUse book slot
  is_in_use = record { in_bounds = in_use_within {T = T} {U = U} book [] slot in_use; in_use = in_use }

  number : get_or (d.book).numbers slot 0 ≡ n
  number =
      let has = has_number f.contents f.books x.book slot n (Lent_message n l) lies (eq-eqb n n refl) in
      let same : Some d.book ≡ Some has.book = sym d.stands ∙ has.stands in
      let is : d.book ≡ has.book = cc in
      ap (λ (c : Book). get_or c.numbers slot 0) is ∙ has.number

  lies-still : lies_at mid x.book slot ≡ Some (Lent_message n l)
  lies-still = forth f sound.parts x.id x.book d.book d.stands own d.holders d.connections d.recounts x.book slot n
      (Lent_message n l)
      (record { book = book; stands = book-stands; in_use = in_use; number = number }) lies

  -- the publisher and the fields where the history has the message, which may be one too many
  abbrev remembering : PublisherFields
  remembering = with_remembered slot x

  abbrev remembered : Fields T U
  remembered = ended mid parts i x here book book-stands own slot n l is_in_use lies-still is_written once free

  parts-remembered : HasParts remembered
  parts-remembered =
      ended-parts mid parts i x here book book-stands own slot n l is_in_use lies-still is_written once free

  low : slot < length book.marks
  low = omega
      (arith, is_in_use.in_bounds, d.recounts.slots, (sound.parts.books.books x.book d.book d.stands).aligned.marks)

  lone-remembered : HasLoneLoans remembered.books
  lone-remembered =
      subst HasLoneLoans
      (sym (ap (λ (books : List (Option Book)). let slab : Slab Book = record f.books { slots = books } in slab)
      (set-set f.books.slots x.book (Some book) (Some (with_sent slot book)))))
      (lone-sent f.books x.book slot d.book d.holders d.stands sound.lone low d.alone.others)

  stands-remembered : get_or remembered.publishers i None ≡ Some remembering
  stands-remembered = changed-here mid i x remembering here refl

  book-remembered : get remembered.books x.book ≡ Some (with_sent slot book)
  book-remembered = book-here mid x.book book (with_sent slot book) book-stands
      (record { publisher = refl; node = refl; numbers = refl; slots = refl })

  -- the fields after the send
  abbrev after : Fields T U
  after = with_send_ended mid i x slot book

  -- ---- the state

  abbrev s : State T U
  s = state_of (kept_of f)

  abbrev port : Publisher
  port = (publisher_of f.books f.connections x).port

  abbrev boxes : ℕ → ℕ → Mailbox
  boxes = mailboxes_of (number_in_slot f.books) d.connections

  stands : s.publishers x.id ≡ Some port
  stands = publisher-stands f sound.parts i x here

  mid-is : state_of (kept_of mid) ≡ record s { mailboxes = boxes }
  mid-is = recounted-is f sound x.id x.book d.book d.stands own d.holders d.connections d.recounts

  numbers-are : number_in_slot mid.books ≡ number_in_slot f.books
  numbers-are = same-numbers f sound.parts x.id x.book d.book d.stands own d.holders d.connections d.recounts

  port-is : (publisher_of mid.books mid.connections x).port ≡ port
  port-is = λ t. record port {
    loans = map (numbers-are t x.id) x.loans;
    history = map (numbers-are t x.id) (x.history).items;
    ends = map (same-subscriber_of_key f.connections d.connections d.recounts.homes t) x.keys;
    blocked = option_map (blocked_send (numbers-are t x.id)
        (map (same-subscriber_of_key f.connections d.connections d.recounts.homes t) x.keys)) x.blocked;
  }

  -- the publisher without the loan, which its history has
  abbrev rememberer : Publisher
  rememberer = record port { loans = without n port.loans; history = port.history ++ n ∷ [] }

  remembered-is : state_of (kept_of remembered) ≡ record s
      { mailboxes = boxes; publishers = put_at s.publishers x.id (Some rememberer); loans = put_at s.loans n None }
  remembered-is =
      ended-is mid parts i x here book book-stands own slot n l is_in_use lies-still is_written once free
      (λ r some is. loan-slot f sound i x here slot n l lies r some
      (sym (ap (λ (numbers : ℕ → ℕ → ℕ). numbers x.id r) numbers-are) ∙ is))
      (ap (λ (numbers : ℕ → ℕ → ℕ). numbers x.id slot) numbers-are ∙ loan-number f sound i x here slot n l lies)
      ∙ ap (λ (numbers : ℕ → ℕ). record (state_of (kept_of mid)) {
        publishers = put_at (state_of (kept_of mid)).publishers x.id
            (Some (record (publisher_of mid.books mid.connections x).port
            { loans = without n (map numbers x.loans); history = map numbers (x.history).items ++ n ∷ [] }));
        loans = put_at (state_of (kept_of mid)).loans n None;
      }) (ap (λ (numbers : ℕ → ℕ → ℕ). numbers x.id) numbers-are)
      ∙ ap (λ (y : Publisher). record (state_of (kept_of mid)) {
        publishers = put_at (state_of (kept_of mid)).publishers x.id
            (Some (record y { loans = without n port.loans; history = port.history ++ n ∷ [] }));
        loans = put_at (state_of (kept_of mid)).loans n None;
      }) port-is
      ∙ ap (λ (t : State T U).
      record t { publishers = put_at t.publishers x.id (Some rememberer); loans = put_at t.loans n None }) mid-is

  -- ---- the history is trimmed

  -- what leaves the history is no loan
  leaves-sent : (oldest m : ℕ) (k : Loan T U) → slice_get ((x.history).items ++ slot ∷ []) 0 ≡ Some oldest
      → lies_at remembered x.book oldest ≡ Some (Lent_message m k) → ⊥
  leaves-sent oldest m k first lying = elim (cases_eq oldest slot) [
    | inl same ↦
        absurd (let is : Lent_message m k ≡ Sent_message n (entry_of l) = lies-sent mid parts i x here book book-stands
        own slot n l is_in_use lies-still is_written once free (Lent_message m k)
        (sym (ap (λ j. lies_at remembered x.book j) same) ∙ lying) in cc)
    | inr away ↦ absurd (by (x.history).items refl away)
  ]
    where
      in-history : oldest ≢ slot → contains (x.history).items oldest ≡ true → ⊥
      in-history away is =
          let in_mid : lies_at mid x.book oldest ≡ Some (Lent_message m k) =
          sym (others-lie mid parts i x here book book-stands own slot n l is_in_use lies-still is_written once free
          x.book oldest (λ both. away both.1)) ∙ lying in
          let lay : lies_at f x.book oldest ≡ Some (Lent_message m k) =
          back f sound.parts x.id x.book d.book d.stands own d.holders d.connections d.recounts x.book oldest
          (Lent_message m k) in_mid in
          let out = (sound.well_formed.loans m k (loan-is f sound i x here oldest m k lay)).is_out port
          (ap s.publishers (loan-of f sound i x here oldest m k lay) ∙ stands) in
          let there : contains port.history m ≡ true =
          ap (contains port.history) (sym (loan-number f sound i x here oldest m k lay))
          ∙ contains-map (number_in_slot f.books x.id) (x.history).items oldest is in
          absurd (let no : true ≡ false = sym there ∙ out.1 in cc)

      by : (items : List ℕ) → (x.history).items ≡ items → oldest ≢ slot → ⊥
      by [] e away = away
          (let is : Some slot ≡ Some oldest = sym (ap (λ (xs : List ℕ). slice_get (xs ++ slot ∷ []) 0) e) ∙ first in cc)
      by (o ∷ os) e away =
          let is : Some o ≡ Some oldest = sym (ap (λ (xs : List ℕ). slice_get (xs ++ slot ∷ []) 0) e) ∙ first in
          let same : o ≡ oldest = cc in
          in-history away
          (ap (λ (xs : List ℕ). contains xs oldest) e ∙ ap (λ t. t || contains os oldest) (eq-eqb o oldest same))

  room : (x.history).capacity ≡ (f.config).history_size
  room = (sound.parts.publisher_room i x here).history

  fits-history : length (x.history).items ≤ (x.history).capacity
  fits-history =
      let bound : length port.history ≤ (f.config).history_size =
      (sound.well_formed.publishers x.id port stands).history_bound in
      let size : length port.history ≡ length (x.history).items =
      length-map (x.history).items (number_in_slot f.books x.id) in
      omega (arith, bound, size, room)

  rememberer-is : (publisher_of remembered.books remembered.connections remembering).port ≡ rememberer
  rememberer-is = same_Some _ _ (sym (named remembered parts-remembered.publisher_ids i remembering stands-remembered)
      ∙ ap (λ (t : State T U). t.publishers x.id) remembered-is ∙ put_at-same s.publishers x.id (Some rememberer))

  trim : Trims remembered after x.id (x.history).capacity
      (publisher_of remembered.books remembered.connections remembering).port
  trim = trims remembered parts-remembered i remembering stands-remembered
      (with_sent slot book) book-remembered own lone-remembered
      (named remembered parts-remembered.publisher_ids i remembering stands-remembered)
      (x.history).items slot (x.history).capacity refl fits-history leaves-sent after
      (λ t. record mid {
        publishers = sym (set-set mid.publishers i (Some remembering)
            (Some (record (with_loan_out slot x) { history = pushed x.history slot }))) t;
        books =
            record mid.books {
              slots = sym (set-set mid.books.slots x.book (Some (with_sent slot book))
                  (Some (with_left (leaving x.history slot) (with_sent slot book)))) t;
            };
      })

  parts-after : HasParts after
  parts-after = trim.parts

  lone-after : HasLoneLoans after.books
  lone-after = trim.lone

  -- each book is somebody's still, or left
  kept-after : KeepsBooks after.next_port after.publishers after.books
  kept-after =
      changed-kept_books mid i x
      (record (with_loan_out slot x) { history = pushed x.history slot }) here refl after.books refl
      (kept-own mid.next_port mid.publishers mid.books x.book book
      (with_left (leaving x.history slot) (with_sent slot book)) book-stands (same-publisher (leaving x.history slot))
      (subst (IsOwned f.publishers x.book) (sym own) owned)
      (recounted-kept f sound x.id x.book d.book d.stands own d.holders d.connections d.recounts owned))
    where
      same-publisher : (o : Option ℕ) → (with_left o (with_sent slot book)).publisher ≡ book.publisher
      same-publisher None = refl
      same-publisher (Some oldest) = refl

  -- the publisher after the send
  abbrev sender : Publisher
  sender =
      record port { loans = without n port.loans; history = last_n (f.config).history_size (port.history ++ n ∷ []) }

  twice : (q : ℕ) → put_at (put_at s.publishers x.id (Some rememberer)) x.id (Some sender) q ≡ put_at s.publishers x.id
      (Some sender) q
  twice q = at_each s.publishers x.id (Some sender)
      (λ j o. put_at (put_at s.publishers x.id (Some rememberer)) x.id (Some sender) j ≡ o) q
      (λ _. put_at-same (put_at s.publishers x.id (Some rememberer)) x.id (Some sender))
      (λ apart. put_at-other (put_at s.publishers x.id (Some rememberer)) x.id (Some sender) q apart
      ∙ put_at-other s.publishers x.id (Some rememberer) q apart)

  after-is : state_of (kept_of after) ≡ record s
      { mailboxes = boxes; publishers = put_at s.publishers x.id (Some sender); loans = put_at s.loans n None }
  after-is =
      trim.state
      ∙ (λ t. record (remembered-is t) {
        publishers = put_at (remembered-is t).publishers x.id
            (Some (record (rememberer-is t) { history = last_n (room t) (rememberer-is t).history }));
      })
      ∙ ap (λ (ps : ℕ → Option Publisher).
      record s { mailboxes = boxes; publishers = ps; loans = put_at s.loans n None }) (fun_ext twice)

  -- what publishing and ending make of the publisher
  abbrev with_message : Publisher → Publisher
  with_message y = record y { history = last_n (f.config).history_size (y.history ++ n ∷ []) }

  abbrev without_loan : Publisher → Publisher
  without_loan y = record y { loans = without n y.loans; blocked = None }

  sender-is : without_loan (with_message port) ≡ sender
  sender-is = λ t. record sender { blocked = sym (unblocked f.books f.connections x free) t }

  publishers-changed : (change : Publisher → Publisher) (z : Publisher) → change (with_message port) ≡ z → (q : ℕ)
      → put_at s.publishers x.id (Some z) q
      ≡ (publisher_changed (with_mailboxes (published s x.id n) x.id (boxes x.id)) x.id change).publishers q
  publishers-changed change z is q =
      at_each s.publishers x.id (Some z) (λ j o.
      o ≡ (publisher_changed (with_mailboxes (published s x.id n) x.id (boxes x.id)) x.id change).publishers j) q
      (λ _. sym
      (put_at-same (published s x.id n).publishers x.id (option_map change ((published s x.id n).publishers x.id))
      ∙ ap (option_map change) (put_at-same s.publishers x.id (option_map with_message (s.publishers x.id))
      ∙ ap (option_map with_message) stands) ∙ ap Some is))
      (λ apart. sym (put_at-other (published s x.id n).publishers x.id
      (option_map change ((published s x.id n).publishers x.id)) q apart
      ∙ put_at-other s.publishers x.id (option_map with_message (s.publishers x.id)) q apart))

  publishers-are : (q : ℕ) → put_at s.publishers x.id
      (Some sender) q ≡ (send_ended (with_mailboxes (published s x.id n) x.id (boxes x.id)) x.id n).publishers q
  publishers-are = publishers-changed without_loan sender sender-is

  other-boxes : (q r : ℕ) → q ≢ x.id → boxes q r ≡ s.mailboxes q r
  other-boxes q r away =
      others-stay (number_in_slot f.books) f.connections d.connections x.id q r sound.parts.apart d.recounts.homes
      d.recounts.others away ∙ sym (mailboxes-are f q r)

  boxes-are : boxes ≡ put_at s.mailboxes x.id (boxes x.id)
  boxes-are = one-put s.mailboxes boxes x.id (λ q away. fun_ext (λ r. other-boxes q r away))

  ended-state : state_of (kept_of after) ≡ send_ended (with_mailboxes (published s x.id n) x.id (boxes x.id)) x.id n
  ended-state =
      after-is
      ∙ same_state (record s
      { mailboxes = boxes; publishers = put_at s.publishers x.id (Some sender); loans = put_at s.loans n None })
      (send_ended (with_mailboxes (published s x.id n) x.id (boxes x.id)) x.id n)
      refl refl refl (λ _. refl) publishers-are (λ _. refl) (λ q r. ap (λ (m : ℕ → ℕ → Mailbox). m q r) boxes-are)
      (λ _ _. refl) refl refl refl

  -- ---- the machine's step

  abbrev how : DeliveryEnd
  how = end_of n 0 port.ends outcome

  delivers : Deliver environment f.config x.id x.strategy x.backpressure_handler
      (channel_buffer s x.id 0) n 0 0 no_time 0 port.ends 0 false (s.mailboxes x.id) how (boxes x.id)
  delivers =
      subst (λ (row : ℕ → Mailbox). Deliver environment f.config x.id x.strategy x.backpressure_handler
      (channel_buffer s x.id 0) n 0 0 no_time 0 port.ends 0 false row how (boxes x.id))
      (fun_ext (λ r. sym (mailboxes-are f x.id r)))
      (subst (λ (m : ℕ). Deliver environment f.config x.id x.strategy x.backpressure_handler
      (channel_buffer s x.id 0) m 0 0 no_time 0 port.ends 0 false
      (mailboxes_of (number_in_slot f.books) f.connections x.id) (end_of m 0 port.ends outcome) (boxes x.id))
      (loan-number f sound i x here slot n l lies)
      (subst (λ (buffers : ℕ → Option ℕ). Deliver environment f.config x.id x.strategy x.backpressure_handler buffers
      (number_in_slot f.books x.id slot) 0 0 no_time 0 port.ends 0 false
      (mailboxes_of (number_in_slot f.books) f.connections x.id)
      (end_of (number_in_slot f.books x.id slot) 0 port.ends outcome) (boxes x.id)) (taking-are f x.id 0)
      (d.delivers (number_in_slot f.books))))

  -- what the send concludes is published
  publishes-so : (h : State T U) (result : SendResult)
      → ConcludeSend (with_mailboxes (published s x.id n) x.id (boxes x.id)) x.id n how h result
      → Publish environment s x.id n h result
  publishes-so h result conclude = match_some (s.publishers x.id) port ⊥ _ stands
      (match_some ((published s x.id n).publishers x.id) (with_message port) ⊥ _
      (put_at-same s.publishers x.id (option_map with_message (s.publishers x.id))
      ∙ ap (option_map with_message) stands)
      (how, boxes x.id, delivers, conclude))

  well-so : (h : State T U) (result : SendResult) → Publish environment s x.id n h result → IsWellFormed h
  well-so h result publishes = publish_keeps s sound.well_formed x.id n l (loan-is f sound i x here slot n l lies)
      (loan-of f sound i x here slot n l lies) port stands (unblocked f.books f.connections x free)
      environment h result publishes

  -- ---- entries

  -- the state in which the loan is a message, with this record of its publisher
  abbrev with_port : Publisher → State T U
  with_port = with_published s x.id n boxes

  delivered : Delivered (channel_buffer s x.id 0) n 0 port.ends port.ends (s.mailboxes x.id) how (boxes x.id)
  delivered = deliver_is environment f.config x.id x.strategy x.backpressure_handler
      (channel_buffer s x.id 0) n 0 0 no_time 0 port.ends 0 false port.ends (s.mailboxes x.id) how (boxes x.id)
      (sound.well_formed.publishers x.id port stands).ends_apart (all_from port.ends 0) (le_refl 0) delivers

  -- each message that somebody holds has its entry, where those of the remembered fields are kept
  module _ (h : Fields T U) (parts-h : HasParts h) (z : Publisher)
      (longer : z.history ≡ last_n (f.config).history_size (port.history ++ n ∷ []))
      (waiting : (c : BlockedSend) → z.blocked ≡ Some c → c.message ≡ n)
      (h-is : state_of (kept_of h) ≡ with_port z)
      (numbers : (k r m : ℕ) (has : HasNumber h.books k r m)
      → (old : HasNumber remembered.books k r m) × ((old.book).publisher ≡ (has.book).publisher))
      (still : (q m : ℕ) (entry : Entry T U) → IsHeldMessage (state_of (kept_of h)) q m
      → entries_of (kept_of remembered) m ≡ Some entry → entries_of (kept_of h) m ≡ Some entry) where
    entries-so : (q m : ℕ) → IsHeldMessage (state_of (kept_of h)) q m
        → (entry : Entry T U) × (entries_of (kept_of h) m ≡ Some entry) × ((entry.header).publisher_id ≡ q)
    entries-so q m is = elim (cases_eq m n) [ inl same ↦ sent same | inr away ↦ others away ] where
      lying : (key slot : ℕ) × (has : HasNumber h.books key slot m) × ((has.book).publisher ≡ q)
      lying = held-message-slot h parts-h.counted parts-h.publisher_ids parts-h.plain q m is

      sent : m ≡ n → (entry : Entry T U) × (entries_of (kept_of h) m ≡ Some entry) × ((entry.header).publisher_id ≡ q)
      sent same =
          let was = numbers lying.0 lying.1 m lying.2 in
          let has : HasNumber remembered.books lying.0 lying.1 n =
          subst (HasNumber remembered.books lying.0 lying.1) same was.0 in
          let at_slot = only-slot mid parts i x here book book-stands own slot n l is_in_use lies-still is_written once
          free lying.0 lying.1 has in
          let both : Some (with_sent slot book) ≡ Some (was.0).book =
          sym book-remembered ∙ ap (get remembered.books) (sym at_slot.0) ∙ (was.0).stands in
          let is_book : with_sent slot book ≡ (was.0).book = cc in
          let found : entries_of (kept_of remembered) n ≡ Some (entry_of l) =
          entry-found remembered parts-remembered.numbered x.book slot n (entry_of l)
          (sent-there mid parts i x here book book-stands own slot n l is_in_use lies-still is_written once free
          in_use) in (
            entry_of l,
            still q m (entry_of l) is (ap (entries_of (kept_of remembered)) same ∙ found),
            (sound.well_formed.loans n l (loan-is f sound i x here slot n l lies)).origin
                ∙ loan-of f sound i x here slot n l lies
                ∙ sym own ∙ ap (λ (c : Book). c.publisher) is_book ∙ was.1 ∙ lying.3,
          )

      others : m ≢ n → (entry : Entry T U) × (entries_of (kept_of h) m ≡ Some entry) × ((entry.header).publisher_id ≡ q)
      others away =
          let in_mid : IsHeldMessage (record s { mailboxes = boxes }) q m =
          held-mid s x.id n port stands boxes (f.config).history_size z longer waiting q m away
          (subst (λ t. IsHeldMessage t q m) h-is is) in
          let old = sound.entries q m (held-before-send s x.id n port stands boxes
          (channel_buffer s x.id 0) how delivered other-boxes q m away in_mid) in
          let kept : entries_of (kept_of mid) m ≡ Some old.0 =
          recounted-keeps f sound x.id x.book d.book d.stands own d.holders d.connections d.recounts q m old.0
          (subst (λ t. IsHeldMessage t q m) (sym mid-is) in_mid) old.1 in (
            old.0,
            still q m old.0 is
                (ap found_entry (others-same mid parts i x here book book-stands own slot n l is_in_use lies-still
                is_written once free m away) ∙ kept),
            old.2,
          )
        where
          found_entry : Option (KeptMessage T U) → Option (Entry T U)
          found_entry None = None
          found_entry (Some k) = entry_in k

  -- no entry but that of the message is newly kept
  entries-new : (m : ℕ) (entry : Entry T U) → entries_of (kept_of remembered) m ≡ Some entry
      → ((m ≡ n) × (entry ≡ entry_of l)) ⊎ (entries_of (kept_of f) m ≡ Some entry)
  entries-new m entry e =
      elim (ended-entries mid parts i x here book book-stands own slot n l is_in_use lies-still is_written once free m
      entry e) [
        | inl new ↦ inl new
        | inr old ↦
            inr (recounted-entries f sound x.id x.book d.book d.stands own d.holders d.connections d.recounts m entry
            old)
      ]

  -- and each message lies where it lay
  places-new : KeepsPlaces f remembered
  places-new = places-then (recounted-places f sound x.id x.book d.book d.stands own d.holders d.connections d.recounts)
      (places-back
      (ended-was mid parts i x here book book-stands own slot n l is_in_use lies-still is_written once free))

  delivered-book : (b : Book) → get g.books x.book ≡ Some b → b ≡ book
  delivered-book b there = let both : Some b ≡ Some book = sym there
      ∙ ap (λ (h : Fields T U). get h.books x.book) d.delivered ∙ book-stands in cc

  -- ---- the send has ended

  module _ (count : ℕ) (has_failed : Bool) (is_complete : outcome ≡ DeliveryOutcome.Complete count has_failed) where
    publishes : Publish environment s x.id n (state_of (kept_of after))
        (result_of_delivery (DeliveryOutcome.Complete count has_failed))
    publishes = publishes-so (state_of (kept_of after)) (result_of_delivery (DeliveryOutcome.Complete count has_failed))
        (subst (λ (o : DeliveryOutcome). ConcludeSend (with_mailboxes (published s x.id n) x.id (boxes x.id)) x.id n
        (end_of n 0 port.ends o) (state_of (kept_of after))
        (result_of_delivery (DeliveryOutcome.Complete count has_failed)))
        (sym is_complete) (ended-state, refl))

    -- the loan is published
    sent-publishes : Publishes environment f after x.id n l
        (result_of_delivery (DeliveryOutcome.Complete count has_failed))
    sent-publishes = record {
      agrees = whole_of after parts-after lone-after kept-after (well-so (state_of (kept_of after)) _ publishes)
          (entries-so after parts-after sender refl
          (λ c e. absurd (let no : None ≡ Some c = sym (unblocked f.books f.connections x free) ∙ e in cc)) after-is
          trim.numbers trim.keeps);
      publishes = publishes;
      loans = ap (λ (t : State T U). t.loans) ended-state;
      entries = λ m entry e. entries-new m entry (trim.entries m entry e);
      places = places-then places-new (places-back (λ k s m has. (trim.numbers k s m has).0));
    }

    -- with the fields that the code makes of those after the delivery
    pub ended-publishes : (h : Fields T U) (b : Book) → get g.books x.book ≡ Some b → h ≡ with_send_ended g i x slot b
        → Publishes environment f h x.id n l (result_of_delivery (DeliveryOutcome.Complete count has_failed))
    ended-publishes h b there is = subst (λ (k : Fields T U).
        Publishes environment f k x.id n l (result_of_delivery (DeliveryOutcome.Complete count has_failed)))
        (sym (is ∙ ap (with_send_ended g i x slot) (delivered-book b there)
        ∙ ap (λ (k : Fields T U). with_send_ended k i x slot book) d.delivered)) sent-publishes

  -- ---- the send is blocked

  module _ (progress : Progress) (is_suspended : outcome ≡ DeliveryOutcome.Suspended progress) where
    abbrev waiting : BlockedDelivery
    waiting = record { slot = slot; channel = 0; is_alone = false; progress = progress }

    -- the publisher that has the loan still, and remembers the message
    abbrev relender : PublisherFields
    relender = record remembering { loans = x.loans; blocked = Some waiting }

    abbrev more_holders : List ℕ
    more_holders = one_holder_more slot book.holders

    more : (r : ℕ) → get_or more_holders r 0 ≡ holders_at book r + one_if r slot
    more r = get_or-one_holder_more book.holders slot r is_in_use.in_bounds

    can-relend : CanRebook remembered remembering relender (with_sent slot book) more_holders
    can-relend = record {
      settings = other_slots remembering x.loans (remembering.history).items (Some waiting);
      keys = refl;
      lends = λ had c e. subst (λ (r : ℕ). 0 < times r x.loans)
          (ap (λ (o : Option BlockedDelivery). option_map_or (λ (v : BlockedDelivery). v.slot) o 0) e)
          (omega (arith, once));
      unwritten = λ r marked out. omega (arith, out, times-without-one r slot x.loans once);
      slots = length-set book.holders slot _;
      used = λ r some. elim (cases_eq r slot) [
        | inl same ↦ subst (λ (k : ℕ). 0 < holders_at book k) (sym same) in_use
        | inr away ↦ omega (arith, some, more r, one_if_other r slot away)
      ];
      counts = λ r. omega (arith, more r, times-without-one r slot x.loans once);
      lent = λ r m k none lying.
          let used : 0 < holders_at book r =
          (message_in-parts (with_sent slot book) (contents_at f.contents x.book) r (Lent_message m k)
          (sym (message_at-slot f.contents remembered.books x.book r (with_sent slot book) book-remembered)
          ∙ lying)).in_use in
          absurd (omega (arith, used, none, more r));
    }

    abbrev relent : Fields T U
    relent = rebooked remembered i remembering relender (with_sent slot book) more_holders

    parts-relent : HasParts relent
    parts-relent = rebooked-parts remembered parts-remembered i remembering relender stands-remembered
        (with_sent slot book) book-remembered own more_holders can-relend

    abbrev relent_book : Book
    relent_book = with_counters (with_sent slot book) more_holders

    lone-relent : HasLoneLoans relent.books
    lone-relent = rebooked-lone remembered parts-remembered i remembering relender stands-remembered
        (with_sent slot book) book-remembered own more_holders can-relend one lone-remembered where
          one : (r : ℕ) → IsLoneIn (with_sent slot book) r → IsLoneIn relent_book r
          one r had = elim (cases_eq r slot) [
            | inl same ↦ λ loan.
                let lent : option_map_or is_lent (slice_get relent_book.marks r) false ≡ true =
                (both-true (nat_lt 0 (holders_at relent_book r))
                (option_map_or is_lent (slice_get relent_book.marks r) false) loan).1 in
                absurd (let no : false ≡ true = sym (ap (λ o. option_map_or is_lent o false)
                (ap (slice_get relent_book.marks) same ∙ slice_get-set_same book.marks slot Sent low)) ∙ lent in cc)
            | inr away ↦
                lone-fewer (with_sent slot book) relent_book r refl
                (omega (arith, more r, one_if_other r slot away)) had
          ]

    stands-relent : get_or relent.publishers i None ≡ Some relender
    stands-relent = changed-here remembered i remembering relender stands-remembered refl

    book-relent : get relent.books x.book ≡ Some relent_book
    book-relent = book-here remembered x.book (with_sent slot book) relent_book book-remembered
        (record { publisher = refl; node = refl; numbers = refl; slots = length-set book.holders slot _ })

    numbers-remembered : number_in_slot remembered.books ≡ number_in_slot f.books
    numbers-remembered = numbers-same mid x.book book (with_sent slot book) book-stands
        (record { publisher = refl; node = refl; numbers = refl; slots = refl }) parts.books.one_each ∙ numbers-are

    -- what waits, to the machine
    abbrev b : BlockedSend
    b = record {
      message = n;
      channel = 0;
      place = progress.place;
      ends = drop progress.place port.ends;
      retries = progress.retries;
      count = progress.count;
      has_failed = progress.has_failed;
    }

    abbrev relent_port : Publisher
    relent_port = record port { history = port.history ++ n ∷ []; blocked = Some b }

    relender-port : (publisher_of remembered.books remembered.connections relender).port ≡ relent_port
    relender-port = (λ t. record (rememberer-is t) {
      loans = map (numbers-remembered t x.id) x.loans;
      blocked = Some (blocked_send (numbers-remembered t x.id)
          (map (same-subscriber_of_key f.connections d.connections d.recounts.homes t) x.keys) waiting);
    }) ∙ ap (λ (m : ℕ). record port { history = port.history ++ n ∷ []; blocked = Some (record b { message = m }) })
        (loan-number f sound i x here slot n l lies)

    relent-is : state_of (kept_of relent) ≡ with_port relent_port
    relent-is =
        rebooked-is remembered parts-remembered i remembering relender stands-remembered
        (with_sent slot book) book-remembered own more_holders can-relend
        ∙ ap (λ (z : Publisher). record (state_of (kept_of remembered))
        { publishers = put_at (state_of (kept_of remembered)).publishers x.id (Some z) }) relender-port
        ∙ ap (λ (t : State T U). record t { publishers = put_at t.publishers x.id (Some relent_port) }) remembered-is
        ∙ ap (λ (ps : ℕ → Option Publisher). record s {
          mailboxes = boxes;
          publishers = ps;
          loans = put_at s.loans n None;
        }) (put_at-twice s.publishers x.id (Some rememberer) (Some relent_port))

    relent-port-is : (publisher_of relent.books relent.connections relender).port ≡ relent_port
    relent-port-is = same_Some _ _ (sym (named relent parts-relent.publisher_ids i relender stands-relent)
        ∙ ap (λ (t : State T U). t.publishers x.id) relent-is ∙ put_at-same s.publishers x.id (Some relent_port))

    leaves-relent : (oldest m : ℕ) (k : Loan T U) → slice_get ((x.history).items ++ slot ∷ []) 0 ≡ Some oldest
        → lies_at relent x.book oldest ≡ Some (Lent_message m k) → ⊥
    leaves-relent oldest m k first lying = leaves-sent oldest m k first
        (rebooked-back remembered parts-remembered i remembering relender stands-remembered
        (with_sent slot book) book-remembered own more_holders can-relend x.book oldest (Lent_message m k) lying)

    abbrev stopped : Fields T U
    stopped = with_send_blocked mid i x slot progress book

    trim-relent : Trims relent stopped x.id (x.history).capacity
        (publisher_of relent.books relent.connections relender).port
    trim-relent = trims relent parts-relent i relender stands-relent relent_book book-relent own lone-relent
        (named relent parts-relent.publisher_ids i relender stands-relent)
        (x.history).items slot (x.history).capacity refl fits-history leaves-relent stopped
        (λ t. record mid {
          publishers = sym (set-set (slice_set mid.publishers i (Some remembering)) i (Some relender) (Some last)
              ∙ set-set mid.publishers i (Some remembering) (Some last)) t;
          books =
              record mid.books {
                slots = sym (set-set (slice_set mid.books.slots x.book (Some (with_sent slot book))) x.book
                    (Some relent_book) (Some last_book)
                    ∙ set-set mid.books.slots x.book (Some (with_sent slot book)) (Some last_book)) t;
              };
        })
      where
        last : PublisherFields
        last = record x { history = pushed x.history slot; blocked = Some waiting }

        last_book : Book
        last_book = with_left (leaving x.history slot) relent_book

    -- each book is somebody's still, or left
    kept-stopped : KeepsBooks stopped.next_port stopped.publishers stopped.books
    kept-stopped =
        changed-kept_books mid i x
        (record x { history = pushed x.history slot; blocked = Some waiting }) here refl stopped.books refl
        (kept-own mid.next_port mid.publishers mid.books x.book book
        (with_left (leaving x.history slot) relent_book) book-stands (same-publisher (leaving x.history slot))
        (subst (IsOwned f.publishers x.book) (sym own) owned)
        (recounted-kept f sound x.id x.book d.book d.stands own d.holders d.connections d.recounts owned))
      where
        same-publisher : (o : Option ℕ) → (with_left o relent_book).publisher ≡ book.publisher
        same-publisher None = refl
        same-publisher (Some oldest) = refl

    -- the publisher after the send
    abbrev stopped_port : Publisher
    stopped_port = record port { history = last_n (f.config).history_size (port.history ++ n ∷ []); blocked = Some b }

    stopped-is : state_of (kept_of stopped) ≡ with_port stopped_port
    stopped-is =
        trim-relent.state
        ∙ (λ t. record (relent-is t) {
          publishers = put_at (relent-is t).publishers x.id
              (Some (record (relent-port-is t) { history = last_n (room t) (relent-port-is t).history }));
        })
        ∙ ap (λ (ps : ℕ → Option Publisher). record s {
          mailboxes = boxes;
          publishers = ps;
          loans = put_at s.loans n None;
        }) (put_at-twice s.publishers x.id (Some relent_port) (Some stopped_port))

    blocked-state : state_of (kept_of stopped) ≡ send_blocked
        (with_mailboxes (published s x.id n) x.id (boxes x.id)) x.id b
    blocked-state =
        stopped-is
        ∙ same_state (with_port stopped_port)
        (send_blocked (with_mailboxes (published s x.id n) x.id (boxes x.id)) x.id b)
        refl refl refl (λ _. refl) (publishers-changed (λ v. record v { blocked = Some b }) stopped_port refl)
        (λ _. refl) (λ q r. ap (λ (m : ℕ → ℕ → Mailbox). m q r) boxes-are) (λ _ _. refl) refl refl refl

    publishes-blocked : Publish environment s x.id n (state_of (kept_of stopped)) Blocked_send
    publishes-blocked = publishes-so (state_of (kept_of stopped)) Blocked_send
        (subst (λ (o : DeliveryOutcome). ConcludeSend (with_mailboxes (published s x.id n) x.id (boxes x.id)) x.id n
        (end_of n 0 port.ends o) (state_of (kept_of stopped)) Blocked_send)
        (sym is_suspended) (blocked-state, refl))

    -- what lies in a slot lies there when the loan is out again
    relent-keeps : (m : ℕ) (entry : Entry T U) → entries_of (kept_of remembered) m ≡ Some entry
        → entries_of (kept_of relent) m ≡ Some entry
    relent-keeps m entry e =
        let there = entry-there remembered m entry e in
        entry-found relent (rebooked-numbered remembered parts-remembered i remembering relender stands-remembered
        (with_sent slot book) book-remembered own more_holders can-relend)
        there.0 there.1 m entry
        (rebooked-forth remembered parts-remembered i remembering relender stands-remembered
        (with_sent slot book) book-remembered own more_holders can-relend
        there.0 there.1 (Sent_message m entry) (still there.0 there.1 there.2) there.2)
      where
        still : (k r : ℕ) → lies_at remembered k r ≡ Some (Sent_message m entry) → k ≡ x.book
            → 0 < get_or more_holders r 0
        still k r lying same =
            let used : 0 < holders_at book r =
            (message_in-parts (with_sent slot book) (contents_at f.contents x.book) r (Sent_message m entry)
            (sym (message_at-slot f.contents remembered.books x.book r (with_sent slot book) book-remembered)
            ∙ sym (ap (λ j. lies_at remembered j r) same) ∙ lying)).in_use in
            omega (arith, used, more r)

    relent-number : (k r m : ℕ) (has : HasNumber relent.books k r m)
        → (old : HasNumber remembered.books k r m) × ((old.book).publisher ≡ (has.book).publisher)
    relent-number = rebooked-number remembered parts-remembered i remembering relender stands-remembered
        (with_sent slot book) book-remembered own more_holders can-relend

    stopped-publishes : Publishes environment f stopped x.id n l Blocked_send
    stopped-publishes = record {
      agrees = whole_of stopped trim-relent.parts trim-relent.lone kept-stopped
          (well-so (state_of (kept_of stopped)) Blocked_send publishes-blocked)
          (entries-so stopped trim-relent.parts stopped_port refl
          (λ c e. sym (ap (λ (o : Option BlockedSend). option_map_or (λ (v : BlockedSend). v.message) o 0) e))
          stopped-is
          (λ k r m has. let old = trim-relent.numbers k r m has in let older = relent-number k r m old.0 in
          (older.0, older.1 ∙ old.1))
          (λ q m entry held e. trim-relent.keeps q m entry held (relent-keeps m entry e)));
      publishes = publishes-blocked;
      loans = ap (λ (t : State T U). t.loans) blocked-state;
      entries = λ m entry e. entries-new m entry
          (rebooked-entries remembered parts-remembered i remembering relender stands-remembered
          (with_sent slot book) book-remembered own more_holders can-relend m entry (trim-relent.entries m entry e));
      places =
          places-then places-new (places-back (λ k s m has. (relent-number k s m (trim-relent.numbers k s m has).0).0));
    }

    pub blocked-publishes : (h : Fields T U) (c : Book) → get g.books x.book ≡ Some c
        → h ≡ with_send_blocked g i x slot progress c → Publishes environment f h x.id n l Blocked_send
    blocked-publishes h c there is = subst (λ (k : Fields T U). Publishes environment f k x.id n l Blocked_send)
        (sym (is ∙ ap (with_send_blocked g i x slot progress) (delivered-book c there)
        ∙ ap (λ (k : Fields T U). with_send_blocked k i x slot progress book) d.delivered)) stopped-publishes

-- a slot that is sent publishes its loan
pub send-publishes : {T U : Type 0} (environment : Environment) (f : Fields T U) (sound : IsDomain f) (i : ℕ)
    (x : PublisherFields) (here : get_or f.publishers i None ≡ Some x)
    (slot n : ℕ) (l : Loan T U) (lies : lies_at f x.book slot ≡ Some (Lent_message n l))
    (is_written : l.is_written ≡ true) (free : x.blocked ≡ None) (outcome : DeliveryOutcome) (h : Fields T U)
    → SendsSlot environment f i x slot outcome h → Publishes environment f h x.id n l (result_of_delivery outcome)
send-publishes environment f sound i x here slot n l lies is_written free
    (DeliveryOutcome.Complete count has_failed) h sent =
    ended-publishes environment f sound i x here slot n l lies is_written free
    (DeliveryOutcome.Complete count has_failed) sent.delivered sent.delivers count has_failed refl h sent.book
    sent.stands sent.ended
send-publishes environment f sound i x here slot n l lies is_written free (DeliveryOutcome.Suspended progress) h sent =
    blocked-publishes environment f sound i x here slot n l lies is_written free
    (DeliveryOutcome.Suspended progress) sent.delivered sent.delivers progress refl h sent.book sent.stands sent.ended
