-- A blocked send goes on: its message is delivered to the receivers that remain, and it ends or is blocked again.
use Rattle.std.proofs.Common.{◌≡◌, ◌≢◌, ℕ, ◌+◌, ◌-◌, ◌<◌, ◌≤◌, true, false, List, drop, length, map, get_or, refl, ap}
use Rattle.std.proofs.Common.{sym, subst, ◌∙◌, inl, inr, ⊎_elim, arith, set-set}
use Rattle.std.proofs.lemmas.Bool.{cases_eq, eq-eqb}
use Rattle.std.proofs.lemmas.List.{length-map, length-set}
use Rattle.std.specs.Prelude.{slice_index, slice_get, slice_set, nat_lt}
use Rattle.std.specs.declared.option.Option.{Option}
use Rattle.std.specs.declared.option.Option.TheVariants.{None, Some}
use Rattle.std.specs.declared.time.Duration.{Duration}
use Rattle.std.specs.Option.{option_map, option_map_or}
use Rattle.slab.specs.Slab.{get, Slab, with_value}
use Rattle.iox2_machine.specs.machine.Delivery.{DeliveryEnd, Complete, Suspended, Deliver}
use Rattle.iox2_slots.specs.SlotBook.{Book, holders_at}
use Rattle.iox2_slots.specs.declared.slots.mark.SlotMark.{SlotMark}
use Rattle.iox2_slots.specs.declared.slots.mark.SlotMark.TheVariants.{Unwritten, Written, Sent}
use Rattle.iox2_machine.specs.machine.Mailbox.{Mailbox, numbers_in}
use Rattle.iox2_machine.specs.machine.Numbers.{put_at, contains, without}
use Rattle.iox2_machine.specs.machine.Places.{occupant}
use Rattle.iox2_machine.specs.machine.Records.{Entry, Loan, Publisher, BlockedSend, Environment}
use Rattle.iox2_machine.specs.machine.Sends.{ConcludeSend, DeliverAndConclude, with_mailboxes, SendResult}
use Rattle.iox2_machine.specs.Stored.{IsHeldMessage, In_history, In_mailbox, In_blocked_send}
use Rattle.iox2_machine.specs.machine.State.{State, channel_buffer}
use Rattle.iox2_machine.specs.machine.WellFormed.{IsWellFormed, IsInjective, LeadsTo}
use Rattle.iox2_laws.specs.Sendings.{sending}
use Rattle.iox2_connections.specs.Counters.{times, with_counters, one_holder_less}
use Rattle.iox2_connections.specs.Deliveries.{end_of}
use Rattle.iox2_connections.specs.declared.sender.Progress.{Progress}
use Rattle.iox2_connections.specs.declared.sender.DeliveryOutcome.{DeliveryOutcome}
use Rattle.iox2_connections.proofs.Counts.{one_if, one_if_other, get_or-one_holder_less}
use Rattle.iox2_connections.specs.Mailboxes.{mailboxes_of, sender_ends, subscriber_of_key}
use Rattle.iox2_connections.proofs.MailboxChanges.{others-stay, one-put, both-true}
use Rattle.iox2_laws.proofs.DeliveryLaws.{Delivered, AreFrom, deliver_is}
use Rattle.iox2_laws.proofs.MailboxLemmas.{contains_in_appended}
use Rattle.iox2_laws.proofs.PlaceLemmas.{occupant-drop}
use Rattle.iox2_laws.proofs.Puts.{found_put}
use Rattle.iox2_laws.proofs.SendLaws.{delivery_goes_on_keeps, injective_take, injective_drop}
use Rattle.iox2_domain.specs.declared.publisher_state.BlockedDelivery.{BlockedDelivery}
use Rattle.iox2_domain.specs.Ports.{PublisherFields}
use Rattle.iox2_domain.specs.Kept.{Lent_message, Sent_message, state_of, entries_of}
use Rattle.iox2_domain.specs.Fields.{Fields, kept_of, publisher_of, number_in_slot, message_of, within_reach}
use Rattle.iox2_domain.specs.Fields.{blocked_send, contents_at}
use Rattle.iox2_domain.specs.Invariant.{IsDomain, IsOwned, HasParts, HasNumber, is_lent, is_loan_in, HasLoneLoans}
use Rattle.iox2_domain.specs.Deliveries.{DeliversFrom, result_of_delivery}
use Rattle.iox2_domain.specs.BlockedSends.{with_outcome, counters_after, CanGoOn, GoesOn}
use Rattle.iox2_domain.specs.Shows.{KeepsEntries}
use Rattle.iox2_domain.proofs.lemmas.fields.Views.{mailboxes-are}
use Rattle.iox2_domain.proofs.lemmas.fields.ConnectionEnds.{publisher-stands}
use Rattle.iox2_domain.proofs.lemmas.fields.Parts.{whole_of}
use Rattle.iox2_domain.proofs.lemmas.fields.SameEnds.{with_connections, same-subscriber_of_key}
use Rattle.iox2_domain.proofs.lemmas.slots.Messages.{lies_at, message_in-parts, message_at-slot, has_number}
use Rattle.iox2_domain.proofs.lemmas.slots.Messages.{entry-there}
use Rattle.iox2_domain.proofs.lemmas.slots.BookChanges.{KeepsSlots, book-here}
use Rattle.iox2_domain.proofs.lemmas.slots.HeldMessages.{own-in_use, holders-there}
use Rattle.iox2_domain.proofs.lemmas.slots.PublisherBooks.{book-own, book-owned, book-counts}
use Rattle.iox2_domain.proofs.lemmas.slots.Recounts.{back}
use Rattle.iox2_domain.proofs.lemmas.slots.RecountedFields.{same-numbers}
use Rattle.iox2_domain.proofs.lemmas.slots.RecountedLoans.{recounted_fields, recounted-kept, parts-recounted}
use Rattle.iox2_domain.proofs.lemmas.slots.RecountedLoans.{recounted-is, recounted-entries, recounted-places}
use Rattle.iox2_domain.proofs.lemmas.slots.RecountedLoans.{recounted-keeps}
use Rattle.iox2_domain.proofs.lemmas.slots.LoneLoans.{IsLoneIn, lone-changed, lone-fewer}
use Rattle.iox2_domain.proofs.lemmas.slots.Rebooked.{CanRebook, rebooked, rebooked-parts, rebooked-is, rebooked-entries}
use Rattle.iox2_domain.proofs.lemmas.slots.Rebooked.{rebooked-places, rebooked-keeps, rebooked-kept}
use Rattle.iox2_steps.proofs.sends.LoanAlone.{once-times}
use Rattle.iox2_steps.proofs.sends.SentSlots.{times-without-one, map-without}
use Rattle.iox2_steps.proofs.sends.Publishing.{taking-are}
use Rattle.iox2_steps.proofs.sends.Reach.{reach-ends, reach-from, reach-stays, stops-within}
use Rattle.iox2_domain.proofs.lemmas.loans.PublisherChanges.{other_slots}
use Rattle.iox2_domain.proofs.lemmas.slots.Holders.{book-by_id}
use mathlib.Core.Path.{fun_ext}
use Rattle.iox2_laws.proofs.Cases.{match_some}
use Rattle.iox2_domain.specs.KeptPlaces.{KeepsPlaces}
use Rattle.iox2_domain.proofs.lemmas.fields.PlacesKept.{places-then}

-- The machine's delivery of the message n of the publisher x goes on from there, into that channel at these keys, and
-- its send ends or is blocked again. No entry is newly kept.
pub record ConcludesAs {T U : Type 0} (environment : Environment) (old new : Fields T U) (x : PublisherFields)
    (n channel : ℕ) (keys : List (Option ℕ)) (start : Progress) (elapsed : Duration)
    (result : SendResult) : Type 0 where
  pub agrees : IsDomain new
  pub concludes : DeliverAndConclude environment (state_of (kept_of old)) x.id
      (sending n channel start.retries start.place
      (drop start.place (sender_ends old.connections keys)) start.count start.has_failed) elapsed
      (state_of (kept_of new)) result
  pub entries : (m : ℕ) (entry : Entry T U) → entries_of (kept_of new) m ≡ Some entry
      → entries_of (kept_of old) m ≡ Some entry
  pub places : KeepsPlaces old new

-- a message that was sent has that mark
mark-sent : {T U : Type 0} (p number : ℕ) (header : _) (content : _) (n : ℕ) (entry : Entry T U) (mark : SlotMark)
    → Sent_message n entry ≡ message_of {T = T} {U = U} p number header content mark → mark ≡ Sent
mark-sent p number header content n entry Unwritten e = absurd cc
mark-sent p number header content n entry Written e = absurd cc
mark-sent p number header content n entry Sent e = refl

module _ {T U : Type 0} (environment : Environment) (f : Fields T U) (sound : IsDomain f) (i : ℕ) (x : PublisherFields)
    (here : get_or f.publishers i None ≡ Some x)
    (w : BlockedDelivery) (waits : x.blocked ≡ Some w) (start : Progress) (can : CanGoOn x w start) (elapsed : Duration)
    (outcome : DeliveryOutcome) (g : Fields T U)
    (d : DeliversFrom environment f x w.channel (within_reach w x.keys) w.slot start elapsed outcome g) where
  own : (d.book).publisher ≡ x.id
  own = book-own f sound.parts i x here d.book d.stands

  owned : IsOwned f.publishers x.book x.id
  owned = book-owned f sound.parts i x here

  -- the fields after the delivery
  abbrev mid : Fields T U
  mid = recounted_fields f sound x.id x.book d.book d.stands own d.holders d.connections d.recounts

  parts : HasParts mid
  parts = parts-recounted f sound x.id x.book d.book d.stands own d.holders d.connections d.recounts

  abbrev book : Book
  book = with_counters d.book d.holders

  keeps : KeepsSlots d.book book
  keeps = record { publisher = refl; node = refl; numbers = refl; slots = d.recounts.slots }

  book-stands : get mid.books x.book ≡ Some book
  book-stands = book-here (with_connections f d.connections d.recounts.homes) x.book d.book book d.stands keeps

  -- ---- the state before

  abbrev s : State T U
  s = state_of (kept_of f)

  abbrev port : Publisher
  port = (publisher_of f.books f.connections x).port

  abbrev boxes : ℕ → ℕ → Mailbox
  boxes = mailboxes_of (number_in_slot f.books) d.connections

  abbrev n : ℕ
  n = number_in_slot f.books x.id w.slot

  -- what waits, to the machine
  abbrev b : BlockedSend
  b = blocked_send (number_in_slot f.books x.id) (sender_ends f.connections x.keys) w

  -- and where it stops again, at these ends
  abbrev stopped : Progress → List (Option ℕ) → BlockedSend
  stopped progress ends = record {
    message = n;
    channel = w.channel;
    place = progress.place;
    ends = drop progress.place ends;
    retries = progress.retries;
    count = progress.count;
    has_failed = progress.has_failed;
  }

  stands : s.publishers x.id ≡ Some port
  stands = publisher-stands f sound.parts i x here

  port-waits : port.blocked ≡ Some b
  port-waits = ap (option_map (blocked_send (number_in_slot f.books x.id) (sender_ends f.connections x.keys))) waits

  -- ---- its slot

  lent : 0 < times w.slot x.loans
  lent = (sound.parts.plain i x here).lent w waits

  once : times w.slot x.loans ≤ 1
  once =
      once-times (number_in_slot f.books x.id) w.slot x.loans (sound.well_formed.publishers x.id port stands).loans_once

  slot-used : 0 < holders_at d.book w.slot
  slot-used = omega (arith, lent, book-counts f sound.parts i x here d.book d.stands w.slot)

  has : HasNumber f.books x.book w.slot n
  has = record {
    book = d.book;
    stands = d.stands;
    in_use = slot-used;
    number = sym (ap (λ o. option_map_or (λ (c : Book). slice_index c.numbers w.slot) o 0)
        (book-by_id f.books x.book x.id d.book (sound.parts.books.one_each x.id) d.stands own));
  }

  -- its message was sent
  sent : (entry : Entry T U) × (entries_of (kept_of f) n ≡ Some entry) × ((entry.header).publisher_id ≡ x.id)
  sent = sound.entries x.id n (In_blocked_send port b stands port-waits refl)

  lies : lies_at f x.book w.slot ≡ Some (Sent_message n sent.0)
  lies =
      let there = entry-there f n sent.0 sent.1 in
      let same = sound.parts.numbered.one there.0 x.book there.1 w.slot n
      (has_number f.contents f.books there.0 there.1 n (Sent_message n sent.0) there.2 (eq-eqb n n refl)) has in
      sym (ap (λ k. lies_at f k w.slot) same.0) ∙ sym (ap (λ j. lies_at f there.0 j) same.1) ∙ there.2

  marked : slice_get (d.book).marks w.slot ≡ Some Sent
  marked =
      let parts = message_in-parts d.book (contents_at f.contents x.book) w.slot (Sent_message n sent.0)
      (sym (message_at-slot f.contents f.books x.book w.slot d.book d.stands) ∙ lies) in
      parts.marks ∙ ap Some (mark-sent (d.book).publisher _ parts.header parts.content n sent.0 parts.mark parts.is)

  -- it is in use after the delivery
  used-still : 0 < holders_at book w.slot
  used-still = omega (arith, lent, book-counts mid parts i x here book book-stands w.slot)

  -- the other slots of loans have other numbers
  only : (r : ℕ) → 0 < times r x.loans → number_in_slot f.books x.id r ≡ n → r ≡ w.slot
  only r some is =
      let there = holders-there f x.id r
      (own-in_use f sound.parts.counted sound.parts.publisher_ids i r x here (omega (arith, some))) in
      (sound.parts.numbered.one there.0 x.book r w.slot n
      (record { book = there.1; stands = there.2; in_use = there.4; number = there.5 ∙ is }) has).1

  -- ---- the publisher and its counters afterwards

  less : (r : ℕ) → get_or (one_holder_less w.slot book.holders) r 0 + one_if r w.slot ≡ holders_at book r
  less r = get_or-one_holder_less book.holders w.slot r used-still

  fewer : (o : DeliveryOutcome) (r : ℕ) → get_or (counters_after o w.slot book.holders) r 0 ≤ holders_at book r
  fewer (DeliveryOutcome.Complete count has_failed) r = omega (arith, less r)
  fewer (DeliveryOutcome.Suspended progress) r = omega arith

  -- a loan lies in another slot, which is in use
  lent-other : (r m : ℕ) (l : Loan T U) → lies_at mid x.book r ≡ Some (Lent_message m l)
      → (r ≢ w.slot) × (0 < holders_at book r)
  lent-other r m l lying = (
    λ same.
        let lay : lies_at f x.book r ≡ Some (Lent_message m l) =
        back f sound.parts x.id x.book d.book d.stands own d.holders d.connections d.recounts x.book r
        (Lent_message m l) lying in
        absurd (let both : Some (Lent_message m l) ≡ Some (Sent_message n sent.0) = sym lay
        ∙ ap (λ j. lies_at f x.book j) same ∙ lies in cc),
    (message_in-parts book (contents_at f.contents x.book) r (Lent_message m l)
        (sym (message_at-slot f.contents mid.books x.book r book book-stands) ∙ lying)).in_use,
  )

  can-conclude : (o : DeliveryOutcome)
      → CanRebook mid x (with_outcome o w x) book (counters_after o w.slot book.holders)
  can-conclude (DeliveryOutcome.Complete count has_failed) = record {
    settings = other_slots x (without w.slot x.loans) (x.history).items None;
    keys = refl;
    lends = λ had c e. absurd cc;
    unwritten = λ r marked_unwritten out. elim (cases_eq r w.slot) [
      | inl same ↦ absurd (let no : Some Unwritten ≡ Some Sent = sym marked_unwritten
          ∙ ap (slice_get (d.book).marks) same ∙ marked in cc)
      | inr away ↦
          omega (arith, out, times-without-one r w.slot x.loans (omega (arith, once, lent)), one_if_other r w.slot away)
    ];
    slots = length-set book.holders w.slot _;
    used = λ r some. omega (arith, some, less r);
    counts = λ r. omega (arith, less r, times-without-one r w.slot x.loans (omega (arith, once, lent)));
    lent = λ r m l none lying. let other = lent-other r m l lying in
        absurd (omega (arith, less r, none, other.1, one_if_other r w.slot other.0));
  }
  can-conclude (DeliveryOutcome.Suspended progress) = record {
    settings = other_slots x x.loans (x.history).items (Some (record w { progress = progress }));
    keys = refl;
    lends = λ had c e. subst (λ (slot : ℕ). 0 < times slot x.loans)
        (ap (λ (o : Option BlockedDelivery). option_map_or (λ (v : BlockedDelivery). v.slot) o 0) e) lent;
    unwritten = λ r marked_unwritten out. out;
    slots = refl;
    used = λ r some. some;
    counts = λ r. refl;
    lent = λ r m l none lying. absurd (omega (arith, none, (lent-other r m l lying).1));
  }

  -- ---- the fields afterwards

  abbrev changed : PublisherFields
  changed = with_outcome outcome w x

  abbrev counters : List ℕ
  counters = counters_after outcome w.slot book.holders

  abbrev after : Fields T U
  after = rebooked mid i x changed book counters

  parts-after : HasParts after
  parts-after = rebooked-parts mid parts i x changed here book book-stands own counters (can-conclude outcome)

  lone-after : HasLoneLoans after.books
  lone-after =
      subst HasLoneLoans
      (sym (ap (λ (books : List (Option Book)). let slab : Slab Book = record f.books { slots = books } in slab)
      (set-set f.books.slots x.book (Some book) (Some (with_counters book (counters))))))
      (lone-changed f.books x.book d.book (with_counters book (counters)) d.stands sound.lone one)
    where
      one : (r : ℕ) → IsLoneIn d.book r → IsLoneIn (with_counters book (counters)) r
      one r had = elim (cases_eq r w.slot) [
        | inl same ↦ λ loan. absurd (unlent r same loan)
        | inr away ↦ lone-fewer d.book (with_counters book (counters)) r refl
            (omega (arith, fewer outcome r, d.alone.others r away)) had
      ] where
        unlent : (r : ℕ) → r ≡ w.slot → is_loan_in (with_counters book (counters)) r ≡ true → ⊥
        unlent r same loan =
            let mark : slice_get (d.book).marks r ≡ Some Sent = ap (slice_get (d.book).marks) same ∙ marked in
            absurd (let no : false ≡ true = sym (ap (λ o. option_map_or is_lent o false) mark)
            ∙ (both-true (nat_lt 0 (holders_at (with_counters book (counters)) r))
            (option_map_or is_lent (slice_get (d.book).marks r) false) loan).1 in cc)

  -- ---- the state afterwards

  -- the ends that it may reach, which are those of its keys
  abbrev reach : List (Option ℕ)
  reach = within_reach w port.ends

  reach-is : sender_ends f.connections (within_reach w x.keys) ≡ reach
  reach-is = reach-ends f.connections w x.keys

  numbers-are : number_in_slot mid.books ≡ number_in_slot f.books
  numbers-are = same-numbers f sound.parts x.id x.book d.book d.stands own d.holders d.connections d.recounts

  ends-are : sender_ends d.connections x.keys ≡ sender_ends f.connections x.keys
  ends-are = λ t. map (same-subscriber_of_key f.connections d.connections d.recounts.homes t) x.keys

  mid-is : state_of (kept_of mid) ≡ record s { mailboxes = boxes }
  mid-is = recounted-is f sound x.id x.book d.book d.stands own d.holders d.connections d.recounts

  -- the machine's publisher afterwards
  abbrev change : DeliveryEnd → Publisher → Publisher
  change (Complete count has_failed) v = record v { loans = without n v.loans; blocked = None }
  change (Suspended waiting) v = record v { blocked = Some waiting }

  abbrev how : DeliveryEnd
  how = end_of n w.channel reach outcome

  -- where it stops, what it may reach stays
  abbrev ReachStays : DeliveryOutcome → Type 0
  ReachStays o = (progress : Progress) → o ≡ DeliveryOutcome.Suspended progress
      → within_reach (record w { progress = progress }) port.ends ≡ reach

  sender-is : (o : DeliveryOutcome) → ReachStays o
      → (publisher_of mid.books mid.connections (with_outcome o w x)).port ≡ change (end_of n w.channel reach o) port
  sender-is (DeliveryOutcome.Complete count has_failed) stays =
      (λ t. record port {
        loans = map (numbers-are t x.id) (without w.slot x.loans);
        history = map (numbers-are t x.id) (x.history).items;
        ends = ends-are t;
        blocked = None;
      })
      ∙ (λ t. record port
      { loans = map-without (number_in_slot f.books x.id) w.slot n refl x.loans only t; blocked = None })
  sender-is (DeliveryOutcome.Suspended progress) stays =
      (λ t. record port {
        loans = map (numbers-are t x.id) x.loans;
        history = map (numbers-are t x.id) (x.history).items;
        ends = ends-are t;
        blocked = Some (blocked_send (numbers-are t x.id) (ends-are t) (record w { progress = progress }));
      })
      ∙ ap (λ (ends : List (Option ℕ)). record port {
        blocked = Some (stopped progress ends);
      }) (stays progress refl)

  module _ (row : ℕ → Mailbox) (ends : List (Option ℕ)) (buffers : ℕ → Option ℕ) where
    -- the delivery, in these mailboxes, at these ends and with these buffers
    abbrev DeliversSo : Type 0
    DeliversSo =
        Deliver environment f.config x.id x.strategy x.backpressure_handler buffers n w.channel start.retries elapsed
        start.place (drop start.place ends) start.count start.has_failed row (end_of n w.channel ends outcome)
        (boxes x.id)

  delivers : DeliversSo (s.mailboxes x.id) reach (channel_buffer s x.id w.channel)
  delivers =
      subst (λ (row : ℕ → Mailbox). DeliversSo row reach (channel_buffer s x.id w.channel))
      (fun_ext (λ r. sym (mailboxes-are f x.id r)))
      (subst (λ (ends : List (Option ℕ)). DeliversSo (mailboxes_of (number_in_slot f.books) f.connections x.id) ends
      (channel_buffer s x.id w.channel)) reach-is
      (subst (DeliversSo (mailboxes_of (number_in_slot f.books) f.connections x.id)
      (sender_ends f.connections (within_reach w x.keys))) (taking-are f x.id w.channel)
      (d.delivers (number_in_slot f.books))))

  -- it starts within its reach
  within : start.place ≤ length reach
  within = omega (
    arith,
    can.within,
    ap (length {A = Option ℕ}) reach-is,
    length-map (within_reach w x.keys) (subscriber_of_key f.connections),
  )

  stays : ReachStays outcome
  stays progress is =
      let stop : BlockedSend = record {
        message = n;
        channel = w.channel;
        place = progress.place;
        ends = drop progress.place reach;
        retries = progress.retries;
        count = progress.count;
        has_failed = progress.has_failed;
      } in
      let place = stops-within environment f.config x.id x.strategy x.backpressure_handler
      (channel_buffer s x.id w.channel) n w.channel start.retries elapsed start.place
      (drop start.place reach) start.count start.has_failed
      (s.mailboxes x.id) (end_of n w.channel reach outcome) (boxes x.id) delivers stop
      (ap (end_of n w.channel reach) is) in
      reach-stays w port.ends start.place progress can.later within place.0 place.1

  after-is : state_of (kept_of after) ≡ record s
      { mailboxes = boxes; publishers = put_at s.publishers x.id (Some (change how port)) }
  after-is =
      rebooked-is mid parts i x changed here book book-stands own counters (can-conclude outcome)
      ∙ ap (λ (z : Publisher). record (state_of (kept_of mid))
      { publishers = put_at (state_of (kept_of mid)).publishers x.id (Some z) }) (sender-is outcome stays)
      ∙ ap (λ (t : State T U). record t { publishers = put_at t.publishers x.id (Some (change how port)) }) mid-is

  other-boxes : (q r : ℕ) → q ≢ x.id → boxes q r ≡ s.mailboxes q r
  other-boxes q r away =
      others-stay (number_in_slot f.books) f.connections d.connections x.id q r sound.parts.apart d.recounts.homes
      d.recounts.others away ∙ sym (mailboxes-are f q r)

  boxes-are : boxes ≡ put_at s.mailboxes x.id (boxes x.id)
  boxes-are = one-put s.mailboxes boxes x.id (λ q away. fun_ext (λ r. other-boxes q r away))

  -- as the machine writes it
  after-shown : state_of (kept_of after) ≡ record s {
    mailboxes = put_at s.mailboxes x.id (boxes x.id);
    publishers = put_at s.publishers x.id (option_map (change how) (s.publishers x.id));
  }
  after-shown = after-is ∙ (λ t. record s
      { mailboxes = boxes-are t; publishers = put_at s.publishers x.id (option_map (change how) (sym stands t)) })

  -- ---- the machine's step

  ends-so : (o : DeliveryOutcome) → state_of (kept_of after) ≡ record s {
    mailboxes = put_at s.mailboxes x.id (boxes x.id);
    publishers = put_at s.publishers x.id (option_map (change (end_of n w.channel reach o)) (s.publishers x.id));
  }
      → ConcludeSend (with_mailboxes s x.id (boxes x.id)) x.id n (end_of n w.channel reach o) (state_of (kept_of after))
      (result_of_delivery o)
  ends-so (DeliveryOutcome.Complete count has_failed) is = (is, refl)
  ends-so (DeliveryOutcome.Suspended progress) is = (is, refl)

  concludes : DeliverAndConclude environment s x.id
      (sending n w.channel start.retries start.place (drop start.place reach) start.count start.has_failed) elapsed
      (state_of (kept_of after)) (result_of_delivery outcome)
  concludes = match_some (s.publishers x.id) port ⊥ _ stands (how, boxes x.id, delivers, ends-so outcome after-shown)

  -- the ends that remain are some of its publisher's from there on
  from : AreFrom port.ends (drop start.place reach) start.place
  from = reach-from w port.ends start.place within

  -- the ends that remain are among those that remained
  remained : (q : ℕ) → LeadsTo (drop start.place reach) q → LeadsTo b.ends q
  remained q leads =
      let more : (w.progress).place + (start.place - (w.progress).place) ≡ start.place = omega (arith, can.later) in
      let same : (w.progress).place + (start.place - (w.progress).place + leads.0) ≡ start.place + leads.0 =
      omega (arith, more) in (
        start.place - (w.progress).place + leads.0,
        occupant-drop (w.progress).place reach (start.place - (w.progress).place + leads.0)
            ∙ ap (occupant reach) same ∙ sym (occupant-drop start.place reach leads.0) ∙ leads.1,
      )

  well : IsWellFormed (state_of (kept_of after))
  well = delivery_goes_on_keeps environment s x.id port b start.retries elapsed start.place
      (drop start.place reach) start.count start.has_failed (state_of (kept_of after)) (result_of_delivery outcome)
      sound.well_formed stands port-waits from can.counted remained concludes

  -- ---- entries

  held-waiting : (z : DeliveryEnd) (q : ℕ) (v : Publisher) (c : BlockedSend) → (o : DeliveryOutcome)
      → z ≡ end_of n w.channel reach o → v ≡ change z port → v.blocked ≡ Some c → c.message ≡ n
  held-waiting z q v c (DeliveryOutcome.Complete count has_failed) e is waits_now =
      absurd (let no : None ≡ Some c = sym (ap (λ (u : Publisher). u.blocked) (is ∙ ap (λ y. change y port) e))
      ∙ waits_now in cc)
  held-waiting z q v c (DeliveryOutcome.Suspended progress) e is waits_now =
      let same : Some (stopped progress reach) ≡ Some c =
      sym (ap (λ (u : Publisher). u.blocked) (is ∙ ap (λ y. change y port) e)) ∙ waits_now in
      sym (ap (λ (o : Option BlockedSend). option_map_or (λ (u : BlockedSend). u.message) o 0) same)

  history-same : (z : DeliveryEnd) → (change z port).history ≡ port.history
  history-same (Complete count has_failed) = refl
  history-same (Suspended waiting) = refl

  -- who holds a message afterwards held it after the delivery
  held-mid : (q m : ℕ)
      → IsHeldMessage (record s { mailboxes = boxes; publishers = put_at s.publishers x.id (Some (change how port)) }) q
      m → IsHeldMessage (record s { mailboxes = boxes }) q m
  held-mid q m (In_history y at is) = found_put s.publishers x.id (change how port)
      (λ j z. contains z.history m ≡ true → IsHeldMessage (record s { mailboxes = boxes }) j m) q y at
      (λ _ h. In_history port stands (ap (λ ns. contains ns m) (sym (history-same how)) ∙ h))
      (λ _ there h. In_history y there h) is
  held-mid q m (In_mailbox r is) = In_mailbox r is
  held-mid q m (In_blocked_send y c at waits_now is) = found_put s.publishers x.id (change how port)
      (λ j z. z.blocked ≡ Some c → IsHeldMessage (record s { mailboxes = boxes }) j m) q y at
      (λ _ h. In_blocked_send port b stands port-waits (sym (held-waiting how q (change how port) c outcome refl refl h)
      ∙ is)) (λ _ there h. In_blocked_send y c there h is) waits_now

  injective-drop : IsInjective (drop start.place reach)
  injective-drop = subst IsInjective (sym from.1)
      (injective_take from.0 (drop start.place port.ends)
      (injective_drop start.place port.ends (sound.well_formed.publishers x.id port stands).ends_apart))

  delivered : Delivered (channel_buffer s x.id w.channel) n w.channel port.ends (drop start.place reach)
      (s.mailboxes x.id) how (boxes x.id)
  delivered = deliver_is environment f.config x.id x.strategy x.backpressure_handler
      (channel_buffer s x.id w.channel) n w.channel start.retries elapsed start.place
      (drop start.place reach) start.count start.has_failed port.ends (s.mailboxes x.id) how (boxes x.id)
      injective-drop from can.counted delivers

  -- and before it
  held-before-it : (q m : ℕ) → IsHeldMessage (record s { mailboxes = boxes }) q m → IsHeldMessage s q m
  held-before-it q m (In_history y at is) = In_history y at is
  held-before-it q m (In_blocked_send y c at waits_now is) = In_blocked_send y c at waits_now is
  held-before-it q m (In_mailbox r is) = elim (cases_eq q x.id) [
    | inl same ↦ subst (λ (p : ℕ). IsHeldMessage s p m) (sym same)
        (row (ap (λ p. contains (numbers_in (boxes p r)) m) (sym same) ∙ is))
    | inr other ↦ In_mailbox r (ap (λ box. contains (numbers_in box) m) (sym (other-boxes q r other)) ∙ is)
  ]
    where
      row : contains (numbers_in (boxes x.id r)) m ≡ true → IsHeldMessage s x.id m
      row h = ⊎_elim
          (λ same. In_mailbox r (ap (λ box. contains (numbers_in box) m) (sym same) ∙ h))
          (λ put. ⊎_elim (λ is_n. In_blocked_send port b stands port-waits (sym is_n)) (λ was. In_mailbox r was)
          (contains_in_appended w.channel (put.1).0 n (s.mailboxes x.id r) m
          (ap (λ box. contains (numbers_in box) m) (sym (put.1).2) ∙ h)))
          (delivered.each r)

  entries-after : KeepsEntries (kept_of after)
  entries-after q m is =
      let in_mid : IsHeldMessage (record s { mailboxes = boxes }) q m =
      held-mid q m (subst (λ t. IsHeldMessage t q m) after-is is) in
      let old = sound.entries q m (held-before-it q m in_mid) in
      let kept : entries_of (kept_of mid) m ≡ Some old.0 =
      recounted-keeps f sound x.id x.book d.book d.stands own d.holders d.connections d.recounts q m old.0
      (subst (λ t. IsHeldMessage t q m) (sym mid-is) in_mid) old.1 in (
        old.0,
        rebooked-keeps mid parts i x changed here book book-stands own counters
            (can-conclude outcome) q m old.0 is kept,
        old.2,
      )

  -- the machine's delivery goes on
  gone-on : ConcludesAs environment f after x n w.channel (within_reach w x.keys) start elapsed
      (result_of_delivery outcome)
  gone-on = record {
    agrees = whole_of after parts-after lone-after
        (rebooked-kept mid parts i x changed here book book-stands own counters (can-conclude outcome) owned
        (recounted-kept f sound x.id x.book d.book d.stands own d.holders d.connections d.recounts owned))
        well entries-after;
    concludes = subst (λ (ends : List (Option ℕ)). DeliverAndConclude environment s x.id
        (sending n w.channel start.retries start.place (drop start.place ends) start.count start.has_failed) elapsed
        (state_of (kept_of after)) (result_of_delivery outcome)) (sym reach-is) concludes;
    entries = λ m entry e.
        recounted-entries f sound x.id x.book d.book d.stands own d.holders d.connections d.recounts m entry
        (rebooked-entries mid parts i x changed here book book-stands own counters (can-conclude outcome) m entry e);
    places = places-then (recounted-places f sound x.id x.book d.book d.stands own d.holders d.connections d.recounts)
        (rebooked-places mid parts i x changed here book book-stands own counters (can-conclude outcome));
  }

  -- with the fields that the code makes of those after the delivery
  made-goes-on : (h : Fields T U) (c : Book) → get g.books x.book ≡ Some c
      → h ≡ record g {
        publishers = slice_set g.publishers i (Some (with_outcome outcome w x));
        books = with_value g.books x.book (with_counters c (counters_after outcome w.slot c.holders));
      }
      → ConcludesAs environment f h x n w.channel (within_reach w x.keys) start elapsed (result_of_delivery outcome)
  made-goes-on h c there is =
      subst (λ (k : Fields T U). ConcludesAs environment f k x n w.channel (within_reach w x.keys) start elapsed
      (result_of_delivery outcome)) (sym (is
      ∙ ap (λ (v : Book). record g {
        publishers = slice_set g.publishers i (Some (with_outcome outcome w x));
        books = with_value g.books x.book (with_counters v (counters_after outcome w.slot v.holders));
      }) delivered-book
      ∙ ap (λ (k : Fields T U). record k {
        publishers = slice_set k.publishers i (Some (with_outcome outcome w x));
        books = with_value k.books x.book (with_counters book (counters_after outcome w.slot book.holders));
      }) d.delivered)) gone-on
    where
      delivered-book : c ≡ book
      delivered-book = let both : Some c ≡ Some book = sym there
          ∙ ap (λ (k : Fields T U). get k.books x.book) d.delivered ∙ book-stands in cc

-- a blocked delivery that is taken up is the machine's
pub goes-on : {T U : Type 0} (environment : Environment) (f : Fields T U) (sound : IsDomain f) (i : ℕ)
    (x : PublisherFields) (here : get_or f.publishers i None ≡ Some x)
    (w : BlockedDelivery) (waits : x.blocked ≡ Some w) (start : Progress) (can : CanGoOn x w start) (elapsed : Duration)
    (outcome : DeliveryOutcome) (h : Fields T U)
    → GoesOn environment f i x w start elapsed outcome h
    → ConcludesAs environment f h x (number_in_slot f.books x.id w.slot) w.channel (within_reach w x.keys) start elapsed
    (result_of_delivery outcome)
goes-on environment f sound i x here w waits start can elapsed outcome h goes =
    made-goes-on environment f sound i x here w waits start can elapsed outcome goes.delivered goes.delivers h goes.book
    goes.stands goes.ended
