-- The last messages of a publisher's history wait in a connection in which no slot stood.
use Rattle.std.proofs.Common.{◌≡◌, ℕ, zero, suc, ◌+◌, ◌-◌, ◌<◌, true, false, ◌&&◌, List, [], ◌∷◌, ◌++◌, length, drop}
use Rattle.std.proofs.Common.{map, get_or, refl, ap, sym, subst, ◌∙◌, inl, inr, arith}
use Rattle.std.proofs.lemmas.Bool.{eq-eqb, lt-ltb}
use Rattle.std.proofs.lemmas.List.{length-map, drop-map}
use Rattle.std.specs.Prelude.{slice_get, nat_lt}
use Rattle.std.specs.declared.option.Option.TheVariants.{None, Some}
use Rattle.std.specs.Option.{option_map_or}
use Rattle.slab.specs.Slab.{Slab, get, with_value}
use Rattle.iox2_connections.specs.Link.{Link, load}
use Rattle.iox2_slots.specs.SlotBook.{Book, holders_at}
use Rattle.iox2_machine.specs.machine.Mailbox.{Mailbox, numbers_in, with_waiting, ChannelNumber}
use Rattle.iox2_machine.specs.machine.Numbers.{put_at, contains, last_n}
use Rattle.iox2_machine.specs.machine.Records.{Entry}
use Rattle.iox2_machine.specs.machine.State.{State}
use Rattle.iox2_machine.specs.machine.WellFormed.{IsWellFormed}
use Rattle.iox2_machine.specs.Stored.{IsHeldMessage, In_history, In_mailbox, In_blocked_send}
use Rattle.iox2_slots.specs.declared.slots.mark.SlotMark.{SlotMark}
use Rattle.iox2_slots.specs.declared.slots.mark.SlotMark.TheVariants.{Unwritten, Written, Sent}
use Rattle.iox2_connections.specs.Counters.{times, stands_in, with_counters}
use Rattle.iox2_connections.specs.Mailboxes.{mailbox_of, mailboxes_of, with_box, numbered}
use Rattle.iox2_connections.specs.Recounts.{Recounts}
use Rattle.iox2_connections.proofs.Histories.{times-last}
use Rattle.iox2_connections.proofs.MailboxChanges.{Updates-with_value, mailboxes-changed, mailbox-there, both-true}
use Rattle.iox2_laws.proofs.NumberLemmas.{contains_in_append, contains_in_last_n}
use Rattle.iox2_laws.proofs.Puts.{at_each}
use Rattle.iox2_domain.specs.Ports.{PublisherFields}
use Rattle.iox2_domain.specs.Kept.{Sent_message, state_of}
use Rattle.iox2_domain.specs.Fields.{Fields, kept_of, number_in_slot, contents_at, message_of}
use Rattle.iox2_domain.specs.Invariant.{IsDomain, IsOwned, HasLoneLoans, HasNumber, is_lent, is_loan_in}
use Rattle.iox2_domain.specs.Histories.{with_history_waiting, HandsOut}
use Rattle.iox2_domain.proofs.lemmas.fields.ConnectionEnds.{publisher-stands}
use Rattle.iox2_domain.proofs.lemmas.fields.Parts.{whole_of}
use Rattle.iox2_domain.proofs.lemmas.fields.Views.{mailboxes-are}
use Rattle.iox2_domain.proofs.lemmas.loans.LoanSlots.{number-at}
use Rattle.iox2_domain.proofs.lemmas.slots.LoneLoans.{IsLoneIn, lone-changed, lone-fewer}
use Rattle.iox2_domain.proofs.lemmas.slots.Messages.{LiesIn, message_in-parts, lies_at, message_at-slot, has_number}
use Rattle.iox2_domain.proofs.lemmas.slots.Messages.{entry-there}
use Rattle.iox2_domain.proofs.lemmas.slots.NumbersInUse.{contains-map, times-stands}
use Rattle.iox2_domain.proofs.lemmas.slots.PublisherBooks.{book-own, book-owned}
use Rattle.iox2_domain.proofs.lemmas.slots.RecountedLoans.{recounted_fields, recounted-kept, parts-recounted}
use Rattle.iox2_domain.proofs.lemmas.slots.RecountedLoans.{recounted-is, recounted-entries, recounted-places}
use Rattle.iox2_domain.proofs.lemmas.slots.RecountedLoans.{recounted-keeps}
use Rattle.iox2_steps.proofs.updates.HistoryBounds.{remembered-in_use}
use Rattle.iox2_connections.proofs.Recounts.{Recounts-one}
use mathlib.Core.Path.{fun_ext}
use Rattle.iox2_domain.proofs.lemmas.fields.LostConnections.{no-length}
use Rattle.iox2_domain.proofs.lemmas.fields.NamedPorts.{seen, seen_publisher}

-- numbers of the last slots are the last numbers
last-map : (number : ℕ → ℕ) (n : ℕ) (slots : List ℕ) → map number (last_n n slots) ≡ last_n n (map number slots)
last-map number n slots = sym (drop-map number (length slots - n) slots)
    ∙ sym (ap (λ (k : ℕ). drop (k - n) (map number slots)) (length-map slots number))

-- a connection that has nothing borrowed shows no borrowed numbers
none-lent : (number : ℕ → ℕ) (slots : List ℕ) → length slots ≡ 0 → map number slots ≡ []
none-lent number [] e = refl
none-lent number (s ∷ ss) e = absurd (omega arith)

module _ {T U : Type 0} (f : Fields T U) (sound : IsDomain f) (i : ℕ) (x : PublisherFields)
    (here : get_or f.publishers i None ≡ Some x)
    (b : Book) (at : get f.books x.book ≡ Some b) (key : ℕ) (c : Link) (there : get f.connections key ≡ Some c)
    (its : c.home.publisher ≡ x.id) (empty : load c ≡ 0)
    (holders : List ℕ) (long : length holders ≡ length b.holders)
    (counters : (slot : ℕ)
    → get_or holders slot 0 ≡ holders_at b slot + times slot (last_n c.buffer (x.history).items)) where
  pub mine : b.publisher ≡ x.id
  mine = book-own f sound.parts i x here b at

  pub owned : IsOwned f.publishers x.book x.id
  owned = book-owned f sound.parts i x here

  -- the connection and all connections afterwards
  abbrev filled : Link
  filled = record c { waiting = last_n c.buffer (x.history).items }

  abbrev pub connections : Slab Link
  connections = with_value f.connections key filled

  pub recounts : Recounts x.id b.holders f.connections holders connections
  recounts = Recounts-one x.id b.holders holders f.connections key c filled there its refl follows long used
      (omega arith) where
        absent : (slot : ℕ) (xs : List ℕ) → length xs ≡ 0 → times slot xs ≡ 0
        absent slot [] e = refl
        absent slot (y ∷ ys) e = absurd (omega arith)

        follows : (slot : ℕ)
            → get_or holders slot 0 + stands_in slot c ≡ get_or b.holders slot 0 + stands_in slot filled
        follows slot = omega (
          arith,
          counters slot,
          absent slot c.waiting (omega (arith, empty)),
          absent slot c.borrowed (omega (arith, empty)),
          absent slot c.returned (omega (arith, empty)),
        )

        used : (slot : ℕ) → 0 < get_or holders slot 0 → 0 < get_or b.holders slot 0
        used slot some = by (times slot (x.history).items) refl where
          by : (n : ℕ) → times slot (x.history).items ≡ n → 0 < get_or b.holders slot 0
          by zero e = omega (arith, some, e, counters slot, times-last slot c.buffer (x.history).items)
          by (suc n) e = remembered-in_use f sound i x here b at slot (omega (arith, e))

  abbrev pub handed : Fields T U
  handed = recounted_fields f sound x.id x.book b at mine holders connections recounts

  -- ---- the state

  box-is : (seen f).mailboxes x.id c.home.subscriber ≡ mailbox_of (number_in_slot f.books x.id) c
  box-is = mailboxes-are f x.id c.home.subscriber ∙ mailbox-there
      (number_in_slot f.books) f.connections key x.id c.home.subscriber c sound.parts.apart there its refl

  filled-is : mailbox_of (number_in_slot f.books x.id) filled ≡ with_waiting
      (last_n c.buffer (seen_publisher f x).history) ((seen f).mailboxes x.id c.home.subscriber)
  filled-is =
      (λ t. record (mailbox_of (number_in_slot f.books x.id) filled)
      { waiting = last-map (number_in_slot f.books x.id) c.buffer (x.history).items t })
      ∙ ap (λ (box : Mailbox). with_waiting (last_n c.buffer (seen_publisher f x).history) box) (sym box-is)

  handed-is : state_of (kept_of handed) ≡ with_history_waiting f x c
  handed-is =
      recounted-is f sound x.id x.book b at mine holders connections recounts
      ∙ ap (λ (boxes : ℕ → ℕ → Mailbox). record (seen f) { mailboxes = boxes })
      (mailboxes-changed (number_in_slot f.books) f.connections connections key c filled sound.parts.apart there refl
      (Updates-with_value f.connections key c filled there)
      ∙ ap (λ (p : ℕ). with_box (mailboxes_of (number_in_slot f.books) f.connections) p c.home.subscriber
      (mailbox_of (number_in_slot f.books p) filled)) its
      ∙ ap (λ (boxes : ℕ → ℕ → Mailbox). with_box boxes x.id c.home.subscriber
      (mailbox_of (number_in_slot f.books x.id) filled)) (sym (fun_ext (λ p. fun_ext (λ q. mailboxes-are f p q))))
      ∙ ap (with_box (seen f).mailboxes x.id c.home.subscriber) filled-is)

  -- ---- who holds messages

  nothing-elsewhere : ((seen f).mailboxes x.id c.home.subscriber).others ≡ []
  nothing-elsewhere =
      ap (λ (box : Mailbox). box.others) box-is
      ∙ ap (numbered (number_in_slot f.books x.id)) (no-length c.others (omega (arith, empty)))

  nothing-lent : ((seen f).mailboxes x.id c.home.subscriber).borrowed ≡ []
  nothing-lent = ap (λ (box : Mailbox). box.borrowed) box-is
      ∙ none-lent (number_in_slot f.books x.id) c.borrowed (omega (arith, empty))

  -- who holds a message now held it before
  held-before : (p n : ℕ) → IsHeldMessage (with_history_waiting f x c) p n → IsHeldMessage (seen f) p n
  held-before p n (In_history y stood is) = In_history y stood is
  held-before p n (In_blocked_send y d stood waits is) = In_blocked_send y d stood waits is
  held-before p n (In_mailbox q is) =
      at_each (seen f).mailboxes x.id (put_at ((seen f).mailboxes x.id) c.home.subscriber box)
      (λ r row. contains (numbers_in (row q)) n ≡ true → IsHeldMessage (seen f) r n) p
      (λ _. at_each ((seen f).mailboxes x.id) c.home.subscriber box
      (λ r m. contains (numbers_in m) n ≡ true → IsHeldMessage (seen f) x.id n) q
      (λ _ in_box. elim (contains_in_append (last_n c.buffer (seen_publisher f x).history)
      ((seen f).mailboxes x.id c.home.subscriber).borrowed n (in_first in_box)) [
        | inl waits ↦ In_history (seen_publisher f x) (publisher-stands f sound.parts i x here)
            (contains_in_last_n c.buffer (seen_publisher f x).history n waits)
        | inr lent ↦
            absurd (let no : false ≡ true = sym (ap (λ (ns : List ℕ). contains ns n) nothing-lent) ∙ lent in cc)
      ]) (λ _ in_old. In_mailbox q in_old))
      (λ _ in_old. In_mailbox q in_old) is
    where
      box : Mailbox
      box = with_waiting (last_n c.buffer (seen_publisher f x).history) ((seen f).mailboxes x.id c.home.subscriber)

      in_first : contains (numbers_in box) n ≡ true
          → contains (last_n c.buffer
          (seen_publisher f x).history ++ ((seen f).mailboxes x.id c.home.subscriber).borrowed) n ≡ true
      in_first in_box =
          ap (λ (ms : List ChannelNumber).
          contains (map (λ (m : ChannelNumber). m.number) ms
          ++ (last_n c.buffer (seen_publisher f x).history ++ ((seen f).mailboxes x.id c.home.subscriber).borrowed)) n)
          (sym nothing-elsewhere) ∙ in_box

  -- ---- loans

  -- a slot of the history isn't a loan
  no-loan : (slot : ℕ) → 0 < times slot (x.history).items → is_loan_in b slot ≡ true → ⊥
  no-loan slot some loan =
      let number = number-at f sound x.book slot b at in
      let n : ℕ = number_in_slot f.books x.id slot in
      let kept = sound.entries x.id n (In_history (seen_publisher f x) (publisher-stands f sound.parts i x here)
      (contains-map (number_in_slot f.books x.id) (x.history).items slot (times-stands slot (x.history).items some))) in
      let place = entry-there f n kept.0 kept.1 in
      let has : HasNumber f.books x.book slot n =
      record {
        book = b;
        stands = at;
        in_use = remembered-in_use f sound i x here b at slot some;
        number = sym number ∙ ap (λ (p : ℕ). number_in_slot f.books p slot) mine;
      } in
      let same = sound.parts.numbered.one place.0 x.book place.1 slot n
      (has_number f.contents f.books place.0 place.1 n (Sent_message n kept.0) place.2 (eq-eqb n n refl)) has in
      let lies : lies_at f x.book slot ≡ Some (Sent_message n kept.0) =
      sym (ap (λ j. lies_at f x.book j) same.1) ∙ sym (ap (λ k. lies_at f k place.1) same.0) ∙ place.2 in
      let parts = message_in-parts b (contents_at f.contents x.book) slot (Sent_message n kept.0)
      (sym (message_at-slot f.contents f.books x.book slot b at) ∙ lies) in
      by parts parts.mark parts.is parts.marks
    where
      lent : option_map_or is_lent (slice_get b.marks slot) false ≡ true
      lent = (both-true (nat_lt 0 (holders_at b slot)) (option_map_or is_lent (slice_get b.marks slot) false) loan).1

      by : {n : ℕ} {entry : Entry T U} (parts : LiesIn b (contents_at f.contents x.book) slot (Sent_message n entry))
          (mark : SlotMark)
          → Sent_message n entry ≡ message_of b.publisher (get_or b.numbers slot 0) parts.header parts.content mark
          → slice_get b.marks slot ≡ Some mark → ⊥
      by parts Unwritten is marks = absurd cc
      by parts Written is marks = absurd cc
      by parts Sent is marks = let no : false ≡ true = sym (ap (λ o. option_map_or is_lent o false) marks) ∙ lent in
          absurd cc

  lone : HasLoneLoans handed.books
  lone = lone-changed f.books x.book b (with_counters b holders) at sound.lone
      (λ slot before. by slot before (times slot (x.history).items) refl) where
        by : (slot : ℕ) → IsLoneIn b slot → (n : ℕ) → times slot (x.history).items ≡ n
            → IsLoneIn (with_counters b holders) slot
        by slot before zero e = lone-fewer b (with_counters b holders) slot refl
            (omega (arith, e, counters slot, times-last slot c.buffer (x.history).items)) before
        by slot before (suc n) e = λ loan. absurd (no-loan slot (omega (arith, e)) (still loan)) where
          still : is_loan_in (with_counters b holders) slot ≡ true → is_loan_in b slot ≡ true
          still loan =
              let parts = both-true (nat_lt 0 (get_or holders slot 0))
              (option_map_or is_lent (slice_get b.marks slot) false) loan in
              let used : 0 < holders_at b slot = remembered-in_use f sound i x here b at slot (omega (arith, e)) in
              let yes : nat_lt 0 (holders_at b slot) ≡ true = lt-ltb 0 (holders_at b slot) used in
              ap (λ t. t && option_map_or is_lent (slice_get b.marks slot) false) yes ∙ parts.1

  -- ---- the whole

  pub hands-out : IsWellFormed (with_history_waiting f x c) → HandsOut f x c handed
  hands-out well = record {
    agrees = whole_of handed (parts-recounted f sound x.id x.book b at mine holders connections recounts) lone
        (recounted-kept f sound x.id x.book b at mine holders connections recounts owned)
        (subst IsWellFormed (sym handed-is) well)
        (λ p n held.
        let old = sound.entries p n (held-before p n (subst (λ (t : State T U). IsHeldMessage t p n) handed-is held)) in (
          old.0,
          recounted-keeps f sound x.id x.book b at mine holders connections recounts p n old.0 held old.1,
          old.2,
        ));
    fields = refl;
    homes = recounts.homes;
    state = handed-is;
    entries = recounted-entries f sound x.id x.book b at mine holders connections recounts;
    places = recounted-places f sound x.id x.book b at mine holders connections recounts;
  }
