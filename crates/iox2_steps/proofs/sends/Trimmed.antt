-- A history that is one message too long loses its oldest.
use Rattle.std.proofs.Common.{◌≡◌, ℕ, ◌+◌, ◌-◌, ◌<◌, ◌≤◌, Bool, true, false, cond, List, [], ◌∷◌, ◌++◌, length, drop}
use Rattle.std.proofs.Common.{map, get_or, refl, ap, sym, subst, ◌∙◌, inl, inr, arith}
use Rattle.std.proofs.lemmas.Bool.{cases_eq, ltb-true, ltb-false}
use Rattle.std.proofs.lemmas.List.{set-get_or, length-set, length-append, length-map}
use Rattle.std.specs.Prelude.{slice_set, slice_get, nat_lt}
use Rattle.std.specs.declared.option.Option.{Option}
use Rattle.std.specs.declared.option.Option.TheVariants.{None, Some}
use Rattle.slab.specs.Slab.{Slab, get, with_value}
use Rattle.circular_buffer.specs.Buffer.{Buffer, buffer, keep_last}
use Rattle.iox2_slots.specs.SlotBook.{Book, holders_at}
use Rattle.iox2_machine.specs.machine.Numbers.{put_at, last_n}
use Rattle.iox2_machine.specs.machine.Records.{Entry, Loan, Publisher}
use Rattle.iox2_machine.specs.Stored.{IsHeldMessage}
use Rattle.iox2_connections.specs.Counters.{times, one_holder_less}
use Rattle.iox2_connections.proofs.Counts.{one_if, one_if_same, one_if_other, times-cons, get_or-one_holder_less}
use Rattle.iox2_connections.proofs.MailboxChanges.{put_at-own}
use Rattle.iox2_domain.specs.Ports.{PublisherFields}
use Rattle.iox2_domain.specs.Kept.{Lent_message, state_of, entries_of}
use Rattle.iox2_domain.specs.Fields.{Fields, kept_of, publisher_of, number_in_slot, contents_at}
use Rattle.iox2_domain.specs.Invariant.{HasNumber, HasLoneLoans, HasParts}
use Rattle.iox2_domain.specs.Deliveries.{with_left}
use Rattle.iox2_domain.proofs.lemmas.slots.Messages.{lies_at, message_in-parts, message_at-slot}
use Rattle.iox2_domain.proofs.lemmas.slots.PublisherBooks.{book-counts}
use Rattle.iox2_domain.proofs.lemmas.slots.LoneLoans.{lone-counters}
use Rattle.iox2_domain.proofs.lemmas.slots.Rebooked.{CanRebook, rebooked, rebooked-parts, rebooked-is, rebooked-entries}
use Rattle.iox2_domain.proofs.lemmas.slots.Rebooked.{rebooked-keeps, rebooked-number}
use Rattle.iox2_domain.proofs.lemmas.loans.PublisherChanges.{other_slots}

-- ---- lists

-- a list that fits is kept whole
pub last-short : {A : Type 0} (n : ℕ) (xs : List A) → length xs ≤ n → last_n n xs ≡ xs
last-short n xs le = let none : length xs - n ≡ 0 = omega arith in ap (λ (k : ℕ). drop k xs) none

-- one that is one too long loses its first
pub last-long : {A : Type 0} (n : ℕ) (x : A) (xs : List A) → length xs ≡ n → last_n n (x ∷ xs) ≡ xs
last-long n x xs is = let one : length (x ∷ xs) - n ≡ 1 = omega (arith, is) in ap (λ (k : ℕ). drop k (x ∷ xs)) one

-- a list with one more behind has a first
pub first-of : (xs : List ℕ) (y : ℕ) → (x : ℕ) × (rest : List ℕ) × (xs ++ y ∷ [] ≡ x ∷ rest) × (length rest ≡ length xs)
first-of [] y = (y, [], refl, refl)
first-of (x ∷ xs) y = (
  x,
  xs ++ y ∷ [],
  refl,
  let long : length (xs ++ y ∷ []) ≡ length xs + 1 = length-append xs (y ∷ []) in omega (arith, long),
)

-- ---- fields

-- These fields are the former with the history of the publisher p at most so long, and what it lost is held no more.
pub record Trims {T U : Type 0} (e h : Fields T U) (p size : ℕ) (port : Publisher) : Type 0 where
  pub parts : HasParts h
  pub lone : HasLoneLoans h.books
  pub state : state_of (kept_of h) ≡ record (state_of (kept_of e)) {
    publishers = put_at (state_of (kept_of e)).publishers p
        (Some (record port { history = last_n size port.history }));
  }
  pub entries : (n : ℕ) (entry : Entry T U) → entries_of (kept_of h) n ≡ Some entry
      → entries_of (kept_of e) n ≡ Some entry
  pub keeps : (q n : ℕ) (entry : Entry T U) → IsHeldMessage (state_of (kept_of h)) q n
      → entries_of (kept_of e) n ≡ Some entry → entries_of (kept_of h) n ≡ Some entry
  pub numbers : (k s m : ℕ) (has : HasNumber h.books k s m)
      → (old : HasNumber e.books k s m) × ((old.book).publisher ≡ (has.book).publisher)

module _ {T U : Type 0} (e : Fields T U) (parts : HasParts e) (i : ℕ) (z : PublisherFields)
    (here : get_or e.publishers i None ≡ Some z)
    (b : Book) (at : get e.books z.book ≡ Some b) (mine : b.publisher ≡ z.id) (lone : HasLoneLoans e.books)
    (stands : (state_of (kept_of e)).publishers z.id ≡ Some ((publisher_of e.books e.connections z).port))
    (items : List ℕ) (slot : ℕ) (capacity : ℕ) (long : z.history ≡ buffer (items ++ slot ∷ []) capacity)
    (few : length items ≤ capacity)
    (is_sent : (oldest n : ℕ) (l : Loan T U) → slice_get (items ++ slot ∷ []) 0 ≡ Some oldest
    → lies_at e z.book oldest ≡ Some (Lent_message n l) → ⊥) where
  abbrev port : Publisher
  port = (publisher_of e.books e.connections z).port

  -- with this slot gone
  abbrev pub trimmed : Option ℕ → Fields T U
  trimmed gone = record e {
    publishers = slice_set e.publishers i
        (Some (record z { history = buffer (keep_last capacity (items ++ slot ∷ [])) capacity }));
    books = with_value e.books z.book (with_left gone b);
  }

  all : z.history.items ≡ items ++ slot ∷ []
  all = ap (λ (h : Buffer ℕ). h.items) long

  one-more : length (items ++ slot ∷ []) ≡ length items + 1
  one-more = length-append items (slot ∷ [])

  -- nothing is lost
  whole : length items < capacity → trimmed None ≡ e
  whole low = λ t. record e { publishers = publishers t; books = books t } where
    short : keep_last capacity (items ++ slot ∷ []) ≡ items ++ slot ∷ []
    short = last-short capacity (items ++ slot ∷ []) (omega (arith, one-more))

    publishers : slice_set e.publishers i
        (Some (record z { history = buffer (keep_last capacity (items ++ slot ∷ [])) capacity })) ≡ e.publishers
    publishers =
        (λ t. slice_set e.publishers i (Some (record z { history = buffer (short t) capacity })))
        ∙ (λ t. slice_set e.publishers i (Some (record z { history = sym long t })))
        ∙ ap (slice_set e.publishers i) (sym here) ∙ set-get_or e.publishers i None

    books : with_value e.books z.book b ≡ e.books
    books = ap (λ (slots : List (Option Book)). let slab : Slab Book = record e.books { slots = slots } in slab)
        (ap (slice_set e.books.slots z.book) (sym at) ∙ set-get_or e.books.slots z.book None)

  kept : length items < capacity → Trims e e z.id capacity port
  kept low = record {
    parts = parts;
    lone = lone;
    state = λ t. record (state_of (kept_of e)) { publishers = publishers t };
    entries = λ n entry h. h;
    keeps = λ q n entry held h. h;
    numbers = λ k s m has. (has, refl);
  } where
    same : last_n capacity port.history ≡ port.history
    same = last-short capacity port.history
        (let size : length port.history ≡ length z.history.items = length-map z.history.items
        (number_in_slot e.books z.id) in omega (arith, size, ap (length {A = ℕ}) all, one-more))

    publishers : (state_of (kept_of e)).publishers ≡ put_at (state_of (kept_of e)).publishers z.id
        (Some (record port { history = last_n capacity port.history }))
    publishers =
        put_at-own (state_of (kept_of e)).publishers z.id
        ∙ ap (put_at (state_of (kept_of e)).publishers z.id) stands
        ∙ (λ t. put_at (state_of (kept_of e)).publishers z.id (Some (record port { history = sym same t })))

  -- the oldest is lost
  module _ (full : length items ≡ capacity) (oldest : ℕ) (rest : List ℕ) (split : items ++ slot ∷ [] ≡ oldest ∷ rest)
      (size : length rest ≡ length items) where
    abbrev shorter : PublisherFields
    shorter = record z { history = buffer rest (z.history).capacity }

    abbrev holders : List ℕ
    holders = one_holder_less oldest b.holders

    -- how often a slot stands in the history
    counts : (s : ℕ) → times s (z.history).items ≡ one_if s oldest + times s rest
    counts s = ap (times s) (all ∙ split) ∙ times-cons s oldest rest

    oldest-in_use : 0 < holders_at b oldest
    oldest-in_use = omega (arith, book-counts e parts i z here b at oldest, counts oldest, one_if_same oldest)

    less : (s : ℕ) → get_or holders s 0 + one_if s oldest ≡ holders_at b s
    less s = get_or-one_holder_less b.holders oldest s oldest-in_use

    can-lose : CanRebook e z shorter b holders
    can-lose = record {
      settings = other_slots z z.loans rest z.blocked;
      keys = refl;
      lends = λ has. has;
      unwritten = λ s marked out. out;
      slots = length-set b.holders oldest _;
      used = λ s some. omega (arith, some, less s);
      counts = λ s. omega (arith, counts s, less s);
      lent = λ s n l none lies. elim (cases_eq s oldest) [
        | inl same ↦ is_sent oldest n l (ap (λ (xs : List ℕ). slice_get xs 0) split)
            (ap (λ k. lies_at e z.book k) (sym same) ∙ lies)
        | inr away ↦
            let used : 0 < holders_at b s =
            (message_in-parts b (contents_at e.contents z.book) s (Lent_message n l)
            (sym (message_at-slot e.contents e.books z.book s b at) ∙ lies)).in_use in
            absurd (omega (arith, used, none, less s, one_if_other s oldest away))
      ];
    }

    abbrev less_one : Fields T U
    less_one = rebooked e i z shorter b holders

    rest-is : keep_last capacity (items ++ slot ∷ []) ≡ rest
    rest-is = ap (last_n capacity) split ∙ last-long capacity oldest rest (size ∙ full)

    shorter-is : trimmed (Some oldest) ≡ less_one
    shorter-is =
        (λ t. record (trimmed (Some oldest))
        { publishers = slice_set e.publishers i (Some (record z { history = buffer (rest-is t) capacity })) })
        ∙ (λ t. record (trimmed (Some oldest)) {
          publishers = slice_set e.publishers i
              (Some (record z { history = buffer rest (ap (λ (h : Buffer ℕ). h.capacity) (sym long) t) }));
        })

    lost : Trims e less_one z.id capacity port
    lost = record {
      parts = rebooked-parts e parts i z shorter here b at mine holders can-lose;
      lone = lone-counters e.books z.book b holders at lone (λ s. omega (arith, less s));
      state =
          rebooked-is e parts i z shorter here b at mine holders can-lose
          ∙ (λ t. record (state_of (kept_of e)) {
            publishers = put_at (state_of (kept_of e)).publishers z.id
                (Some (record port { history = sym numbers-left t }));
          });
      entries = rebooked-entries e parts i z shorter here b at mine holders can-lose;
      keeps = rebooked-keeps e parts i z shorter here b at mine holders can-lose;
      numbers = rebooked-number e parts i z shorter here b at mine holders can-lose;
    } where
      numbers-left : last_n capacity port.history ≡ map (number_in_slot e.books z.id) rest
      numbers-left =
          ap (λ (xs : List ℕ). last_n capacity (map (number_in_slot e.books z.id) xs)) (all ∙ split)
          ∙ last-long capacity (number_in_slot e.books z.id oldest) (map (number_in_slot e.books z.id) rest)
          (length-map rest (number_in_slot e.books z.id) ∙ size ∙ full)

  -- the history is at most as long as it may be
  pub trims : (h : Fields T U) → h ≡ trimmed
      (cond (nat_lt (length items) capacity) None (slice_get (items ++ slot ∷ []) 0)) → Trims e h z.id capacity port
  trims h is = by (nat_lt (length items) capacity) refl is where
    by : (t : Bool) → nat_lt (length items) capacity ≡ t → h ≡ trimmed (cond t None (slice_get (items ++ slot ∷ []) 0))
        → Trims e h z.id capacity port
    by true low same =
        let lt : length items < capacity = ltb-true (length items) capacity low in
        subst (λ (g : Fields T U). Trims e g z.id capacity port) (sym (same ∙ whole lt)) (kept lt)
    by false past same =
        let le : capacity ≤ length items = ltb-false (length items) capacity past in
        let f = first-of items slot in
        let full : length items ≡ capacity = omega (arith, le, few) in
        subst (λ (g : Fields T U). Trims e g z.id capacity port)
        (sym (same ∙ ap (λ (xs : List ℕ). trimmed (slice_get xs 0)) f.2 ∙ shorter-is full f.0 f.1 f.2 f.3))
        (lost full f.0 f.1 f.2 f.3)
