-- Where the loans of a publisher lie.
use Rattle.std.proofs.Common.{◌≡◌, ℕ, zero, suc, ◌+◌, ◌<◌, List, [], ◌∷◌, length, map, Bool, MatchOption, not, eqb}
use Rattle.std.proofs.Common.{true, false, get_or, refl, ap, sym, subst, ◌∙◌, arith, inl, inr}
use Rattle.std.proofs.lemmas.Bool.{eqb-true, true≢false}
use Rattle.std.specs.Prelude.{slice_get, slice_index, is_some}
use Rattle.std.proofs.lemmas.List.{get_or_default}
use Rattle.std.specs.declared.option.Option.{Option}
use Rattle.std.specs.declared.option.Option.TheVariants.{None, Some}
use Rattle.std.specs.Option.{option_map_or}
use Rattle.slab.specs.Slab.{get, ContainsKey}
use Rattle.iox2_machine.specs.machine.Numbers.{contains}
use Rattle.iox2_machine.specs.machine.SingleCalls.{HoldsLoan}
use Rattle.iox2_slots.specs.SlotBook.{Book, IsUsedFor, holders_at}
use Rattle.iox2_contents.specs.SlotContents.{ContentState}
use Rattle.iox2_machine.specs.machine.Records.{Loan}
use Rattle.iox2_slots.specs.declared.slots.mark.SlotMark.{SlotMark}
use Rattle.iox2_slots.specs.declared.slots.mark.SlotMark.TheVariants.{Unwritten, Written, Sent}
use Rattle.iox2_connections.specs.Counters.{times, stands}
use Rattle.iox2_connections.proofs.Counts.{one_if, one_if_same, times-cons}
use Rattle.iox2_laws.proofs.NumberLemmas.{contains_in_cons}
use Rattle.iox2_connections.proofs.MailboxChanges.{within_if_some}
use Rattle.iox2_domain.specs.declared.message_slots.MessageSlot.{MessageSlot}
use Rattle.iox2_domain.specs.Ports.{PublisherFields}
use Rattle.iox2_domain.specs.Kept.{KeptMessage, Lent_message, Sent_message, state_of}
use Rattle.iox2_domain.specs.Fields.{Fields, kept_of, publisher_of, number_in_slot, message_of, message_in, contents_at}
use Rattle.iox2_domain.specs.Invariant.{IsDomain, is_lent}
use Rattle.iox2_domain.specs.LoanSlots.{IsLoanSlot, IsInNoSlot, HasNoLoan, LendsAt, LiesInSlot}
use Rattle.iox2_domain.proofs.lemmas.fields.ConnectionEnds.{publisher-stands}
use Rattle.iox2_domain.proofs.lemmas.slots.Messages.{LiesIn, message_in-parts, held-message, message_at-book}
use Rattle.iox2_domain.proofs.lemmas.slots.Messages.{message_at-slot, in_use_within, loan-there, loan-found}
use Rattle.iox2_domain.proofs.lemmas.slots.Holders.{book-by_id}
use Rattle.iox2_domain.proofs.lemmas.slots.PublisherBooks.{book-counts}

module _ {T U : Type 0} where
  -- the message in a slot in which a loan lies is that loan
  pub lent-loan : (b : Book) (contents : List (ContentState T U)) (slot n : ℕ) (m : KeptMessage T U)
      → LiesIn b contents slot m → IsLoanSlot b slot n
      → (l : Loan T U) × (m ≡ Lent_message n l)
  lent-loan b contents slot n m lies is = by lies.mark refl where
    by : (mark : SlotMark) → lies.mark ≡ mark → (l : Loan T U) × (m ≡ Lent_message n l)
    by Unwritten e = (
      _,
      lies.is ∙ ap (message_of b.publisher (slice_index b.numbers slot) lies.header lies.content) e
          ∙ ap (λ (k : ℕ). message_of b.publisher k lies.header lies.content Unwritten) is.numbered,
    )
    by Written e = (
      _,
      lies.is ∙ ap (message_of b.publisher (slice_index b.numbers slot) lies.header lies.content) e
          ∙ ap (λ (k : ℕ). message_of b.publisher k lies.header lies.content Written) is.numbered,
    )
    by Sent e = absurd
        (let no : false ≡ true = sym (ap (λ o. option_map_or is_lent o false) (lies.marks ∙ ap Some e)) ∙ is.lent in cc)

  -- whose slot it is
  abbrev lender : KeptMessage T U → ℕ
  lender (Lent_message number l) = l.publisher
  lender (Sent_message number entry) = 0

  -- and back
  pub loan-lent : (b : Book) (contents : List (ContentState T U)) (slot n : ℕ) (l : Loan T U)
      → LiesIn b contents slot (Lent_message n l)
      → (IsLoanSlot b slot n) × (b.publisher ≡ l.publisher)
  loan-lent b contents slot n l lies = by lies.mark lies.marks lies.is where
    by : (mark : SlotMark) → slice_get b.marks slot ≡ Some mark
        → Lent_message n l ≡ message_of b.publisher (slice_index b.numbers slot) lies.header lies.content mark
        → (IsLoanSlot b slot n) × (b.publisher ≡ l.publisher)
    by Unwritten at e = (
      record {
        in_bounds = in_use_within b contents slot lies.in_use;
        in_use = lies.in_use;
        lent = ap (λ o. option_map_or is_lent o false) at;
        numbered = cc;
      },
      sym (ap lender e),
    )
    by Written at e = (
      record {
        in_bounds = in_use_within b contents slot lies.in_use;
        in_use = lies.in_use;
        lent = ap (λ o. option_map_or is_lent o false) at;
        numbered = cc;
      },
      sym (ap lender e),
    )
    by Sent at e = absurd cc

-- ---- lists of slots

mapped-there : (g : ℕ → ℕ) (xs : List ℕ) (n : ℕ) → contains (map g xs) n ≡ true
    → (j : ℕ) × (j < length xs) × (g (slice_index xs j) ≡ n)
mapped-there g [] n e = absurd cc
mapped-there g (x ∷ xs) n e = elim (contains_in_cons (g x) n (map g xs) e) [
  | inl here ↦ (zero, omega arith, here)
  | inr later ↦ let rest = mapped-there g xs n later in (suc rest.0, omega (arith, rest.1), rest.2)
]

times-some : (xs : List ℕ) (j : ℕ) → j < length xs → 0 < times (slice_index xs j) xs
times-some [] j lt = absurd (omega arith)
times-some (x ∷ xs) zero lt = let one : one_if x x ≡ 1 = one_if_same x in
    let all : times x (x ∷ xs) ≡ one_if x x + times x xs = times-cons x x xs in omega arith
times-some (x ∷ xs) (suc j) lt =
    let rest : 0 < times (slice_index xs j) xs = times-some xs j (omega arith) in
    let all : times (slice_index xs j) (x ∷ xs) ≡ one_if (slice_index xs j) x + times (slice_index xs j) xs =
    times-cons (slice_index xs j) x xs in
    omega arith

-- ---- the slots of a publisher's loans

module _ {T U : Type 0} (f : Fields T U) (sound : IsDomain f) where
  -- the number of a slot in the book at the key
  pub number-at : (key slot : ℕ) (b : Book) → get f.books key ≡ Some b
      → number_in_slot f.books b.publisher slot ≡ slice_index b.numbers slot
  number-at key slot b stands =
      ap (λ o. option_map_or (λ (c : Book). slice_index c.numbers slot) o 0)
      (book-by_id f.books key b.publisher b (sound.parts.books.one_each b.publisher) stands refl)

  -- a publisher's book is its own
  pub book-its : (i : ℕ) (x : PublisherFields) (b : Book) → get_or f.publishers i None ≡ Some x
      → get f.books x.book ≡ Some b → b.publisher ≡ x.id
  book-its i x b at here =
      let has = sound.parts.books.publishers i x at in
      let books : Some b ≡ Some has.book = sym here ∙ has.stands in
      let book : b ≡ has.book = cc in
      ap (λ (c : Book). c.publisher) book ∙ has.is_its

  -- a slot that stands among a publisher's loans is in use
  pub loans-in_use : (i j : ℕ) (x : PublisherFields) (b : Book) → get_or f.publishers i None ≡ Some x
      → get f.books x.book ≡ Some b → b.publisher ≡ x.id → j < length x.loans
      → 0 < holders_at b (slice_index x.loans j)
  loans-in_use i j x b at here its lt =
      let slot : ℕ = slice_index x.loans j in
      let some : 0 < times slot x.loans = times-some x.loans j lt in
      omega (arith, some, book-counts f sound.parts i x at b here slot)

  -- a loan that is out lies in some slot of its publisher
  pub loan-lies : (p n : ℕ) → HoldsLoan (state_of (kept_of f)) p n
      → (key slot : ℕ) × (b : Book) × (get f.books key ≡ Some b) × (b.publisher ≡ p) × (IsLoanSlot b slot n)
  loan-lies p n live =
      let there = loan-there f n live.0 live.1 in
      let book = message_at-book f.contents f.books there.0 there.1 (Lent_message n live.0) there.2 in
      let parts = loan-lent book.0 (contents_at f.contents there.0) there.1 n live.0
      (message_in-parts book.0 (contents_at f.contents there.0) there.1 (Lent_message n live.0) book.2) in
      (there.0, there.1, book.0, book.1, parts.1 ∙ live.2, parts.0)

  -- a loan that is out lies in the book of its publisher, whether that stands or is gone
  pub lent-nowhere : (p n : ℕ) → ((key : ℕ) → key < length f.books.slots → LendsAt f key p n → ⊥)
      → HoldsLoan (state_of (kept_of f)) p n → ⊥
  lent-nowhere p n none live =
      let lies = loan-lies p n live in
      none lies.0 (within_if_some f.books.slots lies.0 lies.2 lies.3)
      (record { book = lies.2; stands = lies.3; is_its = lies.4; slot = lies.1; loan_slot = lies.5 })

  -- a loan that is out lies in a slot among its publisher's loans
  pub no-slot-no-loan : (i : ℕ) (x : PublisherFields) (b : Book) (n : ℕ) → get_or f.publishers i None ≡ Some x
      → get f.books x.book ≡ Some b → IsInNoSlot b x.loans n
      → HoldsLoan (state_of (kept_of f)) x.id n → ⊥
  no-slot-no-loan i x b n at here none live =
      let its : b.publisher ≡ x.id = book-its i x b at here in
      let lies = loan-lies x.id n live in
      let out = ((sound.well_formed.loans n live.0 live.1).is_out ((publisher_of f.books f.connections x).port)
      (ap (state_of (kept_of f)).publishers live.2 ∙ publisher-stands f sound.parts i x at)).0 in
      let there = mapped-there (number_in_slot f.books x.id) x.loans n out in
      let slot : ℕ = slice_index x.loans there.0 in
      let number : slice_index b.numbers slot ≡ n =
      sym (number-at x.book slot b here) ∙ ap (λ p. number_in_slot f.books p slot) its ∙ there.2 in
      let same = sound.parts.numbered.one lies.0 x.book lies.1 slot n
      (record { book = lies.2; stands = lies.3; in_use = lies.5.in_use; number = lies.5.numbered })
      (record { book = b; stands = here; in_use = loans-in_use i there.0 x b at here its there.1; number = number }) in
      let books : Some lies.2 ≡ Some b = sym lies.3 ∙ ap (λ (key : ℕ). get f.books key) same.0 ∙ here in
      let book : lies.2 ≡ b = cc in
      none there.0 there.1
      (subst (λ (k : ℕ). IsLoanSlot b k n) same.1 (subst (λ (c : Book). IsLoanSlot c lies.1 n) book lies.5))

  -- a slot of a book in which a loan lies
  pub lies-in-book : (key slot n : ℕ) (b : Book) → get f.books key ≡ Some b → IsLoanSlot b slot n
      → LiesInSlot f b.publisher n key slot
  lies-in-book key slot n b here is =
      let found = held-message f.contents f.books key slot n (λ c at_c. sound.parts.books.books key c at_c)
      (record { book = b; stands = here; in_use = is.in_use; number = is.numbered }) in
      let lies : message_in b (contents_at f.contents key) slot ≡ Some found.0 =
      sym (message_at-slot f.contents f.books key slot b here) ∙ found.1 in
      let loan = lent-loan b (contents_at f.contents key) slot n found.0
      (message_in-parts b (contents_at f.contents key) slot found.0 lies) is in
      record {
        book = b;
        stands = here;
        is_its = refl;
        loan_slot = is;
        loan = loan.0;
        lies = lies ∙ ap Some loan.1;
        is_out = loan-found f sound.parts.numbered key slot n loan.0 (found.1 ∙ ap Some loan.1);
      }

  -- a slot of a publisher that stands, in which a loan lies
  pub lies-in-slot : (i : ℕ) (x : PublisherFields) (b : Book) (slot n : ℕ) → get_or f.publishers i None ≡ Some x
      → get f.books x.book ≡ Some b → IsLoanSlot b slot n
      → LiesInSlot f x.id n x.book slot
  lies-in-slot i x b slot n at here is =
      subst (λ (q : ℕ). LiesInSlot f q n x.book slot) (book-its i x b at here) (lies-in-book x.book slot n b here is)

  -- a live loan lies in any slot in use that has its number
  pub live-lies : (p n : ℕ) → HoldsLoan (state_of (kept_of f)) p n → (key slot : ℕ) (b : Book)
      → get f.books key ≡ Some b → IsUsedFor b n slot → LiesInSlot f p n key slot
  live-lies p n live key slot b at used =
      let lies = loan-lies p n live in
      let same = sound.parts.numbered.one lies.0 key lies.1 slot n
      (record { book = lies.2; stands = lies.3; in_use = lies.5.in_use; number = lies.5.numbered })
      (record { book = b; stands = at; in_use = used.in_use; number = used.number_is }) in
      subst (λ (s : ℕ). LiesInSlot f p n key s) same.1
      (subst (λ (k : ℕ). LiesInSlot f p n k lies.1) same.0
      (subst (λ (q : ℕ). LiesInSlot f q n lies.0 lies.1) lies.4 (lies-in-book lies.0 lies.1 n lies.2 lies.3 lies.5)))

-- what doesn't differ is the same
pub equal-unless : (a b : ℕ) (differ : Bool) → differ ≡ not (eqb a b) → differ ≡ false → a ≡ b
equal-unless a b differ is none = by (eqb a b) refl (sym is ∙ none) where
  by : (same : Bool) → eqb a b ≡ same → not same ≡ false → a ≡ b
  by true e h = eqb-true a b e
  by false e h = absurd cc

-- where nothing was found in a book, the loan doesn't lie there
pub not-lent-there : {T U : Type 0} (f : Fields T U) (key p n : ℕ) (o : Option MessageSlot)
    → MatchOption o (LendsAt f key p n → ⊥) (λ at. LiesInSlot f p n at.book at.slot)
    → (r : Bool) → r ≡ is_some o → r ≡ false → LendsAt f key p n → ⊥
not-lent-there f key p n None none r is missed = none
not-lent-there f key p n (Some at) lies r is missed = absurd (true≢false (sym is ∙ missed))

-- nor does it lie in a book that is another's, or has no loan with its number
pub none-lent-there : {T U : Type 0} (f : Fields T U) (key p n : ℕ) (b : Book) → get f.books key ≡ Some b
    → (b.publisher ≡ p → HasNoLoan b n) → LendsAt f key p n → ⊥
none-lent-there f key p n b at none lends =
    let both : Some b ≡ Some lends.book = sym at ∙ lends.stands in
    let is : b ≡ lends.book = cc in
    none (ap (λ (c : Book). c.publisher) is ∙ lends.is_its) lends.slot
    (subst (λ (c : Book). IsLoanSlot c lends.slot n) (sym is) lends.loan_slot)

-- nor where no book is
pub no-book-lends : {T U : Type 0} (f : Fields T U) (key p n : ℕ) → get f.books key ≡ None → LendsAt f key p n → ⊥
no-book-lends f key p n none lends = let no : None ≡ Some lends.book = sym none ∙ lends.stands in absurd cc

-- ---- what a search reads

module _ {T U : Type 0} (f v : Fields T U) (view : v ≡ f) (place p : ℕ)
    (found : (x : PublisherFields) × (get_or f.publishers place None ≡ Some x) × (x.id ≡ p))
    (o : Option PublisherFields) (read : o ≡ get_or v.publishers place o) (y : PublisherFields) (is : o ≡ Some y)
    (w : PublisherFields) (same : w ≡ y) where
  -- the record that is read at the publisher's place is the publisher's
  pub publisher-read : (get_or f.publishers place None ≡ Some w) × (w.id ≡ p)
  publisher-read = (at, ap (λ (z : PublisherFields). z.id) (same ∙ sym it) ∙ found.2) where
    here : get_or v.publishers place None ≡ Some found.0
    here = ap (λ (g : Fields T U). get_or g.publishers place None) view ∙ found.1

    low : (xs : List (Option PublisherFields)) (i : ℕ) (x : PublisherFields) → get_or xs i None ≡ Some x → i < length xs
    low [] zero x e = absurd cc
    low [] (suc i) x e = absurd cc
    low (z ∷ xs) zero x e = omega arith
    low (z ∷ xs) (suc i) x e = let rest = low xs i x e in omega arith

    it : found.0 ≡ y
    it = let both : Some found.0 ≡ Some y = sym here
        ∙ get_or_default v.publishers place None o (low v.publishers place found.0 here) ∙ sym read ∙ is in cc

    at : get_or f.publishers place None ≡ Some w
    at = found.1 ∙ ap Some (it ∙ sym same)

  module _ (sound : IsDomain f) where
    -- its book is there
    pub book-read : ContainsKey v.books w.book
    book-read =
        let has = sound.parts.books.publishers place w publisher-read.0 in
        ap is_some (ap (λ (g : Fields T U). get g.books w.book) view ∙ has.stands)

    module _ (n : ℕ) (b : Book) (at_b : get v.books w.book ≡ Some b) where
      there_is : get f.books w.book ≡ Some b
      there_is = sym (ap (λ (g : Fields T U). get g.books w.book) view) ∙ at_b

      -- where no slot of its loans has the number, it has no such loan
      pub nothing-read : (slots : List ℕ) → slots ≡ w.loans → IsInNoSlot b slots n
          → HoldsLoan (state_of (kept_of f)) p n → ⊥
      nothing-read slots e none =
          subst (λ (q : ℕ). HoldsLoan (state_of (kept_of f)) q n → ⊥) publisher-read.1
          (no-slot-no-loan f sound place w b n publisher-read.0 there_is (subst (λ ss. IsInNoSlot b ss n) e none))

      -- the slot in which it lies
      pub slot-read : (slot : ℕ) → IsLoanSlot b slot n → LiesInSlot f p n w.book slot
      slot-read slot is_slot =
          subst (λ (q : ℕ). LiesInSlot f q n w.book slot) publisher-read.1
          (lies-in-slot f sound place w b slot n publisher-read.0 there_is is_slot)
