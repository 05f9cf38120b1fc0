-- A loan becomes a message: what lies in its slot, and in all others.
use Rattle.std.proofs.Common.{◌≡◌, ◌≢◌, ℕ, ◌+◌, ◌<◌, Bool, true, false, cond, not, eqb, List, [], ◌∷◌, length, map}
use Rattle.std.proofs.Common.{refl, ap, sym, ◌∙◌, inl, inr, arith}
use Rattle.std.proofs.lemmas.Bool.{cases_eq, ne_eqb, eq-eqb}
use Rattle.std.specs.declared.option.Option.{Option}
use Rattle.std.specs.declared.option.Option.TheVariants.{Some}
use Rattle.std.specs.List.{filter_map}
use Rattle.std.specs.Prelude.{slice_get, slice_index}
use Rattle.circular_buffer.proofs.Places.{slice_get-set_same, slice_get-set_other}
use Rattle.iox2_machine.specs.machine.Loans.{entry_of}
use Rattle.iox2_slots.specs.SlotBook.{Book, holders_at}
use Rattle.iox2_contents.specs.SlotContents.{ContentState}
use Rattle.iox2_machine.specs.machine.Numbers.{without}
use Rattle.iox2_machine.specs.machine.Records.{Loan}
use Rattle.iox2_machine.specs.declared.header.Header.{Header}
use Rattle.iox2_slots.specs.declared.slots.mark.SlotMark.{SlotMark}
use Rattle.iox2_slots.specs.declared.slots.mark.SlotMark.TheVariants.{Unwritten, Written, Sent}
use Rattle.iox2_connections.specs.Counters.{times}
use Rattle.iox2_connections.proofs.Counts.{one_if, times-cons, one_if_same, one_if_other}
use Rattle.iox2_domain.specs.Kept.{KeptMessage, Lent_message, Sent_message}
use Rattle.iox2_domain.specs.Fields.{message_of, message_in}
use Rattle.iox2_domain.specs.Deliveries.{with_sent}
use Rattle.iox2_domain.proofs.lemmas.slots.Messages.{LiesIn, message_in-parts, message_in-from}
use Rattle.iox2_domain.proofs.lemmas.slots.BookChanges.{KeepsSlots}

-- ---- lists of slots

-- a slot that is taken out doesn't stand there, and the others do as often as before
times-without : (s slot : ℕ) (slots : List ℕ)
    → times s (without slot slots) + cond (eqb s slot) (times slot slots) 0 ≡ times s slots
times-without s slot [] = by (eqb s slot) where
  by : (t : Bool) → 0 + cond {A = ℕ} t 0 0 ≡ 0
  by true = refl
  by false = refl
times-without s slot (x ∷ xs) = elim (cases_eq x slot) [
  | inl same ↦ out same (times-without s slot xs)
  | inr away ↦ stays away (times-without s slot xs)
] where
  out : x ≡ slot → times s (without slot xs) + cond (eqb s slot) (times slot xs) 0 ≡ times s xs
      → times s (without slot (x ∷ xs)) + cond (eqb s slot) (times slot (x ∷ xs)) 0 ≡ times s (x ∷ xs)
  out same rest =
      let gone : times s (without slot (x ∷ xs)) ≡ times s (without slot xs) =
      ap (λ (t : Bool). times s (cond (not t) (x ∷ without slot xs) (without slot xs))) (eq-eqb x slot same) in
      elim (cases_eq s slot) [
        | inl is ↦
            let yes : eqb s slot ≡ true = eq-eqb s slot is in
            let part : times s (without slot xs) + times slot xs ≡ times s xs =
            ap (λ (t : Bool). times s (without slot xs) + cond t (times slot xs) 0) (sym yes) ∙ rest in
            ap (λ (t : Bool). times s (without slot (x ∷ xs)) + cond t (times slot (x ∷ xs)) 0) yes
            ∙ omega (arith, gone, part, times-cons s x xs, times-cons slot x xs, alike is)
        | inr differs ↦
            let no : eqb s slot ≡ false = ne_eqb s slot differs in
            let part : times s (without slot xs) + 0 ≡ times s xs =
            ap (λ (t : Bool). times s (without slot xs) + cond t (times slot xs) 0) (sym no) ∙ rest in
            ap (λ (t : Bool). times s (without slot (x ∷ xs)) + cond t (times slot (x ∷ xs)) 0) no
            ∙ omega (arith, gone, part, times-cons s x xs, one_if_other s x (λ e. differs (e ∙ same)))
      ]
    where
      alike : s ≡ slot → one_if s x ≡ one_if slot x
      alike e = ap (λ (k : ℕ). one_if k x) e

  stays : x ≢ slot → times s (without slot xs) + cond (eqb s slot) (times slot xs) 0 ≡ times s xs
      → times s (without slot (x ∷ xs)) + cond (eqb s slot) (times slot (x ∷ xs)) 0 ≡ times s (x ∷ xs)
  stays away rest =
      let kept : times s (without slot (x ∷ xs)) ≡ one_if s x + times s (without slot xs) =
      ap (λ (t : Bool). times s (cond (not t) (x ∷ without slot xs) (without slot xs))) (ne_eqb x slot away)
      ∙ times-cons s x (without slot xs) in
      let there : times slot (x ∷ xs) ≡ times slot xs = let e = times-cons slot x xs in
      let z = one_if_other slot x (λ e. away (sym e)) in omega arith in
      ap (λ (k : ℕ). times s (without slot (x ∷ xs)) + cond (eqb s slot) k 0) there
      ∙ omega (arith, kept, rest, times-cons s x xs)

-- where it stood once it is one less
pub times-without-one : (s slot : ℕ) (slots : List ℕ) → times slot slots ≡ 1
    → times s (without slot slots) + one_if s slot ≡ times s slots
times-without-one s slot slots once = elim (cases_eq s slot) [
  | inl same ↦
      let e : times s (without slot slots) + times slot slots ≡ times s slots =
      sym (ap (λ t. times s (without slot slots) + cond t (times slot slots) 0) (eq-eqb s slot same))
      ∙ times-without s slot slots in
      omega (arith, e, once, ap (λ (k : ℕ). one_if k slot) same, one_if_same slot)
  | inr away ↦
      let e : times s (without slot slots) + 0 ≡ times s slots =
      sym (ap (λ t. times s (without slot slots) + cond t (times slot slots) 0) (ne_eqb s slot away))
      ∙ times-without s slot slots in
      omega (arith, e, one_if_other s slot away)
]

-- numbers of the other slots are the other numbers, where no other slot has the number
pub map-without : (number : ℕ → ℕ) (slot n : ℕ) → number slot ≡ n → (slots : List ℕ)
    → ((s : ℕ) → 0 < times s slots → number s ≡ n → s ≡ slot)
    → map number (without slot slots) ≡ without n (map number slots)
map-without number slot n is [] only = refl
map-without number slot n is (x ∷ xs) only = by (eqb x slot) (eqb (number x) n) same
    (map-without number slot n is xs (λ s some at. only s (omega (arith, times-cons s x xs, some)) at)) where
      same : eqb x slot ≡ eqb (number x) n
      same = elim (cases_eq x slot) [
        | inl e ↦ eq-eqb x slot e ∙ sym (eq-eqb (number x) n (ap number e ∙ is))
        | inr away ↦ ne_eqb x slot away
            ∙ sym (ne_eqb (number x) n (λ at. away (only x (omega (arith, times-cons x x xs, one_if_same x)) at)))
      ]

      by : (a b : Bool) → a ≡ b → map number (without slot xs) ≡ without n (map number xs)
          → map number (cond (not a) (x ∷ without slot xs) (without slot xs)) ≡ cond (not b)
          (number x ∷ without n (map number xs)) (without n (map number xs))
      by true b e rest =
          rest ∙ ap (λ t. cond (not t) (number x ∷ without n (map number xs)) (without n (map number xs))) e
      by false b e rest = ap (λ ns. number x ∷ ns) rest
          ∙ ap (λ t. cond (not t) (number x ∷ without n (map number xs)) (without n (map number xs))) e

-- the values of cells that are all written
pub values-of : {T : Type 0} (values : List T) → filter_map (λ (cell : Option T). cell) (map Some values) ≡ values
values-of [] = refl
values-of (v ∷ vs) = ap (λ ws. v ∷ ws) (values-of vs)

-- ---- one book

module _ (b : Book) (slot : ℕ) where
  -- the slots keep their numbers
  pub sent-keeps : KeepsSlots b (with_sent slot b)
  sent-keeps = record { publisher = refl; node = refl; numbers = refl; slots = refl }

module _ {T U : Type 0} (b : Book) (slot : ℕ) (contents : List (ContentState T U)) where
  -- in each other slot lies what lay there
  pub sent-others : (s : ℕ) → s ≢ slot → message_in (with_sent slot b) contents s ≡ message_in b contents s
  sent-others s away = by (slice_get-set_other b.marks slot s Sent away) where
    by : slice_get (with_sent slot b).marks s ≡ slice_get b.marks s
        → message_in (with_sent slot b) contents s ≡ message_in b contents s
    by marks = rw marks refl

  -- a written loan has these parts
  pub record LiesWritten (n : ℕ) (l : Loan T U) : Type 0 where
    pub header : Header
    pub content : ContentState T U
    pub headers : slice_get b.headers slot ≡ Some header
    pub contains : slice_get contents slot ≡ Some content
    pub number : slice_index b.numbers slot ≡ n
    pub loan : l ≡ record {
      publisher = b.publisher;
      header = header;
      user_header = content.user_header;
      cells = map Some content.values;
      is_written = true;
    }

  pub written-loan : (n : ℕ) (l : Loan T U) → l.is_written ≡ true → message_in b contents slot ≡ Some (Lent_message n l)
      → LiesWritten n l
  written-loan n l written e = by lies.mark lies.is where
    lies : LiesIn b contents slot (Lent_message n l)
    lies = message_in-parts b contents slot (Lent_message n l) e

    loan_or : Loan T U → KeptMessage T U → Loan T U
    loan_or none (Lent_message number loan) = loan
    loan_or none (Sent_message number entry) = none

    number_in : KeptMessage T U → ℕ
    number_in (Lent_message number loan) = number
    number_in (Sent_message number entry) = number

    by : (mark : SlotMark) → Lent_message n l ≡ message_of b.publisher
        (slice_index b.numbers slot) lies.header lies.content mark → LiesWritten n l
    by Unwritten is = absurd (let no : l.is_written ≡ false = ap (λ m. (loan_or l m).is_written) is in
        let clash : true ≡ false = sym written ∙ no in cc)
    by Written is = record {
      header = lies.header;
      content = lies.content;
      headers = lies.headers;
      contains = lies.contains;
      number = sym (ap number_in is);
      loan = ap (loan_or l) is;
    }
    by Sent is = absurd cc

  module _ (n : ℕ) (l : Loan T U) (w : LiesWritten n l) where
    -- its entry
    entry-is : record { header = w.header; user_header = (w.content).user_header; values = (w.content).values }
        ≡ entry_of l
    entry-is =
        ap (λ (values : List T). record { header = w.header; user_header = (w.content).user_header; values = values })
        (sym (values-of (w.content).values))
        ∙ ap entry_of (sym w.loan)

    -- it lies there as a message, where somebody holds it
    pub sent-lies : slot < length b.marks → 0 < holders_at (with_sent slot b) slot
        → message_in (with_sent slot b) contents slot ≡ Some (Sent_message n (entry_of l))
    sent-lies low in_use = message_in-from (with_sent slot b) contents slot (Sent_message n (entry_of l)) (record {
      header = w.header;
      content = w.content;
      mark = Sent;
      in_use = in_use;
      headers = w.headers;
      contains = w.contains;
      marks = slice_get-set_same b.marks slot Sent low;
      is = ap (λ entry. Sent_message n entry) (sym entry-is)
          ∙ ap
          (λ (k : ℕ). Sent_message k
          (record { header = w.header; user_header = (w.content).user_header; values = (w.content).values }))
          (sym w.number);
    })

    -- and nothing else does
    pub sent-is : slot < length b.marks → (m : KeptMessage T U) → message_in (with_sent slot b) contents slot ≡ Some m
        → m ≡ Sent_message n (entry_of l)
    sent-is low m e =
        let lies = message_in-parts (with_sent slot b) contents slot m e in
        let both : Some m ≡ Some (Sent_message n (entry_of l)) = sym e ∙ sent-lies low lies.in_use in
        cc
