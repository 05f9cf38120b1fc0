-- What lies in one slot changes: its mark and its content.
use Rattle.std.proofs.Common.{◌≡◌, ◌≢◌, ℕ, ◌+◌, ◌<◌, ◌&&◌, List, length, Bool, true, false, cond, eqb, get_or}
use Rattle.std.proofs.Common.{slice_set, refl, ap, sym, subst, ◌∙◌, inl, inr}
use Rattle.std.proofs.lemmas.Bool.{cases_eq, eq-eqb, eqb-true}
use Rattle.std.proofs.lemmas.List.{get_or-set_same, get_or-set_other, length-set}
use Rattle.std.proofs.lemmas.Option.{slice_get_within, get_or_from_slice_get}
use Rattle.std.specs.Prelude.{nat_lt, slice_get, slice_index}
use Rattle.std.specs.declared.option.Option.{Option}
use Rattle.std.specs.declared.option.Option.TheVariants.{None, Some}
use Rattle.std.specs.Option.{option_map, option_map_or, option_and_then}
use Rattle.std.specs.List.{All, sum_by}
use Rattle.circular_buffer.proofs.Places.{slice_get-set_same, slice_get-set_other}
use Rattle.slab.specs.Slab.{Slab, get, with_value}
use Rattle.iox2_slots.specs.SlotBook.{Book, holders_at}
use Rattle.iox2_contents.specs.SlotContents.{ContentState, with_changed}
use Rattle.iox2_machine.specs.declared.service_config.ServiceConfig.{ServiceConfig}
use Rattle.iox2_slots.specs.declared.slots.mark.SlotMark.{SlotMark}
use Rattle.iox2_connections.specs.LookUp.{look_up}
use Rattle.iox2_connections.specs.Counters.{times, stands}
use Rattle.iox2_connections.proofs.LookUps.{look_up-found}
use Rattle.iox2_domain.specs.Ports.{PublisherFields}
use Rattle.iox2_domain.specs.Kept.{KeptMessage, state_of, message_numbered}
use Rattle.iox2_domain.specs.Fields.{Fields, kept_of, is_book_of, message_of, message_in, contents_at, contents_in}
use Rattle.iox2_domain.specs.Invariant.{IsDomain, IsBook, HasBooks, HasForms, HasOpenLoans, HasNumber, IsNumbered}
use Rattle.iox2_domain.specs.Invariant.{IsCounted, is_publisher, holders_of, own_holders, is_lent, is_loan_in}
use Rattle.iox2_domain.specs.Invariant.{cell_count, mark_at}
use Rattle.iox2_domain.proofs.lemmas.containers.SetRecords.{set-here, set-others}
use Rattle.iox2_domain.proofs.lemmas.loans.Taken.{with_changed-here, with_changed-others}
use Rattle.iox2_domain.proofs.lemmas.slots.BookChanges.{KeepsSlots, with_book, book-here, book-others, book-was}
use Rattle.iox2_domain.proofs.lemmas.slots.BookChanges.{books-apart, other-book, book-state, books-changed}
use Rattle.iox2_domain.proofs.lemmas.slots.BookChanges.{holders-here}
use Rattle.iox2_domain.proofs.lemmas.slots.OpenLoans.{KeepsLists, mark-here, open-kept}
use Rattle.iox2_domain.proofs.lemmas.slots.RewrittenContents.{rewritten-here, rewritten-others, rewritten-books}
use Rattle.iox2_domain.proofs.lemmas.slots.SlotCells.{cells-elsewhere, cells-here, cells-read, cells_if}
use Rattle.iox2_domain.proofs.lemmas.slots.Messages.{LiesIn, ChangesSlot, lies_at, message_at-slot, message_in-parts}
use Rattle.iox2_domain.proofs.lemmas.slots.Messages.{message_in-from, is_numbered-slot, message_numbered-others}
use Rattle.iox2_domain.proofs.lemmas.slots.Messages.{message_numbered-found}

-- what holds of each element holds still
pub all-changed : {A : Type 0} (P : A → Type 0) (g : A → A) → ((x : A) → P x → P (g x)) → (xs : List A) (slot : ℕ)
    → All P xs → All P (with_changed xs slot g)
all-changed {A} P g keeps xs slot all = by (slice_get xs slot) refl where
  write : (x : A) → slice_get xs slot ≡ Some x → All P (slice_set xs slot (g x))
  write x at k d lt = elim (cases_eq k slot) [
    | inl here ↦
        let low : slot < length xs = slice_get_within xs slot x at in
        let is : get_or (slice_set xs slot (g x)) k d ≡ g x =
        ap (λ (j : ℕ). get_or (slice_set xs slot (g x)) j d) here ∙ get_or-set_same xs slot (g x) d low in
        subst P (sym is) (keeps x (subst P (get_or_from_slice_get xs slot x d at) (all slot d low)))
    | inr away ↦ subst P (sym (get_or-set_other xs slot k (g x) d away))
        (all k d (subst (λ (n : ℕ). k < n) (length-set xs slot (g x)) lt))
  ]

  by : (o : Option A) → slice_get xs slot ≡ o → All P (option_map_or (λ x. slice_set xs slot (g x)) o xs)
  by None at = all
  by (Some x) at = write x at

-- what lies in lists does so where the slot keeps its form
pub forms-changed : {T U : Type 0} (c : ServiceConfig) (contents : List (Option (List (ContentState T U))))
    (key slot : ℕ) (cs : List (ContentState T U)) → get_or contents key None ≡ Some cs
    → (g : ContentState T U → ContentState T U)
    → ((content : ContentState T U) → (g content).is_in_place ≡ content.is_in_place)
    → ((content : ContentState T U) → (g content).lists ≡ content.lists) → HasForms c contents
    → HasForms c (slice_set contents key (Some (with_changed cs slot g)))
forms-changed {T} {U} c contents key slot cs at_c g placed listed forms = record {
  at = λ several k zs there. elim (cases_eq k key) [
    | inl here ↦
        let found : Some (with_changed cs slot g) ≡ Some zs =
        sym (set-here contents key cs (with_changed cs slot g) at_c) ∙ sym
        (ap (λ (j : ℕ). get_or (slice_set contents key (Some (with_changed cs slot g))) j None) here) ∙ there in
        let is : with_changed cs slot g ≡ zs = cc in
        subst (All (λ (content : ContentState T U). content.is_in_place ≡ false)) is
        (all-changed (λ (content : ContentState T U). content.is_in_place ≡ false) g
        (λ content away. placed content ∙ away) cs slot (forms.at several key cs at_c))
    | inr away ↦ forms.at several k zs (sym (set-others contents key cs (with_changed cs slot g) at_c k away) ∙ there)
  ];
  cells = λ several lists k zs there. elim (cases_eq k key) [
    | inl here ↦
        let found : Some (with_changed cs slot g) ≡ Some zs =
        sym (set-here contents key cs (with_changed cs slot g) at_c) ∙ sym
        (ap (λ (j : ℕ). get_or (slice_set contents key (Some (with_changed cs slot g))) j None) here) ∙ there in
        let is : with_changed cs slot g ≡ zs = cc in
        subst (All (λ (content : ContentState T U). 0 < content.lists)) is
        (all-changed (λ (content : ContentState T U). 0 < content.lists) g
        (λ content had. subst (λ n. 0 < n) (sym (listed content)) had) cs slot (forms.cells several lists key cs at_c))
    | inr away ↦
        forms.cells several lists k zs (sym (set-others contents key cs (with_changed cs slot g) at_c k away) ∙ there)
  ];
}

-- and it has as many lists of cells
pub lists-changed : {T U : Type 0} (contents : List (Option (List (ContentState T U)))) (key slot : ℕ)
    (cs : List (ContentState T U)) → get_or contents key None ≡ Some cs
    → (g : ContentState T U → ContentState T U) → ((content : ContentState T U) → (g content).lists ≡ content.lists)
    → KeepsLists contents (slice_set contents key (Some (with_changed cs slot g)))
lists-changed {T} {U} contents key slot cs at_c g listed = record {
  at = λ k zs there. elim (cases_eq k key) [
    | inl here ↦
        let found : Some (with_changed cs slot g) ≡ Some zs =
        sym (set-here contents key cs (with_changed cs slot g) at_c) ∙ sym
        (ap (λ (j : ℕ). get_or (slice_set contents key (Some (with_changed cs slot g))) j None) here) ∙ there in
        let is : with_changed cs slot g ≡ zs = cc in (
          cs,
          ap (λ (j : ℕ). get_or contents j None) here ∙ at_c,
          λ n all.
              subst (All (λ (content : ContentState T U). content.lists ≡ n)) is
              (all-changed (λ (content : ContentState T U). content.lists ≡ n) g
              (λ content had. listed content ∙ had) cs slot all),
        )
    | inr away ↦ (zs, sym (set-others contents key cs (with_changed cs slot g) at_c k away) ∙ there, λ n all. all)
  ];
}

module _ {T U : Type 0} (f : Fields T U) (sound : IsDomain f) (key slot : ℕ) (b : Book)
    (at_b : get f.books key ≡ Some b)
    (cs : List (ContentState T U)) (at_c : get_or f.contents key None ≡ Some cs) (mark : SlotMark)
    (g : ContentState T U → ContentState T U) where
  -- the book with this mark at the slot
  abbrev pub marked : Book
  marked = record b { marks = slice_set b.marks slot mark }

  -- its contents with the slot's changed
  abbrev pub rewritten_contents : List (ContentState T U)
  rewritten_contents = with_changed cs slot g

  -- the fields with both
  abbrev pub with_slot : Fields T U
  with_slot =
      record f { books = with_value f.books key marked; contents = slice_set f.contents key (Some rewritten_contents) }

  pub marked-keeps : KeepsSlots b marked
  marked-keeps = record { publisher = refl; node = refl; numbers = refl; slots = refl }

  -- ---- books and contents

  here-now : get_or (slice_set f.contents key (Some rewritten_contents)) key None ≡ Some rewritten_contents
  here-now = rewritten-here f key cs at_c slot g

  elsewhere : (k : ℕ) → k ≢ key
      → get_or (slice_set f.contents key (Some rewritten_contents)) k None ≡ get_or f.contents k None
  elsewhere k away = rewritten-others f key cs at_c slot g k away

  -- each publisher has its book, where no slot loses room
  pub slot-books : ((c : ContentState T U) → (g c).room ≡ c.room) → HasBooks with_slot
  slot-books roomy = rewritten-books (with_book f key marked) key cs at_c slot g marked
      (book-here f key b marked at_b marked-keeps) roomy base where
        old : IsBook b (get_or f.contents key None)
        old = sound.parts.books.books key b at_b

        base : HasBooks (with_book f key marked)
        base = books-changed f key b marked at_b marked-keeps sound.parts.books (record {
          numbers = old.aligned.numbers;
          headers = old.aligned.headers;
          marks = length-set b.marks slot mark ∙ old.aligned.marks;
        })

  -- what lies in lists does so still
  pub slot-forms : ((c : ContentState T U) → (g c).is_in_place ≡ c.is_in_place)
      → ((c : ContentState T U) → (g c).lists ≡ c.lists) → HasForms f.config f.contents
      → HasForms f.config with_slot.contents
  slot-forms placed listed forms = forms-changed f.config f.contents key slot cs at_c g placed listed forms

  -- each slot with cells is a loan still, where this one has cells only if it had some, with the mark that it had
  pub slot-open : ((c : ContentState T U) → (g c).lists ≡ c.lists)
      → ((content : ContentState T U) → slice_get cs slot ≡ Some content → 0 < length (g content).cells
      → (0 < length content.cells) × (slice_get b.marks slot ≡ Some mark))
      → HasOpenLoans f.config f.publishers f.books f.contents
      → HasOpenLoans f.config f.publishers with_slot.books with_slot.contents
  slot-open listed keeps = open-kept f.publishers f.books with_slot.books f.contents with_slot.contents had same-mark
      (lists-changed f.contents key slot cs at_c g listed) where
        here : 0 < cell_count with_slot.contents key slot
            → (0 < cell_count f.contents key slot) × (slice_get b.marks slot ≡ Some mark)
        here some =
            let is = cells-here f.contents key cs at_c slot g some in
            let old = keeps is.0 is.1 is.2 in (
              subst (λ (n : ℕ). 0 < n) (sym (cells-read f.contents key slot (Some cs) at_c ∙ ap cells_if is.1)) old.0,
              old.1,
            )

        there : (k s : ℕ) → (k ≡ key) × (s ≡ slot) → 0 < cell_count with_slot.contents k s
            → 0 < cell_count with_slot.contents key slot
        there k s at some = subst (λ (j : ℕ). 0 < cell_count with_slot.contents j slot) at.0
            (subst (λ (r : ℕ). 0 < cell_count with_slot.contents k r) at.1 some)

        had : (k s : ℕ) → 0 < cell_count with_slot.contents k s → 0 < cell_count f.contents k s
        had k s some = elim (cases_eq k key) [
          | inl key_is ↦ elim (cases_eq s slot) [
            | inl slot_is ↦
                subst (λ (j : ℕ). 0 < cell_count f.contents j s) (sym key_is)
                (subst (λ (r : ℕ). 0 < cell_count f.contents key r) (sym slot_is)
                (here (there k s (key_is, slot_is) some)).0)
            | inr away ↦
                subst (λ (n : ℕ). 0 < n) (cells-elsewhere f.contents key cs at_c slot g k s (λ both. away both.1)) some
          ]
          | inr away ↦
              subst (λ (n : ℕ). 0 < n) (cells-elsewhere f.contents key cs at_c slot g k s (λ both. away both.0)) some
        ]

        marks-here : (s : ℕ) → mark_at with_slot.books key s ≡ slice_get (slice_set b.marks slot mark) s
        marks-here s = mark-here with_slot.books key marked (book-here f key b marked at_b marked-keeps) s

        same-mark : (k s : ℕ) → 0 < cell_count with_slot.contents k s
            → mark_at with_slot.books k s ≡ mark_at f.books k s
        same-mark k s some = elim (cases_eq k key) [
          | inl key_is ↦
              ap (λ (j : ℕ). mark_at with_slot.books j s) key_is ∙ marks-here s ∙ in_book key_is
              ∙ sym (mark-here f.books key b at_b s) ∙ sym (ap (λ (j : ℕ). mark_at f.books j s) key_is)
          | inr away ↦
              ap (option_and_then (λ (e : Book). slice_get e.marks s))
              (book-others f key b marked at_b marked-keeps k away)
        ] where
          in_book : k ≡ key → slice_get (slice_set b.marks slot mark) s ≡ slice_get b.marks s
          in_book key_is = elim (cases_eq s slot) [
            | inl slot_is ↦
                let old = (here (there k s (key_is, slot_is) some)).1 in
                ap (slice_get (slice_set b.marks slot mark)) slot_is
                ∙ slice_get-set_same b.marks slot mark (slice_get_within b.marks slot mark old)
                ∙ sym old ∙ sym (ap (slice_get b.marks) slot_is)
            | inr away ↦ slice_get-set_other b.marks slot s mark away
          ]

  -- ---- numbers and counters

  pub number-was : (k s n : ℕ) → HasNumber (with_value f.books key marked) k s n → HasNumber f.books k s n
  number-was k s n has = elim (book-was f key b marked at_b marked-keeps k has.book has.stands) [
    | inl is ↦ record {
      book = b;
      stands = ap (get f.books) is.0 ∙ at_b;
      in_use = subst (λ (e : Book). 0 < holders_at e s) is.1 has.in_use;
      number = ap (λ (e : Book). slice_index e.numbers s) (sym is.1) ∙ has.number;
    }
    | inr away ↦ record { book = has.book; stands = away.1; in_use = has.in_use; number = has.number }
  ]

  -- numbers stay apart
  pub slot-numbered : IsNumbered f.next_message (with_value f.books key marked)
  slot-numbered = record {
    one = λ k k' s s' n here there.
        sound.parts.numbered.one k k' s s' n (number-was k s n here) (number-was k' s' n there);
    below = λ k s n here. sound.parts.numbered.below k s n (number-was k s n here);
  }

  -- a loan's slot with the mark of a loan is a loan's still
  still-loan : is_lent mark ≡ true → option_map_or is_lent (slice_get b.marks slot) false ≡ true → (s : ℕ)
      → is_loan_in marked s ≡ is_loan_in b s
  still-loan now before s = elim (cases_eq s slot) [
    | inl same ↦ subst (λ (j : ℕ). is_loan_in marked j ≡ is_loan_in b j) (sym same)
        (ap (λ t. nat_lt 0 (holders_at b slot) && t) (here (slice_get b.marks slot) refl ∙ sym before))
    | inr away ↦ ap (λ o. nat_lt 0 (holders_at b s) && option_map_or is_lent o false)
        (slice_get-set_other b.marks slot s mark away)
  ] where
    here : (o : Option SlotMark) → slice_get b.marks slot ≡ o
        → option_map_or is_lent (slice_get (slice_set b.marks slot mark) slot) false ≡ true
    here None e = absurd (let no : false ≡ true = sym (ap (λ o. option_map_or is_lent o false) e) ∙ before in cc)
    here (Some m) e = ap (λ o. option_map_or is_lent o false)
        (slice_get-set_same b.marks slot mark (slice_get_within b.marks slot m e)) ∙ now

  -- the counters stay, where the slot is a loan's before and after
  pub slot-counted : is_lent mark ≡ true → option_map_or is_lent (slice_get b.marks slot) false ≡ true
      → IsCounted with_slot
  slot-counted now before = record { at = λ p s. by p s (eqb b.publisher p) refl } where
    books : Slab Book
    books = with_value f.books key marked

    holders_in : (s : ℕ) → Option Book → ℕ
    holders_in s o = option_map_or (λ (e : Book). holders_at e s) o 0

    own : (s : ℕ) → Option Book → Option PublisherFields → ℕ
    own s o holder = option_map_or (λ (x : PublisherFields). times s x.loans + times s (x.history).items) holder
        (option_map_or (λ e. cond (is_loan_in e s) 1 0) o 0)

    -- its publisher, or nobody, has the same of it
    same-own : (s : ℕ) (owner : Option PublisherFields) → own s (Some marked) owner ≡ own s (Some b) owner
    same-own s None = ap (λ t. cond {A = ℕ} t 1 0) (still-loan now before s)
    same-own s (Some x) = refl

    by : (p s : ℕ) (t : Bool) → eqb b.publisher p ≡ t
        → holders_of books p s ≡ own_holders with_slot p s + sum_by (stands p s) f.connections.slots
    by p s true e =
        let was : look_up (is_book_of p) f.books.slots ≡ Some b =
        look_up-found (is_book_of p) f.books.slots key b (sound.parts.books.one_each p) at_b e in
        let is : look_up (is_book_of p) books.slots ≡ Some marked =
        look_up-found (is_book_of p) books.slots key marked
        (books-apart f key b marked at_b marked-keeps sound.parts.books.one_each p)
        (book-here f key b marked at_b marked-keeps) e in
        let owner : Option PublisherFields = look_up (is_publisher p) f.publishers in
        holders-here f key b marked at_b marked-keeps sound.parts.books.one_each p s (eqb-true b.publisher p e)
        ∙ sym (ap (holders_in s) was)
        ∙ sound.parts.counted.at p s
        ∙ ap (λ n. n + sum_by (stands p s) f.connections.slots)
        (ap (λ o. own s o owner) was ∙ sym (same-own s owner) ∙ sym (ap (λ o. own s o owner) is))
    by p s false e =
        let same : look_up (is_book_of p) books.slots ≡ look_up (is_book_of p) f.books.slots =
        other-book f key b marked at_b marked-keeps sound.parts.books.one_each p e in
        ap (holders_in s) same
        ∙ sound.parts.counted.at p s
        ∙ ap (λ n. n + sum_by (stands p s) f.connections.slots)
        (sym (ap (λ o. own s o (look_up (is_publisher p) f.publishers)) same))

  -- the machine knows of the slot by its loans alone
  pub slot-state : state_of (kept_of with_slot) ≡ record (state_of (kept_of f))
      { loans = (state_of (kept_of with_slot)).loans }
  slot-state = λ i. record (book-state f key b marked at_b marked-keeps sound.parts.books.one_each i)
      { loans = (state_of (kept_of with_slot)).loans }

  -- ---- messages

  -- in the other slots lies what lay there
  pub others-lie : (k s : ℕ) → ((k ≡ key) × (s ≡ slot) → ⊥) → lies_at with_slot k s ≡ lies_at f k s
  others-lie k s away = elim (cases_eq k key) [
    | inl here ↦ elim (cases_eq s slot) [
      | inl same ↦ absurd (away (here, same))
      | inr other ↦
          ap (λ (j : ℕ). lies_at with_slot j s) here ∙ in_book other ∙ sym (ap (λ (j : ℕ). lies_at f j s) here)
    ]
    | inr other ↦ λ t. option_and_then (λ e. message_in e (contents_in (elsewhere k other t)) s)
        (book-others f key b marked at_b marked-keeps k other t)
  ]
    where
      in_slot : s ≢ slot → message_in marked rewritten_contents s ≡ message_in b cs s
      in_slot other = λ t. cond (nat_lt 0 (holders_at b s)) (option_and_then (λ header. option_and_then (λ content.
          option_map (message_of b.publisher (slice_index b.numbers s) header content)
          (slice_get-set_other b.marks slot s mark other t))
          (with_changed-others cs slot g s other t)) (slice_get b.headers s)) None

      in_book : s ≢ slot → lies_at with_slot key s ≡ lies_at f key s
      in_book other =
          ap (λ o. option_and_then
          (λ e. message_in e (contents_at (slice_set f.contents key (Some rewritten_contents)) key) s) o)
          (book-here f key b marked at_b marked-keeps)
          ∙ ap (λ o. message_in marked (contents_in o) s) here-now
          ∙ in_slot other
          ∙ sym (ap (λ o. message_in b (contents_in o) s) at_c)
          ∙ sym (ap (λ o. option_and_then (λ e. message_in e (contents_at f.contents key) s) o) at_b)

  -- what lay in the slot, part by part
  slot-lay : (m : KeptMessage T U) → lies_at f key slot ≡ Some m → LiesIn b cs slot m
  slot-lay m lies = message_in-parts b cs slot m (sym (ap (λ o. message_in b (contents_in o) slot) at_c)
      ∙ sym (message_at-slot f.contents f.books key slot b at_b) ∙ lies)

  -- what lies in it now, part by part
  slot-parts : (m : KeptMessage T U) → lies_at with_slot key slot ≡ Some m → LiesIn marked rewritten_contents slot m
  slot-parts m lies =
      message_in-parts marked rewritten_contents slot m (sym (ap (λ o. message_in marked (contents_in o) slot) here-now)
      ∙ sym (message_at-slot (slice_set f.contents key (Some rewritten_contents))
      (with_value f.books key marked) key slot marked (book-here f key b marked at_b marked-keeps)) ∙ lies)

  -- the message with the new mark and content
  abbrev pub renewed : (m : KeptMessage T U) → LiesIn b cs slot m → KeptMessage T U
  renewed m lies = message_of b.publisher (slice_index b.numbers slot) lies.header (g lies.content) mark

  -- it lies in the slot
  pub slot-lies : (m : KeptMessage T U) (lies : LiesIn b cs slot m) → lies_at with_slot key slot ≡ Some (renewed m lies)
  slot-lies m lies =
      message_at-slot (slice_set f.contents key (Some rewritten_contents))
      (with_value f.books key marked) key slot marked (book-here f key b marked at_b marked-keeps)
      ∙ ap (λ o. message_in marked (contents_in o) slot) here-now
      ∙ message_in-from marked rewritten_contents slot (renewed m lies) (record {
        header = lies.header;
        content = g lies.content;
        mark = mark;
        in_use = lies.in_use;
        headers = lies.headers;
        contains = with_changed-here cs slot g lies.content lies.contains
            (slice_get_within cs slot lies.content lies.contains);
        marks = slice_get-set_same b.marks slot mark (slice_get_within b.marks slot lies.mark lies.marks);
        is = refl;
      })

  -- only the slot changes, and only its number lies in it
  changes : ChangesSlot f with_slot key slot (slice_index b.numbers slot)
  changes = record {
    others = others-lie;
    before = λ m lies. is_numbered-slot b cs slot m (slice_index b.numbers slot) (slot-lay m lies)
        ∙ eq-eqb (slice_index b.numbers slot) (slice_index b.numbers slot) refl;
    after = λ m lies. is_numbered-slot marked rewritten_contents slot m (slice_index b.numbers slot) (slot-parts m lies)
        ∙ eq-eqb (slice_index b.numbers slot) (slice_index b.numbers slot) refl;
  }

  -- all else is found as before
  pub others-found : (n : ℕ) → n ≢ slice_index b.numbers slot
      → message_numbered n (kept_of with_slot).books ≡ message_numbered n (kept_of f).books
  others-found n away =
      message_numbered-others f with_slot key slot (slice_index b.numbers slot) slot-numbered changes n away

  -- under the slot's number the new message is found
  pub slot-found : (m : KeptMessage T U) (lies : LiesIn b cs slot m)
      → message_numbered (slice_index b.numbers slot) (kept_of with_slot).books ≡ Some (renewed m lies)
  slot-found m lies =
      message_numbered-found with_slot.contents with_slot.books f.next_message slot-numbered
      (slice_index b.numbers slot) key slot (renewed m lies) (slot-lies m lies)
      (is_numbered-slot marked rewritten_contents slot (renewed m lies) (slice_index b.numbers slot)
      (slot-parts (renewed m lies) (slot-lies m lies))
      ∙ eq-eqb (slice_index b.numbers slot) (slice_index b.numbers slot) refl)
