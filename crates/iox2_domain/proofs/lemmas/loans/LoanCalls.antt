-- What calls on a loan that is out read and write.
use Rattle.std.proofs.Common.{◌≡◌, ℕ, ◌<◌, Bool, is_some, List, [], ◌∷◌, map, length, true, false, get_or, slice_set}
use Rattle.std.proofs.Common.{refl, ap, sym, subst, ◌∙◌, arith}
use Rattle.std.proofs.lemmas.List.{get_or_default, length-map, set-get_or}
use Rattle.std.proofs.lemmas.Option.{slice_get_within, get_or_from_slice_get}
use Rattle.std.specs.Prelude.{slice_get, IsSomeAnd}
use Rattle.std.specs.List.{list_all}
use Rattle.std.specs.Bool.{MatchBool}
use Rattle.std.specs.declared.option.Option.{Option}
use Rattle.std.specs.declared.option.Option.TheVariants.{None, Some}
use Rattle.std.specs.Option.{option_map, option_and_then}
use Rattle.slab.specs.Slab.{get, with_value}
use Rattle.iox2_machine.specs.machine.Records.{Loan}
use Rattle.iox2_machine.specs.machine.State.{with_loan}
use Rattle.iox2_machine.specs.SingleValues.{is_single_valued}
use Rattle.iox2_machine.specs.machine.Loans.{is_initialized}
use Rattle.iox2_slots.specs.SlotBook.{Book}
use Rattle.iox2_contents.specs.SlotContents.{ContentState, SomeAt, WritesValues, AssumesWritten, with_changed}
use Rattle.iox2_contents.specs.SlotContents.{written_content, first_cell_at, first_value_at, cells_at, values_at}
use Rattle.iox2_contents.specs.SlotContents.{user_header_at}
use Rattle.iox2_machine.specs.declared.header.Header.{Header}
use Rattle.iox2_slots.specs.declared.slots.mark.SlotMark.TheVariants.{Written}
use Rattle.iox2_domain.specs.Reaches.{Reaches}
use Rattle.iox2_connections.proofs.MailboxChanges.{within_if_some}
use Rattle.iox2_domain.specs.Kept.{Lent_message, state_of}
use Rattle.iox2_domain.specs.Fields.{Fields, kept_of, contents_at}
use Rattle.iox2_domain.specs.Invariant.{IsDomain}
use Rattle.iox2_domain.specs.LoanSlots.{LiesInSlot}
use Rattle.iox2_domain.specs.LoanCalls.{HoldsUnwritten, HoldsWritten, HasCells, HasCell, HasLoanHeader}
use Rattle.iox2_domain.specs.LoanCalls.{HasLoanUserHeader, HasContents, with_slot_mark, with_values_written, WritesLoan}
use Rattle.iox2_domain.specs.LoanCalls.{AssumesLoan}
use Rattle.iox2_domain.proofs.lemmas.fields.SingleSettings.{single-settings}
use Rattle.iox2_domain.proofs.lemmas.slots.BookContents.{contents-there}
use Rattle.iox2_domain.proofs.lemmas.slots.Messages.{LiesIn, message_in-parts}
use Rattle.iox2_domain.proofs.lemmas.loans.ChangedLoan.{one-cell, unwritten-parts, written-parts, loan-header}
use Rattle.iox2_domain.proofs.lemmas.loans.ChangedLoan.{loan-user_header, loan-parts, with_change, change-reaches}
use Rattle.iox2_domain.proofs.lemmas.loans.LoanChanges.{values-written}

-- a list of one element
pub one-element : {A : Type 0} (xs : List A) (x : A) → length xs ≡ 1 → slice_get xs 0 ≡ Some x → xs ≡ x ∷ []
one-element [] x one at = absurd cc
one-element (y ∷ []) x one at = let same : Some y ≡ Some x = at in cc
one-element (y ∷ z ∷ xs) x one at = absurd (omega arith)

module _ {T U : Type 0} (f : Fields T U) (sound : IsDomain f) (key : ℕ) (b : Book)
    (at_b : get f.books key ≡ Some b) where
  -- the contents that are read at a book's key are there
  pub contents-read : (v : Fields T U) → v ≡ f → (o : Option (List (ContentState T U))) → o ≡ get_or v.contents key o
      → (cs : List (ContentState T U)) → o ≡ Some cs
      → get_or f.contents key None ≡ Some cs
  contents-read v view o read cs is =
      get_or_default f.contents key None o
      (let there = contents-there f sound.parts key b at_b in within_if_some f.contents key there.0 there.1)
      ∙ sym (ap (λ (g : Fields T U). get_or g.contents key o) view)
      ∙ sym read ∙ is

-- the loan in the slot is that of the state
pub same-loan : {T U : Type 0} (f : Fields T U) (p n key slot : ℕ) (at : LiesInSlot f p n key slot) (l : Loan T U)
    → (state_of (kept_of f)).loans n ≡ Some l → l ≡ at.loan
same-loan {T} {U} f p n key slot at l found = let both : Some l ≡ Some at.loan = sym found ∙ at.is_out in cc

module _ {T U : Type 0} (f : Fields T U) (sound : IsDomain f) (p n key slot : ℕ) (at : LiesInSlot f p n key slot) where
  -- the header of its slot
  pub header-read : (b : Book) → get f.books key ≡ Some b → (header : Header) → slice_get b.headers slot ≡ Some header
      → HasLoanHeader (state_of (kept_of f)) n header
  header-read b at_b header there =
      let lies : LiesIn at.book (contents_at f.contents key) slot (Lent_message n at.loan) =
      message_in-parts at.book (contents_at f.contents key) slot (Lent_message n at.loan) at.lies in
      let books : Some b ≡ Some at.book = sym at_b ∙ at.stands in
      let book : b ≡ at.book = cc in
      let both : Some header ≡ Some lies.header =
      sym there ∙ ap (λ (c : Book). slice_get c.headers slot) book ∙ lies.headers in
      let same : header ≡ lies.header = cc in
      (at.loan, at.is_out, loan-header at.book (contents_at f.contents key) slot n at.loan lies ∙ sym same)

  module _ (cs : List (ContentState T U)) (at_c : get_or f.contents key None ≡ Some cs) where
    abbrev parts : LiesIn at.book cs slot (Lent_message n at.loan)
    parts = loan-parts f sound p n key slot at cs at_c

    -- its slot has a content
    pub some-at : (P : ContentState T U → Type 0) → P parts.content → SomeAt cs slot P
    some-at P holds = subst (λ o. IsSomeAnd o P) (sym parts.contains) holds

    pub slot-within : slot < length cs
    slot-within = slice_get_within cs slot parts.content parts.contains

    -- its user header
    pub user_header-read : (user_header : U) → user_header_at cs slot ≡ Some user_header
        → HasLoanUserHeader (state_of (kept_of f)) n user_header
    user_header-read user_header there =
        let here : Some (parts.content).user_header ≡ Some user_header =
        sym (ap (option_map (λ (c : ContentState T U). c.user_header)) parts.contains) ∙ there in
        let same : (parts.content).user_header ≡ user_header = cc in
        (at.loan, at.is_out, loan-user_header at.book cs slot n at.loan parts ∙ same)

    -- where messages aren't single values it lies in lists
    pub in-lists : is_single_valued f.config ≡ false → (parts.content).is_in_place ≡ false
    in-lists several =
        subst (λ (c : ContentState T U). c.is_in_place ≡ false)
        (get_or_from_slice_get cs slot parts.content parts.content parts.contains)
        (sound.parts.forms.at several key cs at_c slot parts.content
        (slice_get_within cs slot parts.content parts.contains))

    -- and there its cells can be handed out where the settings ask for it
    pub cells-listed : is_single_valued f.config ≡ false → (f.config).lists_cells ≡ true → 0 < (parts.content).lists
    cells-listed several lists =
        subst (λ (c : ContentState T U). 0 < c.lists)
        (get_or_from_slice_get cs slot parts.content parts.content parts.contains)
        (sound.parts.forms.cells several lists key cs at_c slot parts.content
        (slice_get_within cs slot parts.content parts.contains))

    module _ (unwritten : (at.loan).is_written ≡ false) where
      pub cells : (at.loan).cells ≡ (parts.content).cells
      cells = ap (λ (l : Loan T U). l.cells) (unwritten-parts at.book cs slot n at.loan parts unwritten)

      -- the cells of an unwritten loan are those of its slot
      pub cells-read : (xs : List (Option T)) → cells_at cs slot ≡ Some xs → HasCells (state_of (kept_of f)) n xs
      cells-read xs there =
          let here : Some (parts.content).cells ≡ Some xs =
          sym (ap (option_map (λ (c : ContentState T U). c.cells)) parts.contains) ∙ there in
          let same : (parts.content).cells ≡ xs = cc in
          (at.loan, at.is_out, cells ∙ same)

      module _ (one : length (at.loan).cells ≡ 1) where
        one_there : length (parts.content).cells ≡ 1
        one_there = ap length (sym cells) ∙ one

        -- an unwritten loan has one cell in its slot
        pub cell-there : SomeAt cs slot (λ content. length content.cells ≡ 1)
        cell-there = some-at (λ content. length content.cells ≡ 1) one_there

        pub cell-some : SomeAt cs slot (λ content. 0 < length content.cells)
        cell-some = some-at (λ content. 0 < length content.cells) (omega (arith, one_there))

        -- which is read
        pub cell-read : (cell : Option T) → first_cell_at cs slot ≡ Some cell → HasCell (state_of (kept_of f)) n cell
        cell-read cell first =
            let here : slice_get (parts.content).cells 0 ≡ Some cell =
            sym (ap (option_and_then (λ (c : ContentState T U). slice_get c.cells 0)) parts.contains) ∙ first in
            (at.loan, at.is_out, cells ∙ one-element (parts.content).cells cell one_there here)

      -- it is written
      pub write-done : (values : List T) → length values ≡ length (at.loan).cells → (book : Book)
          → get f.books key ≡ Some book → (mid new : Fields T U) → mid ≡ with_slot_mark f key slot book Written
          → (there written : List (ContentState T U)) → get_or mid.contents key None ≡ Some there
          → written ≡ with_changed there slot (written_content values)
          → new ≡ record mid { contents = slice_set mid.contents key (Some written) } → WritesLoan f new n values
      write-done values long book at_b mid new marked there written has changes is =
          let books : Some book ≡ Some at.book = sym at_b ∙ at.stands in
          let same : book ≡ at.book = cc in
          let found : Some there ≡ Some cs =
          sym has ∙ ap (λ (v : Fields T U). get_or v.contents key None) marked ∙ at_c in
          let its : there ≡ cs = cc in
          let change = values-written at.book cs slot n at.loan parts unwritten values long in
          let reached : new ≡ with_change f sound p n key slot at cs at_c Written (written_content values) _ change =
          is
          ∙ ap (λ (v : Fields T U). record v { contents = slice_set v.contents key (Some written) }) marked
          ∙ (λ t. record f {
            books = with_value f.books key (record (same t) { marks = slice_set (same t).marks slot Written });
            contents = slice_set f.contents key
                (Some ((changes ∙ ap (λ zs. with_changed zs slot (written_content values)) its) t));
          }) in (
            at.loan,
            at.is_out,
            long,
            subst (λ (v : Fields T U). Reaches f v (with_values_written (state_of (kept_of f)) n at.loan values))
                (sym reached)
                (change-reaches f sound p n key slot at cs at_c Written (written_content values) _ change),
          )

    module _ (written : (at.loan).is_written ≡ true) where
      pub values : (at.loan).cells ≡ map Some (parts.content).values
      values = ap (λ (l : Loan T U). l.cells) (written-parts at.book cs slot n at.loan parts written)

      -- the values of a written loan are those of its slot
      pub values-read : (xs : List T) → values_at cs slot ≡ Some xs → HasCells (state_of (kept_of f)) n (map Some xs)
      values-read xs there =
          let here : Some (parts.content).values ≡ Some xs =
          sym (ap (option_map (λ (c : ContentState T U). c.values)) parts.contains) ∙ there in
          let same : (parts.content).values ≡ xs = cc in
          (at.loan, at.is_out, values ∙ ap (map Some) same)

      module _ (one : length (at.loan).cells ≡ 1) where
        one_value : length (parts.content).values ≡ 1
        one_value = sym (length-map (parts.content).values Some) ∙ ap length (sym values) ∙ one

        -- a written loan has one value in its slot
        pub value-some : SomeAt cs slot (λ content. 0 < length content.values)
        value-some = some-at (λ content. 0 < length content.values) (omega (arith, one_value))

        -- which is read
        pub value-read : (value : T) → first_value_at cs slot ≡ Some value
            → HasCell (state_of (kept_of f)) n (Some value)
        value-read value first =
            let here : slice_get (parts.content).values 0 ≡ Some value =
            sym (ap (option_and_then (λ (c : ContentState T U). slice_get c.values 0)) parts.contains) ∙ first in
            (at.loan, at.is_out, values ∙ ap (map Some) (one-element (parts.content).values value one_value here))

  -- whether the loan in the slot is written
  pub is-unwritten : HoldsUnwritten (state_of (kept_of f)) p n → (at.loan).is_written ≡ false
  is-unwritten live = ap (λ (l : Loan T U). l.is_written) (sym (same-loan f p n key slot at live.0 live.1)) ∙ live.3

  pub is-written : HoldsWritten (state_of (kept_of f)) p n → (at.loan).is_written ≡ true
  is-written live = ap (λ (l : Loan T U). l.is_written) (sym (same-loan f p n key slot at live.0 live.1)) ∙ live.3

-- ---- what is written at the key

module _ {T U : Type 0} (f : Fields T U) (sound : IsDomain f) (p n key slot : ℕ) (at : LiesInSlot f p n key slot)
    (mid : Fields T U) (marked : mid ≡ with_slot_mark f key slot at.book Written) where
  -- the contents are there still
  pub contents-still : HasContents mid key
  contents-still = let has = contents-there f sound.parts key at.book at.stands in
      (has.0, ap (λ (v : Fields T U). get_or v.contents key None) marked ∙ has.1)

  module _ (there : List (ContentState T U)) (has : get_or mid.contents key None ≡ Some there)
      (live : HoldsUnwritten (state_of (kept_of f)) p n) where
    pub was-there : get_or f.contents key None ≡ Some there
    was-there = sym (ap (λ (v : Fields T U). get_or v.contents key None) marked) ∙ has

    unwritten : (at.loan).is_written ≡ false
    unwritten = is-unwritten f sound p n key slot at live

    -- its one cell may be written
    pub one-writable : length (at.loan).cells ≡ 1 → SomeAt there slot (λ content. length content.cells ≡ 1)
    one-writable one = cell-there f sound p n key slot at there was-there unwritten one

    -- its cells lie in a list
    pub all-writable : is_single_valued f.config ≡ false → SomeAt there slot (λ content. content.is_in_place ≡ false)
    all-writable several = some-at f sound p n key slot at there was-there (λ content. content.is_in_place ≡ false)
        (in-lists f sound p n key slot at there was-there several)

    -- and they are as many as these values
    pub many-writable : is_single_valued f.config ≡ false → (count : ℕ) → count ≡ length (at.loan).cells
        → SomeAt there slot (λ content. (content.is_in_place ≡ false) × (count ≡ length content.cells))
    many-writable several count long =
        some-at f sound p n key slot at there was-there
        (λ content. (content.is_in_place ≡ false) × (count ≡ length content.cells)) (
          in-lists f sound p n key slot at there was-there several,
          long ∙ ap length (cells f sound p n key slot at there was-there unwritten),
        )

    -- one value is written
    pub one-written : length (at.loan).cells ≡ 1 → (value : T) (left : List (ContentState T U))
        → left ≡ with_changed there slot (written_content (value ∷ []))
        → WritesLoan f (record mid { contents = slice_set mid.contents key (Some left) }) n (value ∷ [])
    one-written one value left changes =
        write-done f sound p n key slot at there was-there unwritten (value ∷ [])
        (sym one) at.book at.stands mid _ marked there left has changes refl

    -- values are written
    pub many-written : (values : List T) (left : List (ContentState T U)) → WritesValues there left slot values
        → WritesLoan f (record mid { contents = slice_set mid.contents key (Some left) }) n values
    many-written values left writes =
        let parts = loan-parts f sound p n key slot at there was-there in
        let both : Some writes.content ≡ Some parts.content = sym writes.had ∙ parts.contains in
        let same : writes.content ≡ parts.content = cc in
        let long : length values ≡ length (at.loan).cells =
        writes.count ∙ ap (λ (c : ContentState T U). length c.cells) same
        ∙ sym (ap length (cells f sound p n key slot at there was-there unwritten)) in
        write-done f sound p n key slot at there was-there unwritten values long at.book at.stands mid _ marked there
        left has writes.written refl

-- ---- cells are taken as written

module _ {T U : Type 0} (f : Fields T U) (sound : IsDomain f) (p n key slot : ℕ) (at : LiesInSlot f p n key slot)
    (there : List (ContentState T U)) (has : get_or f.contents key None ≡ Some there)
    (live : HoldsUnwritten (state_of (kept_of f)) p n) where
  not-written : (at.loan).is_written ≡ false
  not-written = is-unwritten f sound p n key slot at live

  abbrev its : LiesIn at.book there slot (Lent_message n at.loan)
  its = loan-parts f sound p n key slot at there has

  cells-are : (at.loan).cells ≡ (its.content).cells
  cells-are = cells f sound p n key slot at there has not-written

  -- what lies in place is one cell
  pub assume-allowed : SomeAt there slot (λ content. content.is_in_place ≡ true → length content.cells ≡ 1)
  assume-allowed = some-at f sound p n key slot at there has
      (λ content. content.is_in_place ≡ true → length content.cells ≡ 1) (by (is_single_valued f.config) refl) where
        by : (b : Bool) → is_single_valued f.config ≡ b → (its.content).is_in_place ≡ true
            → length (its.content).cells ≡ 1
        by true e placed =
            let settings = single-settings f.config e in
            ap length (sym cells-are) ∙ one-cell f sound p n key slot at settings.0 settings.1
        by false e placed = let no : false ≡ true = sym (in-lists f sound p n key slot at there has e) ∙ placed in
            absurd cc

  module _ (left : List (ContentState T U)) (b : Bool) (assumes : AssumesWritten there left slot b) where
    same-content : assumes.0 ≡ its.content
    same-content = let both : Some assumes.0 ≡ Some its.content = sym assumes.1 ∙ its.contains in cc

    as-cells : (assumes.0).cells ≡ (at.loan).cells
    as-cells = ap (λ (c : ContentState T U). c.cells) same-content ∙ sym cells-are

    as-initialized : b ≡ is_initialized at.loan
    as-initialized = assumes.2 ∙ ap (list_all is_some) as-cells

    -- some cell isn't written
    pub assume-refused : b ≡ false
        → AssumesLoan f (record f { contents = slice_set f.contents key (Some left) }) n false
    assume-refused e =
        let same : left ≡ there =
        subst (λ (t : Bool). MatchBool t ((values : List T) × (map Some values ≡ (assumes.0).cells)
        × (left ≡ with_changed there slot (written_content values))) (left ≡ there)) e assumes.3 in (
          at.loan,
          at.is_out,
          sym e ∙ as-initialized,
          ap (λ (o : Option (List (ContentState T U))). record f { contents = slice_set f.contents key o })
              (ap Some same ∙ sym has)
              ∙ ap (λ (xs : List (Option (List (ContentState T U)))). record f { contents = xs })
              (set-get_or f.contents key None),
        )

    -- each is
    pub assume-done : b ≡ true → (new : Fields T U)
        → new ≡ with_slot_mark (record f { contents = slice_set f.contents key (Some left) }) key slot at.book Written
        → AssumesLoan f new n true
    assume-done e new is =
        let both =
        subst (λ (t : Bool). MatchBool t ((values : List T) × (map Some values ≡ (assumes.0).cells)
        × (left ≡ with_changed there slot (written_content values))) (left ≡ there)) e assumes.3 in
        let long : length both.0 ≡ length (at.loan).cells =
        sym (length-map both.0 Some) ∙ ap length (both.1 ∙ as-cells) in
        let change = values-written at.book there slot n at.loan its not-written both.0 long in
        let reached : new ≡ with_change f sound p n key slot at there has Written (written_content both.0) _ change =
        is ∙ ap (λ (zs : List (ContentState T U)). record f {
          books = with_value f.books key (record (at.book) { marks = slice_set (at.book).marks slot Written });
          contents = slice_set f.contents key (Some zs);
        }) both.2 in
        let whole : record (at.loan) { cells = map Some both.0; is_written = true } ≡ record (at.loan)
        { is_written = true } =
        ap (λ (zs : List (Option T)). record (at.loan) { cells = zs; is_written = true }) (both.1 ∙ as-cells) in (
          at.loan,
          at.is_out,
          sym e ∙ as-initialized,
          subst (λ (l : Loan T U). Reaches f new (with_loan (state_of (kept_of f)) n (Some l))) whole
              (subst (λ (v : Fields T U). Reaches f v (with_values_written (state_of (kept_of f)) n at.loan both.0))
              (sym reached)
              (change-reaches f sound p n key slot at there has Written (written_content both.0) _ change)),
        )

-- ---- what is read at the key

module _ {T U : Type 0} (f v : Fields T U) (view : v ≡ f) (sound : IsDomain f) (p n key slot : ℕ)
    (at : LiesInSlot f p n key slot)
    (o : Option (List (ContentState T U))) (read : o ≡ get_or v.contents key o) (cs : List (ContentState T U))
    (is : o ≡ Some cs) where
  pub here : get_or f.contents key None ≡ Some cs
  here = contents-read f sound key at.book at.stands v view o read cs is

  module _ (one : length (at.loan).cells ≡ 1) where
    -- of an unwritten loan the cell
    pub cell-allowed : HoldsUnwritten (state_of (kept_of f)) p n → SomeAt cs slot (λ content. 0 < length content.cells)
    cell-allowed live = cell-some f sound p n key slot at cs here (is-unwritten f sound p n key slot at live) one

    pub cell-shown : HoldsUnwritten (state_of (kept_of f)) p n → (cell : Option T) → first_cell_at cs slot ≡ Some cell
        → HasCell (state_of (kept_of f)) n cell
    cell-shown live cell first =
        cell-read f sound p n key slot at cs here (is-unwritten f sound p n key slot at live) one cell first

    -- of a written loan the value
    pub value-allowed : HoldsWritten (state_of (kept_of f)) p n → SomeAt cs slot (λ content. 0 < length content.values)
    value-allowed live = value-some f sound p n key slot at cs here (is-written f sound p n key slot at live) one

    pub value-shown : HoldsWritten (state_of (kept_of f)) p n → (value : T) → first_value_at cs slot ≡ Some value
        → HasCell (state_of (kept_of f)) n (Some value)
    value-shown live value first =
        value-read f sound p n key slot at cs here (is-written f sound p n key slot at live) one value first
