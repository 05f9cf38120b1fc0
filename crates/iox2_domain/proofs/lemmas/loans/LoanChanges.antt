-- The ways in which a loan that is out is changed: its cells are written, changed, or taken as written, and its user
-- header is changed.
use Rattle.std.proofs.Common.{◌≡◌, ℕ, List, [], ◌∷◌, map, length, true, false, is_some, refl, ap, sym, ◌∙◌, arith}
use Rattle.std.proofs.lemmas.Bool.{true≢false}
use Rattle.std.proofs.lemmas.List.{length-map}
use Rattle.std.specs.List.{list_all}
use Rattle.std.specs.Prelude.{slice_index}
use Rattle.std.specs.declared.option.Option.{Option}
use Rattle.std.specs.declared.option.Option.TheVariants.{Some}
use Rattle.iox2_machine.specs.machine.Loans.{is_initialized}
use Rattle.iox2_machine.specs.machine.Records.{Loan}
use Rattle.iox2_slots.specs.SlotBook.{Book}
use Rattle.iox2_contents.specs.SlotContents.{ContentState, written_content, with_user_header}
use Rattle.iox2_slots.specs.declared.slots.mark.SlotMark.{SlotMark}
use Rattle.iox2_slots.specs.declared.slots.mark.SlotMark.TheVariants.{Unwritten, Written, Sent}
use Rattle.iox2_domain.specs.Kept.{Lent_message}
use Rattle.iox2_domain.specs.Fields.{message_of}
use Rattle.iox2_domain.proofs.lemmas.slots.Messages.{LiesIn}
use Rattle.iox2_domain.proofs.lemmas.loans.ChangedLoan.{ChangesTo, unwritten-parts, written-parts, unwritten-mark}
use Rattle.iox2_domain.proofs.lemmas.loans.ChangedLoan.{written-mark}

-- cells that are all written
all-written : {A : Type 0} (values : List A) → list_all is_some (map Some values) ≡ true
all-written [] = refl
all-written (value ∷ values) = all-written values

module _ {T U : Type 0} (b : Book) (cs : List (ContentState T U)) (slot n : ℕ) (l : Loan T U)
    (lies : LiesIn b cs slot (Lent_message n l)) where
  abbrev Changes : SlotMark → (ContentState T U → ContentState T U) → Loan T U → Type 0
  Changes mark g changed = ChangesTo b.publisher n lies.header lies.content lies.mark l mark g changed

  -- every cell is written, and the loan with them
  pub values-written : l.is_written ≡ false → (values : List T) → length values ≡ length l.cells
      → Changes Written (written_content values) (record l { cells = map Some values; is_written = true })
  values-written unwritten values long = record {
    room = λ c. refl;
    form = λ c. refl;
    listed = λ c. refl;
    cells = λ some. absurd (omega arith);
    loan = record {
      publisher = refl;
      header = refl;
      cells = length-map values Some ∙ long;
      complete = λ _. all-written values;
    };
    is = ap (λ (k : Loan T U). Lent_message n (record k { cells = map Some values; is_written = true }))
        (sym (unwritten-parts b cs slot n l lies unwritten));
  }

  -- the cells of an unwritten loan are changed
  pub cells-changed : l.is_written ≡ false → (change : List (Option T) → List (Option T))
      → ((cells : List (Option T)) → length (change cells) ≡ length cells)
      → Changes Unwritten (λ content. record content { cells = change content.cells })
      (record l { cells = change l.cells })
  cells-changed unwritten change as_many = record {
    room = λ c. refl;
    form = λ c. refl;
    listed = λ c. refl;
    cells =
        λ some. (omega (arith, some, as_many (lies.content).cells), sym (unwritten-mark b cs slot n l lies unwritten));
    loan = record {
      publisher = refl;
      header = refl;
      cells = as_many l.cells;
      complete = λ written. absurd (true≢false (sym written ∙ unwritten));
    };
    is = ap (λ (k : Loan T U). Lent_message n (record k { cells = change k.cells }))
        (sym (unwritten-parts b cs slot n l lies unwritten));
  }

  -- the values of a written loan are changed
  pub values-changed : l.is_written ≡ true → (change : List T → List T) (cells : List (Option T) → List (Option T))
      → ((values : List T) → length (change values) ≡ length values)
      → ((values : List T) → map Some (change values) ≡ cells (map Some values))
      → Changes Written (λ content. record content { values = change content.values })
      (record l { cells = cells l.cells })
  values-changed written change cells as_many alike = record {
    room = λ c. refl;
    form = λ c. refl;
    listed = λ c. refl;
    cells = λ some. (some, sym (written-mark b cs slot n l lies written));
    loan = record {
      publisher = refl;
      header = refl;
      cells = ap length cells-are ∙ length-map (change values) Some ∙ as_many values ∙ sym (length-map values Some)
          ∙ ap (λ (k : Loan T U). length k.cells) (sym parts);
      complete = λ _. ap (list_all is_some) cells-are ∙ all-written (change values);
    };
    is =
        ap (λ zs. Lent_message n (record {
          publisher = b.publisher;
          header = lies.header;
          user_header = (lies.content).user_header;
          cells = zs;
          is_written = true;
        })) (alike values)
        ∙ ap (λ (k : Loan T U). Lent_message n (record k { cells = cells k.cells })) (sym parts);
  } where
    values : List T
    values = (lies.content).values

    parts : l ≡ record {
      publisher = b.publisher;
      header = lies.header;
      user_header = (lies.content).user_header;
      cells = map Some values;
      is_written = true;
    }
    parts = written-parts b cs slot n l lies written

    cells-are : cells l.cells ≡ map Some (change values)
    cells-are = ap (λ (k : Loan T U). cells k.cells) parts ∙ sym (alike values)

  -- the user header is changed
  pub header-changed : (l.is_written ≡ true → is_initialized l ≡ true) → (user_header : U)
      → Changes lies.mark (with_user_header user_header) (record l { user_header = user_header })
  header-changed complete user_header = record {
    room = λ c. refl;
    form = λ c. refl;
    listed = λ c. refl;
    cells = λ some. (some, refl);
    loan = record { publisher = refl; header = refl; cells = refl; complete = complete };
    is = by lies.mark lies.is;
  } where
    by : (mark : SlotMark)
        → Lent_message n l ≡ message_of b.publisher (slice_index b.numbers slot) lies.header lies.content mark
        → message_of b.publisher n lies.header (with_user_header user_header lies.content) mark ≡ Lent_message n
        (record l { user_header = user_header })
    by Unwritten e = cc
    by Written e = cc
    by Sent e = absurd cc
