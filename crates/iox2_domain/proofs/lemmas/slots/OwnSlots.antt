-- A publisher's own slots change, and its book with them: the state then, and what holds still.
use Rattle.std.proofs.Common.{◌≡◌, ◌≢◌, ℕ, ◌+◌, cond, map, get_or, refl, ap, sym, ◌∙◌, inl, inr, arith}
use Rattle.std.proofs.lemmas.Bool.{cases_eq, ne_eqb, eq-eqb}
use Rattle.std.specs.Prelude.{◌<◌, List, slice_get, slice_set}
use Rattle.std.specs.declared.option.Option.{Option}
use Rattle.std.specs.declared.option.Option.TheVariants.{None, Some}
use Rattle.std.specs.Option.{option_map, option_map_or}
use Rattle.std.specs.List.{sum_by}
use Rattle.slab.specs.Slab.{get, with_value}
use Rattle.iox2_slots.specs.SlotBook.{Book, IsAligned, holders_at}
use Rattle.iox2_slots.specs.declared.slots.mark.SlotMark.TheVariants.{Unwritten}
use Rattle.iox2_contents.specs.SlotContents.{ContentState}
use Rattle.iox2_machine.specs.machine.Numbers.{put_at}
use Rattle.iox2_machine.specs.machine.Records.{Loan}
use Rattle.iox2_machine.specs.machine.State.{State}
use Rattle.iox2_connections.specs.LookUp.{look_up}
use Rattle.iox2_connections.specs.Counters.{times, stands}
use Rattle.iox2_connections.specs.Mailboxes.{sender_ends}
use Rattle.iox2_domain.specs.Ports.{PublisherFields}
use Rattle.iox2_domain.specs.Kept.{state_of}
use Rattle.iox2_domain.specs.Fields.{Fields, kept_of, publisher_of, is_book_of, blocked_send}
use Rattle.iox2_domain.specs.Invariant.{HasParts, HasBooks, HasForms, HasOpenLoans, IsCounted, IsNumbered, HasShapes}
use Rattle.iox2_domain.specs.Invariant.{LendsBlocked, is_publisher, own_holders, holders_of, is_loan_in, cell_count}
use Rattle.iox2_domain.proofs.lemmas.fields.NamedBooks.{names-books}
use Rattle.iox2_domain.proofs.lemmas.fields.SameLinks.{linked-same}
use Rattle.iox2_domain.proofs.lemmas.slots.Holders.{book-holders, own-slots}
use Rattle.iox2_domain.proofs.lemmas.slots.OpenLoans.{kept-lists, mark-here, open-own, same-lists}
use Rattle.iox2_domain.proofs.lemmas.slots.BookChanges.{KeepsSlots, with_book, book-after, holders-here, other-book}
use Rattle.iox2_domain.proofs.lemmas.slots.BookChanges.{numbers-same, book-state, books-changed, linked-book}
use Rattle.iox2_domain.proofs.lemmas.loans.PublisherChanges.{KeepsSettings, changed-ids_apart, changed-is}
use Rattle.iox2_domain.proofs.lemmas.loans.PublisherChanges.{changed-linked_same, changed-books, changed-room}
use Rattle.iox2_domain.proofs.lemmas.loans.PublisherChanges.{changed-plain, changed-own}

module _ {T U : Type 0} (f : Fields T U) (parts : HasParts f) (i : ℕ) (x : PublisherFields)
    (here : get_or f.publishers i None ≡ Some x)
    (b : Book) (at : get f.books x.book ≡ Some b) (mine : b.publisher ≡ x.id)
    (y : PublisherFields) (settings : KeepsSettings x y) (d : Book) (keeps : KeepsSlots b d) where
  -- the fields with these contents of slots
  abbrev pub with_contents : List (Option (List (ContentState T U))) → Fields T U → Fields T U
  with_contents contents g = record g { contents = contents }

  -- the fields afterwards
  abbrev pub with_own : Fields T U
  with_own = record f { publishers = slice_set f.publishers i (Some y); books = with_value f.books x.book d }

  -- with the book alone changed
  abbrev between : Fields T U
  between = with_book f x.book d

  -- the machine sees the publisher's new record, and the loans that are out then
  pub own-is : (loans : ℕ → Option (Loan T U)) → (state_of (kept_of with_own)).loans ≡ loans
      → state_of (kept_of with_own) ≡ record (state_of (kept_of f)) {
        publishers = put_at (state_of (kept_of f)).publishers x.id (Some ((publisher_of f.books f.connections y).port));
        loans = loans;
      }
  own-is loans are =
      changed-is between i x y here settings.id parts.publisher_ids
      ∙ ap (λ (s : State T U).
      record s { publishers = put_at s.publishers x.id (Some ((publisher_of between.books f.connections y).port)) })
      (book-state f x.book b d at keeps parts.books.one_each)
      ∙ (λ t. record (state_of (kept_of f))
      { publishers = put_at (state_of (kept_of f)).publishers x.id (Some (port t)); loans = are t })
    where
      port : (publisher_of between.books f.connections y).port ≡ (publisher_of f.books f.connections y).port
      port = λ t. record (publisher_of f.books f.connections y).port {
        loans = map (numbers-same f x.book b d at keeps parts.books.one_each t y.id) y.loans;
        history = map (numbers-same f x.book b d at keeps parts.books.one_each t y.id) (y.history).items;
        blocked = option_map (blocked_send (numbers-same f x.book b d at keeps parts.books.one_each t y.id)
            (sender_ends f.connections y.keys)) y.blocked;
      }

  module _ (counts : (s : ℕ) → times s y.loans + times s (y.history).items + holders_at b s ≡ times s x.loans + times s
      (x.history).items + holders_at d s) where
    -- what the publisher itself has of the slot, or what is out of one that is gone
    abbrev own : (s : ℕ) → Option PublisherFields → Option Book → ℕ
    own s o book =
        option_map_or (λ (z : PublisherFields). times s z.loans + times s (z.history).items) o
        (option_map_or (λ c. cond (is_loan_in c s) 1 0) book 0)

    -- each slot has as many holders as it stands in lists
    pub own-counted : IsCounted with_own
    own-counted =
        record { at = λ p s. elim (cases_eq p x.id) [ inl is ↦ rw is (its s) | inr away ↦ others p s away ] } where
          its : (s : ℕ)
              → holders_of with_own.books x.id s ≡ own_holders with_own x.id s + sum_by
              (stands x.id s) f.connections.slots
          its s =
              let now : holders_of with_own.books x.id s ≡ holders_at d s =
              holders-here f x.book b d at keeps parts.books.one_each x.id s (keeps.publisher ∙ mine) in
              let then : holders_of f.books x.id s ≡ holders_at b s =
              book-holders f.books x.book x.id b (parts.books.one_each x.id) at mine s in
              let has : own_holders f x.id s ≡ times s x.loans + times s (x.history).items =
              own-slots f parts.publisher_ids i x here s in
              let has_now : own_holders with_own x.id s ≡ times s y.loans + times s (y.history).items =
              changed-own between i x y here settings.id parts.publisher_ids x.id s
              ∙ ap (λ t. cond t (times s y.loans + times s (y.history).items) (own_holders between x.id s))
              (eq-eqb x.id x.id refl) in
              omega (arith, now, then, has, has_now, parts.counted.at x.id s, counts s)

          others : (p s : ℕ) → p ≢ x.id
              → holders_of with_own.books p s ≡ own_holders with_own p s + sum_by (stands p s) f.connections.slots
          others p s away =
              let book : look_up (is_book_of p) with_own.books.slots ≡ look_up (is_book_of p) f.books.slots =
              other-book f x.book b d at keeps parts.books.one_each p
              (ne_eqb d.publisher p (λ same. away (sym same ∙ keeps.publisher ∙ mine))) in
              let now : holders_of with_own.books p s ≡ holders_of f.books p s =
              ap (λ o. option_map_or (λ (c : Book). holders_at c s) o 0) book in
              let has_now : own_holders with_own p s ≡ own_holders between p s =
              changed-own between i x y here settings.id parts.publisher_ids p s
              ∙ ap (λ t. cond t (times s y.loans + times s (y.history).items) (own_holders between p s))
              (ne_eqb x.id p (λ same. away (sym same))) in
              let same : own_holders between p s ≡ own_holders f p s =
              ap (own s (look_up (is_publisher p) f.publishers)) book in
              omega (arith, now, has_now, same, parts.counted.at p s)

    -- the fields agree with one another, with these contents of slots
    pub own-parts_with : (contents : List (Option (List (ContentState T U)))) → y.keys ≡ x.keys
        → (LendsBlocked x → LendsBlocked y) → IsNumbered f.next_message with_own.books
        → HasBooks (with_contents contents with_own) → HasShapes (with_contents contents with_own)
        → HasForms f.config contents
        → HasOpenLoans f.config with_own.publishers with_own.books contents → HasParts (with_contents contents with_own)
    own-parts_with contents same_keys lends numbered books shapes forms open_loans = record {
      publisher_ids = changed-ids_apart f i x y here settings.id parts.publisher_ids;
      subscriber_ids = parts.subscriber_ids;
      apart = parts.apart;
      linked = linked-same with_own f.next_message f.warnings with_own.books contents
          (changed-linked_same between i x y here settings.id
          (linked-book f x.book b d at keeps parts.linked) settings.key_room same_keys);
      expired_room = parts.expired_room;
      books = books;
      names = names-books f.books _ f.connections (book-after f x.book b d at keeps) parts.names;
      counted = record { at = own-counted.at };
      numbered = numbered;
      publisher_room = changed-room f i x y here settings.id parts.publisher_room settings;
      warning_room = parts.warning_room;
      shapes = shapes;
      forms = forms;
      open_loans = open_loans;
      plain = changed-plain f i x y here settings.id parts.plain settings lends;
    }

    -- the publisher has its book
    pub own-books : IsAligned d → HasBooks with_own
    own-books aligned =
        changed-books between i x y here settings.id (books-changed f x.book b d at keeps parts.books aligned) settings

    -- each loan that isn't written is still one
    abbrev pub KeepsUnwritten : Type 0
    KeepsUnwritten = (s : ℕ) → 0 < cell_count f.contents x.book s → slice_get b.marks s ≡ Some Unwritten
        → 0 < times s x.loans → (0 < times s y.loans) × (slice_get d.marks s ≡ Some Unwritten)

    -- the same with the contents that there were
    pub own-parts : y.keys ≡ x.keys → (LendsBlocked x → LendsBlocked y) → KeepsUnwritten → IsAligned d
        → IsNumbered f.next_message with_own.books → HasShapes with_own → HasParts with_own
    own-parts same_keys lends unwritten aligned numbered shapes =
        own-parts_with f.contents same_keys lends numbered (own-books aligned) shapes parts.forms
        (open-own f parts i x here y b d at f.contents (λ k away. refl) settings.book settings.max_loaned_samples still
        (kept-lists f parts i x here y b d at f.contents (λ k away. refl) (same-lists f.contents)))
      where
        still : (s : ℕ) → 0 < cell_count f.contents x.book s
            → (0 < times s y.loans) × (slice_get d.marks s ≡ Some Unwritten)
        still s some = let loan = parts.open_loans.at i s x here some in
            unwritten s some (sym (mark-here f.books x.book b at s) ∙ loan.unwritten) loan.out
