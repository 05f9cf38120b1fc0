-- A book is freed where nobody needs it any more.
use Rattle.std.proofs.Common.{◌≡◌, ◌≢◌, ◌<◌, ℕ, zero, suc, Bool, true, false, not, List, [], ◌∷◌, length, get_or}
use Rattle.std.proofs.Common.{is_some, Option, None, Some, IsSomeAnd, MatchOption, refl, ap, sym, subst, ◌∙◌, inl, inr}
use Rattle.std.proofs.Common.{◌⊎◌, arith}
use Rattle.std.proofs.lemmas.Bool.{cases_eq, cases_lt, eq-eqb, true≢false}
use Rattle.std.proofs.lemmas.List.Elements.{All-get_or, All-from_get_or}
use Rattle.std.proofs.lemmas.List.{get_or_past}
use Rattle.std.specs.List.{All}
use Rattle.slab.specs.Slab.{get}
use Rattle.iox2_slots.specs.SlotBook.{Book, holders_at}
use Rattle.iox2_contents.specs.SlotContents.{ContentState}
use Rattle.iox2_machine.specs.machine.State.{State}
use Rattle.iox2_machine.specs.machine.WellFormed.{IsWellFormed}
use Rattle.iox2_connections.specs.LookUp.{look_up}
use Rattle.iox2_connections.proofs.LookUps.{look_up-none}
use Rattle.iox2_connections.proofs.MailboxChanges.{within_if_some}
use Rattle.iox2_domain.specs.Ports.{PublisherFields}
use Rattle.iox2_domain.specs.Fields.{Fields, kept_of}
use Rattle.iox2_domain.specs.Kept.{state_of}
use Rattle.iox2_domain.specs.Invariant.{HasParts, KeepsBooks, IsLeft, IsOwned, IsUsed, is_publisher, IsGone}
use Rattle.iox2_domain.specs.LeftBooks.{with_book_gone}
use Rattle.iox2_domain.specs.Midway.{ChangesBooks, IsMidway}
use Rattle.iox2_domain.specs.Reaches.{Reaches}
use Rattle.iox2_domain.proofs.lemmas.fields.KeptBooks.{none-stands}
use Rattle.iox2_domain.proofs.lemmas.fields.Parts.{whole_of}
use Rattle.iox2_domain.proofs.lemmas.slots.LeftConnections.{stands-nowhere}
use Rattle.iox2_domain.proofs.lemmas.slots.SettledBooks.{goes}
use Rattle.iox2_domain.proofs.lemmas.fields.PlacesKept.{places-then}

-- ---- counters

-- some counter isn't none, or each is
held-or-free : (xs : List ℕ) → ((i : ℕ) × (0 < get_or xs i 0)) ⊎ ((i : ℕ) → get_or xs i 0 ≡ 0)
held-or-free [] = inr none where
  none : (i : ℕ) → get_or {A = ℕ} [] i 0 ≡ 0
  none zero = refl
  none (suc i) = refl
held-or-free (suc n ∷ xs) = inl (zero, omega arith)
held-or-free (zero ∷ xs) = by (held-or-free xs) where
  all : ((i : ℕ) → get_or xs i 0 ≡ 0) → (i : ℕ) → get_or (zero ∷ xs) i 0 ≡ 0
  all each zero = refl
  all each (suc i) = each i

  by : ((i : ℕ) × (0 < get_or xs i 0)) ⊎ ((i : ℕ) → get_or xs i 0 ≡ 0)
      → ((i : ℕ) × (0 < get_or (zero ∷ xs) i 0)) ⊎ ((i : ℕ) → get_or (zero ∷ xs) i 0 ≡ 0)
  by (inl some) = inl (suc some.0, some.1)
  by (inr each) = inr (all each)

-- a book that isn't unused is used
pub used-book : (b : Book) → (All (λ n. n ≡ 0) b.holders → ⊥) → IsUsed b
used-book b used = elim (held-or-free b.holders) [
  | inl some ↦ record { slot = some.0; in_use = some.1 }
  | inr each ↦ absurd (used (All-from_get_or (λ n. n ≡ 0) b.holders 0 (λ i lt. each i)))
]

-- no slot of an unused book has a holder
pub unused-book : (b : Book) → All (λ n. n ≡ 0) b.holders → (slot : ℕ) → holders_at b slot ≡ 0
unused-book b unused slot = elim (cases_lt slot (length b.holders)) [
  | inl low ↦ All-get_or (λ n. n ≡ 0) b.holders slot 0 low unused
  | inr past ↦ get_or_past b.holders slot 0 past
]

-- ---- midway

module _ {T U : Type 0} (f : Fields T U) where
  -- where each book is kept a step is done
  pub attains : KeepsBooks f.next_port f.publishers f.books → (before : Fields T U) (s : State T U) (key : ℕ)
      → IsMidway before f s key → state_of (kept_of f) ≡ s → IsWellFormed s → Reaches before f s
  attains kept before s key midway is well = record {
    agrees = whole_of f midway.consistent midway.lone kept (subst IsWellFormed (sym is) well) midway.complete;
    state = is;
    entries = midway.entries;
    places = midway.places;
  }

  -- a book is kept where it is used if its publisher is gone
  kept-where : (before : Fields T U) (s : State T U) (key : ℕ) → IsMidway before f s key
      → ((b : Book) → get f.books key ≡ Some b → IsGone f.next_port f.publishers b.publisher → IsUsed b)
      → KeepsBooks f.next_port f.publishers f.books
  kept-where before s key midway used = record {
    at = λ k b at_b. elim (cases_eq k key) [
      | inr away ↦ midway.kept_books.others k b away at_b
      | inl here ↦
          let at_key : get f.books key ≡ Some b = sym (ap (get f.books) here) ∙ at_b in
          elim (midway.kept_books.own b at_key) [
            | inl owned ↦ subst (λ (i : ℕ). IsOwned f.publishers i b.publisher ⊎ IsLeft f.next_port f.publishers b)
                (sym here) (inl owned)
            | inr left ↦ inr (left, used b at_key left)
          ]
    ];
  }

  -- a book that is used, or whose publisher is found, is kept
  pub kept-used : (before : Fields T U) (s : State T U) (key : ℕ) → IsMidway before f s key
      → ((b : Book) → get f.books key ≡ Some b → IsUsed b) → KeepsBooks f.next_port f.publishers f.books
  kept-used before s key midway used = kept-where before s key midway (λ b at_b _. used b at_b)

  pub kept-found : (before : Fields T U) (s : State T U) (key : ℕ) → IsMidway before f s key → (b : Book)
      → get f.books key ≡ Some b → (look_up (is_publisher b.publisher) f.publishers ≡ None → ⊥)
      → KeepsBooks f.next_port f.publishers f.books
  kept-found before s key midway b at_b stands = kept-where before s key midway (λ d at_key left.
      let one : Some d ≡ Some b = sym at_key ∙ at_b in
      let is : d ≡ b = cc in
      absurd (stands (ap (λ (e : Book). look_up (is_publisher e.publisher) f.publishers) (sym is)
      ∙ none-stands f.next_port f.publishers d.publisher left)))

-- the book goes
pub frees : {T U : Type 0} (f : Fields T U) (key : ℕ) (b : Book) → get f.books key ≡ Some b
    → ((slot : ℕ) → holders_at b slot ≡ 0) → look_up (is_publisher b.publisher) f.publishers ≡ None
    → (before : Fields T U) (s : State T U) → IsMidway before f s key → state_of (kept_of f) ≡ s → IsWellFormed s
    → Reaches before (with_book_gone f key) s
frees f key b at_b free gone before s midway is well =
    let gone_now = goes f midway.consistent midway.lone (subst IsWellFormed (sym is) well) midway.complete key b at_b
    known absent (λ k c away at_c. midway.kept_books.others k c away at_c) free in
    record {
      agrees = gone_now.agrees;
      state = gone_now.state ∙ is;
      entries = λ n entry e.
          midway.entries n entry (gone_now.entries n entry e);
      places = places-then midway.places gone_now.places;
    }
  where
    absent : (i : ℕ) (x : PublisherFields) → get_or f.publishers i None ≡ Some x → x.id ≢ b.publisher
    absent = stands-nowhere f.publishers b.publisher gone

    known : b.publisher < f.next_port
    known = elim (midway.kept_books.own b at_b) [
      | inl owned ↦ absurd (absent owned.place owned.publisher owned.stands owned.is_its)
      | inr left ↦ left.known
    ]

-- a book has contents
pub contents-within : {T U : Type 0} (f : Fields T U) → HasParts f → (key : ℕ) (b : Book) → get f.books key ≡ Some b
    → key < length f.contents
contents-within {T} {U} f parts key b at_b =
    by (get_or f.contents key None) refl (parts.books.books key b at_b).shaped where
      by : (o : Option (List (ContentState T U))) → get_or f.contents key None ≡ o
          → IsSomeAnd o (λ cs. length cs ≡ length b.holders) → key < length f.contents
      by None e h = absurd h
      by (Some cs) e h = within_if_some f.contents key cs e

-- ---- what the code finds

module _ {T U : Type 0} (f : Fields T U) (id : ℕ) where
  abbrev Finds : Option ℕ → Type 0
  Finds o = MatchOption o (look_up (is_publisher id) f.publishers ≡ None)
      (λ i. (x : PublisherFields) × (get_or f.publishers i None ≡ Some x) × (x.id ≡ id))

  -- a publisher that isn't found is gone
  pub found-none : (o : Option ℕ) → Finds o → (r : Bool) → is_some o ≡ not r → r ≡ true
      → look_up (is_publisher id) f.publishers ≡ None
  found-none None finds r is told = finds
  found-none (Some i) finds r is told = absurd (true≢false (is ∙ ap not told))

  -- one that is found isn't
  pub found-some : (o : Option ℕ) → Finds o → (r : Bool) → is_some o ≡ not r → r ≡ false
      → look_up (is_publisher id) f.publishers ≡ None → ⊥
  found-some None finds r is told none = true≢false (sym (is ∙ ap not told))
  found-some (Some i) finds r is told none = true≢false
      (sym (eq-eqb finds.0.id id finds.2) ∙ look_up-none (is_publisher id) f.publishers none i finds.0 finds.1)

-- nothing else changes
pub only-books : {T U : Type 0} (f new : Fields T U) (key : ℕ) → new ≡ with_book_gone f key → ChangesBooks f new
only-books f new key is = subst (ChangesBooks f) (sym is) refl
