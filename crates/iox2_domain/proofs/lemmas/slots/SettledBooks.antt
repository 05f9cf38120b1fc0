-- A book of a publisher that is gone is settled: it goes if no slot of it has a holder.
use Rattle.std.proofs.Common.{◌≡◌, ◌≢◌, ℕ, zero, suc, ◌<◌, List, [], ◌∷◌, get_or, refl, ap, sym, subst, ◌∙◌, inl, inr}
use Rattle.std.proofs.Common.{◌⊎◌, arith}
use Rattle.std.proofs.lemmas.Bool.{cases_eq, eq-eqb}
use Rattle.std.specs.List.{All}
use Rattle.std.specs.Option.{option_and_then}
use Rattle.std.specs.declared.option.Option.TheVariants.{None, Some}
use Rattle.slab.specs.Slab.{get}
use Rattle.iox2_connections.specs.Link.{Link}
use Rattle.iox2_slots.specs.SlotBook.{Book, holders_at}
use Rattle.iox2_machine.specs.Stored.{IsHeldMessage, In_mailbox}
use Rattle.iox2_machine.specs.machine.State.{State}
use Rattle.iox2_machine.specs.machine.WellFormed.{IsWellFormed}
use Rattle.iox2_domain.specs.LeftBooks.{with_book_gone, IsUnused, SettlesBook}
use Rattle.iox2_domain.specs.Ports.{PublisherFields}
use Rattle.iox2_domain.specs.Kept.{state_of, entries_of, entry_in}
use Rattle.iox2_domain.specs.Fields.{Fields, kept_of}
use Rattle.iox2_domain.specs.Invariant.{HasLoneLoans, IsOwned, IsLeft, HasParts}
use Rattle.iox2_domain.specs.Reaches.{Reaches}
use Rattle.iox2_domain.specs.Shows.{KeepsEntries}
use Rattle.iox2_domain.proofs.lemmas.fields.Parts.{whole_of}
use Rattle.iox2_domain.proofs.lemmas.slots.BookGone.{gone-parts, gone-state, messages-same, gone-lone, gone-kept}
use Rattle.iox2_domain.proofs.lemmas.slots.BookGone.{gone-number}
use Rattle.iox2_domain.proofs.lemmas.slots.HeldMessages.{held-message-slot}
use Rattle.iox2_domain.proofs.lemmas.slots.LeftConnections.{some-number, left-numbers}
use Rattle.iox2_domain.proofs.lemmas.fields.PlacesKept.{places-back, places-still}

-- no counter, or some, is above zero
all-zero : (xs : List ℕ) → All (λ n. n ≡ 0) xs → (k : ℕ) → get_or xs k 0 ≡ 0
all-zero [] all k = none k where
  none : (i : ℕ) → get_or {A = ℕ} [] i 0 ≡ 0
  none zero = refl
  none (suc i) = refl
all-zero (x ∷ xs) all zero = all 0 0 (omega arith)
all-zero (x ∷ xs) all (suc k) = all-zero xs (λ i d lt. all (suc i) d (omega (arith, lt))) k

zero-or-some : (xs : List ℕ) → All (λ n. n ≡ 0) xs ⊎ ((k : ℕ) × (0 < get_or xs k 0))
zero-or-some [] = inl (λ k d lt. absurd (omega arith))
zero-or-some (suc x ∷ xs) = inr (0, omega arith)
zero-or-some (zero ∷ xs) = elim (zero-or-some xs) [
  | inl all ↦ inl (with_first all)
  | inr some ↦ inr (suc some.0, some.1)
] where
  with_first : All (λ n. n ≡ 0) xs → All (λ n. n ≡ 0) (zero ∷ xs)
  with_first all zero d lt = refl
  with_first all (suc k) d lt = all k d (omega (arith, lt))

module _ {T U : Type 0} (f : Fields T U) (parts : HasParts f) (lone : HasLoneLoans f.books)
    (well : IsWellFormed (state_of (kept_of f))) (entries : KeepsEntries (kept_of f))
    (key : ℕ) (b : Book) (at : get f.books key ≡ Some b) (known : b.publisher < f.next_port)
    (gone : (i : ℕ) (x : PublisherFields) → get_or f.publishers i None ≡ Some x → x.id ≢ b.publisher)
    (others : (k : ℕ) (c : Book) → k ≢ key → get f.books k ≡ Some c
    → IsOwned f.publishers k c.publisher ⊎ IsLeft f.next_port f.publishers c) where
  -- where no slot has a holder, no connection of its publisher is left
  pub unnamed : ((s : ℕ) → holders_at b s ≡ 0) → (k : ℕ) (c : Link) → get f.connections k ≡ Some c
      → c.home.publisher ≢ b.publisher
  unnamed unused k c there same =
      let some = some-number ((state_of (kept_of f)).mailboxes b.publisher c.home.subscriber)
      (left-numbers f b.publisher gone parts well k c there same) in
      let held : IsHeldMessage (state_of (kept_of f)) b.publisher some.0 = In_mailbox c.home.subscriber some.1 in
      let lying = held-message-slot f parts.counted parts.publisher_ids parts.plain b.publisher some.0 held in
      let has = lying.2 in
      let here : lying.0 ≡ key =
      (parts.books.one_each b.publisher).one lying.0 key has.book b has.stands at
      (eq-eqb (has.book).publisher b.publisher lying.3) (eq-eqb b.publisher b.publisher refl) in
      let both : Some has.book ≡ Some b = sym has.stands ∙ ap (get f.books) here ∙ at in
      let is : has.book ≡ b = cc in
      let used : 0 < holders_at has.book lying.1 = has.in_use in
      let none : holders_at has.book lying.1 ≡ 0 = ap (λ (d : Book). holders_at d lying.1) is ∙ unused lying.1 in
      omega (arith, used, none)

  -- it goes
  pub goes : ((s : ℕ) → holders_at b s ≡ 0) → Reaches f (with_book_gone f key) (state_of (kept_of f))
  goes unused = record {
    agrees = whole_of (with_book_gone f key)
        (gone-parts f parts key b at unused gone (unnamed unused))
        (gone-lone f parts key b at unused gone (unnamed unused) lone)
        (gone-kept f parts key b at unused gone (unnamed unused) others)
        (subst IsWellFormed (sym (gone-state f parts key b at unused gone (unnamed unused))) well)
        (λ q m held.
        let old = entries q m (subst (λ (s : State T U). IsHeldMessage s q m)
        (gone-state f parts key b at unused gone (unnamed unused)) held) in
        (old.0, same-entries m ∙ old.1, old.2));
    state = gone-state f parts key b at unused gone (unnamed unused);
    entries = λ m entry e. sym (same-entries m) ∙ e;
    places = places-back (gone-number f parts key b at unused gone (unnamed unused));
  } where
    -- the same entries are kept
    same-entries : (m : ℕ) → entries_of (kept_of (with_book_gone f key)) m ≡ entries_of (kept_of f) m
    same-entries m = ap (option_and_then entry_in) (messages-same f parts key b at unused gone (unnamed unused) m)

  -- it stays
  stays : (s : ℕ) → 0 < holders_at b s → Reaches f f (state_of (kept_of f))
  stays s some = record {
    agrees = whole_of f parts lone (record { at = kept }) well entries;
    state = refl;
    entries = λ m entry e. e;
    places = places-still;
  } where
    kept : (k : ℕ) (c : Book) → get f.books k ≡ Some c
        → IsOwned f.publishers k c.publisher ⊎ IsLeft f.next_port f.publishers c
    kept k c there = elim (cases_eq k key) [
      | inr away ↦ others k c away there
      | inl same ↦
          let both : Some b ≡ Some c = sym at ∙ ap (get f.books) (sym same) ∙ there in
          let is : b ≡ c = cc in
          inr (subst (IsLeft f.next_port f.publishers) is
          (record { known = known; absent = gone }, record { slot = s; in_use = some }))
    ]

  -- all agrees afterwards, and the machine sees nothing of it
  pub settles : (new : Fields T U) → SettlesBook f key new → Reaches f new (state_of (kept_of f))
  settles new l = by (subst Outcome same l.outcome) where
    Outcome : Book → Type 0
    Outcome c = (IsUnused c × (new ≡ with_book_gone f key)) ⊎ ((IsUnused c → ⊥) × (new ≡ f))

    same : l.book ≡ b
    same = let both : Some l.book ≡ Some b = sym l.stands ∙ at in cc

    by : Outcome b → Reaches f new (state_of (kept_of f))
    by (inl all) =
        subst (λ (h : Fields T U). Reaches f h (state_of (kept_of f))) (sym all.1) (goes (all-zero b.holders all.0))
    by (inr some) = subst (λ (h : Fields T U). Reaches f h (state_of (kept_of f))) (sym some.1)
        (elim (zero-or-some b.holders) [ inl all ↦ absurd (some.0 all) | inr used ↦ stays used.0 used.1 ])
