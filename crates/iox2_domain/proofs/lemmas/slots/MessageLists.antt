-- What lies in the slots of books, where only books without messages differ.
use Rattle.std.proofs.Common.{◌≡◌, ℕ, zero, suc, ◌+◌, List, [], ◌∷◌, Bool, get_or, refl, ap, sym, ◌∙◌}
use Rattle.std.specs.declared.option.Option.{Option}
use Rattle.std.specs.declared.option.Option.TheVariants.{None, Some}
use Rattle.iox2_connections.specs.LookUp.{look_up}
use Rattle.iox2_domain.specs.Kept.{KeptMessage, KeptBook, is_numbered, message_numbered}
use Rattle.iox2_domain.specs.Fields.{map_from}

-- nothing is found where nothing lies
pub look_up-nothing_there : {A B : Type 0} (test : B → Bool) (view : ℕ → A → Option B)
    → ((k : ℕ) (x : A) → view k x ≡ None) → (start : ℕ) (xs : List A)
    → look_up test (map_from view start xs) ≡ None
look_up-nothing_there test view none start [] = refl
look_up-nothing_there test view none start (x ∷ xs) =
    ap (λ o. look_up test (o ∷ map_from view (start + 1) xs)) (none start x)
    ∙ look_up-nothing_there test view none (start + 1) xs

module _ {T U : Type 0} (n : ℕ) where
  -- what has the number in a book
  abbrev pub found_in : Option (KeptBook T U) → Option (KeptMessage T U)
  found_in None = None
  found_in (Some book) = look_up (is_numbered n) book.slots

  -- the first of two
  abbrev first : Option (KeptMessage T U) → Option (KeptMessage T U) → Option (KeptMessage T U)
  first None later = later
  first (Some found) later = Some found

  numbered-next : (o : Option (KeptBook T U)) (books : List (Option (KeptBook T U)))
      → message_numbered n (o ∷ books) ≡ first (found_in o) (message_numbered n books)
  numbered-next None books = refl
  numbered-next (Some book) books = by (look_up (is_numbered n) book.slots) refl where
    by : (found : Option (KeptMessage T U)) → look_up (is_numbered n) book.slots ≡ found
        → message_numbered n (Some book ∷ books) ≡ first found (message_numbered n books)
    by None e = rw e refl
    by (Some m) e = rw e refl

  nothing_numbered : (books : List (Option (KeptBook T U))) → ((i : ℕ) → found_in (get_or books i None) ≡ None)
      → message_numbered n books ≡ None
  nothing_numbered [] none = refl
  nothing_numbered (o ∷ books) none =
      numbered-next o books ∙ ap (λ found. first found (message_numbered n books)) (none zero)
      ∙ nothing_numbered books (λ i. none (suc i))

  past_end : (i : ℕ) → get_or {A = Option (KeptBook T U)} [] i None ≡ None
  past_end zero = refl
  past_end (suc i) = refl

  -- the same messages are found where each key has the same
  pub numbered-same : (old new : List (Option (KeptBook T U)))
      → ((i : ℕ) → found_in (get_or new i None) ≡ found_in (get_or old i None))
      → message_numbered n new ≡ message_numbered n old
  numbered-same [] new same = nothing_numbered new (λ i. same i ∙ ap found_in (past_end i))
  numbered-same (o ∷ old) [] same = sym (nothing_numbered (o ∷ old) (λ i. sym (same i) ∙ ap found_in (past_end i)))
  numbered-same (o ∷ old) (o' ∷ new) same =
      numbered-next o' new
      ∙ ap (λ found. first found (message_numbered n new)) (same zero)
      ∙ ap (first (found_in o)) (numbered-same old new (λ i. same (suc i)))
      ∙ sym (numbered-next o old)
