-- How many ports of a list of places pass a test, and which changes of the places leave no more of them.
use Rattle.std.proofs.Common.{◌≡◌, ℕ, zero, suc, ◌≤◌, Bool, true, false, cond, List, [], ◌∷◌, length, refl, sym, ap}
use Rattle.std.proofs.Common.{◌∙◌, arith, Option, None, Some, ◌⊎◌, ⊎_elim}
use Rattle.std.specs.List.{filter}
use Rattle.std.proofs.lemmas.Bool.{true≢false}
use Rattle.std.proofs.lemmas.Option.{none-some, same_Some}
use Rattle.iox2_machine.specs.machine.Numbers.{contains, IsOnce}
use Rattle.iox2_machine.specs.machine.Places.{occupant, occupants, set_place, places_kept}
use Rattle.iox2_laws.proofs.NumberLemmas.{contains_first, contains_later}

-- how many of these places have a port that passes the test
abbrev pub passing : (ℕ → Bool) → List (Option ℕ) → ℕ
passing test ends = length (filter test (occupants ends))

-- the same port before two lists of ports
longer-both : (test : ℕ → Bool) (k : ℕ) (ns ns' : List ℕ) → length (filter test ns') ≤ length (filter test ns)
    → length (filter test (k ∷ ns')) ≤ length (filter test (k ∷ ns))
longer-both test k ns ns' less = elim (test k) as (λ b.
    length (cond b (k ∷ filter test ns') (filter test ns')) ≤ length (cond b (k ∷ filter test ns) (filter test ns))) [
      | true ↦ omega arith
      | false ↦ less
    ]

longer : (test : ℕ → Bool) (k : ℕ) (ns : List ℕ) → length (filter test ns) ≤ length (filter test (k ∷ ns))
longer test k ns =
    elim (test k) as (λ b. length (filter test ns) ≤ length (cond b (k ∷ filter test ns) (filter test ns))) [
      | true ↦ omega arith
      | false ↦ omega arith
    ]

-- one fewer where one that passes is taken away
pub passing-removed : (test : ℕ → Bool) (xs : List (Option ℕ)) (place old : ℕ) → occupant xs place ≡ Some old
    → test old ≡ true → suc (passing test (set_place xs place None)) ≡ passing test xs
passing-removed test [] place old here is = absurd (none-some old here)
passing-removed test (None ∷ xs) zero old here is = absurd (none-some old here)
passing-removed test (Some k ∷ xs) zero old here is = rw (ap test (same_Some k old here) ∙ is) refl
passing-removed test (None ∷ xs) (suc place) old here is = passing-removed test xs place old here is
passing-removed test (Some k ∷ xs) (suc place) old here is =
    elim (test k) as (λ b.
    suc (length (cond b (k ∷ filter test (occupants (set_place xs place None)))
    (filter test (occupants (set_place xs place None)))))
    ≡ length (cond b (k ∷ filter test (occupants xs)) (filter test (occupants xs)))) [
      | true ↦ ap suc (passing-removed test xs place old here is)
      | false ↦ passing-removed test xs place old here is
    ]

-- no more where one that fails is put
pub passing-put : (test : ℕ → Bool) (xs : List (Option ℕ)) (place p : ℕ) → test p ≡ false
    → passing test (set_place xs place (Some p)) ≤ passing test xs
passing-put test [] zero p fails = rw fails (omega arith)
passing-put test [] (suc place) p fails = passing-put test [] place p fails
passing-put test (None ∷ xs) zero p fails = rw fails (omega arith)
passing-put test (Some k ∷ xs) zero p fails = rw fails (longer test k (occupants xs))
passing-put test (None ∷ xs) (suc place) p fails = passing-put test xs place p fails
passing-put test (Some k ∷ xs) (suc place) p fails =
    longer-both test k (occupants xs) (occupants (set_place xs place (Some p))) (passing-put test xs place p fails)

-- no more where some are left out
pub passing-kept : (test keep : ℕ → Bool) (xs : List (Option ℕ)) → passing test (places_kept keep xs) ≤ passing test xs
passing-kept test keep [] = omega arith
passing-kept test keep (None ∷ xs) = passing-kept test keep xs
passing-kept test keep (Some k ∷ xs) =
    elim (keep k) as (λ b. passing test (cond b (Some k) None ∷ places_kept keep xs) ≤ passing test (Some k ∷ xs)) [
      | true ↦ longer-both test k (occupants xs) (occupants (places_kept keep xs)) (passing-kept test keep xs)
      | false ↦
          let rest : passing test (places_kept keep xs) ≤ passing test xs = passing-kept test keep xs in
          let more : passing test xs ≤ passing test (Some k ∷ xs) = longer test k (occupants xs) in
          omega arith
    ]

-- no more pass a test that none passes newly
pub passing-less : (test test' : ℕ → Bool) (ns : List ℕ)
    → ((n : ℕ) → contains ns n ≡ true → test' n ≡ true → test n ≡ true)
    → length (filter test' ns) ≤ length (filter test ns)
passing-less test test' [] each = omega arith
passing-less test test' (k ∷ ns) each =
    let rest : length (filter test' ns) ≤ length (filter test ns) =
    passing-less test test' ns (λ n at. each n (contains_later k n ns at)) in
    let more : length (filter test ns) ≤ length (filter test (k ∷ ns)) = longer test k ns in
    elim (test' k) as (λ b. test' k ≡ b
    → length (cond b (k ∷ filter test' ns) (filter test' ns)) ≤ length (filter test (k ∷ ns))) [
      | true ↦ λ is.
          let both : length (filter test (k ∷ ns)) ≡ suc (length (filter test ns)) =
          rw (each k (contains_first k ns) is) refl in
          omega arith
      | false ↦ λ isnt. omega arith
    ] refl

-- at most one more passes a test that one alone passes newly
pub passing-one-more : (test test' : ℕ → Bool) (p : ℕ) (ns : List ℕ) → IsOnce ns
    → ((n : ℕ) → test' n ≡ true → (n ≡ p) ⊎ (test n ≡ true)) → length (filter test' ns) ≤ suc (length (filter test ns))
passing-one-more test test' p [] once each = omega arith
passing-one-more test test' p (k ∷ ns) once each =
    let rest : length (filter test' ns) ≤ suc (length (filter test ns)) =
    passing-one-more test test' p ns once.1 each in
    let more : length (filter test ns) ≤ length (filter test (k ∷ ns)) = longer test k ns in
    elim (test' k) as (λ b. test' k ≡ b
    → length (cond b (k ∷ filter test' ns) (filter test' ns)) ≤ suc (length (filter test (k ∷ ns)))) [
      | true ↦ λ is. ⊎_elim
          (λ its.
          let others : length (filter test' ns) ≤ length (filter test ns) =
          passing-less test test' ns
          (λ n at passes. ⊎_elim (λ same. absurd (true≢false (sym at ∙ ap (contains ns) (same ∙ sym its) ∙ once.0)))
          (λ before. before) (each n passes)) in
          omega arith)
          (λ before. let both : length (filter test (k ∷ ns)) ≡ suc (length (filter test ns)) = rw before refl in
          omega arith)
          (each k is)
      | false ↦ λ isnt. omega arith
    ] refl
