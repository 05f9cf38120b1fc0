-- How many different numbers a list has.
use Rattle.std.proofs.Common.{◌≡◌, ℕ, ◌≤◌, List, length, true, sym, ◌∙◌, arith}
use Rattle.iox2_machine.specs.machine.Numbers.{contains, size, distinct, IsOnce}
use Rattle.iox2_laws.proofs.NumberLemmas.{contains-distinct, IsOnce-distinct, length_le}

-- there are no more different numbers than in a list that has them all
pub size_le : (ns ms : List ℕ) → IsOnce ms → ((n : ℕ) → contains ns n ≡ true → contains ms n ≡ true)
    → size ns ≤ length ms
size_le ns ms o has =
    length_le (distinct ns) ms (IsOnce-distinct ns) o (λ n h. has n (sym (contains-distinct ns n) ∙ h))

-- the number of different numbers is the length of a list that has the same numbers once each
pub size_is : (ns ms : List ℕ) → IsOnce ms → ((n : ℕ) → contains ns n ≡ contains ms n) → size ns ≡ length ms
size_is ns ms o same =
    let up : length (distinct ns) ≤ length ms =
    length_le (distinct ns) ms (IsOnce-distinct ns) o (λ n h. sym (same n) ∙ sym (contains-distinct ns n) ∙ h) in
    let down : length ms ≤ length (distinct ns) =
    length_le ms (distinct ns) o (IsOnce-distinct ns) (λ n h. contains-distinct ns n ∙ same n ∙ h) in
    omega arith
