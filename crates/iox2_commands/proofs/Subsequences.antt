-- Lists that are a part of another, in the same order.
use Rattle.std.proofs.Common.{◌≡◌, ℕ, zero, suc, ◌-◌, true, List, [], ◌∷◌, ◌++◌, drop, length, refl, sym, subst, ◌∙◌}
use Rattle.std.proofs.Common.{eqb, ⊎_elim}
use Rattle.std.proofs.lemmas.Bool.{true≢false, or_cases, or_left, or_right}
use Rattle.std.proofs.lemmas.List.{append_assoc}
use Rattle.iox2_machine.specs.machine.Numbers.{contains, last_n, IsOnce}
use Rattle.iox2_laws.proofs.NumberLemmas.{false_from}
use Rattle.iox2_commands.specs.Runs.{IsSubsequence, Empty, Left_out, Taken}

-- nothing is a part of any list
pub IsSubsequence-nil : (ms : List ℕ) → IsSubsequence [] ms
IsSubsequence-nil [] = Empty
IsSubsequence-nil (m ∷ ms) = Left_out (IsSubsequence-nil ms)

-- a list is a part of itself
pub IsSubsequence-refl : (ms : List ℕ) → IsSubsequence ms ms
IsSubsequence-refl [] = Empty
IsSubsequence-refl (m ∷ ms) = Taken (IsSubsequence-refl ms)

-- a list that is the other is a part of it
pub IsSubsequence-same : {ns ms : List ℕ} → ns ≡ ms → IsSubsequence ns ms
IsSubsequence-same {ns} {ms} e = subst (λ v. IsSubsequence ns v) e (IsSubsequence-refl ns)

-- a part of a part is a part
pub IsSubsequence-trans : {ns ms ks : List ℕ} → IsSubsequence ns ms → IsSubsequence ms ks → IsSubsequence ns ks
IsSubsequence-trans a Empty = a
IsSubsequence-trans a (Left_out b) = Left_out (IsSubsequence-trans a b)
IsSubsequence-trans (Left_out a) (Taken b) = Left_out (IsSubsequence-trans a b)
IsSubsequence-trans (Taken a) (Taken b) = Taken (IsSubsequence-trans a b)

-- parts of two lists, joined, are a part of the two joined
pub IsSubsequence-append : {ns ms : List ℕ} → IsSubsequence ns ms → (ks ls : List ℕ) → IsSubsequence ks ls
    → IsSubsequence (ns ++ ks) (ms ++ ls)
IsSubsequence-append Empty ks ls b = b
IsSubsequence-append (Left_out a) ks ls b = Left_out (IsSubsequence-append a ks ls b)
IsSubsequence-append (Taken a) ks ls b = Taken (IsSubsequence-append a ks ls b)

-- a list's end is a part of it
pub IsSubsequence-drop : (n : ℕ) (ms : List ℕ) → IsSubsequence (drop n ms) ms
IsSubsequence-drop zero ms = IsSubsequence-refl ms
IsSubsequence-drop (suc n) [] = Empty
IsSubsequence-drop (suc n) (m ∷ ms) = Left_out (IsSubsequence-drop n ms)

-- the last numbers are a part
pub IsSubsequence-last_n : (n : ℕ) (ms : List ℕ) → IsSubsequence (last_n n ms) ms
IsSubsequence-last_n n ms = IsSubsequence-drop (length ms - n) ms

-- a list's front is a part of it
pub IsSubsequence-front : (ns ks : List ℕ) → IsSubsequence ns (ns ++ ks)
IsSubsequence-front [] ks = IsSubsequence-nil ks
IsSubsequence-front (n ∷ ns) ks = Taken (IsSubsequence-front ns ks)

-- one more at the end of both
pub IsSubsequence-push : {ns ms : List ℕ} → IsSubsequence ns ms → (n : ℕ) → IsSubsequence (ns ++ n ∷ []) (ms ++ n ∷ [])
IsSubsequence-push a n = IsSubsequence-append a (n ∷ []) (n ∷ []) (Taken Empty)

-- one more at the end of the whole alone
pub IsSubsequence-more : {ns ms : List ℕ} → IsSubsequence ns ms → (n : ℕ) → IsSubsequence ns (ms ++ n ∷ [])
IsSubsequence-more {ns} {ms} a n = IsSubsequence-trans a (IsSubsequence-front ms (n ∷ []))

-- fewer behind the same front
pub IsSubsequence-behind : (got ks ls ms : List ℕ) → IsSubsequence ks ls → IsSubsequence (got ++ ls) ms
    → IsSubsequence (got ++ ks) ms
IsSubsequence-behind got ks ls ms fewer h =
    IsSubsequence-trans (IsSubsequence-append (IsSubsequence-refl got) ks ls fewer) h

-- the first of the end becomes the last of the front
pub IsSubsequence-moved : (got ns ms : List ℕ) (n : ℕ) → IsSubsequence (got ++ n ∷ ns) ms
    → IsSubsequence ((got ++ n ∷ []) ++ ns) ms
IsSubsequence-moved got ns ms n h = subst (λ v. IsSubsequence v ms) (sym (append_assoc got (n ∷ []) ns)) h

-- only nothing is a part of nothing
pub nil_part : (ns : List ℕ) → IsSubsequence ns [] → ns ≡ []
nil_part [] h = refl
nil_part (_ ∷ _) h = elim h [ ]

-- a front of nothing is nothing
pub nil_front : (ns ks : List ℕ) → ns ++ ks ≡ [] → ns ≡ []
nil_front [] ks e = refl
nil_front (n ∷ ns) ks e = absurd (cc)

-- a number of a part is one of the whole
pub contains_part : {ns ms : List ℕ} → IsSubsequence ns ms → (n : ℕ) → contains ns n ≡ true → contains ms n ≡ true
contains_part Empty n h = h
contains_part (Left_out {n = m} {ms = ms} a) n h = or_right (eqb m n) (contains ms n) (contains_part a n h)
contains_part (Taken {n = m} {ns = ns} {ms = ms} a) n h =
    ⊎_elim (λ e. or_left (eqb m n) (contains ms n) e) (λ r. or_right (eqb m n) (contains ms n) (contains_part a n r))
    (or_cases (eqb m n) (contains ns n) h)

-- a part of different numbers has different numbers
pub once_part : {ns ms : List ℕ} → IsSubsequence ns ms → IsOnce ms → IsOnce ns
once_part Empty o = tt
once_part (Left_out a) o = once_part a o.1
once_part (Taken {n = m} {ns = ns} {ms = ms} a) o =
    (false_from (contains ns m) (λ e. true≢false (sym (contains_part a m e) ∙ o.0)), once_part a o.1)
