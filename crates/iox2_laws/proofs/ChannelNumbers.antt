-- Numbers that wait in the channels other than 0.
use Rattle.std.proofs.Common.{◌≡◌, ℕ, zero, suc, ◌≤◌, ◌+◌, ◌*◌, Bool, true, false, cond, not, List, [], ◌∷◌, ◌++◌}
use Rattle.std.proofs.Common.{length, map, refl, sym, ap, subst, ◌∙◌, arith, eqb, ltb, ◌⊎◌, inl, inr, ⊎_elim}
use Rattle.std.specs.Prelude.{◌≢◌}
use Rattle.std.specs.List.{filter}
use Rattle.std.proofs.lemmas.Bool.{true≢false, eqb-true, eq-eqb, ne_eqb, or_left, ltb-true, ltb-false, lt-ltb}
use Rattle.std.proofs.lemmas.Bool.{eqb-false, not-true}
use Rattle.iox2_machine.specs.machine.Numbers.{contains, IsOnce}
use Rattle.iox2_machine.specs.machine.Mailbox.{ChannelNumber, numbers_of, with_numbers_of}
use Rattle.iox2_laws.proofs.NumberLemmas.{contains_in_append, contains_in_cons, contains_later, absent_from}
use Rattle.iox2_laws.proofs.NumberLemmas.{IsOnce-append}

-- the numbers alone
abbrev pub numbers : List ChannelNumber → List ℕ
numbers ms = map (λ (m : ChannelNumber). m.number) ms

abbrev Test : Type 0
Test = ChannelNumber → Bool

numbers-append : (xs ys : List ChannelNumber) → numbers (xs ++ ys) ≡ numbers xs ++ numbers ys
numbers-append [] ys = refl
numbers-append (x ∷ xs) ys = ap (λ ns. x.number ∷ ns) (numbers-append xs ys)

-- ---- a part of them

filter-append : (test : Test) (xs ys : List ChannelNumber) → filter test (xs ++ ys) ≡ filter test xs ++ filter test ys
filter-append test [] ys = refl
filter-append test (x ∷ xs) ys =
    elim (test x) as (λ b. cond b (x ∷ filter test (xs ++ ys)) (filter test (xs ++ ys)) ≡ cond b (x ∷ filter test xs)
    (filter test xs) ++ filter test ys) [
      | true ↦ ap (λ zs. x ∷ zs) (filter-append test xs ys)
      | false ↦ filter-append test xs ys
    ]

-- a part has no other number
pub contains_in_part : (test : Test) (xs : List ChannelNumber) (n : ℕ) → contains (numbers (filter test xs)) n ≡ true
    → contains (numbers xs) n ≡ true
contains_in_part test [] n h = h
contains_in_part test (x ∷ xs) n h = at (contains_in_part test xs n) (test x) h
  where
    at : (contains (numbers (filter test xs)) n ≡ true → contains (numbers xs) n ≡ true) → (b : Bool)
        → contains (numbers (cond b (x ∷ filter test xs) (filter test xs))) n ≡ true
        → contains (x.number ∷ numbers xs) n ≡ true
    at rest true h = ⊎_elim (λ same. or_left (eqb x.number n) (contains (numbers xs) n) (eq-eqb x.number n same))
        (λ later. contains_later x.number n (numbers xs) (rest later))
        (contains_in_cons x.number n (numbers (filter test xs)) h)
    at rest false h = contains_later x.number n (numbers xs) (rest h)

-- a part has no number twice where the whole has none
pub IsOnce-part : (test : Test) (xs : List ChannelNumber) → IsOnce (numbers xs) → IsOnce (numbers (filter test xs))
IsOnce-part test [] o = o
IsOnce-part test (x ∷ xs) o = at (IsOnce-part test xs o.1) (test x)
  where
    at : IsOnce (numbers (filter test xs)) → (b : Bool)
        → IsOnce (numbers (cond b (x ∷ filter test xs) (filter test xs)))
    at rest true = (
      absent_from (numbers (filter test xs)) x.number
          (λ h. true≢false (sym (contains_in_part test xs x.number h) ∙ o.0)),
      rest,
    )
    at rest false = rest

-- parts that have no element in common have no number in common
parts_apart : (test other : Test) → ((m : ChannelNumber) → test m ≡ true → other m ≡ true → ⊥)
    → (xs : List ChannelNumber) → IsOnce (numbers xs)
    → (n : ℕ) → contains (numbers (filter test xs)) n ≡ true → contains (numbers (filter other xs)) n ≡ true → ⊥
parts_apart test other apart [] o n h k = true≢false (sym h)
parts_apart test other apart (x ∷ xs) o n h k =
    at (parts_apart test other apart xs o.1 n) (test x) (other x) refl refl h k
  where
    absent : x.number ≡ n → contains (numbers xs) n ≡ true → ⊥
    absent same there = true≢false (sym there ∙ ap (contains (numbers xs)) (sym same) ∙ o.0)

    at : (contains (numbers (filter test xs)) n ≡ true → contains (numbers (filter other xs)) n ≡ true → ⊥)
        → (b d : Bool) → test x ≡ b → other x ≡ d
        → contains (numbers (cond b (x ∷ filter test xs) (filter test xs))) n ≡ true
        → contains (numbers (cond d (x ∷ filter other xs) (filter other xs))) n ≡ true → ⊥
    at rest true true e f h k = apart x e f
    at rest true false e f h k = ⊎_elim (λ same. absent same (contains_in_part other xs n k)) (λ later. rest later k)
        (contains_in_cons x.number n (numbers (filter test xs)) h)
    at rest false true e f h k = ⊎_elim (λ same. absent same (contains_in_part test xs n h)) (λ later. rest h later)
        (contains_in_cons x.number n (numbers (filter other xs)) k)
    at rest false false e f h k = rest h k

-- a part of a part where no element is in both is none
part_of_other : (test other : Test) → ((m : ChannelNumber) → other m ≡ true → test m ≡ false)
    → (xs : List ChannelNumber) → filter test (filter other xs) ≡ []
part_of_other test other apart [] = refl
part_of_other test other apart (x ∷ xs) = at (part_of_other test other apart xs) (other x) refl
  where
    at : filter test (filter other xs) ≡ [] → (b : Bool) → other x ≡ b
        → filter test (cond b (x ∷ filter other xs) (filter other xs)) ≡ []
    at rest true e =
        ap (λ b. cond b (x ∷ filter test (filter other xs)) (filter test (filter other xs))) (apart x e) ∙ rest
    at rest false e = rest

-- a part of a part that has all its elements is itself
part_of_larger : (test other : Test) → ((m : ChannelNumber) → test m ≡ true → other m ≡ true)
    → (xs : List ChannelNumber) → filter test (filter other xs) ≡ filter test xs
part_of_larger test other within [] = refl
part_of_larger test other within (x ∷ xs) = at (part_of_larger test other within xs) (other x) (test x) refl refl
  where
    keep : Bool → List ChannelNumber → List ChannelNumber
    keep b zs = cond b (x ∷ zs) zs

    at : filter test (filter other xs) ≡ filter test xs → (b d : Bool) → other x ≡ b → test x ≡ d
        → filter test (keep b (filter other xs)) ≡ keep (test x) (filter test xs)
    at rest true d e f = ap (keep (test x)) rest
    at rest false true e f = absurd (true≢false (sym (within x f) ∙ e))
    at rest false false e f = rest ∙ ap (λ b. keep b (filter test xs)) (sym f)

-- a part is no longer than the whole
pub length-part_le : (test : Test) (xs : List ChannelNumber) → length (numbers (filter test xs)) ≤ length (numbers xs)
length-part_le test [] = omega arith
length-part_le test (x ∷ xs) = at (length-part_le test xs) (test x)
  where
    at : length (numbers (filter test xs)) ≤ length (numbers xs) → (b : Bool)
        → length (numbers (cond b (x ∷ filter test xs) (filter test xs))) ≤ suc (length (numbers xs))
    at rest true = omega (arith, rest)
    at rest false = omega (arith, rest)

-- ---- the numbers of one channel

abbrev in_channel : (channel : ℕ) → Test
in_channel channel m = eqb m.channel channel

abbrev below : (channel : ℕ) → Test
below channel m = ltb m.channel channel

abbrev above : (channel : ℕ) → Test
above channel m = ltb channel m.channel

abbrev tagged : (channel : ℕ) → List ℕ → List ChannelNumber
tagged channel ns = map (λ n. record { channel = channel; number = n }) ns

numbers-tagged : (channel : ℕ) (ns : List ℕ) → numbers (tagged channel ns) ≡ ns
numbers-tagged channel [] = refl
numbers-tagged channel (n ∷ ns) = ap (λ ms. n ∷ ms) (numbers-tagged channel ns)

tagged_in : (channel : ℕ) (ns : List ℕ) → filter (in_channel channel) (tagged channel ns) ≡ tagged channel ns
tagged_in channel [] = refl
tagged_in channel (n ∷ ns) =
    ap (λ b. cond b (record { channel = channel; number = n } ∷ filter (in_channel channel) (tagged channel ns))
    (filter (in_channel channel) (tagged channel ns))) (eq-eqb channel channel refl)
    ∙ ap (λ ms. record { channel = channel; number = n } ∷ ms) (tagged_in channel ns)

tagged_elsewhere : (other channel : ℕ) → channel ≢ other → (ns : List ℕ)
    → filter (in_channel other) (tagged channel ns) ≡ []
tagged_elsewhere other channel apart [] = refl
tagged_elsewhere other channel apart (n ∷ ns) =
    ap (λ b. cond b (record { channel = channel; number = n } ∷ filter (in_channel other) (tagged channel ns))
    (filter (in_channel other) (tagged channel ns))) (ne_eqb channel other apart)
    ∙ tagged_elsewhere other channel apart ns

-- a channel that isn't below that one and isn't above it is that one
in_is_not_below : (channel : ℕ) (m : ChannelNumber) → below channel m ≡ true → in_channel channel m ≡ false
in_is_not_below channel m low =
    ne_eqb m.channel channel (λ same. absurd (omega (arith, ltb-true m.channel channel low)))

in_is_not_above : (channel : ℕ) (m : ChannelNumber) → above channel m ≡ true → in_channel channel m ≡ false
in_is_not_above channel m high =
    ne_eqb m.channel channel (λ same. absurd (omega (arith, ltb-true channel m.channel high)))

-- with other numbers in a channel, these wait there
pub numbers_of-same : (channel : ℕ) (ns : List ℕ) (others : List ChannelNumber)
    → numbers_of channel (with_numbers_of channel ns others) ≡ ns
numbers_of-same channel ns others =
    let low : List ChannelNumber = filter (below channel) others in
    let high : List ChannelNumber = filter (above channel) others in
    ap numbers (filter-append (in_channel channel) low (tagged channel ns ++ high)
    ∙ ap (λ zs. zs ++ filter (in_channel channel) (tagged channel ns ++ high))
    (part_of_other (in_channel channel) (below channel) (in_is_not_below channel) others)
    ∙ filter-append (in_channel channel) (tagged channel ns) high
    ∙ ap (λ zs. zs ++ filter (in_channel channel) high) (tagged_in channel ns)
    ∙ ap (λ zs. tagged channel ns ++ zs)
    (part_of_other (in_channel channel) (above channel) (in_is_not_above channel) others))
    ∙ numbers-append (tagged channel ns) [] ∙ ap (λ zs. zs ++ []) (numbers-tagged channel ns) ∙ append_nil ns
  where
    append_nil : (xs : List ℕ) → xs ++ [] ≡ xs
    append_nil [] = refl
    append_nil (x ∷ xs) = ap (λ ys. x ∷ ys) (append_nil xs)

-- and in the other channels what did
pub numbers_of-other : (other channel : ℕ) → other ≢ channel → (ns : List ℕ) (others : List ChannelNumber)
    → numbers_of other (with_numbers_of channel ns others) ≡ numbers_of other others
numbers_of-other other channel apart ns others =
    let low : List ChannelNumber = filter (below channel) others in
    let high : List ChannelNumber = filter (above channel) others in
    ap numbers (filter-append (in_channel other) low (tagged channel ns ++ high)
    ∙ ap (λ zs. filter (in_channel other) low ++ zs) (filter-append (in_channel other) (tagged channel ns) high
    ∙ ap (λ zs. zs ++ filter (in_channel other) high) (tagged_elsewhere other channel (λ same. apart (sym same)) ns))
    ∙ both (ltb other channel) refl)
  where
    append_nil : (xs : List ChannelNumber) → xs ++ [] ≡ xs
    append_nil [] = refl
    append_nil (x ∷ xs) = ap (λ ys. x ∷ ys) (append_nil xs)

    both : (b : Bool) → ltb other channel ≡ b
        → filter (in_channel other) (filter (below channel) others) ++ filter (in_channel other)
        (filter (above channel) others) ≡ filter (in_channel other) others
    both true low =
        ap (λ zs. zs ++ filter (in_channel other) (filter (above channel) others))
        (part_of_larger (in_channel other) (below channel)
        (λ m at. ap (λ k. ltb k channel) (eqb-true m.channel other at) ∙ low) others)
        ∙ ap (λ zs. filter (in_channel other) others ++ zs) (part_of_other (in_channel other) (above channel)
        (λ m high. ne_eqb m.channel other
        (λ same. absurd (omega (arith, ltb-true other channel low, ltb-true channel m.channel high)))) others)
        ∙ append_nil (filter (in_channel other) others)
    both false low =
        ap (λ zs. zs ++ filter (in_channel other) (filter (above channel) others))
        (part_of_other (in_channel other) (below channel)
        (λ m under. ne_eqb m.channel other (λ same. true≢false (sym under ∙ ap (λ k. ltb k channel) same ∙ low)))
        others)
        ∙ part_of_larger (in_channel other) (above channel)
        (λ m at. ap (λ k. ltb channel k) (eqb-true m.channel other at)
        ∙ lt-ltb channel other (omega (arith, ltb-false other channel low, apart))) others

-- each number was there, or it is one of the new ones
pub contains_in_replaced : (channel : ℕ) (ns : List ℕ) (others : List ChannelNumber) (n : ℕ)
    → contains (numbers (with_numbers_of channel ns others)) n ≡ true
    → (contains ns n ≡ true) ⊎ (contains (numbers others) n ≡ true)
contains_in_replaced channel ns others n h =
    let low : List ChannelNumber = filter (below channel) others in
    let high : List ChannelNumber = filter (above channel) others in
    ⊎_elim (λ left. inr (contains_in_part (below channel) others n left))
    (λ right. ⊎_elim (λ new. inl (ap (λ ms. contains ms n) (sym (numbers-tagged channel ns)) ∙ new))
    (λ later. inr (contains_in_part (above channel) others n later))
    (contains_in_append (numbers (tagged channel ns)) (numbers high) n
    (ap (λ ms. contains ms n) (sym (numbers-append (tagged channel ns) high)) ∙ right)))
    (contains_in_append (numbers low) (numbers (tagged channel ns ++ high)) n
    (ap (λ ms. contains ms n) (sym (numbers-append low (tagged channel ns ++ high))) ∙ h))

-- none is there twice where each new one is n or was in the channel
pub IsOnce-replaced : (channel : ℕ) (ns : List ℕ) (others : List ChannelNumber) → IsOnce (numbers others) → IsOnce ns
    → ((n : ℕ) → contains ns n ≡ true
    → (contains (numbers_of channel others) n ≡ true) ⊎ (contains (numbers others) n ≡ false))
    → IsOnce (numbers (with_numbers_of channel ns others))
IsOnce-replaced channel ns others once new from =
    let low : List ChannelNumber = filter (below channel) others in
    let high : List ChannelNumber = filter (above channel) others in
    subst IsOnce (sym (numbers-append low (tagged channel ns ++ high)
    ∙ ap (λ ms. numbers low ++ ms) (numbers-append (tagged channel ns) high
    ∙ ap (λ ms. ms ++ numbers high) (numbers-tagged channel ns))))
    (IsOnce-append (numbers low) (ns ++ numbers high) (IsOnce-part (below channel) others once)
    (IsOnce-append ns (numbers high) new (IsOnce-part (above channel) others once)
    (λ n h. absent_from (numbers high) n (λ k. no_part (above channel) (in_is_not_above channel) n h k)))
    (λ n h. absent_from (ns ++ numbers high) n
    (λ k. ⊎_elim (λ mine. no_part (below channel) (in_is_not_below channel) n mine h)
    (λ later. parts_apart (below channel) (above channel)
    (λ m under over. absurd (omega (arith, ltb-true m.channel channel under, ltb-true channel m.channel over))) others
    once n h later)
    (contains_in_append ns (numbers high) n k))))
  where
    no_part : (test : Test) → ((m : ChannelNumber) → test m ≡ true → in_channel channel m ≡ false) → (n : ℕ)
        → contains ns n ≡ true
        → contains (numbers (filter test others)) n ≡ true → ⊥
    no_part test apart n h k = ⊎_elim
        (λ mine. parts_apart (in_channel channel) test
        (λ m at other. true≢false (sym at ∙ apart m other)) others once n mine k)
        (λ absent. true≢false (sym (contains_in_part test others n k) ∙ absent)) (from n h)

-- ---- how many there are

-- those outside a channel
abbrev outside : (channel : ℕ) → Test
outside channel m = not (eqb m.channel channel)

split_length : (test : Test) (xs : List ChannelNumber)
    → length xs ≡ length (filter test xs) + length (filter (λ m. not (test m)) xs)
split_length test [] = refl
split_length test (x ∷ xs) = at (split_length test xs) (test x)
  where
    at : length xs ≡ length (filter test xs) + length (filter (λ m. not (test m)) xs) → (b : Bool)
        → suc (length xs) ≡ length (cond b (x ∷ filter test xs) (filter test xs)) + length
        (cond (not b) (x ∷ filter (λ m. not (test m)) xs) (filter (λ m. not (test m)) xs))
    at rest true = omega (arith, rest)
    at rest false = omega (arith, rest)

pub length-numbers : (xs : List ChannelNumber) → length (numbers xs) ≡ length xs
length-numbers [] = refl
length-numbers (x ∷ xs) = ap suc (length-numbers xs)

-- without numbers in any channel there are none
none_anywhere : (xs : List ChannelNumber) → ((k : ℕ) → numbers_of k xs ≡ []) → length xs ≡ 0
none_anywhere [] none = refl
none_anywhere (x ∷ xs) none =
    absurd (not_nil x.number (numbers (filter (in_channel x.channel) xs))
    (sym (ap (λ b. numbers (cond b (x ∷ filter (in_channel x.channel) xs) (filter (in_channel x.channel) xs)))
    (eq-eqb x.channel x.channel refl)) ∙ none x.channel))
  where
    not_nil : (n : ℕ) (ns : List ℕ) → n ∷ ns ≡ [] → ⊥
    not_nil n ns e = absurd cc

-- at most so many in each of so many channels, and none elsewhere
pub length-channels : (count most : ℕ) (xs : List ChannelNumber) → numbers_of 0 xs ≡ []
    → ((k : ℕ) → suc count ≤ k → numbers_of k xs ≡ [])
    → ((k : ℕ) → length (numbers_of k xs) ≤ most) → length xs ≤ count * most
length-channels zero most xs first rest few =
    let none : length xs ≡ 0 = none_anywhere xs (λ k. at k) in omega arith
  where
    at : (k : ℕ) → numbers_of k xs ≡ []
    at zero = first
    at (suc k) = rest (suc k) (omega arith)
length-channels (suc count) most xs first rest few =
    let ys : List ChannelNumber = filter (outside (suc count)) xs in
    let others : length ys ≤ count * most =
    length-channels count most ys (ap numbers (part_of_larger (in_channel 0) (outside (suc count))
    (λ m at. ap (λ k. not (eqb k (suc count))) (eqb-true m.channel 0 at)
    ∙ ap not (ne_eqb 0 (suc count) (λ same. absurd (omega (arith, same))))) xs) ∙ first)
    (λ k high. last k high (eqb k (suc count)) refl) (λ k. fewer k) in
    let own : length (filter (in_channel (suc count)) xs) ≤ most =
    omega (arith, length-numbers (filter (in_channel (suc count)) xs), few (suc count)) in
    let all : length xs ≡ length (filter (in_channel (suc count)) xs) + length ys =
    split_length (in_channel (suc count)) xs in
    let times : suc count * most ≡ count * most + most = times_suc count most in
    omega (arith, others, own, all, times)
  where
    times_suc : (a b : ℕ) → suc a * b ≡ a * b + b
    times_suc a b = grind arith

    away : (k : ℕ) → k ≢ suc count → numbers_of k (filter (outside (suc count)) xs) ≡ numbers_of k xs
    away k apart = ap numbers (part_of_larger (in_channel k) (outside (suc count))
        (λ m at. ap (λ j. not (eqb j (suc count))) (eqb-true m.channel k at) ∙ ap not (ne_eqb k (suc count) apart)) xs)

    here : numbers_of (suc count) (filter (outside (suc count)) xs) ≡ []
    here = ap numbers (part_of_other (in_channel (suc count)) (outside (suc count))
        (λ m out. not-true (eqb m.channel (suc count)) out) xs)

    last : (k : ℕ) → suc count ≤ k → (b : Bool) → eqb k (suc count) ≡ b
        → numbers_of k (filter (outside (suc count)) xs) ≡ []
    last k high true same =
        ap (λ j. numbers_of j (filter (outside (suc count)) xs)) (eqb-true k (suc count) same) ∙ here
    last k high false apart =
        away k (eqb-false k (suc count) apart) ∙ rest k (omega (arith, eqb-false k (suc count) apart))

    fewer : (k : ℕ) → length (numbers_of k (filter (outside (suc count)) xs)) ≤ most
    fewer k = by (eqb k (suc count)) refl
      where
        by : (b : Bool) → eqb k (suc count) ≡ b → length (numbers_of k (filter (outside (suc count)) xs)) ≤ most
        by true same = subst (λ ns. length ns ≤ most)
            (sym (ap (λ j. numbers_of j (filter (outside (suc count)) xs)) (eqb-true k (suc count) same) ∙ here))
            (omega arith)
        by false apart = subst (λ ns. length ns ≤ most) (sym (away k (eqb-false k (suc count) apart))) (few k)
