-- Lists of payloads: how long they are, when they stay, and what holds of each.
use Rattle.std.proofs.Common.{◌≡◌, ℕ, zero, suc, ◌+◌, ◌<◌, ◌≤◌, true, false, Option, subst, List, [], ◌∷◌, ◌++◌, map}
use Rattle.std.proofs.Common.{length, refl, sym, ap, ◌∙◌, arith, inl, inr}
use Rattle.std.specs.List.{AllByRecursion}
use Rattle.std.specs.Option.{option_map_or}
use Rattle.iox2_machine.specs.machine.Records.{Entry}
use Rattle.std.proofs.lemmas.Bool.{cases_eq}
use Rattle.std.proofs.lemmas.List.{append-nil, length-append, length-map}
use Rattle.iox2_machine.specs.machine.Numbers.{contains}
use Rattle.iox2_machine.specs.machine.State.{State, Messages}
use Rattle.iox2_machine.specs.machine.Waiting.{waiting_from}
use Rattle.iox2_laws.proofs.NumberLemmas.{contains_first, contains_later, contains_in_cons}
use Rattle.iox2_laws.proofs.WaitingCounts.{sum_same, sum_part, sum_below, waiting_for}
use Rattle.iox2_pubsub.specs.Payloads.{all_below, payload_of, payloads_for}

-- ---- lists one after the other

pub length-all_below : {X : Type 0} (f : ℕ → List X) (n : ℕ) → length (all_below f n) ≡ sum_below (λ p. length (f p)) n
length-all_below f zero = refl
length-all_below f (suc n) = length-append (all_below f n) (f n) ∙ ap (λ k. k + length (f n)) (length-all_below f n)

pub all_same : {X : Type 0} (f g : ℕ → List X) (n : ℕ) → ((p : ℕ) → f p ≡ g p) → all_below f n ≡ all_below g n
all_same f g zero each = refl
all_same f g (suc n) each = ap (λ xs. xs ++ f n) (all_same f g n each) ∙ ap (λ xs. all_below g n ++ xs) (each n)

pub map_same : {X : Type 0} (f g : ℕ → X) (ns : List ℕ) → ((n : ℕ) → contains ns n ≡ true → f n ≡ g n)
    → map f ns ≡ map g ns
map_same f g [] each = refl
map_same f g (n ∷ ns) each = ap (λ x. x ∷ map f ns) (each n (contains_first n ns))
    ∙ ap (λ xs. g n ∷ xs) (map_same f g ns (λ m at. each m (contains_later n m ns at)))

-- ---- a part of all

no_length : {X : Type 0} (xs : List X) → length xs ≡ 0 → xs ≡ []
no_length [] none = refl
no_length (x ∷ xs) none = absurd (omega arith)

-- two parts of a sum are at most the sum
pub two_parts : (f : ℕ → ℕ) (p o n : ℕ) → p < n → o < n → (p ≡ o → ⊥) → f p + f o ≤ sum_below f n
two_parts f p o zero low less apart = absurd (omega arith)
two_parts f p o (suc n) low less apart = elim (cases_eq n p) [
  | inl here ↦
      let last : f n ≡ f p = ap f here in
      let other : f o ≤ sum_below f n = sum_part f o n (below o (λ same. apart (sym here ∙ same)) less) in
      omega arith
  | inr away ↦ elim (cases_eq n o) [
    | inl here ↦
        let last : f n ≡ f o = ap f here in
        let other : f p ≤ sum_below f n = sum_part f p n (below p away low) in
        omega arith
    | inr far ↦ let both : f p + f o ≤ sum_below f n = two_parts f p o n (below p away low) (below o far less) apart in
        omega arith
  ]
]
  where
    below : (i : ℕ) → (n ≡ i → ⊥) → i < suc n → i < n
    below i other low = elim (cases_eq n i) [ inl same ↦ absurd (other same) | inr differs ↦ omega arith ]

-- where there is nothing there are no lists
pub none_below : {X : Type 0} (f : ℕ → List X) (n : ℕ) → sum_below (λ p. length (f p)) n ≡ 0 → all_below f n ≡ []
none_below f zero none = refl
none_below f (suc n) none =
    let before : sum_below (λ p. length (f p)) n ≡ 0 = omega arith in
    let last : length (f n) ≡ 0 = omega arith in
    ap (λ xs. xs ++ f n) (none_below f n before) ∙ no_length (f n) last

-- where all are as many as one list has, they are that list
pub only_below : {X : Type 0} (f : ℕ → List X) (p n : ℕ) → p < n → sum_below (λ i. length (f i)) n ≡ length (f p)
    → all_below f n ≡ f p
only_below f p zero low same = absurd (omega arith)
only_below f p (suc n) low same = elim (cases_eq n p) [
  | inl here ↦
      let last : length (f n) ≡ length (f p) = ap (λ i. length (f i)) here in
      let before : sum_below (λ i. length (f i)) n ≡ 0 = omega arith in
      ap (λ xs. xs ++ f n) (none_below f n before) ∙ ap f here
  | inr away ↦
      let part : length (f p) ≤ sum_below (λ i. length (f i)) n = sum_part (λ i. length (f i)) p n (omega arith) in
      let last : length (f n) ≡ 0 = omega arith in
      let before : sum_below (λ i. length (f i)) n ≡ length (f p) = omega arith in
      ap (λ xs. all_below f n ++ xs) (no_length (f n) last) ∙ append-nil (all_below f n)
      ∙ only_below f p n (omega arith) before
]

-- ---- what holds of each

module _ {X : Type 0} (P : X → Type 0) where
  each_left : (xs ys : List X) → AllByRecursion P (xs ++ ys) → AllByRecursion P xs
  each_left [] ys h = tt
  each_left (x ∷ xs) ys h = (h.0, each_left xs ys h.1)

  each_right : (xs ys : List X) → AllByRecursion P (xs ++ ys) → AllByRecursion P ys
  each_right [] ys h = h
  each_right (x ∷ xs) ys h = each_right xs ys h.1

  each_both : (xs ys : List X) → AllByRecursion P xs → AllByRecursion P ys → AllByRecursion P (xs ++ ys)
  each_both [] ys h k = k
  each_both (x ∷ xs) ys h k = (h.0, each_both xs ys h.1 k)

  each_mapped : (f : ℕ → X) (ns : List ℕ) → ((n : ℕ) → contains ns n ≡ true → P (f n)) → AllByRecursion P (map f ns)
  each_mapped f [] each = tt
  each_mapped f (n ∷ ns) each =
      (each n (contains_first n ns), each_mapped f ns (λ m at. each m (contains_later n m ns at)))

  mapped_at : (f : ℕ → X) (ns : List ℕ) → AllByRecursion P (map f ns) → (n : ℕ) → contains ns n ≡ true → P (f n)
  mapped_at f [] h n at = let clash : false ≡ true = at in absurd cc
  mapped_at f (m ∷ ns) h n at = elim (contains_in_cons m n ns at) [
    | inl here ↦ subst (λ i. P (f i)) here h.0
    | inr later ↦ mapped_at f ns h.1 n later
  ]

  pub each_below : (f : ℕ → List X) (n : ℕ) → ((p : ℕ) → AllByRecursion P (f p)) → AllByRecursion P (all_below f n)
  each_below f zero each = tt
  each_below f (suc n) each = each_both (all_below f n) (f n) (each_below f n each) (each n)

  pub each_part : (f : ℕ → List X) (n : ℕ) → AllByRecursion P (all_below f n) → (p : ℕ) → p < n → AllByRecursion P (f p)
  each_part f zero h p low = absurd (omega arith)
  each_part f (suc n) h p low = elim (cases_eq p n) [
    | inl here ↦ subst (λ i. AllByRecursion P (f i)) (sym here) (each_right (all_below f n) (f n) h)
    | inr away ↦ each_part f n (each_left (all_below f n) (f n) h) p (omega arith)
  ]

module _ {T U : Type 0} where
  -- there are as many as messages wait
  pub length-payloads : (s : State T U) (m : Messages T U) (q : ℕ) → length (payloads_for s m q) ≡ waiting_for s q
  length-payloads s m q =
      length-all_below (λ p. map (payload_of m) (waiting_from s p q)) s.next_port
      ∙ sum_same (λ p. length (map (payload_of m) (waiting_from s p q))) (λ p. length (waiting_from s p q)) s.next_port
      (λ p _. length-map (waiting_from s p q) (payload_of m))

  -- they stay where the same messages wait and are the same
  pub parts_same : (s s' : State T U) (m m' : Messages T U) (q : ℕ)
      → ((p : ℕ) → waiting_from s' p q ≡ waiting_from s p q)
      → ((p n : ℕ) → contains (waiting_from s p q) n ≡ true → m' n ≡ m n)
      → (p : ℕ) → map (payload_of m') (waiting_from s' p q) ≡ map (payload_of m) (waiting_from s p q)
  parts_same s s' m m' q same kept p =
      ap (map (payload_of m')) (same p)
      ∙ map_same (payload_of m') (payload_of m) (waiting_from s p q)
      (λ n at. ap (λ (o : Option (Entry T U)). option_map_or (λ (entry : Entry T U). entry.values) o []) (kept p n at))

  pub payloads_same : (s s' : State T U) (m m' : Messages T U) (q : ℕ) → s'.next_port ≡ s.next_port
      → ((p : ℕ) → waiting_from s' p q ≡ waiting_from s p q)
      → ((p n : ℕ) → contains (waiting_from s p q) n ≡ true → m' n ≡ m n) → payloads_for s' m' q ≡ payloads_for s m q
  payloads_same s s' m m' q ports same kept =
      all_same (λ p. map (payload_of m') (waiting_from s' p q))
      (λ p. map (payload_of m) (waiting_from s p q)) s'.next_port (parts_same s s' m m' q same kept)
      ∙ ap (all_below (λ p. map (payload_of m) (waiting_from s p q))) ports

  -- what holds of each that waits
  pub each_payload : (P : List T → Type 0) (s : State T U) (m : Messages T U) (q : ℕ)
      → ((p n : ℕ) → contains (waiting_from s p q) n ≡ true → P (payload_of m n))
      → AllByRecursion P (payloads_for s m q)
  each_payload P s m q each = each_below P (λ p. map (payload_of m) (waiting_from s p q)) s.next_port
      (λ p. each_mapped P (payload_of m) (waiting_from s p q) (each p))

  pub payload_at : (P : List T → Type 0) (s : State T U) (m : Messages T U) (q : ℕ)
      → AllByRecursion P (payloads_for s m q)
      → (p n : ℕ) → p < s.next_port → contains (waiting_from s p q) n ≡ true → P (payload_of m n)
  payload_at P s m q all p n low at =
      mapped_at P (payload_of m) (waiting_from s p q)
      (each_part P (λ i. map (payload_of m) (waiting_from s i q)) s.next_port all p low) n at
