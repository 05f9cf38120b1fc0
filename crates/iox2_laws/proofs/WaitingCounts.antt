-- How many messages wait, and when that stays or falls.
use Rattle.std.proofs.Common.{◌≡◌, ℕ, zero, suc, ◌+◌, ◌≤◌, ◌<◌, Bool, true, false, cond, ◌&&◌, ◌||◌, List, [], ◌∷◌}
use Rattle.std.proofs.Common.{length, refl, sym, ap, ◌∙◌, arith, Option, ◌⊎◌, inl, inr}
use Rattle.std.proofs.lemmas.Bool.{cases_eq}
use Rattle.std.specs.Option.{option_map_or}
use Rattle.iox2_machine.specs.machine.Numbers.{contains}
use Rattle.iox2_machine.specs.machine.Records.{Subscriber}
use Rattle.iox2_machine.specs.machine.State.{State}
use Rattle.iox2_machine.specs.machine.Waiting.{receives_from, waiting_from}

-- ---- sums

-- The sum of f over all numbers below n.
abbrev pub sum_below : (ℕ → ℕ) → (n : ℕ) → ℕ
sum_below f zero = 0
sum_below f (suc n) = sum_below f n + f n

pub sum_same : (f g : ℕ → ℕ) (n : ℕ) → ((p : ℕ) → p < n → f p ≡ g p) → sum_below f n ≡ sum_below g n
sum_same f g zero each = refl
sum_same f g (suc n) each =
    let before : sum_below f n ≡ sum_below g n = sum_same f g n (λ p low. each p (omega arith)) in
    let last : f n ≡ g n = each n (omega arith) in
    omega arith

pub sum_le : (f g : ℕ → ℕ) (n : ℕ) → ((p : ℕ) → f p ≤ g p) → sum_below f n ≤ sum_below g n
sum_le f g zero each = omega arith
sum_le f g (suc n) each =
    let before : sum_below f n ≤ sum_below g n = sum_le f g n each in
    let last : f n ≤ g n = each n in
    omega arith

pub sum_zero : (f : ℕ → ℕ) (n : ℕ) → ((p : ℕ) → f p ≡ 0) → sum_below f n ≡ 0
sum_zero f zero each = refl
sum_zero f (suc n) each =
    let before : sum_below f n ≡ 0 = sum_zero f n each in
    let last : f n ≡ 0 = each n in
    omega arith

-- where one is less by one, and all others are the same, so is the sum
pub sum_one_less : (f g : ℕ → ℕ) (k n : ℕ) → k < n → suc (f k) ≡ g k → ((p : ℕ) → (p ≡ k → ⊥) → f p ≡ g p)
    → suc (sum_below f n) ≡ sum_below g n
sum_one_less f g k zero low one others = absurd (omega arith)
sum_one_less f g k (suc n) low one others = elim (cases_eq n k) [
  | inl here ↦
      let before : sum_below f n ≡ sum_below g n = sum_same f g n (λ p less. others p (λ same. omega arith)) in
      let last : suc (f n) ≡ g n = ap (λ i. suc (f i)) here ∙ one ∙ ap g (sym here) in
      omega arith
  | inr away ↦
      let before : suc (sum_below f n) ≡ sum_below g n = sum_one_less f g k n (omega arith) one others in
      let last : f n ≡ g n = others n away in
      omega arith
]

-- where one is at most so much more, and no other is more, so is the sum
pub sum_more : (f g : ℕ → ℕ) (k more n : ℕ) → f k ≤ g k + more → ((p : ℕ) → (p ≡ k → ⊥) → f p ≤ g p)
    → sum_below f n ≤ sum_below g n + more
sum_more f g k more zero one others = omega arith
sum_more f g k more (suc n) one others = elim (cases_eq n k) [
  | inl here ↦
      let before : sum_below f n ≤ sum_below g n = rest n (omega arith) in
      let last : f n ≤ g n + more = at here in
      omega arith
  | inr away ↦
      let before : sum_below f n ≤ sum_below g n + more = sum_more f g k more n one others in
      let last : f n ≤ g n = others n away in
      omega arith
]
  where
    rest : (i : ℕ) → i ≤ k → sum_below f i ≤ sum_below g i
    rest zero low = omega arith
    rest (suc i) low =
        let before : sum_below f i ≤ sum_below g i = rest i (omega arith) in
        let last : f i ≤ g i = others i (λ same. omega arith) in
        omega arith

    at : n ≡ k → f n ≤ g n + more
    at here = rw here one

-- a sum of which one is something is something
pub sum_some : (f : ℕ → ℕ) (k n : ℕ) → k < n → 0 < f k → 0 < sum_below f n
sum_some f k zero low some = absurd (omega arith)
sum_some f k (suc n) low some = elim (cases_eq n k) [
  | inl here ↦ let last : f n ≡ f k = ap f here in omega arith
  | inr away ↦ let before : 0 < sum_below f n = sum_some f k n (omega arith) some in omega arith
]

-- ---- what waits from one publisher

pub cond_le : (b : Bool) (ns : List ℕ) → length (cond b ns []) ≤ length ns
cond_le true ns = omega arith
cond_le false ns = omega arith

pub cond_more : (b : Bool) (ns ns' : List ℕ) (more : ℕ) → length ns' ≤ length ns + more
    → length (cond b ns' []) ≤ length (cond b ns []) + more
cond_more true ns ns' more most = most
cond_more false ns ns' more most = omega arith

-- what is left is among what there was
pub cond_among : (b : Bool) (ns : List ℕ) (k : ℕ) → contains (cond b ns []) k ≡ true → contains ns k ≡ true
cond_among true ns k at = at
cond_among false ns k at = let clash : false ≡ true = at in absurd cc

-- and the same for two lists of one subscriber
pub cond_both_among : (b : Bool) (ns ns' : List ℕ) (R : Type 0) (k : ℕ)
    → (contains ns' k ≡ true → R ⊎ (contains ns k ≡ true)) → contains (cond b ns' []) k ≡ true
    → R ⊎ (contains (cond b ns []) k ≡ true)
cond_both_among true ns ns' R k each at = each at
cond_both_among false ns ns' R k each at = let clash : false ≡ true = at in absurd cc

-- a subscriber that is due has all
pub due_among : (is_open due known due' known' : Bool) (ns ns' : List ℕ) (k : ℕ) → due ≡ true
    → (contains ns' k ≡ true → contains ns k ≡ true)
    → contains (cond (is_open && (due' || known')) ns' []) k ≡ true
    → contains (cond (is_open && (due || known)) ns []) k ≡ true
due_among false due known due' known' ns ns' k is each at = at
due_among true true known due' known' ns ns' k is each at = each (cond_among (due' || known') ns' k at)
due_among true false known due' known' ns ns' k is each at = let clash : false ≡ true = is in absurd cc

-- a subscriber that is due gets no more by another record, of which it is as open, and by fewer messages
pub due_le : (is_open due known due' known' : Bool) (ns ns' : List ℕ) → due ≡ true → length ns' ≤ length ns
    → length (cond (is_open && (due' || known')) ns' []) ≤ length (cond (is_open && (due || known)) ns [])
due_le false due known due' known' ns ns' is less = omega arith
due_le true true known due' known' ns ns' is less =
    let fewer : length (cond (due' || known') ns' []) ≤ length ns' = cond_le (due' || known') ns' in omega arith
due_le true false known due' known' ns ns' is less = let clash : false ≡ true = is in absurd cc

-- each of a sum is at most that
pub sum_part : (f : ℕ → ℕ) (k n : ℕ) → k < n → f k ≤ sum_below f n
sum_part f k zero low = absurd (omega arith)
sum_part f k (suc n) low = elim (cases_eq n k) [
  | inl here ↦ let last : f n ≡ f k = ap f here in omega arith
  | inr away ↦ let before : f k ≤ sum_below f n = sum_part f k n (omega arith) in omega arith
]

-- where nothing waits it doesn't matter who receives
pub cond_same : (b b' : Bool) (ns : List ℕ) → ((ns ≡ [] → ⊥) → b ≡ b') → cond b ns [] ≡ cond b' ns []
cond_same true true [] same = refl
cond_same true false [] same = refl
cond_same false true [] same = refl
cond_same false false [] same = refl
cond_same b b' (n ∷ ns) same = ap (λ c. cond c (n ∷ ns) []) (same (λ e. let clash : (n ∷ ns) ≡ [] = e in absurd cc))

module _ {T U : Type 0} where
  -- How many messages wait for q, of all publishers together.
  abbrev pub waiting_for : State T U → (q : ℕ) → ℕ
  waiting_for s q = sum_below (λ p. length (waiting_from s p q)) s.next_port

  pub by_record : (s : State T U) (p q : ℕ) (o : Option Subscriber) → s.subscribers q ≡ o
      → waiting_from s p q ≡ cond (option_map_or (λ (y : Subscriber). receives_from y p) o false)
      (s.mailboxes p q).waiting []
  by_record s p q o here = ap (λ (v : Option Subscriber).
      cond (option_map_or (λ (y : Subscriber). receives_from y p) v false) (s.mailboxes p q).waiting []) here

  pub same_from : (s s' : State T U) (p q : ℕ) → s'.subscribers q ≡ s.subscribers q
      → (s'.mailboxes p q).waiting ≡ (s.mailboxes p q).waiting → waiting_from s' p q ≡ waiting_from s p q
  same_from s s' p q record_is waits =
      by_record s' p q (s.subscribers q) record_is
      ∙ ap (λ (ns : List ℕ). cond (option_map_or (λ (y : Subscriber). receives_from y p) (s.subscribers q) false) ns [])
      waits

  -- The same messages wait for each subscriber.
  pub record SameWaits (s s' : State T U) : Type 0 where
    pub ports : s'.next_port ≡ s.next_port
    pub from : (p q : ℕ) → waiting_from s' p q ≡ waiting_from s p q

  pub same_itself : (s : State T U) → SameWaits s s
  same_itself s = record { ports = refl; from = λ p q. refl }

  -- as many wait where the same ports are there and as many wait from each
  pub same_count : (s s' : State T U) (q : ℕ) → s'.next_port ≡ s.next_port
      → ((p : ℕ) → length (waiting_from s' p q) ≡ length (waiting_from s p q)) → waiting_for s' q ≡ waiting_for s q
  same_count s s' q ports each =
      ap (λ n. sum_below (λ p. length (waiting_from s' p q)) n) ports
      ∙ sum_same (λ p. length (waiting_from s' p q)) (λ p. length (waiting_from s p q)) s.next_port (λ p _. each p)
