-- What waits of different publishers is at most what waits in all.
use Rattle.std.proofs.Common.{◌≡◌, ℕ, zero, suc, ◌+◌, ◌<◌, ◌≤◌, Bool, cond, ◌==◌, List, [], ◌∷◌, length, refl, ap, ◌∙◌}
use Rattle.std.proofs.Common.{sym, arith, ◌⊎◌, inl, inr, ⊎_elim}
use Rattle.std.specs.Prelude.{◌≢◌}
use Rattle.std.proofs.lemmas.Bool.{cases_eq, ne_eqb, eq-eqb}
use Rattle.iox2_laws.proofs.WaitingCounts.{sum_below, sum_same}
use Rattle.iox2_domain.specs.Kept.{Kept}
use Rattle.iox2_machine.specs.machine.WellFormed.{IsWellFormed}
use Rattle.iox2_domain.specs.Kept.{state_of}
use Rattle.iox2_pubsub.specs.Live.{waiting}
use Rattle.iox2_pubsub.specs.Shares.{AreOfDifferent, AreShares, HasNoShare, Share, total}
use Rattle.iox2_pubsub.specs.declared.subscriber.Subscriber.{Subscriber}
use Rattle.iox2_pubsub.proofs.PublisherWaits.{all-is, count, none-or-known, one-is, ports}

-- The function with nothing at p.
abbrev but : (p : ℕ) → (ℕ → ℕ) → ℕ → ℕ
but p f i = cond (i == p) 0 (f i)

but-other : (p : ℕ) (f : ℕ → ℕ) (i : ℕ) → i ≢ p → but p f i ≡ f i
but-other p f i away = ap (λ (b : Bool). cond b 0 (f i)) (ne_eqb i p away)

but-same : (p : ℕ) (f : ℕ → ℕ) → but p f p ≡ 0
but-same p f = ap (λ (b : Bool). cond b 0 (f p)) (eq-eqb p p refl)

but-none : (p : ℕ) (f : ℕ → ℕ) (i : ℕ) → f i ≡ 0 → but p f i ≡ 0
but-none p f i none =
    elim (cases_eq i p) [ inl here ↦ ap (but p f) here ∙ but-same p f | inr away ↦ but-other p f i away ∙ none ]

sum-but : (f : ℕ → ℕ) (p n : ℕ) → p < n → sum_below f n ≡ f p + sum_below (but p f) n
sum-but f p zero low = absurd (omega arith)
sum-but f p (suc n) low = elim (cases_eq n p) [
  | inl here ↦
      let before : sum_below (but p f) n ≡ sum_below f n =
      sum_same (but p f) f n (λ i less. but-other p f i (λ same. let e : i ≡ p = same in omega arith)) in
      let last : f n ≡ f p = ap f here in
      let none : but p f n ≡ 0 = ap (but p f) here ∙ but-same p f in
      omega arith
  | inr away ↦
      let before : sum_below f n ≡ f p + sum_below (but p f) n = sum-but f p n (let ne : n ≢ p = away in omega arith) in
      let last : but p f n ≡ f n = but-other p f n away in
      omega arith
]

sum-at-most : (f : ℕ → ℕ) (p n : ℕ) → sum_below (but p f) n ≤ sum_below f n
sum-at-most f p zero = omega arith
sum-at-most f p (suc n) =
    let before : sum_below (but p f) n ≤ sum_below f n = sum-at-most f p n in
    elim (cases_eq n p) [
      | inl here ↦ let none : but p f n ≡ 0 = ap (but p f) here ∙ but-same p f in omega arith
      | inr away ↦ let last : but p f n ≡ f n = but-other p f n away in omega arith
    ]

module _ {T : Type 0} where
  abbrev sum_at : (ℕ → ℕ) → List (Share T) → ℕ
  sum_at f [] = 0
  sum_at f (share ∷ shares) = f share.publisher + sum_at f shares

  sum_at-but : (f : ℕ → ℕ) (p : ℕ) (shares : List (Share T)) → HasNoShare p shares
      → sum_at (but p f) shares ≡ sum_at f shares
  sum_at-but f p [] apart = refl
  sum_at-but f p (share ∷ shares) apart =
      let one : but p f share.publisher ≡ f share.publisher = but-other p f share.publisher apart.0 in
      let rest : sum_at (but p f) shares ≡ sum_at f shares = sum_at-but f p shares apart.1 in
      omega arith

  sum-apart : (f : ℕ → ℕ) (n : ℕ) (shares : List (Share T)) → ((p : ℕ) → (f p ≡ 0) ⊎ (p < n)) → AreOfDifferent shares
      → sum_at f shares ≤ sum_below f n
  sum-apart f n [] known apart = omega arith
  sum-apart f n (share ∷ shares) known apart =
      let rest : sum_at (but share.publisher f) shares ≤ sum_below (but share.publisher f) n =
      sum-apart (but share.publisher f) n shares
      (λ i. ⊎_elim (λ none. inl (but-none share.publisher f i none)) (λ low. inr low) (known i)) apart.1 in
      let same : sum_at (but share.publisher f) shares ≡ sum_at f shares =
      sum_at-but f share.publisher shares apart.0 in
      ⊎_elim
      (λ none. let least : sum_below (but share.publisher f) n ≤ sum_below f n = sum-at-most f share.publisher n in
      omega (arith, none, rest, same, least))
      (λ low. let all : sum_below f n ≡ f share.publisher + sum_below
      (but share.publisher f) n = sum-but f share.publisher n low in omega (arith, all, rest, same))
      (known share.publisher)

module _ {T U F G : Type 0} (kept : Kept T U F G) (well : IsWellFormed (state_of kept)) (subscriber : Subscriber) where
  counted : (shares : List (Share T)) → AreShares kept subscriber shares
      → sum_at (count kept well subscriber) shares ≡ total shares
  counted [] each = refl
  counted (share ∷ shares) each =
      let one : count kept well subscriber share.publisher ≡ length share.payloads =
      sym (one-is kept well subscriber share.publisher) ∙ ap length each.0 in
      let rest : sum_at (count kept well subscriber) shares ≡ total shares = counted shares each.1 in
      omega (arith, one, rest)

  pub shares-part : (shares : List (Share T)) → AreShares kept subscriber shares → AreOfDifferent shares
      → total shares ≤ waiting kept subscriber
  shares-part shares each apart =
      let part : sum_at (count kept well subscriber) shares ≤ sum_below (count kept well subscriber)
      (ports kept well subscriber) =
      sum-apart (count kept well subscriber) (ports kept well subscriber) shares
      (none-or-known kept well subscriber) apart in
      let all : waiting kept subscriber ≡ sum_below (count kept well subscriber) (ports kept well subscriber) =
      all-is kept well subscriber in
      let same : sum_at (count kept well subscriber) shares ≡ total shares = counted shares each in
      omega (arith, part, all, same)
