-- The keys at which a subscriber that closes still has to look.
use Rattle.std.proofs.Common.{◌≡◌, ◌≢◌, ℕ, zero, suc, ◌+◌, ◌-◌, ◌<◌, ◌≤◌, Bool, true, false, not, cond, List, [], ◌∷◌}
use Rattle.std.proofs.Common.{map, eqb, get_or, refl, ap, sym, subst, ◌∙◌, inl, inr, ◌⊎◌, arith}
use Rattle.std.proofs.lemmas.Bool.{cases_eq, eqb-true}
use Rattle.std.specs.declared.option.Option.{Option}
use Rattle.std.specs.declared.option.Option.TheVariants.{None, Some}
use Rattle.iox2_machine.specs.machine.Numbers.{without}
use Rattle.iox2_domain.specs.Departures.{HasKey, KnowsKey}
use Rattle.iox2_domain.specs.Ports.{SubscriberFields}
use Rattle.iox2_domain.specs.Fields.{Fields}
use Rattle.iox2_domain.specs.Invariant.{IsDomain}
use Rattle.iox2_domain.proofs.lemmas.containers.ForgottenKeys.{keeps-key}
use Rattle.iox2_steps.specs.Closes.{LosesIfLeft}
use Rattle.iox2_steps.proofs.subscriber_closes.CloseWalk.{IsClosing, IsLess, closing-more}

-- an expired key below this index
abbrev pub ExpiredBelow : (count : ℕ) → SubscriberFields → (k : ℕ) → Type 0
ExpiredBelow count z k = (i : ℕ) × (i < count) × (get_or (map Some z.expired) i None ≡ Some k)

-- first the expired keys are gone over, from the last
abbrev pub ExpiredLeft : (count : ℕ) → SubscriberFields → (k : ℕ) → Type 0
ExpiredLeft count z k = HasKey z.keys k ⊎ ExpiredBelow count z k

-- and then those at places
abbrev pub KeysLeft : (index count : ℕ) → SubscriberFields → (k : ℕ) → Type 0
KeysLeft index count z k = (i : ℕ) × (index ≤ i) × (i < count) × (get_or z.keys i None ≡ Some k)

-- behind the last place no key is left
pub none-left : (index count : ℕ) → count ≤ index → (z : SubscriberFields) (k : ℕ) → KeysLeft index count z k → ⊥
none-left index count all z k left = let from = left.1 in let to = left.2 in omega (arith, all, from, to)

-- a number of a list stands no later when another is taken out
without-earlier : (key : ℕ) (xs : List ℕ) (i k : ℕ) → get_or (map Some xs) i None ≡ Some k → k ≢ key
    → (j : ℕ) × (j ≤ i) × (get_or (map Some (without key xs)) j None ≡ Some k)
without-earlier key [] zero k at away = absurd cc
without-earlier key [] (suc i) k at away = absurd cc
without-earlier key (x ∷ xs) i k at away =
    by (eqb x key) refl i at (λ n there. without-earlier key xs n k there away) where
      by : (b : Bool) → eqb x key ≡ b → (i : ℕ) → get_or (map Some (x ∷ xs)) i None ≡ Some k
          → ((n : ℕ) → get_or (map Some xs) n None ≡ Some k
          → (j : ℕ) × (j ≤ n) × (get_or (map Some (without key xs)) j None ≡ Some k))
          → (j : ℕ) × (j ≤ i) × (get_or (map Some (cond (not b) (x ∷ without key xs) (without key xs))) j None ≡ Some k)
      by true same zero at later = let is : Some x ≡ Some k = at in let one : x ≡ k = cc in
          absurd (away (sym one ∙ eqb-true x key same))
      by true same (suc i) at later = let rest = later i at in (rest.0, omega (arith, rest.1), rest.2)
      by false other zero at later = (zero, omega arith, at)
      by false other (suc i) at later = let rest = later i at in (suc rest.0, omega (arith, rest.1), rest.2)

-- a key that is left below the next index is left below this one, or stands there
last : (xs : List (Option ℕ)) (count k i : ℕ) → (get_or xs count None ≡ Some k → ⊥) → i < count + 1
    → get_or xs i None ≡ Some k → i < count
last xs count k i away low at = elim (cases_eq i count) [
  | inl here ↦ absurd (away (ap (λ (n : ℕ). get_or xs n None) (sym here) ∙ at))
  | inr other ↦ omega (arith, low, other)
]

expired-still : (count : ℕ) (o : Option ℕ) (y : SubscriberFields) → o ≡ get_or (map Some y.expired) count None
    → (z : SubscriberFields) → IsLess o y z
    → (k : ℕ) → (o ≡ Some k → ⊥) → ExpiredLeft (count + 1) y k → ExpiredLeft count z k
expired-still count o y at z less k away left = by less left where
  below : (i : ℕ) → i < count + 1 → get_or (map Some y.expired) i None ≡ Some k → i < count
  below i low there = last (map Some y.expired) count k i (λ here. away (at ∙ here)) low there

  by : IsLess o y z → ExpiredLeft (count + 1) y k → ExpiredLeft count z k
  by (inl same) (inl has) = subst (λ (v : SubscriberFields). ExpiredLeft count v k) (sym same) (inl has)
  by (inl same) (inr more) = subst (λ (v : SubscriberFields). ExpiredLeft count v k) (sym same)
      (inr (more.0, below more.0 more.1 more.2, more.2))
  by (inr gone) (inl has) = subst (λ (v : SubscriberFields). ExpiredLeft count v k) (sym gone.2)
      (inl (has.0, keeps-key gone.0 y.keys has.0 k (λ here. away (gone.1 ∙ ap Some (sym here))) has.1))
  by (inr gone) (inr more) = subst (λ (v : SubscriberFields). ExpiredLeft count v k) (sym gone.2)
      (let earlier = without-earlier gone.0 y.expired more.0 k more.2 (λ here. away (gone.1 ∙ ap Some (sym here))) in
      let low = below more.0 more.1 more.2 in
      inr (earlier.0, omega (arith, low, earlier.1), earlier.2))

keys-still : (index count : ℕ) (o : Option ℕ) (y : SubscriberFields) → o ≡ get_or y.keys index None
    → (z : SubscriberFields) → IsLess o y z
    → (k : ℕ) → (o ≡ Some k → ⊥) → KeysLeft index count y k → KeysLeft (index + 1) count z k
keys-still index count o y at z less k away left = (left.0, next, left.2, there less) where
  next : index + 1 ≤ left.0
  next = elim (cases_eq left.0 index) [
    | inl here ↦ absurd (away (at ∙ ap (λ (n : ℕ). get_or y.keys n None) (sym here) ∙ left.3))
    | inr other ↦ let low = left.1 in omega (arith, low, other)
  ]

  there : IsLess o y z → get_or z.keys left.0 None ≡ Some k
  there (inl same) = ap (λ (v : SubscriberFields). get_or v.keys left.0 None) same ∙ left.3
  there (inr gone) =
      ap (λ (v : SubscriberFields). get_or v.keys left.0 None) gone.2
      ∙ keeps-key gone.0 y.keys left.0 k (λ here. away (gone.1 ∙ ap Some (sym here))) left.3

module _ {T U : Type 0} (f : Fields T U) (sound : IsDomain f) (place : ℕ) (y : SubscriberFields)
    (at_y : get_or f.subscribers place None ≡ Some y) (f' : Fields T U) (o : Option ℕ) where
  -- ---- the expired key before the index

  module _ (index : ℕ) (some : 0 < index) (so_far : IsClosing f sound place y at_y (ExpiredLeft index) f')
      (read : (z : SubscriberFields) → get_or f'.subscribers place None ≡ Some z
      → o ≡ get_or (map Some z.expired) (index - 1) None) where
    -- the subscriber has it
    pub expired-known : (k : ℕ) → o ≡ Some k
        → (z : SubscriberFields) × (get_or f'.subscribers place None ≡ Some z) × KnowsKey z k
    expired-known k is =
        let z = so_far.subscriber in
        (z.0, z.1, inr (index - 1, sym (read z.0 z.1) ∙ is))

    -- then one fewer is left
    pub closing-expired : (next : Fields T U) → LosesIfLeft f' place o next
        → IsClosing f sound place y at_y (ExpiredLeft (index - 1)) next
    closing-expired next loses =
        closing-more f sound place y at_y (ExpiredLeft index) f' so_far o (ExpiredLeft (index - 1))
        (λ z less k away left.
        expired-still (index - 1) o so_far.subscriber.0 (read so_far.subscriber.0 so_far.subscriber.1) z less k away
        (subst (λ (n : ℕ). ExpiredLeft n so_far.subscriber.0 k) (omega (arith, some)) left)) next loses

  -- ---- the key at a place

  module _ (index count : ℕ) (so_far : IsClosing f sound place y at_y (KeysLeft index count) f')
      (read : (z : SubscriberFields) → get_or f'.subscribers place None ≡ Some z → o ≡ get_or z.keys index None) where
    pub key-known : (k : ℕ) → o ≡ Some k
        → (z : SubscriberFields) × (get_or f'.subscribers place None ≡ Some z) × KnowsKey z k
    key-known k is = let z = so_far.subscriber in (z.0, z.1, inl (index, sym (read z.0 z.1) ∙ is))

    pub closing-key : (next : Fields T U) → LosesIfLeft f' place o next
        → IsClosing f sound place y at_y (KeysLeft (index + 1) count) next
    closing-key next loses =
        closing-more f sound place y at_y (KeysLeft index count) f' so_far o (KeysLeft (index + 1) count)
        (keys-still index count o so_far.subscriber.0 (read so_far.subscriber.0 so_far.subscriber.1)) next loses
