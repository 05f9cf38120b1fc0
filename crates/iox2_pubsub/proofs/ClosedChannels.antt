-- Which channels the calls on channels may close.
use Rattle.std.proofs.Common.{◌≡◌, ℕ, zero, suc, ◌+◌, Bool, true, false, cond, List, [], ◌∷◌, Option, None, Some, refl}
use Rattle.std.proofs.Common.{sym, ap, ◌∙◌, arith, ◌⊎◌, inl, inr}
use Rattle.std.specs.Prelude.{◌≢◌}
use Rattle.std.specs.Option.{option_and_then, option_map_or}
use Rattle.std.proofs.lemmas.Bool.{cases_eq, eq-eqb, ne_eqb, true≢false}
use Rattle.iox2_machine.specs.machine.Channel.{Channel, closed_state, is_in_state, is_closed, with_state, with_hint}
use Rattle.iox2_machine.specs.machine.Channel.{changed_if}
use Rattle.iox2_machine.specs.machine.ChannelCalls.{place_from, connection_place, receiver_at, received_changed}
use Rattle.iox2_machine.specs.machine.ChannelCalls.{senders_of, sent_closed}
use Rattle.iox2_machine.specs.machine.Numbers.{contains, put_at}
use Rattle.iox2_machine.specs.machine.Places.{occupant, is_port}
use Rattle.iox2_machine.specs.machine.Records.{Publisher}
use Rattle.iox2_machine.specs.machine.State.{State, with_channels}
use Rattle.iox2_machine.specs.machine.WellFormed.{IsWellFormed}
use Rattle.iox2_laws.proofs.PlaceLemmas.{is_port-true}
use Rattle.iox2_pubsub.specs.Leaves.{ClosesNone}
use Rattle.iox2_laws.proofs.Puts.{at_each, put_at-same, put_at-other}

-- ---- one connection

-- a hint closes none
pub hint-closes-none : (expected : ℕ) → ClosesNone expected with_hint
hint-closes-none expected c at takes = takes

-- nor does a change of what is closed already
pub opening-closes-none : (state : ℕ) → ClosesNone closed_state (with_state state)
opening-closes-none state c at takes = absurd (true≢false (sym at ∙ takes))

changed-takes : (number expected : ℕ) (change : Channel → Channel) → ClosesNone expected change
    → (channels : ℕ → Channel) (k : ℕ) → is_closed (channels k) ≡ false
    → is_closed (changed_if number expected change channels k) ≡ false
changed-takes number expected change none channels k takes = by (is_in_state expected (channels number)) refl where
  by : (b : Bool) → is_in_state expected (channels number) ≡ b
      → is_closed (cond b (put_at channels number (change (channels number))) channels k) ≡ false
  by true e = at_each channels number (change (channels number)) (λ i c. is_closed (channels i) ≡ false
      → is_closed c ≡ false) k (λ here t. none (channels number) e t) (λ apart t. t) takes
  by false e = takes

-- a change of another channel leaves channel 0
further-changed : (number expected : ℕ) (change : Channel → Channel) → number ≢ 0 → (channels : ℕ → Channel)
    → changed_if number expected change channels 0 ≡ channels 0
further-changed number expected change away channels = by (is_in_state expected (channels number)) where
  by : (b : Bool) → cond b (put_at channels number (change (channels number))) channels 0 ≡ channels 0
  by true = put_at-other channels number (change (channels number)) 0 (ne_eqb 0 number (λ same. away (sym same)))
  by false = refl

-- ---- a subscriber's connections

module _ {T U : Type 0} (s : State T U) (q number expected : ℕ) (change : Channel → Channel) where
  -- a change that closes none leaves each channel open that is
  pub received-takes : ClosesNone expected change → (p j : ℕ) → is_closed (s.channels p j 0) ≡ false
      → is_closed ((received_changed s q number expected change).channels p j 0) ≡ false
  received-takes none p j takes =
      at_each (s.channels p) q _
      (λ i (channels : ℕ → Channel). is_closed (s.channels p i 0) ≡ false → is_closed (channels 0) ≡ false) j
      (λ here t. by (contains (senders_of s q) p) t) (λ apart t. t) takes
    where
      by : (b : Bool) → is_closed (s.channels p q 0) ≡ false
          → is_closed (cond b (changed_if number expected change (s.channels p q)) (s.channels p q) 0) ≡ false
      by true t = changed-takes number expected change none (s.channels p q) 0 t
      by false t = t

  -- a change of another channel leaves channel 0 of each connection
  pub received-further : number ≢ 0 → (p j : ℕ)
      → (received_changed s q number expected change).channels p j 0 ≡ s.channels p j 0
  received-further away p j =
      at_each (s.channels p) q _ (λ i (channels : ℕ → Channel). channels 0 ≡ s.channels p i 0) j
      (λ here. by (contains (senders_of s q) p)) (λ apart. refl)
    where
      by : (b : Bool)
          → cond b (changed_if number expected change (s.channels p q)) (s.channels p q) 0 ≡ s.channels p q 0
      by true = further-changed number expected change away (s.channels p q)
      by false = refl

  -- other subscribers' channels stay
  pub received-others : (p j : ℕ) → j ≢ q → (received_changed s q number expected change).channels p j ≡ s.channels p j
  received-others p j away = put_at-other (s.channels p) q _ j (ne_eqb j q away)

-- ---- a publisher's connections

-- the first place of a port that stands at one alone is this
first-place : (k : ℕ) (ends : List (Option ℕ)) (q i : ℕ) → occupant ends i ≡ Some q
    → ((j : ℕ) → occupant ends j ≡ Some q → j ≡ i) → place_from k ends q ≡ Some (k + i)
first-place k [] q i at one = absurd cc
first-place k (x ∷ xs) q zero at one =
    ap (λ (o : Option ℕ). cond (is_port o q) (Some k) (place_from (suc k) xs q)) at
    ∙ ap (λ (b : Bool). cond b (Some k) (place_from (suc k) xs q)) (eq-eqb q q refl)
    ∙ ap Some (let same : k ≡ k + zero = omega arith in same)
first-place k (x ∷ xs) q (suc i) at one =
    by (is_port x q) refl
    (first-place (suc k) xs q i at (λ j stands. let same : suc j ≡ suc i = one (suc j) stands in omega arith)
    ∙ ap Some (let same : suc k + i ≡ k + suc i = omega arith in same))
  where
    by : (b : Bool) → is_port x q ≡ b → place_from (suc k) xs q ≡ Some (k + suc i)
        → cond b (Some k) (place_from (suc k) xs q) ≡ Some (k + suc i)
    by true e later = let clash : zero ≡ suc i = one zero (is_port-true x q e) in absurd (omega arith)
    by false e later = later

module _ {T U : Type 0} (s : State T U) where
  -- an end at a place names that place
  receiver-placed : IsWellFormed s → (p place q : ℕ) → receiver_at s p place ≡ Some q
      → connection_place s p q ≡ Some place
  receiver-placed w p place q at = by (s.publishers p) refl at where
    by : (o : Option Publisher) → s.publishers p ≡ o
        → option_and_then (λ (x : Publisher). occupant x.ends place) o ≡ Some q
        → option_and_then (λ (x : Publisher). place_from 0 x.ends q) o ≡ Some place
    by None e stands = absurd cc
    by (Some x) e stands =
        first-place 0 x.ends q place stands (λ j there. (w.publishers p x e).ends_apart j place q there stands)
        ∙ ap Some (let same : 0 + place ≡ place = omega arith in same)

  -- a close changes one connection's channels
  pub sent-others : IsWellFormed s → (p number place expected i j : ℕ) → (i ≢ p) ⊎ (connection_place s i j ≢ Some place)
      → (sent_closed s p number place expected).channels i j ≡ s.channels i j
  sent-others w p number place expected i j other = by (receiver_at s p place) refl where
    changed : ℕ → ℕ → Channel
    changed q = changed_if number expected (with_state closed_state) (s.channels p q)

    beside : (q : ℕ) → receiver_at s p place ≡ Some q → (i ≢ p) ⊎ (connection_place s i j ≢ Some place) → i ≡ p → j ≢ q
    beside q at (inl away) same here = away same
    beside q at (inr away) same here =
        away (ap (λ k. connection_place s k j) same ∙ ap (connection_place s p) here ∙ receiver-placed w p place q at)

    by : (o : Option ℕ) → receiver_at s p place ≡ o
        → (option_map_or (λ q. with_channels s p q (changed q)) o s).channels i j ≡ s.channels i j
    by None e = refl
    by (Some q) e = elim (cases_eq i p) [
      | inl here ↦
          ap (λ k. put_at s.channels p (put_at (s.channels p) q (changed q)) k j) here
          ∙ ap (λ (row : ℕ → ℕ → Channel). row j) (put_at-same s.channels p (put_at (s.channels p) q (changed q)))
          ∙ put_at-other (s.channels p) q (changed q) j (ne_eqb j q (beside q e other here))
          ∙ ap (λ k. s.channels k j) (sym here)
      | inr away ↦ ap (λ (row : ℕ → ℕ → Channel). row j)
          (put_at-other s.channels p (put_at (s.channels p) q (changed q)) i (ne_eqb i p away))
    ]

  -- a close of another channel leaves channel 0 of each connection
  pub sent-further : (p number place expected : ℕ) → number ≢ 0 → (i j : ℕ)
      → (sent_closed s p number place expected).channels i j 0 ≡ s.channels i j 0
  sent-further p number place expected away i j = by (receiver_at s p place) where
    changed : ℕ → ℕ → Channel
    changed q = changed_if number expected (with_state closed_state) (s.channels p q)

    by : (o : Option ℕ) → (option_map_or (λ q. with_channels s p q (changed q)) o s).channels i j 0 ≡ s.channels i j 0
    by None = refl
    by (Some q) =
        at_each s.channels p _ (λ k (row : ℕ → ℕ → Channel). row j 0 ≡ s.channels k j 0) i
        (λ here. at_each (s.channels p) q _ (λ k (channels : ℕ → Channel). channels 0 ≡ s.channels p k 0) j
        (λ there. further-changed number expected (with_state closed_state) away (s.channels p q)) (λ apart. refl))
        (λ apart. refl)
