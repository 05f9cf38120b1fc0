-- A function changed at one argument.
use Rattle.std.proofs.Common.{◌≡◌, ℕ, Bool, true, false, cond, refl, sym, ap, subst, eqb, Option, None, Some}
use mathlib.Core.Path.{fun_ext}
use Rattle.std.specs.Option.{option_map}
use Rattle.std.proofs.lemmas.Bool.{eqb-true, eq-eqb}
use Rattle.std.proofs.lemmas.Option.{none-some, same_Some}
use Rattle.iox2_machine.specs.machine.Numbers.{put_at}

pub put_at-same : {X : Type 0} (f : ℕ → X) (k : ℕ) (x : X) → put_at f k x k ≡ x
put_at-same f k x = rw (eq-eqb k k refl) refl

pub put_at-other : {X : Type 0} (f : ℕ → X) (k : ℕ) (x : X) (i : ℕ) → eqb i k ≡ false → put_at f k x i ≡ f i
put_at-other f k x i apart = rw apart refl

-- A write of what stands there changes nothing.
pub put_at-own : {X : Type 0} (f : ℕ → X) (k : ℕ) → put_at f k (f k) ≡ f
put_at-own f k = fun_ext (λ i. by i (eqb i k) refl) where
  by : (i : ℕ) (b : Bool) → eqb i k ≡ b → cond b (f k) (f i) ≡ f i
  by i true e = ap f (sym (eqb-true i k e))
  by i false e = refl

-- Of two writes at one argument the later is left.
pub put_at-twice : {X : Type 0} (f : ℕ → X) (k : ℕ) (x z : X) → put_at (put_at f k x) k z ≡ put_at f k z
put_at-twice f k x z = fun_ext (λ i. by i (eqb i k)) where
  by : (i : ℕ) (b : Bool) → cond b z (cond b x (f i)) ≡ cond b z (f i)
  by i true = refl
  by i false = refl

-- What holds of the new value at its argument, and of the old ones elsewhere, holds everywhere.
pub at_each : {X : Type 0} (f : ℕ → X) (k : ℕ) (x : X) (P : ℕ → X → Type 0) (i : ℕ) → (i ≡ k → P k x)
    → (eqb i k ≡ false → P i (f i)) → P i (put_at f k x i)
at_each f k x P i new old =
    elim (eqb i k) as (λ b. eqb i k ≡ b → P i (cond b x (f i))) [
      | true ↦ λ e. subst (λ j. P j x) (sym (eqb-true i k e)) (new (eqb-true i k e))
      | false ↦ λ e. old e
    ] refl

-- A record found after a write is the new one, or it was there before.
pub found_put : {A : Type 0} (f : ℕ → Option A) (k : ℕ) (v : A) (P : ℕ → A → Type 0) (i : ℕ) (a : A)
    → put_at f k (Some v) i ≡ Some a → (i ≡ k → P k v) → (eqb i k ≡ false → f i ≡ Some a → P i a) → P i a
found_put f k v P i a e new old =
    elim (eqb i k) as (λ b. eqb i k ≡ b → cond b (Some v) (f i) ≡ Some a → P i a) [
      | true ↦ λ same e.
          subst (P i) (same_Some v a e) (subst (λ j. P j v) (sym (eqb-true i k same)) (new (eqb-true i k same)))
      | false ↦ λ apart e. old apart e
    ] refl e

-- A record found after one was taken away was there before, under another key.
pub found_removed : {A : Type 0} (f : ℕ → Option A) (k i : ℕ) (a : A) (R : Type 0) → put_at f k None i ≡ Some a
    → (eqb i k ≡ false → f i ≡ Some a → R) → R
found_removed f k i a R e old =
    elim (eqb i k) as (λ b. eqb i k ≡ b → cond b None (f i) ≡ Some a → R) [
      | true ↦ λ _ e. absurd (none-some a e)
      | false ↦ λ apart e. old apart e
    ] refl e

-- A record found after each was changed is a changed one.
pub found_mapped : {A : Type 0} (g : A → A) (o : Option A) (a : A) (R : Type 0) → option_map g o ≡ Some a
    → ((b : A) → o ≡ Some b → a ≡ g b → R) → R
found_mapped g None a R e go = absurd (none-some a e)
found_mapped g (Some b) a R e go = go b refl (sym (same_Some (g b) a e))
