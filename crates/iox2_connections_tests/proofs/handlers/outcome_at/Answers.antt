use Rattle.std.proofs.Common.{◌≡◌, ◌≢◌, ℕ, ◌<◌, ◌≤◌, Bool, List, None, Option, Some, [], ◌∷◌, ap, arith, cond, eqb}
use Rattle.std.proofs.Common.{false, get_or, refl, rules, suc, true, zero, ◌∙◌}
use Rattle.std.proofs.lemmas.List.Sums.{sum_by-cons}
use Rattle.std.specs.List.{sum_by}
use Rattle.slab.specs.Slab.{Slab, get, Updates}
use Rattle.iox2_connections.specs.Link.{Link, empty_link}
use Rattle.iox2_connections.specs.declared.connection.Home.{Home}
use Rattle.iox2_connections.specs.Counters.{stands, stands_in, one_holder_more, IsCovered, HoldsItself}
use Rattle.iox2_connections.proofs.Counts.{one_if, one_if_same, times-cons, in_range, get_or-one_holder_more}
use Rattle.iox2_connections_tests.proofs.handlers.outcome_at.Goals as goal

-- a sum of nothing
sum-zero : {A : Type 0} (f : Option A → ℕ) (xs : List (Option A)) → ((i : ℕ) → f (get_or xs i None) ≡ 0)
    → sum_by f xs ≡ 0
sum-zero f [] zeros = refl
sum-zero f (x ∷ xs) zeros = sum_by-cons f x xs ∙ omega (arith, zeros zero, sum-zero f xs (λ i. zeros (suc i)))

-- a sum of one number
sum-one : {A : Type 0} (f : Option A → ℕ) (xs : List (Option A)) (key : ℕ)
    → ((i : ℕ) → i ≢ key → f (get_or xs i None) ≡ 0) → sum_by f xs ≤ f (get_or xs key None)
sum-one f [] key zeros = omega arith
sum-one f (x ∷ xs) zero zeros =
    omega (arith, sum_by-cons f x xs, sum-zero f xs (λ i. zeros (suc i) (λ e. omega (arith, e))))
sum-one f (x ∷ xs) (suc key) zeros =
    omega (
      arith,
      sum_by-cons f x xs,
      zeros zero (λ e. omega (arith, e)),
      sum-one f xs key (λ i differs. zeros (suc i) (λ e. differs (omega (arith, e)))),
    )

-- the connection in which the slot waits
abbrev link_with : Home → (buffer limit slot : ℕ) → Link
link_with home buffer limit slot = record (empty_link home buffer limit 1) { waiting = slot ∷ [] }

module _ (old new : Slab Link) (key p : ℕ) (home : Home) (buffer limit slot : ℕ) (empty : old.slots ≡ [])
    (u : Updates old new key (Some (link_with home buffer limit slot))) where
  -- a slot stands there as often as it waits
  stands-few : (n : ℕ) → stands p n (Some (link_with home buffer limit slot)) ≤ one_if n slot
  stands-few n = few (eqb home.publisher p) where
    few : (b : Bool) → cond {A = ℕ} b (stands_in n (link_with home buffer limit slot)) 0 ≤ one_if n slot
    few true = omega (arith, times-cons n slot [])
    few false = omega arith

  -- and nowhere else
  few-stand : (n : ℕ) → sum_by (stands p n) new.slots ≤ one_if n slot
  few-stand n =
      let one : sum_by (stands p n) new.slots ≤ stands p n (get new key) = sum-one (stands p n) new.slots key others in
      omega (arith, one, ap (stands p n) u.changed, stands-few n)
    where
      vacant : (i : ℕ) → get_or {A = Option Link} [] i None ≡ None
      vacant zero = refl
      vacant (suc i) = refl

      others : (i : ℕ) → i ≢ key → stands p n (get_or new.slots i None) ≡ 0
      others i away =
          ap (stands p n) (u.others i away ∙ ap (λ (xs : List (Option Link)). get_or xs i None) empty ∙ vacant i)

  module _ (hs : List ℕ) (some : 0 < get_or hs slot 0) where
    -- one holder more than before covers that
    covered-with : IsCovered p (one_holder_more slot hs) new.slots
    covered-with =
        record { at = λ n. omega (arith, few-stand n, get_or-one_holder_more hs slot n (in_range hs slot some)) }

    -- and one is its publisher
    own-with : HoldsItself p slot (one_holder_more slot hs) new.slots
    own-with = record {
      more = omega
          (arith, some, few-stand slot, get_or-one_holder_more hs slot slot (in_range hs slot some), one_if_same slot);
    }

pub deliver-requires-clause-own : goal.deliver-requires-clause-own
deliver-requires-clause-own c =
    rw (c.delivery_of.ensures.slot, c.hold.ensures)
    (own-with c.reserve.new.self _ _ _ _ _ _ _ (ap (λ (s : Slab Link). s.slots) c.reserve.ensures.rest_kept
    ∙ c.new-connections.ensures.empty) (rw c.in_ok-connection.ensures at c.insert_reserved.ensures.updates) _
    (search rules))

pub deliver-requires-clause-covered : goal.deliver-requires-clause-covered
deliver-requires-clause-covered c =
    rw c.hold.ensures
    (covered-with c.reserve.new.self _ _ _ _ _ _ _ (ap (λ (s : Slab Link). s.slots) c.reserve.ensures.rest_kept
    ∙ c.new-connections.ensures.empty) (rw c.in_ok-connection.ensures at c.insert_reserved.ensures.updates) _
    (search rules))
