-- How a changed connection changes the counters.
use Rattle.std.proofs.Common.{◌≡◌, ◌≢◌, ℕ, ◌+◌, ◌-◌, ◌<◌, ◌≤◌, ◌==◌, List, [], ◌∷◌, ◌++◌, length, refl, get_or, set}
use Rattle.std.proofs.Common.{arith, ap, sym, ◌∙◌, Option, Some, None, inl, inr, cond, eqb, Bool}
use Rattle.std.specs.List.{sum_by}
use Rattle.std.proofs.lemmas.Bool.{cases_lt, cases_eq, ne_eqb, eq-eqb}
use Rattle.std.proofs.lemmas.List.Sums.{sum_by-cons, sum_by_push, sum_by-set, get_or-le-sum_by}
use Rattle.std.proofs.lemmas.List.{length-set, get_or-set_same, get_or-set_other, get_or_past}
use Rattle.iox2_connections.specs.Link.{Link, slots_in, IsPut}
use Rattle.iox2_connections.specs.declared.connection.PutOutcome.{PutOutcome}
use Rattle.iox2_connections.specs.declared.connection.PutOutcome.TheVariants.{Taken, Overwrote, Full}
use Rattle.iox2_connections.specs.Counters.{times, stands_in, stands, IsCovered, CountersFollow, one_holder_more}
use Rattle.iox2_connections.specs.Counters.{one_holder_less, recounted, CanLeave}
use Rattle.iox2_connections.proofs.MailboxChanges.{within_if_some}
use Rattle.iox2_connections.proofs.OtherNumbers.{stands-in-channel, stands-with}

-- one where the two slots are the same
abbrev pub one_if : ℕ → ℕ → ℕ
one_if n x = cond (x == n) 1 0

pub times_push : (n : ℕ) (xs : List ℕ) (x : ℕ) → times n (xs ++ x ∷ []) ≡ times n xs + one_if n x
times_push n xs x = sum_by_push (λ y. one_if n y) xs x

pub times-cons : (n x : ℕ) (xs : List ℕ) → times n (x ∷ xs) ≡ one_if n x + times n xs
times-cons n x xs = sum_by-cons (λ y. one_if n y) x xs

pub one_if_same : (n : ℕ) → one_if n n ≡ 1
one_if_same n = grind arith

pub one_if_other : (n x : ℕ) → n ≢ x → one_if n x ≡ 0
one_if_other n x differs = rw (ne_eqb x n (λ e. differs (sym e))) refl

-- a slot with a holder is within the counters
pub in_range : (hs : List ℕ) (n : ℕ) → 0 < get_or hs n 0 → n < length hs
in_range hs n some =
    elim (cases_lt n (length hs)) [
      | inl below ↦ below
      | inr past ↦ absurd (let none : get_or hs n 0 ≡ 0 = get_or_past hs n 0 past in omega arith)
    ]

pub get_or-one_holder_more : (hs : List ℕ) (slot n : ℕ) → slot < length hs
    → get_or (one_holder_more slot hs) n 0 ≡ get_or hs n 0 + one_if n slot
get_or-one_holder_more hs slot n below =
    elim (cases_eq n slot) [
      | inl same ↦ rw same (get_or-set_same hs slot _ 0 below ∙ ap (λ k. get_or hs slot 0 + k) (sym (one_if_same slot)))
      | inr differs ↦ get_or-set_other hs slot n _ 0 differs ∙ omega (arith, one_if_other n slot differs)
    ]

pub get_or-one_holder_less : (hs : List ℕ) (slot n : ℕ) → 0 < get_or hs slot 0
    → get_or (one_holder_less slot hs) n 0 + one_if n slot ≡ get_or hs n 0
get_or-one_holder_less hs slot n some =
    elim (cases_eq n slot) [
      | inl same ↦ rw same (let e : get_or (one_holder_less slot hs) slot 0 ≡ get_or hs slot 0
          - 1 = get_or-set_same hs slot _ 0 (in_range hs slot some) in omega (arith, one_if_same slot))
      | inr differs ↦ let e : get_or (one_holder_less slot hs) n 0 ≡ get_or hs n 0 =
          get_or-set_other hs slot n _ 0 differs in omega (arith, one_if_other n slot differs)
    ]

-- a publisher's own connection counts with all that stands in it
pub stands-own : (p n : ℕ) (c : Link) → c.home.publisher ≡ p → stands p n (Some c) ≡ stands_in n c
stands-own p n c mine = rw (eq-eqb c.home.publisher p mine) refl

-- a slot that stands in a connection has a holder
pub counter_if_stands : (p : ℕ) (hs : List ℕ) (ls : List (Option Link)) (key n : ℕ) (c : Link) → IsCovered p hs ls
    → get_or ls key None ≡ Some c → c.home.publisher ≡ p → 0 < stands_in n c → 0 < get_or hs n 0
counter_if_stands p hs ls key n c covered at mine some =
    let part = rw at at (get_or-le-sum_by (stands p n) ls key None (within_if_some ls key c at)) in
    omega (arith, covered.at n, stands-own p n c mine)

-- any change of one connection, with counters that follow it
pub CountersFollow-changed : (p : ℕ) (hs hs' : List ℕ) (ls : List (Option Link)) (key : ℕ) (c d : Link)
    → get_or ls key None ≡ Some c → c.home.publisher ≡ p → d.home.publisher ≡ p
    → ((n : ℕ) → get_or hs' n 0 + stands_in n c ≡ get_or hs n 0 + stands_in n d)
    → CountersFollow p hs ls hs' (set ls key (Some d))
CountersFollow-changed p hs hs' ls key c d at mine mine' follows = record {
  at = λ n.
      let changed : sum_by (stands p n) (set ls key (Some d)) + stands p n (Some c) ≡ sum_by
      (stands p n) ls + stands p n (Some d) =
      rw at at (sum_by-set (stands p n) ls key (Some d) None (within_if_some ls key c at)) in
      omega (arith, changed, follows n, stands-own p n c mine, stands-own p n d mine');
}

-- a change of one connection in which each slot stands as often as before
pub CountersFollow-kept : (p : ℕ) (hs : List ℕ) (ls : List (Option Link)) (key : ℕ) (c d : Link)
    → get_or ls key None ≡ Some c → d.home ≡ c.home
    → ((n : ℕ) → stands_in n d ≡ stands_in n c) → CountersFollow p hs ls hs (set ls key (Some d))
CountersFollow-kept p hs ls key c d at home same = record {
  at = λ n.
      let changed : sum_by (stands p n) (set ls key (Some d)) + stands p n (Some c) ≡ sum_by
      (stands p n) ls + stands p n (Some d) =
      rw at at (sum_by-set (stands p n) ls key (Some d) None (within_if_some ls key c at)) in
      let alike : stands p n (Some d) ≡ stands p n (Some c) = ap (λ h. cond (eqb h.publisher p) (stands_in n d) 0) home
      ∙ ap (λ (k : ℕ). cond (eqb c.home.publisher p) k 0) (same n) in
      omega (arith, changed, alike);
}

-- the slot that a put overwrote has a holder
pub put-can_leave : (p : ℕ) (hs : List ℕ) (ls : List (Option Link)) (key channel slot : ℕ) (overflow : Bool)
    (c d : Link) (o : PutOutcome) → IsCovered p hs ls → get_or ls key None ≡ Some c → c.home.publisher ≡ p
    → IsPut channel c slot overflow o d → CanLeave o hs
put-can_leave p hs ls key channel slot overflow c d Taken covered at mine q = tt
put-can_leave p hs ls key channel slot overflow c d (Overwrote oldest) covered at mine q =
    counter_if_stands p hs ls key oldest c covered at mine
    (omega (
      arith,
      stands-in-channel oldest channel c,
      ap (times oldest) q.2.1,
      times-cons oldest oldest q.2.0,
      one_if_same oldest,
    ))
put-can_leave p hs ls key channel slot overflow c d Full covered at mine q = tt

-- the counters after a put follow it
put-counts : (hs : List ℕ) (channel slot : ℕ) (overflow : Bool) (c d : Link) (o : PutOutcome) → slot < length hs
    → CanLeave o hs → IsPut channel c slot overflow o d → (n : ℕ)
    → get_or (recounted o slot hs) n 0 + stands_in n c ≡ get_or hs n 0 + stands_in n d
put-counts hs channel slot overflow c d Taken below can q n =
    rw q.1 (omega (
      arith,
      stands-with n channel (slots_in channel c ++ slot ∷ []) c,
      times_push n (slots_in channel c) slot,
      get_or-one_holder_more hs slot n below,
    ))
put-counts hs channel slot overflow c d (Overwrote oldest) below can q n =
    rw q.2.2 (omega (
      arith,
      stands-with n channel (q.2.0 ++ slot ∷ []) c,
      ap (times n) q.2.1,
      times_push n q.2.0 slot,
      times-cons n oldest q.2.0,
      get_or-one_holder_more hs slot n below,
      get_or-one_holder_less (one_holder_more slot hs) oldest n
          (omega (arith, can, get_or-one_holder_more hs slot oldest below)),
    ))
put-counts hs channel slot overflow c d Full below can q n = rw q.2 refl

pub put-follows : (p : ℕ) (hs : List ℕ) (ls : List (Option Link)) (key channel slot : ℕ) (overflow : Bool) (c d : Link)
    (o : PutOutcome) → slot < length hs → IsCovered p hs ls → get_or ls key None ≡ Some c → c.home.publisher ≡ p
    → d.home ≡ c.home → IsPut channel c slot overflow o d
    → CountersFollow p hs ls (recounted o slot hs) (set ls key (Some d))
put-follows p hs ls key channel slot overflow c d o below covered at mine home q =
    CountersFollow-changed p hs (recounted o slot hs) ls key c d at mine (ap (λ h. h.publisher) home ∙ mine)
    (put-counts hs channel slot overflow c d o below
    (put-can_leave p hs ls key channel slot overflow c d o covered at mine q) q)

-- a put adds at most one holder to the slot
pub recounted-grows : (o : PutOutcome) (slot : ℕ) (hs : List ℕ) → slot < length hs → CanLeave o hs
    → get_or (recounted o slot hs) slot 0 ≤ get_or hs slot 0 + 1
recounted-grows Taken slot hs below can = omega (arith, get_or-one_holder_more hs slot slot below, one_if_same slot)
recounted-grows (Overwrote oldest) slot hs below can =
    omega (
      arith,
      get_or-one_holder_more hs slot slot below,
      one_if_same slot,
      get_or-one_holder_less (one_holder_more slot hs) oldest slot
          (omega (arith, can, get_or-one_holder_more hs slot oldest below)),
    )
recounted-grows Full slot hs below can = omega arith

pub length-recounted : (o : PutOutcome) (slot : ℕ) (hs : List ℕ) → length (recounted o slot hs) ≡ length hs
length-recounted Taken slot hs = length-set hs slot _
length-recounted (Overwrote oldest) slot hs = length-set (one_holder_more slot hs) oldest _ ∙ length-set hs slot _
length-recounted Full slot hs = refl

pub CountersFollow-trans : (p : ℕ) (hs hs' hs'' : List ℕ) (ls ls' ls'' : List (Option Link))
    → CountersFollow p hs ls hs' ls' → CountersFollow p hs' ls' hs'' ls'' → CountersFollow p hs ls hs'' ls''
CountersFollow-trans p hs hs' hs'' ls ls' ls'' a b = record { at = λ n. omega (arith, a.at n, b.at n) }

-- counters that follow still cover
pub IsCovered-follows : (p : ℕ) (hs hs' : List ℕ) (ls ls' : List (Option Link)) → IsCovered p hs ls
    → CountersFollow p hs ls hs' ls' → IsCovered p hs' ls'
IsCovered-follows p hs hs' ls ls' covered f = record { at = λ n. omega (arith, covered.at n, f.at n) }
