-- A slot that is taken out of a list in which it stands once, and its number.
use Rattle.std.proofs.Common.{◌≡◌, ℕ, ◌+◌, Bool, true, false, List, [], ◌∷◌, map, refl, sym, ap, ◌∙◌, arith, eqb}
use Rattle.std.proofs.Common.{⊎_elim}
use Rattle.std.proofs.lemmas.Bool.{eqb-true, eq-eqb, true≢false, false_from_ne_true, or_cases, or_left, or_right}
use Rattle.std.proofs.lemmas.Bool.{ne_eqb}
use Rattle.iox2_machine.specs.machine.Numbers.{contains, without, IsOnce}
use Rattle.iox2_connections.specs.Link.{Link, with_returned}
use Rattle.iox2_machine.specs.machine.Mailbox.{Mailbox, with_released}
use Rattle.iox2_connections.specs.Mailboxes.{numbered, mailbox_of}
use Rattle.iox2_connections.specs.Counters.{times, stands_in}
use Rattle.iox2_connections.proofs.Counts.{one_if, times-cons, times_push}
use Rattle.iox2_connections.proofs.TakenSlots.{absent-without, uncounted}

-- a slot of a list has its number in the list of numbers
pub contains-map : (number : ℕ → ℕ) (slot : ℕ) (xs : List ℕ) → contains xs slot ≡ true
    → contains (map number xs) (number slot) ≡ true
contains-map number slot [] h = h
contains-map number slot (x ∷ xs) h =
    ⊎_elim (λ e. or_left (eqb (number x) (number slot)) (contains (map number xs) (number slot))
    (eq-eqb (number x) (number slot) (ap number (eqb-true x slot e))))
    (λ r. or_right (eqb (number x) (number slot)) (contains (map number xs) (number slot))
    (contains-map number slot xs r))
    (or_cases (eqb x slot) (contains xs slot) h)

-- a slot whose number isn't among the numbers isn't in the list
absent-map : (number : ℕ → ℕ) (slot : ℕ) (xs : List ℕ) → contains (map number xs) (number slot) ≡ false
    → contains xs slot ≡ false
absent-map number slot xs absent =
    false_from_ne_true (contains xs slot) (λ here. true≢false (sym (contains-map number slot xs here) ∙ absent))

-- where the numbers differ, the slots do
pub IsOnce-map : (number : ℕ → ℕ) (xs : List ℕ) → IsOnce (map number xs) → IsOnce xs
IsOnce-map number [] once = once
IsOnce-map number (x ∷ xs) once = (absent-map number x xs once.0, IsOnce-map number xs once.1)

-- a slot that stands in a list, and not as the first
contains-rest : (slot x : ℕ) (xs : List ℕ) → contains (x ∷ xs) slot ≡ true → eqb x slot ≡ false
    → contains xs slot ≡ true
contains-rest slot x xs h other =
    ⊎_elim (λ same. absurd (true≢false (sym same ∙ other))) (λ r. r) (or_cases (eqb x slot) (contains xs slot) h)

-- where the numbers differ, one slot less is one number less
map-without : (number : ℕ → ℕ) (slot : ℕ) (xs : List ℕ) → contains xs slot ≡ true → IsOnce (map number xs)
    → map number (without slot xs) ≡ without (number slot) (map number xs)
map-without number slot [] h once = absurd (true≢false (sym h))
map-without number slot (x ∷ xs) h once = by (eqb x slot) refl (λ r. map-without number slot xs r once.1) where
  by : (b : Bool) → eqb x slot ≡ b
      → (contains xs slot ≡ true → map number (without slot xs) ≡ without (number slot) (map number xs))
      → map number (without slot (x ∷ xs)) ≡ without (number slot) (map number (x ∷ xs))
  by true e later =
      let same : number x ≡ number slot = ap number (eqb-true x slot e) in
      let absent : contains (map number xs) (number slot) ≡ false = ap (contains (map number xs)) (sym same) ∙ once.0 in
      rw (e, eq-eqb (number x) (number slot) same)
      (ap (map number) (absent-without slot xs (uncounted slot xs (absent-map number slot xs absent)))
      ∙ sym (absent-without (number slot) (map number xs) (uncounted (number slot) (map number xs) absent)))
  by false e later =
      let rest : contains xs slot ≡ true = contains-rest slot x xs h e in
      let apart : eqb (number x) (number slot) ≡ false =
      ne_eqb (number x) (number slot) (λ same.
      true≢false (sym (contains-map number slot xs rest) ∙ ap (contains (map number xs)) (sym same) ∙ once.0)) in
      rw (e, apart) (ap (λ r. number x ∷ r) (later rest))

-- the slot stands once less in the list
pub times-without : (n slot : ℕ) (xs : List ℕ) → contains xs slot ≡ true → IsOnce xs
    → times n (without slot xs) + one_if n slot ≡ times n xs
times-without n slot [] h once = absurd (true≢false (sym h))
times-without n slot (x ∷ xs) h once = by (eqb x slot) refl (λ r. times-without n slot xs r once.1) where
  by : (b : Bool) → eqb x slot ≡ b → (contains xs slot ≡ true → times n (without slot xs) + one_if n slot ≡ times n xs)
      → times n (without slot (x ∷ xs)) + one_if n slot ≡ times n (x ∷ xs)
  by true e later =
      let same : x ≡ slot = eqb-true x slot e in
      let gone : without slot xs ≡ xs =
      absent-without slot xs (uncounted slot xs (ap (contains xs) (sym same) ∙ once.0)) in
      rw e (omega (arith, ap (times n) gone, times-cons n x xs, ap (one_if n) same))
  by false e later =
      rw e (omega (arith, times-cons n x (without slot xs), times-cons n x xs, later (contains-rest slot x xs h e)))

-- a slot that is given back stands in the connection as before
pub stands_in-with_returned : (n slot : ℕ) (c : Link) → contains c.borrowed slot ≡ true → IsOnce c.borrowed
    → stands_in n (with_returned slot c) ≡ stands_in n c
stands_in-with_returned n slot c h once =
    omega (arith, times-without n slot c.borrowed h once, times_push n c.returned slot)

-- a slot that is given back leaves the mailbox
pub mailbox-with_returned : (number : ℕ → ℕ) (slot : ℕ) (c : Link) → contains c.borrowed slot ≡ true
    → IsOnce (map number c.borrowed)
    → mailbox_of number (with_returned slot c) ≡ with_released (number slot) (mailbox_of number c)
mailbox-with_returned number slot c h once =
    ap (λ (ns : List ℕ). let box : Mailbox = record {
      waiting = map number c.waiting;
      borrowed = ns;
      others = numbered number c.others;
    } in box) (map-without number slot c.borrowed h once)
