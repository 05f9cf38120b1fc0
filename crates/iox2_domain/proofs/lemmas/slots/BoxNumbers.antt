-- The numbers in the mailbox that a connection is, and the slots that have them.
use Rattle.std.proofs.Common.{◌≡◌, ℕ, ◌+◌, ◌<◌, true, List, [], ◌++◌, map, ap, sym, ◌∙◌, arith}
use Rattle.std.proofs.lemmas.List.{map-append}
use Rattle.iox2_connections.specs.Link.{Link, other_slots}
use Rattle.iox2_machine.specs.machine.Numbers.{contains}
use Rattle.iox2_machine.specs.machine.Mailbox.{numbers_in}
use Rattle.iox2_connections.specs.Counters.{times, stands_in}
use Rattle.iox2_connections.specs.Mailboxes.{mailbox_of}
use Rattle.iox2_connections.proofs.Histories.{times-append}
use Rattle.iox2_connections.proofs.OtherNumbers.{slots-numbered}
use Rattle.iox2_domain.proofs.lemmas.slots.NumbersInUse.{times-there, times-stands, contains-map, contains-map_there}

-- The slots that stand in a connection and weren't given back.
abbrev pub kept_slots : Link → List ℕ
kept_slots c = other_slots c ++ (c.waiting ++ c.borrowed)

-- their numbers are those in the mailbox
pub numbers-are_kept : (number : ℕ → ℕ) (c : Link) → numbers_in (mailbox_of number c) ≡ map number (kept_slots c)
numbers-are_kept number c =
    ap (λ (ns : List ℕ). ns ++ (map number c.waiting ++ map number c.borrowed)) (slots-numbered number c.others)
    ∙ ap (λ (ns : List ℕ). map number (other_slots c) ++ ns) (sym (map-append number c.waiting c.borrowed))
    ∙ sym (map-append number (other_slots c) (c.waiting ++ c.borrowed))

-- each stands in the connection
pub times-kept : (slot : ℕ) (c : Link) → times slot (kept_slots c) + times slot c.returned ≡ stands_in slot c
times-kept slot c =
    omega (arith, times-append slot (other_slots c) (c.waiting ++ c.borrowed), times-append slot c.waiting c.borrowed)

-- a number in the mailbox is that of a slot in the connection
pub slot-of_number : (number : ℕ → ℕ) (c : Link) (n : ℕ) → contains (numbers_in (mailbox_of number c)) n ≡ true
    → (slot : ℕ) × (0 < stands_in slot c) × (number slot ≡ n)
slot-of_number number c n has =
    let found = contains-map_there number (kept_slots c) n
    (ap (λ (ns : List ℕ). contains ns n) (sym (numbers-are_kept number c)) ∙ has) in
    (found.0, omega (arith, times-there found.0 (kept_slots c) found.1, times-kept found.0 c), found.2)

-- a slot in a connection in which nothing was given back has its number in the mailbox
pub number-of_slot : (number : ℕ → ℕ) (c : Link) (slot : ℕ) → c.returned ≡ [] → 0 < stands_in slot c
    → contains (numbers_in (mailbox_of number c)) (number slot) ≡ true
number-of_slot number c slot none some =
    let back : times slot c.returned ≡ 0 = ap (times slot) none in
    ap (λ (ns : List ℕ). contains ns (number slot)) (numbers-are_kept number c)
    ∙ contains-map number (kept_slots c) slot
    (times-stands slot (kept_slots c) (omega (arith, some, back, times-kept slot c)))
