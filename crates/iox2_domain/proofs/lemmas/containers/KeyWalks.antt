-- Keys in a list, gone over from the first.
use Rattle.std.proofs.Common.{◌≡◌, ℕ, ◌+◌, ◌<◌, ◌≤◌, List, map, length, get_or, ap, sym, ◌∙◌, inl, inr, ◌⊎◌, arith}
use Rattle.std.proofs.lemmas.Bool.{cases_eq}
use Rattle.std.proofs.lemmas.List.{length-map}
use Rattle.std.specs.declared.option.Option.{Option}
use Rattle.std.specs.declared.option.Option.TheVariants.{None, Some}
use Rattle.iox2_connections.proofs.MailboxChanges.{within_if_some}
use Rattle.iox2_connections.proofs.Searches.{listed-at}
use Rattle.iox2_domain.specs.Departures.{HasKey}

-- the key stands in the list below the place
abbrev pub HasKeyBelow : List (Option ℕ) → (place key : ℕ) → Type 0
HasKeyBelow keys place key = (i : ℕ) × (i < place) × (get_or keys i None ≡ Some key)

-- what stands below the next place stands below this or here
pub next-key : (keys : List (Option ℕ)) (place key : ℕ) → HasKeyBelow keys (place + 1) key
    → HasKeyBelow keys place key ⊎ (get_or keys place None ≡ Some key)
next-key keys place key has = elim (cases_eq has.0 place) [
  | inl same ↦ inr (ap (λ (n : ℕ). get_or keys n None) (sym same) ∙ has.2)
  | inr away ↦ inl (has.0, omega (arith, has.1, away), has.2)
]

-- and below all of them stands each
pub all-keys : (keys : List (Option ℕ)) (place key : ℕ) → length keys ≤ place → HasKey keys key
    → HasKeyBelow keys place key
all-keys keys place key all has = let low = within_if_some keys has.0 key has.1 in
    (has.0, omega (arith, low, all), has.1)

-- the same for a list whose elements have keys, where this is the element at the place and its key
pub next-listed : {A : Type 0} (key_of : A → Option ℕ) (xs : List A) (place : ℕ) (x : A) (key : Option ℕ)
    → place < length xs → x ≡ get_or xs place x → key ≡ key_of x
    → (k : ℕ) → HasKeyBelow (map key_of xs) (place + 1) k → HasKeyBelow (map key_of xs) place k ⊎ (key ≡ Some k)
next-listed key_of xs place x key low there its k has = elim (next-key (map key_of xs) place k has) [
  | inl below ↦ inl below
  | inr here ↦ inr (sym (listed-at key_of xs place x key low there its) ∙ here)
]

pub all-listed : {A : Type 0} (key_of : A → Option ℕ) (xs : List A) (place key : ℕ) → length xs ≤ place
    → HasKey (map key_of xs) key → HasKeyBelow (map key_of xs) place key
all-listed key_of xs place key all has =
    all-keys (map key_of xs) place key (omega (arith, all, length-map xs key_of)) has
