-- A publisher leaves its connections at some keys and then at others.
use Rattle.std.proofs.Common.{◌≡◌, ℕ, ◌+◌, ◌<◌, ◌≤◌, Bool, true, false, cond, List, length, eqb, get_or, refl, ap, sym}
use Rattle.std.proofs.Common.{◌∙◌, inl, inr, ◌⊎◌, arith}
use Rattle.std.proofs.lemmas.Bool.{cases_eq, ne_eqb}
use Rattle.std.specs.declared.option.Option.{Option}
use Rattle.std.specs.declared.option.Option.TheVariants.{None, Some}
use Rattle.std.specs.Option.{option_and_then}
use Rattle.slab.specs.Slab.{Slab, get}
use Rattle.iox2_connections.specs.Link.{Link}
use Rattle.iox2_connections.specs.Leaves.{left_link, holds_slots}
use Rattle.iox2_connections.proofs.MailboxChanges.{within_if_some}
use Rattle.iox2_domain.specs.Ports.{PublisherFields, SubscriberFields}
use Rattle.iox2_domain.specs.Departures.{HasKey}
use Rattle.iox2_domain.specs.Closes.{is_awaited, if_holding, after_close, FindsAll, LeavesAt, LeavesConnections}
use Rattle.iox2_domain.specs.Closes.{SomeHasKey}
use Rattle.iox2_domain.specs.Updates.{receiver_key}

module _ (p : ℕ) (subscribers : List (Option SubscriberFields)) where
  -- what is left of what stands at the key
  abbrev left : (key : ℕ) → Option Link → Option Link
  left key o = option_and_then (after_close p subscribers key) o

  abbrev left_at : (key : ℕ) → Link → Link
  left_at key c = left_link (is_awaited subscribers key c) c

  -- what was left stays as it is
  left-again : (key : ℕ) (o : Option Link) → left key (left key o) ≡ left key o
  left-again key None = refl
  left-again key (Some c) = by (eqb c.home.publisher p) refl where
    twice : (awaited : Bool) → left_link awaited (left_link awaited c) ≡ left_link awaited c
    twice true = refl
    twice false = refl

    held : eqb c.home.publisher p ≡ true → (h : Bool) → holds_slots (left_at key c) ≡ h
        → left key (cond h (Some (left_at key c)) None) ≡ cond h (Some (left_at key c)) None
    held mine true e =
        ap (λ (t : Bool).
        cond t (if_holding (left_link (is_awaited subscribers key c) (left_at key c))) (Some (left_at key c))) mine
        ∙ ap if_holding (twice (is_awaited subscribers key c))
        ∙ ap (λ (t : Bool). cond t (Some (left_at key c)) None) e
    held mine false e = refl

    by : (t : Bool) → eqb c.home.publisher p ≡ t
        → left key (cond t (if_holding (left_at key c)) (Some c)) ≡ cond t (if_holding (left_at key c)) (Some c)
    by true e = held e (holds_slots (left_at key c)) refl
    by false e = ap (λ (t : Bool). cond t (if_holding (left_at key c)) (Some c)) e

  -- what is left of what was there, or of what was left of it
  left-once : (key : ℕ) (o now : Option Link) → (now ≡ o) ⊎ (now ≡ left key o) → left key now ≡ left key o
  left-once key o now (inl same) = ap (left key) same
  left-once key o now (inr done) = ap (left key) done ∙ left-again key o

  -- nothing happens where there are no keys
  pub leaves-none : (keys : ℕ → Type 0) (old : Slab Link) → ((k : ℕ) → keys k → ⊥) → LeavesAt p subscribers keys old old
  leaves-none keys old none = record { at = λ k has. absurd (none k has); others = λ k. inl refl }

  -- first at some keys, and then at others
  pub leaves-both : (first second keys : ℕ → Type 0) (old now new : Slab Link) → LeavesAt p subscribers first old now
      → LeavesAt p subscribers second now new
      → ((k : ℕ) → keys k → first k ⊎ second k) → LeavesAt p subscribers keys old new
  leaves-both first second keys old now new a b either = record {
    at = λ k has. elim (either k has) [
      | inl one ↦ elim (b.others k)
          [ inl same ↦ same ∙ a.at k one | inr left ↦ left ∙ left-once k (get old k) (get now k) (inr (a.at k one)) ]
      | inr other ↦ b.at k other ∙ left-once k (get old k) (get now k) (a.others k)
    ];
    others = λ k. elim (b.others k) [
      | inl same ↦ elim (a.others k) [ inl was ↦ inl (same ∙ was) | inr left ↦ inr (same ∙ left) ]
      | inr left ↦ inr (left ∙ left-once k (get old k) (get now k) (a.others k))
    ];
  }

  -- at those among the keys
  pub leaves-among : (first keys : ℕ → Type 0) (old new : Slab Link) → LeavesAt p subscribers first old new
      → ((k : ℕ) → keys k → first k) → LeavesAt p subscribers keys old new
  leaves-among first keys old new a among = record { at = λ k has. a.at k (among k has); others = a.others }

-- some subscriber below this has the key at the publisher's place
abbrev pub SomeHasKeyBelow : List (Option SubscriberFields) → (place below key : ℕ) → Type 0
SomeHasKeyBelow subscribers place below key = (j : ℕ) × (j < below) × (receiver_key subscribers j place ≡ Some key)

-- the key of the next subscriber stands below this one or here
pub next-subscriber : (subscribers : List (Option SubscriberFields)) (place below key : ℕ)
    → SomeHasKeyBelow subscribers place (below + 1) key
    → SomeHasKeyBelow subscribers place below key ⊎ (receiver_key subscribers below place ≡ Some key)
next-subscriber subscribers place below key has = elim (cases_eq has.0 below) [
  | inl same ↦ inr (ap (λ (n : ℕ). receiver_key subscribers n place) (sym same) ∙ has.2)
  | inr away ↦ inl (has.0, omega (arith, has.1, away), has.2)
]

-- and below all of them stands each
pub all-subscribers : (subscribers : List (Option SubscriberFields)) (place below key : ℕ) → length subscribers ≤ below
    → SomeHasKey subscribers place key → SomeHasKeyBelow subscribers place below key
all-subscribers subscribers place below key all has = by (get_or subscribers has.0 None) refl has.1 where
  by : (o : Option SubscriberFields) → get_or subscribers has.0 None ≡ o
      → option_and_then (λ (y : SubscriberFields). get_or y.keys place None) o ≡ Some key
      → SomeHasKeyBelow subscribers place below key
  by None at h = absurd cc
  by (Some y) at h = let low = within_if_some subscribers has.0 y at in (has.0, omega (arith, low, all), has.1)

-- at all keys at which a connection of it stands
pub leaves-all : (x : PublisherFields) (place : ℕ) (subscribers : List (Option SubscriberFields))
    (old now new : Slab Link) → FindsAll x place subscribers old
    → LeavesAt x.id subscribers (HasKey x.keys) old now
    → LeavesAt x.id subscribers (SomeHasKey subscribers place) now new → LeavesConnections x.id subscribers old new
leaves-all x place subscribers old now new finds own theirs = record {
  at = λ k. by k (get old k) refl;
} where
  both : LeavesAt x.id subscribers (λ k. HasKey x.keys k ⊎ SomeHasKey subscribers place k) old new
  both = leaves-both x.id subscribers (HasKey x.keys) (SomeHasKey subscribers place)
      (λ k. HasKey x.keys k ⊎ SomeHasKey subscribers place k) old now new own theirs (λ k has. has)

  by : (k : ℕ) (o : Option Link) → get old k ≡ o
      → get new k ≡ option_and_then (after_close x.id subscribers k) (get old k)
  by k None e = elim (both.others k)
      [ inl same ↦ same ∙ e ∙ sym (ap (option_and_then (after_close x.id subscribers k)) e) | inr left ↦ left ]
  by k (Some c) e = elim (cases_eq c.home.publisher x.id) [
    | inl mine ↦ both.at k (finds.at k c e mine)
    | inr away ↦ elim (both.others k) [
      | inl same ↦
          same ∙ e
          ∙ sym (ap (λ (t : Bool). cond t (if_holding (left_link (is_awaited subscribers k c) c)) (Some c))
          (ne_eqb c.home.publisher x.id away))
          ∙ sym (ap (option_and_then (after_close x.id subscribers k)) e)
      | inr left ↦ left
    ]
  ]
