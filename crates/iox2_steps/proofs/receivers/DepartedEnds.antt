-- A departed publisher's end, to the subscriber that has it.
use Rattle.std.proofs.Common.{◌≡◌, ◌≢◌, ℕ, zero, suc, List, [], ◌∷◌, map, true, get_or, ap, sym, ◌∙◌, inl, inr}
use Rattle.std.specs.declared.option.Option.TheVariants.{None, Some}
use Rattle.slab.specs.Slab.{get}
use Rattle.iox2_connections.specs.Link.{Link}
use Rattle.iox2_machine.specs.machine.Numbers.{contains}
use Rattle.iox2_laws.proofs.NumberLemmas.{contains_in_cons}
use Rattle.iox2_domain.specs.Ports.{PublisherFields, SubscriberFields}
use Rattle.iox2_domain.specs.Invariant.{HasParts, StandsNowhere}
use Rattle.iox2_domain.specs.Fields.{Fields}

-- ---- keys in a list

-- a key of the list stands somewhere
pub among : (keys : List ℕ) (key : ℕ) → contains keys key ≡ true → (i : ℕ) × (get_or (map Some keys) i None ≡ Some key)
among [] key has = absurd cc
among (k ∷ keys) key has = elim (contains_in_cons k key keys has) [
  | inl here ↦ (zero, ap Some here)
  | inr later ↦ let there = among keys key later in (suc there.0, there.1)
]

module _ {T U : Type 0} (f : Fields T U) (parts : HasParts f) where
  -- a publisher that doesn't stand at the place of its end stands nowhere
  pub departed-nowhere : (j i key : ℕ) (y : SubscriberFields) (c : Link) → get_or f.subscribers j None ≡ Some y
      → get_or y.keys i None ≡ Some key → get f.connections key ≡ Some c
      → ((x : PublisherFields) → get_or f.publishers i None ≡ Some x → x.id ≢ c.home.publisher)
      → StandsNowhere f.publishers c.home.publisher
  departed-nowhere j i key y c at_y has at other k x at_x same =
      let known : k ≡ c.home.publisher_place = parts.linked.knows_publishers key k c x at at_x same in
      let place : c.home.publisher_place ≡ i = parts.linked.receiver_places j i key y c at_y has at in
      other x (ap (λ (n : ℕ). get_or f.publishers n None) (sym (known ∙ place)) ∙ at_x) same

  -- nobody has given it back a slot
  pub nothing-returned : (key : ℕ) (c : Link) → get f.connections key ≡ Some c
      → StandsNowhere f.publishers c.home.publisher → c.returned ≡ []
  nothing-returned key c at nowhere = elim (parts.linked.returned key c at) [
    | inl has ↦ absurd (nowhere c.home.publisher_place has.publisher has.stands has.is_its)
    | inr none ↦ none
  ]
