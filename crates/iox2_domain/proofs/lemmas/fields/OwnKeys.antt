-- The keys by which a subscriber knows its connections.
use Rattle.std.proofs.Common.{◌≡◌, ℕ, zero, suc, ◌<◌, List, [], ◌∷◌, map, length, get_or, Contains, refl, ap, sym, ◌∙◌}
use Rattle.std.proofs.Common.{inl, inr, ◌⊎◌, arith}
use Rattle.std.specs.declared.option.Option.{Option}
use Rattle.std.specs.declared.option.Option.TheVariants.{None, Some}
use Rattle.slab.specs.Slab.{Slab, get}
use Rattle.iox2_connections.specs.Link.{Link}
use Rattle.iox2_machine.specs.machine.Places.{occupant}
use Rattle.iox2_machine.specs.machine.WellFormed.{LeadsTo}
use Rattle.iox2_connections.specs.Finds.{IsReceiverLinked, IsReceivers}
use Rattle.iox2_connections.specs.Homes.{IsApart}
use Rattle.iox2_connections.specs.Mailboxes.{receiver_ends}
use Rattle.iox2_connections.proofs.MailboxChanges.{is_between-own}
use Rattle.iox2_domain.specs.Departures.{HasKey, KnowsKey}
use Rattle.iox2_domain.specs.Ports.{SubscriberFields}
use Rattle.iox2_domain.proofs.lemmas.fields.Standing.{some_is}
use Rattle.iox2_domain.proofs.lemmas.fields.NamedPorts.{end-leads-through}

-- an element of a list stands at some index
pub listed-at : (xs : List ℕ) (key : ℕ) → Contains xs key → HasKey (map Some xs) key
listed-at xs key has = (has.0, at xs has.0 has.1 has.2) where
  at : (ys : List ℕ) (i : ℕ) → i < length ys → get_or ys i key ≡ key → get_or (map Some ys) i None ≡ Some key
  at [] i low is = absurd (omega (arith, low))
  at (y ∷ ys) zero low is = ap Some is
  at (y ∷ ys) (suc i) low is = at ys i (omega (arith, low)) is

-- and back
pub listed-has : (xs : List ℕ) (i key : ℕ) → get_or (map Some xs) i None ≡ Some key → Contains xs key
listed-has [] zero key at = absurd cc
listed-has [] (suc i) key at = absurd cc
listed-has (x ∷ xs) zero key at = let is : x ≡ key = cc in (zero, omega arith, is)
listed-has (x ∷ xs) (suc i) key at = let rest = listed-has xs i key at in (suc rest.0, omega (arith, rest.1), rest.2)

-- a subscriber that has a connection knows its key
pub known : (y : SubscriberFields) (place key : ℕ) → (get_or y.keys place None ≡ Some key) ⊎ Contains y.expired key
    → KnowsKey y key
known y place key (inl there) = inl (place, there)
known y place key (inr among) = inr (listed-at y.expired key among)

-- a subscriber's end leads through a connection
pub receiver-leads : (connections : Slab Link) (keys : List (Option ℕ)) (i p : ℕ)
    → occupant (receiver_ends connections keys) i ≡ Some p
    → (key : ℕ) × (c : Link) × (get_or keys i None ≡ Some key) × (get connections key ≡ Some c) × (c.home.publisher ≡ p)
receiver-leads = end-leads-through (λ (c : Link). c.home.publisher)

-- an end to a connection's publisher is an end to the connection
pub own-key : (connections : Slab Link) → IsApart connections → (key : ℕ) (c : Link) → get connections key ≡ Some c
    → (q : ℕ) → c.home.subscriber ≡ q → {most : ℕ} → (keys : List (Option ℕ))
    → IsReceiverLinked q most connections keys → LeadsTo (receiver_ends connections keys) c.home.publisher
    → HasKey keys key
own-key connections apart key c at q mine {most} keys linked leads =
    let to = receiver-leads connections keys leads.0 c.home.publisher leads.1 in
    let own = some_is (IsReceivers q most) (get connections to.0) (linked.at leads.0 to.0 to.2) in
    let one : Some own.0 ≡ Some to.1 = sym own.1 ∙ to.3 in
    let is : own.0 ≡ to.1 = cc in
    let same : to.0 ≡ key = (apart.one c.home.publisher q).one to.0 key to.1 c to.3 at
    (is_between-own c.home.publisher q to.1 to.4 (ap (λ (d : Link). d.home.subscriber) (sym is) ∙ own.2.subscriber))
    (is_between-own c.home.publisher q c refl mine) in
    (leads.0, to.2 ∙ ap Some same)
