-- The subscriber of a connection stands where the connection says, and is open.
use Rattle.std.proofs.Common.{◌≡◌, ℕ, true, List, map, get_or, slice_set, Option, None, Some, refl, ap, sym, ◌∙◌, inl}
use Rattle.std.proofs.Common.{inr}
use Rattle.std.proofs.lemmas.Bool.{eq-eqb}
use Rattle.std.specs.Prelude.{◌&&◌}
use Rattle.std.specs.Option.{option_map}
use Rattle.iox2_connections.specs.Link.{Link}
use Rattle.iox2_connections.specs.Receivers.{is_open_at, is_open_one}
use Rattle.iox2_domain.specs.Invariant.{HasOpenReceiver, details_of}
use Rattle.iox2_domain.specs.Ports.{SubscriberFields}
use Rattle.iox2_domain.proofs.lemmas.containers.ChangedRecords.{changed-here, changed-still}
use Rattle.iox2_domain.proofs.lemmas.containers.LookUps.{map-at}

-- it does where whoever stood there stands there still, and is as open
pub open-still : (old new : List (Option SubscriberFields)) (c : Link)
    → ((z : SubscriberFields) → get_or old c.home.subscriber_place None ≡ Some z
    → (w : SubscriberFields) × (get_or new c.home.subscriber_place None ≡ Some w) × (w.id ≡ z.id)
    × (w.is_open ≡ z.is_open))
    → HasOpenReceiver old c → HasOpenReceiver new c
open-still old new c still has =
    let w = still has.subscriber has.stands in
    record { subscriber = w.0; stands = w.1; is_its = w.2 ∙ has.is_its; is_open = w.3 ∙ has.is_open }

-- it does where one subscriber changed, and is as open
pub open-changed : (xs : List (Option SubscriberFields)) (j : ℕ) (y y' : SubscriberFields) → get_or xs j None ≡ Some y
    → y'.id ≡ y.id → y'.is_open ≡ y.is_open
    → (c : Link) → HasOpenReceiver xs c → HasOpenReceiver (slice_set xs j (Some y')) c
open-changed xs j y y' at id is_open c = open-still xs (slice_set xs j (Some y')) c
    (λ z at_z. elim (changed-still xs j y y' at c.home.subscriber_place z at_z) [
      | inl here ↦ (
        y',
        ap (λ (n : ℕ). get_or (slice_set xs j (Some y')) n None) here.0 ∙ changed-here xs j y y' at,
        id ∙ sym (ap (λ (w : SubscriberFields). w.id) here.1),
        is_open ∙ sym (ap (λ (w : SubscriberFields). w.is_open) here.1),
      )
      | inr there ↦ (z, there, refl, refl)
    ])

-- it is seen by a publisher that delivers
pub open-seen : (subscribers : List (Option SubscriberFields)) (c : Link) → HasOpenReceiver subscribers c
    → is_open_at (map (option_map details_of) subscribers) c.home.subscriber_place c.home.subscriber ≡ true
open-seen subscribers c has =
    ap (is_open_one c.home.subscriber)
    (map-at details_of subscribers c.home.subscriber_place ∙ ap (option_map details_of) has.stands)
    ∙ (λ i. eq-eqb has.subscriber.id c.home.subscriber has.is_its i && has.is_open i)
