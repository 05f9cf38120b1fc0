-- A subscriber that stands at a place has a record.
use Rattle.std.proofs.Common.{◌≡◌, ℕ, ap, sym, ◌∙◌, None, Some}
use Rattle.std.proofs.lemmas.Option.{none-some}
use Rattle.iox2_machine.specs.machine.Places.{occupant}
use Rattle.iox2_machine.specs.machine.Records.{Subscriber}
use Rattle.iox2_machine.specs.machine.WellFormed.{subscriber_place}
use Rattle.std.specs.Option.{option_map}
use Rattle.iox2_domain.specs.Fields.{Fields, kept_of}
use Rattle.iox2_domain.specs.Invariant.{IsDomain}
use Rattle.iox2_domain.specs.Kept.{state_of}

pub stands-present : {T U : Type 0} (f : Fields T U) (sound : IsDomain f) (j q : ℕ)
    → occupant (state_of (kept_of f)).subscriber_places j ≡ Some q → (state_of (kept_of f)).subscribers q ≡ None → ⊥
stands-present f sound j q stands gone =
    let known : subscriber_place (state_of (kept_of f)) q ≡ Some j =
    sound.well_formed.subscriber_places.known q j stands in
    none-some j (sym (ap (option_map {T = Subscriber} {U = ℕ} (λ y. y.place)) gone) ∙ known)
