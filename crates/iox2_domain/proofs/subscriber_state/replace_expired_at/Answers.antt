use Rattle.std.proofs.Common.{◌≡◌, ◌<◌, ◌∙◌, ℕ, zero, suc, List, [], ◌∷◌, length, get_or, refl, arith}
use Rattle.std.specs.declared.option.Option.{Option}
use Rattle.std.specs.declared.option.Option.TheVariants.{None}
use Rattle.iox2_laws.proofs.NumberLemmas.{length-without_le}
use Rattle.iox2_domain.proofs.subscriber_state.replace_expired_at.Goals as goal

any-default : {A : Type 0} (xs : List (Option A)) (i : ℕ) (o : Option A) → i < length xs
    → get_or xs i None ≡ get_or xs i o
any-default [] i o low = absurd (omega arith)
any-default (x ∷ xs) zero o low = refl
any-default (x ∷ xs) (suc i) o low = any-default xs i o (omega arith)

pub expire-requires-clause-room : goal.expire-requires-clause-room
expire-requires-clause-room c =
    let y = c.in-Some.subscriber in
    let room : length y.expired < y.expired_room =
    c.requires.room y (any-default c.args.subscribers.now c.args.place c.index-subscribers-place.result
    c.requires.stands ∙ c.in-Some.is) in
    rw c.forget_expired.ensures (omega (arith, room, length-without_le c.args.first y.expired))
