use Rattle.std.proofs.Common.{◌≡◌, ◌<◌, ℕ, Bool, true, false, IsTrue, arith}
use Rattle.std.specs.Prelude.{not}
use Rattle.iox2_pubsub.specs.Live.{waiting}
use Rattle.iox2_pubsub.proofs.ForCallers.{none_from_each}
use Rattle.message_patterns.proofs.joining.is_idle.Goals as goal

-- a number is 0 or more
none-if-not : (n : ℕ) (b : Bool) → IsTrue (not b) → (0 < n → IsTrue b) → n ≡ 0
none-if-not n false idle some = grind arith
none-if-not n true idle some = let clash : false ≡ true = idle in absurd cc

pub returns-in-Ok-clause-none : goal.returns-in-Ok-clause-none
returns-in-Ok-clause-none c = λ idle publisher.
    let domain = c.has_samples.new.domain in
    none_from_each domain (c.in-Ok.ensures.leaves.stays.consistent c.in-Ok.ensures.consistent) c.args.subscriber.now
    (none-if-not (waiting domain c.args.subscriber.now) c.in-Ok.waits idle c.in-Ok.ensures.waits.1) publisher
