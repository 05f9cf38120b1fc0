use Rattle.std.proofs.Common.{ap, ◌∙◌, ℕ, List, [], ◌∷◌}
use Rattle.iox2_pubsub.specs.declared.subscriber.Subscriber.{Subscriber}
use Rattle.calling.proofs.order.receive_one.Goals as goal

pub returns-clause-first : goal.returns-clause-first
returns-clause-first g c = λ publisher value others all.
    let received = rw c.in-Some.is at c.in_ok-sample.ensures.received in
    let left = received.later publisher (value ∷ []) others all in (
      c.payload-received.ensures.same value (received.first publisher (value ∷ []) others all),
      record {
        all = ap (λ (f : Subscriber → List (List ℕ)). f c.args.subscriber.now) c.release.ensures.leaves.waits.all
            ∙ left.all;
        from = ap (λ (f : ℕ → Subscriber → List (List ℕ)). f publisher c.args.subscriber.now)
            c.release.ensures.leaves.waits.from ∙ left.from;
      },
    )
