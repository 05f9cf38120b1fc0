use Rattle.std.proofs.Common.{ℕ, List, [], ◌∷◌, suc, length, ap, sym, ◌∙◌}
use Rattle.iox2_pubsub.specs.Payloads.{singles}
use Rattle.iox2_pubsub.proofs.ForCallers.{all_from_stays, waits_as_before}
use Rattle.iox2_pubsub.proofs.ReceivedLaws.{received_first, received_oldest}
use Rattle.message_patterns.proofs.passing.read_one.Goals as goal

pub returns-clause-first : goal.returns-clause-first
returns-clause-first c = λ publisher values wait.
    let received = rw c.in-Ok-Some.field-0-is at c.in-Ok-Some.ensures in
    let got = received_first c.args.domain.now c.receive.new.domain c.args.subscriber.now c.in-Ok-Some.sample
    received.received publisher values wait in (
      got.1,
      got.2 ∙ ap (λ (value : ℕ). value ∷ got.1) (sym (c.payload-value.ensures.same got.0 got.3)),
      all_from_stays c.receive.new.domain c.release.new.domain c.release.ensures.leaves.waits publisher
          c.args.subscriber.now (singles got.1) got.4,
    )

pub returns-clause-oldest : goal.returns-clause-oldest
returns-clause-oldest c = λ keeps.
    let received = rw c.in-Ok-Some.field-0-is at c.in-Ok-Some.ensures in
    let sample = c.in-Ok-Some.sample in
    let value = c.payload-value.result.now in
    let same = waits_as_before c.receive.new.domain c.release.new.domain c.args.subscriber.now
    c.release.ensures.leaves.waits in (
      sample.origin,
      received_oldest c.args.domain.now c.receive.new.domain c.args.subscriber.now sample received.received
          (value ∷ []) c.payload-value.ensures.reads
          ∙ ap (λ (later : List (List ℕ)). (value ∷ []) ∷ later) (sym (same.from sample.origin)),
      λ other away. same.from other ∙ received.received.rest keeps other away,
      ap (λ (all : List (List ℕ)). suc (length all)) same.all ∙ received.received.one_fewer keeps,
    )

pub returns-clause-borrows : goal.returns-clause-borrows
returns-clause-borrows c = λ left.
    let received = rw c.in-Ok-Some.field-0-is at c.in-Ok-Some.ensures in
    c.release.ensures.gives_back c.args.subscriber.now 0 (sym received.received.subscriber) (received.takes.own 0 left)

pub returns-in-Err-clause-granted : goal.returns-in-Err-clause-granted
returns-in-Err-clause-granted c = λ updated left. c.in-Err.ensures.granted 0 updated left

pub returns-in-Err-clause-granted_of : goal.returns-in-Err-clause-granted_of
returns-in-Err-clause-granted_of c =
    λ publisher updated left some. c.in-Err.ensures.granted_of publisher 0 updated left some
