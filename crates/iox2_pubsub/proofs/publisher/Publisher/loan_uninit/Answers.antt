use Rattle.std.proofs.Common.{sym}
use Rattle.std.proofs.lemmas.Bool.{true≢false}
use Rattle.iox2_pubsub.proofs.LiveParts.{single-parts}
use Rattle.iox2_pubsub.proofs.publisher.Publisher.loan_uninit.Goals as goal

pub lend-requires-clause-unchecked : goal.lend-requires-clause-unchecked
lend-requires-clause-unchecked g c = λ unchecked. (single-parts c.args.domain.now c.requires.single_valued).0

pub returns-clause-granted : goal.returns-clause-granted
returns-clause-granted g c = λ loans numbers left numbered.
    c.lend.ensures.granted loans numbers left numbered (λ checked. absurd (true≢false (sym checked)))
