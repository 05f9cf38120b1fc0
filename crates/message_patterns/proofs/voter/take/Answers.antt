use Rattle.std.proofs.Common.{inl}
use Rattle.message_patterns.proofs.VotesWait.{take-vote}
use Rattle.message_patterns.proofs.voter.take.Goals as goal

pub returns-clause-picks : goal.returns-clause-picks
returns-clause-picks c = λ votes wait.
    let oldest = (rw c.in-Some.is at c.in_ok-reading.ensures.oldest) (inl c.requires.up_to_date) in
    take-vote c.args.domain.now c.read_one.new.domain c.args.subscriber.now oldest.0 c.in-Some.reading oldest.1 oldest.2
    c.in_ok-reading.ensures.consistent oldest.3 votes wait
