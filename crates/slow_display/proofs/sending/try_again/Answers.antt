use Rattle.slow_display.proofs.sending.try_again.Goals as goal

pub returns-in-Blocked : goal.returns-in-Blocked
returns-in-Blocked g c = (rw c.in-Blocked.is at c.in_ok-count.ensures.goes_on.since_again) _ c.give_up.ensures
