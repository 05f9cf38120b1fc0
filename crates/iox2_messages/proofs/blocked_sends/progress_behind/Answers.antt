use Rattle.std.proofs.Common.{None, Some, slice_index_or, sym, ◌∙◌, ap, subst, arith}
use Rattle.iox2_domain.specs.Fields.{Fields}
use Rattle.iox2_domain.specs.Invariant.{IsDomain}
use Rattle.iox2_domain.proofs.lemmas.slots.PublisherBooks.{read-there}
use Rattle.iox2_steps.proofs.sends.BlockedSteps.{waits-within}
use Rattle.iox2_messages.proofs.blocked_sends.progress_behind.Goals as goal

pub overflow_add-result : goal.overflow_add-result
overflow_add-result g c =
    let low =
    (waits-within _ (subst (IsDomain {T = g.row.T.Denot} {U = g.row.U.Denot}) (sym c.state.view_is) c.requires.agrees)
    c.args.place _ (read-there _ c.args.place _ _
    (ap (λ (f : Fields g.row.T.Denot g.row.U.Denot). slice_index_or f.publishers c.args.place None) c.state.view_is
    ∙ c.requires.waits.stands) c.index.ensures ∙ c.in-Some.is ∙ ap Some (sym c.publisher.view_is))
    c.in-Some-blocked.blocked c.in-Some-blocked.is).0 in
    omega (arith, low, c.publisher.inside.keys.ok, c.publisher.inside.keys.small)
