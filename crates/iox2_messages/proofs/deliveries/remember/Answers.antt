use Rattle.std.proofs.Common.{sym, ◌∙◌, ap}
use Rattle.iox2_domain.specs.Deliveries.{leaving}
use Rattle.iox2_domain.specs.Ports.{PublisherFields}
use Rattle.iox2_messages.proofs.deliveries.remember.Goals as goal

pub release-requires : goal.release-requires
release-requires c =
    let used = c.requires.leaves c.in-Some.oldest
    (ap (λ (y : PublisherFields). leaving y.history c.args.slot) (sym c.publisher.view_is)
    ∙ sym c.push_back.ensures.value ∙ c.in-Some.is) in
    rw c.set_mark.ensures (record { in_bounds = used.in_bounds; in_use = used.in_use })
