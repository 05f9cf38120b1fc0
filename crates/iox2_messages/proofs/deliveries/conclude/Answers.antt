use Rattle.std.proofs.Common.{sym, subst, ap, ◌∙◌}
use Rattle.iox2_slots.specs.SlotBook.{Book, IsInUse}
use Rattle.iox2_connections.specs.declared.sender.DeliveryOutcome.{DeliveryOutcome}
use Rattle.iox2_domain.specs.Deliveries.{leaving, with_history_holder}
use Rattle.iox2_domain.specs.Ports.{PublisherFields}
use Rattle.iox2_messages.proofs.deliveries.conclude.Goals as goal

pub remember-requires-clause-leaves : goal.remember-requires-clause-leaves
remember-requires-clause-leaves c = λ oldest leaves.
    let used = c.requires.leaves oldest
    (ap (λ (y : PublisherFields). leaving y.history c.args.slot) (sym c.remove_loan.ensures) ∙ leaves) in
    subst (λ (o : DeliveryOutcome). IsInUse (with_history_holder o c.args.slot c.args.book.now) oldest) c.in-Complete.is
    used

pub remember-requires-in-Suspended-clause-leaves : goal.remember-requires-in-Suspended-clause-leaves
remember-requires-in-Suspended-clause-leaves c = λ oldest leaves.
    let used = c.requires.leaves oldest
    (ap (λ (y : PublisherFields). leaving y.history c.args.slot) (sym c.publisher.view_is) ∙ leaves) in
    subst (λ (b : Book). IsInUse b oldest) (sym c.hold.ensures)
    (subst (λ (o : DeliveryOutcome). IsInUse (with_history_holder o c.args.slot c.args.book.now) oldest)
    c.in-Suspended.is used)
