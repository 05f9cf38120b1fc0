use Rattle.std.proofs.Common.{rules, ◌∙◌, ℕ, subst, sym, Option}
use Rattle.iox2_pubsub.specs.Factories.{with_slots}
use Rattle.iox2_c.specs.Calls.{MakesPublisher, publisher_made}
use Rattle.iox2_c.specs.Steps.{CreatesPublisher}
use Rattle.iox2_c.proofs.CreationSteps.{by-id, slots-asked, slots-left}
use Rattle.iox2_c.proofs.calls.publishers.create_by.Goals as goal

pub returns-then-slots-eq0 : goal.returns-then-slots-eq0
returns-then-slots-eq0 c =
    let step = subst (λ (asked : Option ℕ). CreatesPublisher c.args.domain.now c.create.new.domain
    (with_slots c.args.factory.settings asked) (publisher_made c.create.result))
    (c.requires ∙ sym (slots-left c.args.slots c.if-slots-eq0.true))
    (by-id c.args.domain.now c.create.new.domain c.args.factory.settings c.create.result c.create.ensures.creates) in
    record {
      creates = step;
      ready = search rules;
      fresh = search rules;
      longest = search rules;
      strategy = search rules;
      stays = search rules;
    }

pub returns-else-slots-eq0 : goal.returns-else-slots-eq0
returns-else-slots-eq0 c =
    subst (λ (asked : Option ℕ). MakesPublisher
    (with_slots c.args.factory.settings asked) c.args.domain.now c.create_asked.new.domain c.create_asked.result)
    (sym (slots-asked c.args.slots c.if-slots-eq0.false)) c.create_asked.ensures
