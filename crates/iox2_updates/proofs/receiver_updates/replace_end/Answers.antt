use Rattle.std.proofs.Common.{◌≡◌, ◌∙◌, true, false, ap, sym, subst, get_or}
use Rattle.std.proofs.lemmas.Bool.{eqb-true, eqb-false}
use Rattle.std.proofs.lemmas.Option.{same_Some}
use Rattle.std.specs.declared.option.Option.TheVariants.{None, Some}
use Rattle.iox2_domain.specs.Boxes.{answers_of}
use Rattle.iox2_machine.specs.declared.errors.ConnectionFailure.{ConnectionFailure}
use Rattle.iox2_domain.specs.Fields.{Fields}
use Rattle.iox2_domain.specs.Ports.{SubscriberFields}
use Rattle.iox2_domain.specs.ReceiverSteps.{RetiresReceiver, ConnectsAt, ConnectsEnd}
use Rattle.iox2_steps.proofs.receivers.FoundEnds.{receiver-stands}
use Rattle.iox2_steps.proofs.receivers.Connects.{AfterRetirement, keeps-end, departed-end, refused-there}
use Rattle.iox2_steps.proofs.receivers.Connects.{after-retirement}
use Rattle.iox2_domain.proofs.lemmas.fields.Standing.{receiver-link}
use Rattle.iox2_updates.specs.Ends.{DepartedAt, MeetAt}
use Rattle.iox2_updates.proofs.receiver_updates.replace_end.Goals.{After-is_publishers}
use Rattle.iox2_updates.proofs.receiver_updates.replace_end.Goals as goal

pub is_publishers-requires : goal.is_publishers-requires
is_publishers-requires g c =
    let meet = c.requires.meet in
    receiver-stands c.args.state.now meet.agrees c.args.at.subscriber c.args.at.publisher c.args.key meet.subscriber
    meet.subscriber_stands meet.has

pub returns-then-is_publishers : goal.returns-then-is_publishers
returns-then-is_publishers g c = λ meet.
    let old = c.args.state.now in
    let own = receiver-link old meet.agrees.parts c.args.at.subscriber c.args.at.publisher c.args.key meet.subscriber
    meet.subscriber_stands meet.has in
    keeps-end (answers_of g.F.BackpressureFn.allows g.G.DegradationFn.allows c.args.boxes.now.boxes) old meet.agrees
    c.args.at.subscriber c.args.at.publisher meet.subscriber meet.subscriber_stands meet.publisher meet.publisher_stands
    c.args.key own.0 meet.has own.1
    (eqb-true own.0.home.publisher c.args.publisher
    (sym (c.is_publishers.ensures own.0 own.1) ∙ c.if-is_publishers.true) ∙ sym (c.requires.publisher meet))

-- the end is a departed publisher's
abbrev departed : (g : _) (c : After-is_publishers g) → c.is_publishers.result ≡ false
    → MeetAt c.args.state.now c.args.at (Some c.args.key) → DepartedAt c.args.state.now c.args.at c.args.key
departed g c other meet =
    let old = c.args.state.now in
    let own = receiver-link old meet.agrees.parts c.args.at.subscriber c.args.at.publisher c.args.key meet.subscriber
    meet.subscriber_stands meet.has in
    record {
      agrees = meet.agrees;
      subscriber = meet.subscriber;
      link = own.0;
      end = departed-end (answers_of g.F.BackpressureFn.allows g.G.DegradationFn.allows c.args.boxes.now.boxes) old
          meet.agrees c.args.at.subscriber c.args.at.publisher meet.subscriber meet.subscriber_stands meet.publisher
          meet.publisher_stands c.args.key own.0 meet.has own.1
          (λ same. eqb-false own.0.home.publisher c.args.publisher (sym (c.is_publishers.ensures own.0 own.1) ∙ other)
          (same ∙ c.requires.publisher meet));
    }

-- what is known once it is retired
after : (g : _) (c : After-is_publishers g) (other : c.is_publishers.result ≡ false)
    (meet : MeetAt c.args.state.now c.args.at (Some c.args.key)) (f1 : Fields g.row.T.Denot g.row.U.Denot)
    → RetiresReceiver c.args.state.now c.args.at.subscriber c.args.at.publisher meet.subscriber
    (departed g c other meet).link.home.publisher f1 true
    → AfterRetirement (answers_of g.F.BackpressureFn.allows g.G.DegradationFn.allows c.args.boxes.now.boxes)
    c.args.state.now meet.agrees c.args.at.subscriber c.args.at.publisher meet.subscriber meet.subscriber_stands
    meet.publisher meet.publisher_stands c.args.key (departed g c other meet).link (departed g c other meet).end f1
after g c other meet f1 retires =
    let gone = departed g c other meet in
    after-retirement (answers_of g.F.BackpressureFn.allows g.G.DegradationFn.allows c.args.boxes.now.boxes)
    c.args.state.now meet.agrees c.args.at.subscriber c.args.at.publisher meet.subscriber meet.subscriber_stands
    meet.publisher meet.publisher_stands c.args.key gone.link gone.end f1 retires

pub retire-requires : goal.retire-requires
retire-requires g c =
    departed g (goal.at.retire-requires g c).After-is_publishers c.if-is_publishers.false c.requires.meet

pub connect_end-requires : goal.connect_end-requires
connect_end-requires g c =
    let meet = c.requires.meet in
    let before = (goal.at.connect_end-requires g c).After-is_publishers in
    let gone = departed g before c.if-is_publishers.false meet in
    let known = after g before c.if-is_publishers.false meet c.retire.new.state
    (subst (RetiresReceiver c.args.state.now c.args.at.subscriber c.args.at.publisher meet.subscriber
    gone.link.home.publisher c.retire.new.state) c.if-retire.true (c.retire.ensures gone)) in
    record {
      agrees = known.agrees;
      publisher = known.publisher.0;
      subscriber = known.subscriber.0;
      publisher_stands = known.publisher.1;
      subscriber_stands = known.subscriber.1;
      has = known.subscriber.2;
    }

pub returns-then-retire : goal.returns-then-retire
returns-then-retire g c = λ meet.
    let before = (goal.at.returns-then-retire g c).After-is_publishers in
    let gone = departed g before c.if-is_publishers.false meet in
    let known = after g before c.if-is_publishers.false meet c.retire.new.state
    (subst (RetiresReceiver c.args.state.now c.args.at.subscriber c.args.at.publisher meet.subscriber
    gone.link.home.publisher c.retire.new.state) c.if-retire.true (c.retire.ensures gone)) in
    known.then c.connect_end.new.state c.connect_end.result (λ w at_w.
    let is : known.subscriber.0 ≡ w = same_Some known.subscriber.0 w (sym known.subscriber.1 ∙ at_w) in
    let met : MeetAt c.retire.new.state c.args.at None =
    record {
      agrees = known.agrees;
      publisher = known.publisher.0;
      subscriber = w;
      publisher_stands = known.publisher.1;
      subscriber_stands = at_w;
      has = ap (λ (z : SubscriberFields). get_or z.keys c.args.at.publisher None) (sym is) ∙ known.subscriber.2;
    } in
    subst (λ p. ConnectsEnd (answers_of g.F.BackpressureFn.allows g.G.DegradationFn.allows c.args.boxes.now.boxes)
    c.retire.new.state c.args.at.subscriber c.args.at.publisher w p c.connect_end.new.state c.connect_end.result)
    known.publisher.2
    (c.connect_end.ensures met))

pub returns-else-retire : goal.returns-else-retire
returns-else-retire g c = λ meet.
    let old = c.args.state.now in
    let gone = departed g (goal.at.returns-else-retire g c).After-is_publishers c.if-is_publishers.false meet in
    subst (λ (failure : ConnectionFailure).
    ConnectsAt (answers_of g.F.BackpressureFn.allows g.G.DegradationFn.allows c.args.boxes.now.boxes) old
    c.args.at.subscriber c.args.at.publisher meet.subscriber c.retire.new.state (Some failure))
    (sym c.expired_full.ensures)
    (refused-there (answers_of g.F.BackpressureFn.allows g.G.DegradationFn.allows c.args.boxes.now.boxes) old
    meet.agrees c.args.at.subscriber c.args.at.publisher meet.subscriber meet.subscriber_stands meet.publisher
    meet.publisher_stands c.args.key gone.link gone.end c.retire.new.state
    (subst (RetiresReceiver old c.args.at.subscriber c.args.at.publisher meet.subscriber gone.link.home.publisher
    c.retire.new.state) c.if-retire.false (c.retire.ensures gone)))
