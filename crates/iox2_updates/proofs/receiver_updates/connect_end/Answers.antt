use Rattle.std.proofs.Common.{◌≡◌, ◌≢◌, ℕ, ◌<◌, ◌∙◌, ap, sym, subst, get_or}
use Rattle.std.proofs.lemmas.List.{with_items_is}
use Rattle.std.proofs.lemmas.Option.{same_Some}
use Rattle.std.specs.Prelude.{MatchOption}
use Rattle.std.specs.declared.option.Option.TheVariants.{None, Some}
use Rattle.iox2_domain.specs.Boxes.{answers_of}
use Rattle.iox2_machine.specs.machine.Limits.{warning_limit}
use Rattle.iox2_machine.specs.machine.Connections.{warnings_after}
use Rattle.iox2_connections.specs.declared.connection.Home.{Home}
use Rattle.slab.specs.Slab.{get}
use Rattle.iox2_connections.specs.Link.{Link}
use Rattle.iox2_domain.specs.Ports.{SubscriberFields}
use Rattle.iox2_domain.specs.WarningRing.{warning_ring}
use Rattle.iox2_domain.specs.Fields.{Fields}
use Rattle.iox2_domain.specs.ReceiverSteps.{NotJoined, JoinsAt}
use Rattle.iox2_domain.specs.Updates.{StandApart, changed_at, home_of, with_receiver_key}
use Rattle.iox2_steps.proofs.receivers.Outcomes.{joins-as, makes-as, misses-as}
use Rattle.iox2_domain.proofs.lemmas.fields.Standing.{receiver-room, sender-joins, some-buffer}
use Rattle.iox2_updates.specs.Ends.{MeetAt}
use Rattle.iox2_updates.specs.declared.places.Places.{Places}
use Rattle.iox2_updates.proofs.receiver_updates.connect_end.Goals.{After-joined_key}
use Rattle.iox2_updates.proofs.receiver_updates.connect_end.Goals as goal

-- where the connection of the two ports is to stand
home : {T U : Type 0} (f : Fields T U) (at : Places) (h : Home) (buffer : ℕ)
    → StandApart f.publishers f.subscribers at.publisher at.subscriber h buffer → (meet : MeetAt f at None)
    → (h ≡ home_of at.publisher at.subscriber meet.publisher meet.subscriber) × (buffer ≡ meet.subscriber.buffer)
home f at h buffer stand meet =
    let x : stand.publisher ≡ meet.publisher =
    same_Some stand.publisher meet.publisher (sym stand.publisher_stands ∙ meet.publisher_stands) in
    let y : stand.subscriber ≡ meet.subscriber =
    same_Some stand.subscriber meet.subscriber (sym stand.subscriber_stands ∙ meet.subscriber_stands) in (
      stand.home_is ∙ (λ k. home_of at.publisher at.subscriber (x k) (y k)),
      stand.buffer_is ∙ ap (λ (w : SubscriberFields). w.buffer) y,
    )

-- where a key was found, the publisher has its end to the subscriber there
joined : (g : _) (c : After-joined_key g) (meet : MeetAt c.args.state.now c.args.at None) (key : ℕ)
    → c.joined_key.result ≡ Some key
    → JoinsAt c.args.state.now meet.publisher c.args.at.subscriber c.ports_at-buffer.result.0.subscriber key
joined g c meet key found =
    let its = c.ports_at-buffer.result.0.subscriber in
    subst (λ o. MatchOption o (NotJoined c.args.state.now meet.publisher c.args.at.subscriber its)
    (λ k. JoinsAt c.args.state.now meet.publisher c.args.at.subscriber its k)) found
    (c.joined_key.ensures meet.publisher meet.publisher_stands)

-- where no key was found, the publisher has no end to the subscriber either
apart : (g : _) (c : After-joined_key g) → c.joined_key.result ≡ None → (meet : MeetAt c.args.state.now c.args.at None)
    → (key : ℕ) (l : Link) → get_or meet.publisher.keys c.args.at.subscriber None ≡ Some key
    → get c.args.state.now.connections key ≡ Some l → l.home.subscriber ≢ meet.subscriber.id
apart g c none meet key l has stands its =
    let own = c.ports_at-buffer.result.0.subscriber in
    let not_joined : NotJoined c.args.state.now meet.publisher c.args.at.subscriber own =
    subst (λ o. MatchOption o (NotJoined c.args.state.now meet.publisher c.args.at.subscriber own)
    (λ k. JoinsAt c.args.state.now meet.publisher c.args.at.subscriber own k)) none
    (c.joined_key.ensures meet.publisher meet.publisher_stands) in
    not_joined.at key l has stands (its
    ∙ sym (ap (λ (h : Home). h.subscriber) (home c.args.state.now c.args.at _ _ c.ports_at-buffer.ensures meet).0))

pub set_key_at-requires-clause-room : goal.set_key_at-requires-clause-room
set_key_at-requires-clause-room g c = λ z at.
    let old = c.args.state.now in
    let meet = c.requires in
    let same : c.deref_mut.result.now ≡ old.subscribers =
    c.deref_mut.ensures.value ∙ ap (λ (f : Fields g.row.T.Denot g.row.U.Denot). f.subscribers) c.state.view_is in
    let is : meet.subscriber ≡ z = same_Some meet.subscriber z
    (sym meet.subscriber_stands ∙ ap (λ xs. get_or xs c.args.at.subscriber None) (sym same) ∙ at) in
    let joins =
    joined g (goal.at.set_key_at-requires-clause-room g c).After-joined_key meet c.in-Some.key c.in-Some.is in
    let own = ap (λ (h : Home). h.subscriber) (home c.args.state.now c.args.at _ _ c.ports_at-buffer.ensures meet).0 in
    subst (λ (w : SubscriberFields). c.args.at.publisher < w.key_room) is
    (receiver-room old meet.agrees.parts c.args.at.publisher c.args.at.subscriber meet.publisher meet.subscriber
    meet.publisher_stands meet.subscriber_stands c.in-Some.key joins.link
    (sender-joins old meet.agrees.parts c.args.at.publisher c.args.at.subscriber meet.publisher meet.subscriber
    meet.publisher_stands meet.subscriber_stands c.in-Some.key joins.link joins.has joins.stands (joins.its ∙ own)))

pub returns-in-Some : goal.returns-in-Some
returns-in-Some g c = λ meet.
    let old = c.args.state.now in
    let own = ap (λ (h : Home). h.subscriber) (home c.args.state.now c.args.at _ _ c.ports_at-buffer.ensures meet).0 in
    let joins = joined g (goal.at.returns-in-Some g c).After-joined_key meet c.in-Some.key c.in-Some.is in
    let viewed = c.state.view_is in
    let subscribers : c.state.inside.subscribers.items ≡ old.subscribers =
    ap (λ (f : Fields g.row.T.Denot g.row.U.Denot). f.subscribers) viewed in
    let written : _ ≡ changed_at
    (with_receiver_key c.args.at.publisher c.in-Some.key) old.subscribers c.args.at.subscriber =
    with_items_is c.state.inside.subscribers c.set_key_at.new.ports (c.set_key_at.auto.ports ∙ c.deref_mut.ensures.len)
    ∙ c.set_key_at.ensures ∙ ap (λ xs. changed_at (with_receiver_key c.args.at.publisher c.in-Some.key) xs
    c.args.at.subscriber) (c.deref_mut.ensures.value ∙ subscribers) in
    joins-as (answers_of g.F.BackpressureFn.allows g.G.DegradationFn.allows c.args.boxes.now.boxes) old meet.agrees
    c.args.at.publisher c.args.at.subscriber meet.publisher meet.subscriber meet.publisher_stands meet.subscriber_stands
    meet.has c.in-Some.key joins.link joins.has joins.stands (joins.its ∙ own) _
    (λ k. record (viewed k) { subscribers = written k })

pub make_between-requires-clause-buffer : goal.make_between-requires-clause-buffer
make_between-requires-clause-buffer g c =
    let meet = c.requires in
    rw (home c.args.state.now c.args.at _ _ c.ports_at-buffer.ensures meet).1
    (some-buffer c.args.state.now meet.agrees.parts meet.agrees.well_formed c.args.at.subscriber meet.subscriber
    meet.subscriber_stands)

pub returns-in_default-make_between : goal.returns-in_default-make_between
returns-in_default-make_between g c = λ meet.
    let old = c.args.state.now in
    let stand = home c.args.state.now c.args.at _ _ c.ports_at-buffer.ensures meet in
    let mid = c.make_between.new.state in
    rw c.degrade.ensures.failure
    (misses-as (answers_of g.F.BackpressureFn.allows g.G.DegradationFn.allows c.args.boxes.now.boxes) old meet.agrees
    c.args.at.publisher c.args.at.subscriber meet.publisher meet.subscriber meet.publisher_stands meet.subscriber_stands
    meet.has (apart g (goal.at.returns-in_default-make_between g c).After-joined_key c.in_default.is meet)
    c.ports_at-buffer.result.0 c.ports_at-buffer.result.1 stand.0 stand.1 mid c.make_between.ensures.grows tt _ _
    (ap (λ (f : Fields g.row.T.Denot g.row.U.Denot). (f.config).service_id) c.state.view_is)
    (c.degradation_at-mark.ensures meet.subscriber
    (ap (λ ys. get_or ys c.args.at.subscriber None)
    (c.deref.ensures.value ∙ ap (λ (f : Fields g.row.T.Denot g.row.U.Denot). f.subscribers) c.state.view_is)
    ∙ meet.subscriber_stands)) c.ask-answer.result c.ask-answer.ensures c.degrade.new.warnings
    c.in_default-make_between.ensures.refused
    (c.degrade.ensures.warnings ∙ ap (λ (f : Fields g.row.T.Denot g.row.U.Denot).
    warning_ring (warnings_after c.ports_at-buffer.result.0.publisher c.ports_at-buffer.result.0.subscriber
    c.ask-answer.result f.warnings.items) warning_limit) (c.state-2.view_is ∙ c.make_between.ensures.grows.fields))
    _ (λ k. record (c.state-2.view_is k) { warnings = c.degrade.new.warnings }))

pub returns : goal.returns
returns g c = λ meet.
    let old = c.args.state.now in
    let stand = home c.args.state.now c.args.at _ _ c.ports_at-buffer.ensures meet in
    let mid = c.make_between.new.state in
    let written : _ ≡ changed_at
    (with_receiver_key c.args.at.publisher c.in-Ok.key) mid.subscribers c.args.at.subscriber =
    with_items_is c.state-2.inside.subscribers c.set_key_at-2.new.ports
    (c.set_key_at-2.auto.ports ∙ c.deref_mut-2.ensures.len)
    ∙ c.set_key_at-2.ensures
    ∙ ap (λ zs. changed_at (with_receiver_key c.args.at.publisher c.in-Ok.key) zs c.args.at.subscriber)
    (c.deref_mut-2.ensures.value ∙ ap (λ (f : Fields g.row.T.Denot g.row.U.Denot). f.subscribers) c.state-2.view_is) in
    makes-as (answers_of g.F.BackpressureFn.allows g.G.DegradationFn.allows c.args.boxes.now.boxes) old meet.agrees
    c.args.at.publisher c.args.at.subscriber meet.publisher meet.subscriber meet.publisher_stands meet.subscriber_stands
    meet.has (apart g (goal.at.returns g c).After-joined_key c.in_default.is meet)
    c.ports_at-buffer.result.0 c.ports_at-buffer.result.1 stand.0 stand.1 mid c.make_between.ensures.grows
    c.in-Ok.ensures.sender_room c.in-Ok.ensures.receiver_room c.in-Ok.ensures.expired_room c.in-Ok.key
    c.in-Ok.ensures.made
    _ (λ k. record (c.state-2.view_is k) { subscribers = written k })
