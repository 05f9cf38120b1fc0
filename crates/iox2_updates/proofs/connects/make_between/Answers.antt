use Rattle.std.proofs.Common.{arith, ◌≤◌, ◌<◌, ◌∙◌, ℕ, ap, sym, subst, get_or}
use Rattle.std.proofs.lemmas.List.{with_items_is}
use Rattle.std.specs.declared.option.Option.TheVariants.{None}
use Rattle.std.specs.Prelude.{IfOk}
use Rattle.std.specs.Vec.{with_items}
use Rattle.iox2_domain.specs.Fields.{Fields}
use Rattle.iox2_machine.specs.machine.Limits.{channel_count}
use Rattle.iox2_domain.specs.Invariant.{connection_count}
use Rattle.iox2_domain.specs.Updates.{MakesConnection}
use Rattle.iox2_steps.proofs.updates.MadeRoom.{GetsReceiverRoom, GetsSenderRoom, always, gets-sender-room}
use Rattle.iox2_steps.proofs.updates.MadeRoom.{gets-receiver-room, keeps-receiver-room, makes-room}
use Rattle.iox2_updates.proofs.connects.make_between.Goals.{After-reserve_connection_at}
use Rattle.iox2_updates.proofs.connects.make_between.Goals as goal

pub returns-in_err-reserve_key_at-clause-grows : goal.returns-in_err-reserve_key_at-clause-grows
returns-in_err-reserve_key_at-clause-grows g c =
    let items = with_items_is c.state.inside.publishers c.reserve_key_at.new.ports
    (c.reserve_key_at.auto.ports ∙ c.deref_mut.ensures.len) in
    makes-room c.args.state.now _ c.state.view_is c.args.at.publisher c.args.at.subscriber _ _ _
    (gets-sender-room _ _ c.deref_mut.result.now c.reserve_key_at.new.ports c.args.at.publisher
    c.deref_mut.ensures.value items
    (record { same = c.in_err-reserve_key_at.ensures.same; grows = c.in_err-reserve_key_at.ensures.grows }))
    (keeps-receiver-room c.state.inside.subscribers.items c.args.at.subscriber)

-- the publisher got its room
sender_gets : (g : _) (c : After-reserve_connection_at g)
    → GetsSenderRoom c.state.inside.publishers.items
    (with_items c.state.inside.publishers c.reserve_key_at.new.ports).items c.args.at.publisher
sender_gets g c =
    gets-sender-room _ _ c.deref_mut.result.now c.reserve_key_at.new.ports c.args.at.publisher c.deref_mut.ensures.value
    (with_items_is c.state.inside.publishers c.reserve_key_at.new.ports
    (c.reserve_key_at.auto.ports ∙ c.deref_mut.ensures.len))
    (record { same = c.in_ok-reserve_key_at.ensures.same; grows = c.in_ok-reserve_key_at.ensures.grows })

-- and the subscriber what was reserved for it
receiver_gets : (g : _) (c : After-reserve_connection_at g)
    → GetsReceiverRoom c.deref_mut-2.result.now c.reserve_connection_at.new.subscribers c.args.at.subscriber
    → GetsReceiverRoom c.state.inside.subscribers.items
    (with_items c.state.inside.subscribers c.reserve_connection_at.new.subscribers).items c.args.at.subscriber
receiver_gets g c gets =
    gets-receiver-room _ _ c.deref_mut-2.result.now c.reserve_connection_at.new.subscribers c.args.at.subscriber
    c.deref_mut-2.ensures.value
    (with_items_is c.state.inside.subscribers c.reserve_connection_at.new.subscribers
    (c.reserve_connection_at.auto.subscribers ∙ c.deref_mut-2.ensures.len)) gets

pub returns-in_err-reserve_connection_at-clause-grows : goal.returns-in_err-reserve_connection_at-clause-grows
returns-in_err-reserve_connection_at-clause-grows g c =
    let at = (goal.at.returns-in_err-reserve_connection_at-clause-grows g c).After-reserve_connection_at in
    makes-room c.args.state.now _ c.state.view_is c.args.at.publisher c.args.at.subscriber _ _ _ (sender_gets g at)
    (receiver_gets g at (record {
      same = c.in_err-reserve_connection_at.ensures.same;
      grows = c.in_err-reserve_connection_at.ensures.grows;
      expired_grows = c.in_err-reserve_connection_at.ensures.expired_grows;
    }))

pub returns-clause-grows : goal.returns-clause-grows
returns-clause-grows g c =
    let at = (goal.at.returns-clause-grows g c).After-reserve_connection_at in
    makes-room c.args.state.now _ c.state.view_is c.args.at.publisher c.args.at.subscriber _ _ _ (sender_gets g at)
    (receiver_gets g at (record {
      same = c.in_ok-reserve_connection_at.ensures.same;
      grows = c.in_ok-reserve_connection_at.ensures.grows;
      expired_grows = c.in_ok-reserve_connection_at.ensures.expired_grows;
    }))

pub returns-clause-sender_room : goal.returns-clause-sender_room
returns-clause-sender_room g c =
    let publishers = with_items_is c.state.inside.publishers c.reserve_key_at.new.ports
    (c.reserve_key_at.auto.ports ∙ c.deref_mut.ensures.len) in
    always c.make_connection.result (λ x at.
    c.in_ok-reserve_key_at.ensures.room x (sym (ap (λ zs. get_or zs c.args.at.publisher None) publishers) ∙ at))

pub returns-clause-receiver_room : goal.returns-clause-receiver_room
returns-clause-receiver_room g c =
    let subscribers = with_items_is c.state.inside.subscribers c.reserve_connection_at.new.subscribers
    (c.reserve_connection_at.auto.subscribers ∙ c.deref_mut-2.ensures.len) in
    always c.make_connection.result (λ y at. c.in_ok-reserve_connection_at.ensures.room y
    (sym (ap (λ zs. get_or zs c.args.at.subscriber None) subscribers) ∙ at))

pub returns-clause-made : goal.returns-clause-made
returns-clause-made g c =
    subst (λ (f : Fields g.row.T.Denot g.row.U.Denot).
    IfOk c.make_connection.result (λ key. MakesConnection f.connections c.args.home c.args.buffer
    f.config.subscriber_max_borrowed_samples (channel_count f.config) key c.make_connection.new.connections))
    c.state.view_is
    (subst (λ (count : ℕ).
    IfOk c.make_connection.result (λ key. MakesConnection c.state.inside.connections c.args.home c.args.buffer
    (c.state.inside.config).subscriber_max_borrowed_samples count key c.make_connection.new.connections))
    c.channel_count-channels.ensures.count c.make_connection.ensures.made)

pub returns-clause-expired_room : goal.returns-clause-expired_room
returns-clause-expired_room g c =
    let subscribers = with_items_is c.state.inside.subscribers c.reserve_connection_at.new.subscribers
    (c.reserve_connection_at.auto.subscribers ∙ c.deref_mut-2.ensures.len) in
    let apart = c.requires.apart in
    let few : connection_count c.args.state.now.connections c.args.home.subscriber ≤ c.most_connections-most.result =
    rw apart.home_is (c.most_connections-most.ensures apart.subscriber apart.subscriber_stands) in
    always c.make_connection.result (λ y at.
    let room = c.in_ok-reserve_connection_at.ensures.expired_room y
    (sym (ap (λ zs. get_or zs c.args.at.subscriber None) subscribers) ∙ at) in
    omega (arith, few, room))
