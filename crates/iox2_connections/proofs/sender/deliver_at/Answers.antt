use Rattle.std.proofs.Common.{◌≡◌, length, refl, ap, sym, ◌∙◌, arith}
use Rattle.iox2_connections.specs.Link.{Link}
use Rattle.iox2_connections.specs.Handlers.{asked}
use Rattle.iox2_connections.proofs.DeliverySteps.{contains-at, put-home}
use Rattle.iox2_connections.proofs.ReclaimedPuts.{reclaim-held, reclaim-passes, reclaim-marked, reclaim-recounts}
use Rattle.iox2_connections.proofs.ReclaimedPuts.{reclaim-can_leave, reclaim-puts, own-reclaimed, put-recounted}
use Rattle.iox2_connections.proofs.ReclaimedPuts.{put-grows, put-alone}
use Rattle.iox2_connections.proofs.sender.deliver_at.Goals as goal

pub index_mut-connection-requires : goal.index_mut-connection-requires
index_mut-connection-requires g c =
    contains-at c.args.delivery.now.publisher _ c.args.keys.now c.args.place _ c.requires.ready.linked c.in-Some.is

pub reclaim_from-requires : goal.reclaim_from-requires
reclaim_from-requires g c =
    reclaim-held c.args.place _ c.requires.ready c.in-Some.is _ c.index_mut-connection.result.now
    c.index_mut-connection.ensures.value c.requires.covered

pub is_open-requires : goal.is_open-requires
is_open-requires g c =
    reclaim-marked c.args.place _ c.requires.ready c.in-Some.is _ c.index_mut-connection.result.now
    c.index_mut-connection.ensures.value c.requires.covered c.reclaim_from.new.book.holders
    c.reclaim_from.new.connection c.reclaim_from.ensures.reclaims

pub returns-then-not-is_open-clause-puts : goal.returns-then-not-is_open-clause-puts
returns-then-not-is_open-clause-puts g c =
    reclaim-passes c.args.place _ c.requires.ready c.in-Some.is _ c.index_mut-connection.result.now
    c.index_mut-connection.ensures.value c.requires.covered c.reclaim_from.new.book.holders
    c.reclaim_from.new.connection c.reclaim_from.ensures.reclaims
    (asked g.F.BackpressureFn.allows c.args.handler.now) c.args.config.now c.args.delivery.now c.args.handler.now
    (sym c.is_open.ensures.value ∙ c.if-not-is_open.true)

pub returns-then-not-is_open-clause-recounts : goal.returns-then-not-is_open-clause-recounts
returns-then-not-is_open-clause-recounts g c =
    reclaim-recounts c.args.place _ c.requires.ready c.in-Some.is _ c.index_mut-connection.result.now
    c.index_mut-connection.ensures.value c.requires.covered c.reclaim_from.new.book.holders
    c.reclaim_from.new.connection c.reclaim_from.ensures.reclaims

pub recount-requires-clause-in_use : goal.recount-requires-clause-in_use
recount-requires-clause-in_use g c =
    let used = own-reclaimed c.args.place _ c.requires.ready c.in-Some.is _ c.index_mut-connection.result.now
    c.index_mut-connection.ensures.value c.requires.covered c.reclaim_from.new.book.holders
    c.reclaim_from.new.connection c.reclaim_from.ensures.reclaims
    c.args.delivery.now.channel c.args.delivery.now.slot c.args.config.now.enable_safe_overflow c.put-outcome.result
    c.put-outcome.new.self c.put-outcome.ensures.put c.requires.own in
    record { in_bounds = used.0; in_use = used.1 }

pub recount-requires-clause-overwritten : goal.recount-requires-clause-overwritten
recount-requires-clause-overwritten g c =
    reclaim-can_leave c.args.place _ c.requires.ready c.in-Some.is _ c.index_mut-connection.result.now
    c.index_mut-connection.ensures.value c.requires.covered c.reclaim_from.new.book.holders
    c.reclaim_from.new.connection c.reclaim_from.ensures.reclaims
    c.args.delivery.now.channel c.args.delivery.now.slot c.args.config.now.enable_safe_overflow c.put-outcome.result
    c.put-outcome.new.self c.put-outcome.ensures.put

pub put-outcome-requires-clause-channel : goal.put-outcome-requires-clause-channel
put-outcome-requires-clause-channel g c = λ some.
    let long : length (c.reclaim_from.new.connection).channels ≡ length (c.index_mut-connection.result.now).channels =
    ap (λ (l : Link). length l.channels) c.reclaim_from.ensures.reclaims.kept in
    omega
    (arith, long, c.requires.known.at _ c.index_mut-connection.result.now c.index_mut-connection.ensures.value some)

pub returns-clause-puts : goal.returns-clause-puts
returns-clause-puts g c =
    reclaim-puts c.args.place _ c.requires.ready c.in-Some.is _ c.index_mut-connection.result.now
    c.index_mut-connection.ensures.value c.requires.covered c.reclaim_from.new.book.holders
    c.reclaim_from.new.connection c.reclaim_from.ensures.reclaims
    (asked g.F.BackpressureFn.allows c.args.handler.now) c.args.config.now c.args.delivery.now c.args.handler.now
    c.put-outcome.result c.put-outcome.new.self c.reception_of.result refl
    (sym c.is_open.ensures.value ∙ c.if-not-is_open.false)
    c.put-outcome.ensures.put
    (rw (put-home c.args.delivery.now.channel c.reclaim_from.new.connection c.args.delivery.now.slot
    c.args.config.now.enable_safe_overflow c.put-outcome.result c.put-outcome.new.self c.put-outcome.ensures.put) at
    c.reception_of.ensures)

pub returns-clause-recounts : goal.returns-clause-recounts
returns-clause-recounts g c =
    rw c.recount.ensures (put-recounted c.args.place _ c.requires.ready c.in-Some.is _ c.index_mut-connection.result.now
    c.index_mut-connection.ensures.value c.requires.covered c.reclaim_from.new.book.holders
    c.reclaim_from.new.connection c.reclaim_from.ensures.reclaims
    c.args.delivery.now.channel c.args.delivery.now.slot c.args.config.now.enable_safe_overflow c.put-outcome.result
    c.put-outcome.new.self c.put-outcome.ensures.put c.requires.own)

pub returns-clause-grows : goal.returns-clause-grows
returns-clause-grows g c =
    rw c.recount.ensures (put-grows c.args.place _ c.requires.ready c.in-Some.is _ c.index_mut-connection.result.now
    c.index_mut-connection.ensures.value c.requires.covered c.reclaim_from.new.book.holders
    c.reclaim_from.new.connection c.reclaim_from.ensures.reclaims
    c.args.delivery.now.channel c.args.delivery.now.slot c.args.config.now.enable_safe_overflow c.put-outcome.result
    c.put-outcome.new.self c.put-outcome.ensures.put c.requires.own)

pub returns-clause-alone : goal.returns-clause-alone
returns-clause-alone g c =
    rw c.recount.ensures (put-alone c.args.place _ c.requires.ready c.in-Some.is _ c.index_mut-connection.result.now
    c.index_mut-connection.ensures.value c.requires.covered c.reclaim_from.new.book.holders
    c.reclaim_from.new.connection c.reclaim_from.ensures.reclaims
    c.args.delivery.now.channel c.args.delivery.now.slot c.args.config.now.enable_safe_overflow c.put-outcome.result
    c.put-outcome.new.self c.put-outcome.ensures.put c.requires.own)
