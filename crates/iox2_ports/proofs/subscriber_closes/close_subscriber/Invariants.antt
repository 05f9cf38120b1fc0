use Rattle.std.proofs.Common.{◌≡◌, slice_index_or}
use Rattle.std.specs.declared.option.Option.TheVariants.{None, Some}
use Rattle.iox2_domain.specs.Ports.{SubscriberFields}
use Rattle.iox2_domain.specs.Invariant.{IsDomain}
use Rattle.iox2_steps.proofs.subscriber_closes.CloseWalk.{IsClosing}
use Rattle.iox2_steps.proofs.subscriber_closes.CloseKeys.{ExpiredLeft, KeysLeft}
use Rattle.iox2_ports.proofs.subscriber_closes.close_subscriber.Given as goal

-- the expired keys below the index are left, and all keys at places
abbrev pub invariant-loop-index : goal.invariant-loop-index
invariant-loop-index g l = (sound : IsDomain l.fn.state) (y : SubscriberFields)
    (at : slice_index_or l.fn.state.subscribers l.place None ≡ Some y)
    → IsClosing {T = g.row.T.Denot} {U = g.row.U.Denot} l.fn.state sound l.place y at (ExpiredLeft l.index) l.state

-- the keys from the place on are left
abbrev pub invariant-loop-publisher_place : goal.invariant-loop-publisher_place
invariant-loop-publisher_place g l = (sound : IsDomain l.fn.state) (y : SubscriberFields)
    (at : slice_index_or l.fn.state.subscribers l.place None ≡ Some y)
    → IsClosing {T = g.row.T.Denot} {U = g.row.U.Denot} l.fn.state sound l.place y at
    (KeysLeft l.publisher_place l.publisher_place-end) l.state
