use Rattle.std.proofs.Common.{◌≡◌, ◌∙◌, false, None, Some, refl, ap, sym, subst}
use Rattle.slab.specs.Slab.{ContainsKey, get}
use Rattle.iox2_domain.specs.Boxes.{answers_of}
use Rattle.iox2_domain.specs.Fields.{Fields}
use Rattle.iox2_domain.specs.Updates.{is_open_subscriber}
use Rattle.iox2_steps.proofs.updates.PlaceCalls.{nothing-there}
use Rattle.iox2_steps.proofs.updates.HistoryConnects.{new-end, connects-shut, connects-with-history}
use Rattle.iox2_steps.proofs.updates.MarkedEnds.{connects-marked}
use Rattle.iox2_domain.specs.Connects.{ConnectsSender}
use Rattle.iox2_updates.specs.Ends.{IsSettledAt}
use Rattle.iox2_updates.proofs.GainedHolders.{end-room}
use Rattle.iox2_updates.proofs.connects.connect_sender.Goals.{After-hand_out_history, After-index}
use Rattle.iox2_updates.proofs.connects.connect_sender.Goals as goal

-- the connection that was made stands at its key
linked : (g : _) (c : After-index g) → get c.make_sender_end.new.state.connections c.in-Ok.key ≡ Some c.index.result.now
linked g c = ap (λ (f : Fields g.row.T.Denot g.row.U.Denot). get f.connections c.in-Ok.key) (sym c.state-in-Ok.view_is)
    ∙ c.index.ensures

-- the last of the history may wait there, where its channel isn't closed
handed : (g : _) (c : After-hand_out_history g) → c.is_closed.result ≡ false
    → (settled : IsSettledAt c.args.state.now c.args.at)
    → ConnectsSender (answers_of g.F.BackpressureFn.allows g.G.DegradationFn.allows c.args.boxes.now.boxes)
    c.args.state.now c.args.at.publisher c.args.at.subscriber settled.publisher c.hand_out_history.new.state None
handed g c opened settled =
    connects-with-history (answers_of g.F.BackpressureFn.allows g.G.DegradationFn.allows c.args.boxes.now.boxes)
    c.args.state.now settled.agrees c.args.at.publisher c.args.at.subscriber settled.publisher settled.stands
    settled.unblocked settled.within c.in-Ok.key c.make_sender_end.new.state
    (c.in-Ok.ensures.made settled) c.index.result.now
    (ap (λ (f : Fields g.row.T.Denot g.row.U.Denot). get f.connections c.in-Ok.key) (sym c.state-in-Ok.view_is)
    ∙ c.index.ensures) (sym c.is_closed.ensures ∙ opened) c.hand_out_history.new.state c.hand_out_history.ensures.out

pub index-requires : goal.index-requires
index-requires g c =
    subst (λ (f : Fields g.row.T.Denot g.row.U.Denot). ContainsKey f.connections c.in-Ok.key)
    (sym c.state-in-Ok.view_is) (rw (c.in-Ok.ensures.made c.requires.settled).stands refl)

pub returns-then-is_closed-clause-connects : goal.returns-then-is_closed-clause-connects
returns-then-is_closed-clause-connects g c = λ settled.
    connects-shut (answers_of g.F.BackpressureFn.allows g.G.DegradationFn.allows c.args.boxes.now.boxes)
    c.args.state.now settled.agrees c.args.at.publisher c.args.at.subscriber settled.publisher settled.stands
    settled.unblocked settled.within c.in-Ok.key c.make_sender_end.new.state
    (c.in-Ok.ensures.made settled) c.index.result.now
    (linked g (goal.at.returns-then-is_closed-clause-connects g c).After-index)
    (sym c.is_closed.ensures ∙ c.if-is_closed.true)

pub hand_out_history-requires-clause-agrees : goal.hand_out_history-requires-clause-agrees
hand_out_history-requires-clause-agrees g c = (c.in-Ok.ensures.made c.requires.settled).agrees

pub hand_out_history-requires-clause-new_end : goal.hand_out_history-requires-clause-new_end
hand_out_history-requires-clause-new_end g c =
    let settled = c.requires.settled in
    new-end (answers_of g.F.BackpressureFn.allows g.G.DegradationFn.allows c.args.boxes.now.boxes) c.args.state.now
    settled.agrees c.args.at.publisher c.args.at.subscriber settled.publisher settled.stands settled.unblocked
    settled.within c.in-Ok.key c.make_sender_end.new.state
    (c.in-Ok.ensures.made settled) c.index.result.now
    (linked g (goal.at.hand_out_history-requires-clause-new_end g c).After-index)
    (sym c.is_closed.ensures ∙ c.if-is_closed.false)

pub hand_out_history-requires-clause-few : goal.hand_out_history-requires-clause-few
hand_out_history-requires-clause-few g c =
    let settled = c.requires.settled in
    end-room (answers_of g.F.BackpressureFn.allows g.G.DegradationFn.allows c.args.boxes.now.boxes) c.args.state.now
    c.make_sender_end.new.state c.args.at.publisher c.args.at.subscriber settled.publisher settled.stands c.in-Ok.key
    (c.in-Ok.ensures.made settled) (c.requires.few settled)

pub returns-else-is_closed-clause-connects : goal.returns-else-is_closed-clause-connects
returns-else-is_closed-clause-connects g c = λ settled.
    connects-marked (answers_of g.F.BackpressureFn.allows g.G.DegradationFn.allows c.args.boxes.now.boxes)
    c.args.state.now c.hand_out_history.new.state c.mark_end.new.state c.args.at.publisher c.args.at.subscriber
    settled.publisher None
    (handed g (goal.at.returns-else-is_closed-clause-connects g c).After-hand_out_history c.if-is_closed.false settled)
    c.mark_end.ensures

pub mark_end-requires : goal.mark_end-requires
mark_end-requires g c =
    (handed g (goal.at.mark_end-requires g c).After-hand_out_history c.if-is_closed.false c.requires.settled).agrees

pub returns-in-Err-clause-connects : goal.returns-in-Err-clause-connects
returns-in-Err-clause-connects g c = λ settled. c.in-Err.ensures.made settled

pub returns-then-not-is_open_at-clause-connects : goal.returns-then-not-is_open_at-clause-connects
returns-then-not-is_open_at-clause-connects g c = λ settled.
    let old = c.args.state.now in
    let shut : is_open_subscriber old.subscribers c.args.at.subscriber ≡ false =
    sym (c.is_open_at.ensures ∙ ap (λ ys. is_open_subscriber ys c.args.at.subscriber)
    (c.deref.ensures.value ∙ ap (λ (f : Fields g.row.T.Denot g.row.U.Denot). f.subscribers) c.state.view_is))
    ∙ c.if-not-is_open_at.true in
    nothing-there old settled.agrees c.args.at.publisher c.args.at.subscriber settled.publisher settled.stands
    (answers_of g.F.BackpressureFn.allows g.G.DegradationFn.allows c.args.boxes.now.boxes) settled.settled
    c.requires.none shut
