use Rattle.std.proofs.Common.{◌<◌, slice_index_or, None, refl, sym, subst, ap, ◌∙◌, arith}
use Rattle.std.proofs.lemmas.Result.{err_from_is_err_and}
use Rattle.iox2_machine.specs.machine.Limits.{last_number}
use Rattle.iox2_domain.specs.Fields.{Fields}
use Rattle.iox2_domain.proofs.lemmas.fields.ReachesShows.{reaches-same}
use Rattle.iox2_messages.proofs.GrowingPass.{comes-limited, comes-last, comes-free, stands-some, comes-failed}
use Rattle.iox2_messages.proofs.GrowingPass.{stands-fewer, comes-grown}
use Rattle.iox2_messages.proofs.growing_loans.find_slot.Goals as goal

pub returns-then-has_all_loans : goal.returns-then-has_all_loans
returns-then-has_all_loans g c = comes-limited {T = g.row.T.Denot} {U = g.row.U.Denot} c.args.state.now
    c.requires.agrees c.args.place c.requires.grows c.args.len
    (c.if-has_all_loans.ensures c.requires.grows.0 c.requires.grows.1)

pub returns-then-state : goal.returns-then-state
returns-then-state g c = comes-last {T = g.row.T.Denot}
    {U = g.row.U.Denot} c.args.state.now c.requires.agrees c.args.place c.requires.grows c.args.len
    (c.if-has_all_loans.ensures c.requires.grows.0 c.requires.grows.1)
    (ap (λ (f : Fields g.row.T.Denot g.row.U.Denot). f.next_message) (sym c.state.view_is) ∙ c.if-state.true)

pub returns-then-has_slot : goal.returns-then-has_slot
returns-then-has_slot g c = comes-free {T = g.row.T.Denot}
    {U = g.row.U.Denot} c.args.state.now c.requires.agrees c.args.place c.requires.grows c.args.len
    (c.if-has_all_loans.ensures c.requires.grows.0 c.requires.grows.1)
    (subst (λ (f : Fields g.row.T.Denot g.row.U.Denot). f.next_message < last_number) c.state.view_is
    (let bound = c.state.invariant in omega arith)) c.args.state.now
    (reaches-same _ c.requires.agrees) refl c.if-has_slot.ensures

pub returns-then-has_slot-2 : goal.returns-then-has_slot-2
returns-then-has_slot-2 g c = comes-free {T = g.row.T.Denot}
    {U = g.row.U.Denot} c.args.state.now c.requires.agrees c.args.place c.requires.grows c.args.len
    (c.if-has_all_loans.ensures c.requires.grows.0 c.requires.grows.1)
    (subst (λ (f : Fields g.row.T.Denot g.row.U.Denot). f.next_message < last_number) c.state.view_is
    (let bound = c.state.invariant in omega arith)) c.reclaim.new.state c.reclaim.ensures.reaches
    (ap (λ (f : Fields g.row.T.Denot g.row.U.Denot). f.publishers) c.reclaim.ensures.only) c.if-has_slot-2.ensures

pub grow-requires-clause-stands : goal.grow-requires-clause-stands
grow-requires-clause-stands g c = stands-some {T = g.row.T.Denot}
    {U = g.row.U.Denot} c.args.state.now c.requires.agrees c.args.place c.requires.grows c.args.len
    (c.if-has_all_loans.ensures c.requires.grows.0 c.requires.grows.1)
    (subst (λ (f : Fields g.row.T.Denot g.row.U.Denot). f.next_message < last_number) c.state.view_is
    (let bound = c.state.invariant in omega arith)) c.reclaim.new.state c.reclaim.ensures.reaches
    (ap (λ (f : Fields g.row.T.Denot g.row.U.Denot). f.publishers) c.reclaim.ensures.only)
    (c.reclaim.ensures.reclaimed c.requires.grows.0 c.requires.grows.1)
    (c.if-has_slot-2.ensures c.requires.grows.0
    (ap (λ (f : Fields g.row.T.Denot g.row.U.Denot). slice_index_or f.publishers c.args.place None)
    c.reclaim.ensures.only ∙ c.requires.grows.1))

pub returns-in_err-grow : goal.returns-in_err-grow
returns-in_err-grow g c =
    let refused = err_from_is_err_and c.from_residual.result c.from_residual.ensures.1 in
    rw (refused.1, refused.2) (comes-failed {T = g.row.T.Denot}
    {U = g.row.U.Denot} c.args.state.now c.requires.agrees c.args.place c.requires.grows c.args.len
    (c.if-has_all_loans.ensures c.requires.grows.0 c.requires.grows.1)
    (subst (λ (f : Fields g.row.T.Denot g.row.U.Denot). f.next_message < last_number) c.state.view_is
    (let bound = c.state.invariant in omega arith)) c.reclaim.new.state c.reclaim.ensures.reaches
    (ap (λ (f : Fields g.row.T.Denot g.row.U.Denot). f.publishers) c.reclaim.ensures.only)
    (c.reclaim.ensures.reclaimed c.requires.grows.0 c.requires.grows.1)
    (c.if-has_slot-2.ensures c.requires.grows.0
    (ap (λ (f : Fields g.row.T.Denot g.row.U.Denot). slice_index_or f.publishers c.args.place None)
    c.reclaim.ensures.only ∙ c.requires.grows.1)) c.in_err-grow.field-0.0 c.grow.new.state
    (c.in_err-grow.ensures c.requires.grows.0
    (ap (λ (f : Fields g.row.T.Denot g.row.U.Denot). slice_index_or f.publishers c.args.place None)
    c.reclaim.ensures.only ∙ c.requires.grows.1)))

pub count_segment-requires : goal.count_segment-requires
count_segment-requires g c = stands-fewer {T = g.row.T.Denot}
    {U = g.row.U.Denot} c.args.state.now c.requires.agrees c.args.place c.requires.grows c.args.len
    (c.if-has_all_loans.ensures c.requires.grows.0 c.requires.grows.1)
    (subst (λ (f : Fields g.row.T.Denot g.row.U.Denot). f.next_message < last_number) c.state.view_is
    (let bound = c.state.invariant in omega arith)) c.reclaim.new.state c.reclaim.ensures.reaches
    (ap (λ (f : Fields g.row.T.Denot g.row.U.Denot). f.publishers) c.reclaim.ensures.only)
    (c.reclaim.ensures.reclaimed c.requires.grows.0 c.requires.grows.1)
    (c.if-has_slot-2.ensures c.requires.grows.0
    (ap (λ (f : Fields g.row.T.Denot g.row.U.Denot). slice_index_or f.publishers c.args.place None)
    c.reclaim.ensures.only ∙ c.requires.grows.1)) c.grow.new.state
    (c.in_ok-grow.ensures c.requires.grows.0
    (ap (λ (f : Fields g.row.T.Denot g.row.U.Denot). slice_index_or f.publishers c.args.place None)
    c.reclaim.ensures.only ∙ c.requires.grows.1))

pub returns : goal.returns
returns g c = comes-grown {T = g.row.T.Denot}
    {U = g.row.U.Denot} c.args.state.now c.requires.agrees c.args.place c.requires.grows c.args.len
    (c.if-has_all_loans.ensures c.requires.grows.0 c.requires.grows.1)
    (subst (λ (f : Fields g.row.T.Denot g.row.U.Denot). f.next_message < last_number) c.state.view_is
    (let bound = c.state.invariant in omega arith)) c.reclaim.new.state c.reclaim.ensures.reaches
    (ap (λ (f : Fields g.row.T.Denot g.row.U.Denot). f.publishers) c.reclaim.ensures.only)
    (c.reclaim.ensures.reclaimed c.requires.grows.0 c.requires.grows.1)
    (c.if-has_slot-2.ensures c.requires.grows.0
    (ap (λ (f : Fields g.row.T.Denot g.row.U.Denot). slice_index_or f.publishers c.args.place None)
    c.reclaim.ensures.only ∙ c.requires.grows.1)) c.grow.new.state
    (c.in_ok-grow.ensures c.requires.grows.0
    (ap (λ (f : Fields g.row.T.Denot g.row.U.Denot). slice_index_or f.publishers c.args.place None)
    c.reclaim.ensures.only ∙ c.requires.grows.1))
    c.count_segment.new.state c.count_segment.ensures
