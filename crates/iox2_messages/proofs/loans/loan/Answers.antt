use Rattle.std.proofs.Common.{rules, ◌≡◌, vec_len, length, Some, true, false, refl, sym, ap, ◌∙◌, arith}
use Rattle.std.proofs.lemmas.Result.{err_from_is_err_and}
use Rattle.std.specs.Option.{option_map}
use Rattle.iox2_domain.specs.Lending.{lending}
use Rattle.iox2_domain.specs.Ports.{PublisherFields}
use Rattle.iox2_messages.proofs.LoanPass.{refused-before, place-within, place-taken, loan-book, loan-linked, loan-apart}
use Rattle.iox2_messages.proofs.LoanPass.{loan-covers, loan-within, loan-named, loan-long, loan-limited, loan-full}
use Rattle.iox2_messages.proofs.LoanPass.{loan-free, loan-last, loan-units, loan-room, loan-start, loan-granted}
use Rattle.iox2_messages.proofs.LoanPass.{loan-lies}
use Rattle.iox2_messages.proofs.StaticPass.{reclaims-nothing}
use Rattle.iox2_messages.proofs.loans.loan.Goals as goal

pub returns-in_err-prepare_if_growing-clause-reaches : goal.returns-in_err-prepare_if_growing-clause-reaches
returns-in_err-prepare_if_growing-clause-reaches g c =
    let refused = err_from_is_err_and c.from_residual.result c.from_residual.ensures.1 in
    rw (refused.1, refused.2) (refused-before {T = g.row.T.Denot} {U = g.row.U.Denot} g.U.Default.is_default
    c.args.checks_length c.args.state.now c.args.place c.requires.stands c.args.len
    c.in_err-prepare_if_growing.field-0.0 c.prepare_if_growing.new.state
    (c.in_err-prepare_if_growing.ensures c.requires.stands.0 c.requires.stands.1))

pub index_mut-requires : goal.index_mut-requires
index_mut-requires g c =
    let places : vec_len c.state.inside.publishers ≡ length c.state.inside.publishers.items = search rules in
    rw places (place-within {T = g.row.T.Denot} {U = g.row.U.Denot} _ c.requires.agrees c.args.place c.requires.stands
    c.args.len _ (c.in_ok-prepare_if_growing.ensures c.requires.stands.0 c.requires.stands.1) _ c.state.view_is)

pub unreachable-requires : goal.unreachable-requires
unreachable-requires g c =
    place-taken {T = g.row.T.Denot} {U = g.row.U.Denot} _ c.requires.agrees c.args.place c.requires.stands c.args.len _
    (c.in_ok-prepare_if_growing.ensures c.requires.stands.0 c.requires.stands.1) _ c.state.view_is _
    c.index_mut.ensures.value c.in_default.is

pub index_mut-book-requires : goal.index_mut-book-requires
index_mut-book-requires g c =
    loan-book {T = g.row.T.Denot} {U = g.row.U.Denot} _ c.requires.agrees c.args.place c.requires.stands c.args.len _
    (c.in_ok-prepare_if_growing.ensures c.requires.stands.0 c.requires.stands.1) _ c.state.view_is _
    c.index_mut.ensures.value
    _ (c.in-Some.is ∙ ap Some (sym c.publisher.view_is))

pub reclaim_if_full-requires-clause-linked : goal.reclaim_if_full-requires-clause-linked
reclaim_if_full-requires-clause-linked g c =
    loan-linked {T = g.row.T.Denot} {U = g.row.U.Denot} _ c.requires.agrees c.args.place c.requires.stands c.args.len _
    (c.in_ok-prepare_if_growing.ensures c.requires.stands.0 c.requires.stands.1) _ c.state.view_is _
    c.index_mut.ensures.value _ c.in-Some.is

pub reclaim_if_full-requires-clause-apart : goal.reclaim_if_full-requires-clause-apart
reclaim_if_full-requires-clause-apart g c =
    loan-apart {T = g.row.T.Denot} {U = g.row.U.Denot} _ c.requires.agrees c.args.place c.requires.stands c.args.len _
    (c.in_ok-prepare_if_growing.ensures c.requires.stands.0 c.requires.stands.1) _ c.state.view_is _
    c.index_mut.ensures.value
    _ (c.in-Some.is ∙ ap Some (sym c.publisher.view_is))

pub reclaim_if_full-requires-clause-covered : goal.reclaim_if_full-requires-clause-covered
reclaim_if_full-requires-clause-covered g c =
    rw (sym c.publisher.view_is) (loan-covers {T = g.row.T.Denot} {U = g.row.U.Denot} _ c.requires.agrees c.args.place
    c.requires.stands c.args.len _ (c.in_ok-prepare_if_growing.ensures c.requires.stands.0 c.requires.stands.1) _
    c.state.view_is _ c.index_mut.ensures.value
    _ (c.in-Some.is ∙ ap Some (sym c.publisher.view_is)) _ c.index_mut-book.ensures.value)

pub returns-then-is_too_long-clause-reaches : goal.returns-then-is_too_long-clause-reaches
returns-then-is_too_long-clause-reaches g c =
    loan-long {T = g.row.T.Denot} {U = g.row.U.Denot} _ c.requires.agrees c.args.place c.requires.stands c.args.len _
    (c.in_ok-prepare_if_growing.ensures c.requires.stands.0 c.requires.stands.1) _ c.state.view_is _
    c.index_mut.ensures.value
    _ (c.in-Some.is ∙ ap Some (sym c.publisher.view_is)) _ _ c.index_mut-book.ensures.value _ refl _ c.publisher.view_is
    (reclaims-nothing _ _ _) c.args.checks_length g.U.Default.is_default (sym c.if-is_too_long.ensures)

pub returns-then-len-publisher-clause-reaches : goal.returns-then-len-publisher-clause-reaches
returns-then-len-publisher-clause-reaches g c =
    let long : vec_len c.publisher.inside.loans ≡ length c.publisher.inside.loans.items = search rules in
    loan-limited {T = g.row.T.Denot} {U = g.row.U.Denot} _ c.requires.agrees c.args.place c.requires.stands c.args.len _
    (c.in_ok-prepare_if_growing.ensures c.requires.stands.0 c.requires.stands.1) _ c.state.view_is _
    c.index_mut.ensures.value
    _ (c.in-Some.is ∙ ap Some (sym c.publisher.view_is)) _ _ c.index_mut-book.ensures.value _ refl _ c.publisher.view_is
    (reclaims-nothing _ _ _) c.args.checks_length g.U.Default.is_default
    (sym c.if-is_too_long.ensures) (omega (arith, c.if-len-publisher.true, c.len.ensures, long))

pub returns-then-reclaim_if_full-clause-reaches : goal.returns-then-reclaim_if_full-clause-reaches
returns-then-reclaim_if_full-clause-reaches g c =
    let long : vec_len c.publisher.inside.loans ≡ length c.publisher.inside.loans.items = search rules in
    loan-full {T = g.row.T.Denot} {U = g.row.U.Denot} _ c.requires.agrees c.args.place c.requires.stands c.args.len _
    (c.in_ok-prepare_if_growing.ensures c.requires.stands.0 c.requires.stands.1) _ c.state.view_is _
    c.index_mut.ensures.value
    _ (c.in-Some.is ∙ ap Some (sym c.publisher.view_is)) _ _ c.index_mut-book.ensures.value _
    c.if-reclaim_if_full.ensures.book _ c.publisher.view_is c.if-reclaim_if_full.ensures.reclaims c.args.checks_length
    g.U.Default.is_default
    (sym c.if-is_too_long.ensures) (omega (arith, c.if-len-publisher.false, c.len.ensures, long))
    c.if-reclaim_if_full.ensures.kept c.if-reclaim_if_full.ensures.all (c.if-reclaim_if_full.ensures.full.0 refl)

pub returns-then-state-clause-reaches : goal.returns-then-state-clause-reaches
returns-then-state-clause-reaches g c =
    let long : vec_len c.publisher.inside.loans ≡ length c.publisher.inside.loans.items = search rules in
    loan-last {T = g.row.T.Denot} {U = g.row.U.Denot} _ c.requires.agrees c.args.place c.requires.stands c.args.len _
    (c.in_ok-prepare_if_growing.ensures c.requires.stands.0 c.requires.stands.1) _ c.state.view_is _
    c.index_mut.ensures.value
    _ (c.in-Some.is ∙ ap Some (sym c.publisher.view_is)) _ _ c.index_mut-book.ensures.value _
    c.if-reclaim_if_full.ensures.book _ c.publisher.view_is c.if-reclaim_if_full.ensures.reclaims c.args.checks_length
    g.U.Default.is_default
    (sym c.if-is_too_long.ensures) (omega (arith, c.if-len-publisher.false, c.len.ensures, long))
    c.if-reclaim_if_full.ensures.kept
    (λ all. let no : false ≡ true = c.if-reclaim_if_full.ensures.full.1 all in absurd cc) c.if-state.true

pub unreachable-requires-in_default-take_from : goal.unreachable-requires-in_default-take_from
unreachable-requires-in_default-take_from g c =
    let long : vec_len c.publisher.inside.loans ≡ length c.publisher.inside.loans.items = search rules in
    loan-free {T = g.row.T.Denot} {U = g.row.U.Denot} _ c.requires.agrees c.args.place c.requires.stands c.args.len _
    (c.in_ok-prepare_if_growing.ensures c.requires.stands.0 c.requires.stands.1) _ c.state.view_is _
    c.index_mut.ensures.value
    _ (c.in-Some.is ∙ ap Some (sym c.publisher.view_is)) _ _ c.index_mut-book.ensures.value _
    c.if-reclaim_if_full.ensures.book _ c.publisher.view_is c.if-reclaim_if_full.ensures.reclaims c.args.checks_length
    g.U.Default.is_default
    (sym c.if-is_too_long.ensures) (omega (arith, c.if-len-publisher.false, c.len.ensures, long))
    c.if-reclaim_if_full.ensures.kept (λ all. let no : false ≡ true = c.if-reclaim_if_full.ensures.full.1 all in
    absurd cc) (c.in_default-take_from.ensures.none.0 refl)

pub index_mut-requires-2 : goal.index_mut-requires-2
index_mut-requires-2 g c =
    let places : vec_len c.state.inside.contents ≡ length c.state.inside.contents.items = search rules in
    rw places (loan-within {T = g.row.T.Denot} {U = g.row.U.Denot} _ c.requires.agrees c.args.place c.requires.stands
    c.args.len _ (c.in_ok-prepare_if_growing.ensures c.requires.stands.0 c.requires.stands.1) _ c.state.view_is _
    c.index_mut.ensures.value
    _ (c.in-Some.is ∙ ap Some (sym c.publisher.view_is)))

pub start-requires-clause-fits : goal.start-requires-clause-fits
start-requires-clause-fits g c =
    let long : vec_len c.publisher.inside.loans ≡ length c.publisher.inside.loans.items = search rules in
    loan-units {T = g.row.T.Denot} {U = g.row.U.Denot} _ c.requires.agrees c.args.place c.requires.stands c.args.len _
    (c.in_ok-prepare_if_growing.ensures c.requires.stands.0 c.requires.stands.1) _ c.state.view_is _
    c.index_mut.ensures.value
    _ (c.in-Some.is ∙ ap Some (sym c.publisher.view_is)) _ _ c.index_mut-book.ensures.value _
    c.if-reclaim_if_full.ensures.book _ c.publisher.view_is c.if-reclaim_if_full.ensures.reclaims c.args.checks_length
    g.U.Default.is_default
    (sym c.if-is_too_long.ensures) (omega (arith, c.if-len-publisher.false, c.len.ensures, long))
    c.if-reclaim_if_full.ensures.kept (λ all. let no : false ≡ true = c.if-reclaim_if_full.ensures.full.1 all in
    absurd cc) (let bound = c.state.invariant in omega arith) c.requires.unchecked c.requires.single

pub start-requires-clause-ready : goal.start-requires-clause-ready
start-requires-clause-ready g c =
    let long : vec_len c.publisher.inside.loans ≡ length c.publisher.inside.loans.items = search rules in
    loan-start {T = g.row.T.Denot} {U = g.row.U.Denot} _ c.requires.agrees c.args.place c.requires.stands c.args.len _
    (c.in_ok-prepare_if_growing.ensures c.requires.stands.0 c.requires.stands.1) _ c.state.view_is _
    c.index_mut.ensures.value
    _ (c.in-Some.is ∙ ap Some (sym c.publisher.view_is)) _ _ c.index_mut-book.ensures.value _
    c.if-reclaim_if_full.ensures.book _ c.publisher.view_is c.if-reclaim_if_full.ensures.reclaims c.args.checks_length
    g.U.Default.is_default
    (sym c.if-is_too_long.ensures) (omega (arith, c.if-len-publisher.false, c.len.ensures, long))
    c.if-reclaim_if_full.ensures.kept (λ all. let no : false ≡ true = c.if-reclaim_if_full.ensures.full.1 all in
    absurd cc) (let bound = c.state.invariant in omega arith) c.requires.unchecked c.requires.single
    c.in-Some-take_from.slot c.in-Some-take_from.ensures.taken.in_bounds c.in-Some-take_from.ensures.from
    c.in-Some-take_from.ensures.taken.was_unused _ c.index_mut-2.ensures.value

pub lend-requires : goal.lend-requires
lend-requires g c =
    let long : vec_len c.publisher.inside.loans ≡ length c.publisher.inside.loans.items = search rules in
    loan-room {T = g.row.T.Denot} {U = g.row.U.Denot} _ c.requires.agrees c.args.place c.requires.stands c.args.len _
    (c.in_ok-prepare_if_growing.ensures c.requires.stands.0 c.requires.stands.1) _ c.state.view_is _
    c.index_mut.ensures.value
    _ (c.in-Some.is ∙ ap Some (sym c.publisher.view_is)) _ _ c.index_mut-book.ensures.value _
    c.if-reclaim_if_full.ensures.book _ c.publisher.view_is c.if-reclaim_if_full.ensures.reclaims c.args.checks_length
    g.U.Default.is_default
    (sym c.if-is_too_long.ensures) (omega (arith, c.if-len-publisher.false, c.len.ensures, long))
    c.if-reclaim_if_full.ensures.kept (λ all. let no : false ≡ true = c.if-reclaim_if_full.ensures.full.1 all in
    absurd cc) (let bound = c.state.invariant in omega arith) c.requires.unchecked c.requires.single

pub returns-clause-reaches : goal.returns-clause-reaches
returns-clause-reaches g c =
    let long : vec_len c.publisher.inside.loans ≡ length c.publisher.inside.loans.items = search rules in
    loan-granted {T = g.row.T.Denot} {U = g.row.U.Denot} _ c.requires.agrees c.args.place c.requires.stands c.args.len _
    (c.in_ok-prepare_if_growing.ensures c.requires.stands.0 c.requires.stands.1) _ c.state.view_is _
    c.index_mut.ensures.value
    _ (c.in-Some.is ∙ ap Some (sym c.publisher.view_is)) _ _ c.index_mut-book.ensures.value _
    c.if-reclaim_if_full.ensures.book _ c.publisher.view_is c.if-reclaim_if_full.ensures.reclaims c.args.checks_length
    g.U.Default.is_default
    (sym c.if-is_too_long.ensures) (omega (arith, c.if-len-publisher.false, c.len.ensures, long))
    c.if-reclaim_if_full.ensures.kept (λ all. let no : false ≡ true = c.if-reclaim_if_full.ensures.full.1 all in
    absurd cc) (let bound = c.state.invariant in
    omega arith) c.requires.unchecked c.requires.single _ c.in-Some-take_from.slot c.in-Some-take_from.ensures.taken
    _ _ c.index_mut-2.ensures.value c.start.ensures _ _ c.index_mut.ensures.value
    (ap Some c.lend.ensures ∙ ap (option_map
    (λ (p : PublisherFields). lending c.args.len c.in-Some-take_from.slot p.segments p)) (sym c.in-Some.is))

pub returns-clause-named : goal.returns-clause-named
returns-clause-named g c =
    loan-named {T = g.row.T.Denot} {U = g.row.U.Denot} _ c.requires.agrees c.args.place c.requires.stands c.args.len _
    (c.in_ok-prepare_if_growing.ensures c.requires.stands.0 c.requires.stands.1) _ c.state.view_is _
    c.index_mut.ensures.value
    _ (c.in-Some.is ∙ ap Some (sym c.publisher.view_is)) c.in-Some-take_from.slot

pub returns-clause-lies : goal.returns-clause-lies
returns-clause-lies g c =
    let long : vec_len c.publisher.inside.loans ≡ length c.publisher.inside.loans.items = search rules in
    loan-lies {T = g.row.T.Denot} {U = g.row.U.Denot} _ c.requires.agrees c.args.place c.requires.stands c.args.len _
    (c.in_ok-prepare_if_growing.ensures c.requires.stands.0 c.requires.stands.1) _ c.state.view_is _
    c.index_mut.ensures.value
    _ (c.in-Some.is ∙ ap Some (sym c.publisher.view_is)) _ _ c.index_mut-book.ensures.value _
    c.if-reclaim_if_full.ensures.book _ c.publisher.view_is c.if-reclaim_if_full.ensures.reclaims c.args.checks_length
    g.U.Default.is_default
    (sym c.if-is_too_long.ensures) (omega (arith, c.if-len-publisher.false, c.len.ensures, long))
    c.if-reclaim_if_full.ensures.kept (λ all. let no : false ≡ true = c.if-reclaim_if_full.ensures.full.1 all in
    absurd cc) (let bound = c.state.invariant in
    omega arith) c.requires.unchecked c.requires.single _ c.in-Some-take_from.slot c.in-Some-take_from.ensures.taken
    _ _ c.index_mut-2.ensures.value c.start.ensures _ _ c.index_mut.ensures.value
    (ap Some c.lend.ensures ∙ ap (option_map
    (λ (p : PublisherFields). lending c.args.len c.in-Some-take_from.slot p.segments p)) (sym c.in-Some.is))
