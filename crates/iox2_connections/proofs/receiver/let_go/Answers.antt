use Rattle.std.proofs.Common.{◌≡◌, Some, subst, sym}
use Rattle.slab.specs.Slab.{get, with_value}
use Rattle.iox2_connections.specs.Link.{Link, without_borrowed}
use Rattle.iox2_machine.specs.machine.Numbers.{IsOnce}
use Rattle.iox2_connections.specs.Counters.{one_holder_less}
use Rattle.iox2_connections.specs.Recounts.{Recounts}
use Rattle.iox2_connections.specs.Takes.{ReleasesSlot}
use Rattle.iox2_connections.proofs.LetGo.{releases-left, recounts-left, said-there, says-there, changed-there}
use Rattle.iox2_connections.proofs.TakeSteps.{borrowed-at}
use Rattle.iox2_connections.proofs.receiver.let_go.Goals as goal

pub returns-clause-releases : goal.returns-clause-releases
returns-clause-releases c =
    let old : Link = c.index_mut.result.now in
    subst (λ (d : Link). ReleasesSlot c.args.connections.now c.args.key c.args.slot
    (with_value c.args.connections.now c.args.key d)) (sym c.let_go.ensures.goes)
    (releases-left c.args.connections.now c.args.key c.args.slot old c.index_mut.ensures.value
    (borrowed-at c.args.connections.now c.args.key c.args.slot old c.requires.borrowed c.index_mut.ensures.value)
    c.requires.apart)

pub returns-clause-recounts : goal.returns-clause-recounts
returns-clause-recounts c =
    let old : Link = c.index_mut.result.now in
    says-there c.args.connections.now c.args.key old
    (λ x. Recounts x.home.publisher c.args.book.now.holders c.args.connections.now
    (one_holder_less c.args.slot c.args.book.now.holders)
    (with_value c.args.connections.now c.args.key c.let_go.new.self))
    c.index_mut.ensures.value
    (subst (λ (d : Link). Recounts old.home.publisher c.args.book.now.holders c.args.connections.now
    (one_holder_less c.args.slot c.args.book.now.holders) (with_value c.args.connections.now c.args.key d))
    (sym c.let_go.ensures.goes)
    (recounts-left c.args.connections.now c.args.key c.args.slot old c.index_mut.ensures.value
    (borrowed-at c.args.connections.now c.args.key c.args.slot old c.requires.borrowed c.index_mut.ensures.value)
    c.args.book.now.holders (said-there c.args.connections.now c.args.key old
    (λ x. IsOnce x.borrowed) c.index_mut.ensures.value c.requires.once) (c.requires.in_use).in_use))

pub returns-clause-left : goal.returns-clause-left
returns-clause-left c =
    let old : Link = c.index_mut.result.now in
    says-there c.args.connections.now c.args.key old
    (λ x. get (with_value c.args.connections.now c.args.key c.let_go.new.self) c.args.key ≡ Some
    (without_borrowed c.args.slot x)) c.index_mut.ensures.value
    (subst (λ (d : Link). get (with_value c.args.connections.now c.args.key d) c.args.key ≡ Some
    (without_borrowed c.args.slot old)) (sym c.let_go.ensures.goes)
    (changed-there c.args.connections.now c.args.key old (without_borrowed c.args.slot old) c.index_mut.ensures.value))
