use Rattle.std.proofs.Common.{refl, ap, sym, ◌∙◌}
use Rattle.iox2_connections.specs.Finds.{first_found}
use Rattle.iox2_connections.specs.declared.receiver.Found.{Found}
use Rattle.iox2_connections.proofs.Searches.{listed-at, listed-step, joins-ready, joins-at_limit, first_found-nothing}
use Rattle.iox2_connections.proofs.receiver.search_keys.Goals as goal
use Rattle.iox2_connections.proofs.receiver.search_keys.Goals.{in-AtLimit, in-Nothing}

pub look-requires : goal.look-requires
look-requires g c = λ key is. c.requires.at c.loop-index.index key
    (listed-at g.K.ListedKey.key_of c.args.keys.now c.loop-index.index c.index-keys-index.result c.key.result
    c.loop-index-test.true c.index-keys-index.is c.key.ensures ∙ is)

pub returns-in-Ready : goal.returns-in-Ready
returns-in-Ready g c =
    sym (listed-step g.K.ListedKey.key_of c.args.connections.now c.args.keys.now c.loop-index.index
    c.index-keys-index.result c.key.result c.loop-index.found c.look.result (Found.Ready c.in-Ready.key) _
    c.loop-index-test.true c.loop-index.invariant.whole c.index-keys-index.is c.key.ensures c.look.ensures
    (joins-ready c.loop-index.found c.in-Ready.key c.loop-index.invariant.none
    ∙ ap (first_found c.loop-index.found) (sym c.in-Ready.is)))

pub loop-index-preserved : goal.loop-index-preserved
loop-index-preserved g c = elim c.match-look.branch [
  | in-AtLimit w ↦ rw w.found-is (record {
    none = refl;
    whole = listed-step g.K.ListedKey.key_of c.args.connections.now c.args.keys.now c.loop-index.index
        c.index-keys-index.result c.key.result c.loop-index.found c.look.result Found.AtLimit _
        c.loop-index-test.true c.loop-index.invariant.whole c.index-keys-index.is c.key.ensures c.look.ensures
        (joins-at_limit c.loop-index.found c.loop-index.invariant.none
        ∙ ap (first_found c.loop-index.found) (sym w.in-AtLimit.is));
  })
  | in-Nothing w ↦ rw w.found-is (record {
    none = c.loop-index.invariant.none;
    whole = listed-step g.K.ListedKey.key_of c.args.connections.now c.args.keys.now c.loop-index.index
        c.index-keys-index.result c.key.result c.loop-index.found c.look.result c.loop-index.found _
        c.loop-index-test.true c.loop-index.invariant.whole c.index-keys-index.is c.key.ensures c.look.ensures
        (sym (first_found-nothing c.loop-index.found) ∙ ap (first_found c.loop-index.found) (sym w.in-Nothing.is));
  })
]
