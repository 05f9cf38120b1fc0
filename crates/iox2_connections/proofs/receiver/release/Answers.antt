use Rattle.iox2_connections.proofs.TakeSteps.{releases-returned, returned-there, stands-returned}
use Rattle.iox2_connections.proofs.receiver.release.Goals as goal

pub returns-clause-releases : goal.returns-clause-releases
returns-clause-releases c = releases-returned c.args.connections.now c.args.key c.args.slot c.index_mut.result.now
    c.release.new.self c.requires.apart c.requires.borrowed c.index_mut.ensures.value c.release.ensures.releases

pub returns-clause-returned : goal.returns-clause-returned
returns-clause-returned c = returned-there c.args.connections.now c.args.key c.args.slot c.index_mut.result.now
    c.release.new.self c.index_mut.ensures.value c.release.ensures.releases

pub returns-clause-stands : goal.returns-clause-stands
returns-clause-stands c = stands-returned c.args.connections.now c.args.key c.args.slot c.index_mut.result.now
    c.release.new.self c.requires.borrowed c.requires.once c.index_mut.ensures.value c.release.ensures.releases
