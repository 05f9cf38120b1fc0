use Rattle.iox2_domain.proofs.lemmas.samples.SampleReads.{slot-within, header-read}
use Rattle.iox2_messages.proofs.sample_reads.sample_header.Goals as goal

pub header-requires : goal.header-requires
header-requires g c =
    slot-within _ c.args.state.now c.args.sample.now.subscriber c.args.sample.now.number
    (record { connection = c.requires.lies.0; book = c.args.sample.now.book; slot = c.args.sample.now.slot })
    (record { same = c.state.view_is; sound = c.requires.agrees; lies = c.requires.lies.1 }) c.index.result.now
    c.index.ensures

pub returns : goal.returns
returns g c =
    header-read _ c.args.state.now c.args.sample.now.subscriber c.args.sample.now.number
    (record { connection = c.requires.lies.0; book = c.args.sample.now.book; slot = c.args.sample.now.slot })
    (record { same = c.state.view_is; sound = c.requires.agrees; lies = c.requires.lies.1 }) c.index.result.now
    c.index.ensures
    c.header.result.now c.header.ensures
