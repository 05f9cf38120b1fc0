use Rattle.std.proofs.Common.{◌≡◌, ◌<◌, rules, arith, length, vec_len}
use Rattle.iox2_domain.proofs.lemmas.samples.SampleReads.{book-within, no-contents, values-there, values-read}
use Rattle.iox2_messages.proofs.sample_reads.sample_payloads.Goals as goal

pub index-requires : goal.index-requires
index-requires g c =
    let long : vec_len c.state.inside.contents ≡ length c.state.inside.contents.items = search rules in
    let within : c.args.sample.now.book < length c.state.inside.contents.items =
    book-within _ c.args.state.now c.args.sample.now.subscriber c.args.sample.now.number
    (record { connection = c.requires.lies.0; book = c.args.sample.now.book; slot = c.args.sample.now.slot })
    (record { same = c.state.view_is; sound = c.requires.agrees; lies = c.requires.lies.1 }) in
    omega arith

pub unreachable-requires : goal.unreachable-requires
unreachable-requires g c =
    no-contents _ c.args.state.now c.args.sample.now.subscriber c.args.sample.now.number
    (record { connection = c.requires.lies.0; book = c.args.sample.now.book; slot = c.args.sample.now.slot })
    (record { same = c.state.view_is; sound = c.requires.agrees; lies = c.requires.lies.1 })
    c.index.result.now c.index.ensures c.in_default.is

pub values-requires : goal.values-requires
values-requires g c =
    values-there _ c.args.state.now c.args.sample.now.subscriber c.args.sample.now.number
    (record { connection = c.requires.lies.0; book = c.args.sample.now.book; slot = c.args.sample.now.slot })
    (record { same = c.state.view_is; sound = c.requires.agrees; lies = c.requires.lies.1 })
    c.index.result.now c.index.ensures c.in-Some.contents c.in-Some.is c.requires.several

pub returns : goal.returns
returns g c =
    values-read _ c.args.state.now c.args.sample.now.subscriber c.args.sample.now.number
    (record { connection = c.requires.lies.0; book = c.args.sample.now.book; slot = c.args.sample.now.slot })
    (record { same = c.state.view_is; sound = c.requires.agrees; lies = c.requires.lies.1 })
    c.index.result.now c.index.ensures c.in-Some.contents c.in-Some.is c.values.result.now c.values.ensures
