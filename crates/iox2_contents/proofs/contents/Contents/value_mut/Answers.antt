use Rattle.std.proofs.Common.{◌<◌, length, refl}
use Rattle.iox2_contents.specs.SlotContents.{with_first_value}
use Rattle.iox2_contents.specs.SlotStates.{with_content}
use Rattle.iox2_contents.proofs.SlotReads.{content_read, some_slot_within}
use Rattle.iox2_contents.proofs.SlotLists.{changed-contents, content-at, lent}
use Rattle.iox2_contents.proofs.contents.Contents.value_mut.Goals as goal

pub index_mut-requires : goal.index_mut-requires
index_mut-requires g c = rw c.self.inside.slots.ok.0
    (some_slot_within _ c.self.inside.slots.items _ c.args.slot
    (λ content. 0 < length content.values) c.self.view_is c.requires)

pub value_mut-requires : goal.value_mut-requires
value_mut-requires g c =
    (content_read _ c.self.inside.slots.items _ c.args.slot
    (λ content. 0 < length content.values) _ c.self.view_is c.requires c.index_mut.ensures.value).1

pub invariant_of-self-lent : goal.invariant_of-self-lent
invariant_of-self-lent g c =
    let read = content_read _ c.self.inside.slots.items _ c.args.slot
    (λ content. 0 < length content.values) _ c.self.view_is c.requires c.index_mut.ensures.value in
    λ w. lent _ _ _ c.self.inside.slots.items c.args.slot _ read.0
    (with_content (with_first_value w) c.index_mut.result.now) c.self.invariant refl refl refl refl refl

pub returns : goal.returns
returns g c =
    let read = content_read _ c.self.inside.slots.items _ c.args.slot
    (λ content. 0 < length content.values) _ c.self.view_is c.requires c.index_mut.ensures.value in (
      (
        refl,
        λ w. changed-contents 0 0 _ c.self.inside.slots.items c.args.slot _ read.0 _
            (with_first_value w) _ c.self.view_is refl refl,
      ),
      record {
        writes_back = tt;
        value = rw (content-at 0 0 _ c.self.inside.slots.items c.args.slot _ read.0 _ c.self.view_is)
            c.value_mut.ensures.value;
      },
    )
