use Rattle.std.proofs.Common.{refl, ap, sym, Some}
use Rattle.iox2_contents.specs.SlotContents.{with_user_header}
use Rattle.iox2_contents.specs.SlotStates.{with_content}
use Rattle.iox2_contents.proofs.SlotReads.{slot_read, slot_within}
use Rattle.iox2_contents.proofs.SlotLists.{changed-contents, content-at, lent}
use Rattle.iox2_contents.proofs.contents.Contents.user_header_mut.Goals as goal

pub index_mut-requires : goal.index_mut-requires
index_mut-requires g c =
    rw c.self.inside.slots.ok.0 (slot_within _ c.self.inside.slots.items _ c.args.slot c.self.view_is c.requires)

pub invariant_of-self-lent : goal.invariant_of-self-lent
invariant_of-self-lent g c =
    let read =
    slot_read _ c.self.inside.slots.items _ c.args.slot _ c.self.view_is c.requires c.index_mut.ensures.value in
    λ w. lent _ _ _ c.self.inside.slots.items c.args.slot _ read
    (with_content (with_user_header w) c.index_mut.result.now) c.self.invariant refl refl refl refl refl

pub returns : goal.returns
returns g c =
    let read =
    slot_read _ c.self.inside.slots.items _ c.args.slot _ c.self.view_is c.requires c.index_mut.ensures.value in (
      (
        refl,
        λ w. changed-contents 0 0 _ c.self.inside.slots.items c.args.slot _ read _
            (with_user_header w) _ c.self.view_is refl refl,
      ),
      record {
        writes_back = tt;
        value = rw (content-at 0 0 _ c.self.inside.slots.items c.args.slot _ read _ c.self.view_is)
            (ap Some (sym c.user_header_mut.ensures.value));
      },
    )
