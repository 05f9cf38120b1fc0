use Rattle.std.proofs.Common.{◌≡◌, ◌≤◌, ◌<◌, [], refl}
use Rattle.iox2_contents.specs.SlotContents.{open_count, unwritten_content}
use Rattle.iox2_contents.proofs.SlotReads.{content_read, some_slot_within}
use Rattle.iox2_contents.proofs.SlotLists.{changed-contents, none-listed, started-lists}
use Rattle.iox2_contents.proofs.contents.Contents.start.Goals as goal

pub index_mut-requires : goal.index_mut-requires
index_mut-requires g c = rw c.self.inside.slots.ok.0
    (some_slot_within _ c.self.inside.slots.items _ c.args.slot
    (λ content. c.args.len ≤ content.room) c.self.view_is c.requires.fit)

pub start-requires-clause-fit : goal.start-requires-clause-fit
start-requires-clause-fit g c =
    (content_read _ c.self.inside.slots.items _ c.args.slot
    (λ content. c.args.len ≤ content.room) _ c.self.view_is c.requires.fit c.index_mut.ensures.value).1

pub start-requires-clause-none : goal.start-requires-clause-none
start-requires-clause-none g c =
    let ended = content_read _ c.self.inside.slots.items _ c.args.slot (λ content. 0 < content.lists
    → content.cells ≡ []) _ c.self.view_is c.requires.ended c.index_mut.ensures.value in
    none-listed _ _ _ c.self.inside.slots.items c.args.slot _ ended.0 c.self.invariant ended.1

pub invariant_of-self : goal.invariant_of-self
invariant_of-self g c =
    let slots = c.self.inside.slots.items in
    let ended = content_read _ slots _ c.args.slot (λ content. 0 < content.lists → content.cells ≡ []) _ c.self.view_is
    c.requires.ended c.index_mut.ensures.value in
    let few = content_read _ slots _ c.args.slot (λ content. 0 < content.lists
    → open_count c.args.self.now < content.lists) _ c.self.view_is c.requires.few c.index_mut.ensures.value in
    started-lists _ _ _ slots c.args.slot _ ended.0 c.self.invariant _ _ _ c.start.ensures.started ended.1
    (rw c.self.view_is few.1)

pub returns : goal.returns
returns g c =
    let read = content_read _ c.self.inside.slots.items _ c.args.slot
    (λ content. c.args.len ≤ content.room) _ c.self.view_is c.requires.fit c.index_mut.ensures.value in
    record {
      user_header = c.start.new.self.content.user_header;
      default = c.start.ensures.default;
      started = changed-contents 0 0 _ _ c.args.slot _ read.0 _
          (unwritten_content c.start.new.self.content.user_header c.args.len) _ c.self.view_is c.start.ensures.started
          refl;
    }
