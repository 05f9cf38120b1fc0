use Rattle.std.proofs.Common.{◌≡◌, ◌∙◌, true, length, ap, sym, refl}
use Rattle.iox2_contents.specs.SlotStates.{content_of, contents_of}
use Rattle.iox2_contents.specs.SlotContents.{written_content}
use Rattle.iox2_contents.proofs.SlotReads.{content_read, some_slot_within}
use Rattle.iox2_contents.proofs.SlotLists.{changed-contents, content-at, written-lists, written-has}
use Rattle.iox2_contents.proofs.SlotSums.{set-same}
use Rattle.iox2_contents.proofs.contents.Contents.assume_init.Goals as goal

pub index-requires : goal.index-requires
index-requires g c = rw c.self.inside.slots.ok.0 (some_slot_within _ c.self.inside.slots.items _ c.args.slot
    (λ content. content.is_in_place ≡ true → length content.cells ≡ 1) c.self.view_is c.requires)

pub index_mut-requires : goal.index_mut-requires
index_mut-requires g c = rw c.self.inside.slots.ok.0
    (some_slot_within _ c.self.inside.slots.items _ c.args.slot
    (λ content. content.is_in_place ≡ true → length content.cells ≡ 1) c.self.view_is c.requires)

pub assume_init-requires : goal.assume_init-requires
assume_init-requires g c =
    (content_read _ c.self.inside.slots.items _ c.args.slot (λ content. content.is_in_place ≡ true
    → length content.cells ≡ 1) _ c.self.view_is c.requires c.index_mut.ensures.value).1

pub invariant_of-self-2 : goal.invariant_of-self-2
invariant_of-self-2 g c = c.recycle_list.ensures.lists

pub invariant_of-self : goal.invariant_of-self
invariant_of-self g c =
    let read = content_read _ c.self.inside.slots.items _ c.args.slot (λ content. content.is_in_place ≡ true
    → length content.cells ≡ 1) _ c.self.view_is c.requires c.index_mut.ensures.value in
    rw (set-same c.self.inside.slots.items c.args.slot _ _ read.0
    (c.assume_init.ensures.refused c.if-not-assume_init.true)) c.self.invariant

pub returns-then-not-assume_init : goal.returns-then-not-assume_init
returns-then-not-assume_init g c =
    let read = content_read _ c.self.inside.slots.items _ c.args.slot (λ content. content.is_in_place ≡ true
    → length content.cells ≡ 1) _ c.self.view_is c.requires c.index_mut.ensures.value in (
      content_of c.self.inside.lists.room c.index_mut.result.now,
      content-at 0 0 _ _ c.args.slot _ read.0 _ c.self.view_is,
      sym c.if-not-assume_init.true ∙ c.assume_init.ensures.all,
      ap (contents_of c.self.inside.lists.room) (set-same c.self.inside.slots.items c.args.slot _ _ read.0
          (c.assume_init.ensures.refused c.if-not-assume_init.true)) ∙ c.self.view_is,
    )

pub recycle_list-requires-clause-lists : goal.recycle_list-requires-clause-lists
recycle_list-requires-clause-lists g c =
    let read = content_read _ c.self.inside.slots.items _ c.args.slot (λ content. content.is_in_place ≡ true
    → length content.cells ≡ 1) _ c.self.view_is c.requires c.index_mut.ensures.value in
    written-lists _ _ _ _ c.args.slot _ read.0 c.self.invariant _ _
    (c.assume_init.ensures.written c.if-not-assume_init.false)

pub recycle_list-requires-clause-known : goal.recycle_list-requires-clause-known
recycle_list-requires-clause-known g c =
    let read = content_read _ c.self.inside.slots.items _ c.args.slot (λ content. content.is_in_place ≡ true
    → length content.cells ≡ 1) _ c.self.view_is c.requires c.index_mut.ensures.value in
    written-has 0 0 0 c.self.inside.slots.items c.args.slot _ read.0 c.index.result.now c.index.ensures _
    c.has_list-had_list.ensures _ _ (c.assume_init.ensures.written c.if-not-assume_init.false)

pub returns : goal.returns
returns g c =
    let read = content_read _ c.self.inside.slots.items _ c.args.slot (λ content. content.is_in_place ≡ true
    → length content.cells ≡ 1) _ c.self.view_is c.requires c.index_mut.ensures.value in (
      content_of c.self.inside.lists.room c.index_mut.result.now,
      content-at 0 0 _ _ c.args.slot _ read.0 _ c.self.view_is,
      sym c.if-not-assume_init.false ∙ c.assume_init.ensures.all,
      (
        c.assume_init.new.self.content.values,
        c.assume_init.ensures.values c.if-not-assume_init.false,
        c.recycle_list.ensures.same ∙ changed-contents 0 0 _ _ c.args.slot _ read.0 _
            (written_content c.assume_init.new.self.content.values) _ c.self.view_is
            (c.assume_init.ensures.written c.if-not-assume_init.false) refl,
      ),
    )
