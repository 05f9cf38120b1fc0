use Rattle.std.proofs.Common.{◌≡◌, ◌+◌, ◌∙◌, List, ap, refl, length, rules, vec_len, arith}
use Rattle.std.proofs.lemmas.List.{length-append, length-replicate}
use Rattle.iox2_slots.specs.declared.slots.slot.Slot.{Slot}
use Rattle.iox2_slots.proofs.LaterSlots.{more_are, more_read}
use Rattle.iox2_slots.proofs.slots.book.SlotBook.grown.Goals as goal

pub invariant_of-result : goal.invariant_of-result
invariant_of-result c =
    let same : c.reserve_exact.new.self.items ≡ c.self.inside.slots.items =
    c.reserve_exact.ensures.items ∙ c.in_ok-slots.ensures.items ∙ c.as_slice.ensures.value in
    record {
      exact = c.add_unused.ensures.exact;
      room =
          let long : vec_len c.reserve_exact.new.self ≡ length c.reserve_exact.new.self.items = search rules in
          let all : length c.add_unused.new.slots.items ≡ length c.reserve_exact.new.self.items + c.args.more =
          ap (λ (ss : List Slot). length ss) c.add_unused.ensures.items ∙ length-append c.reserve_exact.new.self.items _
          ∙ ap (λ n. length c.reserve_exact.new.self.items + n) (length-replicate {A = Slot} c.args.more _) in
          omega (
            arith,
            long,
            all,
            c.in_ok-reserve_exact.ensures.ok,
            c.capacity.ensures,
            c.in_ok-free.ensures.capacity,
            c.in_ok-extend_from_slice.ensures.capacity,
            c.add_unused.ensures.capacity,
          );
      headers = rw (c.add_unused.ensures.items, same)
          (more_are _ _ c.self.inside.slots.items _ c.args.more refl refl c.self.invariant.headers);
    }

pub returns : goal.returns
returns c =
    let same : c.reserve_exact.new.self.items ≡ c.self.inside.slots.items =
    c.reserve_exact.ensures.items ∙ c.in_ok-slots.ensures.items ∙ c.as_slice.ensures.value in
    let slots = c.self.inside.slots.items in
    rw (
      ← c.self.view_is,
      c.add_unused.ensures.items,
      same,
      more_read (λ (slot : Slot). slot.number) slots _ c.args.more,
      more_read (λ (slot : Slot). slot.header) slots _ c.args.more,
      more_read (λ (slot : Slot). slot.mark) slots _ c.args.more,
      more_read (λ (slot : Slot). slot.holders) slots _ c.args.more,
    ) refl
