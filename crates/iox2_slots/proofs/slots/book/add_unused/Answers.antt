use Rattle.std.proofs.Common.{◌≡◌, ◌∙◌, ◌++◌, ◌∷◌, [], ap, sym, replicate, length, rules, vec_len}
use Rattle.std.proofs.lemmas.Grind.{replicate_next}
use Rattle.std.proofs.lemmas.List.{append_assoc}
use Rattle.iox2_slots.proofs.LaterSlots.{free_more}
use Rattle.iox2_slots.proofs.slots.book.add_unused.Goals as goal

pub loop-added-preserved : goal.loop-added-preserved
loop-added-preserved c =
    let long : vec_len c.loop-added.slots ≡ length c.loop-added.slots.items = search rules in
    record {
      items = c.push_reserved.ensures.items ∙ ap (λ ss. ss ++ c.args.unused.now ∷ []) c.loop-added.invariant.items
          ∙ append_assoc c.args.slots.now.items (replicate c.loop-added.added c.args.unused.now)
          (c.args.unused.now ∷ [])
          ∙ ap (λ ss. c.args.slots.now.items ++ ss) (sym (replicate_next c.loop-added.added c.args.unused.now));
      exact = rw (c.push_reserved.ensures.items, c.push_reserved-in-loop-added.ensures.items, c.len-slot.ensures, long)
          (free_more c.loop-added.slots.items c.loop-added.free.items c.args.unused.now c.requires.unused
          c.loop-added.invariant.exact);
      capacity = c.push_reserved.ensures.capacity ∙ c.loop-added.invariant.capacity;
      free_capacity = c.push_reserved-in-loop-added.ensures.capacity ∙ c.loop-added.invariant.free_capacity;
    }
