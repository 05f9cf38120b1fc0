use Rattle.std.proofs.Common.{List, ℕ, ap, sym, ◌∙◌}
use Rattle.std.specs.Prelude.{slice_get}
use Rattle.iox2_connections.specs.Counters.{times}
use Rattle.iox2_connections.proofs.ListedNumbers.{contains-from}
use Rattle.iox2_connections.proofs.TakenSlots.{absent-without, counted-there, removed-without}
use Rattle.iox2_connections.proofs.slot_list.search_and_take.Goals as goal

pub returns-in-Some-clause-items : goal.returns-in-Some-clause-items
returns-in-Some-clause-items c =
    c.remove.ensures.items
    ∙ removed-without c.args.slot c.args.slots.now.items c.in-Some.place
    (ap (λ (xs : List ℕ). slice_get xs c.in-Some.place) (sym c.deref.ensures.value) ∙ c.in-Some.ensures) c.requires

pub returns-in_default-clause-items : goal.returns-in_default-clause-items
returns-in_default-clause-items c =
    sym (absent-without c.args.slot c.args.slots.now.items
    (ap (times c.args.slot) (sym c.deref.ensures.value) ∙ c.in_default.ensures))

-- a slot that stands in the list is found
pub returns-in_default-clause-len : goal.returns-in_default-clause-len
returns-in_default-clause-len c stands =
    absurd (counted-there c.args.slot c.args.slots.now.items (contains-from c.args.slots.now.items c.args.slot stands)
    (ap (times c.args.slot) (sym c.deref.ensures.value) ∙ c.in_default.ensures))
