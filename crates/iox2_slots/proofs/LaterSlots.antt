-- Slots of the list of free ones that stand from some slot on.
use Rattle.std.proofs.Common.{◌≡◌, ℕ, zero, suc, ◌+◌, ◌<◌, ◌≤◌, List, [], ◌∷◌, ◌++◌, length, take, drop, Bool, false}
use Rattle.std.proofs.Common.{true, cond, ◌-◌, slice_index_or, slice_index, slice_set, map, get_or, replicate, All}
use Rattle.std.proofs.Common.{refl, ap, sym, subst, ◌∙◌, arith, count_by, eqb}
use Rattle.std.proofs.lemmas.Bool.{ne_eqb, eq-eqb}
use Rattle.std.proofs.lemmas.Grind.{common_steps, get_or_default_zero}
use Rattle.std.proofs.lemmas.List.{get_or-map, get_or-drop, length-append, length-drop, length-map, map-append}
use Rattle.std.proofs.lemmas.List.Sums.{sum_by-append, sum_by-cons}
use Rattle.std.proofs.lemmas.List.Elements.{All-append}
use Rattle.std.specs.Prelude.{◌↔◌, IfNone, IfSome, is_some, not}
use Rattle.std.specs.declared.option.Option.{Option}
use Rattle.std.specs.declared.option.Option.TheVariants.{None, Some}
use Rattle.iox2_slots.specs.SlotFree.{HasEachOnce, HasFree}
use Rattle.iox2_slots.specs.declared.slots.slot.Slot.{Slot}
use Rattle.iox2_slots.proofs.EachOnce.{extended}
use Rattle.iox2_slots.specs.SlotHeaders.{AreFrom}
use Rattle.iox2_slots.proofs.SlotHeaders.{equal_are}
use Rattle.iox2_slots.proofs.SlotRecords.{map-replicate}
use Rattle.iox2_slots.proofs.FreeSlots.{popped_within, popped_count, free_popped}

-- A list around one of its places.
around : (xs : List ℕ) (place i : ℕ) → place < length xs → slice_index xs place ≡ i
    → xs ≡ take place xs ++ i ∷ drop (suc place) xs
around [] place i lt e = absurd (omega arith)
around (x ∷ xs) zero i lt e = ap (λ y. y ∷ xs) e
around (x ∷ xs) (suc place) i lt e = ap (λ ys. x ∷ ys) (around xs place i (omega arith) e)

-- Which of the free ones stands last doesn't matter.
turned : (holders before after : List ℕ) (i : ℕ) → HasFree holders (before ++ i ∷ after)
    → HasFree holders ((before ++ after) ++ i ∷ [])
turned holders before after i has = record {
  each = record {
    times = λ k. grind (
      arith,
      common_steps,
      has.each.times k,
      sum_by-append (λ j. cond (eqb j k) 1 0) before
          (i ∷ after),
      sum_by-append (λ j. cond (eqb j k) 1 0) before after,
      sum_by-append (λ j. cond (eqb j k) 1 0) (before ++ after) (i ∷ []),
    );
    count = omega (
      arith,
      has.each.count,
      length-append before (i ∷ after),
      length-append before after,
      length-append (before ++ after) (i ∷ []),
    );
  };
}

module _ (holders free : List ℕ) (place i : ℕ) (below : place < length free) (read : slice_index free place ≡ i)
    (has : HasFree holders free) where
  -- The others.
  abbrev pub rest : List ℕ
  rest = take place free ++ drop (place + 1) free

  here : HasFree holders (rest ++ i ∷ [])
  here =
      let next : suc place ≡ place + 1 = omega arith in
      let parts : free ≡ take place free ++ i ∷ drop (place + 1) free =
      around free place i below read ∙ ap (λ n. take place free ++ i ∷ drop n free) next in
      turned holders (take place free) (drop (place + 1) free) i (subst (HasFree holders) parts has)

  -- A free slot is a slot,
  pub chosen_within : i < length holders
  chosen_within = popped_within holders (rest ++ i ∷ []) rest i refl here

  -- it has no holder,
  pub chosen_count : slice_index holders i ≡ 0
  chosen_count = popped_count holders (rest ++ i ∷ []) rest i refl here

  -- and the others are the free ones once it has some.
  pub free_chosen : (n : ℕ) → 0 < n → HasFree (slice_set holders i n) rest
  free_chosen n some = free_popped holders (rest ++ i ∷ []) rest i n refl some here

  -- so that not every slot from an earlier one on has a holder.
  pub chosen_not_all : (start : ℕ) → start ≤ i → All (λ n. 0 < n) (drop start holders) → ⊥
  chosen_not_all start from all =
      let same : start + (i - start) ≡ i = omega (arith, from) in
      let none : slice_index (drop start holders) (i - start) ≡ 0 =
      get_or-drop start holders (i - start) 0 ∙ ap (slice_index holders) same ∙ chosen_count in
      omega (arith, none, all (i - start) 0 (omega (arith, length-drop start holders, chosen_within, from)))

-- A slot from that one on isn't among slots before it.
absent : (free : List ℕ) (start i : ℕ) → start ≤ i → All (λ slot. slot < start) free → count_by (λ j. eqb j i) free ≡ 0
absent [] start i from before = refl
absent (j ∷ free) start i from before =
    let low : j < start = before 0 0 (omega arith) in
    let other : eqb j i ≡ false = ne_eqb j i (λ e. absurd (omega (arith, e, low, from))) in
    let rest = absent free start i from (λ k d lt. before (suc k) d (omega arith)) in
    grind (arith, common_steps, other, rest, sum_by-cons (λ j. cond (eqb j i) 1 0) j free)

-- None of the free ones stands from that slot on: each there has a holder.
pub none_from : (holders free : List ℕ) (start : ℕ) → All (λ slot. slot < start) free → HasFree holders free
    → All (λ n. 0 < n) (drop start holders)
none_from holders free start before has k d lt = some (get_or (drop start holders) k d) refl where
  low : start + k < length holders
  low = omega (arith, lt, length-drop start holders)

  some : (n : ℕ) → get_or (drop start holders) k d ≡ n → 0 < get_or (drop start holders) k d
  some (suc n) e = omega (arith, e)
  some zero e =
      let is : get_or holders (start + k) 0 ≡ 0 =
      sym (get_or_default_zero holders (start + k) d low) ∙ sym (get_or-drop start holders k d) ∙ e in
      let test : slice_index_or (map (λ n. eqb n 0) holders) (start + k) false ≡ true =
      get_or-map (λ n. eqb n 0) holders (start + k) 0 false low ∙ eq-eqb _ 0 is in
      let once : count_by (λ j. eqb j (start + k)) free ≡ 1 = has.each.times (start + k) ∙ ap (λ b. cond b 1 0) test in
      let never : count_by (λ j. eqb j (start + k)) free ≡ 0 = absent free start (start + k) (omega arith) before in
      absurd (omega (arith, once, never))

-- Whether none is found says so exactly.
pub full_from : (holders free : List ℕ) (start : ℕ) (o : Option ℕ) (b : Bool) → is_some o ≡ not b → HasFree holders free
    → IfNone o (All (λ slot. slot < start) free)
    → IfSome o (λ place. (place < length free) × (start ≤ slice_index free place))
    → (b ≡ true) ↔ All (λ n. 0 < n) (drop start holders)
full_from holders free start None true e has none there = (λ _. none_from holders free start none has, λ _. refl)
full_from holders free start None false e has none there = absurd cc
full_from holders free start (Some place) true e has none there = absurd cc
full_from holders free start (Some place) false e has none there = (
  λ no. absurd cc,
  λ all. absurd (chosen_not_all holders free place (slice_index free place) there.0 refl has start there.1 all),
)

-- One slot more.
pub free_more : (slots : List Slot) (free : List ℕ) (unused : Slot) → unused.holders ≡ 0
    → HasFree (map (λ slot. slot.holders) slots) free
    → HasFree (map (λ slot. slot.holders) (slots ++ unused ∷ [])) (free ++ length slots ∷ [])
free_more slots free unused none has =
    let holders = map (λ (slot : Slot). slot.holders) slots in
    let tests = map (λ n. eqb n 0) holders in
    let long : length tests ≡ length slots =
    length-map holders (λ n. eqb n 0) ∙ length-map slots (λ (slot : Slot). slot.holders) in
    let more : HasEachOnce (tests ++ true ∷ []) (free ++ length tests ∷ []) = extended tests free has.each in
    let P : ℕ → Type 0 = λ n. HasEachOnce (tests ++ true ∷ []) (free ++ n ∷ []) in
    let Q : ℕ → Type 0 = λ n. HasEachOnce (tests ++ eqb n 0 ∷ []) (free ++ length slots ∷ []) in
    record {
      each =
          subst (λ (hs : List ℕ). HasEachOnce (map (λ n. eqb n 0) hs) (free ++ length slots ∷ []))
          (sym (map-append (λ (slot : Slot). slot.holders) slots (unused ∷ [])))
          (subst (λ (bs : List Bool). HasEachOnce bs (free ++ length slots ∷ []))
          (sym (map-append (λ n. eqb n 0) holders (unused.holders ∷ [])))
          (subst Q (sym none) (subst P long more)));
    }

-- Equal headers more.
pub more_are : (node publisher : ℕ) (slots : List Slot) (unused : Slot) (more : ℕ) → unused.header.node_id ≡ node
    → unused.header.publisher_id ≡ publisher
    → AreFrom node publisher (map (λ slot. slot.header) slots)
    → AreFrom node publisher (map (λ slot. slot.header) (slots ++ replicate more unused))
more_are node publisher slots unused more its_node its_publisher are =
    let added = equal_are node publisher more unused.header its_node its_publisher in
    subst (AreFrom node publisher)
    (sym (map-append (λ (slot : Slot). slot.header) slots (replicate more unused)
    ∙ ap (λ hs. map (λ (slot : Slot). slot.header) slots ++ hs)
    (map-replicate (λ (slot : Slot). slot.header) more unused)))
    (record {
      nodes = All-append (λ it. it.node_id ≡ node) (map (λ (slot : Slot). slot.header) slots)
          (replicate more unused.header) are.nodes added.nodes;
      publishers = All-append (λ it. it.publisher_id ≡ publisher) (map (λ (slot : Slot). slot.header) slots)
          (replicate more unused.header) are.publishers added.publishers;
    })

-- What is read of each of them.
pub more_read : {B : Type 0} (f : Slot → B) (slots : List Slot) (unused : Slot) (more : ℕ)
    → map f (slots ++ replicate more unused) ≡ map f slots ++ replicate more (f unused)
more_read f slots unused more =
    map-append f slots (replicate more unused) ∙ ap (λ ys. map f slots ++ ys) (map-replicate f more unused)

pub ruleset taking_from = (chosen_within)

-- Each of the free ones is a slot without holders.
pub each_free : (holders free : List ℕ) → HasFree holders free
    → All (λ slot. (slot < length holders) × (slice_index holders slot ≡ 0)) free
each_free holders free has k d lt =
    let read : slice_index free k ≡ get_or free k d = sym (get_or_default_zero free k d lt) in
    (chosen_within holders free k _ lt read has, chosen_count holders free k _ lt read has)
