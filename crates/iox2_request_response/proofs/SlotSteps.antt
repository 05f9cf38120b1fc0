-- Steps on a client's list of subscribers.
use Rattle.std.proofs.Common.{◌≡◌, ◌≢◌, ◌⊎◌, inl, inr, ℕ, zero, suc, ◌<◌, List, [], ◌∷◌, ◌++◌, length, refl, sym, ap}
use Rattle.std.proofs.Common.{◌∙◌, arith, get_or, slice_set}
use Rattle.std.proofs.lemmas.List.{length-map}
use Rattle.iox2_pubsub.specs.Handles.{subscriber_id}
use Rattle.iox2_pubsub.specs.Live.{IsOtherSubscriber}
use Rattle.iox2_pubsub.specs.declared.subscriber.Subscriber.{Subscriber}
use Rattle.iox2_request_response.specs.Slots.{AreDistinctIdle, HasIdle, IsPlaceInUse, idle_ports, slot_id, slot_ids}
use Rattle.iox2_request_response.specs.declared.slots.Slot.{Slot}
use Rattle.iox2_request_response.specs.declared.slots.Slot.TheVariants.{Idle, InUse}

-- ---- looking

-- who is idle stands in the list
pub idle-there : (slots : List Slot) (at : ℕ) (subscriber : Subscriber) → HasIdle slots at subscriber
    → at < length slots
idle-there [] at subscriber idle = absurd (let none : InUse 0 ≡ Idle subscriber = idle in cc)
idle-there (slot ∷ slots) zero subscriber idle = omega arith
idle-there (slot ∷ slots) (suc at) subscriber idle =
    let low : at < length slots = idle-there slots at subscriber idle in omega (arith, low)

-- what stands there, put there again, changes nothing
pub used-kept : (slots : List Slot) (index : ℕ) (was put : Slot) → was ≡ get_or slots index was
    → (index < length slots → put ≡ was) → slice_set slots index put ≡ slots
used-kept [] index was put read puts = refl
used-kept (slot ∷ slots) zero was put read puts = ap (λ (x : Slot). x ∷ slots) (puts (omega arith) ∙ read)
used-kept (slot ∷ slots) (suc index) was put read puts =
    ap (λ (xs : List Slot). slot ∷ xs) (used-kept slots index was put read (λ low. puts (omega (arith, low))))

-- what is read twice is the same
same-read : (slots : List Slot) (index : ℕ) (one other : Slot) → index < length slots → one ≡ get_or slots index one
    → other ≡ get_or slots index other → one ≡ other
same-read [] index one other low first second = absurd (omega (arith, low))
same-read (slot ∷ slots) zero one other low first second = first ∙ sym second
same-read (slot ∷ slots) (suc index) one other low first second =
    same-read slots index one other (omega (arith, low)) first second

-- so one that is in use is put there again with the id that was read
pub again-used : (slots : List Slot) (index id again : ℕ) (was seen : Slot) → was ≡ get_or slots index was
    → seen ≡ get_or slots index seen → was ≡ InUse id → again ≡ slot_id seen → index < length slots → InUse again ≡ was
again-used slots index id again was seen first second used read low =
    let same : seen ≡ was = same-read slots index seen was low second first in
    ap (λ (k : ℕ). InUse k) (read ∙ ap slot_id same ∙ ap slot_id used) ∙ sym used

-- and there is nobody idle there
pub used-there : (slots before : List Slot) (index id : ℕ) (was : Slot) → slots ≡ before → was ≡ get_or slots index was
    → was ≡ InUse id → (subscriber : Subscriber) → HasIdle before index subscriber → ⊥
used-there slots before index id was same read used subscriber idle =
    let low : index < length before = idle-there before index subscriber idle in
    let other : get_or before index (InUse 0) ≡ InUse id =
    in-use before index low (ap (λ (xs : List Slot). get_or xs index was) (sym same) ∙ sym read ∙ used) in
    let clash : InUse id ≡ Idle subscriber = sym other ∙ idle in
    absurd cc where
      in-use : (xs : List Slot) (at : ℕ) → at < length xs → get_or xs at was ≡ InUse id
          → get_or xs at (InUse 0) ≡ InUse id
      in-use [] at low is = absurd (omega (arith, low))
      in-use (x ∷ xs) zero low is = is
      in-use (x ∷ xs) (suc at) low is = in-use xs at (omega (arith, low)) is

-- ---- ids

-- the id of what stands there stands at the same place
pub id-there : (slots : List Slot) (at : ℕ) (slot : Slot) → at < length slots → get_or slots at (InUse 0) ≡ slot
    → get_or (slot_ids slots) at 0 ≡ slot_id slot
id-there [] at slot low is = absurd (omega (arith, low))
id-there (first ∷ slots) zero slot low is = ap slot_id is
id-there (first ∷ slots) (suc at) slot low is = id-there slots at slot (omega (arith, low)) is

-- there are as many
pub as-many : (slots : List Slot) → length (slot_ids slots) ≡ length slots
as-many slots = length-map slots slot_id

module _ (slots : List Slot) (distinct : AreDistinctIdle (slot_ids slots)) where
  -- places at which the same id stands are the same
  pub same-place : (one other : ℕ) (first second : Slot) → one < length slots → other < length slots
      → get_or slots one (InUse 0) ≡ first → get_or slots other (InUse 0) ≡ second
      → slot_id first ≡ slot_id second → one ≡ other
  same-place one other first second low high here there same =
      let many : length (slot_ids slots) ≡ length slots = as-many slots in
      distinct one other (omega (arith, low, many)) (omega (arith, high, many))
      (id-there slots one first low here ∙ same ∙ sym (id-there slots other second high there))

  -- a subscriber that a request has is none of the idle ones
  pub pending-apart : (index id : ℕ) → IsPlaceInUse slots index id → (at : ℕ) (subscriber : Subscriber)
      → HasIdle slots at subscriber → id ≢ subscriber_id subscriber
  pending-apart index id used at subscriber idle same =
      let place : index ≡ at = same-place index at (InUse id) (Idle subscriber) used.there
      (idle-there slots at subscriber idle) used.in_use idle same in
      let clash : InUse id ≡ Idle subscriber =
      sym used.in_use ∙ ap (λ (k : ℕ). get_or slots k (InUse 0)) place ∙ idle in
      absurd cc

-- who is another than each of the idle ones is another than their item
pub other-ports : (slots : List Slot) (id : ℕ) → ((at : ℕ) (subscriber : Subscriber) → HasIdle slots at subscriber
    → id ≢ subscriber_id subscriber) → IsOtherSubscriber (idle_ports slots) id
other-ports [] id others = tt
other-ports (Idle subscriber ∷ slots) id others =
    (others zero subscriber refl, other-ports slots id (λ at it idle. others (suc at) it idle))
other-ports (InUse used ∷ slots) id others = other-ports slots id (λ at it idle. others (suc at) it idle)

-- ---- one place is set

-- who is idle after a place was set is who was put there, or was idle at another place
pub set-idle : (slots : List Slot) (index : ℕ) (put : Slot) (at : ℕ) (subscriber : Subscriber)
    → HasIdle (slice_set slots index put) at subscriber
    → ((at ≡ index) × (put ≡ Idle subscriber)) ⊎ ((at ≢ index) × HasIdle slots at subscriber)
set-idle [] index put at subscriber idle = absurd (let none : InUse 0 ≡ Idle subscriber = idle in cc)
set-idle (slot ∷ slots) zero put zero subscriber idle = inl (refl, idle)
set-idle (slot ∷ slots) zero put (suc at) subscriber idle = inr ((λ same. omega arith), idle)
set-idle (slot ∷ slots) (suc index) put zero subscriber idle = inr ((λ same. omega arith), idle)
set-idle (slot ∷ slots) (suc index) put (suc at) subscriber idle = elim (set-idle slots index put at subscriber idle) [
  | inl here ↦ inl (ap suc here.0, here.1)
  | inr there ↦ inr ((λ same. there.0 (omega arith)), there.1)
]

-- the ids stay, where what is put has the same one
pub set-ids : (slots : List Slot) (index : ℕ) (put was : Slot) → get_or slots index (InUse 0) ≡ was
    → slot_id put ≡ slot_id was → slot_ids (slice_set slots index put) ≡ slot_ids slots
set-ids [] index put was is same = refl
set-ids (slot ∷ slots) zero put was is same = ap (λ (id : ℕ). id ∷ slot_ids slots) (same ∙ ap slot_id (sym is))
set-ids (slot ∷ slots) (suc index) put was is same =
    ap (λ (ids : List ℕ). slot_id slot ∷ ids) (set-ids slots index put was is same)

-- another place is in use as before
pub set-used : (slots : List Slot) (index : ℕ) (put : Slot) (at id : ℕ) → at ≢ index → IsPlaceInUse slots at id
    → IsPlaceInUse (slice_set slots index put) at id
set-used slots index put at id away used =
    record {
      there = let same : length (slice_set slots index put) ≡ length slots = long slots index in
          let low = used.there in omega (arith, same, low);
      in_use = kept slots index at away ∙ used.in_use;
    } where
      long : (xs : List Slot) (k : ℕ) → length (slice_set xs k put) ≡ length xs
      long [] k = refl
      long (x ∷ xs) zero = refl
      long (x ∷ xs) (suc k) = ap suc (long xs k)

      kept : (xs : List Slot) (k i : ℕ) → i ≢ k → get_or (slice_set xs k put) i (InUse 0) ≡ get_or xs i (InUse 0)
      kept [] k i other = refl
      kept (x ∷ xs) zero zero other = absurd (other refl)
      kept (x ∷ xs) zero (suc i) other = refl
      kept (x ∷ xs) (suc k) zero other = refl
      kept (x ∷ xs) (suc k) (suc i) other = kept xs k i (λ same. other (ap suc same))

-- what is put there stands there
pub set-there : (slots : List Slot) (index : ℕ) (put : Slot) → index < length slots
    → (index < length (slice_set slots index put)) × (get_or (slice_set slots index put) index (InUse 0) ≡ put)
set-there [] index put low = absurd (omega (arith, low))
set-there (slot ∷ slots) zero put low = (omega arith, refl)
set-there (slot ∷ slots) (suc index) put low = let rest = set-there slots index put (omega (arith, low)) in
    let there : index < length (slice_set slots index put) = rest.0 in (omega (arith, there), rest.1)

-- one that is taken and put back
pub back-same : (slots : List Slot) (index id : ℕ) (taken : Subscriber) → HasIdle slots index taken
    → slice_set (slice_set slots index (InUse id)) index (Idle taken) ≡ slots
back-same [] index id taken stands = refl
back-same (slot ∷ slots) zero id taken stands = ap (λ (x : Slot). x ∷ slots) (sym stands)
back-same (slot ∷ slots) (suc index) id taken stands =
    ap (λ (xs : List Slot). slot ∷ xs) (back-same slots index id taken stands)

-- ---- one is put behind

-- who is idle after one was put behind is that one, or was idle
pub push-idle : (slots : List Slot) (put : Slot) (at : ℕ) (subscriber : Subscriber)
    → HasIdle (slots ++ put ∷ []) at subscriber
    → ((at ≡ length slots) × (put ≡ Idle subscriber)) ⊎ ((at < length slots) × HasIdle slots at subscriber)
push-idle [] put zero subscriber idle = inl (refl, idle)
push-idle [] put (suc at) subscriber idle = absurd (let none : InUse 0 ≡ Idle subscriber = idle in cc)
push-idle (slot ∷ slots) put zero subscriber idle = inr (omega arith, idle)
push-idle (slot ∷ slots) put (suc at) subscriber idle = elim (push-idle slots put at subscriber idle) [
  | inl here ↦ inl (ap suc here.0, here.1)
  | inr there ↦ inr (let low = there.0 in omega (arith, low), there.1)
]

-- an id after one was put behind is that one's, or stood there
push-id : (ids : List ℕ) (id at : ℕ) → at < length (ids ++ id ∷ [])
    → ((at ≡ length ids) × (get_or (ids ++ id ∷ []) at 0 ≡ id))
    ⊎ ((at < length ids) × (get_or (ids ++ id ∷ []) at 0 ≡ get_or ids at 0))
push-id [] id zero low = inl (refl, refl)
push-id [] id (suc at) low = absurd (omega (arith, low))
push-id (first ∷ ids) id zero low = inr (omega arith, refl)
push-id (first ∷ ids) id (suc at) low = elim (push-id ids id at (omega (arith, low))) [
  | inl here ↦ inl (ap suc here.0, here.1)
  | inr there ↦ inr (let less = there.0 in omega (arith, less), there.1)
]

-- ids are distinct still, where another one is put behind them
pub push-distinct : (ids : List ℕ) (id : ℕ) → AreDistinctIdle ids → ((at : ℕ) → at < length ids → get_or ids at 0 ≢ id)
    → AreDistinctIdle (ids ++ id ∷ [])
push-distinct ids id distinct apart one other low high same = elim (push-id ids id one low) [
  | inl here ↦ elim (push-id ids id other high) [
    | inl there ↦ here.0 ∙ sym there.0
    | inr there ↦ absurd (apart other there.0 (sym there.1 ∙ sym same ∙ here.1))
  ]
  | inr here ↦ elim (push-id ids id other high) [
    | inl there ↦ absurd (apart one here.0 (sym here.1 ∙ same ∙ there.1))
    | inr there ↦ distinct one other here.0 there.0 (sym here.1 ∙ same ∙ there.1)
  ]
]

-- the ids of two lists, one behind the other
pub ids-append : (slots later : List Slot) → slot_ids (slots ++ later) ≡ slot_ids slots ++ slot_ids later
ids-append [] later = refl
ids-append (slot ∷ slots) later = ap (λ (ids : List ℕ). slot_id slot ∷ ids) (ids-append slots later)

-- ---- one after the other is closed, from the last on

-- who stands between others is idle there
pub middle-idle : (before after : List Slot) (subscriber : Subscriber)
    → HasIdle (before ++ Idle subscriber ∷ after) (length before) subscriber
middle-idle [] after subscriber = refl
middle-idle (slot ∷ before) after subscriber = middle-idle before after subscriber

-- the index of a place behind him
past : List Slot → ℕ → ℕ
past [] at = suc at
past (slot ∷ before) at = suc (past before at)

past-middle : (before : List Slot) (at : ℕ) → length before ≢ past before at
unfolding past
past-middle [] at same = omega arith
past-middle (slot ∷ before) at same = past-middle before at (omega arith)

-- who is idle among those behind him is so there
later-idle : (before after : List Slot) (slot : Slot) (at : ℕ) (subscriber : Subscriber) → HasIdle after at subscriber
    → HasIdle (before ++ slot ∷ after) (past before at) subscriber
unfolding past
later-idle [] after slot at subscriber idle = idle
later-idle (first ∷ before) after slot at subscriber idle = later-idle before after slot at subscriber idle

-- so he is another than these
pub middle-apart : (before after : List Slot) (subscriber : Subscriber)
    → AreDistinctIdle (slot_ids (before ++ Idle subscriber ∷ after)) → (at : ℕ) (other : Subscriber)
    → HasIdle after at other → subscriber_id subscriber ≢ subscriber_id other
middle-apart before after subscriber distinct at other idle same =
    let here = middle-idle before after subscriber in
    let there = later-idle before after (Idle subscriber) at other idle in
    past-middle before at (same-place (before ++ Idle subscriber ∷ after) distinct (length before) (past before at)
    (Idle subscriber) (Idle other) (idle-there _ _ subscriber here) (idle-there _ _ other there) here there same)
