-- A change of a further channel, seen from the connection.
use Rattle.std.proofs.Common.{◌≡◌, ◌≢◌, ℕ, zero, suc, ◌-◌, ◌<◌, ◌≤◌, Bool, true, false, List, [], ◌∷◌, ◌++◌, length}
use Rattle.std.proofs.Common.{replicate, drop, get_or, refl, ap, sym, subst, ◌∙◌, arith, inl, inr, Option, Some}
use Rattle.std.proofs.Math.ListN.{set}
use Rattle.std.proofs.Math.Seq.{map-set_same}
use Rattle.std.proofs.lemmas.List.{length-append, length-drop, length-map, map-set, get_or_past, get_or-map}
use Rattle.std.proofs.lemmas.List.Elements.{All-set}
use Rattle.std.proofs.lemmas.Bool.{cases_lt, lt-ltb}
use Rattle.std.specs.Vec.{with_item}
use Rattle.circular_buffer.specs.Buffer.{Buffer, buffer as buffer_of}
use Rattle.std.specs.Prelude.{slice_get}
use Rattle.iox2_machine.specs.machine.Channel.{Channel, new_channel, is_closed}
use Rattle.iox2_machine.specs.machine.Mailbox.{numbers_of, with_numbers_of, other_room}
use Rattle.iox2_connections.specs.Link.{Link, IsPut, IsOtherDropped, DropsFirst, channel_at, changed_in}
use Rattle.iox2_connections.specs.Link.{channels_changed, having_channels}
use Rattle.iox2_connections.specs.LinkFields.{link_of, IsConnection}
use Rattle.iox2_connections.specs.FurtherChannels.{slots_from, rings, statuses, empty_channel, HasRoom, HaveRoom}
use Rattle.iox2_connections.specs.FurtherChannels.{IsRingPut, IsFirstFilled}
use Rattle.iox2_connections.specs.declared.connection.Connection.TheInside.{Inside}
use Rattle.iox2_connections.specs.declared.connection.PutOutcome.{PutOutcome}
use Rattle.iox2_connections.specs.declared.connection.PutOutcome.TheVariants.{Taken, Overwrote, Full}
use Rattle.iox2_connections.specs.declared.further_channel.FurtherChannel.{FurtherChannel}
use Rattle.iox2_connections.proofs.ChannelLists.{further-changed}
use Rattle.iox2_connections.proofs.FurtherLists.{ring-changed, ring-numbers, ring-at, none-lower, first-drop}
use Rattle.iox2_connections.proofs.FurtherLists.{first-slot}

-- no more slots wait in a further channel than may
pub others-bounded : (buffer : ℕ) (channels : List FurtherChannel) → HaveRoom buffer channels → (channel : ℕ)
    → length (numbers_of channel (slots_from 1 (rings channels))) ≤ other_room
    (suc (length (statuses channels))) buffer channel
others-bounded buffer channels room zero =
    omega (arith, ap (length {A = ℕ}) (none-lower (rings channels) 1 zero (omega arith)))
others-bounded buffer channels room (suc k) =
    let waits : numbers_of (suc k) (slots_from 1 (rings channels)) ≡ get_or (rings channels) k [] =
    ring-numbers (rings channels) 1 k (suc k) (omega arith) in
    elim (cases_lt k (length channels)) [
      | inl low ↦
          let within : length (get_or channels k none).waiting.items ≤ buffer = (room k none low).within in
          let all : suc k < suc (length (statuses channels)) =
          omega (arith, length-map channels (λ (x : FurtherChannel). x.status), low) in
          rw (
            waits,
            get_or-map (λ (x : FurtherChannel). x.waiting.items) channels k none [] low,
            lt-ltb (suc k) (suc (length (statuses channels))) all,
          ) within
      | inr past ↦ rw (
        waits,
        get_or_past (rings channels) k []
            (omega (arith, length-map channels (λ (x : FurtherChannel). x.waiting.items), past)),
      ) (omega arith)
    ]
  where
    none : FurtherChannel
    none = record { status = new_channel; waiting = record { items = []; capacity = 0 } }

-- a channel that stands there has room
pub room-at : (buffer : ℕ) (channels : List FurtherChannel) (k : ℕ) (c : FurtherChannel) → HaveRoom buffer channels
    → k < length channels → c ≡ get_or channels k c → HasRoom buffer c
room-at buffer channels k c room low is = subst (HasRoom buffer) (sym is) (room k c low)

-- a connection is one with another further channel
pub further-is : (a : Inside) (k : ℕ) (c : FurtherChannel) → IsConnection a → HasRoom a.waiting.capacity c
    → IsConnection (record a { further = with_item a.further k c })
further-is a k c was room =
    let all : HaveRoom a.waiting.capacity (set a.further.items k c) =
    All-set (HasRoom a.waiting.capacity) a.further.items k c room was.further_room in
    record {
      bounded = record {
        some_room = was.bounded.some_room;
        waiting = was.bounded.waiting;
        others = others-bounded a.waiting.capacity (set a.further.items k c) all;
        borrowed = was.bounded.borrowed;
        together = was.bounded.together;
        fits = was.bounded.fits;
        marked = was.bounded.marked;
      };
      return_room = was.return_room;
      further_room = all;
    }

module _ (a : Inside) (k : ℕ) (c : FurtherChannel) (low : k < length a.further.items)
    (is : c ≡ get_or a.further.items k c) where
  -- the rings of channels of which one stands otherwise
  same-rings : (new : FurtherChannel) → new.waiting.items ≡ c.waiting.items
      → rings (set a.further.items k new) ≡ rings a.further.items
  same-rings new same = map-set_same (λ (x : FurtherChannel). x.waiting.items) a.further.items k new c
      (same ∙ ap (λ (x : FurtherChannel). x.waiting.items) is)

  -- how channels stand of which one has another ring
  same-statuses : (new : FurtherChannel) → new.status ≡ c.status
      → statuses (set a.further.items k new) ≡ statuses a.further.items
  same-statuses new same = map-set_same (λ (x : FurtherChannel). x.status) a.further.items k new c
      (same ∙ ap (λ (x : FurtherChannel). x.status) is)

  -- what waits there
  pub waits-there : numbers_of (suc k) (slots_from 1 (rings a.further.items)) ≡ c.waiting.items
  waits-there = ring-numbers (rings a.further.items) 1 k (suc k) (omega arith) ∙ ring-at a.further.items k c [] low is

  -- another ring
  pub ring-replaced : (ring : Buffer ℕ)
      → link_of (record a { further = with_item a.further k (record { status = c.status; waiting = ring }) })
      ≡ record (link_of a) { others = with_numbers_of (suc k) ring.items (slots_from 1 (rings a.further.items)) }
  ring-replaced ring = λ i. record (link_of a)
      { channels = a.status ∷ same-statuses (record { status = c.status; waiting = ring }) refl i; others = others i }
    where
      others : slots_from 1 (rings (set a.further.items k (record { status = c.status; waiting = ring })))
          ≡ with_numbers_of (suc k) ring.items (slots_from 1 (rings a.further.items))
      others = ap (slots_from 1) (map-set (λ (x : FurtherChannel). x.waiting.items) a.further.items k
          (record { status = c.status; waiting = ring }))
          ∙ ring-changed (rings a.further.items) 1 k (suc k) ring.items (omega arith)
          (omega (arith, low, length-map a.further.items (λ (x : FurtherChannel). x.waiting.items)))

  ring-kept : (ring : Buffer ℕ) → ring.items ≡ c.waiting.items → link_of
      (record a { further = with_item a.further k (record { status = c.status; waiting = ring }) }) ≡ link_of a
  ring-kept ring same = λ i. record (link_of a) {
    channels = a.status ∷ same-statuses (record { status = c.status; waiting = ring }) refl i;
    others = slots_from 1 (same-rings (record { status = c.status; waiting = ring }) same i);
  }

  -- a put into the ring is one into the channel
  pub ring-put : (slot : ℕ) (overflow : Bool) (o : PutOutcome) (ring : Buffer ℕ)
      → c.waiting.capacity ≡ a.waiting.capacity
      → IsRingPut c.waiting.capacity c.waiting.items slot overflow o ring.items
      → IsPut (suc k) (link_of a) slot overflow o
      (link_of (record a { further = with_item a.further k (record { status = c.status; waiting = ring }) }))
  ring-put slot overflow Taken ring room put = (
    rw waits-there (omega (arith, put.0, room)),
    ring-replaced ring
        ∙ ap (λ (slots : List ℕ). let d : Link = record (link_of a)
        { others = with_numbers_of (suc k) slots (slots_from 1 (rings a.further.items)) } in d)
        (put.1 ∙ ap (λ (slots : List ℕ). slots ++ slot ∷ []) (sym waits-there)),
  )
  ring-put slot overflow (Overwrote oldest) ring room put = (
    put.0,
    ap (length {A = ℕ}) waits-there ∙ put.1 ∙ room,
    (
      put.2.0,
      waits-there ∙ put.2.1,
      ring-replaced ring
          ∙ ap (λ (slots : List ℕ). let d : Link = record (link_of a)
          { others = with_numbers_of (suc k) slots (slots_from 1 (rings a.further.items)) } in d) put.2.2,
    ),
  )
  ring-put slot overflow Full ring room put =
      (put.0, ap (length {A = ℕ}) waits-there ∙ put.1 ∙ room, ring-kept ring put.2)

  -- another state or hint
  pub status-changed : (expected : ℕ) (change : Channel → Channel) → (a.is_open ≡ true → is_closed a.status ≡ false)
      → link_of
      (record a {
        further = with_item a.further k
            (record { status = changed_in expected change c.status; waiting = c.waiting });
      }) ≡ having_channels (channels_changed (suc k) expected change (link_of a).channels) (link_of a)
  status-changed expected change marked =
      (λ i. record (link_of a) { channels = a.status ∷ others i; others = slots_from 1 (same-rings new refl i) })
      ∙ sym (further-changed (link_of a) a.status (statuses a.further.items) (suc k) expected change refl marked
      (λ none. absurd (omega (arith, none))) ∙ rw pred refl)
    where
      new : FurtherChannel
      new = record { status = changed_in expected change c.status; waiting = c.waiting }

      pred : suc k - 1 ≡ k
      pred = omega arith

      status-at : channel_at (statuses a.further.items) k ≡ c.status
      status-at = at a.further.items k low is where
        at : (xs : List FurtherChannel) (i : ℕ) → i < length xs → c ≡ get_or xs i c
            → channel_at (statuses xs) i ≡ c.status
        at [] i below there = absurd (omega (arith, below))
        at (x ∷ xs) zero below there = ap (λ (y : FurtherChannel). y.status) (sym there)
        at (x ∷ xs) (suc i) below there = at xs i (omega (arith, below)) there

      others : statuses (set a.further.items k new) ≡ channels_changed k expected change (statuses a.further.items)
      others = map-set (λ (x : FurtherChannel). x.status) a.further.items k new
          ∙ ap (λ (x : Channel). set (statuses a.further.items) k (changed_in expected change x)) (sym status-at)

  -- the first slot of the first ring that isn't empty goes
  pub ring-dropped : (slot : Option ℕ) (ring : Buffer ℕ) (rest : List ℕ) (first : ℕ)
      → IsFirstFilled k (rings a.further.items) → c.waiting.items ≡ first ∷ rest → slot ≡ Some first → ring.items ≡ rest
      → IsOtherDropped (link_of a) slot
      (link_of (record a { further = with_item a.further k (record { status = c.status; waiting = ring }) }))
  ring-dropped slot ring rest first is_first at goes left =
      rw goes (
        drops,
        λ i. record (link_of a) {
          channels = a.status ∷ same-statuses new refl i;
          others = slots_from 1 (rings (set a.further.items k new));
        },
      )
    where
      new : FurtherChannel
      new = record { status = c.status; waiting = ring }

      drops : DropsFirst (slots_from 1 (rings a.further.items)) (Some first)
          (slots_from 1 (rings (set a.further.items k new)))
      drops = subst
          (λ (rs : List (List ℕ)). DropsFirst (slots_from 1 (rings a.further.items)) (Some first) (slots_from 1 rs))
          (sym (map-set (λ (x : FurtherChannel). x.waiting.items) a.further.items k new
          ∙ ap (set (rings a.further.items) k) left))
          (first-drop (rings a.further.items) 1 k first rest is_first.before is_first.below
          (ring-at a.further.items k c [] low is ∙ at))

-- the same of a channel with this number, which isn't 0
pub status-changed-at : (a : Inside) (number : ℕ) (c : FurtherChannel) → number ≢ 0
    → number - 1 < length a.further.items → c ≡ get_or a.further.items (number - 1) c
    → (expected : ℕ) (change : Channel → Channel) → (a.is_open ≡ true → is_closed a.status ≡ false)
    → link_of
    (record a {
      further = with_item a.further (number - 1)
          (record { status = changed_in expected change c.status; waiting = c.waiting });
    }) ≡ having_channels (channels_changed number expected change (link_of a).channels) (link_of a)
status-changed-at a zero c some low is expected change marked = absurd (some refl)
status-changed-at a (suc k) c some low is expected change marked =
    let pred : suc k - 1 ≡ k = omega arith in
    subst
    (λ n.
    link_of
    (record a {
      further = with_item a.further n
          (record { status = changed_in expected change c.status; waiting = c.waiting });
    }) ≡ having_channels (channels_changed (suc k) expected change (link_of a).channels) (link_of a))
    (sym pred) (status-changed a k c (omega (arith, low))
    (is ∙ ap (λ n. get_or a.further.items n c) pred) expected change marked)

pub ring-put-at : (a : Inside) (number : ℕ) (c : FurtherChannel) → number ≢ 0 → number - 1 < length a.further.items
    → c ≡ get_or a.further.items (number - 1) c
    → (slot : ℕ) (overflow : Bool) (o : PutOutcome) (ring : Buffer ℕ) → c.waiting.capacity ≡ a.waiting.capacity
    → IsRingPut c.waiting.capacity c.waiting.items slot overflow o ring.items
    → IsPut number (link_of a) slot overflow o (link_of
    (record a { further = with_item a.further (number - 1) (record { status = c.status; waiting = ring }) }))
ring-put-at a zero c some low is slot overflow o ring room put = absurd (some refl)
ring-put-at a (suc k) c some low is slot overflow o ring room put =
    let pred : suc k - 1 ≡ k = omega arith in
    subst (λ n. IsPut (suc k) (link_of a) slot overflow o
    (link_of (record a { further = with_item a.further n (record { status = c.status; waiting = ring }) })))
    (sym pred) (ring-put a k c (omega (arith, low))
    (is ∙ ap (λ n. get_or a.further.items n c) pred) slot overflow o ring room put)

-- a ring with room for its slots has room for them after a put
pub put-within : (room : ℕ) (old : List ℕ) (slot : ℕ) (overflow : Bool) (o : PutOutcome) (new : List ℕ)
    → length old ≤ room → IsRingPut room old slot overflow o new → length new ≤ room
put-within room old slot overflow Taken new within put =
    rw (put.1, length-append old (slot ∷ [])) (omega (arith, put.0))
put-within room old slot overflow (Overwrote oldest) new within put =
    let shorter : length old ≡ suc (length put.2.0) = ap (length {A = ℕ}) put.2.1 in
    rw (put.2.2, length-append put.2.0 (slot ∷ [])) (omega (arith, shorter, within))
put-within room old slot overflow Full new within put = rw put.2 within

-- a channel behind channel 0 stands among the further ones
pub further-there : (a : Inside) (c : Link) (number : ℕ) → link_of a ≡ c → number ≢ 0
    → (0 < number → number < length c.channels) → number - 1 < length a.further.items
further-there a c number is some low =
    let all : length c.channels ≡ suc (length a.further.items) = ap (λ (d : Link). length d.channels) (sym is)
    ∙ ap suc (length-map a.further.items (λ (x : FurtherChannel). x.status)) in
    omega (arith, all, low (omega (arith, some)), some)

-- where the ring is put into, the channel keeps its room
pub put-room : (buffer : ℕ) (c : FurtherChannel) (slot : ℕ) (overflow : Bool) (o : PutOutcome) (ring : Buffer ℕ)
    → HasRoom buffer c → IsRingPut c.waiting.capacity c.waiting.items slot overflow o ring.items
    → ring.capacity ≡ c.waiting.capacity
    → HasRoom buffer (record { status = c.status; waiting = ring })
put-room buffer c slot overflow o ring room put capacity = record {
  capacity = capacity ∙ room.capacity;
  within = omega (
    arith,
    put-within c.waiting.capacity c.waiting.items slot overflow o ring.items
        (omega (arith, room.within, room.capacity)) put,
    room.capacity,
  );
}

-- the first channel in which some slot waits stands there
pub filled-there : (index : ℕ) (channels : List FurtherChannel) → IsFirstFilled index (rings channels)
    → index < length channels
filled-there index channels found =
    omega (arith, found.below, length-map channels (λ (x : FurtherChannel). x.waiting.items))

-- a channel that lost its first slot keeps its room
pub popped-room : (buffer : ℕ) (c : FurtherChannel) (ring : Buffer ℕ) → HasRoom buffer c
    → ring ≡ buffer_of (drop 1 c.waiting.items) c.waiting.capacity
    → HasRoom buffer (record { status = c.status; waiting = ring })
popped-room buffer c ring room left = record {
  capacity = ap (λ (b : Buffer ℕ). b.capacity) left ∙ room.capacity;
  within = rw left (omega (arith, length-drop 1 c.waiting.items, room.within));
}

-- the first slot that is popped from the first ring that isn't empty
pub ring-popped : (a : Inside) (k : ℕ) (c : FurtherChannel) (ring : Buffer ℕ) (o : Option ℕ)
    → IsFirstFilled k (rings a.further.items) → c ≡ get_or a.further.items k c
    → o ≡ slice_get c.waiting.items 0 → ring ≡ buffer_of (drop 1 c.waiting.items) c.waiting.capacity
    → IsOtherDropped (link_of a) o
    (link_of (record a { further = with_item a.further k (record { status = c.status; waiting = ring }) }))
ring-popped a k c ring o found is popped left =
    let low : k < length a.further.items = filled-there k a.further.items found in
    let own : get_or (rings a.further.items) k [] ≡ c.waiting.items = ring-at a.further.items k c [] low is in
    let some = first-slot c.waiting.items (subst (λ (xs : List ℕ). 0 < length xs) own found.filled) in
    ring-dropped a k c low is o ring some.1 some.0 found some.2 (popped ∙ ap (λ (xs : List ℕ). slice_get xs 0) some.2)
    (ap (λ (b : Buffer ℕ). b.items) left ∙ ap (drop 1) some.2)

-- ---- all further channels are new

pub new-statuses : (buffer count : ℕ) → statuses (replicate count (empty_channel buffer)) ≡ replicate count new_channel
new-statuses buffer zero = refl
new-statuses buffer (suc count) = ap (λ (channels : List Channel). new_channel ∷ channels) (new-statuses buffer count)

pub new-slots : (buffer count first : ℕ) → slots_from first (rings (replicate count (empty_channel buffer))) ≡ []
new-slots buffer zero first = refl
new-slots buffer (suc count) first = new-slots buffer count (suc first)

pub new-room : (buffer count : ℕ) → HaveRoom buffer (replicate count (empty_channel buffer))
new-room buffer zero k d low = absurd (omega (arith, low))
new-room buffer (suc count) zero d low = record { capacity = refl; within = omega arith }
new-room buffer (suc count) (suc k) d low = new-room buffer count k d (omega (arith, low))
