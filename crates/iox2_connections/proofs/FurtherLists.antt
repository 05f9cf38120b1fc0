-- What waits in further channels, as one list.
use Rattle.std.proofs.Common.{◌≡◌, ℕ, zero, suc, ◌+◌, ◌<◌, ◌≤◌, Bool, true, false, cond, List, [], ◌∷◌, ◌++◌, length}
use Rattle.std.proofs.Common.{map, get_or, refl, ap, sym, subst, ◌∙◌, append_assoc, arith, eqb, ltb, inl, inr, not}
use Rattle.std.proofs.Common.{Option, None, Some, MatchOption}
use Rattle.std.specs.Option.{is_some}
use Rattle.iox2_machine.specs.machine.Numbers.{is_nil}
use Rattle.std.proofs.Math.ListN.{set}
use Rattle.std.proofs.lemmas.List.{append-nil}
use Rattle.std.proofs.lemmas.List.Elements.{filter-append}
use Rattle.std.proofs.lemmas.Bool.{ne_eqb, eq-eqb, lt-ltb, false_from_ne_true, ltb-true, cases_eq, eqb-true}
use Rattle.std.specs.List.{filter, All, AllWithin}
use Rattle.iox2_machine.specs.machine.Mailbox.{ChannelNumber, numbers_of, with_numbers_of}
use Rattle.iox2_connections.specs.Link.{DropsFirst}
use Rattle.iox2_connections.specs.FurtherChannels.{tagged, slots_from, rings, IsUnfilled, IsFirstFilled}
use Rattle.iox2_connections.specs.declared.further_channel.FurtherChannel.{FurtherChannel}

abbrev Test : Type 0
Test = ChannelNumber → Bool

-- a test that passes each slot of a channel
tagged-pass : (test : Test) (channel : ℕ) → ((n : ℕ) → test (record { channel = channel; number = n }) ≡ true)
    → (xs : List ℕ) → filter test (tagged channel xs) ≡ tagged channel xs
tagged-pass test channel pass [] = refl
tagged-pass test channel pass (x ∷ xs) =
    ap (λ b. cond b (record { channel = channel; number = x } ∷ filter test (tagged channel xs))
    (filter test (tagged channel xs))) (pass x)
    ∙ ap (λ (ms : List ChannelNumber). record { channel = channel; number = x } ∷ ms) (tagged-pass test channel pass xs)

-- a test that passes none of them
tagged-none : (test : Test) (channel : ℕ) → ((n : ℕ) → test (record { channel = channel; number = n }) ≡ false)
    → (xs : List ℕ) → filter test (tagged channel xs) ≡ []
tagged-none test channel none [] = refl
tagged-none test channel none (x ∷ xs) =
    ap (λ b. cond b (record { channel = channel; number = x } ∷ filter test (tagged channel xs))
    (filter test (tagged channel xs))) (none x)
    ∙ tagged-none test channel none xs

-- the same of all channels from a number on
pub all-pass : (test : Test) (first : ℕ) (rs : List (List ℕ))
    → ((channel n : ℕ) → first ≤ channel → channel < first + length rs
    → test (record { channel = channel; number = n }) ≡ true)
    → filter test (slots_from first rs) ≡ slots_from first rs
all-pass test first [] pass = refl
all-pass test first (r ∷ rs) pass =
    filter-append test (tagged first r) (slots_from (suc first) rs)
    ∙ ap (λ (ms : List ChannelNumber). ms ++ filter test (slots_from (suc first) rs))
    (tagged-pass test first (λ n. pass first n (omega arith) (omega arith)) r)
    ∙ ap (λ (ms : List ChannelNumber). tagged first r ++ ms)
    (all-pass test (suc first) rs (λ channel n from below. pass channel n (omega (arith, from)) (omega (arith, below))))

pub all-none : (test : Test) (first : ℕ) (rs : List (List ℕ))
    → ((channel n : ℕ) → first ≤ channel → channel < first + length rs
    → test (record { channel = channel; number = n }) ≡ false)
    → filter test (slots_from first rs) ≡ []
all-none test first [] none = refl
all-none test first (r ∷ rs) none =
    filter-append test (tagged first r) (slots_from (suc first) rs)
    ∙ ap (λ (ms : List ChannelNumber). ms ++ filter test (slots_from (suc first) rs))
    (tagged-none test first (λ n. none first n (omega arith) (omega arith)) r)
    ∙ all-none test (suc first) rs (λ channel n from below. none channel n (omega (arith, from)) (omega (arith, below)))

abbrev in_channel : (channel : ℕ) → Test
in_channel channel m = eqb m.channel channel

abbrev below : (channel : ℕ) → Test
below channel m = ltb m.channel channel

abbrev above : (channel : ℕ) → Test
above channel m = ltb channel m.channel

not-below : (a b : ℕ) → b ≤ a → ltb a b ≡ false
not-below a b le = false_from_ne_true (ltb a b) (λ h. absurd (omega (arith, ltb-true a b h, le)))

numbers-tagged : (channel : ℕ) (xs : List ℕ) → map (λ (m : ChannelNumber). m.number) (tagged channel xs) ≡ xs
numbers-tagged channel [] = refl
numbers-tagged channel (x ∷ xs) = ap (λ (ys : List ℕ). x ∷ ys) (numbers-tagged channel xs)

-- a part of the first channel's slots and of what waits behind it
module _ (test : Test) (first : ℕ) (r : List ℕ) (rs : List (List ℕ)) where
  first-passes : ((n : ℕ) → test (record { channel = first; number = n }) ≡ true)
      → filter test (slots_from first (r ∷ rs)) ≡ tagged first r ++ filter test (slots_from (suc first) rs)
  first-passes pass = filter-append test (tagged first r) (slots_from (suc first) rs)
      ∙ ap (λ (ms : List ChannelNumber). ms ++ filter test (slots_from (suc first) rs)) (tagged-pass test first pass r)

  first-fails : ((n : ℕ) → test (record { channel = first; number = n }) ≡ false)
      → filter test (slots_from first (r ∷ rs)) ≡ filter test (slots_from (suc first) rs)
  first-fails none = filter-append test (tagged first r) (slots_from (suc first) rs)
      ∙ ap (λ (ms : List ChannelNumber). ms ++ filter test (slots_from (suc first) rs)) (tagged-none test first none r)

-- a ring that changes is a change of its channel
pub ring-changed : (rs : List (List ℕ)) (first k channel : ℕ) (new : List ℕ) → channel ≡ first + k → k < length rs
    → slots_from first (set rs k new) ≡ with_numbers_of channel new (slots_from first rs)
ring-changed [] first k channel new is low = absurd (omega (arith, low))
ring-changed (r ∷ rs) first zero channel new is low =
    subst (λ c. tagged first new ++ slots_from (suc first) rs ≡ with_numbers_of c new (slots_from first (r ∷ rs)))
    (let e : first ≡ channel = omega (arith, is) in e)
    (sym (ap (λ (ms : List ChannelNumber). ms ++ (tagged first new ++ filter (above first) (slots_from first (r ∷ rs))))
    no_lower
    ∙ ap (λ (ms : List ChannelNumber). tagged first new ++ ms) all_higher))
  where
    no_lower : filter (below first) (slots_from first (r ∷ rs)) ≡ []
    no_lower = all-none (below first) first (r ∷ rs) (λ c n from to. not-below c first from)

    all_higher : filter (above first) (slots_from first (r ∷ rs)) ≡ slots_from (suc first) rs
    all_higher = first-fails (above first) first r rs (λ n. not-below first first (omega arith))
        ∙ all-pass (above first) (suc first) rs (λ c n from to. lt-ltb first c (omega (arith, from)))
ring-changed (r ∷ rs) first (suc k) channel new is low =
    ap (λ (ms : List ChannelNumber). tagged first r ++ ms)
    (ring-changed rs (suc first) k channel new (omega (arith, is)) (omega (arith, low)))
    ∙ sym (ap (λ (ms : List ChannelNumber).
    ms ++ (tagged channel new ++ filter (above channel) (slots_from first (r ∷ rs)))) lower
    ∙ append_assoc (tagged first r) (filter (below channel) (slots_from (suc first) rs))
    (tagged channel new ++ filter (above channel) (slots_from first (r ∷ rs)))
    ∙ ap (λ (ms : List ChannelNumber).
    tagged first r ++ (filter (below channel) (slots_from (suc first) rs) ++ (tagged channel new ++ ms))) higher)
  where
    lower : filter (below channel) (slots_from first (r ∷ rs)) ≡ tagged first r ++ filter (below channel)
        (slots_from (suc first) rs)
    lower = first-passes (below channel) first r rs (λ n. lt-ltb first channel (omega (arith, is)))

    higher : filter (above channel) (slots_from first (r ∷ rs)) ≡ filter (above channel) (slots_from (suc first) rs)
    higher = first-fails (above channel) first r rs (λ n. not-below channel first (omega (arith, is)))

-- what waits in a channel is in its ring
pub ring-numbers : (rs : List (List ℕ)) (first k channel : ℕ) → channel ≡ first + k
    → numbers_of channel (slots_from first rs) ≡ get_or rs k []
ring-numbers [] first k channel is = refl
ring-numbers (r ∷ rs) first zero channel is =
    ap (map (λ (m : ChannelNumber). m.number))
    (first-passes (in_channel channel) first r rs (λ n. eq-eqb first channel (omega (arith, is)))
    ∙ ap (λ (ms : List ChannelNumber). tagged first r ++ ms)
    (all-none (in_channel channel) (suc first) rs
    (λ c n from to. ne_eqb c channel (λ same. absurd (omega (arith, from, same, is)))))
    ∙ append-nil (tagged first r))
    ∙ numbers-tagged first r
ring-numbers (r ∷ rs) first (suc k) channel is =
    ap (map (λ (m : ChannelNumber). m.number)) (first-fails (in_channel channel) first r rs
    (λ n. ne_eqb first channel (λ same. absurd (omega (arith, same, is)))))
    ∙ ring-numbers rs (suc first) k channel (omega (arith, is))

-- nothing waits in channel numbers below the first
pub none-lower : (rs : List (List ℕ)) (first channel : ℕ) → channel < first
    → numbers_of channel (slots_from first rs) ≡ []
none-lower rs first channel low = ap (map (λ (m : ChannelNumber). m.number))
    (all-none (in_channel channel) first rs
    (λ c n from to. ne_eqb c channel (λ same. absurd (omega (arith, low, from, same)))))

-- ---- the first slot

-- where each ring is empty nothing waits
pub unfilled : (rs : List (List ℕ)) (first : ℕ) → All IsUnfilled rs → slots_from first rs ≡ []
unfilled [] first none = refl
unfilled (r ∷ rs) first none =
    ap (λ (ring : List ℕ). tagged first ring ++ slots_from (suc first) rs) (none zero [] (omega arith))
    ∙ unfilled rs (suc first) (λ k d low. none (suc k) d (omega (arith, low)))

-- the first slot of the first ring that isn't empty is the first of all
pub first-drop : (rs : List (List ℕ)) (first index slot : ℕ) (rest : List ℕ) → AllWithin IsUnfilled rs 0 index
    → index < length rs → get_or rs index [] ≡ slot ∷ rest
    → DropsFirst (slots_from first rs) (Some slot) (slots_from first (set rs index rest))
first-drop [] first index slot rest before low at = absurd (omega (arith, low))
first-drop (r ∷ rs) first zero slot rest before low at =
    (first, ap (λ (ring : List ℕ). tagged first ring ++ slots_from (suc first) rs) at)
first-drop (r ∷ rs) first (suc index) slot rest before low at =
    let none : r ≡ [] = before zero [] (omega arith) (omega arith) in
    let later = first-drop rs (suc first) index slot rest
    (λ k d from below. before (suc k) d (omega arith) (omega (arith, below))) (omega (arith, low)) at in (
      later.0,
      ap (λ (ring : List ℕ). tagged first ring ++ slots_from (suc first) rs) none ∙ later.1
          ∙ sym
          (ap (λ (ring : List ℕ). let all : List ChannelNumber = record { channel = later.0; number = slot }
          ∷ (tagged first ring ++ slots_from (suc first) (set rs index rest)) in all) none),
    )

-- a ring that isn't empty has a first slot
pub first-slot : (ring : List ℕ) → 0 < length ring → (slot : ℕ) × (rest : List ℕ) × (ring ≡ slot ∷ rest)
first-slot [] some = absurd (omega (arith, some))
first-slot (slot ∷ rest) some = (slot, rest, refl)

-- where some ring isn't empty some slot waits
pub filled-load : (rs : List (List ℕ)) (first index : ℕ) → IsFirstFilled index rs → 0 < length (slots_from first rs)
filled-load rs first index is =
    let there = first-slot (get_or rs index []) is.filled in
    let all = first-drop rs first index there.0 there.1 is.before is.below there.2 in
    subst (λ (ms : List ChannelNumber). 0 < length ms) (sym all.1) (omega arith)

-- whether some slot waits
pub filled-or-not : (rs : List (List ℕ)) (first : ℕ) (o : Option ℕ)
    → MatchOption o (All IsUnfilled rs) (λ index. IsFirstFilled index rs)
    → not (is_nil (map (λ (m : ChannelNumber). m.number) (slots_from first rs))) ≡ is_some o
filled-or-not rs first None none =
    ap (λ (ms : List ChannelNumber). not (is_nil (map (λ (m : ChannelNumber). m.number) ms))) (unfilled rs first none)
filled-or-not rs first (Some index) is = by (slots_from first rs) (filled-load rs first index is) where
  by : (ms : List ChannelNumber) → 0 < length ms → not (is_nil (map (λ (m : ChannelNumber). m.number) ms)) ≡ true
  by [] some = absurd (omega (arith, some))
  by (m ∷ ms) some = refl

-- ---- channels and their rings

-- the ring of a channel
pub ring-at : (channels : List FurtherChannel) (k : ℕ) (c : FurtherChannel) (d : List ℕ) → k < length channels
    → c ≡ get_or channels k c → get_or (rings channels) k d ≡ c.waiting.items
ring-at [] k c d low is = absurd (omega (arith, low))
ring-at (x ∷ channels) zero c d low is = ap (λ (y : FurtherChannel). y.waiting.items) (sym is)
ring-at (x ∷ channels) (suc k) c d low is = ring-at channels k c d (omega (arith, low)) is

-- a ring that says so is empty
pub nothing-in : (ring : List ℕ) → eqb (length ring) 0 ≡ true → ring ≡ []
nothing-in [] none = refl
nothing-in (x ∷ ring) none = absurd (omega (arith, eqb-true (length (x ∷ ring)) 0 none))

-- nothing waits in one channel more
pub one-more-unfilled : (channels : List FurtherChannel) (index : ℕ) (c : FurtherChannel) → index < length channels
    → c ≡ get_or channels index c → c.waiting.items ≡ []
    → AllWithin IsUnfilled (rings channels) 0 index → AllWithin IsUnfilled (rings channels) 0 (index + 1)
one-more-unfilled channels index c low is none before k d from below = elim (cases_eq k index) [
  | inl same ↦ ap (λ (j : ℕ). get_or (rings channels) j d) same ∙ ring-at channels index c d low is ∙ none
  | inr away ↦ before k d from (omega (arith, below, away))
]
