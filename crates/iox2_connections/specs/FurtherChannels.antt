-- The channels of a connection behind channel 0, as rings of slots.
use Rattle.std.specs.Prelude.{◌≡◌, ℕ, suc, ◌<◌, ◌≤◌, Bool, true, false, List, [], ◌∷◌, ◌++◌, length, map}
use Rattle.std.specs.Prelude.{slice_index_or}
use Rattle.std.specs.List.{All, AllWithin}
use Rattle.iox2_machine.specs.machine.Channel.{Channel, new_channel}
use Rattle.iox2_machine.specs.machine.Mailbox.{ChannelNumber}
use Rattle.iox2_connections.specs.declared.connection.PutOutcome.{PutOutcome}
use Rattle.iox2_connections.specs.declared.connection.PutOutcome.TheVariants.{Taken, Overwrote, Full}
use Rattle.iox2_connections.specs.declared.further_channel.FurtherChannel.{FurtherChannel}

-- With room the slot is the last of the ring. A full ring lets its first slot go for it, or stays as it is.
abbrev pub IsRingPut : (room : ℕ) → (old : List ℕ) → (slot : ℕ) → (overflow : Bool) → PutOutcome → (new : List ℕ)
    → Type 0
IsRingPut room old slot overflow Taken new = (length old < room) × (new ≡ old ++ slot ∷ [])
IsRingPut room old slot overflow (Overwrote oldest) new =
    (overflow ≡ true) × (length old ≡ room) × ((rest : List ℕ) × (old ≡ oldest ∷ rest) × (new ≡ rest ++ slot ∷ []))
IsRingPut room old slot overflow Full new = (overflow ≡ false) × (length old ≡ room) × (new ≡ old)

-- These slots wait in the channel.
abbrev pub tagged : (channel : ℕ) → List ℕ → List ChannelNumber
tagged channel slots = map (λ slot. record { channel = channel; number = slot }) slots

-- What waits in channels with these rings. The first channel has this number.
abbrev pub slots_from : (first : ℕ) → List (List ℕ) → List ChannelNumber
slots_from first [] = []
slots_from first (ring ∷ rings) = tagged first ring ++ slots_from (suc first) rings

-- The slots that wait in each of these channels.
abbrev pub rings : List FurtherChannel → List (List ℕ)
rings channels = map (λ (c : FurtherChannel). c.waiting.items) channels

-- How these channels stand.
abbrev pub statuses : List FurtherChannel → List Channel
statuses channels = map (λ (c : FurtherChannel). c.status) channels

-- A new channel, in which that many slots may wait.
abbrev pub empty_channel : (buffer : ℕ) → FurtherChannel
empty_channel buffer = record { status = new_channel; waiting = record { items = []; capacity = buffer } }

-- That many slots may wait in the channel, and no more do.
pub record HasRoom (buffer : ℕ) (c : FurtherChannel) : Type 0 where
  pub capacity : c.waiting.capacity ≡ buffer
  pub within : length c.waiting.items ≤ buffer

-- That many slots may wait in each of these channels, and no more do.
abbrev pub HaveRoom : (buffer : ℕ) → List FurtherChannel → Type 0
HaveRoom buffer channels = All (HasRoom buffer) channels

-- No slot waits in the ring.
abbrev pub IsUnfilled : List ℕ → Type 0
IsUnfilled ring = ring ≡ []

-- It is the first of these rings in which some slot waits.
pub record IsFirstFilled (index : ℕ) (all : List (List ℕ)) : Type 0 where
  pub below : index < length all
  pub before : AllWithin IsUnfilled all 0 index
  pub filled : 0 < length (slice_index_or all index [])
