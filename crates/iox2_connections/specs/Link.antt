-- What a contract sees of a connection: the slots between one publisher and one subscriber.
use Rattle.std.specs.Prelude.{◌≡◌, ℕ, zero, suc, ◌+◌, ◌<◌, ◌≤◌, ◌^◌, Bool, true, false, not, ◌&&◌, List, [], ◌∷◌, ◌++◌}
use Rattle.std.specs.Prelude.{length, map, if◌then◌else◌, nat_lt, replicate, slice_index_or, slice_set}
use Rattle.std.specs.declared.option.Option.{Option}
use Rattle.std.specs.declared.option.Option.TheVariants.{None, Some}
use Rattle.iox2_machine.specs.machine.Numbers.{is_nil, without}
use Rattle.iox2_machine.specs.machine.Channel.{Channel, new_channel, is_in_state, is_closed, with_state, with_hint}
use Rattle.iox2_machine.specs.machine.Mailbox.{ChannelNumber, numbers_of, with_numbers_of, other_room}
use Rattle.iox2_connections.specs.declared.connection.Home.{Home}
use Rattle.iox2_connections.specs.declared.connection.PutOutcome.{PutOutcome}
use Rattle.iox2_connections.specs.declared.connection.PutOutcome.TheVariants.{Taken, Overwrote, Full}

-- The slots of one publisher that wait for one subscriber, that it has borrowed, and that it has given back.
pub record Link : Type 0 where
  pub home : Home
  pub buffer : ℕ  -- how many slots may wait
  pub limit : ℕ  -- how many slots may be borrowed
  pub is_open : Bool  -- whether it is marked as open
  pub channels : List Channel  -- the state and the hint of each, by number
  pub waiting : List ℕ  -- in channel 0: delivered and not yet received, oldest first
  pub borrowed : List ℕ  -- received and not yet released, in the order of receipt
  pub returned : List ℕ  -- released and not yet reclaimed, oldest first
  -- the slots that wait in the other channels, by rising channel, and in each oldest first
  pub others : List ChannelNumber

-- A new connection with that many channels: no slot stands in it, its channels are open, and it isn't marked as open.
abbrev pub empty_link : Home → (buffer limit count : ℕ) → Link
empty_link home buffer limit count = record {
  home = home;
  buffer = buffer;
  limit = limit;
  is_open = false;
  channels = replicate count new_channel;
  waiting = [];
  borrowed = [];
  returned = [];
  others = [];
}

-- ---- reading

-- How many slots stand in the connection.
abbrev pub load : Link → ℕ
load c = length c.waiting + length c.borrowed + length c.returned + length c.others

-- The slots that wait in the channels other than 0.
abbrev pub other_slots : Link → List ℕ
other_slots c = map (λ (m : ChannelNumber). m.number) c.others

-- The slots that wait in a channel, oldest first.
abbrev pub slots_in : (channel : ℕ) → Link → List ℕ
slots_in zero c = c.waiting
slots_in (suc k) c = numbers_of (suc k) c.others

-- Some slot waits for the subscriber, which receives from channel 0 alone.
abbrev pub has_slots : Link → Bool
has_slots c = not (is_nil c.waiting)

-- Some slot waits in a channel other than 0.
abbrev pub has_other_slots : Link → Bool
has_other_slots c = not (is_nil (other_slots c))

-- Some slot is borrowed.
abbrev pub has_borrowed_slots : Link → Bool
has_borrowed_slots c = not (is_nil c.borrowed)

-- Some slot was given back and isn't reclaimed yet.
abbrev pub has_returned_slots : Link → Bool
has_returned_slots c = not (is_nil c.returned)

-- Some slot waits, and fewer than the limit are borrowed.
abbrev pub can_borrow : Link → Bool
can_borrow c = has_slots c && nat_lt (length c.borrowed) c.limit

-- The channel with that number, or a new one where there is none.
abbrev pub channel_at : List Channel → (number : ℕ) → Channel
channel_at channels number = slice_index_or channels number new_channel

-- The channel with that number is closed: it takes no slot.
abbrev pub is_shut_in : (channel : ℕ) → Link → Bool
is_shut_in channel c = is_closed (channel_at c.channels channel)

-- Channel 0, to which messages go, is closed.
abbrev pub is_shut : Link → Bool
is_shut c = is_shut_in 0 c

-- ---- changing

-- In the channel these slots wait, and no others.
abbrev pub with_slots_in : (channel : ℕ) → List ℕ → Link → Link
with_slots_in zero slots c = record c { waiting = slots }
with_slots_in (suc k) slots c = record c { others = with_numbers_of (suc k) slots c.others }

-- With room the slot waits as the last in the channel. A full one lets its oldest slot go for it, or stays as it is.
abbrev pub IsPut : (channel : ℕ) → Link → (slot : ℕ) → (overflow : Bool) → PutOutcome → Link → Type 0
IsPut channel old slot overflow Taken new =
    (length (slots_in channel old) < old.buffer) × (new ≡ with_slots_in channel (slots_in channel old ++ slot ∷ []) old)
IsPut channel old slot overflow (Overwrote oldest) new =
    (overflow ≡ true) × (length (slots_in channel old) ≡ old.buffer)
    × ((rest : List ℕ) × (slots_in channel old ≡ oldest ∷ rest) × (new ≡ with_slots_in channel (rest ++ slot ∷ []) old))
IsPut channel old slot overflow Full new =
    (overflow ≡ false) × (length (slots_in channel old) ≡ old.buffer) × (new ≡ old)

-- The first slot that waits in channel 0 becomes borrowed, if there is one.
abbrev pub IsTaken : Link → Option ℕ → Link → Type 0
IsTaken old None new = (old.waiting ≡ []) × (new ≡ old)
IsTaken old (Some slot) new =
    (rest : List ℕ) × (old.waiting ≡ slot ∷ rest)
    × (new ≡ record old { waiting = rest; borrowed = old.borrowed ++ slot ∷ [] })

-- The first slot that waits in channel 0 goes, if there is one.
abbrev pub IsDropped : Link → Option ℕ → Link → Type 0
IsDropped old None new = (old.waiting ≡ []) × (new ≡ old)
IsDropped old (Some slot) new = (rest : List ℕ) × (old.waiting ≡ slot ∷ rest) × (new ≡ record old { waiting = rest })

-- The first of the slots that wait in these channels goes, if there is one.
abbrev pub DropsFirst : List ChannelNumber → Option ℕ → List ChannelNumber → Type 0
DropsFirst old None new = (old ≡ []) × (new ≡ old)
DropsFirst old (Some slot) new = (channel : ℕ) × (old ≡ record { channel = channel; number = slot } ∷ new)

-- The first slot that waits in the channels other than 0 goes, if there is one.
abbrev pub IsOtherDropped : Link → Option ℕ → Link → Type 0
IsOtherDropped old slot new = DropsFirst old.others slot new.others × (new ≡ record old { others = new.others })

-- Only what is borrowed stands in the connection.
abbrev pub borrowed_alone : Link → Link
borrowed_alone c = record c { waiting = []; returned = []; others = [] }

-- A borrowed slot is given back.
abbrev pub with_returned : (slot : ℕ) → Link → Link
with_returned slot c = record c { borrowed = without slot c.borrowed; returned = c.returned ++ slot ∷ [] }

-- A borrowed slot goes, and isn't given back.
abbrev pub without_borrowed : (slot : ℕ) → Link → Link
without_borrowed slot c = record c { borrowed = without slot c.borrowed }

-- The first slot that was given back goes, if there is one.
abbrev pub IsReclaimed : Link → Option ℕ → Link → Type 0
IsReclaimed old None new = (old.returned ≡ []) × (new ≡ old)
IsReclaimed old (Some slot) new =
    (rest : List ℕ) × (old.returned ≡ slot ∷ rest) × (new ≡ record old { returned = rest })

-- The connection is marked as open, where its channel 0 isn't closed, or as open no more.
abbrev pub with_mark : (is_open : Bool) → Link → Link
with_mark is_open c = record c { is_open = is_open && not (is_shut c) }

-- A channel, where it is in the state `expected`, is changed so.
abbrev pub changed_in : (expected : ℕ) → (Channel → Channel) → Channel → Channel
changed_in expected change channel = if is_in_state expected channel then change channel else channel

-- The channel with that number, where it is there and in the state `expected`, is changed so.
abbrev pub channels_changed : (number expected : ℕ) → (Channel → Channel) → List Channel → List Channel
channels_changed number expected change channels =
    slice_set channels number (changed_in expected change (channel_at channels number))

-- The connection has these channels. Where channel 0 is closed it isn't marked as open any more.
abbrev pub having_channels : List Channel → Link → Link
having_channels channels c =
    record c { is_open = c.is_open && not (is_closed (channel_at channels 0)); channels = channels }

-- The channel with that number, where it is in the state `expected`, comes into this one.
abbrev pub state_changed : (number expected state : ℕ) → Link → Link
state_changed number expected state c =
    having_channels (channels_changed number expected (with_state state) c.channels) c

-- The channel with that number, where it is in the state `expected`, has a hint.
abbrev pub hint_set : (number expected : ℕ) → Link → Link
hint_set number expected c = having_channels (channels_changed number expected with_hint c.channels) c

-- ---- bounds

-- Waiting slots, of each channel, and borrowed slots are within their limits. The slots of the other three lists
-- together are within the two: what is given back takes no more than what was borrowed left.
-- A connection whose channel 0 is closed isn't marked as open.
pub record IsBounded (c : Link) : Type 0 where
  pub some_room : 0 < c.buffer
  pub waiting : length c.waiting ≤ c.buffer
  pub others : (channel : ℕ) → length (numbers_of channel c.others) ≤ other_room (length c.channels) c.buffer channel
  pub borrowed : length c.borrowed ≤ c.limit
  pub together : length c.waiting + length c.borrowed + length c.returned ≤ c.buffer + c.limit
  pub fits : c.buffer + c.limit + 1 < 2 ^ 64
  pub marked : c.is_open ≡ true → is_shut c ≡ false
