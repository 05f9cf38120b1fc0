-- What lies between one publisher and one subscriber: numbers of messages. Only this file looks into a mailbox.
use Rattle.std.specs.Prelude.{ℕ, zero, suc, Bool, not, ◌&&◌, List, [], ◌∷◌, ◌++◌, length, drop, map, if◌then◌else◌, ◌≡◌}
use Rattle.std.specs.Prelude.{◌≤◌, ◌==◌, nat_lt}
use Rattle.std.specs.List.{filter}
use Rattle.iox2_machine.specs.machine.Numbers.{contains, without, is_nil, IsOnce}

-- A number that waits in a channel other than 0.
pub record ChannelNumber : Type 0 where
  pub channel : ℕ
  pub number : ℕ

-- The numbers of one publisher's messages that one subscriber may receive, and that it has. It receives from channel 0
-- alone, so that of the other channels nothing is borrowed.
pub record Mailbox : Type 0 where
  pub waiting : List ℕ  -- in channel 0: delivered and not yet received, oldest first
  pub borrowed : List ℕ  -- received and not yet released, in the order of receipt
  pub others : List ChannelNumber  -- what waits in the other channels, by rising channel, and in each oldest first

-- Nothing waits and nothing is borrowed.
abbrev pub empty_mailbox : Mailbox
empty_mailbox = record { waiting = []; borrowed = []; others = [] }

-- ---- the channels other than 0

-- What waits in this channel, oldest first.
abbrev pub numbers_of : (channel : ℕ) → List ChannelNumber → List ℕ
numbers_of channel others =
    map (λ (m : ChannelNumber). m.number) (filter (λ (m : ChannelNumber). m.channel == channel) others)

-- In this channel these numbers wait, and no others; the other channels stay as they are.
abbrev pub with_numbers_of : (channel : ℕ) → List ℕ → List ChannelNumber → List ChannelNumber
with_numbers_of channel ns others =
    filter (λ (m : ChannelNumber). nat_lt m.channel channel) others
    ++ (map (λ n. record { channel = channel; number = n }) ns ++ filter
    (λ (m : ChannelNumber). nat_lt channel m.channel) others)

-- ---- reading

-- What waits in all channels other than 0.
abbrev pub other_numbers : Mailbox → List ℕ
other_numbers box = map (λ (m : ChannelNumber). m.number) box.others

-- All numbers in the mailbox, over all channels.
abbrev pub numbers_in : Mailbox → List ℕ
numbers_in box = other_numbers box ++ (box.waiting ++ box.borrowed)

-- What waits in a channel, oldest first.
abbrev pub waiting_in : (channel : ℕ) → Mailbox → List ℕ
waiting_in zero box = box.waiting
waiting_in (suc k) box = numbers_of (suc k) box.others

-- Something waits or is borrowed, in whatever channel.
abbrev pub has_numbers : Mailbox → Bool
has_numbers box = not (is_nil (other_numbers box) && (is_nil box.waiting && is_nil box.borrowed))

-- Some message was received and isn't released yet.
abbrev pub has_borrows : Mailbox → Bool
has_borrows box = not (is_nil box.borrowed)

-- This message was received and isn't released yet.
abbrev pub is_borrowed : ℕ → Mailbox → Bool
is_borrowed n box = contains box.borrowed n

-- Something waits, in whatever channel.
abbrev pub has_waiting : Mailbox → Bool
has_waiting box = not (is_nil (other_numbers box) && is_nil box.waiting)

-- Something waits for the receiver.
abbrev pub has_data : Mailbox → Bool
has_data box = not (is_nil box.waiting)

-- Something waits, and fewer messages than the limit are borrowed.
abbrev pub can_receive : (borrow_limit : ℕ) → Mailbox → Bool
can_receive borrow_limit box = has_data box && nat_lt (length box.borrowed) borrow_limit

-- How many messages wait.
abbrev pub waiting_count : Mailbox → ℕ
waiting_count box = length box.waiting

-- Fewer messages wait in the channel than the buffer holds.
abbrev pub has_room : (channel buffer : ℕ) → Mailbox → Bool
has_room channel buffer box = nat_lt (length (waiting_in channel box)) buffer

-- ---- changing

-- In the channel these numbers wait, and no others.
abbrev pub with_waiting_in : (channel : ℕ) → List ℕ → Mailbox → Mailbox
with_waiting_in zero ns box = record box { waiting = ns }
with_waiting_in (suc k) ns box = record box { others = with_numbers_of (suc k) ns box.others }

-- The number waits as the last in the channel; if there was no room, the first leaves.
abbrev pub with_appended : (channel buffer n : ℕ) → Mailbox → Mailbox
with_appended channel buffer n box =
    with_waiting_in channel
    ((if has_room channel buffer box then waiting_in channel box else drop 1 (waiting_in channel box)) ++ n ∷ []) box

-- These numbers wait in channel 0, and no others.
abbrev pub with_waiting : List ℕ → Mailbox → Mailbox
with_waiting ns box = with_waiting_in 0 ns box

-- What waits is lost, in all channels; what is borrowed stays.
abbrev pub waiting_dropped : Mailbox → Mailbox
waiting_dropped box = record box { waiting = []; others = [] }

-- The first number that waits becomes borrowed.
abbrev pub BorrowsFirst : Mailbox → (n : ℕ) → Mailbox → Type 0
BorrowsFirst box n box' =
    (rest : List ℕ) × (box.waiting ≡ n ∷ rest)
    × (box' ≡ record box { waiting = rest; borrowed = box.borrowed ++ n ∷ [] })

-- The number is no longer borrowed.
abbrev pub with_released : ℕ → Mailbox → Mailbox
with_released n box = record box { borrowed = without n box.borrowed }

-- ---- bounds

-- At most `buffer` messages wait in channel 0, at most `borrow_limit` are borrowed, and no number stands in the mailbox
-- twice.
pub record IsWithin (buffer borrow_limit : ℕ) (box : Mailbox) : Type 0 where
  pub waiting : length box.waiting ≤ buffer
  pub borrowed : length box.borrowed ≤ borrow_limit
  pub once : IsOnce (numbers_in box)

-- How many messages may wait in a channel other than channel 0, if there are that many channels. For channel 0 it is 0.
abbrev pub other_room : (channels buffer channel : ℕ) → ℕ
other_room channels buffer zero = 0
other_room channels buffer (suc k) = if nat_lt (suc k) channels then buffer else 0

-- No more than that wait in each of the other channels, which are numbered from 1 to below `channels`.
abbrev pub OthersWithin : (channels buffer : ℕ) → Mailbox → Type 0
OthersWithin channels buffer box =
    (channel : ℕ) → length (numbers_of channel box.others) ≤ other_room channels buffer channel
