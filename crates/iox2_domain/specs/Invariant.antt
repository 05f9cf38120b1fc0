-- What always holds of the fields of a domain.
use Rattle.std.specs.Prelude.{◌≡◌, ◌≢◌, ◌⊎◌, ℕ, Bool, true, false, ◌+◌, ◌*◌, ◌<◌, ◌≤◌, ◌==◌, ◌&&◌, if◌then◌else◌, List}
use Rattle.std.specs.Prelude.{[], length, map, max, nat_lt, not, sum_by, slice_get, slice_index, slice_index_or}
use Rattle.std.specs.Prelude.{Contains, IsSomeAnd}
use Rattle.std.specs.List.{All}
use Rattle.std.specs.declared.option.Option.{Option}
use Rattle.std.specs.declared.option.Option.TheVariants.{None, Some}
use Rattle.std.specs.Option.{option_map, option_map_or, option_and_then}
use Rattle.slab.specs.Slab.{Slab, get}
use Rattle.iox2_machine.specs.machine.Limits.{channel_count, warning_limit, segment_fits}
use Rattle.iox2_connections.specs.Link.{Link}
use Rattle.iox2_machine.specs.SingleValues.{is_single_valued}
use Rattle.iox2_slots.specs.SlotBook.{Book, IsAligned, holders_at}
use Rattle.iox2_contents.specs.SlotContents.{ContentState, lists_for}
use Rattle.iox2_machine.specs.machine.Loans.{is_static}
use Rattle.iox2_machine.specs.machine.WellFormed.{IsWellFormed}
use Rattle.iox2_machine.specs.declared.service_config.ServiceConfig.{ServiceConfig}
use Rattle.iox2_machine.specs.declared.service_config.TypeVariant.TheVariants.{FixedSize}
use Rattle.iox2_slots.specs.declared.slots.mark.SlotMark.{SlotMark}
use Rattle.iox2_slots.specs.declared.slots.mark.SlotMark.TheVariants.{Unwritten, Written, Sent}
use Rattle.iox2_connections.specs.LookUp.{look_up, IsOnly}
use Rattle.iox2_connections.specs.Homes.{IsApart, IsSenderLinked}
use Rattle.iox2_connections.specs.Finds.{IsReceiverLinked}
use Rattle.iox2_connections.specs.Receivers.{KnowsReceivers}
use Rattle.iox2_connections.specs.Counters.{times, stands}
use Rattle.iox2_connections.specs.declared.sender.ReceiverDetails.{ReceiverDetails}
use Rattle.iox2_domain.specs.Ports.{PublisherFields, SubscriberFields, slot_length}
use Rattle.iox2_domain.specs.declared.publisher_state.BlockedDelivery.{BlockedDelivery}
use Rattle.iox2_domain.specs.Kept.{KeptMessage, state_of, header_of, length_of}
use Rattle.iox2_domain.specs.Fields.{Fields, kept_of, is_book_of, message_in, contents_at}
use Rattle.iox2_domain.specs.Shows.{KeepsEntries}

-- ---- ports

-- The publisher has this id.
abbrev pub is_publisher : ℕ → PublisherFields → Bool
is_publisher p x = x.id == p

-- The subscriber has this id.
abbrev pub is_subscriber : ℕ → SubscriberFields → Bool
is_subscriber q y = y.id == q

-- The subscriber, as a publisher that delivers sees it.
abbrev pub details_of : SubscriberFields → ReceiverDetails
details_of y = record { port_id = y.id; buffer_size = y.buffer; is_open = y.is_open }

-- No call that can't fail has to make room for the publisher. The size of its current segment fits a machine word.
pub record HasPublisherRoom (config : ServiceConfig) (x : PublisherFields) : Type 0 where
  pub loans : x.max_loaned_samples ≤ x.loan_room
  pub history : (x.history).capacity ≡ config.history_size
  pub size : segment_fits config x.slots x.segment_length ≡ true

-- ---- connections

-- The publisher has the connection at that key, at the place where the connection says.
pub record SenderHas (publishers : List (Option PublisherFields)) (key : ℕ) (c : Link) : Type 0 where
  pub publisher : PublisherFields
  pub stands : slice_index_or publishers c.home.publisher_place None ≡ Some publisher
  pub is_its : publisher.id ≡ c.home.publisher
  pub has : slice_index_or publisher.keys c.home.subscriber_place None ≡ Some key

-- The subscriber has the connection at that key, at the place where the connection says or among the expired ones.
pub record ReceiverHas (subscribers : List (Option SubscriberFields)) (key : ℕ) (c : Link) : Type 0 where
  pub subscriber : SubscriberFields
  pub stands : slice_index_or subscribers c.home.subscriber_place None ≡ Some subscriber
  pub is_its : subscriber.id ≡ c.home.subscriber
  pub has : (slice_index_or subscriber.keys c.home.publisher_place None ≡ Some key) ⊎ Contains subscriber.expired key

-- The subscriber of the connection stands at the place where the connection says, and is open.
pub record HasOpenReceiver (subscribers : List (Option SubscriberFields)) (c : Link) : Type 0 where
  pub subscriber : SubscriberFields
  pub stands : slice_index_or subscribers c.home.subscriber_place None ≡ Some subscriber
  pub is_its : subscriber.id ≡ c.home.subscriber
  pub is_open : subscriber.is_open ≡ true

-- The publisher has the connection at that key, and its subscriber is open.
pub record IsBetweenOpen (publishers : List (Option PublisherFields)) (subscribers : List (Option SubscriberFields))
    (key : ℕ) (c : Link) : Type 0 where
  pub sender : SenderHas publishers key c
  pub receiver : HasOpenReceiver subscribers c

-- Every port and every connection know of each other.
pub record IsLinked {T U : Type 0} (f : Fields T U) : Type 0 where
  pub senders : (i : ℕ) (x : PublisherFields) → slice_index_or f.publishers i None ≡ Some x
      → IsSenderLinked x.id f.connections x.keys
  pub receivers : (i : ℕ) (y : SubscriberFields) → slice_index_or f.subscribers i None ≡ Some y
      → IsReceiverLinked y.id (f.config).subscriber_max_borrowed_samples f.connections y.keys
  pub expired : (i : ℕ) (y : SubscriberFields) → slice_index_or f.subscribers i None ≡ Some y
      → IsReceiverLinked y.id (f.config).subscriber_max_borrowed_samples f.connections (map Some y.expired)
  -- No connection is left that neither of its ports has.
  pub ends : (key : ℕ) (c : Link) → get f.connections key ≡ Some c
      → SenderHas f.publishers key c ⊎ ReceiverHas f.subscribers key c
  -- A subscriber knows a connection at the place that this names.
  pub receiver_places : (i place key : ℕ) (y : SubscriberFields) (c : Link)
      → slice_index_or f.subscribers i None ≡ Some y
      → slice_index_or y.keys place None ≡ Some key → get f.connections key ≡ Some c → c.home.publisher_place ≡ place
  -- What a connection says of its ports is so while they are there.
  pub knows : KnowsReceivers f.connections (map (option_map details_of) f.subscribers)
  pub knows_publishers : (key i : ℕ) (c : Link) (x : PublisherFields) → get f.connections key ≡ Some c
      → slice_index_or f.publishers i None ≡ Some x
      → x.id ≡ c.home.publisher → i ≡ c.home.publisher_place
  -- Both ports of a connection have room for its key at the other's place.
  pub sender_rooms : (key i : ℕ) (c : Link) (x : PublisherFields) → get f.connections key ≡ Some c
      → slice_index_or f.publishers i None ≡ Some x
      → x.id ≡ c.home.publisher → c.home.subscriber_place < x.key_room
  pub receiver_rooms : (key i : ℕ) (c : Link) (y : SubscriberFields) → get f.connections key ≡ Some c
      → slice_index_or f.subscribers i None ≡ Some y
      → y.id ≡ c.home.subscriber → c.home.publisher_place < y.key_room
  -- As many messages may be borrowed in each connection as the settings say.
  pub limits : (key : ℕ) (c : Link) → get f.connections key ≡ Some c
      → c.limit ≡ (f.config).subscriber_max_borrowed_samples
  -- Each connection has as many channels as the settings say.
  pub channel_counts : (key : ℕ) (c : Link) → get f.connections key ≡ Some c
      → length c.channels ≡ channel_count f.config
  -- Slots that were given back lie where their publisher reclaims them.
  pub returned : (key : ℕ) (c : Link) → get f.connections key ≡ Some c
      → SenderHas f.publishers key c ⊎ (c.returned ≡ [])
  -- A connection that is marked as open is one between open ports.
  pub marked : (key : ℕ) (c : Link) → get f.connections key ≡ Some c → c.is_open ≡ true
      → IsBetweenOpen f.publishers f.subscribers key c

-- One where the connection is the subscriber q's.
abbrev pub one_if_receivers : (q : ℕ) → Option Link → ℕ
one_if_receivers q None = 0
one_if_receivers q (Some c) = if c.home.subscriber == q then 1 else 0

-- How many connections the subscriber q has.
abbrev pub connection_count : Slab Link → (q : ℕ) → ℕ
connection_count connections q = sum_by (one_if_receivers q) connections.slots

-- Each subscriber's list of expired keys has room for as many keys as it has connections, so that each of them may
-- expire with no allocation.
pub record HasExpiredRoom (subscribers : List (Option SubscriberFields)) (connections : Slab Link) : Type 0 where
  pub at : (i : ℕ) (y : SubscriberFields) → slice_index_or subscribers i None ≡ Some y
      → connection_count connections y.id ≤ y.expired_room

-- ---- books

-- The book is aligned, and there are contents for each of its slots.
pub record IsBook {T U : Type 0} (b : Book) (contents : Option (List (ContentState T U))) : Type 0 where
  pub aligned : IsAligned b
  pub shaped : IsSomeAnd contents (λ cs. length cs ≡ length b.holders)

-- Each slot from this one on has room for that many units.
pub record HasRoomFrom {T U : Type 0} (start units : ℕ) (contents : List (ContentState T U)) : Type 0 where
  pub at : (slot : ℕ) (content : ContentState T U) → start ≤ slot → slice_get contents slot ≡ Some content
      → units ≤ content.room

-- The publisher's book names the domain's node. Its last slots are the current segment, and each of these has room for
-- a slice of the segment's length, and for one element at least.
pub record HasBook {T U : Type 0} (f : Fields T U) (x : PublisherFields) : Type 0 where
  pub book : Book
  pub stands : get f.books x.book ≡ Some book
  pub is_its : book.publisher ≡ x.id
  pub node : book.node ≡ (f.config).node_id
  pub slots : length book.holders ≡ x.segment_start + x.slots
  pub room : IsSomeAnd (slice_index_or f.contents x.book None)
      (HasRoomFrom x.segment_start (slot_length x.segment_length * (f.config).units_per_element))

-- Each book has its contents, and each publisher its book. Nothing else has contents.
pub record HasBooks {T U : Type 0} (f : Fields T U) : Type 0 where
  pub one_each : (p : ℕ) → IsOnly (is_book_of p) f.books.slots
  pub books : (key : ℕ) (b : Book) → get f.books key ≡ Some b → IsBook b (slice_index_or f.contents key None)
  pub publishers : (i : ℕ) (x : PublisherFields) → slice_index_or f.publishers i None ≡ Some x → HasBook f x
  pub no_others : (key : ℕ) → get f.books key ≡ None → slice_index_or f.contents key None ≡ None

-- The book at the key is this publisher's.
pub record IsBookOf (books : Slab Book) (publisher key : ℕ) : Type 0 where
  pub book : Book
  pub stands : get books key ≡ Some book
  pub is_its : book.publisher ≡ publisher

-- Each connection names the key of its publisher's book.
pub record NamesBooks (books : Slab Book) (connections : Slab Link) : Type 0 where
  pub at : (key : ℕ) (c : Link) → get connections key ≡ Some c → IsBookOf books c.home.publisher c.home.book

-- The publisher p stands, and its book is the one at the key.
pub record IsOwned (publishers : List (Option PublisherFields)) (key p : ℕ) : Type 0 where
  pub place : ℕ
  pub publisher : PublisherFields
  pub stands : slice_index_or publishers place None ≡ Some publisher
  pub is_its : publisher.id ≡ p
  pub has : publisher.book ≡ key

-- No publisher has the id p.
abbrev pub StandsNowhere : List (Option PublisherFields) → (p : ℕ) → Type 0
StandsNowhere publishers p = (i : ℕ) (x : PublisherFields) → slice_index_or publishers i None ≡ Some x → x.id ≢ p

-- The publisher p was there, and is gone.
pub record IsGone (next_port : ℕ) (publishers : List (Option PublisherFields)) (p : ℕ) : Type 0 where
  pub known : p < next_port
  pub absent : StandsNowhere publishers p

-- Some slot of the book has a holder.
pub record IsUsed (b : Book) : Type 0 where
  pub slot : ℕ
  pub in_use : 0 < holders_at b slot

-- The book's publisher is gone, and a slot of it has a holder still.
abbrev pub IsLeft : (next_port : ℕ) → List (Option PublisherFields) → Book → Type 0
IsLeft next_port publishers b = IsGone next_port publishers b.publisher × IsUsed b

-- Each book is of a publisher that stands, or is left of one that is gone.
pub record KeepsBooks (next_port : ℕ) (publishers : List (Option PublisherFields)) (books : Slab Book) : Type 0 where
  pub at : (key : ℕ) (b : Book) → get books key ≡ Some b
      → IsOwned publishers key b.publisher ⊎ IsLeft next_port publishers b

-- The same, except for the book at this key, which may have no holder any more.
pub record KeepsBooksBut (next_port : ℕ) (publishers : List (Option PublisherFields)) (books : Slab Book)
    (spared : ℕ) : Type 0 where
  pub own : (b : Book) → get books spared ≡ Some b
      → IsOwned publishers spared b.publisher ⊎ IsGone next_port publishers b.publisher
  pub others : (key : ℕ) (b : Book) → key ≢ spared → get books key ≡ Some b
      → IsOwned publishers key b.publisher ⊎ IsLeft next_port publishers b

-- ---- slots

-- How many holders the slot of the publisher p has, by its book.
abbrev pub holders_of : Slab Book → (p slot : ℕ) → ℕ
holders_of books p slot = option_map_or (λ b. holders_at b slot) (look_up (is_book_of p) books.slots) 0

-- A slot with this mark is a loan.
abbrev pub is_lent : SlotMark → Bool
is_lent Unwritten = true
is_lent Written = true
is_lent Sent = false

-- The slot is a loan that is out.
abbrev pub is_loan_in : Book → (slot : ℕ) → Bool
is_loan_in b slot = nat_lt 0 (holders_at b slot) && option_map_or is_lent (slice_get b.marks slot) false

-- A loan has one holder, its user.
pub record HasLoneLoans (books : Slab Book) : Type 0 where
  pub at : (key slot : ℕ) (b : Book) → get books key ≡ Some b → is_loan_in b slot ≡ true → holders_at b slot ≡ 1

-- How often the publisher itself has the slot, as a loan or in its history. Of one that is gone, loans may still be
-- out.
abbrev pub own_holders : {T U : Type 0} → Fields T U → (p slot : ℕ) → ℕ
own_holders f p slot =
    option_map_or (λ (x : PublisherFields). times slot x.loans + times slot (x.history).items)
    (look_up (is_publisher p) f.publishers)
    (option_map_or (λ b. if is_loan_in b slot then 1 else 0) (look_up (is_book_of p) f.books.slots) 0)

-- Each slot has as many holders as it stands in lists.
pub record IsCounted {T U : Type 0} (f : Fields T U) : Type 0 where
  pub at : (p slot : ℕ) → holders_of f.books p slot ≡ own_holders f p slot + sum_by (stands p slot) f.connections.slots

-- The slot of the book at the key is in use and has this number.
pub record HasNumber (books : Slab Book) (key slot n : ℕ) : Type 0 where
  pub book : Book
  pub stands : get books key ≡ Some book
  pub in_use : 0 < holders_at book slot
  pub number : slice_index book.numbers slot ≡ n

-- No two slots in use have the same number, and each number was given out.
pub record IsNumbered (next_message : ℕ) (books : Slab Book) : Type 0 where
  pub one : (key key' slot slot' number : ℕ) → HasNumber books key slot number → HasNumber books key' slot' number
      → (key ≡ key') × (slot ≡ slot')
  pub below : (key slot number : ℕ) → HasNumber books key slot number → number < next_message

-- ---- messages

-- The elements of a loan or a sent message are as many as its header says, and one where each message is a single
-- value.
pub record HasShape {T U : Type 0} (c : ServiceConfig) (m : KeptMessage T U) : Type 0 where
  pub length : length_of m ≡ (header_of m).number_of_elements * c.units_per_element
  pub single : c.variant ≡ FixedSize → (header_of m).number_of_elements ≡ 1

-- What lies in each slot in use has its shape.
pub record HasShapes {T U : Type 0} (f : Fields T U) : Type 0 where
  pub at : (key slot : ℕ) (b : Book) (m : KeptMessage T U) → get f.books key ≡ Some b
      → message_in b (contents_at f.contents key) slot ≡ Some m → HasShape f.config m

-- How many lists of cells the settings ask for, of a publisher that may have that many loans out.
abbrev pub lists_wanted : ServiceConfig → (max_loaned_samples : ℕ) → ℕ
lists_wanted c max_loaned_samples = if c.lists_cells then max 1 max_loaned_samples else 0

-- How many such a publisher has: none in a domain of single values.
abbrev pub cell_lists : ServiceConfig → (max_loaned_samples : ℕ) → ℕ
cell_lists c max_loaned_samples = lists_for (not (is_single_valued c)) (lists_wanted c max_loaned_samples)

-- Except in a domain of single values, what lies in slots lies in lists, so that it can be handed out as a slice, and
-- cells can be handed out as lists too if the settings ask for it.
pub record HasForms {T U : Type 0} (c : ServiceConfig)
    (contents : List (Option (List (ContentState T U)))) : Type 0 where
  pub at : is_single_valued c ≡ false → (key : ℕ) (cs : List (ContentState T U))
      → slice_index_or contents key None ≡ Some cs → All (λ content. content.is_in_place ≡ false) cs
  pub cells : is_single_valued c ≡ false → c.lists_cells ≡ true → (key : ℕ) (cs : List (ContentState T U))
      → slice_index_or contents key None ≡ Some cs → All (λ content. 0 < content.lists) cs

-- How many cells the slot of the book at the key has.
abbrev pub cell_count : {T U : Type 0} → List (Option (List (ContentState T U))) → (key slot : ℕ) → ℕ
cell_count contents key slot =
    option_map_or (λ content. length content.cells) (slice_get (contents_at contents key) slot) 0

-- The mark of the slot of the book at the key.
abbrev pub mark_at : Slab Book → (key slot : ℕ) → Option SlotMark
mark_at books key slot = option_and_then (λ (b : Book). slice_get b.marks slot) (get books key)

-- The slot is a loan of the publisher that is out and isn't written.
pub record IsUnwrittenLoan (books : Slab Book) (x : PublisherFields) (slot : ℕ) : Type 0 where
  pub out : 0 < times slot x.loans
  pub unwritten : mark_at books x.book slot ≡ Some Unwritten

-- Each slot with cells of a publisher that stands is a loan of its that is out and isn't written. So one list of cells
-- for each loan that it may have out is enough. Its slots have as many lists as `cell_lists` says.
pub record HasOpenLoans {T U : Type 0} (c : ServiceConfig) (publishers : List (Option PublisherFields))
    (books : Slab Book) (contents : List (Option (List (ContentState T U)))) : Type 0 where
  pub at : (i slot : ℕ) (x : PublisherFields) → slice_index_or publishers i None ≡ Some x
      → 0 < cell_count contents x.book slot → IsUnwrittenLoan books x slot
  pub lists : (i : ℕ) (x : PublisherFields) (cs : List (ContentState T U)) → slice_index_or publishers i None ≡ Some x
      → slice_index_or contents x.book None ≡ Some cs
      → All (λ content. content.lists ≡ cell_lists c x.max_loaned_samples) cs

-- ---- a publisher's segments, and its blocked delivery

-- The slot of a publisher's blocked delivery is a loan of its that is out.
abbrev pub LendsBlocked : PublisherFields → Type 0
LendsBlocked x = (b : BlockedDelivery) → x.blocked ≡ Some b → 0 < times b.slot x.loans

-- A static publisher has its first segment alone. The current segment is no shorter than the first one, and where
-- memory grows no shorter than any loan that was granted. It has some slot where the publisher may have a loan.
pub record HasSegment (x : PublisherFields) : Type 0 where
  pub static : is_static x.allocation ≡ true → (x.segment_start ≡ 0) × (x.segment_length ≡ x.initial_max_slice_len)
  pub first : x.initial_max_slice_len ≤ x.segment_length
  pub longest : is_static x.allocation ≡ false → x.longest_granted ≤ x.segment_length
  pub some : 0 < x.max_loaned_samples → 0 < x.slots

-- The publisher has a current segment, and the slot of its blocked delivery is a loan of its.
pub record IsPlain (x : PublisherFields) : Type 0 where
  pub lent : LendsBlocked x
  pub segment : HasSegment x

-- ---- the whole

-- The fields agree with one another, in the midst of a step.
pub record HasParts {T U : Type 0} (f : Fields T U) : Type 0 where
  pub publisher_ids : (p : ℕ) → IsOnly (is_publisher p) f.publishers
  pub subscriber_ids : (q : ℕ) → IsOnly (is_subscriber q) f.subscribers
  pub apart : IsApart f.connections
  pub linked : IsLinked f
  pub expired_room : HasExpiredRoom f.subscribers f.connections
  pub books : HasBooks f
  pub names : NamesBooks f.books f.connections
  pub counted : IsCounted f
  pub numbered : IsNumbered f.next_message f.books
  pub publisher_room : (i : ℕ) (x : PublisherFields) → slice_index_or f.publishers i None ≡ Some x
      → HasPublisherRoom f.config x
  pub warning_room : (f.warnings).capacity ≡ warning_limit
  pub shapes : HasShapes f
  pub forms : HasForms f.config f.contents
  pub open_loans : HasOpenLoans f.config f.publishers f.books f.contents
  pub plain : (i : ℕ) (x : PublisherFields) → slice_index_or f.publishers i None ≡ Some x → IsPlain x

-- The fields agree with one another, and what they keep is a well-formed state with an entry for each message that
-- somebody holds.
pub record IsDomain {T U : Type 0} (f : Fields T U) : Type 0 where
  pub parts : HasParts f
  pub kept_books : KeepsBooks f.next_port f.publishers f.books
  pub lone : HasLoneLoans f.books
  pub well_formed : IsWellFormed (state_of (kept_of f))
  pub entries : KeepsEntries (kept_of f)

-- The same, except for the book at the key: its publisher is gone, and maybe none of its slots has a holder any more.
pub record IsDomainBut {T U : Type 0} (key : ℕ) (f : Fields T U) : Type 0 where
  pub parts : HasParts f
  pub kept_books : (k : ℕ) (b : Book) → k ≢ key → get f.books k ≡ Some b
      → IsOwned f.publishers k b.publisher ⊎ IsLeft f.next_port f.publishers b
  pub left_book : (b : Book) → get f.books key ≡ Some b → IsGone f.next_port f.publishers b.publisher
  pub lone : HasLoneLoans f.books
  pub well_formed : IsWellFormed (state_of (kept_of f))
  pub entries : KeepsEntries (kept_of f)
