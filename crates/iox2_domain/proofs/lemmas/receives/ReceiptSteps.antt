-- Messages that are taken from connections.
use Rattle.std.proofs.Common.{◌≡◌, ℕ, ◌<◌, List, length, map, get_or, slice_set, Option, Some, None, Result, Ok, Err}
use Rattle.std.proofs.Common.{IsErrAnd, IsSomeAnd, MatchOption, refl, ap, sym, subst, ◌∙◌}
use Rattle.std.proofs.lemmas.List.{get_or_read}
use Rattle.std.proofs.Math.Seq.{set-get_or}
use Rattle.std.specs.Prelude.{is_some}
use Rattle.slab.specs.Slab.{Slab, get, ContainsKey}
use Rattle.iox2_connections.specs.Link.{Link}
use Rattle.iox2_machine.specs.machine.Receives.{ReceiveResult, Got_sample, TakeSample}
use Rattle.iox2_slots.specs.SlotBook.{Book}
use Rattle.iox2_machine.specs.machine.State.{State}
use Rattle.iox2_connections.specs.declared.connection.Home.{Home}
use Rattle.iox2_machine.specs.declared.errors.ReceiveError.{ReceiveError}
use Rattle.iox2_machine.specs.declared.errors.ReceiveError.TheVariants.{ExceedsMaxBorrows}
use Rattle.iox2_connections.specs.Finds.{Finds, IsReceivers, IsReceiverLinked, HasConnections}
use Rattle.iox2_connections.specs.Homes.{SameHomes}
use Rattle.iox2_connections.specs.Mailboxes.{mailboxes_of}
use Rattle.iox2_connections.specs.Takes.{KeepsOtherKeys, KeepsReturned, SameStands, BorrowsSlot, TakesSlot}
use Rattle.iox2_connections.specs.declared.receiver.Found.{Found}
use Rattle.iox2_connections.specs.declared.receiver.Taken.{Taken}
use Rattle.iox2_connections.proofs.Counts.{in_range}
use Rattle.iox2_connections.proofs.MailboxChanges.{within_if_some}
use Rattle.iox2_domain.specs.Ports.{SubscriberFields}
use Rattle.iox2_domain.specs.Kept.{state_of}
use Rattle.iox2_domain.specs.Fields.{Fields, kept_of, number_in_slot}
use Rattle.iox2_domain.specs.Invariant.{IsBookOf, IsDomain}
use Rattle.iox2_domain.specs.Reaches.{Reaches}
use Rattle.iox2_domain.specs.Receipts.{receive_result, IsReceiptFor, TakesAs}
use Rattle.iox2_domain.specs.declared.sample_slots.Receipt.{Receipt}
use Rattle.iox2_domain.proofs.lemmas.receives.BorrowedSlots.{lies-there}
use Rattle.iox2_domain.proofs.lemmas.fields.ConnectionEnds.{subscriber-stands}
use Rattle.iox2_domain.proofs.lemmas.slots.ConnectionSlots.{book-numbers, waiting-in_use, index-got}
use Rattle.iox2_domain.proofs.lemmas.fields.ReachesShows.{reaches-same}
use Rattle.iox2_domain.proofs.lemmas.receives.Received.{receiver, found-ready, takes-nothing, takes-at_limit}
use Rattle.iox2_domain.proofs.lemmas.receives.Received.{takes-message, takes-reaches}
use Rattle.iox2_domain.proofs.lemmas.receives.Reconnected.{with_all_mailboxes}

-- ---- one connection

-- the book of the connection at a key
pub record HasItsBook {T U : Type 0} (f : Fields T U) (key book : ℕ) (c : Link) (b : Book) : Type 0 where
  pub stands : get f.connections key ≡ Some c
  pub has_book : get f.books book ≡ Some b
  pub book_is : b.publisher ≡ c.home.publisher

module _ {T U : Type 0} (f now : Fields T U) (key : ℕ) (home : Home) (c : Link) (same : f ≡ now) (sound : IsDomain now)
    (at : get f.connections key ≡ Some c) (is : home ≡ c.home) where
  link-stands : get now.connections key ≡ Some c
  link-stands = ap (λ (h : Fields T U). get h.connections key) (sym same) ∙ at

  of-book : IsBookOf now.books c.home.publisher home.book
  of-book =
      subst (λ (h : Home). IsBookOf now.books c.home.publisher h.book) (sym is) (sound.parts.names.at key c link-stands)

  -- the book that it names is there
  pub names-book : ContainsKey f.books home.book
  names-book = ap is_some (ap (λ (h : Fields T U). get h.books home.book) same ∙ of-book.stands)

  -- and is its publisher's
  pub has-its-book : (b : Book) → get f.books home.book ≡ Some b → HasItsBook now key home.book c b
  has-its-book b at_b =
      let has_book : get now.books home.book ≡ Some b =
      ap (λ (h : Fields T U). get h.books home.book) (sym same) ∙ at_b in
      let one : Some of-book.book ≡ Some b = sym of-book.stands ∙ has_book in
      let is_one : of-book.book ≡ b = cc in
      record {
        stands = link-stands;
        has_book = has_book;
        book_is = ap (λ (x : Book). x.publisher) (sym is_one) ∙ of-book.is_its;
      }

-- a message was taken from the connection at the key, and no other field changes
pub record TakesFrom {T U : Type 0} (old : Fields T U) (key : ℕ) (receipt : Receipt) (new : Fields T U) : Type 0 where
  pub link : Link
  pub stands : get old.connections key ≡ Some link
  pub only : new ≡ record old { connections = new.connections }
  pub takes : BorrowsSlot old.connections key receipt.sample.slot new.connections
  pub homes : SameHomes old.connections new.connections
  pub others : KeepsOtherKeys key old.connections new.connections
  pub returned : KeepsReturned key old.connections new.connections
  pub stay : SameStands old.connections new.connections
  pub connection_is : receipt.sample.connection ≡ key
  pub book_is : receipt.sample.book ≡ link.home.book
  pub publisher_is : receipt.publisher ≡ link.home.publisher
  pub subscriber_is : receipt.sample.subscriber ≡ link.home.subscriber
  pub number_is : receipt.sample.number ≡ number_in_slot old.books link.home.publisher receipt.sample.slot

module _ {T U : Type 0} (f now : Fields T U) (same : f ≡ now) (sound : IsDomain now) (taken : Taken) (new : Slab Link)
    (takes : TakesSlot f.connections taken new) where
  -- the slot is within the book of its publisher
  pub taken-within : IsSomeAnd (get f.books (taken.home).book) (λ b. taken.slot < length b.holders)
  taken-within =
      let stands : get now.connections taken.connection ≡ Some takes.link =
      link-stands f now taken.connection taken.home takes.link same sound takes.stands takes.home_is in
      let named = of-book f now taken.connection taken.home takes.link same sound takes.stands takes.home_is in
      let there : get f.books (taken.home).book ≡ Some named.book =
      ap (λ (h : Fields T U). get h.books (taken.home).book) same ∙ named.stands in
      rw there (in_range (named.book).holders taken.slot
      (waiting-in_use now sound taken.connection
      (taken.home).book takes.link named.book stands named.stands named.is_its taken.slot takes.waited))

  -- what is taken is what the receipt says
  pub takes-from : (receipt : Receipt) → IsReceiptFor f.books taken receipt
      → TakesFrom now taken.connection receipt (record f { connections = new })
  takes-from receipt is =
      let has = has-its-book f now taken.connection taken.home takes.link same sound takes.stands takes.home_is is.book
      is.has_book in
      let borrows : BorrowsSlot f.connections taken.connection receipt.sample.slot new =
      subst (λ (slot : ℕ). BorrowsSlot f.connections taken.connection slot new) (sym is.slot_is) takes.borrows in
      record {
        link = takes.link;
        stands = has.stands;
        only = ap (λ (h : Fields T U). record h { connections = new }) same;
        takes =
            subst (λ (h : Fields T U). BorrowsSlot h.connections taken.connection receipt.sample.slot new) same borrows;
        homes = subst (λ (h : Fields T U). SameHomes h.connections new) same takes.homes;
        others = subst (λ (h : Fields T U). KeepsOtherKeys taken.connection h.connections new) same takes.others;
        returned = subst (λ (h : Fields T U). KeepsReturned taken.connection h.connections new) same takes.returned;
        stay = subst (λ (h : Fields T U). SameStands h.connections new) same takes.stay;
        connection_is = is.connection_is;
        book_is = is.book_is ∙ ap (λ (h : Home). h.book) takes.home_is;
        publisher_is = is.publisher_is ∙ ap (λ (h : Home). h.publisher) takes.home_is;
        subscriber_is = is.subscriber_is ∙ ap (λ (h : Home). h.subscriber) takes.home_is;
        number_is = sym (ap (number_in_slot now.books (takes.link).home.publisher) is.slot_is
            ∙ book-numbers now sound taken.connection
            (taken.home).book takes.link is.book has.stands has.has_book has.book_is taken.slot
            ∙ index-got (is.book).numbers taken.slot receipt.sample.number is.number_is);
      }

-- ---- a subscriber

module _ {T U : Type 0} (f : Fields T U) (sound : IsDomain f) (i : ℕ) (y : SubscriberFields)
    (at_y : get_or f.subscribers i None ≡ Some y) where
  its-result : (s' : State T U) (result : ReceiveResult)
      → TakeSample (state_of (kept_of f)) y.id (receiver f sound i y at_y) s' result
      → MatchOption ((state_of (kept_of f)).subscribers y.id) ⊥
      (λ z. TakeSample (state_of (kept_of f)) y.id z s' result)
  its-result s' result takes = rw (subscriber-stands f sound.parts i y at_y) takes

  -- a message is taken
  pub takes-ready : (key : ℕ) (receipt : Receipt) (new : Fields T U)
      → Finds f.connections y.expired y.keys (Found.Ready key) → TakesFrom f key receipt new
      → TakesAs f y.id (Ok (Some receipt)) new
  takes-ready key receipt new finds from =
      let reached : Reaches f new
      (with_all_mailboxes (state_of (kept_of f)) (mailboxes_of (number_in_slot f.books) new.connections)) =
      subst (λ (h : Fields T U). Reaches f h (with_all_mailboxes (state_of (kept_of f))
      (mailboxes_of (number_in_slot f.books) new.connections))) (sym from.only)
      (takes-reaches f sound i y at_y key receipt.sample.slot from.link from.stands new.connections finds from.takes
      from.homes from.others from.returned from.stay) in (
        with_all_mailboxes (state_of (kept_of f)) (mailboxes_of (number_in_slot f.books) new.connections),
        reached,
        its-result (with_all_mailboxes (state_of (kept_of f)) (mailboxes_of (number_in_slot f.books) new.connections))
            (Got_sample receipt.publisher receipt.sample.number)
            (subst (λ (p : ℕ). TakeSample (state_of (kept_of f)) y.id (receiver f sound i y at_y)
            (with_all_mailboxes (state_of (kept_of f)) (mailboxes_of (number_in_slot f.books) new.connections))
            (Got_sample p receipt.sample.number)) (sym from.publisher_is)
            (subst (λ (n : ℕ). TakeSample (state_of (kept_of f)) y.id (receiver f sound i y at_y)
            (with_all_mailboxes (state_of (kept_of f)) (mailboxes_of (number_in_slot f.books) new.connections))
            (Got_sample (from.link).home.publisher n)) (sym from.number_is)
            (takes-message f sound i y at_y key receipt.sample.slot from.link from.stands new.connections finds
            from.takes))),
        lies-there f.connections new.connections key receipt.sample.slot from.link from.stands from.homes
            reached.agrees.parts.apart from.takes new y.id receipt refl from.connection_is refl from.publisher_is
            from.subscriber_is from.book_is
            (found-ready f sound i y at_y key receipt.sample.slot from.link from.stands new.connections finds
            from.takes).0
            (from.number_is ∙ ap (λ (h : Fields T U).
            number_in_slot h.books (from.link).home.publisher receipt.sample.slot) (sym from.only)),
      )

  -- none can be taken
  pub takes-none : Finds f.connections y.expired y.keys Found.Nothing → TakesAs f y.id (Ok None) f
  takes-none finds = (
    state_of (kept_of f),
    reaches-same f sound,
    its-result (state_of (kept_of f)) (receive_result (Ok None)) (takes-nothing f sound i y at_y finds),
    tt,
  )

  pub takes-too_many : Finds f.connections y.expired y.keys Found.AtLimit → TakesAs f y.id (Err ExceedsMaxBorrows) f
  takes-too_many finds = (
    state_of (kept_of f),
    reaches-same f sound,
    its-result (state_of (kept_of f)) (receive_result (Err ExceedsMaxBorrows)) (takes-at_limit f sound i y at_y finds),
    tt,
  )

-- ---- what a subscriber's place has

-- the subscriber that was read at the place, and its connections as they were read
pub record HasKeys {T U : Type 0} (f now : Fields T U) (place : ℕ) (y : SubscriberFields) (expired : List ℕ)
    (places : List (Option ℕ)) : Type 0 where
  pub sound : IsDomain now
  pub same : f ≡ now
  pub stands : get_or now.subscribers place None ≡ Some y
  pub expired_is : expired ≡ y.expired
  pub places_is : places ≡ y.keys

pub has-keys : {T U : Type 0} (f now : Fields T U) (place : ℕ) (o : Option SubscriberFields) (y z : SubscriberFields)
    (expired : List ℕ) (places : List (Option ℕ)) → IsDomain now → f ≡ now
    → (x : SubscriberFields) × (get_or now.subscribers place None ≡ Some x) → o ≡ get_or f.subscribers place o
    → o ≡ Some y → z ≡ y → expired ≡ z.expired → places ≡ z.keys
    → HasKeys f now place y expired places
has-keys {T} {U} f now place o y z expired places sound same stands read is is_y expired_is places_is =
    let at : get_or f.subscribers place None ≡ Some stands.0 =
    ap (λ (h : Fields T U). get_or h.subscribers place None) same ∙ stands.1 in
    let there : o ≡ get_or f.subscribers place None =
    get_or_read f.subscribers place o (within_if_some f.subscribers place stands.0 at) read None in
    record {
      sound = sound;
      same = same;
      stands = ap (λ (h : Fields T U). get_or h.subscribers place None) (sym same) ∙ sym there ∙ is;
      expired_is = expired_is ∙ ap (λ (w : SubscriberFields). w.expired) is_y;
      places_is = places_is ∙ ap (λ (w : SubscriberFields). w.keys) is_y;
    }

-- a subscriber that stands at the place as it did leaves all as it was
pub put-back : (subscribers : List (Option SubscriberFields)) (place : ℕ) (o : Option SubscriberFields)
    (y z : SubscriberFields)
    → o ≡ get_or subscribers place o → o ≡ Some y → z ≡ y → slice_set subscribers place (Some z) ≡ subscribers
put-back subscribers place o y z read is same =
    ap (slice_set subscribers place) (ap Some same ∙ sym is ∙ read) ∙ set-get_or subscribers place o

module _ {T U : Type 0} (f now : Fields T U) (place : ℕ) (z : SubscriberFields) (expired : List ℕ)
    (places : List (Option ℕ)) (has : HasKeys f now place z expired places) where
  -- each of the keys has a connection
  pub keys-connected : (most q : ℕ) (keys : List (Option ℕ)) → IsReceiverLinked q most now.connections keys
      → HasConnections f.connections keys
  keys-connected most q keys linked =
      record {
        at = λ i key at. subst (λ (h : Fields T U). ContainsKey h.connections key) (sym has.same)
            (by key (get now.connections key) refl (linked.at i key at));
      } where
        by : (key : ℕ) (o : Option Link) → get now.connections key ≡ o → IsSomeAnd o (IsReceivers q most)
            → ContainsKey now.connections key
        by key None e h = absurd h
        by key (Some c) e h = rw e refl

  pub connected-places : HasConnections f.connections places
  connected-places =
      subst (HasConnections f.connections) (sym has.places_is)
      (keys-connected (now.config).subscriber_max_borrowed_samples z.id z.keys
      ((has.sound).parts.linked.receivers place z has.stands))

  pub connected-expired : HasConnections f.connections (map Some expired)
  connected-expired =
      subst (λ (keys : List ℕ). HasConnections f.connections (map Some keys)) (sym has.expired_is)
      (keys-connected (now.config).subscriber_max_borrowed_samples z.id (map Some z.expired)
      ((has.sound).parts.linked.expired place z has.stands))

  pub finds-now : (found : Found) → Finds f.connections expired places found
      → Finds now.connections z.expired z.keys found
  finds-now found finds =
      subst (λ (h : Fields T U). Finds h.connections z.expired z.keys found) has.same
      (subst (λ (keys : List ℕ). Finds f.connections keys z.keys found) has.expired_is
      (subst (λ (keys : List (Option ℕ)). Finds f.connections expired keys found) has.places_is finds))

  -- whoever stands at the place is the one
  pub same-one : (y : SubscriberFields) → get_or now.subscribers place None ≡ Some y → z ≡ y
  same-one y at = let one : Some z ≡ Some y = sym has.stands ∙ at in let is : z ≡ y = cc in is

  -- a message was taken
  pub at-taken : (taken : Taken) (receipt : Receipt) (new : Slab Link)
      → Finds f.connections expired places (Found.Ready taken.connection) → TakesSlot f.connections taken new
      → IsReceiptFor f.books taken receipt
      → (y : SubscriberFields) → get_or now.subscribers place None ≡ Some y
      → TakesAs now y.id (Ok (Some receipt)) (record f { connections = new })
  at-taken taken receipt new finds takes is y at =
      subst (λ (w : SubscriberFields). TakesAs now w.id (Ok (Some receipt)) (record f { connections = new }))
      (same-one y at)
      (takes-ready now has.sound place z has.stands taken.connection receipt (record f { connections = new })
      (finds-now (Found.Ready taken.connection) finds)
      (takes-from f now has.same has.sound taken new takes receipt is))

  -- nothing was taken
  unchanged : (new : Slab Link) → new ≡ f.connections → now ≡ record f { connections = new }
  unchanged new stays =
      sym has.same ∙ ap (λ (slab : Slab Link). let g : Fields T U = record f { connections = slab } in g) (sym stays)

  pub at-nothing : (new : Slab Link) → Finds f.connections expired places Found.Nothing → new ≡ f.connections
      → (y : SubscriberFields) → get_or now.subscribers place None ≡ Some y
      → TakesAs now y.id (Ok None) (record f { connections = new })
  at-nothing new finds stays y at =
      subst (λ (w : SubscriberFields). TakesAs now w.id (Ok None) (record f { connections = new })) (same-one y at)
      (subst (TakesAs now z.id (Ok None)) (unchanged new stays)
      (takes-none now has.sound place z has.stands (finds-now Found.Nothing finds)))

  -- for as many are borrowed as may be
  pub at-error : (e : ReceiveError) (new : Slab Link)
      → (e ≡ ExceedsMaxBorrows) × Finds f.connections expired places Found.AtLimit × (new ≡ f.connections)
      → (r : Result (Option Receipt) ReceiveError) → IsErrAnd r (λ e'. e' ≡ e)
      → (y : SubscriberFields) → get_or now.subscribers place None ≡ Some y
      → TakesAs now y.id r (record f { connections = new })
  at-error e new fails (Ok receipt) is y at = absurd is
  at-error e new fails (Err e') is y at =
      subst (λ (w : SubscriberFields). TakesAs now w.id (Err e') (record f { connections = new })) (same-one y at)
      (subst (λ (error : ReceiveError). TakesAs now z.id (Err error) (record f { connections = new }))
      (sym (is ∙ fails.0))
      (subst (TakesAs now z.id (Err ExceedsMaxBorrows)) (unchanged new fails.2)
      (takes-too_many now has.sound place z has.stands (finds-now Found.AtLimit fails.1))))
