-- A publisher's end is made, and the last messages of its history wait there.
use Rattle.std.proofs.Common.{arith, ◌≡◌, ℕ, Bool, true, false, cond, ◌+◌, ◌<◌, ◌≤◌, ◌^◌, List, [], length, map, get_or}
use Rattle.std.proofs.Common.{slice_set, refl, ap, sym, subst, ◌∙◌, set-set}
use Rattle.std.proofs.lemmas.List.{get_or-set_same}
use Rattle.std.specs.declared.option.Option.{Option}
use Rattle.std.specs.declared.option.Option.TheVariants.{None, Some}
use Rattle.std.specs.Option.{option_map}
use Rattle.iox2_machine.specs.machine.Channel.{Channel, is_closed}
use Rattle.iox2_connections.proofs.MailboxChanges.{channels-there, SameHomes-trans}
use Rattle.iox2_domain.proofs.lemmas.fields.KeptChannels.{but-channels, channels-are}
use Rattle.iox2_steps.proofs.updates.FollowedChannels.{follow-both, follow-same}
use Rattle.iox2_domain.specs.Updates.{subscriber_but_room}
use Rattle.slab.specs.Slab.{Slab, get, with_value, ContainsKey}
use Rattle.iox2_connections.specs.Link.{channel_at, is_shut, Link, load}
use Rattle.iox2_slots.specs.SlotBook.{Book, holders_at}
use Rattle.iox2_machine.specs.machine.Mailbox.{Mailbox, with_waiting}
use Rattle.iox2_machine.specs.machine.Numbers.{put_at, last_n}
use Rattle.iox2_machine.specs.machine.Places.{occupant}
use Rattle.iox2_machine.specs.machine.PublisherUpdate.{SenderSide, UpdateSenderPlace, connected, sender_side}
use Rattle.iox2_machine.specs.machine.PublisherUpdate.{with_sender_side}
use Rattle.iox2_machine.specs.machine.Records.{Publisher, Environment}
use Rattle.iox2_machine.specs.machine.State.{State, receiving_buffer, has_receiver_end}
use Rattle.iox2_machine.specs.machine.WellFormed.{IsWellFormed}
use Rattle.iox2_connections.specs.Counters.{times, with_counters}
use Rattle.iox2_connections.specs.Mailboxes.{with_box}
use Rattle.iox2_connections.proofs.MailboxChanges.{within_if_some}
use Rattle.iox2_laws.proofs.PublisherUpdates.{with_sender_side_keeps}
use Rattle.iox2_laws.proofs.Puts.{put_at-same, put_at-twice}
use Rattle.iox2_laws.proofs.SenderSides.{sender_side_begins, performed_keeps}
use Rattle.iox2_domain.specs.Ports.{PublisherFields}
use Rattle.iox2_domain.specs.Kept.{state_of, entries_of}
use Rattle.iox2_domain.specs.Fields.{Fields, kept_of, publisher_of, number_in_slot}
use Rattle.iox2_domain.specs.Invariant.{IsDomain}
use Rattle.iox2_domain.specs.Connects.{histories_of, MakesSenderEnd, ConnectsSender}
use Rattle.iox2_domain.specs.Histories.{with_history_waiting, HasNewEnd, HandsOut}
use Rattle.iox2_domain.proofs.lemmas.fields.ConnectionEnds.{publisher-stands}
use Rattle.iox2_domain.proofs.lemmas.fields.Standing.{place-within}
use Rattle.iox2_domain.proofs.lemmas.fields.Views.{unblocked}
use Rattle.iox2_steps.proofs.updates.HistoryBounds.{remembered-in_use, remembered-once}
use Rattle.iox2_steps.proofs.updates.HistoryHanded.{hands-out}
use Rattle.iox2_connections.proofs.Histories.{times-last}
use Rattle.iox2_domain.proofs.lemmas.fields.PlacesKept.{places-still, places-then}
use Rattle.iox2_domain.specs.KeptPlaces.{KeepsPlaces}

-- ---- the history goes out

module _ {T U : Type 0} (before f : Fields T U) (same : f ≡ before) (sound : IsDomain f) (i : ℕ) (x : PublisherFields)
    (here : get_or f.publishers i None ≡ Some x)
    (key : ℕ) (c : Link) (there : get f.connections key ≡ Some c) (its : c.home.publisher ≡ x.id) (empty : load c ≡ 0)
    (b : Book) (at : get f.books x.book ≡ Some b) where
  -- it waits in the connection
  pub history-waits : (b2 : Book) → b2 ≡ with_counters b b2.holders → length b2.holders ≡ length b.holders
      → ((slot : ℕ) → holders_at b2 slot ≡ holders_at b slot + times slot (last_n c.buffer (x.history).items))
      → IsWellFormed (with_history_waiting before x c)
      → HandsOut before x c
      (record f {
        connections = with_value f.connections key (record c { waiting = last_n c.buffer (x.history).items });
        books = with_value f.books x.book b2;
      })
  history-waits b2 is2 long counters well =
      subst (λ (h : Fields T U). HandsOut h x c
      (record f {
        connections = with_value f.connections key (record c { waiting = last_n c.buffer (x.history).items });
        books = with_value f.books x.book b2;
      })) same
      (subst (λ (d : Book). HandsOut f x c
      (record f {
        connections = with_value f.connections key (record c { waiting = last_n c.buffer (x.history).items });
        books = with_value f.books x.book d;
      })) (sym is2)
      (hands-out f sound i x here b at key c there its empty b2.holders long counters
      (subst (λ (h : Fields T U). IsWellFormed (with_history_waiting h x c)) (sym same) well)))

-- with the end that a call of it names
module _ {T U : Type 0} (before f : Fields T U) (same : f ≡ before) (agrees : IsDomain before) (i key : ℕ)
    (end : HasNewEnd before i key)
    (x : PublisherFields) (here : get_or f.publishers i None ≡ Some x) where
  sound : IsDomain f
  sound = subst (IsDomain {T = T} {U = U}) (sym same) agrees

  publisher-is : (e : HasNewEnd before i key) → e.publisher ≡ x
  publisher-is e = let both : Some e.publisher ≡ Some x = sym e.stands
      ∙ sym (ap (λ (h : Fields T U). get_or h.publishers i None) same) ∙ here in cc

  there : get f.connections key ≡ Some end.link
  there = ap (λ (h : Fields T U). get h.connections key) same ∙ end.connected

  its : (end.link).home.publisher ≡ x.id
  its = end.is_its ∙ ap (λ (z : PublisherFields). z.id) (publisher-is end)

  -- the connection is there
  pub end-there : ContainsKey f.connections key
  end-there = rw there refl

  link-is : (c : Link) → get f.connections key ≡ Some c → c ≡ end.link
  link-is c at_c = let both : Some c ≡ Some end.link = sym at_c ∙ there in cc

  -- no slot stands in it
  pub end-empty : (c : Link) → get f.connections key ≡ Some c → load c ≡ 0
  end-empty c at_c = ap load (link-is c at_c) ∙ end.empty

  module _ (b : Book) (at : get f.books x.book ≡ Some b) where
    -- each slot of the history has a holder, and may have one more
    pub end-in_use : (slot : ℕ) → 0 < times slot (x.history).items → 0 < holders_at b slot
    end-in_use = remembered-in_use f sound i x here b at

    pub end-fits : ((d : Book) → get before.books (end.publisher).book ≡ Some d → (slot : ℕ)
        → holders_at d slot + 1 < 2 ^ 64)
        → (slot : ℕ) → holders_at b slot + times slot (x.history).items < 2 ^ 64
    end-fits room slot =
        let there_before : get before.books (end.publisher).book ≡ Some b =
        ap (λ (z : PublisherFields). get before.books z.book) (publisher-is end)
        ∙ sym (ap (λ (h : Fields T U). get h.books x.book) same) ∙ at in
        omega (arith, room b there_before slot, remembered-once f sound i x here b at slot)

    -- it gets one at most
    pub end-gains : (n : ℕ) (b2 : Book)
        → ((slot : ℕ) → holders_at b2 slot ≡ holders_at b slot + times slot (last_n n (x.history).items)) → (slot : ℕ)
        → holders_at b2 slot ≤ holders_at b slot + 1
    end-gains n b2 counters slot =
        omega (arith, counters slot, times-last slot n (x.history).items, remembered-once f sound i x here b at slot)

    -- the history waits there
    pub end-handed : (c : Link) → get f.connections key ≡ Some c → (d : Link)
        → d ≡ record c { waiting = last_n c.buffer (x.history).items } → (b2 : Book) → b2 ≡ with_counters b b2.holders
        → length b2.holders ≡ length b.holders
        → ((slot : ℕ) → holders_at b2 slot ≡ holders_at b slot + times slot (last_n c.buffer (x.history).items))
        → (e : HasNewEnd before i key) → HandsOut before e.publisher e.link
        (record f { connections = with_value f.connections key d; books = with_value f.books x.book b2 })
    end-handed c at_c d is_d b2 is2 long counters e =
        subst (λ (z : PublisherFields). HandsOut before z e.link after) (sym (publisher-is e))
        (subst (λ (k : Link). HandsOut before x k after) (sym one)
        (subst (λ (k : Link). HandsOut before x end.link
        (record f { connections = with_value f.connections key k; books = with_value f.books x.book b2 })) (sym d-is)
        (history-waits before f same sound i x here key end.link there its end.empty b at b2 is2 long
        (λ slot. counters slot
        ∙ ap (λ (k : Link). holders_at b slot + times slot (last_n k.buffer (x.history).items)) (link-is c at_c))
        (subst (λ (z : PublisherFields). IsWellFormed (with_history_waiting before z end.link))
        (publisher-is end) end.well_formed))))
      where
        after : Fields T U
        after = record f { connections = with_value f.connections key d; books = with_value f.books x.book b2 }

        one : e.link ≡ end.link
        one = let both : Some e.link ≡ Some end.link = sym e.connected ∙ end.connected in cc

        d-is : d ≡ record end.link { waiting = last_n (end.link).buffer (x.history).items }
        d-is = is_d ∙ ap (λ (k : Link). let filled : Link = record k { waiting = last_n k.buffer (x.history).items } in
            filled) (link-is c at_c)

-- ---- the machine's step

module _ {T U : Type 0} (environment : Environment) (f : Fields T U) (sound : IsDomain f) (i j : ℕ)
    (x : PublisherFields) (at : get_or f.publishers i None ≡ Some x)
    (free : x.blocked ≡ None) (low : j < length f.subscribers) (key : ℕ) (f1 : Fields T U)
    (made : MakesSenderEnd environment f i j x key f1) where
  abbrev s : State T U
  s = state_of (kept_of f)

  abbrev P : Publisher
  P = (publisher_of f.books f.connections x).port

  abbrev q : ℕ
  q = made.link.home.subscriber

  abbrev size : ℕ
  size = made.link.buffer

  -- the publisher with its new key
  abbrev pub keyed : PublisherFields
  keyed = record x { keys = made.keys; key_room = made.key_room }

  keyed-stands : get_or f1.publishers i None ≡ Some keyed
  keyed-stands = ap (λ (h : Fields T U). get_or h.publishers i None) made.fields
      ∙ get_or-set_same f.publishers i (Some keyed) None (within_if_some f.publishers i x at)

  -- the end, with nothing there and with the history
  abbrev bare : SenderSide
  bare = connected [] (sender_side s x.id P) j q size

  abbrev full : SenderSide
  full = connected P.history (sender_side s x.id P) j q size

  waits-is : with_history_waiting f1 keyed made.link ≡ with_sender_side s x.id P full
  waits-is =
      (λ t. record (made.state t) {
        mailboxes = with_box (made.state t).mailboxes x.id q
            (with_waiting (last_n size (map (number_in_slot ((made.fields t).books) x.id) (x.history).items))
            ((made.state t).mailboxes x.id q));
      })
      ∙ ap (λ (boxes : ℕ → ℕ → Mailbox). record (with_sender_side s x.id P full) { mailboxes = boxes }) boxes-are
    where
      rows : ℕ → Mailbox
      rows = bare.mailboxes

      row-is : put_at s.mailboxes x.id bare.mailboxes x.id ≡ bare.mailboxes
      row-is = put_at-same s.mailboxes x.id bare.mailboxes

      old : Mailbox
      old = s.mailboxes x.id q

      boxes-are : with_box (put_at s.mailboxes x.id bare.mailboxes) x.id q
          (with_waiting (last_n size P.history) (put_at s.mailboxes x.id bare.mailboxes x.id q))
          ≡ put_at s.mailboxes x.id full.mailboxes
      boxes-are =
          (λ t. put_at (put_at s.mailboxes x.id bare.mailboxes) x.id
          (put_at (row-is t) q (with_waiting (last_n size P.history) (row-is t q))))
          ∙ put_at-twice s.mailboxes x.id bare.mailboxes
          (put_at bare.mailboxes q (with_waiting (last_n size P.history) (bare.mailboxes q)))
          ∙ ap (put_at s.mailboxes x.id)
          (ap (λ (box : Mailbox). put_at bare.mailboxes q (with_waiting (last_n size P.history) box))
          (put_at-same (s.mailboxes x.id) q (with_waiting (last_n size []) (s.mailboxes x.id q)))
          ∙ put_at-twice (s.mailboxes x.id) q (with_waiting (last_n size []) (s.mailboxes x.id q))
          (with_waiting (last_n size P.history) (s.mailboxes x.id q)))

  present : s.publishers x.id ≡ Some P
  present = publisher-stands f sound.parts i x at

  -- ---- the channel

  -- it has the same as before
  channel-is : s.channels x.id q 0 ≡ channel_at (made.link).channels 0
  channel-is =
      ap (λ (t : State T U). t.channels x.id q 0) (sym made.state)
      ∙ ap (λ (channels : ℕ → ℕ → ℕ → Channel). channels x.id q 0) (channels-are f1)
      ∙ ap (λ (channels : ℕ → Channel). channels 0)
      (channels-there f1.connections key x.id q made.link made.agrees.parts.apart made.stands made.is_its refl)

  -- nothing goes out where it is closed
  history-shut : is_shut made.link ≡ true → histories_of f x q ≡ []
  history-shut shut =
      ap (λ (k : Channel). cond (is_closed k) [] P.history) channel-is ∙ ap (λ (t : Bool). cond t [] P.history) shut

  -- and else the history
  history-open : is_shut made.link ≡ false → histories_of f x q ≡ P.history
  history-open shut =
      ap (λ (k : Channel). cond (is_closed k) [] P.history) channel-is ∙ ap (λ (t : Bool). cond t [] P.history) shut

  -- where it is closed the machine's step is done
  pub connects-shut : (c : Link) → get f1.connections key ≡ Some c → is_shut c ≡ true
      → ConnectsSender environment f i j x f1 None
  connects-shut c at_c shut = record {
    agrees = made.agrees;
    keys = made.keys;
    key_room = made.key_room;
    fields =
        made.fields ∙ (λ t. record f {
          publishers = slice_set f.publishers i (Some keyed);
          subscribers = f1.subscribers;
          connections = f1.connections;
          books = sym books-same t;
          warnings = sym warnings-same t;
        });
    others = made.others;
    side = bare;
    steps = subst (λ (ns : List ℕ). UpdateSenderPlace environment (f.config).service_id x.id P.degradation_handler
        (histories_of f x) (receiving_buffer s) (has_receiver_end s x.id)
        j (occupant s.subscriber_places j) (sender_side s x.id P) (connected ns (sender_side s x.id P) j q size) None)
        (history-shut (ap is_shut is ∙ shut)) made.steps;
    state = but-channels f1 (with_sender_side s x.id P bare) made.state;
    channels = made.channels;
    entries = λ n entry e. sym (ap (λ (h : Fields T U). entries_of (kept_of h) n) made.fields) ∙ e;
    places = subst (λ (h : Fields T U). KeepsPlaces f h) (sym made.fields) places-still;
  } where
    is : made.link ≡ c
    is = let both : Some made.link ≡ Some c = sym made.stands ∙ at_c in cc

    warnings-same : f1.warnings ≡ f.warnings
    warnings-same = ap (λ (h : Fields T U). h.warnings) made.fields

    books-same : f1.books ≡ f.books
    books-same = ap (λ (h : Fields T U). h.books) made.fields

  -- ---- where it isn't

  module _ (c : Link) (at_c : get f1.connections key ≡ Some c) (at_open : is_shut c ≡ false) where
    history-is : histories_of f x q ≡ P.history
    history-is = history-open (ap is_shut
        (let both : Some made.link ≡ Some c = sym made.stands ∙ at_c in let is : made.link ≡ c = cc in is) ∙ at_open)

    steps-full : UpdateSenderPlace environment (f.config).service_id x.id P.degradation_handler (histories_of f x)
        (receiving_buffer s) (has_receiver_end s x.id)
        j (occupant s.subscriber_places j) (sender_side s x.id P) full None
    steps-full = subst (λ (ns : List ℕ). UpdateSenderPlace environment (f.config).service_id x.id P.degradation_handler
        (histories_of f x) (receiving_buffer s) (has_receiver_end s x.id)
        j (occupant s.subscriber_places j) (sender_side s x.id P) (connected ns (sender_side s x.id P) j q size) None)
        history-is made.steps

    well : IsWellFormed (with_sender_side s x.id P full)
    well =
        with_sender_side_keeps s sound.well_formed x.id P present (unblocked f.books f.connections x free) full
        (performed_keeps s sound.well_formed x.id P present environment j _ _ (sender_side s x.id P) full None
        (place-within f j low) refl refl (sender_side_begins s sound.well_formed x.id P present) steps-full)

    -- the history may go out
    pub new-end : HasNewEnd f1 i key
    new-end = record {
      publisher = keyed;
      stands = keyed-stands;
      link = made.link;
      connected = made.stands;
      is_its = made.is_its;
      empty = made.empty;
      well_formed = subst IsWellFormed (sym waits-is) well;
    }

    -- and then the machine's step is done
    pub connects-with-history : (f2 : Fields T U) → ((end : HasNewEnd f1 i key) → HandsOut f1 end.publisher end.link f2)
        → ConnectsSender environment f i j x f2 None
    unfolding new-end
    connects-with-history f2 hands = record {
      agrees = out.agrees;
      keys = made.keys;
      key_room = made.key_room;
      fields = out.fields ∙ (λ t. record (made.fields t) { connections = f2.connections; books = f2.books })
          ∙ (λ t. record f {
            publishers = slice_set f.publishers i (Some keyed);
            subscribers = sym (ap (λ (h : Fields T U). h.subscribers) out.fields) t;
            connections = f2.connections;
            books = f2.books;
            warnings = sym warnings-same t;
          });
      others = ap (λ (h : Fields T U). map (option_map subscriber_but_room) h.subscribers) out.fields ∙ made.others;
      side = full;
      steps = steps-full;
      state = but-channels f2 (with_sender_side s x.id P full) (out.state ∙ waits-is);
      channels = follow-both (λ home. home.publisher ≡ x.id)
          (λ p r. s.subscribers r ≡ None) f.connections f1.connections f2.connections made.channels
          (follow-same (λ home. home.publisher ≡ x.id)
          (λ p r. s.subscribers r ≡ None) f1.connections f2.connections out.homes);
      entries =
          λ n entry e. sym (ap (λ (h : Fields T U). entries_of (kept_of h) n) made.fields) ∙ out.entries n entry e;
      places = places-then (subst (λ (h : Fields T U). KeepsPlaces f h) (sym made.fields) places-still) out.places;
    } where
      out : HandsOut f1 keyed made.link f2
      out = hands new-end

      warnings-same : f2.warnings ≡ f.warnings
      warnings-same = ap (λ (h : Fields T U). h.warnings) out.fields ∙ ap (λ (h : Fields T U). h.warnings) made.fields
