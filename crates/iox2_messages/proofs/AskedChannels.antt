-- What ports are told of their channels is what the machine says.
use Rattle.std.proofs.Common.{◌≡◌, ℕ, zero, suc, ◌+◌, ◌<◌, Bool, true, false, ◌||◌, List, [], ◌∷◌, ◌++◌, length, map}
use Rattle.std.proofs.Common.{drop, Option, None, Some, get_or, refl, sym, ap, ◌∙◌, arith}
use Rattle.std.specs.List.{list_any}
use Rattle.std.specs.Option.{option_and_then, option_map, option_map_or}
use Rattle.std.specs.Prelude.{IsSomeAnd}
use Rattle.std.proofs.lemmas.List.{drop_more, get_or_read, length-map, map-id}
use Rattle.std.proofs.lemmas.List.Folds.{list_any-append}
use Rattle.slab.specs.Slab.{Slab, get}
use Rattle.iox2_connections.specs.Link.{Link, channel_at}
use Rattle.iox2_machine.specs.machine.Channel.{Channel, is_in_state}
use Rattle.iox2_machine.specs.machine.ChannelCalls.{connection_place, place_from, some_channel_has_state}
use Rattle.iox2_machine.specs.machine.Places.{occupant, occupants}
use Rattle.iox2_machine.specs.machine.Records.{Publisher, Subscriber}
use Rattle.iox2_machine.specs.machine.State.{connected_publishers}
use Rattle.iox2_connections.specs.Finds.{IsReceivers, IsReceiverLinked}
use Rattle.iox2_connections.specs.Homes.{IsApart, IsSenders}
use Rattle.iox2_connections.specs.Mailboxes.{channels_in, receiver_ends, sender_ends, subscriber_of_key}
use Rattle.iox2_connections.proofs.MailboxChanges.{channels-there, within_if_some}
use Rattle.iox2_connections.proofs.Searches.{listed-at}
use Rattle.iox2_domain.specs.Fields.{Fields, kept_of}
use Rattle.iox2_domain.specs.Invariant.{IsDomain}
use Rattle.iox2_domain.specs.Kept.{state_of}
use Rattle.iox2_domain.specs.Ports.{PublisherFields, SubscriberFields}
use Rattle.iox2_domain.specs.Updates.{sender_key}
use Rattle.iox2_domain.proofs.lemmas.fields.ConnectionEnds.{occupant-sender_ends, publisher-stands, subscriber-stands}
use Rattle.iox2_domain.proofs.lemmas.fields.KeptChannels.{channels-are}
use Rattle.iox2_domain.proofs.lemmas.receives.ReceiptSteps.{HasKeys, same-one}
use Rattle.iox2_messages.specs.KeyChannels.{key_in_state, some_in_state}

-- ---- walks over keys

-- what is left of the keys in a list begins with this one, where this is the element there and its key
pub listed-drop : {A : Type 0} (key_of : A → Option ℕ) (xs : List A) (i : ℕ) (x : A) (key : Option ℕ) → i < length xs
    → x ≡ get_or xs i x → key ≡ key_of x
    → drop i (map key_of xs) ≡ (key ∷ drop (i + 1) (map key_of xs))
listed-drop key_of xs i x key below there its =
    drop_more (map key_of xs) i None (omega (arith, below, length-map xs key_of))
    ∙ ap (λ (first : Option ℕ). first ∷ drop (i + 1) (map key_of xs)) (listed-at key_of xs i x key below there its)

module _ (connections : Slab Link) (number state : ℕ) {A : Type 0} (key_of : A → Option ℕ) (xs : List A) (i : ℕ) (x : A)
    (key : Option ℕ) (b : Bool)
    (below : i < length xs) (there : x ≡ get_or xs i x) (its : key ≡ key_of x)
    (is : b ≡ key_in_state connections number state key) where
  -- a key that isn't in the state says nothing of the others
  pub some-behind : b ≡ false → some_in_state connections number state
      (drop i (map key_of xs)) ≡ some_in_state connections number state (drop (i + 1) (map key_of xs))
  some-behind fails =
      ap (some_in_state connections number state) (listed-drop key_of xs i x key below there its)
      ∙ ap (λ (c : Bool). c || some_in_state connections number state (drop (i + 1) (map key_of xs))) (sym is ∙ fails)

  -- one that is tells all
  pub some-here : b ≡ true → some_in_state connections number state (drop i (map key_of xs)) ≡ true
  some-here holds =
      ap (some_in_state connections number state) (listed-drop key_of xs i x key below there its)
      ∙ ap (λ (c : Bool). c || some_in_state connections number state (drop (i + 1) (map key_of xs))) (sym is ∙ holds)

-- ---- one answer after another

-- what tells of one tells of both
pub told-first : (told a b : Bool) → told ≡ a → told ≡ true → told ≡ (a || b)
told-first told a b is holds = holds ∙ ap (λ (c : Bool). c || b) (sym (sym is ∙ holds))

-- and else the other does
pub told-later : (told later a b : Bool) → told ≡ a → told ≡ false → later ≡ b → later ≡ (a || b)
told-later told later a b is fails later_is = later_is ∙ ap (λ (c : Bool). c || b) (sym (sym is ∙ fails))

-- ---- a subscriber's connections

module _ (q most number state : ℕ) (connections : Slab Link) (apart : IsApart connections) where
  -- of the publishers to which keys lead, one has a channel in the state where one of the keys leads to it
  among : (keys : List (Option ℕ)) → IsReceiverLinked q most connections keys
      → list_any (λ p. is_in_state state (channels_in connections p q number))
      (occupants (receiver_ends connections keys)) ≡ some_in_state connections number state keys
  among [] linked = refl
  among (None ∷ keys) linked = among keys (record { at = λ i k e. linked.at (suc i) k e })
  among (Some key ∷ keys) linked = by (get connections key) refl (linked.at zero key refl)
      (among keys (record { at = λ i k e. linked.at (suc i) k e })) where
        by : (o : Option Link) → get connections key ≡ o → IsSomeAnd o (IsReceivers q most)
            → list_any (λ p. is_in_state state (channels_in connections p q number))
            (occupants (receiver_ends connections keys)) ≡ some_in_state connections number state keys
            → list_any (λ p. is_in_state state (channels_in connections p q number))
            (occupants (option_map (λ (c : Link). c.home.publisher) o ∷ receiver_ends connections keys))
            ≡ (option_map_or (λ (c : Link). is_in_state state (channel_at c.channels number)) o false
            || some_in_state connections number state keys)
        by None e h rest = absurd h
        by (Some c) e h rest =
            ap (λ (channels : ℕ → Channel). is_in_state state (channels number) || list_any
            (λ p. is_in_state state (channels_in connections p q number)) (occupants (receiver_ends connections keys)))
            (channels-there connections key c.home.publisher q c apart e refl h.subscriber)
            ∙ ap (λ (b : Bool). is_in_state state (channel_at c.channels number) || b) rest

module _ {T U : Type 0} (f : Fields T U) (sound : IsDomain f) (i : ℕ) (y : SubscriberFields)
    (at : get_or f.subscribers i None ≡ Some y) (number state : ℕ) where
  abbrev expired : List ℕ
  expired = occupants (receiver_ends f.connections (map Some y.expired))

  abbrev ends : List ℕ
  ends = occupants (receiver_ends f.connections y.keys)

  -- what a subscriber's keys tell
  received-in : (some_in_state f.connections number state (map Some y.expired) || some_in_state f.connections number
      state y.keys) ≡ some_channel_has_state (state_of (kept_of f)) y.id number state
  received-in = sym (
      ap (λ (o : Option Subscriber). list_any (λ p. is_in_state state ((state_of (kept_of f)).channels p y.id number))
      (option_map_or (λ (z : Subscriber). connected_publishers z) o [])) (subscriber-stands f sound.parts i y at)
      ∙ ap (λ (channels : ℕ → ℕ → ℕ → Channel).
      list_any (λ p. is_in_state state (channels p y.id number)) (expired ++ ends)) (channels-are f)
      ∙ list_any-append (λ p. is_in_state state (channels_in f.connections p y.id number)) expired ends
      ∙ ap (λ (b : Bool). b || list_any (λ p. is_in_state state (channels_in f.connections p y.id number)) ends)
      (among y.id (f.config).subscriber_max_borrowed_samples number state f.connections sound.parts.apart
      (map Some y.expired) (sound.parts.linked.expired i y at))
      ∙ ap (λ (b : Bool). some_in_state f.connections number state (map Some y.expired) || b)
      (among y.id (f.config).subscriber_max_borrowed_samples number state f.connections sound.parts.apart y.keys
      (sound.parts.linked.receivers i y at)))

module _ {T U : Type 0} (f now : Fields T U) (place : ℕ) (z : SubscriberFields) (keys : List ℕ)
    (places : List (Option ℕ)) (has : HasKeys f now place z keys places) (number state : ℕ) where
  -- the same as the code reads it
  pub asked-received : (y : SubscriberFields) → get_or now.subscribers place None ≡ Some y
      → (some_in_state f.connections number state (map Some keys) || some_in_state f.connections number state
      (map (λ (key : Option ℕ). key) places)) ≡ some_channel_has_state (state_of (kept_of now)) y.id number state
  asked-received y at =
      ap (λ (xs : List (Option ℕ)). some_in_state f.connections number state
      (map Some keys) || some_in_state f.connections number state xs) (map-id places)
      ∙ ap (λ (xs : List ℕ). some_in_state f.connections number state
      (map Some xs) || some_in_state f.connections number state places) has.expired_is
      ∙ ap (λ (xs : List (Option ℕ)). some_in_state f.connections number state
      (map Some z.expired) || some_in_state f.connections number state xs) has.places_is
      ∙ ap (λ (h : Fields T U). some_in_state h.connections number state
      (map Some z.expired) || some_in_state h.connections number state z.keys) has.same
      ∙ received-in now has.sound place z has.stands number state
      ∙ ap (λ (w : SubscriberFields). some_channel_has_state (state_of (kept_of now)) w.id number state)
      (same-one f now place z keys places has y at)

-- ---- a publisher's connections

module _ {T U : Type 0} (f : Fields T U) (sound : IsDomain f) (i : ℕ) (x : PublisherFields)
    (at : get_or f.publishers i None ≡ Some x) where
  -- the place at which a subscriber stands among a publisher's keys
  pub placed : (q : ℕ)
      → place_from 0 (sender_ends f.connections x.keys) q ≡ connection_place (state_of (kept_of f)) x.id q
  placed q =
      sym (ap (option_and_then (λ (z : Publisher). place_from 0 z.ends q)) (publisher-stands f sound.parts i x at))

  module _ (number : ℕ) (test : Channel → Bool) where
    -- what a test says of the channel to which the key leads
    abbrev tested : Option ℕ → Bool
    tested key = option_map_or (λ (c : Link). test (channel_at c.channels number))
        (option_and_then (get f.connections) key) false

    to-place : (other : ℕ) → tested (get_or x.keys other None)
        ≡ option_map_or (λ q. test ((state_of (kept_of f)).channels x.id q number))
        (occupant (sender_ends f.connections x.keys) other) false
    to-place other =
        by (get_or x.keys other None) refl
        ∙ ap (λ (o : Option ℕ). option_map_or (λ q. test (channels_in f.connections x.id q number)) o false)
        (sym (occupant-sender_ends f.connections x.keys other))
        ∙ ap (λ (channels : ℕ → ℕ → ℕ → Channel). option_map_or (λ q. test (channels x.id q number))
        (occupant (sender_ends f.connections x.keys) other) false) (sym (channels-are f))
      where
        at_link : (key : ℕ) (o : Option Link) → get f.connections key ≡ o → IsSomeAnd o (IsSenders x.id other)
            → option_map_or (λ (c : Link). test (channel_at c.channels number)) o false
            ≡ option_map_or (λ q. test (channels_in f.connections x.id q number))
            (option_map (λ (c : Link). c.home.subscriber) o) false
        at_link key None e h = refl
        at_link key (Some c) e h = ap (λ (channels : ℕ → Channel). test (channels number))
            (sym (channels-there f.connections key x.id c.home.subscriber c sound.parts.apart e h.publisher refl))

        by : (o : Option ℕ) → get_or x.keys other None ≡ o
            → tested o ≡ option_map_or (λ q. test (channels_in f.connections x.id q number))
            (subscriber_of_key f.connections o) false
        by None e = refl
        by (Some key) e = at_link key (get f.connections key) refl ((sound.parts.linked.senders i x at).at other key e)

    -- so it says of the machine's, where the publisher's key at a place is read
    pub sent : (other : ℕ) → tested (sender_key f.publishers i other)
        ≡ option_map_or (λ q. test ((state_of (kept_of f)).channels x.id q number))
        (option_and_then (λ (z : Publisher). occupant z.ends other) ((state_of (kept_of f)).publishers x.id)) false
    sent other =
        ap (λ (o : Option PublisherFields).
        tested (option_and_then (λ (z : PublisherFields). get_or z.keys other None) o)) at
        ∙ to-place other
        ∙ ap (λ (o : Option Publisher). option_map_or (λ q. test ((state_of (kept_of f)).channels x.id q number))
        (option_and_then (λ (z : Publisher). occupant z.ends other) o) false)
        (sym (publisher-stands f sound.parts i x at))

module _ {T U : Type 0} (f now : Fields T U) (same : f ≡ now) (sound : IsDomain now) (i : ℕ) where
  -- the same of a publisher that was read, by its keys
  pub asked-place : (o : Option PublisherFields) (x z : PublisherFields) (keys : List (Option ℕ))
      → (w : PublisherFields) × (get_or now.publishers i None ≡ Some w) → o ≡ get_or f.publishers i o → o ≡ Some x
      → z ≡ x → keys ≡ z.keys
      → (q : ℕ) (y : PublisherFields) → get_or now.publishers i None ≡ Some y
      → place_from 0 (sender_ends f.connections keys) q ≡ connection_place (state_of (kept_of now)) y.id q
  asked-place o x z keys stands read is is_x keys_is q y at =
      let there : get_or f.publishers i None ≡ Some stands.0 =
      ap (λ (h : Fields T U). get_or h.publishers i None) same ∙ stands.1 in
      let found : o ≡ get_or f.publishers i None =
      get_or_read f.publishers i o (within_if_some f.publishers i stands.0 there) read None in
      let both : Some x ≡ Some y = sym is ∙ found ∙ ap (λ (h : Fields T U). get_or h.publishers i None) same ∙ at in
      let one : x ≡ y = cc in
      ap (λ (xs : List (Option ℕ)). place_from 0 (sender_ends f.connections xs) q)
      (keys_is ∙ ap (λ (v : PublisherFields). v.keys) (is_x ∙ one))
      ∙ ap (λ (h : Fields T U). place_from 0 (sender_ends h.connections y.keys) q) same
      ∙ placed now sound i y at q

  -- and of its key at a place
  pub asked-sent : (number : ℕ) (test : Channel → Bool) (other : ℕ) (publishers : List (Option PublisherFields))
      (key : Option ℕ) → publishers ≡ f.publishers → key ≡ sender_key publishers i other
      → (x : PublisherFields) → get_or now.publishers i None ≡ Some x
      → option_map_or (λ (c : Link). test (channel_at c.channels number))
      (option_and_then (get f.connections) key) false
      ≡ option_map_or (λ q. test ((state_of (kept_of now)).channels x.id q number))
      (option_and_then (λ (z : Publisher). occupant z.ends other) ((state_of (kept_of now)).publishers x.id)) false
  asked-sent number test other publishers key read is x at =
      ap (λ (k : Option ℕ). option_map_or (λ (c : Link). test (channel_at c.channels number))
      (option_and_then (get f.connections) k) false)
      (is ∙ ap (λ (xs : List (Option PublisherFields)). sender_key xs i other) read)
      ∙ ap (λ (h : Fields T U). option_map_or (λ (c : Link). test (channel_at c.channels number))
      (option_and_then (get h.connections) (sender_key h.publishers i other)) false) same
      ∙ sent now sound i x at number test other
