-- Whether a channel is in one state at all connections of a subscriber is what the machine says.
use Rattle.std.proofs.Common.{◌≡◌, ℕ, zero, suc, ◌+◌, ◌<◌, Bool, true, false, ◌&&◌, List, [], ◌∷◌, ◌++◌, length, map}
use Rattle.std.proofs.Common.{drop, Option, None, Some, get_or, refl, sym, ap, ◌∙◌}
use Rattle.std.specs.List.{list_all}
use Rattle.std.specs.Option.{option_map, option_map_or}
use Rattle.std.specs.Prelude.{IsSomeAnd}
use Rattle.std.proofs.lemmas.List.{map-id}
use Rattle.std.proofs.lemmas.List.Folds.{list_all-append}
use Rattle.slab.specs.Slab.{Slab, get}
use Rattle.iox2_connections.specs.Link.{Link, channel_at}
use Rattle.iox2_machine.specs.machine.Channel.{Channel, is_in_state}
use Rattle.iox2_machine.specs.machine.ChannelCalls.{senders_of}
use Rattle.iox2_machine.specs.machine.Places.{occupants}
use Rattle.iox2_machine.specs.machine.Records.{Subscriber}
use Rattle.iox2_machine.specs.machine.State.{State, connected_publishers}
use Rattle.iox2_connections.specs.Finds.{IsReceivers, IsReceiverLinked}
use Rattle.iox2_connections.specs.Homes.{IsApart}
use Rattle.iox2_connections.specs.Mailboxes.{channels_in, receiver_ends}
use Rattle.iox2_connections.proofs.MailboxChanges.{channels-there}
use Rattle.iox2_domain.specs.Fields.{Fields, kept_of}
use Rattle.iox2_domain.specs.Invariant.{IsDomain}
use Rattle.iox2_domain.specs.Kept.{state_of}
use Rattle.iox2_domain.specs.Ports.{SubscriberFields}
use Rattle.iox2_domain.proofs.lemmas.fields.ConnectionEnds.{subscriber-stands}
use Rattle.iox2_domain.proofs.lemmas.fields.KeptChannels.{channels-are}
use Rattle.iox2_domain.proofs.lemmas.receives.ReceiptSteps.{HasKeys, same-one}
use Rattle.iox2_messages.specs.KeyChannels.{all_in_state, key_in_no_other}
use Rattle.iox2_messages.proofs.AskedChannels.{listed-drop}

-- ---- walks over keys

module _ (connections : Slab Link) (number state : ℕ) {A : Type 0} (key_of : A → Option ℕ) (xs : List A) (i : ℕ) (x : A)
    (key : Option ℕ) (b : Bool)
    (below : i < length xs) (there : x ≡ get_or xs i x) (its : key ≡ key_of x)
    (is : b ≡ key_in_no_other connections number state key) where
  -- a key that is so says nothing of the others
  pub all-behind : b ≡ true → all_in_state connections number state
      (drop i (map key_of xs)) ≡ all_in_state connections number state (drop (i + 1) (map key_of xs))
  all-behind holds =
      ap (all_in_state connections number state) (listed-drop key_of xs i x key below there its)
      ∙ ap (λ (c : Bool). c && all_in_state connections number state (drop (i + 1) (map key_of xs))) (sym is ∙ holds)

  -- one that isn't tells all
  pub not-here : b ≡ false → all_in_state connections number state (drop i (map key_of xs)) ≡ false
  not-here fails =
      ap (all_in_state connections number state) (listed-drop key_of xs i x key below there its)
      ∙ ap (λ (c : Bool). c && all_in_state connections number state (drop (i + 1) (map key_of xs))) (sym is ∙ fails)

-- ---- one answer after another

-- what tells of one tells of both
pub untold-first : (told a b : Bool) → told ≡ a → told ≡ false → told ≡ (a && b)
untold-first told a b is fails = fails ∙ ap (λ (c : Bool). c && b) (sym (sym is ∙ fails))

-- and else the other does
pub untold-later : (told later a b : Bool) → told ≡ a → told ≡ true → later ≡ b → later ≡ (a && b)
untold-later told later a b is holds later_is = later_is ∙ ap (λ (c : Bool). c && b) (sym (sym is ∙ holds))

-- ---- a subscriber's connections

module _ (q most number state : ℕ) (connections : Slab Link) (apart : IsApart connections) where
  -- of the publishers to which keys lead, all have a channel in the state where none of the keys leads to one in
  -- another
  among : (keys : List (Option ℕ)) → IsReceiverLinked q most connections keys
      → list_all (λ p. is_in_state state (channels_in connections p q number))
      (occupants (receiver_ends connections keys)) ≡ all_in_state connections number state keys
  among [] linked = refl
  among (None ∷ keys) linked = among keys (record { at = λ i k e. linked.at (suc i) k e })
  among (Some key ∷ keys) linked = by (get connections key) refl (linked.at zero key refl)
      (among keys (record { at = λ i k e. linked.at (suc i) k e })) where
        by : (o : Option Link) → get connections key ≡ o → IsSomeAnd o (IsReceivers q most)
            → list_all (λ p. is_in_state state (channels_in connections p q number))
            (occupants (receiver_ends connections keys)) ≡ all_in_state connections number state keys
            → list_all (λ p. is_in_state state (channels_in connections p q number))
            (occupants (option_map (λ (c : Link). c.home.publisher) o ∷ receiver_ends connections keys))
            ≡ (option_map_or (λ (c : Link). is_in_state state (channel_at c.channels number)) o true
            && all_in_state connections number state keys)
        by None e h rest = absurd h
        by (Some c) e h rest =
            ap (λ (channels : ℕ → Channel). is_in_state state (channels number) && list_all
            (λ p. is_in_state state (channels_in connections p q number)) (occupants (receiver_ends connections keys)))
            (channels-there connections key c.home.publisher q c apart e refl h.subscriber)
            ∙ ap (λ (b : Bool). is_in_state state (channel_at c.channels number) && b) rest

-- the machine's answer: at each connection the channel is in the state
abbrev all_have_state : {T U : Type 0} → State T U → (q number state : ℕ) → Bool
all_have_state s q number state = list_all (λ p. is_in_state state (s.channels p q number)) (senders_of s q)

module _ {T U : Type 0} (f : Fields T U) (sound : IsDomain f) (i : ℕ) (y : SubscriberFields)
    (at : get_or f.subscribers i None ≡ Some y) (number state : ℕ) where
  abbrev expired : List ℕ
  expired = occupants (receiver_ends f.connections (map Some y.expired))

  abbrev ends : List ℕ
  ends = occupants (receiver_ends f.connections y.keys)

  -- what a subscriber's keys tell
  received-all : (all_in_state f.connections number state (map Some y.expired)
      && all_in_state f.connections number state y.keys) ≡ all_have_state (state_of (kept_of f)) y.id number state
  received-all = sym (
      ap (λ (o : Option Subscriber). list_all (λ p. is_in_state state ((state_of (kept_of f)).channels p y.id number))
      (option_map_or (λ (z : Subscriber). connected_publishers z) o [])) (subscriber-stands f sound.parts i y at)
      ∙ ap (λ (channels : ℕ → ℕ → ℕ → Channel).
      list_all (λ p. is_in_state state (channels p y.id number)) (expired ++ ends)) (channels-are f)
      ∙ list_all-append (λ p. is_in_state state (channels_in f.connections p y.id number)) expired ends
      ∙ ap (λ (b : Bool). b && list_all (λ p. is_in_state state (channels_in f.connections p y.id number)) ends)
      (among y.id (f.config).subscriber_max_borrowed_samples number state f.connections sound.parts.apart
      (map Some y.expired) (sound.parts.linked.expired i y at))
      ∙ ap (λ (b : Bool). all_in_state f.connections number state (map Some y.expired) && b)
      (among y.id (f.config).subscriber_max_borrowed_samples number state f.connections sound.parts.apart y.keys
      (sound.parts.linked.receivers i y at)))

module _ {T U : Type 0} (f now : Fields T U) (place : ℕ) (z : SubscriberFields) (keys : List ℕ)
    (places : List (Option ℕ)) (has : HasKeys f now place z keys places) (number state : ℕ) where
  -- the same as the code reads it
  pub asked-all : (y : SubscriberFields) → get_or now.subscribers place None ≡ Some y
      → (all_in_state f.connections number state (map Some keys) && all_in_state f.connections number state
      (map (λ (key : Option ℕ). key) places)) ≡ list_all
      (λ p. is_in_state state ((state_of (kept_of now)).channels p y.id number))
      (senders_of (state_of (kept_of now)) y.id)
  asked-all y at =
      ap (λ (xs : List (Option ℕ)). all_in_state f.connections number state
      (map Some keys) && all_in_state f.connections number state xs) (map-id places)
      ∙ ap (λ (xs : List ℕ). all_in_state f.connections number state
      (map Some xs) && all_in_state f.connections number state places) has.expired_is
      ∙ ap (λ (xs : List (Option ℕ)). all_in_state f.connections number state
      (map Some z.expired) && all_in_state f.connections number state xs) has.places_is
      ∙ ap (λ (h : Fields T U). all_in_state h.connections number state
      (map Some z.expired) && all_in_state h.connections number state z.keys) has.same
      ∙ received-all now has.sound place z has.stands number state
      ∙ ap (λ (w : SubscriberFields). all_have_state (state_of (kept_of now)) w.id number state)
      (same-one f now place z keys places has y at)
