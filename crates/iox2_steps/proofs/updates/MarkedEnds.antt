-- The mark of a publisher's end at a subscriber's place is set or cleared.
use Rattle.std.proofs.Common.{map, ◌≡◌, ◌≢◌, ℕ, ◌+◌, ◌<◌, ◌≤◌, true, false, not, length, get_or, refl, ap, sym, subst}
use Rattle.std.proofs.Common.{◌∙◌, inl, inr, Option, None, Some, arith, List}
use Rattle.std.proofs.lemmas.Bool.{cases_eq, true≢false}
use Rattle.std.proofs.lemmas.Option.{same_Some}
use Rattle.std.specs.Prelude.{IsSomeAnd}
use Rattle.std.specs.Option.{option_map, option_and_then, option_map_or}
use Rattle.slab.specs.Slab.{ContainsKey, get, with_value}
use Rattle.iox2_connections.specs.Link.{Link, is_shut, with_mark}
use Rattle.iox2_machine.specs.declared.errors.ConnectionFailure.{ConnectionFailure}
use Rattle.iox2_machine.specs.machine.Ports.{publisher_closed, subscriber_closed}
use Rattle.iox2_machine.specs.machine.Records.{Environment}
use Rattle.iox2_machine.specs.machine.State.{State}
use Rattle.iox2_connections.specs.Homes.{IsSenders}
use Rattle.iox2_connections.proofs.MailboxChanges.{Updates-with_value, within_if_some}
use Rattle.iox2_domain.specs.Connects.{ConnectsSender}
use Rattle.iox2_domain.specs.Fields.{Fields, kept_of, publisher_of, subscriber_of}
use Rattle.iox2_domain.specs.Invariant.{IsBetweenOpen, IsDomain}
use Rattle.iox2_domain.specs.Kept.{Kept, state_of, entries_of}
use Rattle.iox2_domain.specs.OpenMarks.{ChangesMarks, ClearsEnd, ClearsMarks, IsUnmarkedReceiver, IsUnmarkedSender}
use Rattle.iox2_domain.specs.Ports.{PublisherFields, SubscriberFields}
use Rattle.iox2_domain.specs.Reaches.{Reaches}
use Rattle.iox2_domain.specs.Updates.{is_open_subscriber, sender_key}
use Rattle.iox2_machine.specs.machine.PublisherUpdate.{with_sender_side}
use Rattle.iox2_steps.proofs.updates.FollowedChannels.{follow-both, follow-still}
use Rattle.iox2_domain.proofs.lemmas.containers.LookUps.{map-at}
use Rattle.iox2_domain.proofs.lemmas.fields.ChangedMarks.{changes-mark, mark-was}
use Rattle.iox2_domain.proofs.lemmas.fields.Standing.{key-sender, some_is}
use Rattle.iox2_domain.specs.KeptPlaces.{KeepsPlaces}
use Rattle.iox2_domain.proofs.lemmas.fields.PlacesKept.{places-still, places-then}

module _ {T U : Type 0} (f : Fields T U) where
  -- nothing changed
  pub changes-none : IsDomain f → ChangesMarks f f
  changes-none sound = record { agrees = sound; fields = refl; kept = refl; same = record { same = λ key. refl } }

  pub clears-none : IsDomain f → ClearsMarks f f
  clears-none sound = record { changes = changes-none sound; fewer = λ key c at is. at }

-- one change of marks after the other
pub changes-trans : {T U : Type 0} (f g h : Fields T U) → ChangesMarks f g → ChangesMarks g h → ChangesMarks f h
changes-trans f g h a b = record {
  agrees = b.agrees;
  fields = b.fields ∙ (λ t. record (a.fields t) { connections = h.connections });
  kept = b.kept ∙ a.kept;
  same = record { same = λ key. b.same.same key ∙ a.same.same key };
}

pub clears-trans : {T U : Type 0} (f g h : Fields T U) → ClearsMarks f g → ClearsMarks g h → ClearsMarks f h
clears-trans f g h a b = record {
  changes = changes-trans f g h a.changes b.changes;
  fewer = λ key c at is. a.fewer key c (b.fewer key c at is) is;
}

-- a publisher that has got its end has it where marks changed then
pub connects-marked : {T U : Type 0} (environment : Environment) (f g h : Fields T U) (i j : ℕ) (x : PublisherFields)
    (failure : Option ConnectionFailure)
    → ConnectsSender environment f i j x g failure → ChangesMarks g h → ConnectsSender environment f i j x h failure
connects-marked {T} {U} environment f g h i j x failure connects marks =
    subst (λ (k : Fields T U). ConnectsSender environment f i j x k failure) (sym marks.fields) (record {
      agrees = subst IsDomain marks.fields marks.agrees;
      keys = connects.keys;
      key_room = connects.key_room;
      fields = λ t. record (connects.fields t) { connections = h.connections };
      others = connects.others;
      side = connects.side;
      steps = connects.steps;
      state = ap state_of kept ∙ connects.state
          ∙ ap (λ (k : Kept T U ⊥ ⊥). let t : State T U = with_sender_side (state_of (kept_of f)) x.id
          (publisher_of f.books f.connections x).port connects.side in record t { channels = (state_of k).channels })
          (sym kept);
      channels = follow-both (λ home. home.publisher ≡ x.id) (λ p q. (state_of (kept_of f)).subscribers q ≡ None)
          f.connections g.connections h.connections connects.channels
          (follow-still (λ home. home.publisher ≡ x.id)
          (λ p q. (state_of (kept_of f)).subscribers q ≡ None) g.connections h.connections marks.same);
      entries = λ n entry e. connects.entries n entry (sym (ap (λ (k : Kept T U ⊥ ⊥). entries_of k n) kept) ∙ e);
      places = connects.places;
    })
  where
    kept : kept_of (record g { connections = h.connections }) ≡ kept_of g
    kept = ap kept_of (sym marks.fields) ∙ marks.kept

module _ {T U : Type 0} (f : Fields T U) (sound : IsDomain f) (i j key : ℕ)
    (named : sender_key f.publishers i j ≡ Some key) where
  -- who has the key
  holder : (x : PublisherFields) × (get_or f.publishers i None ≡ Some x) × (get_or x.keys j None ≡ Some key)
  holder = by (get_or f.publishers i None) refl named where
    by : (o : Option PublisherFields) → get_or f.publishers i None ≡ o
        → option_and_then (λ (x : PublisherFields). get_or x.keys j None) o ≡ Some key
        → (x : PublisherFields) × (get_or f.publishers i None ≡ Some x) × (get_or x.keys j None ≡ Some key)
    by None e h = absurd (let no : None ≡ Some key = h in cc)
    by (Some x) e h = (x, e, h)

  link : (c : Link) × (get f.connections key ≡ Some c) × IsSenders (holder.0).id j c
  link = some_is (IsSenders (holder.0).id j) (get f.connections key)
      ((sound.parts.linked.senders i holder.0 holder.1).at j key holder.2)

  -- it leads to a connection
  pub end-there : ContainsKey f.connections key
  end-there = rw link.1 refl

  module _ (c : Link) (at : get f.connections key ≡ Some c) where
    own : IsSenders (holder.0).id j c
    own = subst (IsSenders (holder.0).id j) (same_Some link.0 c (sym link.1 ∙ at)) link.2

    -- which may be marked where its subscriber stands at the place and is open
    pub end-open : IsSomeAnd (get_or f.subscribers j None) (λ (y : SubscriberFields). y.id ≡ c.home.subscriber)
        → is_open_subscriber f.subscribers j ≡ true
        → IsBetweenOpen f.publishers f.subscribers key c
    end-open stands is_open =
        let y = some_is (λ (y : SubscriberFields). y.id ≡ c.home.subscriber) (get_or f.subscribers j None) stands in
        record {
          sender = key-sender f sound.parts.linked i j key holder.0 c holder.1 holder.2 at;
          receiver = record {
            subscriber = y.0;
            stands = ap (λ (n : ℕ). get_or f.subscribers n None) own.place ∙ y.1;
            is_its = y.2;
            is_open =
                sym (ap (λ (o : Option SubscriberFields). option_map_or (λ (z : SubscriberFields). z.is_open) o false)
                y.1) ∙ is_open;
          };
        }

    -- it is marked then
    pub end-marked : IsBetweenOpen f.publishers f.subscribers key c → (d : Link) → d ≡ with_mark true c
        → ChangesMarks f (record f { connections = with_value f.connections key d })
    end-marked between d is =
        subst (λ (e : Link). ChangesMarks f (record f { connections = with_value f.connections key e })) (sym is)
        (changes-mark f sound key c at (not (is_shut c)) (λ _. between))

    shut : false ≡ true → IsBetweenOpen f.publishers f.subscribers key c
    shut wrong = absurd (true≢false (sym wrong))

    -- or it isn't any more
    pub end-cleared : (d : Link) → d ≡ record c { is_open = false }
        → ClearsEnd f i j (record f { connections = with_value f.connections key d })
    end-cleared d is = subst (λ (e : Link). ClearsEnd f i j (record f { connections = with_value f.connections key e }))
        (sym is) (record {
          clears = record {
            changes = changes-mark f sound key c at false shut;
            fewer = λ k e at_e marked. elim (mark-was f sound key c at false shut k e at_e) [
              | inl here ↦ absurd (true≢false (sym marked ∙ ap (λ (l : Link). l.is_open) here.1))
              | inr old ↦ old
            ];
          };
          done = λ k e at_e marked here there. elim (mark-was f sound key c at false shut k e at_e) [
            | inl now ↦ true≢false (sym marked ∙ ap (λ (l : Link). l.is_open) now.1)
            | inr old ↦ again k e at_e marked (its k e old marked here there)
          ];
        }) where
          -- the connection at the place is the one that was cleared
          its : (k : ℕ) (e : Link) → get f.connections k ≡ Some e → e.is_open ≡ true → e.home.publisher_place ≡ i
              → e.home.subscriber_place ≡ j → k ≡ key
          its k e old marked here there =
              let has = (sound.parts.linked.marked k e old marked).sender in
              let one : has.publisher ≡ holder.0 = same_Some has.publisher holder.0
              (sym has.stands ∙ ap (λ (n : ℕ). get_or f.publishers n None) here ∙ holder.1) in
              same_Some k key (sym has.has ∙ ap (λ (n : ℕ). get_or has.publisher.keys n None) there
              ∙ ap (λ (x : PublisherFields). get_or x.keys j None) one ∙ holder.2)

          again : (k : ℕ) (e : Link) → get (with_value f.connections key (record c { is_open = false })) k ≡ Some e
              → e.is_open ≡ true → k ≡ key → ⊥
          again k e at_e marked same =
              let now : e ≡ record c { is_open = false } = same_Some e (record c { is_open = false })
              (sym at_e ∙ ap (get (with_value f.connections key (record c { is_open = false }))) same
              ∙ (Updates-with_value f.connections key c (record c { is_open = false }) at).changed) in
              true≢false (sym marked ∙ ap (λ (l : Link). l.is_open) now)

-- where the publisher has no end at the place, there is nothing to clear
pub none-cleared : {T U : Type 0} (f : Fields T U) → IsDomain f → (i j : ℕ) → sender_key f.publishers i j ≡ None
    → ClearsEnd f i j f
none-cleared f sound i j none = record {
  clears = clears-none f sound;
  done = λ key c at marked here there.
      let has = (sound.parts.linked.marked key c at marked).sender in
      let named : sender_key f.publishers i j ≡ Some key =
      ap (option_and_then (λ (x : PublisherFields). get_or x.keys j None))
      (ap (λ (n : ℕ). get_or f.publishers n None) (sym here) ∙ has.stands)
      ∙ ap (λ (n : ℕ). get_or has.publisher.keys n None) (sym there) ∙ has.has in
      let no : None ≡ Some key = sym none ∙ named in
      absurd cc;
}

-- ---- all ends of a port

-- The marks at the publisher's place i are cleared at the subscribers' places below n.
pub record ClearsSender {T U : Type 0} (f : Fields T U) (i n : ℕ) (f' : Fields T U) : Type 0 where
  pub clears : ClearsMarks f f'
  pub done : (key : ℕ) (c : Link) → get f'.connections key ≡ Some c → c.is_open ≡ true → c.home.publisher_place ≡ i
      → n ≤ c.home.subscriber_place

-- The marks at the subscriber's place j are cleared at the publishers' places below n.
pub record ClearsReceiver {T U : Type 0} (f : Fields T U) (j n : ℕ) (f' : Fields T U) : Type 0 where
  pub clears : ClearsMarks f f'
  pub done : (key : ℕ) (c : Link) → get f'.connections key ≡ Some c → c.is_open ≡ true → c.home.subscriber_place ≡ j
      → n ≤ c.home.publisher_place

next : (n m : ℕ) → n ≤ m → m ≢ n → n + 1 ≤ m
next n m low away = elim (cases_eq m n) [ inl same ↦ absurd (away same) | inr differs ↦ omega (arith, low, differs) ]

-- nobody stands past the last place
nobody-past : {A : Type 0} (xs ys : List (Option A)) (n place : ℕ) (a : A) → get_or ys place None ≡ Some a
    → length ys ≡ length xs → length xs ≤ n → n ≤ place → ⊥
nobody-past xs ys n place a at same long high = let low : place < length ys = within_if_some ys place a at in
    omega (arith, low, same, high, long)

module _ {T U : Type 0} (f : Fields T U) where
  pub sender-begins : IsDomain f → (i : ℕ) → ClearsSender f i 0 f
  sender-begins sound i = record { clears = clears-none f sound; done = λ key c at marked here. omega arith }

  pub sender-more : (i n : ℕ) (g h : Fields T U) → ClearsSender f i n g → ClearsEnd g i n h → ClearsSender f i (n + 1) h
  sender-more i n g h so_far one = record {
    clears = clears-trans f g h so_far.clears one.clears;
    done = λ key c at marked here. next n c.home.subscriber_place
        (so_far.done key c (one.clears.fewer key c at marked) marked here) (one.done key c at marked here);
  }

  pub sender-cleared : (i n : ℕ) (g : Fields T U) → ClearsSender f i n g → length f.subscribers ≤ n
      → IsUnmarkedSender g.connections i
  sender-cleared i n g all long = record {
    at = λ key c at marked here.
        let received = ((all.clears.changes.agrees).parts.linked.marked key c at marked).receiver in
        absurd (nobody-past f.subscribers g.subscribers n c.home.subscriber_place received.subscriber received.stands
        (ap (λ (h : Fields T U). length h.subscribers) all.clears.changes.fields) long (all.done key c at marked here));
  }

  pub receiver-begins : IsDomain f → (j : ℕ) → ClearsReceiver f j 0 f
  receiver-begins sound j = record { clears = clears-none f sound; done = λ key c at marked here. omega arith }

  pub receiver-more : (j n : ℕ) (g h : Fields T U) → ClearsReceiver f j n g → ClearsEnd g n j h
      → ClearsReceiver f j (n + 1) h
  receiver-more j n g h so_far one = record {
    clears = clears-trans f g h so_far.clears one.clears;
    done = λ key c at marked here. next n c.home.publisher_place
        (so_far.done key c (one.clears.fewer key c at marked) marked here)
        (λ there. one.done key c at marked there here);
  }

  pub receiver-cleared : (j n : ℕ) (g : Fields T U) → ClearsReceiver f j n g → length f.publishers ≤ n
      → IsUnmarkedReceiver g.connections j
  receiver-cleared j n g all long = record {
    at = λ key c at marked here.
        let has = ((all.clears.changes.agrees).parts.linked.marked key c at marked).sender in
        absurd (nobody-past f.publishers g.publishers n c.home.publisher_place has.publisher has.stands
        (ap (λ (h : Fields T U). length h.publishers) all.clears.changes.fields) long (all.done key c at marked here));
  }

-- ---- a close after that

-- whoever stands in the same list, and is shown alike, is seen alike
seen-alike : {A B : Type 0} (xs ys : List (Option A)) (see see' : A → B) → ys ≡ xs
    → map (option_map see') ys ≡ map (option_map see) xs
    → (i : ℕ) (x : A) → get_or xs i None ≡ Some x → (get_or ys i None ≡ Some x) × (see' x ≡ see x)
seen-alike {A} {B} xs ys see see' same shown i x at = (
  there,
  same_Some _ _ (sym (map-at see' ys i ∙ ap (option_map see') there)
      ∙ ap (λ (vs : List (Option B)). get_or vs i None) shown ∙ map-at see xs i ∙ ap (option_map see) at),
) where
  there : get_or ys i None ≡ Some x
  there = ap (λ (zs : List (Option A)). get_or zs i None) same ∙ at

module _ {T U : Type 0} (f g : Fields T U) (marks : ChangesMarks f g) where
  -- a step comes to what it comes to without the change of marks
  pub reaches-marked : (h : Fields T U) (s : State T U) → Reaches g h s → Reaches f h s
  reaches-marked h s step = record {
    agrees = step.agrees;
    state = step.state;
    entries = λ n entry e. sym (ap (λ (k : Kept T U ⊥ ⊥). entries_of k n) marks.kept) ∙ step.entries n entry e;
    places = places-then (subst (λ (k : Fields T U). KeepsPlaces f k) (sym marks.fields) places-still) step.places;
  }

  -- a publisher stands where it stood, and is to the machine what it was
  pub marks-publisher : (i : ℕ) (x : PublisherFields) → get_or f.publishers i None ≡ Some x
      → (get_or g.publishers i None ≡ Some x)
      × (publisher_of g.books g.connections x ≡ publisher_of f.books f.connections x)
  marks-publisher =
      seen-alike f.publishers g.publishers (publisher_of f.books f.connections) (publisher_of g.books g.connections)
      (ap (λ (h : Fields T U). h.publishers) marks.fields) (ap (λ (k : Kept T U ⊥ ⊥). k.publishers) marks.kept)

  -- and so does a subscriber
  pub marks-subscriber : (j : ℕ) (y : SubscriberFields) → get_or f.subscribers j None ≡ Some y
      → (get_or g.subscribers j None ≡ Some y)
      × (subscriber_of g.books g.connections y ≡ subscriber_of f.books f.connections y)
  marks-subscriber =
      seen-alike f.subscribers g.subscribers (subscriber_of f.books f.connections) (subscriber_of g.books g.connections)
      (ap (λ (h : Fields T U). h.subscribers) marks.fields) (ap (λ (k : Kept T U ⊥ ⊥). k.subscribers) marks.kept)

  -- so a publisher that is closed then is closed
  pub closed-publisher : (i : ℕ) (x : PublisherFields) → get_or f.publishers i None ≡ Some x → (h : Fields T U)
      → ((z : PublisherFields) → get_or g.publishers i None ≡ Some z
      → Reaches g h (publisher_closed (state_of (kept_of g)) z.id (publisher_of g.books g.connections z).port))
      → Reaches f h (publisher_closed (state_of (kept_of f)) x.id (publisher_of f.books f.connections x).port)
  closed-publisher i x at h closes =
      let same = marks-publisher i x at in
      reaches-marked h _ (subst (λ (s : State T U). Reaches g h s)
      (λ t. publisher_closed (state_of (marks.kept t)) x.id (same.1 t).port) (closes x same.0))

  -- and so is a subscriber
  pub closed-subscriber : (j : ℕ) (y : SubscriberFields) → get_or f.subscribers j None ≡ Some y → (h : Fields T U)
      → ((z : SubscriberFields) → get_or g.subscribers j None ≡ Some z
      → Reaches g h (subscriber_closed (state_of (kept_of g)) z.id (subscriber_of g.books g.connections z).port))
      → Reaches f h (subscriber_closed (state_of (kept_of f)) y.id (subscriber_of f.books f.connections y).port)
  closed-subscriber j y at h closes =
      let same = marks-subscriber j y at in
      reaches-marked h _ (subst (λ (s : State T U). Reaches g h s)
      (λ t. subscriber_closed (state_of (marks.kept t)) y.id (same.1 t).port) (closes y same.0))
