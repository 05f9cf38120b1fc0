-- The steps of a close, as they read the fields.
use Rattle.std.proofs.Common.{◌≡◌, ◌≢◌, ℕ, zero, suc, ◌<◌, ◌≤◌, ◌⊎◌, ◌&&◌, Bool, true, false, List, map, length, get_or}
use Rattle.std.proofs.Common.{slice_set, refl, ap, sym, subst, ◌∙◌, inl, inr, arith}
use Rattle.std.proofs.lemmas.List.{length-map}
use Rattle.std.specs.Prelude.{IsSomeAnd, IsSome}
use Rattle.std.specs.declared.option.Option.{Option}
use Rattle.std.specs.declared.option.Option.TheVariants.{None, Some}
use Rattle.std.specs.Option.{option_map}
use Rattle.slab.specs.Slab.{Updates, get}
use Rattle.iox2_connections.specs.Link.{Link, load}
use Rattle.iox2_machine.specs.machine.Numbers.{is_nil}
use Rattle.iox2_connections.specs.declared.connection.Home.{Home}
use Rattle.iox2_connections.specs.Drops.{without_waiting}
use Rattle.iox2_connections.specs.Finds.{IsReceivers}
use Rattle.iox2_connections.proofs.MailboxChanges.{within_if_some}
use Rattle.iox2_domain.specs.Departures.{ForgetsConnection, key_forgotten, HasKey, KnowsKey}
use Rattle.iox2_domain.specs.Ports.{PublisherFields, SubscriberFields}
use Rattle.iox2_domain.specs.Fields.{Fields}
use Rattle.iox2_domain.specs.Invariant.{IsBookOf, IsDomain, details_of}
use Rattle.iox2_domain.specs.LeftBooks.{CanGo, SettlesBook}
use Rattle.iox2_domain.specs.Updates.{changed_at}
use Rattle.iox2_domain.proofs.lemmas.containers.LookUps.{map-at}
use Rattle.iox2_steps.proofs.releases.BookFreed.{contents-within, unused-book}
use Rattle.iox2_domain.proofs.lemmas.fields.LostConnections.{no-length}
use Rattle.iox2_domain.proofs.lemmas.containers.ChangedRecords.{changed-here}
use Rattle.iox2_steps.proofs.creations.PublishersDue.{with_publishers_due, due}
use Rattle.iox2_domain.proofs.lemmas.fields.Standing.{some_is}
use Rattle.iox2_steps.specs.Agreement.{IsOrphan, HasOwnedParts}
use Rattle.iox2_steps.specs.Closes.{HasNoPublisher, IsBusy, IsLeftAt, IsStanding, ForgetsIfEmpty, LosesLeft}
use Rattle.iox2_steps.specs.Closes.{ConnectionLosesWaiting, shut_subscriber}
use Rattle.iox2_steps.proofs.subscriber_closes.CloseSteps.{book, link-busy, link-empty, stays-busy, forgot-parts}
use Rattle.iox2_steps.proofs.subscriber_closes.CloseSteps.{book-left, others-busy, forgets-empty, is_empty_link}
use Rattle.iox2_steps.proofs.subscriber_closes.FreedBooks.{can-go, frees, FreesBook}
use Rattle.iox2_steps.proofs.subscriber_closes.CloseWalk.{IsClosing, closing-begins, closing-passes}
use Rattle.iox2_steps.proofs.subscriber_closes.CloseKeys.{ExpiredBelow, ExpiredLeft, KeysLeft}
use Rattle.iox2_domain.specs.OpenMarks.{IsUnmarkedReceiver}
use Rattle.iox2_domain.proofs.lemmas.slots.PublisherBooks.{link-held}
use Rattle.iox2_steps.proofs.receivers.DepartedEnds.{nothing-returned}
use Rattle.iox2_machine.specs.machine.Mailbox.{ChannelNumber}

-- there is something
pub some-of : {A : Type 0} (o : Option A) → IsSome o → (x : A) × (o ≡ Some x)
some-of None some = absurd cc
some-of (Some x) some = (x, refl)

-- ---- a connection at one of the subscriber's keys

module _ {T U : Type 0} (f : Fields T U) (parts : HasOwnedParts f) (place key : ℕ)
    (known : (y : SubscriberFields) × (get_or f.subscribers place None ≡ Some y) × KnowsKey y key) where
  -- it is the subscriber's
  known-link : IsSomeAnd (get f.connections key) (IsReceivers (known.0).id (f.config).subscriber_max_borrowed_samples)
  known-link = elim known.2 [
    | inl has ↦ (parts.parts.linked.receivers place known.0 known.1).at has.0 key has.1
    | inr has ↦ (parts.parts.linked.expired place known.0 known.1).at has.0 key has.1
  ]

  -- its publisher is gone, where it doesn't stand at its place
  pub left-there : (v : Fields T U) → v ≡ f
      → IsSomeAnd (get v.connections key) (λ c. IsStanding v.publishers c.home → ⊥) → IsLeftAt f place key
  left-there v same read =
      let own = some_is (IsReceivers (known.0).id (f.config).subscriber_max_borrowed_samples)
      (get f.connections key) known-link in
      let was = some_is (λ (c : Link). IsStanding f.publishers c.home → ⊥) (get f.connections key)
      (subst (λ (g : Fields T U). IsSomeAnd (get g.connections key) (λ c. IsStanding g.publishers c.home → ⊥)) same
      read) in
      record {
        subscriber = known.0;
        stands = known.1;
        link = was.0;
        link_stands = was.1;
        is_its = let one : Some own.0 ≡ Some was.0 = sym own.1 ∙ was.1 in let is : own.0 ≡ was.0 = cc in
            ap (λ (c : Link). c.home.subscriber) (sym is) ∙ own.2.subscriber;
        departed = λ i x at mine.
            let here : i ≡ (was.0).home.publisher_place =
            parts.parts.linked.knows_publishers key i was.0 x was.1 at mine in
            was.2 (rw (ap (λ (n : ℕ). get_or f.publishers n None) (sym here) ∙ at) mine);
      }

module _ {T U : Type 0} (f : Fields T U) (place key : ℕ) (left : IsLeftAt f place key) where
  -- its home, as it was read
  pub home-read : (v : Fields T U) → v ≡ f → (c : Link) → get v.connections key ≡ Some c → c.home ≡ (left.link).home
  home-read v same c at =
      let one : Some c ≡ Some left.link =
      sym at ∙ ap (λ (g : Fields T U). get g.connections key) same ∙ left.link_stands in
      let is : c ≡ left.link = cc in
      ap (λ (d : Link). d.home) is

  module _ (between : Fields T U) (loses : ConnectionLosesWaiting f key left.link between) where
    -- it may be forgotten then
    abbrev pub left-after : IsLeftAt between place key
    left-after = record {
      subscriber = left.subscriber;
      stands = ap (λ (ys : List (Option SubscriberFields)). get_or ys place None) loses.subscribers ∙ left.stands;
      link = without_waiting left.link;
      link_stands = loses.connection.changed;
      is_its = left.is_its;
      departed = λ i x at.
          left.departed i x (ap (λ (xs : List (Option PublisherFields)). get_or xs i None) (sym loses.publishers) ∙ at);
    }

    -- and the others are as busy as they were
    pub others-after : ((k : ℕ) (c : Link) → get f.connections k ≡ Some c → HasNoPublisher f.publishers c → IsBusy c)
        → (k : ℕ) (c : Link) → k ≢ key → get between.connections k ≡ Some c → HasNoPublisher between.publishers c
        → IsBusy c
    others-after busy k c away at departed =
        busy k c (sym (loses.connection.others k away) ∙ at)
        (subst (λ (xs : List (Option PublisherFields)). HasNoPublisher xs c) loses.publishers departed)

    -- so it is done with
    pub left-loses : (f' : Fields T U) → ((y : SubscriberFields) → get_or between.subscribers place None ≡ Some y
        → (c : Link) → get between.connections key ≡ Some c → ForgetsIfEmpty between place key y c f')
        → LosesLeft f place key f'
    left-loses f' forgets = record {
      left = left;
      between = between;
      loses = loses;
      forgets = forgets left.subscriber left-after.stands (without_waiting left.link) left-after.link_stands;
    }

-- ---- a connection that may be forgotten

module _ {T U : Type 0} (f : Fields T U) (parts : HasOwnedParts f) (place key : ℕ) (left : IsLeftAt f place key) where
  module _ (y : SubscriberFields) (at_y : get_or f.subscribers place None ≡ Some y) (c : Link)
      (at_c : get f.connections key ≡ Some c) where
    same-link : left.link ≡ c
    same-link = let one : Some left.link ≡ Some c = sym left.link_stands ∙ at_c in cc

    same-subscriber : left.subscriber ≡ y
    same-subscriber = let one : Some left.subscriber ≡ Some y = sym left.stands ∙ at_y in cc

    -- something stands there
    pub used-ends : (v : Fields T U) → v ≡ f → is_empty_link left.link ≡ false → ForgetsIfEmpty f place key y c v
    used-ends v same some =
        subst (ForgetsIfEmpty f place key y c) (sym same)
        (stays-busy f parts key c at_c (subst (HasNoPublisher f.publishers) same-link left.departed) place y at_y
        (ap (λ (d : Link). d.home.subscriber) (sym same-link) ∙ left.is_its
        ∙ ap (λ (z : SubscriberFields). z.id) same-subscriber) (ap is_empty_link (sym same-link) ∙ some))

  module _ (none : is_empty_link left.link ≡ true) (g : Fields T U)
      (fields : g ≡ record f
      { subscribers = changed_at (key_forgotten key) f.subscribers place; connections = g.connections })
      (removed : Updates f.connections g.connections key None) where
    -- the fields without the connection agree
    pub removed-agrees : HasOwnedParts g
    removed-agrees = subst HasOwnedParts (sym fields)
        (forgot-parts f parts key left.link left.link_stands left.departed place left.subscriber left.stands left.is_its
        none g.connections removed)

    -- the book is of a publisher that is gone
    pub removed-orphan : (i : ℕ) → i ≡ (left.link).home.book → IsSomeAnd (get g.books i) (IsOrphan g)
    removed-orphan i is =
        subst (λ (h : Fields T U). IsSomeAnd (get h.books i) (IsOrphan h)) (sym fields)
        (subst (λ (n : ℕ). IsSomeAnd (get f.books n) (IsOrphan forgot)) (sym is) there)
      where
        forgot : Fields T U
        forgot =
            record f { subscribers = changed_at (key_forgotten key) f.subscribers place; connections = g.connections }

        its : IsBookOf f.books (left.link).home.publisher (left.link).home.book
        its = book f parts key left.link left.link_stands

        there : IsSomeAnd (get f.books (left.link).home.book) (IsOrphan forgot)
        there =
            rw its.stands (let o = book-left f parts key left.link left.link_stands left.departed place left.subscriber
            left.stands left.is_its none g.connections removed its.book its.stands in
            o)

    -- and no connection that names it is empty
    pub removed-busy : ((k : ℕ) (d : Link) → k ≢ key → get f.connections k ≡ Some d → HasNoPublisher f.publishers d
        → IsBusy d)
        → (i : ℕ) → i ≡ (left.link).home.book → (k : ℕ) (d : Link) → get g.connections k ≡ Some d → d.home.book ≡ i
        → IsBusy d
    removed-busy busy i is k d at_d named =
        others-busy f parts key left.link left.link_stands left.departed place left.subscriber left.stands left.is_its
        none g.connections removed busy k d at_d (named ∙ is)

    -- when it has gone where nothing holds it, all is done
    pub removed-ends : (y : SubscriberFields) (at_y : get_or f.subscribers place None ≡ Some y) (c : Link)
        (at_c : get f.connections key ≡ Some c)
        → (i : ℕ) → i ≡ (left.link).home.book → (f' : Fields T U) → FreesBook g i f' → ForgetsIfEmpty f place key y c f'
    removed-ends y at_y c at_c i is f' frees =
        subst (λ (d : Link). ForgetsIfEmpty f place key y d f') (same-link y at_y c at_c)
        (subst (λ (z : SubscriberFields). ForgetsIfEmpty f place key z left.link f') (same-subscriber y at_y c at_c)
        (forgets-empty f parts key left.link left.link_stands left.departed place left.subscriber left.stands
        left.is_its none g.connections removed f'
        (subst (λ (h : Fields T U). FreesBook h (left.link).home.book f') fields
        (subst (λ (n : ℕ). FreesBook g n f') is frees))))

module _ {T U : Type 0} (f : Fields T U) (parts : HasOwnedParts f) (place key : ℕ) (left : IsLeftAt f place key)
    (home : Home) (home_is : home ≡ (left.link).home) where
  abbrev c : Link
  c = left.link

  -- its home is the connection's
  pub left-home : IsSomeAnd (get f.connections key) (λ (d : Link). d.home ≡ home)
  left-home = rw left.link_stands (sym home_is)

  -- the subscriber stands at its place
  left-place : home.subscriber_place ≡ place
  left-place = ap (λ (h : Home). h.subscriber_place) home_is
      ∙ sym (parts.parts.linked.knows.at key place c (details_of left.subscriber) left.link_stands
      (map-at details_of f.subscribers place ∙ ap (option_map details_of) left.stands) (sym left.is_its)).0

  pub left-within : home.subscriber_place < length f.subscribers
  left-within = rw left-place (within_if_some f.subscribers place left.subscriber left.stands)

  -- and has the key at the publisher's place alone
  pub left-only : (y : SubscriberFields) → get_or f.subscribers home.subscriber_place None ≡ Some y → (i : ℕ)
      → get_or y.keys i None ≡ Some key → i ≡ home.publisher_place
  left-only y at i at_k =
      sym (parts.parts.linked.receiver_places home.subscriber_place i key y c at at_k left.link_stands)
      ∙ ap (λ (h : Home). h.publisher_place) (sym home_is)

  module _ (mid : Fields T U) (empty : (d : Link) → get f.connections key ≡ Some d → load d ≡ 0
      → ForgetsConnection f home.subscriber_place key mid)
      (full : (d : Link) → get f.connections key ≡ Some d → (load d ≡ 0 → ⊥) → mid ≡ f)
      (others : (k : ℕ) (d : Link) → k ≢ key → get f.connections k ≡ Some d → HasNoPublisher f.publishers d
      → IsBusy d) where
    -- it was empty and is gone, or some slot stands in it and nothing changed
    outcome : ((is_empty_link c ≡ true) × ForgetsConnection f place key mid) ⊎ ((is_empty_link c ≡ false) × (mid ≡ f))
    outcome = by (load c) refl where
      none : load c ≡ 0 → is_empty_link c ≡ true
      none e = λ i. is_nil (map (λ (m : ChannelNumber). m.number) (no-length c.others (omega (arith, e)) i))
          && (is_nil (no-length c.waiting (omega (arith, e)) i) && is_nil (no-length c.borrowed (omega (arith, e)) i))

      some : (n : ℕ) → load c ≡ suc n → (b : Bool) → is_empty_link c ≡ b → is_empty_link c ≡ false
      some n e false is = is
      some n e true is =
          let no = link-empty c is in
          let back = nothing-returned f parts.parts key c left.link_stands left.departed in
          absurd (omega (
            arith,
            e,
            ap (λ (xs : List ℕ). length xs) no.0,
            ap (λ (xs : List ℕ). length xs) no.1,
            ap (λ (ms : List ChannelNumber). length ms) no.2,
            ap (λ (xs : List ℕ). length xs) back,
          ))

      by : (n : ℕ) → load c ≡ n
          → ((is_empty_link c ≡ true) × ForgetsConnection f place key mid) ⊎ ((is_empty_link c ≡ false) × (mid ≡ f))
      by zero e = inl (none e, subst (λ (n : ℕ). ForgetsConnection f n key mid) left-place (empty c left.link_stands e))
      by (suc n) e = inr (
        some n e (is_empty_link c) refl,
        full c left.link_stands (λ zero. (let no : suc n ≡ 0 = sym e ∙ zero in absurd cc)),
      )

    book_is : home.book ≡ c.home.book
    book_is = ap (λ (h : Home). h.book) home_is

    its : IsBookOf f.books c.home.publisher home.book
    its = subst (IsBookOf f.books c.home.publisher) (sym book_is) (book f parts key c left.link_stands)

    -- its publisher's book may be settled
    pub left-settles : CanGo mid home.book
    left-settles = elim outcome [
      | inl gone ↦ can-go mid (removed-agrees f parts place key left gone.0 mid gone.1.fields gone.1.removed) home.book
          (removed-orphan f parts place key left gone.0 mid gone.1.fields gone.1.removed home.book book_is)
          (removed-busy f parts place key left gone.0 mid gone.1.fields gone.1.removed others home.book book_is)
      | inr same ↦ subst (λ (g : Fields T U). CanGo g home.book) (sym same.1)
          (record {
            stands = rw its.stands refl;
            contents = contents-within f parts.parts home.book its.book its.stands;
          })
    ]

    -- where some slot stands in the connection it stays
    held-book : is_empty_link c ≡ false → (f' : Fields T U) → SettlesBook f home.book f' → f' ≡ f
    held-book some f' settles = elim settles.outcome [
      | inl gone ↦
          let busy = link-busy c some in
          let held = (link-held f parts.parts key c left.link_stands settles.book
          (ap (get f.books) (sym book_is) ∙ settles.stands)).at busy.slot in
          let free = unused-book settles.book gone.0 busy.slot in
          let standing = busy.stands in
          absurd (omega (arith, held, free, standing))
      | inr same ↦ same.1
    ]

    -- then all is done
    pub left-settled : (f' : Fields T U) → SettlesBook mid home.book f' → (y : SubscriberFields)
        → get_or f.subscribers place None ≡ Some y → (d : Link) → get f.connections key ≡ Some d
        → ForgetsIfEmpty f place key y d f'
    left-settled f' settles y at_y d at_d = elim outcome [
      | inl gone ↦
          removed-ends f parts place key left gone.0 mid gone.1.fields gone.1.removed y at_y d at_d home.book book_is f'
          (frees mid (removed-agrees f parts place key left gone.0 mid gone.1.fields gone.1.removed) home.book
          (removed-orphan f parts place key left gone.0 mid gone.1.fields gone.1.removed home.book book_is)
          (removed-busy f parts place key left gone.0 mid gone.1.fields gone.1.removed others home.book book_is) f'
          settles)
      | inr same ↦ used-ends f parts place key left y at_y d at_d f'
          (held-book same.0 f' (subst (λ (g : Fields T U). SettlesBook g home.book f') same.1 settles)) same.0
    ]

module _ {T U : Type 0} where
  -- the walk begins where the subscriber was shut, with its last expired key
  pub closing-starts : (v f : Fields T U) → v ≡ f
      → (sound : IsDomain f) (place : ℕ) (y : SubscriberFields) (at_y : get_or f.subscribers place None ≡ Some y)
      → IsUnmarkedReceiver f.connections place → (subscribers : List (Option SubscriberFields))
      → subscribers ≡ changed_at shut_subscriber f.subscribers place
      → (count : ℕ) → ((z : SubscriberFields) → get_or subscribers place None ≡ Some z → count ≡ length z.expired)
      → IsClosing f sound place y at_y (ExpiredLeft count) (record v { subscribers = subscribers })
  closing-starts v f same sound place y at_y unmarked subscribers settled count counted =
      subst (IsClosing f sound place y at_y (ExpiredLeft count))
      (sym ((λ i. record (same i) { subscribers = settled i })
      ∙ (λ i. record f { subscribers = slice_set f.subscribers place (option_map shut_subscriber (at_y i)) })))
      (closing-begins f sound place y at_y unmarked (ExpiredLeft count)
      (λ k knows. elim knows [ inl has ↦ inl has | inr has ↦ inr (below k has) ]))
    where
      all : count ≡ length y.expired
      all = counted (shut_subscriber y) (ap (λ (ys : List (Option SubscriberFields)). get_or ys place None) settled
          ∙ ap (λ (o : Option SubscriberFields).
          get_or (slice_set f.subscribers place (option_map shut_subscriber o)) place None) at_y
          ∙ changed-here f.subscribers place y (shut_subscriber y) at_y)

      below : (k : ℕ) → HasKey (map Some y.expired) k → ExpiredBelow count (shut_subscriber y) k
      below k has =
          let low = within_if_some (map Some y.expired) has.0 k has.1 in
          (has.0, omega (arith, low, all, length-map y.expired Some), has.1)

  module _ (f : Fields T U) (sound : IsDomain f) (place : ℕ) (y : SubscriberFields)
      (at_y : get_or f.subscribers place None ≡ Some y) (f' : Fields T U) where
    -- after the expired keys the walk goes over those at places
    pub closing-turns : (index : ℕ) → index ≤ 0 → IsClosing f sound place y at_y (ExpiredLeft index) f' → (count : ℕ)
        → ((z : SubscriberFields) → get_or f'.subscribers place None ≡ Some z → count ≡ length z.keys)
        → IsClosing f sound place y at_y (KeysLeft 0 count) f'
    closing-turns index none so_far count counted = closing-passes f sound place y at_y (ExpiredLeft index) f' so_far
        (KeysLeft 0 count) (λ k c at departed left. elim left [
          | inl has ↦
              let low = within_if_some so_far.subscriber.0.keys has.0 k has.1 in
              (has.0, omega arith, omega (arith, low, counted so_far.subscriber.0 so_far.subscriber.1), has.1)
          | inr below ↦ let low = below.1 in absurd (omega (arith, low, none))
        ])

  -- every publisher is due in the end
  pub due-read : (v g : Fields T U) → v ≡ g → (publishers : List (Option PublisherFields))
      → publishers ≡ map (option_map due) g.publishers
      → record v { publishers = publishers } ≡ with_publishers_due g
  due-read v g same publishers is = λ i. record (same i) { publishers = is i }
