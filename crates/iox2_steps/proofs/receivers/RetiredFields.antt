-- What the steps of a retirement leave of a domain's fields.
use Rattle.std.proofs.Common.{◌≡◌, ◌<◌, ℕ, List, length, map, true, false, slice_set, refl, ap, sym, subst, ◌∙◌, arith}
use Rattle.std.proofs.lemmas.List.{set-set}
use Rattle.std.specs.declared.option.Option.{Option}
use Rattle.std.specs.declared.option.Option.TheVariants.{None, Some}
use Rattle.std.specs.Option.{option_map, option_map_or}
use Rattle.slab.specs.Slab.{Slab, get, with_value, ContainsKey}
use Rattle.iox2_connections.specs.Link.{Link}
use Rattle.iox2_slots.specs.SlotBook.{Book}
use Rattle.iox2_machine.specs.machine.Limits.{warning_limit, expired_limit}
use Rattle.iox2_machine.specs.machine.Numbers.{contains}
use Rattle.iox2_machine.specs.machine.State.{State, warned}
use Rattle.iox2_machine.specs.machine.SubscriberUpdate.{ReceiverSide, Retirement, is_refused, Keep_expired, Evict}
use Rattle.iox2_machine.specs.machine.SubscriberUpdate.{Discard_data, with_receiver_side}
use Rattle.iox2_machine.specs.declared.warning.Warning.TheVariants.{ExpiredDataDiscarded}
use Rattle.iox2_connections.specs.Counters.{with_counters}
use Rattle.iox2_connections.specs.Retires.{has_borrowed, chosen}
use Rattle.iox2_connections.specs.declared.retirement.Retirement.{Retirement as Choice}
use Rattle.iox2_connections.specs.declared.retirement.Retirement.TheVariants.{Refuse as RefuseIt}
use Rattle.iox2_domain.specs.KeptLinks.{ChannelsFollow}
use Rattle.iox2_domain.specs.WarningRing.{warning_ring}
use Rattle.iox2_domain.specs.Ports.{SubscriberFields}
use Rattle.iox2_domain.specs.Kept.{state_of, entries_of}
use Rattle.iox2_domain.specs.Fields.{Fields, kept_of, subscriber_of}
use Rattle.iox2_domain.specs.Invariant.{IsDomain, IsDomainBut}
use Rattle.iox2_domain.specs.Updates.{changed_at, publisher_but_room, without_receiver_key}
use Rattle.iox2_domain.specs.Reaches.{Reaches}
use Rattle.iox2_domain.specs.Midway.{ChangesBooks, IsMidway}
use Rattle.iox2_domain.specs.ReceiverSteps.{HasDepartedEnd, ChangesReceiverTo, ChangesReceiver, LosesConnection}
use Rattle.iox2_domain.specs.ReceiverSteps.{RetiresReceiver, Retired, Refused, retired, refused, machine_retirement}
use Rattle.iox2_domain.specs.ReceiverSteps.{with_expired, without_expired, replacing_expired}
use Rattle.iox2_machine.specs.machine.WellFormed.{IsWellFormed}
use Rattle.iox2_machine.specs.machine.Records.{Entry}
use Rattle.iox2_domain.proofs.lemmas.fields.Parts.{midway-but}
use Rattle.iox2_steps.proofs.updates.DropCalls.{cleared-place}
use Rattle.iox2_steps.proofs.receivers.LeftEnds.{IsDeparted}
use Rattle.iox2_steps.proofs.receivers.Retirements.{departed, expires, refuses, discards}
use Rattle.iox2_steps.proofs.receivers.Evictions.{HasExpiredEnd, lost-departed, evicts}
use Rattle.iox2_steps.proofs.receivers.ExpiredKeys.{expired-link}
use Rattle.iox2_steps.proofs.receivers.Choices.{none-borrowed, borrows-are, publisher_at, in_machine, length-expired}
use Rattle.iox2_steps.proofs.receivers.Choices.{chosen-is}
use Rattle.iox2_domain.proofs.lemmas.slots.PublisherBooks.{its-book}
use Rattle.iox2_domain.proofs.lemmas.fields.PlacesKept.{places-then}
use Rattle.iox2_domain.specs.KeptPlaces.{KeepsPlaces}

-- The book at the key is gone where no slot of it has a holder. The state stays.
pub record FreesBook {T U : Type 0} (f f' : Fields T U) : Type 0 where
  pub agrees : IsDomain f'
  pub fields : f' ≡ record f { books = f'.books; contents = f'.contents }
  pub state : state_of (kept_of f') ≡ state_of (kept_of f)
  pub entries : (n : ℕ) (entry : Entry T U) → entries_of (kept_of f') n ≡ Some entry
      → entries_of (kept_of f) n ≡ Some entry
  pub places : KeepsPlaces f f'

-- the same book is spared
pub spares-same : {T U : Type 0} (f : Fields T U) (k key : ℕ) → k ≡ key → IsDomainBut key f → IsDomainBut k f
spares-same f k key same sound = subst (λ (n : ℕ). IsDomainBut n f) (sym same) sound

-- a book was freed where the step keeps the fields but for the books
pub frees-book : {T U : Type 0} (f f' : Fields T U) (key : ℕ) → IsDomainBut key f
    → ((before : Fields T U) (s : State T U) → IsMidway before f s key → state_of (kept_of f) ≡ s → IsWellFormed s
    → Reaches before f' s) → ChangesBooks f f' → FreesBook f f'
frees-book f f' key sound kept books =
    let attained = kept f (state_of (kept_of f)) (midway-but f key sound) refl sound.well_formed in
    record {
      agrees = attained.agrees;
      fields = books;
      state = attained.state;
      entries = attained.entries;
      places = attained.places;
    }

module _ {T U : Type 0} (f f' f'' : Fields T U) (j : ℕ) (y : SubscriberFields) (side : ReceiverSide) (key : ℕ)
    (changes : ChangesReceiverTo (IsDomainBut key) f j y side f') (frees : FreesBook f' f'') where
  publishers : f'.publishers ≡ f''.publishers
  publishers = sym (ap (λ (g : Fields T U). g.publishers) frees.fields)

  connections : f'.connections ≡ f''.connections
  connections = sym (ap (λ (g : Fields T U). g.connections) frees.fields)

  warnings : f'.warnings ≡ f''.warnings
  warnings = sym (ap (λ (g : Fields T U). g.warnings) frees.fields)

  pub frees-changes : ChangesReceiver f j y side f''
  frees-changes = record {
    agrees = frees.agrees;
    keys = changes.keys;
    key_room = changes.key_room;
    expired = changes.expired;
    expired_room = changes.expired_room;
    fields = frees.fields
        ∙ (λ k. record (changes.fields k) { books = f''.books; contents = f''.contents })
        ∙ (λ k. record f {
          subscribers = slice_set f.subscribers j
              (Some (record y {
                keys = changes.keys;
                key_room = changes.key_room;
                expired = changes.expired;
                expired_room = changes.expired_room;
                is_due = side.is_due;
              }));
          publishers = publishers k;
          connections = connections k;
          books = f''.books;
          contents = f''.contents;
          warnings = warnings k;
        });
    others = ap (map (option_map publisher_but_room)) (sym publishers) ∙ changes.others;
    state = frees.state ∙ changes.state
        ∙ ap (λ (t : State T U). record (with_receiver_side (state_of (kept_of f)) y.id
        (subscriber_of f.books f.connections y).port side) { channels = t.channels }) (sym frees.state);
    channels = subst (λ (c : Slab Link). ChannelsFollow (λ home. home.subscriber ≡ y.id)
        (λ p q. (state_of (kept_of f)).publishers p ≡ None) f.connections c) connections changes.channels;
    entries = λ n entry e. changes.entries n entry (frees.entries n entry e);
    places = places-then changes.places frees.places;
  }

-- ---- a connection goes

module _ {T U : Type 0} (f : Fields T U) (sound : IsDomain f) (j i : ℕ) (y : SubscriberFields) (key : ℕ) (c : Link)
    (end : HasDepartedEnd f j i y key c) where
  -- the subscriber is written at its place
  written : (change : SubscriberFields → SubscriberFields)
      → changed_at change f.subscribers j ≡ slice_set f.subscribers j (Some (change y))
  written change = ap (λ o. slice_set f.subscribers j (option_map change o)) end.stands

  -- each expired key has its connection
  pub expired-there : (k : ℕ) → contains y.expired k ≡ true → ContainsKey f.connections k
  expired-there k has = let d = expired-link f sound j i y key c end k has in rw d.1 refl

  -- the end is kept
  pub kept-changes : length y.expired < expired_limit f.config → (f' : Fields T U)
      → f' ≡ record f { subscribers = changed_at (with_expired i key) f.subscribers j }
      → ChangesReceiver f j y (retired f i y c.home.publisher Keep_expired) f'
  kept-changes room f' is =
      subst (λ (h : Fields T U). ChangesReceiver f j y (retired f i y c.home.publisher Keep_expired) h)
      (sym (is ∙ (λ k. record f { subscribers = written (with_expired i key) k })))
      (expires f sound j i y key c end (let long = length-expired f sound j i y key c end in omega (arith, room, long)))

  -- the retirement is refused
  pub refused-changes : (f' : Fields T U)
      → f' ≡ record f { subscribers = changed_at (λ z. record z { is_due = true }) f.subscribers j }
      → ChangesReceiver f j y (refused f y c.home.publisher) f'
  refused-changes f' is =
      subst (λ (h : Fields T U). ChangesReceiver f j y (refused f y c.home.publisher) h)
      (sym (is ∙ (λ k. record f { subscribers = written (λ z. record z { is_due = true }) k })))
      (refuses f sound j i y key c end)

  -- what waits is lost
  pub discarded-changes : has_borrowed (get f.connections key) ≡ false → (b : Book) → get f.books c.home.book ≡ Some b
      → (f1 : Fields T U) → LosesConnection f key c b f1
      → (f' : Fields T U) → f' ≡ record f1 { subscribers = changed_at (without_receiver_key i) f1.subscribers j }
      → ChangesReceiverTo (IsDomainBut c.home.book) f j y (retired f i y c.home.publisher Discard_data) f'
  discarded-changes unborrowed b at_b f1 loses f' is =
      subst (λ (h : Fields T U).
      ChangesReceiverTo (IsDomainBut c.home.book) f j y (retired f i y c.home.publisher Discard_data) h)
      (sym (is
      ∙ (λ k. record (loses.fields k)
      { subscribers = changed_at (without_receiver_key i) ((loses.fields k).subscribers) j })
      ∙ (λ k. record f {
        subscribers =
            (written (without_receiver_key i) ∙ ap (λ (keys : List (Option ℕ)).
            slice_set f.subscribers j (Some (record y { keys = keys }))) (cleared-place y.keys i key end.has)) k;
        connections = f1.connections;
        books = with_value f.books c.home.book (with_counters b loses.holders);
        warnings = warning_ring
            (warned f.warnings.items (ExpiredDataDiscarded c.home.publisher (its.subscriber k))) warning_limit;
      })))
      (discards f sound j i y key c end (none-borrowed f.connections key c end.link unborrowed)
      (borrows-are f sound j i y key c end key c end.link its.subscriber ∙ unborrowed)
      b at_b mine loses.holders f1.connections loses.removes)
    where
      its : IsDeparted f y c
      its = departed f sound j i y key c end

      mine : b.publisher ≡ c.home.publisher
      mine =
          let same : Some (its-book f sound.parts key c end.link).book ≡ Some b =
          sym (its-book f sound.parts key c end.link).stands ∙ at_b in
          let is : (its-book f sound.parts key c end.link).book ≡ b = cc in
          ap (λ (d : Book). d.publisher) (sym is) ∙ (its-book f sound.parts key c end.link).is_its

  -- another one goes for it
  pub evicted-changes : (first : ℕ) (d : Link) → contains y.expired first ≡ true → get f.connections first ≡ Some d
      → has_borrowed (get f.connections first) ≡ false
      → (b : Book) → get f.books d.home.book ≡ Some b → (f1 : Fields T U) → LosesConnection f first d b f1
      → (f' : Fields T U) → f' ≡ record f1 { subscribers = changed_at (replacing_expired i key first) f1.subscribers j }
      → ChangesReceiverTo (IsDomainBut d.home.book) f j y (retired f i y c.home.publisher (Evict d.home.publisher)) f'
  evicted-changes first d has at_d unborrowed b at_b f1 loses f' is =
      subst (λ (h : Fields T U).
      ChangesReceiverTo (IsDomainBut d.home.book) f j y (retired f i y c.home.publisher (Evict d.home.publisher)) h)
      (sym (is
      ∙ (λ k. record (loses.fields k)
      { subscribers = changed_at (replacing_expired i key first) ((loses.fields k).subscribers) j })
      ∙ (λ k. record f {
        subscribers = written (replacing_expired i key first) k;
        connections = f1.connections;
        books = with_value f.books d.home.book (with_counters b loses.holders);
        warnings = warning_ring
            (warned f.warnings.items (ExpiredDataDiscarded d.home.publisher (its.subscriber k))) warning_limit;
      })
      ∙ sym (ap (λ (ys : List (Option SubscriberFields)). record f {
        subscribers = ys;
        connections = f1.connections;
        books = with_value f.books d.home.book (with_counters b loses.holders);
        warnings = warning_ring (warned f.warnings.items (ExpiredDataDiscarded d.home.publisher y.id)) warning_limit;
      }) (set-set f.subscribers j (Some (without_expired first y)) (Some (replacing_expired i key first y))))))
      (evicts f sound j i y key c end first d old
      (borrows-are f sound j i y key c end first d at_d its.subscriber ∙ unborrowed)
      b at_b mine loses.holders f1.connections loses.removes)
    where
      old : HasExpiredEnd f y first d
      old = record { has = has; link = at_d; unborrowed = none-borrowed f.connections first d at_d unborrowed }

      its : IsDeparted f y d
      its = lost-departed f sound j i y key c end first d old

      mine : b.publisher ≡ d.home.publisher
      mine =
          let same : Some (its-book f sound.parts first d at_d).book ≡ Some b =
          sym (its-book f sound.parts first d at_d).stands ∙ at_b in
          let is : (its-book f sound.parts first d at_d).book ≡ b = cc in
          ap (λ (e : Book). e.publisher) (sym is) ∙ (its-book f sound.parts first d at_d).is_its

  -- ---- what was chosen is done

  -- it is retired
  pub retires-as : (choice : Choice) → chosen f.connections (expired_limit f.config) y.expired key ≡ choice
      → (how : Retirement) → in_machine f.connections choice ≡ how → is_refused how ≡ false
      → (f' : Fields T U) → ChangesReceiver f j y (retired f i y c.home.publisher how) f'
      → RetiresReceiver f j i y c.home.publisher f' true
  retires-as choice is how means unrefused f' changes =
      let same : machine_retirement f y c.home.publisher ≡ how =
      chosen-is f sound j i y key c end ∙ ap (in_machine f.connections) is ∙ means in
      Retired (ap is_refused same ∙ unrefused)
      (subst (λ (h : Retirement). ChangesReceiver f j y (retired f i y c.home.publisher h) f') (sym same) changes)

  -- or that is refused
  pub refuses-as : chosen f.connections (expired_limit f.config) y.expired key ≡ RefuseIt → (f' : Fields T U)
      → ChangesReceiver f j y (refused f y c.home.publisher) f'
      → RetiresReceiver f j i y c.home.publisher f' false
  refuses-as is f' changes = Refused (chosen-is f sound j i y key c end ∙ ap (in_machine f.connections) is) changes

  -- the one that goes has its connection
  pub first-link : (first : ℕ) → contains y.expired first ≡ true
      → (d : Link) × (get f.connections first ≡ Some d) × (publisher_at f.connections first ≡ d.home.publisher)
  first-link first has = let d = expired-link f sound j i y key c end first has in
      (d.0, d.1, ap (λ o. option_map_or (λ (l : Link). l.home.publisher) o 0) d.1)
