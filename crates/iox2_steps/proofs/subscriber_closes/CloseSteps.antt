-- A subscriber loses what waits from a publisher that is gone, and forgets it.
use Rattle.std.proofs.Common.{◌≡◌, ◌≢◌, ℕ, ◌<◌, Bool, true, false, not, cond, ◌&&◌, List, [], ◌∷◌, map, get_or}
use Rattle.std.proofs.Common.{slice_set, refl, ap, sym, subst, ◌∙◌, inl, inr, arith}
use Rattle.std.proofs.lemmas.Bool.{ne_eqb}
use Rattle.std.specs.Prelude.{IsSomeAnd}
use Rattle.std.specs.declared.option.Option.{Option}
use Rattle.std.specs.declared.option.Option.TheVariants.{None, Some}
use Rattle.std.specs.Option.{option_map}
use Rattle.slab.specs.Slab.{Slab, Updates, ContainsKey, get, with_value}
use Rattle.iox2_connections.specs.Link.{Link, other_slots}
use Rattle.iox2_slots.specs.SlotBook.{Book}
use Rattle.iox2_machine.specs.machine.Mailbox.{Mailbox, has_numbers, ChannelNumber}
use Rattle.iox2_machine.specs.machine.Numbers.{is_nil, put_at}
use Rattle.iox2_machine.specs.machine.State.{subscriber_changed}
use Rattle.iox2_connections.specs.LookUp.{look_up}
use Rattle.iox2_connections.specs.Counters.{times, with_counters}
use Rattle.iox2_connections.specs.Drops.{DropsWaiting, without_waiting}
use Rattle.iox2_connections.specs.Mailboxes.{mailboxes_of, mailbox_of}
use Rattle.iox2_connections.specs.Recounts.{Recounts}
use Rattle.iox2_connections.specs.Reclaims.{IsHeld}
use Rattle.iox2_connections.proofs.Counts.{times-cons, one_if_same}
use Rattle.iox2_connections.proofs.DropSteps.{drops-recounts, drops-boxes}
use Rattle.iox2_connections.proofs.LookUps.{look_up-nothing}
use Rattle.iox2_connections.proofs.MailboxChanges.{mailbox-there, Updates-with_value}
use Rattle.iox2_domain.specs.Departures.{key_forgotten}
use Rattle.iox2_domain.specs.Ports.{PublisherFields, SubscriberFields}
use Rattle.iox2_domain.specs.Kept.{state_of}
use Rattle.iox2_domain.specs.Fields.{Fields, kept_of, number_in_slot}
use Rattle.iox2_domain.specs.Invariant.{IsBookOf, SenderHas, is_publisher}
use Rattle.iox2_domain.specs.Updates.{changed_at}
use Rattle.iox2_domain.proofs.lemmas.containers.ChangedRecords.{changed-here}
use Rattle.iox2_domain.proofs.lemmas.fields.Views.{mailboxes-are}
use Rattle.iox2_domain.proofs.lemmas.fields.LostConnections.{IsEmptyLink}
use Rattle.iox2_domain.proofs.lemmas.fields.Standing.{some_is}
use Rattle.iox2_steps.proofs.releases.Forgotten.{forgetting}
use Rattle.iox2_domain.proofs.lemmas.slots.BookChanges.{book-others}
use Rattle.iox2_domain.proofs.lemmas.fields.ConnectionEnds.{subscriber-stands}
use Rattle.iox2_steps.proofs.releases.Departed.{gone-in}
use Rattle.iox2_domain.proofs.lemmas.slots.PublisherBooks.{its-book, link-held}
use Rattle.iox2_steps.proofs.receivers.DepartedEnds.{nothing-returned}
use Rattle.iox2_steps.proofs.updates.FollowedChannels.{has-link, links-same}
use Rattle.iox2_domain.proofs.lemmas.fields.KeptChannels.{but-channels}
use Rattle.iox2_domain.specs.Midway.{with_channels_of}
use Rattle.iox2_steps.specs.Agreement.{IsOrphan, HasOwnedParts}
use Rattle.iox2_steps.specs.Closes.{HasNoPublisher, IsBusy, ConnectionLosesWaiting, ForgetsIfEmpty, lost_from}
use Rattle.iox2_steps.specs.Closes.{forgotten_if_empty, without_publisher}
use Rattle.iox2_steps.proofs.subscriber_closes.ClosedSubscribers.{forgetful-parts, forgetful-is}
use Rattle.iox2_steps.proofs.subscriber_closes.KeptMessages.{keeps-same, keeps-trans}
use Rattle.iox2_steps.proofs.subscriber_closes.LeftRecounts.{with_fewer, fewer-parts, fewer-is, fewer-keeps}
use mathlib.Core.Path.{fun_ext}
use Rattle.iox2_steps.proofs.closes.LeftConnections.{numbers-held}
use Rattle.iox2_steps.proofs.subscriber_closes.FreedBooks.{FreesBook}

-- ---- lists of slots

-- some slot stands in a list that has any
some-slot : (xs : List ℕ) → is_nil xs ≡ false → (slot : ℕ) × (0 < times slot xs)
some-slot [] e = absurd cc
some-slot (x ∷ xs) e = (x, omega (arith, times-cons x x xs, one_if_same x))

-- No slot waits there, in whatever channel, and none is borrowed.
abbrev pub is_empty_link : Link → Bool
is_empty_link c = is_nil (other_slots c) && (is_nil c.waiting && is_nil c.borrowed)

-- a connection is empty, or something stands in it
pub link-busy : (c : Link) → is_empty_link c ≡ false → IsBusy c
link-busy c e = by (is_nil (other_slots c)) (is_nil c.waiting) (is_nil c.borrowed) refl refl refl e where
  by : (o w b : Bool) → is_nil (other_slots c) ≡ o → is_nil c.waiting ≡ w → is_nil c.borrowed ≡ b
      → is_empty_link c ≡ false → IsBusy c
  by false w b is_o is_w is_b e = let s = some-slot (other_slots c) is_o in
      record { slot = s.0; stands = omega (arith, s.1) }
  by true false b is_o is_w is_b e = let s = some-slot c.waiting is_w in
      record { slot = s.0; stands = omega (arith, s.1) }
  by true true false is_o is_w is_b e = let s = some-slot c.borrowed is_b in
      record { slot = s.0; stands = omega (arith, s.1) }
  by true true true is_o is_w is_b e =
      absurd (let no : true ≡ false = sym (λ i. is_o i && (is_w i && is_b i)) ∙ e in cc)

pub link-empty : (c : Link) → is_empty_link c ≡ true → (c.waiting ≡ []) × (c.borrowed ≡ []) × (c.others ≡ [])
link-empty c e = by c.others c.waiting c.borrowed e where
  by : (os : List ChannelNumber) (ws bs : List ℕ)
      → (is_nil (map (λ (m : ChannelNumber). m.number) os) && (is_nil ws && is_nil bs)) ≡ true
      → (ws ≡ []) × (bs ≡ []) × (os ≡ [])
  by [] [] [] e = (refl, refl, refl)
  by [] [] (b ∷ bs) e = absurd cc
  by [] (w ∷ ws) bs e = absurd cc
  by (m ∷ ms) ws bs e = absurd cc

module _ {T U : Type 0} (f : Fields T U) (parts : HasOwnedParts f) where
  -- ---- ports and connections in the state

  -- a publisher that stands nowhere is in neither
  pub departed-nowhere : (p : ℕ) → ((i : ℕ) (x : PublisherFields) → get_or f.publishers i None ≡ Some x → x.id ≢ p)
      → look_up (is_publisher p) f.publishers ≡ None
  departed-nowhere p gone = look_up-nothing (is_publisher p) f.publishers (λ i x at. ne_eqb x.id p (gone i x at))

  pub departed-absent : (p : ℕ) → ((i : ℕ) (x : PublisherFields) → get_or f.publishers i None ≡ Some x → x.id ≢ p)
      → (state_of (kept_of f)).publishers p ≡ None
  departed-absent p gone = gone-in f p (departed-nowhere p gone)

  module _ (key : ℕ) (c : Link) (at : get f.connections key ≡ Some c) where
    abbrev p : ℕ
    p = c.home.publisher

    abbrev q : ℕ
    q = c.home.subscriber

    -- the connection's mailbox
    pub box-is : (state_of (kept_of f)).mailboxes p q ≡ mailbox_of (number_in_slot f.books p) c
    box-is = mailboxes-are f p q
        ∙ mailbox-there (number_in_slot f.books) f.connections key p q c parts.parts.apart at refl refl

    pub box-numbers : has_numbers ((state_of (kept_of f)).mailboxes p q) ≡ not (is_empty_link c)
    box-numbers = ap has_numbers box-is ∙ numbers-held (number_in_slot f.books p) c

    -- its publisher's book
    pub book : IsBookOf f.books p c.home.book
    book = its-book f parts.parts key c at

    module _ (departed : HasNoPublisher f.publishers c) where
      -- its publisher's book is left
      pub book-orphan : IsOrphan f book.book
      book-orphan = elim (parts.owners.at c.home.book book.book book.stands) [
        | inl has ↦ absurd (departed has.place has.publisher has.stands (has.is_its ∙ book.is_its))
        | inr orphan ↦ orphan
      ]

      -- ---- what waits there is lost

      module _ (holders : List ℕ) (new : Slab Link)
          (drops : DropsWaiting key (book.book).holders f.connections holders new) where
        same : drops.link ≡ c
        same = let one : Some drops.link ≡ Some c = sym drops.stands ∙ at in cc

        pub recounts : Recounts (book.book).publisher (book.book).holders f.connections holders new
        recounts = subst (λ (r : ℕ). Recounts r (book.book).holders f.connections holders new)
            (ap (λ (l : Link). l.home.publisher) same ∙ sym book.is_its)
            (drops-recounts (book.book).holders holders f.connections new key drops)

        pub nowhere : look_up (is_publisher (book.book).publisher) f.publishers ≡ None
        nowhere = departed-nowhere (book.book).publisher (book-orphan).absent

        abbrev lossy : Fields T U
        lossy = with_fewer f parts c.home.book book.book book.stands nowhere holders new recounts drops.drops.shrinks

        boxes : mailboxes_of (number_in_slot f.books) new ≡ (lost_from (state_of (kept_of f)) p q).mailboxes
        boxes =
            drops-boxes (book.book).holders holders f.connections new key drops parts.parts.apart
            (number_in_slot f.books)
            ∙ (λ i. lost (sym numbered i) (same i))
          where
            numbered : (state_of (kept_of f)).mailboxes ≡ mailboxes_of (number_in_slot f.books) f.connections
            numbered = fun_ext (λ r. fun_ext (λ s. mailboxes-are f r s))

            lost : (ℕ → ℕ → Mailbox) → Link → ℕ → ℕ → Mailbox
            lost all l =
                (lost_from
                (record (state_of (kept_of f)) { mailboxes = all }) l.home.publisher l.home.subscriber).mailboxes

        pub loses-waiting : ConnectionLosesWaiting f key c lossy
        loses-waiting = record {
          passes = record {
            parts =
                fewer-parts f parts c.home.book book.book book.stands nowhere holders new recounts drops.drops.shrinks;
            state = but-channels lossy (lost_from (state_of (kept_of f)) p q)
                (fewer-is f parts c.home.book book.book book.stands nowhere holders new recounts drops.drops.shrinks
                ∙ (λ i. record (state_of (kept_of f)) { mailboxes = boxes i }));
            channels = links-same f.connections new recounts.homes;
            messages =
                fewer-keeps f parts c.home.book book.book book.stands nowhere holders new recounts drops.drops.shrinks;
          };
          publishers = refl;
          subscribers = refl;
          next_port = refl;
          connection = subst (λ (l : Link). Updates f.connections new key (Some (without_waiting l))) same
              (rw drops.new_is
              (Updates-with_value f.connections key drops.link (without_waiting drops.link) drops.stands));
          books = λ k away. book-others f c.home.book book.book (with_counters book.book holders) book.stands
              (record { publisher = refl; node = refl; numbers = refl; slots = drops.drops.slots }) k away;
        }

      -- the same, for the book that stands at its key
      loses-here : (i : ℕ) (b b' : Book) (new : Slab Link) → i ≡ c.home.book → get f.books i ≡ Some b
          → b' ≡ with_counters b b'.holders
          → DropsWaiting key b.holders f.connections b'.holders new
          → ConnectionLosesWaiting f key c (record f { connections = new; books = with_value f.books i b' })
      loses-here i b b' new is_key at_b is_book drops =
          let one : Some book.book ≡ Some b = sym book.stands ∙ ap (get f.books) (sym is_key) ∙ at_b in
          let is : book.book ≡ b = cc in
          let its : DropsWaiting key (book.book).holders f.connections b'.holders new =
          subst (λ (d : Book). DropsWaiting key d.holders f.connections b'.holders new) (sym is) drops in
          let changed : with_counters book.book b'.holders ≡ b' =
          ap (λ (d : Book). with_counters d b'.holders) is ∙ sym is_book in
          let same : lossy b'.holders new its ≡ record f { connections = new; books = with_value f.books i b' } =
          λ k. record f { connections = new; books = with_value f.books (sym is_key k) (changed k) } in
          subst (ConnectionLosesWaiting f key c) same (loses-waiting b'.holders new its)

      -- ---- it is forgotten if no slot stands in it

      module _ (place : ℕ) (y : SubscriberFields) (at_y : get_or f.subscribers place None ≡ Some y)
          (its : q ≡ y.id) where
        -- where some slot stands in it, it stays
        pub stays-busy : is_empty_link c ≡ false → ForgetsIfEmpty f place key y c f
        stays-busy some = record {
          passes = record {
            parts = parts;
            state = but-channels f (forgotten_if_empty (state_of (kept_of f)) p q)
                (sym
                (ap (λ (b : Bool). cond b (state_of (kept_of f))
                (subscriber_changed (state_of (kept_of f)) q (without_publisher p))) (box-numbers ∙ ap not some)));
            channels = has-link f.connections;
            messages = keeps-same f;
          };
          publishers = refl;
          next_port = refl;
          subscriber = (y, at_y, inl refl);
          others = λ k away. refl;
          left = λ d at_d. (let one : Some d ≡ Some c = sym at_d ∙ at in cc, link-busy c some);
          books = λ k away. refl;
          held = λ b at_b. let busy = link-busy c some in
              record {
                slot = busy.slot;
                in_use = let low = (link-held f parts.parts key c at b at_b).at busy.slot in
                    let some_slot = busy.stands in omega arith;
              };
        }

        module _ (none : is_empty_link c ≡ true) (connections : Slab Link)
            (removed : Updates f.connections connections key None) where
          empty : IsEmptyLink c
          empty = let no = link-empty c none in
              record {
                waiting = no.0;
                borrowed = no.1;
                others = no.2;
                returned = nothing-returned f parts.parts key c at departed;
              }

          unsent : SenderHas f.publishers key c → ⊥
          unsent has = departed c.home.publisher_place has.publisher has.stands has.is_its

          -- the fields without it
          abbrev pub forgot : Fields T U
          forgot =
              record f { subscribers = changed_at (key_forgotten key) f.subscribers place; connections = connections }

          abbrev forgot_it : Fields T U
          forgot_it = forgetting f parts.parts place y at_y key c at its empty unsent connections removed

          forgot-is : forgot_it ≡ forgot
          forgot-is = λ i. record f {
            subscribers = slice_set f.subscribers place
                (option_map (key_forgotten key) (sym at_y i));
            connections = connections;
          }

          pub forgot-parts : HasOwnedParts forgot
          forgot-parts = subst HasOwnedParts forgot-is
              (forgetful-parts f parts place y at_y key c at its empty unsent connections removed)

          forgot-state : state_of (kept_of forgot) ≡ with_channels_of forgot
              (forgotten_if_empty (state_of (kept_of f)) p q)
          forgot-state =
              ap (λ (g : Fields T U). state_of (kept_of g)) (sym forgot-is)
              ∙ forgetful-is f parts place y at_y key c at its empty unsent connections removed
              ∙ (λ i. with_channels_of forgot
              (record (state_of (kept_of f)) {
                subscribers = put_at (state_of (kept_of f)).subscribers y.id
                    (option_map (without_publisher p) (sym (subscriber-stands f parts.parts place y at_y) i));
              }))
              ∙ ap (λ (r : ℕ).
              with_channels_of forgot (subscriber_changed (state_of (kept_of f)) r (without_publisher p))) (sym its)
              ∙ sym
              (ap (λ (b : Bool). with_channels_of forgot
              (cond b (state_of (kept_of f)) (subscriber_changed (state_of (kept_of f)) q (without_publisher p))))
              (box-numbers ∙ ap not none))

          -- its publisher's book may go then
          pub book-left : (b : Book) → get forgot.books c.home.book ≡ Some b → IsOrphan forgot b
          book-left b at_b =
              let one : Some book.book ≡ Some b = sym book.stands ∙ at_b in
              let is : book.book ≡ b = cc in
              subst (IsOrphan forgot) is (record { known = (book-orphan).known; absent = (book-orphan).absent })

          left-before : (k : ℕ) (d : Link) → get connections k ≡ Some d → (k ≢ key) × (get f.connections k ≡ Some d)
          left-before k d at_d =
              let away : k ≢ key =
              λ here. (let no : None ≡ Some d = sym removed.changed ∙ sym (ap (get connections) here) ∙ at_d in
              absurd cc) in
              (away, sym (removed.others k away) ∙ at_d)

          pub others-busy : ((k : ℕ) (d : Link) → k ≢ key → get f.connections k ≡ Some d → HasNoPublisher f.publishers d
              → IsBusy d)
              → (k : ℕ) (d : Link) → get forgot.connections k ≡ Some d → d.home.book ≡ c.home.book → IsBusy d
          others-busy busy k d at_d same_book =
              let was = left-before k d at_d in
              let other = parts.parts.names.at k d was.1 in
              let one : Some other.book ≡ Some book.book =
              sym other.stands ∙ ap (get f.books) same_book ∙ book.stands in
              let is : other.book ≡ book.book = cc in
              let same_publisher : d.home.publisher ≡ p =
              sym other.is_its ∙ ap (λ (b : Book). b.publisher) is ∙ book.is_its in
              busy k d was.0 was.1 (λ i x at_x mine. departed i x at_x (mine ∙ same_publisher))

          -- where it did, all is done
          pub forgets-empty : (f' : Fields T U) → FreesBook forgot c.home.book f' → ForgetsIfEmpty f place key y c f'
          forgets-empty f' frees = record {
            passes = record {
              parts = frees.passes.parts;
              state = frees.passes.state ∙ ap (with_channels_of f') forgot-state;
              channels = λ k d at_d.
                  let was = frees.passes.channels k d at_d in
                  record {
                    key = was.key;
                    link = was.link;
                    stands = (left-before was.key was.link was.stands).1;
                    home = was.home;
                    channels = was.channels;
                  };
              messages =
                  keeps-trans f forgot f'
                  (record { back = λ k slot m e. e; forth = λ k slot n m has e. e; number = λ k slot n has. has })
                  frees.passes.messages;
            };
            publishers = frees.publishers;
            next_port = frees.next_port;
            subscriber = (
              key_forgotten key y,
              ap (λ (zs : List (Option SubscriberFields)). get_or zs place None) frees.subscribers
                  ∙ sym (ap (λ (g : Fields T U). get_or g.subscribers place None) forgot-is)
                  ∙ changed-here f.subscribers place y (key_forgotten key y) at_y,
              inr refl,
            );
            others = λ k away. ap (λ (s : Slab Link). get s k) frees.connections ∙ removed.others k away;
            left = λ d at_d. absurd (let no : None ≡ Some d = sym removed.changed
                ∙ sym (ap (λ (s : Slab Link). get s key) frees.connections) ∙ at_d in cc);
            books = λ k away. frees.others k away;
            held = λ b at_b. frees.held b at_b;
          }

-- ---- as a step reads the fields

module _ {T U : Type 0} (v f : Fields T U) (same : v ≡ f) (parts : HasOwnedParts f) (key : ℕ)
    (some : IsSomeAnd (get f.connections key) (HasNoPublisher f.publishers)) where
  found : (c : Link) → get v.connections key ≡ Some c → (get f.connections key ≡ Some c) × HasNoPublisher f.publishers c
  found c at =
      let is = some_is (HasNoPublisher f.publishers) (get f.connections key) some in
      let here : get f.connections key ≡ Some c = ap (λ (g : Fields T U). get g.connections key) (sym same) ∙ at in
      let one : Some is.0 ≡ Some c = sym is.1 ∙ here in
      let one_link : is.0 ≡ c = cc in
      (here, subst (HasNoPublisher f.publishers) one_link is.2)

  -- the book of the connection stands
  pub book-stands : (c : Link) → get v.connections key ≡ Some c → (i : ℕ) → i ≡ c.home.book → ContainsKey v.books i
  book-stands c at i is =
      let its = book f parts key c (found c at).0 in
      let here : get v.books i ≡ Some its.book =
      ap (λ (g : Fields T U). get g.books i) same ∙ ap (get f.books) is ∙ its.stands in
      rw here refl

  -- it holds what stands in the connection
  pub book-holds : (c : Link) → get v.connections key ≡ Some c → (i : ℕ) → i ≡ c.home.book → (b : Book)
      → get v.books i ≡ Some b → IsSomeAnd (get v.connections key) (IsHeld b.holders)
  book-holds c at i is b at_b =
      rw at (link-held f parts.parts key c (found c at).0 b
      (ap (get f.books) (sym is) ∙ ap (λ (g : Fields T U). get g.books i) (sym same) ∙ at_b))

  -- what waits there is lost
  pub loses-in : (c : Link) → get v.connections key ≡ Some c → (i : ℕ) → i ≡ c.home.book → (b b' : Book)
      → get v.books i ≡ Some b → b' ≡ with_counters b b'.holders
      → (new : Slab Link) → DropsWaiting key b.holders v.connections b'.holders new
      → (l : Link) → get f.connections key ≡ Some l
      → ConnectionLosesWaiting f key l (record v { connections = new; books = with_value v.books i b' })
  loses-in c at i is b b' at_b is_book new drops l at_l =
      let here = found c at in
      let one : Some l ≡ Some c = sym at_l ∙ here.0 in
      let is_c : l ≡ c = cc in
      let drops_f : DropsWaiting key b.holders f.connections b'.holders new =
      subst (λ (g : Fields T U). DropsWaiting key b.holders g.connections b'.holders new) same drops in
      let at_f : get f.books i ≡ Some b = ap (λ (g : Fields T U). get g.books i) (sym same) ∙ at_b in
      subst (λ (m : Link).
      ConnectionLosesWaiting f key m (record v { connections = new; books = with_value v.books i b' })) (sym is_c)
      (subst (λ (g : Fields T U).
      ConnectionLosesWaiting f key c (record g { connections = new; books = with_value g.books i b' })) (sym same)
      (loses-here f parts key c here.0 here.1 i b b' new is at_f is_book drops_f))
