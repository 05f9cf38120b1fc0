-- A departed publisher's connection goes, of which nothing is borrowed, and what waits there is lost.
use Rattle.std.proofs.Common.{◌≡◌, ◌≢◌, ℕ, List, [], map, Bool, true, false, cond, eqb, get_or, refl, ap, sym, subst}
use Rattle.std.proofs.Common.{◌∙◌, inl, inr, ◌⊎◌, arith}
use Rattle.std.proofs.lemmas.Bool.{cases_eq, ne_eqb}
use Rattle.std.specs.declared.option.Option.{Option}
use Rattle.std.specs.declared.option.Option.TheVariants.{None, Some}
use Rattle.slab.specs.Slab.{Slab, get, with_value}
use Rattle.iox2_connections.specs.Link.{Link}
use Rattle.iox2_slots.specs.SlotBook.{Book}
use Rattle.iox2_machine.specs.machine.Mailbox.{Mailbox, waiting_dropped, numbers_in}
use Rattle.iox2_machine.specs.machine.Numbers.{put_at, contains, without}
use Rattle.iox2_machine.specs.machine.Places.{occupants, set_place}
use Rattle.iox2_machine.specs.machine.Records.{Entry, Subscriber}
use Rattle.iox2_machine.specs.machine.State.{State}
use Rattle.iox2_machine.specs.Stored.{IsHeldMessage, In_history, In_mailbox, In_blocked_send}
use Rattle.iox2_laws.proofs.Puts.{at_each}
use Rattle.iox2_connections.specs.Counters.{with_counters}
use Rattle.iox2_connections.specs.Drops.{RemovesDropped, without_waiting}
use Rattle.iox2_connections.specs.Mailboxes.{mailbox_of, mailboxes_of, with_box, publisher_of_key, receiver_ends}
use Rattle.iox2_connections.specs.Recounts.{Recounts}
use Rattle.iox2_connections.proofs.DropSteps.{drops-recount}
use Rattle.iox2_connections.proofs.MailboxChanges.{Updates-with_value, mailbox-there, mailboxes-changed, put_at-own}
use Rattle.iox2_domain.specs.KeptLinks.{ChannelsFollow}
use Rattle.iox2_connections.proofs.LookUps.{look_up-nothing}
use Rattle.iox2_domain.specs.Midway.{with_channels_of}
use Rattle.iox2_steps.proofs.updates.FollowedChannels.{follow-fewer}
use Rattle.iox2_domain.specs.Ports.{SubscriberFields}
use Rattle.iox2_domain.specs.Kept.{state_of, entries_of}
use Rattle.iox2_domain.specs.Invariant.{is_publisher, HasParts, IsDomain, HasLoneLoans, IsOwned, IsLeft, IsGone}
use Rattle.iox2_domain.specs.Fields.{Fields, kept_of, publisher_of, number_in_slot}
use Rattle.iox2_domain.proofs.lemmas.fields.SameEnds.{with_connections, same-publisher_of_key}
use Rattle.iox2_domain.proofs.lemmas.fields.Views.{mailboxes-are}
use Rattle.iox2_domain.proofs.lemmas.slots.BookChanges.{book-was, book-here}
use Rattle.iox2_domain.proofs.lemmas.slots.LoneLoans.{lone-counters}
use Rattle.iox2_steps.proofs.receivers.DepartedEnds.{nothing-returned}
use Rattle.iox2_domain.proofs.lemmas.slots.RecountedLoans as counts
use Rattle.iox2_steps.proofs.receivers.LeftEnds.{IsDeparted, LeavesReceiver, left_fields, left-parts, end-goes}
use Rattle.iox2_steps.proofs.receivers.LeftEnds.{expired-goes}
use Rattle.iox2_steps.proofs.receivers.LeftStates.{left-is, ends-left, expired-left}
use mathlib.Core.Path.{fun_ext}
use Rattle.iox2_laws.proofs.MailboxLemmas.{contains_borrowed}
use Rattle.iox2_domain.proofs.lemmas.fields.NamedPorts.{seen, seen_subscriber, named-nowhere}
use Rattle.iox2_domain.specs.KeptPlaces.{KeepsPlaces}

-- the mailboxes of which one's waiting messages are lost, as the subscriber sees them
pub dropped-box : (boxes : ℕ → ℕ → Mailbox) (p q : ℕ) (box : Mailbox)
    → with_box boxes p q box ≡ (λ (r : ℕ). put_at (boxes r) q (put_at (λ (i : ℕ). boxes i q) p box r))
dropped-box boxes p q box = fun_ext (λ r. by r (eqb r p) refl) where
  by : (r : ℕ) (b : Bool) → eqb r p ≡ b
      → cond b (put_at (boxes p) q box) (boxes r) ≡ put_at (boxes r) q (cond b box (boxes r q))
  by r true same = ap (λ (i : ℕ). put_at (boxes i) q box) (sym (let e : r ≡ p = grind (arith, same) in e))
  by r false away = put_at-own (boxes r) q

-- who holds a message where waiting ones were lost held it before
pub held-dropped : {T U : Type 0} (s : State T U) (p q r n : ℕ)
    → IsHeldMessage (record s { mailboxes = with_box s.mailboxes p q (waiting_dropped (s.mailboxes p q)) }) r n
    → IsHeldMessage s r n
held-dropped s p q r n (In_history x at is) = In_history x at is
held-dropped s p q r n (In_blocked_send x b at blocked is) = In_blocked_send x b at blocked is
held-dropped s p q r n (In_mailbox k is) =
    In_mailbox k (at_each s.mailboxes p (put_at (s.mailboxes p) q (waiting_dropped (s.mailboxes p q)))
    (λ i row. contains (numbers_in (row k)) n ≡ true → contains (numbers_in (s.mailboxes i k)) n ≡ true) r
    (λ _. at_each (s.mailboxes p) q (waiting_dropped (s.mailboxes p q))
    (λ i box. contains (numbers_in box) n ≡ true → contains (numbers_in (s.mailboxes p i)) n ≡ true) k
    (λ _ has. contains_borrowed (s.mailboxes p q) n has)
    (λ _ has. has))
    (λ _ has. has) is)

module _ {T U : Type 0} (f : Fields T U) (sound : IsDomain f) (j : ℕ) (y : SubscriberFields)
    (at : get_or f.subscribers j None ≡ Some y)
    (key : ℕ) (c : Link) (link : get f.connections key ≡ Some c) (departed : IsDeparted f y c)
    (unborrowed : c.borrowed ≡ [])
    (b : Book) (at_b : get f.books c.home.book ≡ Some b) (mine : b.publisher ≡ c.home.publisher)
    (holders : List ℕ) (new : Slab Link) (removes : RemovesDropped b.holders f.connections key c holders new) where
  abbrev p : ℕ
  p = c.home.publisher

  -- the connection, in which nothing is left
  abbrev pub emptied : Link
  emptied = without_waiting c

  abbrev pub between : Slab Link
  between = with_value f.connections key emptied

  pub recounts : Recounts p b.holders f.connections holders between
  recounts = drops-recount p b.holders holders f.connections key c emptied link refl removes.drops

  -- ---- its slots are given back

  -- the fields where nothing waits there
  abbrev pub dropped_fields : Fields T U
  dropped_fields = counts.recounted_fields f sound p c.home.book b at_b mine holders between recounts

  pub dropped-parts : HasParts dropped_fields
  dropped-parts = counts.parts-recounted f sound p c.home.book b at_b mine holders between recounts

  -- the waiting messages of one mailbox are lost
  boxes-dropped : mailboxes_of (number_in_slot f.books) between ≡ with_box (seen f).mailboxes p y.id
      (waiting_dropped ((seen f).mailboxes p y.id))
  boxes-dropped =
      mailboxes-changed (number_in_slot f.books) f.connections between key c emptied sound.parts.apart link refl
      (Updates-with_value f.connections key c emptied link)
      ∙ (λ k. with_box (are k) p (departed.subscriber k) (waiting_dropped (box k)))
    where
      are : mailboxes_of (number_in_slot f.books) f.connections ≡ (seen f).mailboxes
      are = fun_ext (λ r. fun_ext (λ q. sym (mailboxes-are f r q)))

      box : mailbox_of (number_in_slot f.books p) c ≡ (seen f).mailboxes p y.id
      box = sym (mailboxes-are f p y.id ∙ mailbox-there
          (number_in_slot f.books) f.connections key p y.id c sound.parts.apart link refl departed.subscriber)

  pub dropped-is : state_of (kept_of dropped_fields) ≡ record (seen f)
      { mailboxes = with_box (seen f).mailboxes p y.id (waiting_dropped ((seen f).mailboxes p y.id)) }
  dropped-is =
      counts.recounted-is f sound p c.home.book b at_b mine holders between recounts
      ∙ ap (λ (boxes : ℕ → ℕ → Mailbox). record (seen f) { mailboxes = boxes }) boxes-dropped

  -- each loan still has one holder
  pub dropped-lone : HasLoneLoans dropped_fields.books
  dropped-lone = lone-counters f.books c.home.book b holders at_b sound.lone removes.drops.shrinks

  -- the book is a departed publisher's
  book-gone : IsGone f.next_port f.publishers b.publisher
  book-gone = elim (sound.kept_books.at c.home.book b at_b) [
    | inl has ↦ absurd (departed.publisher has.place has.publisher has.stands (has.is_its ∙ mine))
    | inr lost ↦ lost.0
  ]

  pub dropped-gone : (d : Book) → get dropped_fields.books c.home.book ≡ Some d
      → IsGone f.next_port f.publishers d.publisher
  dropped-gone d at_d =
      let same : Some (with_counters b holders) ≡ Some d =
      sym (book-here (with_connections f between recounts.homes) c.home.book b (with_counters b holders) at_b
      (record { publisher = refl; node = refl; numbers = refl; slots = recounts.slots })) ∙ at_d in
      let is : d ≡ with_counters b holders = cc in
      rw is book-gone

  -- the other books are somebody's, or left, still
  pub dropped-kept : (k : ℕ) (d : Book) → k ≢ c.home.book → get dropped_fields.books k ≡ Some d
      → IsOwned f.publishers k d.publisher ⊎ IsLeft f.next_port f.publishers d
  dropped-kept k d away at_d =
      elim (book-was (with_connections f between recounts.homes) c.home.book b (with_counters b holders) at_b
      (record { publisher = refl; node = refl; numbers = refl; slots = recounts.slots }) k d at_d) [
        | inl here ↦ absurd (away here.0)
        | inr was ↦ sound.kept_books.at k d was.1
      ]

  pub dropped-entries : (n : ℕ) (entry : Entry T U) → entries_of (kept_of dropped_fields) n ≡ Some entry
      → entries_of (kept_of f) n ≡ Some entry
  dropped-entries = counts.recounted-entries f sound p c.home.book b at_b mine holders between recounts

  pub dropped-places : KeepsPlaces f dropped_fields
  dropped-places = counts.recounted-places f sound p c.home.book b at_b mine holders between recounts

  -- each message that somebody holds has its entry
  pub dropped-keeps : (r n : ℕ) → IsHeldMessage (state_of (kept_of dropped_fields)) r n
      → (entry : Entry T U) × (entries_of (kept_of dropped_fields) n ≡ Some entry) × ((entry.header).publisher_id ≡ r)
  dropped-keeps r n held =
      let old = sound.entries r n
      (held-dropped (seen f) p y.id r n (subst (λ (t : State T U). IsHeldMessage t r n) dropped-is held)) in (
        old.0,
        counts.recounted-keeps f sound p c.home.book b at_b mine holders between recounts r n old.0 held old.1,
        old.2,
      )

  -- ---- the connection goes

  -- its publisher is gone
  departed-absent : (seen f).publishers p ≡ None
  departed-absent = named-nowhere (publisher_of f.books f.connections) p f.publishers
      (look_up-nothing (is_publisher p) f.publishers (λ k x at_x. ne_eqb x.id p (departed.publisher k x at_x)))

  -- all other connections keep their channels
  pub dropped-follows : ChannelsFollow (λ home. home.subscriber ≡ y.id)
      (λ r q. (seen f).publishers r ≡ None) f.connections new
  dropped-follows = follow-fewer (λ home. home.subscriber ≡ y.id)
      (λ r q. (seen f).publishers r ≡ None) f.connections new fewer lost where
        others : (k : ℕ) → k ≢ key → get new k ≡ get f.connections k
        others k away = removes.goes.others k away ∙ (Updates-with_value f.connections key c emptied link).others k away

        fewer : (k : ℕ) (d : Link) → get new k ≡ Some d → get f.connections k ≡ Some d
        fewer k d at_d = elim (cases_eq k key) [
          | inl here ↦ absurd (let no : None ≡ Some d = sym removes.goes.changed ∙ sym (ap (get new) here) ∙ at_d in cc)
          | inr away ↦ sym (others k away) ∙ at_d
        ]

        lost : (k : ℕ) (d : Link) → get f.connections k ≡ Some d
            → (get new k ≡ Some d) ⊎ ((d.home.subscriber ≡ y.id) × ((seen f).publishers d.home.publisher ≡ None))
        lost k d at_d = elim (cases_eq k key) [
          | inl here ↦
              let both : Some d ≡ Some c = sym at_d ∙ ap (get f.connections) here ∙ link in
              let is : d ≡ c = cc in
              inr (
                ap (λ (l : Link). l.home.subscriber) is ∙ departed.subscriber,
                ap (λ (l : Link). (seen f).publishers l.home.publisher) is ∙ departed-absent,
              )
          | inr away ↦ inl (others k away ∙ at_d)
        ]

  linked : get between key ≡ Some emptied
  linked = (Updates-with_value f.connections key c emptied link).changed

  returned : c.returned ≡ []
  returned = nothing-returned f sound.parts key c link departed.publisher

  still-departed : IsDeparted dropped_fields y emptied
  still-departed = record { subscriber = departed.subscriber; publisher = departed.publisher }

  -- it was the end at a place
  pub place-fits : (i : ℕ) → get_or y.keys i None ≡ Some key → contains y.expired key ≡ false
      → LeavesReceiver dropped_fields y (set_place y.keys i None) y.expired new
  place-fits i has unexpired = end-goes dropped_fields dropped-parts j y at key emptied linked still-departed refl
      unborrowed returned refl new removes.goes i has unexpired

  -- it was among those that expired
  pub expired-fits : ((place : ℕ) → get_or y.keys place None ≢ Some key)
      → LeavesReceiver dropped_fields y y.keys (without key y.expired) new
  expired-fits nowhere = expired-goes dropped_fields dropped-parts j y at key emptied linked still-departed refl
      unborrowed returned refl new removes.goes nowhere

  module _ (keys : List (Option ℕ)) (expired : List ℕ) (fits : LeavesReceiver dropped_fields y keys expired new) where
    -- the fields without it
    abbrev pub removed_fields : Fields T U
    removed_fields = left_fields dropped_fields dropped-parts j y at keys expired y.is_due new fits

    pub removed-parts : HasParts removed_fields
    removed-parts = left-parts dropped_fields dropped-parts j y at keys expired y.is_due new fits

    leads : publisher_of_key between ≡ publisher_of_key f.connections
    leads = same-publisher_of_key f.connections between recounts.homes

    -- the machine's subscriber then
    abbrev pub removed_port : Subscriber
    removed_port = record (seen_subscriber f y) {
      ends = receiver_ends f.connections keys;
      expired = occupants (receiver_ends f.connections (map Some expired));
      is_due = y.is_due;
    }

    -- the machine's state then
    pub removed-is : state_of (kept_of removed_fields) ≡ with_channels_of removed_fields (record (seen f) {
      subscribers = put_at (seen f).subscribers y.id (Some removed_port);
      mailboxes = λ r. put_at ((seen f).mailboxes r) y.id
          (put_at (λ i. (seen f).mailboxes i y.id) p (waiting_dropped ((seen f).mailboxes p y.id)) r);
    })
    removed-is =
        left-is dropped_fields dropped-parts j y at keys expired y.is_due new fits
        ∙ ap (with_channels_of removed_fields)
        ((λ k. record (dropped-is k) {
          subscribers = put_at ((dropped-is k).subscribers) y.id
              (Some (record (seen_subscriber f y) {
                ends = map (leads k) keys;
                expired = occupants (map (leads k) (map Some expired));
                is_due = y.is_due;
              }));
        })
        ∙ ap (λ (boxes : ℕ → ℕ → Mailbox).
        record (seen f) { subscribers = put_at (seen f).subscribers y.id (Some removed_port); mailboxes = boxes })
        (dropped-box (seen f).mailboxes p y.id (waiting_dropped ((seen f).mailboxes p y.id))))

    -- the keys that are left lead where they led
    pub ends-removed : receiver_ends new keys ≡ receiver_ends f.connections keys
    ends-removed = ends-left dropped_fields dropped-parts j y at keys expired y.is_due new fits
        ∙ ap (λ (lead : Option ℕ → Option ℕ). map lead keys) leads

    pub expired-removed : receiver_ends new (map Some expired) ≡ receiver_ends f.connections (map Some expired)
    expired-removed = expired-left dropped_fields dropped-parts j y at keys expired y.is_due new fits
        ∙ ap (λ (lead : Option ℕ → Option ℕ). map lead (map Some expired)) leads
