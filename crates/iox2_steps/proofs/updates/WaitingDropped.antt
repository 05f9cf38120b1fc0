-- What waits in a publisher's connection is lost.
use Rattle.std.proofs.Common.{◌≡◌, ℕ, true, false, List, get_or, ap, sym, subst, ◌∙◌}
use Rattle.std.specs.declared.option.Option.{Option}
use Rattle.std.specs.declared.option.Option.TheVariants.{None, Some}
use Rattle.std.specs.Option.{option_map}
use Rattle.slab.specs.Slab.{Slab, get}
use Rattle.iox2_connections.specs.Link.{Link}
use Rattle.iox2_slots.specs.SlotBook.{Book}
use Rattle.iox2_machine.specs.machine.Mailbox.{Mailbox, numbers_in, waiting_dropped}
use Rattle.iox2_machine.specs.machine.Numbers.{put_at, contains}
use Rattle.iox2_machine.specs.machine.Places.{occupant}
use Rattle.iox2_machine.specs.machine.Records.{Publisher}
use Rattle.iox2_machine.specs.machine.State.{State}
use Rattle.iox2_machine.specs.machine.PublisherUpdate.{dropped, sender_side, with_sender_side}
use Rattle.iox2_machine.specs.machine.WellFormed.{IsWellFormed}
use Rattle.iox2_machine.specs.Stored.{IsHeldMessage, In_history, In_mailbox, In_blocked_send}
use Rattle.iox2_connections.specs.Drops.{DropsAll}
use Rattle.iox2_connections.specs.Homes.{IsSenders}
use Rattle.iox2_connections.specs.Mailboxes.{mailboxes_of, with_box, subscriber_of_key}
use Rattle.iox2_connections.proofs.MailboxChanges.{put_at-own}
use Rattle.iox2_laws.proofs.MailboxLemmas.{contains_in_dropped}
use Rattle.iox2_laws.proofs.PublisherUpdates.{with_sender_side_keeps}
use Rattle.iox2_laws.proofs.Puts.{at_each}
use Rattle.iox2_laws.proofs.SenderSides.{sender_side_begins, dropped_keeps}
use Rattle.iox2_domain.specs.Ports.{PublisherFields}
use Rattle.iox2_domain.specs.Kept.{state_of}
use Rattle.iox2_domain.specs.Fields.{Fields, kept_of, number_in_slot}
use Rattle.iox2_domain.specs.Invariant.{IsDomain}
use Rattle.iox2_domain.specs.Reaches.{Reaches}
use Rattle.iox2_domain.specs.Drops.{with_waiting_dropped}
use Rattle.iox2_domain.proofs.lemmas.fields.ConnectionEnds.{publisher-stands, occupant-sender_ends}
use Rattle.iox2_domain.proofs.lemmas.fields.Parts.{whole_of}
use Rattle.iox2_domain.proofs.lemmas.fields.Standing.{some_is}
use Rattle.iox2_domain.proofs.lemmas.fields.Views.{mailboxes-are, unblocked}
use Rattle.iox2_domain.proofs.lemmas.slots.LoneLoans.{lone-counters}
use Rattle.iox2_domain.proofs.lemmas.slots.PublisherBooks.{book-own, book-owned}
use Rattle.iox2_domain.proofs.lemmas.slots.RecountedLoans.{recounted_fields, recounted-kept, parts-recounted}
use Rattle.iox2_domain.proofs.lemmas.slots.RecountedLoans.{recounted-is, recounted-entries, recounted-places}
use Rattle.iox2_domain.proofs.lemmas.slots.RecountedLoans.{recounted-keeps}
use mathlib.Core.Path.{fun_ext}
use Rattle.iox2_domain.proofs.lemmas.fields.NamedPorts.{seen, seen_publisher}

module _ {T U : Type 0} (f : Fields T U) (sound : IsDomain f) (i : ℕ) (x : PublisherFields)
    (here : get_or f.publishers i None ≡ Some x)
    (b : Book) (at : get f.books x.book ≡ Some b) (key : ℕ) (holders : List ℕ) (new : Slab Link)
    (drops : DropsAll x.id b.holders f.connections key holders new) where
  abbrev s : State T U
  s = state_of (kept_of f)

  abbrev q : ℕ
  q = (drops.link).home.subscriber

  -- the fields without what waited
  abbrev pub dropped_fields : Fields T U
  dropped_fields =
      recounted_fields f sound x.id x.book b at (book-own f sound.parts i x here b at) holders new drops.recounts

  same_boxes : mailboxes_of (number_in_slot f.books) f.connections ≡ s.mailboxes
  same_boxes = sym (fun_ext (λ p. fun_ext (λ r. mailboxes-are f p r)))

  -- the machine sees one mailbox changed
  pub dropped-is : state_of (kept_of dropped_fields) ≡ with_waiting_dropped f x drops.link
  dropped-is =
      recounted-is f sound x.id x.book b at (book-own f sound.parts i x here b at) holders new drops.recounts
      ∙ ap (λ (boxes : ℕ → ℕ → Mailbox). record s { mailboxes = boxes })
      (drops.mailboxes (number_in_slot f.books)
      ∙ ap (λ (boxes : ℕ → ℕ → Mailbox). with_box boxes x.id q (waiting_dropped (boxes x.id q))) same_boxes)

  -- who holds a message now held it before
  held-before : (p n : ℕ) → IsHeldMessage (with_waiting_dropped f x drops.link) p n → IsHeldMessage s p n
  held-before p n (In_history y stood is) = In_history y stood is
  held-before p n (In_blocked_send y d stood waits is) = In_blocked_send y d stood waits is
  held-before p n (In_mailbox r is) =
      at_each s.mailboxes x.id (put_at (s.mailboxes x.id) q (waiting_dropped (s.mailboxes x.id q)))
      (λ k row. contains (numbers_in (row r)) n ≡ true → IsHeldMessage s k n) p
      (λ _. at_each (s.mailboxes x.id) q (waiting_dropped (s.mailboxes x.id q))
      (λ k box. contains (numbers_in box) n ≡ true → IsHeldMessage s x.id n) r
      (λ _ in_box. In_mailbox q (contains_in_dropped (s.mailboxes x.id q) n in_box)) (λ _ in_old. In_mailbox r in_old))
      (λ _ in_old. In_mailbox r in_old) is

  -- what always holds is kept where the state is well-formed
  pub dropped-reaches : IsWellFormed (with_waiting_dropped f x drops.link)
      → Reaches f dropped_fields (with_waiting_dropped f x drops.link)
  dropped-reaches well = record {
    agrees = whole_of dropped_fields
        (parts-recounted f sound x.id x.book b at (book-own f sound.parts i x here b at) holders new drops.recounts)
        (lone-counters f.books x.book b holders at sound.lone drops.shrinks)
        (recounted-kept f sound x.id x.book b at (book-own f sound.parts i x here b at) holders new drops.recounts
        (book-owned f sound.parts i x here))
        (subst IsWellFormed (sym dropped-is) well)
        (λ p n held.
        let old =
        sound.entries p n (held-before p n (subst (λ (t : State T U). IsHeldMessage t p n) dropped-is held)) in (
          old.0,
          recounted-keeps f sound x.id x.book b at
              (book-own f sound.parts i x here b at) holders new drops.recounts p n old.0 held old.1,
          old.2,
        ));
    state = dropped-is;
    entries =
        recounted-entries f sound x.id x.book b at (book-own f sound.parts i x here b at) holders new drops.recounts;
    places =
        recounted-places f sound x.id x.book b at (book-own f sound.parts i x here b at) holders new drops.recounts;
  }

module _ {T U : Type 0} (f : Fields T U) (sound : IsDomain f) (i j : ℕ) (x : PublisherFields)
    (here : get_or f.publishers i None ≡ Some x) (due : x.is_due ≡ false)
    (key : ℕ) (has : get_or x.keys j None ≡ Some key) (c : Link) (there : get f.connections key ≡ Some c) where
  abbrev to : ℕ
  to = c.home.subscriber

  -- the connection is the publisher's, at that place
  pub end-own : IsSenders x.id j c
  end-own =
      let is =
      some_is (IsSenders x.id j) (get f.connections key) ((sound.parts.linked.senders i x here).at j key has) in
      let both : Some is.0 ≡ Some c = sym is.1 ∙ there in
      let one : is.0 ≡ c = cc in
      subst (IsSenders x.id j) one is.2

  -- where its end leads
  pub end-leads : occupant (seen_publisher f x).ends j ≡ Some to
  end-leads = occupant-sender_ends f.connections x.keys j ∙ ap (subscriber_of_key f.connections) has
      ∙ ap (option_map (λ (d : Link). d.home.subscriber)) there

  -- the machine's step at the place, of a publisher that isn't due
  pub dropped-side : with_waiting_dropped f x c ≡ with_sender_side (seen f) x.id (seen_publisher f x)
      (dropped (sender_side (seen f) x.id (seen_publisher f x)) to)
  dropped-side =
      ap (λ (publishers : ℕ → Option Publisher). record (with_waiting_dropped f x c) { publishers = publishers })
      (put_at-own (seen f).publishers x.id ∙ ap (put_at (seen f).publishers x.id)
      (publisher-stands f sound.parts i x here)
      ∙ (λ t. put_at (seen f).publishers x.id (Some (record (seen_publisher f x) { is_due = due t }))))

  pub dropped-well : x.blocked ≡ None → IsWellFormed (with_waiting_dropped f x c)
  dropped-well free =
      subst IsWellFormed (sym dropped-side)
      (with_sender_side_keeps (seen f) sound.well_formed x.id (seen_publisher f x)
      (publisher-stands f sound.parts i x here) (unblocked f.books f.connections x free)
      (dropped (sender_side (seen f) x.id (seen_publisher f x)) to)
      (dropped_keeps (seen f) sound.well_formed x.id (seen_publisher f x) (publisher-stands f sound.parts i x here)
      (sender_side (seen f) x.id (seen_publisher f x)) j to end-leads
      (sender_side_begins (seen f) sound.well_formed x.id (seen_publisher f x)
      (publisher-stands f sound.parts i x here))))
