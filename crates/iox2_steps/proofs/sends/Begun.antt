-- A loan is sent to one connection: its publisher waits there before anybody was asked, and goes on.
use Rattle.std.proofs.Common.{◌≡◌, ◌≢◌, ℕ, ◌+◌, ◌<◌, le_refl, true, false, List, [], ◌∷◌, zero, suc, drop, take, length}
use Rattle.std.proofs.Common.{get_or, refl, ap, sym, subst, ◌∙◌, inl, inr, ◌⊎◌, arith}
use Rattle.std.proofs.lemmas.Bool.{cases_eq}
use Rattle.std.proofs.lemmas.List.{drop-take, length-set}
use Rattle.std.proofs.lemmas.Option.{same_Some}
use Rattle.std.specs.declared.option.Option.{Option}
use Rattle.std.specs.declared.option.Option.TheVariants.{None, Some}
use Rattle.std.specs.Option.{option_map, option_map_or}
use Rattle.slab.specs.Slab.{get, Slab}
use Rattle.iox2_connections.specs.Link.{Link}
use Rattle.iox2_slots.specs.SlotBook.{Book, IsAligned, IsInUse, holders_at}
use Rattle.iox2_machine.specs.machine.Delivery.{no_time}
use Rattle.iox2_machine.specs.machine.Limits.{channel_count}
use Rattle.iox2_machine.specs.machine.Loans.{entry_of}
use Rattle.iox2_machine.specs.machine.Numbers.{put_at, contains}
use Rattle.iox2_machine.specs.machine.Places.{occupant}
use Rattle.iox2_machine.specs.machine.Records.{Entry, Loan, Publisher, BlockedSend, Environment}
use Rattle.iox2_machine.specs.machine.Sends.{DeliverAndConclude, SendToConnection, Blocked_send, Delivered_to}
use Rattle.iox2_machine.specs.machine.Sends.{Send_error}
use Rattle.iox2_machine.specs.machine.State.{State}
use Rattle.iox2_machine.specs.machine.WellFormed.{IsWellFormed}
use Rattle.iox2_machine.specs.Stored.{IsHeldMessage, In_history, In_mailbox, In_blocked_send}
use Rattle.iox2_machine.specs.declared.errors.SendError.{SendError}
use Rattle.iox2_machine.specs.declared.errors.SendError.TheVariants.{UnableToDeliver}
use Rattle.iox2_laws.specs.Sendings.{sending}
use Rattle.iox2_connections.specs.Counters.{times}
use Rattle.iox2_connections.specs.Homes.{IsSenders}
use Rattle.iox2_connections.specs.Mailboxes.{sender_ends, subscriber_of_key}
use Rattle.iox2_connections.specs.declared.sender.DeliveryOutcome.{DeliveryOutcome}
use Rattle.iox2_connections.proofs.DeliverySteps.{there}
use Rattle.iox2_laws.proofs.BegunSends.{begun, begun_send, begun_keeps, begun_goes_on}
use Rattle.iox2_laws.proofs.Puts.{found_put, put_at-same}
use Rattle.iox2_domain.specs.BlockedSends.{CanGoOn, GoesOn}
use Rattle.iox2_domain.specs.ConnectionSends.{begun_at, begun_delivery, with_begun, SendsKeptLoanTo}
use Rattle.iox2_domain.specs.Deliveries.{with_sent, result_of_delivery}
use Rattle.iox2_domain.specs.Fields.{Fields, kept_of, publisher_of, number_in_slot, within_reach}
use Rattle.iox2_domain.specs.Invariant.{IsDomain, IsOwned, HasParts, HasNumber, HasLoneLoans, KeepsBooks, cell_count}
use Rattle.iox2_domain.specs.Kept.{KeptMessage, Lent_message, state_of, entries_of, entry_in}
use Rattle.iox2_domain.specs.Ports.{PublisherFields}
use Rattle.iox2_domain.specs.Reaches.{Reaches}
use Rattle.iox2_domain.specs.declared.publisher_state.BlockedDelivery.{BlockedDelivery}
use Rattle.iox2_domain.specs.Shows.{KeepsEntries}
use Rattle.iox2_domain.proofs.lemmas.fields.ConnectionEnds.{publisher-stands}
use Rattle.iox2_domain.proofs.lemmas.fields.KeptBooks.{kept-own}
use Rattle.iox2_domain.proofs.lemmas.fields.Parts.{whole_of}
use Rattle.iox2_domain.proofs.lemmas.fields.Views.{unblocked}
use Rattle.iox2_domain.proofs.lemmas.loans.PublisherChanges.{KeepsSettings, changed-kept_books, changed-here}
use Rattle.iox2_domain.proofs.lemmas.loans.PublisherChanges.{other_slots}
use Rattle.iox2_domain.proofs.lemmas.slots.BookChanges.{book-here}
use Rattle.iox2_domain.proofs.lemmas.slots.HeldMessages.{held-message-slot}
use Rattle.iox2_domain.proofs.lemmas.slots.LoneLoans.{lone-sent}
use Rattle.iox2_domain.proofs.lemmas.slots.Messages.{lies_at, in_use_within, entry-found}
use Rattle.iox2_domain.proofs.lemmas.slots.OwnSlots.{own-is, own-parts}
use Rattle.iox2_domain.proofs.lemmas.slots.PublisherBooks.{book-own, book-owned}
use Rattle.iox2_steps.proofs.sends.GoneOn.{goes-on, ConcludesAs}
use Rattle.iox2_steps.proofs.sends.LoanAlone.{loan-is, loan-of, loan-once, loan-number, loan-alone}
use Rattle.iox2_steps.proofs.sends.Reach.{reach-ends}
use Rattle.iox2_steps.proofs.sends.SendEnded.{was-number as ended-was, ended-numbered, ended-loans, ended-shapes}
use Rattle.iox2_steps.proofs.sends.SendEnded.{ended-entries, only-slot, sent-there, others-same, marked-written}
use Rattle.iox2_steps.proofs.sends.SentSlots.{sent-keeps}
use Rattle.iox2_slots.specs.declared.slots.mark.SlotMark.TheVariants.{Unwritten, Written, Sent}
use Rattle.circular_buffer.proofs.Places.{slice_get-set_other}
use Rattle.std.specs.Prelude.{slice_get}
use Rattle.iox2_domain.proofs.lemmas.fields.NamedPorts.{seen, seen_publisher}
use Rattle.iox2_domain.proofs.lemmas.fields.PlacesKept.{places-back, places-then}

-- at a key's place stands an end
keyed-end : (connections : Slab Link) (keys : List (Option ℕ)) (place key : ℕ) (c : Link)
    → get_or keys place None ≡ Some key → get connections key ≡ Some c
    → occupant (sender_ends connections keys) place ≡ Some c.home.subscriber
keyed-end connections [] place key c at is = absurd cc
keyed-end connections (k ∷ rest) zero key c at is =
    ap (subscriber_of_key connections) at ∙ ap (option_map (λ (d : Link). d.home.subscriber)) is
keyed-end connections (k ∷ rest) (suc place) key c at is = keyed-end connections rest place key c at is

module _ {T U : Type 0} (f : Fields T U) (sound : IsDomain f) (i : ℕ) (x : PublisherFields)
    (here : get_or f.publishers i None ≡ Some x)
    (slot n : ℕ) (l : Loan T U) (lies : lies_at f x.book slot ≡ Some (Lent_message n l))
    (is_written : l.is_written ≡ true) (free : x.blocked ≡ None)
    (channel connection : ℕ) (known : channel < channel_count f.config) (key : ℕ)
    (keyed : get_or x.keys connection None ≡ Some key)
    (b : Book) (at : get f.books x.book ≡ Some b) where
  own : b.publisher ≡ x.id
  own = book-own f sound.parts i x here b at

  once : times slot x.loans ≡ 1
  once = loan-once f sound i x here slot n l lies

  in_use : 0 < holders_at b slot
  in_use = omega (arith, loan-alone f sound i x here slot n l lies b at)

  is_in_use : IsInUse b slot
  is_in_use = record { in_bounds = in_use_within {T = T} {U = U} b [] slot in_use; in_use = in_use }

  -- the delivery, and the publisher that waits for it
  abbrev w : BlockedDelivery
  w = begun_delivery slot channel connection

  abbrev waiter : PublisherFields
  waiter = record x { blocked = Some w }

  abbrev after : Fields T U
  after = with_begun f i x w b

  keeps : KeepsSettings x waiter
  keeps = other_slots x x.loans (x.history).items (Some w)

  parts-after : HasParts after
  parts-after =
      own-parts f sound.parts i x here b at own waiter keeps (with_sent slot b) (sent-keeps b slot) (λ s. refl) refl
      (λ has d e. subst (λ (s : ℕ). 0 < times s x.loans)
      (ap (λ (o : Option BlockedDelivery). option_map_or (λ (v : BlockedDelivery). v.slot) o 0) e)
      (omega (arith, once)))
      unwritten
      aligned
      (ended-numbered f sound.parts i x here b at own slot n l is_in_use lies is_written once free)
      (record { at = (ended-shapes f sound.parts i x here b at own slot n l is_in_use lies is_written once free).at })
    where
      -- the slot itself was written
      unwritten : (s : ℕ) → 0 < cell_count f.contents x.book s → slice_get b.marks s ≡ Some Unwritten
          → 0 < times s x.loans
          → (0 < times s waiter.loans) × (slice_get (with_sent slot b).marks s ≡ Some Unwritten)
      unwritten s some marked out = elim (cases_eq s slot) [
        | inl same ↦ absurd (let no : Some Unwritten ≡ Some Written = sym marked ∙ ap (slice_get b.marks) same
            ∙ marked-written f sound.parts i x here b at own slot n l is_in_use lies is_written once free in cc)
        | inr away ↦ (out, slice_get-set_other b.marks slot s Sent away ∙ marked)
      ]

      aligned : IsAligned (with_sent slot b)
      aligned =
          let old : IsAligned b = (sound.parts.books.books x.book b at).aligned in
          record { numbers = old.numbers; headers = old.headers; marks = length-set b.marks slot _ ∙ old.marks }

  low : slot < length b.marks
  low = omega (arith, is_in_use.in_bounds, (sound.parts.books.books x.book b at).aligned.marks)

  lone-after : HasLoneLoans after.books
  lone-after = lone-sent f.books x.book slot b b.holders at sound.lone low (λ other away. le_refl (holders_at b other))

  kept-after : KeepsBooks after.next_port after.publishers after.books
  kept-after =
      changed-kept_books f i x waiter here refl after.books refl
      (kept-own f.next_port f.publishers f.books x.book b (with_sent slot b) at refl
      (subst (IsOwned f.publishers x.book) (sym own) (book-owned f sound.parts i x here)) sound.kept_books)

  pub waiter-stands : get_or after.publishers i None ≡ Some waiter
  waiter-stands = changed-here f i x waiter here refl

  -- ---- the state

  abbrev waits : BlockedSend
  waits = begun_send (seen_publisher f x) n channel connection

  waiter-is : (publisher_of f.books f.connections waiter).port ≡ record (seen_publisher f x) { blocked = Some waits }
  waiter-is = λ t. record (seen_publisher f x) {
    blocked = Some (record waits {
      message = loan-number f sound i x here slot n l lies t;
      ends = drop-take connection 1 (seen_publisher f x).ends t;
    });
  }

  pub after-is : state_of (kept_of after) ≡ begun (seen f) x.id n waits
  after-is =
      own-is f sound.parts i x here b at own waiter keeps (with_sent slot b) (sent-keeps b slot)
      (put_at (seen f).loans n None)
      (ended-loans f sound.parts i x here b at own slot n l is_in_use lies is_written once free)
      ∙ (λ t. record (seen f)
      { publishers = put_at (seen f).publishers x.id (Some (waiter-is t)); loans = put_at (seen f).loans n None })
      ∙ (λ t. record (seen f) {
        publishers = put_at (seen f).publishers x.id
            (option_map (λ (v : Publisher). record v { blocked = Some waits })
            (sym (publisher-stands f sound.parts i x here) t));
        loans = put_at (seen f).loans n None;
      })

  linked : (c : Link) × (get f.connections key ≡ Some c) × IsSenders x.id connection c
  linked = there x.id f.connections x.keys connection key (sound.parts.linked.senders i x here) keyed

  well : IsWellFormed (state_of (kept_of after))
  well = subst IsWellFormed (sym after-is)
      (begun_keeps (seen f) sound.well_formed x.id n channel connection l (loan-is f sound i x here slot n l lies)
      (loan-of f sound i x here slot n l lies) (seen_publisher f x) (publisher-stands f sound.parts i x here)
      (unblocked f.books f.connections x free)
      known linked.0.home.subscriber (keyed-end f.connections x.keys connection key linked.0 keyed linked.1))

  -- ---- entries

  -- who holds another message held it before
  held-before : (q m : ℕ) → m ≢ n → IsHeldMessage (begun (seen f) x.id n waits) q m → IsHeldMessage (seen f) q m
  held-before q m away (In_history y stood is) =
      found_put (seen f).publishers x.id _ (λ j v. contains v.history m ≡ true → IsHeldMessage (seen f) j m) q y
      (subst (λ (o : Option Publisher). put_at (seen f).publishers x.id
      (option_map (λ (v : Publisher). record v { blocked = Some waits }) o) q ≡ Some y)
      (publisher-stands f sound.parts i x here) stood)
      (λ _ h. In_history (seen_publisher f x) (publisher-stands f sound.parts i x here) h)
      (λ _ was h. In_history y was h) is
  held-before q m away (In_mailbox r is) = In_mailbox r is
  held-before q m away (In_blocked_send y c stood has is) =
      found_put (seen f).publishers x.id _ (λ j v. v.blocked ≡ Some c → IsHeldMessage (seen f) j m) q y
      (subst (λ (o : Option Publisher). put_at (seen f).publishers x.id
      (option_map (λ (v : Publisher). record v { blocked = Some waits }) o) q ≡ Some y)
      (publisher-stands f sound.parts i x here) stood)
      (λ _ h.
      absurd
      (away (sym is ∙ sym (ap (λ (o : Option BlockedSend). option_map_or (λ (v : BlockedSend). v.message) o 0) h))))
      (λ _ was h. In_blocked_send y c was h is) has

  entries-after : KeepsEntries (kept_of after)
  entries-after q m is = elim (cases_eq m n) [ inl same ↦ sent same | inr away ↦ others away ] where
    lying : (k r : ℕ) × (has : HasNumber after.books k r m) × ((has.book).publisher ≡ q)
    lying = held-message-slot after parts-after.counted parts-after.publisher_ids parts-after.plain q m is

    sent : m ≡ n → (entry : Entry T U) × (entries_of (kept_of after) m ≡ Some entry) × ((entry.header).publisher_id ≡ q)
    sent same =
        let has : HasNumber after.books lying.0 lying.1 n =
        subst (HasNumber after.books lying.0 lying.1) same lying.2 in
        let at_slot = only-slot f sound.parts i x here b at own slot n l is_in_use lies is_written once free lying.0
        lying.1 has in
        let both : Some (with_sent slot b) ≡ Some (lying.2).book =
        sym (book-here f x.book b (with_sent slot b) at (sent-keeps b slot)) ∙ ap (get after.books) (sym at_slot.0)
        ∙ (lying.2).stands in
        let is_book : with_sent slot b ≡ (lying.2).book = cc in
        let found : entries_of (kept_of after) n ≡ Some (entry_of l) =
        entry-found after parts-after.numbered x.book slot n (entry_of l)
        (sent-there f sound.parts i x here b at own slot n l is_in_use lies is_written once free in_use) in (
          entry_of l,
          ap (entries_of (kept_of after)) same ∙ found,
          (sound.well_formed.loans n l (loan-is f sound i x here slot n l lies)).origin
              ∙ loan-of f sound i x here slot n l lies
              ∙ sym own ∙ ap (λ (c : Book). c.publisher) is_book ∙ lying.3,
        )

    others : m ≢ n
        → (entry : Entry T U) × (entries_of (kept_of after) m ≡ Some entry) × ((entry.header).publisher_id ≡ q)
    others away =
        let old =
        sound.entries q m (held-before q m away (subst (λ (t : State T U). IsHeldMessage t q m) after-is is)) in (
          old.0,
          ap found_entry
              (others-same f sound.parts i x here b at own slot n l is_in_use lies is_written once free m away) ∙ old.1,
          old.2,
        )
      where
        found_entry : Option (KeptMessage T U) → Option (Entry T U)
        found_entry None = None
        found_entry (Some k) = entry_in k

  pub begun-agrees : IsDomain after
  begun-agrees = whole_of after parts-after lone-after kept-after well entries-after

  -- ---- it goes on

  module _ (environment : Environment) (f1 : Fields T U) (reclaimed : Reaches after f1 (state_of (kept_of after)))
      (stands1 : get_or f1.publishers i None ≡ Some waiter) (can : CanGoOn waiter w (begun_at connection))
      (outcome : DeliveryOutcome) (f2 : Fields T U)
      (goes : GoesOn environment f1 i waiter w (begun_at connection) no_time outcome f2) where
    went : ConcludesAs environment f1 f2 waiter (number_in_slot f1.books x.id slot) channel (within_reach w x.keys)
        (begun_at connection) no_time (result_of_delivery outcome)
    went = goes-on environment f1 reclaimed.agrees i waiter stands1 w refl
        (begun_at connection) can no_time outcome f2 goes

    state1 : state_of (kept_of f1) ≡ begun (seen f) x.id n waits
    state1 = reclaimed.state ∙ after-is

    -- the machine's publisher then
    port1 : (publisher_of f1.books f1.connections waiter).port ≡ record (seen_publisher f x) { blocked = Some waits }
    port1 = same_Some _ _ (sym (publisher-stands f1 reclaimed.agrees.parts i waiter stands1)
        ∙ ap (λ (t : State T U). t.publishers x.id) state1
        ∙ put_at-same (seen f).publishers x.id (option_map (λ (v : Publisher). record v { blocked = Some waits })
        ((seen f).publishers x.id)) ∙ ap (option_map (λ (v : Publisher). record v { blocked = Some waits }))
        (publisher-stands f sound.parts i x here))

    number1 : number_in_slot f1.books x.id slot ≡ n
    number1 = ap (λ (v : Publisher). option_map_or (λ (c : BlockedSend). c.message) v.blocked 0) port1

    ends1 : drop connection (sender_ends f1.connections (within_reach w x.keys)) ≡ take 1
        (drop connection (seen_publisher f x).ends)
    ends1 = ap (drop connection) (reach-ends f1.connections w x.keys)
        ∙ ap (λ (v : Publisher). drop connection (take (connection + 1) v.ends)) port1
        ∙ drop-take connection 1 (seen_publisher f x).ends

    loan : (seen f).loans n ≡ Some l
    loan = loan-is f sound i x here slot n l lies

    its : l.publisher ≡ x.id
    its = loan-of f sound i x here slot n l lies

    sends : SendToConnection environment (seen f) n l channel connection (state_of (kept_of f2))
        (result_of_delivery outcome)
    sends = begun_goes_on environment (seen f) n l channel connection (seen_publisher f x)
        (ap (seen f).publishers its ∙ (publisher-stands f sound.parts i x here)) (state_of (kept_of f2))
        (result_of_delivery outcome)
        (subst (λ (p : ℕ). DeliverAndConclude environment (begun (seen f) p n waits) p
        (sending n channel 0 connection (take 1 (drop connection (seen_publisher f x).ends)) 0 false) no_time
        (state_of (kept_of f2)) (result_of_delivery outcome)) (sym its)
        (subst (λ (t : State T U). DeliverAndConclude environment t x.id
        (sending n channel 0 connection (take 1 (drop connection (seen_publisher f x).ends)) 0 false) no_time
        (state_of (kept_of f2)) (result_of_delivery outcome)) state1
        (subst (λ (ends : List (Option ℕ)). DeliverAndConclude environment (state_of (kept_of f1)) x.id
        (sending n channel 0 connection ends 0 false) no_time (state_of (kept_of f2)) (result_of_delivery outcome))
        ends1
        (subst (λ (m : ℕ). DeliverAndConclude environment (state_of (kept_of f1)) x.id
        (sending m channel 0 connection (drop connection (sender_ends f1.connections (within_reach w x.keys))) 0 false)
        no_time (state_of (kept_of f2)) (result_of_delivery outcome)) number1
        went.concludes))))

    -- no entry but that of the message is newly kept
    entries-new : (m : ℕ) (entry : Entry T U) → entries_of (kept_of f2) m ≡ Some entry
        → ((m ≡ n) × (entry ≡ entry_of l)) ⊎ (entries_of (kept_of f) m ≡ Some entry)
    entries-new m entry e = ended-entries f sound.parts i x here b at own slot n l is_in_use lies is_written once free m
        entry (reclaimed.entries m entry (went.entries m entry e))

    -- nothing but a handler fails it
    fails : (o : DeliveryOutcome) (error : SendError) → error ≢ UnableToDeliver
        → result_of_delivery o ≡ Send_error error → ⊥
    fails (DeliveryOutcome.Suspended progress) error other failed =
        absurd (let no : Blocked_send ≡ Send_error error = failed in cc)
    fails (DeliveryOutcome.Complete count true) error other failed =
        other (let same : Send_error UnableToDeliver ≡ Send_error error = failed in cc)
    fails (DeliveryOutcome.Complete count false) error other failed =
        absurd (let no : Delivered_to count ≡ Send_error error = failed in cc)

    pub begun-sends : SendsKeptLoanTo environment f f2 n channel connection (result_of_delivery outcome)
    begun-sends = record {
      loan = l;
      out = loan;
      agrees = went.agrees;
      sends = sends;
      entries = entries-new;
      places =
          places-then
          (places-back (ended-was f sound.parts i x here b at own slot n l is_in_use lies is_written once free))
          (places-then reclaimed.places went.places);
      lost = λ error other failed. absurd (fails outcome error other failed);
    }
