-- A subscriber receives at its place, after its update.
use Rattle.std.proofs.Common.{◌≡◌, ℕ, true, get_or, refl, ap, sym, subst, Some, None}
use Rattle.std.specs.Prelude.{IsSomeAnd}
use Rattle.slab.specs.Slab.{Slab, get}
use Rattle.iox2_connections.specs.Link.{Link}
use Rattle.iox2_machine.specs.machine.Numbers.{contains}
use Rattle.iox2_machine.specs.machine.Mailbox.{Mailbox, BorrowsFirst, numbers_in}
use Rattle.iox2_machine.specs.machine.Records.{Subscriber}
use Rattle.iox2_machine.specs.machine.State.{State, with_mailbox}
use Rattle.iox2_machine.specs.machine.Receives.{Got_sample, No_sample, Receive_error, TakeSample, MayReceiveFrom}
use Rattle.iox2_machine.specs.declared.errors.ReceiveError.TheVariants.{ExceedsMaxBorrows}
use Rattle.iox2_connections.specs.Homes.{SameHomes}
use Rattle.iox2_connections.specs.Mailboxes.{mailboxes_of, with_box}
use Rattle.iox2_connections.specs.Takes.{KeepsOtherKeys, KeepsReturned, SameStands, BorrowsSlot}
use Rattle.iox2_connections.specs.Finds.{Finds, FindsFor}
use Rattle.iox2_connections.specs.declared.receiver.Found.{Found}
use Rattle.iox2_laws.proofs.MailboxLemmas.{contains_in_borrowed}
use Rattle.iox2_laws.proofs.ReceiveLaws.{take_sample_keeps}
use Rattle.iox2_laws.proofs.ReleaseLaws.{at_each_mailbox}
use Rattle.iox2_domain.specs.Ports.{SubscriberFields}
use Rattle.iox2_domain.specs.Kept.{state_of}
use Rattle.iox2_domain.specs.Fields.{Fields, kept_of, number_in_slot, subscriber_of}
use Rattle.iox2_domain.specs.Invariant.{IsDomain}
use Rattle.iox2_domain.specs.Reaches.{Reaches}
use Rattle.iox2_domain.proofs.lemmas.fields.ConnectionEnds.{subscriber-stands}
use Rattle.iox2_domain.proofs.lemmas.receives.Reconnected.{with_all_mailboxes, returned-still, reconnected-reaches}
use Rattle.iox2_domain.proofs.lemmas.fields.SameEnds.{with_connections}
use Rattle.iox2_domain.proofs.lemmas.fields.Views.{mailboxes-are}
use mathlib.Core.Path.{fun_ext}

module _ {T U : Type 0} (f : Fields T U) where
  -- all mailboxes are those of the connections
  pub boxes-are : mailboxes_of (number_in_slot f.books) f.connections ≡ (state_of (kept_of f)).mailboxes
  boxes-are = fun_ext (λ p. fun_ext (λ q. sym (mailboxes-are f p q)))

module _ {T U : Type 0} (f : Fields T U) (sound : IsDomain f) (i : ℕ) (y : SubscriberFields)
    (at_y : get_or f.subscribers i None ≡ Some y) where
  -- the subscriber, as the machine knows it
  abbrev pub receiver : Subscriber
  receiver = (subscriber_of f.books f.connections y).port

  -- what it finds is what the machine's subscriber does
  pub found-for : (found : Found) → Finds f.connections y.expired y.keys found
      → FindsFor y.id (f.config).subscriber_max_borrowed_samples f.connections receiver
      (λ p. (state_of (kept_of f)).mailboxes p y.id) found
  found-for found finds =
      subst (λ (boxes : ℕ → ℕ → Mailbox). FindsFor y.id
      (f.config).subscriber_max_borrowed_samples f.connections receiver (λ p. boxes p y.id) found) (boxes-are f)
      (finds.finds y.id (f.config).subscriber_max_borrowed_samples receiver
      (record {
        apart = sound.parts.apart;
        kept = sound.parts.linked.expired i y at_y;
        linked = sound.parts.linked.receivers i y at_y;
        expired = refl;
        ends = refl;
      })
      (number_in_slot f.books))

  -- nothing waits
  pub takes-nothing : Finds f.connections y.expired y.keys Found.Nothing
      → TakeSample (state_of (kept_of f)) y.id receiver (state_of (kept_of f)) No_sample
  takes-nothing finds = (found-for Found.Nothing finds, refl)

  -- what waits is of publishers of which as many as may be are borrowed
  pub takes-at_limit : Finds f.connections y.expired y.keys Found.AtLimit
      → TakeSample (state_of (kept_of f)) y.id receiver (state_of (kept_of f)) (Receive_error ExceedsMaxBorrows)
  takes-at_limit finds = let found = found-for Found.AtLimit finds in (refl, found.0, found.1, refl)

  module _ (key slot : ℕ) (c : Link) (at_c : get f.connections key ≡ Some c) (new : Slab Link)
      (finds : Finds f.connections y.expired y.keys (Found.Ready key))
      (takes : BorrowsSlot f.connections key slot new) where
    -- the message in the slot
    abbrev pub number_taken : ℕ
    number_taken = number_in_slot f.books c.home.publisher slot

    pub found-ready : (c.home.subscriber ≡ y.id)
        × (MayReceiveFrom (f.config).subscriber_max_borrowed_samples receiver
        (λ p. (state_of (kept_of f)).mailboxes p y.id) c.home.publisher)
    found-ready =
        subst (λ o. IsSomeAnd o (λ (d : Link). (d.home.subscriber ≡ y.id)
        × (MayReceiveFrom (f.config).subscriber_max_borrowed_samples receiver
        (λ p. (state_of (kept_of f)).mailboxes p y.id) d.home.publisher)))
        at_c (found-for (Found.Ready key) finds)

    -- the mailboxes change as the machine's do
    pub borrows : (box : Mailbox)
        × (BorrowsFirst ((state_of (kept_of f)).mailboxes c.home.publisher y.id) number_taken box)
        × (with_all_mailboxes (state_of (kept_of f)) (mailboxes_of (number_in_slot f.books) new) ≡ with_mailbox
        (state_of (kept_of f)) c.home.publisher y.id box)
    borrows =
        let t = takes.takes c at_c (number_in_slot f.books) in
        subst (λ (q : ℕ). (box : Mailbox)
        × BorrowsFirst ((state_of (kept_of f)).mailboxes c.home.publisher q) number_taken box
        × (with_all_mailboxes (state_of (kept_of f)) (mailboxes_of (number_in_slot f.books) new) ≡ with_mailbox
        (state_of (kept_of f)) c.home.publisher q box)) found-ready.0
        (subst (λ (boxes : ℕ → ℕ → Mailbox). (box : Mailbox)
        × BorrowsFirst (boxes c.home.publisher c.home.subscriber) number_taken box
        × (with_all_mailboxes (state_of (kept_of f)) (mailboxes_of (number_in_slot f.books) new) ≡ with_all_mailboxes
        (state_of (kept_of f)) (with_box boxes c.home.publisher c.home.subscriber box))) (boxes-are f)
        (t.0, t.1, ap (with_all_mailboxes (state_of (kept_of f))) t.2))

    -- the message is received
    pub takes-message : TakeSample (state_of (kept_of f)) y.id receiver
        (with_all_mailboxes (state_of (kept_of f)) (mailboxes_of (number_in_slot f.books) new))
        (Got_sample c.home.publisher number_taken)
    takes-message = (found-ready.1, borrows.0, borrows.1, borrows.2)

    -- the fields with what was taken
    pub takes-reaches : (same : SameHomes f.connections new) → KeepsOtherKeys key f.connections new
        → KeepsReturned key f.connections new → SameStands f.connections new
        → Reaches f (with_connections f new same)
        (with_all_mailboxes (state_of (kept_of f)) (mailboxes_of (number_in_slot f.books) new))
    takes-reaches same others keeps stay =
        reconnected-reaches f sound key c at_c new same others stay
        (returned-still f key c at_c new same keeps (sound.parts.linked.returned key c at_c))
        (take_sample_keeps (state_of (kept_of f)) sound.well_formed y.id receiver _
        (Got_sample c.home.publisher number_taken) (subscriber-stands f sound.parts i y at_y) takes-message)
        (λ p q n. subst (λ (boxes : ℕ → ℕ → Mailbox). contains (numbers_in (boxes p q)) n ≡ true
        → contains (numbers_in ((state_of (kept_of f)).mailboxes p q)) n ≡ true)
        (sym (ap (λ (s : State T U). s.mailboxes) borrows.2))
        (at_each_mailbox (state_of (kept_of f)).mailboxes c.home.publisher y.id borrows.0
        (λ j r box. contains (numbers_in box) n ≡ true
        → contains (numbers_in ((state_of (kept_of f)).mailboxes j r)) n ≡ true) p q
        (contains_in_borrowed number_taken
        ((state_of (kept_of f)).mailboxes c.home.publisher y.id) borrows.0 n borrows.1) (λ h. h)))
