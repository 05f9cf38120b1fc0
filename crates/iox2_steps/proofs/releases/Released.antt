-- A subscriber's message is released, and its publisher is there.
use Rattle.std.proofs.Common.{◌≡◌, ℕ, [], ◌++◌, true, get_or, is_some, ap, sym, subst, ◌∙◌, Option, Some, None, ◌⊎◌}
use Rattle.std.proofs.lemmas.Bool.{or_left}
use Rattle.slab.specs.Slab.{Slab, get}
use Rattle.iox2_connections.specs.Link.{Link}
use Rattle.iox2_machine.specs.machine.Numbers.{contains, IsOnce}
use Rattle.iox2_machine.specs.machine.Mailbox.{Mailbox, other_numbers, numbers_in, is_borrowed, has_numbers}
use Rattle.iox2_machine.specs.machine.Mailbox.{with_released}
use Rattle.iox2_machine.specs.machine.Records.{Publisher, Subscriber}
use Rattle.iox2_machine.specs.machine.State.{State, is_present}
use Rattle.iox2_machine.specs.machine.Releases.{is_connected, unborrowed, subscriber_pruned}
use Rattle.iox2_machine.specs.machine.WellFormed.{LeadsTo}
use Rattle.iox2_connections.specs.Homes.{SameHomes}
use Rattle.iox2_connections.specs.Mailboxes.{mailboxes_of, with_box}
use Rattle.iox2_connections.specs.Takes.{KeepsOtherKeys, SameStands, ReleasesSlot}
use Rattle.iox2_laws.proofs.MailboxLemmas.{contains_in_released, has_borrows-is_borrowed, has_numbers-borrows}
use Rattle.iox2_laws.proofs.NumberLemmas.{IsOnce-right}
use Rattle.iox2_laws.proofs.ReleaseLaws.{at_each_mailbox}
use Rattle.iox2_domain.specs.Ports.{PublisherFields}
use Rattle.iox2_domain.specs.Kept.{state_of}
use Rattle.iox2_domain.specs.Fields.{Fields, kept_of, number_in_slot}
use Rattle.iox2_domain.proofs.lemmas.fields.KeptBooks.{kept-but}
use Rattle.iox2_domain.specs.Invariant.{IsDomain, KeepsBooks, SenderHas}
use Rattle.iox2_domain.specs.Midway.{IsMidway}
use Rattle.iox2_domain.proofs.lemmas.fields.ConnectionEnds.{publisher-stands}
use Rattle.iox2_domain.proofs.lemmas.fields.SameEnds.{with_connections, connections-are}
use Rattle.iox2_domain.proofs.lemmas.receives.Received.{boxes-are}
use Rattle.iox2_domain.proofs.lemmas.receives.Reconnected.{with_all_mailboxes, its-still, reconnected-consistent}
use Rattle.iox2_domain.proofs.lemmas.receives.Reconnected.{reconnected-complete}
use Rattle.iox2_domain.proofs.lemmas.receives.SenderEnds.{sender-has}
use Rattle.iox2_domain.proofs.lemmas.fields.KeptChannels.{but-channels}
use Rattle.iox2_steps.proofs.releases.Pruning.{pruned-none}
use Rattle.iox2_steps.proofs.updates.FollowedChannels.{links-same}
use Rattle.iox2_domain.proofs.lemmas.fields.PlacesKept.{places-still}

-- nothing is borrowed twice where no number stands twice
pub once-borrowed : (box : Mailbox) → IsOnce (numbers_in box) → IsOnce box.borrowed
once-borrowed box once =
    IsOnce-right box.waiting box.borrowed (IsOnce-right (other_numbers box) (box.waiting ++ box.borrowed) once)

module _ {T U : Type 0} (f : Fields T U) (sound : IsDomain f) (key slot : ℕ) (c : Link)
    (at_c : get f.connections key ≡ Some c) (new : Slab Link)
    (releases : ReleasesSlot f.connections key slot new)
    (held : is_borrowed (number_in_slot f.books c.home.publisher slot)
    ((state_of (kept_of f)).mailboxes c.home.publisher c.home.subscriber) ≡ true) where
  -- the message in the slot
  abbrev pub number_released : ℕ
  number_released = number_in_slot f.books c.home.publisher slot

  -- the state in which it is borrowed no more
  abbrev pub unborrowed_here : State T U
  unborrowed_here = unborrowed (state_of (kept_of f)) c.home.publisher c.home.subscriber number_released

  -- the mailboxes change as the machine's do
  pub unborrows : with_all_mailboxes (state_of (kept_of f))
      (mailboxes_of (number_in_slot f.books) new) ≡ unborrowed_here
  unborrows =
      subst (λ (boxes : ℕ → ℕ → Mailbox). IsOnce (boxes c.home.publisher c.home.subscriber).borrowed
      → with_all_mailboxes (state_of (kept_of f)) (mailboxes_of (number_in_slot f.books) new)
      ≡ with_all_mailboxes (state_of (kept_of f))
      (with_box boxes c.home.publisher c.home.subscriber
      (with_released number_released (boxes c.home.publisher c.home.subscriber))))
      (boxes-are f) (λ once.
      ap (with_all_mailboxes (state_of (kept_of f))) (releases.releases c at_c (number_in_slot f.books) once))
      (once-borrowed ((state_of (kept_of f)).mailboxes c.home.publisher c.home.subscriber)
      (sound.well_formed.mailboxes c.home.publisher c.home.subscriber).within.once)

  -- no number is new in a mailbox
  pub numbers-were : (p q n : ℕ) → contains (numbers_in (mailboxes_of (number_in_slot f.books) new p q)) n ≡ true
      → contains (numbers_in ((state_of (kept_of f)).mailboxes p q)) n ≡ true
  numbers-were p q n =
      subst (λ (boxes : ℕ → ℕ → Mailbox). contains (numbers_in (boxes p q)) n ≡ true
      → contains (numbers_in ((state_of (kept_of f)).mailboxes p q)) n ≡ true)
      (sym (ap (λ (s : State T U). s.mailboxes) unborrows))
      (at_each_mailbox (state_of (kept_of f)).mailboxes c.home.publisher c.home.subscriber
      (with_released number_released ((state_of (kept_of f)).mailboxes c.home.publisher c.home.subscriber))
      (λ j r box. contains (numbers_in box) n ≡ true
      → contains (numbers_in ((state_of (kept_of f)).mailboxes j r)) n ≡ true) p q
      (contains_in_released number_released ((state_of (kept_of f)).mailboxes c.home.publisher c.home.subscriber) n)
      (λ h. h))

  -- the subscriber is there, and knows the publisher
  pub receiver-here : (y : Subscriber) × ((state_of (kept_of f)).subscribers c.home.subscriber ≡ Some y)
      × ((contains y.expired c.home.publisher ≡ true) ⊎ LeadsTo y.ends c.home.publisher)
  receiver-here =
      (sound.well_formed.mailboxes c.home.publisher c.home.subscriber).receiver_end
      (has_borrows-is_borrowed number_released
      ((state_of (kept_of f)).mailboxes c.home.publisher c.home.subscriber) held)

  -- some message lies there
  some-there : has_numbers ((state_of (kept_of f)).mailboxes c.home.publisher c.home.subscriber) ≡ true
  some-there =
      has_numbers-borrows ((state_of (kept_of f)).mailboxes c.home.publisher c.home.subscriber)
      (has_borrows-is_borrowed number_released
      ((state_of (kept_of f)).mailboxes c.home.publisher c.home.subscriber) held)

  -- nobody is forgotten where it still has to do with the publisher
  pub nobody-forgotten : is_connected unborrowed_here c.home.subscriber c.home.publisher ≡ true
      → subscriber_pruned unborrowed_here c.home.subscriber ≡ unborrowed_here
  nobody-forgotten connected =
      pruned-none (state_of (kept_of f)) sound.well_formed c.home.publisher c.home.subscriber number_released
      receiver-here.0 receiver-here.1 connected

  -- the slot is given back to a publisher that is there
  pub gives-back-midway : (same : SameHomes f.connections new) → KeepsOtherKeys key f.connections new
      → SameStands f.connections new
      → (i : ℕ) (x : PublisherFields) → get_or f.publishers i None ≡ Some x → x.id ≡ c.home.publisher
      → KeepsBooks f.next_port f.publishers f.books → (book : ℕ)
      → IsMidway f (with_connections f new same) (subscriber_pruned unborrowed_here c.home.subscriber) book
  gives-back-midway same others stay i x at_x is kept book = record {
    consistent = reconnected-consistent f sound key c at_c new same others stay returned;
    lone = sound.lone;
    kept_books = let but = kept-but f.next_port f.publishers f.books book kept in
        record { own = but.own; others = but.others };
    state = but-channels (with_connections f new same) (subscriber_pruned unborrowed_here c.home.subscriber)
        (connections-are f new same ∙ unborrows
        ∙ sym (nobody-forgotten (or_left (is_present unborrowed_here c.home.publisher) _ present)));
    channels = links-same f.connections new same;
    entries = λ n entry e. e;
    places = places-still;
    complete = reconnected-complete f sound key c at_c new same others stay returned numbers-were;
  }
    where
      returned : (d : Link) → get new key ≡ Some d → SenderHas f.publishers key d ⊎ (d.returned ≡ [])
      returned = its-still f key c at_c new same (sender-has f sound key c at_c some-there i x at_x is)

      present : is_present (state_of (kept_of f)) c.home.publisher ≡ true
      present = ap (λ (o : Option Publisher). is_some o)
          (ap (state_of (kept_of f)).publishers (sym is) ∙ publisher-stands f sound.parts i x at_x)
