-- Messages that are given back.
use Rattle.std.proofs.Common.{◌≡◌, ◌≢◌, ℕ, true, sym, subst, ap, ◌∙◌}
use Rattle.iox2_connections.specs.declared.connection.Home.{Home}
use Rattle.iox2_machine.specs.machine.Mailbox.{is_borrowed}
use Rattle.iox2_machine.specs.machine.Releases.{freed_if_unused, released, subscriber_pruned, unborrowed}
use Rattle.iox2_machine.specs.machine.State.{State, is_linked}
use Rattle.iox2_machine.specs.machine.WellFormed.{IsWellFormed, MailboxIsWellFormed}
use Rattle.iox2_laws.proofs.ReleaseLaws.{released_keeps, released_nearly}
use Rattle.iox2_domain.specs.Fields.{Fields, kept_of, number_in_slot}
use Rattle.iox2_domain.specs.Invariant.{IsDomain}
use Rattle.iox2_domain.specs.Kept.{state_of}
use Rattle.iox2_domain.specs.Reaches.{Reaches}
use Rattle.iox2_domain.specs.Midway.{IsMidway}
use Rattle.iox2_domain.specs.Ports.{SubscriberFields}
use Rattle.iox2_domain.specs.SampleSlots.{LiesBorrowed}
use Rattle.iox2_domain.specs.declared.sample_slots.SampleSlot.{SampleSlot}
use Rattle.iox2_steps.proofs.releases.HandedBack.{HandsBack, IsBorrowedAt}
use Rattle.iox2_steps.proofs.releases.Leaving.{FreesMidway}
use Rattle.iox2_steps.proofs.releases.SettledChannels.{box-still, freed-channels, freed-linked, pruned-linked}
use Rattle.iox2_steps.proofs.releases.SettledChannels.{settles-channels}
use Rattle.iox2_domain.proofs.lemmas.fields.KeptChannels.{but-channels}
use Rattle.iox2_domain.proofs.lemmas.samples.SampleEntries.{one-publisher}
use Rattle.iox2_domain.proofs.lemmas.slots.ConnectionSlots.{book-numbers}

module _ {T U : Type 0} (f : Fields T U) (sound : IsDomain f) (q n : ℕ) (at : SampleSlot) (lies : LiesBorrowed f q n at)
    (home : Home) (is : (lies.connection).home ≡ home) where
  number-there : number_in_slot f.books home.publisher at.slot ≡ n
  number-there =
      ap (λ (h : Home). number_in_slot f.books h.publisher at.slot) (sym is)
      ∙ book-numbers f sound at.connection at.book lies.connection lies.book lies.has_connection lies.has_book
      lies.book_is at.slot ∙ (lies.slot_is).number_is

  -- the slot is borrowed there
  pub borrowed-at-home : IsBorrowedAt f.connections at.connection at.slot home
  borrowed-at-home = rw lies.has_connection (is, (lies.slot_is).borrowed)

  abbrev s : State T U
  s = state_of (kept_of f)

  -- the number in the slot
  abbrev number : ℕ
  number = number_in_slot f.books home.publisher at.slot

  -- the subscriber's mailboxes are well-formed then
  pub pruned-boxes : (mid : Fields T U) → HandsBack f home at.slot mid → (y : SubscriberFields) → y.id ≡ home.subscriber
      → (p : ℕ) → MailboxIsWellFormed (state_of (kept_of mid)) p y.id
  pruned-boxes mid midway y is_y p =
      subst (λ (r : ℕ). MailboxIsWellFormed (state_of (kept_of mid)) p r) (sym is_y)
      (subst (λ (t : State T U). MailboxIsWellFormed t p home.subscriber) (sym midway.state)
      (box-still (subscriber_pruned (unborrowed s home.publisher home.subscriber number) home.subscriber)
      (state_of (kept_of mid)).channels p home.subscriber
      ((released_nearly s sound.well_formed home.publisher home.subscriber number).rest.mailboxes p home.subscriber)))

  -- the state, before the machine resets the subscriber's channels
  abbrev unsettled : State T U
  unsettled = freed_if_unused
      (subscriber_pruned (unborrowed s home.publisher home.subscriber number) home.subscriber) home.subscriber

  -- it leaves if it is unused
  pub freed-midway : (mid left : Fields T U) → HandsBack f home at.slot mid → (y : SubscriberFields)
      → y.id ≡ home.subscriber → FreesMidway mid y.id left
      → IsMidway f left unsettled home.book
  freed-midway mid left midway y is_y frees =
      subst (λ (r : ℕ). IsMidway f left (freed_if_unused
      (subscriber_pruned (unborrowed s home.publisher home.subscriber number) home.subscriber) r) home.book) is_y
      (frees f
      (subscriber_pruned (unborrowed s home.publisher home.subscriber number) home.subscriber) home.book midway)

  -- then its channels are reset
  settled-midway : (left : Fields T U) → IsMidway f left unsettled home.book
      → (state_of (kept_of left) ≡ released s home.publisher home.subscriber number)
      × IsMidway f left (released s home.publisher home.subscriber number) home.book
  settled-midway left midway = (
    settled,
    record {
      consistent = midway.consistent;
      lone = midway.lone;
      kept_books = record { own = midway.kept_books.own; others = midway.kept_books.others };
      state = but-channels left (released s home.publisher home.subscriber number) settled;
      channels = midway.channels;
      entries = midway.entries;
      places = midway.places;
      complete = midway.complete;
    },
  )
    where
      linked : (p r : ℕ) → r ≢ home.subscriber → is_linked (state_of (kept_of left)) p r ≡ is_linked s p r
      linked p r away =
          ap (λ (t : State T U). is_linked t p r) midway.state
          ∙ freed-linked (subscriber_pruned (unborrowed s home.publisher home.subscriber number) home.subscriber)
          home.subscriber p r away
          ∙ pruned-linked (unborrowed s home.publisher home.subscriber number) home.subscriber p r away

      settled : state_of (kept_of left) ≡ released s home.publisher home.subscriber number
      settled = settles-channels f left sound.parts midway.consistent home.subscriber midway.channels linked unsettled
          midway.state
          (freed-channels
          (subscriber_pruned (unborrowed s home.publisher home.subscriber number) home.subscriber) home.subscriber)

  -- the message is released, whoever it is borrowed from
  pub gives-back : (mid left new : Fields T U) → HandsBack f home at.slot mid → (y : SubscriberFields)
      → y.id ≡ home.subscriber → FreesMidway mid y.id left
      → ((before : Fields T U) (t : State T U) → IsMidway before left t home.book → state_of (kept_of left) ≡ t
      → IsWellFormed t → Reaches before new t)
      → (p : ℕ) → is_borrowed n (s.mailboxes p q) ≡ true → Reaches f new (released s p q n)
  gives-back mid left new midway y is_y frees settles p borrowed =
      subst (λ (m : ℕ). Reaches f new (released s p q m)) number-there
      (subst (λ (r : ℕ). Reaches f new (released s p r number))
      (ap (λ (h : Home). h.subscriber) (sym is) ∙ lies.subscriber_is)
      (subst (λ (r : ℕ). Reaches f new (released s r home.subscriber number))
      (ap (λ (h : Home). h.publisher) (sym is) ∙ one-publisher f sound q n at lies p borrowed)
      (let settled = settled-midway left (freed-midway mid left midway y is_y frees) in
      settles f (released s home.publisher home.subscriber number) settled.1 settled.0
      (released_keeps s sound.well_formed home.publisher home.subscriber number))))
