-- What is held is live in its domain.
use Rattle.std.proofs.Common.{◌≡◌, ◌<◌, Bool, true, false, map, refl, sym, subst, ◌∙◌}
use Rattle.std.proofs.lemmas.Bool.{true≢false}
use Rattle.std.specs.Prelude.{◌↔◌}
use Rattle.iox2_machine.specs.SingleValues.{is_single_valued}
use Rattle.iox2_machine.specs.machine.State.{State, Messages}
use Rattle.iox2_machine.specs.machine.WellFormed.{IsWellFormed}
use Rattle.iox2_machine.specs.declared.key.Key.{Key}
use Rattle.iox2_domain.specs.Kept.{Kept as Domain, state_of}
use Rattle.iox2_domain.specs.Shows.{Shows}
use Rattle.iox2_machine.specs.machine.Mailbox.{is_borrowed}
use Rattle.iox2_pubsub.specs.Live.{IsPublisherKey, IsReadyPublisher, IsLiveSubscriber, IsUnblocked, IsUnwritten}
use Rattle.iox2_pubsub.specs.Live.{IsWritten, IsBlockedSend, IsLiveSample, publisher_key, blocked_key}
use Rattle.iox2_pubsub.specs.Live.{IsPlacedPublisher}
use Rattle.iox2_pubsub.proofs.LiveParts.{publisher-live, unblocked-free, unblocked-parts, blocked-live, subscriber-live}
use Rattle.iox2_pubsub.proofs.LiveParts.{unwritten-live, written-live, sample-live}
use Rattle.iox2_pubsub.specs.declared.blocked_send.BlockedSend.{BlockedSend as BlockedHandle}
use Rattle.iox2_pubsub.specs.declared.publisher.Publisher.{Publisher as PublisherHandle}
use Rattle.iox2_pubsub.specs.declared.subscriber.Subscriber.{Subscriber as SubscriberHandle}
use Rattle.iox2_pubsub.specs.declared.sample_mut_uninit.SampleMutUninit.{SampleMutUninit}
use Rattle.iox2_pubsub.specs.declared.sample_mut.SampleMut.{SampleMut}
use Rattle.iox2_pubsub.specs.Sample.{Sample as SampleHandle}
use Rattle.iox2_commands.specs.Outcomes.{Handle}
use Rattle.iox2_runs.specs.Tables.{IsUnblockedPort as IsFree, HasNoBox, HasNoReceiverBox, IsEntryOf}
use Rattle.iox2_runs.specs.Carries.{entry_for}
use Rattle.iox2_runs.specs.Turns.{IsLiveEntry}
use Rattle.iox2_runs.specs.Placed.{IsPlacedMade}
use Rattle.iox2_runs.specs.declared.runs.made.Made.{Made}
use Rattle.iox2_runs.specs.declared.runs.made.Made.TheVariants.{Nothing, Publisher as MadePublisher}
use Rattle.iox2_runs.specs.declared.runs.made.Made.TheVariants.{Subscriber as MadeSubscriber, Unwritten, Written}
use Rattle.iox2_runs.specs.declared.runs.made.Made.TheVariants.{Blocked, Sample as MadeSample}
use Rattle.iox2_runs.proofs.Services.{cells-listed}
use Rattle.iox2_runs.proofs.TableLooks.{handle_of}
use Rattle.iox2_runs.proofs.TableEntries.{entry-stands}

module _ {T U F G : Type 0} (domain : Domain T U F G) (key : Key) where
  -- who is free in the domain is so in each state that it shows
  pub shown_free : IsUnblocked domain key → (m : Messages T U) (s : State T U) → Shows domain m s → IsFree s key.port
  shown_free free m s shown =
      subst (λ (t : State T U). IsFree t key.port) (sym shown.state) (unblocked-parts domain key free).1

  -- and who waits waits there
  pub shown_waits : key.port < (state_of domain).next_port → (answer : Bool)
      → ((answer ≡ false) ↔ IsUnblocked domain key) → answer ≡ true
      → (m : Messages T U) (s : State T U) → Shows domain m s → IsFree s key.port → ⊥
  shown_waits low answer tells is m s shown free =
      true≢false (sym is
      ∙ tells.1 (unblocked-free domain key (low, subst (λ (t : State T U). IsFree t key.port) shown.state free)))

module _ {T U F G : Type 0} (domain : Domain T U F G) (held : Made) (keeps : IsLiveEntry domain held) where
  -- it is the entry of some handle, in the state that the domain keeps
  has_entry : (made : Made) → held ≡ made → (made ≡ Nothing → ⊥)
      → (h : Handle) × IsEntryOf (state_of domain) h (entry_for made)
  has_entry made is some =
      let live = keeps.live in
      let v = handle_of live.1 live.2 live.3 (map entry_for keeps.table) live.5 keeps.of (entry_for made)
      (entry-stands keeps.table keeps.of made (keeps.stands ∙ is) some) in
      (v.0, subst (λ (s : State T U). IsEntryOf s v.0 (entry_for made)) (live.4).state v.2)

  pub live_publisher : (h : PublisherHandle) → held ≡ MadePublisher h → IsPublisherKey domain (publisher_key h)
  live_publisher h is =
      let v = (has_entry (MadePublisher h) is (λ e. let clash : MadePublisher h ≡ Nothing = e in cc)).1 in
      publisher-live domain _ (refl, v.0, (v.2, v.3))

  -- it is one of those whose ids were given out
  pub known_publisher : (h : PublisherHandle) → held ≡ MadePublisher h → h.id < (state_of domain).next_port
  known_publisher h is =
      let v = (has_entry (MadePublisher h) is (λ e. let clash : MadePublisher h ≡ Nothing = e in cc)).1 in
      ((subst IsWellFormed ((keeps.live).4).state ((keeps.live).4).well_formed).publishers h.id v.2 v.3).is_known

  -- no box answers for it
  pub unboxed_publisher : (h : PublisherHandle) → held ≡ MadePublisher h → HasNoBox (state_of domain) h.id
  unboxed_publisher h is = ((has_entry (MadePublisher h) is (λ e. let clash : MadePublisher h ≡ Nothing = e in cc)).1).4

  -- it stands where its handle says
  pub placed_publisher : (h : PublisherHandle) → held ≡ MadePublisher h → IsPlacedPublisher domain h
  placed_publisher h is = subst (IsPlacedMade domain) (keeps.stands ∙ is) (((keeps.live).6).ports keeps.of)

  -- where no send of it is blocked it is ready
  pub ready_publisher : (h : PublisherHandle) → held ≡ MadePublisher h → IsUnblocked domain (publisher_key h)
      → IsReadyPublisher domain h
  ready_publisher h is free = record { there = live_publisher h is; placed = placed_publisher h is; unblocked = free }

  pub live_subscriber : (h : SubscriberHandle) → held ≡ MadeSubscriber h → IsLiveSubscriber domain h
  live_subscriber h is =
      let v = (has_entry (MadeSubscriber h) is (λ e. let clash : MadeSubscriber h ≡ Nothing = e in cc)).1 in
      record {
        there = subscriber-live domain _ (refl, v.0, (v.2, v.3, v.4));
        placed = subst (IsPlacedMade domain) (keeps.stands ∙ is) (((keeps.live).6).ports keeps.of);
      }

  -- nor does one for it
  pub unboxed_subscriber : (h : SubscriberHandle) → held ≡ MadeSubscriber h → HasNoReceiverBox (state_of domain) h.id
  unboxed_subscriber h is =
      ((has_entry (MadeSubscriber h) is (λ e. let clash : MadeSubscriber h ≡ Nothing = e in cc)).1).5

  pub placed_unwritten : (h : SampleMutUninit) → held ≡ Unwritten h → IsPlacedMade domain (Unwritten h)
  placed_unwritten h is = subst (IsPlacedMade domain) (keeps.stands ∙ is) (((keeps.live).6).ports keeps.of)

  pub live_unwritten : (h : SampleMutUninit) → held ≡ Unwritten h → IsUnwritten domain h
  live_unwritten h is =
      let v = (has_entry (Unwritten h) is (λ e. let clash : Unwritten h ≡ Nothing = e in cc)).1 in
      unwritten-live domain h v.0 (v.2).0 (placed_unwritten h is).0

  -- if it isn't a single value its cells are handed out
  pub listed : (h : SampleMutUninit) → held ≡ Unwritten h → is_single_valued domain.config ≡ false
      → (domain.config).lists_cells ≡ true
  listed h is several = cells-listed domain.config (placed_unwritten h is).1 ((keeps.live).6).cells several

  pub live_written : (h : SampleMut) → held ≡ Written h → IsWritten domain h
  live_written h is =
      let v = (has_entry (Written h) is (λ e. let clash : Written h ≡ Nothing = e in cc)).1 in
      written-live domain h v.0 (v.2).0
      (subst (IsPlacedMade domain) (keeps.stands ∙ is) (((keeps.live).6).ports keeps.of))

  -- the id of its publisher was given out
  pub known_lender : (h : SampleMut) → held ≡ Written h → h.loan.publisher < (state_of domain).next_port
  known_lender h is =
      let v = (has_entry (Written h) is (λ e. let clash : Written h ≡ Nothing = e in cc)).1 in
      (v.2).1

  pub live_blocked : (h : BlockedHandle) → held ≡ Blocked h → IsBlockedSend domain h
  live_blocked h is =
      let v = (has_entry (Blocked h) is (λ e. let clash : Blocked h ≡ Nothing = e in cc)).1 in
      blocked-live domain (blocked_key h) (v.0, v.2)

  pub live_sample : (h : SampleHandle) → held ≡ MadeSample h → IsLiveSample domain h
  live_sample h is =
      let v = (has_entry (MadeSample h) is (λ e. let clash : MadeSample h ≡ Nothing = e in cc)).1 in
      record {
        there = sample-live domain _ (v.0, (h.origin, v.2));
        placed = (subst (IsPlacedMade domain) (keeps.stands ∙ is) (((keeps.live).6).ports keeps.of));
      }

  -- its message is borrowed from its publisher
  pub borrowed_there : (h : SampleHandle) → held ≡ MadeSample h
      → is_borrowed h.sample.number ((state_of domain).mailboxes h.origin h.sample.subscriber) ≡ true
  borrowed_there h is = ((has_entry (MadeSample h) is (λ e. let clash : MadeSample h ≡ Nothing = e in cc)).1).2
