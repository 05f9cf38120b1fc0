-- A publisher with a blocked delivery takes it up: what the delivery needs is there, and what it comes to is the
-- machine's.
use Rattle.std.proofs.Common.{◌≡◌, ℕ, ◌+◌, ◌<◌, ◌≤◌, List, Bool, true, false, cond, drop, drop-drop, take, length}
use Rattle.std.proofs.Common.{get_or, refl, ap, sym, subst, ◌∙◌, arith}
use Rattle.std.proofs.lemmas.List.{length-map, length-take}
use Rattle.std.proofs.lemmas.Option.{same_Some}
use Rattle.std.specs.declared.option.Option.{Option}
use Rattle.std.specs.declared.option.Option.TheVariants.{None, Some}
use Rattle.std.specs.declared.time.Duration.{Duration}
use Rattle.std.specs.Option.{option_map}
use Rattle.slab.specs.Slab.{get, Slab}
use Rattle.iox2_connections.specs.Link.{Link}
use Rattle.iox2_slots.specs.SlotBook.{Book, holders_at}
use Rattle.iox2_machine.specs.machine.Delivery.{no_time}
use Rattle.iox2_machine.specs.machine.Records.{Publisher, BlockedSend, Environment}
use Rattle.iox2_machine.specs.machine.Sends.{DeliverAndConclude, Retry, GiveUp, more_retries}
use Rattle.iox2_machine.specs.machine.State.{State}
use Rattle.iox2_machine.specs.machine.WellFormed.{BlockedIsWellFormed}
use Rattle.iox2_laws.specs.Sendings.{sending}
use Rattle.iox2_connections.specs.Counters.{times, HoldsItself}
use Rattle.iox2_connections.specs.Mailboxes.{sender_ends, subscriber_of_key}
use Rattle.iox2_connections.specs.Receivers.{HasReclaimed}
use Rattle.iox2_connections.specs.Recounts.{Recounts}
use Rattle.iox2_connections.specs.declared.sender.Progress.{Progress}
use Rattle.iox2_connections.specs.declared.sender.DeliveryOutcome.{DeliveryOutcome}
use Rattle.iox2_connections.proofs.Counts.{in_range}
use Rattle.iox2_connections.proofs.ReclaimedPuts.{own-in_use, own-still}
use Rattle.iox2_laws.proofs.PlaceLemmas.{occupied_within}
use Rattle.iox2_domain.specs.declared.publisher_state.BlockedDelivery.{BlockedDelivery}
use Rattle.iox2_domain.specs.Ports.{PublisherFields}
use Rattle.iox2_domain.specs.Kept.{state_of}
use Rattle.iox2_domain.specs.Fields.{Fields, kept_of, publisher_of, number_in_slot, within_reach, blocked_send}
use Rattle.iox2_domain.specs.Invariant.{IsDomain}
use Rattle.iox2_domain.specs.Reaches.{Reaches}
use Rattle.iox2_domain.specs.Deliveries.{result_of_delivery}
use Rattle.iox2_domain.specs.BlockedSends.{CanGoOn, GoesOn, RetriesAs, GivesUpAs, waiting_send}
use Rattle.iox2_domain.proofs.lemmas.fields.ConnectionEnds.{publisher-stands}
use Rattle.iox2_domain.proofs.lemmas.slots.PublisherBooks.{book-counts}
use Rattle.iox2_steps.proofs.updates.HistoryBounds.{held-few}
use Rattle.iox2_steps.proofs.sends.LoanAlone.{once-times}
use Rattle.iox2_steps.proofs.sends.GoneOn.{goes-on, ConcludesAs}
use Rattle.iox2_steps.proofs.sends.Reach.{reach-ends}
use Rattle.iox2_domain.proofs.lemmas.fields.PlacesKept.{places-then}

module _ {T U : Type 0} (f : Fields T U) (sound : IsDomain f) (i : ℕ) (x : PublisherFields)
    (here : get_or f.publishers i None ≡ Some x)
    (w : BlockedDelivery) (waits : x.blocked ≡ Some w) where
  abbrev port : Publisher
  port = (publisher_of f.books f.connections x).port

  stands : (state_of (kept_of f)).publishers x.id ≡ Some port
  stands = publisher-stands f sound.parts i x here

  well : BlockedIsWellFormed (state_of (kept_of f)) x.id port (waiting_send f x w)
  well = (sound.well_formed.publishers x.id port stands).blocked (waiting_send f x w)
      (ap (option_map (blocked_send (number_in_slot f.books x.id) (sender_ends f.connections x.keys))) waits)

  -- it waits at one of its publisher's places, and no more receivers took it
  pub waits-within : ((w.progress).place < length x.keys) × ((w.progress).count ≤ (w.progress).place)
  waits-within = (
    omega (
      arith,
      occupied_within port.ends (w.progress).place well.waits.0 well.waits.1,
      length-map x.keys (subscriber_of_key f.connections),
    ),
    well.count_bound,
  )

  -- so it may reach the place
  waits-reached : (w.progress).place < length (within_reach w x.keys)
  waits-reached = by w.is_alone where
    by : (o : Bool) → (w.progress).place < length (cond o (take ((w.progress).place + 1) x.keys) x.keys)
    by true = omega (arith, length-take ((w.progress).place + 1) x.keys, waits-within.0)
    by false = waits-within.0

  -- it may be tried again
  pub can-retry : (start : Progress) → start.place ≡ (w.progress).place → start.count ≡ (w.progress).count
      → CanGoOn x w start
  can-retry start place count = record {
    later = omega (arith, place);
    within = omega (arith, place, waits-reached);
    counted = omega (arith, place, count, waits-within.1);
  }

  -- or go on behind that place
  pub can-give_up : (start : Progress) → start.place ≡ (w.progress).place + 1 → start.count ≡ (w.progress).count
      → CanGoOn x w start
  can-give_up start place count = record {
    later = omega (arith, place);
    within = omega (arith, place, waits-reached);
    counted = omega (arith, place, count, waits-within.1);
  }

  pub waits-once : times w.slot x.loans ≤ 1
  waits-once =
      once-times (number_in_slot f.books x.id) w.slot x.loans (sound.well_formed.publishers x.id port stands).loans_once

  module _ (b : Book) (at : get f.books x.book ≡ Some b) where
    -- its publisher holds the slot itself
    pub waits-own : HoldsItself x.id w.slot b.holders f.connections.slots
    waits-own =
        let lent : 0 < times w.slot x.loans = (sound.parts.plain i x here).lent w waits in
        record { more = omega (arith, book-counts f sound.parts i x here b at w.slot, lent) }

    pub waits-few : HasReclaimed f.connections x.keys → holders_at b w.slot ≤ length x.keys + 2
    waits-few reclaimed = (held-few f sound i x here b at reclaimed w.slot).0

    -- it is in use after the delivery
    pub waits-in_use : (holders : List ℕ) (new : Slab Link) → Recounts x.id b.holders f.connections holders new
        → (w.slot < length holders) × (0 < get_or holders w.slot 0)
    waits-in_use holders new r =
        let some = own-in_use x.id w.slot holders new.slots
        (own-still x.id w.slot b.holders holders f.connections new waits-own r) in
        (in_range holders w.slot some, some)

-- ---- the machine's steps

module _ {T U : Type 0} (environment : Environment) (f0 f1 f2 : Fields T U) (sound0 : IsDomain f0)
    (reclaimed : Reaches f0 f1 (state_of (kept_of f0))) (i : ℕ) (x : PublisherFields)
    (before : get_or f0.publishers i None ≡ Some x) (now : get_or f1.publishers i None ≡ Some x) (w : BlockedDelivery)
    (waits : x.blocked ≡ Some w) where
  -- what waits is the same before slots are reclaimed
  waiting-same : waiting_send f1 x w ≡ waiting_send f0 x w
  waiting-same =
      let ports : (publisher_of f1.books f1.connections x).port ≡ (publisher_of f0.books f0.connections x).port =
      same_Some _ _ (sym (publisher-stands f1 reclaimed.agrees.parts i x now)
      ∙ ap (λ (s : State T U). s.publishers x.id) reclaimed.state ∙ publisher-stands f0 sound0.parts i x before) in
      same_Some _ _
      (sym (ap (option_map (blocked_send (number_in_slot f1.books x.id) (sender_ends f1.connections x.keys))) waits)
      ∙ ap (λ (p : Publisher). p.blocked) ports
      ∙ ap (option_map (blocked_send (number_in_slot f0.books x.id) (sender_ends f0.connections x.keys))) waits)

  module _ (outcome : DeliveryOutcome) where
    -- it was tried again
    pub retries-as : (elapsed : Duration) → (start : Progress)
        → start ≡ record w.progress { retries = more_retries (w.progress).retries }
        → GoesOn environment f1 i x w start elapsed outcome f2
        → RetriesAs environment f0 f2 x w elapsed (result_of_delivery outcome)
    retries-as elapsed start is goes = record {
      agrees = went.agrees;
      retries = subst (λ (c : BlockedSend). Retry environment (state_of (kept_of f0)) x.id c elapsed
          (state_of (kept_of f2)) (result_of_delivery outcome)) waiting-same
          (subst (λ (s : State T U). Retry environment s x.id (waiting_send f1 x w) elapsed (state_of (kept_of f2))
          (result_of_delivery outcome)) reclaimed.state
          (subst (λ (ends : List (Option ℕ)). DeliverAndConclude environment (state_of (kept_of f1)) x.id
          (sending (number_in_slot f1.books x.id w.slot) w.channel (more_retries (w.progress).retries)
          (w.progress).place
          (drop (w.progress).place ends) (w.progress).count (w.progress).has_failed) elapsed
          (state_of (kept_of f2)) (result_of_delivery outcome)) (reach-ends f1.connections w x.keys) went.concludes));
      entries = λ m entry e. reclaimed.entries m entry (went.entries m entry e);
      places = places-then reclaimed.places went.places;
    } where
      went : ConcludesAs environment f1 f2 x (number_in_slot f1.books x.id w.slot) w.channel (within_reach w x.keys)
          (record w.progress { retries = more_retries (w.progress).retries }) elapsed (result_of_delivery outcome)
      went = goes-on environment f1 reclaimed.agrees i x now w waits
          (record w.progress { retries = more_retries (w.progress).retries })
          (can-retry f1 reclaimed.agrees i x now w waits
          (record w.progress { retries = more_retries (w.progress).retries }) refl refl) elapsed outcome f2
          (subst (λ (v : Progress). GoesOn environment f1 i x w v elapsed outcome f2) is goes)

    -- it was given up there
    pub gives-up-as : (start : Progress) → start ≡ record w.progress { place = (w.progress).place + 1; retries = 0 }
        → GoesOn environment f1 i x w start no_time outcome f2
        → GivesUpAs environment f0 f2 x w (result_of_delivery outcome)
    gives-up-as start is goes = record {
      agrees = went.agrees;
      gives_up = subst (λ (c : BlockedSend). GiveUp environment (state_of (kept_of f0)) x.id c (state_of (kept_of f2))
          (result_of_delivery outcome)) waiting-same
          (subst (λ (s : State T U). GiveUp environment s x.id (waiting_send f1 x w) (state_of (kept_of f2))
          (result_of_delivery outcome)) reclaimed.state
          (subst (λ (ends : List (Option ℕ)). DeliverAndConclude environment (state_of (kept_of f1)) x.id
          (sending (number_in_slot f1.books x.id w.slot) w.channel 0 ((w.progress).place + 1) ends (w.progress).count
          (w.progress).has_failed) no_time (state_of (kept_of f2)) (result_of_delivery outcome))
          (ap (drop ((w.progress).place + 1)) (reach-ends f1.connections w x.keys) ∙ sym
          (drop-drop 1 (w.progress).place (within_reach w (sender_ends f1.connections x.keys)))) went.concludes));
      entries = λ m entry e. reclaimed.entries m entry (went.entries m entry e);
      places = places-then reclaimed.places went.places;
    } where
      went : ConcludesAs environment f1 f2 x (number_in_slot f1.books x.id w.slot) w.channel (within_reach w x.keys)
          (record w.progress { place = (w.progress).place + 1; retries = 0 }) no_time (result_of_delivery outcome)
      went = goes-on environment f1 reclaimed.agrees i x now w waits
          (record w.progress { place = (w.progress).place + 1; retries = 0 })
          (can-give_up f1 reclaimed.agrees i x now w waits
          (record w.progress { place = (w.progress).place + 1; retries = 0 }) refl refl) no_time outcome f2
          (subst (λ (v : Progress). GoesOn environment f1 i x w v no_time outcome f2) is goes)
