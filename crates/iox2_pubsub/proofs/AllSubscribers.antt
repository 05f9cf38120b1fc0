-- Laws that callers' proofs may cite: the subscribers of a domain that has as many as it allows, and sends to them.
use Rattle.std.proofs.Common.{◌≡◌, ℕ, ◌≤◌, true, List, [], ◌∷◌, length, sym, ap, subst, ◌∙◌, arith, ⊎_elim, Some}
use Rattle.std.proofs.lemmas.Bool.{true≢false}
use Rattle.iox2_machine.specs.machine.Numbers.{contains}
use Rattle.iox2_machine.specs.machine.Records.{Subscriber as MachineSubscriber}
use Rattle.iox2_machine.specs.declared.key.Key.{Key}
use Rattle.iox2_machine.specs.declared.service_config.ServiceConfig.{ServiceConfig}
use Rattle.iox2_laws.proofs.NumberLemmas.{contains_in_cons}
use Rattle.iox2_domain.specs.Kept.{Kept, state_of}
use Rattle.iox2_pubsub.specs.AllSubscribers.{AreAllSubscribers, AreConnected, AreDifferent, AreLiveKeys, IsAmong}
use Rattle.iox2_pubsub.specs.BlockedSends.{AreEach}
use Rattle.iox2_pubsub.specs.ConnectedPorts.{Connects}
use Rattle.iox2_pubsub.specs.Live.{HasPassed, IsConnected, IsConsistent, IsPending, IsServedOrPending, IsSubscriberKey}
use Rattle.iox2_pubsub.specs.Live.{Stays, WaitsAsBefore, subscriber_key}
use Rattle.iox2_pubsub.specs.PendingSends.{PassesBy}
use Rattle.iox2_pubsub.specs.declared.blocked_send.BlockedSend.{BlockedSend}
use Rattle.iox2_pubsub.specs.declared.subscriber.Subscriber.{Subscriber}
use Rattle.iox2_pubsub.proofs.ForCallers.{shows_some, well}
use Rattle.iox2_pubsub.proofs.FullDomains.{as-many, ids-once, ids_of, is-among, no-other}
use Rattle.iox2_pubsub.proofs.LiveParts.{subscriber-parts}
use Rattle.iox2_pubsub.proofs.PendingSteps.{none-behind-all}
use Rattle.iox2_pubsub.proofs.StaysBut.{passed-parts}
use Rattle.iox2_pubsub.proofs.UpToDateShown.{connected-in}

module _ {T U F G : Type 0} (domain : Kept T U F G) where
  there : (subscribers : List Subscriber) → AreLiveKeys domain subscribers → (q : ℕ)
      → contains (ids_of subscribers) q ≡ true → (y : MachineSubscriber) × ((state_of domain).subscribers q ≡ Some y)
  there [] live q at = absurd (true≢false (sym at))
  there (subscriber ∷ others) live q at =
      ⊎_elim
      (λ same. let has = (subscriber-parts domain (subscriber_key subscriber) live.0).2 in
      (has.0, ap (state_of domain).subscribers (sym same) ∙ has.1))
      (λ later. there others live.1 q later)
      (contains_in_cons subscriber.id q (ids_of others) at)

  -- it has no other
  pub no_other_subscriber : IsConsistent domain → (subscribers : List Subscriber) → AreAllSubscribers domain subscribers
      → (key : Key) → IsSubscriberKey domain key → IsAmong key.port subscribers
  no_other_subscriber consistent subscribers all key live =
      let has = (subscriber-parts domain key live).2 in
      is-among key.port subscribers (no-other (state_of domain)
      (well domain consistent) subscribers all.different all.full (there subscribers all.live) key.port has.0 has.1)

module _ {T U F G : Type 0} (domain : Kept T U F G) (consistent : IsConsistent domain) (blocked : BlockedSend) where
  each-connects : (subscribers : List Subscriber) → AreConnected domain blocked.loan.publisher subscribers → (q : ℕ)
      → contains (ids_of subscribers) q ≡ true → Connects (state_of domain) blocked.loan.publisher q
  each-connects [] connected q at = absurd (true≢false (sym at))
  each-connects (subscriber ∷ others) connected q at =
      let shown = shows_some domain consistent in
      ⊎_elim
      (λ same. subst (Connects (state_of domain) blocked.loan.publisher) same
      (connected-in domain shown.0 (state_of domain) shown.1 blocked.loan.publisher subscriber connected.0))
      (λ later. each-connects others connected.1 q later)
      (contains_in_cons subscriber.id q (ids_of others) at)

  each-past : (subscribers : List Subscriber) → AreEach (HasPassed domain blocked) subscribers → (q : ℕ)
      → contains (ids_of subscribers) q ≡ true
      → PassesBy (state_of domain) blocked.loan.publisher blocked.loan.number q
  each-past [] passed q at = absurd (true≢false (sym at))
  each-past (subscriber ∷ others) passed q at =
      ⊎_elim
      (λ same. subst (PassesBy (state_of domain) blocked.loan.publisher blocked.loan.number) same
      (passed-parts domain blocked subscriber passed.0).1)
      (λ later. each-past others passed.1 q later)
      (contains_in_cons subscriber.id q (ids_of others) at)

  -- A blocked send has one of these before it, with which its publisher is connected: they are as many as the domain
  -- allows.
  pub not_all_passed : (subscriber : Subscriber) (others : List Subscriber) → AreDifferent (subscriber ∷ others)
      → (domain.config).max_subscribers ≤ length (subscriber ∷ others)
      → AreConnected domain blocked.loan.publisher (subscriber ∷ others)
      → AreEach (HasPassed domain blocked) (subscriber ∷ others) → ⊥
  not_all_passed subscriber others different full connected passed =
      let all : List Subscriber = subscriber ∷ others in
      let many : (domain.config).max_subscribers ≤ length (ids_of all) =
      let same : length (ids_of all) ≡ length all = as-many all in omega (arith, same, full) in
      none-behind-all (state_of domain) (well domain consistent) blocked.loan.publisher blocked.loan.number (ids_of all)
      (ids-once all different) many (each-connects all connected) (each-past all passed) subscriber.id
      (passed-parts domain blocked subscriber passed.0).1

  -- So it has the only one before it.
  pub only_one_not_passed : (subscriber : Subscriber) → (domain.config).max_subscribers ≡ 1
      → IsConnected domain blocked.loan.publisher subscriber → HasPassed domain blocked subscriber → ⊥
  only_one_not_passed subscriber one connected passed =
      not_all_passed subscriber [] (tt, tt) (omega (arith, one)) (connected, tt) (passed, tt)

  -- And nothing moved for the only one.
  pub only_one_is_pending : (old : Kept T U F G) (subscriber : Subscriber) (values : List T)
      → (domain.config).max_subscribers ≡ 1 → IsConnected domain blocked.loan.publisher subscriber
      → IsServedOrPending old domain blocked subscriber values
      → WaitsAsBefore old domain subscriber × IsPending domain blocked subscriber values
  only_one_is_pending old subscriber values one connected came =
      ⊎_elim (λ served. absurd (only_one_not_passed subscriber one connected served.1)) (λ waits. waits) came

-- nor has it one after a call that leaves all that is live
pub all_subscribers_stay : {T U F G : Type 0} (old new : Kept T U F G) → Stays old new → (subscribers : List Subscriber)
    → AreAllSubscribers old subscribers → AreAllSubscribers new subscribers
all_subscribers_stay {T} {U} {F} {G} old new stays subscribers all = record {
  live = each subscribers all.live;
  different = all.different;
  full = subst (λ (c : ServiceConfig). c.max_subscribers ≤ length subscribers) (sym stays.settings) all.full;
}
  where
    each : (subscribers : List Subscriber) → AreLiveKeys old subscribers → AreLiveKeys new subscribers
    each [] live = tt
    each (subscriber ∷ others) live = (stays.subscribers (subscriber_key subscriber) live.0 tt, each others live.1)
