-- A publisher's update, over the subscribers' places.
use Rattle.std.proofs.Common.{◌≡◌, ℕ, zero, suc, ◌+◌, ◌<◌, ◌≤◌, true, false, Bool, List, [], ◌∷◌, length, drop, get_or}
use Rattle.std.proofs.Common.{refl, ap, sym, subst, ◌∙◌}
use Rattle.std.proofs.lemmas.List.{drop_more, drop_all}
use Rattle.std.specs.declared.option.Option.{Option}
use Rattle.std.specs.declared.option.Option.TheVariants.{None, Some}
use Rattle.std.specs.Option.{option_map_or}
use Rattle.iox2_machine.specs.machine.Connections.{ForEachPlace, first_failure}
use Rattle.iox2_machine.specs.machine.Places.{occupant, is_port}
use Rattle.iox2_machine.specs.machine.PublisherUpdate.{history_for, SenderSide, UpdateSenderPlace, sender_side}
use Rattle.iox2_machine.specs.machine.PublisherUpdate.{with_sender_side, UpdatePublisher}
use Rattle.iox2_machine.specs.machine.Records.{Publisher, Subscriber, Environment}
use Rattle.iox2_machine.specs.machine.State.{sender_channels_reset, State, receiving_buffer, has_receiver_end}
use Rattle.iox2_machine.specs.declared.errors.ConnectionFailure.{ConnectionFailure}
use Rattle.iox2_laws.proofs.Puts.{put_at-same, put_at-twice}
use Rattle.iox2_steps.proofs.updates.SenderActions.{update-histories}
use mathlib.Core.Path.{fun_ext}

-- both ways to ask who stands at a place
pub occupant-get_or : (xs : List (Option ℕ)) (i : ℕ) → get_or xs i None ≡ occupant xs i
occupant-get_or [] zero = refl
occupant-get_or [] (suc i) = refl
occupant-get_or (x ∷ xs) zero = refl
occupant-get_or (x ∷ xs) (suc i) = occupant-get_or xs i

-- a failure before none is the first
pub first_failure-none : (failure : Option ConnectionFailure) → first_failure failure None ≡ failure
first_failure-none None = refl
first_failure-none (Some failure) = refl

-- which of three is the first
pub first_failure-assoc : (a b c : Option ConnectionFailure)
    → first_failure (first_failure a b) c ≡ first_failure a (first_failure b c)
first_failure-assoc None b c = refl
first_failure-assoc (Some failure) b c = refl

-- ---- in the machine

module _ {T U : Type 0} (environment : Environment) (s : State T U) (p : ℕ) (x : Publisher)
    (present : s.publishers p ≡ Some x) where
  -- what the publisher does at a place
  abbrev pub AtPlace : (place : ℕ) → Option ℕ → SenderSide → SenderSide → Option ConnectionFailure → Type 0
  AtPlace place at side side' failure =
      UpdateSenderPlace environment (s.config).service_id p x.degradation_handler (history_for s p x)
      (receiving_buffer s) (has_receiver_end s p) place at side side' failure

  module _ (side : SenderSide) where
    abbrev mid : State T U
    mid = with_sender_side s p x side

    abbrev pub publisher_mid : Publisher
    publisher_mid = record x { ends = side.ends; is_due = false }

    -- the publisher's other side of the state is its side now
    pub side-again : sender_side mid p publisher_mid ≡ side
    side-again = λ k. record side { mailboxes = put_at-same s.mailboxes p side.mailboxes k }

    pub state-again : (side' : SenderSide) → with_sender_side mid p publisher_mid side' ≡ with_sender_side s p x side'
    state-again side' = λ k. record s {
      publishers =
          put_at-twice s.publishers p (Some publisher_mid) (Some (record x { ends = side'.ends; is_due = false })) k;
      mailboxes = put_at-twice s.mailboxes p side.mailboxes side'.mailboxes k;
      warnings = side'.warnings;
    }

    -- whom it may join doesn't change
    same_receivers : has_receiver_end mid p ≡ has_receiver_end s p
    same_receivers = fun_ext
        (λ q. ap (joined q) (put_at-same s.publishers p (Some publisher_mid)) ∙ sym (ap (joined q) present)) where
          joined : ℕ → Option Publisher → Bool
          joined q o = option_map_or (λ (y : Subscriber).
              option_map_or (λ (z : Publisher). is_port (occupant y.ends z.place) p) o false) (s.subscribers q) false

    -- a step from there is a step of the walk, where the same is handed out to the subscriber at the place
    pub step-again : (histories : ℕ → List ℕ) (place : ℕ) (side' : SenderSide) (failure : Option ConnectionFailure)
        → ((q : ℕ) → occupant s.subscriber_places place ≡ Some q → histories q ≡ history_for s p x q)
        → UpdateSenderPlace environment (mid.config).service_id p publisher_mid.degradation_handler histories
        (receiving_buffer mid) (has_receiver_end mid p)
        place (occupant mid.subscriber_places place) (sender_side mid p publisher_mid) side' failure
        → AtPlace place (occupant s.subscriber_places place) side side' failure
    step-again histories place side' failure same step =
        update-histories environment (s.config).service_id p x.degradation_handler histories (receiving_buffer s)
        (has_receiver_end s p) place (occupant s.subscriber_places place) side
        (history_for s p x) same side' failure
        (subst (λ (now : SenderSide). UpdateSenderPlace environment (s.config).service_id p x.degradation_handler
        histories (receiving_buffer s) (has_receiver_end s p) place
        (occupant s.subscriber_places place) now side' failure) side-again
        (subst (λ (has : ℕ → Bool). UpdateSenderPlace environment
        (s.config).service_id p x.degradation_handler histories (receiving_buffer s) has
        place (occupant s.subscriber_places place) (sender_side mid p publisher_mid) side' failure) same_receivers
        step))

  -- one place more
  pub walk-goes-on : (place : ℕ) (side side' end : SenderSide) (first later : Option ConnectionFailure)
      → place < length s.subscriber_places
      → AtPlace place (occupant s.subscriber_places place) side side' first
      → ForEachPlace AtPlace (place + 1) (drop (place + 1) s.subscriber_places) side' end later
      → ForEachPlace AtPlace place (drop place s.subscriber_places) side end (first_failure first later)
  walk-goes-on place side side' end first later low step rest =
      subst (λ (places : List (Option ℕ)). ForEachPlace AtPlace place places side end (first_failure first later))
      (sym (drop_more s.subscriber_places place None low
      ∙ ap (λ o. o ∷ drop (place + 1) s.subscriber_places) (occupant-get_or s.subscriber_places place)))
      (side', first, later, step, rest, refl)

  pub walk-ends : (place : ℕ) (side : SenderSide) → length s.subscriber_places ≤ place
      → ForEachPlace AtPlace place (drop place s.subscriber_places) side side None
  walk-ends place side past =
      subst (λ (places : List (Option ℕ)). ForEachPlace AtPlace place places side side None)
      (sym (drop_all place s.subscriber_places past)) (refl, refl)

  -- the update of a publisher that is due is such a walk
  pub due-updates : x.is_due ≡ true → (side : SenderSide) (failure : Option ConnectionFailure)
      → ForEachPlace AtPlace 0 s.subscriber_places (sender_side s p x) side failure
      → UpdatePublisher environment s p (sender_channels_reset (with_sender_side s p x side) p) failure
  due-updates due side failure walk = rw present (rw due (side, walk, refl))

  -- that of another does nothing
  pub idle-updates : x.is_due ≡ false → UpdatePublisher environment s p s None
  idle-updates due = rw present (rw due (refl, refl))
