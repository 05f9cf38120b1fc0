-- Each call on a store comes to something, where memory is ample and handlers are fixed.
use Rattle.std.proofs.Common.{◌≡◌, ◌⊎◌, inl, inr, ℕ, ◌+◌, ◌*◌, ◌^◌, ◌≤◌, ◌<◌, Bool, true, false, cond, List, [], ◌∷◌}
use Rattle.std.proofs.Common.{◌++◌, take, drop, arith, refl, sym, ap, subst, ◌∙◌, Option, None, Some, eqb, ltb}
use Rattle.std.specs.Prelude.{MatchOption, max, nat_lt}
use Rattle.std.specs.Bool.{MatchBool}
use Rattle.std.specs.Option.{option_map}
use Rattle.std.specs.declared.time.Duration.{Duration}
use Rattle.std.proofs.lemmas.Bool.{true≢false, eqb-false, eqb-true, or_from, and_parts, ltb-true, ltb-false, le-ltb}
use Rattle.std.proofs.lemmas.Bool.{lt-ltb}
use Rattle.std.proofs.lemmas.Nat.{mul-le}
use Rattle.std.proofs.lemmas.Option.{none-some}
use Rattle.std.proofs.lemmas.List.Folds.{list_any-append}
use Rattle.iox2_machine.specs.machine.Limits.{last_number, segment_fits, buffer_limit}
use Rattle.iox2_machine.specs.machine.Numbers.{put_at, contains, size, without, last_n}
use Rattle.iox2_machine.specs.machine.Places.{occupants, free_place}
use Rattle.iox2_machine.specs.machine.Mailbox.{Mailbox, can_receive, has_data, BorrowsFirst}
use Rattle.iox2_machine.specs.machine.Records.{Loan, Publisher, Subscriber, PublisherSettings, SubscriberSettings}
use Rattle.iox2_machine.specs.machine.State.{State, held, channel_buffer, connected_publishers, with_mailbox, with_loan}
use Rattle.iox2_machine.specs.machine.State.{publisher_changed, receiver_channels_reset}
use Rattle.iox2_machine.specs.machine.Delivery.{DeliveryEnd, Complete, Suspended, no_time, Deliver}
use Rattle.iox2_machine.specs.machine.PublisherUpdate.{UpdatePublisher}
use Rattle.iox2_machine.specs.machine.SubscriberUpdate.{UpdateSubscriber}
use Rattle.iox2_machine.specs.machine.Loans.{GrantLoan, StaticLoan, DynamicLoan, IsGuaranteed, NoSegmentFits}
use Rattle.iox2_machine.specs.machine.Loans.{known_length, loan_granted, limit_error, is_static, loan_discarded}
use Rattle.iox2_machine.specs.machine.Loans.{written}
use Rattle.iox2_machine.specs.machine.SingleCalls.{GrantWrittenLoan}
use Rattle.iox2_machine.specs.machine.Sends.{Send, SendToConnection, Publish, DeliverAndConclude, ConcludeSend}
use Rattle.iox2_machine.specs.machine.Sends.{SendResult, Delivered_to, Blocked_send, Send_error, with_mailboxes}
use Rattle.iox2_machine.specs.machine.Sends.{published, send_ended, send_blocked}
use Rattle.iox2_machine.specs.machine.Receives.{Receive, HasSamples, TakeSample, ReceiveResult, Got_sample, No_sample}
use Rattle.iox2_machine.specs.machine.Receives.{Receive_error, has_any_data, can_receive_of}
use Rattle.iox2_machine.specs.machine.Releases.{released, freed_if_unused, subscriber_pruned, is_unused, place_freed}
use Rattle.iox2_machine.specs.machine.Releases.{unborrowed}
use Rattle.iox2_machine.specs.machine.Ports.{CreatePublisher, CreateSubscriber, with_new_publisher, with_new_subscriber}
use Rattle.iox2_machine.specs.machine.Ports.{new_publisher, new_subscriber, with_failure_warning, first_segment_fits}
use Rattle.iox2_machine.specs.machine.Ports.{buffer_for, publisher_closed, subscriber_closed, subscriber_shut}
use Rattle.iox2_machine.specs.declared.service_config.ServiceConfig.{ServiceConfig}
use Rattle.iox2_machine.specs.declared.allocation.AllocationStrategy.{AllocationStrategy}
use Rattle.iox2_machine.specs.declared.allocation.AllocationStrategy.TheVariants.{Static, BestFit, PowerOfTwo}
use Rattle.iox2_machine.specs.declared.warning.Warning.{Warning}
use Rattle.iox2_machine.specs.declared.warning.Warning.TheVariants.{PublisherPartlyConnected, SubscriberPartlyConnected}
use Rattle.iox2_machine.specs.declared.errors.ConnectionFailure.{ConnectionFailure}
use Rattle.iox2_machine.specs.declared.errors.LoanError.{LoanError}
use Rattle.iox2_machine.specs.declared.errors.LoanError.TheVariants.{OutOfMemory, InternalFailure}
use Rattle.iox2_machine.specs.declared.errors.ReceiveError.TheVariants.{ExceedsMaxBorrows}
use Rattle.iox2_machine.specs.declared.errors.ReceiveError.TheVariants.{ConnectionFailure as CouldNotConnect}
use Rattle.iox2_machine.specs.declared.errors.SendError.TheVariants.{ConnectionBrokenSinceSenderNoLongerExists}
use Rattle.iox2_machine.specs.declared.errors.SendError.TheVariants.{ConnectionError, UnableToDeliver}
use Rattle.iox2_machine.specs.declared.errors.PublisherCreateError.{PublisherCreateError}
use Rattle.iox2_machine.specs.declared.errors.PublisherCreateError.TheVariants.{UnableToCreatePortTag as NoPublisherTag}
use Rattle.iox2_machine.specs.declared.errors.PublisherCreateError.TheVariants.{ExceedsMaxSupportedPublishers}
use Rattle.iox2_machine.specs.declared.errors.PublisherCreateError.TheVariants.{UnableToCreateDataSegment}
use Rattle.iox2_machine.specs.declared.errors.SubscriberCreateError.{SubscriberCreateError}
use Rattle.iox2_machine.specs.declared.errors.SubscriberCreateError.TheVariants.{UnableToCreatePortTag as NoSubscriberTag}
use Rattle.iox2_machine.specs.declared.errors.SubscriberCreateError.TheVariants.{BufferSizeExceedsMaxSupportedBufferSizeOfService}
use Rattle.iox2_machine.specs.declared.errors.SubscriberCreateError.TheVariants.{ExceedsMaxSupportedSubscribers}
use Rattle.iox2_laws.proofs.Cases.{by_option, by_bool, match_some}
use Rattle.iox2_laws.proofs.Puts.{at_each, found_put, found_removed, found_mapped, put_at-same}
use Rattle.iox2_laws.proofs.PublisherUpdates.{update_publisher_changes}
use Rattle.iox2_machine.specs.machine.Environments.{ample_memory}
use Rattle.iox2_laws.specs.Sendings.{sending}
use Rattle.iox2_commands.proofs.ExistUpdates.{ComesWith, anything, comes_option, comes_bool, is_fixed, AllFixed}
use Rattle.iox2_commands.proofs.ExistUpdates.{deliver_comes, update_publisher_comes, update_subscriber_comes}
use Rattle.iox2_laws.proofs.WaitingReceives.{passes_at}
use Rattle.iox2_commands.proofs.ChannelOutcomes.{OnChannels}
use Rattle.iox2_commands.specs.Outcomes.{Outcome}

-- ---- fixed handlers

put_fixed : (publishers : ℕ → Option Publisher) (p : ℕ) (x : Publisher) → AllFixed publishers
    → is_fixed x.backpressure_handler ≡ true → AllFixed (put_at publishers p (Some x))
put_fixed publishers p x all new i z e =
    found_put publishers p x (λ _ v. is_fixed v.backpressure_handler ≡ true) i z e (λ _. new) (λ _ f. all i z f)

map_fixed : (publishers : ℕ → Option Publisher) (p : ℕ) (change : Publisher → Publisher) → AllFixed publishers
    → ((x : Publisher) → (change x).backpressure_handler ≡ x.backpressure_handler)
    → AllFixed (put_at publishers p (option_map change (publishers p)))
map_fixed publishers p change all same i z e =
    at_each publishers p (option_map change (publishers p))
    (λ _ v. v ≡ Some z → is_fixed z.backpressure_handler ≡ true) i
    (λ _ e. found_mapped change (publishers p) z (is_fixed z.backpressure_handler ≡ true) e (λ x f g.
    ap (λ (v : Publisher). is_fixed v.backpressure_handler) g ∙ ap is_fixed (same x) ∙ all p x f))
    (λ _ e. all i z e) e

each_fixed : (publishers : ℕ → Option Publisher) (change : Publisher → Publisher) → AllFixed publishers
    → ((x : Publisher) → (change x).backpressure_handler ≡ x.backpressure_handler)
    → AllFixed (λ p. option_map change (publishers p))
each_fixed publishers change all same i z e =
    found_mapped change (publishers i) z (is_fixed z.backpressure_handler ≡ true) e (λ x f g.
    ap (λ (v : Publisher). is_fixed v.backpressure_handler) g ∙ ap is_fixed (same x) ∙ all i x f)

-- ---- receiving

-- where something waits, there is a first
first_waits : (box : Mailbox) → has_data box ≡ true → (n : ℕ) × (box' : Mailbox) × BorrowsFirst box n box'
first_waits box e = at box.waiting refl
  where
    at : (ns : List ℕ) → box.waiting ≡ ns → (n : ℕ) × (box' : Mailbox) × BorrowsFirst box n box'
    at [] f = absurd (true≢false (sym e ∙ ap (λ v. has_data (record box { waiting = v })) f))
    at (n ∷ ns) f = (n, record box { waiting = ns; borrowed = box.borrowed ++ n ∷ [] }, (ns, f, refl))

-- ---- numbers

below_last : (n last : ℕ) → n ≤ last → eqb n last ≡ false → n < last
below_last n last h e = let apart : n ≡ last → ⊥ = eqb-false n last e in omega (arith, h, apart)

one_more : (n last : ℕ) → n < last → n + 1 ≤ last
one_more n last h = omega arith

max_above : (a b : ℕ) → b ≤ max a b
max_above a b = omega arith

longer_above : (a b c : ℕ) → max a b ≤ c → b ≤ c
longer_above a b c h = omega arith

-- a longer segment fits no better
fits_no_better : (c : ServiceConfig) (slots len longer : ℕ) → len ≤ longer → segment_fits c slots len ≡ false
    → segment_fits c slots longer ≡ false
fits_no_better c slots len longer h e =
    le-ltb (slots * longer * c.units_per_element) (2 ^ 64)
    (at_least _ _ _ (mul-le (slots * len) c.units_per_element (slots * longer) c.units_per_element
    (mul-le slots len slots longer (omega arith) h) (omega arith))
    (ltb-false (slots * len * c.units_per_element) (2 ^ 64) e))
  where
    at_least : (a b c : ℕ) → a ≤ b → c ≤ a → c ≤ b
    at_least a b c h k = omega arith

no_segment_fits : (c : ServiceConfig) (x : Publisher) (len : ℕ) → is_static x.allocation_strategy ≡ false
    → segment_fits c x.slots len ≡ false → NoSegmentFits c x len
no_segment_fits c x len dynamic e = at x.allocation_strategy dynamic
  where
    at : (a : AllocationStrategy) → is_static a ≡ false → elim a as (λ _. Type 0) [
      | Static ↦ ⊥
      | BestFit ↦ segment_fits c x.slots (max (known_length x) len) ≡ false
      | PowerOfTwo ↦ (exponent : ℕ) → max (known_length x) len ≤ 2 ^ exponent
          → segment_fits c x.slots (2 ^ exponent) ≡ false
    ]
    at Static f = absurd (true≢false f)
    at BestFit f = fits_no_better c x.slots len (max (known_length x) len) (max_above (known_length x) len) e
    at PowerOfTwo f =
        λ exponent h. fits_no_better c x.slots len (2 ^ exponent) (longer_above (known_length x) len (2 ^ exponent) h) e

module _ {T U : Type 0} where
  -- The message counter isn't past its end, and each publisher's handler is fixed.
  pub record IsFixed (s : State T U) : Type 0 where
    pub message : s.next_message ≤ last_number
    pub handlers : AllFixed s.publishers

  -- a call comes to a state that is so
  abbrev pub ComesTo : (R : Type 0) → (State T U → R → Type 0) → Type 0
  ComesTo R Rel = ComesWith (State T U) R Rel (λ s' r. IsFixed s')

  changed_fixed : (s : State T U) (p : ℕ) (change : Publisher → Publisher)
      → ((x : Publisher) → (change x).backpressure_handler ≡ x.backpressure_handler)
      → IsFixed s → IsFixed (publisher_changed s p change)
  changed_fixed s p change same k =
      record { message = k.message; handlers = map_fixed s.publishers p change k.handlers same }

  pub with_loan_fixed : (s : State T U) (n : ℕ) (l : Option (Loan T U)) → IsFixed s → IsFixed (with_loan s n l)
  with_loan_fixed s n l k = record { message = k.message; handlers = k.handlers }

  pub loan_discarded_fixed : (s : State T U) (n : ℕ) (l : Loan T U) → IsFixed s → IsFixed (loan_discarded s n l)
  loan_discarded_fixed s n l k = changed_fixed (with_loan s n None) l.publisher
      (λ x. record x { loans = without n x.loans }) (λ x. refl) (with_loan_fixed s n None k)

  -- where channels alone change, it stays so
  pub channels_fixed : (s : State T U) (o : Outcome T U) → OnChannels s o → IsFixed s → IsFixed o.state
  channels_fixed s o k j =
      subst (λ (v : Outcome T U). IsFixed v.state) (sym k.is) (record { message = j.message; handlers = j.handlers })

  -- ---- updates

  update_publisher_fixed : (s s' : State T U) (p : ℕ) (failure : Option ConnectionFailure)
      → UpdatePublisher ample_memory s p s' failure → IsFixed s → IsFixed s'
  update_publisher_fixed s s' p failure h k =
      by_option (IsFixed s') (s.publishers p) _ _ h (λ _ v. absurd v) (λ x e h.
      by_bool (IsFixed s') x.is_due _ _ h
      (λ _ h. subst IsFixed (sym h.2) (record {
        message = k.message;
        handlers =
            put_fixed s.publishers p (record x { ends = (h.0).ends; is_due = false }) k.handlers (k.handlers p x e);
      }))
      (λ _ h. subst IsFixed (sym h.0) k))

  update_subscriber_fixed : (s s' : State T U) (q : ℕ) (failure : Option ConnectionFailure)
      → UpdateSubscriber ample_memory s q s' failure → IsFixed s → IsFixed s'
  update_subscriber_fixed s s' q failure h k =
      by_option (IsFixed s') (s.subscribers q) _ _ h (λ _ v. absurd v) (λ y e h.
      by_bool (IsFixed s') y.is_due _ _ h
      (λ _ h. subst IsFixed (sym h.2) (record { message = k.message; handlers = k.handlers }))
      (λ _ h. subst IsFixed (sym h.0) k))

  -- a subscriber that is updated is there afterwards
  still_there : (s s' : State T U) (q : ℕ) (failure : Option ConnectionFailure)
      → UpdateSubscriber ample_memory s q s' failure → (y : Subscriber) × (s'.subscribers q ≡ Some y)
  still_there s s' q failure h =
      by_option ((y : Subscriber) × (s'.subscribers q ≡ Some y)) (s.subscribers q) _ _ h (λ _ v. absurd v) (λ y e h.
      by_bool ((y : Subscriber) × (s'.subscribers q ≡ Some y)) y.is_due _ _ h
      (λ _ h. subst (λ (v : State T U). (y : Subscriber) × (v.subscribers q ≡ Some y)) (sym h.2)
      (record y { ends = (h.0).ends; expired = (h.0).expired; is_due = (h.0).is_due }, put_at-same s.subscribers q _))
      (λ _ h. subst (λ (v : State T U). (y : Subscriber) × (v.subscribers q ≡ Some y)) (sym h.0) (y, e)))

  pub publisher_updates : (s : State T U) (p : ℕ) (x : Publisher) → s.publishers p ≡ Some x → IsFixed s
      → ComesTo (Option ConnectionFailure) (UpdatePublisher ample_memory s p)
  publisher_updates s p x present k =
      let u : (s' : State T U) × (failure : Option ConnectionFailure) × UpdatePublisher ample_memory s p s' failure =
      update_publisher_comes s p x present in
      (u.0, u.1, u.2, update_publisher_fixed s u.0 p u.1 u.2 k)

  pub subscriber_updates : (s : State T U) (q : ℕ) (y : Subscriber) → s.subscribers q ≡ Some y → IsFixed s
      → ComesTo (Option ConnectionFailure) (UpdateSubscriber ample_memory s q)
  subscriber_updates s q y present k =
      let u : (s' : State T U) × (failure : Option ConnectionFailure) × UpdateSubscriber ample_memory s q s' failure =
      update_subscriber_comes s q y present in
      (u.0, u.1, u.2, update_subscriber_fixed s u.0 q u.1 u.2 k)

  -- ---- loans

  -- the state is so, and where the loan is granted it is there
  abbrev pub Grants : (n : ℕ) → State T U → Option LoanError → Type 0
  Grants n s' refusal = IsFixed s' × (refusal ≡ None → (l : Loan T U) × (s'.loans n ≡ Some l))

  module _ (default_header : U) (s : State T U) (p : ℕ) (x : Publisher) (present : s.publishers p ≡ Some x)
      (k : IsFixed s) (len : ℕ) where
    granted : (segments : ℕ) → s.next_message < last_number
        → Grants s.next_message (loan_granted default_header s p x len segments) None
    granted segments below = (
      record {
        message = one_more s.next_message last_number below;
        handlers = put_fixed s.publishers p _ k.handlers (k.handlers p x present);
      },
      λ _. (_, put_at-same s.loans s.next_message _),
    )

    refused : (e : LoanError) → Grants s.next_message s (Some e)
    refused e = (k, λ f. absurd (none-some e (sym f)))

    static_comes : ComesWith (State T U) (Option LoanError) (StaticLoan default_header s p x len)
        (Grants s.next_message)
    static_comes =
        comes_bool (State T U) (Option LoanError) (Grants s.next_message) (eqb (size (held s p x)) x.slots) _ _
        (λ _. (s, Some OutOfMemory, (refl, refl), refused OutOfMemory))
        (λ _. comes_bool (State T U) (Option LoanError) (Grants s.next_message) (eqb s.next_message last_number) _ _
        (λ _. (s, Some InternalFailure, (refl, refl), refused InternalFailure))
        (λ apart. (
          loan_granted default_header s p x len x.segments,
          None,
          (refl, refl),
          granted x.segments (below_last s.next_message last_number k.message apart),
        )))

    dynamic_comes : is_static x.allocation_strategy ≡ false → ComesWith (State T U) (Option LoanError)
        (DynamicLoan ample_memory default_header s p x len) (Grants s.next_message)
    dynamic_comes dynamic = at (eqb s.next_message last_number) refl
      where
        grants : s.next_message < last_number → (IsGuaranteed s p x len ⊎ (segment_fits s.config x.slots len ≡ true))
            → ComesWith (State T U) (Option LoanError) (DynamicLoan ample_memory default_header s p x len)
            (Grants s.next_message)
        grants below may = (
          loan_granted default_header s p x len x.segments,
          None,
          (below, may, x.segments, inl refl, refl),
          granted x.segments below,
        )

        fails : segment_fits s.config x.slots len ≡ false → ¬ (IsGuaranteed s p x len)
            → ComesWith (State T U) (Option LoanError) (DynamicLoan ample_memory default_header s p x len)
            (Grants s.next_message)
        fails short none = (
          s,
          Some InternalFailure,
          (refl, inr (inr (no_segment_fits s.config x len dynamic short), none)),
          refused InternalFailure,
        )

        by_slots : s.next_message < last_number → segment_fits s.config x.slots len ≡ false → (a b : Bool)
            → ltb (size (held s p x)) x.slots ≡ a → ltb (known_length x) len ≡ b
            → ComesWith (State T U) (Option LoanError) (DynamicLoan ample_memory default_header s p x len)
            (Grants s.next_message)
        by_slots below short false b full f =
            fails short (λ g. absurd (true≢false (sym (lt-ltb (size (held s p x)) x.slots g.0) ∙ full)))
        by_slots below short true false room f =
            grants below (inl (ltb-true (size (held s p x)) x.slots room, ltb-false (known_length x) len f))
        by_slots below short true true room f =
            fails short (λ g. absurd (true≢false (sym f ∙ le-ltb (known_length x) len g.1)))

        by_fit : s.next_message < last_number → (b : Bool) → segment_fits s.config x.slots len ≡ b
            → ComesWith (State T U) (Option LoanError) (DynamicLoan ample_memory default_header s p x len)
            (Grants s.next_message)
        by_fit below true f = grants below (inr f)
        by_fit below false f = by_slots below f (ltb (size (held s p x)) x.slots) (ltb (known_length x) len) refl refl

        at : (b : Bool) → eqb s.next_message last_number ≡ b → ComesWith (State T U) (Option LoanError)
            (DynamicLoan ample_memory default_header s p x len) (Grants s.next_message)
        at true f =
            (s, Some InternalFailure, (refl, inl (eqb-true s.next_message last_number f)), refused InternalFailure)
        at false f = by_fit (below_last s.next_message last_number k.message f) (segment_fits s.config x.slots len) refl

    -- A loan is granted or refused.
    pub grant_comes : (checks_length : Bool) → ComesWith (State T U) (Option LoanError)
        (GrantLoan ample_memory default_header checks_length len s p) (Grants s.next_message)
    grant_comes checks_length =
        let v : ComesWith (State T U) (Option LoanError) (λ s' refusal. MatchOption (limit_error checks_length x len)
        (MatchBool (is_static x.allocation_strategy) (StaticLoan default_header s p x len s' refusal)
        (DynamicLoan ample_memory default_header s p x len s' refusal))
        (λ limit. (s' ≡ s) × (refusal ≡ Some limit))) (Grants s.next_message) =
        comes_option (State T U) (Option LoanError) (Grants s.next_message) (limit_error checks_length x len) _ _
        (λ _. comes_bool (State T U) (Option LoanError) (Grants s.next_message) (is_static x.allocation_strategy) _ _
        (λ _. static_comes) (λ dynamic. dynamic_comes dynamic))
        (λ limit _. (s, Some limit, (refl, refl), refused limit)) in
        (v.0, v.1, match_some (s.publishers p) x _ _ present v.2, v.3)

    pub grant_written_comes : (value : T) (checks_length : Bool)
        → ComesWith (State T U) (Option LoanError)
        (GrantWrittenLoan ample_memory value default_header checks_length len s p) (Grants s.next_message)
    grant_written_comes value checks_length =
        let v : ComesWith (State T U) (Option LoanError) (GrantLoan ample_memory default_header checks_length len s p)
        (Grants s.next_message) = grant_comes checks_length in
        at v.0 v.1 v.2 v.3
      where
        at : (mid : State T U) (refusal : Option LoanError)
            → GrantLoan ample_memory default_header checks_length len s p mid refusal
            → Grants s.next_message mid refusal
            → ComesWith (State T U) (Option LoanError)
            (GrantWrittenLoan ample_memory value default_header checks_length len s p) (Grants s.next_message)
        at mid None h g =
            let found : (l : Loan T U) × (mid.loans s.next_message ≡ Some l) = g.1 refl in (
              with_loan mid s.next_message (Some (written found.0 value)),
              None,
              (mid, h, match_some (mid.loans s.next_message) found.0 _ _ found.1 refl),
              (with_loan_fixed mid s.next_message _ g.0, λ _. (_, put_at-same mid.loans s.next_message _)),
            )
        at mid (Some e) h g = (mid, Some e, (mid, h, refl), g)

  -- ---- sends

  conclude_comes : (s : State T U) (p n : ℕ) (how : DeliveryEnd) → IsFixed s
      → ComesTo SendResult (ConcludeSend s p n how)
  conclude_comes s p n (Complete count has_failed) k = (
    send_ended s p n,
    cond has_failed (Send_error UnableToDeliver) (Delivered_to count),
    (refl, refl),
    changed_fixed s p (λ x. record x { loans = without n x.loans; blocked = None }) (λ x. refl) k,
  )
  conclude_comes s p n (Suspended b) k = (
    send_blocked s p b,
    Blocked_send,
    (refl, refl),
    changed_fixed s p (λ x. record x { blocked = Some b }) (λ x. refl) k,
  )

  pub delivers : (s : State T U) (p : ℕ) (x : Publisher) → s.publishers p ≡ Some x → IsFixed s
      → (n channel retries : ℕ) (elapsed : Duration) (place : ℕ) (ends : List (Option ℕ)) (count : ℕ)
      (has_failed : Bool)
      → ComesTo SendResult
      (DeliverAndConclude ample_memory s p (sending n channel retries place ends count has_failed) elapsed)
  delivers s p x present k n channel retries elapsed place ends count has_failed =
      let d : ComesWith DeliveryEnd (ℕ → Mailbox)
      (Deliver ample_memory s.config p x.backpressure_strategy x.backpressure_handler
      (channel_buffer s p channel) n channel retries elapsed place ends count has_failed (s.mailboxes p))
      (anything DeliveryEnd (ℕ → Mailbox)) =
      deliver_comes s.config p x.backpressure_strategy x.backpressure_handler (k.handlers p x present)
      (channel_buffer s p channel) n channel retries elapsed place ends count has_failed (s.mailboxes p) in
      let e : ComesTo SendResult (ConcludeSend (with_mailboxes s p d.1) p n d.0) =
      conclude_comes (with_mailboxes s p d.1) p n d.0 (record { message = k.message; handlers = k.handlers }) in
      (e.0, e.1, match_some (s.publishers p) x _ _ present (d.0, d.1, d.2, e.2), e.3)

  publish_comes : (s : State T U) (p : ℕ) (x : Publisher) → s.publishers p ≡ Some x → IsFixed s → (n : ℕ)
      → ComesTo SendResult (Publish ample_memory s p n)
  publish_comes s p x present k n =
      let d : ComesTo SendResult
      (DeliverAndConclude ample_memory (published s p n) p (sending n 0 0 0 x.ends 0 false) no_time) =
      delivers (published s p n) p (remembers x)
      (put_at-same s.publishers p (option_map remembers (s.publishers p)) ∙ ap (option_map remembers) present)
      (changed_fixed (with_loan s n None) p remembers (λ x. refl) (with_loan_fixed s n None k)) n 0 0 no_time 0 x.ends 0
      false in
      (d.0, d.1, match_some (s.publishers p) x _ _ present d.2, d.3)
    where
      remembers : Publisher → Publisher
      remembers x = record x { history = last_n (s.config).history_size (x.history ++ n ∷ []) }

  -- A loan is sent.
  pub send_comes : (s : State T U) (n : ℕ) (l : Loan T U) → IsFixed s → ComesTo SendResult (Send ample_memory s n l)
  send_comes s n l k =
      comes_option (State T U) SendResult (λ s' r. IsFixed s') (s.publishers l.publisher) _ _
      (λ _. (
        with_loan s n None,
        Send_error ConnectionBrokenSinceSenderNoLongerExists,
        (refl, refl),
        with_loan_fixed s n None k,
      ))
      (λ x present.
      let u : ComesTo (Option ConnectionFailure) (UpdatePublisher ample_memory s l.publisher) =
      publisher_updates s l.publisher x present k in
      let changed : (ends : List (Option ℕ)) × (due : Bool)
      × ((u.0).publishers l.publisher ≡ Some (record x { ends = ends; is_due = due })) =
      update_publisher_changes ample_memory s l.publisher u.0 u.1 x present u.2 in
      let v : ComesTo SendResult (λ s' result. MatchOption u.1 (Publish ample_memory u.0 l.publisher n s' result)
      (λ e. (s' ≡ loan_discarded u.0 n l) × (result ≡ Send_error (ConnectionError e)))) =
      comes_option (State T U) SendResult (λ s' r. IsFixed s') u.1 _ _
      (λ _. publish_comes u.0 l.publisher (record x { ends = changed.0; is_due = changed.1 }) changed.2 u.3 n)
      (λ e _.
      (loan_discarded u.0 n l, Send_error (ConnectionError e), (refl, refl), loan_discarded_fixed u.0 n l u.3)) in
      (v.0, v.1, (u.0, u.1, u.2, v.2), v.3))

  -- A loan is sent to one connection.
  pub connection_comes : (s : State T U) (n : ℕ) (l : Loan T U) (channel place : ℕ) → IsFixed s
      → ComesTo SendResult (SendToConnection ample_memory s n l channel place)
  connection_comes s n l channel place k =
      comes_option (State T U) SendResult (λ s' r. IsFixed s') (s.publishers l.publisher) _ _
      (λ _. (
        with_loan s n None,
        Send_error ConnectionBrokenSinceSenderNoLongerExists,
        (refl, refl),
        with_loan_fixed s n None k,
      ))
      (λ x present.
      delivers (with_loan s n None) l.publisher x present (with_loan_fixed s n None k) n channel 0 no_time place
      (take 1 (drop place x.ends)) 0 false)

  -- ---- receives

  take_comes : (s : State T U) (q : ℕ) (y : Subscriber) → IsFixed s → ComesTo ReceiveResult (TakeSample s q y)
  take_comes s q y k = by_expired (can_receive_of limit y boxes y.expired) refl
    where
      limit : ℕ
      limit = (s.config).subscriber_max_borrowed_samples

      boxes : ℕ → Mailbox
      boxes p = s.mailboxes p q

      got : (p : ℕ) → can_receive limit (boxes p) ≡ true → MatchBool (can_receive_of limit y boxes y.expired)
          (contains y.expired p ≡ true) (contains (occupants y.ends) p ≡ true)
          → ComesTo ReceiveResult (TakeSample s q y)
      got p able from =
          let first : (n : ℕ) × (box : Mailbox) × BorrowsFirst (boxes p) n box =
          first_waits (boxes p) (and_parts _ _ able).0 in (
            with_mailbox s p q first.1,
            Got_sample p first.0,
            ((able, from), first.1, first.2, refl),
            record { message = k.message; handlers = k.handlers },
          )

      by_data : can_receive_of limit y boxes (connected_publishers y) ≡ false → (b : Bool) → has_any_data y boxes ≡ b
          → ComesTo ReceiveResult (TakeSample s q y)
      by_data none true f = (s, Receive_error ExceedsMaxBorrows, (refl, f, none, refl), k)
      by_data none false f = (s, No_sample, (f, refl), k)

      by_ends : can_receive_of limit y boxes y.expired ≡ false → (b : Bool)
          → can_receive_of limit y boxes (occupants y.ends) ≡ b → ComesTo ReceiveResult (TakeSample s q y)
      by_ends none true f =
          let one : (p : ℕ) × (can_receive limit (boxes p) ≡ true) × (contains (occupants y.ends) p ≡ true) =
          passes_at (λ p. can_receive limit (boxes p)) (occupants y.ends) f in
          got one.0 one.1
          (subst (λ b. MatchBool b (contains y.expired one.0 ≡ true) (contains (occupants y.ends) one.0 ≡ true))
          (sym none) one.2)
      by_ends none false f =
          by_data (list_any-append (λ p. can_receive limit (boxes p)) y.expired (occupants y.ends) ∙ or_from _ _ none f)
          (has_any_data y boxes) refl

      by_expired : (b : Bool) → can_receive_of limit y boxes y.expired ≡ b → ComesTo ReceiveResult (TakeSample s q y)
      by_expired true f =
          let one : (p : ℕ) × (can_receive limit (boxes p) ≡ true) × (contains y.expired p ≡ true) =
          passes_at (λ p. can_receive limit (boxes p)) y.expired f in
          got one.0 one.1 (subst (λ b.
          MatchBool b (contains y.expired one.0 ≡ true) (contains (occupants y.ends) one.0 ≡ true)) (sym f) one.2)
      by_expired false f = by_ends f (can_receive_of limit y boxes (occupants y.ends)) refl

  -- A subscriber that is there receives, or is refused.
  pub receive_comes : (s : State T U) (q : ℕ) (y : Subscriber) → s.subscribers q ≡ Some y → IsFixed s
      → ComesTo ReceiveResult (Receive ample_memory s q)
  receive_comes s q y present k =
      let u : ComesTo (Option ConnectionFailure) (UpdateSubscriber ample_memory s q) =
      subscriber_updates s q y present k in
      let there : (z : Subscriber) × ((u.0).subscribers q ≡ Some z) = still_there s u.0 q u.1 u.2 in
      let v : ComesTo ReceiveResult
      (λ s' result. MatchOption u.1 (MatchOption ((u.0).subscribers q) ⊥ (λ z. TakeSample u.0 q z s' result))
      (λ e. (s' ≡ u.0) × (result ≡ Receive_error (CouldNotConnect e)))) =
      comes_option (State T U) ReceiveResult (λ s' r. IsFixed s') u.1 _ _
      (λ _.
      let t : ComesTo ReceiveResult (TakeSample u.0 q there.0) = take_comes u.0 q there.0 u.3 in
      (t.0, t.1, match_some ((u.0).subscribers q) there.0 _ _ there.1 t.2, t.3))
      (λ e _. (u.0, Receive_error (CouldNotConnect e), (refl, refl), u.3)) in
      (v.0, v.1, (u.0, u.1, u.2, v.2), v.3)

  -- A subscriber that is there is asked whether samples wait.
  pub has_samples_comes : (s : State T U) (q : ℕ) (y : Subscriber) → s.subscribers q ≡ Some y → IsFixed s
      → (s' : State T U) × (failure : Option ConnectionFailure) × (has : Bool)
      × HasSamples ample_memory s q s' failure has × IsFixed s'
  has_samples_comes s q y present k =
      let u : ComesTo (Option ConnectionFailure) (UpdateSubscriber ample_memory s q) =
      subscriber_updates s q y present k in
      let there : (z : Subscriber) × ((u.0).subscribers q ≡ Some z) = still_there s u.0 q u.1 u.2 in (
        u.0,
        u.1,
        has_any_data there.0 (λ p. (u.0).mailboxes p q),
        (u.2, match_some ((u.0).subscribers q) there.0 _ _ there.1 refl),
        u.3,
      )

  -- ---- releases and ports

  freed_fixed : (s : State T U) (q : ℕ) → IsFixed s → IsFixed (receiver_channels_reset (freed_if_unused s q) q)
  freed_fixed s q k = elim (is_unused s q) as (λ b. IsFixed (receiver_channels_reset (cond b (place_freed s q) s) q)) [
    | true ↦ record {
      message = k.message;
      handlers = each_fixed s.publishers (λ x. record x { is_due = true }) k.handlers (λ x. refl);
    }
    | false ↦ record { message = k.message; handlers = k.handlers }
  ]

  pub released_fixed : (s : State T U) (p q n : ℕ) → IsFixed s → IsFixed (released s p q n)
  released_fixed s p q n k =
      freed_fixed (subscriber_pruned (unborrowed s p q n) q) q (record { message = k.message; handlers = k.handlers })

  pub publisher_closed_fixed : (s : State T U) (p : ℕ) (x : Publisher) → IsFixed s → IsFixed (publisher_closed s p x)
  publisher_closed_fixed s p x k = record {
    message = k.message;
    handlers =
        λ i z e. found_removed s.publishers p i z (is_fixed z.backpressure_handler ≡ true) e (λ _ f. k.handlers i z f);
  }

  pub subscriber_closed_fixed : (s : State T U) (q : ℕ) (y : Subscriber) → IsFixed s → IsFixed (subscriber_closed s q y)
  subscriber_closed_fixed s q y k =
      freed_fixed (subscriber_pruned (subscriber_shut s q y) q) q
      (record {
        message = k.message;
        handlers = each_fixed s.publishers (λ x. record x { is_due = true }) k.handlers (λ x. refl);
      })

  warning_fixed : (s : State T U) (warning : ConnectionFailure → Warning) (failure : Option ConnectionFailure)
      → IsFixed s → IsFixed (with_failure_warning s warning failure)
  warning_fixed s warning None k = k
  warning_fixed s warning (Some e) k = record { message = k.message; handlers = k.handlers }

  -- A publisher is made or refused.
  pub create_publisher_comes : (s : State T U) (given : PublisherSettings) → is_fixed given.backpressure_handler ≡ true
      → IsFixed s
      → ComesTo (Option PublisherCreateError) (CreatePublisher ample_memory s given)
  create_publisher_comes s given fixed k =
      comes_bool (State T U) (Option PublisherCreateError) (λ s' r. IsFixed s') (eqb s.next_port last_number) _ _
      (λ _. (s, Some NoPublisherTag, (refl, refl), k))
      (λ _. comes_option (State T U) (Option PublisherCreateError) (λ s' r. IsFixed s')
      (free_place (s.config).max_publishers s.publisher_places) _ _
      (λ _. (s, Some ExceedsMaxSupportedPublishers, (refl, refl), k))
      (λ place _. comes_bool (State T U) (Option PublisherCreateError) (λ s' r. IsFixed s')
      (first_segment_fits s.config given) _ _
      (λ _.
      let u : ComesTo (Option ConnectionFailure)
      (UpdatePublisher ample_memory (with_new_publisher s given place) s.next_port) =
      publisher_updates (with_new_publisher s given place) s.next_port (new_publisher s given place)
      (put_at-same s.publishers s.next_port (Some (new_publisher s given place)))
      (record {
        message = k.message;
        handlers = put_fixed s.publishers s.next_port (new_publisher s given place) k.handlers fixed;
      }) in (
        with_failure_warning u.0 (λ e. PublisherPartlyConnected s.next_port e) u.1,
        None,
        (u.0, u.1, u.2, refl),
        warning_fixed u.0 (λ e. PublisherPartlyConnected s.next_port e) u.1 u.3,
      ))
      (λ _. (s, Some UnableToCreateDataSegment, (refl, refl), k))))

  -- A subscriber is made or refused.
  pub create_subscriber_comes : (s : State T U) (given : SubscriberSettings) → IsFixed s
      → ComesTo (Option SubscriberCreateError) (CreateSubscriber ample_memory s given)
  create_subscriber_comes s given k =
      comes_bool (State T U) (Option SubscriberCreateError) (λ s' r. IsFixed s') (eqb s.next_port last_number) _ _
      (λ _. (s, Some NoSubscriberTag, (refl, refl), k))
      (λ _. comes_bool (State T U) (Option SubscriberCreateError) (λ s' r. IsFixed s')
      (nat_lt (buffer_limit s.config) (buffer_for given)) _ _
      (λ _. (s, Some BufferSizeExceedsMaxSupportedBufferSizeOfService, (refl, refl), k))
      (λ _. comes_option (State T U) (Option SubscriberCreateError) (λ s' r. IsFixed s')
      (free_place (s.config).max_subscribers s.subscriber_places) _ _
      (λ _. (s, Some ExceedsMaxSupportedSubscribers, (refl, refl), k))
      (λ place _.
      let u : ComesTo (Option ConnectionFailure)
      (UpdateSubscriber ample_memory (with_new_subscriber s given place) s.next_port) =
      subscriber_updates (with_new_subscriber s given place) s.next_port (new_subscriber given place)
      (put_at-same s.subscribers s.next_port (Some (new_subscriber given place)))
      (record {
        message = k.message;
        handlers = each_fixed s.publishers (λ x. record x { is_due = true }) k.handlers (λ x. refl);
      }) in (
        with_failure_warning u.0 (λ e. SubscriberPartlyConnected s.next_port e) u.1,
        None,
        (u.0, u.1, u.2, refl),
        warning_fixed u.0 (λ e. SubscriberPartlyConnected s.next_port e) u.1 u.3,
      ))))
