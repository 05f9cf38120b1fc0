-- Which publisher is connected with which subscriber, seen from outside, and what that says of calls.
use Rattle.std.proofs.Common.{◌≡◌, ℕ, suc, ◌<◌, ◌≤◌, Bool, true, false, List, [], ◌∷◌, ◌++◌, map, drop, length, sym, ap}
use Rattle.std.proofs.Common.{subst, ◌∙◌, arith, Option, None, Some, ◌⊎◌, inl, inr, ⊎_elim}
use Rattle.std.specs.Prelude.{◌≢◌, IfOk, Result, Ok, Err}
use Rattle.std.specs.Bool.{MatchBool}
use Rattle.std.specs.List.{filter_map}
use Rattle.std.proofs.lemmas.Bool.{ne_eqb}
use Rattle.std.proofs.lemmas.List.{length-map, map-append, drop-map}
use Rattle.std.proofs.lemmas.Option.{none-some, same_Some}
use Rattle.iox2_machine.specs.machine.Loans.{entry_of}
use Rattle.iox2_machine.specs.machine.Channel.{is_closed}
use Rattle.iox2_machine.specs.machine.Limits.{refusal_limit}
use Rattle.iox2_machine.specs.machine.Numbers.{contains, put_at}
use Rattle.iox2_machine.specs.machine.Ports.{CreatePublisher, publisher_closed, subscriber_closed}
use Rattle.iox2_machine.specs.machine.Records.{Entry, Environment, Loan, Publisher, PublisherSettings}
use Rattle.iox2_machine.specs.machine.Records.{Subscriber as MachineSubscriber}
use Rattle.iox2_machine.specs.machine.Sends.{Delivered_to}
use Rattle.iox2_machine.specs.machine.State.{State, Messages, is_blocked}
use Rattle.iox2_machine.specs.machine.Waiting.{waiting_from}
use Rattle.iox2_machine.specs.declared.errors.PublisherCreateError.{PublisherCreateError}
use Rattle.iox2_domain.specs.Kept.{Kept, state_of, entries_of}
use Rattle.iox2_domain.specs.Shows.{Shows}
use Rattle.iox2_pubsub.specs.ConnectedPorts.{Connects}
use Rattle.iox2_pubsub.specs.Live.{ConnectionsStay, IsConnected, IsFull, IsServed, IsUpToDate, NoneRefused}
use Rattle.iox2_pubsub.specs.Live.{payloads_from, waiting, IsSubscriberKey, subscriber_key}
use Rattle.iox2_pubsub.specs.SendCalls.{IsDelivered, Sends, messages_after_send}
use Rattle.iox2_pubsub.specs.declared.send_outcome.SendOutcome.{SendOutcome}
use Rattle.iox2_pubsub.specs.declared.send_outcome.SendOutcome.TheVariants.{Delivered, Blocked}
use Rattle.iox2_machine.specs.declared.errors.SendError.{SendError}
use Rattle.iox2_laws.proofs.NumberLemmas.{contains_first, contains_in_drop, contains_left, contains_right}
use Rattle.iox2_laws.proofs.Puts.{put_at-same, put_at-other}
use Rattle.iox2_pubsub.proofs.SliceParts.{values-parts}
use Rattle.iox2_pubsub.specs.Payloads.{payload_of}
use Rattle.iox2_pubsub.specs.Slices.{HasValues}
use Rattle.iox2_pubsub.specs.declared.subscriber.Subscriber.{Subscriber}
use Rattle.iox2_pubsub.proofs.ConnectionsMade.{create-publisher-connections, create-publisher-connects}
use Rattle.iox2_pubsub.proofs.ConnectionsStay.{publisher-closed-connections, subscriber-closed-connections}
use Rattle.iox2_pubsub.proofs.ConnectedCounts.{TouchesOnly, publisher-closed-keeps, send-touches}
use Rattle.iox2_pubsub.proofs.LiveParts.{buffer-parts}
use Rattle.iox2_pubsub.proofs.PayloadLists.{map_same}
use Rattle.iox2_pubsub.proofs.ServedLists.{ServedLists, no-more, one-more, send-served}
use Rattle.iox2_pubsub.proofs.UpToDateShown.{connected, connected-in, up-to-date-in}
use Rattle.iox2_pubsub.proofs.WaitingShown.{live-open, payload-is, payloads-from-are, same-payload, waiting-is}
use Rattle.iox2_steps.proofs.sends.SentSlots.{values-of}

module _ {T U F G : Type 0} (kept : Kept T U F G) (m : Messages T U) (s : State T U) (shown : Shows kept m s) (p : ℕ)
    (subscriber : Subscriber) where
  -- the payloads are those of what the machine has waiting
  from-shown : payloads_from kept p subscriber ≡ map (payload_of (entries_of kept)) (waiting_from s p subscriber.id)
  from-shown = payloads-from-are kept p subscriber
      ∙ ap (λ (t : State T U). map (payload_of (entries_of kept)) (waiting_from t p subscriber.id)) (sym shown.state)

-- as many payloads as numbers
mapped-least : {X : Type 0} (f : ℕ → X) (ns : List ℕ) (xs : List X) (least : ℕ) → xs ≡ map f ns → least ≤ length ns
    → least ≤ length xs
mapped-least f ns xs least is some = let same : length xs ≡ length ns = ap length is ∙ length-map ns f in
    omega (arith, same, some)

served-parts : {T U F G : Type 0} (old new : Kept T U F G) (p : ℕ) (subscriber : Subscriber) (values : List T)
    → ((payloads_from new p subscriber ≡ payloads_from old p subscriber ++ values ∷ [])
    × (waiting new subscriber ≡ suc (waiting old subscriber)))
    ⊎ (IsFull old p subscriber
    × MatchBool (old.config).enable_safe_overflow
    (payloads_from new p subscriber ≡ drop 1 (payloads_from old p subscriber) ++ values ∷ [])
    (payloads_from new p subscriber ≡ payloads_from old p subscriber)
    × (waiting new subscriber ≡ waiting old subscriber))
    → IsServed old new p subscriber values
unfolding IsServed
served-parts old new p subscriber values h = h

-- a loan's message reads as the loan
pub loan-values : {T U F G : Type 0} (kept : Kept T U F G) (m : Messages T U) (s : State T U) → Shows kept m s
    → (n : ℕ) (l : Loan T U) (values : List T) → s.loans n ≡ Some l → HasValues kept n values
    → (entry_of l).values ≡ values
loan-values {T} {U} kept m s shown n l values out reads =
    let has = values-parts kept n values reads in
    let same : l ≡ has.0 = same_Some l has.0 (sym out ∙ ap (λ (t : State T U). t.loans n) shown.state ∙ has.1) in
    ap (filter_map (λ (cell : Option T). cell)) (ap (λ (k : Loan T U). k.cells) same ∙ has.2) ∙ values-of values

module _ {T U F G : Type 0} (old new : Kept T U F G) (m m' : Messages T U) (s s' : State T U) (shown : Shows old m s)
    (shown' : Shows new m' s') where
  -- the message n serves each subscriber with which its publisher is connected, where the machine puts it there
  module _ (p n : ℕ) (entry : Entry T U) (sent : (k : ℕ) (entry : Entry T U) → m k ≡ Some entry → m' k ≡ Some entry)
      (is_sent : m' n ≡ Some entry)
      (subscriber : Subscriber) (is : IsConnected old p subscriber) where
    c : Connects s p subscriber.id
    c = connected-in old m s shown p subscriber is

    abbrev before : List ℕ
    before = waiting_from s p subscriber.id

    abbrev now : List ℕ
    now = waiting_from s' p subscriber.id

    abbrev eo : ℕ → List T
    eo = payload_of (entries_of old)

    abbrev en : ℕ → List T
    en = payload_of (entries_of new)

    -- what waited reads as it did
    kept-payloads : (ns : List ℕ) → ((k : ℕ) → contains ns k ≡ true → contains before k ≡ true)
        → ((k : ℕ) → contains ns k ≡ true → contains now k ≡ true) → map en ns ≡ map eo ns
    kept-payloads ns there here =
        map_same en eo ns
        (λ k at. same-payload old new m m' s s' shown shown' sent p subscriber.id k (there k at) (here k at))

    appended : (front : List ℕ) → ((k : ℕ) → contains front k ≡ true → contains before k ≡ true) → now ≡ front ++ n ∷ []
        → payloads_from new p subscriber ≡ map eo front ++ entry.values ∷ []
    appended front there is =
        from-shown new m' s' shown' p subscriber ∙ ap (map en) is ∙ map-append en front (n ∷ [])
        ∙ ap (λ xs. xs ++ en n ∷ [])
        (kept-payloads front there (λ k at. ap (λ ns. contains ns k) is ∙ contains_left front (n ∷ []) k at))
        ∙ ap (λ v. map eo front ++ v ∷ []) (payload-is new m' s' shown' p subscriber.id n
        (ap (λ ns. contains ns n) is ∙ contains_right front (n ∷ []) n (contains_first n [])) entry is_sent)

    old-payloads : map eo before ≡ payloads_from old p subscriber
    old-payloads = sym (from-shown old m s shown p subscriber)

    -- the mailbox is as full as the subscriber's record has it, which is as its handle has it
    full-here : 0 < length before → (c.subscriber).buffer ≤ length before → IsFull old p subscriber
    full-here some full = record {
      some = mapped-least eo before (payloads_from old p subscriber) 1 (sym old-payloads) some;
      full = λ its.
          let same : (c.subscriber).buffer ≡ subscriber.buffer_size =
          (buffer-parts old subscriber its).1 c.subscriber
          (ap (λ (t : State T U). t.subscribers subscriber.id) (sym shown.state) ∙ c.there) in
          mapped-least eo before (payloads_from old p subscriber) subscriber.buffer_size (sym old-payloads)
          (omega (arith, same, full));
    }

    -- The machine serves the subscriber, and touches no other publisher's mailboxes.
    pub served : TouchesOnly s s' p → ((y : MachineSubscriber) → s.subscribers subscriber.id ≡ Some y
        → ServedLists before now n y.buffer (s.config).enable_safe_overflow)
        → IsServed old new p subscriber entry.values
    served touches lists =
        let low : p < s.next_port = (shown.well_formed.publishers p c.publisher c.stands).is_known in
        served-parts old new p subscriber entry.values (⊎_elim
        (λ fits. inl (
          appended before (λ k at. at) fits ∙ ap (λ xs. xs ++ entry.values ∷ []) old-payloads,
          waiting-is new m' s' shown' subscriber ∙ one-more s s' p n subscriber.id touches low fits
              ∙ ap suc (sym (waiting-is old m s shown subscriber)),
        ))
        (λ full. inr (
          full-here (full.0).0 (full.0).1,
          subst (λ (b : Bool). MatchBool b
              (payloads_from new p subscriber ≡ drop 1 (payloads_from old p subscriber) ++ entry.values ∷ [])
              (payloads_from new p subscriber ≡ payloads_from old p subscriber))
              (ap (λ (t : State T U). (t.config).enable_safe_overflow) shown.state)
              (matched (s.config).enable_safe_overflow full.1),
          waiting-is new m' s' shown' subscriber ∙ no-more s s' p n subscriber.id touches
              (s.config).enable_safe_overflow (full.0).0 full.1 ∙ sym (waiting-is old m s shown subscriber),
        ))
        (lists c.subscriber c.there))
      where
        matched : (overflow : Bool) → MatchBool overflow (now ≡ drop 1 before ++ n ∷ []) (now ≡ before)
            → MatchBool overflow
            (payloads_from new p subscriber ≡ drop 1 (payloads_from old p subscriber) ++ entry.values ∷ [])
            (payloads_from new p subscriber ≡ payloads_from old p subscriber)
        matched true is = appended (drop 1 before) (λ k at. contains_in_drop 1 before k at) is
            ∙ ap (λ xs. xs ++ entry.values ∷ []) (sym (drop-map eo 1 before) ∙ ap (drop 1) old-payloads)
        matched false is =
            from-shown new m' s' shown' p subscriber ∙ ap (map en) is
            ∙ kept-payloads before (λ k at. at) (λ k at. ap (λ ns. contains ns k) is ∙ at) ∙ old-payloads

  -- connections stay where a publisher is made
  pub made-connections : (environment : Environment) (given : PublisherSettings) (refusal : Option PublisherCreateError)
      → CreatePublisher environment s given s' refusal → ConnectionsStay old new
  made-connections environment given refusal h publisher subscriber is =
      connected new m' s' shown' publisher subscriber
      (create-publisher-connections environment s shown.well_formed given s' refusal h publisher subscriber.id
      (connected-in old m s shown publisher subscriber is))

  -- and it is connected with each subscriber that is live, where no connection was refused memory
  pub made-connects : (environment : Environment) (given : PublisherSettings) (p : ℕ) → p ≡ s.next_port
      → CreatePublisher environment s given s' None
      → ((q : ℕ) → is_closed ((state_of old).channels (state_of old).next_port q 0) ≡ false) → NoneRefused old new
      → (subscriber : Subscriber) → IsSubscriberKey old (subscriber_key subscriber) → IsConnected new p subscriber
  made-connects environment given p here h takes none subscriber live =
      let has = live-open old new m m' s s' shown shown' subscriber live in
      let low : (s.warnings).refused_connections < refusal_limit =
      subst (λ (t : State T U). (t.warnings).refused_connections < refusal_limit) (sym shown.state) none.1 in
      connected new m' s' shown' p subscriber
      (subst (λ i. Connects s' i subscriber.id) (sym here)
      (create-publisher-connects environment s shown.well_formed given s' h subscriber.id has.0 has.1 has.2
      (subst (λ (t : State T U). is_closed (t.channels t.next_port subscriber.id 0) ≡ false) (sym shown.state)
      (takes subscriber.id)) low
      (ap (λ (t : State T U). (t.warnings).refused_connections) shown'.state ∙ none.0
      ∙ sym (ap (λ (t : State T U). (t.warnings).refused_connections) shown.state))))

module _ {T U F G : Type 0} (old new : Kept T U F G) (m : Messages T U) (s : State T U) (environment : Environment)
    (shown : Shows old m s) where
  -- what a send serves, by its result
  pub serves : (n : ℕ) (l : Loan T U) (p : ℕ) (result : Result SendOutcome SendError) (s' : State T U)
      → Shows new (messages_after_send m n l result) s' → Sends environment s n l result s' → m n ≡ None
      → s.loans n ≡ Some l → l.publisher ≡ p → is_blocked (state_of old) p ≡ false
      → (subscriber : Subscriber) (values : List T) → IsConnected old p subscriber → HasValues old n values
      → IfOk result (λ outcome. IsDelivered outcome → IsServed old new p subscriber values)
  serves n l p (Ok (Delivered count)) s' shown' h unsent out its free subscriber values is reads = λ _.
      let here : IsConnected old l.publisher subscriber = subst (λ i. IsConnected old i subscriber) (sym its) is in
      let open_now : is_blocked s l.publisher ≡ false =
      ap (λ (t : State T U). is_blocked t l.publisher) shown.state ∙ ap (is_blocked (state_of old)) its ∙ free in
      let c : Connects s l.publisher subscriber.id = connected-in old m s shown l.publisher subscriber here in
      subst (λ i. IsServed old new i subscriber values) its
      (subst (IsServed old new l.publisher subscriber) (loan-values old m s shown n l values out reads)
      (served old new m (put_at m n (Some (entry_of l))) s s' shown shown' l.publisher n (entry_of l)
      (λ k entry at. put_at-other m n (Some (entry_of l)) k
      (ne_eqb k n (λ same. none-some entry (sym unsent ∙ ap m (sym same) ∙ at))) ∙ at)
      (put_at-same m n (Some (entry_of l))) subscriber here (send-touches environment s n l s' (Delivered_to count) h)
      (λ y there. subst (λ (z : MachineSubscriber). ServedLists (waiting_from s l.publisher subscriber.id)
      (waiting_from s' l.publisher subscriber.id) n z.buffer (s.config).enable_safe_overflow)
      (same_Some c.subscriber y (sym c.there ∙ there))
      (send-served environment s n l s' count shown.well_formed open_now h subscriber.id c))))
  serves n l p (Ok (Blocked blocked)) s' shown' h unsent out its free subscriber values is reads = λ no. absurd no
  serves n l p (Err error) s' shown' h unsent out its free subscriber values is reads = tt

module _ {T U F G : Type 0} (old new : Kept T U F G) (m : Messages T U) (s : State T U) (shown : Shows old m s)
    (id : ℕ) where
  module _ (x : Publisher) (shown' : Shows new m (publisher_closed s id x)) (at : s.publishers id ≡ Some x) where
    -- a publisher that closes leaves what waits for a subscriber that is up to date and connected
    pub publisher-close-keeps : (publisher : ℕ) (subscriber : Subscriber) → IsUpToDate old subscriber
        → IsConnected old publisher subscriber
        → payloads_from new publisher subscriber ≡ payloads_from old publisher subscriber
    publisher-close-keeps publisher subscriber updated is =
        let c = connected-in old m s shown publisher subscriber is in
        let y = up-to-date-in old m s shown subscriber updated in
        let undue : (c.subscriber).is_due ≡ false =
        ap (λ (z : MachineSubscriber). z.is_due) (same_Some c.subscriber y.0 (sym c.there ∙ y.1)) ∙ y.3 in
        let same : waiting_from (publisher_closed s id x) publisher subscriber.id ≡ waiting_from s publisher
        subscriber.id = publisher-closed-keeps s id x shown.well_formed at publisher subscriber.id c undue in
        from-shown new m (publisher_closed s id x) shown' publisher subscriber
        ∙ ap (map (payload_of (entries_of new))) same
        ∙ map_same (payload_of (entries_of new)) (payload_of (entries_of old)) (waiting_from s publisher subscriber.id)
        (λ k there. same-payload old new m m s (publisher_closed s id x) shown shown'
        (λ n entry e. e) publisher subscriber.id k there (ap (λ ns. contains ns k) same ∙ there))
        ∙ sym (from-shown old m s shown publisher subscriber)

    -- and each other that is connected stays so
    pub publisher-close-connections : (publisher : ℕ) (subscriber : Subscriber) → publisher ≢ id
        → IsConnected old publisher subscriber → IsConnected new publisher subscriber
    publisher-close-connections publisher subscriber away is =
        connected new m (publisher_closed s id x) shown' publisher subscriber
        (publisher-closed-connections s id x publisher subscriber.id away
        (connected-in old m s shown publisher subscriber is))

  pub subscriber-close-connections : (y : MachineSubscriber) → Shows new m (subscriber_closed s id y)
      → (publisher : ℕ) (subscriber : Subscriber) → subscriber.id ≢ id
      → IsConnected old publisher subscriber → IsConnected new publisher subscriber
  subscriber-close-connections y shown' publisher subscriber away is =
      connected new m (subscriber_closed s id y) shown' publisher subscriber
      (subscriber-closed-connections s id y publisher subscriber.id away
      (connected-in old m s shown publisher subscriber is))
