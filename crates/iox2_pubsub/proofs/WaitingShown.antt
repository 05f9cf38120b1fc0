-- What calls do to the number of messages that wait, seen from outside.
use Rattle.std.proofs.Common.{◌≡◌, ℕ, suc, List, [], ◌∷◌, ◌++◌, map, length, ◌+◌, ◌<◌, ◌≤◌, refl, sym, ap, subst, ◌∙◌}
use Rattle.std.proofs.Common.{arith, Bool, true, false, inl, inr, Option, None, Some, Result, Ok, Err}
use mathlib.Core.Path.{fun_ext}
use Rattle.std.specs.Prelude.{◌≢◌, ◌↔◌, IfOk, IsTrue}
use Rattle.std.specs.List.{AllByRecursion, filter_map}
use Rattle.std.specs.Option.{option_map_or}
use Rattle.std.proofs.lemmas.Bool.{cases_eq}
use Rattle.std.proofs.lemmas.List.{append-nil}
use Rattle.iox2_machine.specs.machine.Loans.{entry_of, loan_discarded}
use Rattle.iox2_machine.specs.machine.Mailbox.{numbers_in}
use Rattle.iox2_machine.specs.machine.Numbers.{contains}
use Rattle.iox2_machine.specs.machine.Ports.{CreatePublisher, CreateSubscriber}
use Rattle.iox2_machine.specs.machine.PublisherUpdate.{UpdatePublisher}
use Rattle.iox2_machine.specs.machine.Receives.{ReceiveResult, Got_sample, No_sample, Receive, HasSamples}
use Rattle.std.specs.declared.time.Duration.{Duration}
use Rattle.iox2_machine.specs.machine.Records.{Entry, Environment, Loan, BlockedSend, PublisherSettings}
use Rattle.iox2_machine.specs.machine.Records.{SubscriberSettings, Publisher as MachinePublisher}
use Rattle.iox2_machine.specs.machine.Records.{Subscriber as MachineSubscriber}
use Rattle.iox2_machine.specs.machine.Releases.{released}
use Rattle.iox2_machine.specs.machine.Sends.{SendToConnection, SendResult, Send, Retry, GiveUp}
use Rattle.iox2_machine.specs.machine.State.{State, Messages, with_loan}
use Rattle.iox2_machine.specs.machine.SubscriberUpdate.{UpdateSubscriber}
use Rattle.iox2_machine.specs.machine.Waiting.{waiting_from}
use Rattle.iox2_machine.specs.Stored.{In_mailbox}
use Rattle.iox2_machine.specs.declared.errors.ConnectionFailure.{ConnectionFailure}
use Rattle.iox2_machine.specs.declared.errors.LoanError.{LoanError}
use Rattle.iox2_machine.specs.declared.errors.PublisherCreateError.{PublisherCreateError}
use Rattle.iox2_machine.specs.declared.errors.SubscriberCreateError.{SubscriberCreateError}
use Rattle.iox2_domain.specs.Kept.{Kept, state_of, entries_of}
use Rattle.iox2_domain.specs.Lending.{LoanCall, loan_memory}
use Rattle.iox2_domain.specs.Questions.{IsAnswer}
use Rattle.iox2_domain.specs.Shows.{Shows}
use Rattle.iox2_laws.proofs.MailboxLemmas.{has_numbers-contains, contains_borrowed, contains_waiting_in}
use Rattle.iox2_laws.proofs.NumberLemmas.{contains_later}
use Rattle.iox2_laws.proofs.SamplesStay.{received_one}
use Rattle.iox2_laws.proofs.WaitingCounts.{SameWaits, same_itself, sum_zero, sum_part, cond_among, waiting_for}
use Rattle.iox2_laws.proofs.WaitingLoans.{grant_loan_waits, loan_set_waits, loan_discarded_waits}
use Rattle.iox2_laws.proofs.WaitingReceives.{UpdateWaits, update_subscriber_waits, update_subscriber_counts}
use Rattle.iox2_laws.proofs.WaitingReceives.{update_subscriber_others, receive_fewer, receive_none, receive_no_more}
use Rattle.iox2_laws.proofs.WaitingReceives.{receive_waited, receive_others, has_samples_says, released_waits}
use Rattle.iox2_laws.proofs.WaitingPorts.{NewWaits, create_subscriber_waits}
use Rattle.iox2_laws.proofs.WaitingPublishers.{create_publisher_waits}
use Rattle.iox2_laws.proofs.WaitingSends.{update_publisher_waits, send_waits, send_to_connection_adds, send_among}
use Rattle.iox2_laws.proofs.WaitingSends.{retry_adds, give_up_adds}
use Rattle.iox2_pubsub.specs.Live.{IsLiveSubscriber, AddAtMost, AreAllSlices, OthersWait, TakesOldest, WaitingStays}
use Rattle.iox2_pubsub.specs.Live.{payloads, payloads_from, waiting, sample_key, subscriber_key, IsSubscriberKey}
use Rattle.iox2_pubsub.specs.Slices.{HasValues, SampleHasValues}
use Rattle.iox2_pubsub.specs.Payloads.{all_below, payload_of, payloads_for}
use Rattle.iox2_pubsub.specs.Sample.{Sample}
use Rattle.iox2_pubsub.specs.declared.subscriber.Subscriber.{Subscriber}
use Rattle.iox2_pubsub.proofs.LiveParts.{subscriber-parts}
use Rattle.iox2_pubsub.proofs.SliceParts.{sample-values, values-parts}
use Rattle.iox2_pubsub.proofs.PayloadLists.{all_same, parts_same, payloads_same, length-payloads, each_payload}
use Rattle.iox2_pubsub.proofs.PayloadLists.{payload_at, map_same}
use Rattle.iox2_pubsub.proofs.OldestFirst.{receive-first}
use Rattle.iox2_steps.proofs.sends.SentSlots.{values-of}

-- the payloads are what the domain keeps
pub payloads-are : {T U F G : Type 0} (kept : Kept T U F G) (subscriber : Subscriber)
    → payloads kept subscriber ≡ payloads_for (state_of kept) (entries_of kept) subscriber.id
unfolding payloads
payloads-are kept subscriber = refl

pub payloads-from-are : {T U F G : Type 0} (kept : Kept T U F G) (p : ℕ) (subscriber : Subscriber)
    → payloads_from kept p subscriber ≡ map (payload_of (entries_of kept))
    (waiting_from (state_of kept) p subscriber.id)
unfolding payloads_from
payloads-from-are kept p subscriber = refl

-- where nothing changed
pub waiting-same : {T U F G : Type 0} (old new : Kept T U F G) → new ≡ old → WaitingStays old new
waiting-same {T} {U} {F} {G} old new same =
    record { all = ap (λ (k : Kept T U F G). payloads k) same; from = ap (λ (k : Kept T U F G). payloads_from k) same }

-- as many wait as the machine counts
pub waiting-is : {T U F G : Type 0} (kept : Kept T U F G) (m : Messages T U) (s : State T U) → Shows kept m s
    → (subscriber : Subscriber) → waiting kept subscriber ≡ waiting_for s subscriber.id
waiting-is {T} {U} kept m s shown subscriber =
    ap length (payloads-are kept subscriber) ∙ length-payloads (state_of kept) (entries_of kept) subscriber.id
    ∙ ap (λ (t : State T U). waiting_for t subscriber.id) (sym shown.state)

-- what waits for a subscriber is in a mailbox
waits-in-mailbox : {T U : Type 0} (s : State T U) (p q n : ℕ) → contains (waiting_from s p q) n ≡ true
    → contains (numbers_in (s.mailboxes p q)) n ≡ true
waits-in-mailbox s p q n at = contains_waiting_in 0 (s.mailboxes p q) n (cond_among _ (s.mailboxes p q).waiting n at)

-- the entry of what waits is kept, and is the message
entry-of : {T U F G : Type 0} (kept : Kept T U F G) (m : Messages T U) (s : State T U) → Shows kept m s → (p q n : ℕ)
    → contains (numbers_in (s.mailboxes p q)) n ≡ true
    → (entry : Entry T U) × (entries_of kept n ≡ Some entry) × (m n ≡ Some entry)
entry-of {T} {U} kept m s shown p q n at =
    let here : contains (numbers_in ((state_of kept).mailboxes p q)) n ≡ true =
    ap (λ (t : State T U). contains (numbers_in (t.mailboxes p q)) n) (sym shown.state) ∙ at in
    let has = shown.complete p n (In_mailbox q here) in
    (has.0, has.1, shown.entries n has.0 has.1)

-- the payload of what waits is that of its message
pub payload-is : {T U F G : Type 0} (kept : Kept T U F G) (m : Messages T U) (s : State T U) → Shows kept m s
    → (p q n : ℕ) → contains (waiting_from s p q) n ≡ true
    → (entry : Entry T U) → m n ≡ Some entry → payload_of (entries_of kept) n ≡ entry.values
payload-is {T} {U} kept m s shown p q n at entry is =
    let has = entry-of kept m s shown p q n (waits-in-mailbox s p q n at) in
    ap (λ (o : Option (Entry T U)). option_map_or (λ (e : Entry T U). e.values) o []) (has.1 ∙ sym has.2 ∙ is)

-- the words of a clause, part by part
all-parts : {T : Type 0} (payloads : List (List T)) (values : List T) → AreAllSlices payloads values
    → AllByRecursion (λ payload. payload ≡ values) payloads
unfolding AreAllSlices
all-parts payloads values all = all

parts-all : {T : Type 0} (payloads : List (List T)) (values : List T)
    → AllByRecursion (λ payload. payload ≡ values) payloads → AreAllSlices payloads values
unfolding AreAllSlices
parts-all payloads values all = all

some_there : (ns : List ℕ) (k : ℕ) → contains ns k ≡ true → 0 < length ns
some_there [] k at = let clash : false ≡ true = at in absurd cc
some_there (n ∷ ns) k at = omega arith

module _ {T U F G : Type 0} (old new : Kept T U F G) (m m' : Messages T U) (s s' : State T U) (shown : Shows old m s)
    (shown' : Shows new m' s') where
  -- Each message that was sent before is the same.
  abbrev AreKept : Type 0
  AreKept = (n : ℕ) (entry : Entry T U) → m n ≡ Some entry → m' n ≡ Some entry

  -- it is the same message afterwards
  same-entry : AreKept → (p q i j n : ℕ) → contains (numbers_in (s.mailboxes p q)) n ≡ true
      → contains (numbers_in (s'.mailboxes i j)) n ≡ true → entries_of new n ≡ entries_of old n
  same-entry sent p q i j n at at' =
      let before = entry-of old m s shown p q n at in
      let after = entry-of new m' s' shown' i j n at' in
      after.1 ∙ sym after.2 ∙ sent n before.0 before.2 ∙ sym before.1

  -- and reads the same
  pub same-payload : AreKept → (p q k : ℕ) → contains (waiting_from s p q) k ≡ true
      → contains (waiting_from s' p q) k ≡ true → payload_of (entries_of new) k ≡ payload_of (entries_of old) k
  same-payload sent p q k at at' =
      ap (λ (o : Option (Entry T U)). option_map_or (λ (e : Entry T U). e.values) o [])
      (same-entry sent p q p q k (waits-in-mailbox s p q k at) (waits-in-mailbox s' p q k at'))

  -- what is related in the machine is what the domains keep
  between : (P : State T U → State T U → Type 0) → P s s' → P (state_of old) (state_of new)
  between P h = subst (λ (t : State T U). P t (state_of new)) shown.state (subst (P s) shown'.state h)

  -- the entry of what waits from p for q both before and after is the same
  entries-stay-from : AreKept → (p q : ℕ) → waiting_from s' p q ≡ waiting_from s p q → (n : ℕ)
      → contains (waiting_from (state_of old) p q) n ≡ true → entries_of new n ≡ entries_of old n
  entries-stay-from sent p q from n at =
      let here : contains (waiting_from s p q) n ≡ true =
      ap (λ (t : State T U). contains (waiting_from t p q) n) shown.state ∙ at in
      let there : contains (waiting_from s' p q) n ≡ true = ap (λ ns. contains ns n) from ∙ here in
      same-entry sent p q p q n (waits-in-mailbox s p q n here) (waits-in-mailbox s' p q n there)

  -- the payloads of a publisher stay where the same messages of it wait
  pub payloads-stay-from : AreKept → (p : ℕ) (subscriber : Subscriber)
      → waiting_from s' p subscriber.id ≡ waiting_from s p subscriber.id
      → payloads_from new p subscriber ≡ payloads_from old p subscriber
  payloads-stay-from sent p subscriber from =
      payloads-from-are new p subscriber
      ∙ ap (map (payload_of (entries_of new)))
      (between (λ a b. waiting_from b p subscriber.id ≡ waiting_from a p subscriber.id) from)
      ∙ map_same (payload_of (entries_of new)) (payload_of (entries_of old))
      (waiting_from (state_of old) p subscriber.id)
      (λ n at. ap (λ (o : Option (Entry T U)). option_map_or (λ (e : Entry T U). e.values) o [])
      (entries-stay-from sent p subscriber.id from n at))
      ∙ sym (payloads-from-are old p subscriber)

  -- the payloads of a subscriber stay where the same messages wait for it
  pub payloads-stay-for : AreKept → (subscriber : Subscriber) → s'.next_port ≡ s.next_port
      → ((p : ℕ) → waiting_from s' p subscriber.id ≡ waiting_from s p subscriber.id)
      → payloads new subscriber ≡ payloads old subscriber
  payloads-stay-for sent subscriber ports from =
      payloads-are new subscriber
      ∙ payloads_same (state_of old) (state_of new) (entries_of old) (entries_of new) subscriber.id
      (between (λ a b. b.next_port ≡ a.next_port) ports)
      (between (λ a b. (p : ℕ) → waiting_from b p subscriber.id ≡ waiting_from a p subscriber.id) from)
      (λ p. entries-stay-from sent p subscriber.id (from p))
      ∙ sym (payloads-are old subscriber)

  -- the same payloads wait for everyone where the machine says so
  pub payloads-stay : AreKept → SameWaits s s' → WaitingStays old new
  payloads-stay sent same = record {
    all = fun_ext (λ subscriber. payloads-stay-for sent subscriber same.ports (λ p. same.from p subscriber.id));
    from = fun_ext (λ p. fun_ext (λ subscriber. payloads-stay-from sent p subscriber (same.from p subscriber.id)));
  }

  -- and where it says so of each but one
  pub others-wait : AreKept → (subscriber : Subscriber) → s'.next_port ≡ s.next_port
      → ((p q : ℕ) → q ≢ subscriber.id → waiting_from s' p q ≡ waiting_from s p q) → OthersWait subscriber old new
  others-wait sent subscriber ports from other away = payloads-stay-for sent other ports (λ p. from p other.id away)

  -- the subscriber is open
  pub live-open : (subscriber : Subscriber) → IsSubscriberKey old (subscriber_key subscriber)
      → (y : MachineSubscriber) × (s.subscribers subscriber.id ≡ Some y) × (y.is_open ≡ true)
  live-open subscriber live =
      let has = (subscriber-parts old (subscriber_key subscriber) live).2 in
      (has.0, ap (λ (t : State T U). t.subscribers subscriber.id) shown.state ∙ has.1, has.2)

  -- a loan is granted, or refused
  pub loan-waits : AreKept → {A : Type 0} (is_default : U → Type 0) (checks : Bool) (len p : ℕ)
      (answer : Result A LoanError) → LoanCall is_default checks len s p answer s' → WaitingStays old new
  loan-waits sent is_default checks len p (Ok a) h =
      payloads-stay sent (grant_loan_waits (loan_memory s p) h.0 checks len s p s' None h.2)
  loan-waits sent is_default checks len p (Err e) h = payloads-stay sent (subst (SameWaits s) (sym h.0) (same_itself s))

  -- a sample is released
  pub release-waits : AreKept → (p q n : ℕ) → s' ≡ released s p q n → WaitingStays old new
  release-waits sent p q n is = payloads-stay sent (subst (SameWaits s) (sym is) (released_waits s p q n))

  -- a subscriber is made, or refused
  module _ (sent : AreKept) (environment : Environment) (given : SubscriberSettings) where
    made-waits : NewWaits s shown.well_formed s' → WaitingStays old new
    made-waits made = record {
      all = fun_ext all_waits;
      from = fun_ext (λ p. fun_ext (λ subscriber. payloads-stay-from sent p subscriber (made.from p subscriber.id)));
    }
      where
        all_waits : (subscriber : Subscriber) → payloads new subscriber ≡ payloads old subscriber
        all_waits subscriber =
            let q = subscriber.id in
            let there : payloads new subscriber ≡ payloads_for (state_of new) (entries_of new) q =
            payloads-are new subscriber in
            there
            ∙ ap (all_below (λ p. map (payload_of (entries_of new)) (waiting_from (state_of new) p q)))
            (between (λ a b. b.next_port ≡ suc a.next_port) made.ports)
            ∙ ap (λ ns. all_below (λ p. map (payload_of (entries_of new)) (waiting_from (state_of new) p q))
            (state_of old).next_port ++ map (payload_of (entries_of new)) ns)
            (between (λ a b. waiting_from b a.next_port q ≡ []) (made.none s.next_port q (λ low _. omega arith)))
            ∙ append-nil (all_below (λ p. map (payload_of (entries_of new)) (waiting_from (state_of new) p q))
            (state_of old).next_port)
            ∙ all_same (λ p. map (payload_of (entries_of new)) (waiting_from (state_of new) p q))
            (λ p. map (payload_of (entries_of old)) (waiting_from (state_of old) p q)) (state_of old).next_port
            (parts_same (state_of old) (state_of new) (entries_of old) (entries_of new) q
            (between (λ a b. (p : ℕ) → waiting_from b p q ≡ waiting_from a p q) (λ p. made.from p q))
            (λ p. entries-stay-from sent p q (made.from p q)))
            ∙ sym (payloads-are old subscriber)

    pub creation-waits : (refusal : Option SubscriberCreateError) → CreateSubscriber environment s given s' refusal
        → WaitingStays old new
    creation-waits None h =
        made-waits ((create_subscriber_waits s shown.well_formed environment given s' None h).0 refl)
    creation-waits (Some e) h =
        payloads-stay sent ((create_subscriber_waits s shown.well_formed environment given s' (Some e) h).1 e refl)

    pub created-none : CreateSubscriber environment s given s' None → (subscriber : Subscriber)
        → subscriber.id ≡ s.next_port → waiting new subscriber ≡ 0
    created-none h subscriber id =
        let made = (create_subscriber_waits s shown.well_formed environment given s' None h).0 refl in
        waiting-is new m' s' shown' subscriber ∙ ap (waiting_for s') id
        ∙ sum_zero (λ p. length (waiting_from s' p s.next_port)) s'.next_port
        (λ p. ap length (made.none p s.next_port (λ _ low. omega arith)))

  -- a publisher is made, or refused
  module _ (environment : Environment) (given : PublisherSettings) (refusal : Option PublisherCreateError)
      (h : CreatePublisher environment s given s' refusal) where
    pub publisher-refused : AreKept → (e : PublisherCreateError) → refusal ≡ Some e → WaitingStays old new
    publisher-refused sent e is = payloads-stay sent ((create_publisher_waits environment s given s' refusal h).1 e is)

    pub publisher-no-fewer : (subscriber : Subscriber) → waiting old subscriber ≤ waiting new subscriber
    publisher-no-fewer subscriber =
        let more : waiting_for s subscriber.id ≤ waiting_for s' subscriber.id =
        (create_publisher_waits environment s given s' refusal h).0 subscriber.id in
        let now : waiting new subscriber ≡ waiting_for s' subscriber.id = waiting-is new m' s' shown' subscriber in
        let before : waiting old subscriber ≡ waiting_for s subscriber.id = waiting-is old m s shown subscriber in
        omega arith

  -- no more are added than the machine adds
  adds : (more : ℕ) → ((q : ℕ) → waiting_for s' q ≤ waiting_for s q + more) → AddAtMost more old new
  adds more each subscriber =
      let most : waiting_for s' subscriber.id ≤ waiting_for s subscriber.id + more = each subscriber.id in
      let now : waiting new subscriber ≡ waiting_for s' subscriber.id = waiting-is new m' s' shown' subscriber in
      let before : waiting old subscriber ≡ waiting_for s subscriber.id = waiting-is old m s shown subscriber in
      omega arith

  -- a loan is sent
  pub send-adds : (environment : Environment) (n : ℕ) (l : Loan T U) (result : SendResult)
      → Send environment s n l s' result → AddAtMost ((old.config).history_size + 1) old new
  send-adds environment n l result h =
      subst (λ (t : State T U). AddAtMost ((t.config).history_size + 1) old new) shown.state
      (adds ((s.config).history_size + 1)
      (send_waits environment s n l s' result shown.well_formed shown'.well_formed h))

  -- a loan is sent to one connection
  pub send-to-adds : (environment : Environment) (n : ℕ) (l : Loan T U) (channel place : ℕ) (result : SendResult)
      → SendToConnection environment s n l channel place s' result → AddAtMost 1 old new
  send-to-adds environment n l channel place result h =
      adds 1 (send_to_connection_adds environment s n l channel place s' result shown.well_formed h)

  -- a blocked send goes on
  pub retry-adds : (environment : Environment) (p : ℕ) (x : MachinePublisher) (b : BlockedSend) (elapsed : Duration)
      (result : SendResult) → s.publishers p ≡ Some x → x.blocked ≡ Some b
      → Retry environment s p b elapsed s' result → AddAtMost 1 old new
  retry-adds environment p x b elapsed result stands waits h =
      adds 1 (retry_adds environment s p x b elapsed s' result shown.well_formed stands waits h)

  pub give-up-adds : (environment : Environment) (p : ℕ) (x : MachinePublisher) (b : BlockedSend) (result : SendResult)
      → s.publishers p ≡ Some x → x.blocked ≡ Some b
      → GiveUp environment s p b s' result → AddAtMost 1 old new
  give-up-adds environment p x b result stands waits h =
      adds 1 (give_up_adds environment s p x b s' result shown.well_formed stands waits h)

  -- and brings its payload, where nothing waited and no history is kept
  pub send-brings : (environment : Environment) (n : ℕ) (l : Loan T U) (result : SendResult)
      → ((e : Entry T U) → m' n ≡ Some e → e ≡ entry_of l) → s.loans n ≡ Some l → Send environment s n l s' result
      → (subscriber : Subscriber) (values : List T) → (old.config).history_size ≡ 0 → waiting old subscriber ≡ 0
      → HasValues old n values → AreAllSlices (payloads new subscriber) values
  send-brings environment n l result is_sent out h subscriber values no_history none reads =
      parts-all (payloads new subscriber) values
      (subst (AllByRecursion (λ payload. payload ≡ values)) (sym (payloads-are new subscriber))
      (subst (λ (t : State T U). AllByRecursion (λ payload. payload ≡ values) (payloads_for t (entries_of new) q))
      shown'.state
      (each_payload (λ payload. payload ≡ values) s' (entries_of new) q each)))
    where
      q : ℕ
      q = subscriber.id

      nothing : waiting_for s q ≡ 0
      nothing = sym (waiting-is old m s shown subscriber) ∙ none

      cells : l.cells ≡ map Some values
      cells =
          let has = values-parts old n values reads in
          let at : s.loans n ≡ Some has.0 = ap (λ (t : State T U). t.loans n) shown.state ∙ has.1 in
          let both : Some l ≡ Some has.0 = sym out ∙ at in
          let same : l ≡ has.0 = cc in
          ap (λ (k : Loan T U). k.cells) same ∙ has.2

      sent_values : (entry_of l).values ≡ values
      sent_values = ap (filter_map (λ (cell : Option T). cell)) cells ∙ values-of values

      waited : (p k : ℕ) → contains (waiting_from s p q) k ≡ true → ⊥
      waited p k at =
          let known : p < s.next_port =
          ((shown.well_formed.mailboxes p q).known
          (has_numbers-contains (s.mailboxes p q) k (waits-in-mailbox s p q k at))).0 in
          let most : length (waiting_from s p q) ≤ waiting_for s q =
          sum_part (λ i. length (waiting_from s i q)) p s.next_port known in
          let some : 0 < length (waiting_from s p q) = some_there (waiting_from s p q) k at in
          let none_waits : waiting_for s q ≡ 0 = nothing in
          omega arith

      each : (p k : ℕ) → contains (waiting_from s' p q) k ≡ true → payload_of (entries_of new) k ≡ values
      each p k at = elim (send_among environment s n l s' result shown.well_formed
          (ap (λ (t : State T U). (t.config).history_size) shown.state ∙ no_history) h p q k at) [
            | inl here ↦
                let has = entry-of new m' s' shown' p q k (waits-in-mailbox s' p q k at) in
                let same : has.0 ≡ entry_of l = is_sent has.0 (sym (ap m' here) ∙ has.2) in
                ap (λ (o : Option (Entry T U)). option_map_or (λ (e : Entry T U). e.values) o []) has.1
                ∙ ap (λ (e : Entry T U). e.values) same ∙ sent_values
            | inr old ↦ absurd (waited p k old)
          ]

  -- a publisher updates its connections
  pub publisher-update-adds : (environment : Environment) (p : ℕ) (failure : Option ConnectionFailure)
      → UpdatePublisher environment s p s' failure → AddAtMost (old.config).history_size old new
  publisher-update-adds environment p failure h =
      subst (λ (t : State T U). AddAtMost (t.config).history_size old new) shown.state
      (adds (s.config).history_size (update_publisher_waits environment s p s' failure shown.well_formed h))

  -- a subscriber does
  pub subscriber-update-adds : (environment : Environment) (q : ℕ) (failure : Option ConnectionFailure)
      → UpdateSubscriber environment s q s' failure → AddAtMost 0 old new
  subscriber-update-adds environment q failure h = adds 0 (λ i. elim (cases_eq i q) [
    | inl here ↦
        let less : waiting_for s' q ≤ waiting_for s q = update_subscriber_counts environment s q s' waits in
        subst (λ k. waiting_for s' k ≤ waiting_for s k + 0) (sym here) (omega arith)
    | inr away ↦ let same : waiting_for s' i ≡ waiting_for s i =
        update_subscriber_others environment s q s' waits i away in omega arith
  ])
    where
      waits : UpdateWaits environment s q s'
      waits = update_subscriber_waits environment s q s' failure h

  -- ---- a receive, and the question whether anything waits

  module _ (environment : Environment) (subscriber : Subscriber) where
    pub received-fewer : IsLiveSubscriber old subscriber → (p n : ℕ)
        → Receive environment s subscriber.id s' (Got_sample p n) → waiting new subscriber < waiting old subscriber
    received-fewer live p n h =
        let has = live-open subscriber live.there in
        let fewer : waiting_for s' subscriber.id < waiting_for s subscriber.id =
        receive_fewer environment s subscriber.id p n s' has.0 shown.well_formed has.1 has.2 h in
        let now : waiting new subscriber ≡ waiting_for s' subscriber.id = waiting-is new m' s' shown' subscriber in
        let before : waiting old subscriber ≡ waiting_for s subscriber.id = waiting-is old m s shown subscriber in
        omega arith

    pub received-none : Receive environment s subscriber.id s' No_sample → waiting new subscriber ≡ 0
    received-none h = waiting-is new m' s' shown' subscriber ∙ receive_none environment s subscriber.id s' h

    pub received-no-more : IsLiveSubscriber old subscriber → (result : ReceiveResult)
        → Receive environment s subscriber.id s' result → waiting new subscriber ≤ waiting old subscriber
    received-no-more live result h =
        let has = live-open subscriber live.there in
        let less : waiting_for s' subscriber.id ≤ waiting_for s subscriber.id =
        receive_no_more environment s subscriber.id s' result has.0 shown.well_formed has.1 has.2 h in
        let now : waiting new subscriber ≡ waiting_for s' subscriber.id = waiting-is new m' s' shown' subscriber in
        let before : waiting old subscriber ≡ waiting_for s subscriber.id = waiting-is old m s shown subscriber in
        omega arith

    pub update-no-more : (failure : Option ConnectionFailure) → UpdateSubscriber environment s subscriber.id s' failure
        → waiting new subscriber ≤ waiting old subscriber
    update-no-more failure h = let less : waiting new subscriber ≤ waiting old subscriber
        + 0 = subscriber-update-adds environment subscriber.id failure h subscriber in omega arith

    pub update-others : AreKept → (failure : Option ConnectionFailure)
        → UpdateSubscriber environment s subscriber.id s' failure → OthersWait subscriber old new
    update-others sent failure h =
        let waits = update_subscriber_waits environment s subscriber.id s' failure h in
        others-wait sent subscriber waits.ports waits.others

    answer-says : IsLiveSubscriber old subscriber → (waits : Bool)
        → HasSamples environment s subscriber.id s' None waits → (waits ≡ true) ↔ (0 < waiting new subscriber)
    answer-says live waits h =
        let has = live-open subscriber live.there in
        subst (λ k. (waits ≡ true) ↔ (0 < k)) (sym (waiting-is new m' s' shown' subscriber))
        (has_samples_says environment s subscriber.id s' waits has.0 shown.well_formed has.1 has.2 h)

    -- and so does an answer that may be a failure
    pub answers-say : IsLiveSubscriber old subscriber → (result : Result Bool ConnectionFailure)
        → IsAnswer environment s subscriber.id result s'
        → IfOk result (λ waits. IsTrue waits ↔ (0 < waiting new subscriber))
    answers-say live (Ok waits) h = answer-says live waits h
    answers-say live (Err e) h = tt

    pub received-others : AreKept → (result : ReceiveResult) → Receive environment s subscriber.id s' result
        → OthersWait subscriber old new
    received-others sent result h =
        let others = receive_others environment s subscriber.id s' result h in
        others-wait sent subscriber others.ports others.from

    -- what is received is what waited
    pub received-reads : AreKept → IsLiveSubscriber old subscriber → (p : ℕ) (sample : Sample)
        → Receive environment s subscriber.id s' (Got_sample p sample.sample.number) → (values : List T)
        → AreAllSlices (payloads old subscriber) values → SampleHasValues new (sample_key sample) values
    received-reads sent live p sample h values only =
        let has = live-open subscriber live.there in
        let n = sample.sample.number in
        let waited : contains (waiting_from s p subscriber.id) n ≡ true =
        receive_waited environment s subscriber.id p n s' has.0 has.1 has.2 h in
        let boxed : contains (numbers_in (s.mailboxes p subscriber.id)) n ≡ true =
        waits-in-mailbox s p subscriber.id n waited in
        let known : p < s.next_port =
        ((shown.well_formed.mailboxes p subscriber.id).known
        (has_numbers-contains (s.mailboxes p subscriber.id) n boxed)).0 in
        let all : AllByRecursion (λ payload. payload ≡ values) (payloads_for s (entries_of old) subscriber.id) =
        subst (λ (t : State T U). AllByRecursion (λ payload. payload ≡ values)
        (payloads_for t (entries_of old) subscriber.id)) (sym shown.state)
        (subst (AllByRecursion (λ payload. payload ≡ values)) (payloads-are old subscriber)
        (all-parts (payloads old subscriber) values only)) in
        let before = entry-of old m s shown p subscriber.id n boxed in
        let waiting_values : payload_of (entries_of old) n ≡ values =
        payload_at (λ payload. payload ≡ values) s (entries_of old) subscriber.id all p n known waited in
        let borrowed : contains (numbers_in (s'.mailboxes p subscriber.id)) n ≡ true =
        contains_borrowed (s'.mailboxes p subscriber.id) n ((received_one environment s subscriber.id p n s' h).now) in
        let entry : entries_of new n ≡ Some before.0 =
        same-entry sent p subscriber.id p subscriber.id n boxed borrowed ∙ before.1 in
        sample-values new (sample_key sample) values (
          before.0,
          entry,
          ap (λ (o : Option (Entry T U)). option_map_or (λ (e : Entry T U). e.values) o []) (sym before.1)
              ∙ waiting_values,
        )

    -- and it is the oldest of its publisher
    pub received-oldest : AreKept → IsLiveSubscriber old subscriber → (sample : Sample)
        → Receive environment s subscriber.id s' (Got_sample sample.origin sample.sample.number)
        → TakesOldest subscriber sample old new
    received-oldest sent live sample h =
        ((before.0).values, same, sample-values new (sample_key sample) (before.0).values (before.0, entry, refl)) where
          p : ℕ
          p = sample.origin

          q : ℕ
          q = subscriber.id

          n : ℕ
          n = sample.sample.number

          has : (y : MachineSubscriber) × (s.subscribers subscriber.id ≡ Some y) × (y.is_open ≡ true)
          has = live-open subscriber live.there

          first : waiting_from s p q ≡ n ∷ waiting_from s' p q
          first = receive-first environment s q p n s' has.0 has.1 has.2 h

          boxed : contains (numbers_in (s.mailboxes p q)) n ≡ true
          boxed = waits-in-mailbox s p q n (receive_waited environment s q p n s' has.0 has.1 has.2 h)

          before : (entry : Entry T U) × (entries_of old n ≡ Some entry) × (m n ≡ Some entry)
          before = entry-of old m s shown p q n boxed

          borrowed : contains (numbers_in (s'.mailboxes p q)) n ≡ true
          borrowed = contains_borrowed (s'.mailboxes p q) n ((received_one environment s q p n s' h).now)

          entry : entries_of new n ≡ Some before.0
          entry = same-entry sent p q p q n boxed borrowed ∙ before.1

          later : (k : ℕ) → contains (waiting_from s' p q) k ≡ true
              → payload_of (entries_of old) k ≡ payload_of (entries_of new) k
          later k at =
              let there : contains (waiting_from s p q) k ≡ true =
              ap (λ ns. contains ns k) first ∙ contains_later n k (waiting_from s' p q) at in
              ap (λ (o : Option (Entry T U)). option_map_or (λ (e : Entry T U). e.values) o [])
              (sym (same-entry sent p q p q k (waits-in-mailbox s p q k there) (waits-in-mailbox s' p q k at)))

          same : payloads_from old p subscriber ≡ (before.0).values ∷ payloads_from new p subscriber
          same =
              payloads-from-are old p subscriber
              ∙ ap (λ (t : State T U). map (payload_of (entries_of old)) (waiting_from t p q)) (sym shown.state)
              ∙ ap (map (payload_of (entries_of old))) first
              ∙ ap (λ vs. vs ∷ map (payload_of (entries_of old)) (waiting_from s' p q))
              (ap (λ (o : Option (Entry T U)). option_map_or (λ (e : Entry T U). e.values) o []) before.1)
              ∙ ap (λ vss. (before.0).values ∷ vss)
              (map_same (payload_of (entries_of old)) (payload_of (entries_of new)) (waiting_from s' p q) later
              ∙ ap (λ (t : State T U). map (payload_of (entries_of new)) (waiting_from t p q)) shown'.state
              ∙ sym (payloads-from-are new p subscriber))

module _ {T U F G : Type 0} (old new : Kept T U F G) (m : Messages T U) (s : State T U) (shown : Shows old m s)
    (n : ℕ) where
  -- a loan is set
  pub set-waits : (l : Option (Loan T U)) → Shows new m (with_loan s n l) → WaitingStays old new
  set-waits l shown' =
      payloads-stay old new m m s (with_loan s n l) shown shown' (λ k entry at. at) (loan_set_waits s n l)

  -- a loan is given back
  pub discard-waits : (l : Loan T U) → Shows new m (loan_discarded s n l) → WaitingStays old new
  discard-waits l shown' =
      payloads-stay old new m m s (loan_discarded s n l) shown shown' (λ k entry at. at) (loan_discarded_waits s n l)
