-- What calls leave of the loans that publishers may still take, seen from outside.
use Rattle.std.proofs.Common.{◌≡◌, ℕ, Bool, ◌+◌, ◌≤◌, ◌<◌, refl, sym, ap, subst, ◌∙◌, arith, Option, None, Some, Result}
use Rattle.std.proofs.Common.{Ok, Err, ◌⊎◌, inl, inr}
use Rattle.std.specs.Prelude.{◌≢◌, IfOk, OnErr}
use Rattle.std.specs.declared.time.Duration.{Duration}
use Rattle.std.proofs.lemmas.Bool.{cases_eq}
use Rattle.iox2_machine.specs.machine.Limits.{last_number, worst_case}
use Rattle.iox2_machine.specs.machine.Loans.{loan_discarded}
use Rattle.iox2_machine.specs.machine.LoansLeft.{CanLend}
use Rattle.iox2_machine.specs.machine.Ports.{CreatePublisher, CreateSubscriber, slots_for, publisher_closed}
use Rattle.iox2_machine.specs.machine.Ports.{subscriber_closed}
use Rattle.iox2_machine.specs.machine.PublisherUpdate.{UpdatePublisher}
use Rattle.iox2_machine.specs.machine.Receives.{ReceiveResult, Receive}
use Rattle.iox2_machine.specs.machine.Records.{Environment, Loan, BlockedSend, Publisher as MachinePublisher}
use Rattle.iox2_machine.specs.machine.Records.{Subscriber as MachineSubscriber, PublisherSettings, SubscriberSettings}
use Rattle.iox2_machine.specs.machine.Releases.{released}
use Rattle.iox2_machine.specs.machine.Sends.{SendToConnection, SendResult, Blocked_send, Delivered_to, Send_error, Send}
use Rattle.iox2_machine.specs.machine.Sends.{Retry, GiveUp}
use Rattle.iox2_laws.proofs.ConnectionSendsLeave.{send_to_connection_blocked_kept, send_to_connection_ends}
use Rattle.iox2_machine.specs.machine.State.{State, Messages, with_loan, fresh, no_messages}
use Rattle.iox2_machine.specs.machine.SubscriberUpdate.{UpdateSubscriber}
use Rattle.iox2_machine.specs.declared.errors.ConnectionFailure.{ConnectionFailure}
use Rattle.iox2_machine.specs.declared.errors.LoanError.{LoanError}
use Rattle.iox2_machine.specs.declared.errors.SendError.{SendError}
use Rattle.iox2_machine.specs.declared.errors.PublisherCreateError.{PublisherCreateError}
use Rattle.iox2_machine.specs.declared.errors.SubscriberCreateError.{SubscriberCreateError}
use Rattle.iox2_machine.specs.declared.service_config.ServiceConfig.{ServiceConfig}
use Rattle.iox2_laws.proofs.PortsClose.{publisher_closed_others}
use Rattle.iox2_laws.proofs.LoansLeft.{KeepsTerms, values_kept, LoansKept, LoanTaken, LoanEnds, set_kept}
use Rattle.iox2_laws.proofs.LoansLeft.{update_publisher_kept, update_subscriber_kept, receive_kept, released_kept}
use Rattle.iox2_laws.proofs.LoansLeft.{subscriber_closed_kept, create_publisher_kept, created_grows, created_lends}
use Rattle.iox2_laws.proofs.LoansLeft.{created_longest, create_subscriber_kept, kept_itself, kept_lends, closed_lends}
use Rattle.iox2_laws.proofs.LoansLeft.{loan_taken, discarded_ends, send_ends, send_blocked_kept, retry_ends}
use Rattle.iox2_laws.proofs.LoansLeft.{retry_blocked_kept, give_up_ends, give_up_blocked_kept, ended_lends}
use Rattle.iox2_laws.proofs.LoansLeft.{waited_lends, others_lend, lends_fewer}
use Rattle.iox2_domain.specs.Kept.{Kept, state_of}
use Rattle.iox2_domain.specs.Lending.{LoanCall, loan_memory}
use Rattle.iox2_domain.specs.Shows.{Shows}
use Rattle.iox2_pubsub.specs.LoansLeft.{GrowsBy, LendsFirst, LendsUpTo, HasLoansLeft, HasNumbersLeft, NumbersLeftStay}
use Rattle.iox2_pubsub.specs.LoansLeft.{LoansLeftStay, OthersLoansLeftStay, HasOneMoreLeft, TakesOneLeft}
use Rattle.iox2_pubsub.specs.SendCalls.{IsDelivered, result_of_send}
use Rattle.iox2_pubsub.specs.declared.publisher.Publisher.{Publisher}
use Rattle.iox2_pubsub.specs.declared.send_outcome.SendOutcome.{SendOutcome}
use Rattle.iox2_pubsub.specs.declared.send_outcome.SendOutcome.TheVariants.{Delivered, Blocked}

-- a number that is left is below the last
below_last : (now n last : ℕ) → now + (n + 1) ≤ last → now < last
below_last now n last h = omega arith

fewer_numbers : (now was n last : ℕ) → now ≡ was + 1 → was + (n + 1) ≤ last → now + n ≤ last
fewer_numbers now was n last e h = omega arith

one_less : (now n last : ℕ) → now + (n + 1) ≤ last → now + n ≤ last
one_less now n last h = omega arith

-- the publisher can lend n loans more, and slices as long as its handle says
abbrev pub LendsAll : {T U : Type 0} → State T U → Publisher → (n : ℕ) → Type 0
LendsAll s publisher n = CanLend s publisher.id n × LendsUpTo s publisher.id publisher.initial_max_slice_len

module _ {T U F G : Type 0} (domain : Kept T U F G) where
  pub lends-in : (publisher : Publisher) (n : ℕ) → HasLoansLeft domain publisher n
      → LendsAll (state_of domain) publisher n
  unfolding HasLoansLeft
  lends-in publisher n h = h

  pub lends-out : (publisher : Publisher) (n : ℕ) → LendsAll (state_of domain) publisher n
      → HasLoansLeft domain publisher n
  unfolding HasLoansLeft
  lends-out publisher n h = h

  fewer-left : (publisher : Publisher) (n : ℕ) → HasLoansLeft domain publisher (n + 1) → HasLoansLeft domain publisher n
  fewer-left publisher n h =
      let has = lends-in publisher (n + 1) h in
      lends-out publisher n (lends_fewer (state_of domain) publisher.id n (n + 1) (omega arith) has.0, has.1)

  pub numbers-in : (n : ℕ) → HasNumbersLeft domain n → domain.next_message + n ≤ last_number
  unfolding HasNumbersLeft
  numbers-in n h = h

  pub numbers-out : (n : ℕ) → domain.next_message + n ≤ last_number → HasNumbersLeft domain n
  unfolding HasNumbersLeft
  numbers-out n h = h

  pub number-left : (n : ℕ) → HasNumbersLeft domain (n + 1) → domain.next_message < last_number
  number-left n h = below_last domain.next_message n last_number (numbers-in (n + 1) h)

module _ {T U F G : Type 0} (kept : Kept T U F G) (m : Messages T U) (s : State T U) (shown : Shows kept m s) where
  lends-at : (publisher : Publisher) (n : ℕ) → HasLoansLeft kept publisher n → LendsAll s publisher n
  lends-at publisher n h =
      subst (λ (t : State T U). LendsAll t publisher n) (sym shown.state) (lends-in kept publisher n h)

  lends-from : (publisher : Publisher) (n : ℕ) → CanLend s publisher.id n
      → LendsUpTo s publisher.id publisher.initial_max_slice_len → HasLoansLeft kept publisher n
  lends-from publisher n can long =
      lends-out kept publisher n (subst (λ (t : State T U). LendsAll t publisher n) shown.state (can, long))

  next-at : s.next_message ≡ kept.next_message
  next-at = ap (λ (t : State T U). t.next_message) shown.state

module _ {T U F G : Type 0} (old new : Kept T U F G) (m m' : Messages T U) (s s' : State T U) (shown : Shows old m s)
    (shown' : Shows new m' s') where
  numbers-stay : s'.next_message ≡ s.next_message → NumbersLeftStay old new
  numbers-stay same n h =
      numbers-out new n (subst (λ (k : ℕ). k + n ≤ last_number)
      (sym (next-at old m s shown) ∙ sym same ∙ next-at new m' s' shown') (numbers-in old n h))

  pub all-left : LoansKept s s' → LoansLeftStay old new
  all-left kept = record {
    loans = λ publisher n h.
        let was = lends-at old m s shown publisher n h in
        let there = kept.publishers publisher.id (was.1).0 (was.1).1 in
        let terms : KeepsTerms (was.1).0 there.0 = there.2 in
        lends-from new m' s' shown' publisher n (kept_lends s s' kept publisher.id n was.0)
        (there.0, there.1, terms.longest ∙ (was.1).2);
    numbers = numbers-stay kept.numbers;
  }

  pub update-publisher-left : (environment : Environment) (p : ℕ) (failure : Option ConnectionFailure)
      → UpdatePublisher environment s p s' failure → LoansLeftStay old new
  update-publisher-left environment p failure h = all-left (update_publisher_kept environment s p s' failure h)

  pub update-subscriber-left : (environment : Environment) (q : ℕ) (failure : Option ConnectionFailure)
      → UpdateSubscriber environment s q s' failure → LoansLeftStay old new
  update-subscriber-left environment q failure h = all-left (update_subscriber_kept environment s q s' failure h)

  pub receive-left : (environment : Environment) (q : ℕ) (result : ReceiveResult) → Receive environment s q s' result
      → LoansLeftStay old new
  receive-left environment q result h = all-left (receive_kept environment s q s' result h)

  pub release-left : (p q n : ℕ) → s' ≡ released s p q n → LoansLeftStay old new
  release-left p q n is = all-left (subst (LoansKept s) (sym is) (released_kept s p q n))

  pub publisher-creation-left : (environment : Environment) (given : PublisherSettings)
      (refusal : Option PublisherCreateError) → CreatePublisher environment s given s' refusal → LoansLeftStay old new
  publisher-creation-left environment given refusal h =
      all-left (create_publisher_kept environment s shown.well_formed given s' refusal h)

  pub subscriber-creation-left : (environment : Environment) (given : SubscriberSettings)
      (refusal : Option SubscriberCreateError) → CreateSubscriber environment s given s' refusal → LoansLeftStay old new
  subscriber-creation-left environment given refusal h =
      all-left (create_subscriber_kept environment s given s' refusal h)

  -- a publisher with the worst case of slots, which lends single values where messages are such
  pub created-left : (environment : Environment) (given : PublisherSettings) → LendsFirst s.config given
      → worst_case s.config given.max_loaned_samples ≤ slots_for s.config given
      → (publisher : Publisher) → publisher.id ≡ s.next_port
      → publisher.initial_max_slice_len ≡ given.initial_max_slice_len
      → CreatePublisher environment s given s' None → HasLoansLeft new publisher given.max_loaned_samples
  created-left environment given values slots publisher its long made =
      let longest = created_longest environment s given s' made in
      lends-from new m' s' shown' publisher given.max_loaned_samples
      (subst (λ (p : ℕ). CanLend s' p given.max_loaned_samples) (sym its)
      (created_lends environment s given s' values slots made))
      (longest.0, ap s'.publishers its ∙ longest.1, longest.2 ∙ sym long)

  -- its memory grows as it was asked for
  pub created-grows : (environment : Environment) (given : PublisherSettings) (publisher : Publisher)
      → publisher.id ≡ s.next_port → CreatePublisher environment s given s' None
      → GrowsBy new publisher given.allocation_strategy
  unfolding GrowsBy
  created-grows environment given publisher its made =
      let grows = created_grows environment s given s' made in
      subst (λ (t : State T U). (x : MachinePublisher) × (t.publishers publisher.id ≡ Some x)
      × (x.allocation_strategy ≡ given.allocation_strategy)) shown'.state
      (grows.0, ap s'.publishers its ∙ grows.1, grows.2)

  -- a call that changes nothing
  pub same-left : s' ≡ s → LoansLeftStay old new
  same-left is = all-left (subst (LoansKept s) (sym is) (kept_itself s))

  -- a loan is granted, or refused
  pub loan-takes : {A : Type 0} (is_default : U → Type 0) (checks : Bool) (len : ℕ) (publisher : Publisher)
      (answer : Result A LoanError) → LoanCall is_default checks len s publisher.id answer s'
      → TakesOneLeft publisher old new
  loan-takes is_default checks len publisher (Ok a) h =
      let taken : LoanTaken publisher.id s s' =
      loan_taken (loan_memory s publisher.id) h.0 checks len s publisher.id s' h.2 in record {
        loans = λ n left.
            let was = lends-at old m s shown publisher (n + 1) left in
            let there = taken.longest (was.1).0 (was.1).1 in
            lends-from new m' s' shown' publisher n (taken.own n was.0) (there.0, there.1, there.2 ∙ (was.1).2);
        others = λ other n away left.
            let was = lends-at old m s shown other n left in
            let can : CanLend s other.id n = was.0 in
            lends-from new m' s' shown' other n (record {
              port = can.port;
              stands = taken.others other.id away ∙ can.stands;
              slots = subst (λ (c : ServiceConfig). worst_case c (can.port).max_loaned_samples ≤ (can.port).slots)
                  (sym taken.config) can.slots;
              few = can.few;
              values = values_kept s s' can.port can.port taken.config refl refl can.values;
            }) ((was.1).0, taken.others other.id away ∙ (was.1).1, (was.1).2);
        numbers = λ n left. numbers-out new n (fewer_numbers new.next_message old.next_message n last_number
            (sym (next-at new m' s' shown') ∙ taken.numbers ∙ ap (λ (k : ℕ). k + 1) (next-at old m s shown))
            (numbers-in old (n + 1) left));
      }
  loan-takes is_default checks len publisher (Err e) h =
      let stay : LoansLeftStay old new = same-left h.0 in record {
        loans = λ n left. stay.loans publisher n (fewer-left old publisher n left);
        others = λ other n away left. stay.loans other n left;
        numbers = λ n left.
            stay.numbers n (numbers-out old n (one_less old.next_message n last_number (numbers-in old (n + 1) left)));
      }

  pub refused-left : {A : Type 0} (is_default : U → Type 0) (checks : Bool) (len p : ℕ) (answer : Result A LoanError)
      → LoanCall is_default checks len s p answer s' → OnErr answer (LoansLeftStay old new)
  refused-left is_default checks len p (Ok a) h = tt
  refused-left is_default checks len p (Err e) h = same-left h.0

  -- a loan of the publisher p ends
  module _ (n p : ℕ) (ended : LoanEnds p n s s') (lends : (more : ℕ) → CanLend s p more → CanLend s' p (more + 1)) where
    end-gives : HasOneMoreLeft p old new
    end-gives publisher more same left =
        let was = lends-at old m s shown publisher more left in
        let can : CanLend s p more = subst (λ (i : ℕ). CanLend s i more) same was.0 in
        let there = ended.own (was.1).0 (ap s.publishers (sym same) ∙ (was.1).1) in
        lends-from new m' s' shown' publisher (more + 1)
        (subst (λ (i : ℕ). CanLend s' i (more + 1)) (sym same) (lends more can))
        (there.0, ap s'.publishers same ∙ there.1, there.6 ∙ (was.1).2)

    end-left : LoansLeftStay old new
    end-left = record {
      loans = λ publisher more left. at publisher more left (cases_eq publisher.id p);
      numbers = numbers-stay ended.numbers;
    } where
      at : (publisher : Publisher) (more : ℕ) → HasLoansLeft old publisher more
          → (publisher.id ≡ p) ⊎ (publisher.id ≢ p) → HasLoansLeft new publisher more
      at publisher more left (inl here) = fewer-left new publisher more (end-gives publisher more here left)
      at publisher more left (inr away) =
          let was = lends-at old m s shown publisher more left in
          let there = ended.others publisher.id (was.1).0 away (was.1).1 in
          let terms : KeepsTerms (was.1).0 there.0 = there.2 in
          lends-from new m' s' shown' publisher more (others_lend p n s s' ended publisher.id more away was.0)
          (there.0, there.1, terms.longest ∙ (was.1).2)

  -- one that was in its user's hands
  module _ (n : ℕ) (l : Loan T U) (out : s.loans n ≡ Some l) (p : ℕ) (its : l.publisher ≡ p)
      (ends : LoanEnds l.publisher n s s') where
    ended : LoanEnds p n s s'
    ended = subst (λ (i : ℕ). LoanEnds i n s s') its ends

    pub ended-gives : HasOneMoreLeft p old new
    ended-gives = end-gives n p ended (ended_lends p n s s' shown.well_formed l out its ended)

    pub ended-left : LoansLeftStay old new
    ended-left = end-left n p ended (ended_lends p n s s' shown.well_formed l out its ended)

  -- one that waited with a blocked send
  module _ (p : ℕ) (x : MachinePublisher) (b : BlockedSend) (stands : s.publishers p ≡ Some x)
      (waits : x.blocked ≡ Some b) where
    ended-waiting : LoanEnds p b.message s s' → LoansLeftStay old new
    ended-waiting ends = end-left b.message p ends (waited_lends p s s' shown.well_formed x b stands waits ends)

    pub retry-gives : (environment : Environment) (elapsed : Duration) (result : SendResult)
        → (result ≡ Blocked_send → ⊥) → Retry environment s p b elapsed s' result → HasOneMoreLeft p old new
    retry-gives environment elapsed result free h =
        let ends : LoanEnds p b.message s s' = retry_ends environment s p b elapsed s' result free h in
        end-gives b.message p ends (waited_lends p s s' shown.well_formed x b stands waits ends)

    pub give-up-gives : (environment : Environment) (result : SendResult) → (result ≡ Blocked_send → ⊥)
        → GiveUp environment s p b s' result → HasOneMoreLeft p old new
    give-up-gives environment result free h =
        let ends : LoanEnds p b.message s s' = give_up_ends environment s p b s' result free h in
        end-gives b.message p ends (waited_lends p s s' shown.well_formed x b stands waits ends)

    pub retry-left : (environment : Environment) (elapsed : Duration) (result : SendResult)
        → Retry environment s p b elapsed s' result → LoansLeftStay old new
    retry-left environment elapsed Blocked_send h =
        all-left (retry_blocked_kept environment s p b elapsed s' Blocked_send refl h)
    retry-left environment elapsed (Delivered_to count) h =
        ended-waiting (retry_ends environment s p b elapsed s' (Delivered_to count)
        (λ e. let clash : Delivered_to count ≡ Blocked_send = e in cc) h)
    retry-left environment elapsed (Send_error error) h =
        ended-waiting (retry_ends environment s p b elapsed s' (Send_error error)
        (λ e. let clash : Send_error error ≡ Blocked_send = e in cc) h)

    pub give-up-left : (environment : Environment) (result : SendResult) → GiveUp environment s p b s' result
        → LoansLeftStay old new
    give-up-left environment Blocked_send h = all-left (give_up_blocked_kept environment s p b s' Blocked_send refl h)
    give-up-left environment (Delivered_to count) h =
        ended-waiting (give_up_ends environment s p b s' (Delivered_to count)
        (λ e. let clash : Delivered_to count ≡ Blocked_send = e in cc) h)
    give-up-left environment (Send_error error) h =
        ended-waiting (give_up_ends environment s p b s' (Send_error error)
        (λ e. let clash : Send_error error ≡ Blocked_send = e in cc) h)

  pub publisher-close-numbers : (p : ℕ) (x : MachinePublisher) → s' ≡ publisher_closed s p x → NumbersLeftStay old new
  publisher-close-numbers p x is = numbers-stay (ap (λ (t : State T U). t.next_message) is)

  pub publisher-close-others : (publisher : Publisher) (x : MachinePublisher) → s' ≡ publisher_closed s publisher.id x
      → OthersLoansLeftStay publisher old new
  publisher-close-others publisher x is = λ other n away left.
      let was = lends-at old m s shown other n left in
      let all : LendsAll (publisher_closed s publisher.id x) other n = (
        closed_lends s publisher.id x other.id n away was.0,
        ((was.1).0, publisher_closed_others s publisher.id x other.id away ∙ (was.1).1, (was.1).2),
      ) in
      let there : LendsAll s' other n = subst (λ (t : State T U). LendsAll t other n) (sym is) all in
      lends-from new m' s' shown' other n there.0 there.1

  pub subscriber-close-left : (q : ℕ) (y : MachineSubscriber) → s' ≡ subscriber_closed s q y → LoansLeftStay old new
  subscriber-close-left q y is = all-left (subst (LoansKept s) (sym is) (subscriber_closed_kept s q y))

  pub set-left : (n : ℕ) (l : Option (Loan T U)) → s' ≡ with_loan s n l → LoansLeftStay old new
  set-left n l is = all-left (subst (LoansKept s) (sym is) (set_kept s n l))

  pub send-left : (environment : Environment) (n : ℕ) (l : Loan T U) → s.loans n ≡ Some l → (p : ℕ) → l.publisher ≡ p
      → (result : SendResult)
      → Send environment s n l s' result → LoansLeftStay old new
  send-left environment n l out p its Blocked_send h =
      all-left (send_blocked_kept environment s n l s' Blocked_send refl h)
  send-left environment n l out p its (Delivered_to count) h =
      ended-left n l out p its (send_ends environment s n l s' (Delivered_to count)
      (λ e. let clash : Delivered_to count ≡ Blocked_send = e in cc) h)
  send-left environment n l out p its (Send_error error) h =
      ended-left n l out p its (send_ends environment s n l s' (Send_error error)
      (λ e. let clash : Send_error error ≡ Blocked_send = e in cc) h)

  pub send-gives : (environment : Environment) (n : ℕ) (l : Loan T U) → s.loans n ≡ Some l → (p : ℕ) → l.publisher ≡ p
      → (result : SendResult) → (result ≡ Blocked_send → ⊥)
      → Send environment s n l s' result → HasOneMoreLeft p old new
  send-gives environment n l out p its result free h =
      ended-gives n l out p its (send_ends environment s n l s' result free h)

  pub send-to-left : (environment : Environment) (n : ℕ) (l : Loan T U) → s.loans n ≡ Some l → (p : ℕ) → l.publisher ≡ p
      → (channel place : ℕ) (result : SendResult)
      → SendToConnection environment s n l channel place s' result → LoansLeftStay old new
  send-to-left environment n l out p its channel place Blocked_send h =
      all-left (send_to_connection_blocked_kept environment s n l channel place s' Blocked_send h refl)
  send-to-left environment n l out p its channel place (Delivered_to count) h =
      ended-left n l out p its (send_to_connection_ends environment s n l channel place s' (Delivered_to count) h
      (λ e. let clash : Delivered_to count ≡ Blocked_send = e in cc))
  send-to-left environment n l out p its channel place (Send_error error) h =
      ended-left n l out p its (send_to_connection_ends environment s n l channel place s' (Send_error error) h
      (λ e. let clash : Send_error error ≡ Blocked_send = e in cc))

  pub send-to-gives : (environment : Environment) (n : ℕ) (l : Loan T U) → s.loans n ≡ Some l → (p : ℕ)
      → l.publisher ≡ p → (channel place : ℕ) (result : SendResult) → (result ≡ Blocked_send → ⊥)
      → SendToConnection environment s n l channel place s' result → HasOneMoreLeft p old new
  send-to-gives environment n l out p its channel place result free h =
      ended-gives n l out p its (send_to_connection_ends environment s n l channel place s' result h free)

  pub discard-left : (n : ℕ) (l : Loan T U) → s.loans n ≡ Some l → s' ≡ loan_discarded s n l → LoansLeftStay old new
  discard-left n l out is =
      ended-left n l out l.publisher refl (subst (LoanEnds l.publisher n s) (sym is) (discarded_ends s n l))

  pub discard-gives : (n : ℕ) (l : Loan T U) → s.loans n ≡ Some l → (p : ℕ) → l.publisher ≡ p
      → s' ≡ loan_discarded s n l → HasOneMoreLeft p old new
  discard-gives n l out p its is =
      ended-gives n l out p its (subst (LoanEnds l.publisher n s) (sym is) (discarded_ends s n l))

-- one that reached all receivers, or failed, isn't blocked
pub sent-free : (result : Result SendOutcome SendError) → IfOk result IsDelivered → result_of_send result ≡ Blocked_send
    → ⊥
sent-free (Ok (Delivered count)) ends e = let clash : Delivered_to count ≡ Blocked_send = e in cc
sent-free (Ok (Blocked blocked)) ends e = ends
sent-free (Err error) ends e = let clash : Send_error error ≡ Blocked_send = e in cc

first_number : (now n last : ℕ) → 1 ≡ now → n < last → now + n ≤ last
first_number now n last e h = omega arith

-- a new domain has numbers left
pub fresh-numbers : {T U F G : Type 0} (kept : Kept T U F G) (c : ServiceConfig) → Shows kept no_messages (fresh c)
    → (n : ℕ) → n < last_number → HasNumbersLeft kept n
fresh-numbers {T} {U} kept c shown n low = numbers-out kept n
    (first_number kept.next_message n last_number (ap (λ (t : State T U). t.next_message) shown.state) low)
