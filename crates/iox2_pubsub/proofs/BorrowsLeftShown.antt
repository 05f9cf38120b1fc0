-- What calls leave of the messages that subscribers may still borrow, seen from outside.
use Rattle.std.proofs.Common.{◌≡◌, ℕ, zero, suc, ◌+◌, ◌≤◌, ◌<◌, Bool, true, false, not, List, [], ◌∷◌, ◌++◌}
use Rattle.std.proofs.Common.{length, refl, sym, ap, subst, ◌∙◌, arith, le_refl, Option, None, Some, Result, Ok, Err}
use Rattle.std.proofs.Common.{inl, inr}
use Rattle.std.specs.Prelude.{◌≢◌, IfErr, IsOk, nat_lt}
use Rattle.std.specs.declared.time.Duration.{Duration}
use Rattle.std.proofs.lemmas.Bool.{true≢false, cases_eq, ne_eqb, ltb-false, ltb-true}
use Rattle.std.proofs.lemmas.List.{length-append, length-map}
use Rattle.iox2_machine.specs.machine.Numbers.{contains, is_nil, without, put_at}
use Rattle.iox2_machine.specs.machine.Mailbox.{Mailbox, BorrowsFirst, can_receive, has_data, is_borrowed, with_released}
use Rattle.iox2_machine.specs.machine.Loans.{loan_discarded}
use Rattle.iox2_machine.specs.machine.Ports.{CreatePublisher, CreateSubscriber, publisher_closed, subscriber_closed}
use Rattle.iox2_machine.specs.machine.PublisherUpdate.{UpdatePublisher}
use Rattle.iox2_machine.specs.machine.Records.{Environment, Loan, BlockedSend, Publisher as MachinePublisher}
use Rattle.iox2_machine.specs.machine.Records.{Subscriber as MachineSubscriber, PublisherSettings, SubscriberSettings}
use Rattle.iox2_machine.specs.machine.Receives.{Receive, ReceiveResult, Got_sample, No_sample, Receive_error}
use Rattle.iox2_machine.specs.machine.Receives.{TakeSample}
use Rattle.iox2_machine.specs.machine.Releases.{released, unborrowed}
use Rattle.iox2_machine.specs.machine.Sends.{Send, SendResult, SendToConnection, Retry, GiveUp}
use Rattle.iox2_machine.specs.machine.State.{State, Messages, connected_publishers, with_loan, with_mailbox}
use Rattle.iox2_machine.specs.machine.SubscriberUpdate.{UpdateSubscriber}
use Rattle.iox2_machine.specs.machine.WellFormed.{IsWellFormed}
use Rattle.iox2_machine.specs.declared.errors.ConnectionFailure.{ConnectionFailure}
use Rattle.iox2_machine.specs.declared.errors.LoanError.{LoanError}
use Rattle.iox2_machine.specs.declared.errors.PublisherCreateError.{PublisherCreateError}
use Rattle.iox2_machine.specs.declared.errors.SubscriberCreateError.{SubscriberCreateError}
use Rattle.iox2_machine.specs.declared.errors.ReceiveError.{ReceiveError}
use Rattle.iox2_machine.specs.declared.errors.ReceiveError.TheVariants.{ExceedsMaxBorrows}
use Rattle.iox2_machine.specs.declared.errors.ReceiveError.TheVariants.{ConnectionFailure as CouldNotConnect}
use Rattle.iox2_machine.specs.declared.service_config.ServiceConfig.{ServiceConfig}
use Rattle.iox2_laws.proofs.Cases.{by_option}
use Rattle.iox2_laws.proofs.LoanLaws.{grant_loan_advances}
use Rattle.iox2_laws.proofs.MailboxLemmas.{has_numbers-borrows, has_numbers-data}
use Rattle.iox2_laws.proofs.NumberLemmas.{length-without_le}
use Rattle.iox2_laws.proofs.PortsStay.{grant_loan_stays}
use Rattle.iox2_laws.proofs.Puts.{at_each, put_at-same, put_at-other}
use Rattle.iox2_laws.proofs.SubscriberUpdates.{update_subscriber_keeps}
use Rattle.iox2_laws.proofs.WaitingCounts.{sum_below, sum_same, sum_le, sum_zero, sum_one_less, sum_part}
use Rattle.iox2_laws.proofs.WaitingReceives.{passes_at}
use Rattle.iox2_domain.specs.Kept.{Kept, entries_of, state_of}
use Rattle.iox2_domain.specs.Lending.{LoanCall, loan_memory}
use Rattle.iox2_domain.specs.Shows.{Shows}
use Rattle.iox2_machine.specs.machine.Waiting.{waiting_from}
use Rattle.iox2_pubsub.specs.BorrowsLeft.{borrowed_by, CanBorrow, CanBorrowOf, HasBorrowsLeft, HasBorrowsLeftOf}
use Rattle.iox2_pubsub.specs.BorrowsLeft.{BorrowsLeftStay, HasOneMoreBorrowLeft, HasOneMoreBorrowLeftOf}
use Rattle.iox2_pubsub.specs.BorrowsLeft.{OthersBorrowsStay, TakesOneBorrow}
use Rattle.iox2_pubsub.specs.Live.{IsUpToDate, payloads_from}
use Rattle.iox2_pubsub.specs.Payloads.{payload_of}
use Rattle.iox2_pubsub.specs.ReceivedSamples.{OnNoSample, received_result}
use Rattle.iox2_pubsub.specs.declared.publisher.Publisher.{Publisher}
use Rattle.iox2_pubsub.specs.Sample.{Sample}
use Rattle.iox2_pubsub.specs.declared.subscriber.Subscriber.{Subscriber}
use Rattle.iox2_pubsub.proofs.BorrowsKept.{BorrowsKept, kept-itself, stays-kept, same-kept, publisher-update-kept}
use Rattle.iox2_pubsub.proofs.BorrowsKept.{subscriber-update-kept, publisher-creation-kept, subscriber-creation-kept}
use Rattle.iox2_pubsub.proofs.BorrowsKept.{send-kept, send-to-kept, retry-kept, give-up-kept, publisher-close-kept}
use Rattle.iox2_pubsub.proofs.BorrowsKept.{subscriber-close-kept, released-kept, released-ports, shorter-without}
use Rattle.iox2_pubsub.proofs.BorrowsOfEach.{at-limit, fails-at, not-refused-of, part, receive-borrows-of}
use Rattle.iox2_pubsub.proofs.KeptReceives.{updated-unfailed}
use Rattle.iox2_pubsub.proofs.PayloadLists.{length-all_below}
use Rattle.iox2_pubsub.proofs.UpToDateShown.{up-to-date-in}
use Rattle.iox2_pubsub.proofs.WaitingShown.{payloads-from-are}

-- a sum goes no further than its parts do
sum-ends : (f : ℕ → ℕ) (n k : ℕ) → n ≤ k → ((i : ℕ) → n ≤ i → f i ≡ 0) → sum_below f k ≡ sum_below f n
sum-ends f n zero low none = let is : 0 ≡ n = omega arith in ap (sum_below f) is
sum-ends f n (suc k) low none = elim (cases_eq n (suc k)) [
  | inl same ↦ ap (sum_below f) (sym same)
  | inr away ↦
      let before : sum_below f k ≡ sum_below f n = sum-ends f n k (omega arith) none in
      let last : f k ≡ 0 = none k (omega arith) in
      omega arith
]

-- where one part is less and none is more, so is the sum
sum-less : (f g : ℕ → ℕ) (k n : ℕ) → k < n → suc (f k) ≤ g k → ((p : ℕ) → f p ≤ g p)
    → suc (sum_below f n) ≤ sum_below g n
sum-less f g k zero low one each = absurd (omega arith)
sum-less f g k (suc n) low one each = elim (cases_eq n k) [
  | inl here ↦
      let before : sum_below f n ≤ sum_below g n = sum_le f g n each in
      let last : suc (f n) ≤ g n = subst (λ i. suc (f i) ≤ g i) (sym here) one in
      omega arith
  | inr away ↦
      let before : suc (sum_below f n) ≤ sum_below g n = sum-less f g k n (omega arith) one each in
      let last : f n ≤ g n = each n in
      omega arith
]

module _ {T U : Type 0} where
  -- how many messages q has borrowed in all
  abbrev count : State T U → (q : ℕ) → ℕ
  count s q = sum_below (part s q) s.next_port

  count-is : (s : State T U) (q : ℕ) → length (borrowed_by s q) ≡ count s q
  count-is s q = length-all_below (λ p. (s.mailboxes p q).borrowed) s.next_port

  -- nothing is borrowed of a publisher that was never made, nor by such a subscriber
  unknown-none : (s : State T U) → IsWellFormed s → (p q : ℕ) → ((p < s.next_port) × (q < s.next_port) → ⊥)
      → part s q p ≡ 0
  unknown-none s w p q unknown = at (s.mailboxes p q).borrowed refl where
    at : (ns : List ℕ) → (s.mailboxes p q).borrowed ≡ ns → length (s.mailboxes p q).borrowed ≡ 0
    at [] is = ap length is
    at (n ∷ ns) is = absurd
        (unknown ((w.mailboxes p q).known (has_numbers-borrows (s.mailboxes p q) (ap (λ xs. not (is_nil xs)) is))))

  -- what q has borrowed of p is a part of what it has borrowed
  pub one-of-all : (s : State T U) → IsWellFormed s → (p q : ℕ) → part s q p ≤ length (borrowed_by s q)
  one-of-all s w p q = by (nat_lt p s.next_port) refl where
    counted : length (borrowed_by s q) ≡ count s q
    counted = count-is s q

    by : (b : Bool) → nat_lt p s.next_port ≡ b → part s q p ≤ length (borrowed_by s q)
    by true e =
        let all : part s q p ≤ count s q = sum_part (part s q) p s.next_port (ltb-true _ _ e) in
        let same : length (borrowed_by s q) ≡ count s q = counted in
        omega (arith, all, same)
    by false e =
        let far : s.next_port ≤ p = ltb-false _ _ e in
        let none : part s q p ≡ 0 =
        unknown-none s w p q (λ known. let less : p < s.next_port = known.0 in omega (arith, far, less)) in
        omega (arith, none)

  -- as much is borrowed where each has borrowed as much
  pub count-stays : (s s' : State T U) → IsWellFormed s → s.next_port ≤ s'.next_port → (q : ℕ)
      → ((p : ℕ) → part s' q p ≡ part s q p) → count s' q ≡ count s q
  count-stays s s' w ports q same =
      sum_same (part s' q) (part s q) s'.next_port (λ p _. same p)
      ∙ sum-ends (part s q) s.next_port s'.next_port ports
      (λ i low. unknown-none s w i q (λ known. let less : i < s.next_port = known.0 in omega arith))

  pub kept-count : (s s' : State T U) → IsWellFormed s → BorrowsKept s s' → (q : ℕ) → count s' q ≡ count s q
  kept-count s s' w kept q = count-stays s s' w kept.ports q (λ p. ap length (kept.borrowed p q))

module _ {T U : Type 0} (environment : Environment) (s : State T U) (w : IsWellFormed s) (q : ℕ) where
  updated-count : (t : State T U) (failure : Option ConnectionFailure) → UpdateSubscriber environment s q t failure
      → (i : ℕ) → count t i ≡ count s i
  updated-count t failure h = kept-count s t w (subscriber-update-kept environment s q t failure h)

  updated-config : (t : State T U) (failure : Option ConnectionFailure) → UpdateSubscriber environment s q t failure
      → t.config ≡ s.config
  updated-config t failure h = (subscriber-update-kept environment s q t failure h).config

  -- a message that is taken is one more
  taken-own : (t : State T U) → IsWellFormed t → (p n : ℕ) (box : Mailbox) → BorrowsFirst (t.mailboxes p q) n box
      → count (with_mailbox t p q box) q ≡ suc (count t q)
  taken-own t wt p n box b =
      sym (sum_one_less (part t q) (part (with_mailbox t p q box) q) p t.next_port known one others)
    where
      known : p < t.next_port
      known = ((wt.mailboxes p q).known (has_numbers-data (t.mailboxes p q) (ap (λ ns. not (is_nil ns)) b.1))).0

      this : (with_mailbox t p q box).mailboxes p q ≡ box
      this = ap (λ (row : ℕ → Mailbox). row q) (put_at-same t.mailboxes p (put_at (t.mailboxes p) q box))
          ∙ put_at-same (t.mailboxes p) q box

      one : suc (part t q p) ≡ part (with_mailbox t p q box) q p
      one =
          let now : part (with_mailbox t p q box) q p ≡ length ((t.mailboxes p q).borrowed ++ n ∷ []) =
          ap (λ (m : Mailbox). length m.borrowed) (this ∙ b.2) in
          let longer : length ((t.mailboxes p q).borrowed ++ n ∷ []) ≡ part t q p + 1 =
          length-append (t.mailboxes p q).borrowed (n ∷ []) in
          omega arith

      others : (i : ℕ) → (i ≡ p → ⊥) → part t q i ≡ part (with_mailbox t p q box) q i
      others i away = ap (λ (row : ℕ → Mailbox). length (row q).borrowed)
          (sym (put_at-other t.mailboxes p (put_at (t.mailboxes p) q box) i (ne_eqb i p away)))

  -- and none more of others
  taken-others : (t : State T U) (p : ℕ) (box : Mailbox) (j : ℕ) → j ≢ q → count (with_mailbox t p q box) j ≡ count t j
  taken-others t p box j away = sum_same (part (with_mailbox t p q box) j) (part t j) t.next_port (λ i _.
      at_each t.mailboxes p (put_at (t.mailboxes p) q box) (λ i row. length (row j).borrowed ≡ part t j i) i
      (λ _. ap (λ (m : Mailbox). length m.borrowed) (put_at-other (t.mailboxes p) q box j (ne_eqb j q away)))
      (λ _. refl))

  -- A receive that gives nothing borrows nothing.
  none-borrowed : (s' : State T U) → Receive environment s q s' No_sample → BorrowsKept s s'
  none-borrowed s' h =
      by_option (BorrowsKept s s') h.1 _ _ h.3
      (λ _ k. by_option (BorrowsKept s s') ((h.0).subscribers q) _ _ k (λ _ v. absurd v)
      (λ _ _ k. subst (BorrowsKept s) (sym k.1) (subscriber-update-kept environment s q h.0 h.1 h.2)))
      (λ e _ k. let clash : No_sample ≡ Receive_error _ = k.1 in absurd cc)

  failed-borrowed : (s' : State T U) (e : ReceiveError) → Receive environment s q s' (Receive_error e)
      → BorrowsKept s s'
  failed-borrowed s' e h =
      by_option (BorrowsKept s s') h.1 _ _ h.3
      (λ _ k. by_option (BorrowsKept s s') ((h.0).subscribers q) _ _ k (λ _ v. absurd v)
      (λ _ _ k. subst (BorrowsKept s) (sym k.3) (subscriber-update-kept environment s q h.0 h.1 h.2)))
      (λ _ _ k. subst (BorrowsKept s) (sym k.0) (subscriber-update-kept environment s q h.0 h.1 h.2))

  -- A receive borrows at most one message more, and for nobody else.
  pub record BorrowsOne (s' : State T U) : Type 0 where
    pub config : s'.config ≡ s.config
    pub own : count s' q ≤ suc (count s q)
    pub others : (j : ℕ) → j ≢ q → count s' j ≡ count s j

  pub receive-borrows : (s' : State T U) (result : ReceiveResult) → Receive environment s q s' result → BorrowsOne s'
  receive-borrows s' result h =
      let config = updated-config h.0 h.1 h.2 in
      let same = updated-count h.0 h.1 h.2 in
      by_option (BorrowsOne s') h.1 _ _ h.3
      (λ _ k. by_option (BorrowsOne s') ((h.0).subscribers q) _ _ k (λ _ v. absurd v)
      (λ y _ k. taken h.0 (update_subscriber_keeps environment s q h.0 h.1 w h.2) config same y result k))
      (λ e _ k. subst BorrowsOne (sym k.0) (first h.0 config same))
    where
      first : (t : State T U) → t.config ≡ s.config → ((i : ℕ) → count t i ≡ count s i) → BorrowsOne t
      first t config same = record {
        config = config;
        own = let is : count t q ≡ count s q = same q in
            omega (arith, is);
        others = λ j _. same j;
      }

      taken : (t : State T U) → IsWellFormed t → t.config ≡ s.config → ((i : ℕ) → count t i ≡ count s i)
          → (y : MachineSubscriber) (r : ReceiveResult) → TakeSample t q y s' r → BorrowsOne s'
      taken t wt config same y (Got_sample p n) k = subst BorrowsOne (sym k.3) (record {
        config = config;
        own = let one : count (with_mailbox t p q k.1) q ≡ suc (count t q) = taken-own t wt p n k.1 k.2 in
            let is : count t q ≡ count s q = same q in omega (arith, one, is);
        others = λ j away. taken-others t p k.1 j away ∙ same j;
      })
      taken t wt config same y No_sample k = subst BorrowsOne (sym k.1) (first t config same)
      taken t wt config same y (Receive_error e) k = subst BorrowsOne (sym k.3) (first t config same)

  -- Where q may borrow one more, the limit refuses it none.
  pub not-exceeded : (n : ℕ) → CanBorrow s q (n + 1) → (s' : State T U) (e : ReceiveError)
      → Receive environment s q s' (Receive_error e) → e ≢ ExceedsMaxBorrows
  not-exceeded n can s' e h is =
      by_option ⊥ h.1 _ _ h.3
      (λ _ k. by_option ⊥ ((h.0).subscribers q) _ _ k (λ _ v. absurd v) (λ y _ k.
      let some = passes_at (λ p. has_data ((h.0).mailboxes p q)) (connected_publishers y) k.1 in
      let limit : ℕ = ((h.0).config).subscriber_max_borrowed_samples in
      let no = fails-at (λ p. can_receive limit ((h.0).mailboxes p q)) (connected_publishers y) some.0 k.2 some.2 in
      let full : limit ≤ part h.0 q some.0 = at-limit limit ((h.0).mailboxes some.0 q) some.1 no in
      let known : some.0 < (h.0).next_port =
      (((update_subscriber_keeps environment s q h.0 h.1 w h.2).mailboxes some.0 q).known
      (has_numbers-data ((h.0).mailboxes some.0 q) some.1)).0 in
      let all : part h.0 q some.0 ≤ count h.0 q = sum_part (part h.0 q) some.0 (h.0).next_port known in
      let same : count h.0 q ≡ count s q = updated-count h.0 h.1 h.2 q in
      let most : limit ≡ (s.config).subscriber_max_borrowed_samples =
      ap (λ (c : ServiceConfig). c.subscriber_max_borrowed_samples) (updated-config h.0 h.1 h.2) in
      let counted : length (borrowed_by s q) ≡ count s q = count-is s q in
      absurd (omega (arith, full, all, same, most, counted, can))))
      (λ f _ k. let clash : Receive_error ExceedsMaxBorrows ≡ Receive_error (CouldNotConnect f) = ap Receive_error
      (sym is) ∙ k.1 in absurd cc)

-- ---- a release

module _ {T U : Type 0} (s : State T U) (w : IsWellFormed s) (p q n : ℕ)
    (there : is_borrowed n (s.mailboxes p q) ≡ true) where
  -- what q has borrowed of i after it
  left-of : (i j : ℕ) → part (released s p q n) j i ≡ part (unborrowed s p q n) j i
  left-of i j = ap length ((released-kept s p q n).borrowed i j)

  known : p < s.next_port
  known = ((w.mailboxes p q).known (has_numbers-borrows (s.mailboxes p q) (some (s.mailboxes p q).borrowed there))).0
    where
      some : (ns : List ℕ) → contains ns n ≡ true → not (is_nil ns) ≡ true
      some [] at = absurd (true≢false (sym at))
      some (k ∷ ns) at = refl

  this : (unborrowed s p q n).mailboxes p q ≡ with_released n (s.mailboxes p q)
  this = ap (λ (row : ℕ → Mailbox). row q)
      (put_at-same s.mailboxes p (put_at (s.mailboxes p) q (with_released n (s.mailboxes p q))))
      ∙ put_at-same (s.mailboxes p) q (with_released n (s.mailboxes p q))

  each : (i j : ℕ) → part (unborrowed s p q n) j i ≤ part s j i
  each i j =
      at_each s.mailboxes p (put_at (s.mailboxes p) q (with_released n (s.mailboxes p q)))
      (λ i row. length (row j).borrowed ≤ part s j i) i
      (λ _. at_each (s.mailboxes p) q (with_released n (s.mailboxes p q)) (λ j box. length box.borrowed ≤ part s j p) j
      (λ _. length-without_le n (s.mailboxes p q).borrowed) (λ _. le_refl (part s j p)))
      (λ _. le_refl (part s j i))

  -- nobody has borrowed more of any publisher
  pub released-none-more : (i j : ℕ) → part (released s p q n) j i ≤ part s j i
  released-none-more i j = let is = left-of i j in let low = each i j in omega (arith, is, low)

  -- and q one message less of this one
  pub released-less-of : suc (part (released s p q n) q p) ≤ part s q p
  released-less-of =
      let is = left-of p q in
      let now : part (unborrowed s p q n) q p ≡ length (without n (s.mailboxes p q).borrowed) =
      ap (λ (box : Mailbox). length box.borrowed) this in
      let fewer : length (without n (s.mailboxes p q).borrowed) < part s q p =
      shorter-without n (s.mailboxes p q).borrowed there in
      omega (arith, is, now, fewer)

  -- nobody has borrowed more
  pub released-no-more : (j : ℕ) → count (released s p q n) j ≤ count s j
  released-no-more j =
      let ports : count (released s p q n) j ≡ sum_below (part (released s p q n) j) s.next_port =
      ap (sum_below (part (released s p q n) j)) (released-ports s p q n) in
      let less : sum_below (part (released s p q n) j) s.next_port ≤ count s j =
      sum_le (part (released s p q n) j) (part s j) s.next_port (λ i. released-none-more i j) in
      omega (arith, ports, less)

  -- and q one message less
  pub released-one-less : suc (count (released s p q n) q) ≤ count s q
  released-one-less =
      let ports : count (released s p q n) q ≡ sum_below (part (released s p q n) q) s.next_port =
      ap (sum_below (part (released s p q n) q)) (released-ports s p q n) in
      let less : suc (sum_below (part (released s p q n) q) s.next_port) ≤ count s q =
      sum-less (part (released s p q n) q) (part s q) p s.next_port known released-less-of
      (λ i. released-none-more i q) in
      omega (arith, ports, less)

-- ---- seen from outside

module _ {T U F G : Type 0} (kept : Kept T U F G) (m : Messages T U) (s : State T U) (shown : Shows kept m s)
    (subscriber : Subscriber) (n : ℕ) where
  pub borrows-in : HasBorrowsLeft kept subscriber n → CanBorrow s subscriber.id n
  unfolding HasBorrowsLeft
  borrows-in has = subst (λ (t : State T U). CanBorrow t subscriber.id n) (sym shown.state) has

  pub borrows-out : CanBorrow s subscriber.id n → HasBorrowsLeft kept subscriber n
  unfolding HasBorrowsLeft
  borrows-out can = subst (λ (t : State T U). CanBorrow t subscriber.id n) shown.state can

  module _ (p : ℕ) where
    borrows-of-in : HasBorrowsLeftOf kept p subscriber n → CanBorrowOf s p subscriber.id n
    unfolding HasBorrowsLeftOf
    borrows-of-in has = subst (λ (t : State T U). CanBorrowOf t p subscriber.id n) (sym shown.state) has

    borrows-of-out : CanBorrowOf s p subscriber.id n → HasBorrowsLeftOf kept p subscriber n
    unfolding HasBorrowsLeftOf
    borrows-of-out can = subst (λ (t : State T U). CanBorrowOf t p subscriber.id n) shown.state can

module _ {T U F G : Type 0} (old new : Kept T U F G) (m m' : Messages T U) (s s' : State T U) (shown : Shows old m s)
    (shown' : Shows new m' s') where
  -- so many fewer are left as are borrowed more
  fewer : (subscriber : Subscriber) (more n : ℕ) → s'.config ≡ s.config
      → count s' subscriber.id ≤ count s subscriber.id + more → HasBorrowsLeft old subscriber (n + more)
      → HasBorrowsLeft new subscriber n
  fewer subscriber more n config least has =
      let can : length (borrowed_by s subscriber.id) + (n + more) ≤ (s.config).subscriber_max_borrowed_samples =
      borrows-in old m s shown subscriber (n + more) has in
      let limit : (s'.config).subscriber_max_borrowed_samples ≡ (s.config).subscriber_max_borrowed_samples =
      ap (λ (c : ServiceConfig). c.subscriber_max_borrowed_samples) config in
      let before : length (borrowed_by s subscriber.id) ≡ count s subscriber.id = count-is s subscriber.id in
      let now : length (borrowed_by s' subscriber.id) ≡ count s' subscriber.id = count-is s' subscriber.id in
      borrows-out new m' s' shown' subscriber n (omega (arith, can, limit, before, now, least))

  fewer-of : (p : ℕ) (subscriber : Subscriber) (more n : ℕ) → s'.config ≡ s.config
      → part s' subscriber.id p ≤ part s subscriber.id p + more → HasBorrowsLeftOf old p subscriber (n + more)
      → HasBorrowsLeftOf new p subscriber n
  fewer-of p subscriber more n config least has =
      let can : part s subscriber.id p + (n + more) ≤ (s.config).subscriber_max_borrowed_samples =
      borrows-of-in old m s shown subscriber (n + more) p has in
      let limit : (s'.config).subscriber_max_borrowed_samples ≡ (s.config).subscriber_max_borrowed_samples =
      ap (λ (c : ServiceConfig). c.subscriber_max_borrowed_samples) config in
      borrows-of-out new m' s' shown' subscriber n p (omega (arith, can, limit, least))

  no-fewer-of : (p : ℕ) (subscriber : Subscriber) (n : ℕ) → s'.config ≡ s.config
      → part s' subscriber.id p ≤ part s subscriber.id p → HasBorrowsLeftOf old p subscriber n
      → HasBorrowsLeftOf new p subscriber n
  no-fewer-of p subscriber n config least has =
      let plus : n ≡ n + 0 = omega arith in
      fewer-of p subscriber 0 n config (omega (arith, least))
      (subst (λ k. HasBorrowsLeftOf old p subscriber k) plus has)

  same-left : (subscriber : Subscriber) (n : ℕ) → s'.config ≡ s.config → count s' subscriber.id ≡ count s subscriber.id
      → HasBorrowsLeft old subscriber n → HasBorrowsLeft new subscriber n
  same-left subscriber n config same has =
      let plus : n ≡ n + 0 = omega arith in
      fewer subscriber 0 n config (omega (arith, same)) (subst (λ k. HasBorrowsLeft old subscriber k) plus has)

  -- a call after which the same is borrowed
  pub borrows-stay : BorrowsKept s s' → BorrowsLeftStay old new
  borrows-stay kept = record {
    all = λ subscriber n has.
        same-left subscriber n kept.config (kept-count s s' shown.well_formed kept subscriber.id) has;
    of_each = λ p subscriber n has.
        let same : part s' subscriber.id p ≡ part s subscriber.id p = ap length (kept.borrowed p subscriber.id) in
        no-fewer-of p subscriber n kept.config (omega (arith, same)) has;
  }

  pub update-publisher-borrows : (environment : Environment) (p : ℕ) (failure : Option ConnectionFailure)
      → UpdatePublisher environment s p s' failure → BorrowsLeftStay old new
  update-publisher-borrows environment p failure h = borrows-stay (publisher-update-kept environment s p s' failure h)

  pub update-subscriber-borrows : (environment : Environment) (q : ℕ) (failure : Option ConnectionFailure)
      → UpdateSubscriber environment s q s' failure → BorrowsLeftStay old new
  update-subscriber-borrows environment q failure h = borrows-stay (subscriber-update-kept environment s q s' failure h)

  pub publisher-creation-borrows : (environment : Environment) (given : PublisherSettings)
      (refusal : Option PublisherCreateError) → CreatePublisher environment s given s' refusal → BorrowsLeftStay old new
  publisher-creation-borrows environment given refusal h =
      borrows-stay (publisher-creation-kept environment s given s' refusal h)

  pub subscriber-creation-borrows : (environment : Environment) (given : SubscriberSettings)
      (refusal : Option SubscriberCreateError) → CreateSubscriber environment s given s' refusal
      → BorrowsLeftStay old new
  subscriber-creation-borrows environment given refusal h =
      borrows-stay (subscriber-creation-kept environment s given s' refusal h)

  -- the subscriber that is made has all of its limit left
  pub created-borrows : (environment : Environment) (given : SubscriberSettings)
      → CreateSubscriber environment s given s' None → (subscriber : Subscriber) → subscriber.id ≡ s.next_port
      → HasBorrowsLeft new subscriber (old.config).subscriber_max_borrowed_samples
  created-borrows environment given h subscriber its =
      let kept : BorrowsKept s s' = subscriber-creation-kept environment s given s' None h in
      let none : count s' subscriber.id ≡ 0 = kept-count s s' shown.well_formed kept subscriber.id
      ∙ sum_zero (part s subscriber.id) s.next_port
      (λ p. unknown-none s shown.well_formed p subscriber.id
      (λ known. let low : subscriber.id < s.next_port = known.1 in omega (arith, low, its))) in
      let now : length (borrowed_by s' subscriber.id) ≡ count s' subscriber.id = count-is s' subscriber.id in
      let limit : (s'.config).subscriber_max_borrowed_samples ≡ (old.config).subscriber_max_borrowed_samples =
      ap (λ (c : ServiceConfig). c.subscriber_max_borrowed_samples)
      (kept.config ∙ ap (λ (t : State T U). t.config) shown.state) in
      borrows-out new m' s' shown' subscriber (old.config).subscriber_max_borrowed_samples
      (omega (arith, none, now, limit))

  -- nothing of a publisher is borrowed that is made
  pub created-unborrowed : (environment : Environment) (given : PublisherSettings)
      → CreatePublisher environment s given s' None → (publisher : ℕ) → publisher ≡ s.next_port
      → (subscriber : Subscriber)
      → HasBorrowsLeftOf new publisher subscriber (old.config).subscriber_max_borrowed_samples
  created-unborrowed environment given h publisher its subscriber =
      let kept : BorrowsKept s s' = publisher-creation-kept environment s given s' None h in
      let same : part s' subscriber.id publisher ≡ part s subscriber.id publisher =
      ap length (kept.borrowed publisher subscriber.id) in
      let none : part s subscriber.id publisher ≡ 0 =
      unknown-none s shown.well_formed publisher subscriber.id
      (λ known. let low : publisher < s.next_port = known.0 in omega (arith, low, its)) in
      let limit : (s'.config).subscriber_max_borrowed_samples ≡ (old.config).subscriber_max_borrowed_samples =
      ap (λ (c : ServiceConfig). c.subscriber_max_borrowed_samples)
      (kept.config ∙ ap (λ (t : State T U). t.config) shown.state) in
      borrows-of-out new m' s' shown' subscriber (old.config).subscriber_max_borrowed_samples publisher
      (omega (arith, same, none, limit))

  -- a call that changes no mailbox
  pub unchanged-borrows : s'.config ≡ s.config → s'.next_port ≡ s.next_port → s'.mailboxes ≡ s.mailboxes
      → BorrowsLeftStay old new
  unchanged-borrows config ports boxes = borrows-stay (same-kept s s' config ports boxes)

  pub loan-borrows : {A : Type 0} (is_default : U → Type 0) (checks : Bool) (len : ℕ) (publisher : Publisher)
      (answer : Result A LoanError) → LoanCall is_default checks len s publisher.id answer s' → BorrowsLeftStay old new
  loan-borrows is_default checks len publisher (Ok a) h = borrows-stay
      (stays-kept s s' (grant_loan_stays (loan_memory s publisher.id) h.0 checks len s publisher.id s' None h.2)
      (grant_loan_advances (loan_memory s publisher.id) h.0 checks len s publisher.id s' None h.2).next_port)
  loan-borrows is_default checks len publisher (Err e) h =
      borrows-stay (subst (BorrowsKept s) (sym h.0) (kept-itself s))

  pub set-borrows : (n : ℕ) (l : Option (Loan T U)) → s' ≡ with_loan s n l → BorrowsLeftStay old new
  set-borrows n l is = borrows-stay (subst (BorrowsKept s) (sym is) (same-kept s (with_loan s n l) refl refl refl))

  pub discard-borrows : (n : ℕ) (l : Loan T U) → s' ≡ loan_discarded s n l → BorrowsLeftStay old new
  discard-borrows n l is =
      borrows-stay (subst (BorrowsKept s) (sym is) (same-kept s (loan_discarded s n l) refl refl refl))

  pub send-borrows : (environment : Environment) (n : ℕ) (l : Loan T U) (result : SendResult)
      → Send environment s n l s' result → BorrowsLeftStay old new
  send-borrows environment n l result h = borrows-stay (send-kept environment s n l s' result h)

  pub send-to-borrows : (environment : Environment) (n : ℕ) (l : Loan T U) (channel place : ℕ) (result : SendResult)
      → SendToConnection environment s n l channel place s' result → BorrowsLeftStay old new
  send-to-borrows environment n l channel place result h =
      borrows-stay (send-to-kept environment s n l channel place s' result h)

  pub retry-borrows : (environment : Environment) (p : ℕ) (b : BlockedSend) (elapsed : Duration) (result : SendResult)
      → Retry environment s p b elapsed s' result → BorrowsLeftStay old new
  retry-borrows environment p b elapsed result h = borrows-stay (retry-kept environment s p b elapsed s' result h)

  pub give-up-borrows : (environment : Environment) (p : ℕ) (b : BlockedSend) (result : SendResult)
      → GiveUp environment s p b s' result → BorrowsLeftStay old new
  give-up-borrows environment p b result h = borrows-stay (give-up-kept environment s p b s' result h)

  pub publisher-close-borrows : (p : ℕ) (x : MachinePublisher) → s' ≡ publisher_closed s p x → BorrowsLeftStay old new
  publisher-close-borrows p x is = borrows-stay (subst (BorrowsKept s) (sym is) (publisher-close-kept s p x))

  pub subscriber-close-borrows : (q : ℕ) (y : MachineSubscriber) → s' ≡ subscriber_closed s q y
      → BorrowsLeftStay old new
  subscriber-close-borrows q y is = borrows-stay (subst (BorrowsKept s) (sym is) (subscriber-close-kept s q y))

  -- a release
  module _ (p q n : ℕ) (there : is_borrowed n (s.mailboxes p q) ≡ true) (is : s' ≡ released s p q n) where
    config-stays : s'.config ≡ s.config
    config-stays = ap (λ (t : State T U). t.config) is ∙ (released-kept s p q n).config

    pub release-borrows : BorrowsLeftStay old new
    release-borrows = record {
      all = λ subscriber more has.
          let plus : more ≡ more + 0 = omega arith in
          let same : count s' subscriber.id ≡ count (released s p q n) subscriber.id =
          ap (λ (t : State T U). count t subscriber.id) is in
          let least : count (released s p q n) subscriber.id ≤ count s subscriber.id =
          released-no-more s shown.well_formed p q n there subscriber.id in
          fewer subscriber 0 more config-stays (omega (arith, same, least))
          (subst (λ k. HasBorrowsLeft old subscriber k) plus has);
      of_each = λ i subscriber more has.
          let same : part s' subscriber.id i ≡ part (released s p q n) subscriber.id i =
          ap (λ (t : State T U). part t subscriber.id i) is in
          let least : part (released s p q n) subscriber.id i ≤ part s subscriber.id i =
          released-none-more s shown.well_formed p q n there i subscriber.id in
          no-fewer-of i subscriber more config-stays (omega (arith, same, least)) has;
    }

    -- of its publisher one more is left
    pub release-gives-of : HasOneMoreBorrowLeftOf p q old new
    release-gives-of = λ subscriber more its has.
        let can : part s subscriber.id p + more ≤ (s.config).subscriber_max_borrowed_samples =
        borrows-of-in old m s shown subscriber more p has in
        let limit : (s'.config).subscriber_max_borrowed_samples ≡ (s.config).subscriber_max_borrowed_samples =
        ap (λ (c : ServiceConfig). c.subscriber_max_borrowed_samples) config-stays in
        let before : part s subscriber.id p ≡ part s q p = ap (λ (j : ℕ). part s j p) its in
        let now : part s' subscriber.id p ≡ part (released s p q n) q p =
        ap (λ (t : State T U). part t subscriber.id p) is ∙ ap (λ (j : ℕ). part (released s p q n) j p) its in
        let least : suc (part (released s p q n) q p) ≤ part s q p =
        released-less-of s shown.well_formed p q n there in
        borrows-of-out new m' s' shown' subscriber (more + 1) p (omega (arith, can, limit, before, now, least))

    pub release-gives : HasOneMoreBorrowLeft q old new
    release-gives = λ subscriber more its has.
        let can : length (borrowed_by s subscriber.id) + more ≤ (s.config).subscriber_max_borrowed_samples =
        borrows-in old m s shown subscriber more has in
        let limit : (s'.config).subscriber_max_borrowed_samples ≡ (s.config).subscriber_max_borrowed_samples =
        ap (λ (c : ServiceConfig). c.subscriber_max_borrowed_samples) config-stays in
        let before : length (borrowed_by s subscriber.id) ≡ count s q = count-is s subscriber.id ∙ ap (count s) its in
        let now : length (borrowed_by s' subscriber.id) ≡ count (released s p q n) q =
        count-is s' subscriber.id ∙ ap (λ (t : State T U). count t subscriber.id) is
        ∙ ap (count (released s p q n)) its in
        let least : suc (count (released s p q n) q) ≤ count s q = released-one-less s shown.well_formed p q n there in
        borrows-out new m' s' shown' subscriber (more + 1) (omega (arith, can, limit, before, now, least))

  module _ (environment : Environment) (receiver : Subscriber) where
    -- a receive
    pub receive-takes : (result : ReceiveResult) → Receive environment s receiver.id s' result
        → TakesOneBorrow receiver old new
    receive-takes result h =
        let takes = receive-borrows environment s shown.well_formed receiver.id s' result h in
        let each = receive-borrows-of environment s receiver.id s' result h in
        record {
          own = λ n has. fewer receiver 1 n takes.config
              (let more : count s' receiver.id ≤ suc (count s receiver.id) = takes.own in omega (arith, more)) has;
          others = λ other n away has. same-left other n takes.config (takes.others other.id away) has;
          own_of_each = λ p n has. fewer-of p receiver 1 n takes.config
              (let more : part s' receiver.id p ≤ suc (part s receiver.id p) = each.own p in omega (arith, more)) has;
          others_of_each = λ p other n away has.
              let same : part s' other.id p ≡ part s other.id p = each.others p other.id away in
              no-fewer-of p other n takes.config (omega (arith, same)) has;
        }

    -- and none of others than its publisher
    pub receive-leaves-of : (origin n : ℕ) → Receive environment s receiver.id s' (Got_sample origin n)
        → OthersBorrowsStay origin receiver old new
    receive-leaves-of origin n h = λ other more away has.
        let takes = receive-borrows environment s shown.well_formed receiver.id s' (Got_sample origin n) h in
        let each = receive-borrows-of environment s receiver.id s' (Got_sample origin n) h in
        let same : part s' receiver.id other ≡ part s receiver.id other = each.away origin n refl other away in
        no-fewer-of other receiver more takes.config (omega (arith, same)) has

    -- leaves what was borrowed where it gives nothing
    pub receive-borrows-none : (result : Result (Option Sample) ReceiveError)
        → Receive environment s receiver.id s' (received_result result) → OnNoSample result (BorrowsLeftStay old new)
    receive-borrows-none (Ok None) h = borrows-stay (none-borrowed environment s shown.well_formed receiver.id s' h)
    receive-borrows-none (Ok (Some it)) h = tt
    receive-borrows-none (Err e) h = borrows-stay (failed-borrowed environment s shown.well_formed receiver.id s' e h)

    -- is refused by the limit where none is left alone
    pub receive-unlimited : (n : ℕ) → HasBorrowsLeft old receiver (n + 1)
        → (result : Result (Option Sample) ReceiveError) → Receive environment s receiver.id s' (received_result result)
        → IfErr result (λ error. error ≢ ExceedsMaxBorrows)
    receive-unlimited n has (Ok sample) h = tt
    receive-unlimited n has (Err e) h = not-exceeded environment s shown.well_formed receiver.id n
        (borrows-in old m s shown receiver (n + 1) has) s' e h

    -- so by nothing where there is nothing to update
    pub receive-granted : (n : ℕ) → IsUpToDate old receiver → HasBorrowsLeft old receiver (n + 1)
        → (result : Result (Option Sample) ReceiveError) → Receive environment s receiver.id s' (received_result result)
        → IsOk result
    receive-granted n updated has (Ok sample) h = refl
    receive-granted n updated has (Err e) h =
        let exceeds =
        updated-unfailed environment s receiver.id (up-to-date-in old m s shown receiver updated) s' e h in
        absurd (not-exceeded environment s shown.well_formed receiver.id n
        (borrows-in old m s shown receiver (n + 1) has) s' e h exceeds)

    -- nor where some are left of a publisher of which a message waits
    pub receive-granted-of : (publisher n : ℕ) → IsUpToDate old receiver
        → HasBorrowsLeftOf old publisher receiver (n + 1) → 0 < length (payloads_from old publisher receiver)
        → (result : Result (Option Sample) ReceiveError) → Receive environment s receiver.id s' (received_result result)
        → IsOk result
    receive-granted-of publisher n updated has some (Ok sample) h = refl
    receive-granted-of publisher n updated has some (Err e) h =
        let waits : length (payloads_from old publisher receiver) ≡ length (waiting_from s publisher receiver.id) =
        ap length (payloads-from-are old publisher receiver)
        ∙ length-map (waiting_from (state_of old) publisher receiver.id) (payload_of (entries_of old))
        ∙ ap (λ (t : State T U). length (waiting_from t publisher receiver.id)) (sym shown.state) in
        absurd (not-refused-of environment s receiver.id publisher n (up-to-date-in old m s shown receiver updated)
        (borrows-of-in old m s shown receiver (n + 1) publisher has) (omega (arith, some, waits)) s' e h)
