-- What is in a run's mailboxes and histories was sent in that run, and what is borrowed stays so.
use Rattle.std.proofs.Common.{◌≡◌, ℕ, Bool, true, List, [], ◌∷◌, ◌++◌, sym, subst, ◌∙◌, Option, ⊎_elim, ap}
use Rattle.std.specs.declared.time.Duration.{Duration}
use Rattle.iox2_machine.specs.machine.Numbers.{contains, last_n}
use Rattle.iox2_machine.specs.machine.Mailbox.{Mailbox, numbers_in, is_borrowed, with_waiting, waiting_dropped}
use Rattle.iox2_machine.specs.machine.Mailbox.{BorrowsFirst, with_appended, other_numbers}
use Rattle.iox2_machine.specs.machine.Records.{Handler, Environment, BlockedSend}
use Rattle.iox2_machine.specs.machine.Delivery.{DeliveryEnd, Suspended, Deliver}
use Rattle.iox2_machine.specs.machine.Connections.{ForEachPlace}
use Rattle.iox2_machine.specs.machine.PublisherUpdate.{SenderSide, UpdateSenderPlace}
use Rattle.iox2_machine.specs.machine.SubscriberUpdate.{ReceiverSide, UpdateReceiverSide}
use Rattle.iox2_machine.specs.declared.service_config.ServiceConfig.{ServiceConfig}
use Rattle.iox2_machine.specs.declared.backpressure.BackpressureStrategy.{BackpressureStrategy}
use Rattle.iox2_machine.specs.declared.backpressure.BackpressureAction.{BackpressureAction}
use Rattle.iox2_machine.specs.declared.degradation.DegradationAction.{DegradationAction}
use Rattle.iox2_machine.specs.declared.errors.ConnectionFailure.{ConnectionFailure}
use Rattle.iox2_laws.proofs.NumberLemmas.{contains_in_append, contains_left, contains_right, contains_in_last_n}
use Rattle.iox2_laws.proofs.MailboxLemmas.{contains_in_dropped, contains_in_appended, contains_in_borrowed}
use Rattle.iox2_laws.proofs.MailboxLemmas.{borrowed-appended}
use Rattle.iox2_laws.proofs.MailboxWalks.{sender_side_keeps, receiver_side_keeps, deliver_keeps}

-- ---- one mailbox

-- The new mailbox has such numbers alone, and what was borrowed in the old one is borrowed in it.
abbrev pub IsGood : (Ok : ℕ → Type 0) → (old new : Mailbox) → Type 0
IsGood Ok old new = ((k : ℕ) → contains (numbers_in new) k ≡ true → Ok k)
    × ((k : ℕ) → is_borrowed k old ≡ true → is_borrowed k new ≡ true)

module _ (Ok : ℕ → Type 0) (old new : Mailbox) (good : IsGood Ok old new) where
  -- what waits is lost
  pub good_dropped : IsGood Ok old (waiting_dropped new)
  good_dropped = (λ k h. good.0 k (contains_in_dropped new k h), good.1)

  -- a number comes in
  pub good_appended : (channel buffer n : ℕ) → Ok n → IsGood Ok old (with_appended channel buffer n new)
  good_appended channel buffer n ok = (
    λ k h. ⊎_elim (λ e. subst Ok (sym e) ok) (λ there. good.0 k there) (contains_in_appended channel buffer n new k h),
    λ k h. ap (λ ns. contains ns k) (borrowed-appended channel buffer n new) ∙ good.1 k h,
  )

  -- the end of a history comes in
  pub good_history : (buffer : ℕ) (history : List ℕ) → ((k : ℕ) → contains history k ≡ true → Ok k)
      → IsGood Ok old (with_waiting (last_n buffer history) new)
  good_history buffer history ok = (
    λ k h. ⊎_elim (λ left. good.0 k (contains_left (other_numbers new) (new.waiting ++ new.borrowed) k left))
        (λ right. ⊎_elim (λ recent. ok k (contains_in_last_n buffer history k recent))
        (λ later. good.0 k (contains_right (other_numbers new) (new.waiting ++ new.borrowed) k
        (contains_right new.waiting new.borrowed k later)))
        (contains_in_append (last_n buffer history) new.borrowed k right))
        (contains_in_append (other_numbers new) (last_n buffer history ++ new.borrowed) k h),
    good.1,
  )

  -- the first that waits becomes borrowed
  pub good_borrowed : (n : ℕ) (box : Mailbox) → BorrowsFirst new n box → IsGood Ok old box
  good_borrowed n box b = (
    λ k h. good.0 k (contains_in_borrowed n new box k b h),
    λ k h.
        subst (λ (m : Mailbox). is_borrowed k m ≡ true) (sym b.2) (contains_left new.borrowed (n ∷ []) k (good.1 k h)),
  )

-- ---- the mailboxes of one port

module _ (Ok : ℕ → ℕ → Type 0) (old : ℕ → Mailbox) where
  -- a mailbox with the port i is good
  abbrev Good : (i : ℕ) → Mailbox → Type 0
  Good i box = IsGood (Ok i) (old i) box

  -- each of the mailboxes is good
  abbrev pub AreGood : (ℕ → Mailbox) → Type 0
  AreGood boxes = (i : ℕ) → Good i (boxes i)

  good_with_dropped : (i : ℕ) (box : Mailbox) → Good i box → Good i (waiting_dropped box)
  good_with_dropped i box good = good_dropped (Ok i) (old i) box good

  -- A publisher's update puts numbers of its history alone into its mailboxes, and keeps what is borrowed.
  pub sender_side_good : (environment : Environment) (service_id p : ℕ) (handler : Handler DegradationAction)
      (histories : ℕ → List ℕ) (buffers : ℕ → Option ℕ) (has_end : ℕ → Bool)
      (ok : (i k : ℕ) → contains (histories i) k ≡ true → Ok i k)
      (places : List (Option ℕ)) (side side' : SenderSide) (failure : Option ConnectionFailure) → AreGood side.mailboxes
      → ForEachPlace (UpdateSenderPlace environment service_id p handler histories buffers has_end) 0 places side side'
      failure → AreGood side'.mailboxes
  sender_side_good environment service_id p handler histories buffers has_end ok =
      sender_side_keeps Good good_with_dropped environment service_id p handler histories buffers has_end
      (λ i buffer box good. good_history (Ok i) (old i) box good buffer (histories i) (ok i))

  -- A subscriber's update puts nothing into its mailboxes, and keeps what is borrowed.
  pub receiver_side_good : (environment : Environment) (service_id q : ℕ) (handler : Handler DegradationAction)
      (limit : ℕ) (has_end : ℕ → Bool)
      (places : List (Option ℕ)) (side side' : ReceiverSide) (failure : Option ConnectionFailure)
      → AreGood side.mailboxes
      → UpdateReceiverSide environment service_id q handler limit has_end places side side' failure
      → AreGood side'.mailboxes
  receiver_side_good = receiver_side_keeps Good good_with_dropped

  -- A delivery puts its message alone into mailboxes, and keeps what is borrowed; where it is suspended, it is with
  -- that message.
  pub deliver_good : (environment : Environment) (c : ServiceConfig) (p : ℕ) (strategy : BackpressureStrategy)
      (handler : Option (Handler BackpressureAction))
      (buffers : ℕ → Option ℕ) (n channel : ℕ) (ok : (i : ℕ) → Ok i n)
      (retries : ℕ) (elapsed : Duration) (place : ℕ) (ends : List (Option ℕ)) (count : ℕ) (has_failed : Bool)
      (boxes : ℕ → Mailbox)
      (how : DeliveryEnd) (boxes' : ℕ → Mailbox)
      → AreGood boxes → Deliver environment c p strategy handler buffers n channel retries elapsed place ends count
      has_failed boxes how boxes'
      → AreGood boxes' × ((b : BlockedSend) → how ≡ Suspended b → b.message ≡ n)
  deliver_good environment c p strategy handler buffers n channel ok =
      deliver_keeps Good good_with_dropped environment c p strategy handler buffers n channel
      (λ i buffer box good. good_appended (Ok i) (old i) box good channel buffer n (ok i))
