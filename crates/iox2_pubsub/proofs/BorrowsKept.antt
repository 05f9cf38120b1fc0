-- Which operations leave what subscribers have borrowed.
use Rattle.std.proofs.Common.{◌≡◌, ℕ, suc, ◌≤◌, ◌<◌, true, false, List, [], ◌∷◌, length, refl, sym, ap, ◌∙◌, arith, eqb}
use Rattle.std.proofs.Common.{le_refl, le_trans, Option, None}
use Rattle.std.specs.Prelude.{cond, not, ◌||◌}
use Rattle.std.specs.declared.time.Duration.{Duration}
use Rattle.std.proofs.lemmas.Bool.{true≢false, cond_both}
use Rattle.iox2_machine.specs.machine.Mailbox.{Mailbox, waiting_dropped}
use Rattle.iox2_machine.specs.machine.Numbers.{contains, without}
use Rattle.iox2_machine.specs.machine.Ports.{CreatePublisher, CreateSubscriber, mailbox_after_publisher}
use Rattle.iox2_machine.specs.machine.Ports.{mailbox_after_subscriber, publisher_closed, subscriber_closed}
use Rattle.iox2_machine.specs.machine.Ports.{subscriber_shut}
use Rattle.iox2_machine.specs.machine.PublisherUpdate.{UpdatePublisher}
use Rattle.iox2_machine.specs.machine.Records.{Environment, Loan, BlockedSend, Publisher, Subscriber, PublisherSettings}
use Rattle.iox2_machine.specs.machine.Records.{SubscriberSettings}
use Rattle.iox2_machine.specs.machine.Releases.{released, unborrowed, freed_if_unused, subscriber_pruned}
use Rattle.iox2_machine.specs.machine.Sends.{Send, SendResult, SendToConnection, Retry, GiveUp}
use Rattle.iox2_machine.specs.machine.State.{State, with_loan, is_present, receiver_channels_reset}
use Rattle.iox2_machine.specs.machine.SubscriberUpdate.{UpdateSubscriber}
use Rattle.iox2_machine.specs.declared.errors.ConnectionFailure.{ConnectionFailure}
use Rattle.iox2_machine.specs.declared.errors.PublisherCreateError.{PublisherCreateError}
use Rattle.iox2_machine.specs.declared.errors.SubscriberCreateError.{SubscriberCreateError}
use Rattle.iox2_laws.proofs.NumberLemmas.{length-without_le}
use Rattle.iox2_laws.proofs.OperationWalks.{IsPreorder, DeliverySteps, connection_send_by_steps, forgotten_by_steps}
use Rattle.iox2_laws.proofs.OperationWalks.{give_up_by_steps, retry_by_steps, send_by_steps}
use Rattle.iox2_laws.proofs.PortLaws.{create_publisher_advances, create_subscriber_advances}
use Rattle.iox2_laws.proofs.PortsStay.{PortsStay, create_publisher_stays, create_subscriber_stays, delivered_borrowed}
use Rattle.iox2_laws.proofs.PortsStay.{update_publisher_stays, update_subscriber_stays}
use Rattle.iox2_laws.proofs.PublisherUpdates.{update_publisher_advances}
use Rattle.iox2_laws.proofs.Puts.{at_each}
use Rattle.iox2_laws.proofs.SubscriberUpdates.{update_subscriber_advances}

-- a number that is there is one that can be taken out
pub shorter-without : (n : ℕ) (ns : List ℕ) → contains ns n ≡ true → length (without n ns) < length ns
shorter-without n [] there = absurd (true≢false (sym there))
shorter-without n (k ∷ ns) there =
    elim (eqb k n) as (λ b. (b || contains ns n) ≡ true
    → length (cond (not b) (k ∷ without n ns) (without n ns)) < suc (length ns)) [
      | true ↦ λ _. omega (arith, length-without_le n ns)
      | false ↦ λ later. omega (arith, shorter-without n ns later)
    ] there

module _ {T U : Type 0} where
  -- Each subscriber has borrowed what it had, of each publisher.
  pub record BorrowsKept (s s' : State T U) : Type 0 where
    pub config : s'.config ≡ s.config
    pub ports : s.next_port ≤ s'.next_port
    pub borrowed : (p q : ℕ) → (s'.mailboxes p q).borrowed ≡ (s.mailboxes p q).borrowed

  pub kept-itself : (s : State T U) → BorrowsKept s s
  kept-itself s = record { config = refl; ports = le_refl s.next_port; borrowed = λ p q. refl }

  kept-trans : (a b c : State T U) → BorrowsKept a b → BorrowsKept b c → BorrowsKept a c
  kept-trans a b c h k = record {
    config = k.config ∙ h.config;
    ports = le_trans h.ports k.ports;
    borrowed = λ p q. k.borrowed p q ∙ h.borrowed p q;
  }

  order : IsPreorder BorrowsKept
  order = record { itself = kept-itself; trans = kept-trans }

  pub stays-kept : (s s' : State T U) → PortsStay s s' → s.next_port ≤ s'.next_port → BorrowsKept s s'
  stays-kept s s' stays ports = record { config = (stays.remain).config; ports = ports; borrowed = stays.borrowed }

  -- where the mailboxes are those that were
  pub same-kept : (s s' : State T U) → s'.config ≡ s.config → s'.next_port ≡ s.next_port → s'.mailboxes ≡ s.mailboxes
      → BorrowsKept s s'
  same-kept s s' config ports boxes = record {
    config = config;
    ports = omega (arith, ports);
    borrowed = λ p q. ap (λ (f : ℕ → ℕ → Mailbox). (f p q).borrowed) boxes;
  }

  pub publisher-update-kept : (environment : Environment) (s : State T U) (p : ℕ) (s' : State T U)
      (failure : Option ConnectionFailure) → UpdatePublisher environment s p s' failure → BorrowsKept s s'
  publisher-update-kept environment s p s' failure h =
      stays-kept s s' (update_publisher_stays environment s p s' failure h)
      (update_publisher_advances environment s p s' failure h).next_port

  pub subscriber-update-kept : (environment : Environment) (s : State T U) (q : ℕ) (s' : State T U)
      (failure : Option ConnectionFailure) → UpdateSubscriber environment s q s' failure → BorrowsKept s s'
  subscriber-update-kept environment s q s' failure h =
      stays-kept s s' (update_subscriber_stays environment s q s' failure h)
      (update_subscriber_advances environment s q s' failure h).next_port

  pub publisher-creation-kept : (environment : Environment) (s : State T U) (given : PublisherSettings) (s' : State T U)
      (refusal : Option PublisherCreateError) → CreatePublisher environment s given s' refusal → BorrowsKept s s'
  publisher-creation-kept environment s given s' refusal h =
      stays-kept s s' (create_publisher_stays environment s given s' refusal h)
      (create_publisher_advances environment s given s' refusal h).next_port

  pub subscriber-creation-kept : (environment : Environment) (s : State T U) (given : SubscriberSettings)
      (s' : State T U) (refusal : Option SubscriberCreateError) → CreateSubscriber environment s given s' refusal
      → BorrowsKept s s'
  subscriber-creation-kept environment s given s' refusal h =
      stays-kept s s' (create_subscriber_stays environment s given s' refusal h)
      (create_subscriber_advances environment s given s' refusal h).next_port

  -- ---- sends, which borrow nothing however they end

  deliveries-keep : (environment : Environment) (p n : ℕ) (result : SendResult)
      → DeliverySteps {T = T} {U = U} environment p n BorrowsKept BorrowsKept result
  deliveries-keep environment p n result = record {
    delivers = λ s boxes d.
        record { config = refl; ports = le_refl s.next_port; borrowed = delivered_borrowed environment s p n boxes d };
    ended = λ s _. same-kept s _ refl refl refl;
    blocked = λ s b _. same-kept s _ refl refl refl;
  }

  pub send-kept : (environment : Environment) (s : State T U) (n : ℕ) (l : Loan T U) (s' : State T U)
      (result : SendResult) → Send environment s n l s' result → BorrowsKept s s'
  send-kept environment s n l s' result =
      send_by_steps BorrowsKept BorrowsKept kept-trans environment s n l s' result (record {
        delivery = deliveries-keep environment l.publisher n result;
        updates = λ a. publisher-update-kept environment a l.publisher;
        publishes = λ a. same-kept a _ refl refl refl;
        lost = λ a _ e _. same-kept a _ refl refl refl;
        discards = λ a k _ e _. same-kept a _ refl refl refl;
      })

  pub send-to-kept : (environment : Environment) (s : State T U) (n : ℕ) (l : Loan T U) (channel place : ℕ)
      (s' : State T U) (result : SendResult) → SendToConnection environment s n l channel place s' result
      → BorrowsKept s s'
  send-to-kept environment s n l channel place s' result =
      connection_send_by_steps BorrowsKept BorrowsKept kept-trans environment s n l channel place s' result
      (deliveries-keep environment l.publisher n result)
      (same-kept s (with_loan s n None) refl refl refl) (λ _ e _. same-kept s (with_loan s n None) refl refl refl)

  pub retry-kept : (environment : Environment) (s : State T U) (p : ℕ) (b : BlockedSend) (elapsed : Duration)
      (s' : State T U) (result : SendResult) → Retry environment s p b elapsed s' result → BorrowsKept s s'
  retry-kept environment s p b elapsed s' result =
      retry_by_steps BorrowsKept BorrowsKept kept-trans environment s p b elapsed s' result
      (deliveries-keep environment p b.message result)

  pub give-up-kept : (environment : Environment) (s : State T U) (p : ℕ) (b : BlockedSend) (s' : State T U)
      (result : SendResult) → GiveUp environment s p b s' result → BorrowsKept s s'
  give-up-kept environment s p b s' result =
      give_up_by_steps BorrowsKept BorrowsKept kept-trans environment s p b s' result
      (deliveries-keep environment p b.message result)

  -- ---- closes

  pub forgotten-kept : (s : State T U) (q : ℕ)
      → BorrowsKept s (receiver_channels_reset (freed_if_unused (subscriber_pruned s q) q) q)
  forgotten-kept s q =
      forgotten_by_steps BorrowsKept order s q (λ t. same-kept t _ refl refl refl) (λ t. same-kept t _ refl refl refl)
      (λ t. same-kept t _ refl refl refl)

  pub publisher-close-kept : (s : State T U) (p : ℕ) (x : Publisher) → BorrowsKept s (publisher_closed s p x)
  publisher-close-kept s p x = record {
    config = refl;
    ports = le_refl s.next_port;
    borrowed = λ i q.
        at_each s.mailboxes p (mailbox_after_publisher s p x) (λ i row. (row q).borrowed ≡ (s.mailboxes i q).borrowed) i
        (λ _. cond_both _ (s.mailboxes p q) (waiting_dropped (s.mailboxes p q))
        (λ (box : Mailbox). box.borrowed ≡ (s.mailboxes p q).borrowed) (λ _. refl) (λ _. refl))
        (λ _. refl);
  }

  shut-kept : (s : State T U) (q : ℕ) (y : Subscriber) → BorrowsKept s (subscriber_shut s q y)
  shut-kept s q y = record {
    config = refl;
    ports = le_refl s.next_port;
    borrowed = λ p i. at_each (s.mailboxes p) q (mailbox_after_subscriber s q p)
        (λ i box. box.borrowed ≡ (s.mailboxes p i).borrowed) i
        (λ _. cond_both (is_present s p) (s.mailboxes p q) (waiting_dropped (s.mailboxes p q))
        (λ (box : Mailbox). box.borrowed ≡ (s.mailboxes p q).borrowed) (λ _. refl) (λ _. refl))
        (λ _. refl);
  }

  pub subscriber-close-kept : (s : State T U) (q : ℕ) (y : Subscriber) → BorrowsKept s (subscriber_closed s q y)
  subscriber-close-kept s q y = kept-trans s (subscriber_shut s q y) (subscriber_closed s q y) (shut-kept s q y)
      (forgotten-kept (subscriber_shut s q y) q)

  -- ---- a release

  -- The same ports were made.
  abbrev SamePorts : State T U → State T U → Type 0
  SamePorts s s' = s'.next_port ≡ s.next_port

  pub released-ports : (s : State T U) (p q n : ℕ) → (released s p q n).next_port ≡ s.next_port
  released-ports s p q n =
      forgotten_by_steps SamePorts (record { itself = λ t. refl; trans = λ a b c f g. g ∙ f }) (unborrowed s p q n) q
      (λ t. refl) (λ t. refl) (λ t. refl)

  pub released-kept : (s : State T U) (p q n : ℕ) → BorrowsKept (unborrowed s p q n) (released s p q n)
  released-kept s p q n = forgotten-kept (unborrowed s p q n) q
