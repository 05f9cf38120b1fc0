-- A close takes its port away and leaves every other; and what is borrowed stays so.
use Rattle.std.proofs.Common.{◌≡◌, ℕ, true, false, refl, sym, ap, ◌∙◌, Option, None, Some}
use Rattle.std.specs.Prelude.{◌≢◌}
use Rattle.std.specs.Option.{option_map}
use Rattle.std.proofs.lemmas.Bool.{ne_eqb, cond_both}
use Rattle.std.proofs.lemmas.Option.{none-some, same_Some}
use Rattle.iox2_machine.specs.machine.Mailbox.{Mailbox, waiting_dropped}
use Rattle.iox2_machine.specs.machine.Records.{Publisher, Subscriber}
use Rattle.iox2_machine.specs.machine.State.{State, receiver_channels_reset}
use Rattle.iox2_machine.specs.machine.Ports.{publisher_gone, mailbox_after_publisher, publisher_closed}
use Rattle.iox2_machine.specs.machine.Ports.{mailbox_after_subscriber, subscriber_shut, subscriber_closed}
use Rattle.iox2_machine.specs.machine.Releases.{subscriber_pruned, place_freed, is_unused, pruned}
use Rattle.iox2_laws.proofs.Puts.{put_at-same, put_at-other, at_each}

module _ {T U : Type 0} (s : State T U) (p : ℕ) (x : Publisher) where
  -- the publisher is gone
  pub publisher_closed_gone : (publisher_closed s p x).publishers p ≡ None
  publisher_closed_gone = put_at-same s.publishers p None

  -- another publisher is as it was
  pub publisher_closed_others : (i : ℕ) → i ≢ p → (publisher_closed s p x).publishers i ≡ s.publishers i
  publisher_closed_others i away = put_at-other s.publishers p None i (ne_eqb i p away)

  -- a subscriber is as open as it was
  pub publisher_closed_subscribers : (q : ℕ) (y : Subscriber) → s.subscribers q ≡ Some y
      → (y' : Subscriber) × ((publisher_closed s p x).subscribers q ≡ Some y') × (y'.is_open ≡ y.is_open)
  publisher_closed_subscribers q y at = (
    record (pruned (publisher_gone s p x) q y) { is_due = true },
    ap (λ (o : Option Subscriber). option_map {T = Subscriber} {U = Subscriber} (λ z. record z { is_due = true })
        (option_map {T = Subscriber} (pruned (publisher_gone s p x) q) o)) at,
    refl,
  )

  -- what is borrowed is what was
  pub publisher_closed_borrowed : (i q : ℕ)
      → ((publisher_closed s p x).mailboxes i q).borrowed ≡ (s.mailboxes i q).borrowed
  publisher_closed_borrowed i q =
      at_each s.mailboxes p (mailbox_after_publisher s p x) (λ k row. (row q).borrowed ≡ (s.mailboxes k q).borrowed) i
      (λ _. cond_both _ (s.mailboxes p q) (waiting_dropped (s.mailboxes p q))
      (λ (box : Mailbox). box.borrowed ≡ (s.mailboxes p q).borrowed) (λ _. refl) (λ _. refl))
      (λ _. refl)

module _ {T U : Type 0} (s : State T U) (q : ℕ) (y : Subscriber) where
  -- the state before the subscriber may go
  abbrev shut : State T U
  shut = subscriber_shut s q y

  abbrev mid : State T U
  mid = subscriber_pruned shut q

  -- what holds of both cases holds
  pub either : (P : State T U → Type 0) → P (receiver_channels_reset (place_freed mid q) q)
      → P (receiver_channels_reset mid q) → P (subscriber_closed s q y)
  either P freed kept = cond_both (is_unused mid q) (place_freed mid q) mid (λ t. P (receiver_channels_reset t q))
      (λ _. freed) (λ _. kept)

  -- the subscriber is gone, or it isn't open
  pub subscriber_closed_shut : (y' : Subscriber) → (subscriber_closed s q y).subscribers q ≡ Some y'
      → y'.is_open ≡ false
  subscriber_closed_shut =
      either (λ t. (y' : Subscriber) → t.subscribers q ≡ Some y' → y'.is_open ≡ false)
      (λ y' e. absurd (none-some y' (sym (put_at-same mid.subscribers q None) ∙ e)))
      (λ y' e.
      let here : shut.subscribers q ≡ Some (record y { is_open = false }) =
      put_at-same s.subscribers q (Some (record y { is_open = false })) in
      let same : pruned shut q (record y { is_open = false }) ≡ y' =
      same_Some _ y' (sym (ap (option_map (pruned shut q)) here)
      ∙ sym (put_at-same shut.subscribers q (option_map (pruned shut q) (shut.subscribers q))) ∙ e) in
      ap (λ (v : Subscriber). v.is_open) (sym same))

  -- another subscriber is as it was
  pub subscriber_closed_others : (i : ℕ) → i ≢ q → (subscriber_closed s q y).subscribers i ≡ s.subscribers i
  subscriber_closed_others i away =
      let kept : mid.subscribers i ≡ s.subscribers i =
      put_at-other shut.subscribers q (option_map (pruned shut q) (shut.subscribers q)) i (ne_eqb i q away)
      ∙ put_at-other s.subscribers q (Some (record y { is_open = false })) i (ne_eqb i q away) in
      either (λ t. t.subscribers i ≡ s.subscribers i)
      (put_at-other mid.subscribers q None i (ne_eqb i q away) ∙ kept) kept

  -- a publisher waits for a receiver as it did
  pub subscriber_closed_publishers : (p : ℕ) (x : Publisher) → s.publishers p ≡ Some x
      → (x' : Publisher) × ((subscriber_closed s q y).publishers p ≡ Some x') × (x'.blocked ≡ x.blocked)
  subscriber_closed_publishers p x at =
      let due : Option Publisher → Option Publisher =
      option_map {T = Publisher} {U = Publisher} (λ z. record z { is_due = true }) in
      either (λ t. (x' : Publisher) × (t.publishers p ≡ Some x') × (x'.blocked ≡ x.blocked))
      (record x { is_due = true }, ap (λ (o : Option Publisher). due (due o)) at, refl)
      (record x { is_due = true }, ap due at, refl)

  -- what is borrowed is what was
  pub subscriber_closed_borrowed : (p i : ℕ)
      → ((subscriber_closed s q y).mailboxes p i).borrowed ≡ (s.mailboxes p i).borrowed
  subscriber_closed_borrowed p i =
      let kept : (mid.mailboxes p i).borrowed ≡ (s.mailboxes p i).borrowed =
      at_each (s.mailboxes p) q (mailbox_after_subscriber s q p) (λ k box. box.borrowed ≡ (s.mailboxes p k).borrowed) i
      (λ _. cond_both _ (s.mailboxes p q) (waiting_dropped (s.mailboxes p q))
      (λ (box : Mailbox). box.borrowed ≡ (s.mailboxes p q).borrowed) (λ _. refl) (λ _. refl))
      (λ _. refl) in
      either (λ t. (t.mailboxes p i).borrowed ≡ (s.mailboxes p i).borrowed) kept kept
