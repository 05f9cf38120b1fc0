-- What the creation of a publisher does to the number of messages that wait.
use Rattle.std.proofs.Common.{◌≡◌, ℕ, zero, suc, ◌+◌, ◌≤◌, ◌<◌, Bool, true, false, cond, ◌&&◌, ◌||◌, List, [], length}
use Rattle.std.proofs.Common.{refl, sym, ap, subst, ◌∙◌, arith, Option, None, Some}
use Rattle.std.specs.Prelude.{◌≢◌}
use Rattle.std.specs.Option.{option_map, option_map_or}
use Rattle.std.proofs.lemmas.Bool.{ne_eqb}
use Rattle.std.proofs.lemmas.Option.{none-some}
use Rattle.iox2_machine.specs.machine.Numbers.{contains}
use Rattle.iox2_machine.specs.machine.Mailbox.{Mailbox}
use Rattle.iox2_machine.specs.machine.Records.{Subscriber, Environment, PublisherSettings}
use Rattle.iox2_machine.specs.machine.State.{State, connected_publishers}
use Rattle.iox2_machine.specs.machine.PublisherUpdate.{UpdatePublisher}
use Rattle.iox2_machine.specs.machine.Ports.{CreatePublisher, FirstPublisherUpdate, with_new_publisher}
use Rattle.iox2_machine.specs.machine.Ports.{with_failure_warning}
use Rattle.iox2_machine.specs.machine.Waiting.{receives_from, waiting_from}
use Rattle.iox2_machine.specs.declared.errors.ConnectionFailure.{ConnectionFailure}
use Rattle.iox2_machine.specs.declared.errors.PublisherCreateError.{PublisherCreateError}
use Rattle.iox2_machine.specs.declared.warning.Warning.TheVariants.{PublisherPartlyConnected}
use Rattle.iox2_laws.proofs.Cases.{by_option, by_bool}
use Rattle.iox2_laws.proofs.CallCases.{publisher_cases}
use Rattle.iox2_laws.proofs.Puts.{put_at-other}
use Rattle.iox2_laws.proofs.WaitingCounts.{SameWaits, same_itself, sum_below, waiting_for}
use Rattle.iox2_laws.proofs.UpToDate.{update_publisher_subscribers}

-- each part below n that is no more makes a sum that is no more
sum_le_below : (f g : ℕ → ℕ) (n : ℕ) → ((p : ℕ) → p < n → f p ≤ g p) → sum_below f n ≤ sum_below g n
sum_le_below f g zero each = omega arith
sum_le_below f g (suc n) each =
    let before : sum_below f n ≤ sum_below g n = sum_le_below f g n (λ p low. each p (omega arith)) in
    let last : f n ≤ g n = each n (omega arith) in
    omega arith

-- a subscriber that becomes due misses nothing
due_more : (is_open due known known' : Bool) (ns : List ℕ)
    → length (cond (is_open && (due || known)) ns []) ≤ length (cond (is_open && (true || known')) ns [])
due_more false due known known' ns = omega arith
due_more true true known known' ns = omega arith
due_more true false true known' ns = omega arith
due_more true false false known' ns = omega arith

module _ {T U : Type 0} where
  -- What an update of the publisher p leaves of the others' mailboxes.
  record RowsStay (s : State T U) (p : ℕ) (s' : State T U) : Type 0 where
    pub ports : s'.next_port ≡ s.next_port
    pub rows : (i : ℕ) → i ≢ p → s'.mailboxes i ≡ s.mailboxes i

  update_publisher_rows : (environment : Environment) (s : State T U) (p : ℕ) (s' : State T U)
      (failure : Option ConnectionFailure) → UpdatePublisher environment s p s' failure → RowsStay s p s'
  update_publisher_rows environment s p s' failure h =
      by_option (RowsStay s p s') (s.publishers p) _ _ h (λ _ v. absurd v) (λ x _ h.
      by_bool (RowsStay s p s') x.is_due _ _ h
      (λ _ h. subst (RowsStay s p) (sym h.2)
      (record { ports = refl; rows = λ i away. put_at-other s.mailboxes p (h.0).mailboxes i (ne_eqb i p away) }))
      (λ _ h. subst (RowsStay s p) (sym h.0) (record { ports = refl; rows = λ i away. refl })))

  module _ (environment : Environment) (s : State T U) (given : PublisherSettings) (s' : State T U) where
    -- no fewer wait, and the same where it is refused
    pub create_publisher_waits : (refusal : Option PublisherCreateError)
        → CreatePublisher environment s given s' refusal
        → ((q : ℕ) → waiting_for s q ≤ waiting_for s' q)
        × ((e : PublisherCreateError) → refusal ≡ Some e → SameWaits s s')
    create_publisher_waits refusal h =
        publisher_cases environment s given s' Result refusal h (λ e same _. refused same)
        (λ place makes. made place makes.1 makes.2)
      where
        Result : Type 0
        Result = ((q : ℕ) → waiting_for s q ≤ waiting_for s' q)
            × ((e : PublisherCreateError) → refusal ≡ Some e → SameWaits s s')

        refused : s' ≡ s → Result
        refused same = (
          λ q. subst (λ (t : State T U). waiting_for s q ≤ waiting_for t q) (sym same) (omega arith),
          λ _ _. subst (SameWaits s) (sym same) (same_itself s),
        )

        made : (place : ℕ) → refusal ≡ None
            → FirstPublisherUpdate environment (with_new_publisher s given place) s.next_port s' → Result
        made place none h = (more, λ e is. absurd (none-some e (sym none ∙ is))) where
          new : State T U
          new = with_new_publisher s given place

          rows : RowsStay new s.next_port h.0
          rows = update_publisher_rows environment new s.next_port h.0 h.1 h.2

          same_subscribers : (h.0).subscribers ≡ new.subscribers
          same_subscribers = update_publisher_subscribers environment new s.next_port h.0 h.1 h.2

          warned_same : (failure : Option ConnectionFailure) (q : ℕ)
              → waiting_for
              (with_failure_warning h.0 (PublisherPartlyConnected s.next_port) failure) q ≡ waiting_for h.0 q
          warned_same None q = refl
          warned_same (Some failure) q = refl

          next : s.next_port + 1 ≡ suc s.next_port
          next = omega arith

          all : (q : ℕ) → waiting_for s' q ≡ sum_below (λ p. length (waiting_from h.0 p q)) (suc s.next_port)
          all q = ap (λ (t : State T U). waiting_for t q) h.3 ∙ warned_same h.1 q
              ∙ ap (sum_below (λ p. length (waiting_from h.0 p q))) (rows.ports ∙ next)

          due : (o : Option Subscriber) (p : ℕ) (ns : List ℕ)
              → length (cond (option_map_or (λ (y : Subscriber). receives_from y p) o false) ns [])
              ≤ length
              (cond (option_map_or (λ (y : Subscriber). receives_from y p)
              (option_map {T = Subscriber} (λ y. record y { is_due = true }) o) false) ns [])
          due None p ns = omega arith
          due (Some y) p ns =
              due_more y.is_open y.is_due (contains (connected_publishers y) p) (contains (connected_publishers y) p) ns

          part : (p q : ℕ) → p < s.next_port → length (waiting_from s p q) ≤ length (waiting_from h.0 p q)
          part p q low =
              subst (λ (o : Option Subscriber). length (waiting_from s p q) ≤ length
              (cond (option_map_or (λ (y : Subscriber). receives_from y p) o false) ((h.0).mailboxes p q).waiting []))
              (ap (λ f. f q) (sym same_subscribers))
              (subst (λ (row : ℕ → Mailbox). length (waiting_from s p q) ≤ length
              (cond (option_map_or (λ (y : Subscriber). receives_from y p) (new.subscribers q) false)
              (row q).waiting [])) (sym (rows.rows p (λ here. omega arith)))
              (due (s.subscribers q) p (s.mailboxes p q).waiting))

          more : (q : ℕ) → waiting_for s q ≤ waiting_for s' q
          more q =
              let whole : waiting_for s' q ≡ sum_below (λ p. length (waiting_from h.0 p q)) (suc s.next_port) = all q in
              let first : waiting_for s q ≤ sum_below (λ p. length (waiting_from h.0 p q)) s.next_port =
              sum_le_below (λ p. length (waiting_from s p q)) (λ p. length (waiting_from h.0 p q)) s.next_port
              (λ p low. part p q low) in
              omega arith
