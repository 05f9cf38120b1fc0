-- What a close does to the messages that wait.
use Rattle.std.proofs.Common.{◌≡◌, ℕ, ◌≤◌, Bool, true, false, cond, ◌&&◌, ◌||◌, List, [], length, refl, sym, ap, subst}
use Rattle.std.proofs.Common.{◌∙◌, arith, Option, None, Some, inl, inr}
use Rattle.std.specs.Prelude.{◌≢◌, MatchOption}
use Rattle.std.specs.Option.{option_map, option_map_or}
use Rattle.std.proofs.lemmas.Bool.{ne_eqb, true≢false}
use Rattle.std.proofs.lemmas.Option.{none-some}
use Rattle.iox2_machine.specs.machine.Mailbox.{Mailbox, waiting_dropped, has_numbers}
use Rattle.iox2_machine.specs.machine.Numbers.{contains}
use Rattle.iox2_machine.specs.machine.Places.{occupant, occupants, is_port}
use Rattle.iox2_machine.specs.machine.Ports.{publisher_gone, mailbox_after_publisher, publisher_closed}
use Rattle.iox2_machine.specs.machine.Ports.{mailbox_after_subscriber, subscriber_shut, subscriber_closed}
use Rattle.iox2_machine.specs.machine.Records.{Publisher, Subscriber}
use Rattle.iox2_machine.specs.machine.Releases.{subscriber_pruned, pruned}
use Rattle.iox2_machine.specs.machine.State.{State, connected_publishers}
use Rattle.iox2_machine.specs.machine.Waiting.{waiting_from}
use Rattle.iox2_machine.specs.machine.WellFormed.{IsWellFormed}
use Rattle.iox2_laws.proofs.NumberLemmas.{contains_in_append}
use Rattle.iox2_laws.proofs.PlaceLemmas.{is_port-false, leads_to}
use Rattle.iox2_laws.proofs.PortsClose.{subscriber_closed_shut, subscriber_closed_others, either}
use Rattle.iox2_laws.proofs.Puts.{put_at-other, at_each}
use Rattle.iox2_laws.proofs.UpToDate.{IsUpdated}
use Rattle.iox2_laws.proofs.WaitingCounts.{by_record, same_from, cond_le, sum_le, waiting_for}

-- who receives, of a subscriber that isn't due
open_receives : (is_open due known : Bool) → is_open ≡ true → due ≡ false → (is_open && (due || known)) ≡ known
open_receives true false known is_open due = refl
open_receives true true known is_open due = absurd (true≢false due)
open_receives false due known is_open isnt = absurd (true≢false (sym is_open))

due_receives : (is_open known : Bool) → is_open ≡ true → (is_open && (true || known)) ≡ true
due_receives true known is_open = refl
due_receives false known is_open = absurd (true≢false (sym is_open))

module _ {T U : Type 0} (s : State T U) (p : ℕ) (x : Publisher) (w : IsWellFormed s)
    (at : s.publishers p ≡ Some x) where
  abbrev gone : State T U
  gone = publisher_gone s p x

  module _ (q : ℕ) (is : IsUpdated s q) where
    -- from each publisher the subscriber receives what it is connected with
    before : (i : ℕ) → waiting_from s i q ≡ cond (contains (connected_publishers is.0) i) (s.mailboxes i q).waiting []
    before i =
        by_record s i q (Some is.0) is.1
        ∙ ap (λ b. cond b (s.mailboxes i q).waiting [])
        (open_receives (is.0).is_open (is.0).is_due (contains (connected_publishers is.0) i) is.2 is.3)

    -- and afterwards all, since it is due
    after : (i : ℕ) → waiting_from (publisher_closed s p x) i q ≡ (gone.mailboxes i q).waiting
    after i =
        by_record (publisher_closed s p x) i q (Some (record (pruned gone q is.0) { is_due = true }))
        (ap (λ (o : Option Subscriber). option_map {T = Subscriber} {U = Subscriber} (λ z. record z { is_due = true })
        (option_map {T = Subscriber} (pruned gone q) o)) is.1)
        ∙ ap (λ b. cond b (gone.mailboxes i q).waiting [])
        (due_receives (is.0).is_open (contains (connected_publishers (pruned gone q is.0)) i) is.2)

    -- a subscriber that is connected with the publisher has its end at the publisher's place
    end_stands : contains (connected_publishers is.0) p ≡ true → is_port (occupant (is.0).ends x.place) p ≡ false → ⊥
    end_stands known isnt = elim (contains_in_append (is.0).expired (occupants (is.0).ends) p known) [
      | inl expired ↦ absurd (none-some x (sym ((w.subscribers q is.0 is.1).expired_gone p expired) ∙ at))
      | inr stands ↦
          let end = leads_to (is.0).ends p stands in
          let place : x.place ≡ end.0 =
          subst (λ (o : Option Publisher). MatchOption o (has_numbers (s.mailboxes p q) ≡ true) (λ z. z.place ≡ end.0))
          at ((w.subscribers q is.0 is.1).ends_stand end.0 p end.1) in
          is_port-false (occupant (is.0).ends x.place) p isnt (ap (occupant (is.0).ends) place ∙ end.1)
    ]

    unconnected : (b : Bool) → (b ≡ true → ⊥) → (ns : List ℕ) → cond b ns [] ≡ []
    unconnected true never ns = absurd (never refl)
    unconnected false never ns = refl

    kept : (b : Bool) → is_port (occupant (is.0).ends x.place) p ≡ b
        → length (waiting_from s p q) ≤ length (cond b (s.mailboxes p q) (waiting_dropped (s.mailboxes p q))).waiting
    kept true stands =
        let most : length (cond (contains (connected_publishers is.0) p) (s.mailboxes p q).waiting []) ≤ length
        (s.mailboxes p q).waiting = cond_le (contains (connected_publishers is.0) p) (s.mailboxes p q).waiting in
        let same : length (waiting_from s p q) ≡ length
        (cond (contains (connected_publishers is.0) p) (s.mailboxes p q).waiting []) = ap length (before p) in
        omega arith
    kept false isnt =
        let none : length (waiting_from s p q) ≡ 0 =
        ap length (before p ∙ unconnected (contains (connected_publishers is.0) p) (λ known. end_stands known isnt)
        (s.mailboxes p q).waiting) in
        omega arith

    test : option_map_or (λ (z : Subscriber). z.is_open && is_port (occupant z.ends x.place) p)
        (s.subscribers q) false ≡ is_port (occupant (is.0).ends x.place) p
    test =
        ap (λ (o : Option Subscriber).
        option_map_or (λ (z : Subscriber). z.is_open && is_port (occupant z.ends x.place) p) o false) is.1
        ∙ ap (λ (b : Bool). b && is_port (occupant (is.0).ends x.place) p) is.2

    -- no fewer wait from any publisher
    no_fewer_from : (i : ℕ) → length (waiting_from s i q) ≤ length (waiting_from (publisher_closed s p x) i q)
    no_fewer_from i =
        let more : length (waiting_from s i q) ≤ length (gone.mailboxes i q).waiting =
        at_each s.mailboxes p (mailbox_after_publisher s p x)
        (λ k row. length (waiting_from s k q) ≤ length (row q).waiting) i
        (λ _. subst (λ (b : Bool). length (waiting_from s p q) ≤ length
        (cond b (s.mailboxes p q) (waiting_dropped (s.mailboxes p q))).waiting) (sym test) (kept _ refl))
        (λ _. other) in
        let same : length (waiting_from (publisher_closed s p x) i q) ≡ length (gone.mailboxes i q).waiting =
        ap length (after i) in
        omega arith
      where
        other : length (waiting_from s i q) ≤ length (s.mailboxes i q).waiting
        other = cond_le _ (s.mailboxes i q).waiting

    -- a publisher that closes takes nothing away that waits for a subscriber that isn't due
    pub publisher_closed_no_fewer : waiting_for s q ≤ waiting_for (publisher_closed s p x) q
    publisher_closed_no_fewer = sum_le (λ i. length (waiting_from s i q))
        (λ i. length (waiting_from (publisher_closed s p x) i q)) s.next_port no_fewer_from

module _ {T U : Type 0} (s : State T U) (q : ℕ) (y : Subscriber) where
  abbrev mid : State T U
  mid = subscriber_pruned (subscriber_shut s q y) q

  pub subscriber_closed_ports : (subscriber_closed s q y).next_port ≡ s.next_port
  subscriber_closed_ports = either s q y (λ t. t.next_port ≡ s.next_port) refl refl

  -- nothing waits for the subscriber that closed
  pub subscriber_closed_none : (p : ℕ) → waiting_from (subscriber_closed s q y) p q ≡ []
  subscriber_closed_none p = by ((subscriber_closed s q y).subscribers q) refl where
    shut : (b : Bool) (known : Bool) (ns : List ℕ) → b ≡ false → cond (b && known) ns [] ≡ []
    shut false known ns is = refl
    shut true known ns is = absurd (true≢false is)

    by : (o : Option Subscriber) → (subscriber_closed s q y).subscribers q ≡ o
        → waiting_from (subscriber_closed s q y) p q ≡ []
    by None e = by_record (subscriber_closed s q y) p q None e
    by (Some z) e =
        by_record (subscriber_closed s q y) p q (Some z) e
        ∙ shut z.is_open (z.is_due || contains (connected_publishers z) p)
        ((subscriber_closed s q y).mailboxes p q).waiting (subscriber_closed_shut s q y z e)

  -- and the same for each other
  pub subscriber_closed_from : (p i : ℕ) → i ≢ q → waiting_from (subscriber_closed s q y) p i ≡ waiting_from s p i
  subscriber_closed_from p i away =
      let left : (mid.mailboxes p i).waiting ≡ (s.mailboxes p i).waiting =
      ap (λ (box : Mailbox). box.waiting)
      (put_at-other (s.mailboxes p) q (mailbox_after_subscriber s q p) i (ne_eqb i q away)) in
      same_from s (subscriber_closed s q y) p i (subscriber_closed_others s q y i away)
      (either s q y (λ t. (t.mailboxes p i).waiting ≡ (s.mailboxes p i).waiting) left left)

  -- each other that wasn't due is not
  pub subscriber_closed_updated : (i : ℕ) → i ≢ q → IsUpdated s i → IsUpdated (subscriber_closed s q y) i
  subscriber_closed_updated i away is = (is.0, subscriber_closed_others s q y i away ∙ is.1, is.2, is.3)
