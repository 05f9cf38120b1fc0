-- A subscriber that has borrowed nothing is gone at once where it closes; and so it is in two states that look alike.
use Rattle.std.proofs.Common.{◌≡◌, ℕ, Bool, true, false, cond, not, ◌&&◌, refl, sym, ap, ◌∙◌, Option, None, Some}
use Rattle.std.proofs.Common.{is_some, eqb}
use Rattle.std.specs.Option.{option_map, option_map_or}
use Rattle.std.specs.List.{list_all}
use Rattle.std.proofs.lemmas.Bool.{eqb-true, cond_both}
use Rattle.iox2_machine.specs.machine.Numbers.{put_at}
use Rattle.iox2_machine.specs.machine.Places.{vacated}
use Rattle.iox2_machine.specs.machine.Mailbox.{Mailbox, has_borrows, waiting_dropped}
use Rattle.iox2_machine.specs.machine.Records.{Publisher, Subscriber}
use Rattle.iox2_machine.specs.machine.State.{State, is_present, connected_publishers, receiver_channels_reset}
use Rattle.iox2_machine.specs.machine.Releases.{is_unused, place_freed, pruned, subscriber_pruned}
use Rattle.iox2_machine.specs.machine.Ports.{mailbox_after_subscriber, subscriber_shut, subscriber_closed}
use Rattle.iox2_laws.proofs.Puts.{put_at-same}
use Rattle.iox2_commands.specs.Isolation.{HasBorrowedNothing}
use Rattle.iox2_commands.specs.Views.{public_part}
use Rattle.iox2_commands.proofs.AlikeViews.{View, view_of, receiver_reset_view, receiver_reset_seen}
use Rattle.iox2_laws.proofs.NumberLemmas.{all_pass}

-- a publisher that is due
abbrev due : Option Publisher → Option Publisher
due o = option_map {T = Publisher} {U = Publisher} (λ x. record x { is_due = true }) o

-- a record that is written twice and then taken away
taken_away : (f : ℕ → Option Subscriber) (r : ℕ) (y z : Option Subscriber) (i : ℕ)
    → public_part (put_at (put_at (put_at f r y) r z) r None i) ≡ put_at (λ k. public_part (f k)) r None i
taken_away f r y z i =
    elim (eqb i r) as (λ b. public_part (cond b None (cond b z (cond b y (f i)))) ≡ cond b None (public_part (f i)))
    [ true ↦ refl | false ↦ refl ]

own_taken : (q : ℕ) (f : ℕ → Option Subscriber) (r : ℕ) (y z : Option Subscriber)
    → put_at (put_at (put_at f r y) r z) r None q ≡ cond (eqb q r) None (f q)
own_taken q f r y z =
    elim (eqb q r) as (λ b. cond b None (cond b z (cond b y (f q))) ≡ cond b None (f q)) [ true ↦ refl | false ↦ refl ]

module _ {T U : Type 0} where
  -- The state in which the subscriber is shut, before it may go.
  abbrev pub before_going : State T U → (r : ℕ) → Subscriber → State T U
  before_going s r y = subscriber_pruned (subscriber_shut s r y) r

  -- the subscriber's mailboxes as it goes
  left_unborrowed : (s : State T U) (r : ℕ) (y : Subscriber) → HasBorrowedNothing s r → (p : ℕ)
      → has_borrows ((before_going s r y).mailboxes p r) ≡ false
  left_unborrowed s r y nothing p =
      ap has_borrows (put_at-same (s.mailboxes p) r (mailbox_after_subscriber s r p))
      ∙ cond_both (is_present s p) (s.mailboxes p r) (waiting_dropped (s.mailboxes p r))
      (λ (box : Mailbox). has_borrows box ≡ false) (λ _. nothing p) (λ _. nothing p)

  -- It is gone at once.
  pub closed_at_once : (s : State T U) (r : ℕ) (y : Subscriber) → HasBorrowedNothing s r
      → subscriber_closed s r y ≡ receiver_channels_reset (place_freed (before_going s r y) r) r
  closed_at_once s r y nothing = ap (λ (b : Bool).
      receiver_channels_reset (cond b (place_freed (before_going s r y) r) (before_going s r y)) r) unused
    where
      there : (before_going s r y).subscribers r ≡ Some
          (pruned (subscriber_shut s r y) r (record y { is_open = false }))
      there =
          put_at-same (subscriber_shut s r y).subscribers r
          (option_map (pruned (subscriber_shut s r y) r) ((subscriber_shut s r y).subscribers r))
          ∙ ap (option_map (pruned (subscriber_shut s r y) r))
          (put_at-same s.subscribers r (Some (record y { is_open = false })))

      unused : is_unused (before_going s r y) r ≡ true
      unused =
          ap (λ (o : Option Subscriber).
          option_map_or (λ (z : Subscriber). not z.is_open && list_all
          (λ p. not (has_borrows ((before_going s r y).mailboxes p r))) (connected_publishers z)) o false) there
          ∙ all_pass (λ p. not (has_borrows ((before_going s r y).mailboxes p r)))
          (connected_publishers (pruned (subscriber_shut s r y) r (record y { is_open = false })))
          (λ p. ap not (left_unborrowed s r y nothing p))

  module _ (q : ℕ) where
    -- what is left of a mailbox of q, where q itself is closed
    abbrev left_over : View T U → (p : ℕ) → Mailbox
    left_over v p = cond (is_some (v.publishers p)) (v.mailboxes p) (waiting_dropped (v.mailboxes p))

    -- the view without the subscriber r
    abbrev closed_view : (r : ℕ) → View T U → View T U
    closed_view r v = record v {
      publishers = λ p. due (due (v.publishers p));
      subscriber_places = vacated r v.subscriber_places;
      others = put_at v.others r None;
      own = cond (eqb q r) None v.own;
      mailboxes = λ p. cond (eqb q r) (left_over v p) (v.mailboxes p);
    }

    box_left : (s : State T U) (r p : ℕ) → put_at (s.mailboxes p) r (mailbox_after_subscriber s r p) q ≡ cond (eqb q r)
        (left_over (view_of q s) p) (s.mailboxes p q)
    box_left s r p =
        elim (eqb q r) as (λ b. eqb q r ≡ b → cond b (mailbox_after_subscriber s r p) (s.mailboxes p q) ≡ cond b
        (left_over (view_of q s) p) (s.mailboxes p q)) [
          | true ↦ λ same. ap (λ (k : ℕ). mailbox_after_subscriber s k p) (sym (eqb-true q r same))
          | false ↦ λ _. refl
        ] refl

    closed_seen : (s : State T U) (r : ℕ) (y : Subscriber) → HasBorrowedNothing s r
        → view_of q (subscriber_closed s r y) ≡ receiver_reset_view q (eqb q r) (closed_view r (view_of q s))
    closed_seen s r y nothing =
        ap (view_of q) (closed_at_once s r y nothing)
        ∙ receiver_reset_seen q (place_freed (before_going s r y) r) r
        ∙ ap (receiver_reset_view q (eqb q r)) (λ i. record (closed_view r (view_of q s)) {
          others = λ k. taken_away s.subscribers r (Some (record y { is_open = false }))
              (option_map (pruned (subscriber_shut s r y) r) ((subscriber_shut s r y).subscribers r)) k i;
          own = own_taken q s.subscribers r (Some (record y { is_open = false }))
              (option_map (pruned (subscriber_shut s r y) r) ((subscriber_shut s r y).subscribers r)) i;
          mailboxes = λ p. box_left s r p i;
        })

    -- a subscriber that has borrowed nothing is closed in both
    pub subscriber_closed_alike : (a b : State T U) (r : ℕ) (y y' : Subscriber) → HasBorrowedNothing a r
        → HasBorrowedNothing b r → view_of q a ≡ view_of q b
        → view_of q (subscriber_closed a r y) ≡ view_of q (subscriber_closed b r y')
    subscriber_closed_alike a b r y y' nothing nothing' e = closed_seen a r y nothing
        ∙ ap (λ v. receiver_reset_view q (eqb q r) (closed_view r v)) e ∙ sym (closed_seen b r y' nothing')
