-- What one subscriber does isn't seen by another.
use Rattle.std.proofs.Common.{◌≡◌, ℕ, Bool, true, false, cond, not, ◌&&◌, refl, sym, ap, ◌∙◌, Option, None, Some, eqb}
use Rattle.std.specs.Prelude.{◌≢◌}
use Rattle.std.specs.List.{list_all}
use Rattle.std.proofs.lemmas.Bool.{eq-eqb, true≢false}
use Rattle.std.specs.Option.{option_map, option_map_or}
use Rattle.iox2_machine.specs.machine.Mailbox.{Mailbox, has_borrows}
use Rattle.iox2_machine.specs.machine.Records.{Subscriber, Environment}
use Rattle.iox2_machine.specs.machine.State.{State, with_mailbox, connected_publishers, subscriber_changed}
use Rattle.iox2_machine.specs.machine.State.{receiver_channels_reset}
use Rattle.iox2_machine.specs.machine.SubscriberUpdate.{ReceiverSide, UpdateSubscriber, with_receiver_side}
use Rattle.iox2_machine.specs.machine.Receives.{Receive, TakeSample, ReceiveResult, Got_sample, No_sample}
use Rattle.iox2_machine.specs.machine.Receives.{Receive_error}
use Rattle.iox2_machine.specs.machine.Releases.{released, is_unused, pruned, unborrowed, subscriber_pruned, place_freed}
use Rattle.iox2_machine.specs.declared.errors.ConnectionFailure.{ConnectionFailure}
use Rattle.iox2_laws.proofs.Cases.{by_option, by_bool}
use Rattle.iox2_laws.proofs.Puts.{put_at-other, at_each, found_mapped}
use Rattle.iox2_commands.specs.Views.{public_part}
use Rattle.iox2_commands.proofs.AlikeViews.{view_of, same_parts, others_same, cell_other, receiver_reset_apart}

-- a change that leaves the public part
pub public_map : (g : Subscriber → Subscriber) → ((y : Subscriber) → public_part (Some (g y)) ≡ public_part (Some y))
    → (o : Option Subscriber)
    → public_part (option_map g o) ≡ public_part o
public_map g same None = refl
public_map g same (Some y) = same y

module _ {T U : Type 0} where
  -- Every subscriber with a record is open, but for q.
  abbrev pub AllOpen : (q : ℕ) → State T U → Type 0
  AllOpen q s = (r : ℕ) (y : Subscriber) → r ≢ q → s.subscribers r ≡ Some y → y.is_open ≡ true

  -- an open subscriber isn't unused
  open_is_used : (q : ℕ) (s : State T U) (r : ℕ) → r ≢ q → AllOpen q s → is_unused s r ≡ false
  open_is_used q s r apart all = at (s.subscribers r) refl
    where
      at : (v : Option Subscriber) → s.subscribers r ≡ v
          → option_map_or (λ (y : Subscriber). not y.is_open && list_all (λ p. not (has_borrows (s.mailboxes p r)))
          (connected_publishers y)) v false ≡ false
      at None e = refl
      at (Some y) e = let opened : y.is_open ≡ true = all r y apart e in rw opened refl

  -- all subscribers stay open where one is changed and stays so
  pub changed_open : (q : ℕ) (s : State T U) (r : ℕ) (g : Subscriber → Subscriber)
      → ((y : Subscriber) → (g y).is_open ≡ y.is_open) → AllOpen q s
      → AllOpen q (subscriber_changed s r g)
  changed_open q s r g same all i z apart e =
      at_each s.subscribers r (option_map g (s.subscribers r)) (λ k v. k ≢ q → v ≡ Some z → z.is_open ≡ true) i
      (λ _ apart e. found_mapped g (s.subscribers r) z (z.is_open ≡ true) e
      (λ y f h. ap (λ (v : Subscriber). v.is_open) h ∙ same y ∙ all r y apart f))
      (λ _ apart e. all i z apart e) apart e

  -- a release of an open subscriber frees no place
  released_is : (q : ℕ) (s : State T U) (p r n : ℕ) → r ≢ q → AllOpen q s
      → released s p r n ≡ receiver_channels_reset (subscriber_pruned (unborrowed s p r n) r) r
  released_is q s p r n apart all =
      let used : is_unused (subscriber_pruned (unborrowed s p r n) r) r ≡ false =
      open_is_used q (subscriber_pruned (unborrowed s p r n) r) r apart
      (changed_open q (unborrowed s p r n) r (pruned (unborrowed s p r n) r) (λ y. refl) all) in
      ap (λ (b : Bool). receiver_channels_reset (cond b (place_freed (subscriber_pruned (unborrowed s p r n) r) r)
      (subscriber_pruned (unborrowed s p r n) r)) r) used

  module _ (q r : ℕ) (apart : eqb q r ≡ false) where
    side_apart : (s : State T U) (y : Subscriber) (side : ReceiverSide) → s.subscribers r ≡ Some y
        → view_of q (with_receiver_side s r y side) ≡ view_of q s
    side_apart s y side e =
        same_parts (view_of q s) _ _ _
        (λ i. others_same s r (Some (record y { ends = side.ends; expired = side.expired; is_due = side.is_due })) i
        (ap public_part (sym e)))
        (put_at-other s.subscribers r _ q apart)
        (λ p. put_at-other (s.mailboxes p) r (side.mailboxes p) q apart)

    -- an update of another subscriber
    pub update_apart : (environment : Environment) (s s' : State T U) (failure : Option ConnectionFailure)
        → UpdateSubscriber environment s r s' failure
        → view_of q s' ≡ view_of q s
    update_apart environment s s' failure h =
        by_option (view_of q s' ≡ view_of q s) (s.subscribers r) _ _ h (λ _ v. absurd v) (λ y e h.
        by_bool (view_of q s' ≡ view_of q s) y.is_due _ _ h
        (λ _ h.
        ap (view_of q) h.2 ∙ receiver_reset_apart q r apart (with_receiver_side s r y h.0) ∙ side_apart s y h.0 e)
        (λ _ h. ap (view_of q) h.0))

    -- a change of another subscriber's mailbox
    pub mailbox_apart : (s : State T U) (p : ℕ) (box : Mailbox) → view_of q (with_mailbox s p r box) ≡ view_of q s
    mailbox_apart s p box = λ i. record (view_of q s) { mailboxes = λ k. cell_other s.mailboxes q r p box k apart i }

    take_apart : (s s' : State T U) (y : Subscriber) (result : ReceiveResult) → TakeSample s r y s' result
        → view_of q s' ≡ view_of q s
    take_apart s s' y (Got_sample p n) h = ap (view_of q) h.3 ∙ mailbox_apart s p h.1
    take_apart s s' y No_sample h = ap (view_of q) h.1
    take_apart s s' y (Receive_error e) h = ap (view_of q) h.3

    -- a receive of another subscriber
    pub receive_apart : (environment : Environment) (s s' : State T U) (result : ReceiveResult)
        → Receive environment s r s' result → view_of q s' ≡ view_of q s
    receive_apart environment s s' result h =
        by_option (view_of q s' ≡ view_of q s) h.1 _ _ h.3
        (λ _ k. by_option (view_of q s' ≡ view_of q s) ((h.0).subscribers r) _ _ k (λ _ v. absurd v)
        (λ y _ k. take_apart h.0 s' y result k ∙ update_apart environment s h.0 h.1 h.2))
        (λ f _ k. ap (view_of q) k.0 ∙ update_apart environment s h.0 h.1 h.2)

    pruned_apart : (s : State T U) (g : Subscriber → Subscriber)
        → ((y : Subscriber) → public_part (Some (g y)) ≡ public_part (Some y))
        → view_of q (subscriber_changed s r g) ≡ view_of q s
    pruned_apart s g same = same_parts (view_of q s) _ _ _
        (λ i. others_same s r (option_map g (s.subscribers r)) i (public_map g same (s.subscribers r)))
        (put_at-other s.subscribers r _ q apart) (λ p. refl)

    -- a release of another subscriber
    pub released_apart : (s : State T U) (p n : ℕ) → AllOpen q s → view_of q (released s p r n) ≡ view_of q s
    released_apart s p n all =
        ap (view_of q) (released_is q s p r n (λ same. true≢false (sym (eq-eqb q r (sym same)) ∙ apart)) all)
        ∙ receiver_reset_apart q r apart (subscriber_pruned (unborrowed s p r n) r)
        ∙ pruned_apart (unborrowed s p r n) (pruned (unborrowed s p r n) r) (λ y. refl)
        ∙ mailbox_apart s p _
