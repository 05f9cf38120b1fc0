-- A subscriber's own update and receive from two states that look alike to it.
use Rattle.std.proofs.Common.{◌≡◌, ℕ, Bool, false, List, [], ◌∷◌, ◌++◌, refl, sym, ap, subst, ◌∙◌, Option, None, Some}
use Rattle.std.proofs.Common.{eqb}
use Rattle.iox2_machine.specs.machine.Limits.{expired_limit}
use Rattle.iox2_machine.specs.machine.Numbers.{put_at}
use Rattle.iox2_machine.specs.machine.Mailbox.{Mailbox, BorrowsFirst}
use Rattle.iox2_machine.specs.machine.Records.{Subscriber}
use Rattle.iox2_machine.specs.machine.State.{State, has_sender_end, with_mailbox, no_warnings, receiver_channels_reset}
use Rattle.iox2_machine.specs.machine.SubscriberUpdate.{ReceiverSide, UpdateReceiverSide, UpdateSubscriber}
use Rattle.iox2_machine.specs.machine.SubscriberUpdate.{receiver_side, with_receiver_side}
use Rattle.iox2_machine.specs.machine.Receives.{Receive, TakeSample, ReceiveResult, Got_sample, No_sample}
use Rattle.iox2_machine.specs.machine.Receives.{Receive_error}
use Rattle.iox2_machine.specs.declared.errors.ConnectionFailure.{ConnectionFailure}
use Rattle.iox2_machine.specs.declared.errors.ReceiveError.TheVariants.{ConnectionFailure as CouldNotConnect}
use Rattle.iox2_laws.proofs.Cases.{by_options, by_bools}
use Rattle.iox2_laws.proofs.Puts.{put_at-same}
use Rattle.iox2_machine.specs.machine.Environments.{ample_memory}
use Rattle.iox2_commands.specs.Views.{public_part, seen_handle}
use Rattle.iox2_commands.specs.Outcomes.{Event, No_event, Message_sent, Message_received, Outcome, Sample_handle}
use Rattle.iox2_commands.specs.Step.{after_receive, after_update, after_question}
use Rattle.iox2_commands.proofs.AlikeViews.{View, view_of, others_put, cell_put, receiver_reset_view}
use Rattle.iox2_commands.proofs.AlikeViews.{receiver_reset_seen}
use Rattle.iox2_commands.proofs.AlikeUpdates.{bare, sides_alike}

-- ---- outcomes that look alike

-- What an event says of messages that are sent.
abbrev pub sent_part : {T U : Type 0} → Event T U → Event T U
sent_part No_event = No_event
sent_part (Message_sent p n entry) = Message_sent p n entry
sent_part (Message_received p q n) = No_event

-- Two outcomes that the subscriber q can't tell apart.
pub record IsAlike {T U : Type 0} (q : ℕ) (o o' : Outcome T U) : Type 0 where
  pub state : view_of q o.state ≡ view_of q o'.state
  pub event : sent_part o.event ≡ sent_part o'.event
  pub handle : seen_handle q o.handle ≡ seen_handle q o'.handle

first_alike : (n n' : ℕ) (rest rest' : List ℕ) → n ∷ rest ≡ n' ∷ rest' → (n ≡ n') × (rest ≡ rest')
first_alike n n' rest rest' e = (cc, cc)

-- the message that is taken out of the same mailbox is the same
borrows_alike : (box box' : Mailbox) (n n' : ℕ) (after after' : Mailbox) → box ≡ box' → BorrowsFirst box n after
    → BorrowsFirst box' n' after'
    → (n ≡ n') × (after ≡ after')
borrows_alike box box' n n' after after' e h k =
    let parts : (n ≡ n') × (h.0 ≡ k.0) = first_alike n n' h.0 k.0 (sym h.1 ∙ ap (λ (m : Mailbox). m.waiting) e ∙ k.1) in (
      parts.0,
      h.2 ∙ (λ i. record { waiting = parts.1 i; borrowed = (e i).borrowed ++ parts.0 i ∷ []; others = (e i).others })
          ∙ sym k.2,
    )

module _ {T U : Type 0} (q : ℕ) where
  -- two outcomes are alike the other way round too
  pub alike_sym : (o o' : Outcome T U) → IsAlike q o o' → IsAlike q o' o
  alike_sym o o' a = record { state = sym a.state; event = sym a.event; handle = sym a.handle }

  -- and over a third
  pub alike_trans : (o o' o'' : Outcome T U) → IsAlike q o o' → IsAlike q o' o'' → IsAlike q o o''
  alike_trans o o' o'' a b =
      record { state = a.state ∙ b.state; event = a.event ∙ b.event; handle = a.handle ∙ b.handle }

  -- equal outcomes are alike where those are
  pub alike_equal : (o x o' y : Outcome T U) → o ≡ x → o' ≡ y → IsAlike q x y → IsAlike q o o'
  alike_equal o x o' y e f a = subst (λ v. IsAlike q v o') (sym e) (subst (IsAlike q x) (sym f) a)

  -- ---- the update

  abbrev receiver_changed : Subscriber → View T U → ReceiverSide → View T U
  receiver_changed y v side = record v {
    others = put_at v.others q (public_part (Some y));
    own = Some (record y { ends = side.ends; expired = side.expired; is_due = side.is_due });
    mailboxes = side.mailboxes;
  }

  receiver_seen : (s : State T U) (y : Subscriber) (side : ReceiverSide)
      → view_of q (with_receiver_side s q y side) ≡ receiver_changed y (view_of q s) side
  receiver_seen s y side = λ i. record (view_of q s) {
    others =
        λ r. others_put s q (Some (record y { ends = side.ends; expired = side.expired; is_due = side.is_due })) r i;
    own = put_at-same s.subscribers q
        (Some (record y { ends = side.ends; expired = side.expired; is_due = side.is_due })) i;
    mailboxes = λ p. put_at-same (s.mailboxes p) q (side.mailboxes p) i;
  }

  reset_seen : (s : State T U) (y : Subscriber) (side : ReceiverSide)
      → view_of q (receiver_channels_reset (with_receiver_side s q y side) q) ≡ receiver_reset_view q (eqb q q)
      (receiver_changed y (view_of q s) side)
  reset_seen s y side = receiver_reset_seen q (with_receiver_side s q y side) q
      ∙ ap (receiver_reset_view q (eqb q q)) (receiver_seen s y side)

  -- Two updates of the subscriber itself end alike, and with the same answer.
  pub update_subscriber_alike : (a b a' b' : State T U) (f g : Option ConnectionFailure) → view_of q a ≡ view_of q b
      → UpdateSubscriber ample_memory a q a' f → UpdateSubscriber ample_memory b q b' g
      → (view_of q a' ≡ view_of q b') × (f ≡ g)
  update_subscriber_alike a b a' b' f g e h k =
      by_options ((view_of q a' ≡ view_of q b') × (f ≡ g)) (a.subscribers q) (b.subscribers q) _ _ _ _
      (ap (λ (v : View T U). v.own) e) h k (λ _ v _. absurd v) (λ y _ h k.
      by_bools ((view_of q a' ≡ view_of q b') × (f ≡ g)) y.is_due y.is_due _ _ _ _ refl h k
      (λ _ h k.
      let k1 : UpdateReceiverSide ample_memory (b.config).service_id q y.degradation_handler (expired_limit a.config)
      (λ p. has_sender_end b p q) a.publisher_places (receiver_side b q y) k.0 g =
      subst (λ (v : View T U). UpdateReceiverSide ample_memory (b.config).service_id q y.degradation_handler
      (expired_limit v.config) (λ p. has_sender_end b p q) v.publisher_places (receiver_side b q y) k.0 g)
      (sym e) k.1 in
      let sides : (bare h.0 ≡ bare k.0) × (f ≡ g) =
      sides_alike (a.config).service_id (b.config).service_id q y.degradation_handler y.degradation_handler
      (expired_limit a.config) (λ p. has_sender_end a p q) (λ p. has_sender_end b p q)
      a.publisher_places (receiver_side a q y) h.0 (receiver_side b q y) k.0 f g
      (ap (λ (v : View T U). record {
        ends = y.ends;
        expired = y.expired;
        is_due = false;
        mailboxes = v.mailboxes;
        warnings = no_warnings;
      }) e) h.1 k1 in (
        ap (view_of q) h.2 ∙ reset_seen a y h.0
            ∙ (λ i. receiver_reset_view q (eqb q q) (receiver_changed y (e i) (sides.0 i)))
            ∙ sym (reset_seen b y k.0) ∙ sym (ap (view_of q) k.2),
        sides.1,
      ))
      (λ _ h k. (ap (view_of q) h.0 ∙ e ∙ sym (ap (view_of q) k.0), h.1 ∙ sym k.1)))

  -- ---- the receive

  mailbox_seen : (s : State T U) (p : ℕ) (box : Mailbox)
      → view_of q (with_mailbox s p q box) ≡ record (view_of q s) { mailboxes = put_at (λ k. s.mailboxes k q) p box }
  mailbox_seen s p box = λ i. record (view_of q s) { mailboxes = λ k. cell_put s.mailboxes q p box k i }

  got_alike : (a' b' : State T U) (p p' n n' : ℕ) → view_of q a' ≡ view_of q b' → p ≡ p' → n ≡ n'
      → IsAlike q (after_receive a' q (Got_sample p n)) (after_receive b' q (Got_sample p' n'))
  got_alike a' b' p p' n n' e f g =
      record { state = e; event = refl; handle = λ i. seen_handle q (Sample_handle (f i) q (g i)) }

  take_alike : (a b a' b' : State T U) (y : Subscriber) (result result' : ReceiveResult) → view_of q a ≡ view_of q b
      → TakeSample a q y a' result → TakeSample b q y b' result'
      → (after_receive a' q result).reply ≡ (after_receive b' q result').reply
      → IsAlike q (after_receive a' q result) (after_receive b' q result')
  take_alike a b a' b' y (Got_sample p n) (Got_sample p' n') e h k same =
      let origin : p ≡ p' = cc in
      let taken : (n ≡ n') × (h.1 ≡ k.1) =
      borrows_alike (a.mailboxes p q) (b.mailboxes p' q) n n' h.1 k.1 (λ i. (e i).mailboxes (origin i)) h.2 k.2 in
      got_alike a' b' p p' n n'
      (ap (view_of q) h.3 ∙ mailbox_seen a p h.1
      ∙ (λ i. record (e i) { mailboxes = put_at (e i).mailboxes (origin i) (taken.1 i) })
      ∙ sym (mailbox_seen b p' k.1) ∙ sym (ap (view_of q) k.3))
      origin taken.0
  take_alike a b a' b' y No_sample No_sample e h k same =
      record { state = ap (view_of q) h.1 ∙ e ∙ sym (ap (view_of q) k.1); event = refl; handle = refl }
  take_alike a b a' b' y (Receive_error x) (Receive_error x') e h k same =
      record { state = ap (view_of q) h.3 ∙ e ∙ sym (ap (view_of q) k.3); event = refl; handle = refl }
  take_alike a b a' b' y (Got_sample p n) No_sample e h k same = absurd (cc)
  take_alike a b a' b' y (Got_sample p n) (Receive_error x) e h k same = absurd (cc)
  take_alike a b a' b' y No_sample (Got_sample p n) e h k same = absurd (cc)
  take_alike a b a' b' y No_sample (Receive_error x) e h k same = absurd (cc)
  take_alike a b a' b' y (Receive_error x) (Got_sample p n) e h k same = absurd (cc)
  take_alike a b a' b' y (Receive_error x) No_sample e h k same = absurd (cc)

  -- a receive that failed has the state of the update
  failed_alike : (x y a' b' : State T U) (e : ConnectionFailure) (result result' : ReceiveResult)
      → view_of q x ≡ view_of q y
      → (a' ≡ x) × (result ≡ Receive_error (CouldNotConnect e))
      → (b' ≡ y) × (result' ≡ Receive_error (CouldNotConnect e))
      → IsAlike q (after_receive a' q result) (after_receive b' q result')
  failed_alike x y a' b' e result result' same h k =
      alike_equal (after_receive a' q result) (after_receive x q (Receive_error (CouldNotConnect e)))
      (after_receive b' q result') (after_receive y q (Receive_error (CouldNotConnect e)))
      (λ i. after_receive (h.0 i) q (h.1 i)) (λ i. after_receive (k.0 i) q (k.1 i))
      (record { state = same; event = refl; handle = refl })

  -- two receives with the same reply
  pub receive_alike : (a b a' b' : State T U) (result result' : ReceiveResult) → view_of q a ≡ view_of q b
      → Receive ample_memory a q a' result → Receive ample_memory b q b' result'
      → (after_receive a' q result).reply ≡ (after_receive b' q result').reply
      → IsAlike q (after_receive a' q result) (after_receive b' q result')
  receive_alike a b a' b' result result' e h k same =
      let updated : (view_of q h.0 ≡ view_of q k.0) × (h.1 ≡ k.1) =
      update_subscriber_alike a b h.0 k.0 h.1 k.1 e h.2 k.2 in
      by_options (IsAlike q (after_receive a' q result) (after_receive b' q result')) h.1 k.1 _ _ _ _ updated.1 h.3 k.3
      (λ _ j l. by_options (IsAlike q (after_receive a' q result) (after_receive b' q result')) ((h.0).subscribers q)
      ((k.0).subscribers q) _ _ _ _ (ap (λ (v : View T U). v.own) updated.0) j l
      (λ _ v _. absurd v)
      (λ y _ j l. take_alike h.0 k.0 a' b' y result result' updated.0 j l same))
      (λ failure _ j l. failed_alike h.0 k.0 a' b' failure result result' updated.0 j l)

  -- the outcome of an update
  pub after_update_alike : (a' b' : State T U) (f g : Option ConnectionFailure) → view_of q a' ≡ view_of q b'
      → IsAlike q (after_update a' f) (after_update b' g)
  after_update_alike a' b' None None e = record { state = e; event = refl; handle = refl }
  after_update_alike a' b' None (Some y) e = record { state = e; event = refl; handle = refl }
  after_update_alike a' b' (Some x) None e = record { state = e; event = refl; handle = refl }
  after_update_alike a' b' (Some x) (Some y) e = record { state = e; event = refl; handle = refl }

  -- the outcome of a question
  pub after_question_alike : (a' b' : State T U) (f g : Option ConnectionFailure) (has has' : Bool)
      → view_of q a' ≡ view_of q b'
      → IsAlike q (after_question a' f has) (after_question b' g has')
  after_question_alike a' b' None None has has' e = record { state = e; event = refl; handle = refl }
  after_question_alike a' b' None (Some y) has has' e = record { state = e; event = refl; handle = refl }
  after_question_alike a' b' (Some x) None has has' e = record { state = e; event = refl; handle = refl }
  after_question_alike a' b' (Some x) (Some y) has has' e = record { state = e; event = refl; handle = refl }
