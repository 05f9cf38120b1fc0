-- Updates from two states that look alike to a subscriber end in states that do.
use Rattle.std.proofs.Common.{◌≡◌, ℕ, ◌+◌, Bool, true, false, cond, List, [], ◌∷◌, refl, sym, ap, subst, ◌∙◌, Option}
use Rattle.std.proofs.Common.{None, Some, eqb, ⊎_elim}
use Rattle.std.proofs.lemmas.Bool.{eqb-true}
use Rattle.iox2_machine.specs.machine.Numbers.{put_at, last_n}
use Rattle.iox2_machine.specs.machine.Places.{occupant, set_place}
use Rattle.iox2_machine.specs.machine.Channel.{is_closed}
use Rattle.iox2_machine.specs.machine.Mailbox.{Mailbox, waiting_dropped, with_waiting}
use Rattle.iox2_machine.specs.machine.Records.{Publisher, Handler}
use Rattle.iox2_machine.specs.machine.State.{State, receiving_buffer, has_receiver_end, no_warnings}
use Rattle.iox2_machine.specs.machine.State.{sender_channels_reset}
use Rattle.iox2_machine.specs.machine.Connections.{ForEachPlace, first_failure, expired_buffer_full}
use Rattle.iox2_machine.specs.machine.PublisherUpdate.{SenderSide, SenderAction, Keep_end, Drop_waiting, Disconnect}
use Rattle.iox2_machine.specs.machine.PublisherUpdate.{Connect, sender_action, dropped, disconnected, connected}
use Rattle.iox2_machine.specs.machine.PublisherUpdate.{Performs, UpdateSenderPlace, UpdatePublisher, sender_side}
use Rattle.iox2_machine.specs.machine.PublisherUpdate.{with_sender_side, history_for}
use Rattle.iox2_machine.specs.machine.SubscriberUpdate.{ReceiverSide, Retirement, Keep_expired, Evict, Discard_data}
use Rattle.iox2_machine.specs.machine.SubscriberUpdate.{Refuse, retirement_of, after_retirement, is_refused, with_end}
use Rattle.iox2_machine.specs.machine.SubscriberUpdate.{ConnectReceiver, Retire, ConnectAtPlace, DisconnectAtPlace}
use Rattle.iox2_machine.specs.machine.SubscriberUpdate.{UpdateReceiverSide}
use Rattle.iox2_machine.specs.declared.degradation.DegradationAction.{DegradationAction}
use Rattle.iox2_machine.specs.declared.errors.ConnectionFailure.{ConnectionFailure}
use Rattle.iox2_laws.proofs.Cases.{by_options, by_bools}
use Rattle.iox2_machine.specs.machine.Environments.{ample_memory}
use Rattle.iox2_commands.proofs.AlikeViews.{View, view_of, row_put, same_buffers, sender_reset_view, sender_reset_seen}

-- two walks over the same places, each step of which keeps what is alike, keep it
each_alike : {Side : Type 0} (At At' : ℕ → Option ℕ → Side → Side → Option ConnectionFailure → Type 0)
    (Alike : Side → Side → Type 0)
    → ((place : ℕ) (at : Option ℕ) (a a' b b' : Side) (f g : Option ConnectionFailure) → Alike a b → At place at a a' f
    → At' place at b b' g → Alike a' b' × (f ≡ g))
    → (place : ℕ) (places : List (Option ℕ)) (a a' b b' : Side) (f g : Option ConnectionFailure) → Alike a b
    → ForEachPlace At place places a a' f
    → ForEachPlace At' place places b b' g → Alike a' b' × (f ≡ g)
each_alike At At' Alike go place [] a a' b b' f g same h k =
    (subst (λ x. Alike x b') (sym h.0) (subst (Alike a) (sym k.0) same), h.1 ∙ sym k.1)
each_alike At At' Alike go place (at ∷ rest) a a' b b' f g same h k =
    let here : Alike h.0 k.0 × (h.1 ≡ k.1) = go place at a h.0 b k.0 h.1 k.1 same h.3 k.3 in
    let there : Alike a' b' × (h.2 ≡ k.2) =
    each_alike At At' Alike go (place + 1) rest h.0 a' k.0 b' h.2 k.2 here.0 h.4 k.4 in
    (there.0, h.5 ∙ ap (λ v. first_failure v h.2) here.1 ∙ ap (first_failure k.1) there.1 ∙ sym k.5)

-- ---- a publisher's update

-- Two sides of a publisher with the same ends and the same mailbox with q.
pub record SameSenders (q : ℕ) (a b : SenderSide) : Type 0 where
  pub ends : a.ends ≡ b.ends
  pub mailbox : a.mailboxes q ≡ b.mailboxes q

-- a mailbox that is changed the same way in both
put_alike : (q : ℕ) (f g : ℕ → Mailbox) (r : ℕ) (change : Mailbox → Mailbox) → f q ≡ g q
    → put_at f r (change (f r)) q ≡ put_at g r (change (g r)) q
put_alike q f g r change e =
    elim (eqb q r) as (λ b. eqb q r ≡ b → cond b (change (f r)) (f q) ≡ cond b (change (g r)) (g q)) [
      | true ↦ λ t. ap change (ap f (sym (eqb-true q r t)) ∙ e ∙ ap g (eqb-true q r t))
      | false ↦ λ _. e
    ] refl

dropped_alike : (q : ℕ) (a b : SenderSide) (r : ℕ) → SameSenders q a b → SameSenders q (dropped a r) (dropped b r)
dropped_alike q a b r same =
    record { ends = same.ends; mailbox = put_alike q a.mailboxes b.mailboxes r waiting_dropped same.mailbox }

disconnected_at : (q : ℕ) (a b : SenderSide) (place : ℕ) (end : Option ℕ) → SameSenders q a b
    → SameSenders q (disconnected a place end) (disconnected b place end)
disconnected_at q a b place None same = same
disconnected_at q a b place (Some r) same =
    let d : SameSenders q (dropped a r) (dropped b r) = dropped_alike q a b r same in
    record { ends = ap (λ v. set_place v place None) same.ends; mailbox = d.mailbox }

-- a mailbox that is changed in both, and the same way if it is that of q
put_alike_if : (q : ℕ) (f g : ℕ → Mailbox) (r : ℕ) (change change' : Mailbox → Mailbox) → (r ≡ q → change ≡ change')
    → f q ≡ g q
    → put_at f r (change (f r)) q ≡ put_at g r (change' (g r)) q
put_alike_if q f g r change change' same e =
    elim (eqb q r) as (λ b. eqb q r ≡ b → cond b (change (f r)) (f q) ≡ cond b (change' (g r)) (g q)) [
      | true ↦ λ t. ap change (ap f (sym (eqb-true q r t)) ∙ e ∙ ap g (eqb-true q r t))
          ∙ ap (λ (c : Mailbox → Mailbox). c (g r)) (same (sym (eqb-true q r t)))
      | false ↦ λ _. e
    ] refl

disconnected_alike : (q : ℕ) (a b : SenderSide) (place : ℕ) → SameSenders q a b
    → SameSenders q (disconnected a place (occupant a.ends place)) (disconnected b place (occupant b.ends place))
disconnected_alike q a b place same =
    subst (λ v. SameSenders q (disconnected a place (occupant a.ends place)) (disconnected b place (occupant v place)))
    same.ends
    (disconnected_at q a b place (occupant a.ends place) same)

connected_alike : (q : ℕ) (histories histories' : ℕ → List ℕ) (a b : SenderSide) (place r buffer : ℕ)
    → histories q ≡ histories' q → SameSenders q a b
    → SameSenders q (connected (histories r) a place r buffer) (connected (histories' r) b place r buffer)
connected_alike q histories histories' a b place r buffer own same = record {
  ends = ap (λ v. set_place v place (Some r)) same.ends;
  mailbox = put_alike_if q a.mailboxes b.mailboxes r (with_waiting (last_n buffer (histories r)))
      (with_waiting (last_n buffer (histories' r)))
      (λ is. ap (λ ns. with_waiting (last_n buffer ns)) (subst (λ k. histories k ≡ histories' k) (sym is) own))
      same.mailbox;
}

module _ (q : ℕ) (service_id service_id' p : ℕ) (handler handler' : Handler DegradationAction)
    (histories histories' : ℕ → List ℕ) (own : histories q ≡ histories' q)
    (buffers : ℕ → Option ℕ) (has has' : ℕ → Bool) where
  abbrev DoesA : SenderAction → (place : ℕ) → SenderSide → SenderSide → Option ConnectionFailure → Type 0
  DoesA = Performs ample_memory service_id p handler histories buffers has

  abbrev DoesB : SenderAction → (place : ℕ) → SenderSide → SenderSide → Option ConnectionFailure → Type 0
  DoesB = Performs ample_memory service_id' p handler' histories' buffers has'

  ended : (x y a' b' : SenderSide) (f g : Option ConnectionFailure) → SameSenders q x y → (a' ≡ x) × (f ≡ None)
      → (b' ≡ y) × (g ≡ None) → SameSenders q a' b' × (f ≡ g)
  ended x y a' b' f g same h k =
      (subst (λ v. SameSenders q v b') (sym h.0) (subst (SameSenders q x) (sym k.0) same), h.1 ∙ sym k.1)

  performed_alike : (action : SenderAction) (place : ℕ) (a a' b b' : SenderSide) (f g : Option ConnectionFailure)
      → SameSenders q a b
      → DoesA action place a a' f → DoesB action place b b' g → SameSenders q a' b' × (f ≡ g)
  performed_alike Keep_end place a a' b b' f g same h k = ended a b a' b' f g same h k
  performed_alike (Drop_waiting r) place a a' b b' f g same h k = ended _ _ a' b' f g (dropped_alike q a b r same) h k
  performed_alike Disconnect place a a' b b' f g same h k =
      ended _ _ a' b' f g (disconnected_alike q a b place same) h k
  performed_alike (Connect r buffer) place a a' b b' f g same h k =
      ⊎_elim
      (λ made. ⊎_elim
      (λ made'. ended _ _ a' b' f g (connected_alike q histories histories' _ _ place r buffer own
      (disconnected_alike q a b place same)) made made')
      (λ refused. absurd (refused.2).1) k)
      (λ refused. absurd (refused.2).1) h

  place_alike : (place : ℕ) (at : Option ℕ) (a a' b b' : SenderSide) (f g : Option ConnectionFailure)
      → SameSenders q a b
      → UpdateSenderPlace ample_memory service_id p handler histories buffers has place at a a' f
      → UpdateSenderPlace ample_memory service_id' p handler' histories' buffers has' place at b b' g
      → SameSenders q a' b' × (f ≡ g)
  place_alike place at a a' b b' f g same h k =
      performed_alike (sender_action buffers at (occupant a.ends place)) place a a' b b' f g same h
      (subst (λ v. DoesB (sender_action buffers at (occupant v place)) place b b' g) (sym same.ends) k)

module _ {T U : Type 0} (q : ℕ) where
  -- the view with another side of the publisher
  abbrev sender_changed : (p : ℕ) → Publisher → View T U → List (Option ℕ) → Mailbox → View T U
  sender_changed p x v ends box =
      record v {
        publishers = put_at v.publishers p (Some (record x { ends = ends; is_due = false }));
        mailboxes = put_at v.mailboxes p box;
      }

  sender_seen : (s : State T U) (p : ℕ) (x : Publisher) (side : SenderSide)
      → view_of q (with_sender_side s p x side) ≡ sender_changed p x (view_of q s) side.ends (side.mailboxes q)
  sender_seen s p x side = λ i. record (view_of q s) {
    publishers = put_at s.publishers p (Some (record x { ends = side.ends; is_due = false }));
    mailboxes = λ k. row_put q s.mailboxes p side.mailboxes k i;
  }

  reset_seen : (s : State T U) (p : ℕ) (x : Publisher) (side : SenderSide)
      → view_of q (sender_channels_reset (with_sender_side s p x side) p) ≡ sender_reset_view q p
      (sender_changed p x (view_of q s) side.ends (side.mailboxes q))
  reset_seen s p x side =
      sender_reset_seen q (with_sender_side s p x side) p ∙ ap (sender_reset_view q p) (sender_seen s p x side)

  -- Two updates of a publisher end alike, and with the same answer.
  pub update_publisher_alike : (a b a' b' : State T U) (p : ℕ) (f g : Option ConnectionFailure)
      → view_of q a ≡ view_of q b
      → UpdatePublisher ample_memory a p a' f → UpdatePublisher ample_memory b p b' g
      → (view_of q a' ≡ view_of q b') × (f ≡ g)
  update_publisher_alike a b a' b' p f g e h k =
      by_options ((view_of q a' ≡ view_of q b') × (f ≡ g)) (a.publishers p) (b.publishers p) _ _ _ _
      (ap (λ (v : View T U). v.publishers p) e) h k (λ _ v _. absurd v) (λ x _ h k.
      by_bools ((view_of q a' ≡ view_of q b') × (f ≡ g)) x.is_due x.is_due _ _ _ _ refl h k
      (λ _ h k.
      let k1 : ForEachPlace (UpdateSenderPlace ample_memory (b.config).service_id p x.degradation_handler
      (history_for b p x) (receiving_buffer a) (has_receiver_end b p)) 0 a.subscriber_places (sender_side b p x) k.0 g =
      subst (λ v. ForEachPlace (UpdateSenderPlace ample_memory (b.config).service_id p x.degradation_handler
      (history_for b p x) (receiving_buffer a) (has_receiver_end b p)) 0 v (sender_side b p x) k.0 g)
      (sym (ap (λ (v : View T U). v.subscriber_places) e))
      (subst (λ v. ForEachPlace (UpdateSenderPlace ample_memory (b.config).service_id p x.degradation_handler
      (history_for b p x) v (has_receiver_end b p)) 0 b.subscriber_places (sender_side b p x) k.0 g)
      (sym (same_buffers q a b e)) k.1) in
      let sides : SameSenders q h.0 k.0 × (f ≡ g) =
      each_alike _ _ (SameSenders q)
      (place_alike q (a.config).service_id (b.config).service_id p x.degradation_handler x.degradation_handler
      (history_for a p x) (history_for b p x)
      (ap (λ (v : View T U). cond (is_closed (v.channels p 0)) [] x.history) e) (receiving_buffer a)
      (has_receiver_end a p) (has_receiver_end b p))
      0 a.subscriber_places (sender_side a p x) h.0 (sender_side b p x) k.0 f g
      (record { ends = refl; mailbox = ap (λ (v : View T U). v.mailboxes p) e }) h.1 k1 in (
        ap (view_of q) h.2 ∙ reset_seen a p x h.0
            ∙ (λ i. sender_reset_view q p (sender_changed p x (e i) ((sides.0).ends i) ((sides.0).mailbox i)))
            ∙ sym (reset_seen b p x k.0) ∙ sym (ap (view_of q) k.2),
        sides.1,
      ))
      (λ _ h k. (ap (view_of q) h.0 ∙ e ∙ sym (ap (view_of q) k.0), h.1 ∙ sym k.1)))

-- ---- a subscriber's own update

-- a side without its warnings
abbrev pub bare : ReceiverSide → ReceiverSide
bare side = record side { warnings = no_warnings }

retirement_seen : (q : ℕ) (side : ReceiverSide) (p : ℕ) (how : Retirement)
    → bare (after_retirement q side p how) ≡ bare (after_retirement q (bare side) p how)
retirement_seen q side p Keep_expired = refl
retirement_seen q side p (Evict first) = refl
retirement_seen q side p Discard_data = refl
retirement_seen q side p Refuse = refl

retirement_alike : (q : ℕ) (a b : ReceiverSide) (p : ℕ) (how : Retirement) → bare a ≡ bare b
    → bare (after_retirement q a p how) ≡ bare (after_retirement q b p how)
retirement_alike q a b p how e =
    retirement_seen q a p how ∙ ap (λ v. bare (after_retirement q v p how)) e ∙ sym (retirement_seen q b p how)

module _ (service_id service_id' q : ℕ) (handler handler' : Handler DegradationAction) (limit : ℕ)
    (has has' : ℕ → Bool) where
  abbrev Both : (a' b' : ReceiverSide) (f g : Option ConnectionFailure) → Type 0
  Both a' b' f g = (bare a' ≡ bare b') × (f ≡ g)

  came : (x y a' b' : ReceiverSide) (v f g : Option ConnectionFailure) → bare x ≡ bare y → (a' ≡ x) × (f ≡ v)
      → (b' ≡ y) × (g ≡ v) → Both a' b' f g
  came x y a' b' v f g same h k = (ap bare h.0 ∙ same ∙ sym (ap bare k.0), h.1 ∙ sym k.1)

  connect_alike : (a a' b b' : ReceiverSide) (place p : ℕ) (f g : Option ConnectionFailure) → bare a ≡ bare b
      → ConnectReceiver ample_memory service_id q handler limit has a place p a' f
      → ConnectReceiver ample_memory service_id' q handler' limit has' b place p b' g
      → Both a' b' f g
  connect_alike a a' b b' place p f g same h k =
      ⊎_elim
      (λ made. ⊎_elim
      (λ made'. came (with_end a place (Some p)) (with_end b place (Some p)) a' b' None f g
      (ap (λ v. with_end v place (Some p)) same) made made')
      (λ refused. absurd (refused.2).1) k)
      (λ refused. absurd (refused.2).1) h

  retire_alike : (a a' b b' : ReceiverSide) (place old : ℕ) (f g : Option ConnectionFailure)
      (Then Then' : ReceiverSide → Type 0) → bare a ≡ bare b
      → ((x y : ReceiverSide) → bare x ≡ bare y → Then x → Then' y → Both a' b' f g)
      → Retire ample_memory service_id q handler limit has a place old a' f Then
      → Retire ample_memory service_id' q handler' limit has' b place old b' g Then'
      → Both a' b' f g
  retire_alike a a' b b' place old f g Then Then' same go h k =
      let how : Retirement = retirement_of limit a.mailboxes a.expired old in
      let how' : Retirement = retirement_of limit b.mailboxes b.expired old in
      let decided : how ≡ how' = ap (λ (v : ReceiverSide). retirement_of limit v.mailboxes v.expired old) same in
      let after : bare (after_retirement q a old how) ≡ bare (after_retirement q b old how') =
      retirement_alike q a b old how same ∙ ap (λ v. bare (after_retirement q b old v)) decided in
      by_bools (Both a' b' f g) (is_refused how) (is_refused how') _ _ _ _ (ap is_refused decided) h k
      (λ _ h k. came (after_retirement q a old how) (after_retirement q b old how') a' b'
      (Some expired_buffer_full) f g after h k)
      (λ _ h k. go _ _ (ap (λ v. with_end v place None) after) h k)

  connect_place_alike : (place : ℕ) (at : Option ℕ) (a a' b b' : ReceiverSide) (f g : Option ConnectionFailure)
      → bare a ≡ bare b
      → ConnectAtPlace ample_memory service_id q handler limit has place at a a' f
      → ConnectAtPlace ample_memory service_id' q handler' limit has' place at b b' g
      → Both a' b' f g
  connect_place_alike place at a a' b b' f g same h k =
      by_options (Both a' b' f g) at at _ _ _ _ refl h k (λ _ h k. came a b a' b' None f g same h k) (λ p _ h k.
      by_options (Both a' b' f g) (occupant a.ends place) (occupant b.ends place) _ _ _ _
      (ap (λ (v : ReceiverSide). occupant v.ends place) same) h k
      (λ _ h k. connect_alike a a' b b' place p f g same h k) (λ old _ h k.
      by_bools (Both a' b' f g) (eqb old p) (eqb old p) _ _ _ _ refl h k
      (λ _ h k. came a b a' b' None f g same h k)
      (λ _ h k.
      retire_alike a a' b b' place old f g _ _ same (λ x y e h k. connect_alike x a' y b' place p f g e h k) h k)))

  disconnect_place_alike : (place : ℕ) (at : Option ℕ) (a a' b b' : ReceiverSide) (f g : Option ConnectionFailure)
      → bare a ≡ bare b
      → DisconnectAtPlace ample_memory service_id q handler limit has place at a a' f
      → DisconnectAtPlace ample_memory service_id' q handler' limit has' place at b b' g → Both a' b' f g
  disconnect_place_alike place at a a' b b' f g same h k =
      by_options (Both a' b' f g) at at _ _ _ _ refl h k
      (λ _ h k. by_options (Both a' b' f g) (occupant a.ends place) (occupant b.ends place) _ _ _ _
      (ap (λ (v : ReceiverSide). occupant v.ends place) same) h k
      (λ _ h k. came a b a' b' None f g same h k)
      (λ old _ h k. retire_alike a a' b b' place old f g _ _ same (λ x y e h k. came x y a' b' None f g e h k) h k))
      (λ _ _ h k. came a b a' b' None f g same h k)

  -- both walks over the publishers' places
  pub sides_alike : (places : List (Option ℕ)) (a a' b b' : ReceiverSide) (f g : Option ConnectionFailure)
      → bare a ≡ bare b
      → UpdateReceiverSide ample_memory service_id q handler limit has places a a' f
      → UpdateReceiverSide ample_memory service_id' q handler' limit has' places b b' g → Both a' b' f g
  sides_alike places a a' b b' f g same h k =
      let one : Both h.0 k.0 h.1 k.1 =
      each_alike _ _ (λ x y. bare x ≡ bare y) connect_place_alike 0 places a h.0 b k.0 h.1 k.1 same h.3 k.3 in
      let two : Both a' b' h.2 k.2 =
      each_alike _ _ (λ x y. bare x ≡ bare y) disconnect_place_alike 0 places h.0 a' k.0 b' h.2 k.2 one.0 h.4 k.4 in
      (two.0, h.5 ∙ ap (λ v. first_failure v h.2) one.1 ∙ ap (first_failure k.1) two.1 ∙ sym k.5)
