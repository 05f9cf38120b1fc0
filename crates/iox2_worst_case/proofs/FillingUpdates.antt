-- The publisher is connected with a new subscriber on the way to full slots.
use Rattle.std.proofs.Common.{◌≡◌, ℕ, zero, suc, ◌+◌, ◌≤◌, ◌<◌, Bool, true, false, cond, List, [], ◌∷◌, ◌++◌, refl, sym}
use Rattle.std.proofs.Common.{ap, subst, ◌∙◌, arith, Option, None, Some, option_and_then, ⊎_elim}
use Rattle.std.specs.Prelude.{slice_get}
use Rattle.std.proofs.lemmas.Bool.{eq-eqb, cond_both}
use Rattle.iox2_machine.specs.machine.Limits.{buffer_limit}
use Rattle.iox2_machine.specs.machine.Numbers.{last_n, put_at}
use Rattle.iox2_machine.specs.machine.Places.{occupant, is_port}
use Rattle.iox2_machine.specs.machine.Channel.{Channel, new_channels, is_closed}
use Rattle.iox2_machine.specs.machine.Mailbox.{Mailbox, with_waiting}
use Rattle.iox2_machine.specs.machine.Records.{Publisher, Subscriber, Handler}
use Rattle.iox2_machine.specs.machine.State.{State, Messages, receiving_buffer, has_receiver_end, is_linked}
use Rattle.iox2_machine.specs.machine.State.{sender_channels_reset}
use Rattle.iox2_machine.specs.machine.Connections.{ForEachPlace, first_failure}
use Rattle.iox2_machine.specs.machine.PublisherUpdate.{SenderSide, SenderAction, Keep_end, Drop_waiting, Disconnect}
use Rattle.iox2_machine.specs.machine.PublisherUpdate.{Connect, sender_action, connected, disconnected, ConnectSender}
use Rattle.iox2_machine.specs.machine.PublisherUpdate.{Performs, UpdateSenderPlace, UpdatePublisher, sender_side}
use Rattle.iox2_machine.specs.machine.PublisherUpdate.{with_sender_side, history_for}
use Rattle.iox2_machine.specs.machine.WellFormed.{IsWellFormed}
use Rattle.iox2_machine.specs.declared.service_config.ServiceConfig.{ServiceConfig}
use Rattle.iox2_machine.specs.declared.degradation.DegradationAction.{DegradationAction}
use Rattle.iox2_machine.specs.declared.errors.ConnectionFailure.{ConnectionFailure}
use Rattle.iox2_commands.specs.Outcomes.{Handle, Publisher_handle, Outcome}
use Rattle.iox2_commands.specs.Step.{Step, unblocked_at, after_update}
use Rattle.iox2_machine.specs.machine.Environments.{ample_memory}
use Rattle.iox2_commands.specs.declared.command.Command.TheVariants.{Update}
use Rattle.iox2_commands.specs.declared.reply.Reply.TheVariants.{Done}
use Rattle.iox2_worst_case.proofs.FillingNumbers.{ports_from, recent, ports_from_push, set_place-ports_from}
use Rattle.iox2_worst_case.proofs.FillingNumbers.{occupant-ports_from, nobody-ports_from}
use Rattle.iox2_worst_case.proofs.FillingShape.{filler, IsFilling, at_some, concluded, publisher_named}

module _ (service_id : ℕ) (handler : Handler DegradationAction) (histories : ℕ → List ℕ) (buffers : ℕ → Option ℕ)
    (has_end : ℕ → Bool) (buffer : ℕ) where
  abbrev AtPlace : ℕ → Option ℕ → SenderSide → SenderSide → Option ConnectionFailure → Type 0
  AtPlace place at side side' failure =
      UpdateSenderPlace ample_memory service_id 1 handler histories buffers has_end place at side side' failure

  -- an end that is there stays
  keeps_action : (q : ℕ) (end : Option ℕ) → buffers q ≡ Some buffer → end ≡ Some q
      → sender_action buffers (Some q) end ≡ Keep_end
  keeps_action q end e f =
      ap (λ (v : Option ℕ). elim v as (λ _. SenderAction) [
        | None ↦ cond (is_port end q) (Drop_waiting q) Disconnect
        | Some buffer ↦ cond (is_port end q)
            Keep_end (Connect q buffer)
      ]) e
      ∙ ap (λ (v : Option ℕ). cond (is_port v q) Keep_end (Connect q buffer)) f
      ∙ ap (λ b. cond b Keep_end (Connect q buffer)) (eq-eqb q q refl)

  -- where no end is, one is made
  makes_action : (q : ℕ) (end : Option ℕ) → buffers q ≡ Some buffer → end ≡ None
      → sender_action buffers (Some q) end ≡ Connect q buffer
  makes_action q end e f =
      ap (λ (v : Option ℕ). elim v as (λ _. SenderAction) [
        | None ↦ cond (is_port end q) (Drop_waiting q) Disconnect
        | Some buffer ↦ cond (is_port end q)
            Keep_end (Connect q buffer)
      ]) e
      ∙ ap (λ (v : Option ℕ). cond (is_port v q) Keep_end (Connect q buffer)) f

  -- the ends that are there stay
  keep_walk : (first count place last : ℕ) (rest : List (Option ℕ)) (side side' : SenderSide)
      (failure : Option ConnectionFailure) → last ≡ place + count
      → ((i : ℕ) → i < count → occupant side.ends (place + i) ≡ Some (first + i))
      → ((q : ℕ) → first ≤ q → q < first + count → buffers q ≡ Some buffer)
      → ForEachPlace AtPlace place (ports_from first count ++ rest) side side' failure
      → ForEachPlace AtPlace last rest side side' failure
  keep_walk first zero place last rest side side' failure e stands listens h =
      let same : place ≡ last = omega arith in subst (λ p. ForEachPlace AtPlace p rest side side' failure) same h
  keep_walk first (suc count) place last rest side side' failure e stands listens h =
      let at : place + 0 ≡ place = omega arith in
      let who : first + 0 ≡ first = omega arith in
      let here : occupant side.ends place ≡ Some first =
      ap (occupant side.ends) (sym at) ∙ stands 0 (omega arith) ∙ ap (λ q. Some q) who in
      let idle : (h.0 ≡ side) × (h.1 ≡ None) =
      subst (λ (v : SenderAction).
      Performs ample_memory service_id 1 handler histories buffers has_end v place side h.0 h.1)
      (keeps_action first (occupant side.ends place) (listens first (omega arith) (omega arith)) here) h.3 in
      let same : h.2 ≡ failure = sym (h.5 ∙ ap (λ (v : Option ConnectionFailure). first_failure v h.2) idle.1) in
      keep_walk (suc first) count (place + 1) last rest side side' failure (omega arith)
      (λ i low.
      let next : (place + 1) + i ≡ place + suc i = omega arith in
      let next' : first + suc i ≡ suc first + i = omega arith in
      ap (occupant side.ends) next ∙ stands (suc i) (omega arith) ∙ ap (λ q. Some q) next')
      (λ q low high. listens q (omega arith) (omega arith))
      (subst (λ (v : Option ConnectionFailure).
      ForEachPlace AtPlace (place + 1) (ports_from (suc first) count ++ rest) side side' v) same
      (subst (λ (v : SenderSide). ForEachPlace AtPlace (place + 1) (ports_from (suc first) count ++ rest) v side' h.2)
      idle.0 h.4))

  -- the end to the last one is made
  connect_last : (q place : ℕ) (side side' : SenderSide) (failure : Option ConnectionFailure)
      → occupant side.ends place ≡ None → buffers q ≡ Some buffer
      → ForEachPlace AtPlace place (Some q ∷ []) side side' failure
      → (side' ≡ connected (histories q) side place q buffer) × (failure ≡ None)
  connect_last q place side side' failure nobody listens h =
      let performs : ConnectSender ample_memory service_id 1 handler histories buffers has_end
      (disconnected side place (occupant side.ends place)) place q buffer
      h.0 h.1 =
      subst (λ (v : SenderAction).
      Performs ample_memory service_id 1 handler histories buffers has_end v place side h.0 h.1)
      (makes_action q (occupant side.ends place) listens nobody) h.3 in
      let connects : ConnectSender ample_memory service_id 1 handler histories buffers has_end side place q buffer h.0
      h.1 =
      subst (λ (v : Option ℕ). ConnectSender ample_memory service_id 1 handler histories buffers has_end
      (disconnected side place v) place q buffer h.0 h.1)
      nobody performs in
      ⊎_elim
      (λ k. (h.4.0 ∙ k.0, h.5 ∙ ap (λ (v : Option ConnectionFailure). first_failure v h.2) k.1 ∙ h.4.1))
      (λ k. absurd (k.2.1))
      connects

module _ {T U : Type 0} (c : ServiceConfig) (most available : ℕ) (s : State T U) (sent made : ℕ) (boxes : ℕ → Mailbox)
    (f : IsFilling c most available s sent 0 (suc made) (ports_from 2 made) true boxes) where
  -- the publisher
  abbrev before : Publisher
  before = filler most available f.longest [] (recent c.history_size sent) (ports_from 2 made) true

  -- its mailboxes afterwards
  abbrev pub served : ℕ → Mailbox
  served =
      put_at boxes (2 + made) (with_waiting (last_n (buffer_limit c) (recent c.history_size sent)) (boxes (2 + made)))

  -- What the update comes to.
  pub record IsUpdatedOutcome (o : Outcome T U) : Type 0 where
    pub reply : o.reply ≡ Done
    pub filling : IsFilling c most available o.state sent 0 (suc made) (ports_from 2 (suc made)) false served

  abbrev side_after : SenderSide
  side_after = connected (recent c.history_size sent) (sender_side s 1 before) made (2 + made) (buffer_limit c)

  abbrev after : State T U
  after = sender_channels_reset (with_sender_side s 1 before side_after) 1

  filling_after : IsWellFormed after
      → IsFilling c most available after sent 0 (suc made) (ports_from 2 (suc made)) false served
  filling_after w = record {
    well_formed = w;
    config = f.config;
    next_port = f.next_port;
    next_message = f.next_message;
    longest = f.longest;
    publisher =
        ap (λ (es : List (Option ℕ)). Some (filler most available f.longest [] (recent c.history_size sent) es false))
        (set_place-ports_from 2 made (2 + made) refl);
    publisher_places = f.publisher_places;
    subscriber_places = f.subscriber_places;
    subscribers = f.subscribers;
    mailboxes = ap (λ (b : ℕ → Mailbox). put_at b (2 + made)
        (with_waiting (last_n (buffer_limit c) (recent c.history_size sent)) (b (2 + made)))) f.mailboxes;
    channels = λ q. cond_both (is_linked (with_sender_side s 1 before side_after) 1 q) (s.channels 1 q) new_channels
        (λ (k : ℕ → Channel). k ≡ new_channels)
        (λ _. f.channels q) (λ _. refl);
  }

  listens : (q : ℕ) → 2 ≤ q → q < 2 + suc made → receiving_buffer s q ≡ Some (buffer_limit c)
  listens q low high = ap (λ (v : Option Subscriber).
      option_and_then (λ (y : Subscriber). cond y.is_open (Some y.buffer) None) v) (f.subscribers q low high)

  -- a new receiver is handed out the whole history
  handed_out : (q : ℕ) → history_for s 1 before q ≡ before.history
  handed_out q = ap (λ (channels : ℕ → Channel). cond (is_closed (channels 0)) [] before.history) (f.channels q)

  updated_so : (s' : State T U) (failure : Option ConnectionFailure) → UpdatePublisher ample_memory s 1 s' failure
      → (s' ≡ after) × (failure ≡ None)
  updated_so s' failure h =
      let k : (side : SenderSide)
      × ForEachPlace (UpdateSenderPlace ample_memory (s.config).service_id 1 before.degradation_handler
      (history_for s 1 before) (receiving_buffer s)
      (has_receiver_end s 1))
      0 s.subscriber_places (sender_side s 1 before) side failure
      × (s' ≡ sender_channels_reset (with_sender_side s 1 before side) 1) =
      at_some (s.publishers 1) before _ _ f.publisher h in
      let walk : ForEachPlace (UpdateSenderPlace ample_memory (s.config).service_id 1 before.degradation_handler
      (history_for s 1 before) (receiving_buffer s)
      (has_receiver_end s 1))
      0 (ports_from 2 made ++ Some (2 + made) ∷ []) (sender_side s 1 before) k.0 failure =
      subst (λ (places : List (Option ℕ)). ForEachPlace
      (UpdateSenderPlace ample_memory (s.config).service_id 1 before.degradation_handler (history_for s 1 before)
      (receiving_buffer s) (has_receiver_end s 1))
      0 places (sender_side s 1 before) k.0 failure) (f.subscriber_places ∙ ports_from_push 2 made) k.1 in
      let last : ForEachPlace (UpdateSenderPlace ample_memory (s.config).service_id 1 before.degradation_handler
      (history_for s 1 before) (receiving_buffer s)
      (has_receiver_end s 1))
      made (Some (2 + made) ∷ []) (sender_side s 1 before) k.0 failure =
      keep_walk (s.config).service_id before.degradation_handler (history_for s 1 before) (receiving_buffer s)
      (has_receiver_end s 1) (buffer_limit c)
      2 made 0 made (Some (2 + made) ∷ []) (sender_side s 1 before) k.0 failure (omega arith)
      (λ i low. let same : 0 + i ≡ i = omega arith in
      ap (occupant (ports_from 2 made)) same ∙ occupant-ports_from 2 made i low)
      (λ q low high. listens q low (omega arith)) walk in
      let made_so : (k.0 ≡ connected (history_for s 1 before (2 + made)) (sender_side s 1 before) made (2 + made)
      (buffer_limit c)) × (failure ≡ None) =
      connect_last (s.config).service_id before.degradation_handler (history_for s 1 before) (receiving_buffer s)
      (has_receiver_end s 1) (buffer_limit c)
      (2 + made) made (sender_side s 1 before) k.0 failure (nobody-ports_from 2 made)
      (listens (2 + made) (omega arith) (omega arith)) last in
      let ends : (k.0 ≡ side_after) × (failure ≡ None) = (
        made_so.0 ∙ ap (λ (ns : List ℕ). connected ns (sender_side s 1 before) made (2 + made) (buffer_limit c))
            (handed_out (2 + made)),
        made_so.1,
      ) in
      (k.2 ∙ ap (λ side. sender_channels_reset (with_sender_side s 1 before side) 1) ends.0, ends.1)

  -- the publisher's connections are updated
  pub update_step : (default_value : T) (default_header : U) (m : Messages T U) (handles : List Handle)
      (o : Outcome T U)
      → slice_get handles 0 ≡ Some (Publisher_handle 1)
      → Step ample_memory default_value default_header m s handles (Update 0) o → IsWellFormed o.state
      → IsUpdatedOutcome o
  update_step default_value default_header m handles o publisher step w =
      let k : (s' : State T U) × (failure : Option ConnectionFailure) × UpdatePublisher ample_memory s 1 s' failure
      × (o ≡ after_update s' failure) =
      at_some (unblocked_at s handles 0) (1, before) _ _
      (publisher_named s handles 0 1 before publisher f.publisher refl) step in
      let j : (k.0 ≡ after) × (k.1 ≡ None) = updated_so k.0 k.1 k.2 in
      let same : o ≡ after_update after None =
      k.3 ∙ ap (after_update k.0) j.1 ∙ ap (λ (v : State T U). after_update v None) j.0 in
      concluded IsUpdatedOutcome o (after_update after None) same w
      (λ w'. record { reply = refl {a = Done}; filling = filling_after w' })
