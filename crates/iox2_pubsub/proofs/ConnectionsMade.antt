-- A publisher that is made is connected with each open subscriber, where no connection was refused memory meanwhile.
use Rattle.std.proofs.Common.{◌≡◌, ℕ, ◌+◌, ◌≤◌, ◌<◌, Bool, true, false, cond, List, min, length, refl, sym, ap, subst}
use Rattle.std.proofs.Common.{◌∙◌, arith, Option, None, Some, inl, ⊎_elim}
use Rattle.std.specs.Prelude.{◌≢◌}
use Rattle.std.specs.Option.{option_map}
use Rattle.std.proofs.lemmas.Bool.{true≢false, ne_eqb, eq-eqb}
use Rattle.std.proofs.lemmas.Option.{none-some, same_Some}
use Rattle.iox2_machine.specs.machine.Channel.{is_closed}
use Rattle.iox2_machine.specs.machine.Limits.{refusal_limit}
use Rattle.iox2_machine.specs.machine.Numbers.{contains}
use Rattle.iox2_machine.specs.machine.Places.{occupant, set_place, is_port}
use Rattle.iox2_machine.specs.machine.Records.{Publisher, Subscriber, Handler, Environment, PublisherSettings}
use Rattle.iox2_machine.specs.machine.State.{State, Warnings, connected_publishers, receiving_buffer, has_receiver_end}
use Rattle.iox2_machine.specs.machine.State.{sender_channels_reset}
use Rattle.iox2_machine.specs.machine.Connections.{ForEachPlace, warnings_after}
use Rattle.iox2_machine.specs.machine.Ports.{FirstPublisherUpdate, CreatePublisher, with_new_publisher, new_publisher}
use Rattle.iox2_machine.specs.machine.Ports.{with_failure_warning}
use Rattle.iox2_machine.specs.machine.PublisherUpdate.{SenderSide, SenderAction, Keep_end, Drop_waiting, Disconnect}
use Rattle.iox2_machine.specs.machine.PublisherUpdate.{Connect, sender_action, disconnected, connected, Performs}
use Rattle.iox2_machine.specs.machine.PublisherUpdate.{UpdateSenderPlace, history_for, sender_side, with_sender_side}
use Rattle.iox2_machine.specs.machine.PublisherUpdate.{UpdatePublisher}
use Rattle.iox2_machine.specs.machine.Waiting.{receives_from}
use Rattle.iox2_machine.specs.machine.WellFormed.{IsWellFormed, subscriber_place}
use Rattle.iox2_machine.specs.declared.degradation.DegradationAction.{DegradationAction}
use Rattle.iox2_machine.specs.declared.degradation.DegradationAction.TheVariants.{Ignore, Warn, DegradeAndFail}
use Rattle.iox2_machine.specs.declared.errors.ConnectionFailure.{ConnectionFailure}
use Rattle.iox2_machine.specs.declared.errors.PublisherCreateError.{PublisherCreateError}
use Rattle.iox2_machine.specs.declared.warning.Warning.TheVariants.{PublisherPartlyConnected}
use Rattle.iox2_laws.proofs.Cases.{by_option, by_bool}
use Rattle.iox2_laws.proofs.CallCases.{publisher_cases}
use Rattle.iox2_laws.proofs.PlaceLemmas.{free_place_is, occupant-set_place, occupied_within, is_port-true}
use Rattle.iox2_laws.proofs.PortLaws.{new_publisher_keeps}
use Rattle.iox2_laws.proofs.Puts.{put_at-same, put_at-other}
use Rattle.iox2_pubsub.specs.ConnectedPorts.{Connects}
use Rattle.iox2_pubsub.proofs.ConnectedSends.{opened-buffer, update-publisher-connected}
use Rattle.iox2_pubsub.proofs.OpenChannels.{sender-reset-connects}
use Rattle.iox2_pubsub.proofs.ConnectionsStay.{ConnectsStay, walk-reaches, stays-itself, ports-same, receives-by}
use Rattle.iox2_pubsub.proofs.ConnectionsStay.{opened-of}

-- how many connections were refused memory so far
abbrev refused : SenderSide → ℕ
refused side = (side.warnings).refused_connections

pub refusal-counts : (p q : ℕ) (action : DegradationAction) (ws : Warnings)
    → (warnings_after p q action ws).refused_connections ≡ min (ws.refused_connections + 1) refusal_limit
refusal-counts p q Ignore ws = refl
refusal-counts p q Warn ws = refl
refusal-counts p q DegradeAndFail ws = refl

-- one refusal more is one more, or the limit
pub refusal-grows : (n n' limit : ℕ) → n' ≡ min (n + 1) limit → n ≤ limit → (n ≤ n') × (n' ≤ limit)
refusal-grows n n' limit is most = (omega (arith, is, most), omega (arith, is, most))

pub refusal-is-new : (n n' first limit : ℕ) → n' ≡ min (n + 1) limit → first ≤ n → first < limit → n' ≡ first → ⊥
refusal-is-new n n' first limit is more low same = omega (arith, is, more, low, same)

disconnected-warnings : (side : SenderSide) (j : ℕ) (end : Option ℕ)
    → (disconnected side j end).warnings ≡ side.warnings
disconnected-warnings side j None = refl
disconnected-warnings side j (Some k) = refl

module _ (environment : Environment) (service_id p : ℕ) (handler : Handler DegradationAction) (histories : ℕ → List ℕ)
    (buffers : ℕ → Option ℕ) (has_end : ℕ → Bool) (q place buffer first : ℕ)
    (opened : buffers q ≡ Some buffer) (low : first < refusal_limit) where
  -- No fewer were refused than at first.
  abbrev Counts : SenderSide → Type 0
  Counts side = (first ≤ refused side) × (refused side ≤ refusal_limit)

  -- And where none was, the end to q stands at the place.
  abbrev Reaches : SenderSide → Type 0
  Reaches side = Counts side × (refused side ≡ first → occupant side.ends place ≡ Some q)

  same-counts : (side side' : SenderSide) → side'.warnings ≡ side.warnings → Counts side → Counts side'
  same-counts side side' same counts =
      let is : refused side' ≡ refused side = ap (λ (ws : Warnings). ws.refused_connections) same in
      let more : first ≤ refused side = counts.0 in
      let most : refused side ≤ refusal_limit = counts.1 in
      (subst (λ n. first ≤ n) (sym is) more, subst (λ n. n ≤ refusal_limit) (sym is) most)

  other-end : (j : ℕ) (x : Option ℕ) (ends : List (Option ℕ)) → j ≢ place → occupant ends place ≡ Some q
      → occupant (set_place ends j x) place ≡ Some q
  other-end j x ends away there = occupant-set_place ends j x place
      ∙ ap (λ b. cond b x (occupant ends place)) (ne_eqb place j (λ same. away (sym same))) ∙ there

  disconnected-end : (side : SenderSide) (j : ℕ) (end : Option ℕ) → j ≢ place → occupant side.ends place ≡ Some q
      → occupant (disconnected side j end).ends place ≡ Some q
  disconnected-end side j None away there = there
  disconnected-end side j (Some k) away there = other-end j None side.ends away there

  -- what one action does to the count, and to the end at another place
  performed-counts : (action : SenderAction) (j : ℕ) (side side' : SenderSide) (failure : Option ConnectionFailure)
      → Counts side
      → Performs environment service_id p handler histories buffers has_end action j side side' failure
      → Counts side' × (refused side ≤ refused side')
  performed-counts Keep_end j side side' failure counts h =
      subst (λ (t : SenderSide). Counts t × (refused side ≤ refused t)) (sym h.0) (counts, omega arith)
  performed-counts (Drop_waiting k) j side side' failure counts h =
      subst (λ (t : SenderSide). Counts t × (refused side ≤ refused t)) (sym h.0) (counts, omega arith)
  performed-counts Disconnect j side side' failure counts h =
      subst (λ (t : SenderSide). Counts t × (refused side ≤ refused t)) (sym h.0) (
        same-counts side (disconnected side j (occupant side.ends j))
            (disconnected-warnings side j (occupant side.ends j)) counts,
        subst (λ (ws : Warnings). refused side ≤ ws.refused_connections)
            (sym (disconnected-warnings side j (occupant side.ends j))) (omega arith),
      )
  performed-counts (Connect k room) j side side' failure counts h =
      let free : SenderSide = disconnected side j (occupant side.ends j) in
      let same : free.warnings ≡ side.warnings = disconnected-warnings side j (occupant side.ends j) in
      ⊎_elim
      (λ made. subst (λ (t : SenderSide). Counts t × (refused side ≤ refused t)) (sym made.0) (
        same-counts side (connected (histories k) free j k room) same counts,
        subst (λ (ws : Warnings). refused side ≤ ws.refused_connections) (sym same) (omega arith),
      ))
      (λ no.
      let is : (no.1).refused_connections ≡ min (refused side + 1) refusal_limit =
      ap (λ (ws : Warnings). ws.refused_connections) ((no.2).3) ∙ refusal-counts p k (no.2).0 free.warnings
      ∙ ap (λ (ws : Warnings). min (ws.refused_connections + 1) refusal_limit) same in
      let grows = refusal-grows (refused side) (no.1).refused_connections refusal_limit is counts.1 in
      let more : refused side ≤ (no.1).refused_connections = grows.0 in
      let before : first ≤ refused side = counts.0 in
      subst (λ (t : SenderSide). Counts t × (refused side ≤ refused t)) (sym no.3)
      ((omega (arith, more, before), grows.1), more))
      h

  performed-end : (action : SenderAction) (j : ℕ) (side side' : SenderSide) (failure : Option ConnectionFailure)
      → j ≢ place → occupant side.ends place ≡ Some q
      → Performs environment service_id p handler histories buffers has_end action j side side' failure
      → occupant side'.ends place ≡ Some q
  performed-end Keep_end j side side' failure away there h = ap (λ (t : SenderSide). occupant t.ends place) h.0 ∙ there
  performed-end (Drop_waiting k) j side side' failure away there h =
      ap (λ (t : SenderSide). occupant t.ends place) h.0 ∙ there
  performed-end Disconnect j side side' failure away there h =
      ap (λ (t : SenderSide). occupant t.ends place) h.0 ∙ disconnected-end side j (occupant side.ends j) away there
  performed-end (Connect k room) j side side' failure away there h =
      ⊎_elim
      (λ made. ap (λ (t : SenderSide). occupant t.ends place) made.0 ∙ other-end j (Some k)
      (disconnected side j (occupant side.ends j)).ends away
      (disconnected-end side j (occupant side.ends j) away there))
      (λ no. ap (λ (t : SenderSide). occupant t.ends place) no.3
      ∙ disconnected-end side j (occupant side.ends j) away there)
      h

  step-counts : (j : ℕ) (at : Option ℕ) (side side' : SenderSide) (failure : Option ConnectionFailure) → j ≢ place
      → Counts side
      → UpdateSenderPlace environment service_id p handler histories buffers has_end j at side side' failure
      → Counts side'
  step-counts j at side side' failure away counts h =
      (performed-counts (sender_action buffers at (occupant side.ends j)) j side side' failure counts h).0

  step-keeps : (j : ℕ) (at : Option ℕ) (side side' : SenderSide) (failure : Option ConnectionFailure) → j ≢ place
      → Reaches side
      → UpdateSenderPlace environment service_id p handler histories buffers has_end j at side side' failure
      → Reaches side'
  step-keeps j at side side' failure away is h =
      let counts = performed-counts (sender_action buffers at (occupant side.ends j)) j side side' failure is.0 h in (
        counts.0,
        λ none.
            let more : refused side ≤ refused side' = counts.1 in
            let least : first ≤ refused side = (is.0).0 in
            let quiet : refused side ≡ first = omega (arith, more, least, none) in
            performed-end (sender_action buffers at (occupant side.ends j)) j side side' failure away (is.1 quiet) h,
      )

  -- the action where q stands
  action-here : (end : Option ℕ) → sender_action buffers (Some q) end ≡ cond (is_port end q) Keep_end (Connect q buffer)
  action-here end = by (buffers q) opened where
    by : (o : Option ℕ) → o ≡ Some buffer
        → elim o [
          | None ↦ cond (is_port end q) (Drop_waiting q) Disconnect
          | Some room ↦
              cond (is_port end q) Keep_end (Connect q room)
        ] ≡ cond (is_port end q) Keep_end (Connect q buffer)
    by None e = absurd (none-some buffer e)
    by (Some room) e = ap (λ n. cond (is_port end q) Keep_end (Connect q n)) (same_Some room buffer e)

  performed-here : (side side' : SenderSide) (failure : Option ConnectionFailure) (b : Bool)
      → is_port (occupant side.ends place) q ≡ b → Counts side
      → Performs environment service_id p handler histories buffers has_end
      (cond b Keep_end (Connect q buffer)) place side side' failure → refused side' ≡ first
      → occupant side'.ends place ≡ Some q
  performed-here side side' failure true is counts h none =
      ap (λ (t : SenderSide). occupant t.ends place) h.0 ∙ is_port-true (occupant side.ends place) q is
  performed-here side side' failure false is counts h none =
      let free : SenderSide = disconnected side place (occupant side.ends place) in
      let same : free.warnings ≡ side.warnings = disconnected-warnings side place (occupant side.ends place) in
      ⊎_elim
      (λ made. ap (λ (t : SenderSide). occupant t.ends place) made.0 ∙ occupant-set_place free.ends place (Some q) place
      ∙ ap (λ b. cond b (Some q) (occupant free.ends place)) (eq-eqb place place refl))
      (λ no.
      let counted : (no.1).refused_connections ≡ min (refused side + 1) refusal_limit =
      ap (λ (ws : Warnings). ws.refused_connections) ((no.2).3) ∙ refusal-counts p q (no.2).0 free.warnings
      ∙ ap (λ (ws : Warnings). min (ws.refused_connections + 1) refusal_limit) same in
      absurd (refusal-is-new (refused side) (no.1).refused_connections first refusal_limit counted counts.0 low
      (sym (ap (λ (t : SenderSide). refused t) no.3) ∙ none)))
      h

  step-here : (side side' : SenderSide) (failure : Option ConnectionFailure) → Counts side
      → UpdateSenderPlace environment service_id p handler histories buffers has_end place (Some q) side side' failure
      → Reaches side'
  step-here side side' failure counts h =
      let acts : Performs environment service_id p handler histories buffers has_end
      (cond (is_port (occupant side.ends place) q) Keep_end (Connect q buffer)) place side side' failure =
      subst (λ (act : SenderAction). Performs environment service_id p handler histories buffers has_end act place side
      side' failure) (action-here (occupant side.ends place)) h in (
        (performed-counts
            (sender_action buffers (Some q) (occupant side.ends place)) place side side' failure counts h).0,
        performed-here side side' failure (is_port (occupant side.ends place) q) refl counts acts,
      )

  walk-connects : (places : List (Option ℕ)) (side side' : SenderSide) (failure : Option ConnectionFailure)
      → place < length places → occupant places place ≡ Some q → Counts side
      → ForEachPlace (UpdateSenderPlace environment service_id p handler histories buffers has_end) 0 places side side'
      failure → Reaches side'
  walk-connects places side side' failure within stands =
      walk-reaches (UpdateSenderPlace environment service_id p handler histories buffers has_end) Reaches Counts 0
      places place place (omega arith) within step-counts step-keeps
      (λ a b f counts k. step-here a b f counts
      (subst (λ o. UpdateSenderPlace environment service_id p handler histories buffers has_end place o a b f) stands
      k)) side side' failure

-- an open subscriber that is due receives
due-receives : (y : Subscriber) (p : ℕ) → y.is_open ≡ true → receives_from (record y { is_due = true }) p ≡ true
due-receives y p opened = receives-by y.is_open true (contains (connected_publishers y) p) opened (inl refl)

module _ {T U : Type 0} where
  -- a publisher that is due is connected by its update, where no channel is closed
  pub update-publisher-connects : (environment : Environment) (s : State T U) (p : ℕ) (s' : State T U)
      (failure : Option ConnectionFailure) → IsWellFormed s
      → (x : Publisher) → s.publishers p ≡ Some x → x.is_due ≡ true → UpdatePublisher environment s p s' failure
      → (q : ℕ) (y : Subscriber) → s.subscribers q ≡ Some y → receives_from y p ≡ true
      → is_closed (s.channels p q 0) ≡ false
      → (s.warnings).refused_connections < refusal_limit
      → (s'.warnings).refused_connections ≡ (s.warnings).refused_connections → Connects s' p q
  update-publisher-connects environment s p s' failure w x present due h q y here receives takes low none =
      by_option (Connects s' p q) (s.publishers p) _ _ h (λ _ v. absurd v) (λ z at h.
      by_bool (Connects s' p q) z.is_due _ _ h
      (λ _ h. made z h.0 h.1 h.2)
      (λ undue h.
      absurd (true≢false (sym due ∙ ap (λ (v : Publisher). v.is_due) (same_Some x z (sym present ∙ at)) ∙ undue))))
    where
      placed : subscriber_place s q ≡ Some y.place
      placed = ap (option_map {T = Subscriber} {U = ℕ} (λ v. v.place)) here

      stands : occupant s.subscriber_places y.place ≡ Some q
      stands = (w.subscriber_places).stands q y.place placed

      made : (z : Publisher) (side : SenderSide)
          → ForEachPlace (UpdateSenderPlace environment (s.config).service_id p z.degradation_handler
          (history_for s p z) (receiving_buffer s) (has_receiver_end s p)) 0 s.subscriber_places
          (sender_side s p z) side failure
          → s' ≡ sender_channels_reset (with_sender_side s p z side) p → Connects s' p q
      made z side walk is =
          let first : ℕ = (s.warnings).refused_connections in
          let most : first ≤ refusal_limit = omega (arith, low) in
          let least : first ≤ first = omega arith in
          let reaches = walk-connects environment (s.config).service_id p z.degradation_handler (history_for s p z)
          (receiving_buffer s) (has_receiver_end s p) q y.place y.buffer (s.warnings).refused_connections
          (opened-buffer s q y here (opened-of y p receives)) low s.subscriber_places (sender_side s p z) side failure
          (occupied_within s.subscriber_places y.place q stands) stands (least, most) walk in
          let quiet : (side.warnings).refused_connections ≡ (s.warnings).refused_connections =
          sym (ap (λ (t : State T U). (t.warnings).refused_connections) is) ∙ none in
          subst (λ (t : State T U). Connects t p q) (sym is)
          (sender-reset-connects (with_sender_side s p z side) p p q (record {
            publisher = record z { ends = side.ends; is_due = false };
            stands = put_at-same s.publishers p _;
            sends = (y.place, reaches.1 quiet);
            subscriber = y;
            there = here;
            receives = receives;
            takes = takes;
          }))

  warned-refusals : (t : State T U) (p : ℕ) (failure : Option ConnectionFailure)
      → ((with_failure_warning t (PublisherPartlyConnected p) failure).warnings).refused_connections
      ≡ (t.warnings).refused_connections
  warned-refusals t p None = refl
  warned-refusals t p (Some failure) = refl

  warned-connections : (t : State T U) (p : ℕ) (failure : Option ConnectionFailure)
      → ConnectsStay t (with_failure_warning t (PublisherPartlyConnected p) failure)
  warned-connections t p None = λ i q c. c
  warned-connections t p (Some failure) =
      ports-same t (with_failure_warning t (PublisherPartlyConnected p) (Some failure)) refl refl refl

  module _ (environment : Environment) (s : State T U) (w : IsWellFormed s) (given : PublisherSettings) where
    -- the subscribers are due where a publisher was made
    made-due : (place p q : ℕ) → p < s.next_port → Connects s p q → Connects (with_new_publisher s given place) p q
    made-due place p q low c = record {
      publisher = c.publisher;
      stands = put_at-other s.publishers s.next_port _ p (ne_eqb p s.next_port (λ here. omega arith)) ∙ c.stands;
      sends = c.sends;
      subscriber = record (c.subscriber) { is_due = true };
      there = ap (option_map {T = Subscriber} {U = Subscriber} (λ y. record y { is_due = true })) c.there;
      receives = due-receives c.subscriber p (opened-of c.subscriber p c.receives);
      takes = c.takes;
    }

    pub create-publisher-connections : (s' : State T U) (refusal : Option PublisherCreateError)
        → CreatePublisher environment s given s' refusal → ConnectsStay s s'
    create-publisher-connections s' refusal h =
        publisher_cases environment s given s' (ConnectsStay s s') refusal h (λ e same _. stays-itself s s' same)
        (λ place makes p q c.
        let found : (place < (s.config).max_publishers) × (occupant s.publisher_places place ≡ None) =
        free_place_is (s.config).max_publishers s.publisher_places place makes.0 in
        let first : FirstPublisherUpdate environment (with_new_publisher s given place) s.next_port s' = makes.2 in
        let low : p < s.next_port = (w.publishers p c.publisher c.stands).is_known in
        let mid = (update-publisher-connected environment (with_new_publisher s given place)
        (new_publisher_keeps s w given place found.0 found.1) p q
        (made-due place p q low c) s.next_port first.0 first.1 first.2).0 in
        subst (λ (t : State T U). Connects t p q) (sym first.3)
        (warned-connections first.0 s.next_port first.1 p q mid))

    pub create-publisher-connects : (s' : State T U) → CreatePublisher environment s given s' None
        → (q : ℕ) (y : Subscriber) → s.subscribers q ≡ Some y → y.is_open ≡ true
        → is_closed (s.channels s.next_port q 0) ≡ false
        → (s.warnings).refused_connections < refusal_limit
        → (s'.warnings).refused_connections ≡ (s.warnings).refused_connections → Connects s' s.next_port q
    create-publisher-connects s' h q y here opened takes low none =
        publisher_cases environment s given s' (Connects s' s.next_port q) None h
        (λ e _ some. absurd (none-some e some)) (λ place makes.
        let found : (place < (s.config).max_publishers) × (occupant s.publisher_places place ≡ None) =
        free_place_is (s.config).max_publishers s.publisher_places place makes.0 in
        let new : State T U = with_new_publisher s given place in
        let first : FirstPublisherUpdate environment new s.next_port s' = makes.2 in
        let mid : Connects first.0 s.next_port q =
        update-publisher-connects environment new s.next_port first.0 first.1
        (new_publisher_keeps s w given place found.0 found.1) (new_publisher s given place)
        (put_at-same s.publishers s.next_port _) refl first.2 q (record y { is_due = true })
        (ap (option_map {T = Subscriber} {U = Subscriber} (λ y. record y { is_due = true })) here)
        (due-receives y s.next_port opened) takes low
        (sym (warned-refusals first.0 s.next_port first.1)
        ∙ sym (ap (λ (t : State T U). (t.warnings).refused_connections) first.3) ∙ none) in
        subst (λ (t : State T U). Connects t s.next_port q) (sym first.3)
        (warned-connections first.0 s.next_port first.1 s.next_port q mid))
