-- What the machine does at an open subscriber's place.
use Rattle.std.proofs.Common.{◌≡◌, ℕ, Bool, true, false, cond, List, refl, ap, sym, subst, ◌∙◌, inl, inr}
use Rattle.std.proofs.lemmas.Bool.{eq-eqb}
use Rattle.std.specs.declared.option.Option.{Option}
use Rattle.std.specs.declared.option.Option.TheVariants.{None, Some}
use Rattle.std.specs.Option.{option_and_then}
use Rattle.iox2_machine.specs.machine.Places.{occupant, is_port}
use Rattle.iox2_machine.specs.machine.Records.{Handler, Environment}
use Rattle.iox2_machine.specs.machine.PublisherUpdate.{SenderSide, SenderAction, Keep_end, Drop_waiting, Disconnect}
use Rattle.iox2_machine.specs.machine.PublisherUpdate.{Connect, connected, sender_action, dropped, disconnected}
use Rattle.iox2_machine.specs.machine.PublisherUpdate.{Performs, UpdateSenderPlace, ConnectSender}
use Rattle.iox2_machine.specs.declared.degradation.DegradationAction.{DegradationAction}
use Rattle.iox2_machine.specs.declared.errors.ConnectionFailure.{ConnectionFailure}

module _ (buffers : ℕ → Option ℕ) (at end : Option ℕ) (q buffer : ℕ) (stands : at ≡ Some q)
    (is_open : buffers q ≡ Some buffer) where
  action-open : sender_action buffers at end ≡ cond (is_port end q) Keep_end (Connect q buffer)
  action-open =
      ap (λ o. sender_action buffers o end) stands
      ∙ ap (λ o. elim o as (λ _. SenderAction) [
        | None ↦ cond (is_port end q) (Drop_waiting q) Disconnect
        | Some b ↦ cond (is_port end q) Keep_end (Connect q b)
      ]) is_open

  pub action-keeps : end ≡ Some q → sender_action buffers at end ≡ Keep_end
  action-keeps e = action-open ∙ ap (λ o. cond (is_port o q) Keep_end (Connect q buffer)) e
      ∙ ap (λ b. cond b Keep_end (Connect q buffer)) (eq-eqb q q refl)

  pub action-connects : end ≡ None → sender_action buffers at end ≡ Connect q buffer
  action-connects e = action-open ∙ ap (λ o. cond (is_port o q) Keep_end (Connect q buffer)) e

module _ (environment : Environment) (service_id p : ℕ) (handler : Handler DegradationAction) (histories : ℕ → List ℕ)
    (buffers : ℕ → Option ℕ) (has_end : ℕ → Bool)
    (place q buffer : ℕ) (at : Option ℕ) (side : SenderSide) (stands : at ≡ Some q)
    (is_open : buffers q ≡ Some buffer) where
  -- an end to the subscriber stays
  pub update-keeps : occupant side.ends place ≡ Some q
      → UpdateSenderPlace environment service_id p handler histories buffers has_end place at side side None
  update-keeps there =
      subst (λ action. Performs environment service_id p handler histories buffers has_end action place side side None)
      (sym (action-keeps buffers at (occupant side.ends place) q buffer stands is_open there)) (refl, refl)

  -- where there is no end one is made
  pub update-connects : (side' : SenderSide) (failure : Option ConnectionFailure) → occupant side.ends place ≡ None
      → ConnectSender environment service_id p handler histories buffers has_end side place q buffer side' failure
      → UpdateSenderPlace environment service_id p handler histories buffers has_end place at side side' failure
  update-connects side' failure none step =
      subst (λ action.
      Performs environment service_id p handler histories buffers has_end action place side side' failure)
      (sym (action-connects buffers at (occupant side.ends place) q buffer stands is_open none))
      (subst (λ end. ConnectSender environment service_id p handler histories buffers has_end
      (disconnected side place end) place q buffer side' failure) (sym none) step)

-- ---- whoever stands at the place

module _ (environment : Environment) (service_id p : ℕ) (handler : Handler DegradationAction) (histories : ℕ → List ℕ)
    (buffers : ℕ → Option ℕ) (has_end : ℕ → Bool)
    (place : ℕ) (at : Option ℕ) (side : SenderSide) where
  abbrev Updated : SenderSide → SenderSide → Option ConnectionFailure → Type 0
  Updated before after failure =
      UpdateSenderPlace environment service_id p handler histories buffers has_end place at before after failure

  -- where there is no end, and no subscriber that takes messages, nothing is done
  pub update-nothing : occupant side.ends place ≡ None → option_and_then buffers at ≡ None → Updated side side None
  update-nothing none nobody =
      subst (λ action. Performs environment service_id p handler histories buffers has_end action place side side None)
      (sym (disconnects at nobody))
      (sym (ap (disconnected side place) none), refl)
    where
      disconnects : (o : Option ℕ) → option_and_then buffers o ≡ None
          → sender_action buffers o (occupant side.ends place) ≡ Disconnect
      disconnects None e = refl
      disconnects (Some q) e =
          ap (λ o. elim o as (λ _. SenderAction) [
            | None ↦ cond (is_port (occupant side.ends place) q) (Drop_waiting q) Disconnect
            | Some b ↦ cond (is_port (occupant side.ends place) q) Keep_end (Connect q b)
          ]) e
          ∙ ap (λ o. cond (is_port o q) (Drop_waiting q) Disconnect) none

  -- an end to a closed subscriber stays, and what waits there is lost
  pub update-drops : (q : ℕ) → at ≡ Some q → buffers q ≡ None → occupant side.ends place ≡ Some q
      → Updated side (dropped side q) None
  update-drops q stands closed there =
      subst (λ action. Performs environment service_id p handler histories buffers has_end action place side
      (dropped side q) None) (sym drops) (refl, refl)
    where
      drops : sender_action buffers at (occupant side.ends place) ≡ Drop_waiting q
      drops =
          ap (λ o. sender_action buffers o (occupant side.ends place)) stands
          ∙ ap (λ o. elim o as (λ _. SenderAction) [
            | None ↦ cond (is_port (occupant side.ends place) q) (Drop_waiting q) Disconnect
            | Some b ↦ cond (is_port (occupant side.ends place) q) Keep_end (Connect q b)
          ]) closed
          ∙ ap (λ o. cond (is_port o q) (Drop_waiting q) Disconnect) there
          ∙ ap (λ b. cond b (Drop_waiting q) Disconnect) (eq-eqb q q refl)

  -- what is done once an end to another is gone is what is done with that end
  pub update-after : (end : Option ℕ) → occupant side.ends place ≡ end → ((q : ℕ) → at ≡ Some q → is_port end q ≡ false)
      → (side' : SenderSide) (failure : Option ConnectionFailure)
      → occupant (disconnected side place end).ends place ≡ None
      → Updated (disconnected side place end) side' failure → Updated side side' failure
  update-after end is other side' failure cleared step =
      by at other (subst (λ o. Performs environment service_id p handler histories buffers has_end
      (sender_action buffers at o) place (disconnected side place end) side' failure) cleared step)
    where
      left : SenderSide
      left = disconnected side place end

      goes : Performs environment service_id p handler histories buffers has_end Disconnect place
          (disconnected side place end) side' failure
          → Performs environment service_id p handler histories buffers has_end Disconnect place side side' failure
      goes h = (
        h.0 ∙ ap (disconnected (disconnected side place end) place) cleared
            ∙ ap (disconnected side place) (sym is),
        h.1,
      )

      makes : (q buffer : ℕ) → Performs environment service_id p handler histories buffers has_end
          (Connect q buffer) place (disconnected side place end) side' failure
          → Performs environment service_id p handler histories buffers has_end
          (Connect q buffer) place side side' failure
      makes q buffer h =
          subst (λ now.
          ConnectSender environment service_id p handler histories buffers has_end now place q buffer side' failure)
          (ap (disconnected (disconnected side place end) place) cleared ∙ ap (disconnected side place) (sym is)) h

      by : (o : Option ℕ) → ((q : ℕ) → o ≡ Some q → is_port end q ≡ false)
          → Performs environment service_id p handler histories buffers has_end (sender_action buffers o None) place
          (disconnected side place end) side' failure
          → Performs environment service_id p handler histories buffers has_end
          (sender_action buffers o (occupant side.ends place)) place side side' failure
      by None differs h = goes h
      by (Some q) differs h = rw is (which (buffers q) h) where
        which : (o : Option ℕ)
            → Performs environment service_id p handler histories buffers has_end
            (elim o as (λ _. SenderAction) [ None ↦ Disconnect | Some b ↦ Connect q b ]) place
            (disconnected side place end) side' failure
            → Performs environment service_id p handler histories buffers has_end (elim o as (λ _. SenderAction) [
              | None ↦ cond (is_port end q) (Drop_waiting q) Disconnect
              | Some b ↦ cond (is_port end q) Keep_end (Connect q b)
            ]) place side side' failure
        which None h = rw (differs q refl) (goes h)
        which (Some b) h = rw (differs q refl) (makes q b h)

  -- what is handed out matters for the subscriber at the place alone
  pub update-histories : (others : ℕ → List ℕ) → ((q : ℕ) → at ≡ Some q → histories q ≡ others q)
      → (side' : SenderSide) (failure : Option ConnectionFailure) → Updated side side' failure
      → UpdateSenderPlace environment service_id p handler others buffers has_end place at side side' failure
  update-histories others same side' failure =
      performs (sender_action buffers at (occupant side.ends place)) (λ q buffer is. same q (connects at q buffer is))
    where
      decided : (r : ℕ) (o : Option ℕ) (q buffer : ℕ)
          → elim o as (λ _. SenderAction) [
            | None ↦ cond (is_port (occupant side.ends place) r) (Drop_waiting r) Disconnect
            | Some b ↦ cond (is_port (occupant side.ends place) r) Keep_end (Connect r b)
          ] ≡ Connect q buffer → r ≡ q
      decided r None q buffer e = none (is_port (occupant side.ends place) r) e where
        none : (t : Bool) → cond t (Drop_waiting r) Disconnect ≡ Connect q buffer → r ≡ q
        none true h = absurd cc
        none false h = absurd cc
      decided r (Some b) q buffer e = some (is_port (occupant side.ends place) r) e where
        some : (t : Bool) → cond t Keep_end (Connect r b) ≡ Connect q buffer → r ≡ q
        some true h = absurd cc
        some false h = cc

      connects : (o : Option ℕ) (q buffer : ℕ) → sender_action buffers o (occupant side.ends place) ≡ Connect q buffer
          → o ≡ Some q
      connects None q buffer e = absurd cc
      connects (Some r) q buffer e = ap (λ (n : ℕ). Some n) (decided r (buffers r) q buffer e)

      performs : (action : SenderAction) → ((q buffer : ℕ) → action ≡ Connect q buffer → histories q ≡ others q)
          → Performs environment service_id p handler histories buffers has_end action place side side' failure
          → Performs environment service_id p handler others buffers has_end action place side side' failure
      performs Keep_end same h = h
      performs (Drop_waiting q) same h = h
      performs Disconnect same h = h
      performs (Connect q buffer) same h = elim h [
        | inl made ↦
            inl (
              made.0 ∙ ap (λ (ns : List ℕ). connected ns
                  (disconnected side place (occupant side.ends place)) place q buffer) (same q buffer refl),
              made.1,
            )
        | inr refused ↦ inr refused
      ]
