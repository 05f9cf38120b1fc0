-- A blocked send, and what a call does to it, in a state that its domain shows.
use Rattle.std.proofs.Common.{◌≡◌, ℕ, List, Result, None, Some, refl, ap, sym, subst, ◌∙◌}
use Rattle.std.specs.Prelude.{IfOk, slice_index_or}
use Rattle.iox2_machine.specs.machine.Records.{BlockedSend, Publisher}
use Rattle.iox2_machine.specs.machine.Sends.{Blocked_send, SendResult}
use Rattle.iox2_machine.specs.machine.SingleCalls.{HoldsBlocked}
use Rattle.iox2_machine.specs.machine.State.{State, Messages}
use Rattle.iox2_machine.specs.declared.errors.SendError.{SendError}
use Rattle.iox2_machine.specs.declared.service_config.ServiceConfig.{ServiceConfig}
use Rattle.iox2_connections.specs.LookUp.{look_up}
use Rattle.iox2_domain.specs.BlockedSends.{HasBlocked, waiting_send}
use Rattle.iox2_domain.specs.Boxes.{DomainBoxes}
use Rattle.iox2_domain.specs.Fields.{Fields, kept_of, keeping}
use Rattle.iox2_domain.specs.Invariant.{IsDomain, is_publisher}
use Rattle.iox2_domain.specs.Kept.{Kept, state_of}
use Rattle.iox2_domain.specs.Ports.{PublisherFields}
use Rattle.iox2_domain.specs.Shows.{Shows}
use Rattle.iox2_domain.specs.declared.boxes.PortBox.{PortBox}
use Rattle.iox2_domain.specs.declared.publisher_state.BlockedDelivery.{BlockedDelivery}
use Rattle.iox2_domain.proofs.lemmas.slots.LeftConnections.{unknown, stands-nowhere}
use Rattle.iox2_pubsub.specs.Live.{IsBlockedSend, blocked_key}
use Rattle.iox2_pubsub.specs.SendCalls.{IfBlocked, result_of_send}
use Rattle.iox2_pubsub.specs.declared.blocked_send.BlockedSend.{BlockedSend as Handle}
use Rattle.iox2_pubsub.specs.declared.send_outcome.SendOutcome.{SendOutcome}
use Rattle.iox2_pubsub.proofs.BlockedShown.{as-machine, has-blocked, some-waits}
use Rattle.iox2_pubsub.proofs.CallsStay.{always-shown}
use Rattle.iox2_pubsub.proofs.LiveParts.{blocked-live, blocked-parts}
use Rattle.iox2_pubsub.proofs.SendShown.{is-blocked}

-- A state that is shown, the send that waits in it, and the step that a call makes from there.
pub record Waiting {T U F G : Type 0} (kept : Kept T U F G) (blocked : Handle)
    (Step : Messages T U → State T U → Publisher → BlockedSend → Type 0) : Type 0 where
  pub m : Messages T U
  pub s : State T U
  pub shown : Shows kept m s
  pub held : HoldsBlocked (state_of kept) blocked.loan.publisher blocked.loan.number
  pub at : s.publishers blocked.loan.publisher ≡ Some held.0
  pub step : Step m s held.0 held.1

module _ {T U F G : Type 0} {boxes : DomainBoxes F G} (f : Fields T U) (sound : IsDomain f) (kept : Kept T U F G)
    (view : keeping boxes f ≡ kept) (blocked : Handle) (live : IsBlockedSend kept blocked) where
  pub from-blocked : {Step : Messages T U → State T U → Publisher → BlockedSend → Type 0}
      → ((m : Messages T U) (s : State T U) (x : Publisher) (b : BlockedSend) → Shows kept m s
      → s.publishers blocked.loan.publisher ≡ Some x → x.blocked ≡ Some b → Step m s x b) → Waiting kept blocked Step
  from-blocked step =
      let it = always-shown f kept sound view in
      let held = (blocked-parts kept (blocked_key blocked) live).1 in
      let at : (it.1).publishers blocked.loan.publisher ≡ Some held.0 =
      ap (λ (t : State T U). t.publishers blocked.loan.publisher) (it.2).state ∙ held.2 in
      record {
        m = it.0;
        s = it.1;
        shown = it.2;
        held = held;
        at = at;
        step = step it.0 it.1 held.0 held.1 it.2 at held.3;
      }

  -- it waits in what the fields keep
  pub blocked-inside : HoldsBlocked (state_of (kept_of f)) blocked.loan.publisher blocked.loan.number
  blocked-inside = subst (λ (k : Kept T U F G). HoldsBlocked (state_of k) blocked.loan.publisher blocked.loan.number)
      (sym view) (blocked-parts kept (blocked_key blocked) live).1

  -- so its publisher stands somewhere
  pub blocked-stands : look_up (is_publisher blocked.loan.publisher) f.publishers ≡ None → ⊥
  blocked-stands none =
      let no : None ≡ Some blocked-inside.0 =
      sym (unknown f blocked.loan.publisher (stands-nowhere f.publishers blocked.loan.publisher none))
      ∙ blocked-inside.2 in
      absurd cc

  -- where it is blocked again, it is the same send
  pub blocked-again : (new : Kept T U F G) → new.config ≡ kept.config → (outcome : Result SendOutcome SendError)
      → IfOk outcome (λ came. IfBlocked came (λ it. it ≡ blocked))
      → (held : HoldsBlocked (state_of kept) blocked.loan.publisher blocked.loan.number) (s' : State T U)
      → s' ≡ state_of new
      → (result_of_send outcome ≡ Blocked_send → HoldsBlocked s' blocked.loan.publisher (held.1).message)
      → IfOk outcome (λ came. IfBlocked came (λ it. IsBlockedSend new it × (blocked_key it ≡ blocked_key blocked)))
  blocked-again new same outcome its held s' is waits =
      is-blocked new (blocked_key blocked) blocked refl outcome its (λ again.
      blocked-live new (blocked_key blocked) (
        (blocked-parts kept (blocked_key blocked) live).0 ∙ sym (ap (λ (c : ServiceConfig). c.service_id) same),
        subst (HoldsBlocked (state_of new) blocked.loan.publisher) held.4
            (subst (λ (t : State T U). HoldsBlocked t blocked.loan.publisher (held.1).message) is (waits again)),
      ))

  -- and where its publisher stands, it waits
  module _ (place : ℕ) (found : (x : PublisherFields) × (slice_index_or f.publishers place None ≡ Some x)
      × (x.id ≡ blocked.loan.publisher)) where
    pub waits-there : HasBlocked f place
    waits-there = has-blocked f sound place blocked.loan.publisher blocked.loan.number found blocked-inside

    abbrev pub delivery-there : (d : BlockedDelivery) × ((found.0).blocked ≡ Some d)
        × (waiting_send f found.0 d ≡ blocked-inside.1)
    delivery-there = some-waits f sound place blocked.loan.publisher blocked.loan.number found blocked-inside

    -- what a call says of each delivery that is blocked there it says of this one
    pub goes-there : {Goes : PublisherFields → BlockedDelivery → Type 0}
        → ((x : PublisherFields) (d : BlockedDelivery) → slice_index_or f.publishers place None ≡ Some x
        → x.blocked ≡ Some d → Goes x d) → Goes found.0 delivery-there.0
    goes-there goes = goes found.0 delivery-there.0 found.1 delivery-there.1

    -- and what it does to it, it does to the send that waits in a state that is shown
    pub does-there : (Does : List (PortBox F G) → State T U → ℕ → BlockedSend → SendResult → Type 0) (end : SendResult)
        → Does boxes.publishers (state_of (kept_of f)) (found.0).id (waiting_send f found.0 delivery-there.0) end
        → (result : SendResult) → result ≡ end → (m : Messages T U) (s : State T U) (x : Publisher) (b : BlockedSend)
        → Shows kept m s → s.publishers blocked.loan.publisher ≡ Some x → x.blocked ≡ Some b
        → Does (kept.boxes).publishers s blocked.loan.publisher b result
    does-there Does end does result is m s x b shown at waits =
        subst (Does (kept.boxes).publishers s blocked.loan.publisher b) (sym is)
        (subst (λ (all : List (PortBox F G)). Does all s blocked.loan.publisher b end)
        (ap (λ (k : Kept T U F G). (k.boxes).publishers) view)
        (as-machine f sound place blocked.loan.publisher blocked.loan.number found blocked-inside kept view m s shown x
        b at waits (λ t q w. Does boxes.publishers t q w end) does))
