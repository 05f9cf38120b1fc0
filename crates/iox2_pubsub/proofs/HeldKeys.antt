-- What a search among a domain's fields tells of the keys of handles.
use Rattle.std.proofs.Common.{◌≡◌, ℕ, Bool, true, false, ap, sym, subst, eqb, eqb-true, eq-eqb, ◌∙◌}
use Rattle.std.specs.Prelude.{◌↔◌, IsTrue}
use Rattle.iox2_machine.specs.machine.State.{State}
use Rattle.iox2_machine.specs.declared.service_config.ServiceConfig.{ServiceConfig}
use Rattle.iox2_domain.specs.Boxes.{DomainBoxes}
use Rattle.iox2_domain.specs.Fields.{Fields, kept_of, keeping}
use Rattle.iox2_domain.specs.Kept.{Kept, state_of}

-- a handle is of the service whose settings are these, or of another
pub same-service : {id : ℕ} {config config' : ServiceConfig} → config ≡ config' → id ≡ config.service_id
    → id ≡ config'.service_id
same-service same is = is ∙ ap (λ (c : ServiceConfig). c.service_id) same

pub other-service : {id : ℕ} {config config' : ServiceConfig} → config ≡ config' → (id ≡ config.service_id → ⊥)
    → id ≡ config'.service_id → ⊥
other-service same away is = away (is ∙ sym (ap (λ (c : ServiceConfig). c.service_id) same))

-- what isn't so is answered by no
pub refuted : {P : Type 0} → (P → ⊥) → IsTrue false ↔ P
refuted none = (λ no. absurd cc, λ is. absurd (none is))

-- where a place was found, a comparison of places tells what holds at that place alone
pub place-told : {P : Type 0} (i place : ℕ) → ((i ≡ place) ↔ P) → (eqb i place ≡ true) ↔ P
place-told i place holds = (λ yes. holds.0 (eqb-true i place yes), λ is. eq-eqb i place (holds.1 is))

-- what is told of what is told
pub told-through : {P Q R : Type 0} → (P ↔ Q) → (Q ↔ R) → P ↔ R
told-through first second = (λ p. second.0 (first.0 p), λ r. first.1 (second.1 r))

module _ {T U F G : Type 0} {boxes : DomainBoxes F G} (f : Fields T U) (kept : Kept T U F G)
    (view : keeping boxes f ≡ kept) where
  -- what is told of the fields' state is told of the domain's
  told : {answer : Bool} (Is : State T U → Type 0) → (IsTrue answer ↔ Is (state_of (kept_of f)))
      → IsTrue answer ↔ Is (state_of kept)
  told {answer} Is has = subst (λ (k : Kept T U F G). IsTrue answer ↔ Is (state_of k)) view has

  service : (id : ℕ) → id ≡ (f.config).service_id → id ≡ (kept.config).service_id
  service id ours = ours ∙ ap (λ (k : Kept T U F G). (k.config).service_id) view

  -- of a loan, a blocked send or a sample
  pub held-message : {answer : Bool} (Is : State T U → Type 0) (id : ℕ) → id ≡ (f.config).service_id
      → (IsTrue answer ↔ Is (state_of (kept_of f)))
      → IsTrue answer ↔ ((id ≡ (kept.config).service_id) × Is (state_of kept))
  held-message Is id ours has = (λ yes. (service id ours, (told Is has).0 yes), λ live. (told Is has).1 live.1)

  -- of a port
  pub held-port : {answer : Bool} (Is : State T U → Type 0) (id message : ℕ) → message ≡ 0 → id ≡ (f.config).service_id
      → (IsTrue answer ↔ Is (state_of (kept_of f)))
      → IsTrue answer ↔ ((message ≡ 0) × (id ≡ (kept.config).service_id) × Is (state_of kept))
  held-port Is id message none ours has =
      (λ yes. (none, service id ours, (told Is has).0 yes), λ live. (told Is has).1 live.2)
