use Rattle.std.proofs.Common.{◌≡◌, ℕ, None, Some, sym, subst, ◌∙◌}
use Rattle.std.specs.Prelude.{◌↔◌, IsTrue}
use Rattle.iox2_machine.specs.machine.SingleCalls.{HoldsBlocked}
use Rattle.iox2_domain.specs.Fields.{kept_of}
use Rattle.iox2_domain.specs.Kept.{state_of}
use Rattle.iox2_domain.proofs.lemmas.slots.LeftConnections.{unknown, stands-nowhere}
use Rattle.iox2_messages.proofs.blocked_sends.has_blocked_send.Goals as goal

pub returns-in_default : goal.returns-in_default
returns-in_default g c =
    let old = c.args.state.now in (
      λ no. absurd cc,
      λ held. let none : None ≡ Some held.0 =
          sym (unknown old c.args.publisher (stands-nowhere old.publishers c.args.publisher c.in_default.ensures))
          ∙ held.2 in absurd cc,
    )

pub waits_with-requires : goal.waits_with-requires
waits_with-requires g c = record { agrees = c.requires; publisher = c.in-Some.ensures.0; stands = c.in-Some.ensures.1 }

pub returns : goal.returns
returns g c =
    subst (λ (p : ℕ). IsTrue c.waits_with.result ↔ HoldsBlocked (state_of (kept_of c.args.state.now)) p c.args.number)
    c.in-Some.ensures.2
    (c.waits_with.ensures
    (record { agrees = c.requires; publisher = c.in-Some.ensures.0; stands = c.in-Some.ensures.1 }))
