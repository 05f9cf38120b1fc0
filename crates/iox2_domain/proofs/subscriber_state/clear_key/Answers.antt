use Rattle.std.proofs.Common.{◌≡◌, true, ◌∙◌, ap, get_or, sym, Option, None, Some, nat_eq, ℕ, refl}
use Rattle.std.proofs.lemmas.Bool.{eq-eqb, eqb-true, true≢false}
use Rattle.std.specs.Option.{option_eq}
use Rattle.iox2_domain.proofs.lemmas.containers.ForgottenKeys.{cleared-at, not-there}
use Rattle.iox2_domain.proofs.subscriber_state.clear_key.Goals as goal

equal-some : (o : Option ℕ) (n : ℕ) → option_eq nat_eq o (Some n) ≡ true → o ≡ Some n
equal-some None n e = absurd cc
equal-some (Some m) n e = ap Some (eqb-true m n e)

pub returns-then-eq : goal.returns-then-eq
returns-then-eq c =
    cleared-at c.args.key c.args.keys.now c.args.place
    (sym c.key_in.ensures ∙ equal-some c.key_in.result c.args.key (sym c.eq.ensures ∙ c.if-eq.true)) c.requires

pub returns-else-eq : goal.returns-else-eq
returns-else-eq c = not-there c.args.key c.args.keys.now (λ i at.
    true≢false (sym (c.eq.ensures ∙ ap (λ (o : Option ℕ). option_eq nat_eq o (Some c.args.key))
    (c.key_in.ensures ∙ sym (ap (λ (n : ℕ). get_or c.args.keys.now n None) (c.requires i at)) ∙ at)
    ∙ eq-eqb c.args.key c.args.key refl) ∙ c.if-eq.false))
