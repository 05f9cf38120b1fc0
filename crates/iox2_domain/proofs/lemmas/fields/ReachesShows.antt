-- A step on the fields of a domain, seen from outside.
use Rattle.std.proofs.Common.{◌≡◌, ℕ, ◌≤◌, refl, ap, sym, subst, ◌∙◌, arith}
use Rattle.std.specs.declared.option.Option.TheVariants.{Some, None}
use Rattle.iox2_machine.specs.machine.Records.{Loan}
use Rattle.iox2_machine.specs.machine.State.{State, Messages}
use Rattle.iox2_domain.specs.Kept.{state_of}
use Rattle.iox2_domain.specs.Fields.{Fields, kept_of}
use Rattle.iox2_domain.specs.Invariant.{IsDomain}
use Rattle.iox2_domain.specs.Reaches.{Reaches}
use Rattle.iox2_domain.specs.Shows.{Shows}
use Rattle.iox2_domain.proofs.lemmas.fields.Views.{shows-next}
use Rattle.iox2_domain.proofs.lemmas.fields.PlacesKept.{places-still, places-then}

module _ {T U : Type 0} where
  -- nothing changes
  pub reaches-same : (f : Fields T U) → IsDomain f → Reaches f f (state_of (kept_of f))
  reaches-same f sound = record { agrees = sound; state = refl; entries = λ n entry at. at; places = places-still }

  -- one step after another
  pub reaches-then : (f g h : Fields T U) (s t : State T U) → Reaches f g s → Reaches g h t → Reaches f h t
  reaches-then f g h s t first next =
      record {
        agrees = next.agrees;
        state = next.state;
        entries = λ n entry at.
            first.entries n entry (next.entries n entry at);
        places = places-then first.places next.places;
      }

  -- the domain shows what the step comes to, where a loan has no message and no number is taken back
  pub reaches-shows : (f g : Fields T U) (m : Messages T U) (s t : State T U) → Shows (kept_of f) m s → Reaches f g t
      → s.next_message ≤ t.next_message
      → ((n : ℕ) (l : Loan T U) → t.loans n ≡ Some l → m n ≡ None) → Shows (kept_of g) m t
  reaches-shows f g m s t shown reached rises unsent =
      subst (Shows (kept_of g) m) reached.state
      (shows-next (kept_of f) (kept_of g) m s shown reached.agrees.well_formed reached.agrees.entries reached.entries
      (subst (λ (u : State T U). s.next_message ≤ u.next_message) (sym reached.state) rises)
      (subst (λ (u : State T U). (n : ℕ) (l : Loan T U) → u.loans n ≡ Some l → m n ≡ None) (sym reached.state) unsent))

  -- the same, where loans and numbers stay
  pub reaches-shows-same : (f g : Fields T U) (m : Messages T U) (s t : State T U) → Shows (kept_of f) m s
      → Reaches f g t → t.next_message ≡ s.next_message
      → t.loans ≡ s.loans → Shows (kept_of g) m t
  reaches-shows-same f g m s t shown reached numbers loans =
      reaches-shows f g m s t shown reached (omega arith)
      (λ n l at. shown.unsent n l (ap (λ all. all n) (sym loans) ∙ at))
