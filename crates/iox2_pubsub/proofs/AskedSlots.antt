-- What an override that always asks for the same number of slots comes to.
use Rattle.std.proofs.Common.{◌≡◌, ◌∙◌, ◌⊎◌, inl, inr, ℕ, Bool, true, false, ◌&&◌, ◌==◌, refl, ap, subst, Option, None}
use Rattle.std.proofs.Common.{Some, Result, Ok, Err}
use Rattle.std.specs.Bool.{MatchBool}
use Rattle.std.specs.Prelude.{MatchOption, MatchResult}
use Rattle.iox2_machine.specs.machine.Limits.{fits, last_number, segment_fits, worst_case}
use Rattle.iox2_machine.specs.machine.Places.{free_place}
use Rattle.iox2_machine.specs.machine.Ports.{CreatePublisher, MakePublisher, slots_for}
use Rattle.iox2_machine.specs.machine.Records.{Environment, PublisherSettings}
use Rattle.iox2_machine.specs.machine.State.{State}
use Rattle.iox2_machine.specs.declared.errors.PublisherCreateError.{PublisherCreateError}
use Rattle.iox2_machine.specs.declared.errors.PublisherCreateError.TheVariants.{UnableToCreatePortTag}
use Rattle.iox2_machine.specs.declared.errors.PublisherCreateError.TheVariants.{ExceedsMaxSupportedPublishers}
use Rattle.iox2_machine.specs.declared.errors.PublisherCreateError.TheVariants.{UnableToCreateDataSegment}
use Rattle.iox2_pubsub.specs.Factories.{AsksForSlots, with_slots}

both : (b : Bool) → (b ≡ true) ⊎ (b ≡ false)
both true = inl refl
both false = inr refl

-- what answers with a number asks for that
pub asks-alike : {A : ℕ → Type 0} (fit : Bool) (asked : Option ℕ) (slots : ℕ) → ((n : ℕ) → A n → n ≡ slots)
    → MatchBool fit ((n : ℕ) × A n × (asked ≡ Some n)) (asked ≡ None)
    → MatchBool fit ((n : ℕ) × (n ≡ slots) × (asked ≡ Some n)) (asked ≡ None)
asks-alike true asked slots is h = (h.0, is h.0 h.1, h.2)
asks-alike false asked slots is h = h

-- where the worst case doesn't fit, neither the size of the segment nor what is made of it is looked at
unfit-as : (a fit rest rest' : Bool) (b : Option ℕ) (X Y Z : Type 0) (M M' : ℕ → Type 0) → fit ≡ false
    → MatchBool a X (MatchOption b Y (λ place. MatchBool (fit && rest) (M place) Z))
    → MatchBool a X (MatchOption b Y (λ place. MatchBool (fit && rest') (M' place) Z))
unfit-as a fit rest rest' b X Y Z M M' e h =
    rw e (subst (λ (f : Bool). MatchBool a X (MatchOption b Y (λ place. MatchBool (f && rest) (M place) Z))) e h)

module _ {T U : Type 0} (environment : Environment) (s : State T U) (given : PublisherSettings) (s' : State T U) where
  -- the publisher is made with so many slots asked for, or refused
  abbrev Creates : Option ℕ → Option PublisherCreateError → Type 0
  Creates asked refusal = CreatePublisher environment s (with_slots given asked) s' refusal

  -- where the worst case doesn't fit, the number that is asked for doesn't count
  unfit-asked : (refusal : Option PublisherCreateError) (was asked : Option ℕ)
      → fits (worst_case s.config given.max_loaned_samples) ≡ false → Creates was refusal → Creates asked refusal
  unfit-asked refusal was asked unfit h = unfit-as
      (s.next_port == last_number) (fits (worst_case s.config given.max_loaned_samples))
      (segment_fits s.config (slots_for s.config (with_slots given was)) given.initial_max_slice_len)
      (segment_fits s.config (slots_for s.config (with_slots given asked)) given.initial_max_slice_len)
      (free_place (s.config).max_publishers s.publisher_places)
      ((s' ≡ s) × (refusal ≡ Some UnableToCreatePortTag)) ((s' ≡ s) × (refusal ≡ Some ExceedsMaxSupportedPublishers))
      ((s' ≡ s) × (refusal ≡ Some UnableToCreateDataSegment))
      (λ place. MakePublisher environment s (with_slots given was) place s' refusal)
      (λ place. MakePublisher environment s (with_slots given asked) place s' refusal)
      unfit h

  -- what is asked for is the number, or the worst case doesn't fit
  asked-for : (refusal : Option PublisherCreateError) (slots : ℕ) (asked : Option ℕ)
      → AsksForSlots (λ worst n. n ≡ slots) (worst_case s.config given.max_loaned_samples) asked
      → Creates asked refusal → Creates (Some slots) refusal
  asked-for refusal slots asked asks h = elim (both (fits (worst_case s.config given.max_loaned_samples))) [
    | inl fit ↦
        let told =
        subst (λ (f : Bool). MatchBool f ((n : ℕ) × (n ≡ slots) × (asked ≡ Some n)) (asked ≡ None)) fit asks in
        subst (λ (o : Option ℕ). Creates o refusal) (told.2 ∙ ap (λ (n : ℕ). Some n) told.1) h
    | inr unfit ↦ unfit-asked refusal asked (Some slots) unfit h
  ]

  pub asked-result : {A : Type 0} (id : A → ℕ) (result : Result A PublisherCreateError) (slots : ℕ) (asked : Option ℕ)
      → AsksForSlots (λ worst n. n ≡ slots) (worst_case s.config given.max_loaned_samples) asked
      → MatchResult result (λ a. (id a ≡ s.next_port) × Creates asked None) (λ e. Creates asked (Some e))
      → MatchResult result (λ a. (id a ≡ s.next_port) × Creates (Some slots) None) (λ e. Creates (Some slots) (Some e))
  asked-result id (Ok a) slots asked asks h = (h.0, asked-for None slots asked asks h.1)
  asked-result id (Err e) slots asked asks h = asked-for (Some e) slots asked asks h
