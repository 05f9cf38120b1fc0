-- A call by cases: it is refused and nothing changes, or it did what it was asked for.
use Rattle.std.proofs.Common.{◌≡◌, ℕ, ◌+◌, ◌<◌, Bool, true, false, cond, length, refl, sym, ◌∙◌, ⊎_elim, ◌⊎◌, inl, inr}
use Rattle.std.proofs.Common.{Option, None, Some}
use Rattle.std.specs.Prelude.{◌==◌, nat_lt, nat_le}
use Rattle.std.proofs.lemmas.Bool.{true≢false, leb-false}
use Rattle.std.proofs.lemmas.Option.{none-some}
use Rattle.iox2_machine.specs.machine.Limits.{last_number, segment_limit, buffer_limit}
use Rattle.iox2_machine.specs.machine.Numbers.{size}
use Rattle.iox2_machine.specs.machine.Places.{free_place}
use Rattle.iox2_machine.specs.machine.Records.{Publisher, Environment, PublisherSettings, SubscriberSettings}
use Rattle.iox2_machine.specs.machine.State.{State, held}
use Rattle.iox2_machine.specs.machine.Loans.{is_static, limit_error, loan_granted, DynamicLoan, GrantLoan}
use Rattle.iox2_machine.specs.machine.Ports.{CreatePublisher, CreateSubscriber, FirstPublisherUpdate}
use Rattle.iox2_machine.specs.machine.Ports.{FirstSubscriberUpdate, MakePublisher, MakeSubscriber, with_new_publisher}
use Rattle.iox2_machine.specs.machine.Ports.{with_new_subscriber, first_segment_fits, buffer_for}
use Rattle.iox2_machine.specs.declared.errors.LoanError.{LoanError}
use Rattle.iox2_machine.specs.declared.errors.LoanError.TheVariants.{OutOfMemory, ExceedsMaxLoans, ExceedsMaxLoanSize}
use Rattle.iox2_machine.specs.declared.errors.LoanError.TheVariants.{InternalFailure}
use Rattle.iox2_machine.specs.declared.errors.PublisherCreateError.{PublisherCreateError}
use Rattle.iox2_machine.specs.declared.errors.SubscriberCreateError.{SubscriberCreateError}
use Rattle.iox2_laws.proofs.Cases.{by_option, by_bool}

-- no limit was met
no_limit : {E : Type 0} (a b : Bool) (e e' : E) → cond a (Some e) (cond b (Some e') None) ≡ None → b ≡ false
no_limit true b e e' h = absurd (none-some e (sym h))
no_limit false true e e' h = absurd (none-some e' (sym h))
no_limit false false e e' h = refl

module _ {T U : Type 0} where
  -- a grant by cases: it is refused and nothing changes, or the publisher is within its limits
  module _ (environment : Environment) (default_header : U) (checks_length : Bool) (len : ℕ) (s : State T U) (p : ℕ)
      (s' : State T U) where
    abbrev pub Grants : Publisher → Option LoanError → Type 0
    Grants x refusal =
        (segments : ℕ) × ((segments ≡ x.segments) ⊎ ((segments ≡ x.segments + 1) × (x.segments < segment_limit)))
        × (length x.loans < x.max_loaned_samples)
        × (is_static x.allocation_strategy ≡ true → (size (held s p x) == x.slots) ≡ false)
        × (s' ≡ loan_granted default_header s p x len segments) × (refusal ≡ None)

    dynamic_cases : (R : Type 0) (x : Publisher) → is_static x.allocation_strategy ≡ false
        → length x.loans < x.max_loaned_samples → (refusal : Option LoanError)
        → DynamicLoan environment default_header s p x len s' refusal
        → ((e : LoanError) → s' ≡ s → refusal ≡ Some e → R) → (Grants x refusal → R) → R
    dynamic_cases R x dynamic room None h refused grants =
        grants (
          h.2,
          ⊎_elim (λ same. inl same) (λ more. inr (more.0, more.1)) h.3,
          room,
          λ static. absurd (true≢false (sym static ∙ dynamic)),
          h.4,
          refl,
        )
    dynamic_cases R x dynamic room (Some OutOfMemory) h refused grants = refused OutOfMemory h.0 refl
    dynamic_cases R x dynamic room (Some InternalFailure) h refused grants = refused InternalFailure h.0 refl
    dynamic_cases R x dynamic room (Some ExceedsMaxLoans) h refused grants = absurd h
    dynamic_cases R x dynamic room (Some ExceedsMaxLoanSize) h refused grants = absurd h

    pub grant_cases : (R : Type 0) (refusal : Option LoanError)
        → GrantLoan environment default_header checks_length len s p s' refusal
        → ((e : LoanError) → s' ≡ s → refusal ≡ Some e → R)
        → ((x : Publisher) → s.publishers p ≡ Some x → Grants x refusal → R) → R
    grant_cases R refusal h refused grants =
        by_option R (s.publishers p) _ _ h (λ _ v. absurd v) (λ x here h.
        by_option R (limit_error checks_length x len) _ _ h
        (λ free h.
        let room : length x.loans < x.max_loaned_samples = leb-false x.max_loaned_samples (length x.loans)
        (no_limit _ (nat_le x.max_loaned_samples (length x.loans)) _ _ free) in
        by_bool R (is_static x.allocation_strategy) _ _ h
        (λ static h. by_bool R (size (held s p x) == x.slots) _ _ h (λ _ h. refused OutOfMemory h.0 h.1) (λ apart h.
        by_bool R (s.next_message == last_number) _ _ h (λ _ h. refused InternalFailure h.0 h.1)
        (λ _ h. grants x here (x.segments, inl refl, room, λ _. apart, h.0, h.1))))
        (λ dynamic h. dynamic_cases R x dynamic room refusal h refused (grants x here)))
        (λ limit _ h. refused limit h.0 h.1))

  -- the making of a publisher by cases: it is refused and nothing changes, or it stands at a free place and was updated
  module _ (environment : Environment) (s : State T U) (given : PublisherSettings) (s' : State T U) where
    -- what was made at the place
    abbrev pub MakesPublisher : Option PublisherCreateError → (place : ℕ) → Type 0
    MakesPublisher refusal place =
        (free_place (s.config).max_publishers s.publisher_places ≡ Some place) × (refusal ≡ None)
        × FirstPublisherUpdate environment (with_new_publisher s given place) s.next_port s'

    pub publisher_cases : (R : Type 0) (refusal : Option PublisherCreateError)
        → CreatePublisher environment s given s' refusal
        → ((e : PublisherCreateError) → s' ≡ s → refusal ≡ Some e → R)
        → ((place : ℕ) → MakesPublisher refusal place → R) → R
    publisher_cases R refusal h refused makes =
        by_bool R (s.next_port == last_number) _ _ h (λ _ h. refused _ h.0 h.1) (λ _ h.
        by_option R (free_place (s.config).max_publishers s.publisher_places) _ _ h (λ _ h. refused _ h.0 h.1)
        (λ place free h.
        by_bool R (first_segment_fits s.config given) _ _ h (λ _ h. made place free refusal h refused (makes place))
        (λ _ h. refused _ h.0 h.1)))
      where
        made : (place : ℕ) → free_place (s.config).max_publishers s.publisher_places ≡ Some place
            → (refusal : Option PublisherCreateError) → MakePublisher environment s given place s' refusal
            → ((e : PublisherCreateError) → s' ≡ s → refusal ≡ Some e → R) → (MakesPublisher refusal place → R) → R
        made place free None h refused makes = makes (free, refl, h)
        made place free (Some e) h refused makes = refused e h.1 refl

  -- the making of a subscriber by cases
  module _ (environment : Environment) (s : State T U) (given : SubscriberSettings) (s' : State T U) where
    -- what was made at the place
    abbrev pub MakesSubscriber : Option SubscriberCreateError → (place : ℕ) → Type 0
    MakesSubscriber refusal place =
        (free_place (s.config).max_subscribers s.subscriber_places ≡ Some place)
        × (nat_lt (buffer_limit s.config) (buffer_for given) ≡ false) × (refusal ≡ None)
        × FirstSubscriberUpdate environment (with_new_subscriber s given place) s.next_port s'

    pub subscriber_cases : (R : Type 0) (refusal : Option SubscriberCreateError)
        → CreateSubscriber environment s given s' refusal
        → ((e : SubscriberCreateError) → s' ≡ s → refusal ≡ Some e → R)
        → ((place : ℕ) → MakesSubscriber refusal place → R) → R
    subscriber_cases R refusal h refused makes =
        by_bool R (s.next_port == last_number) _ _ h (λ _ h. refused _ h.0 h.1) (λ _ h.
        by_bool R (nat_lt (buffer_limit s.config) (buffer_for given)) _ _ h (λ _ h. refused _ h.0 h.1) (λ fits h.
        by_option R (free_place (s.config).max_subscribers s.subscriber_places) _ _ h (λ _ h. refused _ h.0 h.1)
        (λ place free h. made place free fits refusal h refused (makes place))))
      where
        made : (place : ℕ) → free_place (s.config).max_subscribers s.subscriber_places ≡ Some place
            → nat_lt (buffer_limit s.config) (buffer_for given) ≡ false
            → (refusal : Option SubscriberCreateError) → MakeSubscriber environment s given place s' refusal
            → ((e : SubscriberCreateError) → s' ≡ s → refusal ≡ Some e → R) → (MakesSubscriber refusal place → R) → R
        made place free fits None h refused makes = makes (free, fits, refl, h)
        made place free fits (Some e) h refused makes = refused e h.1 refl
