-- Loans from two independent states that look alike to a subscriber.
use Rattle.std.proofs.Common.{◌≡◌, ℕ, ◌+◌, ◌*◌, ◌≤◌, ◌<◌, Bool, true, false, cond, ◌&&◌, [], ◌∷◌, ◌++◌, length, refl}
use Rattle.std.proofs.Common.{sym, ap, subst, ◌∙◌, arith, Option, None, Some, eqb}
use Rattle.std.specs.Prelude.{nat_lt, nat_le, max, replicate}
use Rattle.std.proofs.lemmas.Bool.{ne_eqb, leb-false, true≢false}
use Rattle.std.proofs.lemmas.Option.{none-some}
use Rattle.iox2_machine.specs.machine.Limits.{buffer_limit, channel_count, worst_case, last_number}
use Rattle.iox2_machine.specs.machine.Numbers.{put_at, size}
use Rattle.iox2_machine.specs.machine.Records.{Publisher}
use Rattle.iox2_machine.specs.machine.State.{State, held}
use Rattle.iox2_machine.specs.machine.Loans.{is_static, limit_error, loan_granted, GrantLoan, written}
use Rattle.iox2_machine.specs.machine.SingleCalls.{GrantWrittenLoan}
use Rattle.iox2_machine.specs.machine.WellFormed.{IsWellFormed}
use Rattle.iox2_machine.specs.declared.service_config.ServiceConfig.{ServiceConfig}
use Rattle.iox2_machine.specs.declared.errors.LoanError.{LoanError}
use Rattle.iox2_machine.specs.declared.errors.LoanError.TheVariants.{ExceedsMaxLoans, ExceedsMaxLoanSize}
use Rattle.iox2_machine.specs.declared.errors.LoanError.TheVariants.{InternalFailure}
use Rattle.iox2_laws.proofs.Cases.{by_options, by_bool, by_bools}
use Rattle.iox2_laws.proofs.Enough.{holds_at_most_worst_case}
use Rattle.iox2_machine.specs.machine.Environments.{ample_memory}
use Rattle.iox2_commands.specs.Isolation.{IsIndependentPublisher}
use Rattle.iox2_commands.proofs.AlikeViews.{View, view_of}

-- fewer loans have a smaller worst case
worst_case_less : (c : ServiceConfig) (k most : ℕ) → k < most → worst_case c k < worst_case c most
worst_case_less c k most h =
    grow (c.max_subscribers * channel_count c * (buffer_limit c + c.subscriber_max_borrowed_samples) + c.history_size) k
    most h
  where
    grow : (d k most : ℕ) → k < most → d + k < d + most
    grow d k most h = omega arith

-- where no limit is met, fewer loans are out than the limit
below_limit : (checks_length : Bool) (x : Publisher) (len : ℕ) → limit_error checks_length x len ≡ None
    → length x.loans < x.max_loaned_samples
below_limit checks_length x len h =
    at (checks_length && is_static x.allocation_strategy && nat_lt x.initial_max_slice_len len)
    (nat_le x.max_loaned_samples (length x.loans)) refl h
  where
    at : (long many : Bool) → nat_le x.max_loaned_samples (length x.loans) ≡ many
        → cond long (Some ExceedsMaxLoanSize) (cond many (Some ExceedsMaxLoans) None) ≡ None
        → length x.loans < x.max_loaned_samples
    at true many e h = absurd (none-some ExceedsMaxLoanSize (sym h))
    at false true e h = absurd (none-some ExceedsMaxLoans (sym h))
    at false false e h = leb-false x.max_loaned_samples (length x.loans) e

module _ {T U : Type 0} where
  -- an independent publisher below its limit isn't full
  not_full : (s : State T U) → IsWellFormed s → (p : ℕ) (x : Publisher) → s.publishers p ≡ Some x
      → IsIndependentPublisher s.config x
      → length x.loans < x.max_loaned_samples → eqb (size (held s p x)) x.slots ≡ false
  not_full s w p x e independent low =
      let few : size (held s p x) ≤ worst_case s.config (length x.loans) = holds_at_most_worst_case s w p x e in
      let less : worst_case s.config (length x.loans) < worst_case s.config x.max_loaned_samples =
      worst_case_less s.config (length x.loans) x.max_loaned_samples low in
      ne_eqb (size (held s p x)) x.slots (λ same. apart (size (held s p x)) (worst_case s.config (length x.loans))
      (worst_case s.config x.max_loaned_samples) few less (same ∙ independent.slots))
    where
      apart : (a b c : ℕ) → a ≤ b → b < c → a ≡ c → ⊥
      apart a b c f g h = omega arith

  module _ (q : ℕ) where
    abbrev GrantedAlike : (a' b' : State T U) (refusal refusal' : Option LoanError) → Type 0
    GrantedAlike a' b' refusal refusal' = (view_of q a' ≡ view_of q b') × (refusal ≡ refusal')

    granted_alike : (a b : State T U) (default_header : U) (p : ℕ) (x : Publisher) (len : ℕ) → view_of q a ≡ view_of q b
        → view_of q (loan_granted default_header a p x len x.segments) ≡ view_of q
        (loan_granted default_header b p x len x.segments)
    granted_alike a b default_header p x len e = λ i. record (e i) {
      next_message = (e i).next_message + 1;
      publishers = put_at (e i).publishers p (Some (record x {
        loans = x.loans ++ (e i).next_message ∷ [];
        longest_granted = max x.longest_granted len;
        segments = x.segments;
      }));
      loans = put_at (e i).loans (e i).next_message (Some (record {
        publisher = p;
        header = record { node_id = ((e i).config).node_id; publisher_id = p; number_of_elements = len };
        user_header = default_header;
        cells = replicate (len * ((e i).config).units_per_element) None;
        is_written = false;
      }));
    }

    stayed : (a b a' b' : State T U) (v refusal refusal' : Option LoanError) → view_of q a ≡ view_of q b
        → (a' ≡ a) × (refusal ≡ v) → (b' ≡ b) × (refusal' ≡ v)
        → GrantedAlike a' b' refusal refusal'
    stayed a b a' b' v refusal refusal' e h k = (ap (view_of q) h.0 ∙ e ∙ sym (ap (view_of q) k.0), h.1 ∙ sym k.1)

    -- a loan is granted in both or refused in both
    pub grant_loan_alike : (a b a' b' : State T U) (default_header : U) (checks_length : Bool) (len p : ℕ)
        (refusal refusal' : Option LoanError)
        → view_of q a ≡ view_of q b
        → IsWellFormed a → IsWellFormed b
        → ((x : Publisher) → a.publishers p ≡ Some x → IsIndependentPublisher a.config x)
        → GrantLoan ample_memory default_header checks_length len a p a' refusal
        → GrantLoan ample_memory default_header checks_length len b p b' refusal'
        → GrantedAlike a' b' refusal refusal'
    grant_loan_alike a b a' b' default_header checks_length len p refusal refusal' e w w' independent h k =
        let Goal : Type 0 = GrantedAlike a' b' refusal refusal' in
        by_options Goal (a.publishers p) (b.publishers p) _ _ _ _ (ap (λ (v : View T U). v.publishers p) e) h k
        (λ _ v _. absurd v) (λ x found h k.
        by_options Goal (limit_error checks_length x len) (limit_error checks_length x len) _ _ _ _ refl h k
        (λ free h k. by_bools Goal (is_static x.allocation_strategy) (is_static x.allocation_strategy) _ _ _ _ refl h k
        (λ _ h k.
        let low : length x.loans < x.max_loaned_samples = below_limit checks_length x len free in
        let found' : b.publishers p ≡ Some x = sym (ap (λ (v : View T U). v.publishers p) e) ∙ found in
        let independent' : IsIndependentPublisher b.config x =
        subst (λ (v : View T U). IsIndependentPublisher v.config x) e (independent x found) in
        by_bool Goal (eqb (size (held a p x)) x.slots) _ _ h
        (λ full _. absurd (true≢false (sym full ∙ not_full a w p x found (independent x found) low))) (λ _ h.
        by_bool Goal (eqb (size (held b p x)) x.slots) _ _ k
        (λ full _. absurd (true≢false (sym full ∙ not_full b w' p x found' independent' low))) (λ _ k.
        by_bools Goal (eqb a.next_message last_number) (eqb b.next_message last_number) _ _ _ _
        (ap (λ (v : View T U). eqb v.next_message last_number) e) h k
        (λ _ h k. stayed a b a' b' (Some InternalFailure) refusal refusal' e h k)
        (λ _ h k. stayed _ _ a' b' None refusal refusal' (granted_alike a b default_header p x len e) h k))))
        (λ dynamic _ _. absurd (true≢false (sym (independent x found).static ∙ dynamic))))
        (λ limit _ h k. stayed a b a' b' (Some limit) refusal refusal' e h k))

    -- the same for a loan that is written at once
    pub grant_written_loan_alike : (a b a' b' : State T U) (value : T) (default_header : U) (checks_length : Bool)
        (len p : ℕ) (refusal refusal' : Option LoanError) → view_of q a ≡ view_of q b
        → IsWellFormed a → IsWellFormed b
        → ((x : Publisher) → a.publishers p ≡ Some x → IsIndependentPublisher a.config x)
        → GrantWrittenLoan ample_memory value default_header checks_length len a p a' refusal
        → GrantWrittenLoan ample_memory value default_header checks_length len b p b' refusal'
        → GrantedAlike a' b' refusal refusal'
    grant_written_loan_alike a b a' b' value default_header checks_length len p refusal refusal' e w w' independent h
        k =
        let granted : GrantedAlike h.0 k.0 refusal refusal' =
        grant_loan_alike a b h.0 k.0 default_header checks_length len p refusal refusal' e w w' independent h.1 k.1 in
        by_options (GrantedAlike a' b' refusal refusal') refusal refusal' _ _ _ _ granted.1 h.2 k.2
        (λ _ j m. by_options (GrantedAlike a' b' refusal refusal') ((h.0).loans a.next_message)
        ((k.0).loans b.next_message) _ _ _ _ (λ i. (granted.0 i).loans (e i).next_message) j m (λ _ v _. absurd v)
        (λ l _ j m. (
          ap (view_of q) j
              ∙ (λ i. record (granted.0 i) {
                loans = put_at (granted.0 i).loans (e i).next_message
                    (Some (written l value));
              }) ∙ sym (ap (view_of q) m),
          granted.1,
        )))
        (λ x _ j m. (ap (view_of q) j ∙ granted.0 ∙ sym (ap (view_of q) m), granted.1))
