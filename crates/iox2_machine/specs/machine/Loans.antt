-- A loan is granted, changed and given back.
use Rattle.std.specs.Prelude.{ℕ, Bool, true, false, if◌then◌else◌, ◌&&◌, [], ◌∷◌, ◌++◌, length, replicate, ◌≡◌, ◌⊎◌}
use Rattle.std.specs.Prelude.{◌+◌, ◌*◌, ◌^◌, ◌<◌, ◌≤◌, ◌==◌, max, nat_lt, nat_le, MatchOption, slice_set, is_some}
use Rattle.std.specs.Bool.{MatchBool}
use Rattle.std.specs.List.{list_all, filter_map}
use Rattle.std.specs.declared.option.Option.{Option}
use Rattle.std.specs.declared.option.Option.TheVariants.{None, Some}
use Rattle.iox2_machine.specs.machine.Limits.{last_number, segment_limit, segment_fits}
use Rattle.iox2_machine.specs.machine.Numbers.{put_at, without, size}
use Rattle.iox2_machine.specs.machine.Records.{Entry, Loan, Publisher, Environment}
use Rattle.iox2_machine.specs.machine.State.{State, held, with_loan, publisher_changed}
use Rattle.iox2_machine.specs.declared.service_config.ServiceConfig.{ServiceConfig}
use Rattle.iox2_machine.specs.declared.allocation.AllocationStrategy.{AllocationStrategy}
use Rattle.iox2_machine.specs.declared.allocation.AllocationStrategy.TheVariants.{Static, BestFit, PowerOfTwo}
use Rattle.iox2_machine.specs.declared.errors.LoanError.{LoanError}
use Rattle.iox2_machine.specs.declared.errors.LoanError.TheVariants.{OutOfMemory, ExceedsMaxLoans, ExceedsMaxLoanSize}
use Rattle.iox2_machine.specs.declared.errors.LoanError.TheVariants.{InternalFailure}

-- A static publisher has one segment for its whole life.
abbrev pub is_static : AllocationStrategy → Bool
is_static Static = true
is_static BestFit = false
is_static PowerOfTwo = false

-- The limit that a loan of that length runs into first. The length counts in slice and custom calls alone.
-- (iceoryx2: `port/publisher.rs`, `loan_slice_uninit_impl`, and `port/details/sender.rs`, `allocate`.)
abbrev pub limit_error : (checks_length : Bool) → Publisher → (len : ℕ) → Option LoanError
limit_error checks_length x len =
    if checks_length && is_static x.allocation_strategy
    && nat_lt x.initial_max_slice_len len then Some ExceedsMaxLoanSize
    else if nat_le x.max_loaned_samples (length x.loans) then Some ExceedsMaxLoans else None

-- The longest length that the publisher's segments are known to have.
abbrev pub known_length : Publisher → ℕ
known_length x = max x.initial_max_slice_len x.longest_granted

-- No segment that a dynamic publisher would make for a loan of that length fits a machine word. A best-fit segment has
-- the longest length so far, this loan's included, the other the next power of two.
abbrev pub NoSegmentFits : ServiceConfig → Publisher → (len : ℕ) → Type 0
NoSegmentFits c x len = by (x.allocation_strategy)
  where
    by : AllocationStrategy → Type 0
    by Static = ⊥
    by BestFit = segment_fits c x.slots (max (known_length x) len) ≡ false
    by PowerOfTwo =
        (exponent : ℕ) → max (known_length x) len ≤ 2 ^ exponent → segment_fits c x.slots (2 ^ exponent) ≡ false

module _ {T U : Type 0} where
  -- A loan of that length with unwritten cells and a default user header is out, under the counter's next number. Its
  -- publisher has that many segments.
  abbrev pub loan_granted : (default_header : U) → State T U → (p : ℕ) → Publisher → (len segments : ℕ) → State T U
  loan_granted default_header s p x len segments = record s {
    next_message = s.next_message + 1;
    publishers = put_at s.publishers p (Some (record x {
      loans = x.loans ++ s.next_message ∷ [];
      longest_granted = max x.longest_granted len;
      segments = segments;
    }));
    loans = put_at s.loans s.next_message (Some (record {
      publisher = p;
      header = record { node_id = (s.config).node_id; publisher_id = p; number_of_elements = len };
      user_header = default_header;
      cells = replicate (len * (s.config).units_per_element) None;
      is_written = false;
    }));
  }

  -- Past the limits, a static publisher's loan is refused exactly if it holds as many different messages and loans as
  -- it has slots, or if the message counter is at its end.
  abbrev pub StaticLoan : (default_header : U) → State T U → (p : ℕ) → Publisher → (len : ℕ) → State T U
      → Option LoanError → Type 0
  StaticLoan default_header s p x len s' refusal =
      MatchBool (size (held s p x) == x.slots)
      ((s' ≡ s) × (refusal ≡ Some OutOfMemory))
      (MatchBool (s.next_message == last_number)
      ((s' ≡ s) × (refusal ≡ Some InternalFailure))
      ((s' ≡ loan_granted default_header s p x len x.segments) × (refusal ≡ None)))

  -- A dynamic publisher has a free slot that is known to be long enough.
  abbrev pub IsGuaranteed : State T U → (p : ℕ) → Publisher → (len : ℕ) → Type 0
  IsGuaranteed s p x len = (size (held s p x) < x.slots) × (len ≤ known_length x)

  -- Past the limits, a dynamic publisher grants a loan with the segments that it has, or with one more. A guaranteed
  -- loan needs no further segment, and is refused only if the message counter is at its end. A loan that isn't
  -- guaranteed is granted only if a segment of its length fits. `OutOfMemory` is returned only if all segments were
  -- made, and
  -- `InternalFailure` only if memory is refused, no segment fits or the counter is at its end.
  abbrev pub DynamicLoan : Environment → (default_header : U) → State T U → (p : ℕ) → Publisher → (len : ℕ) → State T U
      → Option LoanError → Type 0
  DynamicLoan environment default_header s p x len s' None =
      (s.next_message < last_number) × (IsGuaranteed s p x len ⊎ (segment_fits s.config x.slots len ≡ true))
      × (segments : ℕ)
      × ((segments ≡ x.segments)
      ⊎ ((segments ≡ x.segments + 1) × (x.segments < segment_limit) × ¬ (IsGuaranteed s p x len)))
      × (s' ≡ loan_granted default_header s p x len segments)
  DynamicLoan environment default_header s p x len s' (Some OutOfMemory) =
      (s' ≡ s) × (x.segments ≡ segment_limit) × (IsGuaranteed s p x len → s.next_message ≡ last_number)
  DynamicLoan environment default_header s p x len s' (Some InternalFailure) =
      (s' ≡ s) × ((s.next_message ≡ last_number)
      ⊎ ((environment.may_refuse_memory ⊎ NoSegmentFits s.config x len) × ¬ (IsGuaranteed s p x len)))
  DynamicLoan environment default_header s p x len s' (Some ExceedsMaxLoans) = ⊥
  DynamicLoan environment default_header s p x len s' (Some ExceedsMaxLoanSize) = ⊥

  -- The publisher p is asked for a loan of that length: first come the limits, then memory.
  abbrev pub GrantLoan : Environment → (default_header : U) → (checks_length : Bool) → (len : ℕ) → State T U → (p : ℕ)
      → State T U → Option LoanError → Type 0
  GrantLoan environment default_header checks_length len s p s' refusal =
      MatchOption (s.publishers p) ⊥ (λ x.
      MatchOption (limit_error checks_length x len)
      (MatchBool (is_static x.allocation_strategy)
      (StaticLoan default_header s p x len s' refusal)
      (DynamicLoan environment default_header s p x len s' refusal))
      (λ limit. (s' ≡ s) × (refusal ≡ Some limit)))

  -- ---- a loan is changed

  -- The loan with its cells written to that value, each of them.
  abbrev pub written : Loan T U → T → Loan T U
  written l value = record l { cells = replicate (length l.cells) (Some value); is_written = true }

  -- The loan with one cell written.
  abbrev pub with_cell : Loan T U → (at : ℕ) → T → Loan T U
  with_cell l at value = record l { cells = slice_set l.cells at (Some value) }

  -- No cell is unwritten.
  abbrev pub is_initialized : Loan T U → Bool
  is_initialized l = list_all is_some l.cells

  -- The loan n with its written cells taken as they are: it is a `SampleMut` from now on.
  abbrev pub initialized : State T U → (n : ℕ) → Loan T U → State T U
  initialized s n l = with_loan s n (Some (record l { is_written = true }))

  -- ---- a loan ends

  -- The loan n of p is out no more. Of a closed publisher nothing is left to change.
  abbrev pub loan_returned : State T U → (p n : ℕ) → State T U
  loan_returned s p n = publisher_changed s p (λ x. record x { loans = without n x.loans })

  -- The loan n is given back unsent. A send that is blocked stays so.
  -- (iceoryx2: `sample_mut.rs`, `SampleMut`'s drop, and `port/details/sender.rs`, `return_loaned_sample`.)
  abbrev pub loan_discarded : State T U → (n : ℕ) → Loan T U → State T U
  loan_discarded s n l = loan_returned (with_loan s n None) l.publisher n

  -- The message that a written loan becomes.
  abbrev pub entry_of : Loan T U → Entry T U
  entry_of l = record { header = l.header; user_header = l.user_header; values = filter_map (λ cell. cell) l.cells }
