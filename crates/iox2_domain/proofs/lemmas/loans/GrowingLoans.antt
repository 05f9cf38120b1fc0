-- A loan of a publisher whose memory grows, as the machine says it.
use Rattle.std.proofs.Common.{◌≡◌, ℕ, ◌+◌, ◌*◌, ◌^◌, ◌<◌, ◌≤◌, ◌&&◌, nat_lt, Bool, true, false, max, length, get_or}
use Rattle.std.proofs.Common.{drop, refl, ap, sym, subst, ◌∙◌, inl, inr, arith}
use Rattle.std.proofs.Math.Nat.{mul-le-mul_left, mul-le-mul_right, max-le}
use Rattle.std.proofs.lemmas.Bool.{ltb-true, lt-ltb}
use Rattle.std.specs.declared.option.Option.TheVariants.{None, Some}
use Rattle.std.specs.List.{All}
use Rattle.iox2_machine.specs.declared.allocation.AllocationStrategy.{AllocationStrategy}
use Rattle.iox2_machine.specs.declared.allocation.AllocationStrategy.TheVariants.{Static, BestFit, PowerOfTwo}
use Rattle.iox2_machine.specs.declared.errors.LoanError.TheVariants.{OutOfMemory, ExceedsMaxLoans, InternalFailure}
use Rattle.iox2_machine.specs.declared.service_config.ServiceConfig.{ServiceConfig}
use Rattle.iox2_machine.specs.machine.Limits.{last_number, segment_limit, segment_fits}
use Rattle.iox2_machine.specs.machine.Loans.{is_static, GrantLoan, IsGuaranteed, loan_granted}
use Rattle.iox2_machine.specs.machine.Records.{Environment}
use Rattle.iox2_slots.specs.SlotBook.{Book}
use Rattle.iox2_connections.specs.Receivers.{HasReclaimed}
use Rattle.iox2_domain.specs.Fields.{Fields}
use Rattle.iox2_domain.specs.Growth.{HasNoSlot}
use Rattle.iox2_domain.specs.Invariant.{IsDomain}
use Rattle.iox2_domain.specs.Lending.{memory_for}
use Rattle.iox2_domain.specs.Ports.{PublisherFields}
use Rattle.iox2_domain.proofs.lemmas.fields.ConnectionEnds.{publisher-stands}
use Rattle.iox2_domain.proofs.lemmas.loans.Granted.{lends-limited, lends-dynamic}
use Rattle.iox2_domain.proofs.lemmas.slots.SlotsInUse.{its_book, size-from}
use Rattle.iox2_domain.proofs.lemmas.fields.NamedPorts.{seen, seen_publisher, as-many, few-numbers}
use Rattle.iox2_domain.proofs.lemmas.loans.Lent.{is_too_long}

-- memory may be refused where it grows
may-refuse : (a : AllocationStrategy) → is_static a ≡ false → Environment.may_refuse_memory (memory_for a)
may-refuse Static grows = absurd cc
may-refuse BestFit grows = tt
may-refuse PowerOfTwo grows = tt

-- where a segment fits a machine word, so does a shorter one
pub shorter-fits : (c : ServiceConfig) (slots long len : ℕ) → len ≤ long → segment_fits c slots long ≡ true
    → segment_fits c slots len ≡ true
shorter-fits c slots long len less fits =
    let all : slots * long * c.units_per_element < 2 ^ 64 = ltb-true _ _ fits in
    let fewer : slots * len * c.units_per_element ≤ slots * long * c.units_per_element =
    mul-le-mul_right c.units_per_element (mul-le-mul_left slots less) in
    lt-ltb _ _ (omega (arith, all, fewer))

-- the length of such a loan runs into no limit
never-long : (checks : Bool) (a : AllocationStrategy) (initial len : ℕ) → is_static a ≡ false
    → (checks && is_static a && nat_lt initial len) ≡ false
never-long true a initial len grows = ap (λ (b : Bool). b && nat_lt initial len) grows
never-long false a initial len grows = refl

module _ {T U : Type 0} (f : Fields T U) (sound : IsDomain f) (i : ℕ) (x : PublisherFields)
    (at : get_or f.publishers i None ≡ Some x) (checks : Bool) (len : ℕ) (grows : is_static x.allocation ≡ false) where
  short : is_too_long checks len x ≡ false
  short = never-long checks x.allocation x.initial_max_slice_len len grows

  -- too many loans are out
  pub grows-limited : (user_header : U) → x.max_loaned_samples ≤ length x.loans
      → GrantLoan (memory_for x.allocation) user_header checks len (seen f) x.id (seen f) (Some ExceedsMaxLoans)
  grows-limited user_header many = lends-limited (memory_for x.allocation) user_header (seen f) x.id
      (seen_publisher f x) (publisher-stands f sound.parts i x at) checks len short
      (let e = as-many f x in omega (arith, e, many))

  module _ (few : length x.loans < x.max_loaned_samples) where
    -- no number is left
    pub grows-last : (user_header : U) → f.next_message ≡ last_number
        → GrantLoan (memory_for x.allocation) user_header checks len (seen f) x.id (seen f) (Some InternalFailure)
    grows-last user_header last = lends-dynamic (memory_for x.allocation) user_header (seen f) x.id (seen_publisher f x)
        (publisher-stands f sound.parts i x at) checks len short (few-numbers f x few) grows (seen f)
        (Some InternalFailure) (refl, inl last)

    -- a slot of a segment that is long enough is lent
    pub grows-granted : (user_header : U) → f.next_message < last_number → segment_fits f.config x.slots len ≡ true
        → GrantLoan (memory_for x.allocation) user_header checks len (seen f) x.id
        (loan_granted user_header (seen f) x.id (seen_publisher f x) len x.segments) None
    grows-granted user_header more fits =
        lends-dynamic (memory_for x.allocation) user_header (seen f) x.id (seen_publisher f x)
        (publisher-stands f sound.parts i x at) checks len short (few-numbers f x few) grows
        (loan_granted user_header (seen f) x.id (seen_publisher f x) len x.segments) None
        (more, inr fits, x.segments, inl refl, refl)

    module _ (reclaimed : HasReclaimed f.connections x.keys) (none : HasNoSlot f x len) where
      -- the loan isn't guaranteed
      unsure : IsGuaranteed (seen f) x.id (seen_publisher f x) len → ⊥
      unsure sure = elim none [
        | inl longer ↦
            let first = (sound.parts.plain i x at).segment.first in
            let longest = (sound.parts.plain i x at).segment.longest grows in
            let most : max x.initial_max_slice_len x.longest_granted ≤ x.segment_length = max-le first longest in
            omega (arith, longer, most, sure.1)
        | inr full ↦
            let its = its_book f sound i x at in
            let found : Some its.book ≡ Some full.0 = sym its.stands ∙ full.1 in
            let is : its.book ≡ full.0 = cc in
            let many = size-from f sound i x at reclaimed x.segment_start
            (subst (λ (b : Book). All (λ n. 0 < n) (drop x.segment_start b.holders)) (sym is) full.2) in
            omega (arith, many, its.slots, sure.0)
      ]

      -- all segments were made
      pub grows-out : (user_header : U) → x.segments ≡ segment_limit
          → GrantLoan (memory_for x.allocation) user_header checks len (seen f) x.id (seen f) (Some OutOfMemory)
      grows-out user_header all =
          lends-dynamic (memory_for x.allocation) user_header (seen f) x.id (seen_publisher f x)
          (publisher-stands f sound.parts i x at) checks len short (few-numbers f x few) grows (seen f)
          (Some OutOfMemory) (refl, all, λ sure. absurd (unsure sure))

      -- no further one is made
      pub grows-failed : (user_header : U)
          → GrantLoan (memory_for x.allocation) user_header checks len (seen f) x.id (seen f) (Some InternalFailure)
      grows-failed user_header =
          lends-dynamic (memory_for x.allocation) user_header (seen f) x.id (seen_publisher f x)
          (publisher-stands f sound.parts i x at) checks len short (few-numbers f x few) grows (seen f)
          (Some InternalFailure)
          (refl, inr (inl (may-refuse x.allocation grows), unsure))

      -- one more was made
      pub grows-more : (user_header : U) → f.next_message < last_number → segment_fits f.config x.slots len ≡ true
          → x.segments < segment_limit
          → GrantLoan (memory_for x.allocation) user_header checks len (seen f) x.id
          (loan_granted user_header (seen f) x.id (seen_publisher f x) len (x.segments + 1)) None
      grows-more user_header more fits fewer =
          lends-dynamic (memory_for x.allocation) user_header (seen f) x.id (seen_publisher f x)
          (publisher-stands f sound.parts i x at) checks len short (few-numbers f x few) grows
          (loan_granted user_header (seen f) x.id (seen_publisher f x) len (x.segments + 1)) None
          (more, inr fits, x.segments + 1, inr (refl, fewer, unsure), refl)
