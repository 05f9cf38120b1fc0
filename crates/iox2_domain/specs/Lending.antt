-- A publisher lends a free slot of its book.
use Rattle.std.specs.Prelude.{◌≡◌, ℕ, Bool, ◌<◌, ◌≤◌, max, List, [], ◌∷◌, ◌++◌, Result, MatchResult}
use Rattle.std.specs.declared.option.Option.{Option}
use Rattle.std.specs.declared.option.Option.TheVariants.{None, Some}
use Rattle.iox2_machine.specs.machine.Loans.{GrantLoan, loan_granted}
use Rattle.iox2_contents.specs.SlotContents.{ContentState, SomeAt, open_count, with_changed, unwritten_content}
use Rattle.iox2_machine.specs.machine.State.{State}
use Rattle.iox2_machine.specs.declared.errors.LoanError.{LoanError}
use Rattle.iox2_machine.specs.declared.header.Header.{Header}
use Rattle.iox2_machine.specs.declared.service_config.ServiceConfig.{ServiceConfig}
use Rattle.iox2_machine.specs.machine.Environments.{ample_memory, fixed_handlers}
use Rattle.iox2_machine.specs.machine.Records.{Publisher, Environment}
use Rattle.iox2_machine.specs.declared.allocation.AllocationStrategy.{AllocationStrategy}
use Rattle.iox2_machine.specs.declared.allocation.AllocationStrategy.TheVariants.{Static, BestFit, PowerOfTwo}
use Rattle.iox2_domain.specs.Kept.{state_of}
use Rattle.iox2_domain.specs.Reaches.{Reaches}
use Rattle.iox2_domain.specs.Fields.{Fields, kept_of, publisher_of}
use Rattle.iox2_domain.specs.Ports.{PublisherFields}
use Rattle.iox2_domain.specs.declared.loan_slots.LoanAt.{LoanAt}

-- The header of a message of the publisher, with that many elements.
abbrev pub header_for : ServiceConfig → (publisher len : ℕ) → Header
header_for c publisher len = record { node_id = c.node_id; publisher_id = publisher; number_of_elements = len }

-- The publisher with the slot among its loans, as a loan of `len` elements, and with `segments` segments.
abbrev pub lending : (len slot segments : ℕ) → PublisherFields → PublisherFields
lending len slot segments x =
    record x { loans = x.loans ++ slot ∷ []; longest_granted = max x.longest_granted len; segments = segments }

-- Memory is never refused to a loan of a static publisher, and may be where its memory grows.
abbrev pub memory_for : AllocationStrategy → Environment
memory_for Static = ample_memory
memory_for BestFit = fixed_handlers
memory_for PowerOfTwo = fixed_handlers

-- The same of a publisher, if there is one.
abbrev pub memory_if_any : Option Publisher → Environment
memory_if_any None = ample_memory
memory_if_any (Some x) = memory_for x.allocation_strategy

module _ {T U : Type 0} where
  -- In the slot of these contents a loan of that length may start: there is room for it, and where cells can be handed
  -- out as lists, the slot has no cells, and fewer slots have some than there are lists.
  pub record MayStart (contents : List (ContentState T U)) (slot len : ℕ) : Type 0 where
    pub fit : SomeAt contents slot (λ content. len ≤ content.room)
    pub ended : SomeAt contents slot (λ content. 0 < content.lists → content.cells ≡ [])
    pub few : SomeAt contents slot (λ content. 0 < content.lists → open_count contents < content.lists)

  -- In the slot of these contents starts a loan of that length, with a default user header.
  pub record Starts (is_default : U → Type 0) (old new : Option (List (ContentState T U))) (slot len : ℕ) : Type 0 where
    pub contents : List (ContentState T U)
    pub user_header : U
    pub had : old ≡ Some contents
    pub default : is_default user_header
    pub started : new ≡ Some (with_changed contents slot (unwritten_content user_header len))

  -- The loan is the publisher's, of the message with the next number, in the publisher's book.
  pub record IsNamed (old : Fields T U) (x : PublisherFields) (loan : LoanAt) : Type 0 where
    pub publisher : loan.publisher ≡ x.id
    pub number : loan.number ≡ old.next_message
    pub book : loan.book ≡ x.book

  -- A publisher is asked for a loan: it lends a slot, with the segments that it has or with one more, or refuses, and
  -- then nothing changes in the state.
  abbrev pub LoanReaches : {A : Type 0} → (is_default : U → Type 0) → (checks : Bool) → (len : ℕ) → Fields T U
      → PublisherFields → Result A LoanError → Fields T U → Type 0
  LoanReaches is_default checks len f x result f' =
      MatchResult result
      (λ _. (user_header : U) × is_default user_header × (segments : ℕ)
      × GrantLoan (memory_for x.allocation) user_header checks len (state_of (kept_of f)) x.id
      (loan_granted user_header (state_of (kept_of f)) x.id ((publisher_of f.books f.connections x).port) len segments)
      None
      × Reaches f f' (loan_granted user_header (state_of (kept_of f)) x.id
      ((publisher_of f.books f.connections x).port) len segments))
      (λ e. ((user_header : U) → GrantLoan (memory_for x.allocation) user_header checks len (state_of (kept_of f)) x.id
      (state_of (kept_of f)) (Some e))
      × Reaches f f' (state_of (kept_of f)))

  -- Memory may be refused to a loan of the publisher p only where its memory grows.
  abbrev pub loan_memory : State T U → (p : ℕ) → Environment
  loan_memory s p = memory_if_any (s.publishers p)

  -- The publisher p is asked for a loan: it is granted, with a default user header, or refused for this
  -- reason, and then nothing changes.
  abbrev pub LoanCall : {A : Type 0} → (is_default : U → Type 0) → (checks : Bool) → (len : ℕ) → State T U → (p : ℕ)
      → Result A LoanError → State T U → Type 0
  LoanCall is_default checks len s p result s' =
      MatchResult result
      (λ _. (user_header : U) × is_default user_header × GrantLoan (loan_memory s p) user_header checks len s p s' None)
      (λ e. (s' ≡ s) × ((user_header : U) → GrantLoan (loan_memory s p) user_header checks len s p s' (Some e)))
