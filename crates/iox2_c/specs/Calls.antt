-- The outcome of each call, by its code.
use Rattle.std.specs.Prelude.{ℕ, true, ◌≡◌, ◌⊎◌, IfOk}
use Rattle.std.specs.declared.result.Result.{Result}
use Rattle.std.specs.declared.result.Result.TheVariants.{Err, Ok}
use Rattle.iox2_machine.specs.declared.errors.LoanError.{LoanError}
use Rattle.iox2_machine.specs.declared.errors.PublisherCreateError.{PublisherCreateError}
use Rattle.iox2_machine.specs.declared.key.Key.{Key}
use Rattle.iox2_machine.specs.machine.Records.{PublisherSettings}
use Rattle.iox2_pubsub.specs.declared.slice.publisher.Publisher.{Publisher}
use Rattle.iox2_pubsub.specs.Handles.{as_publisher, max_slice_len_of, publisher_id, strategy_of}
use Rattle.iox2_pubsub.specs.Live.{HasMark, IsLoanKey, IsNewIn, IsPublisherKey, IsReadyPublisher, IsUnblocked, Stays}
use Rattle.iox2_pubsub.specs.Live.{publisher_port}
use Rattle.iox2_c.specs.Serving.{KeptBytes}
use Rattle.iox2_c.specs.Steps.{CreatesPublisher}
use Rattle.iox2_c.specs.declared.status.TheConstants.{NOT_LIVE, PUBLISHER_IS_BLOCKED}

-- ---- creations and loans

-- What came of a publisher, by its id.
abbrev pub publisher_made : Result Publisher PublisherCreateError → Result ℕ PublisherCreateError
publisher_made (Ok it) = Ok (publisher_id (as_publisher it))
publisher_made (Err error) = Err error

-- A publisher with these settings was asked for, and this came of it.
pub record MakesPublisher (given : PublisherSettings) (old new : KeptBytes)
    (made : Result Publisher PublisherCreateError) : Type 0 where
  pub creates : CreatesPublisher old new given (publisher_made made)
  pub ready : IfOk made (λ it. IsReadyPublisher new (as_publisher it))
  pub fresh : IfOk made (λ it. IsNewIn old (publisher_port (as_publisher it)))
  pub longest : IfOk made (λ it. max_slice_len_of (as_publisher it) ≡ given.initial_max_slice_len)
  pub strategy : IfOk made (λ it. strategy_of (as_publisher it) ≡ given.backpressure_strategy)
  pub stays : Stays old new

-- What came of a loan, without its handle.
abbrev pub loan_made : {A : Type 0} → Result A LoanError → Result (Unit {0}) LoanError
loan_made (Ok it) = Ok tt
loan_made (Err error) = Err error

-- ---- refusals, which change nothing

module _ (domain : KeptBytes) (key : Key) where
  -- The publisher is there, and no send of it waits.
  pub record IsReadyKey : Type 0 where
    pub there : IsPublisherKey domain key
    pub unblocked : IsUnblocked domain key

  -- Why a call of a publisher is refused with this code.
  abbrev pub RefusesPublisher : (code : ℕ) → Type 0
  RefusesPublisher code =
      ((code ≡ NOT_LIVE) × (IsPublisherKey domain key → ⊥))
      ⊎ ((code ≡ PUBLISHER_IS_BLOCKED) × IsPublisherKey domain key × (IsUnblocked domain key → ⊥))

  -- The loan is out and written, as each one is that was lent by these calls.
  pub record IsOut : Type 0 where
    pub out : IsLoanKey domain key
    pub written : HasMark domain key.message true

  -- Why a call of a loan is refused with this code.
  abbrev pub IsRefusedLoan : (code : ℕ) → Type 0
  IsRefusedLoan code = (code ≡ NOT_LIVE) × (IsOut → ⊥)

  -- Why a send of a loan is refused with this code.
  abbrev pub RefusesSend : (code : ℕ) → Type 0
  RefusesSend code =
      ((code ≡ NOT_LIVE) × (IsOut → ⊥)) ⊎ ((code ≡ PUBLISHER_IS_BLOCKED) × IsOut × (IsUnblocked domain key → ⊥))
