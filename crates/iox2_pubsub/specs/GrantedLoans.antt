-- What a publisher lends.
use Rattle.std.specs.Prelude.{◌≡◌, ℕ, List, length, replicate}
use Rattle.std.specs.declared.option.Option.{Option}
use Rattle.std.specs.declared.option.Option.TheVariants.{None}
use Rattle.iox2_machine.specs.declared.key.Key.{Key}
use Rattle.iox2_machine.specs.declared.service_config.TypeVariant.TheVariants.{Dynamic}
use Rattle.iox2_domain.specs.Kept.{Kept}
use Rattle.iox2_domain.specs.Lending.{header_for}
use Rattle.iox2_pubsub.specs.Live.{A_loan, HasLender, IsNewIn, IsReadyPublisher, IsUnblocked, IsUnwritten}
use Rattle.iox2_pubsub.specs.Live.{NeverWaitsUnwritten, IsWritten, IsWrittenLoan, LoanHasHeader, NeverWaits, lender_key}
use Rattle.iox2_pubsub.specs.Live.{publisher_key, unwritten_key, written_key}
use Rattle.iox2_pubsub.specs.Slices.{HasUnwrittenCells}
use Rattle.iox2_pubsub.specs.declared.publisher.Publisher.{Publisher}
use Rattle.iox2_pubsub.specs.declared.sample_mut.SampleMut.{SampleMut}
use Rattle.iox2_pubsub.specs.declared.sample_mut_uninit.SampleMutUninit.{SampleMutUninit}

-- The publisher may lend slices: it is ready, and messages are slices of elements of one unit.
pub record IsReadyForSlices {T U F G : Type 0} (domain : Kept T U F G) (publisher : Publisher) : Type 0 where
  pub ready : IsReadyPublisher domain publisher
  pub dynamic : (domain.config).variant ≡ Dynamic
  pub one_unit : (domain.config).units_per_element ≡ 1

-- The publisher has lent the loan with this key, which has the next number and is none that was out; and the publisher
-- isn't blocked.
pub record IsLent {T U F G : Type 0} (port : Publisher) (loan : Key) (old new : Kept T U F G) : Type 0 where
  pub unblocked : IsUnblocked new loan
  pub is_new : IsNewIn old (A_loan loan.message)
  pub number : loan.message ≡ old.next_message
  pub publisher : loan.port ≡ port.id
  pub lent : HasLender new loan
  pub lender : lender_key loan ≡ publisher_key port

-- The publisher has lent the loan, which isn't written. It is a live one if no send of the publisher is ever blocked,
-- or failed by a handler.
pub record IsLentUnwritten {T U F G : Type 0} (port : Publisher) (loan : SampleMutUninit)
    (old new : Kept T U F G) : Type 0 where
  pub out : IsUnwritten new loan
  pub live : NeverWaits old (publisher_key port) → NeverWaitsUnwritten new loan
  pub lent : IsLent port (unwritten_key loan) old new

-- The publisher has lent the loan, which is written. It is a live one if no send of the publisher is ever blocked, or
-- failed by a handler.
pub record IsLentWritten {T U F G : Type 0} (port : Publisher) (loan : SampleMut)
    (old new : Kept T U F G) : Type 0 where
  pub out : IsWritten new loan
  pub live : NeverWaits old (publisher_key port) → IsWrittenLoan new loan
  pub lent : IsLent port (written_key loan) old new

-- The loan has `count` cells, all unwritten, and its header says that its publisher lent `len` elements.
pub record HasOnlyUnwrittenCells {T U F G : Type 0} (port : Publisher) (loan : SampleMutUninit) (len count : ℕ)
    (old new : Kept T U F G) : Type 0 where
  pub cells : HasUnwrittenCells new loan.loan.number (replicate count None)
  pub lengths : (its : List (Option T)) → HasUnwrittenCells new loan.loan.number its → length its ≡ count
  pub header : LoanHasHeader new (unwritten_key loan) (header_for old.config port.id len)
