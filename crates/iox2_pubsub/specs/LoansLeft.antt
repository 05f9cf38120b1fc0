-- How many loans a publisher may still take, and how many message numbers a domain has left.
use Rattle.std.specs.Prelude.{ℕ, false, ◌≡◌, ◌≢◌, ◌+◌, ◌≤◌}
use Rattle.std.specs.declared.option.Option.TheVariants.{Some}
use Rattle.iox2_machine.specs.machine.Limits.{last_number}
use Rattle.iox2_machine.specs.machine.Loans.{is_static}
use Rattle.iox2_machine.specs.machine.LoansLeft.{CanLend}
use Rattle.iox2_machine.specs.machine.Records.{Publisher as MachinePublisher, PublisherSettings}
use Rattle.iox2_machine.specs.machine.State.{State}
use Rattle.iox2_machine.specs.declared.allocation.AllocationStrategy.{AllocationStrategy}
use Rattle.iox2_machine.specs.declared.service_config.ServiceConfig.{ServiceConfig}
use Rattle.iox2_machine.specs.declared.service_config.TypeVariant.TheVariants.{FixedSize}
use Rattle.iox2_domain.specs.Kept.{Kept, state_of}
use Rattle.iox2_pubsub.specs.declared.publisher.Publisher.{Publisher}

-- A publisher with these settings lends single values, if messages are such, from its first segment, if its memory
-- grows.
abbrev pub LendsFirst : ServiceConfig → PublisherSettings → Type 0
LendsFirst c given =
    is_static given.allocation_strategy ≡ false → c.variant ≡ FixedSize → 1 ≤ given.initial_max_slice_len

module _ {T U : Type 0} where
  -- The publisher p stands, and its first segment is for slices of up to that many elements.
  abbrev pub LendsUpTo : State T U → (p longest : ℕ) → Type 0
  LendsUpTo s p longest = (x : MachinePublisher) × (s.publishers p ≡ Some x) × (x.initial_max_slice_len ≡ longest)

module _ {T U F G : Type 0} where
  -- The publisher wasn't closed, and was made for slices of as many elements as its handle says. No lack of slots or
  -- memory, and no limit of loans, can refuse it n more loans that aren't longer.
  unfoldable pub HasLoansLeft : Kept T U F G → Publisher → (n : ℕ) → Type 0
  HasLoansLeft domain publisher n = CanLend (state_of domain) publisher.id n
      × LendsUpTo (state_of domain) publisher.id publisher.initial_max_slice_len

  -- The publisher wasn't closed, and its memory grows by this strategy: not at all, if that is `Static`. Then no loan
  -- of its takes memory.
  unfoldable pub GrowsBy : Kept T U F G → Publisher → AllocationStrategy → Type 0
  GrowsBy domain publisher strategy =
      (x : MachinePublisher) × ((state_of domain).publishers publisher.id ≡ Some x) × (x.allocation_strategy ≡ strategy)

  -- The domain has numbers for at least n messages more.
  unfoldable pub HasNumbersLeft : Kept T U F G → (n : ℕ) → Type 0
  HasNumbersLeft domain n = domain.next_message + n ≤ last_number

  -- As many numbers are left as before.
  abbrev pub NumbersLeftStay : (old new : Kept T U F G) → Type 0
  NumbersLeftStay old new = (n : ℕ) → HasNumbersLeft old n → HasNumbersLeft new n

  -- Each publisher has as many loans left as before, and so has the domain numbers.
  pub record LoansLeftStay (old new : Kept T U F G) : Type 0 where
    pub loans : (publisher : Publisher) (n : ℕ) → HasLoansLeft old publisher n → HasLoansLeft new publisher n
    pub numbers : NumbersLeftStay old new

  -- Each other publisher has as many loans left as before.
  abbrev pub OthersLoansLeftStay : Publisher → (old new : Kept T U F G) → Type 0
  OthersLoansLeftStay publisher old new =
      (other : Publisher) (n : ℕ) → other.id ≢ publisher.id → HasLoansLeft old other n → HasLoansLeft new other n

  -- The publisher with this id, if it wasn't closed, has one loan more left than before.
  abbrev pub HasOneMoreLeft : (id : ℕ) → (old new : Kept T U F G) → Type 0
  HasOneMoreLeft id old new = (publisher : Publisher) (n : ℕ) → publisher.id ≡ id → HasLoansLeft old publisher n
      → HasLoansLeft new publisher (n + 1)

  -- The publisher has one loan fewer left than before, and the domain one number fewer; other publishers have as many.
  pub record TakesOneLeft (publisher : Publisher) (old new : Kept T U F G) : Type 0 where
    pub loans : (n : ℕ) → HasLoansLeft old publisher (n + 1) → HasLoansLeft new publisher n
    pub others : OthersLoansLeftStay publisher old new
    pub numbers : (n : ℕ) → HasNumbersLeft old (n + 1) → HasNumbersLeft new n
