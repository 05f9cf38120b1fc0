-- Laws of single states of the machine, and what no operation lowers.
use Rattle.std.specs.Prelude.{ℕ, List, length, ◌≡◌, ◌≤◌}
use Rattle.iox2_machine.specs.machine.Numbers.{contains, size, IsOnce}
use Rattle.iox2_machine.specs.machine.State.{State, fresh}
use Rattle.iox2_machine.specs.machine.WellFormed.{IsWellFormed, HoldsAtMostWorstCase}
use Rattle.iox2_machine.specs.declared.service_config.ServiceConfig.{ServiceConfig}

-- A new domain's state is well-formed.
abbrev pub FreshIsWellFormed : Type 0 → Type 0 → Type 0
FreshIsWellFormed T U = (c : ServiceConfig) → IsWellFormed (fresh {T = T} {U = U} c)

-- In a well-formed state no publisher holds more than the worst case.
abbrev pub WorstCaseIsEnough : Type 0 → Type 0 → Type 0
WorstCaseIsEnough T U = (s : State T U) → IsWellFormed s → HoldsAtMostWorstCase s

-- The number of different numbers in a list is the length of any list that has each of them once.
abbrev pub SizeIsLength : Type 0
SizeIsLength = (ns ms : List ℕ) → IsOnce ms → ((n : ℕ) → contains ns n ≡ contains ms n) → size ns ≡ length ms

-- The configuration stays, and no counter falls.
pub record Advances {T U : Type 0} (s s' : State T U) : Type 0 where
  pub config : s'.config ≡ s.config
  pub next_port : s.next_port ≤ s'.next_port
  pub next_message : s.next_message ≤ s'.next_message
