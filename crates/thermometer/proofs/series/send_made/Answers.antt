use Rattle.std.proofs.Common.{◌≡◌, ◌≤◌, ℕ, arith}
use Rattle.thermometer.proofs.series.send_made.Goals as goal

three : (longest : ℕ) → longest ≡ 3 → 3 ≤ longest
three longest is = omega arith

pub unwrap-loan-requires : goal.unwrap-loan-requires
unwrap-loan-requires g c =
    c.loan_slice_uninit.ensures.granted 0 0 c.requires.loans.loans c.requires.loans.numbers (three _ c.requires.longest)
