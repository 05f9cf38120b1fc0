-- What a domain ends as, where a reference into a loan is handed out.
use Rattle.std.specs.Prelude.{ℕ, List, Option}
use Rattle.std.specs.Borrow.{Lends, MutBor, Fml, RattleType, Array}
use Rattle.std.specs.contracts.option.Option.{the_row as option_row}
use Rattle.iox2_domain.specs.Kept.{Kept}
use Rattle.iox2_pubsub.specs.ChangedLoans.{with_cell_left, with_payload, with_cells_left, with_payloads}
use Rattle.iox2_pubsub.specs.ChangedLoans.{with_user_header_left}
use Rattle.iox2_pubsub.specs.contracts.domain.Domain.{the_row}

module _ (T U F G : RattleType) (domain : MutBor (Kept T.Denot U.Denot F.Denot G.Denot)) (number : ℕ) where
  -- It ends with the loan's single cell as it was left. Nothing else changes.
  abbrev pub LendsCell : MutBor (Option T.Denot) → Fml
  LendsCell lent = Lends (the_row T U F G) (option_row T) domain lent (with_cell_left domain.now number)

  -- It ends with the loan's value as it was left. Nothing else changes.
  abbrev pub LendsPayload : MutBor T.Denot → Fml
  LendsPayload lent = Lends (the_row T U F G) T domain lent (with_payload domain.now number)

  -- It ends with the loan's cells as they were left. Nothing else changes.
  abbrev pub LendsCells : MutBor (List (Option T.Denot)) → Fml
  LendsCells lent = Lends (the_row T U F G) (Array (option_row T) 0) domain lent (with_cells_left domain.now number)

  -- It ends with the loan's values as they were left. Nothing else changes.
  abbrev pub LendsPayloads : MutBor (List T.Denot) → Fml
  LendsPayloads lent = Lends (the_row T U F G) (Array T 0) domain lent (with_payloads domain.now number)

  -- It ends with the loan's user header as it was left. Nothing else changes.
  abbrev pub LendsUserHeader : MutBor U.Denot → Fml
  LendsUserHeader lent = Lends (the_row T U F G) U domain lent (with_user_header_left domain.now number)
