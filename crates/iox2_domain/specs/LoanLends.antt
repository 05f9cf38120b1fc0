-- What the fields of a domain end as, where a reference into what lies in a slot is handed out.
use Rattle.std.specs.Prelude.{ℕ, List, Option, slice_set}
use Rattle.std.specs.declared.option.Option.TheVariants.{Some}
use Rattle.std.specs.Borrow.{Lends, MutBor, Fml, RattleType, Array}
use Rattle.std.specs.contracts.option.Option.{the_row as option_row}
use Rattle.iox2_contents.specs.SlotContents.{ContentState, with_first_cell, with_cells, with_first_value, with_values}
use Rattle.iox2_contents.specs.SlotContents.{with_user_header}
use Rattle.iox2_contents.specs.contracts.contents.Contents.{the_row as contents_row}
use Rattle.iox2_domain.specs.Fields.{Fields}
use Rattle.iox2_domain.specs.LoanCalls.{with_content_in_slot}
use Rattle.iox2_domain.specs.contracts.state.DomainState.{the_row}

-- Contents that are there end as they were left.
abbrev pub LendsSome : (T U : RattleType) → MutBor (Option (List (ContentState T.Denot U.Denot)))
    → MutBor (List (ContentState T.Denot U.Denot)) → Fml
LendsSome T U contents lent = Lends (option_row (contents_row T U)) (contents_row T U) contents lent (λ left. Some left)

module _ (T U : RattleType) (state : MutBor (Fields T.Denot U.Denot)) (key : ℕ) where
  -- They end with the contents at the key as they were left.
  abbrev pub LendsContents : MutBor (List (ContentState T.Denot U.Denot)) → Fml
  LendsContents lent = Lends (the_row T U) (contents_row T U) state lent
      (λ contents. record state.now { contents = slice_set state.now.contents key (Some contents) })

  module _ (slot : ℕ) where
    -- They end with the first cell of the slot as it was left.
    abbrev pub StateLendsCell : MutBor (Option T.Denot) → Fml
    StateLendsCell lent = Lends (the_row T U) (option_row T) state lent
        (λ cell. with_content_in_slot state.now key slot (with_first_cell cell))

    -- They end with the cells of the slot as they were left.
    abbrev pub StateLendsCells : MutBor (List (Option T.Denot)) → Fml
    StateLendsCells lent = Lends (the_row T U) (Array (option_row T) 0) state lent
        (λ cells. with_content_in_slot state.now key slot (with_cells cells))

    -- They end with the first value of the slot as it was left.
    abbrev pub StateLendsValue : MutBor T.Denot → Fml
    StateLendsValue lent =
        Lends (the_row T U) T state lent (λ value. with_content_in_slot state.now key slot (with_first_value value))

    -- They end with the values of the slot as they were left.
    abbrev pub StateLendsValues : MutBor (List T.Denot) → Fml
    StateLendsValues lent = Lends (the_row T U) (Array T 0) state lent
        (λ values. with_content_in_slot state.now key slot (with_values values))

    -- They end with the user header of the slot as it was left.
    abbrev pub StateLendsUserHeader : MutBor U.Denot → Fml
    StateLendsUserHeader lent = Lends (the_row T U) U state lent
        (λ user_header. with_content_in_slot state.now key slot (with_user_header user_header))
