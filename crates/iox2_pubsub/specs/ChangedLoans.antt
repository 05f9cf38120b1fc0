-- What a domain keeps once a loan's payload or user header was changed through a reference.
use Rattle.std.specs.Prelude.{ℕ, List, map}
use Rattle.std.specs.declared.option.Option.{Option}
use Rattle.std.specs.declared.option.Option.TheVariants.{Some}
use Rattle.iox2_domain.specs.Kept.{Kept, with_loan_changed}
use Rattle.iox2_domain.specs.LoanCalls.{first_cell_changed, cells_changed, user_header_changed}

module _ {T U F G : Type 0} where
  module _ (domain : Kept T U F G) (number : ℕ) where
    -- The domain, where the single cell of the unwritten loan with this number was left so.
    unfoldable pub with_cell_left : (cell : Option T) → Kept T U F G
    with_cell_left cell = with_loan_changed number (first_cell_changed cell) domain

    -- The domain, where the value of the written loan with this number was left so.
    unfoldable pub with_payload : (value : T) → Kept T U F G
    with_payload value = with_loan_changed number (first_cell_changed (Some value)) domain

    -- The domain, where the cells of the unwritten loan with this number were left so.
    unfoldable pub with_cells_left : (cells : List (Option T)) → Kept T U F G
    with_cells_left cells = with_loan_changed number (cells_changed cells) domain

    -- The domain, where the values of the written loan with this number were left so.
    unfoldable pub with_payloads : (values : List T) → Kept T U F G
    with_payloads values = with_loan_changed number (cells_changed (map Some values)) domain

    -- The domain, where the user header of the loan with this number was left so.
    unfoldable pub with_user_header_left : (user_header : U) → Kept T U F G
    with_user_header_left user_header = with_loan_changed number (user_header_changed user_header) domain
