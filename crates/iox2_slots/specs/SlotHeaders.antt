-- What the headers of a book's slots have in common, which no contract shows.
use Rattle.std.specs.Prelude.{◌≡◌, ℕ, List}
use Rattle.std.specs.List.{All}
use Rattle.iox2_machine.specs.declared.header.Header.{Header}

-- Each header is of this publisher and its node.
pub record AreFrom (node publisher : ℕ) (headers : List Header) : Type 0 where
  pub nodes : All (λ header. header.node_id ≡ node) headers
  pub publishers : All (λ header. header.publisher_id ≡ publisher) headers
