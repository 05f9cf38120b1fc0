-- The headers of a book's slots, where one of them gets another number of elements.
use Rattle.std.proofs.Common.{◌≡◌, ℕ, ◌<◌, List, length, get_or, slice_set, replicate, ap, ◌∙◌}
use Rattle.std.proofs.lemmas.List.Elements.{All-replicate, All-set}
use Rattle.iox2_machine.specs.declared.header.Header.{Header}
use Rattle.iox2_slots.specs.SlotHeaders.{AreFrom}

-- The header with another number of elements.
abbrev pub resized : Header → (len : ℕ) → Header
resized header len = record header { number_of_elements = len }

module _ (node publisher : ℕ) where
  module _ (headers : List Header) (i : ℕ) (header : Header) (h : i < length headers)
      (read : header ≡ get_or headers i header) (are : AreFrom node publisher headers) where
    its_node : header.node_id ≡ node
    its_node = ap (λ (it : Header). it.node_id) read ∙ are.nodes i header h

    its_publisher : header.publisher_id ≡ publisher
    its_publisher = ap (λ (it : Header). it.publisher_id) read ∙ are.publishers i header h

    pub resized_is : (len : ℕ)
        → resized header len ≡ record { node_id = node; publisher_id = publisher; number_of_elements = len }
    resized_is len = λ j. record { node_id = its_node j; publisher_id = its_publisher j; number_of_elements = len }

    pub resized_are : (len : ℕ) → AreFrom node publisher (slice_set headers i (resized header len))
    resized_are len = record {
      nodes = All-set (λ it. it.node_id ≡ node) headers i (resized header len) its_node are.nodes;
      publishers =
          All-set (λ it. it.publisher_id ≡ publisher) headers i (resized header len) its_publisher are.publishers;
    }

  -- So many equal headers.
  pub equal_are : (n : ℕ) (header : Header) → header.node_id ≡ node → header.publisher_id ≡ publisher
      → AreFrom node publisher (replicate n header)
  equal_are n header its_node its_publisher = record {
    nodes = All-replicate (λ it. it.node_id ≡ node) n header its_node;
    publishers = All-replicate (λ it. it.publisher_id ≡ publisher) n header its_publisher;
  }
