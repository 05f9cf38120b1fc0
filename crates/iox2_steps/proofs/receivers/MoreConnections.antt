-- More connections change nothing for the ports that there are.
use Rattle.std.proofs.Common.{◌≡◌, ℕ, List, map, get_or, ap, sym, ◌∙◌}
use Rattle.std.specs.declared.option.Option.{Option}
use Rattle.std.specs.declared.option.Option.TheVariants.{None, Some}
use Rattle.std.specs.Option.{option_map}
use Rattle.slab.specs.Slab.{Slab}
use Rattle.iox2_connections.specs.Link.{Link}
use Rattle.iox2_machine.specs.machine.Places.{occupants}
use Rattle.iox2_machine.specs.machine.Records.{Publisher}
use Rattle.iox2_connections.specs.Mailboxes.{receiver_ends}
use Rattle.iox2_domain.specs.Ports.{PublisherFields, SubscriberFields}
use Rattle.iox2_domain.specs.Kept.{Named, state_of}
use Rattle.iox2_domain.specs.Invariant.{HasParts}
use Rattle.iox2_domain.specs.Fields.{Fields, kept_of, publisher_of, subscriber_of, number_in_slot, blocked_send}
use Rattle.iox2_domain.proofs.lemmas.fields.Views.{mailboxes-are}
use Rattle.iox2_domain.proofs.lemmas.containers.ChangedRecords.{map-agrees}
use Rattle.iox2_domain.proofs.lemmas.containers.Extensions.{Extends, sender_ends-same, receiver_ends-same}
use mathlib.Core.Path.{fun_ext}

-- what the connections are to the receivers
module _ {T U : Type 0} (f : Fields T U) (parts : HasParts f) (connections : Slab Link)
    (e : Extends f.connections connections) where
  pub publisher-same : (k : ℕ) (z : PublisherFields) → get_or f.publishers k None ≡ Some z
      → publisher_of f.books connections z ≡ publisher_of f.books f.connections z
  publisher-same k z at =
      ap named (sender_ends-same f.connections connections e z.id z.keys (parts.linked.senders k z at)) where
        named : List (Option ℕ) → Named Publisher
        named ends = record (publisher_of f.books f.connections z) {
          port = record (publisher_of f.books f.connections z).port
              { ends = ends; blocked = option_map (blocked_send (number_in_slot f.books z.id) ends) z.blocked };
        }

  pub subscriber-same : (k : ℕ) (y : SubscriberFields) → get_or f.subscribers k None ≡ Some y
      → subscriber_of f.books connections y ≡ subscriber_of f.books f.connections y
  subscriber-same k y at =
      λ i. record (subscriber_of f.books f.connections y)
      { port = record (subscriber_of f.books f.connections y).port { ends = ends i; expired = occupants (expired i) } }
    where
      most : ℕ
      most = (f.config).subscriber_max_borrowed_samples

      ends : receiver_ends connections y.keys ≡ receiver_ends f.connections y.keys
      ends = receiver_ends-same f.connections connections e y.id (f.config).subscriber_max_borrowed_samples y.keys
          (parts.linked.receivers k y at)

      expired : receiver_ends connections (map Some y.expired) ≡ receiver_ends f.connections (map Some y.expired)
      expired = receiver_ends-same f.connections connections e y.id (f.config).subscriber_max_borrowed_samples
          (map Some y.expired) (parts.linked.expired k y at)

  pub publishers-same : map (option_map (publisher_of f.books connections)) f.publishers ≡ map
      (option_map (publisher_of f.books f.connections)) f.publishers
  publishers-same =
      map-agrees (publisher_of f.books connections) (publisher_of f.books f.connections) f.publishers publisher-same

  pub subscribers-same : map (option_map (subscriber_of f.books connections)) f.subscribers ≡ map
      (option_map (subscriber_of f.books f.connections)) f.subscribers
  subscribers-same =
      map-agrees (subscriber_of f.books connections) (subscriber_of f.books f.connections) f.subscribers subscriber-same

  pub mailboxes-same : (state_of (kept_of (record f { connections = connections }))).mailboxes
      ≡ (state_of (kept_of f)).mailboxes
  mailboxes-same = fun_ext (λ p. fun_ext (λ q.
      mailboxes-are (record f { connections = connections }) p q ∙ e.boxes (number_in_slot f.books) p q
      ∙ sym (mailboxes-are f p q)))
