-- What stands at a place, as it is looked up.
use Rattle.std.proofs.Common.{◌≡◌, ◌<◌, ◌∙◌, List, Option, None, Some, ℕ, length, get_or, refl, ap, sym}
use Rattle.std.proofs.lemmas.Option.{none-some}
use Rattle.iox2_connections.proofs.MailboxChanges.{within_if_some}
use Rattle.iox2_domain.specs.Fields.{Fields}
use Rattle.iox2_domain.specs.Ports.{PublisherFields}
use Rattle.iox2_domain.proofs.lemmas.slots.PublisherBooks.{read-there}

module _ {A : Type 0} (xs : List (Option A)) (place : ℕ) (x : A) (there : get_or xs place None ≡ Some x) where
  -- the place is within the list
  pub place-within : (n : ℕ) → n ≡ length xs → place < n
  place-within n long = rw long (within_if_some xs place x there)

  -- and that is what is read there
  pub place-read : (o : Option A) → o ≡ get_or xs place o → o ≡ Some x
  place-read o read = sym (read-there xs place x o there read) ∙ there

-- a publisher of the fields
module _ {T U : Type 0} (before f : Fields T U) (same : f ≡ before) (place : ℕ) (x : PublisherFields)
    (there : get_or before.publishers place None ≡ Some x) where
  stands : get_or f.publishers place None ≡ Some x
  stands = ap (λ (h : Fields T U). get_or h.publishers place None) same ∙ there

  pub publisher-within : place < length f.publishers
  publisher-within = place-within f.publishers place x stands _ refl

  -- so it isn't none that is read
  pub not-none : (o : Option PublisherFields) → o ≡ get_or f.publishers place o → o ≡ None → ⊥
  not-none o read none = none-some x (sym none ∙ place-read f.publishers place x stands o read)
