-- What holds of a domain's fields in the midst of a close, and the domain.
use Rattle.std.proofs.Common.{◌≡◌, ℕ, List, inl, inr}
use Rattle.std.specs.declared.option.Option.{Option}
use Rattle.std.specs.declared.option.Option.TheVariants.{Some}
use Rattle.slab.specs.Slab.{Slab, get}
use Rattle.iox2_connections.specs.Link.{Link}
use Rattle.iox2_slots.specs.SlotBook.{Book}
use Rattle.iox2_domain.specs.Fields.{Fields}
use Rattle.iox2_domain.specs.Ports.{PublisherFields, SubscriberFields}
use Rattle.iox2_domain.specs.Invariant.{IsUsed, IsDomain}
use Rattle.iox2_steps.proofs.creations.PublishersDue.{with_publishers_due, publishers_due-consistent, owned-due}
use Rattle.iox2_steps.proofs.creations.PublishersDue.{gone-due}
use Rattle.iox2_domain.proofs.lemmas.fields.ForgottenKeys.{Forgets, forgotten, forgotten-parts, owned-still, gone-still}
use Rattle.iox2_steps.specs.Agreement.{IsOrphan, HasOwnedParts}

module _ {T U : Type 0} (f : Fields T U) where
  -- a domain's fields agree
  pub owned_parts_of : IsDomain f → HasOwnedParts f
  owned_parts_of sound = record {
    parts = sound.parts;
    lone = sound.lone;
    owners =
        record { at = λ key b at. elim (sound.kept_books.at key b at) [ inl has ↦ inl has | inr left ↦ inr left.0 ] };
  }

-- a book of a publisher that is gone is held
pub left-held : {T U : Type 0} (f : Fields T U) → IsDomain f → (key : ℕ) (b : Book) → get f.books key ≡ Some b
    → IsOrphan f b → IsUsed b
left-held f sound key b at orphan = elim (sound.kept_books.at key b at) [
  | inl has ↦ absurd (orphan.absent has.place has.publisher has.stands has.is_its)
  | inr left ↦ left.1
]

-- where ports forget connections they agree still
pub forgotten-owned : {T U : Type 0} (f : Fields T U) (parts : HasOwnedParts f)
    (publishers : List (Option PublisherFields)) (subscribers : List (Option SubscriberFields))
    (connections : Slab Link)
    (g : Forgets f publishers subscribers connections)
    → HasOwnedParts (forgotten f parts.parts publishers subscribers connections g)
forgotten-owned f parts publishers subscribers connections g = record {
  parts = forgotten-parts f parts.parts publishers subscribers connections g;
  lone = parts.lone;
  owners = record {
    at = λ key b at. elim (parts.owners.at key b at) [
      | inl owned ↦ inl (owned-still f parts.parts publishers subscribers connections g key b.publisher owned)
      | inr gone ↦ inr (gone-still f parts.parts publishers subscribers connections g b.publisher gone)
    ];
  };
}

-- and where each publisher is due
pub due-parts : {T U : Type 0} (f : Fields T U) → HasOwnedParts f → HasOwnedParts (with_publishers_due f)
due-parts f parts = record {
  parts = publishers_due-consistent f parts.parts;
  lone = parts.lone;
  owners = record {
    at = λ key b at. elim (parts.owners.at key b at) [
      | inl owned ↦ inl (owned-due f parts.parts key b.publisher owned)
      | inr gone ↦ inr (gone-due f parts.parts b.publisher gone)
    ];
  };
}
