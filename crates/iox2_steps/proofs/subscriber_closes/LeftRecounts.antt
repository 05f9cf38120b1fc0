-- Slots of a departed publisher leave connections, and no counter rises.
use Rattle.std.proofs.Common.{◌≡◌, ℕ, ◌≤◌, List, None, Some, refl, sym, ap, subst, ◌∙◌, inl, inr, ◌⊎◌}
use Rattle.std.specs.Prelude.{slice_index}
use Rattle.slab.specs.Slab.{Slab, get}
use Rattle.iox2_connections.specs.Link.{Link}
use Rattle.iox2_slots.specs.SlotBook.{Book}
use Rattle.iox2_connections.specs.LookUp.{look_up}
use Rattle.iox2_connections.specs.Counters.{with_counters}
use Rattle.iox2_connections.specs.Mailboxes.{mailboxes_of}
use Rattle.iox2_connections.specs.Recounts.{Recounts}
use Rattle.iox2_domain.specs.Kept.{state_of}
use Rattle.iox2_domain.specs.Fields.{Fields, kept_of, number_in_slot}
use Rattle.iox2_domain.specs.Invariant.{HasParts, IsGone, IsOwned, is_publisher}
use Rattle.iox2_domain.proofs.lemmas.fields.SameEnds.{with_connections}
use Rattle.iox2_domain.proofs.lemmas.slots.BookChanges.{book-was}
use Rattle.iox2_domain.proofs.lemmas.slots.LoneLoans.{lone-counters}
use Rattle.iox2_domain.proofs.lemmas.slots.RecountedFields as fields
use Rattle.iox2_domain.proofs.lemmas.slots.RecountedLoans.{own-stays, gone-stays}
use Rattle.iox2_domain.proofs.lemmas.slots.Recounts.{OwnStays}
use Rattle.iox2_steps.specs.Agreement.{HasOwners, HasOwnedParts, KeepsMessages}

module _ {T U : Type 0} (f : Fields T U) (parts : HasOwnedParts f) (key : ℕ) (b : Book) (at : get f.books key ≡ Some b)
    (gone : look_up (is_publisher b.publisher) f.publishers ≡ None)
    (holders : List ℕ) (new : Slab Link) (r : Recounts b.publisher b.holders f.connections holders new)
    (fewer : (slot : ℕ) → slice_index holders slot ≤ slice_index b.holders slot) where
  abbrev whole : HasParts f
  whole = parts.parts

  -- the fields with these connections and these counters
  abbrev pub with_fewer : Fields T U
  with_fewer = fields.recounted_fields f whole b.publisher key b at refl holders new r

  own : OwnStays f whole b.publisher key b at refl holders new r
  own = own-stays f whole parts.lone b.publisher key b at refl holders new r

  loans : fields.LoansStay f whole b.publisher key b at refl holders new r
  loans = gone-stays f whole parts.lone b.publisher key b at refl holders new r gone

  owners : HasOwners with_fewer
  owners = record {
    at = λ k e there. elim (book-was (with_connections f new r.homes) key b (with_counters b holders) at
        (record { publisher = refl; node = refl; numbers = refl; slots = r.slots }) k e there) [
          | inl is ↦ subst (λ (p : ℕ). IsOwned f.publishers k p ⊎ IsGone f.next_port f.publishers p)
              (sym (ap (λ (c : Book). c.publisher) is.1))
              (parts.owners.at k b (ap (get f.books) is.0 ∙ at))
          | inr away ↦ parts.owners.at k e away.1
        ];
  }

  -- the fields agree with one another
  pub fewer-parts : HasOwnedParts with_fewer
  fewer-parts = record {
    parts = fields.consistent f whole b.publisher key b at refl holders new r own loans;
    lone = lone-counters f.books key b holders at parts.lone fewer;
    owners = owners;
  }

  -- the machine sees the mailboxes alone
  pub fewer-is : state_of (kept_of with_fewer) ≡ record (state_of (kept_of f))
      { mailboxes = mailboxes_of (number_in_slot f.books) new }
  fewer-is = fields.recounted-is f whole b.publisher key b at refl holders new r own loans

  -- what somebody still holds stays where it lies
  pub fewer-keeps : KeepsMessages f with_fewer
  fewer-keeps = record {
    back = λ k slot m e. fields.lay f whole b.publisher key b at refl holders new r k slot m e;
    forth = λ k slot n m has e. fields.lies f whole b.publisher key b at refl holders new r k slot n m has e;
    number = λ k slot n has. fields.was-number f whole b.publisher key b at refl holders new r k slot n has;
  }
