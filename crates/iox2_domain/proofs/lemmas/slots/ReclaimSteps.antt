-- A publisher reclaims its slots.
use Rattle.std.proofs.Common.{◌≡◌, ℕ, List, get_or, ap, sym, subst, ◌∙◌}
use Rattle.std.specs.declared.option.Option.TheVariants.{None, Some}
use Rattle.slab.specs.Slab.{Slab, get, with_value}
use Rattle.iox2_connections.specs.Link.{Link}
use Rattle.iox2_slots.specs.SlotBook.{Book}
use Rattle.iox2_machine.specs.Stored.{IsHeldMessage}
use Rattle.iox2_machine.specs.machine.Mailbox.{Mailbox}
use Rattle.iox2_machine.specs.machine.WellFormed.{IsWellFormed}
use Rattle.iox2_connections.specs.Counters.{with_counters}
use Rattle.iox2_connections.specs.Reclaims.{Reclaims}
use Rattle.iox2_domain.specs.Ports.{PublisherFields}
use Rattle.iox2_domain.specs.Kept.{state_of}
use Rattle.iox2_domain.specs.Fields.{Fields, kept_of, number_in_slot}
use Rattle.iox2_domain.specs.Invariant.{IsDomain, IsOwned}
use Rattle.iox2_domain.specs.Reaches.{Reaches}
use Rattle.iox2_domain.proofs.lemmas.fields.Parts.{whole_of}
use Rattle.iox2_domain.proofs.lemmas.fields.Views.{mailboxes-are}
use Rattle.iox2_domain.proofs.lemmas.slots.LoneLoans.{lone-counters}
use Rattle.iox2_domain.proofs.lemmas.slots.PublisherBooks.{book-own, book-owned}
use Rattle.iox2_domain.proofs.lemmas.slots.RecountedLoans.{recounted_fields, recounted-kept, parts-recounted}
use Rattle.iox2_domain.proofs.lemmas.slots.RecountedLoans.{recounted-is, recounted-entries, recounted-places}
use Rattle.iox2_domain.proofs.lemmas.slots.RecountedLoans.{recounted-keeps}
use mathlib.Core.Path.{fun_ext}

module _ {T U : Type 0} (f : Fields T U) (sound : IsDomain f) (p key : ℕ) (b : Book) (at : get f.books key ≡ Some b)
    (mine : b.publisher ≡ p) (owned : IsOwned f.publishers key p)
    (holders : List ℕ) (new : Slab Link) (r : Reclaims p b.holders f.connections holders new) where
  -- the fields after a publisher reclaimed slots
  abbrev pub with_reclaimed : Fields T U
  with_reclaimed = recounted_fields f sound p key b at mine holders new r.recounts

  -- the machine sees nothing of it
  pub reclaimed-is : state_of (kept_of with_reclaimed) ≡ state_of (kept_of f)
  reclaimed-is =
      recounted-is f sound p key b at mine holders new r.recounts
      ∙ ap (λ (boxes : ℕ → ℕ → Mailbox). record (state_of (kept_of f)) { mailboxes = boxes })
      (r.mailboxes (number_in_slot f.books) ∙ sym (fun_ext (λ q. fun_ext (λ s. mailboxes-are f q s))))

  -- and what always holds is kept
  pub reclaimed-reaches : Reaches f with_reclaimed (state_of (kept_of f))
  reclaimed-reaches = record {
    agrees = whole_of with_reclaimed (parts-recounted f sound p key b at mine holders new r.recounts)
        (lone-counters f.books key b holders at sound.lone r.shrinks)
        (recounted-kept f sound p key b at mine holders new r.recounts owned)
        (subst IsWellFormed (sym reclaimed-is) sound.well_formed)
        (λ q n held.
        let old = sound.entries q n (subst (λ s. IsHeldMessage s q n) reclaimed-is held) in
        (old.0, recounted-keeps f sound p key b at mine holders new r.recounts q n old.0 held old.1, old.2));
    state = reclaimed-is;
    entries = recounted-entries f sound p key b at mine holders new r.recounts;
    places = recounted-places f sound p key b at mine holders new r.recounts;
  }

-- ---- a publisher that stands somewhere

module _ {T U : Type 0} (before f : Fields T U) (same : f ≡ before) (sound : IsDomain f) (i : ℕ) (x : PublisherFields)
    (stands : get_or f.publishers i None ≡ Some x) where
  -- with another book of other counters, and these connections
  pub publisher-reclaims : (b book : Book) → get f.books x.book ≡ Some b → (new : Slab Link)
      → book ≡ with_counters b book.holders → Reclaims x.id b.holders f.connections book.holders new
      → Reaches before (record f { connections = new; books = with_value f.books x.book book })
      (state_of (kept_of before))
  publisher-reclaims b book at new is r =
      subst (λ (h : Fields T U). Reaches h (record f { connections = new; books = with_value f.books x.book book })
      (state_of (kept_of h))) same
      (subst (λ (c : Book). Reaches f (record f { connections = new; books = with_value f.books x.book c })
      (state_of (kept_of f))) (sym is)
      (reclaimed-reaches f sound x.id x.book b at (book-own f sound.parts i x stands b at)
      (book-owned f sound.parts i x stands) book.holders new r))
