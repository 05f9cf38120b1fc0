-- Each book is of a publisher that stands, or is left of one that is gone.
use Rattle.std.proofs.Common.{◌≡◌, ℕ, ◌<◌, ◌≤◌, List, get_or, ap, sym, subst, ◌∙◌, inl, inr, ◌⊎◌, arith}
use Rattle.std.proofs.lemmas.Bool.{cases_eq, ne_eqb}
use Rattle.std.proofs.lemmas.List.{get_or-set_same, get_or-set_other}
use Rattle.std.specs.declared.option.Option.{Option}
use Rattle.std.specs.declared.option.Option.TheVariants.{None, Some}
use Rattle.slab.specs.Slab.{Slab, get, with_value}
use Rattle.iox2_slots.specs.SlotBook.{Book}
use Rattle.iox2_connections.specs.LookUp.{look_up}
use Rattle.iox2_connections.proofs.LookUps.{look_up-nothing}
use Rattle.iox2_connections.proofs.MailboxChanges.{within_if_some}
use Rattle.iox2_domain.specs.Ports.{PublisherFields}
use Rattle.iox2_domain.specs.Invariant.{IsOwned, IsGone, IsLeft, KeepsBooks, KeepsBooksBut, is_publisher}

-- a publisher stands in the new list where each stood in the old one, with its id and its book
abbrev pub StayWithBooks : (old new : List (Option PublisherFields)) → Type 0
StayWithBooks old new =
    (i : ℕ) (x : PublisherFields) → get_or old i None ≡ Some x
    → (y : PublisherFields) × (get_or new i None ≡ Some y) × (y.id ≡ x.id) × (y.book ≡ x.book)

-- who stands in the new list stood in the old one, or has an id that was not given out yet
abbrev pub StoodOrEnters : (next_port : ℕ) (old new : List (Option PublisherFields)) → Type 0
StoodOrEnters next_port old new =
    (i : ℕ) (y : PublisherFields) → get_or new i None ≡ Some y
    → ((x : PublisherFields) × (get_or old i None ≡ Some x) × (y.id ≡ x.id)) ⊎ (next_port ≤ y.id)

module _ (next next' : ℕ) (old new : List (Option PublisherFields)) (more : next ≤ next') (stay : StayWithBooks old new)
    (stood : StoodOrEnters next old new) where
  -- a book that is somebody's is so still
  pub still-owned : (key p : ℕ) → IsOwned old key p → IsOwned new key p
  still-owned key p owned =
      let now = stay owned.place owned.publisher owned.stands in
      record {
        place = owned.place;
        publisher = now.0;
        stands = now.1;
        is_its = now.2 ∙ owned.is_its;
        has = now.3 ∙ owned.has;
      }

  -- a publisher that is gone is so still
  pub still-gone : (p : ℕ) → IsGone next old p → IsGone next' new p
  still-gone p gone = record {
    known = let known = gone.known in omega arith;
    absent = λ i y at same. elim (stood i y at) [
      | inl was ↦ gone.absent i was.0 was.1 (sym was.2 ∙ same)
      | inr enters ↦ let known = gone.known in absurd (omega arith)
    ];
  }

  -- a book that is left is so still
  pub still-left : (b : Book) → IsLeft next old b → IsLeft next' new b
  still-left b left = (still-gone b.publisher left.0, left.1)

  -- publishers change, and no book does
  pub kept-publishers : (books : Slab Book) → KeepsBooks next old books → KeepsBooks next' new books
  kept-publishers books kept = record {
    at = λ key b at. elim (kept.at key b at)
        [ inl owned ↦ inl (still-owned key b.publisher owned) | inr left ↦ inr (still-left b left) ];
  }

module _ (next : ℕ) (publishers : List (Option PublisherFields)) (books : Slab Book) (key : ℕ) (b d : Book)
    (at : get books key ≡ Some b) where
  -- one book changes
  pub kept-book : IsOwned publishers key d.publisher ⊎ IsLeft next publishers d → KeepsBooks next publishers books
      → KeepsBooks next publishers (with_value books key d)
  kept-book is kept = record {
    at = λ k e there. elim (cases_eq k key) [
      | inl same ↦
          let now : Some d ≡ Some e =
          sym (get_or-set_same books.slots key (Some d) None (within_if_some books.slots key b at))
          ∙ ap (get (with_value books key d)) (sym same) ∙ there in
          let is_d : d ≡ e = cc in
          subst (λ (j : ℕ). IsOwned publishers j e.publisher ⊎ IsLeft next publishers e) (sym same)
          (subst (λ (c : Book). IsOwned publishers key c.publisher ⊎ IsLeft next publishers c) is_d is)
      | inr away ↦ kept.at k e (sym (get_or-set_other books.slots key k (Some d) None away) ∙ there)
    ];
  }

  -- the book of a publisher that stands
  pub kept-own : d.publisher ≡ b.publisher → IsOwned publishers key b.publisher → KeepsBooks next publishers books
      → KeepsBooks next publishers (with_value books key d)
  kept-own same owned = kept-book (inl (subst (IsOwned publishers key) (sym same) owned))

  -- a book whose holders stay
  pub kept-used : d.publisher ≡ b.publisher → d.holders ≡ b.holders → KeepsBooks next publishers books
      → KeepsBooks next publishers (with_value books key d)
  kept-used same holders kept = kept-book (now (kept.at key b at)) kept where
    now : IsOwned publishers key b.publisher ⊎ IsLeft next publishers b
        → IsOwned publishers key d.publisher ⊎ IsLeft next publishers d
    now (inl owned) = inl (subst (IsOwned publishers key) (sym same) owned)
    now (inr left) = inr (
      subst (IsGone next publishers) (sym same) left.0,
      record {
        slot = left.1.slot;
        in_use = subst (λ (hs : List ℕ). 0 < get_or hs left.1.slot 0) (sym holders) left.1.in_use;
      },
    )

-- nobody stands who has a departed publisher's id
pub none-stands : (next : ℕ) (publishers : List (Option PublisherFields)) (p : ℕ) → IsGone next publishers p
    → look_up (is_publisher p) publishers ≡ None
none-stands next publishers p gone =
    look_up-nothing (is_publisher p) publishers (λ i x at. ne_eqb x.id p (gone.absent i x at))

-- where each book is kept, each but one is
pub kept-but : (next : ℕ) (publishers : List (Option PublisherFields)) (books : Slab Book) (key : ℕ)
    → KeepsBooks next publishers books → KeepsBooksBut next publishers books key
kept-but next publishers books key kept = record {
  own = λ b at. elim (kept.at key b at) [ inl owned ↦ inl owned | inr left ↦ inr left.0 ];
  others = λ k b away at. kept.at k b at;
}
