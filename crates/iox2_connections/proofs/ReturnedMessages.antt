-- A message that is given back where it lies.
use Rattle.std.proofs.Common.{◌≡◌, ◌<◌, ℕ, List, length, Option, None, Some, slice_set, refl, ap, sym, ◌∙◌, Contains}
use Rattle.std.proofs.Common.{IsSomeAnd}
use Rattle.std.proofs.lemmas.List.{set-get_or}
use Rattle.slab.specs.Slab.{Slab, get, with_value, ContainsKey}
use Rattle.iox2_connections.specs.Link.{Link}
use Rattle.iox2_slots.specs.SlotBook.{Book}
use Rattle.iox2_connections.specs.Takes.{HasItsSlots}

-- a value that is written back as it was read changes nothing
pub same-with_value : {T : Type 0} (slab : Slab T) (key : ℕ) (x : T) → get slab key ≡ Some x
    → with_value slab key x ≡ slab
same-with_value {T} slab key x at =
    ap (λ (slots : List (Option T)). let it : Slab T = record slab { slots = slots } in it)
    (ap (slice_set slab.slots key) (sym at) ∙ set-get_or slab.slots key None)

module _ (books : Slab Book) (c : Link) (slots : HasItsSlots books c) where
  -- the connection's book is there
  pub its-book : ContainsKey books c.home.book
  its-book = by (get books c.home.book) refl slots where
    by : (o : Option Book) → get books c.home.book ≡ o → IsSomeAnd o
        (λ b. (slot : ℕ) → Contains c.borrowed slot → slot < length b.holders) → ContainsKey books c.home.book
    by None e has = absurd has
    by (Some b) e has = rw e refl

  -- and has what is borrowed there
  pub its-slots : (b : Book) → get books c.home.book ≡ Some b → (slot : ℕ) → Contains c.borrowed slot
      → slot < length b.holders
  its-slots b at = rw at at slots
