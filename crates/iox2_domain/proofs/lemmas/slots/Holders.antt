-- How many hold a slot of a publisher, by its book, and how often the publisher itself has it.
use Rattle.std.proofs.Common.{◌≡◌, ℕ, ◌+◌, cond, get_or, refl, ap}
use Rattle.std.proofs.lemmas.Bool.{eq-eqb}
use Rattle.std.specs.declared.option.Option.TheVariants.{None, Some}
use Rattle.std.specs.Option.{option_map_or}
use Rattle.slab.specs.Slab.{Slab, get}
use Rattle.iox2_slots.specs.SlotBook.{Book, holders_at}
use Rattle.iox2_connections.specs.LookUp.{look_up, IsOnly}
use Rattle.iox2_connections.specs.Counters.{times}
use Rattle.iox2_connections.proofs.LookUps.{look_up-found}
use Rattle.iox2_domain.specs.Ports.{PublisherFields}
use Rattle.iox2_domain.specs.Fields.{Fields, is_book_of}
use Rattle.iox2_domain.specs.Invariant.{holders_of, own_holders, is_publisher, is_loan_in}

module _ (books : Slab Book) (key p : ℕ) (b : Book) (only : IsOnly (is_book_of p) books.slots)
    (at : get books key ≡ Some b) (mine : b.publisher ≡ p) where
  -- a publisher's book is found by its id
  pub book-by_id : look_up (is_book_of p) books.slots ≡ Some b
  book-by_id = look_up-found (is_book_of p) books.slots key b only at (eq-eqb b.publisher p mine)

  -- its counters are the publisher's
  pub book-holders : (slot : ℕ) → holders_of books p slot ≡ holders_at b slot
  book-holders slot = ap (λ o. option_map_or (λ (c : Book). holders_at c slot) o 0) book-by_id

-- a publisher that is there has the slots in its lists
pub own-slots : {T U : Type 0} (f : Fields T U) → ((p : ℕ) → IsOnly (is_publisher p) f.publishers)
    → (i : ℕ) (x : PublisherFields) → get_or f.publishers i None ≡ Some x
    → (slot : ℕ) → own_holders f x.id slot ≡ times slot x.loans + times slot (x.history).items
own-slots f only i x at slot =
    ap (λ o. option_map_or (λ (z : PublisherFields). times slot z.loans + times slot (z.history).items) o
    (option_map_or (λ c. cond (is_loan_in c slot) 1 0) (look_up (is_book_of x.id) f.books.slots) 0))
    (look_up-found (is_publisher x.id) f.publishers i x (only x.id) at (eq-eqb x.id x.id refl))
