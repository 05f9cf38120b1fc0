-- A publisher's reclaims, one after the other.
use Rattle.std.proofs.Common.{◌≡◌, ℕ, ◌+◌, ◌<◌, ◌≤◌, List, length, Option, None, Some, get_or, refl, ap, sym, ◌∙◌, inl}
use Rattle.std.proofs.Common.{inr, arith}
use Rattle.std.proofs.lemmas.Bool.{cases_eq}
use Rattle.std.proofs.lemmas.List.{length-set}
use Rattle.std.specs.Prelude.{IsSomeAnd}
use Rattle.slab.specs.Slab.{Slab, get, with_value}
use Rattle.iox2_connections.specs.Link.{Link, IsReclaimed}
use Rattle.iox2_slots.specs.SlotBook.{Book}
use Rattle.iox2_machine.specs.machine.Mailbox.{Mailbox}
use Rattle.iox2_machine.specs.machine.Numbers.{put_at}
use Rattle.iox2_connections.specs.Mailboxes.{mailbox_of, mailboxes_of, with_box}
use Rattle.iox2_connections.specs.Homes.{IsApart, IsSenderLinked, fixed_of}
use Rattle.iox2_connections.specs.Counters.{stands_in, IsCovered, one_holder_less, with_counters}
use Rattle.iox2_connections.specs.Recounts.{Recounts, returned_count}
use Rattle.iox2_connections.specs.Reclaims.{IsHeld, Reclaims, ReclaimsFrom}
use Rattle.iox2_connections.proofs.MailboxChanges.{Updates-with_value, IsApart-same, mailbox-there, mailboxes-changed}
use Rattle.iox2_connections.proofs.MailboxChanges.{put_at-own}
use Rattle.iox2_connections.proofs.Counts.{one_if_same, times-cons, get_or-one_holder_less, IsCovered-follows}
use Rattle.iox2_connections.proofs.Recounts.{Recounts-one, Recounts-trans}
use Rattle.iox2_connections.proofs.DeliverySteps.{there, IsSenderLinked-same}

-- a connection that stands at the key is its publisher's
pub own-at : (p : ℕ) (slab : Slab Link) (key : ℕ) (c : Link)
    → IsSomeAnd (get slab key) (λ (x : Link). x.home.publisher ≡ p) → get slab key ≡ Some c → c.home.publisher ≡ p
own-at p slab key c own at = rw at at own

-- a mailbox is written over by itself
with_box-same : (boxes : ℕ → ℕ → Mailbox) (p q : ℕ) → with_box boxes p q (boxes p q) ≡ boxes
with_box-same boxes p q = ap (put_at boxes p) (sym (put_at-own (boxes p) q)) ∙ sym (put_at-own boxes p)

-- ---- from one connection

-- a slot that was given back has a holder
pub reclaimed-in_use : (hs : List ℕ) (slot : ℕ) (c d : Link) → IsHeld hs c → IsReclaimed c (Some slot) d
    → 0 < get_or hs slot 0
reclaimed-in_use hs slot c d held r =
    let some : 0 < stands_in slot c = rw r.1 (omega (arith, times-cons slot slot r.0, one_if_same slot)) in
    omega (arith, held.at slot)

-- one slot was reclaimed
pub reclaims-one : (hs : List ℕ) (slot : ℕ) (c d : Link) → IsHeld hs c → IsReclaimed c (Some slot) d
    → ReclaimsFrom hs c (one_holder_less slot hs) d
reclaims-one hs slot c d held r = record {
  kept = rw r.2 refl;
  fewer = rw (r.2, r.1) (omega arith);
  counters = λ n. rw (r.2, r.1) (omega (arith, times-cons n slot r.0, get_or-one_holder_less hs slot n in_use));
  shrinks = λ n. omega (arith, get_or-one_holder_less hs slot n in_use);
  slots = length-set hs slot _;
}
  where
    in_use : 0 < get_or hs slot 0
    in_use = reclaimed-in_use hs slot c d held r

-- some slots were reclaimed, and then others
pub ReclaimsFrom-trans : (hs hs' hs'' : List ℕ) (a b c : Link) → ReclaimsFrom hs a hs' b → ReclaimsFrom hs' b hs'' c
    → ReclaimsFrom hs a hs'' c
ReclaimsFrom-trans hs hs' hs'' a b c x y = record {
  kept = y.kept ∙ ap (λ (l : Link). let k : Link = record l { returned = c.returned } in k) x.kept;
  fewer = omega (arith, x.fewer, y.fewer);
  counters = λ n. omega (arith, x.counters n, y.counters n);
  shrinks = λ n. omega (arith, x.shrinks n, y.shrinks n);
  slots = y.slots ∙ x.slots;
}

-- one slot more was reclaimed
pub reclaims-more : (hs hs' : List ℕ) (slot : ℕ) (a c d : Link) → IsHeld hs' c → ReclaimsFrom hs a hs' c
    → IsReclaimed c (Some slot) d → ReclaimsFrom hs a (one_holder_less slot hs') d
reclaims-more hs hs' slot a c d held x r =
    ReclaimsFrom-trans hs hs' (one_holder_less slot hs') a c d x (reclaims-one hs' slot c d held r)

-- counters that follow still hold what stands in the connection
pub held-more : (hs : List ℕ) (slot : ℕ) (c d : Link) → IsHeld hs c → IsReclaimed c (Some slot) d
    → IsHeld (one_holder_less slot hs) d
held-more hs slot c d held r =
    record { at = λ n. omega (arith, held.at n, (reclaims-one hs slot c d held r).counters n) }

-- ---- while slots go from one connection, one after the other

-- Slots went from the connection so far, as Went says, and the book's counters follow.
pub record Follows (Went : (hs : List ℕ) (old : Link) (hs' : List ℕ) (new : Link) → Type 0) (old : Book) (a : Link)
    (book : Book) (c : Link) : Type 0 where
  pub held : IsHeld book.holders c
  pub book_is : book ≡ with_counters old book.holders
  pub went : Went old.holders a book.holders c

-- one more went
pub follows-more : (Went : (hs : List ℕ) (old : Link) (hs' : List ℕ) (new : Link) → Type 0) (old book : Book) (slot : ℕ)
    (a c d : Link) → Follows Went old a book c
    → IsHeld (one_holder_less slot book.holders) d → Went old.holders a (one_holder_less slot book.holders) d
    → Follows Went old a (with_counters book (one_holder_less slot book.holders)) d
follows-more Went old book slot a c d follows held went = record {
  held = held;
  book_is = ap (λ (b : Book). with_counters b (one_holder_less slot book.holders)) follows.book_is;
  went = went;
}

-- ---- from a connection of a slab

module _ (p : ℕ) (hs hs' : List ℕ) (slab : Slab Link) (key : ℕ) (c d : Link)
    (own : IsSomeAnd (get slab key) (λ (x : Link). x.home.publisher ≡ p)) (at : get slab key ≡ Some c)
    (fixed : fixed_of d ≡ fixed_of c) where
  -- the counters of the publisher follow where its connection at the key stands otherwise
  pub recounts-at : ((n : ℕ) → get_or hs' n 0 + stands_in n c ≡ get_or hs n 0 + stands_in n d) → length hs' ≡ length hs
      → ((n : ℕ) → get_or hs' n 0 ≤ get_or hs n 0) → length d.returned ≤ length c.returned
      → Recounts p hs slab hs' (with_value slab key d)
  recounts-at counters slots shrinks fewer = Recounts-one p hs hs' slab key c d at
      (own-at p slab key c own at) fixed counters slots (λ n some. omega (arith, shrinks n, some)) fewer

  -- and so does its mailbox
  pub boxes-at : IsApart slab → (number : ℕ → ℕ → ℕ)
      → mailboxes_of number (with_value slab key d) ≡ with_box
      (mailboxes_of number slab) c.home.publisher c.home.subscriber (mailbox_of (number c.home.publisher) d)
  boxes-at apart number =
      mailboxes-changed number slab (with_value slab key d) key c d apart at fixed (Updates-with_value slab key c d at)

-- what was reclaimed from one connection was reclaimed from the publisher's
pub reclaims-at : (p : ℕ) (hs hs' : List ℕ) (slab : Slab Link) (key : ℕ) (c d : Link) → IsApart slab
    → IsSomeAnd (get slab key) (λ (x : Link). x.home.publisher ≡ p) → get slab key ≡ Some c → ReclaimsFrom hs c hs' d
    → Reclaims p hs slab hs' (with_value slab key d)
reclaims-at p hs hs' slab key c d apart own at r = record {
  mailboxes = λ number.
      boxes-at p hs hs' slab key c d own at (ap fixed_of r.kept) apart number
      ∙ ap (with_box (mailboxes_of number slab) c.home.publisher c.home.subscriber)
      (ap (mailbox_of (number c.home.publisher)) r.kept
      ∙ sym (mailbox-there number slab key c.home.publisher c.home.subscriber c apart at refl refl))
      ∙ with_box-same (mailboxes_of number slab) c.home.publisher c.home.subscriber;
  recounts = recounts-at p hs hs' slab key c d own at (ap fixed_of r.kept) r.counters r.slots r.shrinks r.fewer;
  shrinks = r.shrinks;
}

-- ---- many reclaims

pub Reclaims-trans : (p : ℕ) (hs hs' hs'' : List ℕ) (a b c : Slab Link) → Reclaims p hs a hs' b
    → Reclaims p hs' b hs'' c → Reclaims p hs a hs'' c
Reclaims-trans p hs hs' hs'' a b c x y = record {
  mailboxes = λ number. y.mailboxes number ∙ x.mailboxes number;
  recounts = Recounts-trans p hs hs' hs'' a b c x.recounts y.recounts;
  shrinks = λ n. omega (arith, x.shrinks n, y.shrinks n);
}

-- the key at a publisher's place leads to its own connection
pub own-linked : (p : ℕ) (slab : Slab Link) (keys : List (Option ℕ)) (i key : ℕ) → IsSenderLinked p slab keys
    → get_or keys i None ≡ Some key → IsSomeAnd (get slab key) (λ (c : Link). c.home.publisher ≡ p)
own-linked p slab keys i key l at = let c = there p slab keys i key l at in rw c.1 c.2.publisher

-- ---- by rising place

-- what reclaims keep, and all is reclaimed from the connections below a place
pub record IsReclaimedBelow (p : ℕ) (keys : List (Option ℕ)) (hs : List ℕ) (old : Slab Link) (place : ℕ) (hs' : List ℕ)
    (now : Slab Link) : Type 0 where
  pub linked : IsSenderLinked p now keys
  pub apart : IsApart now
  pub covered : IsCovered p hs' now.slots
  pub reclaims : Reclaims p hs old hs' now
  pub done : (i key : ℕ) → i < place → get_or keys i None ≡ Some key → returned_count now key ≡ 0

-- one place more, whose connection was emptied
pub below-step : (p : ℕ) (keys : List (Option ℕ)) (hs hs' hs'' : List ℕ) (old now new : Slab Link) (place key : ℕ)
    → IsReclaimedBelow p keys hs old place hs' now → get_or keys place None ≡ Some key
    → Reclaims p hs' now hs'' new → returned_count new key ≡ 0 → IsReclaimedBelow p keys hs old (place + 1) hs'' new
below-step p keys hs hs' hs'' old now new place key b at r none = record {
  linked = IsSenderLinked-same p now new keys b.linked r.recounts.homes;
  apart = IsApart-same now new b.apart r.recounts.homes;
  covered = IsCovered-follows p hs' hs'' now.slots new.slots b.covered r.recounts.counters;
  reclaims = Reclaims-trans p hs hs' hs'' old now new b.reclaims r;
  done = λ i k below at_i. elim (cases_eq i place) [
    | inl same ↦
        let here : Some k ≡ Some key = sym at_i ∙ ap (λ (j : ℕ). get_or keys j None) same ∙ at in
        let e : k ≡ key = cc in
        ap (returned_count new) e ∙ none
    | inr differs ↦ let before : returned_count now k ≡ 0 = b.done i k (omega (arith, differs)) at_i in
        omega (arith, r.recounts.fewer k)
  ];
}

-- one place more, at which nothing stands
pub below-skip : (p : ℕ) (keys : List (Option ℕ)) (hs hs' : List ℕ) (old now : Slab Link) (place : ℕ)
    → IsReclaimedBelow p keys hs old place hs' now → get_or keys place None ≡ None
    → IsReclaimedBelow p keys hs old (place + 1) hs' now
below-skip p keys hs hs' old now place b at = record {
  linked = b.linked;
  apart = b.apart;
  covered = b.covered;
  reclaims = b.reclaims;
  done = λ i k below at_i. elim (cases_eq i place) [
    | inl same ↦ absurd (let here : None ≡ Some k = sym at ∙ sym (ap (λ (j : ℕ). get_or keys j None) same) ∙ at_i in cc)
    | inr differs ↦ b.done i k (omega (arith, differs)) at_i
  ];
}
