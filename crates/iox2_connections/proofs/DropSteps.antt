-- What waits in a connection is lost, one slot after the other.
use Rattle.std.proofs.Common.{◌≡◌, ℕ, ◌+◌, ◌<◌, List, [], length, map, None, Some, get_or, refl, ap, sym, ◌∙◌, arith}
use Rattle.std.proofs.Common.{◌≤◌, slice_index}
use Rattle.std.proofs.lemmas.List.{length-set}
use Rattle.std.specs.Prelude.{IsSomeAnd}
use Rattle.slab.specs.Slab.{Slab, ContainsKey, get, Updates, with_value}
use Rattle.iox2_slots.specs.SlotBook.{Book}
use Rattle.iox2_connections.specs.Link.{Link, other_slots, IsDropped, IsOtherDropped, borrowed_alone}
use Rattle.iox2_machine.specs.machine.Mailbox.{Mailbox, ChannelNumber, waiting_dropped}
use Rattle.iox2_connections.specs.Mailboxes.{mailbox_of, mailboxes_of, with_box}
use Rattle.iox2_connections.specs.Homes.{IsApart, fixed_of}
use Rattle.iox2_connections.specs.Counters.{times, stands_in, one_holder_less, with_counters}
use Rattle.iox2_connections.specs.Recounts.{Recounts}
use Rattle.iox2_connections.specs.Drops.{DropsFrom, DropsWaiting, DropsAll, RemovesConnection, without_waiting}
use Rattle.iox2_connections.specs.Reclaims.{IsHeld, ReclaimsFrom}
use Rattle.iox2_connections.proofs.MailboxChanges.{Updates-with_value, mailbox-there, mailboxes-changed}
use Rattle.iox2_connections.proofs.Counts.{one_if, one_if_same, times-cons, get_or-one_holder_less}
use Rattle.iox2_connections.proofs.Recounts.{Recounts-one}
use Rattle.iox2_connections.proofs.ReclaimSteps.{Follows, boxes-at, follows-more, own-at, recounts-at}

-- ---- from one connection

-- One slot that waits went: nothing else of the connection changes.
pub record LosesOne (slot : ℕ) (c d : Link) : Type 0 where
  pub kept : d ≡ record c { waiting = d.waiting; others = d.others }
  pub counts : (n : ℕ) → stands_in n c ≡ one_if n slot + stands_in n d

-- the first of channel 0, or of the others
pub loses-first : (slot : ℕ) (c d : Link) → IsDropped c (Some slot) d → LosesOne slot c d
loses-first slot c d r = record {
  kept = rw r.2 refl;
  counts = λ n. rw (r.2, r.1) (omega (arith, times-cons n slot r.0));
}

pub loses-other : (slot : ℕ) (c d : Link) → IsOtherDropped c (Some slot) d → LosesOne slot c d
loses-other slot c d r = record {
  kept = r.1 ∙ (λ t. record c { waiting = sym (ap (λ (l : Link). l.waiting) r.1) t; others = d.others });
  counts = λ n.
      let first : times n (other_slots c) ≡ one_if n slot + times n (other_slots d) =
      ap (λ (ms : List ChannelNumber). times n (map (λ (m : ChannelNumber). m.number) ms)) r.0.1
      ∙ times-cons n slot (other_slots d) in
      let rest : stands_in n d ≡ times n c.waiting + times n c.borrowed + times n c.returned + times n (other_slots d) =
      ap (stands_in n) r.1 in
      omega (arith, first, rest);
}

-- it has a holder
pub dropped-in_use : (hs : List ℕ) (slot : ℕ) (c d : Link) → IsHeld hs c → LosesOne slot c d → 0 < get_or hs slot 0
dropped-in_use hs slot c d held r = omega (arith, held.at slot, r.counts slot, one_if_same slot)

-- one slot went
drops-one : (hs : List ℕ) (slot : ℕ) (c d : Link) → IsHeld hs c → LosesOne slot c d
    → DropsFrom hs c (one_holder_less slot hs) d
drops-one hs slot c d held r = record {
  kept = r.kept;
  counters = λ n. omega (arith, r.counts n, get_or-one_holder_less hs slot n in_use);
  shrinks = λ n. omega (arith, get_or-one_holder_less hs slot n in_use);
  slots = length-set hs slot _;
}
  where
    in_use : 0 < get_or hs slot 0
    in_use = dropped-in_use hs slot c d held r

-- some slots went, and then others
pub DropsFrom-trans : (hs hs' hs'' : List ℕ) (a b c : Link) → DropsFrom hs a hs' b → DropsFrom hs' b hs'' c
    → DropsFrom hs a hs'' c
DropsFrom-trans hs hs' hs'' a b c x y = record {
  kept = y.kept ∙ ap (λ (l : Link). let k : Link = record l { waiting = c.waiting; others = c.others } in k) x.kept;
  counters = λ n. omega (arith, x.counters n, y.counters n);
  shrinks = λ n. omega (arith, x.shrinks n, y.shrinks n);
  slots = y.slots ∙ x.slots;
}

-- one slot more went
drops-more : (hs hs' : List ℕ) (slot : ℕ) (a c d : Link) → IsHeld hs' c → DropsFrom hs a hs' c → LosesOne slot c d
    → DropsFrom hs a (one_holder_less slot hs') d
drops-more hs hs' slot a c d held x r =
    DropsFrom-trans hs hs' (one_holder_less slot hs') a c d x (drops-one hs' slot c d held r)

-- counters that follow still hold what stands in the connection
dropped-held : (hs : List ℕ) (slot : ℕ) (c d : Link) → IsHeld hs c → LosesOne slot c d
    → IsHeld (one_holder_less slot hs) d
dropped-held hs slot c d held r =
    record { at = λ n. omega (arith, held.at n, (drops-one hs slot c d held r).counters n) }

-- the book's counters follow it
pub drops-next : (old book : Book) (slot : ℕ) (a c d : Link) → Follows DropsFrom old a book c → LosesOne slot c d
    → Follows DropsFrom old a (with_counters book (one_holder_less slot book.holders)) d
drops-next old book slot a c d follows r =
    follows-more DropsFrom old book slot a c d follows (dropped-held book.holders slot c d follows.held r)
    (drops-more old.holders book.holders slot a c d follows.held follows.went r)

-- Slots that waited in the connection went, and others that were given back: nothing else of it changes, and each of
-- them has one holder less.
pub record EmptiesFrom (holders : List ℕ) (old : Link) (holders' : List ℕ) (new : Link) : Type 0 where
  pub kept : new ≡ record old { waiting = new.waiting; returned = new.returned; others = new.others }
  pub fewer : length new.returned ≤ length old.returned
  pub counters : (slot : ℕ)
      → slice_index holders' slot + stands_in slot old ≡ slice_index holders slot + stands_in slot new
  pub shrinks : (slot : ℕ) → slice_index holders' slot ≤ slice_index holders slot
  pub slots : length holders' ≡ length holders

-- then what was given back is reclaimed
pub drops-reclaims : (hs hs' hs'' : List ℕ) (a b c : Link) → DropsFrom hs a hs' b → ReclaimsFrom hs' b hs'' c
    → EmptiesFrom hs a hs'' c
drops-reclaims hs hs' hs'' a b c x y = record {
  kept = y.kept ∙ ap (λ (l : Link). let k : Link = record l { returned = c.returned } in k) x.kept
      ∙ (λ t. record a {
        waiting = sym (ap (λ (l : Link). l.waiting) y.kept) t;
        returned = c.returned;
        others = sym (ap (λ (l : Link). l.others) y.kept) t;
      });
  fewer = omega (arith, ap (λ (l : Link). length l.returned) x.kept, y.fewer);
  counters = λ n. omega (arith, x.counters n, y.counters n);
  shrinks = λ n. omega (arith, x.shrinks n, y.shrinks n);
  slots = y.slots ∙ x.slots;
}

-- nothing but what is borrowed is left
pub all-dropped : (hs hs' hs'' : List ℕ) (a b c : Link) → DropsFrom hs a hs' b → b.waiting ≡ [] → b.others ≡ []
    → ReclaimsFrom hs' b hs'' c → c.returned ≡ [] → c ≡ borrowed_alone a
all-dropped hs hs' hs'' a b c x none nowhere y clear =
    (drops-reclaims hs hs' hs'' a b c x y).kept
    ∙ (λ t. record a {
      waiting = (ap (λ (l : Link). l.waiting) y.kept ∙ none) t;
      returned = clear t;
      others = (ap (λ (l : Link). l.others) y.kept ∙ nowhere) t;
    })

-- ---- from a connection of a slab

-- what went from one connection went from the publisher's
pub drops-at : (p : ℕ) (hs hs' : List ℕ) (slab : Slab Link) (key : ℕ) (c d : Link) → IsApart slab
    → IsSomeAnd (get slab key) (λ (x : Link). x.home.publisher ≡ p) → get slab key ≡ Some c
    → EmptiesFrom hs c hs' d → d ≡ borrowed_alone c → DropsAll p hs slab key hs' (with_value slab key d)
drops-at p hs hs' slab key c d apart own at r is = record {
  link = c;
  stood = at;
  updates = let u = Updates-with_value slab key c d at in
      record { changed = u.changed ∙ ap Some is; others = u.others };
  mailboxes =
      let mine = own-at p slab key c own at in
      λ number.
      boxes-at p hs hs' slab key c d own at (ap fixed_of r.kept) apart number
      ∙ ap (λ (q : ℕ). with_box (mailboxes_of number slab) q c.home.subscriber (mailbox_of (number q) d)) mine
      ∙ ap (with_box (mailboxes_of number slab) p c.home.subscriber)
      (ap (mailbox_of (number p)) is
      ∙ ap waiting_dropped (sym (mailbox-there number slab key p c.home.subscriber c apart at mine refl)));
  recounts = recounts-at p hs hs' slab key c d own at (ap fixed_of r.kept) r.counters r.slots r.shrinks r.fewer;
  shrinks = r.shrinks;
}

-- ---- the connection goes

-- it is still there
pub dropped-there : (p : ℕ) (hs hs' : List ℕ) (old new : Slab Link) (key : ℕ) → DropsAll p hs old key hs' new
    → ContainsKey new key
dropped-there p hs hs' old new key drops = rw drops.updates.changed refl

-- and nothing of it is borrowed
pub removes-at : (p : ℕ) (hs hs' : List ℕ) (old mid new : Slab Link) (key : ℕ)
    → IsSomeAnd (get old key) (λ (c : Link). c.borrowed ≡ []) → DropsAll p hs old key hs' mid → Updates mid new key None
    → RemovesConnection p hs old key hs' new
removes-at p hs hs' old mid new key unused drops gone =
    record { mid = mid; drops = drops; unused = rw drops.stood at unused; gone = gone }

-- ---- what waits alone

-- slots that went from one connection went from its publisher's
pub drops-recount : (p : ℕ) (hs hs' : List ℕ) (slab : Slab Link) (key : ℕ) (c d : Link) → get slab key ≡ Some c
    → c.home.publisher ≡ p → DropsFrom hs c hs' d → Recounts p hs slab hs' (with_value slab key d)
drops-recount p hs hs' slab key c d at mine drops =
    Recounts-one p hs hs' slab key c d at mine (ap fixed_of drops.kept) drops.counters drops.slots
    (λ n some. omega (arith, drops.shrinks n, some)) (rw drops.kept (omega arith))

-- ---- what waits at a key

module _ (hs hs' : List ℕ) (slab new : Slab Link) (key : ℕ) (r : DropsWaiting key hs slab hs' new) where
  updates : Updates slab (with_value slab key (without_waiting r.link)) key (Some (without_waiting r.link))
  updates = Updates-with_value slab key r.link (without_waiting r.link) r.stands

  -- the counters follow
  pub drops-recounts : Recounts (r.link).home.publisher hs slab hs' new
  drops-recounts = rw r.new_is
      (drops-recount (r.link).home.publisher hs hs' slab key r.link (without_waiting r.link) r.stands refl r.drops)

  -- and what waits in the mailbox is lost
  pub drops-boxes : IsApart slab → (number : ℕ → ℕ → ℕ)
      → mailboxes_of number new ≡ with_box (mailboxes_of number slab) (r.link).home.publisher (r.link).home.subscriber
      (waiting_dropped (mailboxes_of number slab (r.link).home.publisher (r.link).home.subscriber))
  drops-boxes apart number =
      ap (mailboxes_of number) r.new_is
      ∙ mailboxes-changed number slab (with_value slab key (without_waiting r.link)) key r.link
      (without_waiting r.link) apart r.stands refl updates
      ∙ ap (λ (box : Mailbox).
      with_box (mailboxes_of number slab) (r.link).home.publisher (r.link).home.subscriber (waiting_dropped box))
      (sym (mailbox-there number slab key (r.link).home.publisher
      (r.link).home.subscriber r.link apart r.stands refl refl))
