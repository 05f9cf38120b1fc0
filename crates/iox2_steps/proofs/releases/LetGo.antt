-- A subscriber's message is released, and its publisher is gone: the slot has one holder less at once.
use Rattle.std.proofs.Common.{◌≡◌, ℕ, ◌+◌, ◌<◌, true, refl, sym, subst, ◌∙◌, Some, None, inl, inr, arith, Contains}
use Rattle.slab.specs.Slab.{Slab, get}
use Rattle.iox2_connections.specs.Link.{Link}
use Rattle.iox2_slots.specs.SlotBook.{Book, holders_at}
use Rattle.iox2_machine.specs.Stored.{IsHeldMessage}
use Rattle.iox2_machine.specs.machine.Mailbox.{is_borrowed}
use Rattle.iox2_machine.specs.machine.State.{State}
use Rattle.iox2_connections.specs.Counters.{one_holder_less, with_counters}
use Rattle.iox2_connections.specs.LookUp.{look_up}
use Rattle.iox2_connections.specs.Mailboxes.{mailboxes_of}
use Rattle.iox2_connections.specs.Recounts.{Recounts}
use Rattle.iox2_connections.specs.Takes.{ReleasesSlot}
use Rattle.iox2_connections.proofs.Counts.{get_or-one_holder_less, one_if}
use Rattle.iox2_domain.specs.Kept.{state_of}
use Rattle.iox2_domain.specs.Fields.{Fields, kept_of, number_in_slot}
use Rattle.iox2_domain.specs.Invariant.{IsDomain, KeepsBooks, KeepsBooksBut, IsOwned, IsGone, is_publisher, HasParts}
use Rattle.iox2_domain.specs.Midway.{IsMidway}
use Rattle.iox2_steps.proofs.releases.Released.{unborrowed_here, unborrows, numbers-were}
use Rattle.iox2_domain.proofs.lemmas.fields.KeptChannels.{but-channels}
use Rattle.iox2_steps.proofs.updates.FollowedChannels.{links-same}
use Rattle.iox2_domain.proofs.lemmas.receives.Reconnected.{held-within}
use Rattle.iox2_domain.proofs.lemmas.slots.BookChanges.{KeepsSlots, book-here, book-others}
use Rattle.iox2_domain.proofs.lemmas.slots.LoneLoans.{lone-counters}
use Rattle.iox2_domain.proofs.lemmas.slots.RecountedLoans as counts

module _ {T U : Type 0} (f : Fields T U) (sound : IsDomain f) (key slot : ℕ) (c : Link)
    (at_c : get f.connections key ≡ Some c)
    (b : Book) (at_b : get f.books c.home.book ≡ Some b) (its : b.publisher ≡ c.home.publisher)
    (gone : look_up (is_publisher c.home.publisher) f.publishers ≡ None) (borrowed : Contains c.borrowed slot)
    (in_use : 0 < holders_at b slot)
    (new : Slab Link) (r : Recounts c.home.publisher b.holders f.connections (one_holder_less slot b.holders) new) where
  abbrev p : ℕ
  p = c.home.publisher

  -- the fields with one holder less
  abbrev pub let_go : Fields T U
  let_go = counts.recounted_fields f sound p c.home.book b at_b its (one_holder_less slot b.holders) new r

  abbrev after : Book
  after = with_counters b (one_holder_less slot b.holders)

  keeps : KeepsSlots b after
  keeps = record { publisher = refl; node = refl; numbers = refl; slots = r.slots }

  fewer : (s : ℕ) → holders_at after s + one_if s slot ≡ holders_at b s
  fewer s = get_or-one_holder_less b.holders slot s in_use

  -- ---- the whole

  pub let_go-consistent : HasParts let_go
  let_go-consistent = counts.parts-recounted f sound p c.home.book b at_b its (one_holder_less slot b.holders) new r

  -- no connection's book is kept for nobody but this one
  kept-after : KeepsBooks f.next_port f.publishers f.books
      → KeepsBooksBut f.next_port f.publishers let_go.books c.home.book
  kept-after kept = record {
    own = λ d at_d.
        let one : Some after ≡ Some d = sym (book-here f c.home.book b after at_b keeps) ∙ at_d in
        let is : after ≡ d = cc in
        elim (kept.at c.home.book b at_b) [
          | inl owned ↦ inl (subst (λ (e : Book). IsOwned f.publishers c.home.book e.publisher) is owned)
          | inr left ↦ inr (subst (λ (e : Book). IsGone f.next_port f.publishers e.publisher) is left.0)
        ];
    others = λ k d away at_d. kept.at k d (sym (book-others f c.home.book b after at_b keeps k away) ∙ at_d);
  }

  module _ (releases : ReleasesSlot f.connections key slot new)
      (held : is_borrowed (number_in_slot f.books p slot)
      ((state_of (kept_of f)).mailboxes p c.home.subscriber) ≡ true) where
    -- the machine's subscriber has borrowed the message no more
    pub let_go-is : state_of (kept_of let_go) ≡ unborrowed_here f sound key slot c at_c new releases held
    let_go-is = counts.recounted-is f sound p c.home.book b at_b its (one_holder_less slot b.holders) new r
        ∙ unborrows f sound key slot c at_c new releases held

    pub let_go-midway : KeepsBooks f.next_port f.publishers f.books
        → IsMidway f let_go (unborrowed_here f sound key slot c at_c new releases held) c.home.book
    let_go-midway kept = record {
      consistent = let_go-consistent;
      lone = lone-counters f.books c.home.book b (one_holder_less slot b.holders) at_b sound.lone
          (λ s. omega (arith, fewer s));
      kept_books = kept-after kept;
      state = but-channels let_go (unborrowed_here f sound key slot c at_c new releases held) let_go-is;
      channels = links-same f.connections new r.homes;
      entries = counts.recounted-entries f sound p c.home.book b at_b its (one_holder_less slot b.holders) new r;
      places = counts.recounted-places f sound p c.home.book b at_b its (one_holder_less slot b.holders) new r;
      complete = λ q n is_held.
          let old =
          sound.entries q n (held-within (state_of (kept_of f)) (mailboxes_of (number_in_slot f.books) new) q n
          (λ k. numbers-were f sound key slot c at_c new releases held q k n)
          (subst (λ (s : State T U). IsHeldMessage s q n)
          (let_go-is ∙ sym (unborrows f sound key slot c at_c new releases held)) is_held)) in (
            old.0,
            counts.recounted-keeps f sound p c.home.book b at_b its
                (one_holder_less slot b.holders) new r q n old.0 is_held old.1,
            old.2,
          );
    }
