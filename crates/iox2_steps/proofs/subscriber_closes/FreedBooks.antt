-- A book goes whose publisher is gone and of which no slot has a holder, in the midst of a close.
use Rattle.std.proofs.Common.{◌≡◌, ◌≢◌, ℕ, [], None, Some, IsSomeAnd, refl, ap, sym, subst, ◌∙◌, inl, inr, ◌⊎◌, arith}
use Rattle.std.proofs.lemmas.Bool.{eq-eqb}
use Rattle.std.proofs.lemmas.List.{get_or-set_same, get_or-set_other}
use Rattle.std.specs.Option.{option_and_then}
use Rattle.slab.specs.Slab.{Updates, get}
use Rattle.iox2_connections.specs.Link.{Link}
use Rattle.iox2_slots.specs.SlotBook.{Book, holders_at}
use Rattle.iox2_connections.proofs.MailboxChanges.{within_if_some}
use Rattle.iox2_domain.specs.Kept.{KeptMessage, state_of}
use Rattle.iox2_domain.specs.Fields.{Fields, kept_of, contents_at, message_in}
use Rattle.iox2_domain.specs.Invariant.{IsUsed}
use Rattle.iox2_domain.specs.LeftBooks.{IsUnused, CanGo, SettlesBook, with_book_gone, without_book}
use Rattle.iox2_domain.proofs.lemmas.fields.Standing.{some_is}
use Rattle.iox2_steps.proofs.releases.BookFreed.{contents-within, unused-book, used-book}
use Rattle.iox2_domain.proofs.lemmas.slots.BookGone.{gone-parts, gone-state}
use Rattle.iox2_domain.proofs.lemmas.slots.Messages.{lies_at, message_at-book, message_in-parts}
use Rattle.iox2_domain.proofs.lemmas.slots.PublisherBooks.{link-held}
use Rattle.iox2_steps.proofs.updates.FollowedChannels.{has-link}
use Rattle.iox2_domain.proofs.lemmas.fields.KeptChannels.{but-channels}
use Rattle.iox2_steps.specs.Agreement.{IsOrphan, HasOwnedParts, KeepsMessages, Passes}
use Rattle.iox2_steps.specs.Closes.{IsBusy}
use Rattle.iox2_steps.proofs.subscriber_closes.KeptMessages.{keeps-same}

-- The book at the key has gone if nothing held a slot of it.
pub record FreesBook {T U : Type 0} (f : Fields T U) (key : ℕ) (f' : Fields T U) : Type 0 where
  pub passes : Passes f f' (state_of (kept_of f))
  pub publishers : f'.publishers ≡ f.publishers
  pub subscribers : f'.subscribers ≡ f.subscribers
  pub connections : f'.connections ≡ f.connections
  pub next_port : f'.next_port ≡ f.next_port
  pub others : (k : ℕ) → k ≢ key → get f'.books k ≡ get f.books k
  pub held : (b : Book) → get f'.books key ≡ Some b → IsUsed b

module _ {T U : Type 0} (f : Fields T U) (parts : HasOwnedParts f) (key : ℕ) (b : Book) (at : get f.books key ≡ Some b)
    (orphan : IsOrphan f b)
    (busy : (k : ℕ) (c : Link) → get f.connections k ≡ Some c → c.home.book ≡ key → IsBusy c) where
  -- a book that some slot holds stays
  held-stays : (IsUnused b → ⊥) → FreesBook f key f
  held-stays some = record {
    passes = record { parts = parts; state = refl; channels = has-link f.connections; messages = keeps-same f };
    publishers = refl;
    subscribers = refl;
    connections = refl;
    next_port = refl;
    others = λ k away. refl;
    held = λ d at_d. let one : Some b ≡ Some d = sym at ∙ at_d in let is : b ≡ d = cc in
        subst IsUsed is (used-book b some);
  }

  module _ (unused : (slot : ℕ) → holders_at b slot ≡ 0) where
    -- the fields without the book
    abbrev freed : Fields T U
    freed = with_book_gone f key

    removed : Updates f.books (without_book f.books key) key None
    removed = record {
      changed = get_or-set_same f.books.slots key None None (within_if_some f.books.slots key b at);
      others = λ k away. get_or-set_other f.books.slots key k None None away;
    }

    -- a book that is left was there, at another key
    was : (k : ℕ) (d : Book) → get freed.books k ≡ Some d → (k ≢ key) × (get f.books k ≡ Some d)
    was k d at_d =
        let away : k ≢ key = λ here.
        (let no : None ≡ Some d = sym removed.changed ∙ sym (ap (get freed.books) here) ∙ at_d in absurd cc) in
        (away, sym (removed.others k away) ∙ at_d)

    -- no connection is its publisher's
    unconnected : (k : ℕ) (c : Link) → get f.connections k ≡ Some c → c.home.publisher ≢ b.publisher
    unconnected k c at_c mine =
        let named = parts.parts.names.at k c at_c in
        let here : c.home.book ≡ key =
        (parts.parts.books.one_each b.publisher).one c.home.book key named.book b named.stands at
        (eq-eqb named.book.publisher b.publisher (named.is_its ∙ mine)) (eq-eqb b.publisher b.publisher refl) in
        let some = busy k c at_c here in
        let covered = (link-held f parts.parts k c at_c b (ap (get f.books) here ∙ at)).at some.slot in
        let standing = some.stands in
        let free = unused some.slot in
        omega arith

    -- ---- what lies in slots

    same-lies : (k slot : ℕ) → k ≢ key → lies_at freed k slot ≡ lies_at f k slot
    same-lies k slot away =
        (λ i. option_and_then
        (λ d. message_in d (elim (get_or-set_other f.contents key k None None away i) [ None ↦ [] | Some cs ↦ cs ])
        slot) (removed.others k away i))

    -- nothing lay in the book
    lay-elsewhere : (k slot : ℕ) (m : KeptMessage T U) → lies_at f k slot ≡ Some m → k ≢ key
    lay-elsewhere k slot m e here =
        let there = message_at-book f.contents f.books k slot m e in
        let one : Some there.0 ≡ Some b = sym there.1 ∙ ap (get f.books) here ∙ at in
        let is : there.0 ≡ b = cc in
        let in_use = (message_in-parts there.0 (contents_at f.contents k) slot m there.2).in_use in
        let free : holders_at there.0 slot ≡ 0 = ap (λ (d : Book). holders_at d slot) is ∙ unused slot in
        omega (arith, in_use, free)

    lies-elsewhere : (k slot : ℕ) (m : KeptMessage T U) → lies_at freed k slot ≡ Some m → k ≢ key
    lies-elsewhere k slot m e = (was k _ (message_at-book freed.contents freed.books k slot m e).1).0

    freed-keeps : KeepsMessages f freed
    freed-keeps = record {
      back = λ k slot m e. sym (same-lies k slot (lies-elsewhere k slot m e)) ∙ e;
      forth = λ k slot n m has e. same-lies k slot (lay-elsewhere k slot m e) ∙ e;
      number = λ k slot n has.
          record { book = has.book; stands = (was k has.book has.stands).1; in_use = has.in_use; number = has.number };
    }

    -- the book is gone
    unheld-goes : FreesBook f key freed
    unheld-goes = record {
      passes = record {
        parts = record {
          parts = gone-parts f parts.parts key b at unused orphan.absent unconnected;
          lone = record { at = λ k slot d at_d loan. parts.lone.at k slot d (was k d at_d).1 loan };
          owners = record {
            at = λ k d at_d.
                elim (parts.owners.at k d (was k d at_d).1) [ inl has ↦ inl has | inr gone ↦ inr gone ];
          };
        };
        state = but-channels freed (state_of (kept_of f))
            (gone-state f parts.parts key b at unused orphan.absent unconnected);
        channels = has-link f.connections;
        messages = freed-keeps;
      };
      publishers = refl;
      subscribers = refl;
      connections = refl;
      next_port = refl;
      others = λ k away. removed.others k away;
      held = λ d at_d. absurd (let no : None ≡ Some d = sym removed.changed ∙ at_d in cc);
    }

  -- it is settled
  settled : (new : Fields T U) → SettlesBook f key new → FreesBook f key new
  settled new l = by (subst Outcome
      (let both : Some l.book ≡ Some b = sym l.stands ∙ at in let is : l.book ≡ b = cc in is) l.outcome) where
        Outcome : Book → Type 0
        Outcome c = (IsUnused c × (new ≡ with_book_gone f key)) ⊎ ((IsUnused c → ⊥) × (new ≡ f))

        by : Outcome b → FreesBook f key new
        by (inl all) = subst (FreesBook f key) (sym all.1) (unheld-goes (unused-book b all.0))
        by (inr some) = subst (FreesBook f key) (sym some.1) (held-stays some.0)

-- ---- as the step reads the fields

module _ {T U : Type 0} (f : Fields T U) (parts : HasOwnedParts f) (key : ℕ)
    (some : IsSomeAnd (get f.books key) (IsOrphan f))
    (busy : (k : ℕ) (c : Link) → get f.connections k ≡ Some c → c.home.book ≡ key → IsBusy c) where
  its : (b : Book) × (get f.books key ≡ Some b) × IsOrphan f b
  its = some_is (IsOrphan f) (get f.books key) some

  -- it can go
  pub can-go : CanGo f key
  can-go = record { stands = rw its.1 refl; contents = contents-within f parts.parts key its.0 its.1 }

  -- it goes where no slot has a holder
  pub frees : (new : Fields T U) → SettlesBook f key new → FreesBook f key new
  frees = settled f parts key its.0 its.1 its.2 busy
