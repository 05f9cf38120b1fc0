-- Slots get few holders while their publisher is updated.
use Rattle.std.proofs.Common.{◌≡◌, ℕ, ◌+◌, ◌-◌, ◌<◌, ◌≤◌, ◌^◌, refl, get_or, ap, sym, subst, ◌∙◌, inl, inr, arith}
use Rattle.std.proofs.lemmas.Bool.{cases_eq}
use Rattle.std.proofs.lemmas.List.{get_or-set_same, get_or-set_other}
use Rattle.std.specs.declared.option.Option.TheVariants.{None, Some}
use Rattle.slab.specs.Slab.{Slab, get, with_value}
use Rattle.iox2_slots.specs.SlotBook.{Book, holders_at}
use Rattle.iox2_machine.specs.machine.Records.{Environment}
use Rattle.iox2_connections.proofs.MailboxChanges.{within_if_some}
use Rattle.iox2_domain.specs.Ports.{PublisherFields}
use Rattle.iox2_domain.specs.Fields.{Fields}
use Rattle.iox2_domain.specs.Connects.{MakesSenderEnd}
use Rattle.iox2_domain.specs.Histories.{HasNewEnd}
use Rattle.iox2_updates.specs.Holders.{HasFewHolders, HasCountRoom, GainsHolders}

-- a bound holds with room to spare
pub few-more : (books : Slab Book) (key m n : ℕ) → m ≤ n → HasFewHolders books key m → HasFewHolders books key n
few-more books key m n more few = record { at = λ b at slot. let low = few.at b at slot in omega (arith, low, more) }

-- where a slot has few holders it may have one more
pub room-few : (books : Slab Book) (key most : ℕ) → most + 1 < 2 ^ 64 → HasFewHolders books key most
    → HasCountRoom books key
room-few books key most low few = record { at = λ b at slot. let under = few.at b at slot in omega (arith, under, low) }

few-room : (books : Slab Book) (key : ℕ) → HasCountRoom books key → HasFewHolders books key (2 ^ 64 - 2)
few-room books key room = record { at = λ b at slot. let under = room.at b at slot in omega (arith, under) }

-- it may so still where no holder came
pub room-still : (old new : Slab Book) (key : ℕ) → GainsHolders 0 old new → HasCountRoom old key → HasCountRoom new key
room-still old new key gains room =
    room-few new key (2 ^ 64 - 2) (omega arith) (gains.at key (2 ^ 64 - 2) (few-room old key room))

-- no holder comes where nothing changes
pub gains-nothing : (more : ℕ) (old new : Slab Book) → new ≡ old → GainsHolders more old new
gains-nothing more old new same = record {
  at = λ key most few. subst (λ books. HasFewHolders books key (most + more)) (sym same)
      (few-more old key most (most + more) (omega arith) few);
}

-- holders come twice
pub gains-then : (some more : ℕ) (old mid new : Slab Book) → GainsHolders some old mid → GainsHolders more mid new
    → GainsHolders (some + more) old new
gains-then some more old mid new first next = record {
  at = λ key most few. few-more new key (most + some + more) (most + (some + more)) (omega arith)
      (next.at key (most + some) (first.at key most few));
}

-- the counts of one book change
pub gains-written : (more : ℕ) (books : Slab Book) (k : ℕ) (b c : Book) → get books k ≡ Some b
    → ((slot : ℕ) → holders_at c slot ≤ holders_at b slot + more)
    → GainsHolders more books (with_value books k c)
gains-written more books k b c at grows = record {
  at = λ key most few. record {
    at = λ d at_d slot. elim (cases_eq key k) [
      | inl same ↦
          let both : Some d ≡ Some c = sym at_d ∙ ap (get (with_value books k c)) same
          ∙ get_or-set_same books.slots k (Some c) None (within_if_some books.slots k b at) in
          let is : d ≡ c = cc in
          let under = few.at b (ap (get books) same ∙ at) slot in
          omega (arith, ap (λ (e : Book). holders_at e slot) is, grows slot, under)
      | inr away ↦
          let under = few.at d (sym (get_or-set_other books.slots k key (Some c) None away) ∙ at_d) slot in
          omega (arith, under)
    ];
  };
}

-- a publisher that has got an end to a subscriber has its book still, and no holder came
pub end-room : {T U : Type 0} (environment : Environment) (f f1 : Fields T U) (i j : ℕ) (x : PublisherFields)
    → get_or f.publishers i None ≡ Some x → (key : ℕ) → MakesSenderEnd environment f i j x key f1
    → HasCountRoom f.books x.book → (end : HasNewEnd f1 i key) → HasCountRoom f1.books (end.publisher).book
end-room {T} {U} environment f f1 i j x at key made room end =
    let stands : get_or f1.publishers i None ≡ Some (record x { keys = made.keys; key_room = made.key_room }) =
    ap (λ (h : Fields T U). get_or h.publishers i None) made.fields ∙ get_or-set_same f.publishers i
    (Some (record x { keys = made.keys; key_room = made.key_room })) None (within_if_some f.publishers i x at) in
    let both : Some end.publisher ≡ Some (record x { keys = made.keys; key_room = made.key_room }) =
    sym end.stands ∙ stands in
    let is : end.publisher ≡ record x { keys = made.keys; key_room = made.key_room } = cc in
    let book : (end.publisher).book ≡ x.book = ap (λ (z : PublisherFields). z.book) is in
    let books : f1.books ≡ f.books = ap (λ (h : Fields T U). h.books) made.fields in
    subst (HasCountRoom f1.books) (sym book) (subst (λ (slab : Slab Book). HasCountRoom slab x.book) (sym books) room)
