-- Connections in which no slot stands go.
use Rattle.std.proofs.Common.{◌≡◌, ◌≤◌, ℕ, Bool, true, false, [], Option, None, Some, refl, ap, sym, ◌∙◌, inl, inr}
use Rattle.std.proofs.Common.{arith}
use Rattle.std.proofs.lemmas.Bool.{cases_eq}
use Rattle.std.specs.List.{sum_by}
use Rattle.slab.specs.Slab.{Slab, Updates, get}
use Rattle.iox2_connections.specs.Link.{Link, load}
use Rattle.iox2_connections.specs.Counters.{stands}
use Rattle.iox2_connections.specs.Homes.{IsApart}
use Rattle.iox2_connections.specs.LookUp.{look_up}
use Rattle.iox2_connections.specs.Mailboxes.{is_between, mailboxes_of, mailbox_if_any}
use Rattle.iox2_connections.proofs.LookUps.{look_up-found, look_up-none, look_up-nothing, look_up-there}
use Rattle.iox2_domain.specs.Invariant.{connection_count, one_if_receivers}
use Rattle.iox2_domain.proofs.lemmas.containers.FewerSums.{sum-fewer}
use Rattle.iox2_domain.proofs.lemmas.slots.Recounts.{sum-alike}
pub use Rattle.iox2_contents.proofs.LeftLists.{no-items as no-length}

-- No slot stands in the connection.
pub record IsEmptyLink (c : Link) : Type 0 where
  pub waiting : c.waiting ≡ []
  pub borrowed : c.borrowed ≡ []
  pub returned : c.returned ≡ []
  pub others : c.others ≡ []

-- a connection without load
pub unloaded : (c : Link) → load c ≡ 0 → IsEmptyLink c
unloaded c none = record {
  waiting = no-length c.waiting (omega (arith, none));
  borrowed = no-length c.borrowed (omega (arith, none));
  returned = no-length c.returned (omega (arith, none));
  others = no-length c.others (omega (arith, none));
}

-- Some connections have gone, in which no slot stood.
pub record LosesEmpty (old new : Slab Link) : Type 0 where
  pub fewer : (key : ℕ) (c : Link) → get new key ≡ Some c → get old key ≡ Some c
  pub gone : (key : ℕ) (c : Link) → get old key ≡ Some c → get new key ≡ None → IsEmptyLink c

-- one has
pub loses-one : (old new : Slab Link) (key : ℕ) (c : Link) → get old key ≡ Some c → IsEmptyLink c
    → Updates old new key None → LosesEmpty old new
loses-one old new key c at empty goes = record {
  fewer = λ k d at_d. elim (cases_eq k key) [
    | inl here ↦ absurd (let no : None ≡ Some d = sym goes.changed ∙ sym (ap (get new) here) ∙ at_d in cc)
    | inr away ↦ sym (goes.others k away) ∙ at_d
  ];
  gone = λ k d at_d none. elim (cases_eq k key) [
    | inl here ↦
        let one : Some d ≡ Some c = sym at_d ∙ ap (get old) here ∙ at in
        let is : d ≡ c = cc in
        rw is empty
    | inr away ↦ absurd (let no : None ≡ Some d = sym none ∙ goes.others k away ∙ at_d in cc)
  ];
}

-- no subscriber has more connections where each that is there was its own before
pub fewer-connections : (old new : Slab Link)
    → ((q key : ℕ) (d : Link) → get new key ≡ Some d → one_if_receivers q (Some d) ≡ one_if_receivers q (get old key))
    → (q : ℕ) → connection_count new q ≤ connection_count old q
fewer-connections old new was q =
    sum-fewer (one_if_receivers q) refl old.slots new.slots (λ key. by key (get new key) refl) where
      by : (key : ℕ) (n : Option Link) → get new key ≡ n
          → one_if_receivers q (get new key) ≤ one_if_receivers q (get old key)
      by key None h = let none : one_if_receivers q (get new key) ≡ 0 = ap (one_if_receivers q) h in omega (arith, none)
      by key (Some d) h = let same : one_if_receivers q (get new key) ≡ one_if_receivers q (get old key) = ap
          (one_if_receivers q) h ∙ was q key d h in omega (arith, same)

module _ (old new : Slab Link) (loses : LosesEmpty old new) where
  pub lost-apart : IsApart old → IsApart new
  lost-apart apart = record {
    one = λ p r.
        record { one = λ i j x y at_i at_j. (apart.one p r).one i j x y (loses.fewer i x at_i) (loses.fewer j y at_j) };
  }

  stands-none : (p slot : ℕ) (c : Link) → IsEmptyLink c → stands p slot (Some c) ≡ 0
  stands-none p slot c empty = rw (empty.waiting, empty.borrowed, empty.returned, empty.others) (grind arith)

  -- each slot stands as often as before
  pub lost-sums : (p slot : ℕ) → sum_by (stands p slot) new.slots ≡ sum_by (stands p slot) old.slots
  lost-sums p slot =
      sum-alike (stands p slot) refl new.slots old.slots (λ key. by key (get old key) (get new key) refl refl) where
        by : (key : ℕ) (o n : Option Link) → get old key ≡ o → get new key ≡ n
            → stands p slot (get new key) ≡ stands p slot (get old key)
        by key None None e h = ap (stands p slot) (h ∙ sym e)
        by key o (Some d) e h = ap (stands p slot) (h ∙ sym (loses.fewer key d h))
        by key (Some c) None e h =
            ap (stands p slot) h ∙ sym (stands-none p slot c (loses.gone key c e h)) ∙ sym (ap (stands p slot) e)

  -- no mailbox changes
  pub lost-boxes : IsApart old → (number : ℕ → ℕ → ℕ) (p q : ℕ)
      → mailboxes_of number new p q ≡ mailboxes_of number old p q
  lost-boxes apart number p q = by (look_up (is_between p q) old.slots) refl where
    by : (o : Option Link) → look_up (is_between p q) old.slots ≡ o
        → mailbox_if_any (number p) (look_up (is_between p q) new.slots) ≡ mailbox_if_any (number p)
        (look_up (is_between p q) old.slots)
    by None e =
        ap (mailbox_if_any (number p)) (look_up-nothing (is_between p q) new.slots
        (λ i c at. look_up-none (is_between p q) old.slots e i c (loses.fewer i c at)) ∙ sym e)
    by (Some c) e = let there = look_up-there (is_between p q) old.slots c e in
        at_key there.0 there.1 there.2 (get new there.0) refl where
          at_key : (key : ℕ) → get old key ≡ Some c → is_between p q c ≡ true → (o : Option Link) → get new key ≡ o
              → mailbox_if_any (number p) (look_up (is_between p q) new.slots) ≡ mailbox_if_any (number p)
              (look_up (is_between p q) old.slots)
          at_key key at is (Some d) here =
              let same : Some d ≡ Some c = sym (loses.fewer key d here) ∙ at in
              ap (mailbox_if_any (number p))
              (look_up-found (is_between p q) new.slots key c ((lost-apart apart).one p q) (here ∙ same) is ∙ sym e)
          at_key key at is None here =
              let empty : IsEmptyLink c = loses.gone key c at here in
              ap (mailbox_if_any (number p))
              (look_up-nothing (is_between p q) new.slots (λ i d at_d. other i d at_d (is_between p q d) refl))
              ∙ rw (e, empty.waiting, empty.borrowed, empty.others) refl
            where
              other : (i : ℕ) (d : Link) → get new i ≡ Some d → (b : Bool) → is_between p q d ≡ b
                  → is_between p q d ≡ false
              other i d at_d false is_d = is_d
              other i d at_d true is_d =
                  let one : i ≡ key = (apart.one p q).one i key d c (loses.fewer i d at_d) at is_d is in
                  absurd (let no : None ≡ Some d = sym here ∙ sym (ap (get new) one) ∙ at_d in cc)
