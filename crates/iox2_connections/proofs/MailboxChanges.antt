-- A changed connection, seen from the mailboxes.
use Rattle.std.proofs.Common.{◌≡◌, ◌≢◌, ℕ, ◌<◌, List, length, Bool, true, false, cond, ◌&&◌, eqb, Option, None, Some}
use Rattle.std.proofs.Common.{get_or, refl, ap, sym, ◌∙◌, inl, inr, arith}
use Rattle.std.proofs.lemmas.Bool.{cases_eq, cases_lt, eqb-true, ne_eqb, eq-eqb}
use Rattle.std.proofs.lemmas.List.{get_or-set_same, get_or-set_other, get_or_past}
use Rattle.std.specs.Option.{option_map}
use Rattle.slab.specs.Slab.{Slab, get, Updates, with_value}
use Rattle.iox2_connections.specs.Link.{Link, channel_at}
use Rattle.iox2_machine.specs.machine.Channel.{Channel}
use Rattle.iox2_machine.specs.machine.Numbers.{put_at}
use Rattle.iox2_connections.specs.declared.connection.Home.{Home}
use Rattle.iox2_connections.specs.LookUp.{look_up}
use Rattle.iox2_connections.specs.Mailboxes.{is_between, mailbox_of, mailbox_if_any, mailboxes_of, channels_if_any}
use Rattle.iox2_connections.specs.Mailboxes.{channels_in, with_box}
use Rattle.iox2_connections.specs.Homes.{IsApart, SameHomes, KeepsOthers, fixed_of}
use Rattle.iox2_connections.proofs.LookUps.{look_up-changed, look_up-there, look_up-found, look_up-none}
use Rattle.iox2_connections.proofs.LookUps.{look_up-nothing}
use mathlib.Core.Path.{fun_ext}

-- a place with a record is within the list
pub within_if_some : {A : Type 0} (xs : List (Option A)) (i : ℕ) (x : A) → get_or xs i None ≡ Some x → i < length xs
within_if_some xs i x e =
    elim (cases_lt i (length xs)) [
      | inl below ↦ below
      | inr past ↦ absurd (let none : get_or xs i None ≡ None = get_or_past xs i None past in cc)
    ]

-- a write at a key that has a record updates that key
pub Updates-with_value : (slab : Slab Link) (key : ℕ) (c d : Link) → get slab key ≡ Some c
    → Updates slab (with_value slab key d) key (Some d)
Updates-with_value slab key c d at = record {
  changed = get_or-set_same slab.slots key (Some d) None (within_if_some slab.slots key c at);
  others = λ other differs. get_or-set_other slab.slots key other (Some d) None differs;
}

-- a record that changes stays where it stands
pub SameHomes-updated : (slab new : Slab Link) (key : ℕ) (c d : Link) → get slab key ≡ Some c → fixed_of d ≡ fixed_of c
    → Updates slab new key (Some d) → SameHomes slab new
SameHomes-updated slab new key c d at fixed u = record {
  same = λ k. elim (cases_eq k key) [
    | inl same ↦ rw same (rw (u.changed, at) (ap Some fixed))
    | inr differs ↦ rw (u.others k differs) refl
  ];
}

-- a change of one publisher's connection keeps those of others
pub KeepsOthers-updated : (p : ℕ) (slab new : Slab Link) (key : ℕ) (c : Link) (o : Option Link) → get slab key ≡ Some c
    → c.home.publisher ≡ p → Updates slab new key o → KeepsOthers p slab new
KeepsOthers-updated p slab new key c o at mine u = record {
  stay = λ k d there differs. elim (cases_eq k key) [
    | inl same ↦ absurd (let here : get slab key ≡ Some d = sym (ap (get slab) same) ∙ there in
        let e : Some c ≡ Some d = sym at ∙ here in
        differs (ap (λ (x : Link). x.home.publisher) (sym (let f : c ≡ d = cc in f)) ∙ mine))
    | inr away ↦ u.others k away ∙ there
  ];
}

-- a record that stands afterwards stood before, between the same ports
pub was : (old new : Slab Link) (key : ℕ) (d : Link) → SameHomes old new → get new key ≡ Some d
    → (c : Link) × (get old key ≡ Some c) × (fixed_of c ≡ fixed_of d)
was old new key d same at = by (get old key) refl (rw at at (same.same key)) where
  by : (o : Option Link) → get old key ≡ o → Some (fixed_of d) ≡ option_map fixed_of o
      → (c : Link) × (get old key ≡ Some c) × (fixed_of c ≡ fixed_of d)
  by None e h = absurd cc
  by (Some c) e h = (c, e, let g : fixed_of c ≡ fixed_of d = cc in g)

-- connections stay apart
pub IsApart-same : (old new : Slab Link) → IsApart old → SameHomes old new → IsApart new
IsApart-same old new apart same = record {
  one = λ p q. record {
    one = λ i j x y at_i at_j is_x is_y.
        let x' = was old new i x same at_i in
        let y' = was old new j y same at_j in
        (apart.one p q).one i j x'.0 y'.0 x'.1 y'.1
        (ap (λ (t : Home × ℕ × ℕ × Bool × List Channel). eqb t.0.publisher p && eqb t.0.subscriber q) x'.2 ∙ is_x)
        (ap (λ (t : Home × ℕ × ℕ × Bool × List Channel). eqb t.0.publisher p && eqb t.0.subscriber q) y'.2 ∙ is_y);
  };
}

-- both parts of a test that passed
pub both-true : (a b : Bool) → (a && b) ≡ true → (a ≡ true) × (b ≡ true)
both-true true b e = (refl, e)
both-true false b e = absurd cc

-- a connection passes the test for its own ports
pub is_between-own : (p q : ℕ) (c : Link) → c.home.publisher ≡ p → c.home.subscriber ≡ q → is_between p q c ≡ true
is_between-own p q c mine yours = rw (mine, yours, eq-eqb p p refl, eq-eqb q q refl) refl

-- the mailbox of a connection that stands in the slab
pub mailbox-there : (number : ℕ → ℕ → ℕ) (slab : Slab Link) (key p q : ℕ) (c : Link) → IsApart slab
    → get slab key ≡ Some c → c.home.publisher ≡ p → c.home.subscriber ≡ q
    → mailboxes_of number slab p q ≡ mailbox_of (number p) c
mailbox-there number slab key p q c apart at mine yours =
    ap (mailbox_if_any (number p))
    (look_up-found (is_between p q) slab.slots key c (apart.one p q) at (is_between-own p q c mine yours))

-- the channels of a connection that stands in the slab
pub channels-there : (slab : Slab Link) (key p q : ℕ) (c : Link) → IsApart slab → get slab key ≡ Some c
    → c.home.publisher ≡ p → c.home.subscriber ≡ q → channels_in slab p q ≡ channel_at c.channels
channels-there slab key p q c apart at mine yours =
    ap channels_if_any
    (look_up-found (is_between p q) slab.slots key c (apart.one p q) at (is_between-own p q c mine yours))

-- where connections stay what they are, so do their channels
pub channels-same : (old new : Slab Link) → IsApart old → SameHomes old new → channels_in new ≡ channels_in old
channels-same old new apart same = fun_ext (λ p. fun_ext (λ q. by p q (look_up (is_between p q) old.slots) refl)) where
  by : (p q : ℕ) (o : Option Link) → look_up (is_between p q) old.slots ≡ o → channels_in new p q ≡ channels_in old p q
  by p q None e =
      let none : look_up (is_between p q) new.slots ≡ None = look_up-nothing (is_between p q) new.slots (λ i d at.
      let c = was old new i d same at in
      ap (λ (t : Home × ℕ × ℕ × Bool × List Channel). eqb t.0.publisher p && eqb t.0.subscriber q) (sym c.2)
      ∙ look_up-none (is_between p q) old.slots e i c.0 c.1) in
      ap channels_if_any (none ∙ sym e)
  by p q (Some c) e =
      let found = look_up-there (is_between p q) old.slots c e in
      let at : option_map fixed_of (get new found.0) ≡ Some (fixed_of c) =
      same.same found.0 ∙ ap (option_map fixed_of) found.1 in
      there (get new found.0) refl at
    where
      there : (o : Option Link) → get new (look_up-there (is_between p q) old.slots c e).0 ≡ o
          → option_map fixed_of (get new (look_up-there (is_between p q) old.slots c e).0) ≡ Some (fixed_of c)
          → channels_in new p q ≡ channels_in old p q
      there None g h = absurd (let no : None ≡ Some (fixed_of c) = sym (ap (option_map fixed_of) g) ∙ h in cc)
      there (Some d) g h =
          let found = look_up-there (is_between p q) old.slots c e in
          let both : Some (fixed_of d) ≡ Some (fixed_of c) = sym (ap (option_map fixed_of) g) ∙ h in
          let fixed : fixed_of d ≡ fixed_of c = cc in
          let its : is_between p q d ≡ true =
          ap (λ (t : Home × ℕ × ℕ × Bool × List Channel). eqb t.0.publisher p && eqb t.0.subscriber q) fixed
          ∙ found.2 in
          ap channels_if_any
          (look_up-found (is_between p q) new.slots found.0 d ((IsApart-same old new apart same).one p q) g its)
          ∙ ap (λ (t : Home × ℕ × ℕ × Bool × List Channel). channel_at t.4) fixed
          ∙ sym (ap channels_if_any e)

-- one changed connection is one changed mailbox in its publisher's row
pub row-changed : (number : ℕ → ℕ → ℕ) (slab new : Slab Link) (key p : ℕ) (c d : Link) → IsApart slab → IsApart new
    → get slab key ≡ Some c → c.home.publisher ≡ p → d.home ≡ c.home → Updates slab new key (Some d)
    → (q : ℕ) → mailboxes_of number new p q ≡ put_at (mailboxes_of number slab p) c.home.subscriber
    (mailbox_of (number p) d) q
row-changed number slab new key p c d apart apart' at mine home u q =
    ap (mailbox_if_any (number p)) (look_up-changed (is_between p q) slab.slots new.slots key c d (apart.one p q)
    (apart'.one p q) at u.changed u.others (ap (λ h. eqb h.publisher p && eqb h.subscriber q) home))
    ∙ by (is_between p q d) (eqb q c.home.subscriber) test (look_up (is_between p q) slab.slots)
  where
    at_home : (h : Home) → h.publisher ≡ p → (eqb h.publisher p && eqb h.subscriber q) ≡ eqb q h.subscriber
    at_home h e = rw (e, eq-eqb p p refl) (grind arith)

    test : is_between p q d ≡ eqb q c.home.subscriber
    test = ap (λ (h : Home). eqb h.publisher p && eqb h.subscriber q) home ∙ at_home c.home mine

    by : (a b : Bool) → a ≡ b → (o : Option Link)
        → mailbox_if_any (number p) (cond a (Some d) o) ≡ cond b (mailbox_of (number p) d) (mailbox_if_any (number p) o)
    by true b e o = rw (sym e) refl
    by false b e o = rw (sym e) refl

-- the mailboxes of other publishers stay
pub others-stay : (number : ℕ → ℕ → ℕ) (old new : Slab Link) (p r q : ℕ) → IsApart old → SameHomes old new
    → KeepsOthers p old new → r ≢ p → mailboxes_of number new r q ≡ mailboxes_of number old r q
others-stay number old new p r q apart same kept differs =
    ap (mailbox_if_any (number r)) (by (look_up (is_between r q) old.slots) refl) where
      by : (o : Option Link) → look_up (is_between r q) old.slots ≡ o → look_up (is_between r q) new.slots ≡ o
      by None e = look_up-nothing (is_between r q) new.slots (λ i d at.
          let c = was old new i d same at in
          let no : is_between r q c.0 ≡ false = look_up-none (is_between r q) old.slots e i c.0 c.1 in
          ap (λ (t : Home × ℕ × ℕ × Bool × List Channel). eqb t.0.publisher r && eqb t.0.subscriber q) (sym c.2) ∙ no)
      by (Some c) e =
          let found = look_up-there (is_between r q) old.slots c e in
          look_up-found (is_between r q) new.slots found.0 c ((IsApart-same old new apart same).one r q)
          (kept.stay found.0 c found.1
          (λ mine. differs (sym (eqb-true c.home.publisher r (both-true _ _ found.2).0) ∙ mine))) found.2

-- one changed connection is one changed mailbox
pub mailboxes-changed : (number : ℕ → ℕ → ℕ) (slab new : Slab Link) (key : ℕ) (c d : Link) → IsApart slab
    → get slab key ≡ Some c → fixed_of d ≡ fixed_of c → Updates slab new key (Some d)
    → mailboxes_of number new ≡ with_box (mailboxes_of number slab) c.home.publisher c.home.subscriber
    (mailbox_of (number c.home.publisher) d)
mailboxes-changed number slab new key c d apart at fixed u = fun_ext (λ r. fun_ext (λ q. by r q)) where
  same : SameHomes slab new
  same = SameHomes-updated slab new key c d at fixed u

  by : (r q : ℕ) → mailboxes_of number new r q ≡ with_box (mailboxes_of number slab) c.home.publisher c.home.subscriber
      (mailbox_of (number c.home.publisher) d) r q
  by r q = elim (cases_eq r c.home.publisher) [
    | inl here ↦ rw (here, eq-eqb c.home.publisher c.home.publisher refl)
        (row-changed number slab new key c.home.publisher c d apart (IsApart-same slab new apart same) at refl
        (ap (λ (t : Home × ℕ × ℕ × Bool × List Channel). t.0) fixed) u q)
    | inr away ↦ rw (ne_eqb r c.home.publisher away)
        (others-stay number slab new c.home.publisher r q apart same
        (KeepsOthers-updated c.home.publisher slab new key c (Some d) at refl u) away)
  ]

-- what stays but at one argument is the old, written over there
pub one-put : {X : Type 0} (f g : ℕ → X) (k : ℕ) → ((i : ℕ) → i ≢ k → g i ≡ f i) → g ≡ put_at f k (g k)
one-put f g k others = fun_ext (λ i. elim (cases_eq i k) [
  | inl same ↦ ap g same ∙ sym (ap (λ (t : Bool). cond t (g k) (f i)) (eq-eqb i k same))
  | inr away ↦ others i away ∙ sym (ap (λ (t : Bool). cond t (g k) (f i)) (ne_eqb i k away))
])

-- a mailbox is written over by itself
pub put_at-own : {X : Type 0} (f : ℕ → X) (k : ℕ) → f ≡ put_at f k (f k)
put_at-own f k = one-put f f k (λ i away. refl)

pub SameHomes-trans : (a b c : Slab Link) → SameHomes a b → SameHomes b c → SameHomes a c
SameHomes-trans a b c x y = record { same = λ key. y.same key ∙ x.same key }

pub KeepsOthers-trans : (p : ℕ) (a b c : Slab Link) → KeepsOthers p a b → KeepsOthers p b c → KeepsOthers p a c
KeepsOthers-trans p a b c x y = record { stay = λ key d at differs. y.stay key d (x.stay key d at differs) differs }
