-- The connections after a publisher left them.
use Rattle.std.proofs.Common.{◌≡◌, ◌≢◌, ℕ, ◌≤◌, List, [], ◌∷◌, map, Bool, true, false, cond, ◌&&◌, eqb, get_or, refl}
use Rattle.std.proofs.Common.{ap, sym, ◌∙◌, inl, inr, ◌⊎◌, arith}
use Rattle.std.proofs.lemmas.Bool.{cases_eq, eqb-true, ne_eqb, eq-eqb}
use Rattle.std.specs.declared.option.Option.{Option}
use Rattle.std.specs.declared.option.Option.TheVariants.{None, Some}
use Rattle.std.specs.Option.{option_and_then}
use Rattle.std.specs.List.{sum_by}
use Rattle.slab.specs.Slab.{Slab, get}
use Rattle.iox2_connections.specs.Link.{Link}
use Rattle.iox2_machine.specs.machine.Channel.{Channel}
use Rattle.iox2_machine.specs.machine.Mailbox.{empty_mailbox, has_numbers, ChannelNumber}
use Rattle.iox2_connections.specs.declared.connection.Home.{Home}
use Rattle.iox2_connections.specs.LookUp.{look_up, IsOnly}
use Rattle.iox2_connections.specs.Homes.{IsApart, fixed_of}
use Rattle.iox2_connections.specs.Counters.{stands, stands_in}
use Rattle.iox2_connections.specs.Mailboxes.{is_between, mailbox_of, mailbox_if_any, mailboxes_of, numbered}
use Rattle.iox2_connections.proofs.LookUps.{look_up-there, look_up-none, look_up-found, look_up-nothing}
use Rattle.iox2_connections.proofs.MailboxChanges.{both-true, is_between-own}
use Rattle.iox2_connections.proofs.Counts.{stands-own}
use Rattle.iox2_connections.specs.Leaves.{left_link, holds_slots}
use Rattle.iox2_domain.specs.KeptLinks.{HasLink, ChannelsFollow}
use Rattle.iox2_domain.specs.Ports.{SubscriberFields}
use Rattle.iox2_domain.specs.Invariant.{one_if_receivers}
use Rattle.iox2_domain.proofs.lemmas.containers.FewerSums.{sum-fewer}
use Rattle.iox2_domain.proofs.lemmas.slots.Recounts.{sum-alike}
use Rattle.iox2_domain.specs.Closes.{is_awaited, if_holding, after_close, LeavesConnections}

-- ---- lists that lose records

-- at most one record passes the test, still
pub only-fewer : {A : Type 0} (test : A → Bool) (xs ys : List (Option A))
    → ((k : ℕ) (y : A) → get_or ys k None ≡ Some y → (x : A) × (get_or xs k None ≡ Some x) × (test x ≡ test y))
    → IsOnly test xs → IsOnly test ys
only-fewer test xs ys before only = record {
  one = λ i j x y at_x at_y is_x is_y.
      let x' = before i x at_x in
      let y' = before j y at_y in
      only.one i j x'.0 y'.0 x'.1 y'.1 (x'.2 ∙ is_x) (y'.2 ∙ is_y);
}

-- ---- the connections

-- something is in a mailbox where some slot waits in its connection or is borrowed
pub numbers-held : (number : ℕ → ℕ) (d : Link) → has_numbers (mailbox_of number d) ≡ holds_slots d
numbers-held number d = by d.others d.waiting d.borrowed where
  by : (os : List ChannelNumber) (ws bs : List ℕ)
      → has_numbers (record { waiting = map number ws; borrowed = map number bs; others = numbered number os })
      ≡ holds_slots (record d { waiting = ws; borrowed = bs; others = os })
  by [] [] [] = refl
  by [] [] (n ∷ ns) = refl
  by [] (n ∷ ns) bs = refl
  by (m ∷ ms) ws bs = refl

module _ (p : ℕ) (subscribers : List (Option SubscriberFields)) (old new : Slab Link)
    (left : LeavesConnections p subscribers old new) where
  -- the connection as the publisher leaves it
  abbrev pub left_at : (key : ℕ) → Link → Link
  left_at key c = left_link (is_awaited subscribers key c) c

  -- what is left at a key at which a connection stood
  left-is : (key : ℕ) (c : Link) → get old key ≡ Some c → get new key ≡ after_close p subscribers key c
  left-is key c at = left.at key ∙ ap (option_and_then (after_close p subscribers key)) at

  -- a connection of another publisher stays as it is
  pub left-others : (key : ℕ) (c : Link) → get old key ≡ Some c → c.home.publisher ≢ p → get new key ≡ Some c
  left-others key c at away =
      left-is key c at ∙ ap (λ t. cond t (if_holding (left_at key c)) (Some c)) (ne_eqb c.home.publisher p away)

  own : (key : ℕ) (c : Link) → get old key ≡ Some c → c.home.publisher ≡ p → get new key ≡ if_holding (left_at key c)
  own key c at mine =
      left-is key c at ∙ ap (λ t. cond t (if_holding (left_at key c)) (Some c)) (eq-eqb c.home.publisher p mine)

  -- a connection of the publisher stays where some slot waits or is borrowed
  pub left-held : (key : ℕ) (c : Link) → get old key ≡ Some c → c.home.publisher ≡ p
      → holds_slots (left_at key c) ≡ true → get new key ≡ Some (left_at key c)
  left-held key c at mine held = own key c at mine ∙ ap (λ t. cond t (Some (left_at key c)) None) held

  -- and else it goes
  pub left-unheld : (key : ℕ) (c : Link) → get old key ≡ Some c → c.home.publisher ≡ p
      → holds_slots (left_at key c) ≡ false → get new key ≡ None
  left-unheld key c at mine unheld = own key c at mine ∙ ap (λ t. cond t (Some (left_at key c)) None) unheld

  -- a connection that is left was another publisher's, or is what the publisher left of one of its own
  abbrev pub IsLeftOf : (key : ℕ) → Link → Link → Type 0
  IsLeftOf key c d =
      ((c.home.publisher ≢ p) × (d ≡ c)) ⊎ ((c.home.publisher ≡ p) × (d ≡ left_at key c) × (holds_slots d ≡ true))

  pub left-was : (key : ℕ) (d : Link) → get new key ≡ Some d → (c : Link) × (get old key ≡ Some c) × IsLeftOf key c d
  left-was key d at_d = by (get old key) refl where
    held : (c : Link) (b : Bool) → holds_slots (left_at key c) ≡ b → cond b (Some (left_at key c)) None ≡ Some d
        → (d ≡ left_at key c) × (holds_slots d ≡ true)
    held c true h e = let is : d ≡ left_at key c = cc in (is, ap holds_slots is ∙ h)
    held c false h e = absurd cc

    by : (o : Option Link) → get old key ≡ o → (c : Link) × (get old key ≡ Some c) × IsLeftOf key c d
    by None e = absurd (let no : None ≡ Some d = sym
        (left.at key ∙ ap (option_and_then (after_close p subscribers key)) e) ∙ at_d in cc)
    by (Some c) e = elim (cases_eq c.home.publisher p) [
      | inl mine ↦ let kept = held c (holds_slots (left_at key c)) refl (sym (own key c e mine) ∙ at_d) in
          (c, e, inr (mine, kept.0, kept.1))
      | inr away ↦ (c, e, inl (away, let is : Some c ≡ Some d = sym (left-others key c e away) ∙ at_d in cc))
    ]

  -- it stands where it stood
  pub left-before : (key : ℕ) (d : Link) → get new key ≡ Some d
      → (c : Link) × (get old key ≡ Some c) × (fixed_of c ≡ fixed_of d)
  left-before key d at_d = let was = left-was key d at_d in
      (was.0, was.1, elim was.2 [ inl other ↦ ap fixed_of (sym other.1) | inr mine ↦ sym (ap fixed_of mine.1) ])

  -- with the same channel
  pub left-had : (key : ℕ) (d : Link) → get new key ≡ Some d → HasLink old d
  left-had key d at_d =
      let was = left-before key d at_d in
      record {
        key = key;
        link = was.0;
        stands = was.1;
        home = ap (λ (t : Home × ℕ × ℕ × Bool × List Channel). t.0) was.2;
        channels = ap (λ (t : Home × ℕ × ℕ × Bool × List Channel). t.4) was.2;
      }

  -- other publishers' connections keep their channels
  pub left-channels : ChannelsFollow (λ home. home.publisher ≡ p) (λ _ _. Unit {0}) old new
  left-channels = record {
    kept = λ key d at. inl (left-had key d at);
    lost = λ key c at. elim (cases_eq c.home.publisher p) [
      | inl mine ↦ inr (mine, tt)
      | inr away ↦
          inl (record { key = key; link = c; stands = left-others key c at away; home = refl; channels = refl })
    ];
  }

  -- no two connections stand between the same ports
  pub left-apart : IsApart old → IsApart new
  left-apart apart = record {
    one = λ r q. only-fewer (is_between r q) old.slots new.slots
        (λ key d at. let was = left-before key d at in (
          was.0,
          was.1,
          ap (λ (t : Home × ℕ × ℕ × Bool × List Channel). eqb t.0.publisher r && eqb t.0.subscriber q)
              was.2,
        )) (apart.one r q);
  }

  -- nothing is left where nothing stood
  left-none : (key : ℕ) → get old key ≡ None → get new key ≡ None
  left-none key none = left.at key ∙ ap (option_and_then (after_close p subscribers key)) none

  -- a slot of another publisher stands as often as before
  pub left-sums : (r slot : ℕ) → r ≢ p → sum_by (stands r slot) new.slots ≡ sum_by (stands r slot) old.slots
  left-sums r slot away = sum-alike (stands r slot) refl new.slots old.slots (λ key. by key (get old key) refl) where
    other : (o : Option Link) → ((d : Link) → o ≡ Some d → d.home.publisher ≡ p) → stands r slot o ≡ 0
    other None its = refl
    other (Some d) its =
        ap (λ t. cond {A = ℕ} t (stands_in slot d) 0) (ne_eqb d.home.publisher r (λ same. away (sym same ∙ its d refl)))

    by : (key : ℕ) (o : Option Link) → get old key ≡ o → stands r slot (get new key) ≡ stands r slot (get old key)
    by key None e = ap (stands r slot) (left-none key e ∙ sym e)
    by key (Some c) e = elim (cases_eq c.home.publisher p) [
      | inl mine ↦
          other (get new key) (λ d at. let was = left-before key d at in
          let is : Some was.0 ≡ Some c = sym was.1 ∙ e in
          let same : was.0 ≡ c = cc in
          sym (ap (λ (t : Home × ℕ × ℕ × Bool × List Channel). t.0.publisher) was.2)
          ∙ ap (λ (b : Link). b.home.publisher) same ∙ mine)
          ∙ sym (other (get old key) (λ d at. let is : Some d ≡ Some c = sym at ∙ e in let same : d ≡ c = cc in
          ap (λ (b : Link). b.home.publisher) same ∙ mine))
      | inr differs ↦ ap (stands r slot) (left-others key c e differs ∙ sym e)
    ]

  -- a slot of its own stands no more often
  pub left-sum_own : (slot : ℕ) → sum_by (stands p slot) new.slots ≤ sum_by (stands p slot) old.slots
  left-sum_own slot = sum-fewer (stands p slot) refl old.slots new.slots (λ key. by key (get new key) refl) where
    part : (c : Link) (awaited : Bool) → stands_in slot (left_link awaited c) ≤ stands_in slot c
    part c true = omega arith
    part c false = omega arith

    by : (key : ℕ) (o : Option Link) → get new key ≡ o → stands p slot (get new key) ≤ stands p slot (get old key)
    by key None e = rw e (omega arith)
    by key (Some d) e =
        let was = left-was key d e in
        elim was.2 [
          | inl other ↦
              let same : stands p slot (get new key) ≡ stands p slot (get old key) =
              ap (stands p slot) (e ∙ ap Some other.1 ∙ sym was.1) in
              omega (arith, same)
          | inr mine ↦
              let now : stands p slot (get new key) ≡ stands_in slot (left_at key was.0) =
              ap (stands p slot) (e ∙ ap Some mine.1) ∙ stands-own p slot (left_at key was.0) mine.0 in
              let then : stands p slot (get old key) ≡ stands_in slot was.0 =
              ap (stands p slot) was.1 ∙ stands-own p slot was.0 mine.0 in
              omega (arith, now, then, part was.0 (is_awaited subscribers key was.0))
        ]

  -- a connection that is there is its subscriber's still
  pub left-receivers : (q key : ℕ) (d : Link) → get new key ≡ Some d
      → one_if_receivers q (Some d) ≡ one_if_receivers q (get old key)
  left-receivers q key d e =
      let was = left-before key d e in
      ap (λ (t : Home × ℕ × ℕ × Bool × List Channel). one_if_receivers q (Some (record d { home = t.0 }))) (sym was.2)
      ∙ sym (ap (one_if_receivers q) was.1)

  -- ---- the mailboxes

  module _ (apart : IsApart old) (number : ℕ → ℕ → ℕ) where
    -- those of another publisher stay
    pub left-boxes_others : (r q : ℕ) → r ≢ p → mailboxes_of number new r q ≡ mailboxes_of number old r q
    left-boxes_others r q away = ap (mailbox_if_any (number r)) (by (look_up (is_between r q) old.slots) refl) where
      by : (o : Option Link) → look_up (is_between r q) old.slots ≡ o → look_up (is_between r q) new.slots ≡ o
      by None e = look_up-nothing (is_between r q) new.slots (λ key d at.
          let was = left-before key d at in
          ap (λ (t : Home × ℕ × ℕ × Bool × List Channel). eqb t.0.publisher r && eqb t.0.subscriber q) (sym was.2)
          ∙ look_up-none (is_between r q) old.slots e key was.0 was.1)
      by (Some c) e =
          let found = look_up-there (is_between r q) old.slots c e in
          look_up-found (is_between r q) new.slots found.0 c ((left-apart apart).one r q)
          (left-others found.0 c found.1
          (λ mine. away (sym (eqb-true c.home.publisher r (both-true _ _ found.2).0) ∙ mine))) found.2

    -- where no connection stood there is none
    pub left-boxes_none : (q : ℕ) → look_up (is_between p q) old.slots ≡ None
        → mailboxes_of number new p q ≡ empty_mailbox
    left-boxes_none q none = ap (mailbox_if_any (number p)) (look_up-nothing (is_between p q) new.slots (λ key d at.
        let was = left-before key d at in
        ap (λ (t : Home × ℕ × ℕ × Bool × List Channel). eqb t.0.publisher p && eqb t.0.subscriber q) (sym was.2)
        ∙ look_up-none (is_between p q) old.slots none key was.0 was.1))

    -- one that the publisher left has what waits for somebody, and what is borrowed
    pub left-boxes : (key : ℕ) (c : Link) → get old key ≡ Some c → c.home.publisher ≡ p
        → mailboxes_of number new p c.home.subscriber ≡ mailbox_of (number p) (left_at key c)
    left-boxes key c at mine = by (holds_slots (left_at key c)) refl where
      drained : (os : List ChannelNumber) (w b : List ℕ)
          → holds_slots (record c { waiting = w; borrowed = b; others = os }) ≡ false
          → mailbox_of (number p) (record c { waiting = w; borrowed = b; returned = []; others = os }) ≡ empty_mailbox
      drained [] [] [] e = refl
      drained [] [] (n ∷ ns) e = absurd cc
      drained [] (n ∷ ns) b e = absurd cc
      drained (m ∷ ms) w b e = absurd cc

      gone : get new key ≡ None → look_up (is_between p c.home.subscriber) new.slots ≡ None
      gone none = look_up-nothing (is_between p c.home.subscriber) new.slots
          (λ k d at_d. by_test k d at_d (is_between p c.home.subscriber d) refl) where
            by_test : (k : ℕ) (d : Link) → get new k ≡ Some d → (b : Bool) → is_between p c.home.subscriber d ≡ b
                → b ≡ false
            by_test k d at_d false e = refl
            by_test k d at_d true e =
                let was = left-before k d at_d in
                let same : k ≡ key = (apart.one p c.home.subscriber).one k key was.0 c was.1 at
                (ap (λ (t : Home × ℕ × ℕ × Bool × List Channel). eqb t.0.publisher p
                && eqb t.0.subscriber c.home.subscriber) was.2 ∙ e) (is_between-own p c.home.subscriber c mine refl) in
                absurd (let no : None ≡ Some d = sym none ∙ sym (ap (get new) same) ∙ at_d in cc)

      by : (b : Bool) → holds_slots (left_at key c) ≡ b
          → mailboxes_of number new p c.home.subscriber ≡ mailbox_of (number p) (left_at key c)
      by true held = ap (mailbox_if_any (number p))
          (look_up-found (is_between p c.home.subscriber) new.slots key (left_at key c)
          ((left-apart apart).one p c.home.subscriber) (left-held key c at mine held)
          (is_between-own p c.home.subscriber (left_at key c) mine refl))
      by false unheld = ap (mailbox_if_any (number p)) (gone (left-unheld key c at mine unheld))
          ∙ sym (drained (left_at key c).others (left_at key c).waiting c.borrowed unheld)
