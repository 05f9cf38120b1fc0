-- A connection in which no slot stands, and how many connections a slot stands in.
use Rattle.std.proofs.Common.{◌≡◌, ◌≢◌, ℕ, Bool, zero, suc, ◌+◌, ◌<◌, ◌≤◌, List, [], ◌∷◌, length, get_or, set, refl, ap}
use Rattle.std.proofs.Common.{sym, ◌∙◌, arith, inl, inr}
use Rattle.std.proofs.lemmas.Bool.{cases_lt, cases_eq}
use Rattle.std.proofs.lemmas.List.{length-map, get_or-set_same, get_or-set_other, get_or_past}
use Rattle.std.proofs.lemmas.List.Sums.{sum_by-cons, sum_by-set}
use Rattle.std.specs.List.{sum_by}
use Rattle.std.specs.declared.option.Option.{Option}
use Rattle.std.specs.declared.option.Option.TheVariants.{None, Some}
use Rattle.std.specs.Option.{option_map, option_map_or}
use Rattle.slab.specs.Slab.{Slab, get}
use Rattle.iox2_connections.specs.Link.{Link, load}
use Rattle.iox2_machine.specs.machine.Channel.{Channel}
use Rattle.iox2_connections.specs.declared.connection.Home.{Home}
use Rattle.iox2_machine.specs.machine.Mailbox.{Mailbox, ChannelNumber}
use Rattle.iox2_connections.specs.Homes.{IsApart, fixed_of}
use Rattle.iox2_connections.specs.Mailboxes.{mailbox_of}
use Rattle.iox2_connections.specs.Reclaims.{Reclaims}
use Rattle.iox2_connections.specs.Recounts.{returned_count}
use Rattle.iox2_connections.proofs.MailboxChanges.{IsApart-same, mailbox-there}

nothing : {A : Type 0} (xs : List A) → length xs ≡ 0 → xs ≡ []
nothing [] e = refl
nothing (x ∷ xs) e = absurd (omega arith)

-- two connections in which no slot stands, at one place and with the same limits
alike : (c d : Link) → fixed_of d ≡ fixed_of c → load c ≡ 0 → load d ≡ 0 → d ≡ c
alike c d fixed none_c none_d = λ t. record {
  home = (fixed t).0;
  buffer = (fixed t).1;
  limit = (fixed t).2;
  is_open = (fixed t).3;
  channels = (fixed t).4;
  waiting = (nothing d.waiting (omega (arith, none_d)) ∙ sym (nothing c.waiting (omega (arith, none_c)))) t;
  borrowed = (nothing d.borrowed (omega (arith, none_d)) ∙ sym (nothing c.borrowed (omega (arith, none_c)))) t;
  returned = (nothing d.returned (omega (arith, none_d)) ∙ sym (nothing c.returned (omega (arith, none_c)))) t;
  others = (nothing d.others (omega (arith, none_d)) ∙ sym (nothing c.others (omega (arith, none_c)))) t;
}

-- a connection in which no slot stands is the same where its publisher reclaimed slots
pub still-empty : (p : ℕ) (holders holders' : List ℕ) (old new : Slab Link) → IsApart old
    → Reclaims p holders old holders' new → (key : ℕ) (c : Link) → get old key ≡ Some c → load c ≡ 0
    → get new key ≡ Some c
still-empty p holders holders' old new apart r key c at none =
    by (get new key) refl (r.recounts.homes.same key ∙ ap (option_map fixed_of) at) where
      same-number : ChannelNumber → ChannelNumber
      same-number m = record m { number = m.number }

      by : (o : Option Link) → get new key ≡ o → option_map fixed_of (get new key) ≡ Some (fixed_of c)
          → get new key ≡ Some c
      by None e same = absurd (let no : None ≡ Some (fixed_of c) = sym (ap (option_map fixed_of) e) ∙ same in cc)
      by (Some d) e same =
          let both : Some (fixed_of d) ≡ Some (fixed_of c) = sym (ap (option_map fixed_of) e) ∙ same in
          let fixed : fixed_of d ≡ fixed_of c = cc in
          let home : d.home ≡ c.home = ap (λ (t : Home × ℕ × ℕ × Bool × List Channel). t.0) fixed in
          let there : mailbox_of (λ s. s) d ≡ mailbox_of (λ s. s) c =
          sym (mailbox-there (λ q s. s) new key c.home.publisher c.home.subscriber d
          (IsApart-same old new apart r.recounts.homes) e (ap (λ (h : Home). h.publisher) home)
          (ap (λ (h : Home). h.subscriber) home))
          ∙ ap (λ (boxes : ℕ → ℕ → Mailbox). boxes c.home.publisher c.home.subscriber) (r.mailboxes (λ q s. s))
          ∙ mailbox-there (λ q s. s) old key c.home.publisher c.home.subscriber c apart at refl refl in
          let waits : length d.waiting ≡ length c.waiting = sym (length-map d.waiting (λ s. s))
          ∙ ap (λ (box : Mailbox). length box.waiting) there ∙ length-map c.waiting (λ s. s) in
          let lent : length d.borrowed ≡ length c.borrowed = sym (length-map d.borrowed (λ s. s))
          ∙ ap (λ (box : Mailbox). length box.borrowed) there ∙ length-map c.borrowed (λ s. s) in
          let elsewhere : length d.others ≡ length c.others = sym (length-map d.others same-number)
          ∙ ap (λ (box : Mailbox). length box.others) there ∙ length-map c.others same-number in
          let now : returned_count new key ≡ length d.returned =
          ap (λ o. option_map_or (λ (x : Link). length x.returned) o 0) e in
          let then : returned_count old key ≡ length c.returned =
          ap (λ o. option_map_or (λ (x : Link). length x.returned) o 0) at in
          e ∙ ap Some
          (alike c d fixed none (omega (arith, none, waits, lent, elsewhere, now, then, r.recounts.fewer key)))

-- ---- sums

module _ {A : Type 0} (f : Option A → ℕ) (none : f None ≡ 0) where
  sum-nothing : (xs : List (Option A)) → ((k : ℕ) → f (get_or xs k None) ≡ 0) → sum_by f xs ≡ 0
  sum-nothing [] zeros = refl
  sum-nothing (x ∷ xs) zeros = omega (arith, sum_by-cons f x xs, zeros zero, sum-nothing xs (λ k. zeros (suc k)))

  no-key : (j k : ℕ) → get_or {A = Option ℕ} [] j None ≡ Some k → ⊥
  no-key zero k e = absurd cc
  no-key (suc j) k e = absurd cc

  -- where each index counts once at most, and those that do are among the keys, they are no more than the keys
  pub sum-keys : (keys : List (Option ℕ)) (xs : List (Option A)) → ((k : ℕ) → f (get_or xs k None) ≤ 1)
      → ((k : ℕ) → 0 < f (get_or xs k None) → (j : ℕ) × (get_or keys j None ≡ Some k)) → sum_by f xs ≤ length keys
  sum-keys [] xs few known =
      let all : sum_by f xs ≡ 0 = sum-nothing xs (λ k. by k (f (get_or xs k None)) refl) in omega (arith, all)
    where
      by : (k n : ℕ) → f (get_or xs k None) ≡ n → n ≡ 0
      by k zero e = refl
      by k (suc n) e = absurd (let there = known k (omega (arith, e)) in no-key there.0 k there.1)
  sum-keys (None ∷ keys) xs few known =
      let rest : sum_by f xs ≤ length keys = sum-keys keys xs few (λ k some. by k (known k some)) in omega arith
    where
      by : (k : ℕ) → (j : ℕ) × (get_or (None ∷ keys) j None ≡ Some k) → (j : ℕ) × (get_or keys j None ≡ Some k)
      by k (zero, e) = absurd cc
      by k (suc j, e) = (j, e)
  sum-keys (Some first ∷ keys) xs few known = elim (cases_lt first (length xs)) [
    | inl low ↦
        let changed : sum_by f (set xs first None) + f (get_or xs first None) ≡ sum_by f xs + f None =
        sum_by-set f xs first None None low in
        let rest : sum_by f (set xs first None) ≤ length keys =
        sum-keys keys (set xs first None) (λ k. few-left low k) (λ k. known-left low k) in
        omega (arith, changed, rest, none, few first)
    | inr past ↦
        let rest : sum_by f xs ≤ length keys =
        sum-keys keys xs few (λ k some. later k (apart past k some) (known k some)) in omega arith
  ]
    where
      later : (k : ℕ) → k ≢ first → (j : ℕ) × (get_or (Some first ∷ keys) j None ≡ Some k)
          → (j : ℕ) × (get_or keys j None ≡ Some k)
      later k away (zero, e) = absurd (away (let is : Some first ≡ Some k = e in cc))
      later k away (suc j, e) = (j, e)

      apart : length xs ≤ first → (k : ℕ) → 0 < f (get_or xs k None) → k ≢ first
      apart past k some same = let zero_there : f (get_or xs k None) ≡ 0 = ap (λ (n : ℕ). f (get_or xs n None)) same
          ∙ ap f (get_or_past xs first None past) ∙ none in absurd (omega (arith, some, zero_there))

      few-left : first < length xs → (k : ℕ) → f (get_or (set xs first None) k None) ≤ 1
      few-left low k = elim (cases_eq k first) [
        | inl same ↦ let now : f (get_or (set xs first None) k None) ≡ 0 =
            ap (λ (n : ℕ). f (get_or (set xs first None) n None)) same ∙ ap f (get_or-set_same xs first None None low)
            ∙ none in omega (arith, now)
        | inr away ↦ let now : f (get_or (set xs first None) k None) ≡ f (get_or xs k None) =
            ap f (get_or-set_other xs first k None None away) in omega (arith, now, few k)
      ]

      known-left : first < length xs → (k : ℕ) → 0 < f (get_or (set xs first None) k None)
          → (j : ℕ) × (get_or keys j None ≡ Some k)
      known-left low k some = elim (cases_eq k first) [
        | inl same ↦ absurd (let now : f (get_or (set xs first None) k None) ≡ 0 = ap
            (λ (n : ℕ). f (get_or (set xs first None) n None)) same ∙ ap f (get_or-set_same xs first None None low)
            ∙ none in omega (arith, now, some))
        | inr away ↦ let now : f (get_or (set xs first None) k None) ≡ f (get_or xs k None) =
            ap f (get_or-set_other xs first k None None away) in later k away (known k (omega (arith, now, some)))
      ]
