-- What is chosen for a departed publisher's connection is what the machine does.
use Rattle.std.proofs.Common.{◌≡◌, ℕ, List, [], ◌∷◌, length, map, Bool, true, false, not, cond, nat_lt, refl, ap, sym}
use Rattle.std.proofs.Common.{◌∙◌, arith}
use Rattle.std.specs.declared.option.Option.{Option}
use Rattle.std.specs.declared.option.Option.TheVariants.{None, Some}
use Rattle.std.specs.Option.{option_map, option_map_or}
use Rattle.slab.specs.Slab.{Slab, get}
use Rattle.iox2_connections.specs.Link.{Link}
use Rattle.iox2_machine.specs.machine.Limits.{expired_limit}
use Rattle.iox2_machine.specs.machine.Mailbox.{Mailbox, has_borrows}
use Rattle.iox2_machine.specs.machine.Numbers.{is_nil, contains}
use Rattle.iox2_machine.specs.machine.Places.{occupants}
use Rattle.iox2_machine.specs.machine.SubscriberUpdate.{Retirement, Keep_expired, Evict, Discard_data, Refuse}
use Rattle.iox2_machine.specs.machine.SubscriberUpdate.{first_without_borrows, evict_or_refuse}
use Rattle.iox2_laws.proofs.NumberLemmas.{contains_first, contains_later}
use Rattle.iox2_connections.specs.Mailboxes.{mailbox_of, publisher_of_key, receiver_ends}
use Rattle.iox2_connections.specs.Retires.{has_borrowed, first_unborrowed, chosen}
use Rattle.iox2_connections.specs.Retires.{evict_link_or_refuse as evict_key_or_refuse}
use Rattle.iox2_connections.specs.declared.retirement.Retirement.{Retirement as Choice}
use Rattle.iox2_connections.specs.declared.retirement.Retirement.TheVariants.{KeepExpired, Evict as EvictKey}
use Rattle.iox2_connections.specs.declared.retirement.Retirement.TheVariants.{DiscardData, Refuse as RefuseIt}
use Rattle.iox2_connections.proofs.MailboxChanges.{mailbox-there}
use Rattle.iox2_domain.specs.Ports.{SubscriberFields}
use Rattle.iox2_domain.specs.Kept.{state_of}
use Rattle.iox2_domain.specs.Fields.{Fields, kept_of, number_in_slot, subscriber_of}
use Rattle.iox2_domain.specs.Invariant.{IsDomain}
use Rattle.iox2_domain.specs.ReceiverSteps.{HasDepartedEnd, machine_retirement}
use Rattle.iox2_domain.proofs.lemmas.fields.Views.{mailboxes-are}
use Rattle.iox2_steps.proofs.receivers.Retirements.{departed}
use Rattle.iox2_steps.proofs.receivers.ExpiredKeys.{expired-link}

-- the publisher of the connection at a key
abbrev pub publisher_at : Slab Link → (key : ℕ) → ℕ
publisher_at connections key = option_map_or (λ (c : Link). c.home.publisher) (get connections key) 0

-- the machine's word for a choice
abbrev pub in_machine : Slab Link → Choice → Retirement
in_machine connections KeepExpired = Keep_expired
in_machine connections (EvictKey key) = Evict (publisher_at connections key)
in_machine connections DiscardData = Discard_data
in_machine connections RefuseIt = Refuse

-- ---- what a choice says

pub chosen-discards : (connections : Slab Link) (limit : ℕ) (expired : List ℕ) (key : ℕ)
    → chosen connections limit expired key ≡ DiscardData → has_borrowed (get connections key) ≡ false
chosen-discards connections limit expired key =
    by (nat_lt (length expired) limit) (has_borrowed (get connections key)) (first_unborrowed connections expired) where
      by : (a b : Bool) (o : Option ℕ) → cond a KeepExpired (cond b (evict_key_or_refuse o) DiscardData) ≡ DiscardData
          → b ≡ false
      by true b o is = absurd cc
      by false true None is = absurd cc
      by false true (Some k) is = absurd cc
      by false false o is = refl

first-there : (connections : Slab Link) (keys : List ℕ) (first : ℕ) → first_unborrowed connections keys ≡ Some first
    → (contains keys first ≡ true) × (has_borrowed (get connections first) ≡ false)
first-there connections [] first is = absurd cc
first-there connections (k ∷ keys) first is =
    by (has_borrowed (get connections k)) refl is (λ later. first-there connections keys first later) where
      by : (b : Bool) → has_borrowed (get connections k) ≡ b
          → cond b (first_unborrowed connections keys) (Some k) ≡ Some first
          → (first_unborrowed connections keys ≡ Some first
          → (contains keys first ≡ true) × (has_borrowed (get connections first) ≡ false))
          → (contains (k ∷ keys) first ≡ true) × (has_borrowed (get connections first) ≡ false)
      by true e is rest = let found = rest is in (contains_later k first keys found.0, found.1)
      by false e is rest = let same : k ≡ first = cc in (
        ap (contains (k ∷ keys)) (sym same) ∙ contains_first k keys,
        ap (λ (n : ℕ). has_borrowed (get connections n)) (sym same) ∙ e,
      )

pub chosen-evicts : (connections : Slab Link) (limit : ℕ) (expired : List ℕ) (key first : ℕ)
    → chosen connections limit expired key ≡ EvictKey first
    → (contains expired first ≡ true) × (has_borrowed (get connections first) ≡ false)
chosen-evicts connections limit expired key first = by (nat_lt (length expired) limit)
    (has_borrowed (get connections key)) (first_unborrowed connections expired) refl where
      by : (a b : Bool) (o : Option ℕ) → first_unborrowed connections expired ≡ o
          → cond a KeepExpired (cond b (evict_key_or_refuse o) DiscardData) ≡ EvictKey first
          → (contains expired first ≡ true) × (has_borrowed (get connections first) ≡ false)
      by true b o e is = absurd cc
      by false true None e is = absurd cc
      by false true (Some k) e is = let same : k ≡ first = cc in
          first-there connections expired first (e ∙ ap Some same)
      by false false o e is = absurd cc

-- nothing is borrowed of a connection
pub none-borrowed : (connections : Slab Link) (key : ℕ) (c : Link) → get connections key ≡ Some c
    → has_borrowed (get connections key) ≡ false → c.borrowed ≡ []
none-borrowed connections key c at none = by c.borrowed (sym (ap has_borrowed at) ∙ none) where
  by : (xs : List ℕ) → not (is_nil xs) ≡ false → xs ≡ []
  by [] e = refl
  by (x ∷ xs) e = absurd cc

-- ---- the machine's

some-borrowed : (number : ℕ → ℕ) (c : Link) → has_borrows (mailbox_of number c) ≡ not (is_nil c.borrowed)
some-borrowed number c = by c.borrowed where
  by : (xs : List ℕ) → not (is_nil (map number xs)) ≡ not (is_nil xs)
  by [] = refl
  by (x ∷ xs) = refl

module _ {T U : Type 0} (f : Fields T U) (sound : IsDomain f) (j i : ℕ) (y : SubscriberFields) (key : ℕ) (c : Link)
    (end : HasDepartedEnd f j i y key c) where
  abbrev boxes : ℕ → Mailbox
  boxes = λ r. (state_of (kept_of f)).mailboxes r y.id

  -- what is borrowed of a connection
  pub borrows-are : (k : ℕ) (d : Link) → get f.connections k ≡ Some d → d.home.subscriber ≡ y.id
      → has_borrows ((state_of (kept_of f)).mailboxes d.home.publisher y.id) ≡ has_borrowed (get f.connections k)
  borrows-are k d at its =
      ap has_borrows (mailboxes-are f d.home.publisher y.id ∙ mailbox-there
      (number_in_slot f.books) f.connections k d.home.publisher y.id d sound.parts.apart at refl its)
      ∙ some-borrowed (number_in_slot f.books d.home.publisher) d ∙ sym (ap has_borrowed at)

  abbrev Each : List ℕ → Type 0
  Each keys =
      (k : ℕ) → contains keys k ≡ true → (d : Link) × (get f.connections k ≡ Some d) × (d.home.subscriber ≡ y.id)

  as-many : (keys : List ℕ) → Each keys → length (occupants (receiver_ends f.connections (map Some keys))) ≡ length keys
  as-many [] each = refl
  as-many (k ∷ keys) each =
      let d = each k (contains_first k keys) in
      let leads : publisher_of_key f.connections (Some k) ≡ Some d.0.home.publisher =
      ap (option_map (λ (l : Link). l.home.publisher)) d.1 in
      let rest = as-many keys (λ n has. each n (contains_later k n keys has)) in
      rw leads (omega (arith, rest))

  first-is : (keys : List ℕ) → Each keys → first_without_borrows boxes
      (occupants (receiver_ends f.connections (map Some keys))) ≡ option_map (publisher_at f.connections)
      (first_unborrowed f.connections keys)
  first-is [] each = refl
  first-is (k ∷ keys) each =
      let d = each k (contains_first k keys) in
      let leads : publisher_of_key f.connections (Some k) ≡ Some d.0.home.publisher =
      ap (option_map (λ (l : Link). l.home.publisher)) d.1 in
      by d.0.home.publisher leads (ap (λ o. option_map_or (λ (l : Link). l.home.publisher) o 0) d.1)
      (borrows-are k d.0 d.1 d.2) (has_borrowed (get f.connections k)) refl
      (first-is keys (λ n has. each n (contains_later k n keys has)))
    where
      by : (r : ℕ) → publisher_of_key f.connections (Some k) ≡ Some r → publisher_at f.connections k ≡ r
          → has_borrows (boxes r) ≡ has_borrowed (get f.connections k)
          → (b : Bool) → has_borrowed (get f.connections k) ≡ b
          → first_without_borrows boxes (occupants (receiver_ends f.connections (map Some keys))) ≡ option_map
          (publisher_at f.connections) (first_unborrowed f.connections keys)
          → first_without_borrows boxes (occupants (receiver_ends f.connections (map Some (k ∷ keys)))) ≡ option_map
          (publisher_at f.connections) (first_unborrowed f.connections (k ∷ keys))
      by r leads is same true e rest =
          ap (λ o. first_without_borrows boxes (occupants (o ∷ receiver_ends f.connections (map Some keys)))) leads
          ∙ ap (λ t. cond t (first_without_borrows boxes (occupants (receiver_ends f.connections (map Some keys))))
          (Some r)) (same ∙ e)
          ∙ rest
          ∙ sym (ap
          (λ t. option_map (publisher_at f.connections) (cond t (first_unborrowed f.connections keys) (Some k))) e)
      by r leads is same false e rest =
          ap (λ o. first_without_borrows boxes (occupants (o ∷ receiver_ends f.connections (map Some keys)))) leads
          ∙ ap (λ t. cond t (first_without_borrows boxes (occupants (receiver_ends f.connections (map Some keys))))
          (Some r)) (same ∙ e)
          ∙ ap Some (sym is)
          ∙ sym (ap
          (λ t. option_map (publisher_at f.connections) (cond t (first_unborrowed f.connections keys) (Some k))) e)

  its-expired : Each y.expired
  its-expired k has = let d = expired-link f sound j i y key c end k has in (d.0, d.1, d.2.subscriber)

  -- the machine keeps as many expired publishers
  pub length-expired : length (subscriber_of f.books f.connections y).port.expired ≡ length y.expired
  length-expired = as-many y.expired its-expired

  -- the machine does what was chosen
  pub chosen-is : machine_retirement f y c.home.publisher ≡ in_machine f.connections
      (chosen f.connections (expired_limit f.config) y.expired key)
  chosen-is =
      (λ k. cond (nat_lt (as-many y.expired its-expired k) (expired_limit f.config)) Keep_expired
      (cond (borrows-are key c end.link (departed f sound j i y key c end).subscriber k)
      (evict_or_refuse (first-is y.expired its-expired k)) Discard_data))
      ∙ by (nat_lt (length y.expired) (expired_limit f.config)) (has_borrowed (get f.connections key))
      (first_unborrowed f.connections y.expired)
    where
      by : (a b : Bool) (o : Option ℕ) → cond a Keep_expired
          (cond b (evict_or_refuse (option_map (publisher_at f.connections) o)) Discard_data) ≡ in_machine f.connections
          (cond a KeepExpired (cond b (evict_key_or_refuse o) DiscardData))
      by true b o = refl
      by false true None = refl
      by false true (Some k) = refl
      by false false o = refl
