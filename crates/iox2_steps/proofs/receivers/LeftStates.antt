-- The machine's state where a subscriber's ends to departed publishers left their places.
use Rattle.std.proofs.Common.{◌≡◌, ℕ, List, [], ◌∷◌, ◌++◌, map, Bool, true, false, eqb, get_or, slice_set, refl, ap}
use Rattle.std.proofs.Common.{sym, ◌∙◌, inl, inr}
use Rattle.std.proofs.lemmas.Bool.{cases_eq, eq-eqb, ne_eqb}
use Rattle.std.specs.declared.option.Option.{Option}
use Rattle.std.specs.declared.option.Option.TheVariants.{None, Some}
use Rattle.slab.specs.Slab.{Slab, get}
use Rattle.iox2_connections.specs.Link.{Link}
use Rattle.iox2_machine.specs.machine.Numbers.{put_at, contains, without}
use Rattle.iox2_machine.specs.machine.Places.{occupants}
use Rattle.iox2_machine.specs.machine.Records.{Subscriber}
use Rattle.iox2_laws.proofs.NumberLemmas.{contains_first, contains_later}
use Rattle.iox2_connections.specs.Mailboxes.{receiver_ends}
use Rattle.iox2_connections.proofs.MailboxChanges.{is_between-own}
use Rattle.iox2_domain.specs.Midway.{with_channels_of}
use Rattle.iox2_domain.proofs.lemmas.fields.KeptChannels.{channels-are, whole-state}
use Rattle.iox2_domain.specs.Ports.{SubscriberFields}
use Rattle.iox2_domain.specs.Kept.{state_of}
use Rattle.iox2_domain.specs.Invariant.{HasParts}
use Rattle.iox2_domain.specs.Fields.{Fields, kept_of, subscriber_of}
use Rattle.iox2_domain.proofs.lemmas.containers.ChangedRecords.{changed-here}
use Rattle.iox2_domain.proofs.lemmas.fields.ForgetfulSubscribers.{forgets-is}
use Rattle.iox2_domain.proofs.lemmas.fields.ForgottenStates.{ends-same, expired-same}
use Rattle.iox2_steps.proofs.receivers.LeftEnds.{LeavesReceiver, left_subscriber, left_fields, leaves}

-- ---- whom the expired keys lead to

-- one key more
pub occupants-pushed : (lead : Option ℕ → Option ℕ) (keys : List ℕ) (key p : ℕ) → lead (Some key) ≡ Some p
    → occupants (map lead (map Some (keys ++ key ∷ []))) ≡ occupants (map lead (map Some keys)) ++ p ∷ []
occupants-pushed lead [] key p leads = ap (λ o. occupants (o ∷ [])) leads
occupants-pushed lead (k ∷ keys) key p leads = by (lead (Some k)) (occupants-pushed lead keys key p leads) where
  by : (o : Option ℕ)
      → occupants (map lead (map Some (keys ++ key ∷ []))) ≡ occupants (map lead (map Some keys)) ++ p ∷ []
      → occupants (o ∷ map lead (map Some (keys ++ key ∷ []))) ≡ occupants (o ∷ map lead (map Some keys)) ++ p ∷ []
  by None rest = rest
  by (Some r) rest = ap (λ ns. r ∷ ns) rest

-- one key less, where no other leads to the same
pub occupants-without : (lead : Option ℕ → Option ℕ) (keys : List ℕ) (key p : ℕ)
    → ((k : ℕ) → contains keys k ≡ true → (r : ℕ) × (lead (Some k) ≡ Some r) × (eqb r p ≡ eqb k key))
    → occupants (map lead (map Some (without key keys))) ≡ without p (occupants (map lead (map Some keys)))
occupants-without lead [] key p each = refl
occupants-without lead (k ∷ keys) key p each =
    let here = each k (contains_first k keys) in
    let rest = occupants-without lead keys key p (λ n has. each n (contains_later k n keys has)) in
    by (eqb k key) refl here.0 here.1 here.2 rest
  where
    by : (b : Bool) → eqb k key ≡ b → (r : ℕ) → lead (Some k) ≡ Some r → eqb r p ≡ eqb k key
        → occupants (map lead (map Some (without key keys))) ≡ without p (occupants (map lead (map Some keys)))
        → occupants (map lead (map Some (without key (k ∷ keys)))) ≡ without p
        (occupants (map lead (map Some (k ∷ keys))))
    by true same r leads alike rest = rw (same, leads) (let gone : eqb r p ≡ true = alike ∙ same in rw gone rest)
    by false away r leads alike rest =
        rw (away, leads) (let stays : eqb r p ≡ false = alike ∙ away in rw stays (ap (λ ns. r ∷ ns) rest))

module _ {T U : Type 0} (f : Fields T U) (parts : HasParts f) (j : ℕ) (y : SubscriberFields)
    (at : get_or f.subscribers j None ≡ Some y)
    (keys : List (Option ℕ)) (expired : List ℕ) (is_due : Bool) (connections : Slab Link)
    (fits : LeavesReceiver f y keys expired connections) where
  abbrev left : SubscriberFields
  left = left_subscriber f parts j y at keys expired is_due connections fits

  abbrev subscribers : List (Option SubscriberFields)
  subscribers = slice_set f.subscribers j (Some left)

  stands : get_or subscribers j None ≡ Some left
  stands = changed-here f.subscribers j y left at

  -- the keys that are left lead where they led
  pub ends-left : receiver_ends connections keys ≡ receiver_ends f.connections keys
  ends-left = ends-same f parts f.publishers subscribers connections
      (leaves f parts j y at keys expired is_due connections fits) j left stands

  pub expired-left : receiver_ends connections (map Some expired) ≡ receiver_ends f.connections (map Some expired)
  expired-left = expired-same f parts f.publishers subscribers connections
      (leaves f parts j y at keys expired is_due connections fits) j left stands

  -- the machine's subscriber afterwards
  abbrev pub left_port : Subscriber
  left_port = record (subscriber_of f.books f.connections y).port {
    ends = receiver_ends f.connections keys;
    expired = occupants (receiver_ends f.connections (map Some expired));
    is_due = is_due;
  }

  -- the machine sees the subscriber's ends and its expired publishers alone
  pub left-is : state_of (kept_of (left_fields f parts j y at keys expired is_due connections fits))
      ≡ with_channels_of (left_fields f parts j y at keys expired is_due connections fits)
      (record (state_of (kept_of f)) { subscribers = put_at (state_of (kept_of f)).subscribers y.id (Some left_port) })
  left-is = forgets-is f parts j y at left refl connections (leaves f parts j y at keys expired is_due connections fits)

-- where no connection goes, nothing else changes
pub left-still : {T U : Type 0} (f : Fields T U) (parts : HasParts f) (j : ℕ) (y : SubscriberFields)
    (at : get_or f.subscribers j None ≡ Some y) (keys : List (Option ℕ)) (expired : List ℕ) (is_due : Bool)
    (fits : LeavesReceiver f y keys expired f.connections)
    → state_of (kept_of (left_fields f parts j y at keys expired is_due f.connections fits))
    ≡ record (state_of (kept_of f)) {
      subscribers = put_at (state_of (kept_of f)).subscribers y.id
          (Some (left_port f parts j y at keys expired is_due f.connections fits));
    }
left-still f parts j y at keys expired is_due fits =
    whole-state (left_fields f parts j y at keys expired is_due f.connections fits)
    (record (state_of (kept_of f)) {
      subscribers = put_at (state_of (kept_of f)).subscribers y.id
          (Some (left_port f parts j y at keys expired is_due f.connections fits));
    })
    (channels-are (left_fields f parts j y at keys expired is_due f.connections fits) ∙ sym (channels-are f))
    (left-is f parts j y at keys expired is_due f.connections fits)

-- two connections of a subscriber with the same publisher are one
pub same-lead : {T U : Type 0} (f : Fields T U) (parts : HasParts f) (q k key : ℕ) (d c : Link)
    → get f.connections k ≡ Some d → get f.connections key ≡ Some c
    → d.home.subscriber ≡ q → c.home.subscriber ≡ q → eqb d.home.publisher c.home.publisher ≡ eqb k key
same-lead f parts q k key d c at_d at_c mine yours = elim (cases_eq k key) [
  | inl here ↦
      let both : Some d ≡ Some c = sym at_d ∙ ap (get f.connections) here ∙ at_c in
      let is : d ≡ c = cc in
      eq-eqb d.home.publisher c.home.publisher (ap (λ (e : Link). e.home.publisher) is) ∙ sym (eq-eqb k key here)
  | inr away ↦
      ne_eqb d.home.publisher c.home.publisher
      (λ same. away ((parts.apart.one c.home.publisher q).one k key d c at_d at_c
      (is_between-own c.home.publisher q d same mine) (is_between-own c.home.publisher q c refl yours)))
      ∙ sym (ne_eqb k key away)
]
