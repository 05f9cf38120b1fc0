-- A publisher loses its end of a connection that nobody else has, and in which no slot stands.
use Rattle.std.proofs.Common.{◌≡◌, ◌≢◌, ℕ, List, get_or, slice_set, refl, ap, sym, subst, ◌∙◌, inl, inr}
use Rattle.std.proofs.lemmas.Bool.{cases_eq}
use Rattle.std.proofs.lemmas.Option.{none-some}
use Rattle.std.specs.declared.option.Option.{Option}
use Rattle.std.specs.declared.option.Option.TheVariants.{None, Some}
use Rattle.slab.specs.Slab.{Slab, Updates, get}
use Rattle.iox2_connections.specs.Link.{Link, load}
use Rattle.iox2_machine.specs.machine.Numbers.{put_at}
use Rattle.iox2_machine.specs.machine.Places.{set_place}
use Rattle.iox2_machine.specs.machine.Records.{Publisher}
use Rattle.iox2_machine.specs.machine.State.{State}
use Rattle.iox2_machine.specs.machine.WellFormed.{IsWellFormed}
use Rattle.iox2_connections.specs.Homes.{IsSenders}
use Rattle.iox2_connections.specs.Mailboxes.{subscriber_of_key, sender_ends}
use Rattle.iox2_laws.proofs.Puts.{found_put}
use Rattle.iox2_domain.specs.KeptLinks.{ChannelsFollow}
use Rattle.iox2_domain.specs.Midway.{with_channels_of}
use Rattle.iox2_steps.proofs.updates.FollowedChannels.{follow-fewer}
use Rattle.iox2_domain.specs.Ports.{PublisherFields}
use Rattle.iox2_domain.specs.Kept.{state_of}
use Rattle.iox2_domain.specs.Fields.{Fields, kept_of, publisher_of, number_in_slot, blocked_send}
use Rattle.iox2_domain.specs.Invariant.{IsDomain, SenderHas, ReceiverHas}
use Rattle.iox2_domain.proofs.lemmas.containers.ChangedRecords.{changed-here, changed-stood, changed-still}
use Rattle.iox2_domain.proofs.lemmas.containers.ConnectionKeys.{map-set_place, set_place-here, set_place-others}
use Rattle.iox2_domain.proofs.lemmas.fields.Views.{KeepsHeld, held-before, nothing-blocked}
use Rattle.iox2_domain.proofs.lemmas.fields.ConnectionEnds.{publisher-stands}
use Rattle.iox2_domain.proofs.lemmas.fields.ForgetfulSubscribers.{same-receiver, same-sender}
use Rattle.iox2_domain.proofs.lemmas.fields.ForgottenKeys.{ForgetsSenderKeys, Forgets, IsForgotten, forgotten-parts}
use Rattle.iox2_domain.proofs.lemmas.fields.ForgottenStates.{forgotten-is}
use Rattle.iox2_domain.proofs.lemmas.fields.LostConnections.{LosesEmpty, loses-one, unloaded}
use Rattle.iox2_domain.proofs.lemmas.fields.Standing.{one-publisher, some_is}
use Rattle.iox2_domain.proofs.lemmas.loans.PublisherChanges.{changed-is, changed-kept_books}

-- The publisher x at the place i has the connection c at the key, at the subscriber's place j. No slot stands there,
-- and no subscriber has it.
pub record LeavesEmpty {T U : Type 0} (f : Fields T U) (i j : ℕ) (x : PublisherFields) (key : ℕ)
    (c : Link) : Type 0 where
  pub here : get_or f.publishers i None ≡ Some x
  pub has : get_or x.keys j None ≡ Some key
  pub there : get f.connections key ≡ Some c
  pub empty : load c ≡ 0
  pub nobody : ReceiverHas f.subscribers key c → ⊥

module _ {T U : Type 0} (f : Fields T U) (sound : IsDomain f) (i j : ℕ) (x : PublisherFields) (free : x.blocked ≡ None)
    (key : ℕ) (c : Link) (leaves : LeavesEmpty f i j x key c)
    (new : Slab Link) (gone : Updates f.connections new key None) where
  abbrev s : State T U
  s = state_of (kept_of f)

  abbrev P : Publisher
  P = (publisher_of f.books f.connections x).port

  abbrev keys : List (Option ℕ)
  keys = set_place x.keys j None

  abbrev changed : PublisherFields
  changed = record x { keys = set_place x.keys j None }

  abbrev publishers : List (Option PublisherFields)
  publishers = slice_set f.publishers i (Some changed)

  -- the fields without the connection and its key
  abbrev pub left : Fields T U
  left = record f
      { publishers = slice_set f.publishers i (Some (record x { keys = set_place x.keys j None })); connections = new }

  -- the connection is the publisher's, at that place
  own : IsSenders x.id j c
  own = let is = some_is (IsSenders x.id j) (get f.connections key)
      ((sound.parts.linked.senders i x leaves.here).at j key leaves.has) in
      let both : Some is.0 ≡ Some c = sym is.1 ∙ leaves.there in
      let one : is.0 ≡ c = cc in
      subst (IsSenders x.id j) one is.2

  -- a key that is left was there, at another place
  fewer : (place k : ℕ) → get_or keys place None ≡ Some k → (get_or x.keys place None ≡ Some k) × (place ≢ j)
  fewer place k at =
      let away : place ≢ j = λ same. absurd
      (none-some k (sym (set_place-here x.keys j None) ∙ sym (ap (λ (n : ℕ). get_or keys n None) same) ∙ at)) in
      (sym (set_place-others x.keys j None place away) ∙ at, away)

  -- another key is left
  keeps : (place k : ℕ) → k ≢ key → get_or x.keys place None ≡ Some k → get_or keys place None ≡ Some k
  keeps place k other at =
      set_place-others x.keys j None place (λ same. other
      (let both : Some k ≡ Some key = sym at ∙ ap (λ (n : ℕ). get_or x.keys n None) same ∙ leaves.has in cc)) ∙ at

  loses : LosesEmpty f.connections new
  loses = loses-one f.connections new key c leaves.there (unloaded c leaves.empty) gone

  -- what is left is another connection
  another : (k : ℕ) (d : Link) → get new k ≡ Some d → k ≢ key
  another k d at here = absurd (none-some d (sym gone.changed ∙ sym (ap (get new) here) ∙ at))

  -- ---- what it forgets

  forgets-key : ForgetsSenderKeys x changed
  forgets-key = record { fields = refl; keys = λ place k at. (fewer place k at).0 }

  -- it hasn't the connection any more, and it is no other's
  unsent : SenderHas publishers key c → ⊥
  unsent has =
      absent (elim (changed-stood f.publishers i x changed leaves.here c.home.publisher_place has.publisher has.stands)
      [ inl is ↦ is.1 | inr old ↦ it old ]) where
        it : get_or f.publishers c.home.publisher_place None ≡ Some has.publisher → has.publisher ≡ changed
        it old =
            let here : c.home.publisher_place ≡ i =
            one-publisher f sound.parts c.home.publisher_place i has.publisher x old leaves.here
            (has.is_its ∙ own.publisher) in
            let both : Some has.publisher ≡ Some changed =
            sym has.stands ∙ ap (λ (n : ℕ). get_or publishers n None) here
            ∙ changed-here f.publishers i x changed leaves.here in
            cc

        absent : has.publisher ≡ changed → ⊥
        absent is = (fewer c.home.subscriber_place key
            (sym (ap (λ (z : PublisherFields). get_or z.keys c.home.subscriber_place None) is) ∙ has.has)).1 own.place

  -- another connection of a publisher is its still
  has-still : (k : ℕ) (d : Link) → get new k ≡ Some d → SenderHas f.publishers k d → SenderHas publishers k d
  has-still k d at has =
      elim (changed-still f.publishers i x changed leaves.here d.home.publisher_place has.publisher has.stands) [
        | inl is ↦ record {
          publisher = changed;
          stands = ap (λ (n : ℕ). get_or publishers n None) is.0 ∙ changed-here f.publishers i x changed leaves.here;
          is_its = sym (ap (λ (z : PublisherFields). z.id) is.1) ∙ has.is_its;
          has = keeps d.home.subscriber_place k (another k d at)
              (sym (ap (λ (z : PublisherFields). get_or z.keys d.home.subscriber_place None) is.1) ∙ has.has);
        }
        | inr old ↦ record { publisher = has.publisher; stands = old; is_its = has.is_its; has = has.has }
      ]

  forgotten : (k : ℕ) (d : Link) → get f.connections k ≡ Some d → get new k ≡ None
      → IsForgotten publishers f.subscribers k d
  forgotten k d at none = elim (cases_eq k key) [
    | inl here ↦
        let both : Some d ≡ Some c = sym at ∙ ap (get f.connections) here ∙ leaves.there in
        let is : d ≡ c = cc in
        rw (here, is) (record { no_sender = unsent; no_receiver = leaves.nobody; empty = unloaded c leaves.empty })
    | inr away ↦ absurd (none-some d (sym none ∙ gone.others k away ∙ at))
  ]

  forgets : Forgets f publishers f.subscribers new
  forgets = record {
    senders = λ k z at. elim (changed-stood f.publishers i x changed leaves.here k z at) [
      | inl is ↦ (
        x,
        ap (λ (n : ℕ). get_or f.publishers n None) is.0 ∙ leaves.here,
        subst (ForgetsSenderKeys x) (sym is.1) forgets-key,
      )
      | inr old ↦ (z, old, same-sender z)
    ];
    senders_stay = λ k z at. elim (changed-still f.publishers i x changed leaves.here k z at) [
      | inl is ↦ (
        changed,
        ap (λ (n : ℕ). get_or publishers n None) is.0 ∙ changed-here f.publishers i x changed leaves.here,
        subst (λ (w : PublisherFields). ForgetsSenderKeys w changed) (sym is.1) forgets-key,
      )
      | inr old ↦ (z, old, same-sender z)
    ];
    receivers = λ k y at. (y, at, same-receiver y);
    fewer = loses.fewer;
    gone = forgotten;
    ends = λ k d at. elim (sound.parts.linked.ends k d (loses.fewer k d at))
        [ inl has ↦ inl (has-still k d at has) | inr has ↦ inr has ];
    returned = λ k d at. elim (sound.parts.linked.returned k d (loses.fewer k d at))
        [ inl has ↦ inl (has-still k d at has) | inr none ↦ inr none ];
    marked = λ k d at is. let both = sound.parts.linked.marked k d (loses.fewer k d at) is in
        record { sender = has-still k d at both.sender; receiver = both.receiver };
  }

  -- ---- the state

  abbrev pub port_after : Publisher
  port_after = record (publisher_of f.books f.connections x).port
      { ends = set_place (publisher_of f.books f.connections x).port.ends j None }

  after-port : (publisher_of f.books f.connections changed).port ≡ port_after
  after-port = λ t. record port_after {
    ends = map-set_place (subscriber_of_key f.connections) refl x.keys j None t;
    blocked = nothing-blocked (blocked_send (number_in_slot f.books x.id) (sender_ends f.connections keys))
        (blocked_send (number_in_slot f.books x.id) (sender_ends f.connections x.keys)) x.blocked free t;
  }

  -- the machine sees that the end is gone
  pub left-is : state_of (kept_of left) ≡ with_channels_of left
      (record s { publishers = put_at s.publishers x.id (Some port_after) })
  left-is =
      forgotten-is f sound.parts publishers f.subscribers new forgets
      ∙ ap (with_channels_of left) (changed-is f i x changed leaves.here refl sound.parts.publisher_ids
      ∙ ap (λ (w : Publisher). record s { publishers = put_at s.publishers x.id (Some w) }) after-port)

  -- one connection is gone, whose subscriber is
  pub left-follows : (s.subscribers c.home.subscriber ≡ None)
      → ChannelsFollow (λ home. home.publisher ≡ x.id) (λ p q. s.subscribers q ≡ None) f.connections new
  left-follows absent = follow-fewer (λ home. home.publisher ≡ x.id)
      (λ p q. s.subscribers q ≡ None) f.connections new loses.fewer (λ k d at. elim (cases_eq k key) [
        | inl here ↦
            let both : Some d ≡ Some c = sym at ∙ ap (get f.connections) here ∙ leaves.there in
            let is : d ≡ c = cc in
            inr (
              ap (λ (l : Link). l.home.publisher) is ∙ own.publisher,
              ap (λ (l : Link). s.subscribers l.home.subscriber) is ∙ absent,
            )
        | inr away ↦ inl (gone.others k away ∙ at)
      ])

  -- ---- the whole

  -- a publisher holds what it held
  held : (p : ℕ) (y : Publisher) → (state_of (kept_of left)).publishers p ≡ Some y
      → (z : Publisher) × (s.publishers p ≡ Some z) × KeepsHeld z y
  held p y at_y =
      let is = ap (λ (t : State T U). t.publishers p) left-is in
      found_put s.publishers x.id port_after
      (λ n w. (z : Publisher) × (s.publishers n ≡ Some z) × KeepsHeld z w) p y (sym is ∙ at_y)
      (λ _. (P, publisher-stands f sound.parts i x leaves.here, record { history = refl; blocked = refl }))
      (λ _ old. (y, old, record { history = refl; blocked = refl }))

  -- the invariant is kept
  pub left-agrees : IsWellFormed (state_of (kept_of left)) → IsDomain left
  left-agrees well = record {
    parts = forgotten-parts f sound.parts publishers f.subscribers new forgets;
    lone = sound.lone;
    kept_books = changed-kept_books f i x changed leaves.here refl f.books refl sound.kept_books;
    well_formed = well;
    entries = λ p n held_now. sound.entries p n (held-before s (state_of (kept_of left)) p n
        (λ q. ap (λ (t : State T U). t.mailboxes p q) left-is) (held p) held_now);
  }
