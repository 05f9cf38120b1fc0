-- A subscriber is shut, or forgets a connection.
use Rattle.std.proofs.Common.{◌≡◌, ℕ, zero, suc, List, [], ◌∷◌, map, Bool, true, false, cond, eqb, get_or, slice_set}
use Rattle.std.proofs.Common.{refl, ap, sym, ◌∙◌, inl, inr}
use Rattle.std.specs.Prelude.{IsSomeAnd}
use Rattle.std.specs.declared.option.Option.{Option}
use Rattle.std.specs.declared.option.Option.TheVariants.{None, Some}
use Rattle.std.specs.Option.{option_map}
use Rattle.slab.specs.Slab.{Slab, Updates, get}
use Rattle.iox2_connections.specs.Link.{Link}
use Rattle.iox2_machine.specs.machine.Numbers.{put_at, without}
use Rattle.iox2_machine.specs.machine.Places.{occupants, vacated, is_port}
use Rattle.iox2_machine.specs.machine.Records.{Subscriber}
use Rattle.iox2_connections.specs.Finds.{IsReceivers}
use Rattle.iox2_connections.specs.Mailboxes.{publisher_of_key, receiver_ends}
use Rattle.iox2_domain.specs.Departures.{key_forgotten}
use Rattle.iox2_domain.specs.OpenMarks.{IsUnmarkedReceiver}
use Rattle.iox2_domain.specs.Ports.{SubscriberFields}
use Rattle.iox2_domain.specs.Kept.{Named, state_of}
use Rattle.iox2_domain.specs.Fields.{Fields, kept_of, subscriber_of}
use Rattle.iox2_domain.specs.Invariant.{SenderHas}
use Rattle.iox2_domain.proofs.lemmas.containers.ChangedRecords.{changed-others}
use Rattle.iox2_domain.proofs.lemmas.fields.ForgetfulSubscribers.{forgetful-has, forgetful-stood, forgets-is}
use Rattle.iox2_domain.proofs.lemmas.fields.ForgetfulSubscribers.{subscribers-forget}
use Rattle.iox2_domain.proofs.lemmas.fields.ForgottenKeys.{ForgetsReceiverKeys, Forgets}
use Rattle.iox2_domain.proofs.lemmas.fields.LostConnections.{IsEmptyLink}
use Rattle.iox2_domain.proofs.lemmas.fields.OpenReceivers.{open-still}
use Rattle.iox2_domain.proofs.lemmas.fields.Standing.{some_is}
use Rattle.iox2_steps.proofs.receivers.DepartedEnds.{among}
use Rattle.iox2_steps.proofs.receivers.LeftStates.{occupants-without, same-lead}
use Rattle.iox2_steps.proofs.releases.Forgotten.{forgetting, forgetting-is, forgetting-it}
use Rattle.iox2_domain.specs.Midway.{with_channels_of}
use Rattle.iox2_steps.specs.Agreement.{HasOwnedParts}
use Rattle.iox2_steps.proofs.subscriber_closes.OwnedParts.{forgotten-owned}

module _ {T U : Type 0} (f : Fields T U) (parts : HasOwnedParts f) (j : ℕ) (y : SubscriberFields)
    (at : get_or f.subscribers j None ≡ Some y) where
  -- as the machine sees it
  abbrev seen : SubscriberFields → Named Subscriber
  seen z = subscriber_of f.books f.connections z

  -- ---- it is shut

  -- the subscriber, which takes no messages any more
  abbrev pub shut : SubscriberFields
  shut = record y { is_open = false }

  abbrev shut_subscribers : List (Option SubscriberFields)
  shut_subscribers = slice_set f.subscribers j (Some shut)

  forgets-shut : IsUnmarkedReceiver f.connections j → Forgets f f.publishers shut_subscribers f.connections
  forgets-shut unmarked = subscribers-forget f parts.parts shut_subscribers f.connections (record {
    receivers = forgetful-stood f parts.parts j y at shut refl f.connections shut-receiver;
    fewer = λ key c at. at;
    gone = λ key c at none. absurd (let no : None ≡ Some c = sym none ∙ at in cc);
    still =
        λ key c at_c has. inr (forgetful-has f parts.parts j y at shut refl f.connections key c (λ knows. knows) has);
    opens = λ key c at_c is has. open-still f.subscribers shut_subscribers c
        (λ z at_z. (
          z,
          changed-others f.subscribers j y shut at c.home.subscriber_place (unmarked.at key c at_c is)
              ∙ at_z,
          refl,
          refl,
        )) has;
  }) where
    shut-receiver : ForgetsReceiverKeys y shut
    shut-receiver = record { fields = refl; keys = λ i key at. at; expired = λ key has. inl has }

  -- the fields with it shut
  abbrev pub with_shut : Fields T U
  with_shut = record f { subscribers = slice_set f.subscribers j (Some shut) }

  pub shut-parts : IsUnmarkedReceiver f.connections j → HasOwnedParts with_shut
  shut-parts unmarked = forgotten-owned f parts f.publishers shut_subscribers f.connections (forgets-shut unmarked)

  pub shut-is : IsUnmarkedReceiver f.connections j → state_of (kept_of with_shut) ≡ record (state_of (kept_of f)) {
    subscribers = put_at (state_of (kept_of f)).subscribers y.id
        (Some (record ((seen y).port) { is_open = false }));
  }
  shut-is unmarked = forgets-is f parts.parts j y at shut refl f.connections (forgets-shut unmarked)

  -- ---- it forgets an empty connection that its publisher doesn't have

  module _ (key : ℕ) (c : Link) (at_c : get f.connections key ≡ Some c) (its : c.home.subscriber ≡ y.id)
      (empty : IsEmptyLink c)
      (unsent : SenderHas f.publishers key c → ⊥)
      (connections : Slab Link) (removed : Updates f.connections connections key None) where
    pub forgetful-parts : HasOwnedParts
        (forgetting f parts.parts j y at key c at_c its empty unsent connections removed)
    forgetful-parts = forgotten-owned f parts f.publishers (slice_set f.subscribers j (Some (key_forgotten key y)))
        connections (forgetting-it f parts.parts j y at key c at_c its empty unsent connections removed)

    -- the key alone leads to the publisher
    leads : (k : ℕ) → IsSomeAnd (get f.connections k) (IsReceivers y.id (f.config).subscriber_max_borrowed_samples)
        → (d : Link) × (publisher_of_key f.connections (Some k) ≡ Some d.home.publisher)
        × (eqb k key ≡ eqb d.home.publisher c.home.publisher)
    leads k linked =
        let own = some_is (IsReceivers y.id (f.config).subscriber_max_borrowed_samples) (get f.connections k) linked in (
          own.0,
          ap (option_map (λ (d : Link). d.home.publisher)) own.1,
          sym (same-lead f parts.parts y.id k key own.0 c own.1 at_c own.2.subscriber its),
        )

    ends-are : receiver_ends f.connections (vacated key y.keys) ≡ vacated c.home.publisher
        (receiver_ends f.connections y.keys)
    ends-are = by y.keys (λ place k at_k. leads k ((parts.parts.linked.receivers j y at).at place k at_k)) where
      lead : Option ℕ → Option ℕ
      lead o = publisher_of_key f.connections o

      by : (keys : List (Option ℕ))
          → ((place k : ℕ) → get_or keys place None ≡ Some k → (d : Link)
          × (publisher_of_key f.connections (Some k) ≡ Some d.home.publisher)
          × (eqb k key ≡ eqb d.home.publisher c.home.publisher))
          → map (publisher_of_key f.connections) (vacated key keys) ≡ vacated c.home.publisher
          (map (publisher_of_key f.connections) keys)
      by [] to = refl
      by (None ∷ keys) to = ap (λ (xs : List (Option ℕ)). None ∷ xs) (by keys (λ place k at_k. to (suc place) k at_k))
      by (Some k ∷ keys) to = λ i. here (to zero k refl) i ∷ by keys (λ place l at_l. to (suc place) l at_l) i where
        here : (d : Link) × (publisher_of_key f.connections (Some k) ≡ Some d.home.publisher)
            × (eqb k key ≡ eqb d.home.publisher c.home.publisher)
            → lead (cond (eqb k key) None (Some k)) ≡ cond (is_port (lead (Some k)) c.home.publisher) None
            (lead (Some k))
        here d =
            ap (λ (b : Bool). lead (cond b None (Some k))) d.2
            ∙ own (eqb d.0.home.publisher c.home.publisher)
            ∙ sym (ap (λ (o : Option ℕ). cond (is_port o c.home.publisher) None (lead (Some k))) d.1)
          where
            own : (b : Bool) → lead (cond b None (Some k)) ≡ cond b None (lead (Some k))
            own true = refl
            own false = refl

    expired-are : occupants (receiver_ends f.connections (map Some (without key y.expired))) ≡ without c.home.publisher
        (occupants (receiver_ends f.connections (map Some y.expired)))
    expired-are = occupants-without (publisher_of_key f.connections) y.expired key c.home.publisher (λ k has.
        let there = among y.expired k has in
        let to = leads k ((parts.parts.linked.expired j y at).at there.0 k there.1) in
        (to.0.home.publisher, to.1, sym to.2))

    -- the machine's subscriber forgets the publisher
    pub forgetful-is : state_of
        (kept_of (forgetting f parts.parts j y at key c at_c its empty unsent connections removed)) ≡ with_channels_of
        (forgetting f parts.parts j y at key c at_c its empty unsent connections removed)
        (record (state_of (kept_of f)) {
          subscribers = put_at (state_of (kept_of f)).subscribers y.id (Some (record ((seen y).port) {
            ends = vacated c.home.publisher ((seen y).port).ends;
            expired = without c.home.publisher ((seen y).port).expired;
          }));
        })
    forgetful-is =
        forgetting-is f parts.parts j y at key c at_c its empty unsent connections removed
        ∙ (λ k. with_channels_of (forgetting f parts.parts j y at key c at_c its empty unsent connections removed)
        (record (state_of (kept_of f)) {
          subscribers = put_at (state_of (kept_of f)).subscribers y.id
              (Some (record ((seen y).port) { ends = ends-are k; expired = expired-are k }));
        }))
