-- A connection in which messages lie is its publisher's.
use Rattle.std.proofs.Common.{◌≡◌, ℕ, true, get_or, refl, ap, sym, ◌∙◌, Option, None, Some}
use Rattle.std.specs.Prelude.{IsSomeAnd}
use Rattle.std.specs.Option.{option_map}
use Rattle.slab.specs.Slab.{get}
use Rattle.iox2_connections.specs.Link.{Link}
use Rattle.iox2_machine.specs.machine.Mailbox.{has_numbers}
use Rattle.iox2_machine.specs.machine.WellFormed.{LeadsTo}
use Rattle.iox2_connections.specs.Homes.{IsApart, IsSenders}
use Rattle.iox2_connections.specs.Mailboxes.{sender_ends, subscriber_of_key}
use Rattle.iox2_connections.proofs.MailboxChanges.{is_between-own}
use Rattle.iox2_domain.specs.Ports.{PublisherFields}
use Rattle.iox2_domain.specs.Kept.{state_of}
use Rattle.iox2_domain.specs.Fields.{Fields, kept_of}
use Rattle.iox2_domain.specs.Invariant.{IsDomain, IsLinked, SenderHas}
use Rattle.iox2_domain.proofs.lemmas.fields.ConnectionEnds.{occupant-sender_ends, publisher-stands}

module _ {T U : Type 0} (f : Fields T U) where
  -- a publisher whose end leads to a connection's subscriber has the connection at the place that it names
  pub leads-has : IsLinked f → IsApart f.connections → (key : ℕ) (c : Link) → get f.connections key ≡ Some c
      → (i : ℕ) (x : PublisherFields) → get_or f.publishers i None ≡ Some x → x.id ≡ c.home.publisher
      → LeadsTo (sender_ends f.connections x.keys) c.home.subscriber → SenderHas f.publishers key c
  leads-has linked apart key c at i x at_x is leads =
      record {
        publisher = standing.0;
        stands = standing.1;
        is_its = standing.2;
        has = by (get_or standing.0.keys leads.0 None) refl there;
      }
    where
      standing : (z : PublisherFields) × (get_or f.publishers c.home.publisher_place None ≡ Some z)
          × (z.id ≡ c.home.publisher)
      standing = (
        x,
        ap (λ (place : ℕ). get_or f.publishers place None)
            (sym (linked.knows_publishers key i c x at at_x is)) ∙ at_x,
        is,
      )

      there : subscriber_of_key f.connections (get_or standing.0.keys leads.0 None) ≡ Some c.home.subscriber
      there = sym (occupant-sender_ends f.connections standing.0.keys leads.0) ∙ leads.1

      at_place : (k : ℕ) (o : Option Link) → get f.connections k ≡ o → get_or standing.0.keys leads.0 None ≡ Some k
          → option_map (λ (d : Link). d.home.subscriber) o ≡ Some c.home.subscriber
          → IsSomeAnd o (IsSenders standing.0.id leads.0)
          → get_or standing.0.keys c.home.subscriber_place None ≡ Some key
      at_place k None e h is mine = absurd mine
      at_place k (Some d) e h is mine =
          let to : d.home.subscriber ≡ c.home.subscriber = cc in
          let same_key : key ≡ k = (apart.one c.home.publisher c.home.subscriber).one key k c d at e
          (is_between-own c.home.publisher c.home.subscriber c refl refl)
          (is_between-own c.home.publisher c.home.subscriber d (mine.publisher ∙ standing.2) to) in
          let same : Some c ≡ Some d = sym at ∙ ap (get f.connections) same_key ∙ e in
          let is_c : c ≡ d = cc in
          ap (λ (place : ℕ). get_or standing.0.keys place None)
          (ap (λ (l : Link). l.home.subscriber_place) is_c ∙ mine.place) ∙ h ∙ ap Some (sym same_key)

      by : (o : Option ℕ) → get_or standing.0.keys leads.0 None ≡ o
          → subscriber_of_key f.connections o ≡ Some c.home.subscriber
          → get_or standing.0.keys c.home.subscriber_place None ≡ Some key
      by None e h = absurd cc
      by (Some k) e h = at_place k (get f.connections k) refl e h
          ((linked.senders c.home.publisher_place standing.0 standing.1).at leads.0 k e)

  -- a publisher that is there has a connection with messages
  pub sender-has : IsDomain f → (key : ℕ) (c : Link) → get f.connections key ≡ Some c
      → has_numbers ((state_of (kept_of f)).mailboxes c.home.publisher c.home.subscriber) ≡ true
      → (i : ℕ) (x : PublisherFields) → get_or f.publishers i None ≡ Some x → x.id ≡ c.home.publisher
      → SenderHas f.publishers key c
  sender-has sound key c at some i x at_x is =
      leads-has sound.parts.linked sound.parts.apart key c at i x at_x is
      ((sound.well_formed.mailboxes c.home.publisher c.home.subscriber).sender_end _
      (ap (state_of (kept_of f)).publishers (sym is) ∙ publisher-stands f sound.parts i x at_x) some)
