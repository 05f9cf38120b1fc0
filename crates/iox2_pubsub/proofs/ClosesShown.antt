-- A close of a port, seen from outside, and what it leaves.
use Rattle.std.proofs.Common.{◌≡◌, ◌≤◌, ℕ, get_or, true, refl, ap, sym, subst, ◌∙◌, List, [], Option, None, Some, arith}
use Rattle.std.proofs.lemmas.Bool.{true≢false}
use Rattle.std.proofs.lemmas.Option.{none-some, same_Some}
use Rattle.iox2_machine.specs.machine.Mailbox.{is_borrowed}
use Rattle.iox2_machine.specs.machine.Ports.{publisher_closed, subscriber_closed}
use Rattle.iox2_machine.specs.machine.Records.{Loan, Publisher, Subscriber}
use Rattle.iox2_machine.specs.machine.State.{State, Messages}
use Rattle.iox2_machine.specs.declared.key.Key.{Key}
use Rattle.iox2_laws.proofs.CloseLaws.{subscriber_closed_advances}
use Rattle.iox2_laws.proofs.LoanKeeping.{subscriber_closed_loans}
use Rattle.iox2_laws.proofs.PortsClose.{publisher_closed_gone, publisher_closed_others, publisher_closed_subscribers}
use Rattle.iox2_laws.proofs.PortsClose.{publisher_closed_borrowed, subscriber_closed_shut, subscriber_closed_others}
use Rattle.iox2_laws.proofs.PortsClose.{subscriber_closed_publishers, subscriber_closed_borrowed}
use Rattle.iox2_laws.proofs.Waits.{publisher_closed_waits, subscriber_closed_waits}
use Rattle.iox2_domain.specs.Boxes.{DomainBoxes}
use Rattle.iox2_domain.specs.Fields.{Fields, kept_of, publisher_of, subscriber_of, keeping}
use Rattle.iox2_domain.specs.Invariant.{IsDomain}
use Rattle.iox2_domain.specs.Kept.{Kept, state_of}
use Rattle.iox2_domain.specs.Ports.{PublisherFields, SubscriberFields}
use Rattle.iox2_domain.specs.Reaches.{Reaches}
use Rattle.iox2_domain.specs.Shows.{Shows}
use Rattle.iox2_domain.proofs.lemmas.fields.ConnectionEnds.{publisher-stands, subscriber-stands}
use Rattle.iox2_domain.proofs.lemmas.fields.ReachesShows.{reaches-shows}
use Rattle.iox2_pubsub.specs.Live.{IsPublisherKey, IsSubscriberKey, A_publisher, A_subscriber, StaysBut}
use Rattle.iox2_pubsub.proofs.LiveParts.{publisher-parts, subscriber-parts}
use Rattle.iox2_pubsub.proofs.StaysBut.{BoxesStayBut, IsSpared, stays-between, none-spared}

module _ {T U F G : Type 0} {boxes : DomainBoxes F G} (f g : Fields T U) (sound : IsDomain f) (kept : Kept T U F G)
    (view : keeping boxes f ≡ kept) (place id : ℕ) (m : Messages T U) (s : State T U) (shown : Shows kept m s) where
  here : Shows (kept_of f) m s
  here = subst (λ (k : Kept T U F G). Shows k m s) (sym view) shown

  -- where the fields reach the machine's close of the port that stands at the place, it is shown
  close-shows : {Port : Type 0} (port_at : State T U → ℕ → Option Port) (closed : State T U → ℕ → Port → State T U)
      → ((x : Port) → (s.next_message ≤ (closed s id x).next_message)
      × ((n : ℕ) (l : Loan T U) → (closed s id x).loans n ≡ Some l → s.loans n ≡ Some l))
      → (found : ℕ) → found ≡ id → (port : Port) → port_at (state_of (kept_of f)) found ≡ Some port
      → Reaches f g (closed (state_of (kept_of f)) found port)
      → (x : Port) → port_at s id ≡ Some x → Shows (kept_of g) m (closed s id x)
  close-shows {Port} port_at closed keeps found is port stands reached x at =
      let same : port ≡ x = same_Some port x (sym stands ∙ ap (port_at (state_of (kept_of f))) is
      ∙ ap (λ (t : State T U). port_at t id) (sym here.state) ∙ at) in
      let here_reached : Reaches f g (closed s id x) =
      subst (λ (t : State T U). Reaches f g (closed t id x)) (sym here.state)
      (subst (λ (z : Port). Reaches f g (closed (state_of (kept_of f)) id z)) same
      (subst (λ (p : ℕ). Reaches f g (closed (state_of (kept_of f)) p port)) is reached)) in
      reaches-shows f g m s (closed s id x) here here_reached (keeps x).0
      (λ n l out. here.unsent n l ((keeps x).1 n l out))

  -- a publisher's
  pub publisher-close-shows : (found : (x : PublisherFields) × (get_or f.publishers place None ≡ Some x) × (x.id ≡ id))
      → ((x : PublisherFields) → get_or f.publishers place None ≡ Some x
      → Reaches f g (publisher_closed (state_of (kept_of f)) x.id (publisher_of f.books f.connections x).port))
      → (x : Publisher) → s.publishers id ≡ Some x → Shows (kept_of g) m (publisher_closed s id x)
  publisher-close-shows found closes =
      close-shows (λ t p. t.publishers p) publisher_closed (λ x. (omega arith, λ n l out. out)) found.0.id found.2
      (publisher_of f.books f.connections found.0).port
      (publisher-stands f sound.parts place found.0 found.1) (closes found.0 found.1)

  -- a subscriber's
  pub subscriber-close-shows : (found : (y : SubscriberFields) × (get_or f.subscribers place None ≡ Some y)
      × (y.id ≡ id))
      → ((y : SubscriberFields) → get_or f.subscribers place None ≡ Some y
      → Reaches f g (subscriber_closed (state_of (kept_of f)) y.id (subscriber_of f.books f.connections y).port))
      → (y : Subscriber) → s.subscribers id ≡ Some y → Shows (kept_of g) m (subscriber_closed s id y)
  subscriber-close-shows found closes =
      close-shows (λ t q. t.subscribers q) subscriber_closed
      (λ y. (
        (subscriber_closed_advances s id y).next_message,
        λ n l out. ap (λ (loans : ℕ → Option (Loan T U)). loans n) (sym (subscriber_closed_loans s id y)) ∙ out,
      ))
      found.0.id found.2 (subscriber_of f.books f.connections found.0).port
      (subscriber-stands f sound.parts place found.0 found.1) (closes found.0 found.1)

module _ {T U F G : Type 0} (old new : Kept T U F G) (m : Messages T U) (s : State T U) (shown : Shows old m s)
    (id : ℕ) where
  -- what is borrowed is told from what is borrowed in the mailboxes
  still-borrowed : (s' : State T U) → ((p q : ℕ) → (s'.mailboxes p q).borrowed ≡ (s.mailboxes p q).borrowed)
      → (p q n : ℕ) → is_borrowed n (s.mailboxes p q) ≡ true
      → is_borrowed n (s'.mailboxes p q) ≡ true
  still-borrowed s' same p q n at =
      ap (λ (ns : List ℕ). is_borrowed n (record { waiting = []; borrowed = ns; others = [] })) (same p q) ∙ at

  module _ (x : Publisher) (shown' : Shows new m (publisher_closed s id x)) where
    -- all but the publisher stays
    pub publisher-close-stays : BoxesStayBut (A_publisher id) old new → StaysBut (A_publisher id) old new
    publisher-close-stays boxes =
        let s' : State T U = publisher_closed s id x in
        stays-between (A_publisher id) old new m m s s' shown shown' (λ n entry at. at) (record {
          config = refl;
          publishers = λ p z at other. (z, publisher_closed_others s id x p other ∙ at);
          subscribers = λ q y at is_open other. let v = publisher_closed_subscribers s id x q y at in
              (v.0, v.1, v.2 ∙ is_open);
        })
        (λ n l at other. at) (λ p q n at other. still-borrowed s' (publisher_closed_borrowed s id x) p q n at)
        (publisher_closed_waits (IsSpared (A_publisher id)) s id x) (none-spared _ old s s' (λ _. tt)) boxes

    -- it is there no more
    pub publisher-close-spends : (key : Key) → key.port ≡ id → IsPublisherKey new key → ⊥
    publisher-close-spends key is live =
        let has = (publisher-parts new key live).2 in
        absurd (none-some has.0 (sym (publisher_closed_gone s id x)
        ∙ ap (λ (t : State T U). t.publishers id) shown'.state ∙ ap (state_of new).publishers (sym is) ∙ has.1))

  module _ (y : Subscriber) (shown' : Shows new m (subscriber_closed s id y)) where
    -- all but the subscriber stays
    pub subscriber-close-stays : s.subscribers id ≡ Some y → BoxesStayBut (A_subscriber id) old new
        → StaysBut (A_subscriber id) old new
    subscriber-close-stays there boxes =
        let s' : State T U = subscriber_closed s id y in
        stays-between (A_subscriber id) old new m m s s' shown shown' (λ n entry at. at) (record {
          config = (subscriber_closed_advances s id y).config;
          publishers = λ p x at other. let v = subscriber_closed_publishers s id y p x at in (v.0, v.1);
          subscribers = λ q z at is_open other. (z, subscriber_closed_others s id y q other ∙ at, is_open);
        })
        (λ n l at other. ap (λ (loans : ℕ → Option (Loan T U)). loans n) (subscriber_closed_loans s id y) ∙ at)
        (λ p q n at other. still-borrowed s' (subscriber_closed_borrowed s id y) p q n at)
        (subscriber_closed_waits (IsSpared (A_subscriber id)) s id y there) (none-spared _ old s s' (λ _. tt)) boxes

    -- it is open no more
    pub subscriber-close-spends : (key : Key) → key.port ≡ id → IsSubscriberKey new key → ⊥
    subscriber-close-spends key is live =
        let has = (subscriber-parts new key live).2 in
        true≢false (sym has.2 ∙ subscriber_closed_shut s id y has.0
        (ap (λ (t : State T U). t.subscribers id) shown'.state ∙ ap (state_of new).subscribers (sym is) ∙ has.1))
