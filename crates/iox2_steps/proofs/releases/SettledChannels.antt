-- A subscriber's step that loses connections alone, at the end of which the machine resets its channels.
use Rattle.std.proofs.Common.{◌≡◌, ◌≢◌, ℕ, Bool, true, false, cond, ◌||◌, refl, ap, sym, ◌∙◌, inl, inr, ◌⊎◌}
use Rattle.std.proofs.lemmas.Bool.{cases_eq, eqb-true, ne_eqb}
use Rattle.std.specs.declared.option.Option.{Option}
use Rattle.std.specs.declared.option.Option.TheVariants.{None, Some}
use Rattle.std.specs.Option.{option_map, option_map_or}
use Rattle.slab.specs.Slab.{Slab, get}
use Rattle.iox2_connections.specs.Link.{Link}
use Rattle.iox2_connections.specs.declared.connection.Home.{Home}
use Rattle.iox2_machine.specs.machine.Channel.{Channel}
use Rattle.iox2_machine.specs.machine.Numbers.{contains, put_at}
use Rattle.iox2_machine.specs.machine.Places.{occupants}
use Rattle.iox2_machine.specs.machine.Ports.{subscriber_shut}
use Rattle.iox2_machine.specs.machine.Records.{Publisher, Subscriber}
use Rattle.iox2_machine.specs.machine.Releases.{freed_if_unused, is_unused, place_freed, pruned, subscriber_pruned}
use Rattle.iox2_machine.specs.machine.State.{State, connected_publishers, is_linked, receiver_channels_reset}
use Rattle.iox2_machine.specs.machine.WellFormed.{MailboxIsWellFormed}
use Rattle.iox2_connections.specs.LookUp.{look_up}
use Rattle.iox2_connections.specs.Mailboxes.{is_between}
use Rattle.iox2_connections.proofs.LookUps.{look_up-none, look_up-there}
use Rattle.iox2_connections.proofs.MailboxChanges.{both-true, is_between-own}
use Rattle.iox2_laws.proofs.Puts.{put_at-other}
use Rattle.iox2_domain.specs.Fields.{Fields, kept_of}
use Rattle.iox2_domain.specs.Invariant.{HasParts}
use Rattle.iox2_domain.specs.Kept.{state_of}
use Rattle.iox2_domain.specs.KeptLinks.{HasLink, NoLink, ChannelsFollow}
use Rattle.iox2_domain.specs.Midway.{with_channels_of}
use Rattle.iox2_steps.proofs.updates.ResetChannels.{linked-there, links-there, receiver-reset}

-- ---- what the machine sees of ports that are linked

module _ {T U : Type 0} (t : State T U) (q p r : ℕ) (away : r ≢ q) where
  -- publishers that are due keep their ends
  due-linked : (o : Option Publisher)
      → option_map_or (λ (x : Publisher). contains (occupants x.ends) r)
      (option_map {T = Publisher} (λ x. record x { is_due = true }) o) false
      ≡ option_map_or (λ (x : Publisher). contains (occupants x.ends) r) o false
  due-linked None = refl
  due-linked (Some x) = refl

  -- another subscriber has the publishers that it had
  other-linked : (o : Option Subscriber)
      → option_map_or (λ (y : Subscriber). contains (connected_publishers y) p) (put_at t.subscribers q o r) false
      ≡ option_map_or (λ (y : Subscriber). contains (connected_publishers y) p) (t.subscribers r) false
  other-linked o =
      ap (λ (y : Option Subscriber). option_map_or (λ (y : Subscriber). contains (connected_publishers y) p) y false)
      (put_at-other t.subscribers q o r (ne_eqb r q away))

  -- where a subscriber is gone, others are linked as before
  pub freed-linked : is_linked (freed_if_unused t q) p r ≡ is_linked t p r
  freed-linked = by (is_unused t q) where
    by : (b : Bool) → is_linked (cond b (place_freed t q) t) p r ≡ is_linked t p r
    by true = λ k. due-linked (t.publishers p) k || other-linked None k
    by false = refl

  -- and where it forgets publishers
  pub pruned-linked : is_linked (subscriber_pruned t q) p r ≡ is_linked t p r
  pruned-linked = ap (λ (b : Bool). option_map_or (λ (x : Publisher). contains (occupants x.ends) r)
      (t.publishers p) false || b) (other-linked (option_map {T = Subscriber} (pruned t q) (t.subscribers q)))

  -- and where it takes no messages any more
  pub shut-linked : (y : Subscriber) → is_linked (subscriber_shut t q y) p r ≡ is_linked t p r
  shut-linked y = λ k. due-linked (t.publishers p) k || other-linked (Some (record y { is_open = false })) k

-- a mailbox is well-formed whatever the channels are
pub box-still : {T U : Type 0} (s : State T U) (channels : ℕ → ℕ → ℕ → Channel) (p q : ℕ) → MailboxIsWellFormed s p q
    → MailboxIsWellFormed (record s { channels = channels }) p q
box-still s channels p q v = assumption

-- its channels are what they were
pub freed-channels : {T U : Type 0} (t : State T U) (q : ℕ) → (freed_if_unused t q).channels ≡ t.channels
freed-channels {T} {U} t q = by (is_unused t q) where
  by : (b : Bool) → (let u : State T U = cond b (place_freed t q) t in u.channels) ≡ t.channels
  by true = refl
  by false = refl

-- ---- connections

-- a connection stands between two ports, or none
some-link : (connections : Slab Link) (p q : ℕ)
    → (NoLink connections p q)
    ⊎ ((key : ℕ) × (d : Link) × (get connections key ≡ Some d) × (d.home.publisher ≡ p) × (d.home.subscriber ≡ q))
some-link connections p q = by (look_up (is_between p q) connections.slots) refl where
  by : (o : Option Link) → look_up (is_between p q) connections.slots ≡ o
      → (NoLink connections p q)
      ⊎ ((key : ℕ) × (d : Link) × (get connections key ≡ Some d) × (d.home.publisher ≡ p) × (d.home.subscriber ≡ q))
  by None e = inl (λ key c at mine yours.
      absurd (let no : is_between p q c ≡ false = look_up-none (is_between p q) connections.slots e key c at in
      let yes : is_between p q c ≡ true = is_between-own p q c mine yours in cc))
  by (Some d) e =
      let there = look_up-there (is_between p q) connections.slots d e in
      let both = both-true _ _ there.2 in
      inr (there.0, d, there.1, eqb-true d.home.publisher p both.0, eqb-true d.home.subscriber q both.1)

module _ {T U : Type 0} (f f' : Fields T U) (parts : HasParts f) (parts' : HasParts f') (id : ℕ)
    (kept : (key : ℕ) (d : Link) → get f'.connections key ≡ Some d → HasLink f.connections d)
    (linked : (p q : ℕ) → q ≢ id → is_linked (state_of (kept_of f')) p q ≡ is_linked (state_of (kept_of f)) p q) where
  -- a connection of another subscriber is there
  still : (key : ℕ) (c : Link) → get f.connections key ≡ Some c → c.home.subscriber ≢ id → HasLink f'.connections c
  still key c at away = elim (some-link f'.connections c.home.publisher c.home.subscriber) [
    | inl none ↦ absurd (links-there f' parts' c.home.publisher c.home.subscriber
        (linked c.home.publisher c.home.subscriber away ∙ linked-there f parts key c at) none)
    | inr there ↦ found there.0 there.1 there.2 there.3 there.4 (kept there.0 there.1 there.2)
  ]
    where
      found : (k : ℕ) (d : Link) → get f'.connections k ≡ Some d → d.home.publisher ≡ c.home.publisher
          → d.home.subscriber ≡ c.home.subscriber → HasLink f.connections d → HasLink f'.connections c
      found k d at_d mine yours was =
          let here : was.key ≡ key =
          (parts.apart.one c.home.publisher c.home.subscriber).one was.key key was.link c was.stands at
          (is_between-own c.home.publisher c.home.subscriber was.link (ap (λ (h : Home). h.publisher) was.home ∙ mine)
          (ap (λ (h : Home). h.subscriber) was.home ∙ yours))
          (is_between-own c.home.publisher c.home.subscriber c refl refl) in
          let both : Some was.link ≡ Some c = sym was.stands ∙ ap (get f.connections) here ∙ at in
          let is : was.link ≡ c = cc in
          record {
            key = k;
            link = d;
            stands = at_d;
            home = sym was.home ∙ ap (λ (l : Link). l.home) is;
            channels = sym was.channels ∙ ap (λ (l : Link). l.channels) is;
          }

  loses-follow : ChannelsFollow (λ home. home.subscriber ≡ id) (λ _ _. Unit {0}) f.connections f'.connections
  loses-follow = record {
    kept = λ key d at. inl (kept key d at);
    lost = λ key c at.
        elim (cases_eq c.home.subscriber id) [ inl mine ↦ inr (mine, tt) | inr away ↦ inl (still key c at away) ];
  }

  -- the machine's reset
  pub settles-channels : (w : State T U) → state_of (kept_of f') ≡ with_channels_of f' w
      → w.channels ≡ (state_of (kept_of f)).channels → state_of (kept_of f') ≡ receiver_channels_reset w id
  settles-channels = receiver-reset f f' parts parts' id (λ _ _. Unit {0}) loses-follow
