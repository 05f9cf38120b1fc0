-- Channels follow their connections: step by step, and in the end as a port's step leaves them.
use Rattle.std.proofs.Common.{◌≡◌, ℕ, List, Bool, true, false, refl, ap, sym, subst, ◌∙◌, inl, inr, ◌⊎◌, Option, None}
use Rattle.std.proofs.Common.{Some, get_or}
use Rattle.std.proofs.lemmas.Bool.{eqb-true}
use Rattle.std.specs.Option.{option_map}
use Rattle.slab.specs.Slab.{Slab, get}
use Rattle.iox2_connections.specs.Link.{Link, channel_at}
use Rattle.iox2_connections.specs.declared.connection.Home.{Home}
use Rattle.iox2_machine.specs.machine.Channel.{Channel, new_channels}
use Rattle.iox2_connections.specs.Homes.{IsApart, SameHomes, fixed_of}
use Rattle.iox2_connections.specs.LookUp.{look_up}
use Rattle.iox2_connections.specs.Mailboxes.{is_between, channels_if_any, channels_in}
use Rattle.iox2_connections.proofs.LookUps.{look_up-nothing, look_up-there, look_up-none}
use Rattle.iox2_connections.proofs.MailboxChanges.{is_between-own, both-true, channels-there}
use Rattle.iox2_domain.specs.KeptLinks.{HasLink, SameChannels, NoLink, IsMade, ChannelsFollow}
use Rattle.iox2_domain.proofs.lemmas.containers.Extensions.{Extends}

-- a connection that stands is there
pub has-link : (connections : Slab Link) (key : ℕ) (c : Link) → get connections key ≡ Some c → HasLink connections c
has-link connections key c at = record { key = key; link = c; stands = at; home = refl; channels = refl }

-- the same of a connection that has become another
pub link-through : (connections : Slab Link) (c d : Link) → c.home ≡ d.home → c.channels ≡ d.channels
    → HasLink connections c → HasLink connections d
link-through connections c d home channel has =
    record {
      key = has.key;
      link = has.link;
      stands = has.stands;
      home = has.home ∙ home;
      channels = has.channels ∙ channel;
    }

-- where none stands, channels are new
pub none-new : (connections : Slab Link) (p q : ℕ) → NoLink connections p q → channels_in connections p q ≡ new_channels
none-new connections p q none = ap channels_if_any
    (look_up-nothing (is_between p q) connections.slots (λ i c at. by (is_between p q c) i c refl at)) where
      by : (b : Bool) → (i : ℕ) (c : Link) → is_between p q c ≡ b → get_or connections.slots i None ≡ Some c → b ≡ false
      by true i c e at =
          let parts = both-true _ _ e in
          absurd (none i c at (eqb-true c.home.publisher p parts.0) (eqb-true c.home.subscriber q parts.1))
      by false i c e at = refl

-- a connection that has the same home and channel stood there
pub stood : (a b : Slab Link) (key : ℕ) → option_map {U = Home × List Channel} (λ (c : Link). (c.home, c.channels))
    (get b key) ≡ option_map (λ (c : Link). (c.home, c.channels)) (get a key)
    → (d : Link) → get b key ≡ Some d → HasLink a d
stood a b key e d at = by (get a key) refl (sym e ∙ ap (option_map (λ (c : Link). (c.home, c.channels))) at) where
  by : (o : Option Link) → get a key ≡ o → option_map {U = Home × List Channel}
      (λ (c : Link). (c.home, c.channels)) o ≡ Some (d.home, d.channels) → HasLink a d
  by None there h = absurd cc
  by (Some c) there h =
      let both : (c.home, c.channels) ≡ (d.home, d.channels) = cc in
      record {
        key = key;
        link = c;
        stands = there;
        home = ap (λ (t : Home × List Channel). t.0) both;
        channels = ap (λ (t : Home × List Channel). t.1) both;
      }

-- where connections stay what they are, so do their channels
pub same-channels : (old new : Slab Link) → SameHomes old new → SameChannels old new
same-channels old new same = record {
  same = λ key. through (get new key) ∙ ap (option_map (λ (t : Home × ℕ × ℕ × Bool × List Channel). (t.0, t.4)))
      (same.same key) ∙ sym (through (get old key));
} where
  through : (o : Option Link) → option_map {U = Home × List Channel} (λ (c : Link). (c.home, c.channels)) o ≡ option_map
      (λ (t : Home × ℕ × ℕ × Bool × List Channel). (t.0, t.4)) (option_map fixed_of o)
  through None = refl
  through (Some c) = refl

pub links-same : (old new : Slab Link) → SameHomes old new → (key : ℕ) (d : Link) → get new key ≡ Some d → HasLink old d
links-same old new same key = stood old new key ((same-channels old new same).same key)

module _ (Own : Home → Type 0) (Gone : ℕ → ℕ → Type 0) where
  -- nothing becomes of them
  pub follow-still : (old new : Slab Link) → SameChannels old new → ChannelsFollow Own Gone old new
  follow-still old new same = record {
    kept = λ key d at. inl (stood old new key (same.same key) d at);
    lost = λ key c at. inl (stood new old key (sym (same.same key)) c at);
  }

  pub follow-same : (old new : Slab Link) → SameHomes old new → ChannelsFollow Own Gone old new
  follow-same old new same = follow-still old new (same-channels old new same)

  -- some go
  pub follow-fewer : (old new : Slab Link) → ((key : ℕ) (c : Link) → get new key ≡ Some c → get old key ≡ Some c)
      → ((key : ℕ) (c : Link) → get old key ≡ Some c → (get new key ≡ Some c)
      ⊎ (Own c.home × Gone c.home.publisher c.home.subscriber)) → ChannelsFollow Own Gone old new
  follow-fewer old new fewer lost = record {
    kept = λ key d at. inl (has-link old key d (fewer key d at));
    lost = λ key c at. elim (lost key c at) [ inl still ↦ inl (has-link new key c still) | inr gone ↦ inr gone ];
  }

  -- some are made
  pub follow-more : (old new : Slab Link) → Extends old new
      → ((key : ℕ) (d : Link) → get new key ≡ Some d → (get old key ≡ Some d)
      ⊎ (Own d.home × (Gone d.home.publisher d.home.subscriber → ⊥))) → ChannelsFollow Own Gone old new
  follow-more old new e news = record {
    kept = λ key d at. elim (news key d at) [
      | inl there ↦ inl (has-link old key d there)
      | inr made ↦ by key d at made (get old key) refl
    ];
    lost = λ key c at. inl (has-link new key c (e.grows key c at));
  }
    where
      -- no other connection of these ports is there
      none : (key : ℕ) (d : Link) → get new key ≡ Some d → get old key ≡ None
          → NoLink old d.home.publisher d.home.subscriber
      none key d at free k c at_c its yours =
          let here : k ≡ key = ((e.apart).one d.home.publisher d.home.subscriber).one k key c d (e.grows k c at_c) at
          (is_between-own d.home.publisher d.home.subscriber c its yours)
          (is_between-own d.home.publisher d.home.subscriber d refl refl) in
          absurd (let no : None ≡ Some c = sym free ∙ sym (ap (get old) here) ∙ at_c in cc)

      by : (key : ℕ) (d : Link) → get new key ≡ Some d → Own d.home × (Gone d.home.publisher d.home.subscriber → ⊥)
          → (o : Option Link) → get old key ≡ o → HasLink old d ⊎ IsMade Own Gone old d
      by key d at made None free = inr (record {
        own = made.0;
        is_new = sym (channels-there new key d.home.publisher d.home.subscriber d e.apart at refl refl)
            ∙ e.channels d.home.publisher d.home.subscriber
            ∙ none-new old d.home.publisher d.home.subscriber (none key d at free);
        none = none key d at free;
        present = made.1;
      })
      by key d at made (Some c) there =
          let both : Some c ≡ Some d = sym (e.grows key c there) ∙ at in
          let is : c ≡ d = cc in
          inl (has-link old key d (there ∙ ap Some is))

  -- one step after the other
  pub follow-both : (a b c : Slab Link) → ChannelsFollow Own Gone a b → ChannelsFollow Own Gone b c
      → ChannelsFollow Own Gone a c
  follow-both a b c x y = record { kept = kept; lost = lost } where
    kept : (key : ℕ) (d : Link) → get c key ≡ Some d → HasLink a d ⊎ IsMade Own Gone a d
    kept key d at = elim (y.kept key d at) [
      | inl has ↦ elim (x.kept has.key has.link has.stands) [
        | inl before ↦ inl (link-through a has.link d has.home has.channels before)
        | inr made ↦ inr (record {
          own = subst Own has.home made.own;
          is_new = ap channel_at (sym has.channels) ∙ made.is_new;
          none = subst (λ (h : Home). NoLink a h.publisher h.subscriber) has.home made.none;
          present = subst (λ (h : Home). Gone h.publisher h.subscriber → ⊥) has.home made.present;
        })
      ]
      | inr made ↦ inr (record {
        own = made.own;
        is_new = made.is_new;
        none = λ k l at_l its yours. elim (x.lost k l at_l) [
          | inl still ↦ made.none still.key still.link still.stands (ap (λ (h : Home). h.publisher) still.home ∙ its)
              (ap (λ (h : Home). h.subscriber) still.home ∙ yours)
          | inr gone ↦ made.present (subst (λ (p : ℕ). Gone p d.home.subscriber) its
              (subst (λ (q : ℕ). Gone l.home.publisher q) yours gone.1))
        ];
        present = made.present;
      })
    ]

    lost : (key : ℕ) (l : Link) → get a key ≡ Some l
        → HasLink c l ⊎ (Own l.home × Gone l.home.publisher l.home.subscriber)
    lost key l at = elim (x.lost key l at) [
      | inl still ↦ elim (y.lost still.key still.link still.stands) [
        | inl there ↦ inl (link-through c still.link l still.home still.channels there)
        | inr gone ↦
            inr (subst Own still.home gone.0, subst (λ (h : Home). Gone h.publisher h.subscriber) still.home gone.1)
      ]
      | inr gone ↦ inr gone
    ]

  -- the channels of a connection that is there are what they were
  pub follow-there : (old new : Slab Link) → IsApart old → IsApart new → ChannelsFollow Own Gone old new
      → (key : ℕ) (d : Link) → get new key ≡ Some d
      → channels_in new d.home.publisher d.home.subscriber ≡ channels_in old d.home.publisher d.home.subscriber
  follow-there old new apart apart' x key d at =
      channels-there new key d.home.publisher d.home.subscriber d apart' at refl refl ∙ elim (x.kept key d at) [
        | inl has ↦ ap channel_at (sym has.channels)
            ∙ sym (channels-there old has.key d.home.publisher d.home.subscriber has.link apart has.stands
            (ap (λ (h : Home). h.publisher) has.home) (ap (λ (h : Home). h.subscriber) has.home))
        | inr made ↦ made.is_new ∙ sym (none-new old d.home.publisher d.home.subscriber made.none)
      ]

  -- between ports of which none is gone channels are what they were
  pub follow-present : (old new : Slab Link) → IsApart old → IsApart new → ChannelsFollow Own Gone old new → (p q : ℕ)
      → (Gone p q → ⊥) → channels_in new p q ≡ channels_in old p q
  follow-present old new apart apart' x p q present = by (look_up (is_between p q) new.slots) refl where
    by : (o : Option Link) → look_up (is_between p q) new.slots ≡ o → channels_in new p q ≡ channels_in old p q
    by (Some d) e =
        let there = look_up-there (is_between p q) new.slots d e in
        let both = both-true _ _ there.2 in
        subst (λ (r : ℕ). channels_in new r q ≡ channels_in old r q) (eqb-true d.home.publisher p both.0)
        (subst (λ (r : ℕ). channels_in new d.home.publisher r ≡ channels_in old d.home.publisher r)
        (eqb-true d.home.subscriber q both.1)
        (follow-there old new apart apart' x there.0 d there.1))
    by None e = ap channels_if_any e ∙ sym (none-new old p q (λ key c at mine yours. elim (x.lost key c at) [
      | inl still ↦ absurd (let no : is_between p q still.link ≡ false = look_up-none
          (is_between p q) new.slots e still.key still.link still.stands in
          let yes : is_between p q still.link ≡ true =
          is_between-own p q still.link (ap (λ (h : Home). h.publisher) still.home ∙ mine)
          (ap (λ (h : Home). h.subscriber) still.home ∙ yours) in cc)
      | inr gone ↦
          absurd (present (subst (λ (r : ℕ). Gone r q) mine (subst (λ (r : ℕ). Gone c.home.publisher r) yours gone.1)))
    ]))
