-- Channels are changed at keys, and a domain shows it.
use Rattle.std.proofs.Common.{◌≡◌, ◌<◌, ℕ, Bool, true, false, cond, eqb, length, inl, inr, Option, None, Some, refl, ap}
use Rattle.std.proofs.Common.{sym, subst, ◌∙◌}
use Rattle.std.proofs.lemmas.Bool.{eqb-true}
use Rattle.std.proofs.lemmas.Option.{same_Some}
use Rattle.std.specs.Option.{option_map}
use Rattle.slab.specs.Slab.{Slab, get}
use Rattle.iox2_connections.specs.Link.{Link}
use Rattle.iox2_connections.proofs.ChannelLists.{changed-reads}
use Rattle.iox2_connections.specs.declared.connection.Home.{Home}
use Rattle.iox2_machine.specs.machine.Channel.{Channel, changed_if}
use Rattle.iox2_machine.specs.machine.Limits.{channel_count}
use Rattle.iox2_machine.specs.machine.State.{State}
use Rattle.iox2_connections.specs.Homes.{IsApart}
use Rattle.iox2_connections.specs.LookUp.{look_up}
use Rattle.iox2_connections.specs.Mailboxes.{is_between, channels_if_any, channels_in}
use Rattle.iox2_connections.proofs.LookUps.{look_up-there}
use Rattle.iox2_connections.proofs.MailboxChanges.{both-true, channels-there}
use Rattle.iox2_domain.specs.ChannelChanges.{ChangesLinks}
use Rattle.iox2_domain.specs.Fields.{Fields, kept_of}
use Rattle.iox2_domain.specs.Invariant.{IsDomain}
use Rattle.iox2_domain.specs.Kept.{state_of}
use Rattle.iox2_domain.specs.Reaches.{Reaches}
use Rattle.iox2_domain.proofs.lemmas.fields.KeptChannels.{look_up-alike}
use Rattle.iox2_domain.proofs.lemmas.fields.Rechanneled.{plain_link, SameButChannels, plain-seats, rechanneled-reaches}
use Rattle.iox2_domain.proofs.lemmas.fields.SameSeats.{seat_of, sender-seated, open-seated}
use Rattle.iox2_messages.specs.ChannelChanges.{changed_channel, changed_link}
use Rattle.iox2_messages.specs.declared.changed_channels.ChannelChange.{ChannelChange}
use Rattle.iox2_messages.proofs.ChangedLinks.{changed-count, changed-mark, changed-plain}
use mathlib.Core.Path.{fun_ext}

-- ---- all channels

module _ (change : ChannelChange) (number expected : ℕ) (keys : ℕ → Type 0) (old new : Slab Link)
    (changes : ChangesLinks (changed_link change number expected) keys old new) where
  -- nothing but channels changed, and marks
  pub changes-channels : SameButChannels old new
  changes-channels = record {
    same = λ k. elim (changes.others k) [
      | inl still ↦ ap (option_map plain_link) still
      | inr is ↦ ap (option_map plain_link) is ∙ through (get old k)
    ];
    counts = λ k. elim (changes.others k) [
      | inl still ↦ ap (option_map count) still
      | inr is ↦ ap (option_map count) is ∙ counted (get old k)
    ];
  } where
    count : Link → ℕ
    count c = length c.channels

    counted : (o : Option Link)
        → option_map count (option_map (changed_link change number expected) o) ≡ option_map count o
    counted None = refl
    counted (Some c) = ap Some (changed-count change number expected c)

    through : (o : Option Link)
        → option_map plain_link (option_map (changed_link change number expected) o) ≡ option_map plain_link o
    through None = refl
    through (Some c) = ap Some (changed-plain change number expected c)

  -- a connection that is marked as open was so
  pub marked-before : (k : ℕ) (d : Link) → get new k ≡ Some d → d.is_open ≡ true
      → (c : Link) × (get old k ≡ Some c) × (c.is_open ≡ true) × (seat_of c ≡ seat_of d)
  marked-before k d at marked = elim (changes.others k) [
    | inl still ↦ (d, sym still ∙ at, marked, refl)
    | inr is ↦ by (get old k) refl (sym at ∙ is)
  ] where
    by : (o : Option Link) → get old k ≡ o → Some d ≡ option_map (changed_link change number expected) o
        → (c : Link) × (get old k ≡ Some c) × (c.is_open ≡ true) × (seat_of c ≡ seat_of d)
    by None e h = absurd cc
    by (Some c) e h =
        let is : d ≡ changed_link change number expected c = same_Some _ _ h in (
          c,
          e,
          changed-mark change number expected c (ap (λ (l : Link). l.is_open) (sym is) ∙ marked),
          sym (ap seat_of is ∙ ap seat_of (changed-plain change number expected c)),
        )

  module _ (apart : IsApart old) (apart' : IsApart new)
      (within : (k : ℕ) (c : Link) → get old k ≡ Some c → number < length c.channels) (p q : ℕ) where
    abbrev before : ℕ → Channel
    before = channels_in old p q

    -- the channels of these two ports are changed where one of the keys leads to a connection between them
    pub channels-changed : (hit : Bool)
        → (hit ≡ true
        → (k : ℕ) × (c : Link) × keys k × (get old k ≡ Some c) × (c.home.publisher ≡ p) × (c.home.subscriber ≡ q))
        → (hit ≡ false → (k : ℕ) (c : Link) → keys k → get old k ≡ Some c → c.home.publisher ≡ p → c.home.subscriber ≡ q
        → ⊥)
        → channels_in new p q ≡ cond hit (changed_if number expected (changed_channel change) before) before
    channels-changed true found missed =
        let it = found refl in
        let c = it.1 in
        let home : (changed_link change number expected c).home ≡ c.home =
        ap (λ (l : Link). l.home) (changed-plain change number expected c) in
        channels-there new it.0 p q (changed_link change number expected c) apart'
        (changes.at it.0 it.2 ∙ ap (option_map (changed_link change number expected)) it.3)
        (ap (λ (h : Home). h.publisher) home ∙ it.4) (ap (λ (h : Home). h.subscriber) home ∙ it.5)
        ∙ changed-reads expected (changed_channel change) number c.channels (within it.0 c it.3)
        ∙ ap (changed_if number expected (changed_channel change))
        (sym (channels-there old it.0 p q c apart it.3 it.4 it.5))
    channels-changed false found missed = by (look_up (is_between p q) old.slots) refl where
      by : (o : Option Link) → look_up (is_between p q) old.slots ≡ o → channels_in new p q ≡ before
      by None e = none (look_up (is_between p q) new.slots) refl
          (look_up-alike plain_link (is_between p q) old.slots new.slots changes-channels.same
          ∙ ap (option_map plain_link) e) where
            none : (o : Option Link) → look_up (is_between p q) new.slots ≡ o
                → option_map plain_link (look_up (is_between p q) new.slots) ≡ None → channels_in new p q ≡ before
            none None f h = ap channels_if_any (f ∙ sym e)
            none (Some d) f h =
                absurd (let no : Some (plain_link d) ≡ None = sym (ap (option_map plain_link) f) ∙ h in cc)
      by (Some c) e =
          let there = look_up-there (is_between p q) old.slots c e in
          let both = both-true (eqb c.home.publisher p) (eqb c.home.subscriber q) there.2 in
          let mine : c.home.publisher ≡ p = eqb-true c.home.publisher p both.0 in
          let yours : c.home.subscriber ≡ q = eqb-true c.home.subscriber q both.1 in
          channels-there new there.0 p q c apart'
          (changes.only there.0 (λ has. missed refl there.0 c has there.1 mine yours) ∙ there.1) mine yours
          ∙ sym (channels-there old there.0 p q c apart there.1 mine yours)

-- ---- a domain

module _ {T U : Type 0} (f : Fields T U) (sound : IsDomain f) (change : ChannelChange) (number expected : ℕ)
    (keys : ℕ → Type 0) (new : Slab Link)
    (changes : ChangesLinks (changed_link change number expected) keys f.connections new) where
  abbrev s : State T U
  s = state_of (kept_of f)

  -- nothing but channels changed
  pub changed-reaches : Reaches f (record f { connections = new }) (record s { channels = channels_in new })
  changed-reaches = rechanneled-reaches f sound new same (λ k d at is.
      let was = marked-before change number expected keys f.connections new changes k d at is in
      let between = sound.parts.linked.marked k was.0 was.1 was.2 in
      record {
        sender = sender-seated f new (plain-seats f.connections new same) k was.0 d was.3 between.sender;
        receiver = open-seated f new (plain-seats f.connections new same) was.0 d was.3 between.receiver;
      })
    where
      same : SameButChannels f.connections new
      same = changes-channels change number expected keys f.connections new changes

  -- a channel of the service is there in each connection
  pub channel-there : number < channel_count f.config → (k : ℕ) (c : Link) → get f.connections k ≡ Some c
      → number < length c.channels
  channel-there below k c at =
      subst (λ (count : ℕ). number < count) (sym (sound.parts.linked.channel_counts k c at)) below

  pub apart-still : IsApart new
  apart-still = changed-reaches.agrees.parts.apart

  -- and these are what is said of them
  pub reaches-changed : (channels : ℕ → ℕ → ℕ → Channel) → ((p q : ℕ) → channels_in new p q ≡ channels p q)
      → Reaches f (record f { connections = new }) (record s { channels = channels })
  reaches-changed channels are =
      subst (λ (w : ℕ → ℕ → ℕ → Channel). Reaches f (record f { connections = new }) (record s { channels = w }))
      (fun_ext (λ p. fun_ext (λ q. are p q))) changed-reaches
