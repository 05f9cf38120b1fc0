-- Connections whose channels are changed, one after the other.
use Rattle.std.proofs.Common.{◌≡◌, ℕ, ◌+◌, ◌<◌, ◌≤◌, Bool, true, false, cond, not, ◌&&◌, eqb, List, map, length, ◌⊎◌}
use Rattle.std.proofs.Common.{inl, inr, Option, None, Some, is_some, get_or, refl, ap, sym, ◌∙◌, arith}
use Rattle.std.proofs.lemmas.Bool.{cases_eq, eqb-true, eq-eqb}
use Rattle.std.specs.Option.{option_map}
use Rattle.slab.specs.Slab.{Slab, Updates, ContainsKey, get, with_value}
use Rattle.iox2_connections.specs.Link.{Link, channel_at, channels_changed, having_channels}
use Rattle.iox2_connections.proofs.ChannelLists.{changed-length, channels-twice}
use Rattle.iox2_machine.specs.machine.Channel.{Channel, is_closed, with_state}
use Rattle.iox2_connections.specs.Finds.{HasConnections}
use Rattle.iox2_connections.proofs.MailboxChanges.{Updates-with_value, both-true}
use Rattle.iox2_connections.proofs.Searches.{listed-at}
use Rattle.iox2_domain.specs.ChannelChanges.{ChangesLinks}
use Rattle.iox2_domain.specs.Departures.{HasKey}
use Rattle.iox2_domain.proofs.lemmas.containers.KeyWalks.{HasKeyBelow, next-listed, all-listed}
use Rattle.iox2_domain.proofs.lemmas.fields.Rechanneled.{plain_link}
use Rattle.iox2_messages.specs.ChannelChanges.{changed_channel, changed_link}
use Rattle.iox2_messages.specs.declared.changed_channels.ChannelChange.{ChannelChange}
use Rattle.iox2_messages.specs.declared.changed_channels.ChannelChange.TheVariants.{SetState, SetHint}

-- ---- one change

and-twice : (a b : Bool) → ((a && b) && b) ≡ (a && b)
and-twice true true = refl
and-twice true false = refl
and-twice false b = refl

-- a channel in that state
abbrev in_state : ℕ → Channel
in_state state = record { state = state; has_hint = false }

into-state : (state : ℕ) (channel : Channel) → (with_state state channel).state ≡ state
into-state state channel = by (eqb channel.state state) refl where
  by : (b : Bool) → eqb channel.state state ≡ b → (cond b channel (in_state state)).state ≡ state
  by true e = eqb-true channel.state state e
  by false e = refl

-- a channel that is changed so is changed
change-once : (change : ChannelChange) (channel : Channel)
    → changed_channel change (changed_channel change channel) ≡ changed_channel change channel
change-once (SetState state) channel = ap (λ (b : Bool). cond b (with_state state channel) (in_state state))
    (eq-eqb (with_state state channel).state state (into-state state channel))
change-once SetHint channel = refl

-- a change that is made again changes nothing more
pub changed-twice : (change : ChannelChange) (number expected : ℕ) (c : Link)
    → changed_link change number expected
    (changed_link change number expected c) ≡ changed_link change number expected c
changed-twice change number expected c =
    ap (λ (channels : List Channel). having_channels channels (having_channels changed c))
    (channels-twice expected (changed_channel change) (change-once change) number c.channels)
    ∙ (λ i. record c { is_open = and-twice c.is_open (not (is_closed (channel_at changed 0))) i; channels = changed })
  where
    changed : List Channel
    changed = channels_changed number expected (changed_channel change) c.channels

-- nothing but channels changes, and the mark
pub changed-plain : (change : ChannelChange) (number expected : ℕ) (c : Link)
    → plain_link (changed_link change number expected c) ≡ plain_link c
changed-plain change number expected c = refl

-- no channel comes or goes
pub changed-count : (change : ChannelChange) (number expected : ℕ) (c : Link)
    → length (changed_link change number expected c).channels ≡ length c.channels
changed-count change number expected c = changed-length expected (changed_channel change) number c.channels

-- no connection is marked newly
pub changed-mark : (change : ChannelChange) (number expected : ℕ) (c : Link)
    → (changed_link change number expected c).is_open ≡ true → c.is_open ≡ true
changed-mark change number expected c is =
    (both-true c.is_open
    (not (is_closed (channel_at (channels_changed number expected (changed_channel change) c.channels) 0))) is).0

-- ---- changes at keys

module _ (change : ChannelChange) (number expected : ℕ) where
  abbrev changed : Link → Link
  changed = changed_link change number expected

  -- at no key
  pub none-changed : (keys : ℕ → Type 0) (slab : Slab Link) → ((k : ℕ) → keys k → ⊥)
      → ChangesLinks changed keys slab slab
  none-changed keys slab none =
      record { at = λ k has. absurd (none k has); others = λ k. inl refl; only = λ k away. refl }

  -- at one
  pub one-changed : (slab : Slab Link) (key : ℕ) (c : Link) → get slab key ≡ Some c
      → ChangesLinks changed (λ k. Some key ≡ Some k) slab (with_value slab key (changed c))
  one-changed slab key c at = record {
    at = λ k is. here k (let same : key ≡ k = cc in same);
    others = λ k. elim (cases_eq k key) [ inl same ↦ inr (here k (sym same)) | inr away ↦ inl (updates.others k away) ];
    only = λ k away. updates.others k (λ same. away (ap Some (sym same)));
  } where
    updates : Updates slab (with_value slab key (changed c)) key (Some (changed c))
    updates = Updates-with_value slab key c (changed c) at

    here : (k : ℕ) → key ≡ k → get (with_value slab key (changed c)) k ≡ option_map changed (get slab k)
    here k same = ap (get (with_value slab key (changed c))) (sym same) ∙ updates.changed
        ∙ sym (ap (option_map changed) (ap (get slab) (sym same) ∙ at))

  once : (o : Option Link) → option_map changed (option_map changed o) ≡ option_map changed o
  once None = refl
  once (Some c) = ap Some (changed-twice change number expected c)

  -- first at some keys, and then at others
  pub both-changed : (first second keys : ℕ → Type 0) (old now new : Slab Link) → ChangesLinks changed first old now
      → ChangesLinks changed second now new
      → ((k : ℕ) → keys k → first k ⊎ second k) → ((k : ℕ) → first k → keys k) → ((k : ℕ) → second k → keys k)
      → ChangesLinks changed keys old new
  both-changed first second keys old now new a b either one other = record {
    at = λ k has. elim (either k has) [ inl is ↦ at_first k is | inr is ↦ at_second k is ];
    others = λ k. elim (a.others k) [
      | inl still ↦ elim (b.others k) [
        | inl still_too ↦ inl (still_too ∙ still)
        | inr is ↦ inr (is ∙ ap (option_map changed) still)
      ]
      | inr is ↦ inr (later k is)
    ];
    only = λ k away. b.only k (λ is. away (other k is)) ∙ a.only k (λ is. away (one k is));
  } where
    later : (k : ℕ) → get now k ≡ option_map changed (get old k) → get new k ≡ option_map changed (get old k)
    later k is = elim (b.others k) [
      | inl still ↦ still ∙ is
      | inr again ↦ again ∙ ap (option_map changed) is ∙ once (get old k)
    ]

    at_first : (k : ℕ) → first k → get new k ≡ option_map changed (get old k)
    at_first k is = later k (a.at k is)

    at_second : (k : ℕ) → second k → get new k ≡ option_map changed (get old k)
    at_second k is = elim (a.others k) [
      | inl still ↦ b.at k is ∙ ap (option_map changed) still
      | inr was ↦ later k was
    ]

  -- the same keys, said otherwise
  pub same-changed : (first keys : ℕ → Type 0) (old new : Slab Link) → ChangesLinks changed first old new
      → ((k : ℕ) → keys k → first k) → ((k : ℕ) → first k → keys k) → ChangesLinks changed keys old new
  same-changed first keys old new a into back =
      record {
        at = λ k has. a.at k (into k has);
        others = a.others;
        only = λ k away. a.only k (λ is. away (back k is));
      }

  -- connections stay where they are
  pub still-connected : (keys : ℕ → Type 0) (old new : Slab Link) → ChangesLinks changed keys old new
      → (ends : List (Option ℕ)) → HasConnections old ends → HasConnections new ends
  still-connected keys old new a ends has = record { at = λ i key at. still key (has.at i key at) } where
    through : (o : Option Link) → is_some (option_map changed o) ≡ is_some o
    through None = refl
    through (Some c) = refl

    still : (key : ℕ) → ContainsKey old key → ContainsKey new key
    still key there = elim (a.others key) [
      | inl same ↦ ap is_some same ∙ there
      | inr is ↦ ap is_some is ∙ through (get old key) ∙ there
    ]

  -- ---- walks over keys

  -- no key is below the first place
  pub walk-begins : (keys : List (Option ℕ)) (slab : Slab Link) → ChangesLinks changed (HasKeyBelow keys 0) slab slab
  walk-begins keys slab = none-changed (HasKeyBelow keys 0) slab (λ k has. omega (arith, has.1))

  -- the next key, of the element at the place
  pub walk-goes : {A : Type 0} (key_of : A → Option ℕ) (xs : List A) (place : ℕ) (x : A) (key : Option ℕ)
      → place < length xs → x ≡ get_or xs place x → key ≡ key_of x
      → (old now new : Slab Link) → ChangesLinks changed (HasKeyBelow (map key_of xs) place) old now
      → ChangesLinks changed (λ k. key ≡ Some k) now new
      → ChangesLinks changed (HasKeyBelow (map key_of xs) (place + 1)) old new
  walk-goes key_of xs place x key low there its old now new so_far one =
      both-changed (HasKeyBelow (map key_of xs) place) (λ k. key ≡ Some k)
      (HasKeyBelow (map key_of xs) (place + 1)) old now new so_far one
      (next-listed key_of xs place x key low there its) (λ k has. (has.0, omega (arith, has.1), has.2))
      (λ k is. (place, omega arith, listed-at key_of xs place x key low there its ∙ is))

  -- all keys
  pub walk-ends : {A : Type 0} (key_of : A → Option ℕ) (xs : List A) (place : ℕ) (old new : Slab Link)
      → ChangesLinks changed (HasKeyBelow (map key_of xs) place) old new → length xs ≤ place
      → ChangesLinks changed (HasKey (map key_of xs)) old new
  walk-ends key_of xs place old new so_far all =
      same-changed (HasKeyBelow (map key_of xs) place) (HasKey (map key_of xs)) old new so_far
      (λ k has. all-listed key_of xs place k all has) (λ k has. (has.0, has.2))
