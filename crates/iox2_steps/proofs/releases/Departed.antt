-- A subscriber forgets a departed publisher of which it has no message any more.
use Rattle.std.proofs.Common.{◌≡◌, ◌≢◌, ℕ, ◌+◌, Bool, true, false, ◌||◌, List, map, length, get_or, is_some, [], ◌∷◌}
use Rattle.std.proofs.Common.{arith, Option, None, Some, refl, ap, sym, subst, ◌∙◌, inl, inr, ◌⊎◌}
use Rattle.std.proofs.lemmas.Bool.{eq-eqb, or_right}
use Rattle.std.specs.Option.{option_map}
use Rattle.slab.specs.Slab.{Slab, Updates, get}
use Rattle.iox2_connections.specs.Link.{Link, load}
use Rattle.iox2_machine.specs.machine.Mailbox.{has_numbers, ChannelNumber}
use Rattle.iox2_machine.specs.machine.Numbers.{put_at, contains}
use Rattle.iox2_machine.specs.machine.Records.{Publisher, Subscriber}
use Rattle.iox2_machine.specs.machine.Releases.{is_connected, pruned, subscriber_pruned, unborrowed}
use Rattle.iox2_machine.specs.machine.State.{State, is_present}
use Rattle.iox2_machine.specs.machine.WellFormed.{IsWellFormed, LeadsTo}
use Rattle.iox2_connections.specs.Finds.{IsReceivers}
use Rattle.iox2_connections.specs.LookUp.{look_up}
use Rattle.iox2_connections.specs.Mailboxes.{publisher_of_key, mailbox_of, numbered}
use Rattle.iox2_connections.proofs.LookUps.{look_up-none}
use Rattle.iox2_connections.proofs.MailboxChanges.{is_between-own, mailbox-there}
use Rattle.iox2_domain.specs.Departures.{key_forgotten}
use Rattle.iox2_domain.specs.Fields.{Fields, kept_of, number_in_slot, publisher_of, subscriber_of}
use Rattle.iox2_domain.specs.Invariant.{SenderHas, is_publisher, HasParts}
use Rattle.iox2_domain.specs.Kept.{state_of}
use Rattle.iox2_domain.specs.Midway.{IsMidway, with_channels_of}
use Rattle.iox2_domain.specs.Ports.{SubscriberFields}
use Rattle.iox2_domain.proofs.lemmas.fields.LostConnections.{unloaded}
use Rattle.iox2_domain.proofs.lemmas.fields.Standing.{occupant-receiver_ends, some_is}
use Rattle.iox2_domain.proofs.lemmas.fields.Views.{mailboxes-are}
use Rattle.iox2_steps.proofs.releases.Forgotten.{forgetting, forgetting-midway}
use Rattle.iox2_steps.proofs.releases.ForgottenEnds.{ends-forgotten, expired-contains, expired-forgotten}
use Rattle.iox2_steps.proofs.releases.Pruning.{others-connected, pruned-none}
use Rattle.iox2_domain.proofs.lemmas.fields.ConnectionEnds.{subscriber-stands}
use Rattle.std.specs.Prelude.{IsSomeAnd}
use Rattle.iox2_domain.proofs.lemmas.fields.NamedPorts.{named-nowhere}

-- a publisher that stands nowhere is gone
pub gone-in : {T U : Type 0} (f : Fields T U) (p : ℕ) → look_up (is_publisher p) f.publishers ≡ None
    → (state_of (kept_of f)).publishers p ≡ None
gone-in f p = named-nowhere (publisher_of f.books f.connections) p f.publishers

-- and has no connection
pub nobody-has : {T U : Type 0} (f : Fields T U) (key : ℕ) (c : Link)
    → look_up (is_publisher c.home.publisher) f.publishers ≡ None → SenderHas f.publishers key c → ⊥
nobody-has f key c none has =
    let no = look_up-none
    (is_publisher c.home.publisher) f.publishers none c.home.publisher_place has.publisher has.stands in
    let yes = eq-eqb has.publisher.id c.home.publisher has.is_its in
    let clash : true ≡ false = sym yes ∙ no in absurd cc

module _ {T U : Type 0} (s : State T U) (well : IsWellFormed s) (n : ℕ) (g : Fields T U) (parts : HasParts g) (j : ℕ)
    (y : SubscriberFields) (at_y : get_or g.subscribers j None ≡ Some y)
    (key : ℕ) (c : Link) (at_c : get g.connections key ≡ Some c) (mine : c.home.subscriber ≡ y.id) (empty : load c ≡ 0)
    (gone : look_up (is_publisher c.home.publisher) g.publishers ≡ None) (new : Slab Link)
    (goes : Updates g.connections new key None)
    (is : state_of (kept_of g) ≡ with_channels_of g (unborrowed s c.home.publisher y.id n)) where
  abbrev after : State T U
  after = unborrowed s c.home.publisher y.id n

  -- the machine's subscriber
  abbrev port : Subscriber
  port = (subscriber_of g.books g.connections y).port

  here : s.subscribers y.id ≡ Some port
  here = ap (λ (t : State T U). t.subscribers y.id) (sym is) ∙ subscriber-stands g parts j y at_y

  abbrev test : ℕ → Bool
  test = is_connected after y.id

  -- it has nothing to do with the publisher any more
  test-gone : test c.home.publisher ≡ false
  test-gone =
      ap (λ b. b || has_numbers (after.mailboxes c.home.publisher y.id))
      (ap (λ (o : Option Publisher). is_some o)
      (ap (λ (t : State T U). t.publishers c.home.publisher) (sym is) ∙ gone-in g c.home.publisher gone))
      ∙ ap has_numbers
      (ap (λ (t : State T U). t.mailboxes c.home.publisher y.id) (sym is) ∙ mailboxes-are g c.home.publisher y.id
      ∙ mailbox-there (number_in_slot g.books) g.connections key c.home.publisher y.id c parts.apart at_c refl mine)
      ∙ none
    where
      none : has_numbers (mailbox_of (number_in_slot g.books c.home.publisher) c) ≡ false
      none = let is = unloaded c empty in rw (is.waiting, is.borrowed, is.others) refl

  -- another connection of it is with another publisher
  other-publisher : (k : ℕ) (d : Link) → k ≢ key → get g.connections k ≡ Some d → d.home.subscriber ≡ y.id
      → d.home.publisher ≢ c.home.publisher
  other-publisher k d away at_d its same =
      away ((parts.apart.one c.home.publisher y.id).one k key d c at_d at_c
      (is_between-own c.home.publisher y.id d same its) (is_between-own c.home.publisher y.id c refl mine))

  -- a publisher to which another key of it leads stays
  passes : (k : ℕ) → k ≢ key
      → IsSomeAnd (get g.connections k) (IsReceivers y.id (g.config).subscriber_max_borrowed_samples)
      → ((r : ℕ) → publisher_of_key g.connections (Some k) ≡ Some r
      → (contains port.expired r ≡ true) ⊎ LeadsTo port.ends r)
      → (r : ℕ) × (publisher_of_key g.connections (Some k) ≡ Some r) × (test r ≡ true)
  passes k away linked known =
      let own = some_is (IsReceivers y.id _) (get g.connections k) linked in
      let d = own.0 in
      let leads : publisher_of_key g.connections (Some k) ≡ Some d.home.publisher =
      ap (option_map (λ (x : Link). x.home.publisher)) own.1 in (
        d.home.publisher,
        leads,
        others-connected s well c.home.publisher y.id n port here d.home.publisher
            (other-publisher k d away own.1 own.2.subscriber) (known d.home.publisher leads),
      )

  ends-pass : (i k : ℕ) → get_or y.keys i None ≡ Some k → k ≢ key
      → (r : ℕ) × (publisher_of_key g.connections (Some k) ≡ Some r) × (test r ≡ true)
  ends-pass i k at_k away = passes k away ((parts.linked.receivers j y at_y).at i k at_k)
      (λ r leads.
      inr (i, occupant-receiver_ends g.connections y.keys i ∙ ap (publisher_of_key g.connections) at_k ∙ leads))

  expired-pass : (i k : ℕ) → get_or (map Some y.expired) i None ≡ Some k → k ≢ key
      → (r : ℕ) × (publisher_of_key g.connections (Some k) ≡ Some r) × (test r ≡ true)
  expired-pass i k at_k away = passes k away ((parts.linked.expired j y at_y).at i k at_k)
      (λ r leads. inl (expired-contains g.connections y.expired i k r at_k leads))

  leads-there : publisher_of_key g.connections (Some key) ≡ Some c.home.publisher
  leads-there = ap (option_map (λ (x : Link). x.home.publisher)) at_c

  pruned-port : (subscriber_of g.books g.connections (key_forgotten key y)).port ≡ pruned after y.id port
  pruned-port = λ i. record port {
    ends = ends-forgotten g.connections key c.home.publisher leads-there test test-gone y.keys ends-pass i;
    expired = expired-forgotten g.connections key c.home.publisher leads-there test test-gone y.expired expired-pass i;
  }

  pruned-state : record after {
    subscribers = put_at after.subscribers y.id
        (Some ((subscriber_of g.books g.connections (key_forgotten key y)).port));
  } ≡ subscriber_pruned after y.id
  pruned-state =
      ap (λ (o : Option Subscriber).
      let t : State T U = record after { subscribers = put_at after.subscribers y.id o } in t)
      (ap Some pruned-port ∙ ap (option_map (pruned after y.id)) (sym here))

  -- the machine's subscriber is pruned
  pub departed-midway : (old : Fields T U) (book : ℕ) → IsMidway old g after book
      → IsMidway old (forgetting g parts j y at_y key c at_c mine (unloaded c empty) (nobody-has g key c gone) new goes)
      (subscriber_pruned after y.id) book
  departed-midway old book midway =
      subst (λ (t : State T U). IsMidway old (forgetting g parts j y at_y key c at_c mine (unloaded c empty)
      (nobody-has g key c gone) new goes) t book) pruned-state
      (forgetting-midway g parts j y at_y key c at_c mine (unloaded c empty)
      (nobody-has g key c gone) new goes old after book midway)

-- some slot stands in a connection, and none was given back
some-numbers : (number : ℕ → ℕ) (others : List ChannelNumber) (waiting borrowed returned : List ℕ) → returned ≡ []
    → (length waiting + length borrowed + length returned + length others ≡ 0 → ⊥)
    → has_numbers (record {
      waiting = map number waiting;
      borrowed = map number borrowed;
      others = numbered number others;
    }) ≡ true
some-numbers number [] [] [] returned none full = absurd (full (omega (arith, ap (length {A = ℕ}) none)))
some-numbers number [] [] (x ∷ borrowed) returned none full = refl
some-numbers number [] (x ∷ waiting) borrowed returned none full = refl
some-numbers number (m ∷ others) waiting borrowed returned none full = refl

module _ {T U : Type 0} (s : State T U) (well : IsWellFormed s) (n : ℕ) (g : Fields T U) (parts : HasParts g) (j : ℕ)
    (y : SubscriberFields) (at_y : get_or g.subscribers j None ≡ Some y)
    (key : ℕ) (c : Link) (at_c : get g.connections key ≡ Some c) (mine : c.home.subscriber ≡ y.id)
    (full : load c ≡ 0 → ⊥)
    (gone : look_up (is_publisher c.home.publisher) g.publishers ≡ None) where
  -- a departed publisher of which something is left isn't key_forgotten
  pub left-midway : (old : Fields T U) (book : ℕ) → IsMidway old g (unborrowed s c.home.publisher y.id n) book
      → IsMidway old g (subscriber_pruned (unborrowed s c.home.publisher y.id n) y.id) book
  left-midway old book midway =
      subst (λ (t : State T U). IsMidway old g t book)
      (sym (pruned-none s well c.home.publisher y.id n (subscriber_of g.books g.connections y).port
      (ap (λ (t : State T U). t.subscribers y.id) (sym midway.state) ∙ subscriber-stands g parts j y at_y)
      (or_right (is_present s c.home.publisher)
      (has_numbers ((unborrowed s c.home.publisher y.id n).mailboxes c.home.publisher y.id)) some))) midway
    where
      returned : SenderHas g.publishers key c ⊎ (c.returned ≡ []) → c.returned ≡ []
      returned (inl has) = absurd (nobody-has g key c gone has)
      returned (inr none) = none

      some : has_numbers ((unborrowed s c.home.publisher y.id n).mailboxes c.home.publisher y.id) ≡ true
      some =
          ap has_numbers (ap (λ (t : State T U). t.mailboxes c.home.publisher y.id) (sym midway.state)
          ∙ mailboxes-are g c.home.publisher y.id
          ∙ mailbox-there (number_in_slot g.books) g.connections key c.home.publisher y.id c parts.apart at_c refl mine)
          ∙ some-numbers (number_in_slot g.books c.home.publisher) c.others c.waiting c.borrowed c.returned
          (returned (parts.linked.returned key c at_c)) full

-- the key of a departed publisher stands at its place alone
pub key-place : {T U : Type 0} (g : Fields T U) → HasParts g → (j i key : ℕ) (y : SubscriberFields) (c : Link)
    → get_or g.subscribers j None ≡ Some y → get_or y.keys i None ≡ Some key
    → get g.connections key ≡ Some c → i ≡ c.home.publisher_place
key-place g parts j i key y c at_y at_k at_c = sym (parts.linked.receiver_places j i key y c at_y at_k at_c)
