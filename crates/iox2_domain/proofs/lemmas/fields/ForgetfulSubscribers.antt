-- Subscribers alone forget connections: one of them has fewer keys, or goes.
use Rattle.std.proofs.Common.{◌≡◌, ℕ, List, true, get_or, slice_set, Contains, Option, None, Some, refl, ap, sym, subst}
use Rattle.std.proofs.Common.{◌∙◌, inl, inr, ◌⊎◌}
use Rattle.std.proofs.lemmas.Bool.{eq-eqb}
use Rattle.slab.specs.Slab.{Slab, get}
use Rattle.iox2_connections.specs.Link.{Link}
use Rattle.iox2_machine.specs.machine.Numbers.{put_at}
use Rattle.iox2_domain.specs.Fields.{Fields, kept_of, subscriber_of}
use Rattle.iox2_domain.specs.Invariant.{HasOpenReceiver, HasParts, ReceiverHas, SenderHas}
use Rattle.iox2_domain.specs.Kept.{state_of}
use Rattle.iox2_domain.specs.Midway.{with_channels_of}
use Rattle.iox2_domain.specs.Ports.{PublisherFields, SubscriberFields}
use Rattle.iox2_domain.proofs.lemmas.containers.ChangedRecords.{changed-here, changed-still, changed-stood}
use Rattle.iox2_domain.proofs.lemmas.fields.ForgottenKeys.{ForgetsReceiverKeys, ForgetsSenderKeys, Forgets, IsForgotten}
use Rattle.iox2_domain.proofs.lemmas.fields.ForgottenKeys.{forgotten}
use Rattle.iox2_domain.proofs.lemmas.fields.ForgottenStates.{forgotten-is}
use Rattle.iox2_domain.proofs.lemmas.fields.LostConnections.{IsEmptyLink}
use Rattle.iox2_domain.proofs.lemmas.fields.OpenReceivers.{open-changed}
use Rattle.iox2_domain.proofs.lemmas.fields.SubscriberSet.{subscriber_set-is}

-- nothing of a port changes
pub same-sender : (x : PublisherFields) → ForgetsSenderKeys x x
same-sender x = record { fields = refl; keys = λ i key at. at }

pub same-receiver : (y : SubscriberFields) → ForgetsReceiverKeys y y
same-receiver y = record { fields = refl; keys = λ i key at. at; expired = λ key has. inl has }

-- Subscribers have no keys but those that they had; a connection that is left has a port; one in which no slot stands,
-- and which no port has, may be gone.
pub record SubscribersForget {T U : Type 0} (f : Fields T U) (subscribers : List (Option SubscriberFields))
    (connections : Slab Link) : Type 0 where
  pub receivers : (i : ℕ) (y' : SubscriberFields) → get_or subscribers i None ≡ Some y'
      → (y : SubscriberFields) × (get_or f.subscribers i None ≡ Some y) × ForgetsReceiverKeys y y'
  pub fewer : (key : ℕ) (c : Link) → get connections key ≡ Some c → get f.connections key ≡ Some c
  pub gone : (key : ℕ) (c : Link) → get f.connections key ≡ Some c → get connections key ≡ None
      → IsForgotten f.publishers subscribers key c
  pub still : (key : ℕ) (c : Link) → get connections key ≡ Some c → ReceiverHas f.subscribers key c
      → SenderHas f.publishers key c ⊎ ReceiverHas subscribers key c
  pub opens : (key : ℕ) (c : Link) → get connections key ≡ Some c → c.is_open ≡ true → HasOpenReceiver f.subscribers c
      → HasOpenReceiver subscribers c

-- The subscriber has the connection at its publisher's place, or among the expired ones.
abbrev pub Knows : SubscriberFields → (key : ℕ) → Link → Type 0
Knows y key c = (get_or y.keys c.home.publisher_place None ≡ Some key) ⊎ Contains y.expired key

-- The subscriber y has changed into y', and of its connections those may be gone that nobody has and in which no slot
-- stands.
pub record Forgetful {T U : Type 0} (f : Fields T U) (y y' : SubscriberFields) (connections : Slab Link) : Type 0 where
  pub keys : ForgetsReceiverKeys y y'
  pub fewer : (key : ℕ) (c : Link) → get connections key ≡ Some c → get f.connections key ≡ Some c
  pub gone : (key : ℕ) (c : Link) → get f.connections key ≡ Some c → get connections key ≡ None
      → (c.home.subscriber ≡ y.id) × (SenderHas f.publishers key c → ⊥) × (Knows y' key c → ⊥) × IsEmptyLink c
  pub knows : (key : ℕ) (c : Link) → get connections key ≡ Some c → Knows y key c → Knows y' key c

module _ {T U : Type 0} (f : Fields T U) (parts : HasParts f) where
  pub subscribers-forget : (subscribers : List (Option SubscriberFields)) (connections : Slab Link)
      → SubscribersForget f subscribers connections → Forgets f f.publishers subscribers connections
  subscribers-forget subscribers connections g = record {
    senders = λ i x at. (x, at, same-sender x);
    senders_stay = λ i x at. (x, at, same-sender x);
    receivers = g.receivers;
    fewer = g.fewer;
    gone = g.gone;
    ends = λ key c at.
        elim (parts.linked.ends key c (g.fewer key c at)) [ inl has ↦ inl has | inr has ↦ g.still key c at has ];
    returned = λ key c at. parts.linked.returned key c (g.fewer key c at);
    marked = λ key c at is. let both = parts.linked.marked key c (g.fewer key c at) is in
        record { sender = both.sender; receiver = g.opens key c at is both.receiver };
  }

  module _ (j : ℕ) (y : SubscriberFields) (at_y : get_or f.subscribers j None ≡ Some y) where
    -- where a subscriber with its id stands
    pub its-place : (i : ℕ) (z : SubscriberFields) → get_or f.subscribers i None ≡ Some z → z.id ≡ y.id → i ≡ j
    its-place i z at_z same =
        (parts.subscriber_ids y.id).one i j z y at_z at_y (eq-eqb z.id y.id same) (eq-eqb y.id y.id refl)

    module _ (y' : SubscriberFields) (id : y'.id ≡ y.id) (connections : Slab Link) where
      abbrev subscribers : List (Option SubscriberFields)
      subscribers = slice_set f.subscribers j (Some y')

      -- who stands afterwards is the changed one, or another that stood there
      pub forgetful-stood : ForgetsReceiverKeys y y' → (i : ℕ) (z : SubscriberFields)
          → get_or subscribers i None ≡ Some z
          → (w : SubscriberFields) × (get_or f.subscribers i None ≡ Some w) × ForgetsReceiverKeys w z
      forgetful-stood keys i z at_z = elim (changed-stood f.subscribers j y y' at_y i z at_z) [
        | inl here ↦ (
          y,
          ap (λ (n : ℕ). get_or f.subscribers n None) here.0 ∙ at_y,
          subst (ForgetsReceiverKeys y) (sym here.1) keys,
        )
        | inr old ↦ (z, old, same-receiver z)
      ]

      -- a subscriber that had a connection has it, where the one that changed does
      pub forgetful-has : (key : ℕ) (c : Link) → (Knows y key c → Knows y' key c) → ReceiverHas f.subscribers key c
          → ReceiverHas subscribers key c
      forgetful-has key c knows has =
          elim (changed-still f.subscribers j y y' at_y c.home.subscriber_place has.subscriber has.stands) [
            | inl here ↦ record {
              subscriber = y';
              stands = ap (λ (n : ℕ). get_or subscribers n None) here.0 ∙ changed-here f.subscribers j y y' at_y;
              is_its = id ∙ ap (λ (z : SubscriberFields). z.id) (sym here.1) ∙ has.is_its;
              has = knows (subst (λ (z : SubscriberFields). Knows z key c) here.1 has.has);
            }
            | inr there ↦ record { subscriber = has.subscriber; stands = there; is_its = has.is_its; has = has.has }
          ]

      -- a connection of the changed subscriber is nobody else's
      unreceived : (key : ℕ) (c : Link) → c.home.subscriber ≡ y.id → (Knows y' key c → ⊥)
          → ReceiverHas subscribers key c → ⊥
      unreceived key c its none has =
          none (subst (λ (z : SubscriberFields). Knows z key c)
          (elim (changed-stood f.subscribers j y y' at_y c.home.subscriber_place has.subscriber has.stands)
          [ inl here ↦ here.1 | inr old ↦ it old ]) has.has)
        where
          it : get_or f.subscribers c.home.subscriber_place None ≡ Some has.subscriber → has.subscriber ≡ y'
          it old =
              let here : c.home.subscriber_place ≡ j =
              its-place c.home.subscriber_place has.subscriber old (has.is_its ∙ its) in
              let one : Some has.subscriber ≡ Some y' = sym has.stands ∙ ap (λ (n : ℕ). get_or subscribers n None) here
              ∙ changed-here f.subscribers j y y' at_y in
              cc

      pub forgetful : y'.is_open ≡ y.is_open → Forgetful f y y' connections
          → Forgets f f.publishers subscribers connections
      forgetful is_open g = subscribers-forget subscribers connections (record {
        receivers = forgetful-stood g.keys;
        fewer = g.fewer;
        gone = λ key c at none. let was = g.gone key c at none in
            record { no_sender = was.1; no_receiver = unreceived key c was.0 was.2; empty = was.3 };
        still = λ key c at has. inr (forgetful-has key c (g.knows key c at) has);
        opens = λ key c at is has. open-changed f.subscribers j y y' at_y id is_open c has;
      })

      -- the machine sees the changed subscriber alone
      pub forgets-is : (g : Forgets f f.publishers subscribers connections)
          → state_of (kept_of (forgotten f parts f.publishers subscribers connections g))
          ≡ with_channels_of (forgotten f parts f.publishers subscribers connections g)
          (record (state_of (kept_of f)) {
            subscribers = put_at (state_of (kept_of f)).subscribers y.id
                (Some ((subscriber_of f.books f.connections y').port));
          })
      forgets-is g = forgotten-is f parts f.publishers subscribers connections g
          ∙ ap (with_channels_of (forgotten f parts f.publishers subscribers connections g))
          (subscriber_set-is f j y y' at_y id parts.subscriber_ids)
