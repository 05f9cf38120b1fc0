-- What a look at a place finds.
use Rattle.std.proofs.Common.{◌≡◌, ℕ, true, false, List, get_or, refl, ap, sym, ◌∙◌, is_some}
use Rattle.std.specs.declared.option.Option.{Option}
use Rattle.std.specs.declared.option.Option.TheVariants.{None, Some}
use Rattle.std.specs.Option.{option_map, option_and_then, IsSomeAnd}
use Rattle.slab.specs.Slab.{get, ContainsKey}
use Rattle.iox2_connections.specs.Homes.{IsSenders}
use Rattle.iox2_connections.specs.Finds.{IsReceivers}
use Rattle.iox2_domain.specs.Ports.{PublisherFields, SubscriberFields}
use Rattle.iox2_domain.specs.Fields.{Fields}
use Rattle.iox2_domain.specs.Invariant.{IsDomain}
use Rattle.iox2_domain.specs.Updates.{sender_key, receiver_key}

-- somebody stands there
pub somebody : (o : Option PublisherFields) → is_some (option_map (λ (x : PublisherFields). x.id) o) ≡ true
    → (x : PublisherFields) × (o ≡ Some x)
somebody None e = absurd cc
somebody (Some x) e = (x, refl)

-- or nobody
pub nobody-there : (o : Option PublisherFields) → is_some (option_map (λ (x : PublisherFields). x.id) o) ≡ false
    → o ≡ None
nobody-there None e = refl
nobody-there (Some x) e = absurd cc

pub no-id : (o : Option PublisherFields) → option_map (λ (x : PublisherFields). x.id) o ≡ None → o ≡ None
no-id None e = refl
no-id (Some x) e = absurd cc

pub its-id : (o : Option PublisherFields) (p : ℕ) → option_map (λ (x : PublisherFields). x.id) o ≡ Some p
    → (x : PublisherFields) × (o ≡ Some x) × (x.id ≡ p)
its-id None p e = absurd cc
its-id (Some x) p e = (x, refl, cc)

module _ (subscribers : List (Option SubscriberFields)) (j i : ℕ) where
  -- a subscriber has the key that was found
  pub key-there : (key : ℕ) → receiver_key subscribers j i ≡ Some key
      → (y : SubscriberFields) × (get_or subscribers j None ≡ Some y) × (get_or y.keys i None ≡ Some key)
  key-there key = by (get_or subscribers j None) refl where
    by : (o : Option SubscriberFields) → get_or subscribers j None ≡ o
        → option_and_then (λ (y : SubscriberFields). get_or y.keys i None) o ≡ Some key
        → (y : SubscriberFields) × (get_or subscribers j None ≡ Some y) × (get_or y.keys i None ≡ Some key)
    by None at e = absurd cc
    by (Some y) at e = (y, at, e)

  -- the key of the subscriber that stands there is the one that was found
  pub key-of : (y : SubscriberFields) (o : Option ℕ) → get_or subscribers j None ≡ Some y
      → receiver_key subscribers j i ≡ o → get_or y.keys i None ≡ o
  key-of y o at e = sym (ap (option_and_then (λ (z : SubscriberFields). get_or z.keys i None)) at) ∙ e

module _ {T U : Type 0} (f : Fields T U) (sound : IsDomain f) where
  some-there : {A : Type 0} (P : A → Type 0) (o : Option A) → IsSomeAnd o P → is_some o ≡ true
  some-there P None h = absurd h
  some-there P (Some x) h = refl

  -- the key that a publisher has leads to a connection
  pub sender-stands : (i j key : ℕ) → sender_key f.publishers i j ≡ Some key → ContainsKey f.connections key
  sender-stands i j key = by (get_or f.publishers i None) refl where
    by : (o : Option PublisherFields) → get_or f.publishers i None ≡ o
        → option_and_then (λ (x : PublisherFields). get_or x.keys j None) o ≡ Some key → ContainsKey f.connections key
    by None at e = absurd cc
    by (Some x) at e =
        some-there (IsSenders x.id j) (get f.connections key) ((sound.parts.linked.senders i x at).at j key e)

  -- and so does the key that a subscriber has
  pub receiver-stands : (j i key : ℕ) (y : SubscriberFields) → get_or f.subscribers j None ≡ Some y
      → get_or y.keys i None ≡ Some key → ContainsKey f.connections key
  receiver-stands j i key y at has = some-there (IsReceivers y.id (f.config).subscriber_max_borrowed_samples)
      (get f.connections key) ((sound.parts.linked.receivers j y at).at i key has)
