-- The ports that weren't closed stand open at their places.
use Rattle.std.proofs.Common.{◌≡◌, ◌↔◌, ℕ, List, true, get_or, is_some, refl, ap, sym, subst, ◌∙◌, IsTrue, MatchOption}
use Rattle.std.proofs.lemmas.List.{get_or_default}
use Rattle.std.specs.declared.option.Option.{Option}
use Rattle.std.specs.declared.option.Option.TheVariants.{None, Some}
use Rattle.std.specs.Prelude.{IsSomeAnd}
use Rattle.iox2_machine.specs.machine.Records.{Subscriber}
use Rattle.iox2_machine.specs.machine.SingleCalls.{HoldsPublisher, HoldsSubscriber}
use Rattle.iox2_connections.specs.LookUp.{look_up}
use Rattle.iox2_connections.proofs.MailboxChanges.{within_if_some}
use Rattle.iox2_domain.specs.Ports.{PublisherFields, SubscriberFields}
use Rattle.iox2_domain.specs.Kept.{state_of}
use Rattle.iox2_domain.specs.Fields.{Fields, kept_of, publisher_of, subscriber_of}
use Rattle.iox2_domain.specs.Invariant.{IsDomain, is_publisher, is_subscriber}
use Rattle.iox2_domain.proofs.lemmas.fields.ConnectionEnds.{publisher-stands, subscriber-stands}
use Rattle.iox2_domain.proofs.lemmas.fields.NamedPorts.{named-nowhere}

module _ {T U : Type 0} (f : Fields T U) (id : ℕ) where
  -- a publisher that stands nowhere isn't live
  pub absent-publisher : look_up (is_publisher id) f.publishers ≡ None → HoldsPublisher (state_of (kept_of f)) id → ⊥
  absent-publisher none has =
      let clash : None ≡ Some has.0 =
      sym (named-nowhere (publisher_of f.books f.connections) id f.publishers none) ∙ has.1 in
      absurd cc

  -- one that stands somewhere is
  pub present-publisher : IsDomain f → (i : ℕ) (x : PublisherFields) → get_or f.publishers i None ≡ Some x → x.id ≡ id
      → HoldsPublisher (state_of (kept_of f)) id
  present-publisher sound i x at is = (
    (publisher_of f.books f.connections x).port,
    subst (λ (p : ℕ). (state_of (kept_of f)).publishers p ≡ Some ((publisher_of f.books f.connections x).port)) is
        (publisher-stands f sound.parts i x at),
  )

  -- so a search tells which
  pub publisher-live : IsDomain f → (found : Option ℕ)
      → MatchOption found (look_up (is_publisher id) f.publishers ≡ None)
      (λ i. (x : PublisherFields) × (get_or f.publishers i None ≡ Some x) × (x.id ≡ id))
      → IsTrue (is_some found) ↔ HoldsPublisher (state_of (kept_of f)) id
  publisher-live sound None none = (λ no. absurd cc, λ has. absurd (absent-publisher none has))
  publisher-live sound (Some i) found = (λ yes. present-publisher sound i found.0 found.1 found.2, λ has. refl)

  -- a subscriber that stands nowhere isn't live
  pub absent-subscriber : look_up (is_subscriber id) f.subscribers ≡ None → HoldsSubscriber (state_of (kept_of f)) id
      → ⊥
  absent-subscriber none has =
      let clash : None ≡ Some has.0 =
      sym (named-nowhere (subscriber_of f.books f.connections) id f.subscribers none) ∙ has.1 in
      absurd cc

  module _ (sound : IsDomain f) (i : ℕ) (y : SubscriberFields) (at : get_or f.subscribers i None ≡ Some y)
      (is : y.id ≡ id) where
    stands : (state_of (kept_of f)).subscribers id ≡ Some ((subscriber_of f.books f.connections y).port)
    stands = subst (λ (q : ℕ). (state_of (kept_of f)).subscribers q ≡ Some
        ((subscriber_of f.books f.connections y).port)) is (subscriber-stands f sound.parts i y at)

    -- one that stands somewhere is live where it is open
    pub open-subscriber : y.is_open ≡ true → HoldsSubscriber (state_of (kept_of f)) id
    open-subscriber open_ = ((subscriber_of f.books f.connections y).port, stands, open_)

    pub subscriber-open : HoldsSubscriber (state_of (kept_of f)) id → y.is_open ≡ true
    subscriber-open has =
        let both : Some ((subscriber_of f.books f.connections y).port) ≡ Some has.0 = sym stands ∙ has.1 in
        let same : (subscriber_of f.books f.connections y).port ≡ has.0 = cc in
        ap (λ (z : Subscriber). z.is_open) same ∙ has.2

-- what is read at a place stands there
pub read-at : {A : Type 0} (xs : List (Option A)) (i : ℕ) (o : Option A) (x y : A) → get_or xs i None ≡ Some x
    → o ≡ get_or xs i o → o ≡ Some y → y ≡ x
read-at xs i o x y at read is =
    let same : Some y ≡ Some x = sym is ∙ read ∙ get_or_default xs i o None (within_if_some xs i x at) ∙ at in
    cc

-- whoever stands where a search found it is there
pub found-at : {A : Type 0} (P : Type 0) (has_id : A → Type 0) (xs : List (Option A)) (found : Option ℕ)
    → MatchOption found P (λ i. IsSomeAnd (get_or xs i None) has_id)
    → MatchOption found P (λ i. (x : A) × (get_or xs i None ≡ Some x) × has_id x)
found-at P has_id xs None none = none
found-at {A} P has_id xs (Some i) is = by (get_or xs i None) refl is where
  by : (o : Option A) → get_or xs i None ≡ o → IsSomeAnd o has_id → (x : A) × (get_or xs i None ≡ Some x) × has_id x
  by None e is = absurd is
  by (Some x) e is = (x, e, is)
