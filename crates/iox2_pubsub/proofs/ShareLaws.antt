-- Laws that callers' proofs may cite: what a message that was served leaves of the shares, wherever its publisher's
-- stands.
use Rattle.std.proofs.Common.{◌≡◌, ℕ, suc, ◌+◌, ◌<◌, ◌≤◌, Bool, true, false, List, [], ◌∷◌, ◌++◌, drop, length, refl}
use Rattle.std.proofs.Common.{sym, ap, subst, ◌∙◌, arith, ⊎_elim}
use Rattle.std.specs.Prelude.{◌≢◌}
use Rattle.std.specs.Bool.{MatchBool}
use Rattle.std.proofs.lemmas.List.{length-append}
use Rattle.iox2_domain.specs.Kept.{Kept}
use Rattle.iox2_pubsub.specs.Live.{HasItsBuffer, IsConsistent, IsServed, OthersSend, Overflows, WaitsAsBefore}
use Rattle.iox2_pubsub.specs.Live.{payloads_from, waiting}
use Rattle.iox2_pubsub.specs.Shares.{AllFromEach, AreOfDifferent, AreShares, HasNoShare, Share, share_of, total}
use Rattle.iox2_pubsub.specs.declared.subscriber.Subscriber.{Subscriber}
use Rattle.iox2_pubsub.proofs.ForCallers.{served_is}

-- ---- a share among others

module _ {T : Type 0} (publisher : ℕ) (before now : List (List T)) (back : List (Share T)) where
  no-share-at : (front : List (Share T)) (other : ℕ) → HasNoShare other (front ++ share_of publisher before ∷ back)
      → HasNoShare other (front ++ share_of publisher now ∷ back)
  no-share-at [] other apart = (apart.0, apart.1)
  no-share-at (share ∷ front) other apart = (apart.0, no-share-at front other apart.1)

  -- other payloads leave them of different publishers
  apart-at : (front : List (Share T)) → AreOfDifferent (front ++ share_of publisher before ∷ back)
      → AreOfDifferent (front ++ share_of publisher now ∷ back)
  apart-at [] apart = (apart.0, apart.1)
  apart-at (share ∷ front) apart = (no-share-at front share.publisher apart.0, apart-at front apart.1)

  -- none in front is of that publisher
  away-from : (front : List (Share T)) (other : ℕ) → HasNoShare other (front ++ share_of publisher before ∷ back)
      → publisher ≢ other
  away-from [] other apart = apart.0
  away-from (share ∷ front) other apart = away-from front other apart.1

  -- the total grows with the share
  total-at : (front : List (Share T)) → total (front ++ share_of publisher now ∷ back) + length before ≡ total
      (front ++ share_of publisher before ∷ back) + length now
  total-at [] = omega arith
  total-at (share ∷ front) =
      let rest : total (front ++ share_of publisher now ∷ back) + length before ≡ total
      (front ++ share_of publisher before ∷ back) + length now = total-at front in
      omega (arith, rest)

module _ {T U F G : Type 0} (old new : Kept T U F G) (subscriber : Subscriber) where
  -- where nothing moved for the subscriber, the shares are as they were
  pub shares_as_before : WaitsAsBefore old new subscriber → (shares : List (Share T))
      → AllFromEach old subscriber shares → AllFromEach new subscriber shares
  shares_as_before same shares all =
      record { each = stay shares all.each; apart = all.apart; all = ap length same.all ∙ all.all } where
        stay : (shares : List (Share T)) → AreShares old subscriber shares → AreShares new subscriber shares
        stay [] each = tt
        stay (share ∷ shares) each = (same.from share.publisher ∙ each.0, stay shares each.1)

  module _ (publisher : ℕ) (others : OthersSend publisher old new) (before : List (List T))
      (back : List (Share T)) where
    from-other : (other : ℕ) → other ≢ publisher
        → payloads_from new other subscriber ≡ payloads_from old other subscriber
    from-other other away = ap (λ (f : Subscriber → List (List T)). f subscriber) (others other away)

    stay-behind : (shares : List (Share T)) → HasNoShare publisher shares → AreShares old subscriber shares
        → AreShares new subscriber shares
    stay-behind [] apart each = tt
    stay-behind (share ∷ shares) apart each =
        (from-other share.publisher apart.0 ∙ each.0, stay-behind shares apart.1 each.1)

    its-share : (front : List (Share T)) → AreShares old subscriber (front ++ share_of publisher before ∷ back)
        → payloads_from old publisher subscriber ≡ before
    its-share [] each = each.0
    its-share (share ∷ front) each = its-share front each.1

    each-at : (front : List (Share T)) → AreOfDifferent (front ++ share_of publisher before ∷ back)
        → AreShares old subscriber (front ++ share_of publisher before ∷ back)
        → AreShares new subscriber (front ++ share_of publisher (payloads_from new publisher subscriber) ∷ back)
    each-at [] apart each = (refl, stay-behind back apart.0 each.1)
    each-at (share ∷ front) apart each = (
      from-other share.publisher
          (λ same. away-from publisher before before back front share.publisher apart.0 (sym same)) ∙ each.0,
      each-at front apart.1 each.1,
    )

    -- as many more wait in all as of that publisher
    counted : (values : List T) → IsServed old new publisher subscriber values
        → waiting new subscriber + length (payloads_from old publisher subscriber) ≡ waiting old subscriber + length
        (payloads_from new publisher subscriber)
    unfolding IsServed
    counted values served =
        ⊎_elim
        (λ came.
        let longer : length (payloads_from old publisher subscriber ++ values ∷ []) ≡ length
        (payloads_from old publisher subscriber) + 1 =
        length-append (payloads_from old publisher subscriber) (values ∷ []) in
        let now : length (payloads_from new publisher subscriber) ≡ length
        (payloads_from old publisher subscriber ++ values ∷ []) = ap length came.0 in
        let more : waiting new subscriber ≡ suc (waiting old subscriber) = came.1 in
        omega (arith, longer, now, more))
        (λ full.
        let same : waiting new subscriber ≡ waiting old subscriber = full.2 in
        let long : length (payloads_from new publisher subscriber) ≡ length (payloads_from old publisher subscriber) =
        as-long (old.config).enable_safe_overflow (payloads_from old publisher subscriber)
        (payloads_from new publisher subscriber) values (full.0).some full.1 in
        omega (arith, same, long))
        served
      where
        replaced : (ps : List (List T)) (values : List T) → 0 < length ps
            → length (drop 1 ps ++ values ∷ []) ≡ length ps
        replaced [] values some = absurd (omega (arith, some))
        replaced (first ∷ ps) values some = let more : length (ps ++ values ∷ []) ≡ length ps + 1 = length-append ps
            (values ∷ []) in omega (arith, more)

        as-long : (overflow : Bool) (ps now : List (List T)) (values : List T) → 0 < length ps
            → MatchBool overflow (now ≡ drop 1 ps ++ values ∷ []) (now ≡ ps) → length now ≡ length ps
        as-long true ps now values some is = ap length is ∙ replaced ps values some
        as-long false ps now values some is = ap length is

    -- a message that was served changes its publisher's share alone
    pub share_served : (values : List T) → IsServed old new publisher subscriber values → (front : List (Share T))
        → AllFromEach old subscriber (front ++ share_of publisher before ∷ back)
        → AllFromEach new subscriber (front ++ share_of publisher (payloads_from new publisher subscriber) ∷ back)
    share_served values served front all = record {
      each = each-at front all.apart all.each;
      apart = apart-at publisher before (payloads_from new publisher subscriber) back front all.apart;
      all =
          let its : length (payloads_from old publisher subscriber) ≡ length before =
          ap length (its-share front all.each) in
          let count : waiting new subscriber + length (payloads_from old publisher subscriber) ≡ waiting old subscriber
          + length (payloads_from new publisher subscriber) = counted values served in
          let was : waiting old subscriber ≡ total (front ++ share_of publisher before ∷ back) = all.all in
          let grown : total (front ++ share_of publisher (payloads_from new publisher subscriber) ∷ back)
          + length before ≡ total (front ++ share_of publisher before ∷ back) + length
          (payloads_from new publisher subscriber) =
          total-at publisher before (payloads_from new publisher subscriber) back front in
          omega (arith, its, count, was, grown);
    }

    -- it stands behind the others of its publisher where there is room
    pub share_joined : (values : List T) → IsConsistent new → HasItsBuffer old subscriber → HasItsBuffer new subscriber
        → length before < subscriber.buffer_size → IsServed old new publisher subscriber values
        → (front : List (Share T)) → AllFromEach old subscriber (front ++ share_of publisher before ∷ back)
        → AllFromEach new subscriber (front ++ share_of publisher (before ++ values ∷ []) ∷ back)
    share_joined values consistent its its-new room served front all =
        let was : payloads_from old publisher subscriber ≡ before = its-share front all.each in
        let now : payloads_from new publisher subscriber ≡ before ++ values ∷ [] =
        ⊎_elim
        (λ came. came.1 ∙ ap (λ (ps : List (List T)). ps ++ values ∷ []) was)
        (λ full.
        let long : length (payloads_from old publisher subscriber) ≡ length before = ap length was in
        let many : subscriber.buffer_size ≤ length (payloads_from old publisher subscriber) = full.0 in
        absurd (omega (arith, long, many, room)))
        (served_is old new subscriber consistent its its-new publisher values served) in
        subst (λ (ps : List (List T)). AllFromEach new subscriber (front ++ share_of publisher ps ∷ back)) now
        (share_served values served front all)

    -- and in the place of the oldest where there is none and the service overflows
    pub share_overflowed : (values : List T) → IsConsistent new → HasItsBuffer old subscriber
        → HasItsBuffer new subscriber → Overflows old → subscriber.buffer_size ≤ length before
        → IsServed old new publisher subscriber values
        → (front : List (Share T)) → AllFromEach old subscriber (front ++ share_of publisher before ∷ back)
        → AllFromEach new subscriber (front ++ share_of publisher (drop 1 before ++ values ∷ []) ∷ back)
    share_overflowed values consistent its its-new over many served front all =
        let was : payloads_from old publisher subscriber ≡ before = its-share front all.each in
        let now : payloads_from new publisher subscriber ≡ drop 1 before ++ values ∷ [] =
        ⊎_elim
        (λ came.
        let long : length (payloads_from old publisher subscriber) ≡ length before = ap length was in
        let few : length (payloads_from old publisher subscriber) < subscriber.buffer_size = came.0 in
        absurd (omega (arith, long, many, few)))
        (λ full.
        subst (λ (b : Bool). MatchBool b (payloads_from new publisher subscriber ≡ drop 1
        (payloads_from old publisher subscriber) ++ values ∷ [])
        (payloads_from new publisher subscriber ≡ payloads_from old publisher subscriber)) over full.1
        ∙ ap (λ (ps : List (List T)). drop 1 ps ++ values ∷ []) was)
        (served_is old new subscriber consistent its its-new publisher values served) in
        subst (λ (ps : List (List T)). AllFromEach new subscriber (front ++ share_of publisher ps ∷ back)) now
        (share_served values served front all)
