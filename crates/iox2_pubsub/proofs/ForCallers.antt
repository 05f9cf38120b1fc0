-- Laws that callers' proofs may cite: what waits of each publisher, and what waits in all.
use Rattle.std.proofs.Common.{◌≡◌, ℕ, suc, ◌+◌, ◌<◌, ◌≤◌, List, [], ◌∷◌, ◌++◌, length, refl, sym, ap, subst, ◌∙◌, arith}
use Rattle.std.proofs.Common.{◌⊎◌, inl, inr, ⊎_elim, drop, Option, None, Some, Result}
use Rattle.std.specs.Prelude.{◌≢◌}
use Rattle.std.proofs.lemmas.Bool.{cases_eq}
use Rattle.std.specs.Bool.{MatchBool}
use Rattle.std.proofs.lemmas.Option.{same_Some}
use Rattle.std.proofs.lemmas.List.{length-append, length-map, nil_from_length}
use Rattle.iox2_machine.specs.machine.Limits.{last_number}
use Rattle.iox2_machine.specs.machine.Records.{Entry, Subscriber as MachineSubscriber}
use Rattle.iox2_machine.specs.machine.Waiting.{receives_from, waiting_from}
use Rattle.iox2_machine.specs.machine.WellFormed.{IsWellFormed}
use Rattle.iox2_machine.specs.declared.errors.SendError.{SendError}
use Rattle.iox2_machine.specs.declared.key.Key.{Key}
use Rattle.iox2_machine.specs.declared.service_config.ServiceConfig.{ServiceConfig}
use Rattle.iox2_laws.proofs.LoansLeft.{lends_fewer}
use Rattle.iox2_laws.proofs.WaitingCounts.{by_record, cond_le}
use Rattle.iox2_machine.specs.machine.State.{State, Messages, fresh, no_messages}
use Rattle.iox2_domain.specs.Kept.{Kept, entries_of, state_of}
use Rattle.iox2_domain.specs.Shows.{Shows}
use Rattle.iox2_pubsub.specs.Live.{A_blocked_send, AllFrom, Both, HasItsBuffer, HasPassed, IsBlockedSend, IsConsistent}
use Rattle.iox2_pubsub.specs.Live.{IsNewIn, IsPending, IsServed, Item, KeepsAll, No_item, Stays, StaysBut, OthersSend}
use Rattle.iox2_pubsub.specs.Live.{UpToDateStay, WaitingStays, WaitsAsBefore, payloads, payloads_from, waiting}
use Rattle.iox2_pubsub.specs.BorrowsLeft.{BorrowsLeftStay, HasBorrowsLeft, HasBorrowsLeftOf, borrowed_by}
use Rattle.iox2_pubsub.specs.Leaves.{Leaves}
use Rattle.iox2_pubsub.specs.LoansLeft.{HasLoansLeft, HasNumbersLeft, LoansLeftStay}
use Rattle.iox2_pubsub.specs.NewDomains.{IsNewDomain}
use Rattle.iox2_pubsub.specs.Payloads.{payload_of, singles}
use Rattle.iox2_pubsub.specs.SendCalls.{is_blocked_send, spent_by_copy}
use Rattle.iox2_pubsub.specs.Shares.{AllFromEach, AreOfDifferent, AreShares, HasNoShare, Share, TakesFrom, share_of}
use Rattle.iox2_pubsub.specs.Shares.{total, with_share, without_empty}
use Rattle.iox2_pubsub.specs.Slices.{SampleHasValues}
use Rattle.iox2_pubsub.specs.declared.blocked_send.BlockedSend.{BlockedSend}
use Rattle.iox2_pubsub.specs.declared.publisher.Publisher.{Publisher}
use Rattle.iox2_pubsub.specs.declared.send_outcome.SendOutcome.{SendOutcome}
use Rattle.iox2_pubsub.specs.declared.subscriber.Subscriber.{Subscriber}
use Rattle.iox2_pubsub.proofs.BorrowsLeftShown.{one-of-all}
use Rattle.iox2_pubsub.proofs.LiveParts.{buffer-parts}
use Rattle.iox2_pubsub.proofs.PublisherWaits.{only-from, part-of, served-joins}
use Rattle.iox2_pubsub.proofs.ShareSums.{shares-part}
use Rattle.iox2_pubsub.proofs.StaysBut.{consistent-shown, passed-parts, pending-parts}
use Rattle.iox2_pubsub.proofs.StaysOn.{both-new, new-since, sent-copy-part, stays-but-whole, stays-on, stays-twice}
use Rattle.iox2_pubsub.proofs.WaitingShown.{payloads-from-are}

-- a domain that shows some state is consistent, and one that is shows some
pub consistent_shown : {T U F G : Type 0} (domain : Kept T U F G) (messages : Messages T U) (s : State T U)
    → Shows domain messages s → IsConsistent domain
consistent_shown = consistent-shown

pub shows_some : {T U F G : Type 0} (domain : Kept T U F G) → IsConsistent domain
    → (messages : Messages T U) × Shows domain messages (state_of domain)
unfolding IsConsistent
shows_some domain is = is

-- a new domain is consistent
pub new_is_consistent : {T U F G : Type 0} (config : ServiceConfig) (domain : Kept T U F G) → IsNewDomain config domain
    → IsConsistent domain
new_is_consistent config domain new = consistent_shown domain no_messages (fresh config) new.fresh

module _ {T U F G : Type 0} (domain : Kept T U F G) where
  pub well : IsConsistent domain → IsWellFormed (state_of domain)
  well is = (shows_some domain is).1.well_formed

  module _ (consistent : IsConsistent domain) (subscriber : Subscriber) where
    -- what waits of one publisher is a part of what waits
    pub one_at_most_all : (publisher : ℕ)
        → length (payloads_from domain publisher subscriber) ≤ waiting domain subscriber
    one_at_most_all = part-of domain (well consistent) subscriber

    -- and of several at most all
    pub shares_at_most_all : (shares : List (Share T)) → AreShares domain subscriber shares → AreOfDifferent shares
        → total shares ≤ waiting domain subscriber
    shares_at_most_all = shares-part domain (well consistent) subscriber

    -- where nothing waits, nothing of each does
    pub none_from_each : waiting domain subscriber ≡ 0 → (publisher : ℕ) → AllFrom domain publisher subscriber []
    none_from_each none publisher = record {
      all = nil_from_length (payloads domain subscriber) none;
      from = let part : length (payloads_from domain publisher subscriber) ≤ waiting domain subscriber = one_at_most_all
          publisher in nil_from_length (payloads_from domain publisher subscriber) (omega (arith, part, none));
    }

    -- where as many wait of one publisher as in all, they are all
    pub all_from_one : (publisher : ℕ) → waiting domain subscriber ≡ length (payloads_from domain publisher subscriber)
        → AllFrom domain publisher subscriber (payloads_from domain publisher subscriber)
    all_from_one publisher same =
        record { all = only-from domain (well consistent) subscriber publisher same; from = refl }

    -- and no more of one than the buffer takes
    pub one_at_most_buffer : (publisher : ℕ) → HasItsBuffer domain subscriber
        → length (payloads_from domain publisher subscriber) ≤ subscriber.buffer_size
    one_at_most_buffer publisher its = by ((state_of domain).subscribers subscriber.id) refl where
      counted : length (payloads_from domain publisher subscriber) ≡ length
          (waiting_from (state_of domain) publisher subscriber.id)
      counted = ap length (payloads-from-are domain publisher subscriber)
          ∙ length-map (waiting_from (state_of domain) publisher subscriber.id) (payload_of (entries_of domain))

      by : (o : Option MachineSubscriber) → (state_of domain).subscribers subscriber.id ≡ o
          → length (payloads_from domain publisher subscriber) ≤ subscriber.buffer_size
      by None e =
          let same : length (payloads_from domain publisher subscriber) ≡ length
          (waiting_from (state_of domain) publisher subscriber.id) = counted in
          let none : length (waiting_from (state_of domain) publisher subscriber.id) ≡ 0 =
          ap length (by_record (state_of domain) publisher subscriber.id None e) in
          omega (arith, same, none)
      by (Some y) e =
          let same : length (payloads_from domain publisher subscriber) ≡ length
          (waiting_from (state_of domain) publisher subscriber.id) = counted in
          let size : y.buffer ≡ subscriber.buffer_size = (buffer-parts domain subscriber its).1 y e in
          let room : length ((state_of domain).mailboxes publisher subscriber.id).waiting ≤ y.buffer =
          ((well consistent).mailboxes publisher subscriber.id).room y e in
          let within : length (waiting_from (state_of domain) publisher subscriber.id) ≤ length
          ((state_of domain).mailboxes publisher subscriber.id).waiting =
          subst (λ (ns : List ℕ). length ns ≤ length ((state_of domain).mailboxes publisher subscriber.id).waiting)
          (sym (by_record (state_of domain) publisher subscriber.id (Some y) e))
          (cond_le (receives_from y publisher) ((state_of domain).mailboxes publisher subscriber.id).waiting) in
          omega (arith, same, size, room, within)

    -- of a publisher that has no share nothing waits
    pub none_from_others : (shares : List (Share T)) → AllFromEach domain subscriber shares → (publisher : ℕ)
        → HasNoShare publisher shares → payloads_from domain publisher subscriber ≡ []
    none_from_others shares all publisher apart =
        let more : length (payloads_from domain publisher subscriber) + total shares ≤ waiting domain subscriber =
        shares_at_most_all (share_of publisher (payloads_from domain publisher subscriber) ∷ shares) (refl, all.each)
        (apart, all.apart) in
        let same : waiting domain subscriber ≡ total shares = all.all in
        nil_from_length (payloads_from domain publisher subscriber) (omega (arith, more, same))

  -- where nothing waits there are no shares
  pub no_shares : (subscriber : Subscriber) → waiting domain subscriber ≡ 0 → AllFromEach domain subscriber []
  no_shares subscriber none = record { each = tt; apart = tt; all = none }

  -- what waits of one publisher alone is its share
  pub one_share : (publisher : ℕ) (subscriber : Subscriber) (values : List (List T))
      → AllFrom domain publisher subscriber values → AllFromEach domain subscriber (share_of publisher values ∷ [])
  one_share publisher subscriber values wait = record {
    each = (wait.from, tt);
    apart = (tt, tt);
    all = let same : waiting domain subscriber ≡ length values = ap length wait.all in omega (arith, same);
  }

module _ {T U F G : Type 0} (domain : Kept T U F G) (subscriber : Subscriber) where
  -- the shares that have payloads are all too
  each-with : (publisher : ℕ) (list : List (List T)) (others : List (Share T))
      → payloads_from domain publisher subscriber ≡ list → AreShares domain subscriber others
      → AreShares domain subscriber (with_share publisher list others)
  each-with publisher [] others at each = each
  each-with publisher (values ∷ later) others at each = (at, each)

  some-each : (shares : List (Share T)) → AreShares domain subscriber shares
      → AreShares domain subscriber (without_empty shares)
  some-each [] each = tt
  some-each (share ∷ shares) each =
      each-with share.publisher share.payloads (without_empty shares) each.0 (some-each shares each.1)

  none-front : (p publisher : ℕ) (list : List (List T)) (others : List (Share T)) → publisher ≢ p → HasNoShare p others
      → HasNoShare p (with_share publisher list others)
  none-front p publisher [] others away apart = apart
  none-front p publisher (values ∷ later) others away apart = (away, apart)

  none-with : (p : ℕ) (shares : List (Share T)) → HasNoShare p shares → HasNoShare p (without_empty shares)
  none-with p [] apart = tt
  none-with p (share ∷ shares) apart =
      none-front p share.publisher share.payloads (without_empty shares) apart.0 (none-with p shares apart.1)

  apart-front : (publisher : ℕ) (list : List (List T)) (others : List (Share T)) → HasNoShare publisher others
      → AreOfDifferent others → AreOfDifferent (with_share publisher list others)
  apart-front publisher [] others none apart = apart
  apart-front publisher (values ∷ later) others none apart = (none, apart)

  some-apart : (shares : List (Share T)) → AreOfDifferent shares → AreOfDifferent (without_empty shares)
  some-apart [] apart = tt
  some-apart (share ∷ shares) apart = apart-front share.publisher share.payloads (without_empty shares)
      (none-with share.publisher shares apart.0) (some-apart shares apart.1)

  total-front : (publisher : ℕ) (list : List (List T)) (others : List (Share T))
      → total (with_share publisher list others) ≡ length list + total others
  total-front publisher [] others = omega arith
  total-front publisher (values ∷ later) others = refl

  some-total : (shares : List (Share T)) → total (without_empty shares) ≡ total shares
  some-total [] = refl
  some-total (share ∷ shares) =
      let front : total (with_share share.publisher share.payloads (without_empty shares)) ≡ length share.payloads
      + total (without_empty shares) = total-front share.publisher share.payloads (without_empty shares) in
      let rest : total (without_empty shares) ≡ total shares = some-total shares in
      omega (arith, front, rest)

  pub some_shares : (shares : List (Share T)) → AllFromEach domain subscriber shares
      → AllFromEach domain subscriber (without_empty shares)
  some_shares shares all = record {
    each = some-each shares all.each;
    apart = some-apart shares all.apart;
    all = all.all ∙ sym (some-total shares);
  }

-- ---- single values

module _ {T : Type 0} where
  pub singles_append : (values : List T) (value : T)
      → singles (values ++ value ∷ []) ≡ singles values ++ (value ∷ []) ∷ []
  singles_append [] value = refl
  singles_append (first ∷ values) value =
      ap (λ (others : List (List T)). (first ∷ []) ∷ others) (singles_append values value)

  pub length_singles : (values : List T) → length (singles values) ≡ length values
  length_singles [] = refl
  length_singles (first ∷ values) = let rest : length (singles values) ≡ length values = length_singles values in
      omega (arith, rest)

  pub singles_none : (values : List T) → length (singles values) ≡ 0 → values ≡ []
  singles_none [] none = refl
  singles_none (first ∷ values) none = absurd (omega (arith, none))

-- ---- other words

module _ {T U F G : Type 0} (domain : Kept T U F G) where
  -- a sample has one list of values
  pub sample_values_one : (key : Key) (values values' : List T) → SampleHasValues domain key values
      → SampleHasValues domain key values' → values ≡ values'
  unfolding SampleHasValues
  sample_values_one key values values' has has' =
      sym has.2 ∙ ap (λ (e : Entry T U). e.values) (same_Some has.0 has'.0 (sym has.1 ∙ has'.1)) ∙ has'.2

  -- message numbers for more are numbers for fewer
  pub numbers_for_fewer : (more fewer : ℕ) → fewer ≤ more → HasNumbersLeft domain more → HasNumbersLeft domain fewer
  unfolding HasNumbersLeft
  numbers_for_fewer more fewer less has = let most : domain.next_message + more ≤ last_number = has in
      omega (arith, most, less)

  -- and so with borrows and loans
  pub borrows_for_fewer : (subscriber : Subscriber) (more fewer : ℕ) → fewer ≤ more
      → HasBorrowsLeft domain subscriber more → HasBorrowsLeft domain subscriber fewer
  unfolding HasBorrowsLeft
  borrows_for_fewer subscriber more fewer less has =
      let most : length (borrowed_by (state_of domain) subscriber.id) + more
      ≤ ((state_of domain).config).subscriber_max_borrowed_samples = has in
      omega (arith, most, less)

  pub borrows_of_for_fewer : (publisher : ℕ) (subscriber : Subscriber) (more fewer : ℕ) → fewer ≤ more
      → HasBorrowsLeftOf domain publisher subscriber more → HasBorrowsLeftOf domain publisher subscriber fewer
  unfolding HasBorrowsLeftOf
  borrows_of_for_fewer publisher subscriber more fewer less has =
      let most : length ((state_of domain).mailboxes publisher subscriber.id).borrowed + more
      ≤ ((state_of domain).config).subscriber_max_borrowed_samples = has in
      omega (arith, most, less)

  -- who has borrows left in all has as many left of each publisher
  pub borrows_of_each : IsConsistent domain → (publisher : ℕ) (subscriber : Subscriber) (n : ℕ)
      → HasBorrowsLeft domain subscriber n → HasBorrowsLeftOf domain publisher subscriber n
  unfolding HasBorrowsLeft HasBorrowsLeftOf
  borrows_of_each consistent publisher subscriber n has =
      let most : length (borrowed_by (state_of domain) subscriber.id) + n
      ≤ ((state_of domain).config).subscriber_max_borrowed_samples = has in
      let part : length ((state_of domain).mailboxes publisher subscriber.id).borrowed ≤ length
      (borrowed_by (state_of domain) subscriber.id) =
      one-of-all (state_of domain) (well domain consistent) publisher subscriber.id in
      omega (arith, most, part)

  pub loans_for_fewer : (publisher : Publisher) (more fewer : ℕ) → fewer ≤ more → HasLoansLeft domain publisher more
      → HasLoansLeft domain publisher fewer
  unfolding HasLoansLeft
  loans_for_fewer publisher more fewer less has =
      (lends_fewer (state_of domain) publisher.id fewer more less has.0, has.1)

module _ {T U F G : Type 0} (old new : Kept T U F G) (subscriber : Subscriber) where
  -- where nothing moved for a subscriber, or for any
  pub all_from_as_before : WaitsAsBefore old new subscriber → (publisher : ℕ) (values : List (List T))
      → AllFrom old publisher subscriber values → AllFrom new publisher subscriber values
  all_from_as_before same publisher values wait =
      record { all = same.all ∙ wait.all; from = same.from publisher ∙ wait.from }

  pub waits_as_before : WaitingStays old new → WaitsAsBefore old new subscriber
  waits_as_before same = record {
    all = ap (λ (f : Subscriber → List (List T)). f subscriber) same.all;
    from = λ publisher. ap (λ (f : ℕ → Subscriber → List (List T)). f publisher subscriber) same.from;
  }

  -- who loses nothing with its next update still does
  pub keeps_all_stays : UpToDateStay old new → KeepsAll old subscriber → KeepsAll new subscriber
  keeps_all_stays stay keeps =
      ⊎_elim (λ is. inl (stay.subscribers subscriber is)) (λ room. inr (stay.room subscriber 0 room)) keeps

  -- what is served where there is room joins what waits, if that is all of its publisher
  pub served_joins : IsConsistent old → IsConsistent new → (publisher : ℕ) (values : List T) (earlier : List (List T))
      → IsServed old new publisher subscriber values → AllFrom old publisher subscriber earlier
      → HasItsBuffer old subscriber → length earlier < subscriber.buffer_size
      → AllFrom new publisher subscriber (earlier ++ values ∷ [])
  served_joins before after publisher values earlier =
      served-joins old new (well old before) (well new after) publisher subscriber values earlier

  -- What a message that was served did: it found room and stands last, or the buffer was full, and with overflow the
  -- oldest went in its place, without it this message did.
  pub served_is : IsConsistent new → HasItsBuffer old subscriber → HasItsBuffer new subscriber
      → (publisher : ℕ) (values : List T) → IsServed old new publisher subscriber values
      → ((length (payloads_from old publisher subscriber) < subscriber.buffer_size)
      × (payloads_from new publisher subscriber ≡ payloads_from old publisher subscriber ++ values ∷ [])
      × (waiting new subscriber ≡ suc (waiting old subscriber)))
      ⊎ ((subscriber.buffer_size ≤ length (payloads_from old publisher subscriber))
      × MatchBool (old.config).enable_safe_overflow
      (payloads_from new publisher subscriber ≡ drop 1 (payloads_from old publisher subscriber) ++ values ∷ [])
      (payloads_from new publisher subscriber ≡ payloads_from old publisher subscriber)
      × (waiting new subscriber ≡ waiting old subscriber))
  unfolding IsServed
  served_is consistent its its-new publisher values served =
      ⊎_elim
      (λ came.
      let longer : length (payloads_from old publisher subscriber ++ values ∷ []) ≡ length
      (payloads_from old publisher subscriber) + 1 =
      length-append (payloads_from old publisher subscriber) (values ∷ []) in
      let now : length (payloads_from new publisher subscriber) ≡ length
      (payloads_from old publisher subscriber ++ values ∷ []) = ap length came.0 in
      let most : length (payloads_from new publisher subscriber) ≤ subscriber.buffer_size =
      one_at_most_buffer new consistent subscriber publisher its-new in
      inl (omega (arith, longer, now, most), came.0, came.1))
      (λ full. inr ((full.0).full its, full.1, full.2))
      served

  -- shares of other publishers stay
  shares-stay : (publisher : ℕ)
      → ((other : ℕ) → other ≢ publisher → payloads_from new other subscriber ≡ payloads_from old other subscriber)
      → (shares : List (Share T)) → HasNoShare publisher shares → AreShares old subscriber shares
      → AreShares new subscriber shares
  shares-stay publisher others [] apart each = tt
  shares-stay publisher others (share ∷ shares) apart each =
      (others share.publisher apart.0 ∙ each.0, shares-stay publisher others shares apart.1 each.1)

  from-others : (publisher : ℕ) → OthersSend publisher old new → (other : ℕ) → other ≢ publisher
      → payloads_from new other subscriber ≡ payloads_from old other subscriber
  from-others publisher others other away = ap (λ (f : Subscriber → List (List T)). f subscriber) (others other away)

  -- a message of a publisher that has no share begins one
  pub share_begins : IsConsistent old → (publisher : ℕ) (values : List T) (shares : List (Share T))
      → AllFromEach old subscriber shares → HasNoShare publisher shares
      → IsServed old new publisher subscriber values → OthersSend publisher old new
      → AllFromEach new subscriber (share_of publisher (values ∷ []) ∷ shares)
  unfolding IsServed
  share_begins consistent publisher values shares all apart served others =
      let none : payloads_from old publisher subscriber ≡ [] =
      none_from_others old consistent subscriber shares all publisher apart in
      ⊎_elim
      (λ came. record {
        each = (
          came.0 ∙ ap (λ (l : List (List T)). l ++ values ∷ []) none,
          shares-stay publisher (from-others publisher others) shares apart all.each,
        );
        apart = (apart, all.apart);
        all = let more : waiting new subscriber ≡ suc (waiting old subscriber) = came.1 in
            let was : waiting old subscriber ≡ total shares = all.all in omega (arith, more, was);
      })
      (λ full.
      let some : 0 < length (payloads_from old publisher subscriber) = (full.0).some in
      let empty : length (payloads_from old publisher subscriber) ≡ 0 = ap length none in
      absurd (omega (arith, some, empty)))
      served

  -- one of the first share's publisher stands behind its others, where there is room
  pub share_grows : (share : Share T) (values : List T) (shares : List (Share T))
      → AllFromEach old subscriber (share ∷ shares) → HasItsBuffer old subscriber
      → length share.payloads < subscriber.buffer_size
      → IsServed old new share.publisher subscriber values → OthersSend share.publisher old new
      → AllFromEach new subscriber (share_of share.publisher (share.payloads ++ values ∷ []) ∷ shares)
  unfolding IsServed
  share_grows share values shares all its room served others =
      ⊎_elim
      (λ came. record {
        each = (
          came.0 ∙ ap (λ (l : List (List T)). l ++ values ∷ []) all.each.0,
          shares-stay share.publisher (from-others share.publisher others) shares all.apart.0 all.each.1,
        );
        apart = (all.apart.0, all.apart.1);
        all =
            let longer : length (share.payloads ++ values ∷ []) ≡ length share.payloads + 1 =
            length-append share.payloads (values ∷ []) in
            let was : waiting old subscriber ≡ length share.payloads + total shares = all.all in
            let more : waiting new subscriber ≡ suc (waiting old subscriber) = came.1 in
            omega (arith, longer, was, more);
      })
      (λ full.
      let least : subscriber.buffer_size ≤ length (payloads_from old share.publisher subscriber) = (full.0).full its in
      let same : length (payloads_from old share.publisher subscriber) ≡ length share.payloads = ap length all.each.0 in
      absurd (omega (arith, least, same, room)))
      served

  -- What a receive leaves of the shares.
  record Taken (shares : List (Share T)) (publisher : ℕ) (values : List T) : Type 0 where
    left : List (Share T)
    takes : TakesFrom shares publisher values left
    each : AreShares new subscriber left
    apart : AreOfDifferent left
    fewer : suc (total left) ≡ total shares
    still : (p : ℕ) → HasNoShare p shares → HasNoShare p left

  module _ (publisher : ℕ) (values : List T)
      (first : payloads_from old publisher subscriber ≡ values ∷ payloads_from new publisher subscriber)
      (others : (other : ℕ) → other ≢ publisher
      → payloads_from new other subscriber ≡ payloads_from old other subscriber) where
    taken : (shares : List (Share T)) → AreShares old subscriber shares → AreOfDifferent shares
        → HasNoShare publisher shares ⊎ Taken shares publisher values
    taken [] each apart = inl tt
    taken (share ∷ shares) each apart = elim (cases_eq share.publisher publisher) [
      | inl same ↦
          let rest : List (List T) = payloads_from new publisher subscriber in
          let is : share.payloads ≡ values ∷ rest =
          sym each.0 ∙ ap (λ (p : ℕ). payloads_from old p subscriber) same ∙ first in
          let none : HasNoShare publisher shares = subst (λ (p : ℕ). HasNoShare p shares) same apart.0 in
          inr (record {
            left = share_of publisher rest ∷ shares;
            takes = inl (rest, same, is, refl);
            each = (refl, shares-stay publisher others shares none each.1);
            apart = (none, apart.1);
            fewer = let long : length share.payloads ≡ suc (length rest) = ap length is in omega (arith, long);
            still = λ p away. ((λ e. away.0 (same ∙ e)), away.1);
          })
      | inr away ↦ ⊎_elim
          (λ gone. inl (away, gone))
          (λ got. inr (record {
            left = share ∷ got.left;
            takes = inr (got.left, got.takes, refl);
            each = (others share.publisher away ∙ each.0, got.each);
            apart = (got.still share.publisher apart.0, got.apart);
            fewer = let less : suc (total got.left) ≡ total shares = got.fewer in omega (arith, less);
            still = λ p apart. (apart.0, got.still p apart.1);
          }))
          (taken shares each.1 apart.1)
    ]

    -- a receive takes the first payload of one share
    pub share_taken : IsConsistent old → suc (waiting new subscriber) ≡ waiting old subscriber
        → (shares : List (Share T)) → AllFromEach old subscriber shares
        → (left : List (Share T)) × TakesFrom shares publisher values left × AllFromEach new subscriber left
    share_taken consistent one shares all =
        ⊎_elim
        (λ apart.
        let none : payloads_from old publisher subscriber ≡ [] =
        none_from_others old consistent subscriber shares all publisher apart in
        let clash : [] ≡ values ∷ payloads_from new publisher subscriber = sym none ∙ first in
        absurd cc)
        (λ got. (
          got.left,
          got.takes,
          record {
            each = got.each;
            apart = got.apart;
            all =
                let fewer : suc (total got.left) ≡ total shares = got.fewer in
                let was : waiting old subscriber ≡ total shares = all.all in
                omega (arith, one, fewer, was);
          },
        ))
        (taken shares all.each all.apart)

-- what waits of one publisher alone still does, where no call moved anything
pub all_from_stays : {T U F G : Type 0} (old new : Kept T U F G) → WaitingStays old new
    → (publisher : ℕ) (subscriber : Subscriber) (values : List (List T)) → AllFrom old publisher subscriber values
    → AllFrom new publisher subscriber values
all_from_stays old new same publisher subscriber =
    all_from_as_before old new subscriber (waits_as_before old new subscriber same) publisher

-- ---- blocked sends

-- a send that is pending is blocked, and so is one that has passed
pub pending_is_blocked : {T U F G : Type 0} (domain : Kept T U F G) (blocked : BlockedSend) (subscriber : Subscriber)
    (values : List T) → IsPending domain blocked subscriber values → IsBlockedSend domain blocked
pending_is_blocked domain blocked subscriber values pending = (pending-parts domain blocked subscriber values pending).0

pub passed_is_blocked : {T U F G : Type 0} (domain : Kept T U F G) (blocked : BlockedSend) (subscriber : Subscriber)
    → HasPassed domain blocked subscriber → IsBlockedSend domain blocked
passed_is_blocked domain blocked subscriber passed = (passed-parts domain blocked subscriber passed).0

-- ---- one call after another

module _ {T U F G : Type 0} (start old new : Kept T U F G) where
  -- what stays twice stays
  pub stays_twice : Stays start old → Stays old new → Stays start new
  stays_twice = stays-twice No_item start old new

  -- and what stays twice but for an item
  pub stays_but_twice : (item : Item) → StaysBut item start old → StaysBut item old new → StaysBut item start new
  stays_but_twice item = stays-twice item start old new

  -- where a new item is spent, all that was there before stays
  pub stays_on : Stays start old → (item : Item) → IsNewIn start item → StaysBut item old new → Stays start new
  stays_on before item = stays-on start old before item new

  -- so do connections, what waits, and what is left
  pub up_to_date_twice : UpToDateStay start old → UpToDateStay old new → UpToDateStay start new
  up_to_date_twice before next = record {
    subscribers = λ subscriber is. next.subscribers subscriber (before.subscribers subscriber is);
    connections =
        λ publisher subscriber is. next.connections publisher subscriber (before.connections publisher subscriber is);
    room = λ subscriber closes has. next.room subscriber closes (before.room subscriber closes has);
  }

  pub waiting_twice : WaitingStays start old → WaitingStays old new → WaitingStays start new
  waiting_twice before next = record { all = next.all ∙ before.all; from = next.from ∙ before.from }

  pub loans_left_twice : LoansLeftStay start old → LoansLeftStay old new → LoansLeftStay start new
  loans_left_twice before next =
      record {
        loans = λ publisher n left. next.loans publisher n (before.loans publisher n left);
        numbers = λ n left. next.numbers n (before.numbers n left);
      }

  pub borrows_left_twice : BorrowsLeftStay start old → BorrowsLeftStay old new → BorrowsLeftStay start new
  borrows_left_twice before next = record {
    all = λ subscriber n left. next.all subscriber n (before.all subscriber n left);
    of_each = λ publisher subscriber n left.
        next.of_each publisher subscriber n (before.of_each publisher subscriber n left);
  }

  pub leaves_twice : Leaves start old → Leaves old new → Leaves start new
  leaves_twice before next = record {
    stays = stays_twice before.stays next.stays;
    waits = waiting_twice before.waits next.waits;
    up_to_date = up_to_date_twice before.up_to_date next.up_to_date;
    loans_left = loans_left_twice before.loans_left next.loans_left;
    borrows_left = borrows_left_twice before.borrows_left next.borrows_left;
  }

module _ {T U F G : Type 0} (start old : Kept T U F G) where
  -- what is new later was new before
  pub new_since : Stays start old → (item : Item) → IsNewIn old item → IsNewIn start item
  new_since = new-since start old

-- a copy leaves what but a blocked send stays
pub copy_leaves : {T U F G : Type 0} (old new : Kept T U F G) (publisher : Publisher)
    (result : Result SendOutcome SendError) → StaysBut (spent_by_copy publisher result) old new
    → StaysBut (A_blocked_send publisher.id) old new
copy_leaves old new publisher result = stays-but-whole (spent_by_copy publisher result) (A_blocked_send publisher.id)
    (sent-copy-part publisher.id (is_blocked_send result)) old new

-- two new items are new
pub both_new : {T U F G : Type 0} (start : Kept T U F G) (first second : Item) → IsNewIn start first
    → IsNewIn start second → IsNewIn start (Both first second)
both_new = both-new

pub ruleset for_callers = (stays_twice, stays_on, new_since, both_new, copy_leaves, all_from_stays)
