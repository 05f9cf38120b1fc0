-- What waits from one publisher is a part of what waits, and where it is all of it, a receive takes its first.
use Rattle.std.proofs.Common.{◌≡◌, ℕ, suc, ◌+◌, ◌<◌, ◌≤◌, true, List, [], ◌∷◌, ◌++◌, map, length, refl, sym, ap, subst}
use Rattle.std.proofs.Common.{◌∙◌, arith, ◌⊎◌, inl, inr, ⊎_elim, Result, Ok, Err}
use Rattle.std.specs.Prelude.{◌≢◌, IfOk}
use Rattle.std.specs.List.{AllByRecursion}
use Rattle.std.proofs.lemmas.Bool.{cases_eq}
use Rattle.std.proofs.lemmas.List.{length-append}
use Rattle.iox2_machine.specs.machine.Numbers.{contains}
use Rattle.iox2_machine.specs.machine.State.{State, Messages}
use Rattle.iox2_machine.specs.machine.Waiting.{waiting_from}
use Rattle.iox2_machine.specs.machine.WellFormed.{IsWellFormed}
use Rattle.iox2_machine.specs.declared.errors.SendError.{SendError}
use Rattle.iox2_domain.specs.Kept.{Kept, state_of, entries_of}
use Rattle.iox2_domain.specs.Shows.{Shows}
use Rattle.iox2_laws.proofs.MailboxLemmas.{has_numbers-contains, contains_waiting_in}
use Rattle.iox2_laws.proofs.NumberLemmas.{contains_first}
use Rattle.iox2_laws.proofs.WaitingCounts.{cond_among, sum_part, sum_below}
use Rattle.iox2_pubsub.specs.Live.{AllFrom, AreAllSlices, HasItsBuffer, IsServed, LeavesLater, TakesFirst, TakesOldest}
use Rattle.iox2_pubsub.specs.Live.{payloads, payloads_from, waiting, sample_key}
use Rattle.iox2_pubsub.specs.Payloads.{payload_of}
use Rattle.iox2_pubsub.specs.SendCalls.{IsDelivered}
use Rattle.iox2_pubsub.specs.Slices.{SampleHasValues}
use Rattle.iox2_pubsub.specs.Sample.{Sample}
use Rattle.iox2_pubsub.specs.declared.send_outcome.SendOutcome.{SendOutcome}
use Rattle.iox2_pubsub.specs.declared.subscriber.Subscriber.{Subscriber}
use Rattle.iox2_pubsub.proofs.PayloadLists.{length-all_below, none_below, only_below, two_parts}
use Rattle.iox2_pubsub.proofs.WaitingShown.{payloads-are, payloads-from-are}

-- a list is empty, or something stands first
some-or-none : (ns : List ℕ) → (ns ≡ []) ⊎ ((n : ℕ) × (contains ns n ≡ true))
some-or-none [] = inl refl
some-or-none (n ∷ ns) = inr (n, contains_first n ns)

module _ {T U F G : Type 0} (kept : Kept T U F G) (well : IsWellFormed (state_of kept)) (subscriber : Subscriber) where
  abbrev q : ℕ
  q = subscriber.id

  -- the payloads of what waits from a publisher
  abbrev pub lists : ℕ → List (List T)
  lists p = map (payload_of (entries_of kept)) (waiting_from (state_of kept) p q)

  abbrev pub count : ℕ → ℕ
  count p = length (lists p)

  abbrev pub ports : ℕ
  ports = (state_of kept).next_port

  -- how many wait, and how many of one publisher
  pub all-is : waiting kept subscriber ≡ sum_below count ports
  all-is = ap length (payloads-are kept subscriber) ∙ length-all_below lists ports

  pub one-is : (p : ℕ) → length (payloads_from kept p subscriber) ≡ count p
  one-is p = ap length (payloads-from-are kept p subscriber)

  -- who has sent anything is known
  pub none-or-known : (p : ℕ) → (count p ≡ 0) ⊎ (p < ports)
  none-or-known p = ⊎_elim
      (λ none. inl (ap (λ ns. length (map (payload_of (entries_of kept)) ns)) none))
      (λ some. inr (
      (well.mailboxes p q).known
      (has_numbers-contains ((state_of kept).mailboxes p q) some.0
      (contains_waiting_in 0 ((state_of kept).mailboxes p q) some.0
      (cond_among _ ((state_of kept).mailboxes p q).waiting some.0 some.1)))
      ).0)
      (some-or-none (waiting_from (state_of kept) p q))

  pub part-of : (p : ℕ) → length (payloads_from kept p subscriber) ≤ waiting kept subscriber
  part-of p =
      let all : waiting kept subscriber ≡ sum_below count ports = all-is in
      let one : length (payloads_from kept p subscriber) ≡ count p = one-is p in
      elim (none-or-known p) [
        | inl none ↦ omega arith
        | inr known ↦ let part : count p ≤ sum_below count ports = sum_part count p ports known in omega arith
      ]

  -- where one publisher's are as many as wait, another's are none
  pub none-beside : (p o : ℕ) → p ≢ o → waiting kept subscriber ≡ length (payloads_from kept p subscriber)
      → length (payloads_from kept o subscriber) ≡ 0
  none-beside p o apart same =
      let all : waiting kept subscriber ≡ sum_below count ports = all-is in
      let one : length (payloads_from kept p subscriber) ≡ count p = one-is p in
      let other : length (payloads_from kept o subscriber) ≡ count o = one-is o in
      elim (none-or-known o) [
        | inl none ↦ omega arith
        | inr near ↦ elim (none-or-known p) [
          | inl none ↦ let part : count o ≤ sum_below count ports = sum_part count o ports near in omega arith
          | inr known ↦ let both : count p + count o ≤ sum_below count ports =
              two_parts count p o ports known near apart in omega arith
        ]
      ]

  -- and they are all that waits
  pub only-from : (p : ℕ) → waiting kept subscriber ≡ length (payloads_from kept p subscriber)
      → payloads kept subscriber ≡ payloads_from kept p subscriber
  only-from p same =
      let all : waiting kept subscriber ≡ sum_below count ports = all-is in
      let one : length (payloads_from kept p subscriber) ≡ count p = one-is p in
      let sum : sum_below count ports ≡ count p = omega arith in
      payloads-are kept subscriber
      ∙ ⊎_elim
      (λ none. none_below lists ports (sum ∙ none) ∙ sym (empty (lists p) none))
      (λ known. only_below lists p ports known sum)
      (none-or-known p)
      ∙ sym (payloads-from-are kept p subscriber)
    where
      empty : (xs : List (List T)) → length xs ≡ 0 → xs ≡ []
      empty [] none = refl
      empty (x ∷ xs) none = absurd (omega arith)

module _ {T U F G : Type 0} (old new : Kept T U F G) (before : IsWellFormed (state_of old))
    (after : IsWellFormed (state_of new)) (p : ℕ) (subscriber : Subscriber) where
  -- what is served where nothing waited is all that waits
  served-first : (values : List T) → IsServed old new p subscriber values → waiting old subscriber ≡ 0
      → AllFrom new p subscriber (values ∷ [])
  unfolding IsServed
  served-first values served none =
      let part : length (payloads_from old p subscriber) ≤ waiting old subscriber = part-of old before subscriber p in
      let empty : length (payloads_from old p subscriber) ≡ 0 = omega arith in
      ⊎_elim
      (λ came.
      let first : payloads_from new p subscriber ≡ values ∷ [] =
      came.0 ∙ ap (λ xs. xs ++ values ∷ []) (no-items (payloads_from old p subscriber) empty) in
      let one : length (payloads_from new p subscriber) ≡ 1 = ap length first in
      let all : waiting new subscriber ≡ 1 = came.1 ∙ ap suc none in
      record { all = only-from new after subscriber p (all ∙ sym one) ∙ first; from = first })
      (λ full. let some : 0 < length (payloads_from old p subscriber) = (full.0).some in absurd (omega arith))
      served
    where
      no-items : (xs : List (List T)) → length xs ≡ 0 → xs ≡ []
      no-items [] none = refl
      no-items (x ∷ xs) none = absurd (omega arith)

  -- what is served where there is room joins all that waits
  pub served-joins : (values : List T) (earlier : List (List T)) → IsServed old new p subscriber values
      → AllFrom old p subscriber earlier → HasItsBuffer old subscriber
      → length earlier < subscriber.buffer_size → AllFrom new p subscriber (earlier ++ values ∷ [])
  unfolding IsServed
  served-joins values earlier served all its room =
      ⊎_elim
      (λ came.
      let from : payloads_from new p subscriber ≡ earlier ++ values ∷ [] =
      came.0 ∙ ap (λ xs. xs ++ values ∷ []) all.from in
      let longer : length (earlier ++ values ∷ []) ≡ length earlier + 1 = length-append earlier (values ∷ []) in
      let now : length (payloads_from new p subscriber) ≡ length (earlier ++ values ∷ []) = ap length from in
      let was : waiting old subscriber ≡ length earlier = ap length all.all in
      let more : waiting new subscriber ≡ suc (waiting old subscriber) = came.1 in
      record { all = only-from new after subscriber p (omega (arith, longer, now, was, more)) ∙ from; from = from })
      (λ full.
      let least : subscriber.buffer_size ≤ length (payloads_from old p subscriber) = (full.0).full its in
      let same : length (payloads_from old p subscriber) ≡ length earlier = ap length all.from in
      absurd (omega (arith, least, same, room)))
      served

  -- what is received where all is of one publisher is the first of it
  received-first : (sample : Sample) → TakesOldest subscriber sample old new
      → waiting new subscriber < waiting old subscriber
      → (first : List T) (rest : List (List T)) → AllFrom old p subscriber (first ∷ rest)
      → SampleHasValues new (sample_key sample) first × AllFrom new p subscriber rest
  received-first sample oldest fewer first rest all = (
    subst (SampleHasValues new (sample_key sample)) values-first oldest.2,
    record { all = only-from new after subscriber p count ∙ left; from = left },
  ) where
    origin : sample.origin ≡ p
    origin = elim (cases_eq sample.origin p) [
      | inl same ↦ same
      | inr away ↦
          let none : length (payloads_from old sample.origin subscriber) ≡ 0 =
          none-beside old before subscriber p sample.origin (λ same. away (sym same))
          (ap length all.all ∙ sym (ap length all.from)) in
          let some : length (payloads_from old sample.origin subscriber) ≡ suc
          (length (payloads_from new sample.origin subscriber)) = ap length oldest.1 in
          absurd (omega arith)
    ]

    lists : first ∷ rest ≡ oldest.0 ∷ payloads_from new p subscriber
    lists = sym all.from
        ∙ subst (λ i. payloads_from old i subscriber ≡ oldest.0 ∷ payloads_from new i subscriber) origin oldest.1

    values-first : oldest.0 ≡ first
    values-first = let same : first ∷ rest ≡ oldest.0 ∷ payloads_from new p subscriber = lists in cc

    left : payloads_from new p subscriber ≡ rest
    left = let same : first ∷ rest ≡ oldest.0 ∷ payloads_from new p subscriber = lists in cc

    count : waiting new subscriber ≡ length (payloads_from new p subscriber)
    count =
        let part : length (payloads_from new p subscriber) ≤ waiting new subscriber =
        part-of new after subscriber p in
        let remain : length (payloads_from new p subscriber) ≡ length rest = ap length left in
        let was : waiting old subscriber ≡ suc (length rest) = ap length all.all in
        let less : waiting new subscriber < waiting old subscriber = fewer in
        omega arith

-- a list of one has that one alone
pub one-is-all : {T : Type 0} (lists : List (List T)) (values : List T) → lists ≡ values ∷ []
    → AreAllSlices lists values
unfolding AreAllSlices
one-is-all lists values is = subst (AllByRecursion (λ payload. payload ≡ values)) (sym is) (refl, tt)

-- seen from states that are shown
module _ {T U F G : Type 0} (old new : Kept T U F G) (m m' : Messages T U) (s s' : State T U) (shown : Shows old m s)
    (shown' : Shows new m' s') (subscriber : Subscriber) where
  before-well : IsWellFormed (state_of old)
  before-well = subst IsWellFormed shown.state shown.well_formed

  after-well : IsWellFormed (state_of new)
  after-well = subst IsWellFormed shown'.state shown'.well_formed

  -- a send that serves brings all that waits, where nothing did
  pub send-arrives : (p : ℕ) (values : List T) → waiting old subscriber ≡ 0 → (result : Result SendOutcome SendError)
      → IfOk result (λ outcome. IsDelivered outcome → IsServed old new p subscriber values)
      → IfOk result (λ outcome. IsDelivered outcome → AllFrom new p subscriber (values ∷ []))
  send-arrives p values none (Ok outcome) serves =
      λ delivered. served-first old new before-well after-well p subscriber values (serves delivered) none
  send-arrives p values none (Err error) serves = tt

  -- and where there is room it joins what waits, if that is all of its publisher
  pub send-joins : (p : ℕ) (values : List T) (earlier : List (List T)) → AllFrom old p subscriber earlier
      → HasItsBuffer old subscriber → length earlier < subscriber.buffer_size
      → (result : Result SendOutcome SendError)
      → IfOk result (λ outcome. IsDelivered outcome → IsServed old new p subscriber values)
      → IfOk result (λ outcome. IsDelivered outcome → AllFrom new p subscriber (earlier ++ values ∷ []))
  send-joins p values earlier all its room (Ok outcome) serves = λ delivered.
      served-joins old new before-well after-well p subscriber values earlier (serves delivered) all its room
  send-joins p values earlier all its room (Err error) serves = tt

  -- and a receive takes the first
  pub receive-takes-first : (sample : Sample) → TakesOldest subscriber sample old new
      → waiting new subscriber < waiting old subscriber
      → TakesFirst subscriber sample old new × LeavesLater subscriber old new
  receive-takes-first sample oldest fewer = (
    λ p payload later all.
        (received-first old new before-well after-well p subscriber sample oldest fewer payload later all).0,
    λ p payload later all.
        (received-first old new before-well after-well p subscriber sample oldest fewer payload later all).1,
  )
