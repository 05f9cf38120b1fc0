-- What holds of a subscriber's ends, expired publishers and mailboxes all the time that its update goes over the
-- places.
use Rattle.std.proofs.Common.{◌≡◌, ℕ, ◌≤◌, ◌<◌, Bool, true, false, cond, ◌||◌, List, [], ◌∷◌, ◌++◌, length, refl, sym}
use Rattle.std.proofs.Common.{ap, subst, ◌∙◌, arith, eqb, Option, None, Some, ◌⊎◌, inl, inr, ⊎_elim, MatchOption}
use Rattle.std.proofs.Common.{nat_lt, lt_of_lt_of_le}
use Rattle.std.specs.Bool.{MatchBool}
use Rattle.std.specs.Option.{option_map}
use Rattle.std.proofs.lemmas.Bool.{true≢false, or_left, eqb-true, eq-eqb, eqb-false, or_right, ne_eqb, ltb-true}
use Rattle.std.proofs.lemmas.Bool.{cond-false, cond_both}
use Rattle.std.proofs.lemmas.List.{length-append}
use Rattle.std.proofs.lemmas.Option.{none-some, same_Some}
use Rattle.iox2_laws.proofs.Cases.{by_option, by_bool}
use Rattle.iox2_laws.proofs.Puts.{put_at-other, at_each}
use Rattle.iox2_laws.proofs.NumberLemmas.{contains_in_append, contains_left, contains_right, contains_one, absent_from}
use Rattle.iox2_laws.proofs.NumberLemmas.{IsOnce-push, IsOnce-without, contains_in_without, contains-without_same}
use Rattle.iox2_laws.proofs.NumberLemmas.{contains-without_other, length-without}
use Rattle.iox2_laws.proofs.PlaceLemmas.{occupant-set_place, length-set_place_le, occupied_within, injective_removed}
use Rattle.iox2_laws.proofs.PlaceLemmas.{injective_set, found_set}
use Rattle.iox2_laws.proofs.ReleaseLaws.{stands_with}
use Rattle.iox2_machine.specs.machine.Limits.{expired_limit}
use Rattle.iox2_machine.specs.machine.Numbers.{put_at, contains, without, IsOnce}
use Rattle.iox2_machine.specs.machine.Places.{occupant, set_place}
use Rattle.iox2_machine.specs.machine.Mailbox.{Mailbox, has_numbers, has_borrows, has_waiting, waiting_dropped}
use Rattle.iox2_machine.specs.machine.Records.{Publisher, Subscriber, Handler, Environment}
use Rattle.iox2_machine.specs.machine.State.{State, Warnings, warned}
use Rattle.iox2_machine.specs.machine.Connections.{expired_buffer_full}
use Rattle.iox2_machine.specs.machine.SubscriberUpdate.{ReceiverSide, Retirement, Keep_expired, Evict, Discard_data}
use Rattle.iox2_machine.specs.machine.SubscriberUpdate.{Refuse, first_without_borrows, evict_or_refuse, retirement_of}
use Rattle.iox2_machine.specs.machine.SubscriberUpdate.{after_retirement, is_refused, with_end, ConnectReceiver, Retire}
use Rattle.iox2_machine.specs.machine.SubscriberUpdate.{ConnectAtPlace, DisconnectAtPlace, receiver_side}
use Rattle.iox2_machine.specs.machine.WellFormed.{LeadsTo, IsInjective, SubscriberIsWellFormed, IsWellFormed}
use Rattle.iox2_machine.specs.declared.degradation.DegradationAction.{DegradationAction}
use Rattle.iox2_machine.specs.declared.errors.ConnectionFailure.{ConnectionFailure}
use Rattle.iox2_machine.specs.declared.warning.Warning.TheVariants.{ExpiredDataDiscarded}

-- ---- ends

-- An end that is left was there, and leads to another port than the one that was taken away.
end_left : (ends : List (Option ℕ)) (place old i r : ℕ) → IsInjective ends → occupant ends place ≡ Some old
    → occupant (set_place ends place None) i ≡ Some r
    → (occupant ends i ≡ Some r) × (r ≡ old → ⊥)
end_left ends place old i r apart here h =
    ⊎_elim
    (λ new. absurd (none-some r new.1))
    (λ left. (left.1, λ same. eqb-false i place left.0 (apart i place old (left.1 ∙ ap Some same) here)))
    (found_set ends place None i r h)

-- An end at another place stays.
end_stays : (ends : List (Option ℕ)) (place : ℕ) (x : Option ℕ) (i r : ℕ) → occupant ends i ≡ Some r → (i ≡ place → ⊥)
    → occupant (set_place ends place x) i ≡ Some r
end_stays ends place x i r h apart =
    occupant-set_place ends place x i ∙ cond-false (eqb i place) x (occupant ends i) (ne_eqb i place apart) ∙ h

nothing_there : (ends : List (Option ℕ)) (place : ℕ) → occupant (set_place ends place None) place ≡ None
nothing_there ends place =
    occupant-set_place ends place None place ∙ ap (λ b. cond b None (occupant ends place)) (eq-eqb place place refl)

-- ---- places of publishers

placed : (o : Option Publisher) (place : ℕ) → option_map {T = Publisher} {U = ℕ} (λ x. x.place) o ≡ Some place
    → (x : Publisher) × (o ≡ Some x) × (x.place ≡ place)
placed None place e = absurd (none-some place e)
placed (Some x) place e = (x, refl, same_Some x.place place e)

-- ---- what becomes of a departed publisher

pub first_is : (boxes : ℕ → Mailbox) (ps : List ℕ) (p : ℕ) → first_without_borrows boxes ps ≡ Some p
    → (contains ps p ≡ true) × (has_borrows (boxes p) ≡ false)
first_is boxes [] p e = absurd (none-some p e)
first_is boxes (k ∷ ps) p e =
    elim (has_borrows (boxes k)) as (λ b. has_borrows (boxes k) ≡ b
    → cond b (first_without_borrows boxes ps) (Some k) ≡ Some p
    → ((eqb k p || contains ps p) ≡ true) × (has_borrows (boxes p) ≡ false)) [
      | true ↦ λ _ e. let later : (contains ps p ≡ true) × (has_borrows (boxes p) ≡ false) =
          first_is boxes ps p e in (or_right (eqb k p) (contains ps p) later.0, later.1)
      | false ↦ λ none e. (
        or_left (eqb k p) (contains ps p) (eq-eqb k p (same_Some k p e)),
        ap (λ r. has_borrows (boxes r)) (sym (same_Some k p e)) ∙ none,
      )
    ] refl e

-- What holds of each retirement that may be chosen holds of the chosen one.
pub by_retirement : (limit : ℕ) (boxes : ℕ → Mailbox) (expired : List ℕ) (old : ℕ) (R : Retirement → Type 0)
    → (length expired < limit → R Keep_expired)
    → ((first : ℕ) → contains expired first ≡ true → has_borrows (boxes first) ≡ false → R (Evict first))
    → (has_borrows (boxes old) ≡ false → R Discard_data)
    → R Refuse
    → R (retirement_of limit boxes expired old)
by_retirement limit boxes expired old R keep evict discard refuse =
    cond_both (nat_lt (length expired) limit) Keep_expired
    (cond (has_borrows (boxes old)) (evict_or_refuse (first_without_borrows boxes expired)) Discard_data) R
    (λ room. keep (ltb-true (length expired) limit room))
    (λ _. cond_both (has_borrows (boxes old)) (evict_or_refuse (first_without_borrows boxes expired)) Discard_data R
    (λ _. elim (first_without_borrows boxes expired) as (λ o. first_without_borrows boxes expired ≡ o
    → R (evict_or_refuse o)) [
      | None ↦ λ _. refuse
      | Some first ↦ λ e. evict first (first_is boxes expired first e).0 (first_is boxes expired first e).1
    ] refl)
    discard)

-- Whom an end leads to is the one that is taken in, or another.
or_another : (ends : List (Option ℕ)) (expired : List ℕ) (old r : ℕ) → contains expired old ≡ true → LeadsTo ends r
    → (contains expired r ≡ true) ⊎ (LeadsTo ends r × (r ≡ old → ⊥))
or_another ends expired old r h l =
    elim (eqb r old) as (λ b. eqb r old ≡ b → (contains expired r ≡ true) ⊎ (LeadsTo ends r × (r ≡ old → ⊥))) [
      | true ↦ λ same. inl (ap (contains expired) (eqb-true r old same) ∙ h)
      | false ↦ λ apart. inr (l, eqb-false r old apart)
    ] refl

last_there : (ns : List ℕ) (n : ℕ) → contains (ns ++ n ∷ []) n ≡ true
last_there ns n = contains_right ns (n ∷ []) n (or_left (eqb n n) false (eq-eqb n n refl))

module _ {T U : Type 0} where
  -- The subscriber has to know p: something of it is borrowed, or waits although p departed.
  abbrev pub HasToKnow : State T U → (p : ℕ) → Mailbox → Type 0
  HasToKnow s p box = (has_borrows box ≡ true) ⊎ ((s.publishers p ≡ None) × (has_waiting box ≡ true))

  -- Nobody has to know a publisher of which nothing is borrowed and nothing waits.
  nothing_left : (s : State T U) (p : ℕ) (box : Mailbox) → has_borrows box ≡ false → HasToKnow s p (waiting_dropped box)
      → ⊥
  nothing_left s p box unborrowed h =
      ⊎_elim (λ some. true≢false (sym some ∙ unborrowed)) (λ waits. true≢false (sym waits.1)) h

  -- A subscriber's side on its way through an update: what `IsWellFormed` asks of the subscriber, with each mailbox as
  -- it was or, of a departed publisher, without what waited; and whom it has to know it knows.
  pub record ReceiverSideIsWellFormed (s : State T U) (q : ℕ) (side : ReceiverSide) : Type 0 where
    pub ends_bound : length side.ends ≤ (s.config).max_publishers
    pub ends_apart : IsInjective side.ends
    pub ends_known : (p : ℕ) → LeadsTo side.ends p → p < s.next_port
    pub ends_stand : (place p : ℕ) → occupant side.ends place ≡ Some p
        → MatchOption (s.publishers p) (has_numbers (side.mailboxes p) ≡ true) (λ x. x.place ≡ place)
    pub expired_bound : length side.expired ≤ expired_limit s.config
    pub expired_once : IsOnce side.expired
    pub expired_apart : (p : ℕ) → contains side.expired p ≡ true → LeadsTo side.ends p → ⊥
    pub expired_known : (p : ℕ) → contains side.expired p ≡ true → p < s.next_port
    pub expired_gone : (p : ℕ) → contains side.expired p ≡ true → s.publishers p ≡ None
    pub expired_kept : (p : ℕ) → contains side.expired p ≡ true → has_numbers (side.mailboxes p) ≡ true
    pub boxes : (p : ℕ) → (side.mailboxes p ≡ s.mailboxes p q)
        ⊎ ((side.mailboxes p ≡ waiting_dropped (s.mailboxes p q)) × (s.publishers p ≡ None))
    pub knows : (p : ℕ) → HasToKnow s p (side.mailboxes p) → (contains side.expired p ≡ true) ⊎ LeadsTo side.ends p

  -- It holds where the update begins.
  pub receiver_side_begins : (s : State T U) → IsWellFormed s → (q : ℕ) (y : Subscriber) → s.subscribers q ≡ Some y
      → ReceiverSideIsWellFormed s q (receiver_side s q y)
  receiver_side_begins s w q y e =
      let b : SubscriberIsWellFormed s q y = w.subscribers q y e in
      record {
        ends_bound = b.ends_bound;
        ends_apart = b.ends_apart;
        ends_known = b.ends_known;
        ends_stand = b.ends_stand;
        expired_bound = b.expired_bound;
        expired_once = b.expired_once;
        expired_apart = b.expired_apart;
        expired_known = b.expired_known;
        expired_gone = b.expired_gone;
        expired_kept = b.expired_kept;
        boxes = λ p. inl refl;
        knows = λ p h.
            let at : (z : Subscriber) × (s.subscribers q ≡ Some z)
            × ((contains z.expired p ≡ true) ⊎ LeadsTo z.ends p) =
            ⊎_elim (w.mailboxes p q).receiver_end
            (λ waits. let found : (z : Subscriber) × (s.subscribers q ≡ Some z) × (z.is_open ≡ true)
            × ((contains z.expired p ≡ true) ⊎ LeadsTo z.ends p) =
            (w.mailboxes p q).departed waits.0 waits.1 in (found.0, found.1, found.3)) h in
            subst (λ (z : Subscriber). (contains z.expired p ≡ true) ⊎ LeadsTo z.ends p)
            (same_Some at.0 y (sym at.1 ∙ e)) at.2;
      }

  -- Its mark and the warnings don't matter.
  pub receiver_side_marked : (s : State T U) (q : ℕ) (side : ReceiverSide) (is_due : Bool) (warnings : Warnings)
      → ReceiverSideIsWellFormed s q side
      → ReceiverSideIsWellFormed s q (record side { is_due = is_due; warnings = warnings })
  receiver_side_marked s q side is_due warnings b = assumption

  -- An end is made at a place where nothing stands, to the publisher that has that place.
  pub end_made_keeps : (s : State T U) → IsWellFormed s → (q : ℕ) (side : ReceiverSide) (place p : ℕ)
      → ReceiverSideIsWellFormed s q side
      → occupant side.ends place ≡ None → occupant s.publisher_places place ≡ Some p
      → ReceiverSideIsWellFormed s q (with_end side place (Some p))
  end_made_keeps s w q side place p b free stands =
      let at : (x : Publisher) × (s.publishers p ≡ Some x) × (x.place ≡ place) =
      placed (s.publishers p) place (w.publisher_places.known p place stands) in
      let within : place < length s.publisher_places = occupied_within s.publisher_places place p stands in
      let low : place < (s.config).max_publishers = lt_of_lt_of_le within w.publisher_places.bound in
      record {
        ends_bound = length-set_place_le side.ends place (Some p) low b.ends_bound;
        ends_apart = injective_set side.ends place p b.ends_apart (λ i h.
            sym (subst (λ (o : Option Publisher). MatchOption o (has_numbers (side.mailboxes p) ≡ true)
            (λ x. x.place ≡ i)) at.1 (b.ends_stand i p h)) ∙ at.2);
        ends_known = λ r l. ⊎_elim
            (λ new. subst (λ k. k < s.next_port) (same_Some p r new.1) (w.publishers p at.0 at.1).is_known)
            (λ old. b.ends_known r (l.0, old.1))
            (found_set side.ends place (Some p) l.0 r l.1);
        ends_stand = λ i r h. ⊎_elim
            (λ new. subst (λ k. MatchOption (s.publishers k) (has_numbers (side.mailboxes k) ≡ true) (λ x. x.place ≡ i))
            (same_Some p r new.1)
            (subst (λ (o : Option Publisher). MatchOption o (has_numbers (side.mailboxes p) ≡ true) (λ x. x.place ≡ i))
            (sym at.1) (at.2 ∙ sym new.0)))
            (λ old. b.ends_stand i r old.1)
            (found_set side.ends place (Some p) i r h);
        expired_bound = b.expired_bound;
        expired_once = b.expired_once;
        expired_apart = λ r h l. ⊎_elim
            (λ new. none-some at.0 (sym (b.expired_gone r h) ∙ ap s.publishers (sym (same_Some p r new.1)) ∙ at.1))
            (λ old. b.expired_apart r h (l.0, old.1))
            (found_set side.ends place (Some p) l.0 r l.1);
        expired_known = b.expired_known;
        expired_gone = b.expired_gone;
        expired_kept = b.expired_kept;
        boxes = b.boxes;
        knows = λ r h. ⊎_elim inl
            (λ l. inr (
              l.0,
              end_stays side.ends place (Some p) l.0 r l.1
                  (λ same. none-some r (sym free ∙ ap (occupant side.ends) (sym same) ∙ l.1)),
            ))
            (b.knows r h);
      }

  -- A departed publisher leaves its end: it may become expired, another expired one may go, and what waits may be lost,
  -- but of nobody that stays.
  left_end_keeps : (s : State T U) (q : ℕ) (side : ReceiverSide) (place old : ℕ) → ReceiverSideIsWellFormed s q side
      → occupant side.ends place ≡ Some old → s.publishers old ≡ None
      → (expired : List ℕ) (boxes : ℕ → Mailbox) (warnings : Warnings)
      → length expired ≤ expired_limit s.config → IsOnce expired
      → ((r : ℕ) → contains expired r ≡ true → (r ≡ old) ⊎ (contains side.expired r ≡ true))
      → ((r : ℕ) → contains expired r ≡ true → boxes r ≡ side.mailboxes r)
      → ((r : ℕ) → LeadsTo side.ends r → (r ≡ old → ⊥) → boxes r ≡ side.mailboxes r)
      → ((r : ℕ)
      → (boxes r ≡ side.mailboxes r) ⊎ ((boxes r ≡ waiting_dropped (side.mailboxes r)) × (s.publishers r ≡ None)))
      → ((r : ℕ) → HasToKnow s r (boxes r) → (contains expired r ≡ true) ⊎ (LeadsTo side.ends r × (r ≡ old → ⊥)))
      → ReceiverSideIsWellFormed s q (record side
      { ends = set_place side.ends place None; expired = expired; mailboxes = boxes; warnings = warnings })
  left_end_keeps s q side place old b here gone expired boxes warnings bound once from kept at_ends each knows =
      let within : place < length side.ends = occupied_within side.ends place old here in
      let low : place < (s.config).max_publishers = lt_of_lt_of_le within b.ends_bound in
      let some : has_numbers (side.mailboxes old) ≡ true =
      subst (λ (o : Option Publisher). MatchOption o (has_numbers (side.mailboxes old) ≡ true) (λ x. x.place ≡ place))
      gone (b.ends_stand place old here) in
      record {
        ends_bound = length-set_place_le side.ends place None low b.ends_bound;
        ends_apart = injective_removed side.ends place b.ends_apart;
        ends_known = λ r l. b.ends_known r (l.0, (end_left side.ends place old l.0 r b.ends_apart here l.1).0);
        ends_stand = λ i r h.
            let left : (occupant side.ends i ≡ Some r) × (r ≡ old → ⊥) =
            end_left side.ends place old i r b.ends_apart here h in
            stands_with (s.publishers r) (has_numbers (side.mailboxes r) ≡ true) (has_numbers (boxes r) ≡ true)
            (λ x. x.place ≡ i) (b.ends_stand i r left.0)
            (λ k. ap has_numbers (at_ends r (i, left.0) left.1) ∙ k);
        expired_bound = bound;
        expired_once = once;
        expired_apart = λ r h l.
            let left : (occupant side.ends l.0 ≡ Some r) × (r ≡ old → ⊥) =
            end_left side.ends place old l.0 r b.ends_apart here l.1 in
            ⊎_elim left.1 (λ k. b.expired_apart r k (l.0, left.0)) (from r h);
        expired_known = λ r h. ⊎_elim (λ same. subst (λ k. k < s.next_port) (sym same) (b.ends_known old (place, here)))
            (b.expired_known r) (from r h);
        expired_gone = λ r h. ⊎_elim (λ same. ap s.publishers same ∙ gone) (b.expired_gone r) (from r h);
        expired_kept = λ r h. ap has_numbers (kept r h)
            ∙ ⊎_elim (λ same. ap (λ k. has_numbers (side.mailboxes k)) same ∙ some) (b.expired_kept r) (from r h);
        boxes = λ r. ⊎_elim
            (λ e. ⊎_elim (λ f. inl (e ∙ f)) (λ f. inr (e ∙ f.0, f.1)) (b.boxes r))
            (λ e. inr (e.0 ∙ ⊎_elim (λ f. ap waiting_dropped f) (λ f. ap waiting_dropped f.0) (b.boxes r), e.1))
            (each r);
        knows = λ r h. ⊎_elim inl
            (λ l. inr (
              (l.0).0,
              end_stays side.ends place None (l.0).0 r (l.0).1
                  (λ same. l.1 (same_Some r old (sym (l.0).1 ∙ ap (occupant side.ends) same ∙ here))),
            ))
            (knows r h);
      }

  pub kept_expired_keeps : (s : State T U) (q : ℕ) (side : ReceiverSide) (place old : ℕ)
      → ReceiverSideIsWellFormed s q side
      → occupant side.ends place ≡ Some old → s.publishers old ≡ None → length side.expired < expired_limit s.config
      → ReceiverSideIsWellFormed s q (with_end (after_retirement q side old Keep_expired) place None)
  kept_expired_keeps s q side place old b here gone room =
      left_end_keeps s q side place old b here gone (side.expired ++ old ∷ []) side.mailboxes side.warnings
      (omega (arith, length-append side.expired (old ∷ [])))
      (IsOnce-push side.expired old b.expired_once
      (absent_from side.expired old (λ h. b.expired_apart old h (place, here))))
      (λ r h.
      ⊎_elim (λ k. inr k) (λ k. inl (sym (contains_one old r k))) (contains_in_append side.expired (old ∷ []) r h))
      (λ r h. refl)
      (λ r l apart. refl)
      (λ r. inl refl)
      (λ r h. ⊎_elim (λ k. inl (contains_left side.expired (old ∷ []) r k))
      (or_another side.ends (side.expired ++ old ∷ []) old r (last_there side.expired old)) (b.knows r h))

  pub evicted_keeps : (s : State T U) (q : ℕ) (side : ReceiverSide) (place old : ℕ) → ReceiverSideIsWellFormed s q side
      → occupant side.ends place ≡ Some old → s.publishers old ≡ None
      → (first : ℕ) → contains side.expired first ≡ true → has_borrows (side.mailboxes first) ≡ false
      → ReceiverSideIsWellFormed s q (with_end (after_retirement q side old (Evict first)) place None)
  evicted_keeps s q side place old b here gone first member unborrowed =
      let boxes : ℕ → Mailbox = put_at side.mailboxes first (waiting_dropped (side.mailboxes first)) in
      let expired : List ℕ = without first side.expired ++ old ∷ [] in
      let other : (r : ℕ) → (r ≡ first → ⊥) → boxes r ≡ side.mailboxes r = λ r apart.
      put_at-other side.mailboxes first (waiting_dropped (side.mailboxes first)) r (ne_eqb r first apart) in
      left_end_keeps s q side place old b here gone expired boxes (warned side.warnings (ExpiredDataDiscarded first q))
      (let bound : length side.expired ≤ expired_limit s.config = b.expired_bound in
      omega (
        arith,
        length-append (without first side.expired) (old ∷ []),
        length-without first side.expired b.expired_once member,
      ))
      (IsOnce-push (without first side.expired) old (IsOnce-without first side.expired b.expired_once)
      (absent_from (without first side.expired) old
      (λ h. b.expired_apart old (contains_in_without first old side.expired h) (place, here))))
      (λ r h. ⊎_elim (λ k. inr (contains_in_without first r side.expired k)) (λ k. inl (sym (contains_one old r k)))
      (contains_in_append (without first side.expired) (old ∷ []) r h))
      (λ r h. other r (λ same. ⊎_elim
      (λ k. true≢false
      (sym k ∙ ap (contains (without first side.expired)) same ∙ contains-without_same first side.expired))
      (λ k. b.expired_apart first member (place, here ∙ ap Some (contains_one old r k ∙ same)))
      (contains_in_append (without first side.expired) (old ∷ []) r h)))
      (λ r l _. other r (λ same. b.expired_apart first member (l.0, l.1 ∙ ap Some same)))
      (λ r. at_each side.mailboxes first (waiting_dropped (side.mailboxes first))
      (λ i m. (m ≡ side.mailboxes i) ⊎ ((m ≡ waiting_dropped (side.mailboxes i)) × (s.publishers i ≡ None))) r
      (λ _. inr (refl, b.expired_gone first member)) (λ _. inl refl))
      (λ r. at_each side.mailboxes first (waiting_dropped (side.mailboxes first))
      (λ i m. HasToKnow s i m → (contains expired i ≡ true) ⊎ (LeadsTo side.ends i × (i ≡ old → ⊥))) r
      (λ _ h. absurd (nothing_left s first (side.mailboxes first) unborrowed h))
      (λ apart h. ⊎_elim
      (λ k. inl (contains_left (without first side.expired) (old ∷ []) r
      (contains-without_other first r side.expired apart k)))
      (or_another side.ends expired old r (last_there (without first side.expired) old)) (b.knows r h)))

  pub discarded_keeps : (s : State T U) (q : ℕ) (side : ReceiverSide) (place old : ℕ)
      → ReceiverSideIsWellFormed s q side
      → occupant side.ends place ≡ Some old → s.publishers old ≡ None → has_borrows (side.mailboxes old) ≡ false
      → ReceiverSideIsWellFormed s q (with_end (after_retirement q side old Discard_data) place None)
  discarded_keeps s q side place old b here gone unborrowed =
      let boxes : ℕ → Mailbox = put_at side.mailboxes old (waiting_dropped (side.mailboxes old)) in
      let other : (r : ℕ) → (r ≡ old → ⊥) → boxes r ≡ side.mailboxes r = λ r apart.
      put_at-other side.mailboxes old (waiting_dropped (side.mailboxes old)) r (ne_eqb r old apart) in
      left_end_keeps s q side place old b here gone side.expired boxes
      (warned side.warnings (ExpiredDataDiscarded old q))
      b.expired_bound b.expired_once
      (λ r h. inr h)
      (λ r h. other r (λ same. b.expired_apart r h (place, here ∙ ap Some (sym same))))
      (λ r l apart. other r apart)
      (λ r. at_each side.mailboxes old (waiting_dropped (side.mailboxes old))
      (λ i m. (m ≡ side.mailboxes i) ⊎ ((m ≡ waiting_dropped (side.mailboxes i)) × (s.publishers i ≡ None))) r
      (λ _. inr (refl, gone)) (λ _. inl refl))
      (λ r. at_each side.mailboxes old (waiting_dropped (side.mailboxes old))
      (λ i m. HasToKnow s i m → (contains side.expired i ≡ true) ⊎ (LeadsTo side.ends i × (i ≡ old → ⊥))) r
      (λ _ h. absurd (nothing_left s old (side.mailboxes old) unborrowed h))
      (λ apart h. ⊎_elim inl (λ l. inr (l, eqb-false r old apart)) (b.knows r h)))

  -- ---- the steps of an update

  -- A publisher that left its end at a place, or was refused that, leaves the side well-formed if what comes then does.
  retire_keeps : (environment : Environment) (s : State T U) (q : ℕ) (handler : Handler DegradationAction)
      (has_end : ℕ → Bool)
      (side : ReceiverSide) (place old : ℕ) (side' : ReceiverSide) (failure : Option ConnectionFailure)
      (Then : ReceiverSide → Type 0)
      → ReceiverSideIsWellFormed s q side → occupant side.ends place ≡ Some old → s.publishers old ≡ None
      → ((mid : ReceiverSide) → ReceiverSideIsWellFormed s q mid → occupant mid.ends place ≡ None → Then mid
      → ReceiverSideIsWellFormed s q side')
      → Retire environment (s.config).service_id q handler
      (expired_limit s.config) has_end side place old side' failure Then → ReceiverSideIsWellFormed s q side'
  retire_keeps environment s q handler has_end side place old side' failure Then b here gone go =
      by_retirement (expired_limit s.config) side.mailboxes side.expired old
      (λ how.
      MatchBool (is_refused how) ((side' ≡ after_retirement q side old how) × (failure ≡ Some expired_buffer_full))
      (Then (with_end (after_retirement q side old how) place None))
      → ReceiverSideIsWellFormed s q side')
      (λ room h. go (with_end (after_retirement q side old Keep_expired) place None)
      (kept_expired_keeps s q side place old b here gone room)
      (nothing_there side.ends place) h)
      (λ first member none h. go (with_end (after_retirement q side old (Evict first)) place None)
      (evicted_keeps s q side place old b here gone first member none) (nothing_there side.ends place) h)
      (λ none h. go (with_end (after_retirement q side old Discard_data) place None)
      (discarded_keeps s q side place old b here gone none)
      (nothing_there side.ends place) h)
      (λ h. subst (ReceiverSideIsWellFormed s q) (sym h.0) (receiver_side_marked s q side true side.warnings b))

  -- Who stands at an end of a place that another has, or nobody, is gone.
  departed : (s : State T U) → IsWellFormed s → (q : ℕ) (side : ReceiverSide) (place old : ℕ)
      → ReceiverSideIsWellFormed s q side
      → occupant side.ends place ≡ Some old → (occupant s.publisher_places place ≡ Some old → ⊥)
      → s.publishers old ≡ None
  departed s w q side place old b here another =
      elim (s.publishers old) as (λ o. s.publishers old ≡ o → o ≡ None) [
        | None ↦ λ _. refl
        | Some x ↦ λ e. absurd (another (w.publisher_places.stands old place
            (ap (option_map {T = Publisher} {U = ℕ} (λ v. v.place)) e
            ∙ ap Some (subst (λ (o : Option Publisher).
            MatchOption o (has_numbers (side.mailboxes old) ≡ true) (λ v. v.place ≡ place)) e
            (b.ends_stand place old here)))))
      ] refl

  connected_keeps : (environment : Environment) (s : State T U) → IsWellFormed s
      → (q : ℕ) (handler : Handler DegradationAction) (has_end : ℕ → Bool)
      (side : ReceiverSide) (place p : ℕ) (side' : ReceiverSide) (failure : Option ConnectionFailure)
      → ReceiverSideIsWellFormed s q side → occupant side.ends place ≡ None → occupant s.publisher_places place ≡ Some p
      → ConnectReceiver environment (s.config).service_id q handler
      (expired_limit s.config) has_end side place p side' failure → ReceiverSideIsWellFormed s q side'
  connected_keeps environment s w q handler has_end side place p side' failure b free stands h =
      ⊎_elim
      (λ made. subst (ReceiverSideIsWellFormed s q) (sym made.0) (end_made_keeps s w q side place p b free stands))
      (λ refused. subst (ReceiverSideIsWellFormed s q) (sym refused.3)
      (receiver_side_marked s q side side.is_due refused.1 b)) h

  -- A step of the first walk keeps the side well-formed.
  pub connect_at_place_keeps : (environment : Environment) (s : State T U) → IsWellFormed s
      → (q : ℕ) (handler : Handler DegradationAction) (has_end : ℕ → Bool)
      (place : ℕ) (side side' : ReceiverSide) (failure : Option ConnectionFailure) → ReceiverSideIsWellFormed s q side
      → ConnectAtPlace environment (s.config).service_id q handler (expired_limit s.config) has_end place
      (occupant s.publisher_places place) side side' failure
      → ReceiverSideIsWellFormed s q side'
  connect_at_place_keeps environment s w q handler has_end place side side' failure b h =
      by_option (ReceiverSideIsWellFormed s q side') (occupant s.publisher_places place) _ _ h
      (λ _ h. subst (ReceiverSideIsWellFormed s q) (sym h.0) b)
      (λ p stands h. by_option (ReceiverSideIsWellFormed s q side') (occupant side.ends place) _ _ h
      (λ free h. connected_keeps environment s w q handler has_end side place p side' failure b free stands h)
      (λ old here h. by_bool (ReceiverSideIsWellFormed s q side') (eqb old p) _ _ h
      (λ _ h. subst (ReceiverSideIsWellFormed s q) (sym h.0) b)
      (λ apart h. retire_keeps environment s q handler has_end side place old side' failure _ b here
      (departed s w q side place old b here (λ other. eqb-false old p apart (same_Some old p (sym other ∙ stands))))
      (λ mid b free h. connected_keeps environment s w q handler has_end mid place p side' failure b free stands h) h)))

  -- A step of the second walk keeps the side well-formed.
  pub disconnect_at_place_keeps : (environment : Environment) (s : State T U) → IsWellFormed s
      → (q : ℕ) (handler : Handler DegradationAction) (has_end : ℕ → Bool)
      (place : ℕ) (side side' : ReceiverSide) (failure : Option ConnectionFailure) → ReceiverSideIsWellFormed s q side
      → DisconnectAtPlace environment (s.config).service_id q handler (expired_limit s.config) has_end place
      (occupant s.publisher_places place) side side' failure
      → ReceiverSideIsWellFormed s q side'
  disconnect_at_place_keeps environment s w q handler has_end place side side' failure b h =
      by_option (ReceiverSideIsWellFormed s q side') (occupant s.publisher_places place) _ _ h
      (λ empty h. by_option (ReceiverSideIsWellFormed s q side') (occupant side.ends place) _ _ h
      (λ _ h. subst (ReceiverSideIsWellFormed s q) (sym h.0) b)
      (λ old here h. retire_keeps environment s q handler has_end side place old side' failure
      (λ mid. (side' ≡ mid) × (failure ≡ None)) b here
      (departed s w q side place old b here (λ other. none-some old (sym empty ∙ other)))
      (λ mid b _ h. subst (ReceiverSideIsWellFormed s q) (sym h.0) b) h))
      (λ p _ h. subst (ReceiverSideIsWellFormed s q) (sym h.0) b)
