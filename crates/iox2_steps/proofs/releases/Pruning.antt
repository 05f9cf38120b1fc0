-- Who is forgotten at a release: at most the publisher whose message it is.
use Rattle.std.proofs.Common.{◌≡◌, ◌≢◌, ℕ, zero, suc, Bool, true, false, cond, eqb, is_some, List, [], ◌∷◌, Option}
use Rattle.std.proofs.Common.{None, Some, refl, ap, sym, ◌∙◌, ◌⊎◌, inl, inr, MatchOption}
use Rattle.std.proofs.lemmas.Bool.{eq-eqb, eqb-true, ne_eqb, or_left, or_right}
use Rattle.std.specs.List.{filter}
use Rattle.std.specs.Option.{option_map}
use Rattle.iox2_machine.specs.machine.Numbers.{put_at, contains}
use Rattle.iox2_machine.specs.machine.Places.{occupant, places_kept}
use Rattle.iox2_machine.specs.machine.Mailbox.{has_numbers, with_released}
use Rattle.iox2_machine.specs.machine.Records.{Publisher, Subscriber}
use Rattle.iox2_machine.specs.machine.State.{State, is_present}
use Rattle.iox2_machine.specs.machine.Releases.{is_connected, pruned, unborrowed, subscriber_pruned}
use Rattle.iox2_machine.specs.machine.WellFormed.{IsWellFormed, LeadsTo}
use Rattle.iox2_connections.proofs.MailboxChanges.{put_at-own}
use Rattle.iox2_laws.proofs.Puts.{put_at-other}

-- a list of places keeps all of its ports where each passes the test
pub places_kept-all : (test : ℕ → Bool) (xs : List (Option ℕ)) → ((i id : ℕ) → occupant xs i ≡ Some id → test id ≡ true)
    → places_kept test xs ≡ xs
places_kept-all test [] all = refl
places_kept-all test (None ∷ xs) all =
    ap (λ (ys : List (Option ℕ)). None ∷ ys) (places_kept-all test xs (λ i id at. all (suc i) id at))
places_kept-all test (Some id ∷ xs) all =
    ap (λ b. cond b (Some id) None ∷ places_kept test xs) (all zero id refl)
    ∙ ap (λ (ys : List (Option ℕ)). Some id ∷ ys) (places_kept-all test xs (λ i id at. all (suc i) id at))

-- and so does a list of numbers
pub filter-all : (test : ℕ → Bool) (xs : List ℕ) → ((n : ℕ) → contains xs n ≡ true → test n ≡ true)
    → filter test xs ≡ xs
filter-all test [] all = refl
filter-all test (x ∷ xs) all =
    ap (λ b. cond b (x ∷ filter test xs) (filter test xs)) (all x (or_left (eqb x x) (contains xs x) (eq-eqb x x refl)))
    ∙ ap (λ (ys : List ℕ). x ∷ ys) (filter-all test xs (λ n has. all n (or_right (eqb x n) (contains xs n) has)))

module _ {T U : Type 0} (s : State T U) (well : IsWellFormed s) (p q n : ℕ) (y : Subscriber)
    (here : s.subscribers q ≡ Some y) where
  abbrev pub after_release : State T U
  after_release = unborrowed s p q n

  other-box : (r : ℕ) → r ≢ p → after_release.mailboxes r q ≡ s.mailboxes r q
  other-box r away = ap (λ boxes. boxes q)
      (put_at-other s.mailboxes p (put_at (s.mailboxes p) q (with_released n (s.mailboxes p q))) r (ne_eqb r p away))

  -- it still has to do with each other publisher that it knows
  pub others-connected : (r : ℕ) → r ≢ p → (contains y.expired r ≡ true) ⊎ LeadsTo y.ends r
      → is_connected after_release q r ≡ true
  others-connected r away (inl among) =
      or_right (is_present s r) (has_numbers (after_release.mailboxes r q))
      (ap has_numbers (other-box r away) ∙ (well.subscribers q y here).expired_kept r among)
  others-connected r away (inr leads) =
      by (s.publishers r) refl ((well.subscribers q y here).ends_stand leads.0 r leads.1) where
        by : (o : Option Publisher) → s.publishers r ≡ o → MatchOption o (has_numbers (s.mailboxes r q) ≡ true)
            (λ x. x.place ≡ leads.0) → is_connected after_release q r ≡ true
        by None e some =
            or_right (is_present s r) (has_numbers (after_release.mailboxes r q))
            (ap has_numbers (other-box r away) ∙ some)
        by (Some x) e place = or_left (is_present s r) (has_numbers (after_release.mailboxes r q))
            (ap (λ (o : Option Publisher). is_some o) e)

  module _ (connected : is_connected after_release q p ≡ true) where
    each : (r : ℕ) → (contains y.expired r ≡ true) ⊎ LeadsTo y.ends r → is_connected after_release q r ≡ true
    each r known = by (eqb r p) refl where
      by : (b : Bool) → eqb r p ≡ b → is_connected after_release q r ≡ true
      by true e = ap (is_connected after_release q) (eqb-true r p e) ∙ connected
      by false e = others-connected r (λ same. let no : true ≡ false = sym (eq-eqb r p same) ∙ e in absurd cc) known

    pruned-same : pruned after_release q y ≡ y
    pruned-same = λ i. record y {
      ends = places_kept-all (is_connected after_release q) y.ends (λ place r at. each r (inr (place, at))) i;
      expired = filter-all (is_connected after_release q) y.expired (λ r has. each r (inl has)) i;
    }

    -- nobody is forgotten where it still has to do with that publisher
    pub pruned-none : subscriber_pruned after_release q ≡ after_release
    pruned-none = λ i. record after_release { subscribers = all i } where
      all : (subscriber_pruned after_release q).subscribers ≡ s.subscribers
      all = ap (put_at s.subscribers q) (ap (option_map (pruned after_release q)) here ∙ ap Some pruned-same ∙ sym here)
          ∙ sym (put_at-own s.subscribers q)
