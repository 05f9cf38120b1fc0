-- A publisher is made or refused, in the machine's order, and what that leaves as it was.
use Rattle.std.proofs.Common.{◌≡◌, ℕ, ◌==◌, Bool, true, false, cond, nat_lt, map, refl, ap, sym, subst, ◌∙◌}
use Rattle.std.proofs.Common.{MatchOption}
use Rattle.std.proofs.lemmas.Bool.{eq-eqb, false_from_ne_true}
use Rattle.std.specs.Bool.{MatchBool}
use Rattle.std.specs.Prelude.{IsTrue}
use Rattle.std.specs.declared.option.Option.{Option}
use Rattle.std.specs.declared.option.Option.TheVariants.{None, Some}
use Rattle.std.specs.declared.result.Result.TheVariants.{Ok, Err}
use Rattle.std.specs.Option.{option_map}
use Rattle.iox2_machine.specs.machine.Connections.{ForEachPlace}
use Rattle.iox2_machine.specs.machine.Limits.{last_number}
use Rattle.iox2_machine.specs.machine.Numbers.{put_at}
use Rattle.iox2_machine.specs.machine.Places.{free_place, lowest_free}
use Rattle.iox2_machine.specs.machine.Ports.{first_segment_fits, with_new_publisher, with_failure_warning}
use Rattle.iox2_machine.specs.machine.Ports.{CreatePublisher, MakePublisher, FirstPublisherUpdate}
use Rattle.iox2_machine.specs.machine.PublisherUpdate.{SenderSide, UpdatePublisher, UpdateSenderPlace, history_for}
use Rattle.iox2_machine.specs.machine.PublisherUpdate.{sender_side, with_sender_side}
use Rattle.iox2_machine.specs.machine.Records.{Publisher, PublisherSettings, Environment}
use Rattle.iox2_machine.specs.machine.SingleCalls.{HoldsPublisher}
use Rattle.iox2_machine.specs.machine.State.{State, receiving_buffer, has_receiver_end, sender_channels_reset}
use Rattle.iox2_machine.specs.declared.errors.ConnectionFailure.{ConnectionFailure}
use Rattle.iox2_machine.specs.declared.errors.PublisherCreateError.{PublisherCreateError}
use Rattle.iox2_machine.specs.declared.errors.PublisherCreateError.TheVariants.{UnableToCreatePortTag}
use Rattle.iox2_machine.specs.declared.errors.PublisherCreateError.TheVariants.{ExceedsMaxSupportedPublishers}
use Rattle.iox2_machine.specs.declared.errors.PublisherCreateError.TheVariants.{UnableToCreateDataSegment}
use Rattle.iox2_machine.specs.declared.warning.Warning.{Warning}
use Rattle.iox2_machine.specs.declared.warning.Warning.TheVariants.{PublisherPartlyConnected}
use Rattle.iox2_domain.specs.Kept.{Named, state_of}
use Rattle.iox2_domain.specs.Fields.{Fields, kept_of, publisher_of}
use Rattle.iox2_domain.specs.FirstUpdates.{PublisherFirstUpdates}
use Rattle.iox2_domain.specs.NewPublisher.{place_for_publisher}
use Rattle.iox2_domain.specs.Ports.{PublisherFields}
use Rattle.iox2_domain.specs.Placed.{lowest_empty}
use Rattle.iox2_domain.specs.Reaches.{Reaches}
use Rattle.iox2_domain.proofs.lemmas.containers.FreePlaces.{lowest_free-ids, lowest_empty-map}
use Rattle.iox2_steps.proofs.creations.PublisherEntries.{has_place}
use Rattle.iox2_domain.proofs.lemmas.fields.ReachesShows.{reaches-then}
use Rattle.iox2_steps.proofs.creations.SubscriberCreations.{KeepsLoans, same, joined, warned-keeps}

-- ---- refused or made

module _ {T U : Type 0} (f : Fields T U) (given : PublisherSettings) (environment : Environment) where
  abbrev shown : State T U
  shown = state_of (kept_of f)

  -- what follows in the machine where the three tests have these answers, with this lowest free place
  abbrev Created : (a b c : Bool) (p : ℕ) → State T U → Option PublisherCreateError → Type 0
  Created a b c p s' refusal =
      MatchBool a ((s' ≡ shown) × (refusal ≡ Some UnableToCreatePortTag))
      (MatchOption (cond b (Some p) None) ((s' ≡ shown) × (refusal ≡ Some ExceedsMaxSupportedPublishers)) (λ place.
      MatchBool c (MakePublisher environment shown given place s' refusal)
      ((s' ≡ shown) × (refusal ≡ Some UnableToCreateDataSegment))))

  -- the machine's lowest free place
  lowest-is : lowest_free shown.publisher_places ≡ lowest_empty f.publishers
  lowest-is =
      lowest_free-ids (λ (z : Named Publisher). z.id)
      (map (option_map (publisher_of f.books f.connections)) f.publishers)
      ∙ lowest_empty-map (publisher_of f.books f.connections) f.publishers

  created : (s' : State T U) (refusal : Option PublisherCreateError)
      → Created (f.next_port == last_number) (nat_lt (lowest_empty f.publishers) (f.config).max_publishers)
      (first_segment_fits f.config given) (lowest_empty f.publishers) s' refusal
      → CreatePublisher environment shown given s' refusal
  created s' refusal h = subst
      (λ (p : ℕ). Created (f.next_port == last_number) (nat_lt p (f.config).max_publishers)
      (first_segment_fits f.config given) p s' refusal)
      (sym lowest-is) h

  -- one that has no place is refused, and the state stays
  pub created-refused : (e : PublisherCreateError) → place_for_publisher f ≡ Err e
      → CreatePublisher environment shown given shown (Some e)
  created-refused e h = created shown (Some e) (by _ _ _ h) where
    by : (a b c : Bool) → cond a (Err UnableToCreatePortTag)
        (cond b (Ok (lowest_empty f.publishers)) (Err ExceedsMaxSupportedPublishers)) ≡ Err e
        → Created a b c (lowest_empty f.publishers) shown (Some e)
    by true b c h = (refl, cc)
    by false false c h = (refl, cc)
    by false true c h = absurd cc

  -- so is one whose first segment doesn't fit
  pub created-unfit : (place : ℕ) → place_for_publisher f ≡ Ok place → (IsTrue (first_segment_fits f.config given) → ⊥)
      → CreatePublisher environment shown given shown (Some UnableToCreateDataSegment)
  created-unfit place h unfit =
      let has = has_place f place h in
      created shown (Some UnableToCreateDataSegment) (by _ _ _ has.numbered has.low (false_from_ne_true _ unfit))
    where
      by : (a b c : Bool) → a ≡ false → b ≡ true → c ≡ false
          → Created a b c (lowest_empty f.publishers) shown (Some UnableToCreateDataSegment)
      by a b c ea eb ec = rw (ea, eb, ec) (refl, refl)

  -- one that has a place, and whose first segment fits, is made there, or memory is refused
  pub created-made : (place : ℕ) (s' : State T U) (refusal : Option PublisherCreateError)
      → place_for_publisher f ≡ Ok place → IsTrue (first_segment_fits f.config given)
      → MakePublisher environment shown given place s' refusal → CreatePublisher environment shown given s' refusal
  created-made place s' refusal h fits made =
      let has = has_place f place h in
      created s' refusal (by _ _ _ has.numbered has.low fits (rw has.lowest made))
    where
      by : (a b c : Bool) → a ≡ false → b ≡ true → c ≡ true
          → MakePublisher environment shown given (lowest_empty f.publishers) s' refusal
          → Created a b c (lowest_empty f.publishers) s' refusal
      by a b c ea eb ec made = rw (ea, eb, ec) made

-- ---- what stays

put-here : (all : ℕ → Option Publisher) (p : ℕ) (x : Publisher) → put_at all p (Some x) p ≡ Some x
put-here all p x = rw (eq-eqb p p refl) refl

module _ {T U : Type 0} where
  warned-publishers : (s : State T U) (warning : ConnectionFailure → Warning) (failure : Option ConnectionFailure)
      → (with_failure_warning s warning failure).publishers ≡ s.publishers
  warned-publishers s warning None = refl
  warned-publishers s warning (Some failure) = refl

module _ {T U : Type 0} (environment : Environment) where
  -- settings, numbers and loans are as they were, and the publisher is there
  pub record KeepsPublisher (s s' : State T U) (p : ℕ) : Type 0 where
    pub keeps : KeepsLoans s s'
    pub stands : HoldsPublisher s' p

  -- the update of a publisher that is due
  abbrev UpdateDue : State T U → (p : ℕ) → Publisher → State T U → Option ConnectionFailure → Type 0
  UpdateDue s p x s' failure =
      (side : SenderSide)
      × ForEachPlace (UpdateSenderPlace environment (s.config).service_id p x.degradation_handler (history_for s p x)
      (receiving_buffer s) (has_receiver_end s p))
      0 s.subscriber_places (sender_side s p x) side failure
      × (s' ≡ sender_channels_reset (with_sender_side s p x side) p)

  -- an update keeps settings, numbers and loans, and its publisher
  pub update-keeps : (s s' : State T U) (p : ℕ) (failure : Option ConnectionFailure)
      → UpdatePublisher environment s p s' failure → KeepsPublisher s s' p
  update-keeps s s' p failure h = by (s.publishers p) refl h where
    at : (x : Publisher) (b : Bool) → s.publishers p ≡ Some x
        → MatchBool b (UpdateDue s p x s' failure) ((s' ≡ s) × (failure ≡ None)) → KeepsPublisher s s' p
    at x true is h = record {
      keeps = joined s (sender_channels_reset (with_sender_side s p x h.0) p) s'
          (record { config = refl; next_message = refl; loans = refl })
          (same (sender_channels_reset (with_sender_side s p x h.0) p) s' h.2);
      stands = (
        record x { ends = h.0.ends; is_due = false },
        ap (λ (t : State T U). t.publishers p) h.2
            ∙ put-here s.publishers p (record x { ends = h.0.ends; is_due = false }),
      );
    }
    at x false is h = record { keeps = same s s' h.0; stands = (x, ap (λ (t : State T U). t.publishers p) h.0 ∙ is) }

    by : (o : Option Publisher) → s.publishers p ≡ o → MatchOption o ⊥
        (λ x. MatchBool x.is_due (UpdateDue s p x s' failure) ((s' ≡ s) × (failure ≡ None))) → KeepsPublisher s s' p
    by None is h = absurd h
    by (Some x) is h = at x x.is_due is h

  -- so does a first update
  first-keeps : (s s' : State T U) (p : ℕ) → FirstPublisherUpdate environment s p s' → KeepsPublisher s s' p
  first-keeps s s' p h =
      let mid = update-keeps s h.0 p h.1 h.2 in
      record {
        keeps = joined s (with_failure_warning h.0 (PublisherPartlyConnected p) h.1) s'
            (joined s h.0 (with_failure_warning h.0 (PublisherPartlyConnected p) h.1) mid.keeps
            (warned-keeps h.0 (PublisherPartlyConnected p) h.1))
            (same (with_failure_warning h.0 (PublisherPartlyConnected p) h.1) s' h.3);
        stands = (
          mid.stands.0,
          ap (λ (t : State T U). t.publishers p) h.3
              ∙ ap (λ all. all p) (warned-publishers h.0 (PublisherPartlyConnected p) h.1) ∙ mid.stands.1,
        );
      }

  module _ (s : State T U) (given : PublisherSettings) (s' : State T U) where
    make-keeps : (place : ℕ) (refusal : Option PublisherCreateError)
        → MakePublisher environment s given place s' refusal → KeepsLoans s s'
    make-keeps place None h =
        joined s (with_new_publisher s given place) s' (record { config = refl; next_message = refl; loans = refl })
        ((first-keeps (with_new_publisher s given place) s' s.next_port h).keeps)
    make-keeps place (Some e) h = same s s' h.1

    abbrev Made : (a : Bool) (place : Option ℕ) (c : Bool) → Option PublisherCreateError → Type 0
    Made a place c refusal =
        MatchBool a ((s' ≡ s) × (refusal ≡ Some UnableToCreatePortTag))
        (MatchOption place ((s' ≡ s) × (refusal ≡ Some ExceedsMaxSupportedPublishers)) (λ at.
        MatchBool c (MakePublisher environment s given at s' refusal)
        ((s' ≡ s) × (refusal ≡ Some UnableToCreateDataSegment))))

    -- a creation keeps settings, numbers and loans
    pub create-keeps : (refusal : Option PublisherCreateError) → CreatePublisher environment s given s' refusal
        → KeepsLoans s s'
    create-keeps refusal = by (s.next_port == last_number) (free_place (s.config).max_publishers s.publisher_places)
        (first_segment_fits s.config given) where
          by : (a : Bool) (place : Option ℕ) (c : Bool) → Made a place c refusal → KeepsLoans s s'
          by true place c h = same s s' h.0
          by false None c h = same s s' h.0
          by false (Some place) true h = make-keeps place refusal h
          by false (Some place) false h = same s s' h.0

    -- and one that isn't refused makes the publisher with the next id
    pub create-holds : CreatePublisher environment s given s' None → HoldsPublisher s' s.next_port
    create-holds = by (s.next_port == last_number) (free_place (s.config).max_publishers s.publisher_places)
        (first_segment_fits s.config given) where
          by : (a : Bool) (place : Option ℕ) (c : Bool) → Made a place c None → HoldsPublisher s' s.next_port
          by true place c h = absurd (let no = h.1 in cc)
          by false None c h = absurd (let no = h.1 in cc)
          by false (Some place) true h = (first-keeps (with_new_publisher s given place) s' s.next_port h).stands
          by false (Some place) false h = absurd (let no = h.1 in cc)

-- ---- the first update of one that was made

module _ {T U : Type 0} (f : Fields T U) (given : PublisherSettings) (environment : Environment) where
  -- it is made at the place, and a failure of its first update is a warning
  pub created-updated : (g h : Fields T U) (place : ℕ) → place_for_publisher f ≡ Ok place
      → IsTrue (first_segment_fits f.config given)
      → Reaches f g (with_new_publisher (state_of (kept_of f)) given place) → (x : PublisherFields) → x.id ≡ f.next_port
      → PublisherFirstUpdates environment g place x h
      → (t : State T U) × CreatePublisher environment (state_of (kept_of f)) given t None × Reaches f h t
  created-updated g h place has fits entered x its updated =
      let first : FirstPublisherUpdate environment
      (with_new_publisher (state_of (kept_of f)) given place) f.next_port updated.after =
      subst (λ (p : ℕ).
      FirstPublisherUpdate environment (with_new_publisher (state_of (kept_of f)) given place) p updated.after) its
      (subst
      (λ (s : State T U). FirstPublisherUpdate environment s x.id updated.after) entered.state updated.updates) in (
        updated.after,
        created-made f given environment place updated.after None has fits first,
        reaches-then f g h _ updated.after entered updated.reaches,
      )
