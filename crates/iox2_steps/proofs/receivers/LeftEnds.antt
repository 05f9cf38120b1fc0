-- A subscriber's ends to departed publishers leave their places: each expires, or goes with nothing in it.
use Rattle.std.proofs.Common.{◌≡◌, ◌≢◌, ℕ, List, [], ◌∷◌, ◌++◌, Bool, true, false, get_or, slice_set, refl, ap, sym}
use Rattle.std.proofs.Common.{subst, ◌∙◌, inl, inr}
use Rattle.std.proofs.lemmas.Bool.{cases_eq, ne_eqb}
use Rattle.std.proofs.lemmas.List.Elements.{Contains-push, Contains-append_left}
use Rattle.std.specs.Prelude.{Contains}
use Rattle.std.specs.declared.option.Option.{Option}
use Rattle.std.specs.declared.option.Option.TheVariants.{None, Some}
use Rattle.slab.specs.Slab.{Slab, Updates, get}
use Rattle.iox2_connections.specs.Link.{Link}
use Rattle.iox2_machine.specs.machine.Numbers.{contains, without}
use Rattle.iox2_machine.specs.machine.Places.{set_place}
use Rattle.iox2_connections.proofs.ListedNumbers.{contains-from}
use Rattle.iox2_laws.proofs.NumberLemmas.{contains_in_append, contains_one, contains_in_without, contains-without_same}
use Rattle.iox2_laws.proofs.NumberLemmas.{contains-without_other}
use Rattle.iox2_domain.specs.Ports.{SubscriberFields}
use Rattle.iox2_domain.specs.Invariant.{HasParts, SenderHas, StandsNowhere}
use Rattle.iox2_domain.specs.Fields.{Fields}
use Rattle.iox2_domain.proofs.lemmas.containers.ConnectionKeys.{set_place-here, set_place-others}
use Rattle.iox2_domain.proofs.lemmas.fields.ForgetfulSubscribers.{Forgetful, Knows, forgetful}
use Rattle.iox2_domain.proofs.lemmas.fields.ForgottenKeys.{Forgets, forgotten-parts}
use Rattle.iox2_domain.proofs.lemmas.fields.LostConnections.{IsEmptyLink, LosesEmpty, loses-one}
use Rattle.iox2_domain.proofs.lemmas.samples.HintedSamples.{contained}

-- The connection is the subscriber y's, and its publisher is gone.
pub record IsDeparted {T U : Type 0} (f : Fields T U) (y : SubscriberFields) (c : Link) : Type 0 where
  pub subscriber : c.home.subscriber ≡ y.id
  pub publisher : StandsNowhere f.publishers c.home.publisher

-- The subscriber y may be left with these keys and these expired ones, among these connections.
abbrev pub LeavesReceiver : {T U : Type 0} → Fields T U → SubscriberFields → (keys : List (Option ℕ))
    → (expired : List ℕ) → (connections : Slab Link) → Type 0
LeavesReceiver f y keys expired connections = Forgetful f y (record y { keys = keys; expired = expired }) connections

module _ {T U : Type 0} (f : Fields T U) (parts : HasParts f) (j : ℕ) (y : SubscriberFields)
    (at : get_or f.subscribers j None ≡ Some y) where
  -- a key that is left at its place was there, and not at the place that is cleared
  cleared : (i place key : ℕ) → get_or (set_place y.keys i None) place None ≡ Some key
      → (place ≢ i) × (get_or y.keys place None ≡ Some key)
  cleared i place key has = elim (cases_eq place i) [
    | inl here ↦ absurd (let no : None ≡ Some key = sym (set_place-here y.keys i None)
        ∙ ap (λ (n : ℕ). get_or (set_place y.keys i None) n None) (sym here) ∙ has in cc)
    | inr away ↦ (away, sym (set_place-others y.keys i None place away) ∙ has)
  ]

  -- all may stay as it is
  pub nothing-leaves : LeavesReceiver f y y.keys y.expired f.connections
  nothing-leaves = record {
    keys = record { fields = refl; keys = λ i key there. there; expired = λ key has. inl has };
    fewer = λ key c there. there;
    gone = λ key c there none. absurd (let no : None ≡ Some c = sym none ∙ there in cc);
    knows = λ key c there before. before;
  }

  -- the end at a place expires
  pub end-expires : (i key : ℕ) → get_or y.keys i None ≡ Some key
      → LeavesReceiver f y (set_place y.keys i None) (y.expired ++ key ∷ []) f.connections
  end-expires i key has = record {
    keys = record {
      fields = refl;
      keys = λ place k there. (cleared i place k there).1;
      expired = λ k among_them.
          elim (contains_in_append y.expired (key ∷ []) k (contains-from (y.expired ++ key ∷ []) k among_them)) [
            | inl before ↦ inl (contained y.expired k before)
            | inr new ↦ inr (i, has ∙ ap Some (contains_one key k new))
          ];
    };
    fewer = λ k c there. there;
    gone = λ k c there none. absurd (let no : None ≡ Some c = sym none ∙ there in cc);
    knows = λ k c there before. elim before [
      | inl here ↦ elim (cases_eq c.home.publisher_place i) [
        | inl same ↦
            let both : Some k ≡ Some key = sym here ∙ ap (λ (n : ℕ). get_or y.keys n None) same ∙ has in
            let is : key ≡ k = cc in
            inr (subst (Contains (y.expired ++ key ∷ [])) is (Contains-push y.expired key))
        | inr away ↦ inl (set_place-others y.keys i None c.home.publisher_place away ∙ here)
      ]
      | inr expired ↦ inr (Contains-append_left y.expired (key ∷ []) k expired)
    ];
  }

  -- ---- a connection of a departed publisher, in which no slot stands, goes

  module _ (key : ℕ) (c : Link) (stands_there : get f.connections key ≡ Some c) (departed : IsDeparted f y c)
      (waiting : c.waiting ≡ []) (borrowed : c.borrowed ≡ []) (returned : c.returned ≡ []) (others : c.others ≡ [])
      (new : Slab Link) (goes : Updates f.connections new key None) where
    empty : IsEmptyLink c
    empty = record { waiting = waiting; borrowed = borrowed; returned = returned; others = others }

    loses : LosesEmpty f.connections new
    loses = loses-one f.connections new key c stands_there empty goes

    -- one that is there is another
    another : (k : ℕ) (d : Link) → get new k ≡ Some d → k ≢ key
    another k d there here = let no : None ≡ Some d = sym goes.changed ∙ ap (get new) (sym here) ∙ there in absurd cc

    -- it is the one that is gone, if the subscriber then doesn't know it
    gone : (y' : SubscriberFields) → (Knows y' key c → ⊥) → (k : ℕ) (d : Link) → get f.connections k ≡ Some d
        → get new k ≡ None
        → (d.home.subscriber ≡ y.id) × (SenderHas f.publishers k d → ⊥) × (Knows y' k d → ⊥) × IsEmptyLink d
    gone y' unknown k d there none = elim (cases_eq k key) [
      | inl here ↦
          let both : Some d ≡ Some c = sym there ∙ ap (get f.connections) here ∙ stands_there in
          let is : d ≡ c = cc in
          rw (here, is) (
            departed.subscriber,
            λ has. departed.publisher c.home.publisher_place has.publisher has.stands has.is_its,
            unknown,
            empty,
          )
      | inr away ↦ absurd (let no : None ≡ Some d = sym none ∙ goes.others k away ∙ there in cc)
    ]

    -- it was the end at a place
    pub end-goes : (i : ℕ) → get_or y.keys i None ≡ Some key → contains y.expired key ≡ false
        → LeavesReceiver f y (set_place y.keys i None) y.expired new
    end-goes i has unexpired = record {
      keys = record {
        fields = refl;
        keys = λ place k there. (cleared i place k there).1;
        expired = λ k among_them. inl among_them;
      };
      fewer = loses.fewer;
      gone = gone (record y { keys = set_place y.keys i None }) unknown;
      knows = λ k d there before. elim before [
        | inl here ↦ elim (cases_eq d.home.publisher_place i) [
          | inl same ↦ absurd (another k d there
              (let both : Some k ≡ Some key = sym here ∙ ap (λ (n : ℕ). get_or y.keys n None) same ∙ has in cc))
          | inr away ↦ inl (set_place-others y.keys i None d.home.publisher_place away ∙ here)
        ]
        | inr expired ↦ inr expired
      ];
    } where
      unknown : Knows (record y { keys = set_place y.keys i None }) key c → ⊥
      unknown (inl placed) =
          (cleared i c.home.publisher_place key placed).0 (parts.linked.receiver_places j i key y c at has stands_there)
      unknown (inr among_them) = let no : true ≡ false = sym (contains-from y.expired key among_them) ∙ unexpired in
          absurd cc

    -- it was among those that expired
    pub expired-goes : ((place : ℕ) → get_or y.keys place None ≢ Some key)
        → LeavesReceiver f y y.keys (without key y.expired) new
    expired-goes nowhere = record {
      keys = record {
        fields = refl;
        keys = λ place k there. there;
        expired = λ k among_them. inl (contained y.expired k
            (contains_in_without key k y.expired (contains-from (without key y.expired) k among_them)));
      };
      fewer = loses.fewer;
      gone = gone (record y { expired = without key y.expired }) unknown;
      knows = λ k d there before. elim before [
        | inl here ↦ inl here
        | inr expired ↦ inr (contained (without key y.expired) k
            (contains-without_other key k y.expired (ne_eqb k key (another k d there))
            (contains-from y.expired k expired)))
      ];
    } where
      unknown : Knows (record y { expired = without key y.expired }) key c → ⊥
      unknown (inl placed) = nowhere c.home.publisher_place placed
      unknown (inr among_them) = let no : true ≡ false = sym (contains-from (without key y.expired) key among_them)
          ∙ contains-without_same key y.expired in absurd cc

  -- ---- the fields

  module _ (keys : List (Option ℕ)) (expired : List ℕ) (is_due : Bool) (connections : Slab Link)
      (fits : LeavesReceiver f y keys expired connections) where
    -- the subscriber with these keys and these expired ones, due or not
    abbrev pub left_subscriber : SubscriberFields
    left_subscriber = record y { keys = keys; expired = expired; is_due = is_due }

    -- the fields with it, and with these connections
    abbrev pub left_fields : Fields T U
    left_fields = record f { subscribers = slice_set f.subscribers j (Some left_subscriber); connections = connections }

    pub leaves : Forgets f f.publishers (slice_set f.subscribers j (Some left_subscriber)) connections
    leaves = forgetful f parts j y at left_subscriber refl connections refl (record {
      keys = record { fields = refl; keys = fits.keys.keys; expired = fits.keys.expired };
      fewer = fits.fewer;
      gone = fits.gone;
      knows = fits.knows;
    })

    -- the fields agree with one another, still
    pub left-parts : HasParts left_fields
    left-parts =
        forgotten-parts f parts f.publishers (slice_set f.subscribers j (Some left_subscriber)) connections leaves
