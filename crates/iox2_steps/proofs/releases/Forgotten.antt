-- A subscriber forgets a connection in which no slot stands, and which its publisher doesn't have.
use Rattle.std.proofs.Common.{◌≡◌, ◌≢◌, ℕ, List, get_or, slice_set, Contains, None, Some, refl, ap, sym, ◌∙◌, inl, inr}
use Rattle.std.proofs.lemmas.Bool.{cases_eq}
use Rattle.slab.specs.Slab.{Slab, Updates, get}
use Rattle.iox2_connections.specs.Link.{Link}
use Rattle.iox2_machine.specs.machine.Numbers.{put_at, without}
use Rattle.iox2_machine.specs.machine.State.{State}
use Rattle.iox2_domain.specs.Departures.{key_forgotten}
use Rattle.iox2_domain.specs.Fields.{Fields, kept_of, subscriber_of}
use Rattle.iox2_domain.specs.Invariant.{HasParts, SenderHas}
use Rattle.iox2_domain.specs.Kept.{state_of}
use Rattle.iox2_domain.specs.Midway.{IsMidway, with_channels_of}
use Rattle.iox2_domain.specs.Ports.{SubscriberFields}
use Rattle.iox2_domain.proofs.lemmas.containers.ForgottenKeys.{kept-key, keeps-key, kept-expired, keeps-expired}
use Rattle.iox2_domain.proofs.lemmas.fields.ForgetfulSubscribers.{Knows, forgetful, forgets-is}
use Rattle.iox2_domain.proofs.lemmas.fields.ForgottenKeys.{Forgets}
use Rattle.iox2_domain.proofs.lemmas.fields.ForgottenStates.{forgotten-midway}
use Rattle.iox2_domain.proofs.lemmas.fields.LostConnections.{IsEmptyLink, LosesEmpty, loses-one}
use Rattle.iox2_domain.proofs.lemmas.fields.OwnKeys.{listed-at, listed-has}

-- a number that is left was in the list, and is another one
without-left : (key : ℕ) (xs : List ℕ) (k : ℕ) → Contains (without key xs) k → (k ≢ key) × Contains xs k
without-left key xs k has =
    let there = listed-at (without key xs) k has in
    let was = kept-expired key xs there.0 k there.1 in
    (was.0, listed-has xs was.1 k was.2)

module _ {T U : Type 0} (f : Fields T U) (parts : HasParts f) (j : ℕ) (y : SubscriberFields)
    (at_y : get_or f.subscribers j None ≡ Some y)
    (key : ℕ) (c : Link) (at_c : get f.connections key ≡ Some c) (mine : c.home.subscriber ≡ y.id)
    (empty : IsEmptyLink c)
    (nobody : SenderHas f.publishers key c → ⊥) (new : Slab Link) (goes : Updates f.connections new key None) where
  -- the fields without the connection
  abbrev pub forgetting : Fields T U
  forgetting = record f { subscribers = slice_set f.subscribers j (Some (key_forgotten key y)); connections = new }

  loses : LosesEmpty f.connections new
  loses = loses-one f.connections new key c at_c empty goes

  -- what is there is another connection
  another : (k : ℕ) (d : Link) → get new k ≡ Some d → k ≢ key
  another k d at_d here = let no : None ≡ Some d = sym goes.changed ∙ sym (ap (get new) here) ∙ at_d in absurd cc

  -- the key isn't known any more
  unknown : (d : Link) → Knows (key_forgotten key y) key d → ⊥
  unknown d (inl placed) = (kept-key key y.keys d.home.publisher_place key placed).0 refl
  unknown d (inr among) = (without-left key y.expired key among).0 refl

  knows : (k : ℕ) (d : Link) → k ≢ key → Knows y k d → Knows (key_forgotten key y) k d
  knows k d away (inl placed) = inl (keeps-key key y.keys d.home.publisher_place k away placed)
  knows k d away (inr among) = inr (keeps-expired key y.expired k away among)

  gone : (k : ℕ) (d : Link) → get f.connections k ≡ Some d → get new k ≡ None
      → (d.home.subscriber ≡ y.id) × (SenderHas f.publishers k d → ⊥) × (Knows (key_forgotten key y) k d → ⊥)
      × IsEmptyLink d
  gone k d at_d none = elim (cases_eq k key) [
    | inl here ↦
        let one : Some d ≡ Some c = sym at_d ∙ ap (get f.connections) here ∙ at_c in
        let is : d ≡ c = cc in
        rw (here, is) (mine, nobody, unknown c, empty)
    | inr away ↦ absurd (let no : None ≡ Some d = sym none ∙ goes.others k away ∙ at_d in cc)
  ]

  pub forgetting-it : Forgets f f.publishers (slice_set f.subscribers j (Some (key_forgotten key y))) new
  forgetting-it = forgetful f parts j y at_y (key_forgotten key y) refl new refl (record {
    keys = record {
      fields = refl;
      keys = λ i k at_k. (kept-key key y.keys i k at_k).1;
      expired = λ k has. inl (without-left key y.expired k has).1;
    };
    fewer = loses.fewer;
    gone = gone;
    knows = λ k d at_d has. knows k d (another k d at_d) has;
  })

  -- the machine sees that the subscriber has these keys no more
  pub forgetting-is : state_of (kept_of forgetting) ≡ with_channels_of forgetting (record (state_of (kept_of f)) {
    subscribers = put_at (state_of (kept_of f)).subscribers y.id
        (Some ((subscriber_of f.books f.connections (key_forgotten key y)).port));
  })
  forgetting-is = forgets-is f parts j y at_y (key_forgotten key y) refl new forgetting-it

  pub forgetting-midway : (old : Fields T U) (s : State T U) (book : ℕ) → IsMidway old f s book
      → IsMidway old forgetting
      (record s {
        subscribers = put_at s.subscribers y.id
            (Some ((subscriber_of f.books f.connections (key_forgotten key y)).port));
      }) book
  forgetting-midway old s book midway =
      forgotten-midway f parts (slice_set f.subscribers j (Some (key_forgotten key y))) new forgetting-it old s
      (record s {
        subscribers = put_at s.subscribers y.id
            (Some ((subscriber_of f.books f.connections (key_forgotten key y)).port));
      }) book
      (forgetting-is ∙ ap (λ (t : State T U). with_channels_of forgetting
      (record t {
        subscribers = put_at t.subscribers y.id
            (Some ((subscriber_of f.books f.connections (key_forgotten key y)).port));
      })) midway.state)
      midway
