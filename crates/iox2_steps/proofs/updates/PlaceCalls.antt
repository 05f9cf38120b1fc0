-- What an update of a publisher finds at a place, and what it leaves for the next step there.
use Rattle.std.proofs.Common.{◌≡◌, ◌↔◌, ◌<◌, ℕ, true, false, Bool, List, [], length, get_or, refl, ap, sym, subst, ◌∙◌}
use Rattle.std.proofs.Common.{IsTrue}
use Rattle.std.specs.declared.option.Option.{Option}
use Rattle.std.specs.declared.option.Option.TheVariants.{None, Some}
use Rattle.std.specs.Option.{option_and_then, option_map_or, IsSomeAnd}
use Rattle.slab.specs.Slab.{ContainsKey, get}
use Rattle.iox2_connections.specs.Link.{Link}
use Rattle.iox2_machine.specs.machine.Places.{set_place}
use Rattle.iox2_machine.specs.machine.Records.{Environment}
use Rattle.iox2_machine.specs.declared.errors.ConnectionFailure.{ConnectionFailure}
use Rattle.iox2_connections.specs.Homes.{IsSenders}
use Rattle.iox2_domain.specs.Ports.{PublisherFields, SubscriberFields}
use Rattle.iox2_domain.specs.Fields.{Fields}
use Rattle.iox2_domain.specs.Invariant.{IsDomain, ReceiverHas}
use Rattle.iox2_domain.specs.Updates.{sender_key, is_open_subscriber}
use Rattle.iox2_domain.specs.Connects.{ConnectsSender}
use Rattle.iox2_domain.specs.Drops.{HasEnd, LosesWaiting, LosesSenderEnd, StandsElsewhere}
use Rattle.iox2_domain.proofs.lemmas.containers.ConnectionKeys.{set_place-here}
use Rattle.iox2_domain.proofs.lemmas.containers.ChangedRecords.{changed-here}
use Rattle.iox2_domain.proofs.lemmas.fields.Standing.{some_is}
use Rattle.iox2_steps.proofs.updates.SenderCases.{keeps-connection}
use Rattle.iox2_steps.proofs.updates.SenderDisconnects.{IsGone, gone-from, gone-alone, gone-unused}
use Rattle.iox2_steps.proofs.updates.WaitingDropped.{end-own}
use Rattle.iox2_steps.proofs.updates.SenderPlaces.{nothing-as, drops-as, loses-then}

-- ---- who stands there

-- the answer is that this subscriber doesn't stand there
pub stands-elsewhere : (subscribers : List (Option SubscriberFields)) (j q : ℕ) (answer : Bool)
    → IsTrue answer ↔ IsSomeAnd (get_or subscribers j None) (λ (y : SubscriberFields). y.id ≡ q)
    → answer ≡ false → StandsElsewhere subscribers j q
stands-elsewhere subscribers j q answer says shut y at same = let it_does : answer ≡ true = says.1 (rw at same) in
    let clash : false ≡ true = sym shut ∙ it_does in absurd cc

-- the answer is that it does
pub stands-there : (subscribers : List (Option SubscriberFields)) (j q : ℕ) (answer : Bool)
    → IsTrue answer ↔ IsSomeAnd (get_or subscribers j None) (λ (y : SubscriberFields). y.id ≡ q)
    → answer ≡ true → (y : SubscriberFields) × (get_or subscribers j None ≡ Some y) × (y.id ≡ q)
stands-there subscribers j q answer says e =
    some_is (λ (y : SubscriberFields). y.id ≡ q) (get_or subscribers j None) (says.0 e)

-- whether it is open
pub openness : (subscribers : List (Option SubscriberFields)) (j : ℕ) (y : SubscriberFields) (answer : Bool)
    → get_or subscribers j None ≡ Some y → is_open_subscriber subscribers j ≡ answer → y.is_open ≡ answer
openness subscribers j y answer at is =
    sym (ap (λ o. option_map_or (λ (z : SubscriberFields). z.is_open) o false) at) ∙ is

module _ {T U : Type 0} (f : Fields T U) (sound : IsDomain f) (i j : ℕ) (x : PublisherFields)
    (at_x : get_or f.publishers i None ≡ Some x) where
  own-key : (o : Option ℕ) → sender_key f.publishers i j ≡ o → get_or x.keys j None ≡ o
  own-key o named = sym (ap (option_and_then (λ (z : PublisherFields). get_or z.keys j None)) at_x) ∙ named

  module _ (due : x.is_due ≡ false) (free : x.blocked ≡ None) (key : ℕ)
      (named : sender_key f.publishers i j ≡ Some key) where
    -- the publisher has an end there
    pub end-at : HasEnd f i j key
    end-at =
        let own = some_is (IsSenders x.id j) (get f.connections key)
        ((sound.parts.linked.senders i x at_x).at j key (own-key (Some key) named)) in
        record {
          publisher = x;
          stands = at_x;
          settled = due;
          unblocked = free;
          has = own-key (Some key) named;
          link = own.0;
          connected = own.1;
        }

    pub end-stands : ContainsKey f.connections key
    end-stands = rw end-at.connected refl

    gone-at : (c : Link) → get f.connections key ≡ Some c → StandsElsewhere f.subscribers j c.home.subscriber
        → IsGone f.subscribers c.home.subscriber
    gone-at c at_c elsewhere = gone-from f sound key j c at_c
        ((end-own f sound i j x at_x due key (own-key (Some key) named) c at_c).place) elsewhere

    -- an end to a subscriber that stood there is the publisher's alone
    pub alone-there : (c : Link) → get f.connections key ≡ Some c → StandsElsewhere f.subscribers j c.home.subscriber
        → ReceiverHas f.subscribers key c → ⊥
    alone-there c at_c elsewhere = gone-alone f sound key c (gone-at c at_c elsewhere)

    -- and nothing is borrowed through it
    pub unused-there : (c : Link) → get f.connections key ≡ Some c → StandsElsewhere f.subscribers j c.home.subscriber
        → c.borrowed ≡ []
    unused-there c at_c elsewhere = gone-unused f sound key c at_c (gone-at c at_c elsewhere)

    module _ (environment : Environment) (c : Link) (at_c : get f.connections key ≡ Some c) where
      -- an end to an open subscriber stays
      pub keeps-there : (y : SubscriberFields) → get_or f.subscribers j None ≡ Some y → y.id ≡ c.home.subscriber
          → is_open_subscriber f.subscribers j ≡ true
          → ConnectsSender environment f i j x f None
      keeps-there y at_y same opened =
          keeps-connection environment f sound i j x y at_x at_y due free
          (openness f.subscribers j y true at_y opened) key c (own-key (Some key) named) at_c (sym same)

      -- what waits for a closed one is lost
      pub drops-there : (y : SubscriberFields) → get_or f.subscribers j None ≡ Some y → y.id ≡ c.home.subscriber
          → is_open_subscriber f.subscribers j ≡ false
          → (f' : Fields T U) → LosesWaiting f x c f' → ConnectsSender environment f i j x f' None
      drops-there y at_y same shut f' loses =
          drops-as environment f sound i j x at_x due key c y (own-key (Some key) named) at_c at_y (sym same)
          (openness f.subscribers j y false at_y shut) f' loses

      -- any other end goes first
      pub loses-there : StandsElsewhere f.subscribers j c.home.subscriber → (f1 : Fields T U)
          → LosesSenderEnd f i j x f1 → (f2 : Fields T U) (failure : Option ConnectionFailure)
          → ConnectsSender environment f1 i j (record x { keys = set_place x.keys j None }) f2 failure
          → ConnectsSender environment f i j x f2 failure
      loses-there elsewhere f1 loses f2 failure step =
          loses-then environment f sound i j x at_x due key c
          (own-key (Some key) named) at_c elsewhere f1 loses f2 failure step

  -- without an end, and with no open subscriber, nothing is done
  pub nothing-there : (environment : Environment) → x.is_due ≡ false → sender_key f.publishers i j ≡ None
      → is_open_subscriber f.subscribers j ≡ false → ConnectsSender environment f i j x f None
  nothing-there environment due named shut = nothing-as environment f sound i j x at_x due (own-key None named) shut

  -- ---- once the end is gone

  module _ (due : x.is_due ≡ false) (f1 : Fields T U) (loses : LosesSenderEnd f i j x f1) where
    pub lost-stands : get_or f1.publishers i None ≡ Some (record x { keys = set_place x.keys j None })
    lost-stands = ap (λ (h : Fields T U). get_or h.publishers i None) loses.fields
        ∙ changed-here f.publishers i x (record x { keys = set_place x.keys j None }) at_x

    pub lost-within : j < length f.subscribers → j < length f1.subscribers
    lost-within low = subst (λ (h : Fields T U). j < length h.subscribers) (sym loses.fields) low

    pub lost-settled : (z : PublisherFields) → get_or f1.publishers i None ≡ Some z → z.is_due ≡ false
    lost-settled z at_z =
        ap (λ o. option_map_or (λ (w : PublisherFields). w.is_due) o false) (sym at_z ∙ lost-stands) ∙ due

    pub lost-free : x.blocked ≡ None → (z : PublisherFields) → get_or f1.publishers i None ≡ Some z → z.blocked ≡ None
    lost-free free z at_z =
        ap (λ o. option_and_then (λ (w : PublisherFields). w.blocked) o) (sym at_z ∙ lost-stands) ∙ free

    pub lost-key : sender_key f1.publishers i j ≡ None
    lost-key =
        ap (option_and_then (λ (z : PublisherFields). get_or z.keys j None)) lost-stands ∙ set_place-here x.keys j None
