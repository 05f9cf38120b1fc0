use Rattle.std.proofs.Common.{◌≡◌, ◌∙◌, ℕ, ap, sym, get_or}
use Rattle.std.proofs.lemmas.Option.{same_Some}
use Rattle.std.specs.declared.option.Option.{Option}
use Rattle.std.specs.declared.option.Option.TheVariants.{None, Some}
use Rattle.std.specs.Option.{option_map}
use Rattle.iox2_domain.specs.Boxes.{answers_of}
use Rattle.iox2_domain.specs.Ports.{PublisherFields, SubscriberFields}
use Rattle.iox2_domain.specs.Fields.{Fields}
use Rattle.iox2_domain.specs.Updates.{receiver_key}
use Rattle.iox2_steps.proofs.receivers.FoundEnds.{no-id, its-id, key-of}
use Rattle.iox2_steps.proofs.receivers.Connects.{empty-place, makes-end}
use Rattle.iox2_updates.specs.Ends.{MeetAt}
use Rattle.iox2_updates.proofs.receiver_updates.connect_at.Goals.{After-key_at}
use Rattle.iox2_updates.proofs.receiver_updates.connect_at.Goals as goal

-- the publisher with the id that was found
there : (g : _) (c : After-key_at g) → (x : PublisherFields)
    × (get_or c.args.state.now.publishers c.args.at.publisher None ≡ Some x) × (x.id ≡ c.in-Some.publisher)
there g c =
    let publishers =
    c.deref.ensures.value ∙ ap (λ (f : Fields g.row.T.Denot g.row.U.Denot). f.publishers) c.state.view_is in
    its-id (get_or c.args.state.now.publishers c.args.at.publisher None) c.in-Some.publisher
    (ap (λ xs. option_map (λ (z : PublisherFields). z.id) (get_or xs c.args.at.publisher None)) (sym publishers)
    ∙ sym c.publisher_at.ensures ∙ c.in-Some.is)

-- the ports at the two places, with the key that the subscriber has there
abbrev met : (g : _) (c : After-key_at g) (key : Option ℕ) → c.key_at.result ≡ key
    → (y : SubscriberFields) → get_or c.args.state.now.subscribers c.args.at.subscriber None ≡ Some y
    → MeetAt c.args.state.now c.args.at key
met g c key found y at =
    let old = c.args.state.now in
    let x = there g c in
    let subscribers =
    c.deref-2.ensures.value ∙ ap (λ (f : Fields g.row.T.Denot g.row.U.Denot). f.subscribers) c.state.view_is in
    record {
      agrees = c.requires.agrees;
      publisher = x.0;
      subscriber = y;
      publisher_stands = x.1;
      subscriber_stands = at;
      has = key-of old.subscribers c.args.at.subscriber c.args.at.publisher y key at
          (ap (λ xs. receiver_key xs c.args.at.subscriber c.args.at.publisher) (sym subscribers) ∙ sym c.key_at.ensures
          ∙ found);
    }

pub returns-in_default : goal.returns-in_default
returns-in_default g c = λ y at.
    let old = c.args.state.now in
    let same = c.deref.ensures.value ∙ ap (λ (f : Fields g.row.T.Denot g.row.U.Denot). f.publishers) c.state.view_is in
    let nobody = no-id (get_or old.publishers c.args.at.publisher None)
    (ap (λ xs. option_map (λ (z : PublisherFields). z.id) (get_or xs c.args.at.publisher None)) (sym same)
    ∙ sym c.publisher_at.ensures ∙ c.in_default.is) in
    empty-place (answers_of g.F.BackpressureFn.allows g.G.DegradationFn.allows c.args.boxes.now.boxes) old
    c.requires.agrees c.args.at.subscriber c.args.at.publisher y at nobody

pub returns-in-None : goal.returns-in-None
returns-in-None g c = λ y at.
    let meet = met g (goal.at.returns-in-None g c).After-key_at None c.in-None.is y at in
    makes-end (answers_of g.F.BackpressureFn.allows g.G.DegradationFn.allows c.args.boxes.now.boxes) c.args.state.now
    c.requires.agrees c.args.at.subscriber c.args.at.publisher y at meet.publisher meet.publisher_stands meet.has
    c.connect_end.new.state c.connect_end.result (c.connect_end.ensures meet)

pub connect_end-requires : goal.connect_end-requires
connect_end-requires g c = met g
    (goal.at.connect_end-requires g c).After-key_at None c.in-None.is c.requires.subscriber.0 c.requires.subscriber.1

pub returns-in-Some-key_at : goal.returns-in-Some-key_at
returns-in-Some-key_at g c = λ y at. c.replace_end.ensures
    (met g (goal.at.returns-in-Some-key_at g c).After-key_at (Some c.in-Some-key_at.key) c.in-Some-key_at.is y at)

pub replace_end-requires-clause-meet : goal.replace_end-requires-clause-meet
replace_end-requires-clause-meet g c = met g (goal.at.replace_end-requires-clause-meet g c).After-key_at
    (Some c.in-Some-key_at.key) c.in-Some-key_at.is c.requires.subscriber.0 c.requires.subscriber.1

pub replace_end-requires-clause-publisher : goal.replace_end-requires-clause-publisher
replace_end-requires-clause-publisher g c = λ meet.
    let before = (goal.at.replace_end-requires-clause-publisher g c).After-key_at in
    let x = there g before in
    let is : x.0 ≡ meet.publisher = same_Some x.0 meet.publisher (sym x.1 ∙ meet.publisher_stands) in
    ap (λ (z : PublisherFields). z.id) (sym is) ∙ x.2
