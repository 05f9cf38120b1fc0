use Rattle.std.proofs.Common.{◌≡◌, ◌∙◌, true, false, ap, sym, subst, slice_index_or, Some, None}
use Rattle.slab.specs.Slab.{get}
use Rattle.iox2_connections.specs.Link.{Link}
use Rattle.iox2_connections.specs.declared.connection.Home.{Home}
use Rattle.iox2_domain.specs.Boxes.{answers_of}
use Rattle.iox2_domain.specs.Fields.{Fields}
use Rattle.iox2_domain.specs.Drops.{HasEnd, StandsElsewhere}
use Rattle.iox2_domain.specs.Ports.{PublisherFields, SubscriberFields}
use Rattle.iox2_machine.specs.machine.Places.{set_place}
use Rattle.iox2_domain.specs.Updates.{sender_key, is_open_subscriber}
use Rattle.iox2_steps.proofs.updates.PlaceCalls.{stands-elsewhere, stands-there, alone-there, unused-there, end-stands}
use Rattle.iox2_steps.proofs.updates.PlaceCalls.{keeps-there, drops-there, loses-there, lost-stands, lost-within}
use Rattle.iox2_steps.proofs.updates.PlaceCalls.{lost-settled, lost-free, lost-key}
use Rattle.iox2_updates.specs.Ends.{IsSettledAt}
use Rattle.iox2_updates.specs.Holders.{HasCountRoom}
use Rattle.iox2_updates.proofs.GainedHolders.{room-still}
use Rattle.iox2_updates.proofs.EndKeys.{key-read}
use Rattle.iox2_updates.proofs.connects.update_sender_place.Goals.{After-disconnect_sender, After-index}
use Rattle.iox2_updates.proofs.connects.update_sender_place.Goals.{After-is_open_at, After-stands_at, In-Some}
use Rattle.iox2_updates.proofs.connects.update_sender_place.Goals as goal

-- the end's key is the publisher's at the subscriber's place
named : (g : _) (c : In-Some g)
    → sender_key c.args.state.now.publishers c.args.at.publisher c.args.at.subscriber ≡ Some c.in-Some.key
named g c = key-read c.args.state.now _ c.state.view_is _ c.deref.ensures.value c.args.at.publisher c.args.at.subscriber
    _ c.key_at.ensures ∙ c.in-Some.is

-- its connection stands at that key
linked : (g : _) (c : After-index g) → get c.args.state.now.connections c.in-Some.key ≡ Some c.index.result.now
linked g c = ap (λ (f : Fields g.row.T.Denot g.row.U.Denot). get f.connections c.in-Some.key) (sym c.state.view_is)
    ∙ c.index.ensures

-- the publisher has this end
end : (g : _) (c : After-index g) → sender_key c.args.state.now.publishers c.args.at.publisher c.args.at.subscriber
    ≡ Some c.in-Some.key → HasEnd c.args.state.now c.args.at.publisher c.args.at.subscriber c.in-Some.key
end g c key =
    record {
      publisher = c.requires.settled.publisher;
      stands = c.requires.settled.stands;
      settled = c.requires.settled.settled;
      unblocked = c.requires.settled.unblocked;
      has = rw c.requires.settled.stands at key;
      link = c.index.result.now;
      connected = linked g c;
    }

-- no subscriber stands at the place that the connection is with
elsewhere : (g : _) (c : After-stands_at g) → c.stands_at.result ≡ false
    → StandsElsewhere c.args.state.now.subscribers c.args.at.subscriber c.index.result.now.home.subscriber
elsewhere g c away =
    rw (
      sym (c.deref-2.ensures.value ∙ ap (λ (f : Fields g.row.T.Denot g.row.U.Denot). f.subscribers) c.state.view_is),
      sym c.home-subscriber.ensures.value,
    )
    (stands-elsewhere _ c.args.at.subscriber _ c.stands_at.result c.stands_at.ensures away)

-- one does
standing : (g : _) (c : After-stands_at g) → c.stands_at.result ≡ true
    → (y : SubscriberFields) × (slice_index_or c.args.state.now.subscribers c.args.at.subscriber None ≡ Some y)
    × (y.id ≡ c.index.result.now.home.subscriber)
standing g c stands =
    let there = stands-there _ c.args.at.subscriber _ c.stands_at.result c.stands_at.ensures stands in (
      there.0,
      ap (λ ys. slice_index_or ys c.args.at.subscriber None)
          (sym (c.deref-2.ensures.value
          ∙ ap (λ (f : Fields g.row.T.Denot g.row.U.Denot). f.subscribers) c.state.view_is)) ∙ there.1,
      there.2 ∙ ap (λ (h : Home). h.subscriber) c.home-subscriber.ensures.value,
    )

pub connect_sender-requires-clause-settled : goal.connect_sender-requires-clause-settled
connect_sender-requires-clause-settled g c = c.requires.settled

pub connect_sender-requires-clause-none : goal.connect_sender-requires-clause-none
connect_sender-requires-clause-none g c =
    key-read c.args.state.now _ c.state.view_is _ c.deref.ensures.value c.args.at.publisher c.args.at.subscriber _
    c.key_at.ensures ∙ c.in_default.is

pub returns-in_default-clause-connects : goal.returns-in_default-clause-connects
returns-in_default-clause-connects g c = c.connect_sender.ensures.connects

pub disconnect_sender-requires-clause-agrees : goal.disconnect_sender-requires-clause-agrees
disconnect_sender-requires-clause-agrees g c = c.requires.settled.agrees

pub disconnect_sender-requires-clause-subscriber : goal.disconnect_sender-requires-clause-subscriber
disconnect_sender-requires-clause-subscriber g c = c.requires.settled.within

pub disconnect_sender-requires-clause-end : goal.disconnect_sender-requires-clause-end
disconnect_sender-requires-clause-end g c = end g (goal.at.disconnect_sender-requires-clause-end g c).After-index
    (named g (goal.at.disconnect_sender-requires-clause-end g c).In-Some)

pub drop_waiting_at-requires-clause-end : goal.drop_waiting_at-requires-clause-end
drop_waiting_at-requires-clause-end g c = (
  c.args.at.subscriber,
  end g (goal.at.drop_waiting_at-requires-clause-end g c).After-index
      (named g (goal.at.drop_waiting_at-requires-clause-end g c).In-Some),
)

pub drop_waiting_at-requires-clause-agrees : goal.drop_waiting_at-requires-clause-agrees
drop_waiting_at-requires-clause-agrees g c = c.requires.settled.agrees

pub index-requires : goal.index-requires
index-requires g c =
    let was = c.requires.settled in
    let its_key = named g (goal.at.index-requires g c).In-Some in
    rw (ap (λ (f : Fields g.row.T.Denot g.row.U.Denot). f.connections) c.state.view_is)
    (end-stands c.args.state.now was.agrees c.args.at.publisher c.args.at.subscriber was.publisher was.stands
    was.settled was.unblocked c.in-Some.key its_key)

-- the publisher is still so after it lost its end
abbrev lost : (g : _) (c : After-disconnect_sender g) → IsSettledAt c.args.state.now c.args.at
    → IsSettledAt c.disconnect_sender.new.state c.args.at
lost g c was =
    let loses = c.disconnect_sender.ensures.loses was.publisher was.stands in
    let there = lost-stands c.args.state.now was.agrees c.args.at.publisher c.args.at.subscriber was.publisher
    was.stands was.settled c.disconnect_sender.new.state loses in
    record {
      agrees = loses.agrees;
      publisher = record (was.publisher) { keys = set_place was.publisher.keys c.args.at.subscriber None };
      stands = there;
      settled = lost-settled c.args.state.now was.agrees c.args.at.publisher c.args.at.subscriber was.publisher
          was.stands was.settled c.disconnect_sender.new.state loses _ there;
      unblocked = lost-free c.args.state.now was.agrees c.args.at.publisher c.args.at.subscriber was.publisher
          was.stands was.settled c.disconnect_sender.new.state loses was.unblocked _ there;
      within = lost-within c.args.state.now was.agrees c.args.at.publisher c.args.at.subscriber was.publisher was.stands
          was.settled c.disconnect_sender.new.state loses was.within;
    }

pub connect_sender-requires-then-not-stands_at-clause-settled : goal.connect_sender-requires-then-not-stands_at-clause-settled
connect_sender-requires-then-not-stands_at-clause-settled g c =
    lost g (goal.at.connect_sender-requires-then-not-stands_at-clause-settled g c).After-disconnect_sender
    c.requires.settled

pub connect_sender-requires-then-not-stands_at-clause-none : goal.connect_sender-requires-then-not-stands_at-clause-none
connect_sender-requires-then-not-stands_at-clause-none g c =
    let was = c.requires.settled in
    lost-key c.args.state.now c.requires.settled.agrees c.args.at.publisher c.args.at.subscriber was.publisher
    was.stands was.settled c.disconnect_sender.new.state (c.disconnect_sender.ensures.loses was.publisher was.stands)

pub connect_sender-requires-then-not-stands_at-clause-few : goal.connect_sender-requires-then-not-stands_at-clause-few
connect_sender-requires-then-not-stands_at-clause-few g c = λ settled.
    let was = c.requires.settled in
    let loses = c.disconnect_sender.ensures.loses was.publisher was.stands in
    let there = lost-stands c.args.state.now was.agrees c.args.at.publisher c.args.at.subscriber was.publisher
    was.stands was.settled c.disconnect_sender.new.state loses in
    let both : Some settled.publisher ≡ Some (record (was.publisher)
    { keys = set_place was.publisher.keys c.args.at.subscriber None }) = sym settled.stands ∙ there in
    let is : settled.publisher ≡ record (was.publisher)
    { keys = set_place was.publisher.keys c.args.at.subscriber None } = cc in
    subst (HasCountRoom c.disconnect_sender.new.state.books) (sym (ap (λ (x : PublisherFields). x.book) is))
    (room-still c.args.state.now.books c.disconnect_sender.new.state.books was.publisher.book
    c.disconnect_sender.ensures.gains (c.requires.few was))

pub disconnect_sender-requires-clause-unused : goal.disconnect_sender-requires-clause-unused
disconnect_sender-requires-clause-unused g c =
    let old = c.args.state.now in
    let was = c.requires.settled in
    let its_key = named g (goal.at.disconnect_sender-requires-clause-unused g c).In-Some in
    let at_c = linked g (goal.at.disconnect_sender-requires-clause-unused g c).After-index in
    let away =
    elsewhere g (goal.at.disconnect_sender-requires-clause-unused g c).After-stands_at c.if-not-stands_at.true in
    rw at_c (unused-there old c.requires.settled.agrees c.args.at.publisher c.args.at.subscriber was.publisher
    was.stands was.settled was.unblocked c.in-Some.key its_key c.index.result.now at_c away)

pub disconnect_sender-requires-clause-alone : goal.disconnect_sender-requires-clause-alone
disconnect_sender-requires-clause-alone g c = λ d at_d.
    let old = c.args.state.now in
    let was = c.requires.settled in
    let its_key = named g (goal.at.disconnect_sender-requires-clause-alone g c).In-Some in
    let at_c = linked g (goal.at.disconnect_sender-requires-clause-alone g c).After-index in
    let away =
    elsewhere g (goal.at.disconnect_sender-requires-clause-alone g c).After-stands_at c.if-not-stands_at.true in
    let both : Some c.index.result.now ≡ Some d = sym at_c ∙ at_d in
    let is : c.index.result.now ≡ d = cc in
    alone-there old c.requires.settled.agrees c.args.at.publisher c.args.at.subscriber was.publisher was.stands
    was.settled was.unblocked c.in-Some.key its_key d at_d
    (subst (λ (l : Link). StandsElsewhere old.subscribers c.args.at.subscriber l.home.subscriber) is away)

pub disconnect_sender-requires-clause-elsewhere : goal.disconnect_sender-requires-clause-elsewhere
disconnect_sender-requires-clause-elsewhere g c = λ d at_d.
    let old = c.args.state.now in
    let its_key = named g (goal.at.disconnect_sender-requires-clause-elsewhere g c).In-Some in
    let at_c = linked g (goal.at.disconnect_sender-requires-clause-elsewhere g c).After-index in
    let away =
    elsewhere g (goal.at.disconnect_sender-requires-clause-elsewhere g c).After-stands_at c.if-not-stands_at.true in
    let both : Some c.index.result.now ≡ Some d = sym at_c ∙ at_d in
    let is : c.index.result.now ≡ d = cc in
    subst (λ (l : Link). StandsElsewhere old.subscribers c.args.at.subscriber l.home.subscriber) is away

pub returns-then-not-stands_at-clause-connects : goal.returns-then-not-stands_at-clause-connects
returns-then-not-stands_at-clause-connects g c = λ settled.
    let old = c.args.state.now in
    let its_key = named g (goal.at.returns-then-not-stands_at-clause-connects g c).In-Some in
    let at_c = linked g (goal.at.returns-then-not-stands_at-clause-connects g c).After-index in
    let away =
    elsewhere g (goal.at.returns-then-not-stands_at-clause-connects g c).After-stands_at c.if-not-stands_at.true in
    let loses = c.disconnect_sender.ensures.loses settled.publisher settled.stands in
    loses-there old c.requires.settled.agrees c.args.at.publisher c.args.at.subscriber settled.publisher settled.stands
    settled.settled settled.unblocked c.in-Some.key its_key
    (answers_of g.F.BackpressureFn.allows g.G.DegradationFn.allows c.args.boxes.now.boxes) c.index.result.now at_c
    away c.disconnect_sender.new.state loses c.connect_sender-then-not-stands_at.new.state
    c.connect_sender-then-not-stands_at.result
    (c.connect_sender-then-not-stands_at.ensures.connects
    (lost g (goal.at.returns-then-not-stands_at-clause-connects g c).After-disconnect_sender settled))

-- whether that subscriber is open, as it was read
read_open : (g : _) (c : After-is_open_at g)
    → is_open_subscriber c.args.state.now.subscribers c.args.at.subscriber ≡ c.is_open_at.result
read_open g c =
    sym (c.is_open_at.ensures ∙ ap (λ ys. is_open_subscriber ys c.args.at.subscriber)
    (c.deref-else-not-stands_at.ensures.value
    ∙ ap (λ (f : Fields g.row.T.Denot g.row.U.Denot). f.subscribers) c.state.view_is))

pub returns-then-not-is_open_at-clause-connects : goal.returns-then-not-is_open_at-clause-connects
returns-then-not-is_open_at-clause-connects g c = λ settled.
    let at_c = linked g (goal.at.returns-then-not-is_open_at-clause-connects g c).After-index in
    let there =
    standing g (goal.at.returns-then-not-is_open_at-clause-connects g c).After-stands_at c.if-not-stands_at.false in
    drops-there c.args.state.now c.requires.settled.agrees c.args.at.publisher c.args.at.subscriber settled.publisher
    settled.stands settled.settled settled.unblocked c.in-Some.key
    (named g (goal.at.returns-then-not-is_open_at-clause-connects g c).In-Some)
    (answers_of g.F.BackpressureFn.allows g.G.DegradationFn.allows c.args.boxes.now.boxes) c.index.result.now at_c
    there.0 there.1 there.2 (read_open g (goal.at.returns-then-not-is_open_at-clause-connects g c).After-is_open_at
    ∙ c.if-not-is_open_at.true) c.drop_waiting_at.new.state
    (c.drop_waiting_at.ensures.loses settled.publisher settled.stands c.index.result.now at_c)

pub returns-else-not-is_open_at-clause-connects : goal.returns-else-not-is_open_at-clause-connects
returns-else-not-is_open_at-clause-connects g c = λ settled.
    let there =
    standing g (goal.at.returns-else-not-is_open_at-clause-connects g c).After-stands_at c.if-not-stands_at.false in
    keeps-there c.args.state.now c.requires.settled.agrees c.args.at.publisher c.args.at.subscriber settled.publisher
    settled.stands settled.settled settled.unblocked c.in-Some.key
    (named g (goal.at.returns-else-not-is_open_at-clause-connects g c).In-Some)
    (answers_of g.F.BackpressureFn.allows g.G.DegradationFn.allows c.args.boxes.now.boxes) c.index.result.now
    (linked g (goal.at.returns-else-not-is_open_at-clause-connects g c).After-index) there.0 there.1 there.2
    (read_open g (goal.at.returns-else-not-is_open_at-clause-connects g c).After-is_open_at ∙ c.if-not-is_open_at.false)
