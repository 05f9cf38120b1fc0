use Rattle.std.proofs.Common.{rules, ◌≡◌, ◌≢◌, ◌∙◌, ◌+◌, ◌≤◌, ℕ, All, length, vec_len, ap, map, not, subst, arith, refl}
use Rattle.std.proofs.Common.{[], get_or, inl, inr}
use Rattle.std.proofs.lemmas.List.{with_items_is}
use Rattle.std.specs.Option.{option_map}
use Rattle.std.specs.declared.option.Option.TheVariants.{None}
use Rattle.circular_buffer.specs.Buffer.{buffer}
use Rattle.iox2_machine.specs.machine.Limits.{last_number, segment_fits}
use Rattle.iox2_contents.specs.SlotContents.{ContentState, lists_for}
use denote.Param.{param}
use Rattle.iox2_domain.specs.contracts.state.DomainState.{the_view}
use Rattle.iox2_domain.specs.Handlers.{handler_if_any}
use Rattle.iox2_domain.specs.NewPublisher.{entering_publisher}
use Rattle.iox2_ports.specs.Settings.{settings_with}
use Rattle.iox2_domain.specs.Ports.{PublisherFields}
use Rattle.iox2_domain.specs.Fields.{Fields}
use Rattle.iox2_domain.specs.Placed.{placed}
use Rattle.iox2_domain.proofs.lemmas.containers.Placed.{placed-here}
use Rattle.iox2_domain.proofs.lemmas.fields.ReachesShows.{reaches-same}
use Rattle.iox2_steps.proofs.creations.PublisherEntries.{entered-reaches-as, room-reaches, numbered-low, place-low}
use Rattle.iox2_steps.proofs.creations.SubscribersDue.{subscriber_due}
use Rattle.iox2_ports.proofs.publisher_entry.admit_publisher.Goals as goal

pub returns-in_default-entering-clause-step : goal.returns-in_default-entering-clause-step
returns-in_default-entering-clause-step g c = (reaches-same c.args.state.now c.requires.agrees, inr refl)

pub returns-in_default-try_reserve-clause-step : goal.returns-in_default-try_reserve-clause-step
returns-in_default-try_reserve-clause-step g c = (
  room-reaches {T = g.row.T.Denot} {U = g.row.U.Denot} c.args.state.now _ _ c.state.inside.books.capacity
      c.state.view_is c.requires.agrees (λ i. record (the_view (param 0 g.row.T) (param 1 g.row.U) c.state.inside)
      { publishers = c.in_default-try_reserve.ensures.items i }),
  inr refl,
)

pub returns-in_default-add_segment-clause-step : goal.returns-in_default-add_segment-clause-step
returns-in_default-add_segment-clause-step g c = (
  room-reaches {T = g.row.T.Denot} {U = g.row.U.Denot} c.args.state.now _ _ c.add_segment.new.books.capacity
      c.state.view_is c.requires.agrees (λ i. record (the_view (param 0 g.row.T) (param 1 g.row.U) c.state.inside) {
        publishers = c.in-Ok-try_reserve.ensures.items i;
        books = c.in_default-add_segment.ensures.same_books i;
        contents = c.in_default-add_segment.ensures.same_contents i;
      }),
  inl refl,
)

pub overflow_add-state : goal.overflow_add-state
overflow_add-state g c =
    let low : c.state.inside.next_port ≢ last_number = numbered-low {T = g.row.T.Denot}
    {U = g.row.U.Denot} c.args.state.now _ c.args.place c.state.view_is c.requires.has_place in
    omega arith

pub returns-clause-step : goal.returns-clause-step
returns-clause-step g c =
    let given = settings_with c.args.given.now (handler_if_any c.args.handler) c.args.segments in
    entered-reaches-as {T = g.row.T.Denot} {U = g.row.U.Denot} c.args.state.now _ _ c.state.view_is c.requires.agrees
    given c.args.slots c.args.place c.in-Ok-entering.publisher c.in-Ok.segment.book c.in-Ok.segment.contents
    c.add_segment.new.books c.requires.has_place c.requires.slots (record {
      publisher = c.in-Ok-entering.ensures.enters
          ∙ ap (λ id. entering_publisher id c.args.place c.vacant_key-key.result given c.args.slots
          c.in-Ok-entering.publisher.loan_room
          (buffer [] c.state.inside.config.history_size) c.in-Ok-entering.publisher.key_room) c.new-id.ensures
          ∙ ap (λ key. entering_publisher c.state.inside.next_port c.args.place key given c.args.slots
          c.in-Ok-entering.publisher.loan_room (buffer [] c.state.inside.config.history_size)
          c.in-Ok-entering.publisher.key_room) c.vacant_key-key.ensures.value;
      room = c.in-Ok-entering.ensures.room;
      is_its = c.in-Ok.ensures.is_its ∙ c.new-id.ensures;
      names_node = c.in-Ok.ensures.names_node ∙ c.new-node.ensures;
      unused = c.in-Ok.ensures.unused;
      aligned = c.in-Ok.ensures.aligned;
      contents_length = c.in-Ok.ensures.contents_length;
      contents_room = λ k d lt.
          let is = c.in-Ok.ensures.contents_room k d lt in
          let count = c.in-Ok.ensures.contents_length in
          let needed = c.room_for-room.ensures (omega (arith, lt, count)) in
          omega (arith, is, needed);
      contents_closed = c.in-Ok.ensures.contents_closed;
      contents_form = λ several.
          c.in-Ok.ensures.contents_form (let single = c.is_single_valued-in_lists.ensures ∙ several in search rules);
      contents_lists =
          subst (λ (n : ℕ).
          All (λ (content : ContentState g.row.T.Denot g.row.U.Denot). content.lists ≡ n) c.in-Ok.segment.contents)
          (λ i. lists_for (not (c.is_single_valued-in_lists.ensures i)) (c.lists_wanted-lists.ensures i))
          c.in-Ok.ensures.contents_lists;
      vacant = c.in-Ok-add_segment.ensures.vacant;
      updates = c.in-Ok-add_segment.ensures.updates;
      changed = λ i. record (the_view (param 0 g.row.T) (param 1 g.row.U) c.state.inside) {
        next_port = c.state.inside.next_port + 1;
        publishers = (c.put_at_place.ensures.items
            ∙ ap (λ xs. placed xs c.args.place c.in-Ok-entering.publisher) c.in-Ok-try_reserve.ensures.items) i;
        subscribers =
            (with_items_is c.state.inside.subscribers c.make_all_due.new.ports
            (c.make_all_due.auto.ports ∙ c.deref_mut.ensures.len) ∙ c.make_all_due.ensures
            ∙ ap (map (option_map subscriber_due)) c.deref_mut.ensures.value) i;
        books = c.add_segment.new.books;
        contents = c.in-Ok-add_segment.ensures.contents i;
      };
    })

pub returns-clause-stands : goal.returns-clause-stands
returns-clause-stands g c = (
  c.in-Ok-entering.publisher,
  ap (λ xs. get_or xs c.args.place None) c.put_at_place.ensures.items
      ∙ placed-here c.in-Ok-entering.publisher c.try_reserve.new.self.items c.args.place,
  ap (λ (x : PublisherFields). x.id) c.in-Ok-entering.ensures.enters ∙ c.new-id.ensures
      ∙ ap (λ (f : Fields g.row.T.Denot g.row.U.Denot). f.next_port) c.state.view_is,
  ap (λ (x : PublisherFields). x.blocked) c.in-Ok-entering.ensures.enters,
)

pub put_at_place-requires : goal.put_at_place-requires
put_at_place-requires g c =
    let low : c.args.place ≤ length c.state.inside.publishers.items =
    place-low {T = g.row.T.Denot}
    {U = g.row.U.Denot} c.args.state.now _ c.args.place c.state.view_is c.requires.has_place in
    let long : vec_len c.state.inside.publishers ≡ length c.state.inside.publishers.items = search rules in
    omega (arith, low, long, c.try_reserve.ensures.len, c.in-Ok-try_reserve.ensures.ok)

pub returns-clause-id : goal.returns-clause-id
returns-clause-id g c = c.new-id.ensures ∙ ap (λ (f : Fields g.row.T.Denot g.row.U.Denot). f.next_port) c.state.view_is

pub room_for-room-requires : goal.room_for-room-requires
room_for-room-requires g c = ap (λ (f : Fields g.row.T.Denot g.row.U.Denot).
    segment_fits f.config c.args.slots c.args.given.now.initial_max_slice_len) c.state.view_is ∙ c.requires.size

pub new-entering-requires : goal.new-entering-requires
new-entering-requires g c = ap (λ (f : Fields g.row.T.Denot g.row.U.Denot).
    segment_fits f.config c.args.slots c.args.given.now.initial_max_slice_len) c.state.view_is ∙ c.requires.size
