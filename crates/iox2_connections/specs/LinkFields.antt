-- What the fields of a connection keep.
use Rattle.std.specs.Prelude.{◌≡◌, ◌+◌, ◌∷◌}
use Rattle.std.specs.Vec.{vec_capacity}
use Rattle.iox2_connections.specs.Link.{Link, IsBounded}
use Rattle.iox2_connections.specs.FurtherChannels.{slots_from, rings, statuses, HaveRoom}
use Rattle.iox2_connections.specs.declared.connection.Connection.TheInside.{Inside}

-- The connection that the fields stand for. As many slots may be borrowed as there was room for at first.
abbrev pub link_of : Inside → Link
link_of a = record {
  home = record {
    publisher = a.publisher;
    subscriber = a.subscriber;
    publisher_place = a.publisher_place;
    subscriber_place = a.subscriber_place;
    book = a.book;
  };
  buffer = a.waiting.capacity;
  limit = vec_capacity a.borrowed;
  is_open = a.is_open;
  channels = a.status ∷ statuses a.further.items;
  waiting = a.waiting.items;
  borrowed = a.borrowed.items;
  returned = a.returned.items;
  others = slots_from 1 (rings a.further.items);
}

-- The slots are within their bounds, and the room for them is made.
pub record IsConnection (a : Inside) : Type 0 where
  pub bounded : IsBounded (link_of a)
  pub return_room : a.returned.capacity ≡ a.waiting.capacity + vec_capacity a.borrowed + 1
  pub further_room : HaveRoom a.waiting.capacity a.further.items
