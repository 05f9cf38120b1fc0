-- Which connections ports have hangs on no message, book or warning.
use Rattle.std.specs.Prelude.{ℕ, List}
use Rattle.std.specs.declared.option.Option.{Option}
use Rattle.slab.specs.Slab.{Slab}
use Rattle.iox2_slots.specs.SlotBook.{Book}
use Rattle.iox2_contents.specs.SlotContents.{ContentState}
use Rattle.iox2_domain.specs.WarningRing.{WarningRing}
use Rattle.iox2_domain.specs.Fields.{Fields}
use Rattle.iox2_domain.specs.Invariant.{IsLinked}

pub linked-same : {T U : Type 0} (f : Fields T U) (next_message : ℕ) (warnings : WarningRing) (books : Slab Book)
    (contents : List (Option (List (ContentState T U))))
    → IsLinked f
    → IsLinked (record f { next_message = next_message; warnings = warnings; books = books; contents = contents })
linked-same f next_message warnings books contents linked = record {
  senders = linked.senders;
  receivers = linked.receivers;
  expired = linked.expired;
  ends = linked.ends;
  receiver_places = linked.receiver_places;
  knows = linked.knows;
  knows_publishers = linked.knows_publishers;
  sender_rooms = linked.sender_rooms;
  receiver_rooms = linked.receiver_rooms;
  limits = linked.limits;
  channel_counts = linked.channel_counts;
  returned = linked.returned;
  marked = linked.marked;
}
