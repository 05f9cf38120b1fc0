use Rattle.std.proofs.Common.{◌≡◌, [], true, false}
use Rattle.std.proofs.lemmas.List.Elements.{All-weaker}
use Rattle.iox2_contents.specs.SlotContents.{ContentState}
use Rattle.iox2_ports.proofs.segments.Segment.new.Goals as goal

pub returns : goal.returns
returns g c = record {
  is_its = c.in_ok-book.ensures.publisher;
  names_node = c.in_ok-book.ensures.node;
  unused = c.in_ok-book.ensures.unused;
  aligned = c.in_ok-book.ensures.aligned;
  contents_length = c.in_ok-contents.ensures.len;
  contents_room = c.in_ok-contents.ensures.room;
  contents_closed =
      All-weaker (λ (content : ContentState g.row.T.Denot g.row.U.Denot). (content.cells ≡ []) × (content.values ≡ []))
      (λ (content : ContentState g.row.T.Denot g.row.U.Denot). content.cells ≡ [])
      (λ content both. both.0) c.in_ok-contents.contents c.in_ok-contents.ensures.empty;
  contents_form = λ listed.
      All-weaker (λ (content : ContentState g.row.T.Denot g.row.U.Denot). c.args.in_lists ≡ true
      → content.is_in_place ≡ false)
      (λ (content : ContentState g.row.T.Denot g.row.U.Denot). content.is_in_place ≡ false)
      (λ content form. form listed) c.in_ok-contents.contents c.in_ok-contents.ensures.in_lists;
  contents_lists = c.in_ok-contents.ensures.lists;
}
