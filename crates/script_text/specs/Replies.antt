-- What is printed for a reply.
use Rattle.std.specs.Prelude.{ℕ, List, [], ◌∷◌, ◌++◌, codes, Some, None, true, false}
use Rattle.std.specs.List.{flat_map}
use Rattle.std.specs.Fmt.{decimal}
use Rattle.iox2_machine.specs.ErrorTexts.{loan_error_text, send_error_text, receive_error_text, connection_failure_text}
use Rattle.iox2_machine.specs.ErrorTexts.{publisher_create_error_text, subscriber_create_error_text}
use Rattle.iox2_commands.specs.declared.reply.Reply.{Reply}
use Rattle.iox2_commands.specs.declared.reply.Reply.TheVariants as reply

-- The words of a reply: what was asked for, or `ok`; `none` for what isn't there; `err` and the error's text for a
-- refusal. Of a header they are the node, the publisher and the number of elements.
abbrev pub reply_text : Reply ℕ ℕ → List ℕ
reply_text reply.Done = codes "ok"
reply_text reply.Skipped = codes "skipped"
reply_text (reply.PublisherMade id) = codes "ok"
reply_text (reply.PublisherRefused error) = codes "err " ++ publisher_create_error_text error
reply_text (reply.SubscriberMade id) = codes "ok"
reply_text (reply.SubscriberRefused error) = codes "err " ++ subscriber_create_error_text error
reply_text reply.Loaned = codes "ok"
reply_text (reply.LoanRefused error) = codes "err " ++ loan_error_text error
reply_text (reply.Delivered count) = codes "ok " ++ decimal count
reply_text reply.Blocked = codes "blocked"
reply_text (reply.SendRefused error) = codes "err " ++ send_error_text error
reply_text (reply.UpdateRefused failure) = codes "err " ++ connection_failure_text failure
reply_text (reply.Sample origin) = codes "sample"
reply_text reply.NoSample = codes "none"
reply_text (reply.ReceiveRefused error) = codes "err " ++ receive_error_text error
reply_text (reply.Has true) = codes "true"
reply_text (reply.Has false) = codes "false"
reply_text (reply.WereClosed true) = codes "true"
reply_text (reply.WereClosed false) = codes "false"
reply_text (reply.Place None) = codes "none"
reply_text (reply.Place (Some place)) = codes "ok " ++ decimal place
reply_text (reply.Cell None) = codes "none"
reply_text (reply.Cell (Some value)) = codes "ok " ++ decimal value
reply_text reply.Unwritten = codes "unwritten"
reply_text (reply.Header header) = codes "ok " ++ decimal header.node_id ++ codes " " ++ decimal header.publisher_id
    ++ codes " " ++ decimal header.number_of_elements
reply_text (reply.UserHeader value) = codes "ok " ++ decimal value

-- A reply is printed on a line of its own, which a line feed ends.
abbrev pub reply_line : Reply ℕ ℕ → List ℕ
reply_line r = reply_text r ++ 10 ∷ []

-- The lines of the replies, in their order.
abbrev pub reply_lines : List (Reply ℕ ℕ) → List ℕ
reply_lines replies = flat_map reply_line replies
