-- What a run replies to a send, and what it has of it.
use Rattle.std.specs.declared.result.Result.{Result}
use Rattle.std.specs.declared.result.Result.TheVariants.{Ok, Err}
use Rattle.iox2_machine.specs.declared.errors.SendError.{SendError}
use Rattle.iox2_pubsub.specs.declared.send_outcome.SendOutcome.{SendOutcome}
use Rattle.iox2_pubsub.specs.declared.send_outcome.SendOutcome.TheVariants.{Delivered as WasDelivered}
use Rattle.iox2_pubsub.specs.declared.send_outcome.SendOutcome.TheVariants.{Blocked as IsBlocked}
use Rattle.iox2_commands.specs.declared.reply.Reply.{Reply}
use Rattle.iox2_commands.specs.declared.reply.Reply.TheVariants.{Delivered, Blocked, SendRefused}
use Rattle.iox2_runs.specs.declared.runs.made.Made.{Made}
use Rattle.iox2_runs.specs.declared.runs.made.Made.TheVariants.{Nothing, Blocked as MadeBlocked}

-- The reply to a send, a retry or a giving up that came out so.
abbrev pub reply_to_send : {T U : Type 0} → Result SendOutcome SendError → Reply T U
reply_to_send (Ok (WasDelivered count)) = Delivered count
reply_to_send (Ok (IsBlocked blocked)) = Blocked
reply_to_send (Err error) = SendRefused error

-- What it made: the blocked send, if it is blocked.
abbrev pub made_by_send : Result SendOutcome SendError → Made
made_by_send (Ok (WasDelivered count)) = Nothing
made_by_send (Ok (IsBlocked blocked)) = MadeBlocked blocked
made_by_send (Err error) = Nothing
