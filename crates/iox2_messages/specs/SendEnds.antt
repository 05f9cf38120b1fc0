-- How a send ended.
use Rattle.iox2_machine.specs.machine.Sends.{SendResult, Delivered_to, Blocked_send, Send_error}
use Rattle.iox2_machine.specs.declared.errors.SendError.TheVariants.{ConnectionBrokenSinceSenderNoLongerExists}
use Rattle.iox2_machine.specs.declared.errors.SendError.TheVariants.{ConnectionError, UnableToDeliver}
use Rattle.iox2_messages.specs.declared.send_end.SendEnd.{SendEnd}
use Rattle.iox2_messages.specs.declared.send_end.SendEnd.TheVariants.{Delivered, Undelivered, Blocked, Lost}
use Rattle.iox2_messages.specs.declared.send_end.SendEnd.TheVariants.{Unconnected}

-- The machine's result of a send that ended so.
abbrev pub end_result : SendEnd → SendResult
end_result (Delivered count) = Delivered_to count
end_result Undelivered = Send_error UnableToDeliver
end_result Blocked = Blocked_send
end_result Lost = Send_error ConnectionBrokenSinceSenderNoLongerExists
end_result (Unconnected failure) = Send_error (ConnectionError failure)

-- The message was sent.
abbrev pub IsKept : SendEnd → Type 0
IsKept (Delivered count) = Unit {0}
IsKept Undelivered = Unit {0}
IsKept Blocked = Unit {0}
IsKept Lost = ⊥
IsKept (Unconnected failure) = ⊥

-- The publisher of the message was there.
abbrev pub IsNotLost : SendEnd → Type 0
IsNotLost (Delivered count) = Unit {0}
IsNotLost Undelivered = Unit {0}
IsNotLost Blocked = Unit {0}
IsNotLost Lost = ⊥
IsNotLost (Unconnected failure) = Unit {0}
