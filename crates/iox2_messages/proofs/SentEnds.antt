-- How a send ended.
use Rattle.iox2_messages.specs.SendEnds.{IsKept, IsNotLost}
use Rattle.iox2_messages.specs.declared.send_end.SendEnd.{SendEnd}
use Rattle.iox2_messages.specs.declared.send_end.SendEnd.TheVariants.{Delivered, Undelivered, Blocked, Lost}
use Rattle.iox2_messages.specs.declared.send_end.SendEnd.TheVariants.{Unconnected}

-- of a message that was sent the publisher was there
pub not-lost : (end : SendEnd) → IsKept end → IsNotLost end
not-lost (Delivered count) kept = tt
not-lost Undelivered kept = tt
not-lost Blocked kept = tt
not-lost Lost kept = kept
not-lost (Unconnected failure) kept = tt
