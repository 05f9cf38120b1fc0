-- What the conversion of a handler's answer says.
use Rattle.iox2_machine.specs.declared.backpressure.BackpressureAction.{BackpressureAction}
use Rattle.iox2_machine.specs.declared.backpressure.BackpressureToReceiverAction.{BackpressureToReceiverAction}

-- What a sender's end does with one receiver, for the action that a handler chose.
abbrev pub to_receiver_action : BackpressureAction → BackpressureToReceiverAction
to_receiver_action BackpressureAction.FollowBackpressureyStrategy =
    BackpressureToReceiverAction.FollowBackpressureyStrategy
to_receiver_action BackpressureAction.Retry = BackpressureToReceiverAction.Retry
to_receiver_action BackpressureAction.DiscardData = BackpressureToReceiverAction.DiscardPointerOffset
to_receiver_action BackpressureAction.DiscardDataAndFail = BackpressureToReceiverAction.DiscardPointerOffsetAndFail
