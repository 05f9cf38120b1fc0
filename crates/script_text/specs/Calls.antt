-- Calls by name, on what the command at a position made.
use Rattle.std.specs.Prelude.{ℕ, List, codes, ◌≡◌}
use Rattle.script_text.specs.Numbers.{IsNumber, value_of, position_of}
use Rattle.iox2_machine.specs.machine.Delivery.{no_time}
use Rattle.iox2_commands.specs.declared.channel_calls.PublisherChannelCall.{PublisherChannelCall}
use Rattle.iox2_commands.specs.declared.channel_calls.PublisherChannelCall.TheVariants as publisher
use Rattle.iox2_commands.specs.declared.channel_calls.SubscriberChannelCall.{SubscriberChannelCall}
use Rattle.iox2_commands.specs.declared.channel_calls.SubscriberChannelCall.TheVariants as subscriber
use Rattle.iox2_commands.specs.declared.command.Command.{Command}
use Rattle.iox2_commands.specs.declared.command.Command.TheVariants as command

-- The call of this name is this command.
abbrev pub IsCall : List ℕ → (of : ℕ) → Command ℕ ℕ → Type 0
IsCall call of (command.LoanUninit it) = (call ≡ codes "loan") × (it ≡ of)
IsCall call of (command.Loan it) = (call ≡ codes "default") × (it ≡ of)
IsCall call of (command.AssumeInit it) = (call ≡ codes "init") × (it ≡ of)
IsCall call of (command.Send it) = (call ≡ codes "send") × (it ≡ of)
IsCall call of (command.Discard it) = (call ≡ codes "discard") × (it ≡ of)
IsCall call of (command.GiveUp it) = (call ≡ codes "giveup") × (it ≡ of)
IsCall call of (command.Update it) = (call ≡ codes "update") × (it ≡ of)
IsCall call of (command.Receive it) = (call ≡ codes "recv") × (it ≡ of)
IsCall call of (command.HasSamples it) = (call ≡ codes "has") × (it ≡ of)
IsCall call of (command.ReadHeader it) = (call ≡ codes "header") × (it ≡ of)
IsCall call of (command.ReadUserHeader it) = (call ≡ codes "user") × (it ≡ of)
IsCall call of (command.Release it) = (call ≡ codes "release") × (it ≡ of)
IsCall call of (command.Close it) = (call ≡ codes "close") × (it ≡ of)
IsCall call of (command.Retry it elapsed) = (call ≡ codes "retry") × (it ≡ of) × (elapsed ≡ no_time)
IsCall call of (command.Read it at) = (call ≡ codes "read") × (it ≡ of) × (at ≡ 0)
IsCall call of _ = ⊥

-- The call of this name with this number is this command.
abbrev pub IsCallWith : List ℕ → (of number : ℕ) → Command ℕ ℕ → Type 0
IsCallWith call of number (command.LoanSlice it value) = (call ≡ codes "slice") × (it ≡ of) × (value ≡ number)
IsCallWith call of number (command.WriteAll it value) = (call ≡ codes "write") × (it ≡ of) × (value ≡ number)
IsCallWith call of number (command.WriteHeader it value) = (call ≡ codes "user") × (it ≡ of) × (value ≡ number)
IsCallWith call of number (command.SendCopy it value) = (call ≡ codes "copy") × (it ≡ of) × (value ≡ number)
IsCallWith call of number (command.Read it value) = (call ≡ codes "read") × (it ≡ of) × (value ≡ number)
IsCallWith call of number _ = ⊥

-- `open`: a subscriber's channel comes into the state where it is closed. `state`: whether it is in the state
-- somewhere. `shut`: it is closed where it is in the state. `hint`: it has a disconnect hint where it is in the state.
abbrev pub IsSubscriberCall : (call : List ℕ) → (state : ℕ) → SubscriberChannelCall → Type 0
IsSubscriberCall call state (subscriber.SetState it) = (call ≡ codes "open") × (it ≡ state)
IsSubscriberCall call state (subscriber.SomeHasState it) = (call ≡ codes "state") × (it ≡ state)
IsSubscriberCall call state (subscriber.Close it) = (call ≡ codes "shut") × (it ≡ state)
IsSubscriberCall call state (subscriber.SetDisconnectHint it) = (call ≡ codes "hint") × (it ≡ state)

-- `state`: whether a publisher's channel is in the state. `hinted`: whether it has a disconnect hint, too. `shut`: it
-- is closed where it is in the state.
abbrev pub IsPublisherCall : (call : List ℕ) → (state : ℕ) → PublisherChannelCall → Type 0
IsPublisherCall call state (publisher.HasState it) = (call ≡ codes "state") × (it ≡ state)
IsPublisherCall call state (publisher.HasDisconnectHint it) = (call ≡ codes "hinted") × (it ≡ state)
IsPublisherCall call state (publisher.Close it) = (call ≡ codes "shut") × (it ≡ state)

-- The words at these places are the numbers of a command, and two others.
abbrev pub AreNumbers : (name first second : List ℕ) → (of one two : ℕ) → Type 0
AreNumbers name first second of one two =
    IsNumber name × (of ≡ position_of (value_of name)) × IsNumber first × (one ≡ value_of first) × IsNumber second
    × (two ≡ value_of second)

-- The call that these words name is this command.
abbrev pub IsCallWithTwo : (call name first second : List ℕ) → Command ℕ ℕ → Type 0
IsCallWithTwo call name first second (command.WriteCell of at value) =
    (call ≡ codes "cell") × AreNumbers name first second of at value
IsCallWithTwo call name first second (command.SetPayload of at value) =
    (call ≡ codes "set") × AreNumbers name first second of at value
IsCallWithTwo call name first second (command.SendToConnection of channel connection) =
    (call ≡ codes "deliver") × AreNumbers name first second of channel connection
IsCallWithTwo call name first second (command.SubscriberChannel of channel it) =
    (state : ℕ) × IsSubscriberCall call state it × AreNumbers name first second of channel state
IsCallWithTwo call name first second _ = ⊥

-- The call that these words name is this command.
abbrev pub IsCallWithThree : (call name first second third : List ℕ) → Command ℕ ℕ → Type 0
IsCallWithThree call name first second third (command.PublisherChannel of channel connection it) =
    (state : ℕ) × IsPublisherCall call state it × AreNumbers name first second of channel connection × IsNumber third
    × (state ≡ value_of third)
IsCallWithThree call name first second third _ = ⊥
