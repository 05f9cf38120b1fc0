-- The outcome of a step: a reply, a handle for later commands, an event, and the state afterwards.
use Rattle.std.specs.Prelude.{ℕ}
use Rattle.std.specs.declared.option.Option.TheVariants.{Some}
use Rattle.iox2_machine.specs.machine.Numbers.{put_at}
use Rattle.iox2_machine.specs.machine.Records.{Entry}
use Rattle.iox2_machine.specs.machine.State.{State, Messages}
use Rattle.iox2_commands.specs.declared.reply.Reply.{Reply}
use Rattle.iox2_commands.specs.declared.reply.Reply.TheVariants.{Done, Skipped}

-- What a command made, which later commands name by its position in the list.
pub data Handle : Type 0 where
  No_handle : Handle
  Publisher_handle : (id : ℕ) → Handle
  Subscriber_handle : (id : ℕ) → Handle
  Loan_handle : (message : ℕ) → Handle
  Blocked_handle : (publisher message : ℕ) → Handle
  Sample_handle : (publisher subscriber message : ℕ) → Handle

-- What happened to a message: it was sent, with this entry, or a subscriber received it.
pub data Event (T U : Type 0) : Type 0 where
  No_event : Event T U
  Message_sent : (publisher message : ℕ) → Entry T U → Event T U
  Message_received : (publisher subscriber message : ℕ) → Event T U

-- A message that is sent gets its entry; nothing else changes what was sent.
abbrev pub messages_after : {T U : Type 0} → Event T U → Messages T U → Messages T U
messages_after No_event messages = messages
messages_after (Message_sent p n entry) messages = put_at messages n (Some entry)
messages_after (Message_received p q n) messages = messages

-- The whole outcome of a step.
pub record Outcome (T U : Type 0) : Type 0 where
  pub reply : Reply T U
  pub handle : Handle
  pub event : Event T U
  pub state : State T U

module _ {T U : Type 0} where
  -- The reply and the handle, with no event.
  abbrev pub outcome : Reply T U → Handle → State T U → Outcome T U
  outcome reply handle s = record { reply = reply; handle = handle; event = No_event; state = s }

  -- A reply that makes nothing.
  abbrev pub replied : Reply T U → State T U → Outcome T U
  replied reply s = outcome reply No_handle s

  -- The command is done and makes nothing.
  abbrev pub done : State T U → Outcome T U
  done s = replied Done s

  -- The command is skipped and makes nothing.
  abbrev pub skipped : State T U → Outcome T U
  skipped s = replied Skipped s
