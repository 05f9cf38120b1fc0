-- To whom a blocked send goes yet.
use Rattle.std.specs.Prelude.{ℕ, true, false, length, ◌≡◌, ◌<◌}
use Rattle.std.specs.declared.option.Option.TheVariants.{Some}
use Rattle.iox2_machine.specs.machine.Numbers.{contains}
use Rattle.iox2_machine.specs.machine.Places.{occupants}
use Rattle.iox2_machine.specs.machine.Records.{Publisher, BlockedSend}
use Rattle.iox2_machine.specs.machine.State.{State}

module _ {T U : Type 0} where
  -- The publisher p waits with the message n, which it sends into channel 0, and of the ends that remain one leads to
  -- q.
  pub record GoesTo (s : State T U) (p n q : ℕ) : Type 0 where
    pub publisher : Publisher
    pub blocked : BlockedSend
    pub stands : s.publishers p ≡ Some publisher
    pub waits : publisher.blocked ≡ Some blocked
    pub message : blocked.message ≡ n
    pub channel : blocked.channel ≡ 0
    pub some : 0 < length blocked.ends
    pub ahead : contains (occupants blocked.ends) q ≡ true

  -- The publisher p waits with the message n, which it sends into channel 0, and of the ends that remain none leads to
  -- q.
  pub record PassesBy (s : State T U) (p n q : ℕ) : Type 0 where
    pub publisher : Publisher
    pub blocked : BlockedSend
    pub stands : s.publishers p ≡ Some publisher
    pub waits : publisher.blocked ≡ Some blocked
    pub message : blocked.message ≡ n
    pub channel : blocked.channel ≡ 0
    pub some : 0 < length blocked.ends
    pub past : contains (occupants blocked.ends) q ≡ false
