-- What a service has of channels, and states that differ in channels alone.
use Rattle.std.proofs.Common.{◌≡◌, ℕ, ◌<◌, ◌≤◌, Bool, true, false, cond, refl, ap, ◌∙◌, arith, Option, None}
use Rattle.std.specs.Prelude.{nat_lt}
use Rattle.std.proofs.lemmas.Bool.{lt-ltb, le-ltb}
use Rattle.iox2_machine.specs.machine.Channel.{Channel}
use Rattle.iox2_machine.specs.machine.Limits.{channel_count}
use Rattle.iox2_machine.specs.machine.State.{State}
use Rattle.iox2_laws.proofs.PortsCome.{PortsCome, ports_come_themselves}
use Rattle.iox2_laws.proofs.PortsStay.{PortsStay, Remain, ports_stay_themselves}
use Rattle.iox2_laws.proofs.Waits.{Waits, waits_itself}
use Rattle.iox2_commands.specs.Step.{if_channel}

module _ {T U A : Type 0} (s : State T U) (channel : ℕ) (named : Option A) where
  -- what is named counts where connections have the channel
  pub with_channel : channel < channel_count s.config → if_channel s channel named ≡ named
  with_channel there = ap (λ b. cond b named None) (lt-ltb channel (channel_count s.config) there)

  -- and not where they lack it
  pub without_channel : (channel < channel_count s.config → ⊥) → if_channel s channel named ≡ None
  without_channel missing =
      ap (λ b. cond b named None) (le-ltb channel (channel_count s.config) (omega (arith, missing)))

  -- where nothing is named, nothing is named with a channel
  pub none_with_channel : named ≡ None → if_channel s channel named ≡ None
  none_with_channel none = ap (if_channel s channel) none ∙ at (nat_lt channel (channel_count s.config))
    where
      at : (b : Bool) → cond {A = Option A} b None None ≡ None
      at true = refl
      at false = refl

module _ {T U : Type 0} (s : State T U) (channels : ℕ → ℕ → ℕ → Channel) where
  -- The state with these channels.
  abbrev after : State T U
  after = record s { channels = channels }

  pub channels_stay : PortsStay s after
  channels_stay =
      let same : PortsStay s s = ports_stay_themselves s in record {
        remain =
            record { config = refl; publishers = (same.remain).publishers; subscribers = (same.remain).subscribers };
        borrowed = same.borrowed;
      }

  pub channels_come : PortsCome s after
  channels_come =
      let same : PortsCome s s = ports_come_themselves s in
      record { next_port = same.next_port; publishers = same.publishers; subscribers = same.subscribers }

  pub channels_wait : (Spared : ℕ → Type 0) → Waits Spared s after
  channels_wait Spared =
      let same : Waits Spared s s = waits_itself Spared s in
      record { next_port = same.next_port; publishers = same.publishers; subscribers = same.subscribers }
