-- The connections of a domain have the channels into which its messages go.
use Rattle.std.proofs.Common.{◌≡◌, ℕ, ◌<◌, get_or, ap, arith}
use Rattle.std.specs.declared.option.Option.TheVariants.{None, Some}
use Rattle.std.specs.Option.{option_map}
use Rattle.slab.specs.Slab.{Slab}
use Rattle.iox2_connections.specs.Link.{Link}
use Rattle.iox2_machine.specs.machine.Limits.{channel_count}
use Rattle.iox2_connections.specs.Mailboxes.{sender_ends}
use Rattle.iox2_connections.specs.Receivers.{HaveChannel}
use Rattle.iox2_domain.specs.BlockedSends.{waiting_send}
use Rattle.iox2_domain.specs.Fields.{Fields, number_in_slot, publisher_of, blocked_send}
use Rattle.iox2_domain.specs.Invariant.{IsDomain}
use Rattle.iox2_domain.specs.Ports.{PublisherFields}
use Rattle.iox2_domain.specs.declared.publisher_state.BlockedDelivery.{BlockedDelivery}
use Rattle.iox2_domain.proofs.lemmas.fields.ConnectionEnds.{publisher-stands}

-- each has channel 0
pub have-channel-0 : (connections : Slab Link) → HaveChannel 0 connections
have-channel-0 connections = record { at = λ key c at some. absurd (omega (arith, some)) }

-- and the one of a blocked delivery
pub have-blocked-channel : {T U : Type 0} (f : Fields T U) (sound : IsDomain f) (i : ℕ) (x : PublisherFields)
    → get_or f.publishers i None ≡ Some x → (w : BlockedDelivery) → x.blocked ≡ Some w
    → HaveChannel w.channel f.connections
have-blocked-channel f sound i x here w waits =
    record { at = λ key c at some. omega (arith, known, sound.parts.linked.channel_counts key c at) } where
      known : w.channel < channel_count f.config
      known =
          ((sound.well_formed.publishers x.id (publisher_of f.books f.connections x).port
          (publisher-stands f sound.parts i x here)).blocked (waiting_send f x w)
          (ap (option_map (blocked_send (number_in_slot f.books x.id) (sender_ends f.connections x.keys)))
          waits)).channel
