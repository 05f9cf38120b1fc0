use Rattle.std.proofs.Common.{◌≡◌, Option, Some, ℕ, sym, subst}
use Rattle.slab.specs.Slab.{with_value}
use Rattle.iox2_connections.specs.Link.{Link}
use Rattle.iox2_domain.specs.ChannelChanges.{ChangesLinks}
use Rattle.iox2_messages.specs.ChannelChanges.{changed_link}
use Rattle.iox2_messages.proofs.ChangedLinks.{none-changed, one-changed}
use Rattle.iox2_messages.proofs.changed_channels.change_at.Goals as goal

pub index_mut-requires : goal.index_mut-requires
index_mut-requires c = c.requires c.in-Some.key c.in-Some.is

pub returns-in-Some : goal.returns-in-Some
returns-in-Some c =
    subst (λ (o : Option ℕ). ChangesLinks (changed_link c.args.change c.args.channel c.args.expected)
    (λ k. o ≡ Some k) c.args.connections.now
    (with_value c.args.connections.now c.in-Some.key c.change_channel.new.connection)) (sym c.in-Some.is)
    (subst (λ (d : Link). ChangesLinks (changed_link c.args.change c.args.channel c.args.expected)
    (λ k. Some c.in-Some.key ≡ Some k) c.args.connections.now (with_value c.args.connections.now c.in-Some.key d))
    (sym c.change_channel.ensures.changed)
    (one-changed c.args.change c.args.channel c.args.expected c.args.connections.now c.in-Some.key
    c.index_mut.result.now c.index_mut.ensures.value))

pub returns-in_default : goal.returns-in_default
returns-in_default c = none-changed c.args.change c.args.channel c.args.expected
    (λ k. c.args.key ≡ Some k) c.args.connections.now (λ k is. c.in_default.not-Some k is)
