use Rattle.std.proofs.Common.{◌≡◌, false, is_some, refl, ap, sym, ◌∙◌}
use Rattle.std.specs.declared.option.Option.{Option}
use Rattle.std.specs.declared.option.Option.TheVariants.{None, Some}
use Rattle.std.specs.Option.{option_map, option_map_or}
use Rattle.iox2_machine.specs.machine.Records.{Publisher, BlockedSend}
use Rattle.iox2_connections.specs.Mailboxes.{sender_ends}
use Rattle.iox2_domain.specs.declared.publisher_state.BlockedDelivery.{BlockedDelivery}
use Rattle.iox2_domain.specs.Fields.{kept_of, number_in_slot, blocked_send}
use Rattle.iox2_domain.specs.Kept.{state_of}
use Rattle.iox2_domain.proofs.lemmas.fields.ConnectionEnds.{publisher-stands}
use Rattle.iox2_domain.proofs.lemmas.slots.LeftConnections.{unknown, stands-nowhere}
use Rattle.iox2_messages.proofs.blocked_sends.is_waiting.Goals as goal

-- the machine's record has one where the publisher's has
waits-alike : (f : BlockedDelivery → BlockedSend) (o : Option BlockedDelivery) → is_some o ≡ is_some (option_map f o)
waits-alike f None = refl
waits-alike f (Some b) = refl

pub returns : goal.returns
returns g c =
    let old = c.args.state.now in
    let found = c.in-Some.ensures in
    c.waits_at.ensures found.0 found.1
    ∙ waits-alike (blocked_send (number_in_slot old.books (found.0).id) (sender_ends old.connections (found.0).keys))
    (found.0).blocked
    ∙ sym (ap (λ o. option_map_or (λ (x : Publisher). is_some x.blocked) o false)
    (ap (state_of (kept_of old)).publishers (sym found.2)
    ∙ publisher-stands old c.requires.parts c.in-Some.place found.0 found.1))

pub returns-in_default : goal.returns-in_default
returns-in_default g c =
    let old = c.args.state.now in
    sym (ap (λ o. option_map_or (λ (x : Publisher). is_some x.blocked) o false)
    (unknown old c.args.publisher (stands-nowhere old.publishers c.args.publisher c.in_default.ensures)))
