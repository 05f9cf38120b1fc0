use Rattle.std.proofs.Common.{◌≡◌, ◌∙◌, ℕ, false, ap, sym, subst, get_or, is_some}
use Rattle.std.specs.declared.option.Option.TheVariants.{None, Some}
use Rattle.std.specs.Option.{option_map}
use Rattle.iox2_machine.specs.machine.Environments.{fixed_handlers}
use Rattle.iox2_machine.specs.declared.errors.ConnectionFailure.{ConnectionFailure}
use Rattle.iox2_domain.specs.Ports.{PublisherFields, SubscriberFields}
use Rattle.iox2_domain.specs.Fields.{Fields}
use Rattle.iox2_domain.specs.ReceiverSteps.{RetiresReceiver, DisconnectsAt}
use Rattle.iox2_domain.specs.Updates.{receiver_key}
use Rattle.iox2_steps.proofs.receivers.FoundEnds.{somebody, nobody-there, key-there, key-of}
use Rattle.iox2_steps.proofs.receivers.Disconnects.{taken-place, no-end, departed-end, retired-there, refused-there}
use Rattle.iox2_updates.specs.Ends.{DepartedAt}
use Rattle.iox2_updates.proofs.receiver_updates.disconnect_at.Goals.{After-key_at}
use Rattle.iox2_updates.proofs.receiver_updates.disconnect_at.Goals as goal

-- nobody stands at the publisher's place
vacated : (g : _) (c : After-key_at g) → c.is_some.result ≡ false
    → get_or c.args.state.now.publishers c.args.at.publisher None ≡ None
vacated g c none =
    let same = c.deref.ensures.value ∙ ap (λ (f : Fields g.row.T.Denot g.row.U.Denot). f.publishers) c.state.view_is in
    nobody-there (get_or c.args.state.now.publishers c.args.at.publisher None)
    (ap (λ xs. is_some (option_map (λ (z : PublisherFields). z.id) (get_or xs c.args.at.publisher None))) (sym same)
    ∙ ap is_some (sym c.publisher_at.ensures) ∙ sym c.is_some.ensures ∙ none)

-- the key is the subscriber's at that place
key_there : (g : _) (c : After-key_at g)
    → receiver_key c.args.state.now.subscribers c.args.at.subscriber c.args.at.publisher ≡ c.key_at.result
key_there g c =
    ap (λ xs. receiver_key xs c.args.at.subscriber c.args.at.publisher)
    (sym (c.deref-2.ensures.value ∙ ap (λ (f : Fields g.row.T.Denot g.row.U.Denot). f.subscribers) c.state.view_is))
    ∙ sym c.key_at.ensures

-- where there is one, its end is a departed publisher's
abbrev departed : (g : _) (c : After-key_at g) → c.is_some.result ≡ false → (key : ℕ) → c.key_at.result ≡ Some key
    → (y : SubscriberFields) → get_or c.args.state.now.subscribers c.args.at.subscriber None ≡ Some y
    → DepartedAt c.args.state.now c.args.at key
departed g c none key found y at =
    let old = c.args.state.now in
    let has = key-of old.subscribers c.args.at.subscriber c.args.at.publisher y (Some key) at (key_there g c ∙ found) in
    let end = departed-end fixed_handlers old c.requires.agrees c.args.at.subscriber c.args.at.publisher y at
    (vacated g c none) key has in
    record { agrees = c.requires.agrees; subscriber = y; link = end.0; end = end.1 }

pub returns-then-is_some : goal.returns-then-is_some
returns-then-is_some g c = λ y at.
    let old = c.args.state.now in
    let same = c.deref.ensures.value ∙ ap (λ (f : Fields g.row.T.Denot g.row.U.Denot). f.publishers) c.state.view_is in
    let x = somebody (get_or old.publishers c.args.at.publisher None)
    (ap (λ xs. is_some (option_map (λ (z : PublisherFields). z.id) (get_or xs c.args.at.publisher None))) (sym same)
    ∙ ap is_some (sym c.publisher_at.ensures) ∙ sym c.is_some.ensures ∙ c.if-is_some.true) in
    taken-place fixed_handlers old c.requires.agrees c.args.at.subscriber c.args.at.publisher y at x.0 x.1

pub returns-in_default : goal.returns-in_default
returns-in_default g c = λ y at.
    let old = c.args.state.now in
    let nobody = vacated g (goal.at.returns-in_default g c).After-key_at c.if-is_some.false in
    let found : receiver_key old.subscribers c.args.at.subscriber c.args.at.publisher ≡ None =
    key_there g (goal.at.returns-in_default g c).After-key_at ∙ c.in_default.is in
    no-end fixed_handlers old c.requires.agrees c.args.at.subscriber c.args.at.publisher y at nobody
    (key-of old.subscribers c.args.at.subscriber c.args.at.publisher y None at found)

pub retire-requires : goal.retire-requires
retire-requires g c =
    let at = (goal.at.retire-requires g c).After-key_at in
    let found = key-there c.args.state.now.subscribers c.args.at.subscriber c.args.at.publisher c.in-Some.key
    (key_there g at ∙ c.in-Some.is) in
    departed g at c.if-is_some.false c.in-Some.key c.in-Some.is found.0 found.1

pub returns-then-retire : goal.returns-then-retire
returns-then-retire g c = λ y at.
    let key_at = (goal.at.returns-then-retire g c).After-key_at in
    let gone = departed g key_at c.if-is_some.false c.in-Some.key c.in-Some.is y at in
    retired-there fixed_handlers c.args.state.now c.requires.agrees c.args.at.subscriber c.args.at.publisher y at
    (vacated g key_at c.if-is_some.false) c.in-Some.key gone.link gone.end c.retire.new.state
    (subst (RetiresReceiver c.args.state.now c.args.at.subscriber c.args.at.publisher y gone.link.home.publisher
    c.retire.new.state) c.if-retire.true (c.retire.ensures gone))

pub returns-else-retire : goal.returns-else-retire
returns-else-retire g c = λ y at.
    let key_at = (goal.at.returns-else-retire g c).After-key_at in
    let gone = departed g key_at c.if-is_some.false c.in-Some.key c.in-Some.is y at in
    subst (λ (failure : ConnectionFailure). DisconnectsAt fixed_handlers c.args.state.now c.args.at.subscriber
    c.args.at.publisher y c.retire.new.state (Some failure)) (sym c.expired_full.ensures)
    (refused-there fixed_handlers c.args.state.now c.requires.agrees c.args.at.subscriber c.args.at.publisher y at
    (vacated g key_at c.if-is_some.false) c.in-Some.key gone.link gone.end c.retire.new.state
    (subst (RetiresReceiver c.args.state.now c.args.at.subscriber c.args.at.publisher y gone.link.home.publisher
    c.retire.new.state) c.if-retire.false (c.retire.ensures gone)))
