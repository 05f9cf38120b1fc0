use Rattle.std.proofs.Common.{◌≡◌, ◌∙◌, true, false, ap, sym, refl}
use Rattle.std.proofs.lemmas.List.{with_items_is}
use Rattle.iox2_machine.specs.machine.Limits.{expired_limit}
use Rattle.iox2_machine.specs.machine.SubscriberUpdate.{Keep_expired, Evict, Discard_data}
use Rattle.iox2_connections.specs.declared.retirement.Retirement.TheVariants.{KeepExpired, Evict as EvictKey}
use Rattle.iox2_connections.specs.declared.retirement.Retirement.TheVariants.{DiscardData}
use Rattle.iox2_domain.specs.Ports.{SubscriberFields}
use Rattle.iox2_domain.specs.Fields.{Fields}
use Rattle.iox2_domain.specs.Updates.{changed_at}
use Rattle.iox2_steps.proofs.receivers.Choices.{chosen-evicts, chosen-discards}
use Rattle.iox2_steps.proofs.receivers.RetiredFields.{refused-changes, retires-as, refuses-as, first-link}
use Rattle.slab.specs.Slab.{get}
use Rattle.iox2_machine.specs.machine.Numbers.{contains}
use Rattle.iox2_connections.specs.Retires.{has_borrowed}
use Rattle.iox2_updates.specs.Ends.{DepartedAt}
use Rattle.iox2_updates.proofs.retirements.retire.Goals.{In-Evict}
use Rattle.iox2_updates.proofs.retirements.retire.Goals as goal

-- the connection that goes in its place is an expired one of which nothing is borrowed
evicted : (g : _) (c : In-Evict g) (departed : DepartedAt c.args.state.now c.args.at c.args.key)
    → (contains departed.subscriber.expired c.in-Evict.first ≡ true)
    × (has_borrowed (get c.args.state.now.connections c.in-Evict.first) ≡ false)
evicted g c departed =
    chosen-evicts (c.args.state.now).connections (expired_limit (c.args.state.now).config) departed.subscriber.expired
    c.args.key c.in-Evict.first (sym (c.choose.ensures departed) ∙ c.in-Evict.is)

pub replace_expired-requires-clause-first : goal.replace_expired-requires-clause-first
replace_expired-requires-clause-first g c =
    λ departed. (evicted g (goal.at.replace_expired-requires-clause-first g c).In-Evict departed).0

pub replace_expired-requires-clause-unborrowed : goal.replace_expired-requires-clause-unborrowed
replace_expired-requires-clause-unborrowed g c =
    (evicted g (goal.at.replace_expired-requires-clause-unborrowed g c).In-Evict c.requires).1

pub drop_end-requires-clause-unborrowed : goal.drop_end-requires-clause-unborrowed
drop_end-requires-clause-unborrowed g c =
    chosen-discards (c.args.state.now).connections (expired_limit (c.args.state.now).config)
    c.requires.subscriber.expired c.args.key (sym (c.choose.ensures c.requires) ∙ c.in-DiscardData.is)

pub returns-in-Refuse : goal.returns-in-Refuse
returns-in-Refuse g c = λ departed.
    let old = c.args.state.now in
    let viewed = c.state.view_is in
    let subscribers = ap (λ (f : Fields g.row.T.Denot g.row.U.Denot). f.subscribers) viewed in
    let written : _ ≡ changed_at
    (λ (z : SubscriberFields). record z { is_due = true }) old.subscribers c.args.at.subscriber =
    with_items_is c.state.inside.subscribers c.make_due.new.ports (c.make_due.auto.ports ∙ c.deref_mut.ensures.len)
    ∙ c.make_due.ensures ∙ ap (λ xs. changed_at (λ (z : SubscriberFields). record z { is_due = true }) xs
    c.args.at.subscriber) (c.deref_mut.ensures.value ∙ subscribers) in
    refuses-as old c.requires.agrees c.args.at.subscriber c.args.at.publisher departed.subscriber c.args.key
    departed.link departed.end (sym (c.choose.ensures departed) ∙ c.in-Refuse.is) _
    (refused-changes old c.requires.agrees c.args.at.subscriber c.args.at.publisher departed.subscriber c.args.key
    departed.link departed.end _ (λ k. record (viewed k) { subscribers = written k }))

pub returns-in-KeepExpired : goal.returns-in-KeepExpired
returns-in-KeepExpired g c = λ departed.
    retires-as c.args.state.now c.requires.agrees c.args.at.subscriber c.args.at.publisher departed.subscriber
    c.args.key departed.link departed.end KeepExpired
    (sym (c.choose.ensures departed) ∙ c.in-KeepExpired.is) Keep_expired refl refl _
    (c.keep_expired.ensures departed)

pub returns-in-Evict : goal.returns-in-Evict
returns-in-Evict g c = λ departed.
    let has = (evicted g (goal.at.returns-in-Evict g c).In-Evict departed).0 in
    let d = first-link c.args.state.now c.requires.agrees c.args.at.subscriber c.args.at.publisher departed.subscriber
    c.args.key departed.link departed.end c.in-Evict.first has in
    retires-as c.args.state.now c.requires.agrees c.args.at.subscriber c.args.at.publisher departed.subscriber
    c.args.key departed.link departed.end (EvictKey c.in-Evict.first) (sym (c.choose.ensures departed) ∙ c.in-Evict.is)
    (Evict d.0.home.publisher) (ap Evict d.2) refl _
    (c.replace_expired.ensures departed d.0 d.1)

pub returns-in-DiscardData : goal.returns-in-DiscardData
returns-in-DiscardData g c = λ departed.
    retires-as c.args.state.now c.requires.agrees c.args.at.subscriber c.args.at.publisher departed.subscriber
    c.args.key departed.link departed.end DiscardData
    (sym (c.choose.ensures departed) ∙ c.in-DiscardData.is) Discard_data refl refl _
    (c.drop_end.ensures departed)
