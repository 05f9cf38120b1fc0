use Rattle.std.proofs.Common.{◌≡◌, ℕ, List, Option, ap, sym, subst, ◌∙◌}
use Rattle.iox2_connections.specs.Counters.{IsCovered}
use Rattle.iox2_connections.proofs.Counts.{IsCovered-follows}
use Rattle.iox2_domain.specs.Closes.{LeavesAt, SomeHasKey}
use Rattle.iox2_domain.specs.Departures.{HasKey}
use Rattle.iox2_domain.specs.Ports.{PublisherFields}
use Rattle.iox2_steps.proofs.closes.LeaveSteps.{leaves-all}
use Rattle.iox2_ports.proofs.publisher_closes.leave_connections.Goals as goal

pub leave_subscribers-requires : goal.leave_subscribers-requires
leave_subscribers-requires c = record {
  covered = IsCovered-follows c.value-id.result c.args.book.now.holders c.leave_keys.new.book.holders
      c.args.connections.now.slots c.leave_keys.new.connections.slots
      (subst (λ (p : ℕ). IsCovered p c.args.book.now.holders c.args.connections.now.slots)
      (sym (c.value-id.ensures ∙ ap (λ (x : PublisherFields). x.id) c.publisher.view_is)) c.requires.covered)
      c.leave_keys.ensures.counters;
}

pub returns-clause-connections : goal.returns-clause-connections
returns-clause-connections c =
    let id : c.value-id.result ≡ c.args.publisher.now.id =
    c.value-id.ensures ∙ ap (λ (x : PublisherFields). x.id) c.publisher.view_is in
    let keys : c.deref.result.now ≡ c.args.publisher.now.keys =
    c.deref.ensures.value ∙ ap (λ (x : PublisherFields). x.keys) c.publisher.view_is in
    leaves-all c.args.publisher.now c.args.place c.args.subscribers.now c.args.connections.now
    c.leave_keys.new.connections c.leave_subscribers.new.connections c.requires.found
    (subst (λ (p : ℕ). LeavesAt p c.args.subscribers.now
    (HasKey c.args.publisher.now.keys) c.args.connections.now c.leave_keys.new.connections) id
    (subst (λ (ks : List (Option ℕ)). LeavesAt c.value-id.result c.args.subscribers.now
    (HasKey ks) c.args.connections.now c.leave_keys.new.connections) keys c.leave_keys.ensures.connections))
    (subst (λ (p : ℕ). LeavesAt p c.args.subscribers.now (SomeHasKey c.args.subscribers.now c.args.place)
    c.leave_keys.new.connections c.leave_subscribers.new.connections) id c.leave_subscribers.ensures.connections)
