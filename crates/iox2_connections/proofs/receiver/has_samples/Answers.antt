use Rattle.std.proofs.Common.{ap, sym, subst, ◌∙◌}
use Rattle.std.proofs.lemmas.List.{map-id}
use Rattle.iox2_connections.specs.Finds.{is_something, search, HasConnections}
use Rattle.iox2_connections.proofs.Searches.{finds-found, something-first, something-later}
use Rattle.iox2_connections.proofs.receiver.has_samples.Goals as goal

pub search_keys-requires-else-is_something : goal.search_keys-requires-else-is_something
search_keys-requires-else-is_something c =
    subst (HasConnections c.args.connections.now) (sym (map-id c.args.keys.now)) c.requires.keys

pub returns-then-is_something : goal.returns-then-is_something
returns-then-is_something c = (
  _,
  finds-found c.args.connections.now c.args.expired.now c.args.keys.now,
  c.if-is_something.true ∙ something-first _ _
      (ap is_something (sym c.search_keys.ensures) ∙ sym c.is_something.ensures ∙ c.if-is_something.true),
)

pub returns-else-is_something : goal.returns-else-is_something
returns-else-is_something c = (
  _,
  finds-found c.args.connections.now c.args.expired.now c.args.keys.now,
  c.is_something-else-is_something.ensures
      ∙ ap is_something
      (c.search_keys-else-is_something.ensures ∙ ap (search c.args.connections.now) (map-id c.args.keys.now))
      ∙ something-later _ _
      (ap is_something (sym c.search_keys.ensures) ∙ sym c.is_something.ensures ∙ c.if-is_something.false),
)
