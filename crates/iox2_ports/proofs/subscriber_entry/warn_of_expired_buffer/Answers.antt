use Rattle.std.proofs.lemmas.Bool.{lt-ltb}
use Rattle.iox2_ports.proofs.subscriber_entry.warn_of_expired_buffer.Goals as goal

pub returns-then-config : goal.returns-then-config
returns-then-config c =
    rw (lt-ltb c.args.config.now.subscriber_expired_connection_buffer c.args.config.now.subscriber_max_borrowed_samples
    c.if-config.true) c.warn.ensures
