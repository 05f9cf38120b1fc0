-- What a publisher does before its next message.
use Rattle.std.specs.Prelude.{Bool, true, false}
use Rattle.iox2_domain.specs.declared.due.Due.{Due}
use Rattle.iox2_domain.specs.declared.due.Due.TheVariants.{Nothing, Clearing, Connecting, Both}

-- Whether it updates its connections.
abbrev pub is_to_connect : Due → Bool
is_to_connect Nothing = false
is_to_connect Clearing = false
is_to_connect Connecting = true
is_to_connect Both = true

-- Whether it looks at its older slots.
abbrev pub is_to_clear : Due → Bool
is_to_clear Nothing = false
is_to_clear Clearing = true
is_to_clear Connecting = false
is_to_clear Both = true
