-- What is printed of a warning.
use Rattle.std.specs.Prelude.{ℕ, List, [], ◌∷◌, ◌++◌, codes}
use Rattle.std.specs.List.{flat_map}
use Rattle.iox2_machine.specs.declared.warning.Warning.{Warning}
use Rattle.iox2_machine.specs.declared.warning.Warning.TheVariants as warning

-- The name of a warning.
abbrev pub warning_name : Warning → List ℕ
warning_name (warning.ExpiredBufferRaised subscriber) = codes "ExpiredBufferRaised"
warning_name (warning.PublisherPartlyConnected publisher failure) = codes "PublisherPartlyConnected"
warning_name (warning.SubscriberPartlyConnected subscriber failure) = codes "SubscriberPartlyConnected"
warning_name (warning.ConnectionNotMade sender receiver) = codes "ConnectionNotMade"
warning_name (warning.ExpiredDataDiscarded sender receiver) = codes "ExpiredDataDiscarded"

-- A warning is printed on a line of its own, which a line feed ends.
abbrev pub warning_line : Warning → List ℕ
warning_line w = codes "warning " ++ warning_name w ++ 10 ∷ []

-- The lines of the warnings, in their order.
abbrev pub warning_lines : List Warning → List ℕ
warning_lines warnings = flat_map warning_line warnings
