-- Whether the messages of a service are single values.
use Rattle.std.specs.Prelude.{Bool, true, false, ◌&&◌, ◌==◌}
use Rattle.iox2_machine.specs.declared.service_config.ServiceConfig.{ServiceConfig}
use Rattle.iox2_machine.specs.declared.service_config.TypeVariant.{TypeVariant}
use Rattle.iox2_machine.specs.declared.service_config.TypeVariant.TheVariants.{FixedSize, Dynamic}

-- The payload of each message is one element.
abbrev pub is_fixed_size : TypeVariant → Bool
is_fixed_size FixedSize = true
is_fixed_size Dynamic = false

-- The payload of each message is one element of one unit.
abbrev pub is_single_valued : ServiceConfig → Bool
is_single_valued c = is_fixed_size c.variant && (c.units_per_element == 1)
