-- What a domain is to clauses, and what its settings and keys are.
pub use Rattle.iox2_domain.specs.Kept.{Kept}
pub use Rattle.iox2_machine.specs.declared.key.Key.{Key}
pub use Rattle.iox2_machine.specs.declared.service_config.ServiceConfig.{ServiceConfig}
pub use Rattle.iox2_machine.specs.declared.service_config.TypeVariant.TheVariants.{Dynamic, FixedSize}
