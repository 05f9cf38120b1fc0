-- What C's box ends as, where a `&mut` to its domain is returned.
use Rattle.std.specs.Prelude.{Option, Some}
use Rattle.std.specs.Borrow.{Fml, LendsIf, MutBor}
use Rattle.iox2_c.specs.Serving.{Serving}
use Rattle.iox2_c.specs.contracts.domain_box.DomainBox as domain_box
use Rattle.iox2_c.specs.contracts.service.Service as service
use Rattle.iox2_c.specs.declared.domain_box.DomainBox.{DomainBox}

-- The box with this domain.
abbrev pub with_service : DomainBox → Serving → DomainBox
with_service box it = record box { service = Some it }

-- Once the borrow ends, the box has the domain that was last written through it. Where there is none the box stays as
-- it is.
abbrev pub LendsService : MutBor DomainBox → Option (MutBor Serving) → Fml
LendsService box lent = LendsIf domain_box.the_row service.the_row box lent (with_service box.now) box.now
