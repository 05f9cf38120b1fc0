-- The settings of a publisher that is made.
use Rattle.std.specs.declared.option.Option.{Option}
use Rattle.iox2_machine.specs.machine.Records.{PublisherSettings, Handler}
use Rattle.iox2_machine.specs.declared.backpressure.BackpressureAction.{BackpressureAction}
use Rattle.iox2_domain.specs.declared.options.PublisherOptions.{PublisherOptions}
use Rattle.iox2_domain.specs.NewPublisher.{growing_publisher}
use Rattle.iox2_ports.specs.declared.segments.SegmentOptions.{SegmentOptions}

-- The settings of a publisher with these options and this handler of full buffers, whose slots are allocated so.
abbrev pub settings_with : PublisherOptions → Option (Handler BackpressureAction) → SegmentOptions → PublisherSettings
settings_with given handler segments =
    record (growing_publisher given handler segments.allocation) { asked_slots = segments.asked_slots }
