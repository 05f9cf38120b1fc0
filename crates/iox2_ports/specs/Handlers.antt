-- The handlers that a factory gives to a new port.
use Rattle.std.specs.Prelude.{◌<◌, ◌||◌, Bool, IsTrue, length}
use Rattle.std.specs.Option.{is_some}
use Rattle.std.specs.declared.option.Option.{Option}
use Rattle.std.specs.declared.option.Option.TheVariants.{None, Some}
use Rattle.iox2_machine.specs.declared.backpressure_handler.BackpressureHandler.{BackpressureHandler}
use Rattle.iox2_machine.specs.declared.backpressure_handler.BackpressureHandler.TheVariants.{Fixed, Custom}
use Rattle.iox2_domain.specs.Boxes.{KeptBoxes}
use Rattle.iox2_domain.specs.declared.boxes.PortBoxes.{PortBoxes}

-- The box of the handler, where it is one.
abbrev pub custom_box : {F : Type 0} → Option (BackpressureHandler F) → Option F
custom_box None = None
custom_box (Some (Fixed action)) = None
custom_box (Some (Custom function)) = Some function

module _ {F G : Type 0} where
  -- There is any box.
  abbrev pub has_box : PortBoxes F G → Bool
  has_box boxes = is_some boxes.backpressure || is_some boxes.degradation

  -- Where there is any box, there is room for one port's more.
  abbrev pub HasRoomForBoxes : PortBoxes F G → KeptBoxes F G → Type 0
  HasRoomForBoxes boxes kept = IsTrue (has_box boxes) → length kept.boxes < kept.room
