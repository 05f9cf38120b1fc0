-- The boxes that ports have for handlers.
use Rattle.std.specs.Prelude.{◌≡◌, ℕ, Bool, ◌==◌, List}
use Rattle.std.specs.List.{find}
use Rattle.std.specs.declared.option.Option.{Option}
use Rattle.std.specs.declared.option.Option.TheVariants.{None, Some}
use Rattle.std.specs.Option.{option_map, option_and_then}
use Rattle.iox2_machine.specs.machine.Records.{Environment}
use Rattle.iox2_machine.specs.declared.backpressure.BackpressureAction.{BackpressureAction}
use Rattle.iox2_machine.specs.declared.backpressure.BackpressureAction.TheVariants.{FollowBackpressureyStrategy}
use Rattle.iox2_machine.specs.declared.backpressure.BackpressureInfo.{BackpressureInfo}
use Rattle.iox2_machine.specs.declared.degradation.DegradationAction.{DegradationAction}
use Rattle.iox2_machine.specs.declared.degradation.DegradationAction.TheVariants.{Warn}
use Rattle.iox2_machine.specs.declared.degradation.DegradationCause.{DegradationCause}
use Rattle.iox2_machine.specs.declared.degradation.DegradationInfo.{DegradationInfo}
use Rattle.iox2_domain.specs.declared.boxes.PortBox.{PortBox}
use Rattle.iox2_domain.specs.declared.boxes.PortBoxes.{PortBoxes}

-- The boxes that are kept, and for how many ports' there is room.
pub record KeptBoxes (F G : Type 0) : Type 0 where
  pub boxes : List (PortBox F G)
  pub room : ℕ

-- The boxes of a domain's publishers, and of its subscribers, each in no order that means anything.
pub record DomainBoxes (F G : Type 0) : Type 0 where
  pub publishers : List (PortBox F G)
  pub subscribers : List (PortBox F G)

module _ {F G : Type 0} where
  -- The boxes are those of the port with this id.
  abbrev pub is_of : ℕ → PortBox F G → Bool
  is_of id x = x.id == id

  -- The boxes of the port with an id, if it has any.
  abbrev pub boxes_of : ℕ → List (PortBox F G) → Option (PortBoxes F G)
  boxes_of id boxes = option_map (λ (x : PortBox F G). x.boxes) (find (is_of id) boxes)

  -- The box of the port with an id for full buffers, if it has one.
  abbrev pub box_of : ℕ → List (PortBox F G) → Option F
  box_of id boxes = option_and_then (λ (x : PortBoxes F G). x.backpressure) (boxes_of id boxes)

  -- The box of the port with an id for connections that are refused, if it has one.
  abbrev pub degradation_box_of : ℕ → List (PortBox F G) → Option G
  degradation_box_of id boxes = option_and_then (λ (x : PortBoxes F G). x.degradation) (boxes_of id boxes)

-- What the box of a publisher may answer at a full buffer; where there is none the strategy is followed.
abbrev pub BoxAnswers : {F : Type 0} → (F → BackpressureInfo → BackpressureAction → Type 0) → Option F
    → BackpressureInfo → BackpressureAction → Type 0
BoxAnswers allows None info action = action ≡ FollowBackpressureyStrategy
BoxAnswers allows (Some f) info action = allows f info action

-- What the box of a port may answer where it can't make a connection; where there is none it is warned.
abbrev pub BoxDegrades : {G : Type 0} → (G → DegradationCause → DegradationInfo → DegradationAction → Type 0) → Option G
    → DegradationCause → DegradationInfo → DegradationAction → Type 0
BoxDegrades degrades None cause info action = action ≡ Warn
BoxDegrades degrades (Some g) cause info action = degrades g cause info action

-- The ports of one side have these boxes, and memory may be refused.
abbrev pub answers_of : {F G : Type 0} → (F → BackpressureInfo → BackpressureAction → Type 0)
    → (G → DegradationCause → DegradationInfo → DegradationAction → Type 0) → List (PortBox F G) → Environment
answers_of allows degrades boxes = record {
  may_refuse_memory = Unit {0};
  backpressure_answers = λ port info action. BoxAnswers allows (box_of port boxes) info action;
  degradation_answers =
      λ port cause info action. BoxDegrades degrades (degradation_box_of port boxes) cause info action;
}
