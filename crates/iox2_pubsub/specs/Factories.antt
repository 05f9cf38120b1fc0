-- What a factory was told.
use Rattle.std.specs.Prelude.{ℕ, ◌≡◌, ◌≤◌, IsTrue}
use Rattle.std.specs.Bool.{MatchBool}
use Rattle.std.specs.declared.option.Option.{Option}
use Rattle.std.specs.declared.option.Option.TheVariants.{None, Some}
use Rattle.iox2_machine.specs.machine.Records.{Handler, PublisherSettings, SubscriberSettings}
use Rattle.iox2_machine.specs.machine.Records as machine
use Rattle.iox2_machine.specs.declared.degradation.DegradationAction.{DegradationAction}
use Rattle.iox2_machine.specs.declared.degradation_handler.DegradationHandler.{DegradationHandler}
use Rattle.iox2_machine.specs.declared.degradation_handler.DegradationHandler.TheVariants as degradation
use Rattle.iox2_machine.specs.declared.backpressure_handler.BackpressureHandler.{BackpressureHandler}
use Rattle.iox2_machine.specs.machine.Limits.{fits}
use Rattle.iox2_connections.specs.Handlers.{mark_of}
use Rattle.iox2_ports.specs.Handlers.{custom_box}
use Rattle.iox2_pubsub.specs.declared.port_factory.preallocation.PreallocatedSamplesOverride.{PreallocatedSamplesOverride}

-- The settings of the publishers that it makes, the box that answers full buffers for them, and the one that answers
-- refused connections, if there are such; and what says how many slots they have. Of that the settings say nothing yet:
-- it is asked when a publisher is made.
pub record PublisherFactory (F G O : Type 0) : Type 0 where
  pub settings : PublisherSettings
  pub box : Option F
  pub degradation_box : Option G
  pub preallocated : O

-- What the factory asks how many slots a publisher is to have.
abbrev pub callback_of : {F G P : Type 0} → PublisherFactory F G (PreallocatedSamplesOverride P) → P
callback_of factory = factory.preallocated.callback

-- The factory, told to ask this.
abbrev pub with_callback : {F G O P : Type 0} → PublisherFactory F G O → P
    → PublisherFactory F G (PreallocatedSamplesOverride P)
with_callback factory callback = record {
  settings = factory.settings;
  box = factory.box;
  degradation_box = factory.degradation_box;
  preallocated = record { callback = callback };
}

-- The settings that a publisher is made with, once that number of slots was asked for, or none.
abbrev pub with_slots : PublisherSettings → Option ℕ → PublisherSettings
with_slots settings asked = record settings { asked_slots = asked }

-- What is asked for, by an override that may answer so: it is given the worst case. If that doesn't fit a machine word
-- it isn't asked, and no publisher is made.
abbrev pub AsksForSlots : (answers : ℕ → ℕ → Type 0) → (worst : ℕ) → Option ℕ → Type 0
AsksForSlots answers worst asked =
    MatchBool (fits worst) ((slots : ℕ) × answers worst slots × (asked ≡ Some slots)) (asked ≡ None)

-- An override that may answer so never asks for fewer slots than the worst case.
abbrev pub AsksForAll : (answers : ℕ → ℕ → Type 0) → (worst : ℕ) → Type 0
AsksForAll answers worst = IsTrue (fits worst) → (slots : ℕ) → answers worst slots → worst ≤ slots

-- The settings of the subscribers that it makes, and the box that answers refused connections for them, if there is
-- one.
pub record SubscriberFactory (G : Type 0) : Type 0 where
  pub settings : SubscriberSettings
  pub box : Option G

module _ {G : Type 0} where
  -- What answers if a connection can't be made, as the machine knows it.
  abbrev pub answer_of : DegradationHandler G → Handler DegradationAction
  answer_of (degradation.Fixed action) = machine.Fixed action
  answer_of (degradation.Custom function) = machine.Custom

  -- The box of the handler, if it is one.
  abbrev pub degrading_box : DegradationHandler G → Option G
  degrading_box (degradation.Fixed action) = None
  degrading_box (degradation.Custom function) = Some function

  -- The factory of subscribers, told of this handler of refused connections.
  abbrev pub receiver_with_degradation : SubscriberFactory G → DegradationHandler G → SubscriberFactory G
  receiver_with_degradation factory handler = record {
    settings = record (factory.settings) { degradation_handler = answer_of handler };
    box = degrading_box handler;
  }

module _ {F G O : Type 0} where
  -- The factory, told of this handler of full buffers.
  abbrev pub with_handler : PublisherFactory F G O → BackpressureHandler F → PublisherFactory F G O
  with_handler factory handler = record factory {
    settings = record (factory.settings) { backpressure_handler = Some (mark_of handler) };
    box = custom_box (Some handler);
  }

  -- The factory, told of this handler of refused connections.
  abbrev pub with_degradation : PublisherFactory F G O → DegradationHandler G → PublisherFactory F G O
  with_degradation factory handler = record factory {
    settings = record (factory.settings) { degradation_handler = answer_of handler };
    degradation_box = degrading_box handler;
  }
