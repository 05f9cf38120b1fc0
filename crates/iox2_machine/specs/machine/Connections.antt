-- What both ports' updates share: a walk over the other side's places, and what is returned if memory for a connection
-- is refused.
use Rattle.std.specs.Prelude.{ℕ, List, [], ◌∷◌, ◌≡◌, ◌+◌}
use Rattle.std.specs.declared.option.Option.{Option}
use Rattle.std.specs.declared.option.Option.TheVariants.{None, Some}
use Rattle.iox2_machine.specs.machine.Records.{Handler, Fixed, Custom, Environment}
use Rattle.iox2_machine.specs.machine.State.{Warnings, warned, refusal_counted}
use Rattle.iox2_machine.specs.declared.degradation.DegradationAction.{DegradationAction}
use Rattle.iox2_machine.specs.declared.degradation.DegradationAction.TheVariants.{Ignore, Warn, DegradeAndFail}
use Rattle.iox2_machine.specs.declared.degradation.DegradationCause.TheVariants.{FailedToEstablishConnection as NotEstablished}
use Rattle.iox2_machine.specs.declared.degradation.DegradationInfo.{DegradationInfo}
use Rattle.iox2_machine.specs.declared.errors.ConnectionFailure.{ConnectionFailure}
use Rattle.iox2_machine.specs.declared.errors.ConnectionFailure.TheVariants.{FailedToEstablishConnection}
use Rattle.iox2_machine.specs.declared.errors.ZeroCopyCreationError.TheVariants.{OutOfMemory}
use Rattle.iox2_machine.specs.declared.errors.ZeroCopyCreationError.TheVariants.{ExpiredConnectionBufferFull}
use Rattle.iox2_machine.specs.declared.warning.Warning.TheVariants.{ConnectionNotMade}

-- The failure that came first.
abbrev pub first_failure : Option ConnectionFailure → Option ConnectionFailure → Option ConnectionFailure
first_failure None later = later
first_failure (Some failure) later = Some failure

-- A port does the same at each of these places in turn, which begin at that place; the first failure is returned.
abbrev pub ForEachPlace : {Side : Type 0} → ((place : ℕ) → (at : Option ℕ) → Side → Side → Option ConnectionFailure
    → Type 0) → (place : ℕ) → List (Option ℕ) → Side → Side → Option ConnectionFailure → Type 0
ForEachPlace AtPlace place [] side side' failure = (side' ≡ side) × (failure ≡ None)
ForEachPlace {Side} AtPlace place (at ∷ rest) side side' failure =
    (mid : Side) × (first : Option ConnectionFailure) × (later : Option ConnectionFailure)
    × AtPlace place at side mid first
    × ForEachPlace AtPlace (place + 1) rest mid side' later
    × (failure ≡ first_failure first later)

-- ---- memory for a connection is refused

-- The degradation handler of the port may answer so.
abbrev pub DegradationAnswers : Environment → (port : ℕ) → Handler DegradationAction → DegradationInfo
    → DegradationAction → Type 0
DegradationAnswers environment port (Fixed answer) info action = action ≡ answer
DegradationAnswers environment port Custom info action = environment.degradation_answers port NotEstablished info action

-- The update fails only if the handler says so.
abbrev pub failure_of : DegradationAction → Option ConnectionFailure
failure_of Ignore = None
failure_of Warn = None
failure_of DegradeAndFail = Some (FailedToEstablishConnection OutOfMemory)

-- The refused connection is counted, whatever the handler's answer, which may add a warning: that names the publisher p
-- as sender and the subscriber q as receiver.
abbrev pub warnings_after : (p q : ℕ) → DegradationAction → Warnings → Warnings
warnings_after p q Ignore warnings = refusal_counted warnings
warnings_after p q Warn warnings = warned (refusal_counted warnings) (ConnectionNotMade p q)
warnings_after p q DegradeAndFail warnings = refusal_counted warnings

-- Memory for the connection of p and q is refused to a port, which asks its degradation handler.
-- (iceoryx2: `port/details/sender.rs` and `port/details/receiver.rs`, `update_connection`.)
abbrev pub ConnectionRefused : Environment → (service_id p q port : ℕ) → Handler DegradationAction → Warnings → Warnings
    → Option ConnectionFailure → Type 0
ConnectionRefused environment service_id p q port handler warnings warnings' failure =
    (action : DegradationAction)
    × environment.may_refuse_memory
    × DegradationAnswers environment port handler
    (record { service_id = service_id; sender_port_id = p; receiver_port_id = q }) action
    × (warnings' ≡ warnings_after p q action warnings)
    × (failure ≡ failure_of action)

-- A departed publisher couldn't be kept among the expired ones.
abbrev pub expired_buffer_full : ConnectionFailure
expired_buffer_full = FailedToEstablishConnection ExpiredConnectionBufferFull
