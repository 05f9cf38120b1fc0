-- What the machine can't decide, if no port has a boxed handler.
use Rattle.iox2_machine.specs.machine.Records.{Environment}

-- No port has a boxed handler, and memory may be refused.
abbrev pub fixed_handlers : Environment
fixed_handlers = record {
  may_refuse_memory = Unit {0};
  backpressure_answers = λ port info action. ⊥;
  degradation_answers = λ port cause info action. ⊥;
}

-- No port has a boxed handler, and memory is never refused.
abbrev pub ample_memory : Environment
ample_memory = record {
  may_refuse_memory = ⊥;
  backpressure_answers = λ port info action. ⊥;
  degradation_answers = λ port cause info action. ⊥;
}
