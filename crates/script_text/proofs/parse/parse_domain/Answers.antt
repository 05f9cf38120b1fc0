use Rattle.std.proofs.Common.{rules}
use Rattle.script_text.specs.Commands.{script_config}
use Rattle.script_text.proofs.parse.parse_domain.Goals as goal

pub returns-clause-reads : goal.returns-clause-reads
returns-clause-reads c = record {
  channels = c.in_ok-parse_channels.field-0;
  says = search rules;
  variant = c.in_ok-parse_kind.field-0;
  kind = search rules;
  publishers = search rules;
  subscribers = search rules;
  buffer = search rules;
  borrowed = search rules;
  history = search rules;
  expired = search rules;
  overflow = c.in_ok-parse_mode.field-0;
  mode = search rules;
  settings = rw c.new.ensures (λ k. script_config c.in_ok-parse_kind.field-0 (c.in_ok-parse_size.ensures.value k)
      (c.in_ok-parse_size-2.ensures.value k) (c.in_ok-parse_size-3.ensures.value k)
      (c.in_ok-parse_size-4.ensures.value k) (c.in_ok-parse_size-5.ensures.value k)
      (c.in_ok-parse_size-6.ensures.value k) c.in_ok-parse_channels.field-0 c.in_ok-parse_mode.field-0);
}

pub returns-in_err-parse_channels-clause-refuses : goal.returns-in_err-parse_channels-clause-refuses
returns-in_err-parse_channels-clause-refuses c =
    rw c.from_residual-in_err-parse_channels.ensures
    (λ config names. c.in_err-parse_channels.ensures.refuses names.channels names.says)
