use Rattle.std.proofs.Common.{ℕ, ap, inl, subst, ◌∙◌}
use Rattle.iox2_machine.specs.declared.key.Key.{Key}
use Rattle.iox2_c.specs.Steps.{SendsNumbered, Writes}
use Rattle.iox2_c.proofs.calls.sends.send_bytes.Goals as goal

pub returns-in-Ok-clause-sends : goal.returns-in-Ok-clause-sends
returns-in-Ok-clause-sends c = inl (record {
  lent = c.loan_slice_uninit.new.domain;
  written = c.write_from_slice.new.domain;
  lends = c.in-Ok.ensures.lends;
  writes = subst (λ (n : ℕ). Writes c.loan_slice_uninit.new.domain c.write_from_slice.new.domain n c.args.bytes.now)
      c.in-Ok.ensures.loan.lent.number c.write_from_slice.ensures.step;
  sends =
      subst (λ (n : ℕ). SendsNumbered c.write_from_slice.new.domain c.send.new.domain n c.send.result)
      (ap (λ (k : Key). k.message) c.write_from_slice.ensures.becomes.key ∙ c.in-Ok.ensures.loan.lent.number)
      c.send.ensures.sent;
})
