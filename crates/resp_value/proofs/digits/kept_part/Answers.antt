use Rattle.std.proofs.Common.{inl, sym, ◌∙◌}
use Rattle.resp_value.proofs.KeptDigits.{kept-end}
use Rattle.resp_value.proofs.digits.kept_part.Goals as goal

pub returns-after-loop-rest : goal.returns-after-loop-rest
returns-after-loop-rest c = sym (kept-end c.loop-rest.rest.now c.loop-rest.invariant.0 (inl c.loop-rest-test.false)) ∙ c.loop-rest.invariant.1
