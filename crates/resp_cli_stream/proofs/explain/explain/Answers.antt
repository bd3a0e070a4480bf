use Rattle.std.proofs.Common.{◌≡◌, ℕ, List, OnOk, Option, Result, sym, subst}
use Rattle.resp_cli_args.specs.declared.tool_error.ToolError.{ToolError}
use Rattle.resp_cli_args.specs.declared.tool_error.ToolError.TheVariants.{Refused}
use Rattle.resp_value.specs.declared.cause.Cause.{Cause}
use Rattle.resp_value.specs.declared.cause.Cause.TheVariants as cause
use Rattle.resp_value.specs.Rules.{Rules, rules_under}
use Rattle.resp_cli_stream.specs.Explained.{Explains, ExplainsAt, IsRefusedBy, held_bytes, rules_watched}
use Rattle.resp_cli_stream.proofs.explain.explain.Goals as goal

-- a refused byte is explained at its place
at_its_place : {X E : Type 0} (result : Result X E) (r options : Rules) (held : ℕ) (bytes : List ℕ) (said said' : Option (List ℕ))
    (value : ℕ) (c : Cause) (at : ℕ) (error : ToolError) → error ≡ Refused value c at →
    OnOk result (ExplainsAt r options held bytes value at said said' error) → OnOk result (Explains r options held bytes said said' error)
at_its_place result r options held bytes said said' value c at error is explained =
    subst (λ e. OnOk result (Explains r options held bytes said said' e)) (sym is)
    (subst (λ e. OnOk result (ExplainsAt r options held bytes value at said said' e)) is explained)

pub returns-in-Refused-clause-explains : goal.returns-in-Refused-clause-explains
returns-in-Refused-clause-explains g c = λ bytes h.
    let s = c.settle_at_end.ensures in
    let explained = c.explain_at.ensures.explains bytes (s.watched bytes h)
    (λ truncated. s.scanned (subst (IsRefusedBy cause.Truncated) c.in-Refused.is truncated)) in
    at_its_place c.explain_at.result (rules_watched c.args.watched.now) (rules_under c.args.options.now.version c.args.options.now.limits)
    (held_bytes c.args.watched.now) bytes (g.F.Sink.written c.args.faults.now) (g.F.Sink.written c.explain_at.new.faults) c.in-Refused.value
    c.in-Refused.cause c.in-Refused.at c.args.error.now c.in-Refused.is (rw (s.same_rules, s.same_size) at explained)
