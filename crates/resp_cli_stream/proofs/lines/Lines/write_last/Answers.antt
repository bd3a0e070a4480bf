use Rattle.std.proofs.Common.{◌-◌, ◌++◌, codes, decimal, reverse, sym, ap, ◌∙◌}
use Rattle.resp_print.specs.Shown.{indentation}
use Rattle.resp_cli_stream.proofs.PageLemmas.{both_written, first_fails, writes_last_line}
use Rattle.resp_cli_stream.proofs.lines.Lines.write_last.Goals as goal

pub returns-in_err-write_indentation : goal.returns-in_err-write_indentation
returns-in_err-write_indentation g c =
    first_fails c.from_residual.result _ _ _ _ (indentation c.saturating_sub-level.result) _ _ c.from_residual.ensures.0
    (writes_last_line (reverse c.args.self.now.aggregates.items) c.in-Some.line c.saturating_sub-level.result (sym c.innermost.ensures ∙ c.in-Some.is)
    (c.saturating_sub-level.ensures ∙ ap (λ n. n - 1) c.level.ensures.value)) c.in_err-write_indentation.ensures

pub returns : goal.returns
returns g c =
    both_written c.write_number.result _ _ _ _ _ _ (indentation c.saturating_sub-level.result) (codes "end " ++ decimal c.items.result ++ codes "\n") _
    (ap (λ m. indentation c.saturating_sub-level.result ++ (codes "end " ++ decimal m ++ codes "\n")) c.items.ensures ∙
    writes_last_line (reverse c.args.self.now.aggregates.items) c.in-Some.line c.saturating_sub-level.result (sym c.innermost.ensures ∙ c.in-Some.is)
    (c.saturating_sub-level.ensures ∙ ap (λ n. n - 1) c.level.ensures.value)) c.in_ok-write_indentation.ensures c.write_number.ensures
