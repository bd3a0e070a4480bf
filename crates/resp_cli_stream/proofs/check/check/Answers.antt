use Rattle.std.proofs.Common.{◌≡◌, [], Err, refl, sym, ap, subst, ◌∙◌}
use Rattle.resp_value.specs.Rules.{rules_under}
use Rattle.resp_cli_stream.specs.Counts.{IsAny, LeavesNothing, no_text}
use Rattle.resp_cli_stream.specs.Streams.{RendersStopped}
use Rattle.resp_cli_args.specs.declared.tool_error.ToolError.TheVariants.{Write}
use Rattle.resp_cli_stream.proofs.Counted.{counts_all, counts_part, counts_stopped}
use Rattle.resp_cli_stream.proofs.Outcomes.{is_that_error}
use Rattle.resp_cli_stream.proofs.Scanned.{scanned_nothing}
use Rattle.resp_cli_stream.proofs.check.check.Goals as goal

pub render_stream-requires-clause-nothing_taken : goal.render_stream-requires-clause-nothing_taken
render_stream-requires-clause-nothing_taken g c = (([], scanned_nothing c.new.result c.new.ensures.nothing_read), refl)

pub returns-in_err-totals-clause-counted : goal.returns-in_err-totals-clause-counted
returns-in_err-totals-clause-counted g c =
    let r = rules_under c.args.version c.args.limits.now in
    let before = g.W.Sink.written c.args.writer.now in
    let after = g.W.Sink.written c.render_stream.new.writer in
    let error = c.in_err-totals.field-0.0 in
    let (bytes, read, rendered) = c.in_err-totals.ensures.rendered in (
      bytes,
      read,
      rw (is_that_error c.from_residual.result error c.from_residual.ensures.1)
          (counts_stopped r bytes before after error (λ wrote. c.in_err-totals.ensures.writes (ap Err wrote))
          (subst (λ r. RendersStopped r no_text IsAny LeavesNothing LeavesNothing bytes before after error) c.new.ensures.rules rendered)),
    )

pub returns-clause-counted : goal.returns-clause-counted
returns-clause-counted g c =
    let (bytes, read, rendered) = c.in_ok-totals.ensures.rendered in
    (bytes, read, counts_all _ c.new.ensures.rules rendered c.in_ok-write_counts.ensures.0)

pub returns-in_err-write_counts-clause-counted : goal.returns-in_err-write_counts-clause-counted
returns-in_err-write_counts-clause-counted g c =
    let (bytes, read, rendered) = c.in_ok-totals.ensures.rendered in (
      bytes,
      read,
      rw (is_that_error c.from_residual-in_err-write_counts.result Write c.from_residual-in_err-write_counts.ensures.1)
          (counts_part c.new.ensures.rules rendered c.in_err-write_counts.ensures.0),
    )

pub returns-in_err-totals-clause-read_before_written : goal.returns-in_err-totals-clause-read_before_written
returns-in_err-totals-clause-read_before_written g c is_write =
    let same : c.in_err-totals.field-0.0 ≡ Write =
    cc (sym (is_that_error c.from_residual.result _ c.from_residual.ensures.1) ∙ is_write) in
    absurd (c.in_err-totals.ensures.writes (ap Err same))

pub returns-in_err-write_counts-clause-read_before_written : goal.returns-in_err-write_counts-clause-read_before_written
returns-in_err-write_counts-clause-read_before_written g c is_write = c.in_ok-totals.ensures.read_to_its_end
