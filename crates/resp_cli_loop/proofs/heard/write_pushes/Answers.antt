use Rattle.std.proofs.Common.{◌++◌, inl, inr, ap, subst, sym, ◌∙◌}
use Rattle.resp_print.specs.Shown.{lines_on}
use Rattle.resp_value.specs.Values.{datum_of}
use Rattle.resp_value.specs.declared.value.Value.TheVariants as value
use Rattle.resp_wire.specs.Worlds.{pushes_with}
use Rattle.resp_print.specs.Headings.{push_heading}
use Rattle.resp_cli_loop.specs.Printed.{HaveTooDeep, push_texts}
use Rattle.resp_print.proofs.Printing.{is_that_error, printed_as, printed_more}
use Rattle.resp_cli_loop.proofs.Printing.{prints_on}
use Rattle.resp_cli_loop.proofs.heard.write_pushes.Goals as goal

pub returns-in_err-write_push-clause-prints : goal.returns-in_err-write_push-clause-prints
returns-in_err-write_push-clause-prints g c =
    let client = c.args.client in
    rw (is_that_error c.from_residual.result _ c.from_residual.ensures.1) (prints_on c.in_err-write_push.field-0.0 (push_texts client (pushes_with c.args.pushes.now))
    (push_heading client ++ lines_on 1 (datum_of (value.Push c.in-Some.push.now))) (push_texts client (pushes_with c.in-Some.beyond.now)) _ _ _ _ _ _
    (printed_as (push_texts client (pushes_with c.args.pushes.now)) _ _ _ _ _ _ (ap (λ ps. push_texts client (pushes_with ps)) c.in-Some.ensures.cases.0)
    c.loop-push.invariant.printed) c.in_err-write_push.ensures.prints)

pub loop-push-preserved : goal.loop-push-preserved
loop-push-preserved g c =
    let client = c.args.client in
    record {
      printed = printed_more (push_texts client (pushes_with c.args.pushes.now))
          (push_heading client ++ lines_on 1 (datum_of (value.Push c.in-Some.push.now))) (push_texts client (pushes_with c.in-Some.beyond.now)) _ _ _ _ _ _
          (printed_as (push_texts client (pushes_with c.args.pushes.now)) _ _ _ _ _ _ (ap (λ ps. push_texts client (pushes_with ps)) c.in-Some.ensures.cases.0)
          c.loop-push.invariant.printed) c.in_ok-write_push.ensures.prints;
      deep = λ deep. c.loop-push.invariant.deep (subst (λ ps. HaveTooDeep (pushes_with ps)) (sym c.in-Some.ensures.cases.0) (inr deep));
    }

pub returns-in_err-write_push-clause-memory : goal.returns-in_err-write_push-clause-memory
returns-in_err-write_push-clause-memory g c = λ memory.
    c.loop-push.invariant.deep (subst (λ ps. HaveTooDeep (pushes_with ps)) (sym c.in-Some.ensures.cases.0) (inl (c.in_err-write_push.ensures.memory (sym (is_that_error c.from_residual.result _ c.from_residual.ensures.1) ∙ memory))))
