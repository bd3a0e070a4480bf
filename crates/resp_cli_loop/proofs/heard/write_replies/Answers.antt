use Rattle.std.proofs.Common.{◌+◌, ◌++◌, inl, inr, ap, arith, subst, sym, ◌∙◌}
use Rattle.resp_print.specs.Shown.{lines_on}
use Rattle.resp_value.specs.Values.{datum_of}
use Rattle.resp_wire.specs.Worlds.{values_in}
use Rattle.resp_print.specs.Headings.{reply_heading}
use Rattle.resp_cli_loop.specs.Printed.{HaveTooDeep, reply_texts}
use Rattle.resp_print.proofs.Printing.{is_that_error, printed_as, printed_more}
use Rattle.resp_cli_loop.proofs.Printing.{prints_on}
use Rattle.resp_cli_loop.proofs.heard.write_replies.Goals as goal

pub returns-in_err-write_reply-clause-prints : goal.returns-in_err-write_reply-clause-prints
returns-in_err-write_reply-clause-prints g c =
    let client = c.args.client in
    let number = c.loop-reply.number in
    rw (is_that_error c.from_residual.result _ c.from_residual.ensures.1) (prints_on c.in_err-write_reply.field-0.0 (reply_texts client c.args.count (values_in c.args.replies.now))
    (reply_heading client (number + 1) ++ lines_on 1 (datum_of c.in-Some.reply.now))
    (reply_texts client (number + 1) (values_in c.in-Some.beyond.now)) _ _ _ _ _ _
    (printed_as (reply_texts client c.args.count (values_in c.args.replies.now)) _ _ _ _ _ _ (ap (λ rs. reply_texts client number (values_in rs)) c.in-Some.ensures.cases.0)
    c.loop-reply.invariant.printed) c.in_err-write_reply.ensures.prints)

pub loop-reply-preserved : goal.loop-reply-preserved
loop-reply-preserved g c =
    let client = c.args.client in
    let number = c.loop-reply.number in
    record {
      printed = printed_more (reply_texts client c.args.count (values_in c.args.replies.now))
          (reply_heading client (number + 1) ++ lines_on 1 (datum_of c.in-Some.reply.now))
          (reply_texts client (number + 1) (values_in c.in-Some.beyond.now)) _ _ _ _ _ _
          (printed_as (reply_texts client c.args.count (values_in c.args.replies.now)) _ _ _ _ _ _ (ap (λ rs. reply_texts client number (values_in rs)) c.in-Some.ensures.cases.0)
          c.loop-reply.invariant.printed) c.in_ok-write_reply.ensures.prints;
      deep = λ deep. c.loop-reply.invariant.deep (subst (λ rs. HaveTooDeep (values_in rs)) (sym c.in-Some.ensures.cases.0) (inr deep));
      counted = omega (arith, c.in-Some.ensures.cases.1, c.loop-reply.invariant.counted);
    }

pub returns-in_err-write_reply-clause-memory : goal.returns-in_err-write_reply-clause-memory
returns-in_err-write_reply-clause-memory g c = λ memory.
    c.loop-reply.invariant.deep (subst (λ rs. HaveTooDeep (values_in rs)) (sym c.in-Some.ensures.cases.0) (inl (c.in_err-write_reply.ensures.memory (sym (is_that_error c.from_residual.result _ c.from_residual.ensures.1) ∙ memory))))
