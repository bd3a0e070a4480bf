use Rattle.std.proofs.Common.{sym, subst, ◌∙◌}
use Rattle.resp_cli_loop.specs.Scripts.{SaysSomething}
use Rattle.resp_print.proofs.Printing.{is_that_error}
use Rattle.resp_cli_loop.proofs.ScriptWords.{no_clients, no_step, says_nothing, where_bad}
use Rattle.resp_cli_loop.proofs.script.steps.said.Goals as goal

pub returns-in_err-words-clause-bad : goal.returns-in_err-words-clause-bad
returns-in_err-words-clause-bad c =
    rw (is_that_error c.from_residual.result _ c.from_residual.ensures.1)
    (where_bad _ (λ reason none. (sym c.is_passed_over.ensures ∙ c.if-is_passed_over.false, says_nothing c.args.clients c.args.line.now none))
    c.in_err-words.field-0.0 c.in_err-words.ensures.bad)

pub returns-in-None-clause-bad : goal.returns-in-None-clause-bad
returns-in-None-clause-bad c = (
  sym c.is_passed_over.ensures ∙ c.if-is_passed_over.false,
  λ says.
      no_clients c.args.line.now c.in_ok-words.words.items c.as_slice.result.now c.as_slice.ensures.value c.in_ok-words.ensures.words
      c.in-None-clients_of.ensures.none (subst (λ z. SaysSomething z c.args.line.now) c.in-None.is says),
)

pub returns-clause-bad : goal.returns-clause-bad
returns-clause-bad c =
    where_bad _ (λ reason none. (
      sym c.is_passed_over.ensures ∙ c.if-is_passed_over.false,
      λ says.
          no_step c.in-Some.clients c.args.line.now c.in_ok-words.words.items c.as_slice-in-Some.result.now c.as_slice-in-Some.ensures.value
          c.in_ok-words.ensures.words none (subst (λ z. SaysSomething z c.args.line.now) c.in-Some.is says),
    ))
    c.in-Err.fault c.in-Err.ensures.bad

pub returns-in_err-words-clause-reason : goal.returns-in_err-words-clause-reason
returns-in_err-words-clause-reason c =
    rw (is_that_error c.from_residual.result _ c.from_residual.ensures.1) (c.in_err-words.ensures.reason c.args.clients)
