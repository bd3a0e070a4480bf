use Rattle.std.proofs.Common.{sym, ◌∙◌}
use Rattle.std.proofs.lemmas.Slice.Eq.{bytes_eq-Decides}
use Rattle.resp_cli_loop.proofs.ScriptLines.{none_after, none_with}
use Rattle.resp_cli_loop.proofs.ScriptWords.{true_is_not_false}
use Rattle.resp_cli_loop.proofs.script.names_clients.Goals as goal

pub loop-line-preserved : goal.loop-line-preserved
loop-line-preserved c = (
  λ none. none_after c.loop-line.rest.now c.in-Some.line.now c.in-Some.beyond.now c.in-Some.ensures.line (c.loop-line.invariant.0 none),
  λ none. c.loop-line.invariant.1
      (none_with c.loop-line.rest.now c.in-Some.line.now c.in-Some.beyond.now c.in-Some.ensures.line
      (λ e. true_is_not_false (sym ((bytes_eq-Decides _ _).1 (c.first_word.ensures ∙ e ∙ sym c.as_slice.ensures)) ∙ sym c.eq.ensures ∙ c.if-eq.false))
      none),
)
