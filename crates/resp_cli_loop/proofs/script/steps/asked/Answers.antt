use Rattle.std.proofs.Common.{sym, ◌∙◌}
use Rattle.std.proofs.lemmas.Slice.Eq.{bytes_eq-Decides}
use Rattle.resp_cli_loop.proofs.ScriptWords.{one_word}
use Rattle.resp_cli_loop.proofs.script.steps.asked.Goals as goal

pub returns-then-eq-clause-asked : goal.returns-then-eq-clause-asked
returns-then-eq-clause-asked c =
    one_word c.args.words.now _ _ c.in-len1.len_at_least c.in-len1.len_below
    ((bytes_eq-Decides _ _).0 (sym c.eq.ensures ∙ c.if-eq.true) ∙ c.as_slice.ensures)

pub returns-then-eq-2-clause-asked : goal.returns-then-eq-2-clause-asked
returns-then-eq-2-clause-asked c =
    one_word c.args.words.now _ _ c.in-len1.len_at_least c.in-len1.len_below
    ((bytes_eq-Decides _ _).0 (sym c.eq-else-eq.ensures ∙ c.if-eq-2.true) ∙ c.as_slice-else-eq.ensures)
