use Rattle.std.proofs.Common.{sym, ◌∙◌}
use Rattle.std.proofs.lemmas.Slice.Eq.{bytes_eq-Decides}
use Rattle.resp_cli_loop.proofs.ScriptWords.{two_words}
use Rattle.resp_cli_loop.proofs.script.steps.clients_of.Goals as goal

pub returns-in-Some-clause-clients : goal.returns-in-Some-clause-clients
returns-in-Some-clause-clients c =
    let number = c.in-Some.ensures.number in (
      two_words c.args.words.now _ _ _ c.in-len2.len_at_least c.in-len2.len_below
          ((bytes_eq-Decides _ _).0 (sym c.eq.ensures ∙ c.if-eq.true) ∙ c.as_slice.ensures) number.0,
      number.1,
      number.2,
    )
