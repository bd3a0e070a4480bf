use Rattle.std.proofs.Common.{◌∙◌, ap, refl, subst}
use Rattle.clap.specs.Words.{found_of, rows_of}
use Rattle.resp_cli_args.specs.CommandWords.{is_on}
use Rattle.resp_cli_args.specs.Names.{AreNamesIfGiven}
use Rattle.resp_cli_args.proofs.AskingLemmas.{no_proxy_addresses}
use Rattle.resp_cli_args.proofs.proxying.proxying_of.Goals as goal
use Rattle.resp_cli_args.proofs.proxying.proxying_of.Goals.{else-all-via-then-all+else-not-checks, else-all-via-else-all}

pub returns-in_default-clause-err : goal.returns-in_default-clause-err
returns-in_default-clause-err c = λ proxying has. c.in_default.ensures.none _ _ _ has.has

pub returns-in-Ok-clause-ok : goal.returns-in-Ok-clause-ok
returns-in-Ok-clause-ok c = record {
  server_text = c.in-Some.words.server.now;
  has = c.in-Some.ensures.some;
  listen = c.in-Ok.ensures.ok.0;
  to = c.in-Ok.ensures.ok.1;
  also = c.text_of-also.ensures;
  are_names = subst AreNamesIfGiven c.text_of-also.ensures (c.if-not-are_names_if_given.ensures.0 refl);
  learns = c.is_on.ensures ∙ ap is_on c.text_of-in-Ok.ensures;
  checks = c.is_on-checks.ensures ∙ ap is_on c.text_of.ensures;
  all = c.is_on-all.ensures ∙ ap is_on c.text_of-2.ensures;
  all_of_check = λ on. elim c.else-all.branch [
    | else-all-via-then-all+else-not-checks w ↦ let off = w.if-not-checks.false in cc
    | else-all-via-else-all w ↦ let off = w.if-all.false in cc
  ];
}

pub returns-in-Err-clause-err : goal.returns-in-Err-clause-err
returns-in-Err-clause-err c =
    let given = rows_of (found_of c.args.matches.now) in
    no_proxy_addresses given _ _ c.in-Some.ensures.some.listen_text c.in-Some.ensures.some.server_text c.in-Err.ensures.err
