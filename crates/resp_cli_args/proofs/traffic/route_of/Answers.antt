use Rattle.std.proofs.Common.{sym}
use Rattle.clap.specs.Words.{found_of, rows_of}
use Rattle.resp_cli_args.proofs.AskingLemmas.{no_route}
use Rattle.resp_cli_args.proofs.traffic.route_of.Goals as goal

pub returns-in-Ok-clause-ok : goal.returns-in-Ok-clause-ok
returns-in-Ok-clause-ok c = record {
  live = c.requires;
  listen_text = sym c.in-Some.ensures;
  server_text = c.in-Some-text_of.server.now;
  server_is = sym c.in-Some-text_of.ensures;
  listen = c.in-Ok.ensures.ok.0;
  to = c.in-Ok.ensures.ok.1;
  recorded = c.text_of-in-Ok.ensures;
}

pub returns-in-Err-clause-err : goal.returns-in-Err-clause-err
returns-in-Err-clause-err c =
    let given = rows_of (found_of c.args.matches.now) in
    no_route given c.in-Some.listen.now c.in-Some-text_of.server.now (sym c.in-Some.ensures) (sym c.in-Some-text_of.ensures) c.in-Err.ensures.err
