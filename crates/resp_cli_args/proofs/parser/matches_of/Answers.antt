use Rattle.resp_cli_args.proofs.AskingLemmas.{finds_as_program, finds_without_memory}
use Rattle.resp_cli_args.proofs.parser.matches_of.Goals as goal

pub returns : goal.returns
returns g c = record {
  finds = finds_as_program _ _ _ _ c.subcommands.ensures c.in_ok-program.ensures c.try_get_matches_from.ensures.kinds
      c.try_get_matches_from.ensures.matches;
}

pub returns-in_err-program : goal.returns-in_err-program
returns-in_err-program g c = record {
  finds = finds_without_memory _ _ _ c.subcommands.ensures c.from_residual.ensures.1;
}
