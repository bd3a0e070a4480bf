use Rattle.resp_cli_args.proofs.AskingLemmas.{if_none}
use Rattle.resp_cli_args.proofs.CuttingLemmas.{no_cutting}
use Rattle.resp_cli_args.proofs.cutting.cutting_of.Goals as goal

pub returns-in_err-seed_after-clause-none : goal.returns-in_err-seed_after-clause-none
returns-in_err-seed_after-clause-none c =
    if_none _ _ (no_cutting c.args.text.now c.in_default.ensures.none c.in_err-seed_after.ensures.none)
