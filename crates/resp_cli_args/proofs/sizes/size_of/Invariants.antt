use Rattle.std.proofs.Common.{◌≡◌, ◌++◌, List, length}
use Rattle.resp_cli_args.specs.Sizes.{units}
use Rattle.resp_cli_args.proofs.SizeLemmas.{InNone}
use Rattle.resp_cli_args.specs.declared.sizes.Unit.{Unit}
use Rattle.resp_cli_args.proofs.sizes.size_of.Given as goal

abbrev pub invariant-loop-unit : goal.invariant-loop-unit
invariant-loop-unit l = record {
  passed : List Unit;
  whole : units ≡ passed ++ l.rest;
  in_none : InNone passed l.text l.least l.most;
}

abbrev pub decreases-loop-unit : goal.decreases-loop-unit
decreases-loop-unit l = length l.rest
