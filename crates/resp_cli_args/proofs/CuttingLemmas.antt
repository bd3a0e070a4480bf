-- Texts that say no cuts.
use Rattle.std.proofs.Common.{◌≤◌, ℕ, codes}
use Rattle.clap.specs.Words.{Text}
use Rattle.resp_cli_args.specs.Cuttings.{HasSeed, IsCutting}
use Rattle.resp_cli_args.specs.Units.{HasUnit}
use Rattle.resp_cli_args.specs.declared.cutting.Cutting.{Cutting}
use Rattle.resp_cli_args.specs.declared.cutting.Cutting.TheVariants.{Every, Random}

-- a text that is neither a number in range nor `random:` and a seed
pub no_cutting : (text : Text) → ((size : ℕ) → HasUnit (codes "") 1 text size → 1 ≤ size → size ≤ 65536 → ⊥) →
    ((seed : ℕ) → HasSeed (codes "random:") text seed → ⊥) → (cutting : Cutting) → IsCutting text cutting → ⊥
no_cutting text number seed (Every size) (has, low, high) = number size has low high
no_cutting text number seed (Random given) has = seed given has
