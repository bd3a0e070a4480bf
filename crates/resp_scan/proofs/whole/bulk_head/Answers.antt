use Rattle.std.proofs.Common.{ℕ, ◌≤◌, List, IfNone, subst}
use Rattle.resp_scan.specs.Whole.{BeginsWithHead}
use Rattle.resp_scan.proofs.whole.bulk_head.Goals as goal

pub returns-clause-none : goal.returns-clause-none
returns-clause-none c =
    subst (λ most. IfNone c.head_with_rest.result ((n : ℕ) (rest : List ℕ) → n ≤ most → BeginsWithHead c.args.text.now 36 n rest → ⊥))
    c.length.ensures.length c.head_with_rest.ensures.none
