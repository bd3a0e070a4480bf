use Rattle.std.proofs.Common.{ℕ, ◌≤◌, List, IfNone, subst}
use Rattle.resp_scan.specs.Whole.{BeginsWithHead}
use Rattle.resp_scan.proofs.whole.array_head.Goals as goal

pub returns-clause-none : goal.returns-clause-none
returns-clause-none c =
    subst (λ most. IfNone c.head_with_rest.result ((n : ℕ) (rest : List ℕ) → n ≤ most → BeginsWithHead c.args.text.now 42 n rest → ⊥))
    c.items.ensures.items c.head_with_rest.ensures.none
