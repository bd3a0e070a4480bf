use Rattle.std.proofs.Common.{List, ℕ, subst, sym}
use Rattle.std.specs.Prelude.{IfNone}
use Rattle.resp_line.specs.Lines.{ReadsByte}
use Rattle.resp_line.proofs.line.quoted_byte.Goals as goal

pub returns-in-Double-clause-none : goal.returns-in-Double-clause-none
returns-in-Double-clause-none c =
    subst (λ q. IfNone c.double_byte.result ((byte : ℕ) (rest : List ℕ) → ReadsByte q byte c.args.text.now rest → ⊥)) (sym c.in-Double.is)
    c.double_byte.ensures.none

pub returns-in-Single-clause-none : goal.returns-in-Single-clause-none
returns-in-Single-clause-none c =
    subst (λ q. IfNone c.single_byte.result ((byte : ℕ) (rest : List ℕ) → ReadsByte q byte c.args.text.now rest → ⊥)) (sym c.in-Single.is)
    c.single_byte.ensures.none
