-- The lists of the lines, after that of one line has changed.
use Rattle.std.proofs.Common.{◌≡◌, ◌≢◌, ℕ, List, refl, ap, cond}
use Rattle.std.proofs.lemmas.Bool.{eq-eqb, ne_eqb}
use Rattle.resp_board.specs.Boards.{with_line}

pub at-line : {T : Type 0} (line : ℕ) (items : List T) (lists : ℕ → List T) → with_line line items lists line ≡ items
at-line line items lists = ap (λ b. cond b items (lists line)) (eq-eqb line line refl)

pub off-line : {T : Type 0} (line : ℕ) (items : List T) (lists : ℕ → List T) (other : ℕ) → other ≢ line → with_line line items lists other ≡ lists other
off-line line items lists other apart = ap (λ b. cond b items (lists other)) (ne_eqb other line apart)
