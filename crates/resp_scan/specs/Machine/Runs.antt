-- Consecutive bytes of content at the beginning of a piece.
use Rattle.std.specs.Str.{byte}
use Rattle.std.specs.Prelude.{ℕ, ◌+◌, ◌-◌, cond, eqb, nat_le, Option, None, Some, List, [], ◌∷◌}
use Rattle.resp_value.specs.DoubleStages.{stage_after, stage_needs}
use Rattle.resp_value.specs.declared.double_stage.DoubleStage.{DoubleStage}
use Rattle.resp_scan.specs.declared.doubles.DoubleRun.{DoubleRun}
use Rattle.resp_scan.specs.Machine.Moves.{is_digit}

-- the number of bytes before the first c
abbrev pub run_to : ℕ → List ℕ → ℕ
run_to c [] = 0
run_to c (b ∷ bs) = cond (eqb b c) 0 (run_to c bs + 1)

-- the number of bytes at the beginning that are neither CR nor LF
abbrev pub plain_run : List ℕ → ℕ
plain_run [] = 0
plain_run (b ∷ bs) = cond (eqb b (byte "\r")) 0 (cond (eqb b (byte "\n")) 0 (plain_run bs + 1))

-- the number of digits at the beginning
abbrev pub digit_run : List ℕ → ℕ
digit_run [] = 0
digit_run (b ∷ bs) = cond (is_digit b) (digit_run bs + 1) 0

-- goes on with a byte that leads to this stage, where length and total leave room for what the double then needs
abbrev pub run_on : ℕ → ℕ → ℕ → Option DoubleStage → DoubleRun → (DoubleStage → DoubleRun) → DoubleRun
run_on i total room None stop more = stop
run_on i total room (Some next) stop more = cond (nat_le room (stage_needs next)) stop
    (cond (nat_le (i + 1 + (stage_needs next + 2)) total) (more next) stop)

-- the bytes of a double at the beginning, the first of which has this index, where total leaves this many bytes for all,
-- and length this many for the first and those after it
abbrev pub double_run : ℕ → ℕ → ℕ → DoubleStage → List ℕ → DoubleRun
double_run i total room stage [] = record { count = i; stage = stage; room = room }
double_run i total room stage (b ∷ bs) = run_on i total room (stage_after stage b)
    (record { count = i; stage = stage; room = room }) (λ next. double_run (i + 1) total (room - 1) next bs)
