-- Facts of an outcome that don't depend on its value.
use Rattle.std.proofs.Common.{◌≡◌, Result, Ok, Err, ap}
use Rattle.std.specs.Result.{IsErrAnd}

-- an outcome whose error is this one
pub is_that_error : {X E : Type 0} (r : Result X E) (e : E) → IsErrAnd r (λ found. found ≡ e) → r ≡ Err e
is_that_error (Ok x) e p = absurd p
is_that_error (Err found) e p = ap Err p
