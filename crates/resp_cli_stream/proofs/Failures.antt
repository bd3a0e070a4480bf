-- Which device failed when the status is 3.
use Rattle.std.proofs.Common.{◌≡◌, ℕ, List, Option, Result, Err, IsErrOf, inl, inr, refl, ap}
use Rattle.resp_cli_args.specs.Faults.{TellsFailure}
use Rattle.resp_cli_args.specs.declared.tool_error.ToolError.TheVariants.{Write, Memory}
use Rattle.resp_cli_stream.specs.Runs.{FailsAtThree}

-- a status that was returned
pub status_is : {X : Type 0} (status n : ℕ) → status ≡ n → IsErrOf {T = X} (Err status) n
status_is {X} status n is = ap (λ s. let r : Result X ℕ = Err s in r) is

-- help was not written
pub fails_by_words : (said said' : Option (List ℕ)) (failures failures' reads writes writes' : ℕ) → TellsFailure said said' failures failures' writes writes' →
    FailsAtThree said said' failures failures' reads reads writes writes'
fails_by_words said said' failures failures' reads writes writes' (inl (told, same)) =
    record { error = Memory; status = refl; told = told; read = refl; written = same }
fails_by_words said said' failures failures' reads writes writes' (inr (told, risen)) =
    record { error = Write; status = refl; told = told; read = refl; written = risen }
