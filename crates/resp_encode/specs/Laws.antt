-- Laws of the errors of encoding a value that was read.
use Rattle.std.specs.Prelude.{◌≡◌, ◌⊎◌, ℕ, List, false}
use Rattle.resp_value.specs.Data.{Datum}
use Rattle.resp_value.specs.Rules.{Rules}
use Rattle.resp_value.specs.Spellings.{IsSpelling}
use Rattle.resp_value.specs.declared.cause.Limit.TheVariants.{Total}
use Rattle.resp_encode.specs.Refusals.{IsFirstFault}
use Rattle.resp_encode.specs.declared.error.EncodeError.{EncodeError}
use Rattle.resp_encode.specs.declared.error.EncodeError.TheVariants.{OutOfMemory, OverLimits}

-- under the rules by which it was read, its text exceeds the limit of total, or encoding it fails when out of memory
abbrev pub WhatWasReadIsRefusedForTotalOrMemory : Type 0
WhatWasReadIsRefusedForTotalOrMemory = (r : Rules) (x : Datum) (text : List ℕ) (error : EncodeError) →
    IsSpelling r x text → IsFirstFault r x error → (error ≡ OverLimits Total) ⊎ (error ≡ OutOfMemory)

-- if the limits forbid streamed forms, encoding it fails only when out of memory
abbrev pub WhatWasReadCountedIsRefusedForMemory : Type 0
WhatWasReadCountedIsRefusedForMemory = (r : Rules) (x : Datum) (text : List ℕ) (error : EncodeError) →
    r.limits.streamed ≡ false → IsSpelling r x text → IsFirstFault r x error → error ≡ OutOfMemory
