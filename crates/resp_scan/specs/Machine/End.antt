-- The end of the input.
use Rattle.std.specs.Prelude.{cond, eqb, ◌||◌, Option, None, Some}
use Rattle.resp_value.specs.declared.cause.Cause.{Cause}
use Rattle.resp_value.specs.declared.cause.Cause.TheVariants.{Truncated}
use Rattle.resp_scan.specs.Machine.Tokens.{Token, Place, Dead}
use Rattle.resp_scan.specs.Machine.Sound.{needed}

-- the cause of rejecting the end of the input at this token
abbrev pub end_cause_in : Token → Place → Option Cause
end_cause_in (Dead c) s = Some c
end_cause_in _ s = cond (eqb s.taken 0 || eqb (needed s) 0) None (Some Truncated)

-- the cause of rejecting the end of the input: that of a rejected byte, or that a value has begun and is not complete
abbrev pub end_cause : Place → Option Cause
end_cause s = end_cause_in s.token s
