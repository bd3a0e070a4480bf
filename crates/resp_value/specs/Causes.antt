-- The numbers and names of causes, and the cause that each rule gives.
use Rattle.std.specs.Prelude.{ℕ, List, codes}
use Rattle.resp_value.specs.Rules.{Rule, Grammar, NoDouble, InVersion, PushAtTop, InRange, NotStreamed, WithinDepth, WithinLength, WithinItems, WithinTotal}
use Rattle.resp_value.specs.declared.cause.Cause.{Cause}
use Rattle.resp_value.specs.declared.cause.Cause.TheVariants.{Syntax, Double, Version, NestedPush, Range, Depth, Length, Total, Truncated, OutOfMemory, Streamed, Items, Unasked, TooLarge, BadCommand, TooMany, TooManySessions, NoSession, Closing, NotInVersion, PushBelowTop, OverLimits, Read, Write, TooManyTurns, Ended, BadLine, BadDigits, Busy, BadLimits}

-- the cause of an error by a rule
abbrev pub cause_of : Rule → Cause
cause_of Grammar = Syntax
cause_of NoDouble = Double
cause_of InVersion = Version
cause_of PushAtTop = NestedPush
cause_of InRange = Range
cause_of NotStreamed = Streamed
cause_of WithinDepth = Depth
cause_of WithinLength = Length
cause_of WithinItems = Items
cause_of WithinTotal = Total

abbrev pub number_of : Cause → ℕ
number_of Syntax = 1
number_of Double = 2
number_of Version = 3
number_of NestedPush = 4
number_of Range = 5
number_of Depth = 6
number_of Length = 7
number_of Total = 8
number_of Truncated = 9
number_of OutOfMemory = 10
number_of Streamed = 12
number_of Items = 13
number_of Unasked = 20
number_of TooLarge = 21
number_of BadCommand = 22
number_of TooMany = 24
number_of TooManySessions = 30
number_of NoSession = 31
number_of Closing = 32
number_of NotInVersion = 40
number_of PushBelowTop = 41
number_of (OverLimits over) = 42
number_of Read = 50
number_of Write = 51
number_of TooManyTurns = 52
number_of Ended = 53
number_of BadLine = 60
number_of BadDigits = 61
number_of Busy = 62
number_of BadLimits = 63

abbrev pub name_of : Cause → List ℕ
name_of Syntax = codes "Syntax"
name_of Double = codes "Double"
name_of Version = codes "Version"
name_of NestedPush = codes "NestedPush"
name_of Range = codes "Range"
name_of Depth = codes "Depth"
name_of Length = codes "Length"
name_of Total = codes "Total"
name_of Truncated = codes "Truncated"
name_of OutOfMemory = codes "OutOfMemory"
name_of Streamed = codes "Streamed"
name_of Items = codes "Items"
name_of Unasked = codes "Unasked"
name_of TooLarge = codes "TooLarge"
name_of BadCommand = codes "BadCommand"
name_of TooMany = codes "TooMany"
name_of TooManySessions = codes "TooManySessions"
name_of NoSession = codes "NoSession"
name_of Closing = codes "Closing"
name_of NotInVersion = codes "NotInVersion"
name_of PushBelowTop = codes "NestedPush"
name_of (OverLimits over) = codes "OverLimits"
name_of Read = codes "Read"
name_of Write = codes "Write"
name_of TooManyTurns = codes "TooManyTurns"
name_of Ended = codes "Ended"
name_of BadLine = codes "BadLine"
name_of BadDigits = codes "BadDigits"
name_of Busy = codes "Busy"
name_of BadLimits = codes "BadLimits"
