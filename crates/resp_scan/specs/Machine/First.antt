-- The first byte of a value, given the form that it begins.
use Rattle.std.specs.Prelude.{ℕ, List, Option, None, Some}
use Rattle.resp_value.specs.declared.cause.Cause.TheVariants as cause
use Rattle.resp_scan.specs.declared.machine.Head.TheVariants as head
use Rattle.resp_scan.specs.declared.start.First.{First}
use Rattle.resp_scan.specs.declared.start.First.TheVariants.{Null, Bool, Big, BulkError, Verbatim, Set, Map, Attr, Push}
use Rattle.resp_scan.specs.Machine.Tokens.{Place, Move, Refuse, AtNullCr, AtBool, AtBigSign, AtHead}
use Rattle.resp_scan.specs.Machine.Moves.{begin_move, aggregate_move, push_move, move_in_three}
use Rattle.resp_scan.specs.Machine.Scan.{Out, answer, scan, content}

-- the result of a first byte's move, and of the bytes after it
abbrev pub after_first : Move → Place → List ℕ → Out
after_first v s p = answer v 0 s (λ t. scan 1 t p) (λ t. content 1 t p)

-- the effect of the first byte of a form that only version 3 has
abbrev pub first_move : Place → First → Move
first_move s Null = begin_move s 2 AtNullCr
first_move s Bool = begin_move s 3 AtBool
first_move s Big = begin_move s 3 AtBigSign
first_move s BulkError = begin_move s 5 (AtHead head.BulkError)
first_move s Verbatim = begin_move s 9 (AtHead head.Verbatim)
first_move s Set = aggregate_move s head.Set
first_move s Map = aggregate_move s head.Map
first_move s Attr = aggregate_move s head.Attr
first_move s Push = push_move s s.frames

-- the effect of a first byte, given the form of version 3 that it begins, if it begins one
abbrev pub by_first : Place → Option First → Move
by_first s None = Refuse cause.Syntax
by_first s (Some f) = move_in_three s.version (first_move s f)
