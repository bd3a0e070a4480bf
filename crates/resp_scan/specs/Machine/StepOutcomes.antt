-- The result of a step, as its caller receives it.
use Rattle.std.specs.Prelude.{ℕ, ◌+◌, ◌-◌, Bool, true, false, eqb, List, length, get_or, Option, Some, None, Result, Ok, Err}
use Rattle.resp_scan.specs.declared.event.Event.{Event}
use Rattle.resp_scan.specs.declared.event.Event.TheVariants as event
use Rattle.resp_scan.specs.declared.event.Step.{Step}
use Rattle.resp_scan.specs.declared.event.Fault.{Fault}
use Rattle.resp_scan.specs.Machine.Tokens.{Place, Null, Truth, Int, Text, Digit, TextEnd, Open, Close}
use Rattle.resp_scan.specs.Machine.Scan.{Out, More, Gave, Part, Whole, Bad}

-- this many more bytes were read
abbrev pub after_bytes : ℕ → Place → Place
after_bytes n s = record s { taken = s.taken + n }

-- a step counts the bytes that it reads, and starts the count anew after a complete value
abbrev pub after_step : Out → Out
after_step (More n s) = More n (after_bytes n s)
after_step (Gave n e s) = Gave n e (after_bytes n s)
after_step (Part k n s) = Part k n (after_bytes n s)
after_step (Whole s) = Whole s
after_step (Bad n c s) = Bad n c (after_bytes n s)

-- a part without a byte of the step is the digit due of a big number; any other part ends at the end of the step
abbrev pub out_of_part : Bool → ℕ → List ℕ → Place → Out
out_of_part true n p s = Gave n (Digit (get_or p 0 0)) s
out_of_part false n p s = Part (n - length p) n s

-- the meaning of a step's event, with this many bytes used
abbrev pub out_of_event : ℕ → Option Event → Place → Out
out_of_event n None s = More n s
out_of_event n (Some event.Null) s = Gave n Null s
out_of_event n (Some (event.Bool v)) s = Gave n (Truth v) s
out_of_event n (Some (event.Int i)) s = Gave n (Int i) s
out_of_event n (Some (event.Text k)) s = Gave n (Text k) s
out_of_event n (Some (event.Part p)) s = out_of_part (eqb n 0) n p.now s
out_of_event n (Some event.TextEnd) s = Gave n TextEnd s
out_of_event n (Some (event.Open k c)) s = Gave n (Open k c) s
out_of_event n (Some event.Close) s = Gave n Close s
out_of_event n (Some event.Done) s = Whole (after_bytes n s)

-- the result if this many bytes were read before, and the place after it
abbrev pub out_of_step : ℕ → Result Step Fault → Place → Out
out_of_step t (Ok r) s = out_of_event r.used r.event s
out_of_step t (Err f) s = Bad (f.at - t) f.cause s
