-- The events that are due at a place, of bytes that were read.
use Rattle.std.specs.Prelude.{cond, eqb, List, [], ◌∷◌}
use Rattle.resp_fronts.specs.Events as e
use Rattle.resp_fronts.specs.Events.{Event}
use Rattle.resp_scan.specs.declared.frame.Frame.{Frame}
use Rattle.resp_scan.specs.declared.frame.Shape.{Shape}
use Rattle.resp_scan.specs.declared.frame.Shape.TheVariants.{Left, Begun}
use Rattle.resp_scan.specs.Machine.Tokens.{Token, Place, AtEnd, AtBigDigit, AtTextEnd}

-- an aggregate that needs no further member closes, and then perhaps those around it
abbrev pub events_owed_in : Shape → List Event → List Event
events_owed_in (Left n) outer = cond (eqb n 0) (e.Close ∷ outer) []
events_owed_in (Begun n) outer = []

-- after a value has ended within these frames
abbrev pub events_owed_at_end : List Frame → List Event
events_owed_at_end [] = e.Done ∷ []
events_owed_at_end (f ∷ fs) = events_owed_in f.shape (events_owed_at_end fs)

-- at a token within these frames
abbrev pub events_owed_at : Token → List Frame → List Event
events_owed_at AtEnd fs = events_owed_at_end fs
events_owed_at AtTextEnd fs = e.TextEnd ∷ events_owed_at_end fs
events_owed_at (AtBigDigit digit room) fs = e.Byte digit ∷ []
events_owed_at token fs = []

-- the events that are due at a place, of bytes that were read
abbrev pub events_owed : Place → List Event
events_owed s = events_owed_at s.token s.frames
