-- What is true of frames.
use Rattle.std.specs.Prelude.{◌≡◌, ℕ, List, ◌++◌}
use Rattle.resp_value.specs.Rules.{Rules}
use Rattle.resp_scan.specs.Reading.{IsSpelled}
use Rattle.resp_frames.specs.declared.frame.Frame.{Frame}
use Rattle.resp_frames.specs.Framing.{IsFrame}
use Rattle.resp_frames.specs.Texts.{text_of}

-- no other spelling begins where a frame does
abbrev pub AFrameIsTheOnlyOne : Type 0
AFrameIsTheOnlyOne = (rules : Rules) (front piece : List ℕ) (frame : Frame) (other rest : List ℕ) → IsFrame rules front piece frame →
    IsSpelled rules other → front ++ piece ≡ other ++ rest → other ≡ text_of frame
