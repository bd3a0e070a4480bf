-- The segments of printed lines.
use Rattle.std.specs.Prelude.{ℕ, List, [], ◌∷◌, ◌++◌, if◌then◌else◌, decimal}
use Rattle.resp_json.specs.Json.{text_json}
use Rattle.resp_print.specs.Shown.{quoted_text}
use Rattle.resp_tap.specs.JsonLines.{end_json, known_json, member_json}
use Rattle.resp_tap.specs.Stamps.{ending_text}
use Rattle.resp_tap.specs.declared.segment.Segment.{Segment}
use Rattle.resp_tap.specs.declared.segment.Segment.TheVariants.{Text, Number, TextIf, NumberIf, Quoted, Ending, Json, Member, JsonEnd}

-- the text of a segment
abbrev pub segment_text : Segment → List ℕ
segment_text (Text text) = text.now
segment_text (Number before number) = before.now ++ decimal number
segment_text (TextIf so text) = if so then text.now else []
segment_text (NumberIf before number) = known_json before.now number
segment_text (Quoted text) = quoted_text text.now
segment_text (Ending stamp) = ending_text stamp
segment_text (Json text) = text_json text.now
segment_text (Member front text) = member_json front.now text.now
segment_text (JsonEnd utc) = end_json utc

-- the text of segments in order
abbrev pub segments_text : List Segment → List ℕ
segments_text [] = []
segments_text (segment ∷ []) = segment_text segment
segments_text (segment ∷ next ∷ more) = segment_text segment ++ segments_text (next ∷ more)
