-- What was given where a place lies, and what it owes, are the events due by then of every tree that goes on so.
use Rattle.std.proofs.Common.{◌≡◌, ℕ, ◌-◌, List, [], ◌∷◌, ◌++◌, refl, sym, ◌∙◌, arith, append-nil}
use Rattle.std.specs.Prelude.{length}
use Rattle.resp_value.specs.Rules.{Rules}
use Rattle.resp_value.specs.Trees as t
use Rattle.resp_value.specs.Numbers.{Unsigned}
use Rattle.resp_value.specs.Kinds.{kind_of}
use Rattle.resp_value.specs.Trees.{Tree, Spells}
use Rattle.resp_fronts.specs.Events as e
use Rattle.resp_fronts.specs.Events.{Event, all_events, events_due}
use Rattle.resp_fronts.specs.Tokens.{zeros}
use Rattle.resp_scan.specs.declared.machine.Head.{Head}
use Rattle.resp_scan.specs.declared.machine.Head.TheVariants as head
use Rattle.resp_scan.specs.Machine.Tokens.{Token, Place, AtStart, AtEnd, InLine, InDouble, AtLineLf, AtIntSign, AtIntFirst, InInt, AtIntLf, AtBigSign, AtBigFirst, InBigZeros, AtBigZeroLf, AtBigDigit, InBig, AtTextEnd, AtNullOne, AtNullCr, AtNullLf, AtBool, AtBoolCr, AtBoolLf, AtBulkHead, AtArrayHead, AtHead, InHead, AtHeadLf, AtFormat, AtFormatSecond, AtFormatThird, AtFormatColon, InContent, AtContentCr, AtContentLf, AtStreamCr, AtStreamLf, AtChunk, InChunk, AtChunkCr, AtChunkLf, AtOpenCr, AtOpenLf, AtCloseCr, AtCloseLf, at}
use Rattle.resp_scan.specs.Kinds.{rules_of}
use Rattle.resp_scan.specs.Machine.Beginnings as b
use Rattle.resp_scan.specs.Machine.Standing.{IsInside, StandsAfterAt, StandsAfter}
use Rattle.resp_scan.specs.Machine.Owed.{events_owed_at, events_owed}
use Rattle.resp_scan.specs.Machine.Sound.{IsSoundBy, token_needed}
use Rattle.resp_scan.proofs.DueEvents.BigNumbersDue.{big_begun_due, big_shown_due, big_zero_returned_due, big_zeros_due}
use Rattle.resp_scan.proofs.TokenMoves.BigNumbersLead.{big_digit_is_owed}
use Rattle.resp_scan.proofs.DueEvents.ChunksDue.{chunk_due, chunks_due, length_in_line, mark_in_line, none_in_line, returned_in_line}
use Rattle.resp_scan.proofs.DueEvents.ContentDue.{content_due, content_returned_due, format_due}
use Rattle.resp_scan.proofs.DueEvents.InsideDue.{AreDueWithin, inside_due}
use Rattle.resp_scan.proofs.DueEvents.LinesDue.{double_begun_due, line_begun_due, text_returned_due}
use Rattle.resp_scan.proofs.DueEvents.OutsideDue.{AreDue, at_end_due, between_due, closing_in_due, text_end_due}
use Rattle.resp_scan.proofs.DueEvents.QuietLines.{line_of_quiet, returned_quiet}
use Rattle.resp_scan.proofs.DueEvents.QuietTokens.{bool_quiet, digits_quiet, dollar_quiet, head_quiet, head_returned_quiet, int_begun_quiet, int_digits_quiet, int_returned_quiet, null_begun_quiet, null_line_quiet, null_returned_quiet, star_quiet, stream_quiet, stream_returned_quiet, streamed_string_quiet, streamed_string_returned_quiet, truth_quiet}
use Rattle.resp_scan.proofs.CallClauses.Rows.{tokens_need}

-- Heads.

head_due : (h : Head) (r : Rules) (level : ℕ) (bytes : List ℕ) (shown : List Event) → b.HeadBegun r h level bytes shown → AreDueWithin bytes shown
head_due (head.Chunk room) r level bytes shown w = chunks_due r room (59 ∷ []) level bytes shown mark_in_line w
head_due h r level bytes shown w = head_quiet r h level bytes shown (λ room i. cc) w

digits_due : (h : Head) (r : Rules) (n level : ℕ) (bytes : List ℕ) (shown : List Event) → b.HeadCounts r h n level bytes shown → AreDueWithin bytes shown
digits_due (head.Chunk room) r n level bytes shown w = chunks_due r room ((59 ∷ w.digits) ++ []) level bytes shown (length_in_line w.digits w.are_digits)
    w.chunks
digits_due h r n level bytes shown w = digits_quiet r h n level bytes shown (λ room i. cc) w

head_returned_due : (h : Head) (r : Rules) (n level : ℕ) (bytes : List ℕ) (shown : List Event) → b.HeadReturned r h n level bytes shown →
    AreDueWithin bytes shown
head_returned_due (head.Chunk room) r n level bytes shown w = chunks_due r room ((59 ∷ w.digits) ++ 13 ∷ []) level bytes shown
    (returned_in_line w.digits w.are_digits) w.chunks
head_returned_due h r n level bytes shown w = head_returned_quiet r h n level bytes shown (λ room i. cc) w

-- Tokens.

-- nothing that came with the bytes is owed
abbrev OwesNothing : Token → Type 0
OwesNothing token = (token ≡ AtTextEnd → ⊥) × ((digit room : ℕ) → token ≡ AtBigDigit digit room → ⊥)

token_due : (token : Token) (r : Rules) (level : ℕ) (bytes : List ℕ) (shown : List Event) → OwesNothing token → b.TokenHas r token level bytes shown →
    AreDueWithin bytes shown
token_due (InLine room) r level bytes shown p w = line_begun_due r room level bytes shown w
token_due (InDouble stage room) r level bytes shown p w = double_begun_due r stage room level bytes shown w
token_due AtLineLf r level bytes shown p w = text_returned_due r level bytes shown w
token_due AtIntSign r level bytes shown p w = int_begun_quiet r Unsigned level bytes shown w.0 w.1
token_due (AtIntFirst negative) r level bytes shown p w = int_begun_quiet r w.sign level bytes shown w.token w.told
token_due (InInt negative n) r level bytes shown p w = int_digits_quiet r negative n level bytes shown w
token_due (AtIntLf negative n) r level bytes shown p w = int_returned_quiet r negative n level bytes shown w
token_due AtBigSign r level bytes shown p w = big_begun_due r Unsigned level bytes shown w.0 w.1
token_due (AtBigFirst negative) r level bytes shown p w = big_begun_due r w.sign level bytes shown w.token w.told
token_due (InBigZeros negative) r level bytes shown p w = big_zeros_due r negative level bytes shown w.0 w.1
token_due AtBigZeroLf r level bytes shown p w = big_zero_returned_due r level bytes shown w
token_due (AtBigDigit digit room) r level bytes shown p w = absurd (p.1 digit room refl)
token_due (InBig room) r level bytes shown p w = big_shown_due r room level bytes shown w
token_due AtTextEnd r level bytes shown p w = absurd (p.0 refl)
token_due AtNullOne r level bytes shown p w = null_begun_quiet bytes shown w.0 w.1
token_due AtNullCr r level bytes shown p w = null_line_quiet r level bytes shown w
token_due AtNullLf r level bytes shown p w = null_returned_quiet r level bytes shown w
token_due AtBool r level bytes shown p w = bool_quiet bytes shown w.1 w.2
token_due (AtBoolCr x) r level bytes shown p w = line_of_quiet r (t.truth x) level bytes shown w.0 w.1 truth_quiet
token_due (AtBoolLf x) r level bytes shown p w = returned_quiet r (t.truth x) level bytes shown w.0 w.1 truth_quiet
token_due AtBulkHead r level bytes shown p w = dollar_quiet bytes shown w.0 w.1
token_due AtArrayHead r level bytes shown p w = star_quiet bytes shown w.0 w.1
token_due (AtHead h) r level bytes shown p w = head_due h r level bytes shown w
token_due (InHead h n) r level bytes shown p w = digits_due h r n level bytes shown w
token_due (AtHeadLf h n) r level bytes shown p w = head_returned_due h r n level bytes shown w
token_due (AtFormat n) r level bytes shown p w = format_due r (zeros 3) [] n level bytes shown (omega arith) w
token_due (AtFormatSecond x n) r level bytes shown p w = format_due r (x ∷ zeros 2) (x ∷ []) (n - 1) level bytes shown (omega arith) w
token_due (AtFormatThird x y n) r level bytes shown p w = format_due r (x ∷ y ∷ zeros 1) (x ∷ y ∷ []) (n - 2) level bytes shown (omega arith) w
token_due (AtFormatColon format n) r level bytes shown p w = format_due r format format (n - 3) level bytes shown (omega (arith, w.token.has_format.0)) w
token_due (InContent n) r level bytes shown p w = content_due r n level bytes shown w.0
token_due AtContentCr r level bytes shown p w = content_due r 0 level bytes shown w
token_due AtContentLf r level bytes shown p w = content_returned_due r level bytes shown w
token_due AtStreamCr r level bytes shown p w = streamed_string_quiet bytes shown w.1 w.2
token_due AtStreamLf r level bytes shown p w = streamed_string_returned_quiet bytes shown w.1 w.2
token_due (AtChunk room) r level bytes shown p w = chunks_due r room [] level bytes shown none_in_line w
token_due (InChunk room n) r level bytes shown p w = chunk_due r room n [] level bytes shown tt w.0
token_due (AtChunkCr room) r level bytes shown p w = chunk_due r room 0 [] level bytes shown tt w
token_due (AtChunkLf room) r level bytes shown p w = chunk_due r room 0 (13 ∷ []) level bytes shown (refl, refl) w
token_due (AtOpenCr k) r level bytes shown p w = stream_quiet r (kind_of k) level bytes shown w
token_due (AtOpenLf k) r level bytes shown p w = stream_returned_quiet r (kind_of k) level bytes shown w
token_due _ r level bytes shown p w = absurd w

inside_token : (s : Place) (token : Token) (used : ℕ) (front : List ℕ) (es : List Event) → IsSoundBy used (at s token) → OwesNothing token →
    IsInside (rules_of s) (b.TokenHas (rules_of s) token) s.frames front es → AreDue front es
inside_token s token used front es c p w =
    inside_due (rules_of s) (b.TokenHas (rules_of s) token) s.frames front es (token_needed token s.bounds.depth s.frames) w
    (λ level bytes shown i h. tokens_need (at s token) used level bytes shown c p.0 i h)
    (λ level bytes shown h. token_due token (rules_of s) level bytes shown p h)

-- Places.

no_more : (front : List ℕ) (es : List Event) → AreDue front es → AreDue front (es ++ [])
no_more front es h rest whole is_tree spelled = h rest whole is_tree spelled ∙ sym (append-nil es)

due_at : (s : Place) (token : Token) (used : ℕ) (front : List ℕ) (es : List Event) → IsSoundBy used (at s token) →
    StandsAfterAt (rules_of s) token s.frames front es → AreDue front (es ++ events_owed_at token s.frames)
due_at s AtStart used front es c w = no_more front es (between_due (rules_of s) s.frames front es w)
due_at s AtEnd used front es c w = at_end_due s s.frames front es c.token w
due_at s AtTextEnd used front es c w = text_end_due s front es w
due_at s AtCloseCr used front es c w = no_more front es (closing_in_due (rules_of s) s.frames [] (13 ∷ 10 ∷ []) front es (omega arith) w)
due_at s AtCloseLf used front es c w = no_more front es (closing_in_due (rules_of s) s.frames (13 ∷ []) (10 ∷ []) front es (omega arith) w)
due_at s (AtBigDigit digit room) used front es c w =
    let d : IsSoundBy used (at s (InBig room)) = record {
      bounds = c.bounds;
      nested = c.nested;
      counted = c.counted;
      frames_need = c.frames_need;
      total =
          c.total;
      token = tt;
    } in
    inside_token s (InBig room) used front (es ++ e.Byte digit ∷ []) d (λ i. cc, λ x y i. cc) (big_digit_is_owed s digit room front es w)
due_at s token used front es c w = no_more front es (inside_token s token used front es c (λ i. cc, λ x y i. cc) w)

-- of every tree that the front begins, the events due by then are those given and those owed
pub events_are_due : (s : Place) (used : ℕ) (front : List ℕ) (es : List Event) → IsSoundBy used s → StandsAfter s front es → (rest : List ℕ) (whole : Tree) →
    Spells whole (front ++ rest) → events_due (length front) (all_events whole) ≡ es ++ events_owed s
events_are_due s used front es c w rest whole spells = due_at s s.token used front es c w rest whole spells.is_tree spells.spelled
