-- What each token inside a value needs is the least that completes its bytes.
use Rattle.std.specs.Prelude.{Bool, true, false, cond, eqb}
use Rattle.std.proofs.lemmas.Bool.Decides.{nat_tests}
use Rattle.std.proofs.Common.{◌≡◌, ℕ, ◌+◌, ◌-◌, ◌*◌, ◌≤◌, List, [], ◌∷◌, length, refl, sym, subst, arith}
use Rattle.resp_value.specs.Bounds.{AreBounds}
use Rattle.resp_value.specs.Data as d
use Rattle.resp_value.specs.Numbers.{Unsigned}
use Rattle.resp_value.specs.Rules.{Rules}
use Rattle.resp_value.specs.Trees as t
use Rattle.resp_value.specs.Trees.{StringKind, null, numeral, payload, truth}
use Rattle.resp_value.specs.Kinds.{kind_of}
use Rattle.resp_fronts.specs.Events.{Event}
use Rattle.resp_fronts.proofs.Tokens.BegunFronts.{IsBegunBy}
use Rattle.resp_fronts.proofs.Tokens.ChunkTokens.{chunk_mark_begun, chunks_begun, stream_returned_begun}
use Rattle.resp_fronts.proofs.Tokens.ContentTokens.{content_begun, content_returned_begun}
use Rattle.resp_fronts.proofs.Tokens.LineTokens.{line_begun, returned_begun}
use Rattle.resp_fronts.proofs.Tokens.NumberTokens.{number_begun, truth_begun}
use Rattle.resp_fronts.proofs.Tokens.StreamedHeads.{streamed_string_begun}
use Rattle.resp_fronts.specs.Tokens.{zeros}
use Rattle.resp_scan.specs.declared.machine.Head.{Head}
use Rattle.resp_scan.specs.declared.machine.Head.TheVariants as head
use Rattle.resp_scan.specs.Machine.Tokens.{Token, Place, InLine, InDouble, AtLineLf, AtIntSign, AtIntFirst, InInt, AtIntLf, AtBigSign, AtBigFirst, InBigZeros, AtBigZeroLf, AtBigDigit, InBig, AtTextEnd, AtNullOne, AtNullCr, AtNullLf, AtBool, AtBoolCr, AtBoolLf, AtBulkHead, AtArrayHead, AtHead, InHead, AtHeadLf, AtFormat, AtFormatSecond, AtFormatThird, AtFormatColon, InContent, AtContentCr, AtContentLf, AtStreamCr, AtStreamLf, AtChunk, InChunk, AtChunkCr, AtChunkLf, AtOpenCr, AtOpenLf}
use Rattle.resp_scan.specs.Machine.Heads.{first_needed, head_needed}
use Rattle.resp_scan.specs.Kinds.{rules_of}
use Rattle.resp_scan.specs.Machine.Beginnings.{TokenHas, ContentBegun, FormatBegun, HeadBegun, HeadCounts, HeadReturned}
use Rattle.resp_scan.specs.Machine.Sound.{IsTokenSound, token_needed, IsSoundBy}
use Rattle.resp_scan.proofs.TokenMoves.BigNumbersLead.{row_of, shown_row}
use Rattle.resp_scan.proofs.TokenMoves.ChunkContentLead as chunk
use Rattle.resp_scan.proofs.HeadMoves.ChunkHeadsLead as chunk_head
use Rattle.resp_scan.proofs.HeadMoves.ChunkHeadsLead.{returned_needed}
use Rattle.resp_scan.proofs.TokenMoves.ChunksBegun.{are_whole}
use Rattle.resp_scan.proofs.HeadMoves.CountsLead as count
use Rattle.resp_scan.proofs.HeadMoves.HeadsLead.{aggregate_row, end_row, stream_row, attribute_row}
use Rattle.resp_scan.proofs.TokenMoves.DoublesLead.{double_row}
use Rattle.resp_scan.proofs.TokenMoves.LinesLead.{line_row}
use Rattle.resp_scan.proofs.TokenMoves.LiteralsLead.{null_first_row}
use Rattle.resp_scan.proofs.TokenMoves.NumbersLead.{begun_row, int_row}
use Rattle.resp_scan.proofs.HeadMoves.OpensLead as opens
use Rattle.resp_scan.proofs.TokenMoves.StartLeads.{star_row}
use Rattle.resp_scan.proofs.HeadMoves.StringHeads.{bulk, bulk_error, verbatim}
use Rattle.resp_scan.proofs.TokenMoves.StringLengthEndsLead as string

-- as many bytes under another name
by_sum : {r : Rules} {level m n : ℕ} {bytes : List ℕ} → m ≡ n → IsBegunBy r level bytes m → IsBegunBy r level bytes n
by_sum {r = r} {level = level} {bytes = bytes} e w = subst (IsBegunBy r level bytes) e w

-- and bytes under another name
by_bytes : {r : Rules} {level n : ℕ} {bytes others : List ℕ} → others ≡ bytes → IsBegunBy r level bytes n → IsBegunBy r level others n
by_bytes {r = r} {level = level} {n = n} e w = subst (λ z. IsBegunBy r level z n) (sym e) w

-- Heads.

head_row : (r : Rules) (h : Head) (level : ℕ) (bytes : List ℕ) (shown : List Event) → AreBounds r.limits → HeadBegun r h level bytes shown →
    IsBegunBy r level bytes (first_needed h)
head_row r head.Bulk level bytes shown c w = absurd w
head_row r head.BulkError level bytes shown c w = bulk_error.first_row r level bytes (omega (arith, c.length_in_range.0)) (w.0, w.1)
head_row r head.Verbatim level bytes shown c w = verbatim.first_row r level bytes (omega (arith, c.length_in_range.0)) (w.0, w.1)
head_row r (head.Chunk room) level bytes shown c w = by_bytes w.are (chunk_mark_begun r level w.chunks (are_whole w))
head_row r head.Array level bytes shown c w = absurd w
head_row r head.Set level bytes shown c w = aggregate_row r d.Set level bytes shown refl w
head_row r head.Map level bytes shown c w = aggregate_row r d.Map level bytes shown refl w
head_row r head.Attr level bytes shown c w = attribute_row r level bytes shown w
head_row r head.Push level bytes shown c w = aggregate_row r d.Push level bytes shown refl w

digits_row : (r : Rules) (h : Head) (n level : ℕ) (bytes : List ℕ) (shown : List Event) → AreBounds r.limits → HeadCounts r h n level bytes shown →
    IsBegunBy r level bytes (head_needed h n)
digits_row r head.Bulk n level bytes shown c w = bulk.row r n level bytes shown (omega (arith, c.length_in_range.0)) w
digits_row r head.BulkError n level bytes shown c w = bulk_error.row r n level bytes shown (omega (arith, c.length_in_range.0)) w
digits_row r head.Verbatim n level bytes shown c w = verbatim.row r n level bytes shown (omega (arith, c.length_in_range.0)) w
digits_row r (head.Chunk room) n level bytes shown c w = chunk_head.length_row r room n level bytes shown w
digits_row r head.Array n level bytes shown c w = count.count_row r d.Array n (n * 3 + 2) level bytes shown (omega arith) w
digits_row r head.Set n level bytes shown c w = count.count_row r d.Set n (n * 3 + 2) level bytes shown (omega arith) w
digits_row r head.Map n level bytes shown c w = count.count_row r d.Map n (n * 6 + 2) level bytes shown (omega arith) w
digits_row r head.Attr n level bytes shown c w = count.count_row r d.Attr n (n * 6 + 5) level bytes shown (omega arith) w
digits_row r head.Push n level bytes shown c w = count.count_row r d.Push n (n * 3 + 2) level bytes shown (omega arith) w

verbatim_returned : (n : ℕ) → 4 ≤ n → n + 3 ≡ head_needed head.Verbatim n - 1
verbatim_returned n long = grind (arith, nat_tests)

chunk_returned : (n : ℕ) → returned_needed n ≡ cond (eqb n 0) 2 (n + 8) - 1
unfolding returned_needed
chunk_returned n = case (eqb n 0)
  where
    case : (z : Bool) → cond z 1 (n + 7) ≡ cond z 2 (n + 8) - 1
    case true = refl
    case false = omega arith

head_end_row : (r : Rules) (h : Head) (n level : ℕ) (bytes : List ℕ) (shown : List Event) → HeadReturned r h n level bytes shown →
    IsBegunBy r level bytes (head_needed h n - 1)
head_end_row r head.Bulk n level bytes shown w = by_sum (omega arith) (string.returned_row r head.Bulk t.Bulk bulk n level bytes shown w)
head_end_row r head.BulkError n level bytes shown w = by_sum (omega arith) (string.returned_row r head.BulkError t.BulkError bulk_error n level bytes shown w)
head_end_row r head.Verbatim n level bytes shown w = by_sum (verbatim_returned n w.0)
    (string.returned_row r head.Verbatim (t.Verbatim (zeros 3)) verbatim n level bytes shown w)
head_end_row r (head.Chunk room) n level bytes shown w = by_sum (chunk_returned n) (chunk_head.returned_row r room n level bytes shown w)
head_end_row r head.Array n level bytes shown w = by_sum (omega arith) (opens.count_row r d.Array n level bytes shown w)
head_end_row r head.Set n level bytes shown w = by_sum (omega arith) (opens.count_row r d.Set n level bytes shown w)
head_end_row r head.Map n level bytes shown w = by_sum (omega arith) (opens.count_row r d.Map n level bytes shown w)
head_end_row r head.Attr n level bytes shown w = by_sum (omega arith) (opens.count_row r d.Attr n level bytes shown w)
head_end_row r head.Push n level bytes shown w = by_sum (omega arith) (opens.count_row r d.Push n level bytes shown w)

-- Content.

format_row : (r : Rules) (format begun : List ℕ) (n level : ℕ) (bytes : List ℕ) (shown : List Event) → FormatBegun r format begun n level bytes shown →
    IsBegunBy r level bytes (n + 2)
format_row r format begun n level bytes shown w = content_begun r (t.Verbatim format) w.first w.digits begun n level bytes w.token

content_row : (r : Rules) (n level : ℕ) (bytes : List ℕ) (shown : List Event) → ContentBegun r n level bytes shown → IsBegunBy r level bytes (n + 2)
content_row r n level bytes shown w = content_begun r w.kind w.first w.digits (payload w.kind w.part) n level bytes w.token

-- Tokens.

token_row : (s : Place) (token : Token) (level : ℕ) (bytes : List ℕ) (shown : List Event) → AreBounds s.bounds → IsTokenSound token s.bounds.depth s.frames →
    (token ≡ AtTextEnd → ⊥) → level ≡ length s.frames → TokenHas (rules_of s) token level bytes shown →
    IsBegunBy (rules_of s) level bytes (token_needed token s.bounds.depth s.frames)
token_row s (InLine room) level bytes shown c f more i w = line_row (rules_of s) room level bytes shown w
token_row s (InDouble stage room) level bytes shown c f more i w = double_row (rules_of s) stage room level bytes shown w
token_row s AtLineLf level bytes shown c f more i w = returned_begun (rules_of s) w.leaf level bytes w.returned
token_row s AtIntSign level bytes shown c f more i w = number_begun (rules_of s) t.Int Unsigned level bytes w.0
token_row s (AtIntFirst negative) level bytes shown c f more i w = begun_row (rules_of s) t.Int negative level bytes shown w
token_row s (InInt negative n) level bytes shown c f more i w = int_row (rules_of s) negative n level bytes shown w
token_row s (AtIntLf negative n) level bytes shown c f more i w = returned_begun (rules_of s) (numeral t.Int w.sign w.digits) level bytes w.returned
token_row s AtBigSign level bytes shown c f more i w = number_begun (rules_of s) t.Big Unsigned level bytes w.0
token_row s (AtBigFirst negative) level bytes shown c f more i w = begun_row (rules_of s) t.Big negative level bytes shown w
token_row s (InBigZeros negative) level bytes shown c f more i w = row_of (rules_of s) negative [] level bytes w.0
token_row s AtBigZeroLf level bytes shown c f more i w = returned_begun (rules_of s) (numeral t.Big w.sign w.digits) level bytes w.returned
token_row s (AtBigDigit digit room) level bytes shown c f more i w = row_of (rules_of s) w.negative (digit ∷ []) level bytes w.token
token_row s (InBig room) level bytes shown c f more i w = shown_row (rules_of s) room level bytes shown w
token_row s AtTextEnd level bytes shown c f more i w = absurd (more refl)
token_row s AtNullOne level bytes shown c f more i w = null_first_row (rules_of s) level bytes w.0
token_row s AtNullCr level bytes shown c f more i w = line_begun (rules_of s) (null w.form) level bytes w.token
token_row s AtNullLf level bytes shown c f more i w = returned_begun (rules_of s) (null w.form) level bytes w.returned
token_row s AtBool level bytes shown c f more i w = by_bytes w.1 (truth_begun (rules_of s) level w.0)
token_row s (AtBoolCr v) level bytes shown c f more i w = line_begun (rules_of s) (truth v) level bytes w.0
token_row s (AtBoolLf v) level bytes shown c f more i w = returned_begun (rules_of s) (truth v) level bytes w.0
token_row s AtBulkHead level bytes shown c f more i w = bulk.first_row (rules_of s) level bytes (omega (arith, c.length_in_range.0)) (tt, w.0)
token_row s AtArrayHead level bytes shown c f more i w = star_row s level i bytes w.0
token_row s (AtHead h) level bytes shown c f more i w = head_row (rules_of s) h level bytes shown c w
token_row s (InHead h n) level bytes shown c f more i w = digits_row (rules_of s) h n level bytes shown c w
token_row s (AtHeadLf h n) level bytes shown c f more i w = head_end_row (rules_of s) h n level bytes shown w
token_row s (AtFormat n) level bytes shown c f more i w = format_row (rules_of s) (zeros 3) [] n level bytes shown w
token_row s (AtFormatSecond x n) level bytes shown c f more i w =
    by_sum (omega (arith, f)) (format_row (rules_of s) (x ∷ zeros 2) (x ∷ []) (n - 1) level bytes shown w)
token_row s (AtFormatThird x y n) level bytes shown c f more i w =
    by_sum (omega (arith, f)) (format_row (rules_of s) (x ∷ y ∷ zeros 1) (x ∷ y ∷ []) (n - 2) level bytes shown w)
token_row s (AtFormatColon format n) level bytes shown c f more i w =
    by_sum (omega (arith, f)) (format_row (rules_of s) format format (n - 3) level bytes shown w)
token_row s (InContent n) level bytes shown c f more i w = content_row (rules_of s) n level bytes shown w.0
token_row s AtContentCr level bytes shown c f more i w = content_row (rules_of s) 0 level bytes shown w
token_row s AtContentLf level bytes shown c f more i w = by_bytes w.returned
    (content_returned_begun (rules_of s) w.content.kind w.content.first w.content.digits (payload w.content.kind w.content.part) level w.before w.content.token)
token_row s AtStreamCr level bytes shown c f more i w = by_bytes w.1 (streamed_string_begun (rules_of s) level w.0)
token_row s AtStreamLf level bytes shown c f more i w = by_bytes w.1 (stream_returned_begun (rules_of s) level w.0)
token_row s (AtChunk room) level bytes shown c f more i w = by_bytes w.are (chunks_begun (rules_of s) level w.chunks (are_whole w))
token_row s (InChunk room n) level bytes shown c f more i w = chunk.content_row (rules_of s) room n level bytes shown w.0
token_row s (AtChunkCr room) level bytes shown c f more i w = chunk.content_row (rules_of s) room 0 level bytes shown w
token_row s (AtChunkLf room) level bytes shown c f more i w = chunk.returned_row (rules_of s) room level bytes shown w
token_row s (AtOpenCr k) level bytes shown c f more i w = stream_row (rules_of s) (kind_of k) level bytes shown w
token_row s (AtOpenLf k) level bytes shown c f more i w = end_row (rules_of s) (kind_of k) level bytes shown w
token_row s _ level bytes shown c f more i w = absurd w

-- inside a value the token needs the least that completes its bytes, but at a text's end, where they are whole
pub tokens_need : (s : Place) (used level : ℕ) (bytes : List ℕ) (shown : List Event) → IsSoundBy used s → (s.token ≡ AtTextEnd → ⊥) → level ≡ length s.frames →
    TokenHas (rules_of s) s.token level bytes shown → IsBegunBy (rules_of s) level bytes (token_needed s.token s.bounds.depth s.frames)
tokens_need s used level bytes shown c more i w = token_row s s.token level bytes shown c.bounds c.token more i w
