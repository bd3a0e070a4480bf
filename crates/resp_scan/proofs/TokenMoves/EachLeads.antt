-- Every byte, at every token at which bytes are looked at.
use Rattle.std.specs.Prelude.{true}
use Rattle.std.proofs.Common.{◌≡◌, ℕ, ◌+◌, ◌<◌, List, refl, sym, subst}
use Rattle.resp_fronts.specs.Events.{Event}
use Rattle.resp_scan.specs.declared.machine.Head.{Head}
use Rattle.resp_scan.specs.declared.machine.Head.TheVariants as head
use Rattle.resp_scan.specs.Machine.Tokens.{Place, Token, at, AtStart, AtEnd, InLine, InDouble, AtLineLf, AtIntSign, AtIntFirst, InInt, AtIntLf, AtBigSign, AtBigFirst, InBigZeros, AtBigZeroLf, AtBigDigit, InBig, AtTextEnd, AtNullOne, AtNullCr, AtNullLf, AtBool, AtBoolCr, AtBoolLf, AtBulkHead, AtArrayHead, AtHead, InHead, AtHeadLf, AtFormat, AtFormatSecond, AtFormatThird, AtFormatColon, InContent, AtContentCr, AtContentLf, AtStreamCr, AtStreamLf, AtChunk, InChunk, AtChunkCr, AtChunkLf, AtOpenCr, AtOpenLf, AtCloseCr, AtCloseLf, Dead}
use Rattle.resp_scan.specs.Machine.Moves.{next}
use Rattle.resp_scan.specs.Machine.Standing.{HasCountsOf, Leads, StandsAfter}
use Rattle.resp_scan.proofs.TokenMoves.BigNumbersLead.{big_first_leads, big_leads, big_sign_leads, big_zero_end_leads, big_zeros_lead}
use Rattle.resp_scan.proofs.HeadMoves.BulkHeadLeads.{bulk_head_leads}
use Rattle.resp_scan.proofs.TokenMoves.ChunkContentLead.{chunk_content_leads, chunk_ends_lead, chunk_returns_lead}
use Rattle.resp_scan.proofs.HeadMoves.ChunkHeadsLead.{chunk_heads_lead, chunk_length_ends_lead, chunk_lengths_lead}
use Rattle.resp_scan.proofs.TokenMoves.ClosesLead.{close_cr_leads, close_end_leads}
use Rattle.resp_scan.proofs.TokenMoves.ContentLead.{content_ends_lead, content_leads, content_returns_lead}
use Rattle.resp_scan.proofs.HeadMoves.CountsLead.{counts_lead}
use Rattle.resp_scan.proofs.TokenMoves.FormatsLead.{colons_lead, formats_lead, second_format_bytes_lead, third_format_bytes_lead}
use Rattle.resp_scan.proofs.HeadMoves.HeadsLead.{array_head_leads, heads_lead, open_cr_leads, open_end_leads}
use Rattle.resp_scan.proofs.TokenMoves.DoublesLead.{doubles_lead}
use Rattle.resp_scan.proofs.TokenMoves.LinesLead.{line_ends_lead, lines_lead}
use Rattle.resp_scan.proofs.TokenMoves.LiteralsLead.{bool_cr_leads, bool_end_leads, bool_leads, null_cr_leads, null_end_leads, null_one_leads}
use Rattle.resp_scan.proofs.TokenMoves.NumbersLead.{int_end_leads, int_first_leads, int_leads, int_sign_leads}
use Rattle.resp_scan.proofs.HeadMoves.OpensLead.{head_ends_lead}
use Rattle.resp_scan.proofs.TokenMoves.StartLeads.{start_leads}
use Rattle.resp_scan.proofs.TokenMoves.StreamsLead.{chunks_lead, stream_ends_lead, streams_lead}
use Rattle.resp_scan.proofs.HeadMoves.StringHeadsLead.{string_heads_lead, string_lengths_lead}
use Rattle.resp_scan.proofs.TokenMoves.StringLengthEndsLead.{string_length_ends_lead}
use Rattle.resp_scan.proofs.Soundness.SoundMoves.{is_outside}
use Rattle.resp_scan.proofs.TokenMoves.Moves.{ALead}

-- a token at which no byte is looked at has none
abbrev pub IsLookedAt : Token → ℕ → Type 0
IsLookedAt t used = is_outside t ≡ true → (t ≡ AtStart) × (used ≡ 0)

abbrev LeadsFrom : Token → Place → ℕ → ℕ → List ℕ → List Event → Type 0
LeadsFrom t s used byte front es = Leads (at s t) front es byte (next (at s t) (used + 1) byte)

a_head_leads : (h : Head) (s : Place) → ALead (at s (AtHead h))
a_head_leads head.Bulk s = string_heads_lead s head.Bulk tt
a_head_leads head.BulkError s = string_heads_lead s head.BulkError tt
a_head_leads head.Verbatim s = string_heads_lead s head.Verbatim tt
a_head_leads (head.Chunk room) s = chunk_heads_lead s room
a_head_leads head.Array s = λ used byte front es is_byte c w. absurd w.took
a_head_leads head.Set s = heads_lead s head.Set tt
a_head_leads head.Map s = heads_lead s head.Map tt
a_head_leads head.Attr s = heads_lead s head.Attr tt
a_head_leads head.Push s = heads_lead s head.Push tt

a_count_leads : (h : Head) (n : ℕ) (s : Place) → ALead (at s (InHead h n))
a_count_leads head.Bulk n s = string_lengths_lead s head.Bulk n tt
a_count_leads head.BulkError n s = string_lengths_lead s head.BulkError n tt
a_count_leads head.Verbatim n s = string_lengths_lead s head.Verbatim n tt
a_count_leads (head.Chunk room) n s = chunk_lengths_lead s room n
a_count_leads head.Array n s = counts_lead s head.Array n tt
a_count_leads head.Set n s = counts_lead s head.Set n tt
a_count_leads head.Map n s = counts_lead s head.Map n tt
a_count_leads head.Attr n s = counts_lead s head.Attr n tt
a_count_leads head.Push n s = counts_lead s head.Push n tt

a_head_end_leads : (h : Head) (n : ℕ) (s : Place) → ALead (at s (AtHeadLf h n))
a_head_end_leads head.Bulk n s = string_length_ends_lead s head.Bulk n tt
a_head_end_leads head.BulkError n s = string_length_ends_lead s head.BulkError n tt
a_head_end_leads head.Verbatim n s = string_length_ends_lead s head.Verbatim n tt
a_head_end_leads (head.Chunk room) n s = chunk_length_ends_lead s room n
a_head_end_leads head.Array n s = head_ends_lead s head.Array n tt
a_head_end_leads head.Set n s = head_ends_lead s head.Set n tt
a_head_end_leads head.Map n s = head_ends_lead s head.Map n tt
a_head_end_leads head.Attr n s = head_ends_lead s head.Attr n tt
a_head_end_leads head.Push n s = head_ends_lead s head.Push n tt

-- the place that a byte leads to lies at the longer front, and a byte that is refused has its cause
pub each_leads : (t : Token) (s : Place) (used byte : ℕ) (front : List ℕ) (es : List Event) → byte < 256 → HasCountsOf (at s t) used front → IsLookedAt t used →
    StandsAfter (at s t) front es → LeadsFrom t s used byte front es
each_leads AtStart s used byte front es is_byte c at_front w =
    let first : used ≡ 0 = (at_front refl).1 in
    subst (λ n. LeadsFrom AtStart s n byte front es) (sym first) (start_leads s byte front es is_byte (subst (λ n. HasCountsOf (at s AtStart) n front) first c)
    w)
each_leads AtEnd s used byte front es is_byte c at_front w = absurd (let e : AtEnd ≡ AtStart = (at_front refl).0 in cc)
each_leads AtTextEnd s used byte front es is_byte c at_front w = absurd (let e : AtTextEnd ≡ AtStart = (at_front refl).0 in cc)
each_leads (AtBigDigit digit room) s used byte front es is_byte c at_front w = absurd (let e : AtBigDigit digit room ≡ AtStart = (at_front refl).0 in cc)
each_leads (Dead cause) s used byte front es is_byte c at_front w = absurd (let e : Dead cause ≡ AtStart = (at_front refl).0 in cc)
each_leads (InLine room) s used byte front es is_byte c at_front w = lines_lead s room used byte front es is_byte c w
each_leads (InDouble stage room) s used byte front es is_byte c at_front w = doubles_lead s stage room used byte front es is_byte c w
each_leads AtLineLf s used byte front es is_byte c at_front w = line_ends_lead s used byte front es is_byte c w
each_leads AtIntSign s used byte front es is_byte c at_front w = int_sign_leads s used byte front es is_byte c w
each_leads (AtIntFirst negative) s used byte front es is_byte c at_front w = int_first_leads s negative used byte front es is_byte c w
each_leads (InInt negative n) s used byte front es is_byte c at_front w = int_leads s negative n used byte front es is_byte c w
each_leads (AtIntLf negative n) s used byte front es is_byte c at_front w = int_end_leads s negative n used byte front es is_byte c w
each_leads AtBigSign s used byte front es is_byte c at_front w = big_sign_leads s used byte front es is_byte c w
each_leads (AtBigFirst negative) s used byte front es is_byte c at_front w = big_first_leads s negative used byte front es is_byte c w
each_leads (InBigZeros negative) s used byte front es is_byte c at_front w = big_zeros_lead s negative used byte front es is_byte c w
each_leads AtBigZeroLf s used byte front es is_byte c at_front w = big_zero_end_leads s used byte front es is_byte c w
each_leads (InBig room) s used byte front es is_byte c at_front w = big_leads s room used byte front es is_byte c w
each_leads AtNullOne s used byte front es is_byte c at_front w = null_one_leads s used byte front es is_byte c w
each_leads AtNullCr s used byte front es is_byte c at_front w = null_cr_leads s used byte front es is_byte c w
each_leads AtNullLf s used byte front es is_byte c at_front w = null_end_leads s used byte front es is_byte c w
each_leads AtBool s used byte front es is_byte c at_front w = bool_leads s used byte front es is_byte c w
each_leads (AtBoolCr x) s used byte front es is_byte c at_front w = bool_cr_leads s x used byte front es is_byte c w
each_leads (AtBoolLf x) s used byte front es is_byte c at_front w = bool_end_leads s x used byte front es is_byte c w
each_leads AtBulkHead s used byte front es is_byte c at_front w = bulk_head_leads s used byte front es is_byte c w
each_leads AtArrayHead s used byte front es is_byte c at_front w = array_head_leads s used byte front es is_byte c w
each_leads (AtHead h) s used byte front es is_byte c at_front w = a_head_leads h s used byte front es is_byte c w
each_leads (InHead h n) s used byte front es is_byte c at_front w = a_count_leads h n s used byte front es is_byte c w
each_leads (AtHeadLf h n) s used byte front es is_byte c at_front w = a_head_end_leads h n s used byte front es is_byte c w
each_leads (AtFormat n) s used byte front es is_byte c at_front w = formats_lead s n used byte front es is_byte c w
each_leads (AtFormatSecond x n) s used byte front es is_byte c at_front w = second_format_bytes_lead s x n used byte front es is_byte c w
each_leads (AtFormatThird x y n) s used byte front es is_byte c at_front w = third_format_bytes_lead s x y n used byte front es is_byte c w
each_leads (AtFormatColon format n) s used byte front es is_byte c at_front w = colons_lead s format n used byte front es is_byte c w
each_leads (InContent n) s used byte front es is_byte c at_front w = content_leads s n used byte front es is_byte c w
each_leads AtContentCr s used byte front es is_byte c at_front w = content_returns_lead s used byte front es is_byte c w
each_leads AtContentLf s used byte front es is_byte c at_front w = content_ends_lead s used byte front es is_byte c w
each_leads AtStreamCr s used byte front es is_byte c at_front w = streams_lead s used byte front es is_byte c w
each_leads AtStreamLf s used byte front es is_byte c at_front w = stream_ends_lead s used byte front es is_byte c w
each_leads (AtChunk room) s used byte front es is_byte c at_front w = chunks_lead s room used byte front es is_byte c w
each_leads (InChunk room n) s used byte front es is_byte c at_front w = chunk_content_leads s room n used byte front es is_byte c w
each_leads (AtChunkCr room) s used byte front es is_byte c at_front w = chunk_returns_lead s room used byte front es is_byte c w
each_leads (AtChunkLf room) s used byte front es is_byte c at_front w = chunk_ends_lead s room used byte front es is_byte c w
each_leads (AtOpenCr k) s used byte front es is_byte c at_front w = open_cr_leads s k used byte front es is_byte c w
each_leads (AtOpenLf k) s used byte front es is_byte c at_front w = open_end_leads s k used byte front es is_byte c w
each_leads AtCloseCr s used byte front es is_byte c at_front w = close_cr_leads s used byte front es is_byte c w
each_leads AtCloseLf s used byte front es is_byte c at_front w = close_end_leads s used byte front es is_byte c w
