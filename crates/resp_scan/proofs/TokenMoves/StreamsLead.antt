-- The head of a streamed string, and the bytes between its chunks.
use Rattle.std.proofs.Common.{◌≡◌, ℕ, List, [], ◌∷◌, ◌++◌, sym, ap, subst, arith}
use Rattle.resp_value.specs.Rules.{Rules, Grammar}
use Rattle.resp_fronts.specs.Events.{Event}
use Rattle.resp_fronts.specs.Events as e
use Rattle.resp_fronts.proofs.FirstLines.CountRows.{CompletesUnder}
use Rattle.resp_fronts.proofs.Tokens.BegunFronts.{IsBegunBy}
use Rattle.resp_fronts.proofs.Tokens.StreamedHeads.{streamed_string_begun}
use Rattle.resp_fronts.proofs.Tokens.ChunkTokens.{chunks_begun, stream_returned_begun}
use Rattle.resp_fronts.proofs.Refusals.BrokenChunks.{chunks_broken, stream_mark_broken, stream_returned_broken}
use Rattle.resp_fronts.specs.Tokens.{HasStreamed}
use Rattle.resp_scan.specs.declared.event.TextKind.TheVariants as text
use Rattle.resp_scan.specs.declared.machine.Head.TheVariants as head
use Rattle.resp_scan.specs.Machine.Tokens.{Go, Give, Text, AtStreamCr, AtStreamLf, AtChunk, AtHead, at, Place}
use Rattle.resp_scan.specs.Kinds.{rules_of}
use Rattle.resp_scan.specs.Machine.Beginnings.{ChunksBegun}
use Rattle.resp_scan.specs.Machine.Standing.{Leads, StandsAfter}
use Rattle.resp_scan.proofs.TokenMoves.ByteTests.{wanted}
use Rattle.resp_scan.proofs.TokenMoves.ChunksBegun.{are_whole, chunks_more}
use Rattle.resp_scan.proofs.TokenMoves.Moves.{goes, tells, ALead}
use Rattle.resp_scan.proofs.TokenMoves.RefusedMoves.{broken}

-- these bytes of a streamed string's line
abbrev IsStream : Rules → List ℕ → ℕ → List ℕ → List Event → Type 0
IsStream r line level bytes shown = HasStreamed r × (bytes ≡ line) × (shown ≡ [])

-- every byte after `$?`
pub streams_lead : (s : Place) → ALead (at s AtStreamCr)
streams_lead s used byte front es is_byte c w =
    let r = rules_of s in
    wanted (at s AtStreamCr) front es 13 byte (Go (at s AtStreamLf))
    (λ is_return. subst (λ z. StandsAfter (at s AtStreamLf) (front ++ z ∷ []) es) (sym is_return)
    (goes r (IsStream r (36 ∷ 63 ∷ [])) (IsStream r (36 ∷ 63 ∷ 13 ∷ [])) s.frames front (13 ∷ []) es w
    (λ level bytes shown i t. (t.0, ap (λ z. z ++ 13 ∷ []) t.1, t.2))))
    (λ other. broken r (IsStream r (36 ∷ 63 ∷ [])) s.frames front es 6 byte w
    (λ level bytes shown i t. subst (λ z. IsBegunBy r level z 6) (sym t.1) (streamed_string_begun r level t.0))
    (λ level bytes rest shown t d. stream_mark_broken r level rest byte other (subst (λ z. CompletesUnder r Grammar level z (byte ∷ rest)) t.1 d)))

-- its LF
chunks_begin : (r : Rules) (level : ℕ) (bytes : List ℕ) (shown : List Event) → IsStream r (36 ∷ 63 ∷ 13 ∷ []) level bytes shown →
    ChunksBegun r r.limits.length [] level (bytes ++ 10 ∷ []) (shown ++ e.Text e.Bulk ∷ [])
chunks_begin r level bytes shown t = record {
  chunks = [];
  are_chunks = tt;
  has_streamed = t.0;
  leaves = omega arith;
  are = ap (λ z. z ++ 10 ∷ []) t.1;
  told =
      ap (λ z. z ++ e.Text e.Bulk ∷ []) t.2;
}

-- every byte after the CR of `$?`
pub stream_ends_lead : (s : Place) → ALead (at s AtStreamLf)
stream_ends_lead s used byte front es is_byte c w =
    let r = rules_of s in
    let v = Give (Text text.Bulk) (at s (AtChunk s.bounds.length)) in
    wanted (at s AtStreamLf) front es 10 byte v
    (λ is_newline. subst (λ z. Leads (at s AtStreamLf) front es z v) (sym is_newline)
    (tells r (IsStream r (36 ∷ 63 ∷ 13 ∷ [])) (ChunksBegun r s.bounds.length []) s.frames front (10 ∷ []) es (e.Text e.Bulk ∷ []) w
    (λ level bytes shown i t. chunks_begin r level bytes shown t)))
    (λ other. broken r (IsStream r (36 ∷ 63 ∷ 13 ∷ [])) s.frames front es 5 byte w
    (λ level bytes shown i t. subst (λ z. IsBegunBy r level z 5) (sym t.1) (stream_returned_begun r level t.0))
    (λ level bytes rest shown t d. stream_returned_broken r level rest byte other (subst (λ z. CompletesUnder r Grammar level z (byte ∷ rest)) t.1 d)))

-- every byte where a chunk may begin
pub chunks_lead : (s : Place) (room : ℕ) → ALead (at s (AtChunk room))
chunks_lead s room used byte front es is_byte c w =
    let r = rules_of s in
    let v = Go (at s (AtHead (head.Chunk room))) in
    wanted (at s (AtChunk room)) front es 59 byte v
    (λ is_mark. subst (λ z. Leads (at s (AtChunk room)) front es z v) (sym is_mark)
    (goes r (ChunksBegun r room []) (ChunksBegun r room (59 ∷ [])) s.frames front (59 ∷ []) es w
    (λ level bytes shown i t. chunks_more r room [] (59 ∷ []) level bytes shown t)))
    (λ other. broken r (ChunksBegun r room []) s.frames front es 4 byte w
    (λ level bytes shown i t. subst (λ z. IsBegunBy r level z 4) (sym t.are) (chunks_begun r level t.chunks (are_whole t)))
    (λ level bytes rest shown t d. chunks_broken r level t.chunks rest byte t.are_chunks other
    (subst (λ z. CompletesUnder r Grammar level z (byte ∷ rest)) t.are d)))
