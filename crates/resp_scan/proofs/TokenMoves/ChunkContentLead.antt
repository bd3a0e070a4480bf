-- Content of chunks, and its end.
use Rattle.std.specs.Prelude.{true, false, cond, eqb}
use Rattle.std.proofs.lemmas.Bool.Decides.{nat_tests}
use Rattle.std.proofs.Common.{◌≡◌, ℕ, ◌+◌, ◌-◌, ◌<◌, ◌≤◌, List, [], ◌∷◌, ◌++◌, length, refl, sym, ap, subst, ◌∙◌, arith, append_assoc, append-nil, length-append}
use Rattle.resp_value.specs.Bytes.{IsByte, crlf}
use Rattle.resp_value.specs.Numbers.{number}
use Rattle.resp_value.specs.Trees.{Chunk, chunks_text, joined_content}
use Rattle.resp_value.specs.Rules.{Rules, Grammar}
use Rattle.resp_value.proofs.FirstBytes.{all_append}
use Rattle.resp_value.proofs.Unique.{chunks_text-append}
use Rattle.resp_fronts.specs.Events.{Event}
use Rattle.resp_fronts.specs.Events as e
use Rattle.resp_fronts.proofs.FirstLines.CountRows.{CompletesUnder}
use Rattle.resp_fronts.proofs.Tokens.BegunFronts.{IsBegunBy}
use Rattle.resp_fronts.proofs.Tokens.StreamedStrings.{all_with, chunks_text-with, with_chunks}
use Rattle.resp_fronts.proofs.Refusals.ContentLength.{joined-with}
use Rattle.resp_fronts.proofs.Tokens.ChunkTokens.{chunk_content_begun, chunk_returned_begun, joined_after, streamed_text}
use Rattle.resp_fronts.proofs.Refusals.BrokenChunks.{chunk_content_broken, chunk_returned_broken}
use Rattle.resp_scan.specs.Machine.Tokens.{Place, Go, AtChunk, InChunk, AtChunkCr, AtChunkLf, at}
use Rattle.resp_scan.specs.Machine.Heads.{chunk_at}
use Rattle.resp_scan.specs.Kinds.{content_events, rules_of}
use Rattle.resp_scan.specs.Machine.Beginnings.{ChunkBegun, ChunksBegun}
use Rattle.resp_scan.specs.Machine.Standing.{IsInside, Leads, StandsAfter}
use Rattle.resp_scan.proofs.TokenMoves.ByteTests.{wanted}
use Rattle.resp_scan.proofs.TokenMoves.ChunksBegun.{are_whole, chunks_more, text_more}
use Rattle.resp_scan.proofs.TokenMoves.LeafEvents.{content_events-append}
use Rattle.resp_scan.proofs.TokenMoves.Moves.{goes, retold, tells, ALead}
use Rattle.resp_scan.proofs.TokenMoves.RefusedMoves.{broken}

-- a chunk's line, and what is begun of its content
abbrev pub chunk_text : List ℕ → List ℕ → List ℕ
chunk_text digits begun = (59 ∷ digits) ++ crlf begun

text_grows : (digits begun more : List ℕ) → chunk_text digits begun ++ more ≡ chunk_text digits (begun ++ more)
text_grows digits begun more = append_assoc (59 ∷ digits) (crlf begun) more

-- content, whether bytes of it are left or none
chunk_lies : (s : Place) (room n : ℕ) (front : List ℕ) (es : List Event) → IsInside (rules_of s) (ChunkBegun (rules_of s) room n []) s.frames front es →
    StandsAfter (chunk_at room n s) front es
chunk_lies s room n front es w =
    elim (eqb n 0) as (λ z. eqb n 0 ≡ z → StandsAfter (at s (cond z (AtChunkCr room) (InChunk room n))) front es) [
      | true ↦ λ z. let none : n ≡ 0 = grind (arith, nat_tests) in
          subst (λ m. IsInside (rules_of s) (ChunkBegun (rules_of s) room m []) s.frames front es) none w
      | false ↦ λ z. retold (rules_of s) (ChunkBegun (rules_of s) room n []) (λ level bytes shown. ChunkBegun (rules_of s) room n [] level bytes shown ×
          (0 < n)) s.frames front es w (λ level bytes shown t. (t, grind (arith, nat_tests)))
    ] refl

chunk_more : (r : Rules) (room n level byte : ℕ) (bytes : List ℕ) (shown : List Event) → byte < 256 → 0 < n → ChunkBegun r room n [] level bytes shown →
    ChunkBegun r room (n - 1) [] level (bytes ++ byte ∷ []) (shown ++ e.Byte byte ∷ [])
chunk_more r room n level byte bytes shown is_byte some w =
    let grown : chunk_text w.digits (w.part ++ []) ++ byte ∷ [] ≡ chunk_text w.digits ((w.part ++ byte ∷ []) ++ []) =
    text_grows w.digits (w.part ++ []) (byte ∷ []) ∙ ap (chunk_text w.digits) (ap (λ z. z ++ byte ∷ []) (append-nil w.part) ∙
    sym (append-nil (w.part ++ byte ∷ []))) in
    record {
      digits = w.digits;
      part = w.part ++ byte ∷ [];
      before = w.before;
      are_digits = w.are_digits;
      is_text = all_append IsByte w.part (byte ∷ []) w.is_text (is_byte, tt);
      valued = omega (arith, w.valued, length-append w.part (byte ∷ []));
      some = w.some;
      chunks = subst (λ z. ChunksBegun r (room + number w.digits) z level (bytes ++ byte ∷ []) w.before) grown
          (chunks_more r (room + number w.digits) (chunk_text w.digits (w.part ++ [])) (byte ∷ []) level bytes w.before w.chunks);
      told = ap (λ z. z ++ e.Byte byte ∷ []) w.told ∙ append_assoc w.before (content_events w.part) (e.Byte byte ∷ []) ∙
          ap (λ z. w.before ++ z) (sym (content_events-append w.part (byte ∷ [])));
    }

-- every byte within a chunk's content
pub chunk_content_leads : (s : Place) (room n : ℕ) → ALead (at s (InChunk room n))
chunk_content_leads s room n used byte front es is_byte c w =
    let r = rules_of s in
    chunk_lies s room (n - 1) (front ++ byte ∷ []) (es ++ e.Byte byte ∷ [])
    (tells r (λ level bytes shown. ChunkBegun r room n [] level bytes shown × (0 < n)) (ChunkBegun r room (n - 1) []) s.frames front (byte ∷ []) es
    (e.Byte byte ∷ []) w (λ level bytes shown i t. chunk_more r room n level byte bytes shown is_byte t.1 t.0))

-- the CR after its content
chunk_returns : (r : Rules) (room level : ℕ) (bytes : List ℕ) (shown : List Event) → ChunkBegun r room 0 [] level bytes shown →
    ChunkBegun r room 0 (13 ∷ []) level (bytes ++ 13 ∷ []) shown
chunk_returns r room level bytes shown w =
    let grown : chunk_text w.digits (w.part ++ []) ++ 13 ∷ [] ≡ chunk_text w.digits (w.part ++ 13 ∷ []) = text_grows w.digits (w.part ++ []) (13 ∷ []) ∙
    ap (λ z. chunk_text w.digits (z ++ 13 ∷ [])) (append-nil w.part) in
    record {
      digits = w.digits;
      part = w.part;
      before = w.before;
      are_digits = w.are_digits;
      is_text = w.is_text;
      valued = w.valued;
      some = w.some;
      chunks = subst (λ z. ChunksBegun r (room + number w.digits) z level (bytes ++ 13 ∷ []) w.before) grown
          (chunks_more r (room + number w.digits) (chunk_text w.digits (w.part ++ [])) (13 ∷ []) level bytes w.before w.chunks);
      told = w.told;
    }

fits : (r : Rules) (room n : ℕ) (beyond : List ℕ) (level : ℕ) (bytes : List ℕ) (shown : List Event) (w : ChunkBegun r room n beyond level bytes shown) →
    length (joined_content w.chunks.chunks) + number w.digits ≤ r.limits.length
fits r room n beyond level bytes shown w = omega (arith, w.chunks.leaves)

-- within its content
pub content_row : (r : Rules) (room n level : ℕ) (bytes : List ℕ) (shown : List Event) → ChunkBegun r room n [] level bytes shown →
    IsBegunBy r level bytes (n + 6)
content_row r room n level bytes shown w =
    let row = chunk_content_begun r level w.chunks.chunks w.digits w.part n (are_whole w.chunks) w.are_digits w.is_text w.some w.valued
    (fits r room n [] level bytes shown w) in
    subst (λ z. IsBegunBy r level z (n + 6)) (ap (λ z. streamed_text w.chunks.chunks (chunk_text w.digits z)) (sym (append-nil w.part)) ∙ sym w.chunks.are) row

-- every byte after a chunk's content
pub chunk_returns_lead : (s : Place) (room : ℕ) → ALead (at s (AtChunkCr room))
chunk_returns_lead s room used byte front es is_byte c w =
    let r = rules_of s in
    let v = Go (at s (AtChunkLf room)) in
    wanted (at s (AtChunkCr room)) front es 13 byte v
    (λ is_return. subst (λ z. Leads (at s (AtChunkCr room)) front es z v) (sym is_return)
    (goes r (ChunkBegun r room 0 []) (ChunkBegun r room 0 (13 ∷ [])) s.frames front (13 ∷ []) es w
    (λ level bytes shown i t. chunk_returns r room level bytes shown t)))
    (λ other. broken r (ChunkBegun r room 0 []) s.frames front es 6 byte w (λ level bytes shown i t. content_row r room 0 level bytes shown t)
    (λ level bytes rest shown t d. chunk_content_broken r level t.chunks.chunks t.digits t.part rest byte t.chunks.are_chunks t.are_digits t.some
    (omega (arith, t.valued)) other (subst (λ z. CompletesUnder r Grammar level z (byte ∷ rest)) t.chunks.are d)))

-- and the LF, with which it is whole
chunk_ends : (r : Rules) (room level : ℕ) (bytes : List ℕ) (shown : List Event) → ChunkBegun r room 0 (13 ∷ []) level bytes shown →
    ChunksBegun r room [] level (bytes ++ 10 ∷ []) shown
chunk_ends r room level bytes shown w =
    let one : List Chunk = record { digits = w.digits; content = w.part } ∷ [] in
    let cs = w.chunks.chunks in
    let size : number w.digits ≡ length w.part = omega (arith, w.valued) in
    let grown : chunk_text w.digits (w.part ++ 13 ∷ []) ++ 10 ∷ [] ≡ chunks_text one [] = text_grows w.digits (w.part ++ 13 ∷ []) (10 ∷ []) ∙
    ap (chunk_text w.digits) (append_assoc w.part (13 ∷ []) (10 ∷ [])) in
    let all : joined_content (with_chunks cs one) ≡ joined_content cs ++ w.part = joined_after cs one ∙ ap (λ z. joined_content cs ++ z) (append-nil w.part) in
    record {
      chunks = with_chunks cs one;
      are_chunks = all_with cs one w.chunks.are_chunks (((w.are_digits, size), omega (arith, size, w.some), w.is_text), tt);
      has_streamed = w.chunks.has_streamed;
      leaves = omega (arith, w.chunks.leaves, size, joined-with cs one, length-append w.part []);
      are = text_more (10 ∷ []) w.chunks ∙ ap (λ z. streamed_text cs z) grown ∙ ap (λ z. 36 ∷ 63 ∷ crlf z) (sym (chunks_text-with cs one []));
      told = w.told ∙ ap (λ z. z ++ content_events w.part) w.chunks.told ∙
          ap (λ z. e.Text e.Bulk ∷ z) (sym (ap content_events all ∙ content_events-append (joined_content cs) w.part));
    }

-- after the CR of its content
pub returned_row : (r : Rules) (room level : ℕ) (bytes : List ℕ) (shown : List Event) → ChunkBegun r room 0 (13 ∷ []) level bytes shown →
    IsBegunBy r level bytes 5
returned_row r room level bytes shown w =
    let cs = w.chunks.chunks in
    let row = chunk_returned_begun r level cs w.digits w.part (are_whole w.chunks) w.are_digits w.is_text w.some (omega (arith, w.valued))
    (fits r room 0 (13 ∷ []) level bytes shown w) in
    let e : streamed_text cs (chunk_text w.digits w.part) ++ 13 ∷ [] ≡ bytes =
    ap (λ z. 36 ∷ 63 ∷ crlf z) (chunks_text-append cs (chunk_text w.digits w.part) (13 ∷ [])) ∙
    ap (λ z. streamed_text cs z) (text_grows w.digits w.part (13 ∷ [])) ∙ sym w.chunks.are in
    subst (λ z. IsBegunBy r level z 5) e row

-- every byte after the CR of a chunk's content
pub chunk_ends_lead : (s : Place) (room : ℕ) → ALead (at s (AtChunkLf room))
chunk_ends_lead s room used byte front es is_byte c w =
    let r = rules_of s in
    let v = Go (at s (AtChunk room)) in
    wanted (at s (AtChunkLf room)) front es 10 byte v
    (λ is_newline. subst (λ z. Leads (at s (AtChunkLf room)) front es z v) (sym is_newline)
    (goes r (ChunkBegun r room 0 (13 ∷ [])) (ChunksBegun r room []) s.frames front (10 ∷ []) es w
    (λ level bytes shown i t. chunk_ends r room level bytes shown t)))
    (λ other. broken r (ChunkBegun r room 0 (13 ∷ [])) s.frames front es 5 byte w (λ level bytes shown i t. returned_row r room level bytes shown t)
    (λ level bytes rest shown t d. chunk_returned_broken r level t.chunks.chunks t.digits t.part rest byte t.chunks.are_chunks t.are_digits t.some
    (omega (arith, t.valued)) other (subst (λ z. CompletesUnder r Grammar level z (byte ∷ rest)) t.chunks.are d)))
