-- Bytes that no streamed string has after whole chunks and what is begun of the next.
use Rattle.std.proofs.Common.{◌≡◌, ℕ, ◌<◌, List, [], ◌∷◌, ◌++◌, length, refl, sym, ap, subst, ◌∙◌, arith, append_assoc}
use Rattle.std.specs.List.{AllByRecursion}
use Rattle.resp_value.specs.Bytes.{crlf}
use Rattle.resp_value.specs.Numbers.{IsDigit, IsDigits, number}
use Rattle.resp_value.specs.Trees.{Chunk, IsChunk, chunks_text}
use Rattle.resp_value.specs.Rules.{Rules, Grammar}
use Rattle.resp_value.specs.LocalRules.{LeafKeeps, NodeKeeps}
use Rattle.resp_value.proofs.Splitting.{length_split, line_split, return_split}
use Rattle.resp_value.proofs.Unique.{chunk_line}
use Rattle.resp_fronts.proofs.FirstLines.BegunLines.{line_begins}
use Rattle.resp_fronts.proofs.FirstLines.CountRows.{CompletesUnder}
use Rattle.resp_fronts.proofs.Refusals.RefusedBytes.{digits_hold}
use Rattle.resp_fronts.proofs.Tokens.StreamedStrings.{completes_chunks, last}
use Rattle.resp_fronts.proofs.Refusals.BrokenLines.{after_return_broken, byte_broken, chunked_broken}
use Rattle.resp_fronts.proofs.Tokens.StreamedHeads.{mark_line}
use Rattle.resp_fronts.proofs.Tokens.ChunkTokens.{streamed_text}

-- after `$?` comes CR
pub stream_mark_broken : (r : Rules) (level : ℕ) (rest : List ℕ) (byte : ℕ) → (byte ≡ 13 → ⊥) → CompletesUnder r Grammar level (36 ∷ 63 ∷ []) (byte ∷ rest) → ⊥
stream_mark_broken r level rest byte no_return c = byte_broken (LeafKeeps r Grammar) (NodeKeeps r Grammar) level (36 ∷ 63 ∷ []) rest byte mark_line no_return
    (chunked_broken byte) c

-- after the CR of a streamed string's line comes an LF alone
pub stream_returned_broken : (r : Rules) (level : ℕ) (rest : List ℕ) (byte : ℕ) → (byte ≡ 10 → ⊥) →
    CompletesUnder r Grammar level (36 ∷ 63 ∷ 13 ∷ []) (byte ∷ rest) → ⊥
stream_returned_broken r level rest byte no_newline c = after_return_broken (LeafKeeps r Grammar) (NodeKeeps r Grammar) level (36 ∷ 63 ∷ []) rest byte
    mark_line no_newline c

-- what follows whole chunks begins with a line: that of a chunk, or the last
next_line : (cs : List Chunk) (z : List ℕ) → AllByRecursion IsChunk cs → IsDigits z → (digits : List ℕ) × (beyond : List ℕ) × IsDigits digits ×
    (chunks_text cs (last z) ≡ (59 ∷ digits) ++ crlf beyond)
next_line [] z p q = (z, [], q, refl)
next_line (c ∷ cs) z p q = (c.digits, c.content ++ crlf (chunks_text cs (last z)), p.0.0.0, refl)

-- between chunks comes `;`
pub chunks_broken : (r : Rules) (level : ℕ) (chunks : List Chunk) (rest : List ℕ) (byte : ℕ) → AllByRecursion IsChunk chunks → (byte ≡ 59 → ⊥) →
    CompletesUnder r Grammar level (streamed_text chunks []) (byte ∷ rest) → ⊥
chunks_broken r level chunks rest byte p no_mark c =
    let u = completes_chunks (LeafKeeps r Grammar) (NodeKeeps r Grammar) level chunks [] (byte ∷ rest) p c in
    let l = next_line u.more u.zeros u.are_chunks u.digits in
    let e : 59 ∷ (l.0 ++ crlf l.1) ≡ byte ∷ rest = sym l.3 ∙ u.whole in
    no_mark (cc)

-- after that a digit
pub chunk_mark_broken : (r : Rules) (level : ℕ) (chunks : List Chunk) (rest : List ℕ) (byte : ℕ) → AllByRecursion IsChunk chunks → (IsDigit byte → ⊥) →
    CompletesUnder r Grammar level (streamed_text chunks (59 ∷ [])) (byte ∷ rest) → ⊥
chunk_mark_broken r level chunks rest byte p no_digit c =
    let u = completes_chunks (LeafKeeps r Grammar) (NodeKeeps r Grammar) level chunks (59 ∷ []) (byte ∷ rest) p c in
    let l = next_line u.more u.zeros u.are_chunks u.digits in
    cases l.0 l.1 l.2 (sym l.3 ∙ u.whole)
  where
    cases : (digits beyond : List ℕ) → IsDigits digits → (59 ∷ digits) ++ crlf beyond ≡ 59 ∷ byte ∷ rest → ⊥
    cases [] beyond q e = let n : 0 < 0 = q.0 in omega arith
    cases (d ∷ digits) beyond q e = let h : d ≡ byte = cc in no_digit (subst IsDigit h q.1.0)

-- after digits a digit or CR
pub chunk_length_broken : (r : Rules) (level : ℕ) (chunks : List Chunk) (digits rest : List ℕ) (byte : ℕ) → AllByRecursion IsChunk chunks → IsDigits digits →
    (byte ≡ 13 → ⊥) → (IsDigit byte → ⊥) → CompletesUnder r Grammar level (streamed_text chunks (59 ∷ digits)) (byte ∷ rest) → ⊥
chunk_length_broken r level chunks digits rest byte p are_digits no_return no_digit c =
    let u = completes_chunks (LeafKeeps r Grammar) (NodeKeeps r Grammar) level chunks (59 ∷ digits) (byte ∷ rest) p c in
    let l = next_line u.more u.zeros u.are_chunks u.digits in
    let (beyond, a, b) = line_begins (59 ∷ l.0) (59 ∷ digits) l.1 (byte ∷ rest) (chunk_line digits are_digits) (sym l.3 ∙ u.whole) in
    cases l.0 l.1 beyond l.2 a b
  where
    cases : (all after beyond : List ℕ) → IsDigits all → 59 ∷ all ≡ (59 ∷ digits) ++ beyond → byte ∷ rest ≡ beyond ++ crlf after → ⊥
    cases all after [] q a b = let h : byte ≡ 13 = cc in no_return h
    cases all after (d ∷ beyond) q a b =
        let h : byte ≡ d = cc in
        let k : all ≡ digits ++ d ∷ beyond = cc in
        no_digit (subst IsDigit (sym h) (digits_hold digits beyond d (subst (AllByRecursion IsDigit) k q.1)))

-- after the CR an LF
pub chunk_length_returned_broken : (r : Rules) (level : ℕ) (chunks : List Chunk) (digits rest : List ℕ) (byte : ℕ) → AllByRecursion IsChunk chunks →
    IsDigits digits → (byte ≡ 10 → ⊥) → CompletesUnder r Grammar level (streamed_text chunks ((59 ∷ digits) ++ 13 ∷ [])) (byte ∷ rest) → ⊥
chunk_length_returned_broken r level chunks digits rest byte p are_digits no_newline c =
    let u = completes_chunks (LeafKeeps r Grammar) (NodeKeeps r Grammar) level chunks ((59 ∷ digits) ++ 13 ∷ []) (byte ∷ rest) p c in
    let l = next_line u.more u.zeros u.are_chunks u.digits in
    let s = return_split (59 ∷ l.0) (59 ∷ digits) (10 ∷ l.1) (byte ∷ rest) (chunk_line l.0 l.2) (chunk_line digits are_digits)
    (sym l.3 ∙ u.whole ∙ append_assoc (59 ∷ digits) (13 ∷ []) (byte ∷ rest)) in
    let e : 10 ∷ l.1 ≡ byte ∷ rest = s.1 in
    no_newline (cc)

-- digits that aren't those of zero are a chunk's
chunk_stands : (cs : List Chunk) (z digits rest : List ℕ) → AllByRecursion IsChunk cs → IsDigits z → number z ≡ 0 → IsDigits digits → 0 < number digits →
    chunks_text cs (last z) ≡ (59 ∷ digits) ++ crlf rest → (content : List ℕ) × (beyond : List ℕ) × (length content ≡ number digits) ×
    (content ++ crlf beyond ≡ rest)
chunk_stands [] z digits rest p q zero i some e =
    let s = line_split (59 ∷ z) (59 ∷ digits) [] rest (chunk_line z q) (chunk_line digits i) e in
    let h : 59 ∷ z ≡ 59 ∷ digits = s.0 in
    let k : z ≡ digits = cc in
    absurd (omega (arith, ap number k))
chunk_stands (c ∷ cs) z digits rest p q zero i some e =
    let s = line_split (59 ∷ c.digits) (59 ∷ digits) (c.content ++ crlf (chunks_text cs (last z))) rest (chunk_line c.digits p.0.0.0) (chunk_line digits i) e in
    let h : 59 ∷ c.digits ≡ 59 ∷ digits = s.0 in
    let k : c.digits ≡ digits = cc in
    let says : number c.digits ≡ length c.content = p.0.0.1 in
    (c.content, chunks_text cs (last z), sym says ∙ ap number k, s.1)

-- what follows a whole chunk's content
content_goes_on : (r : Rules) (level : ℕ) (chunks : List Chunk) (digits part more rest : List ℕ) → AllByRecursion IsChunk chunks → IsDigits digits →
    0 < number digits → number digits ≡ length part → CompletesUnder r Grammar level (streamed_text chunks ((59 ∷ digits) ++ crlf (part ++ more))) rest →
    (beyond : List ℕ) × (crlf beyond ≡ more ++ rest)
content_goes_on r level chunks digits part more rest p are_digits some size c =
    let u = completes_chunks (LeafKeeps r Grammar) (NodeKeeps r Grammar) level chunks ((59 ∷ digits) ++ crlf (part ++ more)) rest p c in
    let s = chunk_stands u.more u.zeros digits ((part ++ more) ++ rest) u.are_chunks u.digits u.zero are_digits some
    (u.whole ∙ append_assoc (59 ∷ digits) (crlf (part ++ more)) rest) in
    let t = length_split s.0 part (crlf s.1) (more ++ rest) (omega (arith, s.2, size)) (s.3 ∙ append_assoc part more rest) in
    (s.1, t.1)

-- after a chunk's content CR
pub chunk_content_broken : (r : Rules) (level : ℕ) (chunks : List Chunk) (digits part rest : List ℕ) (byte : ℕ) → AllByRecursion IsChunk chunks →
    IsDigits digits → 0 < number digits → number digits ≡ length part → (byte ≡ 13 → ⊥) →
    CompletesUnder r Grammar level (streamed_text chunks ((59 ∷ digits) ++ crlf (part ++ []))) (byte ∷ rest) → ⊥
chunk_content_broken r level chunks digits part rest byte p are_digits some size no_return c =
    let s = content_goes_on r level chunks digits part [] (byte ∷ rest) p are_digits some size c in
    let e : 13 ∷ 10 ∷ s.0 ≡ byte ∷ rest = s.1 in
    no_return (cc)

-- after the CR of a chunk's content comes an LF alone
pub chunk_returned_broken : (r : Rules) (level : ℕ) (chunks : List Chunk) (digits part rest : List ℕ) (byte : ℕ) → AllByRecursion IsChunk chunks →
    IsDigits digits → 0 < number digits → number digits ≡ length part → (byte ≡ 10 → ⊥) →
    CompletesUnder r Grammar level (streamed_text chunks ((59 ∷ digits) ++ crlf (part ++ 13 ∷ []))) (byte ∷ rest) → ⊥
chunk_returned_broken r level chunks digits part rest byte p are_digits some size no_newline c =
    let s = content_goes_on r level chunks digits part (13 ∷ []) (byte ∷ rest) p are_digits some size c in
    let e : 13 ∷ 10 ∷ s.0 ≡ 13 ∷ byte ∷ rest = s.1 in
    no_newline (cc)
