-- Tokens of streamed strings: whole chunks, and what is begun after them.
use Rattle.std.proofs.Common.{◌≡◌, ℕ, suc, ◌+◌, ◌<◌, ◌≤◌, List, [], ◌∷◌, ◌++◌, length, refl, sym, ap, subst, ◌∙◌, arith, append_assoc, length-append}
use Rattle.std.specs.List.{AllByRecursion}
use Rattle.resp_value.specs.Bytes.{IsByte, IsText, crlf}
use Rattle.resp_value.specs.Numbers.{IsDigits, number}
use Rattle.resp_value.specs.Trees.{Chunk, IsChunk, chunked, chunks_text, joined_content}
use Rattle.resp_value.specs.Rules.{Rules, Rule, WithinDepth, WithinLength, WithinItems, rank}
use Rattle.resp_value.specs.LocalRules.{LeafKeeps, LeafMeets, NodeKeeps}
use Rattle.resp_value.proofs.FirstBytes.{all_append}
use Rattle.resp_fronts.specs.LeastCompletions.{HasLeast}
use Rattle.resp_fronts.proofs.FrameLaws.KeptNodes.{at_each_rule, leaf_keeps}
use Rattle.resp_fronts.proofs.FirstLines.CountRows.{CompletesUnder, IsRefusedHere}
use Rattle.resp_fronts.proofs.FirstLines.FirstLineRows.{are_zeros, length-zeros, zero_digits}
use Rattle.resp_fronts.proofs.Tokens.StreamedStrings.{chunk_row, chunks_complete, chunks_row, last, with_chunks}
use Rattle.resp_fronts.proofs.FirstLines.ShortRows.{before_newline_row, chunk_begun_row, chunk_zero_row, next_row}
use Rattle.resp_fronts.proofs.Refusals.ContentLength.{chunk_content_row, chunk_too_long, joined-with}
use Rattle.resp_fronts.proofs.Tokens.StreamedHeads.{mark_line}
use Rattle.resp_fronts.proofs.Tokens.BegunFronts.{IsBegunBy, begun_by}
use Rattle.resp_fronts.specs.Tokens.{HasStreamed, zeros}

-- a streamed string's line, whole chunks, and these bytes after them
abbrev pub streamed_text : List Chunk → List ℕ → List ℕ
streamed_text chunks begun = 36 ∷ 63 ∷ crlf (chunks_text chunks begun)

-- chunks that are whole, within the limit of length
pub record AreWhole (r : Rules) (chunks : List Chunk) : Type 0 where
  pub has_streamed : HasStreamed r
  pub are_chunks : AllByRecursion IsChunk chunks
  pub fits : length (joined_content chunks) ≤ r.limits.length

-- the content of chunks after chunks
pub joined_after : (cs es : List Chunk) → joined_content (with_chunks cs es) ≡ joined_content cs ++ joined_content es
joined_after [] es = refl
joined_after (c ∷ cs) es = ap (λ z. c.content ++ z) (joined_after cs es) ∙ sym (append_assoc c.content (joined_content cs) (joined_content es))

-- a streamed string up to the limit of length is within every rule
pub chunked_keeps : (r : Rules) (rule : Rule) (level : ℕ) (chunks : List Chunk) (zeros : List ℕ) → HasStreamed r →
    length (joined_content chunks) ≤ r.limits.length → LeafKeeps r rule level (chunked chunks zeros)
chunked_keeps r rule level chunks zeros h fits = leaf_keeps r rule level (chunked chunks zeros) tt (λ is_two. absurd (h.0 is_two)) tt (λ off. absurd (h.1 off))
    fits

more_keeps : (r : Rules) (level : ℕ) (chunks more : List Chunk) (zeros : List ℕ) → AreWhole r chunks →
    length (joined_content chunks) + length (joined_content more) ≤ r.limits.length → LeafKeeps r WithinItems level (chunked (with_chunks chunks more) zeros)
more_keeps r level chunks more zeros w fits = chunked_keeps r WithinItems level (with_chunks chunks more) zeros w.has_streamed
    (omega (arith, joined-with chunks more))

streamed_by : (r : Rules) (level : ℕ) (chunks : List Chunk) (begun : List ℕ) (n : ℕ) → 0 < n →
    HasLeast (CompletesUnder r WithinItems level (streamed_text chunks begun)) n → IsBegunBy r level (streamed_text chunks begun) n
streamed_by r level chunks begun n some least = begun_by 36 (63 ∷ crlf (chunks_text chunks begun)) some least

-- between chunks: 4
pub chunks_begun : (r : Rules) (level : ℕ) (chunks : List Chunk) → AreWhole r chunks → IsBegunBy r level (streamed_text chunks []) 4
chunks_begun r level chunks w =
    streamed_by r level chunks [] 4 (omega arith)
    (chunks_row (LeafKeeps r WithinItems) (NodeKeeps r WithinItems) level chunks w.are_chunks
    (more_keeps r level chunks [] (48 ∷ []) w (omega (arith, w.fits))))

-- after `$?` and CR: 5
pub stream_returned_begun : (r : Rules) (level : ℕ) → HasStreamed r → IsBegunBy r level (36 ∷ 63 ∷ 13 ∷ []) 5
stream_returned_begun r level h = record {
  head = 36;
  tail = 63 ∷ 13 ∷ [];
  parts = refl;
  some = omega arith;
  least = before_newline_row (LeafKeeps r WithinItems) (NodeKeeps r WithinItems) level (36 ∷ 63 ∷ []) 4 mark_line
      (chunks_begun r level [] (record { has_streamed = h; are_chunks = tt; fits = omega arith })).least;
}

-- the `;` of a chunk: 3
pub chunk_mark_begun : (r : Rules) (level : ℕ) (chunks : List Chunk) → AreWhole r chunks → IsBegunBy r level (streamed_text chunks (59 ∷ [])) 3
chunk_mark_begun r level chunks w =
    streamed_by r level chunks (59 ∷ []) 3 (omega arith)
    (chunk_begun_row (LeafKeeps r WithinItems) (NodeKeeps r WithinItems) level chunks w.are_chunks
    (more_keeps r level chunks [] (48 ∷ []) w (omega (arith, w.fits))))

-- zeros: 2
pub chunk_zero_begun : (r : Rules) (level : ℕ) (chunks : List Chunk) (digits : List ℕ) → AreWhole r chunks → IsDigits digits → number digits ≡ 0 →
    IsBegunBy r level (streamed_text chunks (59 ∷ digits)) 2
chunk_zero_begun r level chunks digits w are_digits is_zero =
    streamed_by r level chunks (59 ∷ digits) 2 (omega arith)
    (chunk_zero_row (LeafKeeps r WithinItems) (NodeKeeps r WithinItems) level chunks digits w.are_chunks (are_digits, is_zero)
    (more_keeps r level chunks [] digits w (omega (arith, w.fits))))

zeros_fit : (r : Rules) (chunks : List Chunk) (digits : List ℕ) → length (joined_content chunks) + number digits ≤ r.limits.length →
    length (joined_content chunks) + length (joined_content (record { digits = digits; content = zeros (number digits) } ∷ [])) ≤ r.limits.length
zeros_fit r chunks digits fits = omega (arith, fits, length-append (zeros (number digits)) [], length-zeros (number digits))

-- digits of a chunk's length: that, and 8
pub chunk_length_begun : (r : Rules) (level : ℕ) (chunks : List Chunk) (digits : List ℕ) → AreWhole r chunks → IsDigits digits → 0 < number digits →
    length (joined_content chunks) + number digits ≤ r.limits.length → IsBegunBy r level (streamed_text chunks (59 ∷ digits)) (number digits + 8)
chunk_length_begun r level chunks digits w are_digits some fits =
    streamed_by r level chunks (59 ∷ digits) (number digits + 8) (omega arith)
    (chunk_row (LeafKeeps r WithinItems) (NodeKeeps r WithinItems) level chunks digits w.are_chunks are_digits some
    (more_keeps r level chunks (record { digits = digits; content = zeros (number digits) } ∷ []) (48 ∷ []) w (zeros_fit r chunks digits fits)))

before_length : (r : Rules) (level : ℕ) (chunks : List Chunk) (zeros : List ℕ) → HasStreamed r → LeafKeeps r WithinDepth level (chunked chunks zeros)
before_length r level chunks zeros h earlier = at_each_rule (λ a. rank a ≤ 6 → LeafMeets r a level (chunked chunks zeros)) (λ e. tt) (λ e. λ off. tt)
    (λ e. λ is_two. absurd (h.0 is_two)) (λ e. tt) (λ e. tt) (λ e. λ off. absurd (h.1 off)) (λ e. tt) (λ e. absurd (omega arith)) (λ e. tt) (λ e. tt) earlier

-- digits past the limit
pub chunk_length_over : (r : Rules) (level : ℕ) (chunks : List Chunk) (digits : List ℕ) → AreWhole r chunks → IsDigits digits →
    r.limits.length < length (joined_content chunks) + number digits → IsRefusedHere r WithinLength WithinDepth level (streamed_text chunks (59 ∷ digits))
chunk_length_over r level chunks digits w are_digits past =
    let row = chunk_row (LeafKeeps r WithinDepth) (NodeKeeps r WithinDepth) level chunks digits w.are_chunks are_digits (omega (arith, w.fits))
    (before_length r level (with_chunks chunks (record { digits = digits; content = zeros (number digits) } ∷ [])) (48 ∷ []) w.has_streamed) in
    chunk_too_long r level chunks digits row.some w.are_chunks are_digits row.holds (omega (arith, row.size)) past

-- the CR of the line that ends the string: 1
pub chunk_zero_returned_begun : (r : Rules) (level : ℕ) (chunks : List Chunk) (digits : List ℕ) → AreWhole r chunks → IsDigits digits → number digits ≡ 0 →
    IsBegunBy r level (streamed_text chunks (59 ∷ digits) ++ 13 ∷ []) 1
chunk_zero_returned_begun r level chunks digits w are_digits is_zero = record {
  head = 36;
  tail = 63 ∷ (crlf (chunks_text chunks (59 ∷ digits)) ++ 13 ∷ []);
  parts = refl;
  some = omega arith;
  least = next_row (LeafKeeps r WithinItems) (NodeKeeps r WithinItems) level (streamed_text chunks (59 ∷ digits)) 13 1 (10 ∷ [])
      (chunk_zero_begun r level chunks digits w are_digits is_zero).least
      (chunks_complete (LeafKeeps r WithinItems) (NodeKeeps r WithinItems) level chunks (59 ∷ digits) (crlf []) w.are_chunks
      (record {
        more = [];
        zeros = digits;
        are_chunks = tt;
        digits = are_digits;
        zero = is_zero;
        keep =
            more_keeps r level chunks [] digits w (omega (arith, w.fits));
        whole = refl;
      })) refl;
}

-- that of a chunk's line: its length, and 7
pub chunk_length_returned_begun : (r : Rules) (level : ℕ) (chunks : List Chunk) (digits : List ℕ) → AreWhole r chunks → IsDigits digits → 0 < number digits →
    length (joined_content chunks) + number digits ≤ r.limits.length → IsBegunBy r level (streamed_text chunks (59 ∷ digits) ++ 13 ∷ []) (number digits + 7)
chunk_length_returned_begun r level chunks digits w are_digits some fits =
    let n = number digits in
    let s = zeros n in
    let rest = 10 ∷ (s ++ crlf (last (48 ∷ []))) in
    let size = length-zeros n in
    let row : HasLeast (CompletesUnder r WithinItems level (streamed_text chunks (59 ∷ digits))) (suc (n + 7)) =
    subst (HasLeast (CompletesUnder r WithinItems level (streamed_text chunks (59 ∷ digits)))) (omega arith)
    (chunk_length_begun r level chunks digits w are_digits some fits).least in
    record {
      head = 36;
      tail = 63 ∷ (crlf (chunks_text chunks (59 ∷ digits)) ++ 13 ∷ []);
      parts = refl;
      some = omega arith;
      least = next_row (LeafKeeps r WithinItems) (NodeKeeps r WithinItems) level (streamed_text chunks (59 ∷ digits)) 13 (n + 7) rest row
          (chunks_complete (LeafKeeps r WithinItems) (NodeKeeps r WithinItems) level chunks (59 ∷ digits) (13 ∷ rest) w.are_chunks
          (record {
            more = record { digits = digits; content = s } ∷ [];
            zeros = 48 ∷ [];
            are_chunks =
                (((are_digits, sym size), omega (arith, size), are_zeros n), tt);
            digits = zero_digits;
            zero = refl;
            keep =
                more_keeps r level chunks (record { digits = digits; content = s } ∷ []) (48 ∷ []) w (zeros_fit r chunks digits fits);
            whole = refl;
          }))
          (omega (arith, length-append s (crlf (last (48 ∷ []))), size));
    }

-- a chunk's content, of which this many bytes are left: that, and 6
pub chunk_content_begun : (r : Rules) (level : ℕ) (chunks : List Chunk) (digits part : List ℕ) (left : ℕ) → AreWhole r chunks → IsDigits digits → IsText part →
    0 < number digits → number digits ≡ length part + left → length (joined_content chunks) + number digits ≤ r.limits.length →
    IsBegunBy r level (streamed_text chunks ((59 ∷ digits) ++ crlf part)) (left + 6)
chunk_content_begun r level chunks digits part left w are_digits is_text some size fits =
    let q = zeros left in
    let whole = part ++ q in
    let length_whole : length whole ≡ number digits = omega (arith, size, length-append part q, length-zeros left) in
    let is_chunk : IsChunk (record { digits = digits; content = whole }) =
    ((are_digits, sym length_whole), omega (arith, length_whole), all_append IsByte part q is_text (are_zeros left)) in
    let keeps = more_keeps r level chunks (record { digits = digits; content = whole } ∷ []) (48 ∷ []) w
    (omega (arith, fits, length_whole, length-append whole [])) in
    let row = chunk_content_row (LeafKeeps r WithinItems) (NodeKeeps r WithinItems) level chunks digits part q w.are_chunks is_chunk some keeps in
    streamed_by r level chunks ((59 ∷ digits) ++ crlf part) (left + 6) (omega arith)
    (subst (HasLeast (CompletesUnder r WithinItems level (streamed_text chunks ((59 ∷ digits) ++ crlf part)))) (omega (arith, length-zeros left)) row)

-- after the CR of a whole chunk: 5
pub chunk_returned_begun : (r : Rules) (level : ℕ) (chunks : List Chunk) (digits part : List ℕ) → AreWhole r chunks → IsDigits digits → IsText part →
    0 < number digits → number digits ≡ length part → length (joined_content chunks) + number digits ≤ r.limits.length →
    IsBegunBy r level (streamed_text chunks ((59 ∷ digits) ++ crlf part) ++ 13 ∷ []) 5
chunk_returned_begun r level chunks digits part w are_digits is_text some size fits =
    let bytes = (59 ∷ digits) ++ crlf part in
    let rest = 10 ∷ last (48 ∷ []) in
    let one : List Chunk = record { digits = digits; content = part } ∷ [] in
    record {
      head = 36;
      tail = 63 ∷ (crlf (chunks_text chunks bytes) ++ 13 ∷ []);
      parts = refl;
      some = omega arith;
      least = next_row (LeafKeeps r WithinItems) (NodeKeeps r WithinItems) level (streamed_text chunks bytes) 13 5 rest
          (chunk_content_begun r level chunks digits part 0 w are_digits is_text some (omega (arith, size)) fits).least
          (chunks_complete (LeafKeeps r WithinItems) (NodeKeeps r WithinItems) level chunks bytes (13 ∷ rest) w.are_chunks
          (record {
            more = one;
            zeros = 48 ∷ [];
            are_chunks = (((are_digits, size), omega (arith, size, some), is_text), tt);
            digits = zero_digits;
            zero =
                refl;
            keep = more_keeps r level chunks one (48 ∷ []) w (omega (arith, fits, size, length-append part []));
            whole =
                sym (append_assoc (59 ∷ digits) (crlf part) (13 ∷ rest));
          })) refl;
    }
