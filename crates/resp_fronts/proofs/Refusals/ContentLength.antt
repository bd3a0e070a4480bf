-- Content past the limit of length, and chunks' content.
use Rattle.std.proofs.Common.{◌++◌, ◌+◌, ◌<◌, ◌∙◌, ◌∷◌, ◌≡◌, ◌≤◌, List, [], ap, append_assoc, arith, length, length-append, refl, subst, sym, ℕ}
use Rattle.std.specs.List.{AllByRecursion}
use Rattle.resp_value.specs.Bytes.{IsText, crlf}
use Rattle.resp_value.specs.Data.{content_length}
use Rattle.resp_value.specs.LocalRules.{HoldsFrom, LeafKeeps, LeafRule, NodeKeeps, NodeRule}
use Rattle.resp_value.specs.Numbers.{IsDigits, number}
use Rattle.resp_value.specs.Rules.{Rules, WithinDepth, WithinLength}
use Rattle.resp_value.specs.TreeValues.{leaf_value}
use Rattle.resp_value.specs.Trees.{Chunk, Bulk, BulkError, Chunk, HasFormat, IsChunk, IsTree, StringKind, Verbatim, chunked, chunks_text, joined_content, leaf, payload, string, string_byte}
use Rattle.resp_value.proofs.FirstLines.{sort_of-line}
use Rattle.resp_value.proofs.Splitting.{line_split}
use Rattle.resp_value.proofs.Unique.{chunk_line}
use Rattle.resp_value.proofs.DigitLemmas.{number-more}
use Rattle.resp_fronts.specs.LeastCompletions.{HasLeast}
use Rattle.resp_fronts.specs.MayFollow.{CompletesValue}
use Rattle.resp_fronts.proofs.FirstLines.BegunLines.{completes_line, line_begins}
use Rattle.resp_fronts.proofs.FirstLines.FirstLineRows.{is_string, string_line, string_row}
use Rattle.resp_fronts.proofs.FirstLines.CountRows.{CompletesUnder, IsRefusedHere}
use Rattle.resp_fronts.proofs.Tokens.StreamedStrings.{chunks_complete, chunks_least, completes_chunks, last, with_chunks}

string_content : (K : StringKind) (ds s : List ℕ) → HasFormat K → content_length (leaf_value (string K ds s)) ≡ length (payload K s)
string_content Bulk ds s p = refl
string_content BulkError ds s p = refl
string_content (Verbatim f) ds s p = omega (arith, p.0, length-append f (58 ∷ s))

-- a digit of a length past the limit
pub string_too_long : (r : Rules) (k : ℕ) (K : StringKind) (d : ℕ) (ds s : List ℕ) → IsDigits (d ∷ ds) → HasFormat K → IsText s →
    number (d ∷ ds) ≡ length (payload K s) → LeafKeeps r WithinDepth k (string K (d ∷ ds) s) → r.limits.length < number (d ∷ ds) →
    IsRefusedHere r WithinLength WithinDepth k (string_byte K ∷ d ∷ ds)
string_too_long r k K d ds s p f x n h l =
    let row = string_row (LeafKeeps r WithinDepth) (NodeKeeps r WithinDepth) k K d ds s p f x n h in
    record {
      dead = λ c t. (let u = completes_line (LeafKeeps r WithinLength) (NodeKeeps r WithinLength) k (string_byte K ∷ d ∷ ds) c (string_line K (d ∷ ds) p.1) t in
          let w = is_string u.tree K d (ds ++ u.line) p.1.0 (sort_of-line u.tree u.is_tree u.begins) in
          let i2 : IsTree (leaf (string w.0 (d ∷ ds ++ u.line) w.1)) = subst IsTree w.3 u.is_tree in
          let a : HoldsFrom (LeafKeeps r WithinLength) (NodeKeeps r WithinLength) k (leaf (string w.0 (d ∷ ds ++ u.line) w.1)) =
          subst (HoldsFrom (LeafKeeps r WithinLength) (NodeKeeps r WithinLength) k) w.3 u.keep in
          let m : content_length (leaf_value (string w.0 (d ∷ ds ++ u.line) w.1)) ≤ r.limits.length = a WithinLength (omega arith) in
          omega (arith, string_content w.0 (d ∷ ds ++ u.line) w.1 i2.1, i2.0.1, number-more (d ∷ ds) u.line));
      rest = row.some;
      alive = row.holds;
      some = omega (arith, row.size);
    }

-- the length of chunks after one another
pub joined-with : (ds es : List Chunk) → length (joined_content (with_chunks ds es)) ≡ length (joined_content ds) + length (joined_content es)
joined-with [] es = omega arith
joined-with (d ∷ ds) es = omega (
  arith,
  joined-with ds es,
  length-append d.content (joined_content (with_chunks ds es)),
  length-append d.content (joined_content ds),
)

-- a chunk whose line begins by these digits holds at least this much
chunk_holds : (cs : List Chunk) (z es c : List ℕ) → AllByRecursion IsChunk cs → IsDigits z → number z ≡ 0 → IsDigits es →
    chunks_text cs (last z) ≡ (59 ∷ es) ++ c → number es ≤ length (joined_content cs)
chunk_holds [] z es c p q y i e =
    let (l, a, b) = line_begins (59 ∷ z) (59 ∷ es) [] c (chunk_line es i) e in
    let a0 : 59 ∷ z ≡ 59 ∷ (es ++ l) = a in
    let a1 : z ≡ es ++ l = cc in
    omega (arith, ap number a1, number-more es l)
chunk_holds (d ∷ cs) z es c p q y i e =
    let (l, a, b) = line_begins (59 ∷ d.digits) (59 ∷ es) (d.content ++ crlf (chunks_text cs (last z))) c (chunk_line es i) e in
    let a0 : 59 ∷ d.digits ≡ 59 ∷ (es ++ l) = a in
    let a1 : d.digits ≡ es ++ l = cc in
    let says : number d.digits ≡ length d.content = p.0.0.1 in
    omega (arith, ap number a1, number-more es l, length-append d.content (joined_content cs))

-- a digit of a chunk past the limit
pub chunk_too_long : (r : Rules) (k : ℕ) (ds : List Chunk) (es rest : List ℕ) → AllByRecursion IsChunk ds → IsDigits es →
    CompletesUnder r WithinDepth k (36 ∷ 63 ∷ crlf (chunks_text ds (59 ∷ es))) rest → 0 < length rest →
    r.limits.length < length (joined_content ds) + number es → IsRefusedHere r WithinLength WithinDepth k (36 ∷ 63 ∷ crlf (chunks_text ds (59 ∷ es)))
chunk_too_long r k ds es rest p i a o l = record {
  dead = λ c t. (let u = completes_chunks (LeafKeeps r WithinLength) (NodeKeeps r WithinLength) k ds (59 ∷ es) c p t in
      let m : length (joined_content (with_chunks ds u.more)) ≤ r.limits.length = u.keep WithinLength (omega arith) in
      omega (arith, joined-with ds u.more, chunk_holds u.more u.zeros es c u.are_chunks u.digits u.zero i u.whole));
  rest = rest;
  alive = a;
  some = o;
}

-- a chunk's content: what is left, and 6
chunk_left : (cs : List Chunk) (z es p c : List ℕ) → AllByRecursion IsChunk cs → IsDigits z → number z ≡ 0 → IsDigits es → 0 < number es →
    chunks_text cs (last z) ≡ ((59 ∷ es) ++ crlf p) ++ c → number es + 6 ≤ length p + length c
chunk_left [] z es p c q y v i n e =
    let s = line_split (59 ∷ z) (59 ∷ es) [] (p ++ c) (chunk_line z y) (chunk_line es i) (e ∙ append_assoc (59 ∷ es) (crlf p) c) in
    let h : 59 ∷ z ≡ 59 ∷ es = s.0 in
    let k : z ≡ es = cc in
    absurd (omega (arith, ap number k))
chunk_left (d ∷ cs) z es p c q y v i n e =
    let s = line_split (59 ∷ d.digits) (59 ∷ es) (d.content ++ crlf (chunks_text cs (last z))) (p ++ c) (chunk_line d.digits q.0.0.0) (chunk_line es i)
    (e ∙ append_assoc (59 ∷ es) (crlf p) c) in
    let h : 59 ∷ d.digits ≡ 59 ∷ es = s.0 in
    let k : d.digits ≡ es = cc in
    let says : number d.digits ≡ length d.content = q.0.0.1 in
    omega (arith, ap number k, ap length s.1, length-append p c, length-append d.content (crlf (chunks_text cs (last z))), chunks_least cs z y)

-- a chunk's content: what is left, and 6
pub chunk_content_row : (L : LeafRule) (N : NodeRule) (k : ℕ) (ds : List Chunk) (es p q : List ℕ) → AllByRecursion IsChunk ds →
    IsChunk (record { digits = es; content = p ++ q }) → 0 < number es →
    L k (chunked (with_chunks ds (record { digits = es; content = p ++ q } ∷ [])) (48 ∷ [])) →
    HasLeast (CompletesValue L N k (36 ∷ 63 ∷ crlf (chunks_text ds ((59 ∷ es) ++ crlf p)))) (length q + 6)
chunk_content_row L N k ds es p q a b n h =
    let c = q ++ crlf (last (48 ∷ [])) in
    let says : number es ≡ length (p ++ q) = b.0.1 in
    record {
      some = c;
      holds = chunks_complete L N k ds ((59 ∷ es) ++ crlf p) c a (record {
        more = record { digits = es; content = p ++ q } ∷ [];
        zeros = 48 ∷ [];
        are_chunks = (b, tt);
        digits = (omega arith, ((omega arith, omega arith), tt));
        zero = refl;
        keep = h;
        whole = ap (λ w. (59 ∷ es) ++ crlf w) (append_assoc p q (crlf (last (48 ∷ [])))) ∙ sym (append_assoc (59 ∷ es) (crlf p) c);
      });
      size = length-append q (crlf (last (48 ∷ [])));
      least = λ d t. (let u = completes_chunks L N k ds ((59 ∷ es) ++ crlf p) d a t in
          omega (arith, chunk_left u.more u.zeros es p d u.are_chunks u.digits u.zero b.0.0 n u.whole, length-append p q));
    }
