-- Streamed strings.
use Rattle.std.proofs.Common.{◌++◌, ◌+◌, ◌<◌, ◌∙◌, ◌∷◌, ◌≡◌, ◌≤◌, List, [], ap, arith, length, length-append, refl, subst, sym, ℕ}
use Rattle.std.specs.List.{AllByRecursion}
use Rattle.resp_value.specs.Bytes.{crlf}
use Rattle.resp_value.specs.LocalRules.{HoldsFrom, LeafRule, NodeRule}
use Rattle.resp_value.specs.Numbers.{IsDigits, number}
use Rattle.resp_value.specs.Trees.{Chunk, IsChunk, IsTree, chunked, chunks_text, leaf}
use Rattle.resp_value.proofs.FirstLines.{after_line, first_is_line, first_line, sort_of-line}
use Rattle.resp_value.proofs.Splitting.{length_split, line_split}
use Rattle.resp_value.proofs.Unique.{chunk_line, chunks_text-append}
use Rattle.resp_value.proofs.DigitLemmas.{number-more}
use Rattle.resp_fronts.specs.LeastCompletions.{HasLeast}
use Rattle.resp_fronts.specs.MayFollow.{CompletesValue}
use Rattle.resp_fronts.proofs.FirstLines.BegunLines.{line_begins, text_first}
use Rattle.resp_fronts.proofs.FirstLines.FirstLineRows.{are_zeros, length-zeros, tree_of_chunked}
use Rattle.resp_fronts.proofs.FirstLines.FirstLineRows.{zero_digits}
use Rattle.resp_fronts.specs.Tokens.{zeros}

-- the line that ends a streamed string
abbrev pub last : List ℕ → List ℕ
last z = (59 ∷ z) ++ crlf []

-- one list of chunks after another
abbrev pub with_chunks : List Chunk → List Chunk → List Chunk
with_chunks [] es = es
with_chunks (c ∷ cs) es = c ∷ with_chunks cs es

-- their text
pub chunks_text-with : (cs es : List Chunk) (r : List ℕ) → chunks_text (with_chunks cs es) r ≡ chunks_text cs (chunks_text es r)
chunks_text-with [] es r = refl
chunks_text-with (c ∷ cs) es r = ap (λ q. (59 ∷ c.digits) ++ crlf (c.content ++ crlf q)) (chunks_text-with cs es r)

-- each of them is a chunk
pub all_with : (cs es : List Chunk) → AllByRecursion IsChunk cs → AllByRecursion IsChunk es → AllByRecursion IsChunk (with_chunks cs es)
all_with [] es p q = q
all_with (c ∷ cs) es p q = (p.0, all_with cs es p.1 q)

-- whole chunks stand first
pub chunks_begin : (ds cs : List Chunk) (z w : List ℕ) → AllByRecursion IsChunk ds → AllByRecursion IsChunk cs → IsDigits z → number z ≡ 0 →
    chunks_text cs (last z) ≡ chunks_text ds w → (es : List Chunk) × (cs ≡ with_chunks ds es) × AllByRecursion IsChunk es × (chunks_text es (last z) ≡ w)
chunks_begin [] cs z w p q z1 z2 e = (cs, refl, q, e)
chunks_begin (d ∷ ds) [] z w p q z1 z2 e =
    let r = line_split (59 ∷ z) (59 ∷ d.digits) [] (d.content ++ crlf (chunks_text ds w)) (chunk_line z z1) (chunk_line d.digits p.0.0.0) e in
    let h : 59 ∷ z ≡ 59 ∷ d.digits = r.0 in
    let k : z ≡ d.digits = cc in
    let n : number z ≡ number d.digits = ap number k in
    let full : 0 < length d.content = p.0.1 in
    let says : number d.digits ≡ length d.content = p.0.0.1 in
    absurd (omega arith)
chunks_begin (d ∷ ds) (c ∷ cs) z w p q z1 z2 e =
    let r = line_split (59 ∷ c.digits) (59 ∷ d.digits) (c.content ++ crlf (chunks_text cs (last z))) (d.content ++ crlf (chunks_text ds w))
    (chunk_line c.digits q.0.0.0) (chunk_line d.digits p.0.0.0) e in
    let h : 59 ∷ c.digits ≡ 59 ∷ d.digits = r.0 in
    let k : c.digits ≡ d.digits = cc in
    let n : number c.digits ≡ number d.digits = ap number k in
    let says : number c.digits ≡ length c.content = q.0.0.1 in
    let says' : number d.digits ≡ length d.content = p.0.0.1 in
    let s = length_split c.content d.content (crlf (chunks_text cs (last z))) (crlf (chunks_text ds w)) (omega arith) r.1 in
    let l : c.content ≡ d.content = s.0 in
    let m : crlf (chunks_text cs (last z)) ≡ crlf (chunks_text ds w) = s.1 in
    let t : chunks_text cs (last z) ≡ chunks_text ds w = cc in
    let (es, a, b, f) = chunks_begin ds cs z w p.1 q.1 z1 z2 t in
    let c0 : c ≡ d = λ i. record { digits = k i; content = l i } in
    let a0 : cs ≡ with_chunks ds es = a in
    (es, cc, b, f)

-- what completes w, that begins where chunks are whole
pub record CompletesChunks (L : LeafRule) (k : ℕ) (ds : List Chunk) (w c : List ℕ) : Type 0 where
  pub more : List Chunk
  pub zeros : List ℕ
  pub are_chunks : AllByRecursion IsChunk more
  pub digits : IsDigits zeros
  pub zero : number zeros ≡ 0
  pub keep : L k (chunked (with_chunks ds more) zeros)
  pub whole : chunks_text more (last zeros) ≡ w ++ c

-- what completes a streamed string are chunks, and the line that ends it
pub completes_chunks : (L : LeafRule) (N : NodeRule) (k : ℕ) (ds : List Chunk) (w c : List ℕ) → AllByRecursion IsChunk ds →
    CompletesValue L N k (36 ∷ 63 ∷ crlf (chunks_text ds w)) c → CompletesChunks L k ds w c
completes_chunks L N k ds w c p t =
    let s = line_split (first_line t.tree) (36 ∷ 63 ∷ []) (after_line t.tree) (chunks_text ds w ++ c) (first_is_line t.tree t.is_tree)
    ((λ e. omega arith, λ e. omega arith), ((λ e. omega arith, λ e. omega arith), tt)) (sym (text_first t.tree) ∙ t.whole) in
    let u = tree_of_chunked t.tree (sort_of-line t.tree t.is_tree s.0) in
    let i : IsTree (leaf (chunked u.0 u.1)) = subst IsTree u.2 t.is_tree in
    let a : HoldsFrom L N k (leaf (chunked u.0 u.1)) = subst (HoldsFrom L N k) u.2 t.keep in
    let e : chunks_text u.0 (last u.1) ≡ chunks_text ds w ++ c = ap after_line (sym u.2) ∙ s.1 in
    let (es, x, y, f) = chunks_begin ds u.0 u.1 (w ++ c) p i.0 i.1.0 i.1.1 (e ∙ chunks_text-append ds w c) in
    let x0 : u.0 ≡ with_chunks ds es = x in
    record { more = es; zeros = u.1; are_chunks = y; digits = i.1.0; zero = i.1.1; keep = subst (λ v. L k (chunked v u.1)) x0 a; whole = f }

-- what completes the chunks completes the streamed string
pub chunks_complete : (L : LeafRule) (N : NodeRule) (k : ℕ) (ds : List Chunk) (w c : List ℕ) → AllByRecursion IsChunk ds → CompletesChunks L k ds w c →
    CompletesValue L N k (36 ∷ 63 ∷ crlf (chunks_text ds w)) c
chunks_complete L N k ds w c p t = record {
  tree = leaf (chunked (with_chunks ds t.more) t.zeros);
  is_tree = (all_with ds t.more p t.are_chunks, (t.digits, t.zero));
  keep = t.keep;
  whole = ap (λ z. 36 ∷ 63 ∷ crlf z) (chunks_text-with ds t.more (last t.zeros) ∙ ap (chunks_text ds) t.whole ∙ sym (chunks_text-append ds w c));
}

-- that is four bytes at least
pub chunks_least : (cs : List Chunk) (z : List ℕ) → IsDigits z → 4 ≤ length (chunks_text cs (last z))
chunks_least [] z p = omega (arith, length-append (59 ∷ z) (crlf []), p.0)
chunks_least (c ∷ cs) z p = let m = chunks_least cs z p in omega (
  arith,
  length-append (59 ∷ c.digits) (crlf (c.content ++ crlf (chunks_text cs (last z)))),
  length-append c.content (crlf (chunks_text cs (last z))),
)

-- between chunks: 4
pub chunks_row : (L : LeafRule) (N : NodeRule) (k : ℕ) (ds : List Chunk) → AllByRecursion IsChunk ds → L k (chunked (with_chunks ds []) (48 ∷ [])) →
    HasLeast (CompletesValue L N k (36 ∷ 63 ∷ crlf (chunks_text ds []))) 4
chunks_row L N k ds p h = record {
  some = last (48 ∷ []);
  holds = chunks_complete L N k ds [] (last (48 ∷ [])) p (record {
    more = [];
    zeros = 48 ∷ [];
    are_chunks = tt;
    digits = zero_digits;
    zero = refl;
    keep =
        h;
    whole = refl;
  });
  size = refl;
  least = λ c t. (let u = completes_chunks L N k ds [] c p t in omega (arith, chunks_least u.more u.zeros u.digits, ap length u.whole));
}

-- a chunk's digits, not of zero: its length, and 8
chunk_more : (cs : List Chunk) (z ds c : List ℕ) → AllByRecursion IsChunk cs → IsDigits z → number z ≡ 0 → IsDigits ds → 0 < number ds →
    chunks_text cs (last z) ≡ (59 ∷ ds) ++ c → number ds + 8 ≤ length c
chunk_more [] z ds c p q y i n e =
    let (l, a, b) = line_begins (59 ∷ z) (59 ∷ ds) [] c (chunk_line ds i) e in
    let a0 : 59 ∷ z ≡ 59 ∷ (ds ++ l) = a in
    let a1 : z ≡ ds ++ l = cc in
    omega (arith, ap number a1, number-more ds l)
chunk_more (d ∷ cs) z ds c p q y i n e =
    let (l, a, b) = line_begins (59 ∷ d.digits) (59 ∷ ds) (d.content ++ crlf (chunks_text cs (last z))) c (chunk_line ds i) e in
    let a0 : 59 ∷ d.digits ≡ 59 ∷ (ds ++ l) = a in
    let a1 : d.digits ≡ ds ++ l = cc in
    let says : number d.digits ≡ length d.content = p.0.0.1 in
    omega (
      arith,
      ap number a1,
      number-more ds l,
      ap length b,
      chunks_least cs z q,
      length-append l (crlf (d.content ++ crlf (chunks_text cs (last z)))),
      length-append d.content (crlf (chunks_text cs (last z))),
    )

-- a chunk's digits, not of zero: its length, and 8
pub chunk_row : (L : LeafRule) (N : NodeRule) (k : ℕ) (ds : List Chunk) (es : List ℕ) → AllByRecursion IsChunk ds → IsDigits es → 0 < number es →
    L k (chunked (with_chunks ds (record { digits = es; content = zeros (number es) } ∷ [])) (48 ∷ [])) →
    HasLeast (CompletesValue L N k (36 ∷ 63 ∷ crlf (chunks_text ds (59 ∷ es)))) (number es + 8)
chunk_row L N k ds es p i n h =
    let s = zeros (number es) in
    let c = crlf (s ++ crlf (last (48 ∷ []))) in
    let full : 0 < length s = omega (arith, length-zeros (number es)) in
    record {
      some = c;
      holds = chunks_complete L N k ds (59 ∷ es) c p (record {
        more = record { digits = es; content = s } ∷ [];
        zeros = 48 ∷ [];
        are_chunks =
            (((i, sym (length-zeros (number es))), full, are_zeros (number es)), tt);
        digits = zero_digits;
        zero = refl;
        keep = h;
        whole = refl;
      });
      size = omega (arith, length-append s (crlf (last (48 ∷ []))), length-zeros (number es));
      least = λ d t. (let u = completes_chunks L N k ds (59 ∷ es) d p t in chunk_more u.more u.zeros es d u.are_chunks u.digits u.zero i n u.whole);
    }
