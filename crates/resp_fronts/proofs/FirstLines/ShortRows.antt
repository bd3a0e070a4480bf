-- Least completions of nulls, of the heads of chunks, and of short lengths of verbatim strings.
use Rattle.std.proofs.Common.{◌≡◌, ℕ, suc, ◌+◌, ◌*◌, ◌<◌, ◌≤◌, List, [], ◌∷◌, ◌++◌, length, refl, sym, ap, ◌∙◌, arith, append_assoc, append-nil, length-append}
use Rattle.std.specs.List.{AllByRecursion}
use Rattle.resp_value.specs.Bytes.{IsLine, crlf}
use Rattle.resp_value.specs.Numbers.{IsDigits, IsNumber, number}
use Rattle.resp_value.specs.Trees.{Tree, leaf, null, string, chunked, NullForm, Verbatim, Chunk, IsChunk, chunks_text, null_line, IsTree}
use Rattle.resp_value.specs.LocalRules.{LeafRule, NodeRule}
use Rattle.resp_value.proofs.Splitting.{plain_above}
use Rattle.resp_value.proofs.FirstLines.{sort, sort_of, first_line, after_line, null_is_line}
use Rattle.resp_value.proofs.Unique.{chunk_line}
use Rattle.resp_value.proofs.DigitLemmas.{number-digit}
use Rattle.resp_fronts.specs.LeastCompletions.{HasLeast}
use Rattle.resp_fronts.specs.MayFollow.{CompletesValue}
use Rattle.resp_fronts.proofs.FirstLines.BegunLines.{line_begins, completes_line, completes_return, text_first}
use Rattle.resp_fronts.proofs.FirstLines.FirstLineRows.{line_row, are_zeros, zero_digits, string_line}
use Rattle.resp_fronts.proofs.FirstLines.MoreFirstLineRows.{string_size, verbatim_least}
use Rattle.resp_fronts.proofs.Tokens.StreamedStrings.{with_chunks, last, completes_chunks, chunks_complete}
use Rattle.resp_fronts.proofs.Refusals.BrokenLines.{null_short}
use Rattle.resp_fronts.specs.Tokens.{zeros}

-- a byte on the shortest way lowers what a value needs by one
pub next_row : (L : LeafRule) (N : NodeRule) (level : ℕ) (begun : List ℕ) (byte n : ℕ) (rest : List ℕ) → HasLeast (CompletesValue L N level begun) (suc n) →
    CompletesValue L N level begun (byte ∷ rest) → length rest ≡ n → HasLeast (CompletesValue L N level (begun ++ byte ∷ [])) n
next_row L N level begun byte n rest h w e = record {
  some = rest;
  holds = record { tree = w.tree; is_tree = w.is_tree; keep = w.keep; whole = w.whole ∙ sym (append_assoc begun (byte ∷ []) rest) };
  size = e;
  least = λ c v. omega (
    arith,
    h.least (byte ∷ c) (record {
      tree = v.tree;
      is_tree = v.is_tree;
      keep = v.keep;
      whole =
          v.whole ∙ append_assoc begun (byte ∷ []) c;
    }),
  );
}

-- after the CR of a first line one byte more is needed than after its LF
pub before_newline_row : (L : LeafRule) (N : NodeRule) (level : ℕ) (line : List ℕ) (n : ℕ) → IsLine line →
    HasLeast (CompletesValue L N level (line ++ crlf [])) n → HasLeast (CompletesValue L N level (line ++ 13 ∷ [])) (suc n)
before_newline_row L N level line n is_line h = record {
  some = 10 ∷ h.some;
  holds = record {
    tree = h.holds.tree;
    is_tree = h.holds.is_tree;
    keep = h.holds.keep;
    whole = h.holds.whole ∙ append_assoc line (crlf []) h.some ∙
        sym (append_assoc line (13 ∷ []) (10 ∷ h.some));
  };
  size = ap suc h.size;
  least = λ c w. (let u = completes_return L N level line c is_line w in
      let beyond : CompletesValue L N level (line ++ crlf []) (after_line u.tree) = record {
        tree = u.tree;
        is_tree = u.is_tree;
        keep = u.keep;
        whole = text_first u.tree ∙ ap (λ z. z ++ crlf (after_line u.tree)) u.line ∙ sym (append_assoc line (crlf []) (after_line u.tree));
      } in
      omega (arith, ap length u.whole, h.least (after_line u.tree) beyond));
}

-- `$-1`, `*-1` and `_`: 2
pub null_line_row : (L : LeafRule) (N : NodeRule) (level : ℕ) (f : NullForm) → L level (null f) → HasLeast (CompletesValue L N level (null_line f)) 2
unfolding first_line
null_line_row L N level f h = line_row L N level (null_line f) [] (leaf (null f)) 0 (null_is_line f) tt h (sym (append-nil (null_line f))) refl
    (λ u l i j e. omega arith)

-- `$-` and `*-`: 3
pub null_begun_row : (L : LeafRule) (N : NodeRule) (level : ℕ) (f : NullForm) (first : ℕ) → null_line f ≡ first ∷ 45 ∷ 49 ∷ [] → 13 < first → L level (null f) →
    HasLeast (CompletesValue L N level (first ∷ 45 ∷ [])) 3
unfolding first_line
null_begun_row L N level f first e above h = record {
  some = 49 ∷ crlf [];
  holds = record { tree = leaf (null f); is_tree = tt; keep = h; whole = ap (λ z. z ++ crlf []) e };
  size = refl;
  least = λ c w. (let u = completes_line L N level (first ∷ 45 ∷ []) c (plain_above first above, (plain_above 45 (omega arith), tt)) w in
      let some : 0 < length u.line = more u.tree u.line u.is_tree u.begins in
      omega (arith, ap length u.whole, length-append u.line (crlf (after_line u.tree))));
}
  where
    more : (t : Tree) (l : List ℕ) → IsTree t → first_line t ≡ (first ∷ 45 ∷ []) ++ l → 0 < length l
    more t [] p b = absurd (null_short f first e t p b)
    more t (c ∷ l) p b = omega arith

-- the `;` of a chunk: 3
pub chunk_begun_row : (L : LeafRule) (N : NodeRule) (level : ℕ) (done : List Chunk) → AllByRecursion IsChunk done →
    L level (chunked (with_chunks done []) (48 ∷ [])) → HasLeast (CompletesValue L N level (36 ∷ 63 ∷ crlf (chunks_text done (59 ∷ [])))) 3
chunk_begun_row L N level done p h = record {
  some = 48 ∷ crlf [];
  holds = chunks_complete L N level done (59 ∷ []) (48 ∷ crlf []) p
      (record { more = []; zeros = 48 ∷ []; are_chunks = tt; digits = zero_digits; zero = refl; keep = h; whole = refl });
  size = refl;
  least = λ c t. (let u = completes_chunks L N level done (59 ∷ []) c p t in head_length u.more u.zeros c u.are_chunks u.digits u.whole);
}
  where
    head_length : (cs : List Chunk) (z c : List ℕ) → AllByRecursion IsChunk cs → IsDigits z → chunks_text cs (last z) ≡ (59 ∷ []) ++ c → 3 ≤ length c
    head_length [] z c a d e = omega (arith, ap length e, length-append z (crlf []), d.0)
    head_length (x ∷ cs) z c a d e = omega (arith, ap length e, length-append x.digits (crlf (x.content ++ crlf (chunks_text cs (last z)))), a.0.0.0.0)

-- `;` and zeros: 2
pub chunk_zero_row : (L : LeafRule) (N : NodeRule) (level : ℕ) (done : List Chunk) (digits : List ℕ) → AllByRecursion IsChunk done → IsNumber 0 digits →
    L level (chunked (with_chunks done []) digits) → HasLeast (CompletesValue L N level (36 ∷ 63 ∷ crlf (chunks_text done (59 ∷ digits)))) 2
chunk_zero_row L N level done digits p is_zero h = record {
  some = crlf [];
  holds = chunks_complete L N level done (59 ∷ digits) (crlf []) p
      (record { more = []; zeros = digits; are_chunks = tt; digits = is_zero.0; zero = is_zero.1; keep = h; whole = refl });
  size = refl;
  least = λ c t. (let u = completes_chunks L N level done (59 ∷ digits) c p t in head_end u.more u.zeros c u.whole);
}
  where
    head_end : (cs : List Chunk) (z c : List ℕ) → chunks_text cs (last z) ≡ (59 ∷ digits) ++ c → 2 ≤ length c
    head_end [] z c e = let (l, a, b) = line_begins (59 ∷ z) (59 ∷ digits) [] c (chunk_line digits is_zero.0) e in
        omega (arith, ap length b, length-append l (crlf []))
    head_end (x ∷ cs) z c e =
        let (l, a, b) = line_begins (59 ∷ x.digits) (59 ∷ digits) (x.content ++ crlf (chunks_text cs (last z))) c (chunk_line digits is_zero.0) e in
        omega (arith, ap length b, length-append l (crlf (x.content ++ crlf (chunks_text cs (last z)))))

number-four : (digits : List ℕ) → number digits ≡ 0 → number (digits ++ 52 ∷ []) ≡ 4
number-four digits is_zero = number-digit digits 52 ∙ ap (λ z. z * 10 + 4) is_zero

-- `=0`: 9
pub zero_verbatim_row : (L : LeafRule) (N : NodeRule) (level digit : ℕ) (digits : List ℕ) → IsNumber 0 (digit ∷ digits) →
    IsDigits ((digit ∷ digits) ++ 52 ∷ []) → L level (string (Verbatim (zeros 3)) ((digit ∷ digits) ++ 52 ∷ []) []) →
    HasLeast (CompletesValue L N level (61 ∷ digit ∷ digits)) 9
unfolding first_line
zero_verbatim_row L N level digit digits is_zero longer h =
    line_row L N level (61 ∷ digit ∷ digits) (52 ∷ []) (leaf (string (Verbatim (zeros 3)) ((digit ∷ digits) ++ 52 ∷ []) [])) 7
    (string_line (Verbatim []) (digit ∷ digits) is_zero.0.1)
    ((longer, number-four (digit ∷ digits) is_zero.1), (refl, are_zeros 3), tt) h refl refl
    (λ u l i j e. some_more u l i e)
  where
    some_more : (u : Tree) (l : List ℕ) → IsTree u → sort_of u ≡ sort (61 ∷ digit ∷ (digits ++ l)) → 7 ≤ length l + length (after_line u)
    some_more u [] i e =
        let w = string_size u 61 (digit ∷ (digits ++ [])) i e in
        absurd (omega (arith, w.5, verbatim_least w.0 w.1 w.2 w.3, ap (λ z. number (digit ∷ z)) (append-nil digits), is_zero.1))
    some_more u (c ∷ l) i e =
        let w = string_size u 61 (digit ∷ (digits ++ c ∷ l)) i e in
        omega (arith, w.6, verbatim_least w.0 w.1 w.2 w.3)
