-- No spelling begins another, and a text spells one tree.
use Rattle.std.proofs.Common.{◌≡◌, ℕ, ◌<◌, List, [], ◌∷◌, ◌++◌, length, refl, sym, ap, ◌∙◌, arith, append_assoc}
use Rattle.std.specs.List.{AllByRecursion}
use Rattle.resp_value.specs.Bytes.{IsLine, crlf}
use Rattle.resp_value.specs.Numbers.{IsDigits, IsNumber, number}
use Rattle.resp_value.specs.Data.{members_of}
use Rattle.resp_value.specs.Trees.{Tree, Trees, leaf, node, none, more, Leaf, line, numeral, null, truth, string, chunked, StringKind, Bulk, BulkError, Verbatim, Form, Counted, Streamed, Chunk, text, texts, close, chunks_text, count, leaf_rest, string_byte, payload, IsTree, AreTrees, IsLeaf, HasFormat, IsChunk, Spells}
use Rattle.resp_value.proofs.Splitting.{line_split, length_split, line_from_digits, plain_above}
use Rattle.resp_value.proofs.FirstLines.{leaf_of, node_of, leaf_sort, sort_of, sort_is, first_line, first_is_line, after_line, text_is, sort_of-line}
use Rattle.resp_value.proofs.FirstBytes.{first_byte_is, no_stop}

-- two texts that begin one text begin with one line
pub same_line : (t u : Tree) (x y : List ℕ) → IsTree t → IsTree u → text t ++ x ≡ text u ++ y →
    (sort_of t ≡ sort_of u) × (after_line t ++ x ≡ after_line u ++ y)
same_line t u x y p q e =
    let a = line_split (first_line t) (first_line u) _ _ (first_is_line t p) (first_is_line u q) (sym (text_is t x) ∙ e ∙ text_is u y) in
    (sort_of-line t p a.0 ∙ sort_is u q, a.1)

-- chunks go on with what follows them
pub chunks_text-append : (chunks : List Chunk) (rest x : List ℕ) → chunks_text chunks rest ++ x ≡ chunks_text chunks (rest ++ x)
chunks_text-append [] rest x = refl
chunks_text-append (c ∷ cs) rest x =
    append_assoc (59 ∷ c.digits) (crlf (c.content ++ crlf (chunks_text cs rest))) x
    ∙ ap (λ q. (59 ∷ c.digits) ++ crlf q) (append_assoc c.content (crlf (chunks_text cs rest)) x ∙ ap (λ q. c.content ++ crlf q) (chunks_text-append cs rest x))

-- the line that heads a chunk has no CR or LF in it
pub chunk_line : (digits : List ℕ) → IsDigits digits → IsLine (59 ∷ digits)
chunk_line digits p = (plain_above 59 (omega arith), line_from_digits digits p)

-- the line that ends a streamed string heads no chunk
zeros_head_no_chunk : (zeros : List ℕ) (c : Chunk) (x y : List ℕ) → IsNumber 0 zeros → IsChunk c → (59 ∷ zeros) ++ crlf x ≡ (59 ∷ c.digits) ++ crlf y → ⊥
zeros_head_no_chunk zeros c x y p q e =
    let r = line_split (59 ∷ zeros) (59 ∷ c.digits) x y (chunk_line zeros p.0) (chunk_line c.digits q.0.0) e in
    let h : 59 ∷ zeros ≡ 59 ∷ c.digits = r.0 in
    let k : zeros ≡ c.digits = cc in
    let n : number zeros ≡ number c.digits = ap number k in
    let is_zero : number zeros ≡ 0 = p.1 in
    let says : number c.digits ≡ length c.content = q.0.1 in
    let full : 0 < length c.content = q.1 in
    omega arith

-- two chunks that begin one text are one
chunk_unique : (c d : Chunk) (x y : List ℕ) → IsChunk c → IsChunk d → (59 ∷ c.digits) ++ crlf (c.content ++ crlf x) ≡ (59 ∷ d.digits) ++
    crlf (d.content ++ crlf y) → (c ≡ d) × (x ≡ y)
chunk_unique c d x y p q e =
    let r = line_split (59 ∷ c.digits) (59 ∷ d.digits) _ _ (chunk_line c.digits p.0.0) (chunk_line d.digits q.0.0) e in
    let h : 59 ∷ c.digits ≡ 59 ∷ d.digits = r.0 in
    let k : c.digits ≡ d.digits = cc in
    let n : number c.digits ≡ number d.digits = ap number k in
    let says : number c.digits ≡ length c.content = p.0.1 in
    let says' : number d.digits ≡ length d.content = q.0.1 in
    let s = length_split c.content d.content _ _ (omega arith) r.1 in
    let l : c.content ≡ d.content = s.0 in
    let m : crlf x ≡ crlf y = s.1 in
    let c0 : c ≡ d = λ i. record { digits = k i; content = l i } in
    (c0, cc)

chunks_unique : (cs ds : List Chunk) (zeros zeros' x y : List ℕ) → AllByRecursion IsChunk cs → AllByRecursion IsChunk ds → IsNumber 0 zeros →
    IsNumber 0 zeros' → chunks_text cs ((59 ∷ zeros) ++ crlf x) ≡ chunks_text ds ((59 ∷ zeros') ++ crlf y) → (cs ≡ ds) × (zeros ≡ zeros') × (x ≡ y)
chunks_unique [] [] zeros zeros' x y p q z w e =
    let r = line_split (59 ∷ zeros) (59 ∷ zeros') x y (chunk_line zeros z.0) (chunk_line zeros' w.0) e in
    let h : 59 ∷ zeros ≡ 59 ∷ zeros' = r.0 in
    (refl, cc, r.1)
chunks_unique [] (d ∷ ds) zeros zeros' x y p q z w e = absurd (zeros_head_no_chunk zeros d _ _ z q.0 e)
chunks_unique (c ∷ cs) [] zeros zeros' x y p q z w e = absurd (zeros_head_no_chunk zeros' c _ _ w p.0 (sym e))
chunks_unique (c ∷ cs) (d ∷ ds) zeros zeros' x y p q z w e =
    let a = chunk_unique c d _ _ p.0 q.0 e in
    let u = chunks_unique cs ds zeros zeros' x y p.1 q.1 z w a.1 in
    let c0 : c ≡ d = a.0 in
    let cs0 : cs ≡ ds = u.0 in
    (cc, u.1, u.2)

string_kind_unique : (k j : StringKind) (s r : List ℕ) → string_byte k ≡ string_byte j → HasFormat k → HasFormat j → payload k s ≡ payload j r →
    (k ≡ j) × (s ≡ r)
string_kind_unique Bulk Bulk s r b p q e = (refl, e)
string_kind_unique BulkError BulkError s r b p q e = (refl, e)
string_kind_unique (Verbatim f) (Verbatim g) s r b p q e =
    let m : length f ≡ length g = omega arith in
    let u = length_split f g (58 ∷ s) (58 ∷ r) m e in
    let h : 58 ∷ s ≡ 58 ∷ r = u.1 in
    (ap Verbatim u.0, cc)
string_kind_unique _ _ s r b p q e = absurd (omega arith)

string_unique : (k j : StringKind) (ds es s r x y : List ℕ) → string_byte k ≡ string_byte j → ds ≡ es → IsLeaf (string k ds s) → IsLeaf (string j es r) →
    (payload k s ++ crlf []) ++ x ≡ (payload j r ++ crlf []) ++ y → (string k ds s ≡ string j es r) × (x ≡ y)
string_unique k j ds es s r x y b d p q e =
    let e2 : payload k s ++ crlf x ≡ payload j r ++ crlf y = sym (append_assoc (payload k s) (crlf []) x) ∙ e ∙ append_assoc (payload j r) (crlf []) y in
    let n : number ds ≡ number es = ap number d in
    let p1 : number ds ≡ length (payload k s) = p.0.1 in
    let q1 : number es ≡ length (payload j r) = q.0.1 in
    let m : length (payload k s) ≡ length (payload j r) = omega arith in
    let u = length_split (payload k s) (payload j r) (crlf x) (crlf y) m e2 in
    let w = string_kind_unique k j s r b p.1 q.1 u.0 in
    let w0 : k ≡ j = w.0 in
    let w1 : s ≡ r = w.1 in
    let t : crlf x ≡ crlf y = u.1 in
    (cc, cc)

chunked_unique : (cs ds : List Chunk) (z w x y : List ℕ) → IsLeaf (chunked cs z) → IsLeaf (chunked ds w) →
    chunks_text cs ((59 ∷ z) ++ crlf []) ++ x ≡ chunks_text ds ((59 ∷ w) ++ crlf []) ++ y → (chunked cs z ≡ chunked ds w) × (x ≡ y)
chunked_unique cs ds z w x y p q e =
    let l = chunks_text-append cs ((59 ∷ z) ++ crlf []) x ∙ ap (chunks_text cs) (append_assoc (59 ∷ z) (crlf []) x) in
    let r = chunks_text-append ds ((59 ∷ w) ++ crlf []) y ∙ ap (chunks_text ds) (append_assoc (59 ∷ w) (crlf []) y) in
    let u = chunks_unique cs ds z w x y p.0 q.0 p.1 q.1 (sym l ∙ e ∙ r) in
    let u0 : cs ≡ ds = u.0 in
    let u1 : z ≡ w = u.1 in
    (cc, u.2)

leaf_unique : (l m : Leaf) (x y : List ℕ) → IsLeaf l → IsLeaf m → leaf_sort l ≡ leaf_sort m → leaf_rest l ++ x ≡ leaf_rest m ++ y → (l ≡ m) × (x ≡ y)
leaf_unique (line k s) (line j r) x y p q h e = (cc, e)
leaf_unique (numeral k g ds) (numeral j h es) x y p q s e = (cc, e)
leaf_unique (null f) (null g) x y p q s e = (cc, e)
leaf_unique (truth b) (truth c) x y p q s e = (cc, e)
leaf_unique (string k ds s) (string j es r) x y p q h e =
    let b : string_byte k ≡ string_byte j = cc in
    let d : ds ≡ es = cc in
    string_unique k j ds es s r x y b d p q e
leaf_unique (chunked cs z) (chunked ds w) x y p q s e = chunked_unique cs ds z w x y p q e
leaf_unique _ _ x y p q h e = absurd (cc)

-- what follows a member and the members after it
members_rest : (form : Form) (ts : Trees) (x : List ℕ) → (texts ts ++ close form) ++ x ≡ texts ts ++ (close form ++ x)
members_rest form ts x = append_assoc (texts ts) (close form) x

-- no tree's text begins with the `.` that closes an aggregate
pub not_close : (t : Tree) (x r : List ℕ) → text t ++ x ≡ 46 ∷ r → ⊥
not_close t x r e = no_stop t (first_byte_is t x r 46 e)

mutual
  -- no tree's text begins another's, and one text is of one tree
  pub unique : (t u : Tree) (x y : List ℕ) → IsTree t → IsTree u → text t ++ x ≡ text u ++ y → (t ≡ u) × (x ≡ y)
  unique (leaf l) (leaf m) x y p q e =
      let a = same_line (leaf l) (leaf m) x y p q e in
      let b : leaf_of (leaf_sort l) ≡ leaf_of (leaf_sort m) = a.0 in
      let d = leaf_unique l m x y p q (cc) a.1 in
      (ap leaf d.0, d.1)
  unique (leaf l) (node j g us) x y p q e =
      let b : leaf_of (leaf_sort l) ≡ node_of j g = (same_line (leaf l) (node j g us) x y p q e).0 in
      absurd (cc)
  unique (node k f ts) (leaf m) x y p q e =
      let b : node_of k f ≡ leaf_of (leaf_sort m) = (same_line (node k f ts) (leaf m) x y p q e).0 in
      absurd (cc)
  unique (node k (Counted ds) ts) (node j (Counted es) us) x y p q e =
      let a = same_line (node k (Counted ds) ts) (node j (Counted es) us) x y p q e in
      let b : node_of k (Counted ds) ≡ node_of j (Counted es) = a.0 in
      let k0 : k ≡ j = cc in
      let d0 : ds ≡ es = cc in
      let n : members_of k (number ds) ≡ members_of j (number es) = cc in
      let p1 : members_of k (number ds) ≡ count ts = p.0.1 in
      let q1 : members_of j (number es) ≡ count us = q.0.1 in
      let m : count ts ≡ count us = sym p1 ∙ n ∙ q1 in
      let r : texts ts ++ x ≡ texts us ++ y = sym (members_rest (Counted ds) ts x) ∙ a.1 ∙ members_rest (Counted es) us y in
      let z = counted_unique ts us x y p.1 q.1 m r in
      let z0 : ts ≡ us = z.0 in
      (cc, z.1)
  unique (node k (Counted ds) ts) (node j Streamed us) x y p q e =
      let b : node_of k (Counted ds) ≡ node_of j Streamed = (same_line (node k (Counted ds) ts) (node j Streamed us) x y p q e).0 in
      absurd (cc)
  unique (node k Streamed ts) (node j (Counted es) us) x y p q e =
      let b : node_of k Streamed ≡ node_of j (Counted es) = (same_line (node k Streamed ts) (node j (Counted es) us) x y p q e).0 in
      absurd (cc)
  unique (node k Streamed ts) (node j Streamed us) x y p q e =
      let a = same_line (node k Streamed ts) (node j Streamed us) x y p q e in
      let b : node_of k Streamed ≡ node_of j Streamed = a.0 in
      let k0 : k ≡ j = cc in
      let r : texts ts ++ (46 ∷ crlf x) ≡ texts us ++ (46 ∷ crlf y) = sym (members_rest Streamed ts x) ∙ a.1 ∙ members_rest Streamed us y in
      let z = streamed_unique ts us (crlf x) (crlf y) p.1 q.1 r in
      let z0 : ts ≡ us = z.0 in
      let z1 : crlf x ≡ crlf y = z.1 in
      (cc, cc)

  -- equally many members with equal texts are equal, and so is what follows them
  pub counted_unique : (ts us : Trees) (x y : List ℕ) → AreTrees ts → AreTrees us → count ts ≡ count us → texts ts ++ x ≡ texts us ++ y → (ts ≡ us) × (x ≡ y)
  counted_unique none none x y p q n e = (refl, e)
  counted_unique none (more u us) x y p q n e = absurd (omega arith)
  counted_unique (more t ts) none x y p q n e = absurd (omega arith)
  counted_unique (more t ts) (more u us) x y p q n e =
      let a = unique t u (texts ts ++ x) (texts us ++ y) p.0 q.0 (sym (append_assoc (text t) (texts ts) x) ∙ e ∙ append_assoc (text u) (texts us) y) in
      let b = counted_unique ts us x y p.1 q.1 (omega arith) a.1 in
      let a0 : t ≡ u = a.0 in
      let b0 : ts ≡ us = b.0 in
      (cc, b.1)

  -- members up to a `.` are of one text
  pub streamed_unique : (ts us : Trees) (x y : List ℕ) → AreTrees ts → AreTrees us → texts ts ++ 46 ∷ x ≡ texts us ++ 46 ∷ y → (ts ≡ us) × (x ≡ y)
  streamed_unique none none x y p q e = (refl, cc)
  streamed_unique none (more u us) x y p q e = absurd (not_close u _ x (sym (append_assoc (text u) (texts us) (46 ∷ y)) ∙ sym e))
  streamed_unique (more t ts) none x y p q e = absurd (not_close t _ y (sym (append_assoc (text t) (texts ts) (46 ∷ x)) ∙ e))
  streamed_unique (more t ts) (more u us) x y p q e =
      let a = unique t u (texts ts ++ 46 ∷ x) (texts us ++ 46 ∷ y) p.0 q.0 (sym (append_assoc (text t) (texts ts) (46 ∷ x)) ∙ e ∙
      append_assoc (text u) (texts us) (46 ∷ y)) in
      let b = streamed_unique ts us x y p.1 q.1 a.1 in
      let a0 : t ≡ u = a.0 in
      let b0 : ts ≡ us = b.0 in
      (cc, b.1)

-- two spelled trees at the beginning of one text are one
pub same_tree : (t u : Tree) (p q x y : List ℕ) → Spells t p → Spells u q → p ++ x ≡ q ++ y → (t ≡ u) × (p ≡ q) × (x ≡ y)
same_tree t u p q x y s r e =
    let a = unique t u x y s.is_tree r.is_tree (ap (λ z. z ++ x) s.spelled ∙ e ∙ ap (λ z. z ++ y) (sym r.spelled)) in
    (a.0, sym s.spelled ∙ ap text a.0 ∙ r.spelled, a.1)
