-- Every text of a tree is bytes.
use Rattle.std.proofs.Common.{ℕ, true, false, List, [], ◌∷◌, ◌++◌, subst, arith}
use Rattle.std.specs.List.{AllByRecursion}
use Rattle.resp_value.specs.Bytes.{IsByte, IsText, crlf}
use Rattle.resp_value.specs.Numbers.{IsDigit, Sign, Unsigned, Plus, Minus, sign_text}
use Rattle.resp_value.specs.Data.{Kind}
use Rattle.resp_value.specs.Trees.{Tree, Trees, leaf, node, none, more, Leaf, line, numeral, null, truth, string, chunked, BulkNull, ArrayNull, PlainNull, StringKind, Bulk, BulkError, Verbatim, Form, Counted, Streamed, Chunk, text, texts, close, chunks_text, leaf_line, leaf_rest, kind_byte, form_line, payload, IsTree, AreTrees, IsLeaf, HasFormat, HasMembers, IsChunk, count}
use Rattle.resp_value.specs.Laws.{TextsOfTreesAreBytes}
use Rattle.resp_value.proofs.FirstBytes.{all_append, first_byte_is_byte}

-- two texts, one after the other, are a text
pub bytes_append : (a b : List ℕ) → IsText a → IsText b → IsText (a ++ b)
bytes_append a b p q = all_append IsByte a b p q

-- CR LF and a text are a text
pub bytes_crlf : (a : List ℕ) → IsText a → IsText (crlf a)
bytes_crlf a p = (omega arith, (omega arith, p))

-- digits are bytes
pub bytes_from_each : (digits : List ℕ) → AllByRecursion IsDigit digits → IsText digits
bytes_from_each [] p = tt
bytes_from_each (d ∷ ds) p = (omega arith, bytes_from_each ds p.1)

sign_is_bytes : (sign : Sign) → IsText (sign_text sign)
sign_is_bytes Unsigned = tt
sign_is_bytes Plus = (omega arith, tt)
sign_is_bytes Minus = (omega arith, tt)

leaf_line_is_bytes : (l : Leaf) → IsLeaf l → IsText (leaf_line l)
leaf_line_is_bytes (line k s) p = (first_byte_is_byte (leaf (line k s)), p.1)
leaf_line_is_bytes (numeral k sign digits) p = (
  first_byte_is_byte (leaf (numeral k sign digits)),
  bytes_append (sign_text sign) digits (sign_is_bytes sign) (bytes_from_each digits p.1),
)
leaf_line_is_bytes (null BulkNull) p = (omega arith, (omega arith, (omega arith, tt)))
leaf_line_is_bytes (null ArrayNull) p = (omega arith, (omega arith, (omega arith, tt)))
leaf_line_is_bytes (null PlainNull) p = (omega arith, tt)
leaf_line_is_bytes (truth true) p = (omega arith, (omega arith, tt))
leaf_line_is_bytes (truth false) p = (omega arith, (omega arith, tt))
leaf_line_is_bytes (string k digits s) p = (first_byte_is_byte (leaf (string k digits s)), bytes_from_each digits p.0.0.1)
leaf_line_is_bytes (chunked chunks zeros) p = (omega arith, (omega arith, tt))

payload_is_bytes : (k : StringKind) (s : List ℕ) → HasFormat k → IsText s → IsText (payload k s)
payload_is_bytes Bulk s p q = q
payload_is_bytes BulkError s p q = q
payload_is_bytes (Verbatim format) s p q = bytes_append format (58 ∷ s) p.1 (omega arith, q)

-- chunks and a text are a text
pub chunks_are_bytes : (chunks : List Chunk) (rest : List ℕ) → AllByRecursion IsChunk chunks → IsText rest → IsText (chunks_text chunks rest)
chunks_are_bytes [] rest p q = q
chunks_are_bytes (c ∷ cs) rest p q =
    let content = bytes_append c.content (crlf (chunks_text cs rest)) p.0.2 (bytes_crlf (chunks_text cs rest) (chunks_are_bytes cs rest p.1 q)) in
    bytes_append (59 ∷ c.digits) (crlf (c.content ++ crlf (chunks_text cs rest))) (omega arith, bytes_from_each c.digits p.0.0.0.1)
    (bytes_crlf (c.content ++ crlf (chunks_text cs rest)) content)

leaf_rest_is_bytes : (l : Leaf) → IsLeaf l → IsText (leaf_rest l)
leaf_rest_is_bytes (line k s) p = tt
leaf_rest_is_bytes (numeral k sign digits) p = tt
leaf_rest_is_bytes (null form) p = tt
leaf_rest_is_bytes (truth b) p = tt
leaf_rest_is_bytes (string k digits s) p = bytes_append (payload k s) (crlf []) (payload_is_bytes k s p.1 p.2) (bytes_crlf [] tt)
leaf_rest_is_bytes (chunked chunks zeros) p = chunks_are_bytes chunks ((59 ∷ zeros) ++ crlf []) p.0
    (bytes_append (59 ∷ zeros) (crlf []) (omega arith, bytes_from_each zeros p.1.0.1) (bytes_crlf [] tt))

form_is_bytes : (k : Kind) (form : Form) (n : ℕ) → HasMembers k form n → IsText (form_line form)
form_is_bytes k (Counted digits) n p = bytes_from_each digits p.0.1
form_is_bytes k Streamed n p = (omega arith, tt)

close_is_bytes : (form : Form) → IsText (close form)
close_is_bytes (Counted digits) = tt
close_is_bytes Streamed = (omega arith, bytes_crlf [] tt)

mutual
  -- the text of a tree is bytes
  pub text_is_bytes : (t : Tree) → IsTree t → IsText (text t)
  text_is_bytes (leaf l) p = bytes_append (leaf_line l) (crlf (leaf_rest l)) (leaf_line_is_bytes l p) (bytes_crlf (leaf_rest l) (leaf_rest_is_bytes l p))
  text_is_bytes (node k form ts) p =
      let rest = bytes_append (texts ts) (close form) (texts_are_bytes ts p.1) (close_is_bytes form) in
      bytes_append (kind_byte k ∷ form_line form) (crlf (texts ts ++ close form)) (first_byte_is_byte (node k form ts), form_is_bytes k form (count ts) p.0)
      (bytes_crlf (texts ts ++ close form) rest)

  pub texts_are_bytes : (ts : Trees) → AreTrees ts → IsText (texts ts)
  texts_are_bytes none p = tt
  texts_are_bytes (more t ts) p = bytes_append (text t) (texts ts) (text_is_bytes t p.0) (texts_are_bytes ts p.1)

-- what spells a tree is bytes
pub texts_of_trees_are_bytes : TextsOfTreesAreBytes
texts_of_trees_are_bytes t written s = subst IsText s.spelled (text_is_bytes t s.is_tree)
