-- Counted content.
use Rattle.std.proofs.Common.{◌++◌, ◌+◌, ◌∙◌, ◌∷◌, ◌≡◌, List, [], ap, append_assoc, arith, length, length-append, refl, subst, sym, ℕ}
use Rattle.resp_value.specs.Bytes.{IsText, crlf}
use Rattle.resp_value.specs.LocalRules.{HoldsFrom, LeafRule, NodeRule}
use Rattle.resp_value.specs.Numbers.{IsDigits, number}
use Rattle.resp_value.specs.Trees.{Bulk, BulkError, HasFormat, IsLeaf, IsTree, StringKind, Verbatim, leaf, payload, string, string_byte}
use Rattle.resp_value.proofs.FirstLines.{after_line, first_is_line, first_line, sort_of-line}
use Rattle.resp_value.proofs.Splitting.{length_split, line_split}
use Rattle.resp_fronts.specs.LeastCompletions.{HasLeast}
use Rattle.resp_fronts.specs.MayFollow.{CompletesValue}
use Rattle.resp_fronts.proofs.FirstLines.BegunLines.{text_first}
use Rattle.resp_fronts.proofs.FirstLines.FirstLineRows.{is_string, string_line}

-- what completes p, that begins the content after the length's line
pub record CompletesContent (L : LeafRule) (k : ℕ) (b : ℕ) (ds p c : List ℕ) : Type 0 where
  pub kind : StringKind
  pub content : List ℕ
  pub same : string_byte kind ≡ b
  pub is_leaf : IsLeaf (string kind ds content)
  pub keep : L k (string kind ds content)
  pub whole : payload kind content ++ crlf [] ≡ p ++ c

-- what completes content completes the content of a string
pub completes_content : (L : LeafRule) (N : NodeRule) (k : ℕ) (K : StringKind) (d : ℕ) (ds p c : List ℕ) → IsDigits (d ∷ ds) →
    CompletesValue L N k ((string_byte K ∷ d ∷ ds) ++ crlf p) c → CompletesContent L k (string_byte K) (d ∷ ds) p c
completes_content L N k K d ds p c q t =
    let b = string_byte K ∷ d ∷ ds in
    let s = line_split (first_line t.tree) b (after_line t.tree) (p ++ c) (first_is_line t.tree t.is_tree) (string_line K (d ∷ ds) q.1)
    (sym (text_first t.tree) ∙ t.whole ∙ append_assoc b (crlf p) c) in
    let w = is_string t.tree K d ds q.1.0 (sort_of-line t.tree t.is_tree s.0) in
    record {
      kind = w.0;
      content = w.1;
      same = w.2;
      is_leaf = subst IsTree w.3 t.is_tree;
      keep = subst (HoldsFrom L N k) w.3 t.keep;
      whole = ap after_line (sym w.3) ∙ s.1;
    }

-- the bytes that are left, and 2
pub content_row : (L : LeafRule) (N : NodeRule) (k : ℕ) (K : StringKind) (d : ℕ) (ds p q s : List ℕ) → IsDigits (d ∷ ds) → HasFormat K → IsText s →
    number (d ∷ ds) ≡ length (payload K s) → payload K s ≡ p ++ q → L k (string K (d ∷ ds) s) →
    HasLeast (CompletesValue L N k ((string_byte K ∷ d ∷ ds) ++ crlf p)) (length q + 2)
unfolding first_line
content_row L N k K d ds p q s i f t n e h =
    let b = string_byte K ∷ d ∷ ds in
    record {
      some = q ++ crlf [];
      holds = record {
        tree = leaf (string K (d ∷ ds) s);
        is_tree = ((i, n), f, t);
        keep = h;
        whole = ap (λ z. b ++ crlf (z ++ crlf [])) e ∙ ap (λ z. b ++ crlf z) (append_assoc p q (crlf [])) ∙ sym (append_assoc b (crlf p) (q ++ crlf []));
      };
      size = length-append q (crlf []);
      least = λ c w. (let u = completes_content L N k K d ds p c i w in
          let m : number (d ∷ ds) ≡ length (payload u.kind u.content) = u.is_leaf.0.1 in
          omega (arith, ap length u.whole, length-append (payload u.kind u.content) (crlf []), length-append p c, ap length e, length-append p q));
    }

-- whole content is followed by CR alone
pub content_end_dead : (L : LeafRule) (N : NodeRule) (k : ℕ) (K : StringKind) (d : ℕ) (ds p c : List ℕ) (x : ℕ) → IsDigits (d ∷ ds) →
    number (d ∷ ds) ≡ length p → (x ≡ 13 → ⊥) → CompletesValue L N k ((string_byte K ∷ d ∷ ds) ++ crlf (p ++ x ∷ [])) c → ⊥
content_end_dead L N k K d ds p c x i n h t =
    let u = completes_content L N k K d ds (p ++ x ∷ []) c i t in
    let m : number (d ∷ ds) ≡ length (payload u.kind u.content) = u.is_leaf.0.1 in
    let s = length_split (payload u.kind u.content) p (crlf []) (x ∷ c) (omega arith) (u.whole ∙ append_assoc p (x ∷ []) c) in
    let e : crlf [] ≡ x ∷ c = s.1 in
    h (cc)

-- a string with the type byte of a verbatim string is one
pub verbatim_kind : (J : StringKind) → string_byte J ≡ 61 → HasFormat J → (s : List ℕ) → (f : List ℕ) × (length f ≡ 3) × (payload J s ≡ f ++ 58 ∷ s)
verbatim_kind Bulk e p s = absurd (omega arith)
verbatim_kind BulkError e p s = absurd (omega arith)
verbatim_kind (Verbatim f) e p s = (f, p.0, refl)

-- a verbatim string's format is followed by a colon
pub colon_dead : (L : LeafRule) (N : NodeRule) (k : ℕ) (d : ℕ) (ds p c : List ℕ) (x : ℕ) → IsDigits (d ∷ ds) → length p ≡ 3 → (x ≡ 58 → ⊥) →
    CompletesValue L N k ((61 ∷ d ∷ ds) ++ crlf (p ++ x ∷ [])) c → ⊥
colon_dead L N k d ds p c x i n h t =
    let u = completes_content L N k (Verbatim []) d ds (p ++ x ∷ []) c i t in
    let v = verbatim_kind u.kind u.same u.is_leaf.1 u.content in
    let s = length_split v.0 p ((58 ∷ u.content) ++ crlf []) (x ∷ c) (omega (arith, v.1)) (sym (append_assoc v.0 (58 ∷ u.content) (crlf [])) ∙
    ap (λ z. z ++ crlf []) (sym v.2) ∙ u.whole ∙ append_assoc p (x ∷ []) c) in
    let e : 58 ∷ (u.content ++ crlf []) ≡ x ∷ c = s.1 in
    h (cc)
