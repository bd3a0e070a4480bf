-- First lines: what completes a begun first line.
use Rattle.std.proofs.Common.{◌++◌, ◌+◌, ◌∙◌, ◌∷◌, ◌≡◌, ◌≤◌, List, [], ap, append-nil, append_assoc, arith, length, length-append, refl, sym, ℕ}
use Rattle.resp_value.specs.Bytes.{IsLine, crlf}
use Rattle.resp_value.specs.Data.{Array, Attr, Kind, Map, members_of}
use Rattle.resp_value.specs.LocalRules.{HoldsFrom, LeafRule, NodeRule}
use Rattle.resp_value.specs.Numbers.{IsDigit}
use Rattle.resp_value.specs.Trees.{Counted, Form, IsTree, LineKind, Tree, Trees, kind_byte, leaf, line, node, text}
use Rattle.resp_value.proofs.FirstLines.{after_line, first_is_line, first_line, leaf_of, line_sort, node_of, sort, sort_of, text_is, sort_of-line}
use Rattle.resp_value.proofs.Splitting.{digit_is_no, digit_is_no_mark, return_split}
use Rattle.resp_fronts.specs.LeastCompletions.{HasLeast}
use Rattle.resp_fronts.specs.MayFollow.{CompletesValue}

-- a text that begins with a line and then breaks goes on with the rest of a first line
pub line_begins : (a b y c : List ℕ) → IsLine b → a ++ crlf y ≡ b ++ c → (l : List ℕ) × (a ≡ b ++ l) × (c ≡ l ++ crlf y)
line_begins a [] y c p e = (a, refl, sym e)
line_begins [] (d ∷ b) y c p e = let h : d ≡ 13 = cc in absurd (p.0.0 h)
line_begins (x ∷ a) (d ∷ b) y c p e =
    let t : a ++ crlf y ≡ b ++ c = cc in
    let (l, h, w) = line_begins a b y c p.1 t in
    let x0 : x ≡ d = cc in
    let h0 : a ≡ b ++ l = h in
    (l, cc, w)

-- a tree's text, by its first line
pub text_first : (t : Tree) → text t ≡ first_line t ++ crlf (after_line t)
text_first t = sym (append-nil (text t)) ∙ text_is t [] ∙ ap (λ z. first_line t ++ crlf z) (append-nil (after_line t))

-- what completes a begun first line
pub record CompletesLine (L : LeafRule) (N : NodeRule) (k : ℕ) (b c : List ℕ) : Type 0 where
  pub tree : Tree
  pub line : List ℕ
  pub is_tree : IsTree tree
  pub keep : HoldsFrom L N k tree
  pub begins : first_line tree ≡ b ++ line
  pub whole : c ≡ line ++ crlf (after_line tree)

-- what completes a line completes it to a first line, and then comes what follows that
pub completes_line : (L : LeafRule) (N : NodeRule) (k : ℕ) (b c : List ℕ) → IsLine b → CompletesValue L N k b c → CompletesLine L N k b c
completes_line L N k b c p t =
    let w = line_begins (first_line t.tree) b (after_line t.tree) c p (sym (text_first t.tree) ∙ t.whole) in
    record { tree = t.tree; line = w.0; is_tree = t.is_tree; keep = t.keep; begins = w.1; whole = w.2 }

-- after the first line's CR
pub record CompletesReturn (L : LeafRule) (N : NodeRule) (k : ℕ) (a c : List ℕ) : Type 0 where
  pub tree : Tree
  pub is_tree : IsTree tree
  pub keep : HoldsFrom L N k tree
  pub line : first_line tree ≡ a
  pub whole : c ≡ 10 ∷ after_line tree

-- after the CR of a first line comes an LF, and what follows the line
pub completes_return : (L : LeafRule) (N : NodeRule) (k : ℕ) (a c : List ℕ) → IsLine a → CompletesValue L N k (a ++ 13 ∷ []) c → CompletesReturn L N k a c
completes_return L N k a c p t =
    let w = return_split (first_line t.tree) a (10 ∷ after_line t.tree) c (first_is_line t.tree t.is_tree) p (sym (text_first t.tree) ∙ t.whole ∙
    append_assoc a (13 ∷ []) c) in
    record { tree = t.tree; is_tree = t.is_tree; keep = t.keep; line = w.0; whole = sym w.1 }

-- a begun line that can end at once, and no other completes it sooner
pub line_least : (L : LeafRule) (N : NodeRule) (k : ℕ) (t : Tree) (m : ℕ) → IsTree t → HoldsFrom L N k t → m ≡ length (after_line t) →
    ((u : Tree) (l : List ℕ) → IsTree u → HoldsFrom L N k u → first_line u ≡ first_line t ++ l → m ≤ length l + length (after_line u)) →
    HasLeast (CompletesValue L N k (first_line t)) (m + 2)
line_least L N k t m p q e f = record {
  some = crlf (after_line t);
  holds = record { tree = t; is_tree = p; keep = q; whole = text_first t };
  size = omega arith;
  least = λ c w. (let u = completes_line L N k (first_line t) c (first_is_line t p) w in
      omega (arith, f u.tree u.line u.is_tree u.keep u.begins, ap length u.whole, length-append u.line (crlf (after_line u.tree))));
}

-- trees by their sort
pub tree_of_line : (t : Tree) (k : LineKind) (s : List ℕ) → sort_of t ≡ leaf_of (line_sort k s) → t ≡ leaf (line k s)
tree_of_line (leaf (line j r)) k s e = cc
tree_of_line _ k s e = absurd (cc)

-- a tree of this sort is such a node
pub tree_of_node : (t : Tree) (k : Kind) (f : Form) → sort_of t ≡ node_of k f → (ts : Trees) × (t ≡ node k f ts)
tree_of_node (leaf l) k f e = absurd (cc)
tree_of_node (node j g ts) k f e = let j0 : j ≡ k = cc in let g0 : g ≡ f = cc in (ts, cc)

-- an aggregate's type byte and a digit say that it is counted
pub sort_counted : (k : Kind) (d : ℕ) (cs : List ℕ) → IsDigit d → sort (kind_byte k ∷ d ∷ cs) ≡ node_of k (Counted (d ∷ cs))
sort_counted Array d cs p = rw (digit_is_no d 45 p (omega arith), digit_is_no_mark d p)
sort_counted _ d cs p = rw (digit_is_no_mark d p)

-- a count that begins so
pub counted_is : (t : Tree) (k : Kind) (d : ℕ) (cs : List ℕ) → IsTree t → IsDigit d → first_line t ≡ kind_byte k ∷ d ∷ cs →
    (ts : Trees) × (t ≡ node k (Counted (d ∷ cs)) ts)
counted_is t k d cs p q e = tree_of_node t k (Counted (d ∷ cs)) (sort_of-line t p e ∙ sort_counted k d cs q)

-- a greater number in a head is no fewer members
pub members-more : (k : Kind) (m n : ℕ) → m ≤ n → members_of k m ≤ members_of k n
members-more Map m n h = omega arith
members-more Attr m n h = omega arith
members-more _ m n h = h
