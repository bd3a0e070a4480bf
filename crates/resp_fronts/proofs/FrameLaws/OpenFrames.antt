-- Lists of trees as frames hold them, and that a head tells its aggregate.
use Rattle.std.proofs.Common.{◌++◌, ◌+◌, ◌∙◌, ◌∷◌, ◌≡◌, List, [], ap, append_assoc, arith, refl, subst, suc, sym, zero, ℕ}
use Rattle.resp_value.specs.Bytes.{crlf}
use Rattle.resp_value.specs.Data.{Kind}
use Rattle.resp_value.specs.Trees.{AreTrees, Form, HasMembers, IsTree, Simple, Tree, Trees, close, count, form_line, kind_byte, leaf, line, more, node, none, text, texts}
use Rattle.resp_value.proofs.FirstLines.{first_is_line, first_line, leaf_of, leaf_sort, node_of, sort, sort_is, text_is}
use Rattle.resp_value.proofs.Splitting.{line_split}

-- one list of trees after another
abbrev pub joined_trees : Trees → Trees → Trees
joined_trees none us = us
joined_trees (more t ts) us = more t (joined_trees ts us)

-- its texts
pub texts-joined_trees : (ts us : Trees) → texts (joined_trees ts us) ≡ texts ts ++ texts us
texts-joined_trees none us = refl
texts-joined_trees (more t ts) us = ap (λ z. text t ++ z) (texts-joined_trees ts us) ∙ sym (append_assoc (text t) (texts ts) (texts us))

-- its count
pub count-joined_trees : (ts us : Trees) → count (joined_trees ts us) ≡ count ts + count us
count-joined_trees none us = omega arith
count-joined_trees (more t ts) us = omega (arith, count-joined_trees ts us)

-- its trees are the grammar's
pub are_joined : (ts us : Trees) → AreTrees ts → AreTrees us → AreTrees (joined_trees ts us)
are_joined none us p q = q
are_joined (more t ts) us p q = (p.0, are_joined ts us p.1 q)

-- the shortest value
abbrev pub shortest_tree : Tree
shortest_tree = leaf (line Simple [])

-- as many shortest values as asked for
abbrev pub shortest_trees : ℕ → Trees
shortest_trees zero = none
shortest_trees (suc n) = more shortest_tree (shortest_trees n)

-- the shortest values are as many as asked for
pub count-shortest_trees : (n : ℕ) → count (shortest_trees n) ≡ n
count-shortest_trees zero = refl
count-shortest_trees (suc n) = omega (arith, count-shortest_trees n)

-- the shortest values are trees of the grammar
pub are_shortest_trees : (n : ℕ) → AreTrees (shortest_trees n)
are_shortest_trees zero = tt
are_shortest_trees (suc n) = ((tt, tt, tt), are_shortest_trees n)

first_node : (k : Kind) (f : Form) (ds : Trees) → first_line (node k f ds) ≡ kind_byte k ∷ form_line f
unfolding first_line
first_node k f ds = refl

-- Every tree whose text begins so is an aggregate of this kind and form.
pub is_node : (t : Tree) (k : Kind) (f : Form) (n : ℕ) (x z : List ℕ) → IsTree t → HasMembers k f n → text t ++ x ≡ (kind_byte k ∷ form_line f) ++ crlf z →
    (ts : Trees) × (t ≡ node k f ts) × ((texts ts ++ close f) ++ x ≡ z)
is_node (leaf l) k f n x z p q0 e =
    let ds = shortest_trees n in
    let q : HasMembers k f (count ds) = subst (HasMembers k f) (sym (count-shortest_trees n)) q0 in
    let r : AreTrees ds = are_shortest_trees n in
    let a = line_split (first_line (leaf l)) (first_line (node k f ds)) _ z (first_is_line (leaf l) p) (first_is_line (node k f ds) (q, r))
    (sym (text_is (leaf l) x) ∙ e ∙ ap (λ (w : List ℕ). w ++ crlf z) (sym (first_node k f ds))) in
    let b : leaf_of (leaf_sort l) ≡ node_of k f = sym (sort_is (leaf l) p) ∙ ap sort a.0 ∙ sort_is (node k f ds) (q, r) in
    absurd (cc)
is_node (node j g ts) k f n x z p q0 e =
    let ds = shortest_trees n in
    let q : HasMembers k f (count ds) = subst (HasMembers k f) (sym (count-shortest_trees n)) q0 in
    let r : AreTrees ds = are_shortest_trees n in
    let a = line_split (first_line (node j g ts)) (first_line (node k f ds)) _ z (first_is_line (node j g ts) p) (first_is_line (node k f ds) (q, r))
    (sym (text_is (node j g ts) x) ∙ e ∙ ap (λ (w : List ℕ). w ++ crlf z) (sym (first_node k f ds))) in
    let b : node_of j g ≡ node_of k f = sym (sort_is (node j g ts) p) ∙ ap sort a.0 ∙ sort_is (node k f ds) (q, r) in
    let j0 : j ≡ k = cc in
    let g0 : g ≡ f = cc in
    (ts, cc, ap (λ (w : Form). (texts ts ++ close w) ++ x) (sym g0) ∙ a.1)
