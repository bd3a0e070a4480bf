-- Bytes that no first line has after those that it begins with.
use Rattle.std.proofs.lemmas.Bool.Decides.{nat_tests}
use Rattle.std.proofs.Common.{◌≡◌, ℕ, Bool, true, false, eqb, List, [], ◌∷◌, ◌++◌, length, get_or, refl, sym, ap, subst, ◌∙◌, arith, append-nil}
use Rattle.resp_value.specs.Bytes.{IsLine, crlf}
use Rattle.resp_value.specs.Data.{Kind}
use Rattle.resp_value.specs.Trees.{Tree, leaf, null, truth, NullForm, BulkNull, ArrayNull, PlainNull, Streamed, kind_byte, null_line, truth_line, IsTree}
use Rattle.resp_value.specs.LocalRules.{LeafRule, NodeRule}
use Rattle.resp_value.proofs.FirstLines.{null_sort, truth_sort, chunked_sort, leaf_of, node_of, sort, sort_of, first_line, first_is_line, after_line, sort_of-line}
use Rattle.resp_fronts.specs.MayFollow.{CompletesValue}
use Rattle.resp_fronts.proofs.FirstLines.BegunLines.{completes_line, completes_return, tree_of_node}
use Rattle.resp_fronts.proofs.FirstLines.FirstLineRows.{tree_of_chunked, no_other}
use Rattle.resp_fronts.proofs.FirstLines.MoreFirstLineRows.{sort_mark}

-- no tree's first line begins with these bytes and this one
abbrev pub NoLineGoesOn : List ℕ → ℕ → Type 0
NoLineGoesOn begun byte = (t : Tree) (beyond : List ℕ) → IsTree t → first_line t ≡ begun ++ byte ∷ beyond → ⊥

-- these bytes are no tree's first line
abbrev pub NoLineEnds : List ℕ → Type 0
NoLineEnds begun = (t : Tree) → IsTree t → first_line t ≡ begun → ⊥

no_break : (byte : ℕ) (begun beyond : List ℕ) → IsLine (begun ++ byte ∷ beyond) → (byte ≡ 13 → ⊥) × (byte ≡ 10 → ⊥)
no_break byte [] beyond p = p.0
no_break byte (c ∷ begun) beyond p = no_break byte begun beyond p.1

-- a byte of a first line
pub byte_broken : (L : LeafRule) (N : NodeRule) (level : ℕ) (begun rest : List ℕ) (byte : ℕ) → IsLine begun → (byte ≡ 13 → ⊥) → NoLineGoesOn begun byte →
    CompletesValue L N level begun (byte ∷ rest) → ⊥
byte_broken L N level begun rest byte is_line no_return no_line w =
    let u = completes_line L N level begun (byte ∷ rest) is_line w in
    cases u.line u.begins u.whole
  where
    cases : (beyond : List ℕ) → first_line (completes_line L N level begun (byte ∷ rest) is_line w).tree ≡ begun ++ beyond →
        byte ∷ rest ≡ beyond ++ crlf (after_line (completes_line L N level begun (byte ∷ rest) is_line w).tree) → ⊥
    cases [] b e = let h : byte ≡ 13 = cc in no_return h
    cases (c ∷ beyond) b e =
        let h : c ≡ byte = cc in
        no_line (completes_line L N level begun (byte ∷ rest) is_line w).tree beyond (completes_line L N level begun (byte ∷ rest) is_line w).is_tree
        (b ∙ ap (λ z. begun ++ z ∷ beyond) h)

-- an LF within a first line
pub newline_broken : (L : LeafRule) (N : NodeRule) (level : ℕ) (begun rest : List ℕ) → IsLine begun → CompletesValue L N level begun (10 ∷ rest) → ⊥
newline_broken L N level begun rest is_line w = byte_broken L N level begun rest 10 is_line (λ e. omega arith)
    (λ t beyond p e. (no_break 10 begun beyond (subst IsLine e (first_is_line t p))).1 refl) w

-- the CR after a first line
pub return_broken : (L : LeafRule) (N : NodeRule) (level : ℕ) (begun rest : List ℕ) → IsLine begun → NoLineEnds begun →
    CompletesValue L N level begun (13 ∷ rest) → ⊥
return_broken L N level begun rest is_line no_end w =
    let u = completes_line L N level begun (13 ∷ rest) is_line w in
    cases u.tree u.line u.is_tree u.begins u.whole
  where
    cases : (t : Tree) (beyond : List ℕ) → IsTree t → first_line t ≡ begun ++ beyond → 13 ∷ rest ≡ beyond ++ crlf (after_line t) → ⊥
    cases t [] p b e = no_end t p (b ∙ append-nil begun)
    cases t (c ∷ beyond) p b e = let h : c ≡ 13 = cc in (no_break c begun beyond (subst IsLine b (first_is_line t p))).0 h

-- a byte with which no line goes on, after bytes that are no line
pub line_broken : (L : LeafRule) (N : NodeRule) (level : ℕ) (begun rest : List ℕ) (byte : ℕ) → IsLine begun → NoLineEnds begun → NoLineGoesOn begun byte →
    CompletesValue L N level begun (byte ∷ rest) → ⊥
line_broken L N level begun rest byte is_line no_end no_line w =
    elim (eqb byte 13) as (λ x. eqb byte 13 ≡ x → ⊥) [
      | true ↦ λ x.
          let b : byte ≡ 13 = grind (arith, nat_tests) in
          return_broken L N level begun rest is_line no_end (subst (λ z. CompletesValue L N level begun (z ∷ rest)) b w)
      | false ↦ λ x. byte_broken L N level begun rest byte is_line (λ b. grind (arith, nat_tests)) no_line w
    ] refl

-- another byte than LF after the CR
pub after_return_broken : (L : LeafRule) (N : NodeRule) (level : ℕ) (begun rest : List ℕ) (byte : ℕ) → IsLine begun → (byte ≡ 10 → ⊥) →
    CompletesValue L N level (begun ++ 13 ∷ []) (byte ∷ rest) → ⊥
after_return_broken L N level begun rest byte is_line no_newline w =
    let u = completes_return L N level begun (byte ∷ rest) is_line w in
    let e : byte ∷ rest ≡ 10 ∷ after_line u.tree = u.whole in
    no_newline (cc)

tree_of_null : (t : Tree) (f : NullForm) → sort_of t ≡ leaf_of (null_sort f) → t ≡ leaf (null f)
tree_of_null (leaf (null g)) f e = cc
tree_of_null _ f e = absurd (cc)

tree_of_truth : (t : Tree) (b : Bool) → sort_of t ≡ leaf_of (truth_sort b) → t ≡ leaf (truth b)
tree_of_truth (leaf (truth c)) b e = cc
tree_of_truth _ b e = absurd (cc)

first_of_null : (t : Tree) (f : NullForm) (a : List ℕ) → IsTree t → first_line t ≡ a → sort a ≡ leaf_of (null_sort f) → a ≡ null_line f
unfolding first_line
first_of_null t f a p e s = sym e ∙ ap first_line (tree_of_null t f (sort_of-line t p e ∙ s))

first_of_truth : (t : Tree) (b : Bool) (a : List ℕ) → IsTree t → first_line t ≡ a → sort a ≡ leaf_of (truth_sort b) → a ≡ truth_line b
unfolding first_line
first_of_truth t b a p e s = sym e ∙ ap first_line (tree_of_truth t b (sort_of-line t p e ∙ s))

first_of_streamed : (t : Tree) (k : Kind) (a : List ℕ) → IsTree t → first_line t ≡ a → sort a ≡ node_of k Streamed → a ≡ kind_byte k ∷ 63 ∷ []
unfolding first_line
first_of_streamed t k a p e s = let w = tree_of_node t k Streamed (sort_of-line t p e ∙ s) in sym e ∙ ap first_line w.1

first_of_chunked : (t : Tree) (a : List ℕ) → IsTree t → first_line t ≡ a → sort a ≡ leaf_of chunked_sort → a ≡ 36 ∷ 63 ∷ []
unfolding first_line
first_of_chunked t a p e s = let w = tree_of_chunked t (sort_of-line t p e ∙ s) in sym e ∙ ap first_line w.2

-- after `$-` and `*-` comes `1`, and nothing after that
pub null_begun_broken : (f : NullForm) (first byte : ℕ) → null_line f ≡ first ∷ 45 ∷ 49 ∷ [] → (byte ≡ 49 → ⊥) → NoLineGoesOn (first ∷ 45 ∷ []) byte
null_begun_broken BulkNull first byte e other t beyond p h =
    let h2 : first_line t ≡ 36 ∷ 45 ∷ byte ∷ beyond = h ∙ ap (λ z. z ∷ 45 ∷ byte ∷ beyond) (sym (ap (λ z. get_or z 0 0) e)) in
    other (ap (λ z. get_or z 2 0) (first_of_null t BulkNull (36 ∷ 45 ∷ byte ∷ beyond) p h2 refl))
null_begun_broken ArrayNull first byte e other t beyond p h =
    let h2 : first_line t ≡ 42 ∷ 45 ∷ byte ∷ beyond = h ∙ ap (λ z. z ∷ 45 ∷ byte ∷ beyond) (sym (ap (λ z. get_or z 0 0) e)) in
    other (ap (λ z. get_or z 2 0) (first_of_null t ArrayNull (42 ∷ 45 ∷ byte ∷ beyond) p h2 refl))
null_begun_broken PlainNull first byte e other t beyond p h = omega (arith, ap length e)

-- a null's line goes on by nothing
pub null_broken : (f : NullForm) (byte : ℕ) → NoLineGoesOn (null_line f) byte
null_broken BulkNull byte t beyond p e = omega (arith, ap length (first_of_null t BulkNull (36 ∷ 45 ∷ 49 ∷ byte ∷ beyond) p e refl))
null_broken ArrayNull byte t beyond p e = omega (arith, ap length (first_of_null t ArrayNull (42 ∷ 45 ∷ 49 ∷ byte ∷ beyond) p e refl))
null_broken PlainNull byte t beyond p e = omega (arith, ap length (first_of_null t PlainNull (95 ∷ byte ∷ beyond) p e refl))

-- nor does it end before its last byte
pub null_short : (f : NullForm) (first : ℕ) → null_line f ≡ first ∷ 45 ∷ 49 ∷ [] → NoLineEnds (first ∷ 45 ∷ [])
null_short BulkNull first e t p h = omega (
  arith,
  ap length (first_of_null t BulkNull (36 ∷ 45 ∷ []) p
      (h ∙ ap (λ z. z ∷ 45 ∷ []) (sym (ap (λ z. get_or z 0 0) e))) refl),
)
null_short ArrayNull first e t p h = omega (
  arith,
  ap length (first_of_null t ArrayNull (42 ∷ 45 ∷ []) p
      (h ∙ ap (λ z. z ∷ 45 ∷ []) (sym (ap (λ z. get_or z 0 0) e))) refl),
)
null_short PlainNull first e t p h = omega (arith, ap length e)

-- after `#` comes `t` or `f`, and nothing after that
pub truth_begun_broken : (byte : ℕ) → (byte ≡ 116 → ⊥) → (byte ≡ 102 → ⊥) → NoLineGoesOn (35 ∷ []) byte
truth_begun_broken byte no_true no_false t beyond p e = cases (eqb byte 116) (first_of_truth t (eqb byte 116) (35 ∷ byte ∷ beyond) p e refl)
  where
    cases : (b : Bool) → 35 ∷ byte ∷ beyond ≡ truth_line b → ⊥
    cases true h = no_true (ap (λ z. get_or z 1 0) h)
    cases false h = no_false (ap (λ z. get_or z 1 0) h)

-- after the letter of a boolean comes nothing more
pub truth_broken : (b : Bool) (byte : ℕ) → NoLineGoesOn (truth_line b) byte
truth_broken true byte t beyond p e = omega (arith, ap length (first_of_truth t true (35 ∷ 116 ∷ byte ∷ beyond) p e refl))
truth_broken false byte t beyond p e = omega (arith, ap length (first_of_truth t false (35 ∷ 102 ∷ byte ∷ beyond) p e refl))

-- `#` alone is no line
pub truth_short : NoLineEnds (35 ∷ [])
truth_short t p e = no_other t (sort_of-line t p e)

-- nothing stands after `?`
pub streamed_broken : (k : Kind) (byte : ℕ) → NoLineGoesOn (kind_byte k ∷ 63 ∷ []) byte
streamed_broken k byte t beyond p e = omega (arith, ap length (first_of_streamed t k (kind_byte k ∷ 63 ∷ byte ∷ beyond) p e (sort_mark k (byte ∷ beyond))))

-- nor after that of a string
pub chunked_broken : (byte : ℕ) → NoLineGoesOn (36 ∷ 63 ∷ []) byte
chunked_broken byte t beyond p e = omega (arith, ap length (first_of_chunked t (36 ∷ 63 ∷ byte ∷ beyond) p e refl))
