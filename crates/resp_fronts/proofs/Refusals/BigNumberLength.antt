-- Big numbers past the limit of length: their kept digits count.
use Rattle.std.proofs.Common.{◌++◌, ◌<◌, ◌∙◌, ◌∷◌, ◌≤◌, Bool, List, [], arith, cond, eqb, false, length, length-append, refl, subst, true, ℕ}
use Rattle.resp_value.specs.Bytes.{crlf}
use Rattle.resp_value.specs.LocalRules.{HoldsFrom, LeafKeeps, NodeKeeps}
use Rattle.resp_value.specs.Numbers.{IsDigits, Sign, kept_digits, sign_text, significant_digits, zero_if_none}
use Rattle.resp_value.specs.Rules.{Rules, WithinDepth, WithinLength}
use Rattle.resp_value.specs.Trees.{Big, leaf, numeral}
use Rattle.resp_value.proofs.FirstLines.{first_line, sort_of-line}
use Rattle.resp_fronts.proofs.FirstLines.BegunLines.{completes_line}
use Rattle.resp_fronts.proofs.FirstLines.FirstLineRows.{number_line, tree_of_numeral, sort_of_digits}
use Rattle.resp_fronts.proofs.FirstLines.CountRows.{IsRefusedHere}

some_kept : (s : List ℕ) → 1 ≤ length (zero_if_none s)
some_kept [] = omega arith
some_kept (c ∷ cs) = omega arith

-- more digits keep no fewer
pub kept-more : (ds l : List ℕ) → length (kept_digits ds) ≤ length (kept_digits (ds ++ l))
kept-more [] l = some_kept (significant_digits l)
kept-more (c ∷ ds) l = cases (eqb c 48) (kept-more ds l)
  where
    cases : (b : Bool) → length (kept_digits ds) ≤ length (kept_digits (ds ++ l)) →
        length (zero_if_none (cond b (significant_digits ds) (c ∷ ds))) ≤ length (zero_if_none (cond b (significant_digits (ds ++ l)) (c ∷ ds ++ l)))
    cases true h = h
    cases false h = omega (arith, length-append ds l)

-- a digit of a big number past the limit of length
pub big_too_long : (r : Rules) (k : ℕ) (g : Sign) (d : ℕ) (ds : List ℕ) → IsDigits (d ∷ ds) → LeafKeeps r WithinDepth k (numeral Big g (d ∷ ds)) →
    r.limits.length < length (kept_digits (d ∷ ds)) → IsRefusedHere r WithinLength WithinDepth k (40 ∷ (sign_text g ++ d ∷ ds))
unfolding first_line
big_too_long r k g d ds p h n = record {
  dead = λ c t. (let u = completes_line (LeafKeeps r WithinLength) (NodeKeeps r WithinLength) k (40 ∷ (sign_text g ++ d ∷ ds)) c
      (number_line Big g (d ∷ ds) p.1) t in
      let e = tree_of_numeral u.tree Big g (d ∷ ds ++ u.line) (sort_of-line u.tree u.is_tree u.begins ∙ sort_of_digits Big g d ds u.line p.1.0) in
      let a : HoldsFrom (LeafKeeps r WithinLength) (NodeKeeps r WithinLength) k (leaf (numeral Big g (d ∷ ds ++ u.line))) =
      subst (HoldsFrom (LeafKeeps r WithinLength) (NodeKeeps r WithinLength) k) e u.keep in
      let m : length (kept_digits (d ∷ ds ++ u.line)) ≤ r.limits.length = a WithinLength (omega arith) in
      omega (arith, kept-more (d ∷ ds) u.line));
  rest = crlf [];
  alive = record { tree = leaf (numeral Big g (d ∷ ds)); is_tree = p; keep = h; whole = refl };
  some = omega arith;
}
