-- Integers past their range.
use Rattle.std.proofs.Common.{◌++◌, ◌<◌, ◌∙◌, ◌∷◌, ◌≤◌, List, [], arith, refl, subst, ℕ}
use Rattle.std.proofs.lemmas.Int.{ints}
use Rattle.resp_value.specs.Bytes.{crlf}
use Rattle.resp_value.specs.LocalRules.{HoldsFrom, LeafKeeps, LeafMeets, NodeKeeps}
use Rattle.resp_value.specs.Numbers.{IsDigits, Sign, Unsigned, number, sign_text}
use Rattle.resp_value.specs.Rules.{Grammar, InRange, InVersion, IsInRange, NoDouble, PushAtTop, Rule, Rules, WithinTotal, rank}
use Rattle.resp_value.specs.Trees.{Int, leaf, numeral}
use Rattle.resp_value.proofs.FirstLines.{first_line, sort_of-line}
use Rattle.resp_value.proofs.DigitLemmas.{number-more}
use Rattle.resp_fronts.proofs.FirstLines.BegunLines.{completes_line}
use Rattle.resp_fronts.proofs.FirstLines.FirstLineRows.{number_line, tree_of_numeral, sort_of_digits}
use Rattle.resp_fronts.proofs.FirstLines.CountRows.{IsRefusedHere}
use Rattle.resp_fronts.specs.Tokens.{greatest}

in_range : (g : Sign) (ds : List ℕ) → IsInRange (numeral Int g ds) → number ds ≤ greatest g
in_range Unsigned ds p = omega (arith, ints, p.0, p.1)
in_range _ ds p = omega (arith, ints, p.0, p.1)

-- digits up to the greatest are within range
pub range_in : (g : Sign) (ds : List ℕ) → number ds ≤ greatest g → IsInRange (numeral Int g ds)
range_in Unsigned ds p = (omega (arith, ints), omega (arith, ints))
range_in _ ds p = (omega (arith, ints), omega (arith, ints))

numeral_before : (r : Rules) (k : ℕ) (g : Sign) (ds : List ℕ) (h : Rule) → rank h ≤ 3 → LeafMeets r h k (numeral Int g ds)
numeral_before r k g ds Grammar e = tt
numeral_before r k g ds NoDouble e = λ off. tt
numeral_before r k g ds InVersion e = λ v. tt
numeral_before r k g ds PushAtTop e = tt
numeral_before r k g ds WithinTotal e = tt
numeral_before r k g ds _ e = absurd (omega arith)

-- a digit past the range
pub int_too_far : (r : Rules) (k : ℕ) (g : Sign) (d : ℕ) (ds : List ℕ) → IsDigits (d ∷ ds) → greatest g < number (d ∷ ds) →
    IsRefusedHere r InRange PushAtTop k (58 ∷ (sign_text g ++ d ∷ ds))
unfolding first_line
int_too_far r k g d ds p n = record {
  dead = λ c t. (let u = completes_line (LeafKeeps r InRange) (NodeKeeps r InRange) k (58 ∷ (sign_text g ++ d ∷ ds)) c (number_line Int g (d ∷ ds) p.1) t in
      let e = tree_of_numeral u.tree Int g (d ∷ ds ++ u.line) (sort_of-line u.tree u.is_tree u.begins ∙ sort_of_digits Int g d ds u.line p.1.0) in
      let a : HoldsFrom (LeafKeeps r InRange) (NodeKeeps r InRange) k (leaf (numeral Int g (d ∷ ds ++ u.line))) =
      subst (HoldsFrom (LeafKeeps r InRange) (NodeKeeps r InRange) k) e u.keep in
      omega (arith, in_range g (d ∷ ds ++ u.line) (a InRange (omega arith)), number-more (d ∷ ds) u.line));
  rest = crlf [];
  alive = record { tree = leaf (numeral Int g (d ∷ ds)); is_tree = p; keep = λ h e. numeral_before r k g (d ∷ ds) h (omega arith); whole = refl };
  some = omega arith;
}
