-- The lines of simple strings, errors and doubles.
use Rattle.std.proofs.Common.{◌≡◌, ℕ, ◌<◌, ◌≤◌, List, [], ◌∷◌, ◌++◌, length, refl, subst, ◌∙◌, arith, length-append}
use Rattle.resp_value.specs.Bytes.{IsLine, IsText, crlf}
use Rattle.resp_value.specs.Data.{content_length}
use Rattle.resp_value.specs.TreeValues.{leaf_value}
use Rattle.resp_value.specs.Trees.{leaf, line, LineKind, Simple, Error, Double, line_byte, IsNumberIn}
use Rattle.resp_value.specs.Rules.{Rules, Rule, WithinDepth, WithinLength, rank}
use Rattle.resp_value.specs.LocalRules.{HoldsFrom, LeafKeeps, NodeKeeps, LeafMeets}
use Rattle.resp_value.proofs.Splitting.{plain_above}
use Rattle.resp_value.proofs.FirstLines.{line_sort, leaf_of, sort, first_line, sort_of-line}
use Rattle.resp_fronts.specs.LeastCompletions.{HasLeast}
use Rattle.resp_fronts.proofs.FirstLines.BegunLines.{line_least, completes_line, tree_of_line}
use Rattle.resp_fronts.proofs.FrameLaws.KeptNodes.{at_each_rule, leaf_keeps}
use Rattle.resp_fronts.proofs.FirstLines.CountRows.{CompletesUnder, IsRefusedHere}
use Rattle.resp_fronts.specs.Tokens.{HasAnyText, HasLine}

-- such a line up to the limit of length is within every rule
pub text_line_keeps : (r : Rules) (rule : Rule) (level : ℕ) (k : LineKind) (s : List ℕ) → HasLine r k → length s ≤ r.limits.length →
    LeafKeeps r rule level (line k s)
text_line_keeps r rule level Simple s p fits = leaf_keeps r rule level (line Simple s) tt (λ is_two. tt) tt (λ off. tt) fits
text_line_keeps r rule level Error s p fits = leaf_keeps r rule level (line Error s) tt (λ is_two. tt) tt (λ off. tt) fits
text_line_keeps r rule level Double s p fits = λ earlier e. at_each_rule (λ a. LeafMeets r a level (line Double s)) tt (λ off. absurd (p.1 off))
    (λ is_two. absurd (p.0 is_two)) tt tt (λ off. tt) tt fits tt tt earlier

-- and any is within the rules before that of length
pub text_line_before : (r : Rules) (level : ℕ) (k : LineKind) (s : List ℕ) → HasLine r k → LeafKeeps r WithinDepth level (line k s)
text_line_before r level Simple s p earlier = at_each_rule (λ a. rank a ≤ 6 → LeafMeets r a level (line Simple s)) (λ e. tt) (λ e. λ off. tt)
    (λ e. λ is_two. tt) (λ e. tt) (λ e. tt) (λ e. λ off. tt) (λ e. tt) (λ e. absurd (omega arith)) (λ e. tt) (λ e. tt) earlier
text_line_before r level Error s p earlier = at_each_rule (λ a. rank a ≤ 6 → LeafMeets r a level (line Error s)) (λ e. tt) (λ e. λ off. tt)
    (λ e. λ is_two. tt) (λ e. tt) (λ e. tt) (λ e. λ off. tt) (λ e. tt) (λ e. absurd (omega arith)) (λ e. tt) (λ e. tt) earlier
text_line_before r level Double s p earlier = at_each_rule (λ a. rank a ≤ 6 → LeafMeets r a level (line Double s)) (λ e. tt)
    (λ e. λ off. absurd (p.1 off)) (λ e. λ is_two. absurd (p.0 is_two)) (λ e. tt) (λ e. tt) (λ e. λ off. tt) (λ e. tt) (λ e. absurd (omega arith)) (λ e. tt)
    (λ e. tt) earlier

-- such a line has no break in it
pub line_has_no_break : (k : LineKind) (s : List ℕ) → IsLine s → IsLine (line_byte k ∷ s)
line_has_no_break Simple s p = (plain_above 43 (omega arith), p)
line_has_no_break Error s p = (plain_above 45 (omega arith), p)
line_has_no_break Double s p = (plain_above 44 (omega arith), p)

-- the sort of a simple line
pub sort_of_text : (k : LineKind) (s : List ℕ) → sort (line_byte k ∷ s) ≡ leaf_of (line_sort k s)
sort_of_text Simple s = refl
sort_of_text _ s = refl

-- a simple string or an error is no number
pub any_number : (k : LineKind) (s : List ℕ) → HasAnyText k → IsNumberIn k s
any_number Simple s any = tt
any_number Error s any = tt
any_number Double s any = absurd any

-- `+` or `-` and any text: 2
pub text_line_row : (r : Rules) (rule : Rule) (level : ℕ) (k : LineKind) (s : List ℕ) → HasLine r k → HasAnyText k → IsLine s → IsText s →
    length s ≤ r.limits.length → HasLeast (CompletesUnder r rule level (line_byte k ∷ s)) 2
unfolding first_line
text_line_row r rule level k s p any is_line is_text fits = line_least (LeafKeeps r rule) (NodeKeeps r rule) level (leaf (line k s)) 0
    (is_line, is_text, any_number k s any)
    (text_line_keeps r rule level k s p fits) refl (λ u l i j e. omega arith)

pub content_of_text : (k : LineKind) (s : List ℕ) → content_length (leaf_value (line k s)) ≡ length s
content_of_text Simple s = refl
content_of_text Error s = refl
content_of_text Double s = refl

-- a byte past the limit of length
pub text_line_too_long : (r : Rules) (level : ℕ) (k : LineKind) (s : List ℕ) → HasLine r k → HasAnyText k → IsLine s → IsText s →
    r.limits.length < length s → IsRefusedHere r WithinLength WithinDepth level (line_byte k ∷ s)
text_line_too_long r level k s p any is_line is_text too_long = record {
  dead = λ c t. (let u = completes_line (LeafKeeps r WithinLength) (NodeKeeps r WithinLength) level (line_byte k ∷ s) c (line_has_no_break k s is_line) t in
      let e = tree_of_line u.tree k (s ++ u.line) (sort_of-line u.tree u.is_tree u.begins ∙ sort_of_text k (s ++ u.line)) in
      let kept : HoldsFrom (LeafKeeps r WithinLength) (NodeKeeps r WithinLength) level (leaf (line k (s ++ u.line))) =
      subst (HoldsFrom (LeafKeeps r WithinLength) (NodeKeeps r WithinLength) level) e u.keep in
      let fits : content_length (leaf_value (line k (s ++ u.line))) ≤ r.limits.length = kept WithinLength (omega arith) in
      omega (arith, content_of_text k (s ++ u.line), length-append s u.line));
  rest = crlf [];
  alive = record { tree = leaf (line k s); is_tree = (is_line, is_text, any_number k s any); keep = text_line_before r level k s p; whole = refl };
  some = omega arith;
}
