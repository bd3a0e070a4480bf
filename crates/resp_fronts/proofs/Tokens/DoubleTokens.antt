-- Doubles: what each stage needs, and the bytes that no double has there.
use Rattle.std.proofs.Common.{◌≡◌, ℕ, ◌+◌, ◌<◌, ◌≤◌, true, false, None, Some, List, [], ◌∷◌, ◌++◌, length, eqb, refl, sym, ap, subst, ◌∙◌, arith, append_assoc, length-append}
use Rattle.resp_value.specs.Bytes.{IsLine, IsPlain, crlf}
use Rattle.resp_value.specs.Doubles.{IsDouble}
use Rattle.resp_value.specs.DoubleStages.{and_then, completes, may_end, stage_after, stage_after_all, stage_needs}
use Rattle.resp_value.specs.LocalRules.{HoldsFrom, LeafKeeps, NodeKeeps}
use Rattle.resp_value.specs.Rules.{Rules, Grammar, WithinDepth, WithinItems, WithinLength}
use Rattle.resp_value.specs.Trees.{IsTree, Tree, leaf, line, Double}
use Rattle.resp_value.specs.declared.double_stage.DoubleStage.{DoubleStage}
use Rattle.resp_value.specs.declared.double_stage.DoubleStage.TheVariants.{Begun}
use Rattle.resp_value.proofs.Doubles.{completes_double, completes_from, completion, completion_completes, double_completes, double_is_line, is_double_leaf, length-completion, needs_least, stages-append}
use Rattle.resp_value.proofs.FirstBytes.{all_front}
use Rattle.resp_value.proofs.FirstLines.{first_line, sort, sort_of, sort_of-line}
use Rattle.resp_value.proofs.Splitting.{plain_above}
use Rattle.resp_fronts.proofs.FirstLines.BegunLines.{completes_line, tree_of_line}
use Rattle.resp_fronts.proofs.FirstLines.CountRows.{CompletesUnder, IsRefusedHere}
use Rattle.resp_fronts.proofs.FirstLines.FirstLineRows.{line_row}
use Rattle.resp_fronts.proofs.FirstLines.TextLines.{sort_of_text, text_line_before, text_line_keeps}
use Rattle.resp_fronts.proofs.Refusals.BrokenLines.{NoLineEnds, NoLineGoesOn, line_broken, byte_broken}
use Rattle.resp_fronts.proofs.Tokens.BegunFronts.{IsBegunBy}
use Rattle.resp_fronts.specs.Tokens.{HasLine, IsDoubleToken, IsLineOf}

-- the text so far with the least bytes that complete it
pub least_double : (stage : DoubleStage) (content : List ℕ) → stage_after_all Begun content ≡ Some stage → IsDouble (content ++ completion stage)
least_double stage content e = completes_double (content ++ completion stage) (completes_from Begun stage content (completion stage) e ∙ completion_completes stage)

-- it has no break in it
pub double_no_break : (stage : DoubleStage) (content : List ℕ) → stage_after_all Begun content ≡ Some stage → IsLine (44 ∷ content)
double_no_break stage content e = (
  plain_above 44 (omega arith),
  all_front IsPlain content (completion stage) (double_is_line (content ++ completion stage) (least_double stage content e)),
)

-- a tree whose first line this is, is this double
double_of_line : (t : Tree) (text : List ℕ) → IsTree t → first_line t ≡ 44 ∷ text → IsDouble text
double_of_line t text p e = (subst IsTree (tree_of_line t Double text (sort_of-line t p e ∙ sort_of_text Double text)) p).2

-- what goes on after a stage completes it
rest_completes : (stage : DoubleStage) (content rest : List ℕ) → stage_after_all Begun content ≡ Some stage → IsDouble (content ++ rest) →
    completes stage rest ≡ true
rest_completes stage content rest e double = sym (completes_from Begun stage content rest e) ∙ double_completes (content ++ rest) double

-- what the stage needs, and 2
pub double_begun : (r : Rules) (stage : DoubleStage) (n level : ℕ) (bytes : List ℕ) → IsDoubleToken r stage n level bytes →
    IsBegunBy r level bytes (stage_needs stage + 2)
unfolding first_line
double_begun r stage n level bytes w =
    let text = w.content ++ completion stage in
    let fits : length text ≤ r.limits.length = omega (arith, w.fits, w.size, length-append w.content (completion stage), length-completion stage) in
    record {
      head = 44;
      tail = w.content;
      parts = w.are;
      some = omega arith;
      least = line_row (LeafKeeps r WithinItems) (NodeKeeps r WithinItems) level bytes (completion stage) (leaf (line Double text)) (stage_needs stage)
          (subst IsLine (sym w.are) (double_no_break stage w.content w.at_stage)) (is_double_leaf text (least_double stage w.content w.at_stage))
          (text_line_keeps r WithinItems level Double text w.has_line fits) (ap (λ z. z ++ completion stage) (sym w.are))
          (omega (arith, length-completion stage)) (λ u l p keep s.
          let e : sort_of u ≡ sort (44 ∷ (w.content ++ l)) = s ∙ ap (λ z. sort (z ++ l)) w.are in
          let double : IsDouble (w.content ++ l) = (subst IsTree (tree_of_line u Double (w.content ++ l) (e ∙ sort_of_text Double (w.content ++ l))) p).2 in
          let least = needs_least stage l (rest_completes stage w.content l w.at_stage double) in
          omega (arith, least));
    }

-- where the stage needs nothing, it is a line that may end
pub double_token_line : (r : Rules) (stage : DoubleStage) (n level : ℕ) (bytes : List ℕ) (w : IsDoubleToken r stage n level bytes) →
    stage_needs stage ≡ 0 → IsLineOf r (line Double w.content) level bytes
double_token_line r stage n level bytes w none = record {
  is_leaf = is_double_leaf w.content (completes_double w.content (ap may_end w.at_stage ∙ ap (λ m. eqb m 0) none));
  keeps = text_line_keeps r WithinItems level Double w.content w.has_line (omega (arith, w.size, w.fits));
  is_line = w.are;
  no_rest = refl;
}

-- its type byte
unfoldable pub double_token_begins : (r : Rules) (level : ℕ) → HasLine r Double → 1 ≤ r.limits.length → IsDoubleToken r Begun 0 level (44 ∷ [])
double_token_begins r level p roomy = record { content = []; has_line = p; at_stage = refl; size = refl; fits = roomy; are = refl }

pub next_stage : (stage next : DoubleStage) (content : List ℕ) (byte : ℕ) → stage_after_all Begun content ≡ Some stage → stage_after stage byte ≡ Some next →
    stage_after_all Begun (content ++ byte ∷ []) ≡ Some next
next_stage stage next content byte e f = stages-append Begun content (byte ∷ []) ∙ ap (λ z. and_then z (λ to. stage_after_all to (byte ∷ []))) e ∙
    ap (λ z. and_then z (λ to. stage_after_all to [])) f

-- a byte more, within the limit of length
unfoldable pub double_token_more : (r : Rules) (stage next : DoubleStage) (n level : ℕ) (bytes : List ℕ) (byte : ℕ) → stage_after stage byte ≡ Some next →
    (n + 1) + stage_needs next ≤ r.limits.length → IsDoubleToken r stage n level bytes → IsDoubleToken r next (n + 1) level (bytes ++ byte ∷ [])
double_token_more r stage next n level bytes byte e fits w = record {
  content = w.content ++ byte ∷ [];
  has_line = w.has_line;
  at_stage = next_stage stage next w.content byte w.at_stage e;
  size = omega (arith, w.size, length-append w.content (byte ∷ []));
  fits = fits;
  are = ap (λ z. z ++ byte ∷ []) w.are;
}

-- a byte that leaves too few bytes for what the double then needs
pub double_token_over : (r : Rules) (stage next : DoubleStage) (n level : ℕ) (bytes : List ℕ) (byte : ℕ) → stage_after stage byte ≡ Some next →
    r.limits.length < (n + 1) + stage_needs next → (w : IsDoubleToken r stage n level bytes) →
    (bytes ++ byte ∷ [] ≡ 44 ∷ (w.content ++ byte ∷ [])) × IsRefusedHere r WithinLength WithinDepth level (44 ∷ (w.content ++ byte ∷ []))
unfolding first_line
double_token_over r stage next n level bytes byte e over w =
    let content = w.content ++ byte ∷ [] in
    let here = next_stage stage next w.content byte w.at_stage e in
    let size : length content ≡ n + 1 = omega (arith, w.size, length-append w.content (byte ∷ [])) in
    let text = content ++ completion next in (
      ap (λ z. z ++ byte ∷ []) w.are,
      record {
        dead = λ c t. (let u = completes_line (LeafKeeps r WithinLength) (NodeKeeps r WithinLength) level (44 ∷ content) c (double_no_break next content here) t in
            let double = double_of_line u.tree (content ++ u.line) u.is_tree u.begins in
            let is = tree_of_line u.tree Double (content ++ u.line) (sort_of-line u.tree u.is_tree u.begins ∙ sort_of_text Double (content ++ u.line)) in
            let kept : HoldsFrom (LeafKeeps r WithinLength) (NodeKeeps r WithinLength) level (leaf (line Double (content ++ u.line))) =
            subst (HoldsFrom (LeafKeeps r WithinLength) (NodeKeeps r WithinLength) level) is u.keep in
            let fits : length (content ++ u.line) ≤ r.limits.length = kept WithinLength (omega arith) in
            let least = needs_least next u.line (rest_completes next content u.line here double) in
            omega (arith, fits, over, size, least, length-append content u.line));
        rest = completion next ++ crlf [];
        alive = record {
          tree = leaf (line Double text);
          is_tree = is_double_leaf text (least_double next content here);
          keep = text_line_before r level Double text w.has_line;
          whole = ap (λ z. 44 ∷ z) (append_assoc content (completion next) (crlf []));
        };
        some = omega (arith, length-append (completion next) (crlf []));
      },
    )

-- no line goes on with a byte after which there is no stage
no_stage_goes_on : (stage : DoubleStage) (content : List ℕ) (byte : ℕ) → stage_after_all Begun content ≡ Some stage → stage_after stage byte ≡ None →
    NoLineGoesOn (44 ∷ content) byte
no_stage_goes_on stage content byte e none t beyond p is =
    let double = double_of_line t (content ++ byte ∷ beyond) p is in
    let wrong : true ≡ false = sym (rest_completes stage content (byte ∷ beyond) e double) ∙
    ap (λ z. may_end (and_then z (λ to. stage_after_all to beyond))) none in
    absurd (cc)

-- no line ends at a stage that needs a byte
no_line_ends : (stage : DoubleStage) (content : List ℕ) → stage_after_all Begun content ≡ Some stage → eqb (stage_needs stage) 0 ≡ false →
    NoLineEnds (44 ∷ content)
no_line_ends stage content e needs t p is =
    let wrong : true ≡ false = sym (double_completes content (double_of_line t content p is)) ∙ ap may_end e ∙ needs in
    absurd (cc)

-- a byte that no double has there, before its end
pub double_broken : (r : Rules) (stage : DoubleStage) (n level : ℕ) (bytes rest : List ℕ) (byte : ℕ) → stage_after stage byte ≡ None →
    eqb (stage_needs stage) 0 ≡ false → IsDoubleToken r stage n level bytes → CompletesUnder r Grammar level bytes (byte ∷ rest) → ⊥
double_broken r stage n level bytes rest byte none needs w c =
    line_broken (LeafKeeps r Grammar) (NodeKeeps r Grammar) level (44 ∷ w.content) rest byte (double_no_break stage w.content w.at_stage)
    (no_line_ends stage w.content w.at_stage needs) (no_stage_goes_on stage w.content byte w.at_stage none)
    (subst (λ z. CompletesUnder r Grammar level z (byte ∷ rest)) w.are c)

-- a byte other than CR that no double has there, where it may end
pub double_broken_at_end : (r : Rules) (stage : DoubleStage) (n level : ℕ) (bytes rest : List ℕ) (byte : ℕ) → stage_after stage byte ≡ None →
    (byte ≡ 13 → ⊥) → IsDoubleToken r stage n level bytes → CompletesUnder r Grammar level bytes (byte ∷ rest) → ⊥
double_broken_at_end r stage n level bytes rest byte none no_return w c =
    byte_broken (LeafKeeps r Grammar) (NodeKeeps r Grammar) level (44 ∷ w.content) rest byte (double_no_break stage w.content w.at_stage)
    no_return (no_stage_goes_on stage w.content byte w.at_stage none)
    (subst (λ z. CompletesUnder r Grammar level z (byte ∷ rest)) w.are c)
