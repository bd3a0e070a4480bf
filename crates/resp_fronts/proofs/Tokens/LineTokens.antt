-- Tokens that are one line: texts, numbers, nulls and truth values, and what stands after their CR.
use Rattle.std.proofs.Common.{◌≡◌, ℕ, ◌+◌, ◌≤◌, List, [], ◌∷◌, ◌++◌, length, refl, sym, ap, subst, ◌∙◌, arith, append_assoc, append-nil, length-append}
use Rattle.resp_value.specs.Bytes.{IsLine, IsPlain, IsByte, IsText, crlf}
use Rattle.resp_value.specs.Trees.{leaf, Leaf, line, LineKind, line_byte, leaf_line, leaf_text}
use Rattle.resp_value.specs.Rules.{Rules, Grammar, WithinDepth, WithinLength, WithinItems}
use Rattle.resp_value.specs.LocalRules.{LeafKeeps, NodeKeeps}
use Rattle.resp_value.proofs.FirstBytes.{leaf_begins, leaf_byte, all_append}
use Rattle.resp_value.proofs.FirstLines.{first_line, first_is_line}
use Rattle.resp_fronts.specs.LeastCompletions.{HasLeast}
use Rattle.resp_fronts.proofs.FirstLines.CountRows.{CompletesUnder, IsRefusedHere}
use Rattle.resp_fronts.proofs.FirstLines.FirstLineRows.{line_row}
use Rattle.resp_fronts.proofs.FirstLines.ShortRows.{next_row}
use Rattle.resp_fronts.proofs.Refusals.BrokenLines.{after_return_broken, newline_broken, byte_broken, NoLineGoesOn}
use Rattle.resp_fronts.proofs.FirstLines.TextLines.{any_number, text_line_keeps, text_line_too_long}
use Rattle.resp_fronts.proofs.Tokens.BegunFronts.{IsBegunBy}
use Rattle.resp_fronts.specs.Tokens.{IsLineOf, IsReturned, HasAnyText, HasLine, IsTextToken}

-- it has no break in it
pub no_break_in_line : (r : Rules) (l : Leaf) (level : ℕ) (bytes : List ℕ) → IsLineOf r l level bytes → IsLine bytes
unfolding first_line
no_break_in_line r l level bytes w = subst IsLine (sym w.is_line) (first_is_line (leaf l) w.is_leaf)

line_text : (r : Rules) (l : Leaf) (level : ℕ) (bytes : List ℕ) (w : IsLineOf r l level bytes) → leaf_text l ≡ bytes ++ crlf []
line_text r l level bytes w = ap (λ z. leaf_line l ++ crlf z) w.no_rest ∙ ap (λ z. z ++ crlf []) (sym w.is_line)

-- a line may end at once: 2
pub line_begun : (r : Rules) (l : Leaf) (level : ℕ) (bytes : List ℕ) → IsLineOf r l level bytes → IsBegunBy r level bytes 2
unfolding first_line
line_begun r l level bytes w =
    let (cs, e) = leaf_begins l in
    record {
      head = leaf_byte l;
      tail = cs;
      parts = w.is_line ∙ e;
      some = omega arith;
      least = line_row (LeafKeeps r WithinItems) (NodeKeeps r WithinItems) level bytes [] (leaf l) 0 (no_break_in_line r l level bytes w) w.is_leaf w.keeps
          (sym w.is_line ∙ sym (append-nil bytes)) (omega (arith, ap length w.no_rest)) (λ u s i j h. omega arith);
    }

-- its CR, and then LF alone: 1
pub returned_begun : (r : Rules) (l : Leaf) (level : ℕ) (bytes : List ℕ) → IsReturned r l level bytes → IsBegunBy r level bytes 1
returned_begun r l level bytes w =
    let b = line_begun r l level w.begun w.line_of in
    record {
      head = b.head;
      tail = b.tail ++ 13 ∷ [];
      parts = w.returned ∙ ap (λ z. z ++ 13 ∷ []) b.parts;
      some = omega arith;
      least = subst (λ z. HasLeast (CompletesUnder r WithinItems level z) 1) (sym w.returned)
          (next_row (LeafKeeps r WithinItems) (NodeKeeps r WithinItems) level w.begun 13 1 (10 ∷ []) b.least
          (record { tree = leaf l; is_tree = w.line_of.is_leaf; keep = w.line_of.keeps; whole = line_text r l level w.begun w.line_of }) refl);
    }

-- with the LF it is the text of the leaf
pub returned_whole : (r : Rules) (l : Leaf) (level : ℕ) (bytes : List ℕ) → IsReturned r l level bytes → leaf_text l ≡ bytes ++ 10 ∷ []
returned_whole r l level bytes w = line_text r l level w.begun w.line_of ∙ sym (append_assoc w.begun (13 ∷ []) (10 ∷ [])) ∙
    ap (λ z. z ++ 10 ∷ []) (sym w.returned)

-- no other byte than LF goes on after a line's CR
pub returned_broken : (r : Rules) (l : Leaf) (level : ℕ) (bytes rest : List ℕ) (byte : ℕ) → (byte ≡ 10 → ⊥) → IsReturned r l level bytes →
    CompletesUnder r Grammar level bytes (byte ∷ rest) → ⊥
returned_broken r l level bytes rest byte no_newline w c =
    after_return_broken (LeafKeeps r Grammar) (NodeKeeps r Grammar) level w.begun rest byte (no_break_in_line r l level w.begun w.line_of) no_newline
    (subst (λ z. CompletesUnder r Grammar level z (byte ∷ rest)) w.returned c)

-- no byte but CR goes on after a leaf's line with which no line goes on
pub line_of_broken : (r : Rules) (l : Leaf) (level : ℕ) (bytes rest : List ℕ) (byte : ℕ) → (byte ≡ 13 → ⊥) → NoLineGoesOn (leaf_line l) byte →
    IsLineOf r l level bytes → CompletesUnder r Grammar level bytes (byte ∷ rest) → ⊥
line_of_broken r l level bytes rest byte no_return no_line w c =
    byte_broken (LeafKeeps r Grammar) (NodeKeeps r Grammar) level (leaf_line l) rest byte (subst IsLine w.is_line (no_break_in_line r l level bytes w))
    no_return
    no_line (subst (λ z. CompletesUnder r Grammar level z (byte ∷ rest)) w.is_line c)

-- a line has no LF in it
pub line_broken_by_newline : (r : Rules) (l : Leaf) (level : ℕ) (bytes rest : List ℕ) → IsLineOf r l level bytes →
    CompletesUnder r Grammar level bytes (10 ∷ rest) → ⊥
line_broken_by_newline r l level bytes rest w c = newline_broken (LeafKeeps r Grammar) (NodeKeeps r Grammar) level bytes rest
    (no_break_in_line r l level bytes w) c

-- it is a line that may end
pub text_token_line : (r : Rules) (k : LineKind) (n level : ℕ) (bytes : List ℕ) → (w : IsTextToken r k n level bytes) →
    IsLineOf r (line k w.content) level bytes
text_token_line r k n level bytes w = record {
  is_leaf = (w.is_line, w.is_text, any_number k w.content w.any_text);
  keeps =
      text_line_keeps r WithinItems level k w.content w.has_line (omega (arith, w.size, w.fits));
  is_line = w.are;
  no_rest = refl;
}

-- its type byte
unfoldable pub text_token_begins : (r : Rules) (k : LineKind) (level : ℕ) → HasLine r k → HasAnyText k →
    IsTextToken r k 0 level (line_byte k ∷ [])
text_token_begins r k level p any = record { content = []; has_line = p; any_text = any; is_line = tt; is_text = tt; size = refl; fits = omega arith; are = refl }

-- text more, within the limit of length
unfoldable pub text_token_more : (r : Rules) (k : LineKind) (n level : ℕ) (bytes part : List ℕ) → IsTextToken r k n level bytes → IsLine part → IsText part →
    n + length part ≤ r.limits.length → IsTextToken r k (n + length part) level (bytes ++ part)
text_token_more r k n level bytes part w plain are_bytes fits = record {
  content = w.content ++ part;
  has_line = w.has_line;
  any_text = w.any_text;
  is_line = all_append IsPlain w.content part w.is_line plain;
  is_text = all_append IsByte w.content part w.is_text are_bytes;
  size = omega (arith, w.size, length-append w.content part);
  fits = fits;
  are = ap (λ z. z ++ part) w.are;
}

-- a byte past the limit
pub text_token_over : (r : Rules) (k : LineKind) (n level : ℕ) (bytes : List ℕ) (byte : ℕ) → IsPlain byte → IsByte byte → r.limits.length ≤ n →
    (w : IsTextToken r k n level bytes) → (bytes ++ byte ∷ [] ≡ line_byte k ∷ (w.content ++ byte ∷ [])) ×
    IsRefusedHere r WithinLength WithinDepth level (line_byte k ∷ (w.content ++ byte ∷ []))
text_token_over r k n level bytes byte plain is_byte full w = (
  ap (λ z. z ++ byte ∷ []) w.are,
  text_line_too_long r level k (w.content ++ byte ∷ []) w.has_line w.any_text (all_append IsPlain w.content (byte ∷ []) w.is_line (plain, tt))
      (all_append IsByte w.content (byte ∷ []) w.is_text (is_byte, tt)) (omega (arith, w.size, length-append w.content (byte ∷ []))),
)
