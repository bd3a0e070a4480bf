-- Tokens of counted content: the bytes still to come, and its end.
use Rattle.std.proofs.Common.{◌≡◌, ℕ, ◌+◌, List, [], ◌∷◌, ◌++◌, length, refl, sym, ap, subst, ◌∙◌, arith, append_assoc, append-nil, length-append}
use Rattle.resp_value.specs.Bytes.{crlf}
use Rattle.resp_value.specs.Numbers.{number}
use Rattle.resp_value.specs.Trees.{leaf, string, StringKind, string_byte}
use Rattle.resp_value.specs.Rules.{Rules, Grammar, WithinItems}
use Rattle.resp_value.specs.LocalRules.{LeafKeeps, NodeKeeps}
use Rattle.resp_fronts.specs.LeastCompletions.{HasLeast}
use Rattle.resp_fronts.proofs.FirstLines.CountRows.{CompletesUnder}
use Rattle.resp_fronts.proofs.Tokens.CountedContent.{content_row, content_end_dead}
use Rattle.resp_fronts.proofs.FirstLines.ShortRows.{next_row}
use Rattle.resp_fronts.proofs.Tokens.HeadTokens.{string_keeps}
use Rattle.resp_fronts.proofs.Tokens.BegunFronts.{IsBegunBy}
use Rattle.resp_fronts.specs.Tokens.{IsContentToken}

-- the bytes that are left, and 2
pub content_begun : (r : Rules) (k : StringKind) (first : ℕ) (digits begun : List ℕ) (left level : ℕ) (bytes : List ℕ) →
    IsContentToken r k first digits begun left level bytes → IsBegunBy r level bytes (left + 2)
content_begun r k first digits begun left level bytes w =
    let keeps = string_keeps r WithinItems level k (first ∷ digits) w.content w.has_string w.has_format (omega (arith, w.size, w.fits)) in
    let least = content_row (LeafKeeps r WithinItems) (NodeKeeps r WithinItems) level k first digits begun w.rest w.content w.are_digits w.has_format w.is_text
    w.size w.split keeps in
    record {
      head = string_byte k;
      tail = (first ∷ digits) ++ crlf begun;
      parts = w.are;
      some = omega arith;
      least = subst (λ z. HasLeast (CompletesUnder r WithinItems level z) (left + 2)) (sym w.are)
          (subst (HasLeast (CompletesUnder r WithinItems level ((string_byte k ∷ first ∷ digits) ++ crlf begun))) (ap (λ n. n + 2) w.rest_size) least);
    }

-- whole content is followed by CR LF, which ends the value
pub content_ends : (r : Rules) (k : StringKind) (first : ℕ) (digits begun : List ℕ) (level : ℕ) (bytes : List ℕ) →
    IsContentToken r k first digits begun 0 level bytes → CompletesUnder r WithinItems level bytes (13 ∷ 10 ∷ [])
content_ends r k first digits begun level bytes w = record {
  tree = leaf (string k (first ∷ digits) w.content);
  is_tree = ((w.are_digits, w.size), w.has_format, w.is_text);
  keep = string_keeps r WithinItems level k (first ∷ digits) w.content w.has_string w.has_format (omega (arith, w.size, w.fits));
  whole = ap (λ z. (string_byte k ∷ first ∷ digits) ++ crlf (z ++ crlf [])) (w.split ∙ ap (λ z. begun ++ z) (no_rest w.rest w.rest_size) ∙ append-nil begun) ∙
      sym (append_assoc (string_byte k ∷ first ∷ digits) (crlf begun) (crlf [])) ∙ ap (λ z. z ++ crlf []) (sym w.are);
}
  where
    no_rest : (rest : List ℕ) → length rest ≡ 0 → rest ≡ []
    no_rest [] e = refl
    no_rest (c ∷ cs) e = absurd (omega arith)

-- after its CR one byte is needed
pub content_returned_begun : (r : Rules) (k : StringKind) (first : ℕ) (digits begun : List ℕ) (level : ℕ) (bytes : List ℕ) →
    IsContentToken r k first digits begun 0 level bytes → IsBegunBy r level (bytes ++ 13 ∷ []) 1
content_returned_begun r k first digits begun level bytes w =
    let b = content_begun r k first digits begun 0 level bytes w in
    record {
      head = b.head;
      tail = b.tail ++ 13 ∷ [];
      parts = ap (λ z. z ++ 13 ∷ []) b.parts;
      some = omega arith;
      least = next_row (LeafKeeps r WithinItems) (NodeKeeps r WithinItems) level bytes 13 1 (10 ∷ []) b.least
          (content_ends r k first digits begun level bytes w) refl;
    }

-- no other byte than CR goes on after the content
pub content_broken : (r : Rules) (k : StringKind) (first : ℕ) (digits begun : List ℕ) (level : ℕ) (bytes rest : List ℕ) (byte : ℕ) → (byte ≡ 13 → ⊥) →
    IsContentToken r k first digits begun 0 level bytes → CompletesUnder r Grammar level bytes (byte ∷ rest) → ⊥
content_broken r k first digits begun level bytes rest byte no_return w c =
    let whole : number (first ∷ digits) ≡ length begun = omega (arith, w.size, ap length w.split, w.rest_size, length-append begun w.rest) in
    content_end_dead (LeafKeeps r Grammar) (NodeKeeps r Grammar) level k first digits begun rest byte w.are_digits whole no_return (record {
      tree = c.tree;
      is_tree = c.is_tree;
      keep = c.keep;
      whole = c.whole ∙ ap (λ z. z ++ byte ∷ rest) w.are ∙ append_assoc (string_byte k ∷ first ∷ digits) (crlf begun) (byte ∷ rest) ∙
          ap (λ z. (string_byte k ∷ first ∷ digits) ++ crlf z) (sym (append_assoc begun (byte ∷ []) rest)) ∙
          sym (append_assoc (string_byte k ∷ first ∷ digits) (crlf (begun ++ byte ∷ [])) rest);
    })
