-- Tokens after a counted string's length, of each kind alike: the format and the content.
use Rattle.std.proofs.Common.{◌≡◌, ℕ, suc, ◌-◌, ◌<◌, ◌≤◌, List, [], ◌∷◌, ◌++◌, length, refl, sym, ap, subst, ◌∙◌, arith, append_assoc, length-append}
use Rattle.resp_value.specs.Bytes.{IsByte, IsText, crlf}
use Rattle.resp_value.specs.Numbers.{number}
use Rattle.resp_value.specs.Trees.{IsLeaf, leaf_text, string, StringKind, Bulk, BulkError, Verbatim, string_byte, payload}
use Rattle.resp_value.specs.Rules.{Rules, Grammar, WithinItems}
use Rattle.resp_value.specs.LocalRules.{LeafKeeps, NodeKeeps}
use Rattle.resp_value.proofs.FirstBytes.{all_append, all_front}
use Rattle.resp_value.proofs.Splitting.{length_split}
use Rattle.resp_fronts.proofs.FirstLines.CountRows.{CompletesUnder}
use Rattle.resp_fronts.proofs.FirstLines.FirstLineRows.{length-zeros, are_zeros}
use Rattle.resp_fronts.proofs.Tokens.CountedContent.{colon_dead, completes_content}
use Rattle.resp_fronts.proofs.Tokens.HeadTokens.{string_keeps}
use Rattle.resp_fronts.specs.Tokens.{IsContentToken, zeros}

-- Formats.

-- the next byte of a format, of which this many are to come after it
pub format_more : (r : Rules) (before : List ℕ) (byte beyond : ℕ) (first : ℕ) (digits : List ℕ) (left level : ℕ) (bytes : List ℕ) → byte < 256 →
    IsContentToken r (Verbatim (before ++ zeros (suc beyond))) first digits before left level bytes →
    IsContentToken r (Verbatim (before ++ byte ∷ zeros beyond)) first digits (before ++ byte ∷ []) (left - 1) level (bytes ++ byte ∷ [])
format_more r before byte beyond first digits left level bytes is_byte w =
    let rest = zeros beyond ++ 58 ∷ w.content in
    record {
      are_digits = w.are_digits;
      has_string = w.has_string;
      has_format = (
        omega (arith, w.has_format.0, length-append before (48 ∷ zeros beyond), length-append before (byte ∷ zeros beyond)),
        all_append IsByte before (byte ∷ zeros beyond) (all_front IsByte before (48 ∷ zeros beyond) w.has_format.1) (is_byte, are_zeros beyond),
      );
      fits = w.fits;
      content = w.content;
      is_text = w.is_text;
      size = omega (
        arith,
        w.size,
        length-append (before ++ 48 ∷ zeros beyond) (58 ∷ w.content),
        length-append (before ++ byte ∷ zeros beyond) (58 ∷ w.content),
        length-append before (48 ∷ zeros beyond),
        length-append before (byte ∷ zeros beyond),
      );
      rest = rest;
      split = append_assoc before (byte ∷ zeros beyond) (58 ∷ w.content) ∙ sym (append_assoc before (byte ∷ []) rest);
      rest_size = omega (
        arith,
        w.rest_size,
        ap length w.split,
        length-append before w.rest,
        length-append (before ++ 48 ∷ zeros beyond) (58 ∷ w.content),
        length-append before (48 ∷ zeros beyond),
        length-append (zeros beyond) (58 ∷ w.content),
      );
      are = ap (λ z. z ++ byte ∷ []) w.are ∙ append_assoc (61 ∷ first ∷ digits) (crlf before) (byte ∷ []);
    }

-- the colon after it
pub format_ends : (r : Rules) (format : List ℕ) (first : ℕ) (digits : List ℕ) (left level : ℕ) (bytes : List ℕ) →
    IsContentToken r (Verbatim format) first digits format left level bytes →
    IsContentToken r (Verbatim format) first digits (payload (Verbatim format) []) (left - 1) level (bytes ++ 58 ∷ [])
format_ends r format first digits left level bytes w = record {
  are_digits = w.are_digits;
  has_string = w.has_string;
  has_format = w.has_format;
  fits = w.fits;
  content = w.content;
  is_text = w.is_text;
  size = w.size;
  rest = w.content;
  split = sym (append_assoc format (58 ∷ []) w.content);
  rest_size = omega (arith, w.rest_size, ap length w.split, length-append format w.rest, length-append format (58 ∷ w.content));
  are = ap (λ z. z ++ 58 ∷ []) w.are ∙ append_assoc (61 ∷ first ∷ digits) (crlf format) (58 ∷ []);
}

beyond : (a b : List ℕ) (byte : ℕ) (rest : List ℕ) → (a ++ crlf b) ++ byte ∷ rest ≡ (a ++ crlf (b ++ byte ∷ [])) ++ rest
beyond a b byte rest = append_assoc a (crlf b) (byte ∷ rest) ∙ ap (λ z. a ++ crlf z) (sym (append_assoc b (byte ∷ []) rest)) ∙
    sym (append_assoc a (crlf (b ++ byte ∷ [])) rest)

-- no other byte than `:` goes on after a format
pub format_broken : (r : Rules) (format : List ℕ) (first : ℕ) (digits : List ℕ) (left level : ℕ) (bytes rest : List ℕ) (byte : ℕ) → (byte ≡ 58 → ⊥) →
    IsContentToken r (Verbatim format) first digits format left level bytes → CompletesUnder r Grammar level bytes (byte ∷ rest) → ⊥
format_broken r format first digits left level bytes rest byte no_colon w c =
    colon_dead (LeafKeeps r Grammar) (NodeKeeps r Grammar) level first digits format rest byte w.are_digits w.has_format.0 no_colon (record {
      tree = c.tree;
      is_tree = c.is_tree;
      keep = c.keep;
      whole = c.whole ∙ ap (λ z. z ++ byte ∷ rest) w.are ∙ beyond (61 ∷ first ∷ digits) format byte rest;
    })

-- Content.

payload-append : (k : StringKind) (a b : List ℕ) → payload k (a ++ b) ≡ payload k a ++ b
payload-append Bulk a b = refl
payload-append BulkError a b = refl
payload-append (Verbatim format) a b = sym (append_assoc format (58 ∷ a) b)

payload_split : (k : StringKind) (s part rest : List ℕ) → payload k s ≡ payload k part ++ rest → s ≡ part ++ rest
payload_split Bulk s part rest e = e
payload_split BulkError s part rest e = e
payload_split (Verbatim format) s part rest e =
    let h = length_split format format (58 ∷ s) (58 ∷ (part ++ rest)) refl (e ∙ append_assoc format (58 ∷ part) rest) in
    let h1 : 58 ∷ s ≡ 58 ∷ (part ++ rest) = h.1 in
    cc

part_is_text : (r : Rules) (k : StringKind) (first : ℕ) (digits part : List ℕ) (left level : ℕ) (bytes : List ℕ) →
    IsContentToken r k first digits (payload k part) left level bytes → IsText part
part_is_text r k first digits part left level bytes w = all_front IsByte part w.rest (subst IsText (payload_split k w.content part w.rest w.split) w.is_text)

-- content more, up to what is left
pub payload_more : (r : Rules) (k : StringKind) (first : ℕ) (digits part more : List ℕ) (left level : ℕ) (bytes : List ℕ) → IsText more → length more ≤ left →
    IsContentToken r k first digits (payload k part) left level bytes →
    IsContentToken r k first digits (payload k (part ++ more)) (left - length more) level (bytes ++ more)
payload_more r k first digits part more left level bytes is_text fits w =
    let rest = zeros (left - length more) in
    let whole = (part ++ more) ++ rest in
    record {
      are_digits = w.are_digits;
      has_string = w.has_string;
      has_format = w.has_format;
      fits = w.fits;
      content = whole;
      is_text = all_append IsByte (part ++ more) rest (all_append IsByte part more (part_is_text r k first digits part left level bytes w) is_text)
          (are_zeros (left - length more));
      size = omega (
        arith,
        w.size,
        ap length w.split,
        w.rest_size,
        length-append (payload k part) w.rest,
        ap length (payload-append k (part ++ more) rest),
        ap length (payload-append k part more),
        length-append (payload k (part ++ more)) rest,
        length-append (payload k part) more,
        length-zeros (left - length more),
      );
      rest = rest;
      split = payload-append k (part ++ more) rest;
      rest_size = length-zeros (left - length more);
      are = ap (λ z. z ++ more) w.are ∙ append_assoc (string_byte k ∷ first ∷ digits) (crlf (payload k part)) more ∙
          ap (λ z. (string_byte k ∷ first ∷ digits) ++ crlf z) (sym (payload-append k part more));
    }

-- whole content makes a leaf, whose text lacks the CR LF alone
pub whole_content : (r : Rules) (k : StringKind) (first : ℕ) (digits part : List ℕ) (level : ℕ) (bytes : List ℕ) →
    IsContentToken r k first digits (payload k part) 0 level bytes →
    IsLeaf (string k (first ∷ digits) part) × LeafKeeps r WithinItems level (string k (first ∷ digits) part) ×
    (leaf_text (string k (first ∷ digits) part) ≡ bytes ++ crlf [])
whole_content r k first digits part level bytes w =
    let size : number (first ∷ digits) ≡ length (payload k part) =
    omega (arith, w.size, ap length w.split, w.rest_size, length-append (payload k part) w.rest) in (
      ((w.are_digits, size), w.has_format, part_is_text r k first digits part 0 level bytes w),
      string_keeps r WithinItems level k (first ∷ digits) part w.has_string w.has_format (omega (arith, size, w.fits)),
      sym (append_assoc (string_byte k ∷ first ∷ digits) (crlf (payload k part)) (crlf [])) ∙ ap (λ z. z ++ crlf []) (sym w.are),
    )

-- no byte but LF after its CR
pub content_returned_broken : (r : Rules) (k : StringKind) (first : ℕ) (digits begun : List ℕ) (level : ℕ) (bytes rest : List ℕ) (byte : ℕ) → (byte ≡ 10 → ⊥) →
    IsContentToken r k first digits begun 0 level bytes → CompletesUnder r Grammar level (bytes ++ 13 ∷ []) (byte ∷ rest) → ⊥
content_returned_broken r k first digits begun level bytes rest byte no_newline w c =
    let whole : number (first ∷ digits) ≡ length begun = omega (arith, w.size, ap length w.split, w.rest_size, length-append begun w.rest) in
    let u = completes_content (LeafKeeps r Grammar) (NodeKeeps r Grammar) level k first digits (begun ++ 13 ∷ []) (byte ∷ rest) w.are_digits (record {
      tree = c.tree;
      is_tree = c.is_tree;
      keep = c.keep;
      whole = c.whole ∙ ap (λ z. (z ++ 13 ∷ []) ++ byte ∷ rest) w.are ∙
          ap (λ z. z ++ byte ∷ rest) (append_assoc (string_byte k ∷ first ∷ digits) (crlf begun) (13 ∷ []));
    }) in
    let said : number (first ∷ digits) ≡ length (payload u.kind u.content) = u.is_leaf.0.1 in
    let s = length_split (payload u.kind u.content) begun (crlf []) (13 ∷ byte ∷ rest) (omega arith) (u.whole ∙ append_assoc begun (13 ∷ []) (byte ∷ rest)) in
    let e : crlf [] ≡ 13 ∷ byte ∷ rest = s.1 in
    no_newline (cc)
