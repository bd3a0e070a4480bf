-- Least completions of the type bytes of heads, and digits of lengths and big numbers past the limit.
use Rattle.std.proofs.Common.{◌≡◌, ℕ, suc, ◌<◌, ◌≤◌, List, [], ◌∷◌, ◌++◌, length, refl, ap, ◌∙◌, arith, append_assoc}
use Rattle.resp_value.specs.Numbers.{IsDigit, Sign, sign_text, number, kept_digits}
use Rattle.resp_value.specs.Data.{Kind, Array, Attr, members_of, items_of}
use Rattle.resp_value.specs.Trees.{Leaf, numeral, null, string, Big, BulkNull, StringKind, Bulk, BulkError, Verbatim, Counted, kind_byte, string_byte, HasFormat}
use Rattle.resp_value.specs.Rules.{Rules, WithinDepth, WithinLength, WithinItems, rank, IsNoDouble, IsLeafInTwo, IsInRange, IsCountedLeaf}
use Rattle.resp_value.specs.LocalRules.{LeafKeeps, NodeKeeps, LeafMeets, IsNoPushBelow}
use Rattle.resp_value.specs.declared.version.Version.TheVariants.{Two}
use Rattle.resp_fronts.proofs.FrameLaws.KeptNodes.{at_each_rule, leaf_keeps, node_keeps, shortest_keeps}
use Rattle.resp_fronts.proofs.FirstLines.CountRows.{IsRefusedHere, star_row, star_row_deep}
use Rattle.resp_fronts.proofs.FirstLines.FirstLineRows.{are_zeros}
use Rattle.resp_fronts.proofs.FirstLines.MoreFirstLineRows.{dollar_row, bulk_error_row, verbatim_row, attr_row}
use Rattle.resp_fronts.proofs.Refusals.ContentLength.{string_too_long}
use Rattle.resp_fronts.proofs.Tokens.StringTokens.{HasRoom, of_size}
use Rattle.resp_fronts.proofs.Refusals.BigNumberLength.{big_too_long}
use Rattle.resp_fronts.proofs.Tokens.HeadTokens.{string_keeps, more_digits}
use Rattle.resp_fronts.proofs.Tokens.BegunFronts.{IsBegunBy, begun_by}
use Rattle.resp_fronts.specs.Tokens.{HasString, IsLengthToken, IsNumberToken, zeros}

-- `$`: 4
pub dollar_begun : (r : Rules) (level : ℕ) → IsBegunBy r level (36 ∷ []) 4
dollar_begun r level =
    begun_by 36 [] (omega arith)
    (dollar_row (LeafKeeps r WithinItems) (NodeKeeps r WithinItems) level
    (leaf_keeps r WithinItems level (null BulkNull) tt (λ is_two. tt) tt (λ off. tt) (omega arith)))

-- `!`: 5
pub bulk_error_begun : (r : Rules) (level : ℕ) → (r.version ≡ Two → ⊥) → IsBegunBy r level (33 ∷ []) 5
bulk_error_begun r level no_two =
    begun_by 33 [] (omega arith)
    (bulk_error_row (LeafKeeps r WithinItems) (NodeKeeps r WithinItems) level (string_keeps r WithinItems level BulkError (48 ∷ []) [] no_two tt (omega arith)))

-- `=`: 9
pub verbatim_begun : (r : Rules) (level : ℕ) → (r.version ≡ Two → ⊥) → 4 ≤ r.limits.length → IsBegunBy r level (61 ∷ []) 9
verbatim_begun r level no_two roomy =
    begun_by 61 [] (omega arith)
    (verbatim_row (LeafKeeps r WithinItems) (NodeKeeps r WithinItems) level
    (string_keeps r WithinItems level (Verbatim (zeros 3)) (52 ∷ []) [] no_two (refl, are_zeros 3) (omega arith)))

-- `*` at full depth: 4
pub star_deep_begun : (r : Rules) (level : ℕ) → r.limits.depth ≤ level → IsBegunBy r level (42 ∷ []) 4
star_deep_begun r level deep =
    begun_by 42 [] (omega arith)
    (star_row_deep r level deep)

-- `*` below full depth: 3
pub star_begun : (r : Rules) (level : ℕ) → level < r.limits.depth → IsBegunBy r level (42 ∷ []) 3
star_begun r level below =
    begun_by 42 [] (omega arith)
    (star_row r level Array (node_keeps r WithinItems level Array (Counted (48 ∷ [])) 0 (λ is_two. tt) tt (λ off. tt) below (omega arith)) refl)

-- `~`, `%` and `>`: 3
pub aggregate_begun : (r : Rules) (k : Kind) (level : ℕ) → (r.version ≡ Two → ⊥) → IsNoPushBelow level k → level < r.limits.depth → members_of k 0 ≡ 0 →
    IsBegunBy r level (kind_byte k ∷ []) 3
aggregate_begun r k level no_two no_push below none =
    begun_by (kind_byte k) [] (omega arith)
    (star_row r level k (node_keeps r WithinItems level k (Counted (48 ∷ [])) 0 (λ is_two. absurd (no_two is_two)) no_push (λ off. tt) below
    (omega (arith, no_items k))) none)
  where
    no_items : (k : Kind) → items_of k 0 ≡ 0
    no_items Array = refl
    no_items _ = refl

-- `|`: 6
pub attribute_begun : (r : Rules) (level : ℕ) → (r.version ≡ Two → ⊥) → level < r.limits.depth → IsBegunBy r level (124 ∷ []) 6
attribute_begun r level no_two below =
    begun_by 124 [] (omega arith)
    (attr_row (LeafKeeps r WithinItems) (NodeKeeps r WithinItems) level
    (node_keeps r WithinItems level Attr (Counted (48 ∷ [])) 1 (λ is_two. absurd (no_two is_two)) tt (λ off. tt) below (omega arith))
    (shortest_keeps r WithinItems (suc level)))

-- a leaf within the rules before that of length
leaf_before_length : (r : Rules) (level : ℕ) (l : Leaf) → IsNoDouble l → (r.version ≡ Two → IsLeafInTwo l) → IsInRange l → IsCountedLeaf l →
    LeafKeeps r WithinDepth level l
leaf_before_length r level l no_double in_version in_range counted earlier =
    at_each_rule (λ a. rank a ≤ 6 → LeafMeets r a level l) (λ e. tt) (λ e. λ off. no_double) (λ e. in_version) (λ e. tt) (λ e. in_range) (λ e. λ off. counted)
    (λ e. tt) (λ e. absurd (omega arith)) (λ e. tt) (λ e. tt) earlier

string_before_length : (r : Rules) (level : ℕ) (k : StringKind) (digits s : List ℕ) → HasString r k → LeafKeeps r WithinDepth level (string k digits s)
string_before_length r level Bulk digits s p = leaf_before_length r level (string Bulk digits s) tt (λ is_two. tt) tt tt
string_before_length r level BulkError digits s p = leaf_before_length r level (string BulkError digits s) tt (λ is_two. absurd (p is_two)) tt tt
string_before_length r level (Verbatim format) digits s p = leaf_before_length r level (string (Verbatim format) digits s) tt (λ is_two. absurd (p is_two)) tt
    tt

room_from_four : (k : StringKind) (n : ℕ) → 4 ≤ n → HasRoom k n
room_from_four Bulk n enough = tt
room_from_four BulkError n enough = tt
room_from_four (Verbatim format) n enough = enough

-- a digit of a length past the limit
pub length_token_over : (r : Rules) (k : StringKind) (first : ℕ) (digits : List ℕ) (level digit : ℕ) (bytes : List ℕ) → HasFormat k → 4 ≤ r.limits.length →
    IsDigit digit → r.limits.length < number (first ∷ (digits ++ digit ∷ [])) → IsLengthToken r k first digits level bytes →
    (bytes ++ digit ∷ [] ≡ string_byte k ∷ first ∷ (digits ++ digit ∷ [])) ×
    IsRefusedHere r WithinLength WithinDepth level (string_byte k ∷ first ∷ (digits ++ digit ∷ []))
length_token_over r k first digits level digit bytes f roomy p past w =
    let n = number (first ∷ (digits ++ digit ∷ [])) in
    let c = of_size k n f (room_from_four k n (omega arith)) in (
      ap (λ z. z ++ digit ∷ []) w.are,
      string_too_long r level k first (digits ++ digit ∷ []) c.0 (more_digits (first ∷ digits) digit w.are_digits p) f c.1 c.2
          (string_before_length r level k (first ∷ (digits ++ digit ∷ [])) c.0 w.has_string) past,
    )

-- a digit of a big number past the limit
pub big_token_over : (r : Rules) (sign : Sign) (first : ℕ) (digits : List ℕ) (level digit : ℕ) (bytes : List ℕ) → IsDigit digit →
    r.limits.length < length (kept_digits (first ∷ (digits ++ digit ∷ []))) → IsNumberToken r Big sign (first ∷ digits) level bytes →
    (bytes ++ digit ∷ [] ≡ 40 ∷ (sign_text sign ++ first ∷ (digits ++ digit ∷ []))) ×
    IsRefusedHere r WithinLength WithinDepth level (40 ∷ (sign_text sign ++ first ∷ (digits ++ digit ∷ [])))
big_token_over r sign first digits level digit bytes p past w = (
  ap (λ z. z ++ digit ∷ []) w.are ∙ ap (λ z. 40 ∷ z) (append_assoc (sign_text sign) (first ∷ digits) (digit ∷ [])),
  big_too_long r level sign first (digits ++ digit ∷ []) (more_digits (first ∷ digits) digit w.are_digits p)
      (leaf_before_length r level (numeral Big sign (first ∷ (digits ++ digit ∷ []))) tt (λ is_two. absurd (w.may_be.0 is_two)) tt tt) past,
)
