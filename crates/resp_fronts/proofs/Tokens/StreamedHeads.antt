-- The `?` of streamed forms: what refuses it, its least completion, and how it opens an aggregate.
use Rattle.std.proofs.Common.{◌≡◌, ℕ, ◌<◌, ◌≤◌, false, List, [], ◌∷◌, ◌++◌, refl, subst, ◌∙◌, arith}
use Rattle.resp_value.specs.Bytes.{IsLine, crlf}
use Rattle.resp_value.specs.Data.{Kind, Array, items_of}
use Rattle.resp_value.specs.Trees.{leaf, node, none, Chunk, chunked, Streamed, kind_byte, count, CanStream}
use Rattle.resp_value.specs.Rules.{Rules, Rule, NoDouble, InVersion, InRange, NotStreamed, WithinDepth, WithinItems, rank}
use Rattle.resp_value.specs.LocalRules.{HoldsFrom, LeafKeeps, NodeKeeps, LeafMeets, NodeMeets, IsNoPushBelow}
use Rattle.resp_value.specs.declared.version.Version.TheVariants.{Two}
use Rattle.resp_value.proofs.Splitting.{plain_above}
use Rattle.resp_value.proofs.FirstLines.{sort_of-line}
use Rattle.resp_fronts.proofs.FrameLaws.KeptNodes.{at_each_rule, leaf_keeps, node_keeps}
use Rattle.resp_fronts.proofs.FirstLines.BegunLines.{completes_line, tree_of_node}
use Rattle.resp_fronts.proofs.FirstLines.CountRows.{IsRefusedHere, byte_line}
use Rattle.resp_fronts.proofs.FirstLines.FirstLineRows.{tree_of_chunked, chunked_row, zero_digits}
use Rattle.resp_fronts.proofs.FirstLines.MoreFirstLineRows.{sort_mark, mark_row}
use Rattle.resp_fronts.proofs.Tokens.BegunFronts.{IsBegunBy, begun_by}
use Rattle.resp_fronts.specs.Tokens.{HasStreamed}

-- `$?`: 6
pub streamed_string_begun : (r : Rules) (level : ℕ) → HasStreamed r → IsBegunBy r level (36 ∷ 63 ∷ []) 6
streamed_string_begun r level h =
    begun_by 36 (63 ∷ []) (omega arith)
    (chunked_row (LeafKeeps r WithinItems) (NodeKeeps r WithinItems) level
    (leaf_keeps r WithinItems level (chunked [] (48 ∷ [])) tt (λ is_two. absurd (h.0 is_two)) tt (λ off. absurd (h.1 off)) (omega arith)))

-- its line has no break in it
pub mark_line : IsLine (36 ∷ 63 ∷ [])
mark_line = (plain_above 36 (omega arith), (plain_above 63 (omega arith), tt))

-- a rule that no streamed string meets, and the one before it that the empty one meets
streamed_string_refused : (r : Rules) (rule before : Rule) (level : ℕ) →
    ((chunks : List Chunk) (zeros : List ℕ) → LeafMeets r rule level (chunked chunks zeros) → ⊥) → LeafKeeps r before level (chunked [] (48 ∷ [])) →
    IsRefusedHere r rule before level (36 ∷ 63 ∷ [])
streamed_string_refused r rule before level no_chunks keeps = record {
  dead = λ c t. (let u = completes_line (LeafKeeps r rule) (NodeKeeps r rule) level (36 ∷ 63 ∷ []) c mark_line t in
      let w = tree_of_chunked u.tree (sort_of-line u.tree u.is_tree u.begins) in
      let kept : HoldsFrom (LeafKeeps r rule) (NodeKeeps r rule) level (leaf (chunked w.0 w.1)) =
      subst (HoldsFrom (LeafKeeps r rule) (NodeKeeps r rule) level) w.2 u.keep in
      no_chunks w.0 w.1 (kept rule (omega arith)));
  rest = crlf ((59 ∷ 48 ∷ []) ++ crlf []);
  alive = record { tree = leaf (chunked [] (48 ∷ [])); is_tree = (tt, (zero_digits, refl)); keep = keeps; whole = refl };
  some = omega arith;
}

-- `$?` in version 2
pub streamed_string_in_two : (r : Rules) (level : ℕ) → r.version ≡ Two → IsRefusedHere r InVersion NoDouble level (36 ∷ 63 ∷ [])
streamed_string_in_two r level is_two = streamed_string_refused r InVersion NoDouble level (λ chunks zeros h. h is_two)
    (λ earlier. at_each_rule (λ a. rank a ≤ 1 → LeafMeets r a level (chunked [] (48 ∷ []))) (λ e. tt) (λ e. λ off. tt) (λ e. absurd (omega arith)) (λ e. tt) (λ e. tt)
    (λ e. absurd (omega arith)) (λ e. tt) (λ e. omega arith) (λ e. tt) (λ e. tt) earlier)

-- `$?` in version 3 where streamed forms are off
pub streamed_string_off : (r : Rules) (level : ℕ) → (r.version ≡ Two → ⊥) → r.limits.streamed ≡ false → IsRefusedHere r NotStreamed InRange level (36 ∷ 63 ∷ [])
streamed_string_off r level no_two off = streamed_string_refused r NotStreamed InRange level (λ chunks zeros h. h off)
    (λ earlier. at_each_rule (λ a. rank a ≤ 4 → LeafMeets r a level (chunked [] (48 ∷ []))) (λ e. tt) (λ e. λ off. tt) (λ e. λ is_two. absurd (no_two is_two))
    (λ e. tt) (λ e. tt) (λ e. absurd (omega arith)) (λ e. tt) (λ e. omega arith) (λ e. tt) (λ e. tt) earlier)

-- `?` after an aggregate's type byte: 5
pub streamed_begun : (r : Rules) (k : Kind) (level : ℕ) → HasStreamed r → CanStream k 0 → IsNoPushBelow level k → level < r.limits.depth →
    IsBegunBy r level (kind_byte k ∷ 63 ∷ []) 5
streamed_begun r k level h can no_push within_depth =
    begun_by (kind_byte k) (63 ∷ []) (omega arith)
    (mark_row (LeafKeeps r WithinItems) (NodeKeeps r WithinItems) level k can
    (node_keeps r WithinItems level k Streamed 0 (λ is_two. absurd (h.0 is_two)) no_push (λ off. absurd (h.1 off)) within_depth
    (omega (arith, no_items k))))
  where
    no_items : (k : Kind) → items_of k 0 ≡ 0
    no_items Array = refl
    no_items _ = refl

-- the type byte of an aggregate and a `?` are a line
pub streamed_line : (k : Kind) → IsLine (kind_byte k ∷ 63 ∷ [])
streamed_line k = ((byte_line k).0, (plain_above 63 (omega arith), tt))

-- a rule that no streamed aggregate of this kind meets, and the one before it that the empty one meets
streamed_refused : (r : Rules) (rule before : Rule) (k : Kind) (level : ℕ) → CanStream k 0 → ((n : ℕ) → NodeMeets r rule level k Streamed n → ⊥) →
    NodeKeeps r before level k Streamed 0 → IsRefusedHere r rule before level (kind_byte k ∷ 63 ∷ [])
streamed_refused r rule before k level can no_node keeps = record {
  dead = λ c t. (let u = completes_line (LeafKeeps r rule) (NodeKeeps r rule) level (kind_byte k ∷ 63 ∷ []) c (streamed_line k) t in
      let w = tree_of_node u.tree k Streamed (sort_of-line u.tree u.is_tree u.begins ∙ sort_mark k u.line) in
      let kept : HoldsFrom (LeafKeeps r rule) (NodeKeeps r rule) level (node k Streamed w.0) =
      subst (HoldsFrom (LeafKeeps r rule) (NodeKeeps r rule) level) w.1 u.keep in
      no_node (count w.0) (kept.0 rule (omega arith)));
  rest = crlf (46 ∷ crlf []);
  alive = record { tree = node k Streamed none; is_tree = (can, tt); keep = (keeps, tt); whole = refl };
  some = omega arith;
}

-- `*?` in version 2
pub streamed_array_in_two : (r : Rules) (level : ℕ) → r.version ≡ Two → IsRefusedHere r InVersion NoDouble level (42 ∷ 63 ∷ [])
streamed_array_in_two r level is_two = streamed_refused r InVersion NoDouble Array level tt (λ n h. h is_two)
    (λ earlier. at_each_rule (λ a. rank a ≤ 1 → NodeMeets r a level Array Streamed 0) (λ e. tt) (λ e. tt) (λ e. absurd (omega arith)) (λ e. tt) (λ e. tt)
    (λ e. absurd (omega arith)) (λ e. absurd (omega arith)) (λ e. tt) (λ e. omega arith) (λ e. tt) earlier)

-- in version 3 where streamed forms are off
pub streamed_off : (r : Rules) (k : Kind) (level : ℕ) → (r.version ≡ Two → ⊥) → r.limits.streamed ≡ false → CanStream k 0 → IsNoPushBelow level k →
    IsRefusedHere r NotStreamed InRange level (kind_byte k ∷ 63 ∷ [])
streamed_off r k level no_two off can no_push = streamed_refused r NotStreamed InRange k level can (λ n h. h off)
    (λ earlier. at_each_rule (λ a. rank a ≤ 4 → NodeMeets r a level k Streamed 0) (λ e. tt) (λ e. tt) (λ e. λ is_two. absurd (no_two is_two)) (λ e. no_push)
    (λ e. tt) (λ e. absurd (omega arith)) (λ e. absurd (omega arith)) (λ e. tt) (λ e. absurd (omega arith)) (λ e. tt) earlier)

-- a streamed aggregate's head at full depth
pub streamed_too_deep : (r : Rules) (k : Kind) (level : ℕ) → HasStreamed r → r.limits.depth ≤ level → CanStream k 0 → IsNoPushBelow level k →
    IsRefusedHere r WithinDepth NotStreamed level (kind_byte k ∷ 63 ∷ [])
streamed_too_deep r k level h deep can no_push = streamed_refused r WithinDepth NotStreamed k level can (λ n (within : level < r.limits.depth). omega arith)
    (λ earlier. at_each_rule (λ a. rank a ≤ 5 → NodeMeets r a level k Streamed 0) (λ e. tt) (λ e. tt) (λ e. λ is_two. absurd (h.0 is_two)) (λ e. no_push)
    (λ e. tt) (λ e. λ off. absurd (h.1 off)) (λ e. absurd (omega arith)) (λ e. tt) (λ e. absurd (omega arith)) (λ e. tt) earlier)
