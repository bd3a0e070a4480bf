-- The measure of members with one more, and of an aggregate.
use Rattle.std.proofs.Common.{◌≡◌, ℕ, ◌+◌, ◌-◌, ◌^◌, ◌↔◌, Bool, true, false, ◌&&◌, min, max, length, refl, sym, ap, arith, Option, Some, subst}
use Rattle.std.specs.Bool.{IsTrue}
use Rattle.resp_value.specs.Numbers.{decimal}
use Rattle.resp_value.specs.Data.{Kind, Datum, Data, aggregate, items_of, count}
use Rattle.resp_value.specs.Trees.{texts}
use Rattle.resp_value.specs.Canonical.{IsKindInTwo, IsKindBelow, canonical_text, canonical_trees}
use Rattle.resp_value.specs.Values.{extended}
use Rattle.resp_value.specs.declared.version.Version.{Version}
use Rattle.resp_encode.specs.declared.measure.Measure.{Measure}
use Rattle.resp_encode.specs.Walks.Sizes.{IsSize}
use Rattle.resp_encode.specs.Walks.Measures.{Describes, DescribesEach}
use Rattle.resp_encode.proofs.Texts.{aggregate_text, length-head}
use Rattle.resp_encode.proofs.Extended.{in_two_extended, no_double_extended, no_push_extended, greatest_depth-extended, longest_among-extended, most_items_among-extended, length-texts-extended}

-- two tests tell of two facts together
both_tell : (a b : Bool) {P Q R : Type 0} → (IsTrue a ↔ P) → (IsTrue b ↔ Q) → (R ↔ (P × Q)) → IsTrue (a && b) ↔ R
both_tell true true p q both = (λ t. both.1 (p.0 refl, q.0 refl), λ r. refl)
both_tell true false p q both = (λ t. absurd (cc), λ r. q.1 (both.0 r).1)
both_tell false b p q both = (λ t. absurd (cc), λ r. p.1 (both.0 r).0)

pub describes_with : (version : Version) (xs : Data) (x : Datum) (a b : Measure) (most_depth most_length most : ℕ)
    (size : Option ℕ) →
    most_depth ≡ max a.depth b.depth → most_length ≡ max a.longest b.longest → most ≡ max a.most_items b.most_items →
    ((m n : ℕ) → IsSize a.size m → IsSize b.size n → IsSize size (m + n)) → DescribesEach version xs a →
    Describes version x b →
    DescribesEach version (extended xs x) (record {
      in_two = a.in_two && b.in_two;
      no_double = a.no_double && b.no_double;
      no_push = a.no_push && b.no_push;
      push_at_top = true;
      depth =
          most_depth;
      longest = most_length;
      most_items = most;
      size = size;
    })
describes_with version xs x a b most_depth most_length most size d l i s each one = record {
  in_two = both_tell a.in_two b.in_two each.in_two one.in_two (in_two_extended xs x);
  no_double = both_tell a.no_double b.no_double each.no_double one.no_double (no_double_extended xs x);
  no_push = both_tell a.no_push b.no_push each.no_push one.no_push (no_push_extended xs x);
  depth_found = omega (arith, d, each.depth_found, one.depth_found, greatest_depth-extended xs x);
  longest_found = omega (arith, l, each.longest_found, one.longest_found, longest_among-extended xs x);
  most_items_found = omega (arith, i, each.most_items_found, one.most_items_found, most_items_among-extended xs x);
  size_found = rw length-texts-extended (s (length (texts (canonical_trees version xs)))
      (length (canonical_text version x)) each.size_found one.size_found);
}

pub describes_inside : (version : Version) (k : Kind) (xs : Data) (a : Measure) (in_two below : Bool)
    (items deeper most head : ℕ) (size : Option ℕ) →
    (IsTrue in_two ↔ IsKindInTwo k) → (IsTrue below ↔ IsKindBelow k) → items ≡ items_of k (count xs) →
    deeper ≡ min (a.depth + 1) (2 ^ 64 - 1) →
    most ≡ max a.most_items items → head ≡ length (decimal items) + 3 →
    ((m n : ℕ) → IsSize (Some head) m → IsSize a.size n → IsSize size (m + n)) →
    DescribesEach version xs a → Describes version (aggregate k xs)
    (record {
      in_two = a.in_two && in_two;
      no_double = a.no_double;
      no_push = a.no_push && below;
      push_at_top = a.no_push;
      depth = deeper;
      longest = a.longest;
      most_items = most;
      size =
          size;
    })
describes_inside version k xs a in_two below items deeper most head size t b e d i h s each = record {
  in_two = both_tell a.in_two in_two each.in_two t (λ p. (p.1, p.0), λ p. (p.1, p.0));
  no_double = each.no_double;
  no_push = both_tell a.no_push below each.no_push b (λ p. (p.1, p.0), λ p. (p.1, p.0));
  push_at_top = each.no_push;
  depth_found = omega (arith, d, each.depth_found);
  longest_found = each.longest_found;
  most_items_found = omega (arith, i, each.most_items_found, e);
  size_found = subst (IsSize size) whole (s head (length (texts (canonical_trees version xs))) refl each.size_found);
}
  where
    whole : head + length (texts (canonical_trees version xs)) ≡ length (canonical_text version (aggregate k xs))
    whole = omega (
      arith,
      h,
      ap length (aggregate_text version k xs items (sym e)),
      length-head 0 items (texts (canonical_trees version xs)),
    )
