use Rattle.std.proofs.Common.{◌≡◌, ◌+◌, ◌++◌, [], length, refl, sym, ap, ◌∙◌, subst, arith, length-append}
use Rattle.resp_value.specs.Bytes.{crlf}
use Rattle.resp_value.specs.Canonical.{canonical_text}
use Rattle.resp_value.specs.Data.{scalar}
use Rattle.resp_value.specs.Data as d
use Rattle.resp_value.specs.Numbers.{decimal}
use Rattle.resp_encode.specs.Walks.Sizes.{IsSize}
use Rattle.resp_encode.specs.declared.measure.Measure.{Measure}
use Rattle.resp_encode.proofs.Texts.{length-head}
use Rattle.resp_encode.proofs.measure_value.measure_bulk_of.Goals as goal

pub returns : goal.returns
returns c = λ version bytes counted.
    let e = c.scalar-found.ensures in
    let whole : c.head_size.result + 2 + c.args.counted ≡ length (canonical_text version (scalar (d.Bulk bytes))) =
    omega (
      arith,
      c.head_size.ensures.size,
      counted,
      ap (λ n. length (decimal n)) counted,
      length-head 36 (length bytes) (bytes ++ crlf []),
      length-append bytes (crlf []),
    ) in
    record {
      in_two = (λ _. tt, λ _. ap (λ (m : Measure). m.in_two) e);
      no_double = (λ _. tt, λ _. ap (λ (m : Measure). m.no_double) e);
      no_push = (λ _. tt, λ _. ap (λ (m : Measure). m.no_push) e);
      push_at_top = (λ _. tt, λ _. ap (λ (m : Measure). m.push_at_top) e);
      depth_found = ap (λ (m : Measure). m.depth) e;
      longest_found = ap (λ (m : Measure). m.longest) e ∙ sym counted;
      most_items_found = ap (λ (m : Measure). m.most_items) e;
      size_found = subst (IsSize c.sum.result) whole (c.sum.ensures (c.head_size.result + 2) c.args.counted refl refl);
    }
