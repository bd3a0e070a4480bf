use Rattle.std.proofs.Common.{◌∷◌, ◌++◌, ◌∙◌, [], append_assoc, ap, sym}
use Rattle.std.proofs.lemmas.List.{nil_from_length}
use Rattle.resp_cli_args.proofs.SizeLemmas.{in_no_unit, in_unit, none_more}
use Rattle.resp_cli_args.proofs.sizes.size_of.Goals as goal

pub returns-in-Some-size_between-clause-some : goal.returns-in-Some-size_between-clause-some
returns-in-Some-size_between-clause-some c =
    let inv = c.loop-unit.invariant in
    in_unit inv.passed c.in-Some.beyond.now c.in-Some.unit.now c.args.text.now c.args.least c.args.most c.in-Some-size_between.size
    (inv.whole ∙ ap (λ z. inv.passed ++ z) c.in-Some.ensures.cases.0) c.in-Some-size_between.ensures.some c.in-Some-size_between.ensures.in_range

pub loop-unit-preserved : goal.loop-unit-preserved
loop-unit-preserved c =
    let inv = c.loop-unit.invariant in
    let unit = c.in-Some.unit.now in
    record {
      passed = inv.passed ++ unit ∷ [];
      whole = inv.whole ∙ ap (λ z. inv.passed ++ z) c.in-Some.ensures.cases.0 ∙ sym (append_assoc inv.passed (unit ∷ []) c.in-Some.beyond.now);
      in_none = none_more inv.passed unit c.args.text.now c.args.least c.args.most inv.in_none c.in_default-size_between.ensures.none;
    }

pub returns-clause-none : goal.returns-clause-none
returns-clause-none c =
    let inv = c.loop-unit.invariant in
    in_no_unit inv.passed c.loop-unit.rest.now c.args.text.now c.args.least c.args.most inv.whole
    (nil_from_length c.loop-unit.rest.now c.in_default.ensures.cases) inv.in_none
