use Rattle.std.proofs.Common.{◌≡◌, ℕ, suc, ◌<◌, ◌≤◌, true, false, None, List, eqb, length, get_or, drop, sym, ap, ◌∙◌}
use Rattle.std.proofs.Math.Seq.{drop-cons}
use Rattle.std.proofs.lemmas.List.{drop_all}
use Rattle.resp_value.specs.Doubles.{IsDouble}
use Rattle.resp_value.specs.DoubleStages.{and_then, stage_after, stage_needs, stage_after_all, may_end, completes}
use Rattle.resp_value.specs.declared.double_stage.DoubleStage.{DoubleStage}
use Rattle.resp_value.specs.declared.double_stage.DoubleStage.TheVariants.{Begun}
use Rattle.resp_value.proofs.Doubles.{double_completes, completes_double}
use Rattle.resp_value.proofs.double.is_double.Goals as goal

-- a text with a byte after which there is no stage is no double
stopped : (from : DoubleStage) (text : List ℕ) (i : ℕ) → i < length text → stage_after_all from (drop i text) ≡ stage_after_all Begun text →
    stage_after from (get_or text i 0) ≡ None → IsDouble text → false ≡ true
stopped from text i within same none double =
    let no_stage : stage_after_all Begun text ≡ None = sym same ∙ ap (stage_after_all from) (drop-cons text i 0 within) ∙
    ap (λ next. and_then next (λ to. stage_after_all to (drop (suc i) text))) none in
    sym (ap may_end no_stage) ∙ double_completes text double

pub returns-in-None : goal.returns-in-None
returns-in-None c = (
  λ wrong. absurd (cc),
  stopped c.loop-byte.stage c.args.text.now c.loop-byte.byte-index c.loop-byte-test.true c.loop-byte.invariant (sym c.after.ensures ∙ c.in-None.is),
)

-- a text is a double where its last stage needs nothing
ended : (from : DoubleStage) (text : List ℕ) (i needs : ℕ) → length text ≤ i → stage_after_all from (drop i text) ≡ stage_after_all Begun text →
    needs ≡ stage_needs from → completes Begun text ≡ eqb needs 0
ended from text i needs beyond same is =
    ap may_end (sym same ∙ ap (stage_after_all from) (drop_all i text beyond)) ∙ ap (λ n. eqb n 0) (sym is)

pub returns : goal.returns
returns c =
    let e = ended c.loop-byte.stage c.args.text.now c.loop-byte.byte-index c.needs.result c.loop-byte-test.false c.loop-byte.invariant c.needs.ensures.value
    in (λ none. completes_double c.args.text.now (e ∙ none), λ double. sym e ∙ double_completes c.args.text.now double)
