use Rattle.std.proofs.Common.{◌∙◌, ◌<◌, Global, Vec, ap, arith, length, map, sym, ℕ}
use Rattle.std.proofs.lemmas.Bool.{true≢false}
use Rattle.std.specs.Char.{to_ascii_lowercase}
use Rattle.resp_proxy.proofs.Intakes.{among-past, among-rest}
use Rattle.resp_proxy.proofs.intake.is_among.Goals as goal

pub loop-other-preserved : goal.loop-other-preserved
loop-other-preserved c all =
    let names = c.args.names.now in
    let name = c.args.name.now in
    let other = c.other-item.result in
    let within : c.loop-other.other-index < length names = omega arith in
    among-rest names name c.loop-other.other-index other within
    (λ e.
    true≢false (sym (c.eq_ignore_ascii_case.ensures.test.1
    (ap (map to_ascii_lowercase) c.as_slice.ensures.value ∙ ap (λ (v : Vec ℕ Global). map to_ascii_lowercase v.items) c.other-item.is ∙ e)) ∙
    c.if-eq_ignore_ascii_case.false))
    (c.loop-other.invariant all)

pub returns-clause-all : goal.returns-clause-all
returns-clause-all c all =
    absurd (among-past c.args.names.now c.args.name.now c.loop-other.other-index c.loop-other-test.false (c.loop-other.invariant all))
