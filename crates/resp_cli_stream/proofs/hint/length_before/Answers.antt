use Rattle.std.proofs.Common.{◌-◌, ◌≡◌, ◌<◌, length, arith}
use Rattle.resp_cli_stream.proofs.HintLemmas.{at_its_place}
use Rattle.resp_cli_stream.proofs.hint.length_before.Goals as goal

pub returns-then-ends_with_length-clause-longest : goal.returns-then-ends_with_length-clause-longest
returns-then-ends_with_length-clause-longest c = λ other more w.
    let before = c.args.before.now in
    let placed = at_its_place before other w in
    let less : length before - other < c.loop-at.at = omega (arith, more, c.split_at.ensures.back_len, c.split_at.ensures.front_len, placed.0, c.loop-at-test.true) in
    let size : length before - (length before - other) ≡ other = omega (arith, placed.0) in
    c.loop-at.invariant.none_before (length before - other) less (rw size placed.1)

pub returns-clause-none : goal.returns-clause-none
returns-clause-none c = λ _ size w.
    let before = c.args.before.now in
    let placed = at_its_place before size w in
    let less : length before - size < c.loop-at.at = omega (arith, placed.0, c.loop-at-test.false) in
    let same : length before - (length before - size) ≡ size = omega (arith, placed.0) in
    c.loop-at.invariant.none_before (length before - size) less (rw same placed.1)
