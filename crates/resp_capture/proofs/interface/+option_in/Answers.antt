use Rattle.std.proofs.Common.{◌≡◌, ◌∙◌, ℕ, List, ◌+◌, ◌*◌, ◌/◌, ap, arith}
use Rattle.resp_capture.proofs.HeaderLemmas.{no_option, none_here, option_later}
use Rattle.resp_capture.specs.Frames.{IsOption, IsOtherOption, next_option}
use Rattle.resp_capture.proofs.interface.+option_in.Goals as goal
use Rattle.resp_capture.proofs.interface.+option_in.Goals.{else-found-code-via-then-found-code+then-least-length+else-least-options, else-found-code-via-then-found-code+else-least-length, else-found-code-via-else-found-code}

pub returns-then-found-eq0-clause-none : goal.returns-then-found-eq0-clause-none
returns-then-found-eq0-clause-none t c = λ bytes has. none_here c.args.order c.args.code c.args.least c.args.options.now bytes
    (λ is. omega (arith, is.no_end, is.code_is, c.number16-found.ensures, c.if-found-eq0.true))
    (λ other. omega (arith, other.more, c.number16-found.ensures, c.if-found-eq0.true)) has

pub returns-clause-some : goal.returns-clause-some
returns-clause-some t c =
    let size : 4 + (c.number16.result + 3) / 4 * 4 ≡ next_option c.args.order c.args.options.now =
    ap (λ n. 4 + (n + 3) / 4 * 4) c.number16.ensures in
    let other : IsOtherOption c.args.order c.args.code c.args.least c.args.options.now = record {
      whole = omega arith;
      more = omega arith;
      short = λ same. elim c.else-found-code.branch [
        | else-found-code-via-then-found-code+then-least-length+else-least-options w ↦ omega (arith, size, w.if-least-options.false, w.if-least-length.true, c.if-next-options.false)
        | else-found-code-via-then-found-code+else-least-length w ↦ omega (arith, w.if-least-length.false, c.number16.ensures)
        | else-found-code-via-else-found-code w ↦ absurd (w.if-found-code.false (c.number16-found.ensures ∙ same))
      ];
      within = omega (arith, size);
    } in
    option_later _ c.args.order c.args.code c.args.least c.args.options.now _ size other c.option_in.ensures.some

pub returns-clause-none : goal.returns-clause-none
returns-clause-none t c =
    let size : 4 + (c.number16.result + 3) / 4 * 4 ≡ next_option c.args.order c.args.options.now =
    ap (λ n. 4 + (n + 3) / 4 * 4) c.number16.ensures in
    let here : (bytes : List ℕ) → IsOption c.args.order c.args.code c.args.least c.args.options.now bytes → ⊥ =
    λ bytes is. elim c.else-found-code.branch [
      | else-found-code-via-then-found-code+then-least-length+else-least-options w ↦ omega (arith, is.whole, w.if-least-options.false)
      | else-found-code-via-then-found-code+else-least-length w ↦ omega (arith, is.long, w.if-least-length.false, c.number16.ensures)
      | else-found-code-via-else-found-code w ↦ w.if-found-code.false (c.number16-found.ensures ∙ is.code_is)
    ] in
    no_option _ c.args.order c.args.code c.args.least c.args.options.now _ size here c.option_in.ensures.none
