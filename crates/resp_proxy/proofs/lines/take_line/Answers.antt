use Rattle.std.proofs.Common.{◌∙◌, ◌++◌, subst, sym, take}
use Rattle.std.specs.Prelude.{IfSome}
use Rattle.resp_board.specs.Runs.{KeepsRun}
use Rattle.resp_line.specs.Inline.{EndsLine, HasText, IsArrayOf, ReadsLine}
use Rattle.resp_proxy.proofs.Carryings.{line-command, line-part}
use Rattle.resp_proxy.proofs.Refusals.{line-needs-own, line-refused}
use Rattle.resp_proxy.specs.Unfinished.{terms_of}
use Rattle.resp_proxy.proofs.lines.take_line.Goals as goal

pub returns-then-not-is_aside-clause-taken : goal.returns-then-not-is_aside-clause-taken
returns-then-not-is_aside-clause-taken c lines on =
    let terms = terms_of c.args.intake.now in
    let limits = terms.rules.limits in
    let front = c.args.line.now.items in
    let piece = c.args.piece.now in
    let array = c.as_slice.result.now in
    let read = subst (λ l. ReadsLine l front piece c.next_inline.new.line.items c.in-Ok-Some.field-0) c.limits.ensures (c.in-Ok-Some.ensures.read on) in
    let (none, line) = subst (ReadsLine limits front piece c.next_inline.new.line.items) c.in-Ok-Some.field-0-is read in
    let is = subst (IsArrayOf limits line.content) (sym c.as_slice.ensures) (subst (HasText limits line.content) c.in-Some.is line.has) in (
      none,
      line-part c.no_spelling_begins_another.ensures terms c.args.route line.content (front ++ take c.in-Ok-Some.command.used piece) array c.args.board.now
          c.take_text-taken.new.board lines line.line is (c.in-Ok.ensures.carried (line-command limits line.content array is) c.if-not-is_aside.true),
    )

pub returns-in-Err-taken-clause-refused : goal.returns-in-Err-taken-clause-refused
returns-in-Err-taken-clause-refused c lines on =
    let terms = terms_of c.args.intake.now in
    let limits = terms.rules.limits in
    let front = c.args.line.now.items in
    let piece = c.args.piece.now in
    let array = c.as_slice.result.now in
    let read = subst (λ l. ReadsLine l front piece c.next_inline.new.line.items c.in-Ok-Some.field-0) c.limits.ensures (c.in-Ok-Some.ensures.read on) in
    let (none, line) = subst (ReadsLine limits front piece c.next_inline.new.line.items) c.in-Ok-Some.field-0-is read in
    let is = subst (IsArrayOf limits line.content) (sym c.as_slice.ensures) (subst (HasText limits line.content) c.in-Some.is line.has) in
    line-refused c.no_spelling_begins_another.ensures terms front piece line.content array c.in-Ok-Some.command.used c.in-Err-taken.error lines line.line is
    (c.in-Err-taken.ensures.refused (line-command limits line.content array is))

pub returns-in-Ok-with_end-clause-taken : goal.returns-in-Ok-with_end-clause-taken
returns-in-Ok-with_end-clause-taken c lines on =
    let terms = terms_of c.args.intake.now in
    let limits = terms.rules.limits in
    let front = c.args.line.now.items in
    let piece = c.args.piece.now in
    let left = c.next_inline.new.line.items in
    let text = front ++ take c.in-Ok-Some.command.used piece in
    let array = c.as_slice.result.now in
    let read = subst (λ l. ReadsLine l front piece left c.in-Ok-Some.field-0) c.limits.ensures (c.in-Ok-Some.ensures.read on) in
    let (none, line) = subst (ReadsLine limits front piece left) c.in-Ok-Some.field-0-is read in
    let ends = subst (λ o. IfSome o (λ command. EndsLine front piece command)) c.in-Ok-Some.field-0-is (c.in-Ok-Some.ensures.content on) in
    let is = subst (IsArrayOf limits line.content) (sym c.as_slice.ensures) (subst (HasText limits line.content) c.in-Some.is line.has) in
    let needs = line-needs-own c.no_spelling_begins_another.ensures terms line.content text array lines line.line is
    (c.in-Ok.ensures.aside (line-command limits line.content array is) c.if-not-is_aside.false) in (
      none,
      record {
        same = c.in-Ok-with_end.ensures ∙ sym ends;
        needs = needs;
        kept = subst (KeepsRun c.args.board.now) (sym (c.in-Ok.ensures.admitted c.if-not-is_aside.false).1) (λ p h. h);
      },
    )
