use Rattle.std.proofs.Common.{◌∙◌, ◌++◌, ◌+◌, ap, subst, take}
use Rattle.resp_line.specs.Inline.{HasText, RejectsContent}
use Rattle.resp_line.proofs.InlineLines.{hold_rejected, line_ended, line_held, line_rejected, line_too_long, line_too_long_before}
use Rattle.resp_line.proofs.inline.next_inline.Goals as goal

pub returns-in-Ok-clause-read : goal.returns-in-Ok-clause-read
returns-in-Ok-clause-read c on =
    let held = c.in-Ok.ensures.held in
    (held, line_held c.args.line.now.items c.args.piece.now c.hold.new.line.items on c.in_default.ensures held c.in-Ok.ensures.short)

pub returns-in-Err-clause-rejected : goal.returns-in-Err-clause-rejected
returns-in-Err-clause-rejected c on =
    let front = c.args.line.now.items in
    let piece = c.args.piece.now in
    hold_rejected c.args.limits.now (front ++ piece) (front ++ piece) c.in-Err.error (line_too_long front piece on c.in_default.ensures) c.in-Err.ensures.long

pub returns-in-Err-hold-clause-rejected : goal.returns-in-Err-hold-clause-rejected
returns-in-Err-hold-clause-rejected c on =
    let front = c.args.line.now.items in
    let piece = c.args.piece.now in
    hold_rejected c.args.limits.now (front ++ piece) (front ++ take c.in-Some.end piece) c.in-Err-hold.error
    (line_too_long_before front piece c.in-Some.end on c.in-Some.ensures) c.in-Err-hold.ensures.long

pub returns-in-Ok-text_of-clause-read : goal.returns-in-Ok-text_of-clause-read
returns-in-Ok-text_of-clause-read c on =
    let front = c.args.line.now.items in
    let piece = c.args.piece.now in
    let content = c.hold-2.new.line.items in
    let hold = c.in_default-hold.ensures in (
      ap (λ v. v.items) c.replace-content.ensures.after ∙ c.new.ensures.items,
      record {
        content = content;
        line = line_ended front piece content c.in-Some.end on c.in-Some.ensures hold.held hold.short;
        has = subst (λ line. HasText c.args.limits.now line c.in-Ok-text_of.text) c.as_slice.ensures.value c.in-Ok-text_of.ensures.text;
      },
    )

pub returns-in-Err-text_of-clause-rejected : goal.returns-in-Err-text_of-clause-rejected
returns-in-Err-text_of-clause-rejected c on =
    let front = c.args.line.now.items in
    let piece = c.args.piece.now in
    let content = c.hold-2.new.line.items in
    let hold = c.in_default-hold.ensures in
    let error = c.in-Err-text_of.error in
    line_rejected c.args.limits.now front piece content (c.in-Some.end + 1) error
    (line_ended front piece content c.in-Some.end on c.in-Some.ensures hold.held hold.short) on.begins
    (subst (λ line. RejectsContent c.args.limits.now line error) c.as_slice.ensures.value c.in-Err-text_of.ensures.rejected)
