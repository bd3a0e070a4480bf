use Rattle.std.proofs.Common.{rules, arith, ◌≡◌, ◌++◌, ◌∷◌, ◌∙◌, [], sym}
use Rattle.std.proofs.lemmas.Grind.{common_steps}
use Rattle.resp_line.specs.Lines.{quote_byte}
use Rattle.resp_line.proofs.WordLines.{no_quote_at_end, other_quote, quoted_closed, quoted_end, quoted_more, quoted_open, quoted_through}
use Rattle.resp_line.proofs.line.read_quoted.Goals as goal

pub loop-byte-preserved : goal.loop-byte-preserved
loop-byte-preserved c =
    let (content, same, so_far) = c.loop-byte.invariant.read in
    let read = c.in-Some.ensures.read in
    record {
      read = (
        content ++ c.in-Some.byte ∷ [],
        grind (arith, common_steps),
        quoted_more c.args.quote c.args.text.now c.loop-byte.rest.now c.in-Some.after.now content c.in-Some.byte so_far read,
      );
      through = quoted_through c.args.quote c.args.text.now c.loop-byte.rest.now c.in-Some.after.now c.in-Some.byte c.loop-byte.invariant.through read;
      short = search rules;
    }

pub returns-in_default-split_first-clause-open : goal.returns-in_default-split_first-clause-open
returns-in_default-split_first-clause-open c =
    quoted_open c.args.quote c.args.text.now c.loop-byte.rest.now c.loop-byte.invariant.through
    (λ end. no_quote_at_end c.loop-byte.rest.now end (quote_byte c.args.quote) (search rules)) c.in_default.ensures.none

pub returns-then-byte-clause-closed : goal.returns-then-byte-clause-closed
returns-then-byte-clause-closed c =
    let (content, same, so_far) = c.loop-byte.invariant.read in
    let is : c.loop-byte.rest.now ≡ quote_byte c.args.quote ∷ c.in-Some-split_first.after.now = grind (arith, common_steps) in
    (content, same, quoted_closed c.args.quote c.args.text.now c.loop-byte.rest.now _ content so_far is)

pub returns-then-byte-clause-only : goal.returns-then-byte-clause-only
returns-then-byte-clause-only c =
    let is : c.loop-byte.rest.now ≡ quote_byte c.args.quote ∷ c.in-Some-split_first.after.now = grind (arith, common_steps) in
    quoted_end c.args.quote c.args.text.now c.loop-byte.rest.now _ c.loop-byte.invariant.through is

pub returns-clause-open : goal.returns-clause-open
returns-clause-open c =
    quoted_open c.args.quote c.args.text.now c.loop-byte.rest.now c.loop-byte.invariant.through
    (λ end. other_quote c.loop-byte.rest.now c.in-Some-split_first.after.now end c.in-Some-split_first.byte.now (quote_byte c.args.quote)
    c.in-Some-split_first.ensures.cases.0 (λ is. c.if-byte.false (is ∙ sym c.byte.ensures))) c.in_default.ensures.none
