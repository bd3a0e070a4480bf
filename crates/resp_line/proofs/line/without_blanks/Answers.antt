use Rattle.std.proofs.Common.{rules}
use Rattle.resp_line.specs.Lines.{is_blank}
use Rattle.resp_line.proofs.WordLines.{blank_more, was_true}
use Rattle.resp_line.proofs.line.without_blanks.Goals as goal

pub loop-byte-preserved : goal.loop-byte-preserved
loop-byte-preserved c = record {
  follows = blank_more c.args.text.now c.loop-byte.rest.now c.in-Some.beyond.now c.in-Some.byte.now c.loop-byte.invariant.follows (search rules)
      (was_true c.is_blank.result (is_blank c.in-Some.byte.now) c.is_blank.ensures (search rules));
}
