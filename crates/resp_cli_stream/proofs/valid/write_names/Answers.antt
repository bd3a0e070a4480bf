use Rattle.std.proofs.Common.{ap}
use Rattle.resp_print.proofs.Printing.{printed_as, printed_more, write_failed}
use Rattle.resp_cli_stream.specs.Valid.{name_text, names_text}
use Rattle.resp_cli_stream.proofs.valid.write_names.Goals as goal

pub returns-in_err-write_name : goal.returns-in_err-write_name
returns-in_err-write_name g c =
    write_failed c.from_residual.result (names_text c.args.bytes.now) (name_text c.in-Some.byte.now) (names_text c.in-Some.beyond.now) _ _ _ _ _ _
    (printed_as (names_text c.args.bytes.now) _ _ _ _ _ _ (ap names_text c.in-Some.ensures.cases.0) c.loop-byte.invariant.printed)
    c.from_residual.ensures.0 c.in_err-write_name.ensures

pub loop-byte-preserved : goal.loop-byte-preserved
loop-byte-preserved g c = record {
  printed = printed_more (names_text c.args.bytes.now) (name_text c.in-Some.byte.now) (names_text c.in-Some.beyond.now) _ _ _ _ _ _
      (printed_as (names_text c.args.bytes.now) _ _ _ _ _ _ (ap names_text c.in-Some.ensures.cases.0) c.loop-byte.invariant.printed)
      c.in_ok-write_name.ensures;
}
