use Rattle.std.proofs.Common.{inl, [], refl}
use Rattle.resp_cli_stream.proofs.Rendered.{begins_none}
use Rattle.resp_cli_stream.proofs.Scanned.{scanned_nothing}
use Rattle.resp_cli_stream.proofs.starts.Starts.new.Goals as goal

pub returns-clause-nothing_passed : goal.returns-clause-nothing_passed
returns-clause-nothing_passed c = record {
  stands = record { begins = begins_none []; counted = refl; placed = λ small. refl };
  come = inl ([], scanned_nothing c.new.result c.new.ensures.nothing_read);
}
