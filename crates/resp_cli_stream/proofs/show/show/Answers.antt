use Rattle.std.proofs.Common.{[], refl}
use Rattle.resp_cli_stream.proofs.Scanned.{scanned_nothing}
use Rattle.resp_cli_stream.proofs.show.show.Goals as goal

pub render_stream-requires-clause-nothing_taken : goal.render_stream-requires-clause-nothing_taken
render_stream-requires-clause-nothing_taken g c = record {
  given = [];
  scanned = scanned_nothing c.new.result c.new.ensures.nothing_read;
  shown_lines = record { page = c.new-2.ensures; deep = refl };
  written = refl;
}
