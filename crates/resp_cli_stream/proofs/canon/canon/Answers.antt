use Rattle.std.proofs.Common.{[], refl, ◌∙◌}
use Rattle.resp_cli_stream.proofs.Scanned.{scanned_nothing}
use Rattle.resp_cli_stream.proofs.canon.canon.Goals as goal

pub render_stream-requires-clause-nothing_taken : goal.render_stream-requires-clause-nothing_taken
render_stream-requires-clause-nothing_taken g c = record {
  given = [];
  scanned = scanned_nothing c.new.result c.new.ensures.nothing_read;
  drafted = (c.reserve.ensures.same_version ∙ c.new-draft.ensures.0, c.reserve.ensures.same _ c.new-draft.ensures.1);
  same_rules = c.new.ensures.rules;
  nothing = refl;
}

pub returns-clause-written : goal.returns-clause-written
returns-clause-written g c =
    let (bytes, read, rendered) = c.in_ok-render_stream.ensures.rendered in
    (bytes, read, (rendered.values, rendered.all))
