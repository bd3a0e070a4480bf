use Rattle.std.proofs.Common.{rules, ◌≡◌, length, sym, ◌∙◌}
use Rattle.resp_cli_stream.proofs.PageLemmas.{page_level}
use Rattle.resp_cli_stream.proofs.lines.Lines.level.Goals as goal

pub returns-clause-value : goal.returns-clause-value
returns-clause-value c =
    let n : c.len.result ≡ length c.args.self.now.aggregates.items = search rules in
    n ∙ sym (page_level c.args.self.now)
