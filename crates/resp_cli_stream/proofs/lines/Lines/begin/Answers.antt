use Rattle.std.proofs.Common.{refl}
use Rattle.resp_cli_stream.specs.Lines.{page_of}
use Rattle.resp_cli_stream.specs.Pages.{beginning}
use Rattle.resp_cli_stream.proofs.PageLemmas.{both_written, first_fails}
use Rattle.resp_cli_stream.proofs.lines.Lines.begin.Goals as goal

pub returns-in_err-begin_line : goal.returns-in_err-begin_line
returns-in_err-begin_line g c =
    first_fails c.from_residual.result _ _ _ _ (beginning (page_of c.args.self.now)) c.args.words.now _ c.from_residual.ensures.0 refl
    c.in_err-begin_line.ensures

pub returns : goal.returns
returns g c =
    both_written c.write_text.result _ _ _ _ _ _ (beginning (page_of c.args.self.now)) c.args.words.now _ refl c.in_ok-begin_line.ensures c.write_text.ensures
