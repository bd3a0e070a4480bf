use Rattle.std.proofs.Common.{◌++◌, [], sym, append-nil, ap, arith, subst, ◌∙◌}
use Rattle.resp_scan.specs.Kinds.{text_kind_of}
use Rattle.resp_cli_stream.specs.Lines.{page_of}
use Rattle.resp_cli_stream.specs.Pages.{beginning, text_line}
use Rattle.resp_cli_stream.proofs.PageLemmas.{no_page, first_fails, room_for_one, room_without_text, second_fails, whole_page, whole_shown}
use Rattle.resp_io.specs.Devices.{Appends}
use Rattle.resp_print.proofs.WrittenLemmas.{Appends-append}
use Rattle.resp_cli_stream.proofs.lines.Lines.whole_text.Goals as goal

pub returns-in_err-begin_line : goal.returns-in_err-begin_line
returns-in_err-begin_line g c =
    let p = page_of c.args.self.now in
    let k = text_kind_of c.args.kind in (
      first_fails c.from_residual.result _ _ _ _ (beginning p) (text_line k c.args.bytes.now) _ c.from_residual.ensures.0
          (sym (whole_shown p k c.args.bytes.now)) c.in_err-begin_line.ensures,
      no_page c.from_residual.result _ c.from_residual.ensures.0,
    )

pub returns-in_err-write_text_line : goal.returns-in_err-write_text_line
returns-in_err-write_text_line g c =
    let p = page_of c.args.self.now in
    let k = text_kind_of c.args.kind in
    let line = text_line k c.args.bytes.now in (
      second_fails c.from_residual-in_err-write_text_line.result _ _ _ _ _ _ (beginning p) line [] _
          c.from_residual-in_err-write_text_line.ensures.0 (ap (λ z. beginning p ++ z) (append-nil line) ∙ sym (whole_shown p k c.args.bytes.now))
          c.in_ok-begin_line.ensures c.in_err-write_text_line.ensures,
      no_page c.from_residual-in_err-write_text_line.result _ c.from_residual-in_err-write_text_line.ensures.0,
    )

pub returns : goal.returns
returns g c = (
  (let p = page_of c.args.self.now in
      let k = text_kind_of c.args.kind in
      let line = text_line k c.args.bytes.now in (
        subst (Appends (g.W.Sink.written c.args.writer.now) (g.W.Sink.written c.write_text_line.new.writer)) (sym (whole_shown p k c.args.bytes.now))
            (Appends-append _ _ _ (beginning p) line c.in_ok-begin_line.ensures.0 c.in_ok-write_text_line.ensures.0),
        c.in_ok-write_text_line.ensures.1 ∙ c.in_ok-begin_line.ensures.1,
      )),
  λ room few.
      let p = page_of c.args.self.now in
      c.end.ensures (room_without_text p (room_for_one _ p (omega arith) room)) ∙ sym (whole_page p (text_kind_of c.args.kind) c.args.bytes.now),
)
