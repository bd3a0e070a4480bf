use Rattle.std.proofs.Common.{[], sym, ap, subst, append-nil, ◌∙◌}
use Rattle.resp_cli_stream.specs.Lines.{HasRoomFor, page_of}
use Rattle.resp_cli_stream.specs.Pages.{Page}
use Rattle.resp_print.specs.Shown.{quoted_text}
use Rattle.resp_io.specs.Devices.{Appends}
use Rattle.resp_cli_stream.proofs.PageLemmas.{no_page, content_length, content_page, content_shown, first_fails}
use Rattle.resp_cli_stream.proofs.lines.Lines.part.Goals as goal

pub returns-in_err-write_quoted : goal.returns-in_err-write_quoted
returns-in_err-write_quoted g c =
    let quoted = quoted_text c.args.part.now in (
      first_fails c.from_residual.result _ _ _ _ quoted [] _ c.from_residual.ensures.0
          (append-nil quoted ∙ sym (content_shown (page_of c.args.self.now) c.args.part.now)) c.in_err-write_quoted.ensures,
      no_page c.from_residual.result _ c.from_residual.ensures.0,
    )

pub returns : goal.returns
returns g c = (
  (
    subst (Appends (g.W.Sink.written c.args.writer.now) (g.W.Sink.written c.write_quoted.new.writer))
        (sym (content_shown (page_of c.args.self.now) c.args.part.now))
        c.in_ok-write_quoted.ensures.0,
    c.in_ok-write_quoted.ensures.1,
  ),
  λ room few.
      let p = page_of c.args.self.now in
      ap (λ z. let q : Page = record p { text = z } in q) (c.longer-self.ensures (subst (λ n. HasRoomFor n p) (content_length c.args.part.now) room).size) ∙ sym (content_page p c.args.part.now),
)
