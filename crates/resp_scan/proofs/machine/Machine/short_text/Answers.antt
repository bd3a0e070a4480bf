use Rattle.std.proofs.Common.{ap, ◌∙◌, arith}
use Rattle.resp_scan.specs.declared.event.TextKind.TheVariants as text
use Rattle.resp_scan.specs.Machine.Fields.{place_of}
use Rattle.resp_scan.specs.Machine.Scan.{Gave}
use Rattle.resp_scan.specs.Machine.Tokens.{Text}
use Rattle.resp_scan.proofs.Soundness.ShortTexts.{short_begun}
use Rattle.resp_scan.proofs.machine.Machine.short_text.Goals as goal

pub returns-in-None-clause-begun : goal.returns-in-None-clause-begun
returns-in-None-clause-begun c =
    let short = c.in_ok-short.short in
    let within = c.in_ok-short.ensures.within in
    ap (λ t. Gave short.head (Text text.Bulk) t) c.content_begins.ensures.place
    ∙ short_begun (place_of c.args.self.now) (place_of c.begin.new.self) short.head short.count c.args.piece.now within.4 within.1
    (omega (arith, c.if-short-length.false, c.length.ensures.length)) c.in-None.ensures.cause c.in-None.ensures.begun c.in_ok-short.ensures.head
