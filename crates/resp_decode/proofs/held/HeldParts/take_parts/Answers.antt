use Rattle.std.proofs.Common.{[], ◌∷◌, ◌++◌, subst}
use Rattle.resp_fronts.specs.Events as e
use Rattle.resp_scan.specs.Kinds.{content_events, text_kind_of}
use Rattle.resp_decode.specs.Hearing.{TakesInWhereFit}
use Rattle.resp_decode.proofs.Taking.{takes_in_both}
use Rattle.resp_decode.proofs.held.HeldParts.take_parts.Goals as goal

pub returns-then-extend_text : goal.returns-then-extend_text
returns-then-extend_text c =
    let begins = e.Text (text_kind_of c.args.kind) ∷ [] in
    let content = content_events c.args.bytes.now in
    let ends = e.TextEnd ∷ [] in
    takes_in_both c.args.self.now c.begin_text.new.self c.end_text.new.self begins (content ++ ends) c.end_text.result c.begin_text.ensures
    (takes_in_both c.begin_text.new.self c.extend_text.new.self c.end_text.new.self content ends c.end_text.result
    (subst (TakesInWhereFit c.begin_text.new.self c.extend_text.new.self content) c.if-extend_text.true c.extend_text.ensures) c.end_text.ensures)
