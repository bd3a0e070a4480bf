use Rattle.std.proofs.Common.{OnOk, refl, subst}
use Rattle.resp_frames.specs.Texts.{text_of}
use Rattle.resp_board.specs.Boards.{Ask}
use Rattle.resp_board.specs.Histories.{with_event}
use Rattle.resp_board.specs.Runs.{HasRun, WhereRun}
use Rattle.resp_proxy.proofs.Carryings.{carried-shared}
use Rattle.resp_proxy.specs.Unfinished.{terms_of}
use Rattle.resp_proxy.proofs.carrying.carry_out.Goals as goal

pub returns-then-is_sent-clause-carried : goal.returns-then-is_sent-clause-carried
returns-then-is_sent-clause-carried c front piece f stays =
    carried-shared c.forward.result (terms_of c.args.intake.now) c.args.route front piece c.args.command.now c.args.board.now c.forward.new.board f
    (c.if-is_sent.ensures refl)
    (subst (λ text. OnOk c.forward.result (WhereRun c.args.board.now (λ p. HasRun c.forward.new.board (with_event (Ask c.args.route.client c.args.route.line.place text) p)))) c.text.ensures
    c.forward.ensures.run)

pub returns-then-is_sent-clause-refused : goal.returns-then-is_sent-clause-refused
returns-then-is_sent-clause-refused c words stays = c.forward.ensures.refused (terms_of c.args.intake.now) (text_of c.args.command.now.frame)
