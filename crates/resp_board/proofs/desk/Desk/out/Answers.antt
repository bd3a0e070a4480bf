use Rattle.std.proofs.Common.{◌++◌, ap, sym, ◌∙◌}
use Rattle.std.specs.List.{concat}
use Rattle.resp_board.specs.Answers.{front_answers}
use Rattle.resp_board.specs.Desks.{later}
use Rattle.resp_board.proofs.Ready.{front_told}
use Rattle.resp_board.proofs.desk.Desk.out.Goals as goal

pub returns-clause-answers : goal.returns-clause-answers
returns-clause-answers c answers given h =
    ap (λ o. given ++ o) c.as_slice.ensures ∙ h.out ∙
    ap concat (sym (ap front_answers h.whole ∙ front_told h.told (later c.args.self.now) h.missing))
