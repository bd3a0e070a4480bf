use Rattle.std.proofs.Common.{◌∙◌, subst, sym, ◌≤◌, length}
use Rattle.resp_decode.proofs.CutFeeding.{is_kept_light}
use Rattle.resp_decode.proofs.cut_decoder.CutDecoder.weight.Goals as goal

pub returns-clause-weight_of_front : goal.returns-clause-weight_of_front
returns-clause-weight_of_front c = λ front w. (w.given, w.all_due, c.weight.ensures ∙ w.heard.1.weighs)

pub returns-clause-at_most_taken : goal.returns-clause-at_most_taken
returns-clause-at_most_taken c = λ front w.
    subst (λ n. n ≤ length front) (sym c.weight.ensures)
    (is_kept_light c.args.self.now.scanner c.args.self.now.kept front w (c.taken-taken.ensures.viable front w.given w.reads))
