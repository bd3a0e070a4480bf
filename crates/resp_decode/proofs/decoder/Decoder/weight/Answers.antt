use Rattle.std.proofs.Common.{◌∙◌, ap, subst, sym, ◌≤◌, length}
use Rattle.resp_decode.specs.Weights.{weight_of}
use Rattle.resp_decode.proofs.Feeding.{is_light}
use Rattle.resp_decode.proofs.decoder.Decoder.weight.Goals as goal

pub returns-clause-weight_of_front : goal.returns-clause-weight_of_front
returns-clause-weight_of_front c = λ front w. (
  w.given,
  w.all_due,
  c.weight.ensures ∙ (is_light c.args.self.now.scanner c.args.self.now.held front w (c.taken-taken.ensures.viable front w.given w.reads)).same ∙
      ap weight_of w.heard.holds,
)

pub returns-clause-at_most_taken : goal.returns-clause-at_most_taken
returns-clause-at_most_taken c = λ front w.
    subst (λ n. n ≤ length front) (sym c.weight.ensures) (is_light c.args.self.now.scanner c.args.self.now.held front w (c.taken-taken.ensures.viable front w.given w.reads)).light
