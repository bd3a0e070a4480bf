use Rattle.std.proofs.Common.{◌≡◌, ◌+◌, ◌++◌, ◌∷◌, [], length, map, None, Some, arith, ap, subst, sym}
use Rattle.std.proofs.lemmas.Grind.{common_steps}
use Rattle.std.proofs.lemmas.List.{length-append, length-map}
use Rattle.resp_board.specs.Answers.{BeginsMissing}
use Rattle.resp_board.proofs.Later.{after, after_length, one_asked, one_missing}
use Rattle.resp_board.proofs.desk.Desk.ask.Goals as goal

pub returns-clause-asked : goal.returns-clause-asked
returns-clause-asked c answers given h =
    let d = c.args.self.now in
    let within = d.in_range.0 in
    let one : c.in-Some.asked ≡ d.asked + 1 = grind (arith, common_steps) in (
      omega (
        arith,
        h.count,
        within,
        ap length h.whole,
        length-append (map Some h.told) (after d.early.items d.done d.asked),
        length-map h.told Some,
        after_length d.early.items d.done d.asked within,
      ),
      record {
        told = h.told;
        whole = subst (λ n. answers ++ None ∷ [] ≡ map Some h.told ++ after d.early.items d.done n) (sym one) (one_asked d.early.items d.done d.asked h.told answers within h.whole);
        count = h.count;
        out = h.out;
        missing = subst (λ n. BeginsMissing (after d.early.items d.done n)) (sym one) (one_missing d.early.items d.done d.asked within h.missing);
      },
    )
