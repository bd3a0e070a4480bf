use Rattle.std.proofs.Common.{◌∷◌, ◌+◌, drop, Some, ap, sym, ◌∙◌, subst}
use Rattle.resp_board.specs.Answers.{BeginsMissing, answers_of}
use Rattle.resp_board.proofs.Places.{behind}
use Rattle.resp_board.proofs.Ready.{all_added, all_counted, one_more}
use Rattle.resp_board.proofs.early.append_ready.Goals as goal

pub loop-text-preserved : goal.loop-text-preserved
loop-text-preserved c =
    let answers = answers_of c.args.early.now.items in
    let count = c.loop-text.count in
    let text = c.in-Some.text.now in
    one_more (drop 1 answers) count c.args.out.now c.loop-text.out c.append.new.self text c.loop-text.invariant
    (behind answers count ∙ c.in-Some.ensures.there ∙ ap (λ xs. Some text ∷ xs) (sym (behind answers (count + 1)))) c.in_ok-append.ensures.added

pub returns-clause-count : goal.returns-clause-count
returns-clause-count c =
    let answers = answers_of c.args.early.now.items in
    all_counted (drop 1 answers) c.loop-text.count c.args.out.now c.loop-text.out c.loop-text.invariant
    (subst BeginsMissing (sym (behind answers c.loop-text.count)) c.in_default.ensures.missing)

pub returns-clause-added : goal.returns-clause-added
returns-clause-added c =
    let answers = answers_of c.args.early.now.items in
    all_added (drop 1 answers) c.loop-text.count c.args.out.now c.loop-text.out c.loop-text.invariant
    (subst BeginsMissing (sym (behind answers c.loop-text.count)) c.in_default.ensures.missing)
