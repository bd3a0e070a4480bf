use Rattle.std.proofs.Common.{arith, inl, inr, Err, Ok, map}
use Rattle.resp_cli_args.specs.CommandWords.{AskFor}
use Rattle.resp_cli_args.specs.Faults.{IsWordStatus}
use Rattle.resp_cli_args.proofs.AskingLemmas.{answers_sort, asked_for_nothing, asks_if_entered, refused_by_program}
use Rattle.resp_cli_args.proofs.words.read_words.Goals as goal

pub returns-in-Err-clause-asked : goal.returns-in-Err-clause-asked
returns-in-Err-clause-asked g c =
    let finds = c.in-Err.ensures.finds in
    let words = map g.S.AsStr.text c.args.words.now in
    let answers = refused_by_program AskFor finds.0 words c.in-Err.error c.explain.result finds.2 c.explain.ensures.help_at_zero
    c.explain.ensures.refused_at_two in
    (finds.0, finds.1, answers, answers_sort finds.0 words (Err c.explain.result) answers c.explain.ensures.never_one)

pub returns-in-Ok-asked_of-clause-asked : goal.returns-in-Ok-asked_of-clause-asked
returns-in-Ok-asked_of-clause-asked g c =
    let finds = c.matches_of.ensures.finds in
    let words = map g.S.AsStr.text c.args.words.now in
    let answers = asks_if_entered finds.0 words _ _ finds.2 c.in-Ok.is c.in-Ok-asked_of.asked c.in-Ok-asked_of.ensures.ok in
    (finds.0, finds.1, answers, answers_sort finds.0 words (Ok c.in-Ok-asked_of.asked) answers tt)

pub returns-clause-asked : goal.returns-clause-asked
returns-clause-asked g c =
    let finds = c.matches_of.ensures.finds in
    let words = map g.S.AsStr.text c.args.words.now in
    let refused = c.refuse_nothing.ensures in
    let answers = asked_for_nothing finds.0 words _ _ finds.2 c.in-Ok.is c.refuse_nothing.result refused.status
    (λ two. c.in-Err-asked_of.ensures.err (refused.not_memory two)) in
    let range : IsWordStatus c.refuse_nothing.result = elim refused.status [
      | inl two ↦ inr (omega (arith, two), omega (arith, two))
      | inr three ↦ inr (omega (arith, three), omega (arith, three))
    ] in
    (finds.0, finds.1, answers, answers_sort finds.0 words (Err c.refuse_nothing.result) answers range)
