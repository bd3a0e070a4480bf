use Rattle.std.proofs.Common.{◌++◌, take, refl, sym, subst, arith, rules}
use Rattle.resp_value.specs.Values.{datum_of}
use Rattle.resp_value.specs.Spellings.{IsSpelling}
use Rattle.resp_session.specs.Answers.{server_rules}
use Rattle.resp_server.specs.Answering.{IsAnswerTo}
use Rattle.resp_server.specs.declared.session.Session.{Session}
use Rattle.resp_server.proofs.Turns.{none_taken, fault_is_named, refused_by, refused_turn, waiting_turn, value_turn, same_answer}
use Rattle.resp_server.proofs.turn.read_turn.Goals as goal

pub refuse-requires : goal.refuse-requires
refuse-requires g c =
    let (front, taken) = c.requires.taking in
    fault_is_named c.are_in_range.ensures front c.args.piece.now (c.in-Err.ensures.refusal front taken)

pub returns-in-Err : goal.returns-in-Err
returns-in-Err g c = record {
  answered = λ front taken.
      let done = c.in_ok-refuse-in-Err.ensures.refused in
      refused_turn (refused_by c.args.database.now.limits (c.in-Err.ensures.refusal front taken) done.caused)
      c.in_ok-refuse-in-Err.ensures.same_version done.closes done.line;
  unchanged = tt;
  within = search rules;
  same_id = search rules;
  reading = search rules;
  at_most_one = omega arith;
}

pub returns-in_default : goal.returns-in_default
returns-in_default g c = record {
  answered = λ front taken. waiting_turn (c.in-Ok.ensures.used_up front taken c.in_default.is) refl c.requires.is_open
      refl;
  unchanged = tt;
  within = search rules;
  same_id = search rules;
  reading = search rules;
  at_most_one = omega arith;
}

pub answer_value-requires-clause-spelled : goal.answer_value-requires-clause-spelled
answer_value-requires-clause-spelled g c =
    let (front, taken) = c.requires.taking in
    let given = c.in-Ok.ensures.value_whole front taken c.in-Some.value c.in-Some.is in
    let written = front ++ take c.in-Ok.fed.used c.args.piece.now in (
      written,
      subst (λ v. IsSpelling (server_rules c.args.database.now.limits) (datum_of v) written) (sym c.in-Some.value-is)
          given.spelling,
    )

pub returns : goal.returns
returns g c = record {
  answered = λ front taken.
      let given = c.in-Ok.ensures.value_whole front taken c.in-Some.value c.in-Some.is in
      let before : Session = c.args.session.now in
      let store' = c.answer_value.new.database.store in
      let answered = subst (λ v. IsAnswerTo (datum_of v) c.args.database.now.store store' before c.answer_value.new.session c.in_ok-commands.commands)
      c.in-Some.value-is (same_answer c.in_ok-commands.ensures.answered refl refl refl) in
      value_turn c.no_spelling_is_empty.ensures c.the_empty_text_is_viable.ensures c.are_in_range.ensures
      (none_taken c.no_spelling_is_empty.ensures (server_rules c.args.database.now.limits) c.args.session.now.decoder front taken) given
      c.in-Ok.ensures.within_piece c.answer_value.ensures.same_decoder answered;
  unchanged = tt;
  within = search rules;
  same_id = search rules;
  reading = search rules;
  at_most_one = search rules;
}
