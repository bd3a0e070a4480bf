use Rattle.std.proofs.Common.{◌-◌, arith, length, refl, rules, subst, sym}
use Rattle.resp_server.specs.Answering.{AnswersBytes}
use Rattle.resp_server.specs.Reading.{HasReadFront}
use Rattle.resp_server.specs.declared.session.Session.{Session}
use Rattle.resp_server.proofs.WholeTurns.{whole_turn}
use Rattle.resp_server.proofs.turn.take_turn.Goals as goal

pub run-requires-clause-words : goal.run-requires-clause-words
run-requires-clause-words g c = record { written = c.in-Some.ensures.begins.written; spelled = c.in-Some.ensures.begins.spelled }

pub returns-in-Some : goal.returns-in-Some
returns-in-Some g c =
    let (front, taken) = c.requires.taking in
    let between = subst (HasReadFront c.args.session.now.decoder) (c.if-is_between.ensures.nothing_taken refl front taken) taken in
    let after : Session = record c.args.session.now { version = c.run.new.version; out = c.run.new.out; small = c.session-1.given.0 } in
    record {
      answered = λ front taken. subst (λ front. AnswersBytes c.args.database.now.limits c.args.database.now.store c.run.new.self.store
          c.args.session.now after front c.args.piece.now (length c.args.piece.now - length c.in-Some.command.rest.now) 1)
          (sym (c.if-is_between.ensures.nothing_taken refl front taken)) (whole_turn c.no_spelling_is_empty.ensures c.the_empty_text_is_viable.ensures
          c.a_command_is_its_words.ensures c.are_in_range.ensures c.in-Some.command.name.now c.in-Some.command.arguments between c.requires.is_open
          c.in-Some.ensures.begins c.in_ok-run.ensures.runs.done refl refl);
      unchanged = tt;
      within = search rules;
      same_id = search rules;
      reading = search rules;
      at_most_one = omega arith;
    }
