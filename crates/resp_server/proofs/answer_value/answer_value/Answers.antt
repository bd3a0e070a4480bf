use Rattle.std.proofs.Common.{◌∷◌, drop, refl, subst, sym, ap, ◌∙◌}
use Rattle.resp_value.specs.Spellings.{IsSpelling}
use Rattle.resp_value.specs.Words.{command_of}
use Rattle.resp_session.specs.Answers.{server_rules}
use Rattle.resp_server.proofs.ValueAnswers.{no_command_answer, words_value}
use Rattle.resp_server.proofs.answer_value.answer_value.Goals as goal

pub run-requires-clause-words : goal.run-requires-clause-words
run-requires-clause-words g c =
    let (written, spelled) = c.requires.spelled in
    record {
      written = written;
      spelled = subst (λ x. IsSpelling (server_rules c.args.database.now.limits) x written)
          (words_value c.a_command_is_its_words.ensures c.in-Command.words c.in-Command.ensures.has_name
          c.in-Command.ensures.meaning ∙ ap (λ name. command_of (name ∷ drop 1 c.in-Command.words)) (sym c.word.ensures))
          spelled;
    }

pub returns-in_ok-fault-in-NoCommand-clause-answered : goal.returns-in_ok-fault-in-NoCommand-clause-answered
returns-in_ok-fault-in-NoCommand-clause-answered g c =
    no_command_answer c.in-NoCommand.ensures.meaning refl refl c.in_ok-fault-in-NoCommand.ensures.appended
