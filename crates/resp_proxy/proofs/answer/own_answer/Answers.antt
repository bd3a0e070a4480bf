use Rattle.std.proofs.Common.{◌∷◌, [], Some, subst, sym}
use Rattle.resp_frames.proofs.SameWords.{whole_text, words_found}
use Rattle.resp_frames.specs.Texts.{text_of}
use Rattle.resp_proxy.proofs.OwnReplies.{answered-words}
use Rattle.resp_scan.specs.Whole.{BeginsWith}
use Rattle.resp_value.specs.Words.{command_of}
use Rattle.resp_proxy.proofs.answer.own_answer.Goals as goal

pub returns-in_default : goal.returns-in_default
returns-in_default c words =
    let limits = c.args.limits.now in
    absurd (c.in_default.ensures.none words.name words.arguments []
    (subst (λ t. BeginsWith limits t (command_of (words.name ∷ words.arguments)) []) (sym c.text.ensures)
    (whole_text limits (text_of c.args.command.now.frame) words.name words.arguments words.spelled)))

pub returns : goal.returns
returns c words =
    let read = c.in-Some.words in
    let limits = c.args.limits.now in
    answered-words c.answer_by.result c.args.route c.args.name.now.items c.args.command.now.words.class read.name.now words.name read.arguments words.arguments
    (words_found c.no_spelling_begins_another.ensures limits (text_of c.args.command.now.frame) (Some read)
    (subst (λ t. BeginsWith limits t (command_of (read.name.now ∷ read.arguments)) read.rest.now) c.text.ensures c.in-Some.ensures.begins) words.name
    words.arguments words.spelled)
    words.has.class c.answer_by.ensures
