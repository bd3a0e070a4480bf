use Rattle.std.proofs.Common.{◌∷◌, ◌∙◌, [], Some, ap, subst, sym}
use Rattle.resp_frames.proofs.SameWords.{whole_text, words_found}
use Rattle.resp_frames.specs.Texts.{text_of}
use Rattle.resp_proxy.specs.OwnReplies.{keeps_setting}
use Rattle.resp_scan.specs.Whole.{BeginsWith}
use Rattle.resp_value.specs.Words.{command_of}
use Rattle.resp_proxy.proofs.reaction.keeps_setting.Goals as goal

pub returns-in-Some : goal.returns-in-Some
returns-in-Some c words =
    let read = c.in-Some.words in
    let limits = c.args.limits.now in
    let same = words_found c.no_spelling_begins_another.ensures limits (text_of c.args.command.now.frame) (Some read)
    (subst (λ t. BeginsWith limits t (command_of (read.name.now ∷ read.arguments)) read.rest.now) c.text.ensures c.in-Some.ensures.begins) words.name
    words.arguments words.spelled in
    c.keeps_by.ensures ∙ ap (λ n. keeps_setting n read.arguments) same.0 ∙ ap (keeps_setting words.name) same.1

pub returns-in-None : goal.returns-in-None
returns-in-None c words =
    let limits = c.args.limits.now in
    absurd (c.in-None.ensures.none words.name words.arguments []
    (subst (λ t. BeginsWith limits t (command_of (words.name ∷ words.arguments)) []) (sym c.text.ensures)
    (whole_text limits (text_of c.args.command.now.frame) words.name words.arguments words.spelled)))
