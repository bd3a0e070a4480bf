use Rattle.std.proofs.Common.{◌∷◌, subst}
use Rattle.resp_frames.specs.Texts.{text_of}
use Rattle.resp_proxy.proofs.OwnReplies.{local-read}
use Rattle.resp_scan.specs.Whole.{BeginsWith}
use Rattle.resp_value.specs.Words.{command_of}
use Rattle.resp_proxy.proofs.local.local_answer.Goals as goal

pub returns : goal.returns
returns c =
    let read = c.in-Some.words in
    let limits = c.args.limits.now in
    local-read c.local_reply.result limits c.args.local_ping _ (text_of c.args.command.now.frame) read.name.now read.arguments read.rest.now
    c.local_reaction_to-reaction.ensures
    (subst (λ t. BeginsWith limits t (command_of (read.name.now ∷ read.arguments)) read.rest.now) c.text-2.ensures c.in-Some.ensures.begins)
    c.local_reply.ensures
