use Rattle.std.proofs.Common.{◌≡◌, ◌∙◌, ap, subst, sym}
use Rattle.std.specs.Prelude.{◌&&◌, not}
use Rattle.resp_frames.specs.Commands.{TellsWords}
use Rattle.resp_frames.specs.Texts.{text_of}
use Rattle.resp_proxy.specs.OwnReplies.{keeps_setting}
use Rattle.resp_proxy.proofs.reaction.leaves_setting.Goals as goal

pub returns-then-not-is_first : goal.returns-then-not-is_first
returns-then-not-is_first c words = sym (ap (λ f. not (f && keeps_setting words.name words.arguments)) c.if-not-is_first.true)

pub returns : goal.returns
returns c words =
    let kept = subst (λ l. (w : TellsWords l (text_of c.args.command.now.frame) c.args.command.now.words) →
    c.keeps_setting.result ≡ keeps_setting w.name w.arguments) c.limits.ensures c.keeps_setting.ensures words in
    ap not kept ∙ sym (ap (λ f. not (f && keeps_setting words.name words.arguments)) c.if-not-is_first.false)
