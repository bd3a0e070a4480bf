use Rattle.std.proofs.Common.{◌∙◌, Global, Vec, ap, ℕ}
use Rattle.resp_proxy.proofs.OwnReplies.{number-reply}
use Rattle.resp_proxy.proofs.answer.integer.Goals as goal

pub returns : goal.returns
returns c =
    number-reply c.args.number _ c.ranges.number.fits (ap (λ (v : Vec ℕ Global). v.items) c.into_bytes.ensures.value ∙ c.in_ok-text.ensures.ok)
