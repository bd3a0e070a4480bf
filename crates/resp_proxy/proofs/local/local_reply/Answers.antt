use Rattle.std.proofs.Common.{subst, sym}
use Rattle.resp_proxy.specs.OwnReplies.{IsReplyOf, local_treatment_in}
use Rattle.resp_proxy.proofs.local.local_reply.Goals as goal

pub returns-in_ok-text-in-Counts : goal.returns-in_ok-text-in-Counts
returns-in_ok-text-in-Counts c =
    subst (λ r. IsReplyOf (local_treatment_in r) c.in_ok-text-in-Counts.text.items) (sym c.in-Counts.is)
    (λ version number name. (_, c.in_ok-text-in-Counts.ensures version))
