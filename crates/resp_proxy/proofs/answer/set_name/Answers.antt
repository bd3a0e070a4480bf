use Rattle.std.proofs.Common.{◌≡◌, ◌∙◌, ap, codes, false, sym, subst, true}
use Rattle.std.specs.Prelude.{Bool, IfOk, if◌then◌else◌}
use Rattle.resp_proxy.specs.OwnReplies.{IsReply, error, is_client_name, ok}
use Rattle.resp_value.specs.Data.{Datum}
use Rattle.resp_value.specs.declared.version.Version.{Version}
use Rattle.resp_proxy.proofs.answer.set_name.Goals as goal

abbrev reply_if : Bool → Datum
reply_if fits = if fits then ok else error (codes "ERR Client names cannot contain spaces, newlines or special characters.")

pub returns-then-not-is_client_name-clause-reply :
    goal.returns-then-not-is_client_name-clause-reply
returns-then-not-is_client_name-clause-reply c =
    let is : is_client_name c.args.name.now ≡ false = sym c.is_client_name.ensures ∙ c.if-not-is_client_name.true in
    subst (λ d. IfOk c.error.result (λ text. (version : Version) → IsReply version d text.items)) (ap reply_if (sym is)) c.error.ensures

pub returns-clause-reply : goal.returns-clause-reply
returns-clause-reply c version =
    let is : is_client_name c.args.name.now ≡ true = sym c.is_client_name.ensures ∙ c.if-not-is_client_name.false in
    subst (λ d. IsReply version d c.in_ok-answer.answer.items) (ap reply_if (sym is)) (c.in_ok-answer.ensures version)
