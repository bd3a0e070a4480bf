use Rattle.std.proofs.Common.{◌-◌, take, length}
use Rattle.std.proofs.lemmas.Slice.Eq.{ends_is}
use Rattle.std.proofs.lemmas.Bool.Decides.{Decides-eqb}
use Rattle.resp_cli_stream.proofs.hint.ends.Goals as goal

pub returns : goal.returns
returns c =
    let before = c.args.before.now in
    let text = c.args.text.now in
    let is = ends_is Decides-eqb before text c.ends_with.result c.ends_with.ensures.value in
    (λ e. (take (length before - length text) before, is.0 e), λ h. is.1 h.0 h.1)
