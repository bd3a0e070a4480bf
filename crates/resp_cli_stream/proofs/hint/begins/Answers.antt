use Rattle.std.proofs.Common.{drop, length}
use Rattle.std.proofs.lemmas.Slice.Eq.{starts_is}
use Rattle.std.proofs.lemmas.Bool.Decides.{Decides-eqb}
use Rattle.resp_cli_stream.proofs.hint.begins.Goals as goal

pub returns : goal.returns
returns c =
    let is = starts_is Decides-eqb c.args.from.now c.args.text.now c.starts_with.result c.starts_with.ensures.value in
    (λ e. (drop (length c.args.text.now) c.args.from.now, is.0 e), λ h. is.1 h.0 h.1)
