use Rattle.std.proofs.Common.{[], ◌∷◌, Some, true, refl}
use Rattle.resp_fronts.specs.Events as e
use Rattle.resp_scan.specs.Kinds.{text_kind_of}
use Rattle.resp_cli_stream.proofs.Drafting.{draft_begun, draft_hears}
use Rattle.resp_cli_stream.proofs.draft.DraftListener.text.Goals as goal

pub returns : goal.returns
returns c =
    let old = c.args.self.now in
    let kind = c.args.kind in
    draft_hears old (record old { kind = Some kind }) (e.Text (text_kind_of kind) ∷ []) true
    (λ b may is goes. (refl, draft_begun old (record old { kind = Some kind }) b kind may.0.0 is refl refl refl refl refl))
