use Rattle.std.proofs.Common.{[], ◌∷◌, true, refl}
use Rattle.resp_fronts.specs.Events as e
use Rattle.resp_scan.specs.Kinds.{text_kind_of}
use Rattle.resp_decode.proofs.Keeps.{keeps_text, kept_hears}
use Rattle.resp_decode.proofs.kept.KeptListener.text.Goals as goal

pub returns : goal.returns
returns c =
    let old = c.args.self.now in
    let kind = text_kind_of c.args.kind in
    kept_hears old (record old { held = c.begin_text.new.self; cuts = c.may_cut-self.result; count = 0 }) (e.Text kind ∷ []) true refl
    (keeps_text old c.begin_text.new.self kind c.may_cut-self.result c.may_cut-self.ensures c.begin_text.ensures) (λ brief. brief.0)
