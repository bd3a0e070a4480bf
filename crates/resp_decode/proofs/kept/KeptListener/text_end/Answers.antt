use Rattle.std.proofs.Common.{[], ◌∷◌, refl}
use Rattle.resp_fronts.specs.Events as e
use Rattle.resp_decode.proofs.Keeps.{keeps_text_end, kept_hears, kept_stops}
use Rattle.resp_decode.proofs.kept.KeptListener.text_end.Goals as goal

pub returns-then-keep_length : goal.returns-then-keep_length
returns-then-keep_length c =
    let old = c.args.self.now in
    let new = record old { held = c.end_text.new.self; lengths = c.keep_length.new.lengths } in
    kept_hears old new (e.TextEnd ∷ []) c.end_text.result refl
    (keeps_text_end old c.end_text.new.self c.keep_length.new.lengths c.end_text.result
    (λ goes. c.keep_length.ensures c.if-keep_length.true) c.end_text.ensures)
    (λ brief. brief.0)

pub returns-else-keep_length : goal.returns-else-keep_length
returns-else-keep_length c =
    let old = c.args.self.now in
    kept_stops old (record old { lengths = c.keep_length.new.lengths }) (e.TextEnd ∷ []) c.keep_length.result c.if-keep_length.false
    (λ brief. brief.0)
