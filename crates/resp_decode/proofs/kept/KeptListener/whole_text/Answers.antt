use Rattle.std.proofs.Common.{refl, sym, ◌∙◌}
use Rattle.resp_scan.specs.Listening.{whole_text_events}
use Rattle.resp_decode.proofs.Keeps.{keeps_all_of_text, keeps_whole_text, kept_hears, kept_stops}
use Rattle.resp_decode.proofs.kept.KeptListener.whole_text.Goals as goal

pub returns-then-keep_length : goal.returns-then-keep_length
returns-then-keep_length c =
    let old = c.args.self.now in
    let new = record old { held = c.take_text-then-keep_length.new.self; lengths = c.keep_length.new.lengths } in
    kept_hears old new (whole_text_events c.args.kind c.args.bytes.now) c.take_text-then-keep_length.result refl
    (keeps_whole_text old c.take_text-then-keep_length.new.self c.keep_length.new.lengths c.args.kind c.args.bytes.now c.kept_bytes-kept.result.now c.take_text-then-keep_length.result c.requires
    (sym c.may_cut.ensures ∙ c.if-not-may_cut.false)
    c.kept_bytes-kept.ensures (λ goes. c.keep_length.ensures c.if-keep_length.true) c.take_text-then-keep_length.ensures)
    (λ brief. brief.0)

pub returns-else-keep_length : goal.returns-else-keep_length
returns-else-keep_length c =
    let old = c.args.self.now in
    kept_stops old (record old { lengths = c.keep_length.new.lengths }) (whole_text_events c.args.kind c.args.bytes.now) c.keep_length.result
    c.if-keep_length.false
    (λ brief. brief.0)

pub returns-then-not-may_cut : goal.returns-then-not-may_cut
returns-then-not-may_cut c =
    let old = c.args.self.now in
    kept_hears old (record old { held = c.take_text.new.self }) (whole_text_events c.args.kind c.args.bytes.now) c.take_text.result refl
    (keeps_all_of_text old c.take_text.new.self c.args.kind c.args.bytes.now c.take_text.result c.requires
    (sym c.may_cut.ensures ∙ c.if-not-may_cut.true) c.take_text.ensures)
    (λ brief. brief.0)
