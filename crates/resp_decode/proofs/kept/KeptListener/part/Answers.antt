use Rattle.std.proofs.Common.{rules, ◌≡◌, ◌+◌, ◌-◌, ◌^◌, true, false, cond, length, min, suc, take, refl, sym, ap, ◌∙◌}
use Rattle.resp_scan.specs.Kinds.{content_events}
use Rattle.resp_decode.proofs.Keeps.{keeps_part, kept_hears}
use Rattle.resp_decode.proofs.Taking.{content_wants_memory}
use Rattle.resp_decode.proofs.kept.KeptListener.part.Goals as goal

pub returns-then-not-self : goal.returns-then-not-self
returns-then-not-self c =
    let old = c.args.self.now in
    let part = c.args.part.now in
    let whole : old.cuts ≡ false = search rules in
    let held = c.extend_text.new.self in
    kept_hears old (record old { held = held }) (content_events part) c.extend_text.result refl
    (keeps_part old held part part old.count c.extend_text.result c.requires c.extend_text.ensures
    (sym (ap (λ z. cond z (take (suc old.shown - old.count) part) part) whole))
    (sym (ap (λ z. cond z (min (old.count + length part) (2 ^ 64 - 1)) old.count) whole)))
    (content_wants_memory part c.requires)

pub returns : goal.returns
returns c =
    let old = c.args.self.now in
    let part = c.args.part.now in
    let cut : old.cuts ≡ true = search rules in
    let held = c.extend_text-2.new.self in
    let count = c.saturating_add-self.result in
    kept_hears old (record old { held = held; count = count }) (content_events part) c.extend_text-2.result refl
    (keeps_part old held part c.kept_bytes-kept.result.now count c.extend_text-2.result c.requires c.extend_text-2.ensures
    (c.kept_bytes-kept.ensures ∙ sym (ap (λ z. cond z (take (suc old.shown - old.count) part) part) cut))
    (c.saturating_add-self.ensures ∙ sym (ap (λ z. cond z (min (old.count + length part) (2 ^ 64 - 1)) old.count) cut)))
    (content_wants_memory part c.requires)
