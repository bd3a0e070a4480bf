use Rattle.std.proofs.Common.{rules, ◌≡◌, [], Bool, true, List, ℕ, ap, sym, ◌∙◌}
use Rattle.std.specs.Prelude.{if◌then◌else◌}
use Rattle.resp_value.specs.Data.{Datum}
use Rattle.resp_tap.specs.Filters.{keeps}
use Rattle.resp_tap.specs.JsonLines.{seen_json}
use Rattle.resp_tap.specs.JsonTaps.{kept_json}
use Rattle.resp_tap.specs.declared.filter.Filter.{Filter}
use Rattle.resp_tap.specs.declared.json_line.Facts.{Facts}
use Rattle.resp_tap.specs.declared.seen.Seen.{Seen}
use Rattle.resp_tap.proofs.KeptItems.{prints_same}
use Rattle.resp_tap.proofs.json_tap.write_kept.Goals as goal

-- the line of a result that is let through
let_through : (f : Filter) (facts : Facts) (is_chosen : Bool) (name : List ℕ) (whole : Datum) (what : Seen) →
    keeps f facts.client is_chosen facts.waited what ≡ true → seen_json facts name whole what ≡ kept_json f facts is_chosen name whole what
let_through f facts is_chosen name whole what passes = sym (ap (λ b. if b then seen_json facts name whole what else []) passes)

pub returns : goal.returns
returns g c = λ most whole kept.
    let passes : c.keeps.result ≡ true = search rules in
    prints_same _ _ _ _ _ _ _ _
    (let_through c.args.filter.now c.args.facts c.args.is_chosen c.args.name.now whole c.args.seen.now (sym c.keeps.ensures ∙ passes))
    (c.printed.ensures _ _ _ _ _ 0 (c.write_seen_json.ensures most whole kept))
