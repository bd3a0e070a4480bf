use Rattle.std.proofs.Common.{rules, arith, ◌≡◌, ◌<◌, ℕ, List, [], ◌∷◌, ◌++◌, length, refl, subst}
use Rattle.resp_json.specs.Json.{text_json}
use Rattle.resp_print.proofs.WrittenLemmas.{writes_next, writes_part}
use Rattle.resp_print.specs.Written.{WritesText}
use Rattle.resp_tap.specs.JsonLines.{member_json, shown_part}
use Rattle.resp_tap.proofs.json_line.write_member.Goals as goal

some_member : (front text : List ℕ) → 0 < length text → front ++ text_json (shown_part text) ≡ member_json front text
some_member front [] some = absurd (omega arith)
some_member front (byte ∷ text) some = refl

pub returns-in_err-write_text : goal.returns-in_err-write_text
returns-in_err-write_text g c =
    let some : 0 < length c.args.text.now = search rules in
    let r = c.from_residual.result in
    subst (WritesText _ _ _ _ r) (some_member c.args.front.now c.args.text.now some)
    (writes_part _ _ _ _ _ _ _ c.from_residual.ensures.0 c.in_err-write_text.ensures)

pub returns : goal.returns
returns g c =
    let some : 0 < length c.args.text.now = search rules in
    let r = c.write_part.result in
    subst (WritesText _ _ _ _ r) (some_member c.args.front.now c.args.text.now some)
    (writes_next _ _ _ _ _ _ _ _ _ c.in_ok-write_text.ensures c.write_part.ensures)
