use Rattle.std.proofs.Common.{◌≡◌, ◌++◌, ℕ, List, codes, ap, subst, sym, append_assoc}
use Rattle.base64.specs.Engines.{standard}
use Rattle.base64.specs.GeneralPurpose.{encode_of}
use Rattle.resp_json.specs.Json.{escaped}
use Rattle.resp_print.specs.Written.{WritesText}
use Rattle.resp_print.proofs.WrittenLemmas.{writes_next, writes_part}
use Rattle.resp_json.proofs.text.write_base64_object.Goals as goal

-- the text of the object, part after part
object_parts : (inner : List ℕ) → codes "{\"base64\":\"" ++ (inner ++ codes "\"}") ≡ codes "{\"base64\":" ++ ((codes "\"" ++ (inner ++ codes "\"")) ++ codes "}")
object_parts inner = ap (λ z. codes "{\"base64\":\"" ++ z) (sym (append_assoc inner (codes "\"") (codes "}")))

pub returns-in_err-write_text : goal.returns-in_err-write_text
returns-in_err-write_text g c =
    let inner = escaped (encode_of standard c.args.text.now) in
    subst (WritesText _ _ _ _ c.from_residual.result) (object_parts inner)
    (writes_part c.from_residual.result _ _ _ _ (codes "{\"base64\":\"") (inner ++ codes "\"}") c.from_residual.ensures.0 c.in_err-write_text.ensures)

pub returns-in_err-write_base64 : goal.returns-in_err-write_base64
returns-in_err-write_base64 g c =
    let inner = escaped (encode_of standard c.args.text.now) in
    let r = c.from_residual-in_err-write_base64.result in
    subst (WritesText _ _ _ _ r) (object_parts inner)
    (writes_next r _ _ _ _ _ _ (codes "{\"base64\":\"") (inner ++ codes "\"}") c.in_ok-write_text.ensures
    (writes_part r _ _ _ _ inner (codes "\"}") c.from_residual-in_err-write_base64.ensures.0 c.in_err-write_base64.ensures))

pub returns : goal.returns
returns g c =
    let inner = escaped (encode_of standard c.args.text.now) in
    let r = c.write_text-2.result in
    subst (WritesText _ _ _ _ r) (object_parts inner)
    (writes_next r _ _ _ _ _ _ (codes "{\"base64\":\"") (inner ++ codes "\"}") c.in_ok-write_text.ensures
    (writes_next r _ _ _ _ _ _ inner (codes "\"}") c.in_ok-write_base64.ensures c.write_text-2.ensures))
