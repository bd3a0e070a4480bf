-- The base64 of bytes, part after part.
use Rattle.std.proofs.Common.{◌≡◌, ℕ, ◌%◌, List, ◌++◌, length, ap, ◌∙◌}
use Rattle.base64.proofs.EngineFacts.{encode_of-append}
use Rattle.base64.specs.Engines.{standard}
use Rattle.base64.specs.GeneralPurpose.{encode_of}
use Rattle.resp_json.proofs.Escaped.{escaped-append}
use Rattle.resp_json.specs.Json.{escaped}

-- the base64 of bytes whose first part has a length that is a multiple of 3
pub base64_parts : (rest part beyond : List ℕ) → rest ≡ part ++ beyond → length part ≡ 768 →
    escaped (encode_of standard rest) ≡ escaped (encode_of standard part) ++ escaped (encode_of standard beyond)
base64_parts rest part beyond e is =
    let whole : length part % 3 ≡ 0 = ap (λ n. n % 3) is in
    ap (λ z. escaped (encode_of standard z)) e ∙ ap escaped (encode_of-append standard part beyond whole) ∙
    escaped-append (encode_of standard part) (encode_of standard beyond)
