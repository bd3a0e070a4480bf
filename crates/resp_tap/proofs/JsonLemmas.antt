-- The line of JSON of a value is told by its kept part.
use Rattle.std.proofs.Common.{◌≡◌, ◌∙◌, ℕ, suc, ◌≤◌, ◌<◌, ◌++◌, Bool, true, false, List, [], ◌∷◌, length, take, min, refl, sym, ap, arith, codes}
use Rattle.std.specs.Prelude.{Some, if◌then◌else◌, nat_le}
use Rattle.std.proofs.lemmas.Bool.{leb-true, leb-false}
use Rattle.std.proofs.lemmas.List.{get_or-take, length-take, take_all, take-take}
use Rattle.resp_value.specs.Cuts.{cut, cut_scalar}
use Rattle.resp_value.specs.declared.cut_value.CutValue.{CutValue}
use Rattle.resp_json.specs.Json.{text_json}
use Rattle.resp_value.specs.Attributes.{without_attributes}
use Rattle.resp_value.specs.Data.{Datum, Scalar}
use Rattle.resp_value.specs.Values.{datum_of}
use Rattle.resp_tap.specs.JsonLines.{answer_json, continues, continues_at, end_json, error_text, front_json, known_json, last_end, member_json, number_json, plain_error, plain_word, reply_json, scalar_word, shown_part, type_word, unpaired_json}
use Rattle.resp_tap.specs.Parts.{IsKeptOf}
use Rattle.resp_tap.specs.declared.json_line.Facts.{Facts}
use Rattle.resp_tap.proofs.KeptLemmas.{plain_kept}

-- ---- the shown part of a text

continues_kept : (text : List ℕ) (i : ℕ) → i < 1025 → continues_at (take 1025 text) i ≡ continues_at text i
continues_kept text i near = ap continues (get_or-take 1025 text i 0 near)

abbrev end_by : Bool → Bool → Bool → ℕ
end_by a b c = if a then (if b then (if c then 1021 else 1022) else 1023) else 1024

end_near : (a b c : Bool) → end_by a b c ≤ 1025
end_near a b c = grind arith

last_kept : (text : List ℕ) → last_end (take 1025 text) ≡ last_end text
last_kept text = λ i. end_by (continues_kept text 1024 (omega arith) i) (continues_kept text 1023 (omega arith) i) (continues_kept text 1022 (omega arith) i)

shown_kept : (text : List ℕ) → shown_part (take 1025 text) ≡ shown_part text
shown_kept text = case (nat_le (length text) 1024) refl
  where
    case : (b : Bool) → nat_le (length text) 1024 ≡ b → shown_part (take 1025 text) ≡ shown_part text
    case true is =
        let few : length text ≤ 1024 = leb-true (length text) 1024 is in
        ap shown_part (take_all 1025 text (omega (arith, few)))
    case false is =
        let many : 1024 < length text = leb-false (length text) 1024 is in
        let size : length (take 1025 text) ≡ min 1025 (length text) = length-take 1025 text in
        let over : nat_le (length (take 1025 text)) 1024 ≡ false = grind (arith, many, size) in
        ap (λ b. if b then take 1025 text else take (last_end (take 1025 text)) (take 1025 text)) over ∙
        ap (λ k. take k (take 1025 text)) (last_kept text) ∙
        take-take (last_end text) 1025 text (end_near (continues_at text 1024) (continues_at text 1023) (continues_at text 1022)) ∙
        sym (ap (λ b. if b then text else take (last_end text) text) is)

member_kept : (front text : List ℕ) → member_json front (take 1025 text) ≡ member_json front text
member_kept front [] = refl
member_kept front (byte ∷ text) = ap (λ t. front ++ text_json t) (shown_kept (byte ∷ text))

-- ---- values

scalar_word_kept : (n : ℕ) (s : Scalar) → scalar_word (cut_scalar n s) ≡ scalar_word s
scalar_word_kept n s = grind arith

plain_word_kept : (n : ℕ) (x : Datum) → plain_word (cut n x) ≡ plain_word x
plain_word_kept n x = grind arith

type_kept : (n : ℕ) (x : Datum) → type_word (cut n x) ≡ type_word x
type_kept n x = ap plain_word (plain_kept n x) ∙ plain_word_kept n (without_attributes x)

plain_error_kept : (n : ℕ) (x : Datum) → plain_error (cut n x) ≡ take (suc n) (plain_error x)
plain_error_kept n x = grind arith

error_kept : (x : Datum) → error_text (cut 1024 x) ≡ take 1025 (error_text x)
error_kept x = ap plain_error (plain_kept 1024 x) ∙ plain_error_kept 1024 (without_attributes x)

answer_kept : (facts : Facts) (x : Datum) → answer_json facts (cut 1024 x) ≡ answer_json facts x
answer_kept facts x = λ i. codes ",\"type\":\"" ++ (type_kept 1024 x i ++ (number_json (codes "\",\"size\":") facts.size ++
    ((ap (member_json (codes ",\"error\":")) (error_kept x) ∙ member_kept (codes ",\"error\":") (error_text x)) i ++ end_json facts.utc)))

answer_as : (facts : Facts) (whole : Datum) (kept : CutValue) → IsKeptOf (Some 1024) whole kept → answer_json facts (datum_of kept.value) ≡ answer_json facts whole
answer_as facts whole kept is = ap (answer_json facts) is.value ∙ answer_kept facts whole

pub reply_as : (facts : Facts) (number : ℕ) (name : List ℕ) (whole : Datum) (kept : CutValue) → IsKeptOf (Some 1024) whole kept →
    reply_json facts number name (datum_of kept.value) ≡ reply_json facts number name whole
reply_as facts number name whole kept is =
    ap (λ a. front_json facts.client (codes ",\"kind\":\"reply\"") (number_json (codes ",\"number\":") number ++ member_json (codes ",\"command\":") name) ++
    (known_json (codes ",\"micros\":") facts.waited ++ a)) (answer_as facts whole kept is)

pub unpaired_as : (facts : Facts) (whole : Datum) (kept : CutValue) → IsKeptOf (Some 1024) whole kept →
    unpaired_json facts (datum_of kept.value) ≡ unpaired_json facts whole
unpaired_as facts whole kept is = ap (front_json facts.client (codes ",\"kind\":\"value\"")) (answer_as facts whole kept is)
