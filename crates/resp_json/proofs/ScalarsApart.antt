-- Values without members can be read back, whatever follows them that is no digit.
use Rattle.std.proofs.Common.{◌≡◌, ℕ, zero, suc, Bool, true, false, cond, List, [], ◌∷◌, ◌++◌, codes, drop, get_or, Ok, refl, sym, ap, ◌∙◌, append_assoc, arith}
use Rattle.std.specs.List.{AllByRecursion}
use Rattle.std.specs.Str.{is_utf8}
use Rattle.base64.proofs.EngineFacts.{decode_of-encode_of}
use Rattle.base64.specs.Engines.{standard}
use Rattle.base64.specs.GeneralPurpose.{IsBytes, decode_of, encode_of}
use Rattle.resp_value.specs.Bytes.{IsText}
use Rattle.resp_value.specs.Numbers.{IsDigit}
use Rattle.resp_value.specs.Canonical.{IsScalarValue}
use Rattle.resp_value.specs.Data.{Scalar, Null, Int, Simple, Error, Double, Bulk, BulkError, Verbatim, Big, scalar}
use Rattle.resp_value.specs.Data as d
use Rattle.resp_json.specs.Json.{json_string, scalar_json, text_json, text_object}
use Rattle.resp_json.proofs.ValueKinds.{same_kind}
use Rattle.resp_json.proofs.Numbers.{IsEnd, digits_apart, integers_apart, minus_not_digits}
use Rattle.resp_json.proofs.Strings.{strings_apart}

-- a list of bytes, as base64 names it
bytes_of_text : (text : List ℕ) → IsText text → IsBytes text
bytes_of_text [] p i = omega arith
bytes_of_text (b ∷ text) p zero = p.0
bytes_of_text (b ∷ text) p (suc i) = bytes_of_text text p.1 i

-- two texts with one base64
base64_apart : (text text' : List ℕ) → IsText text → IsText text' → encode_of standard text ≡ encode_of standard text' → text ≡ text'
base64_apart text text' p q e =
    let both : Ok text ≡ Ok text' = sym (decode_of-encode_of standard text refl (bytes_of_text text p)) ∙ ap (decode_of standard) e ∙
    decode_of-encode_of standard text' refl (bytes_of_text text' q) in cc

-- the object with the base64 of a text
abbrev base64_object : List ℕ → List ℕ
base64_object text = codes "{\"base64\":" ++ (json_string (encode_of standard text) ++ codes "}")

texts_by : (text text' rest rest' : List ℕ) (test test' : Bool) → IsText text → IsText text' →
    cond test (json_string text) (base64_object text) ++ rest ≡ cond test' (json_string text') (base64_object text') ++ rest' →
    (text ≡ text') × (rest ≡ rest')
texts_by text text' rest rest' true true p q e = strings_apart text text' rest rest' e
texts_by text text' rest rest' true false p q e = absurd (omega (arith, ap (λ z. get_or z 0 0) e))
texts_by text text' rest rest' false true p q e = absurd (omega (arith, ap (λ z. get_or z 0 0) e))
texts_by text text' rest rest' false false p q e =
    let one = encode_of standard text in
    let other = encode_of standard text' in
    let h = strings_apart one other (codes "}" ++ rest) (codes "}" ++ rest')
    (sym (append_assoc (json_string one) (codes "}") rest) ∙ ap (drop 10) e ∙ append_assoc (json_string other) (codes "}") rest') in
    (base64_apart text text' p q h.0, ap (drop 1) h.1)

-- two texts
texts_apart : (text text' rest rest' : List ℕ) → IsText text → IsText text' → text_json text ++ rest ≡ text_json text' ++ rest' →
    (text ≡ text') × (rest ≡ rest')
texts_apart text text' rest rest' p q e = texts_by text text' rest rest' (is_utf8 text) (is_utf8 text') p q e

-- two texts, each at the end of an object
objects_apart : (text text' rest rest' : List ℕ) → IsText text → IsText text' →
    (text_json text ++ codes "}") ++ rest ≡ (text_json text' ++ codes "}") ++ rest' → (text ≡ text') × (rest ≡ rest')
objects_apart text text' rest rest' p q e =
    let h = texts_apart text text' (codes "}" ++ rest) (codes "}" ++ rest') p q
    (sym (append_assoc (text_json text) (codes "}") rest) ∙ e ∙ append_assoc (text_json text') (codes "}") rest') in
    (h.0, ap (drop 1) h.1)

-- the digits of two big numbers
big_apart : (digits digits' rest rest' : List ℕ) → AllByRecursion IsDigit digits → AllByRecursion IsDigit digits' →
    (digits ++ codes "\"}") ++ rest ≡ (digits' ++ codes "\"}") ++ rest' → (digits ≡ digits') × (rest ≡ rest')
big_apart digits digits' rest rest' p q e =
    let h = digits_apart digits digits' (codes "\"}" ++ rest) (codes "\"}" ++ rest') p q (λ low high. omega arith) (λ low high. omega arith)
    (sym (append_assoc digits (codes "\"}") rest) ∙ e ∙ append_assoc digits' (codes "\"}") rest') in
    (h.0, ap (drop 2) h.1)

-- two values without members
pub scalars_apart : (s s' : Scalar) (rest rest' : List ℕ) → IsScalarValue s → IsScalarValue s' → IsEnd rest → IsEnd rest' →
    scalar_json s ++ rest ≡ scalar_json s' ++ rest' → (s ≡ s') × (rest ≡ rest')
scalars_apart Null Null rest rest' p q f g e = (refl, ap (drop 4) e)
scalars_apart (d.Bool true) (d.Bool true) rest rest' p q f g e = (refl, ap (drop 4) e)
scalars_apart (d.Bool false) (d.Bool false) rest rest' p q f g e = (refl, ap (drop 5) e)
scalars_apart (d.Bool true) (d.Bool false) rest rest' p q f g e = absurd (omega (arith, ap (λ z. get_or z 0 0) e))
scalars_apart (d.Bool false) (d.Bool true) rest rest' p q f g e = absurd (omega (arith, ap (λ z. get_or z 0 0) e))
scalars_apart (Int i) (Int j) rest rest' p q f g e = let h = integers_apart i j rest rest' p q f g e in (ap Int h.0, h.1)
scalars_apart (Simple t) (Simple u) rest rest' p q f g e = let h = objects_apart t u rest rest' p.1 q.1 (ap (drop 10) e) in (ap Simple h.0, h.1)
scalars_apart (Error t) (Error u) rest rest' p q f g e = let h = objects_apart t u rest rest' p.1 q.1 (ap (drop 9) e) in (ap Error h.0, h.1)
scalars_apart (Double t) (Double u) rest rest' p q f g e = let h = objects_apart t u rest rest' p.1 q.1 (ap (drop 10) e) in (ap Double h.0, h.1)
scalars_apart (Bulk t) (Bulk u) rest rest' p q f g e = let h = texts_apart t u rest rest' p q e in (ap Bulk h.0, h.1)
scalars_apart (BulkError t) (BulkError u) rest rest' p q f g e = let h = objects_apart t u rest rest' p q (ap (drop 14) e) in (ap BulkError h.0, h.1)
scalars_apart (Verbatim a t) (Verbatim b u) rest rest' p q f g e =
    let one = text_object (codes ",\"format\":") a in
    let other = text_object (codes ",\"format\":") b in
    let h = texts_apart t u (one ++ rest) (other ++ rest') p.2 q.2
    (sym (append_assoc (text_json t) one rest) ∙ ap (drop 12) e ∙ append_assoc (text_json u) other rest') in
    let k = objects_apart a b rest rest' p.1 q.1 (ap (drop 10) h.1) in
    ((λ i. Verbatim (k.0 i) (h.0 i)), k.1)
scalars_apart (Big true ds) (Big true es) rest rest' p q f g e = let h = big_apart ds es rest rest' p.0.1 q.0.1 (ap (drop 9) e) in (ap (Big true) h.0, h.1)
scalars_apart (Big false ds) (Big false es) rest rest' p q f g e = let h = big_apart ds es rest rest' p.0.1 q.0.1 (ap (drop 8) e) in (ap (Big false) h.0, h.1)
scalars_apart (Big true ds) (Big false es) rest rest' p q f g e =
    absurd (minus_not_digits es (codes "\"}" ++ rest') _ q.0.0 q.0.1 (ap (drop 8) e ∙ append_assoc es (codes "\"}") rest'))
scalars_apart (Big false ds) (Big true es) rest rest' p q f g e =
    absurd (minus_not_digits ds (codes "\"}" ++ rest) _ p.0.0 p.0.1 (sym (ap (drop 8) e) ∙ append_assoc ds (codes "\"}") rest))
scalars_apart s s' rest rest' p q f g e = let h = same_kind (scalar s) (scalar s') rest rest' p q e in absurd (omega (arith, h))
