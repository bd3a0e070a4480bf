-- The first bytes of a value's JSON text show its kind.
use Rattle.std.proofs.Common.{◌≡◌, ◌⊎◌, inl, inr, ℕ, ◌+◌, ◌*◌, ◌≤◌, ◌==◌, ◌||◌, Bool, true, false, cond, List, ◌∷◌, ◌++◌, codes, get_or, refl, sym, ap, ◌∙◌, arith}
use Rattle.std.proofs.lemmas.Bool.{ne_eqb}
use Rattle.std.specs.Fmt.{signed_decimal}
use Rattle.std.specs.Str.{is_utf8}
use Rattle.base64.specs.Engines.{standard}
use Rattle.base64.specs.GeneralPurpose.{encode_of}
use Rattle.resp_value.specs.Canonical.{IsScalarValue, IsValue}
use Rattle.resp_value.specs.Data.{Kind, Array, Set, Map, Attr, Push, Scalar, Null, Int, Simple, Error, Double, Bulk, BulkError, Verbatim, Big, Datum, Data, scalar, aggregate}
use Rattle.resp_value.specs.Data as d
use Rattle.resp_json.specs.Json.{json_of, json_string, scalar_json, text_json}
use Rattle.resp_json.proofs.Numbers.{integer_begins}

-- the two letters of an object's member: `ba` of `base64` counts as a bulk string
abbrev member_kind : ℕ → ℕ
member_kind letters = cond (letters == 25185) 4 letters

-- the kind of a value by the first byte of its JSON text, and for an object by two letters of its first member
abbrev kind_by : ℕ → ℕ → ℕ
kind_by byte letters =
    cond (byte == 123) (member_kind letters)
    (cond (byte == 110) 1
    (cond (byte == 116) 2
    (cond (byte == 102) 2
    (cond (byte == 34) 4
    (cond (byte == 91) 5
    (cond (byte == 93) 6
    (cond (byte == 125) 6 3)))))))

-- the kind of the value whose JSON text comes first
abbrev pub kind_at : List ℕ → ℕ
kind_at text = kind_by (get_or text 0 0) (get_or text 2 0 * 256 + get_or text 3 0)

-- the kind of a scalar
abbrev pub scalar_kind : Scalar → ℕ
scalar_kind Null = 1
scalar_kind (d.Bool b) = 2
scalar_kind (Int i) = 3
scalar_kind (Simple text) = 29545
scalar_kind (Error text) = 25970
scalar_kind (Double text) = 25711
scalar_kind (Bulk text) = 4
scalar_kind (BulkError text) = 25205
scalar_kind (Verbatim format text) = 30309
scalar_kind (Big negative digits) = 25193

-- the kind of an aggregate
abbrev pub aggregate_kind : Kind → ℕ
aggregate_kind Array = 5
aggregate_kind Set = 29541
aggregate_kind Map = 28001
aggregate_kind Attr = 24948
aggregate_kind Push = 28789

abbrev pub kind_of : Datum → ℕ
kind_of (scalar s) = scalar_kind s
kind_of (aggregate k xs) = aggregate_kind k

-- a digit or a minus begins an integer
integer_at : (text : List ℕ) → (45 ≤ get_or text 0 0) × (get_or text 0 0 ≤ 57) → kind_at text ≡ 3
integer_at text h =
    let a = get_or text 0 0 in
    let a0 : (a == 123) ≡ false = ne_eqb a 123 (λ e. omega (arith, h.1)) in
    let a1 : (a == 110) ≡ false = ne_eqb a 110 (λ e. omega (arith, h.1)) in
    let a2 : (a == 116) ≡ false = ne_eqb a 116 (λ e. omega (arith, h.1)) in
    let a3 : (a == 102) ≡ false = ne_eqb a 102 (λ e. omega (arith, h.1)) in
    let a4 : (a == 34) ≡ false = ne_eqb a 34 (λ e. omega (arith, h.0)) in
    let a5 : (a == 91) ≡ false = ne_eqb a 91 (λ e. omega (arith, h.1)) in
    let a6 : (a == 93) ≡ false = ne_eqb a 93 (λ e. omega (arith, h.1)) in
    let a7 : (a == 125) ≡ false = ne_eqb a 125 (λ e. omega (arith, h.1)) in
    rw (a0, a1, a2, a3, a4, a5, a6, a7) refl

text_at : (text rest : List ℕ) (test : Bool) → is_utf8 text ≡ test → kind_at (text_json text ++ rest) ≡ 4
text_at text rest true h =
    ap (λ b. kind_at (cond b (json_string text) (codes "{\"base64\":" ++ (json_string (encode_of standard text) ++ codes "}")) ++ rest)) h
text_at text rest false h =
    ap (λ b. kind_at (cond b (json_string text) (codes "{\"base64\":" ++ (json_string (encode_of standard text) ++ codes "}")) ++ rest)) h

scalar_at : (s : Scalar) (rest : List ℕ) → IsScalarValue s → kind_at (scalar_json s ++ rest) ≡ scalar_kind s
scalar_at Null rest p = refl
scalar_at (d.Bool true) rest p = refl
scalar_at (d.Bool false) rest p = refl
scalar_at (Int i) rest p = integer_at (signed_decimal i ++ rest) (integer_begins i rest p)
scalar_at (Simple text) rest p = refl
scalar_at (Error text) rest p = refl
scalar_at (Double text) rest p = refl
scalar_at (Bulk text) rest p = text_at text rest (is_utf8 text) (λ i. is_utf8 text)
scalar_at (BulkError text) rest p = refl
scalar_at (Verbatim format text) rest p = refl
scalar_at (Big true digits) rest p = refl
scalar_at (Big false digits) rest p = refl

-- the first bytes show the kind
pub kind_is : (x : Datum) (rest : List ℕ) → IsValue x → kind_at (json_of x ++ rest) ≡ kind_of x
kind_is (scalar s) rest p = scalar_at s rest p
kind_is (aggregate Array xs) rest p = refl
kind_is (aggregate Set xs) rest p = refl
kind_is (aggregate Map xs) rest p = refl
kind_is (aggregate Attr xs) rest p = refl
kind_is (aggregate Push xs) rest p = refl

-- two values whose texts begin one text have one kind
pub same_kind : (x y : Datum) (rest rest' : List ℕ) → IsValue x → IsValue y → json_of x ++ rest ≡ json_of y ++ rest' → kind_of x ≡ kind_of y
same_kind x y rest rest' p q e = sym (kind_is x rest p) ∙ ap kind_at e ∙ kind_is y rest' q

-- whether it is the kind of an aggregate
abbrev is_aggregate : ℕ → Bool
is_aggregate kind = (kind == 5) || (kind == 29541) || (kind == 28001) || (kind == 24948) || (kind == 28789)

scalar_is_none : (s : Scalar) → is_aggregate (scalar_kind s) ≡ false
scalar_is_none Null = refl
scalar_is_none (d.Bool b) = refl
scalar_is_none (Int i) = refl
scalar_is_none (Simple text) = refl
scalar_is_none (Error text) = refl
scalar_is_none (Double text) = refl
scalar_is_none (Bulk text) = refl
scalar_is_none (BulkError text) = refl
scalar_is_none (Verbatim format text) = refl
scalar_is_none (Big negative digits) = refl

aggregate_is : (k : Kind) → is_aggregate (aggregate_kind k) ≡ true
aggregate_is Array = refl
aggregate_is Set = refl
aggregate_is Map = refl
aggregate_is Attr = refl
aggregate_is Push = refl

-- a scalar has the kind of no aggregate
pub kinds_differ : (s : Scalar) (k : Kind) → scalar_kind s ≡ aggregate_kind k → ⊥
kinds_differ s k e = let h : false ≡ true = sym (scalar_is_none s) ∙ ap is_aggregate e ∙ aggregate_is k in cc

-- whether it is the kind of a closing bracket or brace
abbrev is_close : ℕ → Bool
is_close kind = kind == 6

scalar_is_open : (s : Scalar) → is_close (scalar_kind s) ≡ false
scalar_is_open Null = refl
scalar_is_open (d.Bool b) = refl
scalar_is_open (Int i) = refl
scalar_is_open (Simple text) = refl
scalar_is_open (Error text) = refl
scalar_is_open (Double text) = refl
scalar_is_open (Bulk text) = refl
scalar_is_open (BulkError text) = refl
scalar_is_open (Verbatim format text) = refl
scalar_is_open (Big negative digits) = refl

value_is_open : (x : Datum) → is_close (kind_of x) ≡ false
value_is_open (scalar s) = scalar_is_open s
value_is_open (aggregate Array xs) = refl
value_is_open (aggregate Set xs) = refl
value_is_open (aggregate Map xs) = refl
value_is_open (aggregate Attr xs) = refl
value_is_open (aggregate Push xs) = refl

-- a closing brace or bracket comes first
abbrev pub IsStop : List ℕ → Type 0
IsStop text = (get_or text 0 0 ≡ 125) ⊎ (get_or text 0 0 ≡ 93)

-- no value begins with such a text
stop_is_close : (text : List ℕ) → IsStop text → is_close (kind_at text) ≡ true
stop_is_close text (inl h) = ap (λ byte. is_close (kind_by byte (get_or text 2 0 * 256 + get_or text 3 0))) h
stop_is_close text (inr h) = ap (λ byte. is_close (kind_by byte (get_or text 2 0 * 256 + get_or text 3 0))) h

pub value_no_stop : (x : Datum) (rest : List ℕ) → IsValue x → IsStop (json_of x ++ rest) → ⊥
value_no_stop x rest p stop =
    let h : true ≡ false = sym (stop_is_close (json_of x ++ rest) stop) ∙ ap is_close (kind_is x rest p) ∙ value_is_open x in cc

-- no value begins with a closing bracket
pub no_bracket : (x : Datum) (rest rest' : List ℕ) → IsValue x → 93 ∷ rest' ≡ json_of x ++ rest → ⊥
no_bracket x rest rest' p e = value_no_stop x rest p (inr (ap (λ z. get_or z 0 0) (sym e)))
