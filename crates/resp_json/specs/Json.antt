-- The JSON text of a value, without spaces and without an LF.
use Rattle.std.specs.Prelude.{ℕ, ◌/◌, ◌%◌, Bool, true, false, ◌==◌, ◌&&◌, nat_le, cond, List, [], ◌∷◌, ◌++◌, length, map, codes}
use Rattle.std.specs.Fmt.{signed_decimal}
use Rattle.std.specs.List.{flat_map, list_all}
use Rattle.std.specs.Set.{distinct_count}
use Rattle.std.specs.Str.{bytes_eq, is_utf8}
use Rattle.base64.specs.Engines.{standard}
use Rattle.base64.specs.GeneralPurpose.{encode_of}
use Rattle.resp_value.specs.Data.{Array, Set, Map, Attr, Push, Scalar, Null, Int, Simple, Error, Double, Bulk, BulkError, Verbatim, Big, Datum, Data, scalar, aggregate, none, more}
use Rattle.resp_value.specs.Data as d
use Rattle.resp_print.specs.Shown.{hex_digit}

-- a byte that stands for itself inside a JSON string
abbrev pub is_plain : ℕ → Bool
is_plain byte = nat_le 32 byte && cond (byte == 34) false (cond (byte == 92) false true)

-- the escape of any other byte: a quote, a backslash, LF, CR, a tab, or a control character with its number
abbrev pub escape_of : ℕ → List ℕ
escape_of byte =
    cond (byte == 34) (codes "\\\"")
    (cond (byte == 92) (codes "\\\\")
    (cond (byte == 10) (codes "\\n")
    (cond (byte == 13) (codes "\\r")
    (cond (byte == 9) (codes "\\t")
    (codes "\\u00" ++ hex_digit (byte / 16) ∷ hex_digit (byte % 16) ∷ [])))))

-- a byte inside a JSON string
abbrev pub string_byte : ℕ → List ℕ
string_byte byte = cond (is_plain byte) (byte ∷ []) (escape_of byte)

-- a text inside the quotes of a JSON string
abbrev pub escaped : List ℕ → List ℕ
escaped text = flat_map string_byte text

-- a JSON string
abbrev pub json_string : List ℕ → List ℕ
json_string text = codes "\"" ++ (escaped text ++ codes "\"")

-- a text: a JSON string if it is UTF-8, and otherwise an object with its base64
abbrev pub text_json : List ℕ → List ℕ
text_json text = cond (is_utf8 text) (json_string text)
    (codes "{\"base64\":" ++ (json_string (encode_of standard text) ++ codes "}"))

-- an object with one text
abbrev pub text_object : List ℕ → List ℕ → List ℕ
text_object front text = front ++ (text_json text ++ codes "}")

abbrev pub truth_json : Bool → List ℕ
truth_json true = codes "true"
truth_json false = codes "false"

-- the text before the digits of a big number
abbrev pub big_front : Bool → List ℕ
big_front true = codes "{\"big\":\"-"
big_front false = codes "{\"big\":\""

-- the JSON text of a value without members
abbrev pub scalar_json : Scalar → List ℕ
scalar_json Null = codes "null"
scalar_json (d.Bool b) = truth_json b
scalar_json (Int i) = signed_decimal i
scalar_json (Simple text) = text_object (codes "{\"simple\":") text
scalar_json (Error text) = text_object (codes "{\"error\":") text
scalar_json (Double text) = text_object (codes "{\"double\":") text
scalar_json (Bulk text) = text_json text
scalar_json (BulkError text) = text_object (codes "{\"bulk_error\":") text
scalar_json (Verbatim format text) = codes "{\"verbatim\":" ++ (text_json text ++ text_object (codes ",\"format\":") format)
scalar_json (Big negative digits) = big_front negative ++ (digits ++ codes "\"}")

-- the keys among keys and values in turn: what an attribute annotates comes last, and is no key
abbrev pub keys : Data → List Datum
keys none = []
keys (more x none) = []
keys (more k (more x xs)) = k ∷ keys xs

-- a bulk string that is UTF-8
abbrev pub is_name : Datum → Bool
is_name (scalar (Bulk text)) = is_utf8 text
is_name _ = false

-- the bytes of a bulk string
abbrev pub name_text : Datum → List ℕ
name_text (scalar (Bulk text)) = text
name_text _ = []

-- each key is a bulk string that is UTF-8, and no two are equal
abbrev pub are_names : List Datum → Bool
are_names ks = list_all is_name ks && (distinct_count bytes_eq (map name_text ks) == length ks)

-- pairs are an object if there are at most 512 and their keys are names, and otherwise an array
abbrev pub is_object : Data → Bool
is_object xs = nat_le (length (keys xs)) 512 && are_names (keys xs)

-- the brackets around pairs: of an object, or of an array
abbrev pub open_bracket : Bool → List ℕ
open_bracket true = codes "{"
open_bracket false = codes "["

abbrev pub close_bracket : Bool → List ℕ
close_bracket true = codes "}"
close_bracket false = codes "]"

-- pairs in their brackets
abbrev pub in_brackets : Bool → List ℕ → List ℕ
in_brackets named pairs = open_bracket named ++ (pairs ++ close_bracket named)

-- a key and its value, after what separates it from the pair before: a member of an object, or an array
abbrev pub pair_json : Bool → List ℕ → List ℕ → List ℕ → List ℕ
pair_json true separator key value = separator ++ (key ++ (codes ":" ++ value))
pair_json false separator key value = separator ++ (codes "[" ++ (key ++ (codes "," ++ (value ++ codes "]"))))

-- the JSON text of a value
abbrev mutual
  pub json_of : Datum → List ℕ
  json_of (scalar s) = scalar_json s
  json_of (aggregate Array xs) = codes "[" ++ (members_json [] xs ++ codes "]")
  json_of (aggregate Set xs) = codes "{\"set\":[" ++ (members_json [] xs ++ codes "]}")
  json_of (aggregate Push xs) = codes "{\"push\":[" ++ (members_json [] xs ++ codes "]}")
  json_of (aggregate Map xs) = codes "{\"map\":" ++ (in_brackets (is_object xs) (pairs_json (is_object xs) [] xs) ++ codes "}")
  json_of (aggregate Attr xs) =
      codes "{\"attribute\":" ++ (open_bracket (is_object xs) ++ (pairs_json (is_object xs) [] xs ++ codes "}"))

  -- members, separated by commas; the first comes after this separator
  pub members_json : List ℕ → Data → List ℕ
  members_json separator none = []
  members_json separator (more x xs) = separator ++ (json_of x ++ members_json (codes ",") xs)

  -- keys and values in turn as pairs, and the value that an attribute annotates, which comes last
  pub pairs_json : Bool → List ℕ → Data → List ℕ
  pairs_json named separator none = []
  pairs_json named separator (more x none) = close_bracket named ++ (codes ",\"of\":" ++ json_of x)
  pairs_json named separator (more k (more x xs)) =
      pair_json named separator (json_of k) (json_of x) ++ pairs_json named (codes ",") xs

-- the line of a value
abbrev pub json_line : Datum → List ℕ
json_line x = json_of x ++ codes "\n"
