-- The lines of JSON that are printed in place of text.
use Rattle.std.specs.Prelude.{ℕ, Bool, List, [], ◌∷◌, ◌++◌, length, take, nat_le, ◌&&◌, Option, None, Some, option_map, if◌then◌else◌, codes, decimal, slice_index_or}
use Rattle.resp_json.specs.Json.{text_json}
use Rattle.resp_value.specs.Attributes.{without_attributes}
use Rattle.resp_value.specs.Causes.{name_of}
use Rattle.resp_value.specs.Data.{Array, Set, Map, Attr, Push, Scalar, Null, Int, Simple, Error, Double, Bulk, BulkError, Verbatim, Big, Datum, scalar, aggregate}
use Rattle.resp_value.specs.Data as d
use Rattle.resp_tap.specs.Called.{command_name}
use Rattle.resp_tap.specs.Digits.{utc_text}
use Rattle.resp_tap.specs.SeenOf.{words_in}
use Rattle.resp_tap.specs.declared.end.Cut.{Cut}
use Rattle.resp_tap.specs.declared.json_line.Facts.{Facts}
use Rattle.resp_tap.specs.declared.seen.Place.{Place}
use Rattle.resp_tap.specs.declared.seen.Place.TheVariants as place
use Rattle.resp_tap.specs.declared.seen.Seen.{Seen}
use Rattle.resp_tap.specs.declared.seen.Seen.TheVariants as seen
use Rattle.resp_tap.specs.declared.watch.Side.{Side}
use Rattle.resp_tap.specs.declared.watch.Side.TheVariants.{Client, Server}

-- ---- texts

-- whether a byte goes on with a character of UTF-8
abbrev pub continues : ℕ → Bool
continues byte = nat_le 128 byte && nat_le byte 191

-- whether the byte at this index goes on with a character
abbrev pub continues_at : List ℕ → ℕ → Bool
continues_at text index = continues (slice_index_or text index 0)

-- the end of the last character of a text that ends within the first 1,024 bytes
abbrev pub last_end : List ℕ → ℕ
last_end text = if continues_at text 1024 then (if continues_at text 1023 then (if continues_at text 1022 then 1021 else 1022)
    else 1023) else 1024

-- the first 1,024 bytes of a text, without a part of a character
abbrev pub shown_part : List ℕ → List ℕ
shown_part text = if nat_le (length text) 1024 then text else take (last_end text) text

-- a member of an object with this text, after these bytes; or nothing, if the text is empty
abbrev pub member_json : List ℕ → List ℕ → List ℕ
member_json front [] = []
member_json front (byte ∷ text) = front ++ text_json (shown_part (byte ∷ text))

-- a member with this number, after these bytes
abbrev pub number_json : List ℕ → ℕ → List ℕ
number_json front number = front ++ decimal number

-- such a member, if the number is known
abbrev pub known_json : List ℕ → Option ℕ → List ℕ
known_json front None = []
known_json front (Some number) = number_json front number

-- ---- parts of lines

-- the client, the kind of the line, and the rest
abbrev pub front_json : ℕ → List ℕ → List ℕ → List ℕ
front_json client kind rest = number_json (codes "{\"client\":") client ++ (kind ++ rest)

-- the date and the time of day, and the end of a line
abbrev pub end_json : ℕ → List ℕ
end_json utc = codes ",\"time\":\"" ++ (utc_text utc ++ codes "\"}\n")

-- ---- values

-- the word for the type of a value without members
abbrev pub scalar_word : Scalar → List ℕ
scalar_word Null = codes "null"
scalar_word (d.Bool b) = codes "boolean"
scalar_word (Int i) = codes "integer"
scalar_word (Simple text) = codes "simple"
scalar_word (Error text) = codes "error"
scalar_word (Double text) = codes "double"
scalar_word (Bulk text) = codes "bulk"
scalar_word (BulkError text) = codes "bulk_error"
scalar_word (Verbatim format text) = codes "verbatim"
scalar_word (Big negative digits) = codes "big"

-- the word for the type of a value that is annotated by no attribute
abbrev pub plain_word : Datum → List ℕ
plain_word (scalar s) = scalar_word s
plain_word (aggregate Array xs) = codes "array"
plain_word (aggregate Set xs) = codes "set"
plain_word (aggregate Push xs) = codes "push"
plain_word (aggregate Map xs) = codes "map"
plain_word (aggregate Attr xs) = []

-- the word for the type of a value, without its attributes
abbrev pub type_word : Datum → List ℕ
type_word x = plain_word (without_attributes x)

abbrev pub plain_error : Datum → List ℕ
plain_error (scalar (Error text)) = text
plain_error (scalar (BulkError text)) = text
plain_error _ = []

-- the text of a value that is an error, with attributes or without
abbrev pub error_text : Datum → List ℕ
error_text x = plain_error (without_attributes x)

-- the type and the bytes of a value, and the end of its line
abbrev pub value_json : List ℕ → List ℕ → ℕ → ℕ → List ℕ
value_json word error size utc =
    codes ",\"type\":\"" ++ (word ++ (number_json (codes "\",\"size\":") size ++ (member_json (codes ",\"error\":") error ++ end_json utc)))

-- the type and the bytes of a value, its text if it is an error, and the end of its line
abbrev pub answer_json : Facts → Datum → List ℕ
answer_json facts x = value_json (type_word x) (error_text x) facts.size facts.utc

-- ---- lines of results

-- the line of a command with this number, this name and so many words
abbrev pub command_json : Facts → ℕ → List ℕ → ℕ → List ℕ
command_json facts number name words = front_json facts.client (codes ",\"kind\":\"command\"")
    (number_json (codes ",\"number\":") number ++ (member_json (codes ",\"command\":") name ++
    ((if facts.is_line then codes ",\"inline\":true" else []) ++ (number_json (codes ",\"words\":") words ++
    (number_json (codes ",\"size\":") facts.size ++ end_json facts.utc)))))

-- the line of the reply to the command with this number and this name
abbrev pub reply_json : Facts → ℕ → List ℕ → Datum → List ℕ
reply_json facts number name x = front_json facts.client (codes ",\"kind\":\"reply\"")
    (number_json (codes ",\"number\":") number ++ member_json (codes ",\"command\":") name) ++
    (known_json (codes ",\"micros\":") facts.waited ++ answer_json facts x)

-- the line of a push
abbrev pub push_json : Facts → List ℕ
push_json facts = front_json facts.client (codes ",\"kind\":\"push\"") (value_json (codes "push") [] facts.size facts.utc)

-- the line of a value that is paired with no command
abbrev pub unpaired_json : Facts → Datum → List ℕ
unpaired_json facts x = front_json facts.client (codes ",\"kind\":\"value\"") (answer_json facts x)

-- the command, reply or value that is incomplete or wrong
abbrev pub place_json : Place → List ℕ
place_json (place.Command number) = number_json (codes ",\"in\":\"command\",\"number\":") number
place_json (place.Reply number) = number_json (codes ",\"in\":\"reply\",\"number\":") number
place_json place.Value = codes ",\"in\":\"value\""

-- the line of an error in the bytes of a side
abbrev pub refused_json : Facts → List ℕ → ℕ → Place → List ℕ
refused_json facts name at where' = front_json facts.client (codes ",\"kind\":\"refused\",\"cause\":\"")
    (name ++ (number_json (codes "\",\"at\":") at ++ (place_json where' ++ end_json facts.utc)))

-- The line of a result; that of a result of the server is the line of this whole value. The name is that of the command
-- that is answered.
abbrev pub seen_json : Facts → List ℕ → Datum → Seen → List ℕ
seen_json facts name whole seen.Nothing = []
seen_json facts name whole seen.Passed = []
seen_json facts name whole (seen.Command number words lengths) =
    command_json facts number (command_name (words_in whole)) (length (words_in whole))
seen_json facts name whole (seen.Reply number kept) = reply_json facts number name whole
seen_json facts name whole (seen.Push members lengths) = push_json facts
seen_json facts name whole (seen.Value kept) = unpaired_json facts whole
seen_json facts name whole (seen.NotCommand number) = refused_json facts (codes "NotCommand") 0 (place.Command number)
seen_json facts name whole (seen.Refused cause at where') = refused_json facts (name_of cause) at where'

-- ---- lines about connections

-- the line about a connection with this text, which may be empty
abbrev pub remark_json : ℕ → List ℕ → List ℕ → List ℕ → ℕ → List ℕ
remark_json client kind member text utc = front_json client kind (member_json member text ++ end_json utc)

abbrev pub closed_kind : Side → List ℕ
closed_kind Client = codes ",\"kind\":\"closed\",\"side\":\"client\""
closed_kind Server = codes ",\"kind\":\"closed\",\"side\":\"server\""

-- the incomplete command or reply at the end of a side, if there is one
abbrev pub cut_place : Option Cut → List ℕ
cut_place None = []
cut_place (Some cut) = place_json cut.place

-- the number of its bytes
abbrev pub cut_bytes : Option Cut → Option ℕ
cut_bytes cut = option_map (λ (cut : Cut). cut.bytes) cut

-- the line about the side of a connection that has ended
abbrev pub closed_json : ℕ → List ℕ → Side → Option Cut → ℕ → List ℕ
closed_json client name side cut utc = front_json client (closed_kind side)
    (member_json (codes ",\"name\":") name ++ (cut_place cut ++
    (known_json (codes ",\"size\":") (cut_bytes cut) ++ end_json utc)))

-- ---- other lines

-- the line about the address that is listened on
abbrev pub listening_json : List ℕ → List ℕ
listening_json address = codes "{\"kind\":\"listening\",\"address\":" ++ (text_json address ++ codes "}\n")
