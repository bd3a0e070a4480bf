-- The lines that are printed.
use Rattle.std.specs.Prelude.{◌≡◌, ℕ, ◌+◌, Bool, List, [], ◌++◌, Option, codes, decimal, length, if◌then◌else◌}
use Rattle.std.specs.List.{flat_map}
use Rattle.resp_value.specs.Causes.{name_of}
use Rattle.resp_value.specs.Data.{Datum, depth}
use Rattle.resp_value.specs.Values.{datum_of}
use Rattle.resp_value.specs.declared.value.Value.TheVariants as value
use Rattle.resp_print.specs.Shown.{is_cut, lines_within, quoted_text, shown_part}
use Rattle.resp_tap.specs.Secrets.{printed_words}
use Rattle.resp_tap.specs.SeenOf.{words_in}
use Rattle.resp_tap.specs.Stamps.{ending_text}
use Rattle.resp_tap.specs.declared.print.TextOptions.{TextOptions}
use Rattle.resp_tap.specs.declared.seen.Place.{Place}
use Rattle.resp_tap.specs.declared.seen.Place.TheVariants as place
use Rattle.resp_tap.specs.declared.seen.Seen.{Seen}
use Rattle.resp_tap.specs.declared.seen.Seen.TheVariants.{Command, Reply, Push, Value, NotCommand, Refused}
use Rattle.resp_tap.specs.declared.stamp.Stamp.{Stamp}

-- the quote after a word of so many bytes, and two dots and the number if not all of them are printed
abbrev pub word_end : Option ℕ → ℕ → List ℕ
word_end most count = if is_cut most count then codes "\" .. " ++ decimal count else codes "\""

-- the part of a word that is printed, in quotes, after a space
abbrev pub word_text : Option ℕ → List ℕ → List ℕ
word_text most word = codes " \"" ++ (quoted_text (shown_part most word) ++ word_end most (length word))

-- a word of so many bytes is printed as this word
abbrev pub IsPrintedAs : Option ℕ → List ℕ → List ℕ → ℕ → Type 0
IsPrintedAs most whole word count = (shown_part most word ≡ shown_part most whole) × (count ≡ length whole)

-- words in quotes, each after a space
abbrev pub words_text : Option ℕ → List (List ℕ) → List ℕ
words_text most words = flat_map (word_text most) words

-- the line of a command's words, two spaces deeper
abbrev pub words_line : Option ℕ → List (List ℕ) → List ℕ
words_line most words = codes " " ++ (words_text most words ++ codes "\n")

-- a line about a client: these bytes after its number, and the rest
abbrev pub about_client : ℕ → List ℕ → List ℕ → List ℕ
about_client client what rest = (codes "client " ++ decimal client) ++ (what ++ rest)

-- a line of a client with a number, and these words after it
abbrev pub numbered_line : ℕ → List ℕ → ℕ → List ℕ → Option Stamp → List ℕ
numbered_line client what number words stamp = about_client client what (decimal number ++ (words ++ ending_text stamp))

-- a line of a client without a number
abbrev pub client_line : ℕ → List ℕ → Option Stamp → List ℕ
client_line client what stamp = about_client client what (ending_text stamp)

-- a line of a client with these bytes after its number, and a text
abbrev pub remark_text : ℕ → List ℕ → List ℕ → Option Stamp → List ℕ
remark_text client front text stamp = about_client client front (text ++ ending_text stamp)

-- the words about a command that came as a line, and no words about one that came as an array
abbrev pub line_words : Bool → List ℕ
line_words is_line = if is_line then codes " inline" else codes ""

-- the first line of a command, which came as a line or as an array
abbrev pub heading : Bool → ℕ → ℕ → Option Stamp → List ℕ
heading is_line client number stamp = numbered_line client (codes " command ") number (line_words is_line) stamp

-- the lines of a command of a client, which came as a line or as an array
abbrev pub command_text : TextOptions → ℕ → Bool → Option Stamp → List (List ℕ) → List ℕ
command_text p number is_line stamp words =
    heading is_line p.client number stamp ++ words_line p.shown.most (printed_words p.shows_passwords words)

-- the lines of the reply to it
abbrev pub reply_text : TextOptions → ℕ → Option Stamp → Datum → List ℕ
reply_text p number stamp x =
    numbered_line p.client (codes " reply ") number (codes "") stamp ++ lines_within p.shown.most 1 x

-- the lines of a push to a client
abbrev pub push_text : TextOptions → Option Stamp → Datum → List ℕ
push_text p stamp x = client_line p.client (codes " push") stamp ++ lines_within p.shown.most 1 x

-- the lines of a value to a client that is paired with no command
abbrev pub value_text : TextOptions → Option Stamp → Datum → List ℕ
value_text p stamp x = client_line p.client (codes " value") stamp ++ lines_within p.shown.most 1 x

-- the words about a command, reply or value
abbrev pub place_text : Place → List ℕ
place_text (place.Command number) = codes "command " ++ decimal number
place_text (place.Reply number) = codes "reply " ++ decimal number
place_text place.Value = codes "a value"

-- the line of an error: its name, the index of the wrong byte, and the command, reply or value that contains it
abbrev pub refusal_text : ℕ → List ℕ → ℕ → Place → Option Stamp → List ℕ
refusal_text client name at where' stamp = about_client client (codes " refused ")
    (name ++ ((codes " at byte " ++ decimal at) ++ (codes " of " ++ (place_text where' ++ ending_text stamp))))

-- the line of a result that is an error, and no line of another result
abbrev pub refused_text : ℕ → Option Stamp → Seen → List ℕ
refused_text client stamp (NotCommand number) = refusal_text client (codes "NotCommand") 0 (place.Command number) stamp
refused_text client stamp (Refused cause at where') = refusal_text client (name_of cause) at where' stamp
refused_text client stamp what = []

-- The lines of a result, with or without a stamp. Those of a command, or of a result of the server, are the lines of this
-- whole value.
abbrev pub seen_text : TextOptions → Bool → Option Stamp → Datum → Seen → List ℕ
seen_text p is_line stamp whole (Command number words lengths) = command_text p number is_line stamp (words_in whole)
seen_text p is_line stamp whole (Reply number kept) = reply_text p number stamp whole
seen_text p is_line stamp whole (Push members lengths) = push_text p stamp whole
seen_text p is_line stamp whole (Value kept) = value_text p stamp whole
seen_text p is_line stamp whole what = refused_text p.client stamp what

-- the number of levels of these lines
abbrev pub levels_of : Seen → ℕ
levels_of (Reply number kept) = 1 + depth (datum_of kept.value)
levels_of (Push members lengths) = 1 + depth (datum_of (value.Push members))
levels_of (Value kept) = 1 + depth (datum_of kept.value)
levels_of _ = 0
