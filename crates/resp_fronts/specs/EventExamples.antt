-- Trees and their events, worked out by hand.
use Rattle.std.specs.Prelude.{◌≡◌, ℕ, false, true, Some, None, List, [], ◌∷◌, codes}
use Rattle.std.specs.Str.{byte}
use Rattle.resp_value.specs.Numbers.{Minus}
use Rattle.resp_value.specs.Data.{Array, Attr}
use Rattle.resp_value.specs.Trees as t
use Rattle.resp_value.specs.Trees.{Tree, leaf, node, none, more, line, numeral, null, string, chunked, PlainNull, Counted, Streamed, text}
use Rattle.resp_fronts.specs.Events.{Event, Null, Text, Byte, TextEnd, Open, Close, Done, Simple, Bulk, Verbatim, Big, Timed, all_events}

-- an event, with the index of its byte
abbrev comes : ℕ → Event → Timed
comes at event = record { at = at; event = event }

-- the text of a tree, and its events
abbrev pub HasEvents : Tree → List ℕ → List Timed → Type 0
HasEvents tree written events = (text tree ≡ written) × (all_events tree ≡ events)

-- an array of a simple string and an empty bulk string
abbrev pub AnArray : Type 0
AnArray = HasEvents (node Array (Counted (codes "2"))
    (more (leaf (line t.Simple (codes "a"))) (more (leaf (string t.Bulk (codes "0") [])) none)))
    (codes "*2\r\n+a\r\n$0\r\n\r\n")
    (comes 3 (Open Array (Some 2)) ∷ comes 4 (Text Simple) ∷ comes 5 (Byte (byte "a")) ∷ comes 7 TextEnd ∷
    comes 11 (Text Bulk) ∷ comes 13 TextEnd ∷ comes 13 Close ∷ comes 13 Done ∷ [])

-- an attribute without pairs that annotates a null
abbrev pub AnAttribute : Type 0
AnAttribute = HasEvents (node Attr (Counted (codes "0")) (more (leaf (null PlainNull)) none)) (codes "|0\r\n_\r\n")
    (comes 3 (Open Attr (Some 0)) ∷ comes 6 Null ∷ comes 6 Close ∷ comes 6 Done ∷ [])

-- a streamed array of one null
abbrev pub AStreamedArray : Type 0
AStreamedArray = HasEvents (node Array Streamed (more (leaf (null PlainNull)) none)) (codes "*?\r\n_\r\n.\r\n")
    (comes 3 (Open Array None) ∷ comes 6 Null ∷ comes 9 Close ∷ comes 9 Done ∷ [])

-- a verbatim string
abbrev pub AVerbatimString : Type 0
AVerbatimString = HasEvents (leaf (string (t.Verbatim (codes "txt")) (codes "6") (codes "hi")))
    (codes "=6\r\ntxt:hi\r\n")
    (comes 7 (Text (Verbatim (codes "txt"))) ∷ comes 8 (Byte (byte "h")) ∷ comes 9 (Byte (byte "i")) ∷
    comes 11 TextEnd ∷ comes 11 Done ∷ [])

-- a big number, whose leading zeros are not content
abbrev pub ABigNumber : Type 0
ABigNumber = HasEvents (leaf (numeral t.Big Minus (codes "00120"))) (codes "(-00120\r\n")
    (comes 4 (Text (Big true)) ∷ comes 4 (Byte (byte "1")) ∷ comes 5 (Byte (byte "2")) ∷ comes 6 (Byte (byte "0")) ∷
    comes 8 TextEnd ∷ comes 8 Done ∷ [])

-- a zero big number, which has no content, and whose events come at its end
abbrev pub ABigZero : Type 0
ABigZero = HasEvents (leaf (numeral t.Big Minus (codes "0"))) (codes "(-0\r\n")
    (comes 4 (Text (Big false)) ∷ comes 4 TextEnd ∷ comes 4 Done ∷ [])

-- a streamed string of one chunk
abbrev pub AStreamedString : Type 0
AStreamedString = HasEvents (leaf (chunked (record { digits = codes "2"; content = codes "ab" } ∷ []) (codes "0")))
    (codes "$?\r\n;2\r\nab\r\n;0\r\n")
    (comes 3 (Text Bulk) ∷ comes 8 (Byte (byte "a")) ∷ comes 9 (Byte (byte "b")) ∷ comes 15 TextEnd ∷
    comes 15 Done ∷ [])
