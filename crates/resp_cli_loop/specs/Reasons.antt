-- Why a line of a script is bad: the meaning of each reason, and its sentence.
use Rattle.std.specs.Prelude.{◌≡◌, ℕ, ◌≤◌, ◌<◌, ◌==◌, List, [], ◌∷◌, ◌++◌, drop, length, get_or, All, Option, None, Some, codes, decimal}
use Rattle.std.specs.List.{slice_split}
use Rattle.std.specs.Str.{byte}
use Rattle.resp_value.specs.Bytes.{IsFull}
use Rattle.resp_wire.specs.declared.event.Event.{Event}
use Rattle.resp_cli_loop.specs.ScriptSteps.{HasRange, IsSeen, IsWord, arguments_of, clients_words, step_name, verb_of}
use Rattle.resp_cli_loop.specs.declared.script.reasons.BadLine.{BadLine}
use Rattle.resp_cli_loop.specs.declared.script.reasons.BadLine.TheVariants as reasons
use Rattle.resp_cli_loop.specs.declared.script.steps.EventVerb.{EventVerb}
use Rattle.resp_cli_loop.specs.declared.script.steps.EventVerb.TheVariants as verb
use Rattle.resp_cli_loop.specs.declared.script.words.LineFault.{LineFault}
use Rattle.resp_cli_loop.specs.declared.script.words.LineFault.TheVariants as fault

-- the parts of a line between its spaces
abbrev pub parts_of_line : List ℕ → List (List ℕ)
parts_of_line line = slice_split (λ b. b == byte " ") line

-- the number of one of this many clients
abbrev pub NamesClient : ℕ → List ℕ → Type 0
NamesClient clients word = (number : ℕ) × (word ≡ decimal number) × (1 ≤ number) × (number ≤ clients)

-- no line after the first begins with this word
abbrev pub BeginsNoLine : List ℕ → Type 0
BeginsNoLine word = ((word ≡ codes "flush") → ⊥) × ((named : EventVerb) → word ≡ step_name named → ⊥)

-- the first of these parts is the name of a verb
abbrev pub HasVerb : List (List ℕ) → Type 0
HasVerb parts = (named : EventVerb) × (get_or parts 0 [] ≡ step_name named)

-- these words may follow the client's number after this verb
abbrev pub AreArguments : EventVerb → List (List ℕ) → Type 0
AreArguments named words =
    (event : Event) × (verb_of event ≡ named) × (words ≡ arguments_of event) × HasRange event

-- the line names the number of clients
abbrev pub NameClients : List (List ℕ) → Type 0
NameClients parts = (clients : ℕ) × (parts ≡ clients_words clients) × (1 ≤ clients) × (clients ≤ 16)

-- at most 64 words
abbrev pub AreProper : List (List ℕ) → Type 0
AreProper parts = (length parts ≤ 64) × All IsWord parts

-- this is the first part that is not a word
pub record HaveFirstUnfit (parts : List (List ℕ)) (part : List ℕ) : Type 0 where
  pub before : List (List ℕ)
  pub beyond : List (List ℕ)
  pub whole : parts ≡ before ++ part ∷ beyond
  pub are_words : All IsWord before

-- The meaning of a reason for which the parts are not words: the first one that is not a word is empty, or a byte of it
-- is not graphic.
abbrev pub IsUnfit : List (List ℕ) → BadLine → Type 0
IsUnfit parts reasons.Spaces = HaveFirstUnfit parts []
IsUnfit parts reasons.UnseenByte =
    (part : List ℕ) × HaveFirstUnfit parts part × IsFull part × (All IsSeen part → ⊥)
IsUnfit parts _ = ⊥

-- the meaning of a reason for which words are no step, if this many clients were named
abbrev pub IsNoStep : ℕ → List (List ℕ) → BadLine → Type 0
IsNoStep clients parts reasons.FlushWords = (get_or parts 0 [] ≡ codes "flush") × (1 < length parts)
IsNoStep clients parts reasons.UnknownWord = BeginsNoLine (get_or parts 0 [])
IsNoStep clients parts reasons.NoSuchClient = HasVerb parts × (NamesClient clients (get_or parts 1 []) → ⊥)
IsNoStep clients parts (reasons.Arguments named) = (get_or parts 0 [] ≡ step_name named) ×
    NamesClient clients (get_or parts 1 []) × (AreArguments named (drop 2 parts) → ⊥)
IsNoStep _ _ _ = ⊥

-- The meaning of a reason, for a line with these parts. The number of clients is given if an earlier line named it. A
-- line has at most one reason. The reasons that are not listed here concern more than the words of one line.
abbrev pub IsReason : Option ℕ → List (List ℕ) → BadLine → Type 0
IsReason _ parts reasons.ManyWords = 64 < length parts
IsReason _ parts reasons.Spaces = (length parts ≤ 64) × IsUnfit parts reasons.Spaces
IsReason _ parts reasons.UnseenByte = (length parts ≤ 64) × IsUnfit parts reasons.UnseenByte
IsReason None parts reasons.NotClients = AreProper parts × (NameClients parts → ⊥)
IsReason (Some clients) parts reason = AreProper parts × IsNoStep clients parts reason
IsReason _ _ _ = ⊥

-- P holds of the reason why a line is bad
abbrev pub WhereBad : (BadLine → Type 0) → LineFault → Type 0
WhereBad P (fault.Bad reason) = P reason
WhereBad P fault.Memory = Unit {0}

-- the sentence for the words after the client's number, for each verb
abbrev pub arguments_text : EventVerb → List ℕ
arguments_text verb.Send = codes "send needs a client and a command of at least one word"
arguments_text verb.Hello = codes "hello needs a client, optionally followed by 2 or 3"
arguments_text verb.Push = codes "push needs a client, optionally followed by words"
arguments_text verb.Drop = codes "drop takes nothing after the client"
arguments_text _ = codes "server and client need a client and a number of bytes from 1 to 1000000000"

-- the sentence of a reason
abbrev pub reason_text : BadLine → List ℕ
reason_text reasons.NoClients = codes "no line begins with the word clients"
reason_text reasons.LongScript = codes "a script has at most 1048576 bytes"
reason_text reasons.ManyLines = codes "a script has at most 10000 lines"
reason_text reasons.LongLine = codes "a line has at most 4096 bytes"
reason_text reasons.ManyWords = codes "a line has at most 64 words"
reason_text reasons.Spaces = codes "words are separated by one space, with no space at either end"
reason_text reasons.UnseenByte = codes "a byte is neither a space nor printable ASCII"
reason_text reasons.NotClients = codes "the first line must be `clients N`, with N from 1 to 16"
reason_text reasons.UnknownWord =
    codes "unknown word: a line begins with send, hello, server, client, push, drop or flush"
reason_text reasons.FlushWords = codes "flush takes nothing after it"
reason_text reasons.NoSuchClient = codes "the second word must be the number of a client"
reason_text (reasons.Arguments named) = arguments_text named
