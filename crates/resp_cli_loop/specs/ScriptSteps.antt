-- The meaning of a line of a script: the words of each step, and the steps that are allowed.
use Rattle.std.specs.Prelude.{◌≡◌, ℕ, ◌≤◌, List, [], ◌∷◌, length, map, All, Option, None, Some, codes, decimal}
use Rattle.std.specs.List.{join_with_byte}
use Rattle.std.specs.Str.{byte}
use Rattle.resp_value.specs.Bytes.{IsFull}
use Rattle.resp_value.specs.Commands.{words_of}
use Rattle.resp_value.specs.Values.{content_bytes, list_of}
use Rattle.resp_value.specs.declared.value.Value.{Value}
use Rattle.resp_value.specs.declared.value.Value.TheVariants.{Bulk}
use Rattle.resp_value.specs.declared.version.Version.{Version}
use Rattle.resp_value.specs.declared.version.Version.TheVariants.{Two, Three}
use Rattle.resp_session.specs.Worlds.{client_of}
use Rattle.resp_wire.specs.Worlds.{event_of}
use Rattle.resp_wire.specs.declared.event.Event.{Event}
use Rattle.resp_wire.specs.declared.event.Event.TheVariants as event
use Rattle.resp_cli_loop.specs.declared.script.steps.EventVerb.{EventVerb}
use Rattle.resp_cli_loop.specs.declared.script.steps.EventVerb.TheVariants as verb

-- a graphic byte: neither a space nor a control byte, and in ASCII
abbrev pub IsSeen : ℕ → Type 0
IsSeen b = (33 ≤ b) × (b ≤ 126)

-- one or more graphic bytes
abbrev pub IsWord : List ℕ → Type 0
IsWord word = IsFull word × All IsSeen word

-- words, separated by single spaces
abbrev pub joined_words : List (List ℕ) → List ℕ
joined_words words = join_with_byte (byte " ") words

-- the line is these words, from 1 to 64 of them
pub record AreWords (line : List ℕ) (words : List (List ℕ)) : Type 0 where
  pub text : line ≡ joined_words words
  pub are_words : All IsWord words
  pub some : 1 ≤ length words
  pub few : length words ≤ 64

-- the first word of a line, for its event
abbrev pub step_name : EventVerb → List ℕ
step_name verb.Send = codes "send"
step_name verb.Hello = codes "hello"
step_name verb.Server = codes "server"
step_name verb.Client = codes "client"
step_name verb.Push = codes "push"
step_name verb.Drop = codes "drop"

-- the verb of an event
abbrev pub verb_of : Event → EventVerb
verb_of (event.Send client command) = verb.Send
verb_of (event.Hello client asked) = verb.Hello
verb_of (event.ToServer client count) = verb.Server
verb_of (event.ToClient client count) = verb.Client
verb_of (event.Push client items) = verb.Push
verb_of (event.Drop client) = verb.Drop

-- the word for an item of a push; only a bulk string has one
abbrev pub item_word : Value → List ℕ
item_word (Bulk content) = content_bytes content
item_word _ = []

-- the words for the version that HELLO asks for, if any
abbrev pub asked_words : Option Version → List (List ℕ)
asked_words None = []
asked_words (Some Two) = codes "2" ∷ []
asked_words (Some Three) = codes "3" ∷ []

-- the words after the client's number
abbrev pub arguments_of : Event → List (List ℕ)
arguments_of (event.Send client command) = words_of command
arguments_of (event.Hello client asked) = asked_words asked
arguments_of (event.ToServer client count) = decimal count ∷ []
arguments_of (event.ToClient client count) = decimal count ∷ []
arguments_of (event.Push client items) = map item_word (list_of items)
arguments_of (event.Drop client) = []

-- the words for a step: an event, or None for `flush`
abbrev pub step_words : Option Event → List (List ℕ)
step_words None = codes "flush" ∷ []
step_words (Some event) = step_name (verb_of event) ∷ decimal (client_of (event_of event)) ∷ arguments_of event

-- one line may move this many bytes
abbrev pub IsMoved : ℕ → Type 0
IsMoved count = (1 ≤ count) × (count ≤ 1000000000)

-- a count of moved bytes is in its range
abbrev pub HasRange : Event → Type 0
HasRange (event.ToServer client count) = IsMoved count
HasRange (event.ToClient client count) = IsMoved count
HasRange _ = Unit {0}

-- the client of a step exists, and its count is in its range
abbrev pub IsStepInRange : ℕ → Option Event → Type 0
IsStepInRange clients None = Unit {0}
IsStepInRange clients (Some event) =
    (1 ≤ client_of (event_of event)) × (client_of (event_of event) ≤ clients) × HasRange event

-- the line means this step, if there are this many clients
pub record SaysStep (clients : ℕ) (line : List ℕ) (step : Option Event) : Type 0 where
  pub words : AreWords line (step_words step)
  pub range : IsStepInRange clients step

-- the words that name the number of clients
abbrev pub clients_words : ℕ → List (List ℕ)
clients_words clients = codes "clients" ∷ decimal clients ∷ []

-- the line names the number of clients, from 1 to 16
pub record SaysClients (line : List ℕ) (clients : ℕ) : Type 0 where
  pub words : AreWords line (clients_words clients)
  pub range : (1 ≤ clients) × (clients ≤ 16)
