-- The request of a command, given its name and the words after it.
use Rattle.std.specs.Prelude.{ℕ, Bool, List, [], ◌∷◌, ◌++◌, Option, None, Some, if◌then◌else◌, codes}
use Rattle.std.specs.Str.{bytes_eq, str_to_ascii_lowercase}
use Rattle.resp_value.specs.declared.version.Version.{Version}
use Rattle.resp_value.specs.declared.version.Version.TheVariants.{Two, Three}

-- the condition of a SET
pub data Condition : Type 0 where
  Always : Condition
  IfAbsent : Condition
  IfPresent : Condition

-- the requests of a server
pub data Operation : Type 0 where
  Ping : Operation
  Echo : List ℕ → Operation
  Get : List ℕ → Operation
  -- the condition, the key and its value
  Set : Condition → List ℕ → List ℕ → Operation
  Del : List (List ℕ) → Operation
  -- with the version that is requested, if there is one
  Hello : Option Version → Operation
  -- the command has an error reply with this text
  Refused : List ℕ → Operation

-- the error reply to a command with too few or too many words
abbrev pub wrong_number : List ℕ → Operation
wrong_number name = Refused (codes "ERR wrong number of arguments for '" ++ name ++ codes "' command")

-- the error reply to an unknown option
abbrev pub syntax_error : Operation
syntax_error = Refused (codes "ERR syntax error")

-- whether the word is this name in upper, lower or mixed case
abbrev pub is_name : List ℕ → List ℕ → Bool
is_name name word = bytes_eq (str_to_ascii_lowercase word) name

-- PING alone, or with a word to be returned
abbrev pub ping_operation : List (List ℕ) → Operation
ping_operation [] = Ping
ping_operation (word ∷ []) = Echo word
ping_operation _ = wrong_number (codes "ping")

-- ECHO of one word
abbrev pub echo_operation : List (List ℕ) → Operation
echo_operation (word ∷ []) = Echo word
echo_operation _ = wrong_number (codes "echo")

-- GET of one key
abbrev pub get_operation : List (List ℕ) → Operation
get_operation (key ∷ []) = Get key
get_operation _ = wrong_number (codes "get")

-- SET of a key and a value with one option
abbrev pub conditional_operation : List ℕ → List ℕ → List ℕ → Operation
conditional_operation key value option =
    if is_name (codes "nx") option then Set IfAbsent key value else
    if is_name (codes "xx") option then Set IfPresent key value else
    syntax_error

-- SET of a key and a value, with at most one option
abbrev pub set_operation : List (List ℕ) → Operation
set_operation [] = wrong_number (codes "set")
set_operation (key ∷ []) = wrong_number (codes "set")
set_operation (key ∷ value ∷ []) = Set Always key value
set_operation (key ∷ value ∷ option ∷ []) = conditional_operation key value option
set_operation (key ∷ value ∷ option ∷ next ∷ options) = syntax_error

-- DEL of one key or more
abbrev pub del_operation : List (List ℕ) → Operation
del_operation [] = wrong_number (codes "del")
del_operation (key ∷ keys) = Del (key ∷ keys)

-- HELLO with a word for the version
abbrev pub version_operation : List ℕ → Operation
version_operation word =
    if bytes_eq word (codes "2") then Hello (Some Two) else
    if bytes_eq word (codes "3") then Hello (Some Three) else
    Refused (codes "NOPROTO unsupported protocol version")

-- HELLO alone, or with a version and no option
abbrev pub hello_operation : List (List ℕ) → Operation
hello_operation [] = Hello None
hello_operation (word ∷ []) = version_operation word
hello_operation (word ∷ option ∷ options) = syntax_error

-- the request of a command, given its name in upper, lower or mixed case and the words after it
abbrev pub operation_of : List ℕ → List (List ℕ) → Operation
operation_of name arguments =
    if is_name (codes "ping") name then ping_operation arguments else
    if is_name (codes "echo") name then echo_operation arguments else
    if is_name (codes "get") name then get_operation arguments else
    if is_name (codes "set") name then set_operation arguments else
    if is_name (codes "del") name then del_operation arguments else
    if is_name (codes "hello") name then hello_operation arguments else
    Refused (codes "ERR unknown command")
