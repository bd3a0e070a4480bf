-- What a command asks for, given its name and the words after it.
use Rattle.std.specs.Prelude.{◌≡◌, ℕ, true, false, not, ◌&&◌, nat_lt, length, Option, None, Some, option_map, Result, Ok, Err, List, [], ◌∷◌, ◌++◌, if◌then◌else◌, codes}
use Rattle.std.specs.Str.{bytes_eq}
use Rattle.resp_value.specs.declared.version.Version.{Version}
use Rattle.resp_value.specs.declared.version.Version.TheVariants.{Two, Three}
use Rattle.resp_session.specs.Operations.{Operation, is_name, operation_of}
use Rattle.resp_server.specs.Indexes.{IsIndexed}
use Rattle.resp_server.specs.Names.{is_client_name, shown_word}
use Rattle.resp_server.specs.Refusals.{refusal_text}
use Rattle.resp_server.specs.declared.databases.deed.Deed.{Deed}
use Rattle.resp_server.specs.declared.databases.deed.Deed.TheVariants as deed
use Rattle.resp_server.specs.declared.refusal.Refusal.{Refusal}
use Rattle.resp_server.specs.declared.refusal.Refusal.TheVariants.{WrongNumber, Syntax, NoProtocol, BadName, WrongPassword}
use Rattle.resp_server.specs.declared.refusal.Verb.{Verb}
use Rattle.resp_server.specs.declared.refusal.Verb.TheVariants as verb

-- what a command asks for
pub data Asked : Type 0 where
  -- a request of the client's database, as a server of one store has them
  Request : Operation → Asked
  -- another database, by its number
  Select : ℕ → Asked
  -- the number of those of these keys that exist
  Exists : List (List ℕ) → Asked
  -- the number of keys of the client's database
  DbSize : Asked
  -- the client's database without a key
  FlushDb : Asked
  -- all databases without a key
  FlushAll : Asked
  -- this name for the client
  SetName : List ℕ → Asked
  GetName : Asked
  Id : Asked
  -- nothing, but the reply OK
  SetInfo : Asked
  -- the description of the client in this version, which is that of later replies, and this name for the client if there
  -- is one
  Hello : Version → Option (List ℕ) → Asked
  -- the end of the connection
  Quit : Asked
  -- the command has an error reply with this text
  Denied : List ℕ → Asked

-- the text of the error reply to an unknown subcommand of CLIENT
abbrev pub unknown_text : List ℕ → List ℕ
unknown_text word = codes "ERR unknown subcommand '" ++ shown_word 128 word ++ codes "'. Try CLIENT HELP."

-- what a command asks for
abbrev pub asked_by : Deed → Asked
asked_by (deed.Select index) = Select index
asked_by (deed.Exists keys) = Exists keys
asked_by deed.DbSize = DbSize
asked_by deed.FlushDb = FlushDb
asked_by deed.FlushAll = FlushAll
asked_by (deed.SetName name) = SetName name.now
asked_by deed.GetName = GetName
asked_by deed.Id = Id
asked_by deed.SetInfo = SetInfo
asked_by (deed.Hello version name) = Hello version (option_map (λ n. n.now) name)
asked_by deed.Quit = Quit
asked_by (deed.Refused refusal) = Denied (refusal_text refusal)
asked_by (deed.UnknownSubcommand word) = Denied (unknown_text word.now)

-- the error of a wrong number of words
abbrev pub wrong_number : Verb → Asked
wrong_number verb = Denied (refusal_text (WrongNumber verb))

-- EXISTS of one key or more
abbrev pub exists_asks : List (List ℕ) → Asked
exists_asks [] = wrong_number verb.Exists
exists_asks (key ∷ keys) = Exists (key ∷ keys)

-- DBSIZE, and the subcommands GETNAME and ID, without a word
abbrev pub alone_asks : Asked → Verb → List (List ℕ) → Asked
alone_asks asked verb [] = asked
alone_asks asked verb (word ∷ words) = wrong_number verb

-- FLUSHDB and FLUSHALL, alone or with ASYNC or SYNC, which are the same
abbrev pub flush_asks : Asked → List (List ℕ) → Asked
flush_asks asked [] = asked
flush_asks asked (word ∷ []) = if is_name (codes "async") word then asked else
    if is_name (codes "sync") word then asked else Denied (refusal_text Syntax)
flush_asks asked (word ∷ next ∷ words) = Denied (refusal_text Syntax)

-- CLIENT SETNAME of a name
abbrev pub set_name_asks : List (List ℕ) → Asked
set_name_asks (name ∷ []) = if is_client_name name then SetName name else Denied (refusal_text BadName)
set_name_asks _ = wrong_number verb.SetName

-- CLIENT SETINFO of two words
abbrev pub set_info_asks : List (List ℕ) → Asked
set_info_asks (name ∷ value ∷ []) = SetInfo
set_info_asks _ = wrong_number verb.SetInfo

-- CLIENT with a subcommand
abbrev pub client_asks : List (List ℕ) → Asked
client_asks [] = wrong_number verb.Client
client_asks (subcommand ∷ words) =
    if is_name (codes "setname") subcommand then set_name_asks words else
    if is_name (codes "getname") subcommand then alone_asks GetName verb.GetName words else
    if is_name (codes "id") subcommand then alone_asks Id verb.Id words else
    if is_name (codes "setinfo") subcommand then set_info_asks words else
    Denied (unknown_text subcommand)

-- HELLO of this version with options, after those that give the client this name. AUTH has a user and a password. The
-- user is `default`, whose password is not checked.
abbrev pub options_ask : Version → Option (List ℕ) → List (List ℕ) → Asked
options_ask version name [] = Hello version name
options_ask version name (option ∷ []) = Denied (refusal_text Syntax)
options_ask version name (option ∷ word ∷ []) =
    if not (is_name (codes "setname") option) then Denied (refusal_text Syntax) else
    if is_client_name word then Hello version (Some word) else Denied (refusal_text BadName)
options_ask version name (option ∷ word ∷ next ∷ words) =
    if is_name (codes "setname") option then
    (if is_client_name word then options_ask version (Some word) (next ∷ words) else Denied (refusal_text BadName))
    else if not (is_name (codes "auth") option) then Denied (refusal_text Syntax) else
    if bytes_eq word (codes "default") then options_ask version name words else Denied (refusal_text WrongPassword)

-- HELLO with a word for the version, and options
abbrev pub hello_asks : List (List ℕ) → Asked
hello_asks [] = wrong_number verb.Hello
hello_asks (word ∷ options) =
    if bytes_eq word (codes "2") then options_ask Two None options else
    if bytes_eq word (codes "3") then options_ask Three None options else Denied (refusal_text NoProtocol)

-- SELECT of this number, or its error
abbrev pub index_asks : Result ℕ Refusal → Asked
index_asks (Ok index) = Select index
index_asks (Err refusal) = Denied (refusal_text refusal)

-- SELECT of one word
pub record SelectAsks (words : List (List ℕ)) (asked : Asked) : Type 0 where
  pub one_word : (word : List ℕ) → words ≡ word ∷ [] → (index : Result ℕ Refusal) × IsIndexed word index ×
      (asked ≡ index_asks index)
  pub others : ((word : List ℕ) → words ≡ word ∷ [] → ⊥) → asked ≡ wrong_number verb.Select

-- what a command of this name, except SELECT, asks for
abbrev pub asks : List ℕ → List (List ℕ) → Asked
asks name words =
    if is_name (codes "exists") name then exists_asks words else
    if is_name (codes "dbsize") name then alone_asks DbSize verb.DbSize words else
    if is_name (codes "flushdb") name then flush_asks FlushDb words else
    if is_name (codes "flushall") name then flush_asks FlushAll words else
    if is_name (codes "client") name then client_asks words else
    if is_name (codes "quit") name then Quit else
    if is_name (codes "hello") name && nat_lt 1 (length words) then hello_asks words else
    Request (operation_of name words)

-- what a command of this name, in upper, lower or mixed case, asks for with these words after it
pub record Asks (name : List ℕ) (words : List (List ℕ)) (asked : Asked) : Type 0 where
  pub select : is_name (codes "select") name ≡ true → SelectAsks words asked
  pub others : is_name (codes "select") name ≡ false → asked ≡ asks name words
