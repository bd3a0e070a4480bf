-- The replies of the proxy itself, by the class and the words of a command.
use Rattle.std.specs.Prelude.{◌≡◌, ◌==◌, ℕ, Bool, true, false, ◌&&◌, not, pos, List, [], ◌∷◌, length, map, Option, None, Some, MatchOption, if◌then◌else◌, nat_le, codes}
use Rattle.std.specs.List.{list_all}
use Rattle.std.specs.Str.{byte, bytes_eq}
use Rattle.resp_commands.specs.Classes.{HasClass, HasNoClass}
use Rattle.resp_commands.specs.declared.command.Class.{Class}
use Rattle.resp_commands.specs.declared.command.Class.TheVariants as class
use Rattle.resp_proxy.specs.Hellos.{own_reply}
use Rattle.resp_proxy.specs.declared.local.LocalReaction.{LocalReaction}
use Rattle.resp_proxy.specs.declared.local.LocalReaction.TheVariants as local
use Rattle.resp_proxy.specs.declared.reaction.Reaction.{Reaction}
use Rattle.resp_proxy.specs.declared.reaction.Reaction.TheVariants as reaction
use Rattle.resp_proxy.specs.declared.route.Route.{Route}
use Rattle.resp_proxy.specs.Terms.{Terms}
use Rattle.resp_session.specs.Operations.{is_name}
use Rattle.resp_value.specs.Canonical.{HasNoPush, canonical_text, canonical_tree}
use Rattle.resp_value.specs.Data.{Datum, scalar}
use Rattle.resp_value.specs.Data as d
use Rattle.resp_value.specs.Rules.{HasVersion}
use Rattle.resp_value.specs.Trees.{IsTree}
use Rattle.resp_value.specs.Words.{word_datum}
use Rattle.resp_value.specs.declared.version.Version.{Version}

-- The text is the canonical encoding of this value in this version. The value is no push, and holds none.
pub record IsReply (version : Version) (reply : Datum) (text : List ℕ) : Type 0 where
  pub written : text ≡ canonical_text version reply
  pub is_tree : IsTree (canonical_tree version reply)
  pub in_version : HasVersion version (canonical_tree version reply)
  pub no_push : HasNoPush reply

-- the text is the encoding of exactly one value in this version, and the value is no push
pub record IsOneReply (version : Version) (text : List ℕ) : Type 0 where
  pub reply : Datum
  pub is_reply : IsReply version reply text

-- `+OK`
abbrev pub ok : Datum
ok = scalar (d.Simple (codes "OK"))

-- `+PONG`
abbrev pub pong : Datum
pong = scalar (d.Simple (codes "PONG"))

abbrev pub error : List ℕ → Datum
error message = scalar (d.Error message)

-- the text is the encoding of an error
pub record IsError (version : Version) (text : List ℕ) : Type 0 where
  pub message : List ℕ
  pub is_reply : IsReply version (error message) text

-- a space in place of a CR or an LF
abbrev pub on_line : ℕ → ℕ
on_line b = if b == byte "\r" then byte " " else if b == byte "\n" then byte " " else b

-- a name, or null for no name
abbrev pub name_datum : List ℕ → Datum
name_datum [] = scalar d.Null
name_datum (b ∷ name) = word_datum (b ∷ name)

-- each byte of the name is printable and not a space
abbrev pub is_client_name : List ℕ → Bool
is_client_name name = list_all (λ b. nat_le (byte "!") b && nat_le b (byte "~")) name

-- the reply to CLIENT SETNAME with this name
abbrev pub named_reply : List ℕ → Datum
named_reply name =
    if is_client_name name then ok
    else error (codes "ERR Client names cannot contain spaces, newlines or special characters.")

-- what the proxy does with a command that it does not send to the server
pub data Treatment : Type 0 where
  -- nothing, since the command is for the server
  LeavesToServer : Treatment
  -- it replies with this value
  Says : Datum → Treatment
  -- it replies with the number of the client
  SaysNumber : Treatment
  -- it replies with the name of the client
  SaysName : Treatment
  -- it replies that the client has this name, or that it is no name
  Names : List ℕ → Treatment
  -- it replies to HELLO
  SaysHello : Treatment
  -- it replies with what it has counted
  SaysCounts : Treatment
  -- it replies that it does not know the command, or its subcommand
  SaysUnknown : Treatment
  -- it replies that it does not serve the command
  SaysNotServed : Treatment
  -- it closes the client, because of QUIT
  Quits : Treatment
  -- it closes the client, which speaks HTTP
  ClosesHttp : Treatment
  -- it closes the client, which needs a connection of its own or another setting
  NeedsAnother : Treatment

-- CLIENT with another number of words
abbrev pub wrong_count : Treatment
wrong_count = Says (error (codes "ERR wrong number of arguments for 'client' command"))

-- this, if these are as many words
abbrev pub with_words : ℕ → List (List ℕ) → Treatment → Treatment
with_words count words treatment = if length words == count then treatment else wrong_count

-- CLIENT SETNAME with these words
abbrev pub setname_treatment : List (List ℕ) → Treatment
setname_treatment (name ∷ []) = Names name
setname_treatment _ = wrong_count

-- a subcommand of CLIENT with these words after it
abbrev pub subcommand_treatment : List ℕ → List (List ℕ) → Treatment
subcommand_treatment word words =
    if is_name (codes "id") word then with_words 0 words SaysNumber else
    if is_name (codes "getname") word then with_words 0 words SaysName else
    if is_name (codes "setname") word then setname_treatment words else
    if is_name (codes "setinfo") word then with_words 2 words (Says ok) else
    if is_name (codes "no-evict") word then with_words 1 words (Says ok) else
    SaysUnknown

-- CLIENT with these words
abbrev pub client_treatment : List (List ℕ) → Treatment
client_treatment [] = SaysUnknown
client_treatment (word ∷ words) = subcommand_treatment word words

-- a command whose reply depends on the client's own connection
abbrev pub own_treatment : List ℕ → List (List ℕ) → Treatment
own_treatment name words =
    if is_name (codes "quit") name then Quits else
    if is_name (codes "client") name then client_treatment words else
    if is_name (codes "exec") name then Says (error (codes "ERR EXEC without MULTI")) else
    if is_name (codes "discard") name then Says (error (codes "ERR DISCARD without MULTI")) else
    Says ok

-- HELLO with these words in the setting in which every client begins
abbrev pub hello_treatment : List (List ℕ) → Treatment
hello_treatment [] = SaysHello
hello_treatment (word ∷ []) =
    if bytes_eq word (codes "2") then SaysHello
    else Says (error (codes "NOPROTO 'HELLO' with another version than 2 needs a connection of its own, and no more are allowed"))
hello_treatment _ = NeedsAnother

-- SELECT with these words in the setting in which every client begins
abbrev pub select_treatment : List (List ℕ) → Treatment
select_treatment (word ∷ []) = if bytes_eq word (codes "0") then Says ok else NeedsAnother
select_treatment _ = NeedsAnother

-- HELLO, AUTH, SELECT or RESET, whether or not the client is in the setting in which every client begins
abbrev pub setting_treatment : Bool → List ℕ → List (List ℕ) → Treatment
setting_treatment false name words = NeedsAnother
setting_treatment true name words =
    if is_name (codes "hello") name then hello_treatment words else
    if is_name (codes "select") name then select_treatment words else
    NeedsAnother

-- a command that the table does not have, or a subcommand that it does not have
abbrev pub unlisted_treatment : List ℕ → List (List ℕ) → Treatment
unlisted_treatment name words =
    if is_name (codes "post") name then ClosesHttp else
    if is_name (codes "host:") name then ClosesHttp else
    if is_name (codes "client") name then client_treatment words else
    SaysUnknown

-- a command for which clients do not share a connection
abbrev pub unshared_treatment : Bool → Option Class → List ℕ → List (List ℕ) → Treatment
unshared_treatment first (Some class.OwnConnection) name words = NeedsAnother
unshared_treatment first (Some class.Setting) name words = setting_treatment first name words
unshared_treatment first (Some class.OwnAnswer) name words = own_treatment name words
unshared_treatment first None name words = unlisted_treatment name words
unshared_treatment first _ name words = SaysNotServed

-- INFO with these words
abbrev pub info_treatment : List (List ℕ) → Treatment
info_treatment (word ∷ []) = if is_name (codes "proxy") word then SaysCounts else LeavesToServer
info_treatment _ = LeavesToServer

-- PING with these words
abbrev pub ping_treatment : List (List ℕ) → Treatment
ping_treatment [] = Says pong
ping_treatment (word ∷ []) = Says (word_datum word)
ping_treatment _ = LeavesToServer

-- a command for which clients share a connection, whether or not the proxy itself replies to PING
abbrev pub shared_treatment : Bool → List ℕ → List (List ℕ) → Treatment
shared_treatment pings name words =
    if is_name (codes "info") name then info_treatment words else
    if pings && is_name (codes "ping") name then ping_treatment words else
    LeavesToServer

-- what the proxy does with a command of this class, if it does not send it to the server
abbrev pub treatment : Bool → Bool → Option Class → List ℕ → List (List ℕ) → Treatment
treatment pings first (Some class.Shared) name words = shared_treatment pings name words
treatment pings first found name words = unshared_treatment first found name words

-- The text is the reply of this treatment, to a client with this number and this name.
abbrev pub IsReplyBy : Treatment → Version → ℕ → List ℕ → List ℕ → Type 0
IsReplyBy (Says reply) version number name text = IsReply version reply text
IsReplyBy SaysNumber version number name text = IsReply version (scalar (d.Int (pos number))) text
IsReplyBy SaysName version number name text = IsReply version (name_datum name) text
IsReplyBy (Names word) version number name text = IsReply version (named_reply word) text
IsReplyBy SaysHello version number name text = IsReply version (own_reply number) text
IsReplyBy SaysCounts version number name text = (counts : List ℕ) × IsReply version (word_datum counts) text
IsReplyBy SaysUnknown version number name text = IsError version text
IsReplyBy SaysNotServed version number name text = IsError version text
IsReplyBy _ version number name text = ⊥

-- the text is the reply of this treatment to any client
abbrev pub IsReplyOf : Treatment → List ℕ → Type 0
IsReplyOf t text = (version : Version) (number : ℕ) (name : List ℕ) → IsReplyBy t version number name text

-- what a reaction is
abbrev pub treatment_in : Reaction → Treatment
treatment_in reaction.Ok = Says ok
treatment_in reaction.Number = SaysNumber
treatment_in reaction.Name = SaysName
treatment_in (reaction.SetName word) = Names word.now
treatment_in reaction.Hello = SaysHello
treatment_in (reaction.Error message) = Says (error (map on_line message.now))
treatment_in reaction.Unknown = SaysUnknown
treatment_in reaction.Refused = SaysNotServed
treatment_in reaction.Quit = Quits
treatment_in reaction.Http = ClosesHttp
treatment_in reaction.NoneLeft = NeedsAnother

-- what a reaction is
abbrev pub local_treatment_in : LocalReaction → Treatment
local_treatment_in local.Server = LeavesToServer
local_treatment_in local.Counts = SaysCounts
local_treatment_in local.Pong = Says pong
local_treatment_in (local.Echo word) = Says (word_datum word.now)

-- what the table says about a command: its class, or that it has none
abbrev pub IsListed : Option Class → List ℕ → List (List ℕ) → Type 0
IsListed found name words = MatchOption found (HasNoClass name words) (λ class. HasClass name words class)

-- HELLO with these words leaves a client in version 2
abbrev pub keeps_by_hello : List (List ℕ) → Bool
keeps_by_hello [] = true
keeps_by_hello (word ∷ []) = bytes_eq word (codes "2")
keeps_by_hello _ = false

-- SELECT with these words leaves a client in database 0
abbrev pub keeps_by_select : List (List ℕ) → Bool
keeps_by_select (word ∷ []) = bytes_eq word (codes "0")
keeps_by_select _ = false

-- the command leaves a client in the setting in which every client begins
abbrev pub keeps_setting : List ℕ → List (List ℕ) → Bool
keeps_setting name words =
    if is_name (codes "hello") name then keeps_by_hello words else
    if is_name (codes "select") name then keeps_by_select words else
    false

-- whether the client leaves its line before this command, if it may get another connection
abbrev pub moves : Bool → Option Class → List ℕ → List (List ℕ) → Bool
moves first (Some class.OwnConnection) name words = true
moves first (Some class.Setting) name words = not (first && keeps_setting name words)
moves first _ name words = false

-- a command of these words does not need another connection, or the client may get none
abbrev pub Stays : Terms → Route → Option Class → List ℕ → List (List ℕ) → Type 0
Stays terms route found name words = (terms.own && moves route.is_first found name words) ≡ false
