-- The error replies to commands.
use Rattle.std.specs.Prelude.{ℕ, List, ◌++◌, codes}
use Rattle.resp_server.specs.declared.refusal.Refusal.{Refusal}
use Rattle.resp_server.specs.declared.refusal.Refusal.TheVariants.{WrongNumber, Syntax, NoProtocol, UnknownCommand, NoInteger, FarIndex, NoDatabase, BadName, WrongPassword}
use Rattle.resp_server.specs.declared.refusal.Verb.{Verb}
use Rattle.resp_server.specs.declared.refusal.Verb.TheVariants as verb

-- the name of a command in an error
abbrev pub verb_name : Verb → List ℕ
verb_name verb.Ping = codes "ping"
verb_name verb.Echo = codes "echo"
verb_name verb.Get = codes "get"
verb_name verb.Set = codes "set"
verb_name verb.Del = codes "del"
verb_name verb.Hello = codes "hello"
verb_name verb.Exists = codes "exists"
verb_name verb.Select = codes "select"
verb_name verb.DbSize = codes "dbsize"
verb_name verb.Client = codes "client"
verb_name verb.SetName = codes "client|setname"
verb_name verb.GetName = codes "client|getname"
verb_name verb.Id = codes "client|id"
verb_name verb.SetInfo = codes "client|setinfo"

-- the text of an error reply
abbrev pub refusal_text : Refusal → List ℕ
refusal_text (WrongNumber verb) = codes "ERR wrong number of arguments for '" ++ verb_name verb ++ codes "' command"
refusal_text Syntax = codes "ERR syntax error"
refusal_text NoProtocol = codes "NOPROTO unsupported protocol version"
refusal_text UnknownCommand = codes "ERR unknown command"
refusal_text NoInteger = codes "ERR value is not an integer or out of range"
refusal_text FarIndex = codes "ERR value is out of range, value must between -2147483648 and 2147483647"
refusal_text NoDatabase = codes "ERR DB index is out of range"
refusal_text BadName = codes "ERR Client names cannot contain spaces, newlines or special characters."
refusal_text WrongPassword = codes "WRONGPASS invalid username-password pair or user is disabled."
