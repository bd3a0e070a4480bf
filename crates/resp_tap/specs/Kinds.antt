-- How a command is answered, from its words.
use Rattle.std.specs.Prelude.{ℕ, ◌%◌, ◌||◌, ◌&&◌, Bool, false, Option, None, Some, List, [], ◌∷◌, eqb, length, if◌then◌else◌, codes}
use Rattle.std.specs.List.{list_any}
use Rattle.std.specs.Str.{bytes_eq}
use Rattle.resp_value.specs.declared.version.Version.TheVariants.{Two, Three}
use Rattle.resp_session.specs.Operations.{is_name}
use Rattle.resp_tap.specs.declared.kind.CommandKind.{CommandKind}
use Rattle.resp_tap.specs.declared.kind.CommandKind.TheVariants.{Plain, Hello, Reset, Silent, Subscribing, Unpairing}
use Rattle.resp_tap.specs.declared.kind.Verb.{Verb}
use Rattle.resp_tap.specs.declared.kind.Verb.TheVariants.{Subscribe, Unsubscribe, Psubscribe, Punsubscribe, Ssubscribe, Sunsubscribe}

-- the names of commands after which values are paired with no command
abbrev pub unpairing_names : List (List ℕ)
unpairing_names = codes "monitor" ∷ codes "sync" ∷ codes "psync" ∷ []

-- whether the first of these words is this name
abbrev pub begins_with_name : List ℕ → List (List ℕ) → Bool
begins_with_name name [] = false
begins_with_name name (word ∷ words) = is_name name word

-- the effect of a HELLO whose first argument is this word
abbrev pub version_worded : List ℕ → CommandKind
version_worded word =
    if bytes_eq word (codes "2") then Hello Two else
    if bytes_eq word (codes "3") then Hello Three else
    Plain

-- the effect of a HELLO with these arguments
abbrev pub hello_kind : List (List ℕ) → CommandKind
hello_kind [] = Plain
hello_kind (word ∷ options) = version_worded word

-- whether one of these words is this name
abbrev pub has_word : List ℕ → List (List ℕ) → Bool
has_word name words = list_any (λ word. is_name name word) words

-- whether these are the arguments of a REPLCONF that has no reply: pairs of words, of which the first is ACK or GETACK
abbrev pub are_unanswered : List (List ℕ) → Bool
are_unanswered arguments =
    (begins_with_name (codes "ack") arguments || begins_with_name (codes "getack") arguments) &&
    eqb (length arguments % 2) 0

-- Whether values are paired with no command after this command: by its name, or because it is CLIENT REPLY, SCRIPT DEBUG,
-- or a REPLCONF with ACK or GETACK at another place.
abbrev pub ends_pairing : List ℕ → List (List ℕ) → Bool
ends_pairing name arguments = list_any (λ other. is_name other name) unpairing_names ||
    (is_name (codes "client") name && begins_with_name (codes "reply") arguments) ||
    (is_name (codes "script") name && begins_with_name (codes "debug") arguments) ||
    (is_name (codes "replconf") name && (has_word (codes "ack") arguments || has_word (codes "getack") arguments))

-- the confirmations that answer a command of this name
abbrev pub verb_named : List ℕ → Option Verb
verb_named name =
    if is_name (codes "subscribe") name then Some Subscribe else
    if is_name (codes "unsubscribe") name then Some Unsubscribe else
    if is_name (codes "psubscribe") name then Some Psubscribe else
    if is_name (codes "punsubscribe") name then Some Punsubscribe else
    if is_name (codes "ssubscribe") name then Some Ssubscribe else
    if is_name (codes "sunsubscribe") name then Some Sunsubscribe else
    None

-- the kind of a command with these confirmations, if there are any, for this many channels
abbrev pub kind_by_verb : Option Verb → ℕ → CommandKind
kind_by_verb None channels = Plain
kind_by_verb (Some verb) channels = Subscribing verb channels

-- how a command is answered with these words, of which the first is its name
abbrev pub command_kind : List (List ℕ) → CommandKind
command_kind [] = Plain
command_kind (name ∷ arguments) =
    if is_name (codes "hello") name then hello_kind arguments else
    if is_name (codes "reset") name then Reset else
    if is_name (codes "replconf") name && are_unanswered arguments then Silent else
    if ends_pairing name arguments then Unpairing else
    kind_by_verb (verb_named name) (length arguments)
