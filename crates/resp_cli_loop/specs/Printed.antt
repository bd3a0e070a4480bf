-- The printed text of the results of events.
use Rattle.std.specs.Prelude.{◌≡◌, ◌⊎◌, ℕ, ◌+◌, ◌≤◌, ◌^◌, Bool, true, false, List, [], ◌∷◌, ◌++◌, length, drop, min, Option, Some, Result, Ok, Err, codes, decimal}
use Rattle.resp_value.specs.Causes.{name_of}
use Rattle.resp_value.specs.Data.{Datum, depth}
use Rattle.resp_io.specs.Devices.{Appends, count_after, last_count}
use Rattle.resp_value.specs.declared.cause.Cause.{Cause}
use Rattle.resp_session.specs.Connections.{Connection, shown_pushes, shown_replies}
use Rattle.resp_session.specs.Runs.{Outcome, Done, Refused, Gone}
use Rattle.resp_session.specs.Worlds.{World, WorldEvent}
use Rattle.resp_print.specs.Headings.{push_heading, reply_heading}
use Rattle.resp_print.specs.Shown.{lines_on}
use Rattle.resp_print.specs.Written.{AppendsPart}
use Rattle.resp_cli_loop.specs.declared.play.PlayError.{PlayError}
use Rattle.resp_cli_loop.specs.declared.play.PlayError.TheVariants.{Stopped, Write, Memory}

-- replies to a client that has received this many replies before
abbrev pub reply_texts : ℕ → ℕ → List Datum → List ℕ
reply_texts client count [] = []
reply_texts client count (x ∷ xs) =
    (reply_heading client (count + 1) ++ lines_on 1 x) ++ reply_texts client (count + 1) xs

-- pushes to a client
abbrev pub push_texts : ℕ → List Datum → List ℕ
push_texts client [] = []
push_texts client (x ∷ xs) = (push_heading client ++ lines_on 1 x) ++ push_texts client xs

-- the replies and pushes of a client beyond these numbers: first the further replies, and then the further pushes
abbrev pub heard_text : ℕ → ℕ → ℕ → Connection → List ℕ
heard_text client replies pushes c =
    reply_texts client replies (drop replies (shown_replies c)) ++ push_texts client (drop pushes (shown_pushes c))

-- the replies and pushes that a client received between two states of its connection
abbrev pub newly_heard_text : ℕ → Option Connection → Option Connection → List ℕ
newly_heard_text client (Some c) (Some next) =
    heard_text client (length (shown_replies c)) (length (shown_pushes c)) next
newly_heard_text client _ _ = []

-- an event of a script, with the number of its line, and whether it belongs to a `flush`
pub record PlayedEvent : Type 0 where
  pub line : ℕ
  pub event : WorldEvent
  pub is_flush : Bool

-- a line that says that a client is gone; nothing in a `flush`
abbrev pub gone_text : ℕ → Bool → List ℕ
gone_text client true = []
gone_text client false = codes "client " ++ decimal client ++ codes " gone\n"

-- a line that says that an event of a client was rejected
abbrev pub refused_text : ℕ → Cause → List ℕ
refused_text client cause =
    (codes "client " ++ decimal client ++ codes " refused ") ++ (name_of cause ++ codes "\n")

-- the result of an event of a client, whose connection changes from the first state to the second
abbrev pub outcome_text : ℕ → Bool → Outcome → Option Connection → Option Connection → List ℕ
outcome_text client is_flush Done before after = newly_heard_text client before after
outcome_text client is_flush (Refused cause) before after = refused_text client cause
outcome_text client is_flush Gone before after = gone_text client is_flush

-- the number of keys in the store, or the greatest number of 64 bits if it is larger
abbrev pub key_count : World → ℕ
key_count w = min (length w.store) last_count

-- the last line: the number of commands that were run, and the number of keys
abbrev pub counts_text : World → List ℕ
counts_text w =
    (codes "commands " ++ decimal (length w.order) ++ codes " keys ") ++ (decimal (key_count w) ++ codes "\n")

-- one of these values has 2^64 levels or more, so that it is not printed on the level of a reply
abbrev pub HaveTooDeep : List Datum → Type 0
HaveTooDeep [] = ⊥
HaveTooDeep (x ∷ xs) = (2 ^ 64 ≤ 1 + depth x) ⊎ HaveTooDeep xs

-- The text was appended; or, if a write failed or when out of memory, the first part of it.
abbrev pub PlaysText : {X : Type 0} → Option (List ℕ) → Option (List ℕ) → ℕ → ℕ → Result X PlayError → List ℕ → Type 0
PlaysText before after failures failures' (Ok x) text = Appends before after text × (failures' ≡ failures)
PlaysText before after failures failures' (Err Write) text =
    AppendsPart before after text × (failures' ≡ count_after 1 failures)
PlaysText before after failures failures' (Err Memory) text = AppendsPart before after text × (failures' ≡ failures)
PlaysText before after failures failures' (Err (Stopped line cause)) text = ⊥
