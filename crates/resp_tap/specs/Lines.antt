-- Which values of a server belong to which commands.
use Rattle.std.specs.Prelude.{◌≡◌, ℕ, ◌+◌, ◌-◌, ◌&&◌, ◌||◌, Bool, true, false, not, List, [], ◌∷◌, ◌++◌, Option, None, Some, eqb, nat_le, if◌then◌else◌}
use Rattle.resp_value.specs.Bounds.{Bounds}
use Rattle.resp_value.specs.Data.{Datum}
use Rattle.resp_io.specs.Devices.{count_after}
use Rattle.resp_value.specs.Rules.{rules_under}
use Rattle.resp_value.specs.Spellings.{IsSpelling}
use Rattle.resp_value.specs.declared.version.Version.{Version}
use Rattle.resp_value.specs.declared.version.Version.TheVariants.{Two, Three}
use Rattle.resp_session.specs.Heard.{is_push}
use Rattle.resp_session.specs.Reading.{greater_version, is_refusal, version_after}
use Rattle.resp_tap.specs.Kinds.{command_kind}
use Rattle.resp_tap.specs.Notices.{notice_of}
use Rattle.resp_tap.specs.declared.kind.CommandKind.{CommandKind}
use Rattle.resp_tap.specs.declared.kind.CommandKind.TheVariants.{Hello, Reset, Silent, Subscribing, Unpairing}
use Rattle.resp_tap.specs.declared.kind.Verb.{Verb}
use Rattle.resp_tap.specs.declared.kind.Verb.TheVariants.{Subscribe, Unsubscribe, Psubscribe, Punsubscribe, Ssubscribe, Sunsubscribe}
use Rattle.resp_tap.specs.declared.line.Due.{Due}
use Rattle.resp_tap.specs.declared.line.Subscriptions.{Subscriptions}
use Rattle.resp_tap.specs.declared.notice.Notice.{Notice}
use Rattle.resp_tap.specs.declared.notice.Notice.TheVariants as notice

-- What is known of a connection between two values of the server.
pub record LineState : Type 0 where
  pub version : Version
  -- the commands that wait, each with its number. A command of the kind `Unpairing` waits for a RESET.
  pub due : List Due
  -- the number of confirmations that the first of them has had
  pub heard : ℕ
  pub subscriptions : Subscriptions
  -- whether the next command is paired with its reply, which it is unless an `Unpairing` command was the last
  pub is_open : Bool
  -- whether a value has arrived that no command asked for
  pub is_lost : Bool

-- no subscription
abbrev pub no_subscriptions : Subscriptions
no_subscriptions = record { channels = 0; patterns = 0; shards = 0 }

-- a new connection
abbrev pub new_line : LineState
new_line = record {
  version = Two;
  due = [];
  heard = 0;
  subscriptions = no_subscriptions;
  is_open = true;
  is_lost = false;
}

-- ---- commands

-- what waits because of a command of this kind, while commands are paired or not
abbrev pub due_of : ℕ → CommandKind → Bool → List Due
due_of number Silent is_open = []
due_of number kind true = record { number = number; kind = kind } ∷ []
due_of number Reset false = record { number = number; kind = Reset } ∷ []
due_of number kind false = []

-- whether commands are paired after a command of this kind
abbrev pub open_after : CommandKind → Bool → Bool
open_after Unpairing is_open = false
open_after Reset is_open = true
open_after kind is_open = is_open

-- after the command with this number and of this kind
abbrev pub line_with : ℕ → CommandKind → LineState → LineState
line_with number kind l = record l {
  due = l.due ++ due_of number kind l.is_open;
  is_open = open_after kind l.is_open;
}

-- after the next command, unless a value has arrived that no command asked for
abbrev pub line_sent : ℕ → CommandKind → LineState → LineState
line_sent number kind l = if l.is_lost then l else line_with number kind l

-- after these commands, of which the first has this number
abbrev pub line_with_all : ℕ → LineState → List (List (List ℕ)) → LineState
line_with_all number l [] = l
line_with_all number l (words ∷ more) = line_with_all (number + 1) (line_with number (command_kind words) l) more

-- all of these commands wait
abbrev pub asking : List (List (List ℕ)) → LineState
asking commands = line_with_all 1 new_line commands

-- ---- the version of a value

-- the version of a value that may be the reply to a command of this kind
abbrev pub version_for : Version → CommandKind → Version
version_for version (Hello asked) = greater_version version asked
version_for version Unpairing = Three
version_for version _ = version

abbrev pub version_by : Version → List Due → Version
version_by version [] = version
version_by version (first ∷ due) = version_for version first.kind

-- the version of a value that begins now
abbrev pub next_version : LineState → Version
next_version l = if l.is_lost then Three else version_by l.version l.due

-- ---- subscriptions

-- whether there is a subscription
abbrev pub is_subscribed : Subscriptions → Bool
is_subscribed s = not (eqb s.channels 0 && (eqb s.patterns 0 && eqb s.shards 0))

abbrev pub is_two : Version → Bool
is_two Two = true
is_two Three = false

-- whether messages of channels are arrays and may arrive at any time
abbrev pub is_listening : LineState → Bool
is_listening l = is_two l.version && is_subscribed l.subscriptions

-- The subscriptions after a confirmation. Its number is that of the channels and patterns together, or that of the shard
-- channels.
abbrev pub confirmed : Verb → ℕ → Subscriptions → Subscriptions
confirmed Subscribe total s = record s { channels = total - s.patterns }
confirmed Unsubscribe total s = record s { channels = total - s.patterns }
confirmed Psubscribe total s = record s { patterns = total - s.channels }
confirmed Punsubscribe total s = record s { patterns = total - s.channels }
confirmed Ssubscribe total s = record s { shards = total }
confirmed Sunsubscribe total s = record s { shards = total }

-- the number of subscriptions of the class of a command
abbrev pub number_in_class : Verb → Subscriptions → ℕ
number_in_class Subscribe s = s.channels
number_in_class Unsubscribe s = s.channels
number_in_class Psubscribe s = s.patterns
number_in_class Punsubscribe s = s.patterns
number_in_class Ssubscribe s = s.shards
number_in_class Sunsubscribe s = s.shards

abbrev pub same_verb : Verb → Verb → Bool
same_verb Subscribe Subscribe = true
same_verb Unsubscribe Unsubscribe = true
same_verb Psubscribe Psubscribe = true
same_verb Punsubscribe Punsubscribe = true
same_verb Ssubscribe Ssubscribe = true
same_verb Sunsubscribe Sunsubscribe = true
same_verb _ _ = false

-- whether a value confirms a channel of a command of this kind
abbrev pub confirms : CommandKind → Notice → Bool
confirms (Subscribing verb channels) (notice.Confirmation other total) = same_verb verb other
confirms kind what = false

-- the subscriptions after a value that confirms a channel
abbrev pub subscriptions_by : Notice → Subscriptions → Subscriptions
subscriptions_by (notice.Confirmation verb total) s = confirmed verb total s
subscriptions_by what s = s

-- Whether a command has all its confirmations, after one more and with these subscriptions: one for each channel that it
-- names, or none of its class is left.
abbrev pub has_all : CommandKind → ℕ → Subscriptions → Bool
has_all (Subscribing verb channels) heard s =
    if eqb channels 0 then eqb (number_in_class verb s) 0 else nat_le channels (count_after 1 heard)
has_all kind heard s = true

-- ---- values

-- whether a value is a message or a confirmation, which may arrive at any time while there are subscriptions
abbrev pub is_notification : Notice → Bool
is_notification notice.Message = true
is_notification (notice.Confirmation verb total) = true
is_notification what = false

abbrev pub is_confirmation : Notice → Bool
is_confirmation (notice.Confirmation verb total) = true
is_confirmation what = false

abbrev pub is_reset : Notice → Bool
is_reset notice.Reset = true
is_reset what = false

-- whether a value is no reply, unless it confirms a channel: a push, or a message or a confirmation in version 2
abbrev pub is_free : LineState → Datum → Bool
is_free l x = is_push x || (is_listening l && is_notification (notice_of x))

-- the commands that wait after a confirmation
abbrev pub due_confirmed : Bool → Due → List Due → List Due
due_confirmed true first due = due
due_confirmed false first due = first ∷ due

-- after a confirmation of the first command that waits
abbrev pub after_confirmation : LineState → Due → List Due → Notice → LineState
after_confirmation l first due what =
    let s = subscriptions_by what l.subscriptions in
    let is_whole = has_all first.kind l.heard s in
    record l {
      due = due_confirmed is_whole first due;
      heard = if is_whole then 0 else count_after 1 l.heard;
      subscriptions = s;
    }

-- the version that a command of this kind asks for
abbrev pub asked_by_kind : CommandKind → Option Version
asked_by_kind (Hello version) = Some version
asked_by_kind Reset = Some Two
asked_by_kind kind = None

-- the subscriptions after the reply to a command of this kind
abbrev pub subscriptions_after : CommandKind → Datum → Subscriptions → Subscriptions
subscriptions_after Reset x s = if is_refusal x then s else no_subscriptions
subscriptions_after kind x s = s

-- after the first RESET that waits behind an `Unpairing` command was answered
abbrev pub resumed : LineState → List Due → LineState
resumed l [] = record l { is_lost = true }
resumed l (reset ∷ due) = record l { version = Two; due = due; heard = 0; subscriptions = no_subscriptions }

-- after a value that may be the reply to the first command that waits
abbrev pub after_reply : LineState → CommandKind → List Due → Notice → Datum → LineState
after_reply l Unpairing due what x = if is_reset what then resumed l due else l
after_reply l kind due what x = record l {
  version = version_after l.version (asked_by_kind kind) x;
  due = due;
  heard = 0;
  subscriptions = subscriptions_after kind x l.subscriptions;
}

-- after a value, if this is the first command that waits
abbrev pub after_first : LineState → Due → List Due → Notice → Bool → Datum → LineState
after_first l first due what free x =
    if confirms first.kind what then after_confirmation l first due what else
    if free then l else
    after_reply l first.kind due what x

-- after a value, if these commands wait
abbrev pub after_due : LineState → List Due → Notice → Bool → Datum → LineState
after_due l [] what free x = record l { is_lost = not (free && not (is_confirmation what)) }
after_due l (first ∷ due) what free x = after_first l first due what free x

-- after a value
abbrev pub line_after : LineState → Datum → LineState
line_after l x = if l.is_lost then l else after_due l l.due (notice_of x) (is_free l x) x

-- ---- numbers

-- the number of the first command that waits
abbrev pub number_first : List Due → Option ℕ
number_first [] = None
number_first (first ∷ due) = Some first.number

-- the command that a value belongs to which may be the reply to the first command that waits
abbrev pub number_of_reply : Due → CommandKind → List Due → Notice → Option ℕ
number_of_reply first Unpairing due what = if is_reset what then number_first due else None
number_of_reply first kind due what = Some first.number

-- the command that a value belongs to, if this is the first command that waits; a push is no reply
abbrev pub number_by_first : Due → List Due → Notice → Bool → Bool → Option ℕ
number_by_first first due what free push =
    if confirms first.kind what then (if push then None else Some first.number) else
    if free then None else
    number_of_reply first first.kind due what

abbrev pub number_by_due : List Due → Notice → Bool → Bool → Option ℕ
number_by_due [] what free push = None
number_by_due (first ∷ due) what free push = number_by_first first due what free push

-- the number of the command that a value belongs to
abbrev pub number_for : LineState → Datum → Option ℕ
number_for l x = if l.is_lost then None else number_by_due l.due (notice_of x) (is_free l x) (is_push x)

-- the place of the command among those that wait that the next reply belongs to
abbrev pub asked_by_first : CommandKind → ℕ
asked_by_first Unpairing = 1
asked_by_first kind = 0

abbrev pub asked_at : List Due → ℕ
asked_at [] = 0
asked_at (first ∷ due) = asked_by_first first.kind

-- a value with its number, if it has one
abbrev pub numbered : Option ℕ → Datum → List (ℕ × Datum)
numbered None x = []
numbered (Some number) x = (number, x) ∷ []

-- the replies among these values, each with the number of its command
abbrev pub paired : LineState → List Datum → List (ℕ × Datum)
paired l [] = []
paired l (x ∷ xs) = numbered (number_for l x) x ++ paired (line_after l x) xs

-- ---- whole texts

-- the text consists of spellings of these values in order, each in the version in which it is read, and leads to this
-- state
abbrev pub ReadsLine : Bounds → LineState → List Datum → List ℕ → LineState → Type 0
ReadsLine limits l [] text after = (text ≡ []) × (after ≡ l)
ReadsLine limits l (x ∷ xs) text after = (front : List ℕ) × (rest : List ℕ) ×
    IsSpelling (rules_under (next_version l) limits) x front × ReadsLine limits (line_after l x) xs rest after ×
    (text ≡ front ++ rest)

-- ---- the first byte of a value

-- whether these bytes begin a value that is not a push
abbrev pub begins_reply : List ℕ → Bool
begins_reply [] = false
begins_reply (byte ∷ bytes) = not (eqb byte 62)

-- whether a value that begins so is one that no command asked for
abbrev pub is_unasked : List Due → Bool → List ℕ → Bool
is_unasked [] listening piece = begins_reply piece && not listening
is_unasked (first ∷ due) listening piece = false

-- the state before the first byte of a value, which begins with these bytes
abbrev pub settled : List ℕ → LineState → LineState
settled piece l = record l { is_lost = l.is_lost || is_unasked l.due (is_listening l) piece }
