-- The values that are about subscriptions, and the reply to RESET.
use Rattle.std.specs.Prelude.{ℕ, ℤ, pos, negsuc, ◌||◌, Bool, Option, None, Some, if◌then◌else◌, codes}
use Rattle.std.specs.Prelude.{List}
use Rattle.std.specs.Str.{bytes_eq}
use Rattle.resp_value.specs.Data.{Datum, Data, Array, Push, scalar, aggregate, none, more}
use Rattle.resp_value.specs.Data as d
use Rattle.resp_tap.specs.Kinds.{verb_named}
use Rattle.resp_tap.specs.declared.kind.Verb.{Verb}
use Rattle.resp_tap.specs.declared.notice.Notice.{Notice}
use Rattle.resp_tap.specs.declared.notice.Notice.TheVariants.{Confirmation, Message, Reset, Other}

-- a number of subscriptions
abbrev pub total_of : ℤ → ℕ
total_of (pos n) = n
total_of (negsuc n) = 0

-- whether a message with this first word is one of a channel or a pattern
abbrev pub is_message_word : List ℕ → Bool
is_message_word word =
    bytes_eq word (codes "message") || bytes_eq word (codes "pmessage") || bytes_eq word (codes "smessage")

-- a message with this first word
abbrev pub message_by : List ℕ → Notice
message_by word = if is_message_word word then Message else Other

-- a confirmation with this verb and this number of subscriptions, if there is a verb
abbrev pub confirmation_by : Option Verb → ℤ → Notice
confirmation_by (Some verb) total = Confirmation verb (total_of total)
confirmation_by None total = Other

-- three members of which the first is this word, and the last is this value
abbrev pub three_by : List ℕ → Datum → Notice
three_by word (scalar (d.Int total)) = confirmation_by (verb_named word) total
three_by word _ = message_by word

-- members of which the first is this word
abbrev pub members_by : List ℕ → Data → Notice
members_by word (more channel (more last none)) = three_by word last
members_by word _ = message_by word

-- the notice of these members of an array or a push
abbrev pub notice_in : Data → Notice
notice_in (more (scalar (d.Bulk word)) xs) = members_by word xs
notice_in _ = Other

-- the notice of a simple string
abbrev pub notice_of_line : List ℕ → Notice
notice_of_line text = if bytes_eq text (codes "RESET") then Reset else Other

-- What a value says of subscriptions: a confirmation of a channel, with the number of subscriptions after it, or a
-- message; or that it is the reply to RESET.
abbrev pub notice_of : Datum → Notice
notice_of (scalar (d.Simple text)) = notice_of_line text
notice_of (aggregate Array xs) = notice_in xs
notice_of (aggregate Push xs) = notice_in xs
notice_of _ = Other
