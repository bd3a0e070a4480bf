-- The text that is printed for replies and pushes, and the number of errors among them.
use Rattle.std.specs.Prelude.{◌≡◌, ◌-◌, ◌+◌, ℕ, List, [], ◌∷◌, ◌++◌, length, filter, Option, Result, Ok, Err, codes, decimal, if◌then◌else◌}
use Rattle.resp_value.specs.Data.{Datum}
use Rattle.resp_io.specs.Devices.{Appends, count_after}
use Rattle.resp_value.specs.Values.{datum_of}
use Rattle.resp_value.specs.declared.value.Value.TheVariants as value
use Rattle.resp_session.specs.Heard.{is_push, replies_of}
use Rattle.resp_session.specs.Reading.{is_refusal}
use Rattle.resp_client.specs.declared.heard.What.{What}
use Rattle.resp_client.specs.declared.heard.What.TheVariants.{Reply, Push, Shown, More}
use Rattle.resp_json.specs.Json.{json_line}
use Rattle.resp_print.specs.Shown.{lines_on}
use Rattle.resp_print.specs.Written.{AppendsPart}
use Rattle.resp_cli_ask.specs.Lined.{lined_text}
use Rattle.resp_cli_ask.specs.declared.error.ExchangeError.{ExchangeError}
use Rattle.resp_cli_ask.specs.declared.error.ExchangeError.TheVariants as error
use Rattle.resp_cli_ask.specs.declared.telling.ReplyForm.{ReplyForm}
use Rattle.resp_cli_ask.specs.declared.telling.ReplyForm.TheVariants.{Alone, Lined, Numbered, Json, Counted}
use Rattle.resp_cli_ask.specs.declared.telling.Telling.{Telling}

-- the text for a reply with this number
abbrev pub numbered_text : ReplyForm → ℕ → Datum → List ℕ
numbered_text Alone number x = lines_on 0 x
numbered_text Lined number x = lined_text x
numbered_text Numbered number x = (codes "reply " ++ decimal number ++ codes "\n") ++ lines_on 1 x
numbered_text Json number x = json_line x
numbered_text Counted number x = []

-- the text for the reply to the client's command of this number
abbrev pub reply_text : Telling → ℕ → Datum → List ℕ
reply_text t number x = numbered_text t.form (number - t.before) x

-- the text for a push
abbrev pub push_text : ReplyForm → Datum → List ℕ
push_text Alone x = lines_on 0 x
push_text Lined x = lines_on 0 x
push_text Numbered x = lines_on 0 x
push_text Json x = json_line x
push_text Counted x = []

-- the text for values that are received one after another; the first reply is that to the client's command of this
-- number
abbrev pub heard_text : Telling → ℕ → List Datum → List ℕ
heard_text t number [] = []
heard_text t number (x ∷ xs) = if is_push x then push_text t.form x ++ heard_text t number xs
    else reply_text t number x ++ heard_text t (number + 1) xs

-- how many of these values are replies that are errors
abbrev pub errors_among : List Datum → ℕ
errors_among xs = length (filter is_refusal (replies_of xs))

-- the text for what a client has received
abbrev pub text_of : Telling → What → List ℕ
text_of t (Reply number x) = reply_text t number (datum_of x)
text_of t (Push items) = push_text t.form (datum_of (value.Push items))
text_of t Shown = []
text_of t More = []

-- whether it is a reply that is an error, as a number
abbrev pub errors_of : What → ℕ
errors_of (Reply number x) = if is_refusal (datum_of x) then 1 else 0
errors_of _ = 0

-- the same with this many errors more
abbrev pub counted_after : ℕ → Telling → Telling
counted_after n t = record t { errors = count_after n t.errors }

-- the text was printed, or its first part if a write failed or memory was out
abbrev pub TellsText : {X : Type 0} → Option (List ℕ) → Option (List ℕ) → ℕ → ℕ → Result X ExchangeError → List ℕ → Type 0
TellsText before after failures failures' (Ok x) text = Appends before after text × (failures' ≡ failures)
TellsText before after failures failures' (Err error.Output) text =
    AppendsPart before after text × (failures' ≡ count_after 1 failures)
TellsText before after failures failures' (Err error.Memory) text = AppendsPart before after text × (failures' ≡ failures)
TellsText before after failures failures' (Err _) text = ⊥
