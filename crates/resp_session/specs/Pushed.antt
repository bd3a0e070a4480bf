-- The pushes of a run.
use Rattle.std.specs.Prelude.{◌≡◌, ℕ, ◌==◌, ◌<◌, ◌^◌, false, List, [], ◌∷◌, ◌++◌, Some, if◌then◌else◌, codes}
use Rattle.resp_value.specs.Bounds.{Bounds, AreBounds}
use Rattle.resp_value.specs.Canonical.{Fits}
use Rattle.resp_value.specs.Data.{Datum, aggregate, data_of_list}
use Rattle.resp_value.specs.Data as d
use Rattle.resp_value.specs.Rules.{rules_under}
use Rattle.resp_value.specs.declared.cause.Cause.{Cause}
use Rattle.resp_value.specs.declared.version.Version.TheVariants.{Three}
use Rattle.resp_session.specs.Connections.{Connection, shown_pushes, values_of}
use Rattle.resp_session.specs.Heard.{pushes_of}
use Rattle.resp_session.specs.Orders.{IsBeginning}
use Rattle.resp_session.specs.Replies.{bulk_string}
use Rattle.resp_session.specs.Requests.{Request, FitsRequest, RefusesRequest, is_unsent_request}
use Rattle.resp_session.specs.Runs.{Outcome, Done, Refused, Gone, RefusesPush, Run}
use Rattle.resp_session.specs.Worlds.{World, WorldEvent, Greet, ToServer, Push, connection_at, new_world}

-- the push to this client that an event with this outcome makes, if it makes one
abbrev pub pushed_by : ℕ → Outcome → WorldEvent → List Datum
pushed_by i Done (Push j items) = if j == i then aggregate d.Push (data_of_list items) ∷ [] else []
pushed_by i Done _ = []
pushed_by i (Refused cause) event = []
pushed_by i Gone event = []

-- the pushes to this client that happened in a run, in order
abbrev pub pushed_in : (i : ℕ) (limits : Bounds) (w : World) (events : List WorldEvent) (last : World) →
    Run limits w events last → List Datum
pushed_in i limits w [] last run = []
pushed_in i limits w (event ∷ events) last (outcome, next, step, run) =
    pushed_by i outcome event ++ pushed_in i limits next events last run

-- the pushes that a session has sent are, in order, those of the run's events that were neither refused nor for a
-- client that does not exist
abbrev pub PushesAreOfEvents : Type 0
PushesAreOfEvents = (limits : Bounds) (n : ℕ) (events : List WorldEvent) (w : World)
    (run : Run limits (new_world n) events w) (i : ℕ) (c : Connection) → connection_at w.connections i ≡ Some c →
    pushes_of (values_of c.messages) ≡ pushed_in i limits (new_world n) events w run

-- the pushes that are shown to a client are a prefix of them
abbrev pub ShownPushesAreOfEvents : Type 0
ShownPushesAreOfEvents = (limits : Bounds) (n : ℕ) (events : List WorldEvent) (w : World)
    (run : Run limits (new_world n) events w) (i : ℕ) (c : Connection) → connection_at w.connections i ≡ Some c →
    IsBeginning (shown_pushes c) (pushed_in i limits (new_world n) events w run)

-- a request that a client may send is never refused if it is within the limits and a number is left
abbrev pub RequestsThatFitAreSent : Type 0
RequestsThatFitAreSent = (limits : Bounds) (count : ℕ) (request : Request) → is_unsent_request request ≡ false →
    FitsRequest limits request → count < 2 ^ 63 → (cause : Cause) → RefusesRequest limits count request cause → ⊥

-- a session of version 3 never refuses a push within the limits
abbrev pub PushesThatFitAreSent : Type 0
PushesThatFitAreSent = (limits : Bounds) (push : Datum) → Fits (rules_under Three limits) push →
    (cause : Cause) → RefusesPush limits Three push cause → ⊥

-- a client requests version 3, and then x is pushed to it
abbrev pub greeted_and_pushed : List WorldEvent
greeted_and_pushed = Greet 1 (Some Three) ∷ ToServer 1 1000 ∷ Push 1 (bulk_string (codes "x") ∷ []) ∷ []

-- under any limits this push happens
abbrev pub APushHappens : Type 0
APushHappens = (limits : Bounds) → AreBounds limits → (w : World) ×
    (run : Run limits (new_world 1) greeted_and_pushed w) ×
    (pushed_in 1 limits (new_world 1) greeted_and_pushed w run ≡
    aggregate d.Push (data_of_list (bulk_string (codes "x") ∷ [])) ∷ [])
