-- The commands that are taken from the bytes of a client.
use Rattle.std.specs.Prelude.{◌≡◌, ℕ, Bool, ◌≤◌, List, [], ◌∷◌, ◌++◌, length, map, take, Ok, Option, None, Some, OnOk, OnErr, IfErr, Result, true}
use Rattle.std.specs.List.{AllByRecursion, concat}
use Rattle.resp_frames.specs.declared.begun.Begun.{Begun}
use Rattle.resp_frames.specs.Framing.{HasBegun, IsReady}
use Rattle.resp_line.specs.Inline.{IsWithinLine}
use Rattle.resp_board.specs.Boards.{Ask, Own}
use Rattle.resp_board.specs.Histories.{History, with_event}
use Rattle.resp_board.specs.Runs.{HasRun, KeepsOpen, KeepsRun, WhereRun}
use Rattle.resp_board.specs.declared.board.Board.{Board}
use Rattle.resp_commands.specs.declared.command.Class.{Class}
use Rattle.resp_proxy.specs.Clients.{Holds, is_closing}
use Rattle.resp_proxy.specs.Leaving.{NeedsOwn}
use Rattle.resp_proxy.specs.OwnReplies.{IsError, IsListed, IsReply, IsReplyBy, IsReplyOf, Stays, ok, shared_treatment, treatment}
use Rattle.resp_proxy.specs.Refusing.{Refuses}
use Rattle.resp_value.specs.Bounds.{Bounds}
use Rattle.resp_proxy.specs.declared.part.Part.{Part}
use Rattle.resp_proxy.specs.declared.part.Part.TheVariants.{Aside, Partial, Whole}
use Rattle.resp_proxy.specs.Terms.{IsAdmitted, IsNoRequest, IsRequestOf, MayBeSent, Terms}
use Rattle.resp_proxy.specs.Unfinished.{HasUnfinished, WhereUnfinished, terms_of}
use Rattle.resp_proxy.specs.declared.client.Client.{Client}
use Rattle.resp_proxy.specs.declared.error.ClientError.{ClientError}
use Rattle.resp_proxy.specs.declared.error.ClientError.TheVariants as error
use Rattle.resp_proxy.specs.declared.intake.Intake.{Intake}
use Rattle.resp_proxy.specs.declared.route.Route.{Route}
use Rattle.resp_frames.specs.declared.unfinished.Unfinished.{Unfinished}
use Rattle.resp_scan.specs.Whole.{BeginsWith}
use Rattle.resp_value.specs.Rules.{rules_under}
use Rattle.resp_value.specs.Spellings.{IsSpelling}
use Rattle.resp_value.specs.Words.{command_of}
use Rattle.resp_value.specs.declared.version.Version.{Version}
use Rattle.resp_value.specs.declared.version.Version.TheVariants.{Two}

-- what the proxy did with a part of a client's bytes
pub data Deed : Type 0 where
  -- it did nothing
  Passes : Deed
  -- it queued these bytes for the server
  Queues : List ℕ → Deed
  -- it gave this answer itself
  Answers : List ℕ → Deed

-- a part of a client's bytes, and what the proxy did with it
pub record Taken : Type 0 where
  pub text : List ℕ
  pub deed : Deed

-- the bytes of these parts
abbrev pub texts_taken : List Taken → List (List ℕ)
texts_taken taken = map (λ (t : Taken). t.text) taken

-- the text is a command that may be sent, and these bytes were queued for it
pub record IsQueued (terms : Terms) (text sent : List ℕ) : Type 0 where
  pub name : List ℕ
  pub arguments : List (List ℕ)
  pub request : IsRequestOf terms text sent (name ∷ arguments)
  pub allowed : MayBeSent terms name arguments

-- This is the proxy's own reply to a command of these words. The command is not one that is sent, and the client does not leave
-- its line before it.
pub record IsOwnReplyTo (terms : Terms) (route : Route) (name : List ℕ) (arguments : List (List ℕ)) (answer : List ℕ) : Type 0 where
  pub class : Option Class
  pub listed : IsListed class name arguments
  pub not_admitted : class ≡ None → IsAdmitted terms name → ⊥
  pub stays : Stays terms route class name arguments
  -- the name that the client has given itself
  pub called : List ℕ
  pub reply : IsReplyBy (treatment terms.pings route.is_first class name arguments) route.version route.client.number called answer

-- the text is a command that the proxy itself answers, and this is the answer
pub record IsAnswered (terms : Terms) (route : Route) (text answer : List ℕ) : Type 0 where
  pub sent : List ℕ
  pub name : List ℕ
  pub arguments : List (List ℕ)
  pub request : IsRequestOf terms text sent (name ∷ arguments)
  pub reply : IsOwnReplyTo terms route name arguments answer

-- The text has no words, and nothing was done; or it is a command that may be sent, and it was queued; or it is a command that
-- the proxy itself answers, and it was answered.
abbrev pub Fits : Terms → Route → List ℕ → Deed → Type 0
Fits terms route text Passes = IsNoRequest terms text
Fits terms route text (Queues sent) = IsQueued terms text sent
Fits terms route text (Answers answer) = IsAnswered terms route text answer

abbrev pub IsTaken : Terms → Route → Taken → Type 0
IsTaken terms route t = Fits terms route t.text t.deed

-- this was done for this client
abbrev pub with_one : Route → Deed → History → History
with_one route Passes p = p
with_one route (Queues sent) p = with_event (Ask route.client route.line.place sent) p
with_one route (Answers answer) p = with_event (Own route.client answer) p

-- this was done for this client, in order
abbrev pub with_taken : Route → List Taken → History → History
with_taken route [] p = p
with_taken route (t ∷ taken) p = with_taken route taken (with_one route t.deed p)

-- Bytes of a client are these parts and then other bytes, and the board has the commands.
pub record Takes (terms : Terms) (route : Route) (bytes after : List ℕ) (old new : Board) : Type 0 where
  pub taken : List Taken
  pub whole : bytes ≡ concat (texts_taken taken) ++ after
  pub commands : AllByRecursion (IsTaken terms route) taken
  pub run : WhereRun old (λ p. HasRun new (with_taken route taken p))

-- the text begins with a command for which clients share a connection, and this is the proxy's own reply
pub record IsLocalReply (limits : Bounds) (pings : Bool) (text answer : List ℕ) : Type 0 where
  pub name : List ℕ
  pub arguments : List (List ℕ)
  pub rest : List ℕ
  pub begins : BeginsWith limits text (command_of (name ∷ arguments)) rest
  pub reply : IsReplyOf (shared_treatment pings name arguments) answer

-- the text begins with a command whose name is admitted
pub record AdmitsText (terms : Terms) (text : List ℕ) : Type 0 where
  pub name : List ℕ
  pub arguments : List (List ℕ)
  pub rest : List ℕ
  pub begins : BeginsWith terms.rules.limits text (command_of (name ∷ arguments)) rest
  pub admitted : IsAdmitted terms name

-- a command of these words and this text was queued, if it may be sent, or has the proxy's own reply
abbrev pub Does : Terms → Route → List ℕ → List (List ℕ) → List ℕ → Deed → Type 0
Does terms route name arguments text Passes = ⊥
Does terms route name arguments text (Queues sent) = (sent ≡ text) × MayBeSent terms name arguments
Does terms route name arguments text (Answers answer) = IsOwnReplyTo terms route name arguments answer

-- the text is a command, which was queued, if it may be sent, or answered
pub record Carries (terms : Terms) (route : Route) (text : List ℕ) (old new : Board) : Type 0 where
  pub name : List ℕ
  pub arguments : List (List ℕ)
  pub spelled : IsSpelling (rules_under Two terms.rules.limits) (command_of (name ∷ arguments)) text
  pub deed : Deed
  pub does : Does terms route name arguments text deed
  pub run : WhereRun old (λ p. HasRun new (with_one route deed p))

-- this was done with a part of the bytes
pub record TakesPart (terms : Terms) (route : Route) (text : List ℕ) (old new : Board) : Type 0 where
  pub deed : Deed
  pub fits : Fits terms route text deed
  pub run : WhereRun old (λ p. HasRun new (with_one route deed p))

-- these bytes are a command that needs a connection of the client's own, and nothing was done
pub record SetsAside (terms : Terms) (bytes text : List ℕ) (old new : Board) : Type 0 where
  pub same : text ≡ bytes
  pub needs : NeedsOwn terms bytes
  pub kept : KeepsRun old new

-- a part was taken or put aside that is an array and ends in the piece, or no array ends in it
abbrev pub TakesArray : Terms → Route → List ℕ → List ℕ → Begun → Part → Board → Board → Type 0
TakesArray terms route front piece begun Partial old new = HasBegun terms.rules begun (front ++ piece) × KeepsRun old new
TakesArray terms route front piece begun (Whole used) old new =
    HasBegun terms.rules begun [] × TakesPart terms route (front ++ take used piece) old new
TakesArray terms route front piece begun (Aside used text) old new =
    HasBegun terms.rules begun [] × SetsAside terms (front ++ take used piece) text.items old new

-- a part was taken or put aside that is a line and ends in the piece, or no line ends in it
abbrev pub TakesLine : Terms → Route → List ℕ → List ℕ → List ℕ → Part → Board → Board → Type 0
TakesLine terms route front piece line Partial old new = (line ≡ front ++ piece) × IsWithinLine line × KeepsRun old new
TakesLine terms route front piece line (Whole used) old new = (line ≡ []) × TakesPart terms route (front ++ take used piece) old new
TakesLine terms route front piece line (Aside used text) old new =
    (line ≡ []) × SetsAside terms (front ++ take used piece) text.items old new

-- a part was taken or put aside that ends in the piece, or none ends in it
abbrev pub TakesOne : Terms → Route → List ℕ → List ℕ → Unfinished → Part → Board → Board → Type 0
TakesOne terms route front piece u Partial old new = HasUnfinished terms u (front ++ piece) × KeepsRun old new
TakesOne terms route front piece u (Whole used) old new =
    HasUnfinished terms u [] × TakesPart terms route (front ++ take used piece) old new
TakesOne terms route front piece u (Aside used text) old new =
    HasUnfinished terms u [] × SetsAside terms (front ++ take used piece) text.items old new

-- the client has begun a command with these bytes, or they are the command that was put aside
abbrev pub IsLeft : Terms → Unfinished → List ℕ → Option (List ℕ) → Type 0
IsLeft terms u after None = HasUnfinished terms u after
IsLeft terms u after (Some text) = HasUnfinished terms u [] × (text ≡ after) × NeedsOwn terms after

-- Whole commands were taken from the bytes, and the others are begun or put aside. After an error the others are its cause, and
-- they are lost.
pub record TakesSome (terms : Terms) (route : Route) (bytes : List ℕ) (u : Unfinished) (aside : Option (List ℕ))
    (end : Result (Unit {0}) ClientError) (old new : Board) : Type 0 where
  pub after : List ℕ
  pub takes : Takes terms route bytes after old new
  pub begun : OnOk end (IsLeft terms u after aside)
  pub refused : IfErr end (Refuses terms after)

-- Whole commands were taken from the bytes, and the client holds the others. After an error the others are its cause, and they
-- are lost.
pub record TakesHeld (terms : Terms) (route : Route) (bytes : List ℕ) (c : Client) (end : Result (Unit {0}) ClientError)
    (old new : Board) : Type 0 where
  pub after : List ℕ
  pub takes : Takes terms route bytes after old new
  pub holds : OnOk end (Holds terms c after)
  pub refused : IfErr end (Refuses terms after)

-- the client has one more answer, or not
abbrev pub with_last_answer : Route → Option (List ℕ) → History → History
with_last_answer route None p = p
with_last_answer route (Some answer) p = with_event (Own route.client answer) p

-- The last answer to a client that is closed because of this error. There is none if the error has none, or memory ran out.
abbrev pub IsLastAnswer : Version → ClientError → Option (List ℕ) → Type 0
IsLastAnswer version e None = Unit {0}
IsLastAnswer version error.Quit (Some text) = IsReply version ok text
IsLastAnswer version (error.NoneLeft shown) (Some text) = IsError version text
IsLastAnswer version (error.Protocol e) (Some text) = IsError version text
IsLastAnswer version error.Quotes (Some text) = IsError version text
IsLastAnswer version error.LongLine (Some text) = IsError version text
IsLastAnswer version error.OverLimits (Some text) = IsError version text
IsLastAnswer version _ (Some text) = ⊥

-- the client has one more answer because of this error, or nothing has changed
pub record SaysLast (route : Route) (e : ClientError) (old new : Board) : Type 0 where
  pub answer : Option (List ℕ)
  pub is_last : IsLastAnswer route.version e answer
  pub run : WhereRun old (λ p. HasRun new (with_last_answer route answer p))

-- Bytes of a client are these parts, whose commands were queued or answered, and other bytes. The client holds the other
-- bytes. After an error they are its cause, and they are lost. The client is closing, and it may have one more answer.
pub record TakesIn (terms : Terms) (route : Route) (bytes : List ℕ) (c : Client) (end : Result (Unit {0}) ClientError)
    (old new : Board) : Type 0 where
  pub taken : List Taken
  pub after : List ℕ
  pub last : Option (List ℕ)
  pub whole : bytes ≡ concat (texts_taken taken) ++ after
  pub commands : AllByRecursion (IsTaken terms route) taken
  pub run : WhereRun old (λ p. HasRun new (with_last_answer route last (with_taken route taken p)))
  pub holds : OnOk end ((last ≡ None) × Holds terms c after)
  pub refused : IfErr end (Refuses terms after)
  pub said : IfErr end (λ e. IsLastAnswer route.version e last)
  pub shut : OnErr end (Holds terms c [] × (is_closing c ≡ true))

-- these bytes of a piece were taken
pub record HasTaken (intake : Intake) (u : Unfinished) (old : Board) (route : Route) (piece : List ℕ) (used : ℕ) (intake' : Intake)
    (u' : Unfinished) (new : Board) : Type 0 where
  pub within : used ≤ length piece
  pub ready : IsReady intake.frames → IsReady intake'.frames
  pub same_terms : terms_of intake' ≡ terms_of intake
  pub same_own : intake'.admits_own ≡ intake.admits_own
  pub clients : KeepsOpen old new
  pub taken : WhereUnfinished intake u (λ front. TakesSome (terms_of intake) route (front ++ take used piece) u' None (Ok tt) old new)
