-- Why a command of a client is not carried out.
use Rattle.std.specs.Prelude.{◌≡◌, ◌⊎◌, ℕ, ◌<◌, false, List, ◌∷◌, Option, codes}
use Rattle.std.specs.Borrow.{Bor}
use Rattle.resp_frames.specs.Keys.{IsFirst}
use Rattle.resp_line.specs.declared.inline.InlineError.{InlineError}
use Rattle.resp_line.specs.declared.inline.InlineError.TheVariants as inline
use Rattle.resp_proxy.specs.declared.answer.Answer.{Answer}
use Rattle.resp_proxy.specs.declared.answer.Answer.TheVariants as answer
use Rattle.resp_proxy.specs.declared.error.ClientError.{ClientError}
use Rattle.resp_proxy.specs.declared.error.ClientError.TheVariants as error
use Rattle.resp_proxy.specs.declared.error.CommandName.{CommandName}
use Rattle.resp_proxy.specs.declared.part.Part.{Part}
use Rattle.resp_proxy.specs.declared.part.Part.TheVariants as part
use Rattle.resp_proxy.specs.Leaving.{MayNeedOwn}
use Rattle.resp_proxy.specs.OwnReplies.{ClosesHttp, IsReplyBy, LeavesToServer, NeedsAnother, Quits, Treatment}
use Rattle.resp_proxy.specs.Terms.{Terms}
use Rattle.resp_proxy.specs.declared.route.Route.{Route}
use Rattle.resp_proxy.specs.Refusing.{NamesCommand, SameLetters}
use Rattle.resp_scan.specs.Whole.{BeginsWith}
use Rattle.resp_value.specs.Bounds.{Bounds}
use Rattle.resp_value.specs.Words.{command_of}

-- the text begins with an array of words, and the first of them is this one
pub record BeginsNamed (limits : Bounds) (text wanted : List ℕ) : Type 0 where
  pub name : List ℕ
  pub arguments : List (List ℕ)
  pub rest : List ℕ
  pub begins : BeginsWith limits text (command_of (name ∷ arguments)) rest
  pub named : SameLetters name wanted

-- the text begins with an array of words that may need a connection of the client's own
pub record BeginsForOwn (limits : Bounds) (text : List ℕ) : Type 0 where
  pub name : List ℕ
  pub arguments : List (List ℕ)
  pub rest : List ℕ
  pub begins : BeginsWith limits text (command_of (name ∷ arguments)) rest
  pub kind : MayNeedOwn name arguments

-- the text begins with such a command, and the error names it
pub record BeginsNamedForOwn (limits : Bounds) (text : List ℕ) (shown : CommandName) : Type 0 where
  pub command : BeginsForOwn limits text
  pub first : Option (Bor (List ℕ))
  pub is_first : IsFirst command.arguments first
  pub names : NamesCommand command.name first shown

-- the client is closed, and the error names the command with this name and this first word after it
abbrev pub IsNoneLeft : List ℕ → Option (Bor (List ℕ)) → Answer → Type 0
IsNoneLeft name first (answer.NoneLeft shown) = NamesCommand name first shown
IsNoneLeft name first _ = ⊥

-- the treatment is a reply
abbrev pub HasReply : Treatment → Type 0
HasReply Quits = ⊥
HasReply ClosesHttp = ⊥
HasReply NeedsAnother = ⊥
HasReply LeavesToServer = ⊥
HasReply _ = Unit {0}

-- the answer closes the client, as this treatment of a command with this name and this first word after it does
abbrev pub Closes : Treatment → List ℕ → Option (Bor (List ℕ)) → Answer → Type 0
Closes t name first (answer.Reply text) = ⊥
Closes t name first answer.Quit = t ≡ Quits
Closes t name first answer.Http = t ≡ ClosesHttp
Closes t name first (answer.NoneLeft shown) = (t ≡ NeedsAnother) × NamesCommand name first shown

-- the answer is that of this treatment, to a client with this name, of a command with this name and this first word after it
abbrev pub Reacts : Route → List ℕ → Treatment → List ℕ → Option (Bor (List ℕ)) → Answer → Type 0
Reacts route kept t name first (answer.Reply text) = IsReplyBy t route.version route.client.number kept text.items
Reacts route kept t name first closing = Closes t name first closing

-- the answer is that of this treatment, to a client with this name, of a command with this name and these words after it
pub record FitsAnswer (route : Route) (kept : List ℕ) (t : Treatment) (name : List ℕ) (words : List (List ℕ)) (given : Answer) : Type 0 where
  pub first : Option (Bor (List ℕ))
  pub is_first : IsFirst words first
  pub reacts : Reacts route kept t name first given

-- why an array is not carried out
abbrev pub RefusesArray : Terms → List ℕ → ClientError → Type 0
RefusesArray terms text error.Quit = BeginsNamed terms.rules.limits text (codes "QUIT")
RefusesArray terms text error.Http =
    BeginsNamed terms.rules.limits text (codes "POST") ⊎ BeginsNamed terms.rules.limits text (codes "HOST:")
RefusesArray terms text (error.NoneLeft shown) = (terms.own ≡ false) × BeginsNamedForOwn terms.rules.limits text shown
RefusesArray terms text error.NoClient = Unit {0}
RefusesArray terms text error.OutOfMemory = Unit {0}
RefusesArray terms text _ = ⊥

-- the error for a line that is no command
abbrev pub inline_error : InlineError → ClientError
inline_error inline.LongLine = error.LongLine
inline_error inline.Quotes = error.Quotes
inline_error inline.OverLimits = error.OverLimits
inline_error inline.OutOfMemory = error.OutOfMemory

-- a part that was taken has a byte of the piece
abbrev pub MovesOn : Part → Type 0
MovesOn (part.Whole used) = 0 < used
MovesOn part.Partial = Unit {0}
MovesOn (part.Aside used text) = Unit {0}
