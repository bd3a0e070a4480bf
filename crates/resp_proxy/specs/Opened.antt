-- A connection that the proxy brings into a setting.
use Rattle.std.specs.Prelude.{◌≡◌, ℕ, ◌+◌, ◌<◌, List, [], ◌++◌, Option, None, IfSome, Result, IfErr, OnOk, codes}
use Rattle.resp_proxy.specs.declared.opening.Ending.{Ending}
use Rattle.resp_proxy.specs.declared.opening.Ending.TheVariants as ending
use Rattle.resp_proxy.specs.declared.opening.OpeningProgress.{OpeningProgress}
use Rattle.resp_proxy.specs.declared.opening_replies.OpeningError.{OpeningError}
use Rattle.resp_proxy.specs.declared.opening_replies.OpeningError.TheVariants as error
use Rattle.resp_proxy.specs.declared.opening_replies.OpeningReplies.{OpeningReplies}
use Rattle.resp_proxy.specs.OpeningReplies.{HasReplies, RefusesOpening, opening_terms}
use Rattle.resp_proxy.specs.Visiting.{HaveCome}
use Rattle.resp_proxy.specs.Wishes.{Situation}
use Rattle.resp_io.specs.Devices.{Appends}

pub record Opened : Type 0 where
  -- the situation into which the commands bring the connection
  pub situation : Situation
  -- the bytes of the commands that were not sent
  pub unsent : List ℕ
  pub replies : OpeningReplies
  -- why the connection is not usable, if it is not
  pub failure : Option OpeningError

abbrev pub situation_in : Opened → Situation
situation_in o = o.situation

-- the replies that have come
abbrev pub replies_in : Opened → OpeningReplies
replies_in o = o.replies

abbrev pub unsent_in : Opened → List ℕ
unsent_in o = o.unsent

-- why the connection is not usable, if it is not
abbrev pub failure_in : Opened → Option OpeningError
failure_in o = o.failure

-- the number of commands
abbrev pub count_in : Opened → ℕ
count_in o = o.replies.count

-- the error with which the server rejected a command, if it did
abbrev pub refusal_in : Opened → List ℕ
refusal_in o = o.replies.refusal.items

-- the reply to HELLO, if it has come
abbrev pub hello_in : Opened → List ℕ
hello_in o = o.replies.hello.items

-- the server has accepted each command of the opening
pub record IsAccepted (o : Opened) : Type 0 where
  pub all : o.replies.missing ≡ 0
  pub none_failed : o.failure ≡ None

-- replies are missing, and the connection is usable
pub record IsUnfinished (o : Opened) : Type 0 where
  pub some : 0 < o.replies.missing
  pub none_failed : o.failure ≡ None

-- These bytes have come over the connection. They are the replies by which the server accepts the first commands, and the beginning
-- of the next one.
pub record HasCome (o : Opened) (bytes : List ℕ) : Type 0 where
  pub replies : HasReplies o.replies bytes
  pub none_failed : o.failure ≡ None

-- the commands of a setting, and behind them a command of a client, or PING if there is no other command
abbrev pub ended_text : List ℕ → Ending → List ℕ
ended_text opening ending.Setting = opening
ended_text opening (ending.Command command) = opening ++ command.now
ended_text [] ending.Check = codes "*1\r\n$4\r\nPING\r\n"
ended_text opening ending.Check = opening

-- the number of these commands, given the commands of the setting and their number
abbrev pub ended_count : List ℕ → ℕ → Ending → ℕ
ended_count opening count ending.Setting = count
ended_count opening count (ending.Command command) = count + 1
ended_count [] count ending.Check = 1
ended_count opening count ending.Check = count

-- Bytes were written. They are the first of the commands that were not sent.
pub record SendsOpening (out out' : Option (List ℕ)) (o o' : Opened) : Type 0 where
  pub gone : List ℕ
  pub written : Appends out out' gone
  pub front : unsent_in o ≡ gone ++ unsent_in o'

-- the connection was closed, or the bytes are the cause of the error, or memory ran out
abbrev pub FailsOpening : Option (List ℕ) → Opened → List ℕ → OpeningError → Type 0
FailsOpening left o bytes error.Closed = IfSome left (λ text. text ≡ [])
FailsOpening left o bytes e = RefusesOpening (opening_terms o.replies) bytes e

-- Bytes were read. With those that came before, they are the replies by which the server accepts commands, or the cause of the error.
pub record ReadsReplies (left left' : Option (List ℕ)) (o o' : Opened) (result : Result OpeningProgress OpeningError) : Type 0 where
  pub came : List ℕ
  pub come : HaveCome left left' came
  pub accepted : (bytes : List ℕ) → HasCome o bytes → OnOk result (HasCome o' (bytes ++ came))
  pub refused : (bytes : List ℕ) → HasCome o bytes → IfErr result (λ e. FailsOpening left o (bytes ++ came) e)
