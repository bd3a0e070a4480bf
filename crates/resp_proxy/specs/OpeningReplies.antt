-- The replies to the commands that a connection to the server begins with.
use Rattle.std.specs.Prelude.{◌≡◌, ◌⊎◌, ℕ, ◌+◌, ◌-◌, suc, ◌==◌, ◌||◌, ◌&&◌, Bool, true, false, not, List, [], ◌∷◌, ◌++◌, ◌<◌, ◌≤◌, length, take, if◌then◌else◌, codes, nat_eq}
use Rattle.std.specs.List.{AllByRecursion, concat, starts_with}
use Rattle.std.specs.Str.{bytes_eq}
use Rattle.resp_frames.specs.declared.error.FrameError.{FrameError}
use Rattle.resp_frames.specs.declared.error.FrameError.TheVariants as frame
use Rattle.resp_frames.specs.Framing.{HasBegun, IsReady, RejectsByte, frame_rules}
use Rattle.resp_proxy.specs.declared.opening_replies.Expected.{Expected}
use Rattle.resp_proxy.specs.declared.opening_replies.Expected.TheVariants.{Setting, Success, Any}
use Rattle.resp_proxy.specs.declared.opening_replies.OpeningError.{OpeningError}
use Rattle.resp_proxy.specs.declared.opening_replies.OpeningError.TheVariants as error
use Rattle.resp_proxy.specs.declared.opening_replies.OpeningReplies.{OpeningReplies}
use Rattle.resp_proxy.specs.Rejecting.{BeginsSpelling}
use Rattle.resp_scan.specs.declared.event.Fault.{Fault}
use Rattle.resp_scan.specs.Reading.{IsSpelled}
use Rattle.resp_value.specs.Rules.{Rules}

-- whether the reply begins with these bytes
abbrev pub begins : List ℕ → List ℕ → Bool
begins reply front = starts_with nat_eq reply front

-- whether the server accepts a command with this reply
abbrev pub accepts : Expected → List ℕ → Bool
accepts Setting reply = bytes_eq reply (codes "+OK\r\n") || begins reply (codes "%")
accepts Success reply = not (begins reply (codes "-"))
accepts Any reply = not (begins reply (codes "-ERR max number of clients")) && not (begins reply (codes "-DENIED"))

-- the rules of replies, the number of commands, and which replies to the last one are accepted
pub record OpeningTerms : Type 0 where
  pub rules : Rules
  pub count : ℕ
  pub last : Expected

abbrev pub opening_terms : OpeningReplies → OpeningTerms
opening_terms o = record { rules = frame_rules o.frames; count = o.count; last = o.last }

-- which replies to the command after this many others are accepted: each but the last one is a command of the setting
abbrev pub expected_at : OpeningTerms → ℕ → Expected
expected_at t place = if t.count - place == 1 then t.last else Setting

-- the server accepts with these replies as many commands, after this many others
abbrev pub AreAccepted : OpeningTerms → ℕ → List (List ℕ) → Type 0
AreAccepted t place [] = Unit {0}
AreAccepted t place (reply ∷ replies) = (accepts (expected_at t place) reply ≡ true) × AreAccepted t (suc place) replies

-- the bytes are these replies, by which the server accepts as many commands, and other bytes behind them
pub record BeginsAccepting (t : OpeningTerms) (bytes : List ℕ) (replies : List (List ℕ)) (after : List ℕ) : Type 0 where
  pub whole : bytes ≡ concat replies ++ after
  pub spelled : AllByRecursion (IsSpelled t.rules) replies
  pub accepted : AreAccepted t 0 replies

-- the reply is one of these
pub record IsOneOf (replies : List (List ℕ)) (reply : List ℕ) : Type 0 where
  pub before : List (List ℕ)
  pub later : List (List ℕ)
  pub whole : replies ≡ before ++ reply ∷ later

-- these bytes have come: replies by which the server accepts as many commands, and bytes of an incomplete reply
pub record HasReplies (o : OpeningReplies) (bytes : List ℕ) : Type 0 where
  pub replies : List (List ℕ)
  pub after : List ℕ
  pub ready : IsReady o.frames
  pub begins : BeginsAccepting (opening_terms o) bytes replies after
  pub begun : HasBegun (frame_rules o.frames) o.begun after
  -- the other commands have no reply
  pub counted : length replies + o.missing ≡ o.count
  -- the reply to HELLO is one of them, or there is none
  pub hello : (o.hello.items ≡ []) ⊎ IsOneOf replies o.hello.items

-- this is true of the bytes that have come
abbrev pub WhereReplies : OpeningReplies → (List ℕ → Type 0) → Type 0
WhereReplies o P = (bytes : List ℕ) → HasReplies o bytes → P bytes

-- a byte of the text is the first that no reply could contain there
pub record RejectsSome (rules : Rules) (text : List ℕ) : Type 0 where
  pub fault : Fault
  pub rejects : RejectsByte rules [] text fault

-- the bytes after this many accepted replies begin with a reply that is not accepted, or contain a byte that no reply could
-- contain there; or no reply is missing, and a byte follows
abbrev pub IsRefusal : OpeningTerms → ℕ → List ℕ → Type 0
IsRefusal t place after =
    BeginsSpelling t.rules after (λ reply. accepts (expected_at t place) reply ≡ false) ⊎
    RejectsSome t.rules after ⊎ (place ≡ t.count) × (0 < length after)

-- the bytes are replies by which the server accepts as many commands, and the bytes behind them are the cause of a refusal
pub record Refuses (t : OpeningTerms) (bytes : List ℕ) : Type 0 where
  pub replies : List (List ℕ)
  pub after : List ℕ
  pub begins : BeginsAccepting t bytes replies after
  pub cause : IsRefusal t (length replies) after

-- the bytes are the cause of the error, or memory ran out
abbrev pub RefusesOpening : OpeningTerms → List ℕ → OpeningError → Type 0
RefusesOpening t bytes error.Rejected = Refuses t bytes
RefusesOpening t bytes error.Closed = ⊥
RefusesOpening t bytes error.OutOfMemory = Unit {0}

-- which replies to the next command are accepted
abbrev pub expected_next : OpeningReplies → Expected
expected_next o = if o.missing == 1 then o.last else Setting

-- the reply is accepted, and one reply fewer is missing
pub record AcceptsReply (o : OpeningReplies) (reply : List ℕ) (o' : OpeningReplies) : Type 0 where
  pub accepted : accepts (expected_next o) reply ≡ true
  pub missing : suc o'.missing ≡ o.missing
  pub frames : o'.frames ≡ o.frames
  pub begun : o'.begun ≡ o.begun
  pub hello : (o'.hello.items ≡ o.hello.items) ⊎ (o'.hello.items ≡ reply)

-- the reply is not accepted, or memory ran out
abbrev pub RejectsReply : OpeningReplies → List ℕ → OpeningError → Type 0
RejectsReply o reply error.Rejected = accepts (expected_next o) reply ≡ false
RejectsReply o reply error.Closed = ⊥
RejectsReply o reply error.OutOfMemory = Unit {0}

-- the error for bytes of the server that are no reply
abbrev pub opening_error : FrameError → OpeningError
opening_error (frame.Fault fault) = error.Rejected
opening_error frame.NotACommand = error.Rejected
opening_error frame.OutOfMemory = error.OutOfMemory

-- this many bytes of the piece were taken, and no reply was refused
pub record TakesSome (o : OpeningReplies) (piece : List ℕ) (used : ℕ) (o' : OpeningReplies) : Type 0 where
  pub within : used ≤ length piece
  pub terms : opening_terms o' ≡ opening_terms o
  pub come : WhereReplies o (λ bytes. HasReplies o' (bytes ++ take used piece))
