-- Why bytes of a client are rejected, and the error reply.
use Rattle.std.specs.Prelude.{ℕ, List, [], codes}
use Rattle.resp_frames.specs.Framing.{RejectsByte}
use Rattle.resp_frames.specs.Requests.{EndsNoRequest}
use Rattle.resp_frames.specs.declared.error.FrameError.{FrameError}
use Rattle.resp_frames.specs.declared.error.FrameError.TheVariants as frame
use Rattle.resp_line.specs.Inline.{BeginsLineThat, BeginsLongLine, HasFaultyWords, HasNoWords}
use Rattle.resp_line.specs.declared.inline.InlineError.{InlineError}
use Rattle.resp_line.specs.declared.inline.InlineError.TheVariants as inline
use Rattle.resp_server.specs.ReplyTexts.{fault_text}
use Rattle.resp_value.specs.Bounds.{Bounds}
use Rattle.resp_value.specs.Causes.{name_of}
use Rattle.resp_value.specs.Rules.{rules_under}
use Rattle.resp_value.specs.declared.version.Version.TheVariants.{Two}
use Rattle.resp_server.specs.declared.databases.rejection.Rejection.{Rejection}
use Rattle.resp_server.specs.declared.databases.rejection.Rejection.TheVariants.{Faulty, LongLine, NoCommand, OverLimits, Quotes}
use Rattle.resp_server.specs.declared.databases.rejection.TakeError.{TakeError}
use Rattle.resp_server.specs.declared.databases.rejection.TakeError.TheVariants as error

-- the text of the error reply
abbrev pub rejection_text : Rejection → List ℕ
rejection_text (Faulty fault) = fault_text (name_of fault.cause) fault.at
rejection_text NoCommand = fault_text (codes "NotCommand") 0
rejection_text LongLine = codes "ERR Protocol error: too big inline request"
rejection_text Quotes = codes "ERR Protocol error: unbalanced quotes in request"
rejection_text OverLimits = codes "ERR Protocol error: inline request over a limit"

-- The bytes that came since the last request are rejected for this reason: a byte of an array, the whole array, or the
-- line with which they begin.
abbrev pub Rejects : Bounds → List ℕ → Rejection → Type 0
Rejects limits text (Faulty fault) = RejectsByte (rules_under Two limits) [] text fault
Rejects limits text NoCommand = EndsNoRequest (rules_under Two limits) limits [] text
Rejects limits text LongLine = BeginsLongLine text
Rejects limits text Quotes = BeginsLineThat text HasNoWords
Rejects limits text OverLimits = BeginsLineThat text (HasFaultyWords limits)

-- if bytes are rejected, this is why
abbrev pub OnRejection : (Rejection → Type 0) → TakeError → Type 0
OnRejection P (error.Rejected why) = P why
OnRejection P error.OutOfMemory = Unit {0}

-- the error for bytes that are no array of words
abbrev pub taking_error : FrameError → TakeError
taking_error (frame.Fault fault) = error.Rejected (Faulty fault)
taking_error frame.NotACommand = error.Rejected NoCommand
taking_error frame.OutOfMemory = error.OutOfMemory

-- the error for a line that is no command
abbrev pub inline_error : InlineError → TakeError
inline_error inline.LongLine = error.Rejected LongLine
inline_error inline.Quotes = error.Rejected Quotes
inline_error inline.OverLimits = error.Rejected OverLimits
inline_error inline.OutOfMemory = error.OutOfMemory
