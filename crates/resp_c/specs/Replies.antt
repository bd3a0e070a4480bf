-- The contract of a call that reads replies into nodes.
use Rattle.std.specs.Prelude.{◌≡◌, ℕ, zero, suc, ◌-◌, List, drop, length}
use Rattle.resp_value.specs.Causes.{number_of}
use Rattle.resp_value.specs.Rules.{Rules}
use Rattle.resp_value.specs.declared.cause.Cause.TheVariants as cause
use Rattle.resp_flat.specs.declared.node.Node.{Node}
use Rattle.resp_flat.specs.declared.in_place.InPlaceStop.{InPlaceStop}
use Rattle.resp_flat.specs.declared.in_place.InPlaceStop.TheVariants as stop
use Rattle.resp_flat.specs.Places.{AreReadInPlace, StopsFor}
use Rattle.resp_c.specs.Answers.{no_room, not_plain}
use Rattle.resp_c.specs.declared.reply.RespReplies.{RespReplies}

-- the number of a reason, if this many bytes are left
abbrev pub stop_number : InPlaceStop → ℕ → ℕ
stop_number stop.Incomplete zero = 0
stop_number stop.Incomplete (suc left) = number_of cause.Truncated
stop_number stop.NoNodes left = no_room
stop_number stop.NotPlain left = not_plain
stop_number (stop.Refused fault) left = number_of fault.cause

-- The nodes stand for the replies that the bytes used spell. The result is the number of the reason why no further reply
-- was read.
pub record Reads (rules : Rules) (buffer : List ℕ) (nodes : List Node) (replies : RespReplies) (result : ℕ) : Type 0 where
  pub stop : InPlaceStop
  pub replies_are : AreReadInPlace rules buffer nodes replies.nodes replies.used
  pub stops : StopsFor rules (drop replies.used buffer) (length nodes - replies.nodes) stop
  pub result_is : result ≡ stop_number stop (length buffer - replies.used)
