-- The pieces in which a client gets bytes.
use Rattle.std.specs.Prelude.{Bool, true, false, Option}
use Rattle.resp_net.specs.Cuts.{CutState}
use Rattle.resp_net.specs.declared.pieces.Pause.{Pause}
use Rattle.resp_net.specs.declared.pieces.Pause.TheVariants as pause

pub record PiecesState : Type 0 where
  -- the cuts, if bytes are cut
  pub cut : Option CutState
  -- whether nothing is written to the client
  pub are_paused : Bool

-- whether nothing is written to the client
abbrev pub is_paused : Pause → Bool
is_paused pause.Over = false
is_paused pause.Begun = true
is_paused (pause.Until until) = true
