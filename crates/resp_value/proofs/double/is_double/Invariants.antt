use Rattle.std.proofs.Common.{◌≡◌, drop}
use Rattle.resp_value.specs.DoubleStages.{stage_after_all}
use Rattle.resp_value.specs.declared.double_stage.DoubleStage.TheVariants.{Begun}
use Rattle.resp_value.proofs.double.is_double.Given as goal

-- the bytes left go on from the stage as all bytes do from the first
abbrev pub invariant-loop-byte : goal.invariant-loop-byte
invariant-loop-byte l = stage_after_all l.stage (drop l.byte-index l.text) ≡ stage_after_all Begun l.text
