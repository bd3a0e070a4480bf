use Rattle.std.proofs.Common.{rules}
use Rattle.resp_scan.proofs.Soundness.Places.{hot_tokens}
use Rattle.resp_scan.proofs.machine.Machine.step.Goals as goal

pub returns-in-Start : goal.returns-in-Start
returns-in-Start c = c.answer.ensures _ c.requires (rw c.in-Start.is c.start-got.ensures)

pub returns-in-Boundary : goal.returns-in-Boundary
returns-in-Boundary c = c.answer-in-Boundary.ensures _ c.requires c.after_value-got.ensures

pub returns-in-Line : goal.returns-in-Line
returns-in-Line c = c.answer-in-Line.ensures _ c.requires (search (rules, hot_tokens))

pub returns-in-Content : goal.returns-in-Content
returns-in-Content c = c.answer-in-Content.ensures _ c.requires (search (rules, hot_tokens))

pub returns-in-ContentCr : goal.returns-in-ContentCr
returns-in-ContentCr c = c.answer-in-ContentCr.ensures _ c.requires (search (rules, hot_tokens))

pub returns-in_default : goal.returns-in_default
returns-in_default c = c.answer-in_default.ensures _ c.requires c.resume-got.ensures
