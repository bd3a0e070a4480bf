use Rattle.std.proofs.Common.{◌<◌, ◌≤◌, length, arith}
use Rattle.std.proofs.lemmas.Grind.{common_steps}
use Rattle.resp_board.proofs.Places.{missing, none_there, there}
use Rattle.resp_board.proofs.early.answer_at.Goals as goal

pub returns-in-Some-Some-clause-there : goal.returns-in-Some-Some-clause-there
returns-in-Some-Some-clause-there c =
    let items = c.args.early.now.items in
    let within : c.args.place < length items = grind (arith, common_steps) in
    there items c.args.place c.in-Some-Some.field-0.now c.in-Some-Some.answer c.as_slice.result.now within c.in-Some-Some.ensures.lookup
    c.in-Some-Some.field-0-is c.as_slice.ensures.value

pub returns-in-Some-None-clause-missing : goal.returns-in-Some-None-clause-missing
returns-in-Some-None-clause-missing c =
    let items = c.args.early.now.items in
    let within : c.args.place < length items = grind (arith, common_steps) in
    missing items c.args.place c.in-Some-None.field-0.now within c.in-Some-None.ensures.lookup c.in-Some-None.field-0-is

pub returns-in-None-clause-missing : goal.returns-in-None-clause-missing
returns-in-None-clause-missing c =
    let items = c.args.early.now.items in
    let few : length items ≤ c.args.place = grind (arith, common_steps) in
    none_there items c.args.place few
