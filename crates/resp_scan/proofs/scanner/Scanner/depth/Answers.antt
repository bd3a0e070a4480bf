use Rattle.std.proofs.Common.{◌≡◌, arith, length}
use Rattle.std.proofs.lemmas.Grind.{common_steps}
use Rattle.resp_scan.specs.Machine.Fields.{place_of}
use Rattle.resp_scan.proofs.DueEvents.GivenCounts.{opens_are_frames}
use Rattle.resp_scan.proofs.scanner.Scanner.depth.Goals as goal

pub returns-clause-opens_less_closes : goal.returns-clause-opens_less_closes
returns-clause-opens_less_closes c =
    let s = place_of c.self.inside.machine in
    let size : length s.frames ≡ c.len.result = grind (arith, common_steps, c.len.ensures.value) in
    rw (← c.self.view_is) (λ front es w. omega (arith, opens_are_frames s front es w.stands, size))
