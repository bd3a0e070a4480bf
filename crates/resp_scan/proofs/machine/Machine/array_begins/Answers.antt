use Rattle.std.proofs.Common.{◌≡◌, ◌+◌, ◌-◌, ◌*◌, ◌≤◌, nat_le, true, false, arith, sym, ◌∙◌}
use Rattle.std.proofs.lemmas.Bool.Decides.{nat_tests}
use Rattle.std.proofs.lemmas.Grind.{common_steps}
use Rattle.resp_scan.specs.Machine.Fields.{place_of}
use Rattle.resp_scan.specs.Machine.Room.{is_full, total_room}
use Rattle.resp_scan.proofs.machine.Machine.array_begins.Goals as goal

pub returns-then-has_total_room : goal.returns-then-has_total_room
returns-then-has_total_room c =
    let s = place_of c.args.self.now in
    let short = c.in-Some.short in
    let full : is_full s ≡ false = grind (arith, common_steps) in
    let fits : nat_le ((short.head - 2) + (short.count * 3 + 2)) (total_room s) ≡ true =
    sym c.has_total_room.ensures.fits ∙ c.if-has_total_room.true in
    let room : (short.head - 2) + (short.count * 3 + 2) ≤ total_room s = grind (arith, nat_tests) in
    c.open.ensures ∙ c.in-Some.ensures.head s full (omega (arith, c.if-is_few.true, c.items.ensures.items)) (omega (arith, room, c.in-Some.ensures.within.1))
