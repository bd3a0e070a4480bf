use Rattle.std.proofs.Common.{rules, arith}
use Rattle.resp_encode.proofs.Decimals.{length-decimal-few}
use Rattle.resp_encode.proofs.room.has_room_for_head.Goals as goal

pub returns-then-beyond-room : goal.returns-then-beyond-room
returns-then-beyond-room c =
    let few = length-decimal-few c.args.number (omega arith) in
    search rules
