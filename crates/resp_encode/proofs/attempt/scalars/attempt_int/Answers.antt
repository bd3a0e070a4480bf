use Rattle.std.proofs.Common.{◌≤◌, length, arith, rules}
use Rattle.resp_value.specs.Data.{scalar}
use Rattle.resp_value.specs.Data as d
use Rattle.resp_value.specs.Canonical.{canonical_text}
use Rattle.resp_value.specs.declared.version.Version.TheVariants.{Three}
use Rattle.resp_encode.proofs.Attempted.{int_length, room_for, scalar_done}
use Rattle.resp_encode.proofs.attempt.scalars.attempt_int.Goals as goal

pub write_int-requires : goal.write_int-requires
write_int-requires c =
    let most = int_length Three c.args.number.now in
    search rules

pub returns : goal.returns
returns c = λ version bounds.
    let room : length (canonical_text version (scalar (d.Int c.args.number.now))) ≤ c.args.out.now.spare =
    omega (arith, int_length version c.args.number.now, c.if-not-has_room_for_head.ensures) in
    scalar_done (room_for version bounds (d.Int c.args.number.now) tt (omega arith) room) (search rules)
    c.write_int.ensures
