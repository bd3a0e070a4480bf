use Rattle.std.proofs.Common.{ℕ, ◌≤◌, ◌++◌, [], true, length, subst, arith, length-append, rules}
use Rattle.resp_value.specs.Bytes.{crlf}
use Rattle.resp_value.specs.Data.{scalar}
use Rattle.resp_value.specs.Data as d
use Rattle.resp_value.specs.Canonical.{canonical_text}
use Rattle.resp_encode.specs.Walks.Attempts.{Attempt}
use Rattle.resp_encode.proofs.Attempted.{room_for, scalar_done}
use Rattle.resp_encode.proofs.Texts.{length-head}
use Rattle.resp_encode.proofs.attempt.scalars.attempt_bulk.Goals as goal

pub returns : goal.returns
returns c = λ version.
    let bytes = c.list-bytes.result.now in
    let room : length (canonical_text version (scalar (d.Bulk bytes))) ≤ c.args.out.now.spare =
    omega (
      arith,
      c.if-not-has_room_for_head.ensures,
      length-head 36 (length bytes) (bytes ++ crlf []),
      length-append bytes (crlf []),
    ) in
    let fits = room_for version c.args.limits.now (d.Bulk bytes) tt
    (omega (arith, c.if-counted-length.false, c.length.ensures.length)) room in
    subst (λ bytes. (deeper : ℕ) → Attempt version c.args.limits.now deeper (scalar (d.Bulk bytes)) c.args.out.now
    c.write_string.new.out true)
    c.list-bytes.ensures
    (scalar_done fits (search rules) c.write_string.ensures)
