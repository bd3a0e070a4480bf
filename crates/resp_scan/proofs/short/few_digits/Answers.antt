use Rattle.std.proofs.Common.{true, ◌-◌, ◌<◌, ◌≤◌, ◌≡◌, get_or, length, arith, ◌∙◌}
use Rattle.std.proofs.lemmas.Bool.Decides.{nat_tests}
use Rattle.resp_scan.specs.Machine.Room.{has_total_room}
use Rattle.resp_scan.proofs.Soundness.ShortInts.{digit_fits, digit_goes, digit_more}
use Rattle.resp_scan.proofs.short.few_digits.Goals as goal

pub loop-end-preserved : goal.loop-end-preserved
loop-end-preserved c =
    let p = c.args.piece.now in
    let m = c.loop-end.magnitude in
    let e = c.loop-end.end in
    let d = get_or p e 0 - 48 in
    let some : 2 ≤ e = omega (arith, c.loop-end.auto.end) in
    let most : e < 12 = omega (arith, c.loop-end-test.true, c.loop-end.auto.end-end, c.min-end-end.ensures) in
    let within : e < length p = omega (arith, c.loop-end-test.true, c.loop-end.auto.end-end, c.min-end-end.ensures) in
    let digit : d ≤ 9 = omega (arith, c.if-byte-gt57.false) in
    let fits = digit_fits m d e some most c.loop-end.invariant.few digit in
    record {
      few = digit_more m d e some c.loop-end.invariant.few digit;
      fits = fits;
      digits = λ s room.
          let before : has_total_room s e 2 ≡ true = grind (arith, nat_tests, room) in
          c.loop-end.invariant.digits s before ∙
          digit_goes s m e p within (omega (arith, c.if-byte-lt48.false)) (omega (arith, c.if-byte-gt57.false)) fits room;
    }
