use Rattle.std.proofs.Common.{◌≡◌, ◌<◌, true, arith}
use Rattle.resp_capture.proofs.HeaderLemmas.{reaches_cut, reaches_not, reaches_over}
use Rattle.resp_capture.specs.Headers.{is_extension}
use Rattle.resp_capture.proofs.network.+after_headers.Goals as goal

pub returns-in_err-size-clause-none : goal.returns-in_err-size-clause-none
returns-in_err-size-clause-none t c =
    let is : is_extension c.args.next ≡ true = cc in
    reaches_cut _ c.args.next c.args.bytes.now is c.in_err-size.ensures.none c.args.most

pub returns-clause-some : goal.returns-clause-some
returns-clause-some t c =
    let is : is_extension c.args.next ≡ true = cc in
    let size = c.in_ok-size.ensures.some in
    let more : 0 < c.args.most = omega arith in
    reaches_over _ c.args.most c.args.next c.args.bytes.now _ is size.0 size.1 more c.after_headers.ensures.some

pub returns-clause-none : goal.returns-clause-none
returns-clause-none t c =
    let is : is_extension c.args.next ≡ true = cc in
    reaches_not _ c.args.most c.args.next c.args.bytes.now _ is c.in_ok-size.ensures.some.0 c.after_headers.ensures.none
