use Rattle.std.proofs.Common.{rules, ◌≡◌, ◌+◌, length, subst, ap, refl, arith}
use Rattle.std.proofs.lemmas.List.{length-drop}
use Rattle.resp_decode.specs.Decoding.{rules_of}
use Rattle.resp_decode.specs.Inputs.{RefusesRest}
use Rattle.resp_decode.proofs.ReadingInputs.{bytes_after, reads_all, reads_value, refuses_input, value_uses_bytes}
use Rattle.resp_decode.proofs.all.decode_into.Goals as goal

pub decode_next-requires-clause-between : goal.decode_next-requires-clause-between
decode_next-requires-clause-between c = c.loop-rest.invariant.takes

pub returns-in-Err-clause-refusal : goal.returns-in-Err-clause-refusal
returns-in-Err-clause-refusal c =
    let w = c.loop-rest.invariant in
    let rest = c.loop-rest.rest.now in
    let number : c.len.result ≡ length c.loop-rest.values.items = omega (arith, c.len.ensures, c.loop-rest.values.ok.0) in
    refuses_input _ c.args.bytes.now c.loop-rest.decoder c.loop-rest.values.items rest (record { value = c.len.result + 1; fault = c.in-Err.fault }) w
    (omega (arith, number)) (subst (λ r. RefusesRest r rest c.in-Err.fault) w.same_rules c.in-Err.ensures.refusal)

pub loop-rest-smaller : goal.loop-rest-smaller
loop-rest-smaller c =
    let rest = c.loop-rest.rest.now in
    let (value, given, added) = c.in-Ok.ensures.read in
    let some = value_uses_bytes (rules_of c.loop-rest.decoder) c.decode_next.new.decoder rest c.in-Ok.used value given in
    omega (arith, some, ap length (bytes_after c.in-Ok.used (length rest) rest refl), length-drop c.in-Ok.used rest, c.in-Ok.ensures.within)

pub loop-rest-preserved : goal.loop-rest-preserved
loop-rest-preserved c =
    let rest = c.loop-rest.rest.now in
    let (value, given, added) = c.in-Ok.ensures.read in
    reads_value _ c.args.bytes.now c.loop-rest.decoder c.decode_next.new.decoder c.loop-rest.values.items c.decode_next.new.values.items value rest _
    c.in-Ok.used c.loop-rest.invariant given c.in-Ok.ensures.same_rules added (bytes_after c.in-Ok.used (length rest) rest refl)

pub returns-clause-whole_input : goal.returns-clause-whole_input
returns-clause-whole_input c = reads_all _ c.args.bytes.now c.loop-rest.decoder c.loop-rest.values.items c.loop-rest.rest.now c.loop-rest.invariant (search rules)
