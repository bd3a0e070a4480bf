use Rattle.std.proofs.Common.{rules, ◌≡◌, ◌++◌, ◌∙◌, length, replicate, subst}
use Rattle.resp_cli_stream.specs.Explained.{place_lines, sentence_of}
use Rattle.resp_cli_stream.specs.Hints.{hint_line}
use Rattle.resp_io.specs.Devices.{Appends}
use Rattle.resp_print.proofs.WrittenLemmas.{Appends-append}
use Rattle.resp_cli_stream.proofs.explain.write_around.Goals as goal

pub returns-clause-lines : goal.returns-clause-lines
returns-clause-lines g c =
    let after = c.args.reason.now.after.now in
    let sentence = sentence_of c.args.reason.now in
    let hint = hint_line c.args.reason.now.hint in
    let said = g.F.Sink.written c.args.faults.now in
    let said' = g.F.Sink.written c.write_hint.new.faults in
    let told = Appends-append said (g.F.Sink.written c.write_place.new.faults) said'
    (place_lines c.bytes-2.result.now after c.as_slice.result.now sentence) hint c.in_ok-write_place.ensures.lines c.in_ok-write_hint.ensures.0 in
    let blank : c.as_slice.result.now ≡ replicate (length c.bytes-2.result.now) 32 = search rules in
    subst (λ z. Appends said said' (place_lines z after (replicate (length z) 32) sentence ++ hint)) (c.bytes-2.ensures ∙ c.in_ok-margin.ensures)
    (subst (λ z. Appends said said' (place_lines c.bytes-2.result.now after z sentence ++ hint)) blank told)
