use Rattle.std.proofs.Common.{◌≡◌, ◌++◌, Box, Global, take, ap, sym, subst, ◌∙◌}
use Rattle.std.specs.Option.{option_map}
use Rattle.resp_decode.specs.Decoding as decoding
use Rattle.resp_decode.specs.declared.decoder.Decoder.{Decoder}
use Rattle.resp_session.specs.Answers.{server_rules}
use Rattle.resp_server.specs.Reading.{HasReadFront, Reading}
use Rattle.resp_server.proofs.Readings.{value_read}
use Rattle.resp_server.proofs.reader.Reader.feed.Goals as goal

pub returns-clause-value_whole : goal.returns-clause-value_whole
returns-clause-value_whole c front taken =
    let decoder : Decoder = c.deref_mut.result.now in
    let same : c.args.self.now ≡ option_map (λ (d : Box Decoder Global). d.value) c.take.result =
    sym c.self.view_is ∙ ap (option_map (λ (d : Box Decoder Global). d.value)) (sym c.take.ensures.value) in
    let here : decoding.HasTaken decoder front = subst (λ (d : Decoder). decoding.HasTaken d front) (sym c.deref_mut.ensures.value)
    (c.in-Ok.ensures.same_taken front (subst (λ (r : Reading). HasReadFront r front) same taken)) in
    let reads : decoding.rules_of decoder ≡ server_rules c.args.limits.now =
    subst (λ (d : Decoder). decoding.rules_of d ≡ server_rules c.args.limits.now) (sym c.deref_mut.ensures.value) c.in-Ok.ensures.reading in
    value_read c.feed-fed.new.self c.feed-fed.result (λ used. front ++ take used c.args.piece.now) reads
    (c.feed-fed.ensures.value_whole front here)
