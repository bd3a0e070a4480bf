use Rattle.std.proofs.Common.{◌<◌, subst, sym}
use Rattle.std.proofs.Math.Bridge.{le_prop}
use Rattle.std.proofs.Math.Logic.{∥∥₁_prop}
use Rattle.resp_value.specs.Values.{datum_of}
use Rattle.resp_session.specs.Reading.{waiting_after}
use Rattle.resp_client.specs.Clients.{ClientState, state_of}
use Rattle.resp_client.specs.Steps.{Knows}
use Rattle.resp_client.proofs.Answering.{tells, unless_replied, value_uses}
use Rattle.resp_client.proofs.Fronts.{stands_of_bytes, where_reading}
use Rattle.resp_client.proofs.client.Client.feed.Goals as goal

pub returns-in-Some-clause-cause : goal.returns-in-Some-clause-cause
returns-in-Some-clause-cause c =
    let old = c.args.self.now in
    stands_of_bytes old.limits (state_of old).waiting old.decoder old.fault c.in-Some.fault old.reading c.in-Some.is

pub returns-clause-heard : goal.returns-clause-heard
returns-clause-heard c = λ front h.
    let known : Knows (state_of c.take.new.self) (state_of c.hear-what.new.self) (datum_of c.in-Some-value.value) c.hear-what.result =
    subst (λ x. Knows (state_of c.take.new.self) (state_of c.hear-what.new.self) (datum_of x) c.hear-what.result) c.in-Some-value.value-is
    c.hear-what.ensures.known in
    tells c.args.self.now c.take.new.self c.hear-what.new.self front c.args.piece.now c.in_ok-fed.fed.used (datum_of c.in-Some-value.value) c.hear-what.result
    (c.in_ok-fed.ensures.value_whole front h c.in-Some-value.value c.in-Some-value.is) c.in_ok-fed.ensures.same_state c.hear-what.ensures.same_reading known

pub returns-clause-only_replies_answer : goal.returns-clause-only_replies_answer
returns-clause-only_replies_answer c =
    unless_replied (state_of c.args.self.now) (state_of c.take.new.self) (state_of c.hear-what.new.self) _ c.hear-what.result
    c.in_ok-fed.ensures.same_state c.hear-what.ensures.known

pub returns-in_default-value-clause-uses_bytes : goal.returns-in_default-value-clause-uses_bytes
returns-in_default-value-clause-uses_bytes c = λ some.
    let old = c.args.self.now in
    where_reading old.limits (state_of old).waiting old.decoder old.fault old.reading c.in_default.is le_prop (λ front h.
    subst (λ n. 0 < n) (sym (c.in_ok-fed.ensures.used_up front h c.in_default-value.is).whole_piece) some)

pub returns-clause-uses_bytes : goal.returns-clause-uses_bytes
returns-clause-uses_bytes c = λ some.
    let old = c.args.self.now in
    let s : ClientState = state_of old in
    let x = datum_of c.in-Some-value.value in
    where_reading old.limits s.waiting old.decoder old.fault old.reading c.in_default.is le_prop (λ front h.
    value_uses s.limits s.waiting (waiting_after s.waiting x) old.decoder x front c.args.piece.now c.in_ok-fed.fed.used h.taken
    (c.in_ok-fed.ensures.value_whole front h c.in-Some-value.value c.in-Some-value.is).reads)

pub hear-what-requires : goal.hear-what-requires
hear-what-requires c =
    let old = c.args.self.now in
    where_reading old.limits (state_of old).waiting old.decoder old.fault old.reading c.in_default.is ∥∥₁_prop (λ front h.
    ∣ (c.in_ok-fed.ensures.value_whole front h c.in-Some-value.value c.in-Some-value.is).takes ∣₁)
