-- What a session reads with, by its decoder.
use Rattle.std.proofs.Common.{◌≡◌, ℕ, List, Some, Result, Ok, Err, subst}
use Rattle.resp_value.specs.Rules.{Rules}
use Rattle.resp_value.specs.Spellings.{IsSpelling}
use Rattle.resp_value.specs.Values.{datum_of}
use Rattle.resp_scan.specs.declared.event.Fault.{Fault}
use Rattle.resp_value.specs.declared.value.Value.{Value}
use Rattle.resp_decode.specs.Decoding.{GivesValue, IfValue}
use Rattle.resp_decode.specs.declared.decoder.Decoder.{Decoder}
use Rattle.resp_decode.specs.declared.fed.Fed.{Fed}
use Rattle.resp_server.specs.Reading.{ReadsValue}

-- a value that the decoder gives by these rules is read
pub value_read : {rules r : Rules} (decoder : Decoder) (result : Result (Fed Value) Fault) (text : ℕ → List ℕ) → r ≡ rules →
    IfValue result (λ used. GivesValue r decoder (text used)) → IfValue result (λ used. ReadsValue rules (Some decoder) (text used))
value_read decoder (Ok fed) text same given = λ value is.
    let g = given value is in
    record { spelling = subst (λ s. IsSpelling s (datum_of value) (text fed.used)) same g.spelling; takes = g.takes }
value_read decoder (Err fault) text same given = tt
