-- What `show --json` has read and written, from what the calls of its decoder say.
use Rattle.std.specs.Prelude.{IsErrAnd, is_some, MatchOption, MatchResult}
use Rattle.std.proofs.Common.{◌≡◌, ◌⊎◌, inl, inr, ℕ, ◌<◌, List, [], ◌++◌, length, take, append-nil, IfErr, MatchBool, Option, None, Some, Result, Ok, Err, refl, sym, ap, subst, ◌∙◌}
use Rattle.resp_io.specs.Devices.{Appends}
use Rattle.resp_value.specs.Rules.{Rules}
use Rattle.resp_value.specs.Values.{datum_of}
use Rattle.resp_value.specs.declared.cause.Cause.{Cause}
use Rattle.resp_value.specs.declared.cause.Cause.TheVariants as cause
use Rattle.resp_value.specs.declared.value.Value.{Value}
use Rattle.resp_scan.specs.Reading.{HasNoValue}
use Rattle.resp_scan.specs.declared.event.Fault.{Fault}
use Rattle.resp_decode.proofs.Feeding.{no_value_at_start}
use Rattle.resp_decode.specs.Decoding.{GivesValue, HasTaken, LacksMemory, RefusesByte, TakesPiece}
use Rattle.resp_decode.specs.declared.decoder.Decoder.{Decoder}
use Rattle.resp_json.specs.Json.{json_line}
use Rattle.resp_print.proofs.WrittenLemmas.{Appends-none}
use Rattle.resp_cli_stream.specs.Counts.{IsAny, LeavesNothing}
use Rattle.resp_cli_stream.specs.Decoded.{HasDecoded, stop_by, stop_of}
use Rattle.resp_cli_stream.specs.Takings.{Takes, TakesUnfinished, WritesValue}
use Rattle.resp_cli_stream.specs.declared.rendering.RenderStop.{RenderStop}
use Rattle.resp_cli_stream.proofs.Scanned.{no_part, nothing_left, value_uses_some}

-- a decoder before the first value
pub decoded_nothing : (d : Decoder) → HasTaken d [] → HasDecoded d [] []
decoded_nothing d taken = record { taken = taken; no_value = no_value_at_start; nothing = refl }

-- a value that was read and whose line was written
pub decoded_value : (r : Rules) (d : Decoder) (front piece so_far : List ℕ) (used : ℕ) (value : Value) (before after : Option (List ℕ)) →
    HasNoValue front → so_far ≡ [] → GivesValue r d (front ++ take used piece) value → Appends before after (json_line (datum_of value)) →
    (0 < used) × WritesValue r json_line IsAny (HasDecoded d) (front ++ take used piece) so_far before after
decoded_value r d front piece so_far used value before after none nothing gives appended = (
  value_uses_some front piece used gives.spelling.tree none gives.spelling.spells,
  record {
    value = datum_of value;
    spelling = gives.spelling;
    written = tt;
    more = json_line (datum_of value);
    appended = appended;
    whole = ap (λ z. z ++ json_line (datum_of value)) (sym nothing);
    takes = decoded_nothing d gives.takes;
  },
)

-- a fault of the decoder
pub decoded_fault : (r : Rules) (d : Decoder) (front piece so_far : List ℕ) (held : Option (List ℕ)) (fault : Fault) → so_far ≡ [] →
    RefusesByte r front piece fault ⊎ LacksMemory r front piece fault →
    Takes r json_line IsAny LeavesNothing LeavesNothing (HasDecoded d) front piece so_far held held (Err (stop_of fault))
decoded_fault r d front piece so_far held fault nothing (inr lacks) =
    subst (λ c. Takes r json_line IsAny LeavesNothing LeavesNothing (HasDecoded d) front piece so_far held held (Err (stop_by c fault))) (sym lacks.names)
    (no_part nothing)
decoded_fault r d front piece so_far held fault nothing (inl refuses) = by_cause fault.cause
  where
    by_cause : (c : Cause) → Takes r json_line IsAny LeavesNothing LeavesNothing (HasDecoded d) front piece so_far held held (Err (stop_by c fault))
    by_cause cause.OutOfMemory = no_part nothing
    by_cause c = nothing_left nothing (record { rule = refuses.rule; names = refuses.names; fault_of = refuses.fault_of }) refuses.no_value

-- the same of the error that a call returns for it
pub decoded_stop : {X : Type 0} (r : Rules) (d : Decoder) (front piece so_far : List ℕ) (held : Option (List ℕ)) (fed : Result X Fault) (stop : RenderStop) → so_far ≡ [] →
    IfErr fed (λ fault. RefusesByte r front piece fault ⊎ LacksMemory r front piece fault) →
    MatchResult fed (λ x. ◌≡◌ {A = Result X RenderStop} (Err stop) (Ok x)) (λ fault. stop ≡ stop_of fault) →
    Takes r json_line IsAny LeavesNothing LeavesNothing (HasDecoded d) front piece so_far held held (Err stop)
decoded_stop r d front piece so_far held (Ok x) stop nothing why is = absurd (cc)
decoded_stop r d front piece so_far held (Err fault) stop nothing why is =
    subst (λ z. Takes r json_line IsAny LeavesNothing LeavesNothing (HasDecoded d) front piece so_far held held (Err z)) (sym is)
    (decoded_fault r d front piece so_far held fault nothing why)

-- a result whose error was replaced
pub mapped_ok : {X D E : Type 0} (P : E → D → Type 0) (r : Result X E) (r' : Result X D) (x : X) →
    MatchResult r (λ y. r' ≡ Ok y) (λ e. IsErrAnd r' (P e)) → r' ≡ Ok x → r ≡ Ok x
mapped_ok P (Ok y) r' x is ok = let same : y ≡ x = cc in ap Ok same
mapped_ok P (Err e) r' x is ok = absurd (subst (λ z. IsErrAnd z (P e)) ok is)

-- what was read of a piece, and the line that was written for a value in it
pub decoded_on : (r : Rules) (d : Decoder) (front piece so_far : List ℕ) (used : ℕ) (value : Option Value) (before after : Option (List ℕ)) →
    HasNoValue front → so_far ≡ [] → ((x : Value) → value ≡ Some x → GivesValue r d (front ++ take used piece) x) →
    (value ≡ None → TakesPiece r (HasTaken d) (front ++ piece) piece used) →
    MatchOption value (after ≡ before) (λ x. Appends before after (json_line (datum_of x))) →
    MatchBool (is_some value)
    ((0 < used) × WritesValue r json_line IsAny (HasDecoded d) (front ++ take used piece) so_far before after)
    ((used ≡ length piece) × TakesUnfinished r (HasDecoded d) (front ++ piece) so_far before after)
decoded_on r d front piece so_far used (Some x) before after none nothing gives takes wrote =
    decoded_value r d front piece so_far used x before after none nothing (gives x refl) wrote
decoded_on r d front piece so_far used None before after none nothing gives takes wrote =
    let t = takes refl in (
      t.whole_piece,
      record {
        no_value = t.no_value;
        viable = t.viable;
        more = [];
        appended = subst (λ a. Appends before a []) (sym wrote) (Appends-none before);
        takes = record { taken = t.takes; no_value = t.no_value; nothing = append-nil so_far ∙ nothing };
      },
    )
