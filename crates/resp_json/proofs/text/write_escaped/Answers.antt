use Rattle.std.proofs.Common.{◌≡◌, ◌∙◌, ◌++◌, sym, ap, length}
use Rattle.std.proofs.lemmas.Bool.{eqb-true}
use Rattle.resp_json.specs.Json.{escape_of, escaped}
use Rattle.resp_json.proofs.Escaped.{escaped_byte, escaped_first, escaped_plain}
use Rattle.resp_print.proofs.Printing.{printed_as, printed_more, write_failed}
use Rattle.resp_json.proofs.text.write_escaped.Goals as goal

pub returns-in_err-write_escape : goal.returns-in_err-write_escape
returns-in_err-write_escape g c =
    let none : c.plain_length.result ≡ 0 = sym c.split_at.ensures.front_len ∙
    eqb-true (length c.split_at.result.0.now) 0 (sym c.is_empty.ensures ∙ c.if-is_empty.true) in
    let byte = c.in-Some.byte.now in
    let is : escaped c.loop-byte.rest.now ≡ escape_of byte ++ escaped c.in-Some.beyond.now =
    escaped_byte c.loop-byte.rest.now c.in-Some.beyond.now byte c.in-Some.ensures.cases.0
    (escaped_first c.loop-byte.rest.now c.in-Some.beyond.now byte c.plain_length.result c.in-Some.ensures.cases.0 none c.plain_length.ensures.whole) in
    write_failed c.from_residual.result (escaped c.args.text.now) (escape_of byte) (escaped c.in-Some.beyond.now) _ _ _ _ _ _
    (printed_as (escaped c.args.text.now) _ _ _ _ _ _ is c.loop-byte.invariant) c.from_residual.ensures.0 c.in_err-write_escape.ensures

pub loop-byte-preserved-then-is_empty : goal.loop-byte-preserved-then-is_empty
loop-byte-preserved-then-is_empty g c =
    let none : c.plain_length.result ≡ 0 = sym c.split_at.ensures.front_len ∙
    eqb-true (length c.split_at.result.0.now) 0 (sym c.is_empty.ensures ∙ c.if-is_empty.true) in
    let byte = c.in-Some.byte.now in
    let is : escaped c.loop-byte.rest.now ≡ escape_of byte ++ escaped c.in-Some.beyond.now =
    escaped_byte c.loop-byte.rest.now c.in-Some.beyond.now byte c.in-Some.ensures.cases.0
    (escaped_first c.loop-byte.rest.now c.in-Some.beyond.now byte c.plain_length.result c.in-Some.ensures.cases.0 none c.plain_length.ensures.whole) in
    printed_more (escaped c.args.text.now) (escape_of byte) (escaped c.in-Some.beyond.now) _ _ _ _ _ _
    (printed_as (escaped c.args.text.now) _ _ _ _ _ _ is c.loop-byte.invariant) c.in_ok-write_escape.ensures

pub returns-in_err-write_text : goal.returns-in_err-write_text
returns-in_err-write_text g c =
    let plain = c.split_at.result.0.now in
    let other = c.split_at.result.1.now in
    let is_plain : escaped plain ≡ plain = ap escaped c.split_at.ensures.front ∙ c.plain_length.ensures.plain ∙ sym c.split_at.ensures.front in
    let is = escaped_plain c.loop-byte.rest.now plain other c.split_at.ensures.by_index.0 is_plain in
    write_failed c.from_residual-in_err-write_text.result (escaped c.args.text.now) plain (escaped other) _ _ _ _ _ _
    (printed_as (escaped c.args.text.now) _ _ _ _ _ _ is c.loop-byte.invariant) c.from_residual-in_err-write_text.ensures.0 c.in_err-write_text.ensures

pub loop-byte-preserved : goal.loop-byte-preserved
loop-byte-preserved g c =
    let plain = c.split_at.result.0.now in
    let other = c.split_at.result.1.now in
    let is_plain : escaped plain ≡ plain = ap escaped c.split_at.ensures.front ∙ c.plain_length.ensures.plain ∙ sym c.split_at.ensures.front in
    let is = escaped_plain c.loop-byte.rest.now plain other c.split_at.ensures.by_index.0 is_plain in
    printed_more (escaped c.args.text.now) plain (escaped other) _ _ _ _ _ _
    (printed_as (escaped c.args.text.now) _ _ _ _ _ _ is c.loop-byte.invariant) c.in_ok-write_text.ensures
