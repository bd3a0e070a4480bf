use Rattle.std.proofs.Common.{◌≡◌, ◌∙◌, sym, ap}
use Rattle.resp_print.specs.Shown.{quoted_text}
use Rattle.resp_print.proofs.QuotedWrites.{front_goes_on, front_fails}
use Rattle.resp_print.proofs.text.write_quoted.Goals as goal

pub returns-in_err-write_text : goal.returns-in_err-write_text
returns-in_err-write_text g c =
    let is_shown : quoted_text c.split_at.result.0.now ≡ c.split_at.result.0.now =
    ap quoted_text c.split_at.ensures.front ∙ c.plain_length-plain.ensures.plain ∙ sym c.split_at.ensures.front in
    front_fails c.from_residual.result c.args.text.now c.loop-rest.rest.now _ c.split_at.result.1.now _ _ _ _ _ _ _ c.loop-rest.invariant
    c.split_at.ensures.by_index.0 is_shown c.from_residual.ensures.0 c.in_err-write_text.ensures

pub loop-rest-preserved-then-plain-rest : goal.loop-rest-preserved-then-plain-rest
loop-rest-preserved-then-plain-rest g c =
    let is_shown : quoted_text c.split_at.result.0.now ≡ c.split_at.result.0.now =
    ap quoted_text c.split_at.ensures.front ∙ c.plain_length-plain.ensures.plain ∙ sym c.split_at.ensures.front in
    front_goes_on c.args.text.now c.loop-rest.rest.now _ c.split_at.result.1.now _ _ _ _ _ _ _ c.loop-rest.invariant
    c.split_at.ensures.by_index.0 is_shown c.in_ok-write_text.ensures

pub returns-in_err-write_text-2 : goal.returns-in_err-write_text-2
returns-in_err-write_text-2 g c =
    let split = c.split_at-else-plain-rest in
    front_fails c.from_residual-in_err-write_text-2.result c.args.text.now c.loop-rest.rest.now split.result.0.now split.result.1.now _ _ _ _ _ _ _
    c.loop-rest.invariant split.ensures.by_index.0 (sym c.quote_block-length.ensures.quoted) c.from_residual-in_err-write_text-2.ensures.0
    c.in_err-write_text-2.ensures

pub loop-rest-preserved : goal.loop-rest-preserved
loop-rest-preserved g c =
    let split = c.split_at-else-plain-rest in
    front_goes_on c.args.text.now c.loop-rest.rest.now split.result.0.now split.result.1.now _ _ _ _ _ _ _ c.loop-rest.invariant
    split.ensures.by_index.0 (sym c.quote_block-length.ensures.quoted) c.in_ok-write_text-2.ensures
