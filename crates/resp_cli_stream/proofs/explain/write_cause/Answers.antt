use Rattle.std.proofs.Common.{sym}
use Rattle.resp_value.specs.Rules.{rules_under}
use Rattle.resp_cli_stream.proofs.CauseTexts.{other_cause}
use Rattle.resp_cli_stream.proofs.explain.write_cause.Goals as goal

pub returns-in-Depth : goal.returns-in-Depth
returns-in-Depth g c = rw (c.in-Depth.is, sym c.depth.ensures.depth) c.write_number.ensures

pub returns-in-Length : goal.returns-in-Length
returns-in-Length g c = rw (c.in-Length.is, sym c.length.ensures.length) c.write_number-in-Length.ensures

pub returns-in-Items : goal.returns-in-Items
returns-in-Items g c = rw (c.in-Items.is, sym c.items.ensures.items) c.write_number-in-Items.ensures

pub returns-in-Total : goal.returns-in-Total
returns-in-Total g c = rw (c.in-Total.is, sym c.total.ensures.total) c.write_number-in-Total.ensures

pub returns-in_default : goal.returns-in_default
returns-in_default g c =
    let n = c.in_default in
    let reason = c.args.reason.now in
    rw (other_cause (rules_under reason.version reason.limits.now) reason.missing reason.after.now c.args.cause n.not-Double n.not-Version n.not-NestedPush
    n.not-Range n.not-Depth n.not-Length n.not-Total n.not-Truncated n.not-Streamed n.not-Items) c.write_text-in_default.ensures
