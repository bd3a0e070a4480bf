use Rattle.std.proofs.Common.{◌++◌, length, ap, ◌∙◌, arith, codes, decimal}
use Rattle.resp_value.specs.declared.version.Version.TheVariants.{Two}
use Rattle.resp_server.proofs.Replies.{fault_line}
use Rattle.resp_server.proofs.ValueAnswers.{grown}
use Rattle.resp_server.proofs.reply.fault.Goals as goal

pub returns-clause-appended : goal.returns-clause-appended
returns-clause-appended c =
    let old = c.args.out.now.items in
    let name = c.args.name.now in
    c.append_number.ensures.appended ∙ ap (λ l. ((l ++ codes " at byte ") ++ decimal c.args.at) ++ codes "\r\n")
    (c.extend_reserved-2.ensures.items ∙ ap (λ l. l ++ name)
    (c.extend_reserved.ensures.items ∙ ap (λ l. l ++ codes "-ERR Protocol error: ") c.in_ok-reserve.ensures.items)) ∙
    fault_line old name Two c.args.at (c.digits_are_those_of_std.ensures c.args.at c.ranges.at.fits)

pub returns-clause-short : goal.returns-clause-short
returns-clause-short c =
    let name = c.args.name.now in
    let before = ap length c.in_ok-reserve.ensures.items in
    let one = grown _ (codes "-ERR Protocol error: ") 21 c.extend_reserved.ensures.items (omega arith) in
    let two = grown _ name (length name) c.extend_reserved-2.ensures.items (omega arith) in
    omega (arith, before, one, two, c.append_number.ensures.short)
