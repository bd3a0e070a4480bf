use Rattle.resp_proxy.proofs.Openings.{select-parts}
use Rattle.resp_proxy.proofs.setting.select.Goals as goal

pub returns-clause-appended : goal.returns-clause-appended
returns-clause-appended c =
    select-parts c.args.database.now c.args.out.now.items _ _ (let a = c.eq.ensures in let b = c.if-eq.false in let d = c.as_slice.ensures in cc) c.in_ok-extend_from_slice.ensures.items c.in_ok-bulk.ensures
