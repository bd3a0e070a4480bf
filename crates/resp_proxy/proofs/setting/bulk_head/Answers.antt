use Rattle.std.proofs.Common.{◌∙◌}
use Rattle.resp_proxy.proofs.Openings.{head-shown}
use Rattle.resp_proxy.proofs.setting.bulk_head.Goals as goal

pub returns : goal.returns
returns c = c.in_ok-head.ensures.ok ∙ head-shown c.args.length c.ranges.length.fits
