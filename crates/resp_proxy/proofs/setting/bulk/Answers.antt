use Rattle.resp_proxy.proofs.Openings.{bulk-appended}
use Rattle.resp_proxy.proofs.setting.bulk.Goals as goal

pub returns : goal.returns
returns c =
    bulk-appended c.args.out.now.items _ _ c.args.word.now _ _ _ c.in_ok-head.ensures c.as_bytes.ensures.value
    c.in_ok-extend_from_slice.ensures.items c.in_ok-extend_from_slice-2.ensures.items c.in_ok-extend_from_slice-3.ensures.items
