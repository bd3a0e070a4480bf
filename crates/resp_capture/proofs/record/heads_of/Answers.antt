use Rattle.std.proofs.Common.{arith, sym}
use Rattle.resp_capture.proofs.RecordLemmas.{is_record}
use Rattle.resp_capture.proofs.record.heads_of.Goals as goal

pub returns : goal.returns
returns c =
    let time = c.time_head-t.ensures in
    let packet = c.packet_head-p.ensures in
    let tcp = c.segment_head-s.ensures in
    let flags = c.flags_of-flags.ensures in
    is_record c.time_head-t.result c.packet_head-p.result c.segment_head-s.result c.args.time c.args.segment.now c.args.from c.args.to c.flags_of-flags.result
    c.requires.fits time.seconds time.nanos (omega (arith, time.captured)) (omega (arith, time.whole)) packet.version (omega (arith, packet.length)) packet.not_cut
    packet.protocol packet.from packet.to packet.checked tcp.from tcp.to tcp.sequence tcp.head tcp.flags (sym c.requires.from) (sym c.requires.to)
    flags.ends flags.begins flags.resets flags.acknowledges
