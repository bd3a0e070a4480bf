use Rattle.std.proofs.Common.{rules, ◌∙◌, sym}
use Rattle.resp_capture.proofs.FrameLemmas.{always, failed, first_block, found_none, if_none, no_block, no_record, unknown}
use Rattle.resp_capture.proofs.capture.Capture.frame.Goals as goal
use Rattle.resp_capture.proofs.capture.Capture.frame.Goals.{in-Unknown, in-Pcap, in-Pcap-2, in-Pcapng}

pub returns-in-Ok-clause-none : goal.returns-in-Ok-clause-none
returns-in-Ok-clause-none c =
    let self = c.args.self.now in
    elim c.match-self.branch [
      | in-Unknown w ↦ always c.in-Ok.frame (unknown self w.in-Unknown.is)
      | in-Pcap w ↦ always c.in-Ok.frame (first_block self w.in-Pcap.field-0 w.in-Pcap.is w.if-self-eq0.true)
      | in-Pcap-2 w ↦ if_none c.in-Ok.frame
          (no_record self w.in-Pcap-2.order w.as_slice.result.now c.as_slice-block.result.now (search rules) (search rules) (search rules))
          (found_none _ w.record_of-frame.result c.in-Ok.frame (sym w.frame-is ∙ c.in-Ok.is) w.record_of-frame.ensures.none)
      | in-Pcapng w ↦ if_none c.in-Ok.frame
          (no_block self w.in-Pcapng.order w.as_slice-in-Pcapng.result.now c.as_slice-block.result.now (search rules) (search rules) (search rules))
          (found_none _ w.frame_of-frame.result c.in-Ok.frame (sym w.frame-is ∙ c.in-Ok.is) w.frame_of-frame.ensures.none)
    ]

pub returns-in-Err-clause-fault : goal.returns-in-Err-clause-fault
returns-in-Err-clause-fault c =
    let self = c.args.self.now in
    elim c.match-self.branch [
      | in-Unknown w ↦ unknown self w.in-Unknown.is
      | in-Pcap w ↦ first_block self w.in-Pcap.field-0 w.in-Pcap.is w.if-self-eq0.true
      | in-Pcap-2 w ↦ no_record self w.in-Pcap-2.order w.as_slice.result.now c.as_slice-block.result.now (search rules) (search rules) (search rules)
          (failed _ w.record_of-frame.result c.in-Err.reason (sym w.frame-is ∙ c.in-Err.is) w.record_of-frame.ensures.fault)
      | in-Pcapng w ↦ no_block self w.in-Pcapng.order w.as_slice-in-Pcapng.result.now c.as_slice-block.result.now (search rules) (search rules) (search rules)
          (failed _ w.frame_of-frame.result c.in-Err.reason (sym w.frame-is ∙ c.in-Err.is) w.frame_of-frame.ensures.fault)
    ]
