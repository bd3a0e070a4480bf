use Rattle.std.proofs.Common.{[], drop, map}
use Rattle.resp_value.specs.Data.{data_of_list, in_turn}
use Rattle.resp_value.specs.Values.{datum_of, pair_data}
use Rattle.resp_json.specs.Json.{members_json, pairs_json}
use Rattle.resp_print.proofs.Printing.{HasPrintedUpTo}
use Rattle.resp_json.proofs.value.+json.Given as goal

abbrev pub invariant-write_each_member-loop-member : goal.invariant-write_each_member-loop-member
invariant-write_each_member-loop-member g l = HasPrintedUpTo (members_json [] (data_of_list (map datum_of l.members)))
    (members_json l.separator (data_of_list (map datum_of (drop l.member-index l.members)))) (g.W.Sink.written l.initial.writer) (g.W.Sink.written l.writer)
    (g.W.Sink.failures l.initial.writer) (g.W.Sink.failures l.writer)

abbrev pub invariant-write_each_pair-loop-pair : goal.invariant-write_each_pair-loop-pair
invariant-write_each_pair-loop-pair g l = HasPrintedUpTo (pairs_json l.named [] (data_of_list (in_turn (map pair_data l.pairs))))
    (pairs_json l.named l.separator (data_of_list (in_turn (map pair_data (drop l.pair-index l.pairs))))) (g.W.Sink.written l.initial.writer) (g.W.Sink.written l.writer)
    (g.W.Sink.failures l.initial.writer) (g.W.Sink.failures l.writer)
