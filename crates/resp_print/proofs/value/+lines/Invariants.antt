use Rattle.std.proofs.Common.{◌≤◌, ℕ, List, drop, map}
use Rattle.resp_value.specs.Data.{Data, data_of_list, greatest_depth, in_turn}
use Rattle.resp_value.specs.Values.{datum_of, pair_data}
use Rattle.resp_print.specs.Kept.{MembersFor}
use Rattle.resp_print.specs.Shown.{member_lines_within}
use Rattle.resp_print.proofs.Printing.{HasPrintedUpTo}
use Rattle.resp_print.proofs.value.+lines.Given as goal

abbrev pub invariant-write_members-loop-member : goal.invariant-write_members-loop-member
invariant-write_members-loop-member g l = record {
  printed : (xs : Data) (rest : List ℕ) → MembersFor l.most l.initial.lengths.now (data_of_list (map datum_of l.members)) xs rest →
      (ys : Data) × MembersFor l.most l.lengths.now (data_of_list (map datum_of (drop l.member-index l.members))) ys rest ×
      HasPrintedUpTo (member_lines_within l.most l.level xs) (member_lines_within l.most l.level ys) (g.W.Sink.written l.initial.writer)
      (g.W.Sink.written l.writer) (g.W.Sink.failures l.initial.writer) (g.W.Sink.failures l.writer);
  depth : greatest_depth (data_of_list (map datum_of (drop l.member-index l.members))) ≤ greatest_depth (data_of_list (map datum_of l.members));
}

abbrev pub invariant-write_pairs-loop-pair : goal.invariant-write_pairs-loop-pair
invariant-write_pairs-loop-pair g l = record {
  printed : (xs : Data) (rest : List ℕ) → MembersFor l.most l.initial.lengths.now (data_of_list (in_turn (map pair_data l.pairs))) xs rest →
      (ys : Data) × MembersFor l.most l.lengths.now (data_of_list (in_turn (map pair_data (drop l.pair-index l.pairs)))) ys rest ×
      HasPrintedUpTo (member_lines_within l.most l.level xs) (member_lines_within l.most l.level ys) (g.W.Sink.written l.initial.writer)
      (g.W.Sink.written l.writer) (g.W.Sink.failures l.initial.writer) (g.W.Sink.failures l.writer);
  depth : greatest_depth (data_of_list (in_turn (map pair_data (drop l.pair-index l.pairs)))) ≤ greatest_depth (data_of_list (in_turn (map pair_data l.pairs)));
}
