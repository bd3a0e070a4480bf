use Rattle.std.proofs.Common.{None, arith}
use Rattle.std.proofs.lemmas.Option.{slice_get_within}
use Rattle.std.proofs.lemmas.Result.{on_ok_weaker}
use Rattle.resp_board.specs.Desks.{later}
use Rattle.resp_board.proofs.Later.{after_length, later_arrives, put_within}
use Rattle.resp_board.proofs.desk.Desk.take_answer.Goals as goal

pub put-requires : goal.put-requires
put-requires c =
    let d = c.args.self.now in
    let small = slice_get_within (later d) (c.args.place) None c.requires in
    omega (arith, small, after_length d.early.items d.done d.asked d.in_range.0, d.in_range.1)

pub invariant_of-self : goal.invariant_of-self
invariant_of-self c =
    let d = c.args.self.now in
    let small = slice_get_within (later d) (c.args.place) None c.requires in
    record {
      in_range = (
        put_within c.put.result d.early.items c.put.new.early.items d.done d.asked (c.args.place) c.args.text.now d.in_range.0
            (omega (arith, small, after_length d.early.items d.done d.asked d.in_range.0)) c.put.ensures.put c.put.ensures.unchanged,
        d.in_range.1,
      );
    }

pub returns-else-place-eq0-clause-answered : goal.returns-else-place-eq0-clause-answered
returns-else-place-eq0-clause-answered c =
    let d = c.args.self.now in
    let small = slice_get_within (later d) (c.args.place) None c.requires in
    let size = after_length d.early.items d.done d.asked d.in_range.0 in
    on_ok_weaker c.put.result (λ put. λ answers given h.
    let now = later_arrives d.early.items c.put.new.early.items d.done d.asked c.args.place h.told c.args.text.now answers d.in_range.0
    (omega (arith, c.if-place-eq0.false)) (omega (arith, small, size)) put h.whole h.count h.missing in
    record { told = h.told; whole = now.whole; count = h.count; out = h.out; missing = now.missing }) c.put.ensures.put
