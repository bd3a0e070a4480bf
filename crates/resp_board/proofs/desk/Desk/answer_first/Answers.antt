use Rattle.std.proofs.Common.{◌≡◌, ◌+◌, ◌++◌, ◌∷◌, length, drop, map, Some, ap, ◌∙◌, arith, subst, sym}
use Rattle.std.proofs.lemmas.List.{length-drop}
use Rattle.resp_board.specs.Answers.{BeginsMissing, answers_of, front_answers}
use Rattle.resp_board.proofs.Later.{after, after_length, first_arrives, first_given, ready_fits}
use Rattle.resp_board.proofs.desk.Desk.answer_first.Goals as goal

pub overflow_add-ready : goal.overflow_add-ready
overflow_add-ready c =
    let d = c.args.self.now in
    let fits = ready_fits d.early.items d.done d.asked d.in_range.0 c.requires in
    omega (arith, c.in-Ok.ensures.count, fits.0, d.in_range.1)

pub overflow_add-self : goal.overflow_add-self
overflow_add-self c =
    let d = c.args.self.now in
    let fits = ready_fits d.early.items d.done d.asked d.in_range.0 c.requires in
    omega (arith, c.in-Ok.ensures.count, fits.0, d.in_range.1)

pub overflow_add-self-2 : goal.overflow_add-self-2
overflow_add-self-2 c =
    let d = c.args.self.now in
    let fits = ready_fits d.early.items d.done d.asked d.in_range.0 c.requires in
    omega (arith, c.in-Ok.ensures.count, fits.0, d.in_range.1)

pub invariant_of-self-2 : goal.invariant_of-self-2
invariant_of-self-2 c =
    let d = c.args.self.now in
    let fits = ready_fits d.early.items d.done d.asked d.in_range.0 c.requires in
    record {
      in_range = (
        omega (
          arith,
          d.in_range.0,
          c.in-Ok.ensures.count,
          ap length c.drop_front.ensures,
          length-drop (c.in-Ok.ready + 1) d.early.items,
          fits.0,
        ),
        d.in_range.1,
      );
    }

pub returns-clause-answered : goal.returns-clause-answered
returns-clause-answered c answers given h =
    let d = c.args.self.now in
    let text = c.args.text.now in
    let more = front_answers (drop 1 (answers_of d.early.items)) in
    let size = after_length d.early.items d.done d.asked d.in_range.0 in
    let first = first_arrives d.early.items d.done d.asked h.told text answers (omega (arith, size, c.requires)) d.in_range.0 h.whole h.count h.missing in
    let same : after c.drop_front.new.early.items (d.done + (c.in-Ok.ready + 1)) d.asked ≡ after (drop (length more + 1) d.early.items) (d.done + (length more + 1)) d.asked =
    ap (λ xs. after xs (d.done + (c.in-Ok.ready + 1)) d.asked) c.drop_front.ensures ∙
    ap (λ n. after (drop (n + 1) d.early.items) (d.done + (n + 1)) d.asked) c.in-Ok.ensures.count in
    record {
      told = h.told ++ text ∷ more;
      whole = first.whole ∙ ap (λ xs. map Some (h.told ++ text ∷ more) ++ xs) (sym same);
      count = ap (λ n. d.done + (n + 1)) c.in-Ok.ensures.count ∙ first.count;
      out = first_given given d.out c.append.new.self c.append_ready.new.out text h.told more h.out c.in_ok-append.ensures.added c.in-Ok.ensures.added;
      missing = subst BeginsMissing (sym same) first.missing;
    }
