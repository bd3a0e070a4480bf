use Rattle.std.proofs.Common.{◌≡◌, ◌+◌, ◌-◌, ◌++◌, length, take, drop, refl, sym, ap, subst, ◌∙◌, arith, length-drop, take_all}
use Rattle.std.proofs.lemmas.List.{take_rest}
use Rattle.resp_value.specs.Bounds.{Bounds}
use Rattle.resp_session.specs.Answers.{server_rules}
use Rattle.resp_session.specs.Fitting.{FitsStore}
use Rattle.resp_server.specs.Answering.{AnswersBytes, IsAnswered, IsReading}
use Rattle.resp_server.specs.Reading.{ReadsBy}
use Rattle.resp_server.proofs.AnsweredPieces.{none_answered, some_used, turn_answered, closed_answered, cut_short}
use Rattle.resp_server.proofs.answer.answer.Goals as goal

pub loop-used-init : goal.loop-used-init
loop-used-init g c = record {
  answered = λ front taken. none_answered taken (c.taken-taken.ensures.no_value front taken)
      (c.taken-taken.ensures.viable front taken) c.requires.is_open;
  same_limits = refl;
  same_id = refl;
  ready = c.requires;
  within = omega arith;
  few = omega arith;
  bounded = λ before. before;
  first = λ none. omega arith;
}

pub take_turn-requires : goal.take_turn-requires
take_turn-requires g c =
    let i = c.loop-used.invariant in
    subst (λ limits. IsReading limits c.loop-used.database.store c.loop-used.session) (sym i.same_limits) i.ready

pub returns-in-Err-clause-stored : goal.returns-in-Err-clause-stored
returns-in-Err-clause-stored g c =
    let i = c.loop-used.invariant in
    subst (λ limits. FitsStore limits c.take_turn.new.database.store) i.same_limits c.take_turn.ensures.within.stored

pub returns-then-session-clause-stored : goal.returns-then-session-clause-stored
returns-then-session-clause-stored g c =
    let i = c.loop-used.invariant in
    subst (λ limits. FitsStore limits c.take_turn.new.database.store) i.same_limits c.take_turn.ensures.within.stored

pub returns-in-Err-clause-cut_short : goal.returns-in-Err-clause-cut_short
returns-in-Err-clause-cut_short g c front taken =
    let i = c.loop-used.invariant in
    cut_short c.take_turn.new.session c.loop-used.used i.ready.is_open (i.answered front taken) c.in-Err.ensures.unchanged refl refl refl
    (omega arith)

pub returns-then-session-clause-answered : goal.returns-then-session-clause-answered
returns-then-session-clause-answered g c front taken =
    let i = c.loop-used.invariant in
    let before = i.answered front taken in
    let turn = subst (λ limits. AnswersBytes limits c.loop-used.database.store c.take_turn.new.database.store c.loop-used.session c.take_turn.new.session
    before.rest (take (length c.args.piece.now - c.loop-used.used) (drop c.loop-used.used c.args.piece.now)) c.in-Ok.turn.used c.in-Ok.turn.commands)
    i.same_limits (c.in-Ok.ensures.answered before.rest (before.taking i.ready.is_open)) in
    let all = length c.args.piece.now in
    subst (λ t. IsAnswered c.args.database.now.limits c.args.database.now.store c.take_turn.new.database.store c.args.session.now c.take_turn.new.session
    (front ++ t) (c.loop-used.commands + c.in-Ok.turn.commands)) (sym (take_all all c.args.piece.now (omega arith)))
    (closed_answered c.answers_end.ensures front c.args.piece.now (c.loop-used.used + c.in-Ok.turn.used) c.if-session.true
    (turn_answered c.answers_go_on.ensures front c.args.piece.now c.loop-used.used c.loop-used.commands i.same_id i.ready.is_open before turn))

pub loop-used-preserved : goal.loop-used-preserved
loop-used-preserved g c =
    let i = c.loop-used.invariant in
    let (front0, taken0) = i.ready.taking in
    let one = c.in-Ok.ensures.answered front0 taken0 in
    let within = one.within in
    let size : length (take (length c.args.piece.now - c.loop-used.used) (drop c.loop-used.used c.args.piece.now)) ≡
    length c.args.piece.now - c.loop-used.used = ap length (take_rest c.args.piece.now c.loop-used.used) ∙ length-drop c.loop-used.used c.args.piece.now in
    let before = i.within in
    let few = i.few in
    let most = c.in-Ok.ensures.at_most_one in
    let test = c.loop-used-test.true in
    let some = one.onward c.if-session.false (omega (arith, size, test)) in
    let short = c.take_turn.ensures.within.short in
    let room = c.if-len-held.true in
    let same = ap (λ (l : Bounds). l.total) i.same_limits in
    record {
      answered = λ front taken.
          let a = i.answered front taken in
          let turn = subst (λ limits. AnswersBytes limits c.loop-used.database.store c.take_turn.new.database.store c.loop-used.session
          c.take_turn.new.session a.rest (take (length c.args.piece.now - c.loop-used.used) (drop c.loop-used.used c.args.piece.now)) c.in-Ok.turn.used
          c.in-Ok.turn.commands) i.same_limits (c.in-Ok.ensures.answered a.rest (a.taking i.ready.is_open)) in
          turn_answered c.answers_go_on.ensures front c.args.piece.now c.loop-used.used c.loop-used.commands i.same_id
          i.ready.is_open a turn;
      same_limits = c.in-Ok.ensures.within.same_limits ∙ i.same_limits;
      same_id = c.in-Ok.ensures.same_id ∙ i.same_id;
      ready = record {
        is_open = c.if-session.false;
        stored = subst (λ limits. FitsStore limits c.take_turn.new.database.store) i.same_limits c.in-Ok.ensures.within.stored;
        reading = subst (λ limits. ReadsBy (server_rules limits) c.take_turn.new.session.decoder) i.same_limits c.in-Ok.ensures.reading;
        taking = (one.rest, one.taking c.if-session.false);
      };
      within = omega (arith, within, size, before);
      few = omega (arith, few, most, some);
      bounded = λ start. omega (arith, room, short, same);
      first = λ none. absurd (omega (arith, some, none));
    }

pub returns-else-len-held-clause-within : goal.returns-else-len-held-clause-within
returns-else-len-held-clause-within g c =
    let i = c.loop-used.invariant in
    let within = i.within in
    let over = c.if-len-held.false in
    record {
      within = within;
      stops = λ left. (i.ready.is_open, omega (arith, over), omega arith);
      onward = λ few some. some_used c.loop-used.used (length c.args.session.now.out.items) (length c.loop-used.session.out.items) c.args.held i.first
          (omega (arith, over)) few;
    }
