use Rattle.resp_proxy.specs.Leaving.{IsAside}
use Rattle.std.proofs.Common.{◌≡◌, ◌∙◌, true, arith, subst, sym, ◌++◌, take, option_map}
use Rattle.resp_proxy.specs.declared.commands.TakenCommands.{TakenCommands}
use Rattle.resp_proxy.specs.Taking.{TakesSome}
use Rattle.resp_proxy.specs.Unfinished.{WhereUnfinished, terms_of}
use Rattle.resp_proxy.proofs.Takings.{all-taken, aside-taken, lost-taken, more-taken, never-same, one-aside}
use Rattle.resp_proxy.proofs.commands.take_commands.Goals as goal

pub returns-in-Ok-Whole-eq0-clause-taken : goal.returns-in-Ok-Whole-eq0-clause-taken
returns-in-Ok-Whole-eq0-clause-taken c =
    let l = c.loop-used in
    subst (λ (r : TakenCommands). WhereUnfinished c.args.intake.now c.args.unfinished.now (λ front. TakesSome (terms_of c.args.intake.now) c.args.route
    (front ++ take r.used c.args.piece.now) c.take_one.new.unfinished (option_map (λ text. text.items) r.aside) r.end c.args.board.now c.take_one.new.board))
    (sym c.ended.ensures)
    (never-same c.args.intake.now l.intake c.args.unfinished.now l.unfinished c.take_one.new.unfinished c.args.board.now l.board c.take_one.new.board c.args.route
    c.args.piece.now l.used c.in-Ok-Whole-eq0.field-0 l.invariant (grind arith) c.in-Ok-Whole-eq0.ensures.progress)

pub loop-used-preserved : goal.loop-used-preserved
loop-used-preserved c =
    let l = c.loop-used in
    more-taken c.args.intake.now l.intake c.take_one.new.intake c.args.unfinished.now l.unfinished c.take_one.new.unfinished c.args.board.now l.board c.take_one.new.board
    c.args.route c.args.piece.now l.used c.in-Ok-Whole.count c.in-Ok-Whole.field-0 l.invariant (grind arith) (grind arith) c.take_one.ensures.same_clients
    c.take_one.ensures.ready c.take_one.ensures.same_terms c.take_one.ensures.same_own c.in-Ok-Whole.ensures.taken

pub returns-in-Ok-Partial-clause-taken : goal.returns-in-Ok-Partial-clause-taken
returns-in-Ok-Partial-clause-taken c =
    let l = c.loop-used in
    subst (λ (r : TakenCommands). WhereUnfinished c.args.intake.now c.args.unfinished.now (λ front. TakesSome (terms_of c.args.intake.now) c.args.route
    (front ++ take r.used c.args.piece.now) c.take_one.new.unfinished (option_map (λ text. text.items) r.aside) r.end c.args.board.now c.take_one.new.board))
    (sym c.ended-in-Ok-Partial.ensures)
    (all-taken c.args.intake.now l.intake c.args.unfinished.now l.unfinished c.take_one.new.unfinished c.args.board.now l.board c.take_one.new.board c.args.route
    c.args.piece.now l.used c.in-Ok-Partial.field-0 l.invariant c.in-Ok-Partial.field-0-is c.in-Ok-Partial.ensures.taken)

pub returns-in-Ok-Aside-clause-taken : goal.returns-in-Ok-Aside-clause-taken
returns-in-Ok-Aside-clause-taken c =
    let l = c.loop-used in
    aside-taken c.args.intake.now l.intake c.args.unfinished.now l.unfinished c.take_one.new.unfinished c.args.board.now l.board c.take_one.new.board c.args.route
    c.args.piece.now c.in-Ok-Aside.text.items l.used c.in-Ok-Aside.count c.in-Ok-Aside.field-0 l.invariant
    (λ terms front bytes one. subst (λ p. one-aside terms c.args.route front bytes c.take_one.new.unfinished p l.board c.take_one.new.board) c.in-Ok-Aside.field-0-is one)
    c.in-Ok-Aside.ensures.taken

pub returns-in-Err-clause-taken : goal.returns-in-Err-clause-taken
returns-in-Err-clause-taken c =
    let l = c.loop-used in
    subst (λ (r : TakenCommands). WhereUnfinished c.args.intake.now c.args.unfinished.now (λ front. TakesSome (terms_of c.args.intake.now) c.args.route
    (front ++ take r.used c.args.piece.now) c.take_one.new.unfinished (option_map (λ text. text.items) r.aside) r.end c.args.board.now c.take_one.new.board))
    (sym c.ended-in-Err.ensures)
    (lost-taken c.args.intake.now l.intake c.args.unfinished.now l.unfinished c.take_one.new.unfinished c.args.board.now l.board c.take_one.new.board c.args.route
    c.args.piece.now l.used c.in-Err.error l.invariant c.in-Err.ensures.unchanged c.in-Err.ensures.refused)

pub returns-in-Ok-Aside-clause-admitted : goal.returns-in-Ok-Aside-clause-admitted
returns-in-Ok-Aside-clause-admitted c some =
    sym c.loop-used.invariant.same_own ∙ subst (λ p. IsAside p → c.loop-used.intake.admits_own ≡ true) c.in-Ok-Aside.field-0-is c.in-Ok-Aside.ensures.admitted tt
