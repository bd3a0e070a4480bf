use Rattle.std.proofs.Common.{◌∷◌, [], subst, sym}
use Rattle.resp_frames.proofs.SameWords.{whole_text}
use Rattle.resp_frames.specs.Commands.{IsFrameOfWords}
use Rattle.resp_value.specs.Rules.{rules_under}
use Rattle.resp_value.specs.Spellings.{IsSpelling}
use Rattle.resp_value.specs.Words.{command_of}
use Rattle.resp_value.specs.declared.version.Version.TheVariants.{Two}
use Rattle.resp_proxy.proofs.Carryings.{whole-command}
use Rattle.resp_proxy.proofs.Takings.{text-for-own}
use Rattle.resp_proxy.specs.Reasons.{RefusesArray}
use Rattle.resp_proxy.specs.Taking.{Carries}
use Rattle.resp_proxy.specs.Unfinished.{terms_of}
use Rattle.resp_proxy.proofs.lines.take_text.Goals as goal

pub returns-in_default-clause-refused : goal.returns-in_default-clause-refused
returns-in_default-clause-refused c is =
    let text = c.args.text.now in
    c.in_default.ensures.none is.name is.arguments []
    (whole_text c.limits.result text is.name is.arguments
    (subst (λ limits. IsSpelling (rules_under Two limits) (command_of (is.name ∷ is.arguments)) text) (sym c.limits.ensures) is.spelled))

pub returns-then-sets_aside-clause-aside : goal.returns-then-sets_aside-clause-aside
returns-then-sets_aside-clause-aside c is own =
    let limits = c.args.intake.now.frames.limits in
    let text = c.args.text.now in
    text-for-own c.no_spelling_begins_another.ensures limits text c.in-Some.command is
    (subst (λ l. IsFrameOfWords l [] text c.in-Some.command) c.limits.ensures c.in-Some.ensures.command)
    (c.sets_aside.ensures.needed c.if-sets_aside.true)

pub returns-in-Ok-clause-carried : goal.returns-in-Ok-clause-carried
returns-in-Ok-clause-carried c is stays =
    let limits = c.args.intake.now.frames.limits in
    let text = c.args.text.now in
    let found = subst (λ limits. IsFrameOfWords limits [] text c.in-Some.command) c.limits.ensures c.in-Some.ensures.command in
    subst (λ t. Carries (terms_of c.args.intake.now) c.args.route t c.args.board.now c.carry_out.new.board)
    (whole-command c.no_spelling_begins_another.ensures limits text c.in-Some.command is found)
    (c.in-Ok.ensures.carried [] text found (c.sets_aside.ensures.stays found.words c.if-sets_aside.false))

pub returns-clause-refused : goal.returns-clause-refused
returns-clause-refused c is =
    let limits = c.args.intake.now.frames.limits in
    let text = c.args.text.now in
    let found = subst (λ limits. IsFrameOfWords limits [] text c.in-Some.command) c.limits.ensures c.in-Some.ensures.command in
    subst (λ t. RefusesArray (terms_of c.args.intake.now) t c.in-Err.error)
    (whole-command c.no_spelling_begins_another.ensures limits text c.in-Some.command is found)
    (c.in-Err.ensures.refused found.words (c.sets_aside.ensures.stays found.words c.if-sets_aside.false))
